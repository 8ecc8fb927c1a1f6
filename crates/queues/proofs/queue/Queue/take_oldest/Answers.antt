-- The first used place was emptied, so one message fewer waits.
use Rattle.std.proofs.Common.{arith}
use Rattle.queues.proofs.Rings.{one_shorter}
use Rattle.queues.proofs.queue.Queue.take_oldest.Goals as goal

pub invariant_of-self-clause-counted : goal.invariant_of-self-clause-counted
invariant_of-self-clause-counted g c =
    let q = c.args.self.now in
    one_shorter q.lane.places.now c.take_at-message.new.self.places.now q.first q.len _ _ _ (omega (arith, q.inside, q.few, q.counted)) (omega (arith, q.counted)) q.few q.counted c.take_at-message.ensures.value c.take_at-message.ensures.after c.count.ensures.number_of_places c.place_after-self.ensures.next_place
