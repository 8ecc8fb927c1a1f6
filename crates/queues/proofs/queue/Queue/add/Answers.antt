-- The message was put into the place behind the used ones, so one more waits.
use Rattle.std.proofs.Common.{arith}
use Rattle.queues.proofs.Rings.{one_longer}
use Rattle.queues.proofs.queue.Queue.add.Goals as goal

pub invariant_of-self-clause-counted : goal.invariant_of-self-clause-counted
invariant_of-self-clause-counted g c =
    let q = c.args.self.now in
    one_longer q.lane.places.now c.put_at.new.self.places.now q.first q.len _ _ _ (omega (arith, q.inside)) (omega (arith, q.counted)) q.counted c.count.ensures.number_of_places c.place_behind-at.ensures.next_free_place c.put_at.ensures.after
