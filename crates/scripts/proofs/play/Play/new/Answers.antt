use Rattle.std.proofs.Common.{arith}
use Rattle.std.proofs.lemmas.Grind.{common_steps}
use Rattle.gateway.specs.Stands.{state_of}
use Rattle.scripts.proofs.Keeping.{kept_at_the_opening}
use Rattle.scripts.proofs.play.Play.new.Goals as goal

pub invariant_of-result : goal.invariant_of-result
invariant_of-result g c =
    let begun = c.requires.at_its_opening in
    let empty = c.requires.nothing_waits in
    let queues = c.args.queues in
    record { all_the_places = (grind (arith, common_steps), grind (arith, common_steps)); under_the_law = ∣ kept_at_the_opening (state_of g.P.Pool.state c.args.gateway queues) _ (begun.opening queues empty.0 empty.1) c.requires.all_channels_are_idle (begun.history queues) c.new.ensures.the_ledger_of_no_history ∣₁ }
