use Rattle.calls.proofs.Examples.{collisions}
use Rattle.calls.proofs.laws.collisions_stand.Goals as goal

pub returns : goal.returns
returns c = record { events_and_answers = collisions }
