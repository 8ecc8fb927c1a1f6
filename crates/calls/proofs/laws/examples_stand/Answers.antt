use Rattle.calls.proofs.Examples.{examples}
use Rattle.calls.proofs.laws.examples_stand.Goals as goal

pub returns : goal.returns
returns c = record { octets_causes_and_collisions = examples }
