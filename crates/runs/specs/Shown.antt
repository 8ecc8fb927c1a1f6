-- What is displayed of a play that did not come about.
use Rattle.std.specs.Prelude.{ℕ, List, None, codes}
use Rattle.refusals.specs.Grounds.{refusal_text}
use Rattle.runs.specs.declared.play.NotPlayed.{NotPlayed}
use Rattle.runs.specs.declared.play.NotPlayed.TheVariants.{Refused, QueuesInUse, NoMemory}

abbrev pub not_played_text : NotPlayed → List ℕ
not_played_text (Refused why) = refusal_text why None
not_played_text QueuesInUse = codes "messages wait in the queues already"
not_played_text NoMemory = codes "no memory for the answers"
