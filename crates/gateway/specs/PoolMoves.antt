-- How a step moves the pool: by the moves of its own kind, and by those alone that its report names.
use Rattle.std.specs.Prelude.{ℕ, None, Ok, Err, Option, Result, if◌then◌else◌}
use Rattle.gateway.specs.Records.{Channel, Message, Answer}
use Rattle.messages.specs.declared.record.Misread.{Misread}
use Rattle.messages.specs.Elements.{DigitsPart}
use Rattle.messages.specs.Reading.{decoded}
use Rattle.messages.specs.Types.{is_setup}
use Rattle.pools.specs.declared.pool.Pool.{Ghosts}
use Rattle.calls.specs.Rules.{Event, Exchange}
use Rattle.call_table.specs.Moves.{Took, GaveBack}
use Rattle.gateway.specs.declared.gateway.Gateway.{Gateway}

-- the wish for a channel that comes with an event: that of a SETUP
abbrev pub wish_in : Message DigitsPart → Option Channel
wish_in m = if is_setup m.kind then m.elements.channel else None

abbrev pub wish_read : Result (Message DigitsPart) Misread → Option Channel
wish_read (Ok m) = wish_in m
wish_read (Err misread) = None

abbrev pub wish_of : Event → Option Channel
wish_of (Exchange octets) = wish_read (decoded octets)
wish_of _ = None

-- the channels that an answer names
abbrev pub seized_by : Answer → Option ℕ
seized_by (Answer.Step (Ok report)) = report.seized
seized_by _ = None

abbrev pub released_by : Answer → Option ℕ
released_by (Answer.Step (Ok report)) = report.released
released_by _ = None

-- first the channel that the answer names seized is taken, the wished one by its number and any other by the pool's own choice;
-- then the one that it names released is given back; the very same pool where it names none
pub record PoolMoved {P : Type 0} (kind : Ghosts P) (wish : Option Channel) (answer : Answer) (before after : P) : Type 0 where
  pub between : P
  pub took : Took kind.Seizes kind.SeizesAny wish before (seized_by answer) between
  pub gave_back : GaveBack kind.state kind.Releases between (released_by answer) after

-- a gateway's pool, by an event and its answer
abbrev pub MovesPool : {P : Type 0} (kind : Ghosts P) {G : Ghosts P} → Gateway P G → Event → Answer → Gateway P G → Type 0
MovesPool kind before event answer after = PoolMoved kind (wish_of event) answer before.trunk.pool after.trunk.pool
