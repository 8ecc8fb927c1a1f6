-- What a ground, or a message that could not be read, is as the refusal of a step.
use Rattle.std.specs.Prelude.{Some, None}
use Rattle.refusals.specs.declared.Ground.{Ground}
use Rattle.messages.specs.declared.record.Misread.{Misread}
use Rattle.calls.specs.declared.answers.Refused.{Refused}

-- a refusal that has no place in the octets
abbrev pub placeless : (ground : Ground) → Refused
placeless ground = record { ground = ground; place = None }

-- a refusal at the octet where the message could not be read
abbrev pub placed : Misread → Refused
placed x = record { ground = x.ground; place = Some x.place }
