-- What a decision of the code stands for among the outcomes of the rules, and when another channel has to be seized.
use Rattle.std.specs.Prelude.{Bool, true, false, ◌&&◌, Ok, Err, Result}
use Rattle.refusals.specs.declared.Ground.{Ground}
use Rattle.messages.specs.declared.kind.MessageType.{MessageType}
use Rattle.messages.specs.declared.record.Message.{Message}
use Rattle.messages.specs.Elements.{DigitsPart}
use Rattle.queues.specs.Few.{few_items}
use Rattle.calls.specs.declared.record.Call.{Call}
use Rattle.calls.specs.Effects.{asks_for_another}
use Rattle.calls.specs.Rules.{refuse}
use Rattle.calls.specs.Rules as rules
use Rattle.effects.specs.Moves.{effect_of}
use Rattle.decisions.specs.declared.outcome.Outcome.{Outcome}

abbrev pub outcome_of : Result Outcome Ground → rules.Outcome
outcome_of (Ok (Outcome.Reply ms ss)) = rules.Reply (few_items ms) (few_items ss)
outcome_of (Ok (Outcome.Change i e)) = rules.Change i (effect_of e)
outcome_of (Err why) = refuse why

abbrev pub is_release_complete : MessageType → Bool
is_release_complete MessageType.ReleaseComplete = true
is_release_complete _ = false

-- the exchange has no use for the channel of the gateway's SETUP: another is to be seized
abbrev pub wants_another : Message DigitsPart → Call → Bool
wants_another m k = is_release_complete m.kind && asks_for_another k.exchange m.elements.cause
