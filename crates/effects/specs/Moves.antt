-- What the code's moves, effects and refusals stand for: those of the rules, with the few messages as lists.
use Rattle.std.specs.Prelude.{Ok, Err, Result}
use Rattle.refusals.specs.declared.Ground.{Ground}
use Rattle.queues.specs.Few.{few_items}
use Rattle.calls.specs.Effects as rules
use Rattle.effects.specs.declared.effect.Effect.{Effect}
use Rattle.effects.specs.declared.effect.ExchangeMove.{ExchangeMove}
use Rattle.effects.specs.declared.effect.SipMove.{SipMove}

abbrev pub exchange_move_of : ExchangeMove → rules.ExchangeMove
exchange_move_of a =
    record { side = a.side; reference = a.reference; channel = a.channel; seized = a.seized; released = a.released; timer = a.timer; sent = few_items a.sent }

abbrev pub sip_move_of : SipMove → rules.SipMove
sip_move_of b = record { side = b.side; cancelling = b.cancelling; sent = few_items b.sent }

abbrev pub effect_of : Effect → rules.Effect
effect_of e =
    record { after = e.after; seized = e.report.seized; released = e.report.released; timer = e.report.timer; cancelling = e.report.cancelling; exchange = few_items e.exchange; sip = few_items e.sip; numbered = e.numbered }

-- an effect, or the ground of a refusal
abbrev pub decision_of : Result Effect Ground → Result rules.Effect Ground
decision_of (Ok e) = Ok (effect_of e)
decision_of (Err why) = Err why
