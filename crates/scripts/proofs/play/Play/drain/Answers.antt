use Rattle.std.proofs.Common.{◌≡◌, ◌-◌, List, map, length, subst, ◌∙◌, arith}
use Rattle.std.proofs.lemmas.Result.{IfOk-weaker}
use Rattle.queues.specs.Waiting.{waiting, free}
use Rattle.calls.specs.Rules.{Stepping}
use Rattle.events.specs.declared.event.Event.{Event}
use Rattle.events.specs.Events.{event_of}
use Rattle.gateway.specs.Stands.{state_of}
use Rattle.scripts.proofs.Taking.{nothing_waits}
use Rattle.scripts.proofs.play.Play.drain.Goals as goal

pub returns-clause-nothing_waits : goal.returns-clause-nothing_waits
returns-clause-nothing_waits g c =
    let me = c.args.self in
    let e : (me.exchange_places - free me.queues.exchange) ≡ length (waiting me.queues.exchange) = omega (arith, me.all_the_places.0, me.queues.exchange.few, me.queues.exchange.counted) in
    let s : (me.sip_places - free me.queues.sip) ≡ length (waiting me.queues.sip) = omega (arith, me.all_the_places.1, me.queues.sip.few, me.queues.sip.counted) in
    let told = c.as_slice.ensures.value ∙ c.in_ok-events.ensures.as_many_as_wait in
    IfOk-weaker c.run.result _ _
    (λ v p. nothing_waits _ _ (state_of g.P.Pool.state me.gateway me.queues) (state_of g.P.Pool.state v.0.gateway v.0.queues) v.1.items e s (subst (λ (events : List Event). Stepping (state_of g.P.Pool.state me.gateway me.queues) (map event_of events) v.1.items (state_of g.P.Pool.state v.0.gateway v.0.queues)) told p))
    c.run.ensures.steps_by_the_rules
