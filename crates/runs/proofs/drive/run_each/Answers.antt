use Rattle.std.proofs.Common.{List, [], map, vec_items, sym, subst, arith}
use Rattle.std.proofs.lemmas.List.{take_all}
use Rattle.calls.specs.declared.answers.Answer.{Answer}
use Rattle.calls.specs.Rules.{Stepping, no_step}
use Rattle.calls.proofs.Histories.{runs_compose}
use Rattle.events.specs.declared.event.Event.{Event}
use Rattle.events.specs.Events.{event_of}
use Rattle.gateway.specs.Stands.{state_of}
use Rattle.runs.proofs.Driven.{driven_more}
use Rattle.runs.proofs.drive.run_each.Goals as goal

pub loop-event-init : goal.loop-event-init
loop-event-init g c =
    let st = state_of g.P.Pool.state c.args.gateway.now c.args.queues.now in
    (omega arith, subst (λ (ans : List Answer). Stepping st [] ans st) (sym c.requires.none_noted_yet) no_step)

pub loop-event-preserved : goal.loop-event-preserved
loop-event-preserved g c =
    let st = state_of g.P.Pool.state c.args.gateway.now c.args.queues.now in
    (omega arith, driven_more st _ _ c.args.events.now c.loop-event.event-index c.event-item.result (vec_items c.loop-event.answers) _ c.step-answer.result c.loop-event-test.true c.event-item.is c.push_reserved.ensures.items c.loop-event.invariant.1 c.step-answer.ensures.steps_by_the_rules)

pub returns : goal.returns
returns g c =
    let entry = state_of g.P.Pool.state c.args.gateway.now c.args.queues.now in
    let exit = state_of g.P.Pool.state c.loop-event.gateway c.loop-event.queues in
    let steps = subst (λ (evs : List Event). Stepping entry (map event_of evs) (vec_items c.loop-event.answers) exit) (take_all c.loop-event.event-index c.args.events.now c.loop-event-test.false) c.loop-event.invariant.1 in
    record { every_history_goes_on_and_the_laws_hold = runs_compose entry (map event_of c.args.events.now) (vec_items c.loop-event.answers) exit steps; steps_by_the_rules = steps }
