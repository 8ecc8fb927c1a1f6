-- A run of one step.
use Rattle.std.proofs.Common.{[], ◌∷◌}
use Rattle.calls.specs.Rules.{no_step, next_step}
use Rattle.calls.proofs.Histories.{runs_compose}
use Rattle.events.specs.Events.{event_of}
use Rattle.runs.proofs.drive.step.Goals as goal

pub returns-clause-every_history_goes_on_and_the_laws_hold : goal.returns-clause-every_history_goes_on_and_the_laws_hold
returns-clause-every_history_goes_on_and_the_laws_hold g c =
    let event = event_of c.args.event.now in
    let answer = c.step_of.result in
    runs_compose _ (event ∷ []) (answer ∷ []) _ (next_step event answer no_step c.step_of.ensures.steps_by_the_rules)
