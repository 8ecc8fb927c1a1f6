use Rattle.std.proofs.Common.{◌≡◌, List, [], ◌++◌, refl, ap, sym, ◌∙◌, subst, append-nil}
use Rattle.pools.specs.States.{States}
use Rattle.calls.specs.Run.{Happening, Opening, opened}
use Rattle.calls.specs.Laws.{Laws}
use Rattle.calls.proofs.Runs.{run_laws}
use Rattle.gateway.specs.Stands.{state_of}
use Rattle.runs.specs.Plays.{Moment}
use Rattle.runs.proofs.play.open_and_run.Goals as goal

pub returns : goal.returns
returns g c =
    let start = state_of g.P.Pool.state c.in_ok-gateway.gateway c.args.queues.now in
    let end = state_of g.P.Pool.state c.run.new.gateway c.run.new.queues in
    let begun = c.in_ok-gateway.ensures in
    let empty = c.in_ok-need_empty.ensures.in_use_exactly_if_something_waits in
    let o : Opening start = record { calls = begun.opens_without_calls; exchange = empty.0; sip = empty.1 } in
    let x = c.in_ok-answers.ensures.every_history_goes_on_and_the_laws_hold start [] opened in
    let over : start.pool ≡ g.P.Pool.state c.args.pool = ap g.P.Pool.state begun.over_that_pool in
    let laws : Laws start.pool x.more end = subst (λ (past : List Happening). Laws start.pool past end) (append-nil x.more) (run_laws start o _ end x.run) in
    let moment : (later earlier : List Happening) → later ++ earlier ≡ x.more → Moment (g.P.Pool.state c.args.pool) start later earlier end = λ later earlier cut. (
    let at = x.each later earlier (cut ∙ sym (append-nil x.more)) in
    record { state = at.state; came = at.came; rest = at.rest; laws = subst (λ (p : States). Laws p earlier at.state) over (at.laws o) }) in
    let w = begun.with_the_settings in
    record {
      laws_from_the_opening_on = record {
        start = start;
        begun = record { opening = o; over_the_pool = over; full_length = w.1; first_number = w.0; exchange_places_lent = refl; sip_places_lent = refl };
        past = x.more;
        told = x.told;
        end = end;
        calls = refl;
        channels = refl;
        next_number = refl;
        full_length_kept = refl;
        steps = c.in_ok-answers.ensures.steps_by_the_rules;
        moments = moment;
        laws = subst (λ (p : States). Laws p x.more end) over laws;
        exchange_waits = refl;
        sip_waits = refl;
        places_stay = (refl, refl);
      };
      not_played_for_a_setting_or_queues_or_memory = (begun.granted_exactly_in_range, empty);
      what_is_not_played_leaves_the_queues = tt;
    }
