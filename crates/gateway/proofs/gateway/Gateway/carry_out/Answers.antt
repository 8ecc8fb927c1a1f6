-- With room the outcome is what was decided, without room the refusal for it, whatever the event.
use Rattle.std.proofs.Common.{Err, sym, refl, ap, ◌∙◌}
use Rattle.std.proofs.lemmas.Bool.{cond-true, cond-false}
use Rattle.gateway.proofs.Cited.{unmoved_refused, Answer, Ground, Refused, outcome, refuse, is_roomy, bounded, plainly, outcome_of, state_of, passed_on}
use Rattle.gateway.proofs.gateway.Gateway.carry_out.Goals as goal

pub returns-clause-a_step_of_each_event_that_comes_to_it : goal.returns-clause-a_step_of_each_event_that_comes_to_it
returns-clause-a_step_of_each_event_that_comes_to_it g c =
    let st = state_of g.P.Pool.state c.args.self.now c.args.queues.now in
    let b = bounded g.P.Pool.state g.P.Pool.LARGEST g.met.P.Pool.known_within_largest g.met.P.Pool.largest_within_127 c.args.self.now.trunk.pool in
    λ ev o p e.
    plainly st (λ ch. outcome st ch ev) b (outcome_of c.args.decision) (λ ch. e ch ∙ cond-true (is_roomy st) o (refuse Ground.QueueFull) c.in_ok-need_room.ensures.two_places_in_either ∙ sym p)
    c.settle.ensures.answer_of_the_outcome c.settle.ensures.outcome_settled

pub returns-in_err-need_room-clause-a_step_of_each_event_that_comes_to_it : goal.returns-in_err-need_room-clause-a_step_of_each_event_that_comes_to_it
returns-in_err-need_room-clause-a_step_of_each_event_that_comes_to_it g c =
    let st = state_of g.P.Pool.state c.args.self.now c.args.queues.now in
    let b = bounded g.P.Pool.state g.P.Pool.LARGEST g.met.P.Pool.known_within_largest g.met.P.Pool.largest_within_127 c.args.self.now.trunk.pool in
    let full = c.in_err-need_room.ensures.two_places_in_either in
    λ ev o p e.
    plainly st (λ ch. outcome st ch ev) b (refuse Ground.QueueFull) (λ ch. e ch ∙ cond-false (is_roomy st) o (refuse Ground.QueueFull) full.0)
    (passed_on c.from_residual.result _ c.from_residual.ensures.1 ∙ ap (λ (x : Refused). Answer.Step (Err x)) full.1) refl

pub returns-in_err-need_room-clause-pool_gives_back_what_is_named : goal.returns-in_err-need_room-clause-pool_gives_back_what_is_named
returns-in_err-need_room-clause-pool_gives_back_what_is_named g c = λ wish. unmoved_refused g.P.Pool wish _ _ c.from_residual.result _ c.from_residual.ensures.1 refl
