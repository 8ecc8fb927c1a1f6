use Rattle.std.proofs.Common.{◌≡◌, List, [], ◌∷◌, replicate, Some, None, IfOk, ap, ◌∙◌, subst}
use Rattle.calls.specs.declared.answers.Answer.{Answer}
use Rattle.calls.specs.Rules.{State, Invite, Exchange, TakeExchange, TakeSip, Stepped, Stepping, no_step, next_step}
use Rattle.calls.specs.Examples.{opened, digits, unavailable, another_answers}
use Rattle.calls.proofs.Examples.{examples}
use Rattle.turn_pool.specs.Turns.{idle_order, seized_ones, states}
use Rattle.gateway.specs.Stands.{state_of}
use Rattle.worked_examples.specs.Turns.{NineSeized, Reached}
use Rattle.worked_examples.proofs.Joint.{moved_by_two, always_on_nine}
use Rattle.worked_examples.proofs.joint_examples.Goals as goal

abbrev answers_of : goal.After-sip-2-1 → List Answer
answers_of c =
    Answer.Step c.invite.result ∷ Answer.Step c.message.result ∷ Answer.Exchange c.take_exchange.result ∷ Answer.Exchange c.take_exchange-2.result ∷ Answer.Exchange c.take_exchange-3.result ∷ Answer.Sip c.take_sip.result ∷ []

reached : (c : goal.After-sip-2-1) → Reached (answers_of c) c.message.new.self
reached c =
    let g = c.unwrap-gateway.result in
    let q = c.new-queues.result in
    let list = subst (λ r. IfOk r (λ p. (idle_order p ≡ 7 ∷ 9 ∷ []) × (seized_ones p ≡ []))) c.unwrap-pool.ensures c.new.ensures.begins_idle_in_list_order in
    let calls = subst (λ r. IfOk r (λ x. x.table.places ≡ replicate 64 None)) c.unwrap-gateway.ensures c.open.ensures.opens_without_calls in
    let pool = subst (λ r. IfOk r (λ x. x.trunk.pool ≡ c.unwrap-pool.result)) c.unwrap-gateway.ensures c.open.ensures.over_that_pool in
    let settings = subst (λ r. IfOk r (λ x. (x.next ≡ Some 1) × (x.full ≡ 20))) c.unwrap-gateway.ensures c.open.ensures.with_the_settings in
    let empty = c.new-queues.ensures.nothing_waits in
    let places = c.new-queues.ensures.with_the_places in
    let begins : state_of states g q ≡ opened (states g.trunk.pool) =
    λ j. record { table = calls j; pool = states g.trunk.pool; exchange = empty.0 j; sip = empty.1 j; exchange_places = places.0 j; sip_places = places.1 j; next = settings.0 j; full = settings.1 j } in
    let first = c.invite.ensures.moves_the_pool_as_reported in
    let second = c.message.ensures.moves_the_pool_as_reported in
    let invited = subst (λ (x : State). Stepped x (Invite 30 70 digits) (Answer.Step c.invite.result) (state_of states c.invite.new.self c.invite.new.queues)) begins c.invite.ensures.steps_by_the_rules in
    let none : Stepping (opened (states g.trunk.pool)) [] [] (opened (states g.trunk.pool)) = no_step in
    record {
      pool = g.trunk.pool;
      queues = c.take_sip.new.queues;
      led = record {
        both_idle = (ap idle_order pool ∙ list.0, ap seized_ones pool ∙ list.1);
        steps =
            next_step TakeSip _ (next_step TakeExchange _ (next_step TakeExchange _ (next_step TakeExchange _ (next_step (Exchange unavailable) _ (next_step (Invite 30 70 digits) _ none invited) c.message.ensures.steps_by_the_rules) c.take_exchange.ensures.steps_by_the_rules) c.take_exchange-2.ensures.steps_by_the_rules) c.take_exchange-3.ensures.steps_by_the_rules)
            c.take_sip.ensures.steps_by_the_rules;
        moves = moved_by_two _ first.between _ second.between _ _ _ _ _ _ _ first.took first.gave_back second.took second.gave_back;
      };
    }

always : (c : goal.After-sip-2-1) → (answers_of c ≡ another_answers) × NineSeized c.message.new.self.trunk.pool
always c = let r = reached c in always_on_nine r.pool _ _ _ r.led

pub returns-clause-octets_causes_and_collisions : goal.returns-clause-octets_causes_and_collisions
returns-clause-octets_causes_and_collisions c = examples

pub returns-clause-answers_and_messages : goal.returns-clause-answers_and_messages
returns-clause-answers_and_messages c = (always c).0

pub returns-clause-seven_is_idle : goal.returns-clause-seven_is_idle
returns-clause-seven_is_idle c = (always c).1.0

pub returns-clause-nine_is_seized : goal.returns-clause-nine_is_seized
returns-clause-nine_is_seized c = (always c).1.1

pub returns-clause-steps_from_the_opening_lead_to_this_gateway : goal.returns-clause-steps_from_the_opening_lead_to_this_gateway
returns-clause-steps_from_the_opening_lead_to_this_gateway c = reached c

pub returns-clause-every_run_over_such_a_pool_ends_on_nine : goal.returns-clause-every_run_over_such_a_pool_ends_on_nine
returns-clause-every_run_over_such_a_pool_ends_on_nine c = always_on_nine
