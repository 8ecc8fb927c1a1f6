-- Each row of the rule, as the code comes to it.
use Rattle.std.proofs.Common.{ℕ, Some, None, sym, refl, ap, ◌∙◌, subst, arith}
use Rattle.std.proofs.lemmas.Bool.{cond-true, cond-false}
use Rattle.gateway.proofs.Cited.{Message, Part, seen_record, Effect, misdialled, begins, Change, rejects, seated, admitted, fair_pick, fair_choice, bounded, state_of, Ready, ready_begins, begins_seizes, seated_by}
use Rattle.gateway.proofs.gateway.Gateway.admit.Goals as goal

pub returns-in_default-clause-by_the_order_of_the_rule : goal.returns-in_default-clause-by_the_order_of_the_rule
returns-in_default-clause-by_the_order_of_the_rule g c =
    λ queues.
    let st = state_of g.P.Pool.state c.args.self.now queues in
    let b = bounded g.P.Pool.state g.P.Pool.LARGEST g.met.P.Pool.known_within_largest g.met.P.Pool.largest_within_127 c.args.self.now.trunk.pool in
    let m = seen_record c.args.message in
    let w = fair_choice st b in
    record { choice = w.0; fair = w.1; by_the_rule = cond-true (misdialled m) _ _ c.in_default.ensures.as_it_came_unless_misdialled; no_channel_seized = λ k. refl }

pub returns-in_default-free-clause-by_the_order_of_the_rule : goal.returns-in_default-free-clause-by_the_order_of_the_rule
returns-in_default-free-clause-by_the_order_of_the_rule g c =
    λ queues.
    let st = state_of g.P.Pool.state c.args.self.now queues in
    let b = bounded g.P.Pool.state g.P.Pool.LARGEST g.met.P.Pool.known_within_largest g.met.P.Pool.largest_within_127 c.args.self.now.trunk.pool in
    let m = seen_record c.args.message in
    let p = fair_pick st.pool b in
    record {
      choice = record { pick = p.0; place = None };
      fair = record { pick = p.1; place = c.in_default-free.ensures.a_free_place_or_none_is_free };
      by_the_rule = cond-false (misdialled m) _ _ c.in-Some.ensures.as_it_came_unless_misdialled.0;
      no_channel_seized = λ k. refl;
    }

pub returns-in_default-next-clause-by_the_order_of_the_rule : goal.returns-in_default-next-clause-by_the_order_of_the_rule
returns-in_default-next-clause-by_the_order_of_the_rule g c =
    λ queues.
    let st = state_of g.P.Pool.state c.args.self.now queues in
    let b = bounded g.P.Pool.state g.P.Pool.LARGEST g.met.P.Pool.known_within_largest g.met.P.Pool.largest_within_127 c.args.self.now.trunk.pool in
    let m = seen_record c.args.message in
    let p = fair_pick st.pool b in
    let i = c.in-Some-free.place in
    record {
      choice = record { pick = p.0; place = Some i };
      fair = record { pick = p.1; place = c.in-Some-free.ensures.a_free_place_or_none_is_free };
      by_the_rule = cond-false (misdialled m) _ _ c.in-Some.ensures.as_it_came_unless_misdialled.0 ∙ ap (admitted st p.0 m (Some i)) c.in_default-next.is;
      no_channel_seized = λ k. refl;
    }

pub returns-in_default-seize_for-clause-by_the_order_of_the_rule : goal.returns-in_default-seize_for-clause-by_the_order_of_the_rule
returns-in_default-seize_for-clause-by_the_order_of_the_rule g c =
    λ queues.
    let st = state_of g.P.Pool.state c.args.self.now queues in
    let b = bounded g.P.Pool.state g.P.Pool.LARGEST g.met.P.Pool.known_within_largest g.met.P.Pool.largest_within_127 c.args.self.now.trunk.pool in
    let m = seen_record c.args.message in
    let i = c.in-Some-free.place in
    let n = c.in-Some-next.number in
    let got = c.in_default-seize_for.ensures.the_wished_or_any_or_none in
    record {
      choice = record { pick = got.pick; place = Some i };
      fair = record { pick = got.fair; place = c.in-Some-free.ensures.a_free_place_or_none_is_free };
      by_the_rule =
          seated_by st m got.pick i n c.in-Some.ensures.as_it_came_unless_misdialled.0 c.in-Some-next.is ∙ ap (seated st.full m i n) got.as_granted ∙ sym (ap (rejects m) c.busy_cause.ensures.by_the_wish);
      no_channel_seized = c.in_default-seize_for.ensures.seizes_it_alone;
    }

pub returns-clause-by_the_order_of_the_rule : goal.returns-clause-by_the_order_of_the_rule
returns-clause-by_the_order_of_the_rule g c =
    λ queues.
    let st = state_of g.P.Pool.state c.args.self.now queues in
    let m = seen_record c.args.message in
    let i = c.in-Some-free.place in
    let n = c.in-Some-next.number in
    let token = c.in-Some-seize_for.token in
    let got = c.in-Some-seize_for.ensures.the_wished_or_any_or_none in
    let place = c.in-Some-free.ensures.a_free_place_or_none_is_free in
    let dialled = c.in-Some.ensures.as_it_came_unless_misdialled in
    let same = c.begins-effect.ensures.proceeding_or_collecting ∙ ap (λ (x : Message Part). begins st.full (seen_record x) n c.channel.result) dialled.1 ∙ ap (λ (x : ℕ). begins st.full m n x) c.channel.ensures.answers_its_channel in
    record {
      choice = record { pick = got.pick; place = Some i };
      fair = record { pick = got.fair; place = place };
      by_the_rule = seated_by st m got.pick i n dialled.0 c.in-Some-next.is ∙ ap (seated st.full m i n) got.as_granted ∙ sym (ap (Change i) same);
      channel_of_the_token = ap (λ (e : Effect). e.seized) same ∙ begins_seizes st.full m n token.channel;
      that_channel_seized = c.in-Some-seize_for.ensures.seizes_it_alone;
      ready = subst (λ (e : Effect). Ready st.table i e.after e.released (Some token)) (sym same) (ready_begins st.table i (omega (arith, place.0, c.args.self.now.table.whole)) place.1 token st.full m n);
    }
