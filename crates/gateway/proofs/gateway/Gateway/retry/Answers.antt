use Rattle.std.proofs.Common.{ℕ, Option, None, sym, refl, ap, ◌∙◌, subst}
use Rattle.gateway.proofs.Cited.{Took, moved_by, Effect, tries_again, Choice, Fair, Change, fair_place, did, moved, token_channel, effect_of, state_of, Ready, ready_again, again_seizes}
use Rattle.gateway.proofs.gateway.Gateway.retry.Goals as goal

pub apply-requires : goal.apply-requires
apply-requires g c =
    let st = state_of g.P.Pool.state c.args.self.now c.args.queues.now in
    let f = c.args.found in
    let token = c.seize_any-token.result in
    let same = c.tries_again-effect.ensures.another_channel_or_none ∙ ap (λ (x : Option ℕ). tries_again x f.call) c.token_channel.ensures.answers_its_channel in
    let ready = ready_again st c.args.self.now.table.whole c.args.self.now.sound f.place f.call c.requires.found.0 c.requires.found.1 c.requires.waits token c.seize_any-token.ensures.granted_exactly_if_one_is_idle in
    record { ready = subst (λ (e : Effect). Ready st.table f.place e.after e.released token) (sym same) ready; roomy = c.requires.roomy }

pub returns : goal.returns
returns g c =
    let st = state_of g.P.Pool.state c.args.self.now c.args.queues.now in
    let f = c.args.found in
    let pick = token_channel c.seize_any-token.result in
    let place = fair_place st.table in
    let ch : Choice = record { pick = pick; place = place.0 } in
    let fair : Fair st ch = record { pick = c.seize_any-token.ensures.granted_exactly_if_one_is_idle; place = place.1 } in
    let same = c.tries_again-effect.ensures.another_channel_or_none ∙ ap (λ (x : Option ℕ). tries_again x f.call) c.token_channel.ensures.answers_its_channel in
    let m = moved st f.place (effect_of c.tries_again-effect.result) (tries_again pick f.call) pick (g.P.Pool.state c.seize_any-token.new.self.pool) c.seize_any-token.ensures.grant_seizes_it_alone same (again_seizes pick f.call) c.apply.ensures.report_of_the_effect c.apply.ensures.effect_applied in
    record {
      moves_the_pool_as_reported = moved_by g.P.Pool None c.args.self.now.trunk.pool c.apply.new.self.trunk.pool c.apply.result (effect_of c.tries_again-effect.result) c.seize_any-token.new.self.pool c.apply.ensures.report_of_the_effect
          (subst (λ (o : Option ℕ). Took g.P.Pool.Seizes g.P.Pool.SeizesAny None c.args.self.now.trunk.pool o c.seize_any-token.new.self.pool) (sym (ap (λ (e : Effect). e.seized) same ∙ again_seizes pick f.call)) c.seize_any-token.ensures.moves_the_pool)
          c.apply.ensures.pool_gives_back_what_is_released;
      another_channel_or_none = did st (λ ch. Change f.place (tries_again ch.pick f.call)) ch fair (Change f.place (tries_again pick f.call)) refl m.0 m.1;
    }
