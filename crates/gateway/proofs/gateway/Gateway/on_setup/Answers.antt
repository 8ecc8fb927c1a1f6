-- The call that was admitted enters its place with the token of its channel.
use Rattle.std.proofs.Common.{◌≡◌, ℕ, Option, sym, refl, ap, ◌∙◌, subst}
use Rattle.gateway.proofs.Cited.{Took, moved_by, unmoved_quiet, seen_record, State, Change, on_setup, applied, did, moved, effect_of, state_of}
use Rattle.gateway.proofs.gateway.Gateway.on_setup.Goals as goal

pub returns-in-Ok : goal.returns-in-Ok
returns-in-Ok g c =
    let st = state_of g.P.Pool.state c.args.self.now c.args.queues.now in
    let new = c.in-Ok.ensures.by_the_order_of_the_rule c.args.queues.now in
    let rest = c.in-Ok.ensures.leaves_the_rest in
    let after = c.admit.new.self in
    let e = effect_of c.in-Ok.field-0.effect in
    let pool = g.P.Pool.state after.trunk.pool in
    let same : state_of g.P.Pool.state after c.args.queues.now ≡ record st { pool = pool } = λ j. record st { table = (rest.0 j).places; pool = pool; next = rest.1 j; full = rest.2 j } in
    let step = moved st c.in-Ok.field-0.place e e _ pool new.that_channel_seized refl new.channel_of_the_token c.apply.ensures.report_of_the_effect (c.apply.ensures.effect_applied ∙ ap (λ (s : State). applied s c.in-Ok.field-0.place e) same) in
    record {
      moves_the_pool_as_reported = moved_by g.P.Pool _ c.args.self.now.trunk.pool c.apply.new.self.trunk.pool c.apply.result e after.trunk.pool c.apply.ensures.report_of_the_effect
          (subst (λ (o : Option ℕ). Took g.P.Pool.Seizes g.P.Pool.SeizesAny c.args.message.elements.channel c.args.self.now.trunk.pool o after.trunk.pool) (sym new.channel_of_the_token) c.in-Ok.ensures.pool_takes_the_channel_of_the_call)
          c.apply.ensures.pool_gives_back_what_is_released;
      a_call_or_rejected = did st (λ ch. on_setup st ch (seen_record c.args.message)) new.choice new.fair (Change c.in-Ok.field-0.place e) new.by_the_rule step.0 step.1;
    }

pub returns-in-Err-clause-moves_the_pool_as_reported : goal.returns-in-Err-clause-moves_the_pool_as_reported
returns-in-Err-clause-moves_the_pool_as_reported g c = unmoved_quiet g.P.Pool _ _ _ c.reject.result c.reject.ensures.report c.in-Err.ensures.pool_takes_the_channel_of_the_call
