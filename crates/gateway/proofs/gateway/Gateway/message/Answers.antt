use Rattle.std.proofs.Common.{sym, refl, ap}
use Rattle.gateway.proofs.Cited.{unmoved_refused, decoded, placed, Refuse, on_octets, bounded, plainly, state_of, passed_on}
use Rattle.gateway.proofs.gateway.Gateway.message.Goals as goal

pub returns-in_err-message-clause-steps_by_the_rules : goal.returns-in_err-message-clause-steps_by_the_rules
returns-in_err-message-clause-steps_by_the_rules g c =
    let st = state_of g.P.Pool.state c.args.self.now c.args.queues.now in
    let b = bounded g.P.Pool.state g.P.Pool.LARGEST g.met.P.Pool.known_within_largest g.met.P.Pool.largest_within_127 c.args.self.now.trunk.pool in
    plainly st (λ ch. on_octets st ch (decoded c.args.octets.now)) b (Refuse (placed c.in_err-message.field-0.0))
    (λ ch. sym (ap (on_octets st ch) c.in_err-message.ensures.exactly_by_the_layout))
    (passed_on c.from_residual.result _ c.from_residual.ensures.1) refl

pub returns-in_err-message-clause-moves_the_pool_as_reported : goal.returns-in_err-message-clause-moves_the_pool_as_reported
returns-in_err-message-clause-moves_the_pool_as_reported g c = unmoved_refused g.P.Pool _ _ _ c.from_residual.result _ c.from_residual.ensures.1 refl
