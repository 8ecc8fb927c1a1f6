use Rattle.std.proofs.Common.{refl}
use Rattle.gateway.proofs.Cited.{on_expiry, Expiry, at_call, seek, by_reference, state_of, possible_step}
use Rattle.gateway.proofs.gateway.Gateway.expiry.Goals as goal

pub carry_out-requires : goal.carry_out-requires
carry_out-requires g c =
    let st = state_of g.P.Pool.state c.args.self.now c.args.queues.now in
    record { possible_with_room = possible_step st c.args.self.now.table.whole c.args.self.now.sound (Expiry c.args.timer _) (at_call (on_expiry c.args.timer) (seek (by_reference _) st.table)) _ c.on_expiry_of-decision.ensures.at_the_call_that_the_exchange_means (λ ch. refl) }
