use Rattle.std.proofs.Common.{refl}
use Rattle.gateway.proofs.Cited.{on_cancel_expiry, CancelExpiry, at_call, seek, by_number, state_of, possible_step}
use Rattle.gateway.proofs.gateway.Gateway.cancel_expiry.Goals as goal

pub carry_out-requires : goal.carry_out-requires
carry_out-requires g c =
    let st = state_of g.P.Pool.state c.args.self.now c.args.queues.now in
    record { possible_with_room = possible_step st c.args.self.now.table.whole c.args.self.now.sound (CancelExpiry _) (at_call on_cancel_expiry (seek (by_number _) st.table)) _ c.on_expiry_of_cancel-decision.ensures.at_the_call_with_the_number (λ ch. refl) }
