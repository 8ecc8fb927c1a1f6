use Rattle.std.proofs.Common.{refl}
use Rattle.gateway.proofs.Cited.{Cancel, on_leave, seek, by_transaction, state_of, possible_step}
use Rattle.gateway.proofs.gateway.Gateway.cancel.Goals as goal

pub carry_out-requires : goal.carry_out-requires
carry_out-requires g c =
    let st = state_of g.P.Pool.state c.args.self.now c.args.queues.now in
    record { possible_with_room = possible_step st c.args.self.now.table.whole c.args.self.now.sound (Cancel _) (on_leave (seek (by_transaction _) st.table)) _ c.on_cancel-decision.ensures.the_unanswered_call_is_left (λ ch. refl) }
