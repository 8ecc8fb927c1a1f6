use Rattle.std.proofs.Common.{refl}
use Rattle.gateway.proofs.Cited.{holds_dialogue, Bye, on_leave, seek, state_of, possible_step}
use Rattle.gateway.proofs.gateway.Gateway.bye.Goals as goal

pub carry_out-requires : goal.carry_out-requires
carry_out-requires g c =
    let st = state_of g.P.Pool.state c.args.self.now c.args.queues.now in
    record { possible_with_room = possible_step st c.args.self.now.table.whole c.args.self.now.sound (Bye _) (on_leave (seek (holds_dialogue _) st.table)) _ c.on_bye-decision.ensures.the_call_that_holds_it_is_left (λ ch. refl) }
