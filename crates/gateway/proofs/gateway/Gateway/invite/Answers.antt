use Rattle.std.proofs.Common.{ℕ, Option, [], ◌∷◌, Ok, Err, sym, refl, ap, ◌∙◌, append-nil}
use Rattle.gateway.proofs.Cited.{unmoved_quiet, unmoved_refused, Answer, Ground, waiting, room, Refused, Report, SipMessage, holds_dialogue, Choice, Outcome, refuse, replies, unless_refused, unless_answered, calls_out, dialling_status, on_invite, seek, by_transaction, bounded, plainly, in_room, state_of, passed_on, replied, full_refused}
use Rattle.gateway.proofs.gateway.Gateway.invite.Goals as goal

pub returns-in_err-need_room-clause-steps_by_the_rules : goal.returns-in_err-need_room-clause-steps_by_the_rules
returns-in_err-need_room-clause-steps_by_the_rules g c =
    let st = state_of g.P.Pool.state c.args.self.now c.args.queues.now in
    let b = bounded g.P.Pool.state g.P.Pool.LARGEST g.met.P.Pool.known_within_largest g.met.P.Pool.largest_within_127 c.args.self.now.trunk.pool in
    let t = c.args.invite.transaction in
    let d = c.args.invite.dialogue in
    let xs = c.args.invite.digits.now in
    let rule : Choice → Outcome = λ ch. on_invite ch t d xs (seek (by_transaction t) st.table) (seek (holds_dialogue d) st.table) in
    full_refused st rule b c.in_err-need_room.ensures.two_places_in_either.0 (passed_on c.from_residual.result _ c.from_residual.ensures.1 ∙ ap (λ (x : Refused). Answer.Step (Err x)) c.in_err-need_room.ensures.two_places_in_either.1)

pub returns-in_err-screen-clause-steps_by_the_rules : goal.returns-in_err-screen-clause-steps_by_the_rules
returns-in_err-screen-clause-steps_by_the_rules g c =
    let st = state_of g.P.Pool.state c.args.self.now c.args.queues.now in
    let b = bounded g.P.Pool.state g.P.Pool.LARGEST g.met.P.Pool.known_within_largest g.met.P.Pool.largest_within_127 c.args.self.now.trunk.pool in
    let t = c.args.invite.transaction in
    let d = c.args.invite.dialogue in
    let xs = c.args.invite.digits.now in
    let rule : Choice → Outcome = λ ch. on_invite ch t d xs (seek (by_transaction t) st.table) (seek (holds_dialogue d) st.table) in
    let why = c.in_err-screen.field-0.0 in
    in_room st rule (sym c.in_ok-need_room.ensures.two_places_in_either)
    (plainly st rule b (refuse why) (λ ch. sym (ap (λ (o : Option Ground). unless_refused o (unless_answered t (dialling_status xs) (calls_out t d xs ch.place ch.pick))) c.in_err-screen.ensures.transaction_then_dialogue))
    (passed_on c.from_residual-in_err-screen.result _ c.from_residual-in_err-screen.ensures.1) refl)

pub returns-in-Err-clause-steps_by_the_rules : goal.returns-in-Err-clause-steps_by_the_rules
returns-in-Err-clause-steps_by_the_rules g c =
    let st = state_of g.P.Pool.state c.args.self.now c.args.queues.now in
    let b = bounded g.P.Pool.state g.P.Pool.LARGEST g.met.P.Pool.known_within_largest g.met.P.Pool.largest_within_127 c.args.self.now.trunk.pool in
    let t = c.args.invite.transaction in
    let d = c.args.invite.dialogue in
    let xs = c.args.invite.digits.now in
    let rule : Choice → Outcome = λ ch. on_invite ch t d xs (seek (by_transaction t) st.table) (seek (holds_dialogue d) st.table) in
    let s = c.in-Err.status in
    in_room st rule (sym c.in_ok-need_room.ensures.two_places_in_either)
    (plainly st rule b (replies t s) (λ ch. sym (ap (λ (o : Option Ground). unless_refused o (unless_answered t (dialling_status xs) (calls_out t d xs ch.place ch.pick))) c.in_ok-screen.ensures.transaction_then_dialogue) ∙ sym (ap (λ (o : Option ℕ). unless_answered t o (calls_out t d xs ch.place ch.pick)) c.in-Err.ensures.none_or_not_a_number)) (ap (λ (x : Report). Answer.Step (Ok x)) c.respond.ensures.report)
    (replied st [] (SipMessage.Response t s ∷ []) st.pool (waiting c.args.queues.now.exchange) (waiting c.respond.new.sip) (room c.args.queues.now.exchange) (room c.respond.new.sip) (λ k. refl) (sym (append-nil (waiting c.args.queues.now.exchange))) c.respond.ensures.list refl c.respond.ensures.size))

pub returns-in_err-need_room-clause-moves_the_pool_as_reported : goal.returns-in_err-need_room-clause-moves_the_pool_as_reported
returns-in_err-need_room-clause-moves_the_pool_as_reported g c = unmoved_refused g.P.Pool _ _ _ c.from_residual.result _ c.from_residual.ensures.1 refl

pub returns-in_err-screen-clause-moves_the_pool_as_reported : goal.returns-in_err-screen-clause-moves_the_pool_as_reported
returns-in_err-screen-clause-moves_the_pool_as_reported g c = unmoved_refused g.P.Pool _ _ _ c.from_residual-in_err-screen.result _ c.from_residual-in_err-screen.ensures.1 refl

pub returns-in-Err-clause-moves_the_pool_as_reported : goal.returns-in-Err-clause-moves_the_pool_as_reported
returns-in-Err-clause-moves_the_pool_as_reported g c = unmoved_quiet g.P.Pool _ _ _ c.respond.result c.respond.ensures.report refl
