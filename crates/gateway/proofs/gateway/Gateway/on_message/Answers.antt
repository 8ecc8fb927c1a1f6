use Rattle.std.proofs.Common.{Err, refl, ap, ◌∙◌}
use Rattle.gateway.proofs.Cited.{unmoved_refused, Answer, seen_record, Refused, Found, Choice, Outcome, on_message, seek, by_reference, bounded, state_of, passed_on, full_refused, found_live}
use Rattle.gateway.proofs.gateway.Gateway.on_message.Goals as goal

pub returns-in_err-need_room-clause-by_the_rules : goal.returns-in_err-need_room-clause-by_the_rules
returns-in_err-need_room-clause-by_the_rules g c =
    let st = state_of g.P.Pool.state c.args.self.now c.args.queues.now in
    let b = bounded g.P.Pool.state g.P.Pool.LARGEST g.met.P.Pool.known_within_largest g.met.P.Pool.largest_within_127 c.args.self.now.trunk.pool in
    let m = seen_record c.args.message in
    let rule : Choice → Outcome = λ ch. on_message st ch m (seek (by_reference m.reference) st.table) in
    full_refused st rule b c.in_err-need_room.ensures.two_places_in_either.0 (passed_on c.from_residual.result _ c.from_residual.ensures.1 ∙ ap (λ (x : Refused). Answer.Step (Err x)) c.in_err-need_room.ensures.two_places_in_either.1)

pub at_call-requires-clause-live : goal.at_call-requires-clause-live
at_call-requires-clause-live g c =
    let f : Found = record { place = c.in-Some.found.place; call = c.in-Some.found.call } in
    found_live c.args.message.reference c.args.self.now.table.places f c.in-Some.ensures.the_first_that_matches_or_none

pub returns-in_err-need_room-clause-moves_the_pool_as_reported : goal.returns-in_err-need_room-clause-moves_the_pool_as_reported
returns-in_err-need_room-clause-moves_the_pool_as_reported g c = unmoved_refused g.P.Pool _ _ _ c.from_residual.result _ c.from_residual.ensures.1 refl
