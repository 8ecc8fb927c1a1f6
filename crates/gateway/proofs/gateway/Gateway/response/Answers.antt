use Rattle.std.proofs.Common.{Err, sym, refl, ap}
use Rattle.std.proofs.lemmas.Bool.{cond-true, cond-false}
use Rattle.gateway.proofs.Cited.{Answer, Ground, Refused, Response, on_response, roomed, refuse, is_status, bounded, plainly, state_of, all_unknown, possible_step}
use Rattle.gateway.proofs.gateway.Gateway.response.Goals as goal

pub carry_out-requires : goal.carry_out-requires
carry_out-requires g c =
    let st = state_of g.P.Pool.state c.args.self.now c.args.queues.now in
    let re = c.args.response in
    record {
      possible_with_room = possible_step st c.args.self.now.table.whole c.args.self.now.sound (Response re.number re.status re.dialogue _) (on_response st.table re.number re.status re.dialogue _) _ c.on_response-decision.ensures.by_the_status
          (λ ch. cond-true (is_status re.status) (roomed (record st { pool = all_unknown }) _) (refuse Ground.StatusOutOfRange) (sym c.if-not-is_status.ensures.from_100_to_699));
    }

pub returns-then-not-is_status-clause-steps_by_the_rules : goal.returns-then-not-is_status-clause-steps_by_the_rules
returns-then-not-is_status-clause-steps_by_the_rules g c =
    let st = state_of g.P.Pool.state c.args.self.now c.args.queues.now in
    let b = bounded g.P.Pool.state g.P.Pool.LARGEST g.met.P.Pool.known_within_largest g.met.P.Pool.largest_within_127 c.args.self.now.trunk.pool in
    let o = on_response st.table c.args.response.number c.args.response.status c.args.response.dialogue c.args.response.media in
    plainly st _ b (refuse Ground.StatusOutOfRange) (λ ch. cond-false (is_status c.args.response.status) (roomed st o) (refuse Ground.StatusOutOfRange) (sym c.if-not-is_status.ensures.from_100_to_699)) (ap (λ (x : Refused). Answer.Step (Err x)) c.from.ensures) refl
