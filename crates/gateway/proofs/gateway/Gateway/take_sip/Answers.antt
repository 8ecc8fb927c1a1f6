use Rattle.std.proofs.Common.{refl, ap}
use Rattle.gateway.proofs.Cited.{Answer, waiting, TookSip, bounded, plainly, first_taken, state_of}
use Rattle.gateway.proofs.gateway.Gateway.take_sip.Goals as goal

pub returns-clause-steps_by_the_rules : goal.returns-clause-steps_by_the_rules
returns-clause-steps_by_the_rules g c =
    let st = state_of g.P.Pool.state c.args.self.now c.args.queues.now in
    let b = bounded g.P.Pool.state g.P.Pool.LARGEST g.met.P.Pool.known_within_largest g.met.P.Pool.largest_within_127 c.args.self.now.trunk.pool in
    let t = first_taken c.take.result (waiting c.args.queues.now.sip) (waiting c.take.new.self) _ (λ e. ap waiting e) c.take.ensures.oldest_leaves in
    plainly st (λ ch. TookSip) b TookSip (λ ch. refl) (ap Answer.Sip t.0) (λ j. record { table = st.table; pool = st.pool; exchange = st.exchange; sip = t.1 j; exchange_places = st.exchange_places; sip_places = c.take.ensures.room_stays j; next = st.next; full = st.full })
