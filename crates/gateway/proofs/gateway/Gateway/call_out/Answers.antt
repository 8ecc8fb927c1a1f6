use Rattle.std.proofs.Common.{ℕ, Option, [], ◌∷◌, Some, None, Ok, sym, refl, ap, ◌∙◌, subst, append-nil}
use Rattle.gateway.proofs.Cited.{Took, Effect, moved_by, unmoved_quiet, Answer, waiting, room, Report, SipMessage, invited, Choice, Fair, Change, replies, calls_out, fair_pick, bounded, did, moved, effect_of, state_of, replied}
use Rattle.gateway.proofs.gateway.Gateway.call_out.Goals as goal

pub returns-in_default : goal.returns-in_default
returns-in_default g c =
    let st = state_of g.P.Pool.state c.args.self.now c.args.queues.now in
    let b = bounded g.P.Pool.state g.P.Pool.LARGEST g.met.P.Pool.known_within_largest g.met.P.Pool.largest_within_127 c.args.self.now.trunk.pool in
    let t = c.args.invite.transaction in
    let p = fair_pick st.pool b in
    let ch : Choice = record { pick = p.0; place = None } in
    let fair : Fair st ch = record { pick = p.1; place = c.in_default.ensures.a_free_place_or_none_is_free } in
    record {
      moves_the_pool_as_reported = unmoved_quiet g.P.Pool None _ _ c.respond.result c.respond.ensures.report refl;
      a_call_or_503 = did st (λ ch. calls_out t c.args.invite.dialogue c.args.invite.digits.octets.now ch.place ch.pick) ch fair (replies t _) refl (ap (λ (x : Report). Answer.Step (Ok x)) c.respond.ensures.report)
          (replied st [] (SipMessage.Response t _ ∷ []) st.pool (waiting c.args.queues.now.exchange) (waiting c.respond.new.sip) (room c.args.queues.now.exchange) (room c.respond.new.sip) (λ k. refl) (sym (append-nil (waiting c.args.queues.now.exchange))) c.respond.ensures.list refl c.respond.ensures.size);
    }

pub returns-in-None : goal.returns-in-None
returns-in-None g c =
    let st = state_of g.P.Pool.state c.args.self.now c.args.queues.now in
    let b = bounded g.P.Pool.state g.P.Pool.LARGEST g.met.P.Pool.known_within_largest g.met.P.Pool.largest_within_127 c.args.self.now.trunk.pool in
    let t = c.args.invite.transaction in
    let ch : Choice = record { pick = None; place = Some c.in-Some.place } in
    let fair : Fair st ch = record { pick = c.in-None.ensures.granted_exactly_if_one_is_idle; place = c.in-Some.ensures.a_free_place_or_none_is_free } in
    record {
      moves_the_pool_as_reported = unmoved_quiet g.P.Pool None _ _ c.respond-in-None.result c.respond-in-None.ensures.report c.in-None.ensures.moves_the_pool;
      a_call_or_503 = did st (λ ch. calls_out t c.args.invite.dialogue c.args.invite.digits.octets.now ch.place ch.pick) ch fair (replies t _) refl (ap (λ (x : Report). Answer.Step (Ok x)) c.respond-in-None.ensures.report)
          (replied st [] (SipMessage.Response t _ ∷ []) (g.P.Pool.state c.seize_any.new.self.pool) (waiting c.args.queues.now.exchange) (waiting c.respond-in-None.new.sip) (room c.args.queues.now.exchange) (room c.respond-in-None.new.sip) c.in-None.ensures.grant_seizes_it_alone (sym (append-nil (waiting c.args.queues.now.exchange))) c.respond-in-None.ensures.list refl c.respond-in-None.ensures.size);
    }

pub returns-in-Some-seize_any : goal.returns-in-Some-seize_any
returns-in-Some-seize_any g c =
    let st = state_of g.P.Pool.state c.args.self.now c.args.queues.now in
    let b = bounded g.P.Pool.state g.P.Pool.LARGEST g.met.P.Pool.known_within_largest g.met.P.Pool.largest_within_127 c.args.self.now.trunk.pool in
    let t = c.args.invite.transaction in
    let d = c.args.invite.dialogue in
    let xs = c.args.invite.digits.octets.now in
    let i = c.in-Some.place in
    let x = c.in-Some-seize_any.token.channel in
    let e = invited t d xs x in
    let ch : Choice = record { pick = Some x; place = Some i } in
    let fair : Fair st ch = record { pick = c.in-Some-seize_any.ensures.granted_exactly_if_one_is_idle; place = c.in-Some.ensures.a_free_place_or_none_is_free } in
    let same = c.invited-effect.ensures.setup_on_the_channel ∙ ap (λ (y : ℕ). invited t d xs y) c.channel.ensures.answers_its_channel in
    let m = moved st i (effect_of c.invited-effect.result) e (Some x) (g.P.Pool.state c.seize_any.new.self.pool) c.in-Some-seize_any.ensures.grant_seizes_it_alone same refl c.apply.ensures.report_of_the_effect c.apply.ensures.effect_applied in
    record {
      moves_the_pool_as_reported = moved_by g.P.Pool None c.args.self.now.trunk.pool c.apply.new.self.trunk.pool c.apply.result (effect_of c.invited-effect.result) c.seize_any.new.self.pool c.apply.ensures.report_of_the_effect
          (subst (λ (o : Option ℕ). Took g.P.Pool.Seizes g.P.Pool.SeizesAny None c.args.self.now.trunk.pool o c.seize_any.new.self.pool) (sym (ap (λ (x : Effect). x.seized) same)) c.in-Some-seize_any.ensures.moves_the_pool)
          c.apply.ensures.pool_gives_back_what_is_released;
      a_call_or_503 = did st (λ ch. calls_out t d xs ch.place ch.pick) ch fair (Change i e) refl m.0 m.1;
    }
