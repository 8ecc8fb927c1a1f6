use Rattle.std.proofs.Common.{sym, ap, ◌∙◌, subst}
use Rattle.gateway.proofs.Cited.{seen_record, on_type, Choice, Outcome, at, bounded, plainly, outcome_of, state_of, Possible, possible_at, unpicked}
use Rattle.gateway.proofs.gateway.Gateway.at_call.Goals as goal

pub settle-requires : goal.settle-requires
settle-requires g c =
    let st = state_of g.P.Pool.state c.args.self.now c.args.queues.now in
    let m = seen_record c.args.message in
    let f = c.args.found in
    record {
      possible = subst (Possible st.table) (sym c.at_its_call-decision.ensures.by_type_and_state)
          (possible_at st c.args.self.now.table.whole c.args.self.now.sound f.place f.call c.requires.found.0 c.requires.found.1 c.requires.live st.full m);
      roomy = c.requires.roomy;
    }

pub returns-else-wants_another : goal.returns-else-wants_another
returns-else-wants_another g c =
    let st = state_of g.P.Pool.state c.args.self.now c.args.queues.now in
    let b = bounded g.P.Pool.state g.P.Pool.LARGEST g.met.P.Pool.known_within_largest g.met.P.Pool.largest_within_127 c.args.self.now.trunk.pool in
    let m = seen_record c.args.message in
    let f = c.args.found in
    let rule : Choice → Outcome = λ ch. at f.place (on_type st.full ch.pick m f.call m.kind) in
    record {
      moves_the_pool_as_reported = c.settle.ensures.pool_gives_back_what_is_named _;
      refusal_leaves_all = c.settle.ensures.refusal_leaves_all;
      by_type_and_state = plainly st rule b (outcome_of c.at_its_call-decision.result)
          (λ ch. ap (at f.place) (unpicked st.full ch.pick m f.call (sym c.if-wants_another.ensures.setup_refused_for_its_channel)) ∙ sym c.at_its_call-decision.ensures.by_type_and_state)
          c.settle.ensures.answer_of_the_outcome c.settle.ensures.outcome_settled;
    }
