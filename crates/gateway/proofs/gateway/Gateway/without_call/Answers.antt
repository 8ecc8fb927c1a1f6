use Rattle.std.proofs.Common.{sym, ◌∙◌}
use Rattle.gateway.proofs.Cited.{seen_record, uncalled, bounded, plainly, outcome_of, state_of, turned_away_lem}
use Rattle.gateway.proofs.gateway.Gateway.without_call.Goals as goal

pub returns-else-is_setup : goal.returns-else-is_setup
returns-else-is_setup g c =
    let st = state_of g.P.Pool.state c.args.self.now c.args.queues.now in
    let b = bounded g.P.Pool.state g.P.Pool.LARGEST g.met.P.Pool.known_within_largest g.met.P.Pool.largest_within_127 c.args.self.now.trunk.pool in
    let m = seen_record c.args.message in
    record {
      moves_the_pool_as_reported = c.settle.ensures.pool_gives_back_what_is_named _;
      refusal_leaves_all = c.settle.ensures.refusal_leaves_all;
      begun_or_turned_away = plainly st (λ ch. uncalled st ch m m.kind) b (outcome_of c.turned_away.result) (λ ch. turned_away_lem st ch m m.kind (sym c.if-is_setup.ensures.setup_alone) ∙ sym c.turned_away.ensures.answered_unless_release_complete) c.settle.ensures.answer_of_the_outcome c.settle.ensures.outcome_settled;
    }
