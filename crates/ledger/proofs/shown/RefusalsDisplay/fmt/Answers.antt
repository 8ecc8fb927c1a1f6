use Rattle.std.proofs.Common.{rules, ◌≡◌, map, flat_map, ap}
use Rattle.std.proofs.Output.{has_written_append, has_written_of_eq}
use Rattle.std.proofs.lemmas.Map.Iter.{iter_end}
use Rattle.std.specs.Map.Iter.{deref_pair}
use Rattle.ledger.specs.Texts.{refusals_line}
use Rattle.ledger.proofs.Lines.{one_line_more}
use Rattle.ledger.proofs.shown.RefusalsDisplay.fmt.Goals as goal

pub loop-ground-init : goal.loop-ground-init
loop-ground-init g c = search rules

pub loop-ground-preserved : goal.loop-ground-preserved
loop-ground-preserved g c = λ p.
    has_written_of_eq _ _ _ _ _ (one_line_more refusals_line c.loop-ground.yielded (c.in-Some.ground, c.in-Some.count)) (has_written_append _ _ _ _ _ _ (c.loop-ground.invariant p) (search rules))

pub returns-clause-writes : goal.returns-clause-writes
returns-clause-writes g c =
    let all : map deref_pair c.loop-ground.yielded ≡ c.args.self.now.0.now.grounds.entries = search (rules, iter_end) in
    λ p e. has_written_of_eq _ _ _ _ _ (ap (flat_map refusals_line) all) (c.loop-ground.invariant p)
