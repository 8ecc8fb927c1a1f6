-- At the end all lines of the text are passed.
use Rattle.std.proofs.Common.{rules, ◌≡◌, map, ap, ◌∙◌}
use Rattle.std.specs.Iterator.Adapters.{enumerate_source, enumerate_count}
use Rattle.std.specs.Str.Iter.{lines_rest}
use Rattle.std.proofs.lemmas.Iterator.Consumers.{YieldsList-from_enumerate, YieldsList-end}
use Rattle.std.proofs.lemmas.Iterator.Splits.{YieldsList-from_lines}
use Rattle.script_lines.specs.Meanings.{numbered}
use Rattle.script_lines.proofs.line.lines_of.Goals as goal

pub returns : goal.returns
returns c =
    let source : lines_rest (enumerate_source c.into_iter-i-iterator.result) ≡ c.args.text.now = search rules in
    let count : enumerate_count c.into_iter-i-iterator.result ≡ 0 = search rules in
    let all = YieldsList-from_enumerate (YieldsList-from_lines c.args.text.now source) count in
    let end = YieldsList-end all c.loop-i.yielded _ c.loop-i.yielded_by _ _ c.in-None.is c.next.ensures.steps in
    record { each_line_in_its_order = c.loop-i.invariant ∙ ap (map numbered) end.0 }
