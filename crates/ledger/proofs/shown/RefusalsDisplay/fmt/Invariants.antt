use Rattle.std.specs.Fmt.{HasWritten, IsPlainFormatter}
use Rattle.ledger.specs.Texts.{refusals_line}
use Rattle.ledger.proofs.Lines.{lines_of}
use Rattle.ledger.proofs.shown.RefusalsDisplay.fmt.Given as goal

abbrev pub invariant-loop-ground : goal.invariant-loop-ground
invariant-loop-ground g l =
    IsPlainFormatter l.initial.f → HasWritten g.W.Write.write_str_gives l.initial.f (lines_of refusals_line l.yielded) l.f
