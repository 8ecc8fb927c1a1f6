use Rattle.std.specs.Fmt.{HasWritten, IsPlainFormatter}
use Rattle.ledger.specs.Texts.{transaction_line}
use Rattle.ledger.proofs.Lines.{lines_of}
use Rattle.ledger.proofs.shown.TransactionsDisplay.fmt.Given as goal

abbrev pub invariant-loop-transaction : goal.invariant-loop-transaction
invariant-loop-transaction g l =
    IsPlainFormatter l.initial.f → HasWritten g.W.Write.write_str_gives l.initial.f (lines_of transaction_line l.yielded) l.f
