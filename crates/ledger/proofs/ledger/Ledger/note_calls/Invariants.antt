use Rattle.std.proofs.Common.{take}
use Rattle.ledger.specs.Counts.{counts_calls, Grows}
use Rattle.ledger.specs.Known.{KeepsKnown}
use Rattle.ledger.proofs.ledger.Ledger.note_calls.Given as goal

abbrev pub invariant-loop-call : goal.invariant-loop-call
invariant-loop-call l = Grows l.initial.self l.self (λ k. counts_calls k (take l.call-index l.calls)) × KeepsKnown l.initial.self l.self
