use Rattle.std.proofs.Common.{◌≡◌}
use Rattle.ledger.specs.Accounts.{first_off}
use Rattle.ledger.proofs.accounts.Accounts.first_off.Given as goal

abbrev pub invariant-loop-number : goal.invariant-loop-number
invariant-loop-number l = first_off l.number-iterator ≡ first_off l.self.entries.entries
