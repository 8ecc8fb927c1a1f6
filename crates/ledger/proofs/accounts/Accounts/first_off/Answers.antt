use Rattle.std.proofs.Common.{◌≡◌, Some, None, sym, arith}
use Rattle.std.proofs.lemmas.Grind.{common_steps}
use Rattle.ledger.specs.Accounts.{first_off}
use Rattle.ledger.proofs.Least.{least_off}
use Rattle.ledger.proofs.accounts.Accounts.first_off.Goals as goal

pub returns-then-not-is_balanced : goal.returns-then-not-is_balanced
returns-then-not-is_balanced c =
    let es = c.args.self.now.entries.entries in
    let first : first_off es ≡ Some c.in-Some.number.now = grind (arith, common_steps) in
    record { along_the_accounts = sym first; the_least_that_does_not_balance = least_off es (Some c.in-Some.number.now) c.into_iter-number-iterator.ensures.into_iter_gives.5 first }

pub returns : goal.returns
returns c =
    let es = c.args.self.now.entries.entries in
    let first : first_off es ≡ None = grind (arith, common_steps) in
    record { along_the_accounts = sym first; the_least_that_does_not_balance = least_off es None c.into_iter-number-iterator.ensures.into_iter_gives.5 first }
