use Rattle.std.proofs.Common.{rules, ◌≡◌, map, flat_map, ap}
use Rattle.std.proofs.Output.{has_written_append, has_written_of_eq}
use Rattle.std.proofs.lemmas.Map.Iter.{iter_end}
use Rattle.std.specs.Map.Iter.{deref_pair}
use Rattle.ledger.specs.Texts.{transaction_line}
use Rattle.ledger.proofs.Lines.{one_line_more}
use Rattle.ledger.proofs.shown.TransactionsDisplay.fmt.Goals as goal

pub loop-transaction-init : goal.loop-transaction-init
loop-transaction-init g c = search rules

pub loop-transaction-preserved : goal.loop-transaction-preserved
loop-transaction-preserved g c = λ p.
    has_written_of_eq _ _ _ _ _ (one_line_more transaction_line c.loop-transaction.yielded (c.in-Some.transaction, c.in-Some.account)) (has_written_append _ _ _ _ _ _ (c.loop-transaction.invariant p) (search rules))

pub returns-clause-writes : goal.returns-clause-writes
returns-clause-writes g c =
    let all : map deref_pair c.loop-transaction.yielded ≡ c.args.self.now.0.now.transactions.entries.entries = search (rules, iter_end) in
    λ p e. has_written_of_eq _ _ _ _ _ (ap (flat_map transaction_line) all) (c.loop-transaction.invariant p)
