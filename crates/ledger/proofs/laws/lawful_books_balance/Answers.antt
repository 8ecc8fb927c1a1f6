use Rattle.ledger.proofs.Lawful.{lawful_books, run_books}
use Rattle.ledger.proofs.laws.lawful_books_balance.Goals as goal

pub returns : goal.returns
returns c = record { by_the_laws = lawful_books; of_every_run = run_books }
