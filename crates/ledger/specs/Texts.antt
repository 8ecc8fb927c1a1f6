-- How a ledger reads: lines after one another, each but the first begun by the end of the line above.
use Rattle.std.specs.Prelude.{ℕ, List, ◌++◌, ◌==◌, Some, None, Option, if◌then◌else◌, codes, decimal, flat_map}
use Rattle.ledger.specs.declared.account.Account.{Account}
use Rattle.ledger.specs.declared.books.Unbalanced.{Unbalanced}
use Rattle.ledger.specs.declared.ledger.Ledger.{Ledger}
use Rattle.ledger.specs.Books.{first_unbalanced}

abbrev pub channel_text : Account → List ℕ
channel_text a = codes "seized " ++ (decimal a.begun ++ (codes ", released " ++ (decimal a.ended ++ (codes ", " ++ (if a.standing == 0 then codes "free" else codes "held")))))

abbrev pub transaction_text : Account → List ℕ
transaction_text a = codes "INVITEs " ++ (decimal a.begun ++ (codes ", finals " ++ (decimal a.ended ++ (codes ", " ++ (if a.standing == 0 then codes "answered" else codes "owing")))))

abbrev pub channel_line : ℕ × Account → List ℕ
channel_line e = codes "\n  channel " ++ (decimal e.0 ++ (codes ": " ++ channel_text e.1))

abbrev pub transaction_line : ℕ × Account → List ℕ
transaction_line e = codes "\n  transaction " ++ (decimal e.0 ++ (codes ": " ++ transaction_text e.1))

abbrev pub messages_line : Ledger → List ℕ
messages_line l = codes "\n  200s " ++ (decimal l.oks ++ (codes ", BYEs " ++ (decimal l.byes ++ (codes ", CONNECTs " ++ (decimal l.connects ++ (codes ", SETUPs " ++ decimal l.setups))))))

abbrev pub events_line : Ledger → List ℕ
events_line l = codes "\n  events " ++ (decimal l.events ++ (codes ", refused " ++ decimal l.refused))

abbrev pub refusals_line : ℕ × ℕ → List ℕ
refusals_line e = codes "\n  ground " ++ (decimal e.0 ++ (codes ": " ++ decimal e.1))

abbrev pub unbalanced_text : Unbalanced → List ℕ
unbalanced_text (Unbalanced.Channel c) = codes "channel " ++ decimal c
unbalanced_text (Unbalanced.Transaction t) = codes "transaction " ++ decimal t
unbalanced_text Unbalanced.Connects = codes "CONNECTs"

abbrev pub books_text : Option Unbalanced → List ℕ
books_text None = codes "books balance"
books_text (Some which) = codes "books do not balance: " ++ unbalanced_text which

abbrev pub channel_lines : Ledger → List ℕ
channel_lines l = flat_map channel_line l.channels.entries.entries

abbrev pub transaction_lines : Ledger → List ℕ
transaction_lines l = flat_map transaction_line l.transactions.entries.entries

abbrev pub refusals_lines : Ledger → List ℕ
refusals_lines l = flat_map refusals_line l.grounds.entries

abbrev pub ledger_text : Ledger → List ℕ
ledger_text l =
    codes "ledger" ++ (channel_lines l ++ (transaction_lines l ++ (messages_line l ++ (events_line l ++ (refusals_lines l ++ (codes "\n  " ++ books_text (first_unbalanced l)))))))
