-- When the books of a ledger balance, and which does not.
use Rattle.std.specs.Prelude.{◌≡◌, ℕ, ◌+◌, Bool, true, false, ◌==◌, Some, None, Option, nat_le}
use Rattle.ledger.specs.declared.ledger.Ledger.{Ledger}
use Rattle.ledger.specs.declared.books.Unbalanced.{Unbalanced}
use Rattle.ledger.specs.Accounts.{first_off, FirstOff}
use Rattle.ledger.specs.Counts.{number, Seizures, Releases, Holders, Invites, Finals, Owing, Connects, Setups}

-- a channel was released as often as it was seized, but for the calls that hold it
abbrev pub channel_balances : Ledger → ℕ → Bool
channel_balances l c = number l (Seizures c) == number l (Releases c) + number l (Holders c)

-- a transaction has as many finals as INVITEs, but for those that are owed
abbrev pub transaction_balances : Ledger → ℕ → Bool
transaction_balances l t = number l (Invites t) == number l (Finals t) + number l (Owing t)

-- no more CONNECTs went out than SETUPs came
abbrev pub connects_balance : Ledger → Bool
connects_balance l = nat_le (number l Connects) (number l Setups)

-- nothing exactly where all balances, else the least channel that does not; then the least transaction; then the CONNECTs
abbrev pub Verdict : Ledger → Option Unbalanced → Type 0
Verdict l None = FirstOff (channel_balances l) None × FirstOff (transaction_balances l) None × (connects_balance l ≡ true)
Verdict l (Some (Unbalanced.Channel c)) = FirstOff (channel_balances l) (Some c)
Verdict l (Some (Unbalanced.Transaction t)) = FirstOff (channel_balances l) None × FirstOff (transaction_balances l) (Some t)
Verdict l (Some Unbalanced.Connects) = FirstOff (channel_balances l) None × FirstOff (transaction_balances l) None × (connects_balance l ≡ false)

-- ---------------------------------------------------------------- the same, found along the accounts
abbrev pub channel_or : Option ℕ → Option Unbalanced → Option Unbalanced
channel_or None later = later
channel_or (Some c) later = Some (Unbalanced.Channel c)

abbrev pub transaction_or : Option ℕ → Option Unbalanced → Option Unbalanced
transaction_or None later = later
transaction_or (Some t) later = Some (Unbalanced.Transaction t)

abbrev pub connects_unless : Bool → Option Unbalanced
connects_unless true = None
connects_unless false = Some Unbalanced.Connects

abbrev pub first_unbalanced : Ledger → Option Unbalanced
first_unbalanced l = channel_or (first_off l.channels.entries.entries) (transaction_or (first_off l.transactions.entries.entries) (connects_unless (connects_balance l)))
