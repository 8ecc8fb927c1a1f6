-- What a ledger knows of, it knows from then on.
use Rattle.std.specs.Prelude.{◌≡◌, ℕ, true}
use Rattle.std.specs.BTreeMap.{BTreeMap}
use Rattle.ledger.specs.declared.account.Account.{Account}
use Rattle.ledger.specs.declared.ledger.Ledger.{Ledger}
use Rattle.ledger.specs.Accounts.{is_new}
use Rattle.ledger.specs.Counts.{is_new_ground}

-- a number that is new afterwards was new before
abbrev pub StaysKnown : BTreeMap ℕ Account → BTreeMap ℕ Account → Type 0
StaysKnown before after = (n : ℕ) → is_new after n ≡ true → is_new before n ≡ true

abbrev pub GroundsStayKnown : BTreeMap ℕ ℕ → BTreeMap ℕ ℕ → Type 0
GroundsStayKnown before after = (g : ℕ) → is_new_ground after g ≡ true → is_new_ground before g ≡ true

-- of channels, transactions and grounds
abbrev pub KeepsKnown : Ledger → Ledger → Type 0
KeepsKnown before after =
    StaysKnown before.channels.entries after.channels.entries × StaysKnown before.transactions.entries after.transactions.entries × GroundsStayKnown before.grounds after.grounds
