-- What is held under a number: how often it began, how often it ended, and how often it stands at the end.
use Rattle.std.specs.Prelude.{◌≡◌, ℕ, ◌+◌, ◌<◌, Bool, true, false, ◌==◌, List, [], ◌∷◌, Some, None, Option, is_some, not, if◌then◌else◌}
use Rattle.std.specs.Option.{unwrap_or}
use Rattle.std.specs.Ordering.{nat_cmp}
use Rattle.std.specs.BTreeMap.{BTreeMap, get}
use Rattle.ledger.specs.declared.account.Account.{Account}
use Rattle.ledger.specs.Numbers.{grown}

-- the account of a number of which nothing is noted
abbrev pub empty : Account
empty = record { begun = 0; ended = 0; standing = 0 }

-- the account of a number
abbrev pub account_at : BTreeMap ℕ Account → ℕ → Account
account_at m n = unwrap_or (get nat_cmp m n) empty

abbrev pub begun_at : BTreeMap ℕ Account → ℕ → ℕ
begun_at m n = (account_at m n).begun

abbrev pub ended_at : BTreeMap ℕ Account → ℕ → ℕ
ended_at m n = (account_at m n).ended

abbrev pub standing_at : BTreeMap ℕ Account → ℕ → ℕ
standing_at m n = (account_at m n).standing

-- nothing is noted of a number yet
abbrev pub is_new : BTreeMap ℕ Account → ℕ → Bool
is_new m n = not (is_some (get nat_cmp m n))

-- all that began ended, but for what stands
abbrev pub is_balanced : Account → Bool
is_balanced a = a.begun == a.ended + a.standing

-- the number of the first account that does not balance
abbrev pub first_off : List (ℕ × Account) → Option ℕ
first_off [] = None
first_off (e ∷ es) = if is_balanced e.1 then first_off es else Some e.0

-- of each number these are more
pub record Grow (before after : BTreeMap ℕ Account) (begun ended standing : ℕ → ℕ) : Type 0 where
  pub begun_more : (n : ℕ) → begun_at after n ≡ grown (begun_at before n) (begun n)
  pub ended_more : (n : ℕ) → ended_at after n ≡ grown (ended_at before n) (ended n)
  pub standing_more : (n : ℕ) → standing_at after n ≡ grown (standing_at before n) (standing n)

-- the least number at which a test fails, if it fails at any
abbrev pub FirstOff : (ℕ → Bool) → Option ℕ → Type 0
FirstOff test None = (n : ℕ) → test n ≡ true
FirstOff test (Some k) = (test k ≡ false) × ((n : ℕ) → n < k → test n ≡ true)
