-- The first account of a list in the order of its numbers that does not balance is that of the least number.
use Rattle.std.proofs.Common.{◌≡◌, ℕ, ◌<◌, ◌≤◌, true, false, List, [], ◌∷◌, Some, None, Option, refl, Less, arith}
use Rattle.std.specs.Option.{unwrap_or}
use Rattle.std.specs.Ordering.{nat_cmp}
use Rattle.std.specs.Map.{lookup, keys_of}
use Rattle.std.specs.BTreeMap.{is_at}
use Rattle.std.specs.List.{AllByRecursion}
use Rattle.std.specs.List.Sorted.{IsStrictlySortedBy}
use Rattle.std.proofs.lemmas.Grind.{common_steps}
use Rattle.std.proofs.lemmas.Map.Keys.{sorted_head, sorted_tail}
use Rattle.ledger.specs.declared.account.Account.{Account}
use Rattle.ledger.specs.Accounts.{empty, is_balanced, first_off, FirstOff}

abbrev pub account_in : List (ℕ × Account) → ℕ → Account
account_in es n = unwrap_or (lookup (is_at (nat_cmp n)) es) empty

-- no number up to k has an account among those of greater numbers
missing : (k n : ℕ) (es : List (ℕ × Account)) → AllByRecursion (λ y. nat_cmp k y ≡ Less) (keys_of es) → n ≤ k → lookup (is_at (nat_cmp n)) es ≡ None
missing k n [] a l = refl
missing k n (e ∷ es) a l = grind (arith, common_steps, a.0, missing k n es a.1 l)

all_balance : (es : List (ℕ × Account)) (n : ℕ) → first_off es ≡ None → is_balanced (account_in es n) ≡ true
all_balance [] n h = refl
all_balance (e ∷ es) n h = grind (arith, common_steps, all_balance es n)

is_off : (es : List (ℕ × Account)) (k : ℕ) → IsStrictlySortedBy nat_cmp (keys_of es) → first_off es ≡ Some k → is_balanced (account_in es k) ≡ false
is_off [] k s h = absurd (grind (arith, common_steps))
is_off (e ∷ es) k s h =
    let above = sorted_head nat_cmp e.0 (keys_of es) s in
    grind (arith, common_steps, missing e.0 k es above, is_off es k (sorted_tail nat_cmp e.0 (keys_of es) s))

less_balance : (es : List (ℕ × Account)) (k : ℕ) → IsStrictlySortedBy nat_cmp (keys_of es) → (n : ℕ) → n < k → first_off es ≡ Some k → is_balanced (account_in es n) ≡ true
less_balance [] k s n l h = refl
less_balance (e ∷ es) k s n l h =
    let above = sorted_head nat_cmp e.0 (keys_of es) s in
    grind (arith, common_steps, missing e.0 n es above, less_balance es k (sorted_tail nat_cmp e.0 (keys_of es) s) n l)

pub least_off : (es : List (ℕ × Account)) (r : Option ℕ) → IsStrictlySortedBy nat_cmp (keys_of es) → first_off es ≡ r → FirstOff (λ n. is_balanced (account_in es n)) r
least_off es None s h = λ n. all_balance es n h
least_off es (Some k) s h = (is_off es k s h, λ n l. less_balance es k s n l h)
