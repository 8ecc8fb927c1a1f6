-- How often a channel stands in a list, and what taking it out of the list and putting it at the end make of that.
use Rattle.std.proofs.Common.{◌≡◌, ℕ, zero, suc, ◌+◌, ◌<◌, ◌≤◌, Bool, true, false, eqb, ltb, List, [], ◌∷◌, ◌++◌, length, get_or, refl, le_of_suc-le-suc, not-suc-le-zero, arith}
use Rattle.std.specs.List.{remove, list_any}
use Rattle.std.proofs.lemmas.Grind.{common_steps}
use Rattle.turn_pool.specs.Lists.{once, times, without}

pub once_small : (b : Bool) → once b ≤ 1
once_small true = omega arith
once_small false = omega arith

pub times_append : (k : ℕ) (xs ys : List ℕ) → times k (xs ++ ys) ≡ times k xs + times k ys
times_append k [] ys = omega arith
times_append k (x ∷ xs) ys = omega (arith, times_append k xs ys)

pub times_at : (xs : List ℕ) (i c : ℕ) → i < length xs → get_or xs i 0 ≡ c → 0 < times c xs
times_at [] i c h e = absurd (not-suc-le-zero h)
times_at (x ∷ xs) zero c h e = grind (arith, common_steps)
times_at (x ∷ xs) (suc i) c h e = omega (arith, times_at xs i c (le_of_suc-le-suc h) e)

pub times_none : (xs : List ℕ) (c : ℕ) → ((i : ℕ) → i < length xs → get_or xs i 0 ≡ c → ⊥) → times c xs ≡ 0
times_none [] c h = refl
times_none (x ∷ xs) c h =
    let head : x ≡ c → ⊥ = h 0 (omega arith) in
    grind (arith, common_steps, times_none xs c (λ i l. h (suc i) (omega arith)))

-- taking out the first c
pub removed_without : (xs : List ℕ) (i c : ℕ) → i < length xs → get_or xs i 0 ≡ c → ((j : ℕ) → j < i → get_or xs j 0 ≡ c → ⊥) → remove xs i ≡ without c xs
removed_without [] i c h e before = absurd (not-suc-le-zero h)
removed_without (x ∷ xs) zero c h e before = grind (arith, common_steps)
removed_without (x ∷ xs) (suc i) c h e before =
    let head : x ≡ c → ⊥ = before 0 (omega arith) in
    grind (arith, common_steps, removed_without xs i c (le_of_suc-le-suc h) e (λ j l. before (suc j) (omega (arith, l))))

pub times_without : (k c : ℕ) (xs : List ℕ) → 0 < times c xs → times k (without c xs) + once (eqb c k) ≡ times k xs
times_without k c [] some = absurd (not-suc-le-zero some)
times_without k c (x ∷ xs) some = grind (arith, common_steps, times_without k c xs)

-- whether a channel stands in a list
pub times_any : (c : ℕ) (xs : List ℕ) → ltb 0 (times c xs) ≡ list_any (λ y. eqb y c) xs
times_any c [] = refl
times_any c (x ∷ xs) = grind (arith, common_steps, times_any c xs)
