-- The places of the table: a search, a sum, and one place that is replaced.
use Rattle.std.proofs.Common.{◌≡◌, ℕ, zero, suc, ◌+◌, ◌<◌, ◌≤◌, Bool, true, false, List, [], ◌∷◌, length, get_or, set, replicate, Some, None, Option, refl, ap, le_of_suc-le-suc, not-suc-le-zero, arith, MatchOption}
use Rattle.std.proofs.lemmas.Bool.{cond_both}
use Rattle.calls.specs.Records.{Call, Found}
use Rattle.calls.specs.Sides.{on_call, sum_of}
use Rattle.calls.specs.Standing.{Everywhere}
use Rattle.calls.specs.Rules.{later, seek}

-- what holds at every place
pub everywhere_at : (P : Option Call → Type 0) → P None → (os : List (Option Call)) (i : ℕ) → Everywhere P os → P (get_or os i None)
everywhere_at P n [] i h = n
everywhere_at P n (o ∷ os) zero h = h.0
everywhere_at P n (o ∷ os) (suc i) h = everywhere_at P n os i h.1

pub everywhere_set : (P : Option Call → Type 0) (os : List (Option Call)) (i : ℕ) (o : Option Call) → Everywhere P os → P o → Everywhere P (set os i o)
everywhere_set P [] i o h p = tt
everywhere_set P (x ∷ os) zero o h p = (p, h.1)
everywhere_set P (x ∷ os) (suc i) o h p = (h.0, everywhere_set P os i o h.1 p)

pub everywhere_none : (P : Option Call → Type 0) → P None → (n : ℕ) → Everywhere P (replicate n None)
everywhere_none P p zero = tt
everywhere_none P p (suc n) = (p, everywhere_none P p n)

-- the sum where one place is replaced
pub sum_of_set : (f : Call → ℕ) (os : List (Option Call)) (i : ℕ) (o : Option Call) → i < length os → sum_of f (set os i o) + on_call f (get_or os i None) ≡ sum_of f os + on_call f o
sum_of_set f [] i o h = absurd (not-suc-le-zero h)
sum_of_set f (x ∷ os) zero o h = omega arith
sum_of_set f (x ∷ os) (suc i) o h = omega (arith, sum_of_set f os i o (le_of_suc-le-suc h))

pub sum_of_none : (f : Call → ℕ) (n : ℕ) → sum_of f (replicate n None) ≡ 0
sum_of_none f zero = refl
sum_of_none f (suc n) = omega (arith, sum_of_none f n)

pub sum_of_at : (f : Call → ℕ) (os : List (Option Call)) (i : ℕ) → on_call f (get_or os i None) ≤ sum_of f os
sum_of_at f [] i = omega arith
sum_of_at f (x ∷ os) zero = omega arith
sum_of_at f (x ∷ os) (suc i) = omega (arith, sum_of_at f os i)

pub sum_of_le : (f g : Call → ℕ) → ((k : Call) → f k ≤ g k) → (os : List (Option Call)) → sum_of f os ≤ sum_of g os
sum_of_le f g h [] = omega arith
sum_of_le f g h (None ∷ os) = omega (arith, sum_of_le f g h os)
sum_of_le f g h (Some k ∷ os) = omega (arith, sum_of_le f g h os, h k)

-- where something is counted, a call counts
pub record Counted (f : Call → ℕ) (os : List (Option Call)) : Type 0 where
  pub place : ℕ
  pub call : Call
  pub there : get_or os place None ≡ Some call
  pub counts : 0 < f call

further : (f : Call → ℕ) (o : Option Call) (os : List (Option Call)) → Counted f os → Counted f (o ∷ os)
further f o os x = record { place = suc x.place; call = x.call; there = x.there; counts = x.counts }

first_counted : (f : Call → ℕ) (k : Call) (os : List (Option Call)) (n : ℕ) → f k ≡ n → (0 < sum_of f os → Counted f os) → 0 < n + sum_of f os → Counted f (Some k ∷ os)
first_counted f k os zero e rest h = further f (Some k) os (rest (omega (arith, h)))
first_counted f k os (suc n) e rest h = record { place = 0; call = k; there = refl; counts = omega (arith, e) }

pub counted : (f : Call → ℕ) (os : List (Option Call)) → 0 < sum_of f os → Counted f os
counted f [] h = absurd (not-suc-le-zero h)
counted f (None ∷ os) h = further f None os (counted f os (omega (arith, h)))
counted f (Some k ∷ os) h = first_counted f k os (f k) refl (counted f os) h

-- two places that count are one, where one is counted in all
pub one_place : (f : Call → ℕ) (os : List (Option Call)) → sum_of f os ≤ 1 → (i j : ℕ) → 0 < on_call f (get_or os i None) → 0 < on_call f (get_or os j None) → i ≡ j
one_place f [] h i j a b = absurd (not-suc-le-zero a)
one_place f (o ∷ os) h zero zero a b = refl
one_place f (o ∷ os) h zero (suc j) a b = absurd (omega (arith, h, a, b, sum_of_at f os j))
one_place f (o ∷ os) h (suc i) zero a b = absurd (omega (arith, h, a, b, sum_of_at f os i))
one_place f (o ∷ os) h (suc i) (suc j) a b = ap suc (one_place f os (omega (arith, h)) i j a b)

-- what a search finds
pub record Finds (p : Call → Bool) (os : List (Option Call)) (f : Found) : Type 0 where
  pub inside : f.place < length os
  pub here : get_or os f.place None ≡ Some f.call
  pub matches : p f.call ≡ true

-- no call matches, so that what counts matching calls alone counts none
abbrev pub Misses : (Call → Bool) → List (Option Call) → Type 0
Misses p os = (f : Call → ℕ) → ((k : Call) → p k ≡ false → f k ≡ 0) → sum_of f os ≡ 0

later_finds : (p : Call → Bool) (o : Option Call) (os : List (Option Call)) → ((f : Call → ℕ) → ((k : Call) → p k ≡ false → f k ≡ 0) → on_call f o ≡ 0) → (r : Option Found) → MatchOption r (Misses p os) (Finds p os) → MatchOption (later r) (Misses p (o ∷ os)) (Finds p (o ∷ os))
later_finds p o os z None h = λ f v. omega (arith, z f v, h f v)
later_finds p o os z (Some x) h = record { inside = omega (arith, h.inside); here = h.here; matches = h.matches }

pub seek_tells : (p : Call → Bool) (os : List (Option Call)) → MatchOption (seek p os) (Misses p os) (Finds p os)
seek_tells p [] = λ f v. refl
seek_tells p (None ∷ os) = later_finds p None os (λ f v. refl) (seek p os) (seek_tells p os)
seek_tells p (Some k ∷ os) =
    let rest = seek_tells p os in
    cond_both (p k) _ _ (λ r. MatchOption r (Misses p (Some k ∷ os)) (Finds p (Some k ∷ os)))
    (λ e. record { inside = omega arith; here = refl; matches = e })
    (λ e. later_finds p (Some k) os (λ f v. v k e) (seek p os) rest)
