-- Reading a list from its front: when its numbers are different, and when they are not.
use Rattle.std.proofs.Common.{◌≡◌, ℕ, zero, suc, ◌+◌, ◌<◌, ◌≤◌, subst, take_all, Bool, true, false, cond, eqb, ltb, List, [], ◌∷◌, length, get_or, take, drop, sym, ap, ◌∙◌, arith, take-append-drop}
use Rattle.std.proofs.lemmas.List.{take_more}
use Rattle.std.specs.Bool.{MatchBool}
use Rattle.std.specs.List.{AllWithin, HoldsAt, enumerate_from}
use Rattle.std.proofs.lemmas.List.FromFn.{length-enumerate_from, get_or-enumerate_from}
use Rattle.std.proofs.lemmas.Grind.{common_steps}
use Rattle.turn_pool.specs.Lists.{once, times}
use Rattle.turn_pool.specs.Listing.{number, Different}
use Rattle.turn_pool.proofs.Counts.{once_small, times_append}

times_parts : (k n : ℕ) (xs : List ℕ) → times k (take n xs) + times k (drop n xs) ≡ times k xs
times_parts k n xs = sym (times_append k (take n xs) (drop n xs)) ∙ ap (times k) (take-append-drop n xs)

times_more : (k i : ℕ) (xs : List ℕ) → i < length xs → times k (take (i + 1) xs) ≡ times k (take i xs) + once (eqb (get_or xs i 0) k)
times_more k i xs h = omega (arith, ap (times k) (take_more xs i 0 h), times_append k (take i xs) (get_or xs i 0 ∷ []))

-- a number that is new to those before it
abbrev pub new_to : List ℕ → ℕ → Bool
new_to before c = cond (ltb 0 (times c before)) false (number c)

different_more : (xs : List ℕ) (i : ℕ) → i < length xs → new_to (take i xs) (get_or xs i 0) ≡ true → Different (take i xs) → Different (take (i + 1) xs)
different_more xs i h new before k = grind (arith, common_steps, before k, times_more k i xs h)

not_different : (xs : List ℕ) (i : ℕ) → i < length xs → new_to (take i xs) (get_or xs i 0) ≡ false → Different xs → ⊥
not_different xs i h old all =
    let c = get_or xs i 0 in
    grind (arith, common_steps, all c, once_small (number c), times_more c i xs h, times_parts c (i + 1) xs)

-- at each place of a list stands its number, which is new to those before it or is not
place_of_pair : (xs : List ℕ) (k : ℕ) (b : Bool) → k < length xs → HoldsAt (λ p. new_to (take p.0 xs) p.1 ≡ b) (enumerate_from 0 xs) k → new_to (take k xs) (get_or xs k 0) ≡ b
place_of_pair xs k b l h =
    subst (λ (p : ℕ × ℕ). new_to (take p.0 xs) p.1 ≡ b) (get_or-enumerate_from 0 xs k (0, 0) l ∙ ap (λ (n : ℕ). (n, get_or xs k 0)) (omega arith)) (h (0, 0))

different_front : (xs : List ℕ) (n : ℕ) → n ≤ length xs → ((k : ℕ) → k < length xs → new_to (take k xs) (get_or xs k 0) ≡ true) → Different (take n xs)
different_front xs zero l h = λ k. omega arith
different_front xs (suc n) l h =
    let e : n + 1 ≡ suc n = omega arith in
    subst (λ (m : ℕ). Different (take m xs)) e (different_more xs n (omega (arith, l)) (h n (omega (arith, l))) (different_front xs n (omega (arith, l)) h))

pub each_is_new : (r : Bool) (xs : List ℕ) → MatchBool r (AllWithin (λ p. new_to (take p.0 xs) p.1 ≡ true) (enumerate_from 0 xs) 0 (length (enumerate_from 0 xs)))
    ((k : ℕ) × (k < length (enumerate_from 0 xs)) × HoldsAt (λ p. new_to (take p.0 xs) p.1 ≡ false) (enumerate_from 0 xs) k) → MatchBool r (Different xs) (Different xs → ⊥)
each_is_new true xs h =
    let count = length-enumerate_from 0 xs in
    subst Different (take_all (length xs) xs (omega arith)) (different_front xs (length xs) (omega arith) (λ k l. place_of_pair xs k true l (λ d. h k d (omega arith) (omega (arith, l, count)))))
each_is_new false xs h =
    let l : h.0 < length xs = omega (arith, h.1, length-enumerate_from 0 xs) in
    not_different xs h.0 l (place_of_pair xs h.0 false l h.2)
