-- What the length octet makes of the octets that were put.
use Rattle.std.proofs.Common.{◌≡◌, ℕ, suc, ◌+◌, ◌≤◌, List, [], ◌∷◌, length, set, sym, ap, ◌∙◌, arith}
use lib.Seq.{paste}
use Rattle.std.proofs.lemmas.Bool.{le-ltb, cond-false}
use Rattle.writer.specs.Element.{over, placed, element_buffer}

set_over : (xs rest : List ℕ) (id first k : ℕ) → 3 ≤ length xs → set (paste (set (set xs 0 id) 2 first) 3 rest k) 1 (suc k) ≡ over xs id (suc k) (first ∷ rest)
set_over [] rest id first k h = absurd (omega arith)
set_over (a ∷ []) rest id first k h = absurd (omega arith)
set_over (a ∷ b ∷ []) rest id first k h = absurd (omega arith)
set_over (a ∷ b ∷ c ∷ xs) rest id first k h =
    let e : 3 + k ≡ suc (suc (suc k)) = omega arith in
    let f : 2 + suc k ≡ suc (suc (suc k)) = omega arith in
    simp (e, f)

pub closed : (xs rest : List ℕ) {ys zs : List ℕ} (id first k n : ℕ) → 3 ≤ length xs → n ≡ k + 1 → n ≡ placed xs (first ∷ rest) → ys ≡ paste (set (set xs 0 id) 2 first) 3 rest k → zs ≡ set ys 1 n → zs ≡ element_buffer xs id (first ∷ rest)
closed xs rest id first k n h m p e f =
    let s : n ≡ suc k = omega arith in
    simp (f, e, s) (set_over xs rest id first k h ∙ ap (λ j. over xs id j (first ∷ rest)) (sym s ∙ p) ∙ sym (cond-false _ _ _ (le-ltb (length xs) 2 (omega arith))))
