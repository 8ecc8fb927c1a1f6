-- Digits laid one behind the other over noughts.
use Rattle.std.proofs.Common.{◌≡◌, ℕ, ◌+◌, ◌-◌, List, ◌++◌, length, take, drop, replicate, ap, ◌∙◌, arith, length-append}
use Rattle.std.proofs.lemmas.List.{drop-replicate}
use Rattle.std.proofs.Math.Seq.{take-append_seam, drop-append-add}

-- behind the first stand as many noughts as are left of 20, and the others are laid over them: all digits in their order, and noughts after them
pub laid : (xs ys noughts : List ℕ) → noughts ≡ replicate (20 - length xs) 0
    → (take (length xs) (xs ++ noughts) ++ ys) ++ drop (length xs + length ys) (xs ++ noughts) ≡ (xs ++ ys) ++ replicate (20 - length (xs ++ ys)) 0
laid xs ys noughts e =
    let left : 20 - length xs - length ys ≡ 20 - length (xs ++ ys) = simp length-append (omega arith) in
    let rest : drop (length ys) noughts ≡ replicate (20 - length (xs ++ ys)) 0 =
    ap (λ l. drop (length ys) l) e ∙ drop-replicate (length ys) (20 - length xs) 0 ∙ ap (λ k. replicate k 0) left in
    rw (take-append_seam xs noughts, drop-append-add xs noughts (length ys)) (ap (λ l. (xs ++ ys) ++ l) rest)
