-- The calls of a table in the order of their places count as the table does.
use Rattle.std.proofs.Common.{◌≡◌, ℕ, zero, suc, ◌+◌, List, [], ◌∷◌, Some, None, Option, length, filter_map, get_or, refl, ap, ap₂, ◌∙◌, subst, arith}
use Rattle.std.specs.List.{range_with_len, cons_option}
use Rattle.calls.specs.declared.record.Call.{Call}
use Rattle.calls.specs.Sides.{on_call, sum_of}
use Rattle.ledger.specs.Counts.{Counted, counts_call, counts_calls}
use Rattle.scripts.specs.Ending.{calls_of}

-- what stands in the places from a on
abbrev from_place : List (Option Call) → ℕ → ℕ → List Call
from_place table a n = filter_map (λ place. get_or table place None) (range_with_len a n)

one_place_on : (o : Option Call) (os : List (Option Call)) (a b n : ℕ) → b ≡ suc a → from_place (o ∷ os) b n ≡ from_place os a n
one_place_on o os a b zero e = refl
one_place_on o os a b (suc n) e =
    ap₂ cons_option (ap (λ (i : ℕ). get_or (o ∷ os) i None) e) (one_place_on o os (a + 1) (b + 1) n (omega (arith, e)))

zero_more : (n : ℕ) → n ≡ 0 + n
zero_more n = omega arith

counted : (k : Counted) (table : List (Option Call)) → counts_calls k (from_place table 0 (length table)) ≡ sum_of (counts_call k) table
counted k [] = refl
counted k (None ∷ os) = ap (counts_calls k) (one_place_on None os 0 1 (length os) refl) ∙ counted k os ∙ zero_more (sum_of (counts_call k) os)
counted k (Some c ∷ os) = ap (λ (cs : List Call). counts_call k c + counts_calls k cs) (one_place_on (Some c) os 0 1 (length os) refl) ∙ ap (λ (n : ℕ). counts_call k c + n) (counted k os)

pub calls_count : (k : Counted) (table : List (Option Call)) → length table ≡ 64 → counts_calls k (calls_of table) ≡ sum_of (counts_call k) table
calls_count k table whole = subst (λ (n : ℕ). counts_calls k (from_place table 0 n) ≡ sum_of (counts_call k) table) whole (counted k table)
