-- A lookup in a table of pairs, whatever the table.
use Rattle.std.proofs.Common.{◌≡◌, ℕ, ◌≤◌, true, false, cond, ◌&&◌, eqb, List, [], ◌∷◌, Some, sym, refl, subst, lit≤, rules}
use Rattle.std.specs.List.{find}
use Rattle.std.specs.Option.{option_map_or}
use Rattle.std.proofs.lemmas.Bool.{and_parts, cond_both}
use Rattle.causes.specs.Names.{call_rejected, user, decline, server_internal_error}
use Rattle.causes.specs.Mapping.{cause_rows, second_of, Between, within, all_within, status_of}

-- the lookup is a search for the first row that begins with the key
pub searched : (rows : List (ℕ × ℕ)) (key other : ℕ) → option_map_or (λ row. row.1) (find (λ row. eqb row.0 key) rows) other ≡ second_of rows key other
searched [] key other = refl
searched (row ∷ rest) key other =
    let later = searched rest key other in
    elim (eqb row.0 key) as (λ v. option_map_or (λ row. row.1) (cond v (Some row) (find (λ row. eqb row.0 key) rest)) other ≡ cond v row.1 (second_of rest key other)) [ true ↦ refl | false ↦ later ]

found : (rows : List (ℕ × ℕ)) (key other : ℕ) → Between rows other (second_of rows key other)
found [] key other low high h = search rules
found (row ∷ rest) key other low high h =
    let both = and_parts (within low high row.1) (all_within low high rest other) h in
    let here : (low ≤ row.1) × (row.1 ≤ high) = search (rules, both.0) in
    let later = found rest key other low high both.1 in
    elim (eqb row.0 key) as (λ v. (low ≤ cond v row.1 (second_of rest key other)) × (cond v row.1 (second_of rest key other) ≤ high)) [ true ↦ here | false ↦ later ]

-- the answer keeps the limits of its table
pub between : (rows : List (ℕ × ℕ)) (key other r : ℕ) → r ≡ second_of rows key other → Between rows other r
between rows key other r e = subst (Between rows other) (sym e) (found rows key other)

-- the status for a cause is a final response that refuses, whatever the numbers
pub final_failure : (cause location : ℕ) → (300 ≤ status_of cause location) × (status_of cause location ≤ 699)
final_failure cause location =
    cond_both (eqb cause call_rejected && eqb location user) decline (second_of cause_rows cause server_internal_error) (λ (status : ℕ). (300 ≤ status) × (status ≤ 699))
    (λ _. (lit≤ tt, lit≤ tt)) (λ _. found cause_rows cause server_internal_error 300 699 refl)
