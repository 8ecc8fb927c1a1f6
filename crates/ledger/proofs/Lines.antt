-- The text of the lines so far, and of one line more.
use Rattle.std.proofs.Common.{◌≡◌, ℕ, List, [], ◌∷◌, ◌++◌, map, flat_map, sym, ap, ◌∙◌, Bor}
use Rattle.std.proofs.lemmas.List.{map-append, flat_map_more}
use Rattle.std.specs.Map.Iter.{deref_pair}

-- the lines of what a loop over a map has yielded
abbrev pub lines_of : {X : Type 0} → (ℕ × X → List ℕ) → List (Bor ℕ × Bor X) → List ℕ
lines_of {X} line items = flat_map line (map (deref_pair {K = ℕ} {X = X}) items)

pub one_line_more : {X : Type 0} (line : ℕ × X → List ℕ) (items : List (Bor ℕ × Bor X)) (item : Bor ℕ × Bor X) → lines_of line items ++ line (deref_pair item) ≡ lines_of line (items ++ item ∷ [])
one_line_more {X} line items item =
    flat_map_more line [] (map deref_pair items) (deref_pair item) ∙ ap (flat_map line) (sym (map-append (deref_pair {K = ℕ} {X = X}) items (item ∷ [])))
