-- Words on lists of channel numbers.
use Rattle.std.specs.Prelude.{◌≡◌, ℕ, ◌+◌, ◌<◌, Bool, if◌then◌else◌, List, [], ◌∷◌, length, Some, None, Option, ◌==◌, ◌≢◌, slice_index}

-- 1 for yes, 0 for no
abbrev pub once : Bool → ℕ
once b = if b then 1 else 0

-- how often channel c stands in a list
abbrev pub times : ℕ → List ℕ → ℕ
times c [] = 0
times c (x ∷ xs) = once (x == c) + times c xs

-- the first of a list, if there is one
abbrev pub first : List ℕ → Option ℕ
first [] = None
first (x ∷ xs) = Some x

-- all but the first
abbrev pub rest : List ℕ → List ℕ
rest [] = []
rest (x ∷ xs) = xs

-- the list without the first c in it; the others keep their order
abbrev pub without : ℕ → List ℕ → List ℕ
without c [] = []
without c (x ∷ xs) = if x == c then xs else x ∷ without c xs

-- the first place of channel c in a list; or none, where it does not stand there
abbrev pub FirstAt : Option ℕ → ℕ → List ℕ → Type 0
FirstAt None c xs = times c xs ≡ 0
FirstAt (Some i) c xs = (i < length xs) × (slice_index xs i ≡ c) × ((j : ℕ) → j < i → slice_index xs j ≢ c)
