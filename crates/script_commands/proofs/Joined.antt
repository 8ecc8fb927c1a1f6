-- Words one behind the other.
use Rattle.std.proofs.Common.{ℕ, ◌≡◌, List, [], ◌∷◌, ◌++◌, map, flat_map, refl, ap}
use Rattle.std.specs.List.{concat}

pub joined : {A : Type 0} (f : A → List ℕ) (xs : List A) → flat_map f xs ≡ concat (map f xs)
joined f [] = refl
joined f (x ∷ xs) = ap (λ rest. f x ++ rest) (joined f xs)
