-- Lists of channel numbers.
use Rattle.std.specs.Prelude.{ℕ, ◌^◌, List, [], ◌∷◌, Some, None, Option, ◌==◌}
use Rattle.std.specs.List.{slice_split}
use Rattle.std.specs.Option.{option_map}
use Rattle.script_words.specs.Numbers.{number_below}

-- a number before others, if all are numbers
abbrev pub before : Option ℕ → Option (List ℕ) → Option (List ℕ)
before None rest = None
before (Some x) rest = option_map (λ xs. x ∷ xs) rest

-- numbers up to 255, one for each part, if all parts are
abbrev pub octets_of : List (List ℕ) → Option (List ℕ)
octets_of [] = Some []
octets_of (part ∷ parts) = before (number_below (2 ^ 8) part) (octets_of parts)

-- the numbers between the commas of a list
abbrev pub channels_of : List ℕ → Option (List ℕ)
channels_of list = octets_of (slice_split (λ x. x == 44) list)
