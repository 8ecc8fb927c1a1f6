-- Octets as text: two hexadecimal digits each, spaces wherever one likes.
use Rattle.std.specs.Prelude.{ℕ, ◌+◌, ◌-◌, ◌*◌, Bool, if◌then◌else◌, ◌&&◌, ◌||◌, List, [], ◌∷◌, Some, None, Option, ◌==◌, nat_le}
use Rattle.std.specs.Option.{option_map}

abbrev pub is_blank : ℕ → Bool
is_blank x = x == 32 || x == 9

-- what a hexadecimal digit stands for, in upper or lower case
abbrev pub digit_of : ℕ → Option ℕ
digit_of x =
    if nat_le 48 x && nat_le x 57 then Some (x - 48)
    else if nat_le 65 x && nat_le x 70 then Some (x - 55)
    else if nat_le 97 x && nat_le x 102 then Some (x - 87) else None

-- what the text behind a digit comes to: pending is the first digit of an octet whose second is still to come
abbrev pub paired : Option ℕ → Option ℕ → (Option ℕ → Option (List ℕ)) → Option (List ℕ)
paired pending None rest = None
paired None (Some digit) rest = rest (Some digit)
paired (Some high) (Some digit) rest = option_map (λ octets. (high * 16 + digit) ∷ octets) (rest None)

-- at the end of the text no octet may be half there
abbrev pub ended : Option ℕ → Option (List ℕ)
ended None = Some []
ended (Some high) = None

abbrev pub octets_from : Option ℕ → List ℕ → Option (List ℕ)
octets_from pending [] = ended pending
octets_from pending (x ∷ xs) = if is_blank x then octets_from pending xs else paired pending (digit_of x) (λ more. octets_from more xs)

-- the octets that a text stands for, if it is hexadecimal
abbrev pub octets_in : List ℕ → Option (List ℕ)
octets_in text = octets_from None text
