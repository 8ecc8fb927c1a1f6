-- What an element leaves in the octets that it is written to, on every way out.
use Rattle.std.specs.Prelude.{◌≡◌, ℕ, ◌+◌, ◌-◌, min, Bool, if◌then◌else◌, ◌&&◌, List, ◌∷◌, ◌++◌, length, take, drop, Ok, Err, Result, ◌==◌, nat_lt}
use Rattle.refusals.specs.declared.Ground.{Ground}
use Rattle.refusals.specs.declared.Ground.TheVariants.{BufferTooShort}

-- the element of the first n contents at the front, and the octets behind it as they were
abbrev pub over : List ℕ → ℕ → ℕ → List ℕ → List ℕ
over buffer id n contents = id ∷ n ∷ (take n contents ++ drop (2 + n) buffer)

-- whether one more octet has a place behind n
abbrev pub room_for : List ℕ → ℕ → Bool
room_for buffer n = nat_lt n 255 && nat_lt (n + 2) (length buffer)

-- how many contents find a place
abbrev pub placed : List ℕ → List ℕ → ℕ
placed buffer contents = min (length contents) (min 255 (length buffer - 2))

-- the octets behind a writing
abbrev pub element_buffer : List ℕ → ℕ → List ℕ → List ℕ
element_buffer buffer id contents = if nat_lt (length buffer) 2 then buffer else over buffer id (placed buffer contents) contents

-- how many octets the element takes, where all its contents found a place
abbrev pub element_answer : List ℕ → List ℕ → Result ℕ Ground
element_answer buffer contents =
    if nat_lt (length buffer) 2 then Err BufferTooShort
    else if placed buffer contents == length contents then Ok (2 + length contents) else Err BufferTooShort

-- the only ground on which an octet is refused
abbrev pub ShortOnly : Result Unit Ground → Type 0
ShortOnly (Ok x) = Unit {0}
ShortOnly (Err why) = why ≡ BufferTooShort
