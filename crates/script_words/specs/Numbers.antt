-- Words that are decimal numbers: digits and nothing else, behind a plus sign or none.
use Rattle.std.specs.Prelude.{ℕ, Bool, ◌&&◌, List, length, Some, None, Option, if◌then◌else◌, nat_lt}
use Rattle.std.specs.Str.{all_ascii_digits}
use Rattle.std.specs.Str.Parse.{digits_value, without_leading_plus}

abbrev pub is_numeral : List ℕ → Bool
is_numeral digits = nat_lt 0 (length digits) && all_ascii_digits digits

-- the number that digits write, if they are digits and it lies below the limit
abbrev pub value_below : ℕ → List ℕ → Option ℕ
value_below limit digits = if is_numeral digits && nat_lt (digits_value 10 digits) limit then Some (digits_value 10 digits) else None

abbrev pub number_below : ℕ → List ℕ → Option ℕ
number_below limit word = value_below limit (without_leading_plus word)
