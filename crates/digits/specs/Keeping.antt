-- Digits that can be kept: as they came, or nothing where they are too many.
use Rattle.std.specs.Prelude.{◌≡◌, ℕ, true, false, List, Some, None, Option}
use Rattle.digits.specs.declared.dialled.Dialled.{Dialled}
use Rattle.calls.specs.Effects.{is_too_many}

-- the digits as they came, or nothing where they are too many
abbrev pub Keeps : List ℕ → Option Dialled → Type 0
Keeps xs None = is_too_many xs ≡ true
Keeps xs (Some d) = (is_too_many xs ≡ false) × (d.octets.now ≡ xs)
