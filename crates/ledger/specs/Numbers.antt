-- Numbers of times that never pass the largest number of 64 bits.
use Rattle.std.specs.Prelude.{ℕ, ◌+◌, ◌==◌, if◌then◌else◌, min}

-- the lesser of n and the largest number of 64 bits
abbrev pub capped : ℕ → ℕ
capped n = min n 18446744073709551615

-- n more than before, capped; none more leaves what was
abbrev pub grown : ℕ → ℕ → ℕ
grown before n = if n == 0 then before else capped (before + n)
