-- Which lists of channels make a pool: not empty, at most 64 long, every number one that an octet's low seven bits can say and
-- not 0, none of them twice.
use Rattle.std.specs.Prelude.{◌≡◌, ℕ, ◌+◌, ◌≤◌, Bool, true, false, if◌then◌else◌, List, length, ◌==◌, nat_lt}
use Rattle.turn_pool.specs.Lists.{once, times}

-- from 1 to 64
abbrev pub counted : ℕ → Bool
counted n = if n == 0 then false else nat_lt n 65

-- from 1 to 127
abbrev pub number : ℕ → Bool
number k = if k == 0 then false else nat_lt k 128

-- a number from 1 to 127 stands in the list at most once, any other never
abbrev pub Different : List ℕ → Type 0
Different list = (k : ℕ) → times k list ≤ once (number k)

-- the lists that make a pool
abbrev pub Fits : List ℕ → Type 0
Fits list = (counted (length list) ≡ true) × Different list

-- the same over two lists together: a channel is idle or seized, and stands in its list once
abbrev pub Apart : List ℕ → List ℕ → Type 0
Apart idle seized = (k : ℕ) → times k idle + times k seized ≤ once (number k)
