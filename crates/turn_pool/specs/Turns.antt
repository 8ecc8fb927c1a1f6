-- What a pool of channels that take turns means, and its moves.
use Rattle.std.specs.Prelude.{◌≡◌, ℕ, Bool, if◌then◌else◌, List, [], ◌∷◌, ◌++◌, Some, None, Option, nat_lt}
use Rattle.pools.specs.States.{States}
use Rattle.turn_pool.specs.Lists.{times, first, rest, without}
use Rattle.turn_pool.specs.Moves.{shown}
use Rattle.turn_pool.specs.declared.turns.TurnPool.{TurnPool}

-- the idle channels, the longest idle first
abbrev pub idle_order : TurnPool → List ℕ
idle_order pool = pool.idle.items

-- the seized channels
abbrev pub seized_ones : TurnPool → List ℕ
seized_ones pool = pool.seized.items

-- the meaning of the pool
abbrev pub states : TurnPool → States
states pool = shown (idle_order pool) (seized_ones pool)

-- ---------------------------------------------------------------- its moves
-- channel c goes out of one list, whose others keep their order, to the end of the other: granted exactly if it stands
-- in the one; else both lists stay as they are
abbrev pub Goes : ℕ → Bool → List ℕ → List ℕ → List ℕ → List ℕ → Type 0
Goes c granted from to from' to' =
    (granted ≡ nat_lt 0 (times c from)) × (from' ≡ (if granted then without c from else from)) × (to' ≡ (if granted then to ++ c ∷ [] else to))

abbrev pub Seizes : TurnPool → ℕ → Bool → TurnPool → Type 0
Seizes p c granted q = Goes c granted (idle_order p) (seized_ones p) (idle_order q) (seized_ones q)

abbrev pub Releases : TurnPool → ℕ → Bool → TurnPool → Type 0
Releases p c granted q = Goes c granted (seized_ones p) (idle_order p) (seized_ones q) (idle_order q)

-- a list with a channel at its end, where there is one
abbrev pub joined : List ℕ → Option ℕ → List ℕ
joined xs None = xs
joined xs (Some c) = xs ++ c ∷ []

-- the longest idle is seized, if one is idle; the rest waits on
abbrev pub SeizesAny : TurnPool → Option ℕ → TurnPool → Type 0
SeizesAny p taken q =
    (taken ≡ first (idle_order p)) × (idle_order q ≡ rest (idle_order p)) × (seized_ones q ≡ joined (seized_ones p) taken)
