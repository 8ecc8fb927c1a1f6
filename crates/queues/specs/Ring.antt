-- What waits in a ring of places.
use Rattle.std.specs.Prelude.{ℕ, ◌+◌, ◌-◌, if◌then◌else◌, List, [], ◌∷◌, ◌++◌, take, drop, Some, None, Option, ◌==◌, nat_lt}

-- the places in the order in which they are used
unfoldable pub ring : {M : Type 0} → List (Option M) → ℕ → List (Option M)
ring places first = drop first places ++ take first places

-- the messages in places, in their order
abbrev pub messages_in : {M : Type 0} → List (Option M) → List M
messages_in [] = []
messages_in (None ∷ rest) = messages_in rest
messages_in (Some m ∷ rest) = m ∷ messages_in rest

-- the messages in `len` places from `first` on, the oldest first
abbrev pub in_ring : {M : Type 0} → List (Option M) → ℕ → ℕ → List M
in_ring places first len = messages_in (take len (ring places first))

-- the place behind `len` used ones from `first` on, of `count` places
abbrev pub behind : ℕ → ℕ → ℕ → ℕ
behind first len count = if nat_lt len (count - first) then first + len else len - (count - first)

-- the place after `at`, of `count` places
abbrev pub place_after : ℕ → ℕ → ℕ
place_after at count = if at + 1 == count then 0 else at + 1
