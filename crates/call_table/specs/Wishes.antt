-- What a wish for a channel gets.
use Rattle.std.specs.Prelude.{◌≡◌, ℕ, Bool, true, false, Some, None, Option}
use Rattle.pools.specs.States.{States, idle, AnyWasIdle}

-- by whether the wished channel is idle, and whether the wish is exclusive: the wished one; none; or, where it is only
-- preferred, one that was idle, and none exactly if none was
abbrev pub WishGets : Bool → Bool → ℕ → States → Option ℕ → Type 0
WishGets true exclusive wished s got = got ≡ Some wished
WishGets false true wished s got = got ≡ None
WishGets false false wished s got = AnyWasIdle got s

-- the channel, if there is one, was idle
abbrev pub WasIdle : Option ℕ → States → Type 0
WasIdle None s = Unit {0}
WasIdle (Some c) s = idle (s c) ≡ true
