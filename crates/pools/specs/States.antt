-- What a pool holds each channel number to be, and what each operation makes of it.
use Rattle.std.specs.Prelude.{◌≡◌, ℕ, Bool, true, false, if◌then◌else◌, Some, None, Option, ◌==◌}
use Rattle.pools.specs.declared.channel.ChannelState.{ChannelState}
use Rattle.pools.specs.declared.channel.ChannelState.TheVariants.{Unknown, Idle, Seized}

-- the meaning of a pool: the state of each number
abbrev pub States : Type 0
States = ℕ → ChannelState

-- is it one of the pool's channels
abbrev pub known : ChannelState → Bool
known Unknown = false
known _ = true

-- may it be seized
abbrev pub idle : ChannelState → Bool
idle Idle = true
idle _ = false

-- may it be released
abbrev pub seized : ChannelState → Bool
seized Seized = true
seized _ = false

-- channel c in state x, and every other as it was
abbrev pub put : States → ℕ → ChannelState → States
put s c x k = if k == c then x else s k

-- the states after a seizure of c, granted or not
abbrev pub after_seize : Bool → ℕ → States → States
after_seize granted c s k = if granted then put s c Seized k else s k

-- the states after a release of c, granted or not
abbrev pub after_release : Bool → ℕ → States → States
after_release granted c s k = if granted then put s c Idle k else s k

-- the states after a seizure that answered this channel, or none
abbrev pub after_any : Option ℕ → States → States
after_any None s k = s k
after_any (Some c) s k = put s c Seized k

-- the answered channel was idle; or there is no answer, and no channel was idle
abbrev pub AnyWasIdle : Option ℕ → States → Type 0
AnyWasIdle None s = (k : ℕ) → idle (s k) ≡ false
AnyWasIdle (Some c) s = idle (s c) ≡ true
