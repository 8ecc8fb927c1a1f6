-- What the two lists of a pool mean, and what a move of a channel from one to the other means.
use Rattle.std.specs.Prelude.{◌≡◌, ℕ, Bool, if◌then◌else◌, List, nat_lt}
use Rattle.pools.specs.declared.channel.ChannelState.{ChannelState}
use Rattle.pools.specs.declared.channel.ChannelState.TheVariants.{Unknown, Idle, Seized}
use Rattle.pools.specs.States.{States, idle, seized, after_seize, after_release}
use Rattle.turn_pool.specs.Lists.{times}
use Rattle.turn_pool.specs.Listing.{Apart}

-- by how often a channel stands among the idle and among the seized
abbrev pub by_times : ℕ → ℕ → ChannelState
by_times m n = if nat_lt 0 m then Idle else if nat_lt 0 n then Seized else Unknown

-- a channel is idle or seized by the list in which it stands
abbrev pub shown : List ℕ → List ℕ → States
shown idle seized k = by_times (times k idle) (times k seized)

-- a move from the idle to the seized ones: granted exactly if c is idle, and then c alone is seized
abbrev pub ActsAsSeizure : Bool → ℕ → List ℕ → List ℕ → List ℕ → List ℕ → Type 0
ActsAsSeizure granted c xs ys xs' ys' =
    Apart xs ys → (granted ≡ idle (shown xs ys c)) × Apart xs' ys' × ((k : ℕ) → shown xs' ys' k ≡ after_seize granted c (shown xs ys) k)

-- a move from the seized to the idle ones: granted exactly if c is seized, and then c alone is idle
abbrev pub ActsAsRelease : Bool → ℕ → List ℕ → List ℕ → List ℕ → List ℕ → Type 0
ActsAsRelease granted c ys xs ys' xs' =
    Apart xs ys → (granted ≡ seized (shown xs ys c)) × Apart xs' ys' × ((k : ℕ) → shown xs' ys' k ≡ after_release granted c (shown xs ys) k)
