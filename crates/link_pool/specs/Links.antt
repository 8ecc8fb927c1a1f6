-- The channels of a link, which of them is taken first, and the moves of its table.
use Rattle.std.specs.Prelude.{◌≡◌, ℕ, ◌<◌, Bool, true, false, if◌then◌else◌, List, Some, None, Option, ◌==◌, nat_le, slice_index_or, slice_set}
use Rattle.pools.specs.declared.channel.ChannelState.{ChannelState}
use Rattle.pools.specs.declared.channel.ChannelState.TheVariants.{Unknown, Idle, Seized}
use Rattle.pools.specs.States.{States, idle, known, seized}

-- the number of the last channel
abbrev pub largest : ℕ
largest = 31

-- a channel of the link: 16 is none, nor is 0 or what lies above the last
abbrev pub on_link : ℕ → Bool
on_link k = if k == 0 then false else if k == 16 then false else nat_le k largest

-- the states that a table by channel number stands for
abbrev pub at : List ChannelState → States
at channels k = slice_index_or channels k Unknown

-- are two states the same
abbrev pub same : ChannelState → ChannelState → Bool
same Unknown x = if known x then false else true
same Idle x = idle x
same Seized x = seized x

-- every channel of a link idle
abbrev pub all_idle : States
all_idle k = if on_link k then Idle else Unknown

-- the table knows the channels of a link and no other number
abbrev pub LinkChannels : List ChannelState → Type 0
LinkChannels channels = (k : ℕ) → known (at channels k) ≡ known (all_idle k)

-- the channel is idle and none above it is; or there is none, and no channel is idle
abbrev pub HighestIdle : Option ℕ → States → Type 0
HighestIdle None s = (k : ℕ) → idle (s k) ≡ false
HighestIdle (Some c) s = (idle (s c) ≡ true) × ((k : ℕ) → c < k → idle (s k) ≡ false)

-- ---------------------------------------------------------------- the moves of a table by channel number
-- the table with channel c in state x, where that is granted; else the very table
abbrev pub changed : Bool → List ChannelState → ℕ → ChannelState → List ChannelState
changed granted channels c x = if granted then slice_set channels c x else channels

-- channel c is turned to state x: granted exactly if the state that it is in is one that may be turned
abbrev pub Turns : (ChannelState → Bool) → ChannelState → List ChannelState → ℕ → Bool → List ChannelState → Type 0
Turns may x before c granted after = (granted ≡ may (at before c)) × (after ≡ changed granted before c x)

-- the highest idle channel is seized, if one is idle; else the very table
abbrev pub TakesHighest : List ChannelState → Option ℕ → List ChannelState → Type 0
TakesHighest before None after = HighestIdle None (at before) × (after ≡ before)
TakesHighest before (Some c) after = HighestIdle (Some c) (at before) × (after ≡ slice_set before c Seized)
