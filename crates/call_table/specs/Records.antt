-- The 64 places of the table of calls: the channels that they hold, and how tokens go in and out.
use Rattle.std.specs.Prelude.{◌≡◌, ◌<◌, ℕ, Bool, if◌then◌else◌, ◌&&◌, List, is_some, is_none, Some, None, Ok, Err, Option, Result, nat_lt, slice_index_or, slice_set}
use Rattle.std.specs.Option.{option_and_then}
use Rattle.calls.specs.declared.record.Call.{Call}
use Rattle.calls.specs.Sides.{held_channel, equals_some}
use Rattle.call_table.specs.Tokens.{token_of}
use Rattle.call_table.specs.declared.token.Token.{Token}

-- the channel that a place holds: its call's, while the exchange side is not over
abbrev pub holding : Option Call → Option ℕ
holding place = option_and_then held_channel place

-- the channel that the place of this number holds: none from place 64 on
abbrev pub held : List (Option Call) → ℕ → Option ℕ
held places place = holding (slice_index_or places place None)

-- ---------------------------------------------------------------- entering a call
-- one of the 64 places, with no call in it
abbrev pub is_free : List (Option Call) → ℕ → Bool
is_free places place = nat_lt place 64 && is_none (slice_index_or places place None)

-- the call holds channel c
abbrev pub is_holding : ℕ → Call → Bool
is_holding c call = equals_some c (held_channel call)

-- a call is entered at a free place, with the token of the channel that it holds
abbrev pub admits : List (Option Call) → ℕ → Call → ℕ → Bool
admits places place call c = is_holding c call && is_free places place

-- a token that is not entered is handed back
abbrev pub answered : Bool → Token → Result (Unit {0}) Token
answered entered token = if entered then Ok tt else Err token

abbrev pub after_entering : Bool → List (Option Call) → ℕ → Call → List (Option Call)
after_entering entered places place call = if entered then slice_set places place (Some call) else places

-- ---------------------------------------------------------------- changing a record
-- with no token that comes in, a record holds the channel that it held, or none
abbrev pub MayHold : Option ℕ → Option ℕ → Type 0
MayHold before None = Unit {0}
MayHold before (Some c) = before ≡ Some c

-- no channel is held without its token: one that comes in is of the channel that the record holds afterwards
abbrev pub Enters : Option Call → Option Call → Option Token → Type 0
Enters before after None = MayHold (holding before) (holding after)
Enters before after (Some token) = holding after ≡ Some token.channel

-- a change is taken at one of the 64 places, and with no channel held without its token
abbrev pub MayChange : List (Option Call) → ℕ → Option Call → Option Token → Type 0
MayChange places place after token = (place < 64) × Enters (slice_index_or places place None) after token

-- the token that comes out: of the channel that the place held, unless it goes on holding it
abbrev pub left : Option Call → Option Call → Option Token → Option Token
left before after None = if is_some (holding after) then None else token_of (holding before)
left before after (Some token) = token_of (holding before)

-- the record stands at its place where the change is taken, else the places are as they were
abbrev pub after_changing : Bool → List (Option Call) → ℕ → Option Call → List (Option Call)
after_changing taken places place after = if taken then slice_set places place after else places
