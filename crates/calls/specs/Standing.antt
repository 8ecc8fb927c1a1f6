-- What holds of every call of a gateway, whatever has happened: how the states of its two sides go together.
use Rattle.std.specs.Prelude.{◌≡◌, Bool, true, not, ◌&&◌, ◌||◌, List, [], ◌∷◌, Some, None, Option}
use Rattle.calls.specs.Records.{Call, ExchangeSide, SipSide}
use Rattle.calls.specs.Sides.{is_in, is_invite_sent, is_no_sip}

-- something holds at every place of a table
abbrev pub Everywhere : (Option Call → Type 0) → List (Option Call) → Type 0
Everywhere P [] = Unit {0}
Everywhere P (o ∷ os) = P o × Everywhere P os

-- an INVITE of the gateway's own is out only while the call proceeds; nothing is out while digits are collected
abbrev pub sides_agree : ExchangeSide → SipSide → Bool
sides_agree exchange sip =
    (not (is_invite_sent sip) || is_in ExchangeSide.Proceeding exchange) && (not (is_in ExchangeSide.Collecting exchange) || is_no_sip sip)

-- as a test, which a struct can hold as a fact, at one place and at every place of a table
abbrev pub is_sound_at : Option Call → Bool
is_sound_at None = true
is_sound_at (Some k) = sides_agree k.exchange k.sip

abbrev pub is_sound : List (Option Call) → Bool
is_sound [] = true
is_sound (o ∷ os) = is_sound_at o && is_sound os

abbrev pub SoundAt : Option Call → Type 0
SoundAt o = is_sound_at o ≡ true
