-- What a string of octets reads as: a message, or a refusal with its place.
use Rattle.std.specs.Prelude.{ℕ, zero, suc, ◌+◌, ◌*◌, ◌%◌, Bool, if◌then◌else◌, not, ◌&&◌, ◌||◌, List, [], ◌∷◌, length, take, drop, Some, None, Ok, Err, Option, Result, ◌==◌, nat_le, nat_lt, slice_index}
use Rattle.refusals.specs.declared.Ground.{Ground}
use Rattle.refusals.specs.declared.Ground.TheVariants.{TooFewOctets, WrongDiscriminator, UnknownType, ElementPastEnd, IncompleteSetup, BadReference}
use Rattle.messages.specs.Records.{MessageType, CallReference, Elements, Message, Misread}
use Rattle.messages.specs.Types.{type_of, is_setup}
use Rattle.messages.specs.Elements.{DigitsPart, absent, bare, misread, noted}

abbrev pub refuse : {B : Type 0} → Ground → ℕ → Result B Misread
refuse why place = Err (misread why place)

-- what follows a part that was read, or that part's refusal
abbrev pub and_then : {B C : Type 0} → Result B Misread → (B → Result C Misread) → Result C Misread
and_then (Ok x) next = next x
and_then (Err e) next = Err e

-- the first five octets as values, and the octets behind them
pub record Heading : Type 0 where
  pub reference : CallReference
  pub kind : MessageType
  pub elements : List ℕ

-- the flag is the top bit of octet 2; the number is the rest of it and octet 3
abbrev pub reference_of : List ℕ → CallReference
reference_of xs = record { flag = nat_le 128 (slice_index xs 2); number = (slice_index xs 2 % 128) * 256 + slice_index xs 3 }

-- reference 0 stands for no call, and only the sender of a SETUP gives out its reference
abbrev pub bad_reference : CallReference → MessageType → Bool
bad_reference reference kind = reference.number == 0 || (is_setup kind && reference.flag)

abbrev pub typed : List ℕ → Option MessageType → Result Heading Misread
typed xs None = refuse UnknownType 4
typed xs (Some kind) =
    if bad_reference (reference_of xs) kind then refuse BadReference 2
    else Ok (record { reference = reference_of xs; kind = kind; elements = drop 5 xs })

abbrev pub headed : List ℕ → Result Heading Misread
headed xs =
    if nat_lt (length xs) 5 then refuse TooFewOctets (length xs)
    else if not (slice_index xs 0 == 8) then refuse WrongDiscriminator 0
    else if not (slice_index xs 1 == 2) then refuse WrongDiscriminator 1
    else typed xs (type_of (slice_index xs 4))

-- skip octets are passed over, and then an element begins at place: alone from 80 up, else with a length octet and contents
abbrev pub elements_from : ℕ → ℕ → List ℕ → Elements DigitsPart → Result (Elements DigitsPart) Misread
elements_from skip place [] seen = Ok seen
elements_from (suc k) place (x ∷ xs) seen = elements_from k (place + 1) xs seen
elements_from zero place (x ∷ xs) seen =
    if nat_le 128 x then and_then (noted x place [] seen) (λ more. elements_from 0 (place + 1) xs more)
    else if nat_lt (length xs) (slice_index xs 0 + 1) then refuse ElementPastEnd place
    else and_then (noted x place (take (slice_index xs 0) (drop 1 xs)) seen) (λ more. elements_from (slice_index xs 0 + 1) (place + 1) xs more)

-- a SETUP names a channel and a called number
abbrev pub lacking : {D : Type 0} → MessageType → Elements D → Bool
lacking kind e = is_setup kind && (absent e.channel || absent e.digits)

abbrev pub whole : ℕ → Heading → Elements DigitsPart → Result (Message DigitsPart) Misread
whole size h e =
    if lacking h.kind e then refuse IncompleteSetup size
    else Ok (record { reference = h.reference; kind = h.kind; elements = e })

-- the message that the octets are
abbrev pub decoded : List ℕ → Result (Message DigitsPart) Misread
decoded xs = and_then (headed xs) (λ h. and_then (elements_from 0 5 h.elements bare) (λ e. whole (length xs) h e))
