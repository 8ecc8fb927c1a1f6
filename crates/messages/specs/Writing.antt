-- The octets that a message is written as, and when it can be written.
use Rattle.std.specs.Prelude.{ℕ, ◌+◌, ◌/◌, ◌%◌, Bool, true, if◌then◌else◌, not, ◌&&◌, List, [], ◌∷◌, ◌++◌, length, drop, Some, None, Ok, Err, Option, Result, nat_le, nat_lt}
use Rattle.refusals.specs.declared.Ground.{Ground}
use Rattle.refusals.specs.declared.Ground.TheVariants.{FieldOutOfRange, IncompleteSetup, BufferTooShort}
use Rattle.messages.specs.Records.{MessageType, CallReference, Cause, Channel, Elements, Message}
use Rattle.messages.specs.Types.{code_of, is_setup}
use Rattle.messages.specs.Elements.{all_digits}
use Rattle.messages.specs.Reading.{lacking}

-- an element: its identifier, how many contents it has, and the contents
abbrev pub element : ℕ → List ℕ → List ℕ
element id contents = id ∷ length contents ∷ contents

abbrev pub head_octets : CallReference → MessageType → List ℕ
head_octets reference kind = 8 ∷ 2 ∷ ((if reference.flag then 128 else 0) + reference.number / 256) ∷ (reference.number % 256) ∷ code_of kind ∷ []

-- Sending complete
abbrev pub complete_octets : Bool → List ℕ
complete_octets complete = if complete then 161 ∷ [] else []

-- Bearer capability, the same in every SETUP: 3.1 kHz audio, 64 kbit/s, A-law
abbrev pub bearer_octets : MessageType → List ℕ
bearer_octets kind = if is_setup kind then element 4 (128 ∷ 144 ∷ 163 ∷ []) else []

abbrev pub cause_octets : Option Cause → List ℕ
cause_octets None = []
cause_octets (Some c) = element 8 ((128 + c.location) ∷ (128 + c.value) ∷ [])

abbrev pub channel_octets : Option Channel → List ℕ
channel_octets None = []
channel_octets (Some c) = element 24 ((if c.exclusive then 169 else 161) ∷ 131 ∷ (128 + c.number) ∷ [])

abbrev pub progress_octets : Option ℕ → List ℕ
progress_octets None = []
progress_octets (Some p) = element 30 (129 ∷ (128 + p) ∷ [])

abbrev pub digits_octets : Option (List ℕ) → List ℕ
digits_octets None = []
digits_octets (Some ds) = element 112 (128 ∷ ds)

-- the elements in the order in which they are written
abbrev pub element_octets : MessageType → Elements (List ℕ) → List ℕ
element_octets kind e =
    complete_octets e.complete ++ (bearer_octets kind ++ (cause_octets e.cause
    ++ (channel_octets e.channel ++ (progress_octets e.progress ++ digits_octets e.digits))))

-- the octets that a message is
abbrev pub encoded : Message (List ℕ) → List ℕ
encoded m = head_octets m.reference m.kind ++ element_octets m.kind m.elements

abbrev pub reference_fits : CallReference → MessageType → Bool
reference_fits reference kind = (nat_le 1 reference.number && nat_le reference.number 32767) && not (is_setup kind && reference.flag)

abbrev pub cause_fits : Option Cause → Bool
cause_fits None = true
cause_fits (Some c) = nat_le c.value 127 && nat_le c.location 15

abbrev pub channel_fits : Option Channel → Bool
channel_fits None = true
channel_fits (Some c) = nat_le 1 c.number && nat_le c.number 127

abbrev pub progress_fits : Option ℕ → Bool
progress_fits None = true
progress_fits (Some p) = nat_le p 127

abbrev pub digits_fit : Option (List ℕ) → Bool
digits_fit None = true
digits_fit (Some ds) = nat_le (length ds) 20 && all_digits ds

-- every field is within its range
abbrev pub is_writable : Message (List ℕ) → Bool
is_writable m =
    reference_fits m.reference m.kind
    && (cause_fits m.elements.cause
    && (channel_fits m.elements.channel && (progress_fits m.elements.progress && digits_fit m.elements.digits)))

-- what writing into a buffer of so many octets answers: how many octets were written, or the first ground that holds
abbrev pub writes : ℕ → Message (List ℕ) → Result ℕ Ground
writes room m =
    if not (is_writable m) then Err FieldOutOfRange
    else if lacking m.kind m.elements then Err IncompleteSetup
    else if nat_lt room (length (encoded m)) then Err BufferTooShort else Ok (length (encoded m))

-- the buffer behind a writing: the message at its front and the rest as it was, or all as it was
abbrev pub buffer_after : List ℕ → Message (List ℕ) → Result ℕ Ground → List ℕ
buffer_after buffer m (Ok n) = encoded m ++ drop n buffer
buffer_after buffer m (Err e) = buffer
