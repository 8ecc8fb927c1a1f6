-- What is displayed of messages, refusals and their parts, as octets of text.
use Rattle.std.specs.Prelude.{ℕ, ◌/◌, ◌%◌, Bool, true, if◌then◌else◌, List, [], ◌∷◌, ◌++◌, Some, None, Option, codes, flat_map, encode_utf8}
use Rattle.std.specs.Option.{option_map}
use Rattle.std.specs.Fmt.{decimal, digit_glyph}
use Rattle.refusals.specs.Grounds.{refusal_text}
use Rattle.messages.specs.Records.{MessageType, UnknownCode, CallReference, Cause, Channel, Message, Misread}
use Rattle.messages.specs.declared.kind.MessageType.TheVariants.{Alerting, CallProceeding, Progress, Setup, Connect, SetupAcknowledge, ConnectAcknowledge, Disconnect, Release, ReleaseComplete, Information}

-- the name that people write
abbrev pub name_of : MessageType → List ℕ
name_of Alerting = codes "ALERTING"
name_of CallProceeding = codes "CALL PROCEEDING"
name_of Progress = codes "PROGRESS"
name_of Setup = codes "SETUP"
name_of Connect = codes "CONNECT"
name_of SetupAcknowledge = codes "SETUP ACKNOWLEDGE"
name_of ConnectAcknowledge = codes "CONNECT ACKNOWLEDGE"
name_of Disconnect = codes "DISCONNECT"
name_of Release = codes "RELEASE"
name_of ReleaseComplete = codes "RELEASE COMPLETE"
name_of Information = codes "INFORMATION"

-- an octet as two hexadecimal digits in upper case
abbrev pub hex_octet : ℕ → List ℕ
hex_octet octet = digit_glyph true (octet / 16) ∷ digit_glyph true (octet % 16) ∷ []

abbrev pub unknown_text : UnknownCode → List ℕ
unknown_text code = codes "no message type has the octet " ++ hex_octet code.0

-- each octet as a character, or a dash where there is none
abbrev pub part_text : List ℕ → List ℕ
part_text [] = codes "-"
part_text (digit ∷ more) = flat_map encode_utf8 (digit ∷ more)

-- the type, the flag and the number
abbrev pub heading_text : MessageType → CallReference → List ℕ
heading_text kind reference =
    codes "exchange " ++ (name_of kind ++ (codes " flag=" ++ (decimal (if reference.flag then 1 else 0) ++ (codes " reference=" ++ decimal reference.number))))

abbrev pub complete_text : Bool → List ℕ
complete_text complete = if complete then codes " complete" else []

abbrev pub cause_text : Option Cause → List ℕ
cause_text None = []
cause_text (Some cause) = codes " cause=" ++ (decimal cause.value ++ (codes " location=" ++ decimal cause.location))

-- how firmly a channel is named
abbrev pub wish_text : Channel → List ℕ
wish_text channel = if channel.exclusive then codes "exclusive" else codes "preferred"

abbrev pub channel_text : Option Channel → List ℕ
channel_text None = []
channel_text (Some channel) = codes " channel=" ++ (decimal channel.number ++ (codes "/" ++ wish_text channel))

abbrev pub progress_text : Option ℕ → List ℕ
progress_text None = []
progress_text (Some description) = codes " progress=" ++ decimal description

-- all fields but the digits
abbrev pub fields_text : {D : Type 0} → Message D → List ℕ
fields_text m =
    heading_text m.kind m.reference ++ (complete_text m.elements.complete ++ (cause_text m.elements.cause
    ++ (channel_text m.elements.channel ++ progress_text m.elements.progress)))

-- the digits by what their own type displays of them
abbrev pub digits_text : {D : Type 0} → (D → Option (List ℕ)) → Option D → Option (List ℕ)
digits_text shown None = Some []
digits_text shown (Some digits) = option_map (λ text. codes " digits=" ++ text) (shown digits)

abbrev pub message_text : {D : Type 0} → (D → Option (List ℕ)) → Message D → Option (List ℕ)
message_text shown m = option_map (λ text. fields_text m ++ text) (digits_text shown m.elements.digits)

abbrev pub misread_text : Misread → List ℕ
misread_text misread = refusal_text misread.ground (Some misread.place)
