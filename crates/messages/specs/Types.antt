-- The octet of each message type.
use Rattle.std.specs.Prelude.{◌≡◌, ℕ, Bool, true, false, List, [], ◌∷◌, find, Some, None, Ok, Err, Option, Result, ◌==◌}
use Rattle.messages.specs.Records.{MessageType, UnknownCode}
use Rattle.messages.specs.declared.kind.MessageType.TheVariants.{Alerting, CallProceeding, Progress, Setup, Connect, SetupAcknowledge, ConnectAcknowledge, Disconnect, Release, ReleaseComplete, Information}

abbrev pub code_of : MessageType → ℕ
code_of Alerting = 0x01
code_of CallProceeding = 0x02
code_of Progress = 0x03
code_of Setup = 0x05
code_of Connect = 0x07
code_of SetupAcknowledge = 0x0d
code_of ConnectAcknowledge = 0x0f
code_of Disconnect = 0x45
code_of Release = 0x4d
code_of ReleaseComplete = 0x5a
code_of Information = 0x7b

abbrev pub all_types : List MessageType
all_types =
    Alerting ∷ CallProceeding ∷ Progress ∷ Setup ∷ Connect ∷ SetupAcknowledge ∷ ConnectAcknowledge ∷ Disconnect ∷ Release ∷ ReleaseComplete ∷ Information ∷ []

-- the type that an octet stands for, if any
abbrev pub type_of : ℕ → Option MessageType
type_of code = find (λ kind. code == code_of kind) all_types

-- the octet's type, or the octet back where it stands for none
abbrev pub type_or_code : ℕ → Option MessageType → Result MessageType UnknownCode
type_or_code code (Some kind) = Ok kind
type_or_code code None = Err (record { 0 = code })

abbrev pub Decodes : ℕ → Result MessageType UnknownCode → Type 0
Decodes code r = r ≡ type_or_code code (type_of code)

abbrev pub is_setup : MessageType → Bool
is_setup Setup = true
is_setup _ = false
