-- What holds of the layout as a whole.
use Rattle.std.specs.Prelude.{◌≡◌, ℕ, ◌-◌, true, false, List, [], ◌∷◌, length, Some, None, Ok}
use Rattle.std.specs.Option.{option_map}
use Rattle.refusals.specs.declared.Ground.TheVariants.{ElementPastEnd, BadReference}
use Rattle.messages.specs.declared.kind.MessageType.TheVariants.{Setup, Disconnect}
use Rattle.messages.specs.declared.record.Message.{Message}
use Rattle.messages.specs.Elements.{DigitsPart, bare}
use Rattle.messages.specs.Reading.{decoded, refuse, lacking}
use Rattle.messages.specs.Writing.{encoded, is_writable}

-- the digits stand last in what is written
abbrev pub digits_place : Message (List ℕ) → List ℕ → ℕ
digits_place m ds = length (encoded m) - length ds

-- a message with its digits at their place in what is written
abbrev pub as_read : Message (List ℕ) → Message DigitsPart
as_read m =
    record { reference = m.reference; kind = m.kind; elements = record { complete = m.elements.complete; cause = m.elements.cause; channel = m.elements.channel; progress = m.elements.progress; digits = option_map (λ ds. record { place = digits_place m ds; octets = ds }) m.elements.digits } }

-- every message that can be written reads back as the same record
abbrev pub RoundTrip : Type 0
RoundTrip = (m : Message (List ℕ)) → is_writable m ≡ true → lacking m.kind m.elements ≡ false → decoded (encoded m) ≡ Ok (as_read m)

-- SETUP of reference 5 on channel 7 for 417, as it is written and as it is read
abbrev pub setup_for : {D : Type 0} → D → Message D
setup_for digits =
    record { reference = record { flag = false; number = 5 }; kind = Setup; elements = record { complete = true; cause = None; channel = Some (record { number = 7; exclusive = true }); progress = None; digits = Some digits } }

abbrev pub setup417 : Message (List ℕ)
setup417 = setup_for (52 ∷ 49 ∷ 55 ∷ [])

abbrev pub setup417_read : Message DigitsPart
setup417_read = setup_for (record { place = 19; octets = 52 ∷ 49 ∷ 55 ∷ [] })

-- all but the last octet of that SETUP
abbrev pub setup41_octets : List ℕ
setup41_octets =
    0x08 ∷ 0x02 ∷ 0x00 ∷ 0x05 ∷ 0x05 ∷ 0xa1 ∷ 0x04 ∷ 0x03 ∷ 0x80 ∷ 0x90 ∷ 0xa3
    ∷ 0x18 ∷ 0x03 ∷ 0xa9 ∷ 0x83 ∷ 0x87 ∷ 0x70 ∷ 0x04 ∷ 0x80 ∷ 0x34 ∷ 0x31 ∷ []

abbrev pub setup417_octets : List ℕ
setup417_octets =
    0x08 ∷ 0x02 ∷ 0x00 ∷ 0x05 ∷ 0x05 ∷ 0xa1 ∷ 0x04 ∷ 0x03 ∷ 0x80 ∷ 0x90 ∷ 0xa3
    ∷ 0x18 ∷ 0x03 ∷ 0xa9 ∷ 0x83 ∷ 0x87 ∷ 0x70 ∷ 0x04 ∷ 0x80 ∷ 0x34 ∷ 0x31 ∷ 0x37 ∷ []

-- a clearing of the call of reference 5 by whoever did not give that reference out: cause 16, location 5
abbrev pub disconnect16 : Message (List ℕ)
disconnect16 =
    record { reference = record { flag = true; number = 5 }; kind = Disconnect; elements = record bare { cause = Some (record { value = 16; location = 5 }) } }

pub record LayoutExamples : Type 0 where
  pub setup_read : decoded setup417_octets ≡ Ok setup417_read
  pub setup_written : encoded setup417 ≡ setup417_octets
  pub cut_short : decoded setup41_octets ≡ refuse ElementPastEnd 16
  pub no_reference : decoded (0x08 ∷ 0x02 ∷ 0x00 ∷ 0x00 ∷ 0x45 ∷ []) ≡ refuse BadReference 2
  pub disconnect_written : encoded disconnect16 ≡ 0x08 ∷ 0x02 ∷ 0x80 ∷ 0x05 ∷ 0x45 ∷ 0x08 ∷ 0x02 ∷ 0x85 ∷ 0x90 ∷ []
