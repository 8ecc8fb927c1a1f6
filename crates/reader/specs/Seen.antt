-- What the reader hands out, as values: the octets that a reference shows in the place of the reference.
use Rattle.std.specs.Prelude.{◌≡◌, ℕ, List, length, take, drop, Some, None, Ok, Err, Option, Result}
use Rattle.std.specs.Option.{option_map}
use Rattle.messages.specs.declared.record.Elements.{Elements}
use Rattle.messages.specs.declared.record.Message.{Message}
use Rattle.messages.specs.declared.record.Misread.{Misread}
use Rattle.messages.specs.declared.record.Part.{Part}
use Rattle.messages.specs.Elements.{DigitsPart}
use Rattle.messages.specs.Reading.{Heading}
use Rattle.reader.specs.declared.header.Header.{Header}

abbrev pub seen_header : Result Header Misread → Result Heading Misread
seen_header (Ok h) = Ok (record { reference = h.reference; kind = h.kind; elements = h.elements.now })
seen_header (Err e) = Err e

abbrev pub seen_part : Part → DigitsPart
seen_part p = record { place = p.place; octets = p.octets.now }

abbrev pub seen_digits : Option Part → Option DigitsPart
seen_digits o = option_map seen_part o

abbrev pub seen_elements : Elements Part → Elements DigitsPart
seen_elements e = record { complete = e.complete; cause = e.cause; channel = e.channel; progress = e.progress; digits = seen_digits e.digits }

abbrev pub seen_record : Message Part → Message DigitsPart
seen_record m = record { reference = m.reference; kind = m.kind; elements = seen_elements m.elements }

abbrev pub seen_message : Result (Message Part) Misread → Result (Message DigitsPart) Misread
seen_message (Ok m) = Ok (seen_record m)
seen_message (Err e) = Err e

-- a part that is handed out is that part of the octets that its place says
abbrev pub PartOf : List ℕ → Option Part → Type 0
PartOf octets None = Unit {0}
PartOf octets (Some p) = p.octets.now ≡ take (length p.octets.now) (drop p.place octets)
