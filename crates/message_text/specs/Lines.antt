-- What a line of input is answered: the text of the message or of its refusal, behind "= ".
use Rattle.std.specs.Prelude.{ℕ, if◌then◌else◌, not, List, ◌++◌, Some, None, Ok, Err, Option, Result, codes, flat_map, string_bytes}
use Rattle.std.specs.Option.{option_map, option_and_then}
use Rattle.std.specs.Fmt.{decimal, ◌++?◌}
use Rattle.refusals.specs.Grounds.{number_of}
use Rattle.refusals.specs.declared.Ground.{Ground}
use Rattle.refusals.specs.declared.Ground.TheVariants.{FieldOutOfRange, IncompleteSetup}
use Rattle.hexadecimal.specs.Text.{octets_in}
use Rattle.messages.specs.declared.record.Message.{Message}
use Rattle.messages.specs.declared.record.Misread.{Misread}
use Rattle.messages.specs.Elements.{DigitsPart}
use Rattle.messages.specs.Reading.{decoded, lacking}
use Rattle.messages.specs.Writing.{encoded, is_writable}
use Rattle.messages.specs.Shown.{hex_octet, part_text, message_text, misread_text}
use Rattle.message_text.specs.declared.answer.Answer.{Answer}
use Rattle.message_text.specs.declared.answer.Answer.TheVariants.{Message as MessageLine, Refused, NotHex}

-- two hexadecimal digits for each octet
abbrev pub octets_text : List ℕ → List ℕ
octets_text octets = flat_map hex_octet octets

abbrev pub unwritable_text : Ground → List ℕ
unwritable_text why = codes " unwritable " ++ decimal (number_of why)

-- the octets as they are written from the fields, or why these cannot be written; there is room for every message that can
abbrev pub written_text : Message (List ℕ) → List ℕ
written_text m =
    if not (is_writable m) then unwritable_text FieldOutOfRange
    else if lacking m.kind m.elements then unwritable_text IncompleteSetup
    else codes " octets=" ++ octets_text (encoded m)

-- a message that was read, to be written
abbrev pub unplaced : Message DigitsPart → Message (List ℕ)
unplaced m =
    record {
      reference = m.reference;
      kind = m.kind;
      elements = record {
        complete = m.elements.complete;
        cause = m.elements.cause;
        channel = m.elements.channel;
        progress = m.elements.progress;
        digits = option_map (λ part. part.octets) m.elements.digits;
      };
    }

-- a message as its fields, and its octets
abbrev pub line_of : Message DigitsPart → Option (List ℕ)
line_of m = message_text (λ part. Some (part_text part.octets)) m ++? Some (written_text (unplaced m))

abbrev pub told : Result (Message DigitsPart) Misread → Option (List ℕ)
told (Ok m) = Some (codes "= ") ++? line_of m
told (Err misread) = Some (codes "= " ++ misread_text misread)

-- nothing is told of a line that is no hexadecimal
abbrev pub told_on : List ℕ → Option (List ℕ)
told_on line = option_and_then (λ octets. told (decoded octets)) (octets_in line)

-- what an answer tells
abbrev pub said : Answer → Option (List ℕ)
said (MessageLine text) = Some (string_bytes text)
said (Refused text) = Some (string_bytes text)
said NotHex = None
