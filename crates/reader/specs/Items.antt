-- The elements of a message one after another.
use Rattle.std.specs.Prelude.{◌≡◌, ℕ, ◌+◌, if◌then◌else◌, List, [], length, take, drop, Some, None, Ok, Err, Option, Result, nat_le, nat_lt, slice_index}
use Rattle.std.specs.Option.{option_map}
use denote.Ref.{Bor}
use Rattle.refusals.specs.declared.Ground.TheVariants.{BadElement}
use Rattle.messages.specs.declared.record.Elements.{Elements}
use Rattle.messages.specs.declared.record.Misread.{Misread}
use Rattle.messages.specs.declared.record.Part.{Part}
use Rattle.messages.specs.Elements.{DigitsPart, misread, noted}
use Rattle.messages.specs.Reading.{elements_from, and_then}
use Rattle.reader.specs.declared.element.Element.{Element}
use Rattle.reader.specs.declared.element.Reader.{Reader}
use Rattle.reader.specs.Seen.{seen_elements}

-- an element's contents by its identifier and the octets behind that, and the octets behind the element
abbrev pub parts_of : ℕ → List ℕ → Option (List ℕ × List ℕ)
parts_of id xs =
    if nat_le 128 id then Some ([], xs)
    else if nat_lt (length xs) (slice_index xs 0 + 1) then None
    else Some (take (slice_index xs 0) (drop 1 xs), drop (slice_index xs 0 + 1) xs)

abbrev pub seen_parts : Option (Bor (List ℕ) × Bor (List ℕ)) → Option (List ℕ × List ℕ)
seen_parts o = option_map (λ p. (p.0.now, p.1.now)) o

abbrev pub octets_left : Reader → List ℕ
octets_left r = r.rest.now

-- what a reader gathers with what was seen before
abbrev pub elements_left : Reader → Elements DigitsPart → Result (Elements DigitsPart) Misread
elements_left r s = elements_from 0 r.place (octets_left r) s

-- a reader gathers the element that it gives, and then what it gathers behind that
abbrev pub GivesElement : Reader → Option (Result Element Misread) → Reader → Type 0
GivesElement old None new = octets_left old ≡ []
GivesElement old (Some (Err e)) new = (s : Elements DigitsPart) → elements_left old s ≡ Err e
GivesElement old (Some (Ok x)) new =
    (s : Elements DigitsPart) → elements_left old s ≡ and_then (noted x.id x.place x.contents.now s) (λ more. elements_left new more)

-- what the elements seen so far have become, as values
abbrev pub seen_noted : Result (Elements Part) Misread → Result (Elements DigitsPart) Misread
seen_noted (Ok e) = Ok (seen_elements e)
seen_noted (Err e) = Err e

abbrev pub bad_at : ℕ → Misread
bad_at place = misread BadElement place
