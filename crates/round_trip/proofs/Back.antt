-- A message that was written lacks nothing, and comes back.
use Rattle.std.proofs.Common.{◌≡◌, ℕ, Bool, true, false, cond, not, ltb, List, length, Some, None, Ok, Err, Option, Result, refl, ap, ◌∙◌, arith}
use Rattle.std.specs.Option.{option_map}
use Rattle.refusals.specs.declared.Ground.{Ground}
use Rattle.refusals.specs.declared.Ground.TheVariants.{FieldOutOfRange, IncompleteSetup, BufferTooShort}
use Rattle.messages.specs.declared.record.Message.{Message}
use Rattle.messages.specs.declared.record.Part.{Part}
use Rattle.messages.specs.Elements.{DigitsPart}
use Rattle.messages.specs.Reading.{lacking}
use Rattle.messages.specs.Writing.{encoded, is_writable, writes}
use Rattle.messages.specs.Written.{without_place}
use Rattle.messages.specs.Laws.{as_read}
use Rattle.reader.specs.Seen.{seen_digits, seen_record}
use Rattle.writer.specs.Values.{values, values_of}

by_tests : (a b c : Bool) (n k : ℕ) → ◌≡◌ {A = Result ℕ Ground} (Ok n) (cond (not a) (Err FieldOutOfRange) (cond b (Err IncompleteSetup) (cond c (Err BufferTooShort) (Ok k)))) → b ≡ false
by_tests a false c n k h = refl
by_tests true true c n k h = let z : ◌≡◌ {A = ℕ} 0 1 = cc in absurd (omega arith)
by_tests false true c n k h = let z : ◌≡◌ {A = ℕ} 0 1 = cc in absurd (omega arith)

-- what was written lacks nothing
pub written_whole : (room n : ℕ) (m : Message (List ℕ)) → Ok n ≡ writes room m → lacking m.kind m.elements ≡ false
written_whole room n m h = by_tests (is_writable m) (lacking m.kind m.elements) (ltb room (length (encoded m))) n (length (encoded m)) h

-- a message with these digits
abbrev with_number : {B C : Type 0} → Message B → Option C → Message C
with_number m digits =
    record {
      reference = m.reference;
      kind = m.kind;
      elements = record {
        complete = m.elements.complete;
        cause = m.elements.cause;
        channel = m.elements.channel;
        progress = m.elements.progress;
        digits = digits;
      };
    }

-- the digits of what was read, without their place
abbrev unplaced : Message DigitsPart → Message (List ℕ)
unplaced m = with_number m (option_map (λ (d : DigitsPart). d.octets) m.elements.digits)

digits_read : (o : Option Part) → values_of (option_map (λ p. p.octets) o) ≡ option_map (λ (d : DigitsPart). d.octets) (seen_digits o)
digits_read None = refl
digits_read (Some p) = refl

digits_back : (place : List ℕ → ℕ) (o : Option (List ℕ)) → option_map (λ (d : DigitsPart). d.octets) (option_map (λ ds. record { place = place ds; octets = ds }) o) ≡ o
digits_back place None = refl
digits_back place (Some ds) = refl

-- what reads as a message is given to be written as that message
pub same_back : (r : Message Part) (m : Message (List ℕ)) → seen_record r ≡ as_read m → values (without_place r) ≡ m
same_back r m h =
    ap (with_number r) (digits_read r.elements.digits)
    ∙ ap unplaced h
    ∙ ap (with_number m) (digits_back _ m.elements.digits)
