-- What is told of writing a message into a buffer that has room for the longest.
use Rattle.std.proofs.Common.{◌≡◌, ℕ, ◌-◌, ◌≤◌, Bool, true, false, cond, not, ltb, List, ◌++◌, length, drop, take, Some, None, Ok, Err, Option, Result, refl, sym, ap, ◌∙◌, true≢false, arith}
use Rattle.std.specs.Prelude.{codes}
use Rattle.std.specs.Option.{option_map}
use Rattle.std.proofs.lemmas.Bool.{le-ltb}
use Rattle.std.proofs.lemmas.List.{take_at}
use Rattle.refusals.specs.declared.Ground.{Ground}
use Rattle.refusals.specs.declared.Ground.TheVariants.{FieldOutOfRange, IncompleteSetup, BufferTooShort}
use Rattle.messages.specs.declared.record.Message.{Message}
use Rattle.messages.specs.declared.record.Part.{Part}
use Rattle.messages.specs.Elements.{DigitsPart}
use Rattle.messages.specs.Reading.{lacking}
use Rattle.messages.specs.Writing.{encoded, is_writable, writes, buffer_after}
use Rattle.messages.specs.Shown.{part_text, digits_text, fields_text, message_text}
use Rattle.messages.specs.Written.{without_place}
use Rattle.reader.specs.Seen.{seen_record, seen_digits}
use Rattle.writer.specs.Values.{values, values_of}
use Rattle.message_text.specs.Lines.{octets_text, unwritable_text, written_text, unplaced}
use Rattle.message_text.proofs.Longest.{at_most}

-- a message with these digits
abbrev with_number : {B C : Type 0} → Message B → Option C → Message C
with_number m digits =
    record {
      reference = m.reference;
      kind = m.kind;
      elements = record {
        complete = m.elements.complete;
        cause = m.elements.cause;
        channel = m.elements.channel;
        progress = m.elements.progress;
        digits = digits;
      };
    }

digits_given : (o : Option Part) → option_map (λ (d : DigitsPart). d.octets) (seen_digits o) ≡ values_of (option_map (λ p. p.octets) o)
digits_given None = refl
digits_given (Some p) = refl

-- what is given to be written is what was read
pub given : (m : Message Part) → unplaced (seen_record m) ≡ values (without_place m)
given m = ap (with_number m) (digits_given m.elements.digits)

never : {B : Type 0} (why : Ground) (n : ℕ) → ◌≡◌ {A = Result ℕ Ground} (Ok n) (Err why) → B
never why n h = let z : ◌≡◌ {A = ℕ} 0 1 = cc in absurd (omega arith)

told_written : (a b c : Bool) (n k : ℕ) (text : List ℕ) → ◌≡◌ {A = Result ℕ Ground} (Ok n) (cond (not a) (Err FieldOutOfRange) (cond b (Err IncompleteSetup) (cond c (Err BufferTooShort) (Ok k)))) → cond (not a) (unwritable_text FieldOutOfRange) (cond b (unwritable_text IncompleteSetup) text) ≡ text
told_written false b c n k text h = never _ n h
told_written true true c n k text h = never _ n h
told_written true false c n k text h = refl

told_refused : (a b c : Bool) (why : Ground) (k : ℕ) (text : List ℕ) → (a ≡ true → c ≡ false) → ◌≡◌ {A = Result ℕ Ground} (Err why) (cond (not a) (Err FieldOutOfRange) (cond b (Err IncompleteSetup) (cond c (Err BufferTooShort) (Ok k)))) → cond (not a) (unwritable_text FieldOutOfRange) (cond b (unwritable_text IncompleteSetup) text) ≡ unwritable_text why
told_refused false b c why k text room h = let same : FieldOutOfRange ≡ why = cc in ap unwritable_text same
told_refused true true c why k text room h = let same : IncompleteSetup ≡ why = cc in ap unwritable_text same
told_refused true false true why k text room h = absurd (true≢false (room refl))
told_refused true false false why k text room h = never why k (sym h)

pub octets_told : (room n : ℕ) (m : Message (List ℕ)) → Ok n ≡ writes room m → written_text m ≡ codes " octets=" ++ octets_text (encoded m)
octets_told room n m h = told_written (is_writable m) (lacking m.kind m.elements) (ltb room (length (encoded m))) n (length (encoded m)) _ h

pub refusal_told : (room : ℕ) (why : Ground) (m : Message (List ℕ)) → Err why ≡ writes room m → 47 ≤ room → written_text m ≡ unwritable_text why
refusal_told room why m h enough =
    told_refused (is_writable m) (lacking m.kind m.elements) (ltb room (length (encoded m))) why (length (encoded m)) _
    (λ fit. let few = at_most m fit in le-ltb room (length (encoded m)) (omega arith)) h

counted : (a b c : Bool) (n k : ℕ) → ◌≡◌ {A = Result ℕ Ground} (Ok n) (cond (not a) (Err FieldOutOfRange) (cond b (Err IncompleteSetup) (cond c (Err BufferTooShort) (Ok k)))) → n ≡ k
counted false b c n k h = never _ n h
counted true true c n k h = never _ n h
counted true false true n k h = never _ n h
counted true false false n k h = cc

-- the front of the buffer is the message
pub front : (room n : ℕ) (old new : List ℕ) (m : Message (List ℕ)) → new ≡ buffer_after old m (Ok n) → Ok n ≡ writes room m → take (n - 0) new ≡ encoded m
front room n old new m after h =
    let size = counted (is_writable m) (lacking m.kind m.elements) (ltb room (length (encoded m))) n (length (encoded m)) h in
    let from : n - 0 ≡ n = omega arith in
    ap (λ k. take k new) from ∙ ap (take n) after ∙ take_at (encoded m) (drop n old) n (sym size)

digits_same : (o : Option Part) → digits_text (λ (p : Part). Some (part_text p.octets.now)) o ≡ digits_text (λ (d : DigitsPart). Some (part_text d.octets)) (seen_digits o)
digits_same None = refl
digits_same (Some p) = refl

-- a message displays the same whether its digits are lent or held
pub displayed : (m : Message Part) → message_text (λ (p : Part). Some (part_text p.octets.now)) m ≡ message_text (λ (d : DigitsPart). Some (part_text d.octets)) (seen_record m)
displayed m = ap (option_map (λ text. fields_text m ++ text)) (digits_same m.elements.digits)
