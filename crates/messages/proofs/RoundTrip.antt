-- What was written reads back as the same record.
use Rattle.std.proofs.Common.{◌≡◌, ℕ, suc, ◌+◌, ◌*◌, ◌/◌, ◌%◌, ◌≤◌, Bool, true, false, cond, not, ◌&&◌, eqb, ltb, leb, List, ◌++◌, length, Some, None, Ok, Option, sym, refl, ap, ◌∙◌, arith, length-append}
use Rattle.std.specs.Option.{option_map}
use Rattle.std.proofs.lemmas.Bool.{le-ltb, le-leb, lt-leb, leb-true, and_parts, ne_eqb}
use Rattle.messages.specs.Records.{MessageType, CallReference, Elements, Message}
use Rattle.messages.specs.declared.kind.MessageType.TheVariants.{Alerting, CallProceeding, Progress, Setup, Connect, SetupAcknowledge, ConnectAcknowledge, Disconnect, Release, ReleaseComplete, Information}
use Rattle.messages.specs.Types.{code_of, type_of, is_setup}
use Rattle.messages.specs.Elements.{bare, with_digits}
use Rattle.messages.specs.Reading.{headed, elements_from, bad_reference, lacking, whole, and_then}
use Rattle.messages.specs.Writing.{complete_octets, bearer_octets, cause_octets, channel_octets, progress_octets, element_octets, head_octets, encoded, reference_fits, cause_fits, channel_fits, progress_fits, digits_fit}
use Rattle.messages.specs.Laws.{digits_place, as_read, RoundTrip, LayoutExamples}
use Rattle.messages.proofs.Passing.{seen, past_complete, past_bearer, past_cause, past_channel, past_progress, past_digits}

type_back : (kind : MessageType) → type_of (code_of kind) ≡ Some kind
type_back Alerting = refl
type_back CallProceeding = refl
type_back Progress = refl
type_back Setup = refl
type_back Connect = refl
type_back SetupAcknowledge = refl
type_back ConnectAcknowledge = refl
type_back Disconnect = refl
type_back Release = refl
type_back ReleaseComplete = refl
type_back Information = refl

flag_back : (f : Bool) (n : ℕ) → n ≤ 32767 → leb 128 (cond f 128 0 + n / 256) ≡ f
flag_back true n h = le-leb _ _ (omega arith)
flag_back false n h = lt-leb _ _ (omega arith)

number_back : (f : Bool) (n : ℕ) → n ≤ 32767 → ((cond f 128 0 + n / 256) % 128) * 256 + n % 256 ≡ n
number_back true n h = omega arith
number_back false n h = omega arith

sound_reference : (r : CallReference) (kind : MessageType) → 1 ≤ r.number → not (is_setup kind && r.flag) ≡ true → bad_reference r kind ≡ false
sound_reference r kind h n = let z : eqb r.number 0 ≡ false = ne_eqb _ _ (λ e. omega arith) in simp z (not_true _ n)
  where
    not_true : (b : Bool) → not b ≡ true → b ≡ false
    not_true false e = refl
    not_true true e = sym e

head_back : (r : CallReference) (kind : MessageType) (rest : List ℕ) → reference_fits r kind ≡ true → headed (head_octets r kind ++ rest) ≡ Ok (record { reference = r; kind = kind; elements = rest })
head_back r kind rest h =
    let parts = and_parts _ _ h in
    let low : 1 ≤ r.number = leb-true _ _ (and_parts _ _ parts.0).0 in
    let high : r.number ≤ 32767 = leb-true _ _ (and_parts _ _ parts.0).1 in
    let t : ltb (suc (suc (suc (suc (suc (length rest)))))) 5 ≡ false = le-ltb _ _ (omega arith) in
    simp (t, type_back kind, flag_back r.flag r.number high, number_back r.flag r.number high, sound_reference r kind low parts.1)

elements_back : (kind : MessageType) (e : Elements (List ℕ)) → cause_fits e.cause ≡ true → channel_fits e.channel ≡ true → progress_fits e.progress ≡ true → digits_fit e.digits ≡ true → elements_from 0 5 (element_octets kind e) bare ≡ Ok (with_digits (seen e.complete e.cause e.channel e.progress) (option_map (λ ds. record { place = 5 + length (complete_octets e.complete) + length (bearer_octets kind) + length (cause_octets e.cause) + length (channel_octets e.channel) + length (progress_octets e.progress) + 3; octets = ds }) e.digits))
elements_back kind e c ch p d =
    past_complete e.complete _
    ∙ past_bearer (is_setup kind) _ _ _
    ∙ past_cause e.cause _ _ _ c
    ∙ past_channel e.channel _ _ _ _ ch
    ∙ past_progress e.progress _ _ _ _ _ p
    ∙ past_digits e.digits _ _ _ _ _ d

-- the digits' place, counted from the front and from the end
same_place : (m : Message (List ℕ)) (ds : List ℕ) → m.elements.digits ≡ Some ds → 5 + length (complete_octets m.elements.complete) + length (bearer_octets m.kind) + length (cause_octets m.elements.cause) + length (channel_octets m.elements.channel) + length (progress_octets m.elements.progress) + 3 ≡ digits_place m ds
same_place m ds e = simp (e, length-append) (omega arith)

-- the elements that were read make the message whole
joined : (size p : ℕ) (m : Message (List ℕ)) (o : Option (List ℕ)) → m.elements.digits ≡ o → ((ds : List ℕ) → o ≡ Some ds → p ≡ digits_place m ds) → lacking m.kind m.elements ≡ false → whole size (record { reference = m.reference; kind = m.kind; elements = element_octets m.kind m.elements }) (with_digits (seen m.elements.complete m.elements.cause m.elements.channel m.elements.progress) (option_map (λ ds. record { place = p; octets = ds }) o)) ≡ Ok (as_read m)
joined size p m None e at l = simp (simp e at l, e)
joined size p m (Some ds) e at l = simp (simp e at l, e, at ds refl)

pub round_trip : RoundTrip
round_trip m f l =
    let all = and_parts _ _ f in
    let behind = and_parts _ _ all.1 in
    let last = and_parts _ _ behind.1 in
    let ends = and_parts _ _ last.1 in
    let h = head_back m.reference m.kind (element_octets m.kind m.elements) all.0 in
    let e = elements_back m.kind m.elements behind.0 last.0 ends.0 ends.1 in
    ap (λ r. and_then r (λ x. and_then (elements_from 0 5 x.elements bare) (λ y. whole (length (encoded m)) x y))) h
    ∙ ap (λ r. and_then r (λ y. whole (length (encoded m)) (record { reference = m.reference; kind = m.kind; elements = element_octets m.kind m.elements }) y)) e
    ∙ joined (length (encoded m)) _ m m.elements.digits refl (λ ds d. same_place m ds d) l

pub layout_examples : LayoutExamples
layout_examples = record { setup_read = refl; setup_written = refl; cut_short = refl; no_reference = refl; disconnect_written = refl }
