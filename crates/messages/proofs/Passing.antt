-- What each written element leaves of a reading that comes to it: the element's record, and the reading behind it.
use Rattle.std.proofs.Common.{◌≡◌, ℕ, zero, suc, ◌+◌, ◌%◌, ◌≤◌, Bool, true, false, cond, ltb, leb, List, [], ◌∷◌, ◌++◌, length, take, drop, Some, None, Ok, Option, sym, refl, ap, ◌∙◌, append-nil, add-zero, arith, length-append}
use Rattle.std.specs.Option.{option_map}
use Rattle.std.proofs.lemmas.List.{take_at, drop_at}
use Rattle.std.proofs.lemmas.Bool.{le-ltb, le-leb, leb-true, and_parts}
use Rattle.messages.specs.Records.{Cause, Channel, Elements}
use Rattle.messages.specs.Elements.{DigitsPart, all_digits, bare, with_digits, noted}
use Rattle.messages.specs.Reading.{elements_from}
use Rattle.messages.specs.Writing.{complete_octets, cause_octets, channel_octets, progress_octets, digits_octets, element, cause_fits, channel_fits, progress_fits, digits_fit}

-- what has been seen before the called number
abbrev pub seen : Bool → Option Cause → Option Channel → Option ℕ → Elements DigitsPart
seen complete cause channel progress = record { complete = complete; cause = cause; channel = channel; progress = progress; digits = None }

-- nothing is written for what is absent
stays : (p : ℕ) (rest : List ℕ) (s : Elements DigitsPart) → elements_from 0 p rest s ≡ elements_from 0 (p + 0) rest s
stays p rest s = ap (λ q. elements_from 0 q rest s) (sym (add-zero p))

-- octets that are passed over
pub skipped : (k p : ℕ) (xs : List ℕ) (s : Elements DigitsPart) → k ≤ length xs → elements_from k p xs s ≡ elements_from 0 (p + k) (drop k xs) s
skipped zero p xs s h = stays p xs s
skipped (suc k) p [] s h = refl
skipped (suc k) p (x ∷ xs) s h =
    let e : p + 1 + k ≡ p + suc k = omega arith in
    skipped k (p + 1) xs s (omega arith) ∙ ap (λ q. elements_from 0 q (drop k xs) s) e

-- a whole element that joins what was seen
past_element : (id : ℕ) (contents rest : List ℕ) (p : ℕ) (s more : Elements DigitsPart) → leb 128 id ≡ false → noted id p contents s ≡ Ok more → elements_from 0 p (element id contents ++ rest) s ≡ elements_from 0 (p + length (element id contents)) rest more
past_element id contents rest p s more i n =
    let l : length contents ≤ length (contents ++ rest) = simp length-append (omega arith) in
    let t : ltb (suc (length (contents ++ rest))) (suc (length contents)) ≡ false = le-ltb _ _ (omega arith) in
    let a : take (length contents) (contents ++ rest) ≡ contents = take_at contents rest (length contents) refl in
    let k : length contents + 1 ≡ suc (length contents) = omega arith in
    let d : drop (length contents) (contents ++ rest) ≡ rest = drop_at contents rest (length contents) refl in
    let e : p + 1 + suc (length contents) ≡ p + suc (suc (length contents)) = omega arith in
    simp (i, t, a, n, k) (skipped (suc (length contents)) (p + 1) (length contents ∷ (contents ++ rest)) more (omega arith) ∙ simp (d, e))

-- an octet of 80 plus n, and its low bits
top : (n : ℕ) → leb 128 (128 + n) ≡ true
top n = le-leb 128 (128 + n) (omega arith)

low7 : (n : ℕ) → n ≤ 127 → (128 + n) % 128 ≡ n
low7 n h = omega arith

low4 : (n : ℕ) → n ≤ 15 → (128 + n) % 16 ≡ n
low4 n h = omega arith

pub past_complete : (b : Bool) (rest : List ℕ) → elements_from 0 5 (complete_octets b ++ rest) bare ≡ elements_from 0 (5 + length (complete_octets b)) rest (seen b None None None)
past_complete true rest = refl
past_complete false rest = refl

pub past_bearer : (b : Bool) (p : ℕ) (rest : List ℕ) (s : Elements DigitsPart) → elements_from 0 p (cond b (element 4 (128 ∷ 144 ∷ 163 ∷ [])) [] ++ rest) s ≡ elements_from 0 (p + length (cond b (element 4 (128 ∷ 144 ∷ 163 ∷ [])) [])) rest s
past_bearer true p rest s = past_element 4 (128 ∷ 144 ∷ 163 ∷ []) rest p s s refl refl
past_bearer false p rest s = stays p rest s

pub past_cause : (o : Option Cause) (p : ℕ) (rest : List ℕ) (b : Bool) → cause_fits o ≡ true → elements_from 0 p (cause_octets o ++ rest) (seen b None None None) ≡ elements_from 0 (p + length (cause_octets o)) rest (seen b o None None)
past_cause None p rest b h = stays p rest _
past_cause (Some c) p rest b h =
    let parts = and_parts _ _ h in
    let v = low7 c.value (leb-true _ _ parts.0) in
    let l = low4 c.location (leb-true _ _ parts.1) in
    past_element 8 ((128 + c.location) ∷ (128 + c.value) ∷ []) rest p (seen b None None None) (seen b (Some c) None None) refl (simp (top c.location, top c.value, v, l))

channel_noted : (n : ℕ) (x : Bool) (p : ℕ) (b : Bool) (c : Option Cause) → 1 ≤ n → n ≤ 127 → noted 24 p (cond x 169 161 ∷ 131 ∷ (128 + n) ∷ []) (seen b c None None) ≡ Ok (seen b c (Some (record { number = n; exclusive = x })) None)
channel_noted n true p b c low high =
    let g : leb 129 (128 + n) ≡ true = le-leb _ _ (omega arith) in simp (g, low7 n high)
channel_noted n false p b c low high =
    let g : leb 129 (128 + n) ≡ true = le-leb _ _ (omega arith) in simp (g, low7 n high)

pub past_channel : (o : Option Channel) (p : ℕ) (rest : List ℕ) (b : Bool) (c : Option Cause) → channel_fits o ≡ true → elements_from 0 p (channel_octets o ++ rest) (seen b c None None) ≡ elements_from 0 (p + length (channel_octets o)) rest (seen b c o None)
past_channel None p rest b c h = stays p rest _
past_channel (Some x) p rest b c h =
    let parts = and_parts _ _ h in
    let n = channel_noted x.number x.exclusive p b c (leb-true _ _ parts.0) (leb-true _ _ parts.1) in
    past_element 24 (cond x.exclusive 169 161 ∷ 131 ∷ (128 + x.number) ∷ []) rest p (seen b c None None) (seen b c (Some x) None) refl n

pub past_progress : (o : Option ℕ) (p : ℕ) (rest : List ℕ) (b : Bool) (c : Option Cause) (ch : Option Channel) → progress_fits o ≡ true → elements_from 0 p (progress_octets o ++ rest) (seen b c ch None) ≡ elements_from 0 (p + length (progress_octets o)) rest (seen b c ch o)
past_progress None p rest b c ch h = stays p rest _
past_progress (Some n) p rest b c ch h =
    past_element 30 (129 ∷ (128 + n) ∷ []) rest p (seen b c ch None) (seen b c ch (Some n)) refl (simp (top n, low7 n (leb-true _ _ h)))

-- the called number stands last
pub past_digits : (o : Option (List ℕ)) (p : ℕ) (b : Bool) (c : Option Cause) (ch : Option Channel) (pr : Option ℕ) → digits_fit o ≡ true → elements_from 0 p (digits_octets o) (seen b c ch pr) ≡ Ok (with_digits (seen b c ch pr) (option_map (λ ds. record { place = p + 3; octets = ds }) o))
past_digits None p b c ch pr h = refl
past_digits (Some ds) p b c ch pr h =
    let d : all_digits ds ≡ true = (and_parts _ _ h).1 in
    let one : leb 1 (suc (length ds)) ≡ true = le-leb _ _ (omega arith) in
    let s = with_digits (seen b c ch pr) (Some (record { place = p + 3; octets = ds })) in
    let z = past_element 112 (128 ∷ ds) [] p (seen b c ch pr) s refl (simp (one, d)) in
    ap (λ xs. elements_from 0 p xs (seen b c ch pr)) (sym (append-nil (element 112 (128 ∷ ds)))) ∙ z
