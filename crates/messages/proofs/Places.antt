-- The digits that are read are that part of the octets that their place says.
use Rattle.std.proofs.Common.{◌≡◌, ℕ, zero, suc, ◌+◌, Bool, true, false, cond, ◌&&◌, eqb, ltb, leb, List, [], ◌∷◌, length, get_or, take, drop, Some, None, Ok, Err, Option, Result, sym, refl, ap, ◌∙◌, subst, arith}
use Rattle.std.proofs.lemmas.List.{drop-drop}
use Rattle.refusals.specs.declared.Ground.TheVariants.{BadElement, ElementPastEnd}
use Rattle.messages.specs.Records.{Elements, Misread}
use Rattle.messages.specs.Elements.{DigitsPart, cause_of, channel_of, progress_of, digits_of, with_cause, with_channel, with_progress, with_digits, with_complete, absent, kept, noted, bare}
use Rattle.messages.specs.Reading.{and_then, elements_from}

-- these digits, if any, are that part of the octets
abbrev pub Inside : List ℕ → Option DigitsPart → Type 0
Inside octets None = Unit {0}
Inside octets (Some d) = d.octets ≡ take (length d.octets) (drop d.place octets)

never : {B C : Type 0} (x : B) (e : Misread) → ◌≡◌ {A = Result B Misread} (Err e) (Ok x) → C
never x e h = let z : ◌≡◌ {A = ℕ} 0 1 = cc in absurd (omega arith)

same : {B : Type 0} (x y : B) → ◌≡◌ {A = Result B Misread} (Ok x) (Ok y) → x ≡ y
same x y h = cc

-- what holds of the elements where they could be read
abbrev Keeps : (Elements DigitsPart → Type 0) → Result (Elements DigitsPart) Misread → Type 0
Keeps P r = (e : Elements DigitsPart) → r ≡ Ok e → P e

read_so : (P : Elements DigitsPart → Type 0) (s : Elements DigitsPart) → P s → Keeps P (Ok s)
read_so P s p e h = subst P (same s e h) p

refused : (P : Elements DigitsPart → Type 0) (m : Misread) → Keeps P (Err m)
refused P m e h = never e m h

tested : (P : Elements DigitsPart → Type 0) (t : Bool) (f g : Result (Elements DigitsPart) Misread) → Keeps P f → Keeps P g → Keeps P (cond t f g)
tested P true f g a b = a
tested P false f g a b = b

keeping : {B : Type 0} (P : Elements DigitsPart → Type 0) (place : ℕ) (o : Option B) (take : Option B → Elements DigitsPart) → P (take o) → Keeps P (kept place o take)
keeping P place None take p = refused P _
keeping P place (Some x) take p = read_so P (take (Some x)) p

followed : (P : Elements DigitsPart → Type 0) (r : Result (Elements DigitsPart) Misread) (next : Elements DigitsPart → Result (Elements DigitsPart) Misread) (Q : Elements DigitsPart → Type 0) → Keeps Q r → ((s : Elements DigitsPart) → Q s → Keeps P (next s)) → Keeps P (and_then r next)
followed P (Ok s) next Q q k = k s (q s refl)
followed P (Err m) next Q q k = refused P m

-- a front part, by its own length
front : (n : ℕ) (ys : List ℕ) → take n ys ≡ take (length (take n ys)) ys
front zero ys = refl
front (suc n) [] = refl
front (suc n) (y ∷ ys) = ap (λ l. y ∷ l) (front n ys)

part : (n : ℕ) (ys : List ℕ) → drop 1 (take n ys) ≡ take (length (drop 1 (take n ys))) (drop 1 ys)
part zero ys = refl
part (suc n) [] = refl
part (suc n) (y ∷ ys) = front n ys

-- the octets behind a place
later : (octets : List ℕ) (place k : ℕ) (xs : List ℕ) → drop place octets ≡ xs → drop (place + k) octets ≡ drop k xs
later octets place k xs h = sym (drop-drop k place octets) ∙ ap (drop k) h

by_test : (octets : List ℕ) (t : Bool) (d : DigitsPart) → Inside octets (Some d) → Inside octets (cond t (Some d) None)
by_test octets true d i = i
by_test octets false d i = tt

brought : (octets : List ℕ) (place n : ℕ) (ys : List ℕ) → drop (place + 2) octets ≡ ys → Inside octets (digits_of place (take n ys))
brought octets place n ys h =
    let e : place + 3 ≡ place + 2 + 1 = omega arith in
    let d : drop (place + 3) octets ≡ drop 1 ys = ap (λ p. drop p octets) e ∙ later octets (place + 2) 1 ys h in
    by_test octets _ _ (part n ys ∙ ap (take (length (drop 1 (take n ys)))) (sym d))

-- one more element leaves the digits, or brings those of its contents
noted_inside : (octets : List ℕ) (id place : ℕ) (contents : List ℕ) (s : Elements DigitsPart) → Inside octets s.digits → Inside octets (digits_of place contents) → Keeps (λ e. Inside octets e.digits) (noted id place contents s)
noted_inside octets id place contents s i b =
    let P : Elements DigitsPart → Type 0 = λ e. Inside octets e.digits in
    tested P (leb 144 id && leb id 159) _ _ (refused P (record { ground = BadElement; place = place }))
    (tested P (eqb id 161) _ _ (read_so P (with_complete s) i)
    (tested P (eqb id 8 && absent s.cause) _ _ (keeping P place (cause_of contents) (with_cause s) i)
    (tested P (eqb id 24 && absent s.channel) _ _ (keeping P place (channel_of contents) (with_channel s) i)
    (tested P (eqb id 30 && absent s.progress) _ _ (keeping P place (progress_of contents) (with_progress s) i)
    (tested P (eqb id 112 && absent s.digits) _ _ (keeping P place (digits_of place contents) (with_digits s) b) (read_so P s i))))))

elements_inside : (octets : List ℕ) (k place : ℕ) (xs : List ℕ) (s : Elements DigitsPart) → drop place octets ≡ xs → Inside octets s.digits → Keeps (λ e. Inside octets e.digits) (elements_from k place xs s)
elements_inside octets k place [] s h i = read_so (λ e. Inside octets e.digits) s i
elements_inside octets (suc k) place (x ∷ xs) s h i = elements_inside octets k (place + 1) xs s (later octets place 1 (x ∷ xs) h) i
elements_inside octets zero place (x ∷ xs) s h i =
    let P : Elements DigitsPart → Type 0 = λ e. Inside octets e.digits in
    let next = later octets place 1 (x ∷ xs) h in
    tested P (leb 128 x) _ _
    (followed P (noted x place [] s) (λ m. elements_from 0 (place + 1) xs m) P (noted_inside octets x place [] s i tt) (λ m j. elements_inside octets 0 (place + 1) xs m next j))
    (tested P (ltb (length xs) (get_or xs 0 0 + 1)) _ _ (refused P (record { ground = ElementPastEnd; place = place }))
    (followed P (noted x place (take (get_or xs 0 0) (drop 1 xs)) s) (λ m. elements_from (get_or xs 0 0 + 1) (place + 1) xs m) P
    (noted_inside octets x place (take (get_or xs 0 0) (drop 1 xs)) s i (brought octets place (get_or xs 0 0) (drop 1 xs) (later octets place 2 (x ∷ xs) h)))
    (λ m j. elements_inside octets (get_or xs 0 0 + 1) (place + 1) xs m next j)))

-- the digits of a message are that part of its octets
pub read_inside : (octets : List ℕ) (e : Elements DigitsPart) → elements_from 0 5 (drop 5 octets) bare ≡ Ok e → Inside octets e.digits
read_inside octets e h = elements_inside octets 0 5 (drop 5 octets) bare refl tt e h
