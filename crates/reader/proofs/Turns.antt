-- One turn of the reading: the element at the front joins what was seen, and the reading goes on behind it.
use Rattle.std.proofs.Common.{◌≡◌, ℕ, ◌+◌, ◌-◌, ◌<◌, ◌≤◌, suc, true, false, ltb, leb, List, [], ◌∷◌, length, get_or, take, drop, Some, None, Ok, Err, Option, Result, refl, ap, ◌∙◌, ⊎_elim, arith, length-drop}
use Rattle.std.proofs.lemmas.Bool.{le-ltb, lt-ltb}
use Rattle.std.proofs.lemmas.Bool.Decides.{leb_tells}
use Rattle.refusals.specs.declared.Ground.TheVariants.{ElementPastEnd}
use Rattle.messages.specs.declared.record.Elements.{Elements}
use Rattle.messages.specs.declared.record.Misread.{Misread}
use Rattle.messages.specs.Elements.{DigitsPart, misread, noted}
use Rattle.messages.specs.Reading.{elements_from, and_then}
use Rattle.messages.proofs.Passing.{skipped}
use Rattle.reader.specs.Items.{parts_of}

-- two ways to go on that come to the same
alike : (r : Result (Elements DigitsPart) Misread) (f g : Elements DigitsPart → Result (Elements DigitsPart) Misread) → ((s : Elements DigitsPart) → f s ≡ g s) → and_then r f ≡ and_then r g
alike (Ok s) f g h = h s
alike (Err e) f g h = refl

-- what an element with these contents, and these octets behind it, comes to
abbrev pub goes_on : ℕ → ℕ → List ℕ → Option (List ℕ × List ℕ) → Elements DigitsPart → Result (Elements DigitsPart) Misread
goes_on id p octets None s = Err (misread ElementPastEnd p)
goes_on id p octets (Some (cs, rest)) s = and_then (noted id p cs s) (λ more. elements_from 0 (p + (length octets - length rest)) rest more)

-- an octet from 80 up is an element alone
turn_alone : (id p : ℕ) (xs : List ℕ) (s : Elements DigitsPart) → leb 128 id ≡ true → elements_from 0 p (id ∷ xs) s ≡ goes_on id p (id ∷ xs) (parts_of id xs) s
turn_alone id p xs s a =
    let e : p + 1 ≡ p + (suc (length xs) - length xs) = omega arith in
    simp a (alike (noted id p [] s) _ _ (λ m. ap (λ q. elements_from 0 q xs m) e))

-- an element whose contents are not all there
turn_past : (id p : ℕ) (xs : List ℕ) (s : Elements DigitsPart) → leb 128 id ≡ false → length xs < get_or xs 0 0 + 1 → elements_from 0 p (id ∷ xs) s ≡ goes_on id p (id ∷ xs) (parts_of id xs) s
turn_past id p xs s a h = simp (a, lt-ltb (length xs) (get_or xs 0 0 + 1) h)

-- an element that is there whole
turn_whole : (id p : ℕ) (xs : List ℕ) (s : Elements DigitsPart) → leb 128 id ≡ false → get_or xs 0 0 + 1 ≤ length xs → elements_from 0 p (id ∷ xs) s ≡ goes_on id p (id ∷ xs) (parts_of id xs) s
turn_whole id p xs s a h =
    let n = get_or xs 0 0 + 1 in
    let t : ltb (length xs) n ≡ false = le-ltb _ _ h in
    let e : p + 1 + n ≡ p + (suc (length xs) - length (drop n xs)) = simp length-drop (omega arith) in
    simp (a, t) (alike (noted id p (take (get_or xs 0 0) (drop 1 xs)) s) _ _
    (λ m. skipped n (p + 1) xs m h ∙ ap (λ q. elements_from 0 q (drop n xs) m) e))

turn_of : (id p : ℕ) (xs : List ℕ) (s : Elements DigitsPart) → elements_from 0 p (id ∷ xs) s ≡ goes_on id p (id ∷ xs) (parts_of id xs) s
turn_of id p xs s =
    ⊎_elim
    (λ a. turn_alone id p xs s a.0)
    (λ a. ⊎_elim
    (λ h. turn_whole id p xs s a.0 h.1)
    (λ h. turn_past id p xs s a.0 h.1)
    (leb_tells (get_or xs 0 0 + 1) (length xs)))
    (leb_tells 128 id)

pub turn : {octets xs : List ℕ} {id : ℕ} {parts : Option (List ℕ × List ℕ)} (p : ℕ) (s : Elements DigitsPart) → octets ≡ id ∷ xs → parts ≡ parts_of id xs → elements_from 0 p octets s ≡ goes_on id p octets parts s
turn {octets} {xs} {id} {parts} p s e f = rw (e, f) (turn_of id p xs s)
