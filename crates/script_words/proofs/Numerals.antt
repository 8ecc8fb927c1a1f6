-- What the kit's `parse` says of a word is what the definition says.
use Rattle.std.proofs.Common.{ℕ, ◌≡◌, ◌<◌, ◌^◌, Bool, true, false, ◌&&◌, cond, List, length, Some, None, Ok, Err, Result, OkIff, refl, ap, sym, ◌∙◌, nat_lt, rules, tests}
use Rattle.std.specs.Result.{result_ok}
use Rattle.std.specs.Str.{all_ascii_digits}
use Rattle.std.specs.Str.Parse.{IsNumeral, digits_value, without_leading_plus, ParsesUnsigned}
use Rattle.std.proofs.lemmas.Str.Parse.{IsNumeralModel, numerals_by_value, tells_all_ascii_digits}
use Rattle.script_words.specs.Numbers.{is_numeral, value_below, number_below}

own : IsNumeralModel (λ ds. all_ascii_digits ds ≡ true) (digits_value 10)
own = numerals_by_value _ tells_all_ascii_digits

-- whether the definition takes the digits
taken : ℕ → List ℕ → Bool
taken limit ds = is_numeral ds && nat_lt (digits_value 10 ds) limit

below : (limit n v : ℕ) (digits : Bool) → 0 < n → digits ≡ true → v < limit → ((nat_lt 0 n && digits) && nat_lt v limit) ≡ true
below limit n v digits long all low = search (rules, tests)

parts : (limit n v : ℕ) (digits : Bool) → ((nat_lt 0 n && digits) && nat_lt v limit) ≡ true → (0 < n) × (digits ≡ true) × (v < limit)
parts limit n v digits e = search (rules, tests)

refused : (b : Bool) (v : ℕ) → (b ≡ true → ⊥) → None ≡ cond b (Some v) None
refused true v never = absurd (never refl)
refused false v never = refl

value_read : {E : Type 0} (limit : ℕ) (ds : List ℕ) (r : Result ℕ E) → OkIff r (IsNumeral 10 ds × (digits_value 10 ds < limit)) (digits_value 10 ds) → result_ok r ≡ value_below limit ds
value_read limit ds (Ok x) h =
    let v = digits_value 10 ds in
    ap Some h.1 ∙ sym (ap (λ b. cond b (Some v) None) (below limit (length ds) v (all_ascii_digits ds) h.0.0.0 (own.from ds h.0.0.1) h.0.1))
value_read limit ds (Err e) h =
    let v = digits_value 10 ds in
    refused _ v (λ t. let p = parts limit (length ds) v (all_ascii_digits ds) t in h ((p.0, own.to ds p.1), p.2))

pub number_read : {E : Type 0} (k : ℕ) (word : List ℕ) (r : Result ℕ E) → ParsesUnsigned k 10 word r → result_ok r ≡ number_below (2 ^ k) word
number_read k word r h = value_read (2 ^ k) (without_leading_plus word) r h
