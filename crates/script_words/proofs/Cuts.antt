-- The words that the kit cuts off a line are those of the definition.
use Rattle.std.proofs.Common.{ℕ, ◌≡◌, ◌<◌, ◌≤◌, Bool, true, false, ◌&&◌, not, cond, List, [], ◌∷◌, ◌++◌, length, get_or, refl, ap, sym, ◌∙◌, append-nil, append_assoc, rules, tests, arith, inl, inr}
use Rattle.std.specs.Char.{is_ascii_whitespace}
use Rattle.std.specs.List.{AllPass, list_all}
use Rattle.std.specs.Str.{NoCharPasses}
use Rattle.std.specs.Str.Iter.{IsAsciiSeparator, split_ascii_whitespace_steps, split_ascii_whitespace_text}
use Rattle.std.proofs.lemmas.Bool.{cases_lt}
use Rattle.std.proofs.lemmas.Iterator.{YieldsList}
use Rattle.std.proofs.lemmas.Iterator.Consumers.{YieldsList-from_shown}
use Rattle.std.proofs.lemmas.List.Elements.{All-from_get_or}
use Rattle.std.proofs.lemmas.List.Sums.{list_all-from_AllPass}
use Rattle.std.proofs.lemmas.Str.{NoCharPasses-byte}
use Rattle.script_words.specs.Words.{with_word, words_from, words_of}

both : (a b : Bool) → (a && b) ≡ true → (a ≡ true) × (b ≡ true)
both a b e = search (rules, tests)

negated : (a : Bool) → not a ≡ true → a ≡ false
negated true e = sym e
negated false e = refl

-- ---------------------------------------------------------------- the parts of a line
skips_gap : (gap rest : List ℕ) → list_all is_ascii_whitespace gap ≡ true → words_from [] (gap ++ rest) ≡ words_from [] rest
skips_gap [] rest e = refl
skips_gap (x ∷ gap) rest e =
    let p = both (is_ascii_whitespace x) (list_all is_ascii_whitespace gap) e in
    ap (λ b. cond b (words_from [] (gap ++ rest)) (words_from (x ∷ []) (gap ++ rest))) p.0 ∙ skips_gap gap rest p.1

keeps_word : (begun word rest : List ℕ) → list_all (λ x. not (is_ascii_whitespace x)) word ≡ true → words_from begun (word ++ rest) ≡ words_from (begun ++ word) rest
keeps_word begun [] rest e = ap (λ w. words_from w rest) (sym (append-nil begun))
keeps_word begun (x ∷ word) rest e =
    let p = both (not (is_ascii_whitespace x)) (list_all (λ y. not (is_ascii_whitespace y)) word) e in
    let ended = with_word begun (words_from [] (word ++ rest)) in
    ap (λ b. cond b ended (words_from (begun ++ x ∷ []) (word ++ rest))) (negated (is_ascii_whitespace x) p.0)
    ∙ keeps_word (begun ++ x ∷ []) word rest p.1 ∙ ap (λ w. words_from w rest) (append_assoc begun (x ∷ []) word)

stands_first : (word : List ℕ) (words : List (List ℕ)) → 0 < length word → with_word word words ≡ word ∷ words
stands_first [] words long = absurd (omega arith)
stands_first (x ∷ xs) words long = refl

nothing_left : (rest : List ℕ) → length rest ≡ 0 → rest ≡ []
nothing_left [] e = refl
nothing_left (x ∷ xs) e = absurd (omega arith)

ends_word : (word sep rest : List ℕ) → 0 < length word → list_all is_ascii_whitespace sep ≡ true → length sep ≤ 1 → (length sep ≡ 0 → length rest ≡ 0) → words_from word (sep ++ rest) ≡ word ∷ words_from [] rest
ends_word word [] rest long blank short none =
    let e = nothing_left rest (none refl) in
    ap (λ r. words_from word r) e ∙ stands_first word [] long ∙ ap (λ r. word ∷ words_from [] r) (sym e)
ends_word word (x ∷ []) rest long blank short none =
    let p = both (is_ascii_whitespace x) true blank in
    ap (λ b. cond b (with_word word (words_from [] rest)) (words_from (word ++ x ∷ []) rest)) p.0 ∙ stands_first word (words_from [] rest) long
ends_word word (x ∷ y ∷ sep) rest long blank short none = absurd (omega arith)

-- ---------------------------------------------------------------- what the kit says of them
high : (x : ℕ) → 128 ≤ x → not (is_ascii_whitespace x) ≡ true
high x h = grind arith

low : (b : Bool) → b ≡ false → not b ≡ true
low b e = ap not e

no_blank : (word : List ℕ) → NoCharPasses is_ascii_whitespace word → list_all (λ x. not (is_ascii_whitespace x)) word ≡ true
no_blank word h =
    list_all-from_AllPass (λ x. not (is_ascii_whitespace x)) word (All-from_get_or (λ x. not (is_ascii_whitespace x) ≡ true) word 0 (λ i within.
    elim (cases_lt (get_or word i 0) 128) [
      | inl below ↦ low (is_ascii_whitespace (get_or word i 0)) (NoCharPasses-byte is_ascii_whitespace word i h within below)
      | inr above ↦ high (get_or word i 0) above
    ]))

cut : (line gap word sep rest : List ℕ) → line ≡ gap ++ (word ++ (sep ++ rest)) → AllPass is_ascii_whitespace gap → 0 < length word → NoCharPasses is_ascii_whitespace word → IsAsciiSeparator sep rest → words_of line ≡ word ∷ words_of rest
cut line gap word sep rest e blank long solid h =
    ap words_of e ∙ skips_gap gap (word ++ (sep ++ rest)) (list_all-from_AllPass is_ascii_whitespace gap blank)
    ∙ keeps_word [] word (sep ++ rest) (no_blank word solid) ∙ ends_word word sep rest long (list_all-from_AllPass is_ascii_whitespace sep h.0) h.1 h.2

blank_line : (line : List ℕ) → AllPass is_ascii_whitespace line → length (words_of line) ≡ 0
blank_line line blank = ap (λ l. length (words_of l)) (sym (append-nil line)) ∙ ap length (skips_gap line [] (list_all-from_AllPass is_ascii_whitespace line blank))

pub yields_words : (s : _) → YieldsList split_ascii_whitespace_steps (λ x. x.now) s (words_of (split_ascii_whitespace_text s))
yields_words s = YieldsList-from_shown split_ascii_whitespace_steps (λ x. x.now) (λ t. words_of (split_ascii_whitespace_text t))
    (λ a b h. blank_line (split_ascii_whitespace_text a) h.0)
    (λ a x b h. cut (split_ascii_whitespace_text a) h.3.0 x.now h.3.1 (split_ascii_whitespace_text b) h.3.2 h.3.3 h.0 h.1 h.3.4) s
