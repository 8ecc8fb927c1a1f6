-- One digit of the text more.
use Rattle.std.proofs.Common.{◌≡◌, ℕ, ◌+◌, ◌*◌, Bool, true, false, cond, not, List, [], ◌∷◌, ◌++◌, length, Some, None, Option, Iter, Bor, sym, refl, ap, ◌∙◌, append_assoc, arith}
use Rattle.std.specs.Fn.{Called, CalledAt}
use Rattle.std.specs.Iterator.{Yields}
use Rattle.std.specs.Iterator.Adapters.{filter_source, filter_callee, map_source, map_callee, filter_steps, map_steps}
use Rattle.std.specs.List.{FoldsTo}
use Rattle.std.specs.Option.{option_map}
use Rattle.std.specs.Slice.Iter.{iter_rest, iter_steps}
use Rattle.std.specs.declared.iter.Filter.{Filter}
use Rattle.std.specs.declared.iter.Map.{Map}
use denote.Param.Members.{Mut}
use Rattle.hexadecimal.specs.Text.{is_blank, digit_of, paired, ended, octets_from}

-- octets in front of what the rest comes to
abbrev pub behind : List ℕ → Option (List ℕ) → Option (List ℕ)
behind front o = option_map (λ more. front ++ more) o

-- what is left of the text
abbrev pub left : {F G : Type 0} → Map (Filter (Iter ℕ) F) G → List ℕ
left s = iter_rest (filter_source (map_source s))

-- what the text comes to where the next digit is r, or None, that of a wrong character, and None at its end
abbrev pub came : Option ℕ → Option (Option ℕ) → List ℕ → Option (List ℕ)
came pending None more = ended pending
came pending (Some digit) more = paired pending digit (λ next. octets_from next more)

blank : (p : Option ℕ) (x : ℕ) (xs : List ℕ) → is_blank x ≡ true → octets_from p (x ∷ xs) ≡ octets_from p xs
blank p x xs e = ap (λ b. cond b (octets_from p xs) (paired p (digit_of x) (λ next. octets_from next xs))) e

char : (p : Option ℕ) (x : ℕ) (xs : List ℕ) → is_blank x ≡ false → octets_from p (x ∷ xs) ≡ paired p (digit_of x) (λ next. octets_from next xs)
char p x xs e = ap (λ b. cond b (octets_from p xs) (paired p (digit_of x) (λ next. octets_from next xs))) e

passed : {F : Type 0} (R : F → Bor ℕ → F → Type 0) → ((f : F) (x : Bor ℕ) (q : F) → R f x q → is_blank x.now ≡ true) → (p : Option ℕ) (xs : List (Bor ℕ)) (s t : Iter ℕ) (f q : F) → Yields iter_steps s xs t → FoldsTo R f xs q → octets_from p (iter_rest s) ≡ octets_from p (iter_rest t)
passed R k p [] s t f q y c = ap (λ u. octets_from p (iter_rest u)) y
passed R k p (x ∷ xs) s t f q y c = ap (octets_from p) y.1 ∙ blank p x.now (iter_rest y.0) (k f x c.0 c.1) ∙ passed R k p xs y.0 t c.0 q y.2 c.2

over : (p : Option ℕ) (xs : List ℕ) → length xs ≡ 0 → octets_from p xs ≡ ended p
over p [] e = refl
over p (x ∷ xs) e = absurd (omega arith)

-- one call of the chain: the blanks that it passes over, and the character that it answers for
module _ {F G : Type 0} {g : Mut F (Bor (Bor ℕ) × Unit {0}) Bool} {h : Mut G (Bor ℕ × Unit {0}) (Option ℕ)}
    (tests : (f : F) (x : Bor ℕ) (b : Bool) (q : F) → CalledAt g f x b q → b ≡ not (is_blank x.now))
    (reads : (f : G) (x : Bor ℕ) (d : Option ℕ) (q : G) → Called h f (x, tt) d q → d ≡ digit_of x.now) where
  blanks : (f : F) (x : Bor ℕ) (q : F) → CalledAt g f x false q → is_blank x.now ≡ true
  blanks f x q e = turned (is_blank x.now) (tests f x false q e)
    where
      turned : (b : Bool) → false ≡ not b → b ≡ true
      turned true k = refl
      turned false k = k

  chars : (f : F) (x : Bor ℕ) (q : F) → CalledAt g f x true q → is_blank x.now ≡ false
  chars f x q e = turned (is_blank x.now) (tests f x true q e)
    where
      turned : (b : Bool) → true ≡ not b → b ≡ false
      turned true k = k
      turned false k = refl

  pub turn : (p : Option ℕ) (s t : Map (Filter (Iter ℕ) F) G) (r : Option (Option ℕ)) → map_steps (filter_steps iter_steps g) h s r t → octets_from p (left s) ≡ came p r (left t)
  turn p s t None m =
      let k = m.0 in
      passed (λ f x q. CalledAt g f x false q) blanks p k.0 (filter_source (map_source s)) k.2.0 (filter_callee (map_source s)) k.1 k.2.1 k.3 ∙ over p (iter_rest k.2.0) k.2.2.0
  turn p s t (Some d) m =
      let k = m.1 in
      passed (λ f x q. CalledAt g f x false q) blanks p k.0 (filter_source (map_source s)) k.2.0 (filter_callee (map_source s)) k.1 k.2.1 k.3
      ∙ ap (octets_from p) k.2.2
      ∙ char p m.0.now (left t) (chars k.1 m.0 (filter_callee (map_source t)) k.4)
      ∙ ap (λ v. paired p v (λ next. octets_from next (left t))) (sym (reads (map_callee s) m.0 d (map_callee t) m.2))

pub whole : (o : Option (List ℕ)) → behind [] o ≡ o
whole None = refl
whole (Some xs) = refl

prefixed : (front : List ℕ) (x : ℕ) (o : Option (List ℕ)) → behind (front ++ x ∷ []) o ≡ behind front (option_map (λ more. x ∷ more) o)
prefixed front x None = refl
prefixed front x (Some more) = ap Some (append_assoc front (x ∷ []) more)

-- with its second digit an octet is whole
pub second : (front : List ℕ) (high low : ℕ) (more : List ℕ) → behind (front ++ (high * 16 + low) ∷ []) (octets_from None more) ≡ behind front (came (Some high) (Some (Some low)) more)
second front high low more = prefixed front (high * 16 + low) (octets_from None more)
