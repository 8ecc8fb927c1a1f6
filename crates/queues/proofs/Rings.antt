-- What filling and emptying a place do to the messages in a ring.
use Rattle.std.proofs.Common.{◌≡◌, ℕ, zero, suc, ◌+◌, ◌-◌, ◌<◌, ◌≤◌, Bool, true, false, eqb, ltb, List, [], ◌∷◌, ◌++◌, length, get_or, take, drop, set, Some, None, Option, sym, refl, ap, ◌∙◌, subst, append_assoc, append-nil, arith, length-append, length-drop, length-set, length-take, MatchOption}
use mathlib.Core.Path.{transport}
use lib.Seq.{take-set-lt}
use Rattle.std.proofs.lemmas.List.{drop-set-add, take-set-le, set-append_left, set-append_right, drop-set-lt, take_more_set, drop_more, take-append-le, take_all, drop_all, length_push}
use Rattle.std.proofs.lemmas.Bool.{cond-true, cond-false, ltb-true, ltb-false, eqb-true}
use Rattle.queues.specs.Ring.{ring, messages_in, in_ring, behind, place_after}

module _ {M : Type 0} where
  same_length : (xs ys : List (Option M)) (i : ℕ) (v : Option M) → ys ≡ set xs i v → length ys ≡ length xs
  same_length xs ys i v e = ap length e ∙ simp length-set

  messages_in_push : (l : List (Option M)) (m : M) → messages_in (l ++ Some m ∷ []) ≡ messages_in l ++ m ∷ []
  messages_in_push [] m = refl
  messages_in_push (None ∷ l) m = messages_in_push l m
  messages_in_push (Some x ∷ l) m = ap (λ r. x ∷ r) (messages_in_push l m)

  messages_in_le : (l : List (Option M)) → length (messages_in l) ≤ length l
  messages_in_le [] = omega arith
  messages_in_le (None ∷ l) = omega (arith, messages_in_le l)
  messages_in_le (Some x ∷ l) = omega (arith, messages_in_le l)

  ring_length : (xs : List (Option M)) (f : ℕ) → f ≤ length xs → length (ring xs f) ≡ length xs
  unfolding ring
  ring_length xs f h = simp (length-append, length-drop, length-take) (omega arith)

  -- a write behind the used places, before the end of the list or round it
  near : (xs : List (Option M)) (f n : ℕ) (v : Option M) → n < length xs - f → ring (set xs (f + n) v) f ≡ set (ring xs f) n v
  unfolding ring
  near xs f n v h =
      let d : n < length (drop f xs) = simp length-drop h in
      let le : f ≤ f + n = omega arith in
      (λ i. drop-set-add f xs n v i ++ take-set-le f xs (f + n) v le i) ∙ sym (set-append_left (drop f xs) (take f xs) n v d)

  far : (xs : List (Option M)) (f n : ℕ) (v : Option M) → f ≤ length xs → length xs - f ≤ n → n < length xs → ring (set xs (n - (length xs - f)) v) f ≡ set (ring xs f) n v
  unfolding ring
  far xs f n v hf h k =
      let lt : n - (length xs - f) < f = omega arith in
      (λ i. drop-set-lt f xs (n - (length xs - f)) v lt i ++ take-set-lt f xs (n - (length xs - f)) v lt i) ∙ sym (set-append_right (drop f xs) (take f xs) (length xs - f) n v (length-drop f xs) h)

  filled : (xs : List (Option M)) (f n : ℕ) (v : Option M) → f ≤ length xs → n < length xs → ring (set xs (behind f n (length xs)) v) f ≡ set (ring xs f) n v
  filled xs f n v hf h = by_end (ltb n (length xs - f)) refl
    where
      There : ℕ → Type 0
      There i = ring (set xs i v) f ≡ set (ring xs f) n v

      by_end : (b : Bool) → ltb n (length xs - f) ≡ b → There (behind f n (length xs))
      by_end true e = subst There (sym (cond-true _ _ _ e)) (near xs f n v (ltb-true _ _ e))
      by_end false e = subst There (sym (cond-false _ _ _ e)) (far xs f n v hf (ltb-false _ _ e) h)

  put_last : (xs : List (Option M)) (f n : ℕ) (m : M) → f ≤ length xs → n < length xs → in_ring (set xs (behind f n (length xs)) (Some m)) f (n + 1) ≡ in_ring xs f n ++ m ∷ []
  put_last xs f n m hf h =
      let long = ring_length xs f hf in
      let lt : n < length (ring xs f) = omega arith in
      ap (λ l. messages_in (take (n + 1) l)) (filled xs f n (Some m) hf h) ∙ ap messages_in (take_more_set (ring xs f) n (Some m) lt) ∙ messages_in_push (take n (ring xs f)) m

  -- a message in the place behind the used ones waits last
  pub waits_last : (xs ys : List (Option M)) (f n count at : ℕ) (m : M) → f ≤ length xs → n < length xs → count ≡ length xs → at ≡ behind f n count → ys ≡ set xs at (Some m) → in_ring ys f (n + 1) ≡ in_ring xs f n ++ m ∷ []
  waits_last xs ys f n count at m hf h c a y =
      ap (λ l. in_ring l f (n + 1)) (y ∙ ap (λ i. set xs i (Some m)) (a ∙ ap (behind f n) c)) ∙ put_last xs f n m hf h

  -- one message more waits
  pub one_longer : (xs ys : List (Option M)) (f n count at : ℕ) (m : M) → f ≤ length xs → n < length xs → length (in_ring xs f n) ≡ n → count ≡ length xs → at ≡ behind f n count → ys ≡ set xs at (Some m) → length (in_ring ys f (n + 1)) ≡ n + 1
  one_longer xs ys f n count at m hf h counted c a y =
      ap length (waits_last xs ys f n count at m hf h c a y) ∙ length_push (in_ring xs f n) m ∙ ap (λ k. k + 1) counted

  -- the places behind the first used one, round the end
  rest : List (Option M) → ℕ → List (Option M)
  rest xs f = drop (f + 1) xs ++ take f xs

  rest_length : (xs : List (Option M)) (f : ℕ) → f < length xs → length (rest xs f) ≡ length xs - 1
  unfolding rest
  rest_length xs f h = simp (length-append, length-drop, length-take) (omega arith)

  ring_first : (xs : List (Option M)) (f : ℕ) → f < length xs → ring xs f ≡ get_or xs f None ∷ rest xs f
  unfolding ring rest
  ring_first xs f h = ap (λ l. l ++ take f xs) (drop_more xs f None h)

  ring_next : (xs : List (Option M)) (f : ℕ) → f < length xs → ring (set xs f None) (f + 1) ≡ rest xs f ++ None ∷ []
  unfolding ring rest
  ring_next xs f h =
      let lt : f < f + 1 = omega arith in
      (λ i. drop-set-lt (f + 1) xs f None lt i ++ take_more_set xs f None h i) ∙ sym (append_assoc (drop (f + 1) xs) (take f xs) (None ∷ []))

  -- a ring that begins behind the last place begins at the first
  ring_around : (xs : List (Option M)) (n : ℕ) → length xs ≡ n → ring xs n ≡ ring xs 0
  unfolding ring
  ring_around xs n h =
      let le : length xs ≤ n = omega arith in
      (λ i. drop_all n xs le i ++ take_all n xs le i) ∙ sym (append-nil xs)

  emptied : (xs : List (Option M)) (f : ℕ) → f < length xs → ring (set xs f None) (place_after f (length xs)) ≡ rest xs f ++ None ∷ []
  emptied xs f h = by_end (eqb (f + 1) (length xs)) refl
    where
      from : ℕ → Type 0
      from i = ring (set xs f None) i ≡ rest xs f ++ None ∷ []

      by_end : (b : Bool) → eqb (f + 1) (length xs) ≡ b → from (place_after f (length xs))
      by_end true e =
          let last : length (set xs f None) ≡ f + 1 = simp length-set (sym (eqb-true _ _ e)) in
          subst from (sym (cond-true _ _ _ e)) (sym (ring_around (set xs f None) (f + 1) last) ∙ ring_next xs f h)
      by_end false e = subst from (sym (cond-false _ _ _ e)) (ring_next xs f h)

  take_cons : (x : Option M) (l : List (Option M)) (n : ℕ) → 0 < n → take n (x ∷ l) ≡ x ∷ take (n - 1) l
  take_cons x l zero h = absurd (omega arith)
  take_cons x l (suc k) h = let e : k ≡ suc k - 1 = omega arith in ap (λ j. x ∷ take j l) e

  -- where each of the used places holds a message, so does the first
  first_holds : (x : Option M) (l : List (Option M)) (used waiting : List M) → used ≡ messages_in (x ∷ l) → waiting ≡ messages_in l → length l < length used → MatchOption x ⊥ (λ m. used ≡ m ∷ waiting)
  first_holds None l used waiting e w h = omega (arith, ap length e, messages_in_le l)
  first_holds (Some m) l used waiting e w h = e ∙ ap (λ r. m ∷ r) (sym w)

  take_first : (xs : List (Option M)) (f n : ℕ) → f < length xs → 0 < n → n ≤ length xs → length (in_ring xs f n) ≡ n → MatchOption (get_or xs f None) ⊥ (λ m. in_ring xs f n ≡ m ∷ in_ring (set xs f None) (place_after f (length xs)) (n - 1))
  take_first xs f n h p k counted =
      let x = get_or xs f None in
      let later = take (n - 1) (rest xs f) in
      let long = rest_length xs f h in
      let le : n - 1 ≤ length (rest xs f) = omega arith in
      let few : length later ≡ n - 1 = simp length-take (omega arith) in
      let before : take n (ring xs f) ≡ x ∷ later = ap (take n) (ring_first xs f h) ∙ take_cons x (rest xs f) n p in
      let after : take (n - 1) (ring (set xs f None) (place_after f (length xs))) ≡ later = ap (take (n - 1)) (emptied xs f h) ∙ take-append-le (n - 1) (rest xs f) (None ∷ []) le in
      first_holds x later _ _ (ap messages_in before) (ap messages_in after) (omega arith)

  -- emptying the first used place takes the oldest message out
  pub oldest_leaves : (xs ys : List (Option M)) (f n count next : ℕ) (r : Option M) → f < length xs → 0 < n → n ≤ length xs → length (in_ring xs f n) ≡ n → r ≡ get_or xs f None → ys ≡ set xs f None → count ≡ length ys → next ≡ place_after f count → MatchOption r ⊥ (λ m. in_ring xs f n ≡ m ∷ in_ring ys next (n - 1))
  oldest_leaves xs ys f n count next r h p k counted value after c step =
      let to = sym (step ∙ ap (place_after f) (c ∙ same_length xs ys f None after)) in
      transport (λ i. MatchOption (sym value i) ⊥ (λ m. in_ring xs f n ≡ m ∷ in_ring (sym after i) (to i) (n - 1))) (take_first xs f n h p k counted)

  one_fewer : (r : Option M) (before after : List M) (n : ℕ) → MatchOption r ⊥ (λ m. before ≡ m ∷ after) → length before ≡ n → length after ≡ n - 1
  one_fewer None before after n h e = absurd h
  one_fewer (Some m) before after n h e = let more = ap length h in omega arith

  -- one message fewer waits
  pub one_shorter : (xs ys : List (Option M)) (f n count next : ℕ) (r : Option M) → f < length xs → 0 < n → n ≤ length xs → length (in_ring xs f n) ≡ n → r ≡ get_or xs f None → ys ≡ set xs f None → count ≡ length ys → next ≡ place_after f count → length (in_ring ys next (n - 1)) ≡ n - 1
  one_shorter xs ys f n count next r h p k counted value after c step =
      one_fewer r _ _ n (oldest_leaves xs ys f n count next r h p k counted value after c step) counted
