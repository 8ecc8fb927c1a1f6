-- There is always a fair choice, since pool and table are bounded.
use Rattle.std.proofs.Common.{◌≡◌, ℕ, zero, suc, ◌<◌, ◌≤◌, Bool, true, false, ◌⊎◌, List, [], ◌∷◌, length, get_or, Some, None, Option, refl, ap, ◌∙◌, inl, inr, ⊎_elim, le_of_suc-le-suc, not-suc-le-zero, arith}
use Rattle.std.proofs.lemmas.Bool.{cases_lt}
use Rattle.std.proofs.lemmas.Bool.Decides.{nat_tests}
use Rattle.pools.specs.States.{States, idle, known, AnyWasIdle}
use Rattle.calls.specs.Records.{Call}
use Rattle.calls.specs.Rules.{State, Choice, Fair, FreePlace}

abbrev Busy : States → ℕ → Type 0
Busy pool n = (c : ℕ) → c < n → idle (pool c) ≡ false

decide : (b : Bool) → (b ≡ true) ⊎ (b ≡ false)
decide true = inl refl
decide false = inr refl

busy_more : (pool : States) (n : ℕ) → Busy pool n → idle (pool n) ≡ false → Busy pool (suc n)
busy_more pool n b h c l = ⊎_elim (λ lt. b c lt) (λ le. (let z : c ≡ n = omega arith in ap (λ k. idle (pool k)) z ∙ h)) (cases_lt c n)

pick_below : (pool : States) (n : ℕ) → ((c : ℕ) × (idle (pool c) ≡ true)) ⊎ Busy pool n
pick_below pool zero = inr (λ c l. absurd (not-suc-le-zero l))
pick_below pool (suc n) = ⊎_elim inl (λ b. ⊎_elim (λ e. inl (n, e)) (λ h. inr (busy_more pool n b h)) (decide (idle (pool n)))) (pick_below pool n)

-- nothing is known above 127
abbrev pub Bounded : States → Type 0
Bounded pool = (c : ℕ) → known (pool c) ≡ true → c ≤ 127

above_busy : (pool : States) → Bounded pool → (c : ℕ) → 127 < c → idle (pool c) ≡ false
above_busy pool h c l = let known_below = h c in grind (arith, nat_tests)

pub fair_pick : (pool : States) → Bounded pool → (o : Option ℕ) × AnyWasIdle o pool
fair_pick pool h =
    ⊎_elim (λ w. (Some w.0, w.1)) (λ b. (None, λ c. ⊎_elim (λ lt. b c lt) (λ le. above_busy pool h c (omega arith)) (cases_lt c 128))) (pick_below pool 128)

pub fair_place : (table : List (Option Call)) → (o : Option ℕ) × FreePlace table o
fair_place [] = (None, λ i l. absurd (not-suc-le-zero l))
fair_place (None ∷ os) = (Some 0, (omega arith, refl))
fair_place (Some k ∷ os) = let r = fair_place os in go r.0 r.1
  where
    none_there : ((i : ℕ) → i < length os → get_or os i None ≡ None → ⊥) → (i : ℕ) → i < suc (length os) → get_or (Some k ∷ os) i None ≡ None → ⊥
    none_there h zero l e = grind arith
    none_there h (suc i) l e = h i (le_of_suc-le-suc l) e

    go : (o : Option ℕ) → FreePlace os o → (o : Option ℕ) × FreePlace (Some k ∷ os) o
    go None h = (None, none_there h)
    go (Some i) h = (Some (suc i), (omega (arith, h.0), h.1))

pub fair_choice : (st : State) → Bounded st.pool → (ch : Choice) × Fair st ch
fair_choice st h =
    let p = fair_pick st.pool h in
    let q = fair_place st.table in
    (record { pick = p.0; place = q.0 }, record { pick = p.1; place = q.1 })
