-- The first place at which a search hits is what `seek` finds.
use Rattle.std.proofs.Common.{◌≡◌, ℕ, zero, suc, ◌<◌, Bool, true, false, List, [], ◌∷◌, length, get_or, Some, None, Option, sym, refl, ap, ◌∙◌, arith}
use Rattle.std.specs.List.{AllWithin, HoldsAt}
use Rattle.std.specs.Option.{MatchOption, option_map}
use Rattle.calls.specs.declared.record.Call.{Call}
use Rattle.calls.specs.declared.record.Found.{Found}
use Rattle.calls.specs.Rules.{seek, seek_here, later}
use Rattle.call_table.specs.Keys.{hits, found_at}

passes : (p : Call → Bool) (o : Option Call) (rest : Option Found) → hits p o ≡ false → seek_here p o rest ≡ later rest
passes p None rest e = refl
passes p (Some k) rest e = rw e

pub seek_first : (p : Call → Bool) (os : List (Option Call)) (i : ℕ) (k : Call) → ((j : ℕ) → j < i → hits p (get_or os j None) ≡ false) → get_or os i None ≡ Some k → p k ≡ true → seek p os ≡ Some (record { place = i; call = k })
seek_first p [] i k b g e = absurd (let z : ◌≡◌ {A = ℕ} 0 1 = cc in omega arith)
seek_first p (o ∷ os) zero k b g e = ap (λ (x : Option Call). seek_here p x (seek p os)) g ∙ rw e
seek_first p (o ∷ os) (suc i) k b g e =
    passes p o (seek p os) (b 0 (omega arith)) ∙ ap later (seek_first p os i k (λ j l. b (suc j) (omega (arith, l))) g e)

pub seek_never : (p : Call → Bool) (os : List (Option Call)) → ((j : ℕ) → j < length os → hits p (get_or os j None) ≡ false) → seek p os ≡ None
seek_never p [] b = refl
seek_never p (o ∷ os) b =
    passes p o (seek p os) (b 0 (omega arith)) ∙ ap later (seek_never p os (λ j l. b (suc j) (omega (arith, l))))

at_the_hit : (p : Call → Bool) (os : List (Option Call)) (i : ℕ) (o : Option Call) → get_or os i None ≡ o → hits p o ≡ true → ((j : ℕ) → j < i → hits p (get_or os j None) ≡ false) → seek p os ≡ option_map (λ k. record { place = i; call = k }) o
at_the_hit p os i None g h b = absurd (cc)
at_the_hit p os i (Some k) g h b = seek_first p os i k b g h

-- the first place that hits, or none
pub first_hit : (p : Call → Bool) (os : List (Option Call)) (r : Option ℕ)
    → MatchOption r (AllWithin (λ o. hits p o ≡ false) os 0 (length os)) (λ i. (i < length os) × HoldsAt (λ o. hits p o ≡ true) os i × AllWithin (λ o. hits p o ≡ false) os 0 i)
    → found_at os r ≡ seek p os
first_hit p os None h = sym (seek_never p os (λ j l. h j None (omega arith) l))
first_hit p os (Some i) h = sym (at_the_hit p os i (get_or os i None) refl (h.1 None) (λ j l. h.2 j None (omega arith) l))
