-- A table whose calls are sound at every place, as a test and as a fact of each place.
use Rattle.std.proofs.Common.{◌≡◌, ℕ, zero, suc, Bool, true, ◌&&◌, List, [], ◌∷◌, set, Option, refl, arith}
use Rattle.std.proofs.lemmas.Bool.Decides.{nat_tests}
use Rattle.calls.specs.Records.{Call}
use Rattle.calls.specs.Standing.{Everywhere, SoundAt, is_sound_at, is_sound}

both : (a b : Bool) → a ≡ true → b ≡ true → (a && b) ≡ true
both a b p q = grind (arith, nat_tests)

first_of : (a b : Bool) → (a && b) ≡ true → a ≡ true
first_of a b e = grind (arith, nat_tests)

rest_of : (a b : Bool) → (a && b) ≡ true → b ≡ true
rest_of a b e = grind (arith, nat_tests)

pub sound_everywhere : (os : List (Option Call)) → is_sound os ≡ true → Everywhere SoundAt os
sound_everywhere [] e = tt
sound_everywhere (o ∷ os) e = (first_of (is_sound_at o) (is_sound os) e, sound_everywhere os (rest_of (is_sound_at o) (is_sound os) e))

-- one place is replaced by a sound one
pub sound_set : (os : List (Option Call)) (i : ℕ) (o : Option Call) → is_sound os ≡ true → is_sound_at o ≡ true → is_sound (set os i o) ≡ true
sound_set [] i o e h = refl
sound_set (x ∷ os) zero o e h = both (is_sound_at o) (is_sound os) h (rest_of (is_sound_at x) (is_sound os) e)
sound_set (x ∷ os) (suc i) o e h = both (is_sound_at x) (is_sound (set os i o)) (first_of (is_sound_at x) (is_sound os) e) (sound_set os i o (rest_of (is_sound_at x) (is_sound os) e) h)
