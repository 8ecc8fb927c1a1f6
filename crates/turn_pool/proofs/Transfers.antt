-- What taking a channel out of one list and putting it at the end of the other makes of the states.
use Rattle.std.proofs.Common.{◌≡◌, ℕ, ◌+◌, ◌<◌, true, eqb, List, [], ◌∷◌, ◌++◌, ap, arith}
use Rattle.std.proofs.lemmas.Grind.{common_steps}
use Rattle.turn_pool.specs.Lists.{once, times, without}
use Rattle.turn_pool.specs.Listing.{number}
use Rattle.turn_pool.specs.Moves.{ActsAsSeizure, ActsAsRelease}
use Rattle.turn_pool.proofs.Counts.{once_small, times_append, times_without}

-- c stands in xs, is taken out of it and put at the end of ys
module _ (xs ys xs' ys' : List ℕ) (c : ℕ) (stands : 0 < times c xs) (less : xs' ≡ without c xs) (more : ys' ≡ ys ++ c ∷ []) where
  fewer : (k : ℕ) → times k xs' + once (eqb c k) ≡ times k xs
  fewer k = omega (arith, ap (times k) less, times_without k c xs stands)

  further : (k : ℕ) → times k ys' ≡ times k ys + once (eqb c k)
  further k = omega (arith, ap (times k) more, times_append k ys (c ∷ []))

  pub seizure_granted : ActsAsSeizure true c xs ys xs' ys'
  seizure_granted apart = (
    grind (arith, common_steps, stands),
    λ k. omega (arith, apart k, fewer k, further k),
    λ k. grind (arith, common_steps, apart k, fewer k, further k, once_small (number k)),
  )

  pub release_granted : ActsAsRelease true c xs ys xs' ys'
  release_granted apart = (
    grind (arith, common_steps, stands, apart c, once_small (number c)),
    λ k. omega (arith, apart k, fewer k, further k),
    λ k. grind (arith, common_steps, fewer k, further k),
  )
