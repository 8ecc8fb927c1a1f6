use Rattle.std.proofs.Common.{◌≡◌, ℕ, ◌<◌, ◌≢◌, List, Option, Some, None, length, rules, arith}
use Rattle.std.specs.List.{AllWithin, HoldsAt}
use Rattle.std.specs.Option.{MatchOption}
use Rattle.std.proofs.lemmas.Iterator.{IsFirst-from_position, YieldsList-from_slice}
use borrow.Author.Tests.{tests}
use Rattle.turn_pool.specs.Lists.{FirstAt}
use Rattle.turn_pool.proofs.Counts.{times_none}
use Rattle.turn_pool.proofs.moves.place_of.Goals as goal

first_at : (r : Option ℕ) (c : ℕ) (xs : List ℕ) → MatchOption r (AllWithin (λ y. y ≢ c) xs 0 (length xs)) (λ i. (i < length xs) × HoldsAt (λ y. y ≡ c) xs i × AllWithin (λ y. y ≢ c) xs 0 i) → FirstAt r c xs
first_at None c xs h = times_none xs c (λ j l. h j 0 (omega arith) l)
first_at (Some i) c xs h = (h.0, h.1 0, λ j l. h.2 j 0 (omega arith) l)

pub returns : goal.returns
returns c =
    record {
      first_place = first_at _ _ _ (IsFirst-from_position _ _ _ (λ y. y ≡ c.args.c) (λ y. y ≢ c.args.c) c.position.ensures.ran (YieldsList-from_slice c.args.channels.now cc)
          (λ x q k. search (rules, tests)) (λ x q k. search (rules, tests)));
    }
