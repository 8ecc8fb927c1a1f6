use Rattle.std.proofs.Common.{◌≡◌, true, false, take, rules}
use Rattle.std.proofs.lemmas.Iterator.{cases_from_all, YieldsList-from_slice}
use Rattle.std.proofs.lemmas.Iterator.Consumers.{YieldsList-at, YieldsList-from_enumerate}
use borrow.Author.Tests.{tests}
use Rattle.turn_pool.proofs.Listings.{new_to, each_is_new}
use Rattle.turn_pool.proofs.listing.are_different.Goals as goal

pub returns : goal.returns
returns c =
    let list = c.args.list.now in
    record {
      exactly_different_numbers = each_is_new _ list (cases_from_all _ _ _ (λ p. new_to (take p.0 list) p.1 ≡ true) (λ p. new_to (take p.0 list) p.1 ≡ false) c.all.ensures.ran
          (YieldsList-from_enumerate (YieldsList-at c.enumerate.ensures.source (YieldsList-from_slice list cc)) c.enumerate.ensures.count)
          (λ x q k. search (rules, tests)) (λ x q k. search (rules, tests)));
    }
