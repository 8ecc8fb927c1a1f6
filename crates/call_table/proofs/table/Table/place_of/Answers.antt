use Rattle.std.proofs.Common.{◌≡◌, true, false, rules}
use Rattle.std.proofs.lemmas.Iterator.{IsFirst-from_position, YieldsList-from_slice}
use borrow.Author.Tests.{tests}
use Rattle.call_table.specs.Keys.{keyed, hits}
use Rattle.call_table.proofs.Searches.{first_hit}
use Rattle.call_table.proofs.table.Table.place_of.Goals as goal

pub returns : goal.returns
returns c =
    let test = keyed c.args.key in
    let places = c.args.self.now.places in
    record {
      of_the_first_that_matches = first_hit test places _ (IsFirst-from_position _ _ _ (λ o. hits test o ≡ true) (λ o. hits test o ≡ false) c.position.ensures.ran (YieldsList-from_slice places cc)
          (λ x q k. search (rules, tests)) (λ x q k. search (rules, tests)));
    }
