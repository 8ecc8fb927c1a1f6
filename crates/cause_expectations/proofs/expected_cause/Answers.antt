-- The entry that is found is the first that covers the number.
use Rattle.std.proofs.Common.{rules, tests}
use Rattle.std.proofs.lemmas.Iterator.{YieldsList-from_slice}
use Rattle.std.proofs.lemmas.Iterator.Search.{find_from_yields_List}
use Rattle.cause_expectations.specs.declared.entry.StatusEntry.{StatusEntry}
use Rattle.cause_expectations.specs.Covering.{status_covers}
use Rattle.cause_expectations.proofs.First.{found_first}
use Rattle.cause_expectations.proofs.expected_cause.Goals as goal

pub returns : goal.returns
returns c =
    let covers = λ (e : StatusEntry). status_covers e c.args.status in
    let found = find_from_yields_List covers _ _ c.find.result c.find.ensures.ran (YieldsList-from_slice c.args.entries.now cc) (λ x b q k. search (rules, tests)) in
    record { first_that_fits = found_first covers (λ e. (e.cause.value, e.cause.location)) c.args.entries.now found (search rules) }
