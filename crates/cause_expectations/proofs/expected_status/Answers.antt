-- The entry that is found is the first that covers the number.
use Rattle.std.proofs.Common.{rules, tests}
use Rattle.std.proofs.lemmas.Iterator.{YieldsList-from_slice}
use Rattle.std.proofs.lemmas.Iterator.Search.{find_from_yields_List}
use Rattle.cause_expectations.specs.declared.entry.CauseEntry.{CauseEntry}
use Rattle.cause_expectations.specs.Covering.{cause_covers}
use Rattle.cause_expectations.proofs.First.{found_first}
use Rattle.cause_expectations.proofs.expected_status.Goals as goal

pub returns : goal.returns
returns c =
    let covers = λ (e : CauseEntry). cause_covers e c.args.cause.value c.args.cause.location in
    let found = find_from_yields_List covers _ _ c.find.result c.find.ensures.ran (YieldsList-from_slice c.args.entries.now cc) (λ x b q k. search (rules, tests)) in
    record { first_that_fits = found_first covers (λ e. e.status) c.args.entries.now found (search rules) }
