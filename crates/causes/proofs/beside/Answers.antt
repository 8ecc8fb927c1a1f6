-- The row that is found has the answer, which keeps the limits of the table.
use Rattle.std.proofs.Common.{eqb, rules, tests, ap, ◌≡◌, ◌∙◌}
use Rattle.std.specs.Option.{option_map, option_map_or}
use Rattle.std.proofs.lemmas.Iterator.{YieldsList-from_slice}
use Rattle.std.proofs.lemmas.Iterator.Search.{find_from_yields_List}
use Rattle.causes.proofs.Rows.{searched, between}
use Rattle.causes.proofs.beside.Goals as goal

pub returns : goal.returns
returns c =
    let found = find_from_yields_List (λ row. eqb row.0 c.args.key) _ _ c.find.result c.find.ensures.ran (YieldsList-from_slice c.args.rows.now cc) (λ x b q k. search (rules, tests)) in
    let said : c.map_or.result ≡ option_map_or (λ row. row.1) (option_map (λ row. row.now) c.find.result) c.args.other = search rules in
    let e = said ∙ ap (λ o. option_map_or (λ row. row.1) o c.args.other) found ∙ searched c.args.rows.now c.args.key c.args.other in
    record { value = e; between = between _ c.args.key _ _ e }
