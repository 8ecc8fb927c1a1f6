-- The first entry of a list that covers a number, whatever the entries are.
use Rattle.std.proofs.Common.{◌≡◌, Bool, true, false, cond, List, [], ◌∷◌, Some, Option, refl, ap, ◌∙◌}
use Rattle.std.specs.List.{find}
use Rattle.std.specs.Option.{option_map}
use Rattle.cause_expectations.specs.Expected.{first_covering}

searched : {E A : Type 0} (covers : E → Bool) (answer : E → A) (entries : List E) → option_map answer (find covers entries) ≡ first_covering covers answer entries
searched covers answer [] = refl
searched covers answer (e ∷ rest) =
    let later = searched covers answer rest in
    elim (covers e) as (λ v. option_map answer (cond v (Some e) (find covers rest)) ≡ cond v (Some (answer e)) (first_covering covers answer rest)) [ true ↦ refl | false ↦ later ]

-- a result that is the answer of the entry that a search found is what the list says
pub found_first : {E A : Type 0} (covers : E → Bool) (answer : E → A) (entries : List E) {o : Option E} {r : Option A} → o ≡ find covers entries → r ≡ option_map answer o → r ≡ first_covering covers answer entries
found_first covers answer entries found said = said ∙ ap (option_map answer) found ∙ searched covers answer entries
