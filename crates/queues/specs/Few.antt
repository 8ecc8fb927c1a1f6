-- A few messages as a list.
use Rattle.std.specs.Prelude.{List, [], ◌∷◌}
use Rattle.queues.specs.declared.few.Few.{Few}
use Rattle.queues.specs.declared.few.Few.TheVariants.{Zero, One, Two}

abbrev pub few_items : {M : Type 0} → Few M → List M
few_items Zero = []
few_items (One a) = a ∷ []
few_items (Two a b) = a ∷ b ∷ []
