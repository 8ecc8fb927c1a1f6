use Rattle.std.proofs.lemmas.Bool.Decides.{Decides-at}
use Rattle.round_trip.proofs.Same.{same_Decides}
use Rattle.round_trip.proofs.checked.are_equal.Goals as goal

pub returns : goal.returns
returns c =
    record {
      equal_exactly_if_all_values_agree = Decides-at c.eq.result _ c.eq.ensures (same_Decides c.args.a c.args.b);
    }
