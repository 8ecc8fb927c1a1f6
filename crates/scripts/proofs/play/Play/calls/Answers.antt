use Rattle.std.proofs.Common.{rules, tests, slice_index_or, None, refl}
use Rattle.std.proofs.lemmas.Iterator.{items_from_collect, YieldsList-from_range}
use Rattle.std.proofs.lemmas.Iterator.Consumers.{YieldsList-from_filter_map, YieldsList-at}
use Rattle.scripts.proofs.play.Play.calls.Goals as goal

pub returns : goal.returns
returns g c =
    let places = c.args.self.now.gateway.table.places in
    record { those_of_the_table = items_from_collect _ c.collect.ensures.ran (YieldsList-from_filter_map _ (λ place. slice_index_or places place None) (YieldsList-at c.filter_map.ensures.source (YieldsList-from_range 0 64 64 refl refl)) c.filter_map.ensures.closure (λ x r q k. search (rules, tests))) }
