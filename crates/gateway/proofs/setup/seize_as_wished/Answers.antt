use Rattle.gateway.proofs.Cited.{bounded, granted_by}
use Rattle.gateway.proofs.setup.seize_as_wished.Goals as goal

pub returns-clause-the_wished_or_any_or_none : goal.returns-clause-the_wished_or_any_or_none
returns-clause-the_wished_or_any_or_none g c =
    let b = bounded g.P.Pool.state g.P.Pool.LARGEST g.met.P.Pool.known_within_largest g.met.P.Pool.largest_within_127 c.args.trunk.now.pool in granted_by _ b _ c.args.wish c.seize_wished.ensures.the_wished_or_any_or_none
