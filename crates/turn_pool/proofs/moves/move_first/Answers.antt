-- The channel stands in the first list: the granted case of a seizure and of a release.
use Rattle.std.proofs.Common.{◌<◌, ◌∙◌, arith}
use Rattle.turn_pool.specs.Lists.{times}
use Rattle.turn_pool.proofs.Counts.{times_at, removed_without}
use Rattle.turn_pool.proofs.Transfers.{seizure_granted, release_granted}
use Rattle.turn_pool.proofs.moves.move_first.Goals as goal

pub returns : goal.returns
returns c =
    let xs = c.args.from.now.items in
    let found = c.requires.stands_there_first in
    let stands : 0 < times c.args.c xs = times_at xs _ c.args.c found.0 found.1 in
    let less = c.remove.ensures.items ∙ removed_without xs _ c.args.c found.0 found.1 found.2 in
    let more = c.push.ensures.items in
    record {
      the_others_stay_in_order = less;
      it_comes_last = more;
      none_is_lost = omega (arith, c.remove.ensures.len, c.push.ensures.len);
      seizes_from_idle_to_seized = seizure_granted xs _ _ _ c.args.c stands less more;
      releases_from_seized_to_idle = release_granted xs _ _ _ c.args.c stands less more;
    }
