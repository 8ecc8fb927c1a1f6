-- The place was not free: the token came back, and its channel, which was idle, is released again.
use Rattle.call_table_tests.specs.Stays.{wish_of}
use Rattle.call_table_tests.proofs.Returns.{admitted_if_free, handed_back, released_again, given_back}
use Rattle.call_table_tests.proofs.occupy.Goals as goal

pub returns-in-Err : goal.returns-in-Err
returns-in-Err g c =
    let wish = c.in_ok-token.ensures in
    let entry = c.in-Err.ensures in
    let free = admitted_if_free c.args.table.now.places c.args.place _ _ _ c.call_on.ensures.collects_on_that_channel c.channel-channel.ensures.answers_its_channel in
    let back = handed_back _ _ _ _ _ _ c.args.place _ free entry.handed_back_exactly_if_not_admitted entry.entered_at_that_place_alone in
    record {
      by_the_wish_if_the_place_is_free = back.3 _ _ _ _;
      enters_it_there_alone = back.2;
      seizes_it_alone = released_again _ _ _ _ _ wish.what_is_granted_was_idle wish.grant_seizes_it_alone back.1 c.release.ensures.grant_frees_it_alone;
      moves_the_pool = given_back g.P.Pool.state g.P.Pool.Seizes g.P.Pool.SeizesAny g.P.Pool.Releases _ (wish_of c.args.wished c.args.exclusive) c.args.trunk.now.pool _ _ _ _ back.0 wish.moves_the_pool back.1 c.release.ensures.moves_the_pool;
    }
