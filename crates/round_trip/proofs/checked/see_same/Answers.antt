use Rattle.std.proofs.Common.{◌≡◌, ℕ, Ok, ap, ◌∙◌, arith}
use Rattle.messages.specs.Reading.{decoded}
use Rattle.messages.specs.Laws.{as_read}
use Rattle.messages.proofs.RoundTrip.{round_trip}
use Rattle.reader.specs.Seen.{seen_record}
use Rattle.writer.specs.Values.{values}
use Rattle.round_trip.proofs.Back.{same_back}
use Rattle.round_trip.proofs.checked.see_same.Goals as goal
use Rattle.round_trip.proofs.checked.see_same.Goals.{Start}

back : (c : Start) → decoded c.args.octets.now ≡ Ok (as_read (values c.args.message))
back c = ap decoded c.requires.octets_of_the_message ∙ round_trip (values c.args.message) c.requires.in_range c.requires.complete

pub unreachable-requires : goal.unreachable-requires
unreachable-requires c =
    let m = values c.args.message in
    let b = c.in-Ok.ensures.exactly_by_the_layout ∙ back (goal.at.unreachable-requires c).Start in
    let s : seen_record c.in-Ok.read ≡ as_read m = cc in
    let f = c.if-not-is_same.ensures.same_exactly_if_all_values_agree.1 (same_back c.in-Ok.read m s) in
    let z : ◌≡◌ {A = ℕ} 0 1 = cc in
    absurd (omega arith)

pub unreachable-requires-in-Err : goal.unreachable-requires-in-Err
unreachable-requires-in-Err c =
    let b = c.in-Err.ensures.exactly_by_the_layout ∙ back (goal.at.unreachable-requires-in-Err c).Start in
    let z : ◌≡◌ {A = ℕ} 0 1 = cc in
    absurd (omega arith)
