use Rattle.std.proofs.Common.{length}
use Rattle.messages.proofs.RoundTrip.{round_trip}
use Rattle.writer.specs.Values.{values}
use Rattle.round_trip.proofs.Back.{written_whole}
use Rattle.round_trip.proofs.checked.write_checked.Goals as goal

pub see_same-requires-clause-complete : goal.see_same-requires-clause-complete
see_same-requires-clause-complete c = written_whole (length c.args.buffer.now) c.in-Ok.size (values c.args.message) c.in-Ok.ensures.size_or_first_ground

pub returns-in-Ok-clause-written_reads_back_as_the_same : goal.returns-in-Ok-clause-written_reads_back_as_the_same
returns-in-Ok-clause-written_reads_back_as_the_same c = round_trip

pub returns-in_default-clause-written_reads_back_as_the_same :
    goal.returns-in_default-clause-written_reads_back_as_the_same
returns-in_default-clause-written_reads_back_as_the_same c = round_trip
