use Rattle.std.proofs.Common.{rules, ◌≡◌, map, flat_map, ap}
use Rattle.std.proofs.Output.{has_written_append, has_written_of_eq}
use Rattle.std.proofs.lemmas.Map.Iter.{iter_end}
use Rattle.std.specs.Map.Iter.{deref_pair}
use Rattle.ledger.specs.Texts.{channel_line}
use Rattle.ledger.proofs.Lines.{one_line_more}
use Rattle.ledger.proofs.shown.ChannelsDisplay.fmt.Goals as goal

pub loop-channel-init : goal.loop-channel-init
loop-channel-init g c = search rules

pub loop-channel-preserved : goal.loop-channel-preserved
loop-channel-preserved g c = λ p.
    has_written_of_eq _ _ _ _ _ (one_line_more channel_line c.loop-channel.yielded (c.in-Some.channel, c.in-Some.account)) (has_written_append _ _ _ _ _ _ (c.loop-channel.invariant p) (search rules))

pub returns-clause-writes : goal.returns-clause-writes
returns-clause-writes g c =
    let all : map deref_pair c.loop-channel.yielded ≡ c.args.self.now.0.now.channels.entries.entries = search (rules, iter_end) in
    λ p e. has_written_of_eq _ _ _ _ _ (ap (flat_map channel_line) all) (c.loop-channel.invariant p)
