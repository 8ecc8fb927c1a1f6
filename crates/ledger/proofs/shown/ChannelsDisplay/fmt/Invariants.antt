use Rattle.std.specs.Fmt.{HasWritten, IsPlainFormatter}
use Rattle.ledger.specs.Texts.{channel_line}
use Rattle.ledger.proofs.Lines.{lines_of}
use Rattle.ledger.proofs.shown.ChannelsDisplay.fmt.Given as goal

abbrev pub invariant-loop-channel : goal.invariant-loop-channel
invariant-loop-channel g l =
    IsPlainFormatter l.initial.f → HasWritten g.W.Write.write_str_gives l.initial.f (lines_of channel_line l.yielded) l.f
