-- What has been written is the octets passed so far.
use Rattle.std.specs.Prelude.{take}
use Rattle.std.specs.Fmt.{HasWritten, IsPlainFormatter}
use Rattle.message_text.specs.Lines.{octets_text}
use Rattle.message_text.proofs.shown.OctetsTextDisplay.fmt.Given as goal

abbrev pub invariant-loop-octet : goal.invariant-loop-octet
invariant-loop-octet g l =
    IsPlainFormatter l.initial.f → HasWritten g.W.Write.write_str_gives l.initial.f (octets_text (take l.octet-index l.octet-items)) l.f
