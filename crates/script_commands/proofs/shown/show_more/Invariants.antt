use Rattle.std.specs.Prelude.{flat_map, take}
use Rattle.std.specs.Fmt.{HasWritten, IsPlainFormatter}
use Rattle.script_commands.specs.Shown.{next_text}
use Rattle.script_commands.proofs.shown.show_more.Given as goal

abbrev pub invariant-loop-channel : goal.invariant-loop-channel
invariant-loop-channel g l =
    IsPlainFormatter l.initial.f → HasWritten g.W.Write.write_str_gives l.initial.f (flat_map next_text (take l.channel-index l.channels)) l.f
