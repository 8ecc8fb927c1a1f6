use Rattle.std.proofs.Common.{◌≡◌}
use Rattle.messages.specs.Elements.{bare}
use Rattle.messages.specs.Reading.{elements_from}
use Rattle.reader.specs.Seen.{seen_elements}
use Rattle.reader.specs.Items.{elements_left}
use Rattle.reader.proofs.message.read_elements.Given as goal

-- what is still to come, with what was seen, comes to the whole's answer
abbrev pub invariant-loop-element : goal.invariant-loop-element
invariant-loop-element l = elements_left l.element-iterator (seen_elements l.seen) ≡ elements_from 0 5 l.part bare
