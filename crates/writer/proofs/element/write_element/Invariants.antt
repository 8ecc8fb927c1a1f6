use Rattle.std.proofs.Common.{◌≡◌, ◌+◌, ◌≤◌, length}
use lib.Seq.{paste}
use Rattle.writer.proofs.element.write_element.Given as goal

-- the first content stands, and behind it as many of the rest as turns were made
abbrev pub invariant-loop-octet : goal.invariant-loop-octet
invariant-loop-octet l =
    (l.element.put ≡ l.octet-index + 1) × (l.element.put ≤ 255)
    × (2 + l.element.put ≤ length l.initial.element.bytes.now)
    × (length l.element.bytes.now ≡ length l.initial.element.bytes.now)
    × (l.element.bytes.now ≡ paste l.initial.element.bytes.now 3 l.rest l.octet-index)
    × (l.element.bytes.ghost_name ≡ l.initial.element.bytes.ghost_name)
