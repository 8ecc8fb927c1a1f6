-- The lines passed so far are read.
use Rattle.std.proofs.Common.{ℕ, ◌≡◌, List, map, Bor}
use Rattle.script_lines.specs.Meanings.{read, numbered}
use Rattle.script_lines.proofs.line.lines_of.Given as goal

abbrev pub invariant-loop-i : goal.invariant-loop-i
invariant-loop-i l = map read l.lines.items ≡ map numbered (map (λ (e : ℕ × Bor (List ℕ)). (e.0, e.1.now)) l.yielded)
