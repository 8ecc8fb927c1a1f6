-- The numbers so far stand before those of the parts that are left.
use Rattle.std.proofs.Common.{◌≡◌, ◌++◌, map, drop, option_map}
use Rattle.script_words.specs.Channels.{octets_of}
use Rattle.script_words.proofs.channels.octets_of.Given as goal

abbrev pub invariant-loop-part : goal.invariant-loop-part
invariant-loop-part l = octets_of (map (λ x. x.now) l.parts) ≡ option_map (λ xs. l.octets.items ++ xs) (octets_of (map (λ x. x.now) (drop l.part-index l.parts)))
