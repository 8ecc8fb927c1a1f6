use Rattle.std.proofs.Common.{◌≡◌, ◌++◌, None, vec_items}
use Rattle.std.specs.Option.{option_map}
use Rattle.std.specs.Iterator.Adapters.{filter_source, map_source}
use Rattle.std.specs.Slice.Iter.{iter_rest}
use Rattle.hexadecimal.specs.Text.{octets_from, octets_in}
use Rattle.hexadecimal.proofs.octets_in.Given as goal

-- the octets so far, and what is left of the text comes to, are the whole
abbrev pub invariant-loop-high : goal.invariant-loop-high
invariant-loop-high l = option_map (λ more. vec_items l.octets ++ more) (octets_from None (iter_rest (filter_source (map_source l.digits)))) ≡ octets_in l.text
