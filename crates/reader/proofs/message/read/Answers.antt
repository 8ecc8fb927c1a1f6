use Rattle.std.proofs.Common.{ℕ, List, Some, None, Option, sym, ap, ◌∙◌}
use Rattle.messages.specs.declared.record.Part.{Part}
use Rattle.messages.specs.Elements.{bare}
use Rattle.messages.specs.Reading.{elements_from}
use Rattle.messages.proofs.Places.{Inside, read_inside}
use Rattle.reader.specs.Seen.{PartOf, seen_digits, seen_elements}
use Rattle.reader.proofs.message.read.Goals as goal

handed_out : (octets : List ℕ) (o : Option Part) → Inside octets (seen_digits o) → PartOf octets o
handed_out octets None i = tt
handed_out octets (Some p) i = i

pub returns-clause-digits_are_that_part : goal.returns-clause-digits_are_that_part
returns-clause-digits_are_that_part c =
    let rest = c.in_ok-header.ensures.the_rest in
    let all = c.in_ok-elements.ensures.read_from_the_left in
    let read = sym (all ∙ ap (λ xs. elements_from 0 5 xs bare) rest) in
    handed_out c.args.octets.now _ (read_inside c.args.octets.now (seen_elements c.in_ok-elements.elements) read)
