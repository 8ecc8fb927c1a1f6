-- A message that was read, as it is given to be written.
use Rattle.std.specs.Prelude.{ℕ, List}
use Rattle.std.specs.Borrow.{Bor}
use Rattle.std.specs.Option.{option_map}
use Rattle.messages.specs.Records.{Message, Part}

-- the digits lose their place; all else stays
abbrev pub without_place : Message Part → Message (Bor (List ℕ))
without_place m =
    record {
      reference = m.reference;
      kind = m.kind;
      elements = record {
        complete = m.elements.complete;
        cause = m.elements.cause;
        channel = m.elements.channel;
        progress = m.elements.progress;
        digits = option_map (λ part. part.octets) m.elements.digits;
      };
    }
