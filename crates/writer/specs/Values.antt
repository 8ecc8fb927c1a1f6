-- A message to be written, with its digits as a list in the place of the reference to them.
use Rattle.std.specs.Prelude.{ℕ, ◌+◌, List, length, Option}
use Rattle.std.specs.Borrow.{Bor}
use Rattle.std.specs.Option.{option_map}
use Rattle.messages.specs.declared.record.Message.{Message}
use Rattle.messages.specs.Writing.{complete_octets, bearer_octets, cause_octets, channel_octets, progress_octets, digits_octets}

abbrev pub values_of : Option (Bor (List ℕ)) → Option (List ℕ)
values_of o = option_map (λ r. r.now) o

abbrev pub values : Message (Bor (List ℕ)) → Message (List ℕ)
values m =
    record {
      reference = m.reference;
      kind = m.kind;
      elements = record {
        complete = m.elements.complete;
        cause = m.elements.cause;
        channel = m.elements.channel;
        progress = m.elements.progress;
        digits = values_of m.elements.digits;
      };
    }

-- how many octets a message takes, element by element
abbrev pub sizes : Message (List ℕ) → ℕ
sizes m =
    5 + length (complete_octets m.elements.complete) + length (bearer_octets m.kind) + length (cause_octets m.elements.cause)
    + length (channel_octets m.elements.channel) + length (progress_octets m.elements.progress) + length (digits_octets m.elements.digits)
