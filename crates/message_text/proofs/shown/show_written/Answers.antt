-- The octets of the message that was written, or the ground of its refusal, are what is told.
use Rattle.std.proofs.Common.{sym, ap, ◌++◌, ◌∙◌, arith}
use Rattle.std.specs.Prelude.{codes}
use Rattle.std.specs.Fmt.{decimal}
use Rattle.std.proofs.Output.{has_written_of_eq}
use Rattle.writer.specs.Values.{values}
use Rattle.message_text.specs.Lines.{octets_text, written_text}
use Rattle.message_text.proofs.Written.{given, octets_told, refusal_told, front}
use Rattle.message_text.proofs.shown.show_written.Goals as goal

pub returns-in-Ok : goal.returns-in-Ok
returns-in-Ok g c =
    let m = values c.from.result in
    let same = ap values c.from.ensures in
    let whole = front _ c.in-Ok.size _ _ m c.in-Ok.ensures.buffer_holds_the_message_or_all_as_it_was c.in-Ok.ensures.size_or_first_ground in
    let told = octets_told _ c.in-Ok.size m c.in-Ok.ensures.size_or_first_ground in
    let is = ap (λ octets. codes " octets=" ++ octets_text octets) whole ∙ sym told ∙ ap written_text (same ∙ sym (given c.args.message)) in
    record { octets_or_why_not = λ plain ok. has_written_of_eq _ _ _ _ _ is (c.write.ensures.writes plain ok) }

pub returns-in-Err : goal.returns-in-Err
returns-in-Err g c =
    let m = values c.from.result in
    let same = ap values c.from.ensures in
    let told = refusal_told _ c.in-Err.ground m c.in-Err.ensures.size_or_first_ground (omega arith) in
    let is = ap (λ n. codes " unwritable " ++ decimal n) c.number.ensures.number_of_the_ground ∙ sym told ∙ ap written_text (same ∙ sym (given c.args.message)) in
    record { octets_or_why_not = λ plain ok. has_written_of_eq _ _ _ _ _ is (c.write-in-Err.ensures.writes plain ok) }
