-- The kit joins the words.
use Rattle.std.proofs.Common.{ap, ◌∙◌}
use Rattle.std.proofs.lemmas.Result.{IfOk-weaker}
use Rattle.hexadecimal.specs.Text.{octets_in}
use Rattle.script_commands.proofs.Joined.{joined}
use Rattle.script_commands.proofs.event_words.octets_of.Goals as goal

pub returns : goal.returns
returns c =
    let text = c.as_bytes.ensures.value ∙ c.in_ok-text.ensures.ok ∙ joined (λ x. x.now) c.args.words.now in
    record { octets_of_all_words = IfOk-weaker c.octets_in.result _ _ (λ o h. h ∙ ap octets_in text) c.octets_in.ensures.two_digits_an_octet }
