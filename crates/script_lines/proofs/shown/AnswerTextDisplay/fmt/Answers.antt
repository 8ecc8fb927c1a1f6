-- A message that was taken is told with its digits lent.
use Rattle.std.proofs.Common.{rules, ◌≡◌, Some, ap, ◌∙◌}
use Rattle.std.proofs.Output.{displays_on_ok_of_eq}
use Rattle.calls.specs.declared.answers.Answer.TheVariants as answer
use Rattle.message_text.specs.Lines.{line_of}
use Rattle.script_lines.specs.Shown.{answer_text}
use Rattle.script_lines.proofs.shown.AnswerTextDisplay.fmt.Goals as goal

pub returns-in-Exchange-Some-clause-writes : goal.returns-in-Exchange-Some-clause-writes
returns-in-Exchange-Some-clause-writes g c =
    let is : answer.Exchange (Some c.in-Exchange-Some.message) ≡ c.args.self.now.0 = search rules in
    displays_on_ok_of_eq _ _ _ _ _ _ (ap line_of c.lent-message.ensures.all_else_the_same ∙ ap answer_text is) c.write-in-Exchange-Some.ensures.writes
