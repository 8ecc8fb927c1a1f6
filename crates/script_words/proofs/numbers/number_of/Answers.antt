-- The kit's number is that of the definition.
use Rattle.std.proofs.Common.{ap, ◌∙◌, ok_or}
use Rattle.script_words.specs.declared.bad_line.BadLine.TheVariants.{NoNumber}
use Rattle.script_words.proofs.Numerals.{number_read}
use Rattle.script_words.proofs.numbers.number_of.Goals as goal

pub returns : goal.returns
returns c = record { number_of_the_word = c.ok_or.ensures.value ∙ ap (λ o. ok_or o NoNumber) (c.ok.ensures.value ∙ number_read 64 c.args.word.now _ c.parse.ensures.value.0) }
