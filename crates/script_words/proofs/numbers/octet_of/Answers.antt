-- The kit's number is that of the definition.
use Rattle.std.proofs.Common.{◌∙◌}
use Rattle.script_words.proofs.Numerals.{number_read}
use Rattle.script_words.proofs.numbers.octet_of.Goals as goal

pub returns : goal.returns
returns c = record { number_of_the_word = c.ok.ensures.value ∙ number_read 8 c.args.word.now _ c.parse.ensures.value.0 }
