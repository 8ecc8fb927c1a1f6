-- The kit's words are those of the definition.
use Rattle.std.proofs.Common.{subst, ◌≡◌, map, IfOk}
use Rattle.std.proofs.lemmas.Iterator.Consumers.{map_from_collect}
use Rattle.script_words.specs.Words.{words_of}
use Rattle.script_words.proofs.Cuts.{yields_words}
use Rattle.script_words.proofs.words.words_of.Goals as goal

pub returns : goal.returns
returns c = record { all_between_blanks = subst (λ text. IfOk c.collect.result (λ w. map (λ x. x.now) w.items ≡ words_of text)) c.split_ascii_whitespace.ensures.text (map_from_collect _ c.collect.ensures.ran (yields_words c.split_ascii_whitespace.result)) }
