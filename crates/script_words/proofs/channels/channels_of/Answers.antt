-- The kit cuts the list at its commas.
use Rattle.std.proofs.Common.{map, Ok, lit<, ap, ◌∙◌}
use Rattle.std.proofs.lemmas.Iterator.Consumers.{map_from_collect}
use Rattle.std.proofs.lemmas.Iterator.Splits.{YieldsList-from_str_split}
use Rattle.std.proofs.lemmas.Result.{IfOk-weaker}
use Rattle.script_words.specs.Channels.{octets_of}
use Rattle.script_words.proofs.channels.channels_of.Goals as goal

pub returns : goal.returns
returns c =
    let cut = YieldsList-from_str_split 44 c.args.list.now (lit< tt) c.split.ensures.text c.split.ensures.has_more c.split.ensures.pattern in
    let parts = map_from_collect {E = Unit {0}} (Ok c.in_ok-parts.parts) c.in_ok-parts.ensures.ran cut in
    let same = ap (map (λ x. x.now)) c.as_slice.ensures.value ∙ parts in
    record { numbers_between_commas = IfOk-weaker c.octets_of.result _ _ (λ o h. h ∙ ap octets_of same) c.octets_of.ensures.all_are_numbers }
