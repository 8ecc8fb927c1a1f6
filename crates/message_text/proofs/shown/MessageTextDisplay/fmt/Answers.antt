-- The fields, and then what is told of writing them.
use Rattle.std.proofs.Common.{ap}
use Rattle.std.specs.Result.{is_ok}
use Rattle.std.proofs.Output.{displays_on_IsOk_append, displays_on_ok_of_eq}
use Rattle.message_text.proofs.Written.{displayed}
use Rattle.message_text.proofs.shown.MessageTextDisplay.fmt.Goals as goal

pub returns-clause-writes : goal.returns-clause-writes
returns-clause-writes g c =
    let fields = displays_on_ok_of_eq _ _ _ _ _ _ (displayed c.args.self.now.message) c.write.ensures.writes in
    displays_on_IsOk_append _ _ _ _ _ _ _ _ (λ ok. ap is_ok c.in_ok-write.was) fields c.show_written.ensures.octets_or_why_not
