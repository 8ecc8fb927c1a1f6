use Rattle.std.proofs.Common.{List, subst, ◌∙◌}
use Rattle.calls.specs.declared.record.Call.{Call}
use Rattle.ledger.specs.Counts.{counts_calls, Grows}
use Rattle.gateway.specs.Stands.{state_of}
use Rattle.scripts.proofs.Keeping.{ends}
use Rattle.scripts.proofs.play.Play.closed.Goals as goal

pub returns : goal.returns
returns g c =
    let play = c.in_ok-play.play in
    let all = c.as_slice.ensures.value ∙ c.in_ok-calls.ensures.those_of_the_table in
    let noted = subst (λ (calls : List Call). Grows play.ledger c.note_calls.new.self (λ k. counts_calls k calls)) all c.in_ok-note_calls.ensures.held_and_owed in
    record { of_the_whole_history_and_its_books_balance = ends (state_of g.P.Pool.state c.args.self.gateway c.args.self.queues) (state_of g.P.Pool.state play.gateway play.queues) c.args.self.ledger play.ledger c.note_calls.new.self c.in_ok-play.ensures.the_ledger_goes_on c.in_ok-play.ensures.nothing_waits.0 c.in_ok-play.ensures.nothing_waits.1 play.gateway.table.whole noted }
