-- A play begins under the law, and each run of events keeps it there.
use Rattle.std.proofs.Common.{◌≡◌, List, [], ◌++◌, length}
use Rattle.calls.specs.declared.answers.Answer.{Answer}
use Rattle.calls.specs.Rules.{Event, State}
use Rattle.calls.specs.Run.{Opening, Run}
use Rattle.calls.specs.Laws.{RunsOn}
use Rattle.calls.proofs.Runs.{run_laws}
use Rattle.ledger.specs.declared.ledger.Ledger.{Ledger}
use Rattle.ledger.specs.Histories.{Holds, HoldsOn}
use Rattle.ledger.specs.Counts.{Holders, Owing, counts_calls, Grows}
use Rattle.ledger.proofs.Ending.{held_at_end, books_at_end}
use Rattle.scripts.specs.Ending.{calls_of, GoesOn, Ends}
use Rattle.scripts.proofs.Standing.{calls_count}
use Rattle.scripts.specs.Kept.{AllIdle, Kept}

pub kept_at_the_opening : (st : State) (l : Ledger) → Opening st → AllIdle st.pool → Run st [] st → Holds l [] → Kept st l
kept_at_the_opening st l o a r h = record { start = st; opening = o; all_idle = a; past = []; run = r; laws = run_laws st o [] st r; noted = h }

pub kept_on : {st st' : State} {l l' : Ledger} {events : List Event} {answers : List Answer} → RunsOn st events answers st' → HoldsOn l events answers l' → Kept st l → Kept st' l'
kept_on {st' = st'} on noted k =
    let longer = on k.start k.past k.run in
    let past = longer.more ++ k.past in
    record { start = k.start; opening = k.opening; all_idle = k.all_idle; past = past; run = longer.run; laws = run_laws k.start k.opening past st' longer.run; noted = noted k.past longer.more k.noted longer.told }

pub goes_on : {st st' : State} (l l' : Ledger) {events : List Event} {answers : List Answer} → RunsOn st events answers st' → HoldsOn l events answers l' → GoesOn st l st' l'
goes_on l l' on noted start past run holds =
    let longer = on start past run in
    record { more = longer.more; run = longer.run; noted = noted past longer.more holds longer.told }

-- the calls of the table are noted where nothing waits
pub ends : (st end : State) (before mid after : Ledger) → GoesOn st before end mid → end.exchange ≡ [] → end.sip ≡ [] → length end.table ≡ 64 → Grows mid after (λ k. counts_calls k (calls_of end.table)) → Ends st before after
ends st end before mid after on no_exchange no_sip whole grows start past o run holds =
    let grown = on start past run holds in
    let history = grown.more ++ past in
    let noted = held_at_end history end (calls_of end.table) (λ c. calls_count (Holders c) end.table whole) (λ t. calls_count (Owing t) end.table whole) mid after grown.noted grows in
    record {
      more = grown.more;
      end = end;
      run = grown.run;
      exchange_is_empty = no_exchange;
      sip_is_empty = no_sip;
      noted = noted;
      books_balance = books_at_end start history end after o grown.run no_exchange no_sip noted;
    }
