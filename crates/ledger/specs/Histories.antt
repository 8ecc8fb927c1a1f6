-- What the laws count of a history, and the ledger that holds it.
use Rattle.std.specs.Prelude.{◌≡◌, ℕ, List, ◌++◌}
use Rattle.calls.specs.declared.answers.Answer.{Answer}
use Rattle.calls.specs.Sides.{finals_in}
use Rattle.calls.specs.Rules.{Event}
use Rattle.calls.specs.Run.{Happening, HistoryOf}
use Rattle.calls.specs.Laws.{brought_by, on_report, total, seizures_of, releases_of, invites_taken, exchange_gone, sip_gone}
use Rattle.ledger.specs.declared.ledger.Ledger.{Ledger}
use Rattle.ledger.specs.Numbers.{capped}
use Rattle.ledger.specs.Counts.{Counted, Seizures, Releases, Invites, Finals, Connects, Setups, number, counts, setups, all_connects}

-- SETUPs that were not refused, whatever their reference
abbrev pub all_setups : List Happening → ℕ
all_setups = total (λ h. on_report (λ r. setups (brought_by h.event)) h.answer)

-- by the laws: of a channel, of a transaction, of what was taken from the queues; all else event by event
abbrev pub counted_in : Counted → List Happening → ℕ
counted_in (Seizures c) past = seizures_of c past
counted_in (Releases c) past = releases_of c past
counted_in (Invites t) past = invites_taken t past
counted_in (Finals t) past = finals_in t (sip_gone past)
counted_in Connects past = all_connects (exchange_gone past)
counted_in Setups past = all_setups past
counted_in k past = total (λ h. counts k h.event h.answer) past

-- the ledger of a history, from one in which nothing was noted
abbrev pub Holds : Ledger → List Happening → Type 0
Holds l past = (k : Counted) → number l k ≡ capped (counted_in k past)

-- a ledger of any history becomes that of the longer one
abbrev pub HoldsOn : Ledger → List Event → List Answer → Ledger → Type 0
HoldsOn before events answers after = (past more : List Happening) → Holds before past → HistoryOf more events answers → Holds after (more ++ past)
