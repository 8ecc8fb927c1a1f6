-- The ledger of a history becomes, by the calls that stand at its end, one whose books balance.
use Rattle.std.proofs.Common.{◌≡◌, ℕ, ◌+◌, ◌<◌, List, [], ◌∷◌, refl, ap, ◌∙◌, arith}
use Rattle.std.proofs.lemmas.Grind.{common_steps}
use Rattle.calls.specs.declared.record.Call.{Call}
use Rattle.calls.specs.declared.answers.Answer.{Answer}
use Rattle.calls.specs.Rules.{Event, State}
use Rattle.calls.specs.Run.{Happening, Opening, Run}
use Rattle.calls.specs.Laws.{total, holders, owing}
use Rattle.ledger.specs.declared.ledger.Ledger.{Ledger}
use Rattle.ledger.specs.Numbers.{capped, grown}
use Rattle.ledger.specs.Counts.{Counted, Seizures, Releases, Holders, Invites, Finals, Owing, Oks, Byes, Connects, Setups, Events, Refusals, RefusalsOn, number, counts, counts_call, counts_calls, Grows}
use Rattle.ledger.specs.Histories.{counted_in, Holds}
use Rattle.ledger.specs.Lawful.{Balance, BelowCap, HoldsAtEnd, at_the_end}
use Rattle.ledger.proofs.Histories.{grown_capped}
use Rattle.ledger.proofs.Lawful.{run_books}

-- ---------------------------------------------------------------- calls count for holders and owing alone
no_calls : (k : Counted) → ((c : Call) → counts_call k c ≡ 0) → (cs : List Call) → counts_calls k cs ≡ 0
no_calls k h [] = refl
no_calls k h (c ∷ cs) = omega (arith, h c, no_calls k h cs)

nothing : (k : Counted) → ((e : Event) (a : Answer) → counts k e a ≡ 0) → (past : List Happening) → total (λ h. counts k h.event h.answer) past ≡ 0
nothing k h [] = refl
nothing k h (x ∷ past) = omega (arith, h x.event x.answer, nothing k h past)

module _ (past : List Happening) (st : State) (cs : List Call) (held : (c : ℕ) → counts_calls (Holders c) cs ≡ holders c st) (owed : (t : ℕ) → counts_calls (Owing t) cs ≡ owing t st) where
  more_at_the_end : (k : Counted) → counts_calls k cs + counted_in k past ≡ at_the_end k past st
  more_at_the_end (Holders c) = omega (arith, held c, nothing (Holders c) (λ e a. refl) past)
  more_at_the_end (Owing t) = omega (arith, owed t, nothing (Owing t) (λ e a. refl) past)
  more_at_the_end (Seizures c) = omega (arith, no_calls (Seizures c) (λ k. refl) cs)
  more_at_the_end (Releases c) = omega (arith, no_calls (Releases c) (λ k. refl) cs)
  more_at_the_end (Invites t) = omega (arith, no_calls (Invites t) (λ k. refl) cs)
  more_at_the_end (Finals t) = omega (arith, no_calls (Finals t) (λ k. refl) cs)
  more_at_the_end Oks = omega (arith, no_calls Oks (λ k. refl) cs)
  more_at_the_end Byes = omega (arith, no_calls Byes (λ k. refl) cs)
  more_at_the_end Connects = omega (arith, no_calls Connects (λ k. refl) cs)
  more_at_the_end Setups = omega (arith, no_calls Setups (λ k. refl) cs)
  more_at_the_end Events = omega (arith, no_calls Events (λ k. refl) cs)
  more_at_the_end Refusals = omega (arith, no_calls Refusals (λ k. refl) cs)
  more_at_the_end (RefusalsOn g) = omega (arith, no_calls (RefusalsOn g) (λ k. refl) cs)

  pub held_at_end : (before after : Ledger) → Holds before past → Grows before after (λ k. counts_calls k cs) → HoldsAtEnd after past st
  held_at_end before after noted grows k =
      grows k ∙ ap (λ (n : ℕ). grown n (counts_calls k cs)) (noted k) ∙ grown_capped (counted_in k past) (counts_calls k cs) ∙ ap capped (more_at_the_end k)

exact : (n m : ℕ) → n ≡ capped m → n < 18446744073709551615 → n ≡ m
exact n m e l = grind (arith, common_steps)

pub books_at_end : (start : State) (past : List Happening) (st : State) (l : Ledger) → Opening start → Run start past st → st.exchange ≡ [] → st.sip ≡ [] → HoldsAtEnd l past st → BelowCap l → Balance start.pool past l
books_at_end start past st l o r no_exchange no_sip noted below =
    let n : (k : Counted) → number l k ≡ at_the_end k past st = λ k. exact (number l k) (at_the_end k past st) (noted k) (below k) in
    run_books start past st l o r (record {
      seizures = λ c. n (Seizures c);
      releases = λ c. n (Releases c);
      held = λ c. n (Holders c);
      invites = λ t. n (Invites t);
      finals = λ t. n (Finals t);
      owed = λ t. n (Owing t);
      connects = n Connects;
      setups = n Setups;
      exchange_is_empty = no_exchange;
      sip_is_empty = no_sip;
    })
