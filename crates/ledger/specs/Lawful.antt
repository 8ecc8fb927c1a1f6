-- Why the books of a play that is over balance: the laws say it.
use Rattle.std.specs.Prelude.{◌≡◌, ℕ, ◌<◌, true, List, []}
use Rattle.pools.specs.declared.channel.ChannelState.TheVariants.{Idle}
use Rattle.pools.specs.States.{States}
use Rattle.calls.specs.Sides.{finals_in}
use Rattle.calls.specs.Rules.{State}
use Rattle.calls.specs.Run.{Happening, Opening, Run}
use Rattle.calls.specs.Laws.{Laws, seizures_of, releases_of, invites_taken, finals_sent, exchange_sent, exchange_gone, sip_gone, holders, owing}
use Rattle.ledger.specs.declared.ledger.Ledger.{Ledger}
use Rattle.ledger.specs.Numbers.{capped}
use Rattle.ledger.specs.Counts.{Counted, Seizures, Releases, Holders, Invites, Finals, Owing, Connects, Setups, number, all_connects}
use Rattle.ledger.specs.Histories.{counted_in, all_setups}
use Rattle.ledger.specs.Books.{channel_balances, transaction_balances, connects_balance}

-- the ledger of a history and of the calls of the state that it led to, in which nothing waits, with no number at its cap
pub record Closed (l : Ledger) (past : List Happening) (st : State) : Type 0 where
  pub seizures : (c : ℕ) → number l (Seizures c) ≡ seizures_of c past
  pub releases : (c : ℕ) → number l (Releases c) ≡ releases_of c past
  pub held : (c : ℕ) → number l (Holders c) ≡ holders c st
  pub invites : (t : ℕ) → number l (Invites t) ≡ invites_taken t past
  pub finals : (t : ℕ) → number l (Finals t) ≡ finals_in t (sip_gone past)
  pub owed : (t : ℕ) → number l (Owing t) ≡ owing t st
  pub connects : number l Connects ≡ all_connects (exchange_gone past)
  pub setups : number l Setups ≡ all_setups past
  pub exchange_is_empty : st.exchange ≡ []
  pub sip_is_empty : st.sip ≡ []

-- every channel that began idle, every transaction and the CONNECTs; and what was taken from the queues is all that was sent
pub record Balance (pool : States) (past : List Happening) (l : Ledger) : Type 0 where
  pub channels : (c : ℕ) → pool c ≡ Idle → channel_balances l c ≡ true
  pub transactions : (t : ℕ) → transaction_balances l t ≡ true
  pub connects : connects_balance l ≡ true
  pub finals_are_all_sent : (t : ℕ) → number l (Finals t) ≡ finals_sent t past
  pub connects_are_all_sent : number l Connects ≡ all_connects (exchange_sent past)

abbrev pub LawfulBooks : Type 0
LawfulBooks = (pool : States) (past : List Happening) (st : State) (l : Ledger) → Laws pool past st → Closed l past st → Balance pool past l

-- of every run from an opening
abbrev pub RunBooks : Type 0
RunBooks = (start : State) (past : List Happening) (st : State) (l : Ledger) → Opening start → Run start past st → Closed l past st → Balance start.pool past l

-- no number is at its cap
abbrev pub BelowCap : Ledger → Type 0
BelowCap l = (k : Counted) → number l k < 18446744073709551615

-- what the laws count of a history, and of the calls of the state that it led to
abbrev pub at_the_end : Counted → List Happening → State → ℕ
at_the_end (Holders c) past st = holders c st
at_the_end (Owing t) past st = owing t st
at_the_end k past st = counted_in k past

-- the ledger of a history and of the calls of the state that it led to
abbrev pub HoldsAtEnd : Ledger → List Happening → State → Type 0
HoldsAtEnd l past st = (k : Counted) → number l k ≡ capped (at_the_end k past st)
