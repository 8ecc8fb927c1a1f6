-- What a ledger counts of an event and its answer, in the words of the laws of runs.
use Rattle.std.specs.Prelude.{◌≡◌, ℕ, ◌+◌, Bool, false, not, ◌&&◌, ◌||◌, List, [], ◌∷◌, Ok, Err, Some, None, Option, is_some, ◌==◌}
use Rattle.std.specs.Option.{unwrap_or}
use Rattle.std.specs.Ordering.{nat_cmp}
use Rattle.std.specs.BTreeMap.{BTreeMap, get}
use Rattle.causes.specs.Names
use Rattle.messages.specs.Types.{code_of}
use Rattle.refusals.specs.Grounds.{number_of}
use Rattle.messages.specs.declared.record.Message.{Message}
use Rattle.calls.specs.declared.answers.Answer.{Answer}
use Rattle.calls.specs.declared.answers.Refused.{Refused}
use Rattle.calls.specs.declared.outgoing.SipMessage.{SipMessage}
use Rattle.calls.specs.declared.record.Call.{Call}
use Rattle.calls.specs.declared.record.Digits.{Digits}
use Rattle.calls.specs.declared.sides.SipSide.{SipSide}
use Rattle.calls.specs.Sides.{one_if, named, held_channel, holds, owes, is_final, finals_in}
use Rattle.calls.specs.Rules.{Event}
use Rattle.calls.specs.Laws.{Brought, ASetup, AnInvite, AnOk, ABye, brought_by, invite_count, on_report, exchange_taken, sip_taken}
use Rattle.ledger.specs.declared.account.Account.{Account}
use Rattle.ledger.specs.declared.ledger.Ledger.{Ledger}
use Rattle.ledger.specs.Numbers.{grown}
use Rattle.ledger.specs.Accounts.{is_new, begun_at, ended_at, standing_at}

-- the kinds of counts: of a channel, of a transaction, of a ground's number, and of the whole play
pub data Counted : Type 0 where
  Seizures : ℕ → Counted
  Releases : ℕ → Counted
  Holders : ℕ → Counted
  Invites : ℕ → Counted
  Finals : ℕ → Counted
  Owing : ℕ → Counted
  Oks : Counted
  Byes : Counted
  Connects : Counted
  Setups : Counted
  Events : Counted
  Refusals : Counted
  RefusalsOn : ℕ → Counted

-- what a ledger holds
abbrev pub number : Ledger → Counted → ℕ
number l (Seizures c) = begun_at l.channels.entries c
number l (Releases c) = ended_at l.channels.entries c
number l (Holders c) = standing_at l.channels.entries c
number l (Invites t) = begun_at l.transactions.entries t
number l (Finals t) = ended_at l.transactions.entries t
number l (Owing t) = standing_at l.transactions.entries t
number l Oks = l.oks
number l Byes = l.byes
number l Connects = l.connects
number l Setups = l.setups
number l Events = l.events
number l Refusals = l.refused
number l (RefusalsOn g) = unwrap_or (get nat_cmp l.grounds g) 0

-- ---------------------------------------------------------------- what came and what went out, whoever it was about
abbrev pub setups : Brought → ℕ
setups (ASetup r) = 1
setups _ = 0

abbrev pub oks : Brought → ℕ
oks (AnOk d) = 1
oks _ = 0

abbrev pub byes : Brought → ℕ
byes (ABye d) = 1
byes _ = 0

abbrev pub connect : Message Digits → ℕ
connect m = one_if (code_of m.kind == 0x07)

abbrev pub all_connects : List (Message Digits) → ℕ
all_connects [] = 0
all_connects (m ∷ ms) = connect m + all_connects ms

abbrev pub ok_sent : SipMessage → ℕ
ok_sent (SipMessage.Response t s) = one_if (s == Names.ok)
ok_sent _ = 0

abbrev pub oks_in : List SipMessage → ℕ
oks_in [] = 0
oks_in (m ∷ ms) = ok_sent m + oks_in ms

abbrev pub bye_sent : SipMessage → ℕ
bye_sent (SipMessage.Bye d) = 1
bye_sent _ = 0

abbrev pub byes_in : List SipMessage → ℕ
byes_in [] = 0
byes_in (m ∷ ms) = bye_sent m + byes_in ms

-- a step is an event, where a message is taken is none
abbrev pub step_count : Answer → ℕ
step_count (Answer.Step r) = 1
step_count _ = 0

-- something of what was refused, nothing of all else
abbrev pub on_refusal : (Refused → ℕ) → Answer → ℕ
on_refusal f (Answer.Step (Err x)) = f x
on_refusal f _ = 0

-- ---------------------------------------------------------------- the counts
-- of an event and its answer
abbrev pub counts : Counted → Event → Answer → ℕ
counts (Seizures c) e a = on_report (λ r. named c r.seized) a
counts (Releases c) e a = on_report (λ r. named c r.released) a
counts (Invites t) e a = on_report (λ r. invite_count t (brought_by e)) a
counts (Finals t) e a = finals_in t (sip_taken a)
counts Oks e a = on_report (λ r. oks (brought_by e)) a + oks_in (sip_taken a)
counts Byes e a = on_report (λ r. byes (brought_by e)) a + byes_in (sip_taken a)
counts Connects e a = all_connects (exchange_taken a)
counts Setups e a = on_report (λ r. setups (brought_by e)) a
counts Events e a = step_count a
counts Refusals e a = on_refusal (λ x. 1) a
counts (RefusalsOn g) e a = on_refusal (λ x. one_if (number_of x.ground == g)) a
counts _ e a = 0

-- of a call that stands at the end
abbrev pub counts_call : Counted → Call → ℕ
counts_call (Holders c) k = holds c k
counts_call (Owing t) k = owes t k
counts_call _ k = 0

-- of the calls that stand at the end
abbrev pub counts_calls : Counted → List Call → ℕ
counts_calls k [] = 0
counts_calls k (call ∷ calls) = counts_call k call + counts_calls k calls

-- each number is more by what is counted of it
abbrev pub Grows : Ledger → Ledger → (Counted → ℕ) → Type 0
Grows before after f = (k : Counted) → number after k ≡ grown (number before k) (f k)

-- an event with its answer is noted
abbrev pub Noted : Ledger → Ledger → Event → Answer → Type 0
Noted before after e a = Grows before after (λ k. counts k e a)

-- of events with their answers, as far as both lists go
abbrev pub counted : Counted → List Event → List Answer → ℕ
counted k [] answers = 0
counted k (e ∷ events) [] = 0
counted k (e ∷ events) (a ∷ answers) = counts k e a + counted k events answers

-- ---------------------------------------------------------------- what wants memory
abbrev pub is_new_named : BTreeMap ℕ Account → Option ℕ → Bool
is_new_named m None = false
is_new_named m (Some n) = is_new m n

abbrev pub is_new_invite : BTreeMap ℕ Account → Brought → Bool
is_new_invite m (AnInvite t d) = is_new m t
is_new_invite m _ = false

abbrev pub is_new_final : BTreeMap ℕ Account → SipMessage → Bool
is_new_final m (SipMessage.Response t s) = is_final s && is_new m t
is_new_final m _ = false

abbrev pub is_new_ground : BTreeMap ℕ ℕ → ℕ → Bool
is_new_ground m g = not (is_some (get nat_cmp m g))

-- a channel, a transaction or a ground is named of which nothing is noted yet
abbrev pub names_new : Ledger → Event → Answer → Bool
names_new l e (Answer.Step (Ok r)) = is_new_named l.channels.entries r.seized || is_new_named l.channels.entries r.released || is_new_invite l.transactions.entries (brought_by e)
names_new l e (Answer.Step (Err x)) = is_new_ground l.grounds (number_of x.ground)
names_new l e (Answer.Sip (Some m)) = is_new_final l.transactions.entries m
names_new l e _ = false

-- some event of a list does, with its answer, as far as both lists go
abbrev pub some_names_new : Ledger → List Event → List Answer → Bool
some_names_new l [] answers = false
some_names_new l (e ∷ events) [] = false
some_names_new l (e ∷ events) (a ∷ answers) = names_new l e a || some_names_new l events answers

-- the transaction that a side owes a final response
abbrev pub owed_transaction : SipSide → Option ℕ
owed_transaction (SipSide.InviteUnanswered t d) = Some t
owed_transaction _ = None

-- a call holds a channel, or owes a transaction, of which nothing is noted yet
abbrev pub call_names_new : Ledger → Call → Bool
call_names_new l k = is_new_named l.channels.entries (held_channel k) || is_new_named l.transactions.entries (owed_transaction k.sip)

-- some call of a list does
abbrev pub some_call_names_new : Ledger → List Call → Bool
some_call_names_new l [] = false
some_call_names_new l (k ∷ calls) = call_names_new l k || some_call_names_new l calls
