-- What names something new now named something new before.
use Rattle.std.proofs.Common.{◌≡◌, ℕ, zero, suc, ◌<◌, Bool, true, false, ◌&&◌, ◌||◌, List, [], ◌∷◌, Ok, Err, Some, None, Option, Result, OnErr, length, get_or, sym, refl, ap, subst₂, arith}
use Rattle.std.specs.BTreeMap.{BTreeMap}
use Rattle.calls.specs.declared.answers.Answer.{Answer}
use Rattle.calls.specs.declared.record.Call.{Call}
use Rattle.calls.specs.declared.outgoing.SipMessage.{SipMessage}
use Rattle.calls.specs.Sides.{is_final, held_channel}
use Rattle.calls.specs.Rules.{Event}
use Rattle.calls.specs.Laws.{Brought, ASetup, AnInvite, AnOk, ABye, NoneOfThese, brought_by}
use Rattle.ledger.specs.declared.account.Account.{Account}
use Rattle.ledger.specs.declared.ledger.Ledger.{Ledger}
use Rattle.ledger.specs.Accounts.{is_new}
use Rattle.ledger.specs.Counts.{is_new_named, is_new_invite, is_new_final, names_new, some_names_new, owed_transaction, call_names_new, some_call_names_new}
use Rattle.ledger.specs.Known.{StaysKnown, KeepsKnown}

or_before : (a b x y : Bool) → (a ≡ true → x ≡ true) → (b ≡ true → y ≡ true) → (a || b) ≡ true → (x || y) ≡ true
or_before true b x y f g h = ap (λ (z : Bool). z || y) (f refl)
or_before false b true y f g h = refl
or_before false b false y f g h = g h

or_left : (a b : Bool) → a ≡ true → (a || b) ≡ true
or_left a b h = ap (λ (z : Bool). z || b) h

or_right : (a b : Bool) → b ≡ true → (a || b) ≡ true
or_right true b h = refl
or_right false b h = h

named_before : (m n : BTreeMap ℕ Account) (o : Option ℕ) → StaysKnown m n → is_new_named n o ≡ true → is_new_named m o ≡ true
named_before m n None k h = h
named_before m n (Some x) k h = k x h

invite_before : (m n : BTreeMap ℕ Account) (b : Brought) → StaysKnown m n → is_new_invite n b ≡ true → is_new_invite m b ≡ true
invite_before m n (ASetup r) k h = h
invite_before m n (AnInvite t d) k h = k t h
invite_before m n (AnOk d) k h = h
invite_before m n (ABye d) k h = h
invite_before m n NoneOfThese k h = h

under : (c a b : Bool) → (a ≡ true → b ≡ true) → (c && a) ≡ true → (c && b) ≡ true
under true a b f h = f h
under false a b f h = h

final_before : (m n : BTreeMap ℕ Account) (s : SipMessage) → StaysKnown m n → is_new_final n s ≡ true → is_new_final m s ≡ true
final_before m n (SipMessage.Response t s) k h = under (is_final s) (is_new n t) (is_new m t) (k t) h
final_before m n (SipMessage.Invite x ds) k h = h
final_before m n (SipMessage.Ack x d) k h = h
final_before m n (SipMessage.Cancel x) k h = h
final_before m n (SipMessage.Bye d) k h = h

pub names_before : (l l' : Ledger) (e : Event) (a : Answer) → KeepsKnown l l' → names_new l' e a ≡ true → names_new l e a ≡ true
names_before l l' e (Answer.Step (Ok r)) k h =
    or_before _ _ _ _ (or_before _ _ _ _ (named_before l.channels.entries l'.channels.entries r.seized k.0) (named_before l.channels.entries l'.channels.entries r.released k.0))
    (invite_before l.transactions.entries l'.transactions.entries (brought_by e) k.1) h
names_before l l' e (Answer.Step (Err x)) k h = k.2 _ h
names_before l l' e (Answer.Exchange m) k h = h
names_before l l' e (Answer.Sip (Some m)) k h = final_before l.transactions.entries l'.transactions.entries m k.1 h
names_before l l' e (Answer.Sip None) k h = h

call_names_before : (l l' : Ledger) (c : Call) → KeepsKnown l l' → call_names_new l' c ≡ true → call_names_new l c ≡ true
call_names_before l l' c k h = or_before _ _ _ _ (named_before l.channels.entries l'.channels.entries (held_channel c) k.0) (named_before l.transactions.entries l'.transactions.entries (owed_transaction c.sip) k.1) h

pub keeps_on : (l mid l' : Ledger) → KeepsKnown l mid → KeepsKnown mid l' → KeepsKnown l l'
keeps_on l mid l' k m = (λ n h. k.0 n (m.0 n h), λ n h. k.1 n (m.1 n h), λ g h. k.2 g (m.2 g h))

-- the first that is left names something new, or one behind it does
pub first_names : (l : Ledger) (es fs : List Event) (ans rest : List Answer) (e : Event) (a : Answer) → es ≡ e ∷ fs → ans ≡ a ∷ rest → names_new l e a ≡ true → some_names_new l es ans ≡ true
first_names l es fs ans rest e a p q h = subst₂ (λ (xs : List Event) (ys : List Answer). some_names_new l xs ys ≡ true) (sym p) (sym q) (or_left (names_new l e a) (some_names_new l fs rest) h)

pub later_names : (l : Ledger) (es fs : List Event) (ans rest : List Answer) (e : Event) (a : Answer) → es ≡ e ∷ fs → ans ≡ a ∷ rest → some_names_new l fs rest ≡ true → some_names_new l es ans ≡ true
later_names l es fs ans rest e a p q h = subst₂ (λ (xs : List Event) (ys : List Answer). some_names_new l xs ys ≡ true) (sym p) (sym q) (or_right (names_new l e a) (some_names_new l fs rest) h)

one_call_names : (l : Ledger) (cs : List Call) (i : ℕ) (d : Call) → i < length cs → call_names_new l (get_or cs i d) ≡ true → some_call_names_new l cs ≡ true
one_call_names l [] i d b h = absurd (omega (arith, b))
one_call_names l (c ∷ cs) zero d b h = or_left (call_names_new l c) (some_call_names_new l cs) h
one_call_names l (c ∷ cs) (suc i) d b h = or_right (call_names_new l c) (some_call_names_new l cs) (one_call_names l cs i d (omega (arith, b)) h)

pub call_names : (l l' : Ledger) (cs : List Call) (i : ℕ) (d : Call) → KeepsKnown l l' → i < length cs → call_names_new l' (get_or cs i d) ≡ true → some_call_names_new l cs ≡ true
call_names l l' cs i d k b h = one_call_names l cs i d b (call_names_before l l' (get_or cs i d) k h)

-- what holds anyway holds on an error
pub on_err_too : {X E P : Type 0} (r : Result X E) → P → OnErr r P
on_err_too (Ok x) p = tt
on_err_too (Err e) p = p
