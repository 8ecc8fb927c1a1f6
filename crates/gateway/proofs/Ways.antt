-- How a step of the gateway's code comes to what the rules say.
use Rattle.std.proofs.Common.{◌≡◌, ℕ, true, false, List, ◌++◌, length, Some, None, Err, Option, Result, sym, refl, ap, ◌∙◌, subst, MatchOption}
use Rattle.std.specs.Result.{IsErrAnd}
use Rattle.std.proofs.lemmas.Result.{err_from_is_err_and}
use Rattle.std.proofs.lemmas.Bool.{cond-true, cond-false}
use Rattle.gateway.specs.Records.{Ground, Message, CallReference, Answer, Refused, Report, Call, Found, SipMessage, Digits}
use Rattle.pools.specs.States.{States}
use Rattle.calls.specs.Refusing.{placeless}
use Rattle.calls.specs.Standing.{is_sound}
use Rattle.calls.specs.Rules.{State, Choice, Fair, Event, Outcome, Reply, refuse, outcome, roomed, is_roomy, settled, Did, seek, by_reference}
use Rattle.calls.specs.Laws.{brought_by}
use Rattle.calls.proofs.Choices.{Bounded, fair_place}
use Rattle.calls.proofs.Dids.{plainly}
use Rattle.calls.proofs.Sounds.{sound_everywhere}
use Rattle.calls.proofs.Places.{Finds, Misses, seek_tells}
use Rattle.calls.proofs.Steps.{Lawful, lawful, live_by}
use Rattle.calls.specs.Sides.{is_over}
use Rattle.gateway.specs.Stands.{Possible}
use Rattle.gateway.proofs.Channels.{all_unknown, possible}

-- a refusal that is passed on is the answer
pub passed_on : (r : Result Report Refused) (x : Refused) → IsErrAnd r (λ e. e ≡ x) → Answer.Step r ≡ Answer.Step (Err x)
passed_on r x h = let w = err_from_is_err_and r h in ap Answer.Step w.1 ∙ ap (λ (y : Refused). Answer.Step (Err y)) w.2

module _ (st : State) where
  -- what was decided for an event is what the rules make of it whatever the pool, so also where no channel is idle
  pub possible_step : length st.table ≡ 64 → is_sound st.table ≡ true → (ev : Event) (o o' : Outcome) → o' ≡ o → ((ch : Choice) → outcome (record st { pool = all_unknown }) ch ev ≡ roomed (record st { pool = all_unknown }) o) → is_roomy st ≡ true → Possible st.table o'
  possible_step len s ev o o' p e r =
      let q : State = record st { pool = all_unknown } in
      let place = fair_place st.table in
      let ch : Choice = record { pick = None; place = place.0 } in
      let fair : Fair q ch = record { pick = λ c. refl; place = place.1 } in
      let l = subst (Lawful q (brought_by ev)) (e ch ∙ cond-true (is_roomy st) o (refuse Ground.QueueFull) r) (lawful q (sound_everywhere st.table s) ch fair ev) in
      subst (Possible st.table) (sym p) (possible q len (λ c. refl) (brought_by ev) o l)

  -- without room, whatever the rule
  pub full_refused : (rule : Choice → Outcome) → Bounded st.pool → is_roomy st ≡ false → {a : Answer} → a ≡ Answer.Step (Err (placeless Ground.QueueFull)) → Did st (λ ch. roomed st (rule ch)) a st
  full_refused rule b e q = plainly st (λ ch. roomed st (rule ch)) b (refuse Ground.QueueFull) (λ ch. cond-false (is_roomy st) (rule ch) (refuse Ground.QueueFull) e) q refl

  -- an answer that touches no call, as the code gives it
  pub replied : (ms : List (Message Digits)) (ss : List SipMessage) (p : States) (es : List (Message Digits)) (xs : List SipMessage) (m n : ℕ) → ((k : ℕ) → p k ≡ st.pool k) → es ≡ st.exchange ++ ms → xs ≡ st.sip ++ ss → m ≡ st.exchange_places → n ≡ st.sip_places → record { table = st.table; pool = p; exchange = es; sip = xs; exchange_places = m; sip_places = n; next = st.next; full = st.full } ≡ settled st (Reply ms ss)
  replied ms ss p es xs m n h e f q r =
      λ j. record { table = st.table; pool = λ k. h k j; exchange = e j; sip = f j; exchange_places = q j; sip_places = r j; next = st.next; full = st.full }

-- the call that the exchange means by a reference is not over on its side
pub found_live : (r : CallReference) (table : List (Option Call)) (f : Found) → Some f ≡ seek (by_reference r) table → is_over f.call.exchange ≡ false
found_live r table f e =
    let p = by_reference r in
    live_by r f.call (subst (λ (o : Option Found). MatchOption o (Misses p table) (Finds p table)) (sym e) (seek_tells p table)).matches
