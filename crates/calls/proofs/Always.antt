-- Steps by given events, whatever is picked: the answers that they all have, and where they all end.
use Rattle.std.proofs.Common.{◌≡◌, ℕ, zero, suc, ◌<◌, Bool, true, false, cond, List, [], ◌∷◌, ◌++◌, set, replicate, Some, None, Ok, Option, sym, refl, ap, ◌∙◌, subst, le_of_suc-le-suc, not-suc-le-zero, lit≤}
use Rattle.messages.specs.Laws.{setup417_octets}
use Rattle.messages.specs.Elements.{DigitsPart, bare}
use Rattle.pools.specs.declared.channel.ChannelState.TheVariants.{Seized}
use Rattle.pools.specs.States.{after_any}
use Rattle.calls.specs.Records.{MessageType, Message, Answer, Timer, SipMessage, Call, Digits, Found, Origin, ExchangeSide, SipSide}
use Rattle.calls.specs.Sides.{holds_dialogue}
use Rattle.calls.specs.Effects.{recorded, untold, ack_and_bye}
use Rattle.calls.specs.Rules.{Event, Exchange, TakeExchange, TakeSip, State, Choice, Fair, FreePlace, Outcome, later, seek, by_reference, by_live_number, on_message, accepted, outcome, settled, answer_of, Stepped, Stepping, no_step, next_step}
use Rattle.calls.specs.Examples as examples

-- ---------------------------------------------------------------- steps from their first on
pub record First (st : State) (ev : Event) (given : List Answer) (Rest : State → List Answer → Type 0) : Type 0 where
  pub choice : Choice
  pub fair : Fair st choice
  pub others : List Answer
  pub answer : given ≡ answer_of st (outcome st choice ev) ∷ others
  pub rest : Rest (settled st (outcome st choice ev)) others

abbrev pub Way : State → List Event → List Answer → State → Type 0
Way st [] given exit = (given ≡ []) × (exit ≡ st)
Way st (ev ∷ evs) given exit = First st ev given (λ next others. Way next evs others exit)

way_more : (st : State) (evs : List Event) (given : List Answer) (mid : State) → Way st evs given mid → (ev : Event) (a : Answer) (exit : State) → Stepped mid ev a exit → Way st (evs ++ ev ∷ []) (given ++ a ∷ []) exit
way_more st [] given mid w ev a exit s =
    let d = subst (λ (z : State). Stepped z ev a exit) w.1 s in
    record { choice = d.choice; fair = d.fair; others = []; answer = ap (λ (l : List Answer). l ++ (a ∷ [])) w.0 ∙ ap (λ (x : Answer). x ∷ []) d.answer; rest = (refl, d.after) }
way_more st (e ∷ evs) given mid w ev a exit s =
    record { choice = w.choice; fair = w.fair; others = w.others ++ (a ∷ []); answer = ap (λ (l : List Answer). l ++ (a ∷ [])) w.answer; rest = way_more (settled st (outcome st w.choice e)) evs w.others mid w.rest ev a exit s }

pub way : {entry exit : State} {evs : List Event} {given : List Answer} → Stepping entry evs given exit → Way entry evs given exit
way no_step = (refl, refl)
way {entry} {exit} (next_step {evs = evs} {ans = ans} {st = st} ev a p s) = way_more entry evs ans st (way p) ev a exit s

-- all steps by these events have these answers and end so
pub record Sure (st : State) (evs : List Event) (answers : List Answer) (holds : State → Type 0) : Type 0 where
  pub tells : (given : List Answer) (exit : State) → Way st evs given exit → (given ≡ answers) × holds exit

-- what an event comes to
record Comes (st : State) (o : Outcome) (a : Answer) (next : State) : Type 0 where
  answer : answer_of st o ≡ a
  after : settled st o ≡ next

module _ (holds : State → Type 0) where
  at_end : (st : State) → holds st → Sure st [] [] holds
  at_end st h = record { tells = λ given exit w. (w.0, subst holds (sym w.1) h) }

  -- wherever a call comes to stand
  somewhere : (st : State) (ev : Event) (evs : List Event) (a : Answer) (answers : List Answer) (next : ℕ → State) → ((ch : Choice) → Fair st ch → (i : ℕ) × ((i < 64) × Comes st (outcome st ch ev) a (next i))) → ((i : ℕ) → i < 64 → Sure (next i) evs answers holds) → Sure st (ev ∷ evs) (a ∷ answers) holds
  somewhere st ev evs a answers next comes sure =
      record {
        tells = λ given exit w.
            let m = comes w.choice w.fair in
            let c = m.1.1 in
            let r = (sure m.0 m.1.0).tells w.others exit (subst (λ (z : State). Way z evs w.others exit) c.after w.rest) in
            (w.answer ∙ ap (λ (x : Answer). x ∷ w.others) c.answer ∙ ap (λ (l : List Answer). a ∷ l) r.0, r.1);
      }

  one_more : (st : State) (ev : Event) (evs : List Event) (a : Answer) (answers : List Answer) (next : State) → ((ch : Choice) → Fair st ch → Comes st (outcome st ch ev) a next) → Sure next evs answers holds → Sure st (ev ∷ evs) (a ∷ answers) holds
  one_more st ev evs a answers next comes sure = somewhere st ev evs a answers (λ i. next) (λ ch f. (0, (lit≤ tt, comes ch f))) (λ i l. sure)

-- ---------------------------------------------------------------- one call in an else empty table
nobody : (p : Call → Bool) (n : ℕ) → seek p (replicate n None) ≡ None
nobody p zero = refl
nobody p (suc n) = ap later (nobody p n)

found_later : (b : Bool) (i : ℕ) (k : Call) → later (cond b (Some (record { place = i; call = k })) None) ≡ cond b (Some (record { place = suc i; call = k })) None
found_later true i k = refl
found_later false i k = refl

-- it is found at its place, by what matches it
pub seek_alone : (p : Call → Bool) (n i : ℕ) (k : Call) → i < n → seek p (set (replicate n None) i (Some k)) ≡ cond (p k) (Some (record { place = i; call = k })) None
seek_alone p zero i k h = absurd (not-suc-le-zero h)
seek_alone p (suc n) zero k h = ap (λ (r : Option Found). cond (p k) (Some (record { place = 0; call = k })) (later r)) (nobody p n)
seek_alone p (suc n) (suc i) k h = ap later (seek_alone p n i k (le_of_suc-le-suc h)) ∙ found_later (p k) i k

pub set_twice : (os : List (Option Call)) (i : ℕ) (a b : Option Call) → set (set os i a) i b ≡ set os i b
set_twice [] i a b = refl
set_twice (o ∷ os) zero a b = refl
set_twice (o ∷ os) (suc i) a b = ap (λ (l : List (Option Call)). o ∷ l) (set_twice os i a b)

-- ---------------------------------------------------------------- the call of reference 5 on channel 7
abbrev fifth : ExchangeSide → SipSide → Call
fifth exchange sip =
    record { reference = record { flag = false; number = 5 }; channel = 7; origin = Origin.Exchange 1; digits = recorded examples.digits; exchange = exchange; sip = sip }

-- it stands alone at place i, and these messages wait
abbrev standing : ℕ → Call → List (Message Digits) → List SipMessage → State
standing i k ms ss =
    record { table = set (replicate 64 None) i (Some k); pool = after_any (Some 7) examples.seven_and_nine; exchange = ms; sip = ss; exchange_places = 8; sip_places = 8; next = Some 2; full = 20 }

abbrev invites : SipMessage
invites = SipMessage.Invite 1 (recorded examples.digits)

module _ (i : ℕ) (inside : i < 64) (k : Call) where
  found_at : (p : Call → Bool) → seek p (set (replicate 64 None) i (Some k)) ≡ cond (p k) (Some (record { place = i; call = k })) None
  found_at p = seek_alone p 64 i k inside

  -- the call is another then
  refit : (k' : Call) (ms : List (Message Digits)) (ss : List SipMessage) → ◌≡◌ {A = State} (record (standing i k ms ss) { table = set (set (replicate 64 None) i (Some k)) i (Some k') }) (standing i k' ms ss)
  refit k' ms ss = ap (λ (t : List (Option Call)). record (standing i k ms ss) { table = t }) (set_twice (replicate 64 None) i (Some k) (Some k'))

abbrev proceeding : Call
proceeding = fifth ExchangeSide.Proceeding (SipSide.InviteSent untold)

begun : (ch : Choice) → Fair (examples.opened examples.seven_and_nine) ch → (i : ℕ) × ((i < 64) × Comes (examples.opened examples.seven_and_nine) (outcome (examples.opened examples.seven_and_nine) ch (Exchange setup417_octets)) (examples.report (Some 7) None None) (standing i proceeding (examples.proceeding_on_seven ∷ []) (invites ∷ [])))
begun ch f = go ch.pick ch.place f.place
  where
    go : (pick place : Option ℕ) → FreePlace (replicate 64 None) place → (i : ℕ) × ((i < 64) × Comes (examples.opened examples.seven_and_nine) (outcome (examples.opened examples.seven_and_nine) (record { pick = pick; place = place }) (Exchange setup417_octets)) (examples.report (Some 7) None None) (standing i proceeding (examples.proceeding_on_seven ∷ []) (invites ∷ [])))
    go pick None h = absurd (h 0 (lit≤ tt) refl)
    go pick (Some i) h = (i, (h.0, record { answer = refl; after = refl }))

-- ---------------------------------------------------------------- what comes to it
-- a message is taken
took_exchange : (i : ℕ) (k : Call) (m : Message Digits) (ms : List (Message Digits)) (ss : List SipMessage) (ch : Choice) → Comes (standing i k (m ∷ ms) ss) (outcome (standing i k (m ∷ ms) ss) ch TakeExchange) (examples.exchange_takes m) (standing i k ms ss)
took_exchange i k m ms ss ch = record { answer = refl; after = refl }

took_sip : (i : ℕ) (k : Call) (ms : List (Message Digits)) (m : SipMessage) (ss : List SipMessage) (ch : Choice) → Comes (standing i k ms (m ∷ ss)) (outcome (standing i k ms (m ∷ ss)) ch TakeSip) (examples.sip_takes m) (standing i k ms ss)
took_sip i k ms m ss ch = record { answer = refl; after = refl }

abbrev disconnect_read : Message DigitsPart
disconnect_read =
    record { reference = record { flag = false; number = 5 }; kind = MessageType.Disconnect; elements = record bare { cause = Some (record { value = 16; location = 0 }) } }

abbrev cancelled : Call
cancelled = fifth (ExchangeSide.ReleaseSent None false) SipSide.CancelSent

abbrev ended : Call
ended = fifth (ExchangeSide.ReleaseSent None false) SipSide.None

abbrev up : Call
up = fifth ExchangeSide.ConnectSent (SipSide.Up 1)

abbrev cleared : List (Message Digits)
cleared = examples.proceeding_on_seven ∷ examples.bare MessageType.Release ∷ []

abbrev answered : List (Message Digits)
answered = examples.proceeding_on_seven ∷ examples.bare MessageType.Connect ∷ []

module _ (i : ℕ) (inside : i < 64) (ch : Choice) where
  -- DISCONNECT while the INVITE is out
  disconnects : Comes (standing i proceeding (examples.proceeding_on_seven ∷ []) (invites ∷ [])) (outcome (standing i proceeding (examples.proceeding_on_seven ∷ []) (invites ∷ [])) ch (Exchange examples.disconnect)) (Answer.Step (Ok (record { seized = None; released = None; timer = Some Timer.T308; cancelling = true }))) (standing i cancelled cleared (invites ∷ SipMessage.Cancel 1 ∷ []))
  disconnects =
      let st = standing i proceeding (examples.proceeding_on_seven ∷ []) (invites ∷ []) in
      let q : seek (by_reference disconnect_read.reference) (set (replicate 64 None) i (Some proceeding)) ≡ Some (record { place = i; call = proceeding }) = found_at i inside proceeding (by_reference disconnect_read.reference) in
      record {
        answer = ap (λ (r : Option Found). answer_of st (on_message st ch disconnect_read r)) q;
        after = ap (λ (r : Option Found). settled st (on_message st ch disconnect_read r)) q ∙ refit i inside proceeding cancelled cleared (invites ∷ SipMessage.Cancel 1 ∷ []);
      }

  -- a 200 on dialogue d, which no call holds, at the call that it is for
  ok_comes : (k k' : Call) (ms ms' : List (Message Digits)) (ss ss' : List SipMessage) (d : ℕ) (a : Answer) → seek (holds_dialogue d) (set (replicate 64 None) i (Some k)) ≡ None → seek (by_live_number 1) (set (replicate 64 None) i (Some k)) ≡ Some (record { place = i; call = k }) → Comes (standing i k ms ss) (accepted 1 d None (Some (record { place = i; call = k }))) a (record (standing i k ms' ss') { table = set (set (replicate 64 None) i (Some k)) i (Some k') }) → Comes (standing i k ms ss) (accepted 1 d (seek (holds_dialogue d) (set (replicate 64 None) i (Some k))) (seek (by_live_number 1) (set (replicate 64 None) i (Some k)))) a (standing i k' ms' ss')
  ok_comes k k' ms ms' ss ss' d a n m c =
      let st = standing i k ms ss in
      let e = ap (λ (r : Option Found). accepted 1 d r (seek (by_live_number 1) (set (replicate 64 None) i (Some k)))) n ∙ ap (accepted 1 d None) m in
      record { answer = ap (answer_of st) e ∙ c.answer; after = ap (settled st) e ∙ c.after ∙ refit i inside k k' ms' ss' }

  late : Comes (standing i cancelled cleared (invites ∷ SipMessage.Cancel 1 ∷ [])) (outcome (standing i cancelled cleared (invites ∷ SipMessage.Cancel 1 ∷ [])) ch (examples.answered_on 1)) (examples.report None None None) (standing i ended cleared (invites ∷ SipMessage.Cancel 1 ∷ ack_and_bye 1 1))
  late =
      ok_comes cancelled ended cleared cleared (invites ∷ SipMessage.Cancel 1 ∷ []) (invites ∷ SipMessage.Cancel 1 ∷ ack_and_bye 1 1) 1 (examples.report None None None)
      (found_at i inside cancelled (holds_dialogue 1)) (found_at i inside cancelled (by_live_number 1)) (record { answer = refl; after = refl })

  once : Comes (standing i proceeding (examples.proceeding_on_seven ∷ []) (invites ∷ [])) (outcome (standing i proceeding (examples.proceeding_on_seven ∷ []) (invites ∷ [])) ch (examples.answered_on 1)) (examples.report None None (Some Timer.T313)) (standing i up answered (invites ∷ SipMessage.Ack 1 1 ∷ []))
  once =
      ok_comes proceeding up (examples.proceeding_on_seven ∷ []) answered (invites ∷ []) (invites ∷ SipMessage.Ack 1 1 ∷ []) 1 (examples.report None None (Some Timer.T313))
      (found_at i inside proceeding (holds_dialogue 1)) (found_at i inside proceeding (by_live_number 1)) (record { answer = refl; after = refl })

  twice : Comes (standing i up answered (invites ∷ SipMessage.Ack 1 1 ∷ [])) (outcome (standing i up answered (invites ∷ SipMessage.Ack 1 1 ∷ [])) ch (examples.answered_on 2)) (examples.report None None None) (standing i up answered (invites ∷ SipMessage.Ack 1 1 ∷ ack_and_bye 1 2))
  twice =
      ok_comes up up answered answered (invites ∷ SipMessage.Ack 1 1 ∷ []) (invites ∷ SipMessage.Ack 1 1 ∷ ack_and_bye 1 2) 2 (examples.report None None None)
      (found_at i inside up (holds_dialogue 2)) (found_at i inside up (by_live_number 1)) (record { answer = refl; after = refl })

-- ---------------------------------------------------------------- the two collisions over dialogues
abbrev SevenSeized : State → Type 0
SevenSeized st = st.pool 7 ≡ Seized

-- two messages to the exchange and four to SIP, and then none, are taken
module _ (i : ℕ) (k : Call) (a b : Message Digits) (p q r s : SipMessage) where
  emptied : Sure (standing i k (a ∷ b ∷ []) (p ∷ q ∷ r ∷ s ∷ [])) (TakeExchange ∷ TakeExchange ∷ TakeExchange ∷ TakeSip ∷ TakeSip ∷ TakeSip ∷ TakeSip ∷ TakeSip ∷ []) (examples.exchange_takes a ∷ examples.exchange_takes b ∷ Answer.Exchange None ∷ examples.sip_takes p ∷ examples.sip_takes q ∷ examples.sip_takes r ∷ examples.sip_takes s ∷ Answer.Sip None ∷ []) SevenSeized
  emptied =
      one_more SevenSeized _ _ _ _ _ _ (λ ch f. took_exchange i k a (b ∷ []) (p ∷ q ∷ r ∷ s ∷ []) ch)
      (one_more SevenSeized _ _ _ _ _ _ (λ ch f. took_exchange i k b [] (p ∷ q ∷ r ∷ s ∷ []) ch)
      (one_more SevenSeized _ _ _ _ _ (standing i k [] (p ∷ q ∷ r ∷ s ∷ [])) (λ ch f. record { answer = refl; after = refl })
      (one_more SevenSeized _ _ _ _ _ _ (λ ch f. took_sip i k [] p (q ∷ r ∷ s ∷ []) ch)
      (one_more SevenSeized _ _ _ _ _ _ (λ ch f. took_sip i k [] q (r ∷ s ∷ []) ch)
      (one_more SevenSeized _ _ _ _ _ _ (λ ch f. took_sip i k [] r (s ∷ []) ch)
      (one_more SevenSeized _ _ _ _ _ _ (λ ch f. took_sip i k [] s [] ch)
      (one_more SevenSeized _ _ _ _ _ (standing i k [] []) (λ ch f. record { answer = refl; after = refl })
      (at_end SevenSeized (standing i k [] []) refl))))))))

pub always_after_cancel : Sure (examples.opened examples.seven_and_nine) examples.after_cancel_events examples.after_cancel_answers SevenSeized
always_after_cancel =
    somewhere SevenSeized (examples.opened examples.seven_and_nine) (Exchange setup417_octets) _ _ _ (λ i. standing i proceeding (examples.proceeding_on_seven ∷ []) (invites ∷ [])) begun
    (λ i inside. one_more SevenSeized _ _ _ _ _ _ (λ ch f. disconnects i inside ch)
    (one_more SevenSeized _ _ _ _ _ _ (λ ch f. late i inside ch)
    (emptied i ended examples.proceeding_on_seven (examples.bare MessageType.Release) invites (SipMessage.Cancel 1) (SipMessage.Ack 1 1) (SipMessage.Bye 1))))

pub always_twice : Sure (examples.opened examples.seven_and_nine) examples.twice_events examples.twice_answers SevenSeized
always_twice =
    somewhere SevenSeized (examples.opened examples.seven_and_nine) (Exchange setup417_octets) _ _ _ (λ i. standing i proceeding (examples.proceeding_on_seven ∷ []) (invites ∷ [])) begun
    (λ i inside. one_more SevenSeized _ _ _ _ _ _ (λ ch f. once i inside ch)
    (one_more SevenSeized _ _ _ _ _ _ (λ ch f. twice i inside ch)
    (emptied i up examples.proceeding_on_seven (examples.bare MessageType.Connect) invites (SipMessage.Ack 1 1) (SipMessage.Ack 1 2) (SipMessage.Bye 2))))
