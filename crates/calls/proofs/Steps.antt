-- Every step keeps the balance at the place that it changes.
use Rattle.std.proofs.Common.{◌≡◌, ℕ, ◌<◌, ◌≤◌, Bool, true, false, cond, not, eqb, leb, List, [], ◌∷◌, length, get_or, Some, None, Ok, Err, Option, Result, sym, refl, ap, ◌∙◌, subst, arith, MatchOption}
use Rattle.std.proofs.lemmas.Bool.Decides.{nat_tests}
use Rattle.calls.specs.Records.{Ground, MessageType, CallReference, Channel, Message, Misread, SipMessage, Call, Digits, Found}
use Rattle.messages.specs.Elements.{DigitsPart}
use Rattle.causes.specs.Names
use Rattle.pools.specs.States.{States, idle, AnyWasIdle}
use Rattle.std.proofs.lemmas.Bool.{cond_both, eqb-true, and_parts}
use Rattle.messages.specs.Reading.{decoded}
use Rattle.messages.specs.Types.{is_setup}
use Rattle.calls.specs.Sides.{is_over, is_no_sip, awaits_response, owes, holds_dialogue, on_call, sum_of, one_if, named, connects_in}
use Rattle.calls.specs.Effects.{Effect, called_digits, is_whole, misdialled, cause_for, on_expiry, on_cancel_expiry, accepts, ack_and_bye, leaves, begins_proceeding, begins_collecting, begins, invited}
use Rattle.calls.specs.Rules.{Event, Exchange, Invite, Cancel, Bye, Response, Expiry, CancelExpiry, TakeExchange, TakeSip, State, Choice, Fair, FreePlace, Outcome, Refuse, Reply, Change, TookExchange, TookSip, seek, by_reference, by_number, by_live_number, by_awaited_number, by_transaction, at, at_call, rejects, granted, seated, admitted, on_setup, turned_away, uncalled, on_message, replies, calls_out, dialling_status, unless_answered, on_invite, another, on_ok, accepted, on_other, is_other_success, on_response, is_roomy, roomed, on_octets, is_status, outcome}
use Rattle.calls.specs.Laws.{Brought, ASetup, AnInvite, AnOk, ABye, NoneOfThese, brought_by_octets, brought_by, setup_count, invite_count}
use Rattle.calls.specs.Standing.{Everywhere, sides_agree, SoundAt}
use Rattle.calls.proofs.Balance.{Balanced, Uninvited, Quiet, keeper, has_number, claims}
use Rattle.calls.proofs.Locals.{Keeps, on_type_keeps, on_expiry_keeps, on_cancel_expiry_keeps, cancel_keeps, bye_keeps, accepts_keeps, fails_keeps, provisional_keeps}
use Rattle.calls.proofs.Places.{everywhere_at, Finds, Misses, seek_tells}

-- the effect of an answer that touches no call
abbrev pub spoken : List (Message Digits) → List SipMessage → Effect
spoken ms ss = record { after = None; seized = None; released = None; timer = None; cancelling = false; exchange = ms; sip = ss; numbered = false }

-- a new call has the next number
abbrev pub HasNext : Option ℕ → Option Call → Effect → Type 0
HasNext next None e = e.numbered ≡ true → (n : ℕ) → on_call (has_number n) e.after ≤ named n next
HasNext next (Some k) e = Unit {0}

-- dialogues are held by one call each
abbrev pub OneKeeper : State → Type 0
OneKeeper st = (d : ℕ) → sum_of (keeper d) st.table ≤ 1

-- an INVITE that is not refused finds no call that owes its transaction a response; what claims a dialogue finds it held by no other
-- call; and the number of a new call is the next one
pub record Fresh (st : State) (ev : Brought) (old : Option Call) (e : Effect) : Type 0 where
  pub transaction : (t : ℕ) → invite_count t ev ≡ 1 → sum_of (owes t) st.table ≡ 0
  pub dialogue : OneKeeper st → (d : ℕ) → claims d ev ≡ true → sum_of (keeper d) st.table ≤ on_call (keeper d) old
  pub number : HasNext st.next old e

abbrev pub Lawful : State → Brought → Outcome → Type 0
Lawful st ev (Refuse r) = Unit {0}
Lawful st ev (Reply ms ss) = Fresh st ev None (spoken ms ss) × Balanced st.pool None ev (spoken ms ss)
Lawful st ev (Change i e) = Fresh st ev (get_or st.table i None) e × (i < length st.table) × Balanced st.pool (get_or st.table i None) ev e
Lawful st ev TookExchange = Unit {0}
Lawful st ev TookSip = Unit {0}

-- an event that is neither an INVITE nor a 200 claims no dialogue
unclaimed : (ev : Brought) → Uninvited ev → Quiet ev → (d : ℕ) → claims d ev ≡ false
unclaimed (AnInvite t x) u q d = absurd (let z = u t in grind (arith, nat_tests))
unclaimed (AnOk x) u q d = q d
unclaimed (ASetup r) u q d = refl
unclaimed (ABye x) u q d = refl
unclaimed NoneOfThese u q d = refl

fresh : (st : State) (ev : Brought) → Uninvited ev → Quiet ev → (old : Option Call) (e : Effect) → HasNext st.next old e → Fresh st ev old e
fresh st ev u q old e h =
    record {
      transaction = λ t z. absurd (omega (arith, u t, z));
      dialogue = λ one d z. absurd (let w = unclaimed ev u q d in grind (arith, nat_tests));
      number = h;
    }

-- an answer without a call uses up no number
unnumbered : (next : Option ℕ) (ms : List (Message Digits)) (ss : List SipMessage) → HasNext next None (spoken ms ss)
unnumbered next ms ss z = absurd (grind (arith, nat_tests))

fresh_answer : (st : State) (ev : Brought) → Uninvited ev → Quiet ev → (ms : List (Message Digits)) (ss : List SipMessage) → Fresh st ev None (spoken ms ss)
fresh_answer st ev u q ms ss = fresh st ev u q None (spoken ms ss) (unnumbered st.next ms ss)

-- ---------------------------------------------------------------- answers without a call
spoken_balanced : (pool : States) (ev : Brought) → Uninvited ev → Quiet ev → (m : Message Digits) → ((r : ℕ) → connects_in r (m ∷ []) ≡ 0) → Balanced pool None ev (spoken (m ∷ []) [])
spoken_balanced pool ev u q m mute = grind (arith, nat_tests)

answered_balanced : (pool : States) (t d s : ℕ) → Names.first_failure ≤ s → s ≤ Names.last_status → Balanced pool None (AnInvite t d) (spoken [] (SipMessage.Response t s ∷ []))
answered_balanced pool t d s lo hi = grind (arith, nat_tests)

declined_balanced : (pool : States) (n d : ℕ) → Balanced pool None (AnOk d) (spoken [] (ack_and_bye n d))
declined_balanced pool n d = grind (arith, nat_tests)

acked_balanced : (pool : States) (n d : ℕ) → Balanced pool None NoneOfThese (spoken [] (SipMessage.Ack n d ∷ []))
acked_balanced pool n d = grind (arith, nat_tests)

-- ---------------------------------------------------------------- new calls
-- the event is a SETUP that brings the reference of m
abbrev Brings : Brought → Message DigitsPart → Type 0
Brings ev m = (r : ℕ) → setup_count r ev ≡ one_if (eqb m.reference.number r)

module _ (pool : States) (ev : Brought) (u : Uninvited ev) (q : Quiet ev) (m : Message DigitsPart) (b : Brings ev m) (n c : ℕ) (i : idle (pool c) ≡ true) where
  begins_proceeding_keeps : Balanced pool None ev (begins_proceeding m n c)
  begins_proceeding_keeps =
      record {
        channels = λ x. grind (arith, nat_tests);
        invites = λ t. grind (arith, nat_tests);
        connects = λ r. grind (arith, nat_tests);
        dialogues = λ d b. grind (arith, nat_tests);
        answered = λ last l. grind (arith, nat_tests);
        keepers = λ d c. grind (arith, nat_tests);
        byes = λ o d b. grind (arith, nat_tests);
        numbers = λ n. grind (arith, nat_tests);
        few = grind (arith, nat_tests);
        origin = λ o. grind (arith, nat_tests);
        stands = grind (arith, nat_tests);
      }

  begins_collecting_keeps : Balanced pool None ev (begins_collecting m n c)
  begins_collecting_keeps =
      record {
        channels = λ x. grind (arith, nat_tests);
        invites = λ t. grind (arith, nat_tests);
        connects = λ r. grind (arith, nat_tests);
        dialogues = λ d b. grind (arith, nat_tests);
        answered = λ last l. grind (arith, nat_tests);
        keepers = λ d c. grind (arith, nat_tests);
        byes = λ o d b. grind (arith, nat_tests);
        numbers = λ n. grind (arith, nat_tests);
        few = grind (arith, nat_tests);
        origin = λ o. grind (arith, nat_tests);
        stands = grind (arith, nat_tests);
      }

  begins_keeps : (full : ℕ) → Balanced pool None ev (begins full m n c)
  begins_keeps full = cond_both (is_whole full m.elements.complete (length (called_digits m))) _ _ (Balanced pool None ev) (λ _. begins_proceeding_keeps) (λ _. begins_collecting_keeps)

invited_keeps : (pool : States) (t d : ℕ) (xs : List ℕ) (c : ℕ) → idle (pool c) ≡ true → Balanced pool None (AnInvite t d) (invited t d xs c)
invited_keeps pool t d xs c i =
    record {
      channels = λ x. grind (arith, nat_tests);
      invites = λ t. grind (arith, nat_tests);
      connects = λ r. grind (arith, nat_tests);
      dialogues = λ d b. grind (arith, nat_tests);
      answered = λ last l. grind (arith, nat_tests);
      keepers = λ d c. grind (arith, nat_tests);
      byes = λ o d b. grind (arith, nat_tests);
      numbers = λ n. grind (arith, nat_tests);
      few = grind (arith, nat_tests);
      origin = λ o. grind (arith, nat_tests);
      stands = grind (arith, nat_tests);
    }

-- ---------------------------------------------------------------- the steps
abbrev Free : State → ℕ → Type 0
Free st i = (i < length st.table) × (get_or st.table i None ≡ None)

-- a new call at a free place
enters_at : (st : State) (ev : Brought) (i : ℕ) (e : Effect) → Fresh st ev None e → Free st i → Balanced st.pool None ev e → Lawful st ev (Change i e)
enters_at st ev i e f p b = (subst (λ (o : Option Call). Fresh st ev o e) (sym p.1) f, p.0, subst (λ (o : Option Call). Balanced st.pool o ev e) (sym p.1) b)

-- a call that was found
changes_at : (st : State) (ev : Brought) (p : Call → Bool) (x : Found) (e : Effect) → Fresh st ev (Some x.call) e → Finds p st.table x → Balanced st.pool (Some x.call) ev e → Lawful st ev (Change x.place e)
changes_at st ev p x e f h b = (subst (λ (o : Option Call). Fresh st ev o e) (sym h.here) f, h.inside, subst (λ (o : Option Call). Balanced st.pool o ev e) (sym h.here) b)

sound_at : (st : State) (p : Call → Bool) (x : Found) → Everywhere SoundAt st.table → Finds p st.table x → sides_agree x.call.exchange x.call.sip ≡ true
sound_at st p x s h = subst SoundAt h.here (everywhere_at SoundAt refl st.table x.place s)

at_lawful : (st : State) (ev : Brought) → Uninvited ev → Quiet ev → (p : Call → Bool) (x : Found) (r : Result Effect Ground) → Finds p st.table x → Keeps st.pool x.call ev r → Lawful st ev (at x.place r)
at_lawful st ev u q p x (Err g) h b = tt
at_lawful st ev u q p x (Ok e) h b = changes_at st ev p x e (fresh st ev u q (Some x.call) e tt) h b

-- an event that is no INVITE, at the call that a search finds
called : (st : State) → Everywhere SoundAt st.table → (ev : Brought) → Uninvited ev → Quiet ev → (p : Call → Bool) (rule : Call → Result Effect Ground) → ((k : Call) → sides_agree k.exchange k.sip ≡ true → p k ≡ true → Keeps st.pool k ev (rule k)) → (r : Option Found) → MatchOption r (Misses p st.table) (Finds p st.table) → Lawful st ev (at_call rule r)
called st s ev u q p rule b None h = tt
called st s ev u q p rule b (Some x) h = at_lawful st ev u q p x (rule x.call) h (b x.call (sound_at st p x s h) h.matches)

pub live_by : (r : CallReference) (k : Call) → by_reference r k ≡ true → is_over k.exchange ≡ false
live_by r k e = grind arith

-- a message that was read
module _ (st : State) (ev : Brought) (u : Uninvited ev) (q : Quiet ev) (m : Message DigitsPart) where
  rejects_lawful : (v : ℕ) → Lawful st ev (rejects m v)
  rejects_lawful v = (fresh_answer st ev u q _ _, spoken_balanced st.pool ev u q _ (λ r. refl))

  module _ (b : Brings ev m) where
    begins_next : (n c : ℕ) → st.next ≡ Some n → HasNext st.next None (begins st.full m n c)
    begins_next n c e z x = cond_both (is_whole st.full m.elements.complete (length (called_digits m))) _ _ (λ (o : Effect). on_call (has_number x) o.after ≤ named x st.next) (λ _. grind (arith, nat_tests)) (λ _. grind (arith, nat_tests))

    begins_lawful : (i n c : ℕ) → st.next ≡ Some n → Free st i → idle (st.pool c) ≡ true → Lawful st ev (Change i (begins st.full m n c))
    begins_lawful i n c e f h = enters_at st ev i _ (fresh st ev u q None (begins st.full m n c) (begins_next n c e)) f (begins_keeps st.pool ev u q m b n c h st.full)

    seated_lawful : (i n : ℕ) → st.next ≡ Some n → (got : Option ℕ) → ((c : ℕ) → got ≡ Some c → idle (st.pool c) ≡ true) → Free st i → Lawful st ev (seated st.full m i n got)
    seated_lawful i n e None h f = rejects_lawful _
    seated_lawful i n e (Some c) h f = begins_lawful i n c e f (h c refl)

    pick_idle : (pick : Option ℕ) → AnyWasIdle pick st.pool → (c : ℕ) → pick ≡ Some c → idle (st.pool c) ≡ true
    pick_idle None h c e = absurd (let z : ◌≡◌ {A = ℕ} 0 1 = cc in omega arith)
    pick_idle (Some x) h c e = let z : x ≡ c = cc in subst (λ y. idle (st.pool y) ≡ true) z h

    granted_idle : (pick : Option ℕ) → AnyWasIdle pick st.pool → (wish : Option Channel) (c : ℕ) → granted st.pool pick wish ≡ Some c → idle (st.pool c) ≡ true
    granted_idle pick h None c e = pick_idle pick h c e
    granted_idle pick h (Some w) c e = by_wish (idle (st.pool w.number)) w.exclusive refl e
      where
        by_wish : (free alone : Bool) → idle (st.pool w.number) ≡ free → cond free (Some w.number) (cond alone None pick) ≡ Some c → idle (st.pool c) ≡ true
        by_wish true alone i e = pick_idle (Some w.number) i c e
        by_wish false true i e = pick_idle None (λ k. absurd (let z : ◌≡◌ {A = ℕ} 0 1 = cc in omega arith)) c e
        by_wish false false i e = pick_idle pick h c e

    admitted_lawful : (pick : Option ℕ) → AnyWasIdle pick st.pool → (place next : Option ℕ) → st.next ≡ next → FreePlace st.table place → Lawful st ev (admitted st pick m place next)
    admitted_lawful pick h None next e f = rejects_lawful _
    admitted_lawful pick h (Some i) None e f = rejects_lawful _
    admitted_lawful pick h (Some i) (Some n) e f = seated_lawful i n e (granted st.pool pick m.elements.channel) (granted_idle pick h m.elements.channel) f

    setup_lawful : (ch : Choice) → Fair st ch → Lawful st ev (on_setup st ch m)
    setup_lawful ch fair = cond_both (misdialled m) _ _ (Lawful st ev) (λ _. rejects_lawful _) (λ _. admitted_lawful ch.pick fair.pick ch.place st.next refl fair.place)

  turned_away_lawful : (kind : MessageType) → Lawful st ev (turned_away m kind)
  turned_away_lawful MessageType.ReleaseComplete = tt
  turned_away_lawful _ = rejects_lawful _

  module _ (b : (r : ℕ) → setup_count r ev ≡ setup_count r (brought_by_octets (Ok m))) where
    brought : m.kind ≡ MessageType.Setup → Brings ev m
    brought e r = b r ∙ ap (λ (kind : MessageType). setup_count r (cond (is_setup kind) (ASetup m.reference.number) NoneOfThese)) e

    uncalled_lawful : (ch : Choice) → Fair st ch → (kind : MessageType) → m.kind ≡ kind → Lawful st ev (uncalled st ch m kind)
    uncalled_lawful ch fair MessageType.Setup e = setup_lawful (brought e) ch fair
    uncalled_lawful ch fair kind e = turned_away_lawful kind

    message_lawful : (ch : Choice) → Fair st ch → Everywhere SoundAt st.table → (r : Option Found) → MatchOption r (Misses (by_reference m.reference) st.table) (Finds (by_reference m.reference) st.table) → Lawful st ev (on_message st ch m r)
    message_lawful ch fair s None h = uncalled_lawful ch fair m.kind refl
    message_lawful ch fair s (Some x) h =
        at_lawful st ev u q _ x _ h
        (on_type_keeps st.pool ev u q x.call (sound_at st _ x s h) (live_by m.reference x.call h.matches) st.full ch.pick fair.pick m m.kind)

module _ (st : State) (s : Everywhere SoundAt st.table) where
  owes_misses : (t : ℕ) (k : Call) → by_transaction t k ≡ false → owes t k ≡ 0
  owes_misses t k e = grind (arith, nat_tests)

  -- the statuses for digits that make no call are final, whichever digits get which
  dialling_final : (xs : List ℕ) (s : ℕ) → dialling_status xs ≡ Some s → (Names.first_failure ≤ s) × (s ≤ Names.last_status)
  dialling_final xs s e = (grind (arith, nat_tests), grind (arith, nat_tests))

  keeps_misses : (d : ℕ) (k : Call) → holds_dialogue d k ≡ false → keeper d k ≡ 0
  keeps_misses d k e = grind (arith, nat_tests)

  keeps_found : (d : ℕ) (k : Call) → holds_dialogue d k ≡ true → keeper d k ≡ 1
  keeps_found d k e = grind (arith, nat_tests)

  fresh_invite : (t d : ℕ) → Misses (by_transaction t) st.table → Misses (holds_dialogue d) st.table → (e : Effect) → HasNext st.next None e → Fresh st (AnInvite t d) None e
  fresh_invite t d h w e n =
      record {
        transaction = λ x z. (let y : t ≡ x = grind (arith, nat_tests) in subst (λ (y : ℕ). sum_of (owes y) st.table ≡ 0) y (h (owes t) (owes_misses t)));
        dialogue = λ one x z. omega (arith, subst (λ (y : ℕ). sum_of (keeper y) st.table ≡ 0) (eqb-true d x z) (w (keeper d) (keeps_misses d)));
        number = n;
      }

  module _ (ch : Choice) (fair : Fair st ch) (t d : ℕ) (xs : List ℕ) where
    module _ (f : (e : Effect) → HasNext st.next None e → Fresh st (AnInvite t d) None e) where
      replies_lawful : (v : ℕ) → Names.first_failure ≤ v → v ≤ Names.last_status → Lawful st (AnInvite t d) (replies t v)
      replies_lawful v lo hi = (f (spoken [] (SipMessage.Response t v ∷ [])) (unnumbered st.next [] (SipMessage.Response t v ∷ [])), answered_balanced st.pool t d v lo hi)

      calls_out_lawful : (place pick : Option ℕ) → FreePlace st.table place → AnyWasIdle pick st.pool → Lawful st (AnInvite t d) (calls_out t d xs place pick)
      calls_out_lawful (Some i) (Some c) p h = enters_at st _ i _ (f (invited t d xs c) (λ z. absurd (grind (arith, nat_tests)))) p (invited_keeps st.pool t d xs c h)
      calls_out_lawful (Some i) None p h = replies_lawful _ (omega arith) (omega arith)
      calls_out_lawful None pick p h = replies_lawful _ (omega arith) (omega arith)

      dialled_lawful : (o : Option ℕ) → ((s : ℕ) → o ≡ Some s → (Names.first_failure ≤ s) × (s ≤ Names.last_status)) → Lawful st (AnInvite t d) (unless_answered t o (calls_out t d xs ch.place ch.pick))
      dialled_lawful None h = calls_out_lawful ch.place ch.pick fair.place fair.pick
      dialled_lawful (Some s) h = let w = h s refl in replies_lawful s w.0 w.1

    invite_lawful : (r o : Option Found) → MatchOption r (Misses (by_transaction t) st.table) (Finds (by_transaction t) st.table) → MatchOption o (Misses (holds_dialogue d) st.table) (Finds (holds_dialogue d) st.table) → Lawful st (AnInvite t d) (on_invite ch t d xs r o)
    invite_lawful (Some f) (Some g) h w = tt
    invite_lawful (Some f) None h w = tt
    invite_lawful None (Some g) h w = tt
    invite_lawful None None h w =
        dialled_lawful (fresh_invite t d h w) (dialling_status xs) (dialling_final xs)

  -- a response that is no 200 brings nothing that counts
  module _ (n d : ℕ) where
    -- the dialogue is held by no other call than the one found, or by none
    abbrev Unshared : Option Call → Type 0
    Unshared old = OneKeeper st → sum_of (keeper d) st.table ≤ on_call (keeper d) old

    fresh_ok : (old : Option Call) → Unshared old → (e : Effect) → HasNext st.next old e → Fresh st (AnOk d) old e
    fresh_ok old w e h =
        record {
          transaction = λ t z. absurd (omega (arith, z));
          dialogue = λ one x z. subst (λ (y : ℕ). sum_of (keeper y) st.table ≤ on_call (keeper y) old) (eqb-true d x z) (w one);
          number = h;
        }

    unshared : (holder mine : Option Found) → MatchOption holder (Misses (holds_dialogue d) st.table) (Finds (holds_dialogue d) st.table) → another holder mine ≡ false → MatchOption mine (Unshared None) (λ f. Unshared (get_or st.table f.place None))
    unshared None None w e = λ one. omega (arith, w (keeper d) (keeps_misses d))
    unshared None (Some f) w e = λ one. omega (arith, w (keeper d) (keeps_misses d))
    unshared (Some h) None w e = absurd (grind (arith, nat_tests))
    unshared (Some h) (Some f) w e =
        λ one.
        let z : h.place ≡ f.place = eqb-true h.place f.place (grind (arith, nat_tests)) in
        let y : on_call (keeper d) (get_or st.table f.place None) ≡ 1 = ap (λ (i : ℕ). on_call (keeper d) (get_or st.table i None)) (sym z) ∙ ap (on_call (keeper d)) w.here ∙ keeps_found d h.call w.matches in
        omega (arith, one d, y)

    ok_lawful : (r : Option Found) → MatchOption r (Unshared None) (λ f. Unshared (get_or st.table f.place None)) → MatchOption r (Misses (by_live_number n) st.table) (Finds (by_live_number n) st.table) → Lawful st (AnOk d) (on_ok n d r)
    ok_lawful None w h = (fresh_ok None w (spoken [] (ack_and_bye n d)) (unnumbered st.next [] (ack_and_bye n d)), declined_balanced st.pool n d)
    ok_lawful (Some x) w h =
        changes_at st _ _ x _ (fresh_ok (Some x.call) (subst Unshared h.here w) (accepts x.call n d x.call.sip) tt) h
        (accepts_keeps st.pool x.call (sound_at st _ x s h) n d (and_parts (by_number n x.call) (not (is_no_sip x.call.sip)) h.matches).0 x.call.sip refl)

    other_keeps : (v : ℕ) (media : Bool) (k : Call) → sides_agree k.exchange k.sip ≡ true → by_awaited_number n k ≡ true → Balanced st.pool (Some k) NoneOfThese (on_other v media k)
    other_keeps v media k good h =
        cond_both (leb Names.first_failure v) _ _ (Balanced st.pool (Some k) NoneOfThese)
        (λ _. fails_keeps st.pool NoneOfThese (λ t. refl) (λ d. refl) k good (cause_for v) (and_parts (by_number n k) (awaits_response k.sip) h).1)
        (λ _. provisional_keeps st.pool NoneOfThese (λ t. refl) (λ d. refl) k good v media k.sip refl)

    response_lawful : (v : ℕ) (media : Bool) → Lawful st (brought_by (Response n v d media)) (on_response st.table n v d media)
    response_lawful v media = by_status (eqb v _)
      where
        mine : Option Found
        mine = seek (by_live_number n) st.table

        by_status : (is_ok : Bool) → Lawful st (cond is_ok (AnOk d) NoneOfThese) (cond is_ok (accepted n d (seek (holds_dialogue d) st.table) mine) (cond (is_other_success v) (Reply [] (SipMessage.Ack n d ∷ [])) (at_call (λ k. Ok (on_other v media k)) (seek (by_awaited_number n) st.table))))
        by_status true = cond_both (another (seek (holds_dialogue d) st.table) mine) _ _ (Lawful st (AnOk d)) (λ _. tt) (λ e. ok_lawful mine (unshared (seek (holds_dialogue d) st.table) mine (seek_tells (holds_dialogue d) st.table) e) (seek_tells (by_live_number n) st.table))
        by_status false =
            cond_both (is_other_success v) _ _ (Lawful st NoneOfThese) (λ _. (fresh_answer st NoneOfThese (λ t. refl) (λ d. refl) _ _, acked_balanced st.pool n d))
            (λ _. called st s NoneOfThese (λ t. refl) (λ d. refl) (by_awaited_number n) (λ k. Ok (on_other v media k)) (other_keeps v media) _ (seek_tells (by_awaited_number n) st.table))

  roomed_lawful : (ev : Brought) (o : Outcome) → Lawful st ev o → Lawful st ev (roomed st o)
  roomed_lawful ev o l = cond_both (is_roomy st) _ _ (Lawful st ev) (λ _. l) (λ _. tt)

  -- octets bring a SETUP or nothing that counts
  octets_bring : (P : Brought → Type 0) → ((r : ℕ) → P (ASetup r)) → P NoneOfThese → (h : Result (Message DigitsPart) Misread) → P (brought_by_octets h)
  octets_bring P setup none (Err x) = none
  octets_bring P setup none (Ok m) = cond_both (is_setup m.kind) _ _ P (λ _. setup m.reference.number) (λ _. none)

  octets_lawful : (ch : Choice) → Fair st ch → (h : Result (Message DigitsPart) Misread) → Lawful st (brought_by_octets h) (on_octets st ch h)
  octets_lawful ch fair (Err x) = tt
  octets_lawful ch fair (Ok m) =
      let u = octets_bring Uninvited (λ r t. refl) (λ t. refl) (Ok m) in
      let q = octets_bring Quiet (λ r d. refl) (λ d. refl) (Ok m) in
      roomed_lawful (brought_by_octets (Ok m)) _ (message_lawful st (brought_by_octets (Ok m)) u q m (λ r. refl) ch fair s _ (seek_tells (by_reference m.reference) st.table))

  -- at the call that a search finds, an event of which nothing counts
  uncounted : (p : Call → Bool) (rule : Call → Result Effect Ground) → ((k : Call) → sides_agree k.exchange k.sip ≡ true → p k ≡ true → Keeps st.pool k NoneOfThese (rule k)) → Lawful st NoneOfThese (roomed st (at_call rule (seek p st.table)))
  uncounted p rule keeps = roomed_lawful NoneOfThese _ (called st s NoneOfThese (λ t. refl) (λ d. refl) p rule keeps _ (seek_tells p st.table))

  pub lawful : (ch : Choice) → Fair st ch → (ev : Event) → Lawful st (brought_by ev) (outcome st ch ev)
  lawful ch fair (Exchange xs) = octets_lawful ch fair (decoded xs)
  lawful ch fair (Invite t d xs) = roomed_lawful (AnInvite t d) _ (invite_lawful ch fair t d xs _ (seek (holds_dialogue d) st.table) (seek_tells (by_transaction t) st.table) (seek_tells (holds_dialogue d) st.table))
  lawful ch fair (Cancel t) = uncounted (by_transaction t) (λ k. Ok (leaves k)) (λ k good h. cancel_keeps st.pool k good t h)
  lawful ch fair (Bye d) = roomed_lawful (ABye d) _ (called st s (ABye d) (λ t. refl) (λ x. refl) (holds_dialogue d) (λ k. Ok (leaves k)) (λ k good h. bye_keeps st.pool k good d h) _ (seek_tells (holds_dialogue d) st.table))
  lawful ch fair (Response n v d media) = cond_both (is_status v) _ _ (Lawful st (brought_by (Response n v d media))) (λ _. roomed_lawful _ _ (response_lawful n d v media)) (λ _. tt)
  lawful ch fair (Expiry t r) = uncounted (by_reference r) (on_expiry t) (λ k good h. on_expiry_keeps st.pool NoneOfThese (λ t. refl) (λ d. refl) k good (live_by r k h) t)
  lawful ch fair (CancelExpiry n) = uncounted (by_number n) on_cancel_expiry (λ k good h. on_cancel_expiry_keeps st.pool NoneOfThese (λ t. refl) (λ d. refl) k good)
  lawful ch fair TakeExchange = tt
  lawful ch fair TakeSip = tt
