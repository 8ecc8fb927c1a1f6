-- Every run keeps the laws.
use Rattle.std.proofs.Common.{◌≡◌, ◌≢◌, ℕ, zero, suc, ◌+◌, ◌<◌, ◌≤◌, Bool, true, false, cond, not, ◌&&◌, ◌||◌, eqb, leb, ltb, ◌⊎◌, List, [], ◌∷◌, ◌++◌, length, get_or, drop, set, Some, None, Option, sym, refl, ap, ◌∙◌, subst, inl, inr, ⊎_elim, append_assoc, append-nil, arith}
use Rattle.std.proofs.lemmas.Bool.Decides.{nat_tests}
use Rattle.calls.specs.Records.{Message, SipMessage, Call, Digits, ExchangeSide, SipSide, ChannelState}
use Rattle.pools.specs.States.{States, idle, seized, after_any}
use Rattle.std.proofs.lemmas.Bool.{cond_both, cond-true, eq-eqb, eqb-true}
use Rattle.calls.specs.Sides.{named, equals_some, holds, owes, owes_from, on_call, sum_of, one_if, bye_in, holds_dialogue, is_in, is_over, is_invite_sent}
use Rattle.calls.specs.Effects.{Effect}
use Rattle.calls.specs.Rules.{Event, State, Outcome, Refuse, Reply, Change, TookExchange, TookSip, outcome, settled, first, freed, following}
use Rattle.calls.specs.Run.{Happening, happened, Opening, Run, opened, stepped}
use Rattle.calls.specs.Laws.{Laws, Brought, AnInvite, brought_by, invite_count, is_ok_on, is_bye_on, dialogue_after, seizures_of, releases_of, holders, owing, invites_taken, finals_sent, setups_taken, connects_sent, invites_sent, cancels_sent, last_dialogue, is_unended, sends, last_sent, Stands, OnChannel, InUse, puts_few, exchange_sent, exchange_gone, sip_sent, sip_gone}
use Rattle.std.specs.Option.{option_to_list}
use Rattle.std.specs.List.{list_all}
use Rattle.calls.specs.Standing.{Everywhere, sides_agree, SoundAt}
use Rattle.calls.proofs.Balance.{Balanced, Linked, LinkedAt, PresentAt, OriginAt, talks, keeper, may_connect, has_number, to_dial, uncancelled, new_number, claims, Asked}
use Rattle.calls.proofs.Places.{everywhere_at, everywhere_set, everywhere_none, sum_of_set, sum_of_none, sum_of_at, sum_of_le, counted, one_place}
use Rattle.calls.proofs.Steps.{Lawful, Fresh, HasNext, lawful, spoken}

-- a number that was given out
abbrev issued : ℕ → Option ℕ → ℕ
issued n None = 1
issued n (Some m) = one_if (ltb n m)

-- the laws, and what else a run keeps so that they follow
pub record Inv (pool : States) (past : List Happening) (st : State) : Type 0 where
  pub counts : (c : ℕ) → seizures_of c past ≡ releases_of c past + holders c st
  pub one : (c : ℕ) → holders c st ≤ 1
  pub shows : (c : ℕ) → st.pool c ≡ cond (eqb (holders c st) 0) (pool c) ChannelState.Seized
  pub free : (c : ℕ) → 0 < holders c st → pool c ≡ ChannelState.Idle
  pub invites_balance : (t : ℕ) → invites_taken t past ≡ finals_sent t past + owing t st
  pub owing_one : (t : ℕ) → owing t st ≤ 1
  pub dialogue_goes_on : (d : ℕ) → is_unended d past ≡ true → 0 < sum_of (talks d) st.table
  pub keeper_one : (d : ℕ) → sum_of (keeper d) st.table ≤ 1
  pub byes_end : (d : ℕ) → bye_in d (last_sent past) ≡ true → sum_of (keeper d) st.table ≡ 0
  pub invites_once : (n : ℕ) → invites_sent n past + sum_of (to_dial n) st.table ≤ issued n st.next
  pub cancels_once : (n : ℕ) → cancels_sent n past + sum_of (uncancelled n) st.table ≤ invites_sent n past
  pub few : list_all puts_few past ≡ true
  pub origins : Everywhere OriginAt st.table
  pub linked : Everywhere (LinkedAt (last_dialogue past)) st.table
  pub connects_were_asked : (r : ℕ) → connects_sent r past + sum_of (may_connect r) st.table ≤ setups_taken r past
  pub sound : Everywhere SoundAt st.table
  pub present : Everywhere PresentAt st.table
  pub exchange_queue : exchange_gone past ++ st.exchange ≡ exchange_sent past
  pub sip_queue : sip_gone past ++ st.sip ≡ sip_sent past

-- ---------------------------------------------------------------- the laws follow
seized_held : (p q : ChannelState) (h : ℕ) → h ≤ 1 → q ≡ cond (eqb h 0) p ChannelState.Seized → p ≡ ChannelState.Idle → q ≡ ChannelState.Seized → h ≡ 1
seized_held p q h o e i s = grind (arith, nat_tests)

held_seized : (p q : ChannelState) (h : ℕ) → q ≡ cond (eqb h 0) p ChannelState.Seized → h ≡ 1 → q ≡ ChannelState.Seized
held_seized p q h e o = grind (arith, nat_tests)

talks_keeps : (d : ℕ) (k : Call) → talks d k ≤ one_if (holds_dialogue d k)
talks_keeps d k = grind (arith, nat_tests)

proceeds_while_out : (k : Call) → sides_agree k.exchange k.sip ≡ true → is_invite_sent k.sip ≡ true → is_in ExchangeSide.Proceeding k.exchange ≡ true
proceeds_while_out k f e = grind (arith, nat_tests)

stands_at : (os : List (Option Call)) → Everywhere SoundAt os → Everywhere PresentAt os → (i : ℕ) (k : Call) → get_or os i None ≡ Some k → Stands k
stands_at os s p i k e =
    record { not_gone = subst PresentAt e (everywhere_at PresentAt tt os i p); invite_while_proceeding = proceeds_while_out k (subst SoundAt e (everywhere_at SoundAt refl os i s)) }

issued_once : (n : ℕ) (next : Option ℕ) → issued n next ≤ 1
issued_once n None = omega arith
issued_once n (Some m) = grind (arith, nat_tests)

busy_held : (p q : ChannelState) (h : ℕ) → q ≡ cond (eqb h 0) p ChannelState.Seized → p ≡ ChannelState.Idle → q ≢ ChannelState.Idle → 0 < h
busy_held p q zero e i n = absurd (n (e ∙ i))
busy_held p q (suc h) e i n = omega arith

-- a call counts as a holder of its own channel until that side has ended
on_its_channel : (k : Call) → is_over k.exchange ≡ false → holds k.channel k ≡ 1
on_its_channel k e = let s = eq-eqb k.channel k.channel refl in grind (arith, nat_tests)

holds_on : (c : ℕ) (k : Call) → 0 < holds c k → (is_over k.exchange ≡ false) × (k.channel ≡ c)
holds_on c k h = (grind (arith, nat_tests), grind (arith, nat_tests))

module _ (pool : States) (past : List Happening) (st : State) (v : Inv pool past st) where
  held_at : (i : ℕ) (k : Call) → get_or st.table i None ≡ Some k → (c : ℕ) → is_over k.exchange ≡ false → k.channel ≡ c → on_call (holds c) (get_or st.table i None) ≡ 1
  held_at i k e c live q = ap (on_call (holds c)) e ∙ ap (λ (x : ℕ). holds x k) (sym q) ∙ on_its_channel k live

  on_channel : (i : ℕ) (k : Call) → get_or st.table i None ≡ Some k → is_over k.exchange ≡ false → OnChannel pool past st k.channel
  on_channel i k e live =
      let c = k.channel in
      let one : holders c st ≡ 1 = omega (arith, v.one c, sum_of_at (holds c) st.table i, held_at i k e c live refl) in
      record { was_idle = v.free c (omega (arith, one)); is_seized = held_seized (pool c) (st.pool c) (holders c st) (v.shows c) one; once_more = omega (arith, v.counts c, one) }

  in_use : (c : ℕ) → pool c ≡ ChannelState.Idle → st.pool c ≢ ChannelState.Idle → InUse c st
  in_use c i n =
      let x = counted (holds c) st.table (busy_held (pool c) (st.pool c) (holders c st) (v.shows c) i n) in
      let w = holds_on c x.call x.counts in
      record {
        place = x.place;
        call = x.call;
        there = x.there;
        goes_on = w.0;
        channel = w.1;
        alone = λ j k e live q. one_place (holds c) st.table (v.one c) j x.place (omega (arith, held_at j k e c live q)) (omega (arith, held_at x.place x.call x.there c w.0 w.1));
      }

inv_laws : (pool : States) (past : List Happening) (st : State) → Inv pool past st → Laws pool past st
inv_laws pool past st v =
    record {
      seizures_balance = λ c _. v.counts c;
      one_holder = λ c _. v.one c;
      seized_is_held = λ c i s. seized_held (pool c) (st.pool c) (holders c st) (v.one c) (v.shows c) i s;
      held_is_seized = λ c i o. held_seized (pool c) (st.pool c) (holders c st) (v.shows c) o;
      channel_until_over = on_channel pool past st v;
      idle_or_in_use = in_use pool past st v;
      invites_balance = v.invites_balance;
      one_owing = v.owing_one;
      unended_is_held = λ d e. omega (arith, v.dialogue_goes_on d e, sum_of_le (talks d) (λ k. one_if (holds_dialogue d k)) (talks_keeps d) st.table);
      one_keeper = v.keeper_one;
      byes_end_dialogues = v.byes_end;
      invites_go_once = λ n. omega (arith, v.invites_once n, issued_once n st.next);
      cancels_follow_invites = λ n. omega (arith, v.cancels_once n);
      connects_were_asked = λ r. omega (arith, v.connects_were_asked r);
      two_at_most = v.few;
      calls_stand = stands_at st.table v.sound v.present;
      exchange_sent_in_order = v.exchange_queue;
      sip_sent_in_order = v.sip_queue;
    }

-- ---------------------------------------------------------------- the queues of a step
module _ {M : Type 0} (taken waits sent : List M) (e : taken ++ waits ≡ sent) where
  -- messages are put
  puts : (ms : List M) → (taken ++ []) ++ (waits ++ ms) ≡ sent ++ ms
  puts ms = ap (λ (l : List M). l ++ (waits ++ ms)) (append-nil taken) ∙ sym (append_assoc taken waits ms) ∙ ap (λ (l : List M). l ++ ms) e

  -- nothing is put or taken
  idles : (taken ++ []) ++ waits ≡ sent ++ []
  idles = ap (λ (l : List M). l ++ waits) (append-nil taken) ∙ e ∙ sym (append-nil sent)

-- the oldest is taken
takes : {M : Type 0} (taken waits sent : List M) → taken ++ waits ≡ sent → (taken ++ option_to_list (first waits)) ++ drop 1 waits ≡ sent ++ []
takes taken [] sent e = append-nil (taken ++ []) ∙ e ∙ sym (append-nil sent)
takes taken (m ∷ ms) sent e = append_assoc taken (m ∷ []) ms ∙ e ∙ sym (append-nil sent)

-- ---------------------------------------------------------------- the channels of a step
idle_is : (x : ChannelState) → idle x ≡ true → x ≡ ChannelState.Idle
idle_is x e = grind (arith, nat_tests)

-- what is shown of one channel
taken_one : (s : States) (o : Option ℕ) (c : ℕ) → after_any o s c ≡ cond (equals_some c o) ChannelState.Seized (s c)
taken_one s None c = refl
taken_one s (Some x) c = refl

freed_one : (s : States) (o : Option ℕ) (c : ℕ) → freed o s c ≡ cond (equals_some c o && seized (s c)) ChannelState.Idle (s c)
freed_one s None c = refl
freed_one s (Some x) c = go (eqb c x) (seized (s x)) (seized (s c)) (λ e. ap (λ k. seized (s k)) (sym (eqb-true c x e)))
  where
    go : (n a b : Bool) → (n ≡ true → a ≡ b) → cond a (cond n ChannelState.Idle (s c)) (s c) ≡ cond (n && b) ChannelState.Idle (s c)
    go n a b h = grind (arith, nat_tests)

pool_one : (s r : Bool) (h h' : ℕ) → one_if s + h ≡ one_if r + h' → (one_if s ≡ 1 → h ≡ 0) → h ≤ 1 → h' ≤ 1
pool_one s r h h' e i o = grind arith

pool_shows : (s r : Bool) (p p₀ : ChannelState) (h h' : ℕ) → one_if s + h ≡ one_if r + h' → (one_if s ≡ 1 → p ≡ ChannelState.Idle) → h ≤ 1 → p ≡ cond (eqb h 0) p₀ ChannelState.Seized → (0 < h → p₀ ≡ ChannelState.Idle) → (q : ChannelState) → q ≡ cond s ChannelState.Seized p → cond (r && seized q) ChannelState.Idle q ≡ cond (eqb h' 0) p₀ ChannelState.Seized
pool_shows s r p p₀ h h' e i o w f q z = grind (arith, nat_tests)

pool_free : (s r : Bool) (p p₀ : ChannelState) (h h' : ℕ) → one_if s + h ≡ one_if r + h' → (one_if s ≡ 1 → p ≡ ChannelState.Idle) → h ≤ 1 → p ≡ cond (eqb h 0) p₀ ChannelState.Seized → (0 < h → p₀ ≡ ChannelState.Idle) → 0 < h' → p₀ ≡ ChannelState.Idle
pool_free s r p p₀ h h' e i o w f l = grind (arith, nat_tests)

pool_none : (s : Bool) (p p₀ : ChannelState) (h : ℕ) → (one_if s ≡ 1 → p ≡ ChannelState.Idle) → p ≡ cond (eqb h 0) p₀ ChannelState.Seized → one_if s ≡ 1 → h ≡ 0
pool_none s p p₀ h i w e = grind (arith, nat_tests)

invite_count_le : (t : ℕ) (ev : Brought) → invite_count t ev ≤ 1
invite_count_le t (AnInvite x d) = grind (arith, nat_tests)
invite_count_le t _ = omega arith

none_or_one : (n : ℕ) → n ≤ 1 → (n ≡ 0) ⊎ (n ≡ 1)
none_or_one zero h = inl refl
none_or_one (suc n) h = inr (omega (arith, h))

-- ---------------------------------------------------------------- the last INVITE of a transaction
link_asked : (ev : Brought) (t d : ℕ) (before : Option ℕ) → (invite_count t ev ≡ 1 → ⊥) → before ≡ Some d → dialogue_after t ev before ≡ Some d
link_asked (AnInvite x y) t d before n e = cond_both (eqb x t) _ _ (λ o. o ≡ Some d) (λ z. absurd (n (ap one_if z))) (λ _. e)
link_asked _ t d before n e = e

abbrev next : Brought → (ℕ → Option ℕ) → ℕ → Option ℕ
next ev last t = dialogue_after t ev (last t)

owes_itself : (t : ℕ) (d : ℕ) → owes_from t (SipSide.InviteUnanswered t d) ≡ 1
owes_itself t d = grind (arith, nat_tests)

link_side : (ev : Brought) (last : ℕ → Option ℕ) (g : SipSide) → ((t : ℕ) → invite_count t ev ≡ 1 → owes_from t g ≡ 0) → Linked last g → Linked (next ev last) g
link_side ev last SipSide.None f l = tt
link_side ev last (SipSide.InviteSent x) f l = tt
link_side ev last (SipSide.InviteUnanswered t d) f l = link_asked ev t d (last t) (λ e. omega (arith, f t e, owes_itself t d)) l
link_side ev last (SipSide.Up d) f l = tt
link_side ev last SipSide.CancelSent f l = tt

links : (ev : Brought) (last : ℕ → Option ℕ) (os : List (Option Call)) → ((t : ℕ) → invite_count t ev ≡ 1 → sum_of (owes t) os ≡ 0) → Everywhere (LinkedAt last) os → Everywhere (LinkedAt (next ev last)) os
links ev last [] f l = tt
links ev last (None ∷ os) f l = (tt, links ev last os (λ t e. omega (arith, f t e)) l.1)
links ev last (Some k ∷ os) f l = (link_side ev last k.sip (λ t e. omega (arith, f t e)) l.0, links ev last os (λ t e. omega (arith, f t e)) l.1)

asked_now : (ev : Brought) (last : ℕ → Option ℕ) → Asked (next ev last) ev
asked_now (AnInvite t d) last = cond-true (eqb t t) (Some d) (last t) (eq-eqb t t refl)
asked_now _ last = tt

-- ---------------------------------------------------------------- a step
-- what an unended dialogue says of the last step
ended_cases : (b l c s u : Bool) → (not (b || l) && ((c || s) || u)) ≡ true → (b ≡ false) × (l ≡ false) × ((c ≡ true) ⊎ ((s ≡ true) ⊎ (u ≡ true)))
ended_cases b l c s u e = grind (arith, nat_tests)

-- ---------------------------------------------------------------- the dialogues, the numbers and the messages of a step
keeper_at : (d : ℕ) (o : Option Call) → on_call (keeper d) o ≤ 1
keeper_at d None = omega arith
keeper_at d (Some k) = grind (arith, nat_tests)

kept_once : (claimed : Bool) (before old new : ℕ) → new ≤ 1 → before ≤ 1 → (claimed ≡ true → before ≤ old) → (claimed ≡ false → new ≤ old) → (after : ℕ) → after + old ≡ before + new → after ≤ 1
kept_once true before old new n b c k after e = omega (arith, n, b, c refl, e)
kept_once false before old new n b c k after e = omega (arith, n, b, k refl, e)

ended_at : (claimed : Bool) (before old new : ℕ) → before ≤ 1 → (claimed ≡ true → before ≤ old) → new ≡ 0 → (claimed ≡ false → old ≡ 1) → (after : ℕ) → after + old ≡ before + new → after ≡ 0
ended_at true before old new b c n k after e = omega (arith, n, b, c refl, e)
ended_at false before old new b c n k after e = omega (arith, n, b, k refl, e)

following_issued : (n : ℕ) (numbered : Bool) (next : Option ℕ) → issued n next + one_if (numbered && equals_some n next) ≤ issued n (following numbered next)
following_issued n false next = omega arith
following_issued n true None = omega arith
following_issued n true (Some m) = cond_both (ltb m 18446744073709551615) _ _ (λ (o : Option ℕ). issued n (Some m) + one_if (eqb n m) ≤ issued n o) (λ _. grind (arith, nat_tests)) (λ _. grind (arith, nat_tests))

new_issued : (n : ℕ) (next : Option ℕ) (old : Option Call) (e : Effect) → HasNext next old e → issued n next + new_number n old e ≤ issued n (following e.numbered next)
new_issued n next (Some k) e h = omega (arith, following_issued n e.numbered next)
new_issued n next None e h = go e.numbered (λ z. h z n)
  where
    go : (b : Bool) → (b ≡ true → on_call (has_number n) e.after ≤ named n next) → issued n next + cond b (on_call (has_number n) e.after) 0 ≤ issued n (following b next)
    go true w = omega (arith, following_issued n true next, w refl)
    go false w = omega (arith, following_issued n false next)

few_more : (ms : List (Message Digits)) (ss : List SipMessage) (past : List Happening) → length ms ≤ 2 → length ss ≤ 2 → list_all puts_few past ≡ true → ((leb (length ms) 2 && leb (length ss) 2) && list_all puts_few past) ≡ true
few_more ms ss past a b c = grind (arith, nat_tests)

module _ (pool : States) (past : List Happening) (st : State) (v : Inv pool past st) (event : Event) where
  abbrev ev : Brought
  ev = brought_by event

  refused : (r : _) → Inv pool (happened st event (Refuse r) ∷ past) (settled st (Refuse r))
  refused r =
      record { counts = λ c. omega (arith, v.counts c); one = v.one; shows = v.shows; free = v.free; invites_balance = λ t. omega (arith, v.invites_balance t); owing_one = v.owing_one; dialogue_goes_on = v.dialogue_goes_on; keeper_one = v.keeper_one; byes_end = λ d e. absurd (grind arith); invites_once = λ n. omega (arith, v.invites_once n); cancels_once = λ n. omega (arith, v.cancels_once n); few = v.few; origins = v.origins; linked = v.linked; connects_were_asked = λ x. omega (arith, v.connects_were_asked x); sound = v.sound; present = v.present; exchange_queue = idles (exchange_gone past) st.exchange (exchange_sent past) v.exchange_queue; sip_queue = idles (sip_gone past) st.sip (sip_sent past) v.sip_queue }

  took_exchange : Inv pool (happened st event TookExchange ∷ past) (settled st TookExchange)
  took_exchange =
      record { counts = λ c. omega (arith, v.counts c); one = v.one; shows = v.shows; free = v.free; invites_balance = λ t. omega (arith, v.invites_balance t); owing_one = v.owing_one; dialogue_goes_on = v.dialogue_goes_on; keeper_one = v.keeper_one; byes_end = λ d e. absurd (grind arith); invites_once = λ n. omega (arith, v.invites_once n); cancels_once = λ n. omega (arith, v.cancels_once n); few = v.few; origins = v.origins; linked = v.linked; connects_were_asked = λ x. omega (arith, v.connects_were_asked x); sound = v.sound; present = v.present; exchange_queue = takes (exchange_gone past) st.exchange (exchange_sent past) v.exchange_queue; sip_queue = idles (sip_gone past) st.sip (sip_sent past) v.sip_queue }

  took_sip : Inv pool (happened st event TookSip ∷ past) (settled st TookSip)
  took_sip =
      record { counts = λ c. omega (arith, v.counts c); one = v.one; shows = v.shows; free = v.free; invites_balance = λ t. omega (arith, v.invites_balance t); owing_one = v.owing_one; dialogue_goes_on = v.dialogue_goes_on; keeper_one = v.keeper_one; byes_end = λ d e. absurd (grind arith); invites_once = λ n. omega (arith, v.invites_once n); cancels_once = λ n. omega (arith, v.cancels_once n); few = v.few; origins = v.origins; linked = v.linked; connects_were_asked = λ x. omega (arith, v.connects_were_asked x); sound = v.sound; present = v.present; exchange_queue = idles (exchange_gone past) st.exchange (exchange_sent past) v.exchange_queue; sip_queue = takes (sip_gone past) st.sip (sip_sent past) v.sip_queue }

  abbrev last : ℕ → Option ℕ
  last = next ev (last_dialogue past)

  module _ (ms : List (Message Digits)) (ss : List SipMessage) (f : Fresh st ev None (spoken ms ss)) (b : Balanced st.pool None ev (spoken ms ss)) where
    replied_talks : (d : ℕ) → is_unended d (happened st event (Reply ms ss) ∷ past) ≡ true → 0 < sum_of (talks d) st.table
    replied_talks d e =
        let w = ended_cases (bye_in d ss) (is_bye_on d ev) (is_ok_on d ev) (sends d last ss) (is_unended d past) e in
        ⊎_elim (λ c. absurd (omega (arith, (b.dialogues d w.0).1 c))) (⊎_elim (λ s. absurd (omega (arith, (b.answered last tt).0 d s))) (v.dialogue_goes_on d)) w.2

    replied_ends : (d : ℕ) → bye_in d ss ≡ true → sum_of (keeper d) st.table ≡ 0
    replied_ends d e = ended_at (claims d ev) (sum_of (keeper d) st.table) 0 0 (v.keeper_one d) (f.dialogue v.keeper_one d) (b.byes tt d e).0 (b.byes tt d e).1 (sum_of (keeper d) st.table) refl

    replied : Inv pool (happened st event (Reply ms ss) ∷ past) (settled st (Reply ms ss))
    replied =
        record { counts = λ c. omega (arith, v.counts c); one = v.one; shows = v.shows; free = v.free; invites_balance = λ t. omega (arith, v.invites_balance t, b.invites t); owing_one = v.owing_one; dialogue_goes_on = replied_talks; keeper_one = v.keeper_one; byes_end = replied_ends; invites_once = λ n. omega (arith, v.invites_once n, (b.numbers n).0); cancels_once = λ n. omega (arith, v.cancels_once n, (b.numbers n).1); few = few_more ms ss past b.few.0 b.few.1 v.few; origins = v.origins; linked = links ev (last_dialogue past) st.table f.transaction v.linked; connects_were_asked = λ x. omega (arith, v.connects_were_asked x, b.connects x); sound = v.sound; present = v.present; exchange_queue = puts (exchange_gone past) st.exchange (exchange_sent past) v.exchange_queue ms; sip_queue = puts (sip_gone past) st.sip (sip_sent past) v.sip_queue ss }

  module _ (i : ℕ) (e : Effect) (f : Fresh st ev (get_or st.table i None) e) (inside : i < length st.table) (b : Balanced st.pool (get_or st.table i None) ev e) where
    abbrev old : Option Call
    old = get_or st.table i None

    abbrev after : List (Option Call)
    after = set st.table i e.after

    changed : (g : Call → ℕ) → sum_of g after + on_call g old ≡ sum_of g st.table + on_call g e.after
    changed g = sum_of_set g st.table i e.after inside

    level : (c : ℕ) → named c e.seized + holders c st ≡ named c e.released + sum_of (holds c) after
    level c = omega (arith, changed (holds c), (b.channels c).0)

    was_idle : (c : ℕ) → named c e.seized ≡ 1 → st.pool c ≡ ChannelState.Idle
    was_idle c h = idle_is (st.pool c) ((b.channels c).1 h)

    moved_one : (c : ℕ) → sum_of (holds c) after ≤ 1
    moved_one c = pool_one (equals_some c e.seized) (equals_some c e.released) (holders c st) (sum_of (holds c) after) (level c) (pool_none (equals_some c e.seized) (st.pool c) (pool c) (holders c st) (was_idle c) (v.shows c)) (v.one c)

    moved_owing : (t : ℕ) → sum_of (owes t) after ≤ 1
    moved_owing t =
        ⊎_elim (λ z. omega (arith, z, v.owing_one t, changed (owes t), b.invites t)) (λ z. omega (arith, z, f.transaction t z, changed (owes t), b.invites t, sum_of_at (owes t) st.table i)) (none_or_one (invite_count t ev) (invite_count_le t ev))

    relinked : Everywhere (LinkedAt last) st.table
    relinked = links ev (last_dialogue past) st.table f.transaction v.linked

    old_linked : LinkedAt last old
    old_linked = everywhere_at (LinkedAt last) tt st.table i relinked

    moved_talks : (d : ℕ) → is_unended d (happened st event (Change i e) ∷ past) ≡ true → 0 < sum_of (talks d) after
    moved_talks d h =
        let w = ended_cases (bye_in d e.sip) (is_bye_on d ev) (is_ok_on d ev) (sends d last e.sip) (is_unended d past) h in
        let step = changed (talks d) in
        let low = sum_of_at (talks d) st.table i in
        ⊎_elim (λ c. omega (arith, (b.dialogues d w.0).1 c, step, low)) (⊎_elim (λ s. omega (arith, (b.answered last old_linked).0 d s, step, low)) (λ u. omega (arith, v.dialogue_goes_on d u, (b.dialogues d w.0).0 w.1, step))) w.2

    moved_keepers : (d : ℕ) → sum_of (keeper d) after ≤ 1
    moved_keepers d =
        kept_once (claims d ev) (sum_of (keeper d) st.table) (on_call (keeper d) old) (on_call (keeper d) e.after) (keeper_at d e.after) (v.keeper_one d) (f.dialogue v.keeper_one d) (b.keepers d) (sum_of (keeper d) after) (changed (keeper d))

    old_origin : OriginAt old
    old_origin = everywhere_at OriginAt tt st.table i v.origins

    moved_ends : (d : ℕ) → bye_in d e.sip ≡ true → sum_of (keeper d) after ≡ 0
    moved_ends d h =
        let w = b.byes old_origin d h in
        ended_at (claims d ev) (sum_of (keeper d) st.table) (on_call (keeper d) old) (on_call (keeper d) e.after) (v.keeper_one d) (f.dialogue v.keeper_one d) w.0 w.1 (sum_of (keeper d) after) (changed (keeper d))

    moves : Inv pool (happened st event (Change i e) ∷ past) (settled st (Change i e))
    moves =
        record {
          counts = λ c. omega (arith, v.counts c, changed (holds c), (b.channels c).0);
          one = moved_one;
          shows = λ c. freed_one (after_any e.seized st.pool) e.released c ∙ pool_shows (equals_some c e.seized) (equals_some c e.released) (st.pool c) (pool c) (holders c st) (sum_of (holds c) after) (level c) (was_idle c) (v.one c) (v.shows c) (v.free c) _ (taken_one st.pool e.seized c);
          free = λ c. pool_free (equals_some c e.seized) (equals_some c e.released) (st.pool c) (pool c) (holders c st) (sum_of (holds c) after) (level c) (was_idle c) (v.one c) (v.shows c) (v.free c);
          invites_balance = λ t. omega (arith, v.invites_balance t, changed (owes t), b.invites t);
          owing_one = moved_owing;
          dialogue_goes_on = moved_talks;
          keeper_one = moved_keepers;
          byes_end = moved_ends;
          invites_once = λ n. omega (arith, v.invites_once n, changed (to_dial n), (b.numbers n).0, new_issued n st.next old e f.number);
          cancels_once = λ n. omega (arith, v.cancels_once n, changed (uncancelled n), (b.numbers n).1);
          few = few_more e.exchange e.sip past b.few.0 b.few.1 v.few;
          origins = everywhere_set OriginAt st.table i e.after v.origins (b.origin old_origin);
          linked = everywhere_set (LinkedAt last) st.table i e.after relinked ((b.answered last old_linked).1 (asked_now ev (last_dialogue past)));
          connects_were_asked = λ x. omega (arith, v.connects_were_asked x, changed (may_connect x), b.connects x);
          sound = everywhere_set SoundAt st.table i e.after v.sound b.stands.0;
          present = everywhere_set PresentAt st.table i e.after v.present b.stands.1;
          exchange_queue = puts (exchange_gone past) st.exchange (exchange_sent past) v.exchange_queue e.exchange;
          sip_queue = puts (sip_gone past) st.sip (sip_sent past) v.sip_queue e.sip;
        }

  step : (o : Outcome) → Lawful st ev o → Inv pool (happened st event o ∷ past) (settled st o)
  step (Refuse r) l = refused r
  step (Reply ms ss) l = replied ms ss l.0 l.1
  step (Change i e) l = moves i e l.0 l.1 l.2
  step TookExchange l = took_exchange
  step TookSip l = took_sip

-- ---------------------------------------------------------------- the opening
at_opening : (st : State) → Opening st → Inv st.pool [] st
at_opening st o =
    let no : (f : Call → ℕ) → sum_of f st.table ≡ 0 = λ f. ap (sum_of f) o.calls ∙ sum_of_none f 64 in
    record {
      counts = λ c. omega (arith, no (holds c));
      one = λ c. omega (arith, no (holds c));
      shows = λ c. sym (cond-true (eqb (holders c st) 0) (st.pool c) ChannelState.Seized (eq-eqb (holders c st) 0 (no (holds c))));
      free = λ c h. absurd (omega (arith, no (holds c), h));
      invites_balance = λ t. omega (arith, no (owes t));
      owing_one = λ t. omega (arith, no (owes t));
      dialogue_goes_on = λ d e. absurd (grind arith);
      keeper_one = λ d. omega (arith, no (keeper d));
      byes_end = λ d e. no (keeper d);
      invites_once = λ n. omega (arith, no (to_dial n));
      cancels_once = λ n. omega (arith, no (uncancelled n));
      few = refl;
      origins = subst (Everywhere OriginAt) (sym o.calls) (everywhere_none OriginAt tt 64);
      linked = subst (Everywhere (LinkedAt (last_dialogue []))) (sym o.calls) (everywhere_none (LinkedAt (last_dialogue [])) tt 64);
      connects_were_asked = λ r. omega (arith, no (may_connect r));
      sound = subst (Everywhere SoundAt) (sym o.calls) (everywhere_none SoundAt refl 64);
      present = subst (Everywhere PresentAt) (sym o.calls) (everywhere_none PresentAt tt 64);
      exchange_queue = o.exchange;
      sip_queue = o.sip;
    }

run_inv : (start : State) → Opening start → {past : List Happening} {st : State} → Run start past st → Inv start.pool past st
run_inv start o opened = at_opening start o
run_inv start o (stepped {past = past} {st = st} ch ev fair r) =
    let v = run_inv start o r in
    step start.pool past st v ev (outcome st ch ev) (lawful st v.sound ch fair ev)

pub run_laws : (start : State) → Opening start → (past : List Happening) (st : State) → Run start past st → Laws start.pool past st
run_laws start o past st r = inv_laws start.pool past st (run_inv start o r)
