-- The refused channel, step by step over a pool of 7 and 9: which channels it takes, and so every answer and where the pool ends.
use Rattle.std.proofs.Common.{◌≡◌, ℕ, ◌<◌, Bool, true, false, cond, ltb, true≢false, List, [], ◌∷◌, ◌++◌, drop, set, replicate, Some, None, Option, refl, ap, ◌∙◌, subst, lit≤}
use Rattle.messages.specs.Elements.{DigitsPart, bare}
use Rattle.pools.specs.States.{States, idle, seized, after_any, AnyWasIdle}
use Rattle.turn_pool.specs.declared.turns.TurnPool.{TurnPool}
use Rattle.turn_pool.specs.Lists as lists
use Rattle.turn_pool.specs.Moves.{shown}
use Rattle.turn_pool.specs.Turns.{idle_order, seized_ones, states, joined, Seizes, SeizesAny, Releases}
use Rattle.messages.specs.declared.kind.MessageType.{MessageType}
use Rattle.messages.specs.declared.record.Message.{Message}
use Rattle.calls.specs.declared.answers.Answer.{Answer}
use Rattle.calls.specs.declared.answers.Timer.{Timer}
use Rattle.calls.specs.declared.outgoing.SipMessage.{SipMessage}
use Rattle.calls.specs.declared.record.Call.{Call}
use Rattle.calls.specs.declared.record.Digits.{Digits}
use Rattle.calls.specs.declared.record.Found.{Found}
use Rattle.calls.specs.Effects.{invite_call, invited, tries_again}
use Rattle.calls.specs.Rules.{Event, Exchange, Invite, TakeExchange, TakeSip, State, Choice, FreePlace, Change, first, seek, by_reference, on_message, outcome, settled, answer_of, Stepped}
use Rattle.calls.specs.Examples.{opened, digits, unavailable, report, setup, exchange_takes, another_events, another_answers}
use Rattle.calls.proofs.Always.{Way, way, seek_alone}
use Rattle.call_table.specs.Moves.{Took, GaveBack}
use Rattle.gateway.specs.PoolMoves.{wish_of, seized_by, released_by}
use Rattle.worked_examples.specs.Turns.{Moved, MovedBy, AlwaysOnNine}

-- the pool's moves with an answer
abbrev Takes : Answer → TurnPool → TurnPool → Type 0
Takes a before between = Took Seizes SeizesAny None before (seized_by a) between

abbrev Gives : Answer → TurnPool → TurnPool → Type 0
Gives a between after = GaveBack states Releases between (released_by a) after

-- the call on channel c
abbrev on_channel : ℕ → Call
on_channel c = invite_call 30 70 digits c

-- after the INVITE: the call on 7 stands alone at place i
abbrev on_seven : ℕ → States → State
on_seven i pool =
    record { table = set (replicate 64 None) i (Some (on_channel 7)); pool = after_any (Some 7) pool; exchange = setup 7 ∷ []; sip = []; exchange_places = 8; sip_places = 8; next = Some 1; full = 20 }

inside_some : (a b : ℕ) → Some a ≡ Some b → a ≡ b
inside_some a b e = cc

-- the longest idle is taken
taken_first : (p q : TurnPool) (c d : ℕ) (ds : List ℕ) → SeizesAny p (Some c) q → idle_order p ≡ d ∷ ds → c ≡ d
taken_first p q c d ds m e = inside_some c d (m.0 ∙ ap lists.first e)

-- ---------------------------------------------------------------- the INVITE
record Begun (a : Answer) (st : State) (p0 p1 : TurnPool) : Type 0 where
  answer : a ≡ report (Some 7) None (Some Timer.T303)
  place : ℕ
  inside : place < 64
  after : st ≡ on_seven place (states p0)
  waits : idle_order p1 ≡ 9 ∷ []
  taken : seized_ones p1 ≡ 7 ∷ []

module _ (p0 : TurnPool) (waits : idle_order p0 ≡ 7 ∷ 9 ∷ []) (taken : seized_ones p0 ≡ []) where
  module _ (between p1 : TurnPool) (a : Answer) (st : State) (t : Takes a p0 between) (g : Gives a between p1) where
    invited_on : (i c : ℕ) → i < 64 → a ≡ report (Some c) None (Some Timer.T303) → st ≡ settled (opened (states p0)) (Change i (invited 30 70 digits c)) → Begun a st p0 p1
    invited_on i c inside e after =
        let m : SeizesAny p0 (Some c) between = subst (λ (x : Answer). Takes x p0 between) e t in
        let kept : p1 ≡ between = subst (λ (x : Answer). Gives x between p1) e g in
        let z : c ≡ 7 = taken_first p0 between c 7 (9 ∷ []) m waits in
        record {
          answer = e ∙ ap (λ (x : ℕ). report (Some x) None (Some Timer.T303)) z;
          place = i;
          inside = inside;
          after = after ∙ ap (λ (x : ℕ). settled (opened (states p0)) (Change i (invited 30 70 digits x))) z;
          waits = ap idle_order kept ∙ m.1 ∙ ap lists.rest waits;
          taken = ap seized_ones kept ∙ m.2 ∙ ap (λ (l : List ℕ). joined l (Some c)) taken ∙ ap (λ (x : ℕ). x ∷ []) z;
        }

    begun_by : (pick place : Option ℕ) → AnyWasIdle pick (states p0) → FreePlace (replicate 64 None) place → a ≡ answer_of (opened (states p0)) (outcome (opened (states p0)) (record { pick = pick; place = place }) (Invite 30 70 digits)) → st ≡ settled (opened (states p0)) (outcome (opened (states p0)) (record { pick = pick; place = place }) (Invite 30 70 digits)) → Begun a st p0 p1
    begun_by pick None i f e s = absurd (f 0 (lit≤ tt) refl)
    begun_by None (Some place) i f e s = absurd (true≢false (subst (λ (l : List ℕ). idle (shown l (seized_ones p0) 7) ≡ false) waits (i 7)))
    begun_by (Some c) (Some place) i f e s = invited_on place c f.0 e s

    begun : Stepped (opened (states p0)) (Invite 30 70 digits) a st → Begun a st p0 p1
    begun d = begun_by d.choice.pick d.choice.place d.fair.pick d.fair.place d.answer d.after

-- ---------------------------------------------------------------- RELEASE COMPLETE
record OnNine (a : Answer) (st : State) (p2 : TurnPool) : Type 0 where
  answer : a ≡ report (Some 9) (Some 7) (Some Timer.T303)
  exchange : st.exchange ≡ setup 7 ∷ setup 9 ∷ []
  sip : st.sip ≡ []
  waits : idle_order p2 ≡ 7 ∷ []
  taken : seized_ones p2 ≡ 9 ∷ []

abbrev refusal : Message DigitsPart
refusal =
    record { reference = record { flag = true; number = 7 }; kind = MessageType.ReleaseComplete; elements = record bare { cause = Some (record { value = 44; location = 0 }) } }

-- 7 goes back to the end of the idle ones
given_back : (between p2 : TurnPool) → idle_order between ≡ [] → seized_ones between ≡ 7 ∷ 9 ∷ [] → GaveBack states Releases between (Some 7) p2 → (idle_order p2 ≡ 7 ∷ []) × (seized_ones p2 ≡ 9 ∷ [])
given_back between p2 w t g =
    let granted : seized (states between 7) ≡ true = g.0 ∙ ap (λ (l : List ℕ). ltb 0 (lists.times 7 l)) t in (
      g.2 ∙ ap (λ (b : Bool). cond b (idle_order between ++ 7 ∷ []) (idle_order between)) granted ∙ ap (λ (l : List ℕ). l ++ 7 ∷ []) w,
      g.1 ∙ ap (λ (b : Bool). cond b (lists.without 7 (seized_ones between)) (seized_ones between)) granted ∙ ap (lists.without 7) t,
    )

module _ (p0 : TurnPool) (first_waits : idle_order p0 ≡ 7 ∷ 9 ∷ []) (i : ℕ) (inside : i < 64) where
  abbrev there : State
  there = on_seven i (states p0)

  found : seek (by_reference refusal.reference) there.table ≡ Some (record { place = i; call = on_channel 7 })
  found = seek_alone (by_reference refusal.reference) 64 i (on_channel 7) inside

  -- what the rules make of the refusal where channel c is picked
  abbrev again : ℕ → State
  again c = settled there (Change i (tries_again (Some c) (on_channel 7)))

  module _ (p1 between p2 : TurnPool) (waits : idle_order p1 ≡ 9 ∷ []) (taken : seized_ones p1 ≡ 7 ∷ []) (a : Answer) (st : State) (t : Takes a p1 between) (g : Gives a between p2) where
    moved_on : (c : ℕ) → a ≡ report (Some c) (Some 7) (Some Timer.T303) → st ≡ again c → OnNine a st p2
    moved_on c e after =
        let m : SeizesAny p1 (Some c) between = subst (λ (x : Answer). Takes x p1 between) e t in
        let back : GaveBack states Releases between (Some 7) p2 = subst (λ (x : Answer). Gives x between p2) e g in
        let z : c ≡ 9 = taken_first p1 between c 9 [] m waits in
        let w = given_back between p2 (m.1 ∙ ap lists.rest waits) (m.2 ∙ ap (λ (l : List ℕ). joined l (Some c)) taken ∙ ap (λ (x : ℕ). 7 ∷ x ∷ []) z) back in
        let s : st ≡ again 9 = after ∙ ap again z in
        record {
          answer = e ∙ ap (λ (x : ℕ). report (Some x) (Some 7) (Some Timer.T303)) z;
          exchange = ap (λ (x : State). x.exchange) s;
          sip = ap (λ (x : State). x.sip) s;
          waits = w.0;
          taken = w.1;
        }

    moved_by : (ch : Choice) → AnyWasIdle ch.pick there.pool → a ≡ answer_of there (outcome there ch (Exchange unavailable)) → st ≡ settled there (outcome there ch (Exchange unavailable)) → OnNine a st p2
    moved_by ch f e s =
        by_pick ch.pick f (e ∙ ap (λ (r : Option Found). answer_of there (on_message there ch refusal r)) found) (s ∙ ap (λ (r : Option Found). settled there (on_message there ch refusal r)) found)
      where
        by_pick : (pick : Option ℕ) → AnyWasIdle pick there.pool → a ≡ answer_of there (Change i (tries_again pick (on_channel 7))) → st ≡ settled there (Change i (tries_again pick (on_channel 7))) → OnNine a st p2
        by_pick None f e s = absurd (true≢false (subst (λ (l : List ℕ). idle (shown l (seized_ones p0) 9) ≡ false) first_waits (f 9)))
        by_pick (Some c) f e s = moved_on c e s

    moved : Stepped there (Exchange unavailable) a st → OnNine a st p2
    moved d = moved_by d.choice d.fair.pick d.answer d.after

-- ---------------------------------------------------------------- the messages are taken
taken_exchange : (st st' : State) (a : Answer) (ms : List (Message Digits)) → st.exchange ≡ ms → Stepped st TakeExchange a st' → (a ≡ Answer.Exchange (first ms)) × (st'.exchange ≡ drop 1 ms) × (st'.sip ≡ st.sip)
taken_exchange st st' a ms e d =
    (d.answer ∙ ap (λ (l : List (Message Digits)). Answer.Exchange (first l)) e, ap (λ (x : State). x.exchange) d.after ∙ ap (drop 1) e, ap (λ (x : State). x.sip) d.after)

taken_sip : (st st' : State) (a : Answer) → st.sip ≡ [] → Stepped st TakeSip a st' → a ≡ Answer.Sip None
taken_sip st st' a e d = d.answer ∙ ap (λ (l : List SipMessage). Answer.Sip (first l)) e

-- ---------------------------------------------------------------- steps and moves together, from the first on
record Next (st : State) (p : TurnPool) (ev : Event) (given : List Answer) (GoesOn : State → TurnPool → List Answer → Type 0) : Type 0 where
  answer : Answer
  next : State
  others : List Answer
  is : given ≡ answer ∷ others
  step : Stepped st ev answer next
  move : Moved (wish_of ev) answer p (λ after. GoesOn next after others)

abbrev Both : State → TurnPool → List Event → List Answer → TurnPool → Type 0
Both st p [] given q = (given ≡ []) × (q ≡ p)
Both st p (ev ∷ evs) given q = Next st p ev given (λ next after others. Both next after evs others q)

both : (st : State) (p : TurnPool) (evs : List Event) (given : List Answer) (end : State) (q : TurnPool) → Way st evs given end → MovedBy p evs given q → Both st p evs given q
both st p [] given end q w m = (w.0, subst (λ (l : List Answer). MovedBy p [] l q) w.0 m)
both st p (ev ∷ evs) given end q w m =
    let o = outcome st w.choice ev in
    let n : Moved (wish_of ev) (answer_of st o) p (λ after. MovedBy after evs w.others q) = subst (λ (l : List Answer). MovedBy p (ev ∷ evs) l q) w.answer m in
    record {
      answer = answer_of st o;
      next = settled st o;
      others = w.others;
      is = w.answer;
      step = record { choice = w.choice; fair = w.fair; answer = refl; after = refl };
      move = record { between = n.between; after = n.after; took = n.took; gave_back = n.gave_back; goes_on = both (settled st o) n.after evs w.others end q w.rest n.goes_on };
    }

-- after the two steps that move the pool, the four that take a message leave it
pub moved_by_two : (p0 between1 p1 between2 p2 : TurnPool) (a1 a2 : Answer) (m1 m2 m3 : Option (Message Digits)) (m4 : Option SipMessage) → Takes a1 p0 between1 → Gives a1 between1 p1 → Takes a2 p1 between2 → Gives a2 between2 p2 → MovedBy p0 another_events (a1 ∷ a2 ∷ Answer.Exchange m1 ∷ Answer.Exchange m2 ∷ Answer.Exchange m3 ∷ Answer.Sip m4 ∷ []) p2
moved_by_two p0 between1 p1 between2 p2 a1 a2 m1 m2 m3 m4 t1 g1 t2 g2 =
    record {
      between = between1;
      after = p1;
      took = t1;
      gave_back = g1;
      goes_on =
          record {
            between = between2;
            after = p2;
            took = t2;
            gave_back = g2;
            goes_on =
                record {
                  between = p2;
                  after = p2;
                  took = refl;
                  gave_back = refl;
                  goes_on =
                      record {
                        between = p2;
                        after = p2;
                        took = refl;
                        gave_back = refl;
                        goes_on =
                            record {
                              between = p2;
                              after = p2;
                              took = refl;
                              gave_back = refl;
                              goes_on =
                                  record { between = p2; after = p2; took = refl; gave_back = refl; goes_on = refl };
                            };
                      };
                };
          };
    }

-- an answer that names no channel
kept : (a b : Answer) (p between after : TurnPool) → a ≡ b → seized_by b ≡ None → released_by b ≡ None → Takes a p between → Gives a between after → after ≡ p
kept a b p between after e s r t g =
    subst (λ (o : Option ℕ). GaveBack states Releases between o after) (ap released_by e ∙ r) g ∙ subst (λ (o : Option ℕ). Took Seizes SeizesAny None p o between) (ap seized_by e ∙ s) t

-- ---------------------------------------------------------------- all of it
as_told : (a1 a2 a3 a4 a5 a6 : Answer) → a1 ≡ report (Some 7) None (Some Timer.T303) → a2 ≡ report (Some 9) (Some 7) (Some Timer.T303) → a3 ≡ exchange_takes (setup 7) → a4 ≡ exchange_takes (setup 9) → a5 ≡ Answer.Exchange None → a6 ≡ Answer.Sip None → ◌≡◌ {A = List Answer} (a1 ∷ a2 ∷ a3 ∷ a4 ∷ a5 ∷ a6 ∷ []) another_answers
as_told a1 a2 a3 a4 a5 a6 x1 x2 x3 x4 x5 x6 = λ j. x1 j ∷ x2 j ∷ x3 j ∷ x4 j ∷ x5 j ∷ x6 j ∷ []

pub always_on_nine : AlwaysOnNine
always_on_nine pool after answers end led =
    let idle = led.both_idle in
    let n1 = both (opened (states pool)) pool another_events answers end after (way led.steps) led.moves in
    let m1 = n1.move in
    let b = begun pool idle.0 idle.1 m1.between m1.after n1.answer n1.next m1.took m1.gave_back n1.step in
    let n2 = m1.goes_on in
    let m2 = n2.move in
    let o = moved pool idle.0 b.place b.inside m1.after m2.between m2.after b.waits b.taken n2.answer n2.next m2.took m2.gave_back (subst (λ (x : State). Stepped x (Exchange unavailable) n2.answer n2.next) b.after n2.step) in
    let n3 = m2.goes_on in
    let m3 = n3.move in
    let e3 = taken_exchange n2.next n3.next n3.answer (setup 7 ∷ setup 9 ∷ []) o.exchange n3.step in
    let n4 = m3.goes_on in
    let m4 = n4.move in
    let e4 = taken_exchange n3.next n4.next n4.answer (setup 9 ∷ []) e3.1 n4.step in
    let n5 = m4.goes_on in
    let m5 = n5.move in
    let e5 = taken_exchange n4.next n5.next n5.answer [] e4.1 n5.step in
    let n6 = m5.goes_on in
    let m6 = n6.move in
    let e6 = taken_sip n5.next n6.next n6.answer (e5.2 ∙ e4.2 ∙ e3.2 ∙ o.sip) n6.step in
    let six = as_told n1.answer n2.answer n3.answer n4.answer n5.answer n6.answer b.answer o.answer e3.0 e4.0 e5.0 e6 in
    let ends = m6.goes_on in
    let same : after ≡ m2.after =
    ends.1
    ∙ kept n6.answer (Answer.Sip None) m5.after m6.between m6.after e6 refl refl m6.took m6.gave_back
    ∙ kept n5.answer (Answer.Exchange None) m4.after m5.between m5.after e5.0 refl refl m5.took m5.gave_back
    ∙ kept n4.answer (exchange_takes (setup 9)) m3.after m4.between m4.after e4.0 refl refl m4.took m4.gave_back
    ∙ kept n3.answer (exchange_takes (setup 7)) m2.after m3.between m3.after e3.0 refl refl m3.took m3.gave_back in (
      n1.is ∙ ap (λ (l : List Answer). n1.answer ∷ l) (n2.is ∙ ap (λ (l : List Answer). n2.answer ∷ l) (n3.is ∙ ap (λ (l : List Answer). n3.answer ∷ l) (n4.is ∙ ap (λ (l : List Answer). n4.answer ∷ l) (n5.is ∙ ap (λ (l : List Answer). n5.answer ∷ l) (n6.is ∙ ap (λ (l : List Answer). n6.answer ∷ l) ends.0))))) ∙ six,
      (ap idle_order same ∙ o.waits, ap seized_ones same ∙ o.taken),
    )
