-- Effects that enter a seized channel, and what the wish for one gets.
use Rattle.std.proofs.Common.{◌≡◌, ℕ, ◌<◌, Bool, true, false, cond, List, length, get_or, Some, None, Ok, Err, Option, Result, sym, refl, ap, ◌∙◌, subst, arith}
use Rattle.std.proofs.lemmas.Bool.{cond-false, cond_both}
use Rattle.std.proofs.lemmas.Bool.Decides.{nat_tests}
use Rattle.gateway.specs.Records.{Ground, Channel, Message, Call, ExchangeSide, Token}
use Rattle.messages.specs.Elements.{DigitsPart}
use Rattle.pools.specs.States.{States, idle, AnyWasIdle}
use Rattle.calls.specs.Sides.{is_in, is_over}
use Rattle.calls.specs.Standing.{is_sound, sides_agree, SoundAt}
use Rattle.calls.specs.Effects.{Effect, misdialled, tries_again, on_type, begins, is_whole, called_digits}
use Rattle.calls.specs.Rules.{State, at, granted, seated, admitted, on_setup}
use Rattle.calls.specs.Laws.{NoneOfThese}
use Rattle.calls.proofs.Choices.{Bounded, fair_pick}
use Rattle.calls.proofs.Balance.{Balanced}
use Rattle.calls.proofs.Locals.{Keeps, tries_again_keeps, on_type_keeps}
use Rattle.calls.proofs.Places.{everywhere_at}
use Rattle.calls.proofs.Sounds.{sound_everywhere}
use Rattle.call_table.specs.Tokens.{token_channel, token_of}
use Rattle.call_table.specs.Records.{holding}
use Rattle.call_table.specs.Wishes.{WishGets}
use Rattle.gateway.specs.Stands.{Ready, Possible, Granted}
use Rattle.gateway.proofs.Channels.{all_unknown, unseized, ready_kept}

-- ---------------------------------------------------------------- a call that stands at its place
module _ (st : State) (len : length st.table ≡ 64) (sound : is_sound st.table ≡ true) (i : ℕ) (k : Call) (inside : i < 64) (here : get_or st.table i None ≡ Some k) where
  sound_call : sides_agree k.exchange k.sip ≡ true
  sound_call = subst SoundAt here (everywhere_at SoundAt refl st.table i (sound_everywhere st.table sound))

  -- a balance at the call is one at its place
  placed : (pool : States) (e : Effect) → Balanced pool (Some k) NoneOfThese e → e.seized ≡ None → Ready st.table i e.after e.released None
  placed pool e b none =
      let z = subst (λ (o : Option Call). Balanced pool o NoneOfThese e) (sym here) b in
      ready_kept st.table i e len (omega (arith, len, inside)) (λ c. (z.channels c).0) none z.stands.0

  again_some : (t : Token) → SoundAt (tries_again (Some t.channel) k).after → is_over k.exchange ≡ false → Ready st.table i (tries_again (Some t.channel) k).after (tries_again (Some t.channel) k).released (Some t)
  again_some t s live =
      record {
        inside = inside;
        enters = refl;
        leaves = ap (λ (o : Option Call). token_channel (token_of (holding o))) here ∙ ap (λ (x : Option ℕ). token_channel (token_of x)) (cond-false (is_over k.exchange) None (Some k.channel) live);
        sound = s;
      }

  -- SETUP again on another channel, or both sides end
  pub ready_again : is_in ExchangeSide.SetupSent k.exchange ≡ true → (token : Option Token) → AnyWasIdle (token_channel token) st.pool → Ready st.table i (tries_again (token_channel token) k).after (tries_again (token_channel token) k).released token
  ready_again waits token h =
      let live : is_over k.exchange ≡ false = grind (arith, nat_tests) in
      let kept = tries_again_keeps st.pool NoneOfThese (λ t. refl) (λ d. refl) k sound_call live (token_channel token) h waits in again token kept live
    where
      again : (token : Option Token) → Balanced st.pool (Some k) NoneOfThese (tries_again (token_channel token) k) → is_over k.exchange ≡ false → Ready st.table i (tries_again (token_channel token) k).after (tries_again (token_channel token) k).released token
      again None b live = placed st.pool (tries_again None k) b refl
      again (Some t) b live = again_some t b.stands.0 live

  ruled : (r : Result Effect Ground) → Keeps all_unknown k NoneOfThese r → Possible st.table (at i r)
  ruled (Err ground) b = tt
  ruled (Ok e) b =
      let none = unseized e.seized (λ c h. (let w = (b.channels c).1 h in grind (arith, nat_tests))) in
      (placed all_unknown e b none, none)

  -- a message that asks for no other channel
  pub possible_at : is_over k.exchange ≡ false → (full : ℕ) (m : Message DigitsPart) → Possible st.table (at i (on_type full None m k m.kind))
  possible_at live full m = ruled (on_type full None m k m.kind) (on_type_keeps all_unknown NoneOfThese (λ t. refl) (λ d. refl) k sound_call live full None (λ c. refl) m m.kind)

-- what a retry seizes is what was picked
pub again_seizes : (pick : Option ℕ) (k : Call) → (tries_again pick k).seized ≡ pick
again_seizes None k = refl
again_seizes (Some c) k = refl

-- ---------------------------------------------------------------- new calls at a free place
module _ (places : List (Option Call)) (i : ℕ) (inside : i < 64) (free : get_or places i None ≡ None) (t : Token) where
  abbrev EntersAt : Effect → Type 0
  EntersAt e = Ready places i e.after e.released (Some t)

  out : token_channel (token_of (holding (get_or places i None))) ≡ None
  out = ap (λ (o : Option Call). token_channel (token_of (holding o))) free

  pub ready_begins : (full : ℕ) (m : Message DigitsPart) (n : ℕ) → EntersAt (begins full m n t.channel)
  ready_begins full m n =
      cond_both (is_whole full m.elements.complete (length (called_digits m))) _ _ EntersAt
      (λ _. record { inside = inside; enters = refl; leaves = out; sound = refl }) (λ _. record { inside = inside; enters = refl; leaves = out; sound = refl })

pub begins_seizes : (full : ℕ) (m : Message DigitsPart) (n c : ℕ) → (begins full m n c).seized ≡ Some c
begins_seizes full m n c = cond_both (is_whole full m.elements.complete (length (called_digits m))) _ _ (λ (e : Effect). e.seized ≡ Some c) (λ _. refl) (λ _. refl)

-- ---------------------------------------------------------------- wishes
module _ (pool : States) (b : Bounded pool) (got : Option ℕ) where
  by_wish : (w : ℕ) (free alone : Bool) → WishGets free alone w pool got → (pick : Option ℕ) × (AnyWasIdle pick pool) × (cond free (Some w) (cond alone None pick) ≡ got)
  by_wish w true alone h = let p = fair_pick pool b in (p.0, p.1, sym h)
  by_wish w false true h = let p = fair_pick pool b in (p.0, p.1, sym h)
  by_wish w false false h = (got, h, refl)

  pub granted_by : (w : Channel) → WishGets (idle (pool w.number)) w.exclusive w.number pool got → Granted pool (Some w) got
  granted_by w h = let p = by_wish w.number (idle (pool w.number)) w.exclusive h in record { pick = p.0; fair = p.1; as_granted = p.2 }

-- the rule of a SETUP at a free place with a number, where its digits can be a number
pub seated_by : (st : State) (m : Message DigitsPart) (pick : Option ℕ) (i n : ℕ) → misdialled m ≡ false → st.next ≡ Some n → on_setup st (record { pick = pick; place = Some i }) m ≡ seated st.full m i n (granted st.pool pick m.elements.channel)
seated_by st m pick i n good next = cond-false (misdialled m) _ _ good ∙ ap (admitted st pick m (Some i)) next
