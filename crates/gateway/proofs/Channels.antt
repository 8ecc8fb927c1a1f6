-- Where channels balance at a place, an effect can be applied there.
use Rattle.std.proofs.Common.{◌≡◌, ℕ, ◌+◌, ◌<◌, true, false, cond, eqb, List, length, get_or, is_some, Some, None, Option, refl, ap, arith}
use Rattle.std.proofs.lemmas.Bool.{eq-eqb}
use Rattle.std.proofs.lemmas.Bool.Decides.{nat_tests}
use Rattle.gateway.specs.Records.{Call}
use Rattle.calls.specs.Sides.{named, holds, on_call}
use Rattle.pools.specs.States.{States, idle}
use Rattle.pools.specs.declared.channel.ChannelState.TheVariants.{Unknown}
use Rattle.calls.specs.Standing.{SoundAt}
use Rattle.calls.specs.Effects.{Effect}
use Rattle.calls.specs.Rules.{State, Outcome, Refuse, Reply, Change, TookExchange, TookSip}
use Rattle.calls.specs.Laws.{Brought}
use Rattle.calls.proofs.Steps.{Lawful}
use Rattle.call_table.specs.Tokens.{token_channel, token_of}
use Rattle.call_table.specs.Records.{holding, MayHold}
use Rattle.gateway.specs.Stands.{Ready, Possible}

same : (a : ℕ) → eqb a a ≡ true
same a = eq-eqb a a refl

-- with no seizure a place goes on holding its channel, or it is released
kept : (x y r : Option ℕ) → ((c : ℕ) → named c x ≡ named c r + named c y) → MayHold x y × (token_channel (cond (is_some y) None (token_of x)) ≡ r)
kept None None None h = (tt, refl)
kept None None (Some z) h = absurd (let e = h z in let s = same z in grind (arith, nat_tests))
kept None (Some b) r h = absurd (let e = h b in let s = same b in grind (arith, nat_tests))
kept (Some a) None None h = absurd (let e = h a in let s = same a in grind (arith, nat_tests))
kept (Some a) None (Some z) h = let e = h a in let s = same a in let q : a ≡ z = grind (arith, nat_tests) in (tt, ap Some q)
kept (Some a) (Some b) None h = let e = h b in let s = same b in let q : a ≡ b = grind (arith, nat_tests) in (ap Some q, refl)
kept (Some a) (Some b) (Some z) h = absurd (let e = h b in let f = h z in let s = same b in let t = same z in grind (arith, nat_tests))

held_as : (c : ℕ) (o : Option Call) → on_call (holds c) o ≡ named c (holding o)
held_as c None = refl
held_as c (Some k) = refl

pub ready_kept : (places : List (Option Call)) (i : ℕ) (e : Effect) → length places ≡ 64 → i < length places → ((c : ℕ) → named c e.seized + on_call (holds c) (get_or places i None) ≡ named c e.released + on_call (holds c) e.after) → e.seized ≡ None → SoundAt e.after → Ready places i e.after e.released None
ready_kept places i e len inside h none sound =
    let old = get_or places i None in
    let w = kept (holding old) (holding e.after) e.released (λ c. omega (arith, h c, held_as c old, held_as c e.after, ap (named c) none)) in
    record { inside = omega (arith, len, inside); enters = w.0; leaves = w.1; sound = sound }

-- a pool with no channel at all, where none is idle
abbrev pub all_unknown : States
all_unknown c = Unknown

pub unseized : (s : Option ℕ) → ((c : ℕ) → named c s ≡ 1 → ⊥) → s ≡ None
unseized None h = refl
unseized (Some x) h = absurd (h x (let e = same x in grind (arith, nat_tests)))

-- where no channel is idle, what the rules make of an event seizes none
pub possible : (st : State) → length st.table ≡ 64 → ((c : ℕ) → idle (st.pool c) ≡ false) → (ev : Brought) (o : Outcome) → Lawful st ev o → Possible st.table o
possible st len busy ev (Change i e) l =
    let none = unseized e.seized (λ c h. (let w = (l.2.channels c).1 h in let b = busy c in grind (arith, nat_tests))) in
    (ready_kept st.table i e len l.1 (λ c. (l.2.channels c).0) none l.2.stands.0, none)
possible st len busy ev (Refuse r) l = tt
possible st len busy ev (Reply ms ss) l = tt
possible st len busy ev TookExchange l = tt
possible st len busy ev TookSip l = tt
