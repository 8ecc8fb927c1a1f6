-- A token that is handed back, and a channel that is released again: all is as it was.
use Rattle.std.proofs.Common.{◌≡◌, ℕ, Bool, true, false, cond, ◌&&◌, List, Some, None, Err, Option, sym, refl, ap, subst, ◌∙◌, ⊎_elim, arith}
use Rattle.std.proofs.lemmas.Bool.{cases_eq, eq-eqb, ne_eqb}
use Rattle.pools.specs.declared.channel.ChannelState.{ChannelState}
use Rattle.pools.specs.declared.channel.ChannelState.TheVariants.{Unknown, Idle, Seized}
use Rattle.pools.specs.States.{States, idle, seized, put, after_release}
use Rattle.calls.specs.declared.record.Call.{Call}
use Rattle.call_table.specs.declared.token.Token.{Token}
use Rattle.call_table.specs.Records.{is_free, admits, answered, after_entering}
use Rattle.messages.specs.declared.record.Channel.{Channel}
use Rattle.call_table.specs.Moves.{Took, GaveBack}
use Rattle.call_table_tests.specs.Stays.{call_on, Occupies, TookAndKept}

-- a call that collects digits on the token's channel is admitted wherever the place is free
pub admitted_if_free : (places : List (Option Call)) (place c channel : ℕ) (call : Call) → call ≡ call_on channel → channel ≡ c → admits places place call c ≡ is_free places place
admitted_if_free places place c channel call e f = ap (λ (k : Call). admits places place k c) e ∙ ap (λ b. b && is_free places place) (eq-eqb c channel (sym f))

pub handed_back : (free admitted : Bool) (back token : Token) (places after : List (Option Call)) (place : ℕ) (call : Call) → admitted ≡ free → Err back ≡ answered admitted token → after ≡ after_entering admitted places place call → (free ≡ false) × (back.channel ≡ token.channel) × (after ≡ places) × ((wishedIdle exclusive : Bool) (wished : ℕ) (s : States) → Occupies free wishedIdle exclusive wished s None)
handed_back free true back token places after place call a e f = absurd (let z : ◌≡◌ {A = ℕ} 0 1 = cc in omega arith)
handed_back true false back token places after place call a e f = absurd (let z : ◌≡◌ {A = ℕ} 0 1 = cc in omega arith)
handed_back false false back token places after place call a e f = (refl, cc, f, λ i x w s. refl)

idle_is : (x : ChannelState) → idle x ≡ true → Idle ≡ x
idle_is Unknown e = absurd (let z : ◌≡◌ {A = ℕ} 0 1 = cc in omega arith)
idle_is Idle e = refl
idle_is Seized e = absurd (let z : ◌≡◌ {A = ℕ} 0 1 = cc in omega arith)

pub released_again : (s t u : States) (c d : ℕ) → idle (s c) ≡ true → ((k : ℕ) → t k ≡ put s c Seized k) → d ≡ c → ((k : ℕ) → u k ≡ after_release (seized (t d)) d t k) → (k : ℕ) → u k ≡ s k
released_again s t u c d was seizes same frees k =
    let here : seized (t d) ≡ true = ap (λ n. seized (t n)) same ∙ ap seized (seizes c ∙ ap (λ b. cond b Seized (s c)) (eq-eqb c c refl)) in
    let freed : u k ≡ put t c Idle k = frees k ∙ ap (λ b. after_release b d t k) here ∙ ap (λ n. put t n Idle k) same in
    ⊎_elim
    (λ (e : k ≡ c). freed ∙ ap (λ b. cond b Idle (t k)) (eq-eqb k c e) ∙ idle_is (s c) was ∙ ap s (sym e))
    (λ (ne : k ≡ c → ⊥). freed ∙ ap (λ b. cond b Idle (t k)) (ne_eqb k c ne) ∙ seizes k ∙ ap (λ b. cond b Seized (s k)) (ne_eqb k c ne))
    (cases_eq k c)

-- the moves of the pool where no channel stays taken
module _ {P : Type 0} (state : P → States) (Seizes : P → ℕ → Bool → P → Type 0) (SeizesAny : P → Option ℕ → P → Type 0) (Releases : P → ℕ → Bool → P → Type 0) where
  pub given_back : (free : Bool) (wish : Channel) (before between after : P) (c d : ℕ) → free ≡ false → Took Seizes SeizesAny (Some wish) before (Some c) between → d ≡ c
      → GaveBack state Releases between (Some d) after → TookAndKept state Seizes SeizesAny Releases free wish before None after
  given_back true wish before between after c d e took same gave = absurd (let z : ◌≡◌ {A = ℕ} 0 1 = cc in omega arith)
  given_back false wish before between after c d e took same gave = (Some c, between, took, subst (λ n. GaveBack state Releases between (Some n) after) same gave)
