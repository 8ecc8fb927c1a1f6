-- What is counted event by event is what the laws count of the history.
use Rattle.std.proofs.Common.{◌≡◌, ℕ, ◌+◌, List, [], ◌∷◌, ◌++◌, map, reverse, sym, refl, ap, ap₂, ◌∙◌, subst₂, arith}
use mathlib.Core.List.{reverse-cons}
use Rattle.std.proofs.lemmas.Grind.{common_steps}
use Rattle.messages.specs.declared.record.Message.{Message}
use Rattle.calls.specs.declared.answers.Answer.{Answer}
use Rattle.calls.specs.declared.outgoing.SipMessage.{SipMessage}
use Rattle.calls.specs.declared.record.Digits.{Digits}
use Rattle.calls.specs.Sides.{finals_in}
use Rattle.calls.specs.Rules.{Event}
use Rattle.calls.specs.Run.{Happening, HistoryOf}
use Rattle.calls.specs.Laws.{total, exchange_gone, sip_gone, exchange_taken, sip_taken}
use Rattle.ledger.specs.declared.ledger.Ledger.{Ledger}
use Rattle.ledger.specs.Numbers.{capped, grown}
use Rattle.ledger.specs.Counts.{Counted, Seizures, Releases, Holders, Invites, Finals, Owing, Oks, Byes, Connects, Setups, Events, Refusals, RefusalsOn, counts, counted, all_connects, Grows}
use Rattle.ledger.specs.Histories.{counted_in, HoldsOn}

pub finals_append : (t : ℕ) (ms ns : List SipMessage) → finals_in t (ms ++ ns) ≡ finals_in t ms + finals_in t ns
finals_append t [] ns = omega arith
finals_append t (m ∷ ms) ns = omega (arith, finals_append t ms ns)

pub connects_append : (ms ns : List (Message Digits)) → all_connects (ms ++ ns) ≡ all_connects ms + all_connects ns
connects_append [] ns = omega arith
connects_append (m ∷ ms) ns = omega (arith, connects_append ms ns)

finals_gone : (t : ℕ) (past : List Happening) → finals_in t (sip_gone past) ≡ total (λ h. finals_in t (sip_taken h.answer)) past
finals_gone t [] = refl
finals_gone t (h ∷ past) = omega (arith, finals_append t (sip_gone past) (sip_taken h.answer), finals_gone t past)

connects_gone : (past : List Happening) → all_connects (exchange_gone past) ≡ total (λ h. all_connects (exchange_taken h.answer)) past
connects_gone [] = refl
connects_gone (h ∷ past) = omega (arith, connects_append (exchange_gone past) (exchange_taken h.answer), connects_gone past)

-- event by event
abbrev each : Counted → List Happening → ℕ
each k past = total (λ h. counts k h.event h.answer) past

counted_each : (k : Counted) (past : List Happening) → counted_in k past ≡ each k past
counted_each (Seizures c) past = refl
counted_each (Releases c) past = refl
counted_each (Holders c) past = refl
counted_each (Invites t) past = refl
counted_each (Finals t) past = finals_gone t past
counted_each (Owing t) past = refl
counted_each Oks past = refl
counted_each Byes past = refl
counted_each Connects past = connects_gone past
counted_each Setups past = refl
counted_each Events past = refl
counted_each Refusals past = refl
counted_each (RefusalsOn g) past = refl

total_append : (f : Happening → ℕ) (more past : List Happening) → total f (more ++ past) ≡ total f more + total f past
total_append f [] past = omega arith
total_append f (h ∷ more) past = omega (arith, total_append f more past)

total_reverse : (f : Happening → ℕ) (past : List Happening) → total f (reverse past) ≡ total f past
total_reverse f [] = refl
total_reverse f (h ∷ past) =
    ap (total f) (reverse-cons h past) ∙ omega (arith, total_append f (reverse past) (h ∷ []), total_reverse f past)

told : (k : Counted) (hs : List Happening) → counted k (map (λ h. h.event) hs) (map (λ h. h.answer) hs) ≡ each k hs
told k [] = refl
told k (h ∷ hs) = omega (arith, told k hs)

counted_of : (k : Counted) (more : List Happening) (events : List Event) (answers : List Answer) → HistoryOf more events answers → counted k events answers ≡ counted_in k more
counted_of k more events answers h =
    subst₂ (λ (es : List Event) (ans : List Answer). counted k es ans ≡ each k (reverse more)) h.events h.answers (told k (reverse more)) ∙ total_reverse (λ h. counts k h.event h.answer) more ∙ sym (counted_each k more)

counted_longer : (k : Counted) (more past : List Happening) → counted_in k (more ++ past) ≡ counted_in k more + counted_in k past
counted_longer k more past =
    counted_each k (more ++ past) ∙ total_append (λ h. counts k h.event h.answer) more past ∙ sym (ap₂ (λ (x y : ℕ). x + y) (counted_each k more) (counted_each k past))

pub grown_capped : (past more : ℕ) → grown (capped past) more ≡ capped (more + past)
grown_capped past more = grind (arith, common_steps)

pub holds_on : (before after : Ledger) (events : List Event) (answers : List Answer) → Grows before after (λ k. counted k events answers) → HoldsOn before events answers after
holds_on before after events answers grows past more holds history k =
    grows k ∙ ap₂ grown (holds k) (counted_of k more events answers history) ∙ grown_capped (counted_in k past) (counted_in k more) ∙ ap capped (sym (counted_longer k more past))
