-- What a step keeps at the one place of the table that it changes.
use Rattle.std.proofs.Common.{◌≡◌, ℕ, ◌+◌, ◌≤◌, Bool, true, false, cond, not, ◌&&◌, ◌||◌, eqb, length, Some, None, Option}
use Rattle.calls.specs.Records.{Call, Origin, ExchangeSide, SipSide}
use Rattle.pools.specs.States.{States, idle}
use Rattle.calls.specs.Sides.{is_in, is_invite_sent, is_gone, is_up_on, sip_stage, holds, holds_dialogue, owes, on_call, one_if, named, connects_in, finals_in, own_invites_in, cancels_in, bye_in}
use Rattle.calls.specs.Standing.{SoundAt}
use Rattle.calls.specs.Effects.{Effect}
use Rattle.calls.specs.Rules.{by_number}
use Rattle.calls.specs.Laws.{Brought, AnInvite, AnOk, setup_count, invite_count, is_ok_on, is_bye_on, sends}

-- a call that the exchange began, and that has not had its CONNECT yet
abbrev pub may_connect : ℕ → Call → ℕ
may_connect r k = one_if ((is_in ExchangeSide.Collecting k.exchange || is_in ExchangeSide.Proceeding k.exchange) && eqb k.reference.number r)

abbrev pub talks : ℕ → Call → ℕ
talks d k = one_if (is_up_on d k.sip)

-- a call that holds dialogue d
abbrev pub keeper : ℕ → Call → ℕ
keeper d k = one_if (holds_dialogue d k)

-- a call with number n: any, one that has still to dial, and one whose INVITE is out and has had no CANCEL
abbrev pub has_number : ℕ → Call → ℕ
has_number n k = one_if (by_number n k)

abbrev pub to_dial : ℕ → Call → ℕ
to_dial n k = one_if (is_in ExchangeSide.Collecting k.exchange && by_number n k)

abbrev pub uncancelled : ℕ → Call → ℕ
uncancelled n k = one_if (is_invite_sent k.sip && by_number n k)

-- a new call uses up a number; another has its own already
abbrev pub new_number : ℕ → Option Call → Effect → ℕ
new_number n None e = cond e.numbered (on_call (has_number n) e.after) 0
new_number n (Some k) e = 0

-- a call that a SETUP made has no INVITE to answer
abbrev pub origin_agrees : Origin → SipSide → Bool
origin_agrees (Origin.Exchange n) sip = not (eqb (sip_stage sip) 2)
origin_agrees Origin.Sip sip = true

abbrev pub OriginAt : Option Call → Type 0
OriginAt None = Unit {0}
OriginAt (Some k) = origin_agrees k.origin k.sip ≡ true

-- the INVITE that a call has not answered is the last one with its transaction
abbrev pub Linked : (ℕ → Option ℕ) → SipSide → Type 0
Linked last (SipSide.InviteUnanswered t d) = last t ≡ Some d
Linked last _ = Unit {0}

abbrev pub LinkedAt : (ℕ → Option ℕ) → Option Call → Type 0
LinkedAt last None = Unit {0}
LinkedAt last (Some k) = Linked last k.sip

-- a call that is over on both sides is none
abbrev pub PresentAt : Option Call → Type 0
PresentAt None = Unit {0}
PresentAt (Some k) = is_gone k ≡ false

-- the last INVITE is the one that came just now
abbrev pub Asked : (ℕ → Option ℕ) → Brought → Type 0
Asked last (AnInvite t d) = last t ≡ Some d
Asked last _ = Unit {0}

-- an event that is no INVITE, and one that is no 200
abbrev pub Uninvited : Brought → Type 0
Uninvited ev = (t : ℕ) → invite_count t ev ≡ 0

abbrev pub Quiet : Brought → Type 0
Quiet ev = (d : ℕ) → is_ok_on d ev ≡ false

-- an event by which a call comes to hold dialogue d
abbrev pub claims : ℕ → Brought → Bool
claims d (AnInvite t x) = eqb x d
claims d (AnOk x) = eqb x d
claims d _ = false

-- what an event and its effect keep in balance at one place: what was seized was idle, and what is held was seized and not
-- released; an INVITE has one final response; a CONNECT was asked for; a dialogue goes on until its BYE, and by a 200 one opens,
-- also by one of ours, on the dialogue of its INVITE; none is held but by an event that claims it, and after a BYE it is held no
-- more; a number has one INVITE and one CANCEL of it; either queue gets two messages at most; and what stands is a call whose two
-- sides agree, with its origin
pub record Balanced (pool : States) (old : Option Call) (ev : Brought) (e : Effect) : Type 0 where
  pub channels : (c : ℕ) → (named c e.seized + on_call (holds c) old ≡ named c e.released + on_call (holds c) e.after) × (named c e.seized ≡ 1 → idle (pool c) ≡ true)
  pub invites : (t : ℕ) → invite_count t ev + on_call (owes t) old ≡ finals_in t e.sip + on_call (owes t) e.after
  pub connects : (r : ℕ) → connects_in r e.exchange + on_call (may_connect r) e.after ≤ setup_count r ev + on_call (may_connect r) old
  pub dialogues : (d : ℕ) → bye_in d e.sip ≡ false → (is_bye_on d ev ≡ false → on_call (talks d) old ≤ on_call (talks d) e.after) × (is_ok_on d ev ≡ true → on_call (talks d) e.after ≡ 1)
  pub answered : (last : ℕ → Option ℕ) → LinkedAt last old → ((d : ℕ) → sends d last e.sip ≡ true → on_call (talks d) e.after ≡ 1) × (Asked last ev → LinkedAt last e.after)
  pub keepers : (d : ℕ) → claims d ev ≡ false → on_call (keeper d) e.after ≤ on_call (keeper d) old
  pub byes : OriginAt old → (d : ℕ) → bye_in d e.sip ≡ true → (on_call (keeper d) e.after ≡ 0) × (claims d ev ≡ false → on_call (keeper d) old ≡ 1)
  pub numbers : (n : ℕ) → (own_invites_in n e.sip + on_call (to_dial n) e.after ≤ on_call (to_dial n) old + new_number n old e) × (cancels_in n e.sip + on_call (uncancelled n) e.after ≤ on_call (uncancelled n) old + own_invites_in n e.sip)
  pub few : (length e.exchange ≤ 2) × (length e.sip ≤ 2)
  pub origin : OriginAt old → OriginAt e.after
  pub stands : SoundAt e.after × PresentAt e.after
