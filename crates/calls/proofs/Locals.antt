-- The rules of one call keep the balance. The lemma of a rule has its name and `_keeps`, knows of it little more, and has a line for
-- each law: a rule that is changed and breaks no law stays proved here; where it breaks one, the line names it.
use Rattle.std.proofs.Common.{◌≡◌, ℕ, ◌≤◌, Bool, true, false, ◌++◌, Some, None, Ok, Err, Option, Result, arith}
use Rattle.std.proofs.lemmas.Bool.Decides.{nat_tests}
use Rattle.std.proofs.lemmas.Bool.{cond_both}
use Rattle.calls.specs.Records.{Ground, MessageType, Cause, Message, Timer, Call, Digits, News, ExchangeSide, SipSide, Told}
use Rattle.messages.specs.Elements.{DigitsPart}
use Rattle.causes.specs.Names
use Rattle.causes.proofs.Rows.{final_failure}
use Rattle.pools.specs.States.{States, AnyWasIdle}
use Rattle.calls.specs.Sides.{is_in, is_over, is_unreleased, is_running, is_cancel_sent, awaits_response, is_unanswered, is_held_by}
use Rattle.calls.specs.Effects.{Effect, meant, record_of, called_digits, counted, status_for, only, proceeds, spurns, awaits, dials, collects, ended, tries_again, disconnected, released, asks_for_another, completed, on_type, on_timer, on_expiry, on_cancel_expiry, news_of, tells, provisional, fails, accepts, leaves}
use Rattle.calls.specs.Rules.{by_number}
use Rattle.calls.specs.Laws.{Brought, AnOk, ABye, NoneOfThese}
use Rattle.calls.specs.Standing.{sides_agree}
use Rattle.calls.proofs.Balance.{Balanced, Uninvited, Quiet}

abbrev pub Keeps : States → Call → Brought → Result Effect Ground → Type 0
Keeps pool k ev (Err g) = Unit {0}
Keeps pool k ev (Ok e) = Balanced pool (Some k) ev e

-- the status for a clearing message is one of a final response that refuses
status_final : (v : Option Cause) → (Names.first_failure ≤ status_for v) × (status_for v ≤ Names.last_status)
status_final v = final_failure (counted v).value (counted v).location

module _ (pool : States) (ev : Brought) (u : Uninvited ev) (q : Quiet ev) (k : Call) (sound : sides_agree k.exchange k.sip ≡ true) where
  -- ---------------------------------------------------------------- digits
  module _ (collecting : is_in ExchangeSide.Collecting k.exchange ≡ true) where
    spurns_keeps : (ds : Digits) → Balanced pool (Some k) ev (spurns k ds)
    spurns_keeps ds =
        record {
          channels = λ c. grind (arith, nat_tests);
          invites = λ t. grind (arith, nat_tests);
          connects = λ r. grind (arith, nat_tests);
          dialogues = λ d b. grind (arith, nat_tests);
          answered = λ last l. grind (arith, nat_tests);
          keepers = λ d c. grind (arith, nat_tests);
          byes = λ o d b. grind (arith, nat_tests);
          numbers = λ n. grind (arith, nat_tests);
          few = grind (arith, nat_tests);
          origin = λ o. grind (arith, nat_tests);
          stands = grind (arith, nat_tests);
        }

    proceeds_keeps : (ds : Digits) → Balanced pool (Some k) ev (proceeds k ds)
    proceeds_keeps ds =
        record {
          channels = λ c. grind (arith, nat_tests);
          invites = λ t. grind (arith, nat_tests);
          connects = λ r. grind (arith, nat_tests);
          dialogues = λ d b. grind (arith, nat_tests);
          answered = λ last l. grind (arith, nat_tests);
          keepers = λ d c. grind (arith, nat_tests);
          byes = λ o d b. grind (arith, nat_tests);
          numbers = λ n. grind (arith, nat_tests);
          few = grind (arith, nat_tests);
          origin = λ o. grind (arith, nat_tests);
          stands = grind (arith, nat_tests);
        }

    awaits_keeps : (ds : Digits) → Balanced pool (Some k) ev (awaits k ds)
    awaits_keeps ds =
        record {
          channels = λ c. grind (arith, nat_tests);
          invites = λ t. grind (arith, nat_tests);
          connects = λ r. grind (arith, nat_tests);
          dialogues = λ d b. grind (arith, nat_tests);
          answered = λ last l. grind (arith, nat_tests);
          keepers = λ d c. grind (arith, nat_tests);
          byes = λ o d b. grind (arith, nat_tests);
          numbers = λ n. grind (arith, nat_tests);
          few = grind (arith, nat_tests);
          origin = λ o. grind (arith, nat_tests);
          stands = grind (arith, nat_tests);
        }

    dials_keeps : (full : ℕ) (complete : Bool) (ds : Digits) → Balanced pool (Some k) ev (dials full complete k ds)
    dials_keeps full complete ds = let s = spurns_keeps ds in let p = proceeds_keeps ds in let a = awaits_keeps ds in grind (arith, nat_tests)

    collects_keeps : (full : ℕ) (complete : Bool) (o : Option Digits) → Balanced pool (Some k) ev (collects full complete k o)
    collects_keeps full complete None = spurns_keeps k.digits
    collects_keeps full complete (Some ds) = dials_keeps full complete ds

  -- ---------------------------------------------------------------- a message
  -- what a state does not take is refused
  only_keeps : (b : Bool) (e : Effect) → (b ≡ true → Balanced pool (Some k) ev e) → Keeps pool k ev (only b e)
  only_keeps b e h = cond_both b _ _ (Keeps pool k ev) h (λ _. tt)

  module _ (live : is_over k.exchange ≡ false) where
    module _ (s : ℕ) (refuses : Names.first_failure ≤ s) (known : s ≤ Names.last_status) where
      disconnected_keeps : is_unreleased k.exchange ≡ true → Balanced pool (Some k) ev (disconnected k s)
      disconnected_keeps e =
          record {
            channels = λ c. grind (arith, nat_tests);
            invites = λ t. grind (arith, nat_tests);
            connects = λ r. grind (arith, nat_tests);
            dialogues = λ d b. grind (arith, nat_tests);
            answered = λ last l. grind (arith, nat_tests);
            keepers = λ d c. grind (arith, nat_tests);
            byes = λ o d b. grind (arith, nat_tests);
            numbers = λ n. grind (arith, nat_tests);
            few = grind (arith, nat_tests);
            origin = λ o. grind (arith, nat_tests);
            stands = grind (arith, nat_tests);
          }

      released_keeps : Balanced pool (Some k) ev (released k s)
      released_keeps =
          record {
            channels = λ c. grind (arith, nat_tests);
            invites = λ t. grind (arith, nat_tests);
            connects = λ r. grind (arith, nat_tests);
            dialogues = λ d b. grind (arith, nat_tests);
            answered = λ last l. grind (arith, nat_tests);
            keepers = λ d c. grind (arith, nat_tests);
            byes = λ o d b. grind (arith, nat_tests);
            numbers = λ n. grind (arith, nat_tests);
            few = grind (arith, nat_tests);
            origin = λ o. grind (arith, nat_tests);
            stands = grind (arith, nat_tests);
          }

      ended_keeps : Balanced pool (Some k) ev (ended k s)
      ended_keeps =
          record {
            channels = λ c. grind (arith, nat_tests);
            invites = λ t. grind (arith, nat_tests);
            connects = λ r. grind (arith, nat_tests);
            dialogues = λ d b. grind (arith, nat_tests);
            answered = λ last l. grind (arith, nat_tests);
            keepers = λ d c. grind (arith, nat_tests);
            byes = λ o d b. grind (arith, nat_tests);
            numbers = λ n. grind (arith, nat_tests);
            few = grind (arith, nat_tests);
            origin = λ o. grind (arith, nat_tests);
            stands = grind (arith, nat_tests);
          }

    pub tries_again_keeps : (pick : Option ℕ) → AnyWasIdle pick pool → is_in ExchangeSide.SetupSent k.exchange ≡ true → Balanced pool (Some k) ev (tries_again pick k)
    tries_again_keeps None i e = ended_keeps _ (omega arith) (omega arith)
    tries_again_keeps (Some c) i e =
        record {
          channels = λ c. grind (arith, nat_tests);
          invites = λ t. grind (arith, nat_tests);
          connects = λ r. grind (arith, nat_tests);
          dialogues = λ d b. grind (arith, nat_tests);
          answered = λ last l. grind (arith, nat_tests);
          keepers = λ d c. grind (arith, nat_tests);
          byes = λ o d b. grind (arith, nat_tests);
          numbers = λ n. grind (arith, nat_tests);
          few = grind (arith, nat_tests);
          origin = λ o. grind (arith, nat_tests);
          stands = grind (arith, nat_tests);
        }

    completed_keeps : (pick : Option ℕ) → AnyWasIdle pick pool → (v : Option Cause) → Balanced pool (Some k) ev (completed pick v k)
    completed_keeps pick i v =
        let final = status_final v in
        cond_both (asks_for_another k.exchange v) _ _ (Balanced pool (Some k) ev)
        (λ e. tries_again_keeps pick i (grind (arith, nat_tests))) (λ _. ended_keeps _ final.0 final.1)

    pub on_type_keeps : (full : ℕ) (pick : Option ℕ) → AnyWasIdle pick pool → (m : Message DigitsPart) (kind : MessageType) → Keeps pool k ev (on_type full pick m k kind)
    on_type_keeps full pick i m MessageType.Alerting =
        only_keeps _ _ (λ e. record {
          channels = λ c. grind (arith, nat_tests);
          invites = λ t. grind (arith, nat_tests);
          connects = λ r. grind (arith, nat_tests);
          dialogues = λ d b. grind (arith, nat_tests);
          answered = λ last l. grind (arith, nat_tests);
          keepers = λ d c. grind (arith, nat_tests);
          byes = λ o d b. grind (arith, nat_tests);
          numbers = λ n. grind (arith, nat_tests);
          few = grind (arith, nat_tests);
          origin = λ o. grind (arith, nat_tests);
          stands = grind (arith, nat_tests);
        })
    on_type_keeps full pick i m MessageType.CallProceeding =
        only_keeps _ _ (λ e. record {
          channels = λ c. grind (arith, nat_tests);
          invites = λ t. grind (arith, nat_tests);
          connects = λ r. grind (arith, nat_tests);
          dialogues = λ d b. grind (arith, nat_tests);
          answered = λ last l. grind (arith, nat_tests);
          keepers = λ d c. grind (arith, nat_tests);
          byes = λ o d b. grind (arith, nat_tests);
          numbers = λ n. grind (arith, nat_tests);
          few = grind (arith, nat_tests);
          origin = λ o. grind (arith, nat_tests);
          stands = grind (arith, nat_tests);
        })
    on_type_keeps full pick i m MessageType.Progress =
        only_keeps _ _ (λ e. record {
          channels = λ c. grind (arith, nat_tests);
          invites = λ t. grind (arith, nat_tests);
          connects = λ r. grind (arith, nat_tests);
          dialogues = λ d b. grind (arith, nat_tests);
          answered = λ last l. grind (arith, nat_tests);
          keepers = λ d c. grind (arith, nat_tests);
          byes = λ o d b. grind (arith, nat_tests);
          numbers = λ n. grind (arith, nat_tests);
          few = grind (arith, nat_tests);
          origin = λ o. grind (arith, nat_tests);
          stands = grind (arith, nat_tests);
        })
    on_type_keeps full pick i m MessageType.Setup = grind (arith, nat_tests)
    on_type_keeps full pick i m MessageType.Connect =
        only_keeps _ _ (λ e. record {
          channels = λ c. grind (arith, nat_tests);
          invites = λ t. grind (arith, nat_tests);
          connects = λ r. grind (arith, nat_tests);
          dialogues = λ d b. grind (arith, nat_tests);
          answered = λ last l. grind (arith, nat_tests);
          keepers = λ d c. grind (arith, nat_tests);
          byes = λ o d b. grind (arith, nat_tests);
          numbers = λ n. grind (arith, nat_tests);
          few = grind (arith, nat_tests);
          origin = λ o. grind (arith, nat_tests);
          stands = grind (arith, nat_tests);
        })
    on_type_keeps full pick i m MessageType.SetupAcknowledge = grind (arith, nat_tests)
    on_type_keeps full pick i m MessageType.ConnectAcknowledge =
        only_keeps _ _ (λ e. record {
          channels = λ c. grind (arith, nat_tests);
          invites = λ t. grind (arith, nat_tests);
          connects = λ r. grind (arith, nat_tests);
          dialogues = λ d b. grind (arith, nat_tests);
          answered = λ last l. grind (arith, nat_tests);
          keepers = λ d c. grind (arith, nat_tests);
          byes = λ o d b. grind (arith, nat_tests);
          numbers = λ n. grind (arith, nat_tests);
          few = grind (arith, nat_tests);
          origin = λ o. grind (arith, nat_tests);
          stands = grind (arith, nat_tests);
        })
    on_type_keeps full pick i m MessageType.Disconnect = let final = status_final m.elements.cause in only_keeps _ _ (disconnected_keeps _ final.0 final.1)
    on_type_keeps full pick i m MessageType.Release = let final = status_final m.elements.cause in released_keeps _ final.0 final.1
    on_type_keeps full pick i m MessageType.ReleaseComplete = completed_keeps pick i m.elements.cause
    on_type_keeps full pick i m MessageType.Information = only_keeps _ _ (λ e. collects_keeps e full m.elements.complete (record_of (meant k.digits ++ called_digits m)))

    -- ---------------------------------------------------------------- an expiry
    on_timer_keeps : (t : Timer) → is_running t k.exchange ≡ true → Balanced pool (Some k) ev (on_timer k t)
    on_timer_keeps Timer.T301 e =
        record {
          channels = λ c. grind (arith, nat_tests);
          invites = λ t. grind (arith, nat_tests);
          connects = λ r. grind (arith, nat_tests);
          dialogues = λ d b. grind (arith, nat_tests);
          answered = λ last l. grind (arith, nat_tests);
          keepers = λ d c. grind (arith, nat_tests);
          byes = λ o d b. grind (arith, nat_tests);
          numbers = λ n. grind (arith, nat_tests);
          few = grind (arith, nat_tests);
          origin = λ o. grind (arith, nat_tests);
          stands = grind (arith, nat_tests);
        }
    on_timer_keeps Timer.T302 e =
        record {
          channels = λ c. grind (arith, nat_tests);
          invites = λ t. grind (arith, nat_tests);
          connects = λ r. grind (arith, nat_tests);
          dialogues = λ d b. grind (arith, nat_tests);
          answered = λ last l. grind (arith, nat_tests);
          keepers = λ d c. grind (arith, nat_tests);
          byes = λ o d b. grind (arith, nat_tests);
          numbers = λ n. grind (arith, nat_tests);
          few = grind (arith, nat_tests);
          origin = λ o. grind (arith, nat_tests);
          stands = grind (arith, nat_tests);
        }
    on_timer_keeps Timer.T303 e =
        record {
          channels = λ c. grind (arith, nat_tests);
          invites = λ t. grind (arith, nat_tests);
          connects = λ r. grind (arith, nat_tests);
          dialogues = λ d b. grind (arith, nat_tests);
          answered = λ last l. grind (arith, nat_tests);
          keepers = λ d c. grind (arith, nat_tests);
          byes = λ o d b. grind (arith, nat_tests);
          numbers = λ n. grind (arith, nat_tests);
          few = grind (arith, nat_tests);
          origin = λ o. grind (arith, nat_tests);
          stands = grind (arith, nat_tests);
        }
    on_timer_keeps Timer.T305 e =
        record {
          channels = λ c. grind (arith, nat_tests);
          invites = λ t. grind (arith, nat_tests);
          connects = λ r. grind (arith, nat_tests);
          dialogues = λ d b. grind (arith, nat_tests);
          answered = λ last l. grind (arith, nat_tests);
          keepers = λ d c. grind (arith, nat_tests);
          byes = λ o d b. grind (arith, nat_tests);
          numbers = λ n. grind (arith, nat_tests);
          few = grind (arith, nat_tests);
          origin = λ o. grind (arith, nat_tests);
          stands = grind (arith, nat_tests);
        }
    on_timer_keeps Timer.T308 e =
        record {
          channels = λ c. grind (arith, nat_tests);
          invites = λ t. grind (arith, nat_tests);
          connects = λ r. grind (arith, nat_tests);
          dialogues = λ d b. grind (arith, nat_tests);
          answered = λ last l. grind (arith, nat_tests);
          keepers = λ d c. grind (arith, nat_tests);
          byes = λ o d b. grind (arith, nat_tests);
          numbers = λ n. grind (arith, nat_tests);
          few = grind (arith, nat_tests);
          origin = λ o. grind (arith, nat_tests);
          stands = grind (arith, nat_tests);
        }
    on_timer_keeps Timer.T310 e =
        record {
          channels = λ c. grind (arith, nat_tests);
          invites = λ t. grind (arith, nat_tests);
          connects = λ r. grind (arith, nat_tests);
          dialogues = λ d b. grind (arith, nat_tests);
          answered = λ last l. grind (arith, nat_tests);
          keepers = λ d c. grind (arith, nat_tests);
          byes = λ o d b. grind (arith, nat_tests);
          numbers = λ n. grind (arith, nat_tests);
          few = grind (arith, nat_tests);
          origin = λ o. grind (arith, nat_tests);
          stands = grind (arith, nat_tests);
        }
    on_timer_keeps Timer.T313 e =
        record {
          channels = λ c. grind (arith, nat_tests);
          invites = λ t. grind (arith, nat_tests);
          connects = λ r. grind (arith, nat_tests);
          dialogues = λ d b. grind (arith, nat_tests);
          answered = λ last l. grind (arith, nat_tests);
          keepers = λ d c. grind (arith, nat_tests);
          byes = λ o d b. grind (arith, nat_tests);
          numbers = λ n. grind (arith, nat_tests);
          few = grind (arith, nat_tests);
          origin = λ o. grind (arith, nat_tests);
          stands = grind (arith, nat_tests);
        }

    pub on_expiry_keeps : (t : Timer) → Keeps pool k ev (on_expiry t k)
    on_expiry_keeps t = cond_both (is_running t k.exchange) _ _ (Keeps pool k ev) (on_timer_keeps t) (λ _. tt)

  pub on_cancel_expiry_keeps : Keeps pool k ev (on_cancel_expiry k)
  on_cancel_expiry_keeps =
      cond_both (is_cancel_sent k.sip) _ _ (Keeps pool k ev) (λ e. record {
        channels = λ c. grind (arith, nat_tests);
        invites = λ t. grind (arith, nat_tests);
        connects = λ r. grind (arith, nat_tests);
        dialogues = λ d b. grind (arith, nat_tests);
        answered = λ last l. grind (arith, nat_tests);
        keepers = λ d c. grind (arith, nat_tests);
        byes = λ o d b. grind (arith, nat_tests);
        numbers = λ n. grind (arith, nat_tests);
        few = grind (arith, nat_tests);
        origin = λ o. grind (arith, nat_tests);
        stands = grind (arith, nat_tests);
      }) (λ _. tt)

  -- ---------------------------------------------------------------- a response
  pub fails_keeps : (v : Cause) → awaits_response k.sip ≡ true → Balanced pool (Some k) ev (fails k v)
  fails_keeps v w =
      record {
        channels = λ c. grind (arith, nat_tests);
        invites = λ t. grind (arith, nat_tests);
        connects = λ r. grind (arith, nat_tests);
        dialogues = λ d b. grind (arith, nat_tests);
        answered = λ last l. grind (arith, nat_tests);
        keepers = λ d c. grind (arith, nat_tests);
        byes = λ o d b. grind (arith, nat_tests);
        numbers = λ n. grind (arith, nat_tests);
        few = grind (arith, nat_tests);
        origin = λ o. grind (arith, nat_tests);
        stands = grind (arith, nat_tests);
      }

  tells_keeps : (x : Told) (media : Bool) (news : Option News) → k.sip ≡ SipSide.InviteSent x → Balanced pool (Some k) ev (tells k media x news)
  tells_keeps x media None e = grind (arith, nat_tests)
  tells_keeps x media (Some News.Alerting) e =
      record {
        channels = λ c. grind (arith, nat_tests);
        invites = λ t. grind (arith, nat_tests);
        connects = λ r. grind (arith, nat_tests);
        dialogues = λ d b. grind (arith, nat_tests);
        answered = λ last l. grind (arith, nat_tests);
        keepers = λ d c. grind (arith, nat_tests);
        byes = λ o d b. grind (arith, nat_tests);
        numbers = λ n. grind (arith, nat_tests);
        few = grind (arith, nat_tests);
        origin = λ o. grind (arith, nat_tests);
        stands = grind (arith, nat_tests);
      }
  tells_keeps x media (Some News.InBand) e =
      record {
        channels = λ c. grind (arith, nat_tests);
        invites = λ t. grind (arith, nat_tests);
        connects = λ r. grind (arith, nat_tests);
        dialogues = λ d b. grind (arith, nat_tests);
        answered = λ last l. grind (arith, nat_tests);
        keepers = λ d c. grind (arith, nat_tests);
        byes = λ o d b. grind (arith, nat_tests);
        numbers = λ n. grind (arith, nat_tests);
        few = grind (arith, nat_tests);
        origin = λ o. grind (arith, nat_tests);
        stands = grind (arith, nat_tests);
      }
  tells_keeps x media (Some News.Interworking) e =
      record {
        channels = λ c. grind (arith, nat_tests);
        invites = λ t. grind (arith, nat_tests);
        connects = λ r. grind (arith, nat_tests);
        dialogues = λ d b. grind (arith, nat_tests);
        answered = λ last l. grind (arith, nat_tests);
        keepers = λ d c. grind (arith, nat_tests);
        byes = λ o d b. grind (arith, nat_tests);
        numbers = λ n. grind (arith, nat_tests);
        few = grind (arith, nat_tests);
        origin = λ o. grind (arith, nat_tests);
        stands = grind (arith, nat_tests);
      }

  pub provisional_keeps : (s : ℕ) (media : Bool) (g : SipSide) → k.sip ≡ g → Balanced pool (Some k) ev (provisional k s media g)
  provisional_keeps s media (SipSide.InviteSent x) e = tells_keeps x media (news_of s media x) e
  provisional_keeps s media g e = grind (arith, nat_tests)

-- ---------------------------------------------------------------- a CANCEL, a BYE, a 200
module _ (pool : States) (k : Call) (sound : sides_agree k.exchange k.sip ≡ true) where
  pub cancel_keeps : (t : ℕ) → is_unanswered t k.sip ≡ true → Balanced pool (Some k) NoneOfThese (leaves k)
  cancel_keeps t h =
      record {
        channels = λ c. grind (arith, nat_tests);
        invites = λ t. grind (arith, nat_tests);
        connects = λ r. grind (arith, nat_tests);
        dialogues = λ d b. grind (arith, nat_tests);
        answered = λ last l. grind (arith, nat_tests);
        keepers = λ d c. grind (arith, nat_tests);
        byes = λ o d b. grind (arith, nat_tests);
        numbers = λ n. grind (arith, nat_tests);
        few = grind (arith, nat_tests);
        origin = λ o. grind (arith, nat_tests);
        stands = grind (arith, nat_tests);
      }

  pub bye_keeps : (d : ℕ) → is_held_by d k.sip ≡ true → Balanced pool (Some k) (ABye d) (leaves k)
  bye_keeps d h =
      record {
        channels = λ c. grind (arith, nat_tests);
        invites = λ t. grind (arith, nat_tests);
        connects = λ r. grind (arith, nat_tests);
        dialogues = λ d b. grind (arith, nat_tests);
        answered = λ last l. grind (arith, nat_tests);
        keepers = λ d c. grind (arith, nat_tests);
        byes = λ o d b. grind (arith, nat_tests);
        numbers = λ n. grind (arith, nat_tests);
        few = grind (arith, nat_tests);
        origin = λ o. grind (arith, nat_tests);
        stands = grind (arith, nat_tests);
      }

  pub accepts_keeps : (n d : ℕ) → by_number n k ≡ true → (g : SipSide) → k.sip ≡ g → Balanced pool (Some k) (AnOk d) (accepts k n d g)
  accepts_keeps n d own SipSide.None e = grind (arith, nat_tests)
  accepts_keeps n d own (SipSide.InviteSent x) e =
      record {
        channels = λ c. grind (arith, nat_tests);
        invites = λ t. grind (arith, nat_tests);
        connects = λ r. grind (arith, nat_tests);
        dialogues = λ d b. grind (arith, nat_tests);
        answered = λ last l. grind (arith, nat_tests);
        keepers = λ d c. grind (arith, nat_tests);
        byes = λ o d b. grind (arith, nat_tests);
        numbers = λ n. grind (arith, nat_tests);
        few = grind (arith, nat_tests);
        origin = λ o. grind (arith, nat_tests);
        stands = grind (arith, nat_tests);
      }
  accepts_keeps n d own (SipSide.InviteUnanswered t y) e =
      record {
        channels = λ c. grind (arith, nat_tests);
        invites = λ t. grind (arith, nat_tests);
        connects = λ r. grind (arith, nat_tests);
        dialogues = λ d b. grind (arith, nat_tests);
        answered = λ last l. grind (arith, nat_tests);
        keepers = λ d c. grind (arith, nat_tests);
        byes = λ o d b. grind (arith, nat_tests);
        numbers = λ n. grind (arith, nat_tests);
        few = grind (arith, nat_tests);
        origin = λ o. grind (arith, nat_tests);
        stands = grind (arith, nat_tests);
      }
  accepts_keeps n d own (SipSide.Up y) e =
      record {
        channels = λ c. grind (arith, nat_tests);
        invites = λ t. grind (arith, nat_tests);
        connects = λ r. grind (arith, nat_tests);
        dialogues = λ d b. grind (arith, nat_tests);
        answered = λ last l. grind (arith, nat_tests);
        keepers = λ d c. grind (arith, nat_tests);
        byes = λ o d b. grind (arith, nat_tests);
        numbers = λ n. grind (arith, nat_tests);
        few = grind (arith, nat_tests);
        origin = λ o. grind (arith, nat_tests);
        stands = grind (arith, nat_tests);
      }
  accepts_keeps n d own SipSide.CancelSent e =
      record {
        channels = λ c. grind (arith, nat_tests);
        invites = λ t. grind (arith, nat_tests);
        connects = λ r. grind (arith, nat_tests);
        dialogues = λ d b. grind (arith, nat_tests);
        answered = λ last l. grind (arith, nat_tests);
        keepers = λ d c. grind (arith, nat_tests);
        byes = λ o d b. grind (arith, nat_tests);
        numbers = λ n. grind (arith, nat_tests);
        few = grind (arith, nat_tests);
        origin = λ o. grind (arith, nat_tests);
        stands = grind (arith, nat_tests);
      }
