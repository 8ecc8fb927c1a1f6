-- A gateway that was opened and run on a list of events, in plain words.
use Rattle.std.specs.Prelude.{◌≡◌, ℕ, List, ◌++◌, Some, Option, OnErr}
use Rattle.pools.specs.States.{States}
use Rattle.queues.specs.Waiting.{waiting, room}
use Rattle.gateway.specs.declared.outgoing.Outgoing.{Outgoing}
use Rattle.gateway.specs.Stands.{InRange, NothingWaits}
use Rattle.refusals.specs.declared.Ground.TheVariants.{SettingOutOfRange}
use Rattle.runs.specs.declared.play.NotPlayed.{NotPlayed}
use Rattle.calls.specs.declared.answers.Answer.{Answer}
use Rattle.calls.specs.declared.record.Call.{Call}
use Rattle.calls.specs.Rules.{Event, State, Stepping}
use Rattle.calls.specs.Run.{Happening, Opening, Run, HistoryOf}
use Rattle.calls.specs.Laws.{Laws}

-- what holds where an event was refused
abbrev pub OnRefused : Answer → Type 0 → Type 0
OnRefused (Answer.Step result) Fact = OnErr result Fact
OnRefused _ Fact = Unit {0}

-- with these settings, this pool and this many places, and no call yet
pub record Opened (pool : States) (full first exchange_places sip_places : ℕ) (start : State) : Type 0 where
  pub opening : Opening start
  pub over_the_pool : start.pool ≡ pool
  pub full_length : start.full ≡ full
  pub first_number : start.next ≡ Some first
  pub exchange_places_lent : start.exchange_places ≡ exchange_places
  pub sip_places_lent : start.sip_places ≡ sip_places

-- a moment of a run, the opening and the end among them: the state that this very run passed through, and the laws at it
pub record Moment (pool : States) (start : State) (later earlier : List Happening) (end : State) : Type 0 where
  pub state : State
  pub came : Run start earlier state
  pub rest : Run state later end
  pub laws : Laws pool earlier state

-- from there the rules lead by exactly these events with these answers to the gateway's own calls, pool, next number and full
-- length. At the opening and after each event the laws hold of the history so far: of the channels that the pool had idle, of the
-- INVITEs, of the dialogues, of the CONNECTs, of each call and of what waits. What waits at the end waits in the lent queues.
pub record Played (pool : States) (full first : ℕ) (lent : Outgoing) (events : List Event) (answers : List Answer) (table : List (Option Call)) (after : States) (next : Option ℕ) (kept : ℕ) (left : Outgoing) : Type 0 where
  pub start : State
  pub begun : Opened pool full first (room lent.exchange) (room lent.sip) start
  pub past : List Happening
  pub told : HistoryOf past events answers
  pub end : State
  pub calls : end.table ≡ table
  pub channels : end.pool ≡ after
  pub next_number : end.next ≡ next
  pub full_length_kept : end.full ≡ kept
  pub exchange_waits : waiting left.exchange ≡ end.exchange
  pub sip_waits : waiting left.sip ≡ end.sip
  pub places_stay : (room left.exchange ≡ end.exchange_places) × (room left.sip ≡ end.sip_places)
  pub steps : Stepping start events answers end
  pub moments : (later earlier : List Happening) → later ++ earlier ≡ past → Moment pool start later earlier end
  pub laws : Laws pool past end

-- nothing is played for a setting out of its range; else where messages wait in the queues; else for want of memory
abbrev pub WhyNotPlayed : ℕ → ℕ → Outgoing → NotPlayed → Type 0
WhyNotPlayed full first queues (NotPlayed.Refused why) = (InRange full first → ⊥) × (why ≡ SettingOutOfRange)
WhyNotPlayed full first queues NotPlayed.QueuesInUse = InRange full first × (NothingWaits queues → ⊥)
WhyNotPlayed full first queues NotPlayed.NoMemory = InRange full first × NothingWaits queues
