-- What a queue stands for.
use Rattle.std.specs.Prelude.{◌≡◌, ℕ, ◌-◌, ◌<◌, ◌≤◌, List, [], ◌∷◌, ◌++◌, length}
use Rattle.queues.specs.Ring.{in_ring}
use Rattle.queues.specs.Few.{few_items}
use Rattle.queues.specs.declared.few.Few.{Few}
use Rattle.queues.specs.declared.queue.Queue.{Queue}
use Rattle.queues.specs.declared.queue.Refused.{Refused}
use Rattle.refusals.specs.declared.Ground.TheVariants.{QueueFull}

module _ {M : Type 0} where
  -- the messages that wait, the oldest first
  abbrev pub waiting : Queue M → List M
  waiting q = in_ring q.lane.places.now q.first q.len

  -- how many can wait at once
  abbrev pub room : Queue M → ℕ
  room q = length q.lane.places.now

  -- how many more can wait
  abbrev pub free : Queue M → ℕ
  free q = room q - length (waiting q)

  -- there was a place, and the message waits behind the others
  abbrev pub Accepted : Queue M → Queue M → M → Type 0
  Accepted before after m = (0 < free before) × (waiting after ≡ waiting before ++ m ∷ [])

  -- all places were taken: the message comes back with the ground, and the queue is the very same
  abbrev pub HandedBack : Queue M → Queue M → M → Refused M → Type 0
  HandedBack before after m back = (free before ≡ 0) × (back.ground ≡ QueueFull) × (back.message ≡ m) × (after ≡ before)

  -- there were as many places, and the messages wait behind the others in their order
  abbrev pub FewAccepted : Queue M → Queue M → Few M → Type 0
  FewAccepted before after few = (length (few_items few) ≤ free before) × (waiting after ≡ waiting before ++ few_items few)

  -- there were fewer places: all of them come back with the ground, and the queue is the very same
  abbrev pub FewHandedBack : Queue M → Queue M → Few M → Refused (Few M) → Type 0
  FewHandedBack before after few back = (free before < length (few_items few)) × (back.ground ≡ QueueFull) × (back.message ≡ few) × (after ≡ before)

  -- the message was the oldest, and the others wait on
  abbrev pub OldestLeft : Queue M → Queue M → M → Type 0
  OldestLeft before after m = waiting before ≡ m ∷ waiting after

  -- nothing waited, and the queue is the very same
  abbrev pub NothingTaken : Queue M → Queue M → Type 0
  NothingTaken before after = (waiting before ≡ []) × (after ≡ before)
