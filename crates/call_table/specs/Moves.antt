-- How the pool of a trunk moves: by the pool's own moves, and by those alone that gave a channel or took one back.
use Rattle.std.specs.Prelude.{◌≡◌, ℕ, Bool, true, false, Some, None, Option, ◌==◌}
use Rattle.messages.specs.declared.record.Channel.{Channel}
use Rattle.pools.specs.States.{States, seized}

-- is channel c the one that is wished
abbrev pub is_wished : ℕ → Option Channel → Bool
is_wished c None = false
is_wished c (Some wish) = wish.number == c

-- seizures, in a kind of pool whose moves these are
module _ {P : Type 0} (Seizes : P → ℕ → Bool → P → Type 0) (SeizesAny : P → Option ℕ → P → Type 0) where
  -- the wished channel by its number, any other by the pool's own choice
  abbrev pub SeizesOne : Bool → P → ℕ → P → Type 0
  SeizesOne true before c after = Seizes before c true after
  SeizesOne false before c after = SeizesAny before (Some c) after

  -- what was seized for a wish, or without one; where nothing was, the pool is the very same
  abbrev pub Took : Option Channel → P → Option ℕ → P → Type 0
  Took wish before None after = after ≡ before
  Took wish before (Some c) after = SeizesOne (is_wished c wish) before c after

-- releases, in a kind of pool whose moves these are
module _ {P : Type 0} (state : P → States) (Releases : P → ℕ → Bool → P → Type 0) where
  -- the channel that was given back, granted if the pool had it as seized; where none was, the pool is the very same
  abbrev pub GaveBack : P → Option ℕ → P → Type 0
  GaveBack before None after = after ≡ before
  GaveBack before (Some c) after = Releases before c (seized (state before c)) after
