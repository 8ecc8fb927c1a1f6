-- What each information element holds, by its contents, and how a message's elements are read one after the other.
use Rattle.std.specs.Prelude.{ℕ, ◌+◌, ◌%◌, Bool, true, false, if◌then◌else◌, ◌&&◌, ◌||◌, List, length, drop, Some, None, Ok, Err, Option, Result, ◌==◌, nat_le, slice_index}
use Rattle.std.specs.List.{list_all}
use Rattle.refusals.specs.declared.Ground.{Ground}
use Rattle.refusals.specs.declared.Ground.TheVariants.{BadElement}
use Rattle.messages.specs.Records.{Cause, Channel, Elements, Misread}

-- the called number's digits as values: where they begin in the message, and what they are
pub record DigitsPart : Type 0 where
  pub place : ℕ
  pub octets : List ℕ

-- 0 to 9, * or # in ASCII
abbrev pub is_digit : ℕ → Bool
is_digit x = (nat_le 48 x && nat_le x 57) || (x == 42 || x == 35)

abbrev pub all_digits : List ℕ → Bool
all_digits xs = list_all is_digit xs

-- the cause element: its first two contents carry the top bit, whatever follows them; below it the first has the location in
-- four bits, the second the cause in seven
abbrev pub cause_of : List ℕ → Option Cause
cause_of xs =
    if nat_le 2 (length xs) && (nat_le 128 (slice_index xs 0) && nat_le 128 (slice_index xs 1))
    then Some (record { value = slice_index xs 1 % 128; location = slice_index xs 0 % 16 }) else None

-- the channel element has three contents: how firmly it is meant (169 exclusive, 161 preferred), then 131, then the number, 1 or more, under the top bit
abbrev pub channel_of : List ℕ → Option Channel
channel_of xs =
    if length xs == 3 && ((slice_index xs 0 == 169 || slice_index xs 0 == 161) && (slice_index xs 1 == 131 && nat_le 129 (slice_index xs 2)))
    then Some (record { number = slice_index xs 2 % 128; exclusive = (slice_index xs 0 == 169) }) else None

-- the progress element has two contents that carry the top bit; what else the last one holds is the description
abbrev pub progress_of : List ℕ → Option ℕ
progress_of xs = if length xs == 2 && (nat_le 128 (slice_index xs 0) && nat_le 128 (slice_index xs 1)) then Some (slice_index xs 1 % 128) else None

-- the called number: behind one content with the top bit all are digits, if any; the first of them stands three octets behind the identifier
abbrev pub digits_of : ℕ → List ℕ → Option DigitsPart
digits_of place xs =
    if nat_le 1 (length xs) && (nat_le 128 (slice_index xs 0) && all_digits (drop 1 xs))
    then Some (record { place = place + 3; octets = drop 1 xs }) else None

-- no element seen yet
abbrev pub bare : {D : Type 0} → Elements D
bare = record { complete = false; cause = None; channel = None; progress = None; digits = None }

abbrev pub with_complete : {D : Type 0} → Elements D → Elements D
with_complete e = record e { complete = true }

abbrev pub with_cause : {D : Type 0} → Elements D → Option Cause → Elements D
with_cause e o = record e { cause = o }

abbrev pub with_channel : {D : Type 0} → Elements D → Option Channel → Elements D
with_channel e o = record e { channel = o }

abbrev pub with_progress : {D : Type 0} → Elements D → Option ℕ → Elements D
with_progress e o = record e { progress = o }

abbrev pub with_digits : {D : Type 0} → Elements D → Option D → Elements D
with_digits e o = record e { digits = o }

abbrev pub absent : {B : Type 0} → Option B → Bool
absent None = true
absent (Some x) = false

-- why octets were refused, and the place of the octet that shows it
abbrev pub misread : (ground : Ground) → ℕ → Misread
misread ground place = record { ground = ground; place = place }

-- an element that was read keeps its layout, or the message is refused at the element's first octet
abbrev pub kept : {B : Type 0} → ℕ → Option B → (Option B → Elements DigitsPart) → Result (Elements DigitsPart) Misread
kept place None take = Err (misread BadElement place)
kept place (Some x) take = Ok (take (Some x))

-- one element joins those seen before it: the first of each kind is read, 90 to 9F are refused, all else is skipped
abbrev pub noted : ℕ → ℕ → List ℕ → Elements DigitsPart → Result (Elements DigitsPart) Misread
noted id place contents seen =
    if nat_le 144 id && nat_le id 159 then Err (misread BadElement place)
    else if id == 161 then Ok (with_complete seen)
    else if id == 8 && absent seen.cause then kept place (cause_of contents) (with_cause seen)
    else if id == 24 && absent seen.channel then kept place (channel_of contents) (with_channel seen)
    else if id == 30 && absent seen.progress then kept place (progress_of contents) (with_progress seen)
    else if id == 112 && absent seen.digits then kept place (digits_of place contents) (with_digits seen)
    else Ok seen
