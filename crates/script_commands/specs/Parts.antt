-- How the words of a line are taken one after the other: the first that is not what it has to be is the reason.
use Rattle.std.specs.Prelude.{ℕ, ◌^◌, List, Ok, Err, Result}
use Rattle.std.specs.Option.{ok_or}
use Rattle.script_words.specs.Numbers.{number_below}
use Rattle.script_words.specs.declared.bad_line.BadLine.{BadLine}
use Rattle.script_words.specs.declared.bad_line.BadLine.TheVariants.{NoNumber}

-- what comes of a part, if it is good
abbrev pub and_then : {A B : Type 0} → Result A BadLine → (A → Result B BadLine) → Result B BadLine
and_then (Ok x) more = more x
and_then (Err why) more = Err why

-- a good answer seen in another way
abbrev pub seen : {A B : Type 0} → (A → B) → Result A BadLine → Result B BadLine
seen f r = and_then r (λ x. Ok (f x))

-- a number up to 2 to the 64th, and up to 2 to the 16th
abbrev pub number : List ℕ → Result ℕ BadLine
number word = ok_or (number_below (2 ^ 64) word) NoNumber

abbrev pub short : List ℕ → Result ℕ BadLine
short word = ok_or (number_below (2 ^ 16) word) NoNumber
