-- What a line is: a remark, or what its words ask for.
use Rattle.std.specs.Prelude.{ℕ, ◌+◌, ◌-◌, ◌^◌, List, map, Some, None, Option, Ok, Err, Result, if◌then◌else◌, min}
use Rattle.std.specs.List.{enumerate_from}
use Rattle.std.specs.Str.Lines.{lines}
use Rattle.message_text.specs.Verdicts.{is_remark}
use Rattle.script_words.specs.declared.bad_line.BadLine.{BadLine}
use Rattle.script_commands.specs.Commands.{Asked, Open, Event, Drain, Calls, asked_by, asked_of}
use Rattle.script_commands.specs.Openings.{Settings}
use Rattle.script_lines.specs.declared.line.Line.{Line}
use Rattle.script_lines.specs.declared.line.Meaning.{Meaning}
use Rattle.script_lines.specs.declared.line.Meaning.TheVariants.{Remark, Command, Bad}

-- nothing at all for a remark
abbrev pub asked_by_meaning : Meaning → Option (Result Asked BadLine)
asked_by_meaning Remark = None
asked_by_meaning (Command command) = Some (Ok (asked_by command))
asked_by_meaning (Bad why) = Some (Err why)

abbrev pub meant_by : List ℕ → Option (Result Asked BadLine)
meant_by text = if is_remark text then None else Some (asked_of text)

-- a line as it is read: its number, its text and what it asks for
pub record Read : Type 0 where
  pub number : ℕ
  pub text : List ℕ
  pub asked : Option (Result Asked BadLine)

abbrev pub read : Line → Read
read line = record { number = line.number; text = line.text.now; asked = asked_by_meaning line.meaning }

abbrev pub read_at : ℕ → List ℕ → Read
read_at number text = record { number = number; text = text; asked = meant_by text }

-- the command that a line asks for, where it asks for one
abbrev pub commanded : Option (Result Asked BadLine) → Option Asked
commanded None = None
commanded (Some (Err why)) = None
commanded (Some (Ok asked)) = Some asked

-- the opening that a command is, if it is one
abbrev pub opened : Option Asked → Option Settings
opened None = None
opened (Some (Open settings)) = Some settings
opened (Some (Event event)) = None
opened (Some Drain) = None
opened (Some Calls) = None

-- a line behind so many others: its number is one more, and at most 2^64 - 1
abbrev pub numbered : ℕ × List ℕ → Read
numbered e = read_at (min (e.0 + 1) (2 ^ 64 - 1)) e.1

-- what stands between the line ends, in its order
abbrev pub lines_in : List ℕ → List Read
lines_in text = map numbered (enumerate_from 0 (lines text))
