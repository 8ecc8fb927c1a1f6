-- What a line asks for.
use Rattle.std.specs.Prelude.{ℕ, List, [], ◌∷◌, Ok, Err, Result, if◌then◌else◌, codes, bytes_eq}
use Rattle.calls.specs.Rules as rules
use Rattle.events.specs.Events.{event_of}
use Rattle.script_words.specs.Words.{words_of}
use Rattle.script_words.specs.declared.bad_line.BadLine.{BadLine}
use Rattle.script_words.specs.declared.bad_line.BadLine.TheVariants.{NoSuchWord, WrongNumberOfWords}
use Rattle.script_commands.specs.declared.command.Command.{Command}
use Rattle.script_commands.specs.declared.command.Command.TheVariants as variant
use Rattle.script_commands.specs.Events as events
use Rattle.script_commands.specs.Openings.{Settings, settings_of, open_with}
use Rattle.script_commands.specs.Parts.{seen}

pub data Asked : Type 0 where
  Open : Settings → Asked
  Event : rules.Event → Asked
  Drain : Asked
  Calls : Asked

-- a command whose octets and lists are read
abbrev pub asked_by : Command → Asked
asked_by (variant.Open opening) = Open (settings_of opening)
asked_by (variant.Event event) = Event (event_of event)
asked_by variant.Drain = Drain
asked_by variant.Calls = Calls

-- a word that stands alone
abbrev pub alone : Asked → List (List ℕ) → Result Asked BadLine
alone asked [] = Ok asked
alone asked (word ∷ words) = Err WrongNumberOfWords

-- the event that a first word and the words behind it ask for
abbrev pub event : List ℕ → List (List ℕ) → Result rules.Event BadLine
event first words =
    if bytes_eq first (codes "exchange") then events.exchange words else
    if bytes_eq first (codes "invite") then events.invite words else
    if bytes_eq first (codes "cancel") then events.cancel words else
    if bytes_eq first (codes "bye") then events.bye words else
    if bytes_eq first (codes "response") then events.response words else
    if bytes_eq first (codes "expire") then events.expire words else
    if bytes_eq first (codes "take") then events.take words else Err NoSuchWord

abbrev pub command_with : List ℕ → List (List ℕ) → Result Asked BadLine
command_with first words =
    if bytes_eq first (codes "open") then seen Open (open_with words) else
    if bytes_eq first (codes "drain") then alone Drain words else
    if bytes_eq first (codes "calls") then alone Calls words else seen Event (event first words)

abbrev pub command_of : List (List ℕ) → Result Asked BadLine
command_of [] = Err NoSuchWord
command_of (first ∷ words) = command_with first words

abbrev pub asked_of : List ℕ → Result Asked BadLine
asked_of line = command_of (words_of line)
