-- The opening that the words behind `open` ask for.
use Rattle.std.specs.Prelude.{ℕ, List, [], ◌∷◌, Ok, Err, Result, if◌then◌else◌, codes, bytes_eq, vec_items}
use Rattle.std.specs.Option.{ok_or}
use Rattle.script_words.specs.Channels.{channels_of}
use Rattle.script_words.specs.declared.bad_line.BadLine.{BadLine}
use Rattle.script_words.specs.declared.bad_line.BadLine.TheVariants.{WrongNumberOfWords, NoPool}
use Rattle.script_commands.specs.declared.command.PoolKind.{PoolKind}
use Rattle.script_commands.specs.declared.command.PoolKind.TheVariants as kind
use Rattle.script_commands.specs.declared.command.Opening.{Opening}
use Rattle.script_commands.specs.Parts.{and_then, number}

pub data Pool : Type 0 where
  Link : Pool
  Turn : List ℕ → Pool

-- an opening whose list is read: the length of a full number, the number of the first INVITE, and the places of both queues
pub record Settings : Type 0 where
  pub pool : Pool
  pub length : ℕ
  pub first : ℕ
  pub exchange_places : ℕ
  pub sip_places : ℕ

abbrev pub pool_of : PoolKind → Pool
pool_of kind.Link = Link
pool_of (kind.Turn channels) = Turn (vec_items channels)

abbrev pub settings_of : Opening → Settings
settings_of opening = record { pool = pool_of opening.pool; length = opening.length; first = opening.first; exchange_places = opening.exchange_places; sip_places = opening.sip_places }

abbrev pub settings_with : Pool → List ℕ → List ℕ → List ℕ → List ℕ → Result Settings BadLine
settings_with pool length first exchange sip = and_then (number length) (λ l. and_then (number first) (λ f. and_then (number exchange) (λ e. and_then (number sip) (λ s.
    Ok (record { pool = pool; length = l; first = f; exchange_places = e; sip_places = s })))))

abbrev pub settings : Pool → List (List ℕ) → Result Settings BadLine
settings pool (length ∷ first ∷ exchange ∷ sip ∷ []) = settings_with pool length first exchange sip
settings pool words = Err WrongNumberOfWords

abbrev pub turn : List (List ℕ) → Result Settings BadLine
turn [] = Err WrongNumberOfWords
turn (list ∷ words) = and_then (ok_or (channels_of list) NoPool) (λ channels. settings (Turn channels) words)

abbrev pub open_with : List (List ℕ) → Result Settings BadLine
open_with [] = Err WrongNumberOfWords
open_with (pool ∷ words) = if bytes_eq pool (codes "link") then settings Link words else if bytes_eq pool (codes "turn") then turn words else Err NoPool
