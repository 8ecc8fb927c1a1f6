-- The event that the words behind each first word ask for.
use Rattle.std.specs.Prelude.{ℕ, List, [], ◌∷◌, Ok, Err, Result, if◌then◌else◌, codes, bytes_eq}
use Rattle.std.specs.List.{concat}
use Rattle.std.specs.Option.{ok_or}
use Rattle.calls.specs.Rules as rules
use Rattle.hexadecimal.specs.Text.{octets_in}
use Rattle.script_words.specs.Switches.{flag_of, media_of}
use Rattle.script_words.specs.declared.bad_line.BadLine.{BadLine}
use Rattle.script_words.specs.declared.bad_line.BadLine.TheVariants.{WrongNumberOfWords, NoHexadecimal, NoQueue}
use Rattle.script_commands.specs.Parts.{and_then, seen, number, short}
use Rattle.script_commands.specs.Timers.{timer_of}

-- a dash stands for no digits
abbrev pub digits_of : List ℕ → List ℕ
digits_of word = if bytes_eq word (codes "-") then [] else word

-- all words together are hexadecimal
abbrev pub exchange : List (List ℕ) → Result rules.Event BadLine
exchange [] = Err WrongNumberOfWords
exchange (word ∷ words) = seen rules.Exchange (ok_or (octets_in (concat (word ∷ words))) NoHexadecimal)

abbrev pub invite_with : List ℕ → List ℕ → List ℕ → Result rules.Event BadLine
invite_with transaction dialogue digits = and_then (number transaction) (λ t. and_then (number dialogue) (λ d. Ok (rules.Invite t d digits)))

abbrev pub invite : List (List ℕ) → Result rules.Event BadLine
invite (transaction ∷ dialogue ∷ digits ∷ []) = invite_with transaction dialogue (digits_of digits)
invite words = Err WrongNumberOfWords

abbrev pub cancel : List (List ℕ) → Result rules.Event BadLine
cancel (transaction ∷ []) = seen rules.Cancel (number transaction)
cancel words = Err WrongNumberOfWords

abbrev pub bye : List (List ℕ) → Result rules.Event BadLine
bye (dialogue ∷ []) = seen rules.Bye (number dialogue)
bye words = Err WrongNumberOfWords

abbrev pub response_with : List ℕ → List ℕ → List ℕ → List ℕ → Result rules.Event BadLine
response_with n status dialogue media = and_then (number n) (λ n. and_then (short status) (λ s. and_then (number dialogue) (λ d. and_then (media_of media) (λ m. Ok (rules.Response n s d m)))))

abbrev pub response : List (List ℕ) → Result rules.Event BadLine
response (n ∷ status ∷ dialogue ∷ media ∷ []) = response_with n status dialogue media
response words = Err WrongNumberOfWords

-- a timer of the exchange side, by the flag and the number of its reference
abbrev pub side_timer : List ℕ → List ℕ → List ℕ → Result rules.Event BadLine
side_timer timer flag n = and_then (timer_of timer) (λ t. and_then (flag_of flag) (λ f. and_then (short n) (λ n. Ok (rules.Expiry t (record { flag = f; number = n })))))

abbrev pub cancel_timer : List (List ℕ) → Result rules.Event BadLine
cancel_timer (n ∷ []) = seen rules.CancelExpiry (number n)
cancel_timer words = Err WrongNumberOfWords

abbrev pub other_timer : List ℕ → List (List ℕ) → Result rules.Event BadLine
other_timer timer (flag ∷ n ∷ []) = side_timer timer flag n
other_timer timer words = Err WrongNumberOfWords

abbrev pub timer_end : List ℕ → List (List ℕ) → Result rules.Event BadLine
timer_end timer words = if bytes_eq timer (codes "TC") then cancel_timer words else other_timer timer words

abbrev pub expire : List (List ℕ) → Result rules.Event BadLine
expire [] = Err WrongNumberOfWords
expire (timer ∷ words) = timer_end timer words

abbrev pub take_from : List ℕ → Result rules.Event BadLine
take_from queue = if bytes_eq queue (codes "exchange") then Ok rules.TakeExchange else if bytes_eq queue (codes "sip") then Ok rules.TakeSip else Err NoQueue

abbrev pub take : List (List ℕ) → Result rules.Event BadLine
take (queue ∷ []) = take_from queue
take words = Err WrongNumberOfWords
