-- What a line of input is, before any text is made of it.
use Rattle.std.specs.Prelude.{ℕ, Bool, true, false, List, [], ◌∷◌, is_ok, Some, None, Option, ◌==◌}
use Rattle.std.specs.Option.{option_map}
use Rattle.hexadecimal.specs.Text.{octets_in}
use Rattle.messages.specs.Reading.{decoded}
use Rattle.message_text.specs.declared.answer.Answer.{Answer}
use Rattle.message_text.specs.declared.answer.Answer.TheVariants.{Message, Refused, NotHex}

-- an empty line, or one that begins with #
abbrev pub is_remark : List ℕ → Bool
is_remark [] = true
is_remark (x ∷ xs) = x == 35

-- no octets at all, or octets that are a message or are none
abbrev pub verdict : Answer → Option Bool
verdict (Message text) = Some true
verdict (Refused text) = Some false
verdict NotHex = None

abbrev pub verdict_on : List ℕ → Option Bool
verdict_on line = option_map (λ octets. is_ok (decoded octets)) (octets_in line)
