-- Words that say one of two things.
use Rattle.std.specs.Prelude.{ℕ, Bool, true, false, List, Ok, Err, Result, if◌then◌else◌, codes, bytes_eq}
use Rattle.script_words.specs.declared.bad_line.BadLine.{BadLine}
use Rattle.script_words.specs.declared.bad_line.BadLine.TheVariants.{NoNumber, NeitherMediaNorSilent}

abbrev pub flag_of : List ℕ → Result Bool BadLine
flag_of word = if bytes_eq word (codes "0") then Ok false else if bytes_eq word (codes "1") then Ok true else Err NoNumber

abbrev pub media_of : List ℕ → Result Bool BadLine
media_of word = if bytes_eq word (codes "media") then Ok true else if bytes_eq word (codes "silent") then Ok false else Err NeitherMediaNorSilent
