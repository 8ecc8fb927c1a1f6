-- What is printed of a line that asks for nothing.
use Rattle.std.specs.Prelude.{ℕ, List, codes}
use Rattle.script_words.specs.declared.bad_line.BadLine.{BadLine}
use Rattle.script_words.specs.declared.bad_line.BadLine.TheVariants.{NoSuchWord, WrongNumberOfWords, NoNumber, NoHexadecimal, NoTimer, NoPool, NeitherMediaNorSilent, NoQueue}

abbrev pub reason_text : BadLine → List ℕ
reason_text NoSuchWord = codes "no such word"
reason_text WrongNumberOfWords = codes "wrong number of words"
reason_text NoNumber = codes "no number"
reason_text NoHexadecimal = codes "no hexadecimal octets"
reason_text NoTimer = codes "no timer"
reason_text NoPool = codes "no pool"
reason_text NeitherMediaNorSilent = codes "neither media nor silent"
reason_text NoQueue = codes "no queue"
