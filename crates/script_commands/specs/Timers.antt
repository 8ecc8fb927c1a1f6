-- The names of timers.
use Rattle.std.specs.Prelude.{ℕ, List, Ok, Err, Result, if◌then◌else◌, codes, bytes_eq}
use Rattle.calls.specs.declared.answers.Timer.{Timer}
use Rattle.calls.specs.declared.answers.Timer.TheVariants.{T301, T302, T303, T305, T308, T310, T313}
use Rattle.script_words.specs.declared.bad_line.BadLine.{BadLine}
use Rattle.script_words.specs.declared.bad_line.BadLine.TheVariants.{NoTimer}

abbrev pub timer_name : Timer → List ℕ
timer_name T301 = codes "T301"
timer_name T302 = codes "T302"
timer_name T303 = codes "T303"
timer_name T305 = codes "T305"
timer_name T308 = codes "T308"
timer_name T310 = codes "T310"
timer_name T313 = codes "T313"

-- this timer if the word is its name
abbrev pub or_timer : List ℕ → Timer → Result Timer BadLine → Result Timer BadLine
or_timer word timer other = if bytes_eq word (timer_name timer) then Ok timer else other

abbrev pub timer_of : List ℕ → Result Timer BadLine
timer_of word = or_timer word T301 (or_timer word T302 (or_timer word T303 (or_timer word T305 (or_timer word T308 (or_timer word T310 (or_timer word T313 (Err NoTimer)))))))
