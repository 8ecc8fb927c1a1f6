-- The number and the text of each ground of refusal.
use Rattle.std.specs.Prelude.{ℕ, List, [], ◌++◌, Some, None, Option, codes}
use Rattle.std.specs.Fmt.{decimal}
use Rattle.refusals.specs.declared.Ground.{Ground}
use Rattle.refusals.specs.declared.Ground.TheVariants.{TooFewOctets, WrongDiscriminator, UnknownType, ElementPastEnd, BadElement, IncompleteSetup, BadReference, StatusOutOfRange, BufferTooShort, FieldOutOfRange, SettingOutOfRange, NoSuchCall, NotNow, TimerNotRunning, QueueFull, TransactionInUse, DialogueInUse, ReferenceInUse}

-- numbers below 20 come from the input, those from 20 on from the state
abbrev pub number_of : Ground → ℕ
number_of TooFewOctets = 1
number_of WrongDiscriminator = 2
number_of UnknownType = 3
number_of ElementPastEnd = 4
number_of BadElement = 5
number_of IncompleteSetup = 6
number_of BadReference = 7
number_of StatusOutOfRange = 8
number_of BufferTooShort = 9
number_of FieldOutOfRange = 10
number_of SettingOutOfRange = 11
number_of NoSuchCall = 20
number_of NotNow = 21
number_of TimerNotRunning = 22
number_of QueueFull = 23
number_of TransactionInUse = 24
number_of DialogueInUse = 25
number_of ReferenceInUse = 26

-- the words that stand for the ground wherever it is shown
abbrev pub words_of : Ground → List ℕ
words_of TooFewOctets = codes "fewer than five octets"
words_of WrongDiscriminator = codes "octets 0 and 1 are not 08 02"
words_of UnknownType = codes "the message type is unknown"
words_of ElementPastEnd = codes "an element runs past the end"
words_of BadElement = codes "an element breaks its layout"
words_of IncompleteSetup = codes "SETUP without channel or called number"
words_of BadReference = codes "call reference 0, or SETUP with flag 1"
words_of StatusOutOfRange = codes "the SIP status is not 100 to 699"
words_of BufferTooShort = codes "the buffer is too short"
words_of FieldOutOfRange = codes "a field to be written is out of its range"
words_of SettingOutOfRange = codes "a setting is out of its range"
words_of NoSuchCall = codes "no call matches"
words_of NotNow = codes "the call does not take this now"
words_of TimerNotRunning = codes "that timer is not running"
words_of QueueFull = codes "not enough free places in an outgoing queue"
words_of TransactionInUse = codes "a call with an unanswered INVITE has this transaction"
words_of DialogueInUse = codes "another call holds this dialogue"
words_of ReferenceInUse = codes "a call has this reference already"

-- the octet at which it was found, where there is one
abbrev pub place_text : Option ℕ → List ℕ
place_text None = []
place_text (Some place) = codes " at " ++ decimal place

-- a refusal as a line says it: the number, the place if there is one, and the words
abbrev pub refusal_text : Ground → Option ℕ → List ℕ
refusal_text why place = codes "refused " ++ (decimal (number_of why) ++ (place_text place ++ (codes ": " ++ words_of why)))
