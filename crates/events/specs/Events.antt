-- What an event says to the rules: the octets that it owns are read.
use Rattle.std.specs.Prelude.{vec_items}
use Rattle.calls.specs.Rules as rules
use Rattle.events.specs.declared.event.Event.{Event}
use Rattle.events.specs.declared.event.Event.TheVariants.{Exchange, Invite, Cancel, Bye, Response, Expiry, CancelExpiry, TakeExchange, TakeSip}

abbrev pub event_of : Event → rules.Event
event_of (Exchange octets) = rules.Exchange (vec_items octets)
event_of (Invite t d digits) = rules.Invite t d (vec_items digits)
event_of (Cancel t) = rules.Cancel t
event_of (Bye d) = rules.Bye d
event_of (Response r) = rules.Response r.number r.status r.dialogue r.media
event_of (Expiry timer reference) = rules.Expiry timer reference
event_of (CancelExpiry n) = rules.CancelExpiry n
event_of TakeExchange = rules.TakeExchange
event_of TakeSip = rules.TakeSip
