-- A SETUP whose digits can be a number.
use Rattle.std.specs.Prelude.{◌≡◌, true, false, Some, None, Option}
use Rattle.messages.specs.declared.record.Message.{Message}
use Rattle.messages.specs.declared.record.Part.{Part}
use Rattle.reader.specs.Seen.{seen_record}
use Rattle.calls.specs.Effects.{misdialled}
use Rattle.exchange_rules.specs.declared.setup.DialledSetup.{DialledSetup}

-- the SETUP as it came, or nothing where its digits cannot be a number
abbrev pub Dials : Message Part → Option DialledSetup → Type 0
Dials m None = misdialled (seen_record m) ≡ true
Dials m (Some s) = (misdialled (seen_record m) ≡ false) × (s.message ≡ m)
