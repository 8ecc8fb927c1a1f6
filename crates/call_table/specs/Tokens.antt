-- Tokens and the channels that they stand for.
use Rattle.std.specs.Prelude.{ℕ, Bool, if◌then◌else◌, Some, None, Option}
use Rattle.call_table.specs.declared.token.Token.{Token}

-- the channel of a token, if there is one
abbrev pub token_channel : Option Token → Option ℕ
token_channel None = None
token_channel (Some token) = Some token.channel

-- channel c where it is granted, else none
abbrev pub granted_channel : Bool → ℕ → Option ℕ
granted_channel is_granted c = if is_granted then Some c else None

-- the token of a channel, if there is one
abbrev pub token_of : Option ℕ → Option Token
token_of None = None
token_of (Some c) = Some (record { channel = c })
