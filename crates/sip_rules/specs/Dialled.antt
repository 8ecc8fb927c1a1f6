-- An INVITE whose digits make a call.
use Rattle.std.specs.Prelude.{◌≡◌, ℕ, List}
use Rattle.std.specs.Borrow.{Bor}
use Rattle.calls.specs.declared.incoming.Invite.{Invite}
use Rattle.digits.specs.declared.dialled.Dialled.{Dialled}

-- an INVITE whose digits were tested, and nothing else was done
pub record IsAsItCame (came : Invite (Bor (List ℕ))) (tested : Invite Dialled) : Type 0 where
  pub transaction : tested.transaction ≡ came.transaction
  pub dialogue : tested.dialogue ≡ came.dialogue
  pub digits : tested.digits.octets.now ≡ came.digits.now
