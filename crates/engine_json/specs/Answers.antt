-- How a response is read.
use Rattle.std.specs.Prelude.{◌≡◌, Bool, true, false, Option, Some, None, Result, Ok, Err}
use Rattle.engine_json.specs.declared.replies.ReplyRefusal.{ReplyRefusal}
use Rattle.engine_types.specs.declared.Reply.{Reply}

-- an answer is the reply that is meant, or says that none is, where the body hasn't too many values,
-- and else says that; a want of memory is free
abbrev pub IsReadAs : Result Reply ReplyRefusal → Bool → Option Reply → Type 0
IsReadAs (Ok reply) many meant = (many ≡ false) × (meant ≡ Some reply)
IsReadAs (Err ReplyRefusal.TooLarge) many meant = many ≡ true
IsReadAs (Err ReplyRefusal.BadBody) many meant = (many ≡ false) × (meant ≡ None)
IsReadAs (Err ReplyRefusal.Memory) many meant = Unit {0}
