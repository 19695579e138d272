-- What is counted of a run's journal, and of the log of a hand.
use Rattle.std.specs.Prelude.{ℕ, Bool, true, false, List, count_by}
use Rattle.engine_types.specs.declared.Entry.{Entry}
use Rattle.engine_types.specs.declared.Exchange.{Exchange}
use Rattle.engine_types.specs.declared.Outcome.{Outcome}
use Rattle.engine_types.specs.declared.Reply.{Reply}
use Rattle.engine_types.specs.declared.Request.{Request}

-- whether an entry claims an action
unfoldable pub is_claim : Entry → Bool
is_claim (Entry.Claim w a) = true
is_claim _ = false

-- whether a reply says that an action is done: a report of a poll doesn't, nor does a refusal
unfoldable pub is_done : Reply → Bool
is_done (Reply.Made id) = true
is_done Reply.Done = true
is_done Reply.Already = true
is_done _ = false

-- whether an entry ends an action well
unfoldable pub ends_well : Entry → Bool
ends_well (Entry.Ended w (Outcome.Answered reply)) = is_done reply
ends_well _ = false

-- whether a request asks for a container to be made
unfoldable pub is_create : Request → Bool
is_create (Request.Create name spec) = true
is_create _ = false

-- how many actions a journal claims
abbrev pub sent : List Entry → ℕ
sent journal = count_by (λ entry. is_claim entry) journal

-- how many of them ended well
abbrev pub answered : List Entry → ℕ
answered journal = count_by (λ entry. ends_well entry) journal

-- how many exchanges of a log ask for a container to be made
abbrev pub creates : List Exchange → ℕ
creates log = count_by (λ exchange. is_create exchange.request) log
