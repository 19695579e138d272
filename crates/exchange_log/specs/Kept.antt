-- How a log keeps exchanges.
use Rattle.std.specs.Prelude.{ℕ, List, [], ◌∷◌, ◌++◌, ◌-◌, ◌≤◌, drop, take}
use Rattle.engine_types.specs.declared.Exchange.{Exchange}
use Rattle.engine_types.specs.declared.Outcome.{Outcome}
use Rattle.engine_types.specs.declared.Reply.{Reply}
use Rattle.engine_types.specs.declared.Request.{Request}
use Rattle.exchange_log.specs.declared.look.Look.{Look}

-- the exchange that is kept so: a look at the container with this id, which was answered with this report
abbrev pub exchange_of : Look → Exchange
exchange_of look = record { request = Request.Inspect look.id; outcome = Outcome.Answered (Reply.State look.report) }

-- Looks among the exchanges that are kept whole, of which so many are left out: each look stands behind as many of these as it says.
abbrev pub among : ℕ → List Look → List Exchange → List Exchange
among past [] whole = whole
among past (look ∷ looks) whole =
    take (look.behind - past) whole ++ exchange_of look ∷ among look.behind looks (drop (look.behind - past) whole)

-- Each look stands behind no fewer whole ones than the look before it, and none behind more than there are.
abbrev pub AreInOrder : ℕ → List Look → ℕ → Type 0
AreInOrder past [] all = past ≤ all
AreInOrder past (look ∷ looks) all = (past ≤ look.behind) × AreInOrder look.behind looks all
