-- What an Engine whose answers are determined makes of a run of one worker.
use Rattle.std.specs.Prelude.{◌≡◌, ℕ, Bool, true, false, List, [], ◌∷◌, reverse}
use Rattle.std.specs.List.{list_any}
use Rattle.engine_types.specs.declared.Engine.{Engine}
use Rattle.engine_types.specs.declared.Entry.{Entry}
use Rattle.engine_types.specs.declared.Exchange.{Exchange}
use Rattle.engine_types.specs.declared.LateWhy.{LateWhy}
use Rattle.engine_types.specs.declared.Outcome.{Outcome}
use Rattle.engine_types.specs.declared.Request.{Request}
use Rattle.engine_types.specs.declared.SeenEnd.{SeenEnd}
use Rattle.engine_types.specs.declared.SeenFault.{SeenFault}
use Rattle.outside_files.specs.Counts.{one_more}
use Rattle.run_model.specs.Journals.{Setup, has_stopped}
use Rattle.run_model.specs.Logs.{exchanges_of}
use Rattle.run_model.specs.Runs.{IsRun, Task, run_exchanges, run_setup}

-- how an Engine stands: what it holds, behind so many exchanges
pub record Stand : Type 0 where
  pub engine : Engine
  pub made : ℕ

-- an Engine whose answers are determined: what each exchange comes to, its outcome and what the Engine then holds; and whether workers
-- are asked to stop behind so many exchanges
pub record Rules : Type 0 where
  pub next : Stand → Request → Outcome × Engine
  pub asked : ℕ → Bool

-- how the Engine stands behind the next exchange
abbrev pub stand_after : Rules → Stand → Request → Stand
stand_after rules stand request =
    record { engine = (rules.next stand request).1; made = one_more stand.made }

-- how the Engine stands behind these exchanges, the first one first
abbrev pub after_all : Rules → Stand → List Exchange → Stand
after_all rules stand [] = stand
after_all rules stand (exchange ∷ rest) =
    after_all rules (stand_after rules stand exchange.request) rest

-- each of these exchanges ended as the Engine says
abbrev pub AreServed : Rules → Stand → List Exchange → Type 0
AreServed rules stand [] = Unit {0}
AreServed rules stand (exchange ∷ rest) =
    (exchange.outcome ≡ (rules.next stand exchange.request).0)
    × AreServed rules (stand_after rules stand exchange.request) rest

-- a worker that hasn't stopped isn't asked to
abbrev pub GoesOn : Bool → Bool → Type 0
GoesOn asked stopped = stopped ≡ false → asked ≡ false

-- an entry heeds whether its worker is asked to stop: a Stop stands only where it is, and the answer to an ask only where it isn't,
-- unless it has stopped
abbrev pub Heeds : Bool → Bool → Entry → Type 0
Heeds asked stopped (Entry.Stop w) = asked ≡ true
Heeds asked stopped (Entry.Claim w a) = GoesOn asked stopped
Heeds asked stopped (Entry.Poll w s) = GoesOn asked stopped
Heeds asked stopped (Entry.Idle w) = GoesOn asked stopped
Heeds asked stopped (Entry.Leave w) = GoesOn asked stopped
Heeds asked stopped (Entry.Short w) = GoesOn asked stopped
Heeds asked stopped (Entry.Late w LateWhy.Entries) = GoesOn asked stopped
Heeds asked stopped _ = Unit {0}

-- whether the worker is asked to stop behind these entries
abbrev pub is_asked_in : Rules → Stand → Setup → List Entry → Bool
is_asked_in rules start setup past =
    rules.asked (after_all rules start (exchanges_of setup past 0)).made

-- each entry heeds whether the worker is asked to stop, in a journal with the newest entry first
abbrev pub AreHeeded : Rules → Stand → Setup → List Entry → Type 0
AreHeeded rules start setup [] = Unit {0}
AreHeeded rules start setup (entry ∷ past) =
    AreHeeded rules start setup past
    × Heeds (is_asked_in rules start setup past) (has_stopped past 0) entry

-- whether an observation ended for want of memory
abbrev pub is_short_end : SeenEnd → Bool
is_short_end (SeenEnd.Bad SeenFault.Memory) = true
is_short_end _ = false

-- whether an entry tells of want of memory
abbrev pub wants_memory : Entry → Bool
wants_memory (Entry.Seen observation) = is_short_end observation.end
wants_memory (Entry.Ended w Outcome.Memory) = true
wants_memory (Entry.Short w) = true
wants_memory _ = false

-- a whole run of the task, without want of memory, as an Engine that stood so before it allows it: each exchange ended as the
-- Engine says, and the worker stopped exactly where it was asked to
pub record IsAllowed (rules : Rules) (start : Stand) (task : Task)
    (journal : List Entry) : Type 0 where
  pub run : IsRun task journal
  pub served : AreServed rules start (run_exchanges task journal 0)
  pub heeded : AreHeeded rules start (run_setup task journal) (reverse journal)
  pub ample : list_any wants_memory (reverse journal) ≡ false
