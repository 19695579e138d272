-- What workers hold.
use Rattle.std.specs.Prelude.{ℕ, Bool, false, ◌==◌, Option, Some}
use Rattle.engine_types.specs.declared.Entry.{Entry}
use Rattle.run_model.specs.Journals.{Holding, Nothing, Watch, Work}
use Rattle.run_report.specs.declared.held.Held.{Held}

-- what a worker holds, in the words of journals
abbrev pub holding_of : Held → Holding
holding_of Held.Nothing = Nothing
holding_of (Held.Work a) = Work a
holding_of (Held.Watch s) = Watch s

-- whether an entry is a claim, a poll or an end of this worker
abbrev pub is_turn_of : ℕ → Entry → Bool
is_turn_of w (Entry.Claim v a) = v == w
is_turn_of w (Entry.Poll v s) = v == w
is_turn_of w (Entry.Ended v outcome) = v == w
is_turn_of w _ = false

-- what a worker holds after its latest claim, poll or end
abbrev pub permit_of : Option Entry → Holding
permit_of (Some (Entry.Claim v a)) = Work a
permit_of (Some (Entry.Poll v s)) = Watch s
permit_of _ = Nothing
