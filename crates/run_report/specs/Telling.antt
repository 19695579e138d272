-- Which entry says how an action stands, and how it stands by that.
use Rattle.std.specs.Prelude.{ℕ, Bool, false, if◌then◌else◌, ◌==◌, List, [], ◌∷◌, Option, Some, None}
use Rattle.engine_types.specs.declared.Action.{Action}
use Rattle.engine_types.specs.declared.Entry.{Entry}
use Rattle.run_model.specs.Journals.{Free, Out, Standing, ended_as, holding, is_work_on}
use Rattle.run_model.specs.Plans.{kind_of}

-- whether an entry that comes after these claims an action or ends it
abbrev pub decides : List Entry → Entry → ℕ → Bool
decides past (Entry.Claim v b) a = b == a
decides past (Entry.Ended v outcome) a = is_work_on a (holding past v)
decides past _ a = false

-- the latest entry that claims an action or ends it
abbrev pub latest_deciding : List Entry → ℕ → Option Entry
latest_deciding [] a = None
latest_deciding (entry ∷ past) a =
    if decides past entry a then Some entry else latest_deciding past a

-- how an action stands by the entry that claims it or ends it
abbrev pub standing_by : List Action → Entry → ℕ → Standing
standing_by actions (Entry.Claim v b) a = Out
standing_by actions (Entry.Ended v outcome) a = ended_as (kind_of actions a) outcome
standing_by actions _ a = Free
