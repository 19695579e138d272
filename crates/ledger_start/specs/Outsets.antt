-- What a run begins with.
use Rattle.std.specs.Prelude.{ℕ, ◌+◌, ◌<◌, length}
use Rattle.tree_base.specs.Limits.{count_bound}
use Rattle.run_model.specs.Journals.{Setup}
use Rattle.run_model.specs.Plans.{kind_of, needs_of, slot_needs}
use Rattle.journal_laws.specs.Courses.{setup_of}
use Rattle.ledger_core.specs.Beginning.{MayBegin, begun}
use Rattle.ledger_start.specs.declared.outset.Outset.{Outset}

-- a run may begin with this
abbrev pub MayStart : Outset → Type 0
MayStart outset =
    MayBegin outset.declared.now outset.observed.now outset.plan.now outset.limits

-- what the run is of
abbrev pub start_setup : Outset → Setup
start_setup outset =
    setup_of (begun outset.declared.now outset.observed.now outset.plan.now outset.limits)

-- no action has more needs than 32 bits number
abbrev pub HasFewNeeds : Setup → Type 0
HasFewNeeds setup = (a : ℕ) → length (needs_of setup.actions a)
    + length (slot_needs setup.declared (kind_of setup.actions a)) < count_bound
