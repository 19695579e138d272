-- The law of rows of slots.
use Rattle.std.specs.Prelude.{◌≡◌, List, map}
use Rattle.engine_types.specs.declared.Entry.{Entry}
use Rattle.rank_rows.specs.Ranks.{least}
use Rattle.run_model.specs.Journals.{Setup}
use Rattle.run_model.specs.Legal.{next_poll}
use Rattle.slot_rows.specs.Keys.{slot_key}
use Rattle.slot_rows.specs.Slots.{AreSlots}
use Rattle.slot_rows.specs.declared.slot_row.SlotRow.{SlotRow}

-- rows that say what these entries say have the slot that is polled next as their first
abbrev pub FirstIsNextPoll : Type 0
FirstIsNextPoll = (setup : Setup) (past : List Entry) (rows : List SlotRow)
    → AreSlots setup past rows → least (map slot_key rows) ≡ next_poll setup past
