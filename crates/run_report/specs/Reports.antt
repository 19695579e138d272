-- What a single entry adds to a run's report.
use Rattle.std.specs.Prelude.{ℕ, List, []}
use Rattle.engine_types.specs.declared.Entry.{Entry}
use Rattle.run_model.specs.Journals.{Setup, holding}
use Rattle.run_model.specs.Lines.{ended_line}

-- the line of an entry that comes after these; only an action that ended well has one
abbrev pub entry_line : Setup → List Entry → Entry → List ℕ
entry_line setup past (Entry.Ended w outcome) = ended_line setup outcome (holding past w)
entry_line setup past _ = []
