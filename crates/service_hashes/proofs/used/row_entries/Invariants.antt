use Rattle.std.proofs.Common.{◌≡◌, map, take}
use Rattle.project_pages.proofs.Keys.{entry_of}
use Rattle.service_hashes.proofs.Rows.{key_of, shown_of}
use Rattle.service_hashes.proofs.used.row_entries.Given as goal

abbrev pub invariant-loop-row : goal.invariant-loop-row
invariant-loop-row l = l.entries ≡ take l.row-index (map (entry_of key_of (shown_of l.digests l.kind)) l.rows)
