use Rattle.std.proofs.Common.{◌≡◌, ◌++◌, drop, map}
use Rattle.project_print.specs.Pages.{entry, item, shown}
use Rattle.project_print.specs.Written.{entries_text, items_text, parts_text}
use Rattle.project_print.proofs.Blocks.{pairs_of}
use Rattle.project_print.proofs.block_layout.+layout.Given as goal

abbrev pub invariant-put_entries-loop-at : goal.invariant-put_entries-loop-at
invariant-put_entries-loop-at l =
    l.out ++ parts_text l.depth l.at (drop l.at (map entry (pairs_of l.keys l.values))) ≡ l.initial.out ++ entries_text l.depth (pairs_of l.keys l.values)

abbrev pub invariant-put_items-loop-at : goal.invariant-put_items-loop-at
invariant-put_items-loop-at l =
    l.out ++ parts_text l.depth l.at (drop l.at (map item (map shown l.items))) ≡ l.initial.out ++ items_text l.depth (map shown l.items)
