use Rattle.std.proofs.Common.{◌≡◌, map, take}
use Rattle.std.specs.Prelude.{filter}
use Rattle.project_pages.specs.AttributePages.{attribute_entry}
use Rattle.project_pages.specs.Puts.{is_hashed}
use Rattle.project_pages.proofs.attributes.hashed_entries.Given as goal

abbrev pub invariant-loop-attribute : goal.invariant-loop-attribute
invariant-loop-attribute l = l.entries ≡ map attribute_entry (filter is_hashed (take l.attribute-index l.attributes))
