-- One file alone.
use Rattle.std.specs.Prelude.{◌≡◌, true, Ok}
use Rattle.tree_base.specs.declared.Tree.{Tree, Null}
use Rattle.long_forms.specs.LongForms.{long_forms}
use Rattle.merge_rules.specs.Alone.{no_twins}
use Rattle.merge_rules.specs.Laws.{no_mark, own_keys}
use Rattle.merge_rules.specs.Overlay.{over_files}
use Rattle.merge_tables.specs.Attributes.{overlay_rules}

-- one file without marks in which no two entries are one merges to its long form
abbrev pub OneFileIsItsLongForm : Type 0
OneFileIsItsLongForm =
    (file long : Tree) → long_forms file ≡ Ok long → no_mark long ≡ true → own_keys long ≡ true → no_twins overlay_rules long ≡ true → over_files Null long ≡ Ok long
