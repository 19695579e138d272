-- A law of long forms, above their definition.
use Rattle.std.specs.Prelude.{◌≡◌, Ok}
use Rattle.tree_base.specs.declared.Tree.{Tree}
use Rattle.long_forms.specs.LongForms.{long_forms}

-- what is in long forms stays as it is
abbrev pub LongFormsStay : Type 0
LongFormsStay = (tree long : Tree) → long_forms tree ≡ Ok long → long_forms long ≡ Ok long
