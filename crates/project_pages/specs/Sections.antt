-- The lines of a page, section by section.
use Rattle.std.specs.Prelude.{ℕ, List, [], ◌∷◌, Option}
use Rattle.std.specs.Option.{option_map_or}
use Rattle.project_print.specs.Pages.{entry, shown}
use Rattle.project_print.specs.Written.{hanging}
use Rattle.project_print.specs.declared.node.Node.{Node}
use Rattle.project_print.specs.declared.node.Node.TheVariants.{Null, Text}

-- the lines of a section, and nothing of one that is empty
abbrev pub section_text : {X : Type 0} → List ℕ → (List X → Node) → List X → List ℕ
section_text name show [] = []
section_text name show (x ∷ xs) = hanging 0 (entry (name, shown (show (x ∷ xs))))

-- what is shown of a text that may be missing
abbrev pub maybe_text : Option (List ℕ) → Node
maybe_text value = option_map_or Text value Null
