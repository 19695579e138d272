-- The law of the words in the page of a project.
use Rattle.std.specs.Prelude.{◌≡◌, true}
use Rattle.project_pages.specs.AttributePages.{project_node}
use Rattle.typed_project.specs.declared.project.Project.{Project}
use Rattle.laws_yaml.specs.Printed.{is_printable}
use Rattle.laws_pages.specs.Held.{is_held}

-- each word in the page of a project is read as it stands: the page is read back where its texts and keys are UTF-8 and no
-- mapping in it has a key twice
abbrev pub PagesArePrintable : Type 0
PagesArePrintable = (project : Project) → is_held (project_node project) ≡ true → is_printable (project_node project) ≡ true
