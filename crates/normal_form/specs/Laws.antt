-- Laws about the names of projects.
use Rattle.std.specs.Prelude.{◌≡◌, ℕ, IsTrue, List, Option, Some, Ok}
use Rattle.loaded_files.specs.declared.Loaded.{Loaded}
use Rattle.normal_form.specs.ProjectNames.{is_name}
use Rattle.normal_form.specs.Projects.{name_given, project_name}

-- a name that a call gives is the project's, whatever its files say
abbrev pub GivenNamesWin : Type 0
GivenNamesWin =
    (option : Option (List ℕ)) (loaded : Loaded) (name : List ℕ)
    → name_given option loaded.env ≡ Some name → IsTrue (is_name name)
    → project_name option loaded ≡ Ok name
