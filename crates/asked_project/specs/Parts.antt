-- Parts of what a call is asked that have functions of their own.
use Rattle.std.specs.Prelude.{ℕ, List, Result, Ok, Err}
use Rattle.asked_project.specs.Asking.{Variables}
use Rattle.asked_project.specs.Meaning.{MeansAs, project_for}
use Rattle.asked_project.specs.declared.asking.Asked.{Asked}
use Rattle.compose_words.specs.declared.Options.{Options}
use Rattle.declared_set.specs.declared.LoadedProject.{LoadedProject}
use Rattle.outside_files.specs.Files.{Contents}
use Rattle.refusals.specs.declared.Refusal.{Refusal}

-- an answer for options has the project that these mean, or its refusal
abbrev pub MeansFor : Options → Variables → List ℕ → Contents → Result Asked Refusal → Type 0
MeansFor options env cwd files = MeansAs (project_for options env cwd files)

-- what is asked, where a project was loaded for options
abbrev pub asked_with : Options → Result LoadedProject Refusal → Result Asked Refusal
asked_with options (Ok loaded) = Ok (record { options = options; loaded = loaded })
asked_with options (Err refusal) = Err refusal

-- a refusal of what was loaded: of the project's name, of its active services, of what it
-- declares, or a want of memory
abbrev pub IsOfProject : Refusal → Type 0
IsOfProject (Refusal.Name refusal) = Unit {0}
IsOfProject (Refusal.Active refusal) = Unit {0}
IsOfProject (Refusal.Project refusal) = Unit {0}
IsOfProject Refusal.Memory = Unit {0}
IsOfProject _ = ⊥
