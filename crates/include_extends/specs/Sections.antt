-- What an included model declares, added to the model that includes it (the Compose Specification, "Include": names
-- that both declare are conflicts).
use Rattle.std.specs.Prelude.{ℕ, List, [], ◌∷◌, if◌then◌else◌, is_some, Result, Ok, Err, codes}
use Rattle.file_paths.specs.Resolving.{Entries}
use Rattle.file_paths.specs.Shapes.{entries_at, entries_in}
use Rattle.include_extends.specs.Services.{bounded}
use Rattle.loaded_files.specs.declared.refusal.Kind.{Kind}
use Rattle.loaded_files.specs.declared.refusal.Kind.TheVariants as kinds
use Rattle.loaded_files.specs.declared.refusal.LoadRefusal.{LoadRefusal}
use Rattle.loaded_files.specs.declared.refusal.LoadRefusal.TheVariants.{Conflict}
use Rattle.tree_base.specs.Answers.{◌>>=◌}
use Rattle.tree_base.specs.Entries.{value_at, with_entry}
use Rattle.tree_base.specs.declared.Tree.{Tree, Map, out-Tree}

-- what a file declares, in the order in which it is added
abbrev pub sections : List (List ℕ × Kind)
sections =
    (codes "services", kinds.Service)
    ∷ (codes "networks", kinds.Network)
    ∷ (codes "volumes", kinds.Volume)
    ∷ (codes "secrets", kinds.Secret)
    ∷ (codes "configs", kinds.Config) ∷ []

-- entries behind others, in their order; the first whose name is there is in conflict
abbrev pub added : Kind → List ℕ → Entries → Entries → Result Entries LoadRefusal
added kind file [] mine = Ok mine
added kind file (entry ∷ more) mine =
    if is_some (value_at mine entry.0) then Err (Conflict kind entry.0 file)
    else added kind file more (with_entry mine entry.0 entry.1)

-- elements with what another file declares of a kind; where it declares nothing they stay
abbrev pub section_added :
    List ℕ → List ℕ × Kind → Entries → Entries → Result Entries LoadRefusal
section_added file section [] top = Ok top
section_added file section theirs top =
    added section.1 file theirs (entries_at section.0 top) >>= λ mine.
    Ok (with_entry top section.0 (Map mine))

-- elements with what another file declares, kind by kind
abbrev pub sections_added :
    List ℕ → List (List ℕ × Kind) → Entries → Entries → Result Entries LoadRefusal
sections_added file [] theirs top = Ok top
sections_added file (section ∷ more) theirs top =
    section_added file section (entries_at section.0 theirs) top >>=
    sections_added file more theirs

-- a tree with what another tree declares, which is within the limits then; both are named by the other one's file
abbrev pub added_to : List ℕ → Tree → Tree → Result Tree LoadRefusal
added_to file theirs tree =
    sections_added file sections (entries_in (out-Tree theirs)) (entries_in (out-Tree tree)) >>= λ all.
    bounded file (Map all)
