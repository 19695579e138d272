-- What each refusal of a file or of a project says, behind the program's name.
use Rattle.std.specs.Prelude.{ℕ, List, [], ◌∷◌, ◌++◌, codes, decimal, map}
use Rattle.std.specs.List.{flat_map}
use Rattle.active_services.specs.declared.ActiveRefusal.{ActiveRefusal}
use Rattle.dotenv.specs.declared.refusal.EnvRefusal.{EnvRefusal}
use Rattle.loaded_files.specs.declared.refusal.Kind.{Kind}
use Rattle.loaded_files.specs.declared.refusal.Kind.TheVariants as kinds
use Rattle.loaded_files.specs.declared.refusal.LoadRefusal.{LoadRefusal}
use Rattle.loaded_files.specs.declared.refusal.ServiceAt.{ServiceAt}
use Rattle.interpolate.specs.declared.refusal.SubstRefusal.{SubstRefusal}
use Rattle.interpolate.specs.declared.refusal.SubstTreeRefusal.{SubstTreeRefusal}
use Rattle.merge_tables.specs.declared.refusal.MergeRefusal.{MergeRefusal}
use Rattle.loading_words.specs.Paths.{path_words}
use Rattle.loading_words.specs.declared.refusal.TreeRefusal.{TreeRefusal}
use Rattle.loading_words.specs.declared.refusal.ProjectRefusal.{ProjectRefusal}
use Rattle.tree_base.specs.declared.Step.{Step}
use Rattle.yaml_lines.specs.Printed.{refusal_text}

-- a line that is refused: its number, and the name of the fault
abbrev pub line_words : ℕ → List ℕ → List ℕ
line_words line name = decimal line ++ codes ": " ++ name

-- why an env file isn't read
abbrev pub env_words : EnvRefusal → List ℕ
env_words (EnvRefusal.BadLine line) = line_words line (codes "BadLine")
env_words (EnvRefusal.BadQuote line) = line_words line (codes "BadQuote")
env_words (EnvRefusal.Subst line cause) = line_words line (codes "Subst")
env_words (EnvRefusal.TooMuchText line) = line_words line (codes "TooMuchText")
env_words EnvRefusal.Memory = codes "memory"

-- why a scalar has no value; a variable that is required is named, with the message of the form that requires it
abbrev pub value_words : SubstRefusal → List ℕ
value_words (SubstRefusal.Unclosed at) = codes "Unclosed"
value_words (SubstRefusal.BadForm at) = codes "BadForm"
value_words (SubstRefusal.RequiredVariable name message) =
    codes "required " ++ name ++ codes ": " ++ message
value_words SubstRefusal.TooMuchText = codes "TooMuchText"
value_words SubstRefusal.Memory = codes "memory"

-- why the scalars of a tree have no values: the path of the first, and its fault
abbrev pub tree_words : SubstTreeRefusal → List ℕ
tree_words (SubstTreeRefusal.At path cause) = path_words path ++ codes ": " ++ value_words cause
tree_words SubstTreeRefusal.TooMuchText = codes "TooMuchText"
tree_words SubstTreeRefusal.Memory = codes "memory"

-- why trees aren't merged: the path of the first part that doesn't fit, or the limit
abbrev pub merge_words : MergeRefusal → List ℕ
merge_words (MergeRefusal.KindMismatch path) = path_words path ++ codes ": KindMismatch"
merge_words (MergeRefusal.BadUniqueEntry path) = path_words path ++ codes ": BadUniqueEntry"
merge_words (MergeRefusal.MarkUnderExtends path) = path_words path ++ codes ": MarkUnderExtends"
merge_words MergeRefusal.TooManyNodes = codes "TooManyNodes"
merge_words MergeRefusal.TooMuchText = codes "TooMuchText"
merge_words MergeRefusal.Memory = codes "memory"

-- texts behind one another, with commas between them
abbrev pub listed : List (List ℕ) → List ℕ
listed [] = []
listed (text ∷ texts) = text ++ flat_map (λ later. codes ", " ++ later) texts

-- a service of a file
abbrev pub service_words : ServiceAt → List ℕ
service_words at = at.file ++ codes " " ++ at.service

-- what a file declares, in the singular
abbrev pub kind_words : Kind → List ℕ
kind_words kinds.Service = codes "service"
kind_words kinds.Network = codes "network"
kind_words kinds.Volume = codes "volume"
kind_words kinds.Secret = codes "secret"
kind_words kinds.Config = codes "config"

-- a file is named by its path; where its text is refused, the place and the name of the fault follow;
-- a part of the files' tree is named by its path in the tree; services and files that lead back to themselves are named
-- in their order, each once
abbrev pub load_words : LoadRefusal → List ℕ
load_words (LoadRefusal.NotFound path) = path ++ codes ": NotFound"
load_words (LoadRefusal.ReadFault path) = path ++ codes ": ReadFault"
load_words (LoadRefusal.FileTooLarge path) = path ++ codes ": FileTooLarge"
load_words (LoadRefusal.TooManyFiles path) = path ++ codes ": TooManyFiles"
load_words (LoadRefusal.NoHome path) = path ++ codes ": NoHome"
load_words (LoadRefusal.Yaml path cause) = path ++ codes ":" ++ refusal_text cause
load_words (LoadRefusal.EnvFile path cause) = path ++ codes ":" ++ env_words cause
load_words (LoadRefusal.Subst path cause) = path ++ codes ": " ++ tree_words cause
load_words (LoadRefusal.Merge path cause) = path ++ codes ": " ++ merge_words cause
load_words (LoadRefusal.BadShape at) = path_words at ++ codes ": BadShape"
load_words (LoadRefusal.ExtendsCycle services) =
    codes "extends cycle: " ++ listed (map service_words services)
load_words (LoadRefusal.NoSuchBase file service) = file ++ codes ": no service " ++ service
load_words (LoadRefusal.IncludeCycle files) = codes "include cycle: " ++ listed files
load_words (LoadRefusal.Conflict kind key file) =
    file ++ codes ": conflict: " ++ kind_words kind ++ codes " " ++ key
load_words LoadRefusal.Memory = codes "memory"

-- the service that requires one that isn't enabled, and that one
abbrev pub active_words : ActiveRefusal → List ℕ
active_words (ActiveRefusal.DependencyDisabled service dependency) =
    service ++ codes ": dependency " ++ dependency ++ codes " is disabled"
active_words ActiveRefusal.Memory = codes "memory"

-- what a service uses that isn't there: the service, the kind and the name
abbrev pub undefined_words : Kind → List ℕ → List ℕ → List ℕ
undefined_words kind service name =
    service ++ codes ": undefined " ++ kind_words kind ++ codes " " ++ name

-- services that need one another in a circle, with a space before each
abbrev pub cycle_words : List (List ℕ) → List ℕ
cycle_words services = codes "dependency cycle:" ++ flat_map (λ service. codes " " ++ service) services

-- a name that is none stands as it is, and a number past its limit behind the limit's name
abbrev pub project_words : ProjectRefusal → List ℕ
project_words (ProjectRefusal.BadName name) = codes "bad project name: " ++ name
project_words (ProjectRefusal.TooManyServices count) = codes "TooManyServices: " ++ decimal count
project_words (ProjectRefusal.UnknownAttribute path) = path_words path ++ codes ": UnknownAttribute"
project_words (ProjectRefusal.WrongKind path) = path_words path ++ codes ": WrongKind"
project_words (ProjectRefusal.BadValue path) = path_words path ++ codes ": BadValue"
project_words (ProjectRefusal.Undefined kind service name) = undefined_words kind service name
project_words (ProjectRefusal.DependencyCycle services) = cycle_words services

-- what a refusal of a tree says
abbrev pub refusal_words : TreeRefusal → List ℕ
refusal_words (TreeRefusal.Name refusal) = project_words refusal
refusal_words (TreeRefusal.Active refusal) = active_words refusal
refusal_words (TreeRefusal.Project refusal) = project_words refusal
refusal_words TreeRefusal.Memory = codes "memory"
