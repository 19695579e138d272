-- The exit status of each refusal of a file or of a project.
use Rattle.std.specs.Prelude.{ℕ}
use Rattle.active_services.specs.declared.ActiveRefusal.{ActiveRefusal}
use Rattle.dotenv.specs.declared.refusal.EnvRefusal.{EnvRefusal}
use Rattle.loaded_files.specs.declared.refusal.LoadRefusal.{LoadRefusal}
use Rattle.interpolate.specs.declared.refusal.SubstTreeRefusal.{SubstTreeRefusal}
use Rattle.merge_tables.specs.declared.refusal.MergeRefusal.{MergeRefusal}
use Rattle.loading_words.specs.declared.refusal.TreeRefusal.{TreeRefusal}
use Rattle.loading_words.specs.declared.refusal.ProjectRefusal.{ProjectRefusal}
use Rattle.yaml_lines.specs.declared.refusal.YamlRefusal.{YamlRefusal}

-- a text that is no YAML has status 2, one past a limit of the reader 8, and a want of memory 9
abbrev pub yaml_status : YamlRefusal → ℕ
yaml_status (YamlRefusal.Bad which place) = 2
yaml_status (YamlRefusal.TooDeep place) = 8
yaml_status (YamlRefusal.TooManyNodes place) = 8
yaml_status (YamlRefusal.TooMuchText place) = 8
yaml_status YamlRefusal.Memory = 9

-- a line of an env file that is refused has status 2, one whose value passes the limit 8, and a want of memory 9
abbrev pub env_status : EnvRefusal → ℕ
env_status EnvRefusal.Memory = 9
env_status (EnvRefusal.TooMuchText line) = 8
env_status refusal = 2

-- a scalar without a value has status 2, a tree whose values pass the limit 8, and a want of memory 9
abbrev pub tree_status : SubstTreeRefusal → ℕ
tree_status (SubstTreeRefusal.At path cause) = 2
tree_status SubstTreeRefusal.TooMuchText = 8
tree_status SubstTreeRefusal.Memory = 9

-- trees that don't fit, or have a mark where none may stand, have status 2, a tree past a limit 8, and a want of memory 9
abbrev pub merge_status : MergeRefusal → ℕ
merge_status (MergeRefusal.KindMismatch path) = 2
merge_status (MergeRefusal.BadUniqueEntry path) = 2
merge_status (MergeRefusal.MarkUnderExtends path) = 2
merge_status MergeRefusal.TooManyNodes = 8
merge_status MergeRefusal.TooMuchText = 8
merge_status MergeRefusal.Memory = 9

-- a missing file or service, a home that isn't known, another form than there has to be, services or files that lead back
-- to themselves, or what is declared twice has status 2, a read that failed 7, and one past a limit 8
abbrev pub load_status : LoadRefusal → ℕ
load_status (LoadRefusal.NotFound path) = 2
load_status (LoadRefusal.ReadFault path) = 7
load_status (LoadRefusal.FileTooLarge path) = 8
load_status (LoadRefusal.TooManyFiles path) = 8
load_status (LoadRefusal.NoHome path) = 2
load_status (LoadRefusal.Yaml path cause) = yaml_status cause
load_status (LoadRefusal.EnvFile path cause) = env_status cause
load_status (LoadRefusal.Subst path cause) = tree_status cause
load_status (LoadRefusal.Merge path cause) = merge_status cause
load_status (LoadRefusal.BadShape at) = 2
load_status (LoadRefusal.ExtendsCycle services) = 2
load_status (LoadRefusal.NoSuchBase file service) = 2
load_status (LoadRefusal.IncludeCycle files) = 2
load_status (LoadRefusal.Conflict kind key file) = 2
load_status LoadRefusal.Memory = 9

-- a dependency on a service that isn't enabled has status 2, and a want of memory 9
abbrev pub active_status : ActiveRefusal → ℕ
active_status (ActiveRefusal.DependencyDisabled service dependency) = 2
active_status ActiveRefusal.Memory = 9

-- a shape or a name that is none has status 2, and a number of services past the limit 8
abbrev pub project_status : ProjectRefusal → ℕ
project_status (ProjectRefusal.TooManyServices count) = 8
project_status refusal = 2

-- 2 for a project that isn't one or isn't built, 8 for a limit, 9 for memory
abbrev pub refusal_status : TreeRefusal → ℕ
refusal_status (TreeRefusal.Name refusal) = project_status refusal
refusal_status (TreeRefusal.Active refusal) = active_status refusal
refusal_status (TreeRefusal.Project refusal) = project_status refusal
refusal_status TreeRefusal.Memory = 9
