-- Refusals of the parts of loading as refusals of the whole: with the path of the file; what wants memory wants it as a
-- whole.
use Rattle.std.specs.Prelude.{ℕ, List, Result, Ok, Err}
use Rattle.dotenv.specs.declared.refusal.EnvRefusal.{EnvRefusal}
use Rattle.dotenv.specs.declared.refusal.EnvRefusal.TheVariants as envs
use Rattle.file_paths.specs.declared.refusal.PathRefusal.{PathRefusal}
use Rattle.file_paths.specs.declared.refusal.PathRefusal.TheVariants as homes
use Rattle.interpolate.specs.declared.refusal.SubstTreeRefusal.{SubstTreeRefusal}
use Rattle.interpolate.specs.declared.refusal.SubstTreeRefusal.TheVariants as substs
use Rattle.loaded_files.specs.declared.refusal.LoadRefusal.{LoadRefusal}
use Rattle.loaded_files.specs.declared.refusal.LoadRefusal.TheVariants.{NoHome, Yaml, EnvFile, Subst, Merge, Memory}
use Rattle.merge_tables.specs.declared.refusal.MergeRefusal.{MergeRefusal}
use Rattle.merge_tables.specs.declared.refusal.MergeRefusal.TheVariants as merges
use Rattle.yaml_lines.specs.declared.YamlRefusal.{YamlRefusal}
use Rattle.yaml_lines.specs.declared.refusal.YamlRefusal.TheVariants as yamls

-- what was read of a file's text, a refusal with the file's path; what wants memory wants it as a whole
abbrev pub of_yaml : {A : Type 0} → List ℕ → Result A YamlRefusal → Result A LoadRefusal
of_yaml path (Ok x) = Ok x
of_yaml path (Err yamls.Memory) = Err Memory
of_yaml path (Err cause) = Err (Yaml path cause)

-- the same of the values of a tree's scalars
abbrev pub of_subst : {A : Type 0} → List ℕ → Result A SubstTreeRefusal → Result A LoadRefusal
of_subst path (Ok x) = Ok x
of_subst path (Err substs.Memory) = Err Memory
of_subst path (Err cause) = Err (Subst path cause)

-- the same of an env file's lines
abbrev pub of_env : {A : Type 0} → List ℕ → Result A EnvRefusal → Result A LoadRefusal
of_env path (Ok x) = Ok x
of_env path (Err envs.Memory) = Err Memory
of_env path (Err cause) = Err (EnvFile path cause)

-- the same of trees that are merged
abbrev pub of_merge : {A : Type 0} → List ℕ → Result A MergeRefusal → Result A LoadRefusal
of_merge path (Ok x) = Ok x
of_merge path (Err merges.Memory) = Err Memory
of_merge path (Err cause) = Err (Merge path cause)

-- what was made of paths, a refusal with the path that has no home
abbrev pub of_path : {A : Type 0} → Result A PathRefusal → Result A LoadRefusal
of_path (Ok x) = Ok x
of_path (Err (homes.NoHome path)) = Err (NoHome path)
of_path (Err homes.Memory) = Err Memory
