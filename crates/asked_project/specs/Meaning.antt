-- What a call's words, variables, working directory and files mean: a project, or the first refusal.
use Rattle.std.specs.Prelude.{◌≡◌, ℕ, List, Option, Result, Ok, Err}
use Rattle.active_services.specs.Profiles.{profiles_given}
use Rattle.asked_project.specs.Asking.{Variables, options_asked}
use Rattle.asked_project.specs.declared.asking.Asked.{Asked}
use Rattle.compose_words.specs.declared.Options.{Options}
use Rattle.declared_set.specs.declared.LoadedProject.{LoadedProject}
use Rattle.include_extends.specs.Loading.{loading}
use Rattle.loaded_files.specs.Reads.{Load, Ran, loaded_from}
use Rattle.loaded_files.specs.declared.LoadRefusal.{LoadRefusal}
use Rattle.include_extends.specs.declared.LoadRequest.{LoadRequest}
use Rattle.loaded_files.specs.declared.Loaded.{Loaded}
use Rattle.outside_files.specs.Counts.{Rose}
use Rattle.outside_files.specs.Files.{Contents}
use Rattle.normal_form.specs.Projects.{project_of}
use Rattle.loading_words.specs.declared.TreeRefusal.{TreeRefusal}
use Rattle.refusals.specs.Origins.{load_refusal, project_refusal}
use Rattle.refusals.specs.Refused.{is_free}
use Rattle.refusals.specs.declared.Refusal.{Refusal}
use Rattle.typed_project.specs.declared.project.Project.{Project}
use Rattle.tree_base.specs.Answers.{◌>>=◌, Unless}

-- what was loaded, or what a call is refused with whose files aren't
abbrev pub loaded_or_refused : Result Loaded LoadRefusal → Result Loaded Refusal
loaded_or_refused (Ok loaded) = Ok loaded
loaded_or_refused (Err refusal) = Err (load_refusal refusal)

-- a project, or what a call is refused with whose tree gives none
abbrev pub project_or_refused : Result Project TreeRefusal → Result Project Refusal
project_or_refused (Ok project) = Ok project
project_or_refused (Err refusal) = Err (project_refusal refusal)

-- the project of what was loaded for options: by the name of `-p`, and by the profiles of `--profile` and of the variables,
-- those of env files among them
abbrev pub project_named : Options → Loaded → Result Project Refusal
project_named options loaded =
    project_or_refused
    (project_of options.project (profiles_given options.profiles loaded.env) loaded)

-- a project, or what a call is refused with, with the files and the directory that were loaded
abbrev pub with_origin : Loaded → Result Project Refusal → Result LoadedProject Refusal
with_origin loaded (Ok project) =
    Ok (record { project = project; files = loaded.files; directory = loaded.directory })
with_origin loaded (Err refusal) = Err refusal

-- the project of what was loaded for options, with its files and its directory
abbrev pub project_loaded : Options → Loaded → Result LoadedProject Refusal
project_loaded options loaded = with_origin loaded (project_named options loaded)

-- what options, variables and a working directory ask to be loaded
abbrev pub request_for : Options → Variables → List ℕ → LoadRequest
request_for options env cwd =
    record {
      files = options.files;
      project_directory = options.directory;
      env_files = options.env_files;
      env = env;
      cwd = cwd;
    }

-- what they load: the Compose files, merged, under their variables
abbrev pub load_for : Options → Variables → List ℕ → Load Loaded
load_for options env cwd = loading (request_for options env cwd)

-- the project that options, variables, a working directory and files give, with what it is loaded from, or the first
-- refusal
abbrev pub project_for :
    Options → Variables → List ℕ → Contents → Result LoadedProject Refusal
project_for options env cwd files =
    loaded_or_refused (loaded_from files (load_for options env cwd)) >>= project_loaded options

-- the project that words, variables, a working directory and files give, with what it is loaded from, or the first
-- refusal: that of the words, then of loading, then of what was loaded
abbrev pub meaning :
    List (List ℕ) → Variables → List ℕ → Contents → Result LoadedProject Refusal
meaning words env cwd files =
    options_asked words env >>= λ options. project_for options env cwd files

-- an answer has the project that is meant, or its refusal; a read that failed and a want of memory may stand in its
-- place
abbrev pub MeansAs : Result LoadedProject Refusal → Result Asked Refusal → Type 0
MeansAs meant (Ok asked) = meant ≡ Ok asked.loaded
MeansAs meant (Err refusal) = Unless (is_free refusal) (meant ≡ Err refusal)

-- what some answers of reads load for options gives the project, with what it is loaded from; the answers are the files'
-- where these are told
abbrev pub IsLoaded :
    Options → Variables → List ℕ → Option Contents → LoadedProject → Type 0
IsLoaded options env cwd told loaded =
    (given : Loaded) × Ran told (load_for options env cwd) (Ok given)
    × (project_loaded options given ≡ Ok loaded)

-- the same for the options that words ask for
abbrev pub IsSpelled :
    List (List ℕ) → Variables → List ℕ → Option Contents → LoadedProject → Type 0
IsSpelled words env cwd told loaded =
    (options : Options) × (options_asked words env ≡ Ok options)
    × IsLoaded options env cwd told loaded

-- the load for options comes to a read that may fail there, and reads failed
abbrev pub IsFailedLoad : Options → Variables → List ℕ → Option Contents → ℕ → ℕ → List ℕ → Type 0
IsFailedLoad options env cwd told old new path =
    Ran told (load_for options env cwd) (Err (LoadRefusal.ReadFault path)) × Rose old new

-- the read of a file failed: the words are built, what they load reads that file there, and the files' count of
-- faults rose
abbrev pub IsFailedRead :
    List (List ℕ) → Variables → List ℕ → Option Contents → ℕ → ℕ → List ℕ → Type 0
IsFailedRead words env cwd told old new path =
    (options : Options) × (options_asked words env ≡ Ok options)
    × IsFailedLoad options env cwd told old new path
