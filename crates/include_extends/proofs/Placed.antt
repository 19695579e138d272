-- The places of a request, one after another.
use Rattle.std.proofs.Common.{◌≡◌, ◌∙◌, ℕ, List, Result, Ok, sym, ap}
use Rattle.file_paths.specs.Answers.{Fails}
use Rattle.file_paths.specs.declared.refusal.PathRefusal.{PathRefusal}
use Rattle.file_paths.specs.declared.refusal.PathRefusal.TheVariants.{NoHome, Memory}
use Rattle.loaded_files.specs.Paths.{all_homed}
use Rattle.include_extends.specs.Requests.{given_paths, places_of, project_directory}
use Rattle.include_extends.specs.declared.request.LoadRequest.{LoadRequest}
use Rattle.include_extends.specs.declared.request.Places.{Places}
use Rattle.tree_base.specs.Answers.{◌>>=◌}

-- what fails at first fails as a whole
fails_on : {A B : Type 0} (e : PathRefusal) (first : Result A PathRefusal) (f : A → Result B PathRefusal) → Fails e first → Fails e (first >>= f)
fails_on {A} {B} (NoHome path) first f h = ap (λ (r : Result A PathRefusal). r >>= f) h
fails_on Memory first f h = tt

-- what gives its value goes on with it
goes_on : {A B : Type 0} (first : Result A PathRefusal) (f : A → Result B PathRefusal) (a : A) → first ≡ Ok a → (first >>= f) ≡ f a
goes_on {A} {B} first f a h = ap (λ (r : Result A PathRefusal). r >>= f) h

-- what fails as one answer fails as an equal one
same_fails : {A : Type 0} (e : PathRefusal) (answer other : Result A PathRefusal) → answer ≡ other → Fails e answer → Fails e other
same_fails (NoHome path) answer other s h = sym s ∙ h
same_fails Memory answer other s h = tt

module _ (request : LoadRequest) where
  abbrev pub homes : List (List ℕ) → Result (List (List ℕ)) PathRefusal
  homes paths = all_homed request.cwd request.env paths

  abbrev pub directory_with : List (List ℕ) → Result (List ℕ) PathRefusal
  directory_with files = project_directory request.cwd request.env files request.project_directory

  abbrev as_places : List (List ℕ) → List (List ℕ) → List ℕ → Result Places PathRefusal
  as_places files env_files directory = Ok (record { files = files; env_files = given_paths env_files; directory = directory })

  abbrev then_directory : List (List ℕ) → List (List ℕ) → Result Places PathRefusal
  then_directory files env_files = directory_with files >>= as_places files env_files

  abbrev then_env_files : List (List ℕ) → Result Places PathRefusal
  then_env_files files = homes request.env_files >>= then_directory files

  pub no_files : (e : PathRefusal) → Fails e (homes request.files) → Fails e (places_of request)
  no_files e h = fails_on e (homes request.files) then_env_files h

  module _ (files : List (List ℕ)) (h : homes request.files ≡ Ok files) where
    on_files : places_of request ≡ then_env_files files
    on_files = goes_on (homes request.files) then_env_files files h

    pub no_env_files : (e : PathRefusal) → Fails e (homes request.env_files) → Fails e (places_of request)
    no_env_files e k = same_fails e _ _ (sym on_files) (fails_on e (homes request.env_files) (then_directory files) k)

    module _ (env_files : List (List ℕ)) (k : homes request.env_files ≡ Ok env_files) where
      on_env_files : places_of request ≡ then_directory files env_files
      on_env_files = on_files ∙ goes_on (homes request.env_files) (then_directory files) env_files k

      pub no_directory : (e : PathRefusal) → Fails e (directory_with files) → Fails e (places_of request)
      no_directory e l = same_fails e _ _ (sym on_env_files) (fails_on e (directory_with files) (as_places files env_files) l)

      pub all_there : (directory : List ℕ) → directory_with files ≡ Ok directory → places_of request ≡ Ok (record { files = files; env_files = given_paths env_files; directory = directory })
      all_there directory l = on_env_files ∙ goes_on (directory_with files) (as_places files env_files) directory l
