-- What each step of a service's environment gives, by what its reads gave.
use Rattle.std.proofs.Common.{◌≡◌, ℕ, List, [], ◌∷◌, Option, Result, Ok, Err, ap, subst}
use Rattle.file_paths.specs.Paths.{Variables}
use Rattle.file_paths.specs.Resolving.{Entries}
use Rattle.file_paths.specs.Shapes.{entries_at}
use Rattle.loaded_files.specs.Reads.{Gives, Load, Ran, give}
use Rattle.loaded_files.specs.declared.refusal.LoadRefusal.{LoadRefusal}
use Rattle.loaded_files.proofs.Runs.{gives_on, gives_out, ran_on, ran_out}
use Rattle.outside_files.specs.Files.{Contents}
use Rattle.service_environments.specs.EnvItems.{items_of}
use Rattle.service_environments.specs.Environments.{all_with_environments, file_read, files_read, settings_over, with_environment, with_values}
use Rattle.service_environments.specs.declared.env_item.EnvItem.{EnvItem}
use Rattle.std.specs.Prelude.{codes}
use Rattle.tree_base.specs.Entries.{with_entry}
use Rattle.tree_base.specs.declared.Tree.{Map}

module _ (told : Option Contents) where
  -- env files, one after another
  module _ (env : Variables) (item : EnvItem) (items : List EnvItem) (values : Variables) (left : ℕ) where
    abbrev one : Load (Variables × ℕ)
    one = file_read env item.path item.required values left

    abbrev then_files : Variables × ℕ → Load (Variables × ℕ)
    then_files got = files_read env items got.0 got.1

    pub file_on : (more : Variables) (rest : ℕ) (r : Result (Variables × ℕ) LoadRefusal) → Gives told (Ok (more, rest)) one → Ran told (files_read env items more rest) r → Ran told (files_read env (item ∷ items) values left) r
    file_on more rest r h k = ran_on told one then_files (more, rest) r (h (λ q. cc)) k

    pub file_out : (e : LoadRefusal) → Ran {X = Variables × ℕ} told one (Err e) → Ran {X = Variables × ℕ} told (files_read env (item ∷ items) values left) (Err e)
    file_out e h = ran_out told one then_files e h

  -- a service with its environment
  module _ (env : Variables) (service : Entries) (left : ℕ) where
    abbrev pub all_files : Load (Variables × ℕ)
    all_files = files_read env (items_of service) [] left

    abbrev pub with_values_of : Variables → Entries
    with_values_of values = with_values service (settings_over env (entries_at (codes "environment") service) values)

    abbrev then_whole : Variables × ℕ → Load (Entries × ℕ)
    then_whole got = give (with_values_of got.0, got.1)

    pub files_unread : (e : LoadRefusal) → Gives {X = Variables × ℕ} told (Err e) all_files → Gives {X = Entries × ℕ} told (Err e) (with_environment env service left)
    files_unread e h = gives_out told all_files then_whole e h

    pub values_there : (values : Variables) (rest : ℕ) (whole : Entries) → Gives told (Ok (values, rest)) all_files → whole ≡ with_values_of values → Gives told (Ok (whole, rest)) (with_environment env service left)
    values_there values rest whole h e = gives_on told all_files then_whole (values, rest) (Ok (whole, rest)) h (λ n. ap (λ (w : Entries). Ok (w, rest)) e)

  -- services, one after another
  module _ (env : Variables) (name : List ℕ) (names : List (List ℕ)) (services : Entries) (left : ℕ) where
    abbrev pub this : Load (Entries × ℕ)
    this = with_environment env (entries_at name services) left

    abbrev then_others : Entries × ℕ → Load (Entries × ℕ)
    then_others got = all_with_environments env names (with_entry services name (Map got.0)) got.1

    pub service_on : (whole put : Entries) (rest : ℕ) (r : Result (Entries × ℕ) LoadRefusal) → Gives told (Ok (whole, rest)) this → put ≡ with_entry services name (Map whole)
        → Ran told (all_with_environments env names put rest) r → Ran told (all_with_environments env (name ∷ names) services left) r
    service_on whole put rest r h e k =
        ran_on told this then_others (whole, rest) r (h (λ q. cc)) (subst (λ (all : Entries). Ran told (all_with_environments env names all rest) r) e k)

    pub service_out : (e : LoadRefusal) → Ran {X = Entries × ℕ} told this (Err e) → Ran {X = Entries × ℕ} told (all_with_environments env (name ∷ names) services left) (Err e)
    service_out e h = ran_out told this then_others e h
