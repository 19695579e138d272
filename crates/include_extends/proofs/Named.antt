-- What the places of a request give: the default file under its names, and then the model that is loaded there.
use Rattle.std.proofs.Common.{◌≡◌, ℕ, suc, List, [], ◌∷◌, None, Option, Some, Result, Ok, Err, refl, sym, subst}
use Rattle.tree_base.specs.Limits.{most_files}
use Rattle.include_extends.specs.Includes.{model}
use Rattle.include_extends.specs.Loading.{default_file, files_found, found_or, loaded_at, loaded_of, loading, with_files}
use Rattle.loaded_files.specs.Refusing.{of_path}
use Rattle.loaded_files.specs.declared.outcome.Loaded.{Loaded}
use Rattle.include_extends.specs.declared.model.Model.{Model}
use Rattle.loaded_files.specs.declared.reads.Seen.{Seen}
use Rattle.loaded_files.specs.declared.reads.Seen.TheVariants.{There, Longer, Missing}
use Rattle.loaded_files.specs.declared.refusal.LoadRefusal.{LoadRefusal}
use Rattle.include_extends.specs.declared.request.LoadRequest.{LoadRequest}
use Rattle.include_extends.specs.declared.request.Places.{Places}
use Rattle.loaded_files.specs.Paths.{Variables, joined}
use Rattle.loaded_files.specs.Reads.{Gives, IsGiven, Load, Ran, give, look}
use Rattle.include_extends.specs.Requests.{default_names, places_of}
use Rattle.loaded_files.proofs.Runs.{given_on, given_out, gives_on, gives_out, ran_on}
use Rattle.outside_files.specs.Files.{Contents}

-- what was found is given, and nothing more is looked at
seen_there : (path : List ℕ) (later : Load (List ℕ × Seen)) (seen : Seen) → (seen ≡ Missing → ⊥) → found_or path later seen ≡ give (path, seen)
seen_there path later (There bytes) n = refl
seen_there path later Longer n = refl
seen_there path later Missing n = absurd (n refl)

module _ (told : Option Contents) where
  -- one name of the default file
  module _ (directory name : List ℕ) (names : List (List ℕ)) where
    abbrev pub path : List ℕ
    path = joined directory name

    abbrev then_later : Seen → Load (List ℕ × Seen)
    then_later seen = found_or path (default_file directory names) seen

    pub name_unread : (e : LoadRefusal) → Gives {X = Seen} told (Err e) (look path) → Gives {X = List ℕ × Seen} told (Err e) (default_file directory (name ∷ names))
    name_unread e h = gives_out told (look path) then_later e h

    pub name_missing : (r : Result (List ℕ × Seen) LoadRefusal) → Gives told (Ok Missing) (look path) → Ran told (default_file directory names) r → Ran told (default_file directory (name ∷ names)) r
    name_missing r h k = ran_on told (look path) then_later Missing r (h (λ e. cc)) k

    pub name_found : (seen : Seen) → (seen ≡ Missing → ⊥) → Gives told (Ok seen) (look path) → Gives told (Ok (path, seen)) (default_file directory (name ∷ names))
    name_found seen n h =
        gives_on told (look path) then_later seen (Ok (path, seen)) h
        (subst (λ (load : Load (List ℕ × Seen)). Gives told (Ok (path, seen)) load) (sym (seen_there path (default_file directory names) seen n)) (λ q. refl))

  -- the files of a call
  module _ (directory : List ℕ) where
    abbrev as_only : List ℕ × Seen → Load (List (List ℕ) × Option Seen)
    as_only got = give (got.0 ∷ [], Some got.1)

    pub no_default : (e : LoadRefusal) → Gives {X = List ℕ × Seen} told (Err e) (default_file directory default_names) → Gives {X = List (List ℕ) × Option Seen} told (Err e) (files_found directory [])
    no_default e h = gives_out told (default_file directory default_names) as_only e h

    pub default_there : (path : List ℕ) (seen : Seen) → Gives told (Ok (path, seen)) (default_file directory default_names) → Gives told (Ok (path ∷ [], Some seen)) (files_found directory [])
    default_there path seen h = gives_on told (default_file directory default_names) as_only (path, seen) (Ok (path ∷ [], Some seen)) h (λ n. refl)

    pub given_there : (files : List (List ℕ)) → (files ≡ [] → ⊥) → Gives told (Ok (files, None)) (files_found directory files)
    given_there [] n = absurd (n refl)
    given_there (file ∷ more) n = λ q. refl

  -- what is loaded at places whose files are known
  module _ (places : Places) (caller : Variables) (found : Option Seen) where
    abbrev pub whole_model : Load Model
    whole_model = model (suc most_files) places caller places.files found most_files

    abbrev pub as_loaded : Model → Load Loaded
    as_loaded whole = give (record { tree = whole.tree; directory = places.directory; files = places.files; env = whole.env })

    pub not_loaded : (e : LoadRefusal) → Gives {X = Model} told (Err e) whole_model → Gives {X = Loaded} told (Err e) (loaded_of places caller found)
    not_loaded e h = gives_out told whole_model as_loaded e h

    pub loaded_there : (whole : Model) → Gives told (Ok whole) whole_model
        → Gives told (Ok (record { tree = whole.tree; directory = places.directory; files = places.files; env = whole.env })) (loaded_of places caller found)
    loaded_there whole h = gives_on told whole_model as_loaded whole (Ok (record { tree = whole.tree; directory = places.directory; files = places.files; env = whole.env })) h (λ n. refl)

  -- what is loaded at the places of a request, whose files are found first
  module _ (places : Places) (caller : Variables) where
    abbrev then_loaded : List (List ℕ) × Option Seen → Load Loaded
    then_loaded found = loaded_of (with_files places found.0) caller found.1

    pub not_found : (e : LoadRefusal) → Gives {X = List (List ℕ) × Option Seen} told (Err e) (files_found places.directory places.files) → Gives {X = Loaded} told (Err e) (loaded_at places caller)
    not_found e h = gives_out told (files_found places.directory places.files) then_loaded e h

    pub found_there : (paths : List (List ℕ)) (found : Option Seen) (r : Result Loaded LoadRefusal) → Gives told (Ok (paths, found)) (files_found places.directory places.files)
        → Gives told r (loaded_of (with_files places paths) caller found) → Gives told r (loaded_at places caller)
    found_there paths found r h k = gives_on told (files_found places.directory places.files) then_loaded (paths, found) r h k

  -- a request, whose places come first
  module _ (request : LoadRequest) where
    abbrev at_places : Places → Load Loaded
    at_places places = loaded_at places request.env

    pub no_places : (e : LoadRefusal) → IsGiven {X = Places} (Err e) (of_path (places_of request)) → Gives {X = Loaded} told (Err e) (loading request)
    no_places e h = given_out told (of_path (places_of request)) at_places e h

    pub places_there : (places : Places) (r : Result Loaded LoadRefusal) → IsGiven (Ok places) (of_path (places_of request)) → Gives told r (loaded_at places request.env) → Gives told r (loading request)
    places_there places r h k = given_on told (of_path (places_of request)) at_places places r h k
