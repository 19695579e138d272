-- Models that models include (the Compose Specification, "Include"): each is loaded by itself, and what it declares is
-- added to the model that includes it.
use Rattle.std.specs.Prelude.{ℕ, zero, suc, List, [], ◌∷◌, ◌++◌, drop, position, unwrap_or, Option, None, Result, Ok, Err, codes}
use Rattle.std.specs.Option.{option_map, option_map_or, option_or}
use Rattle.std.specs.Str.{bytes_eq}
use Rattle.file_paths.specs.Paths.{Variables, directory_of}
use Rattle.include_extends.specs.Merged.{merged_model}
use Rattle.include_extends.specs.Sections.{added_to}
use Rattle.include_extends.specs.Services.{with_services}
use Rattle.include_extends.specs.declared.model.Model.{Model}
use Rattle.include_extends.specs.declared.request.Places.{Places}
use Rattle.loaded_files.specs.Fields.{text_at, texts_at}
use Rattle.loaded_files.specs.Reads.{◌>>=◌, Load, after, give, refuse}
use Rattle.loaded_files.specs.declared.reads.Seen.{Seen}
use Rattle.loaded_files.specs.declared.refusal.LoadRefusal.{LoadRefusal}
use Rattle.loaded_files.specs.declared.refusal.LoadRefusal.TheVariants.{IncludeCycle, TooManyFiles}
use Rattle.tree_base.specs.Entries.{value_at, without_entry}
use Rattle.tree_base.specs.declared.Tree.{Tree, Map, out-Tree}
use Rattle.tree_base.specs.declared.Tree.TheOpen.{Tree-F}

-- the first of some paths, or another one where there is none
abbrev pub first_or : List ℕ → List (List ℕ) → List ℕ
first_or other [] = other
first_or other (path ∷ paths) = path

-- the directory of the first of some paths, or another one
abbrev pub directory_from : List ℕ → List (List ℕ) → List ℕ
directory_from other [] = other
directory_from other (path ∷ paths) = directory_of path

-- the places of an included model: its directory is the one that it names, else that of its first file, else that of
-- the model that includes it
abbrev pub places_with :
    List ℕ → List (List ℕ) → Option (List ℕ) → Option (List (List ℕ)) → Places
places_with directory files own env_files =
    record {
      files = files;
      env_files = env_files;
      directory = unwrap_or own (directory_from directory files);
    }

-- the places that an item of `include` names, whose paths are taken already: a file, or files with a directory and env
-- files, of which there may be none
abbrev pub item_places : List ℕ → Tree-F Tree → Places
item_places directory (Tree-F.Scalar path) = places_with directory (path ∷ []) None None
item_places directory (Tree-F.Map fields) =
    places_with directory (unwrap_or (texts_at fields (codes "path")) [])
    (text_at fields (codes "project_directory")) (texts_at fields (codes "env_file"))
item_places directory item = places_with directory [] None None

-- the files that are being loaded, from this one on, where it is among them
abbrev pub begun_from : List ℕ → List (List ℕ) → Option (List (List ℕ))
begun_from path begun = option_map (λ at. drop at begun) (position (bytes_eq path) begun)

-- the same of the first of some files that is among them
abbrev pub cycle_of : List (List ℕ) → List (List ℕ) → Option (List (List ℕ))
cycle_of begun [] = None
cycle_of begun (path ∷ paths) = option_or (begun_from path begun) (cycle_of begun paths)

-- nothing, unless one of these files is being loaded already
abbrev pub not_begun : List (List ℕ) → List (List ℕ) → Result (Unit {0}) LoadRefusal
not_begun begun files = option_map_or (λ cycle. Err (IncludeCycle cycle)) (cycle_of begun files) (Ok tt)

-- how models are loaded: at their places, under the caller's variables, where these files are being loaded, the first
-- one may have been looked at before, and so many files may still be read
abbrev pub Models : Type 0
Models = Places → Variables → List (List ℕ) → Option Seen → ℕ → Load Model

-- a tree with what is declared at the places of an included model, which sees the variables of the one that includes it
abbrev pub places_included :
    Models → Variables → List (List ℕ) → Places → Tree → ℕ → Load (Tree × ℕ)
places_included models env begun places tree left =
    after (not_begun begun places.files) (λ ok.
    models places env (begun ++ places.files) None left >>= λ own.
    after (added_to (first_or places.directory places.files) own.tree tree) (λ all.
    give (all, own.left)))

-- a tree with what the items of `include` name, in their order
abbrev pub items_included :
    Models → List ℕ → Variables → List (List ℕ) → List Tree → Tree → ℕ → Load (Tree × ℕ)
items_included models directory env begun [] tree left = give (tree, left)
items_included models directory env begun (item ∷ items) tree left =
    places_included models env begun (item_places directory (out-Tree item)) tree left >>= λ got.
    items_included models directory env begun items got.0 got.1

-- the items of a sequence, none of another tree
abbrev pub items_in : Tree-F Tree → List Tree
items_in (Tree-F.Seq items) = items
items_in tree = []

-- what a tree includes
abbrev pub include_items : Tree-F Tree → List Tree
include_items (Tree-F.Map top) =
    option_map_or (λ tree. items_in (out-Tree tree)) (value_at top (codes "include")) []
include_items tree = []

-- a tree without what it includes
abbrev pub without_include : Tree → Tree-F Tree → Tree
without_include tree (Tree-F.Map top) = Map (without_entry top (codes "include"))
without_include tree other = tree

-- a model with what it includes
abbrev pub with_includes : Models → List ℕ → List (List ℕ) → Model → Load Model
with_includes models directory begun own =
    items_included models directory own.env begun (include_items (out-Tree own.tree))
    (without_include own.tree (out-Tree own.tree)) own.left >>= λ got.
    give (record { tree = got.0; env = own.env; left = got.1 })

-- a model without what it includes: its files are merged, and then its services loaded
abbrev pub own_model : Places → Variables → Option Seen → ℕ → Load Model
own_model places caller found left =
    merged_model places.files places.directory places.env_files caller found left >>=
    with_services (first_or places.directory places.files)

-- a model with what it includes, over so many levels of models in models; each level but the last has a file that
-- was read, so that one more than files that may be read is always enough
abbrev pub model : ℕ → Models
model zero places caller begun found left =
    refuse (TooManyFiles (first_or places.directory places.files))
model (suc levels) places caller begun found left =
    own_model places caller found left >>= with_includes (model levels) places.directory begun
