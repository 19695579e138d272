-- A Compose file in which nothing is left to do is loaded as its tree.
use Rattle.std.proofs.Common.{◌≡◌, ◌∙◌, ◌⊎◌, ℕ, suc, Bool, true, false, cond, List, [], ◌∷◌, Option, None, Some, Result, Ok, Err, codes, length, refl, ap, inl, inr}
use Rattle.std.proofs.lemmas.Bool.{le-ltb}
use Rattle.std.specs.Prelude.{IsTrue, nat_lt}
use Rattle.std.specs.Option.{option_map, option_or}
use Rattle.tree_base.specs.Limits.{most_file_bytes, most_files}
use Rattle.laws_attributes.proofs.Declaring.{declares}
use Rattle.laws_attributes.proofs.LongTrees.{accepted_trees_long}
use Rattle.laws_attributes.proofs.ShapedTrees.{accepted_trees_shaped}
use Rattle.active_services.proofs.AllEnabled.{models_stay}
use Rattle.active_services.specs.Profiles.{Profiles}
use Rattle.active_services.specs.declared.refusal.ActiveRefusal.{ActiveRefusal}
use Rattle.dotenv.specs.Variables.{or_else}
use Rattle.file_paths.specs.Resolving.{resolved}
use Rattle.file_paths.specs.Shapes.{entries_in}
use Rattle.file_paths.specs.declared.refusal.PathRefusal.{PathRefusal}
use Rattle.include_extends.specs.Includes.{model}
use Rattle.include_extends.specs.Loading.{default_file, found_or, loaded_of, loading}
use Rattle.include_extends.specs.Merged.{merged_model, model_under, placed}
use Rattle.include_extends.specs.declared.model.Model.{Model}
use Rattle.include_extends.specs.declared.request.Places.{Places}
use Rattle.interpolate.specs.Walking.{substituted_tree}
use Rattle.interpolate.specs.declared.refusal.SubstTreeRefusal.{SubstTreeRefusal}
use Rattle.laws_loading.proofs.SettledTrees.{all_there, tree_settled}
use Rattle.laws_loading.specs.Loads.{HasFile, IsLoadable, NamesNoOther, SettledFilesAreLoaded, Spells, plain_request}
use Rattle.loaded_files.proofs.Runs.{loaded_on}
use Rattle.loaded_files.proofs.Winning.{wins}
use Rattle.loaded_files.specs.EnvFiles.{env_file_if, with_all}
use Rattle.loaded_files.specs.FileTrees.{file_tree, files_laid, over_laid, unless_shaped}
use Rattle.loaded_files.specs.Paths.{Variables, joined}
use Rattle.loaded_files.specs.Reads.{◌>>=◌, Load, after, give, loaded_from, seen_of, taken_if}
use Rattle.loaded_files.specs.Refusing.{of_merge, of_path, of_subst, of_yaml}
use Rattle.loaded_files.specs.declared.Loaded.{Loaded}
use Rattle.loaded_files.specs.declared.reads.Seen.{Seen}
use Rattle.loaded_files.specs.declared.reads.Seen.TheVariants.{There}
use Rattle.loading_words.specs.declared.ProjectRefusal.{ProjectRefusal}
use Rattle.loading_words.specs.declared.TreeRefusal.{TreeRefusal}
use Rattle.merge_rules.proofs.Unchanged.{files_stand}
use Rattle.merge_rules.proofs.UnmarkedFiles.{unmarked_files_laid}
use Rattle.long_forms.specs.LongForms.{long_forms}
use Rattle.merge_tables.specs.declared.refusal.MergeRefusal.{MergeRefusal}
use Rattle.laws_loading.proofs.SettledModels.{settled_models}
use Rattle.normal_form.specs.ProjectNames.{base_name, is_name}
use Rattle.normal_form.specs.Projects.{active_or_refused, checked, filled, name_by, name_given, name_in, name_or, project_among, project_name, project_of}
use Rattle.outside_files.specs.Files.{Contents}
use Rattle.project_meaning.specs.Meaning as meaning
use Rattle.tree_base.specs.Answers as answers
use Rattle.tree_base.specs.Entries.{HasDistinctKeys, value_at}
use Rattle.tree_base.specs.declared.Step.{Step}
use Rattle.tree_base.specs.declared.tree.Tree.{Tree, out-Tree}
use Rattle.tree_base.specs.declared.tree.Tree.TheOpen.{Tree-F}
use Rattle.tree_base.specs.declared.tree.Tree.TheVariants.{Null, Scalar, outs-Scalar}
use Rattle.typed_project.specs.declared.project.Project.{Project}
use Rattle.yaml_lines.specs.declared.YamlRefusal.{YamlRefusal}

module _ (profiles : Profiles) (project : Project) (tree : Tree) (bytes : List ℕ) (caller : Variables) (cwd : List ℕ) (held : Contents) (is : IsLoadable profiles project tree)
    (has : HasFile held (joined cwd []) bytes) (spells : Spells caller bytes tree) where
  abbrev directory : List ℕ
  directory = joined cwd []

  abbrev path : List ℕ
  path = joined directory (codes "compose.yaml")

  abbrev env_path : List ℕ
  env_path = joined directory (codes ".env")

  abbrev env : Variables
  env = with_all [] caller

  abbrev page : Seen
  page = There bytes

  abbrev loaded : Loaded
  loaded = record { tree = tree; directory = directory; files = path ∷ []; env = env }

  abbrev own : Model
  own = record { tree = tree; env = env; left = 63 }

  -- what follows the files, then what they give, then the tree of the file
  abbrev with_tree : ℕ → Tree → Load Model
  with_tree left tree = give (record { tree = tree; env = env; left = left })

  abbrev with_files : Tree × ℕ → Load Model
  with_files laid = placed directory env laid.0 >>= with_tree laid.1

  abbrev with_file : Tree × ℕ → Load (Tree × ℕ)
  with_file got = files_laid env [] None got.0 got.1

  abbrev after_file : Tree → Load Model
  after_file tree = over_laid path Null tree 63 >>= with_file >>= with_files

  abbrev counted : Tree → Load (Tree × ℕ)
  counted tree = give (tree, 63)

  abbrev over_nothing : Tree × ℕ → Load (Tree × ℕ)
  over_nothing got = over_laid path Null got.0 got.1

  abbrev after_read : Load Tree → Load Model
  after_read read = read >>= counted >>= over_nothing >>= with_file >>= with_files

  placed_there : loaded_from held (placed directory env tree >>= with_tree 63) ≡ Ok own
  placed_there =
      ap (λ (o : Option (List Step)). loaded_from held (after (unless_shaped tree o) (λ tree. after (of_path (resolved directory env tree)) give) >>= with_tree 63))
      (accepted_trees_shaped project.name tree project is.meant is.keys (all_there tree is.settled))
      ∙ ap (λ (r : Result Tree PathRefusal). loaded_from held (after (of_path r) give >>= with_tree 63)) (is.placed directory env)

  alone_there : loaded_from held (after_file tree) ≡ Ok own
  alone_there =
      ap (λ (r : Result Tree MergeRefusal). loaded_from held (after (of_merge path r) counted >>= with_file >>= with_files))
      (unmarked_files_laid Null tree is.unmarked ∙ files_stand tree is.unmarked is.keys is.alone ∙ is.bounded)
      ∙ placed_there

  tree_there : loaded_from held (after_read (file_tree env path bytes)) ≡ Ok own
  tree_there =
      ap (λ (r : Result Tree YamlRefusal). loaded_from held (after_read (after (of_yaml path r) (λ tree. after (of_subst path (substituted_tree (value_at env) tree)) (λ tree. after (of_merge path (long_forms tree)) give))))) spells.read
      ∙ ap (λ (r : Result Tree SubstTreeRefusal). loaded_from held (after_read (after (of_subst path r) (λ tree. after (of_merge path (long_forms tree)) give)))) spells.valued
      ∙ ap (λ (r : Result Tree MergeRefusal). loaded_from held (after_read (after (of_merge path r) give))) (accepted_trees_long project.name tree project is.meant is.keys is.long ∙ is.bounded)
      ∙ alone_there

  -- what follows the Compose file, then its variables
  abbrev later : Load (List ℕ × Seen)
  later = default_file directory (codes "compose.yml" ∷ codes "docker-compose.yml" ∷ codes "docker-compose.yaml" ∷ [])

  abbrev of_first : List ℕ × Seen → Load (List (List ℕ) × Option Seen)
  of_first got = give (got.0 ∷ [], Some got.1)

  abbrev places : Places
  places = record { files = path ∷ []; env_files = None; directory = directory }

  abbrev whole : Model → Load Loaded
  whole made = give (record { tree = made.tree; directory = directory; files = path ∷ []; env = made.env })

  abbrev of_files : List (List ℕ) × Option Seen → Load Loaded
  of_files found = loaded_of (record { files = found.0; env_files = None; directory = directory }) caller found.1

  abbrev after_found : Seen → Load Loaded
  after_found seen = found_or path later seen >>= of_first >>= of_files

  abbrev values_given : Option (List ℕ) × ℕ → Load (Variables × ℕ)
  values_given got = after (env_file_if caller env_path [] got.0) (λ values. give (values, got.1))

  abbrev over_values : Variables × ℕ → Load (Variables × ℕ)
  over_values got = give (with_all got.0 caller, got.1)

  abbrev under_values : Variables × ℕ → Load Model
  under_values got = model_under (path ∷ []) directory got.0 (Some page) got.1

  abbrev after_env : Seen → Load Model
  after_env seen = taken_if env_path seen most_files >>= values_given >>= over_values >>= under_values

  there : seen_of (value_at held path) ≡ page
  there =
      let short : nat_lt most_file_bytes (length bytes) ≡ false = le-ltb most_file_bytes (length bytes) has.short in
      ap seen_of has.file ∙ rw short refl

  merged_there : loaded_from held (merged_model (path ∷ []) directory None caller (Some page) most_files) ≡ Ok own
  merged_there = ap (λ seen. loaded_from held (after_env seen)) (ap seen_of has.lone) ∙ tree_there

  -- nothing is left to extend, to include or to set, so the model is what its file gives
  model_there : loaded_from held (model (suc most_files) places caller (path ∷ []) (Some page) most_files) ≡ Ok own
  model_there =
      settled_models held most_files places caller (path ∷ []) (Some page) most_files own merged_there (tree_settled project.name tree (declares project.name tree project is.meant) is.settled) is.bounded

  env_there : loaded_from held (after_found page) ≡ Ok loaded
  env_there = loaded_on held (model (suc most_files) places caller (path ∷ []) (Some page) most_files) whole own model_there

  loaded_there : loaded_from held (loading (plain_request caller cwd)) ≡ Ok loaded
  loaded_there = ap (λ seen. loaded_from held (after_found seen)) there ∙ env_there

-- a name that is one
is_checked : (name : List ℕ) → IsTrue (is_name name) → checked name ≡ Ok name
is_checked name h = at (is_name name) h
  where
    at : (b : Bool) → IsTrue b → cond b (Ok name) (Err (TreeRefusal.Name (ProjectRefusal.BadName name))) ≡ Ok name
    at true h = refl
    at false h = absurd (cc h)

-- the name that a tree has
named_so : (project : Project) (base : List ℕ) (s : Tree-F Tree) → IsTrue (is_name project.name) → value_at (entries_in s) (codes "name") ≡ Some (Scalar project.name) → name_in base s ≡ Ok project.name
named_so project base Tree-F.Null h e = absurd (cc e)
named_so project base (Tree-F.Scalar text) h e = absurd (cc e)
named_so project base (Tree-F.Map es) h e = ap (λ (o : Option Tree). name_by base (option_map out-Tree o)) e ∙ ap (λ tree. name_by base (Some tree)) (outs-Scalar project.name) ∙ is_checked project.name h
named_so project base (Tree-F.Seq items) h e = absurd (cc e)
named_so project base Tree-F.Reset h e = absurd (cc e)
named_so project base (Tree-F.Override inner) h e = absurd (cc e)

-- a caller's variables over nothing are themselves
same_given : (option : Option (List ℕ)) (caller : Variables) → HasDistinctKeys caller → name_given option (with_all [] caller) ≡ name_given option caller
same_given option caller distinct =
    ap (λ (o : Option (List ℕ)). option_or option (filled o)) (wins [] caller distinct (codes "COMPOSE_PROJECT_NAME") ∙ alone (value_at caller (codes "COMPOSE_PROJECT_NAME")))
  where
    alone : (o : Option (List ℕ)) → or_else o None ≡ o
    alone None = refl
    alone (Some value) = refl

-- the name of the project of what was loaded
name_there : (option : Option (List ℕ)) (profiles : Profiles) (project : Project) (loaded : Loaded) → IsLoadable profiles project loaded.tree
    → (name_given option loaded.env ≡ None) ⊎ (name_given option loaded.env ≡ Some project.name) → project_name option loaded ≡ Ok project.name
name_there option profiles project loaded is (inl none) =
    ap (λ (o : Option (List ℕ)). name_or o (name_in (base_name loaded.directory) (out-Tree loaded.tree))) none
    ∙ named_so project (base_name loaded.directory) (out-Tree loaded.tree) is.named is.names
name_there option profiles project loaded is (inr same) =
    ap (λ (o : Option (List ℕ)). name_or o (name_in (base_name loaded.directory) (out-Tree loaded.tree))) same ∙ is_checked project.name is.named

project_there : (option : Option (List ℕ)) (profiles : Profiles) (project : Project) (loaded : Loaded) → IsLoadable profiles project loaded.tree
    → (name_given option loaded.env ≡ None) ⊎ (name_given option loaded.env ≡ Some project.name) → project_of option profiles loaded ≡ Ok project
project_there option profiles project loaded is names =
    ap (λ (r : Result (List ℕ) TreeRefusal). answers.◌>>=◌ r (project_among profiles loaded.tree)) (name_there option profiles project loaded is names)
    ∙ ap (λ (r : Result Tree ActiveRefusal). answers.◌>>=◌ (active_or_refused r) (meaning.project_of project.name)) (models_stay profiles loaded.tree is.enabled)
    ∙ is.meant

pub files_loaded : SettledFilesAreLoaded
files_loaded option profiles project tree bytes caller cwd held is has spells distinct names =
    let what = loaded profiles project tree bytes caller cwd held is has spells in
    (what, loaded_there profiles project tree bytes caller cwd held is has spells, project_there option profiles project what is (given names))
  where
    given : NamesNoOther option caller project → (name_given option (with_all [] caller) ≡ None) ⊎ (name_given option (with_all [] caller) ≡ Some project.name)
    given (inl none) = inl (same_given option caller distinct ∙ none)
    given (inr same) = inr (same_given option caller distinct ∙ same)
