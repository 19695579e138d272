-- The page of a project, as the Compose file of a directory, is what is loaded there.
use Rattle.std.proofs.Common.{◌≡◌, ◌∙◌, ◌≤◌, ℕ, suc, false, List, [], ◌∷◌, Option, None, Some, Result, Ok, codes, length, refl, ap, arith}
use Rattle.std.proofs.lemmas.Bool.{le-ltb}
use Rattle.std.specs.Prelude.{nat_lt}
use Rattle.tree_base.specs.Limits.{most_file_bytes, most_files}
use Rattle.dotenv.specs.Variables.{or_else}
use Rattle.file_paths.specs.Resolving.{resolved}
use Rattle.file_paths.specs.declared.refusal.PathRefusal.{PathRefusal}
use Rattle.loaded_files.specs.EnvFiles.{env_file_if, with_all}
use Rattle.loaded_files.specs.FileTrees.{file_tree, files_laid, over_laid, unless_shaped}
use Rattle.include_extends.specs.Includes.{model}
use Rattle.include_extends.specs.Loading.{default_file, found_or, loaded_of, loading}
use Rattle.include_extends.specs.Merged.{merged_model, model_under, placed}
use Rattle.include_extends.specs.declared.request.Places.{Places}
use Rattle.include_extends.proofs.PlainModels.{plain_models}
use Rattle.loaded_files.proofs.Runs.{loaded_on}
use Rattle.laws_pages.proofs.Plain.{page_plain}
use Rattle.loaded_files.specs.Refusing.{of_merge, of_path, of_subst, of_yaml}
use Rattle.loaded_files.specs.Paths.{Variables, joined}
use Rattle.loaded_files.specs.Reads.{◌>>=◌, Load, after, give, loaded_from, seen_of, taken_if}
use Rattle.loaded_files.proofs.Winning.{wins}
use Rattle.loaded_files.specs.declared.Loaded.{Loaded}
use Rattle.include_extends.specs.declared.model.Model.{Model}
use Rattle.loaded_files.specs.declared.reads.Seen.{Seen}
use Rattle.loaded_files.specs.declared.reads.Seen.TheVariants.{There}
use Rattle.interpolate.specs.Walking.{substituted_tree}
use Rattle.interpolate.specs.declared.refusal.SubstTreeRefusal.{SubstTreeRefusal}
use Rattle.long_forms.specs.LongForms.{long_forms}
use Rattle.merge_tables.specs.declared.refusal.MergeRefusal.{MergeRefusal}
use Rattle.laws_pages.proofs.ReadBack.{project_back}
use Rattle.laws_pages.specs.PlainTrees.{tree_of_project}
use Rattle.normal_form.specs.Projects.{filled, name_given}
use Rattle.outside_files.specs.Files.{Contents}
use Rattle.laws_pages.proofs.Merging.{is_within, page_alone, page_long, project_clean}
use Rattle.merge_rules.proofs.UnmarkedFiles.{unmarked_files_laid}
use Rattle.laws_pages.proofs.Placing.{page_paths, page_shaped}
use Rattle.laws_pages.proofs.Projects.{page_read, page_valued, value_of_project}
use Rattle.laws_pages.proofs.Sizes.{no_larger}
use Rattle.laws_pages.specs.Projects.{HasPage, IsReadable, ProjectPagesReadBack, plain_request}
use Rattle.laws_pages.specs.PlainNodes.{node_of, project_page}
use Rattle.typed_project.specs.PlainProjects.{PlainProject}
use Rattle.tree_base.specs.Entries.{HasDistinctKeys, value_at}
use Rattle.tree_base.specs.Trees.{node_count, text_size}
use Rattle.tree_base.specs.declared.Step.{Step}
use Rattle.tree_base.specs.declared.tree.Tree.{Tree}
use Rattle.tree_base.specs.declared.tree.Tree.TheVariants.{Null}
use Rattle.yaml_lines.specs.declared.YamlRefusal.{YamlRefusal}

-- the tree of a project is within the limits where that of its page is
few_nodes : (project : PlainProject) → IsReadable project → node_count (tree_of_project project) ≤ 200000
few_nodes project is =
    let same = ap node_count (value_of_project project) in
    let nodes = (no_larger (node_of project)).nodes in
    let few = is.tree.nodes in
    omega (arith, same, nodes, few)

short_text : (project : PlainProject) → IsReadable project → text_size (tree_of_project project) ≤ 16777216
short_text project is =
    let same = ap text_size (value_of_project project) in
    let fewer = (no_larger (node_of project)).text in
    let short = is.tree.text in
    omega (arith, same, fewer, short)

module _ (project : PlainProject) (caller : Variables) (cwd : List ℕ) (held : Contents) (is : IsReadable project) (has : HasPage held (joined cwd []) project) where
  abbrev directory : List ℕ
  directory = joined cwd []

  abbrev path : List ℕ
  path = joined directory (codes "compose.yaml")

  abbrev env_path : List ℕ
  env_path = joined directory (codes ".env")

  abbrev env : Variables
  env = with_all [] caller

  abbrev tree : Tree
  tree = tree_of_project project

  abbrev page : Seen
  page = There (project_page project)

  abbrev loaded : Loaded
  loaded = record { tree = tree; directory = directory; files = path ∷ []; env = env }

  abbrev own : Model
  own = record { tree = tree; env = env; left = 63 }

  -- what follows the files, then what they give, then the tree of the page
  abbrev with_tree : ℕ → Tree → Load Model
  with_tree left tree = give (record { tree = tree; env = env; left = left })

  abbrev with_files : Tree × ℕ → Load Model
  with_files laid = placed directory env laid.0 >>= with_tree laid.1

  abbrev with_file : Tree × ℕ → Load (Tree × ℕ)
  with_file got = files_laid env [] None got.0 got.1

  abbrev after_file : Tree → Load Model
  after_file tree = over_laid path Null tree 63 >>= with_file >>= with_files

  abbrev counted : Tree → Load (Tree × ℕ)
  counted tree = give (tree, 63)

  abbrev over_nothing : Tree × ℕ → Load (Tree × ℕ)
  over_nothing got = over_laid path Null got.0 got.1

  abbrev after_read : Load Tree → Load Model
  after_read read = read >>= counted >>= over_nothing >>= with_file >>= with_files

  placed_there : loaded_from held (placed directory env tree >>= with_tree 63) ≡ Ok own
  placed_there =
      ap (λ (o : Option (List Step)). loaded_from held (after (unless_shaped tree o) (λ tree. after (of_path (resolved directory env tree)) give) >>= with_tree 63)) (page_shaped project)
      ∙ ap (λ (r : Result Tree PathRefusal). loaded_from held (after (of_path r) give >>= with_tree 63)) (page_paths directory env project)

  alone_there : loaded_from held (after_file tree) ≡ Ok own
  alone_there =
      ap (λ (r : Result Tree MergeRefusal). loaded_from held (after (of_merge path r) counted >>= with_file >>= with_files))
      (unmarked_files_laid Null (tree_of_project project) (project_clean project) ∙ page_alone project (few_nodes project is) (short_text project is) is.order)
      ∙ placed_there

  tree_there : loaded_from held (after_read (file_tree env path (project_page project))) ≡ Ok own
  tree_there =
      ap (λ (r : Result Tree YamlRefusal). loaded_from held (after_read (after (of_yaml path r) (λ tree. after (of_subst path (substituted_tree (value_at env) tree)) (λ tree. after (of_merge path (long_forms tree)) give))))) (page_read project is)
      ∙ ap (λ (r : Result Tree SubstTreeRefusal). loaded_from held (after_read (after (of_subst path r) (λ tree. after (of_merge path (long_forms tree)) give)))) (page_valued (value_at env) project is)
      ∙ ap (λ (r : Result Tree MergeRefusal). loaded_from held (after_read (after (of_merge path r) give))) (page_long project (few_nodes project is) (short_text project is))
      ∙ alone_there

  -- what follows the Compose file, then its variables
  abbrev later : Load (List ℕ × Seen)
  later = default_file directory (codes "compose.yml" ∷ codes "docker-compose.yml" ∷ codes "docker-compose.yaml" ∷ [])

  abbrev of_first : List ℕ × Seen → Load (List (List ℕ) × Option Seen)
  of_first got = give (got.0 ∷ [], Some got.1)

  abbrev places : Places
  places = record { files = path ∷ []; env_files = None; directory = directory }

  abbrev whole : Model → Load Loaded
  whole made = give (record { tree = made.tree; directory = directory; files = path ∷ []; env = made.env })

  abbrev of_files : List (List ℕ) × Option Seen → Load Loaded
  of_files found = loaded_of (record { files = found.0; env_files = None; directory = directory }) caller found.1

  abbrev after_found : Seen → Load Loaded
  after_found seen = found_or path later seen >>= of_first >>= of_files

  abbrev values_given : Option (List ℕ) × ℕ → Load (Variables × ℕ)
  values_given got = after (env_file_if caller env_path [] got.0) (λ values. give (values, got.1))

  abbrev over_values : Variables × ℕ → Load (Variables × ℕ)
  over_values got = give (with_all got.0 caller, got.1)

  abbrev under_values : Variables × ℕ → Load Model
  under_values got = model_under (path ∷ []) directory got.0 (Some page) got.1

  abbrev after_env : Seen → Load Model
  after_env seen = taken_if env_path seen most_files >>= values_given >>= over_values >>= under_values

  there : seen_of (value_at held path) ≡ page
  there =
      let short : nat_lt most_file_bytes (length (project_page project)) ≡ false = le-ltb most_file_bytes (length (project_page project)) is.page in
      ap seen_of has.page ∙ rw short refl

  merged_there : loaded_from held (merged_model (path ∷ []) directory None caller (Some page) most_files) ≡ Ok own
  merged_there = ap (λ seen. loaded_from held (after_env seen)) (ap seen_of has.alone) ∙ tree_there

  -- it extends and includes nothing, so the model is what its file gives
  model_there : loaded_from held (model (suc most_files) places caller (path ∷ []) (Some page) most_files) ≡ Ok own
  model_there =
      plain_models held most_files places caller (path ∷ []) (Some page) most_files own merged_there (page_plain project) (is_within project (few_nodes project is) (short_text project is))

  env_there : loaded_from held (after_found page) ≡ Ok loaded
  env_there = loaded_on held (model (suc most_files) places caller (path ∷ []) (Some page) most_files) whole own model_there

  loaded_there : loaded_from held (loading (plain_request caller cwd)) ≡ Ok loaded
  loaded_there = ap (λ seen. loaded_from held (after_found seen)) there ∙ env_there

-- a caller's variables that name no project name none over nothing
unnamed : (caller : Variables) → HasDistinctKeys caller → name_given None caller ≡ None → name_given None (with_all [] caller) ≡ None
unnamed caller distinct none = ap filled (wins [] caller distinct (codes "COMPOSE_PROJECT_NAME") ∙ alone (value_at caller (codes "COMPOSE_PROJECT_NAME"))) ∙ none
  where
    alone : (o : Option (List ℕ)) → or_else o None ≡ o
    alone None = refl
    alone (Some value) = refl

pub page_back : ProjectPagesReadBack
page_back profiles project caller cwd held is has distinct none =
    let what = loaded project caller cwd held is has in
    (what, loaded_there project caller cwd held is has, project_back profiles what project refl (unnamed caller distinct none) is.named is.few is.order is.are_keys)
