-- The page of a project is loaded as that project.
use Rattle.std.proofs.Common.{◌≡◌, ◌∙◌, ◌≤◌, ℕ, true, List, [], ◌∷◌, ◌++◌, Some, Result, Ok, Err, codes, refl, ap, arith}
use Rattle.std.proofs.lemmas.Bool.{le-leb}
use Rattle.file_paths.specs.Shapes.{entries_in}
use Rattle.laws_loading.proofs.Loads.{files_loaded}
use Rattle.laws_loading.specs.Loads.{IsLoadable, Spells}
use Rattle.loaded_files.specs.EnvFiles.{with_all}
use Rattle.loaded_files.specs.FileTrees.{tree_in}
use Rattle.loaded_files.specs.FileTrees as files
use Rattle.loaded_files.specs.Paths.{Variables}
use Rattle.laws_pages.proofs.Clean.{value_clean, value_own}
use Rattle.laws_pages.proofs.SettledPages.{page_settled}
use Rattle.laws_pages.proofs.TypedServices.{services_typed}
use Rattle.laws_pages.specs.Pages.{IsReadable, PagesAreLoaded, page_tree}
use Rattle.merge_tables.specs.Answers.{within}
use Rattle.laws_pages.proofs.PageElements.{any, page_out}
use Rattle.laws_pages.proofs.PagesMean.{pages_mean}
use Rattle.laws_pages.proofs.WordPageWords.{pages_printable}
use Rattle.laws_pages.proofs.Sizes.{no_larger}
use Rattle.laws_pages.proofs.Values.{value_text, values_given}
use Rattle.project_pages.specs.AttributePages.{file_entry, page, project_node}
use Rattle.project_print.specs.Pages.{page_text}
use Rattle.active_services.specs.Profiles.{Profiles}
use Rattle.tree_base.specs.Entries.{value_at}
use Rattle.tree_base.specs.Trees.{node_count, text_size}
use Rattle.tree_base.specs.declared.tree.Tree.{Tree, out-Tree}
use Rattle.tree_base.specs.declared.tree.Tree.TheOpen.{Tree-F}
use Rattle.tree_base.specs.declared.tree.Tree.TheVariants.{Scalar}
use Rattle.typed_project.specs.declared.project.FileItem.{FileItem}
use Rattle.typed_project.specs.declared.project.Project.{Project}
use Rattle.yaml_lines.specs.Scan.{scan_of}
use Rattle.yaml_lines.specs.declared.Lines.{Lines}
use Rattle.yaml_lines.specs.declared.YamlRefusal.{YamlRefusal}
use Rattle.yaml_nodes.specs.Progress.{◌>>=◌}
use Rattle.laws_yaml.specs.Printed.{is_printable}
use Rattle.yaml_tree.specs.Reading.{reading}

-- the two ways to say what lines spell
same_reading : (read : Result Lines YamlRefusal) → files.tree_of read ≡ (read >>= reading)
same_reading (Ok lines) = refl
same_reading (Err refusal) = refl

-- the page has the project's name
named_behind : (configs : List FileItem) (tree : Tree) (later : List (List ℕ × Tree)) → value_at (any (codes "configs") file_entry configs ++ (codes "name", tree) ∷ later) (codes "name") ≡ Some tree
named_behind [] tree later = refl
named_behind (x ∷ xs) tree later = refl

named : (project : Project) → value_at (entries_in (out-Tree (page_tree project))) (codes "name") ≡ Some (Scalar project.name)
named project =
    ap (λ (s : Tree-F Tree). value_at (entries_in s) (codes "name")) (page_out project)
    ∙ named_behind project.configs _ _
    ∙ ap (λ (t : Tree). Some t) (value_text project.name)

module _ (profiles : Profiles) (project : Project) (is : IsReadable profiles project) where
  printable : is_printable (project_node project) ≡ true
  printable = pages_printable project is.held

  bounded : within (page_tree project) ≡ Ok (page_tree project)
  bounded =
      let smaller = no_larger (project_node project) in
      let same = smaller.nodes in
      let fewer = smaller.text in
      let few = is.tree.nodes in
      let short = is.tree.text in
      let nodes : node_count (page_tree project) ≤ 200000 = omega (arith, same, few) in
      let text : text_size (page_tree project) ≤ 16777216 = omega (arith, fewer, short) in
      rw (le-leb (node_count (page_tree project)) 200000 nodes, le-leb (text_size (page_tree project)) 16777216 text) refl

  loadable : IsLoadable profiles project (page_tree project)
  loadable = record {
    named = is.named;
    names = named project;
    meant = pages_mean project.name is.meant.0 project is.meant.1 is.meant.2 is.meant.3;
    unmarked = value_clean (project_node project);
    keys = value_own (project_node project) printable;
    alone = is.alone;
    bounded = bounded;
    long = is.long;
    placed = is.placed;
    settled = page_settled project (value_clean (project_node project), value_own (project_node project) printable) (services_typed project.name is.meant.0 project is.meant.1 is.meant.2 is.meant.3) is.valued;
    enabled = is.enabled;
  }

  spells : (caller : Variables) → Spells caller (page project) (page_tree project)
  spells caller =
      let given = values_given (value_at (with_all [] caller)) 0 (project_node project) printable is.tree in
      record {
        spelled = given.0;
        read = same_reading (scan_of 0 (page_text (project_node project))) ∙ given.1;
        valued = given.2;
      }

pub pages_loaded : PagesAreLoaded
pages_loaded option profiles project caller cwd held is has distinct names =
    files_loaded option profiles project (page_tree project) (page project) caller cwd held (loadable profiles project is) has (spells profiles project is caller) distinct names
