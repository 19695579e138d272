-- Laws of JSON that is read under variables, and of the pages of projects, as YAML and as JSON.
use Rattle.std.specs.Prelude.{◌≡◌, ℕ, List, Ok, true}
use Rattle.interpolate.specs.Substitution.{Variables}
use Rattle.interpolate.specs.Walking.{substituted_tree}
use Rattle.merge_rules.specs.Laws.{no_mark, own_keys}
use Rattle.project_meaning.specs.Meaning.{project_of}
use Rattle.project_pages.specs.AttributePages.{page, page_json, project_node}
use Rattle.project_print.specs.Json.{json_page_text}
use Rattle.project_print.specs.Values.{value_of}
use Rattle.project_print.specs.declared.node.Node.{Node}
use Rattle.tree_base.specs.declared.Tree.{Tree}
use Rattle.typed_project.specs.declared.project.Project.{Project}
use Rattle.laws_yaml.specs.BlockLaws.{IsWithinLimits}
use Rattle.yaml_lines.specs.Scan.{scan_of}
use Rattle.yaml_nodes.specs.Progress.{◌>>=◌}
use Rattle.laws_yaml.specs.Printed.{is_printable, tree_of}
use Rattle.yaml_tree.specs.Reading.{reading}
use Rattle.laws_pages.specs.Held.{is_held}

-- the JSON of a node spells a tree whose scalars have the values that the node means, whatever the variables are
abbrev pub JsonGivesValues : Type 0
JsonGivesValues = (env : Variables) (file : ℕ) (node : Node) → is_printable node ≡ true → IsWithinLimits (tree_of node)
    → (tree : Tree) × ((scan_of file (json_page_text node) >>= reading) ≡ Ok tree) × (substituted_tree env tree ≡ Ok (value_of node))

-- the JSON page of a project that some merged tree means, which has no marks and no key twice, spells a tree that means the
-- project once its scalars have their values, whatever the variables are
abbrev pub JsonPagesMeanTheirProjects : Type 0
JsonPagesMeanTheirProjects =
    (env : Variables) (file : ℕ) (name : List ℕ) (merged : Tree) (project : Project) → no_mark merged ≡ true
    → own_keys merged ≡ true → project_of name merged ≡ Ok project → is_held (project_node project) ≡ true
    → IsWithinLimits (tree_of (project_node project))
    → (tree : Tree) × (value : Tree) × ((scan_of file (page_json project) >>= reading) ≡ Ok tree)
    × (substituted_tree env tree ≡ Ok value) × (project_of name value ≡ Ok project)

-- so does its page as YAML
abbrev pub PrintedPagesMeanTheirProjects : Type 0
PrintedPagesMeanTheirProjects =
    (env : Variables) (file : ℕ) (name : List ℕ) (merged : Tree) (project : Project) → no_mark merged ≡ true
    → own_keys merged ≡ true → project_of name merged ≡ Ok project → is_held (project_node project) ≡ true
    → IsWithinLimits (tree_of (project_node project))
    → (tree : Tree) × (value : Tree) × ((scan_of file (page project) >>= reading) ≡ Ok tree)
    × (substituted_tree env tree ≡ Ok value) × (project_of name value ≡ Ok project)

-- the two pages of a project are read as one tree
abbrev pub ProjectPagesAgree : Type 0
ProjectPagesAgree =
    (file : ℕ) (project : Project) → is_held (project_node project) ≡ true
    → IsWithinLimits (tree_of (project_node project))
    → (scan_of file (page project) >>= reading) ≡ (scan_of file (page_json project) >>= reading)
