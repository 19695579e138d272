-- Files with an attribute in its short and in its long form.
use Rattle.std.specs.Prelude.{◌≡◌, ℕ, List, ◌∷◌, Some, Ok, suc}
use Rattle.laws_attributes.specs.Forms.{IsLongFormAt, with_attribute}
use Rattle.include_extends.specs.Includes.{model}
use Rattle.include_extends.specs.Loading.{with_files}
use Rattle.include_extends.specs.declared.request.Places.{Places}
use Rattle.interpolate.specs.Walking.{substituted_tree}
use Rattle.loaded_files.specs.FileTrees.{file_tree, tree_in}
use Rattle.loaded_files.specs.Paths.{Variables}
use Rattle.loaded_files.specs.declared.reads.Seen.TheVariants.{There}
use Rattle.tree_base.specs.Entries.{value_at}
use Rattle.tree_base.specs.declared.Tree.{Tree}

-- bytes that spell a tree, by the values that its scalars have under these variables
pub record SpellsUnder (env : Variables) (bytes : List ℕ) (tree : Tree) : Type 0 where
  pub spelled : Tree
  pub read : tree_in bytes ≡ Ok spelled
  pub valued : substituted_tree (value_at env) spelled ≡ Ok tree

-- two texts of a file that differ in one attribute alone, which one has in its short and the other in its long form, give the same
-- tree, or are refused alike
abbrev pub FormsGiveOneFile : Type 0
FormsGiveOneFile =
    (env : Variables) (file bytes others : List ℕ) (path : List (List ℕ)) (short long tree : Tree)
    → IsLongFormAt path short long → SpellsUnder env bytes (with_attribute path short tree)
    → SpellsUnder env others (with_attribute path long tree)
    → file_tree env file others ≡ file_tree env file bytes

-- two texts of a file that give the same tree, or are refused alike, whatever the variables are
abbrev pub AreOneFile : List ℕ → List ℕ → List ℕ → Type 0
AreOneFile file bytes others = (env : Variables) → file_tree env file others ≡ file_tree env file bytes

-- a model is the same with either of two such texts as its first file, whatever it extends and includes
abbrev pub OneFileGivesOneModel : Type 0
OneFileGivesOneModel =
    (levels : ℕ) (places : Places) (file : List ℕ) (more : List (List ℕ)) (caller : Variables)
    (begun : List (List ℕ)) (left : ℕ) (bytes others : List ℕ) → AreOneFile file bytes others
    → model (suc levels) (with_files places (file ∷ more)) caller begun (Some (There others)) left
    ≡ model (suc levels) (with_files places (file ∷ more)) caller begun (Some (There bytes)) left
