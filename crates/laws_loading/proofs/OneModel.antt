-- A model is the same with either of two texts as its first file that are one file.
use Rattle.std.proofs.Common.{◌≡◌, ℕ, zero, suc, List, Some, None, refl, ap}
use Rattle.include_extends.specs.Includes.{model, with_includes}
use Rattle.include_extends.specs.Merged.{placed}
use Rattle.include_extends.specs.Services.{with_services}
use Rattle.include_extends.specs.declared.model.Model.{Model}
use Rattle.include_extends.specs.declared.request.Places.{Places}
use Rattle.laws_loading.specs.FilesInForms.{AreOneFile, OneFileGivesOneModel}
use Rattle.loaded_files.specs.EnvFiles.{environment}
use Rattle.loaded_files.specs.FileTrees.{files_laid, over_laid, tree_at}
use Rattle.loaded_files.specs.Paths.{Variables}
use Rattle.loaded_files.specs.Reads.{◌>>=◌, Load, give}
use Rattle.loaded_files.specs.declared.reads.Seen.TheVariants.{There}
use Rattle.tree_base.specs.declared.tree.Tree.{Tree}
use Rattle.tree_base.specs.declared.tree.Tree.TheVariants.{Null}

-- the first file's tree
first_tree : (file bytes others : List ℕ) → AreOneFile file bytes others → (env : Variables) (left : ℕ) → tree_at env file (Some (There others)) left ≡ tree_at env file (Some (There bytes)) left
first_tree file bytes others one env zero = refl
first_tree file bytes others one env (suc left) = ap (λ (read : Load Tree). read >>= λ tree. give (tree, left)) (one env)

module _ (levels : ℕ) (places : Places) (file : List ℕ) (more : List (List ℕ)) (caller : Variables) (begun : List (List ℕ)) (left : ℕ) where
  -- a model by its first file's tree under variables
  abbrev merged : (Variables → ℕ → Load (Tree × ℕ)) → Load Model
  merged first =
      environment places.directory places.env_files caller left >>= λ got.
      ((first got.0 got.1 >>= λ laid. over_laid file Null laid.0 laid.1) >>= λ laid. files_laid got.0 more None laid.0 laid.1) >>= λ laid.
      placed places.directory got.0 laid.0 >>= λ tree.
      give (record { tree = tree; env = got.0; left = laid.1 })

  abbrev whole : (Variables → ℕ → Load (Tree × ℕ)) → Load Model
  whole first = merged first >>= with_services file >>= with_includes (model levels) places.directory begun

pub one_model : OneFileGivesOneModel
one_model levels places file more caller begun left bytes others one =
    λ i. whole levels places file more caller begun left (λ env count. first_tree file bytes others one env count i)
