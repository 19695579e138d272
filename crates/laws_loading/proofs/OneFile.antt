-- A file gives the same tree whether an attribute stands there in its short or in its long form.
use Rattle.std.proofs.Common.{◌≡◌, ◌∙◌, ℕ, List, Result, sym, ap}
use Rattle.laws_attributes.proofs.Placed.{forms_are_free}
use Rattle.laws_attributes.specs.Forms.{with_attribute}
use Rattle.interpolate.specs.Walking.{substituted_tree}
use Rattle.interpolate.specs.declared.refusal.SubstTreeRefusal.{SubstTreeRefusal}
use Rattle.laws_loading.specs.FilesInForms.{FormsGiveOneFile, SpellsUnder}
use Rattle.loaded_files.specs.FileTrees.{file_tree}
use Rattle.loaded_files.specs.Paths.{Variables}
use Rattle.loaded_files.specs.Reads.{after, give}
use Rattle.loaded_files.specs.Refusing.{of_merge, of_subst, of_yaml}
use Rattle.long_forms.specs.LongForms.{long_forms}
use Rattle.merge_tables.specs.declared.refusal.MergeRefusal.{MergeRefusal}
use Rattle.tree_base.specs.Entries.{value_at}
use Rattle.tree_base.specs.declared.tree.Tree.{Tree}
use Rattle.yaml_lines.specs.declared.YamlRefusal.{YamlRefusal}

-- a file whose bytes spell a tree gives its long forms
spelled_file : (env : Variables) (file bytes : List ℕ) (tree : Tree) → SpellsUnder env bytes tree → file_tree env file bytes ≡ after (of_merge file (long_forms tree)) give
spelled_file env file bytes tree is =
    ap (λ (r : Result Tree YamlRefusal). after (of_yaml file r) (λ tree. after (of_subst file (substituted_tree (value_at env) tree)) (λ tree. after (of_merge file (long_forms tree)) give))) is.read
    ∙ ap (λ (r : Result Tree SubstTreeRefusal). after (of_subst file r) (λ tree. after (of_merge file (long_forms tree)) give)) is.valued

pub one_file : FormsGiveOneFile
one_file env file bytes others path short long tree is one other =
    spelled_file env file others (with_attribute path long tree) other
    ∙ ap (λ (r : Result Tree MergeRefusal). after (of_merge file r) give) (forms_are_free path short long tree is)
    ∙ sym (spelled_file env file bytes (with_attribute path short tree) one)
