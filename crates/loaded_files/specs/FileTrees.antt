-- The trees of files, each laid over those before it (the Compose Specification, "Merge", "Interpolation").
use Rattle.std.specs.Prelude.{ℕ, List, [], ◌∷◌, Option, Some, None, Result, Ok, Err}
use Rattle.file_paths.specs.Shapes.{shape_fault}
use Rattle.interpolate.specs.Walking.{substituted_tree}
use Rattle.loaded_files.specs.Paths.{Variables}
use Rattle.loaded_files.specs.Reads.{◌>>=◌, Load, after, give, look, taken}
use Rattle.loaded_files.specs.Refusing.{of_merge, of_subst, of_yaml}
use Rattle.loaded_files.specs.declared.reads.Seen.{Seen}
use Rattle.loaded_files.specs.declared.refusal.LoadRefusal.{LoadRefusal}
use Rattle.loaded_files.specs.declared.refusal.LoadRefusal.TheVariants.{BadShape}
use Rattle.long_forms.specs.LongForms.{long_forms}
use Rattle.merge_rules.specs.UnderExtends.{file_over}
use Rattle.tree_base.specs.Entries.{value_at}
use Rattle.tree_base.specs.declared.Step.{Step}
use Rattle.tree_base.specs.declared.Tree.{Tree, out-Tree}
use Rattle.yaml_lines.specs.Scan.{scan_of}
use Rattle.yaml_lines.specs.declared.Lines.{Lines}
use Rattle.yaml_lines.specs.declared.YamlRefusal.{YamlRefusal}
use Rattle.yaml_tree.specs.Reading.{reading}

-- the tree of a text's lines, where it has lines
abbrev pub tree_of : Result Lines YamlRefusal → Result Tree YamlRefusal
tree_of (Ok lines) = reading lines
tree_of (Err refusal) = Err refusal

-- the tree that bytes spell
abbrev pub tree_in : List ℕ → Result Tree YamlRefusal
tree_in bytes = tree_of (scan_of 0 bytes)

-- the tree of a file: read, its scalars substituted, and in long forms
abbrev pub file_tree : Variables → List ℕ → List ℕ → Load Tree
file_tree env path bytes =
    after (of_yaml path (tree_in bytes)) (λ tree.
    after (of_subst path (substituted_tree (value_at env) tree)) (λ tree.
    after (of_merge path (long_forms tree)) give))

-- what stands at a path, where it wasn't looked at before
abbrev pub look_or : List ℕ → Option Seen → Load Seen
look_or path None = look path
look_or path (Some found) = give found

-- the tree of a file that has to be there, and how many files may still be read
abbrev pub tree_at : Variables → List ℕ → Option Seen → ℕ → Load (Tree × ℕ)
tree_at env path found left =
    look_or path found >>= λ seen. taken path seen left >>= λ got.
    file_tree env path got.0 >>= λ tree. give (tree, got.1)

-- a file's tree laid over what the files before it gave
abbrev pub over_laid : List ℕ → Tree → Tree → ℕ → Load (Tree × ℕ)
over_laid path base over left =
    after (of_merge path (file_over base over)) (λ tree. give (tree, left))

-- a file read and laid over what the files before it gave
abbrev pub file_laid : Variables → List ℕ → Option Seen → Tree → ℕ → Load (Tree × ℕ)
file_laid env path found base left =
    tree_at env path found left >>= λ got. over_laid path base got.0 got.1

-- the files of a model, each laid over those before it; the first of them may have been looked at before
abbrev pub files_laid : Variables → List (List ℕ) → Option Seen → Tree → ℕ → Load (Tree × ℕ)
files_laid env [] found base left = give (base, left)
files_laid env (path ∷ more) found base left =
    file_laid env path found base left >>= λ got. files_laid env more None got.0 got.1

-- a tree, unless a part of it has another form
abbrev pub unless_shaped : Tree → Option (List Step) → Result Tree LoadRefusal
unless_shaped tree None = Ok tree
unless_shaped tree (Some path) = Err (BadShape path)

-- the same tree, where its shape is asked as soon as it is there
abbrev pub shaped : Tree → Result Tree LoadRefusal
shaped tree = unless_shaped tree (shape_fault (out-Tree tree))
