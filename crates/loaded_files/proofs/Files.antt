-- What each step of a file gives, by what its reads gave: its tree, the file over those before it, several of them.
use Rattle.std.proofs.Common.{◌≡◌, ℕ, List, ◌∷◌, None, Option, Some, Result, Ok, Err, refl, ap}
use Rattle.file_paths.specs.Shapes.{shape_fault}
use Rattle.loaded_files.specs.FileTrees.{file_laid, file_tree, files_laid, look_or, over_laid, shaped, tree_at, tree_in, unless_shaped}
use Rattle.loaded_files.specs.Paths.{Variables}
use Rattle.loaded_files.specs.Reads.{◌>>=◌, Gives, IsGiven, Load, Ran, after, give, taken}
use Rattle.loaded_files.specs.Refusing.{of_merge, of_subst, of_yaml}
use Rattle.loaded_files.specs.declared.reads.Seen.{Seen}
use Rattle.loaded_files.specs.declared.refusal.LoadRefusal.{LoadRefusal}
use Rattle.loaded_files.specs.declared.refusal.LoadRefusal.TheVariants.{BadShape}
use Rattle.loaded_files.proofs.Runs.{given_on, given_out, gives_on, gives_out, ran_on, ran_out}
use Rattle.loaded_files.proofs.Steps.{given_last}
use Rattle.interpolate.specs.Walking.{substituted_tree}
use Rattle.long_forms.specs.LongForms.{long_forms}
use Rattle.merge_rules.specs.UnderExtends.{file_over}
use Rattle.outside_files.specs.Files.{Contents}
use Rattle.tree_base.specs.Entries.{value_at}
use Rattle.tree_base.specs.declared.Step.{Step}
use Rattle.tree_base.specs.declared.Tree.{Tree, out-Tree}

module _ (told : Option Contents) where
  -- the tree of a file: its text, its values, its long forms
  module _ (env : Variables) (path bytes : List ℕ) where
    abbrev pub spelled : Result Tree LoadRefusal
    spelled = of_yaml path (tree_in bytes)

    abbrev pub valued : Tree → Result Tree LoadRefusal
    valued tree = of_subst path (substituted_tree (value_at env) tree)

    abbrev pub lengthened : Tree → Result Tree LoadRefusal
    lengthened tree = of_merge path (long_forms tree)

    abbrev then_long : Tree → Load Tree
    then_long tree = after (lengthened tree) give

    abbrev then_values : Tree → Load Tree
    then_values tree = after (valued tree) then_long

    pub no_text : (e : LoadRefusal) → IsGiven {X = Tree} (Err e) spelled → Gives {X = Tree} told (Err e) (file_tree env path bytes)
    no_text e h = given_out told spelled then_values e h

    module _ (tree : Tree) (h : IsGiven (Ok tree) spelled) where
      pub no_values : (e : LoadRefusal) → IsGiven {X = Tree} (Err e) (valued tree) → Gives {X = Tree} told (Err e) (file_tree env path bytes)
      no_values e k = given_on told spelled then_values tree (Err e) h (given_out told (valued tree) then_long e k)

      pub values_there : (new : Tree) (r : Result Tree LoadRefusal) → IsGiven (Ok new) (valued tree) → IsGiven r (lengthened new) → Gives told r (file_tree env path bytes)
      values_there new r k l = given_on told spelled then_values tree r h (given_on told (valued tree) then_long new r k (given_last told r (lengthened new) l))

  -- a file that has to be there
  module _ (env : Variables) (path : List ℕ) (found : Option Seen) (left : ℕ) where
    abbrev with_left : ℕ → Tree → Load (Tree × ℕ)
    with_left rest tree = give (tree, rest)

    abbrev then_tree : List ℕ × ℕ → Load (Tree × ℕ)
    then_tree got = file_tree env path got.0 >>= with_left got.1

    abbrev then_taken : Seen → Load (Tree × ℕ)
    then_taken seen = taken path seen left >>= then_tree

    pub unseen : (e : LoadRefusal) → Gives {X = Seen} told (Err e) (look_or path found) → Gives {X = Tree × ℕ} told (Err e) (tree_at env path found left)
    unseen e h = gives_out told (look_or path found) then_taken e h

    module _ (seen : Seen) (h : Gives told (Ok seen) (look_or path found)) where
      pub untaken : (e : LoadRefusal) → Gives {X = List ℕ × ℕ} told (Err e) (taken path seen left) → Gives {X = Tree × ℕ} told (Err e) (tree_at env path found left)
      untaken e k = gives_on told (look_or path found) then_taken seen (Err e) h (gives_out told (taken path seen left) then_tree e k)

      module _ (bytes : List ℕ) (rest : ℕ) (k : Gives told (Ok (bytes, rest)) (taken path seen left)) where
        at_bytes : (r : Result (Tree × ℕ) LoadRefusal) → Gives told r (then_tree (bytes, rest)) → Gives told r (tree_at env path found left)
        at_bytes r t = gives_on told (look_or path found) then_taken seen r h (gives_on told (taken path seen left) then_tree (bytes, rest) r k t)

        pub no_tree : (e : LoadRefusal) → Gives {X = Tree} told (Err e) (file_tree env path bytes) → Gives {X = Tree × ℕ} told (Err e) (tree_at env path found left)
        no_tree e t = at_bytes (Err e) (gives_out told (file_tree env path bytes) (with_left rest) e t)

        pub tree_there : (tree : Tree) → Gives told (Ok tree) (file_tree env path bytes) → Gives told (Ok (tree, rest)) (tree_at env path found left)
        tree_there tree t = at_bytes (Ok (tree, rest)) (gives_on told (file_tree env path bytes) (with_left rest) tree (Ok (tree, rest)) t (λ n. refl))

  -- a file's tree over what those before it gave
  module _ (path : List ℕ) (base over : Tree) (left : ℕ) where
    pub over_refused : (e : LoadRefusal) → IsGiven {X = Tree} (Err e) (of_merge path (file_over base over)) → Gives {X = Tree × ℕ} told (Err e) (over_laid path base over left)
    over_refused e h = given_out told (of_merge path (file_over base over)) (λ tree. give (tree, left)) e h

    pub over_there : (tree : Tree) → IsGiven (Ok tree) (of_merge path (file_over base over)) → Gives told (Ok (tree, left)) (over_laid path base over left)
    over_there tree h = given_on told (of_merge path (file_over base over)) (λ tree. give (tree, left)) tree (Ok (tree, left)) h (λ n. refl)

  -- a file read and laid over what those before it gave
  module _ (env : Variables) (path : List ℕ) (found : Option Seen) (base : Tree) (left : ℕ) where
    abbrev then_laid : Tree × ℕ → Load (Tree × ℕ)
    then_laid got = over_laid path base got.0 got.1

    pub over_unread : (e : LoadRefusal) → Gives {X = Tree × ℕ} told (Err e) (tree_at env path found left) → Gives {X = Tree × ℕ} told (Err e) (file_laid env path found base left)
    over_unread e h = gives_out told (tree_at env path found left) then_laid e h

    pub over_read : (over : Tree) (rest : ℕ) (r : Result (Tree × ℕ) LoadRefusal) → Gives told (Ok (over, rest)) (tree_at env path found left) → Gives told r (over_laid path base over rest)
        → Gives told r (file_laid env path found base left)
    over_read over rest r h k = gives_on told (tree_at env path found left) then_laid (over, rest) r h k

  -- files, one after another
  module _ (env : Variables) (path : List ℕ) (more : List (List ℕ)) (found : Option Seen) (base : Tree) (left : ℕ) where
    abbrev then_more : Tree × ℕ → Load (Tree × ℕ)
    then_more got = files_laid env more None got.0 got.1

    pub laid_on : (tree : Tree) (rest : ℕ) (r : Result (Tree × ℕ) LoadRefusal) → Gives told (Ok (tree, rest)) (file_laid env path found base left) → Ran told (files_laid env more None tree rest) r
        → Ran told (files_laid env (path ∷ more) found base left) r
    laid_on tree rest r h k = ran_on told (file_laid env path found base left) then_more (tree, rest) r (h (λ e. cc)) k

    pub laid_out : (e : LoadRefusal) → Ran {X = Tree × ℕ} told (file_laid env path found base left) (Err e) → Ran {X = Tree × ℕ} told (files_laid env (path ∷ more) found base left) (Err e)
    laid_out e h = ran_out told (file_laid env path found base left) then_more e h

-- a tree that has the shape that it has to have, and one that has another
pub is_shaped : (tree : Tree) → shape_fault (out-Tree tree) ≡ None → shaped tree ≡ Ok tree
is_shaped tree e = ap (unless_shaped tree) e

pub is_misshaped : (tree : Tree) (at : List Step) → shape_fault (out-Tree tree) ≡ Some at → shaped tree ≡ Err (BadShape at)
is_misshaped tree at e = ap (unless_shaped tree) e
