-- Laws of merging, above its definitions.
use Rattle.std.specs.Prelude.{◌≡◌, ℕ, Bool, true, false, not, ◌&&◌, List, [], ◌∷◌, Some, Ok}
use Rattle.std.specs.List.{list_all, list_any}
use Rattle.std.specs.Map.{keys_of, values_of}
use Rattle.std.specs.Str.{bytes_eq}
use Rattle.tree_base.specs.declared.Tree.{Tree, fold-Tree, Null}
use Rattle.tree_base.specs.declared.Tree.TheOpen.{Tree-F}
use Rattle.merge_tables.specs.declared.rules.Standing.TheVariants.{Value}
use Rattle.merge_tables.specs.Answers.{within}
use Rattle.merge_rules.specs.Overlay.{laid, over_files, overlaid}

-- whether no mark stands in a tree, by what says so of its parts
abbrev pub no_mark_step : Tree-F Bool → Bool
no_mark_step Tree-F.Null = true
no_mark_step (Tree-F.Scalar text) = true
no_mark_step (Tree-F.Map entries) = list_all (λ is. is) (values_of entries)
no_mark_step (Tree-F.Seq items) = list_all (λ is. is) items
no_mark_step Tree-F.Reset = false
no_mark_step (Tree-F.Override inner) = false

-- whether no mark stands in a tree
abbrev pub no_mark : Tree → Bool
no_mark = fold-Tree Bool no_mark_step

-- no key stands twice
abbrev pub are_apart : List (List ℕ) → Bool
are_apart [] = true
are_apart (key ∷ keys) = not (list_any (λ other. bytes_eq other key) keys) && are_apart keys

-- whether no key stands twice in a mapping of a tree, by what says so of its parts
abbrev pub own_keys_step : Tree-F Bool → Bool
own_keys_step Tree-F.Null = true
own_keys_step (Tree-F.Scalar text) = true
own_keys_step (Tree-F.Map entries) = are_apart (keys_of entries) && list_all (λ is. is) (values_of entries)
own_keys_step (Tree-F.Seq items) = list_all (λ is. is) items
own_keys_step Tree-F.Reset = true
own_keys_step (Tree-F.Override inner) = inner

-- whether no key stands twice in a mapping of a tree, as in every tree that is read
abbrev pub own_keys : Tree → Bool
own_keys = fold-Tree Bool own_keys_step

-- a tree without marks, laid over nothing by no rule, is that tree
abbrev pub TreesStand : Type 0
TreesStand = (tree : Tree) → no_mark tree ≡ true → own_keys tree ≡ true → laid tree Value [] Null ≡ Ok (Some tree)

-- null, laid over a tree, leaves it, as far as it is within the limits
abbrev pub NullLeaves : Type 0
NullLeaves = (base : Tree) → over_files base Null ≡ within base

-- no mark is left in a merged tree
abbrev pub NoMarkIsLeft : Type 0
NoMarkIsLeft = (base over tree : Tree) → overlaid base over ≡ Ok tree → no_mark tree ≡ true
