-- Plain trees over trees of each kind.
use Rattle.std.proofs.Common.{◌≡◌, ◌∙◌, ℕ, List, Option, None, Some, Result, Ok, ap, sym, rules}
use Rattle.tree_base.specs.declared.tree.Tree.{Tree, out-Tree, the_lemmas}
use Rattle.tree_base.specs.declared.tree.Tree.TheVariants.{Map, Null, Scalar, Seq}
use Rattle.attribute_paths.specs.Patterns.{here}
use Rattle.merge_tables.specs.declared.refusal.MergeRefusal.{MergeRefusal}
use Rattle.merge_tables.specs.declared.rules.Standing.TheVariants.{Value}
use Rattle.merge_tables.specs.Attributes.{JoiningRules}
use Rattle.merge_rules.specs.Overlay.{entries_below, items_below, items_kept, scalar_over}
use Rattle.laws_merging.specs.Grouping.{given}
use Rattle.laws_merging.proofs.Entries.{Entries}
use Rattle.laws_merging.proofs.Options.{◌>>?◌, next_next}
use Rattle.laws_merging.proofs.Over.{all_bare, joins, map_gives, null_lays, over, puts, scalar_lays, seq_gives, tree_of}
use Rattle.laws_merging.proofs.Standing.{all_stand, stands}
use Rattle.laws_merging.proofs.Plain.{Plain, of_map, of_seq}

module _ (lines : JoiningRules) where
  pub over_null : (base : Tree) → over lines base Null ≡ Some base
  over_null base = ap tree_of (null_lays Value lines base)

  pub null_under : (tree : Tree) → Plain lines tree → over lines Null tree ≡ Some tree
  null_under tree plain = ap tree_of (stands tree lines plain Value)

  pub over_scalar : (text : List ℕ) (base : Tree) → over lines base (Scalar text) ≡ tree_of (scalar_over text (out-Tree base))
  over_scalar text base = ap tree_of (scalar_lays Value lines base text)

  -- the entries and the items of what a tree is laid over
  abbrev pub entries_in : Tree → Option Entries
  entries_in base = given (entries_below (out-Tree base))

  abbrev pub items_in : Tree → Option (List Tree)
  items_in base = given (items_below (out-Tree base))

  pub over_map : (es : Entries) (base : Tree) → Plain lines (Map es) → over lines base (Map es) ≡ (entries_in base >>? λ below. puts lines es below >>? λ all. Some (Map all))
  over_map es base plain = map_gives Value lines base es (all_bare lines es (of_map lines es plain).1)

  pub made_map : (es : Entries) (base : Tree) → Plain lines (Map es) → over lines base (Map es) ≡ ((entries_in base >>? λ below. puts lines es below) >>? λ all. Some (Map all))
  made_map es base plain = over_map es base plain ∙ sym (next_next (entries_in base) (λ below. puts lines es below) (λ all. Some (Map all)))

  pub over_seq : (xs : List Tree) (base : Tree) → Plain lines (Seq xs) → over lines base (Seq xs) ≡ (items_in base >>? λ below. joins (here lines) xs (items_kept (here lines) below) >>? λ all. Some (Seq all))
  over_seq xs base plain = let parts = of_seq lines xs plain in seq_gives Value lines base xs parts.1 (all_stand xs parts.1)

  pub made_seq : (xs : List Tree) (base : Tree) → Plain lines (Seq xs) → over lines base (Seq xs) ≡ ((items_in base >>? λ below. joins (here lines) xs (items_kept (here lines) below)) >>? λ all. Some (Seq all))
  made_seq xs base plain = over_seq xs base plain ∙ sym (next_next (items_in base) (λ below. joins (here lines) xs (items_kept (here lines) below)) (λ all. Some (Seq all)))

  map_entries : (es : Entries) → entries_below (out-Tree (Map es)) ≡ Ok es
  map_entries es = search (rules, the_lemmas)

  seq_items : (xs : List Tree) → items_below (out-Tree (Seq xs)) ≡ Ok xs
  seq_items xs = search (rules, the_lemmas)

  pub map_on_map : (es fs : Entries) → Plain lines (Map es) → over lines (Map fs) (Map es) ≡ (puts lines es fs >>? λ all. Some (Map all))
  map_on_map es fs plain = over_map es (Map fs) plain ∙ ap (λ (r : Result Entries MergeRefusal). given r >>? λ below. puts lines es below >>? λ all. Some (Map all)) (map_entries fs)

  pub seq_on_seq : (xs ys : List Tree) → Plain lines (Seq xs) → over lines (Seq ys) (Seq xs) ≡ (joins (here lines) xs (items_kept (here lines) ys) >>? λ all. Some (Seq all))
  seq_on_seq xs ys plain = over_seq xs (Seq ys) plain ∙ ap (λ (r : Result (List Tree) MergeRefusal). given r >>? λ below. joins (here lines) xs (items_kept (here lines) below) >>? λ all. Some (Seq all)) (seq_items ys)

  pub scalar_on_scalar : (text old : List ℕ) → over lines (Scalar old) (Scalar text) ≡ Some (Scalar text)
  scalar_on_scalar text old = search (rules, the_lemmas)

  -- kinds that differ
  pub scalar_on_map : (text : List ℕ) (fs : Entries) → over lines (Map fs) (Scalar text) ≡ None
  scalar_on_map text fs = search (rules, the_lemmas)

  pub scalar_on_seq : (text : List ℕ) (ys : List Tree) → over lines (Seq ys) (Scalar text) ≡ None
  scalar_on_seq text ys = search (rules, the_lemmas)

  pub map_on_scalar : (es : Entries) (text : List ℕ) → over lines (Scalar text) (Map es) ≡ None
  map_on_scalar es text = search (rules, the_lemmas)

  pub map_on_seq : (es : Entries) (ys : List Tree) → over lines (Seq ys) (Map es) ≡ None
  map_on_seq es ys = search (rules, the_lemmas)

  pub seq_on_scalar : (xs : List Tree) (text : List ℕ) → over lines (Scalar text) (Seq xs) ≡ None
  seq_on_scalar xs text = search (rules, the_lemmas)

  pub seq_on_map : (xs : List Tree) (fs : Entries) → over lines (Map fs) (Seq xs) ≡ None
  seq_on_map xs fs = search (rules, the_lemmas)
