-- Laws of merged trees.
use Rattle.std.proofs.Common.{◌≡◌, Bool, true, false, cond, [], nat_le, Option, None, Some, Result, Ok, Err, ap, subst}
use Rattle.tree_base.specs.Answers.{◌>>=◌}
use Rattle.tree_base.specs.Trees.{node_count, text_size}
use Rattle.tree_base.specs.declared.tree.Tree.{Tree}
use Rattle.tree_base.specs.declared.tree.Tree.TheVariants.{Null}
use Rattle.merge_tables.specs.declared.refusal.MergeRefusal.{MergeRefusal}
use Rattle.merge_tables.specs.declared.refusal.MergeRefusal.TheVariants.{TooManyNodes, TooMuchText}
use Rattle.merge_tables.specs.declared.rules.Standing.TheVariants.{Value}
use Rattle.merge_tables.specs.Answers.{within}
use Rattle.merge_tables.specs.Attributes.{overlay_rules}
use Rattle.merge_rules.specs.Laws.{NoMarkIsLeft, NullLeaves}
use Rattle.merge_rules.specs.Overlay.{laid, over_files, overlaid}
use Rattle.merge_tables.specs.Parts.{or_null}
use Rattle.merge_rules.proofs.Laying.{null_lays}
use Rattle.merge_rules.proofs.Unmarked.{GivesClean, IsClean, all_clean, null_clean}

pub null_leaves : NullLeaves
unfolding over_files
null_leaves base = ap (λ (r : Result (Option Tree) MergeRefusal). r >>= λ tree. within (or_null tree)) (null_lays Value overlay_rules base)

-- a tree that may be taken away, or null
or_clean : (tree : Option Tree) → GivesClean (Ok tree) → IsClean (or_null tree)
or_clean None is = null_clean
or_clean (Some tree) is = is

-- a tree within the limits is that tree
pub within_same : (tree merged : Tree) → within tree ≡ Ok merged → tree ≡ merged
within_same tree merged h = by (nat_le (node_count tree) 200000) (nat_le (text_size tree) 16777216) h
  where
    by : (few short : Bool) → cond {A = Result Tree MergeRefusal} few (cond short (Ok tree) (Err TooMuchText)) (Err TooManyNodes) ≡ Ok merged → tree ≡ merged
    by true true h = cc
    by true false h = absurd (let wrong : ⊥ = cc in wrong)
    by false short h = absurd (let wrong : ⊥ = cc in wrong)

-- what is merged from trees without marks has none
over_clean : (base over merged : Tree) → IsClean base → over_files base over ≡ Ok merged → IsClean merged
unfolding over_files
over_clean base over merged is h = by (laid over Value overlay_rules base) (all_clean over Value overlay_rules base is) h
  where
    by : (r : Result (Option Tree) MergeRefusal) → GivesClean r → (r >>= λ tree. within (or_null tree)) ≡ Ok merged → IsClean merged
    by (Ok tree) clean h = subst IsClean (within_same (or_null tree) merged h) (or_clean tree clean)
    by (Err refusal) clean h = absurd (let wrong : ⊥ = cc in wrong)

pub no_mark_is_left : NoMarkIsLeft
unfolding overlaid
no_mark_is_left base over merged h = by (laid base Value [] Null) (all_clean base Value [] Null null_clean) h
  where
    by : (r : Result (Option Tree) MergeRefusal) → GivesClean r → (r >>= λ tree. over_files (or_null tree) over) ≡ Ok merged → IsClean merged
    by (Ok tree) clean h = over_clean (or_null tree) over merged (or_clean tree clean) h
    by (Err refusal) clean h = absurd (let wrong : ⊥ = cc in wrong)
