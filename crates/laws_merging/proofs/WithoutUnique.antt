-- Which trees are plain.
use Rattle.std.proofs.Common.{◌≡◌, ◌∙◌, ℕ, Bool, true, false, not, cond, List, [], ◌∷◌, ◌++◌, Some, refl, sym, true≢false}
use Rattle.std.proofs.lemmas.Bool.{and_parts}
use Rattle.std.specs.Str.{bytes_eq}
use Rattle.tree_base.specs.declared.tree.Tree.{Tree}
use Rattle.attribute_paths.specs.Patterns.{Pattern, any_item, any_key, below_key, here, left_at_key, named, said_by}
use Rattle.attribute_paths.proofs.Trees.{OfAll, of_every}
use Rattle.merge_tables.specs.declared.rules.Joining.{Joining}
use Rattle.merge_tables.specs.declared.rules.Joining.TheVariants.{Replaced, Unique}
use Rattle.merge_tables.specs.Attributes.{JoiningRules}
use Rattle.laws_merging.specs.Grouping.{WithoutUniquePlain, are_known, has_no_unique, makes_unique}
use Rattle.laws_merging.proofs.Clean.{AreClean, IsClean, map_clean, override_marks, reset_marks, seq_clean}
use Rattle.laws_merging.proofs.Entries.{Entries}
use Rattle.laws_merging.proofs.Plain.{ArePlain, Plain, map_plain, null_plain, scalar_plain, seq_plain}

abbrev NoUnique : JoiningRules → Type 0
NoUnique lines = has_no_unique lines ≡ true

-- nothing is asked of a sequence then
said_known : (joining : Joining) (xs : List Tree) → not (makes_unique joining) ≡ true → are_known (Some joining) xs ≡ true
said_known Replaced xs h = refl
said_known (Unique kind) xs h = absurd (true≢false (sym h))

here_known : (lines : JoiningRules) (xs : List Tree) → NoUnique lines → are_known (here lines) xs ≡ true
here_known [] xs h = refl
here_known (line ∷ lines) xs h =
    let p = and_parts (not (makes_unique line.1)) (has_no_unique lines) h in
    by line.0 p.0 (here_known lines xs p.1)
  where
    by : (path : Pattern) → not (makes_unique line.1) ≡ true → are_known (here lines) xs ≡ true → are_known (said_by path line.1 (here lines)) xs ≡ true
    by [] own more = said_known line.1 xs own
    by (part ∷ path) own more = more

-- and the rules below are such again
left_known : (key : List ℕ) (path : Pattern) (joining : Joining) (rest : JoiningRules) → not (makes_unique joining) ≡ true → NoUnique rest → NoUnique (left_at_key key path joining ++ rest)
left_known key [] joining rest own more = more
left_known key (named name ∷ path) joining rest own more = by (bytes_eq name key)
  where
    by : (b : Bool) → NoUnique (cond b ((path, joining) ∷ []) [] ++ rest)
    by true = rw (own, more) refl
    by false = more
left_known key (any_key ∷ path) joining rest own more = rw (own, more) refl
left_known key (any_item ∷ path) joining rest own more = more

below_known : (key : List ℕ) (lines : JoiningRules) → NoUnique lines → NoUnique (below_key key lines)
below_known key [] h = refl
below_known key (line ∷ lines) h =
    let p = and_parts (not (makes_unique line.1)) (has_no_unique lines) h in
    left_known key line.0 line.1 (below_key key lines) p.0 (below_known key lines p.1)

-- a tree that is plain wherever no sequence has unique entries
abbrev PlainThere : Tree → Type 0
PlainThere tree = (lines : JoiningRules) → NoUnique lines → IsClean tree → Plain lines tree

each_entry : (lines : JoiningRules) → NoUnique lines → (es : Entries) → OfAll (λ (e : List ℕ × Tree). PlainThere e.1) es → AreClean es → ArePlain lines es
each_entry lines h [] is clean = tt
each_entry lines h (e ∷ es) is clean = (is.0 (below_key e.0 lines) (below_known e.0 lines h) clean.0, each_entry lines h es is.1 clean.1)

each_item : (xs : List Tree) → OfAll PlainThere xs → OfAll IsClean xs → OfAll (Plain []) xs
each_item [] is clean = tt
each_item (x ∷ xs) is clean = (is.0 [] refl clean.0, each_item xs is.1 clean.1)

plain_there : (tree : Tree) → PlainThere tree
plain_there =
    of_every PlainThere
    (λ lines h clean. null_plain lines)
    (λ text lines h clean. scalar_plain text lines)
    (λ es is lines h clean. let parts = map_clean es clean in map_plain lines es (parts.0, each_entry lines h es is parts.1))
    (λ xs is lines h clean. seq_plain lines xs (here_known lines xs h) (each_item xs is (seq_clean xs clean)))
    (λ lines h clean. absurd (true≢false (sym clean.0 ∙ reset_marks)))
    (λ inner is lines h clean. absurd (true≢false (sym clean.0 ∙ override_marks inner)))

pub without_unique_plain : WithoutUniquePlain
without_unique_plain lines tree h clean own = plain_there tree lines h (clean, own)
