-- What a tree doesn't speak of is as it was below.
use Rattle.std.proofs.Common.{◌≡◌, ◌∙◌, ℕ, Bool, true, false, cond, List, [], ◌∷◌, map, Option, None, Some, Result, Ok, Err, ap, refl, sym, true≢false, rules}
use Rattle.std.specs.Map.{keys_of}
use Rattle.std.specs.Option.{option_and_then}
use Rattle.std.specs.Str.{bytes_eq}
use Rattle.tree_base.specs.Answers.{◌>>=◌}
use Rattle.tree_base.specs.Entries.{value_at, with_entry}
use Rattle.tree_base.specs.declared.tree.Tree.{Tree, out-Tree, the_lemmas}
use Rattle.tree_base.specs.declared.tree.Tree.TheOpen.{Tree-F}
use Rattle.tree_base.specs.declared.tree.Tree.TheVariants.{Map, Null, Scalar, Seq}
use Rattle.tree_base.specs.declared.Step.TheVariants.{Key}
use Rattle.attribute_paths.specs.Patterns.{below_key, here}
use Rattle.attribute_paths.proofs.Trees.{of_every}
use Rattle.merge_tables.specs.declared.refusal.MergeRefusal.{MergeRefusal}
use Rattle.merge_tables.specs.declared.rules.Standing.TheVariants.{Value}
use Rattle.merge_tables.specs.Answers.{under, within}
use Rattle.merge_tables.specs.Attributes.{JoiningRules, overlay_rules}
use Rattle.merge_rules.specs.Laws.{are_apart}
use Rattle.merge_rules.specs.Overlay.{entries_below, entries_over, items_below, items_joined, items_kept, laid, layers, over_files, scalar_over, with_value}
use Rattle.merge_tables.specs.Parts.{or_null}
use Rattle.laws_merging.specs.Unspoken.{UnspokenStays, UnspokenStaysInFiles, entries_of, value_under}
use Rattle.laws_merging.proofs.Clean.{AreClean, IsClean, bare, map_clean, override_marks, reset_marks}
use Rattle.laws_merging.proofs.Entries.{Entries, other_value, own_value, same_key}
use Rattle.laws_merging.proofs.Fields.{new_value}
use Rattle.laws_merging.proofs.Over.{Stays, map_lays, null_lays, scalar_lays, seq_lays}
use Rattle.laws_merging.proofs.Plain.{first_new}
use Rattle.laws_merging.proofs.TreeGroups.{within_same}

-- a tree keeps what it doesn't speak of at a path
abbrev Stay : List (List ℕ) → Type 0
Stay path = (lines : JoiningRules) (base over merged : Tree) → IsClean over → laid over Value lines base ≡ Ok (Some merged) → value_under path over ≡ None → value_under path merged ≡ value_under path base

-- the value at a path below a value, where that is there
abbrev at : List (List ℕ) → Option Tree → Option Tree
at keys value = option_and_then (value_under keys) value

null_has : (key : List ℕ) → value_at (entries_of (out-Tree Null)) key ≡ None
null_has key = search (rules, the_lemmas)

scalar_has : (text key : List ℕ) → value_at (entries_of (out-Tree (Scalar text))) key ≡ None
scalar_has text key = search (rules, the_lemmas)

seq_has : (xs : List Tree) (key : List ℕ) → value_at (entries_of (out-Tree (Seq xs))) key ≡ None
seq_has xs key = search (rules, the_lemmas)

map_has : (es : Entries) → entries_of (out-Tree (Map es)) ≡ es
map_has es = search (rules, the_lemmas)

-- what isn't there is null, below which nothing is
or_nothing : (keys : List (List ℕ)) (over : Tree) (below : Option Tree) → value_under keys over ≡ None → value_under keys (or_null below) ≡ at keys below
or_nothing [] over below h = absurd (let wrong : ⊥ = cc in wrong)
or_nothing (key ∷ keys) over None h = ap (at keys) (null_has key)
or_nothing (key ∷ keys) over (Some tree) h = refl

entries_stay : (key : List ℕ) (keys : List (List ℕ)) → Stay keys → (lines : JoiningRules) (es : Entries) → are_apart (keys_of es) ≡ true → AreClean es → (below all : Entries)
    → entries_over lines (layers es) below ≡ Ok all → at keys (value_at es key) ≡ None → at keys (value_at all key) ≡ at keys (value_at below key)
entries_stay key keys stay lines [] apart clean below all h none = let same : below ≡ all = cc in ap (λ (l : Entries). at keys (value_at l key)) (sym same)
entries_stay key keys stay lines (e ∷ es) apart clean below all h none =
    let first = first_new e es apart in
    goes (bytes_eq key e.0) refl (laid e.1 Value (below_key e.0 lines) (or_null (value_at below e.0))) refl (bare e.1 clean.0.0 Value (below_key e.0 lines) (or_null (value_at below e.0)))
    h none (λ next. entries_stay key keys stay lines es first.1 clean.1 next all)
  where
    goes : (b : Bool) → bytes_eq key e.0 ≡ b → (r : Result (Option Tree) MergeRefusal) → laid e.1 Value (below_key e.0 lines) (or_null (value_at below e.0)) ≡ r → Stays r
        → ((under (Key e.0) r >>= λ value. Ok (with_value below e.0 value)) >>= entries_over lines (layers es)) ≡ Ok all
        → at keys (cond b (Some e.1) (value_at es key)) ≡ None
        → ((next : Entries) → entries_over lines (layers es) next ≡ Ok all → at keys (value_at es key) ≡ None → at keys (value_at all key) ≡ at keys (value_at next key))
        → at keys (value_at all key) ≡ at keys (value_at below key)
    goes b is (Ok None) e_is stays h none more = absurd stays
    goes b is (Err refusal) e_is stays h none more = absurd (let wrong : ⊥ = cc in wrong)
    goes true is (Ok (Some value)) e_is stays h none more =
        let first = first_new e es apart in
        let same = same_key key e.0 is in
        let new : value_at es key ≡ None = ap (value_at es) same ∙ new_value es e.0 first.0 in
        let own : value_at (with_entry below e.0 value) key ≡ Some value = ap (value_at (with_entry below e.0 value)) same ∙ own_value below e.0 value in
        more (with_entry below e.0 value) h (ap (at keys) new)
        ∙ ap (at keys) own
        ∙ stay (below_key e.0 lines) (or_null (value_at below e.0)) e.1 value clean.0 e_is none
        ∙ or_nothing keys e.1 (value_at below e.0) none
        ∙ ap (λ q. at keys (value_at below q)) (sym same)
    goes false is (Ok (Some value)) e_is stays h none more =
        more (with_entry below e.0 value) h none ∙ ap (at keys) (other_value below e.0 key value is)

module _ (key : List ℕ) (keys : List (List ℕ)) (lines : JoiningRules) (merged : Tree) where
  scalar_goes : (text : List ℕ) (v : Tree-F Tree) → scalar_over text v ≡ Ok (Some merged) → value_under (key ∷ keys) merged ≡ at keys (value_at (entries_of v) key)
  scalar_goes text Tree-F.Null h = let same : Scalar text ≡ merged = cc in ap (value_under (key ∷ keys)) (sym same) ∙ ap (at keys) (scalar_has text key)
  scalar_goes text (Tree-F.Scalar old) h = let same : Scalar text ≡ merged = cc in ap (value_under (key ∷ keys)) (sym same) ∙ ap (at keys) (scalar_has text key)
  scalar_goes text (Tree-F.Map es) h = absurd (let wrong : ⊥ = cc in wrong)
  scalar_goes text (Tree-F.Seq xs) h = absurd (let wrong : ⊥ = cc in wrong)
  scalar_goes text Tree-F.Reset h = absurd (let wrong : ⊥ = cc in wrong)
  scalar_goes text (Tree-F.Override inner) h = absurd (let wrong : ⊥ = cc in wrong)

  seq_made : (r : Result (List Tree) MergeRefusal) → (r >>= λ all. Ok (Some (Seq all))) ≡ Ok (Some merged) → value_under (key ∷ keys) merged ≡ None
  seq_made (Ok all) h = let same : Seq all ≡ merged = cc in ap (value_under (key ∷ keys)) (sym same) ∙ ap (at keys) (seq_has all key)
  seq_made (Err refusal) h = absurd (let wrong : ⊥ = cc in wrong)

  seq_goes : (next : List Tree → Result (List Tree) MergeRefusal) (v : Tree-F Tree) → (items_below v >>= λ below. next below >>= λ all. Ok (Some (Seq all))) ≡ Ok (Some merged)
      → value_under (key ∷ keys) merged ≡ at keys (value_at (entries_of v) key)
  seq_goes next Tree-F.Null h = seq_made (next []) h
  seq_goes next (Tree-F.Scalar old) h = absurd (let wrong : ⊥ = cc in wrong)
  seq_goes next (Tree-F.Map es) h = absurd (let wrong : ⊥ = cc in wrong)
  seq_goes next (Tree-F.Seq xs) h = seq_made (next xs) h
  seq_goes next Tree-F.Reset h = absurd (let wrong : ⊥ = cc in wrong)
  seq_goes next (Tree-F.Override inner) h = absurd (let wrong : ⊥ = cc in wrong)

  module _ (es : Entries) (stays : (below all : Entries) → entries_over lines (layers es) below ≡ Ok all → at keys (value_at all key) ≡ at keys (value_at below key)) where
    map_made : (below : Entries) (r : Result Entries MergeRefusal) → entries_over lines (layers es) below ≡ r → (r >>= λ all. Ok (Some (Map all))) ≡ Ok (Some merged) → value_under (key ∷ keys) merged ≡ at keys (value_at below key)
    map_made below (Ok all) is h =
        let same : Map all ≡ merged = cc in
        ap (value_under (key ∷ keys)) (sym same) ∙ ap (λ (l : Entries). at keys (value_at l key)) (map_has all) ∙ stays below all is
    map_made below (Err refusal) is h = absurd (let wrong : ⊥ = cc in wrong)

    map_goes : (v : Tree-F Tree) → (entries_below v >>= entries_over lines (layers es) >>= λ all. Ok (Some (Map all))) ≡ Ok (Some merged) → value_under (key ∷ keys) merged ≡ at keys (value_at (entries_of v) key)
    map_goes Tree-F.Null h = map_made [] (entries_over lines (layers es) []) refl h
    map_goes (Tree-F.Scalar old) h = absurd (let wrong : ⊥ = cc in wrong)
    map_goes (Tree-F.Map fs) h = map_made fs (entries_over lines (layers es) fs) refl h
    map_goes (Tree-F.Seq xs) h = absurd (let wrong : ⊥ = cc in wrong)
    map_goes Tree-F.Reset h = absurd (let wrong : ⊥ = cc in wrong)
    map_goes (Tree-F.Override inner) h = absurd (let wrong : ⊥ = cc in wrong)

stay : (path : List (List ℕ)) → Stay path
stay [] lines base over merged = λ clean h none. absurd (let wrong : ⊥ = cc in wrong)
stay (key ∷ keys) lines base over merged =
    of_every (λ over. IsClean over → laid over Value lines base ≡ Ok (Some merged) → value_under (key ∷ keys) over ≡ None → value_under (key ∷ keys) merged ≡ value_under (key ∷ keys) base)
    (λ clean h none. let e : Ok (Some base) ≡ Ok (Some merged) = sym (null_lays Value lines base) ∙ h in let same : base ≡ merged = cc in ap (value_under (key ∷ keys)) (sym same))
    (λ text clean h none. scalar_goes key keys lines merged text (out-Tree base) (sym (scalar_lays Value lines base text) ∙ h))
    (λ es is clean h none.
    let parts = map_clean es clean in
    map_goes key keys lines merged es
    (λ below all e. entries_stay key keys (stay keys) lines es parts.0 parts.1 below all e (sym (ap (λ (l : Entries). at keys (value_at l key)) (map_has es)) ∙ none))
    (out-Tree base) (sym (map_lays Value lines base es) ∙ h))
    (λ xs is clean h none. seq_goes key keys lines merged (λ below. items_joined (here lines) (map laid xs) (items_kept (here lines) below)) (out-Tree base) (sym (seq_lays Value lines base xs) ∙ h))
    (λ clean h none. absurd (true≢false (sym clean.0 ∙ reset_marks)))
    (λ inner is clean h none. absurd (true≢false (sym clean.0 ∙ override_marks inner)))
    over

pub unspoken_stays : UnspokenStays
unspoken_stays lines path base over merged clean own h none = stay path lines base over merged (clean, own) h none

pub unspoken_stays_in_files : UnspokenStaysInFiles
unfolding over_files
unspoken_stays_in_files path base over merged clean own h none = by (laid over Value overlay_rules base) refl (bare over clean Value overlay_rules base) h
  where
    by : (r : Result (Option Tree) MergeRefusal) → laid over Value overlay_rules base ≡ r → Stays r → (r >>= λ made. within (or_null made)) ≡ Ok merged → value_under path merged ≡ value_under path base
    by (Ok None) is stays h = absurd stays
    by (Ok (Some made)) is stays h = ap (value_under path) (sym (within_same made merged h)) ∙ stay path overlay_rules base over made (clean, own) is none
    by (Err refusal) is stays h = absurd (let wrong : ⊥ = cc in wrong)
