-- A plain tree over nothing is that tree.
use Rattle.std.proofs.Common.{◌≡◌, ◌∙◌, ℕ, Bool, true, false, cond, not, ◌&&◌, List, [], ◌∷◌, ◌++◌, Option, None, Some, Result, Ok, Err, ap, refl, sym, true≢false, rules}
use Rattle.std.proofs.lemmas.Bool.{and_parts}
use Rattle.std.proofs.lemmas.List.{append-nil, append_assoc}
use Rattle.std.specs.List.{list_any}
use Rattle.std.specs.Map.{keys_of}
use Rattle.std.specs.Str.{bytes_eq}
use Rattle.tree_base.specs.Entries.{value_at, with_entry}
use Rattle.tree_base.specs.declared.tree.Tree.{Tree, out-Tree, the_lemmas}
use Rattle.tree_base.specs.declared.tree.Tree.TheVariants.{Map, Null, Scalar, Seq}
use Rattle.attribute_paths.specs.Patterns.{below_key, here}
use Rattle.attribute_paths.proofs.Trees.{OfAll, of_every}
use Rattle.merge_tables.specs.declared.refusal.MergeRefusal.{MergeRefusal}
use Rattle.merge_tables.specs.declared.rules.EntryKind.{EntryKind}
use Rattle.merge_tables.specs.declared.rules.Joining.{Joining}
use Rattle.merge_tables.specs.declared.rules.Joining.TheVariants.{Replaced, Unique}
use Rattle.merge_tables.specs.declared.rules.Standing.{Standing}
use Rattle.merge_tables.specs.declared.rules.Standing.TheVariants.{Item, Value}
use Rattle.merge_tables.specs.Attributes.{JoiningRules}
use Rattle.merge_rules.specs.Overlay.{entries_below, items_below, items_kept, laid}
use Rattle.merge_rules.specs.Uniqueness.{are_one}
use Rattle.merge_tables.specs.Parts.{or_null}
use Rattle.laws_merging.specs.Grouping.{are_known, are_several, by_texts, given}
use Rattle.laws_merging.proofs.Entries.{Entries, put_new}
use Rattle.laws_merging.proofs.Options.{◌>>?◌}
use Rattle.laws_merging.proofs.Plain.{IsNew, Plain, PlainEntries, first_new, of_map, not_true, of_seq, or_parts, override_marks, reset_marks}
use Rattle.laws_merging.proofs.Keys.{IsApart, two_turned}
use Rattle.laws_merging.proofs.Over.{ItemStands, all_bare, joins, map_gives, null_lays, over, puts, seq_gives, taken, tree_of}

-- the first entry of a list with entries that are known apart
pub first_known : (kind : EntryKind) (x : Tree) (xs : List Tree) → are_several kind (x ∷ xs) ≡ true → (by_texts kind (out-Tree x) ≡ true) × (IsApart kind x xs × (are_several kind xs ≡ true))
first_known kind x xs known =
    let p = and_parts (by_texts kind (out-Tree x)) (not (list_any (are_one kind x) xs) && are_several kind xs) known in
    let q = and_parts (not (list_any (are_one kind x) xs)) (are_several kind xs) p.1 in
    (p.0, (not_true (list_any (are_one kind x) xs) q.0, q.1))

-- an entry that is one with none
pub taken_behind : (kind : EntryKind) (items : List Tree) (entry : Tree) → IsApart kind entry items → taken kind items entry ≡ Some (items ++ entry ∷ [])
taken_behind kind [] entry apart = refl
taken_behind kind (item ∷ items) entry apart =
    let p = or_parts (are_one kind entry item) (list_any (are_one kind entry) items) apart in
    rw p.0 (ap (λ (o : Option (List Tree)). o >>? λ all. Some (item ∷ all)) (taken_behind kind items entry p.1))

apart_behind : (kind : EntryKind) (items : List Tree) (x y : Tree) → IsApart kind y items → are_one kind y x ≡ false → IsApart kind y (items ++ x ∷ [])
apart_behind kind [] x y apart two = rw two refl
apart_behind kind (item ∷ items) x y apart two =
    let p = or_parts (are_one kind y item) (list_any (are_one kind y) items) apart in
    rw (p.0, apart_behind kind items x y p.1 two) refl

still_apart : (kind : EntryKind) (items : List Tree) (x : Tree) (xs : List Tree) → OfAll (λ (y : Tree). IsApart kind y items) xs → IsApart kind x xs → OfAll (λ (y : Tree). IsApart kind y (items ++ x ∷ [])) xs
still_apart kind items x [] apart new = tt
still_apart kind items x (y ∷ xs) apart new =
    let p = or_parts (are_one kind x y) (list_any (are_one kind x) xs) new in
    (apart_behind kind items x y apart.0 (two_turned kind x y p.0), still_apart kind items x xs apart.1 p.1)

-- a plain tree over nothing is that tree
abbrev pub Stands : Tree → Type 0
Stands tree = (lines : JoiningRules) → Plain lines tree → (standing : Standing) → laid tree standing lines Null ≡ Ok (Some tree)

-- keys that no entry has
abbrev AreNew : Entries → Entries → Type 0
AreNew entries es = OfAll (λ (e : List ℕ × Tree). value_at entries e.0 ≡ None) es

given_tree : (r : Result (Option Tree) MergeRefusal) (tree : Tree) → tree_of r ≡ Some tree → r ≡ Ok (Some tree)
given_tree (Ok o) tree h = ap Ok h
given_tree (Err refusal) tree h = absurd (let wrong : ⊥ = cc in wrong)

-- a key that is new stays so behind another one
behind_new : (entries : Entries) (k q : List ℕ) (v : Tree) → value_at entries q ≡ None → bytes_eq q k ≡ false → value_at (entries ++ (k, v) ∷ []) q ≡ None
behind_new [] k q v h other = rw other refl
behind_new (e ∷ entries) k q v h other = by (bytes_eq q e.0) h (λ h. behind_new entries k q v h other)
  where
    by : (b : Bool) → cond b (Some e.1) (value_at entries q) ≡ None → (value_at entries q ≡ None → value_at (entries ++ (k, v) ∷ []) q ≡ None) → cond b (Some e.1) (value_at (entries ++ (k, v) ∷ []) q) ≡ None
    by true h more = absurd (let wrong : ⊥ = cc in wrong)
    by false h more = more h

all_new : (entries : Entries) (k : List ℕ) (v : Tree) (es : Entries) → AreNew entries es → IsNew k es → AreNew (entries ++ (k, v) ∷ []) es
all_new entries k v [] new others = tt
all_new entries k v (e ∷ es) new others =
    let p = or_parts (bytes_eq e.0 k) (list_any (λ other. bytes_eq other k) (keys_of es)) others in
    (behind_new entries k e.0 v new.0 p.0, all_new entries k v es new.1 p.1)

entries_stand : (lines : JoiningRules) (es : Entries) → OfAll (λ (e : List ℕ × Tree). Stands e.1) es → PlainEntries lines es → (entries : Entries) → AreNew entries es → puts lines es entries ≡ Some (entries ++ es)
entries_stand lines [] stand plain entries new = ap Some (sym (append-nil entries))
entries_stand lines (e ∷ es) stand plain entries new =
    let first = first_new e es plain.0 in
    ap (λ (o : Option Tree). (over (below_key e.0 lines) (or_null o) e.1 >>? λ v. Some (with_entry entries e.0 v)) >>? λ next. puts lines es next) new.0
    ∙ ap (λ (r : Result (Option Tree) MergeRefusal). (tree_of r >>? λ v. Some (with_entry entries e.0 v)) >>? λ next. puts lines es next) (stand.0 (below_key e.0 lines) plain.1.0 Value)
    ∙ ap (puts lines es) (put_new entries e.0 e.1 new.0)
    ∙ entries_stand lines es stand.1 (first.1, plain.1.1) (entries ++ (e.0, e.1) ∷ []) (all_new entries e.0 e.1 es new.1 first.0)
    ∙ ap Some (append_assoc entries (e ∷ []) es)

nothing_new : (es : Entries) → AreNew [] es
nothing_new [] = tt
nothing_new (e ∷ es) = (refl, nothing_new es)

null_below : entries_below (out-Tree Null) ≡ Ok []
null_below = search (rules, the_lemmas)

null_items : items_below (out-Tree Null) ≡ Ok []
null_items = search (rules, the_lemmas)

map_stands : (es : Entries) → OfAll (λ (e : List ℕ × Tree). Stands e.1) es → Stands (Map es)
map_stands es stand lines plain s =
    let parts = of_map lines es plain in
    given_tree (laid (Map es) s lines Null) (Map es)
    (map_gives s lines Null es (all_bare lines es parts.1)
    ∙ ap (λ (r : Result Entries MergeRefusal). given r >>? λ below. puts lines es below >>? λ all. Some (Map all)) null_below
    ∙ ap (λ (o : Option Entries). o >>? λ all. Some (Map all)) (entries_stand lines es stand parts [] (nothing_new es)))

items_stand : (xs : List Tree) → OfAll Stands xs → OfAll (Plain []) xs → OfAll ItemStands xs
items_stand [] stand plain = tt
items_stand (x ∷ xs) stand plain = (stand.0 [] plain.0 Item, items_stand xs stand.1 plain.1)

-- items one by one behind others, where none is one with another
unique_stand : (kind : EntryKind) (xs : List Tree) → are_several kind xs ≡ true → (items : List Tree) → OfAll (λ (x : Tree). IsApart kind x items) xs → joins (Some (Unique kind)) xs items ≡ Some (items ++ xs)
unique_stand kind [] known items apart = ap (λ (l : List Tree). Some l) (sym (append-nil items))
unique_stand kind (x ∷ xs) known items apart =
    let first = first_known kind x xs known in
    ap (λ (o : Option (List Tree)). o >>? λ all. joins (Some (Unique kind)) xs all) (taken_behind kind items x apart.0)
    ∙ unique_stand kind xs first.1.1 (items ++ x ∷ []) (still_apart kind items x xs apart.1 first.1.0)
    ∙ ap (λ (l : List Tree). Some l) (append_assoc items (x ∷ []) xs)

nothing_apart : (kind : EntryKind) (xs : List Tree) → OfAll (λ (x : Tree). IsApart kind x []) xs
nothing_apart kind [] = tt
nothing_apart kind (x ∷ xs) = (refl, nothing_apart kind xs)

-- items that are appended
pub joins_behind : (xs items : List Tree) → joins None xs items ≡ Some (items ++ xs)
joins_behind [] items = ap (λ (l : List Tree). Some l) (sym (append-nil items))
joins_behind (x ∷ xs) items = joins_behind xs (items ++ x ∷ []) ∙ ap (λ (l : List Tree). Some l) (append_assoc items (x ∷ []) xs)

pub joins_anew : (xs items : List Tree) → joins (Some Replaced) xs items ≡ Some (items ++ xs)
joins_anew [] items = ap (λ (l : List Tree). Some l) (sym (append-nil items))
joins_anew (x ∷ xs) items = joins_anew xs (items ++ x ∷ []) ∙ ap (λ (l : List Tree). Some l) (append_assoc items (x ∷ []) xs)

joins_nothing : (joining : Option Joining) (xs : List Tree) → are_known joining xs ≡ true → joins joining xs (items_kept joining []) ≡ Some xs
joins_nothing None xs known = joins_behind xs []
joins_nothing (Some Replaced) xs known = joins_anew xs []
joins_nothing (Some (Unique kind)) xs known = unique_stand kind xs known [] (nothing_apart kind xs)

seq_stands : (xs : List Tree) → OfAll Stands xs → Stands (Seq xs)
seq_stands xs stand lines plain s =
    let parts = of_seq lines xs plain in
    given_tree (laid (Seq xs) s lines Null) (Seq xs)
    (seq_gives s lines Null xs parts.1 (items_stand xs stand parts.1)
    ∙ ap (λ (r : Result (List Tree) MergeRefusal). given r >>? λ below. joins (here lines) xs (items_kept (here lines) below) >>? λ all. Some (Seq all)) null_items
    ∙ ap (λ (o : Option (List Tree)). o >>? λ all. Some (Seq all)) (joins_nothing (here lines) xs parts.0))

scalar_stands : (text : List ℕ) (lines : JoiningRules) (standing : Standing) → laid (Scalar text) standing lines Null ≡ Ok (Some (Scalar text))
scalar_stands text lines standing = search (rules, the_lemmas)

pub stands : (tree : Tree) → Stands tree
stands =
    of_every Stands
    (λ lines plain s. null_lays s lines Null)
    (λ text lines plain s. scalar_stands text lines s)
    map_stands
    seq_stands
    (λ lines plain s. absurd (true≢false (sym plain ∙ reset_marks lines)))
    (λ inner is lines plain s. absurd (true≢false (sym plain ∙ override_marks inner lines)))

pub all_stand : (xs : List Tree) → OfAll (Plain []) xs → OfAll ItemStands xs
all_stand [] plain = tt
all_stand (x ∷ xs) plain = (stands x [] plain.0 Item, all_stand xs plain.1)
