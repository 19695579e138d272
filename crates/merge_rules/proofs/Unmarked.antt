-- No mark is left where a tree is laid over one that has none.
use Rattle.std.proofs.Common.{◌≡◌, ◌∙◌, ℕ, zero, suc, Bool, true, false, cond, List, [], ◌∷◌, ◌++◌, map, slice_get, slice_set, unwrap_or, Option, None, Some, Result, Ok, Err, subst, sym, refl, rules}
use Rattle.std.proofs.lemmas.Bool.{and_parts}
use Rattle.std.specs.List.{list_all}
use Rattle.std.specs.Map.{remove_entry, values_of}
use Rattle.std.specs.Str.{bytes_eq}
use Rattle.tree_base.specs.Answers.{◌>>=◌}
use Rattle.tree_base.specs.Entries.{value_at, with_entry}
use Rattle.tree_base.specs.declared.tree.Tree.{Tree, out-Tree, the_lemmas}
use Rattle.tree_base.specs.declared.tree.Tree.TheFolds.{fold_out-Tree, map-Tree}
use Rattle.tree_base.specs.declared.tree.Tree.TheOpen.{Tree-F}
use Rattle.tree_base.specs.declared.tree.Tree.TheVariants.{Map, Null, Scalar, Seq}
use Rattle.tree_base.specs.declared.Step.TheVariants.{Index, Key}
use Rattle.merge_tables.specs.declared.refusal.MergeRefusal.{MergeRefusal}
use Rattle.merge_tables.specs.declared.rules.EntryKind.{EntryKind}
use Rattle.merge_tables.specs.declared.rules.Joining.{Joining}
use Rattle.merge_tables.specs.declared.rules.Joining.TheVariants.{Replaced, Unique}
use Rattle.merge_tables.specs.declared.rules.Standing.{Standing}
use Rattle.merge_tables.specs.declared.rules.Standing.TheVariants.{Item, Value}
use Rattle.merge_tables.specs.Answers.{place, under}
use Rattle.merge_tables.specs.Attributes.{JoiningRules}
use Rattle.merge_rules.specs.Laws.{no_mark, no_mark_step}
use Rattle.merge_rules.specs.Overlay.{entries_below, entries_over, entry_over, entry_placed, entry_taken, item_joined, items_below, items_joined, items_kept, kept_below, laid, layers, one_of, scalar_over, with_value}
use Rattle.attribute_paths.specs.Patterns.{below_key, here}
use Rattle.merge_rules.specs.Uniqueness.{place_of}
use Rattle.merge_tables.specs.Parts.{or_null}
use Rattle.attribute_paths.proofs.Trees.{OfAll, of_every}
use Rattle.merge_rules.proofs.Laying.{map_lays, null_lays, override_lays, reset_lays, scalar_lays, seq_lays}

-- a tree without marks, and entries of such
abbrev pub IsClean : Tree → Type 0
IsClean tree = no_mark tree ≡ true

abbrev pub AreClean : List (List ℕ × Tree) → Type 0
AreClean es = OfAll (λ (e : List ℕ × Tree). IsClean e.1) es

-- what is given has no mark
abbrev pub GivesClean : Result (Option Tree) MergeRefusal → Type 0
GivesClean (Ok None) = Unit {0}
GivesClean (Ok (Some tree)) = IsClean tree
GivesClean (Err e) = Unit {0}

abbrev GiveEntries : Result (List (List ℕ × Tree)) MergeRefusal → Type 0
GiveEntries (Ok es) = AreClean es
GiveEntries (Err e) = Unit {0}

abbrev GiveItems : Result (List Tree) MergeRefusal → Type 0
GiveItems (Ok xs) = OfAll IsClean xs
GiveItems (Err e) = Unit {0}

pub null_clean : IsClean Null
null_clean = search (rules, the_lemmas)

scalar_clean : (text : List ℕ) → IsClean (Scalar text)
scalar_clean text = search (rules, the_lemmas)

map_opens : (es : List (List ℕ × Tree)) → no_mark (Map es) ≡ list_all (λ is. is) (values_of (map (λ (e : List ℕ × Tree). (e.0, no_mark e.1)) es))
map_opens es = search (rules, the_lemmas)

seq_opens : (xs : List Tree) → no_mark (Seq xs) ≡ list_all (λ is. is) (map no_mark xs)
seq_opens xs = search (rules, the_lemmas)

all_values : (es : List (List ℕ × Tree)) → AreClean es → list_all (λ is. is) (values_of (map (λ (e : List ℕ × Tree). (e.0, no_mark e.1)) es)) ≡ true
all_values [] h = refl
all_values (e ∷ es) h = rw (h.0, all_values es h.1) refl

each_value : (es : List (List ℕ × Tree)) → list_all (λ is. is) (values_of (map (λ (e : List ℕ × Tree). (e.0, no_mark e.1)) es)) ≡ true → AreClean es
each_value [] h = tt
each_value (e ∷ es) h =
    let p = and_parts (no_mark e.1) (list_all (λ is. is) (values_of (map (λ (e : List ℕ × Tree). (e.0, no_mark e.1)) es))) h in
    (p.0, each_value es p.1)

all_items : (xs : List Tree) → OfAll IsClean xs → list_all (λ is. is) (map no_mark xs) ≡ true
all_items [] h = refl
all_items (x ∷ xs) h = rw (h.0, all_items xs h.1) refl

each_item : (xs : List Tree) → list_all (λ is. is) (map no_mark xs) ≡ true → OfAll IsClean xs
each_item [] h = tt
each_item (x ∷ xs) h = let p = and_parts (no_mark x) (list_all (λ is. is) (map no_mark xs)) h in (p.0, each_item xs p.1)

map_clean : (es : List (List ℕ × Tree)) → AreClean es → IsClean (Map es)
map_clean es h = map_opens es ∙ all_values es h

seq_clean : (xs : List Tree) → OfAll IsClean xs → IsClean (Seq xs)
seq_clean xs h = seq_opens xs ∙ all_items xs h

pub map_cleans : (es : List (List ℕ × Tree)) → IsClean (Map es) → AreClean es
map_cleans es h = each_value es (sym (map_opens es) ∙ h)

pub seq_cleans : (xs : List Tree) → IsClean (Seq xs) → OfAll IsClean xs
seq_cleans xs h = each_item xs (sym (seq_opens xs) ∙ h)

-- entries and items of a tree without marks
entries_clean : (v : Tree-F Tree) → no_mark_step (map-Tree Tree Bool no_mark v) ≡ true → GiveEntries (entries_below v)
entries_clean Tree-F.Null h = tt
entries_clean (Tree-F.Scalar text) h = tt
entries_clean (Tree-F.Map es) h = each_value es h
entries_clean (Tree-F.Seq xs) h = tt
entries_clean Tree-F.Reset h = tt
entries_clean (Tree-F.Override inner) h = tt

items_clean : (v : Tree-F Tree) → no_mark_step (map-Tree Tree Bool no_mark v) ≡ true → GiveItems (items_below v)
items_clean Tree-F.Null h = tt
items_clean (Tree-F.Scalar text) h = tt
items_clean (Tree-F.Map es) h = tt
items_clean (Tree-F.Seq xs) h = each_item xs h
items_clean Tree-F.Reset h = tt
items_clean (Tree-F.Override inner) h = tt

pub value_clean : (es : List (List ℕ × Tree)) (k : List ℕ) → AreClean es → IsClean (or_null (value_at es k))
value_clean [] k h = null_clean
value_clean (e ∷ es) k h = by (value_clean es k h.1) (bytes_eq k e.0)
  where
    by : IsClean (or_null (value_at es k)) → (b : Bool) → IsClean (or_null (cond b (Some e.1) (value_at es k)))
    by rest true = h.0
    by rest false = rest

put_clean : (es : List (List ℕ × Tree)) (k : List ℕ) (v : Tree) → AreClean es → IsClean v → AreClean (with_entry es k v)
put_clean [] k v h is = (is, tt)
put_clean (e ∷ es) k v h is = by (put_clean es k v h.1 is) (bytes_eq k e.0)
  where
    by : AreClean (with_entry es k v) → (b : Bool) → AreClean (cond b ((e.0, v) ∷ es) (e ∷ with_entry es k v))
    by rest true = (is, h.1)
    by rest false = (h.0, rest)

removed_clean : (es : List (List ℕ × Tree)) (k : List ℕ) → AreClean es → AreClean (remove_entry (bytes_eq k) es)
removed_clean [] k h = tt
removed_clean (e ∷ es) k h = by (removed_clean es k h.1) (bytes_eq k e.0)
  where
    by : AreClean (remove_entry (bytes_eq k) es) → (b : Bool) → AreClean (cond b es (e ∷ remove_entry (bytes_eq k) es))
    by rest true = h.1
    by rest false = (h.0, rest)

item_clean : (xs : List Tree) (i : ℕ) → OfAll IsClean xs → IsClean (or_null (slice_get xs i))
item_clean [] i h = null_clean
item_clean (x ∷ xs) zero h = h.0
item_clean (x ∷ xs) (suc i) h = item_clean xs i h.1

set_clean : (xs : List Tree) (i : ℕ) (x : Tree) → OfAll IsClean xs → IsClean x → OfAll IsClean (slice_set xs i x)
set_clean [] i x h is = tt
set_clean (y ∷ xs) zero x h is = (is, h.1)
set_clean (y ∷ xs) (suc i) x h is = (h.0, set_clean xs i x h.1 is)

last_clean : (xs : List Tree) (x : Tree) → OfAll IsClean xs → IsClean x → OfAll IsClean (xs ++ x ∷ [])
last_clean [] x h is = (is, tt)
last_clean (y ∷ xs) x h is = (h.0, last_clean xs x h.1 is)

-- one more item that is there, or none
one_clean : (xs : List Tree) (item : Option Tree) → OfAll IsClean xs → GivesClean (Ok item) → OfAll IsClean (xs ++ one_of item)
one_clean xs None h is = none xs h
  where
    none : (xs : List Tree) → OfAll IsClean xs → OfAll IsClean (xs ++ [])
    none [] h = tt
    none (x ∷ xs) h = (h.0, none xs h.1)
one_clean xs (Some item) h is = last_clean xs item h is

-- a tree that leaves no mark, over whatever has none
abbrev pub Cleans : Tree → Type 0
Cleans over = (standing : Standing) (lines : JoiningRules) (base : Tree) → IsClean base → GivesClean (laid over standing lines base)

-- one entry more
entry_clean : (lines : JoiningRules) (e : List ℕ × Tree) → Cleans e.1 → (entries : List (List ℕ × Tree)) → AreClean entries → GiveEntries (entry_over lines entries (e.0, laid e.1))
entry_clean lines e cleans entries h = goes (laid e.1 Value (below_key e.0 lines) old) (cleans Value (below_key e.0 lines) old (value_clean entries e.0 h))
  where
    old : Tree
    old = or_null (value_at entries e.0)

    goes : (r : Result (Option Tree) MergeRefusal) → GivesClean r → GiveEntries (under (Key e.0) r >>= λ value. Ok (with_value entries e.0 value))
    goes (Ok None) is = removed_clean entries e.0 h
    goes (Ok (Some value)) is = put_clean entries e.0 value h is
    goes (Err refusal) is = tt

-- what goes on from clean entries
entries_go : (next : List (List ℕ × Tree) → Result (List (List ℕ × Tree)) MergeRefusal) → ((es : List (List ℕ × Tree)) → AreClean es → GiveEntries (next es))
    → (r : Result (List (List ℕ × Tree)) MergeRefusal) → GiveEntries r → GiveEntries (r >>= next)
entries_go next ends (Ok es) is = ends es is
entries_go next ends (Err refusal) is = tt

entries_end : (lines : JoiningRules) (es : List (List ℕ × Tree)) → OfAll (λ (e : List ℕ × Tree). Cleans e.1) es → (entries : List (List ℕ × Tree)) → AreClean entries → GiveEntries (entries_over lines (layers es) entries)
entries_end lines [] cleans entries h = h
entries_end lines (e ∷ es) cleans entries h =
    entries_go (entries_over lines (layers es)) (entries_end lines es cleans.1) (entry_over lines entries (e.0, laid e.1)) (entry_clean lines e cleans.0 entries h)

-- an entry in its place among unique ones
placed_clean : (items : List Tree) (over entry : Tree) (at : Option ℕ) → Cleans over → OfAll IsClean items → IsClean entry → GiveItems (entry_placed items (laid over) entry at)
placed_clean items over entry None cleans h is = last_clean items entry h is
placed_clean items over entry (Some at) cleans h is = goes (laid over Item [] (or_null (slice_get items at))) (cleans Item [] (or_null (slice_get items at)) (item_clean items at h))
  where
    goes : (r : Result (Option Tree) MergeRefusal) → GivesClean r → GiveItems (under (Index (place at)) r >>= λ merged. Ok (slice_set items at (unwrap_or merged entry)))
    goes (Ok None) merged = set_clean items at entry h is
    goes (Ok (Some tree)) merged = set_clean items at tree h merged
    goes (Err refusal) merged = tt

taken_clean : (kind : EntryKind) (items : List Tree) (over : Tree) → Cleans over → OfAll IsClean items → (r : Result (Option Tree) MergeRefusal) → GivesClean r → GiveItems (r >>= entry_taken kind items (laid over))
taken_clean kind items over cleans h (Ok None) is = h
taken_clean kind items over cleans h (Ok (Some entry)) is = placed_clean items over entry (place_of kind entry items) cleans h is
taken_clean kind items over cleans h (Err refusal) is = tt

appended_clean : (items : List Tree) → OfAll IsClean items → (r : Result (Option Tree) MergeRefusal) → GivesClean r → GiveItems (r >>= λ item. Ok (items ++ one_of item))
appended_clean items h (Ok item) is = one_clean items item h is
appended_clean items h (Err refusal) is = tt

joined_clean : (joining : Option Joining) (items : List Tree) (over : Tree) → Cleans over → OfAll IsClean items → GiveItems (item_joined joining items (laid over))
joined_clean None items over cleans h = appended_clean items h (laid over Item [] Null) (cleans Item [] Null null_clean)
joined_clean (Some Replaced) items over cleans h = appended_clean items h (laid over Item [] Null) (cleans Item [] Null null_clean)
joined_clean (Some (Unique kind)) items over cleans h = taken_clean kind items over cleans h (laid over Item [] Null) (cleans Item [] Null null_clean)

-- what goes on from clean items
items_go : (next : List Tree → Result (List Tree) MergeRefusal) → ((xs : List Tree) → OfAll IsClean xs → GiveItems (next xs)) → (r : Result (List Tree) MergeRefusal) → GiveItems r → GiveItems (r >>= next)
items_go next ends (Ok xs) is = ends xs is
items_go next ends (Err refusal) is = tt

items_end : (joining : Option Joining) (xs : List Tree) → OfAll Cleans xs → (items : List Tree) → OfAll IsClean items → GiveItems (items_joined joining (map laid xs) items)
items_end joining [] cleans items h = h
items_end joining (x ∷ xs) cleans items h =
    items_go (items_joined joining (map laid xs)) (items_end joining xs cleans.1) (item_joined joining items (laid x)) (joined_clean joining items x cleans.0 h)

kept_clean : (joining : Option Joining) (items : List Tree) → OfAll IsClean items → OfAll IsClean (items_kept joining items)
kept_clean None items h = h
kept_clean (Some Replaced) items h = tt
kept_clean (Some (Unique kind)) items h = h

scalar_ends : (text : List ℕ) (v : Tree-F Tree) → GivesClean (scalar_over text v)
scalar_ends text Tree-F.Null = scalar_clean text
scalar_ends text (Tree-F.Scalar old) = scalar_clean text
scalar_ends text (Tree-F.Map es) = tt
scalar_ends text (Tree-F.Seq xs) = tt
scalar_ends text Tree-F.Reset = tt
scalar_ends text (Tree-F.Override inner) = tt

map_ends : (lines : JoiningRules) (es : List (List ℕ × Tree)) → OfAll (λ (e : List ℕ × Tree). Cleans e.1) es → (r : Result (List (List ℕ × Tree)) MergeRefusal) → GiveEntries r
    → GivesClean (r >>= entries_over lines (layers es) >>= λ all. Ok (Some (Map all)))
map_ends lines es cleans (Ok entries) is = goes (entries_over lines (layers es) entries) (entries_end lines es cleans entries is)
  where
    goes : (r : Result (List (List ℕ × Tree)) MergeRefusal) → GiveEntries r → GivesClean (r >>= λ all. Ok (Some (Map all)))
    goes (Ok all) is = map_clean all is
    goes (Err refusal) is = tt
map_ends lines es cleans (Err refusal) is = tt

seq_ends : (joining : Option Joining) (xs : List Tree) → OfAll Cleans xs → (r : Result (List Tree) MergeRefusal) → GiveItems r
    → GivesClean (r >>= λ below. items_joined joining (map laid xs) (items_kept joining below) >>= λ all. Ok (Some (Seq all)))
seq_ends joining xs cleans (Ok items) is =
    goes (items_joined joining (map laid xs) (items_kept joining items)) (items_end joining xs cleans (items_kept joining items) (kept_clean joining items is))
  where
    goes : (r : Result (List Tree) MergeRefusal) → GiveItems r → GivesClean (r >>= λ all. Ok (Some (Seq all)))
    goes (Ok all) is = seq_clean all is
    goes (Err refusal) is = tt
seq_ends joining xs cleans (Err refusal) is = tt

base_opens : (base : Tree) → IsClean base → no_mark_step (map-Tree Tree Bool no_mark (out-Tree base)) ≡ true
base_opens base h = sym (fold_out-Tree Bool no_mark_step base) ∙ h

override_clean : (standing : Standing) (base : Tree) → IsClean base → IsClean (kept_below standing base)
override_clean Value base h = null_clean
override_clean Item base h = h

pub all_clean : (over : Tree) → Cleans over
all_clean =
    of_every Cleans
    (λ s l b h. subst GivesClean (sym (null_lays s l b)) h)
    (λ text s l b h. subst GivesClean (sym (scalar_lays s l b text)) (scalar_ends text (out-Tree b)))
    (λ es cleans s l b h. subst GivesClean (sym (map_lays s l b es)) (map_ends l es cleans (entries_below (out-Tree b)) (entries_clean (out-Tree b) (base_opens b h))))
    (λ xs cleans s l b h. subst GivesClean (sym (seq_lays s l b xs)) (seq_ends (here l) xs cleans (items_below (out-Tree b)) (items_clean (out-Tree b) (base_opens b h))))
    (λ s l b h. subst GivesClean (sym (reset_lays s l b)) tt)
    (λ inner cleans s l b h. subst GivesClean (sym (override_lays s l b inner)) (cleans s l (kept_below s b) (override_clean s b h)))
