-- Plain trees and their parts.
use Rattle.std.proofs.Common.{◌≡◌, ◌∙◌, ℕ, Bool, true, false, not, ◌&&◌, ◌||◌, cond, List, [], ◌∷◌, ◌++◌, map, Some, ap, refl, sym, subst, true≢false, rules}
use Rattle.std.proofs.lemmas.Bool.{and_parts}
use Rattle.std.specs.List.{list_all, list_any}
use Rattle.std.specs.Map.{keys_of}
use Rattle.std.specs.Str.{bytes_eq}
use Rattle.tree_base.specs.Entries.{value_at, with_entry}
use Rattle.tree_base.specs.declared.tree.Tree.{Tree, the_lemmas}
use Rattle.tree_base.specs.declared.tree.Tree.TheVariants.{Map, Null, Override, Reset, Scalar, Seq}
use Rattle.attribute_paths.specs.Patterns.{below_key, here}
use Rattle.attribute_paths.proofs.Trees.{OfAll, of_every}
use Rattle.merge_tables.specs.Attributes.{JoiningRules}
use Rattle.merge_rules.specs.Laws.{are_apart}
use Rattle.merge_tables.specs.Parts.{or_null}
use Rattle.laws_merging.specs.Grouping.{Judged, are_known, is_plain, judged}
use Rattle.laws_merging.proofs.Entries.{Entries, same_key}

abbrev pub Plain : JoiningRules → Tree → Type 0
Plain lines tree = is_plain tree lines ≡ true

-- entries with plain values
abbrev pub ArePlain : JoiningRules → Entries → Type 0
ArePlain lines es = OfAll (λ (e : List ℕ × Tree). Plain (below_key e.0 lines) e.1) es

-- entries of a plain mapping
abbrev pub PlainEntries : JoiningRules → Entries → Type 0
PlainEntries lines es = (are_apart (keys_of es) ≡ true) × ArePlain lines es

-- a key that none has
abbrev pub IsNew : List ℕ → Entries → Type 0
IsNew k es = list_any (λ other. bytes_eq other k) (keys_of es) ≡ false

pub or_parts : (a b : Bool) → (a || b) ≡ false → (a ≡ false) × (b ≡ false)
or_parts true b h = absurd (true≢false h)
or_parts false b h = (refl, h)

pub not_true : (a : Bool) → not a ≡ true → a ≡ false
not_true true h = absurd (true≢false (sym h))
not_true false h = refl

-- the first entry of a mapping with keys of its own
pub first_new : (e : List ℕ × Tree) (es : Entries) → are_apart (keys_of (e ∷ es)) ≡ true → IsNew e.0 es × (are_apart (keys_of es) ≡ true)
first_new e es apart =
    let p = and_parts (not (list_any (λ other. bytes_eq other e.0) (keys_of es))) (are_apart (keys_of es)) apart in
    (not_true (list_any (λ other. bytes_eq other e.0) (keys_of es)) p.0, p.1)

-- entries and items with what is said of them
abbrev judged_entries : Entries → List (List ℕ × Judged)
judged_entries es = map (λ (e : List ℕ × Tree). (e.0, judged e.1)) es

abbrev judged_items : List Tree → List Judged
judged_items xs = map judged xs

abbrev all_fit : JoiningRules → List (List ℕ × Judged) → Bool
all_fit lines es = list_all (λ (entry : List ℕ × Judged). entry.1.1 (below_key entry.0 lines)) es

abbrev items_fit : List Judged → Bool
items_fit xs = list_all (λ (item : Judged). item.1 []) xs

map_opens : (es : Entries) (lines : JoiningRules) → is_plain (Map es) lines ≡ (are_apart (keys_of (judged_entries es)) && all_fit lines (judged_entries es))
map_opens es lines = search (rules, the_lemmas)

seq_judged : (xs : List Tree) (lines : JoiningRules) → is_plain (Seq xs) lines ≡ (are_known (here lines) (map (λ (item : Judged). item.0) (judged_items xs)) && items_fit (judged_items xs))
seq_judged xs lines = search (rules, the_lemmas)

-- a tree is judged as itself
abbrev IsItself : Tree → Type 0
IsItself tree = (judged tree).0 ≡ tree

map_itself : (es : Entries) → (judged (Map es)).0 ≡ Map (map (λ (e : List ℕ × Judged). (e.0, e.1.0)) (judged_entries es))
map_itself es = search (rules, the_lemmas)

seq_itself : (xs : List Tree) → (judged (Seq xs)).0 ≡ Seq (map (λ (item : Judged). item.0) (judged_items xs))
seq_itself xs = search (rules, the_lemmas)

null_itself : IsItself Null
null_itself = search (rules, the_lemmas)

scalar_itself : (text : List ℕ) → IsItself (Scalar text)
scalar_itself text = search (rules, the_lemmas)

reset_itself : IsItself Reset
reset_itself = search (rules, the_lemmas)

override_opens : (inner : Tree) → (judged (Override inner)).0 ≡ Override (judged inner).0
override_opens inner = search (rules, the_lemmas)

entries_same : (es : Entries) → OfAll (λ (e : List ℕ × Tree). IsItself e.1) es → map (λ (e : List ℕ × Judged). (e.0, e.1.0)) (judged_entries es) ≡ es
entries_same [] h = refl
entries_same (e ∷ es) h = (λ i. (e.0, h.0 i) ∷ entries_same es h.1 i)

trees_same : (xs : List Tree) → OfAll IsItself xs → map (λ (item : Judged). item.0) (judged_items xs) ≡ xs
trees_same [] h = refl
trees_same (x ∷ xs) h = (λ i. h.0 i ∷ trees_same xs h.1 i)

itself : (tree : Tree) → IsItself tree
itself =
    of_every IsItself
    null_itself
    scalar_itself
    (λ es h. map_itself es ∙ ap Map (entries_same es h))
    (λ xs h. seq_itself xs ∙ ap Seq (trees_same xs h))
    reset_itself
    (λ inner h. override_opens inner ∙ ap Override h)

items_same : (xs : List Tree) → map (λ (item : Judged). item.0) (judged_items xs) ≡ xs
items_same [] = refl
items_same (x ∷ xs) = (λ i. itself x i ∷ items_same xs i)

seq_opens : (xs : List Tree) (lines : JoiningRules) → is_plain (Seq xs) lines ≡ (are_known (here lines) xs && items_fit (judged_items xs))
seq_opens xs lines = seq_judged xs lines ∙ ap (λ (l : List Tree). are_known (here lines) l && items_fit (judged_items xs)) (items_same xs)

pub scalar_plain : (text : List ℕ) (lines : JoiningRules) → Plain lines (Scalar text)
scalar_plain text lines = search (rules, the_lemmas)

pub null_plain : (lines : JoiningRules) → Plain lines Null
null_plain lines = search (rules, the_lemmas)

pub reset_marks : (lines : JoiningRules) → is_plain Reset lines ≡ false
reset_marks lines = search (rules, the_lemmas)

pub override_marks : (inner : Tree) (lines : JoiningRules) → is_plain (Override inner) lines ≡ false
override_marks inner lines = search (rules, the_lemmas)

keys_same : (es : Entries) → keys_of (judged_entries es) ≡ keys_of es
keys_same [] = refl
keys_same (e ∷ es) = ap (λ (l : List (List ℕ)). e.0 ∷ l) (keys_same es)

each_entry : (lines : JoiningRules) (es : Entries) → all_fit lines (judged_entries es) ≡ true → ArePlain lines es
each_entry lines [] h = tt
each_entry lines (e ∷ es) h =
    let p = and_parts (is_plain e.1 (below_key e.0 lines)) (all_fit lines (judged_entries es)) h in
    (p.0, each_entry lines es p.1)

all_entries : (lines : JoiningRules) (es : Entries) → ArePlain lines es → all_fit lines (judged_entries es) ≡ true
all_entries lines [] h = refl
all_entries lines (e ∷ es) h = rw (h.0, all_entries lines es h.1) refl

each_item : (xs : List Tree) → items_fit (judged_items xs) ≡ true → OfAll (Plain []) xs
each_item [] h = tt
each_item (x ∷ xs) h = let p = and_parts (is_plain x []) (items_fit (judged_items xs)) h in (p.0, each_item xs p.1)

all_items : (xs : List Tree) → OfAll (Plain []) xs → items_fit (judged_items xs) ≡ true
all_items [] h = refl
all_items (x ∷ xs) h = rw (h.0, all_items xs h.1) refl

-- what a plain mapping has, and back
pub of_map : (lines : JoiningRules) (es : Entries) → Plain lines (Map es) → PlainEntries lines es
of_map lines es h =
    let p = and_parts (are_apart (keys_of (judged_entries es))) (all_fit lines (judged_entries es)) (sym (map_opens es lines) ∙ h) in
    (ap are_apart (sym (keys_same es)) ∙ p.0, each_entry lines es p.1)

pub map_plain : (lines : JoiningRules) (es : Entries) → PlainEntries lines es → Plain lines (Map es)
map_plain lines es h =
    let apart : are_apart (keys_of (judged_entries es)) ≡ true = ap are_apart (keys_same es) ∙ h.0 in
    map_opens es lines ∙ rw (apart, all_entries lines es h.1) refl

-- what a plain sequence has, and back
pub of_seq : (lines : JoiningRules) (xs : List Tree) → Plain lines (Seq xs) → (are_known (here lines) xs ≡ true) × OfAll (Plain []) xs
of_seq lines xs h =
    let p = and_parts (are_known (here lines) xs) (items_fit (judged_items xs)) (sym (seq_opens xs lines) ∙ h) in
    (p.0, each_item xs p.1)

pub seq_plain : (lines : JoiningRules) (xs : List Tree) → are_known (here lines) xs ≡ true → OfAll (Plain []) xs → Plain lines (Seq xs)
seq_plain lines xs known h = seq_opens xs lines ∙ rw (known, all_items xs h) refl

-- two lists of plain items
pub joined_plain : (xs ys : List Tree) → OfAll (Plain []) xs → OfAll (Plain []) ys → OfAll (Plain []) (xs ++ ys)
joined_plain [] ys h k = k
joined_plain (x ∷ xs) ys h k = (h.0, joined_plain xs ys h.1 k)

-- the value of a key is plain
pub value_plain : (lines : JoiningRules) (es : Entries) (k : List ℕ) → ArePlain lines es → Plain (below_key k lines) (or_null (value_at es k))
value_plain lines [] k h = null_plain (below_key k lines)
value_plain lines (e ∷ es) k h = by (bytes_eq k e.0) refl (value_plain lines es k h.1)
  where
    by : (b : Bool) → bytes_eq k e.0 ≡ b → Plain (below_key k lines) (or_null (value_at es k)) → Plain (below_key k lines) (or_null (cond b (Some e.1) (value_at es k)))
    by true is more = subst (λ (q : List ℕ). Plain (below_key q lines) e.1) (sym (same_key k e.0 is)) h.0
    by false is more = more

still_new : (es : Entries) (k q : List ℕ) (v : Tree) → IsNew q es → bytes_eq k q ≡ false → IsNew q (with_entry es k v)
still_new [] k q v new apart = rw apart refl
still_new (e ∷ es) k q v new apart = by (bytes_eq k e.0) (λ new. still_new es k q v new apart)
  where
    by : (b : Bool) → (IsNew q es → IsNew q (with_entry es k v)) → IsNew q (cond b ((e.0, v) ∷ es) (e ∷ with_entry es k v))
    by true more = new
    by false more =
        let p = or_parts (bytes_eq e.0 q) (list_any (λ other. bytes_eq other q) (keys_of es)) new in
        rw (p.0, more p.1) refl

-- a plain value put under a key
pub put_plain : (lines : JoiningRules) (es : Entries) (k : List ℕ) (v : Tree) → PlainEntries lines es → Plain (below_key k lines) v → PlainEntries lines (with_entry es k v)
put_plain lines [] k v h is = (refl, (is, tt))
put_plain lines (e ∷ es) k v h is = by (bytes_eq k e.0) refl (λ h. put_plain lines es k v h is)
  where
    by : (b : Bool) → bytes_eq k e.0 ≡ b → (PlainEntries lines es → PlainEntries lines (with_entry es k v)) → PlainEntries lines (cond b ((e.0, v) ∷ es) (e ∷ with_entry es k v))
    by true same keeps = (h.0, (subst (λ (q : List ℕ). Plain (below_key q lines) v) (same_key k e.0 same) is, h.1.1))
    by false differs keeps =
        let first = first_new e es h.0 in
        let more = keeps (first.1, h.1.1) in
        (rw (still_new es k e.0 v first.0 differs, more.0) refl, (h.1.0, more.1))
