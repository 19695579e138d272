-- A tree without marks in which no two entries are one, laid over nothing, is that tree.
use Rattle.std.proofs.Common.{◌≡◌, ◌∙◌, ◌≤◌, ℕ, Bool, true, false, not, ◌&&◌, ◌||◌, cond, List, [], ◌∷◌, ◌++◌, map, Option, None, Some, Result, Ok, ap, arith, length, refl, subst, sym, true≢false, rules}
use Rattle.std.proofs.lemmas.Bool.{and_parts, cond-false, le-ltb}
use Rattle.std.proofs.lemmas.List.{append-nil, append_assoc}
use Rattle.std.proofs.lemmas.List.Folds.{list_any-append}
use Rattle.std.specs.List.{flat_map, list_all, list_any, position, position_or_len}
use Rattle.std.specs.Map.{keys_of, values_of}
use Rattle.std.specs.Str.{bytes_eq}
use Rattle.tree_base.specs.Answers.{◌>>=◌}
use Rattle.tree_base.specs.Entries.{value_at, with_entry}
use Rattle.tree_base.specs.declared.tree.Tree.{Tree, out-Tree, the_lemmas}
use Rattle.tree_base.specs.declared.tree.Tree.TheVariants.{Map, Null, Override, Reset, Scalar, Seq}
use Rattle.tree_base.specs.declared.Step.TheVariants.{Key}
use Rattle.attribute_paths.proofs.Trees.{OfAll, of_every}
use Rattle.attribute_paths.specs.Patterns.{Pattern, any_item, any_key, below_key, here, named}
use Rattle.merge_tables.specs.declared.refusal.MergeRefusal.{MergeRefusal}
use Rattle.merge_tables.specs.declared.rules.EntryKind.{EntryKind}
use Rattle.merge_tables.specs.declared.rules.Joining.{Joining}
use Rattle.merge_tables.specs.declared.rules.Joining.TheVariants.{Replaced, Unique}
use Rattle.merge_tables.specs.declared.rules.Standing.{Standing}
use Rattle.merge_tables.specs.declared.rules.Standing.TheVariants.{Item, Value}
use Rattle.merge_rules.specs.Alone.{FilesStand, StandsAlone, has_no_twins, led_to, no_twins, none_is_one}
use Rattle.merge_tables.specs.Parts.{entries_in, items_in, or_null}
use Rattle.merge_tables.specs.Answers.{under, within}
use Rattle.merge_tables.specs.Attributes.{JoiningRules, overlay_rules}
use Rattle.merge_rules.specs.Laws.{TreesStand, are_apart, no_mark, own_keys}
use Rattle.merge_rules.specs.Overlay.{entries_over, entry_over, entry_placed, entry_taken, item_joined, items_joined, items_kept, laid, layers, one_of, over_files, with_value}
use Rattle.merge_rules.specs.Uniqueness.{are_one}
use Rattle.merge_tables.proofs.Answering.{goes_on}
use Rattle.merge_rules.proofs.Laying.{null_lays}
use Rattle.merge_rules.proofs.Unmarked.{AreClean, IsClean, map_cleans, seq_cleans}

or_parts : (a b : Bool) → (a || b) ≡ false → (a ≡ false) × (b ≡ false)
or_parts true b h = absurd (true≢false h)
or_parts false b h = (refl, h)

not_true : (a : Bool) → not a ≡ true → a ≡ false
not_true true h = absurd (true≢false (sym h))
not_true false h = refl

abbrev Line : Type 0
Line = Pattern × Joining

-- a test that all pass
of_all : {X : Type 0} (f : X → Bool) (xs : List X) → list_all f xs ≡ true → OfAll (λ (x : X). f x ≡ true) xs
of_all f [] e = tt
of_all f (x ∷ xs) e = let p = and_parts (f x) (list_all f xs) e in (p.0, of_all f xs p.1)

-- a fact on each, and on each of those that it follows for
of_both : {X : Type 0} (P Q : X → Type 0) → ((x : X) → P x → Q x) → (xs : List X) → OfAll P xs → OfAll Q xs
of_both P Q follows [] all = tt
of_both P Q follows (x ∷ xs) all = (follows x all.0, of_both P Q follows xs all.1)

of_front : {X : Type 0} (P : X → Type 0) (xs ys : List X) → OfAll P (xs ++ ys) → OfAll P xs × OfAll P ys
of_front P [] ys all = (tt, all)
of_front P (x ∷ xs) ys all = let p = of_front P xs ys all.1 in ((all.0, p.0), p.1)

of_parts : {X Y : Type 0} (P : Y → Type 0) (f : X → List Y) (xs : List X) → OfAll P (flat_map f xs) → OfAll (λ (x : X). OfAll P (f x)) xs
of_parts P f [] all = tt
of_parts P f (x ∷ xs) all = let p = of_front P (f x) (flat_map f xs) all in (p.0, of_parts P f xs p.1)

of_units : {X : Type 0} (xs : List X) → OfAll (λ (x : X). Unit {0}) xs
of_units [] = tt
of_units (x ∷ xs) = (tt, of_units xs)

map_entries : (es : List (List ℕ × Tree)) → entries_in (out-Tree (Map es)) ≡ es
map_entries es = search (rules, the_lemmas)

seq_items : (xs : List Tree) → items_in (out-Tree (Seq xs)) ≡ xs
seq_items xs = search (rules, the_lemmas)

-- no twins in trees where a line says how they are joined
abbrev Hold : Joining → List Tree → Type 0
Hold joining trees = OfAll (λ (tree : Tree). has_no_twins joining tree ≡ true) trees

-- no twins where any of some lines leads
abbrev Lone : JoiningRules → Tree → Type 0
Lone lines tree = OfAll (λ (line : Line). Hold line.1 (led_to line.0 tree)) lines

lone_from : (lines : JoiningRules) (tree : Tree) → no_twins lines tree ≡ true → Lone lines tree
lone_from [] tree e = tt
lone_from (line ∷ lines) tree e =
    let p = and_parts (list_all (has_no_twins line.1) (led_to line.0 tree)) (no_twins lines tree) e in
    (of_all (has_no_twins line.1) (led_to line.0 tree) p.0, lone_from lines tree p.1)

-- where a path leads through an entry
abbrev through : Pattern → List ℕ × Tree → List Tree
through [] entry = []
through (named name ∷ more) entry = cond (bytes_eq name entry.0) (led_to more entry.1) []
through (any_key ∷ more) entry = led_to more entry.1
through (any_item ∷ more) entry = []

line_parts : (es : List (List ℕ × Tree)) (line : Line) → Hold line.1 (led_to line.0 (Map es)) → OfAll (λ (e : List ℕ × Tree). Hold line.1 (through line.0 e)) es
line_parts es ([], joining) h = of_units es
line_parts es (named name ∷ more, joining) h =
    let f : List ℕ × Tree → List Tree = λ e. cond (bytes_eq name e.0) (led_to more e.1) [] in
    let P : Tree → Type 0 = λ tree. has_no_twins joining tree ≡ true in
    of_parts P f es (subst (λ (l : List (List ℕ × Tree)). OfAll P (flat_map f l)) (map_entries es) h)
line_parts es (any_key ∷ more, joining) h =
    let f : List ℕ × Tree → List Tree = λ e. led_to more e.1 in
    let P : Tree → Type 0 = λ tree. has_no_twins joining tree ≡ true in
    of_parts P f es (subst (λ (l : List (List ℕ × Tree)). OfAll P (flat_map f l)) (map_entries es) h)
line_parts es (any_item ∷ more, joining) h = of_units es

-- no twins where a line leads through an entry, and in an entry
abbrev Holds : Line → List ℕ × Tree → Type 0
Holds line e = Hold line.1 (through line.0 e)

each_part : (es : List (List ℕ × Tree)) (lines : JoiningRules) → OfAll (λ (line : Line). OfAll (Holds line) es) lines → OfAll (λ (e : List ℕ × Tree). OfAll (λ (line : Line). Holds line e) lines) es
each_part [] lines all = tt
each_part (e ∷ es) lines all =
    let All : Line → Type 0 = λ line. OfAll (Holds line) (e ∷ es) in (
      of_both All (λ (line : Line). Holds line e) (λ line h. h.0) lines all,
      each_part es lines (of_both All (λ (line : Line). OfAll (Holds line) es) (λ line h. h.1) lines all),
    )

lone_below : (e : List ℕ × Tree) (lines : JoiningRules) → OfAll (λ (line : Line). Holds line e) lines → Lone (below_key e.0 lines) e.1
lone_below e [] all = tt
lone_below e (([], joining) ∷ lines) all = lone_below e lines all.1
lone_below e ((named name ∷ more, joining) ∷ lines) all = by (lone_below e lines all.1) (bytes_eq name e.0) all.0
  where
    by : Lone (below_key e.0 lines) e.1 → (b : Bool) → Hold joining (cond b (led_to more e.1) []) → Lone (cond b ((more, joining) ∷ []) [] ++ below_key e.0 lines) e.1
    by rest true h = (h, rest)
    by rest false h = rest
lone_below e ((any_key ∷ more, joining) ∷ lines) all = (all.0, lone_below e lines all.1)
lone_below e ((any_item ∷ more, joining) ∷ lines) all = lone_below e lines all.1

-- in the values of a mapping nothing stands twice either
lone_values : (es : List (List ℕ × Tree)) (lines : JoiningRules) → Lone lines (Map es) → OfAll (λ (e : List ℕ × Tree). Lone (below_key e.0 lines) e.1) es
lone_values es lines lone =
    of_both (λ (e : List ℕ × Tree). OfAll (λ (line : Line). Holds line e) lines) (λ (e : List ℕ × Tree). Lone (below_key e.0 lines) e.1) (λ e all. lone_below e lines all) es
    (each_part es lines (of_both (λ (line : Line). Hold line.1 (led_to line.0 (Map es))) (λ (line : Line). OfAll (Holds line) es) (line_parts es) lines lone))

-- nor in a sequence whose entries are unique
lone_here : (kind : EntryKind) (xs : List Tree) (lines : JoiningRules) → Lone lines (Seq xs) → here lines ≡ Some (Unique kind) → none_is_one kind xs ≡ true
lone_here kind xs [] lone e = absurd (let wrong : ⊥ = cc in wrong)
lone_here kind xs (([], joining) ∷ lines) lone e =
    let same : joining ≡ Unique kind = cc in
    ap (none_is_one kind) (sym (seq_items xs)) ∙ subst (λ (j : Joining). has_no_twins j (Seq xs) ≡ true) same lone.0.0
lone_here kind xs ((part ∷ more, joining) ∷ lines) lone e = lone_here kind xs lines lone.1 e

-- keys that no entry has
abbrev AreNew : List (List ℕ × Tree) → List (List ℕ × Tree) → Type 0
AreNew entries es = OfAll (λ (e : List ℕ × Tree). value_at entries e.0 ≡ None) es

-- an entry behind others, under a key that none has
pub put_new : (entries : List (List ℕ × Tree)) (k : List ℕ) (v : Tree) → value_at entries k ≡ None → with_entry entries k v ≡ entries ++ (k, v) ∷ []
put_new [] k v h = refl
put_new (e ∷ entries) k v h = by (put_new entries k v) (bytes_eq k e.0) h
  where
    by : (value_at entries k ≡ None → with_entry entries k v ≡ entries ++ (k, v) ∷ []) → (b : Bool) → cond b (Some e.1) (value_at entries k) ≡ None → cond b ((e.0, v) ∷ entries) (e ∷ with_entry entries k v) ≡ e ∷ (entries ++ (k, v) ∷ [])
    by rest true h = absurd (let wrong : ⊥ = cc in wrong)
    by rest false h = ap (λ (l : List (List ℕ × Tree)). e ∷ l) (rest h)

-- a key that is new stays so behind another one
still_new : (entries : List (List ℕ × Tree)) (k q : List ℕ) (v : Tree) → value_at entries q ≡ None → bytes_eq q k ≡ false → value_at (entries ++ (k, v) ∷ []) q ≡ None
still_new [] k q v h other = rw other refl
still_new (e ∷ entries) k q v h other = by (λ none. still_new entries k q v none other) (bytes_eq q e.0) h
  where
    by : (value_at entries q ≡ None → value_at (entries ++ (k, v) ∷ []) q ≡ None) → (b : Bool) → cond b (Some e.1) (value_at entries q) ≡ None → cond b (Some e.1) (value_at (entries ++ (k, v) ∷ []) q) ≡ None
    by rest true h = absurd (let wrong : ⊥ = cc in wrong)
    by rest false h = rest h

all_new : (entries : List (List ℕ × Tree)) (k : List ℕ) (v : Tree) (es : List (List ℕ × Tree)) → AreNew entries es → list_any (λ other. bytes_eq other k) (keys_of es) ≡ false → AreNew (entries ++ (k, v) ∷ []) es
all_new entries k v [] new others = tt
all_new entries k v (e ∷ es) new others =
    let p = or_parts (bytes_eq e.0 k) (list_any (λ other. bytes_eq other k) (keys_of es)) others in
    (still_new entries k e.0 v new.0 p.0, all_new entries k v es new.1 p.1)

nothing_new : (es : List (List ℕ × Tree)) → AreNew [] es
nothing_new [] = tt
nothing_new (e ∷ es) = (refl, nothing_new es)

map_opens : (es : List (List ℕ × Tree)) → own_keys (Map es) ≡ (are_apart (keys_of (map (λ (e : List ℕ × Tree). (e.0, own_keys e.1)) es)) && list_all (λ is. is) (values_of (map (λ (e : List ℕ × Tree). (e.0, own_keys e.1)) es)))
map_opens es = search (rules, the_lemmas)

seq_opens : (xs : List Tree) → own_keys (Seq xs) ≡ list_all (λ is. is) (map own_keys xs)
seq_opens xs = search (rules, the_lemmas)

keys_same : (es : List (List ℕ × Tree)) → keys_of (map (λ (e : List ℕ × Tree). (e.0, own_keys e.1)) es) ≡ keys_of es
keys_same [] = refl
keys_same (e ∷ es) = ap (λ (l : List (List ℕ)). e.0 ∷ l) (keys_same es)

reset_marks : no_mark Reset ≡ false
reset_marks = search (rules, the_lemmas)

override_marks : (inner : Tree) → no_mark (Override inner) ≡ false
override_marks inner = search (rules, the_lemmas)

-- a tree without marks, with keys of its own and without twins stands
abbrev Good : Tree → Type 0
Good tree = no_mark tree ≡ true → own_keys tree ≡ true → (lines : JoiningRules) → Lone lines tree → StandsAlone lines tree

values_stand : (lines : JoiningRules) (es : List (List ℕ × Tree)) → OfAll (λ (e : List ℕ × Tree). StandsAlone (below_key e.0 lines) e.1) es → (entries : List (List ℕ × Tree)) → AreNew entries es → are_apart (keys_of es) ≡ true
    → entries_over lines (layers es) entries ≡ Ok (entries ++ es)
values_stand lines [] stand entries new apart = ap Ok (sym (append-nil entries))
values_stand lines (e ∷ es) stand entries new apart =
    let p = and_parts (not (list_any (λ other. bytes_eq other e.0) (keys_of es))) (are_apart (keys_of es)) apart in
    let others = not_true (list_any (λ other. bytes_eq other e.0) (keys_of es)) p.0 in
    let got : under (Key e.0) (laid e.1 Value (below_key e.0 lines) (or_null (value_at entries e.0))) ≡ Ok (Some e.1) =
    ap (λ (o : Option Tree). under (Key e.0) (laid e.1 Value (below_key e.0 lines) (or_null o))) new.0 ∙ ap (under (Key e.0)) (stand.0 Value) in
    goes_on (entry_over lines entries (e.0, laid e.1)) (entries_over lines (layers es)) (with_entry entries e.0 e.1)
    (goes_on (under (Key e.0) (laid e.1 Value (below_key e.0 lines) (or_null (value_at entries e.0)))) (λ (value : Option Tree). Ok (with_value entries e.0 value)) (Some e.1) got)
    ∙ ap (entries_over lines (layers es)) (put_new entries e.0 e.1 new.0)
    ∙ values_stand lines es stand.1 (entries ++ (e.0, e.1) ∷ []) (all_new entries e.0 e.1 es new.1 others) p.1
    ∙ ap Ok (append_assoc entries (e ∷ []) es)

abbrev appended : List Tree → Option Tree → Result (List Tree) MergeRefusal
appended items item = Ok (items ++ one_of item)

-- items that are put behind one another
items_stand : (joining : Option Joining) → ((items : List Tree) (x : Tree) → item_joined joining items (laid x) ≡ (laid x Item [] Null >>= appended items)) → (xs : List Tree) → OfAll (StandsAlone []) xs → (items : List Tree)
    → items_joined joining (map laid xs) items ≡ Ok (items ++ xs)
items_stand joining joins [] stand items = ap Ok (sym (append-nil items))
items_stand joining joins (x ∷ xs) stand items =
    goes_on (item_joined joining items (laid x)) (items_joined joining (map laid xs)) (items ++ x ∷ [])
    (joins items x ∙ goes_on (laid x Item [] Null) (appended items) (Some x) (stand.0 Item))
    ∙ items_stand joining joins xs stand.1 (items ++ x ∷ [])
    ∙ ap Ok (append_assoc items (x ∷ []) xs)

-- an item that is one with no other has no place among them
past_all : (p : Tree → Bool) (xs : List Tree) → list_any p xs ≡ false → length xs ≤ position_or_len p xs
past_all p [] none = omega arith
past_all p (x ∷ xs) none =
    let q = or_parts (p x) (list_any p xs) none in
    let rest = past_all p xs q.1 in
    rw q.0 (omega arith)

not_placed : (p : Tree → Bool) (xs : List Tree) → list_any p xs ≡ false → position p xs ≡ None
not_placed p xs none = cond-false _ _ _ (le-ltb (position_or_len p xs) (length xs) (past_all p xs none))

-- items that are one with none of those that are there
abbrev AreOthers : EntryKind → List Tree → List Tree → Type 0
AreOthers kind items xs = OfAll (λ (x : Tree). list_any (are_one kind x) items ≡ false) xs

still_others : (kind : EntryKind) (items : List Tree) (item : Tree) (xs : List Tree) → AreOthers kind items xs → list_any (λ other. are_one kind other item) xs ≡ false → AreOthers kind (items ++ item ∷ []) xs
still_others kind items item [] others none = tt
still_others kind items item (x ∷ xs) others none =
    let p = or_parts (are_one kind x item) (list_any (λ other. are_one kind other item) xs) none in
    (list_any-append (are_one kind x) items (item ∷ []) ∙ rw (others.0, p.0) refl, still_others kind items item xs others.1 p.1)

unique_stand : (kind : EntryKind) (xs : List Tree) → OfAll (StandsAlone []) xs → (items : List Tree) → AreOthers kind items xs → none_is_one kind xs ≡ true → items_joined (Some (Unique kind)) (map laid xs) items ≡ Ok (items ++ xs)
unique_stand kind [] stand items others none = ap Ok (sym (append-nil items))
unique_stand kind (x ∷ xs) stand items others none =
    let p = and_parts (not (list_any (λ other. are_one kind other x) xs)) (none_is_one kind xs) none in
    goes_on (item_joined (Some (Unique kind)) items (laid x)) (items_joined (Some (Unique kind)) (map laid xs)) (items ++ x ∷ [])
    (goes_on (laid x Item [] Null) (entry_taken kind items (laid x)) (Some x) (stand.0 Item) ∙ ap (entry_placed items (laid x) x) (not_placed (are_one kind x) items others.0))
    ∙ unique_stand kind xs stand.1 (items ++ x ∷ []) (still_others kind items x xs others.1 (not_true (list_any (λ other. are_one kind other x) xs) p.0)) p.1
    ∙ ap Ok (append_assoc items (x ∷ []) xs)

none_there : (kind : EntryKind) (xs : List Tree) → AreOthers kind [] xs
none_there kind [] = tt
none_there kind (x ∷ xs) = (refl, none_there kind xs)

scalar_alone : (text : List ℕ) (lines : JoiningRules) (standing : Standing) → laid (Scalar text) standing lines Null ≡ Ok (Some (Scalar text))
scalar_alone text lines standing = search (rules, the_lemmas)

pub map_alone : (es : List (List ℕ × Tree)) (lines : JoiningRules) (standing : Standing) → laid (Map es) standing lines Null ≡ (entries_over lines (layers es) [] >>= λ all. Ok (Some (Map all)))
map_alone es lines standing = search (rules, the_lemmas)

seq_alone : (xs : List Tree) (lines : JoiningRules) (standing : Standing) → laid (Seq xs) standing lines Null ≡ (items_joined (here lines) (map laid xs) (items_kept (here lines) []) >>= λ all. Ok (Some (Seq all)))
seq_alone xs lines standing = search (rules, the_lemmas)

own_values : (es : List (List ℕ × Tree)) → list_all (λ is. is) (values_of (map (λ (e : List ℕ × Tree). (e.0, own_keys e.1)) es)) ≡ true → OfAll (λ (e : List ℕ × Tree). own_keys e.1 ≡ true) es
own_values [] own = tt
own_values (e ∷ es) own =
    let p = and_parts (own_keys e.1) (list_all (λ is. is) (values_of (map (λ (e : List ℕ × Tree). (e.0, own_keys e.1)) es))) own in
    (p.0, own_values es p.1)

own_entries : (es : List (List ℕ × Tree)) → own_keys (Map es) ≡ true → (are_apart (keys_of es) ≡ true) × OfAll (λ (e : List ℕ × Tree). own_keys e.1 ≡ true) es
own_entries es own =
    let p = and_parts (are_apart (keys_of (map (λ (e : List ℕ × Tree). (e.0, own_keys e.1)) es))) (list_all (λ is. is) (values_of (map (λ (e : List ℕ × Tree). (e.0, own_keys e.1)) es))) (sym (map_opens es) ∙ own) in
    (ap are_apart (sym (keys_same es)) ∙ p.0, own_values es p.1)

all_own : (xs : List Tree) → list_all (λ is. is) (map own_keys xs) ≡ true → OfAll (λ (x : Tree). own_keys x ≡ true) xs
all_own [] own = tt
all_own (x ∷ xs) own = let p = and_parts (own_keys x) (list_all (λ is. is) (map own_keys xs)) own in (p.0, all_own xs p.1)

each_value : (es : List (List ℕ × Tree)) → OfAll (λ (e : List ℕ × Tree). Good e.1) es → AreClean es → OfAll (λ (e : List ℕ × Tree). own_keys e.1 ≡ true) es
    → (lines : JoiningRules) → OfAll (λ (e : List ℕ × Tree). Lone (below_key e.0 lines) e.1) es → OfAll (λ (e : List ℕ × Tree). StandsAlone (below_key e.0 lines) e.1) es
each_value [] good clean own lines lone = tt
each_value (e ∷ es) good clean own lines lone = (good.0 clean.0 own.0 (below_key e.0 lines) lone.0, each_value es good.1 clean.1 own.1 lines lone.1)

map_good : (es : List (List ℕ × Tree)) → OfAll (λ (e : List ℕ × Tree). Good e.1) es → Good (Map es)
map_good es good clean own lines lone standing =
    let own_parts = own_entries es own in
    map_alone es lines standing
    ∙ goes_on (entries_over lines (layers es) []) (λ (all : List (List ℕ × Tree)). Ok (Some (Map all))) es
    (values_stand lines es (each_value es good (map_cleans es clean) own_parts.1 lines (lone_values es lines lone)) [] (nothing_new es) own_parts.0)

each_item : (xs : List Tree) → OfAll Good xs → OfAll IsClean xs → OfAll (λ (x : Tree). own_keys x ≡ true) xs → OfAll (StandsAlone []) xs
each_item [] good clean own = tt
each_item (x ∷ xs) good clean own = (good.0 clean.0 own.0 [] tt, each_item xs good.1 clean.1 own.1)

seq_joined : (xs : List Tree) (lines : JoiningRules) → OfAll (StandsAlone []) xs → Lone lines (Seq xs) → (joining : Option Joining) → here lines ≡ joining → items_joined joining (map laid xs) (items_kept joining []) ≡ Ok xs
seq_joined xs lines stand lone None at = items_stand None (λ items x. refl) xs stand []
seq_joined xs lines stand lone (Some Replaced) at = items_stand (Some Replaced) (λ items x. refl) xs stand []
seq_joined xs lines stand lone (Some (Unique kind)) at = unique_stand kind xs stand [] (none_there kind xs) (lone_here kind xs lines lone at)

seq_good : (xs : List Tree) → OfAll Good xs → Good (Seq xs)
seq_good xs good clean own lines lone standing =
    seq_alone xs lines standing
    ∙ goes_on (items_joined (here lines) (map laid xs) (items_kept (here lines) [])) (λ (all : List Tree). Ok (Some (Seq all))) xs
    (seq_joined xs lines (each_item xs good (seq_cleans xs clean) (all_own xs (sym (seq_opens xs) ∙ own))) lone (here lines) refl)

good : (tree : Tree) → Good tree
good =
    of_every Good
    (λ clean own lines lone standing. null_lays standing lines Null)
    (λ text clean own lines lone standing. scalar_alone text lines standing)
    map_good
    seq_good
    (λ clean own lines lone standing. absurd (true≢false (sym clean ∙ reset_marks)))
    (λ inner is clean own lines lone standing. absurd (true≢false (sym clean ∙ override_marks inner)))

pub files_stand : FilesStand
unfolding over_files
files_stand tree clean own lone =
    goes_on (laid tree Value overlay_rules Null) (λ (given : Option Tree). within (or_null given)) (Some tree) (good tree clean own overlay_rules (lone_from overlay_rules tree lone) Value)

pub trees_stand : TreesStand
trees_stand tree clean own = good tree clean own [] tt Value
