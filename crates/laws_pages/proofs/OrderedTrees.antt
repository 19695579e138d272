-- Trees with the keys of each mapping in byte order, as they are seen, and entries of such trees.
use Rattle.std.proofs.Common.{◌≡◌, ◌∙◌, ℕ, Bool, true, false, cond, List, [], ◌∷◌, ◌++◌, Some, None, map, refl, sym, ap, rules}
use Rattle.std.specs.Prelude.{◌||◌, Option, is_some, not, if◌then◌else◌}
use Rattle.std.specs.List.{list_any}
use Rattle.std.specs.Option.{option_map, option_or}
use Rattle.std.specs.Str.{bytes_eq}
use Rattle.tree_base.specs.ByteOrder.{is_before, placed}
use Rattle.tree_base.specs.Entries.{value_at}
use Rattle.tree_base.specs.declared.tree.Tree.{Tree, out-Tree, the_lemmas}
use Rattle.tree_base.specs.declared.tree.Tree.TheFolds.{fold_out-Tree, map-Tree}
use Rattle.tree_base.specs.declared.tree.Tree.TheOpen.{Tree-F}
use Rattle.tree_base.specs.declared.tree.Tree.TheVariants.{Map, Null, Override, Reset, Scalar, Seq, outs-Map, outs-Null, outs-Override, outs-Reset, outs-Scalar, outs-Seq}
use Rattle.attribute_paths.proofs.Trees.{OfAll, of_every}
use Rattle.attribute_scalars.specs.Lists.{ordered, ordered_step}
use Rattle.attribute_scalars.specs.Walks.{Entries, in_byte_order, is_extension, own_entries, with_wanting}
use Rattle.attribute_scalars.proofs.EntryOrder.{filter_seen}
use Rattle.attribute_scalars.proofs.KeptKeys.{map-by_key}
use Rattle.attribute_scalars.proofs.Pairs.{ordered-map}
use Rattle.laws_pages.proofs.Finding.{by_key-push, value-append, value-by_key, value-map}
use Rattle.laws_pages.proofs.Rising.{by_key_rising, filter-by_key, rises-by_key}

-- an entry with its tree in order
abbrev pub ordered_entry : List ℕ × Tree → List ℕ × Tree
ordered_entry entry = (entry.0, ordered entry.1)

abbrev pub entry_key : List ℕ × Tree → List ℕ
entry_key entry = entry.0

-- the entries of a mapping that is put in order
abbrev pub ordered_entries : Entries → Entries
ordered_entries entries = in_byte_order (map ordered_entry entries)

-- a tree that is put in order, as it is seen
abbrev pub ordered_out : Tree-F Tree → Tree-F Tree
ordered_out Tree-F.Null = Tree-F.Null
ordered_out (Tree-F.Scalar text) = Tree-F.Scalar text
ordered_out (Tree-F.Map entries) = Tree-F.Map (ordered_entries entries)
ordered_out (Tree-F.Seq items) = Tree-F.Seq (map ordered items)
ordered_out Tree-F.Reset = Tree-F.Reset
ordered_out (Tree-F.Override inner) = Tree-F.Override (ordered inner)

pub out-ordered : (tree : Tree) → out-Tree (ordered tree) ≡ ordered_out (out-Tree tree)
out-ordered tree = ap out-Tree (fold_out-Tree Tree ordered_step tree) ∙ at (out-Tree tree)
  where
    at : (v : Tree-F Tree) → out-Tree (ordered_step (map-Tree Tree Tree ordered v)) ≡ ordered_out v
    at Tree-F.Null = outs-Null
    at (Tree-F.Scalar text) = outs-Scalar text
    at (Tree-F.Map entries) = outs-Map (ordered_entries entries)
    at (Tree-F.Seq items) = outs-Seq (map ordered items)
    at Tree-F.Reset = outs-Reset
    at (Tree-F.Override inner) = outs-Override (ordered inner)

pub ordered_null : ordered Null ≡ Null
ordered_null = search (rules, the_lemmas)

ordered_scalar : (text : List ℕ) → ordered (Scalar text) ≡ Scalar text
ordered_scalar text = search (rules, the_lemmas)

ordered_seq : (xs : List Tree) → ordered (Seq xs) ≡ Seq (map ordered xs)
ordered_seq xs = search (rules, the_lemmas)

ordered_reset : ordered Reset ≡ Reset
ordered_reset = search (rules, the_lemmas)

ordered_override : (inner : Tree) → ordered (Override inner) ≡ Override (ordered inner)
ordered_override inner = search (rules, the_lemmas)

abbrev Stays : Tree → Type 0
Stays tree = ordered (ordered tree) ≡ ordered tree

items_stay : (xs : List Tree) → OfAll Stays xs → map ordered (map ordered xs) ≡ map ordered xs
items_stay [] h = refl
items_stay (x ∷ xs) h = (λ i. h.0 i ∷ items_stay xs h.1 i)

entries_stay : (es : Entries) → OfAll (λ (e : List ℕ × Tree). Stays e.1) es → map ordered_entry (map ordered_entry es) ≡ map ordered_entry es
entries_stay [] h = refl
entries_stay (e ∷ es) h = (λ i. (e.0, h.0 i) ∷ entries_stay es h.1 i)

-- what is in order stays in order
pub sorted_twice : (es : Entries) → in_byte_order (in_byte_order es) ≡ in_byte_order es
sorted_twice es = by_key_rising entry_key (in_byte_order es) (rises-by_key entry_key es)

-- ordered entries are the entries in order, each ordered
pub ordered_sorted : (es : Entries) → in_byte_order (map ordered_entry es) ≡ map ordered_entry (in_byte_order es)
ordered_sorted es = sym (map-by_key ordered_entry entry_key es)

sorted_again : (es : Entries) → map ordered_entry (map ordered_entry es) ≡ map ordered_entry es → ordered_entries (ordered_entries es) ≡ ordered_entries es
sorted_again es h = ap in_byte_order (map-by_key ordered_entry entry_key (map ordered_entry es) ∙ ap in_byte_order h) ∙ sorted_twice (map ordered_entry es)

-- to put a tree in order once more changes nothing
pub ordered_twice : (tree : Tree) → ordered (ordered tree) ≡ ordered tree
ordered_twice =
    of_every Stays
    (ap ordered ordered_null)
    (λ text. ap ordered (ordered_scalar text))
    (λ es h. ap ordered (ordered-map es) ∙ ordered-map (ordered_entries es) ∙ ap Map (sorted_again es (entries_stay es h)) ∙ sym (ordered-map es))
    (λ xs h. ap ordered (ordered_seq xs) ∙ ordered_seq (map ordered xs) ∙ ap Seq (items_stay xs h) ∙ sym (ordered_seq xs))
    (ap ordered ordered_reset)
    (λ inner h. ap ordered (ordered_override inner) ∙ ordered_override (ordered inner) ∙ ap Override h ∙ sym (ordered_override inner))

-- entries that are others' in another order, whose trees are ordered
pub record AreOrdered (entries others : Entries) : Type 0 where
  pub sorted : in_byte_order entries ≡ map ordered_entry (in_byte_order others)
  pub values : (key : List ℕ) → value_at entries key ≡ option_map ordered (value_at others key)

pub are_ordered : (es : Entries) → AreOrdered (ordered_entries es) es
are_ordered es = record {
  sorted = sorted_twice (map ordered_entry es) ∙ ordered_sorted es;
  values = λ key. value-by_key key (map ordered_entry es) ∙ value-map ordered key es;
}

-- those that extend nothing
pub own_ordered : (es : Entries) → own_entries (ordered_entries es) ≡ ordered_entries (own_entries es)
own_ordered es =
    filter-by_key entry_key is_own (map ordered_entry es) ∙ ap in_byte_order (sym (filter_seen ordered_entry is_own es))
  where
    is_own : List ℕ × Tree → Bool
    is_own entry = not (is_extension entry.0)

map-placed : (e : List ℕ × Tree) (es : Entries) → map ordered_entry (placed entry_key e es) ≡ placed entry_key (ordered_entry e) (map ordered_entry es)
map-placed e [] = refl
map-placed e (y ∷ ys) = at (is_before y.0 e.0) (map-placed e ys)
  where
    at : (b : Bool) → map ordered_entry (placed entry_key e ys) ≡ placed entry_key (ordered_entry e) (map ordered_entry ys)
        → map ordered_entry (cond b (y ∷ placed entry_key e ys) (e ∷ y ∷ ys))
        ≡ cond b (ordered_entry y ∷ placed entry_key (ordered_entry e) (map ordered_entry ys)) (ordered_entry e ∷ ordered_entry y ∷ map ordered_entry ys)
    at true rest = ap (λ l. ordered_entry y ∷ l) rest
    at false rest = refl

module _ (entries others : Entries) (are : AreOrdered entries others) where
  pub same_there : (key : List ℕ) → is_some (value_at entries key) ≡ is_some (value_at others key)
  same_there key = ap is_some (are.values key) ∙ at (value_at others key)
    where
      at : (o : Option Tree) → is_some (option_map ordered o) ≡ is_some o
      at None = refl
      at (Some tree) = refl

  none_there : (key : List ℕ) → value_at others key ≡ None → value_at entries key ≡ None
  none_there key none = are.values key ∙ ap (option_map ordered) none

  abbrev wanting : List ℕ → List ℕ × Tree
  wanting name = (name, Null)

  null_entry : (name : List ℕ) → ordered_entry (wanting name) ≡ wanting name
  null_entry name = ap (λ (t : Tree). (name, t)) ordered_null

  with_null : (name : List ℕ) → value_at others name ≡ None → AreOrdered (entries ++ wanting name ∷ []) (others ++ wanting name ∷ [])
  with_null name none = record {
    sorted =
        by_key-push (wanting name) entries (none_there name none)
        ∙ ap (placed entry_key (wanting name)) are.sorted
        ∙ ap (λ (e : List ℕ × Tree). placed entry_key e (map ordered_entry (in_byte_order others))) (sym (null_entry name))
        ∙ sym (map-placed (wanting name) (in_byte_order others))
        ∙ ap (map ordered_entry) (sym (by_key-push (wanting name) others none));
    values = λ key.
        value-append key entries (wanting name ∷ [])
        ∙ ap (λ (o : Option Tree). option_or o (value_at (wanting name ∷ []) key)) (are.values key)
        ∙ joined key (value_at others key) (bytes_eq key name)
        ∙ ap (option_map ordered) (sym (value-append key others (wanting name ∷ [])));
  }
    where
      joined : (key : List ℕ) (o : Option Tree) (b : Bool) → option_or (option_map ordered o) (cond b (Some Null) None) ≡ option_map ordered (option_or o (cond b (Some Null) None))
      joined key None true = ap Some (sym ordered_null)
      joined key None false = refl
      joined key (Some tree) b = refl

-- and with null under what is wanted
pub wanting_ordered : (names : List (List ℕ)) (entries others : Entries) → AreOrdered entries others → AreOrdered (with_wanting names entries) (with_wanting names others)
wanting_ordered [] entries others are = are
wanting_ordered (name ∷ names) entries others are =
    at (is_some (value_at entries name)) refl (value_at others name) refl (λ es os h. wanting_ordered names es os h)
  where
    at : (b : Bool) → is_some (value_at entries name) ≡ b → (o : Option Tree) → value_at others name ≡ o
        → ((es os : Entries) → AreOrdered es os → AreOrdered (with_wanting names es) (with_wanting names os))
        → AreOrdered (with_wanting names (if b then entries else entries ++ (name, Null) ∷ [])) (with_wanting names (if is_some o then others else others ++ (name, Null) ∷ []))
    at true e (Some tree) f so = so entries others are
    at false e (Some tree) f so = let bad : false ≡ true = sym e ∙ same_there entries others are name ∙ ap is_some f in absurd (cc bad)
    at true e None f so = let bad : true ≡ false = sym e ∙ same_there entries others are name ∙ ap is_some f in absurd (cc bad)
    at false e None f so = so (entries ++ (name, Null) ∷ []) (others ++ (name, Null) ∷ []) (with_null entries others are name f)

any-placed : (test : List ℕ × Tree → Bool) (e : List ℕ × Tree) (es : Entries) → list_any test (placed entry_key e es) ≡ (test e || list_any test es)
any-placed test e [] = refl
any-placed test e (y ∷ ys) = at (is_before y.0 e.0) (any-placed test e ys)
  where
    turned : (a b c : Bool) → (a || (b || c)) ≡ (b || (a || c))
    turned true true c = refl
    turned true false c = refl
    turned false b c = refl

    at : (b : Bool) → list_any test (placed entry_key e ys) ≡ (test e || list_any test ys) → list_any test (cond b (y ∷ placed entry_key e ys) (e ∷ y ∷ ys)) ≡ (test e || (test y || list_any test ys))
    at true rest = ap (λ b. test y || b) rest ∙ turned (test y) (test e) (list_any test ys)
    at false rest = refl

any-sorted : (test : List ℕ × Tree → Bool) (es : Entries) → list_any test (in_byte_order es) ≡ list_any test es
any-sorted test [] = refl
any-sorted test (e ∷ es) = any-placed test e (in_byte_order es) ∙ ap (λ b. test e || b) (any-sorted test es)

-- a test that looks at keys and at ordered trees alone
pub any_ordered : (test : List ℕ × Tree → Bool) → ((e : List ℕ × Tree) → test (ordered_entry e) ≡ test e) → (entries others : Entries) → AreOrdered entries others → list_any test entries ≡ list_any test others
any_ordered test same entries others are =
    sym (any-sorted test entries) ∙ ap (list_any test) are.sorted ∙ each (in_byte_order others) ∙ any-sorted test others
  where
    each : (es : Entries) → list_any test (map ordered_entry es) ≡ list_any test es
    each [] = refl
    each (e ∷ es) = (λ i. same e i || each es i)
