-- Pairs of keys and texts, of entries under which scalars and nulls stand; trees with their keys in byte order.
use Rattle.std.proofs.Common.{◌≡◌, ◌∙◌, ◌+◌, ℕ, Bool, true, false, Option, None, Some, List, [], ◌∷◌, length, map, take, slice_get, refl, ap, sym, subst, rules}
use Rattle.std.specs.Prelude.{◌&&◌}
use Rattle.std.specs.Cmp.Lexicographic.{nat_list_eq_equiv}
use Rattle.std.specs.List.{IsDistinct, list_all, zip}
use Rattle.std.specs.Str.{bytes_eq}
use Rattle.std.proofs.lemmas.List.{length-map}
use Rattle.std.proofs.lemmas.Option.{slice_get-map}
use Rattle.std.specs.Map.{keys_of, values_of}
use Rattle.std.specs.Option.{option_and_then, option_map}
use Rattle.tree_base.proofs.Pairs.{put-next, values_mapped}
use Rattle.tree_base.specs.ByteOrder.{by_key}
use Rattle.tree_base.specs.Entries.{with_entry}
use Rattle.tree_base.specs.declared.Tree.{Tree, Map, out-Tree, the_lemmas}
use Rattle.tree_base.specs.declared.Tree.TheOpen.{Tree-F}
use Rattle.attribute_scalars.specs.Lists.{collected, is_nullable, nullable_in, ordered, pair_of, text_in}
use Rattle.attribute_scalars.specs.Walks.{Entries}

-- scalars and nulls stand under all keys
abbrev pub all_nullable : Entries → Bool
all_nullable entries = list_all (λ entry. is_nullable (out-Tree entry.1)) entries

-- the pairs of entries, where all are some
abbrev pub all_pairs : Entries → Option (List (List ℕ × Option (List ℕ)))
all_pairs entries = option_map (zip (keys_of entries)) (collected (λ tree. nullable_in (out-Tree tree)) (values_of entries))

-- scalars and nulls give pairs
pub nullable_pairs : (entries : Entries) → all_nullable entries ≡ true → all_pairs entries ≡ Some (map pair_of entries)
nullable_pairs [] h = refl
nullable_pairs (e ∷ es) h = by (out-Tree e.1) (all_nullable es) (nullable_pairs es) h
  where
    more : (v : Option (List ℕ)) (rest : Option (List (Option (List ℕ)))) → option_map (zip (keys_of es)) rest ≡ Some (map pair_of es)
        → option_map (zip (e.0 ∷ keys_of es)) (option_map (λ xs. v ∷ xs) rest) ≡ Some ((e.0, v) ∷ map pair_of es)
    more v None same = absurd (cc same)
    more v (Some xs) same = let here : zip (keys_of es) xs ≡ map pair_of es = cc same in ap (λ l. Some ((e.0, v) ∷ l)) here

    by : (tree : Tree-F Tree) (all : Bool) → (all ≡ true → all_pairs es ≡ Some (map pair_of es)) → (is_nullable tree && all) ≡ true
        → option_map (zip (e.0 ∷ keys_of es))
        (option_and_then (λ x. option_map (λ xs. x ∷ xs) (collected (λ tree. nullable_in (out-Tree tree)) (values_of es))) (nullable_in tree))
        ≡ Some ((e.0, text_in tree) ∷ map pair_of es)
    by Tree-F.Null all so h = more None (collected (λ tree. nullable_in (out-Tree tree)) (values_of es)) (so h)
    by (Tree-F.Scalar text) all so h = more (Some text) (collected (λ tree. nullable_in (out-Tree tree)) (values_of es)) (so h)
    by (Tree-F.Map entries) all so h = absurd (cc h)
    by (Tree-F.Seq items) all so h = absurd (cc h)
    by Tree-F.Reset all so h = absurd (cc h)
    by (Tree-F.Override inner) all so h = absurd (cc h)

-- something else gives none
pub other_pairs : (entries : Entries) → all_nullable entries ≡ false → all_pairs entries ≡ None
other_pairs [] h = absurd (cc h)
other_pairs (e ∷ es) h = by (out-Tree e.1) (all_nullable es) (other_pairs es) h
  where
    more : (v : Option (List ℕ)) (rest : Option (List (Option (List ℕ)))) → option_map (zip (keys_of es)) rest ≡ None
        → option_map (zip (e.0 ∷ keys_of es)) (option_map (λ xs. v ∷ xs) rest) ≡ None
    more v None same = refl
    more v (Some xs) same = absurd (cc same)

    by : (tree : Tree-F Tree) (all : Bool) → (all ≡ false → all_pairs es ≡ None) → (is_nullable tree && all) ≡ false
        → option_map (zip (e.0 ∷ keys_of es))
        (option_and_then (λ x. option_map (λ xs. x ∷ xs) (collected (λ tree. nullable_in (out-Tree tree)) (values_of es))) (nullable_in tree))
        ≡ None
    by Tree-F.Null all so h = more None (collected (λ tree. nullable_in (out-Tree tree)) (values_of es)) (so h)
    by (Tree-F.Scalar text) all so h = more (Some text) (collected (λ tree. nullable_in (out-Tree tree)) (values_of es)) (so h)
    by (Tree-F.Map entries) all so h = refl
    by (Tree-F.Seq items) all so h = refl
    by Tree-F.Reset all so h = refl
    by (Tree-F.Override inner) all so h = refl

module _ {V W : Type 0} (f : V → W) (es : List (List ℕ × V)) (values : List V) (made : List W) (same : values ≡ values_of es) (is : made ≡ map f values) where
  -- what is made of the values, under the same keys
  pub values_made : zip (keys_of es) made ≡ map (λ (e : List ℕ × V). (e.0, f e.1)) es
  values_made = ap (zip (keys_of es)) (is ∙ ap (map f) same) ∙ values_mapped f es

  -- it is as much as there are entries
  pub values_long : length made ≡ length es
  values_long = ap (length {A = W}) is ∙ length-map values f ∙ ap (length {A = V}) same ∙ length-map es (λ e. e.1)

-- pairs have the keys of their entries
pairs_keys : (es : Entries) → keys_of (map pair_of es) ≡ keys_of es
pairs_keys [] = refl
pairs_keys (e ∷ es) = ap (λ (l : List (List ℕ)). e.0 ∷ l) (pairs_keys es)

-- one more entry is put last to those before it
pub entry_put : {Y : Type 0} (view : Y → List ℕ × Tree) (ys : List Y) (i : ℕ) (y : Y) → IsDistinct bytes_eq (keys_of (map view ys)) → slice_get ys i ≡ Some y
    → with_entry (take i (map view ys)) (view y).0 (view y).1 ≡ take (i + 1) (map view ys)
entry_put view ys i y d at =
    put-next nat_list_eq_equiv (map view ys) i (view y) d (slice_get-map view ys i ∙ ap (option_map view) at)

-- one more pair is put last to those before it
pub pair_put : {Y : Type 0} (view : Y → List ℕ × Tree) (ys : List Y) (i : ℕ) (y : Y) → IsDistinct bytes_eq (keys_of (map view ys)) → slice_get ys i ≡ Some y
    → with_entry (take i (map pair_of (map view ys))) (view y).0 (text_in (out-Tree (view y).1)) ≡ take (i + 1) (map pair_of (map view ys))
pair_put view ys i y d at =
    put-next nat_list_eq_equiv (map pair_of (map view ys)) i (pair_of (view y)) (subst (λ (keys : List (List ℕ)). IsDistinct bytes_eq keys) (sym (pairs_keys (map view ys))) d)
    (slice_get-map pair_of (map view ys) i ∙ ap (option_map pair_of) (slice_get-map view ys i ∙ ap (option_map view) at))

-- a mapping has its keys in byte order, and each tree in it
pub ordered-map : (es : Entries) → ordered (Map es) ≡ Map (by_key (λ entry. entry.0) (map (λ (e : List ℕ × Tree). (e.0, ordered e.1)) es))
ordered-map es = search (rules, the_lemmas)
