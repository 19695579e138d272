-- Steps of asking whether a tree stands as it is.
use Rattle.std.proofs.Common.{◌≡◌, ◌∙◌, ℕ, zero, suc, ◌+◌, ◌≤◌, Bool, false, cond, List, [], ◌∷◌, ◌++◌, map, drop, take, length, slice_get, None, Some, Option, Ok, refl, ap, sym, subst, arith}
use Rattle.std.specs.Cmp.Lexicographic.{nat_list_eq_equiv}
use Rattle.std.specs.List.{zip, AllByRecursion, IsDistinct}
use Rattle.std.specs.Map.{keys_of, values_of}
use Rattle.std.specs.Str.{bytes_eq}
use Rattle.std.proofs.lemmas.Map.Keys.{IsDistinct-head, IsDistinct-tail}
use Rattle.tree_base.specs.Entries.{value_at, with_entry}
use Rattle.tree_base.specs.declared.Step.TheVariants.{Key}
use Rattle.tree_base.specs.declared.Tree.{Tree, Map}
use Rattle.attribute_paths.specs.Patterns.{below_key}
use Rattle.attribute_paths.proofs.Walks.{entries_are, entry_next, item_next, no_entry}
use Rattle.merge_tables.specs.declared.rules.Joining.{Joining}
use Rattle.merge_tables.specs.declared.rules.Standing.TheVariants.{Item, Value}
use Rattle.merge_rules.specs.Alone.{JoinsNew, StandsAlone}
use Rattle.merge_tables.specs.Answers.{under}
use Rattle.merge_tables.specs.Attributes.{JoiningRules}
use Rattle.merge_rules.specs.Overlay.{Lay, entries_over, entry_over, item_joined, items_joined, laid, layers, with_value}
use Rattle.merge_tables.specs.Parts.{or_null}
use Rattle.merge_tables.proofs.Answering.{goes_on}
use Rattle.merge_tables.proofs.Taking.{take_all, take_next}
use Rattle.merge_rules.proofs.Unchanged.{map_alone, put_new}

module _ {X : Type 0} where
  pub none_left : {Y : Type 0} (f : X → Y) (xs : List X) (i : ℕ) → length xs ≤ i → drop i (map f xs) ≡ []
  none_left f [] zero h = refl
  none_left f [] (suc i) h = refl
  none_left f (x ∷ xs) zero h = absurd (omega arith)
  none_left f (x ∷ xs) (suc i) h = none_left f xs i (omega arith)

  all_at : (P : X → Type 0) (xs : List X) (i : ℕ) (x : X) → AllByRecursion P xs → slice_get xs i ≡ Some x → P x
  all_at P [] i x h e = absurd cc
  all_at P (y ∷ xs) zero x h e = let same : y ≡ x = cc in subst P same h.0
  all_at P (y ∷ xs) (suc i) x h e = all_at P xs i x h.1 e

  zip_at : (keys : List (List ℕ)) (xs : List X) (i : ℕ) (k : List ℕ) (x : X) → slice_get keys i ≡ Some k → slice_get xs i ≡ Some x → slice_get (zip keys xs) i ≡ Some (k, x)
  zip_at [] xs i k x p q = absurd cc
  zip_at (y ∷ keys) [] i k x p q = absurd cc
  zip_at (y ∷ keys) (z ∷ xs) zero k x p q =
      let one : y ≡ k = cc in
      let two : z ≡ x = cc in
      (λ i. Some (one i, two i))
  zip_at (y ∷ keys) (z ∷ xs) (suc i) k x p q = zip_at keys xs i k x p q

  zip_all : (keys : List (List ℕ)) (xs : List X) (i : ℕ) → length xs ≤ i → take i (zip keys xs) ≡ zip keys xs
  zip_all [] xs zero h = refl
  zip_all [] xs (suc i) h = refl
  zip_all (k ∷ keys) [] zero h = refl
  zip_all (k ∷ keys) [] (suc i) h = refl
  zip_all (k ∷ keys) (x ∷ xs) zero h = absurd (omega arith)
  zip_all (k ∷ keys) (x ∷ xs) (suc i) h = ap (λ (l : List (List ℕ × X)). (k, x) ∷ l) (zip_all keys xs i (omega arith))

  zip_back : (es : List (List ℕ × X)) → zip (keys_of es) (values_of es) ≡ es
  zip_back [] = refl
  zip_back (e ∷ es) = ap (λ (l : List (List ℕ × X)). e ∷ l) (zip_back es)

-- a key among distinct ones is not among those before it
not_before : (keys : List (List ℕ)) (values : List Tree) (i : ℕ) (k : List ℕ) → IsDistinct bytes_eq keys → slice_get keys i ≡ Some k → value_at (take i (zip keys values)) k ≡ None
not_before [] values i k d e = absurd cc
not_before (x ∷ keys) [] zero k d e = refl
not_before (x ∷ keys) [] (suc i) k d e = refl
not_before (x ∷ keys) (v ∷ values) zero k d e = refl
not_before (x ∷ keys) (v ∷ values) (suc i) k d e =
    let apart : bytes_eq k x ≡ false = nat_list_eq_equiv.symm k x ∙ all_at (λ (y : List ℕ). bytes_eq x y ≡ false) keys i k (IsDistinct-head bytes_eq x keys d) e in
    ap (λ (b : Bool). cond b (Some v) (value_at (take i (zip keys values)) k)) apart ∙ not_before keys values i k (IsDistinct-tail bytes_eq x keys d) e

-- an item that stands is put behind those before it
pub item_stays : (joining : Option Joining) (items : List Tree) (i : ℕ) (item : Tree) → slice_get items i ≡ Some item → StandsAlone [] item → JoinsNew joining (take i items) item
    → items_joined joining (drop (i + 1) (map laid items)) (take (i + 1) items) ≡ items_joined joining (drop i (map laid items)) (take i items)
item_stays joining items i item at stands joins =
    let rest = drop (i + 1) (map laid items) in
    ap (items_joined joining rest) (take_next items i item at)
    ∙ sym (goes_on (item_joined joining (take i items) (laid item)) (items_joined joining rest) (take i items ++ item ∷ []) (joins (laid item) (stands Item)))
    ∙ sym (ap (λ (ls : List Lay). items_joined joining ls (take i items)) (item_next laid items i item at))

pub items_stay : (joining : Option Joining) (items : List Tree) (i : ℕ) → length items ≤ i → items_joined joining (drop i (map laid items)) (take i items) ≡ Ok items
items_stay joining items i h =
    ap (λ (ls : List Lay). items_joined joining ls (take i items)) (none_left laid items i h) ∙ ap Ok (take_all items i h)

-- a value that stands is put behind those before it, under its key
pub value_stays : (lines : JoiningRules) (keys : List (List ℕ)) (values : List Tree) (i : ℕ) (k : List ℕ) (v : Tree) → IsDistinct bytes_eq keys → slice_get keys i ≡ Some k → slice_get values i ≡ Some v → StandsAlone (below_key k lines) v
    → entries_over lines (drop (i + 1) (zip keys (map laid values))) (take (i + 1) (zip keys values)) ≡ entries_over lines (drop i (zip keys (map laid values))) (take i (zip keys values))
value_stays lines keys values i k v distinct p q stands =
    let es = zip keys values in
    let rest = drop (i + 1) (zip keys (map laid values)) in
    let none = not_before keys values i k distinct p in
    let got : under (Key k) (laid v Value (below_key k lines) (or_null (value_at (take i es) k))) ≡ Ok (Some v) =
    ap (λ (o : Option Tree). under (Key k) (laid v Value (below_key k lines) (or_null o))) none ∙ ap (under (Key k)) (stands Value) in
    let one : entry_over lines (take i es) (k, laid v) ≡ Ok (with_entry (take i es) k v) =
    goes_on (under (Key k) (laid v Value (below_key k lines) (or_null (value_at (take i es) k)))) (λ (value : Option Tree). Ok (with_value (take i es) k value)) (Some v) got in
    ap (entries_over lines rest) (take_next es i (k, v) (zip_at keys values i k v p q) ∙ sym (put_new (take i es) k v none))
    ∙ sym (goes_on (entry_over lines (take i es) (k, laid v)) (entries_over lines rest) (with_entry (take i es) k v) one)
    ∙ sym (ap (λ (ls : List (List ℕ × Lay)). entries_over lines ls (take i es)) (entry_next laid keys values i k v p q))

pub values_stay : (lines : JoiningRules) (keys : List (List ℕ)) (values : List Tree) (i : ℕ) → length values ≤ i → entries_over lines (drop i (zip keys (map laid values))) (take i (zip keys values)) ≡ Ok (zip keys values)
values_stay lines keys values i h =
    ap (λ (ls : List (List ℕ × Lay)). entries_over lines ls (take i (zip keys values))) (no_entry laid keys values i h) ∙ ap Ok (zip_all keys values i h)

-- entries that stand, by their keys and values
pub entries_stay : (lines : JoiningRules) (es : List (List ℕ × Tree)) (keys : List (List ℕ)) (values : List Tree) → keys ≡ keys_of es → values ≡ values_of es
    → entries_over lines (zip keys (map laid values)) [] ≡ Ok (zip keys values) → entries_over lines (layers es) [] ≡ Ok es
entries_stay lines es keys values k v h =
    ap (λ (ls : List (List ℕ × Lay)). entries_over lines ls []) (sym (entries_are laid es keys values k v))
    ∙ h ∙ (λ i. Ok (zip (k i) (v i))) ∙ ap Ok (zip_back es)

pub map_stays : (lines : JoiningRules) (es : List (List ℕ × Tree)) → entries_over lines (layers es) [] ≡ Ok es → StandsAlone lines (Map es)
map_stays lines es h standing =
    map_alone es lines standing ∙ goes_on (entries_over lines (layers es) []) (λ (all : List (List ℕ × Tree)). Ok (Some (Map all))) es h
