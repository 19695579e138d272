-- Items under their keys, which differ.
use Rattle.std.proofs.Common.{◌≡◌, ◌∙◌, ◌+◌, ◌<◌, ℕ, suc, true, false, List, [], ◌∷◌, Some, length, get_or, map, take, slice_get, refl, ap, subst, arith}
use Rattle.std.specs.Cmp.Lexicographic.{nat_list_eq_equiv, slice_cmp, texts_ties}
use Rattle.std.specs.List.{AllByRecursion, IsDistinct}
use Rattle.std.specs.Map.{keys_of, values_of}
use Rattle.std.specs.Option.{option_map}
use Rattle.std.specs.Ordering.{is_eq, is_lt, nat_cmp}
use Rattle.std.specs.declared.cmp.Ordering.{Ordering}
use Rattle.std.specs.declared.cmp.Ordering.TheVariants.{Equal, Greater, Less}
use Rattle.std.specs.Str.{bytes_eq}
use Rattle.std.proofs.lemmas.List.{length-map}
use Rattle.std.proofs.lemmas.Option.{slice_get-map, slice_get_read}
use Rattle.std.specs.List.{zip}
use Rattle.tree_base.specs.ByteOrder.{IsAscending, is_before}
use Rattle.tree_base.specs.Entries.{with_entry}
use Rattle.tree_base.proofs.Pairs.{put-next, values_mapped}

module _ {X V : Type 0} (key : X → List ℕ) (show : X → V) where
  -- an item under its key
  abbrev pub entry_of : X → List ℕ × V
  entry_of x = (key x, show x)

  keys_shown : (xs : List X) → map key xs ≡ keys_of (map entry_of xs)
  keys_shown [] = refl
  keys_shown (x ∷ xs) = ap (λ (l : List (List ℕ)). key x ∷ l) (keys_shown xs)

  -- one more item is put last to those before it
  pub item_put : (xs : List X) (i : ℕ) (x : X) (done : List (List ℕ × V)) (k : List ℕ) (v : V) (new : List (List ℕ × V)) → IsDistinct bytes_eq (map key xs) → i < length xs → x ≡ get_or xs i x
      → done ≡ take i (map entry_of xs) → k ≡ key x → v ≡ show x → new ≡ with_entry done k v → new ≡ take (i + 1) (map entry_of xs)
  item_put xs i x done k v new d within is so named shown e =
      let at : slice_get xs i ≡ Some x = slice_get_read xs (length xs) i x refl within is in
      e
      ∙ (λ j. with_entry (so j) (named j) (shown j))
      ∙ put-next nat_list_eq_equiv (map entry_of xs) i (entry_of x) (subst (λ (keys : List (List ℕ)). IsDistinct bytes_eq keys) (keys_shown xs) d)
      (slice_get-map entry_of xs i ∙ ap (option_map entry_of) at)

module _ {V W : Type 0} (f : V → W) (es : List (List ℕ × V)) (values : List V) (made : List W) (same : values ≡ values_of es) (is : made ≡ map f values) where
  -- what is made of the values, under the same keys
  pub values_made : zip (keys_of es) made ≡ map (λ (e : List ℕ × V). (e.0, f e.1)) es
  values_made = ap (zip (keys_of es)) (is ∙ ap (map f) same) ∙ values_mapped f es

  -- it is as much as there are entries
  pub values_long : length made ≡ length es
  values_long = ap (length {A = W}) is ∙ length-map values f ∙ ap (length {A = V}) same ∙ length-map es (λ e. e.1)

-- of two texts that stand in order, each is another
differ : (s t : List ℕ) → is_before s t ≡ true → bytes_eq s t ≡ false
differ s t e = texts_ties s t ∙ by (slice_cmp nat_cmp s t) e
  where
    by : (o : Ordering) → is_lt o ≡ true → is_eq o ≡ false
    by Less e = refl
    by Equal e = absurd (cc e)
    by Greater e = refl

module _ {X : Type 0} (key : X → List ℕ) where
  later : (name : List ℕ) (xs : List X) → ((j : ℕ) (x : X) → slice_get xs j ≡ Some x → is_before name (key x) ≡ true) → AllByRecursion (λ t. bytes_eq name t ≡ false) (map key xs)
  later name [] before = tt
  later name (x ∷ xs) before = (differ name (key x) (before 0 x refl), later name xs (λ j other e. before (suc j) other e))

  -- keys in order differ
  pub ascending_differ : (xs : List X) → IsAscending (λ x y. is_before (key x) (key y)) xs → IsDistinct bytes_eq (map key xs)
  unfolding IsDistinct
  ascending_differ [] order = tt
  ascending_differ (x ∷ xs) order = (
    later (key x) xs (λ j other e. order 0 (suc j) x other (omega arith) refl e),
    ascending_differ xs (λ i j first second l e f. order (suc i) (suc j) first second (omega arith) e f),
  )
