-- Steps of asking whether a tree holds no path.
use Rattle.std.proofs.Common.{◌≡◌, ◌∙◌, ℕ, zero, suc, ◌+◌, ◌≤◌, List, [], ◌∷◌, ◌++◌, map, drop, take, add-one, length, slice_get, Some, Ok, rules, ap, sym, refl, arith}
use Rattle.std.specs.List.{zip}
use Rattle.std.specs.Map.{keys_of, values_of}
use Rattle.tree_base.specs.Answers.{◌>>=◌}
use Rattle.tree_base.specs.declared.Tree.{Tree, Map, Override, the_lemmas}
use Rattle.attribute_paths.specs.Patterns.{below_key, here}
use Rattle.attribute_paths.proofs.Walks.{entry_next, item_next, no_entry}
use Rattle.file_paths.specs.PathRules.{PathRules}
use Rattle.file_paths.specs.Resolving.{Entries, Home, entries_homed, items_homed, resolved_by, values_homed}
use Rattle.file_paths.proofs.Walking.{entries_whole, goes_on, items_go, map_done, values_go}

module _ {X : Type 0} where
  -- one more of the first
  take_next : (xs : List X) (i : ℕ) (x : X) → slice_get xs i ≡ Some x → take (i + 1) xs ≡ take i xs ++ x ∷ []
  take_next xs i x e = rw add-one (next xs i x e)
    where
      next : (xs : List X) (i : ℕ) (x : X) → slice_get xs i ≡ Some x → take (suc i) xs ≡ take i xs ++ x ∷ []
      next [] i x e = absurd cc
      next (y ∷ xs) zero x e = let same : y ≡ x = cc in ap (λ (t : X). t ∷ []) same
      next (y ∷ xs) (suc i) x e = ap (λ (l : List X). y ∷ l) (next xs i x e)

  -- the first are all, where there are no more
  take_all : (xs : List X) (i : ℕ) → length xs ≤ i → take i xs ≡ xs
  take_all [] zero h = refl
  take_all [] (suc i) h = refl
  take_all (x ∷ xs) zero h = absurd (omega arith)
  take_all (x ∷ xs) (suc i) h = ap (λ (l : List X). x ∷ l) (take_all xs i (omega arith))

  none_left : {Y : Type 0} (f : X → Y) (xs : List X) (i : ℕ) → length xs ≤ i → drop i (map f xs) ≡ []
  none_left f [] zero h = refl
  none_left f [] (suc i) h = refl
  none_left f (x ∷ xs) zero h = absurd (omega arith)
  none_left f (x ∷ xs) (suc i) h = none_left f xs i (omega arith)

module _ (home : Home) (lines : PathRules) where
  -- one item more that stays
  pub item_keeps : (items : List Tree) (i : ℕ) (item : Tree) → slice_get items i ≡ Some item → resolved_by home item lines ≡ Ok item
      → items_homed lines (take (i + 1) items) (drop (i + 1) (map (resolved_by home) items)) ≡ items_homed lines (take i items) (drop i (map (resolved_by home) items))
  item_keeps items i item at stays =
      let rest = drop (i + 1) (map (resolved_by home) items) in
      ap (λ (done : List Tree). items_homed lines done rest) (take_next items i item at)
      ∙ sym (items_go home lines (take i items) item item rest stays)
      ∙ sym (ap (items_homed lines (take i items)) (item_next (resolved_by home) items i item at))

  pub items_keep : (items : List Tree) (i : ℕ) → length items ≤ i → items_homed lines (take i items) (drop i (map (resolved_by home) items)) ≡ Ok items
  items_keep items i h =
      ap (items_homed lines (take i items)) (none_left (resolved_by home) items i h) ∙ ap Ok (take_all items i h)

  -- one value more that stays
  pub value_keeps : (keys : List (List ℕ)) (values : List Tree) (i : ℕ) (key : List ℕ) (value : Tree) → slice_get keys i ≡ Some key → slice_get values i ≡ Some value → resolved_by home value (below_key key lines) ≡ Ok value
      → values_homed lines (take (i + 1) values) (drop (i + 1) (zip keys (map (resolved_by home) values))) ≡ values_homed lines (take i values) (drop i (zip keys (map (resolved_by home) values)))
  value_keeps keys values i key value k v stays =
      let rest = drop (i + 1) (zip keys (map (resolved_by home) values)) in
      ap (λ (done : List Tree). values_homed lines done rest) (take_next values i value v)
      ∙ sym (values_go home lines (take i values) key value value rest stays)
      ∙ sym (ap (values_homed lines (take i values)) (entry_next (resolved_by home) keys values i key value k v))

  pub values_keep : (keys : List (List ℕ)) (values : List Tree) (i : ℕ) → length values ≤ i → values_homed lines (take i values) (drop i (zip keys (map (resolved_by home) values))) ≡ Ok values
  values_keep keys values i h =
      ap (values_homed lines (take i values)) (no_entry (resolved_by home) keys values i h) ∙ ap Ok (take_all values i h)

  -- a mapping whose values stay, and which has no path of its own
  pub map_keeps : (es : Entries) (keys : List (List ℕ)) (values : List Tree) → keys ≡ keys_of es → values ≡ values_of es → ((all : Entries) → entries_homed home (here lines) all ≡ Ok all)
      → values_homed lines [] (zip keys (map (resolved_by home) values)) ≡ Ok values → resolved_by home (Map es) lines ≡ Ok (Map es)
  map_keeps es keys values k v own h =
      map_done home es keys values lines k v values (zip (keys_of es) values) h (own (zip (keys_of es) values))
      ∙ ap (λ (l : Entries). Ok (Map l)) (ap (zip (keys_of es)) v ∙ entries_whole home es)

override_opens : (home : Home) (lines : PathRules) (inner : Tree) → resolved_by home (Override inner) lines ≡ (resolved_by home inner lines >>= λ tree. Ok (Override tree))
override_opens home lines inner = search (rules, the_lemmas)

pub override_keeps : (home : Home) (lines : PathRules) (inner : Tree) → resolved_by home inner lines ≡ Ok inner → resolved_by home (Override inner) lines ≡ Ok (Override inner)
override_keeps home lines inner h =
    override_opens home lines inner ∙ goes_on (resolved_by home inner lines) (λ (tree : Tree). Ok (Override tree)) inner h
