-- Steps of a walk that asks parts for their first refusal.
use Rattle.std.proofs.Common.{◌≡◌, ◌∙◌, ℕ, zero, suc, ◌+◌, ◌≤◌, List, [], ◌∷◌, map, drop, length, slice_get, Some, Ok, ap, refl, sym, arith, rules}
use Rattle.std.specs.List.{zip}
use Rattle.tree_base.specs.Answers.{◌>>=◌}
use Rattle.tree_base.specs.declared.tree.Tree.{Tree, the_lemmas}
use Rattle.tree_base.specs.declared.tree.Tree.TheVariants.{Map, Null, Seq}
use Rattle.tree_base.specs.declared.Step.TheVariants.{Index, Key}
use Rattle.merge_tables.specs.declared.refusal.MergeRefusal.{MergeRefusal}
use Rattle.merge_tables.specs.Answers.{Fails, place, under}
use Rattle.merge_tables.proofs.Answering.{fails_on, goes_on, same_fails}
use Rattle.attribute_paths.proofs.Walks.{entry_next, item_next, no_entry}
use Rattle.merge_rules.specs.UnderExtends.{Asked, entries_allowed, entries_asked, items_asked, services_allowed, unmarked, values_unmarked}

-- a mapping and a sequence, by their parts
pub map_asked : (es : List (List ℕ × Tree)) → unmarked (Map es) ≡ values_unmarked es
map_asked es = search (rules, the_lemmas)

pub seq_asked : (xs : List Tree) → unmarked (Seq xs) ≡ items_asked 0 (map unmarked xs)
seq_asked xs = search (rules, the_lemmas)

-- where there are no services, nothing is refused
pub no_services : services_allowed Null ≡ Ok tt
no_services = search (rules, the_lemmas)

-- a service that says nothing extends nothing
pub nothing_extends : entries_allowed [] ≡ Ok tt
nothing_extends = search (rules, the_lemmas)

-- values under their keys, from a place on
module _ (f : Tree → Asked) (keys : List (List ℕ)) (values : List Tree) where
  abbrev pub entries_from : ℕ → Asked
  entries_from i = entries_asked (drop i (zip keys (map f values)))

  module _ (i : ℕ) (key : List ℕ) (value : Tree) (k : slice_get keys i ≡ Some key) (v : slice_get values i ≡ Some value) where
    entry_begins : entries_from i ≡ (under (Key key) (f value) >>= λ ok. entries_from (i + 1))
    entry_begins = ap entries_asked (entry_next f keys values i key value k v)

    -- the first of them refused
    pub entry_refused : (e : MergeRefusal) → Fails e (under (Key key) (f value)) → Fails e (entries_from i)
    entry_refused e h = same_fails e _ _ (sym entry_begins) (fails_on e (under (Key key) (f value)) (λ ok. entries_from (i + 1)) h)

    -- or not
    pub entry_passed : under (Key key) (f value) ≡ Ok tt → entries_from (i + 1) ≡ entries_from i
    entry_passed h = sym (entry_begins ∙ goes_on (under (Key key) (f value)) (λ ok. entries_from (i + 1)) tt h)

  -- none is left
  pub entries_passed : (i : ℕ) → length values ≤ i → entries_from i ≡ Ok tt
  entries_passed i h = ap entries_asked (no_entry f keys values i h)

-- items, from a place on
module _ (items : List Tree) where
  abbrev pub items_from : ℕ → Asked
  items_from i = items_asked i (drop i (map unmarked items))

  module _ (i : ℕ) (item : Tree) (at : slice_get items i ≡ Some item) where
    item_begins : items_from i ≡ (under (Index (place i)) (unmarked item) >>= λ ok. items_from (i + 1))
    item_begins = ap (items_asked i) (item_next unmarked items i item at)

    pub item_refused : (e : MergeRefusal) → Fails e (under (Index (place i)) (unmarked item)) → Fails e (items_from i)
    item_refused e h = same_fails e _ _ (sym item_begins) (fails_on e (under (Index (place i)) (unmarked item)) (λ ok. items_from (i + 1)) h)

    pub item_passed : under (Index (place i)) (unmarked item) ≡ Ok tt → items_from (i + 1) ≡ items_from i
    item_passed h = sym (item_begins ∙ goes_on (under (Index (place i)) (unmarked item)) (λ ok. items_from (i + 1)) tt h)

  pub items_passed : (i : ℕ) → length items ≤ i → items_from i ≡ Ok tt
  items_passed i h = ap (items_asked i) (past items i h)
    where
      past : (xs : List Tree) (n : ℕ) → length xs ≤ n → drop n (map unmarked xs) ≡ []
      past [] zero h = refl
      past [] (suc n) h = refl
      past (x ∷ xs) zero h = absurd (omega (arith, h))
      past (x ∷ xs) (suc n) h = past xs n (omega (arith, h))
