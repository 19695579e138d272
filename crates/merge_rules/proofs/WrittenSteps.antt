-- Steps of writing a tree into a mark.
use Rattle.std.proofs.Common.{◌≡◌, ◌∙◌, ℕ, ◌+◌, ◌≤◌, List, ◌++◌, map, drop, flat_map, length, slice_get, Some, ap, sym, codes, append_assoc, append-nil, rules}
use Rattle.std.specs.List.{zip}
use Rattle.tree_base.specs.declared.tree.Tree.{Tree, the_lemmas}
use Rattle.tree_base.specs.declared.tree.Tree.TheVariants.{Map, Override, Seq}
use Rattle.attribute_paths.proofs.Walks.{entry_next, item_next, no_entry}
use Rattle.merge_rules.specs.Marks.{counted, entry_written, written}
use Rattle.merge_rules.proofs.AloneSteps.{none_left}

-- what stands between two signs
pub wrapped : (out one two three begin inner close total : List ℕ) → one ≡ out ++ begin → two ≡ one ++ inner → three ≡ two ++ close → begin ++ (inner ++ close) ≡ total → three ≡ out ++ total
wrapped out one two three begin inner close total e f g h =
    g ∙ ap (λ x. x ++ close) (f ∙ ap (λ x. x ++ inner) e) ∙ append_assoc (out ++ begin) inner close ∙ append_assoc out begin (inner ++ close)
    ∙ ap (λ x. out ++ x) h

-- a mapping, a sequence and a mark, by their parts
pub map_written : (es : List (List ℕ × Tree)) → codes "{" ++ (flat_map entry_written (map (λ (e : List ℕ × Tree). (e.0, written e.1)) es) ++ codes "}") ≡ written (Map es)
map_written es = search (rules, the_lemmas)

pub seq_written : (xs : List Tree) → codes "[" ++ (flat_map (λ item. item) (map written xs) ++ codes "]") ≡ written (Seq xs)
seq_written xs = search (rules, the_lemmas)

pub override_written : (inner : Tree) → codes "!" ++ written inner ≡ written (Override inner)
override_written inner = search (rules, the_lemmas)

-- two parts put behind one another
pub twice : (out one two first second total : List ℕ) → one ≡ out ++ first → two ≡ one ++ second → first ++ second ≡ total → two ≡ out ++ total
twice out one two first second total e f h = f ∙ ap (λ x. x ++ second) e ∙ append_assoc out first second ∙ ap (λ x. out ++ x) h

-- what is left of a walk, where one more part was put
next : (out new part rest : List ℕ) → new ≡ out ++ part → new ++ rest ≡ out ++ (part ++ rest)
next out new part rest e = ap (λ x. x ++ rest) e ∙ append_assoc out part rest

-- values under their keys, from a place on
module _ (keys : List (List ℕ)) (values : List Tree) where
  abbrev pub entries_from : ℕ → List ℕ
  entries_from i = flat_map entry_written (drop i (zip keys (map written values)))

  pub entry_put : (i : ℕ) (key : List ℕ) (value : Tree) (out one two all : List ℕ) → slice_get keys i ≡ Some key → slice_get values i ≡ Some value
      → one ≡ out ++ counted key → two ≡ one ++ written value → out ++ entries_from i ≡ all → two ++ entries_from (i + 1) ≡ all
  entry_put i key value out one two all k v e f h =
      let part = counted key ++ written value in
      let put : two ≡ out ++ part = f ∙ ap (λ x. x ++ written value) e ∙ append_assoc out (counted key) (written value) in
      next out two part (entries_from (i + 1)) put
      ∙ ap (λ x. out ++ x) (sym (ap (flat_map entry_written) (entry_next written keys values i key value k v)))
      ∙ h

  pub entries_put : (i : ℕ) (out all : List ℕ) → length values ≤ i → out ++ entries_from i ≡ all → out ≡ all
  entries_put i out all past h =
      sym (append-nil out) ∙ ap (λ x. out ++ flat_map entry_written x) (sym (no_entry written keys values i past)) ∙ h

-- items, from a place on
module _ (items : List Tree) where
  abbrev pub items_from : ℕ → List ℕ
  items_from i = flat_map (λ item. item) (drop i (map written items))

  pub item_put : (i : ℕ) (item : Tree) (out new all : List ℕ) → slice_get items i ≡ Some item → new ≡ out ++ written item → out ++ items_from i ≡ all → new ++ items_from (i + 1) ≡ all
  item_put i item out new all at e h =
      next out new (written item) (items_from (i + 1)) e
      ∙ ap (λ x. out ++ x) (sym (ap (flat_map (λ item. item)) (item_next written items i item at)))
      ∙ h

  pub items_put : (i : ℕ) (out all : List ℕ) → length items ≤ i → out ++ items_from i ≡ all → out ≡ all
  items_put i out all past h =
      sym (append-nil out) ∙ ap (λ x. out ++ flat_map (λ item. item) x) (sym (none_left written items i past)) ∙ h
