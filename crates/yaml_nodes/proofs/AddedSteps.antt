-- Steps of the calls that put and count the pairs of a merge key.
use Rattle.std.proofs.Common.{◌≡◌, ◌∙◌, ℕ, zero, suc, ◌+◌, ◌<◌, List, [], ◌∷◌, ◌++◌, Bool, true, false, ◌&&◌, cond, Option, Some, None, Result, Ok, Err, filter, is_none, take, drop, length, get_or, slice_get, sum_by, refl, sym, ap, subst, inl, inr, append_assoc, append-nil, arith}
use Rattle.std.proofs.lemmas.Bool.{cases_Bool}
use Rattle.std.proofs.lemmas.List.Elements.{filter_more}
use Rattle.std.proofs.lemmas.List.Sums.{sum_by-cons}
use Rattle.std.proofs.lemmas.Option.{slice_get_cases, slice_get_within, get_or_from_slice_get}
use Rattle.std.proofs.Math.Seq.{drop-append_seam, split_at}
use Rattle.std.specs.Cmp.Lexicographic.{nat_list_eq_equiv}
use Rattle.std.specs.List.{IsDistinct}
use Rattle.std.specs.Map.{keys_of, values_of}
use Rattle.std.specs.Str.{bytes_eq}
use Rattle.indexmap.proofs.MapLemmas.{absent_before, absent_from_lookup, insert_entry-absent}
use Rattle.tree_base.specs.Entries.{value_at, with_entry, HasDistinctKeys}
use Rattle.tree_base.specs.Trees.{node_count, text_size}
use Rattle.tree_base.specs.declared.tree.Tree.{Tree}
use Rattle.tree_base.specs.declared.tree.Tree.TheVariants.{Map}
use Rattle.yaml_lines.specs.Answers.{Gives}
use Rattle.yaml_lines.specs.declared.refusal.YamlRefusal.{YamlRefusal}
use Rattle.yaml_lines.specs.declared.row.Row.{Row}
use Rattle.yaml_nodes.specs.declared.entries.Merge.{Merge}
use Rattle.yaml_nodes.specs.declared.progress.Progress.{Progress}
use Rattle.yaml_nodes.specs.Mappings.{Pairs, new_pairs, with_new, added, nodes_of, bytes_of, merged_with}
use Rattle.yaml_nodes.specs.Progress.{more_nodes, result_left}
use Rattle.yaml_nodes.proofs.Chains.{fails_as, fails_on, goes_on}

module _ {V : Type 0} where
  -- a key that is in neither of two lists of entries
  pub none_in_both : (es fs : List (List ℕ × V)) (k : List ℕ) → is_none (value_at (es ++ fs) k) ≡ (is_none (value_at es k) && is_none (value_at fs k))
  none_in_both [] fs k = refl
  none_in_both (e ∷ es) fs k =
      elim (cases_Bool (bytes_eq k e.0)) [
        | inl same ↦ rw same refl
        | inr other ↦ rw other (none_in_both es fs k)
      ]

  -- a key that isn't among entries isn't among some of them
  none_filtered : (p : List ℕ × V → Bool) (es : List (List ℕ × V)) (k : List ℕ) → value_at es k ≡ None → value_at (filter p es) k ≡ None
  none_filtered p [] k h = refl
  none_filtered p (e ∷ es) k h =
      elim (cases_Bool (bytes_eq k e.0)) [
        | inl same ↦ let no : Some e.1 ≡ None = rw same at h in absurd (cc)
        | inr other ↦ elim (cases_Bool (p e)) [
          | inl passes ↦ rw (passes, other) (none_filtered p es k (rw other at h))
          | inr fails ↦ rw fails (none_filtered p es k (rw other at h))
        ]
      ]

and_true : (a b : Bool) → b ≡ true → (a && b) ≡ a
and_true true b h = h
and_true false b h = refl

-- a key of a mapping is in none of its pairs before it
apart : (more : Pairs) (i : ℕ) (p : List ℕ × Tree) → HasDistinctKeys more → i < length more → get_or more i p ≡ p → value_at (take i more) p.0 ≡ None
apart more i p distinct l e =
    let split = split_at more i p l ∙ ap (λ q. take i more ++ q ∷ drop (suc i) more) e in
    absent_before nat_list_eq_equiv (take i more) (drop (suc i) more) p (subst (λ (es : Pairs). IsDistinct bytes_eq (keys_of es)) split distinct)

none_from : {X : Type 0} (o : Option X) → is_none o ≡ true → o ≡ None
none_from None h = refl
none_from (Some x) h = absurd (cc)

-- a new pair is put last
pub put_last : (pairs pairs' : Pairs) (k : List ℕ) (tree : Tree) → is_none (value_at pairs k) ≡ true → pairs' ≡ with_entry pairs k tree → pairs' ≡ with_new pairs k tree
put_last pairs pairs' k tree new put =
    put ∙ insert_entry-absent bytes_eq k tree pairs (absent_from_lookup (bytes_eq k) pairs (none_from _ new)) ∙ sym (ap (λ b. cond b (pairs ++ (k, tree) ∷ []) pairs) new)

-- a place of a list has an item
pub not_past : {X : Type 0} (xs : List X) (i : ℕ) → i < length xs → slice_get xs i ≡ None → ⊥
not_past xs i within none =
    elim (slice_get_cases xs i).1 [
      | inl found ↦ let no : Some found.0 ≡ None = sym found.2 ∙ none in cc
      | inr past ↦ omega (arith, past.0)
    ]

-- the next pair of a mapping
pub next_pair : (own now now' more : Pairs) (i : ℕ) (p : List ℕ × Tree) → HasDistinctKeys more → slice_get more i ≡ Some p
    → now ≡ own ++ new_pairs own (take i more) → now' ≡ with_new now p.0 p.1 → now' ≡ own ++ new_pairs own (take (i + 1) more)
next_pair own now now' more i p distinct at so_far put =
    let P : List ℕ × Tree → Bool = λ pair. is_none (value_at own pair.0) in
    let kept : Pairs = filter P (take i more) in
    let within = slice_get_within more i p at in
    let here = get_or_from_slice_get more i p p at in
    let none = none_filtered P (take i more) p.0 (apart more i p distinct within here) in
    let test : is_none (value_at now p.0) ≡ P p =
    ap (λ (l : Pairs). is_none (value_at l p.0)) so_far ∙ none_in_both own kept p.0 ∙ and_true (P p) (is_none (value_at kept p.0)) (ap is_none none) in
    let next : filter P (take (i + 1) more) ≡ kept ++ cond (P p) (p ∷ []) [] = filter_more P more i p within ∙ ap (λ (q : List ℕ × Tree). kept ++ cond (P q) (q ∷ []) []) here in
    elim (cases_Bool (P p)) [
      | inl new ↦
          put ∙ ap (λ b. cond b (now ++ p ∷ []) now) (test ∙ new) ∙ ap (λ (l : Pairs). l ++ p ∷ []) so_far ∙ append_assoc own kept (p ∷ [])
          ∙ ap (λ (l : Pairs). own ++ l) (sym (next ∙ ap (λ b. kept ++ cond b (p ∷ []) []) new))
      | inr old ↦
          put ∙ ap (λ b. cond b (now ++ p ∷ []) now) (test ∙ old) ∙ so_far
          ∙ ap (λ (l : Pairs). own ++ l) (sym (next ∙ ap (λ b. kept ++ cond b (p ∷ []) []) old ∙ append-nil kept))
    ]

-- the pairs of one more mapping, and those of the mappings behind it
pub next_map : (now now' map total : Pairs) (maps : List Pairs) → now' ≡ now ++ new_pairs now map → now ++ added now (map ∷ maps) ≡ total → now' ++ added now' maps ≡ total
next_map now now' map total maps put so_far =
    let more : Pairs = new_pairs now map in
    ap (λ (l : Pairs). l ++ added l maps) put ∙ append_assoc now more (added (now ++ more) maps) ∙ so_far

-- the keys and the trees from a place on
pub keys_from : (n : ℕ) (es : Pairs) → drop n (keys_of es) ≡ keys_of (drop n es)
keys_from zero es = refl
keys_from (suc n) [] = refl
keys_from (suc n) (e ∷ es) = keys_from n es

pub trees_from : (n : ℕ) (es : Pairs) → drop n (values_of es) ≡ values_of (drop n es)
trees_from zero es = refl
trees_from (suc n) [] = refl
trees_from (suc n) (e ∷ es) = trees_from n es

-- what pairs count is what their keys and their trees count
pub nodes_together : (es : Pairs) → sum_by node_count (values_of es) ≡ nodes_of es
nodes_together [] = refl
nodes_together (e ∷ es) =
    sum_by-cons node_count e.1 (values_of es) ∙ ap (λ n. node_count e.1 + n) (nodes_together es) ∙ sym (sum_by-cons (λ (pair : List ℕ × Tree). node_count pair.1) e es)

pub bytes_together : (es : Pairs) → sum_by length (keys_of es) + sum_by text_size (values_of es) ≡ bytes_of es
bytes_together [] = refl
bytes_together (e ∷ es) =
    let rest = bytes_together es in
    let key : sum_by length (keys_of (e ∷ es)) ≡ length e.0 + sum_by length (keys_of es) = sum_by-cons length e.0 (keys_of es) in
    let tree : sum_by text_size (values_of (e ∷ es)) ≡ text_size e.1 + sum_by text_size (values_of es) = sum_by-cons text_size e.1 (values_of es) in
    let both : bytes_of (e ∷ es) ≡ length e.0 + text_size e.1 + bytes_of es = sum_by-cons (λ (pair : List ℕ × Tree). length pair.0 + text_size pair.1) e es in
    omega (arith, rest, key, tree, both)

-- the pairs of a merge key stand behind a mapping's own, and are counted
pub then_merged : {A : Type 0} (r : Result A YamlRefusal) (p p' : Progress) (row : Row) (own own' : Pairs) (merge : Merge) (keys : List (List ℕ)) (trees : List Tree) (first : ℕ)
    → first ≡ length own → own' ≡ own ++ added own merge.maps → keys ≡ drop first (keys_of own') → trees ≡ drop first (values_of own')
    → Gives (result_left r p') (more_nodes p row merge.spot (sum_by node_count trees) (sum_by length keys + sum_by text_size trees))
    → Gives (result_left r (Map own', p')) (merged_with p row own (Some merge))
then_merged r p p' row own own' merge keys trees first f put k t h = by r h
  where
    more : Pairs
    more = added own merge.maps

    counted : ℕ → ℕ → Result Progress YamlRefusal
    counted nodes bytes = more_nodes p row merge.spot nodes bytes

    with_map : Progress → Result (Tree × Progress) YamlRefusal
    with_map q = Ok (Map (own ++ more), q)

    rest : drop first own' ≡ more
    rest = ap (λ n. drop n own') f ∙ ap (drop (length own)) put ∙ drop-append_seam own more

    nodes : sum_by node_count trees ≡ nodes_of more
    nodes = ap (sum_by node_count) (t ∙ trees_from first own') ∙ nodes_together (drop first own') ∙ ap nodes_of rest

    bytes : sum_by length keys + sum_by text_size trees ≡ bytes_of more
    bytes =
        ap (λ ks. sum_by length ks + sum_by text_size trees) (k ∙ keys_from first own')
        ∙ ap (λ ts. sum_by length (keys_of (drop first own')) + sum_by text_size ts) (t ∙ trees_from first own')
        ∙ bytes_together (drop first own') ∙ ap bytes_of rest

    same : counted (sum_by node_count trees) (sum_by length keys + sum_by text_size trees) ≡ counted (nodes_of more) (bytes_of more)
    same = λ i. counted (nodes i) (bytes i)

    by : {A : Type 0} (r : Result A YamlRefusal) → Gives (result_left r p') (counted (sum_by node_count trees) (sum_by length keys + sum_by text_size trees)) → Gives (result_left r (Map own', p')) (merged_with p row own (Some merge))
    by (Ok a) h = goes_on (counted (nodes_of more) (bytes_of more)) p' with_map (sym same ∙ h) ∙ ap (λ (es : Pairs). Ok (Map es, p')) (sym put)
    by (Err e) h = fails_on e (counted (nodes_of more) (bytes_of more)) with_map (fails_as e _ _ same h)
