-- The tree that a page spells, with the values of its scalars, is the one that the node means.
use Rattle.std.proofs.Common.{◌≡◌, ◌∙◌, ℕ, ◌+◌, ◌≤◌, ◌&&◌, true, List, [], ◌∷◌, ◌++◌, append_assoc, append-nil, length, map, sum_by, Result, Ok, refl, sym, ap, rules, arith}
use Rattle.std.proofs.lemmas.Bool.{and_parts, le-leb}
use Rattle.std.proofs.lemmas.List.Sums.{sum_by-cons}
use Rattle.std.specs.List.{list_all, zip}
use Rattle.std.specs.Map.{keys_of}
use Rattle.std.specs.Str.{is_utf8}
use Rattle.interpolate.proofs.Walks.{entries_go, goes_on, items_go, map_walk}
use Rattle.interpolate.specs.Parts.{place}
use Rattle.interpolate.specs.Substitution.{Variables, substituted}
use Rattle.interpolate.specs.Walking.{Walk, entries_walk, entry_walk, items_walk, scalar_walk, substituted_tree, tree_walk, under, with_bytes}
use Rattle.interpolate.specs.declared.refusal.SubstRefusal.{SubstRefusal}
use Rattle.interpolate.specs.declared.refusal.SubstTreeRefusal.{SubstTreeRefusal}
use Rattle.laws_pages.proofs.ProjectTexts.{is_longer, text_value, word_value}
use Rattle.laws_pages.specs.ProjectLaws.{PagesGiveValues}
use Rattle.project_print.specs.Values.{value_of}
use Rattle.project_print.specs.Scalars.{doubled}
use Rattle.project_print.specs.declared.node.Node as nodes
use Rattle.project_print.specs.declared.node.Node.{Node}
use Rattle.project_print.specs.declared.node.Node.TheVariants.{Map, Null, Seq, Text, Word}
use Rattle.tree_base.specs.Answers.{◌>>=◌}
use Rattle.tree_base.specs.Trees.{text_size}
use Rattle.tree_base.specs.declared.Step.TheVariants.{Index, Key}
use Rattle.tree_base.specs.declared.tree.Tree as kinds
use Rattle.tree_base.specs.declared.tree.Tree.{Tree}
use Rattle.tree_base.specs.declared.tree.Tree.TheVariants as trees
use Rattle.laws_yaml.proofs.Sizes.{map_sizes, scalar_sizes, seq_sizes}
use Rattle.laws_yaml.proofs.Induction.{OfAll, of_every}
use Rattle.laws_yaml.specs.Readable.{are_distinct, is_so}
use Rattle.laws_yaml.proofs.Words.{word_bytes}
use Rattle.laws_yaml.proofs.Decoded.{keys_in, printable_in, printable_map, printable_seq, printable_word}
use Rattle.laws_yaml.proofs.PrintedPages.{printed_back}
use Rattle.laws_yaml.specs.Printed.{is_printable, tree_of}

-- entries with the trees of their values, as they are printed and as they are meant
abbrev pub tree_entry : List ℕ × Node → List ℕ × Tree
tree_entry e = (e.0, tree_of e.1)

abbrev pub value_entry : List ℕ × Node → List ℕ × Tree
value_entry e = (e.0, value_of e.1)

pub tree_null : tree_of Null ≡ trees.Null
tree_null = search (rules, nodes.the_lemmas)

pub tree_word : (text : List ℕ) → tree_of (Word text) ≡ trees.Scalar text
tree_word text = search (rules, nodes.the_lemmas)

pub tree_text : (text : List ℕ) → tree_of (Text text) ≡ trees.Scalar (doubled text)
tree_text text = search (rules, nodes.the_lemmas)

pub tree_map : (es : List (List ℕ × Node)) → tree_of (Map es) ≡ trees.Map (map tree_entry es)
tree_map es = search (rules, nodes.the_lemmas)

pub tree_seq : (xs : List Node) → tree_of (Seq xs) ≡ trees.Seq (map tree_of xs)
tree_seq xs = search (rules, nodes.the_lemmas)

pub value_null : value_of Null ≡ trees.Null
value_null = search (rules, nodes.the_lemmas)

pub value_word : (text : List ℕ) → value_of (Word text) ≡ trees.Scalar text
value_word text = search (rules, nodes.the_lemmas)

pub value_text : (text : List ℕ) → value_of (Text text) ≡ trees.Scalar text
value_text text = search (rules, nodes.the_lemmas)

pub value_map : (es : List (List ℕ × Node)) → value_of (Map es) ≡ trees.Map (map value_entry es)
value_map es = search (rules, nodes.the_lemmas)

pub value_seq : (xs : List Node) → value_of (Seq xs) ≡ trees.Seq (map value_of xs)
value_seq xs = search (rules, nodes.the_lemmas)

pub printable_text_is : (text : List ℕ) → is_printable (Text text) ≡ is_utf8 text
printable_text_is text = search (rules, nodes.the_lemmas)

-- a walk over a printed tree gives the tree that is meant, and counts no more bytes than are printed
record IsWalked (env : Variables) (tree value : Tree) (size : ℕ) : Type 0 where
  new : ℕ
  is : tree_walk env tree size ≡ Ok (value, new)
  within : new ≤ size + text_size tree

abbrev Claim : Variables → Node → Type 0
Claim env node = is_printable node ≡ true → (size : ℕ) → size + text_size (tree_of node) ≤ 16777216 → IsWalked env (tree_of node) (value_of node) size

module _ (env : Variables) where
  walk_null : (size : ℕ) → tree_walk env trees.Null size ≡ Ok (trees.Null, size)
  walk_null size = search (rules, kinds.the_lemmas)

  walk_scalar : (text : List ℕ) (size : ℕ) → tree_walk env (trees.Scalar text) size ≡ scalar_walk (substituted env text) size
  walk_scalar text size = search (rules, kinds.the_lemmas)

  walk_seq : (items : List Tree) (size : ℕ) → tree_walk env (trees.Seq items) size ≡ (items_walk ([], size) 0 (map (tree_walk env) items) >>= λ got. Ok (trees.Seq got.0, got.1))
  walk_seq items size = search (rules, kinds.the_lemmas)

  with_room : (size more : ℕ) → size + more ≤ 16777216 → with_bytes size more ≡ Ok (size + more)
  with_room size more room = rw (le-leb (size + more) 16777216 room) refl

  -- a scalar
  scalar_walked : (text value : List ℕ) (size : ℕ) → substituted env text ≡ Ok value → length value ≤ length text → size + length text ≤ 16777216
      → IsWalked env (trees.Scalar text) (trees.Scalar value) size
  scalar_walked text value size has shorter room =
      let sizes = scalar_sizes text in
      record {
        new = size + length value;
        is = walk_scalar text size ∙ ap (λ (r : Result (List ℕ) SubstRefusal). scalar_walk r size) has
            ∙ goes_on (with_bytes size (length value)) (λ (n : ℕ). Ok (trees.Scalar value, n)) (size + length value) (with_room size (length value) (omega (arith, shorter, room)));
        within = omega (arith, sizes.text, shorter);
      }

  again : (printed tree meant value : Tree) (size : ℕ) → tree ≡ printed → value ≡ meant → IsWalked env printed meant size → IsWalked env tree value size
  again printed tree meant value size p q w = record {
    new = w.new;
    is = ap (λ t. tree_walk env t size) p ∙ w.is ∙ ap (λ v. Ok (v, w.new)) (sym q);
    within = (let same = ap text_size p in omega (arith, same, w.within));
  }

  room_at : (tree printed : Tree) (size : ℕ) → tree ≡ printed → size + text_size tree ≤ 16777216 → size + text_size printed ≤ 16777216
  room_at tree printed size p room = let same = ap text_size p in omega (arith, same, room)

  null_claim : Claim env Null
  null_claim printable size room = again trees.Null (tree_of Null) trees.Null (value_of Null) size tree_null value_null (record { new = size; is = walk_null size; within = omega arith })

  scalar_room : (text : List ℕ) (size : ℕ) → size + text_size (trees.Scalar text) ≤ 16777216 → size + length text ≤ 16777216
  scalar_room text size room = let sizes = scalar_sizes text in omega (arith, sizes.text, room)

  word_claim : (text : List ℕ) → Claim env (Word text)
  word_claim text printable size room =
      let fits = scalar_room text size (room_at (tree_of (Word text)) (trees.Scalar text) size (tree_word text) room) in
      again (trees.Scalar text) (tree_of (Word text)) (trees.Scalar text) (value_of (Word text)) size (tree_word text) (value_word text)
      (scalar_walked text text size (word_value env text (word_bytes text (sym (printable_word text) ∙ printable)) (omega (arith, fits))) (omega arith) fits)

  text_claim : (text : List ℕ) → Claim env (Text text)
  text_claim text printable size room =
      let fits = scalar_room (doubled text) size (room_at (tree_of (Text text)) (trees.Scalar (doubled text)) size (tree_text text) room) in
      let longer = is_longer text in
      again (trees.Scalar (doubled text)) (tree_of (Text text)) (trees.Scalar text) (value_of (Text text)) size (tree_text text) (value_text text)
      (scalar_walked (doubled text) text size (text_value env text (omega (arith, fits, longer))) longer fits)

  -- entries of a mapping, behind those that are done
  abbrev total : List (List ℕ × Tree) → ℕ
  total pairs = sum_by (λ (pair : List ℕ × Tree). length pair.0 + text_size pair.1) pairs

  record AreWalked (walk : Result (List Tree × ℕ) SubstTreeRefusal) (values : List Tree) (most : ℕ) : Type 0 where
    new : ℕ
    is : walk ≡ Ok (values, new)
    within : new ≤ most

  abbrev walk_entry : List ℕ × Tree → List ℕ × Walk
  walk_entry e = (e.0, tree_walk env e.1)

  abbrev value_in : List ℕ × Node → Tree
  value_in e = value_of e.1

  entry_walked : (key : List ℕ) (tree value : Tree) (size new : ℕ) → size + length key ≤ 16777216 → tree_walk env tree (size + length key) ≡ Ok (value, new) → entry_walk (key, tree_walk env tree) size ≡ Ok (value, new)
  entry_walked key tree value size new room is =
      goes_on (with_bytes size (length key)) (λ (n : ℕ). under (Key key) (tree_walk env tree n)) (size + length key) (with_room size (length key) room)
      ∙ ap (λ (r : Result (Tree × ℕ) SubstTreeRefusal). under (Key key) r) is

  entries_walked : (es : List (List ℕ × Node)) → OfAll (λ (e : List ℕ × Node). Claim env e.1) es → list_all is_so (printable_in es) ≡ true → (done : List Tree) (size : ℕ) → size + total (map tree_entry es) ≤ 16777216
      → AreWalked (entries_walk (done, size) (map walk_entry (map tree_entry es))) (done ++ map value_in es) (size + total (map tree_entry es))
  entries_walked [] claims printable done size room = record { new = size; is = ap (λ (l : List Tree). Ok (l, size)) (sym (append-nil done)); within = omega arith }
  entries_walked (e ∷ es) claims printable done size room =
      let parts = and_parts (is_printable e.1) (list_all is_so (printable_in es)) printable in
      let head = sum_by-cons (λ (pair : List ℕ × Tree). length pair.0 + text_size pair.1) (tree_entry e) (map tree_entry es) in
      let one = claims.0 parts.0 (size + length e.0) (omega (arith, room, head)) in
      let more = entries_walked es claims.1 parts.1 (done ++ value_in e ∷ []) one.new (omega (arith, room, head, one.within)) in
      record {
        new = more.new;
        is = entries_go env (done, size) (walk_entry (tree_entry e)) (map walk_entry (map tree_entry es)) (value_in e) one.new (entry_walked e.0 (tree_of e.1) (value_of e.1) size one.new (omega (arith, room, head)) one.is)
            ∙ more.is ∙ ap (λ (l : List Tree). Ok (l, more.new)) (append_assoc done (value_in e ∷ []) (map value_in es));
        within = omega (arith, head, one.within, more.within);
      }

  keys_zipped : (es : List (List ℕ × Node)) → zip (keys_of (map walk_entry (map tree_entry es))) (map value_in es) ≡ map value_entry es
  keys_zipped [] = refl
  keys_zipped (e ∷ es) = ap (λ (l : List (List ℕ × Tree)). value_entry e ∷ l) (keys_zipped es)

  map_claim : (es : List (List ℕ × Node)) → OfAll (λ (e : List ℕ × Node). Claim env e.1) es → Claim env (Map es)
  map_claim es claims printable size room =
      let all = and_parts (list_all is_utf8 (keys_in es)) (are_distinct (keys_in es) && list_all is_so (printable_in es)) (sym (printable_map es) ∙ printable) in
      let rest = and_parts (are_distinct (keys_in es)) (list_all is_so (printable_in es)) all.1 in
      let sizes = map_sizes (map tree_entry es) in
      let there = room_at (tree_of (Map es)) (trees.Map (map tree_entry es)) size (tree_map es) room in
      let are = entries_walked es claims rest.1 [] size (omega (arith, there, sizes.text)) in
      again (trees.Map (map tree_entry es)) (tree_of (Map es)) (trees.Map (map value_entry es)) (value_of (Map es)) size (tree_map es) (value_map es)
      (record {
        new = are.new;
        is = map_walk env (map tree_entry es) size
            ∙ goes_on (entries_walk ([], size) (map walk_entry (map tree_entry es))) (λ (got : List Tree × ℕ). Ok (trees.Map (zip (keys_of (map walk_entry (map tree_entry es))) got.0), got.1)) (map value_in es, are.new) are.is
            ∙ ap (λ (l : List (List ℕ × Tree)). Ok (trees.Map l, are.new)) (keys_zipped es);
        within = omega (arith, sizes.text, are.within);
      })

  -- items of a sequence, behind those that are done
  items_walked : (xs : List Node) → OfAll (Claim env) xs → list_all is_so (map is_printable xs) ≡ true → (done : List Tree) (at size : ℕ) → size + sum_by text_size (map tree_of xs) ≤ 16777216
      → AreWalked (items_walk (done, size) at (map (tree_walk env) (map tree_of xs))) (done ++ map value_of xs) (size + sum_by text_size (map tree_of xs))
  items_walked [] claims printable done at size room = record { new = size; is = ap (λ (l : List Tree). Ok (l, size)) (sym (append-nil done)); within = omega arith }
  items_walked (x ∷ xs) claims printable done at size room =
      let parts = and_parts (is_printable x) (list_all is_so (map is_printable xs)) printable in
      let head = sum_by-cons text_size (tree_of x) (map tree_of xs) in
      let one = claims.0 parts.0 size (omega (arith, room, head)) in
      let more = items_walked xs claims.1 parts.1 (done ++ value_of x ∷ []) (at + 1) one.new (omega (arith, room, head, one.within)) in
      record {
        new = more.new;
        is = items_go env (done, size) at (tree_of x) (map (tree_walk env) (map tree_of xs)) (value_of x) one.new (ap (λ (r : Result (Tree × ℕ) SubstTreeRefusal). under (Index (place at)) r) one.is)
            ∙ more.is ∙ ap (λ (l : List Tree). Ok (l, more.new)) (append_assoc done (value_of x ∷ []) (map value_of xs));
        within = omega (arith, head, one.within, more.within);
      }

  seq_claim : (xs : List Node) → OfAll (Claim env) xs → Claim env (Seq xs)
  seq_claim xs claims printable size room =
      let sizes = seq_sizes (map tree_of xs) in
      let there = room_at (tree_of (Seq xs)) (trees.Seq (map tree_of xs)) size (tree_seq xs) room in
      let are = items_walked xs claims (sym (printable_seq xs) ∙ printable) [] 0 size (omega (arith, there, sizes.text)) in
      again (trees.Seq (map tree_of xs)) (tree_of (Seq xs)) (trees.Seq (map value_of xs)) (value_of (Seq xs)) size (tree_seq xs) (value_seq xs)
      (record {
        new = are.new;
        is = walk_seq (map tree_of xs) size
            ∙ goes_on (items_walk ([], size) 0 (map (tree_walk env) (map tree_of xs))) (λ (got : List Tree × ℕ). Ok (trees.Seq got.0, got.1)) (map value_of xs, are.new) are.is;
        within = omega (arith, sizes.text, are.within);
      })

  pub printed_value : (node : Node) → is_printable node ≡ true → text_size (tree_of node) ≤ 16777216 → substituted_tree env (tree_of node) ≡ Ok (value_of node)
  printed_value node printable room =
      let walked = of_every (Claim env) null_claim word_claim text_claim map_claim seq_claim node printable 0 (omega (arith, room)) in
      goes_on (tree_walk env (tree_of node) 0) (λ (got : Tree × ℕ). Ok got.0) (value_of node, walked.new) walked.is

pub values_given : PagesGiveValues
values_given env file node printable within = (tree_of node, printed_back file node printable within, printed_value env node printable within.text)
