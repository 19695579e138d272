-- A flow sequence, whose items read as trees, reads as the sequence of these.
use Rattle.std.proofs.Common.{◌≡◌, ◌∙◌, ℕ, suc, ◌+◌, ◌≤◌, All, true, false, List, [], ◌∷◌, ◌++◌, Result, Ok, drop, length, map, sum_by, refl, sym, ap, append_assoc, append-nil, length-append, arith}
use Rattle.std.proofs.lemmas.Bool.{cond-false, cond-true}
use Rattle.std.proofs.lemmas.List.{drop-drop}
use Rattle.std.proofs.lemmas.List.Elements.{All-head, All-tail, All-weaker}
use Rattle.std.proofs.lemmas.List.Sums.{sum_by-cons}
use Rattle.tree_base.specs.declared.tree.Tree.{Tree}
use Rattle.tree_base.specs.declared.tree.Tree.TheVariants.{Seq}
use Rattle.tree_base.specs.Trees.{node_count, text_size}
use Rattle.yaml_flow.specs.declared.piece.Piece.{Piece}
use Rattle.yaml_flow.specs.Flow.{at_stop, between, flow, flow_item, flow_node}
use Rattle.yaml_lines.specs.declared.plain.Context.TheVariants.{Flow}
use Rattle.yaml_lines.specs.declared.refusal.YamlRefusal.{YamlRefusal}
use Rattle.yaml_lines.specs.declared.row.Row.{Row}
use Rattle.yaml_nodes.specs.declared.progress.Progress.{Progress}
use Rattle.yaml_nodes.specs.Marks.{is_key_behind, starts}
use Rattle.yaml_nodes.specs.Progress.{◌>>=◌}
use Rattle.yaml_nodes.specs.Properties.{finished, no_properties}
use Rattle.yaml_nodes.specs.Scalars.{ending}
use Rattle.laws_yaml.proofs.OneLine.{grown, node_fits}
use Rattle.laws_yaml.proofs.Sizes.{seq_sizes}
use Rattle.laws_yaml.proofs.Ends.{is_end}
use Rattle.laws_yaml.proofs.FlowNodes.{node_by, stop_is}
use Rattle.laws_yaml.proofs.FlowTexts.{IsFlowText, behind_text}
use Rattle.laws_yaml.proofs.Pieces.{ArePieces, Closes, collection_is, put_all, separated_go, total}
use Rattle.laws_yaml.proofs.Taken.{Took}
use Rattle.laws_yaml.proofs.FlowTokens.{Goes, both_go, square_closes, square_opens}
use Rattle.laws_yaml.specs.Flows.{separated}

-- the sum over images is the sum over the things
pub total_is : {X Y : Type 0} (f : Y → ℕ) (g : X → Y) (xs : List X)
    → sum_by f (map g xs) ≡ total (λ x. f (g x)) xs
total_is f g [] = refl
total_is f g (x ∷ xs) = sum_by-cons f (g x) (map g xs) ∙ ap (λ n. f (g x) + n) (total_is f g xs)

closes : Closes 93
closes = record { cut = refl; comma = refl; same = refl; mark = refl }

module _ {X : Type 0} (levels : ℕ) (text : X → List ℕ) (tree : X → Tree) where
  -- one more item
  abbrev put : List Tree → X → List Tree
  put items x = items ++ tree x ∷ []

  abbrev Good : List Tree → List X → Type 0
  Good items xs = All (λ x. IsFlowText levels (text x) (tree x)) xs

  put_are : (items : List Tree) (xs : List X) → put_all put items xs ≡ items ++ map tree xs
  put_are items [] = sym (append-nil items)
  put_are items (x ∷ xs) = put_are (items ++ tree x ∷ []) xs ∙ append_assoc items (tree x ∷ []) (map tree xs)

  item_by : (row : Row) (piece : Piece) (items : List Tree) (p q : Progress) (at end : ℕ) (one : Tree)
      → is_key_behind Flow (drop at row.chars) ≡ false
      → flow_node levels (flow levels) false row piece at p at ≡ Ok ((one, end), q)
      → at_stop row piece q end ≡ Ok q
      → flow_item levels (flow levels) row piece (items, p) at ≡ Ok (items ++ one ∷ [], q)
  item_by row piece items p q at end one unkeyed reads stops =
      cond-false (is_key_behind Flow (drop at row.chars)) _ _ unkeyed
      ∙ ap (λ r. r >>= λ got. at_stop row piece got.1 got.0.1 >>= λ p. Ok (items ++ got.0.0 ∷ [], p)) reads
      ∙ ap (λ r. r >>= λ p. Ok (items ++ one ∷ [], p)) stops

  item_is : (row : Row) (items : List Tree) (x : X) (xs : List X) → Good items (x ∷ xs)
      → (p : Progress) (piece : Piece) (at : ℕ) (rest : List ℕ) → drop at row.chars ≡ text x ++ rest
      → is_end rest ≡ true → piece.stop ≡ at + length (text x)
      → p.nodes + node_count (tree x) ≤ 200000 → p.text + text_size (tree x) ≤ 16777216
      → Took (flow_item levels (flow levels) row piece (items, p) at) (put items x) p (node_count (tree x)) (text_size (tree x))
  item_is row items x xs good p piece at rest here ends stop many long =
      let is = All-head (λ x. IsFlowText levels (text x) (tree x)) x xs good in
      let begins : drop at row.chars ≡ is.front ∷ (is.more ++ rest) = here ∙ ap (λ t. t ++ rest) is.is in
      let len = ap length is.is in
      let one = is.reads p row at rest here ends many long in
      let node = node_by levels (flow levels) false row piece at p at is.front (is.more ++ rest) begins is.solid (omega (arith, len, stop)) in
      record {
        after = one.after;
        is = item_by row piece items p one.after at (at + length (text x)) (tree x) (ap (is_key_behind Flow) here ∙ is.no_key rest ends) (node ∙ one.is)
            (stop_is row piece one.after (at + length (text x)) rest (behind_text row at (text x) rest here) ends stop);
        nodes_are = one.nodes_are;
        text_is = one.text_is;
      }

  are_pieces : (row : Row)
      → ArePieces text put (λ x. node_count (tree x)) (λ x. text_size (tree x)) (flow_item levels (flow levels) row) row Good
  are_pieces row = record {
    next = λ items x xs good. All-tail (λ x. IsFlowText levels (text x) (tree x)) x xs good;
    begins = λ items x xs good. (let is = All-head (λ x. IsFlowText levels (text x) (tree x)) x xs good in record { front = is.front; more = is.more; is = is.is; solid = is.solid });
    goes = λ items x xs good. (All-head (λ x. IsFlowText levels (text x) (tree x)) x xs good).goes;
    reads = item_is row;
  }

  module _ (xs : List X) (all : All (λ x. IsFlowText levels (text x) (tree x)) xs) where
    abbrev inner : List ℕ
    inner = separated (map text xs)

    joined : (rest : List ℕ) → (91 ∷ (inner ++ 93 ∷ [])) ++ rest ≡ 91 ∷ (inner ++ 93 ∷ rest)
    joined rest = ap (λ l. 91 ∷ l) (append_assoc inner (93 ∷ []) rest)

    goes_is : (n : ℕ) (rest : List ℕ) → Goes n n (91 ∷ (inner ++ 93 ∷ [])) rest
    goes_is n rest =
        let each = All-weaker (λ x. IsFlowText levels (text x) (tree x)) (λ x. (rest : List ℕ) → is_end rest ≡ true → Goes (n + 1) (n + 1) (text x) rest) (λ x is rest ends. is.goes (n + 1) rest ends) xs all in
        both_go n (n + 1) n (91 ∷ []) (inner ++ 93 ∷ []) rest (square_opens n ((inner ++ 93 ∷ []) ++ rest))
        (both_go (n + 1) (n + 1) n inner (93 ∷ []) rest (separated_go text n xs (93 ∷ rest) each refl) (square_closes n rest))

    sequence_by : (q : Progress) (row : Row) (at end : ℕ) (items : List Tree) (counts : Result Progress YamlRefusal) (count : Progress)
        → counts ≡ Ok count
        → between (flow_item levels (flow levels) row) row at 93 [] count ≡ Ok ((items, end), q)
        → (counts >>= λ p. between (flow_item levels (flow levels) row) row at 93 [] p >>= λ got. Ok (ending got.0.1 (finished no_properties (Seq got.0.0, got.1)))) ≡ Ok ((Seq items, end), q)
    sequence_by q row at end items counts count fits reads =
        ap (λ r. r >>= λ p. between (flow_item levels (flow levels) row) row at 93 [] p >>= λ got. Ok (ending got.0.1 (finished no_properties (Seq got.0.0, got.1)))) fits
        ∙ ap (λ r. r >>= λ got. Ok (ending got.0.1 (finished no_properties (Seq got.0.0, got.1)))) reads

    reads_is : (p : Progress) (row : Row) (at : ℕ) (rest : List ℕ)
        → drop at row.chars ≡ (91 ∷ (inner ++ 93 ∷ [])) ++ rest
        → p.nodes + node_count (Seq (map tree xs)) ≤ 200000 → p.text + text_size (Seq (map tree xs)) ≤ 16777216
        → Took (flow (suc levels) no_properties p row at) (Seq (map tree xs), at + length (91 ∷ (inner ++ 93 ∷ []))) p (node_count (Seq (map tree xs))) (text_size (Seq (map tree xs)))
    reads_is p row at rest text_here many long =
        let here = text_here ∙ joined rest in
        let behind : drop (at + 1) row.chars ≡ inner ++ 93 ∷ rest = sym (drop-drop 1 at row.chars) ∙ ap (drop 1) here in
        let sizes = seq_sizes (map tree xs) in
        let nodes = total_is node_count tree xs in
        let bytes = total_is text_size tree xs in
        let fits = node_fits (suc levels) p row at 0 (omega arith) (omega (arith, many, sizes.nodes)) (omega (arith, long)) in
        let all_read = collection_is text put (λ x. node_count (tree x)) (λ x. text_size (tree x)) (flow_item levels (flow levels) row) row Good (are_pieces row) at 93 closes xs [] (grown p 1 0) (at + 1) rest all behind
        (omega (arith, many, sizes.nodes, nodes)) (omega (arith, long, sizes.text, bytes)) in
        let len = length-append inner (93 ∷ []) in
        let end : at + 1 + length inner + 1 ≡ at + length (91 ∷ (inner ++ 93 ∷ [])) = omega (arith, len) in
        record {
          after = all_read.after;
          is = cond-true (starts 91 (drop at row.chars)) _ _ (ap (starts 91) here)
              ∙ sequence_by all_read.after row at (at + 1 + length inner + 1) (put_all put [] xs) _ (grown p 1 0) fits all_read.is
              ∙ (λ i. Ok ((Seq (put_are [] xs i), end i), all_read.after));
          nodes_are = omega (arith, all_read.nodes_are, sizes.nodes, nodes);
          text_is = omega (arith, all_read.text_is, sizes.text, bytes);
        }

    -- a flow sequence
    pub sequence_is : IsFlowText (suc levels) (91 ∷ (inner ++ 93 ∷ [])) (Seq (map tree xs))
    sequence_is = record {
      front = 91;
      more = inner ++ 93 ∷ [];
      is = refl;
      solid = record { feed = refl; white = refl; hash = refl; property = refl };
      goes = λ n rest ends. goes_is n rest;
      no_key = λ rest ends. refl;
      reads = λ p row at rest here ends. reads_is p row at rest here;
    }
