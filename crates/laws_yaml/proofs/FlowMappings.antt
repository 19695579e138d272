-- A flow mapping, whose values read as trees and whose keys differ, reads as the mapping of these.
use Rattle.std.proofs.Common.{◌≡◌, ◌∙◌, ℕ, suc, ◌+◌, ◌<◌, ◌≤◌, not, All, Bool, true, false, cond, nat_le, List, [], ◌∷◌, ◌++◌, None, Result, Ok, drop, length, map, refl, sym, ap, subst, append_assoc, append-nil, length-append, arith}
use Rattle.std.proofs.lemmas.Bool.{and_parts, cond-false, lt-leb, not-true, or_parts}
use Rattle.std.proofs.lemmas.List.{drop-drop}
use Rattle.std.proofs.lemmas.List.Elements.{All-cons, All-head, All-nil, All-tail, All-weaker}
use Rattle.std.specs.List.{list_any}
use Rattle.std.specs.Str.{bytes_eq, encode_utf8_all}
use Rattle.tree_base.specs.Entries.{value_at, with_entry}
use Rattle.tree_base.specs.declared.tree.Tree.{Tree}
use Rattle.tree_base.specs.declared.tree.Tree.TheVariants.{Map}
use Rattle.tree_base.specs.Trees.{node_count, text_size}
use Rattle.yaml_flow.specs.declared.piece.Piece.{Piece}
use Rattle.yaml_flow.specs.Flow.{at_stop, between, flow, flow_entry, flow_node, flow_value, nothing_before}
use Rattle.yaml_lines.specs.declared.plain.Context.TheVariants.{Flow}
use Rattle.yaml_lines.specs.declared.refusal.YamlRefusal.{YamlRefusal}
use Rattle.yaml_lines.specs.declared.row.Row.{Row}
use Rattle.yaml_lines.specs.Plain.{is_colon}
use Rattle.yaml_nodes.specs.declared.entries.Entries.{Entries}
use Rattle.yaml_nodes.specs.declared.key.Key.{Key}
use Rattle.yaml_nodes.specs.declared.progress.Progress.{Progress}
use Rattle.yaml_nodes.specs.declared.spot.Spot.TheVariants.{Here}
use Rattle.yaml_nodes.specs.Mappings.{Pairs, key_at, merged, new_key, no_entries}
use Rattle.yaml_nodes.specs.Marks.{before_colon, starts}
use Rattle.yaml_nodes.specs.Progress.{◌>>=◌}
use Rattle.yaml_nodes.specs.Properties.{finished, no_properties}
use Rattle.yaml_nodes.specs.Scalars.{ending}
use Rattle.laws_yaml.proofs.NewKeys.{put_last, still_new}
use Rattle.laws_yaml.proofs.NumberedLines.{All-from_map}
use Rattle.laws_yaml.proofs.OneLine.{counted, grown, node_fits, text_fits}
use Rattle.laws_yaml.proofs.Sizes.{map_sizes}
use Rattle.laws_yaml.proofs.EntryValues.{entries_with}
use Rattle.laws_yaml.specs.Readable.{are_distinct}
use Rattle.laws_yaml.proofs.PageTokens.{key_of}
use Rattle.laws_yaml.proofs.Ends.{is_end}
use Rattle.laws_yaml.proofs.FlowKeys.{key_text}
use Rattle.laws_yaml.proofs.FlowNodes.{node_by, stop_is}
use Rattle.laws_yaml.proofs.FlowSequences.{total_is}
use Rattle.laws_yaml.proofs.FlowTexts.{IsFlowText, IsSolid, behind_text, place_behind_space}
use Rattle.laws_yaml.proofs.Pieces.{ArePieces, Closes, collection_is, put_all, separated_go}
use Rattle.laws_yaml.proofs.ScalarTexts.{first_solid}
use Rattle.laws_yaml.proofs.Taken.{Took}
use Rattle.laws_yaml.proofs.FlowTokens.{Goes, both_go, curly_closes, curly_opens}
use Rattle.laws_yaml.specs.Flows.{pair, separated}

closes : Closes 125
closes = record { cut = refl; comma = refl; same = refl; mark = refl }

-- where none of some passes a test, each fails it
none_any : {X : Type 0} (test : X → Bool) (xs : List X) → list_any test xs ≡ false
    → All (λ x. test x ≡ false) xs
none_any test [] h = All-nil (λ x. test x ≡ false)
none_any test (x ∷ xs) h = let p = or_parts (test x) (list_any test xs) h in All-cons (λ x. test x ≡ false) x xs p.0 (none_any test xs p.1)

second_of_three : {A : Type 0} (a b : Bool) (x second z : A) → a ≡ false → b ≡ true
    → cond a x (cond b second z) ≡ second
second_of_three a b x second z p q = rw (p, q) refl

-- the first of keys that differ, and the others
first_apart : (key : List ℕ) (keys : List (List ℕ)) → are_distinct (key ∷ keys) ≡ true
    → All (λ other. bytes_eq key other ≡ false) keys
first_apart key keys h = none_any (bytes_eq key) keys (not-true (list_any (bytes_eq key) keys) (and_parts (not (list_any (bytes_eq key) keys)) (are_distinct keys) h).0)

others_apart : (key : List ℕ) (keys : List (List ℕ)) → are_distinct (key ∷ keys) ≡ true
    → are_distinct keys ≡ true
others_apart key keys h = (and_parts (not (list_any (bytes_eq key) keys)) (are_distinct keys) h).1

value_by : (levels : ℕ) (row : Row) (piece : Piece) (key behind : ℕ) (p : Progress) (c : ℕ) (cs : List ℕ)
    → drop behind row.chars ≡ 32 ∷ c ∷ cs → IsSolid c → behind + 1 < piece.stop
    → flow_value levels (flow levels) row piece key p behind true ≡ flow levels no_properties p row (behind + 1)
value_by levels row piece key behind p c cs here solid more =
    let start : drop (behind + 1) row.chars ≡ c ∷ cs = sym (drop-drop 1 behind row.chars) ∙ ap (drop 1) here in
    ap (λ r. r >>= λ at. cond (nat_le piece.stop at) (nothing_before levels no_properties p row key at) (flow_node levels (flow levels) true row piece key p at)) (place_behind_space p row behind c cs here solid)
    ∙ cond-false _ _ _ (lt-leb piece.stop (behind + 1) more)
    ∙ node_by levels (flow levels) true row piece key p (behind + 1) c cs start solid more

entry_by : (levels : ℕ) (row : Row) (piece : Piece) (entries : Entries) (p q r : Progress) (at len end : ℕ) (key : Key) (tree : Tree)
    → before_colon Flow (drop at row.chars) ≡ len → key_at Flow p row at ≡ Ok key
    → is_colon (drop (at + len) row.chars) ≡ true → new_key entries p row at key ≡ Ok q
    → flow_value levels (flow levels) row piece at q (at + len + 1) true ≡ Ok ((tree, end), r)
    → key.is_merge ≡ false → at_stop row piece r end ≡ Ok r
    → flow_entry levels (flow levels) row piece (entries, p) at ≡ Ok (record entries { own = with_entry entries.own key.text tree }, r)
entry_by levels row piece entries p q r at len end key tree before reads colon new value plain stops = rw (before, reads, colon, new, value, plain, stops)

new_is : (own : Pairs) (p : Progress) (row : Row) (at len : ℕ) (key : List ℕ)
    → value_at own (encode_utf8_all key) ≡ None → p.text + length (encode_utf8_all key) ≤ 16777216
    → new_key (entries_with own) p row at (key_of key len) ≡ Ok (counted p (length (encode_utf8_all key)))
new_is own p row at len key new fits = rw new (text_fits p row (Here at) (length (encode_utf8_all key)) fits)

module _ {X : Type 0} (levels : ℕ) (key : X → List ℕ) (text : X → List ℕ) (tree : X → Tree) where
  abbrev spelled : X → List ℕ
  spelled x = encode_utf8_all (key x)

  abbrev pair_text : X → List ℕ
  pair_text x = pair (key x, text x)

  abbrev pair_tree : X → List ℕ × Tree
  pair_tree x = (spelled x, tree x)

  -- one more entry
  abbrev put : Entries → X → Entries
  put entries x = record entries { own = entries.own ++ pair_tree x ∷ [] }

  abbrev bytes : X → ℕ
  bytes x = length (spelled x) + text_size (tree x)

  -- the entries may be read behind others: their keys are new, and differ
  record Good (entries : Entries) (xs : List X) : Type 0 where
    unmerged : entries.merge ≡ None
    texts : All (λ x. IsFlowText levels (text x) (tree x)) xs
    new : All (λ x. value_at entries.own (spelled x) ≡ None) xs
    distinct : are_distinct (map spelled xs) ≡ true

  next_is : (entries : Entries) (x : X) (xs : List X) → Good entries (x ∷ xs) → Good (put entries x) xs
  next_is entries x xs good =
      let apart = All-from_map (λ k. bytes_eq (spelled x) k ≡ false) spelled xs (first_apart (spelled x) (map spelled xs) good.distinct) in
      let new = All-tail (λ x. value_at entries.own (spelled x) ≡ None) x xs good.new in
      record {
        unmerged = good.unmerged;
        texts = All-tail (λ x. IsFlowText levels (text x) (tree x)) x xs good.texts;
        new = λ k d lt. still_new entries.own (spelled x) (tree x) _ (apart k d lt) (new k d lt);
        distinct = others_apart (spelled x) (map spelled xs) good.distinct;
      }

  -- the text of a pair, from its first character on
  pair_is : (x : X) → (let k = key_text (key x) in pair_text x ≡ k.front ∷ (k.more ++ 58 ∷ 32 ∷ text x))
  pair_is x = ap (λ s. s ++ 58 ∷ 32 ∷ text x) (key_text (key x)).is

  pair_goes : (x : X) → IsFlowText levels (text x) (tree x) → (n : ℕ) (rest : List ℕ) → is_end rest ≡ true
      → Goes n n (pair_text x) rest
  pair_goes x is n rest ends =
      let k = key_text (key x) in
      subst (λ s. Goes n n s rest) (ap (λ l. k.front ∷ l) (append_assoc k.more (58 ∷ 32 ∷ []) (text x)) ∙ sym (pair_is x))
      (both_go n n n (k.front ∷ (k.more ++ 58 ∷ 32 ∷ [])) (text x) rest (k.goes n (text x ++ rest)) (is.goes n rest ends))

  entries_same : (entries : Entries) → entries.merge ≡ None → entries ≡ entries_with entries.own
  entries_same entries none = λ i. record { own = entries.own; merge = none i }

  entry_is : (row : Row) (entries : Entries) (x : X) (xs : List X) → Good entries (x ∷ xs)
      → (p : Progress) (piece : Piece) (at : ℕ) (rest : List ℕ) → drop at row.chars ≡ pair_text x ++ rest
      → is_end rest ≡ true → piece.stop ≡ at + length (pair_text x)
      → p.nodes + node_count (tree x) ≤ 200000 → p.text + bytes x ≤ 16777216
      → Took (flow_entry levels (flow levels) row piece (entries, p) at) (put entries x) p (node_count (tree x)) (bytes x)
  entry_is row entries x xs good p piece at rest text_here ends stop many long =
      let is = All-head (λ x. IsFlowText levels (text x) (tree x)) x xs good.texts in
      let new = All-head (λ x. value_at entries.own (spelled x) ≡ None) x xs good.new in
      let k = key_text (key x) in
      let behind : List ℕ = text x ++ rest in
      let len : ℕ = suc (length k.more) in
      let here : drop at row.chars ≡ k.front ∷ (k.more ++ 58 ∷ 32 ∷ behind) = text_here ∙ ap (λ s. s ++ rest) (pair_is x) ∙ ap (λ l. k.front ∷ l) (append_assoc k.more (58 ∷ 32 ∷ text x) rest) in
      let at_colon : drop (at + len) row.chars ≡ 58 ∷ 32 ∷ behind = behind_text row at (k.front ∷ k.more) (58 ∷ 32 ∷ behind) here in
      let at_space : drop (at + len + 1) row.chars ≡ 32 ∷ behind = sym (drop-drop 1 (at + len) row.chars) ∙ ap (drop 1) at_colon in
      let at_value : drop (at + len + 1 + 1) row.chars ≡ behind = sym (drop-drop 1 (at + len + 1) row.chars) ∙ ap (drop 1) at_space in
      let begins : 32 ∷ behind ≡ 32 ∷ is.front ∷ (is.more ++ rest) = ap (λ t. 32 ∷ (t ++ rest)) is.is in
      let some = ap length is.is in
      let whole = ap length (pair_is x) in
      let parts = length-append k.more (58 ∷ 32 ∷ text x) in
      let end : piece.stop ≡ at + len + 1 + 1 + length (text x) = omega (arith, stop, whole, parts) in
      let q : Progress = counted p (length (spelled x)) in
      let one = is.reads q row (at + len + 1 + 1) rest at_value ends (omega (arith, many)) (omega (arith, long)) in
      let value = value_by levels row piece at (at + len + 1) q is.front (is.more ++ rest) (at_space ∙ begins) is.solid (omega (arith, end, some)) in
      let same = entries_same entries good.unmerged in
      let stops = stop_is row piece one.after (at + len + 1 + 1 + length (text x)) rest (behind_text row (at + len + 1 + 1) (text x) rest at_value) ends end in
      let read = entry_by levels row piece (entries_with entries.own) p q one.after at len (at + len + 1 + 1 + length (text x)) (key_of (key x) len) (tree x)
      (ap (before_colon Flow) here ∙ k.before behind) (k.reads p row at behind here) (ap is_colon at_colon)
      (new_is entries.own p row at len (key x) new (omega (arith, long))) (value ∙ one.is) refl stops in
      record {
        after = one.after;
        is = ap (λ e. flow_entry levels (flow levels) row piece (e, p) at) same ∙ read
            ∙ ap (λ own. Ok (entries_with own, one.after)) (put_last entries.own (spelled x) (tree x) new)
            ∙ ap (λ e. Ok (put e x, one.after)) (sym same);
        nodes_are = omega (arith, one.nodes_are);
        text_is = omega (arith, one.text_is);
      }

  are_pieces : (row : Row)
      → ArePieces pair_text put (λ x. node_count (tree x)) bytes (flow_entry levels (flow levels) row) row Good
  are_pieces row = record {
    next = next_is;
    begins = λ entries x xs good. (let k = key_text (key x) in record { front = k.front; more = k.more ++ 58 ∷ 32 ∷ text x; is = pair_is x; solid = first_solid k.front k.first });
    goes = λ entries x xs good. pair_goes x (All-head (λ x. IsFlowText levels (text x) (tree x)) x xs good.texts);
    reads = entry_is row;
  }

  put_are : (entries : Entries) (xs : List X)
      → put_all put entries xs ≡ record entries { own = entries.own ++ map pair_tree xs }
  put_are entries [] = ap (λ own. record entries { own = own }) (sym (append-nil entries.own))
  put_are entries (x ∷ xs) = put_are (put entries x) xs ∙ ap (λ own. record entries { own = own }) (append_assoc entries.own (pair_tree x ∷ []) (map pair_tree xs))

  module _ (xs : List X) (all : All (λ x. IsFlowText levels (text x) (tree x)) xs) (distinct : are_distinct (map spelled xs) ≡ true) where
    abbrev inner : List ℕ
    inner = separated (map pair_text xs)

    goes_is : (n : ℕ) (rest : List ℕ) → Goes n n (123 ∷ (inner ++ 125 ∷ [])) rest
    goes_is n rest =
        let each = All-weaker (λ x. IsFlowText levels (text x) (tree x)) (λ x. (rest : List ℕ) → is_end rest ≡ true → Goes (n + 1) (n + 1) (pair_text x) rest) (λ x is rest ends. pair_goes x is (n + 1) rest ends) xs all in
        both_go n (n + 1) n (123 ∷ []) (inner ++ 125 ∷ []) rest (curly_opens n ((inner ++ 125 ∷ []) ++ rest))
        (both_go (n + 1) (n + 1) n inner (125 ∷ []) rest (separated_go pair_text n xs (125 ∷ rest) each refl) (curly_closes n rest))

    mapping_by : (q : Progress) (row : Row) (at end : ℕ) (entries : Entries) (pairs : Pairs) (counts : Result Progress YamlRefusal) (count : Progress)
        → counts ≡ Ok count
        → between (flow_entry levels (flow levels) row) row at 125 no_entries count ≡ Ok ((entries, end), q)
        → entries ≡ entries_with pairs
        → (counts >>= λ p. between (flow_entry levels (flow levels) row) row at 125 no_entries p >>= λ got. merged got.1 row got.0.0 >>= λ map. Ok (ending got.0.1 (finished no_properties map))) ≡ Ok ((Map pairs, end), q)
    mapping_by q row at end entries pairs counts count fits reads are =
        ap (λ r. r >>= λ p. between (flow_entry levels (flow levels) row) row at 125 no_entries p >>= λ got. merged got.1 row got.0.0 >>= λ map. Ok (ending got.0.1 (finished no_properties map))) fits
        ∙ ap (λ r. r >>= λ got. merged got.1 row got.0.0 >>= λ map. Ok (ending got.0.1 (finished no_properties map))) reads
        ∙ ap (λ e. merged q row e >>= λ map. Ok (ending end (finished no_properties map))) are

    reads_is : (p : Progress) (row : Row) (at : ℕ) (rest : List ℕ)
        → drop at row.chars ≡ (123 ∷ (inner ++ 125 ∷ [])) ++ rest
        → p.nodes + node_count (Map (map pair_tree xs)) ≤ 200000
        → p.text + text_size (Map (map pair_tree xs)) ≤ 16777216
        → Took (flow (suc levels) no_properties p row at) (Map (map pair_tree xs), at + length (123 ∷ (inner ++ 125 ∷ []))) p (node_count (Map (map pair_tree xs))) (text_size (Map (map pair_tree xs)))
    reads_is p row at rest text_here many long =
        let here : drop at row.chars ≡ 123 ∷ (inner ++ 125 ∷ rest) = text_here ∙ ap (λ l. 123 ∷ l) (append_assoc inner (125 ∷ []) rest) in
        let behind : drop (at + 1) row.chars ≡ inner ++ 125 ∷ rest = sym (drop-drop 1 at row.chars) ∙ ap (drop 1) here in
        let sizes = map_sizes (map pair_tree xs) in
        let nodes = total_is (λ (e : List ℕ × Tree). node_count e.1) pair_tree xs in
        let long_is = total_is (λ (e : List ℕ × Tree). length e.0 + text_size e.1) pair_tree xs in
        let fits = node_fits (suc levels) p row at 0 (omega arith) (omega (arith, many, sizes.nodes)) (omega (arith, long)) in
        let good : Good no_entries xs = record { unmerged = refl; texts = all; new = λ k d lt. refl; distinct = distinct } in
        let all_read = collection_is pair_text put (λ x. node_count (tree x)) bytes (flow_entry levels (flow levels) row) row Good (are_pieces row) at 125 closes xs no_entries (grown p 1 0) (at + 1) rest good behind
        (omega (arith, many, sizes.nodes, nodes)) (omega (arith, long, sizes.text, long_is)) in
        let len = length-append inner (125 ∷ []) in
        let end : at + 1 + length inner + 1 ≡ at + length (123 ∷ (inner ++ 125 ∷ [])) = omega (arith, len) in
        record {
          after = all_read.after;
          is = second_of_three (starts 91 (drop at row.chars)) (starts 123 (drop at row.chars)) _ _ _ (ap (starts 91) here) (ap (starts 123) here)
              ∙ mapping_by all_read.after row at (at + 1 + length inner + 1) (put_all put no_entries xs) (map pair_tree xs) _ (grown p 1 0) fits all_read.is (put_are no_entries xs)
              ∙ ap (λ n. Ok ((Map (map pair_tree xs), n), all_read.after)) end;
          nodes_are = omega (arith, all_read.nodes_are, sizes.nodes, nodes);
          text_is = omega (arith, all_read.text_is, sizes.text, long_is);
        }

    -- a flow mapping
    pub mapping_is : IsFlowText (suc levels) (123 ∷ (inner ++ 125 ∷ [])) (Map (map pair_tree xs))
    mapping_is = record {
      front = 123;
      more = inner ++ 125 ∷ [];
      is = refl;
      solid = record { feed = refl; white = refl; hash = refl; property = refl };
      goes = λ n rest ends. goes_is n rest;
      no_key = λ rest ends. refl;
      reads = λ p row at rest here ends. reads_is p row at rest here;
    }
