-- `{}` and `[]`, which a page has for a mapping and a sequence without parts: no later line belongs to them, and nothing more is read in them.
use Rattle.std.proofs.Common.{◌≡◌, ◌∙◌, ℕ, suc, ◌+◌, ◌-◌, ◌<◌, ◌≤◌, true, false, List, [], ◌∷◌, ◌++◌, Ok, drop, length, refl, sym, ap, length-drop, arith}
use Rattle.std.proofs.lemmas.Bool.{cond-true, le-leb}
use Rattle.std.proofs.lemmas.List.{drop-append-le, drop-drop}
use Rattle.yaml_groups.specs.Cuts.{cuts}
use Rattle.yaml_groups.specs.Grouped.{begins_flow, belonging, flow_lines, joined_chars}
use Rattle.tree_base.specs.declared.tree.Tree.TheVariants.{Map, Seq}
use Rattle.yaml_flow.specs.Flow.{PieceReader, between, flow, flow_entry, flow_item, flow_mapping, flow_sequence, pieces, read_piece}
use Rattle.yaml_flow.specs.Gaps.{next_place, past_gap}
use Rattle.yaml_lines.specs.declared.row.Row.{Row}
use Rattle.yaml_nodes.specs.declared.progress.Progress.{Progress}
use Rattle.yaml_nodes.specs.Mappings.{no_entries}
use Rattle.yaml_nodes.specs.Marks.{starts}
use Rattle.yaml_nodes.specs.Progress.{one_node}
use Rattle.yaml_nodes.specs.Properties.{no_properties}
use Rattle.laws_yaml.proofs.OneLine.{grown, node_fits}

-- a bracket that closes a collection: it is cut there, and nothing stands before it
record IsClosing (close : ℕ) : Type 0 where
  cut : (n : ℕ) → cuts n 0 0 false (close ∷ []) ≡ n ∷ []
  gap : (p : Progress) (row : Row) (n : ℕ) → past_gap p row n false false (close ∷ []) ≡ Ok n
  comma : starts 44 (close ∷ []) ≡ false
  closes : starts close (close ∷ []) ≡ true

brace : IsClosing 125
brace = record { cut = λ n. refl; gap = λ p row n. refl; comma = refl; closes = refl }

bracket : IsClosing 93
bracket = record { cut = λ n. refl; gap = λ p row n. refl; comma = refl; closes = refl }

-- the characters from the closing bracket on, with those of the rows that follow
joined_from : (at opening close : ℕ) (chars : List ℕ) (rows : List Row) → drop at chars ≡ opening ∷ close ∷ [] → (tail : List ℕ) × (drop (at + 1) (joined_chars chars rows) ≡ close ∷ tail)
joined_from at opening close chars [] here = ([], sym (drop-drop 1 at chars) ∙ ap (drop 1) here)
joined_from at opening close chars (row ∷ rows) here =
    let two : length chars - at ≡ 2 = sym (length-drop at chars) ∙ ap length here in
    let more : List ℕ = 10 ∷ joined_chars row.chars rows in
    (more, drop-append-le (at + 1) chars more (omega (arith, two)) ∙ ap (λ l. l ++ more) (sym (drop-drop 1 at chars) ∙ ap (drop 1) here))

lone_by : (opening close : ℕ) → begins_flow (opening ∷ close ∷ []) ≡ true → ((tail : List ℕ) (n : ℕ) → flow_lines (close ∷ tail) n ≡ 0)
    → (owner at : ℕ) (row : Row) (rows : List Row) → drop at row.chars ≡ opening ∷ close ∷ [] → belonging (owner, at) row rows ≡ 0
lone_by opening close opens closed owner at row rows here =
    let behind = joined_from at opening close row.chars rows here in
    let flat : begins_flow (drop at row.chars) ≡ true = ap begins_flow here ∙ opens in
    cond-true _ _ _ flat ∙ ap (λ l. flow_lines l (length rows)) behind.1 ∙ closed behind.0 (length rows)

-- no later line belongs to a line that ends with one of them
pub lone_map : (owner at : ℕ) (row : Row) (rows : List Row) → drop at row.chars ≡ 123 ∷ 125 ∷ [] → belonging (owner, at) row rows ≡ 0
lone_map = lone_by 123 125 refl (λ tail n. refl)

pub lone_seq : (owner at : ℕ) (row : Row) (rows : List Row) → drop at row.chars ≡ 91 ∷ 93 ∷ [] → belonging (owner, at) row rows ≡ 0
lone_seq = lone_by 91 93 refl (λ tail n. refl)

module _ {A : Type 0} (read : PieceReader A) (row : Row) (at close : ℕ) (none : A) (p : Progress) (is : IsClosing close) (behind : drop (at + 1) row.chars ≡ close ∷ []) where
  piece_by : next_place p row false (at + 1) ≡ Ok (at + 1) → read_piece read row (record { bracket = at; stop = at + 1 }) true (none, p) (at + 1) ≡ Ok (none, p)
  piece_by next = rw (next, le-leb (at + 1) (at + 1) (omega arith))

  pieces_by : starts 44 (drop (at + 1) row.chars) ≡ false → starts close (drop (at + 1) row.chars) ≡ true
      → read_piece read row (record { bracket = at; stop = at + 1 }) true (none, p) (at + 1) ≡ Ok (none, p)
      → pieces read row at close (none, p) (at + 1) ((at + 1) ∷ []) ≡ Ok ((none, at + 1 + 1), p)
  pieces_by comma closes reads = rw (comma, reads, closes)

  -- nothing stands between the brackets
  between_is : between read row at close none p ≡ Ok ((none, at + 1 + 1), p)
  between_is =
      ap (λ l. pieces read row at close (none, p) (at + 1) (cuts (at + 1) 0 0 false l)) behind
      ∙ ap (pieces read row at close (none, p) (at + 1)) (is.cut (at + 1))
      ∙ pieces_by (ap (starts 44) behind ∙ is.comma) (ap (starts close) behind ∙ is.closes) (piece_by (ap (past_gap p row (at + 1) false false) behind ∙ is.gap p row (at + 1)))

mapping_by : (levels : ℕ) (p q : Progress) (row : Row) (at end : ℕ) → one_node (suc levels) p row at 0 ≡ Ok q → between (flow_entry levels (flow levels) row) row at 125 no_entries q ≡ Ok ((no_entries, end), q)
    → flow_mapping (suc levels) levels (flow levels) no_properties p row at ≡ Ok ((Map [], end), q)
mapping_by levels p q row at end counts reads = rw (counts, reads)

sequence_by : (levels : ℕ) (p q : Progress) (row : Row) (at end : ℕ) → one_node (suc levels) p row at 0 ≡ Ok q → between (flow_item levels (flow levels) row) row at 93 [] q ≡ Ok (([], end), q)
    → flow_sequence (suc levels) levels (flow levels) no_properties p row at ≡ Ok ((Seq [], end), q)
sequence_by levels p q row at end counts reads = rw (counts, reads)

flow_map : (levels : ℕ) (p : Progress) (row : Row) (at : ℕ) → starts 91 (drop at row.chars) ≡ false → starts 123 (drop at row.chars) ≡ true
    → flow (suc levels) no_properties p row at ≡ flow_mapping (suc levels) levels (flow levels) no_properties p row at
flow_map levels p row at unlike opens = rw (unlike, opens) refl

flow_seq : (levels : ℕ) (p : Progress) (row : Row) (at : ℕ) → starts 91 (drop at row.chars) ≡ true → flow (suc levels) no_properties p row at ≡ flow_sequence (suc levels) levels (flow levels) no_properties p row at
flow_seq levels p row at opens = rw opens refl

behind_open : (at opening close : ℕ) (chars : List ℕ) → drop at chars ≡ opening ∷ close ∷ [] → drop (at + 1) chars ≡ close ∷ []
behind_open at opening close chars here = sym (drop-drop 1 at chars) ∙ ap (drop 1) here

module _ (levels : ℕ) (p : Progress) (row : Row) (at : ℕ) (room : p.nodes < 200000) (fits : p.text ≤ 16777216) where
  counts : one_node (suc levels) p row at 0 ≡ Ok (grown p 1 0)
  counts = node_fits (suc levels) p row at 0 (omega arith) room (omega (arith, fits))

  -- `{}` is the mapping without entries
  pub empty_map : drop at row.chars ≡ 123 ∷ 125 ∷ [] → flow (suc levels) no_properties p row at ≡ Ok ((Map [], at + 1 + 1), grown p 1 0)
  empty_map here =
      flow_map levels p row at (ap (starts 91) here) (ap (starts 123) here)
      ∙ mapping_by levels p (grown p 1 0) row at (at + 1 + 1) counts (between_is (flow_entry levels (flow levels) row) row at 125 no_entries (grown p 1 0) brace (behind_open at 123 125 row.chars here))

  -- `[]` is the sequence without items
  pub empty_seq : drop at row.chars ≡ 91 ∷ 93 ∷ [] → flow (suc levels) no_properties p row at ≡ Ok ((Seq [], at + 1 + 1), grown p 1 0)
  empty_seq here =
      flow_seq levels p row at (ap (starts 91) here)
      ∙ sequence_by levels p (grown p 1 0) row at (at + 1 + 1) counts (between_is (flow_item levels (flow levels) row) row at 93 [] (grown p 1 0) bracket (behind_open at 91 93 row.chars here))
