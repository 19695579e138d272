-- Flow collections are read alike in rows without their numbers.
use Rattle.std.proofs.Common.{◌≡◌, ℕ, zero, suc, ◌+◌, ◌==◌, ◌||◌, ◌&&◌, List, [], ◌∷◌, Bool, true, false, eqb, nat_le, length, refl, ap, subst}
use Rattle.yaml_groups.specs.Cuts.{cuts}
use Rattle.tree_base.specs.declared.tree.Tree.{Tree}
use Rattle.tree_base.specs.declared.tree.Tree.TheVariants.{Seq}
use Rattle.yaml_flow.specs.declared.piece.Piece.{Piece}
use Rattle.yaml_flow.specs.Flow.{FlowReader, PieceReader, at_stop, between, flow, flow_entry, flow_item, flow_mapping, flow_node, flow_properties, flow_sequence, flow_value, flow_with, no_level, nothing_before, pieces, read_piece}
use Rattle.yaml_flow.specs.Gaps.{next_place, past_gap}
use Rattle.yaml_lines.specs.Blanks.{is_white, spaces}
use Rattle.yaml_lines.specs.declared.plain.Context.TheVariants.{Flow}
use Rattle.yaml_lines.specs.declared.refusal.YamlFault.TheVariants.{BadFlow, Unsupported}
use Rattle.yaml_lines.specs.declared.refusal.YamlRefusal.TheVariants.{TooDeep}
use Rattle.yaml_lines.specs.declared.row.Row.{Row}
use Rattle.yaml_lines.specs.Rows.{text_at}
use Rattle.yaml_nodes.specs.declared.entries.Entries.{Entries}
use Rattle.yaml_nodes.specs.declared.progress.Progress.{Progress}
use Rattle.yaml_nodes.specs.declared.properties.Properties.{Properties}
use Rattle.yaml_nodes.specs.declared.spot.Spot.TheVariants.{Here}
use Rattle.yaml_nodes.specs.Mappings.{no_entries}
use Rattle.yaml_nodes.specs.Marks.{is_key_behind, is_left_out, is_property, starts}
use Rattle.yaml_nodes.specs.Properties.{no_properties}
use Rattle.yaml_nodes.specs.Scalars.{ending}
use Rattle.laws_yaml.proofs.Alike.{Alike, Same, beside, chained, either, gives, refuses, followed, followed_beside}
use Rattle.laws_yaml.proofs.LineMappings.{bare_entries, key_same, merged_same, new_key_same, with_pair_same}
use Rattle.laws_yaml.proofs.LineNodes.{nothing_same, word_same}
use Rattle.laws_yaml.proofs.Places.{bad_same, bare, one_same, place_same}
use Rattle.laws_yaml.proofs.Properties.{bare_found, finished_same, properties_same, unspelled_same}

past_gap_same : (p : Progress) (row : Row) (at : ℕ) (comment white : Bool) (cs : List ℕ) → Same (past_gap p row at comment white cs) (past_gap p (bare row) at comment white cs)
past_gap_same p row at comment white [] = gives refl
past_gap_same p row at comment white (c ∷ cs) =
    either (eqb c 10) (either (is_left_out cs) (bad_same Unsupported p row (at + 1 + spaces cs)) (past_gap_same p row (at + 1) false true cs))
    (either (comment || is_white c) (past_gap_same p row (at + 1) comment true cs)
    (either (eqb c 35 && white) (past_gap_same p row (at + 1) true true cs) (gives refl)))

next_same : (p : Progress) (row : Row) (white : Bool) (at : ℕ) → Same (next_place p row white at) (next_place p (bare row) white at)
next_same p row white at = past_gap_same p row at false white (text_at row at)

-- properties on several lines
flow_properties_same : (runs : ℕ) (may_be_marked : Bool) (p : Progress) (row : Row) (f g : Properties) (at : ℕ) → bare_found f ≡ bare_found g
    → Alike (beside bare_found) (flow_properties runs may_be_marked p row f at) (flow_properties runs may_be_marked p (bare row) g at)
flow_properties_same zero may_be_marked p row f g at h = gives (λ i. (h i, at))
flow_properties_same (suc runs) may_be_marked p row f g at h =
    either (is_property (text_at row at))
    (chained (properties_same may_be_marked p row at f g 0 (text_at row at) h)
    (λ x y k. followed (next_same p row true _) (λ at. flow_properties_same runs may_be_marked p row x y at k)))
    (gives (λ i. (h i, at)))

-- what two readers read is alike, without the numbers of rows
abbrev pub AlikeFlows : FlowReader → Type 0
AlikeFlows read = (f g : Properties) (p : Progress) (row : Row) (at : ℕ) → bare_found f ≡ bare_found g → Same (read f p row at) (read g p (bare row) at)

-- what a reader of pieces reads is alike
abbrev AlikePieces : {A B : Type 0} → (A → B) → PieceReader A → PieceReader A → Type 0
AlikePieces {A = A} keep read read' = (piece : Piece) (x y : A) (p : Progress) (at : ℕ) → keep x ≡ keep y → Alike (beside keep) (read piece (x, p) at) (read' piece (y, p) at)

module _ {A B : Type 0} (keep : A → B) (read read' : PieceReader A) (row : Row) (same : AlikePieces keep read read') where
  read_piece_same : (piece : Piece) (is_last : Bool) (x y : A) (p : Progress) (start : ℕ) → keep x ≡ keep y
      → Alike (beside keep) (read_piece read row piece is_last (x, p) start) (read_piece read' (bare row) piece is_last (y, p) start)
  read_piece_same piece is_last x y p start h =
      followed (next_same p row false start)
      (λ at. either (nat_le piece.stop at) (either is_last (gives (λ i. (h i, p))) (bad_same BadFlow p row piece.bracket)) (same piece x y p at h))

  pieces_same : (bracket close : ℕ) (x y : A) (p : Progress) (start : ℕ) (stops : List ℕ) → keep x ≡ keep y
      → Alike (beside (beside keep)) (pieces read row bracket close (x, p) start stops) (pieces read' (bare row) bracket close (y, p) start stops)
  pieces_same bracket close x y p start [] h =
      followed_beside keep _ _ (read_piece_same (record { bracket = bracket; stop = length row.chars }) true x y p start h) (λ a b q k. bad_same BadFlow q row bracket)
  pieces_same bracket close x y p start (stop ∷ stops) h =
      either (starts 44 (text_at row stop))
      (followed_beside keep _ _ (read_piece_same (record { bracket = bracket; stop = stop }) false x y p start h) (λ a b q k. pieces_same bracket close a b q (stop + 1) stops k))
      (followed_beside keep _ _ (read_piece_same (record { bracket = bracket; stop = stop }) true x y p start h)
      (λ a b q k. either (starts close (text_at row stop)) (gives (λ i. ((k i, stop + 1), q))) (bad_same BadFlow q row bracket)))

  between_same : (bracket close : ℕ) (x y : A) (p : Progress) → keep x ≡ keep y
      → Alike (beside (beside keep)) (between read row bracket close x p) (between read' (bare row) bracket close y p)
  between_same bracket close x y p h = pieces_same bracket close x y p (bracket + 1) (cuts (bracket + 1) 0 0 false (text_at row (bracket + 1))) h

at_stop_same : (row : Row) (piece : Piece) (p : Progress) (end : ℕ) → Same (at_stop row piece p end) (at_stop (bare row) piece p end)
at_stop_same row piece p end = followed (next_same p row false end) (λ at. either (at == piece.stop) (gives refl) (bad_same BadFlow p row piece.bracket))

nothing_before_same : (levels : ℕ) (f g : Properties) (p : Progress) (row : Row) (owner end : ℕ) → bare_found f ≡ bare_found g → Same (nothing_before levels f p row owner end) (nothing_before levels g p (bare row) owner end)
nothing_before_same levels f g p row owner end h = followed (nothing_same f g h levels p row owner) (λ got. gives refl)

module _ (levels : ℕ) (read : FlowReader) (same : AlikeFlows read) (row : Row) where
  flow_node_same : (may_be_marked : Bool) (piece : Piece) (owner : ℕ) (p : Progress) (at : ℕ) → Same (flow_node levels read may_be_marked row piece owner p at) (flow_node levels read may_be_marked (bare row) piece owner p at)
  flow_node_same may_be_marked piece owner p at =
      followed_beside bare_found _ _ (flow_properties_same 3 may_be_marked p row no_properties no_properties at refl)
      (λ f g at h. either (nat_le piece.stop at) (nothing_before_same levels f g p row owner at h) (same f g p row at h))

  flow_item_same : AlikePieces (λ (x : List Tree). x) (flow_item levels read row) (flow_item levels read (bare row))
  flow_item_same piece x y p at h =
      let P : List Tree → Type 0 = λ z. Same (flow_item levels read row piece (x, p) at) (flow_item levels read (bare row) piece (z, p) at) in
      subst P h
      (either (is_key_behind Flow (text_at row at)) (followed (one_same levels p row at 0) (λ q. bad_same _ q row at))
      (followed (flow_node_same false piece at p at) (λ got. followed (at_stop_same row piece got.1 got.0.1) (λ q. gives refl))))

  flow_value_same : (piece : Piece) (key : ℕ) (p : Progress) (behind : ℕ) (has_colon : Bool) → Same (flow_value levels read row piece key p behind has_colon) (flow_value levels read (bare row) piece key p behind has_colon)
  flow_value_same piece key p behind has_colon =
      either has_colon
      (followed (next_same p row false behind) (λ at. either (nat_le piece.stop at) (nothing_before_same levels no_properties no_properties p row key at refl) (flow_node_same true piece key p at)))
      (nothing_before_same levels no_properties no_properties p row key behind refl)

  flow_entry_same : AlikePieces bare_entries (flow_entry levels read row) (flow_entry levels read (bare row))
  flow_entry_same piece x y p at h =
      followed (key_same Flow p row at)
      (λ key. followed (new_key_same x y h p row at key)
      (λ q. followed (flow_value_same piece at q _ _)
      (λ got. chained (with_pair_same x y h got.1 row (Here at) (Here at) key got.0.0 refl)
      (λ a b k. followed (at_stop_same row piece got.1 got.0.1) (λ q. gives (λ i. (k i, q)))))))

module _ (levels under : ℕ) (read : FlowReader) (same : AlikeFlows read) where
  flow_sequence_same : AlikeFlows (flow_sequence levels under read)
  flow_sequence_same f g p row at h =
      followed (one_same levels p row at 0)
      (λ q. followed (between_same (λ (x : List Tree). x) (flow_item under read row) (flow_item under read (bare row)) row (flow_item_same under read same row) at 93 [] [] q refl)
      (λ got. gives (ap (ending got.0.1) (finished_same f g h (Seq got.0.0, got.1)))))

  flow_mapping_same : AlikeFlows (flow_mapping levels under read)
  flow_mapping_same f g p row at h =
      followed (one_same levels p row at 0)
      (λ q. followed_beside (beside bare_entries) _ _ (between_same bare_entries (flow_entry under read row) (flow_entry under read (bare row)) row (flow_entry_same under read same row) at 125 no_entries no_entries q refl)
      (λ a b q k. followed (merged_same a.0 b.0 (ap (λ (d : Entries × ℕ). d.0) k) q row)
      (λ map. gives (λ i. ending (ap (λ (d : Entries × ℕ). d.1) k i) (finished_same f g h map i)))))

  flow_with_same : AlikeFlows (flow_with levels under read)
  flow_with_same f g p row at h =
      let cs = text_at row at in
      either (starts 91 cs) (chained (unspelled_same p row f g h) (λ x y k. flow_sequence_same x y p row at k))
      (either (starts 123 cs) (chained (unspelled_same p row f g h) (λ x y k. flow_mapping_same x y p row at k)) (word_same f g h Flow levels p row at))

-- a node in a flow collection
pub flow_same : (levels : ℕ) → AlikeFlows (flow levels)
flow_same zero = flow_with_same 0 0 no_level (λ f g p row at h. refuses (ap (λ place. TooDeep place) (place_same p.file row at)))
flow_same (suc levels) = flow_with_same (suc levels) levels (flow levels) (flow_same levels)
