-- Flow collections: one row of all their lines, cut at their own commas (YAML 1.2, chapter 7.4).
use Rattle.std.specs.Prelude.{ℕ, zero, suc, ◌+◌, List, [], ◌∷◌, ◌++◌, Bool, true, false, Result, Ok, Err, length, nat_le, ◌==◌, if◌then◌else◌}
use Rattle.yaml_groups.specs.Cuts.{cuts}
use Rattle.tree_base.specs.declared.tree.Tree.{Tree}
use Rattle.tree_base.specs.declared.tree.Tree.TheVariants.{Seq}
use Rattle.yaml_flow.specs.declared.piece.Piece.{Piece}
use Rattle.yaml_flow.specs.Gaps.{next_place}
use Rattle.yaml_lines.specs.declared.plain.Context.TheVariants.{Flow}
use Rattle.yaml_lines.specs.declared.refusal.YamlFault.TheVariants.{BadFlow, Unsupported}
use Rattle.yaml_lines.specs.declared.refusal.YamlRefusal.{YamlRefusal}
use Rattle.yaml_lines.specs.declared.refusal.YamlRefusal.TheVariants.{TooDeep}
use Rattle.yaml_lines.specs.declared.row.Row.{Row}
use Rattle.yaml_lines.specs.Rows.{place_in, text_at}
use Rattle.yaml_nodes.specs.declared.entries.Entries.{Entries}
use Rattle.yaml_nodes.specs.declared.progress.Progress.{Progress}
use Rattle.yaml_nodes.specs.declared.properties.Properties.{Properties}
use Rattle.yaml_nodes.specs.declared.spot.Spot.TheVariants.{Here}
use Rattle.yaml_nodes.specs.Mappings.{key_at, merged, new_key, no_entries, with_pair}
use Rattle.yaml_nodes.specs.Marks.{before_colon, is_colon_of, is_key_behind, is_property, properties_len, starts}
use Rattle.yaml_nodes.specs.Progress.{◌>>=◌, bad, one_node}
use Rattle.yaml_nodes.specs.Properties.{fault_of_key, finished, no_properties, properties_from, unspelled}
use Rattle.yaml_nodes.specs.Scalars.{Inline, ending, nothing, word}

-- the properties of a node, beside those before them, and the place behind them. They may stand on several lines: three runs of them are one too many in any case
abbrev pub flow_properties : ℕ → Bool → Progress → Row → Properties → ℕ → Result (Properties × ℕ) YamlRefusal
flow_properties zero may_be_marked p row found at = Ok (found, at)
flow_properties (suc runs) may_be_marked p row found at =
    if is_property (text_at row at)
    then (properties_from may_be_marked p row at found 0 (text_at row at) >>= λ found.
    next_place p row true (at + properties_len 0 (text_at row at)) >>= λ at. flow_properties runs may_be_marked p row found at)
    else Ok (found, at)

-- a reader of the node with properties that begins at a place
abbrev pub FlowReader : Type 0
FlowReader = Properties → Progress → Row → ℕ → Result Inline YamlRefusal

-- behind a node that ends before a place nothing stands before its piece ends
abbrev pub at_stop : Row → Piece → Progress → ℕ → Result Progress YamlRefusal
at_stop row piece p end = next_place p row false end >>= λ at. if at == piece.stop then Ok p else bad BadFlow p row piece.bracket

-- nothing stands before a place, at which its piece ends
abbrev pub nothing_before : ℕ → Properties → Progress → Row → ℕ → ℕ → Result Inline YamlRefusal
nothing_before levels found p row owner end = nothing levels found p row owner >>= λ got. Ok (ending end got)

-- the node of a piece, which begins at a place; where only properties stand, nothing, whose place is that of its key or of itself
abbrev pub flow_node : ℕ → FlowReader → Bool → Row → Piece → ℕ → Progress → ℕ → Result Inline YamlRefusal
flow_node levels read may_be_marked row piece owner p at =
    flow_properties 3 may_be_marked p row no_properties at >>= λ found.
    if nat_le piece.stop found.1 then nothing_before levels found.0 p row owner found.1 else read found.0 p row found.1

-- an item, which is no pair: that would be a node of its own, which is counted before it is refused at its key
abbrev pub flow_item : ℕ → FlowReader → Row → Piece → List Tree × Progress → ℕ → Result (List Tree × Progress) YamlRefusal
flow_item levels read row piece (items, p) at =
    if is_key_behind Flow (text_at row at)
    then (one_node levels p row at 0 >>= λ p. bad (if is_property (text_at row at) then fault_of_key (text_at row at) else Unsupported) p row at)
    else (flow_node levels read false row piece at p at >>= λ got.
    at_stop row piece got.1 got.0.1 >>= λ p. Ok (items ++ got.0.0 ∷ [], p))

-- the value of a key, from behind its colon or itself on: null where no colon stands on the key's line, or nothing between it and the piece's end
abbrev pub flow_value : ℕ → FlowReader → Row → Piece → ℕ → Progress → ℕ → Bool → Result Inline YamlRefusal
flow_value levels read row piece key p behind has_colon =
    if has_colon
    then (next_place p row false behind >>= λ at.
    if nat_le piece.stop at then nothing_before levels no_properties p row key at else flow_node levels read true row piece key p at)
    else nothing_before levels no_properties p row key behind

-- an entry: a key, and its value behind a colon on the key's line, with which a merge key is asked, and nothing behind that
abbrev pub flow_entry : ℕ → FlowReader → Row → Piece → Entries × Progress → ℕ → Result (Entries × Progress) YamlRefusal
flow_entry levels read row piece (entries, p) at =
    let cs = text_at row at in
    let colon = at + before_colon Flow cs in
    let has_colon = is_colon_of Flow cs (text_at row colon) in
    key_at Flow p row at >>= λ key.
    new_key entries p row at key >>= λ p.
    flow_value levels read row piece at p (if has_colon then colon + 1 else at + key.len) has_colon >>= λ got.
    with_pair entries got.1 row (Here at) key got.0.0 >>= λ entries.
    at_stop row piece got.1 got.0.1 >>= λ p. Ok (entries, p)

-- a reader of one piece of a collection, from a place on, beside what was read before
abbrev pub PieceReader : Type 0 → Type 0
PieceReader A = Piece → A × Progress → ℕ → Result (A × Progress) YamlRefusal

-- a piece from a place on; an empty one may only be the last
abbrev pub read_piece : {A : Type 0} → PieceReader A → Row → Piece → Bool → A × Progress → ℕ → Result (A × Progress) YamlRefusal
read_piece read row piece is_last done start =
    next_place done.1 row false start >>= λ at.
    if nat_le piece.stop at then (if is_last then Ok done else bad BadFlow done.1 row piece.bracket) else read piece done at

-- the pieces of a collection and the place behind it: each ends with a comma, and the last with the bracket that closes it; where the text ends before that, the collection is refused behind its items
abbrev pub pieces : {A : Type 0} → PieceReader A → Row → ℕ → ℕ → A × Progress → ℕ → List ℕ → Result ((A × ℕ) × Progress) YamlRefusal
pieces read row bracket close done start [] =
    read_piece read row (record { bracket = bracket; stop = length row.chars }) true done start >>= λ done. bad BadFlow done.1 row bracket
pieces read row bracket close done start (stop ∷ stops) =
    if starts 44 (text_at row stop)
    then (read_piece read row (record { bracket = bracket; stop = stop }) false done start >>= λ done. pieces read row bracket close done (stop + 1) stops)
    else (read_piece read row (record { bracket = bracket; stop = stop }) true done start >>= λ done.
    if starts close (text_at row stop) then Ok ((done.0, stop + 1), done.1) else bad BadFlow done.1 row bracket)

-- what stands between the brackets of a collection that opens at a place
abbrev pub between : {A : Type 0} → PieceReader A → Row → ℕ → ℕ → A → Progress → Result ((A × ℕ) × Progress) YamlRefusal
between read row bracket close none p =
    pieces read row bracket close (none, p) (bracket + 1) (cuts (bracket + 1) 0 0 false (text_at row (bracket + 1)))

-- a flow sequence, whose items have so many levels left
abbrev pub flow_sequence : ℕ → ℕ → FlowReader → FlowReader
flow_sequence levels below read found p row at =
    one_node levels p row at 0 >>= λ p.
    between (flow_item below read row) row at 93 [] p >>= λ got. Ok (ending got.0.1 (finished found (Seq got.0.0, got.1)))

-- a flow mapping, whose values have so many levels left
abbrev pub flow_mapping : ℕ → ℕ → FlowReader → FlowReader
flow_mapping levels below read found p row at =
    one_node levels p row at 0 >>= λ p.
    between (flow_entry below read row) row at 125 no_entries p >>= λ got.
    merged got.1 row got.0.0 >>= λ map. Ok (ending got.0.1 (finished found map))

-- a node in a flow collection: `!!str` stands on no collection
abbrev pub flow_with : ℕ → ℕ → FlowReader → FlowReader
flow_with levels below read found p row at =
    let cs = text_at row at in
    if starts 91 cs then (unspelled p row found >>= λ found. flow_sequence levels below read found p row at)
    else (if starts 123 cs then (unspelled p row found >>= λ found. flow_mapping levels below read found p row at)
    else word Flow levels found p row at)

-- no node may stand where no level is left
abbrev pub no_level : FlowReader
no_level found p row at = Err (TooDeep (place_in p.file row at))

-- a node in a flow collection, with so many levels left for it
abbrev pub flow : ℕ → FlowReader
flow zero found p row at = flow_with 0 0 no_level found p row at
flow (suc levels) found p row at = flow_with (suc levels) levels (flow levels) found p row at
