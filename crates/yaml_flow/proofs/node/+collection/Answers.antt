use Rattle.std.proofs.Common.{true, ◌≡◌, ◌∙◌, ◌-◌, List, false, if◌then◌else◌, refl, sym, ap, subst}
use Rattle.std.proofs.lemmas.Result.{err_from_is_err_and}
use Rattle.tree_base.specs.declared.tree.Tree.{Tree}
use Rattle.yaml_flow.specs.declared.piece.Piece.{Piece}
use Rattle.yaml_flow.specs.Flow.{flow, flow_entry, flow_item, flow_mapping, flow_node, flow_properties, flow_sequence, flow_value, nothing_before}
use Rattle.yaml_flow.specs.Pieces.{is_last_of, piece_at}
use Rattle.yaml_flow.proofs.CodeSteps.{empty_ends, empty_gives, entry_gives, entry_stop, full_piece, item_gives, item_stop, node_is, pair_fails, read_as, stop_within, value_fails, value_is}
use Rattle.yaml_flow.proofs.Levels.{at_mapping, at_sequence, at_word}
use Rattle.yaml_flow.proofs.PieceSteps.{refused, later, unclosed, closed, more_left}
use Rattle.yaml_flow.proofs.ScanSteps.{next_at}
use Rattle.yaml_lines.specs.Answers.{Gives}
use Rattle.yaml_lines.specs.declared.plain.Context.TheVariants.{Flow}
use Rattle.yaml_nodes.proofs.Chains.{gives_as, goes_on}
use Rattle.yaml_nodes.specs.Marks.{is_key_behind, starts}
use Rattle.yaml_nodes.specs.Progress.{result_beside, result_left}
use Rattle.yaml_nodes.specs.Properties.{no_properties}
use Rattle.yaml_flow.proofs.node.+collection.Goals as goal

pub flow-returns-then-starts-clause-is : goal.flow-returns-then-starts-clause-is
flow-returns-then-starts-clause-is t c =
    let a = c.args in
    let square = ap (starts 91) (sym c.text_at-chars.ensures.is) ∙ sym c.starts.ensures ∙ c.if-starts.true in
    gives_as (result_beside c.sequence.result c.sequence.new.progress)
    (at_sequence a.levels a.found a.progress.now a.row.now a.at square
    ∙ goes_on _ _ (λ found. flow_sequence a.levels (a.levels - 1) (flow (a.levels - 1)) found a.progress.now a.row.now a.at) c.in_ok-found.ensures)
    c.sequence.ensures.is

pub flow-returns-then-starts-2-clause-is : goal.flow-returns-then-starts-2-clause-is
flow-returns-then-starts-2-clause-is t c =
    let a = c.args in
    let square = ap (starts 91) (sym c.text_at-chars.ensures.is) ∙ sym c.starts.ensures ∙ c.if-starts.false in
    let curly = ap (starts 123) (sym c.text_at-chars.ensures.is) ∙ sym c.starts-2.ensures ∙ c.if-starts-2.true in
    gives_as (result_beside c.mapping.result c.mapping.new.progress)
    (at_mapping a.levels a.found a.progress.now a.row.now a.at square curly
    ∙ goes_on _ _ (λ found. flow_mapping a.levels (a.levels - 1) (flow (a.levels - 1)) found a.progress.now a.row.now a.at) c.in_ok-found-2.ensures)
    c.mapping.ensures.is

pub flow-returns-clause-is : goal.flow-returns-clause-is
flow-returns-clause-is t c =
    let a = c.args in
    let square = ap (starts 91) (sym c.text_at-chars.ensures.is) ∙ sym c.starts.ensures ∙ c.if-starts.false in
    let curly = ap (starts 123) (sym c.text_at-chars.ensures.is) ∙ sym c.starts-2.ensures ∙ c.if-starts-2.false in
    gives_as (result_beside c.word.result c.word.new.progress) (at_word a.levels a.found a.progress.now a.row.now a.at square curly) c.word.ensures.is

pub items-returns-in_err-stop-clause-is : goal.items-returns-in_err-stop-clause-is
items-returns-in_err-stop-clause-is t c =
    let a = c.args in
    let piece = piece_at a.row.now a.bracket c.loop-items.start in
    let p = err_from_is_err_and c.from_residual.result c.from_residual.ensures.1 in
    rw (p.1, p.2) (refused (flow_item a.levels (flow a.levels) a.row.now) a.row.now a.bracket 93 (c.loop-items.items, c.loop-items.progress) c.loop-items.start _ piece (is_last_of a.row.now piece) refl (stop_within a.row.now c.loop-items.start c.loop-items.invariant.within) refl c.loop-items.invariant.is _ c.in_err-stop.ensures.is)

pub items-returns-in_err-end-clause-is : goal.items-returns-in_err-end-clause-is
items-returns-in_err-end-clause-is t c =
    let a = c.args in
    let piece : Piece = record { bracket = a.bracket; stop = c.in_ok-stop.stop } in
    let is : piece ≡ piece_at a.row.now a.bracket c.loop-items.start = ap (λ s. record { bracket = a.bracket; stop = s }) c.in_ok-stop.ensures.ends in
    let read = read_as (flow_item a.levels (flow a.levels) a.row.now) a.row.now (c.loop-items.items, c.loop-items.progress) c.loop-items.start piece _ _ is c.in_ok-stop.ensures.is in
    let p = err_from_is_err_and c.from_residual-in_err-end.result c.from_residual-in_err-end.ensures.1 in
    rw (p.1, p.2) (unclosed (flow_item a.levels (flow a.levels) a.row.now) a.row.now a.bracket 93 (c.loop-items.items, c.loop-items.progress) c.loop-items.start _ piece (is_last_of a.row.now piece) is c.in_ok-stop.ensures.within refl c.loop-items.invariant.is (c.item_piece.new.items, c.item_piece.new.progress) _ (sym c.is_last.ensures ∙ c.if-is_last.true) read c.in_err-end.ensures.is)

pub items-returns-then-is_last-clause-is : goal.items-returns-then-is_last-clause-is
items-returns-then-is_last-clause-is t c =
    let a = c.args in
    let piece : Piece = record { bracket = a.bracket; stop = c.in_ok-stop.stop } in
    let is : piece ≡ piece_at a.row.now a.bracket c.loop-items.start = ap (λ s. record { bracket = a.bracket; stop = s }) c.in_ok-stop.ensures.ends in
    let read = read_as (flow_item a.levels (flow a.levels) a.row.now) a.row.now (c.loop-items.items, c.loop-items.progress) c.loop-items.start piece _ _ is c.in_ok-stop.ensures.is in
    closed (flow_item a.levels (flow a.levels) a.row.now) a.row.now a.bracket 93 (c.loop-items.items, c.loop-items.progress) c.loop-items.start _ piece (is_last_of a.row.now piece) is c.in_ok-stop.ensures.within refl c.loop-items.invariant.is (c.item_piece.new.items, c.item_piece.new.progress) c.in_ok-end.end (sym c.is_last.ensures ∙ c.if-is_last.true) read c.in_ok-end.ensures.is

pub items-loop-items-preserved : goal.items-loop-items-preserved
items-loop-items-preserved t c =
    let a = c.args in
    let piece : Piece = record { bracket = a.bracket; stop = c.in_ok-stop.stop } in
    let is : piece ≡ piece_at a.row.now a.bracket c.loop-items.start = ap (λ s. record { bracket = a.bracket; stop = s }) c.in_ok-stop.ensures.ends in
    let read = read_as (flow_item a.levels (flow a.levels) a.row.now) a.row.now (c.loop-items.items, c.loop-items.progress) c.loop-items.start piece _ _ is c.in_ok-stop.ensures.is in
    let more = sym c.is_last.ensures ∙ c.if-is_last.false in
    record {
      within = more_left a.row.now piece (is_last_of a.row.now piece) refl more;
      is = later (flow_item a.levels (flow a.levels) a.row.now) a.row.now a.bracket 93 (c.loop-items.items, c.loop-items.progress) c.loop-items.start _ piece (is_last_of a.row.now piece) is c.in_ok-stop.ensures.within refl c.loop-items.invariant.is (c.item_piece.new.items, c.item_piece.new.progress) more read;
    }

pub entries-returns-in_err-stop-clause-is : goal.entries-returns-in_err-stop-clause-is
entries-returns-in_err-stop-clause-is t c =
    let a = c.args in
    let piece = piece_at a.row.now a.bracket c.loop-entries.start in
    let p = err_from_is_err_and c.from_residual.result c.from_residual.ensures.1 in
    rw (p.1, p.2) (refused (flow_entry a.levels (flow a.levels) a.row.now) a.row.now a.bracket 125 (c.loop-entries.entries, c.loop-entries.progress) c.loop-entries.start _ piece (is_last_of a.row.now piece) refl (stop_within a.row.now c.loop-entries.start c.loop-entries.invariant.within) refl c.loop-entries.invariant.is _ c.in_err-stop.ensures.is)

pub entries-returns-in_err-end-clause-is : goal.entries-returns-in_err-end-clause-is
entries-returns-in_err-end-clause-is t c =
    let a = c.args in
    let piece : Piece = record { bracket = a.bracket; stop = c.in_ok-stop.stop } in
    let is : piece ≡ piece_at a.row.now a.bracket c.loop-entries.start = ap (λ s. record { bracket = a.bracket; stop = s }) c.in_ok-stop.ensures.ends in
    let read = read_as (flow_entry a.levels (flow a.levels) a.row.now) a.row.now (c.loop-entries.entries, c.loop-entries.progress) c.loop-entries.start piece _ _ is c.in_ok-stop.ensures.is in
    let p = err_from_is_err_and c.from_residual-in_err-end.result c.from_residual-in_err-end.ensures.1 in
    rw (p.1, p.2) (unclosed (flow_entry a.levels (flow a.levels) a.row.now) a.row.now a.bracket 125 (c.loop-entries.entries, c.loop-entries.progress) c.loop-entries.start _ piece (is_last_of a.row.now piece) is c.in_ok-stop.ensures.within refl c.loop-entries.invariant.is (c.entry_piece.new.entries, c.entry_piece.new.progress) _ (sym c.is_last.ensures ∙ c.if-is_last.true) read c.in_err-end.ensures.is)

pub entries-returns-then-is_last-clause-is : goal.entries-returns-then-is_last-clause-is
entries-returns-then-is_last-clause-is t c =
    let a = c.args in
    let piece : Piece = record { bracket = a.bracket; stop = c.in_ok-stop.stop } in
    let is : piece ≡ piece_at a.row.now a.bracket c.loop-entries.start = ap (λ s. record { bracket = a.bracket; stop = s }) c.in_ok-stop.ensures.ends in
    let read = read_as (flow_entry a.levels (flow a.levels) a.row.now) a.row.now (c.loop-entries.entries, c.loop-entries.progress) c.loop-entries.start piece _ _ is c.in_ok-stop.ensures.is in
    closed (flow_entry a.levels (flow a.levels) a.row.now) a.row.now a.bracket 125 (c.loop-entries.entries, c.loop-entries.progress) c.loop-entries.start _ piece (is_last_of a.row.now piece) is c.in_ok-stop.ensures.within refl c.loop-entries.invariant.is (c.entry_piece.new.entries, c.entry_piece.new.progress) c.in_ok-end.end (sym c.is_last.ensures ∙ c.if-is_last.true) read c.in_ok-end.ensures.is

pub entries-loop-entries-preserved : goal.entries-loop-entries-preserved
entries-loop-entries-preserved t c =
    let a = c.args in
    let piece : Piece = record { bracket = a.bracket; stop = c.in_ok-stop.stop } in
    let is : piece ≡ piece_at a.row.now a.bracket c.loop-entries.start = ap (λ s. record { bracket = a.bracket; stop = s }) c.in_ok-stop.ensures.ends in
    let read = read_as (flow_entry a.levels (flow a.levels) a.row.now) a.row.now (c.loop-entries.entries, c.loop-entries.progress) c.loop-entries.start piece _ _ is c.in_ok-stop.ensures.is in
    let more = sym c.is_last.ensures ∙ c.if-is_last.false in
    record {
      within = more_left a.row.now piece (is_last_of a.row.now piece) refl more;
      is = later (flow_entry a.levels (flow a.levels) a.row.now) a.row.now a.bracket 125 (c.loop-entries.entries, c.loop-entries.progress) c.loop-entries.start _ piece (is_last_of a.row.now piece) is c.in_ok-stop.ensures.within refl c.loop-entries.invariant.is (c.entry_piece.new.entries, c.entry_piece.new.progress) more read;
    }

pub item_piece-returns-then-is_stop-clause-is : goal.item_piece-returns-then-is_stop-clause-is
item_piece-returns-then-is_stop-clause-is t c =
    let a = c.args in
    let empty = sym c.is_stop.ensures ∙ c.if-is_stop.true in
    empty_gives (flow_item a.levels (flow a.levels) a.row.now) a.row.now a.bracket a.start c.in_ok-at.at (a.items.now, a.progress.now) c.in_ok-at.ensures.is empty c.empty_stop.result c.empty_stop.ensures

pub item_piece-returns-then-is_stop-clause-ends : goal.item_piece-returns-then-is_stop-clause-ends
item_piece-returns-then-is_stop-clause-ends t c =
    let a = c.args in
    let empty = sym c.is_stop.ensures ∙ c.if-is_stop.true in
    empty_ends a.progress.now a.row.now a.bracket a.start c.in_ok-at.at c.in_ok-at.ensures.is empty _ c.empty_stop.result c.empty_stop.ensures

pub item_piece-returns-clause-is : goal.item_piece-returns-clause-is
item_piece-returns-clause-is t c =
    let a = c.args in
    let full = sym c.is_stop.ensures ∙ c.if-is_stop.false in
    gives_as (result_left c.item.result (c.item.new.items, c.item.new.progress)) (full_piece (flow_item a.levels (flow a.levels) a.row.now) a.row.now a.bracket a.start c.in_ok-at.at (a.items.now, a.progress.now) _ c.in_ok-at.ensures.is full) c.item.ensures.is

pub item_piece-returns-clause-ends : goal.item_piece-returns-clause-ends
item_piece-returns-clause-ends t c =
    let a = c.args in
    let same = next_at a.progress.now a.row.now a.start c.in_ok-at.at false c.in_ok-at.ensures.is in
    rw same c.item.ensures.ends

pub entry_piece-returns-then-is_stop-clause-is : goal.entry_piece-returns-then-is_stop-clause-is
entry_piece-returns-then-is_stop-clause-is t c =
    let a = c.args in
    let empty = sym c.is_stop.ensures ∙ c.if-is_stop.true in
    empty_gives (flow_entry a.levels (flow a.levels) a.row.now) a.row.now a.bracket a.start c.in_ok-at.at (a.entries.now, a.progress.now) c.in_ok-at.ensures.is empty c.empty_stop.result c.empty_stop.ensures

pub entry_piece-returns-then-is_stop-clause-ends : goal.entry_piece-returns-then-is_stop-clause-ends
entry_piece-returns-then-is_stop-clause-ends t c =
    let a = c.args in
    let empty = sym c.is_stop.ensures ∙ c.if-is_stop.true in
    empty_ends a.progress.now a.row.now a.bracket a.start c.in_ok-at.at c.in_ok-at.ensures.is empty _ c.empty_stop.result c.empty_stop.ensures

pub entry_piece-returns-clause-is : goal.entry_piece-returns-clause-is
entry_piece-returns-clause-is t c =
    let a = c.args in
    let full = sym c.is_stop.ensures ∙ c.if-is_stop.false in
    gives_as (result_left c.entry.result (c.entry.new.entries, c.entry.new.progress)) (full_piece (flow_entry a.levels (flow a.levels) a.row.now) a.row.now a.bracket a.start c.in_ok-at.at (a.entries.now, a.progress.now) _ c.in_ok-at.ensures.is full) c.entry.ensures.is

pub entry_piece-returns-clause-ends : goal.entry_piece-returns-clause-ends
entry_piece-returns-clause-ends t c =
    let a = c.args in
    let same = next_at a.progress.now a.row.now a.start c.in_ok-at.at false c.in_ok-at.ensures.is in
    rw same c.entry.ensures.ends

pub item-returns-clause-is : goal.item-returns-clause-is
item-returns-clause-is t c =
    let a = c.args in
    let p = c.flow_node.new.progress in
    let bare = ap (is_key_behind Flow) (sym c.text_at-chars.ensures.is) ∙ sym c.is_key_behind.ensures ∙ c.if-is_key_behind.false in
    let read = item_gives a.levels a.row.now a.bracket a.items.now a.progress.now a.at ((c.in_ok-tree.tree, c.in_ok-tree.end), p) bare c.in_ok-tree.ensures.is c.in_ok-tree.ensures.within c.next_stop.result c.next_stop.ensures.is in
    subst (λ (l : List Tree). Gives (result_left c.next_stop.result (l, p)) (flow_item a.levels (flow a.levels) a.row.now (piece_at a.row.now a.bracket a.at) (a.items.now, a.progress.now) a.at)) (sym c.in_ok-push.ensures.ok) read

pub item-returns-clause-ends : goal.item-returns-clause-ends
item-returns-clause-ends t c =
    let a = c.args in
    let bare = ap (is_key_behind Flow) (sym c.text_at-chars.ensures.is) ∙ sym c.is_key_behind.ensures ∙ c.if-is_key_behind.false in
    item_stop a.levels a.row.now a.bracket a.items.now a.progress.now a.at ((c.in_ok-tree.tree, c.in_ok-tree.end), c.flow_node.new.progress) bare c.in_ok-tree.ensures.is c.in_ok-tree.ensures.within c.next_stop.result c.next_stop.ensures.is

pub entry-returns-in_err-tree-clause-is : goal.entry-returns-in_err-tree-clause-is
entry-returns-in_err-tree-clause-is t c =
    let a = c.args in
    let p = err_from_is_err_and c.from_residual-in_err-tree.result c.from_residual-in_err-tree.ensures.1 in
    rw (p.1, p.2) (value_fails a.levels a.row.now a.bracket a.entries.now a.progress.now a.at c.in_ok-key.key c.new_key.new.progress c.behind_key-behind.result.0 c.behind_key-behind.result.1 c.in_ok-key.ensures.is c.in_ok-key.ensures.within c.in_ok-new_key.ensures c.behind_key-behind.ensures.has_colon c.behind_key-behind.ensures.behind _ c.in_err-tree.ensures.is)

pub entry-returns-in_err-with_pair-clause-is : goal.entry-returns-in_err-with_pair-clause-is
entry-returns-in_err-with_pair-clause-is t c =
    let a = c.args in
    let p = err_from_is_err_and c.from_residual-in_err-with_pair.result c.from_residual-in_err-with_pair.ensures.1 in
    rw (p.1, p.2) (pair_fails a.levels a.row.now a.bracket a.entries.now a.progress.now a.at c.in_ok-key.key c.new_key.new.progress c.behind_key-behind.result.0 c.behind_key-behind.result.1 c.in_ok-key.ensures.is c.in_ok-key.ensures.within c.in_ok-new_key.ensures c.behind_key-behind.ensures.has_colon c.behind_key-behind.ensures.behind ((c.in_ok-tree.tree, c.in_ok-tree.end), c.flow_value.new.progress) c.in_ok-tree.ensures.is c.in_ok-tree.ensures.within _ c.in_err-with_pair.ensures)

pub entry-returns-clause-is : goal.entry-returns-clause-is
entry-returns-clause-is t c =
    let a = c.args in
    entry_gives a.levels a.row.now a.bracket a.entries.now a.progress.now a.at c.in_ok-key.key c.new_key.new.progress c.behind_key-behind.result.0 c.behind_key-behind.result.1 c.in_ok-key.ensures.is c.in_ok-key.ensures.within c.in_ok-new_key.ensures c.behind_key-behind.ensures.has_colon c.behind_key-behind.ensures.behind ((c.in_ok-tree.tree, c.in_ok-tree.end), c.flow_value.new.progress) c.in_ok-tree.ensures.is c.in_ok-tree.ensures.within c.with_pair.new.entries c.in_ok-with_pair.ensures c.next_stop.result c.next_stop.ensures.is

pub entry-returns-clause-ends : goal.entry-returns-clause-ends
entry-returns-clause-ends t c =
    let a = c.args in
    entry_stop a.levels a.row.now a.bracket a.entries.now a.progress.now a.at c.in_ok-key.key c.new_key.new.progress c.behind_key-behind.result.0 c.behind_key-behind.result.1 c.in_ok-key.ensures.is c.in_ok-key.ensures.within c.in_ok-new_key.ensures c.behind_key-behind.ensures.has_colon c.behind_key-behind.ensures.behind ((c.in_ok-tree.tree, c.in_ok-tree.end), c.flow_value.new.progress) c.in_ok-tree.ensures.is c.in_ok-tree.ensures.within c.with_pair.new.entries c.in_ok-with_pair.ensures c.next_stop.result c.next_stop.ensures.is

pub flow_node-returns-then-is_stop-clause-is : goal.flow_node-returns-then-is_stop-clause-is
flow_node-returns-then-is_stop-clause-is t c =
    let a = c.args in
    let choice = node_is a.levels a.may_be_marked a.row.now a.owner a.progress.now a.at c.in_ok-found.at c.in_ok-found.found (ap (λ f. flow_properties 3 a.may_be_marked a.progress.now a.row.now f a.at) (sym c.no_properties.ensures) ∙ c.in_ok-found.ensures.is) in
    let stop = sym c.is_stop.ensures ∙ c.if-is_stop.true in
    gives_as (result_beside c.nothing_before.result c.nothing_before.new.progress) (choice ∙ ap (λ b. if b then nothing_before a.levels c.in_ok-found.found a.progress.now a.row.now a.owner c.in_ok-found.at else flow a.levels c.in_ok-found.found a.progress.now a.row.now c.in_ok-found.at) stop) c.nothing_before.ensures.is

pub flow_node-returns-clause-is : goal.flow_node-returns-clause-is
flow_node-returns-clause-is t c =
    let a = c.args in
    let choice = node_is a.levels a.may_be_marked a.row.now a.owner a.progress.now a.at c.in_ok-found.at c.in_ok-found.found (ap (λ f. flow_properties 3 a.may_be_marked a.progress.now a.row.now f a.at) (sym c.no_properties.ensures) ∙ c.in_ok-found.ensures.is) in
    let stop = sym c.is_stop.ensures ∙ c.if-is_stop.false in
    gives_as (result_beside c.flow.result c.flow.new.progress) (choice ∙ ap (λ b. if b then nothing_before a.levels c.in_ok-found.found a.progress.now a.row.now a.owner c.in_ok-found.at else flow a.levels c.in_ok-found.found a.progress.now a.row.now c.in_ok-found.at) stop) c.flow.ensures.is

pub flow_value-returns-then-is_stop-clause-is : goal.flow_value-returns-then-is_stop-clause-is
flow_value-returns-then-is_stop-clause-is t c =
    let a = c.args in
    let p = a.progress.now in
    let colon = ap (λ b. flow_value a.levels (flow a.levels) a.row.now (piece_at a.row.now a.key a.behind) a.key p a.behind b) c.if-not-has_colon.false in
    let choice = value_is a.levels a.row.now a.key p a.behind c.in_ok-at.at c.in_ok-at.ensures.is in
    let stop = sym c.is_stop.ensures ∙ c.if-is_stop.true in
    gives_as (result_beside c.nothing_before-then-is_stop.result c.nothing_before-then-is_stop.new.progress) (colon ∙ choice ∙ ap (λ b. if b then nothing_before a.levels no_properties p a.row.now a.key c.in_ok-at.at else flow_node a.levels (flow a.levels) true a.row.now (piece_at a.row.now a.key c.in_ok-at.at) a.key p c.in_ok-at.at) stop ∙ ap (λ f. nothing_before a.levels f p a.row.now a.key c.in_ok-at.at) (sym c.no_properties-then-is_stop.ensures)) c.nothing_before-then-is_stop.ensures.is

pub flow_value-returns-clause-is : goal.flow_value-returns-clause-is
flow_value-returns-clause-is t c =
    let a = c.args in
    let p = a.progress.now in
    let colon = ap (λ b. flow_value a.levels (flow a.levels) a.row.now (piece_at a.row.now a.key a.behind) a.key p a.behind b) c.if-not-has_colon.false in
    let choice = value_is a.levels a.row.now a.key p a.behind c.in_ok-at.at c.in_ok-at.ensures.is in
    let stop = sym c.is_stop.ensures ∙ c.if-is_stop.false in
    gives_as (result_beside c.flow_node.result c.flow_node.new.progress) (colon ∙ choice ∙ ap (λ b. if b then nothing_before a.levels no_properties p a.row.now a.key c.in_ok-at.at else flow_node a.levels (flow a.levels) true a.row.now (piece_at a.row.now a.key c.in_ok-at.at) a.key p c.in_ok-at.at) stop) c.flow_node.ensures.is
