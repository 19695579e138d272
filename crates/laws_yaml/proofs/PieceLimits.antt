-- What every piece of a flow collection keeps.
use Rattle.std.proofs.Common.{ℕ, ◌+◌, List, [], ◌∷◌, Bool, true, false, nat_le, length}
use Rattle.yaml_groups.specs.Cuts.{cuts}
use Rattle.yaml_flow.specs.declared.piece.Piece.{Piece}
use Rattle.yaml_flow.specs.Flow.{PieceReader, between, pieces, read_piece}
use Rattle.yaml_flow.specs.Gaps.{next_place}
use Rattle.yaml_lines.specs.declared.row.Row.{Row}
use Rattle.yaml_lines.specs.Rows.{text_at}
use Rattle.yaml_nodes.specs.declared.progress.Progress.{Progress}
use Rattle.yaml_nodes.specs.Marks.{starts}
use Rattle.laws_yaml.proofs.Chains.{Yields, given, refused, either, chained, followed}

module _ {A : Type 0} (R : A × Progress → Type 0) (read : PieceReader A) (row : Row)
    (keeps : (piece : Piece) (done : A × Progress) (at : ℕ) → R done → Yields R (read piece done at)) where
  read_piece_keeps : (piece : Piece) (is_last : Bool) (done : A × Progress) (start : ℕ) → R done → Yields R (read_piece read row piece is_last done start)
  read_piece_keeps piece is_last done start h =
      followed (next_place done.1 row false start) _ (λ at. either (nat_le piece.stop at) _ _ (either is_last _ _ (given done h) (refused _)) (keeps piece done at h))

  pieces_keep : (bracket close : ℕ) (done : A × Progress) (start : ℕ) (stops : List ℕ) → R done → Yields (λ got. R (got.0.0, got.1)) (pieces read row bracket close done start stops)
  pieces_keep bracket close done start [] h = chained _ _ (read_piece_keeps (record { bracket = bracket; stop = length row.chars }) true done start h) (λ done k. refused _)
  pieces_keep bracket close done start (stop ∷ stops) h =
      either (starts 44 (text_at row stop)) _ _
      (chained _ _ (read_piece_keeps (record { bracket = bracket; stop = stop }) false done start h) (λ done k. pieces_keep bracket close done (stop + 1) stops k))
      (chained _ _ (read_piece_keeps (record { bracket = bracket; stop = stop }) true done start h)
      (λ done k. either (starts close (text_at row stop)) _ _ (given _ k) (refused _)))

  -- what holds before the first piece, and is kept by each, holds between the brackets
  pub between_keeps : (bracket close : ℕ) (none : A) (p : Progress) → R (none, p) → Yields (λ got. R (got.0.0, got.1)) (between read row bracket close none p)
  between_keeps bracket close none p h = pieces_keep bracket close (none, p) (bracket + 1) (cuts (bracket + 1) 0 0 false (text_at row (bracket + 1))) h
