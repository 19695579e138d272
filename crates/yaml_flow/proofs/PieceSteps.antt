-- The pieces of a flow collection, one after the other.
use Rattle.std.proofs.Common.{◌≡◌, ◌∙◌, ℕ, ◌+◌, ◌-◌, ◌≤◌, ◌<◌, List, [], ◌∷◌, Bool, true, false, eqb, if◌then◌else◌, Result, Ok, length, drop, refl, sym, ap, inl, inr, arith, length-drop}
use Rattle.std.proofs.lemmas.Bool.{cases_Bool, false≢true}
use Rattle.std.proofs.lemmas.List.{drop-drop}
use Rattle.yaml_groups.specs.Cuts.{cuts, cut_len}
use Rattle.yaml_groups.proofs.CutSteps.{cuts_are, cuts_here}
use Rattle.yaml_flow.specs.declared.piece.Piece.{Piece}
use Rattle.yaml_flow.specs.Flow.{PieceReader, pieces, read_piece}
use Rattle.yaml_flow.specs.Pieces.{is_last_of, piece_at}
use Rattle.yaml_lines.specs.Answers.{Fails}
use Rattle.yaml_lines.specs.declared.refusal.YamlFault.TheVariants.{BadFlow}
use Rattle.yaml_lines.specs.declared.refusal.YamlRefusal.{YamlRefusal}
use Rattle.yaml_lines.specs.declared.row.Row.{Row}
use Rattle.yaml_lines.specs.Rows.{text_at}
use Rattle.yaml_nodes.proofs.Chains.{fails_as, fails_on, goes_on}
use Rattle.yaml_nodes.specs.declared.progress.Progress.{Progress}
use Rattle.yaml_nodes.specs.Marks.{starts}
use Rattle.yaml_nodes.specs.Progress.{◌>>=◌, bad}

-- the pieces from a place on, beside what was read before
abbrev pub from_place : {A : Type 0} → PieceReader A → Row → ℕ → ℕ → A × Progress → ℕ → Result ((A × ℕ) × Progress) YamlRefusal
from_place read row bracket close done start = pieces read row bracket close done start (cuts start 0 0 false (text_at row start))

-- the place behind a collection, of which this is the last piece
abbrev pub end_of : Row → Piece → ℕ → Progress → Result ℕ YamlRefusal
end_of row piece close p = if starts close (text_at row piece.stop) then Ok (piece.stop + 1) else bad BadFlow p row piece.bracket

-- what was read, where it is all, and the place behind it
abbrev pub ended : {A : Type 0} → Row → Piece → ℕ → A × Progress → Result ((A × ℕ) × Progress) YamlRefusal
ended row piece close done = end_of row piece close done.1 >>= λ end. Ok ((done.0, end), done.1)

-- a text that starts with a character is not empty
pub stands : (c at : ℕ) (row : Row) → starts c (text_at row at) ≡ true → at < length row.chars
stands c at row h = some (text_at row at) h (length-drop at row.chars)
  where
    some : (cs : List ℕ) → starts c cs ≡ true → length cs ≡ length row.chars - at → at < length row.chars
    some [] h e = absurd (false≢true h)
    some (d ∷ cs) h e = omega arith

-- behind a piece that isn't the last something stands
pub more_left : (row : Row) (piece : Piece) (last : Bool) → last ≡ is_last_of row piece → last ≡ false → piece.stop + 1 ≤ length row.chars
more_left row piece last ends more =
    elim (cases_Bool (starts 44 (text_at row piece.stop))) [
      | inl h ↦ let within = stands 44 piece.stop row h in omega arith
      | inr h ↦ let k : true ≡ false = rw h at (sym ends ∙ more) in absurd (false≢true (sym k))
    ]

cuts_at : (row : Row) (bracket start : ℕ) → let stop : ℕ = (piece_at row bracket start).stop in cuts start 0 0 false (text_at row start) ≡ cuts_here stop (text_at row stop)
cuts_at row bracket start =
    let n = cut_len 0 0 false (text_at row start) in
    cuts_are start 0 0 false (text_at row start) ∙ ap (cuts_here (start + n)) (drop-drop n start row.chars)

-- what stands behind a cut
tail_at : (cs : List ℕ) (at c : ℕ) (rest : List ℕ) → c ∷ rest ≡ drop at cs → rest ≡ drop (at + 1) cs
tail_at cs at c rest e = ap (drop 1) e ∙ drop-drop 1 at cs

behind_last : {A : Type 0} (row : Row) (piece : Piece) (close : ℕ) (done : A × Progress) → (if starts close (text_at row piece.stop) then Ok ((done.0, piece.stop + 1), done.1) else bad BadFlow done.1 row piece.bracket) ≡ ended row piece close done
behind_last row piece close done =
    elim (cases_Bool (starts close (text_at row piece.stop))) [
      | inl h ↦ rw h refl
      | inr h ↦ rw h refl
    ]

module _ {A : Type 0} (read : PieceReader A) (row : Row) (bracket close : ℕ) (done : A × Progress) (start : ℕ) where
  -- what follows a piece
  abbrev follows : Piece → Bool → A × Progress → Result ((A × ℕ) × Progress) YamlRefusal
  follows piece true done = ended row piece close done
  follows piece false done = from_place read row bracket close done (piece.stop + 1)

  past : (piece : Piece) (done : A × Progress) → text_at row piece.stop ≡ [] → ended row piece close done ≡ bad BadFlow done.1 row piece.bracket
  past piece done e = rw e refl

  one_cut : (stop : ℕ) (rest : List ℕ) → rest ≡ text_at row stop → stop ≤ length row.chars
      → let piece : Piece = record { bracket = bracket; stop = stop } in pieces read row bracket close done start (cuts_here stop rest) ≡ (read_piece read row piece (is_last_of row piece) done start >>= follows piece (is_last_of row piece))
  one_cut stop [] e within =
      let piece : Piece = record { bracket = bracket; stop = stop } in
      let end : length row.chars ≡ stop = omega (arith, length-drop stop row.chars, ap length e) in
      let last : is_last_of row piece ≡ true = rw (← e) refl in
      rw last (λ i. read_piece read row (record { bracket = bracket; stop = end i }) true done start >>= λ done. sym (past piece done (sym e)) i)
  one_cut stop (c ∷ cs) e within =
      let piece : Piece = record { bracket = bracket; stop = stop } in
      elim (cases_Bool (eqb c 44)) [
        | inl h ↦
            let comma : starts 44 (text_at row stop) ≡ true = rw (← e) h in
            let rest = tail_at row.chars stop c cs e in
            rw (h, comma, rest) refl
        | inr h ↦
            let other : starts 44 (text_at row stop) ≡ false = rw (← e) h in
            rw (h, other) (λ i. read_piece read row piece true done start >>= λ done. behind_last row piece close done i)
      ]

  -- where a collection goes on from a place: a piece, and what follows it
  step : (piece : Piece) → piece ≡ piece_at row bracket start → piece.stop ≤ length row.chars → from_place read row bracket close done start ≡ (read_piece read row piece (is_last_of row piece) done start >>= follows piece (is_last_of row piece))
  step piece is within =
      let here = piece_at row bracket start in
      rw is (ap (pieces read row bracket close done start) (cuts_at row bracket start) ∙ one_cut here.stop (text_at row here.stop) refl (rw is at within))

  module _ (total : Result ((A × ℕ) × Progress) YamlRefusal) (piece : Piece) (last : Bool) (is : piece ≡ piece_at row bracket start) (within : piece.stop ≤ length row.chars) (ends : last ≡ is_last_of row piece) (so_far : from_place read row bracket close done start ≡ total) where
    one : (read_piece read row piece last done start >>= follows piece last) ≡ total
    one = rw ends (sym (step piece is within) ∙ so_far)

    -- a refusal of a piece is the collection's
    pub refused : (e : YamlRefusal) → Fails e (read_piece read row piece last done start) → Fails e total
    refused e h = fails_as e (read_piece read row piece last done start >>= follows piece last) total one (fails_on e (read_piece read row piece last done start) (follows piece last) h)

    -- behind a piece that isn't the last the next one begins
    pub later : (next : A × Progress) → last ≡ false → read_piece read row piece last done start ≡ Ok next → from_place read row bracket close next (piece.stop + 1) ≡ total
    later next more h = ap (λ b. follows piece b next) (sym more) ∙ sym (goes_on (read_piece read row piece last done start) next (follows piece last) h) ∙ one

    closes : (next : A × Progress) → last ≡ true → read_piece read row piece last done start ≡ Ok next → ended row piece close next ≡ total
    closes next end h = ap (λ b. follows piece b next) (sym end) ∙ sym (goes_on (read_piece read row piece last done start) next (follows piece last) h) ∙ one

    -- behind the last piece the collection is closed or refused
    pub unclosed : (next : A × Progress) (e : YamlRefusal) → last ≡ true → read_piece read row piece last done start ≡ Ok next → Fails e (end_of row piece close next.1) → Fails e total
    unclosed next e end h bad_end = fails_as e (ended row piece close next) total (closes next end h) (fails_on e (end_of row piece close next.1) (λ end. Ok ((next.0, end), next.1)) bad_end)

    pub closed : (next : A × Progress) (end : ℕ) → last ≡ true → read_piece read row piece last done start ≡ Ok next → end_of row piece close next.1 ≡ Ok end → total ≡ Ok ((next.0, end), next.1)
    closed next end is_end h good_end = sym (closes next is_end h) ∙ goes_on (end_of row piece close next.1) end (λ end. Ok ((next.0, end), next.1)) good_end
