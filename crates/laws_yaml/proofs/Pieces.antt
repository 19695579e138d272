-- The pieces of a flow collection, one behind the other, each of which is read.
use Rattle.std.proofs.Common.{◌≡◌, ◌∙◌, ℕ, All, ◌+◌, ◌<◌, ◌≤◌, Bool, true, false, cond, eqb, nat_le, List, [], ◌∷◌, ◌++◌, Result, Ok, drop, length, map, flat_map, refl, sym, ap, append_assoc, length-append, arith}
use Rattle.std.proofs.lemmas.Bool.{cond-false, cond-true, le-leb, lt-leb}
use Rattle.std.proofs.lemmas.List.{drop-drop}
use Rattle.std.proofs.lemmas.List.Elements.{All-head, All-tail}
use Rattle.yaml_groups.specs.Cuts.{cuts, is_cut}
use Rattle.yaml_flow.specs.declared.piece.Piece.{Piece}
use Rattle.yaml_flow.specs.Flow.{PieceReader, pieces, read_piece}
use Rattle.yaml_flow.specs.Gaps.{next_place, past_gap}
use Rattle.yaml_lines.specs.declared.refusal.YamlFault.TheVariants.{BadFlow}
use Rattle.yaml_lines.specs.declared.refusal.YamlRefusal.{YamlRefusal}
use Rattle.yaml_lines.specs.declared.row.Row.{Row}
use Rattle.yaml_lines.specs.Rows.{text_at}
use Rattle.yaml_nodes.specs.declared.progress.Progress.{Progress}
use Rattle.yaml_nodes.specs.Marks.{starts}
use Rattle.yaml_nodes.specs.Progress.{◌>>=◌, bad}
use Rattle.laws_yaml.proofs.Ends.{is_end, is_end_mark, no_gap_behind}
use Rattle.laws_yaml.proofs.FlowTexts.{IsSolid, behind_text, place_behind_space, place_is}
use Rattle.laws_yaml.proofs.Taken.{Took, took_then}
use Rattle.laws_yaml.proofs.FlowTokens.{Goes, both_go, comma_goes, nothing_goes, space_goes}
use Rattle.laws_yaml.specs.Flows.{behind_comma, separated}

-- a bracket that closes
pub record Closes (close : ℕ) : Type 0 where
  pub cut : is_cut 0 close ≡ true
  pub comma : eqb close 44 ≡ false
  pub same : eqb close close ≡ true
  pub mark : is_end_mark close ≡ true

-- so much of each thing, together
abbrev pub total : {X : Type 0} → (X → ℕ) → List X → ℕ
total f [] = 0
total f (x ∷ xs) = f x + total f xs

-- the things of a list put to a value
abbrev pub put_all : {A X : Type 0} → (A → X → A) → A → List X → A
put_all put a [] = a
put_all put a (x ∷ xs) = put_all put (put a x) xs

-- a text that begins with a character
pub record Begins (text : List ℕ) : Type 0 where
  pub front : ℕ
  pub more : List ℕ
  pub is : text ≡ front ∷ more
  pub solid : IsSolid front

some_length : (text : List ℕ) → Begins text → 0 < length text
some_length text begins = let e = ap length begins.is in omega (arith, e)

-- a piece of which something stands at a place
piece_by : {A : Type 0} (read : PieceReader A) (row : Row) (piece : Piece) (is_last : Bool) (a : A) (p : Progress) (start at : ℕ)
    → next_place p row false start ≡ Ok at → at < piece.stop
    → read_piece read row piece is_last (a, p) start ≡ read piece (a, p) at
piece_by read row piece is_last a p start at place more =
    ap (λ r. r >>= λ at. cond (nat_le piece.stop at) (cond is_last (Ok (a, p)) (bad BadFlow p row piece.bracket)) (read piece (a, p) at)) place ∙ cond-false _ _ _ (lt-leb piece.stop at more)

last_cut : (b c : Bool) (stop : ℕ) (x y : List ℕ) → b ≡ true → c ≡ false
    → cond b (stop ∷ cond c x []) y ≡ stop ∷ []
last_cut b c stop x y p q = rw (p, q) refl

module _ {A : Type 0} (read : PieceReader A) (row : Row) (bracket close : ℕ) (a : A) (p : Progress) (start stop : ℕ) where
  -- a piece before a comma, and those behind it
  before_comma : (stops rest : List ℕ) → drop stop row.chars ≡ 44 ∷ rest
      → pieces read row bracket close (a, p) start (stop ∷ stops) ≡ (read_piece read row (record { bracket = bracket; stop = stop }) false (a, p) start >>= λ done. pieces read row bracket close done (stop + 1) stops)
  before_comma stops rest here = cond-true _ _ _ (ap (starts 44) here)

  -- what is read of a piece before a comma, and of those behind it
  followed : (b : A) (value : A × ℕ) (nodes bytes later_nodes later_bytes : ℕ) (stops rest : List ℕ)
      → drop stop row.chars ≡ 44 ∷ rest
      → (one : Took (read_piece read row (record { bracket = bracket; stop = stop }) false (a, p) start) b p nodes bytes)
      → Took (pieces read row bracket close (b, one.after) (stop + 1) stops) value one.after later_nodes later_bytes
      → Took (pieces read row bracket close (a, p) start (stop ∷ stops)) value p (nodes + later_nodes) (bytes + later_bytes)
  followed b value nodes bytes later_nodes later_bytes stops rest here one more =
      let both = took_then p (read_piece read row (record { bracket = bracket; stop = stop }) false (a, p) start) (λ done. pieces read row bracket close done (stop + 1) stops) b value nodes bytes later_nodes later_bytes one more in
      record { after = both.after; is = before_comma stops rest here ∙ both.is; nodes_are = both.nodes_are; text_is = both.text_is }

  closed_by : (done : A × Progress) (rest : List ℕ) (b : Result ((A × ℕ) × Progress) YamlRefusal)
      → drop stop row.chars ≡ close ∷ rest → Closes close
      → cond (starts close (text_at row stop)) (Ok ((done.0, stop + 1), done.1)) b ≡ Ok ((done.0, stop + 1), done.1)
  closed_by done rest b here closes = cond-true _ _ _ (ap (starts close) here ∙ closes.same)

  -- the last piece, before the bracket
  before_bracket : (rest : List ℕ) (b : A) (q : Progress) → drop stop row.chars ≡ close ∷ rest → Closes close
      → read_piece read row (record { bracket = bracket; stop = stop }) true (a, p) start ≡ Ok (b, q)
      → pieces read row bracket close (a, p) start (stop ∷ []) ≡ Ok ((b, stop + 1), q)
  before_bracket rest b q here closes reads =
      cond-false _ _ _ (ap (starts 44) here ∙ closes.comma)
      ∙ ap (λ r. r >>= λ done. cond (starts close (text_at row stop)) (Ok ((done.0, stop + 1), done.1)) (bad BadFlow done.1 row bracket)) reads
      ∙ closed_by (b, q) rest _ here closes

-- things that stand in a row as the pieces of a collection, beside what was read before
pub record ArePieces {A X : Type 0} (text : X → List ℕ) (put : A → X → A) (nodes bytes : X → ℕ) (read : PieceReader A) (row : Row) (Good : A → List X → Type 0) : Type 0 where
  pub next : (a : A) (x : X) (xs : List X) → Good a (x ∷ xs) → Good (put a x) xs
  pub begins : (a : A) (x : X) (xs : List X) → Good a (x ∷ xs) → Begins (text x)
  pub goes : (a : A) (x : X) (xs : List X) → Good a (x ∷ xs) → (n : ℕ) (rest : List ℕ) → is_end rest ≡ true
      → Goes n n (text x) rest
  pub reads : (a : A) (x : X) (xs : List X) → Good a (x ∷ xs)
      → (p : Progress) (piece : Piece) (at : ℕ) (rest : List ℕ) → drop at row.chars ≡ text x ++ rest
      → is_end rest ≡ true → piece.stop ≡ at + length (text x)
      → p.nodes + nodes x ≤ 200000 → p.text + bytes x ≤ 16777216
      → Took (read piece (a, p) at) (put a x) p (nodes x) (bytes x)

module _ {A X : Type 0} (text : X → List ℕ) (put : A → X → A) (nodes bytes : X → ℕ) (read : PieceReader A) (row : Row) (Good : A → List X → Type 0) (are : ArePieces text put nodes bytes read row Good) (bracket close : ℕ) (closes : Closes close) where
  -- what stands behind the first of some
  abbrev tail_of : List X → List ℕ → List ℕ
  tail_of xs rest = flat_map behind_comma (map text xs) ++ close ∷ rest

  tail_ends : (xs : List X) (rest : List ℕ) → is_end (tail_of xs rest) ≡ true
  tail_ends [] rest = closes.mark
  tail_ends (x ∷ xs) rest = refl

  -- one piece
  one_is : (is_last : Bool) (x : X) (xs : List X) (a : A) (p : Progress) (start at : ℕ) (rest : List ℕ)
      → Good a (x ∷ xs) → drop at row.chars ≡ text x ++ rest → is_end rest ≡ true
      → next_place p row false start ≡ Ok at
      → p.nodes + nodes x ≤ 200000 → p.text + bytes x ≤ 16777216
      → Took (read_piece read row (record { bracket = bracket; stop = at + length (text x) }) is_last (a, p) start) (put a x) p (nodes x) (bytes x)
  one_is is_last x xs a p start at rest good here ends place many long =
      let piece : Piece = record { bracket = bracket; stop = at + length (text x) } in
      let some = some_length (text x) (are.begins a x xs good) in
      let one = are.reads a x xs good p piece at rest here ends refl many long in
      record { after = one.after; is = piece_by read row piece is_last a p start at place (omega (arith, some)) ∙ one.is; nodes_are = one.nodes_are; text_is = one.text_is }

  -- a piece and those behind it
  all_are : (xs : List X) (x : X) (a : A) (p : Progress) (start at : ℕ) (white : Bool) (rest : List ℕ)
      → Good a (x ∷ xs) → drop at row.chars ≡ text x ++ tail_of xs rest
      → ((q : Progress) → next_place q row false start ≡ Ok at)
      → p.nodes + total nodes (x ∷ xs) ≤ 200000 → p.text + total bytes (x ∷ xs) ≤ 16777216
      → Took (pieces read row bracket close (a, p) start (cuts at 0 0 white (text x ++ tail_of xs rest))) (put_all put a (x ∷ xs), at + length (separated (map text (x ∷ xs))) + 1) p (total nodes (x ∷ xs)) (total bytes (x ∷ xs))
  all_are [] x a p start at white rest good here place many long =
      let stop = at + length (text x) in
      let behind = behind_text row at (text x) (close ∷ rest) here in
      let goes = are.goes a x [] good 0 (close ∷ rest) closes.mark at white in
      let cut : cuts at 0 0 white (text x ++ close ∷ rest) ≡ stop ∷ [] = goes.1 ∙ last_cut (is_cut 0 close) (eqb close 44) stop _ _ closes.cut closes.comma in
      let one = one_is true x [] a p start at (close ∷ rest) good here closes.mark (place p) (omega (arith, many)) (omega (arith, long)) in
      let len = length-append (text x) [] in
      let end : stop + 1 ≡ at + length (text x ++ []) + 1 = omega (arith, len) in
      record {
        after = one.after;
        is = ap (pieces read row bracket close (a, p) start) cut ∙ before_bracket read row bracket close a p start stop rest (put a x) one.after behind closes one.is
            ∙ ap (λ n. Ok ((put a x, n), one.after)) end;
        nodes_are = omega (arith, one.nodes_are);
        text_is = omega (arith, one.text_is);
      }
  all_are (y ∷ ys) x a p start at white rest good here place many long =
      let stop = at + length (text x) in
      let later = text y ++ tail_of ys rest in
      let tail : tail_of (y ∷ ys) rest ≡ 44 ∷ 32 ∷ later = ap (λ l. 44 ∷ 32 ∷ l) (append_assoc (text y) (flat_map behind_comma (map text ys)) (close ∷ rest)) in
      let behind = behind_text row at (text x) (tail_of (y ∷ ys) rest) here ∙ tail in
      let at_space : drop (stop + 1) row.chars ≡ 32 ∷ later = sym (drop-drop 1 stop row.chars) ∙ ap (drop 1) behind in
      let at_next : drop (stop + 1 + 1) row.chars ≡ later = sym (drop-drop 1 (stop + 1) row.chars) ∙ ap (drop 1) at_space in
      let goes = are.goes a x (y ∷ ys) good 0 (tail_of (y ∷ ys) rest) refl at white in
      let cut : cuts at 0 0 white (text x ++ tail_of (y ∷ ys) rest) ≡ stop ∷ cuts (stop + 1 + 1) 0 0 true later = goes.1 ∙ ap (cuts stop 0 0 goes.0) tail in
      let one = one_is false x (y ∷ ys) a p start at (tail_of (y ∷ ys) rest) good here refl (place p) (omega (arith, many)) (omega (arith, long)) in
      let begins = are.begins (put a x) y ys (are.next a x (y ∷ ys) good) in
      let next_is : (q : Progress) → next_place q row false (stop + 1) ≡ Ok (stop + 1 + 1) =
      λ q. place_behind_space q row (stop + 1) begins.front (begins.more ++ tail_of ys rest) (at_space ∙ ap (λ t. 32 ∷ (t ++ tail_of ys rest)) begins.is) begins.solid in
      let more = all_are ys y (put a x) one.after (stop + 1) (stop + 1 + 1) true rest (are.next a x (y ∷ ys) good) at_next next_is (omega (arith, many, one.nodes_are)) (omega (arith, long, one.text_is)) in
      let step = followed read row bracket close a p start stop (put a x) (put_all put a (x ∷ y ∷ ys), stop + 1 + 1 + length (separated (map text (y ∷ ys))) + 1) (nodes x) (bytes x) (total nodes (y ∷ ys)) (total bytes (y ∷ ys))
      (cuts (stop + 1 + 1) 0 0 true later) (32 ∷ later) behind one more in
      let len = length-append (text x) (flat_map behind_comma (map text (y ∷ ys))) in
      let end : stop + 1 + 1 + length (separated (map text (y ∷ ys))) + 1 ≡ at + length (separated (map text (x ∷ y ∷ ys))) + 1 = omega (arith, len) in
      record {
        after = step.after;
        is = ap (pieces read row bracket close (a, p) start) cut ∙ step.is ∙ ap (λ n. Ok ((put_all put a (x ∷ y ∷ ys), n), step.after)) end;
        nodes_are = step.nodes_are;
        text_is = step.text_is;
      }

  -- a collection without pieces
  none_are : (a : A) (p : Progress) (start : ℕ) (rest : List ℕ) → drop start row.chars ≡ close ∷ rest
      → pieces read row bracket close (a, p) start (cuts start 0 0 false (close ∷ rest)) ≡ Ok ((a, start + 1), p)
  none_are a p start rest here =
      let piece : Piece = record { bracket = bracket; stop = start } in
      let place : next_place p row false start ≡ Ok start = ap (past_gap p row start false false) here ∙ no_gap_behind p row start (close ∷ rest) closes.mark in
      let empty : read_piece read row piece true (a, p) start ≡ Ok (a, p) =
      ap (λ r. r >>= λ at. cond (nat_le start at) (Ok (a, p)) (read piece (a, p) at)) place ∙ cond-true _ _ _ (le-leb start start (omega arith)) in
      ap (pieces read row bracket close (a, p) start) (last_cut (is_cut 0 close) (eqb close 44) start _ _ closes.cut closes.comma)
      ∙ before_bracket read row bracket close a p start start rest a p here closes empty

  -- all pieces of a collection, from behind its bracket on
  pub collection_is : (xs : List X) (a : A) (p : Progress) (start : ℕ) (rest : List ℕ) → Good a xs
      → drop start row.chars ≡ separated (map text xs) ++ close ∷ rest
      → p.nodes + total nodes xs ≤ 200000 → p.text + total bytes xs ≤ 16777216
      → Took (pieces read row bracket close (a, p) start (cuts start 0 0 false (text_at row start))) (put_all put a xs, start + length (separated (map text xs)) + 1) p (total nodes xs) (total bytes xs)
  collection_is [] a p start rest good here many long =
      let end : start + 1 ≡ start + 0 + 1 = omega arith in
      record {
        after = p;
        is = ap (λ cs. pieces read row bracket close (a, p) start (cuts start 0 0 false cs)) here ∙ none_are a p start rest here ∙ ap (λ n. Ok ((a, n), p)) end;
        nodes_are = omega arith;
        text_is = omega arith;
      }
  collection_is (x ∷ xs) a p start rest good here many long =
      let first = here ∙ append_assoc (text x) (flat_map behind_comma (map text xs)) (close ∷ rest) in
      let begins = are.begins a x xs good in
      let place : (q : Progress) → next_place q row false start ≡ Ok start =
      λ q. place_is q row start false begins.front (begins.more ++ tail_of xs rest) (first ∙ ap (λ t. t ++ tail_of xs rest) begins.is) begins.solid in
      let all = all_are xs x a p start start false rest good first place many long in
      record { after = all.after; is = ap (λ cs. pieces read row bracket close (a, p) start (cuts start 0 0 false cs)) first ∙ all.is; nodes_are = all.nodes_are; text_is = all.text_is }

-- the cuts go over parts with a comma and a space between each two, where a bracket is open
module _ {X : Type 0} (text : X → List ℕ) (n : ℕ) where
  behind_ends : (xs : List X) (rest : List ℕ) → is_end rest ≡ true
      → is_end (flat_map behind_comma (map text xs) ++ rest) ≡ true
  behind_ends [] rest ends = ends
  behind_ends (x ∷ xs) rest ends = refl

  behind_go : (xs : List X) (rest : List ℕ)
      → All (λ x. (rest : List ℕ) → is_end rest ≡ true → Goes (n + 1) (n + 1) (text x) rest) xs
      → is_end rest ≡ true → Goes (n + 1) (n + 1) (flat_map behind_comma (map text xs)) rest
  behind_go [] rest all ends = nothing_goes (n + 1) rest
  behind_go (x ∷ xs) rest all ends =
      let more = flat_map behind_comma (map text xs) ++ rest in
      let one = All-head (λ x. (rest : List ℕ) → is_end rest ≡ true → Goes (n + 1) (n + 1) (text x) rest) x xs all more (behind_ends xs rest ends) in
      let later = behind_go xs rest (All-tail (λ x. (rest : List ℕ) → is_end rest ≡ true → Goes (n + 1) (n + 1) (text x) rest) x xs all) ends in
      both_go (n + 1) (n + 1) (n + 1) (44 ∷ 32 ∷ text x) (flat_map behind_comma (map text xs)) rest
      (both_go (n + 1) (n + 1) (n + 1) (44 ∷ []) (32 ∷ text x) more (comma_goes n (32 ∷ (text x ++ more)))
      (both_go (n + 1) (n + 1) (n + 1) (32 ∷ []) (text x) more (space_goes (n + 1) (text x ++ more)) one))
      later

  pub separated_go : (xs : List X) (rest : List ℕ)
      → All (λ x. (rest : List ℕ) → is_end rest ≡ true → Goes (n + 1) (n + 1) (text x) rest) xs
      → is_end rest ≡ true → Goes (n + 1) (n + 1) (separated (map text xs)) rest
  separated_go [] rest all ends = nothing_goes (n + 1) rest
  separated_go (x ∷ xs) rest all ends =
      both_go (n + 1) (n + 1) (n + 1) (text x) (flat_map behind_comma (map text xs)) rest
      (All-head (λ x. (rest : List ℕ) → is_end rest ≡ true → Goes (n + 1) (n + 1) (text x) rest) x xs all (flat_map behind_comma (map text xs) ++ rest) (behind_ends xs rest ends))
      (behind_go xs rest (All-tail (λ x. (rest : List ℕ) → is_end rest ≡ true → Goes (n + 1) (n + 1) (text x) rest) x xs all) ends)
