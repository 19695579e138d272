-- Steps of the calls that read block scalars.
use Rattle.std.proofs.Common.{◌≡◌, ◌∙◌, ℕ, ◌+◌, ◌<◌, List, [], ◌∷◌, ◌++◌, Bool, true, false, cond, eqb, ltb, leb, Option, Some, None, take, drop, length, map, get_or, refl, sym, ap, inl, inr, append_assoc, add-one, if◌then◌else◌, arith}
use Rattle.std.proofs.lemmas.Bool.{cases_Bool}
use Rattle.std.proofs.lemmas.List.{at_drop_more, take-map}
use Rattle.std.proofs.lemmas.Str.{encodes-append}
use Rattle.std.specs.Str.{encode_utf8_all}
use Rattle.yaml_lines.specs.declared.block_style.Chomp.{Chomp}
use Rattle.yaml_lines.specs.declared.row.Row.{Row}
use Rattle.yaml_lines.specs.Blanks.{spaces}
use Rattle.yaml_lines.specs.Block.{is_all_spaces, content_indent, content_len, empty_len, begins_white, gap, joined, trailing, ending_alone, content_text, block_with, block_of, lines_of_rows, is_deeper, deeper}

-- the text of characters one after another
pub encodes_both : (xs ys : List ℕ) → encode_utf8_all (xs ++ ys) ≡ encode_utf8_all xs ++ encode_utf8_all ys
encodes_both xs ys = encodes-append xs ys

-- the lines of the first rows
pub lines_taken : (n : ℕ) (rows : List Row) → take n (lines_of_rows rows) ≡ lines_of_rows (take n rows)
lines_taken n rows = take-map (λ row. row.chars) n rows

-- a line that isn't empty is put behind what stands before it
pub joined_line : (folded : Bool) (before : Option Bool) (empties : ℕ) (line : List ℕ) (lines : List (List ℕ)) (text with_gap new total : List ℕ) → eqb (length line) 0 ≡ false
    → with_gap ≡ text ++ encode_utf8_all (gap folded before empties line) → new ≡ with_gap ++ encode_utf8_all line
    → text ++ encode_utf8_all (joined folded before empties (line ∷ lines)) ≡ total → new ++ encode_utf8_all (joined folded (Some (begins_white line)) 0 lines) ≡ total
joined_line folded before empties line lines text with_gap new total h e f so_far =
    let g = gap folded before empties line in
    let later = joined folded (Some (begins_white line)) 0 lines in
    let step : joined folded before empties (line ∷ lines) ≡ g ++ line ++ later = rw h refl in
    let parts : encode_utf8_all (g ++ line ++ later) ≡ encode_utf8_all g ++ encode_utf8_all line ++ encode_utf8_all later =
    encodes-append (g ++ line) later ∙ ap (λ x. x ++ encode_utf8_all later) (encodes-append g line) in
    ap (λ x. x ++ encode_utf8_all later) (f ∙ ap (λ x. x ++ encode_utf8_all line) e)
    ∙ ap (λ x. x ++ encode_utf8_all later) (append_assoc text (encode_utf8_all g) (encode_utf8_all line))
    ∙ append_assoc text (encode_utf8_all g ++ encode_utf8_all line) (encode_utf8_all later)
    ∙ ap (λ x. text ++ x) (sym (ap encode_utf8_all step ∙ parts)) ∙ so_far

-- the lines up to the first that isn't deeper than the parent
abbrev pub deeper_lines : ℕ → List (List ℕ) → List (List ℕ)
deeper_lines parent [] = []
deeper_lines parent (line ∷ lines) = cond (is_deeper parent line) (line ∷ deeper_lines parent lines) []

lines_deeper : (parent : ℕ) (rows : List Row) → lines_of_rows (deeper parent rows) ≡ deeper_lines parent (lines_of_rows rows)
lines_deeper parent [] = refl
lines_deeper parent (row ∷ rows) =
    elim (cases_Bool (is_deeper parent row.chars)) [
      | inl deep ↦ rw deep (ap (λ x. row.chars ∷ x) (lines_deeper parent rows))
      | inr flat ↦ rw flat refl
    ]

pub indent_deeper : (parent : ℕ) (lines : List (List ℕ)) → content_indent parent (deeper_lines parent lines) ≡ content_indent parent lines
indent_deeper parent [] = refl
indent_deeper parent (line ∷ lines) =
    elim (cases_Bool (is_all_spaces line)) [
      | inl blank ↦ rw (blank, blank) (indent_deeper parent lines)
      | inr full ↦ elim (cases_Bool (ltb parent (spaces line))) [
        | inl deep ↦ rw (full, deep, full, deep) refl
        | inr flat ↦ rw (full, flat) refl
      ]
    ]

pub empty_deeper : (parent : ℕ) (lines : List (List ℕ)) → empty_len (deeper_lines parent lines) ≡ empty_len lines
empty_deeper parent [] = refl
empty_deeper parent (line ∷ lines) =
    elim (cases_Bool (is_all_spaces line)) [
      | inl blank ↦ rw (blank, blank) (ap (λ n. n + 1) (empty_deeper parent lines))
      | inr full ↦ elim (cases_Bool (ltb parent (spaces line))) [
        | inl deep ↦ rw (full, deep, full) refl
        | inr flat ↦ rw (full, flat) refl
      ]
    ]

pub len_deeper : (parent indent : ℕ) (lines : List (List ℕ)) → parent < indent → content_len indent (deeper_lines parent lines) ≡ content_len indent lines
len_deeper parent indent [] h = refl
len_deeper parent indent (line ∷ lines) h =
    elim (cases_Bool (is_all_spaces line)) [
      | inl blank ↦ rw (blank, blank) (ap (λ n. n + 1) (len_deeper parent indent lines h))
      | inr full ↦ elim (cases_Bool (leb indent (spaces line))) [
        | inl within ↦
            let deep : ltb parent (spaces line) ≡ true = grind arith in
            rw (full, deep, full, within) (ap (λ n. n + 1) (len_deeper parent indent lines h))
        | inr less ↦ elim (cases_Bool (ltb parent (spaces line))) [
          | inl deep ↦ rw (full, deep, full, less) refl
          | inr flat ↦ rw (full, flat, less) refl
        ]
      ]
    ]

pub taken_deeper : (parent indent : ℕ) (lines : List (List ℕ)) → parent < indent → take (content_len indent lines) (deeper_lines parent lines) ≡ take (content_len indent lines) lines
taken_deeper parent indent [] h = refl
taken_deeper parent indent (line ∷ lines) h =
    elim (cases_Bool (is_all_spaces line)) [
      | inl blank ↦ rw (blank, add-one) (ap (λ x. line ∷ x) (taken_deeper parent indent lines h))
      | inr full ↦ elim (cases_Bool (leb indent (spaces line))) [
        | inl within ↦
            let deep : ltb parent (spaces line) ≡ true = grind arith in
            rw (full, within, deep, add-one) (ap (λ x. line ∷ x) (taken_deeper parent indent lines h))
        | inr less ↦ rw (full, less) refl
      ]
    ]

-- content is deeper than its parent
deep_content : (parent indent : ℕ) (lines : List (List ℕ)) → content_indent parent lines ≡ Some indent → parent < indent
deep_content parent indent [] h = absurd (cc)
deep_content parent indent (line ∷ lines) h =
    elim (cases_Bool (is_all_spaces line)) [
      | inl blank ↦ deep_content parent indent lines (rw blank at h)
      | inr full ↦ elim (cases_Bool (ltb parent (spaces line))) [
        | inl deep ↦
            let found : Some (spaces line) ≡ Some indent = rw (full, deep) at h in
            let same : spaces line ≡ indent = cc in
            grind arith
        | inr flat ↦ let none : None ≡ Some indent = rw (full, flat) at h in absurd (cc)
      ]
    ]

with_deeper : (folded : Bool) (chomp : Chomp) (parent : ℕ) (lines : List (List ℕ)) (found : Option ℕ) → content_indent parent lines ≡ found → block_with folded chomp found (deeper_lines parent lines) ≡ block_with folded chomp found lines
with_deeper folded chomp parent lines None h = ap (λ n. (ending_alone chomp n, n)) (empty_deeper parent lines)
with_deeper folded chomp parent lines (Some indent) h =
    let deep = deep_content parent indent lines h in
    ap (λ n. (content_text folded chomp indent (take n (deeper_lines parent lines)), n)) (len_deeper parent indent lines deep)
    ∙ ap (λ ls. (content_text folded chomp indent ls, content_len indent lines)) (taken_deeper parent indent lines deep)

-- lines that aren't deeper than the parent tell nothing of a block scalar
pub block_deeper : (folded : Bool) (chomp : Chomp) (parent : ℕ) (rows : List Row) → block_of folded chomp parent (lines_of_rows (deeper parent rows)) ≡ block_of folded chomp parent (lines_of_rows rows)
block_deeper folded chomp parent rows =
    let lines = lines_of_rows rows in
    ap (block_of folded chomp parent) (lines_deeper parent rows)
    ∙ ap (λ found. block_with folded chomp found (deeper_lines parent lines)) (indent_deeper parent lines)
    ∙ with_deeper folded chomp parent lines (content_indent parent lines) refl

-- the next line of the content
pub next_line : (indent : ℕ) (rows : List Row) (i : ℕ) (row : Row) (line : List ℕ) → i < length rows → row ≡ get_or rows i row → line ≡ drop indent row.chars
    → map (drop indent) (lines_of_rows (drop i rows)) ≡ line ∷ map (drop indent) (lines_of_rows (drop (i + 1) rows))
next_line indent rows i row line h e f =
    let later = map (drop indent) (lines_of_rows (drop (i + 1) rows)) in
    at_drop_more (λ rs. map (drop indent) (lines_of_rows rs)) rows i row h ∙ ap (λ (r : Row). drop indent r.chars ∷ later) (sym e) ∙ ap (λ l. l ∷ later) (sym f)

-- a line that is empty is counted
pub empty_step : (folded : Bool) (before before' : Option Bool) (empties empties' : ℕ) (line : List ℕ) (rest later : List (List ℕ)) (text text' total : List ℕ) → eqb (length line) 0 ≡ true
    → text' ≡ text → before' ≡ before → empties' ≡ empties + 1 → rest ≡ line ∷ later
    → text ++ encode_utf8_all (joined folded before empties rest) ≡ total → text' ++ encode_utf8_all (joined folded before' empties' later) ≡ total
empty_step folded before before' empties empties' line rest later text text' total h t b e next so_far =
    let one : joined folded before empties (line ∷ later) ≡ joined folded before (empties + 1) later = rw h refl in
    (λ k. t k ++ encode_utf8_all (joined folded (b k) (e k) later))
    ∙ ap (λ x. text ++ encode_utf8_all x) (sym one) ∙ ap (λ r. text ++ encode_utf8_all (joined folded before empties r)) (sym next) ∙ so_far

-- a line that isn't empty is joined
pub line_step : (folded : Bool) (before before' : Option Bool) (empties empties' : ℕ) (line : List ℕ) (rest later : List (List ℕ)) (text with_gap text' total : List ℕ) → eqb (length line) 0 ≡ false
    → with_gap ≡ text ++ encode_utf8_all (gap folded before empties line) → text' ≡ with_gap ++ encode_utf8_all line → before' ≡ Some (begins_white line) → empties' ≡ 0 → rest ≡ line ∷ later
    → text ++ encode_utf8_all (joined folded before empties rest) ≡ total → text' ++ encode_utf8_all (joined folded before' empties' later) ≡ total
line_step folded before before' empties empties' line rest later text with_gap text' total h f t b e next so_far =
    (λ k. text' ++ encode_utf8_all (joined folded (b k) (e k) later))
    ∙ joined_line folded before empties line later text with_gap text' total h f t (ap (λ r. text ++ encode_utf8_all (joined folded before empties r)) (sym next) ∙ so_far)

pub trailing_step : (empties empties' : ℕ) (line : List ℕ) (rest later : List (List ℕ)) (total : ℕ) → empties' ≡ (if eqb (length line) 0 then empties + 1 else 0) → rest ≡ line ∷ later
    → trailing empties rest ≡ total → trailing empties' later ≡ total
trailing_step empties empties' line rest later total e next so_far = ap (λ n. trailing n later) e ∙ ap (trailing empties) (sym next) ∙ so_far
