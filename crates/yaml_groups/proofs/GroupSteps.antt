-- Steps over the rows of a text, and the characters of those that are left.
use Rattle.std.proofs.Common.{◌≡◌, ◌∙◌, ℕ, zero, suc, ◌+◌, ◌-◌, ◌^◌, ◌<◌, ◌≤◌, List, [], ◌∷◌, ◌++◌, true, false, Some, take, drop, length, refl, sym, ap, append_assoc, arith}
use Rattle.std.proofs.Math.ListN.{set}
use Rattle.std.proofs.lemmas.List.{append-nil, drop-append-le, drop-drop, drop-set-lt, drop_more, length-append, length-drop}
use Rattle.std.proofs.lemmas.Option.{get_or_from_slice_get}
use Rattle.std.specs.List.{slice_get}
use Rattle.yaml_lines.specs.Blanks.{is_blank}
use Rattle.yaml_lines.specs.declared.row.Row.{Row}
use Rattle.yaml_groups.specs.Grouped.{begins_flow, belonging, flow_lines, grouped, head_of, joined_chars, with_lines}
use Rattle.yaml_groups.specs.declared.line.LogicalLine.{LogicalLine}
use Rattle.yaml_groups.specs.Parts.{led}

-- joined characters are those of the row and of the rows that follow, each behind a line feed
pub joined_led : (chars : List ℕ) (rows : List Row) → joined_chars chars rows ≡ chars ++ led rows
joined_led chars [] = sym (append-nil chars)
joined_led chars (row ∷ rows) = ap (λ cs. chars ++ 10 ∷ cs) (joined_led row.chars rows)

-- the next row of a queue
pub next_row : (rows rows' : List Row) (at : ℕ) (row empty : Row) → slice_get rows at ≡ Some row → at < length rows → rows' ≡ set rows at empty → drop at rows ≡ row ∷ drop (at + 1) rows'
next_row rows rows' at row empty e w s =
    drop_more rows at row w ∙ ap (λ r. r ∷ drop (at + 1) rows) (get_or_from_slice_get rows at row row e)
    ∙ ap (λ rs. row ∷ rs) (sym (ap (drop (at + 1)) s ∙ drop-set-lt (at + 1) rows at empty (omega arith)))

-- a row more is taken
pub taken_more : (rows rows' : List Row) (row : Row) (left left' taken : List Row) (n i : ℕ) → i < n → left ≡ row ∷ left' → rows' ≡ rows ++ row ∷ [] → rows ++ take (n - i) left ≡ taken → rows' ++ take (n - (i + 1)) left' ≡ taken
taken_more rows rows' row left left' taken n i w e p so_far =
    let k : n - i ≡ suc (n - (i + 1)) = omega arith in
    ap (λ rs. rs ++ take (n - (i + 1)) left') p ∙ append_assoc rows (row ∷ []) (take (n - (i + 1)) left')
    ∙ sym (λ j. rows ++ take (k j) (e j)) ∙ so_far

pub left_more : (row : Row) (left left' rest : List Row) (n i : ℕ) → i < n → left ≡ row ∷ left' → drop (n - i) left ≡ rest → drop (n - (i + 1)) left' ≡ rest
left_more row left left' rest n i w e so_far =
    let k : n - i ≡ suc (n - (i + 1)) = omega arith in
    sym (λ j. drop (k j) (e j)) ∙ so_far

-- the lines of a flow collection are one row
pub with_flow : (value : ℕ) (row : Row) (lines none : List Row) (chars : List ℕ) → begins_flow (drop value row.chars) ≡ true → chars ≡ row.chars ++ led lines → none ≡ []
    → ◌≡◌ {A = LogicalLine} (record { row = record row { chars = chars }; content = none }) (with_lines value row lines)
with_flow value row lines none chars flow e n =
    let joined = e ∙ sym (joined_led row.chars lines) in
    rw flow (λ i. record { row = record row { chars = joined i }; content = n i })

flow_some : (cs : List ℕ) → begins_flow cs ≡ true → 1 ≤ length cs
flow_some [] h = absurd (cc)
flow_some (c ∷ cs) h = omega arith

-- how many lines belong to a row in which a flow collection begins
pub flow_belongs : (head : ℕ × ℕ) (row : Row) (rows : List Row) (inside : List ℕ) (n : ℕ) → begins_flow (drop head.1 row.chars) ≡ true → inside ≡ drop 1 (drop head.1 row.chars)
    → n ≡ flow_lines (inside ++ led rows) (length rows) → n ≡ belonging head row rows
flow_belongs head row rows inside n flow i f =
    let some = flow_some (drop head.1 row.chars) flow in
    let left = length-drop head.1 row.chars in
    let split : drop (head.1 + 1) (joined_chars row.chars rows) ≡ drop (head.1 + 1) row.chars ++ led rows = ap (drop (head.1 + 1)) (joined_led row.chars rows) ∙ drop-append-le (head.1 + 1) row.chars (led rows) (omega arith) in
    let is : inside ++ led rows ≡ drop (head.1 + 1) (joined_chars row.chars rows) = ap (λ cs. cs ++ led rows) (i ∙ drop-drop 1 head.1 row.chars) ∙ sym split in
    rw flow (f ∙ ap (λ cs. flow_lines cs (length rows)) is)

-- what stands behind an opening bracket is no more than its row
pub flow_fits : (at : ℕ) (row : Row) (rows : List Row) (value inside : List ℕ) → value ≡ drop at row.chars → inside ≡ drop 1 value → length row.chars + length (led rows) < 2 ^ 64 → length inside + length (led rows) < 2 ^ 64
flow_fits at row rows value inside v i h =
    let of_value = ap length v ∙ length-drop at row.chars in
    let of_inside = ap length i ∙ length-drop 1 value in
    omega arith

-- the characters of the rows that are left are no more than those before
pub led_fewer : (rows : List Row) (n : ℕ) → length (led (drop n rows)) ≤ length (led rows)
led_fewer rows zero = omega arith
led_fewer [] (suc n) = omega arith
led_fewer (row ∷ rows) (suc n) =
    let rest = led_fewer rows n in
    let sum = length-append row.chars (led rows) in
    omega arith

-- the characters of a row and of those behind it
pub led_first : (rest rest' : List Row) (row : Row) → rest ≡ row ∷ rest' → length (led rest) ≡ length row.chars + length (led rest') + 1
led_first rest rest' row e =
    let sum = length-append row.chars (led rest') in
    let same : length (led rest) ≡ length (10 ∷ row.chars ++ led rest') = ap (λ rows. length (led rows)) e in
    omega arith

-- so many lines belong to one before
skips : (owner n : ℕ) (rows : List Row) → grouped owner n rows ≡ grouped owner 0 (drop n rows)
skips owner zero rows = refl
skips owner (suc n) [] = refl
skips owner (suc n) (row ∷ rows) = skips owner n rows

-- a blank row is left out
pub blank_step : (owner : ℕ) (row : Row) (rest rest' : List Row) (lines total : List LogicalLine) → rest ≡ row ∷ rest' → is_blank row.chars ≡ true → lines ++ grouped owner 0 rest ≡ total → lines ++ grouped owner 0 rest' ≡ total
blank_step owner row rest rest' lines total n blank so_far =
    let left_out : grouped owner 0 (row ∷ rest') ≡ grouped owner 0 rest' = rw blank refl in
    ap (λ ls. lines ++ ls) (sym left_out) ∙ ap (λ rs. lines ++ grouped owner 0 rs) (sym n) ∙ so_far

-- a row that isn't blank is a line with those that belong to it
pub line_step : (owner owner' n : ℕ) (head : ℕ × ℕ) (row : Row) (rest rest' rest'' following : List Row) (line : LogicalLine) (lines lines' total : List LogicalLine) → rest ≡ row ∷ rest' → is_blank row.chars ≡ false
    → head ≡ head_of owner 0 0 row.chars → n ≡ belonging head row rest' → following ≡ take n rest' → rest'' ≡ drop n rest' → line ≡ with_lines head.1 row following → lines' ≡ lines ++ line ∷ [] → owner' ≡ head.0
    → lines ++ grouped owner 0 rest ≡ total → lines' ++ grouped owner' 0 rest'' ≡ total
line_step owner owner' n head row rest rest' rest'' following line lines lines' total e full h b f r l p o so_far =
    let as_line : (ℕ × ℕ) → List LogicalLine = λ (head : ℕ × ℕ). with_lines head.1 row (take (belonging head row rest') rest') ∷ grouped head.0 (belonging head row rest') rest' in
    let one : grouped owner 0 (row ∷ rest') ≡ as_line (head_of owner 0 0 row.chars) = rw full refl in
    let two : as_line head ≡ with_lines head.1 row (take n rest') ∷ grouped head.0 n rest' = (λ i. with_lines head.1 row (take (sym b i) rest') ∷ grouped head.0 (sym b i) rest') in
    let line_is : line ≡ with_lines head.1 row (take n rest') = l ∙ ap (with_lines head.1 row) f in
    let later : grouped owner' 0 rest'' ≡ grouped head.0 n rest' = (λ i. grouped (o i) 0 (r i)) ∙ sym (skips head.0 n rest') in
    let next : line ∷ grouped owner' 0 rest'' ≡ grouped owner 0 rest = (λ i. line_is i ∷ later i) ∙ sym two ∙ ap as_line h ∙ sym one ∙ ap (grouped owner 0) (sym e) in
    ap (λ ls. ls ++ grouped owner' 0 rest'') p ∙ append_assoc lines (line ∷ []) (grouped owner' 0 rest'') ∙ ap (λ ls. lines ++ ls) next ∙ so_far
