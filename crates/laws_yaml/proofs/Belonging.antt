-- Lines behind which nothing goes over take what belongs to them, whatever stands behind.
use Rattle.std.proofs.Common.{◌≡◌, ◌∙◌, ℕ, zero, suc, ◌+◌, ◌-◌, ◌<◌, ◌≤◌, ◌==◌, ◌||◌, ◌&&◌, List, [], ◌∷◌, ◌++◌, Bool, true, false, nat_le, nat_lt, Option, Some, None, take, drop, length, refl, sym, ap, subst, ◌⊎◌, inl, inr, arith, append_assoc, if◌then◌else◌}
use Rattle.std.proofs.lemmas.Bool.{cases_Bool, cond_both, le-leb}
use Rattle.std.proofs.lemmas.List.{append-nil, drop-append-le, length-append, length-drop, length-map, map-append, take-append-le}
use Rattle.yaml_groups.specs.Cuts.{is_cut, is_space, open_behind, token_len}
use Rattle.yaml_groups.specs.declared.line.LogicalLine.{LogicalLine}
use Rattle.yaml_groups.specs.Grouped.{begins_block, begins_flow, belonging, flow_lines, grouped, head_of, joined_chars, line_ends_in, with_lines}
use Rattle.yaml_lines.specs.Blanks.{is_blank, spaces}
use Rattle.yaml_lines.specs.Block.{block_of, block_with, content_indent, content_len, empty_len, is_all_spaces, lines_of_rows}
use Rattle.yaml_lines.specs.declared.block_style.Chomp.TheVariants.{Clip}
use Rattle.yaml_lines.specs.declared.row.Row.{Row}
use Rattle.laws_yaml.specs.BlankLines.{taken_behind}
use Rattle.yaml_groups.proofs.FlowEnds.{ends_to_close, flow_lines_are}
use Rattle.yaml_groups.proofs.LineEnds.{ended_by, token_end, token_within}
use Rattle.yaml_groups.specs.Parts.{ends_with}

passed_more : (count c : ℕ) → count ≤ ends_with count c
passed_more count c = cond_both {A = ℕ} (c == 10) (count + 1) count (λ n. count ≤ n) (λ e. omega arith) (λ e. omega arith)

-- either nothing closes, or a bracket behind the line ends before
counted_on : (all count n skip : ℕ) (white : Bool) (cs : List ℕ) → ends_to_close all count n skip white cs < all → count ≤ ends_to_close all count n skip white cs
counted_on all count n skip white [] h = absurd (omega arith)
counted_on all count n (suc skip) white (c ∷ cs) h = let more = passed_more count c in let rest = counted_on all (ends_with count c) n skip (is_space c) cs h in omega arith
counted_on all count n zero white (c ∷ cs) h =
    let more = passed_more count c in
    let skip = token_len white (c ∷ cs) - 1 in
    by (is_cut n c) (c == 44) (ends_to_close all (ends_with count c) 0 0 false cs) (ends_to_close all (ends_with count c) (open_behind n c) skip (is_space c) cs)
    (λ h. let rest = counted_on all (ends_with count c) 0 0 false cs h in omega arith)
    (λ h. let rest = counted_on all (ends_with count c) (open_behind n c) skip (is_space c) cs h in omega arith) h
  where
    by : (cut comma : Bool) (a b : ℕ) → (a < all → count ≤ a) → (b < all → count ≤ b) → (if cut then (if comma then a else count) else b) < all → count ≤ (if cut then (if comma then a else count) else b)
    by true true a b p q h = p h
    by true false a b p q h = omega arith
    by false comma a b p q h = q h

ends_within : (count c m : ℕ) (cs : List ℕ) → m ≤ count + line_ends_in (c ∷ cs) → m ≤ ends_with count c + line_ends_in cs
ends_within count c m cs h = by (c == 10) h
  where
    by : (b : Bool) → m ≤ count + (if b then line_ends_in cs + 1 else line_ends_in cs) → m ≤ (if b then count + 1 else count) + line_ends_in cs
    by true h = omega arith
    by false h = omega arith

never : (b : Bool) → (b && false) ≡ false
never true = refl
never false = refl

-- a collection that is closed within some lines is closed there, whatever stands behind them
closed_within : (all all' count n skip : ℕ) (white : Bool) (cs more : List ℕ) → skip ≤ length cs
    → ends_to_close all count n skip white (cs ++ ended_by (Some more)) < all → ends_to_close all count n skip white (cs ++ ended_by (Some more)) ≤ count + line_ends_in cs
    → ends_to_close all count n skip white (cs ++ ended_by (Some more)) ≡ ends_to_close all' count n skip white cs
closed_within all all' count n (suc skip) white [] more s h w = absurd (omega arith)
closed_within all all' count n zero white [] more s h w =
    let uncut : is_cut n 10 ≡ false = never (n == 0) in
    let behind = ends_to_close all (count + 1) n 0 true more in
    let pass : ends_to_close all count n 0 white (10 ∷ more) ≡ behind = ap (λ cut. if cut then count else behind) uncut in
    let on = counted_on all (count + 1) n 0 true more (omega arith) in
    absurd (omega arith)
closed_within all all' count n (suc skip) white (c ∷ cs) more s h w = closed_within all all' (ends_with count c) n skip (is_space c) cs more (omega arith) h (ends_within count c _ cs w)
closed_within all all' count n zero white (c ∷ cs) more s h w =
    let skip = token_len white (c ∷ cs) - 1 in
    let same = token_end white c cs (Some more) in
    let inside = token_within white c cs in
    let text = cs ++ ended_by (Some more) in
    let swap = ap (λ len. ends_to_close all (ends_with count c) (open_behind n c) (len - 1) (is_space c) text) same in
    ap (λ len. if is_cut n c then (if c == 44 then ends_to_close all (ends_with count c) 0 0 false text else count) else ends_to_close all (ends_with count c) (open_behind n c) (len - 1) (is_space c) text) same
    ∙ by (is_cut n c) (c == 44) (ends_to_close all (ends_with count c) 0 0 false text) (ends_to_close all (ends_with count c) (open_behind n c) skip (is_space c) text) _ _
    (λ h w. closed_within all all' (ends_with count c) 0 0 false cs more (omega arith) h (ends_within count c _ cs w))
    (λ h w. closed_within all all' (ends_with count c) (open_behind n c) skip (is_space c) cs more (omega arith) h (ends_within count c _ cs w))
    (subst (λ m. (if is_cut n c then (if c == 44 then ends_to_close all (ends_with count c) 0 0 false text else count) else m) < all) swap h)
    (subst (λ m. (if is_cut n c then (if c == 44 then ends_to_close all (ends_with count c) 0 0 false text else count) else m) ≤ count + line_ends_in (c ∷ cs)) swap w)
  where
    by : (cut comma : Bool) (a b a' b' : ℕ) → (a < all → a ≤ count + line_ends_in (c ∷ cs) → a ≡ a') → (b < all → b ≤ count + line_ends_in (c ∷ cs) → b ≡ b')
        → (if cut then (if comma then a else count) else b) < all → (if cut then (if comma then a else count) else b) ≤ count + line_ends_in (c ∷ cs)
        → (if cut then (if comma then a else count) else b) ≡ (if cut then (if comma then a' else count) else b')
    by true true a b a' b' p q h w = p h w
    by true false a b a' b' p q h w = refl
    by false comma a b a' b' p q h w = q h w

-- what stands behind rows that are joined
abbrev led_by : List Row → Option (List ℕ)
led_by [] = None
led_by (row ∷ rows) = Some (joined_chars row.chars rows)

joined_append : (chars : List ℕ) (rows others : List Row) → joined_chars chars (rows ++ others) ≡ joined_chars chars rows ++ ended_by (led_by others)
joined_append chars [] [] = sym (append-nil chars)
joined_append chars [] (row ∷ rows) = refl
joined_append chars (row ∷ rows) others = ap (λ cs. chars ++ 10 ∷ cs) (joined_append row.chars rows others) ∙ sym (append_assoc chars (10 ∷ joined_chars row.chars rows) (ended_by (led_by others)))

joined_longer : (chars : List ℕ) (rows : List Row) → length chars ≤ length (joined_chars chars rows)
joined_longer chars [] = omega arith
joined_longer chars (row ∷ rows) = let l = length-append chars (10 ∷ joined_chars row.chars rows) in omega arith

ends_append : (xs ys : List ℕ) → line_ends_in (xs ++ ys) ≡ line_ends_in xs + line_ends_in ys
ends_append [] ys = omega arith
ends_append (x ∷ xs) ys =
    let rest = ends_append xs ys in
    ap (λ n. if x == 10 then n + 1 else n) rest ∙ by (x == 10)
  where
    by : (b : Bool) → (if b then line_ends_in xs + line_ends_in ys + 1 else line_ends_in xs + line_ends_in ys) ≡ (if b then line_ends_in xs + 1 else line_ends_in xs) + line_ends_in ys
    by true = omega arith
    by false = refl

-- a line end stands before each row that is joined
joined_ends : (at : ℕ) (chars : List ℕ) (rows : List Row) → at ≤ length chars → length rows ≤ line_ends_in (drop at (joined_chars chars rows))
joined_ends at chars [] h = omega arith
joined_ends at chars (row ∷ rows) h =
    let split = ap line_ends_in (drop-append-le at chars (10 ∷ joined_chars row.chars rows) h) in
    let sum = ends_append (drop at chars) (10 ∷ joined_chars row.chars rows) in
    let rest = joined_ends 0 row.chars rows (omega arith) in
    omega arith

flow_within : (at : ℕ) (chars : List ℕ) (rows : List Row) (next : Row) (others : List Row) → at ≤ length chars
    → flow_lines (drop at (joined_chars chars (rows ++ next ∷ others))) (length (rows ++ next ∷ others)) ≤ length rows
    → flow_lines (drop at (joined_chars chars (rows ++ next ∷ others))) (length (rows ++ next ∷ others)) ≡ flow_lines (drop at (joined_chars chars rows)) (length rows)
flow_within at chars rows next others within few =
    let all = length (rows ++ next ∷ others) in
    let l : all ≡ length rows + length (next ∷ others) = length-append rows (next ∷ others) in
    let more = joined_chars next.chars others in
    let cs = drop at (joined_chars chars rows) in
    let longer = joined_longer chars rows in
    let ends = joined_ends at chars rows within in
    let text : drop at (joined_chars chars (rows ++ next ∷ others)) ≡ cs ++ ended_by (Some more) = ap (drop at) (joined_append chars rows (next ∷ others)) ∙ drop-append-le at (joined_chars chars rows) (ended_by (Some more)) (omega arith) in
    let is = ap (λ t. flow_lines t all) text ∙ flow_lines_are (cs ++ ended_by (Some more)) all in
    is ∙ closed_within all (length rows) 0 0 0 false cs more (omega arith) (omega arith) (omega arith) ∙ sym (flow_lines_are cs (length rows))

-- how many lines a block scalar takes, by its content's indentation
abbrev taken_by : Option ℕ → List (List ℕ) → ℕ
taken_by None lines = empty_len lines
taken_by (Some indent) lines = content_len indent lines

taken_is : (indent : Option ℕ) (lines : List (List ℕ)) → (block_with false Clip indent lines).1 ≡ taken_by indent lines
taken_is None lines = refl
taken_is (Some indent) lines = refl

-- lines of a run that ends within some lines, whatever stands behind them
run_within : (b : Bool) (m n k : ℕ) → (m ≤ k → m ≡ n) → (if b then m + 1 else 0) ≤ suc k → (if b then m + 1 else 0) ≡ (if b then n + 1 else 0)
run_within true m n k rest h = ap (λ n. n + 1) (rest (omega arith))
run_within false m n k rest h = refl

content_within : (indent : ℕ) (lines others : List (List ℕ)) → content_len indent (lines ++ others) ≤ length lines → content_len indent (lines ++ others) ≡ content_len indent lines
content_within indent [] others h = omega arith
content_within indent (line ∷ lines) others h =
    run_within (is_all_spaces line || nat_le indent (spaces line)) (content_len indent (lines ++ others)) (content_len indent lines) (length lines) (content_within indent lines others) h

empty_within : (lines others : List (List ℕ)) → empty_len (lines ++ others) ≤ length lines → empty_len (lines ++ others) ≡ empty_len lines
empty_within [] others h = omega arith
empty_within (line ∷ lines) others h = run_within (is_all_spaces line) (empty_len (lines ++ others)) (empty_len lines) (length lines) (empty_within lines others) h

-- the first line of content is taken
content_some : (parent indent : ℕ) (lines : List (List ℕ)) → content_indent parent lines ≡ Some indent → 1 ≤ content_len indent lines
content_some parent indent [] h = absurd (cc)
content_some parent indent (line ∷ lines) h = by (is_all_spaces line) (nat_lt parent (spaces line)) h
  where
    by : (empty deeper : Bool) → (if empty then content_indent parent lines else (if deeper then Some (spaces line) else None)) ≡ Some indent → 1 ≤ (if empty || nat_le indent (spaces line) then content_len indent lines + 1 else 0)
    by true deeper h = omega arith
    by false true h =
        let same : spaces line ≡ indent = cc in
        let deep = le-leb indent (spaces line) (omega arith) in
        rw deep (omega arith)
    by false false h = absurd (cc)

-- either the content's indentation is known by some lines, or these are all empty
record IsEmpty (parent : ℕ) (lines others : List (List ℕ)) : Type 0 where
  none : content_indent parent lines ≡ None
  later : content_indent parent (lines ++ others) ≡ content_indent parent others
  all : (indent : ℕ) → content_len indent (lines ++ others) ≡ length lines + content_len indent others

known : (parent : ℕ) (lines others : List (List ℕ)) → (content_indent parent (lines ++ others) ≡ content_indent parent lines) ⊎ IsEmpty parent lines others
known parent [] others = inr (record { none = refl; later = refl; all = λ indent. omega arith })
known parent (line ∷ lines) others =
    elim (cases_Bool (is_all_spaces line)) [
      | inl empty ↦
          elim (known parent lines others) [
            | inl same ↦ inl (rw empty same)
            | inr is ↦ inr (record { none = rw empty is.none; later = rw empty is.later; all = λ indent. let rest = is.all indent in rw empty (omega arith) })
          ]
      | inr black ↦ inl (rw black refl)
    ]

block_within : (parent : ℕ) (lines others : List (List ℕ)) → (block_of false Clip parent (lines ++ others)).1 ≤ length lines → (block_of false Clip parent (lines ++ others)).1 ≡ (block_of false Clip parent lines).1
block_within parent lines others few =
    let old = taken_is (content_indent parent (lines ++ others)) (lines ++ others) in
    let new = taken_is (content_indent parent lines) lines in
    let within : taken_by (content_indent parent (lines ++ others)) (lines ++ others) ≤ length lines = omega arith in
    let same : taken_by (content_indent parent (lines ++ others)) (lines ++ others) ≡ taken_by (content_indent parent lines) lines =
    elim (known parent lines others) [
      | inl same ↦ ap (λ indent. taken_by indent (lines ++ others)) same ∙ by (content_indent parent lines) (subst (λ indent. taken_by indent (lines ++ others) ≤ length lines) same within)
      | inr is ↦ later is (content_indent parent others) refl within
    ] in
    old ∙ same ∙ sym new
  where
    by : (indent : Option ℕ) → taken_by indent (lines ++ others) ≤ length lines → taken_by indent (lines ++ others) ≡ taken_by indent lines
    by None h = empty_within lines others h
    by (Some indent) h = content_within indent lines others h

    later : IsEmpty parent lines others → (indent : Option ℕ) → indent ≡ content_indent parent others → taken_by (content_indent parent (lines ++ others)) (lines ++ others) ≤ length lines
        → taken_by (content_indent parent (lines ++ others)) (lines ++ others) ≡ taken_by (content_indent parent lines) lines
    later is None e h =
        let none = is.later ∙ sym e in
        ap (λ indent. taken_by indent (lines ++ others)) none ∙ empty_within lines others (subst (λ indent. taken_by indent (lines ++ others) ≤ length lines) none h) ∙ ap (λ indent. taken_by indent lines) (sym is.none)
    later is (Some indent) e h =
        let some = is.later ∙ sym e in
        let sum = is.all indent in
        let first = content_some parent indent others (sym e) in
        let few = subst (λ indent. taken_by indent (lines ++ others) ≤ length lines) some h in
        absurd (omega arith)

-- what belongs to a line within some lines doesn't depend on what stands behind them
pub belonging_within : (head : ℕ × ℕ) (row : Row) (rows others : List Row) → belonging head row (rows ++ others) ≤ length rows → belonging head row (rows ++ others) ≡ belonging head row rows
belonging_within head row rows [] few = ap (belonging head row) (append-nil rows)
belonging_within head row rows (next ∷ others) few = by (begins_flow (drop head.1 row.chars)) (begins_block (drop head.1 row.chars)) refl few
  where
    some_flow : (cs : List ℕ) → begins_flow cs ≡ true → 1 ≤ length cs
    some_flow [] h = absurd (cc)
    some_flow (c ∷ cs) h = omega arith

    block_by : (block_of false Clip head.0 (lines_of_rows (rows ++ next ∷ others))).1 ≤ length rows → (block_of false Clip head.0 (lines_of_rows (rows ++ next ∷ others))).1 ≡ (block_of false Clip head.0 (lines_of_rows rows)).1
    block_by few =
        let append = map-append (λ (row : Row). row.chars) rows (next ∷ others) in
        let len = length-map rows (λ (row : Row). row.chars) in
        let lines = ap (λ lines. (block_of false Clip head.0 lines).1) append in
        lines ∙ block_within head.0 (lines_of_rows rows) (lines_of_rows (next ∷ others)) (omega arith)

    by : (flows blocks : Bool) → begins_flow (drop head.1 row.chars) ≡ flows
        → (if flows then flow_lines (drop (head.1 + 1) (joined_chars row.chars (rows ++ next ∷ others))) (length (rows ++ next ∷ others)) else (if blocks then (block_of false Clip head.0 (lines_of_rows (rows ++ next ∷ others))).1 else 0)) ≤ length rows
        → (if flows then flow_lines (drop (head.1 + 1) (joined_chars row.chars (rows ++ next ∷ others))) (length (rows ++ next ∷ others)) else (if blocks then (block_of false Clip head.0 (lines_of_rows (rows ++ next ∷ others))).1 else 0))
        ≡ (if flows then flow_lines (drop (head.1 + 1) (joined_chars row.chars rows)) (length rows) else (if blocks then (block_of false Clip head.0 (lines_of_rows rows)).1 else 0))
    by true blocks e few =
        let some = some_flow (drop head.1 row.chars) e in
        let left = length-drop head.1 row.chars in
        flow_within (head.1 + 1) row.chars rows next others (omega arith) few
    by false true e few = block_by few
    by false false e few = refl

-- a place over which nothing goes is within the lines before it
taken_within : (owner skip : ℕ) (rows others : List Row) → taken_behind owner skip rows others ≡ 0 → skip ≤ length rows
taken_within owner skip [] others h = omega arith
taken_within owner zero (row ∷ rows) others h = omega arith
taken_within owner (suc skip) (row ∷ rows) others h = let rest = taken_within owner skip rows others h in omega arith

-- a line and those behind it, where nothing goes over the place behind them
group_before : (head : ℕ × ℕ) (row : Row) (rows others others' : List Row)
    → ((skip : ℕ) → taken_behind head.0 skip rows others ≡ 0 → taken_behind head.0 skip rows others' ≡ 0 → grouped head.0 skip (rows ++ others) ≡ grouped head.0 skip (rows ++ others'))
    → taken_behind head.0 (belonging head row (rows ++ others)) rows others ≡ 0 → taken_behind head.0 (belonging head row (rows ++ others')) rows others' ≡ 0
    → ◌≡◌ {A = List LogicalLine} (with_lines head.1 row (take (belonging head row (rows ++ others)) (rows ++ others)) ∷ grouped head.0 (belonging head row (rows ++ others)) (rows ++ others))
    (with_lines head.1 row (take (belonging head row (rows ++ others')) (rows ++ others')) ∷ grouped head.0 (belonging head row (rows ++ others')) (rows ++ others'))
group_before head row rows others others' later h h' =
    let n = belonging head row rows in
    let few = taken_within head.0 (belonging head row (rows ++ others)) rows others h in
    let few' = taken_within head.0 (belonging head row (rows ++ others')) rows others' h' in
    let e = belonging_within head row rows others few in
    let e' = belonging_within head row rows others' few' in
    let within : n ≤ length rows = omega arith in
    let taken = take-append-le n rows others within ∙ sym (take-append-le n rows others' within) in
    let rest = later n (subst (λ m. taken_behind head.0 m rows others ≡ 0) e h) (subst (λ m. taken_behind head.0 m rows others' ≡ 0) e' h') in
    ap (λ m. with_lines head.1 row (take m (rows ++ others)) ∷ grouped head.0 m (rows ++ others)) e
    ∙ (λ i. with_lines head.1 row (taken i) ∷ rest i)
    ∙ sym (ap (λ m. with_lines head.1 row (take m (rows ++ others')) ∷ grouped head.0 m (rows ++ others')) e')

blank_or_not : (blank : Bool) {xs ys xs' ys' : List LogicalLine} {a b a' b' : ℕ} → (a ≡ 0 → a' ≡ 0 → xs ≡ xs') → (b ≡ 0 → b' ≡ 0 → ys ≡ ys') → (if blank then a else b) ≡ 0 → (if blank then a' else b') ≡ 0
    → (if blank then xs else ys) ≡ (if blank then xs' else ys')
blank_or_not true p q h h' = p h h'
blank_or_not false p q h h' = q h h'

-- lines behind which nothing goes over are grouped alike before lines that are grouped alike
pub grouped_before : (owner skip : ℕ) (rows others others' : List Row) → taken_behind owner skip rows others ≡ 0 → taken_behind owner skip rows others' ≡ 0 → ((owner : ℕ) → grouped owner 0 others ≡ grouped owner 0 others')
    → grouped owner skip (rows ++ others) ≡ grouped owner skip (rows ++ others')
grouped_before owner zero [] others others' h h' same = same owner
grouped_before owner (suc skip) [] others others' h h' same = absurd (omega arith)
grouped_before owner (suc skip) (row ∷ rows) others others' h h' same = grouped_before owner skip rows others others' h h' same
grouped_before owner zero (row ∷ rows) others others' h h' same =
    let head = head_of owner 0 0 row.chars in
    blank_or_not (is_blank row.chars) (λ h h'. grouped_before owner 0 rows others others' h h' same)
    (λ h h'. group_before head row rows others others' (λ skip h h'. grouped_before head.0 skip rows others others' h h' same) h h') h h'
