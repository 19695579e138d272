-- Steps of the scan of a flow collection: over a token, and over the rows of a text one after another.
use Rattle.std.proofs.Common.{◌≡◌, ◌∙◌, ℕ, zero, suc, ◌+◌, ◌-◌, ◌<◌, ◌≤◌, ◌==◌, ◌||◌, ◌&&◌, List, [], ◌∷◌, ◌++◌, Bool, true, false, Some, get_or, take, drop, length, refl, sym, ap, arith, if◌then◌else◌}
use Rattle.std.proofs.lemmas.Bool.{eqb-true}
use Rattle.std.proofs.lemmas.List.{append-nil, at_drop_all, at_drop_more, drop-drop, get_or-drop, length-append, length-drop}
use Rattle.yaml_lines.specs.declared.row.Row.{Row}
use Rattle.yaml_groups.specs.Cuts.{is_closing, is_space, open_behind, token_len}
use Rattle.yaml_groups.specs.Grouped.{flow_lines, line_ends_in}
use Rattle.yaml_groups.specs.Parts.{closes, ends_with, led, scanned}
use Rattle.yaml_groups.specs.declared.scan.Scan.{Scan}
use Rattle.yaml_groups.proofs.CutSteps.{space_at, space_before}
use Rattle.yaml_groups.proofs.FlowEnds.{ends_to_close, flow_lines_are}
use Rattle.yaml_groups.proofs.LineEnds.{token_end, token_within}

-- a scan that has come to the closing bracket
abbrev closed_at : ℕ → ℕ → Scan
closed_at ends n = record { ends = ends; brackets = n; closed = true }

ends_sum : (ends c n : ℕ) → ends_with ends c + n ≡ ends + (if c == 10 then n + 1 else n)
ends_sum ends c n = by (c == 10)
  where
    by : (b : Bool) → (if b then ends + 1 else ends) + n ≡ ends + (if b then n + 1 else n)
    by true = omega arith
    by false = refl

-- a token that began before is passed over
passes : (ends n k : ℕ) (white : Bool) (cs : List ℕ) → k ≤ length cs → scanned ends n k white cs ≡ scanned (ends + line_ends_in (take k cs)) n 0 (space_before white k cs) (drop k cs)
passes ends n zero white cs h = let none : ends ≡ ends + 0 = omega arith in ap (λ e. scanned e n 0 white cs) none
passes ends n (suc k) white [] h = absurd (omega arith)
passes ends n (suc k) white (c ∷ cs) h =
    passes (ends_with ends c) n k (is_space c) cs (omega arith)
    ∙ ap (λ e. scanned e n 0 (space_before (is_space c) k cs) (drop k cs)) (ends_sum ends c (line_ends_in (take k cs)))

-- a token that stands in front is passed over
token_step : (ends n m c : ℕ) (white : Bool) (cs : List ℕ) → 0 < length cs → c ≡ get_or cs 0 c → closes n c ≡ false → m + 1 ≤ length cs → m ≡ token_len white cs - 1
    → scanned ends n 0 white cs ≡ scanned (ends + line_ends_in (take (m + 1) cs)) (open_behind n c) 0 (space_before white (m + 1) cs) (drop (m + 1) cs)
token_step ends n m c white [] h e goes w t = absurd (omega arith)
token_step ends n m c white (d ∷ cs) h e goes w t =
    let k : m + 1 ≡ suc m = omega arith in
    let p = passes (ends_with ends d) (open_behind n d) m (is_space d) cs (omega arith) in
    let sum = ends_sum ends d (line_ends_in (take m cs)) in
    let q : closes n d ≡ false = rw e at goes in
    rw (e, q, ← t, k) (p ∙ ap (λ e. scanned e (open_behind n d) 0 (space_before (is_space d) m cs) (drop m cs)) sum)

-- a step of the loop over tokens
pub scan_step : (ends ends' n n' i m : ℕ) (white white' : Bool) (cs : List ℕ) (c d : ℕ) (total : Scan) → c ≡ get_or cs i c → closes n c ≡ false → n' ≡ open_behind n c → 0 < m → i + m ≤ length cs
    → m - 1 ≡ token_len white (drop i cs) - 1 → white' ≡ is_space (get_or cs (i + m - 1) d) → ends' ≡ ends + line_ends_in (take m (drop i cs)) → scanned ends n 0 white (drop i cs) ≡ total
    → scanned ends' n' 0 white' (drop (i + m) cs) ≡ total
scan_step ends ends' n n' i m white white' cs c d total e goes o more w t s f so_far =
    let rest = drop i cs in
    let l = length-drop i cs in
    let one : m - 1 + 1 ≡ m = omega arith in
    let here : i ≡ i + 0 = omega arith in
    let last : i + (m - 1) ≡ i + m - 1 = omega arith in
    let first : c ≡ get_or rest 0 c = e ∙ ap (λ k. get_or cs k c) here ∙ sym (get_or-drop i cs 0 c) in
    let space : space_before white (m - 1 + 1) rest ≡ white' =
    space_at white (m - 1) rest d (omega arith) ∙ ap is_space (get_or-drop i cs (m - 1) d ∙ ap (λ k. get_or cs k d) last) ∙ sym s in
    let step = token_step ends n (m - 1) c white rest (omega arith) first goes (omega arith) t in
    let count : ends + line_ends_in (take (m - 1 + 1) rest) ≡ ends' = ap (λ k. ends + line_ends_in (take k rest)) one ∙ sym f in
    let behind : drop (m - 1 + 1) rest ≡ drop (i + m) cs = ap (λ k. drop k rest) one ∙ drop-drop m i cs in
    sym (step ∙ (λ k. scanned (count k) (sym o k) 0 (space k) (behind k))) ∙ so_far

pub closed_here : (ends n i c : ℕ) (white : Bool) (cs : List ℕ) (total : Scan) → i < length cs → c ≡ get_or cs i c → closes n c ≡ true → scanned ends n 0 white (drop i cs) ≡ total
    → ◌≡◌ {A = Scan} (record { ends = ends; brackets = n; closed = true }) total
closed_here ends n i c white cs total w e closing so_far =
    let here = at_drop_more (scanned ends n 0 white) cs i c w ∙ ap (λ x. scanned ends n 0 white (x ∷ drop (i + 1) cs)) (sym e) in
    let closed : scanned ends n 0 white (c ∷ drop (i + 1) cs) ≡ closed_at ends n = rw closing refl in
    sym (here ∙ closed) ∙ so_far

-- a scan that goes on behind a line's end, where it hasn't ended
abbrev pub behind : Scan → List ℕ → Scan
behind scan [] = scan
behind scan (c ∷ cs) = if scan.closed then scan else scanned (scan.ends + 1) scan.brackets 0 true cs

-- what stands before a line's end is scanned alone
split : (ends n skip : ℕ) (white : Bool) (cs more : List ℕ) → skip ≤ length cs → scanned ends n skip white (cs ++ 10 ∷ more) ≡ behind (scanned ends n skip white cs) (10 ∷ more)
split ends n zero white [] more h = refl
split ends n (suc skip) white [] more h = absurd (omega arith)
split ends n (suc skip) white (c ∷ cs) more h = split (ends_with ends c) n skip (is_space c) cs more (omega arith)
split ends n zero white (c ∷ cs) more h =
    let same = token_end white c cs (Some more) in
    let inside = token_within white c cs in
    let text = cs ++ 10 ∷ more in
    let skip = token_len white (c ∷ cs) - 1 in
    ap (λ len. if closes n c then closed_at ends n else scanned (ends_with ends c) (open_behind n c) (len - 1) (is_space c) text) same
    ∙ by (closes n c) (scanned (ends_with ends c) (open_behind n c) skip (is_space c) text) (scanned (ends_with ends c) (open_behind n c) skip (is_space c) cs)
    (split (ends_with ends c) (open_behind n c) skip (is_space c) cs more (omega arith))
  where
    by : (b : Bool) (on rest : Scan) → on ≡ behind rest (10 ∷ more) → (if b then closed_at ends n else on) ≡ behind (if b then closed_at ends n else rest) (10 ∷ more)
    by true on rest h = refl
    by false on rest h = h

-- the rows that follow are scanned behind the first
pub rows_behind : (ends n : ℕ) (white : Bool) (cs : List ℕ) (rows : List Row) → scanned ends n 0 white (cs ++ led rows) ≡ behind (scanned ends n 0 white cs) (led rows)
rows_behind ends n white cs [] = ap (scanned ends n 0 white) (append-nil cs)
rows_behind ends n white cs (row ∷ rows) = split ends n 0 white cs (row.chars ++ led rows) (omega arith)

-- a row more is scanned
pub row_step : (scan scan' : Scan) (rows : List Row) (i : ℕ) (row : Row) (total : Scan) → i < length rows → row ≡ get_or rows i row → scan.closed ≡ false → scan' ≡ scanned (scan.ends + 1) scan.brackets 0 true row.chars
    → behind scan (led (drop i rows)) ≡ total → behind scan' (led (drop (i + 1) rows)) ≡ total
row_step scan scan' rows i row total w e goes s so_far =
    let later = led (drop (i + 1) rows) in
    let here : behind scan (led (drop i rows)) ≡ behind scan (10 ∷ row.chars ++ later) = at_drop_more (λ rs. behind scan (led rs)) rows i row w ∙ ap (λ (r : Row). behind scan (10 ∷ r.chars ++ later)) (sym e) in
    let on : behind scan (10 ∷ row.chars ++ later) ≡ scanned (scan.ends + 1) scan.brackets 0 true (row.chars ++ later) = rw goes refl in
    ap (λ next. behind next later) s ∙ sym (here ∙ on ∙ rows_behind (scan.ends + 1) scan.brackets true row.chars (drop (i + 1) rows)) ∙ so_far

-- characters of one row more, and its line end
pub led_more : (rows : List Row) (i : ℕ) (row : Row) → i < length rows → row ≡ get_or rows i row → length (led (drop i rows)) ≡ length row.chars + 1 + length (led (drop (i + 1) rows))
led_more rows i row w e =
    let later = led (drop (i + 1) rows) in
    let first : length (led (drop i rows)) ≡ length (10 ∷ row.chars ++ later) = at_drop_more (λ rs. length (led rs)) rows i row w ∙ ap (λ (r : Row). length (10 ∷ r.chars ++ later)) (sym e) in
    let sum = length-append row.chars later in
    omega arith

-- the line ends before the bracket that closes, else all
abbrev pub lines_of : ℕ → Scan → ℕ
lines_of all scan = if scan.closed then scan.ends else all

no_closing : (c : ℕ) → (c == 44) ≡ true → is_closing c ≡ false
no_closing c comma = rw (eqb-true c 44 comma) refl

ends_scanned : (all count n skip : ℕ) (white : Bool) (cs : List ℕ) → ends_to_close all count n skip white cs ≡ lines_of all (scanned count n skip white cs)
ends_scanned all count n skip white [] = refl
ends_scanned all count n (suc skip) white (c ∷ cs) = ends_scanned all (ends_with count c) n skip (is_space c) cs
ends_scanned all count n zero white (c ∷ cs) =
    let skip = token_len white (c ∷ cs) - 1 in
    by (c == 44) (n == 0) (is_closing c) (ends_to_close all (ends_with count c) 0 0 false cs) (ends_to_close all (ends_with count c) (open_behind n c) skip (is_space c) cs)
    (scanned (ends_with count c) (open_behind n c) skip (is_space c) cs) (no_closing c)
    (λ p q. rw (eqb-true c 44 p, eqb-true n 0 q) (ends_scanned all (ends_with count 44) 0 0 false cs))
    (ends_scanned all (ends_with count c) (open_behind n c) skip (is_space c) cs)
  where
    by : (comma none closing : Bool) (a b : ℕ) (rest : Scan) → (comma ≡ true → closing ≡ false) → (comma ≡ true → none ≡ true → a ≡ lines_of all rest) → b ≡ lines_of all rest
        → (if none && (closing || comma) then (if comma then a else count) else b) ≡ lines_of all (if closing && none then closed_at count n else rest)
    by true none true a b rest apart p q = let wrong : true ≡ false = apart refl in absurd (cc)
    by true true false a b rest apart p q = p refl refl
    by true false false a b rest apart p q = q
    by false true true a b rest apart p q = refl
    by false false true a b rest apart p q = q
    by false true false a b rest apart p q = q
    by false false false a b rest apart p q = q

-- the rows that belong to a flow collection, by the scan of all its characters
pub flow_is : (text : List ℕ) (all : ℕ) → flow_lines text all ≡ lines_of all (scanned 0 0 0 false text)
flow_is text all = flow_lines_are text all ∙ ends_scanned all 0 0 0 false text

-- a scan that has ended doesn't go on
pub closed_scan : (scan : Scan) (cs : List ℕ) → scan.closed ≡ true → behind scan cs ≡ scan
closed_scan scan [] h = refl
closed_scan scan (c ∷ cs) h = rw h refl

pub closed_lines : (text : List ℕ) (all : ℕ) (scan : Scan) (later : List ℕ) → scan.closed ≡ true → behind scan later ≡ scanned 0 0 0 false text → scan.ends ≡ flow_lines text all
closed_lines text all scan later h so_far =
    let is : lines_of all scan ≡ scan.ends = rw h refl in
    sym (flow_is text all ∙ ap (lines_of all) (sym so_far ∙ closed_scan scan later h) ∙ is)

pub open_lines : (text : List ℕ) (all : ℕ) (scan : Scan) → scan.closed ≡ false → scan ≡ scanned 0 0 0 false text → all ≡ flow_lines text all
open_lines text all scan h is =
    let open_end : lines_of all scan ≡ all = rw h refl in
    sym (flow_is text all ∙ ap (lines_of all) (sym is) ∙ open_end)

-- behind the last row nothing is scanned
pub last_row : (scan : Scan) (rows : List Row) (i : ℕ) (total : Scan) → length rows ≤ i → behind scan (led (drop i rows)) ≡ total → scan ≡ total
last_row scan rows i total w so_far = sym (at_drop_all (λ rs. behind scan (led rs)) rows i w) ∙ so_far
