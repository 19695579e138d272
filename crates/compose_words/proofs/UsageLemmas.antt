-- The usage text, as it is put together piece by piece.
use Rattle.std.proofs.Common.{◌≡◌, ◌∙◌, ℕ, ◌+◌, ◌≤◌, List, [], ◌∷◌, ◌++◌, append-nil, append_assoc, drop, length, map, replicate, sym, ap}
use Rattle.std.proofs.lemmas.List.{drop_all, replicate_more}
use Rattle.compose_words.specs.Usage.{Shown, lines_of}

-- one line more
pub line_step : {L N : Type 0} (line : N → Shown → List ℕ) (names : L → N) (shown : L → Shown) (lines rest : List L) (x : L) (i : ℕ) (whole text new : List ℕ)
    → drop i lines ≡ x ∷ rest → drop (i + 1) lines ≡ rest → new ≡ text ++ line (names x) (shown x) → text ++ lines_of line (map names (drop i lines)) (map shown (drop i lines)) ≡ whole
    → new ++ lines_of line (map names (drop (i + 1) lines)) (map shown (drop (i + 1) lines)) ≡ whole
line_step {L} {N} line names shown lines rest x i whole text new here next put e =
    ap (λ (l : List L). new ++ lines_of line (map names l) (map shown l)) next
    ∙ ap (λ (t : List ℕ). t ++ lines_of line (map names rest) (map shown rest)) put
    ∙ append_assoc text (line (names x) (shown x)) (lines_of line (map names rest) (map shown rest))
    ∙ ap (λ (l : List L). text ++ lines_of line (map names l) (map shown l)) (sym here)
    ∙ e

-- no line is left
pub lines_done : {L N : Type 0} (line : N → Shown → List ℕ) (names : L → N) (shown : L → Shown) (lines : List L) (i : ℕ) (whole text : List ℕ)
    → length lines ≤ i → text ++ lines_of line (map names (drop i lines)) (map shown (drop i lines)) ≡ whole → text ≡ whole
lines_done {L} {N} line names shown lines i whole text past e =
    sym (append-nil text) ∙ ap (λ (l : List L). text ++ lines_of line (map names l) (map shown l)) (sym (drop_all i lines past)) ∙ e

-- one blank more
pub blank_step : (old text new : List ℕ) (count : ℕ) → text ≡ old ++ replicate count 32 → new ≡ text ++ 32 ∷ [] → new ≡ old ++ replicate (count + 1) 32
blank_step old text new count so_far put =
    put ∙ ap (λ (t : List ℕ). t ++ 32 ∷ []) so_far ∙ append_assoc old (replicate count 32) (32 ∷ []) ∙ ap (λ (l : List ℕ). old ++ l) (replicate_more count 32)
