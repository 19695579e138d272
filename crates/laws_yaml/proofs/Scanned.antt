-- Lines without control characters, each with a line feed behind it, are scanned as these lines.
use Rattle.std.proofs.Common.{◌≡◌, ◌∙◌, ℕ, zero, suc, ◌-◌, ◌<◌, Bool, true, false, eqb, All, Ok, Result, List, [], ◌∷◌, ◌++◌, flat_map, get_or, length, map, take, refl, sym, ap, append_assoc, arith}
use Rattle.std.proofs.lemmas.Bool.{and_parts, cond-false, le-ltb, leb-true, ne_eqb}
use Rattle.std.proofs.lemmas.List.{take_all}
use Rattle.std.proofs.lemmas.List.Elements.{All-cons, All-head, All-nil, All-tail}
use Rattle.std.proofs.lemmas.List.Splits.{slice_split_at}
use Rattle.std.proofs.lemmas.Str.{IsUtf8-append, IsUtf8-nil, chars_from_encodes, encode_ascii, utf8_valid_len-IsUtf8}
use Rattle.std.specs.List.{list_all, slice_split}
use Rattle.std.specs.Prelude.{nat_le}
use Rattle.std.specs.Str.{IsUtf8, encode_utf8_all}
use Rattle.std.specs.Str.Lines.{lines, lines_of_parts, strip_carriage_return}
use Rattle.std.specs.Str.Lossy.{utf8_valid_len}
use Rattle.project_print.specs.Pages.{ended}
use Rattle.yaml_lines.specs.declared.lines.Line.{Line}
use Rattle.yaml_lines.specs.declared.lines.Lines.{Lines}
use Rattle.yaml_lines.specs.declared.refusal.YamlRefusal.{YamlRefusal}
use Rattle.yaml_lines.specs.Block.{lines_of_rows}
use Rattle.yaml_lines.specs.Rows.{one_more, row_of}
use Rattle.yaml_lines.specs.Scan.{clean_len, numbered, scan_of, scanned, starts_with_byte, without_mark}
use Rattle.laws_yaml.proofs.OneLine.{last_of_three}

-- a byte of at least 32, which is no control character of C0
abbrev pub is_clean : ℕ → Bool
is_clean c = nat_le 32 c

-- a line of UTF-8 without these control characters
pub record IsCleanLine (line : List ℕ) : Type 0 where
  pub clean : list_all is_clean line ≡ true
  pub utf8 : IsUtf8 line

-- a line's end as one byte
fed : (line rest : List ℕ) → ended line ++ rest ≡ line ++ 10 ∷ rest
fed line rest = append_assoc line (10 ∷ []) rest

clean_line : (line rest : List ℕ) → list_all is_clean line ≡ true → clean_len rest ≡ length rest → clean_len (line ++ 10 ∷ rest) ≡ length (line ++ 10 ∷ rest)
clean_line [] rest clean later = omega (arith, later)
clean_line (c ∷ cs) rest clean later =
    let parts = and_parts (is_clean c) (list_all is_clean cs) clean in
    let more = clean_line cs rest parts.1 later in
    rw (le-ltb c 32 (leb-true 32 c parts.0)) (omega (arith, more))

clean_text : (texts : List (List ℕ)) → All IsCleanLine texts → clean_len (flat_map ended texts) ≡ length (flat_map ended texts)
clean_text [] all = refl
clean_text (text ∷ texts) all =
    let is = All-head IsCleanLine text texts all in
    ap clean_len (fed text (flat_map ended texts))
    ∙ clean_line text (flat_map ended texts) is.clean (clean_text texts (All-tail IsCleanLine text texts all))
    ∙ sym (ap length (fed text (flat_map ended texts)))

feed_utf8 : IsUtf8 (10 ∷ [])
feed_utf8 = (10 ∷ [], (refl, ap (λ l. l ++ []) (encode_ascii 10 (omega arith))))

utf8_text : (texts : List (List ℕ)) → All IsCleanLine texts → IsUtf8 (flat_map ended texts)
utf8_text [] all = IsUtf8-nil
utf8_text (text ∷ texts) all =
    let is = All-head IsCleanLine text texts all in
    IsUtf8-append (ended text) (flat_map ended texts) (IsUtf8-append text (10 ∷ []) is.utf8 feed_utf8) (utf8_text texts (All-tail IsCleanLine text texts all))

apart : (c k : ℕ) → is_clean c ≡ true → k < 32 → eqb c k ≡ false
apart c k clean small = let high = leb-true 32 c clean in ne_eqb c k (λ same. absurd (omega arith))

no_return : (line : List ℕ) (i : ℕ) → list_all is_clean line ≡ true → eqb (get_or line i 0) 13 ≡ false
no_return [] i clean = refl
no_return (c ∷ cs) zero clean = apart c 13 (and_parts (is_clean c) (list_all is_clean cs) clean).0 (omega arith)
no_return (c ∷ cs) (suc i) clean = no_return cs i (and_parts (is_clean c) (list_all is_clean cs) clean).1

strip_same : (line : List ℕ) → list_all is_clean line ≡ true → strip_carriage_return line ≡ line
strip_same line clean = cond-false (eqb (get_or line (length line - 1) 0) 13) (take (length line - 1) line) line (no_return line (length line - 1) clean)

no_feeds : (line : List ℕ) → list_all is_clean line ≡ true → All (λ b. eqb b 10 ≡ false) line
no_feeds [] clean = All-nil (λ b. eqb b 10 ≡ false)
no_feeds (c ∷ cs) clean =
    let parts = and_parts (is_clean c) (list_all is_clean cs) clean in
    All-cons (λ b. eqb b 10 ≡ false) c cs (apart c 10 parts.0 (omega arith)) (no_feeds cs parts.1)

parts_are : (texts : List (List ℕ)) → All IsCleanLine texts → slice_split (λ b. eqb b 10) (flat_map ended texts) ≡ texts ++ [] ∷ []
parts_are [] all = refl
parts_are (text ∷ texts) all =
    let is = All-head IsCleanLine text texts all in
    ap (slice_split (λ b. eqb b 10)) (fed text (flat_map ended texts))
    ∙ slice_split_at (λ b. eqb b 10) text 10 (flat_map ended texts) (no_feeds text is.clean) refl
    ∙ ap (λ l. text ∷ l) (parts_are texts (All-tail IsCleanLine text texts all))

lines_are : (texts : List (List ℕ)) → All IsCleanLine texts → lines_of_parts (texts ++ [] ∷ []) ≡ texts
lines_are [] all = refl
lines_are (text ∷ []) all = ap (λ line. line ∷ []) (strip_same text (All-head IsCleanLine text [] all).clean)
lines_are (text ∷ next ∷ texts) all =
    let is = All-head IsCleanLine text (next ∷ texts) all in
    let later = lines_are (next ∷ texts) (All-tail IsCleanLine text (next ∷ texts) all) in
    λ i. strip_same text is.clean i ∷ later i

no_mark : (bytes : List ℕ) → starts_with_byte 0xEF bytes ≡ false → without_mark bytes ≡ bytes
no_mark [] bare = refl
no_mark (a ∷ []) bare = refl
no_mark (a ∷ b ∷ []) bare = refl
no_mark (a ∷ b ∷ c ∷ bytes) bare = rw bare

scanned_clean : (file : ℕ) (bytes : List ℕ) → clean_len bytes ≡ length bytes → scanned file (length bytes) bytes ≡ Ok (record { file = file; lines = numbered 1 (lines bytes) })
scanned_clean file bytes clean =
    let whole : clean_len (take (length bytes) bytes) ≡ length bytes = ap clean_len (take_all (length bytes) bytes (omega arith)) ∙ clean in
    last_of_three _ _ _ _ _ (le-ltb (clean_len (take (length bytes) bytes)) (length bytes) (omega (arith, whole))) (le-ltb (length bytes) (length bytes) (omega arith))

-- the lines of a file that is made of them
pub scan_is : (file : ℕ) (texts : List (List ℕ)) → All IsCleanLine texts → starts_with_byte 0xEF (flat_map ended texts) ≡ false
    → scan_of file (flat_map ended texts) ≡ Ok (record { file = file; lines = numbered 1 texts })
scan_is file texts all bare =
    let bytes = flat_map ended texts in
    let found : List (List ℕ) → Result Lines YamlRefusal = λ texts. Ok (record { file = file; lines = numbered 1 texts }) in
    ap (λ body. scanned file (utf8_valid_len body) body) (no_mark bytes bare)
    ∙ ap (λ n. scanned file n bytes) (utf8_valid_len-IsUtf8 bytes (utf8_text texts all))
    ∙ scanned_clean file bytes (clean_text texts all)
    ∙ ap found (ap lines_of_parts (parts_are texts all) ∙ lines_are texts all)

-- their texts
pub numbered_texts : (number : ℕ) (texts : List (List ℕ)) → map (λ (line : Line). line.text) (numbered number texts) ≡ texts
numbered_texts number [] = refl
numbered_texts number (text ∷ texts) = ap (λ l. text ∷ l) (numbered_texts (one_more number) texts)

-- and their characters
pub chars_are : (number : ℕ) (lines texts : List (List ℕ)) → All IsCleanLine lines → map encode_utf8_all texts ≡ lines → lines_of_rows (map row_of (numbered number lines)) ≡ texts
chars_are number [] [] all are = refl
chars_are number [] (text ∷ texts) all are = absurd (cc)
chars_are number (line ∷ lines) [] all are = absurd (cc)
chars_are number (line ∷ lines) (text ∷ texts) all are =
    let first : encode_utf8_all text ≡ line = cc in
    let others : map encode_utf8_all texts ≡ lines = cc in
    let here = chars_from_encodes text line (All-head IsCleanLine line lines all).utf8 first in
    let later = chars_are (one_more number) lines texts (All-tail IsCleanLine line lines all) others in
    λ i. sym here i ∷ later i
