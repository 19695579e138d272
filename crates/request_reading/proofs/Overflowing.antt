-- Bytes that are a head with more lines than the limit, but for their last empty line, pass the limit.
use Rattle.std.proofs.Common.{◌≡◌, ℕ, zero, suc, ◌+◌, ◌-◌, ◌<◌, ◌≤◌, Bool, true, false, not, cond, ◌&&◌, ◌==◌, nat_lt, List, [], ◌∷◌, ◌++◌, length, map, drop, refl, sym, ap, ◌∙◌, subst, arith, append_assoc, true≢false}
use Rattle.std.proofs.Math.Seq.{drop-append_seam}
use Rattle.std.proofs.lemmas.Bool.{eqb-true, lt-ltb}
use Rattle.std.proofs.lemmas.List.{append-nil, append_cancel_right}
use Rattle.std.proofs.lemmas.List.Elements.{All-head, All-tail}
use Rattle.std.specs.List.{prefix_len}
use Rattle.std.specs.Prelude.{All, IsTrue}
use Rattle.std.specs.Str.{bytes_eq}
use Rattle.tree_base.specs.Limits.{most_head_bytes, most_header_lines}
use Rattle.httparse.proofs.GrammarLemmas.{cons-append, print_request-append}
use Rattle.httparse.proofs.OnLiterals.{httparse_on_literals}
use Rattle.httparse.specs.Ascii.{line_feed, carriage_return}
use Rattle.httparse.specs.Grammar.{AllPass, Field, IsField, IsRequestHead, LineEnd, crlf, lf, RequestHead, is_token_byte, is_uri_byte, is_value_byte, print_blank, print_end, print_request, print_section, print_version}
use Rattle.response_laws.proofs.Cutting.{AreTexts, IsText, one_more, sent, sent-append, text-append, text-pass, texts-append, whole_sent}
use Rattle.response_laws.proofs.Printed.{end_text, field_text, section_lines, section_sent}
use Rattle.response_rules.specs.Lines.{blank_lines, filled_lines, head_part, is_empty_line, part_of, passed, whole_lines}

-- ---- lines are texts

token_feed : is_token_byte 10 ≡ false
unfolding httparse_on_literals
token_feed = refl

token_return : is_token_byte 13 ≡ false
unfolding httparse_on_literals
token_return = refl

end_is_text : (end : LineEnd) → IsText (end_text end)
end_is_text crlf = refl
end_is_text lf = refl

end_is_empty : (end : LineEnd) → is_empty_line (end_text end) ≡ true
end_is_empty crlf = refl
end_is_empty lf = refl

version_is_text : (minor : ℕ) → minor ≤ 1 → IsText (print_version minor)
version_is_text zero h = refl
version_is_text (suc zero) h = refl
version_is_text (suc (suc m)) h = absurd (omega (arith, h))

-- the text of the request line
abbrev start_text : RequestHead → List ℕ
start_text h = h.method ++ 32 ∷ (h.target ++ 32 ∷ (print_version h.minor ++ end_text h.line_end))

abbrev head_lines : RequestHead → List (List ℕ)
head_lines h = map end_text h.blank ++ start_text h ∷ section_lines h.fields h.last

start_is_text : (h : RequestHead) → IsRequestHead h → IsText (start_text h)
start_is_text h is =
    text-append h.method (32 ∷ (h.target ++ 32 ∷ (print_version h.minor ++ end_text h.line_end))) (text-pass is_token_byte token_feed h.method is.method.1)
    (text-append h.target (32 ∷ (print_version h.minor ++ end_text h.line_end)) (text-pass is_uri_byte refl h.target is.target.1)
    (text-append (print_version h.minor) (end_text h.line_end) (version_is_text h.minor is.minor) (end_is_text h.line_end)))

end_sent : (end : LineEnd) → print_end end ≡ end_text end ++ line_feed ∷ []
end_sent crlf = refl
end_sent lf = refl

blanks_sent : (blank : List LineEnd) → print_blank blank ≡ sent (map end_text blank)
blanks_sent [] = refl
blanks_sent (end ∷ blank) = ap (λ (m : List ℕ). m ++ print_blank blank) (end_sent end) ∙ ap (λ (m : List ℕ). (end_text end ++ line_feed ∷ []) ++ m) (blanks_sent blank)

head_sent : (h : RequestHead) → print_request h ≡ sent (head_lines h)
head_sent h =
    sym (append-nil (print_request h)) ∙ print_request-append h []
    ∙ ap (λ (e : List ℕ). print_blank h.blank ++ (h.method ++ 32 ∷ (h.target ++ 32 ∷ (print_version h.minor ++ (e ++ (print_section h.fields h.last ++ [])))))) (end_sent h.line_end)
    ∙ regroup (print_blank h.blank) h.method h.target (print_version h.minor) (end_text h.line_end) (print_section h.fields h.last)
    ∙ ap (λ (b : List ℕ). b ++ ((start_text h ++ 10 ∷ []) ++ print_section h.fields h.last)) (blanks_sent h.blank)
    ∙ ap (λ (s : List ℕ). sent (map end_text h.blank) ++ ((start_text h ++ 10 ∷ []) ++ s)) (section_sent h.fields h.last)
    ∙ sym (sent-append (map end_text h.blank) (start_text h ∷ section_lines h.fields h.last))
  where
    regroup : (b m t v e s : List ℕ) → b ++ (m ++ 32 ∷ (t ++ 32 ∷ (v ++ ((e ++ 10 ∷ []) ++ (s ++ []))))) ≡ b ++ (((m ++ 32 ∷ (t ++ 32 ∷ (v ++ e))) ++ 10 ∷ []) ++ s)
    regroup b m t v e s = simp (append_assoc, cons-append, append-nil)

field_is_text : (f : Field) → IsField f → IsText (field_text f)
field_is_text f is =
    text-append f.name (58 ∷ (f.raw ++ end_text f.end)) (text-pass is_token_byte token_feed f.name is.name.1)
    (text-append f.raw (end_text f.end) (text-pass is_value_byte refl f.raw is.raw) (end_is_text f.end))

fields_are_texts : (fields : List Field) → All IsField fields → AreTexts (map field_text fields)
fields_are_texts [] all = tt
fields_are_texts (f ∷ fields) all = (field_is_text f (All-head IsField f fields all), fields_are_texts fields (All-tail IsField f fields all))

blanks_are_texts : (blank : List LineEnd) → AreTexts (map end_text blank)
blanks_are_texts [] = tt
blanks_are_texts (end ∷ blank) = (end_is_text end, blanks_are_texts blank)

-- ---- a field's line is filled

filled_by : (b : ℕ) (more : List ℕ) → (b == carriage_return) ≡ false → is_empty_line (b ∷ more) ≡ false
filled_by b more e = at (b == carriage_return) (bytes_eq more []) e
  where
    at : (v rest : Bool) → v ≡ false → (v && rest) ≡ false
    at true rest e = absurd (true≢false e)
    at false rest e = refl

token_is_no_return : (b : ℕ) → is_token_byte b ≡ true → (b == carriage_return) ≡ false
token_is_no_return b token = at (b == carriage_return) refl
  where
    at : (v : Bool) → (b == carriage_return) ≡ v → v ≡ false
    at false e = refl
    at true e =
        let same : b ≡ 13 = eqb-true b 13 e in
        absurd (true≢false (sym token ∙ ap is_token_byte same ∙ token_return))

field_is_filled : (f : Field) → IsField f → is_empty_line (field_text f) ≡ false
field_is_filled f is = at f.name is.name.0 is.name.1
  where
    at : (name : List ℕ) → 0 < length name → AllPass is_token_byte name → is_empty_line (name ++ 58 ∷ (f.raw ++ end_text f.end)) ≡ false
    at [] some all = absurd (omega (arith, some))
    at (b ∷ name) some all = filled_by b (name ++ 58 ∷ (f.raw ++ end_text f.end)) (token_is_no_return b (All-head (λ x. IsTrue (is_token_byte x)) b name all))

start_is_filled : (h : RequestHead) → IsRequestHead h → is_empty_line (start_text h) ≡ false
start_is_filled h is = at h.method is.method.0 is.method.1
  where
    at : (name : List ℕ) → 0 < length name → AllPass is_token_byte name → is_empty_line (name ++ 32 ∷ (h.target ++ 32 ∷ (print_version h.minor ++ end_text h.line_end))) ≡ false
    at [] some all = absurd (omega (arith, some))
    at (b ∷ name) some all =
        filled_by b (name ++ 32 ∷ (h.target ++ 32 ∷ (print_version h.minor ++ end_text h.line_end)))
        (token_is_no_return b (All-head (λ x. IsTrue (is_token_byte x)) b name all))

blanks_count : (blank : List LineEnd) (line : List ℕ) (more : List (List ℕ)) → is_empty_line line ≡ false
    → blank_lines (map end_text blank ++ line ∷ more) ≡ length (map end_text blank)
blanks_count [] line more e = ap (λ (b : Bool). cond b (1 + prefix_len is_empty_line more) 0) e
blanks_count (end ∷ blank) line more e =
    ap (λ (b : Bool). cond b (1 + blank_lines (map end_text blank ++ line ∷ more)) 0) (end_is_empty end) ∙ ap (λ (n : ℕ). 1 + n) (blanks_count blank line more e) ∙ one_more (length (map end_text blank))

fields_at_least : (fields : List Field) (more : List (List ℕ)) → All IsField fields → length fields ≤ filled_lines (map field_text fields ++ more)
fields_at_least [] more all = omega arith
fields_at_least (f ∷ fields) more all =
    let here : filled_lines (map field_text (f ∷ fields) ++ more) ≡ 1 + filled_lines (map field_text fields ++ more) =
    ap (λ (b : Bool). cond (not b) (1 + filled_lines (map field_text fields ++ more)) 0) (field_is_filled f (All-head IsField f fields all)) in
    omega (arith, here, fields_at_least fields more (All-tail IsField f fields all))

chosen : {A : Type 0} (v : Bool) (a b : A) → v ≡ true → cond v a b ≡ a
chosen true a b e = refl
chosen false a b e = absurd (true≢false (sym e))

over : (room most blank filled : ℕ) (bytes : List ℕ) → most < filled → part_of room most blank filled bytes ≡ passed
over room most blank filled bytes h = chosen (nat_lt most filled) _ _ (lt-ltb most filled h)

-- what stands before the empty line, with bytes behind it
front_is : (ls : List (List ℕ)) (last : LineEnd) (front printed : List ℕ) → front ++ print_end lf ≡ printed ++ [] → printed ≡ sent (ls ++ end_text last ∷ [])
    → front ≡ sent ls ++ end_text last
front_is ls last front printed e s =
    append_cancel_right front (sent ls ++ end_text last) (line_feed ∷ [])
    (e ∙ append-nil printed ∙ s ∙ sent-append ls (end_text last ∷ []) ∙ ap (λ (m : List ℕ). sent ls ++ m) (append-nil (end_text last ++ line_feed ∷ []))
    ∙ sym (append_assoc (sent ls) (end_text last) (line_feed ∷ [])))

-- a head past the limit
pub head_over : (h : RequestHead) (front rest more : List ℕ) (before : ℕ) → IsRequestHead h → most_header_lines < length h.fields
    → front ++ print_end lf ≡ print_request h ++ [] → head_part before ((front ++ rest) ++ more) ≡ passed
head_over h front rest more before is many e =
    let blanks = map end_text h.blank in
    let fields = map field_text h.fields in
    let ls = blanks ++ start_text h ∷ fields in
    let bytes = (front ++ rest) ++ more in
    let behind = end_text h.last ++ (rest ++ more) in
    let lines_are : head_lines h ≡ ls ++ end_text h.last ∷ [] = sym (append_assoc blanks (start_text h ∷ fields) (end_text h.last ∷ [])) in
    let cut : bytes ≡ sent ls ++ behind =
    ap (λ (f : List ℕ). (f ++ rest) ++ more) (front_is ls h.last front (print_request h) e (head_sent h ∙ ap sent lines_are))
    ∙ append_assoc (sent ls ++ end_text h.last) rest more ∙ append_assoc (sent ls) (end_text h.last) (rest ++ more) in
    let texts : AreTexts ls = texts-append blanks (start_text h ∷ fields) (blanks_are_texts h.blank) (start_is_text h is, fields_are_texts h.fields is.fields) in
    let whole : whole_lines bytes ≡ blanks ++ start_text h ∷ (fields ++ whole_lines behind) =
    ap whole_lines cut ∙ whole_sent ls behind texts ∙ append_assoc blanks (start_text h ∷ fields) (whole_lines behind) in
    let blank : blank_lines (whole_lines bytes) ≡ length blanks = ap blank_lines whole ∙ blanks_count h.blank (start_text h) (fields ++ whole_lines behind) (start_is_filled h is) in
    let dropped : drop (blank_lines (whole_lines bytes)) (whole_lines bytes) ≡ start_text h ∷ (fields ++ whole_lines behind) =
    ap (λ (n : ℕ). drop n (whole_lines bytes)) blank ∙ ap (drop (length blanks)) whole ∙ drop-append_seam blanks (start_text h ∷ (fields ++ whole_lines behind)) in
    let some : length h.fields ≤ filled_lines (fields ++ whole_lines behind) = fields_at_least h.fields (whole_lines behind) is.fields in
    let count : 1 + length h.fields ≤ filled_lines (drop (blank_lines (whole_lines bytes)) (whole_lines bytes)) =
    subst (λ (w : List (List ℕ)). 1 + length h.fields ≤ filled_lines w) (sym dropped)
    (let here : filled_lines (start_text h ∷ (fields ++ whole_lines behind)) ≡ 1 + filled_lines (fields ++ whole_lines behind) =
    ap (λ (b : Bool). cond (not b) (1 + filled_lines (fields ++ whole_lines behind)) 0) (start_is_filled h is) in
    omega (arith, some, here)) in
    over (most_head_bytes - before) (most_header_lines + 1) (blank_lines (whole_lines bytes)) (filled_lines (drop (blank_lines (whole_lines bytes)) (whole_lines bytes))) bytes (omega (arith, count, many))
