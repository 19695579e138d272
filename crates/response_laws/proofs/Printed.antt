-- Heads, chunk lines and the lines after a last chunk, as they are sent, are cut where they end.
use Rattle.std.proofs.Common.{◌≡◌, ℕ, zero, suc, ◌+◌, ◌-◌, ◌<◌, ◌≤◌, Bool, true, false, not, cond, ◌&&◌, List, [], ◌∷◌, ◌++◌, length, map, drop, Option, Some, None, ◌==◌, refl, sym, ap, ◌∙◌, subst, arith, append_assoc, true≢false}
use Rattle.std.proofs.Math.Seq.{drop-append_seam}
use Rattle.std.proofs.lemmas.Bool.{eqb-true}
use Rattle.std.proofs.lemmas.List.{append-nil, length-append, length-map}
use Rattle.std.proofs.lemmas.List.Elements.{All-head, All-tail}
use Rattle.std.specs.Char.{is_ascii_digit, is_ascii_hexdigit}
use Rattle.std.specs.List.{flat_map, prefix_len}
use Rattle.std.specs.Prelude.{All, IsTrue}
use Rattle.std.specs.Str.{bytes_eq}
use Rattle.tree_base.specs.Limits.{most_head_bytes, most_header_lines}
use Rattle.httparse.proofs.GrammarLemmas.{cons-append, print_response-append}
use Rattle.httparse.proofs.OnLiterals.{httparse_on_literals}
use Rattle.httparse.specs.Ascii.{line_feed, carriage_return}
use Rattle.httparse.specs.Grammar.{ChunkLine, Field, IsChunkLine, IsExtension, IsField, IsResponseHead, LineEnd, crlf, lf, ResponseHead, is_extension_byte, is_ows, is_token_byte, is_value_byte, print_blank, print_chunk_line, print_end, print_extension, print_field, print_reason, print_response, print_section, print_version}
use Rattle.response_rules.specs.Lines.{blank_lines, ends, filled_lines, head_part, is_empty_line, part_of, trailer_part, whole_lines, chunk_line_part}
use Rattle.response_laws.proofs.Cutting.{AreTexts, IsText, line_ends, one_more, part_ends, sent, sent-append, text-append, text-pass, texts-append, whole_sent}

-- what stands before the line feed of a line's end
abbrev pub end_text : LineEnd → List ℕ
end_text crlf = carriage_return ∷ []
end_text lf = []

end_sent : (end : LineEnd) → print_end end ≡ end_text end ++ line_feed ∷ []
end_sent crlf = refl
end_sent lf = refl

end_is_text : (end : LineEnd) → IsText (end_text end)
end_is_text crlf = refl
end_is_text lf = refl

end_is_empty : (end : LineEnd) → is_empty_line (end_text end) ≡ true
end_is_empty crlf = refl
end_is_empty lf = refl

-- the lines of a head

abbrev pub field_text : Field → List ℕ
field_text f = f.name ++ 58 ∷ (f.raw ++ end_text f.end)

abbrev pub start_text : ResponseHead → List ℕ
start_text h = print_version h.minor ++ 32 ∷ (h.digits ++ (print_reason h.reason ++ end_text h.line_end))

abbrev pub section_lines : List Field → LineEnd → List (List ℕ)
section_lines fields last = map field_text fields ++ end_text last ∷ []

abbrev pub head_lines : ResponseHead → List (List ℕ)
head_lines h = map end_text h.blank ++ start_text h ∷ section_lines h.fields h.last

blanks_sent : (blank : List LineEnd) → print_blank blank ≡ sent (map end_text blank)
blanks_sent [] = refl
blanks_sent (end ∷ blank) = ap (λ (m : List ℕ). m ++ print_blank blank) (end_sent end) ∙ ap (λ (m : List ℕ). (end_text end ++ line_feed ∷ []) ++ m) (blanks_sent blank)

field_sent : (f : Field) → print_field f ≡ field_text f ++ line_feed ∷ []
field_sent f = one_by_one f.name f.raw (print_end f.end) ∙ ap (λ (e : List ℕ). f.name ++ 58 ∷ (f.raw ++ e)) (end_sent f.end) ∙ regroup f.name f.raw (end_text f.end)
  where
    one_by_one : (n r e : List ℕ) → n ++ 58 ∷ r ++ e ≡ n ++ 58 ∷ (r ++ e)
    one_by_one n r e = simp (append_assoc, cons-append)

    regroup : (n r e : List ℕ) → n ++ 58 ∷ (r ++ (e ++ 10 ∷ [])) ≡ (n ++ 58 ∷ (r ++ e)) ++ 10 ∷ []
    regroup n r e = simp (append_assoc, cons-append)

fields_sent : (fields : List Field) → flat_map print_field fields ≡ sent (map field_text fields)
fields_sent [] = refl
fields_sent (f ∷ fields) = ap (λ (m : List ℕ). m ++ flat_map print_field fields) (field_sent f) ∙ ap (λ (m : List ℕ). (field_text f ++ line_feed ∷ []) ++ m) (fields_sent fields)

one_sent : (end : LineEnd) → sent (end_text end ∷ []) ≡ print_end end
one_sent crlf = refl
one_sent lf = refl

pub section_sent : (fields : List Field) (last : LineEnd) → print_section fields last ≡ sent (section_lines fields last)
section_sent fields last =
    ap (λ (m : List ℕ). m ++ print_end last) (fields_sent fields) ∙ ap (λ (m : List ℕ). sent (map field_text fields) ++ m) (sym (one_sent last))
    ∙ sym (sent-append (map field_text fields) (end_text last ∷ []))

pub head_sent : (h : ResponseHead) → print_response h ≡ sent (head_lines h)
head_sent h =
    sym (append-nil (print_response h)) ∙ print_response-append h []
    ∙ ap (λ (e : List ℕ). print_blank h.blank ++ (print_version h.minor ++ 32 ∷ (h.digits ++ (print_reason h.reason ++ (e ++ (print_section h.fields h.last ++ [])))))) (end_sent h.line_end)
    ∙ regroup (print_blank h.blank) (print_version h.minor) h.digits (print_reason h.reason) (end_text h.line_end) (print_section h.fields h.last)
    ∙ ap (λ (b : List ℕ). b ++ ((start_text h ++ 10 ∷ []) ++ print_section h.fields h.last)) (blanks_sent h.blank)
    ∙ ap (λ (s : List ℕ). sent (map end_text h.blank) ++ ((start_text h ++ 10 ∷ []) ++ s)) (section_sent h.fields h.last)
    ∙ sym (sent-append (map end_text h.blank) (start_text h ∷ section_lines h.fields h.last))
  where
    regroup : (b v d r e s : List ℕ) → b ++ (v ++ 32 ∷ (d ++ (r ++ ((e ++ 10 ∷ []) ++ (s ++ []))))) ≡ b ++ (((v ++ 32 ∷ (d ++ (r ++ e))) ++ 10 ∷ []) ++ s)
    regroup b v d r e s = simp (append_assoc, cons-append, append-nil)

-- they are texts

token_feed : is_token_byte 10 ≡ false
unfolding httparse_on_literals
token_feed = refl

token_return : is_token_byte 13 ≡ false
unfolding httparse_on_literals
token_return = refl

version_is_text : (minor : ℕ) → minor ≤ 1 → IsText (print_version minor)
version_is_text zero h = refl
version_is_text (suc zero) h = refl
version_is_text (suc (suc m)) h = absurd (omega (arith, h))

reason_is_text : (h : ResponseHead) → IsResponseHead h → IsText (print_reason h.reason)
reason_is_text h is = at h.reason is.reason
  where
    at : (r : Option (List ℕ)) → Rattle.httparse.specs.Grammar.AllPass is_value_byte (Rattle.httparse.specs.Grammar.reason_phrase r) → IsText (print_reason r)
    at None all = refl
    at (Some phrase) all = text-pass is_value_byte refl phrase all

start_is_text : (h : ResponseHead) → IsResponseHead h → IsText (start_text h)
start_is_text h is =
    text-append (print_version h.minor) (32 ∷ (h.digits ++ (print_reason h.reason ++ end_text h.line_end))) (version_is_text h.minor is.minor)
    (text-append h.digits (print_reason h.reason ++ end_text h.line_end) (text-pass is_ascii_digit refl h.digits is.digits.1)
    (text-append (print_reason h.reason) (end_text h.line_end) (reason_is_text h is) (end_is_text h.line_end)))

field_is_text : (f : Field) → IsField f → IsText (field_text f)
field_is_text f is =
    text-append f.name (58 ∷ (f.raw ++ end_text f.end)) (text-pass is_token_byte token_feed f.name is.name.1)
    (text-append f.raw (end_text f.end) (text-pass is_value_byte refl f.raw is.raw) (end_is_text f.end))

fields_are_texts : (fields : List Field) → All IsField fields → AreTexts (map field_text fields)
fields_are_texts [] all = tt
fields_are_texts (f ∷ fields) all = (field_is_text f (All-head IsField f fields all), fields_are_texts fields (All-tail IsField f fields all))

blanks_are_texts : (blank : List LineEnd) → AreTexts (map end_text blank)
blanks_are_texts [] = tt
blanks_are_texts (end ∷ blank) = (end_is_text end, blanks_are_texts blank)

section_is_texts : (fields : List Field) (last : LineEnd) → All IsField fields → AreTexts (section_lines fields last)
section_is_texts fields last all = texts-append (map field_text fields) (end_text last ∷ []) (fields_are_texts fields all) (end_is_text last, tt)

head_is_texts : (h : ResponseHead) → IsResponseHead h → AreTexts (head_lines h)
head_is_texts h is =
    texts-append (map end_text h.blank) (start_text h ∷ section_lines h.fields h.last) (blanks_are_texts h.blank)
    (start_is_text h is, section_is_texts h.fields h.last is.fields)

-- a line with a byte before its end that isn't the end's is filled

filled_by : (b : ℕ) (more : List ℕ) → (b == carriage_return) ≡ false → is_empty_line (b ∷ more) ≡ false
filled_by b more e = at (b == carriage_return) (bytes_eq more []) e
  where
    at : (v rest : Bool) → v ≡ false → (v && rest) ≡ false
    at true rest e = absurd (true≢false e)
    at false rest e = refl

start_is_filled : (h : ResponseHead) → is_empty_line (start_text h) ≡ false
start_is_filled h = refl

token_is_no_return : (b : ℕ) → is_token_byte b ≡ true → (b == carriage_return) ≡ false
token_is_no_return b token = at (b == carriage_return) refl
  where
    at : (v : Bool) → (b == carriage_return) ≡ v → v ≡ false
    at false e = refl
    at true e =
        let same : b ≡ 13 = eqb-true b 13 e in
        absurd (true≢false (sym token ∙ ap is_token_byte same ∙ token_return))

field_is_filled : (f : Field) → IsField f → is_empty_line (field_text f) ≡ false
field_is_filled f is = at f.name is.name.0 is.name.1
  where
    at : (name : List ℕ) → 0 < length name → Rattle.httparse.specs.Grammar.AllPass is_token_byte name → is_empty_line (name ++ 58 ∷ (f.raw ++ end_text f.end)) ≡ false
    at [] some all = absurd (omega (arith, some))
    at (b ∷ name) some all = filled_by b (name ++ 58 ∷ (f.raw ++ end_text f.end)) (token_is_no_return b (All-head (λ x. IsTrue (is_token_byte x)) b name all))

-- how many lines stand in front

abbrev is_filled_line : List ℕ → Bool
is_filled_line line = not (is_empty_line line)

blanks_count : (blank : List LineEnd) (line : List ℕ) (more : List (List ℕ)) → is_empty_line line ≡ false
    → blank_lines (map end_text blank ++ line ∷ more) ≡ length (map end_text blank)
blanks_count [] line more e = ap (λ (b : Bool). cond b (1 + prefix_len is_empty_line more) 0) e
blanks_count (end ∷ blank) line more e =
    ap (λ (b : Bool). cond b (1 + blank_lines (map end_text blank ++ line ∷ more)) 0) (end_is_empty end) ∙ ap (λ (n : ℕ). 1 + n) (blanks_count blank line more e) ∙ one_more (length (map end_text blank))

fields_count : (fields : List Field) (last : LineEnd) (more : List (List ℕ)) → All IsField fields
    → filled_lines (map field_text fields ++ end_text last ∷ more) ≡ length fields
fields_count [] last more all = ap (λ (b : Bool). cond (not b) (1 + filled_lines more) 0) (end_is_empty last)
fields_count (f ∷ fields) last more all =
    ap (λ (b : Bool). cond (not b) (1 + filled_lines (map field_text fields ++ end_text last ∷ more)) 0) (field_is_filled f (All-head IsField f fields all))
    ∙ ap (λ (n : ℕ). 1 + n) (fields_count fields last more (All-tail IsField f fields all)) ∙ one_more (length fields)

section_length : (fields : List Field) (last : LineEnd) → length (section_lines fields last) ≡ length fields + 1
section_length fields last = length-append (map field_text fields) (end_text last ∷ []) ∙ ap (λ (n : ℕ). n + 1) (length-map fields field_text)

regrouped : (fields : List Field) (last : LineEnd) (more : List (List ℕ)) → section_lines fields last ++ more ≡ map field_text fields ++ end_text last ∷ more
regrouped fields last more = append_assoc (map field_text fields) (end_text last ∷ []) more

-- the lines after a last chunk end where they are cut
module _ (fields : List Field) (last : LineEnd) (rest : List ℕ) (all : All IsField fields) where
  abbrev trailer_lines : List (List ℕ)
  trailer_lines = section_lines fields last

  trailer_texts : AreTexts trailer_lines
  trailer_texts = section_is_texts fields last all

  trailer_count : filled_lines (whole_lines (sent trailer_lines ++ rest)) ≡ length fields
  trailer_count = ap filled_lines (whole_sent trailer_lines rest trailer_texts ∙ regrouped fields last (whole_lines rest)) ∙ fields_count fields last (whole_lines rest) all

  pub trailer_ends : length fields ≤ most_header_lines → length (print_section fields last) ≤ most_head_bytes
      → trailer_part (print_section fields last ++ rest) ≡ ends (length (print_section fields last))
  trailer_ends few within =
      subst (λ (text : List ℕ). trailer_part (text ++ rest) ≡ ends (length text)) (sym (section_sent fields last))
      (ap (λ (n : ℕ). part_of most_head_bytes most_header_lines 0 n (sent trailer_lines ++ rest)) trailer_count
      ∙ part_ends most_head_bytes most_header_lines 0 (length fields) trailer_lines rest trailer_texts (let a = section_length fields last in omega (arith, a)) few
      (subst (λ (text : List ℕ). length text ≤ most_head_bytes) (section_sent fields last) within))

-- a head ends where it is cut, behind heads of so many bytes
module _ (h : ResponseHead) (rest : List ℕ) (is : IsResponseHead h) where
  abbrev ls : List (List ℕ)
  ls = head_lines h

  abbrev bytes : List ℕ
  bytes = sent ls ++ rest

  abbrev all_lines : List (List ℕ)
  all_lines = whole_lines bytes

  texts : AreTexts ls
  texts = head_is_texts h is

  abbrev behind : List (List ℕ)
  behind = start_text h ∷ (map field_text h.fields ++ end_text h.last ∷ whole_lines rest)

  cut : all_lines ≡ map end_text h.blank ++ behind
  cut = whole_sent ls rest texts ∙ append_assoc (map end_text h.blank) (start_text h ∷ section_lines h.fields h.last) (whole_lines rest)
      ∙ ap (λ (m : List (List ℕ)). map end_text h.blank ++ start_text h ∷ m) (regrouped h.fields h.last (whole_lines rest))

  blanks : blank_lines all_lines ≡ length (map end_text h.blank)
  blanks = ap blank_lines cut ∙ blanks_count h.blank (start_text h) (map field_text h.fields ++ end_text h.last ∷ whole_lines rest) (start_is_filled h)

  filled : filled_lines (drop (length (map end_text h.blank)) all_lines) ≡ 1 + length h.fields
  filled = ap (λ (m : List (List ℕ)). filled_lines (drop (length (map end_text h.blank)) m)) cut
      ∙ ap filled_lines (drop-append_seam (map end_text h.blank) behind)
      ∙ ap (λ (b : Bool). cond (not b) (1 + filled_lines (map field_text h.fields ++ end_text h.last ∷ whole_lines rest)) 0) (start_is_filled h)
      ∙ ap (λ (n : ℕ). 1 + n) (fields_count h.fields h.last (whole_lines rest) is.fields)

  count : length ls ≡ length (map end_text h.blank) + (1 + length h.fields) + 1
  count = let a = length-append (map end_text h.blank) (start_text h ∷ section_lines h.fields h.last) in let b = section_length h.fields h.last in omega (arith, a, b)

  pub head_ends : (before : ℕ) → length h.fields ≤ most_header_lines → before + length (print_response h) ≤ most_head_bytes
      → head_part before (print_response h ++ rest) ≡ ends (length (print_response h))
  head_ends before few within =
      subst (λ (text : List ℕ). head_part before (text ++ rest) ≡ ends (length text)) (sym (head_sent h))
      (ap (λ (n : ℕ). part_of (most_head_bytes - before) (most_header_lines + 1) n (filled_lines (drop n all_lines)) bytes) blanks
      ∙ ap (λ (n : ℕ). part_of (most_head_bytes - before) (most_header_lines + 1) (length (map end_text h.blank)) n bytes) filled
      ∙ part_ends (most_head_bytes - before) (most_header_lines + 1) (length (map end_text h.blank)) (1 + length h.fields) ls rest texts count (omega (arith, few))
      (let l = ap length (head_sent h) in omega (arith, l, within)))

-- chunk lines

abbrev pub chunk_text : ChunkLine → List ℕ
chunk_text l = l.digits ++ (l.pad ++ (print_extension l.extension ++ carriage_return ∷ []))

pub chunk_line_sent : (l : ChunkLine) (rest : List ℕ) → print_chunk_line l ++ rest ≡ chunk_text l ++ line_feed ∷ rest
unfolding print_chunk_line
chunk_line_sent l rest = regroup l.digits l.pad (print_extension l.extension)
  where
    regroup : (d p e : List ℕ) → (d ++ p ++ e ++ 13 ∷ 10 ∷ []) ++ rest ≡ (d ++ (p ++ (e ++ 13 ∷ []))) ++ 10 ∷ rest
    regroup d p e = simp (append_assoc, cons-append)

extension_is_text : (e : Option (List ℕ)) → IsExtension e → IsText (print_extension e)
extension_is_text None all = refl
extension_is_text (Some text) all = text-pass is_extension_byte refl text all

chunk_is_text : (l : ChunkLine) → IsChunkLine l → IsText (chunk_text l)
chunk_is_text l is =
    text-append l.digits (l.pad ++ (print_extension l.extension ++ carriage_return ∷ [])) (text-pass is_ascii_hexdigit refl l.digits is.digits.2)
    (text-append l.pad (print_extension l.extension ++ carriage_return ∷ []) (text-pass is_ows refl l.pad is.pad)
    (text-append (print_extension l.extension) (carriage_return ∷ []) (extension_is_text l.extension is.extension) refl))

pub chunk_line_ends : (l : ChunkLine) (rest : List ℕ) → IsChunkLine l → length (print_chunk_line l) ≤ most_head_bytes
    → chunk_line_part (print_chunk_line l ++ rest) ≡ ends (length (print_chunk_line l))
chunk_line_ends l rest is within =
    ap chunk_line_part (chunk_line_sent l rest) ∙ line_ends (chunk_text l) rest (chunk_is_text l is) (omega (arith, long, within)) ∙ ap ends (sym long)
  where
    long : length (print_chunk_line l) ≡ length (chunk_text l) + 1
    long = ap length (sym (append-nil (print_chunk_line l)) ∙ chunk_line_sent l []) ∙ length-append (chunk_text l) (line_feed ∷ [])
