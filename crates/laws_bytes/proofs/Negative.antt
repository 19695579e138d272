-- Bytes that no head, no chunk line and no header lines spell: each tree prints another byte at one of the first places.
use Rattle.std.proofs.Common.{◌≡◌, ℕ, ◌<◌, true, false, List, [], ◌∷◌, ◌++◌, length, get_or, sym, ap, ◌∙◌, codes, refl, arith, append_assoc, true≢false}
use Rattle.std.proofs.lemmas.List.Elements.{All-head, All-tail}
use Rattle.std.specs.Char.{is_ascii_hexdigit}
use Rattle.std.specs.List.{flat_map}
use Rattle.std.specs.Prelude.{All, IsTrue}
use Rattle.httparse.proofs.OnLiterals.{httparse_on_literals}
use Rattle.httparse.specs.Ascii.{colon, space}
use Rattle.httparse.specs.Grammar.{AllPass, Field, HasNoChunkLine, HasNoResponse, HasNoSection, IsField, LineEnd, crlf, lf, is_token_byte, print_blank, print_chunk_line, print_end, print_extension, print_field, print_reason, print_response, print_section, print_version}

-- the byte at a place
abbrev byte : ℕ → List ℕ → ℕ
byte at bytes = get_or bytes at 0

pub other_version : HasNoResponse (codes "HTTP/2.0 200 OK\r\n\r\n")
unfolding print_response
other_version h rest reads = by h.blank reads.1
  where
    by : (blank : List LineEnd)
        → codes "HTTP/2.0 200 OK\r\n\r\n"
        ≡ (print_blank blank ++ print_version h.minor ++ space ∷ h.digits ++ print_reason h.reason ++ print_end h.line_end ++ print_section h.fields h.last) ++ rest
        → ⊥
    by [] e = let same : 50 ≡ 49 = ap (byte 5) e in omega (arith, same)
    by (crlf ∷ blank) e = let same : 72 ≡ 13 = ap (byte 0) e in omega (arith, same)
    by (lf ∷ blank) e = let same : 72 ≡ 10 = ap (byte 0) e in omega (arith, same)

pub other_line : HasNoChunkLine (codes "xyz\r\n")
unfolding print_chunk_line
other_line l rest reads = by l.digits reads.0.digits.0 reads.0.digits.2 reads.1
  where
    by : (digits : List ℕ) → 0 < length digits → AllPass is_ascii_hexdigit digits
        → codes "xyz\r\n" ≡ (digits ++ l.pad ++ print_extension l.extension ++ print_end crlf) ++ rest → ⊥
    by [] some all e = omega (arith, some)
    by (d ∷ digits) some all e =
        let same : 120 ≡ d = ap (byte 0) e in
        let digit : is_ascii_hexdigit d ≡ true = All-head (λ b. IsTrue (is_ascii_hexdigit b)) d digits all in
        true≢false (sym digit ∙ ap is_ascii_hexdigit (sym same))

space_is_no_token : is_token_byte 32 ≡ false
unfolding httparse_on_literals
space_is_no_token = refl

-- a name that a space stands in, or right behind
module _ (f : Field) (more : List ℕ) where
  named : (name : List ℕ) → 0 < length name → AllPass is_token_byte name → codes "X : 1\r\n\r\n" ≡ (name ++ colon ∷ f.raw ++ print_end f.end) ++ more → ⊥
  named [] some all e = omega (arith, some)
  named (b ∷ []) some all e = let same : 32 ≡ 58 = ap (byte 1) e in omega (arith, same)
  named (b ∷ d ∷ name) some all e =
      let same : 32 ≡ d = ap (byte 1) e in
      let token : is_token_byte d ≡ true = All-head (λ x. IsTrue (is_token_byte x)) d name (All-tail (λ x. IsTrue (is_token_byte x)) b (d ∷ name) all) in
      true≢false (sym token ∙ ap is_token_byte (sym same) ∙ space_is_no_token)

pub spaced_field : HasNoSection (codes "X : 1\r\n\r\n")
spaced_field fields last rest reads = by fields last reads.0 reads.1
  where
    by : (fields : List Field) (last : LineEnd) → All IsField fields → codes "X : 1\r\n\r\n" ≡ print_section fields last ++ rest → ⊥
    by [] crlf all e = let same : 88 ≡ 13 = ap (byte 0) e in omega (arith, same)
    by [] lf all e = let same : 88 ≡ 10 = ap (byte 0) e in omega (arith, same)
    by (f ∷ fields) last all e =
        let is = All-head IsField f fields all in
        named f (flat_map print_field fields ++ (print_end last ++ rest)) f.name is.name.0 is.name.1
        (e ∙ append_assoc (print_field f ++ flat_map print_field fields) (print_end last) rest ∙ append_assoc (print_field f) (flat_map print_field fields) (print_end last ++ rest))
