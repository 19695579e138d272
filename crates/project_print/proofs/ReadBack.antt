-- The words of a page read back.
use Rattle.std.proofs.Common.{◌≡◌, ◌∙◌, ℕ, List, [], ◌∷◌, ◌++◌, Bool, true, false, cond, codes, eqb, Some, length, refl, sym, ap, true≢false}
use Rattle.std.proofs.lemmas.Bool.{cond-false, eqb-true, false_from_ne_true}
use Rattle.std.proofs.lemmas.Slice.Eq.{bytes_eq-Decides}
use Rattle.std.specs.Str.{bytes_eq}
use Rattle.yaml_lines.specs.declared.plain.Context.TheVariants.{Block}
use Rattle.yaml_lines.specs.Plain.{ends_plain, plain_of}
use Rattle.yaml_lines.specs.Quoted.{quoted_of}
use Rattle.project_print.specs.Scalars.{doubled, in_quotes, is_plain, is_plain_start}
use Rattle.project_print.specs.Laws.{DollarsReadBack, ScalarsReadBack, halved, is_null, scalar_read}
use Rattle.project_print.proofs.PlainWords.{apart, is_begun, plain_reads}
use Rattle.project_print.proofs.Quotes.{quotes_read}

-- a plain word has no quote in front
unquoted : (text rest : List ℕ) → is_plain text ≡ true → ends_plain Block false rest ≡ true → scalar_read (text ++ rest) ≡ Some (text, length text)
unquoted [] rest e h = cc
unquoted (c ∷ cs) rest e h =
    let no : eqb c 34 ≡ false = apart is_plain_start c 34 (is_begun (c ∷ cs) e) refl in
    cond-false (eqb c 34) (quoted_of (c ∷ (cs ++ rest))) (plain_of Block (c ∷ (cs ++ rest))) no ∙ plain_reads (c ∷ cs) rest e h

-- texts that a test tells apart aren't equal
apart_text : (test : List ℕ → Bool) (s t : List ℕ) → test s ≡ true → test t ≡ false → bytes_eq s t ≡ false
apart_text test s t at_s at_t = false_from_ne_true (bytes_eq s t) (λ same. true≢false (sym at_s ∙ ap test ((bytes_eq-Decides s t).0 same) ∙ at_t))

not_null : (test : List ℕ → Bool) (word : List ℕ) → test word ≡ true → test (codes "null") ≡ false → test (codes "Null") ≡ false → test (codes "NULL") ≡ false → test (codes "~") ≡ false → is_null word ≡ false
not_null test word at_word a b d e =
    rw (apart_text test word (codes "null") at_word a, apart_text test word (codes "Null") at_word b, apart_text test word (codes "NULL") at_word d, apart_text test word (codes "~") at_word e) refl

-- a quote in front
abbrev starts_with_quote : List ℕ → Bool
starts_with_quote [] = false
starts_with_quote (c ∷ cs) = eqb c 34

pub scalars : ScalarsReadBack
scalars text rest h = by (is_plain text) refl
  where
    by : (b : Bool) → is_plain text ≡ b
        → (scalar_read (cond b text (in_quotes text) ++ rest) ≡ Some (text, length (cond b text (in_quotes text)))) × (is_null (cond b text (in_quotes text)) ≡ false)
    by true e = (unquoted text rest e h, not_null is_plain text e refl refl refl refl)
    by false e = (quotes_read text rest, not_null starts_with_quote (in_quotes text) refl refl refl refl refl)

pub dollars : DollarsReadBack
dollars [] = refl
dollars (c ∷ cs) = by (eqb c 36) refl (dollars cs)
  where
    apart_from_next : (ds : List ℕ) → eqb c 36 ≡ false → halved ds ≡ cs → halved (c ∷ ds) ≡ c ∷ cs
    apart_from_next [] e h = ap (λ l. c ∷ l) h
    apart_from_next (d ∷ ds) e h = rw e (ap (λ l. c ∷ l) h)

    by : (b : Bool) → eqb c 36 ≡ b → halved (doubled cs) ≡ cs → halved (cond b (36 ∷ 36 ∷ []) (c ∷ []) ++ doubled cs) ≡ c ∷ cs
    by true e h = ap (λ l. 36 ∷ l) h ∙ ap (λ x. x ∷ cs) (sym (eqb-true c 36 e))
    by false e h = apart_from_next (doubled cs) e h
