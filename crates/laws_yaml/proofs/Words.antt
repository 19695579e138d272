-- Words that are read as they stand, by whether a minus is in front.
use Rattle.std.proofs.Common.{◌≡◌, ℕ, ◌&&◌, true, false, eqb, List, [], ◌∷◌, refl, sym, subst, inl, inr}
use Rattle.std.proofs.lemmas.Bool.{and_parts, eqb-true, not-true, or_cases, or_parts}
use Rattle.std.specs.List.{ends_with, list_all}
use Rattle.std.specs.Str.{encode_utf8_all}
use Rattle.project_print.specs.Scalars.{is_plain_byte}
use Rattle.tree_base.specs.declared.tree.Tree.TheVariants.{Scalar}
use Rattle.yaml_nodes.specs.Scalars.{is_null_word}
use Rattle.laws_yaml.proofs.MinusWords.{minus_value}
use Rattle.laws_yaml.proofs.PlainRuns.{is_word_start}
use Rattle.laws_yaml.proofs.Values.{IsValue, unsigned_value}
use Rattle.laws_yaml.specs.Readable.{begins_word, is_read_as_word, is_unsigned_word}

-- what holds of words without a minus, and of words behind one, holds of each word
pub of_word : (P : List ℕ → Type 0) → ((text : List ℕ) → is_unsigned_word text ≡ true → P text)
    → ((c : ℕ) (cs : List ℕ) → is_word_start c ≡ true → list_all is_plain_byte (c ∷ cs) ≡ true → ends_with eqb (c ∷ cs) (58 ∷ []) ≡ false → P (45 ∷ c ∷ cs))
    → (text : List ℕ) → is_read_as_word text ≡ true → P text
of_word P unsigned minus [] is = absurd (cc)
of_word P unsigned minus (c ∷ cs) is =
    elim (or_cases (is_unsigned_word (c ∷ cs)) (eqb c 45 && is_unsigned_word cs) is) [
      | inl plain ↦ unsigned (c ∷ cs) plain
      | inr other ↦
          let parts = and_parts (eqb c 45) (is_unsigned_word cs) other in
          subst (λ d. P (d ∷ cs)) (sym (eqb-true c 45 parts.0)) (behind cs parts.1)
    ]
  where
    behind : (cs : List ℕ) → is_unsigned_word cs ≡ true → P (45 ∷ cs)
    behind [] reads = absurd (cc)
    behind (d ∷ ds) reads =
        let parts = and_parts (begins_word (d ∷ ds)) _ reads in
        let more = and_parts (list_all is_plain_byte (d ∷ ds)) _ parts.1 in
        let none = or_parts (ends_with eqb (d ∷ ds) (58 ∷ [])) (is_null_word (d ∷ ds)) (not-true _ more.1) in
        minus d ds parts.0 more.0 none.0

-- its characters are those of plain words
pub word_bytes : (text : List ℕ) → is_read_as_word text ≡ true → list_all is_plain_byte text ≡ true
word_bytes =
    of_word (λ text. list_all is_plain_byte text ≡ true)
    (λ text reads. (and_parts (list_all is_plain_byte text) _ (and_parts (begins_word text) _ reads).1).0)
    (λ c cs start bytes closed. bytes)

-- each word without a minus is a word
pub unsigned_is : (text : List ℕ) → is_unsigned_word text ≡ true → is_read_as_word text ≡ true
unsigned_is [] reads = absurd (cc)
unsigned_is (c ∷ cs) reads = rw reads refl

-- a word stands for its text
pub word_value : (text : List ℕ) → is_read_as_word text ≡ true → IsValue text (Scalar (encode_utf8_all text))
word_value = of_word (λ text. IsValue text (Scalar (encode_utf8_all text))) unsigned_value minus_value
