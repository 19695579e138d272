-- Plain scalars that are words: they are read whole, up to their line's end or to a colon.
use Rattle.std.proofs.Common.{◌≡◌, ℕ, suc, ◌+◌, ◌&&◌, ◌||◌, Bool, true, false, List, [], ◌∷◌, ◌++◌, Some, take, drop, length, refl, ap, subst, ◌∙◌, add-one, arith, add-zero}
use Rattle.std.proofs.lemmas.Bool.{and_parts, lt-ltb}
use Rattle.std.proofs.lemmas.List.{append-nil, drop_at, take_at}
use Rattle.yaml_lines.specs.Blanks.{blanks, is_white}
use Rattle.yaml_lines.specs.declared.plain.Context.TheVariants.{Block}
use Rattle.yaml_lines.specs.Plain.{is_colon, plain_len, plain_of, plain_run, trimmed_len}
use Rattle.yaml_nodes.specs.Marks.{before_colon, is_key, is_key_behind, key_len, properties_len}
use Rattle.laws_yaml.specs.BlockLaws.{are_word_chars, is_word_char}
use Rattle.laws_yaml.proofs.WordLines.{never, no_alias, no_colon, no_properties_len, no_quote, plain_begins, plain_goes_on}

run_is : (word rest : List ℕ) → are_word_chars word ≡ true → plain_run Block false rest ≡ 0 → plain_run Block false (word ++ rest) ≡ length word
run_is [] rest chars ends = ends
run_is (c ∷ cs) rest chars ends =
    let parts = and_parts (is_word_char c) (are_word_chars cs) chars in
    rw (plain_goes_on c (cs ++ rest) parts.0, never is_white refl c parts.0, run_is cs rest parts.1 ends, add-one (length cs))

trimmed_is : (word : List ℕ) → are_word_chars word ≡ true → trimmed_len word ≡ length word
trimmed_is [] chars = refl
trimmed_is (c ∷ cs) chars =
    let parts = and_parts (is_word_char c) (are_word_chars cs) chars in
    rw (never is_white refl c parts.0, trimmed_is cs parts.1, add-one (length cs))

pub or_false : (b : Bool) → (b || false) ≡ b
or_false true = refl
or_false false = refl

module _ (c : ℕ) (cs rest : List ℕ) (chars : are_word_chars (c ∷ cs) ≡ true) (ends : plain_run Block false rest ≡ 0) where
  first_char : is_word_char c ≡ true
  first_char = (and_parts (is_word_char c) (are_word_chars cs) chars).0

  pub plain_len_is : plain_len Block (c ∷ cs ++ rest) ≡ suc (length cs)
  plain_len_is = rw (run_is (c ∷ cs) rest chars ends, take_at cs rest (length cs) refl) (trimmed_is (c ∷ cs) chars)

  -- the scalar of a word is the word
  pub plain_is : plain_of Block (c ∷ cs ++ rest) ≡ Some (c ∷ cs, suc (length cs))
  plain_is = rw (plain_begins c (cs ++ rest) first_char, plain_len_is, take_at cs rest (length cs) refl)

  key_len_is : key_len Block (c ∷ cs ++ rest) ≡ suc (length cs)
  key_len_is = rw (no_quote c (cs ++ rest) first_char, plain_begins c (cs ++ rest) first_char, no_alias c (cs ++ rest) first_char) plain_len_is

  -- a colon behind a word stands right behind it
  pub before_is : blanks rest ≡ 0 → before_colon Block (c ∷ cs ++ rest) ≡ suc (length cs)
  before_is black = rw (key_len_is, drop_at cs rest (length cs) refl, black, add-zero)

  -- a word is a key where a colon stands behind it
  pub key_is : blanks rest ≡ 0 → is_key Block (c ∷ cs ++ rest) ≡ is_colon rest
  key_is black =
      rw (key_len_is, drop_at cs rest (length cs) refl, black, add-zero, drop_at cs rest (length cs) refl, lt-ltb 0 (suc (length cs)) (omega arith)) (or_false (is_colon rest))

-- where no properties stand, a key behind them is one that begins here
behind_none : (cs : List ℕ) → properties_len 0 cs ≡ 0 → is_key_behind Block cs ≡ (is_key Block cs || is_colon cs)
behind_none cs none = ap (λ n. is_key Block (drop n cs) || is_colon (drop n cs)) none

pub key_behind : (c : ℕ) (cs : List ℕ) → is_word_char c ≡ true → is_key Block (c ∷ cs) ≡ true → is_key_behind Block (c ∷ cs) ≡ true
key_behind c cs word keyed = behind_none (c ∷ cs) (no_properties_len c cs word) ∙ ap (λ b. b || is_colon (c ∷ cs)) keyed

module _ (c : ℕ) (cs : List ℕ) (chars : are_word_chars (c ∷ cs) ≡ true) where
  -- a word before its line's end
  pub plain_alone : plain_of Block (c ∷ cs) ≡ Some (c ∷ cs, suc (length cs))
  plain_alone = subst (λ (l : List ℕ). plain_of Block (c ∷ l) ≡ Some (c ∷ cs, suc (length cs))) (append-nil cs) (plain_is c cs [] chars refl)

  pub no_key : is_key Block (c ∷ cs) ≡ false
  no_key = subst (λ (l : List ℕ). is_key Block (c ∷ l) ≡ false) (append-nil cs) (key_is c cs [] chars refl refl)

  pub no_key_behind : is_key_behind Block (c ∷ cs) ≡ false
  no_key_behind =
      let word = (and_parts (is_word_char c) (are_word_chars cs) chars).0 in
      behind_none (c ∷ cs) (no_properties_len c cs word) ∙ ap (λ b. b || is_colon (c ∷ cs)) no_key ∙ no_colon c cs word
