-- Words without quotes, and words that are spelled in pieces.
use Rattle.std.proofs.Common.{◌≡◌, ℕ, true, false, not, ◌||◌, List, [], ◌∷◌, ◌++◌, length, map, Option, Some, None, cond, eqb, ltb, refl, ap, sym, ◌∙◌, ⊎_elim, append_assoc}
use Rattle.std.proofs.lemmas.Bool.{and_parts, cases_Bool, cond-true, false≢true, ltb-true}
use Rattle.std.proofs.lemmas.List.{append-nil}
use Rattle.std.specs.List.{join_with_byte, list_all, onto_first}
use Rattle.std.specs.Option.{option_map}
use Rattle.short_forms.specs.Cuts.{in_front}
use Rattle.short_forms.specs.Laws.{PlainWordsStay, SpelledWordsRead, is_plain_word}
use Rattle.short_forms.specs.Reading.{unquoted}
use Rattle.short_forms.specs.Spelling.{Piece, behind_backslash, in_double, in_single, is_piece, is_plain, is_word, piece_bytes, piece_text, plain, with_escapes, word_bytes, word_text}
use Rattle.short_forms.specs.Words.{between, bare, double, single, words_from}
use Rattle.short_forms.proofs.CutLemmas.{in_front_join, in_front_part}
use Rattle.short_forms.proofs.WordLemmas.{Words, first_run, is_plain_single, mapped, none_mapped, plain_double, plain_single, run}

-- the words of a plain word and what follows it
plain_word : (word left : List ℕ) → is_plain_word word ≡ true → words_from between (word ++ left) ≡ option_map (in_front word) (words_from bare left)
plain_word word left e = let both = and_parts (ltb 0 (length word)) (list_all is_plain word) e in first_run None word left (ltb-true 0 (length word) both.0) both.1

whole_word : (word : List ℕ) (words : List (List ℕ)) → in_front word ([] ∷ words) ≡ word ∷ words
whole_word word words = in_front_part word [] words ∙ ap (λ w. w ∷ words) (append-nil word)

-- words that need no quotes are cut into themselves
pub plain_words : PlainWordsStay
plain_words [] e = refl
plain_words (word ∷ []) e =
    let both = and_parts (is_plain_word word) true e in
    ap (words_from between) (sym (append-nil word)) ∙ plain_word word [] both.0 ∙ ap Some (whole_word word [])
plain_words (word ∷ next ∷ words) e =
    let both = and_parts (is_plain_word word) (list_all is_plain_word (next ∷ words)) e in
    let rest = plain_words (next ∷ words) both.1 in
    plain_word word (32 ∷ join_with_byte 32 (next ∷ words)) both.0
    ∙ ap (λ more. option_map (in_front word) (option_map (λ ws. [] ∷ ws) more)) rest ∙ ap Some (whole_word word (next ∷ words))

-- bytes in double quotes
in_quotes : (bytes left : List ℕ) → words_from double (with_escapes bytes ++ 34 ∷ left) ≡ option_map (in_front bytes) (words_from bare left)
in_quotes [] left = none_mapped (words_from bare left)
in_quotes (b ∷ bs) left = ⊎_elim (special (in_quotes bs left)) (other (in_quotes bs left)) (cases_Bool (eqb b 34 || eqb b 92))
  where
    special : words_from double (with_escapes bs ++ 34 ∷ left) ≡ option_map (in_front bs) (words_from bare left) → (eqb b 34 || eqb b 92) ≡ true
        → words_from double (with_escapes (b ∷ bs) ++ 34 ∷ left) ≡ option_map (in_front (b ∷ bs)) (words_from bare left)
    special rest t =
        ap (λ c. words_from double (cond c (92 ∷ b ∷ with_escapes bs) (b ∷ with_escapes bs) ++ 34 ∷ left)) t
        ∙ cond-true _ _ _ t ∙ ap (option_map (onto_first b)) rest ∙ mapped b bs (words_from bare left)

    other : words_from double (with_escapes bs ++ 34 ∷ left) ≡ option_map (in_front bs) (words_from bare left) → (eqb b 34 || eqb b 92) ≡ false
        → words_from double (with_escapes (b ∷ bs) ++ 34 ∷ left) ≡ option_map (in_front (b ∷ bs)) (words_from bare left)
    other rest t =
        ap (λ c. words_from double (cond c (92 ∷ b ∷ with_escapes bs) (b ∷ with_escapes bs) ++ 34 ∷ left)) t
        ∙ plain_double b (with_escapes bs ++ 34 ∷ left) (ap not t) ∙ ap (option_map (onto_first b)) rest ∙ mapped b bs (words_from bare left)

-- a byte behind a backslash
one_byte : (b : ℕ) (left : Words) → option_map (onto_first b) left ≡ option_map (in_front (b ∷ [])) left
one_byte b left = ap (option_map (onto_first b)) (none_mapped left) ∙ mapped b [] left

-- bytes in single quotes, and in double ones
single_piece : (bytes left : List ℕ) → list_all is_plain_single bytes ≡ true → words_from single ((bytes ++ 39 ∷ []) ++ left) ≡ option_map (in_front bytes) (words_from bare left)
single_piece bytes left e = ap (words_from single) (append_assoc bytes (39 ∷ []) left) ∙ run single is_plain_single plain_single bytes (39 ∷ left) e

double_piece : (bytes left : List ℕ) → words_from double ((with_escapes bytes ++ 34 ∷ []) ++ left) ≡ option_map (in_front bytes) (words_from bare left)
double_piece bytes left = ap (words_from double) (append_assoc (with_escapes bytes) (34 ∷ []) left) ∙ in_quotes bytes left

-- a piece at the beginning of a word, and inside it
piece_read : (word : Option (List ℕ)) (piece : Piece) (left : List ℕ) → is_piece piece ≡ true
    → words_from (unquoted word) (piece_text piece ++ left) ≡ option_map (in_front (piece_bytes piece)) (words_from bare left)
piece_read word (plain bytes) left e = let both = and_parts (ltb 0 (length bytes)) (list_all is_plain bytes) e in first_run word bytes left (ltb-true 0 (length bytes) both.0) both.1
piece_read None (behind_backslash b) left e = one_byte b (words_from bare left)
piece_read (Some word) (behind_backslash b) left e = one_byte b (words_from bare left)
piece_read None (in_single bytes) left e = single_piece bytes left e
piece_read (Some word) (in_single bytes) left e = single_piece bytes left e
piece_read None (in_double bytes) left e = double_piece bytes left
piece_read (Some word) (in_double bytes) left e = double_piece bytes left

joined_fronts : (front bytes : List ℕ) (left : Words) → option_map (in_front front) (option_map (in_front bytes) left) ≡ option_map (in_front (front ++ bytes)) left
joined_fronts front bytes None = refl
joined_fronts front bytes (Some words) = ap Some (in_front_join front bytes words)

-- all pieces of a word
pieces_read : (pieces : List Piece) (left : List ℕ) → list_all is_piece pieces ≡ true → words_from bare (word_text pieces ++ left) ≡ option_map (in_front (word_bytes pieces)) (words_from bare left)
pieces_read [] left e = none_mapped (words_from bare left)
pieces_read (piece ∷ pieces) left e =
    let both = and_parts (is_piece piece) (list_all is_piece pieces) e in
    ap (words_from bare) (append_assoc (piece_text piece) (word_text pieces) left) ∙ piece_read (Some []) piece (word_text pieces ++ left) both.0
    ∙ ap (option_map (in_front (piece_bytes piece))) (pieces_read pieces left both.1) ∙ joined_fronts (piece_bytes piece) (word_bytes pieces) (words_from bare left)

word_read : (pieces : List Piece) (left : List ℕ) → is_word pieces ≡ true → words_from between (word_text pieces ++ left) ≡ option_map (in_front (word_bytes pieces)) (words_from bare left)
word_read [] left e = let both = and_parts (ltb 0 0) true e in absurd (false≢true both.0)
word_read (piece ∷ pieces) left e =
    let all = (and_parts (ltb 0 (length (piece ∷ pieces))) (list_all is_piece (piece ∷ pieces)) e).1 in
    let both = and_parts (is_piece piece) (list_all is_piece pieces) all in
    ap (words_from between) (append_assoc (piece_text piece) (word_text pieces) left) ∙ piece_read None piece (word_text pieces ++ left) both.0
    ∙ ap (option_map (in_front (piece_bytes piece))) (pieces_read pieces left both.1) ∙ joined_fronts (piece_bytes piece) (word_bytes pieces) (words_from bare left)

-- words that are spelled in any pieces are cut into what they say
pub spelled_words : SpelledWordsRead
spelled_words [] e = refl
spelled_words (word ∷ []) e =
    let both = and_parts (is_word word) true e in
    ap (words_from between) (sym (append-nil (word_text word))) ∙ word_read word [] both.0 ∙ ap Some (whole_word (word_bytes word) [])
spelled_words (word ∷ next ∷ words) e =
    let both = and_parts (is_word word) (list_all is_word (next ∷ words)) e in
    word_read word (32 ∷ join_with_byte 32 (map word_text (next ∷ words))) both.0
    ∙ ap (λ more. option_map (in_front (word_bytes word)) (option_map (λ ws. [] ∷ ws) more)) (spelled_words (next ∷ words) both.1)
    ∙ ap Some (whole_word (word_bytes word) (map word_bytes (next ∷ words)))
