-- The words of a command line, byte by byte and character by character.
use Rattle.std.proofs.Common.{◌≡◌, ℕ, ◌<◌, ◌≤◌, Bool, true, false, not, ◌&&◌, ◌||◌, List, [], ◌∷◌, ◌++◌, length, get_or, drop, Option, Some, None, cond, eqb, refl, ap, sym, ◌∙◌, ⊎_elim, inl, inr, append_assoc, length-append, lit<, ◌⊎◌, arith}
use Rattle.std.proofs.lemmas.Bool.{and_parts, cases_lt, eqb-true, ne_eqb, or_cases}
use Rattle.std.proofs.lemmas.Bool.Decides.{nat_tests}
use Rattle.std.proofs.lemmas.List.{append-nil, get_or_default}
use Rattle.std.proofs.lemmas.List.Sums.{list_all-from_AllPass}
use Rattle.std.proofs.lemmas.Str.{char_from_byte, encode_ascii, inside_one, length-encode, len_utf8_bounds}
use Rattle.std.specs.Char.{encode_utf8}
use Rattle.std.specs.List.{list_all, onto_first}
use Rattle.std.specs.Option.{option_map, option_to_list, unwrap_or}
use Rattle.short_forms.specs.Cuts.{in_front}
use Rattle.short_forms.specs.Reading.{Ends, Puts, joined, standing, unquoted, with_return, words_left}
use Rattle.short_forms.specs.Spelling.{is_plain}
use Rattle.short_forms.specs.Words.{Standing, between, bare, single, double, escaped, escaped_double, words_from}
use Rattle.short_forms.specs.declared.words.Reading.{Reading}
use Rattle.short_forms.specs.declared.words.Within.{Within}
use Rattle.short_forms.proofs.CutLemmas.{in_front_join, in_front_part}

abbrev pub Words : Type 0
Words = Option (List (List ℕ))

-- what was read and what is left of a word, joined
joined_front : (ended : List (List ℕ)) (word : Option (List ℕ)) (bs : List ℕ) (left : Words)
    → joined ended (Some (unwrap_or word [] ++ bs)) left ≡ joined ended word (option_map (in_front bs) left)
joined_front ended word bs None = refl
joined_front ended word bs (Some words) = ap (λ w. Some (ended ++ w)) (sym (in_front_join (unwrap_or word []) bs words))

-- the bytes of a character that isn't ASCII are 128 or more
low : (c k d : ℕ) → 128 ≤ c → k < length (encode_utf8 c) → get_or (encode_utf8 c) k d < 128 → ⊥
low c k d large within l =
    let e : get_or (encode_utf8 c) k d ≡ get_or (encode_utf8 c) k 0 = get_or_default (encode_utf8 c) k d 0 within in
    let same : c ≡ get_or (encode_utf8 c) k 0 = inside_one c [] (encode_utf8 c) k (sym (append-nil (encode_utf8 c))) within (omega arith) in
    omega arith

high : (c : ℕ) (p : ℕ → Bool) → 128 ≤ c → ((b : ℕ) → 128 ≤ b → p b ≡ true) → list_all p (encode_utf8 c) ≡ true
high c p large each = list_all-from_AllPass p (encode_utf8 c) (λ k d within. each _ (⊎_elim (λ l. absurd (low c k d large within l)) (λ l. l) (cases_lt (get_or (encode_utf8 c) k d) 128)))

some_bytes : (c : ℕ) → 0 < length (encode_utf8 c)
some_bytes c = omega (arith, length-encode c, len_utf8_bounds c)

not_line : (c : ℕ) (left : List ℕ) → (c ≡ 10 → ⊥) → get_or (encode_utf8 c ++ left) 0 0 ≡ 10 → ⊥
not_line c left other e =
    let some : 0 < length (encode_utf8 c ++ left) = omega (arith, length-append (encode_utf8 c) left, some_bytes c) in
    other (char_from_byte (encode_utf8 c ++ left) left c refl (omega arith) some ∙ e)

-- a test that holds of a character, and of every byte from 128 on, holds of the character's bytes
passes : (c : ℕ) (p : ℕ → Bool) → p c ≡ true → ((b : ℕ) → 128 ≤ b → p b ≡ true) → list_all p (encode_utf8 c) ≡ true
passes c p e each = ⊎_elim (λ l. ap (list_all p) (encode_ascii c l) ∙ ap (λ b. b && true) e) (λ l. high c p l each) (cases_lt c 128)

-- a byte that is one of a word in single and in double quotes
abbrev pub is_plain_single : ℕ → Bool
is_plain_single b = not (eqb b 39)

abbrev pub is_plain_double : ℕ → Bool
is_plain_double b = not (eqb b 34 || eqb b 92)

plain_bare : (b : ℕ) (left : List ℕ) → is_plain b ≡ true → words_from bare (b ∷ left) ≡ option_map (onto_first b) (words_from bare left)
plain_bare b left e = grind (arith, nat_tests)

plain_between : (b : ℕ) (left : List ℕ) → is_plain b ≡ true → words_from between (b ∷ left) ≡ option_map (onto_first b) (words_from bare left)
plain_between b left e = grind (arith, nat_tests)

pub plain_single : (b : ℕ) (left : List ℕ) → is_plain_single b ≡ true → words_from single (b ∷ left) ≡ option_map (onto_first b) (words_from single left)
plain_single b left e = grind (arith, nat_tests)

pub plain_double : (b : ℕ) (left : List ℕ) → is_plain_double b ≡ true → words_from double (b ∷ left) ≡ option_map (onto_first b) (words_from double left)
plain_double b left e = grind (arith, nat_tests)

-- a run of such bytes
pub mapped : (b : ℕ) (bs : List ℕ) (left : Words) → option_map (onto_first b) (option_map (in_front bs) left) ≡ option_map (in_front (b ∷ bs)) left
mapped b bs None = refl
mapped b bs (Some words) = refl

pub none_mapped : (left : Words) → left ≡ option_map (in_front []) left
none_mapped None = refl
none_mapped (Some words) = refl

module _ (at : Standing) (p : ℕ → Bool) (step : (b : ℕ) (left : List ℕ) → p b ≡ true → words_from at (b ∷ left) ≡ option_map (onto_first b) (words_from at left)) where
  pub run : (bs left : List ℕ) → list_all p bs ≡ true → words_from at (bs ++ left) ≡ option_map (in_front bs) (words_from at left)
  run [] left e = none_mapped (words_from at left)
  run (b ∷ bs) left e =
      let both = and_parts (p b) (list_all p bs) e in
      step b (bs ++ left) both.0 ∙ ap (option_map (onto_first b)) (run bs left both.1) ∙ mapped b bs (words_from at left)

-- a character of a word outside quotes
pub first_run : (word : Option (List ℕ)) (bs left : List ℕ) → 0 < length bs → list_all is_plain bs ≡ true → words_from (unquoted word) (bs ++ left) ≡ option_map (in_front bs) (words_from bare left)
first_run (Some word) bs left some e = run bare is_plain plain_bare bs left e
first_run None [] left some e = absurd (omega arith)
first_run None (b ∷ bs) left some e =
    let both = and_parts (is_plain b) (list_all is_plain bs) e in
    plain_between b (bs ++ left) both.0 ∙ sym (plain_bare b (bs ++ left) both.0) ∙ run bare is_plain plain_bare (b ∷ bs) left e

-- the words with a character put to the one that is being read
module _ (ended : List (List ℕ)) (word : Option (List ℕ)) (c : ℕ) (left : List ℕ) where
  pub takes_bare : is_plain c ≡ true → joined ended (Some (unwrap_or word [] ++ encode_utf8 c)) (words_from bare left) ≡ joined ended word (words_from (unquoted word) (encode_utf8 c ++ left))
  takes_bare e =
      joined_front ended word (encode_utf8 c) (words_from bare left)
      ∙ ap (joined ended word) (sym (first_run word (encode_utf8 c) left (some_bytes c) (passes c is_plain e (λ b l. grind (arith, nat_tests)))))

  pub takes_single : is_plain_single c ≡ true → joined ended (Some (unwrap_or word [] ++ encode_utf8 c)) (words_from single left) ≡ joined ended word (words_from single (encode_utf8 c ++ left))
  takes_single e =
      joined_front ended word (encode_utf8 c) (words_from single left)
      ∙ ap (joined ended word) (sym (run single is_plain_single plain_single (encode_utf8 c) left (passes c is_plain_single e (λ b l. grind (arith, nat_tests)))))

  pub takes_double : is_plain_double c ≡ true → joined ended (Some (unwrap_or word [] ++ encode_utf8 c)) (words_from double left) ≡ joined ended word (words_from double (encode_utf8 c ++ left))
  takes_double e =
      joined_front ended word (encode_utf8 c) (words_from double left)
      ∙ ap (joined ended word) (sym (run double is_plain_double plain_double (encode_utf8 c) left (passes c is_plain_double e (λ b l. grind (arith, nat_tests)))))

-- a character's bytes, where it is ASCII
pub bytes_of : (c n : ℕ) → c ≡ n → n < 128 → encode_utf8 c ≡ n ∷ []
bytes_of c n e ascii = ap encode_utf8 e ∙ encode_ascii n ascii

-- nothing put to a word
joined_same : (ended : List (List ℕ)) (word : Option (List ℕ)) (left : Words) → joined ended (Some (unwrap_or word [] ++ [])) left ≡ joined ended word left
joined_same ended word left = ap (λ read. option_map (λ words. ended ++ in_front read words) left) (append-nil (unwrap_or word []))

-- a word that ends, where the text goes on between words
ended_word : (ended : List (List ℕ)) (word : Option (List ℕ)) (text : List ℕ) (left : Words) → words_from between text ≡ left → words_from bare text ≡ option_map (λ more. [] ∷ more) left
    → joined (ended ++ option_to_list word) None left ≡ joined ended word (words_from (unquoted word) text)
ended_word ended None text left at_gap in_word = ap (λ e. joined e None left) (append-nil ended) ∙ ap (joined ended None) (sym at_gap)
ended_word ended (Some word) text left at_gap in_word = closed left ∙ ap (joined ended (Some word)) (sym in_word)
  where
    closed : (left : Words) → joined (ended ++ word ∷ []) None left ≡ joined ended (Some word) (option_map (λ more. [] ∷ more) left)
    closed None = refl
    closed (Some words) = ap Some (append_assoc ended (word ∷ []) words ∙ ap (λ w. ended ++ (w ∷ words)) (sym (append-nil word)) ∙ ap (λ ws. ended ++ ws) (sym (in_front_part word [] words)))

-- what follows a byte, whatever word is being read
same_from : (word : Option (List ℕ)) (text : List ℕ) (left : Words) → words_from between text ≡ left → words_from bare text ≡ left → words_from (unquoted word) text ≡ left
same_from None text left e f = e
same_from (Some word) text left e f = f

module _ (ended : List (List ℕ)) (word : Option (List ℕ)) (c : ℕ) (left : List ℕ) where
  -- a space, a tab or a line feed outside quotes
  pub ends_blank : (c ≡ 32) ⊎ ((c ≡ 9) ⊎ (c ≡ 10)) → joined (ended ++ option_to_list word) None (words_from between left) ≡ joined ended word (words_from (unquoted word) (encode_utf8 c ++ left))
  ends_blank e = ⊎_elim (λ s. by 32 s (lit< tt) (ended_word ended word (32 ∷ left) _ refl refl))
      (⊎_elim (λ s. by 9 s (lit< tt) (ended_word ended word (9 ∷ left) _ refl refl)) (λ s. by 10 s (lit< tt) (ended_word ended word (10 ∷ left) _ refl refl))) e
    where
      by : (n : ℕ) → c ≡ n → n < 128 → joined (ended ++ option_to_list word) None (words_from between left) ≡ joined ended word (words_from (unquoted word) (n ∷ left))
          → joined (ended ++ option_to_list word) None (words_from between left) ≡ joined ended word (words_from (unquoted word) (encode_utf8 c ++ left))
      by n s ascii e = e ∙ ap (λ bs. joined ended word (words_from (unquoted word) (bs ++ left))) (sym (bytes_of c n s ascii))

  -- a carriage return and a line feed
  pub ends_line : c ≡ 10 → joined (ended ++ option_to_list word) None (words_from between left) ≡ joined ended word (words_from (unquoted word) (13 ∷ (encode_utf8 c ++ left)))
  ends_line e =
      ended_word ended word (13 ∷ 10 ∷ left) (words_from between left) refl refl
      ∙ ap (λ bs. joined ended word (words_from (unquoted word) (13 ∷ (bs ++ left)))) (sym (bytes_of c 10 e (lit< tt)))

  -- a carriage return outside quotes
  pub holds_return : c ≡ 13 → joined ended word (words_from (unquoted word) (13 ∷ left)) ≡ joined ended word (words_from (unquoted word) (encode_utf8 c ++ left))
  holds_return e = ap (λ bs. joined ended word (words_from (unquoted word) (bs ++ left))) (sym (bytes_of c 13 e (lit< tt)))

  -- quotes and a backslash outside quotes
  opens : (n : ℕ) (at : Standing) → c ≡ n → n < 128 → words_from between (n ∷ left) ≡ words_from at left → words_from bare (n ∷ left) ≡ words_from at left
      → joined ended (Some (unwrap_or word [] ++ [])) (words_from at left) ≡ joined ended word (words_from (unquoted word) (encode_utf8 c ++ left))
  opens n at s ascii e f =
      joined_same ended word (words_from at left) ∙ ap (joined ended word) (sym (same_from word (n ∷ left) (words_from at left) e f))
      ∙ ap (λ bs. joined ended word (words_from (unquoted word) (bs ++ left))) (sym (bytes_of c n s ascii))

  pub opens_single : c ≡ 39 → joined ended (Some (unwrap_or word [] ++ [])) (words_from single left) ≡ joined ended word (words_from (unquoted word) (encode_utf8 c ++ left))
  opens_single e = opens 39 single e (lit< tt) refl refl

  pub opens_double : c ≡ 34 → joined ended (Some (unwrap_or word [] ++ [])) (words_from double left) ≡ joined ended word (words_from (unquoted word) (encode_utf8 c ++ left))
  opens_double e = opens 34 double e (lit< tt) refl refl

  pub opens_escape : c ≡ 92 → joined ended (Some (unwrap_or word [] ++ [])) (words_from escaped left) ≡ joined ended word (words_from (unquoted word) (encode_utf8 c ++ left))
  opens_escape e = opens 92 escaped e (lit< tt) refl refl

  -- the end of quotes, and a backslash in double quotes
  pub closes : (from at : Standing) (n : ℕ) → c ≡ n → n < 128 → words_from from (n ∷ left) ≡ words_from at left
      → joined ended (Some (unwrap_or word [] ++ [])) (words_from at left) ≡ joined ended word (words_from from (encode_utf8 c ++ left))
  closes from at n s ascii e =
      joined_same ended word (words_from at left) ∙ ap (joined ended word) (sym e) ∙ ap (λ bs. joined ended word (words_from from (bs ++ left))) (sym (bytes_of c n s ascii))

  -- a lone carriage return is a byte of a word
  pub takes_return : (c ≡ 10 → ⊥) → joined ended (Some (unwrap_or word [] ++ 13 ∷ [])) (words_from bare (encode_utf8 c ++ left)) ≡ joined ended word (words_from (unquoted word) (13 ∷ (encode_utf8 c ++ left)))
  takes_return other =
      let text = encode_utf8 c ++ left in
      let first : eqb (get_or text 0 0) 10 ≡ false = ne_eqb (get_or text 0 0) 10 (not_line c left other) in
      joined_front ended word (13 ∷ []) (words_from bare text)
      ∙ ap (joined ended word) (sym (same_from word (13 ∷ text) (option_map (onto_first 13) (words_from bare text))
      (ap (λ t. cond t (words_from between text) (option_map (onto_first 13) (words_from bare text))) first)
      (ap (λ t. cond t (option_map (λ more. [] ∷ more) (words_from between text)) (option_map (onto_first 13) (words_from bare text))) first)))

-- behind a backslash outside quotes
tail_plain : (c : ℕ) → list_all is_plain (drop 1 (encode_utf8 c)) ≡ true
tail_plain c = ⊎_elim (λ l. ap (λ bs. list_all is_plain (drop 1 bs)) (encode_ascii c l)) (λ l. rest (encode_utf8 c) (high c is_plain l (λ b h. grind (arith, nat_tests)))) (cases_lt c 128)
  where
    rest : (bs : List ℕ) → list_all is_plain bs ≡ true → list_all is_plain (drop 1 bs) ≡ true
    rest [] e = refl
    rest (b ∷ bs) e = (and_parts (is_plain b) (list_all is_plain bs) e).1

escaped_run : (bs left : List ℕ) → 0 < length bs → list_all is_plain (drop 1 bs) ≡ true → words_from escaped (bs ++ left) ≡ option_map (in_front bs) (words_from bare left)
escaped_run [] left some e = absurd (omega arith)
escaped_run (b ∷ bs) left some e = ap (option_map (onto_first b)) (run bare is_plain plain_bare bs left e) ∙ mapped b bs (words_from bare left)

-- behind a backslash in double quotes
stays_run : (bs left : List ℕ) → 0 < length bs → list_all is_plain_double bs ≡ true → words_from escaped_double (bs ++ left) ≡ option_map (in_front (92 ∷ bs)) (words_from double left)
stays_run [] left some e = absurd (omega arith)
stays_run (b ∷ bs) left some e =
    let both = and_parts (is_plain_double b) (list_all is_plain_double bs) e in
    behind_other b (bs ++ left) both.0 ∙ ap (λ words. option_map (onto_first 92) (option_map (onto_first b) words)) (run double is_plain_double plain_double bs left both.1)
    ∙ ap (option_map (onto_first 92)) (mapped b bs (words_from double left)) ∙ mapped 92 (b ∷ bs) (words_from double left)
  where
    behind_other : (b : ℕ) (text : List ℕ) → is_plain_double b ≡ true → words_from escaped_double (b ∷ text) ≡ option_map (onto_first 92) (option_map (onto_first b) (words_from double text))
    behind_other b text e = grind (arith, nat_tests)

module _ (ended : List (List ℕ)) (word : Option (List ℕ)) (c : ℕ) (left : List ℕ) where
  pub takes_escaped : joined ended (Some (unwrap_or word [] ++ encode_utf8 c)) (words_from bare left) ≡ joined ended word (words_from escaped (encode_utf8 c ++ left))
  takes_escaped = joined_front ended word (encode_utf8 c) (words_from bare left) ∙ ap (joined ended word) (sym (escaped_run (encode_utf8 c) left (some_bytes c) (tail_plain c)))

  pub takes_escaped_double : (c ≡ 34) ⊎ (c ≡ 92) → joined ended (Some (unwrap_or word [] ++ encode_utf8 c)) (words_from double left) ≡ joined ended word (words_from escaped_double (encode_utf8 c ++ left))
  takes_escaped_double e = joined_front ended word (encode_utf8 c) (words_from double left) ∙ ⊎_elim (λ s. by 34 s (lit< tt) refl) (λ s. by 92 s (lit< tt) refl) e
    where
      by : (n : ℕ) → c ≡ n → n < 128 → words_from escaped_double (n ∷ left) ≡ option_map (onto_first n) (words_from double left)
          → joined ended word (option_map (in_front (encode_utf8 c)) (words_from double left)) ≡ joined ended word (words_from escaped_double (encode_utf8 c ++ left))
      by n s ascii e =
          ap (λ bs. joined ended word (option_map (in_front bs) (words_from double left))) (bytes_of c n s ascii) ∙ ap (joined ended word) (sym e)
          ∙ ap (λ bs. joined ended word (words_from escaped_double (bs ++ left))) (sym (bytes_of c n s ascii))

  pub stays : is_plain_double c ≡ true → joined ended (Some ((unwrap_or word [] ++ 92 ∷ []) ++ encode_utf8 c)) (words_from double left) ≡ joined ended word (words_from escaped_double (encode_utf8 c ++ left))
  stays e =
      ap (λ read. joined ended (Some read) (words_from double left)) (append_assoc (unwrap_or word []) (92 ∷ []) (encode_utf8 c))
      ∙ joined_front ended word (92 ∷ encode_utf8 c) (words_from double left)
      ∙ ap (joined ended word) (sym (stays_run (encode_utf8 c) left (some_bytes c) (passes c is_plain_double e (λ b l. grind (arith, nat_tests)))))

-- where the text ends
pub ends_text : (ended : List (List ℕ)) (word : Option (List ℕ)) → joined ended word (words_from (unquoted word) []) ≡ Some (ended ++ option_to_list word)
ends_text ended None = refl
ends_text ended (Some word) = ap (λ words. Some (ended ++ words)) (in_front_part word [] [] ∙ ap (λ w. w ∷ []) (append-nil word))

pub ends_return : (ended : List (List ℕ)) (word : Option (List ℕ)) → joined ended word (words_from (unquoted word) (13 ∷ [])) ≡ Some (ended ++ (unwrap_or word [] ++ 13 ∷ []) ∷ [])
ends_return ended None = refl
ends_return ended (Some word) = ap (λ words. Some (ended ++ words)) (in_front_part word (13 ∷ []) [])

-- a reading in which bytes were put to a word, or a word has ended
pub left_put : (old new : Reading) (bs : List ℕ) (within : Within) (left : List ℕ) → Puts old bs within new
    → words_left new left ≡ joined old.words (Some (unwrap_or old.word [] ++ bs)) (words_from (standing (Some (unwrap_or old.word [] ++ bs)) within) (with_return within left))
left_put old new bs within left p = λ i. joined (p.words i) (p.word i) (words_from (standing (p.word i) (p.stands i)) (with_return (p.stands i) left))

pub left_end : (old new : Reading) (left : List ℕ) → Ends old new → words_left new left ≡ joined (old.words ++ option_to_list old.word) None (words_from between left)
left_end old new left p = λ i. joined (p.words i) (p.word i) (words_from (standing (p.word i) (p.stands i)) (with_return (p.stands i) left))

pub left_at : (reading : Reading) (within : Within) (left : List ℕ) → reading.within ≡ within
    → words_left reading left ≡ joined reading.words reading.word (words_from (standing reading.word within) (with_return within left))
left_at reading within left e = λ i. joined reading.words reading.word (words_from (standing reading.word (e i)) (with_return (e i) left))

-- what the tests of characters say
pub plain_from : (c : ℕ) → (eqb c 32 || eqb c 9 || eqb c 10) ≡ false → (c ≡ 13 → ⊥) → (c ≡ 39 → ⊥) → (c ≡ 34 → ⊥) → (c ≡ 92 → ⊥) → is_plain c ≡ true
plain_from c blank a b d e = grind (arith, nat_tests)

pub blank_from : (c : ℕ) → (eqb c 32 || eqb c 9 || eqb c 10) ≡ true → (c ≡ 32) ⊎ ((c ≡ 9) ⊎ (c ≡ 10))
blank_from c e =
    ⊎_elim (λ f. ⊎_elim (λ s. inl (eqb-true c 32 s)) (λ s. inr (inl (eqb-true c 9 s))) (or_cases (eqb c 32) (eqb c 9) f)) (λ s. inr (inr (eqb-true c 10 s)))
    (or_cases (eqb c 32 || eqb c 9) (eqb c 10) e)

pub escapable_from : (c : ℕ) → (eqb c 34 || eqb c 92) ≡ true → (c ≡ 34) ⊎ (c ≡ 92)
escapable_from c e = ⊎_elim (λ s. inl (eqb-true c 34 s)) (λ s. inr (eqb-true c 92 s)) (or_cases (eqb c 34) (eqb c 92) e)

pub plain_double_from : (c : ℕ) → (c ≡ 34 → ⊥) → (c ≡ 92 → ⊥) → is_plain_double c ≡ true
plain_double_from c a b = grind (arith, nat_tests)

pub plain_double_not : (c : ℕ) → (eqb c 34 || eqb c 92) ≡ false → is_plain_double c ≡ true
plain_double_not c e = ap not e

pub left_put_twice : (old mid new : Reading) (cs bs : List ℕ) (within : Within) (left : List ℕ) → Puts old cs within mid → Puts mid bs within new
    → words_left new left ≡ joined old.words (Some ((unwrap_or old.word [] ++ cs) ++ bs)) (words_from (standing (Some ((unwrap_or old.word [] ++ cs) ++ bs)) within) (with_return within left))
left_put_twice old mid new cs bs within left p q =
    left_put mid new bs within left q
    ∙ (λ i. joined (p.words i) (Some (unwrap_or (p.word i) [] ++ bs)) (words_from (standing (Some (unwrap_or (p.word i) [] ++ bs)) within) (with_return within left)))
