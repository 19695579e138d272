-- A string of JSON is read back in double quotes.
use Rattle.std.proofs.Common.{◌≡◌, ◌∙◌, ℕ, ◌+◌, ◌*◌, ◌/◌, ◌%◌, ◌<◌, List, [], ◌∷◌, ◌++◌, true, false, eqb, ltb, Some, flat_map, length, refl, sym, ap, inl, inr, append_assoc, length-append, arith, true≢false}
use Rattle.std.proofs.lemmas.Bool.{cases_Bool, eqb-true, ltb-true}
use Rattle.std.proofs.lemmas.Bool.Decides.{nat_tests}
use Rattle.std.specs.Char.{digit_char, digit_value}
use Rattle.std.specs.Option.{option_and_then}
use Rattle.json.specs.Print.{escape_byte, quoted}
use Rattle.yaml_lines.specs.declared.plain.Context.{Context}
use Rattle.yaml_lines.specs.Quoted.{double_of, escape_of, hex_of, quoted_of, scalar_value}
use Rattle.yaml_lines.specs.Spelling.{after}
use Rattle.laws_yaml.proofs.Spelled.{IsSpelled}

-- an escape of one character is read as the character that it stands for
escape_step : (c d n : ℕ) (us rest : List ℕ) → escape_of (d ∷ rest) ≡ Some (c, 1) → double_of 0 rest ≡ Some (us, n)
    → double_of 0 (92 ∷ d ∷ rest) ≡ Some (c ∷ us, 2 + n)
escape_step c d n us rest e h =
    let one : double_of 0 (92 ∷ d ∷ rest) ≡ after (c ∷ []) 1 (after [] 1 (double_of 0 rest)) = rw e refl in
    let two : 1 + (1 + n) ≡ 2 + n = omega arith in
    one ∙ ap (λ r. after (c ∷ []) 1 (after [] 1 r)) h ∙ (λ i. Some (c ∷ us, two i))

plain_step : (c n : ℕ) (us rest : List ℕ) → eqb c 34 ≡ false → eqb c 10 ≡ false → eqb c 92 ≡ false
    → double_of 0 rest ≡ Some (us, n) → double_of 0 (c ∷ rest) ≡ Some (c ∷ us, 1 + n)
plain_step c n us rest p q r h =
    let one : double_of 0 (c ∷ rest) ≡ after (c ∷ []) 1 (double_of 0 rest) = rw (p, q, r) refl in
    one ∙ ap (after (c ∷ []) 1) h

-- a hexadecimal digit has its value
digit_back : (d : ℕ) → d < 16 → digit_value (digit_char d) ≡ d
digit_back d h = grind (arith, nat_tests)

-- two digits are the control character, behind two noughts
hex_back : (c : ℕ) (rest : List ℕ) → c < 32
    → hex_of 2 0 (digit_char (c / 16) ∷ digit_char (c % 16) ∷ rest) ≡ Some c
hex_back c rest h = by (digit_char (c / 16)) (digit_char (c % 16)) (digit_back (c / 16) (omega arith)) (digit_back (c % 16) (omega arith))
  where
    value : ltb c 0xD800 ≡ true
    value = grind arith

    small : (k : ℕ) → k < 16 → ltb k 16 ≡ true
    small k l = grind arith

    by : (a b : ℕ) → digit_value a ≡ c / 16 → digit_value b ≡ c % 16 → hex_of 2 0 (a ∷ b ∷ rest) ≡ Some c
    by a b e f =
        let p : ltb (digit_value a) 16 ≡ true = ap (λ n. ltb n 16) e ∙ small (c / 16) (omega arith) in
        let q : ltb (digit_value b) 16 ≡ true = ap (λ n. ltb n 16) f ∙ small (c % 16) (omega arith) in
        let m : (0 * 16 + c / 16) * 16 + c % 16 ≡ c = omega arith in
        let n : (0 * 16 + digit_value a) * 16 + digit_value b ≡ c = (λ i. (0 * 16 + e i) * 16 + f i) ∙ m in
        let one : hex_of 2 0 (a ∷ b ∷ rest) ≡ scalar_value ((0 * 16 + digit_value a) * 16 + digit_value b) = rw (p, q) refl in
        let two : scalar_value c ≡ Some c = rw value refl in
        one ∙ ap scalar_value n ∙ two

hex_step : (c n : ℕ) (us rest : List ℕ) → c < 32 → double_of 0 rest ≡ Some (us, n)
    → double_of 0 (92 ∷ 117 ∷ 48 ∷ 48 ∷ digit_char (c / 16) ∷ digit_char (c % 16) ∷ rest) ≡ Some (c ∷ us, 6 + n)
hex_step c n us rest l h = by (digit_char (c / 16)) (digit_char (c % 16)) (hex_back c rest l)
  where
    by : (a b : ℕ) → hex_of 2 0 (a ∷ b ∷ rest) ≡ Some c
        → double_of 0 (92 ∷ 117 ∷ 48 ∷ 48 ∷ a ∷ b ∷ rest) ≡ Some (c ∷ us, 6 + n)
    by a b e =
        let one : escape_of (117 ∷ 48 ∷ 48 ∷ a ∷ b ∷ rest) ≡ Some (c, 5) = rw e refl in
        let two : double_of 0 (92 ∷ 117 ∷ 48 ∷ 48 ∷ a ∷ b ∷ rest) ≡ after (c ∷ []) 1 (after [] 1 (after [] 1 (after [] 1 (after [] 1 (after [] 1 (double_of 0 rest)))))) = ap (option_and_then (λ e. after (e.0 ∷ []) 1 (double_of e.1 (117 ∷ 48 ∷ 48 ∷ a ∷ b ∷ rest)))) one in
        let m : 1 + (1 + (1 + (1 + (1 + (1 + n))))) ≡ 6 + n = omega arith in
        two ∙ ap (λ r. after (c ∷ []) 1 (after [] 1 (after [] 1 (after [] 1 (after [] 1 (after [] 1 r)))))) h ∙ (λ i. Some (c ∷ us, m i))

-- what stands in a string for a character is read as the character
step : (c n : ℕ) (us rest : List ℕ) → double_of 0 rest ≡ Some (us, n)
    → double_of 0 (escape_byte c ++ rest) ≡ Some (c ∷ us, length (escape_byte c) + n)
unfolding escape_byte
step c n us rest h =
    elim (cases_Bool (eqb c 34)) [
      | inl quote ↦ rw (eqb-true c 34 quote) (escape_step 34 34 n us rest refl h)
      | inr no_quote ↦ elim (cases_Bool (eqb c 92)) [
        | inl backslash ↦ rw (eqb-true c 92 backslash) (escape_step 92 92 n us rest refl h)
        | inr no_backslash ↦ elim (cases_Bool (eqb c 8)) [
          | inl back ↦ rw (eqb-true c 8 back) (escape_step 8 98 n us rest refl h)
          | inr no_back ↦ elim (cases_Bool (eqb c 12)) [
            | inl form ↦ rw (eqb-true c 12 form) (escape_step 12 102 n us rest refl h)
            | inr no_form ↦ elim (cases_Bool (eqb c 10)) [
              | inl feed ↦ rw (eqb-true c 10 feed) (escape_step 10 110 n us rest refl h)
              | inr no_feed ↦ elim (cases_Bool (eqb c 13)) [
                | inl carriage ↦ rw (eqb-true c 13 carriage) (escape_step 13 114 n us rest refl h)
                | inr no_carriage ↦ elim (cases_Bool (eqb c 9)) [
                  | inl tab ↦ rw (eqb-true c 9 tab) (escape_step 9 116 n us rest refl h)
                  | inr no_tab ↦ elim (cases_Bool (ltb c 32)) [
                    | inl control ↦ rw (no_quote, no_backslash, no_back, no_form, no_feed, no_carriage, no_tab, control) (hex_step c n us rest (ltb-true c 32 control) h)
                    | inr no_control ↦ rw (no_quote, no_backslash, no_back, no_form, no_feed, no_carriage, no_tab, no_control) (plain_step c n us rest no_quote no_feed no_backslash h)
                  ]
                ]
              ]
            ]
          ]
        ]
      ]
    ]

closed_reads : (cs rest : List ℕ)
    → double_of 0 ((flat_map escape_byte cs ++ 34 ∷ []) ++ rest) ≡ Some (cs, length (flat_map escape_byte cs ++ 34 ∷ []))
closed_reads [] rest = refl
closed_reads (c ∷ cs) rest =
    let n : length (escape_byte c) + length (flat_map escape_byte cs ++ 34 ∷ []) ≡ length ((escape_byte c ++ flat_map escape_byte cs) ++ 34 ∷ []) =
    sym (ap length (append_assoc (escape_byte c) (flat_map escape_byte cs) (34 ∷ [])) ∙ length-append (escape_byte c) (flat_map escape_byte cs ++ 34 ∷ [])) in
    ap (double_of 0) (joined (escape_byte c) (flat_map escape_byte cs) rest)
    ∙ step c (length (flat_map escape_byte cs ++ 34 ∷ [])) cs ((flat_map escape_byte cs ++ 34 ∷ []) ++ rest) (closed_reads cs rest)
    ∙ (λ i. Some (c ∷ cs, n i))
  where
    joined : (a b r : List ℕ) → ((a ++ b) ++ 34 ∷ []) ++ r ≡ a ++ ((b ++ 34 ∷ []) ++ r)
    joined a b r = simp append_assoc

-- a string of JSON is read as its text, whatever follows it
pub string_reads : (text rest : List ℕ) → quoted_of (quoted text ++ rest) ≡ Some (text, length (quoted text))
string_reads text rest =
    let n : 1 + length (flat_map escape_byte text ++ 34 ∷ []) ≡ length (quoted text) = omega arith in
    ap (after [] 1) (closed_reads text rest) ∙ (λ i. Some (text, n i))

-- and so it spells the text
pub string_spelled : (context : Context) (text rest : List ℕ)
    → IsSpelled context (quoted text ++ rest) text (length (quoted text))
string_spelled context text rest = record {
  front = 34;
  more = (flat_map escape_byte text ++ 34 ∷ []) ++ rest;
  is = refl;
  first = refl;
  some = omega arith;
  read = string_reads text rest;
  spells = λ bare. absurd (true≢false bare);
}
