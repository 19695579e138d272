-- What stands in double quotes reads back.
use Rattle.std.proofs.Common.{◌≡◌, ◌∙◌, ℕ, ◌+◌, List, [], ◌∷◌, ◌++◌, false, eqb, Some, length, refl, sym, ap, inl, inr, append_assoc, length-append, arith}
use Rattle.std.proofs.lemmas.Bool.{cases_Bool, eqb-true}
use Rattle.yaml_lines.specs.Quoted.{double_of, escape_of}
use Rattle.yaml_lines.specs.Spelling.{after}
use Rattle.yaml_lines.specs.Laws.{escaped, closed, in_double_quotes, DoubleQuotesReadBack}

-- an escape of one character is read as that character
escape_step : (c d n : ℕ) (us rest : List ℕ) → escape_of (d ∷ rest) ≡ Some (c, 1) → double_of 0 rest ≡ Some (us, n) → double_of 0 (92 ∷ d ∷ rest) ≡ Some (c ∷ us, 2 + n)
escape_step c d n us rest e h =
    let one : double_of 0 (92 ∷ d ∷ rest) ≡ after (c ∷ []) 1 (after [] 1 (double_of 0 rest)) = rw e refl in
    let two : 1 + (1 + n) ≡ 2 + n = omega arith in
    one ∙ ap (λ r. after (c ∷ []) 1 (after [] 1 r)) h ∙ (λ i. Some (c ∷ us, two i))

plain_step : (c n : ℕ) (us rest : List ℕ) → eqb c 34 ≡ false → eqb c 10 ≡ false → eqb c 92 ≡ false → double_of 0 rest ≡ Some (us, n) → double_of 0 (c ∷ rest) ≡ Some (c ∷ us, 1 + n)
plain_step c n us rest p q r h =
    let one : double_of 0 (c ∷ rest) ≡ after (c ∷ []) 1 (double_of 0 rest) = rw (p, q, r) refl in
    one ∙ ap (after (c ∷ []) 1) h

-- a character in double quotes is read as itself
step : (c n : ℕ) (us rest : List ℕ) → double_of 0 rest ≡ Some (us, n) → double_of 0 (escaped c ++ rest) ≡ Some (c ∷ us, length (escaped c) + n)
step c n us rest h =
    elim (cases_Bool (eqb c 34)) [
      | inl quote ↦ rw (eqb-true c 34 quote) (escape_step 34 34 n us rest refl h)
      | inr no_quote ↦ elim (cases_Bool (eqb c 92)) [
        | inl backslash ↦ rw (eqb-true c 92 backslash) (escape_step 92 92 n us rest refl h)
        | inr no_backslash ↦ elim (cases_Bool (eqb c 10)) [
          | inl feed ↦ rw (eqb-true c 10 feed) (escape_step 10 110 n us rest refl h)
          | inr no_feed ↦ rw (no_quote, no_backslash, no_feed) (plain_step c n us rest no_quote no_feed no_backslash h)
        ]
      ]
    ]

closed_reads : (cs rest : List ℕ) → double_of 0 (closed cs ++ rest) ≡ Some (cs, length (closed cs))
closed_reads [] rest = refl
closed_reads (c ∷ cs) rest =
    let n : length (escaped c) + length (closed cs) ≡ length (escaped c ++ closed cs) = sym (length-append (escaped c) (closed cs)) in
    ap (double_of 0) (append_assoc (escaped c) (closed cs) rest)
    ∙ step c (length (closed cs)) cs (closed cs ++ rest) (closed_reads cs rest)
    ∙ (λ i. Some (c ∷ cs, n i))

pub double_quotes : DoubleQuotesReadBack
double_quotes cs rest =
    let n : 1 + length (closed cs) ≡ length (in_double_quotes cs) = omega arith in
    ap (after [] 1) (closed_reads cs rest) ∙ (λ i. Some (cs, n i))
