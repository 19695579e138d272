-- What stands in double quotes reads back.
use Rattle.std.proofs.Common.{◌≡◌, ◌∙◌, ℕ, ◌+◌, List, [], ◌∷◌, ◌++◌, false, eqb, Some, length, refl, sym, ap, inl, inr, append_assoc, length-append}
use Rattle.std.proofs.lemmas.Bool.{cases_Bool, eqb-true}
use Rattle.dotenv.specs.declared.quote.Quote.TheVariants.{Double}
use Rattle.dotenv.specs.Quotes.{escaped, after, quoted_of}
use Rattle.dotenv.specs.Laws.{in_quotes, closed, DoubleQuotesReadBack}

-- an escaped character is read as that character
escape_reads : (c d n : ℕ) (cs rest : List ℕ) → escaped Double 92 d ≡ Some c → quoted_of Double rest ≡ Some (cs, n) → quoted_of Double (92 ∷ d ∷ rest) ≡ Some (c ∷ cs, 2 + n)
escape_reads c d n cs rest e h =
    let one : quoted_of Double (92 ∷ d ∷ rest) ≡ after (c ∷ []) 2 (quoted_of Double rest) = rw e refl in
    one ∙ ap (after (c ∷ []) 2) h

plain_reads : (c n : ℕ) (cs rest : List ℕ) → eqb c 34 ≡ false → eqb c 92 ≡ false → quoted_of Double rest ≡ Some (cs, n) → quoted_of Double (c ∷ rest) ≡ Some (c ∷ cs, 1 + n)
plain_reads c n cs [] p q h = absurd cc
plain_reads c n cs (d ∷ rest) p q h =
    let one : quoted_of Double (c ∷ d ∷ rest) ≡ after (c ∷ []) 1 (quoted_of Double (d ∷ rest)) = rw (p, q) refl in
    one ∙ ap (after (c ∷ []) 1) h

-- a character in double quotes is read as itself
reads : (c n : ℕ) (cs rest : List ℕ) → quoted_of Double rest ≡ Some (cs, n) → quoted_of Double (in_quotes c ++ rest) ≡ Some (c ∷ cs, length (in_quotes c) + n)
reads c n cs rest h =
    elim (cases_Bool (eqb c 34)) [
      | inl quote ↦ rw (eqb-true c 34 quote) (escape_reads 34 34 n cs rest refl h)
      | inr no_quote ↦ elim (cases_Bool (eqb c 92)) [
        | inl backslash ↦ rw (eqb-true c 92 backslash) (escape_reads 92 92 n cs rest refl h)
        | inr no_backslash ↦ elim (cases_Bool (eqb c 10)) [
          | inl feed ↦ rw (eqb-true c 10 feed) (escape_reads 10 110 n cs rest refl h)
          | inr no_feed ↦ elim (cases_Bool (eqb c 13)) [
            | inl return ↦ rw (eqb-true c 13 return) (escape_reads 13 114 n cs rest refl h)
            | inr no_return ↦ elim (cases_Bool (eqb c 9)) [
              | inl tab ↦ rw (eqb-true c 9 tab) (escape_reads 9 116 n cs rest refl h)
              | inr no_tab ↦ rw (no_quote, no_backslash, no_feed, no_return, no_tab) (plain_reads c n cs rest no_quote no_backslash h)
            ]
          ]
        ]
      ]
    ]

pub read_back : DoubleQuotesReadBack
read_back [] rest = by rest
  where
    by : (rest : List ℕ) → quoted_of Double (34 ∷ rest) ≡ Some ([], 1)
    by [] = refl
    by (c ∷ cs) = refl
read_back (c ∷ cs) rest =
    let n : length (in_quotes c) + length (closed cs) ≡ length (in_quotes c ++ closed cs) = sym (length-append (in_quotes c) (closed cs)) in
    ap (quoted_of Double) (append_assoc (in_quotes c) (closed cs) rest)
    ∙ reads c (length (closed cs)) cs (closed cs ++ rest) (read_back cs rest)
    ∙ (λ i. Some (c ∷ cs, n i))
