-- The keys of a flow mapping, with the colon and the space behind them.
use Rattle.std.proofs.Common.{◌≡◌, ◌∙◌, ℕ, suc, ◌+◌, ◌||◌, Bool, true, false, eqb, List, [], ◌∷◌, ◌++◌, Ok, drop, length, refl, sym, ap, subst, append_assoc, append-nil, length-append, arith}
use Rattle.std.proofs.lemmas.List.{drop_at}
use Rattle.yaml_groups.specs.Cuts.{is_closing, token_len, with_colon}
use Rattle.project_print.specs.Scalars.{scalar}
use Rattle.yaml_lines.specs.declared.plain.Context.TheVariants.{Flow}
use Rattle.yaml_lines.specs.declared.row.Row.{Row}
use Rattle.yaml_nodes.specs.declared.progress.Progress.{Progress}
use Rattle.yaml_nodes.specs.Mappings.{key_at}
use Rattle.yaml_nodes.specs.Marks.{before_colon, key_len}
use Rattle.laws_yaml.proofs.Firsts.{is_first, never}
use Rattle.laws_yaml.proofs.Spelled.{IsSpelled, scalar_spelled}
use Rattle.laws_yaml.proofs.PageTokens.{before_is, key_is, key_of, len_is}
use Rattle.laws_yaml.proofs.ScalarTexts.{first_opens, plain_token_is, quoted_token_is}
use Rattle.laws_yaml.proofs.FlowTokens.{Goes, both_go, colon_goes, no_cut, space_goes, token_goes}

-- the characters of a key of a flow mapping, before a colon and a space
pub record IsKeyText (key : List ℕ) : Type 0 where
  pub front : ℕ
  pub more : List ℕ
  pub is : scalar key ≡ front ∷ more
  pub first : is_first front ≡ true
  pub goes : (n : ℕ) (rest : List ℕ) → Goes n n (front ∷ (more ++ 58 ∷ 32 ∷ [])) rest
  pub before : (rest : List ℕ) → before_colon Flow (front ∷ (more ++ 58 ∷ 32 ∷ rest)) ≡ suc (length more)
  pub reads : (p : Progress) (row : Row) (at : ℕ) (rest : List ℕ)
      → drop at row.chars ≡ front ∷ (more ++ 58 ∷ 32 ∷ rest)
      → key_at Flow p row at ≡ Ok (key_of key (suc (length more)))

-- the colon and the space behind a key
colon_and_space : (n : ℕ) (rest : List ℕ) → Goes n n (58 ∷ 32 ∷ []) rest
colon_and_space n rest = both_go n n n (58 ∷ []) (32 ∷ []) rest (colon_goes n rest) (space_goes n rest)

module _ (c : ℕ) (cs : List ℕ) (first : is_first c ≡ true) (len : (rest : List ℕ) → key_len Flow (c ∷ (cs ++ 58 ∷ 32 ∷ rest)) ≡ suc (length cs)) where
  uncut : (n : ℕ) → (is_closing c || eqb c 44) ≡ false
  uncut n = never (λ d. is_closing d || eqb d 44) refl c first

  plain_goes : eqb c 34 ≡ false → (n : ℕ) (rest : List ℕ) → Goes n n (c ∷ (cs ++ 58 ∷ 32 ∷ [])) rest
  plain_goes bare n rest =
      both_go n n n (c ∷ cs) (58 ∷ 32 ∷ []) rest
      (token_goes n n c cs (58 ∷ 32 ∷ rest) (no_cut n c (uncut n)) (first_opens n c first) (λ white. plain_token_is c (cs ++ 58 ∷ 32 ∷ rest) first (suc (length cs)) (omega arith) (len rest) bare white))
      (colon_and_space n rest)

  with_colon_len : eqb c 34 ≡ true → (white : Bool) (rest : List ℕ)
      → token_len white (c ∷ ((cs ++ 58 ∷ []) ++ 32 ∷ rest)) ≡ suc (length (cs ++ 58 ∷ []))
  with_colon_len quoted white rest =
      let longer = length-append cs (58 ∷ []) in
      let end : suc (length cs) + 0 + 1 ≡ suc (length (cs ++ 58 ∷ [])) = omega (arith, longer) in
      ap (λ l. token_len white (c ∷ l)) (append_assoc cs (58 ∷ []) (32 ∷ rest))
      ∙ quoted_token_is c (cs ++ 58 ∷ 32 ∷ rest) first (suc (length cs)) (omega arith) (len rest) quoted white
      ∙ ap (with_colon (suc (length cs))) (drop_at (c ∷ cs) (58 ∷ 32 ∷ rest) (suc (length cs)) refl)
      ∙ end

  quoted_goes : eqb c 34 ≡ true → (n : ℕ) (rest : List ℕ) → Goes n n (c ∷ (cs ++ 58 ∷ 32 ∷ [])) rest
  quoted_goes quoted n rest =
      subst (λ l. Goes n n (c ∷ l) rest) (append_assoc cs (58 ∷ []) (32 ∷ []))
      (both_go n n n (c ∷ (cs ++ 58 ∷ [])) (32 ∷ []) rest
      (token_goes n n c (cs ++ 58 ∷ []) (32 ∷ rest) (no_cut n c (uncut n)) (first_opens n c first) (λ white. with_colon_len quoted white rest))
      (space_goes n rest))

  key_goes : (n : ℕ) (rest : List ℕ) → Goes n n (c ∷ (cs ++ 58 ∷ 32 ∷ [])) rest
  key_goes n rest = by (eqb c 34) refl
    where
      by : (b : Bool) → eqb c 34 ≡ b → Goes n n (c ∷ (cs ++ 58 ∷ 32 ∷ [])) rest
      by true h = quoted_goes h n rest
      by false h = plain_goes h n rest

-- every text is a key
pub key_text : (key : List ℕ) → IsKeyText key
key_text key =
    let whole = scalar_spelled Flow key [] refl in
    let is : scalar key ≡ whole.front ∷ whole.more = sym (append-nil (scalar key)) ∙ whole.is in
    let line : (rest : List ℕ) → scalar key ++ 58 ∷ 32 ∷ rest ≡ whole.front ∷ (whole.more ++ 58 ∷ 32 ∷ rest) = λ rest. ap (λ s. s ++ 58 ∷ 32 ∷ rest) is in
    let spelled : (rest : List ℕ) → IsSpelled Flow (scalar key ++ 58 ∷ 32 ∷ rest) key (length (scalar key)) = λ rest. scalar_spelled Flow key (58 ∷ 32 ∷ rest) refl in
    record {
      front = whole.front;
      more = whole.more;
      is = is;
      first = whole.first;
      goes = key_goes whole.front whole.more whole.first (λ rest. ap (key_len Flow) (sym (line rest)) ∙ len_is Flow (scalar key ++ 58 ∷ 32 ∷ rest) key (length (scalar key)) (spelled rest) ∙ ap length is);
      before = λ rest. ap (before_colon Flow) (sym (line rest))
          ∙ before_is Flow (scalar key ++ 58 ∷ 32 ∷ rest) key (length (scalar key)) (spelled rest) (58 ∷ 32 ∷ rest) (drop_at (scalar key) (58 ∷ 32 ∷ rest) (length (scalar key)) refl) refl
          ∙ ap length is;
      reads = λ p row at rest here. key_is Flow (scalar key ++ 58 ∷ 32 ∷ rest) key (length (scalar key)) (spelled rest) p row at (here ∙ sym (line rest))
          ∙ ap (λ n. Ok (key_of key n)) (ap length is);
    }
