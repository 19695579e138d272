-- The keys of objects of JSON, with the colon behind them.
use Rattle.std.proofs.Common.{◌≡◌, ◌∙◌, ℕ, suc, ◌+◌, Bool, List, [], ◌∷◌, ◌++◌, Ok, drop, flat_map, length, refl, ap, append_assoc, length-append, arith}
use Rattle.std.proofs.lemmas.List.{drop_at}
use Rattle.json.specs.Print.{escape_byte, quoted}
use Rattle.yaml_groups.specs.Cuts.{token_len, with_colon}
use Rattle.yaml_lines.specs.declared.plain.Context.TheVariants.{Flow}
use Rattle.yaml_lines.specs.declared.row.Row.{Row}
use Rattle.yaml_nodes.specs.declared.progress.Progress.{Progress}
use Rattle.yaml_nodes.specs.Mappings.{key_at}
use Rattle.yaml_nodes.specs.Marks.{before_colon, key_len}
use Rattle.laws_yaml.proofs.PageTokens.{before_is, key_is, key_of, len_is}
use Rattle.laws_yaml.proofs.ScalarTexts.{quoted_token_is}
use Rattle.laws_yaml.proofs.FlowTokens.{Goes, no_cut, token_goes}
use Rattle.laws_yaml.proofs.Strings.{string_spelled}

-- what stands behind the opening quote of a string
abbrev pub behind_quote : List ℕ → List ℕ
behind_quote text = flat_map escape_byte text ++ 34 ∷ []

module _ (key : List ℕ) where
  len : (rest : List ℕ) → key_len Flow (quoted key ++ rest) ≡ length (quoted key)
  len rest = len_is Flow (quoted key ++ rest) key (length (quoted key)) (string_spelled Flow key rest)

  -- a key and its colon are one token
  with_colon_len : (white : Bool) (rest : List ℕ)
      → token_len white (34 ∷ ((behind_quote key ++ 58 ∷ []) ++ rest)) ≡ suc (length (behind_quote key ++ 58 ∷ []))
  with_colon_len white rest =
      let longer = length-append (behind_quote key) (58 ∷ []) in
      let end : length (quoted key) + 0 + 1 ≡ suc (length (behind_quote key ++ 58 ∷ [])) = omega (arith, longer) in
      ap (λ l. token_len white (34 ∷ l)) (append_assoc (behind_quote key) (58 ∷ []) rest)
      ∙ quoted_token_is 34 (behind_quote key ++ 58 ∷ rest) refl (length (quoted key)) (omega arith) (len (58 ∷ rest)) refl white
      ∙ ap (with_colon (length (quoted key))) (drop_at (quoted key) (58 ∷ rest) (length (quoted key)) refl)
      ∙ end

  -- the cuts go over a key and its colon, whatever follows
  pub key_goes : (n : ℕ) (rest : List ℕ) → Goes n n (quoted key ++ 58 ∷ []) rest
  key_goes n rest = token_goes n n 34 (behind_quote key ++ 58 ∷ []) rest (no_cut n 34 refl) refl (λ white. with_colon_len white rest)

  -- its colon stands right behind it
  pub key_before : (rest : List ℕ) → before_colon Flow (quoted key ++ 58 ∷ rest) ≡ length (quoted key)
  key_before rest =
      before_is Flow (quoted key ++ 58 ∷ rest) key (length (quoted key)) (string_spelled Flow key (58 ∷ rest))
      (58 ∷ rest) (drop_at (quoted key) (58 ∷ rest) (length (quoted key)) refl) refl

  -- and it is read as its text
  pub key_reads : (p : Progress) (row : Row) (at : ℕ) (rest : List ℕ) → drop at row.chars ≡ quoted key ++ rest
      → key_at Flow p row at ≡ Ok (key_of key (length (quoted key)))
  key_reads p row at rest here = key_is Flow (quoted key ++ rest) key (length (quoted key)) (string_spelled Flow key rest) p row at here
