-- Parts of a text: with bytes in front, and as a text is cut at a byte.
use Rattle.std.proofs.Common.{◌≡◌, ℕ, ◌+◌, ◌<◌, ◌≤◌, List, [], ◌∷◌, ◌++◌, length, take, drop, Some, None, eqb, refl, ap, sym, ◌∙◌, ⊎_elim, arith}
use Rattle.std.proofs.lemmas.Bool.{cases_lt, cond-false, cond-true, le-ltb, lt-ltb}
use Rattle.std.proofs.lemmas.List.Splits.{length-slice_split, slice_split_first, slice_split_none}
use Rattle.std.proofs.lemmas.List.Sums.{fails_before_first}
use Rattle.std.proofs.lemmas.Option.{none-some, some_pair_parts}
use Rattle.std.specs.List.{onto_first, position_or_len, slice_split}
use Rattle.std.specs.Option.{option_map}
use Rattle.short_forms.specs.Cuts.{cut_once, in_front, parts_at}

-- one more byte of the front
pub in_front_more : (front : List ℕ) (b : ℕ) (parts : List (List ℕ)) → in_front front (onto_first b parts) ≡ in_front (front ++ b ∷ []) parts
in_front_more [] b parts = refl
in_front_more (x ∷ front) b parts = ap (onto_first x) (in_front_more front b parts)

-- more bytes of the front
pub in_front_join : (front bs : List ℕ) (parts : List (List ℕ)) → in_front front (in_front bs parts) ≡ in_front (front ++ bs) parts
in_front_join [] bs parts = refl
in_front_join (x ∷ front) bs parts = ap (onto_first x) (in_front_join front bs parts)

pub in_front_part : (front part : List ℕ) (parts : List (List ℕ)) → in_front front (part ∷ parts) ≡ (front ++ part) ∷ parts
in_front_part [] part parts = refl
in_front_part (x ∷ front) part parts = ap (onto_first x) (in_front_part front part parts)

-- a text with a byte in it is cut at the first one
module _ (at : ℕ) (text : List ℕ) where
  abbrev place : ℕ
  place = position_or_len (λ b. eqb b at) text

  cut_there : place < length text → cut_once at text ≡ Some (take place text, drop (place + 1) text)
  cut_there within = ap (option_map (λ n. (take n text, drop (n + 1) text))) (cond-true _ _ _ (lt-ltb place (length text) within))

  cut_nowhere : length text ≤ place → cut_once at text ≡ None
  cut_nowhere past = ap (option_map (λ n. (take n text, drop (n + 1) text))) (cond-false _ _ _ (le-ltb place (length text) past))

  -- the first part between such bytes, and the others
  pub split_cut : (first rest : List ℕ) → cut_once at text ≡ Some (first, rest) → parts_at at text ≡ first ∷ parts_at at rest
  split_cut first rest e = ⊎_elim
      (λ l. let same = some_pair_parts _ _ _ _ (sym (cut_there l) ∙ e) in slice_split_first (λ b. eqb b at) text 0 l ∙ (λ i. same.0 i ∷ slice_split (λ b. eqb b at) (same.1 i)))
      (λ l. absurd (none-some _ (sym (cut_nowhere l) ∙ e))) (cases_lt place (length text))

  pub split_whole : cut_once at text ≡ None → parts_at at text ≡ text ∷ []
  split_whole e = ⊎_elim (λ l. absurd (none-some _ (sym e ∙ cut_there l)))
      (λ l. slice_split_none (λ b. eqb b at) text (λ k d within. fails_before_first (λ b. eqb b at) text k d (omega arith))) (cases_lt place (length text))

-- there is one part at least
pub some_parts : (at : ℕ) (text : List ℕ) → 0 < length (parts_at at text)
some_parts at text = omega (arith, length-slice_split (λ b. eqb b at) text)
