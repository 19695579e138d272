-- The amounts of a duration.
use Rattle.std.proofs.Common.{◌≡◌, ℕ, ◌+◌, ◌<◌, Bool, true, false, not, ◌&&◌, List, [], ◌∷◌, length, get_or, take, drop, cond, refl, ap, sym, ◌∙◌, add-zero, arith}
use Rattle.std.proofs.lemmas.Bool.{cond-true, cond-false}
use Rattle.std.proofs.lemmas.List.{drop_more, take_more, get_or-drop, drop_all}
use Rattle.short_forms.specs.Cuts.{in_front}
use Rattle.short_forms.specs.Durations.{amounts, is_of_number}
use Rattle.short_forms.proofs.CutLemmas.{in_front_more, in_front_part}

abbrev ends : List ℕ → ℕ → Bool
ends text i = not (is_of_number (get_or text i 0)) && is_of_number (get_or text (i + 1) 0)

-- the test of the definition, at a place
ends_at : (text : List ℕ) (i : ℕ) → (not (is_of_number (get_or text i 0)) && is_of_number (get_or (drop (i + 1) text) 0 0)) ≡ ends text i
ends_at text i = rw (get_or-drop, add-zero) refl

-- inside an amount
pub amounts_on : (text : List ℕ) (i : ℕ) → i < length text → ends text i ≡ false
    → in_front (take i text) (amounts (drop i text)) ≡ in_front (take (i + 1) text) (amounts (drop (i + 1) text))
amounts_on text i within e =
    ap (λ rest. in_front (take i text) (amounts rest)) (drop_more text i 0 within)
    ∙ ap (in_front (take i text)) (cond-false _ _ _ (ends_at text i ∙ e))
    ∙ in_front_more (take i text) (get_or text i 0) (amounts (drop (i + 1) text))
    ∙ ap (λ front. in_front front (amounts (drop (i + 1) text))) (sym (take_more text i 0 within))

-- at its end
pub amounts_cut : (text : List ℕ) (i : ℕ) → i < length text → ends text i ≡ true
    → in_front (take i text) (amounts (drop i text)) ≡ take (i + 1) text ∷ amounts (drop (i + 1) text)
amounts_cut text i within e =
    ap (λ rest. in_front (take i text) (amounts rest)) (drop_more text i 0 within)
    ∙ ap (in_front (take i text)) (cond-true _ _ _ (ends_at text i ∙ e))
    ∙ in_front_part (take i text) (get_or text i 0 ∷ []) (amounts (drop (i + 1) text))
    ∙ ap (λ front. front ∷ amounts (drop (i + 1) text)) (sym (take_more text i 0 within))

-- at the last byte
last_amount : (b : ℕ) → amounts (b ∷ []) ≡ (b ∷ []) ∷ []
last_amount b = elim (not (is_of_number b) && is_of_number 0) as (λ t. cond t ((b ∷ []) ∷ []) ((b ∷ []) ∷ []) ≡ (b ∷ []) ∷ []) [ true ↦ refl | false ↦ refl ]

pub amounts_end : (text : List ℕ) (i : ℕ) → i + 1 ≡ length text → in_front (take i text) (amounts (drop i text)) ≡ take (length text) text ∷ amounts (drop (length text) text)
amounts_end text i e =
    let within : i < length text = omega arith in
    let none : drop (i + 1) text ≡ [] = drop_all (i + 1) text (omega arith) in
    let all : take (i + 1) text ≡ take (length text) text = ap (λ n. take n text) e in
    ap (λ rest. in_front (take i text) (amounts rest)) (drop_more text i 0 within ∙ ap (λ rest. get_or text i 0 ∷ rest) none)
    ∙ ap (in_front (take i text)) (last_amount (get_or text i 0))
    ∙ in_front_part (take i text) (get_or text i 0 ∷ []) []
    ∙ ap (λ front. front ∷ []) (sym (take_more text i 0 within) ∙ all)
    ∙ ap (λ rest. take (length text) text ∷ amounts rest) (sym none ∙ ap (λ n. drop n text) e)
