-- A step of the loop that passes over a gap.
use Rattle.std.proofs.Common.{◌≡◌, ◌∙◌, ℕ, ◌+◌, ◌<◌, List, ◌∷◌, Bool, true, false, not, ◌==◌, ◌&&◌, ◌||◌, eqb, length, get_or, drop, refl, sym, ap, inl, inr, arith, add_assoc}
use Rattle.std.proofs.lemmas.Bool.{cases_Bool, false≢true}
use Rattle.std.proofs.lemmas.Bool.Decides.{nat_tests}
use Rattle.std.proofs.lemmas.List.{at_drop_more}
use Rattle.yaml_flow.specs.Gaps.{past_gap}
use Rattle.yaml_lines.specs.Blanks.{is_white}
use Rattle.yaml_lines.specs.declared.row.Row.{Row}
use Rattle.yaml_nodes.specs.declared.progress.Progress.{Progress}
use Rattle.yaml_nodes.specs.Marks.{is_left_out}

no_mark : (c : ℕ) → is_white c ≡ true → eqb c 35 ≡ false
no_mark c h = grind (arith, nat_tests)

-- a character of a gap is passed over
past : (p : Progress) (row : Row) (at : ℕ) (comment white : Bool) (c : ℕ) (cs : List ℕ)
    → ((c == 10) && is_left_out cs) ≡ false → ((c == 10) || (comment || (is_white c || ((c == 35) && white)))) ≡ true
    → past_gap p row at comment white (c ∷ cs) ≡ past_gap p row (at + 1) (not (c == 10) && (comment || (c == 35))) true cs
past p row at comment white c cs kept inside =
    elim (cases_Bool (eqb c 10)) [
      | inl end ↦ let k : is_left_out cs ≡ false = rw end at kept in rw (end, k) refl
      | inr e ↦ let more = rw e at inside in elim (cases_Bool comment) [
        | inl h ↦ rw (e, h) refl
        | inr h ↦ let more = rw h at more in elim (cases_Bool (is_white c)) [
          | inl w ↦ let n = no_mark c w in rw (e, h, w, n) refl
          | inr w ↦ let more = rw w at more in elim (cases_Bool (eqb c 35)) [
            | inl m ↦ let b : white ≡ true = rw m at more in rw (e, h, w, m, b) refl
            | inr m ↦ absurd (false≢true (rw m at more))
          ]
        ]
      ]
    ]

-- the same in a loop over the characters from a place on
pub past_one : (p : Progress) (row : Row) (at n : ℕ) (comment white : Bool) (cs : List ℕ) (c : ℕ) → n < length cs → c ≡ get_or cs n c
    → ((c == 10) && is_left_out (drop (n + 1) cs)) ≡ false → ((c == 10) || (comment || (is_white c || ((c == 35) && white)))) ≡ true
    → past_gap p row (at + n) comment white (drop n cs) ≡ past_gap p row (at + (n + 1)) (not (c == 10) && (comment || (c == 35))) true (drop (n + 1) cs)
past_one p row at n comment white cs c h e kept inside =
    at_drop_more (past_gap p row (at + n) comment white) cs n c h ∙ ap (λ x. past_gap p row (at + n) comment white (x ∷ drop (n + 1) cs)) (sym e)
    ∙ past p row (at + n) comment white c (drop (n + 1) cs) kept inside
    ∙ ap (λ k. past_gap p row k (not (c == 10) && (comment || (c == 35))) true (drop (n + 1) cs)) (add_assoc at n 1)
