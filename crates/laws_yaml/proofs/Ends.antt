-- What may stand behind a node in a flow collection: a comma, a bracket that closes, or nothing.
use Rattle.std.proofs.Common.{◌≡◌, ℕ, ◌||◌, Bool, true, false, eqb, List, [], ◌∷◌, Ok, refl, sym, subst, inl, inr}
use Rattle.std.proofs.lemmas.Bool.{eqb-true, or_cases}
use Rattle.yaml_groups.specs.Cuts.{with_colon}
use Rattle.yaml_flow.specs.Gaps.{past_gap}
use Rattle.yaml_lines.specs.Blanks.{blanks}
use Rattle.yaml_lines.specs.declared.plain.Context.TheVariants.{Flow}
use Rattle.yaml_lines.specs.declared.row.Row.{Row}
use Rattle.yaml_lines.specs.Plain.{ends_plain, is_colon}
use Rattle.yaml_nodes.specs.declared.progress.Progress.{Progress}
use Rattle.yaml_nodes.specs.Marks.{starts}

-- a comma or a bracket that closes
abbrev pub is_end_mark : ℕ → Bool
is_end_mark c = eqb c 44 || (eqb c 93 || eqb c 125)

-- one of these stands here, or nothing
abbrev pub is_end : List ℕ → Bool
is_end [] = true
is_end (c ∷ cs) = is_end_mark c

mark_cases : (P : ℕ → Type 0) → P 44 → P 93 → P 125 → (c : ℕ) → is_end_mark c ≡ true → P c
mark_cases P comma square curly c h =
    elim (or_cases (eqb c 44) (eqb c 93 || eqb c 125) h) [
      | inl e ↦ subst P (sym (eqb-true c 44 e)) comma
      | inr k ↦ elim (or_cases (eqb c 93) (eqb c 125) k) [
        | inl e ↦ subst P (sym (eqb-true c 93 e)) square
        | inr e ↦ subst P (sym (eqb-true c 125 e)) curly
      ]
    ]

-- what holds at each of them
at_end : (P : List ℕ → Type 0) → P [] → ((cs : List ℕ) → P (44 ∷ cs)) → ((cs : List ℕ) → P (93 ∷ cs))
    → ((cs : List ℕ) → P (125 ∷ cs)) → (rest : List ℕ) → is_end rest ≡ true → P rest
at_end P none comma square curly [] h = none
at_end P none comma square curly (c ∷ cs) h = mark_cases (λ c. P (c ∷ cs)) (comma cs) (square cs) (curly cs) c h

pub plain_ends : (rest : List ℕ) → is_end rest ≡ true → ends_plain Flow false rest ≡ true
plain_ends = at_end (λ rest. ends_plain Flow false rest ≡ true) refl (λ cs. refl) (λ cs. refl) (λ cs. refl)

pub no_blanks_behind : (rest : List ℕ) → is_end rest ≡ true → blanks rest ≡ 0
no_blanks_behind = at_end (λ rest. blanks rest ≡ 0) refl (λ cs. refl) (λ cs. refl) (λ cs. refl)

pub no_colon_behind : (rest : List ℕ) → is_end rest ≡ true → is_colon rest ≡ false
no_colon_behind = at_end (λ rest. is_colon rest ≡ false) refl (λ cs. refl) (λ cs. refl) (λ cs. refl)

pub no_mark_behind : (rest : List ℕ) → is_end rest ≡ true → starts 58 rest ≡ false
no_mark_behind = at_end (λ rest. starts 58 rest ≡ false) refl (λ cs. refl) (λ cs. refl) (λ cs. refl)

pub no_gap_behind : (p : Progress) (row : Row) (at : ℕ) (rest : List ℕ) → is_end rest ≡ true
    → past_gap p row at false false rest ≡ Ok at
no_gap_behind p row at = at_end (λ rest. past_gap p row at false false rest ≡ Ok at) refl (λ cs. refl) (λ cs. refl) (λ cs. refl)

-- a scalar in quotes before one of them is no key
pub no_key_colon : (len : ℕ) (rest : List ℕ) → is_end rest ≡ true → with_colon len rest ≡ len
no_key_colon len = at_end (λ rest. with_colon len rest ≡ len) refl (λ cs. refl) (λ cs. refl) (λ cs. refl)
