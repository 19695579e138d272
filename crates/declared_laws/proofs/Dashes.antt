-- A name of project, service and number is read back from its last dash.
use Rattle.std.proofs.Common.{◌≡◌, ◌∙◌, ◌+◌, ◌<◌, ◌^◌, ◌%◌, ℕ, List, [], ◌∷◌, ◌++◌, Option, decimal, refl, sym, ap, subst, inl, inr, arith}
use Rattle.std.specs.Prelude.{codes, unwrap_or}
use Rattle.std.proofs.lemmas.Fmt.{decimal_by_steps, decimal_injective}
use Rattle.std.proofs.lemmas.List.{append_assoc, append_cancel_left}
use Rattle.declared_slots.specs.Named.{name_of}
use Rattle.run_model.specs.EngineRules.{Among}
use Rattle.run_model.proofs.DistinctLists.{among_right, from_append}
use Rattle.typed_project.specs.declared.service.Service.{Service}
use Rattle.declared_laws.specs.Laws.{IsUnnamed}

-- a numeral has no dash
no_dash : (n : ℕ) → n < 2 ^ 64 → Among (decimal n) 45 → ⊥
no_dash = decimal_by_steps (λ n digits. Among digits 45 → ⊥)
    (λ n l m. one n m)
    (λ n digits l none m. elim (from_append digits ((48 + n % 10) ∷ []) 45 m) [ inl h ↦ none h | inr h ↦ one (n % 10) h ])
  where
    one : (d : ℕ) → Among ((48 + d) ∷ []) 45 → ⊥
    one d (inl e) = omega (arith, e)
    one d (inr m) = m

-- what stands behind the last dash, and what before it
last_dash : (a b ds es : List ℕ) → (Among ds 45 → ⊥) → (Among es 45 → ⊥) → a ++ 45 ∷ ds ≡ b ++ 45 ∷ es → (a ≡ b) × (ds ≡ es)
last_dash [] [] ds es n m e = (refl, cc e)
last_dash [] (y ∷ b) ds es n m e =
    let rest : ds ≡ b ++ 45 ∷ es = cc e in
    absurd (n (subst (λ (l : List ℕ). Among l 45) (sym rest) (among_right b (45 ∷ es) 45 (inl refl))))
last_dash (x ∷ a) [] ds es n m e =
    let rest : a ++ 45 ∷ ds ≡ es = cc e in
    absurd (m (subst (λ (l : List ℕ). Among l 45) rest (among_right a (45 ∷ ds) 45 (inl refl))))
last_dash (x ∷ a) (y ∷ b) ds es n m e =
    let first : x ≡ y = cc e in
    let rest : a ++ 45 ∷ ds ≡ b ++ 45 ∷ es = cc e in
    let r = last_dash a b ds es n m rest in
    (ap (λ c. c ∷ a) first ∙ ap (λ l. y ∷ l) r.0, r.1)

regroup : (a b c d e : List ℕ) → a ++ b ++ c ++ d ++ e ≡ a ++ (b ++ (c ++ (d ++ e)))
regroup a b c d e = simp append_assoc

-- a name, from its first part on
spelled : (project : List ℕ) (service : Service) (number : ℕ) → IsUnnamed service → name_of project service number ≡ project ++ (45 ∷ (service.key ++ (45 ∷ decimal number)))
spelled project service number unnamed =
    ap (λ (o : Option (List ℕ)). unwrap_or o (project ++ codes "-" ++ service.key ++ codes "-" ++ decimal number)) unnamed
    ∙ regroup project (codes "-") service.key (codes "-") (decimal number)

pub names_tell : (project : List ℕ) (service other : Service) (number another : ℕ) → IsUnnamed service → IsUnnamed other → number < 2 ^ 32 → another < 2 ^ 32
    → name_of project service number ≡ name_of project other another → (service.key ≡ other.key) × (number ≡ another)
names_tell project service other number another first second few fewer e =
    let same = sym (spelled project service number first) ∙ e ∙ spelled project other another second in
    let behind = append_cancel_left project (45 ∷ (service.key ++ (45 ∷ decimal number))) (45 ∷ (other.key ++ (45 ∷ decimal another))) same in
    let rest : service.key ++ (45 ∷ decimal number) ≡ other.key ++ (45 ∷ decimal another) = cc behind in
    let r = last_dash service.key other.key (decimal number) (decimal another) (no_dash number (omega (arith, few))) (no_dash another (omega (arith, fewer))) rest in
    (r.0, decimal_injective number another (omega (arith, few)) (omega (arith, fewer)) r.1)
