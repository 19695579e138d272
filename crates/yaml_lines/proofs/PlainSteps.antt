-- Steps over the characters of a plain scalar.
use Rattle.std.proofs.Common.{◌≡◌, ◌∙◌, ℕ, ◌+◌, ◌<◌, List, [], ◌∷◌, Bool, true, false, cond, eqb, ◌&&◌, take, drop, length, get_or, refl, sym, ap, inl, inr, add-one, if◌then◌else◌, arith}
use Rattle.std.proofs.lemmas.Bool.{cases_Bool, eqb-true}
use Rattle.std.proofs.lemmas.List.{at_drop_more}
use Rattle.yaml_lines.specs.Blanks.{is_white}
use Rattle.yaml_lines.specs.declared.plain.Context.{Context}
use Rattle.yaml_lines.specs.Plain.{ends_plain, plain_run, trimmed_len}

-- how long the rest of a plain scalar is that goes on here
abbrev pub rest_len : Context → Bool → List ℕ → ℕ
rest_len context white cs = trimmed_len (take (plain_run context white cs) cs)

-- where a plain scalar ends that goes on at a place: behind its last character that isn't white, which stands before the place where the rest has none
abbrev pub end_of : Context → Bool → ℕ → ℕ → List ℕ → ℕ
end_of context white at end cs = cond (eqb (rest_len context white cs) 0) end (at + rest_len context white cs)

abbrev pub EndsAt : Context → Bool → ℕ → ℕ → List ℕ → ℕ → Type 0
EndsAt context white at end cs total = end_of context white at end cs ≡ total

ends_here : (context : Context) (white : Bool) (at end : ℕ) (cs : List ℕ) → ends_plain context white cs ≡ true → end_of context white at end cs ≡ end
ends_here context white at end [] h = refl
ends_here context white at end (c ∷ cs) h = rw h refl

-- it has ended
pub ended : (context : Context) (white : Bool) (at end : ℕ) (cs : List ℕ) (total : ℕ) → ends_plain context white cs ≡ true → EndsAt context white at end cs total → end ≡ total
ended context white at end cs total h so_far = sym (ends_here context white at end cs h) ∙ so_far

longer : (space : Bool) (n at end : ℕ) → cond (eqb (if space && eqb n 0 then 0 else n + 1) 0) end (at + (if space && eqb n 0 then 0 else n + 1)) ≡ cond (eqb n 0) (if space then end else at + 1) (at + 1 + n)
longer true n at end =
    elim (cases_Bool (eqb n 0)) [
      | inl none ↦ rw none refl
      | inr some ↦ let more : eqb (n + 1) 0 ≡ false = grind arith in rw (some, more) (omega arith)
    ]
longer false n at end =
    let more : eqb (n + 1) 0 ≡ false = grind arith in
    elim (cases_Bool (eqb n 0)) [
      | inl none ↦ rw (more, none) (omega (arith, eqb-true n 0 none))
      | inr some ↦ rw (more, some) (omega arith)
    ]

goes_on : (context : Context) (white : Bool) (at end c : ℕ) (cs : List ℕ) → ends_plain context white (c ∷ cs) ≡ false
    → end_of context white at end (c ∷ cs) ≡ end_of context (is_white c) (at + 1) (if is_white c then end else at + 1) cs
goes_on context white at end c cs h =
    let n = rest_len context (is_white c) cs in
    let one : rest_len context white (c ∷ cs) ≡ (if is_white c && eqb n 0 then 0 else n + 1) = rw (h, add-one (plain_run context (is_white c) cs)) refl in
    ap (λ m. cond (eqb m 0) end (at + m)) one ∙ longer (is_white c) n at end

-- it goes on behind a character
pub passed : (context : Context) (white white' : Bool) (at end end' c : ℕ) (cs : List ℕ) (total : ℕ) → at < length cs → c ≡ get_or cs at c → ends_plain context white (drop at cs) ≡ false → white' ≡ is_white c → end' ≡ (if white' then end else at + 1)
    → EndsAt context white at end (drop at cs) total → EndsAt context white' (at + 1) end' (drop (at + 1) cs) total
passed context white white' at end end' c cs total w e h s f so_far =
    let later = drop (at + 1) cs in
    let next : drop at cs ≡ c ∷ later = at_drop_more (λ xs. xs) cs at c w ∙ ap (λ x. x ∷ later) (sym e) in
    let last : end' ≡ (if is_white c then end else at + 1) = f ∙ ap (λ b. if b then end else at + 1) s in
    (λ k. end_of context (s k) (at + 1) (last k) later)
    ∙ sym (goes_on context white at end c later (rw next at h))
    ∙ ap (end_of context white at end) (sym next) ∙ so_far
