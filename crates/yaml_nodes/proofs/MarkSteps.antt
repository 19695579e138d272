-- Steps of the loops over the marks of a line.
use Rattle.std.proofs.Common.{◌≡◌, ◌≢◌, ◌∙◌, ℕ, zero, suc, ◌+◌, ◌≤◌, List, [], ◌∷◌, drop, length, refl, inl, inr, arith, add-one}
use Rattle.std.proofs.lemmas.Bool.{cases_Bool}
use Rattle.std.proofs.lemmas.List.{drop-drop}
use Rattle.yaml_lines.specs.Blanks.{is_white}
use Rattle.yaml_nodes.specs.Marks.{name_len, is_property, properties_len, front_len}

-- a property that began before is passed over
passes : (n : ℕ) (cs : List ℕ) → n ≤ length cs → properties_len n cs ≡ n + properties_len 0 (drop n cs)
passes zero cs h = omega arith
passes (suc n) [] h = absurd (omega arith)
passes (suc n) (c ∷ cs) h = let e = passes n cs (omega arith) in omega arith

name_within : (cs : List ℕ) → name_len cs ≤ length cs
name_within [] = omega arith
name_within (c ∷ cs) = let e = name_within cs in grind arith

-- a run is what stands in front and the run behind it
fronted : (cs : List ℕ) → front_len cs ≢ 0 → properties_len 0 cs ≡ front_len cs + properties_len 0 (drop (front_len cs) cs)
fronted [] h = absurd (h refl)
fronted (c ∷ cs) h =
    elim (cases_Bool (is_white c)) [
      | inl white ↦ rw white (omega arith)
      | inr black ↦ elim (cases_Bool (is_property (c ∷ cs))) [
        | inl property ↦
            let e = passes (name_len cs) cs (name_within cs) in
            let k : drop (name_len cs + 1) (c ∷ cs) ≡ drop (name_len cs) cs = rw (add-one (name_len cs)) refl in
            rw (black, property, k) (omega arith)
        | inr other ↦ absurd (h (rw (black, other) refl))
      ]
    ]

pub run_step : (cs : List ℕ) (i n : ℕ) → n ≡ front_len (drop i cs) → n ≢ 0 → properties_len 0 (drop i cs) ≡ n + properties_len 0 (drop (i + n) cs)
run_step cs i n e h =
    let one = fronted (drop i cs) (λ none. h (e ∙ none)) in
    rw (← drop-drop n i cs) (rw (← e) at one)
