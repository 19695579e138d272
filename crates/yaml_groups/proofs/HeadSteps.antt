-- Steps over what stands before a line's value.
use Rattle.std.proofs.Common.{◌≡◌, ◌≢◌, ◌∙◌, ℕ, zero, suc, ◌+◌, ◌≤◌, List, [], ◌∷◌, Bool, true, false, cond, drop, length, if◌then◌else◌, refl, sym, ap, inl, inr, arith}
use Rattle.std.proofs.lemmas.Bool.{cases_Bool}
use Rattle.std.proofs.lemmas.List.{drop-drop, length-drop}
use Rattle.yaml_lines.specs.Blanks.{blanks, is_white}
use Rattle.yaml_lines.specs.declared.plain.Context.TheVariants.{Block}
use Rattle.yaml_nodes.specs.Marks.{before_colon, is_item, is_key, is_property, name_len}
use Rattle.yaml_groups.specs.Grouped.{head_of}
use Rattle.yaml_groups.specs.Parts.{front_of}

-- what began before is passed over
passes : (owner at n : ℕ) (cs : List ℕ) → n ≤ length cs → head_of owner at n cs ≡ head_of owner (at + n) 0 (drop n cs)
passes owner at zero cs h = let z : at ≡ at + 0 = omega arith in ap (λ p. head_of owner p 0 cs) z
passes owner at (suc n) [] h = absurd (omega arith)
passes owner at (suc n) (c ∷ cs) h =
    let k : at + 1 + n ≡ at + suc n = omega arith in
    passes owner (at + 1) n cs (omega arith) ∙ ap (λ p. head_of owner p 0 (drop n cs)) k

passes_more : (owner at n c : ℕ) (cs : List ℕ) → n + 1 ≤ length (c ∷ cs) → head_of owner (at + 1) n cs ≡ head_of owner (at + (n + 1)) 0 (drop (n + 1) (c ∷ cs))
passes_more owner at n c cs h =
    let k : n + 1 ≡ suc n = omega arith in
    let p : at + 1 + n ≡ at + suc n = omega arith in
    rw k (passes owner (at + 1) n cs (omega arith) ∙ ap (λ p. head_of owner p 0 (drop n cs)) p)

module _ (owner at c : ℕ) (cs : List ℕ) where
  -- what stands in front, and the head behind it, by what the tests tell
  abbrev front : Bool → Bool → Bool → Bool → ℕ × Bool
  front white item property key =
      if white then (1, false)
      else (if item then (1, true)
      else (if property then (name_len cs + 1, false)
      else (if key then (before_colon Block (c ∷ cs) + 1, true) else (0, false))))

  abbrev head : Bool → Bool → Bool → Bool → ℕ × ℕ
  head white item property key =
      if white then head_of owner (at + 1) 0 cs
      else (if item then head_of at (at + 1) 0 cs
      else (if property then head_of owner (at + 1) (name_len cs) cs
      else (if key then head_of at (at + 1) (before_colon Block (c ∷ cs)) cs else (owner, at))))

  moved : (white item property key : Bool) → (front white item property key).0 ≢ 0 → (front white item property key).0 ≤ length (c ∷ cs)
      → head white item property key ≡ head_of (cond (front white item property key).1 at owner) (at + (front white item property key).0) 0 (drop (front white item property key).0 (c ∷ cs))
  moved true item property key h w = refl
  moved false true property key h w = refl
  moved false false true key h w = passes_more owner at (name_len cs) c cs w
  moved false false false true h w = passes_more at at (before_colon Block (c ∷ cs)) c cs w
  moved false false false false h w = absurd (h refl)

  halted : (white item property key : Bool) → (front white item property key).0 ≡ 0 → head white item property key ≡ (owner, at)
  halted true item property key h = absurd (omega arith)
  halted false true property key h = absurd (omega arith)
  halted false false true key h = absurd (omega arith)
  halted false false false true h = absurd (omega arith)
  halted false false false false h = refl

fronted : (owner at : ℕ) (cs : List ℕ) → (front_of cs).0 ≢ 0 → (front_of cs).0 ≤ length cs
    → head_of owner at 0 cs ≡ head_of (cond (front_of cs).1 at owner) (at + (front_of cs).0) 0 (drop (front_of cs).0 cs)
fronted owner at [] h w = absurd (h refl)
fronted owner at (c ∷ cs) h w = moved owner at c cs (is_white c) (is_item (c ∷ cs)) (is_property (c ∷ cs)) (is_key Block (c ∷ cs)) h w

unfronted : (owner at : ℕ) (cs : List ℕ) → (front_of cs).0 ≡ 0 → head_of owner at 0 cs ≡ (owner, at)
unfronted owner at [] h = refl
unfronted owner at (c ∷ cs) h = halted owner at c cs (is_white c) (is_item (c ∷ cs)) (is_property (c ∷ cs)) (is_key Block (c ∷ cs)) h

-- where nothing stands before it the value begins
pub head_end : (owner at : ℕ) (cs : List ℕ) (front : ℕ × Bool) (total : ℕ × ℕ) → front ≡ front_of (drop at cs) → front.0 ≡ 0 → head_of owner at 0 (drop at cs) ≡ total → ◌≡◌ {A = ℕ × ℕ} (owner, at) total
head_end owner at cs front total e none so_far = sym (unfronted owner at (drop at cs) (rw e at none)) ∙ so_far

-- what stands before it is passed over
pub head_step : (owner owner' at : ℕ) (cs : List ℕ) (front : ℕ × Bool) (total : ℕ × ℕ) → front ≡ front_of (drop at cs) → front.0 ≢ 0 → at + front.0 ≤ length cs → owner' ≡ cond front.1 at owner
    → head_of owner at 0 (drop at cs) ≡ total → head_of owner' (at + front.0) 0 (drop (at + front.0) cs) ≡ total
head_step owner owner' at cs front total e some w o so_far =
    let l = length-drop at cs in
    let within : front.0 ≤ length (drop at cs) = omega arith in
    let step = fronted owner at (drop at cs) (rw e at some) (rw e at within) in
    ap (λ p. head_of p (at + front.0) 0 (drop (at + front.0) cs)) o
    ∙ ap (head_of (cond front.1 at owner) (at + front.0) 0) (sym (drop-drop front.0 at cs))
    ∙ ap (λ (f : ℕ × Bool). head_of (cond f.1 at owner) (at + f.0) 0 (drop f.0 (drop at cs))) e
    ∙ sym step ∙ so_far

-- white space in front is passed over
pub white_front : (owner at : ℕ) (cs : List ℕ) → head_of owner (at + blanks cs) 0 (drop (blanks cs) cs) ≡ head_of owner at 0 cs
white_front owner at [] = let z : at + 0 ≡ at = omega arith in ap (λ p. head_of owner p 0 []) z
white_front owner at (c ∷ cs) =
    elim (cases_Bool (is_white c)) [
      | inl white ↦
          let k : blanks (c ∷ cs) ≡ suc (blanks cs) = rw white (omega arith) in
          let p : at + suc (blanks cs) ≡ at + 1 + blanks cs = omega arith in
          let one : head_of owner at 0 (c ∷ cs) ≡ head_of owner (at + 1) 0 cs = rw white refl in
          (λ i. head_of owner (at + k i) 0 (drop (k i) (c ∷ cs))) ∙ ap (λ q. head_of owner q 0 (drop (blanks cs) cs)) p ∙ white_front owner (at + 1) cs ∙ sym one
      | inr black ↦
          let k : blanks (c ∷ cs) ≡ 0 = rw black refl in
          let z : at + 0 ≡ at = omega arith in
          (λ i. head_of owner (at + k i) 0 (drop (k i) (c ∷ cs))) ∙ ap (λ q. head_of owner q 0 (c ∷ cs)) z
    ]
