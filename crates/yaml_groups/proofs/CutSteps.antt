-- Steps over the tokens of a flow collection, and the cuts from a place on.
use Rattle.std.proofs.Common.{◌≡◌, ◌∙◌, ℕ, zero, suc, ◌+◌, ◌-◌, ◌<◌, ◌≤◌, List, [], ◌∷◌, Bool, true, false, eqb, if◌then◌else◌, get_or, drop, length, refl, sym, ap, inl, inr, arith}
use Rattle.std.proofs.lemmas.Bool.{cases_Bool}
use Rattle.std.proofs.lemmas.List.{at_drop_all, drop-drop, get_or-drop, length-drop}
use Rattle.yaml_groups.specs.Cuts.{cuts, cut_len, is_cut, is_space, open_behind, token_len}

-- whether white space or a line's end stands before the place behind so many characters
abbrev pub space_before : Bool → ℕ → List ℕ → Bool
space_before white zero cs = white
space_before white (suc k) [] = white
space_before white (suc k) (c ∷ cs) = space_before (is_space c) k cs

pub space_at : (white : Bool) (k : ℕ) (cs : List ℕ) (d : ℕ) → k < length cs → space_before white (k + 1) cs ≡ is_space (get_or cs k d)
space_at white k [] d h = absurd (omega arith)
space_at white zero (c ∷ cs) d h = refl
space_at white (suc k) (c ∷ cs) d h =
    let e : suc k + 1 ≡ suc (k + 1) = omega arith in
    rw e (space_at (is_space c) k cs d (omega arith))

-- a token that began before is passed over
passes : (n k : ℕ) (white : Bool) (cs : List ℕ) → k ≤ length cs → cut_len n k white cs ≡ k + cut_len n 0 (space_before white k cs) (drop k cs)
passes n zero white cs h = omega arith
passes n (suc k) white [] h = absurd (omega arith)
passes n (suc k) white (c ∷ cs) h = let e = passes n k (is_space c) cs (omega arith) in omega arith

-- a token that stands in front is passed over
pub token_step : (n m c : ℕ) (white : Bool) (cs : List ℕ) → 0 < length cs → c ≡ get_or cs 0 c → is_cut n c ≡ false → m + 1 ≤ length cs → m ≡ token_len white cs - 1
    → cut_len n 0 white cs ≡ m + 1 + cut_len (open_behind n c) 0 (space_before white (m + 1) cs) (drop (m + 1) cs)
token_step n m c white [] h e uncut w t = absurd (omega arith)
token_step n m c white (d ∷ cs) h e uncut w t =
    let k : m + 1 ≡ suc m = omega arith in
    let p = passes (open_behind n d) m (is_space d) cs (omega arith) in
    let q : is_cut n d ≡ false = rw e at uncut in
    rw (e, q, ← t, k) (omega arith)

passed : (n i m : ℕ) (white white' : Bool) (cs : List ℕ) (c d : ℕ) → c ≡ get_or cs i c → is_cut n c ≡ false → 0 < m → i + m ≤ length cs → m - 1 ≡ token_len white (drop i cs) - 1
    → white' ≡ is_space (get_or cs (i + m - 1) d) → cut_len n 0 white (drop i cs) ≡ m + cut_len (open_behind n c) 0 white' (drop (i + m) cs)
passed n i m white white' cs c d e uncut more w t s =
    let rest = drop i cs in
    let l = length-drop i cs in
    let one : m - 1 + 1 ≡ m = omega arith in
    let here : i ≡ i + 0 = omega arith in
    let last : i + (m - 1) ≡ i + m - 1 = omega arith in
    let first : c ≡ get_or rest 0 c = e ∙ ap (λ k. get_or cs k c) here ∙ sym (get_or-drop i cs 0 c) in
    let space : space_before white (m - 1 + 1) rest ≡ white' =
    space_at white (m - 1) rest d (omega arith) ∙ ap is_space (get_or-drop i cs (m - 1) d ∙ ap (λ k. get_or cs k d) last) ∙ sym s in
    token_step n (m - 1) c white rest (omega arith) first uncut (omega arith) t
    ∙ (λ k. one k + cut_len (open_behind n c) 0 (space k) (drop (one k) rest))
    ∙ ap (λ r. m + cut_len (open_behind n c) 0 white' r) (drop-drop m i cs)

-- a step of the loop over tokens
pub cut_step : (n n' i m : ℕ) (white white' : Bool) (cs : List ℕ) (c d total : ℕ) → c ≡ get_or cs i c → is_cut n c ≡ false → n' ≡ open_behind n c → 0 < m → i + m ≤ length cs → m - 1 ≡ token_len white (drop i cs) - 1
    → white' ≡ is_space (get_or cs (i + m - 1) d) → i + cut_len n 0 white (drop i cs) ≡ total → i + m + cut_len n' 0 white' (drop (i + m) cs) ≡ total
cut_step n n' i m white white' cs c d total e uncut o more w t s so_far =
    let step = passed n i m white white' cs c d e uncut more w t s in
    rw o (omega arith)

-- the cuts of a collection whose next cut stands in front, at a place; without one there is none
abbrev pub cuts_here : ℕ → List ℕ → List ℕ
cuts_here at [] = []
cuts_here at (c ∷ cs) = at ∷ (if eqb c 44 then cuts (at + 1) 0 0 false cs else [])

cuts_later : (at k c : ℕ) (cs : List ℕ) → cuts_here (at + 1 + k) (drop k cs) ≡ cuts_here (at + (k + 1)) (drop (k + 1) (c ∷ cs))
cuts_later at k c cs =
    let p : at + 1 + k ≡ at + (k + 1) = omega arith in
    let q : k + 1 ≡ suc k = omega arith in
    rw (p, q) refl

-- the cuts are the next one and those behind it
pub cuts_are : (at n skip : ℕ) (white : Bool) (cs : List ℕ) → cuts at n skip white cs ≡ cuts_here (at + cut_len n skip white cs) (drop (cut_len n skip white cs) cs)
cuts_are at n skip white [] = refl
cuts_are at n (suc skip) white (c ∷ cs) = cuts_are (at + 1) n skip (is_space c) cs ∙ cuts_later at (cut_len n skip (is_space c) cs) c cs
cuts_are at n zero white (c ∷ cs) =
    let skip = token_len white (c ∷ cs) - 1 in
    let later = cut_len (open_behind n c) skip (is_space c) cs in
    elim (cases_Bool (is_cut n c)) [
      | inl cut ↦ let z : at + 0 ≡ at = omega arith in rw (cut, z) refl
      | inr uncut ↦ rw uncut (cuts_are (at + 1) (open_behind n c) skip (is_space c) cs ∙ cuts_later at later c cs)
    ]

-- without a next cut there is none
pub no_cut : (at : ℕ) (cs : List ℕ) → cut_len 0 0 false cs ≡ length cs → cuts at 0 0 false cs ≡ []
no_cut at cs e = cuts_are at 0 0 false cs ∙ rw e (at_drop_all (cuts_here (at + length cs)) cs (length cs) (omega arith))

-- at a cut stands a comma or a closing bracket
pub cut_mark : (n skip : ℕ) (white : Bool) (cs : List ℕ) (d : ℕ) → cut_len n skip white cs < length cs → is_cut 0 (get_or cs (cut_len n skip white cs) d) ≡ true
cut_mark n skip white [] d h = absurd (omega arith)
cut_mark n (suc skip) white (c ∷ cs) d h =
    let k : cut_len n skip (is_space c) cs + 1 ≡ suc (cut_len n skip (is_space c) cs) = omega arith in
    rw k (cut_mark n skip (is_space c) cs d (omega arith))
cut_mark n zero white (c ∷ cs) d h =
    let skip = token_len white (c ∷ cs) - 1 in
    let later = cut_len (open_behind n c) skip (is_space c) cs in
    let k : later + 1 ≡ suc later = omega arith in
    elim (cases_Bool (is_cut n c)) [
      | inl cut ↦ rw cut (mark n c cut)
      | inr uncut ↦
          let w : later + 1 < suc (length cs) = rw uncut at h in
          rw (uncut, k) (cut_mark (open_behind n c) skip (is_space c) cs d (omega arith))
    ]
  where
    mark : (n c : ℕ) → is_cut n c ≡ true → is_cut 0 c ≡ true
    mark n c cut =
        elim (cases_Bool (eqb n 0)) [
          | inl none ↦ rw none at cut
          | inr some ↦ let no_cut : false ≡ true = rw some at cut in absurd (cc)
        ]
