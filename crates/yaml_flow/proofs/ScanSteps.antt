-- The scan for the cuts of a flow collection comes to the places at which the reading of its parts arrives.
use Rattle.std.proofs.Common.{◌≡◌, ◌∙◌, ℕ, zero, suc, ◌+◌, ◌-◌, List, [], ◌∷◌, Bool, true, false, ◌&&◌, ◌||◌, eqb, leb, ◌==◌, Result, Ok, drop, refl, sym, ap, subst, inl, inr, arith}
use Rattle.std.proofs.lemmas.Bool.{cases_Bool, eqb-true}
use Rattle.std.proofs.lemmas.List.{drop-drop}
use Rattle.yaml_groups.specs.Cuts.{cut_len, is_cut, is_space, line_len, open_behind, token_len}
use Rattle.yaml_flow.specs.Gaps.{next_place, past_gap}
use Rattle.yaml_flow.specs.Pieces.{is_end, is_stop, stop_from}
use Rattle.yaml_lines.specs.Blanks.{blanks, is_white}
use Rattle.yaml_lines.specs.declared.refusal.YamlRefusal.{YamlRefusal}
use Rattle.yaml_lines.specs.declared.row.Row.{Row}
use Rattle.yaml_lines.specs.Plain.{is_flow_mark}
use Rattle.yaml_lines.specs.Rows.{text_at}
use Rattle.yaml_nodes.specs.declared.progress.Progress.{Progress}
use Rattle.yaml_nodes.specs.Marks.{is_left_out, is_property, name_len, properties_len, starts}

-- a line's end is passed over
feed : (w : Bool) (c : ℕ) (cs : List ℕ) → eqb c 10 ≡ true → cut_len 0 0 w (c ∷ cs) ≡ cut_len 0 0 true cs + 1
feed w c cs h = ap (λ x. cut_len 0 0 w (x ∷ cs)) (eqb-true c 10 h)

-- and white space
pub white_char : (w : Bool) (c : ℕ) (cs : List ℕ) → is_white c ≡ true → cut_len 0 0 w (c ∷ cs) ≡ cut_len 0 0 true cs + 1
white_char w c cs h =
    elim (cases_Bool (eqb c 32)) [
      | inl space ↦ ap (λ x. cut_len 0 0 w (x ∷ cs)) (eqb-true c 32 space)
      | inr other ↦ let tab : eqb c 9 ≡ true = rw other at h in ap (λ x. cut_len 0 0 w (x ∷ cs)) (eqb-true c 9 tab)
    ]

-- behind white space a comment takes its line
hash_char : (c : ℕ) (cs : List ℕ) → eqb c 35 ≡ true → cut_len 0 0 true (c ∷ cs) ≡ cut_len 0 (line_len cs) false cs + 1
hash_char c cs h =
    let k : line_len cs + 1 - 1 ≡ line_len cs = omega arith in
    ap (λ x. cut_len 0 0 true (x ∷ cs)) (eqb-true c 35 h) ∙ ap (λ n. cut_len 0 n false cs + 1) k

-- white space before them matters to no characters but those of a comment
pub no_hash : (n : ℕ) (w v : Bool) (cs : List ℕ) → starts 35 cs ≡ false → cut_len n 0 w cs ≡ cut_len n 0 v cs
no_hash n w v [] h = refl
no_hash n w v (c ∷ cs) h = rw h refl

both_true : (a b : Bool) → (a && b) ≡ true → (a ≡ true) × (b ≡ true)
both_true true b h = (refl, h)
both_true false b h = absurd (cc)

and_true : (a : Bool) → (a && true) ≡ false → a ≡ false
and_true true h = absurd (cc)
and_true false h = refl

calm : (white : Bool) (c : ℕ) (cs : List ℕ) → (eqb c 35 && white) ≡ false → cut_len 0 0 white (c ∷ cs) ≡ cut_len 0 0 false (c ∷ cs)
calm true c cs h = no_hash 0 true false (c ∷ cs) (and_true (eqb c 35) h)
calm false c cs h = refl

-- the scan inside a gap, which takes the rest of a comment's line as one
abbrev ahead : Bool → Bool → Bool → List ℕ → ℕ
ahead true white w cs = cut_len 0 (line_len cs) w cs
ahead false white w cs = cut_len 0 0 white cs

at_feed : (comment white w : Bool) (c : ℕ) (cs : List ℕ) → eqb c 10 ≡ true → ahead comment white w (c ∷ cs) ≡ cut_len 0 0 true cs + 1
at_feed true white w c cs h =
    let k : line_len (c ∷ cs) ≡ 0 = rw h refl in
    ap (λ n. cut_len 0 n w (c ∷ cs)) k ∙ feed w c cs h
at_feed false white w c cs h = feed white c cs h

in_comment : (w : Bool) (c : ℕ) (cs : List ℕ) → eqb c 10 ≡ false → cut_len 0 (line_len (c ∷ cs)) w (c ∷ cs) ≡ cut_len 0 (line_len cs) (is_space c) cs + 1
in_comment w c cs h =
    let k : line_len (c ∷ cs) ≡ suc (line_len cs) = rw h (omega arith) in
    ap (λ n. cut_len 0 n w (c ∷ cs)) k

pub tail_at : (cs : List ℕ) (at c : ℕ) (rest : List ℕ) → c ∷ rest ≡ drop at cs → rest ≡ drop (at + 1) cs
tail_at cs at c rest e = ap (drop 1) e ∙ drop-drop 1 at cs

module _ (p : Progress) (row : Row) where
  arrived : (at x n : ℕ) (cs : List ℕ) → cs ≡ drop at row.chars → ◌≡◌ {A = Result ℕ YamlRefusal} (Ok at) (Ok x) → n ≡ cut_len 0 0 false cs → at + n ≡ stop_from row x
  arrived at x n cs e h k =
      let same : at ≡ x = cc in
      (λ i. same i + k i) ∙ ap (λ r. x + cut_len 0 0 false r) (e ∙ ap (λ y. drop y row.chars) same)

  gap : (at : ℕ) (comment white w : Bool) (cs : List ℕ) (x : ℕ) → cs ≡ drop at row.chars → past_gap p row at comment white cs ≡ Ok x → at + ahead comment white w cs ≡ stop_from row x
  gap at true white w [] x e h = arrived at x 0 [] e h refl
  gap at false white w [] x e h = arrived at x 0 [] e h refl
  gap at true white w (c ∷ cs) x e h =
      let tail = tail_at row.chars at c cs e in
      elim (cases_Bool (eqb c 10)) [
        | inl end ↦ let h = rw end at h in elim (cases_Bool (is_left_out cs)) [
          | inl out ↦ let no = rw out at h in absurd (cc)
          | inr kept ↦
              let later = gap (at + 1) false true w cs x tail (rw kept at h) in
              let one = at_feed true white w c cs end in
              omega (arith, one, later)
        ]
        | inr inside ↦
            let later = gap (at + 1) true true (is_space c) cs x tail (rw inside at h) in
            let one = in_comment w c cs inside in
            omega (arith, one, later)
      ]
  gap at false white w (c ∷ cs) x e h =
      let tail = tail_at row.chars at c cs e in
      elim (cases_Bool (eqb c 10)) [
        | inl end ↦ let h = rw end at h in elim (cases_Bool (is_left_out cs)) [
          | inl out ↦ let no = rw out at h in absurd (cc)
          | inr kept ↦
              let later = gap (at + 1) false true w cs x tail (rw kept at h) in
              let one = at_feed false white w c cs end in
              omega (arith, one, later)
        ]
        | inr inside ↦ let h = rw inside at h in elim (cases_Bool (is_white c)) [
          | inl blank ↦
              let later = gap (at + 1) false true w cs x tail (rw blank at h) in
              let one = white_char white c cs blank in
              omega (arith, one, later)
          | inr black ↦ let h = rw black at h in elim (cases_Bool (eqb c 35 && white)) [
            | inl mark ↦
                let both = both_true (eqb c 35) white mark in
                let later = gap (at + 1) true true false cs x tail (rw mark at h) in
                let one : cut_len 0 0 white (c ∷ cs) ≡ cut_len 0 (line_len cs) false cs + 1 = ap (λ b. cut_len 0 0 b (c ∷ cs)) both.1 ∙ hash_char c cs both.0 in
                omega (arith, one, later)
            | inr other ↦ arrived at x (cut_len 0 0 white (c ∷ cs)) (c ∷ cs) e (rw other at h) (calm white c cs other)
          ]
        ]
      ]

  -- behind a gap the piece ends where it did
  pub next_at : (at x : ℕ) (white : Bool) → next_place p row white at ≡ Ok x → at + cut_len 0 0 white (text_at row at) ≡ stop_from row x
  next_at at x white h = gap at false white false (text_at row at) x refl h

  -- a mark of a comment without white space before it is no gap
  pub stays : (at : ℕ) (cs : List ℕ) → starts 35 cs ≡ true → past_gap p row at false false cs ≡ Ok at
  stays at [] h = absurd (cc)
  stays at (c ∷ cs) h = ap (λ x. past_gap p row at false false (x ∷ cs)) (eqb-true c 35 h)

  -- the gap before a colon is white space
  pub colon_gap : (at : ℕ) (white : Bool) (cs : List ℕ) → starts 58 (drop (blanks cs) cs) ≡ true → past_gap p row at false white cs ≡ Ok (at + blanks cs)
  colon_gap at white [] h = absurd (cc)
  colon_gap at white (c ∷ cs) h =
      elim (cases_Bool (is_white c)) [
        | inl blank ↦
            let k : blanks (c ∷ cs) ≡ suc (blanks cs) = rw blank (omega arith) in
            let colon : starts 58 (drop (blanks cs) cs) ≡ true = sym (ap (λ n. starts 58 (drop n (c ∷ cs))) k) ∙ h in
            let q : at + 1 + blanks cs ≡ at + suc (blanks cs) = omega arith in
            one_white c blank ∙ colon_gap (at + 1) true cs colon ∙ ap (λ n. Ok n) q ∙ ap (λ n. Ok (at + n)) (sym k)
        | inr black ↦
            let k : blanks (c ∷ cs) ≡ 0 = rw black refl in
            let colon : eqb c 58 ≡ true = sym (ap (λ n. starts 58 (drop n (c ∷ cs))) k) ∙ h in
            let z : at ≡ at + 0 = omega arith in
            ap (λ x. past_gap p row at false white (x ∷ cs)) (eqb-true c 58 colon) ∙ ap (λ n. Ok n) z ∙ ap (λ n. Ok (at + n)) (sym k)
      ]
    where
      one_white : (c : ℕ) → is_white c ≡ true → past_gap p row at false white (c ∷ cs) ≡ past_gap p row (at + 1) false true cs
      one_white c blank =
          elim (cases_Bool (eqb c 32)) [
            | inl space ↦ ap (λ x. past_gap p row at false white (x ∷ cs)) (eqb-true c 32 space)
            | inr other ↦ let tab : eqb c 9 ≡ true = rw other at blank in ap (λ x. past_gap p row at false white (x ∷ cs)) (eqb-true c 9 tab)
          ]

-- whether a piece has ended
zero_end : (w : Bool) (cs : List ℕ) → eqb (cut_len 0 0 w cs) 0 ≡ is_end cs
zero_end w [] = refl
zero_end w (c ∷ cs) =
    elim (cases_Bool (is_cut 0 c)) [
      | inl cut ↦ rw cut refl
      | inr uncut ↦ rw uncut (more (cut_len (open_behind 0 c) (token_len w (c ∷ cs) - 1) (is_space c) cs))
    ]
  where
    more : (n : ℕ) → eqb (n + 1) 0 ≡ false
    more n = grind arith

le_self : (x n : ℕ) → leb (x + n) x ≡ eqb n 0
le_self x n =
    elim (cases_Bool (eqb n 0)) [
      | inl none ↦ let z = eqb-true n 0 none in grind arith
      | inr some ↦ grind arith
    ]

eq_self : (x n : ℕ) → eqb x (x + n) ≡ eqb n 0
eq_self x n =
    elim (cases_Bool (eqb n 0)) [
      | inl none ↦ let z = eqb-true n 0 none in grind arith
      | inr some ↦ grind arith
    ]

pub stop_le : (row : Row) (x stop : ℕ) → stop ≡ stop_from row x → leb stop x ≡ is_stop row x
stop_le row x stop e = ap (λ s. leb s x) e ∙ le_self x (cut_len 0 0 false (text_at row x)) ∙ zero_end false (text_at row x)

pub stop_eq : (row : Row) (x stop : ℕ) (w : Bool) → stop ≡ x + cut_len 0 0 w (text_at row x) → eqb x stop ≡ is_stop row x
stop_eq row x stop w e = ap (λ s. eqb x s) e ∙ eq_self x (cut_len 0 0 w (text_at row x)) ∙ zero_end w (text_at row x)

-- when so many characters have passed, it doesn't matter whether white space precedes
abbrev Calm : ℕ → Bool → List ℕ → Type 0
Calm zero w cs = cut_len 0 0 w cs ≡ cut_len 0 0 true cs
Calm (suc k) w [] = Unit {0}
Calm (suc k) w (c ∷ cs) = Calm k (is_space c) cs

no_mark : (c : ℕ) → ((c == 32) || ((c == 10) || is_flow_mark c)) ≡ true → eqb c 35 ≡ false
no_mark c h = elim (cases_Bool (eqb c 35)) [ inl hash ↦ let no : false ≡ true = rw (eqb-true c 35 hash) at h in absurd (cc) | inr other ↦ other ]

name_calm : (w : Bool) (cs : List ℕ) → Calm (name_len cs) w cs
name_calm w [] = refl
name_calm w (c ∷ cs) =
    elim (cases_Bool ((c == 32) || ((c == 10) || is_flow_mark c))) [
      | inl end ↦
          let k : name_len (c ∷ cs) ≡ 0 = rw end refl in
          subst (λ n. Calm n w (c ∷ cs)) (sym k) (no_hash 0 w true (c ∷ cs) (no_mark c end))
      | inr inside ↦
          let k : name_len (c ∷ cs) ≡ suc (name_len cs) = rw inside (omega arith) in
          subst (λ n. Calm n w (c ∷ cs)) (sym k) (name_calm (is_space c) cs)
    ]

-- a property's name is one with its mark
property_char : (w : Bool) (c : ℕ) (cs : List ℕ) → is_property (c ∷ cs) ≡ true → cut_len 0 0 w (c ∷ cs) ≡ cut_len 0 (name_len cs) (is_space c) cs + 1
property_char w c cs h =
    let k : 1 + name_len cs - 1 ≡ name_len cs = omega arith in
    elim (cases_Bool (eqb c 38)) [
      | inl anchor ↦ subst (λ x. cut_len 0 0 w (x ∷ cs) ≡ cut_len 0 (name_len cs) (is_space x) cs + 1) (sym (eqb-true c 38 anchor)) (ap (λ n. cut_len 0 n false cs + 1) k)
      | inr other ↦
          let tag : eqb c 33 ≡ true = rw other at h in
          subst (λ x. cut_len 0 0 w (x ∷ cs) ≡ cut_len 0 (name_len cs) (is_space x) cs + 1) (sym (eqb-true c 33 tag)) (ap (λ n. cut_len 0 n false cs + 1) k)
    ]

behind : (m k n c : ℕ) (cs : List ℕ) → m ≡ k + cut_len 0 0 true (drop k cs) → n ≡ suc k → m + 1 ≡ n + cut_len 0 0 true (drop n (c ∷ cs))
behind m k n c cs e f =
    let one : m + 1 ≡ suc k + cut_len 0 0 true (drop k cs) = omega (arith, e) in
    one ∙ (λ i. sym f i + cut_len 0 0 true (drop (sym f i) (c ∷ cs)))

-- a run of properties is passed over
run : (skip : ℕ) (w : Bool) (cs : List ℕ) → Calm skip w cs → cut_len 0 skip w cs ≡ properties_len skip cs + cut_len 0 0 true (drop (properties_len skip cs) cs)
run zero w [] h = refl
run (suc k) w [] h = refl
run (suc k) w (c ∷ cs) h =
    let later = run k (is_space c) cs h in
    let n : properties_len (suc k) (c ∷ cs) ≡ suc (properties_len k cs) = omega arith in
    behind (cut_len 0 k (is_space c) cs) (properties_len k cs) (properties_len (suc k) (c ∷ cs)) c cs later n
run zero w (c ∷ cs) h =
    elim (cases_Bool (is_white c)) [
      | inl blank ↦
          let later = run zero true cs refl in
          let one = white_char w c cs blank in
          let n : properties_len 0 (c ∷ cs) ≡ suc (properties_len 0 cs) = rw blank (omega arith) in
          one ∙ behind (cut_len 0 0 true cs) (properties_len 0 cs) (properties_len 0 (c ∷ cs)) c cs later n
      | inr black ↦ elim (cases_Bool (is_property (c ∷ cs))) [
        | inl property ↦
            let later = run (name_len cs) (is_space c) cs (name_calm (is_space c) cs) in
            let one = property_char w c cs property in
            let n : properties_len 0 (c ∷ cs) ≡ suc (properties_len (name_len cs) cs) = rw (black, property) (omega arith) in
            one ∙ behind (cut_len 0 (name_len cs) (is_space c) cs) (properties_len (name_len cs) cs) (properties_len 0 (c ∷ cs)) c cs later n
        | inr other ↦
            let n : properties_len 0 (c ∷ cs) ≡ 0 = rw (black, other) refl in
            let none : cut_len 0 0 true (c ∷ cs) ≡ 0 + cut_len 0 0 true (c ∷ cs) = omega arith in
            h ∙ none ∙ (λ i. sym n i + cut_len 0 0 true (drop (sym n i) (c ∷ cs)))
      ]
    ]

property_no_hash : (cs : List ℕ) → is_property cs ≡ true → starts 35 cs ≡ false
property_no_hash [] h = refl
property_no_hash (c ∷ cs) h = elim (cases_Bool (eqb c 35)) [ inl hash ↦ let no : false ≡ true = rw (eqb-true c 35 hash) at h in absurd (cc) | inr other ↦ other ]

pub run_at : (row : Row) (at : ℕ) → is_property (text_at row at) ≡ true
    → let n : ℕ = properties_len 0 (text_at row at) in stop_from row at ≡ at + n + cut_len 0 0 true (text_at row (at + n))
run_at row at h =
    let cs = text_at row at in
    let n = properties_len 0 cs in
    let quiet = no_hash 0 false true cs (property_no_hash cs h) in
    let e = run 0 false cs quiet in
    let r = drop-drop n at row.chars in
    let one : at + cut_len 0 0 false cs ≡ at + n + cut_len 0 0 true (drop n cs) = omega (arith, e) in
    one ∙ ap (λ t. at + n + cut_len 0 0 true t) r
