-- Where the parts of a piece of a flow collection end: the scan for its cuts comes there too.
use Rattle.std.proofs.Common.{◌≡◌, ◌∙◌, ℕ, zero, suc, ◌+◌, ◌-◌, ◌≤◌, ◌<◌, List, [], ◌∷◌, Bool, true, false, ◌&&◌, ◌||◌, not, eqb, if◌then◌else◌, Result, Ok, ◌⊎◌, get_or, length, drop, refl, sym, ap, subst, inl, inr, arith, length-drop}
use Rattle.std.proofs.lemmas.Bool.{cases_Bool, eqb-true}
use Rattle.std.proofs.lemmas.List.{drop-drop, get_or-drop}
use Rattle.yaml_groups.specs.Cuts.{cut_len, is_cut, is_space, open_behind, quoted_token, token_len, with_colon}
use Rattle.yaml_groups.proofs.CutSteps.{space_at, space_before, token_step}
use Rattle.yaml_flow.specs.Gaps.{next_place}
use Rattle.yaml_flow.specs.Pieces.{is_end, is_stop, stop_from}
use Rattle.yaml_flow.proofs.PieceSteps.{stands}
use Rattle.yaml_flow.proofs.ScanSteps.{colon_gap, next_at, no_hash, stays, stop_eq, white_char}
use Rattle.yaml_lines.specs.Blanks.{blanks, is_white}
use Rattle.yaml_lines.specs.declared.plain.Context.TheVariants.{Flow}
use Rattle.yaml_lines.specs.declared.refusal.YamlRefusal.{YamlRefusal}
use Rattle.yaml_lines.specs.declared.row.Row.{Row}
use Rattle.yaml_lines.specs.Plain.{begins_plain, is_colon, is_flow_mark, is_indicator, is_space_or_end}
use Rattle.yaml_lines.specs.Quoted.{quoted_of}
use Rattle.yaml_lines.specs.Rows.{text_at}
use Rattle.yaml_nodes.specs.declared.progress.Progress.{Progress}
use Rattle.yaml_nodes.specs.Marks.{is_colon_of, is_quote, key_len, read_len, starts}

-- a part of a piece ends before a place, where the piece ends at another: the scan comes there too; or the part is a scalar in quotes before a colon, which the scan takes with it
abbrev pub Ends : Row → ℕ → ℕ → Type 0
Ends row stop end =
    ((w : Bool) × (stop ≡ end + cut_len 0 0 w (text_at row end)))
    ⊎ ((starts 58 (drop (blanks (text_at row end)) (text_at row end)) ≡ true) × (end + blanks (text_at row end) < stop))

colon_no_end : (cs : List ℕ) → starts 58 cs ≡ true → is_end cs ≡ false
colon_no_end [] h = absurd (cc)
colon_no_end (c ∷ cs) h = ap (λ x. is_cut 0 x) (eqb-true c 58 h)

apart : (x stop : ℕ) → x < stop → eqb x stop ≡ false
apart x stop h = grind arith

-- behind such a part the piece ends at the next place exactly where it may end there
pub ends_stop : (p : Progress) (row : Row) (stop end x : ℕ) → Ends row stop end → next_place p row false end ≡ Ok x → eqb x stop ≡ is_stop row x
ends_stop p row stop end x (inl (w, e)) h =
    let cs = text_at row end in
    elim (cases_Bool (starts 35 cs)) [
      | inl hash ↦
          let same : ◌≡◌ {A = Result ℕ YamlRefusal} (Ok end) (Ok x) = sym (stays p row end cs hash) ∙ h in
          let here : end ≡ x = cc in
          stop_eq row x stop w (e ∙ (λ i. here i + cut_len 0 0 w (text_at row (here i))))
      | inr none ↦
          let there : stop ≡ end + cut_len 0 0 false cs = e ∙ ap (λ n. end + n) (no_hash 0 w false cs none) in
          stop_eq row x stop false (there ∙ next_at p row end x false h)
    ]
ends_stop p row stop end x (inr (colon, less)) h =
    let cs = text_at row end in
    let same : ◌≡◌ {A = Result ℕ YamlRefusal} (Ok (end + blanks cs)) (Ok x) = sym (colon_gap p row end false cs colon) ∙ h in
    let there : end + blanks cs ≡ x = cc in
    let mark : starts 58 (text_at row x) ≡ true = sym (ap (starts 58) (drop-drop (blanks cs) end row.chars ∙ ap (λ y. text_at row y) there)) ∙ colon in
    apart x stop (omega (arith, there, less)) ∙ sym (colon_no_end (text_at row x) mark)

-- a token is passed over
token : (row : Row) (at len c : ℕ) (cs : List ℕ) → c ∷ cs ≡ text_at row at → is_cut 0 c ≡ false → open_behind 0 c ≡ 0 → 0 < len → at + len ≤ length row.chars → token_len false (c ∷ cs) ≡ len
    → stop_from row at ≡ at + len + cut_len 0 0 (space_before false (len - 1 + 1) (c ∷ cs)) (text_at row (at + len))
token row at len c cs e uncut flat some within t =
    let w = space_before false (len - 1 + 1) (c ∷ cs) in
    let l = length-drop at row.chars in
    let k : length (c ∷ cs) ≡ length (drop at row.chars) = ap length e in
    let one : len - 1 + 1 ≡ len = omega arith in
    let step = token_step 0 (len - 1) c false (c ∷ cs) (omega arith) refl uncut (omega (arith, l, k)) (ap (λ n. n - 1) (sym t)) in
    let tail : drop (len - 1 + 1) (c ∷ cs) ≡ text_at row (at + len) = ap (λ n. drop n (c ∷ cs)) one ∙ ap (drop len) e ∙ drop-drop len at row.chars in
    let sum : at + (len + cut_len 0 0 w (text_at row (at + len))) ≡ at + len + cut_len 0 0 w (text_at row (at + len)) = omega arith in
    ap (λ t. at + cut_len 0 0 false t) (sym e) ∙ ap (λ n. at + n) step ∙ (λ i. at + (one i + cut_len (flat i) 0 w (tail i))) ∙ sum

or_false : (a b : Bool) → (a || b) ≡ false → (a ≡ false) × (b ≡ false)
or_false true b h = absurd (cc)
or_false false b h = (refl, h)

not_true : (b : Bool) → not b ≡ true → b ≡ false
not_true true h = absurd (cc)
not_true false h = refl

and_false : (b : Bool) → (b && false) ≡ false
and_false true = refl
and_false false = refl

-- what is no mark of a flow collection neither cuts nor opens
no_mark : (c : ℕ) → is_flow_mark c ≡ false → (is_cut 0 c ≡ false) × (open_behind 0 c ≡ 0)
no_mark c h =
    let a = or_false (eqb c 44) _ h in
    let b = or_false (eqb c 91) _ a.1 in
    let d = or_false (eqb c 93) _ b.1 in
    let e = or_false (eqb c 123) _ d.1 in
    let comma = a.0 in
    let opens = b.0 in
    let close = d.0 in
    let curly = e.0 in
    let last = e.1 in
    (rw (close, last, comma) refl, rw (opens, curly, close, last) refl)

abbrev NoMark : ℕ → Type 0
NoMark c = (is_flow_mark c ≡ false) × ((eqb c 38 || eqb c 33) ≡ false)

-- a plain scalar begins with no mark and no property
plain_char : (c : ℕ) (cs : List ℕ) → begins_plain (c ∷ cs) ≡ true → NoMark c
plain_char c cs h =
    elim (cases_Bool (eqb c 45)) [
      | inl dash ↦ subst NoMark (sym (eqb-true c 45 dash)) (refl, refl)
      | inr dash ↦ elim (cases_Bool (eqb c 63)) [
        | inl question ↦ subst NoMark (sym (eqb-true c 63 question)) (refl, refl)
        | inr question ↦ elim (cases_Bool (eqb c 58)) [
          | inl colon ↦ subst NoMark (sym (eqb-true c 58 colon)) (refl, refl)
          | inr colon ↦
              let other : not (is_white c || (eqb c 10 || (is_flow_mark c || is_indicator c))) ≡ true = rw (dash, question, colon) at h in
              let a = or_false (is_white c) _ (not_true _ other) in
              let b = or_false (eqb c 10) _ a.1 in
              let d = or_false (is_flow_mark c) _ b.1 in
              let hash = or_false (eqb c 35) _ d.1 in
              let anchor = or_false (eqb c 38) _ hash.1 in
              let star = or_false (eqb c 42) _ anchor.1 in
              let tag = or_false (eqb c 33) _ star.1 in
              let no_anchor = anchor.0 in
              let no_tag = tag.0 in
              (d.0, rw (no_anchor, no_tag) refl)
        ]
      ]
    ]

-- the token of a key or a scalar is the key, with the colon behind it where it stands in quotes
abbrev TokenOfKey : List ℕ → ℕ → Type 0
TokenOfKey cs c =
    (is_cut 0 c ≡ false) × ((open_behind 0 c ≡ 0) × (token_len false (c ∷ cs) ≡ (if is_quote (c ∷ cs) then quoted_token (c ∷ cs) else key_len Flow (c ∷ cs))))

token_of_key : (c : ℕ) (cs : List ℕ) → 0 < key_len Flow (c ∷ cs) → TokenOfKey cs c
token_of_key c cs some =
    elim (cases_Bool (eqb c 39)) [
      | inl single ↦ subst (TokenOfKey cs) (sym (eqb-true c 39 single)) (refl, (refl, refl))
      | inr single ↦ elim (cases_Bool (eqb c 34)) [
        | inl double ↦ subst (TokenOfKey cs) (sym (eqb-true c 34 double)) (refl, (refl, refl))
        | inr double ↦ elim (cases_Bool (eqb c 42)) [
          | inl star ↦ subst (TokenOfKey cs) (sym (eqb-true c 42 star)) (refl, (refl, refl))
          | inr star ↦ elim (cases_Bool (begins_plain (c ∷ cs))) [
            | inl begun ↦
                let plain = plain_char c cs begun in
                let flat = no_mark c plain.0 in
                let property = plain.1 in
                let comment = and_false (eqb c 35) in
                (flat.0, (flat.1, rw (begun, comment, single, double, property, star) refl))
            | inr other ↦
                let none : key_len Flow (c ∷ cs) ≡ 0 = rw (other, single, double, star) refl in
                absurd (omega (arith, none, some))
          ]
        ]
      ]
    ]

pick_then : (b : Bool) (x y : ℕ) → b ≡ true → (if b then x else y) ≡ x
pick_then true x y h = refl
pick_then false x y h = absurd (cc)

pick_else : (b : Bool) (x y : ℕ) → b ≡ false → (if b then x else y) ≡ y
pick_else true x y h = absurd (cc)
pick_else false x y h = refl

-- the token of a scalar in quotes
module _ (row : Row) (at n c : ℕ) (cs : List ℕ) (e : c ∷ cs ≡ text_at row at) (some : 0 < n) (k : n ≡ key_len Flow (c ∷ cs)) (quote : is_quote (c ∷ cs) ≡ true) where
  quoted_is : token_len false (c ∷ cs) ≡ with_colon n (text_at row (at + n))
  quoted_is =
      let t = token_of_key c cs (omega (arith, some, k)) in
      let l : read_len (quoted_of (c ∷ cs)) ≡ n = sym (k ∙ pick_then (is_quote (c ∷ cs)) _ _ quote) in
      t.1.1 ∙ pick_then (is_quote (c ∷ cs)) (quoted_token (c ∷ cs)) _ quote ∙ (λ i. with_colon (l i) (drop (l i) (c ∷ cs)))
      ∙ ap (with_colon n) (ap (drop n) e ∙ drop-drop n at row.chars)

  -- a colon behind it belongs to it
  quoted_colon : let rest : List ℕ = text_at row (at + n) in let len : ℕ = n + blanks rest + 1 in starts 58 (drop (blanks rest) rest) ≡ true
      → stop_from row at ≡ at + len + cut_len 0 0 (space_before false (len - 1 + 1) (c ∷ cs)) (text_at row (at + len))
  quoted_colon colon =
      let rest = text_at row (at + n) in
      let t = token_of_key c cs (omega (arith, some, k)) in
      let there : starts 58 (text_at row (at + n + blanks rest)) ≡ true = sym (ap (starts 58) (drop-drop (blanks rest) (at + n) row.chars)) ∙ colon in
      let within = stands 58 (at + n + blanks rest) row there in
      token row at (n + blanks rest + 1) c cs e t.0 t.1.0 (omega arith) (omega (arith, within)) (quoted_is ∙ pick_then (starts 58 (drop (blanks rest) rest)) _ _ colon)

-- what stands at a place and in no quotes is one token
plain_token : (row : Row) (at : ℕ) (cs : List ℕ) (n : ℕ) → cs ≡ text_at row at → n ≡ key_len Flow cs → at + n ≤ length row.chars → is_quote cs ≡ false → (w : Bool) × (stop_from row at ≡ at + n + cut_len 0 0 w (text_at row (at + n)))
plain_token row at cs zero e k within plain = let z : at ≡ at + 0 = omega arith in (false, ap (stop_from row) z)
plain_token row at [] (suc n) e k within plain = absurd (omega (arith, k))
plain_token row at (c ∷ cs) (suc n) e k within plain =
    let t = token_of_key c cs (omega (arith, k)) in
    let is = t.1.1 ∙ pick_else (is_quote (c ∷ cs)) (quoted_token (c ∷ cs)) _ plain ∙ sym k in
    (space_before false (suc n - 1 + 1) (c ∷ cs), token row at (suc n) c cs e t.0 t.1.0 (omega arith) within is)

quoted_ends : (row : Row) (at : ℕ) (cs : List ℕ) (n : ℕ) → cs ≡ text_at row at → n ≡ key_len Flow cs → at + n ≤ length row.chars → is_quote cs ≡ true → Ends row (stop_from row at) (at + n)
quoted_ends row at cs zero e k within quote = let z : at ≡ at + 0 = omega arith in inl (false, ap (stop_from row) z)
quoted_ends row at [] (suc n) e k within quote = absurd (omega (arith, k))
quoted_ends row at (c ∷ cs) (suc n) e k within quote =
    let some : 0 < suc n = omega arith in
    let t = token_of_key c cs (omega (arith, k)) in
    let rest = text_at row (at + suc n) in
    elim (cases_Bool (starts 58 (drop (blanks rest) rest))) [
      | inl colon ↦
          let step = quoted_colon row at (suc n) c cs e some k quote colon in
          inr (colon, omega (arith, step))
      | inr none ↦
          let is = quoted_is row at (suc n) c cs e some k quote ∙ pick_else (starts 58 (drop (blanks rest) rest)) _ _ none in
          inl (space_before false (suc n - 1 + 1) (c ∷ cs), token row at (suc n) c cs e t.0 t.1.0 some within is)
    ]

-- where a key or a scalar ends that stands at a place
pub ends_key : (row : Row) (at n : ℕ) → n ≡ key_len Flow (text_at row at) → at + n ≤ length row.chars → Ends row (stop_from row at) (at + n)
ends_key row at n k within =
    elim (cases_Bool (is_quote (text_at row at))) [
      | inl quote ↦ quoted_ends row at (text_at row at) n refl k within quote
      | inr plain ↦ inl (plain_token row at (text_at row at) n refl k within plain)
    ]

pub and_first : (a b : Bool) → (a && b) ≡ true → a ≡ true
and_first true b h = refl
and_first false b h = absurd (cc)

pub and_second : (a b : Bool) → (a && b) ≡ true → b ≡ true
and_second true b h = h
and_second false b h = absurd (cc)

colon_starts : (cs : List ℕ) → is_colon cs ≡ true → starts 58 cs ≡ true
colon_starts [] h = absurd (cc)
colon_starts (c ∷ cs) h = and_first (eqb c 58) (is_space_or_end cs) h

-- a colon behind white space, before a space or the line's end, is passed over
blanks_colon : (w : Bool) (cs : List ℕ) → is_colon (drop (blanks cs) cs) ≡ true → cut_len 0 0 w cs ≡ blanks cs + 1 + cut_len 0 0 false (drop (blanks cs + 1) cs)
blanks_colon w [] h = absurd (cc)
blanks_colon w (c ∷ cs) h =
    elim (cases_Bool (is_white c)) [
      | inl blank ↦
          let k : blanks (c ∷ cs) ≡ suc (blanks cs) = rw blank (omega arith) in
          let colon : is_colon (drop (blanks cs) cs) ≡ true = sym (ap (λ n. is_colon (drop n (c ∷ cs))) k) ∙ h in
          let later = blanks_colon true cs colon in
          let j : blanks (c ∷ cs) + 1 ≡ suc (blanks cs + 1) = omega (arith, k) in
          let sum : cut_len 0 0 true cs + 1 ≡ suc (blanks cs + 1) + cut_len 0 0 false (drop (blanks cs + 1) cs) = omega (arith, later) in
          white_char w c cs blank ∙ sum ∙ (λ i. sym j i + cut_len 0 0 false (drop (sym j i) (c ∷ cs)))
      | inr black ↦
          let k : blanks (c ∷ cs) ≡ 0 = rw black refl in
          let colon : is_colon (c ∷ cs) ≡ true = sym (ap (λ n. is_colon (drop n (c ∷ cs))) k) ∙ h in
          let j : blanks (c ∷ cs) + 1 ≡ 1 = omega (arith, k) in
          let sum : cut_len 0 0 false cs + 1 ≡ 1 + cut_len 0 0 false cs = omega arith in
          at_colon w c cs (eqb-true c 58 (and_first (eqb c 58) (is_space_or_end cs) colon)) (and_second (eqb c 58) (is_space_or_end cs) colon)
          ∙ sum ∙ (λ i. sym j i + cut_len 0 0 false (drop (sym j i) (c ∷ cs)))
    ]
  where
    at_colon : (w : Bool) (c : ℕ) (cs : List ℕ) → c ≡ 58 → is_space_or_end cs ≡ true → cut_len 0 0 w (c ∷ cs) ≡ cut_len 0 0 false cs + 1
    at_colon w c cs e space =
        let one : cut_len 0 0 w (58 ∷ cs) ≡ cut_len 0 0 false cs + 1 = rw space refl in
        ap (λ x. cut_len 0 0 w (x ∷ cs)) e ∙ one

-- a scalar in quotes begins with no colon
quote_no_colon : (cs : List ℕ) → is_quote cs ≡ true → starts 58 (drop (blanks cs) cs) ≡ false
quote_no_colon [] h = absurd (cc)
quote_no_colon (c ∷ cs) h =
    elim (cases_Bool (eqb c 39)) [
      | inl single ↦ ap (λ x. starts 58 (drop (blanks (x ∷ cs)) (x ∷ cs))) (eqb-true c 39 single)
      | inr single ↦ let double : eqb c 34 ≡ true = rw single at h in ap (λ x. starts 58 (drop (blanks (x ∷ cs)) (x ∷ cs))) (eqb-true c 34 double)
    ]

starts_get : (b k d : ℕ) (cs : List ℕ) → starts b (drop k cs) ≡ true → get_or cs k d ≡ b
starts_get b k d cs h = let z : k + 0 ≡ k = omega arith in sym (ap (λ i. get_or cs i d) z) ∙ sym (get_or-drop k cs 0 d) ∙ first (drop k cs) h
  where
    first : (xs : List ℕ) → starts b xs ≡ true → get_or xs 0 d ≡ b
    first [] h = absurd (cc)
    first (x ∷ xs) h = eqb-true x b h

either : (a b : Bool) → (a || b) ≡ true → (a ≡ true) ⊎ (b ≡ true)
either true b h = inl refl
either false b h = inr h

starts_within : (b k : ℕ) (cs : List ℕ) → starts b (drop k cs) ≡ true → k < length cs
starts_within b k cs h = some (drop k cs) h (length-drop k cs)
  where
    some : (xs : List ℕ) → starts b xs ≡ true → length xs ≡ length cs - k → k < length cs
    some [] h e = absurd (cc)
    some (x ∷ xs) h e = omega (arith, e)

past_plain : (row : Row) (at : ℕ) (cs : List ℕ) (n : ℕ) → cs ≡ text_at row at → n ≡ key_len Flow cs → at + n ≤ length row.chars → is_quote cs ≡ false
    → let rest : List ℕ = text_at row (at + n) in is_colon (drop (blanks rest) rest) ≡ true → stop_from row at ≡ stop_from row (at + n + blanks rest + 1)
past_plain row at cs n e k within plain there =
    let rest = text_at row (at + n) in
    let m = blanks rest in
    let one = plain_token row at cs n e k within plain in
    let later = blanks_colon one.0 rest there in
    let sum : at + n + cut_len 0 0 one.0 rest ≡ at + n + m + 1 + cut_len 0 0 false (drop (m + 1) rest) = omega (arith, later) in
    let place : at + n + (m + 1) ≡ at + n + m + 1 = omega arith in
    let tail : drop (m + 1) rest ≡ text_at row (at + n + m + 1) = drop-drop (m + 1) (at + n) row.chars ∙ ap (λ i. drop i row.chars) place in
    one.1 ∙ sum ∙ ap (λ t. at + n + m + 1 + cut_len 0 0 false t) tail

past_quoted : (row : Row) (at : ℕ) (cs : List ℕ) (n : ℕ) → cs ≡ text_at row at → n ≡ key_len Flow cs → is_quote cs ≡ true
    → let rest : List ℕ = text_at row (at + n) in starts 58 (drop (blanks rest) rest) ≡ true → stop_from row at ≡ stop_from row (at + n + blanks rest + 1)
past_quoted row at cs zero e k quote there =
    let z : at + 0 ≡ at = omega arith in
    let same : text_at row (at + 0) ≡ cs = ap (text_at row) z ∙ sym e in
    let no : false ≡ true = sym (quote_no_colon cs quote) ∙ sym (ap (λ t. starts 58 (drop (blanks t) t)) same) ∙ there in
    absurd (cc)
past_quoted row at [] (suc n) e k quote there = absurd (omega (arith, k))
past_quoted row at (c ∷ cs) (suc n) e k quote there =
    let rest = text_at row (at + suc n) in
    let m = suc n + blanks rest in
    let step = quoted_colon row at (suc n) c cs e (omega arith) k quote there in
    let last : m + 1 - 1 ≡ m = omega arith in
    let place : at + m ≡ at + suc n + blanks rest = omega arith in
    let tail : drop m (c ∷ cs) ≡ drop (blanks rest) rest = ap (drop m) e ∙ drop-drop m at row.chars ∙ ap (λ i. drop i row.chars) place ∙ sym (drop-drop (blanks rest) (at + suc n) row.chars) in
    let mark : starts 58 (drop m (c ∷ cs)) ≡ true = ap (starts 58) tail ∙ there in
    let inside = starts_within 58 m (c ∷ cs) mark in
    let black : space_before false (m + 1 - 1 + 1) (c ∷ cs) ≡ false = ap (λ i. space_before false (i + 1) (c ∷ cs)) last ∙ space_at false m (c ∷ cs) 0 inside ∙ ap is_space (starts_get 58 m 0 (c ∷ cs) mark) in
    let behind : at + (m + 1) ≡ at + suc n + blanks rest + 1 = omega arith in
    step ∙ ap (λ w. at + (m + 1) + cut_len 0 0 w (text_at row (at + (m + 1)))) black ∙ ap (stop_from row) behind

-- the colon of a key is passed over with it
pub past_colon : (row : Row) (at n : ℕ) → n ≡ key_len Flow (text_at row at) → at + n ≤ length row.chars
    → let rest : List ℕ = text_at row (at + n) in is_colon_of Flow (text_at row at) (drop (blanks rest) rest) ≡ true → stop_from row at ≡ stop_from row (at + n + blanks rest + 1)
past_colon row at n k within colon =
    let cs = text_at row at in
    let rest = text_at row (at + n) in
    let here = drop (blanks rest) rest in
    elim (cases_Bool (is_quote cs)) [
      | inl quote ↦ elim (either (is_colon here) (is_quote cs && starts 58 here) colon) [
        | inl bare ↦ past_quoted row at cs n refl k quote (colon_starts here bare)
        | inr at_once ↦ past_quoted row at cs n refl k quote (and_second (is_quote cs) (starts 58 here) at_once)
      ]
      | inr plain ↦ elim (either (is_colon here) (is_quote cs && starts 58 here) colon) [
        | inl bare ↦ past_plain row at cs n refl k within plain bare
        | inr at_once ↦ let no : false ≡ true = sym plain ∙ and_first (is_quote cs) (starts 58 here) at_once in absurd (cc)
      ]
    ]
