-- What stands between the quotes of a string of JSON, piece by piece.
use Rattle.std.proofs.Common.{◌≡◌, ◌∙◌, ◌&&◌, not, ℕ, suc, ◌+◌, ◌<◌, List, [], ◌∷◌, ◌++◌, Bool, true, false, cond, eqb, ltb, length, take, drop, get_or, refl, sym, ap, inl, inr, append_assoc, arith, tests}
use Rattle.std.specs.List.{prefix_len}
use Rattle.std.specs.Str.{IsCharBoundary, IsUtf8}
use Rattle.std.proofs.lemmas.Bool.{and_parts, cases_Bool, cases_lt, eqb-true}
use Rattle.std.proofs.lemmas.Bool.Decides.{nat_tests}
use Rattle.std.proofs.lemmas.Grind.{flat_map-append}
use Rattle.std.proofs.lemmas.List.{append-nil, take-append-drop}
use Rattle.std.proofs.lemmas.List.Sums.{prefix_len-le-length, prefix_len_stops}
use Rattle.std.proofs.lemmas.Str.{IsCharBoundary-after_ascii, IsCharBoundary-before_ascii, IsCharBoundary-end}
use Rattle.json.specs.Print.{escape, escape_byte}
use Rattle.project_print.specs.declared.compact_json.Dollars.{Dollars}
use Rattle.project_print.specs.declared.compact_json.Dollars.TheVariants.{Once, Twice}
use Rattle.project_print.specs.Scalars.{doubled, doubled_byte}
use Rattle.project_print.specs.Written.{content, escape_of, is_string_byte, stands}

byte_same : (b : ℕ) → is_string_byte b ≡ true → escape_byte b ≡ b ∷ []
unfolding escape_byte
byte_same b h =
    let quote : eqb b 34 ≡ false = grind (arith, nat_tests, tests) in
    let slash : eqb b 92 ≡ false = grind (arith, nat_tests, tests) in
    let back : eqb b 8 ≡ false = grind (arith, nat_tests, tests) in
    let feed : eqb b 12 ≡ false = grind (arith, nat_tests, tests) in
    let line : eqb b 10 ≡ false = grind (arith, nat_tests, tests) in
    let carriage : eqb b 13 ≡ false = grind (arith, nat_tests, tests) in
    let tab : eqb b 9 ≡ false = grind (arith, nat_tests, tests) in
    let low : ltb b 32 ≡ false = grind (arith, nat_tests, tests) in
    rw (quote, slash, back, feed, line, carriage, tab, low) refl

-- any other byte but a dollar has its escape
byte_escaped : (b : ℕ) → is_string_byte b ≡ false → eqb b 36 ≡ false → escape_byte b ≡ escape_of b
unfolding escape_byte
byte_escaped b h dollar =
    elim (cases_Bool (eqb b 34)) [
      | inl quote ↦ rw (eqb-true b 34 quote) refl
      | inr no_quote ↦ elim (cases_Bool (eqb b 92)) [
        | inl slash ↦ rw (eqb-true b 92 slash) refl
        | inr no_slash ↦ elim (cases_Bool (eqb b 8)) [
          | inl back ↦ rw (eqb-true b 8 back) refl
          | inr no_back ↦ elim (cases_Bool (eqb b 12)) [
            | inl feed ↦ rw (eqb-true b 12 feed) refl
            | inr no_feed ↦ elim (cases_Bool (eqb b 10)) [
              | inl line ↦ rw (eqb-true b 10 line) refl
              | inr no_line ↦ elim (cases_Bool (eqb b 13)) [
                | inl carriage ↦ rw (eqb-true b 13 carriage) refl
                | inr no_carriage ↦ elim (cases_Bool (eqb b 9)) [
                  | inl tab ↦ rw (eqb-true b 9 tab) refl
                  | inr no_tab ↦ let low : ltb b 32 ≡ true = grind (arith, nat_tests, tests) in rw (dollar, no_quote, no_slash, no_back, no_feed, no_line, no_carriage, no_tab, low) refl
                ]
              ]
            ]
          ]
        ]
      ]
    ]

dollar_same : (b : ℕ) → eqb b 36 ≡ false → doubled_byte b ≡ b ∷ []
dollar_same b h = rw h refl

content_append : (dollars : Dollars) (a b : List ℕ) → content dollars (a ++ b) ≡ content dollars a ++ content dollars b
content_append Twice a b = ap escape (flat_map-append doubled_byte a b) ∙ flat_map-append escape_byte (doubled a) (doubled b)
content_append Once a b = flat_map-append escape_byte a b

content_nil : (dollars : Dollars) → content dollars [] ≡ []
content_nil Twice = refl
content_nil Once = refl

-- a byte that stands as it is
byte_stands : (dollars : Dollars) (b : ℕ) → stands dollars b ≡ true → content dollars (b ∷ []) ≡ b ∷ []
byte_stands Twice b h =
    let parts = and_parts (is_string_byte b) (not (eqb b 36)) h in
    let other : eqb b 36 ≡ false = grind (arith, nat_tests, tests) in
    ap escape (append-nil (doubled_byte b) ∙ dollar_same b other) ∙ append-nil (escape_byte b) ∙ byte_same b parts.0
byte_stands Once b h = append-nil (escape_byte b) ∙ byte_same b h

first_false : (a b : Bool) → (a && not b) ≡ false → b ≡ false → a ≡ false
first_false true b h e = sym (ap not e) ∙ h
first_false false b h e = refl

two_dollars : content Twice (36 ∷ []) ≡ escape_of 36
unfolding escape_byte
two_dollars = refl

-- and one that doesn't
byte_changes : (dollars : Dollars) (b : ℕ) → stands dollars b ≡ false → content dollars (b ∷ []) ≡ escape_of b
byte_changes Twice b h =
    elim (cases_Bool (eqb b 36)) [
      | inl dollar ↦ rw (eqb-true b 36 dollar) two_dollars
      | inr other ↦ ap escape (append-nil (doubled_byte b) ∙ dollar_same b other) ∙ append-nil (escape_byte b) ∙ byte_escaped b (first_false (is_string_byte b) (eqb b 36) h other) other
    ]
byte_changes Once b h = let other : eqb b 36 ≡ false = grind (arith, nat_tests, tests) in append-nil (escape_byte b) ∙ byte_escaped b h other

-- bytes in front that stand as they are
front_stands : (dollars : Dollars) (bs : List ℕ) → content dollars (take (prefix_len (stands dollars) bs) bs) ≡ take (prefix_len (stands dollars) bs) bs
front_stands dollars [] = content_nil dollars
front_stands dollars (b ∷ bs) = by (stands dollars b) refl (prefix_len (stands dollars) bs) (front_stands dollars bs)
  where
    by : (t : Bool) → stands dollars b ≡ t → (n : ℕ) → content dollars (take n bs) ≡ take n bs → content dollars (take (cond t (1 + n) 0) (b ∷ bs)) ≡ take (cond t (1 + n) 0) (b ∷ bs)
    by true e n more =
        let one : 1 + n ≡ suc n = omega arith in
        ap (λ k. content dollars (take k (b ∷ bs))) one
        ∙ content_append dollars (b ∷ []) (take n bs)
        ∙ (λ i. byte_stands dollars b e i ++ more i)
        ∙ ap (λ k. take k (b ∷ bs)) (sym one)
    by false e n more = content_nil dollars

pub front_put : (dollars : Dollars) (text front out new : List ℕ) (n : ℕ) → n ≡ prefix_len (stands dollars) text → front ≡ take n text → new ≡ out ++ front
    → new ++ content dollars (drop n text) ≡ out ++ content dollars text
front_put dollars text front out new n is f e =
    let same : front ≡ content dollars (take n text) = f ∙ ap (λ k. take k text) is ∙ sym (front_stands dollars text) ∙ ap (λ k. content dollars (take k text)) (sym is) in
    ap (λ x. x ++ content dollars (drop n text)) (e ∙ ap (λ x. out ++ x) same)
    ∙ append_assoc out (content dollars (take n text)) (content dollars (drop n text))
    ∙ ap (λ x. out ++ x) (sym (content_append dollars (take n text) (drop n text)) ∙ ap (content dollars) (take-append-drop n text))

stops_ascii : (dollars : Dollars) (b : ℕ) → stands dollars b ≡ false → b < 128
stops_ascii Twice b h = grind (arith, nat_tests, tests)
stops_ascii Once b h = grind (arith, nat_tests, tests)

-- they end between characters
pub front_cut : (dollars : Dollars) (text : List ℕ) (n : ℕ) → n ≡ prefix_len (stands dollars) text → IsCharBoundary text n
front_cut dollars text n is =
    elim (cases_lt n (length text)) [
      | inl lt ↦
          let stop : stands dollars (get_or text n 0) ≡ false = ap (λ k. stands dollars (get_or text k 0)) is ∙ prefix_len_stops (stands dollars) text 0 (omega (arith, is)) in
          IsCharBoundary-before_ascii text n lt (stops_ascii dollars (get_or text n 0) stop)
      | inr le ↦ let all : n ≡ length text = omega (arith, is, prefix_len-le-length (stands dollars) text) in rw all (IsCharBoundary-end text)
    ]

first_stops : (dollars : Dollars) (c : ℕ) (cs : List ℕ) → prefix_len (stands dollars) (c ∷ cs) ≡ 0 → stands dollars c ≡ false
first_stops dollars c cs = by (stands dollars c)
  where
    by : (t : Bool) → cond t (1 + prefix_len (stands dollars) cs) 0 ≡ 0 → t ≡ false
    by true none = absurd (omega (arith, none))
    by false none = refl

-- the escape of the first byte
pub escape_put : (dollars : Dollars) (text out new : List ℕ) (b n : ℕ) → n ≡ prefix_len (stands dollars) text → n ≡ 0 → 0 < length text → b ≡ get_or text 0 0 → new ≡ out ++ escape_of b
    → new ++ content dollars (drop 1 text) ≡ out ++ content dollars text
escape_put dollars [] out new b n is none some at e = absurd (omega arith)
escape_put dollars (c ∷ cs) out new b n is none some at e =
    ap (λ x. x ++ content dollars cs) (e ∙ ap (λ k. out ++ escape_of k) at ∙ ap (λ x. out ++ x) (sym (byte_changes dollars c (first_stops dollars c cs (sym is ∙ none)))))
    ∙ append_assoc out (content dollars (c ∷ [])) (content dollars cs)
    ∙ ap (λ x. out ++ x) (sym (content_append dollars (c ∷ []) cs))

-- which is one character
pub escape_cut : (dollars : Dollars) (text : List ℕ) (n : ℕ) → n ≡ prefix_len (stands dollars) text → n ≡ 0 → 0 < length text → IsUtf8 text → IsCharBoundary text 1
escape_cut dollars [] n is none some u = absurd (omega arith)
escape_cut dollars (c ∷ cs) n is none some u = IsCharBoundary-after_ascii (c ∷ cs) 0 u (omega arith) (stops_ascii dollars c (first_stops dollars c cs (sym is ∙ none)))

-- nothing is left behind the last piece
pub content_done : (dollars : Dollars) (rest out total : List ℕ) → length rest ≡ 0 → out ++ content dollars rest ≡ total → out ≡ total
content_done dollars [] out total none h = sym (append-nil out) ∙ ap (λ x. out ++ x) (sym (content_nil dollars)) ∙ h
content_done dollars (b ∷ bs) out total none h = absurd (omega arith)
