-- Where a head ends in bytes, its limits are kept, and it stands in the bytes.
use Rattle.std.proofs.Common.{◌≡◌, ℕ, zero, suc, ◌+◌, ◌-◌, ◌<◌, ◌≤◌, Bool, true, false, ◌&&◌, ◌==◌, if◌then◌else◌, nat_lt, nat_le, List, [], ◌∷◌, ◌++◌, length, take, refl, sym, subst, arith}
use Rattle.std.proofs.lemmas.Bool.{leb-true, ltb-false}
use Rattle.std.proofs.lemmas.List.{length-append}
use Rattle.httparse.specs.Ascii.{line_feed}
use Rattle.response_laws.proofs.Cutting.{sent}
use Rattle.response_rules.specs.Lines.{ends, first_lines, lines, part_of, passed, unfinished, whole_lines, with_byte}

-- ---- lines that were read whole stand in the bytes

with_byte_sent : (b : ℕ) (ls : List (List ℕ)) (n : ℕ) → length (sent ls) ≡ n + 1 → length (sent (with_byte b ls)) ≡ n + 2
with_byte_sent b [] n e = absurd (omega (arith, e))
with_byte_sent b (line ∷ ls) n e = omega (arith, e)

lines_sent : (bytes : List ℕ) → length (sent (lines bytes)) ≡ length bytes + 1
lines_sent [] = refl
lines_sent (b ∷ bytes) = at (b == line_feed) (lines_sent bytes)
  where
    at : (v : Bool) → length (sent (lines bytes)) ≡ length bytes + 1
        → length (sent (if v then [] ∷ lines bytes else with_byte b (lines bytes))) ≡ length (b ∷ bytes) + 1
    at true more = omega (arith, more)
    at false more = let w = with_byte_sent b (lines bytes) (length bytes) more in omega (arith, w)

fewer_sent : (k : ℕ) (ls : List (List ℕ)) → length (sent (take k ls)) ≤ length (sent ls)
fewer_sent zero ls = omega arith
fewer_sent (suc k) [] = omega arith
fewer_sent (suc k) (l ∷ ls) =
    let a = length-append (l ++ line_feed ∷ []) (sent (take k ls)) in
    let b = length-append (l ++ line_feed ∷ []) (sent ls) in
    omega (arith, a, b, fewer_sent k ls)

less_sent : (k : ℕ) (ls : List (List ℕ)) → k < length ls → length (sent (take k ls)) + 1 ≤ length (sent ls)
less_sent k [] h = absurd (omega arith)
less_sent zero (l ∷ ls) h =
    let a = length-append (l ++ line_feed ∷ []) (sent ls) in
    let b = length-append l (line_feed ∷ []) in
    omega (arith, a, b)
less_sent (suc k) (l ∷ ls) h =
    let a = length-append (l ++ line_feed ∷ []) (sent (take k ls)) in
    let b = length-append (l ++ line_feed ∷ []) (sent ls) in
    omega (arith, a, b, less_sent k ls (omega arith))

whole_within : (ls : List (List ℕ)) (n : ℕ) → length (sent ls) ≡ n + 1 → length (sent (take (length ls - 1) ls)) ≤ n
whole_within [] n e = absurd (omega (arith, e))
whole_within (l ∷ ls) n e = let s = less_sent (length (l ∷ ls) - 1) (l ∷ ls) (omega arith) in omega (arith, s, e)

first_within : (k : ℕ) (bytes : List ℕ) → length (first_lines k (whole_lines bytes)) ≤ length bytes
first_within k bytes =
    let a = fewer_sent k (whole_lines bytes) in
    let b = whole_within (lines bytes) (length bytes) (lines_sent bytes) in
    omega (arith, a, b)

-- ---- where a part ends

record Decided (a c : Bool) (k n : ℕ) : Type 0 where
  few : a ≡ false
  within : c ≡ true
  is : n ≡ k

decided_ends : (a b c d : Bool) (k n : ℕ) → (if a then passed else if b && c then ends k else if d then passed else unfinished) ≡ ends n → Decided a c k n
decided_ends true b c d k n e = absurd (cc e)
decided_ends false true true d k n e = record { few = refl; within = refl; is = let back : ends n ≡ ends k = sym e in cc back }
decided_ends false true false true k n e = absurd (cc e)
decided_ends false true false false k n e = absurd (cc e)
decided_ends false false c true k n e = absurd (cc e)
decided_ends false false c false k n e = absurd (cc e)

decided_open : (a b c d : Bool) (k : ℕ) → (if a then passed else if b && c then ends k else if d then passed else unfinished) ≡ unfinished → d ≡ false
decided_open true b c d k e = absurd (cc e)
decided_open false true true d k e = absurd (cc e)
decided_open false true false true k e = absurd (cc e)
decided_open false true false false k e = refl
decided_open false false c true k e = absurd (cc e)
decided_open false false c false k e = refl

-- a part that ends keeps its limits
pub record EndsWithin (room most filled n : ℕ) (bytes : List ℕ) : Type 0 where
  pub few : filled ≤ most
  pub small : n ≤ room
  pub within : n ≤ length bytes

module _ (room most blank filled : ℕ) (bytes : List ℕ) where
  abbrev found : ℕ
  found = length (first_lines (blank + filled + 1) (whole_lines bytes))

  pub ends_within : (n : ℕ) → part_of room most blank filled bytes ≡ ends n → EndsWithin room most filled n bytes
  ends_within n e =
      let d = decided_ends (nat_lt most filled) (nat_lt (blank + filled) (length (whole_lines bytes))) (nat_le found room) (nat_lt room (length bytes)) found n e in
      let w : found ≤ room = leb-true found room d.within in
      record {
        few = ltb-false most filled d.few;
        small = subst (λ (m : ℕ). m ≤ room) (sym d.is) w;
        within = subst (λ (m : ℕ). m ≤ length bytes) (sym d.is) (first_within (blank + filled + 1) bytes);
      }

  pub open_within : part_of room most blank filled bytes ≡ unfinished → length bytes ≤ room
  open_within e =
      ltb-false room (length bytes)
      (decided_open (nat_lt most filled) (nat_lt (blank + filled) (length (whole_lines bytes))) (nat_le found room) (nat_lt room (length bytes)) found e)
