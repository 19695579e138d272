-- Where the first line feed stands, by what was looked at.
use Rattle.std.proofs.Common.{◌≡◌, ℕ, ◌+◌, ◌≤◌, Bool, true, false, not, cond, ◌&&◌, ◌==◌, List, [], ◌∷◌, ◌++◌, length, take, drop, refl, sym, ap, ◌∙◌, subst, arith}
use Rattle.std.proofs.lemmas.Bool.{and_parts}
use Rattle.std.proofs.lemmas.List.{length-take-le, take-append-drop, take_all}
use Rattle.std.specs.List.{list_all}
use Rattle.httparse.specs.Ascii.{line_feed}
use Rattle.response_rules.specs.Lines.{before_line_feed}
use Rattle.response_laws.proofs.Cutting.{both}
use Rattle.http_heads.specs.Searches.{IsLine}

abbrev plain : ℕ → Bool
plain b = not (b == line_feed)

feed_behind : (front rest : List ℕ) → IsLine front → before_line_feed (front ++ rest) ≡ length front + before_line_feed rest
feed_behind [] rest h = omega arith
feed_behind (b ∷ front) rest h =
    let p = and_parts (plain b) (list_all plain front) h in
    ap (λ (v : Bool). cond v (1 + before_line_feed (front ++ rest)) 0) p.0
    ∙ ap (λ (n : ℕ). 1 + n) (feed_behind front rest p.1) ∙ omega arith

-- the first line feed stands behind what was looked at
pub feed_past : (bytes : List ℕ) (at : ℕ) → at ≤ length bytes → IsLine (take at bytes)
    → before_line_feed bytes ≡ at + before_line_feed (drop at bytes)
feed_past bytes at within line =
    ap before_line_feed (sym (take-append-drop at bytes)) ∙ feed_behind (take at bytes) (drop at bytes) line
    ∙ ap (λ (n : ℕ). n + before_line_feed (drop at bytes)) (length-take-le at bytes within)

line_of_all : (bytes : List ℕ) → before_line_feed bytes ≡ length bytes → IsLine bytes
line_of_all [] h = refl
line_of_all (b ∷ bytes) h = at (plain b) refl (line_of_all bytes)
  where
    at : (v : Bool) → plain b ≡ v → (before_line_feed bytes ≡ length bytes → IsLine bytes) → (plain b && list_all plain bytes) ≡ true
    at true e more =
        let short : before_line_feed (b ∷ bytes) ≡ 1 + before_line_feed bytes = ap (λ (v : Bool). cond v (1 + before_line_feed bytes) 0) e in
        let rest : before_line_feed bytes ≡ length bytes = omega (arith, h, short) in
        both (plain b) (list_all plain bytes) e (more rest)
    at false e more =
        let none : before_line_feed (b ∷ bytes) ≡ 0 = ap (λ (v : Bool). cond v (1 + before_line_feed bytes) 0) e in
        absurd (omega (arith, h, none))

-- where no line feed is among the bytes, they are a line that goes on
pub line_goes_on : (bytes : List ℕ) (at : ℕ) → at ≡ before_line_feed bytes → at ≡ length bytes → IsLine (take at bytes)
line_goes_on bytes at e all =
    subst IsLine (sym (take_all at bytes (omega (arith, all)))) (line_of_all bytes (sym e ∙ all))
