-- Texts that are sent with a line feed behind each are cut into these texts, and so a part ends where its last line does.
use Rattle.std.proofs.Common.{◌≡◌, ℕ, suc, ◌+◌, ◌-◌, ◌<◌, ◌≤◌, Bool, true, false, not, cond, ◌&&◌, if◌then◌else◌, List, [], ◌∷◌, ◌++◌, length, take, nat_lt, nat_le, ◌==◌, refl, sym, ap, ◌∙◌, subst, arith, append_assoc, true≢false}
use Rattle.std.proofs.Math.Seq.{take-append_seam}
use Rattle.std.proofs.lemmas.Bool.{and_parts, eqb-true, le-leb, le-ltb, lt-ltb}
use Rattle.std.proofs.lemmas.List.{length-append}
use Rattle.std.proofs.lemmas.List.Elements.{All-head, All-tail}
use Rattle.std.specs.List.{flat_map, list_all, prefix_len}
use Rattle.std.specs.Prelude.{IsTrue}
use Rattle.tree_base.specs.Limits.{most_head_bytes}
use Rattle.httparse.specs.Ascii.{line_feed}
use Rattle.httparse.specs.Grammar.{AllPass}
use Rattle.response_rules.specs.Lines.{Part, ends, passed, unfinished, first_lines, lines, part_of, whole_lines, with_byte, before_line_feed, chunk_line_part}

-- a byte that is no line feed
abbrev pub is_text_byte : ℕ → Bool
is_text_byte b = not (b == line_feed)

-- no byte is a line feed
abbrev pub IsText : List ℕ → Type 0
IsText text = list_all is_text_byte text ≡ true

pub both : (a b : Bool) → a ≡ true → b ≡ true → (a && b) ≡ true
both true b h k = k
both false b h k = h

pub text-append : (a b : List ℕ) → IsText a → IsText b → IsText (a ++ b)
text-append [] b h k = k
text-append (x ∷ a) b h k =
    let p = and_parts (is_text_byte x) (list_all is_text_byte a) h in
    both (is_text_byte x) (list_all is_text_byte (a ++ b)) p.0 (text-append a b p.1 k)

-- bytes of a class that a line feed isn't of
pub text-pass : (test : ℕ → Bool) → test 10 ≡ false → (t : List ℕ) → AllPass test t → IsText t
text-pass test feedless [] all = refl
text-pass test feedless (b ∷ t) all =
    both (is_text_byte b) (list_all is_text_byte t) (at (b == line_feed) refl)
    (text-pass test feedless t (All-tail (λ x. IsTrue (test x)) b t all))
  where
    at : (v : Bool) → (b == line_feed) ≡ v → not v ≡ true
    at false e = refl
    at true e =
        let same : b ≡ 10 = eqb-true b 10 e in
        let yes : test b ≡ true = All-head (λ x. IsTrue (test x)) b t all in
        absurd (true≢false (sym yes ∙ ap test same ∙ feedless))

lines_text : (t rest : List ℕ) → IsText t → lines (t ++ line_feed ∷ rest) ≡ t ∷ lines rest
lines_text [] rest h = refl
lines_text (b ∷ t) rest h =
    let p = and_parts (is_text_byte b) (list_all is_text_byte t) h in
    at (b == line_feed) p.0 (lines_text t rest p.1)
  where
    at : (v : Bool) → not v ≡ true → lines (t ++ line_feed ∷ rest) ≡ t ∷ lines rest
        → (if v then [] ∷ lines (t ++ line_feed ∷ rest) else with_byte b (lines (t ++ line_feed ∷ rest))) ≡ (b ∷ t) ∷ lines rest
    at true n e = absurd (true≢false (sym n))
    at false n e = ap (with_byte b) e

lines_some : (bytes : List ℕ) → (first : List ℕ) × (more : List (List ℕ)) × (lines bytes ≡ first ∷ more)
lines_some [] = ([], [], refl)
lines_some (b ∷ bytes) = at (b == line_feed) (lines_some bytes)
  where
    at : (v : Bool) → (first : List ℕ) × (more : List (List ℕ)) × (lines bytes ≡ first ∷ more)
        → (first : List ℕ) × (more : List (List ℕ)) × ((if v then [] ∷ lines bytes else with_byte b (lines bytes)) ≡ first ∷ more)
    at true s = ([], lines bytes, refl)
    at false s = (b ∷ s.0, s.1, ap (with_byte b) s.2)

whole_text : (t rest : List ℕ) → IsText t → whole_lines (t ++ line_feed ∷ rest) ≡ t ∷ whole_lines rest
whole_text t rest h =
    let s = lines_some rest in
    ap (λ (ls : List (List ℕ)). take (length ls - 1) ls) (lines_text t rest h) ∙ at (lines rest) s.0 s.1 s.2
  where
    at : (ls : List (List ℕ)) (first : List ℕ) (more : List (List ℕ)) → ls ≡ first ∷ more
        → take (length (t ∷ ls) - 1) (t ∷ ls) ≡ t ∷ take (length ls - 1) ls
    at [] first more e = absurd (cc e)
    at (l ∷ ls) first more e =
        let next : length (t ∷ l ∷ ls) - 1 ≡ suc (length (l ∷ ls) - 1) = omega arith in
        ap (λ (n : ℕ). take n (t ∷ l ∷ ls)) next

-- texts as they are sent, a line feed behind each
abbrev pub sent : List (List ℕ) → List ℕ
sent ls = flat_map (λ line. line ++ line_feed ∷ []) ls

abbrev pub AreTexts : List (List ℕ) → Type 0
AreTexts [] = Unit {0}
AreTexts (line ∷ ls) = IsText line × AreTexts ls

pub sent-append : (ls ks : List (List ℕ)) → sent (ls ++ ks) ≡ sent ls ++ sent ks
sent-append [] ks = refl
sent-append (l ∷ ls) ks = ap (λ (m : List ℕ). (l ++ line_feed ∷ []) ++ m) (sent-append ls ks) ∙ sym (append_assoc (l ++ line_feed ∷ []) (sent ls) (sent ks))

pub texts-append : (ls ks : List (List ℕ)) → AreTexts ls → AreTexts ks → AreTexts (ls ++ ks)
texts-append [] ks h k = k
texts-append (l ∷ ls) ks h k = (h.0, texts-append ls ks h.1 k)

pub whole_sent : (ls : List (List ℕ)) (rest : List ℕ) → AreTexts ls → whole_lines (sent ls ++ rest) ≡ ls ++ whole_lines rest
whole_sent [] rest h = refl
whole_sent (l ∷ ls) rest h =
    ap whole_lines (append_assoc (l ++ line_feed ∷ []) (sent ls) rest ∙ append_assoc l (line_feed ∷ []) (sent ls ++ rest))
    ∙ whole_text l (sent ls ++ rest) h.0 ∙ ap (λ (more : List (List ℕ)). l ∷ more) (whole_sent ls rest h.1)

decided : (a b c : Bool) (n : ℕ) (other : Part) → a ≡ false → b ≡ true → c ≡ true → (if a then passed else if b && c then ends n else other) ≡ ends n
decided true b c n other e f g = absurd (true≢false e)
decided false false c n other e f g = absurd (true≢false (sym f))
decided false true false n other e f g = absurd (true≢false (sym g))
decided false true true n other e f g = refl

-- a part ends with its last line, where it has as many lines as are looked for, and is within its limits
module _ (room most blank filled : ℕ) (ls : List (List ℕ)) (rest : List ℕ) (texts : AreTexts ls) (count : length ls ≡ blank + filled + 1) where
  abbrev bytes : List ℕ
  bytes = sent ls ++ rest

  abbrev found : List ℕ
  found = first_lines (blank + filled + 1) (whole_lines bytes)

  whole : whole_lines bytes ≡ ls ++ whole_lines rest
  whole = whole_sent ls rest texts

  first : found ≡ sent ls
  first = ap (first_lines (blank + filled + 1)) whole
      ∙ ap (λ (n : ℕ). first_lines n (ls ++ whole_lines rest)) (sym count)
      ∙ ap sent (take-append_seam ls (whole_lines rest))

  there : nat_lt (blank + filled) (length (whole_lines bytes)) ≡ true
  there = lt-ltb (blank + filled) (length (whole_lines bytes))
      (let l = ap length whole in let m = length-append ls (whole_lines rest) in omega (arith, l, m, count))

  pub part_ends : filled ≤ most → length (sent ls) ≤ room → part_of room most blank filled bytes ≡ ends (length (sent ls))
  part_ends few within =
      decided (nat_lt most filled) (nat_lt (blank + filled) (length (whole_lines bytes))) (nat_le (length found) room) (length found)
      (if nat_lt room (length bytes) then passed else unfinished) (le-ltb most filled few) there
      (le-leb (length found) room (let l = ap length first in omega (arith, l, within)))
      ∙ ap (λ (t : List ℕ). ends (length t)) first

pub one_more : (n : ℕ) → 1 + n ≡ suc n
one_more n = omega arith

-- the first line feed stands behind the text
pub before_feed : (t rest : List ℕ) → IsText t → before_line_feed (t ++ line_feed ∷ rest) ≡ length t
before_feed [] rest h = refl
before_feed (b ∷ t) rest h =
    let p = and_parts (is_text_byte b) (list_all is_text_byte t) h in
    ap (λ (v : Bool). cond v (1 + before_line_feed (t ++ line_feed ∷ rest)) 0) p.0 ∙ ap (λ (n : ℕ). 1 + n) (before_feed t rest p.1) ∙ one_more (length t)

line_decided : (a b : Bool) (n : ℕ) (other : Part) → a ≡ true → b ≡ true → (if a && b then ends n else other) ≡ ends n
line_decided false b n other e f = absurd (true≢false (sym e))
line_decided true false n other e f = absurd (true≢false (sym f))
line_decided true true n other e f = refl

-- a line within the limit ends with its line feed
module _ (t rest : List ℕ) (text : IsText t) where
  abbrev whole_line : List ℕ
  whole_line = t ++ line_feed ∷ rest

  here : before_line_feed whole_line ≡ length t
  here = before_feed t rest text

  pub line_ends : length t < most_head_bytes → chunk_line_part whole_line ≡ ends (length t + 1)
  line_ends within =
      line_decided (nat_lt (before_line_feed whole_line) (length whole_line)) (nat_lt (before_line_feed whole_line) most_head_bytes) (before_line_feed whole_line + 1)
      (if nat_lt most_head_bytes (length whole_line) then passed else unfinished)
      (lt-ltb (before_line_feed whole_line) (length whole_line) (let m = length-append t (line_feed ∷ rest) in let h = here in omega (arith, h, m)))
      (lt-ltb (before_line_feed whole_line) most_head_bytes (subst (λ (n : ℕ). n < most_head_bytes) (sym here) within))
      ∙ ap (λ (n : ℕ). ends (n + 1)) here
