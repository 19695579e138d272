-- A part that ended, or that passed a limit, does so with more bytes behind.
use Rattle.std.proofs.Common.{◌≡◌, ℕ, suc, ◌+◌, ◌-◌, ◌<◌, ◌≤◌, Bool, true, false, not, cond, ◌&&◌, if◌then◌else◌, List, [], ◌∷◌, ◌++◌, length, take, drop, nat_lt, nat_le, ◌==◌, refl, sym, ap, ◌∙◌, subst, arith, append_assoc, true≢false}
use Rattle.std.proofs.Math.Seq.{take-append-add}
use Rattle.std.proofs.lemmas.Bool.{and_parts, eqb-true, le-ltb, lt-leb, lt-ltb, ltb-false, ltb-true}
use Rattle.std.proofs.lemmas.List.{append-nil, drop-append-le, drop_all, length-append, length-drop, take-append-drop, take-append-le}
use Rattle.std.proofs.lemmas.List.Folds.{prefix_len-append}
use Rattle.std.proofs.lemmas.List.Sums.{prefix_len-le-length}
use Rattle.std.specs.List.{list_all, prefix_len}
use Rattle.std.specs.Prelude.{⊤}
use Rattle.httparse.proofs.GrammarLemmas.{cons-append}
use Rattle.httparse.specs.Ascii.{line_feed}
use Rattle.tree_base.specs.Limits.{most_head_bytes, most_header_lines}
use Rattle.response_laws.proofs.Cutting.{AreTexts, IsText, both, is_text_byte, sent, sent-append, text-append, whole_sent}
use Rattle.response_rules.specs.Lines.{Part, before_line_feed, blank_lines, chunk_line_part, ends, filled_lines, first_lines, head_part, is_empty_line, lines, part_of, passed, trailer_part, unfinished, whole_lines, with_byte}

-- ---- how many things that pass a test stand in front

module _ {X : Type 0} (p : X → Bool) (xs ys : List X) where
  abbrev is_all : Bool
  is_all = prefix_len p xs == length xs

  -- where one of them fails it, as many as before
  pub prefix_stays : prefix_len p xs < length xs → prefix_len p (xs ++ ys) ≡ prefix_len p xs
  prefix_stays inside = prefix_len-append p xs ys ∙ at is_all refl
    where
      at : (v : Bool) → is_all ≡ v → cond v (length xs + prefix_len p ys) (prefix_len p xs) ≡ prefix_len p xs
      at true e = absurd (let same = eqb-true (prefix_len p xs) (length xs) e in omega (arith, same, inside))
      at false e = refl

  -- where none does, all and those behind
  pub prefix_goes_on : length xs ≤ prefix_len p xs → length xs ≤ prefix_len p (xs ++ ys)
  prefix_goes_on all = subst (λ (n : ℕ). length xs ≤ n) (sym (prefix_len-append p xs ys)) (at is_all)
    where
      at : (v : Bool) → length xs ≤ cond v (length xs + prefix_len p ys) (prefix_len p xs)
      at true = omega arith
      at false = all

  pub prefix_grows : prefix_len p xs ≤ prefix_len p (xs ++ ys)
  prefix_grows = subst (λ (n : ℕ). prefix_len p xs ≤ n) (sym (prefix_len-append p xs ys)) (at is_all)
    where
      at : (v : Bool) → prefix_len p xs ≤ cond v (length xs + prefix_len p ys) (prefix_len p xs)
      at true = let l = prefix_len-le-length p xs in omega (arith, l)
      at false = omega arith

-- ---- lines that were read whole, and what stands behind the last of them

record Split (bytes : List ℕ) : Type 0 where
  whole : List (List ℕ)
  last : List ℕ
  texts : AreTexts whole
  text : IsText last
  is : bytes ≡ sent whole ++ last

with_text_byte : (b : ℕ) (bytes : List ℕ) → is_text_byte b ≡ true → (whole : List (List ℕ)) (last : List ℕ) → AreTexts whole → IsText last
    → bytes ≡ sent whole ++ last → Split (b ∷ bytes)
with_text_byte b bytes e [] last texts text is = record {
  whole = [];
  last = b ∷ last;
  texts = tt;
  text = both (is_text_byte b) (list_all is_text_byte last) e text;
  is = ap (λ (m : List ℕ). b ∷ m) is;
}
with_text_byte b bytes e (line ∷ ls) last texts text is = record {
  whole = (b ∷ line) ∷ ls;
  last = last;
  texts = (both (is_text_byte b) (list_all is_text_byte line) e texts.0, texts.1);
  text = text;
  is = ap (λ (m : List ℕ). b ∷ m) is;
}

split : (bytes : List ℕ) → Split bytes
split [] = record { whole = []; last = []; texts = tt; text = refl; is = refl }
split (b ∷ bytes) = at (b == line_feed) refl (split bytes)
  where
    at : (v : Bool) → (b == line_feed) ≡ v → Split bytes → Split (b ∷ bytes)
    at true e s = let feed : b ≡ line_feed = eqb-true b line_feed e in record {
      whole = [] ∷ s.whole;
      last = s.last;
      texts = (refl, s.texts);
      text = s.text;
      is = λ i. feed i ∷ s.is i;
    }
    at false e s = with_text_byte b bytes (ap not e) s.whole s.last s.texts s.text s.is

one_line : (t : List ℕ) → IsText t → lines t ≡ t ∷ []
one_line [] h = refl
one_line (b ∷ t) h = let p = and_parts (is_text_byte b) (list_all is_text_byte t) h in at (b == line_feed) p.0 (one_line t p.1)
  where
    at : (v : Bool) → not v ≡ true → lines t ≡ t ∷ [] → (if v then [] ∷ lines t else with_byte b (lines t)) ≡ (b ∷ t) ∷ []
    at true n e = absurd (true≢false (sym n))
    at false n e = ap (with_byte b) e

none_whole : (t : List ℕ) → IsText t → whole_lines t ≡ []
none_whole t h = ap (λ (ls : List (List ℕ)). take (length ls - 1) ls) (one_line t h)

whole_of : (bytes : List ℕ) (s : Split bytes) → whole_lines bytes ≡ s.whole
whole_of bytes s =
    ap whole_lines s.is ∙ whole_sent s.whole s.last s.texts ∙ ap (λ (m : List (List ℕ)). s.whole ++ m) (none_whole s.last s.text) ∙ append-nil s.whole

-- the first line, if there is one, has at least so many bytes
abbrev IsLong : ℕ → List (List ℕ) → Type 0
IsLong n [] = ⊤
IsLong n (line ∷ ls) = n ≤ length line

-- what more bytes add to the lines that were read whole: the first of them has the bytes behind the last whole one
record Adds (bytes more : List ℕ) : Type 0 where
  left : ℕ
  behind : List (List ℕ)
  count : length bytes ≡ length (sent (whole_lines bytes)) + left
  is : whole_lines (bytes ++ more) ≡ whole_lines bytes ++ behind
  next : IsLong left behind

regroup : (a w q t : List ℕ) → a ++ (((w ++ line_feed ∷ []) ++ q) ++ t) ≡ (((a ++ w) ++ line_feed ∷ []) ++ q) ++ t
regroup a w q t = simp (append_assoc, cons-append)

added : (last more : List ℕ) → IsText last → (whole : List (List ℕ)) (t : List ℕ) → AreTexts whole → IsText t → more ≡ sent whole ++ t
    → (behind : List (List ℕ)) × (whole_lines (last ++ more) ≡ behind) × IsLong (length last) behind
added last more text [] t texts end is = (
  [],
  ap (λ (m : List ℕ). whole_lines (last ++ m)) is ∙ none_whole (last ++ t) (text-append last t text end),
  tt,
)
added last more text (w ∷ ws) t texts end is = (
  (last ++ w) ∷ ws,
  ap (λ (m : List ℕ). whole_lines (last ++ m)) is ∙ ap whole_lines (regroup last w (sent ws) t)
      ∙ whole_sent ((last ++ w) ∷ ws) t (text-append last w text texts.0, texts.1)
      ∙ ap (λ (m : List (List ℕ)). ((last ++ w) ∷ ws) ++ m) (none_whole t end) ∙ append-nil ((last ++ w) ∷ ws),
  (let l = length-append last w in omega (arith, l)),
)

adds : (bytes more : List ℕ) → Adds bytes more
adds bytes more =
    let s = split bytes in
    let m = split more in
    let a = added s.last more s.text m.whole m.last m.texts m.text m.is in
    let w = whole_of bytes s in
    let joined : bytes ++ more ≡ sent s.whole ++ (s.last ++ more) = ap (λ (b : List ℕ). b ++ more) s.is ∙ append_assoc (sent s.whole) s.last more in record {
      left = length s.last;
      behind = a.0;
      count =
          ap length s.is ∙ length-append (sent s.whole) s.last
          ∙ ap (λ (ls : List (List ℕ)). length (sent ls) + length s.last) (sym w);
      is =
          ap whole_lines joined ∙ whole_sent s.whole (s.last ++ more) s.texts ∙ ap (λ (ls : List (List ℕ)). s.whole ++ ls) a.1
          ∙ ap (λ (ls : List (List ℕ)). ls ++ a.0) (sym w);
      next = a.2;
    }

-- ---- parts of lines

abbrev told : Bool → Bool → Bool → Bool → ℕ → Part
told past there fits over n = if past then passed else if there && fits then ends n else if over then passed else unfinished

told_ends : (past there fits over : Bool) (m n : ℕ) → told past there fits over m ≡ ends n → m ≡ n
told_ends true there fits over m n e = absurd (cc e)
told_ends false true true over m n e = cc e
told_ends false true false true m n e = absurd (cc e)
told_ends false true false false m n e = absurd (cc e)
told_ends false false fits true m n e = absurd (cc e)
told_ends false false fits false m n e = absurd (cc e)

some_lines : (n : ℕ) (ls : List (List ℕ)) → length (first_lines n ls) ≤ length (sent ls)
some_lines n ls =
    let e = ap length (ap sent (sym (take-append-drop n ls)) ∙ sent-append (take n ls) (drop n ls)) in
    let l = length-append (sent (take n ls)) (sent (drop n ls)) in
    omega (arith, e, l)

part_within : (room most blank filled : ℕ) (bytes : List ℕ) (n : ℕ) → part_of room most blank filled bytes ≡ ends n → n ≤ length bytes
part_within room most blank filled bytes n e =
    let ls = whole_lines bytes in
    let a = adds bytes [] in
    let c = a.count in
    let l = some_lines (blank + filled + 1) (whole_lines bytes) in
    let same = told_ends (nat_lt most filled) (nat_lt (blank + filled) (length (whole_lines bytes)))
    (nat_le (length (first_lines (blank + filled + 1) (whole_lines bytes))) room) (nat_lt room (length bytes))
    (length (first_lines (blank + filled + 1) (whole_lines bytes))) n e in
    omega (arith, c, l, same)

-- a line more than were read whole is longer than all bytes
past_all : (ls behind : List (List ℕ)) (left n : ℕ) → IsLong left behind → length ls ≤ n → n < length (ls ++ behind)
    → length (sent ls) + left < length (first_lines (n + 1) (ls ++ behind))
past_all ls [] left n next all there = absurd (let l = length-append ls [] in omega (arith, all, there, l))
past_all ls (x ∷ xs) left n next all there =
    let number : n + 1 ≡ length ls + suc (n - length ls) = omega (arith, all) in
    let first : first_lines (n + 1) (ls ++ x ∷ xs) ≡ sent ls ++ ((x ++ line_feed ∷ []) ++ sent (take (n - length ls) xs)) =
    ap (λ (m : ℕ). first_lines m (ls ++ x ∷ xs)) number ∙ ap sent (take-append-add ls (x ∷ xs) (suc (n - length ls)))
    ∙ sent-append ls (x ∷ take (n - length ls) xs) in
    let e = ap length first in
    let l = length-append (sent ls) ((x ++ line_feed ∷ []) ++ sent (take (n - length ls) xs)) in
    let m = length-append (x ++ line_feed ∷ []) (sent (take (n - length ls) xs)) in
    let k = length-append x (line_feed ∷ []) in
    omega (arith, e, l, m, k, next)

-- what was counted in lines is counted alike with more lines behind, where it ended among them
pub record Counts (bytes more : List ℕ) (blank filled later_blank later_filled : ℕ) : Type 0 where
  pub kept : blank + filled < length (whole_lines bytes) → (later_blank ≡ blank) × (later_filled ≡ filled)
  pub on : length (whole_lines bytes) ≤ blank + filled → length (whole_lines bytes) ≤ later_blank + later_filled
  pub grows : filled ≤ later_filled

module _ (room most : ℕ) (bytes more : List ℕ) (blank filled later_blank later_filled : ℕ) (counts : Counts bytes more blank filled later_blank later_filled) where
  abbrev ls : List (List ℕ)
  ls = whole_lines bytes

  abbrev later : List (List ℕ)
  later = whole_lines (bytes ++ more)

  abbrev found : ℕ
  found = length (first_lines (blank + filled + 1) ls)

  abbrev later_found : ℕ
  later_found = length (first_lines (later_blank + later_filled + 1) later)

  abbrev later_part : Part
  later_part = part_of room most later_blank later_filled (bytes ++ more)

  a : Adds bytes more
  a = adds bytes more

  many : length later ≡ length ls + length a.behind
  many = ap length a.is ∙ length-append ls a.behind

  longer : length bytes ≤ length (bytes ++ more)
  longer = let l = length-append bytes more in omega (arith, l)

  later_told : (past there fits over : Bool) → nat_lt most later_filled ≡ past → nat_lt (later_blank + later_filled) (length later) ≡ there
      → nat_le later_found room ≡ fits → nat_lt room (length (bytes ++ more)) ≡ over → later_part ≡ told past there fits over later_found
  later_told past there fits over e f g h = λ i. told (e i) (f i) (g i) (h i) later_found

  -- where it ended among the lines that were read whole
  module _ (inside : blank + filled < length ls) where
    number : later_blank + later_filled ≡ blank + filled
    number = let k = counts.kept inside in let b = k.0 in let f = k.1 in omega (arith, b, f)

    later_there : nat_lt (later_blank + later_filled) (length later) ≡ true
    later_there = lt-ltb (later_blank + later_filled) (length later) (let n = number in let m = many in omega (arith, n, m, inside))

    same_found : later_found ≡ found
    same_found =
        ap length (ap (first_lines (later_blank + later_filled + 1)) a.is ∙ ap (λ (n : ℕ). first_lines (n + 1) (ls ++ a.behind)) number
        ∙ ap sent (take-append-le (blank + filled + 1) ls a.behind (omega (arith, inside))))

    ended : nat_lt most filled ≡ false → nat_le found room ≡ true → later_part ≡ ends found
    ended past fits =
        later_told false true true (nat_lt room (length (bytes ++ more))) (ap (nat_lt most) (counts.kept inside).1 ∙ past) later_there
        (ap (λ (n : ℕ). nat_le n room) same_found ∙ fits) refl ∙ ap ends same_found

    over_limit : nat_lt most filled ≡ false → nat_le found room ≡ false → room < length bytes → later_part ≡ passed
    over_limit past fits over =
        later_told false true false true (ap (nat_lt most) (counts.kept inside).1 ∙ past) later_there (ap (λ (n : ℕ). nat_le n room) same_found ∙ fits)
        (lt-ltb room (length (bytes ++ more)) (let l = longer in omega (arith, over, l)))

  -- where it didn't
  beyond : length ls ≤ blank + filled → room < length bytes → later_part ≡ passed
  beyond all over = at (nat_lt most later_filled) (nat_lt (later_blank + later_filled) (length later)) refl refl
    where
      later_over : nat_lt room (length (bytes ++ more)) ≡ true
      later_over = lt-ltb room (length (bytes ++ more)) (let l = longer in omega (arith, over, l))

      too_long : later_blank + later_filled < length later → nat_le later_found room ≡ false
      too_long there =
          let first : later_found ≡ length (first_lines (later_blank + later_filled + 1) (ls ++ a.behind)) =
          ap (λ (all : List (List ℕ)). length (first_lines (later_blank + later_filled + 1) all)) a.is in
          let p = past_all ls a.behind a.left (later_blank + later_filled) a.next (counts.on all) (subst (λ (all : List (List ℕ)). later_blank + later_filled < length all) a.is there) in
          let c = a.count in
          lt-leb later_found room (omega (arith, first, p, c, over))

      at : (past there : Bool) → nat_lt most later_filled ≡ past → nat_lt (later_blank + later_filled) (length later) ≡ there → later_part ≡ passed
      at true there e f = later_told true there (nat_le later_found room) (nat_lt room (length (bytes ++ more))) e f refl refl
      at false true e f = later_told false true false true e f (too_long (ltb-true (later_blank + later_filled) (length later) f)) later_over
      at false false e f = later_told false false (nat_le later_found room) true e f refl later_over

  pub part_stays : (part : Part) → part_of room most blank filled bytes ≡ part → (part ≡ unfinished → ⊥) → later_part ≡ part
  part_stays part is told_it =
      at (nat_lt most filled) (nat_lt (blank + filled) (length ls)) (nat_le found room) (nat_lt room (length bytes)) refl refl refl refl is
    where
      at : (past there fits over : Bool) → nat_lt most filled ≡ past → nat_lt (blank + filled) (length ls) ≡ there → nat_le found room ≡ fits
          → nat_lt room (length bytes) ≡ over → told past there fits over found ≡ part → later_part ≡ part
      at true there fits over e f g h t =
          later_told true (nat_lt (later_blank + later_filled) (length later)) (nat_le later_found room) (nat_lt room (length (bytes ++ more)))
          (lt-ltb most later_filled (let m = ltb-true most filled e in let k = counts.grows in omega (arith, m, k))) refl refl refl ∙ t
      at false true true over e f g h t = ended (ltb-true (blank + filled) (length ls) f) e g ∙ t
      at false true false true e f g h t = over_limit (ltb-true (blank + filled) (length ls) f) e g (ltb-true room (length bytes) h) ∙ t
      at false true false false e f g h t = absurd (told_it (sym t))
      at false false fits true e f g h t = beyond (ltb-false (blank + filled) (length ls) f) (ltb-true room (length bytes) h) ∙ t
      at false false fits false e f g h t = absurd (told_it (sym t))

-- ---- a head

abbrev is_filled_line : List ℕ → Bool
is_filled_line line = not (is_empty_line line)

module _ (bytes more : List ℕ) where
  abbrev seen : List (List ℕ)
  seen = whole_lines bytes

  abbrev blank : ℕ
  blank = blank_lines seen

  abbrev all_seen : List (List ℕ)
  all_seen = whole_lines (bytes ++ more)

  b : Adds bytes more
  b = adds bytes more

  few : blank ≤ length seen
  few = prefix_len-le-length is_empty_line seen

  blank_stays : blank < length seen → blank_lines all_seen ≡ blank
  blank_stays inside = ap blank_lines b.is ∙ prefix_stays is_empty_line seen b.behind inside

  rest_is : blank < length seen → drop (blank_lines all_seen) all_seen ≡ drop blank seen ++ b.behind
  rest_is inside = (λ i. drop (blank_stays inside i) (b.is i)) ∙ drop-append-le blank seen b.behind few

  rest_long : length (drop blank seen) ≡ length seen - blank
  rest_long = length-drop blank seen

  filled_stays : blank + filled_lines (drop blank seen) < length seen → filled_lines (drop (blank_lines all_seen) all_seen) ≡ filled_lines (drop blank seen)
  filled_stays inside =
      ap filled_lines (rest_is (omega (arith, inside)))
      ∙ prefix_stays is_filled_line (drop blank seen) b.behind (let l = rest_long in omega (arith, l, inside))

  nothing_filled : length seen ≤ blank → filled_lines (drop blank seen) ≡ 0
  nothing_filled all = ap filled_lines (drop_all blank seen all)

  blank_grows : blank ≤ blank_lines all_seen
  blank_grows = subst (λ (ls : List (List ℕ)). blank ≤ blank_lines ls) (sym b.is) (prefix_grows is_empty_line seen b.behind)

  counted : Counts bytes more blank (filled_lines (drop blank seen)) (blank_lines all_seen) (filled_lines (drop (blank_lines all_seen) all_seen))
  counted = record {
    kept = λ inside. (blank_stays (omega (arith, inside)), filled_stays inside);
    on = λ all. at (nat_lt blank (length seen)) refl all;
    grows = filled_at (nat_lt blank (length seen)) refl;
  }
    where
      at : (v : Bool) → nat_lt blank (length seen) ≡ v → length seen ≤ blank + filled_lines (drop blank seen)
          → length seen ≤ blank_lines all_seen + filled_lines (drop (blank_lines all_seen) all_seen)
      at true e all =
          let inside = ltb-true blank (length seen) e in
          let l = rest_long in
          let same = blank_stays inside in
          let f = subst (λ (ls : List (List ℕ)). length (drop blank seen) ≤ filled_lines ls) (sym (rest_is inside))
          (prefix_goes_on is_filled_line (drop blank seen) b.behind (omega (arith, l, all))) in
          omega (arith, l, same, f, inside)
      at false e all = let past = ltb-false blank (length seen) e in let g = blank_grows in omega (arith, past, g)

      filled_at : (v : Bool) → nat_lt blank (length seen) ≡ v → filled_lines (drop blank seen) ≤ filled_lines (drop (blank_lines all_seen) all_seen)
      filled_at true e =
          subst (λ (ls : List (List ℕ)). filled_lines (drop blank seen) ≤ filled_lines ls) (sym (rest_is (ltb-true blank (length seen) e)))
          (prefix_grows is_filled_line (drop blank seen) b.behind)
      filled_at false e = let n = nothing_filled (ltb-false blank (length seen) e) in omega (arith, n)

pub head_part_stays : (before : ℕ) (bytes more : List ℕ) (part : Part) → head_part before bytes ≡ part → (part ≡ unfinished → ⊥) → head_part before (bytes ++ more) ≡ part
head_part_stays before bytes more part is told_it =
    part_stays (most_head_bytes - before) (most_header_lines + 1) bytes more (blank_lines (whole_lines bytes)) (filled_lines (drop (blank_lines (whole_lines bytes)) (whole_lines bytes)))
    (blank_lines (whole_lines (bytes ++ more))) (filled_lines (drop (blank_lines (whole_lines (bytes ++ more))) (whole_lines (bytes ++ more))))
    (counted bytes more) part is told_it

pub head_within : (before : ℕ) (bytes : List ℕ) (n : ℕ) → head_part before bytes ≡ ends n → n ≤ length bytes
head_within before bytes n is =
    part_within (most_head_bytes - before) (most_header_lines + 1) (blank_lines (whole_lines bytes)) (filled_lines (drop (blank_lines (whole_lines bytes)) (whole_lines bytes))) bytes n is

-- ---- lines behind a last chunk

module _ (bytes more : List ℕ) where
  c : Adds bytes more
  c = adds bytes more

  abbrev found_lines : List (List ℕ)
  found_lines = whole_lines bytes

  counted_fields : Counts bytes more 0 (filled_lines found_lines) 0 (filled_lines (whole_lines (bytes ++ more)))
  counted_fields = record {
    kept = λ inside. (refl, ap filled_lines c.is ∙ prefix_stays is_filled_line found_lines c.behind (omega (arith, inside)));
    on = λ all.
        let f = subst (λ (ls : List (List ℕ)). length found_lines ≤ filled_lines ls) (sym c.is)
        (prefix_goes_on is_filled_line found_lines c.behind (omega (arith, all))) in
        omega (arith, f);
    grows = subst (λ (ls : List (List ℕ)). filled_lines found_lines ≤ filled_lines ls) (sym c.is) (prefix_grows is_filled_line found_lines c.behind);
  }

pub trailer_part_stays : (bytes more : List ℕ) (part : Part) → trailer_part bytes ≡ part → (part ≡ unfinished → ⊥) → trailer_part (bytes ++ more) ≡ part
trailer_part_stays bytes more part is told_it =
    part_stays most_head_bytes most_header_lines bytes more 0 (filled_lines (whole_lines bytes)) 0 (filled_lines (whole_lines (bytes ++ more))) (counted_fields bytes more) part is told_it

pub trailer_within : (bytes : List ℕ) (n : ℕ) → trailer_part bytes ≡ ends n → n ≤ length bytes
trailer_within bytes n is = part_within most_head_bytes most_header_lines 0 (filled_lines (whole_lines bytes)) bytes n is

-- ---- a chunk line

abbrev line_told : Bool → Bool → Bool → ℕ → Part
line_told there fits over n = if there && fits then ends n else if over then passed else unfinished

line_told_ends : (there fits over : Bool) (m n : ℕ) → line_told there fits over m ≡ ends n → (there ≡ true) × (m ≡ n)
line_told_ends true true over m n e = (refl, cc e)
line_told_ends true false true m n e = absurd (cc e)
line_told_ends true false false m n e = absurd (cc e)
line_told_ends false fits true m n e = absurd (cc e)
line_told_ends false fits false m n e = absurd (cc e)

pub chunk_line_within : (bytes : List ℕ) (n : ℕ) → chunk_line_part bytes ≡ ends n → n ≤ length bytes
chunk_line_within bytes n is =
    let t = line_told_ends (nat_lt (before_line_feed bytes) (length bytes)) (nat_lt (before_line_feed bytes) most_head_bytes) (nat_lt most_head_bytes (length bytes)) (before_line_feed bytes + 1) n is in
    let inside = ltb-true (before_line_feed bytes) (length bytes) t.0 in
    let same = t.1 in
    omega (arith, inside, same)

module _ (bytes more : List ℕ) where
  abbrev at_feed : ℕ
  at_feed = before_line_feed bytes

  abbrev later_feed : ℕ
  later_feed = before_line_feed (bytes ++ more)

  abbrev later_line : Part
  later_line = chunk_line_part (bytes ++ more)

  more_bytes : length bytes ≤ length (bytes ++ more)
  more_bytes = let l = length-append bytes more in omega (arith, l)

  feed_stays : at_feed < length bytes → later_feed ≡ at_feed
  feed_stays inside = prefix_stays is_text_byte bytes more inside

  later_line_told : (there fits over : Bool) → nat_lt later_feed (length (bytes ++ more)) ≡ there → nat_lt later_feed most_head_bytes ≡ fits
      → nat_lt most_head_bytes (length (bytes ++ more)) ≡ over → later_line ≡ line_told there fits over (later_feed + 1)
  later_line_told there fits over e f g = λ i. line_told (e i) (f i) (g i) (later_feed + 1)

  over_later : most_head_bytes < length bytes → nat_lt most_head_bytes (length (bytes ++ more)) ≡ true
  over_later over = lt-ltb most_head_bytes (length (bytes ++ more)) (let l = more_bytes in omega (arith, over, l))

  too_far : most_head_bytes < length bytes → most_head_bytes ≤ later_feed → later_line ≡ passed
  too_far over far = at (nat_lt later_feed (length (bytes ++ more))) refl
    where
      at : (v : Bool) → nat_lt later_feed (length (bytes ++ more)) ≡ v → later_line ≡ passed
      at true e = later_line_told true false true e (le-ltb later_feed most_head_bytes far) (over_later over)
      at false e = later_line_told false false true e (le-ltb later_feed most_head_bytes far) (over_later over)

  pub chunk_line_part_stays : (part : Part) → chunk_line_part bytes ≡ part → (part ≡ unfinished → ⊥) → later_line ≡ part
  chunk_line_part_stays part is told_it =
      at (nat_lt at_feed (length bytes)) (nat_lt at_feed most_head_bytes) (nat_lt most_head_bytes (length bytes)) refl refl refl is
    where
      at : (there fits over : Bool) → nat_lt at_feed (length bytes) ≡ there → nat_lt at_feed most_head_bytes ≡ fits → nat_lt most_head_bytes (length bytes) ≡ over
          → line_told there fits over (at_feed + 1) ≡ part → later_line ≡ part
      at true true over e f g t =
          let inside = ltb-true at_feed (length bytes) e in
          let same = feed_stays inside in
          later_line_told true true (nat_lt most_head_bytes (length (bytes ++ more)))
          (lt-ltb later_feed (length (bytes ++ more)) (let l = more_bytes in omega (arith, inside, same, l)))
          (ap (λ (n : ℕ). nat_lt n most_head_bytes) same ∙ f) refl
          ∙ ap (λ (n : ℕ). ends (n + 1)) same ∙ t
      at true false true e f g t =
          let same = feed_stays (ltb-true at_feed (length bytes) e) in
          let far = ltb-false at_feed most_head_bytes f in
          too_far (ltb-true most_head_bytes (length bytes) g) (omega (arith, same, far)) ∙ t
      at false fits true e f g t =
          let over = ltb-true most_head_bytes (length bytes) g in
          let all = prefix_goes_on is_text_byte bytes more (ltb-false at_feed (length bytes) e) in
          too_far over (omega (arith, over, all)) ∙ t
      at true false false e f g t = absurd (told_it (sym t))
      at false fits false e f g t = absurd (told_it (sym t))
