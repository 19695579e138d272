-- A search is followed byte by byte.
use Rattle.std.proofs.Common.{◌≡◌, ℕ, zero, ◌+◌, ◌<◌, ◌≤◌, Bool, true, false, not, ◌&&◌, ◌||◌, ◌==◌, nat_lt, if◌then◌else◌, List, [], ◌∷◌, ◌++◌, length, take, get_or, refl, sym, ap, ◌∙◌, subst, arith, append_assoc, true≢false}
use Rattle.std.proofs.lemmas.Bool.{eqb-true, ltb-true, ltb-false}
use Rattle.std.proofs.lemmas.List.{append-nil, length-append, take_more}
use Rattle.std.proofs.lemmas.List.Folds.{list_all-append}
use Rattle.std.specs.List.{list_all}
use Rattle.httparse.specs.Ascii.{carriage_return, line_feed}
use Rattle.response_rules.specs.Lines.{is_empty_line}
use Rattle.response_laws.proofs.Cutting.{both, sent-append, text-append}
use Rattle.http_heads.specs.declared.line_search.LineStart.{LineStart}
use Rattle.http_heads.specs.Searches.{AreLines, IsAt, IsEnded, IsFollowed, IsLine, ends_after, filled_after, is_filled, line_after, sent, start_of, with_more}

-- a line is empty where it began with nothing, or with a carriage return alone
pub empty_by_start : (line : List ℕ) → is_empty_line line ≡ not (is_filled (start_of line))
empty_by_start [] = refl
empty_by_start (b ∷ []) = at (b == carriage_return)
  where
    at : (v : Bool) → (v && true) ≡ not (is_filled (if v then LineStart.Return else LineStart.Text))
    at true = refl
    at false = refl
empty_by_start (b ∷ c ∷ line) = at (b == carriage_return)
  where
    at : (v : Bool) → (v && false) ≡ false
    at true = refl
    at false = refl

start_with_more : (line : List ℕ) (b : ℕ) → start_of (line ++ b ∷ []) ≡ with_more (start_of line) b
start_with_more [] b = refl
start_with_more (x ∷ []) b = at (x == carriage_return)
  where
    at : (v : Bool) → LineStart.Text ≡ with_more (if v then LineStart.Return else LineStart.Text) b
    at true = refl
    at false = refl
start_with_more (x ∷ y ∷ line) b = refl

one_byte : (b : ℕ) → (b == line_feed) ≡ false → IsLine (b ∷ [])
one_byte b plain = both (not (b == line_feed)) true (ap not plain) refl

pub lines-append : (ls ks : List (List ℕ)) → AreLines ls → AreLines ks → AreLines (ls ++ ks)
lines-append [] ks h k = k
lines-append (l ∷ ls) ks h k = (h.0, lines-append ls ks h.1 k)

all_more : (p : List ℕ → Bool) (ls : List (List ℕ)) (l : List ℕ) → list_all p ls ≡ true → p l ≡ true → list_all p (ls ++ l ∷ []) ≡ true
all_more p ls l h k = list_all-append p ls (l ∷ []) ∙ both (list_all p ls) (p l && true) h (both (p l) true k refl)

regroup : (a b c d : List ℕ) → (a ++ (b ++ c)) ++ d ≡ a ++ (b ++ (c ++ d))
regroup a b c d = simp append_assoc

line_sent : (ls : List (List ℕ)) (l : List ℕ) → sent ls ++ (l ++ line_feed ∷ []) ≡ sent (ls ++ l ∷ []) ++ []
line_sent ls l =
    sym (append-nil (sent (ls ++ l ∷ [])) ∙ sent-append ls (l ∷ []) ∙ ap (λ (t : List ℕ). sent ls ++ t) (append-nil (l ++ line_feed ∷ [])))

none_of : (ls : List (List ℕ)) → zero ≡ length ls → ls ≡ []
none_of [] h = refl
none_of (l ∷ ls) h = absurd (omega (arith, h))

-- the line goes on
module _ (leading : Bool) (seen : List ℕ) (filled : ℕ) (start : LineStart) (f : IsFollowed leading seen filled start) where
  behind : (more : List ℕ) → seen ++ more ≡ sent f.blank ++ (sent f.lines ++ (f.line ++ more))
  behind more = ap (λ (t : List ℕ). t ++ more) f.reads ∙ regroup (sent f.blank) (sent f.lines) f.line more

  goes_on : (b : ℕ) → (b == line_feed) ≡ false → IsFollowed leading (seen ++ b ∷ []) filled (with_more start b)
  goes_on b plain = record {
    blank = f.blank;
    lines = f.lines;
    line = f.line ++ b ∷ [];
    blank_lines = f.blank_lines;
    are_lines = f.are_lines;
    is_line = text-append f.line (b ∷ []) f.is_line (one_byte b plain);
    all_blank = f.all_blank;
    all_filled = f.all_filled;
    front = f.front;
    reads = behind (b ∷ []);
    count = f.count;
    begins = ap (λ (s : LineStart). with_more s b) f.begins ∙ sym (start_with_more f.line b);
  }

  -- a line that isn't empty ends
  line_ends : is_filled start ≡ true → IsFollowed leading (seen ++ line_feed ∷ []) (filled + 1) LineStart.Nothing
  line_ends full = record {
    blank = f.blank;
    lines = f.lines ++ f.line ∷ [];
    line = [];
    blank_lines = f.blank_lines;
    are_lines = lines-append f.lines (f.line ∷ []) f.are_lines (f.is_line, tt);
    is_line = refl;
    all_blank = f.all_blank;
    all_filled =
        all_more (λ l. not (is_empty_line l)) f.lines f.line f.all_filled
        (ap not (empty_by_start f.line ∙ ap (λ (s : LineStart). not (is_filled s)) (sym f.begins) ∙ ap not full));
    front = f.front;
    reads = behind (line_feed ∷ []) ∙ ap (λ (t : List ℕ). sent f.blank ++ t) (line_sent f.lines f.line);
    count = (let n = length-append f.lines (f.line ∷ []) in let k = f.count in omega (arith, n, k));
    begins = refl;
  }

  line_is_empty : is_filled start ≡ false → is_empty_line f.line ≡ true
  line_is_empty plain = empty_by_start f.line ∙ ap (λ (s : LineStart). not (is_filled s)) (sym f.begins) ∙ ap not plain

  -- an empty line in front ends
  front_ends : is_filled start ≡ false → filled ≡ zero → leading ≡ true → IsFollowed leading (seen ++ line_feed ∷ []) filled LineStart.Nothing
  front_ends plain none lead =
      let no_lines : f.lines ≡ [] = none_of f.lines (sym none ∙ f.count) in
      record {
        blank = f.blank ++ f.line ∷ [];
        lines = [];
        line = [];
        blank_lines = lines-append f.blank (f.line ∷ []) f.blank_lines (f.is_line, tt);
        are_lines = tt;
        is_line = refl;
        all_blank = all_more is_empty_line f.blank f.line f.all_blank (line_is_empty plain);
        all_filled = refl;
        front = λ e. absurd (true≢false (sym lead ∙ e));
        reads =
            behind (line_feed ∷ []) ∙ ap (λ (ls : List (List ℕ)). sent f.blank ++ (sent ls ++ (f.line ++ line_feed ∷ []))) no_lines
            ∙ line_sent f.blank f.line;
        count = none;
        begins = refl;
      }

  -- the empty line that is looked for ends
  search_ends : is_filled start ≡ false → (nat_lt 0 filled || not leading) ≡ true → IsEnded leading (seen ++ line_feed ∷ []) filled
  search_ends plain last = record {
    blank = f.blank;
    lines = f.lines;
    line = f.line;
    blank_lines = f.blank_lines;
    are_lines = f.are_lines;
    is_line = f.is_line;
    all_blank = f.all_blank;
    all_filled = f.all_filled;
    is_empty = line_is_empty plain;
    front = f.front;
    some = λ e. subst (λ (n : ℕ). 0 < n) f.count (ltb-true 0 filled (left_of (nat_lt 0 filled) (not leading) last (ap not e)));
    reads = behind (line_feed ∷ []);
    count = f.count;
  }
    where
      left_of : (a b : Bool) → (a || b) ≡ true → b ≡ false → a ≡ true
      left_of true b h n = refl
      left_of false b h n = absurd (true≢false (sym h ∙ n))

  empty_step : is_filled start ≡ false → IsAt (nat_lt 0 filled || not leading) leading (seen ++ line_feed ∷ []) filled LineStart.Nothing
  empty_step plain = at (nat_lt 0 filled || not leading) refl
    where
      neither : (a b : Bool) → (a || b) ≡ false → (a ≡ false) × (b ≡ false)
      neither true b h = absurd (true≢false h)
      neither false b h = (refl, h)

      yes : (a : Bool) → not a ≡ false → a ≡ true
      yes true h = refl
      yes false h = absurd (true≢false h)

      at : (v : Bool) → (nat_lt 0 filled || not leading) ≡ v → IsAt v leading (seen ++ line_feed ∷ []) filled LineStart.Nothing
      at true e = search_ends plain e
      at false e =
          let n = neither (nat_lt 0 filled) (not leading) e in
          let none : filled ≤ 0 = ltb-false 0 filled n.0 in
          front_ends plain (omega (arith, none)) (yes leading n.1)

feed_step : (leading : Bool) (seen : List ℕ) (filled : ℕ) (start : LineStart) → IsFollowed leading seen filled start
    → IsAt (ends_after true leading start filled) leading (seen ++ line_feed ∷ []) (filled_after true start filled) LineStart.Nothing
feed_step leading seen filled LineStart.Nothing f = empty_step leading seen filled LineStart.Nothing f refl
feed_step leading seen filled LineStart.Return f = empty_step leading seen filled LineStart.Return f refl
feed_step leading seen filled LineStart.Text f = line_ends leading seen filled LineStart.Text f refl

step_by : (leading : Bool) (seen : List ℕ) (filled : ℕ) (start : LineStart) (b : ℕ) (feed : Bool) → (b == line_feed) ≡ feed → IsFollowed leading seen filled start
    → IsAt (ends_after feed leading start filled) leading (seen ++ b ∷ []) (filled_after feed start filled) (line_after feed start b)
step_by leading seen filled start b false e f = goes_on leading seen filled start f b e
step_by leading seen filled start b true e f =
    subst (λ (x : ℕ). IsAt (ends_after true leading start filled) leading (seen ++ x ∷ []) (filled_after true start filled) LineStart.Nothing)
    (sym (eqb-true b line_feed e)) (feed_step leading seen filled start f)

-- one byte more
pub step : (leading : Bool) (seen : List ℕ) (filled : ℕ) (start : LineStart) (b : ℕ) → IsFollowed leading seen filled start
    → IsAt (ends_after (b == line_feed) leading start filled) leading (seen ++ b ∷ []) (filled_after (b == line_feed) start filled) (line_after (b == line_feed) start b)
step leading seen filled start b f = step_by leading seen filled start b (b == line_feed) refl f

-- nothing was looked at yet
pub nothing_followed : (leading : Bool) → IsFollowed leading [] 0 LineStart.Nothing
nothing_followed leading = record {
  blank = [];
  lines = [];
  line = [];
  blank_lines = tt;
  are_lines = tt;
  is_line = refl;
  all_blank = refl;
  all_filled = refl;
  front = λ e. refl;
  reads = refl;
  count = refl;
  begins = refl;
}

pub one_line_more : (feed : Bool) (start : LineStart) (filled : ℕ) → filled_after feed start filled ≤ filled + 1
one_line_more feed start filled = at (feed && is_filled start)
  where
    at : (v : Bool) → (if v then filled + 1 else filled) ≤ filled + 1
    at true = omega arith
    at false = omega arith

-- one byte more, of bytes that are looked at one by one
pub step_at : (bytes : List ℕ) (at filled : ℕ) (leading : Bool) (start : LineStart) (found new_leading : Bool) (new_at new_filled : ℕ) (new_start : LineStart)
    → at < length bytes → IsFollowed leading (take at bytes) filled start
    → found ≡ ends_after (get_or bytes at 0 == line_feed) leading start filled
    → new_leading ≡ leading → new_at ≡ at
    → new_filled ≡ filled_after (get_or bytes at 0 == line_feed) start filled
    → new_start ≡ line_after (get_or bytes at 0 == line_feed) start (get_or bytes at 0)
    → IsAt found new_leading (take (new_at + 1) bytes) new_filled new_start
step_at bytes at filled leading start found new_leading new_at new_filled new_start within f is_found is_leading is_at is_filled_now is_start =
    let b = get_or bytes at 0 in
    let feed = b == line_feed in
    subst (λ (v : Bool). IsAt v new_leading (take (new_at + 1) bytes) new_filled new_start) (sym is_found)
    (subst (λ (v : Bool). IsAt (ends_after feed leading start filled) v (take (new_at + 1) bytes) new_filled new_start) (sym is_leading)
    (subst (λ (n : ℕ). IsAt (ends_after feed leading start filled) leading (take (n + 1) bytes) new_filled new_start) (sym is_at)
    (subst (λ (n : ℕ). IsAt (ends_after feed leading start filled) leading (take (at + 1) bytes) n new_start) (sym is_filled_now)
    (subst (λ (s : LineStart). IsAt (ends_after feed leading start filled) leading (take (at + 1) bytes) (filled_after feed start filled) s) (sym is_start)
    (subst (λ (t : List ℕ). IsAt (ends_after feed leading start filled) leading t (filled_after feed start filled) (line_after feed start b)) (sym (take_more bytes at 0 within))
    (step leading (take at bytes) filled start b f))))))
