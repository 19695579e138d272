-- The head's end is looked for while more of the bytes is read.
use Rattle.std.proofs.Common.{◌≡◌, ℕ, ◌+◌, ◌-◌, ◌<◌, ◌≤◌, ◌||◌, Bool, true, false, cond, List, [], ◌++◌, length, drop, Option, refl, sym, ap, ◌∙◌, subst, arith}
use Rattle.std.proofs.lemmas.List.{append-nil, length-append, take-append-le}
use Rattle.std.specs.Prelude.{Err, IsTrue, Ok}
use Rattle.tree_base.specs.Limits.{most_head_bytes, most_header_lines}
use Rattle.engine_types.specs.declared.WireEnd.{WireEnd}
use Rattle.outside_api.specs.Pipes.{Talk}
use Rattle.response_rules.specs.Lines.{blank_lines, ends, filled_lines, head_part, passed, unfinished, whole_lines}
use Rattle.http_heads.specs.Searches.{HasFollowed, IsFollowed, part_told, searched_part}
use Rattle.http_heads.specs.declared.line_search.LineSearch.{LineSearch}
use Rattle.http_heads.specs.declared.line_search.SearchAnswer.{SearchAnswer}
use Rattle.request_reading.specs.Hearing.{Hears}
use Rattle.request_reading.specs.Stocks.{FindsHeadBy, IsFilled, MissesHead, ReadsOnBy}
use Rattle.request_reading.specs.declared.received.RequestEnd.{RequestEnd}
use Rattle.request_reading.specs.declared.stock.Stock.{Stock}
use Rattle.request_reading.proofs.Limits.{ends_within, open_within}
use Rattle.request_reading.proofs.Listening.{filled_on, hears_as, hears_on, or_nothing, refuses}

-- a search stands where it was, with more bytes behind
pub followed_more : (search : LineSearch) (bytes more : List ℕ) → HasFollowed search bytes → HasFollowed search (bytes ++ more)
followed_more search bytes more h = record {
  within = let l = length-append bytes more in let w = h.within in omega (arith, l, w);
  few = h.few;
  followed =
      subst (λ (seen : List ℕ). IsFollowed search.leading seen search.filled search.line) (sym (take-append-le search.at bytes more h.within)) h.followed;
}

-- the search goes on in more
pub followed_on : (search : LineSearch) (now new : Stock) (n : List ℕ) (e : Bool) → IsFilled now new n e → HasFollowed search now.bytes → HasFollowed search new.bytes
followed_on search now new n e filled h = subst (HasFollowed search) (sym filled.bytes_are) (followed_more search now.bytes n h)

missed : (old now : Stock) (m n : List ℕ) (d e : Bool) → IsFilled old now m d → head_part 0 now.bytes ≡ unfinished
    → (cause : WireEnd) → (cause ≡ WireEnd.Ended) × IsTrue now.ended × (n ≡ []) × (e ≡ false) → MissesHead (old.bytes ++ (m ++ n)) (old.ended || (d || e)) cause
missed old now m n d e filled going cause (is, ended, none, plain) =
    let bytes : old.bytes ++ (m ++ n) ≡ now.bytes =
    ap (λ (l : List ℕ). old.bytes ++ (m ++ l)) none ∙ ap (λ (l : List ℕ). old.bytes ++ l) (append-nil m) ∙ sym filled.bytes_are in
    let over : (old.ended || (d || e)) ≡ true =
    ap (λ (v : Bool). old.ended || (d || v)) plain ∙ ap (λ (v : Bool). old.ended || v) (sym (or_nothing d)) ∙ sym filled.ended_is ∙ ended in
    subst (MissesHead (old.bytes ++ (m ++ n)) (old.ended || (d || e))) (sym is) (ap (head_part 0) bytes ∙ going, over)

module _ (old now new : Stock) (a b : Option Talk) where
  -- the end is found in what was read
  pub found_here : (f g n : ℕ) → Hears a b (λ (more : List ℕ) (found_end : Bool). IsFilled old now more found_end) → head_part 0 now.bytes ≡ ends n
      → Hears a b (FindsHeadBy old now f g (Ok n))
  found_here f g n h e =
      hears_as a b (λ (more : List ℕ) (found_end : Bool). IsFilled old now more found_end) (FindsHeadBy old now f g (Ok n)) h
      (λ (more : List ℕ) (found_end : Bool) (filled : IsFilled old now more found_end). (filled, ap (head_part 0) (sym filled.bytes_are) ∙ e))

  -- the head passed a limit in what was read
  pub passed_here : (f g : ℕ) → Hears a b (λ (more : List ℕ) (found_end : Bool). IsFilled old now more found_end) → head_part 0 now.bytes ≡ passed
      → Hears a b (FindsHeadBy old now f g (Err (RequestEnd.Wire WireEnd.TooLarge)))
  passed_here f g h e =
      hears_as a b (λ (more : List ℕ) (found_end : Bool). IsFilled old now more found_end) (FindsHeadBy old now f g (Err (RequestEnd.Wire WireEnd.TooLarge))) h
      (λ (more : List ℕ) (found_end : Bool) (filled : IsFilled old now more found_end). ap (head_part 0) (sym filled.bytes_are) ∙ e)

  -- no more could be read
  pub lost_there : (c : Option Talk) (f g h : ℕ) (end : RequestEnd) → f ≤ g → g ≤ h → Hears a b (λ (more : List ℕ) (found_end : Bool). IsFilled old now more found_end)
      → head_part 0 now.bytes ≡ unfinished → Hears b c (ReadsOnBy now new g h (Err end)) → Hears a c (FindsHeadBy old new f h (Err end))
  lost_there c f g h end low high first going second =
      hears_on first.more first.found_end a b c (ReadsOnBy now new g h (Err end)) (FindsHeadBy old new f h (Err end)) first.heard second
      (λ (n : List ℕ) (e : Bool) (r : ReadsOnBy now new g h (Err end) n e).
      refuses (λ (done : Unit {0}). IsFilled now new n e × (now.ended ≡ false) × (e ≡ false → 0 < length n))
      (λ (k : ℕ). IsFilled old new (first.more ++ n) (first.found_end || e) × (head_part 0 (old.bytes ++ (first.more ++ n)) ≡ ends k))
      (λ (cause : WireEnd). (cause ≡ WireEnd.Ended) × IsTrue now.ended × (n ≡ []) × (e ≡ false))
      (MissesHead (old.bytes ++ (first.more ++ n)) (old.ended || (first.found_end || e)))
      f g h end low high r (missed old now first.more n first.found_end e first.comes going))

  -- more was read
  pub read_more : (c : Option Talk) (g h : ℕ) → Hears a b (λ (more : List ℕ) (found_end : Bool). IsFilled old now more found_end)
      → Hears b c (ReadsOnBy now new g h (Ok tt)) → Hears a c (λ (more : List ℕ) (found_end : Bool). IsFilled old new more found_end)
  read_more c g h first second =
      hears_on first.more first.found_end a b c (ReadsOnBy now new g h (Ok tt)) (λ (more : List ℕ) (found_end : Bool). IsFilled old new more found_end) first.heard second
      (λ (n : List ℕ) (e : Bool) (r : ReadsOnBy now new g h (Ok tt) n e). filled_on old now new first.more n first.found_end e first.comes r.0)

-- one reading more, where the end wasn't found
abbrev ones : Bool → ℕ
ones v = cond v 0 1

-- what is left to read falls
pub reading_falls : (now new : Stock) (n : List ℕ) (e : Bool) (end : ℕ) → IsFilled now new n e → now.ended ≡ false → (e ≡ false → 0 < length n) → length now.bytes < end
    → (end - length new.bytes) + cond new.ended 0 1 < (end - length now.bytes) + cond now.ended 0 1
reading_falls now new n e end filled going some small =
    let long : length new.bytes ≡ length now.bytes + length n = ap length filled.bytes_are ∙ length-append now.bytes n in
    let before : ◌≡◌ {A = ℕ} (cond now.ended 0 1) 1 = ap (λ (v : Bool). ones v) going in
    let ended : new.ended ≡ e = filled.ended_is ∙ ap (λ (v : Bool). v || e) going in
    by e some (ap (λ (v : Bool). ones v) ended) long before
  where
    by : (v : Bool) → (v ≡ false → 0 < length n) → ◌≡◌ {A = ℕ} (cond new.ended 0 1) (cond v 0 1) → length new.bytes ≡ length now.bytes + length n → ◌≡◌ {A = ℕ} (cond now.ended 0 1) 1
        → (end - length new.bytes) + cond new.ended 0 1 < (end - length now.bytes) + cond now.ended 0 1
    by true rise after long before = omega (arith, after, long, before, small)
    by false rise after long before = let up = rise refl in omega (arith, after, long, before, small, up)

-- what the search answers is what was asked for
pub told_head : (answer : SearchAnswer) (leading : Bool) (bytes : List ℕ) → part_told answer ≡ searched_part leading 65536 101 bytes
    → leading ≡ true → head_part 0 bytes ≡ part_told answer
told_head answer leading bytes exact front =
    sym (exact ∙ ap (λ (l : Bool). searched_part l 65536 101 bytes) front)

pub small_left : (now : List ℕ) → head_part 0 now ≡ unfinished → length now < 65537
small_left now going =
    let w = open_within most_head_bytes (most_header_lines + 1) (blank_lines (whole_lines now)) (filled_lines (drop (blank_lines (whole_lines now)) (whole_lines now))) now going in
    omega (arith, w)

pub ends_small : (n : ℕ) (bytes : List ℕ) → head_part 0 bytes ≡ ends n → (n ≤ most_head_bytes) × (n ≤ length bytes)
ends_small n bytes e =
    let w = ends_within most_head_bytes (most_header_lines + 1) (blank_lines (whole_lines bytes)) (filled_lines (drop (blank_lines (whole_lines bytes)) (whole_lines bytes))) bytes n e in
    (w.small, w.within)
