-- A part is looked for while more of the bytes is read.
use Rattle.std.proofs.Common.{◌≡◌, ℕ, ◌+◌, ◌-◌, ◌<◌, ◌≤◌, ◌||◌, Bool, true, false, cond, List, [], ◌++◌, length, drop, Option, refl, sym, ap, ◌∙◌, subst, arith}
use Rattle.std.proofs.lemmas.List.{append-nil, drop-append-le, length-append, length-drop, take-append-le}
use Rattle.std.specs.Prelude.{Err, IsTrue, Ok}
use Rattle.tree_base.specs.Limits.{most_head_bytes, most_header_lines}
use Rattle.engine_types.specs.declared.WireEnd.{WireEnd}
use Rattle.outside_api.specs.Pipes.{Talk}
use Rattle.response_rules.specs.Lines.{Part, blank_lines, ends, filled_lines, head_part, passed, unfinished, whole_lines}
use Rattle.http_heads.specs.Searches.{HasFollowed, IsFollowed, part_told, searched_part}
use Rattle.http_heads.specs.declared.line_search.LineSearch.{LineSearch}
use Rattle.http_heads.specs.declared.line_search.SearchAnswer.{SearchAnswer}
use Rattle.http_response.specs.Hearing.{Hears}
use Rattle.http_response.specs.Stocks.{FindsEndBy, IsFilled, MissesEnd, ReadsOnBy, left}
use Rattle.http_response.specs.declared.response.ResponseEnd.{ResponseEnd}
use Rattle.http_response.specs.declared.stock.Stock.{Stock}
use Rattle.http_response.proofs.Limits.{ends_within, open_within}
use Rattle.http_response.proofs.Listening.{filled_on, hears_as, hears_on, or_nothing, refuses}

-- a search stands where it was, with more bytes behind
pub followed_more : (search : LineSearch) (bytes more : List ℕ) → HasFollowed search bytes → HasFollowed search (bytes ++ more)
followed_more search bytes more h = record {
  within = let l = length-append bytes more in let w = h.within in omega (arith, l, w);
  few = h.few;
  followed =
      subst (λ (seen : List ℕ). IsFollowed search.leading seen search.filled search.line) (sym (take-append-le search.at bytes more h.within)) h.followed;
}

pub dropped_more : (skipped : ℕ) (old new more : List ℕ) → skipped ≤ length old → new ≡ old ++ more → drop skipped new ≡ drop skipped old ++ more
dropped_more skipped old new more within e = ap (λ (l : List ℕ). drop skipped l) e ∙ drop-append-le skipped old more within

missed : (part : List ℕ → Part) (old now : Stock) (m n : List ℕ) (d e : Bool) → IsFilled old now m d → part (left now) ≡ unfinished
    → (cause : WireEnd) → (cause ≡ WireEnd.Ended) × IsTrue now.ended × (n ≡ []) × (e ≡ false) → MissesEnd (part (left old ++ (m ++ n))) (old.ended || (d || e)) cause
missed part old now m n d e filled going cause (is, ended, none, plain) =
    let bytes : left old ++ (m ++ n) ≡ left now =
    ap (λ (l : List ℕ). left old ++ (m ++ l)) none ∙ ap (λ (l : List ℕ). left old ++ l) (append-nil m) ∙ sym filled.left_is in
    let over : (old.ended || (d || e)) ≡ true =
    ap (λ (v : Bool). old.ended || (d || v)) plain ∙ ap (λ (v : Bool). old.ended || v) (sym (or_nothing d)) ∙ sym filled.ended_is ∙ ended in
    subst (MissesEnd (part (left old ++ (m ++ n))) (old.ended || (d || e))) (sym is) (ap part bytes ∙ going, over)

module _ (part : List ℕ → Part) (old now new : Stock) (a b : Option Talk) where
  -- the part is found in what was read
  pub found_here : (f g n : ℕ) → Hears a b (λ (more : List ℕ) (found_end : Bool). IsFilled old now more found_end) → part (left now) ≡ ends n
      → Hears a b (FindsEndBy part old now f g (Ok n))
  found_here f g n h e =
      hears_as a b (λ (more : List ℕ) (found_end : Bool). IsFilled old now more found_end) (FindsEndBy part old now f g (Ok n)) h
      (λ (more : List ℕ) (found_end : Bool) (filled : IsFilled old now more found_end). (filled, ap part (sym filled.left_is) ∙ e))

  -- it passed a limit in what was read
  pub passed_here : (f g : ℕ) → Hears a b (λ (more : List ℕ) (found_end : Bool). IsFilled old now more found_end) → part (left now) ≡ passed
      → Hears a b (FindsEndBy part old now f g (Err (ResponseEnd.Wire WireEnd.TooLarge)))
  passed_here f g h e =
      hears_as a b (λ (more : List ℕ) (found_end : Bool). IsFilled old now more found_end) (FindsEndBy part old now f g (Err (ResponseEnd.Wire WireEnd.TooLarge))) h
      (λ (more : List ℕ) (found_end : Bool) (filled : IsFilled old now more found_end). ap part (sym filled.left_is) ∙ e)

  -- no more could be read
  pub lost_there : (c : Option Talk) (f g h : ℕ) (end : ResponseEnd) → f ≤ g → g ≤ h → Hears a b (λ (more : List ℕ) (found_end : Bool). IsFilled old now more found_end)
      → part (left now) ≡ unfinished → Hears b c (ReadsOnBy now new g h (Err end)) → Hears a c (FindsEndBy part old new f h (Err end))
  lost_there c f g h end low high first going second =
      hears_on first.more first.found_end a b c (ReadsOnBy now new g h (Err end)) (FindsEndBy part old new f h (Err end)) first.heard second
      (λ (n : List ℕ) (e : Bool) (r : ReadsOnBy now new g h (Err end) n e).
      refuses (λ (done : Unit {0}). IsFilled now new n e × (now.ended ≡ false) × (e ≡ false → 0 < length n))
      (λ (k : ℕ). IsFilled old new (first.more ++ n) (first.found_end || e) × (part (left old ++ (first.more ++ n)) ≡ ends k))
      (λ (cause : WireEnd). (cause ≡ WireEnd.Ended) × IsTrue now.ended × (n ≡ []) × (e ≡ false))
      (MissesEnd (part (left old ++ (first.more ++ n))) (old.ended || (first.found_end || e)))
      f g h end low high r (missed part old now first.more n first.found_end e first.comes going))

  -- more was read
  pub read_more : (c : Option Talk) (g h : ℕ) → Hears a b (λ (more : List ℕ) (found_end : Bool). IsFilled old now more found_end)
      → Hears b c (ReadsOnBy now new g h (Ok tt)) → Hears a c (λ (more : List ℕ) (found_end : Bool). IsFilled old new more found_end)
  read_more c g h first second =
      hears_on first.more first.found_end a b c (ReadsOnBy now new g h (Ok tt)) (λ (more : List ℕ) (found_end : Bool). IsFilled old new more found_end) first.heard second
      (λ (n : List ℕ) (e : Bool) (r : ReadsOnBy now new g h (Ok tt) n e). filled_on old now new first.more n first.found_end e first.comes r.0)

-- one reading more, where the end wasn't found
abbrev ones : Bool → ℕ
ones v = cond v 0 1

-- what is left to read falls
pub reading_falls : (now new : Stock) (n : List ℕ) (e : Bool) (most : ℕ) → IsFilled now new n e → now.ended ≡ false → (e ≡ false → 0 < length n) → length (left now) ≤ most
    → ((most + 1) - length (left new)) + cond new.ended 0 1 < ((most + 1) - length (left now)) + cond now.ended 0 1
reading_falls now new n e most filled going some small =
    let long : length (left new) ≡ length (left now) + length n = ap length filled.left_is ∙ length-append (left now) n in
    let before : ◌≡◌ {A = ℕ} (cond now.ended 0 1) 1 = ap (λ (v : Bool). ones v) going in
    let ended : new.ended ≡ e = filled.ended_is ∙ ap (λ (v : Bool). v || e) going in
    by e some (ap (λ (v : Bool). ones v) ended) long before
  where
    by : (v : Bool) → (v ≡ false → 0 < length n) → ◌≡◌ {A = ℕ} (cond new.ended 0 1) (cond v 0 1) → length (left new) ≡ length (left now) + length n → ◌≡◌ {A = ℕ} (cond now.ended 0 1) 1
        → ((most + 1) - length (left new)) + cond new.ended 0 1 < ((most + 1) - length (left now)) + cond now.ended 0 1
    by true rise after long before = omega (arith, after, long, before, small)
    by false rise after long before = let up = rise refl in omega (arith, after, long, before, small, up)

-- ---- heads

-- what the search answers is what was asked for
pub told_head : (answer : SearchAnswer) (leading : Bool) (skipped : ℕ) (bytes now : List ℕ) → part_told answer ≡ searched_part leading (65536 - skipped) 101 bytes
    → leading ≡ true → bytes ≡ drop skipped now → head_part skipped (drop skipped now) ≡ part_told answer
told_head answer leading skipped bytes now exact front is =
    sym (
    exact ∙ ap (λ (l : Bool). searched_part l (65536 - skipped) 101 bytes) front
    ∙ ap (λ (b : List ℕ). searched_part true (65536 - skipped) 101 b) is)

pub small_left : (skipped : ℕ) (now : List ℕ) → skipped ≤ length now → skipped ≤ 65536 → head_part skipped (drop skipped now) ≡ unfinished → length now ≤ 65536
small_left skipped now within small going =
    let w = open_within (most_head_bytes - skipped) (most_header_lines + 1) (blank_lines (whole_lines (drop skipped now)))
    (filled_lines (drop (blank_lines (whole_lines (drop skipped now))) (whole_lines (drop skipped now)))) (drop skipped now) going in
    let l = length-drop skipped now in
    omega (arith, w, l)

pub end_within : (skipped n : ℕ) (bytes : List ℕ) → head_part skipped bytes ≡ ends n → n ≤ length bytes
end_within skipped n bytes e =
    (ends_within (most_head_bytes - skipped) (most_header_lines + 1) (blank_lines (whole_lines bytes)) (filled_lines (drop (blank_lines (whole_lines bytes)) (whole_lines bytes))) bytes n e).within

-- the search goes on in more
pub followed_on : (search : LineSearch) (skipped : ℕ) (now new : Stock) (bytes n : List ℕ) (e : Bool) → skipped ≤ length (left now) → bytes ≡ drop skipped (left now)
    → IsFilled now new n e → HasFollowed search bytes → HasFollowed search (drop skipped (left new))
followed_on search skipped now new bytes n e within is filled h =
    subst (HasFollowed search) (sym (dropped_more skipped (left now) (left new) n within filled.left_is))
    (followed_more search (drop skipped (left now)) n (subst (HasFollowed search) is h))

pub longer : (now new : Stock) (n : List ℕ) (e : Bool) → IsFilled now new n e → length (left now) ≤ length (left new)
longer now new n e filled =
    let l : length (left new) ≡ length (left now) + length n = ap length filled.left_is ∙ length-append (left now) n in
    omega (arith, l)
