-- What is followed tells the part that bytes begin with.
use Rattle.std.proofs.Common.{◌≡◌, ℕ, ◌+◌, ◌-◌, ◌<◌, ◌≤◌, Bool, true, false, not, cond, ◌&&◌, ◌==◌, nat_lt, nat_le, if◌then◌else◌, List, [], ◌∷◌, ◌++◌, length, take, drop, refl, sym, ap, ◌∙◌, arith, append_assoc, true≢false}
use Rattle.std.proofs.Math.Seq.{drop-append_seam, take-append_seam}
use Rattle.std.proofs.lemmas.Bool.{and_parts, le-leb, le-ltb, lt-leb, lt-ltb}
use Rattle.std.proofs.lemmas.List.{append-nil, length-append, length-take-le, take-append-drop, take_all}
use Rattle.std.specs.List.{list_all, prefix_len}
use Rattle.httparse.specs.Ascii.{line_feed}
use Rattle.response_rules.specs.Lines.{Part, ends, passed, unfinished, blank_lines, filled_lines, first_lines, is_empty_line, lines, part_of, whole_lines, with_byte}
use Rattle.response_laws.proofs.Cutting.{AreTexts, one_more, sent-append, whole_sent}
use Rattle.http_heads.specs.declared.line_search.LineStart.{LineStart}
use Rattle.http_heads.specs.Searches.{AreLines, IsAt, IsEnded, IsFollowed, IsLine, searched_part, sent}
use Rattle.http_heads.proofs.Following.{lines-append}

texts_of : (ls : List (List ℕ)) → AreLines ls → AreTexts ls
texts_of [] h = tt
texts_of (l ∷ ls) h = (h.0, texts_of ls h.1)

-- how many lines in front pass a test
prefix_stop : (p : List ℕ → Bool) (xs : List (List ℕ)) (y : List ℕ) (more : List (List ℕ)) → list_all p xs ≡ true → p y ≡ false
    → prefix_len p (xs ++ y ∷ more) ≡ length xs
prefix_stop p [] y more h n = ap (λ (v : Bool). cond v (1 + prefix_len p more) 0) n
prefix_stop p (x ∷ xs) y more h n =
    let each = and_parts (p x) (list_all p xs) h in
    ap (λ (v : Bool). cond v (1 + prefix_len p (xs ++ y ∷ more)) 0) each.0 ∙ ap (λ (k : ℕ). 1 + k) (prefix_stop p xs y more each.1 n) ∙ one_more (length xs)

prefix_whole : (p : List ℕ → Bool) (xs : List (List ℕ)) → list_all p xs ≡ true → prefix_len p xs ≡ length xs
prefix_whole p [] h = refl
prefix_whole p (x ∷ xs) h =
    let each = and_parts (p x) (list_all p xs) h in
    ap (λ (v : Bool). cond v (1 + prefix_len p xs) 0) each.0 ∙ ap (λ (k : ℕ). 1 + k) (prefix_whole p xs each.1) ∙ one_more (length xs)

abbrev full : List ℕ → Bool
full l = not (is_empty_line l)

not_empty : (l : List ℕ) → full l ≡ true → is_empty_line l ≡ false
not_empty l h = at (is_empty_line l) h
  where
    at : (v : Bool) → not v ≡ true → v ≡ false
    at true n = absurd (true≢false (sym n))
    at false n = refl

-- empty lines in front of a line that isn't
blank_front : (blank ls : List (List ℕ)) (more : List (List ℕ)) → list_all is_empty_line blank ≡ true → list_all full ls ≡ true → 0 < length ls
    → blank_lines (blank ++ (ls ++ more)) ≡ length blank
blank_front blank [] more all fs some = absurd (omega (arith, some))
blank_front blank (x ∷ ls) more all fs some =
    let each = and_parts (full x) (list_all full ls) fs in
    prefix_stop is_empty_line blank x (ls ++ more) all (not_empty x each.0)

-- the part, where the empty line is there
abbrev found_part : ℕ → ℕ → ℕ → ℕ → ℕ → Part
found_part room most filled at count =
    if nat_lt most filled then passed else if nat_le at room then ends at else if nat_lt room count then passed else unfinished

-- the part, where it isn't
abbrev open_part : ℕ → ℕ → ℕ → ℕ → Part
open_part room most filled count = if nat_lt most filled then passed else if nat_lt room count then passed else unfinished

decided : (few there : Bool) (room : ℕ) (found seen : List ℕ) (other : Part) → there ≡ true → found ≡ seen
    → (if few then passed else if there && nat_le (length found) room then ends (length found) else other)
    ≡ (if few then passed else if nat_le (length seen) room then ends (length seen) else other)
decided few there room found seen other t e =
    ap (λ (v : Bool). if few then passed else if v && nat_le (length found) room then ends (length found) else other) t
    ∙ ap (λ (s : List ℕ). if few then passed else if nat_le (length s) room then ends (length s) else other) e

undecided : (few there : Bool) (room : ℕ) (found : List ℕ) (other : Part) → there ≡ false
    → (if few then passed else if there && nat_le (length found) room then ends (length found) else other)
    ≡ (if few then passed else other)
undecided few there room found other t =
    ap (λ (v : Bool). if few then passed else if v && nat_le (length found) room then ends (length found) else other) t

module _ (leading : Bool) (seen : List ℕ) (filled : ℕ) (f : IsEnded leading seen filled) (rest : List ℕ) where
  abbrev all : List (List ℕ)
  all = f.blank ++ (f.lines ++ f.line ∷ [])

  abbrev more : List (List ℕ)
  more = whole_lines rest

  abbrev bytes : List ℕ
  bytes = seen ++ rest

  all_lines : AreTexts all
  all_lines = texts_of all (lines-append f.blank (f.lines ++ f.line ∷ []) f.blank_lines (lines-append f.lines (f.line ∷ []) f.are_lines (f.is_line, tt)))

  all_sent : sent all ≡ seen
  all_sent =
      sent-append f.blank (f.lines ++ f.line ∷ [])
      ∙ ap (λ (t : List ℕ). sent f.blank ++ t) (sent-append f.lines (f.line ∷ []) ∙ ap (λ (t : List ℕ). sent f.lines ++ t) (append-nil (f.line ++ line_feed ∷ [])))
      ∙ sym f.reads

  whole : whole_lines bytes ≡ all ++ more
  whole = ap (λ (t : List ℕ). whole_lines (t ++ rest)) (sym all_sent) ∙ whole_sent all rest all_lines

  cut : whole_lines bytes ≡ f.blank ++ (f.lines ++ f.line ∷ more)
  cut = whole ∙ append_assoc f.blank (f.lines ++ f.line ∷ []) more ∙ ap (λ (t : List (List ℕ)). f.blank ++ t) (append_assoc f.lines (f.line ∷ []) more)

  all_count : length all ≡ length f.blank + length f.lines + 1
  all_count =
      let a = length-append f.blank (f.lines ++ f.line ∷ []) in
      let b = length-append f.lines (f.line ∷ []) in
      omega (arith, a, b)

  lines_count : filled_lines (f.lines ++ f.line ∷ more) ≡ length f.lines
  lines_count = prefix_stop full f.lines f.line more f.all_filled (ap not f.is_empty)

  first : first_lines (length f.blank + length f.lines + 1) (whole_lines bytes) ≡ seen
  first =
      ap (first_lines (length f.blank + length f.lines + 1)) whole
      ∙ ap (λ (n : ℕ). first_lines n (all ++ more)) (sym all_count)
      ∙ ap sent (take-append_seam all more) ∙ all_sent

  there : nat_lt (length f.blank + length f.lines) (length (whole_lines bytes)) ≡ true
  there = lt-ltb (length f.blank + length f.lines) (length (whole_lines bytes))
      (let l = ap length whole in let m = length-append all more in let n = all_count in omega (arith, l, m, n))

  part_found : (room most b n : ℕ) → b ≡ length f.blank → n ≡ length f.lines
      → part_of room most b n bytes ≡ found_part room most filled (length seen) (length bytes)
  part_found room most b n e k =
      ap (λ (x : ℕ). part_of room most x n bytes) e ∙ ap (λ (x : ℕ). part_of room most (length f.blank) x bytes) k
      ∙ decided (nat_lt most (length f.lines)) (nat_lt (length f.blank + length f.lines) (length (whole_lines bytes))) room
      (first_lines (length f.blank + length f.lines + 1) (whole_lines bytes)) seen (if nat_lt room (length bytes) then passed else unfinished) there first
      ∙ ap (λ (x : ℕ). found_part room most x (length seen) (length bytes)) (sym f.count)

  behind_blank : (b : ℕ) → b ≡ length f.blank → filled_lines (drop b (whole_lines bytes)) ≡ length f.lines
  behind_blank b e =
      ap (λ (x : ℕ). filled_lines (drop x (whole_lines bytes))) e ∙ ap (λ (ls : List (List ℕ)). filled_lines (drop (length f.blank) ls)) cut
      ∙ ap filled_lines (drop-append_seam f.blank (f.lines ++ f.line ∷ more)) ∙ lines_count

  no_front : leading ≡ false → filled_lines (whole_lines bytes) ≡ length f.lines
  no_front e = ap filled_lines cut ∙ ap (λ (ls : List (List ℕ)). filled_lines (ls ++ (f.lines ++ f.line ∷ more))) (f.front e) ∙ lines_count

  blank_count : leading ≡ true → blank_lines (whole_lines bytes) ≡ length f.blank
  blank_count e = ap blank_lines cut ∙ blank_front f.blank f.lines (f.line ∷ more) f.all_blank f.all_filled (f.some e)

found : (leading : Bool) (seen : List ℕ) (filled : ℕ) → IsEnded leading seen filled → (rest : List ℕ) (room most : ℕ)
    → searched_part leading room most (seen ++ rest) ≡ found_part room most filled (length seen) (length (seen ++ rest))
found true seen filled f rest room most =
    let b = blank_count true seen filled f rest refl in
    part_found true seen filled f rest room most (blank_lines (whole_lines (seen ++ rest)))
    (filled_lines (drop (blank_lines (whole_lines (seen ++ rest))) (whole_lines (seen ++ rest))))
    b (behind_blank true seen filled f rest (blank_lines (whole_lines (seen ++ rest))) b)
found false seen filled f rest room most =
    part_found false seen filled f rest room most 0 (filled_lines (whole_lines (seen ++ rest)))
    (ap length (sym (f.front refl))) (no_front false seen filled f rest refl)

-- a text without line feed is one line that goes on

one_line : (t : List ℕ) → IsLine t → lines t ≡ t ∷ []
one_line [] h = refl
one_line (b ∷ t) h =
    let p = and_parts (not (b == line_feed)) (list_all (λ x. not (x == line_feed)) t) h in
    at (b == line_feed) p.0 (one_line t p.1)
  where
    at : (v : Bool) → not v ≡ true → lines t ≡ t ∷ [] → (if v then [] ∷ lines t else with_byte b (lines t)) ≡ (b ∷ t) ∷ []
    at true n e = absurd (true≢false (sym n))
    at false n e = ap (with_byte b) e

no_whole : (t : List ℕ) → IsLine t → whole_lines t ≡ []
no_whole t h = ap (λ (ls : List (List ℕ)). take (length ls - 1) ls) (one_line t h)

module _ (leading : Bool) (seen : List ℕ) (filled : ℕ) (start : LineStart) (f : IsFollowed leading seen filled start) where
  abbrev found_lines : List (List ℕ)
  found_lines = f.blank ++ f.lines

  open_sent : seen ≡ sent found_lines ++ f.line
  open_sent = f.reads ∙ sym (append_assoc (sent f.blank) (sent f.lines) f.line) ∙ ap (λ (t : List ℕ). t ++ f.line) (sym (sent-append f.blank f.lines))

  open_whole : whole_lines seen ≡ found_lines
  open_whole =
      ap whole_lines open_sent
      ∙ whole_sent found_lines f.line (texts_of found_lines (lines-append f.blank f.lines f.blank_lines f.are_lines))
      ∙ ap (λ (t : List (List ℕ)). found_lines ++ t) (no_whole f.line f.is_line) ∙ append-nil found_lines

  open_lines_count : filled_lines f.lines ≡ length f.lines
  open_lines_count = prefix_whole full f.lines f.all_filled

  not_there : nat_lt (length f.blank + length f.lines) (length (whole_lines seen)) ≡ false
  not_there = le-ltb (length f.blank + length f.lines) (length (whole_lines seen))
      (let l = ap length open_whole in let m = length-append f.blank f.lines in omega (arith, l, m))

  part_open : (room most b n : ℕ) → b ≡ length f.blank → n ≡ length f.lines
      → part_of room most b n seen ≡ open_part room most filled (length seen)
  part_open room most b n e k =
      ap (λ (x : ℕ). part_of room most x n seen) e ∙ ap (λ (x : ℕ). part_of room most (length f.blank) x seen) k
      ∙ undecided (nat_lt most (length f.lines)) (nat_lt (length f.blank + length f.lines) (length (whole_lines seen))) room
      (first_lines (length f.blank + length f.lines + 1) (whole_lines seen)) (if nat_lt room (length seen) then passed else unfinished) not_there
      ∙ ap (λ (x : ℕ). open_part room most x (length seen)) (sym f.count)

  open_blank_count : blank_lines (whole_lines seen) ≡ length f.blank
  open_blank_count = ap blank_lines open_whole ∙ at f.lines f.all_filled
    where
      at : (ls : List (List ℕ)) → list_all full ls ≡ true → blank_lines (f.blank ++ ls) ≡ length f.blank
      at [] fs = ap blank_lines (append-nil f.blank) ∙ prefix_whole is_empty_line f.blank f.all_blank
      at (x ∷ ls) fs =
          let each = and_parts (full x) (list_all full ls) fs in
          prefix_stop is_empty_line f.blank x ls f.all_blank (not_empty x each.0)

  open_behind_blank : (b : ℕ) → b ≡ length f.blank → filled_lines (drop b (whole_lines seen)) ≡ length f.lines
  open_behind_blank b e =
      ap (λ (x : ℕ). filled_lines (drop x (whole_lines seen))) e ∙ ap (λ (ls : List (List ℕ)). filled_lines (drop (length f.blank) ls)) open_whole
      ∙ ap filled_lines (drop-append_seam f.blank f.lines) ∙ open_lines_count

  open_no_front : leading ≡ false → filled_lines (whole_lines seen) ≡ length f.lines
  open_no_front e = ap filled_lines open_whole ∙ ap (λ (ls : List (List ℕ)). filled_lines (ls ++ f.lines)) (f.front e) ∙ open_lines_count

unfound : (leading : Bool) (seen : List ℕ) (filled : ℕ) (start : LineStart) → IsFollowed leading seen filled start → (room most : ℕ)
    → searched_part leading room most seen ≡ open_part room most filled (length seen)
unfound true seen filled start f room most =
    let b = open_blank_count true seen filled start f in
    part_open true seen filled start f room most (blank_lines (whole_lines seen))
    (filled_lines (drop (blank_lines (whole_lines seen)) (whole_lines seen)))
    b (open_behind_blank true seen filled start f (blank_lines (whole_lines seen)) b)
unfound false seen filled start f room most =
    part_open false seen filled start f room most 0 (filled_lines (whole_lines seen))
    (ap length (sym (f.front refl))) (open_no_front false seen filled start f refl)

-- the part by what a search found, and where it stands
abbrev pub told_part : Bool → ℕ → ℕ → ℕ → ℕ → ℕ → Part
told_part true room most filled at count = found_part room most filled at count
told_part false room most filled at count = open_part room most filled count

pub part_at : (found_it leading : Bool) (bytes : List ℕ) (at filled : ℕ) (start : LineStart) (room most : ℕ) → at ≤ length bytes
    → (found_it ≡ false → at ≡ length bytes) → IsAt found_it leading (take at bytes) filled start
    → searched_part leading room most bytes ≡ told_part found_it room most filled at (length bytes)
part_at true leading bytes at filled start room most within all f =
    let joined : take at bytes ++ drop at bytes ≡ bytes = take-append-drop at bytes in
    ap (searched_part leading room most) (sym joined)
    ∙ found leading (take at bytes) filled f (drop at bytes) room most
    ∙ ap (λ (n : ℕ). found_part room most filled n (length (take at bytes ++ drop at bytes))) (length-take-le at bytes within)
    ∙ ap (λ (t : List ℕ). found_part room most filled at (length t)) joined
part_at false leading bytes at filled start room most within all f =
    let every : length bytes ≤ at = (let e = all refl in omega (arith, e)) in
    let whole_of : take at bytes ≡ bytes = take_all at bytes every in
    ap (searched_part leading room most) (sym whole_of)
    ∙ unfound leading (take at bytes) filled start f room most
    ∙ ap (λ (t : List ℕ). open_part room most filled (length t)) whole_of

-- the part by the tests of its limits

pub told_past : (found_it : Bool) (room most filled at count : ℕ) → most < filled → told_part found_it room most filled at count ≡ passed
told_past true room most filled at count past =
    ap (λ (v : Bool). if v then passed else if nat_le at room then ends at else if nat_lt room count then passed else unfinished) (lt-ltb most filled past)
told_past false room most filled at count past =
    ap (λ (v : Bool). if v then passed else if nat_lt room count then passed else unfinished) (lt-ltb most filled past)

pub told_end : (room most filled at count : ℕ) → filled ≤ most → at ≤ room → told_part true room most filled at count ≡ ends at
told_end room most filled at count few within =
    ap (λ (v : Bool). if v then passed else if nat_le at room then ends at else if nat_lt room count then passed else unfinished) (le-ltb most filled few)
    ∙ ap (λ (v : Bool). if v then ends at else if nat_lt room count then passed else unfinished) (le-leb at room within)

told_else : (found_it : Bool) (room most filled at count : ℕ) → filled ≤ most → (found_it ≡ true → room < at)
    → told_part found_it room most filled at count ≡ (if nat_lt room count then passed else unfinished)
told_else true room most filled at count few past =
    ap (λ (v : Bool). if v then passed else if nat_le at room then ends at else if nat_lt room count then passed else unfinished) (le-ltb most filled few)
    ∙ ap (λ (v : Bool). if v then ends at else if nat_lt room count then passed else unfinished) (lt-leb at room (past refl))
told_else false room most filled at count few past =
    ap (λ (v : Bool). if v then passed else if nat_lt room count then passed else unfinished) (le-ltb most filled few)

pub told_over : (found_it : Bool) (room most filled at count : ℕ) → filled ≤ most → (found_it ≡ true → room < at) → room < count
    → told_part found_it room most filled at count ≡ passed
told_over found_it room most filled at count few past over =
    told_else found_it room most filled at count few past ∙ ap (λ (v : Bool). if v then passed else unfinished) (lt-ltb room count over)

pub told_open : (found_it : Bool) (room most filled at count : ℕ) → filled ≤ most → (found_it ≡ true → room < at) → count ≤ room
    → told_part found_it room most filled at count ≡ unfinished
told_open found_it room most filled at count few past within =
    told_else found_it room most filled at count few past ∙ ap (λ (v : Bool). if v then passed else unfinished) (le-ltb room count within)
