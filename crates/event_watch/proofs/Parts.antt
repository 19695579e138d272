-- Lines behind bytes that end none.
use Rattle.std.proofs.Common.{◌≡◌, ◌∙◌, ◌++◌, ◌==◌, ◌+◌, ◌<◌, ◌≤◌, append_assoc, sym, ℕ, Bool, List, [], ◌∷◌, true, false, cond, length, Option, Some, None, refl, ap, arith}
use Rattle.std.proofs.lemmas.Bool.{le-ltb, lt-ltb}
use Rattle.std.proofs.lemmas.List.{append-nil, length-append}
use Rattle.event_watch.specs.declared.event.LineFault.{LineFault}
use Rattle.event_watch.specs.Events.{Told, ended_by, line_before, line_told, only, told_by}
use Rattle.tree_base.specs.Limits.{most_event_bytes}
use Rattle.event_watch.specs.Reading.{IsPart, goes_on, onto_line}
use Rattle.response_rules.specs.Lines.{lines, with_byte}

-- no byte is a part of a line
pub part_nil : IsPart []
part_nil [] = refl
part_nil (b ∷ bytes) = by (b == 10)
  where
    onto : (ls : List (List ℕ)) → with_byte b ls ≡ onto_line [] (with_byte b ls)
    onto [] = refl
    onto (l ∷ ls) = refl

    by : (is : Bool) → cond is ([] ∷ lines bytes) (with_byte b (lines bytes)) ≡ onto_line [] (cond is ([] ∷ lines bytes) (with_byte b (lines bytes)))
    by true = refl
    by false = onto (lines bytes)

onto_longer : (bytes : List ℕ) (b : ℕ) (ls : List (List ℕ)) → onto_line bytes (with_byte b ls) ≡ onto_line (bytes ++ b ∷ []) ls
onto_longer bytes b [] = refl
onto_longer bytes b (l ∷ ls) = ap (λ first. first ∷ ls) (sym (append_assoc bytes (b ∷ []) l))

-- a part of a line with a byte that ends no line is one
pub part_longer : (bytes : List ℕ) (b : ℕ) → (b == 10) ≡ false → IsPart bytes → IsPart (bytes ++ b ∷ [])
part_longer bytes b e part more =
    let here : lines (b ∷ more) ≡ with_byte b (lines more) = ap (λ is. cond is ([] ∷ lines more) (with_byte b (lines more))) e in
    ap lines (append_assoc bytes (b ∷ []) more) ∙ part (b ∷ more) ∙ ap (onto_line bytes) here ∙ onto_longer bytes b (lines more)

-- a part of a line with a line end behind it is a whole line
pub part_ended : (bytes more : List ℕ) → IsPart bytes → lines (bytes ++ 10 ∷ more) ≡ bytes ∷ lines more
part_ended bytes more part = part (10 ∷ more) ∙ ap (λ first. first ∷ lines more) (append-nil bytes)

-- a line with lines behind it has its line end
pub ended_lines : (at : ℕ) (line more : List ℕ) (later : Told) → ended_by at line (lines more) later ≡ line_before at (line_told line) later
ended_lines at line [] later = refl
ended_lines at line (b ∷ bytes) later = by (b == 10) (lines bytes)
  where
    some : (ls : List (List ℕ)) → ended_by at line (with_byte b ls) later ≡ line_before at (line_told line) later
    some [] = refl
    some (l ∷ ls) = refl

    by : (is : Bool) (ls : List (List ℕ)) → ended_by at line (cond is ([] ∷ ls) (with_byte b ls)) later ≡ line_before at (line_told line) later
    by true ls = refl
    by false ls = some ls

-- a line that is too long is bad
pub first_long : (at : ℕ) (line : List ℕ) (ls : List (List ℕ)) → most_event_bytes < length line → told_by at (line ∷ ls) ≡ only (Some (LineFault.TooLong at))
first_long at line ls long =
    ap (λ is. cond is (only (Some (LineFault.TooLong at))) (ended_by at line ls (told_by (at + length line + 1) ls))) (lt-ltb most_event_bytes (length line) long)

pub first_short : (at : ℕ) (line : List ℕ) (ls : List (List ℕ)) → length line ≤ most_event_bytes → told_by at (line ∷ ls) ≡ ended_by at line ls (told_by (at + length line + 1) ls)
first_short at line ls short =
    ap (λ is. cond is (only (Some (LineFault.TooLong at))) (ended_by at line ls (told_by (at + length line + 1) ls))) (le-ltb most_event_bytes (length line) short)

onto_long : (at : ℕ) (bytes : List ℕ) (ls : List (List ℕ)) → most_event_bytes < length bytes → told_by at (onto_line bytes ls) ≡ only (Some (LineFault.TooLong at))
onto_long at bytes [] long = first_long at bytes [] long
onto_long at bytes (l ∷ ls) long = first_long at (bytes ++ l) ls (let e = length-append bytes l in omega (arith, e, long))

pub part_long : (at : ℕ) (bytes more : List ℕ) → IsPart bytes → most_event_bytes < length bytes → told_by at (lines (bytes ++ more)) ≡ only (Some (LineFault.TooLong at))
part_long at bytes more part long = ap (told_by at) (part more) ∙ onto_long at bytes (lines more) long

-- an open line with nothing behind it tells nothing yet
pub part_alone : (fault : Option LineFault) (at : ℕ) (bytes : List ℕ) → IsPart bytes → (fault ≡ None → length bytes ≤ most_event_bytes) → goes_on fault at bytes [] ≡ only fault
part_alone (Some fault) at bytes part short = refl
part_alone None at bytes part short =
    ap (told_by at) (part [] ∙ ap (λ first. first ∷ []) (append-nil bytes)) ∙ first_short at bytes [] (short refl)

-- a line that ends tells its events, with what the lines behind it tell
pub part_told : (at : ℕ) (bytes more : List ℕ) → IsPart bytes → length bytes ≤ most_event_bytes
    → told_by at (lines (bytes ++ 10 ∷ more)) ≡ line_before at (line_told bytes) (told_by (at + length bytes + 1) (lines more))
part_told at bytes more part short =
    ap (told_by at) (part_ended bytes more part)
    ∙ first_short at bytes (lines more) short
    ∙ ended_lines at bytes more (told_by (at + length bytes + 1) (lines more))
