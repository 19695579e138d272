-- What a sink took of a text, step by step.
use Rattle.std.proofs.Common.{◌≡◌, ◌∙◌, ◌⊎◌, ℕ, ◌+◌, ◌<◌, ◌≤◌, Bool, true, false, List, [], ◌∷◌, ◌++◌, length, get_or, take, drop, Some, None, ap, sym, refl, subst, inl, inr, append_assoc, arith, length-append}
use Rattle.std.specs.Prelude.{Option, flat_map, slice_get}
use Rattle.std.proofs.lemmas.Bool.{cases_lt}
use Rattle.std.proofs.lemmas.List.{append-nil, drop_all, drop_more, take-append-drop, take_at}
use Rattle.engine_types.specs.declared.Declared.{Declared}
use Rattle.engine_types.specs.declared.Slot.{Slot}
use Rattle.log_book.specs.declared.entries.LogEntry.{LogEntry}
use Rattle.log_frames.specs.declared.line.LogLine.{LogLine}
use Rattle.outside_files.specs.Counts.{Rose}
use Rattle.outside_files.specs.Sinks.{GrewBy}
use Rattle.outside_files.specs.Writing.{Wrote}
use Rattle.log_lines.specs.Lines.{entry_text, text_under}
use Rattle.log_lines.specs.Writing.{GrewByPart, TookBut}

-- a count that rose in a step rose since before it
pub rose_on : (f g h : ℕ) → f ≤ g → g ≤ h → Rose g h → Rose f h
rose_on f g h low high (inl less) = inl (omega (arith, low, less))
rose_on f g h low high (inr full) = at (cases_lt f h)
  where
    at : (f < h) ⊎ (h ≤ f) → Rose f h
    at (inl less) = inl less
    at (inr back) = inr (omega (arith, full, high, back))

-- what a sink grew by in two steps
grew_on : (old mid new : Option (List ℕ)) (xs ys : List ℕ) → GrewBy old xs mid → GrewBy mid ys new → GrewBy old (xs ++ ys) new
grew_on None mid new xs ys a b = rw a at b
grew_on (Some s) mid new xs ys a b = (rw a at b) ∙ ap Some (append_assoc s xs ys)

-- a sink that took the first of two texts that are one grew by a prefix of that one
part_of : (p q all : List ℕ) (old new : Option (List ℕ)) → p ++ q ≡ all → GrewBy old p new → GrewByPart all old new
part_of p q all old new is grew =
    let same : take (length p) all ≡ p = rw (← is) (take_at p q (length p) refl) in
    let P : List ℕ → Type 0 = λ t. GrewBy old t new in
    (length p, omega (arith, ap length is, length-append p q), subst P (sym same) grew)

-- more was taken, of what stands first in what was left
pub took_more : (all left text rest kept : List ℕ) (old mid new : Option (List ℕ)) → left ≡ text ++ rest
    → TookBut left all old mid → TookBut kept text mid new → TookBut (kept ++ rest) all old new
took_more all left text rest kept old mid new is a b = (
  a.0 ++ b.0,
  append_assoc a.0 b.0 (kept ++ rest) ∙ ap (λ t. a.0 ++ t) (sym (append_assoc b.0 kept rest) ∙ ap (λ t. t ++ rest) b.1 ∙ sym is) ∙ a.1,
  grew_on old mid new a.0 b.0 a.2 b.2,
)

-- a prefix was taken, of what stands first in what was left
pub took_part : (all left text rest : List ℕ) (old mid new : Option (List ℕ)) → left ≡ text ++ rest
    → TookBut left all old mid → GrewByPart text mid new → GrewByPart all old new
took_part all left text rest old mid new is a b =
    part_of (a.0 ++ take b.0 text) (drop b.0 text ++ rest) all old new
    (append_assoc a.0 (take b.0 text) (drop b.0 text ++ rest)
    ∙ ap (λ t. a.0 ++ t) (sym (append_assoc (take b.0 text) (drop b.0 text) rest) ∙ ap (λ t. t ++ rest) (take-append-drop b.0 text) ∙ sym is)
    ∙ a.1)
    (grew_on old mid new a.0 (take b.0 text) a.2 b.2)

-- what was left was written
pub printed_all : (all left bytes : List ℕ) (old mid new : Option (List ℕ)) (whole : Bool) (f g h : ℕ) → bytes ≡ left → f ≤ g → g ≤ h
    → TookBut left all old mid → Wrote whole bytes mid new g h → Wrote whole all old new f h
printed_all all left bytes old mid new true f g h is low high a b =
    let P : List ℕ → Type 0 = λ t. GrewBy mid t new in
    let Q : List ℕ → Type 0 = λ t. GrewBy old t new in
    subst Q a.1 (grew_on old mid new a.0 left a.2 (subst P is b))
printed_all all left bytes old mid new false f g h is low high a b =
    (rose_on f g h low high b.0, took_part all left bytes [] old mid new (sym is ∙ sym (append-nil bytes)) a b.1)

-- what is held, and the texts from a place on: that of the item there comes next
pub left_here : {X : Type 0} (text_of : X → List ℕ) (xs : List X) (i : ℕ) (x : X) (held : List ℕ) → i < length xs → x ≡ get_or xs i x
    → held ++ flat_map text_of (drop i xs) ≡ (held ++ text_of x) ++ flat_map text_of (drop (i + 1) xs)
left_here text_of xs i x held within is =
    ap (λ ys. held ++ flat_map text_of ys) (drop_more xs i x within ∙ ap (λ y. y ∷ drop (i + 1) xs) (sym is))
    ∙ sym (append_assoc held (text_of x) (flat_map text_of (drop (i + 1) xs)))

-- and at the end nothing but what is held
pub left_last : {X : Type 0} (text_of : X → List ℕ) (xs : List X) (i : ℕ) (held : List ℕ) → length xs ≤ i → held ++ flat_map text_of (drop i xs) ≡ held
left_last text_of xs i held past = ap (λ ys. held ++ flat_map text_of ys) (drop_all i xs past) ∙ append-nil held

-- an entry's text is that of its lines under its slot
pub entry_read : (declared : Declared) (entry : LogEntry) (slot : Option Slot) (lines : List LogLine) → slot ≡ slice_get declared.slots entry.container
    → lines ≡ entry.lines → text_under slot lines ≡ entry_text declared entry
entry_read declared entry slot lines found same =
    ap (λ (s : Option Slot). text_under s lines) found ∙ ap (λ (ls : List LogLine). text_under (slice_get declared.slots entry.container) ls) same
