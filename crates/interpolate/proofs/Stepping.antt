-- A text that may stand in a form, behind its first part.
use Rattle.std.proofs.Common.{◌≡◌, ◌≢◌, ◌∙◌, ℕ, ◌+◌, ◌-◌, ◌<◌, ◌≤◌, Bool, true, false, List, [], ◌∷◌, length, length-drop, take, drop, unwrap_or, Result, Ok, Err, IsOk, refl, sym, ap, subst, arith}
use Rattle.std.specs.Str.{IsCharBoundary}
use Rattle.std.proofs.lemmas.List.{drop-take, length-take-le, take-take}
use Rattle.tree_base.specs.Answers.{◌>>=◌}
use Rattle.interpolate.specs.declared.part.Action.{Action}
use Rattle.interpolate.specs.declared.refusal.SubstRefusal.{SubstRefusal}
use Rattle.interpolate.specs.Lengths.{inside_len}
use Rattle.interpolate.specs.Shapes.{Part, Literal, Dollar, Name, Value, Form, Unclosed, Wrong, first_part, part_len, tail_start}
use Rattle.interpolate.specs.Heads.{inner, own, IsClosed, ends}
use Rattle.interpolate.specs.Parts.{Parts, End, Reader, with_part, cut, tails, parts, well_formed, first_len}
use Rattle.interpolate.specs.Substitution.{Variables, counted, form_value, part_value, text_value, first_value}
use Rattle.interpolate.proofs.Cutting.{checked, part_fine}
use Rattle.interpolate.proofs.Fitting.{inside_within}
use Rattle.interpolate.proofs.Nesting.{Adds, inner_none, inner_behind}
use Rattle.interpolate.proofs.Inside.{IsRead, goes_on, tail_is, own_nothing, some_inside, start_is}

pub inner_length : (text : List ℕ) → length (inner text) ≡ inside_len 0 false text
inner_length text = length-take-le (inside_len 0 false text) text (inside_within 0 false text)

-- where nothing is left
pub ended : (inside : Bool) (text : List ℕ) → ends inside text ≡ true → own inside text ≡ []
ended inside [] e = own_nothing inside
ended true (c ∷ cs) e = inner_none c cs e
ended false (c ∷ cs) e = absurd cc

not_empty : (text : List ℕ) → 0 < length text → text ≢ []
not_empty [] h = absurd (omega arith)
not_empty (c ∷ cs) h = λ w. cc

pub not_ended : (inside : Bool) (text : List ℕ) → ends inside text ≡ false → own inside text ≢ []
not_ended inside [] e = absurd cc
not_ended true (c ∷ cs) e = not_empty (inner (c ∷ cs)) (omega (arith, inner_length (c ∷ cs), some_inside c cs e))
not_ended false (c ∷ cs) e = λ w. cc

-- so many bytes in front are the first part
pub record IsStep (inside : Bool) (text : List ℕ) (n : ℕ) : Type 0 where
  pub closed : IsClosed inside (drop n text)
  pub same : own inside (drop n text) ≡ drop n (own inside text)
  pub within : n ≤ length (own inside text)
  pub size : length (own inside text) ≡ n + length (own inside (drop n text))

inner_step : (text : List ℕ) (n : ℕ) → inside_len 0 false text < length text → Adds text n → IsStep true text n
inner_step text n h adds = record {
  closed = omega (arith, length-drop n text);
  same = sym (inner_behind text n adds);
  within = omega (arith, inner_length text);
  size = omega (arith, inner_length text, inner_length (drop n text));
}

plain_step : (text : List ℕ) (n : ℕ) → n ≤ length text → IsStep false text n
plain_step text n h = record { closed = tt; same = refl; within = h; size = omega (arith, length-drop n text) }

module _ (read : Reader) (at : ℕ) (own_text text : List ℕ) where
  fine_adds : (part : Part) (rest : Result Parts SubstRefusal) → IsOk (with_part read at own_text part rest) → IsRead text part → Adds text (part_len part)
  fine_adds (Literal len) rest h r = r
  fine_adds Dollar rest h r = r
  fine_adds (Name len) rest h r = r
  fine_adds (Value len) rest h r = r
  fine_adds (Form name colon action tail) rest h r = r.0
  fine_adds Unclosed rest h r = absurd cc
  fine_adds Wrong rest h r = absurd cc

  sound_adds : (part : Part) (k n : ℕ) → checked (with_part read at own_text part (Ok End)) k ≡ Ok n → IsRead text part → Adds text (part_len part)
  sound_adds (Literal len) k n h r = r
  sound_adds Dollar k n h r = r
  sound_adds (Name len) k n h r = r
  sound_adds (Value len) k n h r = r
  sound_adds (Form name colon action tail) k n h r = r.0
  sound_adds Unclosed k n h r = absurd cc
  sound_adds Wrong k n h r = absurd cc

  len_adds : (part : Part) (n : ℕ) → checked (with_part read at own_text part (Ok End)) (part_len part) ≡ Ok n → IsRead text part → Adds text n
  len_adds part n h r = subst (Adds text) (part_fine read at own_text part (Ok End) (part_len part) n h).1 (sound_adds part (part_len part) n h r)

-- the length of a first part that is well formed
pub step_len : (levels at : ℕ) (inside : Bool) (text : List ℕ) (n : ℕ) → IsClosed inside text → own inside text ≢ [] → first_len levels at (own inside text) ≡ Ok n → n ≤ length text → IsStep inside text n
step_len levels at true text n h ne e le = inner_step text n h (len_adds (tails levels) at (inner text) text (first_part levels (inner text)) n e (goes_on levels true text h ne))
step_len levels at false text n h ne e le = plain_step text n le

parts_adds : (levels at : ℕ) (own_text text : List ℕ) → own_text ≢ [] → IsOk (parts levels at own_text) → IsRead text (first_part levels own_text) → Adds text (part_len (first_part levels own_text))
parts_adds levels at [] text ne h r = absurd (ne refl)
parts_adds levels at (c ∷ cs) text ne h r =
    let part = first_part levels (c ∷ cs) in
    fine_adds (tails levels) at (c ∷ cs) text part (cut levels (tails levels) (at + 1) (part_len part - 1) cs) h r

pub step_fine : (levels at : ℕ) (inside : Bool) (text : List ℕ) (n : ℕ) → IsClosed inside text → own inside text ≢ [] → n ≡ part_len (first_part levels (own inside text)) → IsOk (parts levels at (own inside text)) → n ≤ length text → IsStep inside text n
step_fine levels at true text n h ne e fine le = inner_step text n h (subst (Adds text) (sym e) (parts_adds levels at (inner text) text ne fine (goes_on levels true text h ne)))
step_fine levels at false text n h ne e fine le = plain_step text n le

-- a piece of what stands in a form
piece_own : (text : List ℕ) (from len : ℕ) → from + len ≤ inside_len 0 false text → take len (drop from (inner text)) ≡ take len (drop from text)
piece_own text from len h =
    let more = inside_len 0 false text - from in
    let split : inside_len 0 false text ≡ from + more = omega arith in
    ap (λ (m : ℕ). take len (drop from (take m text))) split ∙ ap (take len) (drop-take from more text) ∙ take-take len more (drop from text) (omega arith)

module _ (read : Reader) (env : Variables) (at : ℕ) (text : List ℕ) where
  part_own : (part : Part) → IsRead text part → part_value read env at (inner text) part ≡ part_value read env at text part
  part_own (Literal len) h = ap Ok (piece_own text 0 len (omega arith))
  part_own Dollar h = refl
  part_own (Name len) h = ap (λ (l : List ℕ). Ok (unwrap_or (env l) [])) (piece_own text 1 len (omega arith))
  part_own (Value len) h = ap (λ (l : List ℕ). Ok (unwrap_or (env l) [])) (piece_own text 2 len (omega arith))
  part_own (Form name colon action tail) h =
      let p = piece_own text 2 name (omega (arith, start_is name colon, h.0)) in
      let q = piece_own text (tail_start name colon) tail (omega (arith, h.0)) in
      (λ i. form_value (p i) action (counted colon (env (p i))) (text_value read env (at + tail_start name colon) (q i)))
  part_own Unclosed h = refl
  part_own Wrong h = refl

-- the value of the first part is read from the text as it goes on
pub first_value_own : (levels : ℕ) (env : Variables) (at : ℕ) (inside : Bool) (text : List ℕ) → IsClosed inside text → own inside text ≢ []
    → first_value levels env at (own inside text) ≡ part_value (tails levels) env at text (first_part levels (own inside text))
first_value_own levels env at true text h ne = part_own (tails levels) env at text (first_part levels (inner text)) (goes_on levels true text h ne)
first_value_own levels env at false text h ne = refl

tail_size : (text : List ℕ) (part : Part) → IsRead text part → (name : ℕ) (colon : Bool) (action : Action) (tail : ℕ) → part ≡ Form name colon action tail → tail_start name colon + tail ≤ inside_len 0 false text
tail_size text part h name colon action tail e = let read : IsRead text (Form name colon action tail) = subst (IsRead text) e h in omega (arith, read.0)

tail_piece : (levels : ℕ) (inside : Bool) (text : List ℕ) → IsClosed inside text → own inside text ≢ [] → (name : ℕ) (colon : Bool) (action : Action) (tail : ℕ) → first_part levels (own inside text) ≡ Form name colon action tail
    → take tail (drop (tail_start name colon) (own inside text)) ≡ take tail (drop (tail_start name colon) text)
tail_piece levels true text h ne name colon action tail e = piece_own text (tail_start name colon) tail (tail_size text (first_part levels (inner text)) (goes_on levels true text h ne) name colon action tail e)
tail_piece levels false text h ne name colon action tail e = refl

-- the tail of a form
pub tail_own : (levels : ℕ) (inside : Bool) (text : List ℕ) → IsClosed inside text → own inside text ≢ [] → (name : ℕ) (colon : Bool) (action : Action) (tail start : ℕ) (rest : List ℕ) → Form name colon action tail ≡ first_part levels (own inside text)
    → start ≡ tail_start name colon → rest ≡ drop start text → inner rest ≡ take tail (drop start (own inside text))
tail_own levels inside text h ne name colon action tail start rest e from same =
    let there : rest ≡ drop (tail_start name colon) text = same ∙ ap (λ (n : ℕ). drop n text) from in
    ap inner there
    ∙ ap (λ (n : ℕ). take n (drop (tail_start name colon) text)) (tail_is levels inside text h ne name colon action tail (sym e))
    ∙ sym (tail_piece levels inside text h ne name colon action tail (sym e))
    ∙ ap (λ (n : ℕ). take tail (drop n (own inside text))) (sym from)

-- the end of a check

pub check_done : (levels at there : ℕ) (left text : List ℕ) (len : ℕ) → left ≡ [] → len + length left ≡ length text → well_formed (parts levels at left) ≡ well_formed (parts levels there text)
    → Ok len ≡ (well_formed (parts levels there text) >>= λ _. Ok (length text))
check_done levels at there [] text len e size same = let all : len ≡ length text = omega arith in ap Ok all ∙ ap (λ (r : Result (Unit {0}) SubstRefusal). r >>= λ _. Ok (length text)) same
check_done levels at there (c ∷ cs) text len e size same = absurd cc

pub form_done : (r : Result (Unit {0}) SubstRefusal) (k m start tail : ℕ) → Ok m ≡ (r >>= λ _. Ok k) → k ≡ tail → Ok (start + m + 1) ≡ (r >>= λ _. Ok (start + tail + 1))
form_done (Ok u) k m start tail h e = let same : m ≡ k = cc in ap (λ (n : ℕ). Ok (start + n + 1)) (same ∙ e)
form_done (Err d) k m start tail h e = absurd cc

pub form_failed : (r : Result (Unit {0}) SubstRefusal) (k n : ℕ) (e : SubstRefusal) → Err e ≡ (r >>= λ _. Ok k) → Err e ≡ (r >>= λ _. Ok n)
form_failed (Ok u) k n e h = absurd cc
form_failed (Err d) k n e h = h

pub tail_inside : (text rest : List ℕ) (name : ℕ) (colon : Bool) (start : ℕ) → start ≡ tail_start name colon → rest ≡ drop start text → inside_len 0 false rest ≡ inside_len 0 false (drop (tail_start name colon) text)
tail_inside text rest name colon start from same = ap (inside_len 0 false) same ∙ ap (λ (n : ℕ). inside_len 0 false (drop n text)) from

pub tail_length : (text rest : List ℕ) (name : ℕ) (colon : Bool) (start : ℕ) → start ≡ tail_start name colon → rest ≡ drop start text → length (inner rest) ≡ inside_len 0 false (drop (tail_start name colon) text)
tail_length text rest name colon start from same = inner_length rest ∙ tail_inside text rest name colon start from same

pub after_tail : (text : List ℕ) (start len there tail : ℕ) → start ≡ there → len ≡ tail → IsCharBoundary text (there + tail + 1) → IsCharBoundary text (start + len + 1)
after_tail text start len there tail e f h = rw (e, f) h

pub tail_closed : (text rest : List ℕ) (name : ℕ) (colon : Bool) (start : ℕ) → start ≡ tail_start name colon → rest ≡ drop start text → tail_start name colon + inside_len 0 false (drop (tail_start name colon) text) + 1 ≤ length text
    → inside_len 0 false rest < length rest
tail_closed text rest name colon start from same h =
    let there : rest ≡ drop (tail_start name colon) text = same ∙ ap (λ (n : ℕ). drop n text) from in
    subst (λ (l : List ℕ). inside_len 0 false l < length l) (sym there) (omega (arith, length-drop (tail_start name colon) text))
