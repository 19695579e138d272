-- A text cut into its first part and the rest.
use Rattle.std.proofs.Common.{◌≡◌, ◌≢◌, ◌∙◌, ℕ, zero, suc, ◌+◌, ◌-◌, ◌<◌, ◌≤◌, Bool, List, [], ◌∷◌, length, take, drop, Result, Ok, Err, refl, sym, ap, arith}
use Rattle.tree_base.specs.Answers.{◌>>=◌}
use Rattle.interpolate.specs.declared.part.Action.{Action}
use Rattle.interpolate.specs.declared.refusal.SubstRefusal.{SubstRefusal}
use Rattle.interpolate.specs.Shapes.{Part, Literal, Dollar, Name, Value, Form, Unclosed, Wrong, first_part, part_len, tail_start}
use Rattle.interpolate.specs.Parts.{Parts, End, Reader, Braced, before, with_part, cut, tails, parts, well_formed, first_len}

-- what belongs to a part before is skipped
cut_skip : (levels : ℕ) (read : Reader) (at skip : ℕ) (text : List ℕ) → skip ≤ length text → cut levels read at skip text ≡ cut levels read (at + skip) 0 (drop skip text)
cut_skip levels read at zero [] h = refl
cut_skip levels read at zero (c ∷ cs) h = let same : at + 0 ≡ at = omega arith in rw same refl
cut_skip levels read at (suc skip) [] h = absurd (omega arith)
cut_skip levels read at (suc skip) (c ∷ cs) h = let same : at + 1 + skip ≡ at + suc skip = omega arith in cut_skip levels read (at + 1) skip cs (omega arith) ∙ ap (λ n. cut levels read n 0 (drop skip cs)) same

-- the parts of a text that begins with a part
pub parts_first : (levels at : ℕ) (text : List ℕ) (n : ℕ) → text ≢ [] → n ≡ part_len (first_part levels text) → 0 < n → n ≤ length text
    → parts levels at text ≡ with_part (tails levels) at text (first_part levels text) (parts levels (at + n) (drop n text))
parts_first levels at [] n ne e some le = absurd (ne refl)
parts_first levels at (c ∷ cs) zero ne e some le = absurd (omega arith)
parts_first levels at (c ∷ cs) (suc n) ne e some le =
    let less : part_len (first_part levels (c ∷ cs)) - 1 ≡ n = omega arith in
    let same : at + 1 + n ≡ at + suc n = omega arith in
    ap (λ skip. with_part (tails levels) at (c ∷ cs) (first_part levels (c ∷ cs)) (cut levels (tails levels) (at + 1) skip cs)) less
    ∙ ap (with_part (tails levels) at (c ∷ cs) (first_part levels (c ∷ cs))) (cut_skip levels (tails levels) (at + 1) n cs (omega arith) ∙ ap (λ k. cut levels (tails levels) k 0 (drop n cs)) same)

-- a tail has one level less
pub tails_below : (levels : ℕ) → 0 < levels → tails levels ≡ parts (levels - 1)
tails_below zero h = absurd (omega arith)
tails_below (suc levels) h = let same : suc levels - 1 ≡ levels = omega arith in rw same refl

abbrev pub checked : Result Parts SubstRefusal → ℕ → Result ℕ SubstRefusal
checked read n = read >>= λ _. Ok n

-- a form before other parts is wrong as it is alone
form_wrong : (read rest : Result Parts SubstRefusal) (part : Parts → Parts → Parts) (n : ℕ) (e : SubstRefusal) → checked (read >>= λ inner. before (part inner) (Ok End)) n ≡ Err e → well_formed (read >>= λ inner. before (part inner) rest) ≡ Err e
form_wrong (Ok tail) rest part n e h = absurd cc
form_wrong (Err d) rest part n e h = let same : d ≡ e = cc in ap Err same

part_wrong : (read : Reader) (at : ℕ) (text : List ℕ) (part : Part) (rest : Result Parts SubstRefusal) (n : ℕ) (e : SubstRefusal) → checked (with_part read at text part (Ok End)) n ≡ Err e → well_formed (with_part read at text part rest) ≡ Err e
part_wrong read at text (Literal len) rest n e h = absurd cc
part_wrong read at text Dollar rest n e h = absurd cc
part_wrong read at text (Name len) rest n e h = absurd cc
part_wrong read at text (Value len) rest n e h = absurd cc
part_wrong read at text (Form name colon action tail) rest n e h =
    form_wrong (read (at + tail_start name colon) (take tail (drop (tail_start name colon) text))) rest (Braced (take name (drop 2 text)) colon action) n e h
part_wrong read at text Unclosed rest n e h = cc
part_wrong read at text Wrong rest n e h = cc

form_fine : (read rest : Result Parts SubstRefusal) (part : Parts → Parts → Parts) (n m : ℕ) → checked (read >>= λ inner. before (part inner) (Ok End)) n ≡ Ok m → (well_formed (read >>= λ inner. before (part inner) rest) ≡ well_formed rest) × (n ≡ m)
form_fine (Ok tail) (Ok more) part n m h = (refl, cc)
form_fine (Ok tail) (Err d) part n m h = (refl, cc)
form_fine (Err d) rest part n m h = absurd cc

plain_fine : (rest : Result Parts SubstRefusal) (part : Parts → Parts) → well_formed (before part rest) ≡ well_formed rest
plain_fine (Ok more) part = refl
plain_fine (Err d) part = refl

pub part_fine : (read : Reader) (at : ℕ) (text : List ℕ) (part : Part) (rest : Result Parts SubstRefusal) (n m : ℕ) → checked (with_part read at text part (Ok End)) n ≡ Ok m → (well_formed (with_part read at text part rest) ≡ well_formed rest) × (n ≡ m)
part_fine read at text (Literal len) rest n m h = (plain_fine rest _, cc)
part_fine read at text Dollar rest n m h = (plain_fine rest _, cc)
part_fine read at text (Name len) rest n m h = (plain_fine rest _, cc)
part_fine read at text (Value len) rest n m h = (plain_fine rest _, cc)
part_fine read at text (Form name colon action tail) rest n m h =
    form_fine (read (at + tail_start name colon) (take tail (drop (tail_start name colon) text))) rest (Braced (take name (drop 2 text)) colon action) n m h
part_fine read at text Unclosed rest n m h = absurd cc
part_fine read at text Wrong rest n m h = absurd cc

-- a first part that is wrong is what is wrong with the text
pub check_wrong : (levels at : ℕ) (text : List ℕ) (e : SubstRefusal) → text ≢ [] → first_len levels at text ≡ Err e → well_formed (parts levels at text) ≡ Err e
check_wrong levels at [] e ne h = absurd (ne refl)
check_wrong levels at (c ∷ cs) e ne h =
    let part = first_part levels (c ∷ cs) in
    part_wrong (tails levels) at (c ∷ cs) part (cut levels (tails levels) (at + 1) (part_len part - 1) cs) (part_len part) e h

-- behind a first part that is well formed stands what may be wrong
pub check_fine : (levels at : ℕ) (text : List ℕ) (n : ℕ) → text ≢ [] → first_len levels at text ≡ Ok n → 0 < n → n ≤ length text → well_formed (parts levels (at + n) (drop n text)) ≡ well_formed (parts levels at text)
check_fine levels at text n ne h some le =
    let part = first_part levels text in
    let f = part_fine (tails levels) at text part (parts levels (at + n) (drop n text)) (part_len part) n h in
    sym f.0 ∙ ap well_formed (sym (parts_first levels at text n ne (sym f.1) some le))

-- a first part with a tail is as well formed as the tail
pub first_len_form : (levels at : ℕ) (text inner : List ℕ) (name : ℕ) (colon : Bool) (action : Action) (tail start : ℕ) → Form name colon action tail ≡ first_part levels text → 0 < levels → start ≡ tail_start name colon → inner ≡ take tail (drop start text)
    → first_len levels at text ≡ (well_formed (parts (levels - 1) (at + start) inner) >>= λ _. Ok (start + tail + 1))
first_len_form levels at text inner name colon action tail start is left from same =
    ap (λ part. checked (with_part (tails levels) at text part (Ok End)) (part_len part)) (sym is)
    ∙ form_again (tails levels (at + tail_start name colon) (take tail (drop (tail_start name colon) text)))
    ∙ ap (λ (r : Result Parts SubstRefusal). well_formed r >>= λ _. Ok (tail_start name colon + tail + 1)) (ap (λ (read : Reader). read (at + tail_start name colon) (take tail (drop (tail_start name colon) text))) (tails_below levels left))
    ∙ ap (λ k. well_formed (parts (levels - 1) (at + k) (take tail (drop k text))) >>= λ _. Ok (k + tail + 1)) (sym from)
    ∙ ap (λ l. well_formed (parts (levels - 1) (at + start) l) >>= λ _. Ok (start + tail + 1)) (sym same)
  where
    form_again : (r : Result Parts SubstRefusal) → checked (r >>= λ inner. before (Braced (take name (drop 2 text)) colon action inner) (Ok End)) (tail_start name colon + tail + 1) ≡ (well_formed r >>= λ _. Ok (tail_start name colon + tail + 1))
    form_again (Ok inner) = refl
    form_again (Err e) = refl

pub then_err : {A B : Type 0} (r : Result A SubstRefusal) (f : A → Result B SubstRefusal) (e : SubstRefusal) → r ≡ Err e → (r >>= f) ≡ Err e
then_err {A} {B} r f e h = ap (λ (x : Result A SubstRefusal). x >>= f) h

pub then_ok : {A B : Type 0} (r : Result A SubstRefusal) (f : A → Result B SubstRefusal) (a : A) → r ≡ Ok a → (r >>= f) ≡ f a
then_ok {A} {B} r f a h = ap (λ (x : Result A SubstRefusal). x >>= f) h
