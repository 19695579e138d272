-- The value of a text, from the value of its first part and that of the rest.
use Rattle.std.proofs.Common.{◌≡◌, ◌≢◌, ◌∙◌, ℕ, ◌+◌, ◌-◌, ◌<◌, ◌≤◌, Bool, false, List, [], ◌∷◌, ◌++◌, length, take, drop, Option, Result, Ok, Err, IsOk, refl, sym, ap, subst}
use Rattle.tree_base.specs.Answers.{◌>>=◌}
use Rattle.interpolate.specs.declared.part.Action.{Action}
use Rattle.interpolate.specs.declared.refusal.SubstRefusal.{SubstRefusal}
use Rattle.interpolate.specs.declared.refusal.SubstRefusal.TheVariants as refusals
use Rattle.interpolate.specs.Shapes.{Part, Literal, Dollar, Name, Value, Form, Unclosed, Wrong, first_part, part_len, tail_start}
use Rattle.interpolate.specs.Lengths.{inside_len}
use Rattle.interpolate.specs.Heads.{inner}
use Rattle.interpolate.specs.Parts.{Parts, Reader, Braced, before, with_part, cut, tails, parts}
use Rattle.interpolate.specs.Substitution.{Variables, value, counted, form_value, part_value, text_value, first_value, put_on, appended, Fails}
use Rattle.interpolate.proofs.Cutting.{parts_first, tails_below}
use Rattle.interpolate.proofs.Filling.{put_more, put_nothing}

abbrev pub Value_ : Type 0
Value_ = Result (List ℕ) SubstRefusal

-- a value before another
abbrev followed : Value_ → Value_ → Value_
followed first rest = first >>= λ v. rest >>= λ more. Ok (v ++ more)

-- what fails at first fails as a whole
fails_whole : (e : SubstRefusal) (out : Option (List ℕ)) (first rest : Value_) → Fails e (appended out first) → Fails e (appended out (followed first rest))
fails_whole e out (Err d) rest h = h
fails_whole refusals.Memory out (Ok v) rest h = tt
fails_whole (refusals.Unclosed at) out (Ok v) rest h = absurd cc
fails_whole (refusals.BadForm at) out (Ok v) rest h = absurd cc
fails_whole (refusals.RequiredVariable name message) out (Ok v) rest h = absurd cc
fails_whole refusals.TooMuchText out (Ok v) rest h = absurd cc

goes_on : (out new : Option (List ℕ)) (first rest : Value_) → appended out first ≡ Ok new → appended new rest ≡ appended out (followed first rest)
goes_on out new (Err d) rest h = absurd cc
goes_on out new (Ok v) (Err d) h = refl
goes_on out new (Ok v) (Ok more) h =
    let same : put_on out v ≡ new = cc in
    ap Ok (ap (λ (l : Option (List ℕ)). put_on l more) (sym same) ∙ put_more out v more)

form_then : (env : Variables) (read rest : Result Parts SubstRefusal) (name : List ℕ) (colon : Bool) (action : Action) → IsOk (read >>= λ inner. before (Braced name colon action inner) rest)
    → ((read >>= λ inner. before (Braced name colon action inner) rest) >>= value env) ≡ followed (form_value name action (counted colon (env name)) (read >>= value env)) (rest >>= value env)
form_then env (Ok inner) (Ok more) name colon action h = refl
form_then env (Ok inner) (Err d) name colon action h = absurd cc
form_then env (Err d) rest name colon action h = absurd cc

part_then : (env : Variables) (read : Reader) (at : ℕ) (text : List ℕ) (part : Part) (rest : Result Parts SubstRefusal) → IsOk (with_part read at text part rest)
    → (with_part read at text part rest >>= value env) ≡ followed (part_value read env at text part) (rest >>= value env)
part_then env read at text (Literal len) (Ok more) h = refl
part_then env read at text (Literal len) (Err d) h = absurd cc
part_then env read at text Dollar (Ok more) h = refl
part_then env read at text Dollar (Err d) h = absurd cc
part_then env read at text (Name len) (Ok more) h = refl
part_then env read at text (Name len) (Err d) h = absurd cc
part_then env read at text (Value len) (Ok more) h = refl
part_then env read at text (Value len) (Err d) h = absurd cc
part_then env read at text (Form name colon action tail) rest h =
    form_then env (read (at + tail_start name colon) (take tail (drop (tail_start name colon) text))) rest (take name (drop 2 text)) colon action h
part_then env read at text Unclosed rest h = absurd cc
part_then env read at text Wrong rest h = absurd cc

form_rest : (read rest : Result Parts SubstRefusal) (part : Parts → Parts → Parts) → IsOk (read >>= λ inner. before (part inner) rest) → IsOk read × IsOk rest
form_rest (Ok inner) (Ok more) part h = (refl, refl)
form_rest (Ok inner) (Err d) part h = absurd cc
form_rest (Err d) rest part h = absurd cc

rest_fine : (read : Reader) (at : ℕ) (text : List ℕ) (part : Part) (rest : Result Parts SubstRefusal) → IsOk (with_part read at text part rest) → IsOk rest
rest_fine read at text (Literal len) (Ok more) h = refl
rest_fine read at text (Literal len) (Err d) h = absurd cc
rest_fine read at text Dollar (Ok more) h = refl
rest_fine read at text Dollar (Err d) h = absurd cc
rest_fine read at text (Name len) (Ok more) h = refl
rest_fine read at text (Name len) (Err d) h = absurd cc
rest_fine read at text (Value len) (Ok more) h = refl
rest_fine read at text (Value len) (Err d) h = absurd cc
rest_fine read at text (Form name colon action tail) rest h =
    (form_rest (read (at + tail_start name colon) (take tail (drop (tail_start name colon) text))) rest (Braced (take name (drop 2 text)) colon action) h).1
rest_fine read at text Unclosed rest h = absurd cc
rest_fine read at text Wrong rest h = absurd cc

-- the tail of a form in a well-formed text is well formed
pub tail_fine : (levels at : ℕ) (text inner : List ℕ) (name : ℕ) (colon : Bool) (action : Action) (tail start : ℕ) → text ≢ [] → IsOk (parts levels at text)
    → Form name colon action tail ≡ first_part levels text → 0 < levels → start ≡ tail_start name colon → inner ≡ take tail (drop start text) → IsOk (parts (levels - 1) (at + start) inner)
tail_fine levels at [] inner name colon action tail start ne fine is left from same = absurd (ne refl)
tail_fine levels at (c ∷ cs) inner name colon action tail start ne fine is left from same =
    let rest : Result Parts SubstRefusal = cut levels (tails levels) (at + 1) (part_len (first_part levels (c ∷ cs)) - 1) cs in
    let whole : IsOk (with_part (tails levels) at (c ∷ cs) (Form name colon action tail) rest) = subst (λ (part : Part). IsOk (with_part (tails levels) at (c ∷ cs) part rest)) (sym is) fine in
    let read : IsOk (tails levels (at + tail_start name colon) (take tail (drop (tail_start name colon) (c ∷ cs)))) =
    (form_rest (tails levels (at + tail_start name colon) (take tail (drop (tail_start name colon) (c ∷ cs)))) rest (Braced (take name (drop 2 (c ∷ cs))) colon action) whole).0 in
    let below : IsOk (parts (levels - 1) (at + tail_start name colon) (take tail (drop (tail_start name colon) (c ∷ cs)))) =
    subst (λ (r : Reader). IsOk (r (at + tail_start name colon) (take tail (drop (tail_start name colon) (c ∷ cs))))) (tails_below levels left) read in
    let there : IsOk (parts (levels - 1) (at + start) (take tail (drop start (c ∷ cs)))) =
    subst (λ (k : ℕ). IsOk (parts (levels - 1) (at + k) (take tail (drop k (c ∷ cs))))) (sym from) below in
    subst (λ (l : List ℕ). IsOk (parts (levels - 1) (at + start) l)) (sym same) there

-- what a form gives, with its tail a level deeper
pub form_value_below : (levels : ℕ) (env : Variables) (at : ℕ) (text rest nm : List ℕ) (name : ℕ) (colon : Bool) (action : Action) (start : ℕ) → (part : Part)
    → Form name colon action (inside_len 0 false (drop (tail_start name colon) text)) ≡ part → 0 < levels → start ≡ tail_start name colon → rest ≡ drop start text → nm ≡ take name (drop 2 text)
    → part_value (tails levels) env at text part ≡ form_value nm action (counted colon (env nm)) (text_value (parts (levels - 1)) env (at + start) (inner rest))
form_value_below levels env at text rest nm name colon action start part is left from same named =
    ap (part_value (tails levels) env at text) (sym is)
    ∙ ap (λ (r : Reader). form_value (take name (drop 2 text)) action (counted colon (env (take name (drop 2 text)))) (text_value r env (at + tail_start name colon) (inner (drop (tail_start name colon) text)))) (tails_below levels left)
    ∙ ap (λ (l : List ℕ). form_value l action (counted colon (env l)) (text_value (parts (levels - 1)) env (at + tail_start name colon) (inner (drop (tail_start name colon) text)))) (sym named)
    ∙ ap (λ (k : ℕ). form_value nm action (counted colon (env nm)) (text_value (parts (levels - 1)) env (at + k) (inner (drop k text)))) (sym from)
    ∙ ap (λ (l : List ℕ). form_value nm action (counted colon (env nm)) (text_value (parts (levels - 1)) env (at + start) (inner l))) (sym same)

-- where nothing is left, nothing more is put
pub join_done : (levels : ℕ) (env : Variables) (at : ℕ) (left : List ℕ) (out : Option (List ℕ)) → left ≡ [] → appended out (text_value (parts levels) env at left) ≡ Ok out
join_done levels env at [] out e = ap Ok (put_nothing out)
join_done levels env at (c ∷ cs) out e = absurd cc

-- what fails at the first part fails for the text
pub join_fails : (levels : ℕ) (env : Variables) (at : ℕ) (text : List ℕ) (out : Option (List ℕ)) (e : SubstRefusal) → text ≢ [] → IsOk (parts levels at text) → Fails e (appended out (first_value levels env at text))
    → Fails e (appended out (text_value (parts levels) env at text))
join_fails levels env at [] out e ne fine h = absurd (ne refl)
join_fails levels env at (c ∷ cs) out e ne fine h =
    let part = first_part levels (c ∷ cs) in
    let rest : Result Parts SubstRefusal = cut levels (tails levels) (at + 1) (part_len part - 1) cs in
    subst (λ (r : Value_). Fails e (appended out r)) (sym (part_then env (tails levels) at (c ∷ cs) part rest fine))
    (fails_whole e out (first_value levels env at (c ∷ cs)) (rest >>= value env) h)

-- behind a part that is well formed
module _ (levels : ℕ) (env : Variables) (at : ℕ) (text : List ℕ) (n : ℕ) (ne : text ≢ []) (is : n ≡ part_len (first_part levels text)) (some : 0 < n) (within : n ≤ length text) (fine : IsOk (parts levels at text)) where
  whole : IsOk (with_part (tails levels) at text (first_part levels text) (parts levels (at + n) (drop n text)))
  whole = subst (λ (r : Result Parts SubstRefusal). IsOk r) (parts_first levels at text n ne is some within) fine

  pub join_fine : IsOk (parts levels (at + n) (drop n text))
  join_fine = rest_fine (tails levels) at text (first_part levels text) (parts levels (at + n) (drop n text)) whole

  pub join_more : (out new : Option (List ℕ)) → appended out (first_value levels env at text) ≡ Ok new → appended new (text_value (parts levels) env (at + n) (drop n text)) ≡ appended out (text_value (parts levels) env at text)
  join_more out new h =
      goes_on out new (first_value levels env at text) (text_value (parts levels) env (at + n) (drop n text)) h
      ∙ ap (appended out) (sym (part_then env (tails levels) at text (first_part levels text) (parts levels (at + n) (drop n text)) whole))
      ∙ ap (λ (r : Result Parts SubstRefusal). appended out (r >>= value env)) (sym (parts_first levels at text n ne is some within))
