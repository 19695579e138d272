-- Why a file isn't read, by why a line isn't.
use Rattle.std.proofs.Common.{◌≡◌, ◌∙◌, ℕ, Bool, true, false, cond, List, Result, Ok, Err, refl, sym, ap}
use Rattle.std.specs.Str.{is_utf8, chars, IsUtf8}
use Rattle.std.proofs.lemmas.Str.{IsUtf8-from_is_utf8, is_utf8-from_IsUtf8}
use Rattle.tree_base.specs.Answers.{◌>>=◌}
use Rattle.tree_base.specs.Entries.{value_at, with_entry}
use Rattle.interpolate.specs.declared.SubstRefusal.{SubstRefusal}
use Rattle.interpolate.specs.declared.SubstRefusal.TheVariants as causes
use Rattle.interpolate.specs.Substitution as values
use Rattle.interpolate.specs.Substitution.{substituted}
use Rattle.dotenv.specs.declared.given.Given.{Given}
use Rattle.dotenv.specs.declared.line.Line.{Line}
use Rattle.dotenv.specs.declared.line.Line.TheVariants.{Substituted}
use Rattle.dotenv.specs.declared.refusal.LineRefusal.{LineRefusal}
use Rattle.dotenv.specs.declared.refusal.LineRefusal.TheVariants as line_refusals
use Rattle.dotenv.specs.declared.refusal.EnvRefusal.{EnvRefusal}
use Rattle.dotenv.specs.declared.refusal.EnvRefusal.TheVariants as refusals
use Rattle.dotenv.specs.Variables.{Entries, Sees}
use Rattle.dotenv.specs.Lines.{line_of, LineFails}
use Rattle.dotenv.specs.Files.{on_line, numbered, unsubstituted, with_given, with_value, told, with_line, Fails}

-- a value that isn't substituted
pub value_fails : (number : ℕ) (given : Given) (key : List ℕ) (cause : SubstRefusal) (read : Result (List ℕ) SubstRefusal) → values.Fails cause read → Fails (unsubstituted number cause) (with_value number given key read)
value_fails number given key causes.Memory read h = tt
value_fails number given key (causes.Unclosed at) read h = ap (with_value number given key) h
value_fails number given key (causes.BadForm at) read h = ap (with_value number given key) h
value_fails number given key (causes.RequiredVariable name message) read h = ap (with_value number given key) h
value_fails number given key causes.TooMuchText read h = ap (with_value number given key) h

-- a line that isn't read
pub line_fails : (outer : Entries) (given : Given) (number : ℕ) (e : LineRefusal) (read : Result Line LineRefusal) → LineFails e read → Fails (numbered number e) (on_line number read >>= told outer number given)
line_fails outer given number line_refusals.Memory read h = tt
line_fails outer given number line_refusals.BadLine read h = ap (λ (r : Result Line LineRefusal). on_line number r >>= told outer number given) h
line_fails outer given number line_refusals.BadQuote read h = ap (λ (r : Result Line LineRefusal). on_line number r >>= told outer number given) h

-- what fails at a line fails as a whole
pub fails_on : {B : Type 0} (e : EnvRefusal) (read : Result Given EnvRefusal) (f : Given → Result B EnvRefusal) → Fails e read → Fails e (read >>= f)
fails_on refusals.Memory read f h = tt
fails_on (refusals.BadLine line) read f h = ap (λ (r : Result Given EnvRefusal). r >>= f) h
fails_on (refusals.BadQuote line) read f h = ap (λ (r : Result Given EnvRefusal). r >>= f) h
fails_on (refusals.Subst line cause) read f h = ap (λ (r : Result Given EnvRefusal). r >>= f) h
fails_on (refusals.TooMuchText line) read f h = ap (λ (r : Result Given EnvRefusal). r >>= f) h

pub goes_on : (read : Result Given EnvRefusal) (f : Given → Result Given EnvRefusal) (given : Given) → read ≡ Ok given → (read >>= f) ≡ f given
goes_on read f given h = ap (λ (r : Result Given EnvRefusal). r >>= f) h

not_by : (bytes : List ℕ) (b : Bool) → is_utf8 bytes ≡ b → ¬ (IsUtf8 bytes) → is_utf8 bytes ≡ false
not_by bytes true e bad = absurd (bad (IsUtf8-from_is_utf8 bytes e))
not_by bytes false e bad = e

-- a line that isn't text
pub line_unread : (outer : Entries) (given : Given) (number : ℕ) (bytes : List ℕ) → ¬ (IsUtf8 bytes) → with_line outer number given bytes ≡ Err (refusals.BadLine number)
line_unread outer given number bytes bad = let e : is_utf8 bytes ≡ false = not_by bytes (is_utf8 bytes) refl bad in rw e refl

line_read : (outer : Entries) (given : Given) (number : ℕ) (bytes cs : List ℕ) → IsUtf8 bytes → cs ≡ chars bytes → with_line outer number given bytes ≡ (on_line number (line_of cs) >>= told outer number given)
line_read outer given number bytes cs u e =
    let text : is_utf8 bytes ≡ true = is_utf8-from_IsUtf8 bytes u in
    ap (λ b. cond b (on_line number (line_of (chars bytes)) >>= told outer number given) (Err (refusals.BadLine number))) text
    ∙ ap (λ (l : List ℕ). on_line number (line_of l) >>= told outer number given) (sym e)

pub line_told : (outer : Entries) (given : Given) (number : ℕ) (bytes cs : List ℕ) (line : Line) → IsUtf8 bytes → cs ≡ chars bytes → line_of cs ≡ Ok line → with_line outer number given bytes ≡ told outer number given line
line_told outer given number bytes cs line u e h =
    line_read outer given number bytes cs u e ∙ ap (λ (r : Result Line LineRefusal). on_line number r >>= told outer number given) h

pub same_fails : (e : EnvRefusal) (read other : Result Given EnvRefusal) → read ≡ other → Fails e read → Fails e other
same_fails refusals.Memory read other s h = tt
same_fails (refusals.BadLine line) read other s h = sym s ∙ h
same_fails (refusals.BadQuote line) read other s h = sym s ∙ h
same_fails (refusals.Subst line cause) read other s h = sym s ∙ h
same_fails (refusals.TooMuchText line) read other s h = sym s ∙ h

pub line_refused : (outer : Entries) (given : Given) (number : ℕ) (bytes cs : List ℕ) (e : LineRefusal) → IsUtf8 bytes → cs ≡ chars bytes → LineFails e (line_of cs) → Fails (numbered number e) (with_line outer number given bytes)
line_refused outer given number bytes cs e u same h =
    same_fails (numbered number e) _ _ (sym (line_read outer given number bytes cs u same)) (line_fails outer given number e (line_of cs) h)

-- a line whose value is substituted, by what its value sees
told_seen : (outer : Entries) (given : Given) (seen : Entries) (number : ℕ) (line : Line) (key text : List ℕ) → Sees outer given.env seen → line ≡ Substituted key text
    → told outer number given line ≡ with_value number given key (substituted (value_at seen) text)
told_seen outer given seen number line key text sees is =
    ap (told outer number given) is ∙ (λ i. with_value number given key (substituted (λ (name : List ℕ). sym (sees name) i) text))

pub told_given : (outer : Entries) (given : Given) (seen : Entries) (number : ℕ) (line : Line) (key text value : List ℕ) → Sees outer given.env seen → line ≡ Substituted key text
    → substituted (value_at seen) text ≡ Ok value → told outer number given line ≡ with_given number given key value
told_given outer given seen number line key text value sees is h =
    told_seen outer given seen number line key text sees is ∙ ap (with_value number given key) h

pub told_fails : (outer : Entries) (given : Given) (seen : Entries) (number : ℕ) (line : Line) (key text : List ℕ) (cause : SubstRefusal) → Sees outer given.env seen → line ≡ Substituted key text
    → values.Fails cause (substituted (value_at seen) text) → Fails (unsubstituted number cause) (told outer number given line)
told_fails outer given seen number line key text cause sees is h =
    same_fails (unsubstituted number cause) _ _ (sym (told_seen outer given seen number line key text sees is)) (value_fails number given key cause (substituted (value_at seen) text) h)
