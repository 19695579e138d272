-- The value of a later line wins.
use Rattle.std.proofs.Common.{◌≡◌, ◌≢◌, ◌∙◌, ℕ, suc, ◌+◌, Bool, true, false, cond, List, [], ◌∷◌, ◌++◌, Option, Some, None, Result, Ok, Err, length, refl, sym, ap, arith}
use Rattle.std.specs.Str.{is_utf8, chars, bytes_eq}
use Rattle.std.specs.Str.Lines.{lines}
use Rattle.std.proofs.lemmas.Slice.Eq.{bytes_eq-Decides}
use Rattle.tree_base.specs.Answers.{◌>>=◌}
use Rattle.tree_base.specs.Entries.{value_at, with_entry}
use Rattle.interpolate.specs.declared.SubstRefusal.{SubstRefusal}
use Rattle.interpolate.specs.Substitution.{substituted}
use Rattle.dotenv.specs.declared.given.Given.{Given}
use Rattle.dotenv.specs.declared.line.Line.{Line}
use Rattle.dotenv.specs.declared.line.Line.TheVariants.{Nothing, Alone, Literal, Substituted}
use Rattle.dotenv.specs.declared.refusal.LineRefusal.{LineRefusal}
use Rattle.dotenv.specs.declared.refusal.EnvRefusal.{EnvRefusal}
use Rattle.dotenv.specs.declared.refusal.EnvRefusal.TheVariants as refusals
use Rattle.dotenv.specs.Variables.{Entries, value}
use Rattle.dotenv.specs.Lines.{line_of}
use Rattle.dotenv.specs.Files.{on_line, with_bytes, with_given, with_outer, with_value, told, with_line, with_lines, line_number, nothing_given, variables_of, env_file}
use Rattle.dotenv.specs.Laws.{Says, key_of, GivesValue, NoneHasKey, LaterLineWins}
use Rattle.dotenv.proofs.Puts.{value_put, value_put_same}

abbrev done : Given → Result Given EnvRefusal
done given = Ok given

done_is : (a b : Given) → done a ≡ done b → a ≡ b
done_is a b e = cc

-- behind lines that gave variables, the other lines go on
after_lines : (outer : Entries) (number : ℕ) (given : Given) (earlier more : List (List ℕ)) (before after : Given) → with_lines outer number given earlier ≡ Ok before → with_lines outer number given (earlier ++ more) ≡ Ok after
    → (m : ℕ) × (with_lines outer m before more ≡ Ok after)
after_lines outer number given [] more before after h g = (number, ap (λ (e : Given). with_lines outer number e more) (sym (done_is given before h)) ∙ g)
after_lines outer number given (l ∷ ls) more before after h g = by (λ next. after_lines outer (number + 1) next ls more before after) (with_line outer (line_number number) given l) h g
  where
    by : ((next : Given) → with_lines outer (number + 1) next ls ≡ Ok before → with_lines outer (number + 1) next (ls ++ more) ≡ Ok after → (m : ℕ) × (with_lines outer m before more ≡ Ok after))
        → (r : Result Given EnvRefusal) → (r >>= λ given. with_lines outer (number + 1) given ls) ≡ Ok before → (r >>= λ given. with_lines outer (number + 1) given (ls ++ more)) ≡ Ok after
        → (m : ℕ) × (with_lines outer m before more ≡ Ok after)
    by go (Ok next) h g = go next h g
    by go (Err e) h g = absurd cc

-- what one line and those behind it give
first_line : (outer : Entries) (number : ℕ) (given : Given) (bytes : List ℕ) (more : List (List ℕ)) (after : Given) → with_lines outer number given (bytes ∷ more) ≡ Ok after
    → (next : Given) × (with_line outer (line_number number) given bytes ≡ Ok next) × (with_lines outer (number + 1) next more ≡ Ok after)
first_line outer number given bytes more after h = by (with_line outer (line_number number) given bytes) refl h
  where
    by : (r : Result Given EnvRefusal) → with_line outer (line_number number) given bytes ≡ r → (r >>= λ given. with_lines outer (number + 1) given more) ≡ Ok after
        → (next : Given) × (with_line outer (line_number number) given bytes ≡ Ok next) × (with_lines outer (number + 1) next more ≡ Ok after)
    by (Ok next) e g = (next, e, g)
    by (Err x) e g = absurd cc

-- a line that gave variables was read, and told them
line_was : (outer : Entries) (given next : Given) (number : ℕ) (bytes : List ℕ) → with_line outer number given bytes ≡ Ok next → (line : Line) × Says bytes line × (told outer number given line ≡ Ok next)
line_was outer given next number bytes h = by (is_utf8 bytes) (line_of (chars bytes)) refl h
  where
    by : (b : Bool) (r : Result Line LineRefusal) → line_of (chars bytes) ≡ r → cond b (on_line number r >>= told outer number given) (Err (refusals.BadLine number)) ≡ done next
        → (line : Line) × Says bytes line × (told outer number given line ≡ Ok next)
    by false r e g = absurd cc
    by true (Ok line) e g = (line, e, g)
    by true (Err x) e g = absurd cc

-- where a value is within the limit, it was put under its key
given_puts : (number : ℕ) (given after : Given) (name value : List ℕ) → with_given number given name value ≡ Ok after → after.env ≡ with_entry given.env name value
given_puts number given after name value h = by (with_bytes number given.size (length value)) h
  where
    by : (r : Result ℕ EnvRefusal) → (r >>= λ size. Ok (record { env = with_entry given.env name value; size = size })) ≡ done after → after.env ≡ with_entry given.env name value
    by (Ok size) g = ap (λ (e : Given). e.env) (sym (done_is _ after g))
    by (Err x) g = absurd cc

put_gives : (number : ℕ) (given after : Given) (name key text value : List ℕ) → name ≡ key → value ≡ text → with_given number given name value ≡ Ok after → value_at after.env key ≡ Some text
put_gives number given after name key text value p q h =
    ap (λ (es : Entries). value_at es key) (given_puts number given after name value h) ∙ (λ i. value_at (with_entry given.env (p i) (q i)) key) ∙ value_put_same given.env key text

-- a line that gives a key a value leaves it that value
told_gives : (outer : Entries) (given after : Given) (number : ℕ) (line : Line) (key text : List ℕ) → GivesValue outer given.env key text line → told outer number given line ≡ Ok after → value_at after.env key ≡ Some text
told_gives outer given after number Nothing key text g h = absurd g
told_gives outer given after number (Alone name) key text g h =
    let there : value_at outer name ≡ Some text = ap (value_at outer) g.0 ∙ g.1 in
    put_gives number given after name key text text g.0 refl (sym (ap (λ (o : Option (List ℕ)). with_outer number given name o) there) ∙ h)
told_gives outer given after number (Literal name written) key text g h = put_gives number given after name key text written g.0 g.1 h
told_gives outer given after number (Substituted name written) key text g h =
    put_gives number given after name key text text g.0 refl (sym (ap (λ (r : Result (List ℕ) SubstRefusal). with_value number given name r) g.1) ∙ h)

other : (name key : List ℕ) → Some name ≢ Some key → bytes_eq key name ≡ false
other name key ne = by (bytes_eq key name) refl
  where
    by : (b : Bool) → bytes_eq key name ≡ b → b ≡ false
    by true e = let same : key ≡ name = (bytes_eq-Decides key name).0 e in absurd (ne (ap Some (sym same)))
    by false e = refl

put_keeps : (number : ℕ) (given after : Given) (name key value : List ℕ) → Some name ≢ Some key → with_given number given name value ≡ Ok after → value_at after.env key ≡ value_at given.env key
put_keeps number given after name key value ne h =
    ap (λ (es : Entries). value_at es key) (given_puts number given after name value h) ∙ value_put given.env name value key ∙ ap (λ b. cond b (Some value) (value_at given.env key)) (other name key ne)

same_value : (a b : Given) (key : List ℕ) → done a ≡ Ok b → value_at b.env key ≡ value_at a.env key
same_value a b key h = ap (λ (e : Given). value_at e.env key) (sym (done_is a b h))

-- a line with another key, or none, leaves a key its value
told_keeps : (outer : Entries) (given after : Given) (number : ℕ) (line : Line) (key : List ℕ) → key_of line ≢ Some key → told outer number given line ≡ Ok after → value_at after.env key ≡ value_at given.env key
told_keeps outer given after number Nothing key ne h = same_value given after key h
told_keeps outer given after number (Alone name) key ne h = by (value_at outer name) h
  where
    by : (o : Option (List ℕ)) → with_outer number given name o ≡ Ok after → value_at after.env key ≡ value_at given.env key
    by None g = same_value given after key g
    by (Some found) g = put_keeps number given after name key found ne g
told_keeps outer given after number (Literal name written) key ne h = put_keeps number given after name key written ne h
told_keeps outer given after number (Substituted name written) key ne h = by (substituted (value outer given.env) written) h
  where
    by : (r : Result (List ℕ) SubstRefusal) → with_value number given name r ≡ Ok after → value_at after.env key ≡ value_at given.env key
    by (Ok found) g = put_keeps number given after name key found ne g
    by (Err cause) g = absurd cc

lines_keep : (outer : Entries) (number : ℕ) (given after : Given) (later : List (List ℕ)) (key : List ℕ) → NoneHasKey key later → with_lines outer number given later ≡ Ok after → value_at after.env key ≡ value_at given.env key
lines_keep outer number given after [] key none h = same_value given after key h
lines_keep outer number given after (l ∷ ls) key none h =
    let f = first_line outer number given l ls after h in
    let w = line_was outer given f.0 (line_number number) l f.1 in
    lines_keep outer (number + 1) f.0 after ls key (λ k d lt. none (suc k) d (omega arith)) f.2
    ∙ told_keeps outer given f.0 (line_number number) w.0 key (none 0 l (omega arith) w.0 w.1) w.2

abbrev read : Line → Result Line LineRefusal
read line = Ok line

says_is : (bytes : List ℕ) (a b : Line) → Says bytes a → Says bytes b → a ≡ b
says_is bytes a b p q = let e : read a ≡ read b = sym p ∙ q in cc

-- what lines left whose variables are these
left_by : (r : Result Given EnvRefusal) (after : Entries) → variables_of r ≡ Ok after → (left : Given) × (r ≡ Ok left) × (left.env ≡ after)
left_by (Ok left) after h = (left, refl, cc)
left_by (Err e) after h = absurd cc

pub later_wins : LaterLineWins
unfolding env_file
later_wins outer after before file earlier later bytes key text line cut was says gives none is =
    let left = left_by (with_lines outer 1 nothing_given (lines file)) after is in
    let all : with_lines outer 1 nothing_given (earlier ++ bytes ∷ later) ≡ Ok left.0 = sym (ap (with_lines outer 1 nothing_given) cut) ∙ left.1 in
    let rest = after_lines outer 1 nothing_given earlier (bytes ∷ later) before left.0 was all in
    let f = first_line outer rest.0 before bytes later left.0 rest.1 in
    let w = line_was outer before f.0 (line_number rest.0) bytes f.1 in
    let same : w.0 ≡ line = says_is bytes w.0 line w.1 says in
    let here : told outer (line_number rest.0) before line ≡ Ok f.0 = sym (ap (told outer (line_number rest.0) before) same) ∙ w.2 in
    ap (λ (es : Entries). value_at es key) (sym left.2)
    ∙ lines_keep outer (rest.0 + 1) f.0 left.0 later key none f.2 ∙ told_gives outer before f.0 (line_number rest.0) line key text gives here
