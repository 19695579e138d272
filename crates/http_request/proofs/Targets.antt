-- The bytes of a target are of the class that the grammar of HTTP asks for, and ASCII.
use Rattle.std.proofs.Common.{◌≡◌, ℕ, ◌<◌, ◌≤◌, ◌^◌, inl, inr, Bool, true, false, not, ◌&&◌, ◌||◌, ◌==◌, nat_le, nat_lt, if◌then◌else◌, List, [], ◌∷◌, ◌++◌, length, get_or, refl, sym, ◌∙◌, subst, arith, true≢false}
use Rattle.std.proofs.lemmas.Bool.{agree_below_at, and_parts, le-leb, lt-leb, ltb-false, ltb-true, ne_eqb}
use Rattle.std.proofs.lemmas.List.Elements.{All-append, All-cons, All-from_get_or, All-nil, All-weaker}
use Rattle.std.proofs.lemmas.List.Sums.{AllPass-from_list_all}
use Rattle.std.proofs.lemmas.Fmt.{decimal_is_IsNumeral}
use Rattle.std.proofs.lemmas.Str.{IsUtf8-from_ascii}
use Rattle.std.proofs.lemmas.Str.Parse.{digit_at}
use Rattle.std.proofs.lemmas.Str.Ascii.{IsAscii-from_all}
use Rattle.std.specs.Prelude.{All, codes, decimal, IsTrue, IsUtf8, Option, Some, None}
use Rattle.std.specs.Char.{is_ascii_alphanumeric}
use Rattle.std.specs.Int.{is_in_range}
use Rattle.std.specs.List.{list_all, list_any}
use Rattle.httparse.specs.Grammar.{AllPass, is_uri_byte, is_value_byte}
use Rattle.percent_encoding.proofs.PercentLemmas.{All-percent_encode_byte, IsEscapeByte}
use Rattle.percent_encoding.specs.Percent.{percent_encode_byte}
use Rattle.tree_base.specs.declared.Var.{Var}
use Rattle.engine_types.specs.declared.Request.{Request}
use Rattle.http_request.specs.Escapes.{escaped, stays_in_path, stays_in_query}
use Rattle.http_request.specs.Requests.{pairs_for, path_of, print_more, print_pair, print_query, query_of, target_of}

-- a byte of a target: one that stays in a path, or one of % & = ?
abbrev is_target_byte : ℕ → Bool
is_target_byte b = stays_in_path b || list_any (λ c. c == b) (codes "%&=?")

abbrev IsOfTarget : ℕ → Type 0
IsOfTarget b = is_target_byte b ≡ true

or_left : (a b : Bool) → a ≡ true → (a || b) ≡ true
or_left true b h = refl
or_left false b h = absurd (true≢false (sym h))

or_right : (a b : Bool) → b ≡ true → (a || b) ≡ true
or_right true b h = refl
or_right false b h = h

or_none : (a b : Bool) → a ≡ false → b ≡ false → (a || b) ≡ false
or_none true b h k = absurd (true≢false h)
or_none false b h k = k

and_none : (a b : Bool) → b ≡ false → (a && b) ≡ false
and_none true b h = h
and_none false b h = refl

both : (a b : Bool) → a ≡ true → b ≡ true → (a && b) ≡ true
both true b h k = k
both false b h k = absurd (true≢false (sym h))

in_range : (low high b : ℕ) → low ≤ b → b ≤ high → is_in_range low high b ≡ true
in_range low high b h k = both (nat_le low b) (nat_le b high) (le-leb low b h) (le-leb b high k)

past_range : (low high b : ℕ) → high < b → is_in_range low high b ≡ false
past_range low high b h = and_none (nat_le low b) (nat_le b high) (lt-leb b high h)

past_all : (cs : List ℕ) (b : ℕ) → list_all (λ c. nat_lt c 128) cs ≡ true → 128 ≤ b → list_any (λ c. c == b) cs ≡ false
past_all [] b h high = refl
past_all (c ∷ cs) b h high =
    let p = and_parts (nat_lt c 128) (list_all (λ x. nat_lt x 128) cs) h in
    let small : c < 128 = ltb-true c 128 p.0 in
    or_none (c == b) (list_any (λ x. x == b) cs) (ne_eqb c b (λ e. omega (arith, e, small))) (past_all cs b p.1 high)

past_letters : (b : ℕ) → 128 ≤ b → is_ascii_alphanumeric b ≡ false
past_letters b high =
    or_none (is_in_range 48 57 b || is_in_range 65 90 b) (is_in_range 97 122 b)
    (or_none (is_in_range 48 57 b) (is_in_range 65 90 b) (past_range 48 57 b (omega arith)) (past_range 65 90 b (omega arith)))
    (past_range 97 122 b (omega arith))

-- past ASCII no byte is one of a target
high_byte : (b : ℕ) → 128 ≤ b → is_target_byte b ≡ false
high_byte b high =
    or_none (stays_in_path b) (list_any (λ c. c == b) (codes "%&=?"))
    (or_none (is_ascii_alphanumeric b) (list_any (λ c. c == b) (codes "-._~/:@")) (past_letters b high) (past_all (codes "-._~/:@") b refl high))
    (past_all (codes "%&=?") b refl high)

query_high : (b : ℕ) → 128 ≤ b → stays_in_query b ≡ false
query_high b high =
    or_none (is_ascii_alphanumeric b) (list_any (λ c. c == b) (codes "-._~")) (past_letters b high) (past_all (codes "-._~") b refl high)

ascii : (b : ℕ) → IsOfTarget b → b < 128
ascii b h = at (nat_lt b 128) refl
  where
    at : (v : Bool) → nat_lt b 128 ≡ v → b < 128
    at true e = ltb-true b 128 e
    at false e = absurd (true≢false (sym h ∙ high_byte b (ltb-false b 128 e)))

implied : (a b : Bool) → (not a || b) ≡ true → a ≡ true → b ≡ true
implied true b h k = h
implied false b h k = absurd (true≢false (sym k))

visible : (b : ℕ) → IsOfTarget b → is_uri_byte b ≡ true
visible b h = implied (is_target_byte b) (is_uri_byte b) (agree_below_at (λ x. not (is_target_byte x) || is_uri_byte x) (λ _. true) 128 b refl (ascii b h)) h

query_is_path : (b : ℕ) → stays_in_query b ≡ true → IsOfTarget b
query_is_path b h = at (nat_lt b 128) refl
  where
    at : (v : Bool) → nat_lt b 128 ≡ v → IsOfTarget b
    at true e =
        implied (stays_in_query b) (is_target_byte b)
        (agree_below_at (λ x. not (stays_in_query x) || is_target_byte x) (λ _. true) 128 b refl (ltb-true b 128 e)) h
    at false e = absurd (true≢false (sym h ∙ query_high b (ltb-false b 128 e)))

letter_of_target : (b : ℕ) → is_ascii_alphanumeric b ≡ true → IsOfTarget b
letter_of_target b h =
    or_left (stays_in_path b) (list_any (λ c. c == b) (codes "%&=?")) (or_left (is_ascii_alphanumeric b) (list_any (λ c. c == b) (codes "-._~/:@")) h)

escape_of_target : (b : ℕ) → IsEscapeByte b → IsOfTarget b
escape_of_target b (inl e) = subst IsOfTarget (sym e) refl
escape_of_target b (inr (inl r)) =
    letter_of_target b
    (or_left (is_in_range 48 57 b || is_in_range 65 90 b) (is_in_range 97 122 b)
    (or_left (is_in_range 48 57 b) (is_in_range 65 90 b) (in_range 48 57 b r.0 r.1)))
escape_of_target b (inr (inr r)) =
    letter_of_target b
    (or_left (is_in_range 48 57 b || is_in_range 65 90 b) (is_in_range 97 122 b)
    (or_right (is_in_range 48 57 b) (is_in_range 65 90 b) (let top = r.1 in in_range 65 90 b r.0 (omega (arith, top)))))

escaped_all : (stays : ℕ → Bool) → ((b : ℕ) → stays b ≡ true → IsOfTarget b) → (text : List ℕ) → All IsOfTarget (escaped stays text)
escaped_all stays kept [] = All-nil IsOfTarget
escaped_all stays kept (b ∷ text) =
    All-append IsOfTarget (if stays b then b ∷ [] else percent_encode_byte b) (escaped stays text) (at (stays b) refl) (escaped_all stays kept text)
  where
    at : (v : Bool) → stays b ≡ v → All IsOfTarget (if v then b ∷ [] else percent_encode_byte b)
    at true e = All-cons IsOfTarget b [] (kept b e) (All-nil IsOfTarget)
    at false e = All-weaker IsEscapeByte IsOfTarget escape_of_target (percent_encode_byte b) (All-percent_encode_byte b)

abbrev AreNames : List Var → Type 0
AreNames [] = Unit {0}
AreNames (p ∷ ps) = (list_all is_target_byte p.name ≡ true) × AreNames ps

literal : (text : List ℕ) → list_all is_target_byte text ≡ true → All IsOfTarget text
literal text h = AllPass-from_list_all is_target_byte text h

pair_all : (p : Var) → list_all is_target_byte p.name ≡ true → All IsOfTarget (print_pair p)
pair_all p h =
    All-append IsOfTarget (p.name ++ codes "=") (escaped stays_in_query p.value)
    (All-append IsOfTarget p.name (codes "=") (literal p.name h) (literal (codes "=") refl))
    (escaped_all stays_in_query query_is_path p.value)

more_all : (ps : List Var) → AreNames ps → All IsOfTarget (print_more ps)
more_all [] h = All-nil IsOfTarget
more_all (p ∷ ps) h =
    All-append IsOfTarget (codes "&" ++ print_pair p) (print_more ps)
    (All-append IsOfTarget (codes "&") (print_pair p) (literal (codes "&") refl) (pair_all p h.0)) (more_all ps h.1)

query_all : (ps : List Var) → AreNames ps → All IsOfTarget (print_query ps)
query_all [] h = All-nil IsOfTarget
query_all (p ∷ ps) h =
    All-append IsOfTarget (codes "?" ++ print_pair p) (print_more ps)
    (All-append IsOfTarget (codes "?") (print_pair p) (literal (codes "?") refl) (pair_all p h.0)) (more_all ps h.1)

platform_names : (platform : Option (List ℕ)) → AreNames (pairs_for (codes "platform") platform)
platform_names None = tt
platform_names (Some platform) = (refl, tt)

names : (request : Request) → AreNames (query_of request)
names (Request.ListContainers project) = (refl, (refl, tt))
names (Request.Inspect id) = tt
names (Request.Logs id) = (refl, (refl, tt))
names (Request.Create name spec) = (refl, platform_names spec.platform)
names (Request.Start id) = tt
names (Request.Stop id seconds) = (refl, tt)
names (Request.Remove id) = tt
names Request.ListNetworks = tt
names (Request.MakeNetwork spec) = tt
names (Request.Connect network container aliases) = tt
names (Request.RemoveNetwork id) = tt
names Request.ListVolumes = tt
names (Request.MakeVolume spec) = tt
names (Request.RemoveVolume name) = tt
names (Request.Image name) = tt
names (Request.Pull name) = (refl, (refl, tt))

target_all : (request : Request) → All IsOfTarget (target_of request)
unfolding target_of
target_all request =
    All-append IsOfTarget (codes "/v1.43" ++ escaped stays_in_path (path_of request)) (print_query (query_of request))
    (All-append IsOfTarget (codes "/v1.43") (escaped stays_in_path (path_of request)) (literal (codes "/v1.43") refl)
    (escaped_all stays_in_path (λ b h. or_left (stays_in_path b) (list_any (λ c. c == b) (codes "%&=?")) h) (path_of request)))
    (query_all (query_of request) (names request))

pub target_visible : (request : Request) → AllPass is_uri_byte (target_of request)
target_visible request = All-weaker IsOfTarget (λ b. IsTrue (is_uri_byte b)) visible (target_of request) (target_all request)

pub target_utf8 : (request : Request) → IsUtf8 (target_of request)
target_utf8 request =
    IsUtf8-from_ascii (target_of request) (IsAscii-from_all (target_of request) (All-weaker IsOfTarget (λ b. b < 128) ascii (target_of request) (target_all request)))

pub target_some : (request : Request) → 0 < length (target_of request)
unfolding target_of
target_some request = omega arith

-- the digits of a number are bytes of a field's value
pub digits_of_value : (n : ℕ) → n < 2 ^ 64 → AllPass is_value_byte (32 ∷ decimal n)
digits_of_value n fits =
    let numeral = decimal_is_IsNumeral n fits in
    All-cons (λ b. IsTrue (is_value_byte b)) 32 (decimal n) refl
    (All-from_get_or (λ b. IsTrue (is_value_byte b)) (decimal n) 0
    (λ i within. let d = digit_at (decimal n) i numeral.0.1 within in digit_of_value (get_or (decimal n) i 0) d.0 d.1))
  where
    digit_of_value : (b : ℕ) → 48 ≤ b → b ≤ 57 → is_value_byte b ≡ true
    digit_of_value b low high =
        implied (is_in_range 48 57 b) (is_value_byte b) (agree_below_at (λ x. not (is_in_range 48 57 x) || is_value_byte x) (λ _. true) 128 b refl (omega (arith, high)))
        (in_range 48 57 b low high)
