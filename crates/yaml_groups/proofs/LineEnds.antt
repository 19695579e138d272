-- What is read on a line doesn't look behind the line's end, and no token goes over it.
use Rattle.std.proofs.Common.{◌≡◌, ◌∙◌, ℕ, zero, suc, ◌+◌, ◌*◌, ◌≤◌, ◌==◌, ◌||◌, ◌&&◌, List, [], ◌∷◌, ◌++◌, Bool, true, false, not, nat_lt, Option, Some, None, take, drop, length, refl, ap, arith, if◌then◌else◌}
use Rattle.std.proofs.lemmas.Bool.{cond_both}
use Rattle.std.proofs.lemmas.List.{drop-append-le, length-drop, length-take, take-append-le}
use Rattle.std.specs.Char.{digit_value}
use Rattle.std.specs.Option.{option_and_then, option_map}
use Rattle.yaml_groups.specs.Cuts.{line_len, quoted_token, token_len, with_colon}
use Rattle.yaml_lines.specs.Blanks.{blanks, is_white}
use Rattle.yaml_lines.specs.declared.plain.Context.TheVariants.{Flow}
use Rattle.yaml_lines.specs.Plain.{begins_plain, ends_item, ends_plain, is_colon, is_flow_mark, is_indicator, is_mark_before_space, is_space_or_end, plain_len, plain_run, trimmed_len}
use Rattle.yaml_lines.specs.Quoted.{behind_quote, double_of, escape_of, hex_of, quoted_of, scalar_value, short_escape, single_of}
use Rattle.yaml_lines.specs.Spelling.{after}
use Rattle.yaml_nodes.specs.Marks.{is_property, is_quote, name_len, read_len, starts}

-- nothing, or a line's end and what stands behind it
abbrev pub ended_by : Option (List ℕ) → List ℕ
ended_by None = []
ended_by (Some more) = 10 ∷ more

-- how many characters an escape takes behind its backslash
abbrev reach : Option (ℕ × ℕ) → ℕ
reach None = 0
reach (Some escape) = escape.1

read_after : (us : List ℕ) (n : ℕ) (read : Option (List ℕ × ℕ)) → read_len (after us n read) ≤ n + read_len read
read_after us n None = omega arith
read_after us n (Some read) = omega arith

space_end : (cs : List ℕ) (behind : Option (List ℕ)) → is_space_or_end (cs ++ ended_by behind) ≡ is_space_or_end cs
space_end [] None = refl
space_end [] (Some more) = refl
space_end (c ∷ cs) behind = refl

colon_end : (cs : List ℕ) (behind : Option (List ℕ)) → is_colon (cs ++ ended_by behind) ≡ is_colon cs
colon_end [] None = refl
colon_end [] (Some more) = refl
colon_end (c ∷ cs) behind = ap (λ b. (c == 58) && b) (space_end cs behind)

name_end : (cs : List ℕ) (behind : Option (List ℕ)) → name_len (cs ++ ended_by behind) ≡ name_len cs
name_end [] None = refl
name_end [] (Some more) = refl
name_end (c ∷ cs) behind = let rest = name_end cs behind in λ i. if (c == 32) || ((c == 10) || is_flow_mark c) then 0 else rest i + 1

name_within : (cs : List ℕ) → name_len cs ≤ length cs
name_within [] = omega arith
name_within (c ∷ cs) =
    let rest = name_within cs in
    cond_both {A = ℕ} ((c == 32) || ((c == 10) || is_flow_mark c)) 0 (name_len cs + 1) (λ n. n ≤ length (c ∷ cs)) (λ e. omega arith) (λ e. omega arith)

line_end : (cs : List ℕ) (behind : Option (List ℕ)) → line_len (cs ++ ended_by behind) ≡ line_len cs
line_end [] None = refl
line_end [] (Some more) = refl
line_end (c ∷ cs) behind = let rest = line_end cs behind in λ i. if c == 10 then 0 else rest i + 1

line_within : (cs : List ℕ) → line_len cs ≤ length cs
line_within [] = omega arith
line_within (c ∷ cs) =
    let rest = line_within cs in
    cond_both {A = ℕ} (c == 10) 0 (line_len cs + 1) (λ n. n ≤ length (c ∷ cs)) (λ e. omega arith) (λ e. omega arith)

blanks_end : (cs : List ℕ) (behind : Option (List ℕ)) → blanks (cs ++ ended_by behind) ≡ blanks cs
blanks_end [] None = refl
blanks_end [] (Some more) = refl
blanks_end (c ∷ cs) behind = let rest = blanks_end cs behind in λ i. if is_white c then rest i + 1 else 0

blanks_within : (cs : List ℕ) → blanks cs ≤ length cs
blanks_within [] = omega arith
blanks_within (c ∷ cs) =
    let rest = blanks_within cs in
    cond_both {A = ℕ} (is_white c) (blanks cs + 1) 0 (λ n. n ≤ length (c ∷ cs)) (λ e. omega arith) (λ e. omega arith)

begins_end : (cs : List ℕ) (behind : Option (List ℕ)) → begins_plain (cs ++ ended_by behind) ≡ begins_plain cs
begins_end [] None = refl
begins_end [] (Some more) = refl
begins_end (c ∷ cs) behind =
    ap (λ b. if is_mark_before_space c then not b else not (is_white c || ((c == 10) || (is_flow_mark c || is_indicator c)))) (space_end cs behind)

run_end : (white : Bool) (cs : List ℕ) (behind : Option (List ℕ)) → plain_run Flow white (cs ++ ended_by behind) ≡ plain_run Flow white cs
run_end white [] None = refl
run_end white [] (Some more) = refl
run_end white (c ∷ cs) behind =
    let colon = colon_end (c ∷ cs) behind in
    let rest = run_end (is_white c) cs behind in
    λ i. if colon i || (((c == 35) && white) || ((c == 10) || ends_item Flow c)) then 0 else rest i + 1

run_within : (white : Bool) (cs : List ℕ) → plain_run Flow white cs ≤ length cs
run_within white [] = omega arith
run_within white (c ∷ cs) =
    let rest = run_within (is_white c) cs in
    cond_both {A = ℕ} (ends_plain Flow white (c ∷ cs)) 0 (plain_run Flow (is_white c) cs + 1) (λ n. n ≤ length (c ∷ cs)) (λ e. omega arith) (λ e. omega arith)

trimmed_within : (cs : List ℕ) → trimmed_len cs ≤ length cs
trimmed_within [] = omega arith
trimmed_within (c ∷ cs) =
    let rest = trimmed_within cs in
    cond_both {A = ℕ} (is_white c && (trimmed_len cs == 0)) 0 (trimmed_len cs + 1) (λ n. n ≤ length (c ∷ cs)) (λ e. omega arith) (λ e. omega arith)

plain_end : (cs : List ℕ) (behind : Option (List ℕ)) → plain_len Flow (cs ++ ended_by behind) ≡ plain_len Flow cs
plain_end cs behind =
    ap (λ n. trimmed_len (take n (cs ++ ended_by behind))) (run_end false cs behind)
    ∙ ap trimmed_len (take-append-le (plain_run Flow false cs) cs (ended_by behind) (run_within false cs))

plain_within : (cs : List ℕ) → plain_len Flow cs ≤ length cs
plain_within cs =
    let run = take (plain_run Flow false cs) cs in
    let trimmed = trimmed_within run in
    let len = length-take (plain_run Flow false cs) cs in
    let within = run_within false cs in
    omega arith

one_quote : (a b : Bool) → ◌≡◌ {A = Option (List ℕ × ℕ)} (if a then Some ([], 1) else (if b then None else None)) (if a then Some ([], 1) else None)
one_quote true b = refl
one_quote false true = refl
one_quote false false = refl

single_end : (cs : List ℕ) (behind : Option (List ℕ)) → single_of (cs ++ ended_by behind) ≡ single_of cs
single_end [] None = refl
single_end [] (Some []) = refl
single_end [] (Some (d ∷ more)) = refl
single_end (c ∷ []) None = refl
single_end (c ∷ []) (Some more) =
    let step : Option (List ℕ × ℕ) → Option (List ℕ × ℕ) = λ read. if c == 39 then Some ([], 1) else (if c == 10 then None else after (c ∷ []) 1 read) in
    ap step (single_end [] (Some more)) ∙ one_quote (c == 39) (c == 10)
single_end (c ∷ d ∷ cs) behind =
    let two = single_end cs behind in
    let one = single_end (d ∷ cs) behind in
    λ i. if c == 39 then (if d == 39 then after (39 ∷ []) 2 (two i) else Some ([], 1)) else (if c == 10 then None else after (c ∷ []) 1 (one i))

single_within : (cs : List ℕ) → read_len (single_of cs) ≤ length cs
single_within [] = omega arith
single_within (c ∷ []) = cond_both {A = Option (List ℕ × ℕ)} (c == 39) (Some ([], 1)) None (λ read. read_len read ≤ 1) (λ e. omega arith) (λ e. omega arith)
single_within (c ∷ d ∷ cs) =
    let n = length (c ∷ d ∷ cs) in
    let two = single_within cs in
    let one = single_within (d ∷ cs) in
    let longer = read_after (39 ∷ []) 2 (single_of cs) in
    let long = read_after (c ∷ []) 1 (single_of (d ∷ cs)) in
    cond_both {A = Option (List ℕ × ℕ)} (c == 39) _ _ (λ read. read_len read ≤ n)
    (λ e. cond_both {A = Option (List ℕ × ℕ)} (d == 39) (after (39 ∷ []) 2 (single_of cs)) (Some ([], 1)) (λ read. read_len read ≤ n) (λ e. omega arith) (λ e. omega arith))
    (λ e. cond_both {A = Option (List ℕ × ℕ)} (c == 10) None (after (c ∷ []) 1 (single_of (d ∷ cs))) (λ read. read_len read ≤ n) (λ e. omega arith) (λ e. omega arith))

hex_end : (digits n : ℕ) (cs : List ℕ) (behind : Option (List ℕ)) → hex_of digits n (cs ++ ended_by behind) ≡ hex_of digits n cs
hex_end zero n cs behind = refl
hex_end (suc digits) n [] None = refl
hex_end (suc digits) n [] (Some more) = refl
hex_end (suc digits) n (c ∷ cs) behind = ap (λ read. if nat_lt (digit_value c) 16 then read else None) (hex_end digits (n * 16 + digit_value c) cs behind)

no_digits : (n : ℕ) (found : Option ℕ) → reach (option_map (λ d. (d, 0)) found) ≤ n
no_digits n None = omega arith
no_digits n (Some d) = omega arith

-- digits are all there, where they are a character's number
hex_within : (digits n : ℕ) (cs : List ℕ) → reach (option_map (λ d. (d, digits)) (hex_of digits n cs)) ≤ length cs
hex_within zero n cs = no_digits (length cs) (scalar_value n)
hex_within (suc digits) n [] = omega arith
hex_within (suc digits) n (c ∷ cs) =
    let more = hex_of digits (n * 16 + digit_value c) cs in
    cond_both {A = Option ℕ} (nat_lt (digit_value c) 16) more None (λ found. reach (option_map (λ d. (d, suc digits)) found) ≤ length (c ∷ cs)) (λ e. one_more more (hex_within digits (n * 16 + digit_value c) cs)) (λ e. omega arith)
  where
    one_more : (found : Option ℕ) → reach (option_map (λ d. (d, digits)) found) ≤ length cs → reach (option_map (λ d. (d, suc digits)) found) ≤ length (c ∷ cs)
    one_more None h = omega arith
    one_more (Some d) h = omega arith

escape_end : (cs : List ℕ) (behind : Option (List ℕ)) → escape_of (cs ++ ended_by behind) ≡ escape_of cs
escape_end [] None = refl
escape_end [] (Some more) = refl
escape_end (c ∷ cs) behind =
    let two = hex_end 2 0 cs behind in
    let four = hex_end 4 0 cs behind in
    let eight = hex_end 8 0 cs behind in
    λ i. if c == 120 then option_map (λ d. (d, 3)) (two i)
    else (if c == 117 then option_map (λ d. (d, 5)) (four i)
    else (if c == 85 then option_map (λ d. (d, 9)) (eight i) else option_map (λ d. (d, 1)) (short_escape c)))

-- an escape is no longer than what is left, by its digits and the letter before them
digits_within : (digits n : ℕ) (found : Option ℕ) → reach (option_map (λ d. (d, digits)) found) ≤ n → reach (option_map (λ d. (d, digits + 1)) found) ≤ n + 1
digits_within digits n None h = omega arith
digits_within digits n (Some d) h = omega arith

escape_within : (cs : List ℕ) → reach (escape_of cs) ≤ length cs
escape_within [] = omega arith
escape_within (c ∷ cs) =
    let n = length (c ∷ cs) in
    let more : length cs + 1 ≡ n = omega arith in
    let two = digits_within 2 (length cs) (hex_of 2 0 cs) (hex_within 2 0 cs) in
    let four = digits_within 4 (length cs) (hex_of 4 0 cs) (hex_within 4 0 cs) in
    let eight = digits_within 8 (length cs) (hex_of 8 0 cs) (hex_within 8 0 cs) in
    cond_both {A = Option (ℕ × ℕ)} (c == 120) (option_map (λ d. (d, 3)) (hex_of 2 0 cs)) _ (λ escape. reach escape ≤ n) (λ e. omega arith)
    (λ e. cond_both {A = Option (ℕ × ℕ)} (c == 117) (option_map (λ d. (d, 5)) (hex_of 4 0 cs)) _ (λ escape. reach escape ≤ n) (λ e. omega arith)
    (λ e. cond_both {A = Option (ℕ × ℕ)} (c == 85) (option_map (λ d. (d, 9)) (hex_of 8 0 cs)) (option_map (λ d. (d, 1)) (short_escape c)) (λ escape. reach escape ≤ n) (λ e. omega arith) (λ e. short (short_escape c))))
  where
    short : (found : Option ℕ) → reach (option_map (λ d. (d, 1)) found) ≤ length (c ∷ cs)
    short None = omega arith
    short (Some d) = omega arith

module _ (cs : List ℕ) (behind : Option (List ℕ)) (rest : (skip : ℕ) → skip ≤ length cs → double_of skip (cs ++ ended_by behind) ≡ double_of skip cs) where
  escaped_end : (escape : Option (ℕ × ℕ)) → reach escape ≤ length cs
      → option_and_then (λ e. after (e.0 ∷ []) 1 (double_of e.1 (cs ++ ended_by behind))) escape ≡ option_and_then (λ e. after (e.0 ∷ []) 1 (double_of e.1 cs)) escape
  escaped_end None h = refl
  escaped_end (Some e) h = ap (after (e.0 ∷ []) 1) (rest e.1 h)

double_end : (skip : ℕ) (cs : List ℕ) (behind : Option (List ℕ)) → skip ≤ length cs → double_of skip (cs ++ ended_by behind) ≡ double_of skip cs
double_end zero [] None h = refl
double_end zero [] (Some more) h = refl
double_end (suc skip) [] behind h = absurd (omega arith)
double_end (suc skip) (c ∷ cs) behind h = ap (after [] 1) (double_end skip cs behind (omega arith))
double_end zero (c ∷ cs) behind h =
    let same = escape_end cs behind in
    let escaped = ap (option_and_then (λ e. after (e.0 ∷ []) 1 (double_of e.1 (cs ++ ended_by behind)))) same ∙ escaped_end cs behind (λ skip h. double_end skip cs behind h) (escape_of cs) (escape_within cs) in
    let next = double_end zero cs behind (omega arith) in
    λ i. if c == 34 then Some ([], 1) else (if c == 10 then None else (if c == 92 then escaped i else after (c ∷ []) 1 (next i)))

module _ (cs : List ℕ) (rest : (skip : ℕ) → read_len (double_of skip cs) ≤ length cs) where
  escaped_within : (escape : Option (ℕ × ℕ)) → read_len (option_and_then (λ e. after (e.0 ∷ []) 1 (double_of e.1 cs)) escape) ≤ length cs + 1
  escaped_within None = omega arith
  escaped_within (Some e) = let long = read_after (e.0 ∷ []) 1 (double_of e.1 cs) in let more = rest e.1 in omega arith

double_within : (skip : ℕ) (cs : List ℕ) → read_len (double_of skip cs) ≤ length cs
double_within skip [] = omega arith
double_within (suc skip) (c ∷ cs) = let long = read_after [] 1 (double_of skip cs) in let more = double_within skip cs in omega arith
double_within zero (c ∷ cs) =
    let n = length (c ∷ cs) in
    let escaped = escaped_within cs (λ skip. double_within skip cs) (escape_of cs) in
    let long = read_after (c ∷ []) 1 (double_of zero cs) in
    let more = double_within zero cs in
    cond_both {A = Option (List ℕ × ℕ)} (c == 34) (Some ([], 1)) _ (λ read. read_len read ≤ n) (λ e. omega arith)
    (λ e. cond_both {A = Option (List ℕ × ℕ)} (c == 10) None _ (λ read. read_len read ≤ n) (λ e. omega arith)
    (λ e. cond_both {A = Option (List ℕ × ℕ)} (c == 92) (option_and_then (λ e. after (e.0 ∷ []) 1 (double_of e.1 cs)) (escape_of cs)) (after (c ∷ []) 1 (double_of zero cs)) (λ read. read_len read ≤ n) (λ e. omega arith) (λ e. omega arith)))

quoted_end : (cs : List ℕ) (behind : Option (List ℕ)) → quoted_of (cs ++ ended_by behind) ≡ quoted_of cs
quoted_end [] None = refl
quoted_end [] (Some more) = refl
quoted_end (c ∷ cs) behind =
    let single = single_end cs behind in
    let double = double_end 0 cs behind (omega arith) in
    λ i. after [] 1 (if c == 39 then single i else (if c == 34 then double i else None))

quoted_within : (cs : List ℕ) → read_len (quoted_of cs) ≤ length cs
quoted_within [] = omega arith
quoted_within (c ∷ cs) =
    let long = read_after [] 1 (behind_quote c cs) in
    let single = single_within cs in
    let double = double_within 0 cs in
    let inside : read_len (behind_quote c cs) ≤ length cs =
    cond_both {A = Option (List ℕ × ℕ)} (c == 39) (single_of cs) _ (λ read. read_len read ≤ length cs) (λ e. omega arith) (λ e. cond_both {A = Option (List ℕ × ℕ)} (c == 34) (double_of 0 cs) None (λ read. read_len read ≤ length cs) (λ e. omega arith) (λ e. omega arith)) in
    omega arith

colon_starts : (cs : List ℕ) (behind : Option (List ℕ)) → starts 58 (cs ++ ended_by behind) ≡ starts 58 cs
colon_starts [] None = refl
colon_starts [] (Some more) = refl
colon_starts (c ∷ cs) behind = refl

with_colon_end : (len : ℕ) (cs : List ℕ) (behind : Option (List ℕ)) → with_colon len (cs ++ ended_by behind) ≡ with_colon len cs
with_colon_end len cs behind =
    let n = blanks_end cs behind in
    let colon : starts 58 (drop (blanks (cs ++ ended_by behind)) (cs ++ ended_by behind)) ≡ starts 58 (drop (blanks cs) cs) =
    ap (λ n. starts 58 (drop n (cs ++ ended_by behind))) n ∙ ap (starts 58) (drop-append-le (blanks cs) cs (ended_by behind) (blanks_within cs)) ∙ colon_starts (drop (blanks cs) cs) behind in
    λ i. if colon i then len + n i + 1 else len

starts_some : (c : ℕ) (cs : List ℕ) → starts c cs ≡ true → 1 ≤ length cs
starts_some c [] h = absurd (cc)
starts_some c (d ∷ cs) h = omega arith

with_colon_within : (len : ℕ) (cs : List ℕ) → with_colon len cs ≤ len + length cs
with_colon_within len cs =
    let within = blanks_within cs in
    let left = length-drop (blanks cs) cs in
    cond_both {A = ℕ} (starts 58 (drop (blanks cs) cs)) (len + blanks cs + 1) len (λ n. n ≤ len + length cs) (λ e. let some = starts_some 58 (drop (blanks cs) cs) e in omega arith) (λ e. omega arith)

quoted_token_end : (cs : List ℕ) (behind : Option (List ℕ)) → quoted_token (cs ++ ended_by behind) ≡ quoted_token cs
quoted_token_end cs behind =
    ap (λ read. with_colon (read_len read) (drop (read_len read) (cs ++ ended_by behind))) (quoted_end cs behind)
    ∙ ap (with_colon (read_len (quoted_of cs))) (drop-append-le (read_len (quoted_of cs)) cs (ended_by behind) (quoted_within cs))
    ∙ with_colon_end (read_len (quoted_of cs)) (drop (read_len (quoted_of cs)) cs) behind

quoted_token_within : (cs : List ℕ) → quoted_token cs ≤ length cs
quoted_token_within cs =
    let len = read_len (quoted_of cs) in
    let within = quoted_within cs in
    let left = length-drop len cs in
    let whole = with_colon_within len (drop len cs) in
    omega arith

-- a token of a flow collection doesn't look behind its line's end
pub token_end : (white : Bool) (c : ℕ) (cs : List ℕ) (behind : Option (List ℕ)) → token_len white (c ∷ cs ++ ended_by behind) ≡ token_len white (c ∷ cs)
token_end white c cs behind =
    let line = line_end (c ∷ cs) behind in
    let quoted = quoted_token_end (c ∷ cs) behind in
    let name = name_end cs behind in
    let begins = begins_end (c ∷ cs) behind in
    let plain = plain_end (c ∷ cs) behind in
    λ i. if (c == 35) && white then line i
    else (if is_quote (c ∷ cs) then quoted i
    else (if is_property (c ∷ cs) || (c == 42) then 1 + name i
    else (if begins i then plain i else 1)))

-- nor does it go over it
pub token_within : (white : Bool) (c : ℕ) (cs : List ℕ) → token_len white (c ∷ cs) ≤ length (c ∷ cs)
token_within white c cs =
    let n = length (c ∷ cs) in
    let line = line_within (c ∷ cs) in
    let quoted = quoted_token_within (c ∷ cs) in
    let name = name_within cs in
    let plain = plain_within (c ∷ cs) in
    cond_both {A = ℕ} ((c == 35) && white) (line_len (c ∷ cs)) _ (λ len. len ≤ n) (λ e. omega arith)
    (λ e. cond_both {A = ℕ} (is_quote (c ∷ cs)) (quoted_token (c ∷ cs)) _ (λ len. len ≤ n) (λ e. omega arith)
    (λ e. cond_both {A = ℕ} (is_property (c ∷ cs) || (c == 42)) (1 + name_len cs) _ (λ len. len ≤ n) (λ e. omega arith)
    (λ e. cond_both {A = ℕ} (begins_plain (c ∷ cs)) (plain_len Flow (c ∷ cs)) 1 (λ len. len ≤ n) (λ e. omega arith) (λ e. omega arith))))
