-- The short words of the profile: names, keys, items, what a line may not begin with.
use Rattle.std.specs.Prelude.{ℕ, zero, suc, ◌+◌, List, [], ◌∷◌, Bool, true, false, Option, Some, None, drop, nat_lt, ◌==◌, ◌&&◌, ◌||◌, codes, if◌then◌else◌}
use Rattle.std.specs.Option.{option_map}
use Rattle.yaml_lines.specs.Blanks.{blanks, is_white, spaces}
use Rattle.yaml_lines.specs.declared.plain.Context.{Context}
use Rattle.yaml_lines.specs.declared.plain.Context.TheVariants.{Block, Flow}
use Rattle.yaml_lines.specs.Plain.{begins_plain, is_colon, is_flow_mark, is_space_or_end, plain_len}
use Rattle.yaml_lines.specs.Quoted.{quoted_of}

-- a text that starts with a character
abbrev pub starts : ℕ → List ℕ → Bool
starts c [] = false
starts c (d ∷ cs) = d == c

-- a text that starts with a word
abbrev pub starts_with : List ℕ → List ℕ → Bool
starts_with [] cs = true
starts_with (w ∷ ws) [] = false
starts_with (w ∷ ws) (c ∷ cs) = (w == c) && starts_with ws cs

-- an item of a block sequence begins: a dash before a space or the line's end
abbrev pub is_item : List ℕ → Bool
is_item [] = false
is_item (c ∷ cs) = (c == 45) && is_space_or_end cs

-- how long a name is, behind `&`, `*` or in a tag: to a space, the line's end or one of `, [ ] { }`
abbrev pub name_len : List ℕ → ℕ
name_len [] = 0
name_len (c ∷ cs) = if (c == 32) || ((c == 10) || is_flow_mark c) then 0 else name_len cs + 1

-- a property begins: `&` of an anchor, or `!` of a tag
abbrev pub is_property : List ℕ → Bool
is_property cs = starts 38 cs || starts 33 cs

-- how long a run of properties is, with the white space between and behind them; so many characters belong to one that began before
abbrev pub properties_len : ℕ → List ℕ → ℕ
properties_len skip [] = 0
properties_len (suc skip) (c ∷ cs) = properties_len skip cs + 1
properties_len zero (c ∷ cs) =
    if is_white c then properties_len 0 cs + 1
    else (if is_property (c ∷ cs) then properties_len (name_len cs) cs + 1 else 0)

-- how many characters the white space or the property takes that stands in front
abbrev pub front_len : List ℕ → ℕ
front_len [] = 0
front_len (c ∷ cs) = if is_white c then 1 else (if is_property (c ∷ cs) then name_len cs + 1 else 0)

-- a quote that opens a scalar
abbrev pub is_quote : List ℕ → Bool
is_quote cs = starts 39 cs || starts 34 cs

-- how many characters were read; 0 where what stands there is wrong
abbrev pub read_len : Option (List ℕ × ℕ) → ℕ
read_len None = 0
read_len (Some read) = read.1

-- how many characters were read, where any were
abbrev pub counted : Option (List ℕ × ℕ) → Option ℕ
counted read = option_map (λ p. p.1) read

-- how long the key is that stands here, or the alias in its place
abbrev pub key_len : Context → List ℕ → ℕ
key_len context cs =
    if is_quote cs then read_len (quoted_of cs)
    else (if starts 42 cs then 1 + name_len (drop 1 cs)
    else (if begins_plain cs then plain_len context cs else 0))

-- behind a key in quotes of a flow collection the value may follow the colon at once
abbrev pub may_follow_at_once : Context → List ℕ → Bool
may_follow_at_once Block key = false
may_follow_at_once Flow key = is_quote key

-- the colon of a key stands here
abbrev pub is_colon_of : Context → List ℕ → List ℕ → Bool
is_colon_of context key rest = is_colon rest || (may_follow_at_once context key && starts 58 rest)

-- how many characters stand before the colon of the key that stands here: the key and white space
abbrev pub before_colon : Context → List ℕ → ℕ
before_colon context cs = key_len context cs + blanks (drop (key_len context cs) cs)

-- a key with its colon stands here, on one line; an alias may stand in its place
abbrev pub is_key : Context → List ℕ → Bool
is_key context cs =
    nat_lt 0 (key_len context cs) && is_colon_of context cs (drop (before_colon context cs) cs)

-- a key stands here behind properties, or a colon alone, which has an empty key
abbrev pub is_key_behind : Context → List ℕ → Bool
is_key_behind context cs =
    let rest = drop (properties_len 0 cs) cs in is_key context rest || is_colon rest

-- a line that YAML knows and this profile leaves out: one with `---`, `...` or `%` at its first column, or `? ` behind its indentation
abbrev pub is_left_out : List ℕ → Bool
is_left_out cs =
    starts_with (codes "---") cs
    || (starts_with (codes "...") cs
    || (starts 37 cs || starts_with (codes "? ") (drop (spaces cs) cs)))
