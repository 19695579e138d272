-- What a value says, by the kind of value that its option or command takes.
use Rattle.std.specs.Prelude.{ℕ, ◌==◌, Bool, true, false, ◌&&◌, List, Option, Some, None, codes, length, nat_lt, nat_le, if◌then◌else◌}
use Rattle.std.specs.List.{position_or_len, before_first, after_first}
use Rattle.std.specs.Option.{option_map_or}
use Rattle.std.specs.Str.{bytes_eq, all_ascii_digits}
use Rattle.std.specs.Str.Parse.{digits_value}
use Rattle.tree_base.specs.Limits.{most_containers, most_workers}
use Rattle.compose_words.specs.declared.table.ValueKind.{ValueKind}
use Rattle.compose_words.specs.declared.content.Content.{Content}

-- what stands before and behind the first `=` of a text
abbrev pub split_at_equals : List ℕ → Option (List ℕ × List ℕ)
split_at_equals text =
    if nat_lt (position_or_len (λ b. b == 61) text) (length text)
    then Some (before_first (λ b. b == 61) text, after_first (λ b. b == 61) text) else None

-- decimal digits, one or more, and nothing else: leading zeros are allowed, a sign isn't
abbrev pub is_numeral : List ℕ → Bool
is_numeral text = nat_lt 0 (length text) && all_ascii_digits text

-- the number that a numeral writes, where it is within the bounds
abbrev pub number_content : ℕ → ℕ → List ℕ → Content
number_content least most text =
    if is_numeral text && (nat_le least (digits_value 10 text) && nat_le (digits_value 10 text) most)
    then Content.Number (digits_value 10 text) else Content.Wrong

-- a count of workers from 1 to 16, and -1 for 16
abbrev pub workers_content : List ℕ → Content
workers_content text = if bytes_eq (codes "-1") text then Content.Number most_workers else number_content 1 most_workers text

-- whether a page is JSON
abbrev pub format_content : List ℕ → Content
format_content text =
    if bytes_eq (codes "yaml") text then Content.Format false
    else (if bytes_eq (codes "json") text then Content.Format true else Content.Wrong)

-- a service, by a name that isn't empty, with a number of 0 to 100
abbrev pub scale_of : List ℕ → List ℕ → Content
scale_of service number =
    if length service == 0 then Content.Wrong
    else (if is_numeral number && nat_le (digits_value 10 number) most_containers
    then Content.Scale (record { service = service; number = digits_value 10 number }) else Content.Wrong)

-- a service and a number with `=` between them
abbrev pub scale_content : List ℕ → Content
scale_content text = option_map_or (λ parts. scale_of parts.0 parts.1) (split_at_equals text) Content.Wrong

-- what a value of this kind says
abbrev pub content_of : ValueKind → List ℕ → Content
content_of ValueKind.Flag text = Content.Wrong
content_of ValueKind.Text text = Content.Text text
content_of (ValueKind.Number least most) text = number_content least most text
content_of ValueKind.Workers text = workers_content text
content_of ValueKind.Format text = format_content text
content_of ValueKind.Scale text = scale_content text
