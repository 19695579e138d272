-- The words of a page: which stand as they are, and which in double quotes (YAML 1.2, chapters 5.7, 7.3.1 and 7.3.3).
use Rattle.std.specs.Prelude.{ℕ, ◌/◌, ◌%◌, List, [], ◌∷◌, ◌++◌, Bool, false, not, codes, flat_map, nat_eq, nat_le, nat_lt, ◌==◌, ◌&&◌, ◌||◌, if◌then◌else◌}
use Rattle.std.specs.Char.{digit_char, is_ascii_alphabetic, is_ascii_alphanumeric, to_ascii_uppercase}
use Rattle.std.specs.List.{ends_with, list_all, list_any}
use Rattle.std.specs.Str.{bytes_eq, str_to_ascii_lowercase}

-- a dollar is printed twice, since a file is read with two of them for one
abbrev pub doubled_byte : ℕ → List ℕ
doubled_byte c = if c == 36 then 36 ∷ 36 ∷ [] else c ∷ []

-- a text with each dollar twice
abbrev pub doubled : List ℕ → List ℕ
doubled text = flat_map doubled_byte text

-- an ASCII letter or `/`, with which a plain word begins
abbrev pub is_plain_start : ℕ → Bool
is_plain_start c = is_ascii_alphabetic c || (c == 47)

-- an ASCII letter, a digit or one of `_ - . / :`, of which a plain word is made
abbrev pub is_plain_byte : ℕ → Bool
is_plain_byte c = is_ascii_alphanumeric c || ((c == 95) || ((c == 45) || ((c == 46) || ((c == 47) || (c == 58)))))

-- the first byte is one with which a plain word begins
abbrev pub begins_plain : List ℕ → Bool
begins_plain [] = false
begins_plain (c ∷ cs) = is_plain_start c

-- the words that some YAML takes for a bool or for null
abbrev pub reserved_words : List (List ℕ)
reserved_words =
    codes "true" ∷ codes "false" ∷ codes "null" ∷ codes "yes" ∷ codes "no" ∷ codes "on" ∷ codes "off" ∷ codes "y" ∷ codes "n" ∷ []

-- one of these words, in any case
abbrev pub is_reserved : List ℕ → Bool
is_reserved text = list_any (bytes_eq (str_to_ascii_lowercase text)) reserved_words

-- it has the characters of a plain word
abbrev pub is_word : List ℕ → Bool
is_word text = begins_plain text && list_all is_plain_byte text

-- it would be read as something else: as a key with its colon, as a bool or as null
abbrev pub means_more : List ℕ → Bool
means_more text = ends_with nat_eq text (codes ":") || is_reserved text

-- a text that stands without quotes
abbrev pub is_plain : List ℕ → Bool
is_plain text = is_word text && not (means_more text)

-- a hexadecimal digit in upper case
abbrev pub upper_digit : ℕ → ℕ
upper_digit d = to_ascii_uppercase (digit_char d)

-- a character in double quotes: quotes and backslashes have a backslash before them, line ends and tabs have letters, and other control characters two digits
abbrev pub escaped : ℕ → List ℕ
escaped c =
    if (c == 34) || (c == 92) then 92 ∷ c ∷ []
    else (if c == 10 then codes "\\n"
    else (if c == 13 then codes "\\r"
    else (if c == 9 then codes "\\t"
    else (if nat_lt c 32 || (c == 127) then 92 ∷ 120 ∷ upper_digit (c / 16) ∷ upper_digit (c % 16) ∷ []
    else c ∷ []))))

-- a byte that stands in double quotes as it is
abbrev pub stands_in_quotes : ℕ → Bool
stands_in_quotes c = nat_le 32 c && (not (c == 34) && (not (c == 92) && not (c == 127)))

-- a text in double quotes
abbrev pub in_quotes : List ℕ → List ℕ
in_quotes text = 34 ∷ (flat_map escaped text ++ 34 ∷ [])

-- a text or a key as a page has it
abbrev pub scalar : List ℕ → List ℕ
scalar text = if is_plain text then text else in_quotes text
