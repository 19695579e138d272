-- Laws: what is printed reads back, and words are cut as they were joined.
use Rattle.std.specs.Prelude.{◌≡◌, ◌≤◌, ℕ, Bool, true, ◌&&◌, nat_lt, List, map, length, Some}
use Rattle.std.specs.Fmt.{decimal}
use Rattle.std.specs.List.{join_with_byte, list_all}
use Rattle.tree_base.specs.Limits.{greatest_decimal, greatest_duration, greatest_number}
use Rattle.short_forms.specs.Decimals.{decimal_of}
use Rattle.short_forms.specs.Durations.{duration_of}
use Rattle.short_forms.specs.Printed.{decimal_text, duration_text}
use Rattle.short_forms.specs.Sizes.{size_of}
use Rattle.short_forms.specs.Spelling.{Piece, is_plain, is_word, word_bytes, word_text}
use Rattle.short_forms.specs.Words.{words_of}

-- a duration, as a page prints it, reads back to its microseconds
abbrev pub DurationsReadBack : Type 0
DurationsReadBack = (micros : ℕ) → micros ≤ greatest_duration → duration_of (duration_text micros) ≡ Some micros

-- a size, as a page prints it, reads back to its bytes
abbrev pub SizesReadBack : Type 0
SizesReadBack = (bytes : ℕ) → bytes ≤ greatest_number → size_of (decimal bytes) ≡ Some bytes

-- a decimal, as a page prints it, reads back to its billionths
abbrev pub DecimalsReadBack : Type 0
DecimalsReadBack = (billionths : ℕ) → billionths ≤ greatest_decimal → decimal_of (decimal_text billionths) ≡ Some billionths

-- a word that needs no quotes
abbrev pub is_plain_word : List ℕ → Bool
is_plain_word word = nat_lt 0 (length word) && list_all is_plain word

-- words that need no quotes, with a space between each two, are cut into themselves
abbrev pub PlainWordsStay : Type 0
PlainWordsStay = (words : List (List ℕ)) → list_all is_plain_word words ≡ true → words_of (join_with_byte 32 words) ≡ Some words

-- words that are spelled in any pieces, with a space between each two, are cut into what they say
abbrev pub SpelledWordsRead : Type 0
SpelledWordsRead =
    (words : List (List Piece)) → list_all is_word words ≡ true → words_of (join_with_byte 32 (map word_text words)) ≡ Some (map word_bytes words)
