-- Words of nodes: which of them JSON tells from all else, and where they stand in pages.
use Rattle.std.specs.Prelude.{◌≡◌, ℕ, ℤ, ◌==◌, ◌&&◌, ◌||◌, Bool, true, false, not, List, [], ◌∷◌, nat_le}
use Rattle.std.specs.Fmt.{decimal, signed_decimal}
use Rattle.std.specs.List.{list_all}
use Rattle.std.specs.Map.{values_of}
use Rattle.project_print.specs.declared.node.Node.{Node, fold-Node}
use Rattle.project_print.specs.declared.node.Node.TheOpen.{Node-F}
use Rattle.short_forms.specs.MountLaws.{flag_word}

-- whether the words of a node pass a test, where its parts are given by whether theirs do
abbrev pub words_step : (List ℕ → Bool) → Node-F Bool → Bool
words_step test Node-F.Null = true
words_step test (Node-F.Word text) = test text
words_step test (Node-F.Text text) = true
words_step test (Node-F.Map entries) = list_all (λ is. is) (values_of entries)
words_step test (Node-F.Seq items) = list_all (λ is. is) items

-- whether the words of a node pass a test
abbrev pub all_words : (List ℕ → Bool) → Node → Bool
all_words test = fold-Node Bool (words_step test)

-- a byte of a number or of a flag: a small ASCII letter, a digit or a minus (RFC 8259, chapters 3 and 6)
abbrev pub is_word_byte : ℕ → Bool
is_word_byte c = (nat_le 97 c && nat_le c 122) || ((nat_le 48 c && nat_le c 57) || (c == 45))

-- a word of such bytes that doesn't begin as `null` does
abbrev pub is_word : List ℕ → Bool
is_word [] = false
is_word (c ∷ cs) = not (c == 110) && list_all is_word_byte (c ∷ cs)

-- whether the words of a node are such
abbrev pub has_words : Node → Bool
has_words = all_words is_word

-- numbers, also below zero, and flags pass a test
pub record PassesWords (test : List ℕ → Bool) : Type 0 where
  pub number : (n : ℕ) → test (decimal n) ≡ true
  pub integer : (z : ℤ) → test (signed_decimal z) ≡ true
  pub flag : (b : Bool) → test (flag_word b) ≡ true
