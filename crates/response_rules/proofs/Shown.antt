-- The heads of the worked examples, and how a response and its faults are shown of them.
use Rattle.std.proofs.Common.{◌≡◌, ℕ, ◌+◌, ◌≤◌, Bool, true, List, [], ◌∷◌, ◌++◌, length, Some, refl, lit≤}
use Rattle.std.specs.Prelude.{All}
use Rattle.std.specs.List.{list_all}
use Rattle.std.proofs.lemmas.List.Elements.{All-cons, All-nil}
use Rattle.std.proofs.lemmas.Bool.{and_parts}
use Rattle.tree_base.specs.Limits.{most_head_bytes, most_header_lines}
use Rattle.httparse.specs.Grammar.{Field, ResponseHead, IsResponseHead, print_response, crlf}
use Rattle.response_rules.specs.Responses.{print_heads, IsSkipped, Skips, BeginsWithHead}

-- a head with three digits, a phrase and fields
abbrev pub head : List ℕ → List ℕ → List Field → ResponseHead
head digits phrase fields = record {
  blank = [];
  minor = 1;
  digits = digits;
  reason = Some phrase;
  line_end = crlf;
  fields = fields;
  last = crlf;
}

-- a field, with a space before its value
abbrev pub field : List ℕ → List ℕ → Field
field name value = record { name = name; raw = 32 ∷ value; end = crlf }

-- nothing is skipped before the first byte
pub skips_nothing : (read : List ℕ) → Skips read [] read
skips_nothing read = record { each = All-nil IsSkipped; within = lit≤ tt; reads = refl }

-- bytes that begin with a head
pub begins : (head : ResponseHead) (rest : List ℕ)
    → IsResponseHead head → length head.fields ≤ most_header_lines
    → length (print_heads []) + length (print_response head) ≤ most_head_bytes
    → BeginsWithHead (print_response head ++ rest) [] head rest
begins head rest is few within = record { skips = skips_nothing _; is_head = is; few = few; within = within }

-- bytes that pass a test, by the test of all of them
pub all_pass : (test : ℕ → Bool) (bytes : List ℕ)
    → list_all test bytes ≡ true → All (λ b. test b ≡ true) bytes
all_pass test [] h = All-nil (λ b. test b ≡ true)
all_pass test (b ∷ bytes) h = All-cons (λ b. test b ≡ true) b bytes (and_parts (test b) (list_all test bytes) h).0
    (all_pass test bytes (and_parts (test b) (list_all test bytes) h).1)
