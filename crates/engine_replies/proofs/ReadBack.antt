-- The text of a value is UTF-8, and is read as that value: where no number is a float, and keys stand in byte order.
use Rattle.std.proofs.Common.{◌≡◌, ◌∙◌, ◌<◌, ◌≤◌, ◌^◌, ℕ, suc, ℤ, pos, negsuc, Bool, true, false, List, [], ◌∷◌, ◌++◌, refl, sym, ap, arith, subst, Option, Some, None, append-nil, IsUtf8, decimal}
use Rattle.std.proofs.lemmas.Str.{IsUtf8-append}
use Rattle.std.proofs.lemmas.Str.{IsUtf8-from_ascii}
use Rattle.std.proofs.lemmas.Fmt.{IsAscii-decimal, IsAscii-signed}
use Rattle.std.proofs.lemmas.Cmp.{nat_list_cmp_total}
use Rattle.std.specs.Fmt.{signed_decimal}
use Rattle.std.specs.Cmp.Lexicographic.{slice_cmp}
use Rattle.std.specs.Option.{option_and_then, option_map}
use Rattle.std.specs.Ordering.{match_ordering, nat_cmp, ordering_reverse}
use Rattle.std.specs.Prelude.{⊤}
use Rattle.std.specs.declared.cmp.Ordering.{Ordering}
use Rattle.std.specs.declared.cmp.Ordering.TheVariants.{Equal, Greater, Less}
use Rattle.json.proofs.Printed.Decimals.{IsNumber-decimal, IsNumber-signed_decimal}
use Rattle.json.proofs.Printed.Tokens.{tokens-print}
use Rattle.json.proofs.Printed.Trees.{ArePrintable-json_tokens, value-json_tokens}
use Rattle.json.proofs.Printed.Utf8.{IsUtf8-are_ascii, IsUtf8-boolean, IsUtf8-quoted}
use Rattle.json.specs.Json as json
use Rattle.json.specs.Lex.{tokens}
use Rattle.json.specs.Print.{print, quoted}
use Rattle.json.specs.Tree.{HasNumbers, ItemsHaveNumbers, MembersHaveNumbers, json_tokens}
use Rattle.json.specs.Tree as tree
use Rattle.json.specs.Token.{Token}
use Rattle.serde_json.proofs.Numbers.{number_of-decimal, number_of-negative}
use Rattle.serde_json.proofs.Texts.{print-outline}
use Rattle.serde_json.specs.Data.{Data, Items, Members, Num, array, boolean, depth, float, item, items_depth, member, members_depth, negative, no_items, no_members, null, number, object, put, string, unsigned}
use Rattle.serde_json.specs.Read.{max_depth, number_of, of_items, of_json, of_members, read}
use Rattle.serde_json.specs.Written.{comma_if, compact_text, items_outline, items_text, members_outline, members_text, number_text, outline}

-- a number of 64 bits, and no float
abbrev pub FitsNumber : Num → Type 0
FitsNumber (unsigned n) = n < 2 ^ 64
FitsNumber (negative (pos n)) = ⊥
FitsNumber (negative (negsuc n)) = n < 2 ^ 63
FitsNumber (float x) = ⊥

-- a key stands before all those of members
abbrev pub IsBeforeAll : List ℕ → Members → Type 0
IsBeforeAll k no_members = ⊤
IsBeforeAll k (member l e ms) = (slice_cmp nat_cmp k l ≡ Less) × IsBeforeAll k ms

-- keys stand in byte order, each once
abbrev pub IsSorted : Members → Type 0
IsSorted no_members = ⊤
IsSorted (member k d ms) = IsBeforeAll k ms × IsSorted ms

-- texts are UTF-8, numbers have 64 bits, and keys stand in order
abbrev mutual
  pub IsKept : Data → Type 0
  IsKept null = ⊤
  IsKept (boolean b) = ⊤
  IsKept (number n) = FitsNumber n
  IsKept (string s) = IsUtf8 s
  IsKept (array ds) = AreKeptItems ds
  IsKept (object ms) = IsSorted ms × AreKept ms

  pub AreKeptItems : Items → Type 0
  AreKeptItems no_items = ⊤
  AreKeptItems (item d ds) = IsKept d × AreKeptItems ds

  pub AreKept : Members → Type 0
  AreKept no_members = ⊤
  AreKept (member k d ms) = IsUtf8 k × IsKept d × AreKept ms

-- ---- the outline is that of the value

number_back : (n : Num) → FitsNumber n → number_of (number_text n) ≡ Some n
number_back (unsigned n) h = number_of-decimal n h
number_back (negative (pos n)) h = absurd h
number_back (negative (negsuc n)) h = number_of-negative n h
number_back (float x) h = absurd h

-- members and others behind them
abbrev joined : Members → Members → Members
joined no_members ms = ms
joined (member k d found) ms = member k d (joined found ms)

joined_none : (found : Members) → joined found no_members ≡ found
joined_none no_members = refl
joined_none (member k d found) = ap (member k d) (joined_none found)

joined_once : (found : Members) (k : List ℕ) (d : Data) (ms : Members) → joined (joined found (member k d no_members)) ms ≡ joined found (member k d ms)
joined_once no_members k d ms = refl
joined_once (member l e found) k d ms = ap (member l e) (joined_once found k d ms)

-- each key stands before all those of others
abbrev AllBefore : Members → Members → Type 0
AllBefore no_members ms = ⊤
AllBefore (member l e found) ms = IsBeforeAll l ms × AllBefore found ms

put_last : (k : List ℕ) (d : Data) (found ms : Members) → AllBefore found (member k d ms) → put k d found ≡ joined found (member k d no_members)
put_last k d no_members ms b = refl
put_last k d (member l e found) ms b =
    let after : slice_cmp nat_cmp k l ≡ Greater = nat_list_cmp_total.antisymm k l ∙ ap ordering_reverse b.0.0 in
    ap (λ (o : Ordering). match_ordering o (member k d (member l e found)) (member l d found) (member l e (put k d found))) after
    ∙ ap (member l e) (put_last k d found ms b.1)

moved : (found : Members) (k : List ℕ) (d : Data) (ms : Members) → AllBefore found (member k d ms) → IsBeforeAll k ms → AllBefore (joined found (member k d no_members)) ms
moved no_members k d ms b h = (h, tt)
moved (member l e found) k d ms b h = (b.0.1, moved found k d ms b.1 h)

mutual
  back : (d : Data) → IsKept d → of_json (outline d) ≡ Some d
  back null h = refl
  back (boolean b) h = refl
  back (number n) h = ap (option_map number) (number_back n h)
  back (string s) h = refl
  back (array ds) h = ap (option_map array) (items_back ds h)
  back (object ms) h = ap (option_map object) (members_back ms no_members h.0 h.1 tt)

  items_back : (ds : Items) → AreKeptItems ds → of_items (items_outline ds) ≡ Some ds
  items_back no_items h = refl
  items_back (item d ds) h =
      ap (option_and_then (λ (e : Data). option_map (item e) (of_items (items_outline ds)))) (back d h.0)
      ∙ ap (option_map (item d)) (items_back ds h.1)

  members_back : (ms found : Members) → IsSorted ms → AreKept ms → AllBefore found ms → of_members (members_outline ms) found ≡ Some (joined found ms)
  members_back no_members found s h b = ap Some (sym (joined_none found))
  members_back (member k d ms) found s h b =
      ap (option_and_then (λ (e : Data). of_members (members_outline ms) (put k e found))) (back d h.1)
      ∙ ap (of_members (members_outline ms)) (put_last k d found ms b)
      ∙ members_back ms (joined found (member k d no_members)) s.1 h.2 (moved found k d ms b s.0)
      ∙ ap Some (joined_once found k d ms)

-- ---- its numbers are numbers of JSON, and it nests as deep

number_is : (n : Num) → FitsNumber n → HasNumbers (json.number (number_text n))
number_is (unsigned n) h = IsNumber-decimal n h
number_is (negative (pos n)) h = absurd h
number_is (negative (negsuc n)) h = IsNumber-signed_decimal (negsuc n) h
number_is (float x) h = absurd h

mutual
  numbers : (d : Data) → IsKept d → HasNumbers (outline d)
  numbers null h = tt
  numbers (boolean b) h = tt
  numbers (number n) h = number_is n h
  numbers (string s) h = tt
  numbers (array ds) h = items_numbers ds h
  numbers (object ms) h = members_numbers ms h.1

  items_numbers : (ds : Items) → AreKeptItems ds → ItemsHaveNumbers (items_outline ds)
  items_numbers no_items h = tt
  items_numbers (item d ds) h = (numbers d h.0, items_numbers ds h.1)

  members_numbers : (ms : Members) → AreKept ms → MembersHaveNumbers (members_outline ms)
  members_numbers no_members h = tt
  members_numbers (member k d ms) h = (numbers d h.1, members_numbers ms h.2)

mutual
  shallow : (d : Data) → tree.depth (outline d) ≤ depth d
  shallow null = omega arith
  shallow (boolean b) = omega arith
  shallow (number n) = omega arith
  shallow (string s) = omega arith
  shallow (array ds) = let h = items_shallow ds in omega (arith, h)
  shallow (object ms) = let h = members_shallow ms in omega (arith, h)

  items_shallow : (ds : Items) → tree.items_depth (items_outline ds) ≤ items_depth ds
  items_shallow no_items = omega arith
  items_shallow (item d ds) = let g = shallow d in let h = items_shallow ds in omega (arith, g, h)

  members_shallow : (ms : Members) → tree.members_depth (members_outline ms) ≤ members_depth ms
  members_shallow no_members = omega arith
  members_shallow (member k d ms) = let g = shallow d in let h = members_shallow ms in omega (arith, g, h)

-- the value that is read of what was parsed
abbrev whole : Option (json.Json × List Token) → Option Data
whole parsed = option_and_then of_json (option_and_then (λ p. json.if_last p.0 p.1) parsed)

pub reads_back : (d : Data) → IsKept d → depth d ≤ max_depth → read (compact_text d) ≡ Some d
reads_back d h deep =
    let few = shallow d in
    ap read (sym (print-outline d))
    ∙ ap whole
    (ap (json.value max_depth) (tokens-print (json_tokens (outline d)) (ArePrintable-json_tokens (outline d) (numbers d h)) ∙ sym (append-nil (json_tokens (outline d))))
    ∙ value-json_tokens (outline d) max_depth [] (omega (arith, few, deep)))
    ∙ back d h

-- ---- UTF-8

comma_utf8 : (later : Bool) → IsUtf8 (comma_if later)
comma_utf8 true = IsUtf8-are_ascii (44 ∷ []) refl
comma_utf8 false = IsUtf8-are_ascii [] refl

number_utf8 : (n : Num) → FitsNumber n → IsUtf8 (number_text n)
number_utf8 (unsigned n) h = IsUtf8-from_ascii (decimal n) (IsAscii-decimal n h)
number_utf8 (negative (pos n)) h = absurd h
number_utf8 (negative (negsuc n)) h = IsUtf8-from_ascii (signed_decimal (negsuc n)) (IsAscii-signed (negsuc n) h)
number_utf8 (float x) h = absurd h

mutual
  pub text_utf8 : (d : Data) → IsKept d → IsUtf8 (compact_text d)
  text_utf8 null h = IsUtf8-are_ascii (compact_text null) refl
  text_utf8 (boolean b) h = IsUtf8-boolean b
  text_utf8 (number n) h = number_utf8 n h
  text_utf8 (string s) h = IsUtf8-quoted s h
  text_utf8 (array ds) h = IsUtf8-append (91 ∷ []) (items_text false ds) (IsUtf8-are_ascii (91 ∷ []) refl) (items_utf8 false ds h)
  text_utf8 (object ms) h = IsUtf8-append (123 ∷ []) (members_text false ms) (IsUtf8-are_ascii (123 ∷ []) refl) (members_utf8 false ms h.1)

  items_utf8 : (later : Bool) (ds : Items) → AreKeptItems ds → IsUtf8 (items_text later ds)
  items_utf8 later no_items h = IsUtf8-are_ascii (93 ∷ []) refl
  items_utf8 later (item d ds) h =
      IsUtf8-append (comma_if later) (compact_text d ++ items_text true ds) (comma_utf8 later)
      (IsUtf8-append (compact_text d) (items_text true ds) (text_utf8 d h.0) (items_utf8 true ds h.1))

  members_utf8 : (later : Bool) (ms : Members) → AreKept ms → IsUtf8 (members_text later ms)
  members_utf8 later no_members h = IsUtf8-are_ascii (125 ∷ []) refl
  members_utf8 later (member k d ms) h =
      IsUtf8-append (comma_if later) (quoted k ++ 58 ∷ (compact_text d ++ members_text true ms)) (comma_utf8 later)
      (IsUtf8-append (quoted k) (58 ∷ (compact_text d ++ members_text true ms)) (IsUtf8-quoted k h.0)
      (IsUtf8-append (58 ∷ []) (compact_text d ++ members_text true ms) (IsUtf8-are_ascii (58 ∷ []) refl)
      (IsUtf8-append (compact_text d) (members_text true ms) (text_utf8 d h.1) (members_utf8 true ms h.2))))
