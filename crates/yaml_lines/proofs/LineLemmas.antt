-- The lines of a text, joined by their ends.
use Rattle.std.proofs.Common.{◌≡◌, ◌≢◌, ◌∙◌, ℕ, ◌+◌, ◌-◌, List, [], ◌∷◌, ◌++◌, true, false, eqb, get_or, take, length, refl, sym, ap, subst, inl, inr, append_assoc, append-nil, arith}
use Rattle.std.proofs.lemmas.Bool.{cases_Bool, eqb-true}
use Rattle.std.proofs.lemmas.List.{take_all, take_more}
use Rattle.std.proofs.lemmas.List.Elements.{All-nil, All-take, All-cons}
use Rattle.std.proofs.lemmas.List.Splits.{join_with_byte-slice_split}
use Rattle.std.specs.List.{All, slice_split, onto_first, join_with_byte}
use Rattle.std.specs.Str.Lines.{lines, lines_of_parts}
use Rattle.std.specs.Prelude.{Ok, Err, map, ltb}
use Rattle.std.specs.Str.Lossy.{utf8_valid_len}
use Rattle.yaml_lines.specs.declared.lines.Lines.{Lines}
use Rattle.yaml_lines.specs.declared.refusal.YamlRefusal.TheVariants.{Bad}
use Rattle.yaml_lines.specs.declared.refusal.YamlFault.TheVariants.{BadUtf8, BadScalar}
use Rattle.yaml_lines.specs.Laws.{AreLinesOf, LinesAreTheText, texts_of}
use Rattle.yaml_lines.specs.Rows.{one_more}
use Rattle.yaml_lines.specs.Scan.{clean_len, numbered, place_of_byte, scanned, without_mark}

abbrev IsNoFeed : ℕ → Type 0
IsNoFeed b = b ≢ 10

-- no part has a line feed
abbrev NoFeeds : List (List ℕ) → Type 0
NoFeeds [] = Unit {0}
NoFeeds (part ∷ parts) = All IsNoFeed part × NoFeeds parts

not_feed : (b : ℕ) → eqb b 10 ≡ false → b ≢ 10
not_feed b h e = let yes : eqb b 10 ≡ true = rw e refl in cc

onto : (b : ℕ) (parts : List (List ℕ)) → eqb b 10 ≡ false → NoFeeds parts → NoFeeds (onto_first b parts)
onto b [] h none = (All-cons IsNoFeed b [] (not_feed b h) (All-nil IsNoFeed), tt)
onto b (part ∷ parts) h (first_part, others) = (All-cons IsNoFeed b part (not_feed b h) first_part, others)

parts_no_feed : (bs : List ℕ) → NoFeeds (slice_split (λ b. eqb b 10) bs)
parts_no_feed [] = (All-nil IsNoFeed, tt)
parts_no_feed (b ∷ bs) =
    elim (cases_Bool (eqb b 10)) [
      | inl feed ↦ rw feed (All-nil IsNoFeed, parts_no_feed bs)
      | inr other ↦ rw other (onto b (slice_split (λ b. eqb b 10) bs) other (parts_no_feed bs))
    ]

-- a line before its carriage return
last_return : (x : List ℕ) → eqb (get_or x (length x - 1) 0) 13 ≡ true → x ≡ take (length x - 1) x ++ 13 ∷ []
last_return [] h = absurd (cc)
last_return (b ∷ bs) h =
    let x : List ℕ = b ∷ bs in
    sym (take_all (length x - 1 + 1) x (omega arith)) ∙ take_more x (length x - 1) 0 (omega arith)
    ∙ ap (λ c. take (length x - 1) x ++ c ∷ []) (eqb-true (get_or x (length x - 1) 0) 13 h)

not_return : (x : List ℕ) → eqb (get_or x (length x - 1) 0) 13 ≡ false → get_or x (length x - 1) 0 ≢ 13
not_return x h e = let yes : eqb (get_or x (length x - 1) 0) 13 ≡ true = rw e refl in cc

not_empty : (x : List ℕ) → eqb (length x) 0 ≡ false → x ≢ []
not_empty x h e = let yes : eqb (length x) 0 ≡ true = rw e refl in cc

joined_parts : (parts : List (List ℕ)) → NoFeeds parts → AreLinesOf (lines_of_parts parts) (join_with_byte 10 parts)
joined_parts [] none = refl
joined_parts (x ∷ []) (clean, none) =
    elim (cases_Bool (eqb (length x) 0)) [
      | inl empty ↦ rw empty (nothing x empty)
      | inr some ↦ rw some ([], [], sym (append-nil x), inr (inr (refl, refl, not_empty x some)), clean, refl)
    ]
  where
    nothing : (x : List ℕ) → eqb (length x) 0 ≡ true → x ≡ []
    nothing [] h = refl
    nothing (b ∷ bs) h = absurd (omega (arith, eqb-true (length (b ∷ bs)) 0 h))
joined_parts (x ∷ y ∷ more) (clean, others) =
    let later = join_with_byte 10 (y ∷ more) in
    let rest_lines = joined_parts (y ∷ more) others in
    elim (cases_Bool (eqb (get_or x (length x - 1) 0) 13)) [
      | inl return ↦ rw return (
        13 ∷ 10 ∷ [],
        later,
        ap (λ t. t ++ (10 ∷ later)) (last_return x return) ∙ append_assoc (take (length x - 1) x) (13 ∷ []) (10 ∷ later),
        inr (inl refl),
        All-take IsNoFeed (length x - 1) x clean,
        rest_lines,
      )
      | inr other ↦ rw other (10 ∷ [], later, refl, inl (refl, not_return x other), clean, rest_lines)
    ]

-- the lines of a text, joined by their ends, are the text
text_lines : (text : List ℕ) → AreLinesOf (lines text) text
text_lines text =
    let p = λ (b : ℕ). eqb b 10 in
    subst (AreLinesOf (lines text)) (join_with_byte-slice_split 10 text) (joined_parts (slice_split p text) (parts_no_feed text))

-- lines with numbers have the texts that were numbered
texts_numbered : (number : ℕ) (texts : List (List ℕ)) → map (λ line. line.text) (numbered number texts) ≡ texts
texts_numbered number [] = refl
texts_numbered number (text ∷ texts) = ap (λ more. text ∷ more) (texts_numbered (one_more number) texts)

-- what a scan gives has the lines of its bytes
scanned_texts : (file valid : ℕ) (bytes : List ℕ) (found : Lines) → scanned file valid bytes ≡ Ok found → texts_of found ≡ lines bytes
scanned_texts file valid bytes found h =
    elim (cases_Bool (ltb (clean_len (take valid bytes)) valid)) [
      | inl control ↦
          let refused : scanned file valid bytes ≡ Err (Bad BadScalar (place_of_byte file bytes (clean_len (take valid bytes)))) = rw control refl in
          absurd (cc)
      | inr clean ↦ elim (cases_Bool (ltb valid (length bytes))) [
        | inl broken ↦
            let refused : scanned file valid bytes ≡ Err (Bad BadUtf8 (place_of_byte file bytes valid)) = rw (clean, broken) refl in
            absurd (cc)
        | inr whole ↦
            let given : scanned file valid bytes ≡ Ok (record { file = file; lines = numbered 1 (lines bytes) }) = rw (clean, whole) refl in
            let same : found ≡ record { file = file; lines = numbered 1 (lines bytes) } = cc in
            ap texts_of same ∙ texts_numbered 1 (lines bytes)
      ]
    ]

pub lines_joined : LinesAreTheText
lines_joined file bytes found h =
    let body = without_mark bytes in
    subst (λ texts. AreLinesOf texts body) (sym (scanned_texts file (utf8_valid_len body) body found h)) (text_lines body)
