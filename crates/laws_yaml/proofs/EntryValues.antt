-- A line that is a word, a colon, a space and a word, as an entry.
use Rattle.std.proofs.Common.{◌≡◌, ◌∙◌, ℕ, suc, ◌+◌, ◌<◌, ◌≤◌, ◌||◌, Bool, true, false, eqb, List, [], ◌∷◌, ◌++◌, None, Ok, Result, codes, drop, length, arith, refl, sym, ap, add-zero}
use Rattle.std.proofs.lemmas.Bool.{and_parts}
use Rattle.std.proofs.lemmas.List.{drop-drop}
use Rattle.std.proofs.lemmas.Str.{encode_ascii}
use Rattle.std.specs.Str.{bytes_eq, encode_utf8_all}
use Rattle.yaml_groups.specs.declared.line.LogicalLine.{LogicalLine}
use Rattle.tree_base.specs.Entries.{value_at, with_entry}
use Rattle.tree_base.specs.declared.tree.Tree.{Tree}
use Rattle.yaml_lines.specs.Blanks.{blanks, is_rest_blank}
use Rattle.yaml_lines.specs.declared.plain.Context.TheVariants.{Block}
use Rattle.yaml_lines.specs.declared.refusal.YamlRefusal.{YamlRefusal}
use Rattle.yaml_lines.specs.declared.row.Row.{Row}
use Rattle.yaml_lines.specs.Plain.{is_colon, plain_of}
use Rattle.yaml_nodes.specs.declared.entries.Entries.{Entries}
use Rattle.yaml_nodes.specs.declared.key.Key.{Key}
use Rattle.yaml_nodes.specs.declared.progress.Progress.{Progress}
use Rattle.yaml_nodes.specs.declared.spot.Spot.TheVariants.{Here}
use Rattle.yaml_nodes.specs.Mappings.{Pairs, key_at, key_with, new_key}
use Rattle.yaml_nodes.specs.Marks.{before_colon, is_property, is_quote, properties_len, starts}
use Rattle.yaml_nodes.specs.Properties.{no_properties, properties_from}
use Rattle.yaml_tree.specs.Blocks.{Reader, block_entry, block_value}
use Rattle.yaml_tree.specs.Inline.{Owned, inline_alone}
use Rattle.laws_yaml.specs.BlockLaws.{IsWord, are_word_chars, entry_line, is_word_char, scalar_of}
use Rattle.laws_yaml.proofs.EntryLines.{behind_key, colon_is, entry_line_is, key_of_line}
use Rattle.laws_yaml.proofs.NewKeys.{put_last}
use Rattle.laws_yaml.proofs.NumberedLines.{line_at, row_at}
use Rattle.laws_yaml.proofs.OneLine.{alone_is, counted, grown, last_of_four, text_fits}
use Rattle.laws_yaml.proofs.WordLines.{never, no_blanks, no_properties_len, no_property_from, not_blank, word_below}

-- entries without a merge key
abbrev pub entries_with : Pairs → Entries
entries_with own = record { own = own; merge = None }

-- the key that a word is
abbrev pub key_of : List ℕ → Key
key_of word = record { is_merge = false; text = encode_utf8_all word; len = length word }

key_by : (p : Progress) (row : Row) (at : ℕ) → is_property (drop at row.chars) ≡ false → (starts 42 (drop at row.chars) || is_colon (drop at row.chars)) ≡ false → is_quote (drop at row.chars) ≡ false
    → key_at Block p row at ≡ key_with true p row at (plain_of Block (drop at row.chars))
key_by p row at bare own unquoted = last_of_four _ _ _ _ _ _ _ bare own unquoted

no_merge : (c : ℕ) (cs : List ℕ) → is_word_char c ≡ true → bytes_eq (encode_utf8_all (c ∷ cs)) (codes "<<") ≡ false
no_merge c cs word =
    let below = word_below c word in
    rw (encode_ascii c (omega arith), never (λ d. eqb d 60) refl c word)

key_read : (p : Progress) (number c : ℕ) (cs value : List ℕ) → are_word_chars (c ∷ cs) ≡ true → key_at Block p (row_at entry_line (number, (c ∷ cs, value))) 0 ≡ Ok (key_of (c ∷ cs))
key_read p number c cs value chars =
    let line = entry_line_is c cs chars value in
    let row = row_at entry_line (number, (c ∷ cs, value)) in
    let made : Bool → Result Key YamlRefusal = λ merge. Ok (record { is_merge = merge; text = encode_utf8_all (c ∷ cs); len = suc (length cs) }) in
    let first = (and_parts (is_word_char c) (are_word_chars cs) chars).0 in
    key_by p row 0 line.bare line.own line.unquoted ∙ ap (key_with true p row 0) (key_of_line c cs chars value) ∙ ap made (no_merge c cs first)

value_by : (levels : ℕ) (read : Reader) (owner : Owned) (p : Progress) (line : LogicalLine) (behind start : ℕ) (more : List LogicalLine) → behind + blanks (drop behind line.row.chars) ≡ start
    → properties_from true p line.row start no_properties 0 (drop start line.row.chars) ≡ Ok no_properties → properties_len 0 (drop start line.row.chars) ≡ 0 → is_rest_blank true (drop start line.row.chars) ≡ false
    → block_value levels read owner p line behind more ≡ inline_alone levels (owner.column + 1) owner.column no_properties p line start more
value_by levels read owner p line behind start more begins unmarked none black = rw (begins, unmarked, none, add-zero, black)

value_read : (levels : ℕ) (read : Reader) (owner : Owned) (p : Progress) (line : LogicalLine) (behind d : ℕ) (ds : List ℕ) → drop behind line.row.chars ≡ 32 ∷ d ∷ ds → IsWord (d ∷ ds) → p.nodes < 200000 → p.text + length (encode_utf8_all (d ∷ ds)) ≤ 16777216
    → block_value (suc levels) read owner p line behind [] ≡ Ok (scalar_of (d ∷ ds), grown p 1 (length (encode_utf8_all (d ∷ ds))))
value_read levels read owner p line behind d ds here is room fits =
    let word = (and_parts (is_word_char d) (are_word_chars ds) is.chars).0 in
    let start : drop (behind + 1) line.row.chars ≡ d ∷ ds = sym (drop-drop 1 behind line.row.chars) ∙ ap (drop 1) here in
    value_by (suc levels) read owner p line behind (behind + 1) []
    (ap (λ n. behind + n) (ap blanks here ∙ ap (λ n. n + 1) (no_blanks d ds word)))
    (rw start (no_property_from d ds word true p line.row (behind + 1) no_properties)) (rw start (no_properties_len d ds word)) (rw start (not_blank d ds word true))
    ∙ alone_is (suc levels) p line (behind + 1) d ds start is.chars is.spells (omega arith) room fits (owner.column + 1) owner.column

entry_by : (column levels : ℕ) (read : Reader) (entries : Entries) (p q r : Progress) (line : LogicalLine) (len : ℕ) (key : Key) (tree : Tree)
    → before_colon Block (drop column line.row.chars) ≡ len → key_at Block p line.row column ≡ Ok key → is_colon (drop (column + len) line.row.chars) ≡ true → new_key entries p line.row column key ≡ Ok q
    → block_value levels read (record { row = line.row; column = column; is_key = true }) q line (column + len + 1) [] ≡ Ok (tree, r) → key.is_merge ≡ false
    → block_entry column levels read (entries, p) line [] ≡ Ok (record entries { own = with_entry entries.own key.text tree }, r)
entry_by column levels read entries p q r line len key tree before reads colon new value plain = rw (before, reads, colon, new, value, plain)

new_is : (own : Pairs) (p : Progress) (row : Row) (at : ℕ) (word : List ℕ) → value_at own (encode_utf8_all word) ≡ None → p.text + length (encode_utf8_all word) ≤ 16777216
    → new_key (entries_with own) p row at (key_of word) ≡ Ok (counted p (length (encode_utf8_all word)))
new_is own p row at word new fits = rw new (text_fits p row (Here at) (length (encode_utf8_all word)) fits)

-- an entry whose key is new goes last
pub entry_is : (levels : ℕ) (read : Reader) (own : Pairs) (p : Progress) (number : ℕ) (key value : List ℕ) → IsWord key → IsWord value → value_at own (encode_utf8_all key) ≡ None
    → p.nodes < 200000 → p.text + length (encode_utf8_all key) + length (encode_utf8_all value) ≤ 16777216
    → block_entry 0 (suc levels) read (entries_with own, p) (line_at entry_line (number, (key, value))) []
    ≡ Ok (entries_with (own ++ (encode_utf8_all key, scalar_of value) ∷ []), grown (counted p (length (encode_utf8_all key))) 1 (length (encode_utf8_all value)))
entry_is levels read own p number [] value is has new room fits = absurd (is.some refl)
entry_is levels read own p number (c ∷ cs) [] is has new room fits = absurd (has.some refl)
entry_is levels read own p number (c ∷ cs) (d ∷ ds) is has new room fits =
    let line = line_at entry_line (number, (c ∷ cs, d ∷ ds)) in
    let key = encode_utf8_all (c ∷ cs) in
    let owner : Owned = record { row = line.row; column = 0; is_key = true } in
    let colon : is_colon (drop (0 + suc (length cs)) line.row.chars) ≡ true = ap is_colon (behind_key c cs is.chars (d ∷ ds) (0 + suc (length cs)) 0 (omega arith)) in
    let space = behind_key c cs is.chars (d ∷ ds) (0 + suc (length cs) + 1) 1 (omega arith) in
    let value = value_read levels read owner (counted p (length key)) line (0 + suc (length cs) + 1) d ds space has room fits in
    entry_by 0 (suc levels) read (entries_with own) p (counted p (length key)) (grown (counted p (length key)) 1 (length (encode_utf8_all (d ∷ ds)))) line (suc (length cs)) (key_of (c ∷ cs)) (scalar_of (d ∷ ds))
    (colon_is c cs is.chars (d ∷ ds)) (key_read p number c cs (d ∷ ds) is.chars) colon (new_is own p line.row 0 (c ∷ cs) new (omega (arith, fits))) value refl
    ∙ ap (λ pairs. Ok (entries_with pairs, grown (counted p (length key)) 1 (length (encode_utf8_all (d ∷ ds))))) (put_last own key (scalar_of (d ∷ ds)) new)
