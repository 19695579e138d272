-- A key that was read is as long as the key that stands there.
use Rattle.std.proofs.Common.{◌≡◌, ◌∙◌, ℕ, List, Bool, true, false, ◌&&◌, ◌||◌, Option, Some, None, Ok, if◌then◌else◌, refl, sym, ap, inl, inr}
use Rattle.std.proofs.lemmas.Bool.{cases_Bool}
use Rattle.std.specs.Prelude.{codes}
use Rattle.std.specs.Str.{bytes_eq, encode_utf8_all}
use Rattle.yaml_lines.specs.declared.plain.Context.{Context}
use Rattle.yaml_lines.specs.declared.row.Row.{Row}
use Rattle.yaml_lines.specs.Plain.{begins_plain, is_colon, plain_len, plain_of}
use Rattle.yaml_lines.specs.Quoted.{quoted_of}
use Rattle.yaml_lines.specs.Rows.{text_at}
use Rattle.yaml_nodes.specs.declared.key.Key.{Key}
use Rattle.yaml_nodes.specs.declared.progress.Progress.{Progress}
use Rattle.yaml_nodes.specs.Mappings.{key_at, key_with}
use Rattle.yaml_nodes.specs.Marks.{is_property, is_quote, key_len, read_len, starts}

-- a key of characters that were read has their number
with_len : (plain : Bool) (p : Progress) (row : Row) (at : ℕ) (read : Option (List ℕ × ℕ)) (key : Key) → key_with plain p row at read ≡ Ok key → key.len ≡ read_len read
with_len plain p row at None key h = absurd (cc)
with_len plain p row at (Some (cs, n)) key h =
    let read : Key = record { is_merge = plain && bytes_eq (encode_utf8_all cs) (codes "<<"); text = encode_utf8_all cs; len = n } in
    let same : read ≡ key = cc in
    sym (ap (λ (k : Key). k.len) same)

either_false : (a b : Bool) → (a || b) ≡ false → a ≡ false
either_false true b h = absurd (cc)
either_false false b h = refl

pub plain_read : (context : Context) (cs : List ℕ) → read_len (plain_of context cs) ≡ (if begins_plain cs then plain_len context cs else 0)
plain_read context cs =
    elim (cases_Bool (begins_plain cs)) [
      | inl begun ↦ rw begun refl
      | inr other ↦ rw other refl
    ]

pub key_len_read : (context : Context) (p : Progress) (row : Row) (at : ℕ) (key : Key) → key_at context p row at ≡ Ok key → key.len ≡ key_len context (text_at row at)
key_len_read context p row at key h =
    let cs = text_at row at in
    elim (cases_Bool (is_property cs)) [
      | inl property ↦ let no = rw property at h in absurd (cc)
      | inr bare ↦ let h = rw bare at h in elim (cases_Bool (starts 42 cs || is_colon cs)) [
        | inl other ↦ let no = rw other at h in absurd (cc)
        | inr key_there ↦ let h = rw key_there at h in elim (cases_Bool (is_quote cs)) [
          | inl quote ↦ let h = rw quote at h in rw quote (with_len false p row at (quoted_of cs) key h)
          | inr plain ↦
              let h = rw plain at h in
              let star = either_false (starts 42 cs) (is_colon cs) key_there in
              rw (plain, star) (with_len true p row at (plain_of context cs) key h ∙ plain_read context cs)
        ]
      ]
    ]
