-- The values of fields, by the spans of a head.
use Rattle.std.proofs.Common.{◌≡◌, ℕ, ◌<◌, ◌≤◌, Bool, true, false, cond, List, [], ◌∷◌, length, map, refl, sym, ap, ◌∙◌, subst, arith}
use Rattle.std.proofs.lemmas.List.Elements.{All-head, All-tail}
use Rattle.std.proofs.lemmas.Slice.Eq.{bytes_eq-Decides}
use Rattle.std.specs.Char.{to_ascii_lowercase}
use Rattle.std.specs.List.{filter}
use Rattle.std.specs.Prelude.{IsTrue, ◌↔◌}
use Rattle.std.specs.Str.{str_eq_ignore_ascii_case}
use Rattle.httparse.specs.Grammar.{Field, field_value}
use Rattle.httparse.specs.Spans.{IsHeaderWithin, header_bytes, name_and_value, span_bytes}
use Rattle.httparse.specs.declared.spans.HeaderSpan.{HeaderSpan}
use Rattle.response_rules.specs.Heads.{values}
use Rattle.http_fields.specs.Fields.{AreWithin, IsFirst, named, values_at}

-- ---- names

same_test : (P : Type 0) (r b : Bool) → (r ≡ true → P) → (P → r ≡ true) → (b ≡ true → P) → (P → b ≡ true) → r ≡ b
same_test P true true rp pr bp pb = refl
same_test P false false rp pr bp pb = refl
same_test P true false rp pr bp pb = sym (pb (rp refl))
same_test P false true rp pr bp pb = pr (bp refl)

pub same_case : (r : Bool) (text other : List ℕ) → (IsTrue r ↔ (map to_ascii_lowercase text ≡ map to_ascii_lowercase other)) → r ≡ str_eq_ignore_ascii_case text other
same_case r text other h =
    let d = bytes_eq-Decides (map to_ascii_lowercase text) (map to_ascii_lowercase other) in
    same_test (map to_ascii_lowercase text ≡ map to_ascii_lowercase other) r (str_eq_ignore_ascii_case text other) h.0 h.1 d.0 d.1

-- ---- values

values_named : (name : List ℕ) (fields : List Field) → named name (map name_and_value fields) ≡ values name fields
values_named name [] = refl
values_named name (f ∷ fields) = at (str_eq_ignore_ascii_case f.name name) (values_named name fields)
  where
    at : (v : Bool) → named name (map name_and_value fields) ≡ values name fields
        → map (λ (pair : List ℕ × List ℕ). pair.1) (cond v ((f.name, field_value f) ∷ filter (λ (pair : List ℕ × List ℕ). str_eq_ignore_ascii_case pair.0 name) (map name_and_value fields)) (filter (λ (pair : List ℕ × List ℕ). str_eq_ignore_ascii_case pair.0 name) (map name_and_value fields)))
        ≡ map field_value (cond v (f ∷ filter (λ (g : Field). str_eq_ignore_ascii_case g.name name) fields) (filter (λ (g : Field). str_eq_ignore_ascii_case g.name name) fields))
    at true e = ap (λ (vs : List (List ℕ)). field_value f ∷ vs) e
    at false e = e

-- the values at spans are those of the fields that these cover
pub values_are : (head : List ℕ) (headers : List HeaderSpan) (fields : List Field) (name : List ℕ) → map (header_bytes head) headers ≡ map name_and_value fields
    → values_at head headers name ≡ values name fields
values_are head headers fields name e = ap (named name) e ∙ values_named name fields

next_by : (v : Bool) (value : List ℕ) (pairs : List (List ℕ × List ℕ)) (text name : List ℕ) → str_eq_ignore_ascii_case text name ≡ v
    → named name ((text, value) ∷ pairs) ≡ cond v (value ∷ named name pairs) (named name pairs)
next_by true value pairs text name e =
    ap (λ (t : Bool). map (λ (pair : List ℕ × List ℕ). pair.1) (cond t ((text, value) ∷ filter (λ (pair : List ℕ × List ℕ). str_eq_ignore_ascii_case pair.0 name) pairs) (filter (λ (pair : List ℕ × List ℕ). str_eq_ignore_ascii_case pair.0 name) pairs))) e
next_by false value pairs text name e =
    ap (λ (t : Bool). map (λ (pair : List ℕ × List ℕ). pair.1) (cond t ((text, value) ∷ filter (λ (pair : List ℕ × List ℕ). str_eq_ignore_ascii_case pair.0 name) pairs) (filter (λ (pair : List ℕ × List ℕ). str_eq_ignore_ascii_case pair.0 name) pairs))) e

module _ (head : List ℕ) (headers rest more : List HeaderSpan) (header : HeaderSpan) (name : List ℕ) (cut : rest ≡ header ∷ more) where
  behind : AreWithin head rest → AreWithin head more
  behind all = All-tail (IsHeaderWithin (length head)) header more (subst (AreWithin head) cut all)

  pub first_within : AreWithin head rest → IsHeaderWithin (length head) header
  first_within all = All-head (IsHeaderWithin (length head)) header more (subst (AreWithin head) cut all)

  -- a header with the name is the first
  pub is_first : (value : List ℕ) → str_eq_ignore_ascii_case (span_bytes head header.name) name ≡ true → value ≡ span_bytes head header.value
      → values_at head rest name ≡ values_at head headers name → length rest ≤ length headers → AreWithin head rest → IsFirst head headers name value more
  is_first value holds is same few all = record {
    values_are =
        sym same ∙ ap (λ (hs : List HeaderSpan). values_at head hs name) cut
        ∙ next_by true (span_bytes head header.value) (map (header_bytes head) more) (span_bytes head header.name) name holds
        ∙ ap (λ (v : List ℕ). v ∷ values_at head more name) (sym is);
    fewer = let l = ap length cut in omega (arith, l, few);
    are_within = behind all;
  }

  -- one with another name isn't
  pub is_not_first : str_eq_ignore_ascii_case (span_bytes head header.name) name ≡ false → values_at head rest name ≡ values_at head headers name
      → length rest ≤ length headers → AreWithin head rest
      → (values_at head more name ≡ values_at head headers name) × (length more ≤ length headers) × AreWithin head more
  is_not_first fails same few all = (
    sym (next_by false (span_bytes head header.value) (map (header_bytes head) more) (span_bytes head header.name) name fails)
        ∙ sym (ap (λ (hs : List HeaderSpan). values_at head hs name) cut) ∙ same,
    let l = ap length cut in omega (arith, l, few),
    behind all,
  )

pub none_at : (head : List ℕ) (headers rest : List HeaderSpan) (name : List ℕ) → length rest ≡ 0 → values_at head rest name ≡ values_at head headers name → values_at head headers name ≡ []
none_at head headers [] name e same = sym same
none_at head headers (h ∷ rest) name e same = absurd (omega (arith, e))
