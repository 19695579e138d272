-- The entries of a mapping that pass a test, with other values, put one after another.
use Rattle.std.proofs.Common.{◌≡◌, ◌∙◌, ℕ, zero, suc, ◌+◌, Bool, true, false, cond, List, [], ◌∷◌, ◌++◌, None, Some, filter, map, take, drop, slice_get, refl, ap, sym, subst}
use Rattle.std.specs.Cmp.Lexicographic.{nat_list_eq_equiv}
use Rattle.std.specs.List.{IsDistinct}
use Rattle.std.specs.Map.{keys_of}
use Rattle.std.specs.Str.{bytes_eq}
use Rattle.std.proofs.lemmas.List.{append-nil, take_more, map-append}
use Rattle.std.proofs.lemmas.List.Elements.{filter-append}
use Rattle.std.proofs.lemmas.Option.{get_or_from_slice_get, slice_get_within}
use Rattle.indexmap.proofs.MapLemmas.{absent_before, absent_from_lookup, insert_entry-absent}
use Rattle.tree_base.specs.Entries.{HasDistinctKeys, value_at, with_entry}

module _ {V : Type 0} (passes : List ℕ × V → Bool) (of : List ℕ × V → V) where
  abbrev Rows : Type 0
  Rows = List (List ℕ × V)

  -- the entries that pass, with their other values
  abbrev pub kept : Rows → Rows
  kept entries = map (λ (e : List ℕ × V). (e.0, of e)) (filter passes entries)

  -- a key that isn't there isn't among those that are kept
  pub absent : (entries : Rows) (key : List ℕ) → value_at entries key ≡ None → value_at (kept entries) key ≡ None
  absent [] key none = refl
  absent (e ∷ entries) key none = by (bytes_eq key e.0) (passes e) refl (absent entries key) none
    where
      by : (same it : Bool) → bytes_eq key e.0 ≡ same → (value_at entries key ≡ None → value_at (kept entries) key ≡ None) → cond same (Some e.1) (value_at entries key) ≡ None
          → value_at (map (λ (x : List ℕ × V). (x.0, of x)) (cond it (e ∷ filter passes entries) (filter passes entries))) key ≡ None
      by true it is rest none = absurd (cc none)
      by false true is rest none = rw is (rest none)
      by false false is rest none = rest none

  -- one entry more
  taken : (entries : Rows) (i : ℕ) (e : List ℕ × V) → slice_get entries i ≡ Some e → take (i + 1) entries ≡ take i entries ++ e ∷ []
  taken entries i e at =
      take_more entries i e (slice_get_within entries i e at) ∙ ap (λ (x : List ℕ × V). take i entries ++ x ∷ []) (get_or_from_slice_get entries i e e at)

  kept_more : (entries : Rows) (i : ℕ) (e : List ℕ × V) → slice_get entries i ≡ Some e → kept (take (i + 1) entries) ≡ kept (take i entries) ++ kept (e ∷ [])
  kept_more entries i e at =
      ap kept (taken entries i e at)
      ∙ ap (map (λ (x : List ℕ × V). (x.0, of x))) (filter-append passes (take i entries) (e ∷ []))
      ∙ map-append (λ (x : List ℕ × V). (x.0, of x)) (filter passes (take i entries)) (filter passes (e ∷ []))

  split_at : (entries : Rows) (i : ℕ) (e : List ℕ × V) → slice_get entries i ≡ Some e → entries ≡ take i entries ++ e ∷ drop (suc i) entries
  split_at [] i e at = cc
  split_at (x ∷ entries) zero e at = let same : x ≡ e = cc in ap (λ (y : List ℕ × V). y ∷ entries) same
  split_at (x ∷ entries) (suc i) e at = ap (λ (l : Rows). x ∷ l) (split_at entries i e at)

  -- an entry that passes is put last
  pub kept_put : (entries : Rows) (i : ℕ) (e : List ℕ × V) → HasDistinctKeys entries → slice_get entries i ≡ Some e → passes e ≡ true → with_entry (kept (take i entries)) e.0 (of e) ≡ kept (take (i + 1) entries)
  kept_put entries i e distinct at is =
      let apart = subst (λ (l : Rows). IsDistinct bytes_eq (keys_of l)) (split_at entries i e at) distinct in
      let none : value_at (take i entries) e.0 ≡ None = absent_before nat_list_eq_equiv (take i entries) (drop (suc i) entries) e apart in
      let new = absent_from_lookup (bytes_eq e.0) (kept (take i entries)) (absent (take i entries) e.0 none) in
      let last : kept (e ∷ []) ≡ (e.0, of e) ∷ [] = ap (λ (b : Bool). map (λ (x : List ℕ × V). (x.0, of x)) (cond b (e ∷ []) [])) is in
      insert_entry-absent bytes_eq e.0 (of e) (kept (take i entries)) new
      ∙ ap (λ (l : Rows). kept (take i entries) ++ l) (sym last)
      ∙ sym (kept_more entries i e at)

  -- another one isn't
  pub kept_passed : (entries : Rows) (i : ℕ) (e : List ℕ × V) → slice_get entries i ≡ Some e → passes e ≡ false → kept (take i entries) ≡ kept (take (i + 1) entries)
  kept_passed entries i e at is =
      let last : kept (e ∷ []) ≡ [] = ap (λ (b : Bool). map (λ (x : List ℕ × V). (x.0, of x)) (cond b (e ∷ []) [])) is in
      sym (append-nil (kept (take i entries))) ∙ ap (λ (l : Rows). kept (take i entries) ++ l) (sym last) ∙ sym (kept_more entries i e at)

  -- an entry that is put where it passes is one entry more
  pub one_kept : (b : Bool) (entries old new : Rows) (i : ℕ) (e : List ℕ × V) → HasDistinctKeys entries → slice_get entries i ≡ Some e → passes e ≡ b → old ≡ kept (take i entries) → new ≡ cond b (with_entry old e.0 (of e)) old
      → new ≡ kept (take (i + 1) entries)
  one_kept true entries old new i e distinct at is so put = put ∙ ap (λ (l : Rows). with_entry l e.0 (of e)) so ∙ kept_put entries i e distinct at is
  one_kept false entries old new i e distinct at is so put = put ∙ so ∙ kept_passed entries i e at is

-- entries with their own values
pub own_values : {V : Type 0} (entries : List (List ℕ × V)) → map (λ (e : List ℕ × V). (e.0, e.1)) entries ≡ entries
own_values [] = refl
own_values (e ∷ entries) = ap (λ l. e ∷ l) (own_values entries)
