-- What is found in the object of a table.
use Rattle.std.proofs.Common.{◌≡◌, ◌∙◌, ℕ, Bool, true, false, not, ◌&&◌, List, [], ◌∷◌, fold, refl, sym, subst, Option, Some, None, true≢false, bytes_eq}
use Rattle.std.specs.List.{All, AllByRecursion}
use Rattle.std.proofs.lemmas.List.Elements.{All-cons, All-nil}
use Rattle.std.proofs.lemmas.Slice.Eq.{bytes_eq-Decides}
use Rattle.serde_json.specs.Data.{Data, Members, member, no_members, object}
use Rattle.serde_json.specs.Find.{get_member}
use Rattle.serde_json.proofs.Views.{get_member-put, get_member-put_other}
use Rattle.engine_types.specs.declared.ContainerSpec.{ContainerSpec}
use Rattle.engine_bodies.specs.Containers.{container_members, host_members, host_value}
use Rattle.engine_bodies.specs.Json.{Member, if_any, with_member}
use Rattle.laws_bytes.specs.BodyLaws.{BodiesSayExactly, SaysExactly, TablesSayExactly, is_new, names_differ}
use Rattle.engine_bodies.specs.Resources.{connect_members, network_members, volume_members}

parts : (x y : Bool) → (x && y) ≡ true → (x ≡ true) × (y ≡ true)
parts true y e = (refl, e)
parts false y e = absurd (true≢false (sym e))

negated : (x : Bool) → not x ≡ true → x ≡ false
negated true e = absurd (true≢false (sym e))
negated false e = refl

-- texts that aren't equal by the test aren't equal
apart : (s t : List ℕ) → bytes_eq s t ≡ false → s ≡ t → ⊥
apart s t e same = true≢false (sym ((bytes_eq-Decides s t).1 same) ∙ e)

-- under another name nothing changes
other : (q name : List ℕ) (value : Option Data) (ms : Members) → (q ≡ name → ⊥) → get_member q (with_member ms (name, value)) ≡ get_member q ms
unfolding with_member
other q name None ms apart = refl
other q name (Some d) ms apart = get_member-put_other q name d ms apart

-- under its own name stands what was added
here : (name : List ℕ) (value : Option Data) (ms : Members) → get_member name ms ≡ None → get_member name (with_member ms (name, value)) ≡ value
unfolding with_member
here name None ms none = none
here name (Some d) ms none = get_member-put name d ms

-- under a name that no row has nothing changes
absent : (q : List ℕ) (rows : List Member) (ms : Members) → is_new q rows ≡ true → get_member q (fold with_member ms rows) ≡ get_member q ms
absent q [] ms e = refl
absent q (row ∷ rows) ms e =
    let p = parts (not (bytes_eq q row.0)) (is_new q rows) e in
    absent q rows (with_member ms row) p.1 ∙ other q row.0 row.1 ms (apart q row.0 (negated (bytes_eq q row.0) p.0))

-- names that aren't there yet stay so
still : (row : Member) (rows : List Member) (ms : Members) → is_new row.0 rows ≡ true → AllByRecursion (λ m. get_member m.0 ms ≡ None) rows → AllByRecursion (λ m. get_member m.0 (with_member ms row) ≡ None) rows
still row [] ms e none = tt
still row (m ∷ rows) ms e none =
    let p = parts (not (bytes_eq row.0 m.0)) (is_new row.0 rows) e in (
      other m.0 row.0 row.1 ms (λ same. apart row.0 m.0 (negated (bytes_eq row.0 m.0) p.0) (sym same)) ∙ none.0,
      still row rows ms p.1 none.1,
    )

each : (rows : List Member) (ms : Members) → names_differ rows ≡ true → AllByRecursion (λ m. get_member m.0 ms ≡ None) rows → All (λ row. get_member row.0 (fold with_member ms rows) ≡ row.1) rows
each [] ms e none = All-nil (λ row. get_member row.0 ms ≡ row.1)
each (row ∷ rows) ms e none =
    let p = parts (is_new row.0 rows) (names_differ rows) e in
    All-cons (λ m. get_member m.0 (fold with_member (with_member ms row) rows) ≡ m.1) row rows
    (absent row.0 rows (with_member ms row) p.0 ∙ here row.0 row.1 ms none.0) (each rows (with_member ms row) p.1 (still row rows ms p.0 none.1))

none_yet : (rows : List Member) → AllByRecursion (λ m. get_member m.0 no_members ≡ None) rows
none_yet [] = tt
none_yet (row ∷ rows) = (refl, none_yet rows)

pub tables : TablesSayExactly
tables rows e = record {
  found = each rows no_members e (none_yet rows);
  nothing_else = λ name new. absent name rows no_members new;
}

if_there : (ms : Members) (d : Data) (rows : List Member) → if_any ms ≡ Some d → SaysExactly (object ms) rows → SaysExactly d rows
if_there no_members d rows e says = absurd (cc e)
if_there (member k v ms) d rows e says = let same : object (member k v ms) ≡ d = cc in subst (λ (x : Data). SaysExactly x rows) same says

host_says : (spec : ContainerSpec) (host : Data) → host_value spec ≡ Some host → SaysExactly host (host_members spec)
host_says spec host e = if_there (fold with_member no_members (host_members spec)) host (host_members spec) e (tables (host_members spec) refl)

pub bodies : BodiesSayExactly
bodies = (
  λ spec. tables (container_members spec) refl,
  host_says,
  λ spec. tables (network_members spec) refl,
  λ spec. tables (volume_members spec) refl,
  λ container aliases. tables (connect_members container aliases) refl,
)
