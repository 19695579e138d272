-- Names that were given, and names that none was given.
use Rattle.std.proofs.Common.{◌≡◌, ℕ, Bool, true, false, not, List, [], ◌∷◌, Option, Some, None, Result, Ok, Err, refl, sym, ap, ◌∙◌}
use Rattle.std.specs.Prelude.{is_some, IfSome, OnOk, OnErr}
use Rattle.std.specs.List.{list_all, list_any}
use Rattle.std.specs.Str.{bytes_eq}
use Rattle.std.proofs.lemmas.Bool.{and_parts}
use Rattle.engine_types.specs.declared.ContainerRow.{ContainerRow}
use Rattle.engine_types.specs.declared.ContainerSpec.{ContainerSpec}
use Rattle.engine_types.specs.declared.Request.{Request}
use Rattle.tree_base.specs.Entries.{value_at, with_entry}
use Rattle.memory_engine.specs.Naming.{name_given}
use Rattle.memory_engine.proofs.Texts.{by_cases, same_text, bytes_eq_itself}

-- a name that was not given is no container's
pub name_is_free : (given : List ℕ → Bool) (name : List ℕ) (rows : List ContainerRow) → given name ≡ false → list_all (λ row. given row.name) rows ≡ true
    → list_any (λ row. bytes_eq name row.name) rows ≡ false
name_is_free given name [] free all = refl
name_is_free given name (row ∷ rows) free all =
    let parts = and_parts (given row.name) (list_all (λ r. given r.name) rows) all in
    let rest = name_is_free given name rows free parts.1 in
    by_cases (bytes_eq name row.name)
    (λ e. let clash : false ≡ true = sym free ∙ ap given (same_text name row.name e) ∙ parts.0 in cc)
    (λ e. rw (e, rest) refl)

-- the same of the name that there may be
pub names_are_free : (given : List ℕ → Bool) (rows : List ContainerRow) (name : Option (List ℕ)) → IfSome name (λ n. given n ≡ false)
    → list_all (λ row. given row.name) rows ≡ true → IfSome name (λ n. list_any (λ row. bytes_eq n row.name) rows ≡ false)
names_are_free given rows None free all = tt
names_are_free given rows (Some name) free all = name_is_free given name rows free all

-- by the value that stands under each name
module _ {V : Type 0} where
  -- a name stays where another one is put
  stays_put : (given : List (List ℕ × V)) (key name : List ℕ) (v : V) → is_some (value_at given name) ≡ true
      → is_some (value_at (with_entry given key v) name) ≡ true
  stays_put [] key name v was = let clash : false ≡ true = was in cc
  stays_put (e ∷ es) key name v was = by_cases (bytes_eq key e.0)
      (λ here. rw here (by_cases (bytes_eq name e.0) (λ f. rw f refl) (λ f. rw f (rw f at was))))
      (λ away. rw away (by_cases (bytes_eq name e.0) (λ f. rw f refl) (λ f. rw f (stays_put es key name v (rw f at was)))))

  -- a name that is put is there
  is_put : (given : List (List ℕ × V)) (key : List ℕ) (v : V) → is_some (value_at (with_entry given key v) key) ≡ true
  is_put [] key v = rw (bytes_eq_itself key) refl
  is_put (e ∷ es) key v = by_cases (bytes_eq key e.0) (λ here. rw here (rw here refl)) (λ away. rw away (rw away (is_put es key v)))

  -- a name is new where nothing stood under it
  pub is_new : (given : List (List ℕ × V)) (key name : List ℕ) (before : Option V) (new : Bool)
      → key ≡ name → before ≡ value_at given key → is_some before ≡ not new → is_some (value_at given name) ≡ not new
  is_new given key name before new same was is = rw (← same, ← was) is

  -- what was given stays so, whether or not there was memory to put one more
  pub stays_given : {E : Type 0} (old new : List (List ℕ × V)) (name : List ℕ) (v : V) (result : Result Bool E)
      → OnOk result (new ≡ with_entry old name v) → OnErr result (new ≡ old)
      → (other : List ℕ) → is_some (value_at old other) ≡ true → is_some (value_at new other) ≡ true
  stays_given old new name v (Ok b) ok err other was = rw ok (stays_put old name other v was)
  stays_given old new name v (Err e) ok err other was = rw err was

  -- the name that was put is given
  pub is_given : {E : Type 0} (old new : List (List ℕ × V)) (name : List ℕ) (v : V) (result : Result Bool E)
      → OnOk result (new ≡ with_entry old name v) → OnOk result (is_some (value_at new name) ≡ true)
  is_given old new name v (Ok b) ok = rw ok (is_put old name v)
  is_given old new name v (Err e) ok = tt

-- a request that makes no container gives no name
pub gives_none : (request : Request) → ((name : List ℕ) (spec : ContainerSpec) → request ≡ Request.Create name spec → ⊥) → name_given request ≡ None
gives_none (Request.Create name spec) other = absurd (other name spec refl)
gives_none (Request.ListContainers project) other = refl
gives_none (Request.Inspect id) other = refl
gives_none (Request.Logs id) other = refl
gives_none (Request.Start id) other = refl
gives_none (Request.Stop id seconds) other = refl
gives_none (Request.Remove id) other = refl
gives_none Request.ListNetworks other = refl
gives_none (Request.MakeNetwork spec) other = refl
gives_none (Request.Connect network container aliases) other = refl
gives_none (Request.RemoveNetwork id) other = refl
gives_none Request.ListVolumes other = refl
gives_none (Request.MakeVolume spec) other = refl
gives_none (Request.RemoveVolume name) other = refl
gives_none (Request.Image name) other = refl
gives_none (Request.Pull name) other = refl
