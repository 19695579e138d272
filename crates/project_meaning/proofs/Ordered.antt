-- Services have the keys of their entries, in the same order.
use Rattle.std.proofs.Common.{◌≡◌, ◌<◌, ℕ, zero, suc, Bool, true, false, cond, List, [], ◌∷◌, ◌++◌, Some, None, Ok, Err, map, refl, ap, sym, ◌∙◌, subst}
use Rattle.std.specs.Prelude.{Option, slice_get}
use Rattle.std.specs.List.{IsDistinct}
use Rattle.std.specs.Option.{option_map}
use Rattle.tree_base.specs.Answers.{◌>>=◌}
use Rattle.tree_base.specs.ByteOrder.{IsAscending, is_before}
use Rattle.tree_base.specs.Entries.{HasDistinctKeys}
use Rattle.tree_base.specs.declared.Step.TheVariants.{Key}
use Rattle.tree_base.specs.declared.Tree.{Tree, out-Tree}
use Rattle.attribute_types.specs.Answers.{refused, under}
use Rattle.attribute_types.specs.declared.attribute.Attribute.{Attribute}
use Rattle.attribute_types.specs.declared.refusal.Fault.{Fault}
use Rattle.attribute_rows.specs.Attributes.{attributes_of}
use Rattle.attribute_rows.specs.Rows.{entries_in}
use Rattle.attribute_scalars.specs.Walks.{Entries, Read, each_entry, in_byte_order}
use Rattle.attribute_scalars.proofs.Ordering.{by_key_ascends}
use Rattle.typed_project.specs.Projects.{IsInOrder}
use Rattle.typed_project.specs.declared.service.Service.{Service}
use Rattle.project_meaning.specs.Completing.{settled}
use Rattle.project_meaning.specs.Meaning.{declared_as, is_key, service_of}

module _ {X : Type 0} (key : X → List ℕ) where
  got : (xs : List X) (i : ℕ) → slice_get (map key xs) i ≡ option_map key (slice_get xs i)
  got [] i = refl
  got (x ∷ xs) zero = refl
  got (x ∷ xs) (suc i) = got xs i

  -- keys ascend where what has them does
  keys_ascend : (xs : List X) → IsAscending (λ x y. is_before (key x) (key y)) xs → IsAscending is_before (map key xs)
  keys_ascend xs up i j s t l e f = at (slice_get xs i) refl (sym (got xs i) ∙ e) (slice_get xs j) refl (sym (got xs j) ∙ f)
    where
      at : (o : Option X) → slice_get xs i ≡ o → option_map key o ≡ Some s → (p : Option X) → slice_get xs j ≡ p → option_map key p ≡ Some t → is_before s t ≡ true
      at None a b p c d = absurd (cc b)
      at (Some x) a b None c d = absurd (cc d)
      at (Some x) a b (Some y) c d =
          let one : key x ≡ s = cc b in
          let other : key y ≡ t = cc d in
          ap (λ (k : List ℕ). is_before k t) (sym one) ∙ ap (λ (k : List ℕ). is_before (key x) k) (sym other) ∙ up i j x y l a c

  -- and the other way
  ascend_by : (xs : List X) → IsAscending is_before (map key xs) → IsAscending (λ x y. is_before (key x) (key y)) xs
  ascend_by xs up i j x y l e f = up i j (key x) (key y) l (got xs i ∙ ap (option_map key) e) (got xs j ∙ ap (option_map key) f)

abbrev key_of : List ℕ × Tree → List ℕ
key_of entry = entry.0

abbrev key_in : Service → List ℕ
key_in service = service.key

-- the service of an entry has its key
one_key : (key : List ℕ) (tree : Tree) (found : List Service) → declared_as service_of key tree ≡ Ok found → map key_in found ≡ key ∷ []
one_key key tree found e = by (is_key key) e
  where
    inner : (r : Read (List Attribute)) → ((r >>= λ attributes. Ok (record { key = key; attributes = attributes })) >>= λ (item : Service). Ok (item ∷ [])) ≡ Ok found → map key_in found ≡ key ∷ []
    inner (Err refusal) f = absurd (cc f)
    inner (Ok attributes) f = let same : record { key = key; attributes = attributes } ∷ [] ≡ found = cc f in ap (map key_in) (sym same)

    by : (b : Bool) → cond b (service_of key (out-Tree tree) >>= λ item. Ok (item ∷ [])) (refused Fault.BadValue) ≡ Ok found → map key_in found ≡ key ∷ []
    by true f = inner (entries_in (out-Tree tree) >>= attributes_of) f
    by false f = absurd (cc f)

map_both : (xs ys : List Service) → map key_in (xs ++ ys) ≡ map key_in xs ++ map key_in ys
map_both [] ys = refl
map_both (x ∷ xs) ys = ap (λ l. x.key ∷ l) (map_both xs ys)

keys_are : (entries : Entries) (services : List Service) → each_entry (declared_as service_of) entries ≡ Ok services → map key_in services ≡ map key_of entries
keys_are [] services e = let none : [] ≡ services = cc e in ap (map key_in) (sym none)
keys_are (entry ∷ entries) services e =
    by (declared_as service_of entry.0 entry.1) refl (each_entry (declared_as service_of) entries) (λ more b. keys_are entries more b) e
  where
    by : (r : Read (List Service)) → declared_as service_of entry.0 entry.1 ≡ r → (s : Read (List Service)) → ((more : List Service) → s ≡ Ok more → map key_in more ≡ map key_of entries)
        → (under (Key entry.0) r >>= λ found. s >>= λ more. Ok (found ++ more)) ≡ Ok services → map key_in services ≡ entry.0 ∷ map key_of entries
    by (Err refusal) a s k f = absurd (cc f)
    by (Ok found) a (Err refusal) k f = absurd (cc f)
    by (Ok found) a (Ok more) k f =
        let same : found ++ more ≡ services = cc f in
        ap (map key_in) (sym same) ∙ map_both found more ∙ ap (λ (l : List (List ℕ)). l ++ map key_in more) (one_key entry.0 entry.1 found a) ∙ ap (λ (l : List (List ℕ)). entry.0 ∷ l) (k more refl)

-- services of entries in order are in order
pub services_ascend : (entries : Entries) (services : List Service) → each_entry (declared_as service_of) entries ≡ Ok services
    → IsAscending (λ one other. is_before one.0 other.0) entries → IsInOrder services
services_ascend entries services e up =
    ascend_by key_in services (subst (λ (keys : List (List ℕ)). IsAscending is_before keys) (sym (keys_are entries services e)) (keys_ascend key_of entries up))

-- no entries have no keys that are the same
pub none_distinct : HasDistinctKeys {V = Tree} []
unfolding IsDistinct
none_distinct = tt

-- entries of different keys, in byte order, ascend
pub entries_ascend : (entries sorted : Entries) → HasDistinctKeys entries → sorted ≡ in_byte_order entries → IsAscending (λ one other. is_before one.0 other.0) sorted
entries_ascend entries sorted d e = subst (λ (l : Entries). IsAscending (λ one other. is_before one.0 other.0) l) (sym e) (by_key_ascends key_of entries d)

settled_keys : (keys : List (List ℕ)) (services : List Service) → map key_in (map (settled keys) services) ≡ map key_in services
settled_keys keys [] = refl
settled_keys keys (service ∷ services) = ap (λ l. service.key ∷ l) (settled_keys keys services)

-- services that are settled stay in order
pub settled_ascend : (keys : List (List ℕ)) (services : List Service) → IsInOrder services → IsInOrder (map (settled keys) services)
settled_ascend keys services up =
    ascend_by key_in (map (settled keys) services) (subst (λ (l : List (List ℕ)). IsAscending is_before l) (sym (settled_keys keys services)) (keys_ascend key_in services up))
