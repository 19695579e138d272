-- A search by halves among services in order finds the place of a key.
use Rattle.std.proofs.Common.{◌≡◌, ◌⊎◌, ℕ, zero, suc, ◌<◌, ◌≤◌, true, List, [], ◌∷◌, Some, None, Ok, Err, length, get_or, refl, ap, sym, ◌∙◌, subst, arith, inl, inr}
use Rattle.std.specs.Prelude.{Option, Result, slice_get}
use Rattle.std.specs.Cmp.Lexicographic.{slice_cmp}
use Rattle.std.specs.List.Sorted.{IsBinarySearchResult, IsSearchInRange}
use Rattle.std.specs.Ordering.{is_eq, is_lt, nat_cmp, ordering_index}
use Rattle.std.specs.Result.{result_ok}
use Rattle.std.specs.declared.cmp.Ordering.{Ordering}
use Rattle.std.specs.declared.cmp.Ordering.TheVariants.{Less, Equal, Greater}
use Rattle.std.proofs.lemmas.Cmp.{nat_list_cmp_total, tied_itself}
use Rattle.std.proofs.lemmas.Map.Text.{is_eq-slice_cmp}
use Rattle.std.proofs.lemmas.Option.{get_or_from_slice_get, slice_get-get_or, slice_get_within}
use Rattle.std.proofs.lemmas.Slice.Eq.{bytes_eq-Decides}
use Rattle.typed_project.specs.Projects.{IsInOrder}
use Rattle.typed_project.specs.declared.service.Service.{Service}
use Rattle.service_graph.specs.Places.{place_of}
use Rattle.service_graph.proofs.InOrder.{apart_in_order}
use Rattle.service_graph.proofs.Keyed.{own_place, place_is}
use Rattle.service_graph.proofs.Lists.{below_or}

some_at : {X : Type 0} (xs : List X) (i : ℕ) → i < length xs → (x : X) × (slice_get xs i ≡ Some x)
some_at [] i l = absurd (omega (arith, l))
some_at (x ∷ xs) zero l = (x, refl)
some_at (x ∷ xs) (suc i) l = some_at xs i (omega (arith, l))

abbrev order : List ℕ → List ℕ → Ordering
order = slice_cmp nat_cmp

is_less : (o : Ordering) → is_lt o ≡ true → o ≡ Less
is_less Less e = refl
is_less Equal e = absurd (cc e)
is_less Greater e = absurd (cc e)

same_key : (x y : List ℕ) → order x y ≡ Equal → x ≡ y
same_key x y e = (bytes_eq-Decides x y).0 (sym (is_eq-slice_cmp x y) ∙ ap is_eq e)

at_most_two : (o : Ordering) → ordering_index o ≤ 2
at_most_two Less = omega arith
at_most_two Equal = omega arith
at_most_two Greater = omega arith

-- keys in order lie below, at and above a key in this order
rises : (x y key : List ℕ) → order x y ≡ Less → ordering_index (order x key) ≤ ordering_index (order y key)
rises x y key e = at (order y key) refl
  where
    low : order x key ≡ Less → (o : Ordering) → ordering_index (order x key) ≤ ordering_index o
    low f o = subst (λ (p : Ordering). ordering_index p ≤ ordering_index o) (sym f) (omega arith)

    at : (o : Ordering) → order y key ≡ o → ordering_index (order x key) ≤ ordering_index (order y key)
    at Less f = low (nat_list_cmp_total.trans x y key e f) (order y key)
    at Equal f = low (ap (order x) (sym (same_key y key f)) ∙ e) (order y key)
    at Greater f = subst (λ (p : Ordering). ordering_index (order x key) ≤ ordering_index p) (sym f) (at_most_two (order x key))

never : (key : List ℕ) (o : Ordering) → order key key ≡ o → (o ≡ Equal → ⊥) → ⊥
never key o e unequal = unequal (sym e ∙ tied_itself nat_list_cmp_total key)

pub searched : (services : List Service) → IsInOrder services → (key : List ℕ) (r : Result ℕ ℕ) → IsSearchInRange r (length services)
    → IsBinarySearchResult (λ service. order service.key key) services r → result_ok r ≡ place_of services key
searched services up key (Ok i) bound h =
    let s = some_at services i bound in
    let here : get_or services i s.0 ≡ s.0 = get_or_from_slice_get services i s.0 s.0 s.1 in
    let same : s.0.key ≡ key = same_key s.0.key key (sym (ap (λ (service : Service). order service.key key) here) ∙ h s.0) in
    sym (ap (place_of services) (sym same) ∙ own_place services (apart_in_order services up) i s.0 s.1)
searched services up key (Err i) bound h = at (place_of services key) refl
  where
    goes_up : (a b : ℕ) (d : Service) → (a < b) ⊎ (b ≤ a) → a ≤ b → b < length services → ordering_index (order (get_or services a d).key key) ≤ ordering_index (order (get_or services b d).key key)
    goes_up a b d (inl l) le m =
        rises (get_or services a d).key (get_or services b d).key key
        (is_less (order (get_or services a d).key (get_or services b d).key)
        (up a b (get_or services a d) (get_or services b d) l (slice_get-get_or services a d (omega (arith, l, m))) (slice_get-get_or services b d m)))
    goes_up a b d (inr l) le m =
        let same : a ≡ b = omega (arith, l, le) in
        subst (λ (n : ℕ). ordering_index (order (get_or services a d).key key) ≤ ordering_index (order (get_or services n d).key key)) same (omega arith)

    at : (o : Option ℕ) → place_of services key ≡ o → None ≡ o
    at None e = refl
    at (Some place) e =
        let p = place_is services (apart_in_order services up) key place e in
        let here : get_or services place p.0 ≡ p.0 = get_or_from_slice_get services place p.0 p.0 p.1 in
        let low : place < length services = slice_get_within services place p.0 p.1 in
        let k : (get_or services place p.0).key ≡ key = ap (λ (s : Service). s.key) here ∙ p.2 in
        let parted = h (λ a b d le m. goes_up a b d (below_or a b) le m) in
        absurd (elim (below_or place i) [
          | inl l ↦ never key Less (sym (ap (λ (x : List ℕ). order x key) k) ∙ parted.0 place p.0 (omega arith) l) (λ f. cc f)
          | inr l ↦ never key Greater (sym (ap (λ (x : List ℕ). order x key) k) ∙ parted.1 place p.0 l low) (λ f. cc f)
        ])
