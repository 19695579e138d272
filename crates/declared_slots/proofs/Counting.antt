-- Slots behind one another, and sums that stand still at the greatest number.
use Rattle.std.proofs.Common.{◌≡◌, ℕ, zero, suc, ◌+◌, ◌*◌, ◌^◌, ◌-◌, Bool, true, false, List, [], ◌∷◌, ◌++◌, Option, Some, None, ◌<◌, get_or, length, map, take, not, refl, ap, sym, ◌∙◌, arith, subst}
use Rattle.std.specs.Prelude.{min, slice_get}
use Rattle.std.specs.List.{IsDistinct, range_with_len, sum_by}
use Rattle.std.specs.Map.{keys_of}
use Rattle.std.specs.Option.{is_none}
use Rattle.std.specs.Str.{bytes_eq}
use Rattle.std.proofs.Math.Nat.{zero-add}
use Rattle.std.proofs.Math.Numerals.{add-one}
use Rattle.std.proofs.Math.Seq.{take-suc}
use Rattle.std.proofs.lemmas.Cmp.{nat_list_eq_equiv}
use Rattle.std.proofs.lemmas.List.{append_assoc}
use Rattle.std.proofs.lemmas.List.FromFn.{map-range_with_len_more}
use Rattle.std.proofs.lemmas.List.Sums.{sum_by-cons, sum_by_push}
use Rattle.attribute_scalars.specs.Walks.{is_in}
use Rattle.compose_words.specs.declared.options.Scale.{Scale}
use Rattle.tree_base.proofs.Pairs.{put-next}
use Rattle.tree_base.specs.Entries.{insert_entry, value_at}
use Rattle.typed_project.specs.declared.service.Service.{Service}
use Rattle.declared_slots.specs.Counts.{ranges_from, ranges_of, scale_of}
use Rattle.declared_slots.specs.declared.counts.Range.{Range}

moved : (a b c d : ℕ) → d ≡ b + c → a + b + c ≡ a + d
moved a b c d e = omega (arith, e)

module _ (scales : List Scale) where
  -- the slots of a service, of which so many stand before, under its key
  abbrev pub entry_of : Service → ℕ → List ℕ × Range
  entry_of service first = (service.key, record { first = first; count = scale_of scales service })

  -- the slots stand under the keys of their services
  pub keys_from : (first : ℕ) (services : List Service) → keys_of (ranges_from scales first services) ≡ map (λ service. service.key) services
  keys_from first [] = refl
  keys_from first (service ∷ services) = ap (λ (keys : List (List ℕ)). service.key ∷ keys) (keys_from (first + scale_of scales service) services)

  -- the slots of a service stand behind those of all services before it
  pub range_at : (first : ℕ) (services : List Service) (i : ℕ) (service : Service) → slice_get services i ≡ Some service
      → slice_get (ranges_from scales first services) i ≡ Some (entry_of service (first + sum_by (scale_of scales) (take i services)))
  range_at first [] i service e = absurd (cc e)
  range_at first (other ∷ services) zero service e =
      let same : other ≡ service = cc e in
      let behind : first ≡ first + 0 = omega arith in
      ap (λ (n : ℕ). Some (entry_of other n)) behind ∙ ap (λ (s : Service). Some (entry_of s (first + 0))) same
  range_at first (other ∷ services) (suc i) service e =
      range_at (first + scale_of scales other) services i service e
      ∙ ap (λ (n : ℕ). Some (entry_of service n)) (moved first (scale_of scales other) (sum_by (scale_of scales) (take i services)) (sum_by (scale_of scales) (other ∷ take i services)) (sum_by-cons (scale_of scales) other (take i services)))

  -- the slots of the next service, put to those of the services before it
  pub range_put : (services : List Service) (i : ℕ) (service : Service) → IsDistinct bytes_eq (map (λ s. s.key) services) → slice_get services i ≡ Some service
      → insert_entry bytes_eq (take i (ranges_of scales services)) service.key (record { first = sum_by (scale_of scales) (take i services); count = scale_of scales service })
      ≡ take (i + 1) (ranges_of scales services)
  range_put services i service distinct e =
      ap (λ (n : ℕ). insert_entry bytes_eq (take i (ranges_of scales services)) service.key (record { first = n; count = scale_of scales service })) (sym (zero-add _))
      ∙ put-next nat_list_eq_equiv (ranges_of scales services) i _ (subst (λ (keys : List (List ℕ)). IsDistinct bytes_eq keys) (sym (keys_from 0 services)) distinct)
      (range_at 0 services i service e)

-- slots are as many as services
pub as_many : (scales : List Scale) (first : ℕ) (services : List Service) → length (ranges_from scales first services) ≡ length services
as_many scales first [] = refl
as_many scales first (service ∷ services) = ap suc (as_many scales (first + scale_of scales service) services)

-- one more of so many in a row
pub one_more : {X : Type 0} (f : ℕ → X) (a n j : ℕ) (old before new : List X) (item : X) → before ≡ old ++ map f (range_with_len a n)
    → new ≡ before ++ item ∷ [] → item ≡ f j → a + n ≡ j → new ≡ old ++ map f (range_with_len a (n + 1))
one_more f a n j old before new item e put is at =
    put ∙ ap (λ front. front ++ item ∷ []) e ∙ append_assoc old (map f (range_with_len a n)) (item ∷ [])
    ∙ ap (λ behind. old ++ behind) (ap (λ i. map f (range_with_len a n) ++ i ∷ []) is ∙ sym (map-range_with_len_more f a n j at))

-- the sum over one more
pub one_more_sum : {X : Type 0} (f : X → ℕ) (xs : List X) (i : ℕ) (x : X) (before count new : ℕ) → i < length xs → x ≡ get_or xs i x
    → before ≡ sum_by f (take i xs) → count ≡ f x → new ≡ before + count → new ≡ sum_by f (take (i + 1) xs)
one_more_sum {X} f xs i x before count new within is sums counts adds =
    let front : take (i + 1) xs ≡ take i xs ++ x ∷ [] = rw (add-one) (take-suc xs i x within ∙ ap (λ (y : X). take i xs ++ y ∷ []) (sym is)) in
    adds ∙ (λ j. sums j + counts j) ∙ sym (sum_by_push f (take i xs) x) ∙ ap (sum_by f) (sym front)
