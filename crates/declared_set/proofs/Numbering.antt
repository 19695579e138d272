-- Numbers in a row, and the keys under which slots stand.
use Rattle.std.proofs.Common.{◌≡◌, ◌∙◌, ◌+◌, ℕ, List, [], ◌∷◌, ◌++◌, ap, map, refl, sym}
use Rattle.std.specs.List.{range_with_len}
use Rattle.std.specs.Map.{keys_of}
use Rattle.std.proofs.lemmas.List.{append_assoc}
use Rattle.std.proofs.lemmas.List.FromFn.{map-range_with_len_more}
use Rattle.compose_words.specs.declared.options.Scale.{Scale}
use Rattle.declared_slots.specs.Counts.{ranges_from, scale_of}
use Rattle.typed_project.specs.declared.service.Service.{Service}

-- one more of so many in a row
pub one_more : {X : Type 0} (f : ℕ → X) (n j : ℕ) (old before new : List X) (item : X) → before ≡ old ++ map f (range_with_len 1 n)
    → new ≡ before ++ item ∷ [] → item ≡ f j → 1 + n ≡ j → new ≡ old ++ map f (range_with_len 1 (n + 1))
one_more f n j old before new item e put is at =
    put ∙ ap (λ front. front ++ item ∷ []) e ∙ append_assoc old (map f (range_with_len 1 n)) (item ∷ [])
    ∙ ap (λ behind. old ++ behind) (ap (λ i. map f (range_with_len 1 n) ++ i ∷ []) is ∙ sym (map-range_with_len_more f 1 n j at))

-- slots stand under the keys of their services
pub keys_from : (scales : List Scale) (first : ℕ) (services : List Service) → keys_of (ranges_from scales first services) ≡ map (λ service. service.key) services
keys_from scales first [] = refl
keys_from scales first (service ∷ services) = ap (λ (keys : List (List ℕ)). service.key ∷ keys) (keys_from scales (first + scale_of scales service) services)
