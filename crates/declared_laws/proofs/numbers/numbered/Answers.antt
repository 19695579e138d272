use Rattle.std.proofs.Common.{◌≡◌, ◌∙◌, ◌⊎◌, ◌<◌, ◌+◌, ◌^◌, ℕ, List, [], ◌∷◌, ◌++◌, get_or, length, take, sym, ap, subst, inl, inr}
use Rattle.std.proofs.lemmas.List.{take_all, take_more}
use Rattle.declared_slots.specs.Counts.{scale_of}
use Rattle.run_model.specs.EngineRules.{Among}
use Rattle.run_model.proofs.DistinctLists.{from_append}
use Rattle.typed_project.specs.declared.service.Service.{Service}
use Rattle.declared_laws.proofs.numbers.numbered.Goals as goal

one_more : (P : Service → Type 0) (xs : List Service) (i : ℕ) (x : Service) → i < length xs → x ≡ get_or xs i x
    → ((y : Service) → Among (take i xs) y → P y) → P x → (y : Service) → Among (take (i + 1) xs) y → P y
one_more P xs i x within is before here y m =
    let next : take (i + 1) xs ≡ take i xs ++ x ∷ [] = take_more xs i x within ∙ ap (λ (z : Service). take i xs ++ z ∷ []) (sym is) in
    at (from_append (take i xs) (x ∷ []) y (subst (λ (l : List Service). Among l y) next m))
  where
    at : Among (take i xs) y ⊎ Among (x ∷ []) y → P y
    at (inl n) = before y n
    at (inr (inl e)) = subst P (sym e) here
    at (inr (inr n)) = absurd n

pub loop-service-preserved : goal.loop-service-preserved
loop-service-preserved c =
    let is : c.in_ok-count.count ≡ scale_of c.args.scales.now c.service-item.result = c.in_ok-count.ensures in
    one_more (λ (service : Service). scale_of c.args.scales.now service < 2 ^ 32) c.args.services.now c.loop-service.service-index c.service-item.result
    c.loop-service-test.true c.service-item.is c.loop-service.invariant (subst (λ (n : ℕ). n < 2 ^ 32) is c.is_of_32_bits.ensures)

pub returns : goal.returns
returns c =
    let whole = take_all c.loop-service.service-index c.args.services.now c.loop-service-test.false in
    λ service m. c.loop-service.invariant service (subst (λ (l : List Service). Among l service) (sym whole) m)
