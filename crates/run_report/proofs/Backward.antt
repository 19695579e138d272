-- A journal that is looked through from its newest entry on.
use Rattle.std.proofs.Common.{◌≡◌, ℕ, ◌+◌, ◌<◌, Bool, true, false, List, ◌∷◌, Option, Some, None, length, get_or, take, sym, ap, ◌∙◌}
use Rattle.std.specs.Option.{option_map_or}
use Rattle.std.specs.Prelude.{reverse, if◌then◌else◌}
use Rattle.engine_types.specs.declared.Entry.{Entry}
use Rattle.run_report.specs.Claims.{before_claim, before_poll, is_claim_of, slot_polled}
use Rattle.run_report.specs.Telling.{decides, latest_deciding}
use Rattle.run_report.proofs.Asked.{claim_is}
use Rattle.run_report.proofs.Newest.{newest}
use Rattle.run_report.proofs.Polled.{polled_is}

module _ (past : List Entry) (n i : ℕ) (entry : Entry) (next : n ≡ i + 1) (within : i < length past) (is : entry ≡ get_or past i entry) where
  first : reverse (take n past) ≡ entry ∷ reverse (take i past)
  first = ap (λ (k : ℕ). reverse (take k past)) next ∙ newest past i entry within is

  pub claim_here : (a : ℕ) → is_claim_of a entry ≡ true → before_claim (reverse (take n past)) a ≡ Some (reverse (take i past))
  claim_here a e =
      ap (λ (l : List Entry). before_claim l a) first ∙ claim_is (reverse (take i past)) entry a
      ∙ ap (λ (b : Bool). if b then Some (reverse (take i past)) else before_claim (reverse (take i past)) a) e

  pub claim_before : (a : ℕ) → is_claim_of a entry ≡ false → before_claim (reverse (take n past)) a ≡ before_claim (reverse (take i past)) a
  claim_before a e =
      ap (λ (l : List Entry). before_claim l a) first ∙ claim_is (reverse (take i past)) entry a
      ∙ ap (λ (b : Bool). if b then Some (reverse (take i past)) else before_claim (reverse (take i past)) a) e

  pub poll_here : (w s : ℕ) → Some s ≡ slot_polled w entry → Some (reverse (take i past), s) ≡ before_poll (reverse (take n past)) w
  poll_here w s e = sym (
      ap (λ (l : List Entry). before_poll l w) first ∙ polled_is (reverse (take i past)) entry w
      ∙ ap (λ (o : Option ℕ). option_map_or (λ (t : ℕ). Some (reverse (take i past), t)) o (before_poll (reverse (take i past)) w)) (sym e))

  pub poll_before : (w : ℕ) → None ≡ slot_polled w entry → before_poll (reverse (take n past)) w ≡ before_poll (reverse (take i past)) w
  poll_before w e =
      ap (λ (l : List Entry). before_poll l w) first ∙ polled_is (reverse (take i past)) entry w
      ∙ ap (λ (o : Option ℕ). option_map_or (λ (t : ℕ). Some (reverse (take i past), t)) o (before_poll (reverse (take i past)) w)) (sym e)

  pub decided_here : (a : ℕ) → decides (reverse (take i past)) entry a ≡ true → Some entry ≡ latest_deciding (reverse (take n past)) a
  decided_here a e = sym (
      ap (λ (l : List Entry). latest_deciding l a) first
      ∙ ap (λ (b : Bool). if b then Some entry else latest_deciding (reverse (take i past)) a) e)

  pub decided_before : (a : ℕ) → decides (reverse (take i past)) entry a ≡ false → latest_deciding (reverse (take n past)) a ≡ latest_deciding (reverse (take i past)) a
  decided_before a e =
      ap (λ (l : List Entry). latest_deciding l a) first
      ∙ ap (λ (b : Bool). if b then Some entry else latest_deciding (reverse (take i past)) a) e
