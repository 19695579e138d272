use Rattle.std.proofs.Common.{◌≡◌, ℕ, List, [], ◌∷◌, ◌++◌, ◌+◌, map, take, sym, ap, ◌∙◌, arith}
use Rattle.std.proofs.lemmas.List.{map-append, take_all, take_more}
use Rattle.engine_types.specs.declared.Slot.{Slot}
use Rattle.tree_base.specs.ByteOrder.{first_of_each}
use Rattle.observe_project.proofs.images.distinct_images.Goals as goal

pub loop-slot-preserved : goal.loop-slot-preserved
loop-slot-preserved c =
    let slots = c.args.slots.now in let i = c.loop-slot.slot-index in
    let image : Slot → List ℕ = λ s. s.image in
    let next : take (i + 1) slots ≡ take i slots ++ c.slot-item.result ∷ [] = take_more slots i c.slot-item.result (omega arith) ∙ ap (λ x. take i slots ++ x ∷ []) (sym c.slot-item.is) in
    let kept = c.in_ok-keep_new.ensures (map image (take i slots)) c.loop-slot.invariant.are c.loop-slot.invariant.knows in
    record {
      are = kept.0 ∙ ap (first_of_each (λ (t : List ℕ). t)) (sym (map-append image (take i slots) (c.slot-item.result ∷ [])) ∙ ap (map image) (sym next));
      knows = kept.1;
    }

pub returns : goal.returns
returns c =
    let slots = c.args.slots.now in
    let all : take c.loop-slot.slot-index slots ≡ slots = take_all c.loop-slot.slot-index slots c.loop-slot-test.false in
    c.loop-slot.invariant.are ∙ ap (λ (l : List Slot). first_of_each (λ (t : List ℕ). t) (map (λ (s : Slot). s.image) l)) all
