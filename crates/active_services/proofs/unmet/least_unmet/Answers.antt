use Rattle.std.proofs.Common.{◌≡◌, ◌∙◌, ◌∷◌, ◌+◌, ◌-◌, ℕ, List, arith, ap, sym, drop}
use Rattle.std.specs.Prelude.{filter}
use Rattle.active_services.specs.Profiles.{Entries, is_enabled, is_unmet}
use Rattle.active_services.proofs.Walking.{drop_next, missed}
use Rattle.tree_base.specs.ByteOrder.{least_by}
use Rattle.tree_base.specs.declared.Tree.{Tree}
use Rattle.active_services.proofs.unmet.least_unmet.Goals as goal

pub loop-left-preserved-in-Some : goal.loop-left-preserved-in-Some
loop-left-preserved-in-Some c =
    let all = c.args.needs.now in
    let left = c.loop-left.left in
    let entry : List ℕ × Tree = (c.in-Some.name.now, c.in-Some.need.now) in
    let up : left - 1 + 1 ≡ left = omega arith in
    let next : drop (left - 1) all ≡ entry ∷ drop left all = drop_next all (left - 1) entry (sym c.in-Some.ensures) ∙ ap (λ (at : ℕ). entry ∷ drop at all) up in
    record {
      within = omega arith;
      least = c.lesser_unmet-least.ensures (drop left all) c.loop-left.invariant.least ∙ ap (λ (es : Entries). least_by (λ (e : List ℕ × Tree). e.0) (filter (is_unmet (is_enabled c.args.profiles.now) c.args.services.now) es)) (sym next);
    }

pub loop-left-preserved : goal.loop-left-preserved
loop-left-preserved c = absurd (missed c.args.needs.now (c.loop-left.left - 1) c.in_default.ensures (omega arith))
