use Rattle.std.proofs.Common.{◌∙◌, List, ℕ, arith, refl, sym}
use Rattle.active_services.specs.Profiles.{is_enabled, service_kept}
use Rattle.active_services.proofs.Keeping.{one_kept}
use Rattle.active_services.proofs.Walking.{missed}
use Rattle.tree_base.specs.declared.Tree.{Tree, out-Tree}
use Rattle.active_services.proofs.kept.services_kept.Goals as goal
use Rattle.active_services.proofs.kept.services_kept.Goals.{in-Some+in_ok-keep_service, in_default}

pub loop-at-preserved : goal.loop-at-preserved
loop-at-preserved c =
    let profiles = c.args.profiles.now in
    let all = c.args.services.now in
    elim c.match-pair.branch [
      | in-Some+in_ok-keep_service w ↦
          one_kept (λ (e : List ℕ × Tree). is_enabled profiles e.1) (λ (e : List ℕ × Tree). service_kept (is_enabled profiles) all e.1 (out-Tree e.1)) (is_enabled profiles w.in-Some.service.now) all c.loop-at.kept c.match-pair.kept c.loop-at.at (w.in-Some.name.now, w.in-Some.service.now)
          c.len-at-end.ensures.distinct (sym w.in-Some.ensures) refl c.loop-at.invariant (w.kept-is ∙ w.in_ok-keep_service.ensures)
      | in_default w ↦ absurd (missed all c.loop-at.at w.in_default.ensures (omega arith))
    ]
