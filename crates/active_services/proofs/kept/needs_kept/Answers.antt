use Rattle.std.proofs.Common.{◌≡◌, ◌∙◌, Bool, true, false, cond, not, List, ℕ, ◌+◌, arith, refl, sym, take}
use Rattle.active_services.specs.Profiles.{Entries, is_disabled, is_enabled, needs_kept}
use Rattle.active_services.proofs.Keeping.{one_kept, own_values}
use Rattle.active_services.proofs.Walking.{missed}
use Rattle.tree_base.specs.Entries.{with_entry}
use Rattle.tree_base.specs.declared.Tree.{Tree}
use Rattle.active_services.proofs.kept.needs_kept.Goals as goal
use Rattle.active_services.proofs.kept.needs_kept.Goals.{in-Some+in_ok-keep_need, in_default}

turned : (b : Bool) (old put : Entries) → cond b old put ≡ cond (not b) put old
turned true old put = refl
turned false old put = refl

pub loop-at-preserved : goal.loop-at-preserved
loop-at-preserved c =
    let profiles = c.args.profiles.now in
    let services = c.args.services.now in
    let all = c.args.needs.now in
    let left = λ (i : ℕ). own_values (needs_kept (is_enabled profiles) services (take i all)) in
    elim c.match-pair.branch [
      | in-Some+in_ok-keep_need w ↦
          let name = w.in-Some.name.now in
          one_kept (λ (e : List ℕ × Tree). not (is_disabled (is_enabled profiles) services e.0)) (λ (e : List ℕ × Tree). e.1) (not (is_disabled (is_enabled profiles) services name)) all c.loop-at.kept c.match-pair.kept c.loop-at.at (name, w.in-Some.need.now)
          c.len-at-end.ensures.distinct (sym w.in-Some.ensures) refl (c.loop-at.invariant ∙ sym (left c.loop-at.at))
          (w.kept-is ∙ w.in_ok-keep_need.ensures ∙ turned (is_disabled (is_enabled profiles) services name) c.loop-at.kept (with_entry c.loop-at.kept name w.in-Some.need.now))
          ∙ left (c.loop-at.at + 1)
      | in_default w ↦ absurd (missed all c.loop-at.at w.in_default.ensures (omega arith))
    ]
