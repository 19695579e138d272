-- Of the rolled slots before, the one that stands as many places before, if it is of the service.
use Rattle.std.proofs.Common.{◌∙◌, Option, ℕ, None, Some, refl, subst, sym}
use Rattle.rolling_update.proofs.Awaits.{Waits, found, none_found, of_another}
use Rattle.rolling_update.proofs.waiting.waited_for.Goals as goal

pub returns-in_err-other : goal.returns-in_err-other
returns-in_err-other c =
    subst (λ (o : Option ℕ). Waits c.args.finder.now.scene c.requires.whole c.args.number c.args.row.now c.requires.row o) (sym c.from_residual-in_err-other.ensures)
    (none_found c.args.finder.now.scene c.requires.whole c.args.number c.args.row.now c.requires.row c.in_ok-slot.slot.now (sym c.in_ok-slot.ensures)
    (sym c.requires.rolled ∙ c.if-not-is_rolled.false) c.in_ok-count.count (sym c.in_ok-count.ensures) None c.in_err-other.ensures refl)

pub returns-then-is_of_service : goal.returns-then-is_of_service
returns-then-is_of_service c =
    found c.args.finder.now.scene c.requires.whole c.args.number c.args.row.now c.requires.row c.in_ok-slot.slot.now (sym c.in_ok-slot.ensures)
    (sym c.requires.rolled ∙ c.if-not-is_rolled.false) c.in_ok-count.count (sym c.in_ok-count.ensures) (Some c.in_ok-other.other) c.in_ok-other.ensures c.in_ok-other.other refl
    (sym c.is_of_service.ensures ∙ c.if-is_of_service.true)

pub returns-else-is_of_service : goal.returns-else-is_of_service
returns-else-is_of_service c =
    of_another c.args.finder.now.scene c.requires.whole c.args.number c.args.row.now c.requires.row c.in_ok-slot.slot.now (sym c.in_ok-slot.ensures)
    (sym c.requires.rolled ∙ c.if-not-is_rolled.false) c.in_ok-count.count (sym c.in_ok-count.ensures) (Some c.in_ok-other.other) c.in_ok-other.ensures c.in_ok-other.other refl
    (sym c.is_of_service.ensures ∙ c.if-is_of_service.false)
