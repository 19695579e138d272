use Rattle.std.proofs.Common.{◌∙◌, Some, ap, refl, subst, sym}
use Rattle.name_conflicts.specs.declared.LookEnd.{LookEnd}
use Rattle.repeated_runs.specs.Followings.{EndsLook}
use Rattle.repeated_runs.specs.declared.following.Behind.{Behind}
use Rattle.repeated_runs.proofs.following.after_look.Goals as goal

pub returns-in-Came : goal.returns-in-Came
returns-in-Came g c = subst (λ (end : LookEnd). EndsLook c.args.ended c.args.left c.args.hand end c.args.earlier.now.items c.add.new.earlier.items (Behind.Again c.args.left)) (sym c.in-Came.is) (c.add.ensures, refl)

pub returns-in-Memory : goal.returns-in-Memory
returns-in-Memory g c = subst (λ (end : LookEnd). EndsLook c.args.ended c.args.left c.args.hand end c.args.earlier.now.items c.args.earlier.now.items c.stands.result) (sym c.in-Memory.is)
    (refl, c.stands.ensures ∙ ap (λ last. Behind.Stands last (Some c.args.hand)) c.shortened.ensures)

pub returns-in-Missed : goal.returns-in-Missed
returns-in-Missed g c = subst (λ (end : LookEnd). EndsLook c.args.ended c.args.left c.args.hand end c.args.earlier.now.items c.args.earlier.now.items c.stands_looked.result) (sym c.in-Missed.is) (refl, c.stands_looked.ensures)

pub returns-in-Stopped : goal.returns-in-Stopped
returns-in-Stopped g c = subst (λ (end : LookEnd). EndsLook c.args.ended c.args.left c.args.hand end c.args.earlier.now.items c.args.earlier.now.items c.stands_looked-in-Stopped.result) (sym c.in-Stopped.is) (refl, c.stands_looked-in-Stopped.ensures)

pub returns-in-Late : goal.returns-in-Late
returns-in-Late g c = subst (λ (end : LookEnd). EndsLook c.args.ended c.args.left c.args.hand end c.args.earlier.now.items c.args.earlier.now.items c.stands_looked-in-Late.result) (sym c.in-Late.is) (refl, c.stands_looked-in-Late.ensures)

pub returns-in-Unlisted : goal.returns-in-Unlisted
returns-in-Unlisted g c = subst (λ (end : LookEnd). EndsLook c.args.ended c.args.left c.args.hand end c.args.earlier.now.items c.args.earlier.now.items c.stands_looked-in-Unlisted.result) (sym c.in-Unlisted.is) (refl, c.stands_looked-in-Unlisted.ensures)
