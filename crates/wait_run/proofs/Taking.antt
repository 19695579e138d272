-- What a report does to the goals, field by field.
use Rattle.std.proofs.Common.{◌≡◌, ◌++◌, ℕ, List, Option, Some, refl}
use Rattle.std.specs.Prelude.{slice_set}
use Rattle.engine_types.specs.declared.Report.{Report}
use Rattle.event_watch.specs.Verdicts.{next_verdict}
use Rattle.run_model.specs.declared.Verdict.{Verdict}
use Rattle.wait_run.specs.Goals.{failed_now, left_behind, met_now, reported_on}
use Rattle.wait_run.specs.declared.goals.Failing.{Failing}
use Rattle.wait_run.specs.declared.goals.Goal.{Goal}
use Rattle.wait_run.specs.declared.goals.Goals.{Goals}

pub taken_so : (s : ℕ) (report : Report) (goal here : Goal) (goals now : Goals) (after : Verdict) (containers : List (List ℕ)) (rows : List Goal) (places : List (List ℕ × ℕ)) (left : ℕ) (met : List ℕ) (failed : Option Failing)
    → Some here ≡ Some goal → after ≡ next_verdict here.condition here.verdict report
    → now.containers ≡ goals.containers → now.rows ≡ goals.rows → now.places ≡ goals.places → now.left ≡ goals.left → now.failed ≡ goals.failed
    → containers ≡ now.containers → rows ≡ slice_set now.rows s (record { condition = here.condition; verdict = after }) → places ≡ now.places
    → left ≡ left_behind now.left here.verdict after → met ≡ goals.met ++ met_now s here.verdict after → failed ≡ failed_now s report here.condition now.failed
    → record { containers = containers; rows = rows; places = places; left = left; met = met; failed = failed } ≡ reported_on s report goal goals
taken_so s report goal here goals now after containers rows places left met failed same turned nc nr np nl nf c r p l m f =
    let is : here ≡ goal = cc same in
    rw (c, r, p, l, m, f, nc, nr, np, nl, nf, turned, is) refl
