-- Something stands under a service where it is crossed.
use Rattle.std.proofs.Common.{◌<◌, ◌≤◌, ◌∙◌, ℕ, List, ap, length, subst, sym}
use Rattle.plan_core.specs.Index.{is_under, numbers_under}
use Rattle.plan_core.proofs.SlotRows.{under_none, under_some}
use Rattle.rolling_update.proofs.Found.{crossed_found}
use Rattle.rolling_update.proofs.rolled.is_crossed.Goals as goal

pub returns-in-empty : goal.returns-in-empty
returns-in-empty c = λ scene is.
    sym (under_none c.args.crossed.now c.args.slot.now.service
    (subst (λ (ns : List ℕ). length ns < 1) (c.find.ensures ∙ ap (numbers_under c.args.crossed.now) c.as_str.ensures.value) c.in-empty.len_below))
    ∙ ap (λ (entries : List (List ℕ × ℕ)). is_under entries c.args.slot.now.service) is ∙ crossed_found scene c.args.slot.now.service

pub returns-in-len1-up : goal.returns-in-len1-up
returns-in-len1-up c = λ scene is.
    sym (under_some c.args.crossed.now c.args.slot.now.service
    (subst (λ (ns : List ℕ). 1 ≤ length ns) (c.find.ensures ∙ ap (numbers_under c.args.crossed.now) c.as_str.ensures.value) c.in-len1-up.len_at_least))
    ∙ ap (λ (entries : List (List ℕ × ℕ)). is_under entries c.args.slot.now.service) is ∙ crossed_found scene c.args.slot.now.service
