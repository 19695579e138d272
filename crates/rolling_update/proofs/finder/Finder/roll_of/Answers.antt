-- The first of the numbers under a service's key.
use Rattle.std.proofs.Common.{◌∙◌, ℕ, List, Some, None, ap}
use Rattle.plan_core.specs.Index.{numbers_under}
use Rattle.run_model.specs.Rolling.{roll_of}
use Rattle.rolling_update.specs.Needs.{Given}
use Rattle.rolling_update.proofs.Found.{roll_none, roll_some}
use Rattle.rolling_update.proofs.finder.Finder.roll_of.Goals as goal

pub returns-in-empty : goal.returns-in-empty
returns-in-empty c =
    roll_none c.self.inside.declared.now c.args.slot.now c.find.result.now
    (c.find.ensures ∙ ap (numbers_under c.self.inside.keys) c.as_str.ensures.value ∙ ap (λ (entries : List (List ℕ × ℕ)). numbers_under entries c.args.slot.now.service) c.self.invariant.5)
    c.in-empty.len_below ∙ ap (λ (given : Given). roll_of given.scene.declared c.args.slot.now) c.self.view_is

pub returns-in-Some : goal.returns-in-Some
returns-in-Some c =
    roll_some c.self.inside.declared.now c.args.slot.now c.find.result.now
    (c.find.ensures ∙ ap (numbers_under c.self.inside.keys) c.as_str.ensures.value ∙ ap (λ (entries : List (List ℕ × ℕ)). numbers_under entries c.args.slot.now.service) c.self.invariant.5)
    c.in-len1-up.len_at_least (Some c.in-Some.service.now) c.in-Some.ensures.value ∙ ap (λ (given : Given). roll_of given.scene.declared c.args.slot.now) c.self.view_is

pub returns-in-None : goal.returns-in-None
returns-in-None c =
    roll_some c.self.inside.declared.now c.args.slot.now c.find.result.now
    (c.find.ensures ∙ ap (numbers_under c.self.inside.keys) c.as_str.ensures.value ∙ ap (λ (entries : List (List ℕ × ℕ)). numbers_under entries c.args.slot.now.service) c.self.invariant.5)
    c.in-len1-up.len_at_least None c.in-None.ensures.value ∙ ap (λ (given : Given). roll_of given.scene.declared c.args.slot.now) c.self.view_is
