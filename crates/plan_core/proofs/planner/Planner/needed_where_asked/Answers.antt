-- What is found under the texts that the action asks for holds all that it needs.
use Rattle.std.proofs.Common.{◌≡◌, ◌∙◌, ℕ, List, IfOk, filter, sym, ap, subst}
use Rattle.run_model.specs.EngineRules.{Among}
use Rattle.plan_core.specs.Finding.{is_needed_at}
use Rattle.plan_core.specs.Index.{numbers_under, seen_texts}
use Rattle.plan_core.proofs.Found.{asked_places}
use Rattle.plan_core.proofs.planner.Planner.needed_where_asked.Goals as goal

pub returns : goal.returns
returns c =
    subst (λ (needs : List ℕ). IfOk c.needed_among.result (λ list. list ≡ needs))
    (ap (filter (is_needed_at c.args.self.now c.args.kinds.now c.args.kind)) c.as_slice-2.ensures.value
    ∙ asked_places c.args.self.now c.args.kinds.now c.args.kind c.in_ok-places.places.items c.requires.few c.in_ok-places.ensures.rises
    (λ text place asked found. c.in_ok-places.ensures.holds text place
    (subst (λ (texts : List (List ℕ)). Among texts text) (sym (ap seen_texts c.as_slice.ensures.value ∙ c.in_ok-texts.ensures)) asked)
    (subst (λ (entries : List (List ℕ × ℕ)). Among (numbers_under entries text) place) (sym c.requires.indexed) found)))
    c.needed_among.ensures
