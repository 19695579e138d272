use Rattle.std.proofs.Common.{sym, ap}
use Rattle.run_model.specs.Observation.{by_policy, builder_of, fetching, inspecting, policy_of, pulling}
use Rattle.observe_project.proofs.Walks.{step-along}
use Rattle.observe_project.proofs.fetching.see_image.Goals as goal

pub returns-in-Always : goal.returns-in-Always
returns-in-Always g c = λ onward each.
    let declared = c.args.declared.now in
    step-along onward (by_policy declared (policy_of declared c.args.image.now) c.args.image.now onward) (pulling c.args.image.now onward) c.pull.result _ _ _ _
    (λ rest. ap (λ p. by_policy declared p c.args.image.now onward rest) (sym c.in-Always.ensures)) (c.pull.ensures onward each)

pub returns-in-Missing : goal.returns-in-Missing
returns-in-Missing g c = λ onward each.
    let declared = c.args.declared.now in
    step-along onward (by_policy declared (policy_of declared c.args.image.now) c.args.image.now onward) (fetching (builder_of c.args.declared.now c.args.image.now) c.args.image.now onward) c.fetch.result _ _ _ _
    (λ rest. ap (λ p. by_policy declared p c.args.image.now onward rest) (sym c.in-Missing.ensures)) (c.fetch.ensures onward each)

pub returns-in-Never : goal.returns-in-Never
returns-in-Never g c = λ onward each.
    let declared = c.args.declared.now in
    step-along onward (by_policy declared (policy_of declared c.args.image.now) c.args.image.now onward) (inspecting c.args.image.now onward) c.inspect.result _ _ _ _
    (λ rest. ap (λ p. by_policy declared p c.args.image.now onward rest) (sym c.in-Never.ensures)) (c.inspect.ensures onward each)
