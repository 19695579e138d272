use Rattle.std.proofs.Common.{List, ℕ, ap, ◌∙◌, sym, subst}
use Rattle.service_bases.specs.Known.{IsWhole}
use Rattle.service_bases.specs.declared.chain.Layer.{Layer}
use Rattle.service_bases.proofs.KnownServices.{is_extended, leads_back, leads_to, one_more_whole, over_whole}
use Rattle.service_bases.proofs.known.laid_onto.Goals as goal

pub loop-layer-init : goal.loop-layer-init
loop-layer-init c = (c.requires.known, (c.args.base, c.requires.leads, c.requires.known c.args.base c.args.whole c.requires.whole))

pub loop-layer-preserved : goal.loop-layer-preserved
loop-layer-preserved c =
    let a = c.args in
    let l = c.loop-layer in
    let layer = c.in-Some.layer in
    let held = l.invariant.1 in
    let back = leads_back a.env.now a.source.now a.name.now held.0 l.rest c.pop.new.self layer c.in-Some.ensures held.1 in
    let over = over_whole a.env.now a.source.now back.0 held.0 back.1 layer l.below c.in-Some-over.more back.3 back.4 back.5 held.2 c.in-Some-over.ensures in
    let named = ap (λ (one : Layer). one.at.service) back.3 in (
      one_more_whole a.env.now a.source.now l.known c.put_copy.new.known layer.at.service c.in-Some-over.more c.in_ok-put_copy-in-Some-over.ensures l.invariant.0
          (subst (λ (n : List ℕ). IsWhole a.env.now a.source.now n c.in-Some-over.more) (sym named) over),
      (back.0, back.2, over),
    )

pub returns-clause-extended : goal.returns-clause-extended
returns-clause-extended c =
    let a = c.args in
    let l = c.loop-layer in
    let held = l.invariant.1 in
    let same = leads_to a.env.now a.source.now a.name.now held.0 l.rest c.in_default.ensures.0 held.1 in
    is_extended a.env.now a.source.now a.name.now l.below (subst (λ (n : List ℕ). IsWhole a.env.now a.source.now n l.below) (sym same) held.2)
