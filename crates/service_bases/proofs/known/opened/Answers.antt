use Rattle.std.proofs.Common.{◌≡◌, reverse, List, subst, sym, arith}
use Rattle.service_bases.specs.Known.{Leads}
use Rattle.service_bases.specs.declared.chain.Layer.{Layer}
use Rattle.service_bases.proofs.KnownServices.{leads_on}
use Rattle.service_bases.proofs.known.opened.Goals as goal

pub loop-steps-preserved : goal.loop-steps-preserved
loop-steps-preserved c =
    let a = c.args in
    let l = c.loop-steps in
    let met = rw c.in-Further.is at c.in_ok-layers.ensures.meets in
    record {
      whole = c.in_ok-layers.ensures.known;
      leads = leads_on a.env.now a.source.now a.name.now l.next c.in-Further.base l.above c.in-Further.more met.0 met.1 met.2 met.3 l.invariant.leads;
      within = omega (arith, l.invariant.within);
    }

pub returns-in-Known-clause-opens : goal.returns-in-Known-clause-opens
returns-in-Known-clause-opens c =
    let a = c.args in
    let l = c.loop-steps in
    let met = rw c.in-Known.is at c.in_ok-layers.ensures.meets in
    subst (λ (layers : List Layer). Leads a.env.now a.source.now a.name.now (reverse layers) l.next) (sym met) l.invariant.leads
