use Rattle.std.proofs.Common.{◌∙◌, Err, ap, sym}
use Rattle.loaded_files.specs.declared.refusal.LoadRefusal.TheVariants.{ExtendsCycle}
use Rattle.service_bases.proofs.Links.{new_base, old_base}
use Rattle.service_bases.proofs.chain.not_met.Goals as goal

pub returns-in-None-clause-given : goal.returns-in-None-clause-given
returns-in-None-clause-given c = λ n. sym (new_base c.args.base.now c.args.layers.now (sym c.in-None.ensures))

pub returns-in_ok-met_from-in-Some-clause-given : goal.returns-in_ok-met_from-in-Some-clause-given
returns-in_ok-met_from-in-Some-clause-given c = λ n.
    ap (λ met. Err (ExtendsCycle met)) c.in_ok-met_from-in-Some.ensures ∙ sym (old_base c.args.base.now c.args.layers.now c.in-Some.place (sym c.in-Some.ensures))
