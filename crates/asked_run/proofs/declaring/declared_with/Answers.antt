use Rattle.std.proofs.Common.{List, subst}
use Rattle.asked_run.specs.Declaring.{declared_in}
use Rattle.compose_words.specs.declared.options.Scale.{Scale}
use Rattle.refusals.specs.Refused.{wants_memory}
use Rattle.tree_base.specs.Answers.{Gives}
use Rattle.asked_run.proofs.declaring.declared_with.Goals as goal

pub returns-in-Ok-clause-told : goal.returns-in-Ok-clause-told
returns-in-Ok-clause-told c =
    subst (λ (scales : List Scale). Gives wants_memory c.declared_in.result (declared_in scales c.args.loaded.now c.args.digests.now)) c.scales_of-scales.ensures c.declared_in.ensures.told
