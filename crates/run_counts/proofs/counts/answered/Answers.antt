use Rattle.std.proofs.Common.{◌∙◌, rules, tests}
use Rattle.std.proofs.lemmas.Iterator.{YieldsList-from_slice}
use Rattle.std.proofs.lemmas.Iterator.Consumers.{YieldsList-from_filter, count_from_yields_List}
use Rattle.std.proofs.lemmas.List.Sums.{length-filter}
use Rattle.engine_types.specs.declared.Entry.{Entry}
use Rattle.run_counts.specs.Counts.{ends_well}
use Rattle.run_counts.proofs.counts.answered.Goals as goal

pub returns : goal.returns
returns c =
    count_from_yields_List c.filter.result _ c.count.ensures.ran
    (YieldsList-from_filter _ (λ (entry : Entry). ends_well entry) (YieldsList-from_slice c.args.journal.now cc) c.filter.ensures.closure (λ x b q k. search (rules, tests)))
    ∙ length-filter (λ (entry : Entry). ends_well entry) c.args.journal.now
