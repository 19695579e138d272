use Rattle.std.proofs.Common.{◌∙◌, sym, rules, tests}
use Rattle.std.proofs.lemmas.Iterator.{YieldsList-from_slice}
use Rattle.std.proofs.lemmas.Iterator.Search.{any_from_yields_List}
use Rattle.attribute_values.specs.Forms.{is_of_own}
use Rattle.attribute_scalars.specs.Views.{seen_entry}
use Rattle.attribute_scalars.specs.declared.entries.Entry.{Entry}
use Rattle.attribute_values.proofs.Seen.{any_seen}
use Rattle.attribute_values.proofs.forms.says_more.Goals as goal

pub returns : goal.returns
returns c =
    let beside = c.args.beside.now in
    any_from_yields_List (λ (entry : Entry). is_of_own (seen_entry entry)) _ _ c.any.result c.any.ensures.ran (YieldsList-from_slice beside cc) (λ x b q k. search (rules, tests))
    ∙ sym (any_seen is_of_own seen_entry beside)
