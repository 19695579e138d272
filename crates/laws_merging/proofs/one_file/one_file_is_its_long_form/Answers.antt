use Rattle.std.proofs.Common.{◌∙◌}
use Rattle.long_forms.proofs.LongStays.{made_long}
use Rattle.merge_rules.proofs.Unchanged.{files_stand}
use Rattle.laws_merging.proofs.one_file.one_file_is_its_long_form.Goals as goal

pub returns : goal.returns
returns c = λ file long e clean own lone. files_stand long clean own lone ∙ (made_long file long e).1
