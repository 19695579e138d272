use Rattle.short_forms.proofs.DurationLemmas.{durations}
use Rattle.short_forms.proofs.laws.durations_read_back.Goals as goal

pub returns : goal.returns
returns c = durations
