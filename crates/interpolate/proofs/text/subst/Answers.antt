use Rattle.std.proofs.Common.{ℕ, List, subst}
use Rattle.tree_base.specs.Entries.{value_at}
use Rattle.interpolate.specs.Substitution.{substituted, substituted_within, Gives}
use Rattle.interpolate.proofs.text.subst.Goals as goal

pub returns : goal.returns
unfolding substituted
returns c = subst (λ (text : List ℕ). Gives c.subst_within.result (substituted_within 32 (value_at c.args.env.now) text)) c.as_str.ensures.value c.subst_within.ensures
