use Rattle.std.proofs.Common.{◌≡◌, drop, map}
use Rattle.tree_base.specs.Entries.{value_at}
use Rattle.unset_variables.specs.Unset.{with_texts}
use Rattle.unset_variables.proofs.tree.put_texts.Given as goal

-- what is left of the texts gives the same
abbrev pub invariant-loop-text : goal.invariant-loop-text
invariant-loop-text l = with_texts (value_at l.env) l.names (drop l.text-index (map (λ text. text.now) l.texts)) ≡ with_texts (value_at l.env) l.initial.names (map (λ text. text.now) l.texts)
