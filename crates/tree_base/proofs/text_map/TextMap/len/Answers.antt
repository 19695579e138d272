use Rattle.std.proofs.Common.{◌∙◌, sym, ap, length}
use Rattle.std.proofs.lemmas.Map.Made.{keys_of-zip}
use Rattle.tree_base.proofs.Pairs.{length-zip-same}
use Rattle.tree_base.proofs.text_map.TextMap.len.Goals as goal

pub returns-clause-len : goal.returns-clause-len
returns-clause-len g c =
    c.len.ensures.len ∙ sym (length-zip-same _ _ c.self.invariant) ∙ ap length c.self.view_is

pub returns-clause-distinct : goal.returns-clause-distinct
returns-clause-distinct g c =
    rw (← c.self.view_is, keys_of-zip c.self.inside.keys.keys c.self.inside.values c.self.invariant) c.len.ensures.unique
