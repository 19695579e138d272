use Rattle.std.proofs.lemmas.Map.Made.{keys_of-zip}
use Rattle.tree_base.proofs.text_map.TextMap.keys.Goals as goal

pub returns : goal.returns
returns g c = rw (← c.self.view_is, keys_of-zip c.self.inside.keys.keys c.self.inside.values c.self.invariant) c.as_slice.ensures.keys
