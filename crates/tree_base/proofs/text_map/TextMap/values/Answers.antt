use Rattle.std.proofs.lemmas.Slice.Zip.{seconds-zip}
use Rattle.tree_base.proofs.text_map.TextMap.values.Goals as goal

pub returns : goal.returns
returns g c = rw (← c.self.view_is, seconds-zip c.self.inside.keys.keys c.self.inside.values c.self.invariant) c.as_slice.ensures
