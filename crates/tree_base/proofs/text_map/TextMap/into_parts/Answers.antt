use Rattle.std.proofs.lemmas.Map.Made.{keys_of-zip}
use Rattle.std.proofs.lemmas.Slice.Zip.{seconds-zip}
use Rattle.std.proofs.Common.{sym, ◌∙◌, ap}
use Rattle.std.specs.Map.{keys_of, values_of}
use Rattle.tree_base.proofs.text_map.TextMap.into_parts.Goals as goal

pub returns-clause-keys : goal.returns-clause-keys
returns-clause-keys g c = sym (keys_of-zip c.self.inside.keys.keys c.self.inside.values c.self.invariant) ∙ ap keys_of c.self.view_is

pub returns-clause-values : goal.returns-clause-values
returns-clause-values g c = sym (seconds-zip c.self.inside.keys.keys c.self.inside.values c.self.invariant) ∙ ap values_of c.self.view_is
