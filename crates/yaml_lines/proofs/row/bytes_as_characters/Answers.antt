use Rattle.std.proofs.Common.{◌∙◌, ◌++◌, ap, map, rules}
use Rattle.std.proofs.lemmas.Iterator.{YieldsList-from_map, YieldsList-from_slice}
use Rattle.std.proofs.lemmas.Iterator.Adapters.{items_from_extend}
use Rattle.std.proofs.lemmas.List.{map-id}
use Rattle.std.specs.Iterator.Adapters.{map_source}
use Rattle.std.specs.Slice.Iter.{iter_rest}
use Rattle.yaml_lines.proofs.row.bytes_as_characters.Goals as goal

pub returns : goal.returns
returns c =
    let bytes = c.args.bytes.now in
    let h = items_from_extend {s = c.map.result} c.extend.result c.extend.ensures.ran (YieldsList-from_map {s = c.map.result} _ (λ b. b) (YieldsList-from_slice {s = map_source c.map.result} bytes (ap iter_rest c.map.ensures.source ∙ c.iter.ensures.rest)) c.map.ensures.closure (λ x r q k. search rules)) in
    let k = rw c.in_ok-extend.was at h in
    c.from_vec.ensures ∙ k.0 ∙ ap (λ xs. xs ++ map (λ b. b) bytes) c.in_ok-chars.ensures.items ∙ map-id bytes
