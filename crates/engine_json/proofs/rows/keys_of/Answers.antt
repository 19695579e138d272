use Rattle.std.proofs.Common.{◌∙◌, ◌++◌, ap, append-nil, map, string_bytes, sym}
use Rattle.engine_json.proofs.Bodies.{keys_named}
use Rattle.engine_json.proofs.rows.keys_of.Goals as goal

pub returns : goal.returns
returns c =
    let names = c.loop-name.names in
    sym (append-nil names)
    ∙ ap (λ keys. names ++ map string_bytes keys) (sym c.in-None.ensures.steps.0)
    ∙ c.loop-name.invariant
    ∙ keys_named c.args.members.now.entries
