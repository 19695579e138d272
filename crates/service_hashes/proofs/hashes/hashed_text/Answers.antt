use Rattle.std.proofs.Common.{◌∙◌, List, Option, ap}
use Rattle.attribute_types.specs.declared.rows.FileUse.{FileUse}
use Rattle.engine_types.specs.declared.declared.Kind.{Kind}
use Rattle.project_print.specs.Json.{json_of}
use Rattle.project_print.specs.declared.compact_json.Dollars.{Dollars}
use Rattle.service_hashes.specs.Hashes.{used_node}
use Rattle.service_hashes.proofs.Texts.{text_is}
use Rattle.service_hashes.proofs.hashes.hashed_text.Goals as goal

pub returns : goal.returns
returns c =
    let digests = c.args.digests.now in
    c.from_string.ensures ∙ c.in_ok-text.ensures.ok
    ∙ text_is c.args.service.now digests c.in_ok-configs.configs c.in_ok-secrets.secrets c.in_ok-own.own
    (c.in_ok-configs.ensures ∙ ap (λ (uses : Option (List FileUse)). json_of Dollars.Once (used_node digests Kind.Config uses)) c.configs.ensures)
    (c.in_ok-secrets.ensures ∙ ap (λ (uses : Option (List FileUse)). json_of Dollars.Once (used_node digests Kind.Secret uses)) c.secrets.ensures)
    c.in_ok-own.ensures
