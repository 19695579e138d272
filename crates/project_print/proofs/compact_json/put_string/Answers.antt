use Rattle.std.proofs.Common.{codes, refl}
use Rattle.std.proofs.lemmas.Result.{on_ok_weaker}
use Rattle.project_print.proofs.Commas.{wrapped}
use Rattle.project_print.proofs.compact_json.put_string.Goals as goal

pub returns : goal.returns
returns c = on_ok_weaker c.push_str-2.result (λ e. wrapped _ _ _ _ (codes "\"") _ (codes "\"") _ c.in_ok-push_str.ensures.ok c.in_ok-put_content.ensures e refl) c.push_str-2.ensures.ok
