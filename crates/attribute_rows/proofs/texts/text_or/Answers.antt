use Rattle.std.proofs.Common.{◌≡◌, ℕ, List, subst}
use Rattle.std.specs.Prelude.{IfOk, Option, unwrap_or}
use Rattle.attribute_rows.proofs.texts.text_or.Goals as goal

pub returns-in-Some : goal.returns-in-Some
returns-in-Some c =
    subst (λ (o : Option (List ℕ)). IfOk c.copy.result (λ text. text ≡ unwrap_or o c.args.otherwise.now)) c.in-Some.ensures c.copy.ensures

pub returns-in-None : goal.returns-in-None
returns-in-None c =
    subst (λ (o : Option (List ℕ)). IfOk c.from_str.result (λ text. text ≡ unwrap_or o c.args.otherwise.now)) c.in-None.ensures c.from_str.ensures
