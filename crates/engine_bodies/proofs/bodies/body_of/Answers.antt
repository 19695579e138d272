-- The text of a request's value.
use Rattle.std.proofs.Common.{◌∙◌, Some, ap, string_bytes, sym}
use Rattle.std.specs.Option.{option_map}
use Rattle.serde_json.specs.Read.{read}
use Rattle.serde_json.specs.View.{view}
use Rattle.engine_bodies.proofs.BodyValues.{text_is, text_reads}
use Rattle.engine_bodies.proofs.bodies.body_of.Goals as goal

pub returns-in_ok-text-in-Some-clause-text : goal.returns-in_ok-text-in-Some-clause-text
returns-in_ok-text-in-Some-clause-text c =
    ap Some c.from_string.ensures
    ∙ text_is c.args.request.now (view c.in-Some.value) (string_bytes c.in_ok-text-in-Some.text) (ap (option_map view) (sym c.in-Some.is) ∙ c.in_ok-value.ensures) c.in_ok-text-in-Some.ensures.text

pub returns-in_ok-text-in-Some-clause-reads_back :
    goal.returns-in_ok-text-in-Some-clause-reads_back
returns-in_ok-text-in-Some-clause-reads_back c =
    ap read c.from_string.ensures
    ∙ text_reads c.args.request.now (view c.in-Some.value) (string_bytes c.in_ok-text-in-Some.text) (ap (option_map view) (sym c.in-Some.is) ∙ c.in_ok-value.ensures) c.in_ok-text-in-Some.ensures.reads_back
