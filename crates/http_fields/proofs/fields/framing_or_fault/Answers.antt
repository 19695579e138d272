-- The values at the headers are those of the fields.
use Rattle.http_fields.proofs.FieldValues.{as_said}
use Rattle.http_fields.proofs.fields.framing_or_fault.Goals as goal

pub returns : goal.returns
returns c = λ fields cover.
    as_said c.args.limit c.args.head.now c.args.headers.now fields c.args.at c.is_encoded-encoded.result c.without_fault.result cover (c.without_fault.ensures _ c.framing_of-framing.ensures) c.is_encoded-encoded.ensures
