-- The parser's answer is the head, or its fault.
use Rattle.std.proofs.Common.{◌≡◌, ℕ, List, length, take, sym, ap, subst, arith, rules}
use Rattle.std.specs.Prelude.{Err}
use Rattle.httparse.specs.declared.Error.{Error}
use Rattle.response_rules.specs.Lines.{ends, head_part}
use Rattle.http_fields.specs.Fields.{AreWithin}
use Rattle.request_reading.proofs.Heading.{are_within_more, covers, head_there, no_head_there, refused_there}
use Rattle.request_reading.proofs.heads.parsed.Goals as goal

pub head_at-requires : goal.head_at-requires
head_at-requires c =
    let within = rw c.in-Ok-Complete.field-0-is at c.in-Ok-Complete.ensures.within in
    record {
      headers = subst (AreWithin c.args.bytes.now) (sym c.split_at.ensures.front)
          (are_within_more c.in-Ok-Complete.spans.len (length c.args.bytes.now) (take c.in-Ok-Complete.spans.headers c.parse_request.new.headers) within.section.len_fits within.section.headers_fit);
      method = (within.method.0, omega (arith, within.method.1, within.section.len_fits));
      path = (within.path.0, omega (arith, within.path.1, within.section.len_fits));
    }

pub returns-in-Ok-Complete : goal.returns-in-Ok-Complete
returns-in-Ok-Complete c = λ (read : List ℕ) (part : head_part 0 read ≡ ends (length c.args.bytes.now)) (is : c.args.bytes.now ≡ take (length c.args.bytes.now) read).
    let found = rw c.in-Ok-Complete.field-0-is at c.in-Ok-Complete.ensures.complete in
    let within = rw c.in-Ok-Complete.field-0-is at c.in-Ok-Complete.ensures.within in
    let room : length c.parse_request.new.headers ≡ 100 = first_of (omega arith, search rules) in
    head_there read c.args.bytes.now (length c.args.bytes.now) part is c.parse_request.new.headers c.split_at.result.0.now c.in-Ok-Complete.spans found.0 found.1 within
    room c.split_at.ensures.front _
    (c.head_at.ensures found.0
    (covers read c.args.bytes.now (length c.args.bytes.now) part is c.parse_request.new.headers c.split_at.result.0.now c.in-Ok-Complete.spans found.0 found.1 within room c.split_at.ensures.front)
    found.1.method found.1.path)

pub returns-in-Ok-Partial : goal.returns-in-Ok-Partial
returns-in-Ok-Partial c = λ (read : List ℕ) (part : head_part 0 read ≡ ends (length c.args.bytes.now)) (is : c.args.bytes.now ≡ take (length c.args.bytes.now) read).
    no_head_there read c.args.bytes.now (length c.args.bytes.now) part is (rw c.in-Ok-Partial.field-0-is at c.in-Ok-Partial.ensures.partial)

pub returns-in-Err : goal.returns-in-Err
returns-in-Err c = λ (read : List ℕ) (part : head_part 0 read ≡ ends (length c.args.bytes.now)) (is : c.args.bytes.now ≡ take (length c.args.bytes.now) read).
    refused_there read c.args.bytes.now (length c.args.bytes.now) part is c.in-Err.field-0 c.in-Err.ensures.invalid
    (λ (same : c.in-Err.field-0 ≡ Error.TooManyHeaders). c.in-Err.ensures.too_many (ap Err same))
