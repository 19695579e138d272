-- The parser's answer is the head, or its fault.
use Rattle.std.proofs.Common.{◌≡◌, ℕ, List, length, take, sym, ap, ◌∙◌, subst, arith, rules}
use Rattle.std.proofs.lemmas.Result.{err_from_is_err_and}
use Rattle.std.specs.Prelude.{Err, Result}
use Rattle.engine_types.specs.declared.WireEnd.{WireEnd}
use Rattle.httparse.specs.declared.Error.{Error}
use Rattle.response_rules.specs.Lines.{ends, head_part}
use Rattle.http_response.specs.Found.{ParsedBy}
use Rattle.http_response.specs.declared.heads.Head.{Head}
use Rattle.http_response.proofs.Parsing.{covers, fault_there, head_there, partial_there, refused_there}
use Rattle.http_response.proofs.heads.parsed.Goals as goal

pub returns-in_err-framing-in-Ok-Complete : goal.returns-in_err-framing-in-Ok-Complete
returns-in_err-framing-in-Ok-Complete c = λ (tail : List ℕ) (part : head_part c.args.at tail ≡ ends (length c.args.bytes.now)) (is : c.args.bytes.now ≡ take (length c.args.bytes.now) tail).
    let found = rw c.in-Ok-Complete.field-0-is at c.in-Ok-Complete.ensures.complete in
    let within = rw c.in-Ok-Complete.field-0-is at c.in-Ok-Complete.ensures.within in
    let room : length c.parse_response.new.headers ≡ 100 = first_of (omega arith, search rules) in
    let p = err_from_is_err_and c.from_residual.result c.from_residual.ensures.1 in
    subst (λ (r : Result Head WireEnd). ParsedBy c.args.limit tail c.args.at r) (sym (p.1 ∙ ap Err p.2))
    (fault_there c.args.limit tail c.args.bytes.now c.args.at (length c.args.bytes.now) c.parse_response.new.headers c.split_at.result.0.now c.in-Ok-Complete.spans found.0 part is found.1 within
    room c.split_at.ensures.front _
    (c.in_err-framing-in-Ok-Complete.ensures found.0.fields
    (covers c.args.limit tail c.args.bytes.now c.args.at (length c.args.bytes.now) c.parse_response.new.headers c.split_at.result.0.now c.in-Ok-Complete.spans found.0 part is found.1 within
    room c.split_at.ensures.front)))

pub returns-in_ok-framing-in-Ok-Complete : goal.returns-in_ok-framing-in-Ok-Complete
returns-in_ok-framing-in-Ok-Complete c = λ (tail : List ℕ) (part : head_part c.args.at tail ≡ ends (length c.args.bytes.now)) (is : c.args.bytes.now ≡ take (length c.args.bytes.now) tail).
    let found = rw c.in-Ok-Complete.field-0-is at c.in-Ok-Complete.ensures.complete in
    let within = rw c.in-Ok-Complete.field-0-is at c.in-Ok-Complete.ensures.within in
    let room : length c.parse_response.new.headers ≡ 100 = first_of (omega arith, search rules) in
    head_there c.args.limit tail c.args.bytes.now c.args.at (length c.args.bytes.now) c.parse_response.new.headers c.split_at.result.0.now c.in-Ok-Complete.spans found.0 part is found.1 within
    room c.split_at.ensures.front _
    (c.in_ok-framing-in-Ok-Complete.ensures found.0.fields
    (covers c.args.limit tail c.args.bytes.now c.args.at (length c.args.bytes.now) c.parse_response.new.headers c.split_at.result.0.now c.in-Ok-Complete.spans found.0 part is found.1 within
    room c.split_at.ensures.front))

pub returns-in-Ok-Partial : goal.returns-in-Ok-Partial
returns-in-Ok-Partial c = λ (tail : List ℕ) (part : head_part c.args.at tail ≡ ends (length c.args.bytes.now)) (is : c.args.bytes.now ≡ take (length c.args.bytes.now) tail).
    partial_there c.args.limit tail c.args.bytes.now c.args.at (length c.args.bytes.now) part is (rw c.in-Ok-Partial.field-0-is at c.in-Ok-Partial.ensures.partial)

pub returns-in-Err : goal.returns-in-Err
returns-in-Err c = λ (tail : List ℕ) (part : head_part c.args.at tail ≡ ends (length c.args.bytes.now)) (is : c.args.bytes.now ≡ take (length c.args.bytes.now) tail).
    refused_there c.args.limit tail c.args.bytes.now c.args.at (length c.args.bytes.now) part is c.in-Err.field-0 c.in-Err.ensures.invalid
    (λ (same : c.in-Err.field-0 ≡ Error.TooManyHeaders). c.in-Err.ensures.too_many (ap Err same))
