-- The length that is read is the head's, and a longer one passes the limit.
use Rattle.std.proofs.Common.{◌≡◌, ℕ, List, refl, sym, ap, ◌∙◌, subst, arith, Option, Some, None}
use Rattle.std.proofs.lemmas.Result.{err_from_is_err_and}
use Rattle.std.specs.Option.{option_map}
use Rattle.std.specs.Prelude.{Err, Result, codes}
use Rattle.httparse.specs.Grammar.{RequestHead}
use Rattle.httparse.specs.Spans.{span_bytes}
use Rattle.response_rules.specs.Heads.{values}
use Rattle.http_fields.specs.Fields.{Cover, values_at}
use Rattle.request_reading.specs.Requests.{body_length, length_by}
use Rattle.request_reading.specs.Stocks.{SaysBy, capped}
use Rattle.request_reading.specs.declared.heads.Head.{Head}
use Rattle.request_reading.specs.declared.received.RequestEnd.{RequestEnd}
use Rattle.request_reading.proofs.Heading.{long_size, no_size, read_size, sound_size}
use Rattle.request_reading.proofs.heads.head_at.Goals as goal

pub returns-in_default : goal.returns-in_default
returns-in_default c = λ (head : RequestHead) (cover : Cover c.args.bytes.now c.args.headers.now head.fields)
    (method : span_bytes c.args.bytes.now c.args.spans.method ≡ head.method) (target : span_bytes c.args.bytes.now c.args.spans.path ≡ head.target).
    (refl, no_size (body_length head) (read_size c.args.bytes.now c.args.headers.now head c.of-method.result.now None cover (c.of-method.ensures ∙ method) (sym c.in_default.is ∙ c.body_length.ensures)))

pub returns-then-size-gt-MOST_BODY_BYTES : goal.returns-then-size-gt-MOST_BODY_BYTES
returns-then-size-gt-MOST_BODY_BYTES c = λ (head : RequestHead) (cover : Cover c.args.bytes.now c.args.headers.now head.fields)
    (method : span_bytes c.args.bytes.now c.args.spans.method ≡ head.method) (target : span_bytes c.args.bytes.now c.args.spans.path ≡ head.target).
    long_size (body_length head) c.in-Some.size
    (read_size c.args.bytes.now c.args.headers.now head c.of-method.result.now (Some c.in-Some.size) cover (c.of-method.ensures ∙ method) (sym c.in-Some.is ∙ c.body_length.ensures))
    c.if-size-gt-MOST_BODY_BYTES.true

pub returns : goal.returns
returns c = λ (head : RequestHead) (cover : Cover c.args.bytes.now c.args.headers.now head.fields)
    (method : span_bytes c.args.bytes.now c.args.spans.method ≡ head.method) (target : span_bytes c.args.bytes.now c.args.spans.path ≡ head.target).
    record {
      method_is = c.in_ok-method.ensures ∙ c.of-method.ensures ∙ method;
      target_is = c.in_ok-target.ensures ∙ c.of.ensures ∙ target;
      length_known = refl;
      length_is =
          sound_size (body_length head) c.in-Some.size
          (read_size c.args.bytes.now c.args.headers.now head c.of-method.result.now (Some c.in-Some.size) cover (c.of-method.ensures ∙ method) (sym c.in-Some.is ∙ c.body_length.ensures))
          c.if-size-gt-MOST_BODY_BYTES.false;
      small = c.if-size-gt-MOST_BODY_BYTES.false;
    }
