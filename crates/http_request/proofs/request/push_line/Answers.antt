-- A request line is put in four pieces.
use Rattle.std.specs.Prelude.{codes}
use Rattle.std.specs.String.{string_bytes}
use Rattle.http_request.specs.Requests.{method_name, target_of}
use Rattle.http_request.proofs.Lines.{four_behind}
use Rattle.http_request.proofs.request.push_line.Goals as goal

pub returns : goal.returns
returns c =
    cc (
      four_behind (string_bytes c.args.to.now) (method_name c.args.method) (codes " ") (target_of c.args.request.now) (codes " HTTP/1.1\r\n"),
      c.name.ensures,
      c.in_ok-push_str.ensures.bytes,
      c.in_ok-push_str-2.ensures.bytes,
      c.in_ok-push_target.ensures,
      c.in_ok-push_str-3.ensures.bytes,
    )
