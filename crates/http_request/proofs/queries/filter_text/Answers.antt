-- The text of one member.
use Rattle.std.proofs.Common.{rules}
use Rattle.http_request.proofs.Filters.{filter_has_no_float, filter_printed}
use Rattle.http_request.proofs.queries.filter_text.Goals as goal

pub returns : goal.returns
returns c =
    let plain = filter_has_no_float c.args.label.now in
    let printed = filter_printed c.args.label.now in
    search rules
