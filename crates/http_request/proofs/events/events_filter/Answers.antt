-- The text of two members.
use Rattle.std.proofs.Common.{rules}
use Rattle.http_request.proofs.EventFilters.{events_have_no_float, events_printed}
use Rattle.http_request.proofs.events.events_filter.Goals as goal

pub returns : goal.returns
returns c =
    let plain = events_have_no_float c.args.label.now in
    let printed = events_printed c.args.label.now in
    search rules
