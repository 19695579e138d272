use Rattle.std.proofs.Common.{Some, refl, sym, ap}
use Rattle.std.proofs.lemmas.Str.{is_utf8-from_IsUtf8}
use Rattle.compose.proofs.Utf8.{fails}
use Rattle.compose.proofs.given.text_in.Goals as goal

pub returns-in-Ok : goal.returns-in-Ok
returns-in-Ok c =
    let e = is_utf8-from_IsUtf8 _ c.in-Ok.ensures.cases.1 in
    record { text = rw e (ap Some c.in-Ok.ensures.cases.0); same = c.in-Ok.ensures.cases.0; utf8 = sym e }

pub returns-in-Err : goal.returns-in-Err
returns-in-Err c =
    let e = fails _ c.in-Err.ensures.cases.0 in
    record { text = rw e refl; same = tt; utf8 = sym e }
