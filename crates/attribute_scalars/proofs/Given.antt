-- An answer that is a value or a refusal, as the value alone.
use Rattle.std.proofs.Common.{◌≡◌, Some, None, refl}
use Rattle.std.specs.Prelude.{Option}
use Rattle.std.specs.Option.{ok_or}
use Rattle.std.specs.Result.{result_ok}

pub ok_again : {X E : Type 0} (o : Option X) (e : E) → result_ok (ok_or o e) ≡ o
ok_again None e = refl
ok_again (Some x) e = refl
