use Rattle.std.proofs.Common.{◌≡◌, ◌++◌, drop}
use Rattle.std.specs.Str.{encode_utf8_all}
use Rattle.dotenv.proofs.scan.text_of.Given as goal

abbrev pub invariant-loop-c : goal.invariant-loop-c
invariant-loop-c l = l.text ++ encode_utf8_all (drop l.c-index l.chars) ≡ encode_utf8_all l.chars
