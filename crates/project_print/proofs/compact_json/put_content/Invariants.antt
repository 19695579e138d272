use Rattle.std.proofs.Common.{◌≡◌, ◌++◌, length}
use Rattle.std.specs.Str.{IsUtf8}
use Rattle.project_print.specs.Written.{content}
use Rattle.project_print.proofs.compact_json.put_content.Given as goal

abbrev pub decreases-loop-rest : goal.decreases-loop-rest
decreases-loop-rest l = length l.rest

abbrev pub invariant-loop-rest : goal.invariant-loop-rest
invariant-loop-rest l = record {
  utf8 : IsUtf8 l.rest;
  same : l.out ++ content l.dollars l.rest ≡ l.initial.out ++ content l.dollars l.text;
}
