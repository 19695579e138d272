use Rattle.std.proofs.Common.{◌≡◌, ◌++◌, drop, map}
use Rattle.std.specs.List.{zip}
use Rattle.project_print.specs.Json.{json_of, member}
use Rattle.project_print.specs.Written.{listed_from, members_text}
use Rattle.project_print.proofs.compact_json.+json.Given as goal

abbrev pub invariant-put_members-loop-at : goal.invariant-put_members-loop-at
invariant-put_members-loop-at l =
    l.out ++ listed_from l.at (drop l.at (map member (zip l.keys (map (json_of l.dollars) l.values)))) ≡ l.initial.out ++ members_text (zip l.keys (map (json_of l.dollars) l.values))

abbrev pub invariant-put_elements-loop-at : goal.invariant-put_elements-loop-at
invariant-put_elements-loop-at l = l.out ++ listed_from l.at (drop l.at (map (json_of l.dollars) l.items)) ≡ l.initial.out ++ listed_from 0 (map (json_of l.dollars) l.items)
