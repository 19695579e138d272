-- The page of a node, as it is printed, is read as its tree.
use Rattle.std.proofs.Common.{◌≡◌, ◌∙◌, ℕ, true, false, List, [], ◌∷◌, Ok, flat_map, refl, sym, ap, subst, arith}
use Rattle.std.proofs.lemmas.Bool.{ltb-true, ne_eqb}
use Rattle.project_print.specs.Pages.{ended, lines_of, shown}
use Rattle.laws_yaml.specs.BlockLaws.{IsWithinLimits}
use Rattle.yaml_lines.specs.declared.lines.Lines.{Lines}
use Rattle.yaml_lines.specs.Scan.{numbered, starts_with_byte}
use Rattle.yaml_nodes.specs.Progress.{◌>>=◌}
use Rattle.yaml_tree.specs.Reading.{reading}
use Rattle.laws_yaml.proofs.Decoded.{begins_low, decoded, is_decoded}
use Rattle.laws_yaml.proofs.Pages.{read_back}
use Rattle.laws_yaml.proofs.Scanned.{chars_are, scan_is}
use Rattle.laws_yaml.specs.PrintedLaws.{PrintedPagesReadBack}

-- no byte order mark stands in front of a byte below 128
pub no_mark : (first : List ℕ) (lines : List (List ℕ)) → begins_low first ≡ true → starts_with_byte 239 (flat_map ended (first ∷ lines)) ≡ false
no_mark [] lines low = refl
no_mark (c ∷ cs) lines low = let below = ltb-true c 128 low in ne_eqb c 239 (λ same. absurd (omega (arith, below, same)))

pub printed_back : PrintedPagesReadBack
printed_back file node printable within =
    let is = is_decoded node printable in
    let bytes = lines_of (shown node) in
    let lines : Lines = record { file = file; lines = numbered 1 bytes } in
    let same = ap lines_of (sym is.shows) in
    ap (λ r. r >>= reading) (scan_is file bytes is.clean (no_mark (shown node).first (shown node).more is.low))
    ∙ read_back lines (decoded node) is.readable (subst IsWithinLimits (sym is.spelled) within) (chars_are 1 bytes (lines_of (shown (decoded node))) is.clean same)
    ∙ ap (λ tree. Ok tree) is.spelled
