use Rattle.std.proofs.Common.{◌≡◌, ◌∙◌, ◌<◌, ◌≤◌, sym, ap, List, ℕ, length, Ok, Err, arith}
use Rattle.std.proofs.lemmas.List.{take_all}
use Rattle.std.proofs.lemmas.Str.{utf8_valid_len-IsUtf8}
use Rattle.std.specs.Str.{IsUtf8}
use Rattle.std.specs.Str.Lines.{lines}
use Rattle.std.specs.Str.Lossy.{utf8_valid_len}
use Rattle.yaml_lines.specs.declared.lines.Line.{Line}
use Rattle.yaml_lines.specs.declared.lines.Lines.{Lines}
use Rattle.yaml_lines.specs.declared.refusal.YamlFault.TheVariants.{BadScalar}
use Rattle.yaml_lines.specs.declared.refusal.YamlRefusal.TheVariants.{Bad}
use Rattle.yaml_lines.specs.Scan.{scanned, scan_of, without_mark, clean_len, place_of_byte, numbered}
use Rattle.yaml_lines.proofs.lines.scan.Goals as goal

-- the answer with the lines
abbrev told : ℕ → List Line → Lines
told file ls = record { file = file; lines = ls }

with_control : (file : ℕ) (body : List ℕ) → clean_len body < length body → scanned file (length body) body ≡ Err (Bad BadScalar (place_of_byte file body (clean_len body)))
with_control file body h = rw (take_all (length body) body (omega arith)) (grind arith)

without : (file : ℕ) (body : List ℕ) → length body ≤ clean_len body → scanned file (length body) body ≡ Ok (told file (numbered 1 (lines body)))
without file body h = rw (take_all (length body) body (omega arith)) (grind arith)

of_text : (file : ℕ) (bytes body : List ℕ) → body ≡ without_mark bytes → IsUtf8 body → scan_of file bytes ≡ scanned file (length body) body
of_text file bytes body e u = ap (λ b. scanned file (utf8_valid_len b) b) (sym e) ∙ ap (λ n. scanned file n body) (utf8_valid_len-IsUtf8 body u)

pub returns-then-clean-bytes : goal.returns-then-clean-bytes
returns-then-clean-bytes c =
    let body = c.skip_mark-bytes.result.now in
    rw (c.bad_at.ensures, c.clean_len-clean.ensures.is) (of_text c.args.file c.args.bytes.now body c.skip_mark-bytes.ensures c.in-Ok.ensures.cases.1 ∙ with_control c.args.file body (omega arith))

pub returns-in_ok-lines-in-Ok : goal.returns-in_ok-lines-in-Ok
returns-in_ok-lines-in-Ok c =
    let body = c.skip_mark-bytes.result.now in
    of_text c.args.file c.args.bytes.now body c.skip_mark-bytes.ensures c.in-Ok.ensures.cases.1 ∙ without c.args.file body (omega arith)
    ∙ ap (λ b. Ok (told c.args.file (numbered 1 (lines b)))) (sym c.in-Ok.ensures.cases.0) ∙ ap (λ ls. Ok (told c.args.file ls)) (sym c.in_ok-lines-in-Ok.ensures)
