use Rattle.std.proofs.Common.{false, [], refl, codes, lit≤}
use Rattle.std.proofs.lemmas.List.Elements.{All-nil}
use Rattle.httparse.proofs.OnLiterals.{httparse_on_literals}
use Rattle.engine_types.specs.declared.WireEnd.{WireEnd}
use Rattle.response_rules.specs.Chunks.{IsChunk, line_bad}
use Rattle.response_rules.specs.Responses.{bad_body}
use Rattle.response_rules.proofs.Shown.{begins}
use Rattle.response_rules.proofs.Chunked.{found, is_head}
use Rattle.laws_bytes.proofs.Negative.{other_line}
use Rattle.laws_bytes.proofs.examples.other_chunk_line_is_malformed.Goals as goal

pub returns : goal.returns
unfolding httparse_on_literals
returns c = λ request. bad_body _ (codes "xyz\r\n") false [] found (WireEnd.Malformed 47)
    (begins found (codes "xyz\r\n") is_head (lit≤ tt) (lit≤ tt)) refl refl
    (record {
      chunks = [];
      tail = codes "xyz\r\n";
      are_chunks = record { each = All-nil IsChunk; within = lit≤ tt; framed = lit≤ tt };
      reads = refl;
      breaks = line_bad 47 0 0 5 (codes "xyz\r\n") false refl other_line;
    })
