use Rattle.std.proofs.Common.{false, [], refl, codes, lit≤}
use Rattle.std.proofs.lemmas.List.Elements.{All-nil}
use Rattle.httparse.proofs.OnLiterals.{httparse_on_literals}
use Rattle.engine_types.specs.declared.WireEnd.{WireEnd}
use Rattle.response_rules.specs.Chunks.{IsChunk, bad, trailer}
use Rattle.response_rules.specs.Responses.{bad_body}
use Rattle.response_rules.proofs.Shown.{begins}
use Rattle.response_rules.proofs.Chunked.{found, is_head, is_none, line}
use Rattle.laws_bytes.proofs.Negative.{spaced_field}
use Rattle.laws_bytes.proofs.examples.spaced_trailer_is_malformed.Goals as goal

pub returns : goal.returns
unfolding httparse_on_literals
returns c = λ request. bad_body _ (codes "0\r\nX : 1\r\n\r\n") false [] found (WireEnd.Malformed 50)
    (begins found (codes "0\r\nX : 1\r\n\r\n") is_head (lit≤ tt) (lit≤ tt)) refl refl
    (record {
      chunks = [];
      tail = codes "0\r\nX : 1\r\n\r\n";
      are_chunks = record { each = All-nil IsChunk; within = lit≤ tt; framed = lit≤ tt };
      reads = refl;
      breaks = trailer 47 0 0 (codes "0\r\nX : 1\r\n\r\n") (codes "X : 1\r\n\r\n") false (line (codes "0")) (WireEnd.Malformed 50)
          (record { reads = (is_none, refl); within = lit≤ tt }) (lit≤ tt) refl
          (bad 50 3 9 (codes "X : 1\r\n\r\n") false refl (lit≤ tt) spaced_field);
    })
