-- A third byte behind a chunk of two.
use Rattle.std.proofs.Common.{◌≡◌, [], false, refl, ap, codes, lit<, lit≤, true≢false}
use Rattle.std.proofs.lemmas.List.Elements.{All-nil}
use Rattle.std.specs.Str.{bytes_eq}
use Rattle.httparse.proofs.OnLiterals.{httparse_on_literals}
use Rattle.httparse.specs.Ascii.{crlf_bytes}
use Rattle.engine_types.specs.declared.WireEnd.{WireEnd}
use Rattle.response_rules.specs.Chunks.{IsChunk, end_bad}
use Rattle.response_rules.specs.Responses.{bad_body}
use Rattle.response_rules.proofs.Shown.{begins}
use Rattle.response_rules.proofs.Chunked.{found, is_head, line, is_two}
use Rattle.response_rules.proofs.examples.other_chunk_end_is_malformed.Goals as goal

other_end : codes "c\r" ≡ crlf_bytes → ⊥
other_end e = true≢false (ap (bytes_eq (codes "c\r")) e)

pub returns : goal.returns
unfolding httparse_on_literals
returns c = λ request. bad_body _ (codes "2\r\nabc\r\n") false [] found (WireEnd.Malformed 47)
    (begins found (codes "2\r\nabc\r\n") is_head (lit≤ tt) (lit≤ tt)) refl refl
    (record {
      chunks = [];
      tail = codes "2\r\nabc\r\n";
      are_chunks = record { each = All-nil IsChunk; within = lit≤ tt; framed = lit≤ tt };
      reads = refl;
      breaks = end_bad 47 0 0 (codes "2\r\nabc\r\n") (codes "abc\r\n") false (line (codes "2"))
          (record { reads = (is_two, refl); within = lit≤ tt }) (lit≤ tt) (lit< tt) (lit≤ tt) (lit≤ tt) other_end;
    })
