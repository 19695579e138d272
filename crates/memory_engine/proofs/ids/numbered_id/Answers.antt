-- The digits are filled up with zeros in front.
use Rattle.std.proofs.Common.{◌≡◌, ℕ, false, [], ◌++◌, replicate, ap, ◌∙◌, arith}
use Rattle.std.specs.Fmt.{char_count, digits, format_spec, padded_integral}
use Rattle.std.proofs.lemmas.List.{append-nil}
use Rattle.memory_engine.specs.Ids.{id_text}
use Rattle.memory_engine.proofs.ids.numbered_id.Goals as goal

padded_is : (n : ℕ) → padded_integral (format_spec 32 0 4 64 18446744073709551615) false [] (digits 16 false n) ≡ id_text n
unfolding id_text padded_integral char_count
padded_is n = rw append-nil (ap (λ k. replicate k 48 ++ digits 16 false n) (omega arith))

pub returns : goal.returns
returns c = c.from_string.ensures ∙ rw c.in_radix.ensures at (rw c.laid_out.ensures at c.in_ok-text.ensures.ok) ∙ padded_is c.args.number
