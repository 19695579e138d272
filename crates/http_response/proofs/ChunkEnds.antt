-- The CRLF behind the bytes of a chunk.
use Rattle.std.proofs.Common.{◌≡◌, ◌≢◌, ℕ, ◌+◌, ◌<◌, ◌≤◌, ◌||◌, ◌^◌, Bool, true, false, List, [], ◌++◌, length, take, drop, Option, refl, sym, ap, ◌∙◌, subst, arith}
use Rattle.std.proofs.lemmas.List.{append-nil, take-append-drop}
use Rattle.std.specs.Prelude.{Err, IsTrue, Ok}
use Rattle.engine_types.specs.declared.WireEnd.{WireEnd}
use Rattle.httparse.specs.Ascii.{crlf_bytes}
use Rattle.outside_api.specs.Pipes.{Talk}
use Rattle.http_response.specs.ChunksRead.{BreaksEnd, IsPastEnd, ReadsEndBy}
use Rattle.http_response.specs.Hearing.{Hears}
use Rattle.http_response.specs.Stocks.{IsFilled, ReadsOnBy, left, place}
use Rattle.http_response.specs.declared.response.ResponseEnd.{ResponseEnd}
use Rattle.http_response.specs.declared.stock.Stock.{Stock}
use Rattle.http_response.proofs.Listening.{hears_as, hears_on, or_nothing, refuses}

end_cut : (at : ℕ) (old now : Stock) (m n : List ℕ) (d e : Bool) → IsFilled old now m d → length (left now) < 2
    → (cause : WireEnd) → (cause ≡ WireEnd.Ended) × IsTrue now.ended × (n ≡ []) × (e ≡ false) → BreaksEnd at (left old ++ (m ++ n)) (old.ended || (d || e)) cause
end_cut at old now m n d e filled short cause (is, ended, none, plain) =
    let bytes : left old ++ (m ++ n) ≡ left now =
    ap (λ (l : List ℕ). left old ++ (m ++ l)) none ∙ ap (λ (l : List ℕ). left old ++ l) (append-nil m) ∙ sym filled.left_is in
    let over : (old.ended || (d || e)) ≡ true =
    ap (λ (v : Bool). old.ended || (d || v)) plain ∙ ap (λ (v : Bool). old.ended || v) (sym (or_nothing d)) ∙ sym filled.ended_is ∙ ended in
    subst (BreaksEnd at (left old ++ (m ++ n)) (old.ended || (d || e))) (sym is)
    (subst (λ (l : List ℕ). length l < 2) (sym bytes) short, over)

module _ (at : ℕ) (old now : Stock) (a b : Option Talk) (first : Hears a b (λ (more : List ℕ) (found_end : Bool). IsFilled old now more found_end)) where
  -- no more could be read
  pub end_lost : (new : Stock) (c : Option Talk) (f g h : ℕ) (end : ResponseEnd) → f ≤ g → g ≤ h → length (left now) < 2
      → Hears b c (ReadsOnBy now new g h (Err end)) → Hears a c (ReadsEndBy at old new f h (Err end))
  end_lost new c f g h end low high short second =
      hears_on first.more first.found_end a b c (ReadsOnBy now new g h (Err end)) (ReadsEndBy at old new f h (Err end)) first.heard second
      (λ (n : List ℕ) (e : Bool) (r : ReadsOnBy now new g h (Err end) n e).
      refuses (λ (done : Unit {0}). IsFilled now new n e × (now.ended ≡ false) × (e ≡ false → 0 < length n))
      (λ (done : Unit {0}). IsPastEnd old new (left old ++ (first.more ++ n)) (old.ended || (first.found_end || e)))
      (λ (cause : WireEnd). (cause ≡ WireEnd.Ended) × IsTrue now.ended × (n ≡ []) × (e ≡ false))
      (BreaksEnd at (left old ++ (first.more ++ n)) (old.ended || (first.found_end || e)))
      f g h end low high r (end_cut at old now first.more n first.found_end e first.comes short))

  pub end_wrong : (f g : ℕ) → 2 ≤ length (left now) → take 2 (left now) ≢ crlf_bytes → Hears a b (ReadsEndBy at old now f g (Err (ResponseEnd.Wire (WireEnd.Malformed at))))
  end_wrong f g two other =
      hears_as a b (λ (more : List ℕ) (found_end : Bool). IsFilled old now more found_end) (ReadsEndBy at old now f g (Err (ResponseEnd.Wire (WireEnd.Malformed at)))) first
      (λ (more : List ℕ) (found_end : Bool) (filled : IsFilled old now more found_end). (
        refl,
        subst (λ (l : List ℕ). 2 ≤ length l) filled.left_is two,
        subst (λ (l : List ℕ). take 2 l ≢ crlf_bytes) filled.left_is other,
      ))

  pub end_read : (last : Stock) (f g : ℕ) → take 2 (left now) ≡ crlf_bytes → left last ≡ drop 2 (left now) → place last ≡ place now + 2 → last.ended ≡ now.ended
      → Hears a b (ReadsEndBy at old last f g (Ok tt))
  end_read last f g same left_is place_is ended_is =
      hears_as a b (λ (more : List ℕ) (found_end : Bool). IsFilled old now more found_end) (ReadsEndBy at old last f g (Ok tt)) first
      (λ (more : List ℕ) (found_end : Bool) (filled : IsFilled old now more found_end).
      record {
        reads =
            sym filled.left_is ∙ sym (take-append-drop 2 (left now)) ∙ ap (λ (l : List ℕ). l ++ drop 2 (left now)) same
            ∙ ap (λ (l : List ℕ). crlf_bytes ++ l) (sym left_is);
        ended_is = ended_is ∙ filled.ended_is;
        place_is = λ (small : place old < 2 ^ 64). let p = filled.place_is small in omega (arith, p, place_is);
      })
