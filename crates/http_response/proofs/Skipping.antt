-- One head behind another, until one comes that no other follows.
use Rattle.std.proofs.Common.{◌≡◌, ℕ, ◌+◌, ◌<◌, ◌≤◌, ◌||◌, ◌^◌, Bool, true, false, List, [], ◌∷◌, ◌++◌, length, take, drop, Option, refl, sym, ap, ◌∙◌, subst, arith, append_assoc}
use Rattle.std.proofs.Math.Seq.{drop-append_seam}
use Rattle.std.proofs.lemmas.List.{drop-append-le, length-append, length-take-le}
use Rattle.std.specs.Prelude.{Err, Ok}
use Rattle.engine_types.specs.declared.WireEnd.{WireEnd}
use Rattle.httparse.specs.Grammar.{print_response}
use Rattle.outside_api.specs.Pipes.{Talk}
use Rattle.response_rules.specs.Heads.{is_interim}
use Rattle.response_rules.specs.Lines.{Part, ends, head_part}
use Rattle.response_rules.specs.Responses.{BreaksWithin, IsSkippedWithin, SkipsWithin, print_heads}
use Rattle.http_response.specs.Found.{BreaksBehind, IsHead, IsPastHead, IsSkipping, NextHeadBy, ParsedBy, ReadHeadBy}
use Rattle.http_response.specs.Hearing.{ComesTo, Hears}
use Rattle.http_response.specs.Stocks.{FindsEndBy, IsFilled, MissesEnd, left, place}
use Rattle.http_response.specs.declared.heads.Head.{Head}
use Rattle.http_response.specs.declared.response.ResponseEnd.{ResponseEnd}
use Rattle.http_response.specs.declared.stock.Stock.{Stock}
use Rattle.http_response.proofs.Heading.{begins, head_some, misses, skips_more, skips_nothing, skips_on}
use Rattle.http_response.proofs.Listening.{filled_on, hears_as, hears_on, or_assoc, refuses}
use Rattle.http_response.proofs.Searching.{end_within}

abbrev pub head_at : ℕ → List ℕ → Part
head_at skipped bytes = head_part skipped (drop skipped bytes)

-- ---- one head

module _ (limit : ℕ) (old new : Stock) (skipped end at : ℕ) (a b : Option Talk) (f g : ℕ) (bytes : List ℕ)
    (found : Hears a b (FindsEndBy (head_at skipped) old new f g (Ok end))) (cut : bytes ≡ take end (drop skipped (left new))) (same : at ≡ skipped) where
  abbrev tail : List ℕ
  tail = drop skipped (left old ++ found.more)

  part : head_part skipped tail ≡ ends end
  part = found.comes.1

  bytes_are : bytes ≡ take end tail
  bytes_are = cut ∙ ap (λ (l : List ℕ). take end (drop skipped l)) found.comes.0.left_is

  as_long : length bytes ≡ end
  as_long = ap length bytes_are ∙ length-take-le end tail (end_within skipped end tail part)

  asked : head_part at tail ≡ ends (length bytes)
  asked = ap (λ (n : ℕ). head_part n tail) same ∙ part ∙ ap ends (sym as_long)

  given : bytes ≡ take (length bytes) tail
  given = bytes_are ∙ ap (λ (n : ℕ). take n tail) (sym as_long)

  pub next_read : (head : Head) → ((t : List ℕ) → head_part at t ≡ ends (length bytes) → bytes ≡ take (length bytes) t → ParsedBy limit t at (Ok head))
      → Hears a b (NextHeadBy limit old new skipped f g (Ok head))
  next_read head parsed = record {
    more = found.more;
    found_end = found.found_end;
    heard = found.heard;
    comes = (found.comes.0, subst (λ (n : ℕ). IsHead limit tail n head) same (parsed tail asked given));
  }

  worse : (cause : WireEnd) → ParsedBy limit tail at (Err cause)
      → ComesTo (λ (head : Head). IsFilled old new found.more found.found_end × IsHead limit tail skipped head)
      (BreaksBehind limit skipped tail (old.ended || found.found_end)) f g (Err (ResponseEnd.Wire cause))
  worse WireEnd.Fault p = absurd p
  worse WireEnd.BadBody p = absurd p
  worse WireEnd.Ended p = subst (λ (n : ℕ). BreaksBehind limit n tail (old.ended || found.found_end) WireEnd.Ended) same (p (old.ended || found.found_end))
  worse (WireEnd.Malformed m) p = subst (λ (n : ℕ). BreaksBehind limit n tail (old.ended || found.found_end) (WireEnd.Malformed m)) same (p (old.ended || found.found_end))
  worse WireEnd.Encoded p = subst (λ (n : ℕ). BreaksBehind limit n tail (old.ended || found.found_end) WireEnd.Encoded) same (p (old.ended || found.found_end))
  worse WireEnd.TooLarge p = subst (λ (n : ℕ). BreaksBehind limit n tail (old.ended || found.found_end) WireEnd.TooLarge) same (p (old.ended || found.found_end))

  pub next_wrong : (cause : WireEnd) → ((t : List ℕ) → head_part at t ≡ ends (length bytes) → bytes ≡ take (length bytes) t → ParsedBy limit t at (Err cause))
      → Hears a b (NextHeadBy limit old new skipped f g (Err (ResponseEnd.Wire cause)))
  next_wrong cause parsed = record { more = found.more; found_end = found.found_end; heard = found.heard; comes = worse cause (parsed tail asked given) }

-- its end wasn't found
pub next_lost : (limit : ℕ) (old new : Stock) (skipped : ℕ) (a b : Option Talk) (f g : ℕ) (end : ResponseEnd) → f ≤ g → Hears a b (FindsEndBy (head_at skipped) old new f g (Err end))
    → Hears a b (NextHeadBy limit old new skipped f g (Err end))
next_lost limit old new skipped a b f g end le h =
    hears_as a b (FindsEndBy (head_at skipped) old new f g (Err end)) (NextHeadBy limit old new skipped f g (Err end)) h
    (λ (n : List ℕ) (e : Bool) (r : FindsEndBy (head_at skipped) old new f g (Err end) n e).
    refuses (λ (k : ℕ). IsFilled old new n e × (head_at skipped (left old ++ n) ≡ ends k))
    (λ (head : Head). IsFilled old new n e × IsHead limit (drop skipped (left old ++ n)) skipped head)
    (MissesEnd (head_at skipped (left old ++ n)) (old.ended || e)) (BreaksBehind limit skipped (drop skipped (left old ++ n)) (old.ended || e))
    f f g end (omega arith) le r (misses limit skipped (drop skipped (left old ++ n)) (old.ended || e)))

-- ---- head behind head

pub skipping_nothing : (limit : ℕ) (stock : Stock) → IsSkipping limit stock 0
skipping_nothing limit stock = record { heads = []; skips = skips_nothing limit (left stock); length_is = refl }

pub skipping_within : (limit : ℕ) (now : Stock) (skipped : ℕ) → IsSkipping limit now skipped → (skipped ≤ length (left now)) × (skipped ≤ 65536)
skipping_within limit now skipped s =
    let l = s.length_is in
    let w = s.skips.within in
    let cut = ap length s.skips.reads in
    let m = length-append (print_heads s.heads) (drop skipped (left now)) in
    (omega (arith, l, cut, m), omega (arith, l, w))

module _ (limit : ℕ) (now new : Stock) (skipped : ℕ) (n : List ℕ) (e : Bool) (found : Head) (s : IsSkipping limit now skipped) (filled : IsFilled now new n e)
    (h : IsHead limit (drop skipped (left now ++ n)) skipped found) where
  dropped : drop skipped (left now ++ n) ≡ drop skipped (left now) ++ n
  dropped = drop-append-le skipped (left now) n (skipping_within limit now skipped s).0

  -- what was read goes on with this head
  pub goes_on : SkipsWithin limit (left new) s.heads (print_response h.head ++ h.rest)
  goes_on =
      subst (λ (read : List ℕ). SkipsWithin limit read s.heads (print_response h.head ++ h.rest)) (sym filled.left_is)
      (subst (λ (t : List ℕ). SkipsWithin limit (left now ++ n) s.heads t) (sym dropped ∙ h.reads) (skips_more limit (left now) (drop skipped (left now)) n s.heads s.skips))

  whole_long : length (print_heads s.heads) + length (print_response h.head) ≡ skipped + found.length
  whole_long = let l = s.length_is in let m = h.length_is in omega (arith, l, m)

  pub behind : h.rest ≡ drop (skipped + found.length) (left new)
  behind =
      let joined : left new ≡ (print_heads s.heads ++ print_response h.head) ++ h.rest =
      goes_on.reads ∙ sym (append_assoc (print_heads s.heads) (print_response h.head) h.rest) in
      sym (
      ap (λ (k : ℕ). drop k (left new)) (sym (length-append (print_heads s.heads) (print_response h.head) ∙ whole_long))
      ∙ ap (drop (length (print_heads s.heads ++ print_response h.head))) joined
      ∙ drop-append_seam (print_heads s.heads ++ print_response h.head) h.rest)

  pub whole_within : skipped + found.length ≤ length (left new)
  whole_within =
      let cut = ap length goes_on.reads in
      let a = length-append (print_heads s.heads) (print_response h.head ++ h.rest) in
      let b = length-append (print_response h.head) h.rest in
      let l = whole_long in
      omega (arith, cut, a, b, l)

  pub further : 0 < found.length
  further = let l = h.length_is in let m = head_some h.head in omega (arith, l, m)

  pub limited : skipped + found.length ≤ 65536
  limited = let l = h.length_is in let w = h.within in omega (arith, l, w)

  -- it is skipped, too
  pub skipping_on : is_interim found.status ≡ true → IsSkipping limit new (skipped + found.length)
  skipping_on interim =
      let one : IsSkippedWithin limit h.head =
      record { is_head = h.is_head; interim = ap is_interim (sym h.status_is) ∙ interim; few = h.few; sound = h.sound } in
      let on = skips_on limit (left new) (print_response h.head ++ h.rest) h.rest s.heads h.head goes_on one refl
      (let l = whole_long in let m = limited in omega (arith, l, m)) in
      record {
        heads = s.heads ++ h.head ∷ [];
        skips = subst (λ (t : List ℕ). SkipsWithin limit (left new) (s.heads ++ h.head ∷ []) t) behind on.0;
        length_is = on.1 ∙ whole_long;
      }

  -- it is the head of the response
  module _ (init last : Stock) (m : List ℕ) (d : Bool) (before : IsFilled init now m d) (final : is_interim found.status ≡ false)
      (left_is : left last ≡ drop (skipped + found.length) (left new)) (place_is : place last ≡ place new + (skipped + found.length)) (ended_is : last.ended ≡ new.ended) where
    all : IsFilled init new (m ++ n) (d || e)
    all = filled_on init now new m n d e before filled

    pub past_head : IsPastHead limit init last (left init ++ (m ++ n)) (init.ended || (d || e)) found
    past_head = record {
      skipped = s.heads;
      head = h.head;
      begins =
          begins limit (left init ++ (m ++ n)) (print_response h.head ++ h.rest) (left last) s.heads h.head skipped
          (subst (λ (read : List ℕ). SkipsWithin limit read s.heads (print_response h.head ++ h.rest)) all.left_is goes_on)
          s.length_is h.is_head (ap (λ (r : List ℕ). print_response h.head ++ r) (behind ∙ sym left_is)) h.few h.within;
      final = ap is_interim (sym h.status_is) ∙ final;
      sound = h.sound;
      status_is = h.status_is;
      framing_is = h.framing_is;
      ended_is = ended_is ∙ all.ended_is;
      place_is = λ (small : place init < 2 ^ 64). let p = all.place_is small in let l = whole_long in omega (arith, p, l, place_is);
    }

-- the head behind skipped ones isn't there
pub read_lost : (limit : ℕ) (init now new last : Stock) (skipped : ℕ) (a b c : Option Talk) (f g h : ℕ) (end : ResponseEnd) → f ≤ g → g ≤ h
    → Hears a b (λ (more : List ℕ) (found_end : Bool). IsFilled init now more found_end) → IsSkipping limit now skipped
    → Hears b c (NextHeadBy limit now new skipped g h (Err end)) → Hears a c (ReadHeadBy limit init last f h (Err end))
read_lost limit init now new last skipped a b c f g h end low high first s second =
    hears_on first.more first.found_end a b c (NextHeadBy limit now new skipped g h (Err end)) (ReadHeadBy limit init last f h (Err end)) first.heard second
    (λ (n : List ℕ) (e : Bool) (r : NextHeadBy limit now new skipped g h (Err end) n e).
    refuses (λ (head : Head). IsFilled now new n e × IsHead limit (drop skipped (left now ++ n)) skipped head)
    (IsPastHead limit init last (left init ++ (first.more ++ n)) (init.ended || (first.found_end || e)))
    (BreaksBehind limit skipped (drop skipped (left now ++ n)) (now.ended || e)) (BreaksWithin limit (left init ++ (first.more ++ n)) (init.ended || (first.found_end || e)))
    f g h end low high r
    (λ (cause : WireEnd) (broken : BreaksBehind limit skipped (drop skipped (left now ++ n)) (now.ended || e) cause).
    let skips : SkipsWithin limit (left now ++ n) s.heads (drop skipped (left now ++ n)) =
    subst (λ (t : List ℕ). SkipsWithin limit (left now ++ n) s.heads t) (sym (drop-append-le skipped (left now) n (skipping_within limit now skipped s).0))
    (skips_more limit (left now) (drop skipped (left now)) n s.heads s.skips) in
    let read : left now ++ n ≡ left init ++ (first.more ++ n) =
    ap (λ (l : List ℕ). l ++ n) first.comes.left_is ∙ append_assoc (left init) first.more n in
    let ended : (now.ended || e) ≡ (init.ended || (first.found_end || e)) =
    ap (λ (v : Bool). v || e) first.comes.ended_is ∙ or_assoc init.ended first.found_end e in
    subst (λ (r : List ℕ). BreaksWithin limit r (init.ended || (first.found_end || e)) cause) read
    (subst (λ (v : Bool). BreaksWithin limit (left now ++ n) v cause) ended (broken (left now ++ n) s.heads skips s.length_is))))

-- the head behind skipped ones is read
pub heads_read : (limit : ℕ) (init now new last : Stock) (skipped : ℕ) (found : Head) (a b c : Option Talk) (f g h : ℕ)
    → (first : Hears a b (λ (more : List ℕ) (found_end : Bool). IsFilled init now more found_end)) → IsSkipping limit now skipped → Hears b c (NextHeadBy limit now new skipped g h (Ok found))
    → is_interim found.status ≡ false → left last ≡ drop (skipped + found.length) (left new) → place last ≡ place new + (skipped + found.length) → last.ended ≡ new.ended
    → Hears a c (ReadHeadBy limit init last f h (Ok found))
heads_read limit init now new last skipped found a b c f g h first s second final left_is place_is ended_is =
    hears_on first.more first.found_end a b c (NextHeadBy limit now new skipped g h (Ok found)) (ReadHeadBy limit init last f h (Ok found)) first.heard second
    (λ (n : List ℕ) (e : Bool) (r : NextHeadBy limit now new skipped g h (Ok found) n e).
    past_head limit now new skipped n e found s r.0 r.1 init last first.more first.found_end first.comes final left_is place_is ended_is)
