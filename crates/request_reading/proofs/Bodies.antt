-- Behind its head the body is read, and both are the request.
use Rattle.std.proofs.Common.{◌≡◌, ℕ, ◌+◌, ◌<◌, ◌≤◌, ◌||◌, Bool, true, false, List, [], ◌++◌, length, take, drop, Option, refl, sym, ap, ◌∙◌, subst, arith, append_assoc}
use Rattle.std.proofs.Math.Seq.{drop-append_seam}
use Rattle.std.proofs.lemmas.List.{append-nil, drop-take, length-append}
use Rattle.std.specs.Prelude.{Err, IsTrue, Ok, Result}
use Rattle.engine_types.specs.declared.WireEnd.{WireEnd}
use Rattle.httparse.specs.Grammar.{RequestHead, print_request}
use Rattle.outside_api.specs.Pipes.{Talk}
use Rattle.response_rules.specs.Lines.{ends, head_part}
use Rattle.request_reading.specs.Hearing.{AnswersTo, ComesTo, Hears}
use Rattle.request_reading.specs.Requests.{BeginsWithHead, Breaks, IsRequest, body_length, cut_body, long_head, no_head}
use Rattle.request_reading.specs.Stocks.{FillsToBy, FindsHeadBy, IsFilled, IsHeadRead, MissesHead, OpensBy, ParsedBy, ReadsOnBy}
use Rattle.request_reading.specs.declared.heads.Head.{Head}
use Rattle.request_reading.specs.declared.received.Received.{Received}
use Rattle.request_reading.specs.declared.received.RequestEnd.{RequestEnd}
use Rattle.request_reading.specs.declared.stock.Stock.{Stock}
use Rattle.request_reading.proofs.Listening.{filled_on, hears_as, hears_on, or_nothing, refuses}

-- ---- so many bytes

unfilled : (end : ℕ) (old now : Stock) (m n : List ℕ) (d e : Bool) → IsFilled old now m d → length now.bytes < end
    → (cause : WireEnd) → (cause ≡ WireEnd.Ended) × IsTrue now.ended × (n ≡ []) × (e ≡ false)
    → (cause ≡ WireEnd.Ended) × (length (old.bytes ++ (m ++ n)) < end) × IsTrue (old.ended || (d || e))
unfilled end old now m n d e filled short cause (is, ended, none, plain) =
    let bytes : old.bytes ++ (m ++ n) ≡ now.bytes =
    ap (λ (l : List ℕ). old.bytes ++ (m ++ l)) none ∙ ap (λ (l : List ℕ). old.bytes ++ l) (append-nil m) ∙ sym filled.bytes_are in
    let over : (old.ended || (d || e)) ≡ true =
    ap (λ (v : Bool). old.ended || (d || v)) plain ∙ ap (λ (v : Bool). old.ended || v) (sym (or_nothing d)) ∙ sym filled.ended_is ∙ ended in
    (is, subst (λ (l : List ℕ). length l < end) (sym bytes) short, over)

module _ (end : ℕ) (old now new : Stock) (a b : Option Talk) where
  -- no more could be read
  pub fill_lost : (c : Option Talk) (f g h : ℕ) (why : RequestEnd) → f ≤ g → g ≤ h → Hears a b (λ (more : List ℕ) (found_end : Bool). IsFilled old now more found_end)
      → length now.bytes < end → Hears b c (ReadsOnBy now new g h (Err why)) → Hears a c (FillsToBy end old new f h (Err why))
  fill_lost c f g h why low high first short second =
      hears_on first.more first.found_end a b c (ReadsOnBy now new g h (Err why)) (FillsToBy end old new f h (Err why)) first.heard second
      (λ (n : List ℕ) (e : Bool) (r : ReadsOnBy now new g h (Err why) n e).
      refuses (λ (done : Unit {0}). IsFilled now new n e × (now.ended ≡ false) × (e ≡ false → 0 < length n))
      (λ (done : Unit {0}). IsFilled old new (first.more ++ n) (first.found_end || e) × (end ≤ length new.bytes))
      (λ (cause : WireEnd). (cause ≡ WireEnd.Ended) × IsTrue now.ended × (n ≡ []) × (e ≡ false))
      (λ (cause : WireEnd). (cause ≡ WireEnd.Ended) × (length (old.bytes ++ (first.more ++ n)) < end) × IsTrue (old.ended || (first.found_end || e)))
      f g h why low high r (unfilled end old now first.more n first.found_end e first.comes short))

  -- all were read
  pub fill_done : (f g : ℕ) → Hears a b (λ (more : List ℕ) (found_end : Bool). IsFilled old now more found_end) → end ≤ length now.bytes → Hears a b (FillsToBy end old now f g (Ok tt))
  fill_done f g h long =
      hears_as a b (λ (more : List ℕ) (found_end : Bool). IsFilled old now more found_end) (FillsToBy end old now f g (Ok tt)) h
      (λ (more : List ℕ) (found_end : Bool) (filled : IsFilled old now more found_end). (filled, long))

-- ---- the head

misses : (read : List ℕ) (ended : Bool) (cause : WireEnd) → MissesHead read ended cause → Breaks read ended cause
misses read ended WireEnd.Ended m = no_head read ended m.0 m.1
misses read ended WireEnd.TooLarge m = long_head read ended m
misses read ended (WireEnd.Malformed at) m = absurd m
misses read ended WireEnd.Encoded m = absurd m
misses read ended WireEnd.Fault m = absurd m
misses read ended WireEnd.BadBody m = absurd m

module _ (old new : Stock) (a b : Option Talk) (f g : ℕ) (empty : old.bytes ≡ []) (going : old.ended ≡ false) where
  bytes_are : (more : List ℕ) → old.bytes ++ more ≡ more
  bytes_are more = ap (λ (l : List ℕ). l ++ more) empty

  ended_is : (found_end : Bool) → (old.ended || found_end) ≡ found_end
  ended_is found_end = ap (λ (v : Bool). v || found_end) going

  pub head_lost : (why : RequestEnd) → f ≤ g → Hears a b (FindsHeadBy old new f g (Err why)) → Hears a b (OpensBy new f g (Err why))
  head_lost why le h =
      hears_as a b (FindsHeadBy old new f g (Err why)) (OpensBy new f g (Err why)) h
      (λ (n : List ℕ) (e : Bool) (r : FindsHeadBy old new f g (Err why) n e).
      refuses (λ (k : ℕ). IsFilled old new n e × (head_part 0 (old.bytes ++ n) ≡ ends k)) (λ (found : Head). (new.bytes ≡ n) × (new.ended ≡ e) × ((head : RequestHead) × (rest : List ℕ)
      × BeginsWithHead n head rest × IsHeadRead (length (print_request head)) head found))
      (MissesHead (old.bytes ++ n) (old.ended || e)) (Breaks n e) f f g why (omega arith) le r
      (λ (cause : WireEnd) (m : MissesHead (old.bytes ++ n) (old.ended || e) cause).
      misses n e cause (subst (λ (v : Bool). MissesHead n v cause) (ended_is e) (subst (λ (l : List ℕ). MissesHead l (old.ended || e) cause) (bytes_are n) m))))

  opened : (n : List ℕ) (e : Bool) (r : Result Head RequestEnd) → IsFilled old new n e → ParsedBy n r → OpensBy new f g r n e
  opened n e (Ok found) filled p = (filled.bytes_are ∙ bytes_are n, filled.ended_is ∙ ended_is e, p)
  opened n e (Err (RequestEnd.Wire WireEnd.Fault)) filled p = absurd p
  opened n e (Err (RequestEnd.Wire WireEnd.BadBody)) filled p = p
  opened n e (Err (RequestEnd.Wire WireEnd.Encoded)) filled p = p
  opened n e (Err (RequestEnd.Wire WireEnd.Ended)) filled p = p e
  opened n e (Err (RequestEnd.Wire (WireEnd.Malformed at))) filled p = p e
  opened n e (Err (RequestEnd.Wire WireEnd.TooLarge)) filled p = p e
  opened n e (Err RequestEnd.Memory) filled p = p

  pub head_read : (end : ℕ) (r : Result Head RequestEnd) → (h : Hears a b (FindsHeadBy old new f g (Ok end))) → ParsedBy h.more r → Hears a b (OpensBy new f g r)
  head_read end r h p = record { more = h.more; found_end = h.found_end; heard = h.heard; comes = opened h.more h.found_end r h.comes.0 p }

-- ---- the body

-- the head stands in front of more bytes too
begins_more : (read rest more : List ℕ) (head : RequestHead) → BeginsWithHead read head rest → BeginsWithHead (read ++ more) head (rest ++ more)
begins_more read rest more head b = record {
  is_head = b.is_head;
  reads = ap (λ (r : List ℕ). r ++ more) b.reads ∙ append_assoc (print_request head) rest more;
  few = b.few;
  within = b.within;
}

module _ (mid new : Stock) (a b c : Option Talk) (f g h : ℕ) (head : Head) (low : f ≤ g) (high : g ≤ h) (first : Hears a b (OpensBy mid f g (Ok head))) where
  abbrev said : RequestHead
  said = first.comes.2.0

  abbrev rest : List ℕ
  rest = first.comes.2.1

  begins : BeginsWithHead first.more said rest
  begins = first.comes.2.2

  is_read : IsHeadRead (length (print_request said)) said head
  is_read = first.comes.2.3

  long : (n : List ℕ) → length (mid.bytes ++ n) ≡ head.length + length (rest ++ n)
  long n =
      ap length (ap (λ (l : List ℕ). l ++ n) first.comes.0 ∙ (begins_more first.more rest n said begins).reads)
      ∙ length-append (print_request said) (rest ++ n) ∙ ap (λ (k : ℕ). k + length (rest ++ n)) (sym is_read.length_known)

  cut_short : (n : List ℕ) (e : Bool) (cause : WireEnd) → (cause ≡ WireEnd.Ended) × (length (mid.bytes ++ n) < head.length + head.size) × IsTrue (mid.ended || e)
      → Breaks (first.more ++ n) (first.found_end || e) cause
  cut_short n e cause (is, short, over) =
      let l = long n in
      subst (Breaks (first.more ++ n) (first.found_end || e)) (sym is)
      (cut_body (first.more ++ n) (rest ++ n) (first.found_end || e) said head.size (begins_more first.more rest n said begins) is_read.length_is is_read.small
      (omega (arith, l, short)) (subst (λ (v : Bool). IsTrue (v || e)) first.comes.1 over))

  pub body_lost : (why : RequestEnd) → Hears b c (FillsToBy (head.length + head.size) mid new g h (Err why)) → Hears a c (AnswersTo f h (Err why))
  body_lost why second =
      hears_on first.more first.found_end a b c (FillsToBy (head.length + head.size) mid new g h (Err why)) (AnswersTo f h (Err why)) first.heard second
      (λ (n : List ℕ) (e : Bool) (r : FillsToBy (head.length + head.size) mid new g h (Err why) n e).
      refuses (λ (done : Unit {0}). IsFilled mid new n e × (head.length + head.size ≤ length new.bytes))
      (λ (found : Received). IsRequest (first.more ++ n) found.method found.target found.body)
      (λ (cause : WireEnd). (cause ≡ WireEnd.Ended) × (length (mid.bytes ++ n) < head.length + head.size) × IsTrue (mid.ended || e))
      (Breaks (first.more ++ n) (first.found_end || e))
      f g h why low high r (cut_short n e))

  -- memory was wanting behind it
  pub body_short : Hears b c (FillsToBy (head.length + head.size) mid new g h (Ok tt)) → Hears a c (AnswersTo f h (Err RequestEnd.Memory))
  body_short second =
      hears_on first.more first.found_end a b c (FillsToBy (head.length + head.size) mid new g h (Ok tt)) (AnswersTo f h (Err RequestEnd.Memory)) first.heard second
      (λ (n : List ℕ) (e : Bool) (r : FillsToBy (head.length + head.size) mid new g h (Ok tt) n e). tt)

  body_is : (n body : List ℕ) → new.bytes ≡ mid.bytes ++ n → body ≡ drop head.length (take (head.length + head.size) new.bytes) → body ≡ take head.size (rest ++ n)
  body_is n body filled is =
      is ∙ drop-take head.length head.size new.bytes
      ∙ ap (λ (l : List ℕ). take head.size (drop head.length l))
      (filled ∙ ap (λ (l : List ℕ). l ++ n) first.comes.0 ∙ (begins_more first.more rest n said begins).reads)
      ∙ ap (λ (k : ℕ). take head.size (drop k (print_request said ++ (rest ++ n)))) is_read.length_known
      ∙ ap (take head.size) (drop-append_seam (print_request said) (rest ++ n))

  pub body_read : (body : List ℕ) → Hears b c (FillsToBy (head.length + head.size) mid new g h (Ok tt)) → body ≡ drop head.length (take (head.length + head.size) new.bytes)
      → Hears a c (AnswersTo f h (Ok (record { method = head.method; target = head.target; body = body })))
  body_read body second is =
      hears_on first.more first.found_end a b c (FillsToBy (head.length + head.size) mid new g h (Ok tt))
      (AnswersTo f h (Ok (record { method = head.method; target = head.target; body = body }))) first.heard second
      (λ (n : List ℕ) (e : Bool) (r : FillsToBy (head.length + head.size) mid new g h (Ok tt) n e).
      record {
        head = said;
        rest = rest ++ n;
        size = head.size;
        begins = begins_more first.more rest n said begins;
        has_method = is_read.method_is;
        has_target = is_read.target_is;
        has_length = is_read.length_is;
        small = is_read.small;
        whole =
            let l = long n in
            let e : length new.bytes ≡ length (mid.bytes ++ n) = ap length r.0.bytes_are in
            omega (arith, l, e, r.1);
        has_body = body_is n body r.0.bytes_are is;
      })

pub head_refused : (mid : Stock) (a b : Option Talk) (f g : ℕ) (why : RequestEnd) → f ≤ g → Hears a b (OpensBy mid f g (Err why)) → Hears a b (AnswersTo f g (Err why))
head_refused mid a b f g why le h =
    hears_as a b (OpensBy mid f g (Err why)) (AnswersTo f g (Err why)) h
    (λ (n : List ℕ) (e : Bool) (r : OpensBy mid f g (Err why) n e).
    refuses (λ (found : Head). (mid.bytes ≡ n) × (mid.ended ≡ e) × ((head : RequestHead) × (rest : List ℕ) × BeginsWithHead n head rest × IsHeadRead (length (print_request head)) head found))
    (λ (found : Received). IsRequest n found.method found.target found.body) (Breaks n e) (Breaks n e) f f g why (omega arith) le r
    (λ (cause : WireEnd) (broken : Breaks n e cause). broken))
