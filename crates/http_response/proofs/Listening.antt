-- What is heard by one reading of a connection, and by one reading behind another.
use Rattle.std.proofs.Common.{◌≡◌, ◌⊎◌, ℕ, ◌+◌, ◌<◌, ◌≤◌, ◌==◌, ◌&&◌, ◌||◌, ◌^◌, Bool, true, false, not, List, [], ◌++◌, length, take, drop, zero, suc, Option, Some, None, refl, sym, ap, ◌∙◌, subst, inl, inr, append_assoc, arith, true≢false}
use Rattle.std.proofs.lemmas.Bool.{cases_lt}
use Rattle.std.proofs.lemmas.List.{append-nil, length-append}
use Rattle.std.specs.Prelude.{Err, IsTrue, Ok, Result}
use Rattle.outside_files.specs.Counts.{Rose}
use Rattle.outside_api.specs.Pipes.{Talk, ToldBy, after_read}
use Rattle.outside_api.specs.declared.pipe.PipeAnswer.{PipeAnswer}
use Rattle.engine_types.specs.declared.WireEnd.{WireEnd}
use Rattle.http_response.specs.Hearing.{ComesTo, Heard, Hears}
use Rattle.http_response.specs.Stocks.{FillsBy, IsFilled, ReadiesBy, ReadsOnBy, left, place}
use Rattle.http_response.specs.declared.response.ResponseEnd.{ResponseEnd}
use Rattle.http_response.specs.declared.stock.Stock.{Stock}

pub or_nothing : (b : Bool) → b ≡ (b || false)
or_nothing true = refl
or_nothing false = refl

pub or_true : (b : Bool) → true ≡ (b || true)
or_true true = refl
or_true false = refl

pub or_assoc : (a b c : Bool) → ((a || b) || c) ≡ (a || (b || c))
or_assoc true b c = refl
or_assoc false b c = refl

-- ---- what is heard

pub nothing_heard : (told : Option Talk) → Heard [] false told told
nothing_heard None = refl
nothing_heard (Some talk) =
    ap (λ (r : List ℕ). Some (record talk { read = r })) (sym (append-nil talk.read))
    ∙ ap (λ (b : Bool). Some (record talk { read = talk.read ++ []; ended = b })) (or_nothing talk.ended)

pub piece_heard : (room : List ℕ) (n : ℕ) (old new : Option Talk) → (n == 0) ≡ false
    → ToldBy (after_read room (PipeAnswer.Got n)) old new → Heard (take n room) false old new
piece_heard room n None new plain h = h
piece_heard room n (Some talk) new plain h =
    h ∙ ap (λ (b : Bool). Some (record talk { read = talk.read ++ take n room; ended = talk.ended || b })) plain

pub end_heard : (room : List ℕ) (old new : Option Talk) → ToldBy (after_read room (PipeAnswer.Got 0)) old new → Heard [] true old new
end_heard room None new h = h
end_heard room (Some talk) new h = h

pub failure_heard : (room : List ℕ) (old new : Option Talk) → ToldBy (after_read room PipeAnswer.Failed) old new → Heard [] false old new
failure_heard room None new h = h
failure_heard room (Some talk) new h = h ∙ nothing_heard (Some talk)

pub heard_on : (m n : List ℕ) (d e : Bool) (a b c : Option Talk) → Heard m d a b → Heard n e b c → Heard (m ++ n) (d || e) a c
heard_on m n d e None b c h k = let on : Heard n e None c = subst (λ (t : Option Talk). Heard n e t c) h k in on
heard_on m n d e (Some talk) b c h k =
    let on : Heard n e (Some (record talk { read = talk.read ++ m; ended = talk.ended || d })) c = subst (λ (t : Option Talk). Heard n e t c) h k in
    on
    ∙ ap (λ (r : List ℕ). Some (record talk { read = r; ended = (talk.ended || d) || e })) (append_assoc talk.read m n)
    ∙ ap (λ (v : Bool). Some (record talk { read = talk.read ++ (m ++ n); ended = v })) (or_assoc talk.ended d e)

-- one reading behind another
pub hears_on : (m : List ℕ) (d : Bool) (a b c : Option Talk) (Q R : List ℕ → Bool → Type 0) → Heard m d a b → Hears b c Q
    → ((n : List ℕ) (e : Bool) → Q n e → R (m ++ n) (d || e)) → Hears a c R
hears_on m d a b c Q R first h on = record {
  more = m ++ h.more;
  found_end = d || h.found_end;
  heard = heard_on m h.more d h.found_end a b c first h.heard;
  comes = on h.more h.found_end h.comes;
}

pub hears_as : (a b : Option Talk) (Q R : List ℕ → Bool → Type 0) → Hears a b Q → ((n : List ℕ) (e : Bool) → Q n e → R n e) → Hears a b R
hears_as a b Q R h as_that = record { more = h.more; found_end = h.found_end; heard = h.heard; comes = as_that h.more h.found_end h.comes }

pub hears_nothing : (told : Option Talk) (Q : List ℕ → Bool → Type 0) → Q [] false → Hears told told Q
hears_nothing told Q q = record { more = []; found_end = false; heard = nothing_heard told; comes = q }

-- ---- what is left

pub not_filled : (stock : Stock) → IsFilled stock stock [] false
not_filled stock = record { left_is = sym (append-nil (left stock)); ended_is = or_nothing stock.ended; place_is = λ (h : place stock < 2 ^ 64). refl }

pub filled_on : (a b c : Stock) (m n : List ℕ) (d e : Bool) → IsFilled a b m d → IsFilled b c n e → IsFilled a c (m ++ n) (d || e)
filled_on a b c m n d e h k = record {
  left_is = k.left_is ∙ ap (λ (l : List ℕ). l ++ n) h.left_is ∙ append_assoc (left a) m n;
  ended_is = k.ended_is ∙ ap (λ (v : Bool). v || e) h.ended_is ∙ or_assoc a.ended d e;
  place_is = λ (small : place a < 2 ^ 64).
      let same : place b ≡ place a = h.place_is small in
      k.place_is (subst (λ (p : ℕ). p < 2 ^ 64) (sym same) small) ∙ same;
}

-- ---- what a refusal says

pub rose_from : (f g h : ℕ) → f ≤ g → g ≤ h → Rose g h → Rose f h
rose_from f g h low high (inl less) = inl (omega arith)
rose_from f g h low high (inr full) = at (cases_lt f h)
  where
    at : (f < h) ⊎ (h ≤ f) → Rose f h
    at (inl less) = inl less
    at (inr more) = inr (omega arith)

-- what one reading refuses, another behind it refuses too, where the causes are those of the other
pub refuses : {A B : Type 0} (good : A → Type 0) (other : B → Type 0) (bad worse : WireEnd → Type 0) (f g h : ℕ) (end : ResponseEnd)
    → f ≤ g → g ≤ h → ComesTo good bad g h (Err end) → ((cause : WireEnd) → bad cause → worse cause) → ComesTo other worse f h (Err end)
refuses good other bad worse f g h ResponseEnd.Memory low high c as_that = tt
refuses good other bad worse f g h (ResponseEnd.Wire WireEnd.Fault) low high c as_that = rose_from f g h low high c
refuses good other bad worse f g h (ResponseEnd.Wire WireEnd.BadBody) low high c as_that = c
refuses good other bad worse f g h (ResponseEnd.Wire WireEnd.Ended) low high c as_that = as_that WireEnd.Ended c
refuses good other bad worse f g h (ResponseEnd.Wire (WireEnd.Malformed at)) low high c as_that = as_that (WireEnd.Malformed at) c
refuses good other bad worse f g h (ResponseEnd.Wire WireEnd.Encoded) low high c as_that = as_that WireEnd.Encoded c
refuses good other bad worse f g h (ResponseEnd.Wire WireEnd.TooLarge) low high c as_that = as_that WireEnd.TooLarge c

-- ---- one piece

pub fills_nothing : (old new : Stock) (told : Option Talk) (f : ℕ) → Hears told told (FillsBy old new f f (Err ResponseEnd.Memory))
fills_nothing old new told f = hears_nothing told (FillsBy old new f f (Err ResponseEnd.Memory)) tt

pub fills_lost : (old new : Stock) (room : List ℕ) (n : ℕ) (told_old told_new : Option Talk) (f g : ℕ) → (n == 0) ≡ false
    → ToldBy (after_read room (PipeAnswer.Got n)) told_old told_new → Hears told_old told_new (FillsBy old new f g (Err ResponseEnd.Memory))
fills_lost old new room n told_old told_new f g plain h =
    record { more = take n room; found_end = false; heard = piece_heard room n told_old told_new plain h; comes = tt }

pub fills_failed : (old new : Stock) (room : List ℕ) (told_old told_new : Option Talk) (f g : ℕ) → Rose f g
    → ToldBy (after_read room PipeAnswer.Failed) told_old told_new → Hears told_old told_new (FillsBy old new f g (Err (ResponseEnd.Wire WireEnd.Fault)))
fills_failed old new room told_old told_new f g rose h =
    record { more = []; found_end = false; heard = failure_heard room told_old told_new h; comes = rose }

-- where more has to come
pub reads_on_by : (old new : Stock) (f g : ℕ) (r : Result Unit ResponseEnd) → old.ended ≡ false → (more : List ℕ) (found_end : Bool)
    → FillsBy old new f g r more found_end → ReadsOnBy old new f g r more found_end
reads_on_by old new f g (Ok done) plain more found_end h = (h.0, plain, h.1)
reads_on_by old new f g (Err ResponseEnd.Memory) plain more found_end h = tt
reads_on_by old new f g (Err (ResponseEnd.Wire WireEnd.Fault)) plain more found_end h = h
reads_on_by old new f g (Err (ResponseEnd.Wire WireEnd.BadBody)) plain more found_end h = h
reads_on_by old new f g (Err (ResponseEnd.Wire WireEnd.Ended)) plain more found_end h = absurd h
reads_on_by old new f g (Err (ResponseEnd.Wire (WireEnd.Malformed at))) plain more found_end h = absurd h
reads_on_by old new f g (Err (ResponseEnd.Wire WireEnd.Encoded)) plain more found_end h = absurd h
reads_on_by old new f g (Err (ResponseEnd.Wire WireEnd.TooLarge)) plain more found_end h = absurd h

pub positive : (n : ℕ) → (n == 0) ≡ false → 0 < n
positive zero h = absurd (true≢false h)
positive (suc n) h = omega arith

pub filled_left : (used : ℕ) (bytes new_bytes front old_left piece : List ℕ) → used ≡ 0 → new_bytes ≡ bytes ++ front → front ≡ piece
    → drop used bytes ≡ old_left → drop used new_bytes ≡ old_left ++ piece
filled_left used bytes new_bytes front old_left piece none grown same was =
    ap (λ (n : ℕ). drop n new_bytes) none ∙ grown
    ∙ ap (λ (b : List ℕ). b ++ front) (sym (ap (λ (n : ℕ). drop n bytes) none) ∙ was)
    ∙ ap (λ (p : List ℕ). old_left ++ p) same

-- ---- bytes that are ready

-- some are left, or none will come
over_or_some : (n : ℕ) (ended : Bool) → ((n == 0) && not ended) ≡ false → n ≡ 0 → ended ≡ true
over_or_some n true h none = refl
over_or_some n false h none = absurd (true≢false (sym (ap (λ (m : ℕ). (m == 0) && not false) none) ∙ h))

pub readies_here : (stock : Stock) (told : Option Talk) (f n : ℕ) → n ≡ length (left stock) → ((length (left stock) == 0) && not stock.ended) ≡ false
    → Hears told told (ReadiesBy stock stock f f (Ok n))
readies_here stock told f n e wet =
    hears_nothing told (ReadiesBy stock stock f f (Ok n)) (not_filled stock, e, λ (none : n ≡ 0). over_or_some (length (left stock)) stock.ended wet (sym e ∙ none))

pub readies_filled : (old new : Stock) (a b : Option Talk) (f g n : ℕ) → n ≡ length (left new) → Hears a b (FillsBy old new f g (Ok tt)) → Hears a b (ReadiesBy old new f g (Ok n))
readies_filled old new a b f g n e h =
    hears_as a b (FillsBy old new f g (Ok tt)) (ReadiesBy old new f g (Ok n)) h
    (λ (more : List ℕ) (found_end : Bool) (r : FillsBy old new f g (Ok tt) more found_end).
    (r.0, e, λ (none : n ≡ 0). over more found_end r.0 r.1 (sym e ∙ none)))
  where
    over : (more : List ℕ) (found_end : Bool) → IsFilled old new more found_end → (found_end ≡ false → 0 < length more) → length (left new) ≡ 0 → new.ended ≡ true
    over more true filled some none = filled.ended_is ∙ sym (or_true old.ended)
    over more false filled some none =
        let l : length (left new) ≡ length (left old) + length more = ap length filled.left_is ∙ length-append (left old) more in
        let s : 0 < length more = some refl in
        absurd (omega (arith, l, s, none))

pub readies_not : (old new : Stock) (a b : Option Talk) (f g : ℕ) (end : ResponseEnd) → f ≤ g → Hears a b (FillsBy old new f g (Err end)) → Hears a b (ReadiesBy old new f g (Err end))
readies_not old new a b f g end le h =
    hears_as a b (FillsBy old new f g (Err end)) (ReadiesBy old new f g (Err end)) h
    (λ (more : List ℕ) (found_end : Bool) (r : FillsBy old new f g (Err end) more found_end).
    refuses (λ (done : Unit {0}). IsFilled old new more found_end × (found_end ≡ false → 0 < length more))
    (λ (count : ℕ). IsFilled old new more found_end × (count ≡ length (left new)) × (count ≡ 0 → IsTrue new.ended)) (λ (cause : WireEnd). ⊥) (λ (cause : WireEnd). ⊥)
    f f g end (omega arith) le r (λ (cause : WireEnd) (never : ⊥). never))
