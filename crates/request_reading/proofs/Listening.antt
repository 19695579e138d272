-- What is heard by one reading of a connection, and by one reading behind another.
use Rattle.std.proofs.Common.{◌≡◌, ◌⊎◌, ℕ, ◌<◌, ◌≤◌, ◌==◌, ◌||◌, Bool, true, false, List, [], ◌++◌, length, take, zero, suc, Option, Some, None, refl, sym, ap, ◌∙◌, subst, inl, inr, append_assoc, arith, true≢false}
use Rattle.std.proofs.lemmas.Bool.{cases_lt}
use Rattle.std.proofs.lemmas.List.{append-nil}
use Rattle.std.specs.Prelude.{Err, Result}
use Rattle.outside_files.specs.Counts.{Rose}
use Rattle.outside_api.specs.Pipes.{Talk, ToldBy, after_read}
use Rattle.outside_api.specs.declared.pipe.PipeAnswer.{PipeAnswer}
use Rattle.engine_types.specs.declared.WireEnd.{WireEnd}
use Rattle.request_reading.specs.Hearing.{ComesTo, Heard, Hears}
use Rattle.request_reading.specs.Stocks.{IsFilled}
use Rattle.request_reading.specs.declared.received.RequestEnd.{RequestEnd}
use Rattle.request_reading.specs.declared.stock.Stock.{Stock}

pub or_nothing : (b : Bool) → b ≡ (b || false)
or_nothing true = refl
or_nothing false = refl

pub or_true : (b : Bool) → true ≡ (b || true)
or_true true = refl
or_true false = refl

pub or_assoc : (a b c : Bool) → ((a || b) || c) ≡ (a || (b || c))
or_assoc true b c = refl
or_assoc false b c = refl

-- ---- what is heard

pub nothing_heard : (told : Option Talk) → Heard [] false told told
nothing_heard None = refl
nothing_heard (Some talk) =
    ap (λ (r : List ℕ). Some (record talk { read = r })) (sym (append-nil talk.read))
    ∙ ap (λ (b : Bool). Some (record talk { read = talk.read ++ []; ended = b })) (or_nothing talk.ended)

pub piece_heard : (room : List ℕ) (n : ℕ) (old new : Option Talk) → (n == 0) ≡ false
    → ToldBy (after_read room (PipeAnswer.Got n)) old new → Heard (take n room) false old new
piece_heard room n None new plain h = h
piece_heard room n (Some talk) new plain h =
    h ∙ ap (λ (b : Bool). Some (record talk { read = talk.read ++ take n room; ended = talk.ended || b })) plain

pub end_heard : (room : List ℕ) (old new : Option Talk) → ToldBy (after_read room (PipeAnswer.Got 0)) old new → Heard [] true old new
end_heard room None new h = h
end_heard room (Some talk) new h = h

pub failure_heard : (room : List ℕ) (old new : Option Talk) → ToldBy (after_read room PipeAnswer.Failed) old new → Heard [] false old new
failure_heard room None new h = h
failure_heard room (Some talk) new h = h ∙ nothing_heard (Some talk)

pub heard_on : (m n : List ℕ) (d e : Bool) (a b c : Option Talk) → Heard m d a b → Heard n e b c → Heard (m ++ n) (d || e) a c
heard_on m n d e None b c h k = let on : Heard n e None c = subst (λ (t : Option Talk). Heard n e t c) h k in on
heard_on m n d e (Some talk) b c h k =
    let on : Heard n e (Some (record talk { read = talk.read ++ m; ended = talk.ended || d })) c = subst (λ (t : Option Talk). Heard n e t c) h k in
    on
    ∙ ap (λ (r : List ℕ). Some (record talk { read = r; ended = (talk.ended || d) || e })) (append_assoc talk.read m n)
    ∙ ap (λ (v : Bool). Some (record talk { read = talk.read ++ (m ++ n); ended = v })) (or_assoc talk.ended d e)

-- one reading behind another
pub hears_on : (m : List ℕ) (d : Bool) (a b c : Option Talk) (Q R : List ℕ → Bool → Type 0) → Heard m d a b → Hears b c Q
    → ((n : List ℕ) (e : Bool) → Q n e → R (m ++ n) (d || e)) → Hears a c R
hears_on m d a b c Q R first h on = record {
  more = m ++ h.more;
  found_end = d || h.found_end;
  heard = heard_on m h.more d h.found_end a b c first h.heard;
  comes = on h.more h.found_end h.comes;
}

pub hears_as : (a b : Option Talk) (Q R : List ℕ → Bool → Type 0) → Hears a b Q → ((n : List ℕ) (e : Bool) → Q n e → R n e) → Hears a b R
hears_as a b Q R h as_that = record { more = h.more; found_end = h.found_end; heard = h.heard; comes = as_that h.more h.found_end h.comes }

pub hears_nothing : (told : Option Talk) (Q : List ℕ → Bool → Type 0) → Q [] false → Hears told told Q
hears_nothing told Q q = record { more = []; found_end = false; heard = nothing_heard told; comes = q }

-- ---- what was read

pub not_filled : (stock : Stock) → IsFilled stock stock [] false
not_filled stock = record { bytes_are = sym (append-nil stock.bytes); ended_is = or_nothing stock.ended }

pub filled_on : (a b c : Stock) (m n : List ℕ) (d e : Bool) → IsFilled a b m d → IsFilled b c n e → IsFilled a c (m ++ n) (d || e)
filled_on a b c m n d e h k = record {
  bytes_are = k.bytes_are ∙ ap (λ (l : List ℕ). l ++ n) h.bytes_are ∙ append_assoc a.bytes m n;
  ended_is = k.ended_is ∙ ap (λ (v : Bool). v || e) h.ended_is ∙ or_assoc a.ended d e;
}

-- ---- what a refusal says

pub rose_from : (f g h : ℕ) → f ≤ g → g ≤ h → Rose g h → Rose f h
rose_from f g h low high (inl less) = inl (omega arith)
rose_from f g h low high (inr full) = at (cases_lt f h)
  where
    at : (f < h) ⊎ (h ≤ f) → Rose f h
    at (inl less) = inl less
    at (inr more) = inr (omega arith)

-- what one reading refuses, another behind it refuses too, where the causes are those of the other
pub refuses : {A B : Type 0} (good : A → Type 0) (other : B → Type 0) (bad worse : WireEnd → Type 0) (f g h : ℕ) (end : RequestEnd)
    → f ≤ g → g ≤ h → ComesTo good bad g h (Err end) → ((cause : WireEnd) → bad cause → worse cause) → ComesTo other worse f h (Err end)
refuses good other bad worse f g h RequestEnd.Memory low high c as_that = tt
refuses good other bad worse f g h (RequestEnd.Wire WireEnd.Fault) low high c as_that = rose_from f g h low high c
refuses good other bad worse f g h (RequestEnd.Wire WireEnd.BadBody) low high c as_that = c
refuses good other bad worse f g h (RequestEnd.Wire WireEnd.Encoded) low high c as_that = c
refuses good other bad worse f g h (RequestEnd.Wire WireEnd.Ended) low high c as_that = as_that WireEnd.Ended c
refuses good other bad worse f g h (RequestEnd.Wire (WireEnd.Malformed at)) low high c as_that = as_that (WireEnd.Malformed at) c
refuses good other bad worse f g h (RequestEnd.Wire WireEnd.TooLarge) low high c as_that = as_that WireEnd.TooLarge c

pub positive : (n : ℕ) → (n == 0) ≡ false → 0 < n
positive zero h = absurd (true≢false h)
positive (suc n) h = omega arith
