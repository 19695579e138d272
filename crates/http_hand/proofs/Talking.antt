-- What is said on one connection: the request is written, and then the response is read.
use Rattle.std.proofs.Common.{◌≡◌, ◌⊎◌, ℕ, ◌+◌, ◌<◌, ◌≤◌, ◌||◌, Bool, true, false, List, [], ◌++◌, length, take, Option, Some, None, refl, sym, ap, ◌∙◌, subst, inl, inr, arith}
use Rattle.std.specs.Prelude.{Err, Ok}
use Rattle.std.proofs.lemmas.Bool.{cases_lt}
use Rattle.std.proofs.Math.Seq.{take-length}
use Rattle.std.proofs.lemmas.List.{append-nil}
use Rattle.engine_types.specs.declared.Outcome.{Outcome}
use Rattle.engine_types.specs.declared.Request.{Request}
use Rattle.engine_types.specs.declared.WireEnd.{WireEnd}
use Rattle.outside_files.specs.Counts.{Rose}
use Rattle.outside_api.specs.Pipes.{Talk, ToldBy, after_write}
use Rattle.response_rules.specs.Responses.{IsResponse}
use Rattle.http_response.specs.Hearing.{Heard}
use Rattle.http_response.specs.Reading.{EndsBy, Reads}
use Rattle.http_response.specs.declared.response.Response.{Response}
use Rattle.http_response.specs.declared.response.ResponseEnd.{ResponseEnd}
use Rattle.http_hand.specs.Speaking.{AnswersBy, AnswersOn, IsOutcomeOf, SaysOf, SpeaksOn, WritesBy, after_both}

-- ---- a count that rose, and a reading of nothing

pub rose_from : (f g h : ℕ) → f ≤ g → g ≤ h → Rose g h → Rose f h
rose_from f g h low high (inl less) = inl (omega (arith, low, less))
rose_from f g h low high (inr full) = at (cases_lt f h)
  where
    at : (f < h) ⊎ (h ≤ f) → Rose f h
    at (inl less) = inl less
    at (inr back) = inr (omega (arith, full, high, back))

or_nothing : (b : Bool) → b ≡ (b || false)
or_nothing true = refl
or_nothing false = refl

nothing_heard : (told : Option Talk) → Heard [] false told told
nothing_heard None = refl
nothing_heard (Some talk) =
    ap (λ (r : List ℕ). Some (record talk { read = r })) (sym (append-nil talk.read))
    ∙ ap (λ (b : Bool). Some (record talk { read = talk.read ++ []; ended = b })) (or_nothing talk.ended)

-- ---- the response that is read

answers_well : (request : Request) (read : List ℕ) (ended : Bool) (status : ℕ) (body : List ℕ) (f g : ℕ) (outcome : Outcome)
    → IsResponse read ended status body → IsOutcomeOf request status body outcome → AnswersBy request read ended f g outcome
answers_well request read ended status body f g (Outcome.Answered reply) r o = record { status = status; body = body; response = r; few = o.0; gives = o.1 }
answers_well request read ended status body f g (Outcome.Lost WireEnd.TooLarge) r o = inr (record { status = status; body = body; response = r; many = o })
answers_well request read ended status body f g (Outcome.Lost WireEnd.BadBody) r o = record { status = status; body = body; response = r; few = o.0; bad = o.1 }
answers_well request read ended status body f g (Outcome.Lost WireEnd.Fault) r o = absurd o
answers_well request read ended status body f g (Outcome.Lost WireEnd.Ended) r o = absurd o
answers_well request read ended status body f g (Outcome.Lost (WireEnd.Malformed at)) r o = absurd o
answers_well request read ended status body f g (Outcome.Lost WireEnd.Encoded) r o = absurd o
answers_well request read ended status body f g Outcome.NotSent r o = o
answers_well request read ended status body f g Outcome.Memory r o = tt

answers_ill : (request : Request) (read : List ℕ) (ended : Bool) (f g : ℕ) (cause : WireEnd) → EndsBy read ended f g cause
    → AnswersBy request read ended f g (Outcome.Lost cause)
answers_ill request read ended f g WireEnd.Fault e = e
answers_ill request read ended f g WireEnd.BadBody e = absurd e
answers_ill request read ended f g WireEnd.Ended e = e
answers_ill request read ended f g (WireEnd.Malformed at) e = e
answers_ill request read ended f g WireEnd.Encoded e = e
answers_ill request read ended f g WireEnd.TooLarge e = inl e

pub answered_on : (request : Request) (old new : Option Talk) (f g : ℕ) (response : Response) (outcome : Outcome) → Reads old new f g (Ok response)
    → IsOutcomeOf request response.status response.body outcome → AnswersOn request old new f g outcome
answered_on request old new f g response outcome r o = record {
  read = r.read;
  ended = r.ended;
  heard = r.heard;
  answers = answers_well request r.read r.ended response.status response.body f g outcome r.answers o;
}

pub lost_on : (request : Request) (old new : Option Talk) (f g : ℕ) (cause : WireEnd) → Reads old new f g (Err (ResponseEnd.Wire cause))
    → AnswersOn request old new f g (Outcome.Lost cause)
lost_on request old new f g cause r = record {
  read = r.read;
  ended = r.ended;
  heard = r.heard;
  answers = answers_ill request r.read r.ended f g cause r.answers;
}

pub wanted_on : (request : Request) (old new : Option Talk) (f g : ℕ) → Reads old new f g (Err ResponseEnd.Memory)
    → AnswersOn request old new f g Outcome.Memory
wanted_on request old new f g r = record { read = r.read; ended = r.ended; heard = r.heard; answers = tt }

-- ---- counts of faults

pub says_from : (request : Request) (read : List ℕ) (ended : Bool) (f g h : ℕ) (outcome : Outcome) → f ≤ g → g ≤ h
    → SaysOf request read ended g h outcome → SaysOf request read ended f h outcome
says_from request read ended f g h (Outcome.Answered reply) low high s = s
says_from request read ended f g h (Outcome.Lost WireEnd.Fault) low high s = rose_from f g h low high s
says_from request read ended f g h (Outcome.Lost WireEnd.BadBody) low high s = s
says_from request read ended f g h (Outcome.Lost WireEnd.Ended) low high s = s
says_from request read ended f g h (Outcome.Lost (WireEnd.Malformed at)) low high s = s
says_from request read ended f g h (Outcome.Lost WireEnd.Encoded) low high s = s
says_from request read ended f g h (Outcome.Lost WireEnd.TooLarge) low high s = s
says_from request read ended f g h Outcome.NotSent low high s = rose_from f g h low high s
says_from request read ended f g h Outcome.Memory low high s = s

says_answer : (request : Request) (read : List ℕ) (ended : Bool) (f g : ℕ) (outcome : Outcome) → AnswersBy request read ended f g outcome
    → SaysOf request read ended f g outcome
says_answer request read ended f g (Outcome.Answered reply) a = a
says_answer request read ended f g (Outcome.Lost cause) a = a
says_answer request read ended f g Outcome.NotSent a = absurd a
says_answer request read ended f g Outcome.Memory a = a

-- ---- what is written

writes_whole : (request : Request) (read : List ℕ) (ended : Bool) (f g : ℕ) (bytes : List ℕ) (n : ℕ) (outcome : Outcome)
    → n ≤ length bytes → take n bytes ≡ bytes → AnswersBy request read ended f g outcome → WritesBy bytes outcome (take n bytes)
writes_whole request read ended f g bytes n (Outcome.Answered reply) le e a = e
writes_whole request read ended f g bytes n (Outcome.Lost WireEnd.Fault) le e a = (n, le, refl)
writes_whole request read ended f g bytes n (Outcome.Lost WireEnd.BadBody) le e a = e
writes_whole request read ended f g bytes n (Outcome.Lost WireEnd.Ended) le e a = e
writes_whole request read ended f g bytes n (Outcome.Lost (WireEnd.Malformed at)) le e a = e
writes_whole request read ended f g bytes n (Outcome.Lost WireEnd.Encoded) le e a = e
writes_whole request read ended f g bytes n (Outcome.Lost WireEnd.TooLarge) le e a = e
writes_whole request read ended f g bytes n Outcome.NotSent le e a = absurd a
writes_whole request read ended f g bytes n Outcome.Memory le e a = (n, le, refl)

told_both : (written read : List ℕ) (ended : Bool) (a b c : Option Talk) → ToldBy (after_write written) a b → Heard read ended b c
    → ToldBy (after_both written read ended) a c
told_both written read ended None b c w h = let on : Heard read ended None c = subst (λ (t : Option Talk). Heard read ended t c) w h in on
told_both written read ended (Some talk) b c w h =
    let on : Heard read ended (Some (after_write written talk)) c = subst (λ (t : Option Talk). Heard read ended t c) w h in on

pub spoke_whole : (request : Request) (bytes : List ℕ) (outcome : Outcome) (a b c : Option Talk) (f g h n : ℕ) → n ≡ length bytes → f ≤ g → g ≤ h
    → ToldBy (after_write (take n bytes)) a b → AnswersOn request b c g h outcome → SpeaksOn request bytes outcome a c f h
spoke_whole request bytes outcome a b c f g h n e low high told r = record {
  written = take n bytes;
  read = r.read;
  ended = r.ended;
  told = told_both (take n bytes) r.read r.ended a b c told r.heard;
  writes = writes_whole request r.read r.ended g h bytes n outcome (omega (arith, e)) (ap (λ (k : ℕ). take k bytes) e ∙ take-length bytes) r.answers;
  says = says_from request r.read r.ended f g h outcome low high (says_answer request r.read r.ended g h outcome r.answers);
}

pub spoke_part : (request : Request) (bytes : List ℕ) (a b : Option Talk) (f g n : ℕ) → n ≤ length bytes → Rose f g
    → ToldBy (after_write (take n bytes)) a b → SpeaksOn request bytes (Outcome.Lost WireEnd.Fault) a b f g
spoke_part request bytes a b f g n le rose told = record {
  written = take n bytes;
  read = [];
  ended = false;
  told = told_both (take n bytes) [] false a b b told (nothing_heard b);
  writes = (n, le, refl);
  says = rose;
}

pub spoke_nothing : (request : Request) (bytes : List ℕ) (a b : Option Talk) (f g n : ℕ) → n ≡ 0 → Rose f g
    → ToldBy (after_write (take n bytes)) a b → SpeaksOn request bytes Outcome.NotSent a b f g
spoke_nothing request bytes a b f g n e rose told = record {
  written = take n bytes;
  read = [];
  ended = false;
  told = told_both (take n bytes) [] false a b b told (nothing_heard b);
  writes = ap (λ (k : ℕ). take k bytes) e;
  says = rose;
}
