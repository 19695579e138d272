-- What was given of a body stays within its limit.
use Rattle.std.proofs.Common.{◌≡◌, ℕ, ◌+◌, ◌≤◌, Bool, true, false, nat_lt, if◌then◌else◌, List, length, take, Option, Some, None, refl, ap, subst, inl, inr, arith}
use Rattle.std.proofs.lemmas.Bool.{ltb-false}
use Rattle.std.proofs.lemmas.List.{length-append, length-take-le}
use Rattle.std.specs.Prelude.{IsSomeAnd}
use Rattle.engine_types.specs.declared.WireEnd.{WireEnd}
use Rattle.response_rules.specs.Chunks.{body_of}
use Rattle.response_rules.specs.Heads.{Framing, chunked, fault_within, framing_of, is_encoded, sized, to_end}
use Rattle.response_rules.specs.Responses.{HasBodyWithin, HasBodyOfWithin, IsResponseWithin}
use Rattle.http_response.specs.Bodies.{IsGiven, IsOpenWithin, is_done}
use Rattle.http_response.specs.Stocks.{left}
use Rattle.http_response.specs.declared.OpenBody.{OpenBody}
use Rattle.http_response.specs.declared.body.Rest.{Rest}

-- ---- a length without fault

no_fault : (v : Bool) → (if v then Some WireEnd.TooLarge else None) ≡ None → v ≡ false
no_fault true e = absurd (cc e)
no_fault false e = refl

length_within : (limit n : ℕ) (encoded : Bool) → fault_within limit 0 (Some (sized n)) encoded ≡ None → n ≤ limit
length_within limit n true e = absurd (cc e)
length_within limit n false e = ltb-false limit n (no_fault (nat_lt limit n) e)

sized_within : (limit n : ℕ) (framing : Option Framing) (encoded : Bool) → framing ≡ Some (sized n) → fault_within limit 0 framing encoded ≡ None → n ≤ limit
sized_within limit n framing encoded e sound = length_within limit n encoded (subst (λ (f : Option Framing). fault_within limit 0 f encoded ≡ None) e sound)

-- ---- a whole body

whole_by : (limit : ℕ) (framing : Option Framing) (encoded : Bool) (bytes body : List ℕ) (ended : Bool) → fault_within limit 0 framing encoded ≡ None
    → IsSomeAnd framing (λ f. HasBodyWithin limit f bytes ended body) → length body ≤ limit
whole_by limit None encoded bytes body ended sound h = absurd h
whole_by limit (Some to_end) encoded bytes body ended sound h = let e = ap length h.2 in let w = h.1 in omega (arith, e, w)
whole_by limit (Some (sized n)) encoded bytes body ended sound h =
    let e = ap length h.1 in
    let l : length (take n bytes) ≡ n = length-take-le n bytes h.0 in
    let w : n ≤ limit = length_within limit n encoded sound in
    omega (arith, e, l, w)
whole_by limit (Some chunked) encoded bytes body ended sound h = let e = ap length h.made_of in let w = h.are_chunks.within in omega (arith, e, w)

body_by : (limit status : ℕ) (framing : Option Framing) (encoded : Bool) (bytes body : List ℕ) (ended : Bool) → fault_within limit 0 framing encoded ≡ None
    → HasBodyOfWithin limit status framing bytes ended body → length body ≤ limit
body_by limit status framing encoded bytes body ended sound (inl h) = let e = ap length h.1 in omega (arith, e)
body_by limit status framing encoded bytes body ended sound (inr h) = whole_by limit framing encoded bytes body ended sound h.1

body_within : (limit : ℕ) (read : List ℕ) (ended : Bool) (status : ℕ) (body : List ℕ) → IsResponseWithin limit read ended status body → length body ≤ limit
body_within limit read ended status body r = body_by limit status (framing_of r.head.fields) (is_encoded r.head.fields) r.rest body ended r.sound r.has_body

-- ---- what was given

given_by : (limit : ℕ) (rest : Rest) (framing : Option Framing) (encoded : Bool) (at : ℕ) (bytes given behind read : List ℕ) (ended : Bool) (status : ℕ) → fault_within limit 0 framing encoded ≡ None
    → IsGiven limit rest framing at bytes given behind → (is_done rest ≡ true → IsResponseWithin limit read ended status given) → length given ≤ limit
given_by limit Rest.Nothing framing encoded at bytes given behind read ended status sound g whole = body_within limit read ended status given (whole refl)
given_by limit (Rest.Sized more) framing encoded at bytes given behind read ended status sound g whole =
    let w = sized_within limit (length given + more) framing encoded g.0 sound in omega (arith, w)
given_by limit (Rest.ToEnd room) framing encoded at bytes given behind read ended status sound g whole = let w = g.2 in omega (arith, w)
given_by limit (Rest.Chunks room lines) framing encoded at bytes given behind read ended status sound g whole = let w = g.1 in omega (arith, w)
given_by limit (Rest.Chunk more place room lines) framing encoded at bytes given behind read ended status sound g whole =
    let e = ap length g.1.given_is in
    let l = length-append (body_of g.1.chunks) g.1.part in
    let s = g.1.size in
    let w = g.1.room_is in
    omega (arith, e, l, s, w)

pub given_within : (limit : ℕ) (open_body : OpenBody) (read : List ℕ) (ended : Bool) (given : List ℕ) → IsOpenWithin limit open_body read ended given → length given ≤ limit
given_within limit open_body read ended given o =
    given_by limit open_body.rest (framing_of o.head.fields) (is_encoded o.head.fields) _ o.rest given (left open_body.stock) read ended open_body.status o.sound o.so_far o.whole
