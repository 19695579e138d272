-- The statuses that are written: three digits, a reason phrase, and a body only where one may be.
use Rattle.std.proofs.Common.{◌≡◌, ◌<◌, ◌≤◌, ◌⊎◌, inl, inr, ℕ, Bool, true, false, ◌||◌, ◌==◌, List, [], ◌∷◌, length, refl, sym, ap, subst, arith, decimal, Option, Some, None, codes, true≢false}
use Rattle.std.proofs.lemmas.Bool.{eqb-true}
use Rattle.std.proofs.lemmas.List.Sums.{AllPass-from_list_all}
use Rattle.std.specs.Char.{is_ascii_digit}
use Rattle.std.specs.Fmt.{digits}
use Rattle.std.specs.Prelude.{IsTrue}
use Rattle.std.specs.Str.Parse.{digits_value}
use Rattle.httparse.specs.Grammar.{AllPass, is_value_byte}
use Rattle.engine_types.specs.declared.Reply.{Reply}
use Rattle.engine_types.specs.declared.Request.{Request}
use Rattle.response_rules.specs.Heads.{has_no_body, is_interim}
use Rattle.engine_replies.specs.Replies.{CanBeWritten, body_of, is_refusing, may_have, reason_of, status_of}

-- a status that is written with such a body
pub record IsStatus (status : ℕ) (body : Option (List ℕ)) : Type 0 where
  pub three : length (decimal status) ≡ 3
  pub digits_are : AllPass is_ascii_digit (decimal status)
  pub value : digits_value 10 (decimal status) ≡ status
  pub reason : AllPass is_value_byte (reason_of status)
  pub short : length (reason_of status) ≤ 20
  pub final : is_interim status ≡ false
  pub bodied : (has_no_body status ≡ false) ⊎ ((has_no_body status ≡ true) × (body ≡ None))

at_200 : (body : Option (List ℕ)) → IsStatus 200 body
unfolding digits
at_200 body = record {
  three = refl;
  digits_are = AllPass-from_list_all is_ascii_digit (decimal 200) refl;
  value = refl;
  reason = AllPass-from_list_all is_value_byte (codes "OK") refl;
  short = omega arith;
  final = refl;
  bodied = inl refl;
}

at_201 : (body : Option (List ℕ)) → IsStatus 201 body
unfolding digits
at_201 body = record {
  three = refl;
  digits_are = AllPass-from_list_all is_ascii_digit (decimal 201) refl;
  value = refl;
  reason = AllPass-from_list_all is_value_byte (codes "Created") refl;
  short = omega arith;
  final = refl;
  bodied = inl refl;
}

at_204 : IsStatus 204 None
unfolding digits
at_204 = record {
  three = refl;
  digits_are = AllPass-from_list_all is_ascii_digit (decimal 204) refl;
  value = refl;
  reason = AllPass-from_list_all is_value_byte (codes "No Content") refl;
  short = omega arith;
  final = refl;
  bodied = inr (refl, refl);
}

at_304 : IsStatus 304 None
unfolding digits
at_304 = record {
  three = refl;
  digits_are = AllPass-from_list_all is_ascii_digit (decimal 304) refl;
  value = refl;
  reason = AllPass-from_list_all is_value_byte (codes "Not Modified") refl;
  short = omega arith;
  final = refl;
  bodied = inr (refl, refl);
}

at_400 : (body : Option (List ℕ)) → IsStatus 400 body
unfolding digits
at_400 body = record {
  three = refl;
  digits_are = AllPass-from_list_all is_ascii_digit (decimal 400) refl;
  value = refl;
  reason = AllPass-from_list_all is_value_byte (codes "Bad Request") refl;
  short = omega arith;
  final = refl;
  bodied = inl refl;
}

at_403 : (body : Option (List ℕ)) → IsStatus 403 body
unfolding digits
at_403 body = record {
  three = refl;
  digits_are = AllPass-from_list_all is_ascii_digit (decimal 403) refl;
  value = refl;
  reason = AllPass-from_list_all is_value_byte (codes "Forbidden") refl;
  short = omega arith;
  final = refl;
  bodied = inl refl;
}

at_404 : (body : Option (List ℕ)) → IsStatus 404 body
unfolding digits
at_404 body = record {
  three = refl;
  digits_are = AllPass-from_list_all is_ascii_digit (decimal 404) refl;
  value = refl;
  reason = AllPass-from_list_all is_value_byte (codes "Not Found") refl;
  short = omega arith;
  final = refl;
  bodied = inl refl;
}

at_409 : (body : Option (List ℕ)) → IsStatus 409 body
unfolding digits
at_409 body = record {
  three = refl;
  digits_are = AllPass-from_list_all is_ascii_digit (decimal 409) refl;
  value = refl;
  reason = AllPass-from_list_all is_value_byte (codes "Conflict") refl;
  short = omega arith;
  final = refl;
  bodied = inl refl;
}

-- a refusal's status is one of four
pub refusing : (P : ℕ → Type 0) → P 400 → P 403 → P 404 → P 409 → (status : ℕ) → is_refusing status ≡ true → P status
refusing P a b c d status e = first (status == 400) refl e
  where
    last : (v : Bool) → (status == 409) ≡ v → v ≡ true → P status
    last true is h = subst P (sym (eqb-true status 409 is)) d
    last false is h = absurd (true≢false (sym h))

    third : (v : Bool) → (status == 404) ≡ v → (v || status == 409) ≡ true → P status
    third true is h = subst P (sym (eqb-true status 404 is)) c
    third false is h = last (status == 409) refl h

    second : (v : Bool) → (status == 403) ≡ v → (v || (status == 404 || status == 409)) ≡ true → P status
    second true is h = subst P (sym (eqb-true status 403 is)) b
    second false is h = third (status == 404) refl h

    first : (v : Bool) → (status == 400) ≡ v → (v || (status == 403 || (status == 404 || status == 409))) ≡ true → P status
    first true is h = subst P (sym (eqb-true status 400 is)) a
    first false is h = second (status == 403) refl h

-- a request's own replies
good_is : (request : Request) (reply : Reply) → may_have request reply ≡ true → IsStatus (status_of (Some request) reply) (body_of reply)
good_is (Request.ListContainers project) (Reply.Containers rows) h = at_200 (body_of (Reply.Containers rows))
good_is (Request.Inspect id) (Reply.State report) h = at_200 (body_of (Reply.State report))
good_is (Request.Logs id) (Reply.Bytes bytes) h = at_200 (Some bytes)
good_is (Request.Create name spec) (Reply.Made id) h = at_201 (body_of (Reply.Made id))
good_is (Request.Start id) Reply.Done h = at_204
good_is (Request.Start id) Reply.Already h = at_304
good_is (Request.Stop id seconds) Reply.Done h = at_204
good_is (Request.Stop id seconds) Reply.Already h = at_304
good_is (Request.Remove id) Reply.Done h = at_204
good_is Request.ListNetworks (Reply.Networks rows) h = at_200 (body_of (Reply.Networks rows))
good_is (Request.MakeNetwork spec) (Reply.Made id) h = at_201 (body_of (Reply.Made id))
good_is (Request.Connect network container aliases) Reply.Done h = at_200 None
good_is (Request.RemoveNetwork id) Reply.Done h = at_204
good_is Request.ListVolumes (Reply.Volumes names) h = at_200 (body_of (Reply.Volumes names))
good_is (Request.MakeVolume spec) Reply.Done h = at_201 None
good_is (Request.RemoveVolume name) Reply.Done h = at_204
good_is (Request.Image name) (Reply.ImageId id) h = at_200 (body_of (Reply.ImageId id))
good_is (Request.Pull name) Reply.Pulled h = at_200 None
good_is (Request.Pull name) (Reply.PullFailed message) h = at_200 (body_of (Reply.PullFailed message))
good_is request reply h = absurd (true≢false (sym h))

refused_is : (status : ℕ) (message : List ℕ) → is_refusing status ≡ true → IsStatus status (body_of (Reply.Refused status message))
refused_is status message h =
    refusing (λ (s : ℕ). IsStatus s (body_of (Reply.Refused status message)))
    (at_400 (body_of (Reply.Refused status message))) (at_403 (body_of (Reply.Refused status message)))
    (at_404 (body_of (Reply.Refused status message))) (at_409 (body_of (Reply.Refused status message))) status h

-- and so is each reply that is written
pub status_is : (request : Option Request) (reply : Reply) → CanBeWritten request reply → IsStatus (status_of request reply) (body_of reply)
status_is request (Reply.Refused status message) h = refused_is status message h
status_is None (Reply.Containers rows) h = absurd h
status_is None (Reply.State report) h = absurd h
status_is None (Reply.Bytes bytes) h = absurd h
status_is None (Reply.Made id) h = absurd h
status_is None Reply.Done h = absurd h
status_is None Reply.Already h = absurd h
status_is None (Reply.Networks rows) h = absurd h
status_is None (Reply.Volumes names) h = absurd h
status_is None (Reply.ImageId id) h = absurd h
status_is None Reply.Pulled h = absurd h
status_is None (Reply.PullFailed message) h = absurd h
status_is (Some request) (Reply.Containers rows) h = good_is request (Reply.Containers rows) h
status_is (Some request) (Reply.State report) h = good_is request (Reply.State report) h
status_is (Some request) (Reply.Bytes bytes) h = good_is request (Reply.Bytes bytes) h
status_is (Some request) (Reply.Made id) h = good_is request (Reply.Made id) h
status_is (Some request) Reply.Done h = good_is request Reply.Done h
status_is (Some request) Reply.Already h = good_is request Reply.Already h
status_is (Some request) (Reply.Networks rows) h = good_is request (Reply.Networks rows) h
status_is (Some request) (Reply.Volumes names) h = good_is request (Reply.Volumes names) h
status_is (Some request) (Reply.ImageId id) h = good_is request (Reply.ImageId id) h
status_is (Some request) Reply.Pulled h = good_is request Reply.Pulled h
status_is (Some request) (Reply.PullFailed message) h = good_is request (Reply.PullFailed message) h
