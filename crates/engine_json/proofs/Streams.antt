-- The stream of a pull, line by line.
use Rattle.std.proofs.Common.{◌≡◌, ◌∙◌, ◌+◌, ◌<◌, sym, ℕ, Bool, List, [], ◌∷◌, true, false, cond, not, filter, filter_map, map, drop, get_or, length, Option, Some, None, Bor, IfOk, Result, codes, refl, ap, subst}
use Rattle.std.specs.List.{cons_option}
use Rattle.std.specs.Option.{option_map}
use Rattle.std.proofs.lemmas.List.{drop_more}
use Rattle.engine_types.specs.declared.Reply.{Reply}
use Rattle.response_rules.specs.Json.{given, of_each, text_at}
use Rattle.response_rules.specs.Lines.{lines}
use Rattle.response_rules.specs.Replies.{is_blank, object_on, pull_in, pulled}
use Rattle.serde_json.specs.Data.{Data}
use Rattle.tree_base.specs.declared.Memory.{Memory}
use Rattle.engine_json.specs.Told.{failure_after, failure_behind, first_of, pulled_by}

abbrev error_of : Data → Option (List ℕ)
error_of d = text_at (codes "error") d

abbrev is_filled : List ℕ → Bool
is_filled line = not (is_blank line)

abbrev first_in : List (List ℕ) → Option (List ℕ)
first_in [] = None
first_in (message ∷ more) = Some message

none_later : (failed : Option (List ℕ)) → failed ≡ first_of failed None
none_later None = refl
none_later (Some message) = refl

one_later : (failed m : Option (List ℕ)) (ms : List (List ℕ)) → first_of (first_of failed m) (first_in ms) ≡ first_of failed (first_in (cons_option m ms))
one_later None None ms = refl
one_later None (Some m) ms = refl
one_later (Some message) m ms = refl

first_pulled : (ms : List (List ℕ)) → pulled_by (first_in ms) ≡ pulled ms
first_pulled [] = refl
first_pulled (m ∷ ms) = refl

-- what lines say behind a failure: the first message of their objects, unless one was known
behind : (failed : Option (List ℕ)) (ls : List (List ℕ)) → failure_behind failed ls ≡ option_map (λ objects. first_of failed (first_in (filter_map error_of objects))) (of_each object_on (filter is_filled ls))
behind failed [] = ap Some (none_later failed)
behind failed (l ∷ ls) = at_line (is_blank l) (λ known. behind known ls)
  where
    over : (d : Data) (rest : Option (List Data)) → option_map (λ objects. first_of (first_of failed (error_of d)) (first_in (filter_map error_of objects))) rest ≡ option_map (λ objects. first_of failed (first_in (filter_map error_of objects))) (option_map (λ ds. d ∷ ds) rest)
    over d None = refl
    over d (Some ds) = ap Some (one_later failed (error_of d) (filter_map error_of ds))

    on_object : (o : Option Data) → ((known : Option (List ℕ)) → failure_behind known ls ≡ option_map (λ objects. first_of known (first_in (filter_map error_of objects))) (of_each object_on (filter is_filled ls)))
        → given (option_map (λ d. first_of failed (error_of d)) o) (λ known. failure_behind known ls) ≡ option_map (λ objects. first_of failed (first_in (filter_map error_of objects))) (given o (λ d. option_map (λ ds. d ∷ ds) (of_each object_on (filter is_filled ls))))
    on_object None rest = refl
    on_object (Some d) rest = rest (first_of failed (error_of d)) ∙ over d (of_each object_on (filter is_filled ls))

    at_line : (blank : Bool) → ((known : Option (List ℕ)) → failure_behind known ls ≡ option_map (λ objects. first_of known (first_in (filter_map error_of objects))) (of_each object_on (filter is_filled ls)))
        → given (cond blank (Some failed) (option_map (λ d. first_of failed (error_of d)) (object_on l))) (λ known. failure_behind known ls) ≡ option_map (λ objects. first_of failed (first_in (filter_map error_of objects))) (of_each object_on (cond (not blank) (l ∷ filter is_filled ls) (filter is_filled ls)))
    at_line true rest = rest failed
    at_line false rest = on_object (object_on l) rest

as_reply : (o : Option (List Data)) → option_map pulled_by (option_map (λ objects. first_of None (first_in (filter_map error_of objects))) o) ≡ option_map (λ objects. pulled (filter_map error_of objects)) o
as_reply None = refl
as_reply (Some ds) = ap Some (first_pulled (filter_map error_of ds))

-- the reply that a body's lines tell is the body's
pub lines_told : (body : List ℕ) (ls : List (List ℕ)) (result : Result (Option Reply) Memory) → ls ≡ lines body → IfOk result (λ reply. reply ≡ option_map pulled_by (failure_behind None ls)) → IfOk result (λ reply. reply ≡ pull_in body)
lines_told body ls result are = subst (λ o. IfOk result (λ reply. reply ≡ o)) (ap (λ ms. option_map pulled_by (failure_behind None ms)) are ∙ ap (option_map pulled_by) (behind None (lines body)) ∙ as_reply (of_each object_on (filter is_filled (lines body))))

-- the next line's part in what lines say
pub line_here : (ls : List (Bor (List ℕ))) (i : ℕ) (l : Bor (List ℕ)) (failed : Option (List ℕ)) → i < length ls → l ≡ get_or ls i l → failure_behind failed (map (λ m. m.now) (drop i ls)) ≡ given (failure_after failed l.now) (λ known. failure_behind known (map (λ m. m.now) (drop (i + 1) ls)))
line_here ls i l failed less is = ap (λ ms. failure_behind failed (map (λ m. m.now) ms)) (drop_more ls i l less ∙ ap (λ m. m ∷ drop (i + 1) ls) (sym is))
