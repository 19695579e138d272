use Rattle.std.proofs.Common.{◌≡◌, ◌∙◌, ◌++◌, Bool, List, None, Some, ap, sym, true, true≢false, ℕ}
use Rattle.std.proofs.lemmas.Bool.Decides.{Decides-eqb}
use Rattle.std.proofs.lemmas.List.{append_cancel_left}
use Rattle.std.proofs.lemmas.Slice.Eq.{bytes_eq-Decides, strip_prefix_is}
use Rattle.std.specs.Str.{bytes_eq}
use Rattle.merge_rules.proofs.keys.is_in.Goals as goal

-- a path in a folder is that of a name where the rest is the name
by_rest : (path folder rest name : List ℕ) (is : Bool) → path ≡ folder ++ rest → is ≡ bytes_eq rest name → (is ≡ true → path ≡ folder ++ name) × (path ≡ folder ++ name → is ≡ true)
by_rest path folder rest name is begins decided =
    ((λ yes. begins ∙ ap (λ (l : List ℕ). folder ++ l) ((bytes_eq-Decides rest name).0 (sym decided ∙ yes))), (λ same. decided ∙ (bytes_eq-Decides rest name).1 (append_cancel_left folder rest name (sym begins ∙ same))))

pub returns-in-Some : goal.returns-in-Some
returns-in-Some c =
    let path = c.as_bytes.ensures.value in
    let folder = c.as_bytes-2.ensures.value in
    let name = c.as_bytes-in-Some.ensures.value in
    let begins : c.as_bytes.result.now ≡ c.as_bytes-2.result.now ++ c.in-Some.rest.now =
    strip_prefix_is Decides-eqb c.as_bytes.result.now c.as_bytes-2.result.now (Some c.in-Some.rest) c.in-Some.ensures.cases in
    by_rest c.args.path.now c.args.folder.now c.in-Some.rest.now c.args.name.now c.eq.result
    (sym path ∙ begins ∙ ap (λ (l : List ℕ). l ++ c.in-Some.rest.now) folder)
    (c.eq.ensures ∙ ap (bytes_eq c.in-Some.rest.now) name)

pub returns-in-None : goal.returns-in-None
returns-in-None c =
    let path = c.as_bytes.ensures.value in
    let folder = c.as_bytes-2.ensures.value in
    let begins = strip_prefix_is Decides-eqb c.as_bytes.result.now c.as_bytes-2.result.now None c.in-None.ensures.cases in
    ((λ yes. absurd (true≢false (sym yes))), (λ same. absurd (begins c.args.name.now (path ∙ same ∙ ap (λ (l : List ℕ). l ++ c.args.name.now) (sym folder)))))
