-- The page of a project whose words need no quotes.
use Rattle.std.proofs.Common.{◌≡◌, ◌∙◌, ℕ, ◌++◌, Bool, true, false, cond, eqb, eqb-true, ◌&&◌, List, [], ◌∷◌, codes, flat_map, refl, sym, ap}
use Rattle.std.specs.Prelude.{All, not}
use Rattle.std.specs.List.{list_all}
use Rattle.std.proofs.lemmas.List.Elements.{All-head, All-tail}
use Rattle.compose_config.specs.Laws.{PlainPagesAreFiles, print_of, service_lines, text_word}
use Rattle.typed_project.specs.PlainProjects.{PlainService}
use Rattle.project_print.specs.Scalars.{begins_plain, doubled, in_quotes, is_plain, is_plain_byte, is_word, means_more, scalar}
use Rattle.compose_config.proofs.Lines.{pages}

true_no : true ≡ false → ⊥
true_no e = cc

both : (a b : Bool) → (a && b) ≡ true → (a ≡ true) × (b ≡ true)
both true b e = (refl, e)
both false b e = absurd (cc e)

no_dollar : (c : ℕ) → is_plain_byte c ≡ true → eqb c 36 ≡ false
no_dollar c e = by (eqb c 36) refl
  where
    by : (b : Bool) → eqb c 36 ≡ b → eqb c 36 ≡ false
    by true f = absurd (true_no (sym e ∙ ap is_plain_byte (eqb-true c 36 f)))
    by false f = f

-- bytes of a plain word are printed once
undoubled : (text : List ℕ) → list_all is_plain_byte text ≡ true → doubled text ≡ text
undoubled [] e = refl
undoubled (c ∷ cs) e =
    let parts = both (is_plain_byte c) (list_all is_plain_byte cs) e in
    (λ i. cond (no_dollar c parts.0 i) (36 ∷ 36 ∷ []) (c ∷ []) ++ undoubled cs parts.1 i)

plain_key : (text : List ℕ) → is_plain text ≡ true → scalar text ≡ text
plain_key text e = ap (λ (b : Bool). cond b text (in_quotes text)) e

plain_text : (text : List ℕ) → is_plain text ≡ true → text_word text ≡ text
plain_text text e =
    let word : is_word text ≡ true = (both (is_word text) (not (means_more text)) e).0 in
    ap scalar (undoubled text (both (begins_plain text) (list_all is_plain_byte text) word).1) ∙ plain_key text e

all_plain : (services : List PlainService) → All (λ service. is_plain service.key ≡ true) services → All (λ service. is_plain service.image ≡ true) services
    → flat_map service_lines services ≡ flat_map print_of services
all_plain [] names images = refl
all_plain (service ∷ services) names images =
    let name = plain_key service.key (All-head (λ s. is_plain s.key ≡ true) service services names) in
    let image = plain_text service.image (All-head (λ s. is_plain s.image ≡ true) service services images) in
    let rest = all_plain services (All-tail (λ s. is_plain s.key ≡ true) service services names) (All-tail (λ s. is_plain s.image ≡ true) service services images) in
    (λ i. (codes "  " ++ (name i ++ (codes ":\n    image: " ++ (image i ++ codes "\n    network_mode: none\n")))) ++ rest i)

pub plain_pages : PlainPagesAreFiles
plain_pages project some names images =
    pages project some ∙ ap (λ (rest : List ℕ). codes "name: " ++ (text_word project.name ++ (codes "\nservices:\n" ++ rest))) (all_plain project.services names images)
