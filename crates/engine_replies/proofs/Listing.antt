-- The value of a reply is read as the reply.
use Rattle.std.proofs.Common.{◌≡◌, ◌<◌, ◌∙◌, ◌^◌, ℕ, ℤ, pos, negsuc, Bool, true, List, [], ◌∷◌, if◌then◌else◌, map, refl, ap, Option, Some, None, codes}
use Rattle.std.proofs.lemmas.Bool.{lt-ltb}
use Rattle.std.proofs.lemmas.List.Elements.{All-head, All-tail}
use Rattle.std.specs.List.{All}
use Rattle.std.specs.Option.{option_map}
use Rattle.serde_json.specs.Data.{Data}
use Rattle.serde_json.specs.Find.{as_i64, of_integer}
use Rattle.serde_json.specs.View.{items_of}
use Rattle.tree_base.specs.declared.place.Var.{Var}
use Rattle.engine_types.specs.declared.ContainerState.{ContainerState}
use Rattle.engine_types.specs.declared.Health.{Health}
use Rattle.engine_types.specs.declared.Listed.{Listed}
use Rattle.engine_types.specs.declared.NetRow.{NetRow}
use Rattle.engine_types.specs.declared.Report.{Report}
use Rattle.response_rules.specs.Json.{given, listed, of_each, rows, text_at}
use Rattle.response_rules.specs.Replies.{container_of, health_named, network_names, network_of, report_in, state_of, volume_names}
use Rattle.engine_bodies.specs.Json.{array_of, with_member}
use Rattle.engine_replies.specs.Laws.{IsNumber, IsPlainContainer, IsPlainNetwork}
use Rattle.engine_replies.specs.Values.{health_word, listed_value, network_value, report_value, state_word, volume_value}
use Rattle.engine_replies.proofs.Ordered.{names_back, pairs_back}

items_back : {A : Type 0} (P : A → Type 0) (f : Data → Option A) (told : A → Data) → ((x : A) → P x → f (told x) ≡ Some x) → (xs : List A) → All P xs
    → of_each f (listed (items_of (map told xs))) ≡ Some xs
items_back P f told each [] all = refl
items_back {A} P f told each (x ∷ xs) all =
    ap (λ (o : Option A). given o (λ (y : A). option_map (λ (ys : List A). y ∷ ys) (of_each f (listed (items_of (map told xs)))))) (each x (All-head P x xs all))
    ∙ ap (option_map (λ (ys : List A). x ∷ ys)) (items_back P f told each xs (All-tail P x xs all))

-- the rows of an array
pub rows_back : {A : Type 0} (P : A → Type 0) (f : Data → Option A) (told : A → Data) → ((x : A) → P x → f (told x) ≡ Some x) → (xs : List A) → All P xs
    → rows f (array_of told xs) ≡ Some xs
rows_back P f told each xs all = items_back P f told each xs all

state_back : (state : ContainerState) → state_of (state_word state) ≡ Some state
state_back ContainerState.Created = refl
state_back ContainerState.Running = refl
state_back ContainerState.Paused = refl
state_back ContainerState.Restarting = refl
state_back ContainerState.Removing = refl
state_back ContainerState.Exited = refl
state_back ContainerState.Dead = refl

health_back : (health : Health) → health_named (health_word health) ≡ Some health
health_back Health.Absent = refl
health_back Health.Starting = refl
health_back Health.Healthy = refl
health_back Health.Unhealthy = refl

number_back : (z : ℤ) → IsNumber z → as_i64 (of_integer z) ≡ Some z
number_back (pos n) h = ap (λ (b : Bool). if b then Some (pos n) else None) (lt-ltb n (2 ^ 63) h)
number_back (negsuc n) h = refl

-- ---- rows

pub container_back : (row : Listed) → IsPlainContainer row → container_of (listed_value row) ≡ Some row
unfolding with_member
container_back row p =
    ap (λ (found : Option (List Var)). given found (λ (labels : List Var). given (state_of (state_word row.state)) (λ (state : ContainerState).
    option_map (λ (networks : List (List ℕ)). record { id = row.id; name = row.name; image_id = row.image_id; labels = labels; state = state; networks = networks })
    (network_names (listed_value row))))) (pairs_back row.labels p.labels.ordered)
    ∙ ap (λ (found : Option ContainerState). given found (λ (state : ContainerState).
    option_map (λ (networks : List (List ℕ)). record { id = row.id; name = row.name; image_id = row.image_id; labels = row.labels; state = state; networks = networks })
    (network_names (listed_value row)))) (state_back row.state)
    ∙ ap (option_map (λ (networks : List (List ℕ)). record { id = row.id; name = row.name; image_id = row.image_id; labels = row.labels; state = row.state; networks = networks }))
    (names_back row.networks p.networks)

pub report_back : (report : Report) → IsNumber report.exit_code → report_in (report_value report) ≡ Some report
unfolding with_member
report_back report h =
    ap (λ (found : Option ContainerState). given found (λ (state : ContainerState). given (as_i64 (of_integer report.exit_code)) (λ (code : ℤ).
    option_map (λ (health : Health). record { state = state; exit_code = code; health = health }) (health_named (health_word report.health))))) (state_back report.state)
    ∙ ap (λ (found : Option ℤ). given found (λ (code : ℤ).
    option_map (λ (health : Health). record { state = report.state; exit_code = code; health = health }) (health_named (health_word report.health)))) (number_back report.exit_code h)
    ∙ ap (option_map (λ (health : Health). record { state = report.state; exit_code = report.exit_code; health = health })) (health_back report.health)

pub network_back : (row : NetRow) → IsPlainNetwork row → network_of (network_value row) ≡ Some row
unfolding with_member
network_back row p =
    ap (option_map (λ (labels : List Var). record { id = row.id; name = row.name; labels = labels })) (pairs_back row.labels p.labels.ordered)

volume_back : (P : List ℕ → Type 0) (name : List ℕ) → P name → text_at (codes "Name") (volume_value name) ≡ Some name
unfolding with_member
volume_back P name p = refl

pub volumes_back : (P : List ℕ → Type 0) (names : List (List ℕ)) → All P names → volume_names (array_of volume_value names) ≡ Some names
volumes_back P names all = items_back P (text_at (codes "Name")) volume_value (volume_back P) names all
