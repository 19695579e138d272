-- Which Engine is asked for where no variable names none.
use Rattle.std.proofs.Common.{◌≡◌, ◌∙◌, ℕ, Bool, true, false, not, ◌&&◌, List, Ok, Err, Some, None, refl, sym, ap, subst}
use Rattle.std.specs.Prelude.{Option, Result, drop, codes, if◌then◌else◌, is_none, nat_eq}
use Rattle.std.specs.List.{starts_with}
use Rattle.std.specs.Option.{option_map_or}
use Rattle.asked_target.specs.Laws.{GoodHostsHaveTargets}
use Rattle.asked_target.specs.Targets.{addressed, asked_target, filled, has_bad_host, hosted, is_no_address, makes_hands, outside_of, socket_at, target_of}
use Rattle.compose_words.specs.declared.Options.{Options}
use Rattle.compose_words.specs.declared.WordsRefusal.{WordsRefusal}
use Rattle.file_paths.specs.Paths.{Variables}
use Rattle.outside_api.specs.declared.plug.Target.{Target}
use Rattle.tree_base.specs.Answers.{◌>>=◌}
use Rattle.tree_base.specs.Entries.{value_at}

module _ (directory : List ℕ) where
  -- an answer has an Engine
  abbrev Names : Result Target WordsRefusal → Type 0
  Names answer = (target : Target) × (answer ≡ Ok target)

  address_names : (address : List ℕ) → is_no_address address ≡ false → Names (addressed directory address)
  address_names address = at (starts_with nat_eq address (codes "unix://"))
    where
      at : (is : Bool) → not is ≡ false → Names (if is then Ok (socket_at directory (drop 7 address)) else Err WordsRefusal.BadHost)
      at true h = (socket_at directory (drop 7 address), refl)
      at false h = absurd (cc h)

  host_names : (host : Option (List ℕ)) → option_map_or is_no_address host false ≡ false → Names (hosted directory host)
  host_names None h = (Target.Socket (codes "/var/run/docker.sock"), refl)
  host_names (Some address) h = address_names address h

  outside_names : (socket : Option (List ℕ)) (env : Variables) → (is_none socket && option_map_or is_no_address (filled (value_at env (codes "DOCKER_HOST"))) false) ≡ false → Names (outside_of socket env directory)
  outside_names (Some path) env h = (socket_at directory path, refl)
  outside_names None env h = host_names (filled (value_at env (codes "DOCKER_HOST"))) h

  target_names : (memory : Bool) (socket : Option (List ℕ)) (env : Variables) → (not memory && (is_none socket && option_map_or is_no_address (filled (value_at env (codes "DOCKER_HOST"))) false)) ≡ false
      → Names (if memory then Ok Target.InMemory else outside_of socket env directory)
  target_names true socket env h = (Target.InMemory, refl)
  target_names false socket env h = outside_names socket env h

abbrev some : Target → Result (Option Target) WordsRefusal
some target = Ok (Some target)

pub good_hosts : GoodHostsHaveTargets
good_hosts options env directory makes good =
    let used : (not options.in_memory && (is_none options.socket && option_map_or is_no_address (filled (value_at env (codes "DOCKER_HOST"))) false)) ≡ false =
    subst (λ (b : Bool). (b && (not options.in_memory && (is_none options.socket && option_map_or is_no_address (filled (value_at env (codes "DOCKER_HOST"))) false))) ≡ false) makes good in
    let named : Names directory (target_of options env directory) = target_names directory options.in_memory options.socket env used in
    (named.0, subst (λ (b : Bool). (if b then (target_of options env directory >>= some) else Ok None) ≡ Ok (Some named.0)) (sym makes) (ap (λ (r : Result Target WordsRefusal). r >>= some) named.1))
