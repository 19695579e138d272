-- A name more is looked at.
use Rattle.std.proofs.Common.{◌≡◌, ◌∙◌, ℕ, ◌<◌, ◌+◌, List, [], ◌∷◌, Bor, length, get_or, drop, map, refl, sym, ap, subst, Option, Result, Ok, Err, arith}
use Rattle.std.proofs.lemmas.List.{length-map}
use Rattle.std.proofs.lemmas.Option.{slice_get-map, slice_get-get_or}
use Rattle.std.proofs.lemmas.Result.{err_from_is_err_and}
use Rattle.std.specs.Option.{option_map}
use Rattle.std.specs.Prelude.{codes}
use Rattle.loaded_files.specs.declared.reads.Seen.{Seen}
use Rattle.loaded_files.specs.declared.reads.Seen.TheVariants.{Missing}
use Rattle.loaded_files.specs.declared.refusal.LoadRefusal.{LoadRefusal}
use Rattle.loaded_files.specs.declared.refusal.LoadRefusal.TheVariants.{NotFound}
use Rattle.include_extends.specs.Loading.{default_file}
use Rattle.loaded_files.specs.Paths.{joined}
use Rattle.loaded_files.specs.Reads.{Gives, Ran, look}
use Rattle.loaded_files.proofs.Laid.{next_item, none_left}
use Rattle.include_extends.proofs.Named.{name_found, name_missing, name_unread}
use Rattle.outside_files.specs.Files.{Contents}
use Rattle.include_extends.proofs.default_file.default_file.Goals as goal

-- what stands for a name that isn't there
abbrev no_name : Bor (List ℕ)
no_name = record { ref_ptr = (0, 0); now = [] }

abbrev texts : List (Bor (List ℕ)) → List (List ℕ)
texts names = map (λ (name : Bor (List ℕ)). name.now) names

abbrev name_at : List (Bor (List ℕ)) → ℕ → List ℕ
name_at names i = (get_or names i no_name).now

next_name : (names : List (Bor (List ℕ))) (i : ℕ) → i < length names → drop i (texts names) ≡ name_at names i ∷ drop (i + 1) (texts names)
next_name names i within =
    next_item (texts names) i (name_at names i)
    (slice_get-map (λ (name : Bor (List ℕ)). name.now) names i ∙ ap (option_map (λ (name : Bor (List ℕ)). name.now)) (slice_get-get_or names i no_name within))

module _ (told : Option Contents) (directory : List ℕ) (names : List (Bor (List ℕ))) (i : ℕ) (within : i < length names) where
  abbrev here : List ℕ
  here = joined directory (name_at names i)

  abbrev Rest : Result (List ℕ × Seen) LoadRefusal → Type 0
  Rest r = Ran told (default_file directory (drop i (texts names))) r

  at_name : (r : Result (List ℕ × Seen) LoadRefusal) → Ran told (default_file directory (name_at names i ∷ drop (i + 1) (texts names))) r → Rest r
  at_name r h = subst (λ (ns : List (List ℕ)). Ran told (default_file directory ns) r) (sym (next_name names i within)) h

  module _ (later : Option Contents) (path : List ℕ) (same : later ≡ told) (is : path ≡ here) where
    -- what was seen at the path is seen there by what the files told at first
    seen_here : (r : Result Seen LoadRefusal) → Gives later r (look path) → Gives told r (look here)
    seen_here r h = subst (λ (t : Option Contents). Gives t r (look here)) same (subst (λ (p : List ℕ). Gives later r (look p)) is h)

    unread : (e : LoadRefusal) → Gives {X = Seen} later (Err e) (look path) → Gives {X = List ℕ × Seen} told (Err e) (default_file directory (drop i (texts names)))
    unread e h = λ n. at_name (Err e) (name_unread told directory (name_at names i) (drop (i + 1) (texts names)) e (seen_here (Err e) h) n)

    found : (seen : Seen) → (seen ≡ Missing → ⊥) → Gives later (Ok seen) (look path) → Gives told (Ok (path, seen)) (default_file directory (drop i (texts names)))
    found seen there h = λ n.
        subst (λ (p : List ℕ). Rest (Ok (p, seen))) (sym is)
        (at_name (Ok (here, seen)) (name_found told directory (name_at names i) (drop (i + 1) (texts names)) seen there (seen_here (Ok seen) h) (λ e. cc)))

    missing : (seen : Seen) → seen ≡ Missing → Gives later (Ok seen) (look path) → (r : Result (List ℕ × Seen) LoadRefusal) → Ran told (default_file directory (drop (i + 1) (texts names))) r → Rest r
    missing seen gone h r k =
        at_name r (name_missing told directory (name_at names i) (drop (i + 1) (texts names)) r
        (seen_here (Ok Missing) (subst (λ (s : Seen). Gives later (Ok s) (look path)) gone h)) k)

pub returns-in_err-found-clause-given : goal.returns-in_err-found-clause-given
returns-in_err-found-clause-given g c =
    let a = c.args in
    let l = c.loop-name in
    let e = c.in_err-found.field-0.0 in
    let p = err_from_is_err_and c.from_residual-in_err-found.result c.from_residual-in_err-found.ensures.1 in
    rw (p.1, p.2) (λ n. l.invariant.ran (Err e)
    (unread (g.F.Files.told a.files.now) a.directory.now a.names.now l.name-index c.loop-name-test.true (g.F.Files.told l.files) c.in_ok-path.path l.invariant.kept c.in_ok-path.ensures
    e c.in_err-found.ensures.given n))

pub returns-in_default-clause-given : goal.returns-in_default-clause-given
returns-in_default-clause-given g c =
    let a = c.args in
    let l = c.loop-name in
    let seen = c.in_ok-found.found in
    λ n. l.invariant.ran (Ok (c.in_ok-path.path, seen))
    (found (g.F.Files.told a.files.now) a.directory.now a.names.now l.name-index c.loop-name-test.true (g.F.Files.told l.files) c.in_ok-path.path l.invariant.kept c.in_ok-path.ensures
    seen c.in_default.not-Missing c.in_ok-found.ensures.given n)

pub loop-name-preserved : goal.loop-name-preserved
loop-name-preserved g c =
    let a = c.args in
    let l = c.loop-name in
    record {
      ran = λ r k. l.invariant.ran r
          (missing (g.F.Files.told a.files.now) a.directory.now a.names.now l.name-index c.loop-name-test.true (g.F.Files.told l.files) c.in_ok-path.path l.invariant.kept c.in_ok-path.ensures
          c.in_ok-found.found c.in-Missing.is c.in_ok-found.ensures.given r k);
      counted = omega (arith, l.invariant.counted, c.in_ok-found.ensures.counted);
      kept = c.in_ok-found.ensures.kept ∙ l.invariant.kept;
      reads = λ well. c.in_ok-found.ensures.reads (l.invariant.reads well);
    }

pub returns-clause-given : goal.returns-clause-given
returns-clause-given g c =
    let told = g.F.Files.told c.args.files.now in
    let directory = c.args.directory.now in
    let names = c.args.names.now in
    let l = c.loop-name in
    let none = none_left (texts names) l.name-index (omega (arith, length-map names (λ (name : Bor (List ℕ)). name.now))) in
    let answer : Result (List ℕ × Seen) LoadRefusal = Err (NotFound (joined directory (codes "compose.yaml"))) in
    rw c.in_ok-joined.ensures (λ n. l.invariant.ran answer (subst (λ (ns : List (List ℕ)). Ran told (default_file directory ns) answer) (sym none) refl))

pub returns-in_err-found-clause-reads : goal.returns-in_err-found-clause-reads
returns-in_err-found-clause-reads g c =
    let p = err_from_is_err_and c.from_residual-in_err-found.result c.from_residual-in_err-found.ensures.1 in
    rw (p.1, p.2) (λ well. c.in_err-found.ensures.reads (c.loop-name.invariant.reads well))
