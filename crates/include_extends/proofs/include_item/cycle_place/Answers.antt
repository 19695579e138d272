use Rattle.std.proofs.Common.{◌≡◌, ◌∙◌, ℕ, List, ◌+◌, drop, slice_get, length, Option, Some, None, refl, sym, ap, position, arith}
use Rattle.std.proofs.lemmas.Option.{slice_get_read}
use Rattle.std.specs.Option.{option_map, option_or}
use Rattle.std.specs.Str.{bytes_eq}
use Rattle.include_extends.specs.Includes.{begun_from, cycle_of}
use Rattle.include_extends.proofs.include_item.cycle_place.Goals as goal
use Rattle.loaded_files.proofs.Laid.{next_item, none_left}

module _ (begun files : List (List ℕ)) (i : ℕ) (path : List ℕ) (at : slice_get files i ≡ Some path) where
  opened : cycle_of begun (drop i files) ≡ option_or (begun_from path begun) (cycle_of begun (drop (i + 1) files))
  opened = ap (cycle_of begun) (next_item files i path at)

  abbrev by : Option ℕ → Option (List (List ℕ))
  by place = option_or (option_map (λ at. drop at begun) place) (cycle_of begun (drop (i + 1) files))

  is_begun : (place : ℕ) → position (bytes_eq path) begun ≡ Some place → cycle_of begun (drop i files) ≡ Some (drop place begun)
  is_begun place e = opened ∙ ap by e

  not_begun : position (bytes_eq path) begun ≡ None → cycle_of begun (drop (i + 1) files) ≡ cycle_of begun (drop i files)
  not_begun e = sym (opened ∙ ap by e)

-- the file is being loaded
pub returns-in-Some : goal.returns-in-Some
returns-in-Some c =
    let files = c.args.files.now in
    let l = c.loop-path in
    let path = c.path-item.result in
    sym l.invariant ∙ is_begun c.args.begun.now files l.path-index path (slice_get_read files (length files) l.path-index path refl (omega arith) c.path-item.is) c.in-Some.place (sym c.in-Some.ensures)

pub loop-path-preserved : goal.loop-path-preserved
loop-path-preserved c =
    let files = c.args.files.now in
    let l = c.loop-path in
    let path = c.path-item.result in
    not_begun c.args.begun.now files l.path-index path (slice_get_read files (length files) l.path-index path refl (omega arith) c.path-item.is) (sym c.in_default.ensures) ∙ l.invariant

-- none of them is
pub returns : goal.returns
returns c = sym c.loop-path.invariant ∙ ap (cycle_of c.args.begun.now) (none_left c.args.files.now c.loop-path.path-index (omega arith))
