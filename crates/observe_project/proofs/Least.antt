-- The first two of rows in byte order of their ids, with one row more.
use Rattle.std.proofs.Common.{◌≡◌, ℕ, ◌+◌, ◌<◌, Bool, true, false, cond, List, [], ◌∷◌, length, drop, get_or, filter, Option, Some, slice_get, refl, sym, ap, ◌∙◌, add-one}
use Rattle.std.proofs.Math.Seq.{drop-cons}
use Rattle.std.specs.Str.{bytes_eq}
use Rattle.engine_types.specs.declared.NetRow.{NetRow}
use Rattle.tree_base.specs.ByteOrder.{by_key, is_before, placed}
use Rattle.observe_project.specs.LeastRows.{first_with, second_with, first_named, second_named}

abbrev pub rows_of : List ℕ → List NetRow → List NetRow
rows_of name rows = by_key (λ row. row.id) (filter (λ row. bytes_eq name row.name) rows)

first_placed : (row : NetRow) (rows : List NetRow) → slice_get (placed (λ r. r.id) row rows) 0 ≡ first_with row (slice_get rows 0)
first_placed row [] = refl
first_placed row (first ∷ rows) = at (is_before first.id row.id)
  where
    at : (t : Bool) → slice_get (cond t (first ∷ placed (λ r. r.id) row rows) (row ∷ first ∷ rows)) 0 ≡ cond t (Some first) (Some row)
    at true = refl
    at false = refl

second_placed : (row : NetRow) (rows : List NetRow) → slice_get (placed (λ r. r.id) row rows) 1 ≡ second_with row (slice_get rows 0) (slice_get rows 1)
second_placed row [] = refl
second_placed row (first ∷ rows) = at (is_before first.id row.id)
  where
    at : (t : Bool) → slice_get (cond t (first ∷ placed (λ r. r.id) row rows) (row ∷ first ∷ rows)) 1 ≡ cond t (first_with row (slice_get rows 0)) (Some first)
    at true = first_placed row rows
    at false = refl

module _ (name : List ℕ) (row : NetRow) (rows : List NetRow) (first second : Option NetRow) (first_is : first ≡ slice_get (rows_of name rows) 0) (second_is : second ≡ slice_get (rows_of name rows) 1) where
  first_cons : first_named name row first ≡ slice_get (rows_of name (row ∷ rows)) 0
  first_cons = at (bytes_eq name row.name)
    where
      at : (t : Bool) → cond t (first_with row first) first ≡ slice_get (by_key (λ r. r.id) (cond t (row ∷ filter (λ r. bytes_eq name r.name) rows) (filter (λ r. bytes_eq name r.name) rows))) 0
      at true = ap (first_with row) first_is ∙ sym (first_placed row (rows_of name rows))
      at false = first_is

  second_cons : second_named name row first second ≡ slice_get (rows_of name (row ∷ rows)) 1
  second_cons = at (bytes_eq name row.name)
    where
      at : (t : Bool) → cond t (second_with row first second) second
          ≡ slice_get (by_key (λ r. r.id) (cond t (row ∷ filter (λ r. bytes_eq name r.name) rows) (filter (λ r. bytes_eq name r.name) rows))) 1
      at true = ap (λ f. second_with row f second) first_is ∙ ap (second_with row (slice_get (rows_of name rows) 0)) second_is ∙ sym (second_placed row (rows_of name rows))
      at false = second_is

-- a row further towards the front
module _ (name : List ℕ) (rows : List NetRow) (at : ℕ) (row : NetRow) (first second : Option NetRow) (within : at < length rows) (is : row ≡ get_or rows at row)
    (first_is : first ≡ slice_get (rows_of name (drop (at + 1) rows)) 0) (second_is : second ≡ slice_get (rows_of name (drop (at + 1) rows)) 1) where
  next : drop at rows ≡ row ∷ drop (at + 1) rows
  next = drop-cons rows at row within ∙ (λ i. sym is i ∷ drop (sym (add-one at) i) rows)

  pub first_more : first_named name row first ≡ slice_get (rows_of name (drop at rows)) 0
  first_more = first_cons name row (drop (at + 1) rows) first second first_is second_is ∙ ap (λ l. slice_get (rows_of name l) 0) (sym next)

  pub second_more : second_named name row first second ≡ slice_get (rows_of name (drop at rows)) 1
  second_more = second_cons name row (drop (at + 1) rows) first second first_is second_is ∙ ap (λ l. slice_get (rows_of name l) 1) (sym next)
