-- How reads went, after one more.
use Rattle.std.proofs.Common.{◌≡◌, ◌∙◌, ℕ, List, [], ◌∷◌, ◌++◌, false, ap, inl, inr, refl}
use Rattle.outside_files.specs.Reads.{AddsRead, FailedAt, Went, Well, answered_as, is_failed, read_of, went, went_after, went_from, with_read}
use Rattle.outside_files.specs.declared.file_read.FileRead.{FileRead}
use Rattle.outside_files.specs.declared.files.FileAnswer.{FileAnswer}
use Rattle.outside_files.specs.declared.files.FileAnswer.TheVariants.{Bytes, Failed, Longer, Memory, Missing}

went_more : (before : Went) (reads : List FileRead) (read : FileRead) → went_from before (reads ++ read ∷ []) ≡ went_after (went_from before reads) read
went_more before [] read = refl
went_more before (first ∷ rest) read = went_more (went_after before first) rest read

went_with : (old : List FileRead) (path : List ℕ) (answer : FileAnswer) → went old ≡ Well → went (with_read old path answer) ≡ went_after Well (read_of path (is_failed answer))
went_with old path answer well = went_more Well old (read_of path (is_failed answer)) ∙ ap (λ (before : Went). went_after before (read_of path (is_failed answer))) well

-- a read that didn't fail leaves reads that went well
pub read_well : (old new : List FileRead) (path : List ℕ) (answer : FileAnswer) → is_failed answer ≡ false → AddsRead old path new answer → went old ≡ Well → went new ≡ Well
read_well old new path answer sound (inl grown) well = ap went grown ∙ (went_with old path answer well ∙ ap (λ failed. went_after Well (read_of path failed)) sound)
read_well old new path answer sound (inr same) well = ap went same.1 ∙ well

-- one that failed was the last one
pub read_failed : (old new : List FileRead) (path : List ℕ) → AddsRead old path new Failed → went old ≡ Well → went new ≡ FailedAt path
read_failed old new path (inl grown) well = ap went grown ∙ went_with old path Failed well
read_failed old new path (inr same) well = absurd (cc (same.0))

-- it went as the last answer says
pub read_goes : (old new : List FileRead) (path : List ℕ) (answer : FileAnswer) → AddsRead old path new answer → went old ≡ Well → went new ≡ answered_as path answer
read_goes old new path (Bytes bytes) adds well = read_well old new path (Bytes bytes) refl adds well
read_goes old new path Missing adds well = read_well old new path Missing refl adds well
read_goes old new path Longer adds well = read_well old new path Longer refl adds well
read_goes old new path Failed adds well = read_failed old new path adds well
read_goes old new path Memory adds well = read_well old new path Memory refl adds well
