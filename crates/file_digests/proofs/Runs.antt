-- Digests of the first items, and of the next one.
use Rattle.std.proofs.Common.{◌≡◌, ◌<◌, ◌+◌, ℕ, zero, suc, add-one, List, [], ◌∷◌, ◌++◌, Option, Some, Result, Ok, Err, ap, append_assoc, arith, drop, length, refl, slice_get, subst, sym}
use Rattle.engine_types.specs.declared.declared.Kind.{Kind}
use Rattle.outside_files.specs.Files.{Contents}
use Rattle.outside_files.specs.declared.files.FileAnswer.{FileAnswer}
use Rattle.service_hashes.specs.declared.digest.FileDigest.{FileDigest}
use Rattle.typed_project.specs.declared.project.FileItem.{FileItem}
use Rattle.typed_project.specs.declared.project.Project.{Project}
use Rattle.file_digests.specs.Digests.{AreDigested, Digested, Follows, Given, MayAnswer, behind, digest_read}
use Rattle.file_digests.specs.declared.refusal.DigestRefusal.{DigestRefusal}

-- what an answer of the read of one item's file gives
abbrev pub OneRead : Option Contents → Kind → FileItem → Result FileDigest DigestRefusal → Type 0
OneRead told kind item given = (answer : FileAnswer) × MayAnswer told item answer × (given ≡ digest_read kind item answer)

-- behind no digests
pub behind_none : (given : Given) → behind [] given ≡ given
behind_none (Ok more) = refl
behind_none (Err refusal) = refl

-- behind one more digest
pub behind_more : (done : List FileDigest) (digest : FileDigest) (given : Given) → behind done (behind (digest ∷ []) given) ≡ behind (done ++ digest ∷ []) given
behind_more done digest (Ok more) = ap (λ (all : List FileDigest). Ok all) (sym (append_assoc done (digest ∷ []) more))
behind_more done digest (Err refusal) = refl

module _ (told : Option Contents) (kind : Kind) (item : FileItem) (items : List FileItem) where
  -- the item's digest, and what the rest gives
  pub one_on : (digest : FileDigest) → OneRead told kind item (Ok digest) → (rest : Given) → Digested told kind items rest → Digested told kind (item ∷ items) (behind (digest ∷ []) rest)
  one_on digest one rest k =
      (one.0, one.1, subst (λ (given : Result FileDigest DigestRefusal). Follows given (Digested told kind items) (behind (digest ∷ []) rest)) one.2 (rest, k, refl))

  -- the item's refusal
  pub one_out : (refusal : DigestRefusal) → OneRead told kind item (Err refusal) → Digested told kind (item ∷ items) (Err refusal)
  one_out refusal one = (one.0, one.1, subst (λ (given : Result FileDigest DigestRefusal). Follows given (Digested told kind items) (Err refusal)) one.2 refl)

-- the items from a place on
pub next_item : (items : List FileItem) (i : ℕ) (item : FileItem) → slice_get items i ≡ Some item → drop i items ≡ item ∷ drop (i + 1) items
next_item items i item e = rw add-one (next items i item e)
  where
    next : (items : List FileItem) (i : ℕ) (item : FileItem) → slice_get items i ≡ Some item → drop i items ≡ item ∷ drop (suc i) items
    next [] i item e = absurd (cc e)
    next (x ∷ xs) zero item e = let same : x ≡ item = cc e in ap (λ (y : FileItem). y ∷ xs) same
    next (x ∷ xs) (suc i) item e = next xs i item e

-- nothing is left past the end
pub none_left : (items : List FileItem) (i : ℕ) → length items < i + 1 → drop i items ≡ []
none_left [] zero h = refl
none_left [] (suc i) h = refl
none_left (x ∷ xs) zero h = absurd (omega arith)
none_left (x ∷ xs) (suc i) h = none_left xs i (omega arith)

module _ (told : Option Contents) (project : Project) where
  -- the refusal of a config
  pub configs_out : (refusal : DigestRefusal) → Digested told Kind.Config project.configs (Err refusal) → AreDigested told project (Err refusal)
  configs_out refusal k = (Err refusal, k, refl)

  -- the refusal of a secret
  pub secrets_out : (configs : List FileDigest) (refusal : DigestRefusal) → Digested told Kind.Config project.configs (Ok configs) → Digested told Kind.Secret project.secrets (Err refusal)
      → AreDigested told project (Err refusal)
  secrets_out configs refusal k more = (Ok configs, k, (Err refusal, more, refl))

  -- both
  pub both_on : (configs secrets all : List FileDigest) → Digested told Kind.Config project.configs (Ok configs) → Digested told Kind.Secret project.secrets (Ok secrets) → all ≡ configs ++ secrets
      → AreDigested told project (Ok all)
  both_on configs secrets all k more e = (Ok configs, k, (Ok secrets, more, ap (λ (l : List FileDigest). Ok l) e))
