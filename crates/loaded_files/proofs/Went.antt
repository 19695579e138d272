-- How the reads of a call went, by how it ended.
use Rattle.std.proofs.Common.{◌≡◌, ℕ, List, Ok, Err, refl}
use Rattle.std.specs.Prelude.{Result}
use Rattle.loaded_files.specs.Reads.{ends_as, refused_as}
use Rattle.loaded_files.specs.declared.refusal.LoadRefusal.{LoadRefusal}
use Rattle.loaded_files.specs.declared.refusal.LoadRefusal.TheVariants.{NotFound, ReadFault, FileTooLarge, TooManyFiles, NoHome, Yaml, EnvFile, Subst, Merge, BadShape, ExtendsCycle, NoSuchBase, IncludeCycle, Conflict, Memory}
use Rattle.outside_files.specs.Reads.{Well}

abbrev pub refused_with : (X : Type 0) → LoadRefusal → Result X LoadRefusal
refused_with X refusal = Err refusal

-- a refusal of what reads nothing is no read that failed
pub unread : {X : Type 0} (refusal : LoadRefusal) → ((at : List ℕ) → refused_with X refusal ≡ refused_with X (ReadFault at) → ⊥) → refused_as refusal ≡ Well
unread (ReadFault path) none = absurd (none path refl)
unread (NotFound path) none = refl
unread (FileTooLarge path) none = refl
unread (TooManyFiles path) none = refl
unread (NoHome path) none = refl
unread (Yaml path cause) none = refl
unread (EnvFile path cause) none = refl
unread (Subst path cause) none = refl
unread (Merge path cause) none = refl
unread (BadShape at) none = refl
unread (ExtendsCycle services) none = refl
unread (NoSuchBase file service) none = refl
unread (IncludeCycle files) none = refl
unread (Conflict kind key file) none = refl
unread Memory none = refl

-- nor is what it gives
pub unread_result : {X : Type 0} (result : Result X LoadRefusal) → ((at : List ℕ) → result ≡ refused_with X (ReadFault at) → ⊥) → ends_as result ≡ Well
unread_result (Ok x) none = refl
unread_result (Err refusal) none = unread refusal none
