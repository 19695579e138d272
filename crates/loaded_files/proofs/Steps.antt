-- What each step of loading gives, by what its reads gave.
use Rattle.std.proofs.Common.{◌≡◌, ℕ, List, ◌∷◌, Option, Some, Result, Ok, Err, refl, sym, ap, subst}
use Rattle.loaded_files.specs.declared.reads.Seen.{Seen}
use Rattle.loaded_files.specs.declared.reads.Seen.TheVariants.{There, Longer, Missing}
use Rattle.loaded_files.specs.declared.refusal.LoadRefusal.{LoadRefusal}
use Rattle.loaded_files.specs.EnvFiles.{env_file_if, env_files, environment, file_variables, with_all, with_env_file, with_file, with_file_if}
use Rattle.loaded_files.specs.Paths.{Variables}
use Rattle.loaded_files.specs.Reads.{◌>>=◌, Gives, IsGiven, Load, Ran, after, file_at, file_if_there, give, taken, taken_if}
use Rattle.loaded_files.proofs.Runs.{given_on, given_out, gives_on, gives_out, ran_on, ran_out}
use Rattle.outside_files.specs.Files.{Contents}

-- what may be missing is taken like any other where it is there
pub taken_there : (path : List ℕ) (seen : Seen) (left : ℕ) → (seen ≡ Missing → ⊥) → taken_if path seen left ≡ (taken path seen left >>= λ got. give (Some got.0, got.1))
taken_there path (There bytes) left n = refl
taken_there path Longer left n = refl
taken_there path Missing left n = absurd (n refl)

module _ (told : Option Contents) where
  -- a file that may be missing and is there
  module _ (path : List ℕ) (seen : Seen) (left : ℕ) (n : seen ≡ Missing → ⊥) where
    abbrev taken_bytes : List ℕ × ℕ → Load (Option (List ℕ) × ℕ)
    taken_bytes got = give (Some got.0, got.1)

    as_taken : (r : Result (Option (List ℕ) × ℕ) LoadRefusal) → Gives told r (taken path seen left >>= taken_bytes) → Gives told r (taken_if path seen left)
    as_taken r h = subst (λ (load : Load (Option (List ℕ) × ℕ)). Gives told r load) (sym (taken_there path seen left n)) h

    pub there_refused : (e : LoadRefusal) → Gives {X = List ℕ × ℕ} told (Err e) (taken path seen left) → Gives {X = Option (List ℕ) × ℕ} told (Err e) (taken_if path seen left)
    there_refused e h = as_taken (Err e) (gives_out told (taken path seen left) taken_bytes e h)

    pub there_taken : (bytes : List ℕ) (rest : ℕ) → Gives told (Ok (bytes, rest)) (taken path seen left) → Gives told (Ok (Some bytes, rest)) (taken_if path seen left)
    there_taken bytes rest h = as_taken (Ok (Some bytes, rest)) (gives_on told (taken path seen left) taken_bytes (bytes, rest) (Ok (Some bytes, rest)) h (λ q. refl))

  -- one env file
  module _ (caller : Variables) (path : List ℕ) (earlier : Variables) (left : ℕ) where
    abbrev after_read : List ℕ × ℕ → Load (Variables × ℕ)
    after_read got = after (with_env_file caller path got.0 earlier) (λ values. give (values, got.1))

    pub file_unread : (e : LoadRefusal) → Gives {X = List ℕ × ℕ} told (Err e) (file_at path left) → Gives {X = Variables × ℕ} told (Err e) (with_file caller path earlier left)
    file_unread e h = gives_out told (file_at path left) after_read e h

    pub file_refused : (bytes : List ℕ) (rest : ℕ) (e : LoadRefusal) → Gives told (Ok (bytes, rest)) (file_at path left) → IsGiven {X = Variables} (Err e) (with_env_file caller path bytes earlier)
        → Gives {X = Variables × ℕ} told (Err e) (with_file caller path earlier left)
    file_refused bytes rest e h k =
        gives_on told (file_at path left) after_read (bytes, rest) (Err e) h (given_out told (with_env_file caller path bytes earlier) (λ values. give (values, rest)) e k)

    pub file_laid : (bytes : List ℕ) (rest : ℕ) (values : Variables) → Gives told (Ok (bytes, rest)) (file_at path left) → IsGiven (Ok values) (with_env_file caller path bytes earlier)
        → Gives told (Ok (values, rest)) (with_file caller path earlier left)
    file_laid bytes rest values h k =
        gives_on told (file_at path left) after_read (bytes, rest) (Ok (values, rest)) h
        (given_on told (with_env_file caller path bytes earlier) (λ values. give (values, rest)) values (Ok (values, rest)) k (λ n. refl))

  -- an env file that may be missing
  module _ (caller : Variables) (path : List ℕ) (earlier : Variables) (left : ℕ) where
    abbrev after_look : Option (List ℕ) × ℕ → Load (Variables × ℕ)
    after_look got = after (env_file_if caller path earlier got.0) (λ values. give (values, got.1))

    pub if_unread : (e : LoadRefusal) → Gives {X = Option (List ℕ) × ℕ} told (Err e) (file_if_there path left) → Gives {X = Variables × ℕ} told (Err e) (with_file_if caller path earlier left)
    if_unread e h = gives_out told (file_if_there path left) after_look e h

    pub if_refused : (found : Option (List ℕ)) (rest : ℕ) (e : LoadRefusal) → Gives told (Ok (found, rest)) (file_if_there path left) → IsGiven {X = Variables} (Err e) (env_file_if caller path earlier found)
        → Gives {X = Variables × ℕ} told (Err e) (with_file_if caller path earlier left)
    if_refused found rest e h k =
        gives_on told (file_if_there path left) after_look (found, rest) (Err e) h (given_out told (env_file_if caller path earlier found) (λ values. give (values, rest)) e k)

    pub if_laid : (found : Option (List ℕ)) (rest : ℕ) (values : Variables) → Gives told (Ok (found, rest)) (file_if_there path left) → IsGiven (Ok values) (env_file_if caller path earlier found)
        → Gives told (Ok (values, rest)) (with_file_if caller path earlier left)
    if_laid found rest values h k =
        gives_on told (file_if_there path left) after_look (found, rest) (Ok (values, rest)) h
        (given_on told (env_file_if caller path earlier found) (λ values. give (values, rest)) values (Ok (values, rest)) k (λ n. refl))

  -- env files, one after another
  module _ (caller : Variables) (path : List ℕ) (more : List (List ℕ)) (earlier : Variables) (left : ℕ) where
    pub files_on : (values : Variables) (rest : ℕ) (r : Result (Variables × ℕ) LoadRefusal) → Gives told (Ok (values, rest)) (with_file caller path earlier left) → Ran told (env_files caller more values rest) r
        → Ran told (env_files caller (path ∷ more) earlier left) r
    files_on values rest r h k = ran_on told (with_file caller path earlier left) (λ got. env_files caller more got.0 got.1) (values, rest) r (h (λ e. cc)) k

    pub files_out : (e : LoadRefusal) → Ran {X = Variables × ℕ} told (with_file caller path earlier left) (Err e) → Ran {X = Variables × ℕ} told (env_files caller (path ∷ more) earlier left) (Err e)
    files_out e h = ran_out told (with_file caller path earlier left) (λ got. env_files caller more got.0 got.1) e h

  -- what ends with a value that reads nothing
  pub given_last : {X : Type 0} (r first : Result X LoadRefusal) → IsGiven r first → Gives told r (after first give)
  given_last {X} r first h = λ n. at first (h n)
    where
      at : (first : Result X LoadRefusal) → r ≡ first → Ran told (after first give) r
      at (Ok x) e = e
      at (Err x) e = e

  -- the caller's variables over those of files
  module _ (directory : List ℕ) (given : Option (List (List ℕ))) (caller : Variables) (left : ℕ) where
    abbrev under_caller : Variables × ℕ → Load (Variables × ℕ)
    under_caller got = give (with_all got.0 caller, got.1)

    pub caller_unasked : (e : LoadRefusal) → Gives {X = Variables × ℕ} told (Err e) (file_variables directory given caller left) → Gives {X = Variables × ℕ} told (Err e) (environment directory given caller left)
    caller_unasked e h = gives_out told (file_variables directory given caller left) under_caller e h

    pub caller_laid : (values all : Variables) (rest : ℕ) → Gives told (Ok (values, rest)) (file_variables directory given caller left) → all ≡ with_all values caller
        → Gives told (Ok (all, rest)) (environment directory given caller left)
    caller_laid values all rest h e =
        gives_on told (file_variables directory given caller left) under_caller (values, rest) (Ok (all, rest)) h (λ n. ap (λ (v : Variables). Ok (v, rest)) e)
