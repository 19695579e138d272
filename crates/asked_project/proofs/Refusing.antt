-- Refusals of words.
use Rattle.std.proofs.Common.{◌≡◌, ℕ, Bool, true, false, ◌||◌, List, Ok, Err, refl, sym, ap, subst}
use Rattle.std.specs.Prelude.{Result, IsTrue}
use Rattle.asked_project.specs.Asking.{Variables, asked_or_not, options_asked, read_or_refused}
use Rattle.compose_words.specs.Reading.{IsUnlessMemory, options_of}
use Rattle.compose_words.specs.declared.Options.{Options}
use Rattle.compose_words.specs.declared.WordsRefusal.{WordsRefusal}
use Rattle.loaded_files.specs.declared.LoadRefusal.{LoadRefusal}
use Rattle.refusals.specs.Origins.{IsOfAsking, is_of_words, words_refusal}
use Rattle.refusals.specs.Refused.{wants_memory}
use Rattle.refusals.specs.declared.Refusal.{Refusal}
use Rattle.tree_base.specs.Answers.{◌>>=◌, Fails, Gives, Unless}

-- a call that answers exactly gives the answer
pub exactly : {X : Type 0} (given answer : Result X Refusal) → given ≡ answer → Gives wants_memory given answer
exactly (Ok x) answer e = sym e
exactly {X} (Err refusal) answer e = at (wants_memory refusal)
  where
    at : (wants : Bool) → Unless wants (answer ≡ Err refusal)
    at true = tt
    at false = sym e

-- words that read well go on to what may be refused of their options
pub words_read : (words : List (List ℕ)) (env : Variables) (options : Options) (answer : Result Options Refusal) → options_of words ≡ Ok options → Gives wants_memory answer (asked_or_not env options)
    → Gives wants_memory answer (options_asked words env)
words_read words env options answer e h = subst (λ (read : Result Options WordsRefusal). Gives wants_memory answer (read_or_refused read >>= asked_or_not env)) (sym e) h

abbrev further : Variables → Result Options WordsRefusal → Result Options Refusal
further env read = read_or_refused read >>= asked_or_not env

-- what words are refused with, unless memory was wanted
pub words_refused : (words : List (List ℕ)) (env : Variables) (refusal : WordsRefusal) (joined : Refusal) → joined ≡ words_refusal refusal → IsUnlessMemory (Err refusal) (options_of words)
    → Fails wants_memory joined (options_asked words env)
words_refused words env refusal joined is h = subst (λ (r : Refusal). Fails wants_memory r (options_asked words env)) (sym is) (at refusal h)
  where
    at : (refusal : WordsRefusal) → IsUnlessMemory (Err refusal) (options_of words) → Fails wants_memory (words_refusal refusal) (options_asked words env)
    at (WordsRefusal.UnknownWord place) e = ap (further env) e
    at (WordsRefusal.MissingValue place) e = ap (further env) e
    at (WordsRefusal.BadNumber place) e = ap (further env) e
    at (WordsRefusal.BadChoice place) e = ap (further env) e
    at (WordsRefusal.Twice place) e = ap (further env) e
    at WordsRefusal.NoCommand e = ap (further env) e
    at WordsRefusal.BadHost e = ap (further env) e
    at WordsRefusal.Memory e = tt

pub words_kind : (refusal : WordsRefusal) (joined : Refusal) → joined ≡ words_refusal refusal → IsTrue (is_of_words joined || wants_memory joined)
words_kind refusal joined is = subst (λ (r : Refusal). IsTrue (is_of_words r || wants_memory r)) (sym is) (at refusal)
  where
    at : (refusal : WordsRefusal) → IsTrue (is_of_words (words_refusal refusal) || wants_memory (words_refusal refusal))
    at (WordsRefusal.UnknownWord place) = refl
    at (WordsRefusal.MissingValue place) = refl
    at (WordsRefusal.BadNumber place) = refl
    at (WordsRefusal.BadChoice place) = refl
    at (WordsRefusal.Twice place) = refl
    at WordsRefusal.NoCommand = refl
    at WordsRefusal.BadHost = refl
    at WordsRefusal.Memory = refl

-- a refusal of words, and a want of memory, are of what is asked for, and are no read that failed
pub words_of_asking : (refusal : Refusal) → IsTrue (is_of_words refusal || wants_memory refusal) → IsOfAsking refusal
words_of_asking (Refusal.Words words) h = tt
words_of_asking (Refusal.NotBuilt unbuilt) h = tt
words_of_asking (Refusal.Load load) h = tt
words_of_asking (Refusal.Name name) h = tt
words_of_asking (Refusal.Active active) h = tt
words_of_asking (Refusal.Project project) h = tt
words_of_asking (Refusal.Digest digest) h = absurd (cc h)
words_of_asking (Refusal.Identity identity) h = absurd (cc h)
words_of_asking (Refusal.Seen fault) h = absurd (cc h)
words_of_asking (Refusal.Request request outcome) h = absurd (cc h)
words_of_asking (Refusal.Condition slot condition report) h = absurd (cc h)
words_of_asking Refusal.Stopped h = absurd (cc h)
words_of_asking (Refusal.Late why) h = absurd (cc h)
words_of_asking (Refusal.Outside part) h = absurd (cc h)
words_of_asking Refusal.Memory h = tt

pub words_no_read : (refusal : Refusal) (path : List ℕ) → IsTrue (is_of_words refusal || wants_memory refusal) → refusal ≡ Refusal.Load (LoadRefusal.ReadFault path) → ⊥
words_no_read refusal path h e = let bad : IsTrue false = subst (λ (r : Refusal). IsTrue (is_of_words r || wants_memory r)) e h in cc bad

-- a refusal of words wants no memory
pub words_no_memory : (refusal : Refusal) → IsTrue (is_of_words refusal) → wants_memory refusal ≡ false
words_no_memory (Refusal.Words words) h = refl
words_no_memory (Refusal.NotBuilt unbuilt) h = refl
words_no_memory (Refusal.Load load) h = refl
words_no_memory (Refusal.Name name) h = refl
words_no_memory (Refusal.Active active) h = refl
words_no_memory (Refusal.Project project) h = refl
words_no_memory (Refusal.Digest digest) h = refl
words_no_memory (Refusal.Identity identity) h = refl
words_no_memory (Refusal.Seen fault) h = refl
words_no_memory (Refusal.Request request outcome) h = refl
words_no_memory (Refusal.Condition slot condition report) h = refl
words_no_memory Refusal.Stopped h = refl
words_no_memory (Refusal.Late why) h = refl
words_no_memory (Refusal.Outside part) h = refl
words_no_memory Refusal.Memory h = absurd (cc h)
