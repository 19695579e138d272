-- Exchanges in a hand's log, and what is told of them.
use Rattle.std.proofs.Common.{◌≡◌, ◌∙◌, ℕ, false, List, [], ◌∷◌, ◌++◌, Some, refl, sym, ap, subst, inl, inr, append_assoc}
use Rattle.std.proofs.lemmas.List.{append-nil}
use Rattle.engine_types.specs.declared.Exchange.{Exchange}
use Rattle.engine_types.specs.declared.Outcome.{Outcome}
use Rattle.engine_types.specs.declared.Request.{Request}
use Rattle.outside_api.specs.Hands.{Logs}
use Rattle.run_model.specs.Logs.{GrowsBy, IsLogOf, is_memory}
use Rattle.logs_run.specs.Fetching.{bytes_told}

-- logs of exchanges one after another
log_append : (xs ys j k : List Exchange) → IsLogOf xs j → IsLogOf ys k → IsLogOf (xs ++ ys) (j ++ k)
log_append [] ys j k e h = subst (λ (l : List Exchange). IsLogOf ys (l ++ k)) (sym e) h
log_append (x ∷ xs) ys [] [] b h = (b.0, log_append xs ys [] [] b.1 h)
log_append (x ∷ xs) ys [] (y ∷ k) b h = inr (b.0, log_append xs ys [] (y ∷ k) b.1 h)
log_append (x ∷ xs) ys (y ∷ j) k (inl b) h = inl (b.0, log_append xs ys j k b.1 h)
log_append (x ∷ xs) ys (y ∷ j) k (inr b) h = inr (b.0, log_append xs ys (y ∷ j) k b.1 h)

pub grows_append : (xs ys a b c : List Exchange) → GrowsBy xs a b → GrowsBy ys b c → GrowsBy (xs ++ ys) a c
grows_append xs ys a b c g h = record {
  more = g.more ++ h.more;
  grown = h.grown ∙ ap (λ (l : List Exchange). l ++ h.more) g.grown ∙ append_assoc a g.more h.more;
  are = log_append xs ys g.more h.more g.are h.are;
}

pub log_still : (a : List Exchange) → GrowsBy [] a a
log_still a = record { more = []; grown = sym (append-nil a); are = refl }

logged_so : (old new : List Exchange) (x : Exchange) → new ≡ old ++ x ∷ [] → GrowsBy (x ∷ []) old new
logged_so old new x e = record { more = x ∷ []; grown = e; are = inl (refl, refl) }

pub grows_one : (old : List Exchange) (request : Request) (outcome : Outcome) (new : List Exchange) → Logs old request outcome new
    → GrowsBy (record { request = request; outcome = outcome } ∷ []) old new
grows_one old request Outcome.Memory new (inl e) = record { more = []; grown = e ∙ sym (append-nil old); are = (refl, refl) }
grows_one old request Outcome.Memory new (inr e) = logged_so old new _ e
grows_one old request (Outcome.Answered reply) new e = logged_so old new _ e
grows_one old request (Outcome.Lost cause) new e = logged_so old new _ e
grows_one old request Outcome.NotSent new e = logged_so old new _ e

-- bytes aren't want of memory
pub bytes_came : (outcome : Outcome) (bytes : List ℕ) → bytes_told outcome ≡ Some bytes → is_memory outcome ≡ false
bytes_came (Outcome.Answered reply) bytes e = refl
bytes_came (Outcome.Lost cause) bytes e = refl
bytes_came Outcome.NotSent bytes e = refl
bytes_came Outcome.Memory bytes e = absurd cc
