-- Requests of observation are told apart by what they say.
use Rattle.std.proofs.Common.{◌≡◌, ℕ, true, List, ◌∷◌, refl, ap}
use Rattle.std.proofs.lemmas.Slice.Eq.{bytes_eq-Decides}
use Rattle.std.specs.Str.{bytes_eq}
use Rattle.engine_types.specs.declared.Exchange.{Exchange}
use Rattle.engine_types.specs.declared.Outcome.{Outcome}
use Rattle.engine_types.specs.declared.Request.{Request}
use Rattle.run_model.specs.Observation.{Onward, asking, is_request}

pub same_text : (s : List ℕ) → bytes_eq s s ≡ true
same_text s = (bytes_eq-Decides s s).1 refl

pub same_listing : (project : List ℕ) → is_request (Request.ListContainers project) (Request.ListContainers project) ≡ true
same_listing project = same_text project

pub same_image : (name : List ℕ) → is_request (Request.Image name) (Request.Image name) ≡ true
same_image name = same_text name

pub same_pull : (name : List ℕ) → is_request (Request.Pull name) (Request.Pull name) ≡ true
same_pull name = same_text name

-- an exchange of the request that is asked leads on with its outcome
pub asking_on : (request : Request) (onward : Outcome → List Exchange → Onward) (outcome : Outcome) (rest : List Exchange) → is_request request request ≡ true
    → asking request onward (record { request = request; outcome = outcome } ∷ rest) ≡ onward outcome rest
asking_on request onward outcome rest e = rw e refl

-- a request of observation that is this one is this one
pub request_is : (request other : Request) → is_request request other ≡ true → request ≡ other
request_is (Request.ListContainers project) (Request.ListContainers other) e = ap (λ (p : List ℕ). Request.ListContainers p) ((bytes_eq-Decides project other).0 e)
request_is Request.ListNetworks Request.ListNetworks e = refl
request_is Request.ListVolumes Request.ListVolumes e = refl
request_is (Request.Image name) (Request.Image other) e = ap (λ (n : List ℕ). Request.Image n) ((bytes_eq-Decides name other).0 e)
request_is (Request.Pull name) (Request.Pull other) e = ap (λ (n : List ℕ). Request.Pull n) ((bytes_eq-Decides name other).0 e)
request_is _ _ e = absurd (cc e)
