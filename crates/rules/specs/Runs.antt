-- What scanner and filterer say, and the tree of requests to a backend.
use Rattle.std.specs.Prelude.{◌≡◌, Bool}
use Rattle.paths.specs.Names.{Names}
use Rattle.outside.specs.Answers.{Classified, Listed, Verdict}
use Rattle.outside.specs.Requests.{Request, Answer}

-- Scanner and filterer answer the same question always the same way.
pub record World : Type 0 where
  pub classified : Names → Bool → Classified
  pub listed : Names → Listed
  pub verdict : Names → Verdict

-- An end, or a request and what follows each answer.
pub data Run (A : Type 0) : Type 0 where
  end : A → Run A
  ask : Request → (Answer → Run A) → Run A

-- One after the other.
abbrev pub then : {A C : Type 0} → Run A → (A → Run C) → Run C
then (end x) f = f x
then (ask q k) f = ask q (λ a. then (k a) f)

-- Between two states of a backend this run was gone through, and P holds of what it gave. Each request was made and answered, in this order.
abbrev pub Ran : {A B : Type 0} → (B → Request → Answer → B → Type 0) → Run A → B → B → (A → Type 0) → Type 0
Ran did (end x) b c P = P x × (c ≡ b)
Ran {A} {B} did (ask q k) b c P = (a : Answer) × (m : B) × did b q a m × Ran did (k a) m c P
