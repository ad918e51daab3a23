-- What a method does by its definition.
use Rattle.std.specs.Prelude.{◌≡◌, Result}
use Rattle.outside.specs.Requests.{Request, Answer}
use Rattle.tables.specs.declared.full.NoPlace.{NoPlace}
use Rattle.rules.specs.Runs.{end, Ran}
use Rattle.rules.specs.Acts.{Act, Progress, outcome}

-- From n the act makes no request and ends with this reply at m.
abbrev pub Ends : {A : Type 0} → Act A → Progress → Result A NoPlace → Progress → Type 0
Ends act n r m = act n ≡ end (outcome r m)

-- From n, with the backend at b, the act makes its requests and ends with this reply at m, with the backend at c.
abbrev pub Does : {A B : Type 0} → (B → Request → Answer → B → Type 0) → Act A → Progress → B → Result A NoPlace → Progress → B → Type 0
Does did act n b r m c = Ran did (act n) b c (λ o. o ≡ outcome r m)
