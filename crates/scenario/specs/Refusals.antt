-- Why a word gives no text.
use Rattle.std.specs.Prelude.{ℕ, List, Some, None, Option}
use Rattle.scenario.specs.declared.reading.TextError.{TextError}
use Rattle.scenario.specs.declared.reading.TextError.TheVariants.{BadText, NoMemory}

-- a word that stands for a text is refused only where there is no memory for it
abbrev pub refusal : Option (List ℕ) → TextError
refusal None = BadText
refusal (Some bs) = NoMemory
