-- What a filter of last names wants.
use Rattle.std.specs.Prelude.{Bool, true, cond, not, List, [], ◌∷◌, ◌++◌, Some, None, Ok, Option, Result}
use Rattle.paths.specs.Names.{Name, same_name}
use Rattle.tables.specs.declared.full.NoPlace.{NoPlace}
use Rattle.tables.specs.Lists.{any}
use Rattle.tables.specs.Room.{fitted}

-- Whether n is among the names.
abbrev pub among : Name → List Name → Bool
among n ns = any (λ m. same_name m n) ns

-- The reply and the names once n is refused too: one that is there changes nothing, and a 17th finds no place.
abbrev pub refused : Name → List Name → Result (Unit {0}) NoPlace × List Name
refused n ns = cond (among n ns) (Ok tt, ns) (fitted 16 ns (ns ++ n ∷ []))

-- Whether a path with that last name is wanted; "/" has none.
abbrev pub wanted : List Name → Option Name → Bool
wanted ns None = true
wanted ns (Some n) = not (among n ns)
