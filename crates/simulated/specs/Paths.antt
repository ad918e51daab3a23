-- Lists of paths in their order.
use Rattle.std.specs.Prelude.{ℕ, Bool, cond, not, ◌||◌, List, length, map, Ok, Err, filter, Result, nat_lt}
use Rattle.paths.specs.Names.{Names, same_path}
use Rattle.paths.specs.Order.{before_path}
use Rattle.tables.specs.declared.full.NoPlace.{NoPlace}
use Rattle.tables.specs.declared.entry.Entry.{Entry}
use Rattle.tables.specs.Lists.{any, placed}

-- The paths that a table's entries stand under.
abbrev pub keys : List (Entry Names (Unit {0})) → List Names
keys es = map (λ e. e.key) es

-- Whether p stands in the list.
abbrev pub holds : Names → List Names → Bool
holds p xs = any (λ x. same_path x p) xs

-- Whether p stands in a list of at most n paths, or finds a place there.
abbrev pub takes : ℕ → Names → List Names → Bool
takes n p xs = holds p xs || nat_lt (length xs) n

-- The list with p, which is put before the first path that is not before it, unless it stands there already.
abbrev pub joined : Names → List Names → List Names
joined p xs = cond (holds p xs) xs (placed (λ x. not (before_path x p)) p xs)

-- The list without p.
abbrev pub parted : Names → List Names → List Names
parted p xs = filter (λ x. not (same_path x p)) xs

-- The reply and the list after p is put into a list of at most n paths.
abbrev pub entered : ℕ → Names → List Names → Result (Unit {0}) NoPlace × List Names
entered n p xs = cond (takes n p xs) (Ok tt, joined p xs) (Err (record {}), xs)
