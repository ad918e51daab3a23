-- What a roll of prepared answers answers, and what becomes of it. Its answers are those that are left, the first in front;
-- its book has the paths.
use Rattle.std.specs.Prelude.{cond, List, [], ◌∷◌, ◌++◌, None, Result}
use Rattle.paths.specs.Names.{Names}
use Rattle.outside.specs.declared.cause.BackendCause.{BackendCause}
use Rattle.outside.specs.declared.cause.BackendCause.TheVariants.{PathNotFound, WatchNotFound, MaxFilesWatch, Io, Other}
use Rattle.outside.specs.Requests.{Request, watch, unwatch, Answer, done, failed}
use Rattle.tables.specs.declared.full.NoPlace.{NoPlace}
use Rattle.tables.specs.Lists.{tail}
use Rattle.tables.specs.Room.{fitted}
use Rattle.simulated.specs.declared.roll.Roll.{Roll}
use Rattle.simulated.specs.Paths.{takes, joined, parted}

-- A roll with nothing on it.
abbrev pub blank : Roll
blank = record { answers = []; book = [] }

-- The same book, with these answers.
abbrev pub with_answers : List Answer → Roll → Roll
with_answers xs r = record { answers = xs; book = r.book }

-- The reply to one more answer, and the roll then: it has at most 1024, and refuses the next.
abbrev pub reply : Answer → Roll → Result (Unit {0}) NoPlace
reply a r = (fitted 1024 r.answers (r.answers ++ a ∷ [])).0

abbrev pub filed : Answer → Roll → Roll
filed a r = with_answers (fitted 1024 r.answers (r.answers ++ a ∷ [])).1 r

-- The first answer; done when none is left.
abbrev pub next : List Answer → Answer
next [] = done
next (a ∷ rest) = a

-- The first answer is used up.
abbrev pub used : Roll → Roll
used r = with_answers (tail r.answers) r

-- Each request is given the first answer, but to watch a path for which the book of at most 128 has no place fails.
abbrev pub answer : Roll → Request → Answer
answer r (watch p) = cond (takes 128 p r.book) (next r.answers) (failed MaxFilesWatch None)
answer r (unwatch p) = next r.answers

-- The book after an unwatch failed: a path that was not watched is off it.
abbrev pub unwatched : BackendCause → Names → List Names → List Names
unwatched PathNotFound p xs = xs
unwatched WatchNotFound p xs = parted p xs
unwatched MaxFilesWatch p xs = xs
unwatched (Io n) p xs = xs
unwatched Other p xs = xs

-- The book after a request and its answer.
abbrev pub booked : Request → Answer → List Names → List Names
booked (watch p) done xs = joined p xs
booked (watch p) (failed c at) xs = xs
booked (unwatch p) done xs = parted p xs
booked (unwatch p) (failed c at) xs = unwatched c p xs

-- The first answer is used up, and the book follows it.
abbrev pub given : Request → Roll → Roll
given q r = record { answers = tail r.answers; book = booked q (next r.answers) r.book }

-- A watch for which the book has no place changes nothing, and uses no answer up.
abbrev pub after : Roll → Request → Roll
after r (watch p) = cond (takes 128 p r.book) (given (watch p) r) r
after r (unwatch p) = given (unwatch p) r
