-- What a backend is asked, what it answers, and what an answer does to its book.
use Rattle.std.specs.Prelude.{◌≡◌, Bool, not, ◌&&◌, ◌||◌, Option}
use Rattle.paths.specs.Names.{Names, same_path}
use Rattle.outside.specs.declared.cause.BackendCause.{BackendCause}
use Rattle.outside.specs.declared.cause.BackendCause.TheVariants.{PathNotFound, WatchNotFound, MaxFilesWatch, Io, Other}

-- The two requests.
pub data Request : Type 0 where
  watch : Names → Request
  unwatch : Names → Request

-- Done, or a cause with one path or none.
pub data Answer : Type 0 where
  done : Answer
  failed : BackendCause → Option Names → Answer

-- A book after p was put on it.
abbrev pub put : Names → (Names → Bool) → (Names → Bool)
put p book q = same_path q p || book q

-- A book after p was taken off it.
abbrev pub off : Names → (Names → Bool) → (Names → Bool)
off p book q = not (same_path q p) && book q

-- An unwatch that failed leaves the book, but for a path that was not watched.
abbrev pub unwatched : BackendCause → Names → (Names → Bool) → (Names → Bool)
unwatched PathNotFound p book = book
unwatched WatchNotFound p book = off p book
unwatched MaxFilesWatch p book = book
unwatched (Io n) p book = book
unwatched Other p book = book

-- The book after a request and its answer: a watch done puts its path on, an unwatch done or of a path
-- not watched takes its path off, and any other answer leaves the book.
abbrev pub book_after : Request → Answer → (Names → Bool) → (Names → Bool)
book_after (watch p) done book = put p book
book_after (watch p) (failed c at) book = book
book_after (unwatch p) done book = off p book
book_after (unwatch p) (failed c at) book = unwatched c p book

-- Between the two books this request was made and that answer came.
abbrev pub Means : (Names → Bool) → Request → Answer → (Names → Bool) → Type 0
Means before q a after = (p : Names) → after p ≡ book_after q a before p
