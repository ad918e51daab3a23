-- What a slot board answers, and what becomes of it.
use Rattle.std.specs.Prelude.{◌≡◌, ℕ, ◌*◌, ◌/◌, Bool, true, false, cond, ◌&&◌, List, [], length, None, Ok, Err, Result, nat_le}
use Rattle.paths.specs.Names.{Names}
use Rattle.outside.specs.declared.cause.BackendCause.TheVariants.{WatchNotFound, MaxFilesWatch}
use Rattle.outside.specs.Requests.{Request, watch, unwatch, Answer, done, failed}
use Rattle.simulated.specs.declared.board.error.BoardError.{BoardError}
use Rattle.simulated.specs.declared.board.error.BoardError.TheVariants.{Slots, NoMemory}
use Rattle.simulated.specs.Paths.{holds, takes, joined, parted}

-- The number of its slots, and the paths that they hold.
pub record Board : Type 0 where
  pub slots : ℕ
  pub held : List Names

-- A board has 1 to 64 slots.
abbrev pub allowed : ℕ → Bool
allowed slots = nat_le 1 slots && nat_le slots 64

-- A board that holds nothing.
abbrev pub bare : ℕ → Board
bare slots = record { slots = slots; held = [] }

-- What comes of making a board: the number of slots is refused just when it is not allowed; else the board holds nothing,
-- or there is no memory.
abbrev pub Made : ℕ → Result Board BoardError → Type 0
Made slots (Ok b) = (allowed slots ≡ true) × (b ≡ bare slots)
Made slots (Err Slots) = allowed slots ≡ false
Made slots (Err NoMemory) = allowed slots ≡ true

-- The same slots, with these paths.
abbrev pub with_held : List Names → Board → Board
with_held xs b = record { slots = b.slots; held = xs }

-- A path is watched if it is held already or a slot is free, and unwatched if it is held.
abbrev pub answer : Board → Request → Answer
answer b (watch p) = cond (takes b.slots p b.held) done (failed MaxFilesWatch None)
answer b (unwatch p) = cond (holds p b.held) done (failed WatchNotFound None)

-- A path that was watched is held, and one that was unwatched is not; a refusal changes nothing.
abbrev pub after : Board → Request → Board
after b (watch p) = cond (takes b.slots p b.held) (with_held (joined p b.held) b) b
after b (unwatch p) = cond (holds p b.held) (with_held (parted p b.held) b) b

-- How many of a hundred slots would hold a path, the fraction dropped.
abbrev pub fill : Board → ℕ
fill b = length b.held * 100 / b.slots
