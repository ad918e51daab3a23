-- What is learnt from scanner and filterer, by recursion on the path.
use Rattle.std.specs.Prelude.{ℕ, Bool, true, false, cond, [], ◌∷◌, Ok, Err}
use Rattle.paths.specs.Names.{Names, same_path}
use Rattle.outside.specs.declared.cause.ScanCause.{ScanCause}
use Rattle.outside.specs.declared.cause.ScanCause.TheVariants.{NotFound, Number}
use Rattle.outside.specs.Answers.{Entry, directory, symlink, other, Classified, Verdict}

-- How a configured root stands: an entry, not found (and which path is missing), not safe, or a cause at a path.
pub data RootState : Type 0 where
  entry : Entry → RootState
  missing : Names → RootState
  unsafe : RootState
  failing : Names → ScanCause → RootState

-- The directory that guards a root: none, or its path and canonical path, or a cause at a path on the way.
pub data Place : Type 0 where
  nowhere : Place
  found : Names → Names → Place
  blocked : Names → ScanCause → Place

-- A walk from "/" down to a path: all are directories, and the last has this canonical path; or it ended before.
pub data Descent : Type 0 where
  reaches : Names → Descent
  ended : Place → Descent

-- Whether a path is allowed for a root, or the filterer's fault at a path.
pub data Permit : Type 0 where
  allowed : Permit
  refused : Permit
  balked : Names → ℕ → Permit

-- A cause at a path: it is missing, or it fails.
abbrev pub by_cause : Names → ScanCause → RootState
by_cause p NotFound = missing p
by_cause p (Number n) = failing p (Number n)

-- The root's own classification, when following.
abbrev pub followed : Names → Classified → RootState
followed p (Ok e) = entry e
followed p (Err c) = by_cause p c

-- An entry at the end of the walk without following: a link is not safe.
abbrev pub by_entry : Entry → RootState
by_entry (directory c) = entry (directory c)
by_entry symlink = unsafe
by_entry other = entry other

-- The classification at the end of the walk without following.
abbrev pub reached : Names → Classified → RootState
reached p (Ok e) = by_entry e
reached p (Err c) = by_cause p c

-- A cause on the way to a guard: what is not found is passed over.
abbrev pub past_cause : Names → Place → ScanCause → Place
past_cause p other_place NotFound = other_place
past_cause p other_place (Number n) = blocked p (Number n)

-- With following: the path itself if it is a directory, else what lies further up.
abbrev pub ascend_by : Names → Place → Classified → Place
ascend_by p further (Ok (directory c)) = found p c
ascend_by p further (Ok symlink) = further
ascend_by p further (Ok other) = further
ascend_by p further (Err c) = past_cause p further c

-- Without following: one directory more, or the walk ends with what was found before.
abbrev pub landed : Names → Place → Classified → Descent
landed p before (Ok (directory c)) = reaches c
landed p before (Ok symlink) = ended before
landed p before (Ok other) = ended before
landed p before (Err c) = ended (past_cause p before c)

-- The path itself if the walk reached it.
abbrev pub last_found : Names → Descent → Place
last_found p (reaches c) = found p c
last_found p (ended x) = x

-- What a verdict permits.
abbrev pub permit : Names → Verdict → Permit
permit p (Ok true) = allowed
permit p (Ok false) = refused
permit p (Err n) = balked p n

module _ (look : Names → Bool → Classified) where
  -- Below a directory the walk goes on, below anything else it ends.
  abbrev pub beneath : Names → RootState → RootState
  beneath p (entry (directory c)) = reached p (look p false)
  beneath p (entry symlink) = unsafe
  beneath p (entry other) = unsafe
  beneath p (missing q) = missing q
  beneath p unsafe = unsafe
  beneath p (failing q c) = failing q c

  -- Without following, every path above must be a directory, from "/" down.
  unfoldable pub not_followed : Names → RootState
  not_followed [] = reached [] (look [] false)
  not_followed (n ∷ p) = beneath (n ∷ p) (not_followed p)

  -- How a configured root stands, with or without following.
  unfoldable pub classify_explicit_root : Bool → Names → RootState
  classify_explicit_root true p = followed p (look p true)
  classify_explicit_root false p = not_followed p

  -- With following: the nearest directory at or above a path.
  unfoldable pub ascend : Names → Place
  ascend [] = ascend_by [] nowhere (look [] true)
  ascend (n ∷ p) = ascend_by (n ∷ p) (ascend p) (look (n ∷ p) true)

  -- Below a directory the walk goes on.
  abbrev pub further_down : Names → Names → Descent → Descent
  further_down q p (reaches c) = landed q (found p c) (look q false)
  further_down q p (ended x) = ended x

  -- Without following: from "/" down to this path.
  unfoldable pub descend : Names → Descent
  descend [] = landed [] nowhere (look [] false)
  descend (n ∷ p) = further_down (n ∷ p) p (descend p)

  -- The directory above p that guards it: the nearest, or the last of the unbroken run from "/".
  abbrev pub guard_above : Bool → Names → Place
  guard_above true p = ascend p
  guard_above false p = last_found p (descend p)

  -- The nearest safe directory above a root's path; "/" has none.
  unfoldable pub guard_place : Bool → Names → Place
  guard_place follow [] = nowhere
  guard_place follow (n ∷ p) = guard_above follow p

module _ (verdict : Names → Verdict) where
  -- The verdict of a path counts if those above allow it.
  abbrev pub permitted : Names → Permit → Permit
  permitted p allowed = permit p (verdict p)
  permitted p refused = refused
  permitted p (balked q n) = balked q n

  -- Each path from just below the root down to this one must be allowed; a path that is not below is refused.
  unfoldable pub candidate_allowed : Names → Names → Permit
  candidate_allowed root [] = cond (same_path [] root) allowed refused
  candidate_allowed root (n ∷ p) = cond (same_path (n ∷ p) root) allowed (permitted (n ∷ p) (candidate_allowed root p))
