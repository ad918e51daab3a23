-- What an answer of a board or of a roll does to its book.
use Rattle.std.specs.Prelude.{◌≡◌, List, refl}
use Rattle.std.proofs.Common.{ap, sym, ◌∙◌, inl, inr, arith}
use Rattle.std.proofs.lemmas.Bool.{cases_Bool}
use Rattle.paths.specs.Names.{Names}
use Rattle.outside.specs.declared.cause.BackendCause.TheVariants.{PathNotFound, WatchNotFound, MaxFilesWatch, Io, Other}
use Rattle.outside.specs.Requests.{Request, watch, unwatch, Answer, done, failed, book_after, Means}
use Rattle.simulated.specs.Paths.{holds, takes}
use Rattle.simulated.specs.Board.{Board, answer, after}
use Rattle.simulated.specs.declared.roll.Roll.{Roll}
use Rattle.simulated.specs.Roll.{booked, next, answer as answer_on, after as after_on}
use Rattle.simulated.specs.Sets.{joined_on, parted_off, unheld_off}

-- The answer that came, and the state that came of it, are those that are due.
abbrev pub Due : {S : Type 0} → (S → Request → Answer) → (S → Request → S) → S → Request → Answer → S → Type 0
Due answer_of state_of s q a t = (a ≡ answer_of s q) × (t ≡ state_of s q)

-- What the due answer and the due state mean holds of the answer and the state that came.
came : {S : Type 0} (book : S → List Names) (s t due : S) (q : Request) (a said : Answer) → (a ≡ said) × (t ≡ due)
    → Means (λ p. holds p (book s)) q said (λ p. holds p (book due)) → Means (λ p. holds p (book s)) q a (λ p. holds p (book t))
came book s t due q a said d m p =
    ap (λ x. holds p (book x)) d.1 ∙ (m p ∙ sym (ap (λ x. book_after q x (λ y. holds y (book s)) p) d.0))

board_means : (b : Board) (q : Request) → Means (λ p. holds p b.held) q (answer b q) (λ p. holds p (after b q).held)
board_means b (watch w) p =
    let j = joined_on w p b.held in
    let d = cases_Bool (takes b.slots w b.held) in
    grind arith
board_means b (unwatch w) p =
    let o = parted_off w p b.held in
    elim (cases_Bool (holds w b.held)) [ inl e ↦ grind arith | inr e ↦ let u = unheld_off w p b.held e in grind arith ]

pub board_did : (b : Board) (q : Request) (a : Answer) (c : Board) → Due answer after b q a c → Means (λ p. holds p b.held) q a (λ p. holds p c.held)
board_did b q a c d = came (λ x. x.held) b c (after b q) q a (answer b q) d (board_means b q)

-- the paths follow the meaning of any answer
booked_means : (q : Request) (a : Answer) (xs : List Names) → Means (λ p. holds p xs) q a (λ p. holds p (booked q a xs))
booked_means (watch w) done xs p = joined_on w p xs
booked_means (watch w) (failed c at) xs p = refl
booked_means (unwatch w) done xs p = parted_off w p xs
booked_means (unwatch w) (failed PathNotFound at) xs p = refl
booked_means (unwatch w) (failed WatchNotFound at) xs p = parted_off w p xs
booked_means (unwatch w) (failed MaxFilesWatch at) xs p = refl
booked_means (unwatch w) (failed (Io n) at) xs p = refl
booked_means (unwatch w) (failed Other at) xs p = refl

roll_means : (r : Roll) (q : Request) → Means (λ p. holds p r.book) q (answer_on r q) (λ p. holds p (after_on r q).book)
roll_means r (watch w) p =
    let m = booked_means (watch w) (next r.answers) r.book p in
    let d = cases_Bool (takes 128 w r.book) in
    grind arith
roll_means r (unwatch w) p = booked_means (unwatch w) (next r.answers) r.book p

pub roll_did : (r : Roll) (q : Request) (a : Answer) (t : Roll) → Due answer_on after_on r q a t → Means (λ p. holds p r.book) q a (λ p. holds p t.book)
roll_did r q a t d = came (λ x. x.book) r t (after_on r q) q a (answer_on r q) d (roll_means r q)
