-- A scenario's backend and its scanner, by the one that each is made of.
use Rattle.std.specs.Prelude.{Bool, true, Ok, ◌≢◌}
use Rattle.paths.specs.Names.{Names}
use Rattle.outside.specs.Requests.{Request, Answer, Means}
use Rattle.outside.specs.Answers.{Classified, Listed, symlink}
use Rattle.simulated.specs.declared.board.Board.{Board}
use Rattle.simulated.specs.declared.roll.Roll.{Roll}
use Rattle.catalogue.specs.declared.tree.Catalogue.{Catalogue}
use Rattle.sheet.specs.declared.prepared.Sheet.{Sheet}
use Rattle.linenplane.specs.declared.ends.AnyBackend.{AnyBackend}
use Rattle.linenplane.specs.declared.ends.AnyBackend.TheVariants.{Board as OfBoard, Roll as OfRoll}
use Rattle.linenplane.specs.declared.ends.AnyScanner.{AnyScanner}
use Rattle.linenplane.specs.declared.ends.AnyScanner.TheVariants.{Catalogue as OfCatalogue, Sheet as OfSheet}

abbrev pub book_by : (Board → Names → Bool) → (Roll → Names → Bool) → AnyBackend → Names → Bool
book_by f g (OfBoard b) = f b
book_by f g (OfRoll b) = g b

-- A backend stays what it is.
abbrev pub did_by : (Board → Request → Answer → Board → Type 0) → (Roll → Request → Answer → Roll → Type 0) → AnyBackend → Request → Answer → AnyBackend → Type 0
did_by f g (OfBoard b) q a (OfBoard c) = f b q a c
did_by f g (OfBoard b) q a (OfRoll c) = ⊥
did_by f g (OfRoll b) q a (OfBoard c) = ⊥
did_by f g (OfRoll b) q a (OfRoll c) = g b q a c

pub means_by : (bookB : Board → Names → Bool) (bookR : Roll → Names → Bool) (didB : Board → Request → Answer → Board → Type 0) (didR : Roll → Request → Answer → Roll → Type 0) → ((b : Board) (q : Request) (a : Answer) (c : Board) → didB b q a c → Means (bookB b) q a (bookB c)) → ((b : Roll) (q : Request) (a : Answer) (c : Roll) → didR b q a c → Means (bookR b) q a (bookR c)) → (b : AnyBackend) (q : Request) (a : Answer) (c : AnyBackend) → did_by didB didR b q a c → Means (book_by bookB bookR b) q a (book_by bookB bookR c)
means_by bookB bookR didB didR f g (OfBoard b) q a (OfBoard c) d = f b q a c d
means_by bookB bookR didB didR f g (OfBoard b) q a (OfRoll c) d = elim d [ ]
means_by bookB bookR didB didR f g (OfRoll b) q a (OfBoard c) d = elim d [ ]
means_by bookB bookR didB didR f g (OfRoll b) q a (OfRoll c) d = g b q a c d

abbrev pub classified_by : (Catalogue → Names → Bool → Classified) → (Sheet → Names → Bool → Classified) → AnyScanner → Names → Bool → Classified
classified_by f g (OfCatalogue c) = f c
classified_by f g (OfSheet s) = g s

abbrev pub listed_by : (Catalogue → Names → Listed) → (Sheet → Names → Listed) → AnyScanner → Names → Listed
listed_by f g (OfCatalogue c) = f c
listed_by f g (OfSheet s) = g s

pub followed_by : (classC : Catalogue → Names → Bool → Classified) (classS : Sheet → Names → Bool → Classified) → ((c : Catalogue) (p : Names) → classC c p true ≢ Ok symlink) → ((s : Sheet) (p : Names) → classS s p true ≢ Ok symlink) → (s : AnyScanner) (p : Names) → classified_by classC classS s p true ≢ Ok symlink
followed_by classC classS f g (OfCatalogue c) p = f c p
followed_by classC classS f g (OfSheet s) p = g s p
