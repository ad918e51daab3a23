-- A text of any bytes as a word, and back.
use Rattle.std.specs.Prelude.{◌≡◌, ℕ, ◌+◌, ◌-◌, ◌*◌, ◌/◌, ◌%◌, ◌<◌, Bool, cond, not, ◌&&◌, List, [], ◌∷◌, ◌++◌, Some, None, Option, ◌==◌, nat_le, nat_lt}
use Rattle.std.specs.List.{AllByRecursion}
use Rattle.scenario.specs.Words.{words}

-- a byte that stands for itself: from '!' to '~', but '%'
abbrev pub plain : ℕ → Bool
plain b = nat_le 33 b && nat_le b 126 && not (b == 37)

-- the upper-case hex digit of a number below 16
abbrev pub hex : ℕ → ℕ
hex n = cond (nat_lt n 10) (48 + n) (55 + n)

-- a byte as it stands in a word
abbrev pub written : ℕ → List ℕ
written b = cond (plain b) (b ∷ []) (37 ∷ hex (b / 16) ∷ hex (b % 16) ∷ [])

-- its bytes, one after another
abbrev pub spelt : List ℕ → List ℕ
spelt [] = []
spelt (b ∷ bs) = written b ++ spelt bs

-- the word for a text: '%' alone for the empty one
abbrev pub encoded : List ℕ → List ℕ
encoded [] = 37 ∷ []
encoded (b ∷ bs) = spelt (b ∷ bs)

-- what an upper-case hex digit stands for
abbrev pub nibble : ℕ → Option ℕ
nibble d = cond (nat_le 48 d && nat_le d 57) (Some (d - 48)) (cond (nat_le 65 d && nat_le d 70) (Some (d - 55)) None)

-- the byte of two hex digits
abbrev pub paired : Option ℕ → Option ℕ → Option ℕ
paired None l = None
paired (Some h) None = None
paired (Some h) (Some l) = Some (16 * h + l)

-- a byte and then the others, where both can be read
abbrev pub before : Option ℕ → Option (List ℕ) → Option (List ℕ)
before None t = None
before (Some b) None = None
before (Some b) (Some bs) = Some (b ∷ bs)

abbrev mutual
  -- the bytes that the characters of a word stand for
  pub read : List ℕ → Option (List ℕ)
  read [] = Some []
  read (b ∷ bs) = cond (b == 37) (escaped bs) (cond (plain b) (before (Some b) (read bs)) None)

  -- two hex digits after a '%', and then the others
  pub escaped : List ℕ → Option (List ℕ)
  escaped [] = None
  escaped (h ∷ []) = None
  escaped (h ∷ l ∷ bs) = before (paired (nibble h) (nibble l)) (read bs)

-- a byte that stands for itself, and nothing for any other
abbrev pub alone : ℕ → Option ℕ
alone b = cond (plain b) (Some b) None

-- what each character of a word stands for, one after another, and nothing where it cannot be read
abbrev pub chars : List ℕ → List (Option ℕ)
chars [] = []
chars (b ∷ []) = alone b ∷ []
chars (b ∷ h ∷ []) = alone b ∷ alone h ∷ []
chars (b ∷ h ∷ l ∷ bs) = cond (b == 37) (paired (nibble h) (nibble l) ∷ chars bs) (alone b ∷ chars (h ∷ l ∷ bs))

-- the text that a word stands for; no text is the empty word
abbrev pub decoded : List ℕ → Option (List ℕ)
decoded [] = None
decoded (b ∷ []) = cond (b == 37) (Some []) (read (b ∷ []))
decoded (b ∷ c ∷ bs) = read (b ∷ c ∷ bs)

-- every text of bytes comes back from its word
abbrev pub ComesBack : Type 0
ComesBack = (bs : List ℕ) → AllByRecursion (λ b. b < 256) bs → decoded (encoded bs) ≡ Some bs

-- what is written of a text is one word
abbrev pub OneWord : Type 0
OneWord = (bs : List ℕ) → words (encoded bs) ≡ encoded bs ∷ []
