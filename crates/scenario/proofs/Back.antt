-- The word of a text is one word, and stands for that text.
use Rattle.std.proofs.Common.{◌≡◌, ℕ, ◌+◌, ◌*◌, ◌/◌, ◌%◌, ◌<◌, false, List, [], ◌∷◌, ◌++◌, Some, refl, ◌∙◌, arith}
use Rattle.std.proofs.lemmas.Bool.{cond_both}
use Rattle.std.proofs.lemmas.Bool.Decides.{nat_tests}
use Rattle.std.specs.List.{All, AllByRecursion}
use Rattle.std.proofs.lemmas.List.Elements.{All-from_recursion, All-nil, All-append}
use Rattle.std.proofs.lemmas.List.Splits.{slice_split_none}
use Rattle.scenario.specs.Words.{space}
use Rattle.scenario.specs.Escapes.{plain, hex, written, spelt, nibble, read, decoded, ComesBack, OneWord}

-- the word of a byte that does not stand for itself
abbrev escape : ℕ → List ℕ
escape b = 37 ∷ hex (b / 16) ∷ hex (b % 16) ∷ []

nibble_hex : (n : ℕ) → n < 16 → nibble (hex n) ≡ Some n
nibble_hex n h = grind (arith, nat_tests)

-- one more byte in front
read_written : (b : ℕ) (w bs : List ℕ) → b < 256 → read w ≡ Some bs → read (written b ++ w) ≡ Some (b ∷ bs)
read_written b w bs h e =
    let u = nibble_hex (b / 16) (omega arith) in
    let l = nibble_hex (b % 16) (omega arith) in
    let m : 16 * (b / 16) + b % 16 ≡ b = omega arith in
    cond_both (plain b) (b ∷ []) (escape b) (λ x. read (x ++ w) ≡ Some (b ∷ bs))
    (λ p. grind (arith, nat_tests))
    (λ p. grind arith)

read_spelt : (bs : List ℕ) → AllByRecursion (λ b. b < 256) bs → read (spelt bs) ≡ Some bs
read_spelt [] h = refl
read_spelt (b ∷ bs) h = read_written b (spelt bs) bs h.0 (read_spelt bs h.1)

-- '%' alone is not what a byte and more are written as
decoded_written : (b : ℕ) (w : List ℕ) → decoded (written b ++ w) ≡ read (written b ++ w)
decoded_written b [] =
    cond_both (plain b) (b ∷ []) (escape b) (λ x. decoded (x ++ []) ≡ read (x ++ [])) (λ p. grind (arith, nat_tests)) (λ p. refl)
decoded_written b (c ∷ w) =
    cond_both (plain b) (b ∷ []) (escape b) (λ x. decoded (x ++ c ∷ w) ≡ read (x ++ c ∷ w)) (λ p. refl) (λ p. refl)

pub comes_back : ComesBack
comes_back [] h = refl
comes_back (b ∷ bs) h = decoded_written b (spelt bs) ∙ read_spelt (b ∷ bs) h

-- no byte of what is written is a space
hex_clear : (n : ℕ) → space (hex n) ≡ false
hex_clear n = grind (arith, nat_tests)

written_clear : (b : ℕ) → All (λ c. space c ≡ false) (written b)
written_clear b =
    All-from_recursion (λ c. space c ≡ false) (written b)
    (cond_both (plain b) (b ∷ []) (escape b) (AllByRecursion (λ c. space c ≡ false)) (λ p. (grind (arith, nat_tests), tt)) (λ p. (refl, (hex_clear (b / 16), (hex_clear (b % 16), tt)))))

spelt_clear : (bs : List ℕ) → All (λ c. space c ≡ false) (spelt bs)
spelt_clear [] = All-nil (λ c. space c ≡ false)
spelt_clear (b ∷ bs) = All-append (λ c. space c ≡ false) (written b) (spelt bs) (written_clear b) (spelt_clear bs)

pub one_word : OneWord
one_word [] = refl
one_word (b ∷ bs) = slice_split_none space (spelt (b ∷ bs)) (spelt_clear (b ∷ bs))
