-- The digits of a number, one after another.
use Rattle.std.proofs.Common.{◌≡◌, ℕ, ◌+◌, ◌-◌, ◌*◌, ◌^◌, ◌≤◌, List, [], ◌∷◌, Some, None, arith}
use Rattle.std.proofs.lemmas.Bool.{cases_Bool}
use Rattle.std.proofs.lemmas.Bool.Decides.{nat_tests}
use Rattle.scenario.specs.Numbers.{decimal, joined, onward}

-- a number that is too large stays so
past : (n : ℕ) (bs : List ℕ) → 2 ^ 64 ≤ n → onward n bs ≡ None
past n [] h = grind (arith, nat_tests)
past n (b ∷ bs) h =
    let i = past (10 * n + (b - 48)) bs (omega arith) in
    let t = cases_Bool (decimal b) in
    grind arith

pub onward_refused : (n b : ℕ) (bs : List ℕ) → None ≡ joined n b → onward n (b ∷ bs) ≡ None
onward_refused n b bs e =
    let p = past (10 * n + (b - 48)) bs in
    let t = cases_Bool (decimal b) in
    grind (arith, nat_tests)

pub onward_more : (n b m : ℕ) (bs : List ℕ) → Some m ≡ joined n b → onward n (b ∷ bs) ≡ onward m bs
onward_more n b m bs e =
    let t = cases_Bool (decimal b) in
    grind (arith, nat_tests)
