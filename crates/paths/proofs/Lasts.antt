-- The innermost name stands behind the last slash.
use Rattle.std.proofs.Common.{◌≡◌, ◌≢◌, ℕ, suc, ◌+◌, ◌-◌, ◌<◌, ◌≤◌, true, false, not, ◌&&◌, eqb, [], ◌∷◌, ◌++◌, length, get_or, drop, Some, None, Option, sym, refl, ap, ◌∙◌, subst, inl, inr, arith}
use Rattle.std.proofs.lemmas.List.{append_assoc, drop_at, length-append, get_or-append_right}
use Rattle.std.proofs.Math.Seq.{get_or-append_seam}
use Rattle.std.proofs.lemmas.List.Folds.{list_all_at}
use Rattle.std.proofs.lemmas.Bool.{and_parts, cases_lt}
use Rattle.paths.specs.Names.{Name, Names, Text, render, plain, named, good, last}
use Rattle.paths.specs.Bytes.{slash_at}

-- what has a slash is no name
slashed : (n : Name) (k : ℕ) → k < length n → get_or n k 0 ≡ 47 → plain n ≡ false
slashed n k l e = list_all_at (λ b. not (eqb b 47) && not (eqb b 0)) n k 0 l (ap (λ b. not (eqb b 47) && not (eqb b 0)) e)

-- the place of a slash behind which there is none
pub slash_is_at : (p : Names) (i : ℕ) → good p ≡ true → i < length (render p) → get_or (render p) i 0 ≡ 47 → ((k : ℕ) → i + 1 ≤ k → k < length (render p) → get_or (render p) k 0 ≢ 47) → Some i ≡ slash_at p
slash_is_at [] i g l e f = absurd (omega arith)
slash_is_at (n ∷ p) i g l e f =
    let both = and_parts (named n) (good p) g in
    let mine = and_parts (plain n) _ both.0 in
    let long = length-append (render p) (47 ∷ n) in
    elim (cases_lt i (length (render p))) [
      | inl a ↦ absurd (f (length (render p)) (omega arith) (omega arith) (get_or-append_seam (render p) 47 n 0))
      | inr b ↦ elim (cases_lt (length (render p)) i) [
        | inl d ↦
            let k = i - length (render p) - 1 in
            let at : get_or n k 0 ≡ 47 = ap (λ j. get_or (47 ∷ n) j 0) (let s : suc k ≡ i - length (render p) = omega arith in s) ∙ (sym (get_or-append_right (render p) (47 ∷ n) (length (render p)) i 0 refl b) ∙ e) in
            let no = slashed n k (omega arith) at in
            absurd (cc)
        | inr d ↦ ap Some (omega arith)
      ]
    ]

pub no_slash : (p : Names) → ((k : ℕ) → k < length (render p) → get_or (render p) k 0 ≢ 47) → None ≡ slash_at p
no_slash [] f = refl
no_slash (n ∷ p) f =
    let long = length-append (render p) (47 ∷ n) in
    absurd (f (length (render p)) (omega arith) (get_or-append_seam (render p) 47 n 0))

-- the name that stands there
pub last_is : (p : Names) (t : Text) (k : ℕ) → good p ≡ true → Some k ≡ slash_at p → t ≡ drop (k + 1) (render p) → (Some t ≡ last p) × (named t ≡ true) × (length t ≤ length (render p))
last_is [] t k g f e = absurd (cc)
last_is (n ∷ p) t k g f e =
    let both = and_parts (named n) (good p) g in
    let long = length-append (render p) (47 ∷ n) in
    let short = length-append (render p) (47 ∷ []) in
    let r : k ≡ length (render p) = cc in
    let b : drop (k + 1) (render (n ∷ p)) ≡ n = ap (drop (k + 1)) (sym (append_assoc (render p) (47 ∷ []) n)) ∙ drop_at (render p ++ 47 ∷ []) n (k + 1) (omega arith) in
    let f : t ≡ n = e ∙ b in
    let l = ap length f in
    (ap Some f, ap named f ∙ both.0, omega arith)

pub slash_found : (p : Names) (t : Text) (r : Option ℕ) → good p ≡ true → t ≡ render p →
    (r ≡ None → (k : ℕ) → k < length t → get_or t k 0 ≢ 47) →
    ((i : ℕ) → r ≡ Some i → (i < length t) × (get_or t i 0 ≡ 47) × ((k : ℕ) → i + 1 ≤ k → k < length t → get_or t k 0 ≢ 47)) → r ≡ slash_at p
slash_found p t None g e f h = no_slash p (subst (λ x. (k : ℕ) → k < length x → get_or x k 0 ≢ 47) e (f refl))
slash_found p t (Some i) g e f h =
    let at : (i < length (render p)) × (get_or (render p) i 0 ≡ 47) × ((k : ℕ) → i + 1 ≤ k → k < length (render p) → get_or (render p) k 0 ≢ 47) = subst (λ x. (i < length x) × (get_or x i 0 ≡ 47) × ((k : ℕ) → i + 1 ≤ k → k < length x → get_or x k 0 ≢ 47)) e (h i refl) in
    slash_is_at p i g at.0 at.1 at.2
