-- The text of a path says its names, and the other way round.
use Rattle.std.proofs.Common.{◌≡◌, ℕ, ◌+◌, ◌-◌, ◌<◌, ◌≤◌, Bool, true, false, ◌&&◌, eqb, leb, List, Some, [], ◌∷◌, ◌++◌, length, take, drop, replicate, sym, refl, ap, ◌∙◌, subst, arith}
use Rattle.std.proofs.lemmas.List.{append-nil, append_assoc, take_at, drop_at, drop-drop, drop-replicate, length-append, length-replicate}
use Rattle.std.proofs.lemmas.Bool.{and_parts, and_from, cases_Bool, cond-true, le-leb}
use Rattle.paths.specs.Names.{Name, Text, Names, render, plain, named, good, up}
use Rattle.paths.specs.Bytes.{byte, grow, parse, filled, padded, Holds, Sound, grown, trimmed, slash_at}
use Rattle.paths.specs.Texts.{zeroless, parts, parts_from}

-- no part has a slash or a zero byte
abbrev pub plains : List Text → Bool
plains [] = true
plains (n ∷ ns) = plain n && plains ns

pub grow_append : (t u : List ℕ) (p : Names) → grow p (t ++ u) ≡ grow (grow p t) u
grow_append [] u p = refl
grow_append (b ∷ t) u p = grow_append t u (byte b p)

pub grow_plain : (n a : Name) (p : Names) → plain n ≡ true → grow (a ∷ p) n ≡ (a ++ n) ∷ p
grow_plain [] a p h = ap (λ x. x ∷ p) (sym (append-nil a))
grow_plain (b ∷ n) a p h =
    let i = grow_plain n (a ++ b ∷ []) p in
    grind (arith, append_assoc)

pub parse_render : (p : Names) → good p ≡ true → parse (render p) ≡ p
parse_render [] g = refl
parse_render (n ∷ p) g =
    let both = and_parts (named n) (good p) g in
    let mine = and_parts (plain n) _ both.0 in
    grow_append (render p) (47 ∷ n) [] ∙ (ap (λ x. grow x (47 ∷ n)) (parse_render p both.1) ∙ grow_plain n [] p mine.0)

pub seal : (size : ℕ) (text : List ℕ) (len depth : ℕ) (p : Names) → Holds size text len depth p → (parse (take len text) ≡ p) × Sound size text len depth
seal size text len depth p h =
    let cut : take len text ≡ render p = ap (take len) h.0 ∙ take_at (render p) _ len (sym h.1) in
    let back = ap parse cut ∙ parse_render p h.4 in
    (back, subst (λ x. Holds size text len depth x) (sym back) h)

pub grown_padded : (size : ℕ) (p : Names) (n : Name) → length (render p) + length n < size → grown (padded size p) (length (render p)) n ≡ padded size (n ∷ p)
grown_padded size p n lt =
    let z : List ℕ = replicate (size - length (render p)) 0 in
    let long = length-append (render p) (47 ∷ n) in
    let t = take_at (render p) z (length (render p)) refl in
    let i : length (render p) + 1 + length n ≡ length (render p) + (1 + length n) = omega arith in
    let j : size - length (render p) - (1 + length n) ≡ size - length (render p ++ 47 ∷ n) = omega arith in
    let d : drop (length (render p) + 1 + length n) (padded size p) ≡ replicate (size - length (render (n ∷ p))) 0 =
    ap (λ k. drop k (padded size p)) i ∙ (sym (drop-drop (1 + length n) (length (render p)) (padded size p)) ∙ (ap (drop (1 + length n)) (drop_at (render p) z (length (render p)) refl) ∙ (drop-replicate (1 + length n) (size - length (render p)) 0 ∙ ap (λ k. replicate {A = ℕ} k 0) j))) in
    ap (λ x. x ++ (47 ∷ (n ++ drop (length (render p) + 1 + length n) (padded size p)))) t ∙ (ap (λ y. render p ++ (47 ∷ (n ++ y))) d ∙ sym (append_assoc (render p) (47 ∷ n) _))

pub length_padded : (size : ℕ) (p : Names) → length (render p) ≤ size → length (padded size p) ≡ size
length_padded size p le =
    let a = length-append (render p) (replicate (size - length (render p)) 0) in
    let b = length-replicate {A = ℕ} (size - length (render p)) 0 in
    omega arith

pub trimmed_padded : (size : ℕ) (p : Names) (n : Name) → length (render (n ∷ p)) ≤ size → trimmed (padded size (n ∷ p)) (length (render p)) ≡ padded size p
trimmed_padded size p n le =
    let z : List ℕ = replicate (size - length (render (n ∷ p))) 0 in
    let t : take (length (render p)) (padded size (n ∷ p)) ≡ render p = ap (take (length (render p))) (append_assoc (render p) (47 ∷ n) z) ∙ take_at (render p) ((47 ∷ n) ++ z) (length (render p)) refl in
    ap (λ x. x ++ replicate (length (padded size (n ∷ p)) - length (render p)) 0) t ∙ ap (λ k. render p ++ replicate (k - length (render p)) 0) (length_padded size (n ∷ p) le)

pub holds_child : (size : ℕ) (text : List ℕ) (len depth : ℕ) (p : Names) (n : Name) → Holds size text len depth p → named n ≡ true → len + length n < size → Holds size (grown text len n) (len + 1 + length n) (depth + 1) (n ∷ p)
holds_child size text len depth p n h m lt =
    let long = length-append (render p) (47 ∷ n) in
    let l = h.1 in
    let e : grown text len n ≡ padded size (n ∷ p) = ap (λ t. grown t len n) h.0 ∙ (ap (λ k. grown (padded size p) k n) l ∙ grown_padded size p n (omega arith)) in
    let d = h.3 in
    (e, omega arith, omega arith, omega arith, and_from (named n) (good p) m h.4)

plain_more : (n : Name) (b : ℕ) → plain n ≡ true → (eqb b 47 ≡ false) → eqb b 0 ≡ false → plain (n ++ b ∷ []) ≡ true
plain_more [] b h f g = grind arith
plain_more (x ∷ n) b h f g = let i = plain_more n b in grind arith

pub parts_plain : (text : List ℕ) (cur : Name) → zeroless text ≡ true → plain cur ≡ true → plains (parts cur text) ≡ true
parts_plain [] cur z h = and_from (plain cur) true h refl
parts_plain (b ∷ text) cur z h =
    let i = parts_plain text [] in
    let j = parts_plain text (cur ++ b ∷ []) in
    let k = plain_more cur b h in
    let t = cases_Bool (eqb b 47) in
    grind (arith, and_from)

pub holds_parent : (size : ℕ) (text : List ℕ) (len depth k : ℕ) (p : Names) → Holds size text len depth p → Some k ≡ slash_at p → Holds size (trimmed text k) k (depth - 1) (up p)
holds_parent size text len depth k [] h e = absurd (cc)
holds_parent size text len depth k (n ∷ p) h e =
    let both = and_parts (named n) (good p) h.4 in
    let long = length-append (render p) (47 ∷ n) in
    let l = h.1 in
    let w = h.2 in
    let x = h.3 in
    let r : k ≡ length (render p) = cc in
    (ap (λ t. trimmed t k) h.0 ∙ (ap (λ j. trimmed (padded size (n ∷ p)) j) r ∙ trimmed_padded size p n (omega arith)), r, omega arith, omega arith, both.1)

-- what such bytes are known to hold, they hold
held : (size : ℕ) (text : List ℕ) (len depth : ℕ) (p : Names) → Sound size text len depth → parse (take len text) ≡ p → Holds size text len depth p
held size text len depth p s e = subst (λ x. Holds size text len depth x) e s

pub pushed : (size : ℕ) (text after : List ℕ) (len depth : ℕ) (p : Names) (n : Name) → Sound size text len depth → parse (take len text) ≡ p → after ≡ grown text len n → named n ≡ true → length (render p) + length n < size →
    (parse (take (len + (1 + length n)) after) ≡ n ∷ p) × Sound size after (len + (1 + length n)) (depth + 1)
pushed size text after len depth p n s v e m lt =
    let held = held size text len depth p s v in
    let l = held.1 in
    let h = holds_child size text len depth p n held m (omega arith) in
    let j = h.1 in
    let w = h.2 in
    seal size after (len + (1 + length n)) (depth + 1) (n ∷ p) (e ∙ h.0, omega arith, omega arith, h.3, h.4)

pub popped : (size : ℕ) (text after : List ℕ) (len depth k : ℕ) (p : Names) → Sound size text len depth → parse (take len text) ≡ p → after ≡ trimmed text k → Some k ≡ slash_at p →
    (parse (take k after) ≡ up p) × Sound size after k (depth - 1)
popped size text after len depth k p s v e f =
    let h = holds_parent size text len depth k p (held size text len depth p s v) f in
    seal size after k (depth - 1) (up p) (e ∙ h.0, h.1, h.2, h.3, h.4)

-- a text over the front of zeros
pub filled_is : (size : ℕ) (t u : Text) → u ≡ t → t ++ drop (length t) (replicate size 0) ≡ filled size u
filled_is size t u e = ap (λ x. t ++ x) (drop-replicate (length t) size 0) ∙ ap (filled size) (sym e)

pub copied : (size : ℕ) (text after : List ℕ) (len depth : ℕ) (p : Names) → good p ≡ true → len ≡ length (render p) → len ≤ size → depth ≡ length p → text ≡ render p → after ≡ text ++ drop (length text) (replicate size 0) →
    (parse (take len after) ≡ p) × Sound size after len depth
copied size text after len depth p g l w d t e =
    seal size after len depth p (e ∙ (filled_is size text text refl ∙ ap (filled size) t), l, w, d, g)

pub depth_below : (p : Names) → length p ≤ length (render p)
depth_below [] = omega arith
depth_below (n ∷ p) = let i = depth_below p in let long = length-append (render p) (47 ∷ n) in omega arith

pub left_start : (text : List ℕ) → parts_from text 0 ≡ parts [] text
left_start text = cond-true (leb 0 (length text)) _ _ (le-leb 0 (length text) (omega arith))
