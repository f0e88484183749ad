-- Where classes have the numbers of their body blocks. Assumes nothing.
use Rattle.std.specs.Prelude.{ℕ, zero, suc, ◌+◌, ◌≤◌, ◌<◌, ◌≡◌, refl, Bool, true, false, List, [], ◌∷◌, ◌++◌, length, get_or, map}
use Rattle.std.proofs.Common.{arith, ap}
use Rattle.std.proofs.lemmas.List.{get_or-map}
use Rattle.text_sheet.specs.declared.Class.{Class}

abbrev pub at_of : Class → ℕ
at_of c = c.at

abbrev pub line_of : Class → ℕ
line_of c = c.line

-- The classes with these places and lines.
abbrev pub classes_of : List ℕ → List ℕ → List Class
classes_of [] ls = []
classes_of (n ∷ ns) [] = []
classes_of (n ∷ ns) (l ∷ ls) = record { at = n; line = l } ∷ classes_of ns ls

pub classes_same : (cs : List Class) → classes_of (map at_of cs) (map line_of cs) ≡ cs
classes_same [] = refl
classes_same (c ∷ cs) = ap (λ ds. c ∷ ds) (classes_same cs)

-- All stand in so many bytes.
abbrev pub Placed : ℕ → List Class → Type 0
Placed n [] = Unit {0}
Placed n (c ∷ cs) = (c.at + 2 ≤ n) × Placed n cs

pub placed_more : (n m : ℕ) (cs : List Class) → n ≤ m → Placed n cs → Placed m cs
placed_more n m [] h p = tt
placed_more n m (c ∷ cs) h p = (omega (arith, p.0, h), placed_more n m cs h p.1)

pub placed_one : (n : ℕ) (cs : List Class) (c : Class) → Placed n cs → c.at + 2 ≤ n → Placed n (cs ++ (c ∷ []))
placed_one n [] c p h = (h, tt)
placed_one n (d ∷ cs) c p h = (p.0, placed_one n cs c p.1 h)

pub placed_at : (n : ℕ) (cs : List Class) (i : ℕ) → i < length cs → Placed n cs → get_or (map at_of cs) i 0 + 2 ≤ n
placed_at n [] i h p = omega (arith, h)
placed_at n (c ∷ cs) zero h p = p.0
placed_at n (c ∷ cs) (suc i) h p = placed_at n cs i (omega (arith, h)) p.1

-- Where one stands, while there was room for all, or else if it is told.
pub class_fits : (full : Bool) (n : ℕ) (cs : List Class) (i : ℕ) (d : Class) → i < length cs → (full ≡ false → Placed n cs)
    → (full ≡ true → get_or (map at_of cs) i 0 + 2 ≤ n) → (get_or cs i d).at + 2 ≤ n
class_fits true n cs i d h p q = omega (arith, q refl, get_or-map at_of cs i d 0 h)
class_fits false n cs i d h p q = omega (arith, placed_at n cs i h (p refl), get_or-map at_of cs i d 0 h)
