-- Laws of parts and of bytes put at a place. Assumes nothing.
use Rattle.std.specs.Prelude.{◌≡◌, refl, List, ◌++◌, ℕ, suc, ◌+◌, ◌-◌, ◌≤◌, ◌<◌, length, get_or, take, drop, set}
use Rattle.std.proofs.Common.{sym, ◌∙◌, ap, append_assoc, add-one, arith, length-take, length-drop, take-append-drop, length-append, drop-cons, get_or-take, get_or-drop, take_at, drop_at, length-take-le}
use Rattle.std.proofs.lemmas.List.Edits.{sets, sets-eq}
use Rattle.std.proofs.lemmas.List.{take-append-le, drop-append-le}
use Rattle.std.proofs.Math.Seq.{take-length}
use Rattle.text_sheet.specs.Part.{part}

pub part_length : (start size : ℕ) (xs : List ℕ) → start + size ≤ length xs → length (part start size xs) ≡ size
part_length start size xs h = simp (length-take, length-drop) (omega arith)

pub part_at : (start size : ℕ) (xs : List ℕ) (i : ℕ) → i < size → get_or (part start size xs) i 0 ≡ get_or xs (start + i) 0
part_at start size xs i h = rw (get_or-take, get_or-drop)

-- The next of a run of stores, and the rest of them.
pub sets_next : (vs xs : List ℕ) (at i a : ℕ) → i < length vs → get_or vs i 0 ≡ a
    → sets (set xs (at + i) a) (at + (i + 1)) (drop (i + 1) vs) ≡ sets xs (at + i) (drop i vs)
sets_next vs xs at i a h v =
    let e : at + (i + 1) ≡ suc (at + i) = omega arith in
    rw (e, add-one i, drop-cons vs i 0 h, v)

-- What is put at a place leaves what is before it, and is read back there.
pub part_front : (start size : ℕ) (xs ys : List ℕ) → start + size ≤ length xs → part start size (xs ++ ys) ≡ part start size xs
part_front start size xs ys h =
    ap (take size) (drop-append-le start xs ys (omega arith))
    ∙ take-append-le size (drop start xs) ys (omega (arith, length-drop start xs))

-- A row by what stands before a place, what is put there, and the rest.
laid : (i : ℕ) (xs vs : List ℕ) → i + length vs ≤ length xs
    → (length (take i xs) ≡ i) × (sets xs i vs ≡ take i xs ++ (vs ++ drop (i + length vs) xs))
laid i xs vs k =
    (length-take-le i xs (omega arith), sets-eq vs xs i k ∙ append_assoc (take i xs) vs (drop (i + length vs) xs))

pub part_before : (start size i : ℕ) (xs vs : List ℕ) → start + size ≤ i → i + length vs ≤ length xs
    → part start size (sets xs i vs) ≡ part start size xs
part_before start size i xs vs h k =
    let l = laid i xs vs k in
    ap (part start size) l.1
    ∙ part_front start size (take i xs) (vs ++ drop (i + length vs) xs) (omega arith)
    ∙ sym (part_front start size (take i xs) (drop i xs) (omega arith))
    ∙ ap (part start size) (take-append-drop i xs)

pub part_of_sets : (i : ℕ) (xs vs : List ℕ) → i + length vs ≤ length xs → part i (length vs) (sets xs i vs) ≡ vs
part_of_sets i xs vs k =
    let l = laid i xs vs k in
    ap (part i (length vs)) l.1
    ∙ ap (take (length vs)) (drop_at (take i xs) (vs ++ drop (i + length vs) xs) i l.0)
    ∙ take_at vs (drop (i + length vs) xs) (length vs) refl

pub take-sets : (i : ℕ) (xs vs : List ℕ) → i + length vs ≤ length xs → take (i + length vs) (sets xs i vs) ≡ take i xs ++ vs
take-sets i xs vs k =
    let l = laid i xs vs k in
    ap (take (i + length vs)) (sets-eq vs xs i k)
    ∙ take_at (take i xs ++ vs) (drop (i + length vs) xs) (i + length vs)
    (length-append (take i xs) vs ∙ ap (λ n. n + length vs) l.0)

-- What was put behind is read back there.
pub part_behind : (start : ℕ) (xs ys : List ℕ) → start ≡ length xs → part start (length xs + length ys - start) (xs ++ ys) ≡ ys
part_behind start xs ys e =
    let n : length xs + length ys - start ≡ length ys = omega (arith, e) in
    ap (λ m. take m (drop start (xs ++ ys))) n ∙ ap (take (length ys)) (drop_at xs ys start (sym e)) ∙ take-length ys
