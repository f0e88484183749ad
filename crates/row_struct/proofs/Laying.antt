-- Parts laid one behind the other over a row, and cut out of one. Assumes nothing.
use Prim.Native.Nat.{ℕ, zero, suc, ◌+◌, ◌-◌, ◌≤◌, ◌<◌}
use native.Mathlib.Omega.{arith}
use mathlib.Core.Path.{◌≡◌, refl, sym, ◌∙◌, ap}
use mathlib.Core.List.{List, [], ◌∷◌, ◌++◌, append_assoc, append-nil}
use lib.ListN.{length, get_or, take, drop, length-drop, take-append-drop, drop_of_length-le}
use lib.Seq.{paste, length-paste, take-paste, take-length, take_all, drop-drop, drop-cons, length-take-le}
use Rattle.semantics.specs.Words.{sum}
use Rattle.row_work.specs.Laid.{laid, Wide}
use Rattle.row_struct.specs.State.{over}

-- LAID OVER. A part that was lent, back in its row.
pub part_over : (a e : ℕ) (y w : List ℕ) → e ≡ a + length y → take a w ++ (y ++ drop (e - a) (drop a w)) ≡ over a y w
unfolding over
part_over a e y w h =
    let k : e - a ≡ length y = omega arith in
    ap (λ n. take a w ++ (y ++ drop n (drop a w))) k ∙ ap (λ l. take a w ++ (y ++ l)) (drop-drop (length y) a w)

module _ (a : ℕ) (y w : List ℕ) (l : a + length y ≤ length w) where
  over-paste : over a y w ≡ paste w a y (length y)
  unfolding over
  over-paste =
      ap (λ r. take a w ++ (r ++ drop (a + length y) w)) (sym (take-length y))
      ∙ sym (append_assoc (take a w) (take (length y) y) (drop (a + length y) w))

  pub over_long : length (over a y w) ≡ length w
  over_long = ap length over-paste ∙ length-paste w a y (length y) l (omega arith)

  pub over_front : take (a + length y) (over a y w) ≡ take a w ++ y
  over_front =
      ap (take (a + length y)) over-paste
      ∙ take-paste w a y (length y) (omega arith) (omega arith)
      ∙ ap (λ r. take a w ++ r) (take-length y)

-- The parts, of these widths, were laid over w one by one from a on, and that gave v.
infixr 5 ◌then◌
pub data Written : List (List ℕ) → List ℕ → ℕ → List ℕ → List ℕ → Type 0 where
  written : {a : ℕ} {w : List ℕ} → Written [] [] a w w
  ◌then◌ : {p : List ℕ} {ps : List (List ℕ)} {n a : ℕ} {ns w u v : List ℕ} → u ≡ over a p w → Written ps ns (a + n) u v
      → Written (p ∷ ps) (n ∷ ns) a w v

pub written_laid : {ps : List (List ℕ)} {ns : List ℕ} {a : ℕ} {w v : List ℕ} → Written ps ns a w v → Wide ps ns
    → a + sum ns ≡ length w → v ≡ take a w ++ laid ps
unfolding laid
written_laid {a = a} {w = w} written g e = sym (append-nil (take a w) ∙ take_all a w (omega arith))
written_laid {a = a} {w = w} (◌then◌ {p} {ps} {n} {u = u} h r) g e =
    let k = g.0 in
    let l : a + length p ≤ length w = omega arith in
    let m : length u ≡ length w = ap length h ∙ over_long a p w l in
    let f : take (a + n) u ≡ take a w ++ p =
    ap (λ j. take (a + j) u) (sym k) ∙ ap (take (a + length p)) h ∙ over_front a p w l in
    written_laid r g.1 (omega arith) ∙ ap (λ t. t ++ laid ps) f ∙ append_assoc (take a w) p (laid ps)

-- CUT OUT. The parts are those of w from a on, of these widths.
infixr 5 ◌next◌
pub data Cut : List (List ℕ) → List ℕ → ℕ → List ℕ → Type 0 where
  cut : {a : ℕ} {w : List ℕ} → Cut [] [] a w
  ◌next◌ : {p : List ℕ} {ps : List (List ℕ)} {n a : ℕ} {ns w : List ℕ} → p ≡ take n (drop a w) → Cut ps ns (a + n) w
      → Cut (p ∷ ps) (n ∷ ns) a w

pub cut_laid : {ps : List (List ℕ)} {ns : List ℕ} {a : ℕ} {w : List ℕ} → Cut ps ns a w → a + sum ns ≡ length w
    → laid ps ≡ drop a w
unfolding laid
cut_laid {a = a} {w = w} cut e = sym (drop_of_length-le w {i = a} (omega arith))
cut_laid {a = a} {w = w} (◌next◌ {p} {ps} {n} h r) e =
    ap (λ l. l ++ laid ps) h
    ∙ ap (λ l. take n (drop a w) ++ l) (cut_laid r (omega arith) ∙ sym (drop-drop n a w))
    ∙ take-append-drop n (drop a w)

pub cut_wide : {ps : List (List ℕ)} {ns : List ℕ} {a : ℕ} {w : List ℕ} → Cut ps ns a w → a + sum ns ≡ length w → Wide ps ns
cut_wide cut e = tt
cut_wide {a = a} {w = w} (◌next◌ {n = n} h r) e =
    let d = length-drop a w in
    (ap length h ∙ length-take-le n (drop a w) (omega arith), cut_wide r (omega arith))

-- The n numbers of w from k on, read one by one.
abbrev pub firsts : ℕ → ℕ → List ℕ → List ℕ
firsts zero k w = []
firsts (suc n) k w = get_or w k 0 ∷ firsts n (suc k) w

pub firsts_cut : (n k : ℕ) (w : List ℕ) → k + n ≤ length w → firsts n k w ≡ take n (drop k w)
firsts_cut zero k w l = refl
firsts_cut (suc n) k w l =
    let h : k < length w = omega arith in
    ap (λ r. get_or w k 0 ∷ r) (firsts_cut n (suc k) w (omega arith)) ∙ ap (take (suc n)) (sym (drop-cons w k 0 h))
