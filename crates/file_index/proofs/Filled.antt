-- Arrays that a loop fills from the front. Assumes nothing.
use Rattle.std.specs.Prelude.{if◌then◌else◌}
use mathlib.Core.Path.{◌≡◌, refl, sym, ◌∙◌, ap}
use mathlib.Core.List.{List, [], ◌∷◌, ◌++◌}
use mathlib.Core.Bool.{Bool, true, false}
use Prim.Native.Nat.{ℕ, zero, suc, ◌+◌, ◌-◌, ◌≤◌}
use native.Mathlib.Omega.{arith}
use lib.ListN.{length, drop, replicate, length-append, length-replicate}
use lib.Seq.{sets, sets-eq, length-sets}
use Rattle.file_index.specs.Index.{pad, given, Wrote}

sets-append : (l : List ℕ) (n : ℕ) (xs ys : List ℕ) → sets l n (xs ++ ys) ≡ sets (sets l n xs) (n + length xs) ys
sets-append l n [] ys = let e : n ≡ n + 0 = omega arith in ap (λ k. sets l k ys) e
sets-append l n (x ∷ xs) ys =
    let e : suc n + length xs ≡ n + suc (length xs) = omega arith in
    sets-append _ (suc n) xs ys ∙ ap (λ k. sets (sets l n (x ∷ xs)) k ys) e

-- `out` is `base` with `all` written from m on, but for `left`, which is still to come and goes to n.
pub record Fills (base : List ℕ) (m : ℕ) (all out : List ℕ) (n : ℕ) (left : List ℕ) : Type 0 where
  pub fits : m + length all ≤ length base
  pub same : sets out n left ≡ sets base m all
  pub count : n + length left ≡ m + length all

-- The next to come are xs.
pub record Next (base : List ℕ) (m : ℕ) (all out : List ℕ) (n : ℕ) (xs left : List ℕ) : Type 0 where
  pub fills : Fills base m all out n (xs ++ left)

pub fills_none : (base : List ℕ) (m : ℕ) (all left : List ℕ) → m + length all ≤ length base → left ≡ all →
    Fills base m all base m left
fills_none base m all left h e = record { fits = h; same = ap (sets base m) e; count = omega (arith, ap length e) }

module _ {base : List ℕ} {m : ℕ} {all out : List ℕ} {n : ℕ} where
  pub fills_length : {left : List ℕ} → Fills base m all out n left → length out ≡ length base
  fills_length {left} f = sym (length-sets out n left) ∙ ap length f.same ∙ length-sets base m all

  module _ {xs left : List ℕ} (x : Next base m all out n xs left) where
    pub next_room : n + length xs ≤ length out
    next_room =
        let f = x.fills in omega (arith, fills_length f, f.fits, f.count, length-append xs left)

    pub next_filled : Fills base m all (sets out n xs) (n + length xs) left
    next_filled =
        let f = x.fills in
        record {
          fits = f.fits;
          same = sym (sets-append out n xs left) ∙ f.same;
          count = omega (arith, f.count, length-append xs left);
        }

  pub fills_end : {left : List ℕ} → left ≡ [] → Fills base m all out n left → Wrote m all base n out
  fills_end {left} e f =
      record { next_is = omega (arith, ap length e, f.count); after_is = ap (sets out n) (sym e) ∙ f.same }

-- An array of zeros.
abbrev pub zeros : ℕ → List ℕ
zeros n = replicate n 0

pub zeros-length : (n : ℕ) → length (zeros n) ≡ n
zeros-length n = length-replicate n 0

drop-zeros : (k n : ℕ) → drop k (zeros n) ≡ zeros (n - k)
drop-zeros zero n = let e : n ≡ n - 0 = omega arith in ap zeros e
drop-zeros (suc k) zero = let e : 0 ≡ 0 - suc k = omega arith in ap zeros e
drop-zeros (suc k) (suc n) = let e : n - k ≡ suc n - suc k = omega arith in drop-zeros k n ∙ ap zeros e

pub zeros_none : (cap : ℕ) (all left : List ℕ) → length all ≤ cap → left ≡ all → Fills (zeros cap) 0 all (zeros cap) 0 left
zeros_none cap all left h e = fills_none (zeros cap) 0 all left (omega (arith, zeros-length cap)) e

-- It is filled: the table with zeros behind it.
pub zeros_filled : (cap : ℕ) {all out : List ℕ} {n : ℕ} {left : List ℕ} → left ≡ [] → Fills (zeros cap) 0 all out n left →
    (n ≡ length all) × (out ≡ pad cap all)
zeros_filled cap {all} e f =
    let d = fills_end e f in
    let z : 0 + length all ≡ length all = omega arith in (
      omega (arith, d.next_is),
      d.after_is ∙ sets-eq all (zeros cap) 0 f.fits ∙ ap (λ k. all ++ drop k (zeros cap)) z
          ∙ ap (λ xs. all ++ xs) (drop-zeros (length all) cap),
    )

-- One number or none.
pub given_count : (b : Bool) (v n : ℕ) → n + length (given b v) ≡ (if b then n + 1 else n)
given_count true v n = refl
given_count false v n = omega arith

pub given_few : (b : Bool) (v : ℕ) → length (given b v) ≤ 1
given_few true v = omega arith
given_few false v = omega arith

pub given_if : (b : Bool) (v w : ℕ) → given b (if b then v else w) ≡ given b v
given_if true v w = refl
given_if false v w = refl
