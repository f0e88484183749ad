-- A text put into lent bytes, by turns. Assumes nothing.
use Rattle.std.specs.Prelude.{ℕ, ◌+◌, ◌-◌, ◌≤◌, ◌≡◌, refl, Bool, true, false, List, [], ◌∷◌, ◌++◌, eqb, length, take, drop, if◌then◌else◌}
use Rattle.std.proofs.Common.{arith, sym, ap, ◌∙◌, length-append, append_assoc, drop-drop, take_at}
use Rattle.std.specs.List.{refill}
use borrow.Rule.Slice.PartMut.{put_mid}
use Rattle.std.proofs.lemmas.List.Edits.{sets, sets-eq}
use Rattle.std.proofs.Math.Seq.{length-sets}
use Rattle.base_journal.specs.Laws.{sets-append}
use Rattle.semantics.specs.Words.{keep, collect}
use Rattle.text_machine.specs.Sheet.{Piece, standing}

-- ys is xs with t from place `at` on, and r is the place behind t.
pub record Put (t xs : List ℕ) (at : ℕ) (ys : List ℕ) (r : ℕ) : Type 0 where
  pub behind : r ≡ at + length t
  pub bytes : ys ≡ sets xs at t

-- What is written to a part of bytes.
pub put_there : (xs ys bs : List ℕ) (at : ℕ) → ys ≡ bs → at + length bs ≤ length xs
    → put_mid at (at + length bs - at) xs ys ≡ sets xs at bs
put_there xs ys bs at e h =
    let k : at + length bs - at ≡ length bs = omega arith in
    ap (put_mid at (at + length bs - at) xs) e
    ∙ ap (λ n. take at xs ++ (bs ++ drop n (drop at xs))) k
    ∙ ap (λ us. take at xs ++ (bs ++ us)) (drop-drop (length bs) at xs)
    ∙ sym (append_assoc (take at xs) bs (drop (at + length bs) xs))
    ∙ sym (sets-eq bs xs at h)

-- .. and all of them lent on as they are.
pub put_whole : (xs zs bs : List ℕ) (at : ℕ) → zs ≡ sets xs at bs → refill (length xs) xs zs ≡ sets xs at bs
put_whole xs zs bs at e =
    let l : length zs ≡ length xs = ap length e ∙ length-sets xs at bs in
    take_at zs (drop (length zs) xs) (length xs) l ∙ e

pub put_length : {t xs ys : List ℕ} {at r : ℕ} → Put t xs at ys r → length ys ≡ length xs
put_length {t} {xs} {at = at} p = ap length p.bytes ∙ length-sets xs at t

pub put_on : {t u xs ys zs : List ℕ} {at m r : ℕ} → Put t xs at ys m → Put u ys m zs r → Put (t ++ u) xs at zs r
put_on {t} {u} {xs} {ys} {zs} {at} p q = record {
  behind = omega (arith, p.behind, q.behind, length-append t u);
  bytes = q.bytes ∙ ap (λ k. sets ys k u) p.behind ∙ ap (λ xs. sets xs (at + length t) u) p.bytes
      ∙ sym (sets-append t u xs at);
}

pub put_front : {t xs ys : List ℕ} {r : ℕ} → Put t xs 0 ys r → length t ≤ length xs → (r ≡ length t) × (ys ≡ t ++ drop r xs)
put_front {t} {xs} {ys} {r} p h =
    (omega (arith, p.behind), p.bytes ∙ sets-eq t xs 0 (omega arith) ∙ ap (λ k. t ++ drop k xs) (sym p.behind))

-- Of `whole`, which begins at a place, `left` is still to put.
pub record Going (whole left before : List ℕ) (at : ℕ) (out : List ℕ) (place : ℕ) : Type 0 where
  pub same : length out ≡ length before
  pub room : place + length left ≡ at + length whole
  pub bytes : sets out place left ≡ sets before at whole

pub going : (whole before : List ℕ) (at : ℕ) → Going whole whole before at before at
going whole before at = record { same = refl; room = refl; bytes = refl }

module _ {whole left before : List ℕ} {at : ℕ} {out : List ℕ} {place : ℕ} (g : Going whole left before at out place) where
  pub went : (t rest : List ℕ) {out' : List ℕ} {place' : ℕ} → left ≡ t ++ rest → Put t out place out' place'
      → Going whole rest before at out' place'
  went t rest {out'} {place'} e p = record {
    same = put_length p ∙ g.same;
    room = omega (arith, p.behind, length-append t rest, ap length e, g.room);
    bytes = ap (λ i. sets out' i rest) p.behind ∙ ap (λ xs. sets xs (place + length t) rest) p.bytes
        ∙ sym (sets-append t rest out place) ∙ ap (sets out place) (sym e) ∙ g.bytes;
  }

  pub passed : (rest : List ℕ) → left ≡ rest → Going whole rest before at out place
  passed rest e = record {
    same = g.same;
    room = omega (arith, ap length e, g.room);
    bytes = ap (sets out place) (sym e) ∙ g.bytes;
  }

  pub room_left : (t rest : List ℕ) → left ≡ t ++ rest → at + length whole ≤ length before → place + length t ≤ length out
  room_left t rest e h = omega (arith, length-append t rest, ap length e, g.room, g.same)

  pub gone : left ≡ [] → Put whole before at out place
  gone e = record { behind = omega (arith, ap length e, g.room); bytes = ap (sets out place) (sym e) ∙ g.bytes }

-- The first record, if it stands in the block, and the rest.
pub standing-cons : (b : ℕ) (p : Piece) (ps : List Piece)
    → standing b (p ∷ ps) ≡ (if eqb b p.block then p.bytes else []) ++ standing b ps
standing-cons b p ps = go (eqb b p.block)
  where
    go : (t : Bool) → collect (λ p. p.bytes) (if t then p ∷ keep (λ p. eqb b p.block) ps else keep (λ p. eqb b p.block) ps)
        ≡ (if t then p.bytes else []) ++ standing b ps
    go true = refl
    go false = refl
