-- Where the records of a file stand, and how a file that is accepted is read. Assumes nothing.
use Rattle.std.specs.Prelude.{if◌then◌else◌}
use mathlib.Core.Path.{◌≡◌, refl, ap}
use mathlib.Core.List.{List, [], ◌∷◌}
use mathlib.Core.Bool.{Bool, true, false}
use Prim.Native.Nat.{ℕ, zero, suc, ◌+◌, ◌-◌, ◌≤◌}
use native.Mathlib.Omega.{arith}
use lib.Dec.{eqb, leb}
use borrow.Author.Tests.{leb-true}
use lib.ListN.{length, take, drop, length-drop}
use lib.Seq.{drop-drop}
use Rattle.semantics.specs.Words.{Passed}
use Rattle.semantics.specs.Numbers as No
use Rattle.semantics.specs.Model.{Model}
use Rattle.semantics.specs.Bytes.{Raw, raw, torn, cut, records_from, whole, spans, u16}
use Rattle.semantics.specs.Decode.{Checked, refused, accepted, first_pass, none_seen, second_pass, gather, third_pass, if_accepted}
use Rattle.semantics.specs.Decode.{decode}
use Rattle.promises.specs.Laws.{and-true, AllOf}
use Rattle.promises.specs.Passes.{not_accepted}
use Rattle.file_index.specs.Index.{Judged, Readable, Act, acts, acts_of}
use Rattle.file_index.specs.Ties.{body_at}
use Rattle.file_index.proofs.Records.{Fine}

-- AN ACTION'S RECORD stands in the file bs where it says, whole and judged.
pub record Stands (bs : List ℕ) (a : Act) : Type 0 where
  pub an_act : acts a.kind ≡ true
  pub judged : Judged a.kind a.body
  pub long : 2 ≤ u16 (drop a.place bs) 0
  pub fits : a.place + (2 + u16 (drop a.place bs) 0) ≤ length bs
  pub kind_is : a.kind ≡ u16 (drop a.place bs) 2
  pub body_is : a.body ≡ body_at bs a.place

module _ (bs : List ℕ) (n at : ℕ) where
  abbrev l : List ℕ
  l = drop at bs

  abbrev k : ℕ
  k = u16 l 2

  abbrev x : List ℕ
  x = take (spans l - 4) (drop 4 l)

  -- the records behind the one at `at`
  abbrev more : List Raw
  more = cut n (at + spans l) (drop (spans l) l)

  one : Judged k x → whole l ≡ true → (b : Bool) → acts k ≡ b → AllOf (Stands bs) (acts_of more) →
      AllOf (Stands bs) (if b then record { place = at; kind = k; body = x } ∷ acts_of more else acts_of more)
  one j w false q h = h
  one j w true q h =
      let a = and-true (leb 2 (u16 l 0)) _ w in
      let y = leb-true 2 (u16 l 0) a.0 in
      let z = leb-true (spans l) (length l) a.1 in
      let c : spans l - 4 ≡ u16 l 0 - 2 = omega arith in (
        record {
          an_act = q;
          judged = j;
          long = y;
          fits = omega (arith, z, length-drop at bs);
          kind_is = refl;
          body_is = ap (λ i. take i (drop 4 l)) c;
        },
        h,
      )

  stand_on : (t w : Bool) → whole l ≡ w → Fine (if t then [] else if w then raw at k x ∷ more else torn at ∷ []) →
      (Fine more → AllOf (Stands bs) (acts_of more)) →
      AllOf (Stands bs) (acts_of (if t then [] else if w then raw at k x ∷ more else torn at ∷ []))
  unfolding acts_of
  stand_on true w e f h = tt
  stand_on false false e f h = tt
  stand_on false true e f h = one f.0 e (acts k) refl (h f.1)

stand : (bs : List ℕ) (n at : ℕ) → Fine (cut n at (drop at bs)) → AllOf (Stands bs) (acts_of (cut n at (drop at bs)))
unfolding cut acts_of
stand bs zero at f = tt
stand bs (suc n) at f =
    let l : List ℕ = drop at bs in
    let d = drop-drop (spans l) at bs in
    stand_on bs n at (eqb (length l) 0) (whole l) refl f (λ g. rw d (stand bs n (at + spans l) (rw d at g)))

pub acts_stand : (bs : List ℕ) → Fine (records_from 0 bs) → AllOf (Stands bs) (acts_of (records_from 0 bs))
unfolding records_from
acts_stand bs f = stand bs (length bs) 0 f

-- AN ACCEPTED FILE has passed, and its records make the model.
pub record Accepted (bs : List ℕ) (m : Model) : Type 0 where
  pub readable : Readable bs
  pub is : (gather (records_from 0 bs)).model ≡ m

then_is : {A B : Type 0} (c : Checked A) (f : A → Checked B) (b : B) → if_accepted c f ≡ accepted b →
    (a : A) × (c ≡ accepted a) × (f a ≡ accepted b)
then_is (refused n p) f b e = not_accepted e
then_is (accepted a) f b e = (a, refl, e)

pub accepted_by : (bs : List ℕ) (m : Model) → decode bs ≡ accepted m → Accepted bs m
unfolding decode
accepted_by bs m e = go (leb (length bs) No.longest_file) refl e
  where
    rs : List Raw
    rs = records_from 0 bs

    x : Model
    x = (gather rs).model

    thirdly : Passed → Checked Model
    thirdly p = if_accepted (third_pass x rs) λ q. accepted x

    secondly : List ℕ → Checked Model
    secondly n = if_accepted (second_pass n 0 rs) thirdly

    go : (b : Bool) → leb (length bs) No.longest_file ≡ b →
        ◌≡◌ {A = Checked Model} (elim b [ false ↦ refused No.MANY 0 | true ↦ if_accepted (first_pass none_seen rs) secondly ])
        (accepted m) →
        Accepted bs m
    go false h k = not_accepted k
    go true h k =
        let a = then_is (first_pass none_seen rs) secondly m k in
        let b = then_is (second_pass a.0 0 rs) thirdly m a.2 in
        let c = then_is (third_pass x rs) (λ q. accepted x) m b.2 in
        record {
          readable = record { short = leb-true (length bs) No.longest_file h; accepts = (a.0, a.1) };
          is = cc c.2;
        }
