-- An accepted file has passed three times, each time record by record; and each record has a row of the table.
-- Assumes nothing.
use Rattle.std.specs.Prelude.{ℕ, ◌<◌, ◌≡◌, refl, List, [], ◌∷◌, Bool, ◌&&◌, eqb, leb, length, get_or, drop, if◌then◌else◌}
use Rattle.std.proofs.Common.{arith, subst, ltb-true, eqb-true}
use Rattle.std.proofs.Math.Bool.{true, false}
use Rattle.std.proofs.Math.Dec.{ltb}
use Rattle.semantics.specs.Words.{Outcome, ok, fails, Passed, passed, ◌>>◌, need, all}
use Rattle.semantics.specs.Numbers as No
use Rattle.semantics.specs.Kinds as K
use Rattle.semantics.specs.Model.{Model}
use Rattle.semantics.specs.Bytes.{u16, Raw, raw, records_from}
use Rattle.semantics.specs.Record.{Row, table, row_in, row_of, in_set, sized, valid, twice, body_judged}
use Rattle.semantics.specs.Decode.{Checked, refused, accepted, placed, judged, saw, first_pass, none_seen, tail_known, field_known}
use Rattle.semantics.specs.Decode.{inner_of, named, opened, second_pass, gather, depth, third_pass, if_accepted, decode}
use Rattle.promises.specs.Laws.{and-true, not-true, if_has, needed_then, needed_two, AllOf}

pub not_accepted : {A B : Type 0} {n p : ℕ} {a : A} → ◌≡◌ {A = Checked A} (refused n p) (accepted a) → B
not_accepted e = let z : ◌≡◌ {A = ℕ} 0 1 = cc in absurd (omega arith)

-- THE PASSES over the records rs: the first two, and all three.
pub record TwoPasses (rs : List Raw) : Type 0 where
  pub seen : List ℕ
  pub first : first_pass none_seen rs ≡ accepted seen
  pub second : second_pass seen 0 rs ≡ accepted passed

pub record Passes (rs : List Raw) : Type 0 where
  pub two : TwoPasses rs
  pub third : third_pass (gather rs).model rs ≡ accepted passed

then_is : {A B : Type 0} (c : Checked A) (f : A → Checked B) (b : B) → if_accepted c f ≡ accepted b
    → (a : A) × (c ≡ accepted a) × (f a ≡ accepted b)
then_is (refused n p) f b e = not_accepted e
then_is (accepted a) f b e = (a, refl, e)

-- The records of an accepted file pass, and they make its model.
pub accepted_by : (bs : List ℕ) (m : Model) → decode bs ≡ accepted m
    → Passes (records_from 0 bs) × ((gather (records_from 0 bs)).model ≡ m)
unfolding decode
accepted_by bs m e = go (leb (length bs) No.longest_file) e
  where
    rs : List Raw
    rs = records_from 0 bs

    x : Model
    x = (gather rs).model

    thirdly : Passed → Checked Model
    thirdly p = if_accepted (third_pass x rs) λ q. accepted x

    secondly : List ℕ → Checked Model
    secondly n = if_accepted (second_pass n 0 rs) thirdly

    done : (n : List ℕ) (p q : Passed) → first_pass none_seen rs ≡ accepted n → second_pass n 0 rs ≡ accepted p
        → third_pass x rs ≡ accepted q → Passes rs
    done n passed passed a b c = record { two = record { seen = n; first = a; second = b }; third = c }

    go : (b : Bool)
        → ◌≡◌ {A = Checked Model} (elim b [ false ↦ refused No.MANY 0 | true ↦ if_accepted (first_pass none_seen rs) secondly ])
        (accepted m)
        → Passes rs × (x ≡ m)
    go false k = not_accepted k
    go true k =
        let a = then_is (first_pass none_seen rs) secondly m k in
        let b = then_is (second_pass a.0 0 rs) thirdly m a.2 in
        let c = then_is (third_pass x rs) (λ q. accepted x) m b.2 in
        let s : x ≡ m = cc c.2 in
        (done a.0 b.0 c.0 a.1 b.1 c.1, s)

-- What holds of every model whose records pass holds of an accepted one.
pub of_accepted : (P : Model → Type 0) → ((rs : List Raw) → Passes rs → P (gather rs).model)
    → (bs : List ℕ) (m : Model) → decode bs ≡ accepted m → P m
of_accepted P h bs m e = let a = accepted_by bs m e in subst P a.1 (h (records_from 0 bs) a.0)

-- ONE RECORD by its row r: what 2 to 7 say of it, and what 8 and 9 say.
pub record Judged (seen : List ℕ) (r : Row) (bs : List ℕ) : Type 0 where
  pub grouped : 0 < r.group
  pub roomy : get_or seen r.group 0 < r.most
  pub in_set : in_set r.field bs ≡ true
  pub tail_valid : valid r.tail (drop r.head bs) ≡ true
  pub tail_once : twice r.tail (drop r.head bs) ≡ false

pub record Named (n : List ℕ) (own : ℕ) (r : Row) (bs : List ℕ) : Type 0 where
  pub field_known : field_known n r.naming bs ≡ true
  pub tail_known : tail_known n r.tail (drop r.head bs) ≡ true
  pub in_order : all (leb own) (inner_of (r.says bs)) ≡ true

-- Over any row: a record's own row would open the whole table.
judged_by : (seen : List ℕ) (r : Row) (bs : List ℕ)
    → ◌≡◌ {A = Outcome Passed} (do
      need No.KIND (ltb 0 r.group)
      need No.PLACE (placed r.group (get_or seen K.BLOCK 0))
      need No.MANY (ltb (get_or seen r.group 0) r.most)
      body_judged r bs) (ok passed)
    → Judged seen r bs
unfolding body_judged
judged_by seen r bs e =
    let a = needed_then No.KIND (ltb 0 r.group) _ e in
    let b = needed_then No.PLACE (placed r.group (get_or seen K.BLOCK 0)) _ a.1 in
    let c = needed_then No.MANY (ltb (get_or seen r.group 0) r.most) _ b.1 in
    let d = needed_then No.SIZE (leb r.head (length bs) && sized r.tail (drop r.head bs)) _ c.1 in
    let t = needed_two No.VALUE No.TWICE _ _ d.1 in
    let v = and-true (in_set r.field bs) _ t.0 in
    record {
      grouped = ltb-true 0 r.group a.0;
      roomy = ltb-true (get_or seen r.group 0) r.most c.0;
      in_set = v.0;
      tail_valid = v.1;
      tail_once = not-true _ t.1;
    }

named_by : (n : List ℕ) (own : ℕ) (r : Row) (bs : List ℕ)
    → ◌≡◌ {A = Outcome Passed} (do
      need No.NAME (field_known n r.naming bs && tail_known n r.tail (drop r.head bs))
      need No.ORDER (all (leb own) (inner_of (r.says bs)))) (ok passed)
    → Named n own r bs
named_by n own r bs e =
    let a = needed_two No.NAME No.ORDER _ _ e in
    let b = and-true (field_known n r.naming bs) _ a.0 in
    record { field_known = b.0; tail_known = b.1; in_order = a.1 }

-- A pass that accepts has accepted its first record, and the rest.
went_on : {A : Type 0} (o : Outcome Passed) (at : ℕ) (c : Checked A) (a : A)
    → ◌≡◌ {A = Checked A} (elim o [ fails n ↦ refused n at | ok p ↦ c ]) (accepted a)
    → (o ≡ ok passed) × (c ≡ accepted a)
went_on (ok passed) at c a e = (refl, e)
went_on (fails n) at c a e = not_accepted e

module _ (at k : ℕ) (bs : List ℕ) (rs : List Raw) where
  pub first_on : (seen n : List ℕ) → first_pass seen (raw at k bs ∷ rs) ≡ accepted n
      → Judged seen (row_of k) bs × (first_pass (saw seen k) rs ≡ accepted n)
  unfolding first_pass
  first_on seen n e =
      let a = went_on (judged seen k bs) at (first_pass (saw seen k) rs) n e in (judged_by seen (row_of k) bs a.0, a.1)

  pub second_on : (n : List ℕ) (own : ℕ) → second_pass n own (raw at k bs ∷ rs) ≡ accepted passed
      → Named n own (row_of k) bs × (second_pass n (opened own k) rs ≡ accepted passed)
  unfolding second_pass
  second_on n own e =
      let a = went_on (named n own k bs) at (second_pass n (opened own k) rs) passed e in
      (named_by n own (row_of k) bs a.0, a.1)

  pub third_on : (m : Model) → third_pass m (raw at k bs ∷ rs) ≡ accepted passed
      → (eqb k K.CLASS && ltb No.deepest (depth m (u16 bs 0)) ≡ false) × (third_pass m rs ≡ accepted passed)
  unfolding third_pass
  third_on m e = go (eqb k K.CLASS && ltb No.deepest (depth m (u16 bs 0))) e
    where
      go : (b : Bool) → (if b then refused No.DEEP at else third_pass m rs) ≡ accepted passed
          → (b ≡ false) × (third_pass m rs ≡ accepted passed)
      go true f = not_accepted f
      go false f = (refl, f)

-- THE ROW of what has a group is one of the table, and of its own kind.
row_in_lem : (P : Row → Type 0) (rs : List Row) → AllOf P rs → (k : ℕ) → 0 < (row_in rs k).group
    → P (row_in rs k) × (k ≡ (row_in rs k).kind)
row_in_lem P [] h k = λ g. absurd (omega arith)
row_in_lem P (r ∷ rs) h k =
    if_has (λ (x : Row). 0 < x.group → P x × (k ≡ x.kind)) (eqb k r.kind) (λ e g. (h.0, eqb-true k r.kind e))
    (λ e. row_in_lem P rs h.1 k)

pub its_row : (P : Row → Type 0) → AllOf P table → (k : ℕ) → 0 < (row_of k).group → P (row_of k) × (k ≡ (row_of k).kind)
unfolding row_of
its_row P h k g = row_in_lem P table h k g
