-- What a file that is not refused makes: a model that fits and nests, and that goes forward where its bound is a number.
-- Assumes nothing.
use Rattle.std.specs.Prelude.{ℕ, zero, suc, ◌+◌, ◌≤◌, ◌<◌, ◌≡◌, refl, List, [], ◌∷◌, false, ◌&&◌, eqb, leb, ltb, length, get_or}
use Rattle.std.proofs.Common.{arith, sym, subst, leb-true, leb-false, ltb-false}
use Rattle.semantics.specs.Words.{passed, any}
use Rattle.semantics.specs.Numbers as No
use Rattle.semantics.specs.Kinds as K
use Rattle.semantics.specs.Model.{Action, HOLD, PRIO, TRACE, SET, LSET, DO, PUTR, PUTB, PUTS, BECOME, REQ, TRY, WHILE, START}
use Rattle.semantics.specs.Model.{CLOSE, Model, block, body}
use Rattle.semantics.specs.Bytes.{u16, Raw, raw, torn}
use Rattle.semantics.specs.Record.{Entry, RES, BIN, SYNC, VAR, CLASS, BLOCK, ENTITY, SAMPLER, ACTION, Row, table, row_of}
use Rattle.semantics.specs.Decode.{accepted, saw, first_pass, none_seen, inner, inner_of, opened, second_pass, Gathered, adds}
use Rattle.semantics.specs.Decode.{gather, depth, third_pass, decode}
use Rattle.semantics.specs.Bound.{may_loop, loops_from, loops}
use Rattle.promises.specs.Laws.{no_way, or-false, AllOf, all_map, all_both, all_mapped, all_unmap, all_hold, none_hold, ◌&◌}
use Rattle.promises.specs.Fit.{I32, BranchFit, ActFit, EntityFit, SamplerFit, Fit, Linked, Nested, GoesForward, Forward}
use Rattle.promises.specs.Passes.{not_accepted, TwoPasses, Passes, of_accepted, first_on, second_on, third_on, its_row}
use Rattle.promises.specs.Counted.{group_of, opens, counts, counted}
use Rattle.promises.specs.Valued.{EntryFit, entry_fits}

-- BLOCKS BY NUMBER: P holds of each of xs with its number, and the first's is i.
module _ {A : Type 0} (P : ℕ → A → Type 0) where
  abbrev AllFrom : ℕ → List A → Type 0
  AllFrom i [] = Unit {0}
  AllFrom i (x ∷ xs) = P i x × AllFrom (suc i) xs

  from_at : (d : A) → ((j : ℕ) → P j d) → (i : ℕ) (xs : List A) → AllFrom i xs → (j k : ℕ) → i + j ≡ k → P k (get_or xs j d)
  from_at d h i [] f j k e = h k
  from_at d h i (x ∷ xs) f zero k e = let z : i ≡ k = omega arith in subst (λ y. P y x) z f.0
  from_at d h i (x ∷ xs) f (suc j) k e = from_at d h (suc i) xs f.1 j k (omega arith)

-- WHAT THE RECORDS MAKE fits, record by record from the last. `own` is how many BLOCKs stand before.
module _ (m : Model) where
  -- an action that may stand behind `own` BLOCKs
  abbrev ActAt : ℕ → Action → Type 0
  ActAt own a = ActFit m a × AllOf (λ k. own ≤ k) (inner a)

  abbrev BlockAt : ℕ → List Action → Type 0
  BlockAt b = AllOf (ActAt (suc b))

  abbrev Makes : ℕ → Gathered → Type 0
  Makes own g =
      AllOf (λ n. n ≤ No.top_amount) g.model.totals × AllOf (λ n. n ≤ No.top_amount) g.model.amounts
      × AllOf I32 g.model.vars
      × AllOf (λ b. b < length m.blocks) g.model.classes
      × AllOf (EntityFit m) g.model.entities × AllOf SamplerFit g.model.samplers × AllOf (ActAt own) g.loose
      × AllFrom BlockAt own g.model.blocks

  one_more : (own : ℕ) (e : Entry) (g : Gathered) → EntryFit m e → AllOf (λ k. own ≤ k) (inner_of e)
      → Makes (opened own (group_of e)) g → Makes own (adds g e)
  one_more own (RES n) g f o h = ((f, h.0), h.1, h.2, h.3, h.4, h.5, h.6, h.7)
  one_more own (BIN n) g f o h = (h.0, (f, h.1), h.2, h.3, h.4, h.5, h.6, h.7)
  one_more own SYNC g f o h = h
  one_more own (VAR v) g f o h = (h.0, h.1, (f, h.2), h.3, h.4, h.5, h.6, h.7)
  one_more own (CLASS b) g f o h = (h.0, h.1, h.2, (f, h.3), h.4, h.5, h.6, h.7)
  one_more own BLOCK g f o h = (h.0, h.1, h.2, h.3, h.4, h.5, tt, (h.6, h.7))
  one_more own (ENTITY x) g f o h = (h.0, h.1, h.2, h.3, (f, h.4), h.5, h.6, h.7)
  one_more own (SAMPLER x) g f o h = (h.0, h.1, h.2, h.3, h.4, (f, h.5), h.6, h.7)
  one_more own (ACTION a) g f o h = (h.0, h.1, h.2, h.3, h.4, h.5, ((f, o), h.6), h.7)

makes : (n : List ℕ) (g : Gathered) → ((j : ℕ) → get_or n j 0 ≡ get_or (counts g) j 0)
    → (seen x : List ℕ) (own : ℕ) (rs : List Raw) → first_pass seen rs ≡ accepted x → second_pass n own rs ≡ accepted passed
    → Makes g.model own (gather rs)
unfolding gather first_pass
makes n g c seen x own [] p q = (tt, tt, tt, tt, tt, tt, tt, tt)
makes n g c seen x own (torn at ∷ rs) p q = not_accepted p
makes n g c seen x own (raw at k bs ∷ rs) p q =
    let a = first_on at k bs rs seen x p in
    let b = second_on at k bs rs n own q in
    let e : Entry = (row_of k).says bs in
    let ih = makes n g c (saw seen k) x (opened own k) rs a.1 b.1 in
    one_more g.model own e (gather rs) (entry_fits n g c seen own k bs a.0 b.0)
    (all_map _ _ (λ i. leb-true own i) (inner_of e) (all_hold (leb own) (inner_of e) b.0.in_order))
    (subst (λ o. Makes g.model o (gather rs)) (opens k bs own a.0.grouped) ih)

made : (rs : List Raw) (p : TwoPasses rs) → Makes (gather rs).model 0 (gather rs)
made rs p = makes p.seen (gather rs) (λ j. (counted rs p j).0) none_seen p.seen 0 rs p.first p.second

block_at : (rs : List Raw) → TwoPasses rs → (b : ℕ) → BlockAt (gather rs).model b (block (gather rs).model b)
block_at rs p b =
    from_at (BlockAt (gather rs).model) [] (λ j. tt) 0 (gather rs).model.blocks (made rs p).7 b b (omega arith)

-- IT FITS.
fits : (rs : List Raw) → TwoPasses rs → Fit (gather rs).model
fits rs p =
    let h = made rs p in
    record {
      acts = λ b. all_map _ (ActFit (gather rs).model) (λ a x. x.0) (block (gather rs).model b) (block_at rs p b);
      totals_fit = h.0;
      amounts_fit = h.1;
      vars_fit = h.2;
      entities_fit = h.4;
      samplers_fit = h.5;
      few_totals = (counted rs p K.RES).1;
      few_amounts = (counted rs p K.BIN).1;
      few_syncs = (counted rs p K.SYNC).1;
      few_vars = (counted rs p K.VAR).1;
      few_classes = (counted rs p K.CLASS).1;
      few_blocks = (counted rs p K.BLOCK).1;
      few_entities = (counted rs p K.ENTITY).1;
      few_samplers = (counted rs p K.SAMPLER).1;
      few_actions = omega (arith, (counted rs p K.ACTION).1);
    }

pub accepted_fit : (bs : List ℕ) (m : Model) → decode bs ≡ accepted m → Fit m
accepted_fit = of_accepted Fit λ rs p. fits rs p.two

-- IT NESTS: the blocks that an action names are there, since it fits.
inner_there : (m : Model) (a : Action) → ActFit m a → AllOf (λ k. k < length m.blocks) (inner a)
inner_there m (HOLD e) f = tt
inner_there m (PRIO e) f = tt
inner_there m (TRACE e) f = tt
inner_there m (SET i e) f = tt
inner_there m (LSET i e) f = tt
inner_there m (DO n b) f = (f, tt)
inner_there m (PUTR i n) f = tt
inner_there m (PUTB i n) f = tt
inner_there m (PUTS i n) f = tt
inner_there m (BECOME i) f = tt
inner_there m (REQ c) f = tt
inner_there m (TRY bs) f = all_mapped (BranchFit m) (λ k. k < length m.blocks) (λ x. x.block) (λ x h. h.0) bs f.1
inner_there m (WHILE b c) f = (f.0, tt)
inner_there m (START c t h) f = tt
inner_there m CLOSE f = tt

pub links : (rs : List Raw) → TwoPasses rs → Linked (gather rs).model
links rs p = record { later = at; there = (made rs p).3 }
  where
    m : Model
    m = (gather rs).model

    at : (b : ℕ) → AllOf (λ a. AllOf (λ k. (b < k) × (k < length m.blocks)) (inner a)) (block m b)
    at b =
        all_map _ _ (λ a x. all_both _ _ (inner a) x.1 (inner_there m a x.0)) (block m b) (block_at rs p b)

-- The third pass has looked at each class. Row by row: of a CLASS it has found the body not too deep, of the others it says
-- nothing.
module _ (m : Model) where
  abbrev Shallow : Gathered → Type 0
  Shallow g = AllOf (λ b. depth m b ≤ No.deepest) g.model.classes

  abbrev RowShallow : Row → Type 0
  RowShallow r =
      (bs : List ℕ) (g : Gathered) → eqb r.kind K.CLASS && ltb No.deepest (depth m (u16 bs 0)) ≡ false → Shallow g
      → Shallow (adds g (r.says bs))

  rows_shallow : AllOf RowShallow table
  rows_shallow =
      plain & plain & plain & plain & (λ bs g d h. (ltb-false No.deepest (depth m (u16 bs 0)) d, h)) & plain & plain & plain
      & plain & plain & plain & plain & plain & plain & plain & plain & plain & plain & plain & plain & plain & plain & plain
      & tt
    where
      plain : {A : Type 0} (bs : List ℕ) (g : Gathered) → A → Shallow g → Shallow g
      plain bs g d h = h

  one_class : (k : ℕ) (bs : List ℕ) (g : Gathered) → 0 < (row_of k).group
      → eqb k K.CLASS && ltb No.deepest (depth m (u16 bs 0)) ≡ false → Shallow g → Shallow (adds g ((row_of k).says bs))
  one_class k bs g l d h =
      let r = its_row RowShallow rows_shallow k l in
      r.0 bs g (subst (λ x. eqb x K.CLASS && ltb No.deepest (depth m (u16 bs 0)) ≡ false) r.1 d) h

shallow : (m : Model) (seen x : List ℕ) (rs : List Raw) → first_pass seen rs ≡ accepted x → third_pass m rs ≡ accepted passed
    → AllOf (λ b. depth m b ≤ No.deepest) (gather rs).model.classes
unfolding gather first_pass
shallow m seen x [] p r = tt
shallow m seen x (torn at ∷ rs) p r = not_accepted p
shallow m seen x (raw at k bs ∷ rs) p r =
    let a = first_on at k bs rs seen x p in
    let d = third_on at k bs rs m r in
    one_class m k bs (gather rs) a.0.grouped d.0 (shallow m (saw seen k) x rs a.1 d.1)

nests : (rs : List Raw) → Passes rs → Nested (gather rs).model
nests rs p =
    let l = links rs p.two in
    let m : Model = (gather rs).model in
    record {
      later = l.later;
      bodies = all_both _ _ m.classes l.there (shallow m none_seen p.two.seen rs p.two.first p.third);
    }

pub accepted_nested : (bs : List ℕ) (m : Model) → decode bs ≡ accepted m → Nested m
accepted_nested = of_accepted Nested nests

-- IT GOES FORWARD, if nothing may loop.
goes_forward : (m : Model) (b : ℕ) (a : Action) → AllOf (λ k. b < k) (inner a) → may_loop m b a ≡ false → GoesForward m b a
goes_forward m b (HOLD e) f l = tt
goes_forward m b (PRIO e) f l = tt
goes_forward m b (TRACE e) f l = tt
goes_forward m b (SET i e) f l = tt
goes_forward m b (LSET i e) f l = tt
goes_forward m b (DO n k) f l = f.0
goes_forward m b (PUTR i n) f l = tt
goes_forward m b (PUTB i n) f l = tt
goes_forward m b (PUTS i n) f l = tt
goes_forward m b (BECOME i) f l = tt
goes_forward m b (REQ c) f l = tt
goes_forward m b (TRY bs) f l = all_unmap (λ k. b < k) (λ x. x.block) bs f
goes_forward m b (WHILE k c) f l = no_way (sym l)
goes_forward m b (START c t h) f l = leb-false (body m c) b l
goes_forward m b CLOSE f l = tt

-- no action of block b may loop
abbrev Ends : Model → ℕ → List Action → Type 0
Ends m b xs = any (may_loop m b) xs ≡ false

all_end : (m : Model) (b : ℕ) (xs : List (List Action)) → loops_from m b xs ≡ false → AllFrom (Ends m) b xs
all_end m b [] l = tt
all_end m b (x ∷ xs) l = let a = or-false (any (may_loop m b) x) _ l in (a.0, all_end m (suc b) xs a.1)

advances : (rs : List Raw) → TwoPasses rs → loops (gather rs).model ≡ false → Forward (gather rs).model
advances rs p l = record { forward = at }
  where
    m : Model
    m = (gather rs).model

    at : (b : ℕ) → AllOf (GoesForward m b) (block m b)
    at b =
        let e = from_at (Ends m) [] (λ j. refl) 0 m.blocks (all_end m 0 m.blocks l) b b (omega arith) in
        let h = all_both _ _ (block m b) (block_at rs p b) (none_hold (may_loop m b) (block m b) e) in
        all_map _ (GoesForward m b) (λ a x. goes_forward m b a x.0.1 x.1) (block m b) h

pub accepted_forward : (bs : List ℕ) (m : Model) → decode bs ≡ accepted m → loops m ≡ false → Forward m
accepted_forward = of_accepted (λ m. loops m ≡ false → Forward m) λ rs p. advances rs p.two
