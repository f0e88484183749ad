-- Every name of a text that is in no trouble has a number of a record that is there; so the records of its blocks are in order.
-- Assumes nothing.
use Prim.Native.Nat.{ℕ, suc, ◌+◌, ◌≤◌, ◌<◌}
use Rattle.std.proofs.Common.{arith, sym, ◌∙◌, subst, eqb-true}
use Rattle.std.specs.Prelude.{◌≡◌, Bool, not, eqb, get_or, if◌then◌else◌}
use Rattle.std.proofs.Math.Path.{refl, ap}
use mathlib.Core.List.{List, [], ◌∷◌, ◌++◌, map}
use Rattle.std.proofs.Math.Bool.{true, false}
use Rattle.std.proofs.Math.Option.{none}
use Rattle.std.proofs.Math.ListN.{length}
use Rattle.std.proofs.lemmas.Bool.{eqb-false}
use Rattle.semantics.specs.Words.{any, keep}
use Rattle.semantics.specs.Kinds as K
use Rattle.semantics.specs.Record as R
use Rattle.semantics.specs.Record.{Entry}
use Rattle.promises.specs.Laws.{no_way, not-true, if_has, AllOf, all_append, all_mapped, over, over-append, over-map, once}
use Rattle.promises.specs.Laws.{once_apart, once_self, keep-once}
use Rattle.promises.specs.Counted.{group_of}
use Rattle.text_semantics.specs.Numbers as No
use Rattle.text_semantics.specs.Grammar as G
use Rattle.text_semantics.specs.Grammar.{Name, Declaration, Text, Few, Locals, declare}
use Rattle.text_semantics.specs.Names.{Known, Event, asks, declares, announces, embodies, leaves, named, stays, one_more, bodied}
use Rattle.text_semantics.specs.Names.{LOCAL, knows, after, trouble, trouble_in, events, in_few, in_locals, in_act, in_declaration}
use Rattle.text_semantics.specs.Meaning as W
use Rattle.text_semantics.specs.Meaning.{Owned, owned, opened, opened_by, entry_of, declarations, to_body, blocks}
use Rattle.text_promises.specs.Judged.{of_group}
use Rattle.text_agrees.specs.Asking.{asked_act}
use Rattle.text_agrees.specs.Events.{after-append}
use Rattle.text_agrees.specs.Lines.{calm_first, calm_split, wants_nothing}
use Rattle.text_agrees.specs.Patches.{Tidy, tidy_keep, tidy_all}
use Rattle.text_agrees.specs.Grown.{opened_in}
use Rattle.text_answers.specs.Naming.{EntryKnown}
use Rattle.text_answers.specs.Seconds.{InOrder, then_runs}
use Rattle.text_answers.specs.Asked.{bound, Numbered, Asked, one_of, block_runs, inside_runs}

-- HOW MANY NAMES of a kind are known.
abbrev pub count : ℕ → List Known → ℕ
count w ks = over (λ k. once w k.what) ks

count_more : (v w : ℕ) (x : Name) (l : Bool) (ks : List Known) → count v (one_more ks w x l) ≡ count v ks + once v w
count_more v w x l ks =
    let k : Known = record { name = x; what = w; number = length (keep (λ k. eqb w k.what) ks); lacks = l } in
    omega (arith, over-append (λ k. once v k.what) ks (k ∷ []))

count-bodied : (v : ℕ) (x : Name) (ks : List Known) → count v (map (bodied x) ks) ≡ count v ks
count-bodied v x ks = over-map (λ k. once v k.what) (bodied x) ks

count-stays : (v : ℕ) (ks : List Known) → (v ≡ LOCAL → ⊥) → count v (keep stays ks) ≡ count v ks
count-stays v [] h = refl
count-stays v (k ∷ ks) h = go (eqb k.what LOCAL) refl (count-stays v ks h)
  where
    go : (b : Bool) → eqb k.what LOCAL ≡ b → count v (keep stays ks) ≡ count v ks
        → count v (if not b then k ∷ keep stays ks else keep stays ks) ≡ count v (k ∷ ks)
    go true e i = omega (arith, i, once_apart v k.what (λ f. h (f ∙ eqb-true k.what LOCAL e)))
    go false e i = omega (arith, i)

count_left : (ks : List Known) → count LOCAL (keep stays ks) ≡ 0
count_left [] = refl
count_left (k ∷ ks) = go (eqb k.what LOCAL) refl (count_left ks)
  where
    go : (b : Bool) → eqb k.what LOCAL ≡ b → count LOCAL (keep stays ks) ≡ 0
        → count LOCAL (if not b then k ∷ keep stays ks else keep stays ks) ≡ 0
    go true e i = i
    go false e i = omega (arith, i, once_apart LOCAL k.what (λ f. eqb-false k.what LOCAL e (sym f)))

-- NAMES THAT ARE ONLY ASKED FOR: nothing more is known, and each is in no trouble.
abbrev Quiet : List Event → Type 0
Quiet es = (ks : List Known) → (after ks es ≡ ks) × (trouble_in ks es ≡ none → Asked ks es)

quiet_none : Quiet []
unfolding after
quiet_none ks = (refl, λ h. tt)

quiet_asks : (ws : List ℕ) (x : Name) → Quiet (asks ws x ∷ [])
unfolding after knows
quiet_asks ws x ks = (refl, λ h. ((calm_first ks (asks ws x) [] h).0, tt))

quiet_append : (es fs : List Event) → Quiet es → Quiet fs → Quiet (es ++ fs)
quiet_append es fs p q ks = (
  after-append ks es fs ∙ ap (λ zs. after zs fs) (p ks).0 ∙ (q ks).0,
  λ h.
      let a = calm_split ks es fs h in
      all_append (λ e. trouble ks e ≡ none) es fs ((p ks).1 a.0)
      ((q ks).1 (subst (λ zs. trouble_in zs fs ≡ none) (p ks).0 a.1)),
)

quiet_act : {k : G.Kind} (a : G.Act k) → Quiet (in_act a)
quiet_act a = asked_act Quiet quiet_none quiet_asks quiet_append a

-- A CLASS LINE WITH A BODY: what is known in it and behind it.
module _ (ks : List Known) (x : Name) (l : Locals) (b : G.Act G.actions) where
  abbrev pub in_body : List Known
  in_body = after ks (embodies x ∷ in_locals l)

  pub body-after : after ks (in_declaration (G.class x (G.body l b))) ≡ keep stays in_body
  unfolding after knows
  body-after =
      let zs : List Known = knows ks (embodies x) in
      after-append zs (in_locals l ++ in_act b) (leaves ∷ [])
      ∙ ap (keep stays) (after-append zs (in_locals l) (in_act b) ∙ (quiet_act b (after zs (in_locals l))).0)

  pub body_calm : trouble_in ks (in_declaration (G.class x (G.body l b))) ≡ none
      → (trouble_in ks (embodies x ∷ in_locals l) ≡ none) × Asked in_body (in_act b)
  body_calm h =
      let a = calm_split ks (embodies x ∷ (in_locals l ++ in_act b)) (leaves ∷ []) h in
      let c = calm_split ks (embodies x ∷ in_locals l) (in_act b) a.0 in
      (c.0, (quiet_act b in_body).1 c.1)

-- A class that is announced is new.
pub new_class : (ks : List Known) (x : Name) → trouble_in ks (announces x ∷ []) ≡ none → any (named x) ks ≡ false
unfolding trouble
new_class ks x h = not-true (any (named x) ks) (wants_nothing No.AGAIN _ (calm_first ks (announces x) [] h).0)

-- NUMBERS IN RANGE, from declaration to declaration.
module _ (n : List ℕ) where
  abbrev InRange : Known → Type 0
  InRange k = k.number < bound n k.what

  numbered_more : (ks : List Known) (w : ℕ) (x : Name) (l : Bool) → Numbered n ks → count w ks < bound n w
      → Numbered n (one_more ks w x l)
  numbered_more ks w x l h c =
      let e = keep-once w (λ k. k.what) ks in
      let d : length (keep (λ k. eqb w k.what) ks) < bound n w = omega arith in
      all_append InRange ks _ h (d, tt)

  numbered_keep : (f : Known → Bool) (ks : List Known) → Numbered n ks → Numbered n (keep f ks)
  numbered_keep f [] h = tt
  numbered_keep f (k ∷ ks) h =
      let i = numbered_keep f ks h.1 in if_has (Numbered n) (f k) (λ e. (h.0, i)) (λ e. i)

  -- Locals: never more than eight.
  abbrev Local : List Known → List Known → Type 0
  Local ks zs = Numbered n zs × ((v : ℕ) → (v ≡ LOCAL → ⊥) → count v zs ≡ count v ks)

  few_numbered : {m : ℕ} (xs : Few m) (ks : List Known) → Numbered n ks → count LOCAL ks + m ≤ bound n LOCAL
      → Local ks (after ks (in_few xs))
  unfolding after knows
  few_numbered G.no_names ks h l = (h, λ v e. refl)
  few_numbered (G.also x xs) ks h l =
      let i = few_numbered xs (one_more ks LOCAL x false) (numbered_more ks LOCAL x false h (omega arith))
      (omega (arith, count_more LOCAL LOCAL x false ks)) in
      (i.0, λ v e. omega (arith, i.1 v e, count_more v LOCAL x false ks, once_apart v LOCAL e))

  locals_numbered : (l : Locals) (ks : List Known) → Numbered n ks → count LOCAL ks ≡ 0 → Local ks (after ks (in_locals l))
  unfolding after knows
  locals_numbered G.no_locals ks h c = (h, λ v e. refl)
  locals_numbered (G.locals x xs) ks h c =
      let i = few_numbered xs (one_more ks LOCAL x false) (numbered_more ks LOCAL x false h (omega arith))
      (omega (arith, count_more LOCAL LOCAL x false ks)) in
      (i.0, λ v e. omega (arith, i.1 v e, count_more v LOCAL x false ks, once_apart v LOCAL e))

  -- WHERE A DECLARATION COMES, and os are still to be written: every name has its number, and there is room.
  pub record Ready (ks : List Known) (os : List Owned) : Type 0 where
    pub tidy : Tidy ks
    pub numbers : Numbered n ks
    pub no_locals : count LOCAL ks ≡ 0
    pub room : (v : ℕ) → (v ≡ LOCAL → ⊥) → count v ks + of_group v os ≤ bound n v

  more_ready : (ks : List Known) (w : ℕ) (x : Name) (l : Bool) (e : Entry) (at : ℕ) (os : List Owned) → group_of e ≡ w
      → (w ≡ LOCAL → ⊥) → Tidy (one_more ks w x l) → Ready ks (owned e at ∷ os) → Ready (one_more ks w x l) os
  more_ready ks w x l e at os g m t r =
      let o : once w (group_of e) ≡ 1 = ap (once w) g ∙ once_self w in
      record {
        tidy = t;
        numbers = numbered_more ks w x l r.numbers (omega (arith, r.room w m));
        no_locals = omega (arith, r.no_locals, count_more LOCAL w x l ks, once_apart LOCAL w (λ f. m (sym f)));
        room = λ v f. omega (arith, r.room v f, count_more v w x l ks, ap (once v) g);
      }

  -- The class of a body is new, or was announced.
  abbrev class_entry : List Known → Name → ℕ → ℕ → List Owned
  class_entry ks x b at = map (λ e. owned e at) (if any (named x) ks then [] else R.CLASS b ∷ [])

  class_ready : (ks : List Known) (x : Name) (b at : ℕ) (os : List Owned) → Tidy (knows ks (embodies x))
      → Ready ks (class_entry ks x b at ++ os) → Ready (knows ks (embodies x)) os
  unfolding knows
  class_ready ks x b at os t r = go (any (named x) ks) t r
    where
      go : (w : Bool) → Tidy (if w then map (bodied x) ks else one_more ks K.CLASS x false)
          → Ready ks (map (λ e. owned e at) (if w then [] else R.CLASS b ∷ []) ++ os)
          → Ready (if w then map (bodied x) ks else one_more ks K.CLASS x false) os
      go true t r =
          record {
            tidy = t;
            numbers = all_mapped InRange InRange (bodied x) (λ k h. h) ks r.numbers;
            no_locals = count-bodied LOCAL x ks ∙ r.no_locals;
            room = λ v f. omega (arith, r.room v f, count-bodied v x ks);
          }
      go false t r = more_ready ks K.CLASS x false (R.CLASS b) at os refl (λ f. omega arith) t r

  module _ (ks : List Known) (x : Name) (l : Locals) (b : G.Act G.actions) (c at : ℕ) (os : List Owned)
      (h : trouble_in ks (in_declaration (G.class x (G.body l b))) ≡ none) (r : Ready ks (class_entry ks x c at ++ os)) where
    its_class : Ready (knows ks (embodies x)) os
    unfolding after
    its_class =
        class_ready ks x c at os
        (tidy_all ks (embodies x ∷ []) (calm_split ks (embodies x ∷ []) (in_locals l) (body_calm ks x l b h).0).0 r.tidy) r

    its_locals : Local (knows ks (embodies x)) (in_body ks x l b)
    unfolding after
    its_locals = locals_numbered l (knows ks (embodies x)) its_class.numbers its_class.no_locals

    its_tidy : Tidy (in_body ks x l b)
    its_tidy = tidy_all ks (embodies x ∷ in_locals l) (body_calm ks x l b h).0 r.tidy

    behind_body : Ready (after ks (in_declaration (G.class x (G.body l b)))) os
    behind_body =
        subst (λ zs. Ready zs os) (sym (body-after ks x l b))
        (record {
          tidy = tidy_keep stays (in_body ks x l b) its_tidy;
          numbers = numbered_keep stays (in_body ks x l b) its_locals.0;
          no_locals = count_left (in_body ks x l b);
          room = λ v f. omega (arith, its_class.room v f, its_locals.1 v f, count-stays v (in_body ks x l b) f);
        })

    body_runs : (k : ℕ) → InOrder n k (suc (opened b)) (W.blocks_of ks k at (G.class x (G.body l b)))
    body_runs k =
        let zs : List Known = in_body ks x l b in
        let a = (body_calm ks x l b h).1 in
        block_runs n zs its_tidy.0 its_locals.0 b at k (at + to_body l) at a
        (inside_runs n zs its_tidy.0 its_locals.0 b at (suc k) (at + to_body l) a)

  -- What is ready for more is ready for less.
  less_ready : (ks : List Known) (o : Owned) (os : List Owned) → Ready ks (o ∷ os) → Ready ks os
  less_ready ks o os r =
      record {
        tidy = r.tidy;
        numbers = r.numbers;
        no_locals = r.no_locals;
        room = λ v f. omega (arith, r.room v f);
      }

  ready_on : (d : Declaration) (ds : Text) (ks : List Known) (k at : ℕ) (os : List Owned)
      → trouble_in ks (in_declaration d) ≡ none → Ready ks (map (λ e. owned e at) (entry_of ks k d ds) ++ os)
      → Ready (after ks (in_declaration d)) os
  unfolding after knows
  ready_on (G.res x v) ds ks k at os h r =
      more_ready ks K.RES x false (R.RES v.value) at os refl (λ f. omega arith)
      (tidy_all ks (declares K.RES x ∷ []) h r.tidy) r
  ready_on (G.bin x v) ds ks k at os h r =
      more_ready ks K.BIN x false (R.BIN v.value) at os refl (λ f. omega arith)
      (tidy_all ks (declares K.BIN x ∷ []) h r.tidy) r
  ready_on (G.sync x) ds ks k at os h r =
      more_ready ks K.SYNC x false R.SYNC at os refl (λ f. omega arith) (tidy_all ks (declares K.SYNC x ∷ []) h r.tidy) r
  ready_on (G.var x v) ds ks k at os h r =
      more_ready ks K.VAR x false (R.VAR (W.signed_of v)) at os refl (λ f. omega arith)
      (tidy_all ks (declares K.VAR x ∷ []) h r.tidy) r
  ready_on (G.sampler x a b v) ds ks k at os h r =
      more_ready ks K.SAMPLER x false
      (R.SAMPLER (record { lowest = W.signed_of a; highest = W.signed_of b; seed = v.value })) at os refl (λ f. omega arith)
      (tidy_all ks (declares K.SAMPLER x ∷ []) h r.tidy) r
  ready_on (G.class x G.announced) ds ks k at os h r =
      let c : ℕ = W.body_block x k (G.class x G.announced ∷ ds) in
      more_ready ks K.CLASS x true (R.CLASS c) at os refl (λ f. omega arith) (tidy_all ks (announces x ∷ []) h r.tidy)
      (subst (λ w. Ready ks (map (λ e. owned e at) (if w then [] else R.CLASS c ∷ []) ++ os)) (new_class ks x h) r)
  ready_on (G.class x (G.body l b)) ds ks k at os h r =
      behind_body ks x l b (W.body_block x k (G.class x (G.body l b) ∷ ds)) at os h r
  ready_on (G.entity x v) ds ks k at os h r =
      less_ready ks (owned (R.ENTITY (record { class = W.number_of ks x; offset = v.value })) at) os r

  -- THE BLOCKS of a text.
  one_runs : (d : Declaration) (ds : Text) (ks : List Known) (k at : ℕ) (os : List Owned)
      → trouble_in ks (in_declaration d) ≡ none → Ready ks (map (λ e. owned e at) (entry_of ks k d ds) ++ os)
      → InOrder n k (opened_by d) (W.blocks_of ks k at d)
  one_runs (G.res x v) ds ks k at os h r = (λ l. tt, refl)
  one_runs (G.bin x v) ds ks k at os h r = (λ l. tt, refl)
  one_runs (G.sync x) ds ks k at os h r = (λ l. tt, refl)
  one_runs (G.var x v) ds ks k at os h r = (λ l. tt, refl)
  one_runs (G.sampler x a b v) ds ks k at os h r = (λ l. tt, refl)
  one_runs (G.class x G.announced) ds ks k at os h r = (λ l. tt, refl)
  one_runs (G.class x (G.body l b)) ds ks k at os h r =
      body_runs ks x l b (W.body_block x k (G.class x (G.body l b) ∷ ds)) at os h r k
  one_runs (G.entity x v) ds ks k at os h r = (λ l. tt, refl)

  pub blocks_run : (t : Text) (ks : List Known) (k at : ℕ) → trouble_in ks (events t) ≡ none → Ready ks (declarations ks k at t)
      → InOrder n k (opened_in t) (blocks ks k at t)
  unfolding blocks declarations
  blocks_run [] ks k at h r = (λ l. tt, refl)
  blocks_run (d ∷ ds) ks k at h r =
      let c = calm_split ks (in_declaration d) (events ds) h in
      let q : ℕ = at + length (declare d []) in
      let zs : List Known = after ks (in_declaration d) in
      let os : List Owned = declarations zs (k + opened_by d) q ds in
      then_runs n k (opened_by d) (opened_in ds) (W.blocks_of ks k at d) (blocks zs (k + opened_by d) q ds)
      (one_runs d ds ks k at os c.0 r)
      (blocks_run ds zs (k + opened_by d) q c.1 (ready_on d ds ks k at os c.0 r))

-- A CLASS WITHOUT A BODY, by its record. No block has the number that stands for none.
abbrev pub lacks_body : Entry → Bool
lacks_body (R.RES v) = false
lacks_body (R.BIN v) = false
lacks_body R.SYNC = false
lacks_body (R.VAR v) = false
lacks_body (R.CLASS b) = eqb b No.no_body
lacks_body R.BLOCK = false
lacks_body (R.ENTITY e) = false
lacks_body (R.SAMPLER x) = false
lacks_body (R.ACTION a) = false

pub body_opens : (x : Name) (d : Declaration) → W.embodied x d ≡ true → 0 < opened_by d
body_opens x (G.res y v) e = no_way e
body_opens x (G.bin y v) e = no_way e
body_opens x (G.sync y) e = no_way e
body_opens x (G.var y v) e = no_way e
body_opens x (G.sampler y a b v) e = no_way e
body_opens x (G.class y G.announced) e = no_way e
body_opens x (G.class y (G.body ls b)) e = omega arith
body_opens x (G.entity y v) e = no_way e

pub body_there : (x : Name) (k : ℕ) (t : Text) (m : ℕ) → k + opened_in t ≤ m → eqb (W.body_block x k t) No.no_body ≡ false
    → W.body_block x k t < m
unfolding W.body_block
body_there x k [] m l h = no_way (sym h)
body_there x k (d ∷ ds) m l h =
    go (W.embodied x d) refl h (λ e. body_there x (k + opened_by d) ds m (omega arith) e)
  where
    go : (w : Bool) → W.embodied x d ≡ w
        → eqb (if w then k else W.body_block x (k + opened_by d) ds) No.no_body ≡ false
        → (eqb (W.body_block x (k + opened_by d) ds) No.no_body ≡ false → W.body_block x (k + opened_by d) ds < m)
        → (if w then k else W.body_block x (k + opened_by d) ds) < m
    go true e f i = omega (arith, body_opens x d e)
    go false e f i = i f

-- DECLARATIONS name what is there, unless it is a body that isn't.
module _ (n : List ℕ) where
  abbrev Unless : Owned → Type 0
  Unless o = lacks_body o.entry ≡ false → EntryKnown n 0 o.entry

  one_known : (d : Declaration) (ds : Text) (ks : List Known) (k at : ℕ) → k + opened_in (d ∷ ds) ≤ get_or n K.BLOCK 0
      → trouble_in ks (in_declaration d) ≡ none → Tidy ks → Numbered n ks
      → AllOf Unless (map (λ e. owned e at) (entry_of ks k d ds))
  one_known (G.res x v) ds ks k at l h t m = ((λ e. tt), tt)
  one_known (G.bin x v) ds ks k at l h t m = ((λ e. tt), tt)
  one_known (G.sync x) ds ks k at l h t m = ((λ e. tt), tt)
  one_known (G.var x v) ds ks k at l h t m = ((λ e. tt), tt)
  one_known (G.sampler x a b v) ds ks k at l h t m = ((λ e. tt), tt)
  one_known (G.class x b) ds ks k at l h t m =
      if_has (λ es. AllOf Unless (map (λ e. owned e at) es)) (any (named x) ks) (λ e. tt)
      (λ e. (body_there x k (G.class x b ∷ ds) (get_or n K.BLOCK 0) l, tt))
  one_known (G.entity x v) ds ks k at l h t m =
      ((λ e. one_of n ks t.0 m K.CLASS x (calm_first ks (asks (K.CLASS ∷ []) x) [] h).0), tt)

  pub declared_known : (t : Text) (ks : List Known) (k at : ℕ) → k + opened_in t ≤ get_or n K.BLOCK 0
      → trouble_in ks (events t) ≡ none → Ready n ks (declarations ks k at t) → AllOf Unless (declarations ks k at t)
  unfolding declarations
  declared_known [] ks k at l h r = tt
  declared_known (d ∷ ds) ks k at l h r =
      let c = calm_split ks (in_declaration d) (events ds) h in
      let q : ℕ = at + length (declare d []) in
      let zs : List Known = after ks (in_declaration d) in
      let os : List Owned = declarations zs (k + opened_by d) q ds in
      all_append Unless (map (λ e. owned e at) (entry_of ks k d ds)) os
      (one_known d ds ks k at l c.0 r.tidy r.numbers)
      (declared_known ds zs (k + opened_by d) q (omega arith) c.1 (ready_on n d ds ks k at os c.0 r))
