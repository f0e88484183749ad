-- At a cut, what the machine's sheet counts are the records of the tree in hand, of which the last one need not be kept.
-- Assumes nothing.
use Rattle.std.specs.Prelude.{ℕ, zero, suc, ◌≤◌, ◌≡◌, refl, List, [], ◌∷◌, ◌++◌, Bool, true, false, ◌⊎◌, eqb, length, get_or, if◌then◌else◌}
use Rattle.std.proofs.Common.{arith, sym, ◌∙◌, ap, subst, inl, inr, length-append}
use Rattle.std.proofs.Math.Option.{none, some}
use Rattle.semantics.specs.Kinds as K
use Rattle.semantics.specs.Model as M
use Rattle.semantics.specs.Model.{Branch, Action}
use Rattle.semantics.specs.Record as R
use Rattle.promises.specs.Laws.{no_way, AllOf, all_map, all_append, all_split}
use Rattle.text_semantics.specs.Token.{Token}
use Rattle.text_semantics.specs.Grammar as G
use Rattle.text_semantics.specs.Grammar.{Act, Declaration, Text}
use Rattle.text_semantics.specs.Names.{Known, events, trouble_in}
use Rattle.text_semantics.specs.Meaning.{Owned, owned, kind_of, number_of, means, direct, inside, blocks, blocks_of, declarations}
use Rattle.text_semantics.specs.Meaning.{records}
use Rattle.text_semantics.specs.Written.{action_body, body_of}
use Rattle.text_semantics.specs.Reading.{Symbol, Of, say, step, reading, text_s}
use Rattle.text_semantics.specs.Answer.{is_cut, tree_in}
use Rattle.text_machine.specs.Entry.{KEPT}
use Rattle.text_promises.specs.Tables.{piled}
use Rattle.text_promises.specs.Judged as J
use Rattle.text_promises.specs.Fitting.{records_declare}
use Rattle.text_agrees.specs.Laying.{Short, Fair, short_fair, shorts_fair}
use Rattle.text_agrees.specs.Events.{Fewer}
use Rattle.text_agrees.specs.Whole.{text_counts}
use Rattle.text_agrees.specs.Closing.{cut_tree, cut_reader, cut_account}
use Rattle.text_agrees.specs.Growing as N
use Rattle.text_agrees.specs.Growing.{Fresh, Line, Grows, Stepped, from_nothing, from_cut, cut_grows}
use Rattle.text_agrees.specs.Grown.{Patch, adds, extends, tried, opened_at, blocks_last, grown_within}
use Rattle.text_answers.specs.Cutting.{Tallied}

-- WHAT COMES BEFORE the last branch.
before_last : (bs cs ds : List Branch) (b c : Branch) → bs ++ (b ∷ []) ≡ cs ++ (c ∷ ds) →
    (bs ≡ cs) ⊎ ((d : Branch) × (es : List Branch) × (bs ≡ cs ++ (d ∷ es)))
before_last [] [] ds b c e = inl refl
before_last [] (x ∷ cs) ds b c e =
    let n = ap length e in let m = length-append cs (c ∷ ds) in absurd (omega arith)
before_last (x ∷ bs) [] ds b c e = inr (x, bs, refl)
before_last (x ∷ bs) (y ∷ cs) ds b c e =
    let f : bs ++ (b ∷ []) ≡ cs ++ (c ∷ ds) = cc in
    let g : x ≡ y = cc in
    go (before_last bs cs ds b c f) g
  where
    go : (bs ≡ cs) ⊎ ((d : Branch) × (es : List Branch) × (bs ≡ cs ++ (d ∷ es))) → x ≡ y →
        (x ∷ bs ≡ y ∷ cs) ⊎ ((d : Branch) × (es : List Branch) × (x ∷ bs ≡ y ∷ (cs ++ (d ∷ es))))
    go (inl f) g = inl cc
    go (inr (d, es, f)) g = inr (d, es, cc)

-- One branch more than what is kept; and what is no TRY.
more_fair : (bs : List Branch) (b : Branch) (at : ℕ) → Short (tried bs at) → Fair (tried (bs ++ (b ∷ [])) at)
unfolding body_of
more_fair bs b at h zs e cs c ds f =
    let g : bs ++ (b ∷ []) ≡ zs = cc in
    go (before_last bs cs ds b c (g ∙ f))
  where
    go : (bs ≡ cs) ⊎ ((d : Branch) × (es : List Branch) × (bs ≡ cs ++ (d ∷ es))) → length (action_body (M.TRY cs)) ≤ KEPT
    go (inl g) = subst (λ xs. length (action_body (M.TRY xs)) ≤ KEPT) g h
    go (inr (d, es, g)) = short_fair (tried bs at) h bs refl cs d es g

other_fair : (a : Action) (at : ℕ) → (M.kind_of a ≡ K.TRY → ⊥) → Fair (owned (R.ACTION a) at)
other_fair a at h zs e = let f : a ≡ M.TRY zs = cc in absurd (h (ap M.kind_of f))

-- A FRESH ACTION.
fresh_fair : {a : Act G.action} {j : ℕ} → Fresh a j → (ks : List Known) (k at : ℕ) → Fair (direct ks a k at)
unfolding direct body_of
fresh_fair (N.hold e) ks k at = other_fair _ at (λ i. omega arith)
fresh_fair (N.priority e) ks k at = other_fair _ at (λ i. omega arith)
fresh_fair (N.trace e) ks k at = other_fair _ at (λ i. omega arith)
fresh_fair (N.set x e) ks k at = other_fair _ at (go (eqb (kind_of ks x) K.VAR))
  where
    go : (b : Bool) →
        M.kind_of (if b then M.SET (number_of ks x) (means ks e) else M.LSET (number_of ks x) (means ks e)) ≡ K.TRY → ⊥
    go true i = omega arith
    go false i = omega arith
fresh_fair (N.put_r x n) ks k at = other_fair _ at (λ i. omega arith)
fresh_fair (N.put_b x n) ks k at = other_fair _ at (λ i. omega arith)
fresh_fair (N.put_s x n) ks k at = other_fair _ at (λ i. omega arith)
fresh_fair (N.become x) ks k at = other_fair _ at (λ i. omega arith)
fresh_fair (N.req c) ks k at = other_fair _ at (λ i. omega arith)
fresh_fair (N.start x n g) ks k at = other_fair _ at (λ i. omega arith)
fresh_fair N.close ks k at = other_fair _ at (λ i. omega arith)
fresh_fair (N.repeat n) ks k at = other_fair _ at (λ i. omega arith)
fresh_fair (N.try c) ks k at = more_fair [] _ at (omega arith)
fresh_fair (N.while c) ks k at = other_fair _ at (λ i. omega arith)

-- A LINE MORE: what it does to a tree whose records are kept.
block_fair : (own : ℕ) → Fair (owned R.BLOCK own)
block_fair own zs e = let z : ◌≡◌ {A = ℕ} 0 1 = cc in absurd (omega arith)

opened_fair : (j at : ℕ) → AllOf Fair (opened_at j at)
opened_fair zero at = tt
opened_fair (suc j) at = (block_fair at, opened_fair j at)

declared_fair : (o : Owned) → J.declares o.entry ≡ true → Fair o
declared_fair o h zs e = no_way (sym (ap J.declares e) ∙ h)

patch_fair : (ks : List Known) {x : N.New} {k at : ℕ} {ps qs more : List Owned} → Patch ks x k at ps qs more → AllOf Short ps →
    AllOf Fair qs × AllOf Fair more
patch_fair ks (adds {j = j} {k = k} {at = at} f) h = ((fresh_fair f ks k at, tt), opened_fair j at)
patch_fair ks (extends c bs o) h = ((more_fair bs _ o h.0, tt), (block_fair o, tt))

line_fair : {d : Declaration} {j : ℕ} → Line d j → (ks : List Known) (k at : ℕ) → AllOf Fair (blocks_of ks k at d)
unfolding direct inside
line_fair (N.res x n) ks k at = tt
line_fair (N.bin x n) ks k at = tt
line_fair (N.sync x) ks k at = tt
line_fair (N.var x n) ks k at = tt
line_fair (N.sampler x a b n) ks k at = tt
line_fair (N.announced x) ks k at = tt
line_fair (N.entity x n) ks k at = tt
line_fair (N.class x) ks k at = (block_fair at, tt)

short_blocks : (t : Text) → AllOf Short (records t) → AllOf Short (blocks [] 0 0 t)
unfolding records
short_blocks t h = (all_split Short (declarations [] 0 0 t) (blocks [] 0 0 t) h).1

last_fair : (ds : Text) (d : Declaration) → AllOf Short (blocks [] 0 0 ds) →
    ((ks : List Known) (k at : ℕ) → AllOf Fair (blocks_of ks k at d)) → AllOf Fair (records (ds ++ (d ∷ [])))
unfolding records
last_fair ds d h f =
    let t : Text = ds ++ (d ∷ []) in
    all_append Fair (declarations [] 0 0 t) (blocks [] 0 0 t)
    (all_map (λ o. J.declares o.entry ≡ true) Fair declared_fair (declarations [] 0 0 t) (records_declare t))
    (subst (AllOf Fair) (sym (blocks_last [] 0 0 ds d))
    (all_append Fair (blocks [] 0 0 ds) _ (shorts_fair (blocks [] 0 0 ds) h) (f _ _ _)))

pub grown_fair : {old new : Text} → Grows old new → AllOf Short (records old) → AllOf Fair (records new)
unfolding direct inside
grown_fair (N.declared ds {d = d} i) h = last_fair ds d (short_blocks ds h) (line_fair i)
grown_fair (N.local ds y x xs) h =
    let d : Declaration = G.class y (G.body G.no_locals G.no_actions) in
    last_fair ds _ (all_split Short (blocks [] 0 0 ds) _ (subst (AllOf Short) (blocks_last [] 0 0 ds d) (short_blocks _ h))).0
    (λ ks k at. (block_fair at, tt))
grown_fair (N.within ds y l p) h =
    let w = grown_within ds y l p in
    let i = all_split Short w.first (w.ps ++ w.rest) (subst (AllOf Short) w.was h) in
    let j = all_split Short w.ps w.rest i.1 in
    let q = patch_fair _ w.law j.0 in
    subst (AllOf Fair) (sym w.is)
    (all_append Fair w.first (w.qs ++ (w.rest ++ w.more)) (shorts_fair w.first i.0)
    (all_append Fair w.qs (w.rest ++ w.more) q.0
    (all_append Fair w.rest w.more (shorts_fair w.rest j.1) q.1)))

-- AT A CUT, where the records of the tree at the cut before are kept.
pub cut_fair : (ts : List Token) (t : Token) (ss : List Symbol) → is_cut t ≡ true →
    piled Of say step (ts ++ (t ∷ [])) (text_s ∷ []) ≡ some ss →
    ((us : List Token) (c : Token) (vs : List Token) → is_cut c ≡ true → ts ≡ (us ++ (c ∷ [])) ++ vs →
    AllOf Short (records (tree_in (reading (us ++ (c ∷ [])))))) → AllOf Fair (records (tree_in (reading (ts ++ (t ∷ [])))))
unfolding records
cut_fair ts t ss h e short = go (cut_grows ts t ss h e)
  where
    go : Stepped ts (tree_in (reading (ts ++ (t ∷ [])))) → AllOf Fair (records (tree_in (reading (ts ++ (t ∷ [])))))
    go (from_nothing u g) = grown_fair g tt
    go (from_cut us c vs i p u g) = grown_fair g (short us c vs i p)

module _ (place : ℕ → ℕ) (ts : List Token) (t : Token) (ss : List Symbol) (h : is_cut t ≡ true)
    (e : piled Of say step (ts ++ (t ∷ [])) (text_s ∷ []) ≡ some ss)
    (calm : trouble_in [] (events (cut_tree place ts t ss h e)) ≡ none) (room : Fewer [] (events (cut_tree place ts t ss h e)))
    (fair : AllOf Fair (records (cut_tree place ts t ss h e))) where
  pub tallied : Tallied place (records (cut_tree place ts t ss h e)) (cut_reader place ts t ss h e).sheet
  tallied =
      let c = text_counts place (cut_tree place ts t ss h e) calm room fair in
      let a = cut_account place ts t ss h e in
      record {
        counts = λ g. ap (λ s. get_or s.seen g 0) a ∙ c.counts g;
        total = ap (λ s. s.total) a ∙ c.total;
        first = λ o os f. ap (λ s. s.first) a ∙ c.first o os f;
        last = ap (λ s. s.last_line) a ∙ c.last;
      }
