-- How deep the blocks of a text nest in the model that its records make, and what one line more does to that.
-- Assumes nothing.
use Prim.Native.Nat.{ℕ, zero, suc, ◌+◌, ◌-◌, ◌≤◌, ◌<◌, max}
use native.Mathlib.Omega.{arith}
use Rattle.std.specs.Prelude.{◌≡◌, Bool, true, false, not, ◌⊎◌, get_or, eqb, ltb, if◌then◌else◌}
use Rattle.std.proofs.Math.Path.{refl, ap, ap₂, subst}
use Rattle.std.proofs.Common.{sym, ◌∙◌, inl, inr, length-append, ltb-false, le-ltb}
use mathlib.Core.List.{List, [], ◌∷◌, ◌++◌, map, append-nil, append_assoc}
use Rattle.std.proofs.Math.Option.{none}
use Rattle.std.proofs.Math.ListN.{length}
use Rattle.std.proofs.lemmas.List.{get_or_at}
use Rattle.semantics.specs.Words.{any, collect, largest}
use Rattle.semantics.specs.Numbers as F
use Rattle.semantics.specs.Kinds as K
use Rattle.semantics.specs.Record as R
use Rattle.semantics.specs.Model.{Model, Action, block}
use Rattle.semantics.specs.Decode.{gather, inner, depth_in, depth}
use Rattle.promises.specs.Laws.{no_way, not-true, if_has, if_two, AllOf, all_map, all_append, all_split, none_hold}
use Rattle.promises.specs.Laws.{all_collect, once}
use Rattle.promises.specs.Counted.{group_of}
use Rattle.text_semantics.specs.Numbers as No
use Rattle.text_semantics.specs.Grammar as G
use Rattle.text_semantics.specs.Grammar.{Name, Kind, Act, Locals, Declaration, Text, declare}
use Rattle.text_semantics.specs.Lexing.{same_bytes}
use Rattle.text_semantics.specs.Names.{Known, named, awaited, after, embodies, in_locals, in_declaration, events, trouble}
use Rattle.text_semantics.specs.Names.{trouble_in}
use Rattle.text_semantics.specs.Meaning as W
use Rattle.text_semantics.specs.Meaning.{Owned, owned, opened, Direct, direct, inside, to_do, to_while, to_try, in_tokens, in_braces}
use Rattle.text_semantics.specs.Meaning.{opened_by, embodied, body_block, entry_of, declarations, to_body, blocks_of, blocks}
use Rattle.text_semantics.specs.Meaning.{records}
use Rattle.text_promises.specs.Cuts.{raws_from}
use Rattle.text_promises.specs.Judged.{declares, Blocks, of_group}
use Rattle.text_promises.specs.Says.{action_in, actions_in, blocks_in, Actions, blocks_append, block_first, blocks_made}
use Rattle.text_promises.specs.Says.{blocks_behind, blocks_no_class, class_in, too_deep}
use Rattle.text_promises.specs.Fitting.{InBlock, direct_fits, inside_fits, BlocksFit, blocks_fit, records_fit, records_declare}
use Rattle.text_promises.specs.Fitting.{records_block}
use Rattle.text_agrees.specs.Growing as N
use Rattle.text_agrees.specs.Growing.{Fresh, New, Put, in_do, in_while, in_try, in_branches, new_branch, in_branch, more_branches}
use Rattle.text_agrees.specs.Growing.{new_action, in_last, further, Line, ending, Grows, declared as a_line, local, within, opens_by}
use Rattle.text_agrees.specs.Lines.{calm_first, calm_split, wants_nothing}
use Rattle.text_agrees.specs.Laying.{collect-append}
use Rattle.text_agrees.specs.Grown.{AtBlock, inside_block, opened_in, declared, built, known_in, grown_body, grown_class}

-- HOW MANY BLOCKS NEST in an action, in the actions of a block, in branches.
unfoldable pub nesting : {j : Kind} → Act j → ℕ
nesting (G.hold e) = 0
nesting (G.priority e) = 0
nesting (G.trace e) = 0
nesting (G.set x e) = 0
nesting (G.repeat n b) = suc (nesting b)
nesting (G.put_r x n) = 0
nesting (G.put_b x n) = 0
nesting (G.put_s x n) = 0
nesting (G.become x) = 0
nesting (G.req c) = 0
nesting (G.try c b bs) = max (suc (nesting b)) (nesting bs)
nesting (G.while c b) = suc (nesting b)
nesting (G.start x n g) = 0
nesting G.close = 0
nesting G.no_branches = 0
nesting (G.etry c b bs) = max (suc (nesting b)) (nesting bs)
nesting G.no_actions = 0
nesting (G.follow a b) = max (nesting a) (nesting b)

-- BLOCKS OF A MODEL, from block k on.
record Stands (m : Model) (k : ℕ) (bs : List (List Action)) : Type 0 where
  before : List (List Action)
  behind : List (List Action)
  at : length before ≡ k
  is : m.blocks ≡ before ++ (bs ++ behind)

module _ {m : Model} {k : ℕ} where
  first_stands : (bs cs : List (List Action)) → Stands m k (bs ++ cs) → Stands m k bs
  first_stands bs cs s =
      record {
        before = s.before;
        behind = cs ++ s.behind;
        at = s.at;
        is = s.is ∙ ap (λ zs. s.before ++ zs) (append_assoc bs cs s.behind);
      }

  rest_stands : (bs cs : List (List Action)) → Stands m k (bs ++ cs) → Stands m (k + length bs) cs
  rest_stands bs cs s =
      record {
        before = s.before ++ bs;
        behind = s.behind;
        at = omega (arith, length-append s.before bs, s.at);
        is = s.is ∙ ap (λ zs. s.before ++ zs) (append_assoc bs cs s.behind)
            ∙ sym (append_assoc s.before bs (cs ++ s.behind));
      }

  block_stands : (b : List Action) (bs : List (List Action)) → Stands m k (b ∷ bs) → block m k ≡ b
  block_stands b bs s = ap (λ zs. get_or zs k []) s.is ∙ get_or_at s.before b (bs ++ s.behind) [] k s.at

-- THE BLOCKS INSIDE an action, as many as it opens.
fit_blocks : (os : List Owned) → BlocksFit os → Blocks os
fit_blocks [] h = tt
fit_blocks (o ∷ os) h = (h.0.1, all_map InBlock (λ o. declares o.entry ≡ false) (λ o a. a.1) os h.1)

first_fits : (os : List Owned) → AtBlock os → AllOf InBlock os → BlocksFit os
first_fits [] b h = tt
first_fits (o ∷ os) b h = ((h.0.0, ap group_of b), h.1)

module _ (ks : List Known) where
  inside_blocks : {j : Kind} (a : Act j) (own k at : ℕ) → Blocks (inside ks a own k at)
  inside_blocks a own k at =
      let os : List Owned = inside ks a own k at in
      fit_blocks os (first_fits os (inside_block ks a own k at) (inside_fits ks a own k at))

  direct-actions : (b : Act G.actions) (k at : ℕ) → Actions (direct ks b k at)
  direct-actions b k at = all_map _ _ (λ o h. h.1) (direct ks b k at) (direct_fits ks b k at)

  -- A block, and those inside it.
  abbrev whole : Act G.actions → (out own k at : ℕ) → List Owned
  whole b out own k at = owned R.BLOCK out ∷ direct ks b (suc k) at ++ inside ks b own (suc k) at

  whole_blocks : (b : Act G.actions) (out own k at : ℕ) → blocks_in (whole b out own k at)
      ≡ actions_in (direct ks b (suc k) at) ∷ blocks_in (inside ks b own (suc k) at)
  whole_blocks b out own k at =
      block_first (owned R.BLOCK out) (direct ks b (suc k) at) (inside ks b own (suc k) at) refl
      (direct-actions b (suc k) at) (inside_blocks b own (suc k) at)

  whole_long : (b : Act G.actions) (out own k at : ℕ) → length (blocks_in (inside ks b own (suc k) at)) ≡ opened b →
      length (blocks_in (whole b out own k at)) ≡ suc (opened b)
  whole_long b out own k at e = ap length (whole_blocks b out own k at) ∙ ap suc e

  two_long : {j : Kind} (ps : List Owned) (a : Act j) (own k at n : ℕ) → length (blocks_in ps) ≡ n →
      length (blocks_in (inside ks a own k at)) ≡ opened a → length (blocks_in (ps ++ inside ks a own k at)) ≡ n + opened a
  two_long ps a own k at n e f =
      let qs : List Owned = inside ks a own k at in
      omega (arith, ap length (blocks_append ps qs (inside_blocks a own k at)), length-append (blocks_in ps) (blocks_in qs), e, f)

  inside_long : {j : Kind} (a : Act j) (own k at : ℕ) → length (blocks_in (inside ks a own k at)) ≡ opened a
  unfolding inside opened
  inside_long (G.hold e) own k at = refl
  inside_long (G.priority e) own k at = refl
  inside_long (G.trace e) own k at = refl
  inside_long (G.set x e) own k at = refl
  inside_long (G.repeat n b) own k at = whole_long b at own k (at + to_do n) (inside_long b own (suc k) (at + to_do n))
  inside_long (G.put_r x n) own k at = refl
  inside_long (G.put_b x n) own k at = refl
  inside_long (G.put_s x n) own k at = refl
  inside_long (G.become x) own k at = refl
  inside_long (G.req c) own k at = refl
  inside_long (G.try c b bs) own k at =
      let w = whole_long b at own k (at + to_try c) (inside_long b own (suc k) (at + to_try c)) in
      two_long (whole b at own k (at + to_try c)) bs at _ _ (suc (opened b)) w (inside_long bs at _ _) ∙ omega arith
  inside_long (G.while c b) own k at = whole_long b at own k (at + to_while c) (inside_long b own (suc k) (at + to_while c))
  inside_long (G.start x n g) own k at = refl
  inside_long G.close own k at = refl
  inside_long G.no_branches own k at = refl
  inside_long (G.etry c b bs) own k at =
      let w = whole_long b own own k (at + to_try c) (inside_long b own (suc k) (at + to_try c)) in
      two_long (whole b own own k (at + to_try c)) bs own _ _ (suc (opened b)) w (inside_long bs own _ _) ∙ omega arith
  inside_long G.no_actions own k at = refl
  inside_long (G.follow a b) own k at =
      two_long (inside ks a own k at) b own _ _ (opened a) (inside_long a own k at) (inside_long b own _ _)

-- HOW DEEP: the blocks that stand directly in it are named,
abbrev named_in : (j : Kind) → Direct j → List ℕ
named_in G.action o = collect inner (action_in o.entry)
named_in G.actions os = collect inner (actions_in os)
named_in G.branches bs = map (λ x. x.block) bs

-- and the deepest of them is as deep as it nests, where the fuel is as many blocks as it opens.
module _ (m : Model) (ks : List Known) where
  abbrev deepest_of : ℕ → List ℕ → ℕ
  deepest_of d ns = largest (map (λ k. depth_in m d k) ns)

  deepest_append : (d : ℕ) (ns ps : List ℕ) → deepest_of d (ns ++ ps) ≡ max (deepest_of d ns) (deepest_of d ps)
  deepest_append d [] ps = omega arith
  deepest_append d (n ∷ ns) ps = omega (arith, deepest_append d ns ps)

  abbrev Deep : {j : Kind} → Act j → (own k at : ℕ) → Type 0
  Deep {j} a own k at =
      (d : ℕ) → Stands m k (blocks_in (inside ks a own k at)) → opened a ≤ d →
      deepest_of d (named_in j (direct ks a k at)) ≡ nesting a

  whole_deep : (b : Act G.actions) (out own k at : ℕ) → Deep b own (suc k) at → (d : ℕ) →
      Stands m k (blocks_in (whole ks b out own k at)) → suc (opened b) ≤ d → depth_in m d k ≡ suc (nesting b)
  unfolding depth_in
  whole_deep b out own k at h zero s l = absurd (omega arith)
  whole_deep b out own k at h (suc d) s l =
      let xs : List Action = actions_in (direct ks b (suc k) at) in
      let t : Stands m k (xs ∷ blocks_in (inside ks b own (suc k) at)) =
      subst (λ bs. Stands m k bs) (whole_blocks ks b out own k at) s in
      let e = rest_stands (xs ∷ []) (blocks_in (inside ks b own (suc k) at)) t in
      let n : k + 1 ≡ suc k = omega arith in
      ap (λ ys. suc (deepest_of d (collect inner ys))) (block_stands xs _ t)
      ∙ ap suc (h d (rw n at e) (omega arith))

  both_stand : {j : Kind} (ps : List Owned) (a : Act j) (own i k at : ℕ) → Stands m i (blocks_in (ps ++ inside ks a own k at)) →
      i + length (blocks_in ps) ≡ k → Stands m i (blocks_in ps) × Stands m k (blocks_in (inside ks a own k at))
  both_stand ps a own i k at s e =
      let qs : List Owned = inside ks a own k at in
      let t = subst (λ bs. Stands m i bs) (blocks_append ps qs (inside_blocks ks a own k at)) s in
      (first_stands (blocks_in ps) _ t, rw e at (rest_stands (blocks_in ps) (blocks_in qs) t))

  -- a block, and branches behind it
  branches_deep : (b : Act G.actions) (bs : Act G.branches) (out own mine k at to : ℕ) →
      Deep b own (suc k) at → Deep bs mine (suc k + opened b) to → (d : ℕ) →
      Stands m k (blocks_in (whole ks b out own k at ++ inside ks bs mine (suc k + opened b) to)) →
      suc (opened b + opened bs) ≤ d →
      max (depth_in m d k) (deepest_of d (named_in G.branches (direct ks bs (suc k + opened b) to)))
      ≡ max (suc (nesting b)) (nesting bs)
  branches_deep b bs out own mine k at to f g d s l =
      let w = whole_long ks b out own k at (inside_long ks b own (suc k) at) in
      let t = both_stand (whole ks b out own k at) bs mine k (suc k + opened b) to s (omega arith) in
      ap₂ max (whole_deep b out own k at f d t.0 (omega arith)) (g d t.1 (omega arith))

  deep : {j : Kind} (a : Act j) (own k at : ℕ) → Deep a own k at
  unfolding inside direct opened nesting
  deep (G.hold e) own k at d s l = refl
  deep (G.priority e) own k at d s l = refl
  deep (G.trace e) own k at d s l = refl
  deep (G.set x e) own k at d s l =
      if_has (λ a. deepest_of d (collect inner (a ∷ [])) ≡ 0) (eqb (W.kind_of ks x) K.VAR)
      (λ h. refl) (λ h. refl)
  deep (G.repeat n b) own k at d s l =
      ap (λ n. max n 0) (whole_deep b at own k (at + to_do n) (deep b own (suc k) (at + to_do n)) d s l) ∙ omega arith
  deep (G.put_r x n) own k at d s l = refl
  deep (G.put_b x n) own k at d s l = refl
  deep (G.put_s x n) own k at d s l = refl
  deep (G.become x) own k at d s l = refl
  deep (G.req c) own k at d s l = refl
  deep (G.try c b bs) own k at d s l =
      let to : ℕ = at + to_try c + in_braces b in
      ap (λ ns. deepest_of d ns) (append-nil (k ∷ named_in G.branches (direct ks bs (suc k + opened b) to)))
      ∙ branches_deep b bs at own at k (at + to_try c) to (deep b own _ _) (deep bs at _ _) d s l
  deep (G.while c b) own k at d s l =
      ap (λ n. max n 0) (whole_deep b at own k (at + to_while c) (deep b own (suc k) (at + to_while c)) d s l) ∙ omega arith
  deep (G.start x n g) own k at d s l = refl
  deep G.close own k at d s l = refl
  deep G.no_branches own k at d s l = refl
  deep (G.etry c b bs) own k at d s l =
      branches_deep b bs own own own k (at + to_try c) (at + to_try c + in_braces b) (deep b own _ _) (deep bs own _ _) d s l
  deep G.no_actions own k at d s l = refl
  deep (G.follow a b) own k at d s l =
      let xs : List Action = action_in (direct ks a k at).entry in
      let ys : List Action = actions_in (direct ks b (k + opened a) (at + in_tokens a)) in
      let e = inside_long ks a own k at in
      let t = both_stand (inside ks a own k at) b own k (k + opened a) (at + in_tokens a) s (omega arith) in
      ap (λ ns. deepest_of d ns) (collect-append inner xs ys) ∙ deepest_append d (collect inner xs) (collect inner ys)
      ∙ ap₂ max (deep a own k at d t.0 (omega arith)) (deep b own _ _ d t.1 (omega arith))

-- THE BLOCKS OF A TEXT, as many as it opens.
line_long : (ks : List Known) (k at : ℕ) (d : Declaration) → length (blocks_in (blocks_of ks k at d)) ≡ opened_by d
line_long ks k at (G.res x n) = refl
line_long ks k at (G.bin x n) = refl
line_long ks k at (G.sync x) = refl
line_long ks k at (G.var x n) = refl
line_long ks k at (G.sampler x a b n) = refl
line_long ks k at (G.class x G.announced) = refl
line_long ks k at (G.class x (G.body l b)) =
    let is : List Known = after ks (embodies x ∷ in_locals l) in
    whole_long is b at at k (at + to_body l) (inside_long is b at (suc k) (at + to_body l))
line_long ks k at (G.entity x n) = refl

abbrev rest_built : List Known → (k at : ℕ) → Declaration → Text → List Owned
rest_built ks k at d ds = blocks (after ks (in_declaration d)) (k + opened_by d) (at + length (declare d [])) ds

text_blocks : (ks : List Known) (k at : ℕ) (d : Declaration) (ds : Text) →
    blocks_in (blocks ks k at (d ∷ ds)) ≡ blocks_in (blocks_of ks k at d) ++ blocks_in (rest_built ks k at d ds)
unfolding blocks
text_blocks ks k at d ds =
    blocks_append (blocks_of ks k at d) (rest_built ks k at d ds) (fit_blocks (rest_built ks k at d ds)
    (blocks_fit (after ks (in_declaration d)) (k + opened_by d) (at + length (declare d [])) ds))

text_long : (ks : List Known) (k at : ℕ) (t : Text) → length (blocks_in (blocks ks k at t)) ≡ opened_in t
unfolding blocks
text_long ks k at [] = refl
text_long ks k at (d ∷ ds) =
    let e = text_long (after ks (in_declaration d)) (k + opened_by d) (at + length (declare d [])) ds in
    let f = length-append (blocks_in (blocks_of ks k at d)) (blocks_in (rest_built ks k at d ds)) in
    omega (arith, ap length (text_blocks ks k at d ds), line_long ks k at d)

-- A block is a BLOCK record.
one_block : (o : Owned) (os : List Owned) →
    length (blocks_in (o ∷ os)) ≡ once K.BLOCK (group_of o.entry) + length (blocks_in os)
one_block o os = go o.entry
  where
    go : (e : R.Entry) → length (blocks_in (owned e o.owner ∷ os)) ≡ once K.BLOCK (group_of e) + length (blocks_in os)
    go (R.RES n) = omega arith
    go (R.BIN n) = omega arith
    go R.SYNC = omega arith
    go (R.VAR v) = omega arith
    go (R.CLASS b) = omega arith
    go R.BLOCK = omega arith
    go (R.ENTITY e) = omega arith
    go (R.SAMPLER x) = omega arith
    go (R.ACTION a) = omega arith

blocks_counted : (os : List Owned) → length (blocks_in os) ≡ of_group K.BLOCK os
blocks_counted [] = refl
blocks_counted (o ∷ os) = omega (arith, one_block o os, blocks_counted os)

-- THE MODEL of a text has them.
abbrev pub model_of : Text → Model
model_of t = (gather (raws_from 0 (records t))).model

records_blocks : (t : Text) → blocks_in (records t) ≡ blocks_in (built t)
unfolding records
records_blocks t = blocks_behind (declared t) (built t) (records_declare t)

model_blocks : (t : Text) → (model_of t).blocks ≡ blocks_in (built t)
model_blocks t = blocks_made 0 (records t) (records_fit t) ∙ records_blocks t

model_long : (t : Text) → length (model_of t).blocks ≡ opened_in t
model_long t = ap length (model_blocks t) ∙ text_long [] 0 0 t

pub opened_blocks : (t : Text) → opened_in t ≡ of_group K.BLOCK (records t)
opened_blocks t = sym (text_long [] 0 0 t) ∙ ap length (sym (records_blocks t)) ∙ blocks_counted (records t)

-- A CLASS WITH ITS BODY, behind ds and before es.
pub record Body (t : Text) : Type 0 where
  pub ds : Text
  pub y : Name
  pub l : Locals
  pub b : Act G.actions
  pub es : Text
  pub is : t ≡ ds ++ (G.class y (G.body l b) ∷ es)

abbrev pub body_at : (ds : Text) (y : Name) (l : Locals) (b : Act G.actions) (es : Text) →
    Body (ds ++ (G.class y (G.body l b) ∷ es))
body_at ds y l b es = record { ds = ds; y = y; l = l; b = b; es = es; is = refl }

module _ (m : Model) (y : Name) (l : Locals) (b : Act G.actions) (es : Text) where
  body_deep : (ds : Text) (ks : List Known) (k at d : ℕ) →
      Stands m k (blocks_in (blocks ks k at (ds ++ (G.class y (G.body l b) ∷ es)))) → suc (opened b) ≤ d →
      depth_in m d (k + opened_in ds) ≡ suc (nesting b)
  body_deep [] ks k at d s h =
      let c : Declaration = G.class y (G.body l b) in
      let is : List Known = after ks (embodies y ∷ in_locals l) in
      let n : k + 0 ≡ k = omega arith in
      let e = first_stands (blocks_in (blocks_of ks k at c)) (blocks_in (rest_built ks k at c es))
      (subst (λ bs. Stands m k bs) (text_blocks ks k at c es) s) in
      rw n (whole_deep m is b at at k (at + to_body l) (deep m is b at (suc k) (at + to_body l)) d e h)
  body_deep (c ∷ ds) ks k at d s h =
      let rest : Text = ds ++ (G.class y (G.body l b) ∷ es) in
      let e = rest_stands (blocks_in (blocks_of ks k at c)) (blocks_in (rest_built ks k at c rest))
      (subst (λ bs. Stands m k bs) (text_blocks ks k at c rest) s) in
      let n : k + opened_by c + opened_in ds ≡ k + opened_in (c ∷ ds) = omega arith in
      let f : Stands m (k + opened_by c) (blocks_in (rest_built ks k at c rest)) = rw (line_long ks k at c) at e in
      rw n at (body_deep ds (after ks (in_declaration c)) (k + opened_by c) (at + length (declare c [])) d f h)

opened_append : (ds es : Text) → opened_in (ds ++ es) ≡ opened_in ds + opened_in es
opened_append [] es = omega arith
opened_append (d ∷ ds) es = omega (arith, opened_append ds es)

-- Its block is as deep in the model as its actions nest, and one more,
pub body_depth : {t : Text} (o : Body t) → depth (model_of t) (opened_in o.ds) ≡ suc (nesting o.b)
unfolding depth
body_depth {t} o =
    let m : Model = model_of t in
    let s : Stands m 0 (blocks_in (built t)) =
    record { before = []; behind = []; at = refl; is = model_blocks t ∙ sym (append-nil _) } in
    let e = ap opened_in o.is ∙ opened_append o.ds (G.class o.y (G.body o.l o.b) ∷ o.es) in
    let n : 0 + opened_in o.ds ≡ opened_in o.ds = omega arith in
    rw n at (body_deep m o.y o.l o.b o.es o.ds [] 0 0 (length m.blocks - opened_in o.ds)
    (subst (λ u. Stands m 0 (blocks_in (built u))) o.is s) (omega (arith, model_long t)))

-- and without a body it has no depth.
pub no_depth : (m : Model) → length m.blocks ≤ No.no_body → depth m No.no_body ≡ 0
unfolding depth depth_in
no_depth m h = let n : length m.blocks - No.no_body ≡ 0 = omega arith in rw n

-- CLASS RECORDS, and their blocks.
abbrev Classes : (ℕ → Type 0) → List Owned → Type 0
Classes P os = AllOf (λ o. AllOf P (class_in o.entry)) os

classes_map : (P Q : ℕ → Type 0) → ((n : ℕ) → P n → Q n) → (os : List Owned) → Classes P os → Classes Q os
classes_map P Q f os h = all_map _ _ (λ (o : Owned) g. all_map P Q f (class_in o.entry) g) os h

-- A class has no body, or one of the text, where k blocks stand before the text.
abbrev Placed : ℕ → Text → ℕ → Type 0
Placed k t n = (n ≡ No.no_body) ⊎ ((o : Body t) × (n ≡ k + opened_in o.ds))

abbrev body_behind : (d : Declaration) {t : Text} → Body t → Body (d ∷ t)
body_behind d o =
    record { ds = d ∷ o.ds; y = o.y; l = o.l; b = o.b; es = o.es; is = ap (λ t. d ∷ t) o.is }

placed_behind : (k : ℕ) (d : Declaration) (t : Text) (n : ℕ) → Placed (k + opened_by d) t n → Placed k (d ∷ t) n
placed_behind k d t n (inl e) = inl e
placed_behind k d t n (inr p) = inr (body_behind d p.0, p.1 ∙ omega arith)

placed_here : (x : Name) (k : ℕ) (d : Declaration) (t : Text) → embodied x d ≡ true → Placed k (d ∷ t) k
placed_here x k (G.res y n) t e = no_way e
placed_here x k (G.bin y n) t e = no_way e
placed_here x k (G.sync y) t e = no_way e
placed_here x k (G.var y n) t e = no_way e
placed_here x k (G.sampler y a b n) t e = no_way e
placed_here x k (G.class y G.announced) t e = no_way e
placed_here x k (G.class y (G.body l b)) t e = inr (body_at [] y l b t, omega arith)
placed_here x k (G.entity y n) t e = no_way e

block_placed : (x : Name) (k : ℕ) (t : Text) → Placed k t (body_block x k t)
unfolding body_block
block_placed x k [] = inl refl
block_placed x k (d ∷ ds) =
    if_has (Placed k (d ∷ ds)) (embodied x d) (placed_here x k d ds)
    (λ e. placed_behind k d ds _ (block_placed x (k + opened_by d) ds))

-- What holds of the blocks of the classes that are declared here.
entry_classes : (P : ℕ → Type 0) (ks : List Known) (k at : ℕ) (d : Declaration) (ds : Text) →
    ((x : Name) → P (body_block x k (d ∷ ds))) → Classes P (map (λ e. owned e at) (entry_of ks k d ds))
entry_classes P ks k at (G.res x n) ds h = (tt, tt)
entry_classes P ks k at (G.bin x n) ds h = (tt, tt)
entry_classes P ks k at (G.sync x) ds h = (tt, tt)
entry_classes P ks k at (G.var x n) ds h = (tt, tt)
entry_classes P ks k at (G.sampler x a b n) ds h = (tt, tt)
entry_classes P ks k at (G.class x b) ds h =
    if_has (λ es. Classes P (map (λ e. owned e at) es)) (any (named x) ks) (λ e. tt) (λ e. ((h x, tt), tt))
entry_classes P ks k at (G.entity x n) ds h = (tt, tt)

abbrev rest_declared : List Known → (k at : ℕ) → Declaration → Text → List Owned
rest_declared ks k at d ds = declarations (after ks (in_declaration d)) (k + opened_by d) (at + length (declare d [])) ds

declared_placed : (ks : List Known) (k at : ℕ) (t : Text) → Classes (Placed k t) (declarations ks k at t)
unfolding declarations
declared_placed ks k at [] = tt
declared_placed ks k at (d ∷ ds) =
    all_append _ (map (λ e. owned e at) (entry_of ks k d ds)) (rest_declared ks k at d ds)
    (entry_classes (Placed k (d ∷ ds)) ks k at d ds (λ x. block_placed x k (d ∷ ds)))
    (classes_map (Placed (k + opened_by d) ds) (Placed k (d ∷ ds)) (placed_behind k d ds) (rest_declared ks k at d ds)
    (declared_placed (after ks (in_declaration d)) (k + opened_by d) (at + length (declare d [])) ds))

-- No block is a class.
all_classes : (P : ℕ → Type 0) (t : Text) → Classes P (declared t) → Classes P (records t)
unfolding records
all_classes P t h =
    all_append _ (declared t) (built t) h
    (all_collect P (λ o. class_in o.entry) (built t)
    (subst (λ ns. AllOf P ns) (sym (blocks_no_class (built t) (records_block t))) tt))

-- What holds of the block of every class, and of the number of no body, holds so in the text up to the brace of a body.
module _ (P : ℕ → Type 0) (h : P No.no_body) (y : Name) (l : Locals) (b : Act G.actions) (es : Text) where
  abbrev begun : Text → Text
  begun ds = ending ds y G.no_locals G.no_actions

  abbrev whole_text : Text → Text
  whole_text ds = ds ++ (G.class y (G.body l b) ∷ es)

  block_kept : (x : Name) (k : ℕ) (ds : Text) → P (body_block x k (whole_text ds)) → P (body_block x k (begun ds))
  unfolding body_block
  block_kept x k [] = if_two (λ m n. P m → P n) (same_bytes x y) (λ p. p) (λ p. h)
  block_kept x k (d ∷ ds) =
      if_two (λ m n. P m → P n) (embodied x d) (λ p. p) (block_kept x (k + opened_by d) ds)

  abbrev Kept : ℕ → List R.Entry → List R.Entry → Type 0
  Kept at xs ys = Classes P (map (λ e. owned e at) xs) → Classes P (map (λ e. owned e at) ys)

  entry_kept : (ks : List Known) (k at : ℕ) (d : Declaration) (ds : Text) →
      Kept at (entry_of ks k d (whole_text ds)) (entry_of ks k d (begun ds))
  entry_kept ks k at (G.res x n) ds = λ c. c
  entry_kept ks k at (G.bin x n) ds = λ c. c
  entry_kept ks k at (G.sync x) ds = λ c. c
  entry_kept ks k at (G.var x n) ds = λ c. c
  entry_kept ks k at (G.sampler x a b n) ds = λ c. c
  entry_kept ks k at (G.class x b) ds =
      if_two (Kept at) (any (named x) ks) (λ c. c) (λ c. ((block_kept x k (G.class x b ∷ ds) c.0.0, tt), tt))
  entry_kept ks k at (G.entity x n) ds = λ c. c

  declared_kept : (ks : List Known) (k at : ℕ) (ds : Text) → Classes P (declarations ks k at (whole_text ds)) →
      Classes P (declarations ks k at (begun ds))
  unfolding declarations
  declared_kept ks k at [] c =
      let s = all_split _ (map (λ e. owned e at) (entry_of ks k (G.class y (G.body l b)) es)) _ c in
      all_append _ (map (λ e. owned e at) (entry_of ks k (G.class y (G.body G.no_locals G.no_actions)) [])) []
      (if_two (Kept at) (any (named y) ks) (λ c. c) (λ c. ((block_kept y k [] c.0.0, tt), tt)) s.0) tt
  declared_kept ks k at (d ∷ ds) c =
      let s = all_split _ (map (λ e. owned e at) (entry_of ks k d (whole_text ds))) _ c in
      all_append _ (map (λ e. owned e at) (entry_of ks k d (begun ds))) (rest_declared ks k at d (begun ds))
      (entry_kept ks k at d ds s.0)
      (declared_kept (after ks (in_declaration d)) (k + opened_by d) (at + length (declare d [])) ds s.1)

-- WHERE NOTHING IS WRONG with names, the class of a body has a record.
abbrev Calm : Text → Name → Type 0
Calm ds y = (trouble_in [] (events ds) ≡ none) × (trouble (known_in ds) (embodies y) ≡ none)

events-append : (ds es : Text) → events (ds ++ es) ≡ events ds ++ events es
events-append [] es = refl
events-append (d ∷ ds) es =
    ap (λ xs. in_declaration d ++ xs) (events-append ds es) ∙ sym (append_assoc (in_declaration d) (events ds) (events es))

pub calm_body : {t : Text} → trouble_in [] (events t) ≡ none → (o : Body t) → Calm o.ds o.y
calm_body {t} c o =
    let e = ap events o.is ∙ events-append o.ds (G.class o.y (G.body o.l o.b) ∷ o.es) in
    let s = calm_split [] (events o.ds) _ (subst (λ xs. trouble_in [] xs ≡ none) e c) in
    (s.0, (calm_first (known_in o.ds) (embodies o.y) _ s.1).0)

there : (P : ℕ → Type 0) (os : List Owned) (n at : ℕ) (qs : List Owned) →
    Classes P (os ++ (owned (R.CLASS n) at ∷ qs)) → P n
there P os n at qs h = (all_split _ os (owned (R.CLASS n) at ∷ qs) h).1.0.0

begun_there : (P : ℕ → Type 0) (ds : Text) (y : Name) → Calm ds y → Classes P (declared (ending ds y G.no_locals G.no_actions)) →
    P (opened_in ds)
unfolding trouble
begun_there P ds y c h = go (any (awaited y) (known_in ds)) refl (wants_nothing No.AGAIN _ c.1)
  where
    go : (w : Bool) → any (awaited y) (known_in ds) ≡ w → (if w then true else not (any (named y) (known_in ds))) ≡ true →
        P (opened_in ds)
    go true e f =
        let g = (grown_body y ds c.0 e).0 in there P g.first _ _ g.rest (subst (λ os. Classes P os) g.is h)
    go false e f =
        let g = (grown_class ds y (not-true (any (named y) (known_in ds)) f)).0 in
        there P (declared ds) _ _ [] (subst (λ os. Classes P os) g h)

-- NOT TOO DEEP.
abbrev Fine : Text → ℕ → Type 0
Fine t n = ltb F.deepest (depth (model_of t) n) ≡ false

abbrev pub Shallow : Text → Type 0
Shallow t = AllOf (λ o. too_deep (model_of t) o.entry ≡ false) (records t)

none_told : {A : Type 0} (f : A → Bool) (xs : List A) → AllOf (λ x. f x ≡ false) xs → any f xs ≡ false
none_told f [] h = refl
none_told f (x ∷ xs) h = rw h.0 (none_told f xs h.1)

shallow_classes : (t : Text) → Shallow t → Classes (Fine t) (records t)
shallow_classes t h = all_map _ _ (λ (o : Owned) e. none_hold _ (class_in o.entry) e) (records t) h

classes_shallow : (t : Text) → Classes (Fine t) (records t) → Shallow t
classes_shallow t h = all_map _ _ (λ (o : Owned) e. none_told _ (class_in o.entry) e) (records t) h

-- The first class that is too deep, or none is.
abbrev FirstDeep : Model → List Owned → Type 0
FirstDeep m os =
    (xs : List Owned) × (c : Owned) × (ys : List Owned) × (os ≡ xs ++ c ∷ ys)
    × AllOf (λ o. too_deep m o.entry ≡ false) xs × (too_deep m c.entry ≡ true)

first_deep : (m : Model) (os : List Owned) → AllOf (λ o. too_deep m o.entry ≡ false) os ⊎ FirstDeep m os
first_deep m [] = inl tt
first_deep m (o ∷ os) = go (too_deep m o.entry) refl (first_deep m os)
  where
    go : (w : Bool) → too_deep m o.entry ≡ w → AllOf (λ o. too_deep m o.entry ≡ false) os ⊎ FirstDeep m os →
        AllOf (λ o. too_deep m o.entry ≡ false) (o ∷ os) ⊎ FirstDeep m (o ∷ os)
    go true e r = inr ([], o, os, refl, tt, e)
    go false e (inl h) = inl (e, h)
    go false e (inr p) = inr (o ∷ p.0, p.1, p.2, ap (λ zs. o ∷ zs) p.3, (e, p.4), p.5)

-- Where no class is, no body nests too deep.
pub body_shallow : {t : Text} → Shallow t → (o : Body t) → Calm o.ds o.y → opened_in o.ds < No.no_body →
    suc (nesting o.b) ≤ F.deepest
unfolding records
body_shallow {t} h o c n =
    let P : ℕ → Type 0 = λ n. (n ≡ No.no_body) ⊎ Fine t n in
    let s = all_split _ (declared t) (built t) (shallow_classes t h) in
    let d : Classes P (declared t) = classes_map (Fine t) P (λ n e. inr e) (declared t) s.0 in
    go (begun_there P o.ds o.y c
    (declared_kept P (inl refl) o.y o.l o.b o.es [] 0 0 o.ds
    (subst (λ u. Classes P (declared u)) o.is d)))
  where
    go : (opened_in o.ds ≡ No.no_body) ⊎ Fine t (opened_in o.ds) → suc (nesting o.b) ≤ F.deepest
    go (inl e) = absurd (omega arith)
    go (inr e) = ltb-false F.deepest _ (rw (body_depth o) at e)

-- A LINE MORE: the bodies of a text are those before its last declaration, and that.
abbrev body_before : {t : Text} (es : Text) → Body t → Body (t ++ es)
body_before es o =
    record {
      ds = o.ds;
      y = o.y;
      l = o.l;
      b = o.b;
      es = o.es ++ es;
      is = ap (λ u. u ++ es) o.is ∙ append_assoc o.ds (G.class o.y (G.body o.l o.b) ∷ o.es) es;
    }

split_last : (ds : Text) (d : Declaration) (xs : Text) (c : Declaration) (es : Text) → ds ++ (d ∷ []) ≡ xs ++ (c ∷ es) →
    ((zs : Text) × (ds ≡ xs ++ (c ∷ zs))) ⊎ ((xs ≡ ds) × (d ≡ c))
split_last [] d [] c es e = inr (refl, cc)
split_last [] d (x ∷ xs) c es e =
    let f : [] ≡ xs ++ (c ∷ es) = cc in absurd (omega (arith, ap length f, length-append xs (c ∷ es)))
split_last (z ∷ ds) d [] c es e = let f : z ≡ c = cc in inl (ds, ap (λ a. a ∷ ds) f)
split_last (z ∷ ds) d (x ∷ xs) c es e =
    let f : ds ++ (d ∷ []) ≡ xs ++ (c ∷ es) = cc in
    let g : z ≡ x = cc in
    go g (split_last ds d xs c es f)
  where
    go : z ≡ x → ((zs : Text) × (ds ≡ xs ++ (c ∷ zs))) ⊎ ((xs ≡ ds) × (d ≡ c)) →
        ((zs : Text) × (z ∷ ds ≡ x ∷ xs ++ (c ∷ zs))) ⊎ ((x ∷ xs ≡ z ∷ ds) × (d ≡ c))
    go g (inl p) = inl (p.0, ap₂ (λ a u. a ∷ u) g p.1)
    go g (inr p) = inr (ap₂ (λ a u. a ∷ u) (sym g) p.0, p.1)

-- A class with a body.
abbrev Last : Declaration → Type 0
Last d = (y : Name) × (l : Locals) × (b : Act G.actions) × (d ≡ G.class y (G.body l b))

-- As many blocks as a file may have, so that none has the number of no body.
abbrev Roomy : Text → Type 0
Roomy t = of_group K.BLOCK (records t) ≤ F.most_blocks

pub opened_before : {t : Text} → Roomy t → (o : Body t) → opened_in o.ds < No.no_body
opened_before {t} h o =
    omega (
      arith,
      opened_blocks t,
      ap opened_in o.is,
      opened_append o.ds (G.class o.y (G.body o.l o.b) ∷ o.es),
    )

-- The classes are not too deep, or are the last: where all of those before it are in another text that isn't.
module _ (ds es : Text) (d : Declaration) (c : trouble_in [] (events (ds ++ (d ∷ []))) ≡ none) (r : Roomy (ds ++ (d ∷ [])))
    (h : Shallow (ds ++ es)) where
  abbrev new : Text
  new = ds ++ (d ∷ [])

  abbrev Told : ℕ → Type 0
  Told n = Fine new n ⊎ ((n ≡ opened_in ds) × Last d)

  before_fine : (o : Body ds) → Fine new (opened_in o.ds)
  before_fine o =
      let q : Body new = body_before (d ∷ []) o in
      let s = body_shallow h (body_before es o) (calm_body c q) (opened_before r q) in
      rw (body_depth q) (le-ltb F.deepest (suc (nesting o.b)) s)

  body_told : (o : Body new) → Told (opened_in o.ds)
  body_told o = go (split_last ds d o.ds (G.class o.y (G.body o.l o.b)) o.es o.is)
    where
      go : ((zs : Text) × (ds ≡ o.ds ++ (G.class o.y (G.body o.l o.b) ∷ zs)))
          ⊎ ((o.ds ≡ ds) × (d ≡ G.class o.y (G.body o.l o.b))) → Told (opened_in o.ds)
      go (inl q) = inl (before_fine (record { ds = o.ds; y = o.y; l = o.l; b = o.b; es = q.0; is = q.1 }))
      go (inr q) = inr (ap opened_in q.0, (o.y, o.l, o.b, q.1))

  one_told : (n : ℕ) → Placed 0 new n → Told n
  one_told n (inl e) = inl (rw (e, no_depth (model_of new) (omega (arith, model_long new, opened_blocks new))) refl)
  one_told n (inr p) = let e : opened_in p.0.ds ≡ n = omega (arith, p.1) in subst Told e (body_told p.0)

  all_told : Classes Told (records new)
  all_told =
      classes_map (Placed 0 new) Told one_told (records new) (all_classes (Placed 0 new) new (declared_placed [] 0 0 new))

  -- So all depends on the last,
  pub last_shallow : ((y : Name) (l : Locals) (b : Act G.actions) → d ≡ G.class y (G.body l b) → suc (nesting b) ≤ F.deepest) →
      Shallow new
  last_shallow f = classes_shallow new (classes_map Told (Fine new) go (records new) all_told)
    where
      go : (n : ℕ) → Told n → Fine new n
      go n (inl e) = e
      go n (inr p) =
          let q = p.1 in
          let o : Body new =
          record { ds = ds; y = q.0; l = q.1; b = q.2; es = []; is = ap (λ c. ds ++ (c ∷ [])) q.3 } in
          rw (p.0, body_depth o) (le-ltb F.deepest (suc (nesting q.2)) (f q.0 q.1 q.2 q.3))

  -- and a class that is too deep is the last.
  deep_last : (e : R.Entry) → AllOf Told (class_in e) → too_deep (model_of new) e ≡ true → e ≡ R.CLASS (opened_in ds)
  deep_last (R.RES n) t h = no_way h
  deep_last (R.BIN n) t h = no_way h
  deep_last R.SYNC t h = no_way h
  deep_last (R.VAR v) t h = no_way h
  deep_last (R.CLASS n) t h = go t.0
    where
      go : Told n → R.CLASS n ≡ R.CLASS (opened_in ds)
      go (inl e) = no_way (sym (none_told (λ k. ltb F.deepest (depth (model_of new) k)) (n ∷ []) (e, tt)) ∙ h)
      go (inr p) = ap R.CLASS p.0
  deep_last R.BLOCK t h = no_way h
  deep_last (R.ENTITY e) t h = no_way h
  deep_last (R.SAMPLER x) t h = no_way h
  deep_last (R.ACTION a) t h = no_way h

  first_last : (f : FirstDeep (model_of new) (records new)) → f.1.entry ≡ R.CLASS (opened_in ds)
  first_last f =
      deep_last f.1.entry (all_split _ f.0 (f.1 ∷ f.2) (subst (λ os. Classes Told os) f.3 all_told)).1.0 f.5

-- NESTING as it grows: what is put n braces deep and opens some is so deep.
fresh_nests : {a : Act G.action} {j : ℕ} → Fresh a j → nesting a ≡ j
unfolding nesting
fresh_nests (N.hold e) = refl
fresh_nests (N.priority e) = refl
fresh_nests (N.trace e) = refl
fresh_nests (N.set x e) = refl
fresh_nests (N.put_r x n) = refl
fresh_nests (N.put_b x n) = refl
fresh_nests (N.put_s x n) = refl
fresh_nests (N.become x) = refl
fresh_nests (N.req c) = refl
fresh_nests (N.start x n g) = refl
fresh_nests N.close = refl
fresh_nests (N.repeat n) = refl
fresh_nests (N.try c) = refl
fresh_nests (N.while c) = refl

pub put_nests : {j : Kind} {x : New} {n : ℕ} {a b : Act j} → Put j x n a b → nesting b ≡ max (nesting a) (n + N.opens x)
unfolding nesting
put_nests (in_do m p) = omega (arith, put_nests p)
put_nests (in_while c p) = omega (arith, put_nests p)
put_nests (in_try c p) = omega (arith, put_nests p)
put_nests (in_branches c d p) = omega (arith, put_nests p)
put_nests (new_branch c) = omega arith
put_nests (in_branch c p) = omega (arith, put_nests p)
put_nests (more_branches c d p) = omega (arith, put_nests p)
put_nests (new_action f) = omega (arith, fresh_nests f)
put_nests (in_last p) = omega (arith, put_nests p)
put_nests (further c p) = omega (arith, put_nests p)

same_body : (y z : Name) (l m : Locals) (a b : Act G.actions) → G.class y (G.body l a) ≡ G.class z (G.body m b) → a ≡ b
same_body y z l m a b e = cc

-- A declaration that ends its line opens a block at most, and nothing nests in that.
line_flat : {d : Declaration} {j : ℕ} → Line d j →
    (j ≤ 1) × ((y : Name) (l : Locals) (b : Act G.actions) → d ≡ G.class y (G.body l b) → nesting b ≡ 0)
unfolding nesting
line_flat (N.res x n) = (omega arith, λ y l b e. cc)
line_flat (N.bin x n) = (omega arith, λ y l b e. cc)
line_flat (N.sync x) = (omega arith, λ y l b e. cc)
line_flat (N.var x n) = (omega arith, λ y l b e. cc)
line_flat (N.sampler x u v n) = (omega arith, λ y l b e. cc)
line_flat (N.announced x) = (omega arith, λ y l b e. cc)
line_flat (N.entity x n) = (omega arith, λ y l b e. cc)
line_flat (N.class x) = (omega arith, λ y l b e. ap nesting (sym (same_body x y G.no_locals l G.no_actions b e)))

-- WHAT A LINE DOES.
within_nests : (ds : Text) (y : Name) (l : Locals) {x : New} {n : ℕ} {a b : Act G.actions} (p : Put G.actions x n a b) →
    trouble_in [] (events (ending ds y l b)) ≡ none → Roomy (ending ds y l b) → Shallow (ending ds y l a) →
    (suc (nesting a) ≤ F.deepest) × (suc (nesting b) ≡ max (suc (nesting a)) (suc n + N.opens x))
within_nests ds y l {a = a} {b = b} p c r h =
    let o : Body (ending ds y l b) = body_at ds y l b [] in
    (body_shallow h (body_at ds y l a []) (calm_body c o) (opened_before r o), omega (arith, put_nests p))

pub shallow_none : Shallow []
unfolding records
shallow_none = tt

pub shallow_on : {old new : Text} (g : Grows old new) → trouble_in [] (events new) ≡ none →
    of_group K.BLOCK (records new) ≤ F.most_blocks → Shallow old → opens_by g ≤ F.deepest → Shallow new
unfolding nesting
shallow_on (a_line ds {d} i) c r h n =
    last_shallow ds [] d c r (subst Shallow (sym (append-nil ds)) h)
    (λ y l b e. (omega (arith, (line_flat i).1 y l b e)))
shallow_on (local ds y x xs) c r h n =
    let d : Declaration = G.class y (G.body (G.locals x xs) G.no_actions) in
    last_shallow ds (G.class y (G.body G.no_locals G.no_actions) ∷ []) d c r h
    (λ z m a e. (omega (arith, ap nesting (same_body y z (G.locals x xs) m G.no_actions a e))))
shallow_on (within ds y l {a = a} {b = b} p) c r h n =
    let w = within_nests ds y l p c r h in
    last_shallow ds (G.class y (G.body l a) ∷ []) (G.class y (G.body l b)) c r h
    (λ z m f e. (omega (arith, ap nesting (same_body y z l m b f e), w.0, w.1)))

-- Or the last class is the first that is too deep.
abbrev pub DeepLast : Text → Type 0
DeepLast new =
    (ds : Text) × (y : Name) × (l : Locals) × (b : Act G.actions) × (new ≡ ending ds y l b)
    × (xs : List Owned) × (c : Owned) × (ys : List Owned) × (records new ≡ xs ++ c ∷ ys)
    × (c.entry ≡ R.CLASS (opened_in ds)) × AllOf (λ o. too_deep (model_of new) o.entry ≡ false) xs
    × (too_deep (model_of new) c.entry ≡ true)

within_deep : (ds : Text) (y : Name) (l : Locals) {x : New} {n : ℕ} {a b : Act G.actions} (p : Put G.actions x n a b) →
    trouble_in [] (events (ending ds y l b)) ≡ none → Roomy (ending ds y l b) → Shallow (ending ds y l a) →
    F.deepest < suc n + N.opens x → DeepLast (ending ds y l b)
within_deep ds y l {a = a} {b = b} p c r h n = go (first_deep (model_of (ending ds y l b)) (records (ending ds y l b)))
  where
    go : Shallow (ending ds y l b) ⊎ FirstDeep (model_of (ending ds y l b)) (records (ending ds y l b)) →
        DeepLast (ending ds y l b)
    go (inl s) =
        let o : Body (ending ds y l b) = body_at ds y l b [] in
        let w = within_nests ds y l p c r h in
        absurd (omega (arith, body_shallow s o (calm_body c o) (opened_before r o), w.1))
    go (inr q) =
        let e = first_last ds (G.class y (G.body l a) ∷ []) (G.class y (G.body l b)) c r h q in
        (ds, y, l, b, refl, q.0, q.1, q.2, q.3, e, q.4, q.5)

pub deep_on : {old new : Text} (g : Grows old new) → trouble_in [] (events new) ≡ none →
    of_group K.BLOCK (records new) ≤ F.most_blocks → Shallow old → F.deepest < opens_by g → DeepLast new
deep_on (a_line ds i) c r h n = absurd (omega (arith, (line_flat i).0))
deep_on (local ds y x xs) c r h n = absurd (omega arith)
deep_on (within ds y l p) c r h n = within_deep ds y l p c r h n
