-- What passes at a cut passes at the cut before it: a text without its last line has fewer records, or smaller ones.
-- Assumes nothing.
use Rattle.std.specs.Prelude.{ℕ, suc, ◌+◌, ◌≤◌, ◌<◌, ◌≡◌, refl, List, [], ◌∷◌, ◌++◌, Bool, true, false, not, eqb, ltb, length, if◌then◌else◌}
use native.Mathlib.Omega.{arith}
use Rattle.std.proofs.Common.{sym, ap, ◌∙◌, subst, append-nil, append_assoc, ltb-true, ltb-false, length-append}
use Rattle.std.proofs.Math.Option.{none}
use Rattle.std.proofs.Math.Seq.{take-append_seam}
use Rattle.semantics.specs.Words.{any, collect, passed, ◌>>◌, need}
use Rattle.semantics.specs.Numbers as F
use Rattle.semantics.specs.Kinds as K
use Rattle.semantics.specs.Model as M
use Rattle.semantics.specs.Model.{Branch}
use Rattle.semantics.specs.Record as R
use Rattle.semantics.specs.Record.{row_of, body_judged}
use Rattle.semantics.specs.Decode as D
use Rattle.semantics.specs.Decode.{none_seen}
use Rattle.promises.specs.Laws.{no_way, not-true, if_has, AllOf, all_map, all_append, all_split, once}
use Rattle.promises.specs.Passes.{not_accepted}
use Rattle.promises.specs.Counted.{group_of}
use Rattle.text_semantics.specs.Numbers as No
use Rattle.text_semantics.specs.Grammar as G
use Rattle.text_semantics.specs.Grammar.{Name, Kind, Act, Locals, Declaration, Text, declare}
use Rattle.text_semantics.specs.Names.{Known, named, awaited, after, embodies, in_locals, in_declaration, events, trouble}
use Rattle.text_semantics.specs.Names.{trouble_in}
use Rattle.text_semantics.specs.Meaning as W
use Rattle.text_semantics.specs.Meaning.{Owned, owned, opened, Direct, direct, inside, to_do, to_while, to_try, in_tokens}
use Rattle.text_semantics.specs.Meaning.{opened_by, to_body, blocks_of, blocks, records}
use Rattle.text_semantics.specs.Written.{branch_bytes, action_body, kind_of, body_of, bytes_of, file_of}
use Rattle.text_semantics.specs.Answer.{so_far}
use Rattle.text_promises.specs.Cuts.{bytes_long, so_far_long}
use Rattle.text_promises.specs.Judged.{good, its_group, of_group, Passing, passing_less, so_far_passing, declares}
use Rattle.text_promises.specs.Says.{Fits, third_passes}
use Rattle.text_promises.specs.Fitting.{Declared, declarations_fit, records_fit, records_placed}
use Rattle.text_promises.specs.Truncated.{try_first}
use Rattle.text_agrees.specs.Growing as N
use Rattle.text_agrees.specs.Growing.{Put, Line, ending, Grows, declared as a_line, local, within, Snoc, none_there, one_last}
use Rattle.text_agrees.specs.Growing.{snoc}
use Rattle.text_agrees.specs.Lines.{wants_nothing}
use Rattle.text_agrees.specs.Laying.{collect-append}
use Rattle.text_agrees.specs.Grown.{Patch, adds, extends, tried, opened_in, declared, built, known_in, grown_local}
use Rattle.text_agrees.specs.Grown.{grown_within, grown_line, grown_class, grown_body}
use Rattle.text_answers.specs.Grading.{accepted-old}
use Rattle.text_answers.specs.Nesting.{nesting, model_of, Body, body_at, Shallow, shallow_none, calm_body, body_shallow}
use Rattle.text_answers.specs.Nesting.{opened_before, last_shallow, put_nests}

-- ONE RECORD BELOW ANOTHER: of the same group, no longer, and good where that is.
abbrev Below : Owned → Owned → Type 0
Below p o =
    (group_of p.entry ≡ group_of o.entry) × (length (bytes_of p.entry) ≤ length (bytes_of o.entry))
    × (Fits o.entry → good o.entry ≡ true → good p.entry ≡ true)

-- .. and all of ps below some of os, in their order.
data Under : List Owned → List Owned → Type 0 where
  ends : Under [] []
  lower : {p o : Owned} {ps os : List Owned} → Below p o → Under ps os → Under (p ∷ ps) (o ∷ os)
  left : {o : Owned} {ps os : List Owned} → Under ps os → Under ps (o ∷ os)

under_same : (os : List Owned) → Under os os
under_same [] = ends
under_same (o ∷ os) = lower {p = o} {o = o} (refl, omega arith, λ f g. g) (under_same os)

under_none : (os : List Owned) → Under [] os
under_none [] = ends
under_none (o ∷ os) = left (under_none os)

under_append : {ps os qs rs : List Owned} → Under ps os → Under qs rs → Under (ps ++ qs) (os ++ rs)
under_append ends v = v
under_append (lower b u) v = lower b (under_append u v)
under_append (left u) v = left (under_append u v)

under_more : (os qs : List Owned) → Under os (os ++ qs)
under_more os qs = subst (λ zs. Under zs (os ++ qs)) (append-nil os) (under_append (under_same os) (under_none qs))

-- So they are as good, as few and as short.
abbrev Good : Owned → Type 0
Good o = good o.entry ≡ true

under_good : {ps os : List Owned} → Under ps os → AllOf (λ o. Fits o.entry) os → AllOf Good os → AllOf Good ps
under_good ends f g = tt
under_good (lower b u) f g = (b.2 f.0 g.0, under_good u f.1 g.1)
under_good (left u) f g = under_good u f.1 g.1

under_few : (g : ℕ) {ps os : List Owned} → Under ps os → of_group g ps ≤ of_group g os
under_few g ends = omega arith
under_few g (lower b u) = let e = ap (once g) b.0 in let ih = under_few g u in omega arith
under_few g (left u) = let ih = under_few g u in omega arith

under_short : {ps os : List Owned} → Under ps os → length (file_of ps) ≤ length (file_of os)
under_short ends = omega arith
under_short (lower {p = p} {o = o} {ps = ps} {os = os} b u) =
    omega (
      arith,
      b.1,
      under_short u,
      length-append (bytes_of p.entry) (file_of ps),
      length-append (bytes_of o.entry) (file_of os),
    )
under_short (left {o = o} {os = os} u) = omega (arith, under_short u, length-append (bytes_of o.entry) (file_of os))

under_passing : (old new : Text) → Under (records old) (records new) → Passing none_seen (records new) →
    Passing none_seen (records old)
under_passing old new u h =
    passing_less none_seen (records new) (records old) h (under_good u (records_fit new) h.all_good) (records_placed old)
    (λ g. under_few g u)

-- EVERY TRY HAS A BRANCH, so its record is longer than the number of its branches.
abbrev Branched : Owned → Type 0
Branched o = kind_of o.entry ≡ K.TRY → 2 < length (body_of o.entry)

abbrev BranchedIn : (j : Kind) → Direct j → Type 0
BranchedIn G.action o = Branched o
BranchedIn G.actions os = AllOf Branched os
BranchedIn G.branches bs = Unit {0}

module _ (ks : List Known) where
  direct_branched : {j : Kind} (a : Act j) (k at : ℕ) → BranchedIn j (direct ks a k at)
  unfolding direct body_of
  direct_branched (G.hold e) k at = λ h. absurd (omega arith)
  direct_branched (G.priority e) k at = λ h. absurd (omega arith)
  direct_branched (G.trace e) k at = λ h. absurd (omega arith)
  direct_branched (G.set x e) k at =
      if_has (λ a. Branched (owned (R.ACTION a) at)) (eqb (W.kind_of ks x) K.VAR) (λ f h. absurd (omega arith))
      (λ f h. absurd (omega arith))
  direct_branched (G.repeat n b) k at = λ h. absurd (omega arith)
  direct_branched (G.put_r x n) k at = λ h. absurd (omega arith)
  direct_branched (G.put_b x n) k at = λ h. absurd (omega arith)
  direct_branched (G.put_s x n) k at = λ h. absurd (omega arith)
  direct_branched (G.become x) k at = λ h. absurd (omega arith)
  direct_branched (G.req c) k at = λ h. absurd (omega arith)
  direct_branched (G.try c b bs) k at = λ h. omega arith
  direct_branched (G.while c b) k at = λ h. absurd (omega arith)
  direct_branched (G.start x n g) k at = λ h. absurd (omega arith)
  direct_branched G.close k at = λ h. absurd (omega arith)
  direct_branched G.no_branches k at = tt
  direct_branched (G.etry c b bs) k at = tt
  direct_branched G.no_actions k at = tt
  direct_branched (G.follow a b) k at = (direct_branched a k at, direct_branched b (k + opened a) (at + in_tokens a))

  -- a block, and those inside it
  whole_branched : (b : Act G.actions) (out k at : ℕ) (os : List Owned) → AllOf Branched os →
      AllOf Branched (owned R.BLOCK out ∷ direct ks b k at ++ os)
  whole_branched b out k at os h =
      (λ e. absurd (omega arith), all_append Branched (direct ks b k at) os (direct_branched b k at) h)

  inside_branched : {j : Kind} (a : Act j) (own k at : ℕ) → AllOf Branched (inside ks a own k at)
  unfolding inside
  inside_branched (G.hold e) own k at = tt
  inside_branched (G.priority e) own k at = tt
  inside_branched (G.trace e) own k at = tt
  inside_branched (G.set x e) own k at = tt
  inside_branched (G.put_r x n) own k at = tt
  inside_branched (G.put_b x n) own k at = tt
  inside_branched (G.put_s x n) own k at = tt
  inside_branched (G.become x) own k at = tt
  inside_branched (G.req c) own k at = tt
  inside_branched (G.start x n g) own k at = tt
  inside_branched G.close own k at = tt
  inside_branched G.no_branches own k at = tt
  inside_branched G.no_actions own k at = tt
  inside_branched (G.repeat n b) own k at = whole_branched b at (suc k) _ _ (inside_branched b own (suc k) (at + to_do n))
  inside_branched (G.while c b) own k at = whole_branched b at (suc k) _ _ (inside_branched b own (suc k) (at + to_while c))
  inside_branched (G.try c b bs) own k at =
      all_append Branched
      (owned R.BLOCK at ∷ direct ks b (suc k) (at + to_try c) ++ inside ks b own (suc k) (at + to_try c)) _
      (whole_branched b at (suc k) (at + to_try c) _ (inside_branched b own (suc k) (at + to_try c)))
      (inside_branched bs at _ _)
  inside_branched (G.etry c b bs) own k at =
      all_append Branched
      (owned R.BLOCK own ∷ direct ks b (suc k) (at + to_try c) ++ inside ks b own (suc k) (at + to_try c)) _
      (whole_branched b own (suc k) (at + to_try c) _ (inside_branched b own (suc k) (at + to_try c)))
      (inside_branched bs own _ _)
  inside_branched (G.follow a b) own k at =
      all_append Branched (inside ks a own k at) _ (inside_branched a own k at) (inside_branched b own _ _)

class_branched : (ks : List Known) (k at : ℕ) (d : Declaration) → AllOf Branched (blocks_of ks k at d)
class_branched ks k at (G.res x n) = tt
class_branched ks k at (G.bin x n) = tt
class_branched ks k at (G.sync x) = tt
class_branched ks k at (G.var x n) = tt
class_branched ks k at (G.sampler x a b n) = tt
class_branched ks k at (G.class x G.announced) = tt
class_branched ks k at (G.class x (G.body l b)) =
    let is : List Known = after ks (embodies x ∷ in_locals l) in
    whole_branched is b at (suc k) (at + to_body l) _ (inside_branched is b at (suc k) (at + to_body l))
class_branched ks k at (G.entity x n) = tt

blocks_branched : (ks : List Known) (k at : ℕ) (t : Text) → AllOf Branched (blocks ks k at t)
unfolding blocks
blocks_branched ks k at [] = tt
blocks_branched ks k at (d ∷ ds) =
    all_append Branched (blocks_of ks k at d) _ (class_branched ks k at d)
    (blocks_branched (after ks (in_declaration d)) (k + opened_by d) (at + length (declare d [])) ds)

-- what is declared is no action
not_tried : (o : Owned) → Declared o → Branched o
unfolding row_of
not_tried o d h =
    let g : group_of o.entry ≡ K.ACTION = sym (its_group o.entry).0 ∙ ap (λ k. (row_of k).group) h in
    let f : declares o.entry ≡ false = rw g in
    no_way (sym f ∙ d.1)

records_branched : (t : Text) → AllOf Branched (records t)
unfolding records
records_branched t =
    all_append Branched (declared t) (built t)
    (all_map Declared Branched not_tried (declared t) (declarations_fit [] 0 0 t)) (blocks_branched [] 0 0 t)

-- A BRANCH LESS: what is good with one more is good without it.
try_below : (bs : List Branch) (b : Branch) (o : ℕ) → 1 ≤ length bs → Below (tried bs o) (tried (bs ++ (b ∷ [])) o)
unfolding body_of action_body
try_below bs b o l = (
  refl,
  omega (
    arith,
    bytes_long (R.ACTION (M.TRY bs)),
    bytes_long (R.ACTION (M.TRY (bs ++ (b ∷ [])))),
    ap length (collect-append branch_bytes bs (b ∷ [])),
    length-append (collect branch_bytes bs) (collect branch_bytes (b ∷ [])),
  ),
  λ f g. rw (take-append_seam bs (b ∷ [])) at (try_first (length bs) (bs ++ (b ∷ [])) l f g),
)

some_branch : (bs : List Branch) (o : ℕ) → Branched (tried bs o) → 1 ≤ length bs
unfolding body_of action_body
some_branch [] o h = let l = h refl in absurd (omega arith)
some_branch (b ∷ bs) o h = omega arith

patch_under : {ks : List Known} {x : N.New} {k at : ℕ} {ps qs more : List Owned} → Patch ks x k at ps qs more →
    AllOf Branched ps → Under ps qs
patch_under (adds f) h = under_none _
patch_under (extends c bs o) h = lower (try_below bs _ o (some_branch bs o h.0)) ends

-- A LINE LESS. It was something in the body of the last class,
within_under : (ds : Text) (y : Name) (l : Locals) {x : N.New} {n : ℕ} {a b : Act G.actions} → Put G.actions x n a b →
    Under (records (ending ds y l a)) (records (ending ds y l b))
within_under ds y l {a = a} p =
    let g = grown_within ds y l p in
    let h = all_split Branched g.first (g.ps ++ g.rest) (rw g.was at (records_branched (ending ds y l a))) in
    let i = all_split Branched g.ps g.rest h.1 in
    rw (g.was, g.is)
    (under_append (under_same g.first) (under_append (patch_under g.law i.0) (under_more g.rest g.more)))

-- a declaration that ends with `;`,
line_under : (ds : Text) {d : Declaration} → Line d 0 → Under (records ds) (records (ds ++ (d ∷ [])))
unfolding records
line_under ds i =
    let g = grown_line ds i in
    rw (g.0, g.1) (under_append (under_more (declared ds) _) (under_same (built ds)))

-- or the brace of a class: one that is new, or one that was announced, whose record was as long and as good.
class_good : (n : ℕ) → good (R.CLASS n) ≡ true
unfolding body_judged row_of body_of ◌>>◌ need
class_good n = refl

class_below : (m n o : ℕ) → Below (owned (R.CLASS m) o) (owned (R.CLASS n) o)
unfolding bytes_of
class_below m n o = (refl, omega arith, λ f g. class_good m)

brace_under : (ds : Text) (y : Name) → trouble_in [] (events (ending ds y G.no_locals G.no_actions)) ≡ none →
    Under (records ds) (records (ending ds y G.no_locals G.no_actions))
unfolding records trouble
brace_under ds y c = go (any (awaited y) (known_in ds)) refl (wants_nothing No.AGAIN _ calm.1)
  where
    its : Text
    its = ending ds y G.no_locals G.no_actions

    calm : (trouble_in [] (events ds) ≡ none) × (trouble (known_in ds) (embodies y) ≡ none)
    calm = calm_body c (body_at ds y G.no_locals G.no_actions [])

    go : (w : Bool) → any (awaited y) (known_in ds) ≡ w → (if w then true else not (any (named y) (known_in ds))) ≡ true →
        Under (records ds) (records its)
    go true e f =
        let g = grown_body y ds calm.0 e in
        let i = g.0 in
        let b = class_below No.no_body (opened_in ds) i.owner in
        rw (g.1, i.was, i.is)
        (under_append (under_append (under_same i.first) (lower b (under_same i.rest))) (under_more (built ds) _))
    go false e f =
        let g = grown_class ds y (not-true (any (named y) (known_in ds)) f) in
        rw (g.0, g.1) (under_append (under_more (declared ds) _) (under_more (built ds) _))

declared_under : (ds : Text) {d : Declaration} {j : ℕ} → Line d j → trouble_in [] (events (ds ++ (d ∷ []))) ≡ none →
    Under (records ds) (records (ds ++ (d ∷ [])))
declared_under ds (N.res x n) c = line_under ds (N.res x n)
declared_under ds (N.bin x n) c = line_under ds (N.bin x n)
declared_under ds (N.sync x) c = line_under ds (N.sync x)
declared_under ds (N.var x n) c = line_under ds (N.var x n)
declared_under ds (N.sampler x a b n) c = line_under ds (N.sampler x a b n)
declared_under ds (N.announced x) c = line_under ds (N.announced x)
declared_under ds (N.entity x n) c = line_under ds (N.entity x n)
declared_under ds (N.class x) c = brace_under ds x c

grows_under : {old new : Text} → Grows old new → trouble_in [] (events new) ≡ none → Under (records old) (records new)
grows_under (a_line ds i) c = declared_under ds i c
grows_under (local ds y x xs) c = rw (grown_local ds y x xs) (under_same _)
grows_under (within ds y l p) c = within_under ds y l p

-- NOT DEEPER. Where no body of a text nests too deep,
abbrev Few : Text → Type 0
Few t = of_group K.BLOCK (records t) ≤ F.most_blocks

-- none does without its last declaration,
first_shallow : {u : Text} (d : Declaration) → Snoc u → trouble_in [] (events u) ≡ none → Few u →
    trouble_in [] (events (u ++ (d ∷ []))) ≡ none → Few (u ++ (d ∷ [])) → Shallow (u ++ (d ∷ [])) → Shallow u
first_shallow d none_there co ro cn rn h = shallow_none
first_shallow d (one_last ds c) co ro cn rn h =
    last_shallow ds (c ∷ d ∷ []) c co ro (rw (append_assoc ds (c ∷ []) (d ∷ [])) at h) (λ y l b e.
    let o : Body ((ds ++ (c ∷ [])) ++ (d ∷ [])) =
    record {
      ds = ds;
      y = y;
      l = l;
      b = b;
      es = d ∷ [];
      is = append_assoc ds (c ∷ []) (d ∷ []) ∙ ap (λ z. ds ++ (z ∷ d ∷ [])) e;
    } in
    body_shallow h o (calm_body cn o) (opened_before rn o))

-- nor where the body of its last class nests no deeper.
less_shallow : (ds : Text) (y : Name) (l m : Locals) (a b : Act G.actions) → nesting a ≤ nesting b →
    trouble_in [] (events (ending ds y l a)) ≡ none → Few (ending ds y l a) →
    trouble_in [] (events (ending ds y m b)) ≡ none → Few (ending ds y m b) → Shallow (ending ds y m b) →
    Shallow (ending ds y l a)
less_shallow ds y l m a b n co ro cn rn h =
    last_shallow ds (G.class y (G.body m b) ∷ []) (G.class y (G.body l a)) co ro h (λ z k f e.
    let g : a ≡ f = cc in
    let o : Body (ending ds y m b) = body_at ds y m b [] in
    omega (arith, body_shallow h o (calm_body cn o) (opened_before rn o), ap nesting g))

shrinks : {old new : Text} → Grows old new → trouble_in [] (events old) ≡ none → Few old → trouble_in [] (events new) ≡ none →
    Few new → Shallow new → Shallow old
shrinks (a_line ds {d} i) co ro cn rn h = first_shallow d (snoc ds) co ro cn rn h
shrinks (local ds y x xs) co ro cn rn h =
    less_shallow ds y G.no_locals (G.locals x xs) G.no_actions G.no_actions (omega arith) co ro cn rn h
shrinks (within ds y l {a = a} {b = b} p) co ro cn rn h =
    less_shallow ds y l l a b (omega (arith, put_nests p)) co ro cn rn h

-- WHAT PASSES passes without its last line.
few_blocks : (t : Text) → Passing none_seen (records t) → Few t
few_blocks t h = omega (arith, h.roomy K.BLOCK)

accepted_short : (os : List Owned) → so_far (file_of os) ≡ D.accepted passed → length (file_of os) ≤ F.longest_file
accepted_short os e = go (ltb F.longest_file (length (file_of os))) refl
  where
    go : (b : Bool) → ltb F.longest_file (length (file_of os)) ≡ b → length (file_of os) ≤ F.longest_file
    go true l = not_accepted (sym (so_far_long os (ltb-true F.longest_file (length (file_of os)) l)) ∙ e)
    go false l = ltb-false F.longest_file (length (file_of os)) l

pub less_passes : {old new : Text} → Grows old new → trouble_in [] (events old) ≡ none → trouble_in [] (events new) ≡ none →
    so_far (file_of (records new)) ≡ D.accepted passed → so_far (file_of (records old)) ≡ D.accepted passed
less_passes {old} {new} g co cn e =
    let a = accepted-old (records new) e in
    let u = grows_under g cn in
    let p = under_passing old new u a.0 in
    so_far_passing (records old) (omega (arith, under_short u, accepted_short (records new) e)) p
    ∙ third_passes (model_of old) 0 (records old) (shrinks g co (few_blocks old p) cn (few_blocks new a.0) a.1)
