-- The machine lays the records of a body out as the definitions do: the actions that come to each block, and the counts.
-- Assumes nothing.
use Prim.Native.Nat.{ℕ, suc, ◌+◌, ◌*◌, ◌/◌, ◌%◌, ◌-◌, ◌≤◌, ◌<◌, min}
use native.Mathlib.Omega.{arith}
use Rattle.std.specs.Prelude.{◌≡◌, false, get_or, set}
use Rattle.std.proofs.Math.Path.{refl, sym, ap, ap₂, subst}
use Rattle.std.proofs.Common.{◌∙◌, le-ltb}
use mathlib.Core.List.{List, [], ◌∷◌, ◌++◌, append-nil, append_assoc}
use Rattle.std.proofs.Math.Option.{Option, none, some}
use Rattle.std.proofs.Math.ListN.{length, length-append}
use Rattle.semantics.specs.Words.{collect}
use Rattle.semantics.specs.Kinds as K
use Rattle.semantics.specs.Model as M
use Rattle.semantics.specs.Model.{Action, Branch}
use Rattle.semantics.specs.Record as R
use Rattle.promises.specs.Laws.{AllOf, all_map, all_split, only}
use Rattle.text_semantics.specs.Grammar as G
use Rattle.text_semantics.specs.Grammar.{Kind, Act}
use Rattle.text_semantics.specs.Names.{Known}
use Rattle.text_semantics.specs.Meaning.{Owned, owned, opened, direct, inside, to_do, to_while, to_try, in_tokens, in_braces, branch}
use Rattle.text_semantics.specs.Meaning.{claim_of, means, store_in, number_of, shares_of}
use Rattle.text_semantics.specs.Written.{two, claim_bytes, branch_bytes, action_body, body_of, bytes_of}
use Rattle.text_machine.specs.Entry.{Draft, KEPT, FULL, begin, put, branching}
use Rattle.text_machine.specs.Sheet.{Sheet, Level, Kept, Piece, headed, innermost, kept_in, resumed, blocks_of, standing}
use Rattle.text_machine.specs.Sheet.{settled, closed, acts, tries, braces, long}
use Rattle.text_promises.specs.Cuts.{bytes_long}
use Rattle.text_agrees.specs.Actions.{past_act, wrote, goes_on, sheeted}
use Rattle.text_agrees.specs.Claims.{past_claim}
use Rattle.text_agrees.specs.Spans.{do_span, while_span, try_span, tokens_span, braces_span}
use Rattle.text_agrees.specs.Notes.{Note, note, notes, pieces, weight, inner, In, notes_in, inner_in, bytes_in}
use Rattle.text_agrees.specs.Notes.{standing-append, bytes_append, bytes_swap, weight-append, lasts, lasts-append}
use Rattle.text_agrees.specs.Notes.{lasts_swap}
use Rattle.text_agrees.specs.Accounts.{Counting, Grew, Lays, level, waiting, still_counting, grew_blocks, grew_join}
use Rattle.text_agrees.specs.Accounts.{grew_same, grew_from, grew_as, grew_total, acts_grew, tries_grew, retries_grew}
use Rattle.text_agrees.specs.Accounts.{settled-account, closed-account, lays_join, lays_then, settled_levels}
use Rattle.text_agrees.specs.Accounts.{settled_lays}
use Rattle.text_agrees.specs.Accounts.{closed_levels, closed_lays, tries_levels, tries_lays, acts_levels, acts_lays}
use Rattle.text_agrees.specs.Accounts.{braces_grew, braces_levels, braces_lays, grew_nothing, last_of, lays_nothing}

-- DRAFTS. A body that is kept; and a TRY that is kept but for its last branch, which may be longer.
abbrev pub Short : Owned → Type 0
Short o = length (body_of o.entry) ≤ KEPT

abbrev pub Continued : List Branch → Type 0
Continued zs = (bs : List Branch) (b : Branch) (cs : List Branch) → zs ≡ bs ++ (b ∷ cs) → length (action_body (M.TRY bs)) ≤ KEPT

abbrev pub Fair : Owned → Type 0
Fair o = (zs : List Branch) → o.entry ≡ R.ACTION (M.TRY zs) → Continued zs

put_short : (d : Draft) (bs : List ℕ) → d.over ≡ false → d.size + length bs ≤ KEPT
    → (put d bs).body ≡ d.body ++ bs
unfolding put
put_short d bs e h = rw (e, le-ltb KEPT (d.size + length bs) h)

pub wrote_short : (p : ℕ) (a : Action) → length (action_body a) ≤ KEPT
    → (wrote p a).body ≡ action_body a
wrote_short p a h = put_short (begin p (M.kind_of a) 0) (action_body a) refl (omega arith)

pub wrote_size : (p : ℕ) (a : Action) → (wrote p a).size ≡ min FULL (length (action_body a))
unfolding put
wrote_size p a = omega arith

action_bytes : (a : Action) → headed (M.kind_of a) (action_body a) ≡ bytes_of (R.ACTION a)
unfolding bytes_of
action_bytes a = refl

pub action_size : (a : Action) → length (body_of (R.ACTION a)) ≡ length (action_body a)
unfolding body_of
action_size a = refl

pub wrote_kind : (p : ℕ) (a : Action) → ((wrote p a).kind ≡ M.kind_of a) × ((wrote p a).line ≡ p)
unfolding put
wrote_kind p a = (refl, refl)

-- A TRY with a branch more.
pub collect-append : {A : Type 0} (f : A → List ℕ) (xs ys : List A) → collect f (xs ++ ys) ≡ collect f xs ++ collect f ys
collect-append f [] ys = refl
collect-append f (x ∷ xs) ys =
    ap (λ bs. f x ++ bs) (collect-append f xs ys) ∙ sym (append_assoc (f x) (collect f xs) (collect f ys))

branches_long : (bs : List Branch) → 4 * length bs ≤ length (collect branch_bytes bs)
branches_long [] = omega arith
branches_long (b ∷ bs) =
    let ih = branches_long bs in let l = length-append (branch_bytes b) (collect branch_bytes bs) in omega arith

pub try_long : (bs : List Branch) → length (action_body (M.TRY bs)) ≡ 2 + length (collect branch_bytes bs)
unfolding action_body
try_long bs = omega arith

pub short_fair : (o : Owned) → Short o → Fair o
unfolding body_of
short_fair o h zs e bs b cs f =
    let x = try_long bs in
    let y = try_long (bs ++ (b ∷ cs)) in
    let z = ap length (collect-append branch_bytes bs (b ∷ cs)) in
    let w = length-append (collect branch_bytes bs) (collect branch_bytes (b ∷ cs)) in
    let v = ap (λ i. length (body_of i)) (e ∙ ap (λ ys. R.ACTION (M.TRY ys)) f) in
    omega arith

pub shorts_fair : (os : List Owned) → AllOf Short os → AllOf Fair os
shorts_fair os h = all_map Short Fair short_fair os h

module _ (bs : List Branch) (b : Branch) where
  abbrev more : List Branch
  more = bs ++ (b ∷ [])

  pub more_long : length (action_body (M.TRY more)) ≡ length (action_body (M.TRY bs)) + length (branch_bytes b)
  more_long =
      let x = try_long bs in
      let y = try_long more in
      let z = ap length (collect-append branch_bytes bs (b ∷ [])) in
      let w = length-append (collect branch_bytes bs) (branch_bytes b ++ []) in
      let v = length-append (branch_bytes b) [] in
      omega arith

  more_body : length (action_body (M.TRY more)) ≤ KEPT
      → set (action_body (M.TRY bs)) 0 (suc (get_or (action_body (M.TRY bs)) 0 0)) ++ branch_bytes b ≡ action_body (M.TRY more)
  unfolding action_body
  more_body h =
      let l = branches_long bs in
      let x = try_long bs in
      let y = more_long in
      let n = length-append bs (b ∷ []) in
      let e : suc (length bs % 256) ≡ length more % 256 = omega arith in
      let f : length bs / 256 ≡ length more / 256 = omega arith in
      ap₂ (λ u v. u ∷ v ∷ (collect branch_bytes bs ++ branch_bytes b)) e f
      ∙ ap (λ cs. length more % 256 ∷ length more / 256 ∷ cs)
      (ap (λ cs. collect branch_bytes bs ++ cs) (sym (append-nil (branch_bytes b))) ∙ sym (collect-append branch_bytes bs (b ∷ [])))

  module _ (s : Sheet) (x : Kept) (e : kept_in s.levels ≡ some x) (f : x.body ≡ action_body (M.TRY bs)) where
    abbrev came : List ℕ
    came = two (blocks_of s) ++ claim_bytes b.claim

    on_kept : goes_on s b.claim ≡ put (branching (resumed (some x))) came
    on_kept = ap (λ o. put (branching (resumed o)) came) e

    pub more_size : (goes_on s b.claim).size ≡ min FULL (length (action_body (M.TRY bs)) + length (branch_bytes b))
    unfolding put
    more_size = ap (λ u. u.size) on_kept ∙ ap (λ cs. min FULL (length cs + length came)) f

    pub more_draft : blocks_of s ≡ b.block → length (action_body (M.TRY more)) ≤ KEPT
        → (goes_on s b.claim).body ≡ action_body (M.TRY more)
    more_draft g h =
        let y = more_long in
        let w = ap length f in
        ap (λ u. u.body) on_kept ∙ put_short (branching (resumed (some x))) came refl (omega arith)
        ∙ ap (λ cs. set cs 0 (suc (get_or cs 0 0)) ++ came) f
        ∙ ap (λ k. set (action_body (M.TRY bs)) 0 (suc (get_or (action_body (M.TRY bs)) 0 0)) ++ (two k ++ claim_bytes b.claim)) g
        ∙ more_body h

-- WHERE a body or its branches are read from: the open block b, what is kept in it, the next block k.
pub record From (s : Sheet) (b : ℕ) (o : Option Kept) (ls : List Level) (k : ℕ) : Type 0 where
  pub counting : Counting s
  pub levels : s.levels ≡ level b o ∷ ls
  pub blocks : blocks_of s ≡ k
  pub below : b < k

-- WHAT IS LAID, from s to t, in n blocks more: by actions of block b, where a TRY may be kept in the end; by actions of which
-- the last is no TRY; by a block that is still open; by whole blocks; and by branches of the TRY that is kept. It is counted in
-- any case, and stands there if P: if all of it is kept.
pub record Laid (place : ℕ → ℕ) (P : Type 0) (s : Sheet) (b : ℕ) (o : Option Kept) (ls : List Level) (t : Sheet) (n : ℕ)
    (ns : List Note) : Type 0 where
  pub now : Option Kept
  pub levels : t.levels ≡ level b now ∷ ls
  pub grew : Grew place s t n (weight ns + 4 * n) ns
  pub lays : P → Lays s (waiting b o) t (waiting b now) ns

pub record Done (place : ℕ → ℕ) (P : Type 0) (s : Sheet) (b : ℕ) (o : Option Kept) (ls : List Level) (t : Sheet) (n : ℕ)
    (ns : List Note) : Type 0 where
  pub levels : t.levels ≡ level b none ∷ ls
  pub grew : Grew place s t n (weight ns + 4 * n) ns
  pub lays : P → Lays s (waiting b o) t [] ns

pub record Begun (place : ℕ → ℕ) (P : Type 0) (s : Sheet) (k : ℕ) (t : Sheet) (n : ℕ) (ns : List Note) : Type 0 where
  pub now : Option Kept
  pub levels : t.levels ≡ level k now ∷ s.levels
  pub grew : Grew place s t n (weight ns + 4 * n) ns
  pub lays : P → Lays s [] t (waiting k now) ns

pub record Nested (place : ℕ → ℕ) (P : Type 0) (s t : Sheet) (n : ℕ) (ns : List Note) : Type 0 where
  pub levels : t.levels ≡ s.levels
  pub grew : Grew place s t n (weight ns + 4 * n) ns
  pub lays : P → Lays s [] t [] ns

pub record Branched (place : ℕ → ℕ) (P : Type 0) (s : Sheet) (b : ℕ) (ls : List Level) (t : Sheet) (n : ℕ) (ns : List Note)
    (xs ys : List Branch) : Type 0 where
  pub now : Kept
  pub body : length (action_body (M.TRY (xs ++ ys))) ≤ KEPT → now.body ≡ action_body (M.TRY (xs ++ ys))
  pub levels : t.levels ≡ level b (some now) ∷ ls
  pub grew : Grew place s t n (length (collect branch_bytes ys) + (weight ns + 4 * n)) ns
  pub lays : P → Lays s [] t [] ns

-- What is kept of a TRY whose branches go on: those that it has, and they are counted.
abbrev pub Keeps : Sheet → Kept → List Branch → Type 0
Keeps s x xs =
    length (action_body (M.TRY xs)) ≤ KEPT → (x.body ≡ action_body (M.TRY xs)) × (length (action_body (M.TRY xs)) ≤ s.total)

-- What holds of all that is in a block, and of what is behind it.
module _ (P : Owned → Type 0) (own : ℕ) (os qs : List Owned) where
  pub block_split : AllOf P (owned R.BLOCK own ∷ os ++ qs) → AllOf P os × AllOf P qs
  block_split h = let js = all_split P (owned R.BLOCK own ∷ os) qs h in (js.0.1, js.1)

  branch_split : (rs : List Owned) → AllOf P (owned R.BLOCK own ∷ os ++ qs ++ rs) → AllOf P rs × (AllOf P os × AllOf P qs)
  branch_split rs h = let js = all_split P (owned R.BLOCK own ∷ os ++ qs) rs h in (js.1, block_split js.0)

-- A TRY that is kept stands in its block before what is in the blocks inside.
lays_kept : (s t : Sheet) (ps : List Piece) (ns : List Note) (b k hi : ℕ) (x : Kept) (o : Owned) → Lays s ps t [] ns
    → AllOf (In k hi) ns → b < k → headed K.TRY x.body ≡ bytes_of o.entry → Lays s ps t (waiting b (some x)) (note b o ∷ ns)
lays_kept s t ps ns b k hi x o a i l e = record { came = go }
  where
    n : Note
    n = note b o

    go : t.full ≡ false
        → (s.full ≡ false)
        × ((j : ℕ) → standing j (t.pieces ++ waiting b (some x)) ≡ standing j (s.pieces ++ ps) ++ bytes_in j (n ∷ ns))
    go f =
        let y = a.came f in (
          y.0,
          λ j.
              standing-append j t.pieces (waiting b (some x))
              ∙ ap (λ bs. standing j t.pieces ++ standing j (record { block = b; bytes = bs } ∷ [])) e
              ∙ ap (λ ps. standing j ps ++ bytes_in j (n ∷ [])) (sym (append-nil t.pieces))
              ∙ ap (λ bs. bs ++ bytes_in j (n ∷ [])) (y.1 j)
              ∙ append_assoc (standing j (s.pieces ++ ps)) (bytes_in j ns) (bytes_in j (n ∷ []))
              ∙ ap (λ bs. standing j (s.pieces ++ ps) ++ bs)
              (sym (bytes_append j ns (n ∷ [])) ∙ bytes_swap j k hi ns (n ∷ []) i ((omega arith, l), tt)),
        )

-- Notes of inner blocks and those of the block around them change places.
module _ (place : ℕ → ℕ) (n : Note) (k hi : ℕ) (ns ms rs : List Note) (inner : AllOf (In k hi) ns)
    (outer : AllOf (In 0 k) ms) where
  abbrev read : List Note
  read = n ∷ (ns ++ (ms ++ rs))

  abbrev filed : List Note
  filed = n ∷ (ms ++ (ns ++ rs))

  turned : {A : Type 0} (f : List Note → A) → f (n ∷ (ns ++ ms ++ rs)) ≡ f (n ∷ (ms ++ ns ++ rs)) → f read ≡ f filed
  turned f e =
      ap (λ xs. f (n ∷ xs)) (sym (append_assoc ns ms rs)) ∙ e ∙ ap (λ xs. f (n ∷ xs)) (append_assoc ms ns rs)

  turned_long : length read ≡ length filed
  turned_long = turned length (simp length-append (omega arith))

  turned_weight : weight read ≡ weight filed
  turned_weight = turned weight (simp weight-append (omega arith))

  turned_bytes : (j : ℕ) → bytes_in j read ≡ bytes_in j filed
  turned_bytes j =
      turned (bytes_in j) (bytes_append j (n ∷ []) (ns ++ ms ++ rs)
      ∙ ap (λ bs. bytes_in j (n ∷ []) ++ bs)
      (bytes_append j (ns ++ ms) rs ∙ ap (λ bs. bs ++ bytes_in j rs) (bytes_swap j k hi ns ms inner outer)
      ∙ sym (bytes_append j (ms ++ ns) rs)) ∙ sym (bytes_append j (n ∷ []) (ms ++ ns ++ rs)))

  turned_last : (l : ℕ × ℕ) → lasts place l read ≡ lasts place l filed
  turned_last l =
      turned (lasts place l) (lasts-append place l (n ∷ (ns ++ ms)) rs
      ∙ ap (λ i. lasts place i rs) (lasts_swap place (lasts place l (n ∷ [])) k hi ns ms inner outer)
      ∙ sym (lasts-append place l (n ∷ (ms ++ ns)) rs))

  turned_laid : (P : Type 0) (s : Sheet) (b : ℕ) (o : Option Kept) (ls : List Level) (t : Sheet) (m : ℕ)
      → Laid place P s b o ls t m read
      → Laid place P s b o ls t m filed
  turned_laid P s b o ls t m a =
      record {
        now = a.now;
        levels = a.levels;
        grew =
            let g : Grew place s t m (weight filed + 4 * m) read = grew_as place refl (ap (λ w. w + 4 * m) turned_weight)
            a.grew in
            record {
              wide = g.wide;
              seen = λ i. g.seen i ∙ ap (λ c. get_or s.seen i 0 + only i K.BLOCK m + only i K.ACTION c) turned_long;
              total = g.total;
              last = g.last ∙ turned_last (last_of s);
              besides = g.besides;
            };
        lays = λ h.
            record {
              came = λ f.
                  let x = (a.lays h).came f in
                  (x.0, λ j. x.1 j ∙ ap (λ bs. standing j (s.pieces ++ waiting b o) ++ bs) (turned_bytes j));
            };
      }

module _ (place : ℕ → ℕ) where
  -- STEP BY STEP. A simple action.
  pub simple_done : (a : Action) (p at : ℕ) (s : Sheet) (b : ℕ) (o : Option Kept) (ls : List Level) (k : ℕ) → p ≡ at
      → From s b o ls k
      → Done place (Short (owned (R.ACTION a) at)) s b o ls (acts (wrote (place p) a) (settled s)) 0
      (note b (owned (R.ACTION a) at) ∷ [])
  simple_done a p at s b o ls k e f =
      let d : Draft = wrote (place p) a in
      let w : Owned = owned (R.ACTION a) at in
      let kind = wrote_kind (place p) a in
      let size = wrote_size (place p) a in
      let bytes = bytes_long (R.ACTION a) in
      let body = action_size a in
      let l = settled_levels s b o ls f.levels in
      let c = still_counting place f.counting (grew_nothing place s (settled s) f.counting (settled-account s)) in
      record {
        levels = acts_levels d (settled s) ∙ l;
        grew = grew_from place (settled-account s)
            (grew_total place (omega arith)
            (acts_grew place d (settled s) b w c (ap place (sym e) ∙ sym kind.1) (ap innermost l)));
        lays = λ h.
            lays_join (settled_lays s b o ls f.levels)
            (acts_lays d (settled s) b w (ap innermost l)
            (ap₂ headed kind.0 (wrote_short (place p) a (omega arith)) ∙ action_bytes a));
      }

  done_laid : {P Q : Type 0} {s : Sheet} {b : ℕ} {o : Option Kept} {ls : List Level} {t : Sheet} {n : ℕ} {ns : List Note}
      → (Q → P) → Done place P s b o ls t n ns
      → Laid place Q s b o ls t n ns
  done_laid f d = record { now = none; levels = d.levels; grew = d.grew; lays = λ h. d.lays (f h) }

  -- .. and blocks behind it.
  done_nested : {P Q : Type 0} {s : Sheet} {b : ℕ} {o : Option Kept} {ls : List Level} {t u : Sheet} {m : ℕ} {ns ms : List Note}
      → Done place P s b o ls t 0 ns → Nested place Q t u m ms → Done place (P × Q) s b o ls u m (ns ++ ms)
  done_nested {P} {Q} {s} {b} {o} {ls} {t} {u} {m} {ns} {ms} d n =
      let w = weight-append ns ms in
      record {
        levels = n.levels ∙ d.levels;
        grew = grew_as place (omega arith) (omega arith) (grew_join place d.grew n.grew);
        lays = λ h. lays_join (d.lays h.0) (n.lays h.1);
      }

  module _ (ks : List Known) where
    -- WHAT IS KEPT of an action, of actions, of branches: all that they write.
    abbrev pub Shorts : (j : Kind) → Act j → ℕ → ℕ → ℕ → Type 0
    Shorts G.action a own k at = Short (direct ks a k at) × AllOf Short (inside ks a own k at)
    Shorts G.actions a own k at = AllOf Short (direct ks a k at) × AllOf Short (inside ks a own k at)
    Shorts G.branches a own k at = AllOf Short (inside ks a own k at)

    -- WHAT IS LAID by an action, by actions, by branches.
    abbrev pub Lies : (j : Kind) → Act j → Type 0
    Lies G.action a =
        (p at own k b : ℕ) (o : Option Kept) (ls : List Level) (s : Sheet) → p ≡ at → From s b o ls k → Fair (direct ks a k at)
        → AllOf Fair (inside ks a own k at)
        → Laid place (Shorts G.action a own k at) s b o ls (sheeted place ks a p s) (opened a)
        (note b (direct ks a k at) ∷ inner ks a k at)
    Lies G.actions a =
        (p at own k b : ℕ) (o : Option Kept) (ls : List Level) (s : Sheet) → p ≡ at → From s b o ls k
        → AllOf Fair (direct ks a k at)
        → AllOf Fair (inside ks a own k at)
        → Laid place (Shorts G.actions a own k at) s b o ls (sheeted place ks a p s) (opened a)
        (notes b (direct ks a k at) ++ inner ks a k at)
    Lies G.branches a =
        (p at own k b : ℕ) (x : Kept) (ls : List Level) (s : Sheet) (xs : List Branch) → p ≡ at → From s b (some x) ls k
        → Keeps s x xs → Continued (xs ++ direct ks a k at)
        → AllOf Fair (inside ks a own k at)
        → Branched place (Shorts G.branches a own k at) s b ls (sheeted place ks a p s) (opened a) (inner ks a k at) xs
        (direct ks a k at)

    -- A block, from its brace on; and to the brace that closes it.
    pub begun : (a : Act G.actions) → Lies G.actions a → (p at own k : ℕ) (s : Sheet) → p ≡ at → Counting s → blocks_of s ≡ k
        → AllOf Fair (direct ks a (suc k) at) → AllOf Fair (inside ks a own (suc k) at)
        → Begun place (Shorts G.actions a own (suc k) at) s k (sheeted place ks a p (braces s)) (suc (opened a))
        (notes k (direct ks a (suc k) at) ++ inner ks a (suc k) at)
    begun a lies p at own k s e c h i j =
        let g = braces_grew place s c in
        let n = grew_blocks place g in
        let ns : List Note = notes k (direct ks a (suc k) at) ++ inner ks a (suc k) at in
        let P : Type 0 = Shorts G.actions a own (suc k) at in
        let y : Laid place P (braces s) k none s.levels (sheeted place ks a p (braces s)) (opened a) ns =
        lies p at own (suc k) k none s.levels (braces s) e
        (record {
          counting = still_counting place c g;
          levels = braces_levels s ∙ ap (λ x. level x none ∷ s.levels) h;
          blocks = omega arith;
          below = omega arith;
        }) i j in
        record {
          now = y.now;
          levels = y.levels;
          grew = grew_as place (omega arith) (omega arith) (grew_join place g y.grew);
          lays = λ h. lays_join (braces_lays s) (y.lays h);
        }

    pub nested : (a : Act G.actions) → Lies G.actions a → (p at own k : ℕ) (s : Sheet) → p ≡ at → Counting s → blocks_of s ≡ k
        → AllOf Fair (direct ks a (suc k) at) → AllOf Fair (inside ks a own (suc k) at)
        → Nested place (Shorts G.actions a own (suc k) at) s (closed (sheeted place ks a p (braces s))) (suc (opened a))
        (notes k (direct ks a (suc k) at) ++ inner ks a (suc k) at)
    nested a lies p at own k s e c h i j =
        let t : Sheet = sheeted place ks a p (braces s) in
        let y = begun a lies p at own k s e c h i j in
        record {
          levels = closed_levels t k y.now s.levels y.levels;
          grew = grew_same place (closed-account t) y.grew;
          lays = λ h. lays_then (y.lays h) (closed_lays t k y.now s.levels y.levels);
        }

    repeat_lies : (n : G.Count) (a : Act G.actions) → Lies G.actions a → Lies G.action (G.repeat n a)
    unfolding sheeted direct inner inside opened
    repeat_lies n a lies p at own k b o ls s e f h i =
        let m : Action = M.DO n.value k in
        let P : Type 0 = Shorts G.action (G.repeat n a) own k at in
        let q : ℕ = at + to_do n in
        let d = simple_done m p at s b o ls k e f in
        let s1 : Sheet = acts (wrote (place p) m) (settled s) in
        let g = grew_blocks place d.grew in
        let r = f.blocks in
        let js = block_split Fair at (direct ks a (suc k) q) (inside ks a own (suc k) q) i in
        let y = nested a lies (suc (suc (suc p))) q own k s1 (do_span n p ∙ ap (λ x. x + to_do n) e)
        (still_counting place f.counting d.grew) (omega arith) js.0 js.1 in
        let same : blocks_of (settled s) ≡ k = ap blocks_of (settled-account s) ∙ f.blocks in
        subst (λ (x : ℕ). Laid place P s b o ls
        (closed (sheeted place ks a (suc (suc (suc p))) (braces (acts (wrote (place p) (M.DO n.value x)) (settled s)))))
        (suc (opened a)) (note b (owned (R.ACTION m) at) ∷ (notes k (direct ks a (suc k) q) ++ inner ks a (suc k) q)))
        (sym same) (done_laid
        (λ h. (h.0, block_split Short at (direct ks a (suc k) q) (inside ks a own (suc k) q) h.1)) (done_nested d y))

    while_lies : (c : G.Claim) (a : Act G.actions) → Lies G.actions a → Lies G.action (G.while c a)
    unfolding sheeted direct inner inside opened
    while_lies c a lies p at own k b o ls s e f h i =
        let m : Action = M.WHILE k (claim_of ks c) in
        let P : Type 0 = Shorts G.action (G.while c a) own k at in
        let q : ℕ = at + to_while c in
        let v : ℕ = suc (past_claim c (suc (suc p))) in
        let d = simple_done m p at s b o ls k e f in
        let s1 : Sheet = acts (wrote (place p) m) (settled s) in
        let g = grew_blocks place d.grew in
        let r = f.blocks in
        let js = block_split Fair at (direct ks a (suc k) q) (inside ks a own (suc k) q) i in
        let y = nested a lies v q own k s1 (while_span c p ∙ ap (λ x. x + to_while c) e)
        (still_counting place f.counting d.grew) (omega arith) js.0 js.1 in
        subst (λ (x : ℕ). Laid place P s b o ls
        (closed (sheeted place ks a v (braces (acts (wrote (place p) (M.WHILE x (claim_of ks c))) (settled s)))))
        (suc (opened a)) (note b (owned (R.ACTION m) at) ∷ (notes k (direct ks a (suc k) q) ++ inner ks a (suc k) q)))
        (sym f.blocks) (done_laid
        (λ h. (h.0, block_split Short at (direct ks a (suc k) q) (inside ks a own (suc k) q) h.1)) (done_nested d y))

    follow_lies : (a : Act G.action) (c : Act G.actions) → Lies G.action a → Lies G.actions c → Lies G.actions (G.follow a c)
    unfolding sheeted direct inner inside opened
    follow_lies a c first next p at own k b o ls s e f h i =
        let n : ℕ = k + opened a in
        let q : ℕ = at + in_tokens a in
        let js = all_split Fair (inside ks a own k at) (inside ks c own n q) i in
        let x = first p at own k b o ls s e f h.0 js.0 in
        let t : Sheet = sheeted place ks a p s in
        let g = grew_blocks place x.grew in
        let r = f.blocks in
        let l = f.below in
        let y = next (past_act a p) q own n b x.now ls t (tokens_span a p ∙ ap (λ w. w + in_tokens a) e)
        (record {
          counting = still_counting place f.counting x.grew;
          levels = x.levels;
          blocks = omega arith;
          below = omega arith;
        }) h.1 js.1 in
        let w : Note = note b (direct ks a k at) in
        let ms : List Note = notes b (direct ks c n q) in
        let v = weight-append (inner ks a k at) (ms ++ inner ks c n q) in
        turned_laid place w k (k + opened a) (inner ks a k at) ms (inner ks c n q) (inner_in ks a k at)
        (notes_in b 0 k (direct ks c n q) (omega arith) l) (Shorts G.actions (G.follow a c) own k at) s b o ls
        (sheeted place ks c (past_act a p) t) (opened a + opened c)
        (record {
          now = y.now;
          levels = y.levels;
          grew = grew_as place refl (omega arith) (grew_join place x.grew y.grew);
          lays = λ j.
              let is = all_split Short (inside ks a own k at) (inside ks c own n q) j.1 in
              lays_join (x.lays (j.0.0, is.0)) (y.lays (j.0.1, is.1));
        })

    try_lies : (c : G.Claim) (a : Act G.actions) (bs : Act G.branches) → Lies G.actions a → Lies G.branches bs
        → Lies G.action (G.try c a bs)
    unfolding sheeted direct inner inside opened
    try_lies c a bs lies rest p at own k b o ls s e f h i =
        let q : ℕ = at + to_try c in
        let v : ℕ = suc (suc (past_claim c (suc (suc p)))) in
        let n : ℕ = suc k + opened a in
        let z : ℕ = q + in_braces a in
        let one : Branch = branch k (claim_of ks c) in
        let ys : List Branch = direct ks bs n z in
        let m : Action = M.TRY (one ∷ []) in
        let w : Owned = owned (R.ACTION (M.TRY (one ∷ ys))) at in
        let d : Draft = wrote (place p) m in
        let long1 = try_long (one ∷ []) in
        let long2 = try_long (one ∷ ys) in
        let long3 = length-append (branch_bytes one) (collect branch_bytes ys) in
        let long4 = length-append (branch_bytes one) [] in
        let long5 = bytes_long (R.ACTION (M.TRY (one ∷ ys))) in
        let long6 = action_size (M.TRY (one ∷ ys)) in
        let size = wrote_size (place p) m in
        let l0 = settled_levels s b o ls f.levels in
        let c0 = still_counting place f.counting (grew_nothing place s (settled s) f.counting (settled-account s)) in
        let g1 = grew_total place {z = long d} {y = 4 + length (action_body m)} (omega arith)
        (tries_grew place d (settled s) b w c0 (ap place (sym e) ∙ sym (wrote_kind (place p) m).1) (ap innermost l0)
        (ap kept_in l0)) in
        let s1 : Sheet = tries d (settled s) in
        let n1 = grew_blocks place g1 in
        let r : blocks_of (settled s) ≡ k = ap blocks_of (settled-account s) ∙ f.blocks in
        let os : List Owned = direct ks a (suc k) q in
        let qs : List Owned = inside ks a own (suc k) q in
        let rs : List Owned = inside ks bs at n z in
        let js = branch_split Fair at os qs rs i in
        let in_brace : v ≡ q = try_span c p ∙ ap (λ x. x + to_try c) e in
        let y = nested a lies v q own k s1 in_brace (still_counting place c0 g1) (omega arith) js.1.0 js.1.1 in
        let t1 : Sheet = closed (sheeted place ks a v (braces s1)) in
        let n2 = grew_blocks place y.grew in
        let below = f.below in
        let x : Kept = record { line = d.line; body = d.body } in
        let total1 = g1.total in
        let total2 = y.grew.total in
        let keeps : Keeps t1 x (one ∷ []) = λ l. (wrote_short (place p) m l, omega arith) in
        let u = rest (suc (past_act a v)) z at n b x ls t1 (one ∷ []) (braces_span a v ∙ ap (λ i. i + in_braces a) in_brace)
        (record {
          counting = still_counting place (still_counting place c0 g1) y.grew;
          levels = y.levels ∙ tries_levels (settled s) b none ls l0 d;
          blocks = omega arith;
          below = omega arith;
        }) keeps (h (one ∷ ys) refl) js.0 in
        let ns : List Note = notes k (direct ks a (suc k) q) ++ inner ks a (suc k) q in
        let ms : List Note = inner ks bs n z in
        let heavy = weight-append ns ms in
        let t : Sheet = sheeted place ks bs (suc (past_act a v)) t1 in
        let P : Type 0 = Shorts G.action (G.try c a bs) own k at in
        let all : Laid place P s b o ls t (suc (opened a + opened bs)) (note b w ∷ (ns ++ ms)) =
        record {
          now = some u.now;
          levels = u.levels;
          grew = grew_from place (settled-account s)
              (grew_as place (omega arith) (omega arith) (grew_join place g1 (grew_join place y.grew u.grew)));
          lays = λ j.
              let is = branch_split Short at os qs rs j.1 in
              let fits = j.0 in
              lays_kept s t (waiting b o) (ns ++ ms) b k (k + suc (opened a + opened bs)) u.now w
              (lays_join (lays_join (lays_join (settled_lays s b o ls f.levels) (tries_lays d (settled s)))
              (y.lays is.1))
              (u.lays is.0))
              (inner_in ks (G.try c a bs) k at) below
              (ap (headed K.TRY) (u.body (omega arith)) ∙ action_bytes (M.TRY (one ∷ ys)));
        } in
        subst (λ (i : ℕ). Laid place P s b o ls
        (sheeted place ks bs (suc (past_act a v)) (closed (sheeted place ks a v (braces
        (tries (wrote (place p) (M.TRY (branch i (claim_of ks c) ∷ []))) (settled s))))))
        (suc (opened a + opened bs)) (note b w ∷ (ns ++ ms))) (sym f.blocks) all

    etry_lies : (c : G.Claim) (a : Act G.actions) (bs : Act G.branches) → Lies G.actions a → Lies G.branches bs
        → Lies G.branches (G.etry c a bs)
    unfolding sheeted direct inner inside opened
    etry_lies c a bs lies rest p at own k b x0 ls s xs e f e0 h i =
        let q : ℕ = at + to_try c in
        let v : ℕ = suc (suc (past_claim c (suc (suc p)))) in
        let n : ℕ = suc k + opened a in
        let z : ℕ = q + in_braces a in
        let one : Branch = branch k (claim_of ks c) in
        let ys : List Branch = direct ks bs n z in
        let d : Draft = goes_on s (claim_of ks c) in
        let joined : xs ++ (one ∷ []) ++ ys ≡ xs ++ (one ∷ ys) = append_assoc xs (one ∷ []) ys in
        let long1 = more_long xs one in
        let long2 = try_long (xs ++ (one ∷ []) ++ ys) in
        let long3 = ap length (collect-append branch_bytes (xs ++ (one ∷ [])) ys) in
        let long4 = length-append (collect branch_bytes (xs ++ (one ∷ []))) (collect branch_bytes ys) in
        let long5 = try_long (xs ++ (one ∷ [])) in
        let long6 = ap (λ bs. length (action_body (M.TRY bs))) joined in
        let long7 = length-append (branch_bytes one) (collect branch_bytes ys) in
        let kept = ap kept_in f.levels in
        let has = e0 (h xs one ys refl) in
        let size = more_size xs one s x0 kept has.0 in
        let size0 = ap length has.0 in
        let room = has.1 in
        let fits = h xs one ys refl in
        let g1 = grew_total place {z = d.size - length x0.body} {y = length (branch_bytes one)} (omega arith)
        (retries_grew place d s x0 f.counting kept) in
        let s1 : Sheet = tries d s in
        let n1 = grew_blocks place g1 in
        let r = f.blocks in
        let os : List Owned = direct ks a (suc k) q in
        let qs : List Owned = inside ks a own (suc k) q in
        let rs : List Owned = inside ks bs own n z in
        let js = branch_split Fair own os qs rs i in
        let in_brace : v ≡ q = try_span c p ∙ ap (λ x. x + to_try c) e in
        let y = nested a lies v q own k s1 in_brace (still_counting place f.counting g1) (omega arith) js.1.0
        js.1.1 in
        let t1 : Sheet = closed (sheeted place ks a v (braces s1)) in
        let n2 = grew_blocks place y.grew in
        let below = f.below in
        let x : Kept = record { line = d.line; body = d.body } in
        let total1 = g1.total in
        let total2 = y.grew.total in
        let keeps : Keeps t1 x (xs ++ (one ∷ [])) =
        λ l. (more_draft xs one s x0 kept has.0 f.blocks l, omega arith) in
        let u = rest (suc (past_act a v)) z own n b x ls t1 (xs ++ (one ∷ []))
        (braces_span a v ∙ ap (λ i. i + in_braces a) in_brace)
        (record {
          counting = still_counting place (still_counting place f.counting g1) y.grew;
          levels = y.levels ∙ tries_levels s b (some x0) ls f.levels d;
          blocks = omega arith;
          below = omega arith;
        }) keeps (subst Continued (sym joined) h) js.0 in
        let ns : List Note = notes k (direct ks a (suc k) q) ++ inner ks a (suc k) q in
        let heavy = weight-append ns (inner ks bs n z) in
        record {
          now = u.now;
          body = subst (λ bs. length (action_body (M.TRY bs)) ≤ KEPT → u.now.body ≡ action_body (M.TRY bs)) joined u.body;
          levels = u.levels;
          grew = grew_as place (omega arith) (omega arith) (grew_join place g1 (grew_join place y.grew u.grew));
          lays = λ j.
              let is = branch_split Short own os qs rs j in
              lays_join (lays_join (tries_lays d s) (y.lays is.1)) (u.lays is.0);
        }

    simple_lies : (a : Action) (p at : ℕ) (s : Sheet) (b : ℕ) (o : Option Kept) (ls : List Level) (k : ℕ) → p ≡ at
        → From s b o ls k
        → Laid place (Short (owned (R.ACTION a) at) × Unit {0}) s b o ls (acts (wrote (place p) a) (settled s)) 0
        (note b (owned (R.ACTION a) at) ∷ [])
    simple_lies a p at s b o ls k e f = done_laid (λ h. h.0) (simple_done a p at s b o ls k e f)

    nothing_lies : (s : Sheet) (b : ℕ) (o : Option Kept) (ls : List Level) (k : ℕ) → From s b o ls k
        → Laid place (Unit {0} × Unit {0}) s b o ls s 0 []
    nothing_lies s b o ls k f =
        record {
          now = o;
          levels = f.levels;
          grew = grew_nothing place s s f.counting refl;
          lays = λ h. lays_nothing s s (waiting b o) (waiting b o) (λ e. (e, refl));
        }

    -- ALL ACTIONS.
    pub acts_lie : {j : Kind} (a : Act j) → Lies j a
    unfolding sheeted direct inner inside opened
    acts_lie (G.hold x) = λ p at own k b o ls s e f h i. simple_lies (M.HOLD (means ks x)) p at s b o ls k e f
    acts_lie (G.priority x) = λ p at own k b o ls s e f h i. simple_lies (M.PRIO (means ks x)) p at s b o ls k e f
    acts_lie (G.trace x) = λ p at own k b o ls s e f h i. simple_lies (M.TRACE (means ks x)) p at s b o ls k e f
    acts_lie (G.set x y) = λ p at own k b o ls s e f h i. simple_lies (store_in ks x (means ks y)) p at s b o ls k e f
    acts_lie (G.repeat n a) = repeat_lies n a (acts_lie a)
    acts_lie (G.put_r x n) = λ p at own k b o ls s e f h i. simple_lies (M.PUTR (number_of ks x) n.value) p at s b o ls k e f
    acts_lie (G.put_b x n) = λ p at own k b o ls s e f h i. simple_lies (M.PUTB (number_of ks x) n.value) p at s b o ls k e f
    acts_lie (G.put_s x n) = λ p at own k b o ls s e f h i. simple_lies (M.PUTS (number_of ks x) n.value) p at s b o ls k e f
    acts_lie (G.become x) = λ p at own k b o ls s e f h i. simple_lies (M.BECOME (number_of ks x)) p at s b o ls k e f
    acts_lie (G.req c) = λ p at own k b o ls s e f h i. simple_lies (M.REQ (claim_of ks c)) p at s b o ls k e f
    acts_lie (G.try c a bs) = try_lies c a bs (acts_lie a) (acts_lie bs)
    acts_lie (G.while c a) = while_lies c a (acts_lie a)
    acts_lie (G.start x n g) = λ p at own k b o ls s e f h i.
        simple_lies (M.START (number_of ks x) n.value (shares_of ks g)) p at s b o ls k e f
    acts_lie G.close = λ p at own k b o ls s e f h i. simple_lies M.CLOSE p at s b o ls k e f
    acts_lie G.no_branches = λ p at own k b x ls s xs e f g h i.
        record {
          now = x;
          body =
              subst (λ bs. length (action_body (M.TRY bs)) ≤ KEPT → x.body ≡ action_body (M.TRY bs)) (sym (append-nil xs))
              (λ l. (g l).0);
          levels = f.levels;
          grew = grew_nothing place s s f.counting refl;
          lays = λ h. lays_nothing s s [] [] (λ e. (e, refl));
        }
    acts_lie (G.etry c a bs) = etry_lies c a bs (acts_lie a) (acts_lie bs)
    acts_lie G.no_actions = λ p at own k b o ls s e f h i. nothing_lies s b o ls k f
    acts_lie (G.follow a c) = follow_lies a c (acts_lie a) (acts_lie c)
