-- From the first action of a class body to where a line is put into it: what the tokens between make of the machine's reader.
-- Assumes nothing.
use Prim.Native.Nat.{ℕ, suc, ◌+◌, ◌≤◌, ◌<◌}
use Rattle.std.proofs.Common.{arith, sym, ◌∙◌, subst, length-append}
use Rattle.std.specs.Prelude.{◌≡◌}
use Rattle.std.proofs.Math.Path.{refl, ap}
use mathlib.Core.List.{List, [], ◌∷◌, ◌++◌, append_assoc}
use Rattle.std.proofs.Math.Option.{Option, none, some}
use Rattle.std.proofs.Math.ListN.{length}
use Rattle.semantics.specs.Words.{collect}
use Rattle.semantics.specs.Model as M
use Rattle.semantics.specs.Model.{Action, Branch}
use Rattle.semantics.specs.Record as R
use Rattle.promises.specs.Laws.{AllOf, all_split}
use Rattle.text_semantics.specs.Token as Tk
use Rattle.text_semantics.specs.Token.{Token, mark}
use Rattle.text_semantics.specs.Grammar as G
use Rattle.text_semantics.specs.Grammar.{Name, Claim, Kind, Act, digits, to_brace, spell_act, spell_claim}
use Rattle.text_semantics.specs.Names.{Known}
use Rattle.text_semantics.specs.Meaning.{owned, opened, direct, inside, to_do, to_while, to_try, in_tokens, in_braces, branch}
use Rattle.text_semantics.specs.Meaning.{claim_of}
use Rattle.text_semantics.specs.Written.{two, claim_bytes, branch_bytes, action_body}
use Rattle.text_semantics.specs.Reading.{Symbol, actions_s, try_s}
use Rattle.text_machine.specs.Entry.{Draft, KEPT, put, branching}
use Rattle.text_machine.specs.Sheet.{Sheet, Level, Kept, innermost, kept_in, resumed, blocks_of, settled, closed, acts, tries}
use Rattle.text_machine.specs.Sheet.{braces}
use Rattle.text_machine.specs.Machine.{Reader}
use Rattle.text_promises.specs.Plain.{Plain, act_plain, claimed, before as plain_before}
use Rattle.text_agrees.specs.Flow.{flow}
use Rattle.text_agrees.specs.Sheets.{deepness}
use Rattle.text_agrees.specs.Spans.{do_span, while_span, try_span, tokens_span, braces_span}
use Rattle.text_agrees.specs.Notes.{Note}
use Rattle.text_agrees.specs.Actions.{wrote, goes_on, sheeted, Block, symbol, behind_it, some_actions, after_try, acts_go}
use Rattle.text_agrees.specs.Actions.{inside_goes}
use Rattle.text_agrees.specs.Actions.{repeat_opens, while_opens, try_opens, etry_opens}
use Rattle.text_agrees.specs.Accounts.{Grew, level, still_counting, grew_blocks, grew_nothing, tries_grew, retries_grew}
use Rattle.text_agrees.specs.Accounts.{braces_grew, settled-account, settled_levels, tries_levels, braces_levels}
use Rattle.text_agrees.specs.Laying.{Short, From, acts_lie, nested, simple_done, wrote_short, wrote_kind, action_size}
use Rattle.text_agrees.specs.Laying.{collect-append, try_long, more_draft, short_fair, shorts_fair}
use Rattle.text_agrees.specs.Declared.{reader}
use Rattle.text_agrees.specs.Growing as N
use Rattle.text_agrees.specs.Growing.{New, Put, before, in_do, in_while, in_try, in_branches, new_branch, in_branch, more_branches}
use Rattle.text_agrees.specs.Growing.{new_action, in_last, further}
use Rattle.text_agrees.specs.Grown.{Try, last_try}

-- OPEN BLOCKS. As many as there were, or one more.
open_some : {s : Sheet} {b k : ℕ} {o : Option Kept} {ls : List Level} → From s b o ls k → 1 ≤ deepness s
open_some f = omega (arith, ap length f.levels)

module _ (place : ℕ → ℕ) where
  from_grew : {s t : Sheet} {b c k n z : ℕ} {o u : Option Kept} {ls vs : List Level} {ns : List Note} → From s b o ls k →
      Grew place s t n z ns → t.levels ≡ level c u ∷ vs → c < k + n → From t c u vs (k + n)
  from_grew f g l h =
      record {
        counting = still_counting place f.counting g;
        levels = l;
        blocks = omega (arith, grew_blocks place g, f.blocks);
        below = h;
      }

  from_as : {s : Sheet} {b k m : ℕ} {o : Option Kept} {ls : List Level} → k ≡ m → From s b o ls k → From s b o ls m
  from_as {s} {b} {k} {m} {o} {ls} e f = subst (λ i. From s b o ls i) e f

  from_braces : {s : Sheet} {b k : ℕ} {o : Option Kept} {ls : List Level} → From s b o ls k →
      From (braces s) k none s.levels (suc k)
  from_braces {s} {k = k} f =
      from_as (omega arith) (from_grew f (braces_grew place s f.counting)
      (braces_levels s ∙ ap (λ x. level x none ∷ s.levels) f.blocks) (omega arith))

  -- A simple action.
  from_acts : (m : Action) (at : ℕ) {s : Sheet} {b k : ℕ} {o : Option Kept} {ls : List Level} → From s b o ls k →
      length (action_body m) ≤ KEPT → From (acts (wrote (place at) m) (settled s)) b none ls k
  from_acts m at {s} {b} {k} {o} {ls} f h =
      let d = simple_done place m at at s b o ls k refl f in
      let l = f.below in
      from_as (omega arith) (from_grew f d.grew d.levels (omega arith))

  -- The first branch of a try, which is kept,
  from_tries : (bs : List Branch) (at : ℕ) {s : Sheet} {b k : ℕ} {o : Option Kept} {ls : List Level} → From s b o ls k →
      let d : Draft = wrote (place at) (M.TRY bs) in
      From (tries d (settled s)) b (some (record { line = d.line; body = d.body })) ls k
  from_tries bs at {s} {b} {k} {o} {ls} f =
      let m : Action = M.TRY bs in
      let d : Draft = wrote (place at) m in
      let l = settled_levels s b o ls f.levels in
      let c = still_counting place f.counting (grew_nothing place s (settled s) f.counting (settled-account s)) in
      let z : From (settled s) b none ls k = record {
        counting = c;
        levels = l;
        blocks = ap blocks_of (settled-account s) ∙ f.blocks;
        below = f.below;
      } in
      let h = f.below in
      let g = tries_grew place d (settled s) b (owned (R.ACTION m) at) c (sym (wrote_kind (place at) m).1) (ap innermost l)
      (ap kept_in l) in
      from_as (omega arith) (from_grew z g (tries_levels (settled s) b none ls l d) (omega arith))

  -- and one more.
  from_retries : (d : Draft) {s : Sheet} {b k : ℕ} {x : Kept} {ls : List Level} → From s b (some x) ls k →
      From (tries d s) b (some (record { line = d.line; body = d.body })) ls k
  from_retries d {s} {b} {k} {x} {ls} f =
      let h = f.below in
      let g = retries_grew place d s x f.counting (ap kept_in f.levels) in
      from_as (omega arith) (from_grew f g (tries_levels s b (some x) ls f.levels d) (omega arith))

  module _ (ks : List Known) where
    -- A whole block.
    from_block : (a : Act G.actions) (p at own : ℕ) {s : Sheet} {b k : ℕ} {o : Option Kept} {ls : List Level} → p ≡ at →
        From s b o ls k → AllOf Short (direct ks a (suc k) at) → AllOf Short (inside ks a own (suc k) at) →
        From (closed (sheeted place ks a p (braces s))) b o ls (suc k + opened a)
    from_block a p at own {s} {b} {k} e f h i =
        let l = f.below in
        let y = nested place ks a (acts_lie place ks a) p at own k s e f.counting f.blocks
        (shorts_fair (direct ks a (suc k) at) h) (shorts_fair (inside ks a own (suc k) at) i) in
        from_as (omega arith) (from_grew f y.grew (y.levels ∙ f.levels) (omega arith))

    -- FROM PART TO PART, whatever follows.
    record Step (pre : List Token → List Token) (at : ℕ) (ss : List Symbol) (s : Sheet) (zs : List Symbol)
        (z : Sheet) : Type 0 where
      plain : Plain pre
      goes : (y : Name) (q : ℕ) (d : Draft) (ts : List Token) → (f : Draft)
          × (flow place at (pre ts) ss (reader ks y q d s) ≡ flow place (at + length (pre [])) ts zs (reader ks y q f z))

    -- Where a branch goes on with the try w, that is kept.
    abbrev pub Keeps : New → Block → Option Kept → Try → Type 0
    Keeps (N.act f) v o w = Unit
    Keeps (N.branch c) v o w =
        (v ≡ after_try) × (x : Kept) × (o ≡ some x) × (x.body ≡ action_body (M.TRY w.0)) × (x.line ≡ place w.1)

    -- WHERE A LINE IS PUT: the symbols, and the sheet with its open blocks, the next of which is k.
    pub record Sunk (x : New) (w : Try) (spelled : List Token → List Token) (at : ℕ) (ss : List Symbol) (s : Sheet)
        (k : ℕ) : Type 0 where
      pub block : Block
      pub under : List Symbol
      pub sheet : Sheet
      pub number : ℕ
      pub kept : Option Kept
      pub levels : List Level
      pub from : From sheet number kept levels k
      pub keeps : Keeps x block kept w
      pub goes : (y : Name) (q : ℕ) (d : Draft) (ts : List Token) → (f : Draft)
          × (flow place at (spelled ts) ss (reader ks y q d s)
          ≡ flow place (at + length (spelled [])) ts (symbol block ∷ under) (reader ks y q f sheet))

    sunk_at : {x : New} {w : Try} {sp : List Token → List Token} {at k m : ℕ} {ss : List Symbol} {s : Sheet} → k ≡ m →
        Sunk x w sp at ss s k → Sunk x w sp at ss s m
    sunk_at {x} {w} {sp} {at} {ss = ss} {s = s} e u = subst (λ i. Sunk x w sp at ss s i) e u

    sinks : {x : New} {w : Try} {pre sp : List Token → List Token} {at k : ℕ} {ss zs : List Symbol} {s z : Sheet} →
        Step pre at ss s zs z → Sunk x w sp (at + length (pre [])) zs z k → Sunk x w (λ ts. pre (sp ts)) at ss s k
    sinks {pre = pre} {sp = sp} {at = at} {ss = ss} {s = s} p u =
        record {
          block = u.block;
          under = u.under;
          sheet = u.sheet;
          number = u.number;
          kept = u.kept;
          levels = u.levels;
          from = u.from;
          keeps = u.keeps;
          goes = λ y q d ts.
              let a = p.goes y q d (sp ts) in
              let b = u.goes y q a.0 ts in
              let n : at + length (pre []) + length (sp []) ≡ at + length (pre (sp [])) =
              omega (arith, ap length (p.plain (sp [])), length-append (pre []) (sp [])) in
              let end : ℕ → Reader = λ i. flow place i ts (symbol u.block ∷ u.under) (reader ks y q b.0 u.sheet) in
              (b.0, a.1 ∙ b.1 ∙ ap end n);
        }

    -- THE PARTS: an action,
    act_step : (c : Act G.action) (at : ℕ) (s : Sheet) (v : Block) (us : List Symbol) → 1 ≤ deepness s →
        Step (spell_act c) at (symbol v ∷ us) s (symbol (behind_it c) ∷ us) (sheeted place ks c at s)
    act_step c at s v us h =
        record {
          plain = act_plain c;
          goes = λ y q d ts.
              let a = acts_go place (reader ks y q d s) c d s v at ts us h in (
                a.0,
                a.1 ∙ ap (λ i. flow place i ts (symbol (behind_it c) ∷ us) (reader ks y q a.0 (sheeted place ks c at s)))
                    (tokens_span c at),
              );
        }

    -- a block to the brace that closes it,
    block_step : (a : Act G.actions) (at : ℕ) (s : Sheet) (us : List Symbol) → 2 ≤ deepness s →
        Step (λ ts. spell_act a (mark Tk.RB ∷ ts)) at (actions_s ∷ us) s us (closed (sheeted place ks a at s))
    block_step a at s us h =
        record {
          plain = plain_before (spell_act a) (mark Tk.RB ∷ []) (act_plain a);
          goes = λ y q d ts.
              let r : Reader = reader ks y q d s in
              let b = inside_goes place r a (acts_go place r a) d s at ts us h in (
                b.0,
                b.1 ∙ ap (λ i. flow place i ts us (reader ks y q b.0 (closed (sheeted place ks a at s))))
                    (braces_span a at),
              );
        }

    -- and what leads to a brace.
    do_step : (n : G.Count) (at : ℕ) (s : Sheet) (v : Block) (us : List Symbol) →
        Step (λ ts. mark Tk.DO ∷ digits n (mark Tk.LB ∷ ts)) at (symbol v ∷ us) s (actions_s ∷ actions_s ∷ us)
        (braces (acts (wrote (place at) (M.DO n.value (blocks_of (settled s)))) (settled s)))
    do_step n at s v us =
        record {
          plain = λ r. refl;
          goes = λ y q d ts.
              let e : Draft = wrote (place at) (M.DO n.value (blocks_of (settled s))) in (
                e,
                repeat_opens place (reader ks y q d s) n d s v at ts us
                    ∙ ap (λ i. flow place i ts (actions_s ∷ actions_s ∷ us) (reader ks y q e (braces (acts e (settled s)))))
                    (do_span n at),
              );
        }

    while_step : (c : Claim) (at : ℕ) (s : Sheet) (v : Block) (us : List Symbol) →
        Step (λ ts. mark Tk.WHILE ∷ mark Tk.LS ∷ spell_claim c (mark Tk.LB ∷ ts)) at (symbol v ∷ us) s (actions_s ∷ actions_s ∷ us)
        (braces (acts (wrote (place at) (M.WHILE (blocks_of s) (claim_of ks c))) (settled s)))
    while_step c at s v us =
        record {
          plain = claimed Tk.WHILE c (mark Tk.LB ∷ []);
          goes = λ y q d ts.
              let a = while_opens place (reader ks y q d s) c d s v at ts us in
              let z : Sheet = braces (acts (wrote (place at) (M.WHILE (blocks_of s) (claim_of ks c))) (settled s)) in (
                a.0,
                a.1 ∙ ap (λ i. flow place i ts (actions_s ∷ actions_s ∷ us) (reader ks y q a.0 z)) (while_span c at),
              );
        }

    try_step : (c : Claim) (at : ℕ) (s : Sheet) (v : Block) (us : List Symbol) →
        Step (to_brace Tk.TRY c) at (symbol v ∷ us) s (actions_s ∷ try_s ∷ us)
        (braces (tries (wrote (place at) (M.TRY (branch (blocks_of s) (claim_of ks c) ∷ []))) (settled s)))
    try_step c at s v us =
        record {
          plain = claimed Tk.TRY c (mark Tk.THEN ∷ mark Tk.LB ∷ []);
          goes = λ y q d ts.
              let a = try_opens place (reader ks y q d s) c d s v at ts us in
              let m : Action = M.TRY (branch (blocks_of s) (claim_of ks c) ∷ []) in
              let z : Sheet = braces (tries (wrote (place at) m) (settled s)) in (
                a.0,
                a.1 ∙ ap (λ i. flow place i ts (actions_s ∷ try_s ∷ us) (reader ks y q a.0 z)) (try_span c at),
              );
        }

    etry_step : (c : Claim) (at : ℕ) (s : Sheet) (us : List Symbol) →
        Step (to_brace Tk.ETRY c) at (try_s ∷ us) s (actions_s ∷ try_s ∷ us) (braces (tries (goes_on s (claim_of ks c)) s))
    etry_step c at s us =
        record {
          plain = claimed Tk.ETRY c (mark Tk.THEN ∷ mark Tk.LB ∷ []);
          goes = λ y q d ts.
              let a = etry_opens place (reader ks y q d s) c d s at ts us in
              let z : Sheet = braces (tries (goes_on s (claim_of ks c)) s) in
              (a.0, a.1 ∙ ap (λ i. flow place i ts (actions_s ∷ try_s ∷ us) (reader ks y q a.0 z)) (try_span c at));
        }

    -- WHAT IS ASKED of what is there: no record is too long. A try has the branches xs before these.
    abbrev Shorts : (j : Kind) → Act j → (own k at : ℕ) → List Branch → Type 0
    Shorts G.action a own k at xs = Short (direct ks a k at) × AllOf Short (inside ks a own k at)
    Shorts G.actions a own k at xs = AllOf Short (direct ks a k at) × AllOf Short (inside ks a own k at)
    Shorts G.branches a own k at xs =
        (length (action_body (M.TRY (xs ++ direct ks a k at))) ≤ KEPT) × AllOf Short (inside ks a own k at)

    abbrev Sinks : (j : Kind) (x : New) (n : ℕ) (a b : Act j) → Put j x n a b → Type 0
    Sinks G.action x n a b p =
        (own k at : ℕ) (xs : List Branch) (v : Block) (us : List Symbol) (s : Sheet) (i : ℕ) (o : Option Kept)
        (ls : List Level) →
        From s i o ls k → Shorts G.action a own k at xs →
        Sunk x (last_try ks p own k at xs) (before p) at (symbol v ∷ us) s (k + opened a)
    Sinks G.actions x n a b p =
        (own k at : ℕ) (xs : List Branch) (v : Block) (us : List Symbol) (s : Sheet) (i : ℕ) (o : Option Kept)
        (ls : List Level) →
        From s i o ls k → Shorts G.actions a own k at xs →
        Sunk x (last_try ks p own k at xs) (before p) at (symbol v ∷ us) s (k + opened a)
    Sinks G.branches x n a b p =
        (own k at : ℕ) (xs : List Branch) (us : List Symbol) (s : Sheet) (i : ℕ) (y : Kept) (ls : List Level) →
        From s i (some y) ls k → y.body ≡ action_body (M.TRY xs) → y.line ≡ place own → Shorts G.branches a own k at xs →
        Sunk x (last_try ks p own k at xs) (before p) at (try_s ∷ us) s (k + opened a)

    -- A TRY WITH ONE BRANCH is short where the whole is.
    one_short : (b : Branch) (bs : List Branch) → length (action_body (M.TRY (b ∷ bs))) ≤ KEPT →
        length (action_body (M.TRY (b ∷ []))) ≤ KEPT
    one_short b bs h =
        omega (
          arith,
          try_long (b ∷ []),
          try_long (b ∷ bs),
          length-append (branch_bytes b) (collect branch_bytes bs),
          length-append (branch_bytes b) [],
        )

    first_short : (xs : List Branch) (b : Branch) (bs : List Branch) → length (action_body (M.TRY (xs ++ (b ∷ bs)))) ≤ KEPT →
        (length (action_body (M.TRY ((xs ++ (b ∷ [])) ++ bs))) ≤ KEPT) × (length (action_body (M.TRY (xs ++ (b ∷ [])))) ≤ KEPT)
    first_short xs b bs h =
        let e = ap (λ ys. length (action_body (M.TRY ys))) (append_assoc xs (b ∷ []) bs) in
        let c = try_long ((xs ++ (b ∷ [])) ++ bs) in
        let d = ap length (collect-append branch_bytes (xs ++ (b ∷ [])) bs) in
        let f = length-append (collect branch_bytes (xs ++ (b ∷ []))) (collect branch_bytes bs) in
        let g = try_long (xs ++ (b ∷ [])) in
        (omega arith, omega arith)

    pub goes_line : (s : Sheet) (c : M.Claim) (y : Kept) → kept_in s.levels ≡ some y → (goes_on s c).line ≡ y.line
    unfolding put
    goes_line s c y e = ap (λ o. (put (branching (resumed o)) (two (blocks_of s) ++ claim_bytes c)).line) e

    -- Into a block.
    sink_do : (m : G.Count) {x : New} {n : ℕ} {a b : Act G.actions} (p : Put G.actions x n a b) → Sinks G.actions x n a b p →
        Sinks G.action x (suc n) (G.repeat m a) (G.repeat m b) (in_do m p)
    unfolding direct inside opened before action_body
    sink_do m {a = a} p ih own k at xs v us s i o ls f h =
        let q : ℕ = at + to_do m in
        let d : Action = M.DO m.value (blocks_of (settled s)) in
        let js = all_split Short (owned R.BLOCK at ∷ direct ks a (suc k) q) (inside ks a own (suc k) q) h.1 in
        let g = from_braces (from_acts d at f (omega arith)) in
        sunk_at (omega arith) (sinks (do_step m at s v us)
        (ih own (suc k) q xs some_actions (actions_s ∷ us) _ k none _ g (js.0.1, js.1)))

    sink_while : (c : Claim) {x : New} {n : ℕ} {a b : Act G.actions} (p : Put G.actions x n a b) → Sinks G.actions x n a b p →
        Sinks G.action x (suc n) (G.while c a) (G.while c b) (in_while c p)
    unfolding direct inside opened before
    sink_while c {a = a} p ih own k at xs v us s i o ls f h =
        let q : ℕ = at + to_while c in
        let d : ℕ → Action = λ j. M.WHILE j (claim_of ks c) in
        let js = all_split Short (owned R.BLOCK at ∷ direct ks a (suc k) q) (inside ks a own (suc k) q) h.1 in
        let l : length (action_body (d (blocks_of s))) ≤ KEPT =
        omega (arith, h.0, action_size (d k), ap (λ j. length (action_body (d j))) f.blocks) in
        let g = from_braces (from_acts (d (blocks_of s)) at f l) in
        sunk_at (omega arith) (sinks (while_step c at s v us)
        (ih own (suc k) q xs some_actions (actions_s ∷ us) _ k none _ g (js.0.1, js.1)))

    -- Into a try: the block of its first branch, or the branches behind.
    module _ (c : Claim) (k at : ℕ) {s : Sheet} {i : ℕ} {o : Option Kept} {ls : List Level} (f : From s i o ls k) where
      abbrev first : List Branch
      first = branch (blocks_of s) (claim_of ks c) ∷ []

      abbrev tried : Kept
      tried = record { line = (wrote (place at) (M.TRY first)).line; body = (wrote (place at) (M.TRY first)).body }

      tried_body : (bs : List Branch) → Short (owned (R.ACTION (M.TRY (branch k (claim_of ks c) ∷ bs))) at) →
          tried.body ≡ action_body (M.TRY (branch k (claim_of ks c) ∷ []))
      tried_body bs h =
          let same = ap (λ j. action_body (M.TRY (branch j (claim_of ks c) ∷ []))) f.blocks in
          let l = one_short (branch k (claim_of ks c)) bs
          (omega (arith, h, action_size (M.TRY (branch k (claim_of ks c) ∷ bs)))) in
          wrote_short (place at) (M.TRY first) (omega (arith, l, ap length same)) ∙ same

      tried_line : tried.line ≡ place at
      tried_line = (wrote_kind (place at) (M.TRY first)).1

      kept_from : From (tries (wrote (place at) (M.TRY first)) (settled s)) i (some tried) ls k
      kept_from = from_tries first at f

    deep_two : {s : Sheet} {b k : ℕ} {o : Option Kept} {ls : List Level} → From s b o ls k → 2 ≤ deepness (braces s)
    deep_two f = omega (arith, open_some f, ap length (from_braces f).levels)

    sink_try : (c : Claim) {x : New} {n : ℕ} {a b : Act G.actions} (p : Put G.actions x n a b) → Sinks G.actions x n a b p →
        Sinks G.action x (suc n) (G.try c a G.no_branches) (G.try c b G.no_branches) (in_try c p)
    unfolding direct inside opened before
    sink_try c {a = a} p ih own k at xs v us s i o ls f h =
        let q : ℕ = at + to_try c in
        let all = all_split Short (owned R.BLOCK at ∷ direct ks a (suc k) q ++ inside ks a own (suc k) q) [] h.1 in
        let js = all_split Short (owned R.BLOCK at ∷ direct ks a (suc k) q) (inside ks a own (suc k) q) all.0 in
        let g = from_braces (kept_from c k at f) in
        sunk_at (omega arith) (sinks (try_step c at s v us)
        (ih own (suc k) q xs some_actions (try_s ∷ us) _ k none _ g (js.0.1, js.1)))

    sink_branches : (c : Claim) (d : Act G.actions) {x : New} {n : ℕ} {a b : Act G.branches} (p : Put G.branches x n a b) →
        Sinks G.branches x n a b p → Sinks G.action x n (G.try c d a) (G.try c d b) (in_branches c d p)
    unfolding direct inside opened before
    sink_branches c d {a = a} p ih own k at xs v us s i o ls f h =
        let q : ℕ = at + to_try c in
        let j : ℕ = suc k + opened d in
        let z : ℕ = q + in_braces d in
        let one : Branch = branch k (claim_of ks c) in
        let js = all_split Short (owned R.BLOCK at ∷ direct ks d (suc k) q ++ inside ks d own (suc k) q) (inside ks a at j z)
        h.1 in
        let ds = all_split Short (owned R.BLOCK at ∷ direct ks d (suc k) q) (inside ks d own (suc k) q) js.0 in
        let g = kept_from c k at f in
        let w = from_block d q q own refl g ds.0.1 ds.1 in
        sunk_at (omega arith) (sinks (try_step c at s v us) (sinks (block_step d q _ (try_s ∷ us) (deep_two g))
        (ih at j z (one ∷ []) us _ i (tried c k at f) ls w (tried_body c k at f (direct ks a j z) h.0) (tried_line c k at f)
        (omega (arith, h.0, action_size (M.TRY (one ∷ direct ks a j z))), js.1))))

    -- Into a further branch: its block, or the branches behind.
    module _ (c : Claim) (own k : ℕ) (xs : List Branch) {s : Sheet} {i : ℕ} {y : Kept} {ls : List Level}
        (f : From s i (some y) ls k) (body : y.body ≡ action_body (M.TRY xs)) (line : y.line ≡ place own) where
      abbrev gone : Kept
      gone = record { line = (goes_on s (claim_of ks c)).line; body = (goes_on s (claim_of ks c)).body }

      gone_body : length (action_body (M.TRY (xs ++ (branch k (claim_of ks c) ∷ [])))) ≤ KEPT →
          gone.body ≡ action_body (M.TRY (xs ++ (branch k (claim_of ks c) ∷ [])))
      gone_body l = more_draft xs (branch k (claim_of ks c)) s y (ap kept_in f.levels) body f.blocks l

      gone_line : gone.line ≡ place own
      gone_line = goes_line s (claim_of ks c) y (ap kept_in f.levels) ∙ line

    sink_branch : (c : Claim) {x : New} {n : ℕ} {a b : Act G.actions} (p : Put G.actions x n a b) → Sinks G.actions x n a b p →
        Sinks G.branches x (suc n) (G.etry c a G.no_branches) (G.etry c b G.no_branches) (in_branch c p)
    unfolding direct inside opened before
    sink_branch c {a = a} p ih own k at xs us s i y ls f body line h =
        let q : ℕ = at + to_try c in
        let all = all_split Short (owned R.BLOCK own ∷ direct ks a (suc k) q ++ inside ks a own (suc k) q) [] h.1 in
        let js = all_split Short (owned R.BLOCK own ∷ direct ks a (suc k) q) (inside ks a own (suc k) q) all.0 in
        let g = from_braces (from_retries (goes_on s (claim_of ks c)) f) in
        sunk_at (omega arith) (sinks (etry_step c at s us)
        (ih own (suc k) q xs some_actions (try_s ∷ us) _ k none _ g (js.0.1, js.1)))

    sink_more : (c : Claim) (d : Act G.actions) {x : New} {n : ℕ} {a b : Act G.branches} (p : Put G.branches x n a b) →
        Sinks G.branches x n a b p → Sinks G.branches x n (G.etry c d a) (G.etry c d b) (more_branches c d p)
    unfolding direct inside opened before
    sink_more c d {a = a} p ih own k at xs us s i y ls f body line h =
        let q : ℕ = at + to_try c in
        let j : ℕ = suc k + opened d in
        let z : ℕ = q + in_braces d in
        let one : Branch = branch k (claim_of ks c) in
        let js = all_split Short (owned R.BLOCK own ∷ direct ks d (suc k) q ++ inside ks d own (suc k) q) (inside ks a own j z)
        h.1 in
        let ds = all_split Short (owned R.BLOCK own ∷ direct ks d (suc k) q) (inside ks d own (suc k) q) js.0 in
        let l = first_short xs one (direct ks a j z) h.0 in
        let g = from_retries (goes_on s (claim_of ks c)) f in
        let w = from_block d q q own refl g ds.0.1 ds.1 in
        sunk_at (omega arith) (sinks (etry_step c at s us) (sinks (block_step d q _ (try_s ∷ us) (deep_two g))
        (ih own j z (xs ++ (one ∷ [])) us _ i (gone c own k xs f body line) ls w (gone_body c own k xs f body line l.1)
        (gone_line c own k xs f body line) (l.0, js.1))))

    -- ALL OF THEM.
    pub sink : {j : Kind} {x : New} {n : ℕ} {a b : Act j} (p : Put j x n a b) → Sinks j x n a b p
    unfolding direct inside opened before
    sink (in_do m p) = sink_do m p (sink p)
    sink (in_while c p) = sink_while c p (sink p)
    sink (in_try c p) = sink_try c p (sink p)
    sink (in_branches c d p) = sink_branches c d p (sink p)
    sink (new_branch c) = λ own k at xs us s i y ls f body line h.
        record {
          block = after_try;
          under = us;
          sheet = s;
          number = i;
          kept = some y;
          levels = ls;
          from = from_as (omega arith) f;
          keeps = (refl, y, refl, body, line);
          goes = λ z q d ts. (d, ap (λ (n : ℕ). flow place n ts (try_s ∷ us) (reader ks z q d s)) (omega arith));
        }
    sink (in_branch c p) = sink_branch c p (sink p)
    sink (more_branches c d p) = sink_more c d p (sink p)
    sink (new_action e) = λ own k at xs v us s i o ls f h.
        record {
          block = v;
          under = us;
          sheet = s;
          number = i;
          kept = o;
          levels = ls;
          from = from_as (omega arith) f;
          keeps = tt;
          goes = λ z q d ts. (d, ap (λ (n : ℕ). flow place n ts (symbol v ∷ us) (reader ks z q d s)) (omega arith));
        }
    sink (in_last {a = a} p) = λ own k at xs v us s i o ls f h.
        let js = all_split Short (inside ks a own k at) [] h.1 in
        sunk_at (omega arith) (sink p own k at xs v us s i o ls f (h.0.0, js.0))
    sink (further {a = a} c p) = λ own k at xs v us s i o ls f h.
        let js = all_split Short (inside ks c own k at) (inside ks a own (k + opened c) (at + in_tokens c)) h.1 in
        let y = acts_lie place ks c at at own k i o ls s refl f (short_fair (direct ks c k at) h.0.0)
        (shorts_fair (inside ks c own k at) js.0) in
        let l = f.below in
        let g = from_grew f y.grew y.levels (omega arith) in
        sunk_at (omega arith) (sinks (act_step c at s v us (open_some f))
        (sink p own (k + opened c) (at + in_tokens c) xs (behind_it c) us _ i y.now ls g (h.0.1, js.1)))
