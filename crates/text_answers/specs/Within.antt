-- At the cut of a line in a class body the machine finds what the definitions say: locals, an action, or one more branch.
-- Assumes nothing.
use Prim.Native.Nat.{ℕ, zero, suc, ◌+◌, ◌≤◌}
use native.Mathlib.Omega.{arith}
use Rattle.std.specs.Prelude.{◌≡◌, true, ◌⊎◌, get_or}
use Rattle.std.proofs.Math.Path.{refl, ap, ap₂, subst}
use Rattle.std.proofs.Common.{sym, ◌∙◌, inl, inr, length-append, ltb-false}
use mathlib.Core.List.{List, [], ◌∷◌, ◌++◌}
use Rattle.std.proofs.Math.Bool.{not}
use Rattle.std.proofs.Math.Option.{none, some}
use Rattle.std.proofs.Math.Dec.{ltb}
use Rattle.std.proofs.Math.ListN.{length}
use Rattle.semantics.specs.Model as M
use Rattle.semantics.specs.Model.{Action, Branch}
use Rattle.semantics.specs.Record as R
use Rattle.promises.specs.Laws.{AllOf, all_split}
use Rattle.promises.specs.Counted.{group_of, limits}
use Rattle.text_semantics.specs.Numbers as No
use Rattle.text_semantics.specs.Token as Tk
use Rattle.text_semantics.specs.Token.{Token, mark, name}
use Rattle.text_semantics.specs.Grammar as G
use Rattle.text_semantics.specs.Grammar.{Name, Claim, Act, Few, Locals, Text, spell_text, spell_few, spell_locals}
use Rattle.text_semantics.specs.Names.{Known, events, in_declaration, trouble_in}
use Rattle.text_semantics.specs.Meaning.{Owned, owned, direct, inside, opened, branch, claim_of, to_body, blocks, declarations}
use Rattle.text_semantics.specs.Meaning.{records}
use Rattle.text_semantics.specs.Written.{branch_bytes, action_body, body_of}
use Rattle.text_semantics.specs.Table.{Rule}
use Rattle.text_semantics.specs.Reading.{Symbol, Of, say, step, text_s, try_s, few_s}
use Rattle.text_semantics.specs.Answer.{is_cut}
use Rattle.text_machine.specs.Entry.{Draft, KEPT, put, branching}
use Rattle.text_machine.specs.Sheet.{Sheet, Kept, kept_in, resumed, blocks_of, settled, braces}
use Rattle.text_machine.specs.Machine.{Reader, at_first}
use Rattle.text_promises.specs.Judged.{good, of_group}
use Rattle.text_promises.specs.Says.{Fits}
use Rattle.text_promises.specs.Fitting.{records_fit}
use Rattle.text_promises.specs.Plain.{two, behind, few_plain, locals_plain}
use Rattle.text_agrees.specs.Flow.{flow}
use Rattle.text_agrees.specs.Events.{piled_from, Fewer}
use Rattle.text_agrees.specs.Accounts.{settled-account, braces_grew, braces_levels, level, grew_blocks, still_counting}
use Rattle.text_agrees.specs.Laying.{Short, From, more_long, more_draft}
use Rattle.text_agrees.specs.Closing.{closers}
use Rattle.text_agrees.specs.Actions.{goes_on, symbol, kind_branching}
use Rattle.text_agrees.specs.Expressions.{kind_put}
use Rattle.text_agrees.specs.Declared.{reader, first_at, bodied_in, behind_locals}
use Rattle.text_agrees.specs.Lines.{body_span, in_body}
use Rattle.text_agrees.specs.Growing as N
use Rattle.text_agrees.specs.Growing.{New, Fresh, Put, lines, lines_last, lines_plain, ending, ahead, ahead_plain, before}
use Rattle.text_agrees.specs.Growing.{within_spelled}
use Rattle.text_agrees.specs.Grown.{known_in, opened_in, opened_last, blocks_last, grown_local, in_scope, Try, tried, opened_at}
use Rattle.text_agrees.specs.Grown.{Change, comes, goes_on as goes_further, Changed, last_try, changed_within}
use Rattle.text_answers.specs.Cutting.{Joined}
use Rattle.text_answers.specs.Drawn.{Drawn, action_tested}
use Rattle.text_answers.specs.Acted.{ender, Leads, cut_off, cut_on, branch_off, act_leads, branch_leads}
use Rattle.text_answers.specs.Halted.{halts, Arrives, is_local}
use Rattle.text_answers.specs.Lined.{cut_plain, branch_plain, line_tokens}
use Rattle.text_answers.specs.Begun.{body_ready}
use Rattle.text_answers.specs.Founds.{found_action}
use Rattle.text_answers.specs.Decided.{Decided, looked, unlooked, r, d, at, sheet, to_line, Lined, lined}
use Rattle.text_answers.specs.Bodied.{left_of, body_opens, locals_open}
use Rattle.text_answers.specs.Sunk.{Sunk, goes_line, sink}

-- WHAT A FRESH ACTION WRITES, and how many blocks it opens.
fresh_acts : (ks : List Known) {a : Act G.action} {j : ℕ} → Fresh a j → (k at : ℕ) → (m : Action)
    × (direct ks a k at ≡ owned (R.ACTION m) at)
unfolding direct
fresh_acts ks (N.hold e) k at = (_, refl)
fresh_acts ks (N.priority e) k at = (_, refl)
fresh_acts ks (N.trace e) k at = (_, refl)
fresh_acts ks (N.set x e) k at = (_, refl)
fresh_acts ks (N.put_r x n) k at = (_, refl)
fresh_acts ks (N.put_b x n) k at = (_, refl)
fresh_acts ks (N.put_s x n) k at = (_, refl)
fresh_acts ks (N.become x) k at = (_, refl)
fresh_acts ks (N.req c) k at = (_, refl)
fresh_acts ks (N.start x n g) k at = (_, refl)
fresh_acts ks N.close k at = (_, refl)
fresh_acts ks (N.repeat n) k at = (_, refl)
fresh_acts ks (N.try c) k at = (_, refl)
fresh_acts ks (N.while c) k at = (_, refl)

data Opens : ℕ → Type 0 where
  none_open : Opens 0
  one_open : Opens 1

fresh_opens : {a : Act G.action} {j : ℕ} → Fresh a j → Opens j
fresh_opens (N.hold e) = none_open
fresh_opens (N.priority e) = none_open
fresh_opens (N.trace e) = none_open
fresh_opens (N.set x e) = none_open
fresh_opens (N.put_r x n) = none_open
fresh_opens (N.put_b x n) = none_open
fresh_opens (N.put_s x n) = none_open
fresh_opens (N.become x) = none_open
fresh_opens (N.req c) = none_open
fresh_opens (N.start x n g) = none_open
fresh_opens N.close = none_open
fresh_opens (N.repeat n) = one_open
fresh_opens (N.try c) = one_open
fresh_opens (N.while c) = one_open

opened_one : {j : ℕ} → Opens j → (at : ℕ) →
    (opened_at j at ≡ []) ⊎ ((b : Owned) × (opened_at j at ≡ b ∷ []) × (b.entry ≡ R.BLOCK))
opened_one none_open at = inl refl
opened_one one_open at = inr (owned R.BLOCK at, refl, refl)

opened_line : {j : ℕ} → Opens j → (at : ℕ) (b : Owned) → opened_at j at ≡ b ∷ [] → at ≡ b.owner
opened_line none_open at b e = let w : ◌≡◌ {A = ℕ} 0 1 = cc in absurd (omega arith)
opened_line one_open at b e = let f : owned R.BLOCK at ≡ b = cc in ap (λ (o : Owned). o.owner) f

-- Braces behind braces.
more_closers : (j n : ℕ) → (m : ℕ) × (N.braces j (closers n) ≡ closers m)
unfolding closers
more_closers zero n = (n, refl)
more_closers (suc j) n = more_closers j (suc n)

-- WHAT CHANGES by each.
abbrev Changes : List Known → New → Try → ℕ → ℕ → List Owned → List Owned → List Owned → Type 0
Changes ks (N.act {a = a} {j = j} f) w k at ps qs more =
    (ps ≡ []) × (qs ≡ direct ks a k at ∷ []) × (more ≡ opened_at j at)
Changes ks (N.branch c) w k at ps qs more =
    (ps ≡ tried w.0 w.1 ∷ []) × (qs ≡ tried (w.0 ++ (branch k (claim_of ks c) ∷ [])) w.1 ∷ [])
    × (more ≡ owned R.BLOCK w.1 ∷ [])

changes : (ks : List Known) {w : Try} {x : New} {k at : ℕ} {ps qs more : List Owned} → Change ks w x k at ps qs more →
    Changes ks x w k at ps qs more
changes ks (comes f) = (refl, refl, refl)
changes ks (goes_further c bs o) = (refl, refl, refl)

-- THE DRAFT OF A TRY that goes on, from what was kept of it.
module _ (place : ℕ → ℕ) (z : Sheet) (cl : M.Claim) (y : Kept) (bs : List Branch) (own : ℕ) (kept : kept_in z.levels ≡ some y)
    (body : y.body ≡ action_body (M.TRY bs)) (line : y.line ≡ place own) where
  abbrev longer : List Branch
  longer = bs ++ (branch (blocks_of z) cl ∷ [])

  over_is : (goes_on z cl).over ≡ ltb KEPT (length (action_body (M.TRY longer)))
  unfolding put
  over_is =
      let more : List ℕ = branch_bytes (branch (blocks_of z) cl) in
      let n : length y.body + length more ≡ length (action_body (M.TRY longer)) =
      omega (arith, ap length body, more_long bs (branch (blocks_of z) cl)) in
      ap (λ o. (put (branching (resumed o)) more).over) kept ∙ ap (λ i. ltb KEPT i) n

  pub retried : Drawn place (goes_on z cl) (owned (R.ACTION (M.TRY longer)) own)
  unfolding body_of
  retried =
      record {
        line = goes_line place [] z cl y kept ∙ line;
        kind = kind_put _ _ ∙ kind_branching place at_first (kept_in z.levels);
        over = over_is;
        body = λ f. more_draft bs (branch (blocks_of z) cl) z y kept body refl (ltb-false KEPT _ (sym over_is ∙ f));
      }

-- IN THE BODY of a class c, behind the declarations ds.
module _ (place : ℕ → ℕ) (ts : List Token) (t : Token) (h : is_cut t ≡ true) (s : Symbol) (ss : List Symbol)
    (p : piled_from ts (text_s ∷ []) ≡ s ∷ ss) (x : Rule Of say s t) (e : step s t ≡ some x) (ds : Text)
    (calm : trouble_in [] (events ds) ≡ none) (room : Fewer [] (events ds)) (short : AllOf Short (blocks [] 0 0 ds))
    (c : Name) where
  abbrev here : ℕ
  here = at place ts t h s ss p x e ds calm room short

  abbrev start : Sheet
  start = sheet place ts t h s ss p x e ds calm room short

  abbrev bodied : Sheet
  bodied = bodied_in (known_in ds) c (place here) (first_at (place here) start)

  body_from : From (braces bodied) (opened_in ds) none [] (suc (opened_in ds))
  body_from =
      let a = body_ready place ds calm room short c in
      let g = braces_grew place bodied a.counting in
      record {
        counting = still_counting place a.counting g;
        levels = braces_levels bodied ∙ ap₂ (λ n ls. level n none ∷ ls) a.blocks a.levels;
        blocks = omega (arith, grew_blocks place g, a.blocks);
        below = omega arith;
      }

  -- LOCALS change nothing.
  module _ (z : Name) (zs : Few No.more_locals) (m : ℕ)
      (sp : spell_text (ending ds c (G.locals z zs) G.no_actions) [] ≡ (ts ++ (t ∷ [])) ++ closers m) where
    abbrev declaring : List Token → List Token
    declaring us = lines ds (mark Tk.CLASS ∷ name c ∷ mark Tk.LB ∷ mark Tk.LOCAL ∷ name z ∷ spell_few zs us)

    local_tokens : (us : List Token) → ts ++ us ≡ declaring us
    unfolding closers
    local_tokens =
        let head : List Token = mark Tk.CLASS ∷ name c ∷ mark Tk.LB ∷ mark Tk.LOCAL ∷ name z ∷ [] in
        (line_tokens declaring (two (lines ds) (λ us. head ++ spell_few zs us) (lines_plain ds)
        (behind head (spell_few zs) (few_plain zs))) 0 1 ts t m h (sym (lines_last ds _) ∙ sp)).1

    abbrev Bare : Reader → Type 0
    Bare q = q.sheet ≡ braces bodied

    to_locals : Arrives place ts s ss p (few_s (left_of zs)) Bare
    to_locals us =
        let a = to_line place ts t h s ss p x e ds calm room short us
        (mark Tk.CLASS ∷ name c ∷ mark Tk.LB ∷ mark Tk.LOCAL ∷ name z ∷ spell_few zs us) (local_tokens us) in
        (_, _, _, refl, a.3 ∙ locals_open place c (known_in ds) a.0 a.1 a.2 start here z zs us)

    pub local_decided : Decided place ts t h s ss p x e (records (ending ds c G.no_locals G.no_actions))
        (records (ending ds c (G.locals z zs) G.no_actions))
    local_decided =
        let n = is_local place ts s ss p (few_s (left_of zs)) Bare to_locals (braces bodied) (λ q w. w)
        body_from.counting.wide
        (left_of zs) refl (halts s x h e) in
        unlooked n.0 n.1 (grown_local ds c z zs)

  -- AN ACTION OR A BRANCH, which is put into the body.
  module _ (l : Locals) {w : New} {n : ℕ} {a b : Act G.actions} (put_in : Put G.actions w n a b)
      (fewer : Fewer (known_in ds) (in_declaration (G.class c (G.body l b))))
      (long : AllOf Short (records (ending ds c l a))) where
    abbrev scope : List Known
    scope = in_scope ds c l

    abbrev old : Text
    old = ending ds c l a

    abbrev new : Text
    new = ending ds c l b

    abbrev inner : ℕ
    inner = here + to_body l

    abbrev which : Try
    which = last_try scope put_in here (suc (opened_in ds)) inner []

    body_shorts : AllOf Short (direct scope a (suc (opened_in ds)) inner)
        × AllOf Short (inside scope a here (suc (opened_in ds)) inner)
    unfolding records blocks
    body_shorts =
        let all = (all_split Short (declarations [] 0 0 old) (blocks [] 0 0 old) long).1 in
        let k : ℕ = 0 + opened_in ds in
        let q : ℕ = 0 + here in
        let bs : List Owned =
        owned R.BLOCK q ∷ direct scope a (suc k) (q + to_body l) ++ inside scope a q (suc k) (q + to_body l) in
        let i = (all_split Short (blocks [] 0 0 ds) bs
        (subst (λ os. AllOf Short os) (blocks_last [] 0 0 ds (G.class c (G.body l a))) all)).1 in
        let j = all_split Short (owned R.BLOCK q ∷ direct scope a (suc k) (q + to_body l))
        (inside scope a q (suc k) (q + to_body l)) i in
        subst (λ i. AllOf Short (direct scope a (suc i) inner) × AllOf Short (inside scope a here (suc i) inner))
        (let z : k ≡ opened_in ds = omega arith in z)
        (subst (λ i. AllOf Short (direct scope a (suc k) (i + to_body l))
        × AllOf Short (inside scope a i (suc k) (i + to_body l)))
        (let z : q ≡ here = omega arith in z) (j.0.1, j.1))

    sunk : Sunk place scope w which (before put_in) inner (symbol (behind_locals l) ∷ text_s ∷ []) (braces bodied)
        (suc (opened_in ds) + opened a)
    sunk =
        sink place scope put_in here (suc (opened_in ds)) inner [] (behind_locals l) (text_s ∷ []) (braces bodied)
        (opened_in ds) none []
        body_from body_shorts

    abbrev to : ℕ
    to = inner + length (before put_in [])

    to_is : to ≡ length (ahead ds c l put_in [])
    to_is =
        let q = lines_plain ds (mark Tk.CLASS ∷ name c ∷ mark Tk.LB ∷ spell_locals l (before put_in [])) in
        let r = locals_plain l (before put_in []) in
        omega (
          arith,
          ap length q,
          length-append (lines ds []) (mark Tk.CLASS ∷ name c ∷ mark Tk.LB ∷ spell_locals l (before put_in [])),
          ap length r,
          length-append (spell_locals l []) (before put_in []),
        )

    open_blocks : blocks_of sunk.sheet ≡ opened_in old
    open_blocks = omega (arith, sunk.from.blocks, opened_last ds (G.class c (G.body l a)))

    -- Up to where it is put.
    arriving : (us vs : List Token) → ts ++ us ≡ ahead ds c l put_in vs → (q : ℕ) × (f : Draft)
        × (flow place 0 (ts ++ us) (text_s ∷ []) at_first
        ≡ flow place to vs (symbol sunk.block ∷ sunk.under) (reader scope c q f sunk.sheet))
    arriving us vs g =
        let one = to_line place ts t h s ss p x e ds calm room short us
        (mark Tk.CLASS ∷ name c ∷ mark Tk.LB ∷ spell_locals l (before put_in vs)) g in
        let two' = body_opens place c (known_in ds) one.0 one.1 one.2 start here l (before put_in vs) in
        let three = sunk.goes c (place (suc here)) two'.0 vs in (
          place (suc here),
          three.0,
          one.3 ∙ two'.1
              ∙ ap₂ (λ i ks. flow place i (before put_in vs) (symbol (behind_locals l) ∷ text_s ∷ [])
              (reader ks c (place (suc here)) two'.0 (braces bodied))) (body_span l here) (in_body (known_in ds) c l b fewer)
              ∙ three.1,
        )

    abbrev change : Changed scope which w (opened_in old) (length (ahead ds c l put_in [])) (records old) (records new)
    change = changed_within ds c l put_in

    fits_new : (o : Owned) (first rest : List Owned) → records new ≡ first ++ (o ∷ rest) → Fits o.entry
    fits_new o first rest q =
        (all_split (λ v. Fits v.entry) first (o ∷ rest)
        (subst (λ os. AllOf (λ v. Fits v.entry) os) q (records_fit new))).1.0

  -- AN ACTION.
  module _ (l : Locals) {g : Act G.action} {j n : ℕ} (f : Fresh g j) {a b : Act G.actions}
      (put_in : Put G.actions (N.act f) n a b)
      (fewer : Fewer (known_in ds) (in_declaration (G.class c (G.body l b)))) (long : AllOf Short (records (ending ds c l a)))
      (m : ℕ)
      (sp : spell_text (ending ds c l b) [] ≡ (ts ++ (t ∷ [])) ++ closers m)
      (roomy : (i : ℕ) → of_group i (records (ending ds c l a)) ≤ get_or limits i 0) where
    abbrev place_of : ℕ
    place_of = length (ahead ds c l put_in [])

    abbrev it : Owned
    it = direct (in_scope ds c l) g (opened_in (ending ds c l a)) place_of

    act_tokens : (ender j ≡ t) × ((us : List Token) → ts ++ us ≡ ahead ds c l put_in (cut_off f us))
    act_tokens =
        let k = more_closers j (suc n) in
        line_tokens (λ us. ahead ds c l put_in (cut_off f us))
        (two (ahead ds c l put_in) (cut_off f) (ahead_plain ds c l put_in) (cut_plain f)) j k.0 ts t m h
        (ap (λ us. ahead ds c l put_in (cut_off f (ender j ∷ us))) (sym k.1)
        ∙ ap (λ us. ahead ds c l put_in us) (sym (cut_on f (closers (suc n)))) ∙ sym (within_spelled ds c l put_in).1 ∙ sp)

    abbrev down : Sunk place (in_scope ds c l) (N.act f) (which l put_in fewer long) (before put_in) (here + to_body l)
        (symbol (behind_locals l) ∷ text_s ∷ []) (braces bodied) (suc (opened_in ds) + opened a)
    down = sunk l put_in fewer long

    abbrev made : Owned
    made = direct (in_scope ds c l) g (blocks_of down.sheet) (to l put_in fewer long)

    act_lead : Leads place (cut_off f) (to l put_in fewer long) (symbol down.block ∷ down.under) (in_scope ds c l)
        down.sheet j
        (settled down.sheet) made
    act_lead = act_leads place (in_scope ds c l) down.sheet down.block (to l put_in fewer long) down.under f

    act_lined : Lined place ts t h s ss p x e (settled down.sheet) made
    act_lined =
        let z : Sheet = settled down.sheet in
        lined place ts t h s ss p x e j act_lead.top z made act_lead.ends act_tokens.0
        (ap (λ (v : Sheet). length v.seen) (settled-account down.sheet) ∙ down.from.counting.wide) (λ us.
        let q = arriving l put_in fewer long us (cut_off f us) (act_tokens.1 us) in (
          reader act_lead.known c q.0 (act_lead.draft c q.0) z,
          act_lead.to,
          act_lead.under,
          (refl, λ i. act_lead.drawn c q.0 i),
          q.2 ∙ act_lead.goes c q.0 q.1 us,
        ))

    act_joined : Joined (records (ending ds c l a)) (records (ending ds c l b))
    act_joined =
        let ch = change l put_in fewer long in
        let k = changes (in_scope ds c l) ch.law in
        record {
          first = ch.first;
          ps = ch.ps;
          o = it;
          rest = ch.rest;
          more = ch.more;
          was = ch.was;
          is = ch.is ∙ ap (λ qs. ch.first ++ (qs ++ (ch.rest ++ ch.more))) k.1;
          before = inl k.0;
          opened = subst (λ os. (os ≡ []) ⊎ ((v : Owned) × (os ≡ v ∷ []) × (v.entry ≡ R.BLOCK))) (sym k.2)
              (opened_one (fresh_opens f) place_of);
        }

    pub act_decided : Decided place ts t h s ss p x e (records (ending ds c l a)) (records (ending ds c l b))
    unfolding act_joined
    act_decided =
        let y = act_lined in
        let w = fresh_acts (in_scope ds c l) f (opened_in (ending ds c l a)) place_of in
        let ch = change l put_in fewer long in
        let k = changes (in_scope ds c l) ch.law in
        let same : made ≡ it =
        ap₂ (λ i q. direct (in_scope ds c l) g i q) (open_blocks l put_in fewer long) (to_is l put_in fewer long) in
        let drawn : Drawn place (d place ts t h s ss p x e) (owned (R.ACTION w.0) place_of) =
        subst (λ o. Drawn place (d place ts t h s ss p x e) o) (same ∙ w.1) y.drawn in
        let fits : Fits (R.ACTION w.0) =
        subst (λ (o : Owned). Fits o.entry) w.1 (fits_new l put_in fewer long it ch.first (ch.rest ++ ch.more)
        act_joined.is) in
        looked y.not_local act_joined
        (found_action act_joined place (d place ts t h s ss p x e) roomy
        (λ v q. drawn.line ∙ ap place (opened_line (fresh_opens f) place_of v (sym k.2 ∙ q))) _
        (y.fault ∙ action_tested drawn fits (settled down.sheet) ∙ ap (λ (o : Owned). not (good o.entry)) (sym w.1))
        (ap (λ (o : Owned). group_of o.entry) w.1) (drawn.line ∙ ap (λ (o : Owned). place o.owner) (sym w.1)))

  -- ONE MORE BRANCH.
  module _ (l : Locals) (cl : Claim) {n : ℕ} {a b : Act G.actions} (put_in : Put G.actions (N.branch cl) n a b)
      (fewer : Fewer (known_in ds) (in_declaration (G.class c (G.body l b)))) (long : AllOf Short (records (ending ds c l a)))
      (m : ℕ)
      (sp : spell_text (ending ds c l b) [] ≡ (ts ++ (t ∷ [])) ++ closers m)
      (roomy : (i : ℕ) → of_group i (records (ending ds c l a)) ≤ get_or limits i 0) where
    abbrev its : Try
    its = which l put_in fewer long

    abbrev added : ℕ → List Branch
    added k = its.0 ++ (branch k (claim_of (in_scope ds c l) cl) ∷ [])

    abbrev again : Owned
    again = tried (added (opened_in (ending ds c l a))) its.1

    branch_tokens : (ender 1 ≡ t) × ((us : List Token) → ts ++ us ≡ ahead ds c l put_in (branch_off cl us))
    unfolding closers
    branch_tokens =
        line_tokens (λ us. ahead ds c l put_in (branch_off cl us))
        (two (ahead ds c l put_in) (branch_off cl) (ahead_plain ds c l put_in) (branch_plain cl)) 1 (suc (suc n)) ts t m h
        (sym (within_spelled ds c l put_in).1 ∙ sp)

    abbrev below : Sunk place (in_scope ds c l) (N.branch cl) its (before put_in) (here + to_body l)
        (symbol (behind_locals l) ∷ text_s ∷ []) (braces bodied) (suc (opened_in ds) + opened a)
    below = sunk l put_in fewer long

    branch_drawn : Drawn place (goes_on below.sheet (claim_of (in_scope ds c l) cl)) again
    branch_drawn =
        let k = below.keeps in
        subst (λ i. Drawn place (goes_on below.sheet (claim_of (in_scope ds c l) cl)) (tried (added i) its.1))
        (open_blocks l put_in fewer long)
        (retried place below.sheet (claim_of (in_scope ds c l) cl) k.1 its.0 its.1
        (ap kept_in below.from.levels ∙ k.2) k.3 k.4)

    branch_lead : Leads place (branch_off cl) (to l put_in fewer long) (try_s ∷ below.under) (in_scope ds c l) below.sheet 1
        below.sheet again
    branch_lead =
        branch_leads place (in_scope ds c l) below.sheet (to l put_in fewer long) below.under cl again refl branch_drawn

    branch_lined : Lined place ts t h s ss p x e below.sheet again
    branch_lined =
        lined place ts t h s ss p x e 1 branch_lead.top below.sheet again branch_lead.ends branch_tokens.0
        below.from.counting.wide (λ us.
        let q = arriving l put_in fewer long us (branch_off cl us) (branch_tokens.1 us) in (
          reader branch_lead.known c q.0 (branch_lead.draft c q.0) below.sheet,
          branch_lead.to,
          branch_lead.under,
          (refl, λ i. branch_lead.drawn c q.0 i),
          q.2
              ∙ ap (λ v. flow place (to l put_in fewer long) (branch_off cl us) (symbol v ∷ below.under)
              (reader (in_scope ds c l) c q.0 q.1 below.sheet)) below.keeps.0
              ∙ branch_lead.goes c q.0 q.1 us,
        ))

    branch_joined : Joined (records (ending ds c l a)) (records (ending ds c l b))
    branch_joined =
        let ch = change l put_in fewer long in
        let k = changes (in_scope ds c l) ch.law in
        record {
          first = ch.first;
          ps = ch.ps;
          o = again;
          rest = ch.rest;
          more = ch.more;
          was = ch.was;
          is = ch.is ∙ ap (λ qs. ch.first ++ (qs ++ (ch.rest ++ ch.more))) k.1;
          before = inr (tried its.0 its.1, k.0, refl);
          opened = inr (owned R.BLOCK its.1, k.2, refl);
        }

    pub branch_decided : Decided place ts t h s ss p x e (records (ending ds c l a)) (records (ending ds c l b))
    unfolding branch_joined
    branch_decided =
        let y = branch_lined in
        let ch = change l put_in fewer long in
        let k = changes (in_scope ds c l) ch.law in
        let fits : Fits again.entry =
        fits_new l put_in fewer long again ch.first (ch.rest ++ ch.more) branch_joined.is in
        looked y.not_local branch_joined
        (found_action branch_joined place (d place ts t h s ss p x e) roomy
        (λ v q. y.drawn.line ∙ ap place (opened_line one_open its.1 v (sym k.2 ∙ q))) _
        (y.fault ∙ action_tested y.drawn fits below.sheet) refl y.drawn.line)
