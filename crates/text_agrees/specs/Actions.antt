-- What the actions of a text make of the machine's sheet: the record of each, put where it stands; blocks opened and closed.
-- Assumes nothing.
use Prim.Native.Nat.{ℕ, zero, suc, ◌+◌, ◌≤◌}
use Rattle.std.proofs.Common.{arith, sym, ◌∙◌, length-set}
use Rattle.std.specs.Prelude.{◌≡◌, Bool, ltb, length, if◌then◌else◌}
use Rattle.std.proofs.Math.Path.{refl, ap}
use mathlib.Core.List.{List, [], ◌∷◌, ◌++◌, append-nil}
use Rattle.std.proofs.Math.Bool.{true, false}
use Rattle.std.proofs.Math.Option.{Option, none, some}
use Rattle.std.proofs.Math.Dec.{eqb}
use borrow.Author.Tests.{ne_eqb, eq-eqb}
use Rattle.semantics.specs.Kinds as K
use Rattle.semantics.specs.Model as M
use Rattle.semantics.specs.Model.{Action}
use Rattle.text_semantics.specs.Numbers as No
use Rattle.text_semantics.specs.Token as Tk
use Rattle.text_semantics.specs.Token.{Token, number, mark}
use Rattle.text_semantics.specs.Grammar as G
use Rattle.text_semantics.specs.Grammar.{Name, Kind, Act, digits, to_brace, spell, spell_act, spell_claim, spell_gives}
use Rattle.text_semantics.specs.Names.{Known, knows, leaves}
use Rattle.text_semantics.specs.Meaning.{kind_of, number_of, means, store_in, claim_of, shares_of, branch}
use Rattle.text_semantics.specs.Written.{two, four, counted, claim_bytes, share_bytes, nodes_of, action_body}
use Rattle.text_semantics.specs.Reading.{Symbol, claim_s, gives_s, actions_s, try_s, lines_s, sign, upto, whole_s, round, semi}
use Rattle.text_machine.specs.Entry.{Draft, begin, put, branching, asking, opens, is_expression}
use Rattle.text_machine.specs.Sheet as S
use Rattle.text_machine.specs.Sheet.{Sheet, blocks_of, kept_in, resumed, settled, closed, acts, tries, braces}
use Rattle.text_machine.specs.Machine.{Reader}
use Rattle.text_agrees.specs.Flow.{flow}
use Rattle.text_agrees.specs.Drafts.{Whole, put-put, whole_put}
use Rattle.text_agrees.specs.Sheets.{deepness, acts_deep, settled_deep, tries_deep, braces_deep, closed_deep}
use Rattle.text_agrees.specs.Expressions as E
use Rattle.text_agrees.specs.Expressions.{redrafted, past, Ready, kind_put}
use Rattle.text_agrees.specs.Claims as C
use Rattle.text_agrees.specs.Claims.{shaped, past_claim, Claiming}
use Rattle.text_agrees.specs.Starts.{past_gives, gives_go}

-- How many tokens stand before what follows.
abbrev pub past_act : {k : Kind} → Act k → ℕ → ℕ
past_act (G.hold e) at = suc (suc (past e (suc (suc at))))
past_act (G.priority e) at = suc (suc (past e (suc (suc at))))
past_act (G.trace e) at = suc (suc (past e (suc (suc at))))
past_act (G.set x e) at = suc (past e (suc (suc at)))
past_act (G.repeat n b) at = suc (past_act b (suc (suc (suc at))))
past_act (G.put_r x n) at = suc (suc (suc (suc (suc (suc (suc at))))))
past_act (G.put_b x n) at = suc (suc (suc (suc (suc (suc (suc at))))))
past_act (G.put_s x n) at = suc (suc (suc (suc (suc (suc (suc at))))))
past_act (G.become x) at = suc (suc (suc (suc (suc at))))
past_act (G.req c) at = suc (past_claim c (suc (suc at)))
past_act (G.try c b bs) at = past_act bs (suc (past_act b (suc (suc (past_claim c (suc (suc at)))))))
past_act (G.while c b) at = suc (past_act b (suc (past_claim c (suc (suc at)))))
past_act (G.start x n g) at = suc (suc (past_gives g (suc (suc (suc (suc (suc at)))))))
past_act G.close at = suc (suc at)
past_act G.no_branches at = at
past_act (G.etry c b bs) at = past_act bs (suc (past_act b (suc (suc (past_claim c (suc (suc at)))))))
past_act G.no_actions at = at
past_act (G.follow a b) at = past_act b (past_act a at)

-- The draft of an action that begins at p.
abbrev pub wrote : ℕ → Action → Draft
wrote p a = put (begin p (M.kind_of a) 0) (action_body a)

-- The draft of a try with a branch more.
abbrev pub goes_on : Sheet → M.Claim → Draft
goes_on s c = put (branching (resumed (kept_in s.levels))) (two (blocks_of s) ++ claim_bytes c)

module _ (place : ℕ → ℕ) (ks : List Known) where
  unfoldable pub sheeted : {k : Kind} → Act k → ℕ → Sheet → Sheet
  sheeted (G.hold e) at s = acts (wrote (place at) (M.HOLD (means ks e))) (settled s)
  sheeted (G.priority e) at s = acts (wrote (place at) (M.PRIO (means ks e))) (settled s)
  sheeted (G.trace e) at s = acts (wrote (place at) (M.TRACE (means ks e))) (settled s)
  sheeted (G.set x e) at s = acts (wrote (place at) (store_in ks x (means ks e))) (settled s)
  sheeted (G.repeat n b) at s =
      closed (sheeted b (suc (suc (suc at))) (braces
      (acts (wrote (place at) (M.DO n.value (blocks_of (settled s)))) (settled s))))
  sheeted (G.put_r x n) at s = acts (wrote (place at) (M.PUTR (number_of ks x) n.value)) (settled s)
  sheeted (G.put_b x n) at s = acts (wrote (place at) (M.PUTB (number_of ks x) n.value)) (settled s)
  sheeted (G.put_s x n) at s = acts (wrote (place at) (M.PUTS (number_of ks x) n.value)) (settled s)
  sheeted (G.become x) at s = acts (wrote (place at) (M.BECOME (number_of ks x))) (settled s)
  sheeted (G.req c) at s = acts (wrote (place at) (M.REQ (claim_of ks c))) (settled s)
  sheeted (G.try c b bs) at s =
      let in_brace : ℕ = suc (suc (past_claim c (suc (suc at)))) in
      let d : Draft = wrote (place at) (M.TRY (branch (blocks_of s) (claim_of ks c) ∷ [])) in
      sheeted bs (suc (past_act b in_brace)) (closed (sheeted b in_brace (braces (tries d (settled s)))))
  sheeted (G.while c b) at s =
      let in_brace : ℕ = suc (past_claim c (suc (suc at))) in
      closed (sheeted b in_brace (braces (acts (wrote (place at) (M.WHILE (blocks_of s) (claim_of ks c))) (settled s))))
  sheeted (G.start x n g) at s = acts (wrote (place at) (M.START (number_of ks x) n.value (shares_of ks g))) (settled s)
  sheeted G.close at s = acts (wrote (place at) M.CLOSE) (settled s)
  sheeted G.no_branches at s = s
  sheeted (G.etry c b bs) at s =
      let in_brace : ℕ = suc (suc (past_claim c (suc (suc at)))) in
      sheeted bs (suc (past_act b in_brace)) (closed (sheeted b in_brace (braces (tries (goes_on s (claim_of ks c)) s))))
  sheeted G.no_actions at s = s
  sheeted (G.follow a b) at s = sheeted b (past_act a at) (sheeted a at s)

-- The reader with another draft and another sheet.
abbrev pub resheeted : Reader → Draft → Sheet → Reader
resheeted r d s =
    record { pile = []; known = r.known; called = r.called; called_at = r.called_at; draft = d; sheet = s }

-- What may be still to come where an action begins.
pub data Block : Type 0 where
  some_actions after_try first_lines : Block

abbrev pub symbol : Block → Symbol
symbol some_actions = actions_s
symbol after_try = try_s
symbol first_lines = lines_s

pub by_block : (P : Symbol → Type 0) (b : Block) → P actions_s → P try_s → P lines_s → P (symbol b)
by_block P some_actions x y z = x
by_block P after_try x y z = y
by_block P first_lines x y z = z

-- What comes behind an action.
abbrev pub behind_it : Act G.action → Block
behind_it (G.hold e) = some_actions
behind_it (G.priority e) = some_actions
behind_it (G.trace e) = some_actions
behind_it (G.set x e) = some_actions
behind_it (G.repeat n b) = some_actions
behind_it (G.put_r x n) = some_actions
behind_it (G.put_b x n) = some_actions
behind_it (G.put_s x n) = some_actions
behind_it (G.become x) = some_actions
behind_it (G.req c) = some_actions
behind_it (G.try c b bs) = after_try
behind_it (G.while c b) = some_actions
behind_it (G.start x n g) = some_actions
behind_it G.close = some_actions

module _ (place : ℕ → ℕ) (r : Reader) where
  abbrev made : {k : Kind} → Act k → ℕ → Sheet → Sheet
  made a at s = sheeted place r.known a at s

  -- WHAT IS READ OF AN ACTION, whatever the sheet: something is left in the draft, and the sheet is the one made.
  abbrev Acts : Act G.action → Type 0
  Acts a =
      (d : Draft) (s : Sheet) (b : Block) (at : ℕ) (ts : List Token) (us : List Symbol) → 1 ≤ length s.levels → (e : Draft)
      × (flow place at (spell_act a ts) (symbol b ∷ us) (resheeted r d s)
      ≡ flow place (past_act a at) ts (symbol (behind_it a) ∷ us) (resheeted r e (made a at s)))

  -- A record with an expression in brackets.
  ready : (p kind : ℕ) → is_expression kind ≡ true → Ready (suc No.brackets) (begin p kind 0)
  ready p kind e = record { whole = record { sized = λ z. refl }; expression = e; deep = refl }

  -- A simple action, from any block symbol.
  abbrev GoesOn : Act G.action → Draft → Sheet → ℕ → List Token → List Symbol → Action → Symbol → Type 0
  GoesOn a d s at ts us m z =
      flow place at (spell_act a ts) (z ∷ us) (resheeted r d s)
      ≡ flow place (past_act a at) ts (actions_s ∷ us) (resheeted r (wrote (place at) m) (acts (wrote (place at) m) (settled s)))

  bracketed : (kind : ℕ) → is_expression kind ≡ true → (x : G.Expression) (d : Draft) (s : Sheet) (at : ℕ) (ts : List Token)
      (us : List Symbol) →
      flow place (suc (suc at)) (spell x (mark Tk.RP ∷ mark Tk.SEMI ∷ ts))
      (whole_s No.brackets round (sign Tk.SEMI ∷ actions_s ∷ us))
      (resheeted r (opens (begin (place at) kind 0)) (settled s))
      ≡ flow place (suc (past x (suc (suc at)))) (mark Tk.SEMI ∷ ts) (sign Tk.SEMI ∷ actions_s ∷ us)
      (resheeted r (put (begin (place at) kind 0) (nodes_of (means r.known x))) (settled s))
  bracketed kind e x d s at ts us =
      let q : Reader = resheeted r d (settled s) in
      E.bracket_goes place q x (E.does place q x) (begin (place at) kind 0) (ready (place at) kind e) (suc (suc at))
      (mark Tk.SEMI ∷ ts) (sign Tk.SEMI ∷ actions_s ∷ us)

  hold_goes : (x : G.Expression) → Acts (G.hold x)
  unfolding flow action_body sheeted
  hold_goes x d s b at ts us l =
      let go = bracketed K.HOLD refl x d s at ts us in
      let m : Action = M.HOLD (means r.known x) in
      (wrote (place at) m, by_block (GoesOn (G.hold x) d s at ts us m) b go go go)

  priority_goes : (x : G.Expression) → Acts (G.priority x)
  unfolding flow action_body sheeted
  priority_goes x d s b at ts us l =
      let go = bracketed K.PRIO refl x d s at ts us in
      let m : Action = M.PRIO (means r.known x) in
      (wrote (place at) m, by_block (GoesOn (G.priority x) d s at ts us m) b go go go)

  trace_goes : (x : G.Expression) → Acts (G.trace x)
  unfolding flow action_body sheeted
  trace_goes x d s b at ts us l =
      let go = bracketed K.TRACE refl x d s at ts us in
      let m : Action = M.TRACE (means r.known x) in
      (wrote (place at) m, by_block (GoesOn (G.trace x) d s at ts us m) b go go go)

  -- x := e, of a variable or a local.
  module _ (kind : ℕ) (expression : is_expression kind ≡ true) (action : ltb kind K.ACTION ≡ false) (p i : ℕ) (e : G.Expression)
      (q : Reader) where
    abbrev stored : Draft
    stored = put (begin p kind 0) (two i ++ nodes_of (means q.known e))

    store_goes : (at : ℕ) (ts : List Token) (us : List Symbol) →
        flow place at (mark Tk.BECOMES ∷ spell e (mark Tk.SEMI ∷ ts)) (sign Tk.BECOMES ∷ whole_s No.brackets semi (actions_s ∷ us))
        (redrafted q (put (begin p kind 0) (two i)))
        ≡ flow place (suc (past e (suc at))) ts (actions_s ∷ us) (resheeted q stored (acts stored q.sheet))
    unfolding flow
    store_goes at ts us =
        let d : Draft = put (begin p kind 0) (two i) in
        let h : Ready (suc No.brackets) d = record
        { whole = record { sized = λ z. refl }; expression = expression; deep = refl } in
        (E.does place q e d h semi).1 (suc at) (mark Tk.SEMI ∷ ts) (actions_s ∷ us)
        ∙ ap (λ (b : Bool). flow place (suc (past e (suc at))) ts (actions_s ∷ us)
        (resheeted q (put d (nodes_of (means q.known e)))
        (if b then S.declares (put d (nodes_of (means q.known e))) q.sheet else acts (put d (nodes_of (means q.known e)))
        q.sheet)))
        action
        ∙ ap (λ (y : Draft). flow place (suc (past e (suc at))) ts (actions_s ∷ us) (resheeted q y (acts y q.sheet)))
        (put-put (begin p kind 0) (two i) (nodes_of (means q.known e)))

  set_goes : (x : Name) (e : G.Expression) → Acts (G.set x e)
  unfolding flow action_body sheeted
  set_goes x e d s b at ts us l = go (eqb (kind_of r.known x) K.VAR) refl
    where
      q : Reader
      q = resheeted r d (settled s)

      from : (v : Bool) → Reader
      from v = redrafted q (put (begin (place at) (if v then K.SET else K.LSET) 0) (two (number_of r.known x)))

      begun : flow place at (spell_act (G.set x e) ts) (symbol b ∷ us) (resheeted r d s)
          ≡ flow place (suc at) (mark Tk.BECOMES ∷ spell e (mark Tk.SEMI ∷ ts))
          (sign Tk.BECOMES ∷ whole_s No.brackets semi (actions_s ∷ us))
          (from (eqb (kind_of r.known x) K.VAR))
      begun =
          by_block (λ (z : Symbol). flow place at (spell_act (G.set x e) ts) (z ∷ us) (resheeted r d s)
          ≡ flow place (suc at) (mark Tk.BECOMES ∷ spell e (mark Tk.SEMI ∷ ts))
          (sign Tk.BECOMES ∷ whole_s No.brackets semi (actions_s ∷ us))
          (from (eqb (kind_of r.known x) K.VAR))) b refl refl refl

      first : (v : Bool) → eqb (kind_of r.known x) K.VAR ≡ v →
          flow place at (spell_act (G.set x e) ts) (symbol b ∷ us) (resheeted r d s)
          ≡ flow place (suc at) (mark Tk.BECOMES ∷ spell e (mark Tk.SEMI ∷ ts))
          (sign Tk.BECOMES ∷ whole_s No.brackets semi (actions_s ∷ us))
          (from v)
      first v h =
          begun
          ∙ ap (λ (u : Bool). flow place (suc at) (mark Tk.BECOMES ∷ spell e (mark Tk.SEMI ∷ ts))
          (sign Tk.BECOMES ∷ whole_s No.brackets semi (actions_s ∷ us)) (from u)) h

      last : (f : Draft) (v : Bool) → eqb (kind_of r.known x) K.VAR ≡ v →
          flow place (suc (past e (suc (suc at)))) ts (actions_s ∷ us) (resheeted r f (acts (wrote (place at)
          (if v then M.SET (number_of r.known x) (means r.known e) else M.LSET (number_of r.known x)
          (means r.known e))) (settled s)))
          ≡ flow place (suc (past e (suc (suc at)))) ts (actions_s ∷ us) (resheeted r f (made (G.set x e) at s))
      last f v h =
          ap (λ (u : Bool). flow place (suc (past e (suc (suc at)))) ts (actions_s ∷ us) (resheeted r f (acts (wrote (place at)
          (if u then M.SET (number_of r.known x) (means r.known e) else M.LSET (number_of r.known x)
          (means r.known e))) (settled s))))
          (sym h)

      go : (v : Bool) → eqb (kind_of r.known x) K.VAR ≡ v → (f : Draft)
          × (flow place at (spell_act (G.set x e) ts) (symbol b ∷ us) (resheeted r d s)
          ≡ flow place (past_act (G.set x e) at) ts (actions_s ∷ us) (resheeted r f (made (G.set x e) at s)))
      go true h =
          let i : ℕ = number_of r.known x in (
            stored K.SET refl refl (place at) i e q,
            first true h ∙ store_goes K.SET refl refl (place at) i e q (suc at) ts us
                ∙ last (stored K.SET refl refl (place at) i e q) true h,
          )
      go false h =
          let i : ℕ = number_of r.known x in (
            stored K.LSET refl refl (place at) i e q,
            first false h ∙ store_goes K.LSET refl refl (place at) i e q (suc at) ts us
                ∙ last (stored K.LSET refl refl (place at) i e q) false h,
          )

  -- From any block symbol: something is left in the draft.
  abbrev From : Act G.action → Draft → Sheet → ℕ → List Token → List Symbol → Draft → Sheet → Symbol → Type 0
  From a d s at ts us e z y =
      flow place at (spell_act a ts) (y ∷ us) (resheeted r d s)
      ≡ flow place (past_act a at) ts (symbol (behind_it a) ∷ us) (resheeted r e z)

  plain : (kind : ℕ) → is_expression kind ≡ false → eqb kind K.START ≡ false → Claiming kind
  plain kind e f = record { no_expression = e; no_start = f }

  put_r_goes : (x : Name) (n : G.Number) → Acts (G.put_r x n)
  unfolding flow action_body sheeted
  put_r_goes x n d s b at ts us l =
      let m : Action = M.PUTR (number_of r.known x) n.value in
      let f : Draft = shaped (wrote (place at) m) (asking K.RES) 0 0 0 in
      let go = C.pair_goes place (resheeted r d (settled s)) (begin (place at) K.PUTR 0) K.RES 0 0 0 x n (plain K.PUTR refl refl)
      (suc at) (mark Tk.SEMI ∷ ts) (sign Tk.SEMI ∷ actions_s ∷ us) in
      (f, by_block (From (G.put_r x n) d s at ts us f (acts (wrote (place at) m) (settled s))) b go go go)

  put_b_goes : (x : Name) (n : G.Number) → Acts (G.put_b x n)
  unfolding flow action_body sheeted
  put_b_goes x n d s b at ts us l =
      let m : Action = M.PUTB (number_of r.known x) n.value in
      let f : Draft = shaped (wrote (place at) m) (asking K.BIN) 0 0 0 in
      let go = C.pair_goes place (resheeted r d (settled s)) (begin (place at) K.PUTB 0) K.BIN 0 0 0 x n (plain K.PUTB refl refl)
      (suc at) (mark Tk.SEMI ∷ ts) (sign Tk.SEMI ∷ actions_s ∷ us) in
      (f, by_block (From (G.put_b x n) d s at ts us f (acts (wrote (place at) m) (settled s))) b go go go)

  put_s_goes : (x : Name) (n : G.Count) → Acts (G.put_s x n)
  unfolding flow action_body sheeted
  put_s_goes x n d s b at ts us l =
      let m : Action = M.PUTS (number_of r.known x) n.value in
      let f : Draft = shaped (wrote (place at) m) (asking K.SYNC) 0 0 0 in
      let q : Reader = resheeted r d (settled s) in
      let i : ℕ = number_of r.known x in
      let g : Draft = put (begin (place at) K.PUTS 0) (two i) in
      let go =
      C.name_goes place q (begin (place at) K.PUTS 0) K.SYNC 0 0 0 x (suc (suc at))
      (mark Tk.COMMA ∷ number n.value ∷ mark Tk.RP ∷ mark Tk.SEMI ∷ ts)
      (sign Tk.COMMA ∷ upto No.top_count ∷ sign Tk.RP ∷ sign Tk.SEMI ∷ actions_s ∷ us)
      ∙ C.number_goes place q No.top_count n (shaped g (asking K.SYNC) 0 0 0) (suc (suc (suc (suc at))))
      (mark Tk.RP ∷ mark Tk.SEMI ∷ ts) (sign Tk.RP ∷ sign Tk.SEMI ∷ actions_s ∷ us)
      ∙ ap (λ (y : Draft). flow place (past_act (G.put_s x n) at) ts (actions_s ∷ us)
      (resheeted r (shaped y (asking K.SYNC) 0 0 0) (acts y (settled s))))
      (put-put (begin (place at) K.PUTS 0) (two i) (two n.value)) in
      (f, by_block (From (G.put_s x n) d s at ts us f (acts (wrote (place at) m) (settled s))) b go go go)

  become_goes : (x : Name) → Acts (G.become x)
  unfolding flow action_body sheeted
  become_goes x d s b at ts us l =
      let m : Action = M.BECOME (number_of r.known x) in
      let f : Draft = shaped (wrote (place at) m) (asking K.SYNC) 0 0 0 in
      let go = C.name_goes place (resheeted r d (settled s)) (begin (place at) K.BECOME 0) K.SYNC 0 0 0 x (suc (suc at))
      (mark Tk.RP ∷ mark Tk.SEMI ∷ ts) (sign Tk.RP ∷ sign Tk.SEMI ∷ actions_s ∷ us) in
      (f, by_block (From (G.become x) d s at ts us f (acts (wrote (place at) m) (settled s))) b go go go)

  close_goes : Acts G.close
  unfolding flow action_body sheeted
  close_goes d s b at ts us l =
      let f : Draft = begin (place at) K.CLOSE 0 in
      (f, by_block (From G.close d s at ts us f (acts (wrote (place at) M.CLOSE) (settled s))) b refl refl refl)

  req_goes : (c : G.Claim) → Acts (G.req c)
  unfolding flow action_body sheeted
  req_goes c d s b at ts us l =
      let m : Action = M.REQ (claim_of r.known c) in
      let g = C.claim_goes place (resheeted r d (settled s)) (begin (place at) K.REQ 0) (record { sized = λ z. refl })
      (plain K.REQ refl refl) c in
      let go =
      g.1 (suc at) (mark Tk.SEMI ∷ ts) (sign Tk.SEMI ∷ actions_s ∷ us)
      ∙ ap (λ (y : Draft). flow place (past_claim c (suc (suc at))) (mark Tk.SEMI ∷ ts) (sign Tk.SEMI ∷ actions_s ∷ us)
      (resheeted r y (settled s))) g.2.is in
      let f : Draft = shaped (wrote (place at) m) g.2.role g.2.count g.2.at g.2.aside in
      (f, by_block (From (G.req c) d s at ts us f (acts (wrote (place at) m) (settled s))) b go go go)

  -- A start.
  start_goes : (x : Name) (n : G.Number) (g : G.Gives) → Acts (G.start x n g)
  unfolding flow action_body sheeted
  start_goes x n g d s b at ts us l =
      let i : ℕ = number_of r.known x in
      let m : Action = M.START i n.value (shares_of r.known g) in
      let q : Reader = resheeted r d (settled s) in
      let base : Draft = begin (place at) K.START 0 in
      let f : Draft = put (shaped (put base (two i)) (asking K.CLASS) 0 0 0) (four n.value) in
      let h = gives_go place q f (record { sized = λ z. refl }) refl g in
      let k : ℕ = suc (suc (suc (suc (suc at)))) in
      let go =
      C.name_goes place q base K.CLASS 0 0 0 x (suc (suc at))
      (mark Tk.COMMA ∷ number n.value ∷ spell_gives g (mark Tk.RP ∷ mark Tk.SEMI ∷ ts))
      (sign Tk.COMMA ∷ upto No.top_number ∷ gives_s ∷ sign Tk.SEMI ∷ actions_s ∷ us)
      ∙ C.number_goes place q No.top_number n (shaped (put base (two i)) (asking K.CLASS) 0 0 0) (suc (suc (suc (suc at))))
      (spell_gives g (mark Tk.RP ∷ mark Tk.SEMI ∷ ts)) (gives_s ∷ sign Tk.SEMI ∷ actions_s ∷ us)
      ∙ h.1 k (mark Tk.SEMI ∷ ts) (sign Tk.SEMI ∷ actions_s ∷ us)
      ∙ ap (λ (y : Draft). flow place (suc (past_gives g k)) (mark Tk.SEMI ∷ ts) (sign Tk.SEMI ∷ actions_s ∷ us)
      (resheeted r y (settled s)))
      h.2.is in
      let e : Draft = shaped (put f (counted share_bytes (shares_of r.known g))) (asking K.RES) h.2.count h.2.at
      h.2.aside in
      let same = ap (λ (y : Draft). acts y (settled s))
      (put-put (put base (two i)) (four n.value) (counted share_bytes (shares_of r.known g))
      ∙ put-put base (two i) (four n.value ++ counted share_bytes (shares_of r.known g))) in
      let all = ap (λ (z : Sheet). flow place (past_act (G.start x n g) at) ts (actions_s ∷ us) (resheeted r e z)) same in (
        e,
        by_block (From (G.start x n g) d s at ts us e (acts (wrote (place at) m) (settled s))) b (go ∙ all) (go ∙ all)
            (go ∙ all),
      )

  -- The brace that closes an inner block.
  not_last : (s : Sheet) → 2 ≤ deepness s → eqb (length s.levels) 1 ≡ false
  not_last s h = ne_eqb (length s.levels) 1 (λ e. omega arith)

  brace_goes : (d : Draft) (s : Sheet) (b : Block) (at : ℕ) (ts : List Token) (us : List Symbol) → 2 ≤ deepness s → (e : Draft)
      × (flow place at (mark Tk.RB ∷ ts) (symbol b ∷ us) (resheeted r d s) ≡ flow place (suc at) ts us (resheeted r e (closed s)))
  unfolding flow
  brace_goes d s b at ts us h =
      let e : Draft = begin (place at) 0 0 in
      let go = ap (λ (x : Bool). flow place (suc at) ts us
      (record {
        pile = [];
        known = if x then knows r.known leaves else r.known;
        called = r.called;
        called_at = r.called_at;
        draft = e;
        sheet = closed s;
      })) (not_last s h) in (
        e,
        by_block (λ (z : Symbol). flow place at (mark Tk.RB ∷ ts) (z ∷ us) (resheeted r d s)
            ≡ flow place (suc at) ts us (resheeted r e (closed s))) b go go go,
      )

  -- What is made of actions leaves as many blocks open as there were.
  pub made_deep : {k : Kind} (a : Act k) (at : ℕ) (s : Sheet) → deepness (made a at s) ≡ deepness s
  unfolding sheeted
  made_deep (G.hold e) at s = acts_deep _ (settled s) ∙ settled_deep s
  made_deep (G.priority e) at s = acts_deep _ (settled s) ∙ settled_deep s
  made_deep (G.trace e) at s = acts_deep _ (settled s) ∙ settled_deep s
  made_deep (G.set x e) at s = acts_deep _ (settled s) ∙ settled_deep s
  made_deep (G.repeat n b) at s =
      let d : Draft = wrote (place at) (M.DO n.value (blocks_of (settled s))) in
      closed_deep _ (deepness s)
      (made_deep b (suc (suc (suc at))) (braces (acts d (settled s))) ∙ braces_deep (acts d (settled s))
      ∙ ap suc (acts_deep d (settled s) ∙ settled_deep s))
  made_deep (G.put_r x n) at s = acts_deep _ (settled s) ∙ settled_deep s
  made_deep (G.put_b x n) at s = acts_deep _ (settled s) ∙ settled_deep s
  made_deep (G.put_s x n) at s = acts_deep _ (settled s) ∙ settled_deep s
  made_deep (G.become x) at s = acts_deep _ (settled s) ∙ settled_deep s
  made_deep (G.req c) at s = acts_deep _ (settled s) ∙ settled_deep s
  made_deep (G.try c b bs) at s =
      let k : ℕ = suc (suc (past_claim c (suc (suc at)))) in
      let d : Draft = wrote (place at) (M.TRY (branch (blocks_of s) (claim_of r.known c) ∷ [])) in
      made_deep bs (suc (past_act b k)) _
      ∙ closed_deep (made b k (braces (tries d (settled s)))) (deepness s)
      (made_deep b k (braces (tries d (settled s))) ∙ braces_deep (tries d (settled s))
      ∙ ap suc (tries_deep d (settled s) ∙ settled_deep s))
  made_deep (G.while c b) at s =
      let k : ℕ = suc (past_claim c (suc (suc at))) in
      let d : Draft = wrote (place at) (M.WHILE (blocks_of s) (claim_of r.known c)) in
      closed_deep (made b k (braces (acts d (settled s)))) (deepness s)
      (made_deep b k (braces (acts d (settled s))) ∙ braces_deep (acts d (settled s))
      ∙ ap suc (acts_deep d (settled s) ∙ settled_deep s))
  made_deep (G.start x n g) at s = acts_deep _ (settled s) ∙ settled_deep s
  made_deep G.close at s = acts_deep _ (settled s) ∙ settled_deep s
  made_deep G.no_branches at s = refl
  made_deep (G.etry c b bs) at s =
      let k : ℕ = suc (suc (past_claim c (suc (suc at)))) in
      let d : Draft = goes_on s (claim_of r.known c) in
      made_deep bs (suc (past_act b k)) _
      ∙ closed_deep (made b k (braces (tries d s))) (deepness s)
      (made_deep b k (braces (tries d s)) ∙ braces_deep (tries d s) ∙ ap suc (tries_deep d s))
  made_deep G.no_actions at s = refl
  made_deep (G.follow a b) at s = made_deep b (past_act a at) (made a at s) ∙ made_deep a at s

  -- A block from behind its brace to the brace that closes it, where other blocks are open around it.
  abbrev Inside : Act G.actions → Type 0
  Inside b =
      (d : Draft) (s : Sheet) (at : ℕ) (ts : List Token) (us : List Symbol) → 2 ≤ deepness s → (e : Draft)
      × (flow place at (spell_act b (mark Tk.RB ∷ ts)) (actions_s ∷ us) (resheeted r d s)
      ≡ flow place (suc (past_act b at)) ts us (resheeted r e (closed (made b at s))))

  -- WHAT IS READ OF ACTIONS.
  abbrev Reads : (k : Kind) → Act k → Type 0
  Reads G.action a = Acts a
  Reads G.actions a =
      (d : Draft) (s : Sheet) (b : Block) (at : ℕ) (ts : List Token) (us : List Symbol) → 1 ≤ deepness s →
      (e : Draft) × (c : Block)
      × (flow place at (spell_act a ts) (symbol b ∷ us) (resheeted r d s)
      ≡ flow place (past_act a at) ts (symbol c ∷ us) (resheeted r e (made a at s)))
  Reads G.branches a =
      (d : Draft) (s : Sheet) (at : ℕ) (ts : List Token) (us : List Symbol) → 1 ≤ deepness s → (e : Draft)
      × (flow place at (spell_act a ts) (try_s ∷ us) (resheeted r d s)
      ≡ flow place (past_act a at) ts (try_s ∷ us) (resheeted r e (made a at s)))

  still_open : (s : Sheet) (b : Act G.actions) (at : ℕ) → 2 ≤ deepness s → 1 ≤ deepness (closed (made b at s))
  still_open s b at h = go (deepness s) refl
    where
      go : (n : ℕ) → deepness s ≡ n → 1 ≤ deepness (closed (made b at s))
      go zero e = absurd (omega arith)
      go (suc n) e = let a = closed_deep (made b at s) n (made_deep b at s ∙ e) in omega arith

  pub inside_goes : (b : Act G.actions) → Reads G.actions b → Inside b
  inside_goes b reads d s at ts us h =
      let x = reads d s some_actions at (mark Tk.RB ∷ ts) us (omega arith) in
      let m = made_deep b at s in
      let y = brace_goes x.0 (made b at s) x.1 (past_act b at) ts us (omega arith) in
      (y.0, x.2 ∙ y.1)

  -- TO ITS BRACE: a do,
  pub repeat_opens : (n : G.Count) (d : Draft) (s : Sheet) (c : Block) (at : ℕ) (ts : List Token) (us : List Symbol) →
      let m : Action = M.DO n.value (blocks_of (settled s)) in
      flow place at (mark Tk.DO ∷ digits n (mark Tk.LB ∷ ts)) (symbol c ∷ us) (resheeted r d s)
      ≡ flow place (suc (suc (suc at))) ts (actions_s ∷ actions_s ∷ us)
      (resheeted r (wrote (place at) m) (braces (acts (wrote (place at) m) (settled s))))
  unfolding flow action_body
  repeat_opens n d s c at ts us =
      let q : Reader = resheeted r d (settled s) in
      let k : ℕ = blocks_of (settled s) in
      let f : Draft = begin (place at) K.DO 0 in
      let to : Draft → Reader = λ x. flow place (suc (suc (suc at))) ts (actions_s ∷ actions_s ∷ us)
      (resheeted r x (braces (acts x (settled s)))) in
      let go =
      C.number_goes place q No.top_count n f (suc at) (mark Tk.LB ∷ ts) (sign Tk.LB ∷ actions_s ∷ actions_s ∷ us)
      ∙ ap to (put-put f (two n.value) (two k)) in
      by_block (λ (z : Symbol). flow place at (mark Tk.DO ∷ digits n (mark Tk.LB ∷ ts)) (z ∷ us) (resheeted r d s)
      ≡ to (wrote (place at) (M.DO n.value k))) c go go go

  -- a while,
  pub while_opens : (c : G.Claim) (d : Draft) (s : Sheet) (v : Block) (at : ℕ) (ts : List Token) (us : List Symbol) →
      let m : Action = M.WHILE (blocks_of s) (claim_of r.known c) in (e : Draft)
      × (flow place at (mark Tk.WHILE ∷ mark Tk.LS ∷ spell_claim c (mark Tk.LB ∷ ts)) (symbol v ∷ us) (resheeted r d s)
      ≡ flow place (suc (past_claim c (suc (suc at)))) ts (actions_s ∷ actions_s ∷ us)
      (resheeted r e (braces (acts (wrote (place at) m) (settled s)))))
  unfolding flow action_body
  while_opens c d s v at ts us =
      let k : ℕ = blocks_of s in
      let m : Action = M.WHILE k (claim_of r.known c) in
      let f : Draft = put (begin (place at) K.WHILE 0) (two k) in
      let g = C.claim_goes place (resheeted r d (settled s)) f (record { sized = λ z. refl }) (plain K.WHILE refl refl) c in
      let h = g.2 in
      let e : Draft = shaped (wrote (place at) m) h.role h.count h.at h.aside in
      let to : Reader = flow place (suc (past_claim c (suc (suc at)))) ts (actions_s ∷ actions_s ∷ us)
      (resheeted r e (braces (acts (wrote (place at) m) (settled s)))) in
      let go =
      g.1 (suc at) (mark Tk.LB ∷ ts) (sign Tk.LB ∷ actions_s ∷ actions_s ∷ us)
      ∙ ap (λ (x : Draft). flow place (past_claim c (suc (suc at))) (mark Tk.LB ∷ ts)
      (sign Tk.LB ∷ actions_s ∷ actions_s ∷ us) (resheeted r x (settled s)))
      (h.is ∙ ap (λ (x : Draft). shaped x h.role h.count h.at h.aside)
      (put-put (begin (place at) K.WHILE 0) (two k) (claim_bytes (claim_of r.known c)))) in (
        e,
        by_block (λ (z : Symbol). flow place at (mark Tk.WHILE ∷ mark Tk.LS ∷ spell_claim c (mark Tk.LB ∷ ts)) (z ∷ us)
            (resheeted r d s) ≡ to) v go go go,
      )

  repeat_goes : (n : G.Count) (b : Act G.actions) → Reads G.actions b → Acts (G.repeat n b)
  unfolding sheeted
  repeat_goes n b reads d s c at ts us l =
      let m : Action = M.DO n.value (blocks_of (settled s)) in
      let z : Sheet = braces (acts (wrote (place at) m) (settled s)) in
      let deep : deepness z ≡ suc (deepness s) = braces_deep (acts (wrote (place at) m) (settled s))
      ∙ ap suc (acts_deep (wrote (place at) m) (settled s) ∙ settled_deep s) in
      let y = inside_goes b reads (wrote (place at) m) z (suc (suc (suc at))) ts (actions_s ∷ us) (omega arith) in
      (y.0, repeat_opens n d s c at (spell_act b (mark Tk.RB ∷ ts)) us ∙ y.1)

  while_goes : (c : G.Claim) (b : Act G.actions) → Reads G.actions b → Acts (G.while c b)
  unfolding sheeted
  while_goes c b reads d s v at ts us l =
      let m : Action = M.WHILE (blocks_of s) (claim_of r.known c) in
      let z : Sheet = braces (acts (wrote (place at) m) (settled s)) in
      let deep : deepness z ≡ suc (deepness s) = braces_deep (acts (wrote (place at) m) (settled s))
      ∙ ap suc (acts_deep (wrote (place at) m) (settled s) ∙ settled_deep s) in
      let x = while_opens c d s v at (spell_act b (mark Tk.RB ∷ ts)) us in
      let y = inside_goes b reads x.0 z (suc (past_claim c (suc (suc at)))) ts (actions_s ∷ us) (omega arith) in
      (y.0, x.1 ∙ y.1)

  tries-shaped : (x : Draft) (p j a q : ℕ) (s : Sheet) → tries (shaped x p j a q) s ≡ tries x s
  unfolding tries S.counts
  tries-shaped x p j a q s =
      ap (λ (t : Sheet). S.with_levels t (S.keeping (some (record { line = x.line; body = x.body })) t.levels))
      (go (kept_in s.levels))
    where
      go : (o : Option S.Kept) → S.branches (shaped x p j a q) o s ≡ S.branches x o s
      go none = refl
      go (some y) = refl

  -- a branch: its claim behind what the draft f has.
  branch_opens : (c : G.Claim) (d f : Draft) (s : Sheet) → Whole f → f.kind ≡ K.TRY → (at : ℕ) (ts : List Token)
      (us : List Symbol) → (e : Draft)
      × (flow place at (mark Tk.LS ∷ spell_claim c (mark Tk.THEN ∷ mark Tk.LB ∷ ts))
      (sign Tk.LS ∷ claim_s ∷ sign Tk.THEN ∷ sign Tk.LB ∷ actions_s ∷ try_s ∷ us) (resheeted r f s)
      ≡ flow place (suc (suc (past_claim c (suc at)))) ts (actions_s ∷ try_s ∷ us)
      (resheeted r e (braces (tries (put f (claim_bytes (claim_of r.known c))) s))))
  unfolding flow tries S.counts
  branch_opens c d f s w k at ts us =
      let n : ℕ = past_claim c (suc at) in
      let g = C.claim_goes place (resheeted r d s) f w (rw k (plain K.TRY refl refl)) c in
      let h = g.2 in
      let x : Draft = put f (claim_bytes (claim_of r.known c)) in (
        shaped x h.role h.count h.at h.aside,
        g.1 at (mark Tk.THEN ∷ mark Tk.LB ∷ ts) (sign Tk.THEN ∷ sign Tk.LB ∷ actions_s ∷ try_s ∷ us)
            ∙ ap (λ (u : Draft). flow place n (mark Tk.THEN ∷ mark Tk.LB ∷ ts)
            (sign Tk.THEN ∷ sign Tk.LB ∷ actions_s ∷ try_s ∷ us) (resheeted r u s)) h.is
            ∙ opened x h.role h.count h.at h.aside n (kind_put f (claim_bytes (claim_of r.known c)) ∙ k),
      )
    where
      opened : (x : Draft) (p j a q n : ℕ) → x.kind ≡ K.TRY →
          flow place n (mark Tk.THEN ∷ mark Tk.LB ∷ ts)
          (sign Tk.THEN ∷ sign Tk.LB ∷ actions_s ∷ try_s ∷ us) (resheeted r (shaped x p j a q) s)
          ≡ flow place (suc (suc n)) ts (actions_s ∷ try_s ∷ us) (resheeted r (shaped x p j a q) (braces (tries x s)))
      opened x p j a q n e =
          let y : Draft = shaped x p j a q in
          let no : eqb x.kind K.DO ≡ false = ne_eqb x.kind K.DO (λ z. omega arith) in
          let yes : eqb x.kind K.TRY ≡ true = eq-eqb x.kind K.TRY e in
          let to : Draft → Sheet → Reader = λ u v. flow place (suc (suc n)) ts (actions_s ∷ try_s ∷ us) (resheeted r u v) in
          ap (λ (i : Bool). let u : Draft = if i then put y (two (blocks_of s)) else y in
          to u (braces (if eqb u.kind K.TRY then tries u s else acts u s))) no
          ∙ ap (λ (i : Bool). to y (braces (if i then tries y s else acts y s))) yes
          ∙ ap (λ (v : Sheet). to y (braces v)) (tries-shaped x p j a q s)

  -- .. with its block, and the branches behind it.
  branch_goes : (b : Act G.actions) (bs : Act G.branches) → Reads G.actions b → Reads G.branches bs →
      (d : Draft) (x : Sheet) → 2 ≤ deepness x → (at : ℕ) (ts : List Token) (us : List Symbol) → (e : Draft)
      × (flow place at (spell_act b (mark Tk.RB ∷ spell_act bs ts)) (actions_s ∷ try_s ∷ us) (resheeted r d x)
      ≡ flow place (past_act bs (suc (past_act b at))) ts (try_s ∷ us)
      (resheeted r e (made bs (suc (past_act b at)) (closed (made b at x)))))
  branch_goes b bs reads_b reads_bs d x l at ts us =
      let y = inside_goes b reads_b d x at (spell_act bs ts) (try_s ∷ us) l in
      let z : Sheet = closed (made b at x) in
      let deep : 1 ≤ deepness z = still_open x b at l in
      let v = reads_bs y.0 z (suc (past_act b at)) ts us deep in
      (v.0, y.1 ∙ v.1)

  -- The draft of a try with its first branch.
  pub try_draft : (p k : ℕ) (c : M.Claim) → put (put (begin p K.TRY 0) (two 1 ++ two k)) (claim_bytes c) ≡ wrote p
      (M.TRY (branch k c ∷ []))
  unfolding action_body
  try_draft p k c =
      put-put (begin p K.TRY 0) (two 1 ++ two k) (claim_bytes c)
      ∙ ap (λ (bs : List ℕ). put (begin p K.TRY 0) (two 1 ++ (two k ++ bs))) (sym (append-nil (claim_bytes c)))

  -- a try,
  pub try_opens : (c : G.Claim) (d : Draft) (s : Sheet) (v : Block) (at : ℕ) (ts : List Token) (us : List Symbol) →
      let m : Action = M.TRY (branch (blocks_of s) (claim_of r.known c) ∷ []) in (e : Draft)
      × (flow place at (to_brace Tk.TRY c ts) (symbol v ∷ us) (resheeted r d s)
      ≡ flow place (suc (suc (past_claim c (suc (suc at))))) ts (actions_s ∷ try_s ∷ us)
      (resheeted r e (braces (tries (wrote (place at) m) (settled s)))))
  unfolding flow
  try_opens c d s v at ts us =
      let k : ℕ = blocks_of s in
      let f : Draft = put (begin (place at) K.TRY 0) (two 1 ++ two k) in
      let y = branch_opens c d f (settled s) (record { sized = λ z. refl }) refl (suc at) ts us in
      let to : Draft → Reader = λ x. flow place (suc (suc (past_claim c (suc (suc at))))) ts (actions_s ∷ try_s ∷ us)
      (resheeted r y.0 (braces (tries x (settled s)))) in
      let go = y.1 ∙ ap to (try_draft (place at) k (claim_of r.known c)) in (
        y.0,
        by_block (λ (z : Symbol). flow place at (to_brace Tk.TRY c ts) (z ∷ us) (resheeted r d s)
            ≡ to (wrote (place at) (M.TRY (branch k (claim_of r.known c) ∷ [])))) v go go go,
      )

  try_goes : (c : G.Claim) (b : Act G.actions) (bs : Act G.branches) → Reads G.actions b → Reads G.branches bs →
      Acts (G.try c b bs)
  unfolding sheeted
  try_goes c b bs reads_b reads_bs d s v at ts us l =
      let n : ℕ = suc (suc (past_claim c (suc (suc at)))) in
      let m : Draft = wrote (place at) (M.TRY (branch (blocks_of s) (claim_of r.known c) ∷ [])) in
      let z : Sheet = braces (tries m (settled s)) in
      let deep : deepness z ≡ suc (deepness s) =
      braces_deep (tries m (settled s)) ∙ ap suc (tries_deep m (settled s) ∙ settled_deep s) in
      let x = try_opens c d s v at (spell_act b (mark Tk.RB ∷ spell_act bs ts)) us in
      let y = branch_goes b bs reads_b reads_bs x.0 z (omega arith) n ts us in
      (y.0, x.1 ∙ y.1)

  pub whole_branching : (o : Option S.Kept) → Whole (branching (resumed o))
  whole_branching none = record { sized = λ z. refl }
  whole_branching (some x) = record { sized = λ z. length-set x.body 0 _ }

  pub kind_branching : (o : Option S.Kept) → (branching (resumed o)).kind ≡ K.TRY
  kind_branching none = refl
  kind_branching (some x) = refl

  -- and one more branch of a try.
  pub etry_opens : (c : G.Claim) (d : Draft) (s : Sheet) (at : ℕ) (ts : List Token) (us : List Symbol) → (e : Draft)
      × (flow place at (to_brace Tk.ETRY c ts) (try_s ∷ us) (resheeted r d s)
      ≡ flow place (suc (suc (past_claim c (suc (suc at))))) ts (actions_s ∷ try_s ∷ us)
      (resheeted r e (braces (tries (goes_on s (claim_of r.known c)) s))))
  unfolding flow
  etry_opens c d s at ts us =
      let o : Option S.Kept = kept_in s.levels in
      let base : Draft = branching (resumed o) in
      let f : Draft = put base (two (blocks_of s)) in
      let y = branch_opens c d f s (whole_put base (two (blocks_of s)) (whole_branching o))
      (kind_put base (two (blocks_of s)) ∙ kind_branching o) (suc at) ts us in (
        y.0,
        y.1
            ∙ ap (λ (x : Draft). flow place (suc (suc (past_claim c (suc (suc at))))) ts (actions_s ∷ try_s ∷ us)
            (resheeted r y.0 (braces (tries x s))))
            (put-put base (two (blocks_of s)) (claim_bytes (claim_of r.known c))),
      )

  etry_goes : (c : G.Claim) (b : Act G.actions) (bs : Act G.branches) → Reads G.actions b → Reads G.branches bs →
      Reads G.branches (G.etry c b bs)
  unfolding sheeted
  etry_goes c b bs reads_b reads_bs d s at ts us l =
      let n : ℕ = suc (suc (past_claim c (suc (suc at)))) in
      let m : Draft = goes_on s (claim_of r.known c) in
      let z : Sheet = braces (tries m s) in
      let deep : deepness z ≡ suc (deepness s) = braces_deep (tries m s) ∙ ap suc (tries_deep m s) in
      let x = etry_opens c d s at (spell_act b (mark Tk.RB ∷ spell_act bs ts)) us in
      let y = branch_goes b bs reads_b reads_bs x.0 z (omega arith) n ts us in
      (y.0, x.1 ∙ y.1)

  -- ALL ACTIONS.
  pub acts_go : {k : Kind} (a : Act k) → Reads k a
  unfolding sheeted
  acts_go (G.hold e) = hold_goes e
  acts_go (G.priority e) = priority_goes e
  acts_go (G.trace e) = trace_goes e
  acts_go (G.set x e) = set_goes x e
  acts_go (G.repeat n b) = repeat_goes n b (acts_go b)
  acts_go (G.put_r x n) = put_r_goes x n
  acts_go (G.put_b x n) = put_b_goes x n
  acts_go (G.put_s x n) = put_s_goes x n
  acts_go (G.become x) = become_goes x
  acts_go (G.req c) = req_goes c
  acts_go (G.try c b bs) = try_goes c b bs (acts_go b) (acts_go bs)
  acts_go (G.while c b) = while_goes c b (acts_go b)
  acts_go (G.start x n g) = start_goes x n g
  acts_go G.close = close_goes
  acts_go G.no_branches = λ d s at ts us l. (d, refl)
  acts_go (G.etry c b bs) = etry_goes c b bs (acts_go b) (acts_go bs)
  acts_go G.no_actions = λ d s b at ts us l. (d, b, refl)
  acts_go (G.follow a b) = λ d s c at ts us l.
      let x = acts_go a d s c at (spell_act b ts) us l in
      let deep = made_deep a at s in
      let y = acts_go b x.0 (made a at s) (behind_it a) (past_act a at) ts us (omega arith) in
      (y.0, y.1, x.1 ∙ y.2)
