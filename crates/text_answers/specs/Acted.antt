-- An action up to its `;` or its brace: what its tokens make of the machine's reader, whose draft is then the action's record.
-- Assumes nothing.
use Prim.Native.Nat.{ℕ, zero, suc}
use Rattle.std.proofs.Common.{arith, sym, ◌∙◌}
use Rattle.std.specs.Prelude.{◌≡◌, Bool, true, length, if◌then◌else◌}
use Rattle.std.proofs.Math.Path.{refl, ap, subst}
use mathlib.Core.List.{List, [], ◌∷◌, ◌++◌}
use Rattle.std.proofs.Math.Bool.{false}
use Rattle.std.proofs.Math.Dec.{eqb}
use borrow.Author.Tests.{ne_eqb}
use Rattle.semantics.specs.Words.{collect}
use Rattle.semantics.specs.Kinds as K
use Rattle.semantics.specs.Model as M
use Rattle.semantics.specs.Model.{Action}
use Rattle.semantics.specs.Record as R
use Rattle.text_semantics.specs.Numbers as No
use Rattle.text_semantics.specs.Token as Tk
use Rattle.text_semantics.specs.Token.{Token, name, number, mark}
use Rattle.text_semantics.specs.Grammar as G
use Rattle.text_semantics.specs.Grammar.{Name, Act, Claim, digits, pair, spell, spell_act, spell_claim, spell_gives}
use Rattle.text_semantics.specs.Names.{Known}
use Rattle.text_semantics.specs.Meaning.{Owned, owned, direct, number_of, means, claim_of, shares_of, store_in, branch}
use Rattle.text_semantics.specs.Meaning as S
use Rattle.text_semantics.specs.Written.{two, four, counted, item_bytes, claim_bytes, share_bytes, nodes_of, action_body, kind_of}
use Rattle.text_semantics.specs.Reading.{Symbol, actions_s, try_s, claim_s, gives_s, more, semi, round, sign, upto, whole_s}
use Rattle.text_machine.specs.Entry.{Draft, begin, put, asking, is_expression, with_starts, with_role, put_count, branching, at_sign}
use Rattle.text_machine.specs.Entry.{opens}
use Rattle.text_machine.specs.Sheet.{Sheet, blocks_of, settled, kept_in, resumed}
use Rattle.text_machine.specs.Machine.{Reader, at_first, draft_after}
use Rattle.text_agrees.specs.Flow.{flow}
use Rattle.text_agrees.specs.Drafts.{Whole, put-put, whole_put}
use Rattle.text_agrees.specs.Accounts.{settled-account}
use Rattle.text_agrees.specs.Expressions as E
use Rattle.text_agrees.specs.Expressions.{Ready, past, kind_put}
use Rattle.text_agrees.specs.Claims as C
use Rattle.text_agrees.specs.Claims.{Claiming, shaped, past_claim}
use Rattle.text_agrees.specs.Starts.{Shared, gives_go, past_gives}
use Rattle.text_agrees.specs.Actions.{wrote, goes_on, Block, symbol, by_block, try_draft}
use Rattle.text_agrees.specs.Actions.{whole_branching, kind_branching}
use Rattle.text_agrees.specs.Declared.{reader}
use Rattle.text_agrees.specs.Growing as N
use Rattle.text_agrees.specs.Growing.{Fresh, braces}
use Rattle.text_answers.specs.Drawn.{Drawn, drawn_wrote}

-- The cut of a line that opens so many braces, one or none; and what is to come there, class lines and locals apart.
abbrev pub ender : ℕ → Token
ender zero = mark Tk.SEMI
ender (suc j) = mark Tk.LB

pub data Ending : ℕ → Symbol → Type 0 where
  semicolon : Ending 0 (sign Tk.SEMI)
  closer : (n : ℕ) → Ending 0 (more n semi)
  brace : Ending 1 (sign Tk.LB)

-- WHAT A LINE LEADS TO from names ks and the sheet s, up to its cut and whatever follows: these names and the sheet z, and a
-- draft that with the cut is o.
pub record Leads (place : ℕ → ℕ) (spelled : List Token → List Token) (at : ℕ) (ss : List Symbol) (ks : List Known) (s : Sheet)
    (j : ℕ) (z : Sheet) (o : Owned) : Type 0 where
  pub to : ℕ
  pub top : Symbol
  pub under : List Symbol
  pub known : List Known
  pub draft : Name → ℕ → Draft
  pub ends : Ending j top
  pub goes : (y : Name) (q : ℕ) (d : Draft) (ts : List Token) → flow place at (spelled ts) ss (reader ks y q d s)
      ≡ flow place to ts (top ∷ under) (reader known y q (draft y q) z)
  pub drawn : (y : Name) (q n : ℕ) → Drawn place (draft_after (reader known y q (draft y q) z) top (ender j) n) o

-- AN ACTION without its cut.
abbrev pub cut_off : {a : Act G.action} {j : ℕ} → Fresh a j → List Token → List Token
cut_off (N.hold e) ts = mark Tk.HOLD ∷ mark Tk.LP ∷ spell e (mark Tk.RP ∷ ts)
cut_off (N.priority e) ts = mark Tk.PRIORITY ∷ mark Tk.LP ∷ spell e (mark Tk.RP ∷ ts)
cut_off (N.trace e) ts = mark Tk.TRACE ∷ mark Tk.LP ∷ spell e (mark Tk.RP ∷ ts)
cut_off (N.set x e) ts = name x ∷ mark Tk.BECOMES ∷ spell e ts
cut_off (N.put_r x n) ts = mark Tk.PUTR ∷ pair x n ts
cut_off (N.put_b x n) ts = mark Tk.PUTB ∷ pair x n ts
cut_off (N.put_s x n) ts = mark Tk.PUTS ∷ pair x n ts
cut_off (N.become x) ts = mark Tk.BECOME ∷ mark Tk.LP ∷ name x ∷ mark Tk.RP ∷ ts
cut_off (N.req c) ts = mark Tk.REQ ∷ mark Tk.LS ∷ spell_claim c ts
cut_off (N.start x n g) ts =
    mark Tk.START ∷ mark Tk.LP ∷ name x ∷ mark Tk.COMMA ∷ digits n (spell_gives g (mark Tk.RP ∷ ts))
cut_off N.close ts = mark Tk.CLOSE ∷ ts
cut_off (N.repeat n) ts = mark Tk.DO ∷ digits n ts
cut_off (N.try c) ts = mark Tk.TRY ∷ mark Tk.LS ∷ spell_claim c (mark Tk.THEN ∷ ts)
cut_off (N.while c) ts = mark Tk.WHILE ∷ mark Tk.LS ∷ spell_claim c ts

pub cut_on : {a : Act G.action} {j : ℕ} (f : Fresh a j) (r : List Token) → spell_act a r ≡ cut_off f (ender j ∷ braces j r)
cut_on (N.hold e) r = refl
cut_on (N.priority e) r = refl
cut_on (N.trace e) r = refl
cut_on (N.set x e) r = refl
cut_on (N.put_r x n) r = refl
cut_on (N.put_b x n) r = refl
cut_on (N.put_s x n) r = refl
cut_on (N.become x) r = refl
cut_on (N.req c) r = refl
cut_on (N.start x n g) r = refl
cut_on N.close r = refl
cut_on (N.repeat n) r = refl
cut_on (N.try c) r = refl
cut_on (N.while c) r = refl

-- Other parts of a draft are no part of the record.
module _ {place : ℕ → ℕ} {x : Draft} {o : Owned} (h : Drawn place x o) where
  pub drawn_shaped : (p j a q : ℕ) → Drawn place (shaped x p j a q) o
  drawn_shaped p j a q = record { line = h.line; kind = h.kind; over = h.over; body = h.body }

-- A claim, behind a draft that has none yet.
module _ (place : ℕ → ℕ) (ks : List Known) (s : Sheet) (c : Claim) (f : Draft) (w : Whole f) (k : Claiming f.kind) where
  abbrev claim : M.Claim
  claim = claim_of ks c

  abbrev at_rest : Name → ℕ → Reader
  at_rest y q = reader ks y q (begin 0 0 0) s

  abbrev reached : (y : Name) (q : ℕ) → (e : Draft)
      × C.Goes place (at_rest y q) (λ ts. mark Tk.LS ∷ spell_claim c ts) (λ n. past_claim c (suc n))
      (sign Tk.LS ∷ claim_s ∷ []) [] f e
      × C.Reached place (at_rest y q) f (length claim) (collect item_bytes claim) e
  reached y q = C.claim_goes place (at_rest y q) f w k c

  abbrev claimed : Draft → Name → ℕ → Draft
  claimed z y q = let h = (reached y q).2 in shaped z h.role h.count h.at h.aside

  claim_goes : (e : Draft) → put f (claim_bytes claim) ≡ e → (y : Name) (q n : ℕ) (ts : List Token) (zs : List Symbol) →
      flow place n (mark Tk.LS ∷ spell_claim c ts) (sign Tk.LS ∷ claim_s ∷ zs) (reader ks y q f s)
      ≡ flow place (past_claim c (suc n)) ts zs (reader ks y q (claimed e y q) s)
  claim_goes e same y q n ts zs =
      let g = reached y q in
      g.1 n ts zs
      ∙ ap (λ (z : Draft). flow place (past_claim c (suc n)) ts zs (reader ks y q z s))
      (g.2.is ∙ ap (λ (z : Draft). claimed z y q) same)

-- What a start hands over.
module _ (place : ℕ → ℕ) (ks : List Known) (s : Sheet) (g : G.Gives) (f : Draft) (w : Whole f) (k : f.kind ≡ K.START) where
  abbrev resting : Name → ℕ → Reader
  resting y q = reader ks y q (begin 0 0 0) s

  abbrev handed : (y : Name) (q : ℕ) → (e : Draft)
      × C.Goes place (resting y q) (λ ts. spell_gives g (mark Tk.RP ∷ ts)) (λ n. suc (past_gives g n)) (gives_s ∷ []) []
      (with_role (put_count f) (asking K.RES)) e
      × Shared place (resting y q) f w k (length (shares_of ks g)) (collect share_bytes (shares_of ks g)) e
  handed y q = gives_go place (resting y q) f w k g

  abbrev given : Draft → Name → ℕ → Draft
  given z y q = let h = (handed y q).2 in shaped z (asking K.RES) h.count h.at h.aside

  gives_goes : (e : Draft) → put f (counted share_bytes (shares_of ks g)) ≡ e → (y : Name) (q n : ℕ) (ts : List Token)
      (zs : List Symbol) →
      flow place n (spell_gives g (mark Tk.RP ∷ ts)) (gives_s ∷ zs) (reader ks y q (with_role (put_count f) (asking K.RES)) s)
      ≡ flow place (suc (past_gives g n)) ts zs (reader ks y q (given e y q) s)
  gives_goes e same y q n ts zs =
      let h = handed y q in
      h.1 n ts zs
      ∙ ap (λ (z : Draft). flow place (suc (past_gives g n)) ts zs (reader ks y q z s))
      (h.2.is ∙ ap (λ (z : Draft). given z y q) same)

-- In a block, at any of its symbols.
module _ (place : ℕ → ℕ) (ks : List Known) (s : Sheet) (b : Block) (at : ℕ) (us : List Symbol) where
  -- Behind the first token of an action; and where its draft is no matter.
  abbrev begun : Name → ℕ → Draft → Reader
  begun y q e = reader ks y q e (settled s)

  abbrev bare : Name → ℕ → Reader
  bare y q = begun y q (begin 0 0 0)

  abbrev Flow : (List Token → List Token) → ℕ → List Symbol → Name → ℕ → Draft → Draft → List Token → Symbol → Type 0
  Flow spelled to zs y q d e ts z = flow place at (spelled ts) (z ∷ us) (reader ks y q d s) ≡ flow place to ts zs (begun y q e)

  abbrev Line : (List Token → List Token) → ℕ → Owned → Type 0
  Line spelled j o = Leads place spelled at (symbol b ∷ us) ks s j (settled s) o

  abbrev acted : Action → Owned
  acted m = owned (R.ACTION m) at

  -- An action that ends with a semicolon.
  abbrev rest : List Symbol
  rest = sign Tk.SEMI ∷ actions_s ∷ us

  ended : {spelled : List Token → List Token} (to : ℕ) (e : Name → ℕ → Draft) (m : Action) →
      ((y : Name) (q : ℕ) (d : Draft) (ts : List Token) → Flow spelled to rest y q d (e y q) ts (symbol b)) →
      ((y : Name) (q : ℕ) → Drawn place (e y q) (acted m)) → Line spelled 0 (acted m)
  unfolding draft_after at_sign
  ended to e m g h =
      record {
        to = to;
        top = sign Tk.SEMI;
        under = actions_s ∷ us;
        known = ks;
        draft = e;
        ends = semicolon;
        goes = g;
        drawn = λ y q n. h y q;
      }

  -- With an expression in brackets.
  abbrev nodes : ℕ → G.Expression → Draft
  nodes kind x = put (begin (place at) kind 0) (nodes_of (means ks x))

  abbrev bracket_end : G.Expression → ℕ
  bracket_end x = suc (past x (suc (suc at)))

  in_brackets : (y : Name) (q kind : ℕ) (x : G.Expression) → is_expression kind ≡ true → (ts : List Token) →
      flow place (suc (suc at)) (spell x (mark Tk.RP ∷ ts)) (whole_s No.brackets round rest)
      (begun y q (opens (begin (place at) kind 0)))
      ≡ flow place (bracket_end x) ts rest (begun y q (nodes kind x))
  in_brackets y q kind x h ts =
      E.bracket_goes place (bare y q) x (E.does place (bare y q) x) (begin (place at) kind 0)
      (record { whole = record { sized = λ z. refl }; expression = h; deep = refl }) (suc (suc at)) ts rest

  hold_leads : (x : G.Expression) → Line (cut_off (N.hold x)) 0 (acted (M.HOLD (means ks x)))
  unfolding flow action_body
  hold_leads x =
      let m : Action = M.HOLD (means ks x) in
      ended (bracket_end x) (λ y q. nodes K.HOLD x) m (λ y q d ts.
      let g = in_brackets y q K.HOLD x refl ts in
      by_block (Flow (cut_off (N.hold x)) (bracket_end x) rest y q d (nodes K.HOLD x) ts) b g g g) (λ y q. drawn_wrote place m at)

  priority_leads : (x : G.Expression) → Line (cut_off (N.priority x)) 0 (acted (M.PRIO (means ks x)))
  unfolding flow action_body
  priority_leads x =
      let m : Action = M.PRIO (means ks x) in
      ended (bracket_end x) (λ y q. nodes K.PRIO x) m (λ y q d ts.
      let g = in_brackets y q K.PRIO x refl ts in
      by_block (Flow (cut_off (N.priority x)) (bracket_end x) rest y q d (nodes K.PRIO x) ts) b g g g)
      (λ y q. drawn_wrote place m at)

  trace_leads : (x : G.Expression) → Line (cut_off (N.trace x)) 0 (acted (M.TRACE (means ks x)))
  unfolding flow action_body
  trace_leads x =
      let m : Action = M.TRACE (means ks x) in
      ended (bracket_end x) (λ y q. nodes K.TRACE x) m (λ y q d ts.
      let g = in_brackets y q K.TRACE x refl ts in
      by_block (Flow (cut_off (N.trace x)) (bracket_end x) rest y q d (nodes K.TRACE x) ts) b g g g)
      (λ y q. drawn_wrote place m at)

  -- x := e, of a variable or a local.
  module _ (x : Name) (e : G.Expression) where
    abbrev Begins : ℕ → Name → ℕ → Draft → List Token → Symbol → Type 0
    Begins kind y q d ts z =
        flow place at (cut_off (N.set x e) ts) (z ∷ us) (reader ks y q d s)
        ≡ flow place (suc at) (mark Tk.BECOMES ∷ spell e ts) (sign Tk.BECOMES ∷ whole_s No.brackets semi (actions_s ∷ us))
        (begun y q (put (begin (place at) kind 0) (two (number_of ks x))))

    stored : (kind : ℕ) (h : is_expression kind ≡ true) (m : Action) → M.kind_of m ≡ kind →
        action_body m ≡ two (number_of ks x) ++ nodes_of (means ks e) →
        ((y : Name) (q : ℕ) (d : Draft) (ts : List Token) → Begins kind y q d ts (symbol b)) →
        Line (cut_off (N.set x e)) 0 (acted m)
    unfolding flow draft_after
    stored kind h m k body g =
        let f : Draft = put (begin (place at) kind 0) (two (number_of ks x)) in
        let bs : List ℕ = nodes_of (means ks e) in
        let ready : Ready (suc No.brackets) f =
        record { whole = record { sized = λ z. refl }; expression = h; deep = refl } in
        let same : put f bs ≡ wrote (place at) m =
        put-put (begin (place at) kind 0) (two (number_of ks x)) bs
        ∙ ap (λ cs. put (begin (place at) kind 0) cs) (sym body)
        ∙ ap (λ i. put (begin (place at) i 0) (action_body m)) (sym k) in
        let w : Drawn place (put f bs) (acted m) = subst (λ z. Drawn place z (acted m)) (sym same) (drawn_wrote place m at) in
        record {
          to = past e (suc (suc at));
          top = more No.brackets semi;
          under = actions_s ∷ us;
          known = ks;
          draft = λ y q. with_starts (put f bs)
              (record { sum = f.size; term = (E.does place (bare y q) e f ready semi).0 } ∷ f.starts);
          ends = closer No.brackets;
          goes = λ y q d ts. g y q d ts ∙ (E.does place (bare y q) e f ready semi).1 (suc (suc at)) ts (actions_s ∷ us);
          drawn = λ y q n. record { line = w.line; kind = w.kind; over = w.over; body = w.body };
        }

    set_leads : Line (cut_off (N.set x e)) 0 (acted (store_in ks x (means ks e)))
    unfolding flow action_body
    set_leads = go (eqb (S.kind_of ks x) K.VAR) refl
      where
        i : ℕ
        i = number_of ks x

        kind : Bool → ℕ
        kind v = if v then K.SET else K.LSET

        first : (v : Bool) → eqb (S.kind_of ks x) K.VAR ≡ v → (y : Name) (q : ℕ) (d : Draft) (ts : List Token) →
            Begins (kind v) y q d ts (symbol b)
        first v h y q d ts =
            subst (λ u. Begins (kind u) y q d ts (symbol b)) h
            (by_block (Begins (kind (eqb (S.kind_of ks x) K.VAR)) y q d ts) b refl refl refl)

        go : (v : Bool) → eqb (S.kind_of ks x) K.VAR ≡ v →
            Line (cut_off (N.set x e)) 0 (acted (if v then M.SET i (means ks e) else M.LSET i (means ks e)))
        go true h = stored K.SET refl (M.SET i (means ks e)) refl refl (first true h)
        go false h = stored K.LSET refl (M.LSET i (means ks e)) refl refl (first false h)

  -- One of a kind, and how much of it.
  abbrev six : ℕ
  six = suc (suc (suc (suc (suc (suc at)))))

  put_r_leads : (x : Name) (n : G.Number) → Line (cut_off (N.put_r x n)) 0 (acted (M.PUTR (number_of ks x) n.value))
  unfolding flow action_body
  put_r_leads x n =
      let m : Action = M.PUTR (number_of ks x) n.value in
      let f : Draft = shaped (wrote (place at) m) (asking K.RES) 0 0 0 in
      ended six (λ y q. f) m (λ y q d ts.
      let g = C.pair_goes place (bare y q) (begin (place at) K.PUTR 0) K.RES 0 0 0 x n
      (record { no_expression = refl; no_start = refl }) (suc at) ts rest in
      by_block (Flow (cut_off (N.put_r x n)) six rest y q d f ts) b g g g)
      (λ y q. drawn_shaped (drawn_wrote place m at) (asking K.RES) 0 0 0)

  put_b_leads : (x : Name) (n : G.Number) → Line (cut_off (N.put_b x n)) 0 (acted (M.PUTB (number_of ks x) n.value))
  unfolding flow action_body
  put_b_leads x n =
      let m : Action = M.PUTB (number_of ks x) n.value in
      let f : Draft = shaped (wrote (place at) m) (asking K.BIN) 0 0 0 in
      ended six (λ y q. f) m (λ y q d ts.
      let g = C.pair_goes place (bare y q) (begin (place at) K.PUTB 0) K.BIN 0 0 0 x n
      (record { no_expression = refl; no_start = refl }) (suc at) ts rest in
      by_block (Flow (cut_off (N.put_b x n)) six rest y q d f ts) b g g g)
      (λ y q. drawn_shaped (drawn_wrote place m at) (asking K.BIN) 0 0 0)

  put_s_leads : (x : Name) (n : G.Count) → Line (cut_off (N.put_s x n)) 0 (acted (M.PUTS (number_of ks x) n.value))
  unfolding flow action_body
  put_s_leads x n =
      let i : ℕ = number_of ks x in
      let m : Action = M.PUTS i n.value in
      let f : Draft = shaped (wrote (place at) m) (asking K.SYNC) 0 0 0 in
      let base : Draft = begin (place at) K.PUTS 0 in
      ended six (λ y q. f) m (λ y q d ts.
      let g =
      C.name_goes place (bare y q) base K.SYNC 0 0 0 x (suc (suc at)) (mark Tk.COMMA ∷ number n.value ∷ mark Tk.RP ∷ ts)
      (sign Tk.COMMA ∷ upto No.top_count ∷ sign Tk.RP ∷ rest)
      ∙ C.number_goes place (bare y q) No.top_count n (shaped (put base (two i)) (asking K.SYNC) 0 0 0)
      (suc (suc (suc (suc at)))) (mark Tk.RP ∷ ts) (sign Tk.RP ∷ rest)
      ∙ ap (λ (z : Draft). flow place six ts rest (begun y q (shaped z (asking K.SYNC) 0 0 0)))
      (put-put base (two i) (two n.value)) in
      by_block (Flow (cut_off (N.put_s x n)) six rest y q d f ts) b g g g)
      (λ y q. drawn_shaped (drawn_wrote place m at) (asking K.SYNC) 0 0 0)

  become_leads : (x : Name) → Line (cut_off (N.become x)) 0 (acted (M.BECOME (number_of ks x)))
  unfolding flow action_body
  become_leads x =
      let m : Action = M.BECOME (number_of ks x) in
      let f : Draft = shaped (wrote (place at) m) (asking K.SYNC) 0 0 0 in
      ended (suc (suc (suc (suc at)))) (λ y q. f) m (λ y q d ts.
      let g = C.name_goes place (bare y q) (begin (place at) K.BECOME 0) K.SYNC 0 0 0 x (suc (suc at)) (mark Tk.RP ∷ ts)
      (sign Tk.RP ∷ rest) in
      by_block (Flow (cut_off (N.become x)) (suc (suc (suc (suc at)))) rest y q d f ts) b g g g)
      (λ y q. drawn_shaped (drawn_wrote place m at) (asking K.SYNC) 0 0 0)

  close_leads : Line (cut_off N.close) 0 (acted M.CLOSE)
  unfolding flow action_body put
  close_leads =
      let f : Draft = begin (place at) K.CLOSE 0 in
      ended (suc at) (λ y q. f) M.CLOSE
      (λ y q d ts. by_block (Flow (cut_off N.close) (suc at) rest y q d f ts) b refl refl refl)
      (λ y q. drawn_wrote place M.CLOSE at)

  -- A claim.
  module _ (c : Claim) where
    abbrev past_it : ℕ
    past_it = past_claim c (suc (suc at))

    abbrev wanted : M.Claim
    wanted = claim_of ks c

    -- The draft behind it, where f was before it.
    abbrev with : (f : Draft) → Whole f → Claiming f.kind → Action → Name → ℕ → Draft
    with f w k m y q = claimed place ks (settled s) c f w k (wrote (place at) m) y q

    req_leads : Line (cut_off (N.req c)) 0 (acted (M.REQ wanted))
    unfolding flow action_body
    req_leads =
        let m : Action = M.REQ wanted in
        let f : Draft = begin (place at) K.REQ 0 in
        let w : Whole f = record { sized = λ z. refl } in
        let k : Claiming K.REQ = record { no_expression = refl; no_start = refl } in
        ended past_it (with f w k m) m (λ y q d ts.
        let g = claim_goes place ks (settled s) c f w k (wrote (place at) m) refl y q (suc at) ts rest in
        by_block (Flow (cut_off (N.req c)) past_it rest y q d (with f w k m y q) ts) b g g g)
        (λ y q. drawn_shaped (drawn_wrote place m at) _ _ _ _)

    -- Those that open a brace.
    while_leads : Line (cut_off (N.while c)) 1 (acted (M.WHILE (blocks_of s) wanted))
    unfolding flow action_body draft_after
    while_leads =
        let m : Action = M.WHILE (blocks_of s) wanted in
        let f : Draft = put (begin (place at) K.WHILE 0) (two (blocks_of s)) in
        let w : Whole f = record { sized = λ z. refl } in
        let k : Claiming K.WHILE = record { no_expression = refl; no_start = refl } in
        let zs : List Symbol = sign Tk.LB ∷ actions_s ∷ actions_s ∷ us in
        record {
          to = past_it;
          top = sign Tk.LB;
          under = actions_s ∷ actions_s ∷ us;
          known = ks;
          draft = with f w k m;
          ends = brace;
          goes = λ y q d ts.
              let g = claim_goes place ks (settled s) c f w k (wrote (place at) m)
              (put-put (begin (place at) K.WHILE 0) (two (blocks_of s)) (claim_bytes wanted)) y q (suc at) ts zs in
              by_block (Flow (cut_off (N.while c)) past_it zs y q d (with f w k m y q) ts) b g g g;
          drawn = λ y q n. drawn_shaped (drawn_wrote place m at) _ _ _ _;
        }

    try_leads : Line (cut_off (N.try c)) 1 (acted (M.TRY (branch (blocks_of s) wanted ∷ [])))
    unfolding flow action_body draft_after
    try_leads =
        let m : Action = M.TRY (branch (blocks_of s) wanted ∷ []) in
        let f : Draft = put (begin (place at) K.TRY 0) (two 1 ++ two (blocks_of s)) in
        let w : Whole f = record { sized = λ z. refl } in
        let k : Claiming K.TRY = record { no_expression = refl; no_start = refl } in
        let zs : List Symbol = sign Tk.LB ∷ actions_s ∷ try_s ∷ us in
        record {
          to = suc past_it;
          top = sign Tk.LB;
          under = actions_s ∷ try_s ∷ us;
          known = ks;
          draft = with f w k m;
          ends = brace;
          goes = λ y q d ts.
              let g = claim_goes place ks (settled s) c f w k (wrote (place at) m)
              (try_draft place at_first (place at) (blocks_of s) wanted) y q (suc at) (mark Tk.THEN ∷ ts) (sign Tk.THEN ∷ zs) in
              by_block (Flow (cut_off (N.try c)) (suc past_it) zs y q d (with f w k m y q) ts) b g g g;
          drawn = λ y q n. drawn_shaped (drawn_wrote place m at) _ _ _ _;
        }

  repeat_leads : (n : G.Count) → Line (cut_off (N.repeat n)) 1 (acted (M.DO n.value (blocks_of s)))
  unfolding flow action_body draft_after
  repeat_leads n =
      let f : Draft = begin (place at) K.DO 0 in
      let m : Action = M.DO n.value (blocks_of s) in
      let zs : List Symbol = sign Tk.LB ∷ actions_s ∷ actions_s ∷ us in
      let same : put (put f (two n.value)) (two (blocks_of (settled s))) ≡ wrote (place at) m =
      put-put f (two n.value) (two (blocks_of (settled s)))
      ∙ ap (λ i. put f (two n.value ++ two i)) (ap blocks_of (settled-account s)) in
      record {
        to = suc (suc at);
        top = sign Tk.LB;
        under = actions_s ∷ actions_s ∷ us;
        known = ks;
        draft = λ y q. put f (two n.value);
        ends = brace;
        goes = λ y q d ts.
            let g = C.number_goes place (bare y q) No.top_count n f (suc at) ts zs in
            by_block (Flow (cut_off (N.repeat n)) (suc (suc at)) zs y q d (put f (two n.value)) ts) b g g g;
        drawn = λ y q i. subst (λ z. Drawn place z (acted m)) (sym same) (drawn_wrote place m at);
      }

  -- A start.
  start_leads : (x : Name) (n : G.Number) (g : G.Gives) →
      Line (cut_off (N.start x n g)) 0 (acted (M.START (number_of ks x) n.value (shares_of ks g)))
  unfolding flow action_body
  start_leads x n g =
      let i : ℕ = number_of ks x in
      let m : Action = M.START i n.value (shares_of ks g) in
      let base : Draft = begin (place at) K.START 0 in
      let f : Draft = put (shaped (put base (two i)) (asking K.CLASS) 0 0 0) (four n.value) in
      let w : Whole f = record { sized = λ z. refl } in
      let k : ℕ = suc (suc (suc (suc (suc at)))) in
      let e : Name → ℕ → Draft = given place ks (settled s) g f w refl (wrote (place at) m) in
      ended (suc (past_gives g k)) e m (λ y q d ts.
      let go =
      C.name_goes place (bare y q) base K.CLASS 0 0 0 x (suc (suc at))
      (mark Tk.COMMA ∷ number n.value ∷ spell_gives g (mark Tk.RP ∷ ts)) (sign Tk.COMMA ∷ upto No.top_number ∷ gives_s ∷ rest)
      ∙ C.number_goes place (bare y q) No.top_number n (shaped (put base (two i)) (asking K.CLASS) 0 0 0)
      (suc (suc (suc (suc at)))) (spell_gives g (mark Tk.RP ∷ ts)) (gives_s ∷ rest)
      ∙ gives_goes place ks (settled s) g f w refl (shaped (wrote (place at) m) (asking K.CLASS) 0 0 0)
      (put-put (shaped (put base (two i)) (asking K.CLASS) 0 0 0) (four n.value) (counted share_bytes (shares_of ks g))
      ∙ ap (λ (z : Draft). shaped z (asking K.CLASS) 0 0 0)
      (put-put base (two i) (four n.value ++ counted share_bytes (shares_of ks g)))) y q k ts rest in
      by_block (Flow (cut_off (N.start x n g)) (suc (past_gives g k)) rest y q d (e y q) ts) b go go go)
      (λ y q. drawn_shaped (drawn_wrote place m at) _ _ _ _)

  -- ALL OF THEM.
  pub act_leads : {a : Act G.action} {j : ℕ} (f : Fresh a j) → Line (cut_off f) j (direct ks a (blocks_of s) at)
  unfolding direct
  act_leads (N.hold e) = hold_leads e
  act_leads (N.priority e) = priority_leads e
  act_leads (N.trace e) = trace_leads e
  act_leads (N.set x e) = set_leads x e
  act_leads (N.put_r x n) = put_r_leads x n
  act_leads (N.put_b x n) = put_b_leads x n
  act_leads (N.put_s x n) = put_s_leads x n
  act_leads (N.become x) = become_leads x
  act_leads (N.req c) = req_leads c
  act_leads (N.start x n g) = start_leads x n g
  act_leads N.close = close_leads
  act_leads (N.repeat n) = repeat_leads n
  act_leads (N.try c) = try_leads c
  act_leads (N.while c) = while_leads c

-- ONE MORE BRANCH of a try, where the draft with which it goes on is the record of the try.
abbrev pub branch_off : Claim → List Token → List Token
branch_off c ts = mark Tk.ETRY ∷ mark Tk.LS ∷ spell_claim c (mark Tk.THEN ∷ ts)

module _ (place : ℕ → ℕ) (ks : List Known) (s : Sheet) (at : ℕ) (us : List Symbol) (c : Claim) where
  pub branch_leads : (o : Owned) → kind_of o.entry ≡ K.TRY → Drawn place (goes_on s (claim_of ks c)) o →
      Leads place (branch_off c) at (try_s ∷ us) ks s 1 s o
  unfolding flow draft_after at_sign
  branch_leads o h w =
      let x = kept_in s.levels in
      let base : Draft = branching (resumed x) in
      let k : ℕ = blocks_of s in
      let f : Draft = put base (two k) in
      let kind : f.kind ≡ K.TRY = kind_put base (two k) ∙ kind_branching place at_first x in
      let i : Whole f = whole_put base (two k) (whole_branching place at_first x) in
      let l : Claiming f.kind = rw kind (record { no_expression = refl; no_start = refl }) in
      let zs : List Symbol = sign Tk.LB ∷ actions_s ∷ try_s ∷ us in
      let d : Draft = goes_on s (claim_of ks c) in
      let e : Name → ℕ → Draft = claimed place ks s c f i l d in
      let no : eqb d.kind K.DO ≡ false = ne_eqb d.kind K.DO (λ z. omega (arith, w.kind, h)) in
      record {
        to = suc (past_claim c (suc (suc at)));
        top = sign Tk.LB;
        under = actions_s ∷ try_s ∷ us;
        known = ks;
        draft = e;
        ends = brace;
        goes = λ y q x ts.
            claim_goes place ks s c f i l d (put-put base (two k) (claim_bytes (claim_of ks c))) y q (suc at) (mark Tk.THEN ∷ ts)
            (sign Tk.THEN ∷ zs);
        drawn = λ y q n.
            subst (λ b. Drawn place (if b then put (e y q) (two k) else e y q) o) (sym no) (drawn_shaped w _ _ _ _);
      }
