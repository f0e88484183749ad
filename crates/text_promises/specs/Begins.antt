-- To whom a record belongs: the token that its owner counts to is the first of its declaration or action.
-- Assumes nothing.
use Rattle.std.specs.Prelude.{ℕ, suc, ◌+◌, ◌-◌, ◌≤◌, ◌<◌, ◌≡◌, Bool, true, false, eqb, ltb, get_or, if◌then◌else◌}
use Rattle.std.proofs.Common.{arith, sym, ◌∙◌, ap, length-append, ltb-false}
use Rattle.std.proofs.Math.Path.{refl}
use mathlib.Core.List.{List, [], ◌∷◌, ◌++◌, map, append_assoc}
use Rattle.std.proofs.Math.ListN.{length}
use Rattle.std.proofs.lemmas.List.{get_or_at}
use Rattle.semantics.specs.Words.{any}
use Rattle.semantics.specs.Kinds as KR
use Rattle.semantics.specs.Model as M
use Rattle.semantics.specs.Model.{Action}
use Rattle.semantics.specs.Record as R
use Rattle.semantics.specs.Record.{Entry}
use Rattle.promises.specs.Laws.{if_has, AllOf, all_append}
use Rattle.text_semantics.specs.Token as K
use Rattle.text_semantics.specs.Token.{Token, name, number, mark, bad}
use Rattle.text_semantics.specs.Grammar as G
use Rattle.text_semantics.specs.Grammar.{Kind, Act, Declaration, Text, spell_claim, spell_act, spell_locals, declare, spell_text}
use Rattle.text_semantics.specs.Grammar.{to_brace, digits}
use Rattle.text_semantics.specs.Names.{Known, named, embodies, in_locals, in_declaration, after}
use Rattle.text_semantics.specs.Meaning.{Owned, owned, kind_of, number_of, means, Direct, direct, inside, opened, opened_by, to_do}
use Rattle.text_semantics.specs.Meaning.{to_while, to_try, to_body, in_tokens, in_braces, entry_of, declarations, blocks_of, blocks}
use Rattle.text_semantics.specs.Meaning.{records}
use Rattle.text_semantics.specs.Written.{bytes_of, file_of, owner_at}
use Rattle.text_semantics.specs.Answer.{is_name}
use Rattle.text_promises.specs.Plain.{Plain, before, behind, claimed, act_plain, locals_plain, declare_plain}

-- WHAT A DECLARATION OR ACTION BEGINS WITH, by the record: its keyword; a name, where a value is set; and of a block the keyword
-- that it is opened by.
abbrev pub is : ℕ → Token → Bool
is k (name x) = false
is k (number n) = false
is k (mark j) = eqb k j
is k bad = false

abbrev pub begins_action : Action → Token → Bool
begins_action (M.HOLD e) t = is K.HOLD t
begins_action (M.PRIO e) t = is K.PRIORITY t
begins_action (M.SET i e) t = is_name t
begins_action (M.LSET i e) t = is_name t
begins_action (M.DO n b) t = is K.DO t
begins_action (M.PUTR i n) t = is K.PUTR t
begins_action (M.PUTB i n) t = is K.PUTB t
begins_action (M.PUTS i n) t = is K.PUTS t
begins_action (M.BECOME i) t = is K.BECOME t
begins_action (M.REQ c) t = is K.REQ t
begins_action (M.TRY bs) t = is K.TRY t
begins_action (M.WHILE b c) t = is K.WHILE t
begins_action (M.START c n h) t = is K.START t
begins_action (M.TRACE e) t = is K.TRACE t
begins_action M.CLOSE t = is K.CLOSE t

abbrev pub begins : Entry → Token → Bool
begins (R.RES n) t = is K.RES t
begins (R.BIN n) t = is K.BIN t
begins R.SYNC t = is K.SYNC t
begins (R.VAR v) t = is K.VAR t
begins (R.CLASS b) t = is K.CLASS t
begins R.BLOCK t = any (λ k. is k t) (K.CLASS ∷ K.DO ∷ K.TRY ∷ K.WHILE ∷ [])
begins (R.ENTITY e) t = is K.ENTITY t
begins (R.SAMPLER x) t = is K.SAMPLER t
begins (R.ACTION a) t = begins_action a t

module _ (all : List Token) where
  abbrev pub Begins : Owned → Type 0
  Begins o = begins o.entry (get_or all o.owner bad) ≡ true

  -- From the token with so many before it on, these stand.
  abbrev Here : ℕ → List Token → Type 0
  Here at ts = (xs : List Token) × (all ≡ xs ++ ts) × (length xs ≡ at)

  here_token : (at : ℕ) (t : Token) (ts : List Token) → Here at (t ∷ ts) → get_or all at bad ≡ t
  here_token at t ts h = ap (λ (l : List Token). get_or l at bad) h.1 ∙ get_or_at h.0 t ts bad at h.2

  here_next : (f : List Token → List Token) → Plain f → (at n : ℕ) (r : List Token) → length (f []) ≡ n → Here at (f r)
      → Here (at + n) r
  here_next f p at n r e h = (
    h.0 ++ f [],
    h.1 ∙ ap (λ (l : List Token). h.0 ++ l) (p r) ∙ sym (append_assoc h.0 (f []) r),
    length-append h.0 (f []) ∙ omega (arith, h.2),
  )

  -- Into the braces of a branch, and past those.
  in_branch : (k : ℕ) (c : G.Claim) (b : Act G.actions) (at : ℕ) (rest : List Token)
      → Here at (to_brace k c (spell_act b (mark K.RB ∷ rest))) → Here (at + to_try c) (spell_act b (mark K.RB ∷ rest))
  in_branch k c b at rest h =
      here_next (to_brace k c) (claimed k c (mark K.THEN ∷ mark K.LB ∷ [])) at (to_try c) (spell_act b (mark K.RB ∷ rest)) refl h

  past_braces : (b : Act G.actions) (at : ℕ) (rest : List Token) → Here at (spell_act b (mark K.RB ∷ rest))
      → Here (at + in_braces b) rest
  past_braces b at rest h =
      here_next (λ r. spell_act b (mark K.RB ∷ r)) (before (spell_act b) (mark K.RB ∷ []) (act_plain b)) at (in_braces b) rest
      refl h

  at_it : (o : Owned) (t : Token) (ts : List Token) → Here o.owner (t ∷ ts) → begins o.entry t ≡ true → Begins o
  at_it o t ts h e = ap (λ (k : Token). begins o.entry k) (here_token o.owner t ts h) ∙ e

  -- IN AN ACTION, and in those of a block.
  abbrev Direct-begins : (j : Kind) → Direct j → Type 0
  Direct-begins G.action o = Begins o
  Direct-begins G.actions os = AllOf Begins os
  Direct-begins G.branches bs = Unit {0}

  module _ (ks : List Known) where
    direct_begins : {j : Kind} (a : Act j) (k at : ℕ) (r : List Token) → Here at (spell_act a r)
        → Direct-begins j (direct ks a k at)
    unfolding direct
    direct_begins (G.hold e) k at r h = at_it (owned (R.ACTION (M.HOLD (means ks e))) at) _ _ h refl
    direct_begins (G.priority e) k at r h = at_it (owned (R.ACTION (M.PRIO (means ks e))) at) _ _ h refl
    direct_begins (G.trace e) k at r h = at_it (owned (R.ACTION (M.TRACE (means ks e))) at) _ _ h refl
    direct_begins (G.set x e) k at r h =
        if_has (λ (a : Action). Begins (owned (R.ACTION a) at)) (eqb (kind_of ks x) KR.VAR)
        (λ c. at_it (owned (R.ACTION (M.SET (number_of ks x) (means ks e))) at) _ _ h refl)
        (λ c. at_it (owned (R.ACTION (M.LSET (number_of ks x) (means ks e))) at) _ _ h refl)
    direct_begins (G.repeat n b) k at r h = at_it (direct ks (G.repeat n b) k at) _ _ h refl
    direct_begins (G.put_r x n) k at r h = at_it (direct ks (G.put_r x n) k at) _ _ h refl
    direct_begins (G.put_b x n) k at r h = at_it (direct ks (G.put_b x n) k at) _ _ h refl
    direct_begins (G.put_s x n) k at r h = at_it (direct ks (G.put_s x n) k at) _ _ h refl
    direct_begins (G.become x) k at r h = at_it (direct ks (G.become x) k at) _ _ h refl
    direct_begins (G.req c) k at r h = at_it (direct ks (G.req c) k at) _ _ h refl
    direct_begins (G.try c b bs) k at r h = at_it (direct ks (G.try c b bs) k at) _ _ h refl
    direct_begins (G.while c b) k at r h = at_it (direct ks (G.while c b) k at) _ _ h refl
    direct_begins (G.start x n g) k at r h = at_it (direct ks (G.start x n g) k at) _ _ h refl
    direct_begins G.close k at r h = at_it (direct ks G.close k at) _ _ h refl
    direct_begins G.no_branches k at r h = tt
    direct_begins (G.etry c b bs) k at r h = tt
    direct_begins G.no_actions k at r h = tt
    direct_begins (G.follow a b) k at r h =
        let then_it : Here (at + in_tokens a) (spell_act b r) =
        here_next (spell_act a) (act_plain a) at (in_tokens a) (spell_act b r) refl h in
        (direct_begins a k at (spell_act b r) h, direct_begins b (k + opened a) (at + in_tokens a) r then_it)

    -- IN THE BLOCKS INSIDE. Branches belong to a try.
    abbrev Own : Kind → ℕ → Type 0
    Own G.action own = Unit {0}
    Own G.actions own = Unit {0}
    Own G.branches own = get_or all own bad ≡ mark K.TRY

    -- A block, what stands directly in it, and the blocks inside it.
    abbrev block_of : Act G.actions → ℕ → ℕ → ℕ → ℕ → List Owned
    block_of b o own k at = owned R.BLOCK o ∷ direct ks b (suc k) at ++ inside ks b own (suc k) at

    block_begins : (b : Act G.actions) (o own k at : ℕ) (r : List Token) → Begins (owned R.BLOCK o)
        → Here at (spell_act b (mark K.RB ∷ r)) → AllOf Begins (inside ks b own (suc k) at) → AllOf Begins (block_of b o own k at)
    block_begins b o own k at r e h i = (
      e,
      all_append Begins (direct ks b (suc k) at) (inside ks b own (suc k) at) (direct_begins b (suc k) at (mark K.RB ∷ r) h) i,
    )

    inside_begins : {j : Kind} (a : Act j) (own k at : ℕ) (r : List Token) → Own j own → Here at (spell_act a r)
        → AllOf Begins (inside ks a own k at)
    unfolding inside
    inside_begins (G.hold e) own k at r w h = tt
    inside_begins (G.priority e) own k at r w h = tt
    inside_begins (G.trace e) own k at r w h = tt
    inside_begins (G.set x e) own k at r w h = tt
    inside_begins (G.put_r x n) own k at r w h = tt
    inside_begins (G.put_b x n) own k at r w h = tt
    inside_begins (G.put_s x n) own k at r w h = tt
    inside_begins (G.become x) own k at r w h = tt
    inside_begins (G.req c) own k at r w h = tt
    inside_begins (G.start x n g) own k at r w h = tt
    inside_begins G.close own k at r w h = tt
    inside_begins G.no_branches own k at r w h = tt
    inside_begins G.no_actions own k at r w h = tt
    inside_begins (G.repeat n b) own k at r w h =
        let rest : List Token = spell_act b (mark K.RB ∷ r) in
        let in_it : Here (at + to_do n) rest =
        here_next (λ r. mark K.DO ∷ digits n (mark K.LB ∷ r)) (λ r. refl) at (to_do n) rest refl h in
        block_begins b at own k (at + to_do n) r (at_it (owned R.BLOCK at) _ _ h refl) in_it
        (inside_begins b own (suc k) (at + to_do n) (mark K.RB ∷ r) tt in_it)
    inside_begins (G.while c b) own k at r w h =
        let rest : List Token = spell_act b (mark K.RB ∷ r) in
        let in_it : Here (at + to_while c) rest =
        here_next (λ r. mark K.WHILE ∷ mark K.LS ∷ spell_claim c (mark K.LB ∷ r)) (claimed K.WHILE c (mark K.LB ∷ [])) at
        (to_while c) rest refl h in
        block_begins b at own k (at + to_while c) r (at_it (owned R.BLOCK at) _ _ h refl) in_it
        (inside_begins b own (suc k) (at + to_while c) (mark K.RB ∷ r) tt in_it)
    inside_begins (G.try c b bs) own k at r w h =
        let rest : List Token = spell_act bs r in
        let tail : List Token = mark K.LS ∷ spell_claim c (mark K.THEN ∷ mark K.LB ∷ spell_act b (mark K.RB ∷ rest)) in
        let in_it : Here (at + to_try c) (spell_act b (mark K.RB ∷ rest)) = in_branch K.TRY c b at rest h in
        all_append Begins (block_of b at own k (at + to_try c))
        (inside ks bs at (suc k + opened b) (at + to_try c + in_braces b))
        (block_begins b at own k (at + to_try c) rest (at_it (owned R.BLOCK at) (mark K.TRY) tail h refl) in_it
        (inside_begins b own (suc k) (at + to_try c) (mark K.RB ∷ rest) tt in_it))
        (inside_begins bs at (suc k + opened b) (at + to_try c + in_braces b) r (here_token at (mark K.TRY) tail h)
        (past_braces b (at + to_try c) rest in_it))
    inside_begins (G.etry c b bs) own k at r w h =
        let rest : List Token = spell_act bs r in
        let in_it : Here (at + to_try c) (spell_act b (mark K.RB ∷ rest)) = in_branch K.ETRY c b at rest h in
        all_append Begins (block_of b own own k (at + to_try c))
        (inside ks bs own (suc k + opened b) (at + to_try c + in_braces b))
        (block_begins b own own k (at + to_try c) rest (ap (λ (t : Token). begins R.BLOCK t) w) in_it
        (inside_begins b own (suc k) (at + to_try c) (mark K.RB ∷ rest) tt in_it))
        (inside_begins bs own (suc k + opened b) (at + to_try c + in_braces b) r w (past_braces b (at + to_try c) rest in_it))
    inside_begins (G.follow a b) own k at r w h =
        all_append Begins (inside ks a own k at) (inside ks b own (k + opened a) (at + in_tokens a))
        (inside_begins a own k at (spell_act b r) tt h)
        (inside_begins b own (k + opened a) (at + in_tokens a) r tt
        (here_next (spell_act a) (act_plain a) at (in_tokens a) (spell_act b r) refl h))

  -- IN DECLARATIONS.
  entry_begins : (ks : List Known) (k at : ℕ) (d : Declaration) (ds : Text) (r : List Token) → Here at (declare d r)
      → AllOf Begins (map (λ e. owned e at) (entry_of ks k d ds))
  entry_begins ks k at (G.res x n) ds r h = (at_it (owned (R.RES n.value) at) _ _ h refl, tt)
  entry_begins ks k at (G.bin x n) ds r h = (at_it (owned (R.BIN n.value) at) _ _ h refl, tt)
  entry_begins ks k at (G.sync x) ds r h = (at_it (owned R.SYNC at) _ _ h refl, tt)
  entry_begins ks k at (G.var x n) ds r h = (ap (λ (t : Token). is K.VAR t) (here_token at (mark K.VAR) _ h), tt)
  entry_begins ks k at (G.sampler x a b n) ds r h = (ap (λ (t : Token). is K.SAMPLER t) (here_token at (mark K.SAMPLER) _ h), tt)
  entry_begins ks k at (G.class x b) ds r h =
      if_has (λ (es : List Entry). AllOf Begins (map (λ e. owned e at) es)) (any (named x) ks) (λ c. tt)
      (λ c. (ap (λ (t : Token). is K.CLASS t) (here_token at (mark K.CLASS) _ h), tt))
  entry_begins ks k at (G.entity x n) ds r h = (ap (λ (t : Token). is K.ENTITY t) (here_token at (mark K.ENTITY) _ h), tt)

  declarations_begin : (ks : List Known) (k at : ℕ) (t : Text) (r : List Token) → Here at (spell_text t r)
      → AllOf Begins (declarations ks k at t)
  unfolding declarations
  declarations_begin ks k at [] r h = tt
  declarations_begin ks k at (d ∷ ds) r h =
      all_append Begins (map (λ e. owned e at) (entry_of ks k d ds)) _ (entry_begins ks k at d ds (spell_text ds r) h)
      (declarations_begin (after ks (in_declaration d)) (k + opened_by d) (at + length (declare d [])) ds r
      (here_next (declare d) (declare_plain d) at (length (declare d [])) (spell_text ds r) refl h))

  class_begins : (ks : List Known) (k at : ℕ) (d : Declaration) (r : List Token) → Here at (declare d r)
      → AllOf Begins (blocks_of ks k at d)
  class_begins ks k at (G.res x n) r h = tt
  class_begins ks k at (G.bin x n) r h = tt
  class_begins ks k at (G.sync x) r h = tt
  class_begins ks k at (G.var x n) r h = tt
  class_begins ks k at (G.sampler x a b n) r h = tt
  class_begins ks k at (G.class x G.announced) r h = tt
  class_begins ks k at (G.class x (G.body l b)) r h =
      let in_body : List Known = after ks (embodies x ∷ in_locals l) in
      let rest : List Token = spell_act b (mark K.RB ∷ r) in
      let in_it : Here (at + to_body l) rest =
      here_next (λ r. mark K.CLASS ∷ name x ∷ mark K.LB ∷ spell_locals l r)
      (behind (mark K.CLASS ∷ name x ∷ mark K.LB ∷ []) (spell_locals l) (locals_plain l)) at (to_body l) rest refl h in
      block_begins in_body b at at k (at + to_body l) r (at_it (owned R.BLOCK at) _ _ h refl) in_it
      (inside_begins in_body b at (suc k) (at + to_body l) (mark K.RB ∷ r) tt in_it)
  class_begins ks k at (G.entity x n) r h = tt

  blocks_begin : (ks : List Known) (k at : ℕ) (t : Text) (r : List Token) → Here at (spell_text t r)
      → AllOf Begins (blocks ks k at t)
  unfolding blocks
  blocks_begin ks k at [] r h = tt
  blocks_begin ks k at (d ∷ ds) r h =
      all_append Begins (blocks_of ks k at d) _ (class_begins ks k at d (spell_text ds r) h)
      (blocks_begin (after ks (in_declaration d)) (k + opened_by d) (at + length (declare d [])) ds r
      (here_next (declare d) (declare_plain d) at (length (declare d [])) (spell_text ds r) refl h))

-- Each record of a text belongs to a token that its declaration or action begins with.
pub owners_begin : (t : Text) → AllOf (Begins (spell_text t [])) (records t)
unfolding records
owners_begin t =
    all_append (Begins (spell_text t [])) (declarations [] 0 0 t) (blocks [] 0 0 t)
    (declarations_begin (spell_text t []) [] 0 0 t [] ([], refl, refl))
    (blocks_begin (spell_text t []) [] 0 0 t [] ([], refl, refl))

-- So does what stands at a place of the file.
owner_next : (q : ℕ) (o : Owned) (os : List Owned)
    → owner_at q (o ∷ os)
    ≡ (if ltb q (length (bytes_of o.entry)) then o.owner else owner_at (q - length (bytes_of o.entry)) os)
unfolding owner_at
owner_next q o os = refl

owner_among : (P : Owned → Type 0) (q : ℕ) (os : List Owned) → AllOf P os → q < length (file_of os)
    → (o : Owned) × (owner_at q os ≡ o.owner) × P o
owner_among P q [] h l = absurd (omega arith)
owner_among P q (x ∷ os) h l =
    let n : ℕ = length (bytes_of x.entry) in
    let m : length (file_of (x ∷ os)) ≡ n + length (file_of os) = length-append (bytes_of x.entry) (file_of os) in
    let there : n ≤ q → (o : Owned) × (owner_at (q - n) os ≡ o.owner) × P o =
    λ g. owner_among P (q - n) os h.1 (omega arith) in
    rw (owner_next q x os)
    (if_has (λ (k : ℕ). (o : Owned) × (k ≡ o.owner) × P o) (ltb q n) (λ e. (x, refl, h.0)) (λ e. there (ltb-false q n e)))

pub owner_begins : (t : Text) (q : ℕ) → q < length (file_of (records t))
    → (o : Owned) × (owner_at q (records t) ≡ o.owner) × Begins (spell_text t []) o
owner_begins t q l = owner_among (Begins (spell_text t [])) q (records t) (owners_begin t) l
