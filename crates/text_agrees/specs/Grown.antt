-- What the growing of a tree does to its records: every old one stays, in its order, and which come, and where.
-- Assumes nothing.
use Prim.Native.Nat.{ℕ, zero, suc, ◌+◌}
use native.Mathlib.Omega.{arith}
use Rattle.std.specs.Prelude.{◌≡◌, Bool, if◌then◌else◌}
use Rattle.std.proofs.Math.Path.{refl, sym, ap, ap₂, subst, subst₂}
use Rattle.std.proofs.Common.{◌∙◌, length-append}
use mathlib.Core.List.{List, [], ◌∷◌, ◌++◌, map, append-nil, append_assoc}
use Rattle.std.proofs.Math.Bool.{true, false}
use Rattle.std.proofs.Math.Option.{none}
use Rattle.std.proofs.Math.ListN.{length}
use Rattle.semantics.specs.Words.{any}
use Rattle.promises.specs.Laws.{no_way, not-true, over-append, once}
use Rattle.promises.specs.Counted.{group_of}
use Rattle.semantics.specs.Kinds as K
use Rattle.semantics.specs.Model as M
use Rattle.semantics.specs.Model.{Branch}
use Rattle.semantics.specs.Record as R
use Rattle.text_semantics.specs.Token as Tk
use Rattle.text_semantics.specs.Token.{Token, mark}
use Rattle.text_semantics.specs.Numbers as No
use Rattle.text_semantics.specs.Grammar as G
use Rattle.text_semantics.specs.Grammar.{Name, Claim, Kind, Act, Locals, Few, Declaration, Text, spell_claim, to_brace, spell_act}
use Rattle.text_semantics.specs.Grammar.{declare, spell_locals}
use Rattle.text_semantics.specs.Names.{Known, named, awaited, embodies, announces, in_locals, in_declaration, events, after}
use Rattle.text_semantics.specs.Names.{knows, trouble, trouble_in}
use Rattle.text_semantics.specs.Lexing.{same_bytes}
use Rattle.text_semantics.specs.Meaning.{blocks, blocks_of, declarations, entry_of, body_block, embodied, opened_by, records, to_body}
use Rattle.text_semantics.specs.Meaning.{Owned, owned, opened, direct, inside, claim_of, to_do, to_while, to_try, in_tokens, in_braces}
use Rattle.text_semantics.specs.Meaning.{number_of}
use Rattle.text_semantics.specs.Meaning as S
use Rattle.text_promises.specs.Judged.{of_group}
use Rattle.text_promises.specs.Plain.{Plain, act_plain, declare_plain, locals_plain, claimed}
use Rattle.text_agrees.specs.Events.{after-append}
use Rattle.text_agrees.specs.Lines.{calm_first, calm_split, wants_nothing}
use Rattle.text_agrees.specs.Slots.{same_is, same_self, same_turned}
use Rattle.text_agrees.specs.Lasting.{lasting, lasting_all, lasting-named, class_lasts, announced_by, stays_unawaited}
use Rattle.text_agrees.specs.Lasting.{settled, body_settles}
use Rattle.text_agrees.specs.Tallies.{tally}
use Rattle.text_agrees.specs.Numbering.{number_all, number_new, class_tally}
use Rattle.text_agrees.specs.Growing as N
use Rattle.text_agrees.specs.Growing.{Fresh, New, act, branch, Put, in_do, in_while, in_try, in_branches, new_branch, in_branch}
use Rattle.text_agrees.specs.Growing.{more_branches, new_action, in_last, further, before, lines, ending, ahead, lines_plain}
use Rattle.text_agrees.specs.Growing.{Line}

-- HOW LONG a spelling is.
long : (f : List Token → List Token) → Plain f → (r : List Token) → length (f r) ≡ length (f []) + length r
long f p r = ap length (p r) ∙ length-append (f []) r

to_while_lem : (c : Claim) (r : List Token) →
    length (mark Tk.WHILE ∷ mark Tk.LS ∷ spell_claim c (mark Tk.LB ∷ r)) ≡ to_while c + length r
to_while_lem c r = long (λ t. mark Tk.WHILE ∷ mark Tk.LS ∷ spell_claim c (mark Tk.LB ∷ t)) (claimed Tk.WHILE c (mark Tk.LB ∷ [])) r

to_try_lem : (k : ℕ) (c : Claim) (r : List Token) → length (to_brace k c r) ≡ to_try c + length r
to_try_lem k c r = long (to_brace k c) (claimed k c (mark Tk.THEN ∷ mark Tk.LB ∷ [])) r

in_braces_lem : (a : Act G.actions) (r : List Token) → length (spell_act a (mark Tk.RB ∷ r)) ≡ in_braces a + length r
in_braces_lem a r = let x = long (spell_act a) (act_plain a) (mark Tk.RB ∷ r) in
    let y = long (spell_act a) (act_plain a) (mark Tk.RB ∷ []) in omega arith

in_tokens_lem : {k : Kind} (a : Act k) (r : List Token) → length (spell_act a r) ≡ in_tokens a + length r
in_tokens_lem a r = long (spell_act a) (act_plain a) r

-- BLOCKS: nothing, or a block first.
abbrev pub AtBlock : List Owned → Type 0
AtBlock [] = Unit
AtBlock (o ∷ os) = o.entry ≡ R.BLOCK

at_block : (os qs : List Owned) → AtBlock os → AtBlock qs → AtBlock (os ++ qs)
at_block [] qs h g = g
at_block (o ∷ os) qs h g = h

-- As many blocks as a line opens, one or none.
abbrev pub opened_at : ℕ → ℕ → List Owned
opened_at zero at = []
opened_at (suc j) at = owned R.BLOCK at ∷ opened_at j at

-- A try: its branches, and the token that it begins with.
abbrev pub Try : Type 0
Try = List Branch × ℕ

abbrev pub tried : List Branch → ℕ → Owned
tried bs o = owned (R.ACTION (M.TRY bs)) o

module _ (ks : List Known) where
  pub inside_block : {j : Kind} (a : Act j) (own k at : ℕ) → AtBlock (inside ks a own k at)
  unfolding inside
  inside_block (G.hold e) own k at = tt
  inside_block (G.priority e) own k at = tt
  inside_block (G.trace e) own k at = tt
  inside_block (G.set x e) own k at = tt
  inside_block (G.put_r x n) own k at = tt
  inside_block (G.put_b x n) own k at = tt
  inside_block (G.put_s x n) own k at = tt
  inside_block (G.become x) own k at = tt
  inside_block (G.req c) own k at = tt
  inside_block (G.start x n g) own k at = tt
  inside_block G.close own k at = tt
  inside_block G.no_branches own k at = tt
  inside_block G.no_actions own k at = tt
  inside_block (G.repeat n b) own k at = refl
  inside_block (G.while c b) own k at = refl
  inside_block (G.try c b bs) own k at = refl
  inside_block (G.etry c b bs) own k at = refl
  inside_block (G.follow a b) own k at =
      at_block (inside ks a own k at) _ (inside_block a own k at) (inside_block b own (k + opened a) (at + in_tokens a))

  -- WHAT CHANGES for what is put where the next block is k and at the next token: old records, the new ones instead, and more at
  -- the end. A branch goes on with the try w.
  pub data Change : Try → New → ℕ → ℕ → List Owned → List Owned → List Owned → Type 0 where
    comes : {w : Try} {a : Act G.action} {j k at : ℕ} (f : Fresh a j) →
        Change w (act f) k at [] (direct ks a k at ∷ []) (opened_at j at)
    goes_on : {k at : ℕ} (c : Claim) (bs : List Branch) (o : ℕ) →
        Change (bs, o) (branch c) k at (tried bs o ∷ []) (tried (bs ++ (S.branch k (claim_of ks c) ∷ [])) o ∷ [])
        (owned R.BLOCK o ∷ [])

  -- In a list.
  pub record Changed (w : Try) (x : New) (k at : ℕ) (old new : List Owned) : Type 0 where
    pub first : List Owned
    pub rest : List Owned
    pub ps : List Owned
    pub qs : List Owned
    pub more : List Owned
    pub law : Change w x k at ps qs more
    pub was : old ≡ first ++ (ps ++ rest)
    pub is : new ≡ first ++ (qs ++ (rest ++ more))
    pub behind : AtBlock rest

  -- In the actions of a block, and behind what is inside of them.
  record Top (w : Try) (x : New) (k at : ℕ) (old new inner outer : List Owned) : Type 0 where
    first : List Owned
    ps : List Owned
    qs : List Owned
    more : List Owned
    law : Change w x k at ps qs more
    was : old ≡ first ++ ps
    is : new ≡ first ++ qs
    behind : outer ≡ inner ++ more

  data Longer (own k at : ℕ) (a b : Act G.branches) : New → Type 0 where
    longer : {c : Claim} → direct ks b k at ≡ direct ks a k at ++ (S.branch (k + opened a) (claim_of ks c) ∷ []) →
        inside ks b own k at ≡ inside ks a own k at ++ (owned R.BLOCK own ∷ []) → Longer own k at a b (branch c)

  -- So many tokens are before it.
  abbrev Effect : Try → (j : Kind) → New → ℕ → ℕ → (own k at : ℕ) → Act j → Act j → Type 0
  Effect w G.action x zero l own k at a b =
      Top w x (k + opened a) (at + l) (direct ks a k at ∷ []) (direct ks b k at ∷ []) (inside ks a own k at)
      (inside ks b own k at)
  Effect w G.actions x zero l own k at a b =
      Top w x (k + opened a) (at + l) (direct ks a k at) (direct ks b k at) (inside ks a own k at) (inside ks b own k at)
  Effect w G.branches x zero l own k at a b = Longer own k at a b x
  Effect w j x (suc n) l own k at a b =
      (direct ks b k at ≡ direct ks a k at)
      × Changed w x (k + opened a) (at + l) (inside ks a own k at) (inside ks b own k at)

  -- Behind other records; and what stands in a block with what is inside.
  changed_behind : {w : Try} {x : New} {k at : ℕ} (os : List Owned) {old new : List Owned} → Changed w x k at old new →
      Changed w x k at (os ++ old) (os ++ new)
  changed_behind os p =
      record {
        first = os ++ p.first;
        rest = p.rest;
        ps = p.ps;
        qs = p.qs;
        more = p.more;
        law = p.law;
        was = ap (λ zs. os ++ zs) p.was ∙ sym (append_assoc os p.first (p.ps ++ p.rest));
        is = ap (λ zs. os ++ zs) p.is ∙ sym (append_assoc os p.first (p.qs ++ (p.rest ++ p.more)));
        behind = p.behind;
      }

  -- From elsewhere.
  changed_at : {w : Try} {x : New} {k m at to : ℕ} {old new : List Owned} → k ≡ m → at ≡ to → Changed w x k at old new →
      Changed w x m to old new
  changed_at {w} {x} {old = old} {new = new} e f p = subst₂ (λ (k at : ℕ). Changed w x k at old new) e f p

  changed_as : {w : Try} {x : New} {k at : ℕ} {old new ps qs : List Owned} → old ≡ ps → new ≡ qs → Changed w x k at old new →
      Changed w x k at ps qs
  changed_as {w} {x} {k} {at} e f p = subst₂ (λ (zs ys : List Owned). Changed w x k at zs ys) e f p

  top_changed : {w : Try} {x : New} {k at : ℕ} {old new inner outer : List Owned} → AtBlock inner →
      Top w x k at old new inner outer →
      Changed w x k at (old ++ inner) (new ++ outer)
  top_changed {inner = inner} h t =
      record {
        first = t.first;
        rest = inner;
        ps = t.ps;
        qs = t.qs;
        more = t.more;
        law = t.law;
        was = ap (λ zs. zs ++ inner) t.was ∙ append_assoc t.first t.ps inner;
        is = ap₂ (λ ys zs. ys ++ zs) t.is t.behind ∙ append_assoc t.first t.qs (inner ++ t.more);
        behind = h;
      }

  in_block : {w : Try} {x : New} (n l own k at : ℕ) (a b : Act G.actions) → Effect w G.actions x n l own k at a b →
      Changed w x (k + opened a) (at + l) (direct ks a k at ++ inside ks a own k at) (direct ks b k at ++ inside ks b own k at)
  in_block zero l own k at a b t = top_changed (inside_block a own k at) t
  in_block (suc n) l own k at a b t = rw t.0 (changed_behind (direct ks a k at) t.1)

  -- WHERE SOMETHING IS PUT right at the end.
  top_at : {w : Try} {x : New} {k m at to : ℕ} {old new inner outer : List Owned} → k ≡ m → at ≡ to →
      Top w x k at old new inner outer →
      Top w x m to old new inner outer
  top_at {w} {x} {old = old} {new = new} {inner = inner} {outer = outer} e f t =
      subst₂ (λ (k at : ℕ). Top w x k at old new inner outer) e f t

  top_as : {w : Try} {x : New} {k at : ℕ} {old new inner outer is os : List Owned} → inner ≡ is → outer ≡ os →
      Top w x k at old new inner outer → Top w x k at old new is os
  top_as {w} {x} {k} {at} {old} {new} e f t = subst₂ (λ (zs ys : List Owned). Top w x k at old new zs ys) e f t

  top_behind : {w : Try} {x : New} {k at : ℕ} (os : List Owned) (is : List Owned) {old new inner outer : List Owned} →
      Top w x k at old new inner outer → Top w x k at (os ++ old) (os ++ new) (is ++ inner) (is ++ outer)
  top_behind os is {inner = inner} t =
      record {
        first = os ++ t.first;
        ps = t.ps;
        qs = t.qs;
        more = t.more;
        law = t.law;
        was = ap (λ zs. os ++ zs) t.was ∙ sym (append_assoc os t.first t.ps);
        is = ap (λ zs. os ++ zs) t.is ∙ sym (append_assoc os t.first t.qs);
        behind = ap (λ zs. is ++ zs) t.behind ∙ sym (append_assoc is inner t.more);
      }

  fresh_inside : {a : Act G.action} {j : ℕ} → Fresh a j → (own k at : ℕ) → inside ks a own k at ≡ opened_at j at
  unfolding inside direct
  fresh_inside (N.hold e) own k at = refl
  fresh_inside (N.priority e) own k at = refl
  fresh_inside (N.trace e) own k at = refl
  fresh_inside (N.set x e) own k at = refl
  fresh_inside (N.put_r x n) own k at = refl
  fresh_inside (N.put_b x n) own k at = refl
  fresh_inside (N.put_s x n) own k at = refl
  fresh_inside (N.become x) own k at = refl
  fresh_inside (N.req c) own k at = refl
  fresh_inside (N.start x n g) own k at = refl
  fresh_inside N.close own k at = refl
  fresh_inside (N.repeat n) own k at = refl
  fresh_inside (N.try c) own k at = refl
  fresh_inside (N.while c) own k at = refl

  action_put : {w : Try} {a : Act G.action} {j : ℕ} (f : Fresh a j) (own k at : ℕ) →
      Top w (act f) (k + 0) (at + 0) [] (direct ks a k at ∷ []) [] (inside ks a own k at ++ [])
  action_put {a = a} {j = j} f own k at =
      let e : k ≡ k + 0 = omega arith in
      let g : at ≡ at + 0 = omega arith in
      record {
        first = [];
        ps = [];
        qs = direct ks a (k + 0) (at + 0) ∷ [];
        more = opened_at j (at + 0);
        law = comes f;
        was = refl;
        is = ap₂ (λ (m n : ℕ). direct ks a m n ∷ []) e g;
        behind = append-nil _ ∙ fresh_inside f own k at ∙ ap (λ (n : ℕ). opened_at j n) g;
      }

  -- Branches behind the first.
  module _ (c : Claim) (d : Act G.actions) {a b : Act G.branches} (k at : ℕ) where
    try_put : {x : New} (own to : ℕ) → Longer at (suc k + opened d) (at + to_try c + in_braces d) a b x →
        Top (S.branch k (claim_of ks c) ∷ direct ks a (suc k + opened d) (at + to_try c + in_braces d), at) x
        (k + opened (G.try c d a)) to (direct ks (G.try c d a) k at ∷ []) (direct ks (G.try c d b) k at ∷ [])
        (inside ks (G.try c d a) own k at) (inside ks (G.try c d b) own k at)
    unfolding inside direct opened
    try_put own to (longer {c = e} f g) =
        let n : ℕ = k + suc (opened d + opened a) in
        let h : suc k + opened d + opened a ≡ n = omega arith in
        let old : List Branch = S.branch k (claim_of ks c) ∷ direct ks a (suc k + opened d) (at + to_try c + in_braces d) in
        let os : List Owned =
        owned R.BLOCK at ∷ direct ks d (suc k) (at + to_try c) ++ inside ks d own (suc k) (at + to_try c) in
        record {
          first = [];
          ps = tried old at ∷ [];
          qs = tried (old ++ (S.branch n (claim_of ks e) ∷ [])) at ∷ [];
          more = owned R.BLOCK at ∷ [];
          law = goes_on e old at;
          was = refl;
          is = ap (λ bs. tried (S.branch k (claim_of ks c) ∷ bs) at ∷ [])
              (f
              ∙ ap (λ (m : ℕ). direct ks a (suc k + opened d) (at + to_try c + in_braces d)
              ++ (S.branch m (claim_of ks e) ∷ [])) h);
          behind = ap (λ zs. os ++ zs) g ∙ sym (append_assoc os _ _);
        }

    etry_put : {x : New} (own : ℕ) → Longer own (suc k + opened d) (at + to_try c + in_braces d) a b x →
        Longer own k at (G.etry c d a) (G.etry c d b) x
    unfolding inside direct opened
    etry_put own (longer {c = e} f g) =
        let n : ℕ = k + suc (opened d + opened a) in
        let h : suc k + opened d + opened a ≡ n = omega arith in
        let os : List Owned =
        owned R.BLOCK own ∷ direct ks d (suc k) (at + to_try c) ++ inside ks d own (suc k) (at + to_try c) in
        longer (ap (λ (bs : List Branch). S.branch k (claim_of ks c) ∷ bs)
        (f ∙ ap (λ (m : ℕ). direct ks a (suc k + opened d) (at + to_try c + in_braces d) ++ (S.branch m (claim_of ks e) ∷ [])) h))
        (ap (λ zs. os ++ zs) g ∙ sym (append_assoc os _ _))

  -- The try that a branch goes on with, by its branches and the token that it begins with; before these branches are xs.
  abbrev pub last_try : {j : Kind} {x : New} {n : ℕ} {a b : Act j} → Put j x n a b → (own k at : ℕ) → List Branch → Try
  last_try (in_do m p) own k at xs = last_try p own (suc k) (at + to_do m) xs
  last_try (in_while c p) own k at xs = last_try p own (suc k) (at + to_while c) xs
  last_try (in_try c p) own k at xs = last_try p own (suc k) (at + to_try c) xs
  last_try (in_branches c d p) own k at xs =
      last_try p at (suc k + opened d) (at + to_try c + in_braces d) (S.branch k (claim_of ks c) ∷ [])
  last_try (new_branch c) own k at xs = (xs, own)
  last_try (in_branch c p) own k at xs = last_try p own (suc k) (at + to_try c) xs
  last_try (more_branches c d p) own k at xs =
      last_try p own (suc k + opened d) (at + to_try c + in_braces d) (xs ++ (S.branch k (claim_of ks c) ∷ []))
  last_try (new_action f) own k at xs = ([], 0)
  last_try (in_last p) own k at xs = last_try p own k at xs
  last_try (further c p) own k at xs = last_try p own (k + opened c) (at + in_tokens c) xs

  branches_try : {x : New} {a b : Act G.branches} (p : Put G.branches x zero a b) (own k at : ℕ) (xs : List Branch) →
      last_try p own k at xs ≡ (xs ++ direct ks a k at, own)
  unfolding direct
  branches_try (new_branch c) own k at xs = ap (λ bs. (bs, own)) (sym (append-nil xs))
  branches_try (more_branches c d p) own k at xs =
      branches_try p own (suc k + opened d) (at + to_try c + in_braces d) (xs ++ (S.branch k (claim_of ks c) ∷ []))
      ∙ ap (λ bs. (bs, own)) (append_assoc xs (S.branch k (claim_of ks c) ∷ []) _)

  top_try : {w v : Try} {x : New} {k at : ℕ} {old new inner outer : List Owned} → w ≡ v → Top v x k at old new inner outer →
      Top w x k at old new inner outer
  top_try {x = x} {k = k} {at = at} {old = old} {new = new} {inner = inner} {outer = outer} e t =
      subst (λ (w : Try). Top w x k at old new inner outer) (sym e) t

  effect : {j : Kind} {x : New} {n : ℕ} {a b : Act j} (p : Put j x n a b) (own k at : ℕ) (xs : List Branch) →
      Effect (last_try p own k at xs) j x n (length (before p [])) own k at a b
  unfolding inside direct opened before
  effect (in_do {n = n} {a = a} {b = b} m p) own k at xs = (
    refl,
    changed_at (omega arith) (omega arith) (changed_behind (owned R.BLOCK at ∷ [])
        (in_block n _ own (suc k) (at + to_do m) a b (effect p own (suc k) (at + to_do m) xs))),
  )
  effect (in_while {n = n} {a = a} {b = b} c p) own k at xs = (
    refl,
    changed_at (omega arith) (omega (arith, to_while_lem c (before p []))) (changed_behind (owned R.BLOCK at ∷ [])
        (in_block n _ own (suc k) (at + to_while c) a b (effect p own (suc k) (at + to_while c) xs))),
  )
  effect (in_try {n = n} {a = a} {b = b} c p) own k at xs = (
    refl,
    changed_at (omega arith) (omega (arith, to_try_lem Tk.TRY c (before p [])))
        (changed_as (sym (append-nil _)) (sym (append-nil _)) (changed_behind (owned R.BLOCK at ∷ [])
        (in_block n _ own (suc k) (at + to_try c) a b (effect p own (suc k) (at + to_try c) xs)))),
  )
  effect (in_branches {n = zero} c d p) own k at xs =
      top_try (branches_try p at (suc k + opened d) (at + to_try c + in_braces d) (S.branch k (claim_of ks c) ∷ []))
      (try_put c d k at own _ (effect p at (suc k + opened d) (at + to_try c + in_braces d) (S.branch k (claim_of ks c) ∷ [])))
  effect (in_branches {n = suc n} c d p) own k at xs =
      let e = effect p at (suc k + opened d) (at + to_try c + in_braces d) (S.branch k (claim_of ks c) ∷ []) in (
        ap (λ bs. tried (S.branch k (claim_of ks c) ∷ bs) at) e.0,
        changed_at (omega arith)
            (omega (arith, to_try_lem Tk.TRY c (spell_act d (mark Tk.RB ∷ before p [])), in_braces_lem d (before p [])))
            (changed_behind (owned R.BLOCK at ∷ direct ks d (suc k) (at + to_try c) ++ inside ks d own (suc k) (at + to_try c))
            e.1),
      )
  effect (new_branch c) own k at xs = longer (ap (λ (m : ℕ). S.branch m (claim_of ks c) ∷ []) (omega arith)) refl
  effect (in_branch {n = n} {a = a} {b = b} c p) own k at xs = (
    refl,
    changed_at (omega arith) (omega (arith, to_try_lem Tk.ETRY c (before p [])))
        (changed_as (sym (append-nil _)) (sym (append-nil _)) (changed_behind (owned R.BLOCK own ∷ [])
        (in_block n _ own (suc k) (at + to_try c) a b (effect p own (suc k) (at + to_try c) xs)))),
  )
  effect (more_branches {n = zero} c d p) own k at xs =
      etry_put c d k at own
      (effect p own (suc k + opened d) (at + to_try c + in_braces d) (xs ++ (S.branch k (claim_of ks c) ∷ [])))
  effect (more_branches {n = suc n} c d p) own k at xs =
      let e = effect p own (suc k + opened d) (at + to_try c + in_braces d) (xs ++ (S.branch k (claim_of ks c) ∷ [])) in (
        ap (λ (bs : List Branch). S.branch k (claim_of ks c) ∷ bs) e.0,
        changed_at (omega arith)
            (omega (arith, to_try_lem Tk.ETRY c (spell_act d (mark Tk.RB ∷ before p [])), in_braces_lem d (before p [])))
            (changed_behind (owned R.BLOCK own ∷ direct ks d (suc k) (at + to_try c) ++ inside ks d own (suc k) (at + to_try c))
            e.1),
      )
  effect (new_action f) own k at xs = action_put f own k at
  effect (in_last {n = zero} p) own k at xs =
      top_as (sym (append-nil _)) (sym (append-nil _)) (top_at (omega arith) refl (effect p own k at xs))
  effect (in_last {n = suc n} p) own k at xs =
      let e = effect p own k at xs in (
        ap (λ o. o ∷ []) e.0,
        changed_as (sym (append-nil _)) (sym (append-nil _)) (changed_at (omega arith) refl e.1),
      )
  effect (further {n = zero} c p) own k at xs =
      top_at (omega arith) (omega (arith, in_tokens_lem c (before p [])))
      (top_behind (direct ks c k at ∷ []) (inside ks c own k at) (effect p own (k + opened c) (at + in_tokens c) xs))
  effect (further {n = suc n} c p) own k at xs =
      let e = effect p own (k + opened c) (at + in_tokens c) xs in (
        ap (λ os. direct ks c k at ∷ os) e.0,
        changed_at (omega arith) (omega (arith, in_tokens_lem c (before p [])))
            (changed_behind (inside ks c own k at) e.1),
      )

  -- .. whatever try it is.
  pub data Patch : New → ℕ → ℕ → List Owned → List Owned → List Owned → Type 0 where
    adds : {a : Act G.action} {j k at : ℕ} (f : Fresh a j) → Patch (act f) k at [] (direct ks a k at ∷ []) (opened_at j at)
    extends : {k at : ℕ} (c : Claim) (bs : List Branch) (o : ℕ) →
        Patch (branch c) k at (tried bs o ∷ []) (tried (bs ++ (S.branch k (claim_of ks c) ∷ [])) o ∷ []) (owned R.BLOCK o ∷ [])

  pub record Patched (x : New) (k at : ℕ) (old new : List Owned) : Type 0 where
    pub first : List Owned
    pub rest : List Owned
    pub ps : List Owned
    pub qs : List Owned
    pub more : List Owned
    pub law : Patch x k at ps qs more
    pub was : old ≡ first ++ (ps ++ rest)
    pub is : new ≡ first ++ (qs ++ (rest ++ more))
    pub behind : AtBlock rest

  patch : {w : Try} {x : New} {k at : ℕ} {ps qs more : List Owned} → Change w x k at ps qs more → Patch x k at ps qs more
  patch (comes f) = adds f
  patch (goes_on c bs o) = extends c bs o

  patched : {w : Try} {x : New} {k at : ℕ} {old new : List Owned} → Changed w x k at old new → Patched x k at old new
  patched c =
      record {
        first = c.first;
        rest = c.rest;
        ps = c.ps;
        qs = c.qs;
        more = c.more;
        law = patch c.law;
        was = c.was;
        is = c.is;
        behind = c.behind;
      }

-- A TEXT: so many blocks are opened.
abbrev pub opened_in : Text → ℕ
opened_in [] = 0
opened_in (d ∷ ds) = opened_by d + opened_in ds

pub opened_last : (ds : Text) (d : Declaration) → opened_in (ds ++ (d ∷ [])) ≡ opened_in ds + opened_by d
opened_last [] d = omega arith
opened_last (c ∷ ds) d = omega (arith, opened_last ds d)

pub long_lines : (d : Declaration) (ds : Text) → length (lines (d ∷ ds) []) ≡ length (declare d []) + length (lines ds [])
long_lines d ds = long (declare d) (declare_plain d) (lines ds [])

pub blocks_last : (ks : List Known) (k at : ℕ) (ds : Text) (d : Declaration) → blocks ks k at (ds ++ (d ∷ []))
    ≡ blocks ks k at ds ++ blocks_of (after ks (events ds)) (k + opened_in ds) (at + length (lines ds [])) d
unfolding blocks after
blocks_last ks k at [] d =
    let e : k ≡ k + 0 = omega arith in
    let f : at ≡ at + 0 = omega arith in
    append-nil _ ∙ ap₂ (λ (m n : ℕ). blocks_of ks m n d) e f
blocks_last ks k at (c ∷ ds) d =
    let zs : List Known = after ks (in_declaration c) in
    let e : k + opened_by c + opened_in ds ≡ k + opened_in (c ∷ ds) = omega arith in
    let f : at + length (declare c []) + length (lines ds []) ≡ at + length (lines (c ∷ ds) []) =
    omega (arith, long_lines c ds) in
    let g : after zs (events ds) ≡ after ks (events (c ∷ ds)) = sym (after-append ks (in_declaration c) (events ds)) in
    ap (λ os. blocks_of ks k at c ++ os) (blocks_last zs (k + opened_by c) (at + length (declare c [])) ds d)
    ∙ sym (append_assoc (blocks_of ks k at c) _ _)
    ∙ ap (λ os. blocks ks k at (c ∷ ds) ++ os)
    (ap (λ (ns : List Known). blocks_of ns (k + opened_by c + opened_in ds) (at + length (declare c []) + length (lines ds [])) d) g
    ∙ ap₂ (λ (m n : ℕ). blocks_of (after ks (events (c ∷ ds))) m n d) e f)

-- Where two texts have the bodies of classes at the same places, so far, they have the same declarations.
same_bodies : (ds : Text) (y : Name) (l m : Locals) (a b : Act G.actions) (x : Name) (k : ℕ) →
    body_block x k (ending ds y l a) ≡ body_block x k (ending ds y m b)
unfolding body_block
same_bodies [] y l m a b x k = refl
same_bodies (d ∷ ds) y l m a b x k =
    ap (λ (n : ℕ). if embodied x d then k else n) (same_bodies ds y l m a b x (k + opened_by d))

same_entries : (ks : List Known) (k at : ℕ) (d : Declaration) (ds es : Text) →
    ((x : Name) (n : ℕ) → body_block x n ds ≡ body_block x n es) →
    map (λ e. owned e at) (entry_of ks k d ds) ≡ map (λ e. owned e at) (entry_of ks k d es)
unfolding body_block
same_entries ks k at (G.res x n) ds es h = refl
same_entries ks k at (G.bin x n) ds es h = refl
same_entries ks k at (G.sync x) ds es h = refl
same_entries ks k at (G.var x n) ds es h = refl
same_entries ks k at (G.sampler x a b n) ds es h = refl
same_entries ks k at (G.class x b) ds es h =
    ap (λ (n : ℕ). map (λ e. owned e at) (if any (named x) ks then [] else R.CLASS n ∷ []))
    (ap (λ (n : ℕ). if embodied x (G.class x b) then k else n) (h x (k + opened_by (G.class x b))))
same_entries ks k at (G.entity x n) ds es h = refl

pub same_declarations : (ks : List Known) (k at : ℕ) (ds : Text) (y : Name) (l m : Locals) (a b : Act G.actions) →
    declarations ks k at (ending ds y l a) ≡ declarations ks k at (ending ds y m b)
unfolding declarations
same_declarations ks k at [] y l m a b = refl
same_declarations ks k at (d ∷ ds) y l m a b =
    ap₂ (λ os qs. os ++ qs)
    (same_entries ks k at d (ending ds y l a) (ending ds y m b) (λ x n. same_bodies ds y l m a b x n))
    (same_declarations (after ks (in_declaration d)) (k + opened_by d) (at + length (declare d [])) ds y l m a b)

-- THE LOCALS of the last class.
pub grown_local : (ds : Text) (y x : Name) (xs : Few No.more_locals) →
    records (ending ds y (G.locals x xs) G.no_actions) ≡ records (ending ds y G.no_locals G.no_actions)
unfolding records blocks
grown_local ds y x xs =
    ap₂ (λ os qs. os ++ qs) (same_declarations [] 0 0 ds y _ _ _ _)
    (blocks_last [] 0 0 ds (G.class y (G.body (G.locals x xs) G.no_actions))
    ∙ sym (blocks_last [] 0 0 ds (G.class y (G.body G.no_locals G.no_actions))))

-- WITHIN ITS BODY.
module _ (ds : Text) (y : Name) (l : Locals) where
  abbrev pub in_scope : List Known
  in_scope = after (after [] (events ds)) (embodies y ∷ in_locals l)

  pub changed_within : {x : New} {n : ℕ} {a b : Act G.actions} (p : Put G.actions x n a b) →
      Changed in_scope (last_try in_scope p (length (lines ds [])) (suc (opened_in ds)) (length (lines ds []) + to_body l) []) x
      (opened_in (ending ds y l a)) (length (ahead ds y l p []))
      (records (ending ds y l a)) (records (ending ds y l b))
  unfolding records blocks
  changed_within {x = x} {n = n} {a = a} {b = b} p =
      let k : ℕ = 0 + opened_in ds in
      let at : ℕ = 0 + length (lines ds []) in
      let to : ℕ = at + to_body l in
      let e = opened_last ds (G.class y (G.body l a)) in
      let f = long (lines ds) (lines_plain ds) (mark Tk.CLASS ∷ Tk.name y ∷ mark Tk.LB ∷ spell_locals l (before p [])) in
      let g = long (spell_locals l) (locals_plain l) (before p []) in
      subst₂ (λ (i j : ℕ). Changed in_scope (last_try in_scope p i (suc j) (i + to_body l) []) x (opened_in (ending ds y l a))
      (length (ahead ds y l p [])) (records (ending ds y l a)) (records (ending ds y l b))) (omega arith) (omega arith)
      (changed_at in_scope (omega arith) (omega arith)
      (changed_as in_scope refl
      (ap (λ os. os ++ blocks [] 0 0 (ending ds y l b)) (same_declarations [] 0 0 ds y l l a b))
      (changed_behind in_scope (declarations [] 0 0 (ending ds y l a))
      (changed_as in_scope (sym (blocks_last [] 0 0 ds (G.class y (G.body l a))))
      (sym (blocks_last [] 0 0 ds (G.class y (G.body l b))))
      (changed_behind in_scope (blocks [] 0 0 ds)
      (changed_behind in_scope (owned R.BLOCK at ∷ [])
      (in_block in_scope n (length (before p [])) at (suc k) to a b (effect in_scope p at (suc k) to []))))))))

  pub grown_within : {x : New} {n : ℕ} {a b : Act G.actions} (p : Put G.actions x n a b) →
      Patched in_scope x (opened_in (ending ds y l a)) (length (ahead ds y l p []))
      (records (ending ds y l a)) (records (ending ds y l b))
  grown_within p = patched in_scope (changed_within p)

-- A DECLARATION MORE. It changes no body that is found before it,
body_last : (x : Name) (k : ℕ) (ds : Text) (d : Declaration) → embodied x d ≡ false →
    body_block x k (ds ++ (d ∷ [])) ≡ body_block x k ds
unfolding body_block
body_last x k [] d h = rw h
body_last x k (c ∷ ds) d h = ap (λ (n : ℕ). if embodied x c then k else n) (body_last x (k + opened_by c) ds d h)

if_new : (at : ℕ) (b : Bool) {m n : ℕ} → (b ≡ false → m ≡ n) → map (λ e. owned e at) (if b then [] else R.CLASS m ∷ [])
    ≡ map (λ e. owned e at) (if b then [] else R.CLASS n ∷ [])
if_new at true h = refl
if_new at false h = ap (λ (n : ℕ). owned (R.CLASS n) at ∷ []) (h refl)

-- and no entry, where it is no body of a class that is known.
one_entry : (ks : List Known) (k at : ℕ) (c : Declaration) (ds : Text) (d : Declaration) →
    ((x : Name) → lasting x (after (after ks (in_declaration c)) (events ds)) ≡ true → embodied x d ≡ false) →
    map (λ e. owned e at) (entry_of ks k c (ds ++ (d ∷ []))) ≡ map (λ e. owned e at) (entry_of ks k c ds)
unfolding body_block
one_entry ks k at (G.res x n) ds d h = refl
one_entry ks k at (G.bin x n) ds d h = refl
one_entry ks k at (G.sync x) ds d h = refl
one_entry ks k at (G.var x n) ds d h = refl
one_entry ks k at (G.sampler x a b n) ds d h = refl
one_entry ks k at (G.class x b) ds d h =
    if_new at (any (named x) ks) (λ e. body_last x k (G.class x b ∷ ds) d
    (h x (lasting_all x _ (events ds) (class_lasts x b ks e))))
one_entry ks k at (G.entity x n) ds d h = refl

declarations_last : (ks : List Known) (k at : ℕ) (ds : Text) (d : Declaration) →
    ((x : Name) → lasting x (after ks (events ds)) ≡ true → embodied x d ≡ false) →
    declarations ks k at (ds ++ (d ∷ [])) ≡ declarations ks k at ds
    ++ map (λ e. owned e (at + length (lines ds []))) (entry_of (after ks (events ds)) (k + opened_in ds) d [])
unfolding declarations after
declarations_last ks k at [] d h =
    let e : k ≡ k + 0 = omega arith in
    let f : at ≡ at + 0 = omega arith in
    append-nil _ ∙ ap₂ (λ (m n : ℕ). map (λ e. owned e n) (entry_of ks m d [])) e f
declarations_last ks k at (c ∷ ds) d h =
    let zs : List Known = after ks (in_declaration c) in
    let e : k + opened_by c + opened_in ds ≡ k + opened_in (c ∷ ds) = omega arith in
    let f : at + length (declare c []) + length (lines ds []) ≡ at + length (lines (c ∷ ds) []) =
    omega (arith, long_lines c ds) in
    let g : after zs (events ds) ≡ after ks (events (c ∷ ds)) = sym (after-append ks (in_declaration c) (events ds)) in
    let i : (x : Name) → lasting x (after zs (events ds)) ≡ true → embodied x d ≡ false = λ x j. h x (rw g at j) in
    ap₂ (λ os qs. os ++ qs) (one_entry ks k at c ds d i)
    (declarations_last zs (k + opened_by c) (at + length (declare c [])) ds d i)
    ∙ sym (append_assoc (map (λ e. owned e at) (entry_of ks k c ds)) _ _)
    ∙ ap (λ os. declarations ks k at (c ∷ ds) ++ os)
    (ap (λ (ns : List Known). map (λ e. owned e (at + length (declare c []) + length (lines ds [])))
    (entry_of ns (k + opened_by c + opened_in ds) d [])) g
    ∙ ap₂ (λ (m n : ℕ). map (λ e. owned e n) (entry_of (after ks (events (c ∷ ds))) m d [])) e f)

-- A DECLARATION that ends with `;`.
line_no_body : {d : Declaration} → Line d 0 → (x : Name) → embodied x d ≡ false
line_no_body (N.res y n) x = refl
line_no_body (N.bin y n) x = refl
line_no_body (N.sync y) x = refl
line_no_body (N.var y n) x = refl
line_no_body (N.sampler y a b n) x = refl
line_no_body (N.announced y) x = refl
line_no_body (N.entity y n) x = refl

line_no_blocks : {d : Declaration} → Line d 0 → (ks : List Known) (k at : ℕ) → blocks_of ks k at d ≡ []
line_no_blocks (N.res y n) ks k at = refl
line_no_blocks (N.bin y n) ks k at = refl
line_no_blocks (N.sync y) ks k at = refl
line_no_blocks (N.var y n) ks k at = refl
line_no_blocks (N.sampler y a b n) ks k at = refl
line_no_blocks (N.announced y) ks k at = refl
line_no_blocks (N.entity y n) ks k at = refl

abbrev pub declared : Text → List Owned
declared t = declarations [] 0 0 t

abbrev pub built : Text → List Owned
built t = blocks [] 0 0 t

abbrev pub known_in : Text → List Known
known_in t = after [] (events t)

pub grown_line : (ds : Text) {d : Declaration} → Line d 0 →
    (declared (ds ++ (d ∷ []))
    ≡ declared ds ++ map (λ e. owned e (length (lines ds []))) (entry_of (known_in ds) (opened_in ds) d []))
    × (built (ds ++ (d ∷ [])) ≡ built ds)
unfolding blocks
grown_line ds {d} i = (
  declarations_last [] 0 0 ds d (λ x h. line_no_body i x)
      ∙ ap₂ (λ (m n : ℕ). declared ds ++ map (λ e. owned e n) (entry_of (known_in ds) m d [])) (omega arith) (omega arith),
  blocks_last [] 0 0 ds d ∙ ap (λ os. built ds ++ os) (line_no_blocks i _ _ _) ∙ append-nil _,
)

-- .. of which an announced class is this one,
pub announced_entry : (x : Name) (ks : List Known) (k : ℕ) → any (named x) ks ≡ false →
    entry_of ks k (G.class x G.announced) [] ≡ R.CLASS No.no_body ∷ []
unfolding body_block
announced_entry x ks k h = rw h

-- A CLASS WITH ITS BRACE that is new.
pub grown_class : (ds : Text) (x : Name) → any (named x) (known_in ds) ≡ false →
    (declared (ending ds x G.no_locals G.no_actions) ≡ declared ds ++ (owned (R.CLASS (opened_in ds)) (length (lines ds [])) ∷ []))
    × (built (ending ds x G.no_locals G.no_actions) ≡ built ds ++ (owned R.BLOCK (length (lines ds [])) ∷ []))
unfolding blocks body_block
grown_class ds x h =
    let d : Declaration = G.class x (G.body G.no_locals G.no_actions) in
    let at : ℕ = length (lines ds []) in
    let e : 0 + opened_in ds ≡ opened_in ds = omega arith in
    let f : 0 + at ≡ at = omega arith in (
      declarations_last [] 0 0 ds d other
          ∙ ap (λ os. declared ds ++ os) (mine (0 + opened_in ds) (0 + at))
          ∙ ap₂ (λ (m n : ℕ). declared ds ++ (owned (R.CLASS m) n ∷ [])) e f,
      blocks_last [] 0 0 ds d ∙ ap (λ (n : ℕ). built ds ++ (owned R.BLOCK n ∷ [])) f,
    )
  where
    mine : (k at : ℕ) → map (λ e. owned e at) (entry_of (known_in ds) k (G.class x (G.body G.no_locals G.no_actions)) [])
        ≡ owned (R.CLASS k) at ∷ []
    mine k at = rw (h, same_self x)

    differs : (y : Name) (b : Bool) → same_bytes y x ≡ b → lasting y (known_in ds) ≡ true → b ≡ false
    differs y true e j =
        no_way (sym h ∙ subst (λ z. any (named z) (known_in ds) ≡ true) (same_is y x e) (lasting-named y (known_in ds) j))
    differs y false e j = refl

    other : (y : Name) → lasting y (known_in ds) ≡ true → same_bytes y x ≡ false
    other y j = differs y (same_bytes y x) refl j

-- THE BODY OF A CLASS that was announced: the entry of the class gets its block.
pub record Filled (k : ℕ) (old new : List Owned) : Type 0 where
  pub first : List Owned
  pub rest : List Owned
  pub owner : ℕ
  pub was : old ≡ first ++ (owned (R.CLASS No.no_body) owner ∷ rest)
  pub is : new ≡ first ++ (owned (R.CLASS k) owner ∷ rest)

abbrev filled_behind : {k m : ℕ} (os qs : List Owned) {old new : List Owned} → k ≡ m → qs ≡ os → Filled k old new →
    Filled m (os ++ old) (qs ++ new)
filled_behind os qs {new = new} e g f =
    record {
      first = os ++ f.first;
      rest = f.rest;
      owner = f.owner;
      was = ap (λ zs. os ++ zs) f.was ∙ sym (append_assoc os f.first _);
      is =
          ap (λ zs. zs ++ new) g ∙ ap (λ zs. os ++ zs) f.is ∙ sym (append_assoc os f.first _)
          ∙ ap (λ (n : ℕ). (os ++ f.first) ++ (owned (R.CLASS n) f.owner ∷ f.rest)) e;
    }

module _ (x : Name) where
  abbrev its : Text → Text
  its ds = ending ds x G.no_locals G.no_actions

  abbrev its_line : Declaration
  its_line = G.class x (G.body G.no_locals G.no_actions)

  abbrev NoBody : Text → Type 0
  NoBody [] = Unit
  NoBody (d ∷ ds) = (embodied x d ≡ false) × NoBody ds

  lacking : (k : ℕ) (ds : Text) → NoBody ds → (body_block x k ds ≡ No.no_body) × (body_block x k (its ds) ≡ k + opened_in ds)
  unfolding body_block
  lacking k [] h = (refl, rw (same_self x) (omega arith))
  lacking k (d ∷ ds) h = let i = lacking (k + opened_by d) ds h.1 in rw h.0 (i.0, i.1 ∙ omega arith)

  -- While it is awaited there is none.
  no_body : (ds : Text) (ks : List Known) → lasting x ks ≡ true → trouble_in ks (events ds) ≡ none →
      any (awaited x) (after ks (events ds)) ≡ true → NoBody ds
  no_body [] ks l c h = tt
  no_body (d ∷ ds) ks l c h =
      let s = calm_split ks (in_declaration d) (events ds) c in
      let zs : List Known = after ks (in_declaration d) in
      let j : any (awaited x) (after zs (events ds)) ≡ true = rw (after-append ks (in_declaration d) (events ds)) at h in
      let m = lasting_all x ks (in_declaration d) l in
      (mine d (λ e. settled x ds zs m s.1 e) j, no_body ds zs m s.1 j)
    where
      mine : (d : Declaration) → (any (awaited x) (after ks (in_declaration d)) ≡ false →
          any (awaited x) (after (after ks (in_declaration d)) (events ds)) ≡ false) →
          any (awaited x) (after (after ks (in_declaration d)) (events ds)) ≡ true → embodied x d ≡ false
      mine (G.res y n) f j = refl
      mine (G.bin y n) f j = refl
      mine (G.sync y) f j = refl
      mine (G.var y n) f j = refl
      mine (G.sampler y a b n) f j = refl
      mine (G.class y G.announced) f j = refl
      mine (G.class y (G.body l b)) f j = go (same_bytes x y) refl
        where
          go : (w : Bool) → same_bytes x y ≡ w → w ≡ false
          go true e =
              no_way (sym (f (subst (λ z. any (awaited x) (after ks (in_declaration (G.class z (G.body l b)))) ≡ false)
              (same_is x y e)
              (body_settles x l b ks))) ∙ j)
          go false e = refl
      mine (G.entity y n) f j = refl

  -- Behind its announcement nothing else changes,
  later_entry : (ks : List Known) (k at : ℕ) (c : Declaration) (ds : Text) → lasting x ks ≡ true →
      map (λ e. owned e at) (entry_of ks k c (its ds)) ≡ map (λ e. owned e at) (entry_of ks k c ds)
  unfolding body_block
  later_entry ks k at (G.res y n) ds l = refl
  later_entry ks k at (G.bin y n) ds l = refl
  later_entry ks k at (G.sync y) ds l = refl
  later_entry ks k at (G.var y n) ds l = refl
  later_entry ks k at (G.sampler y a b n) ds l = refl
  later_entry ks k at (G.class y b) ds l =
      if_new at (any (named y) ks) (λ e. body_last y k (G.class y b ∷ ds) its_line (go (same_bytes y x) refl e))
    where
      go : (w : Bool) → same_bytes y x ≡ w → any (named y) ks ≡ false → w ≡ false
      go true e f = no_way (sym f ∙ subst (λ z. any (named z) ks ≡ true) (sym (same_is y x e)) (lasting-named x ks l))
      go false e f = refl
  later_entry ks k at (G.entity y n) ds l = refl

  rest_same : (ds : Text) (ks : List Known) (k at : ℕ) → lasting x ks ≡ true →
      declarations ks k at (its ds) ≡ declarations ks k at ds
  unfolding declarations after
  rest_same [] ks k at l = rw (lasting-named x ks l)
  rest_same (d ∷ ds) ks k at l =
      ap₂ (λ os qs. os ++ qs) (later_entry ks k at d ds l)
      (rest_same ds (after ks (in_declaration d)) (k + opened_by d) (at + length (declare d []))
      (lasting_all x ks (in_declaration d) l))

  -- and before it neither.
  early_entry : (ks : List Known) (k at : ℕ) (c : Declaration) (ds : Text) → announced_by x c ≡ false →
      map (λ e. owned e at) (entry_of ks k c (its ds)) ≡ map (λ e. owned e at) (entry_of ks k c ds)
  unfolding body_block
  early_entry ks k at (G.res y n) ds l = refl
  early_entry ks k at (G.bin y n) ds l = refl
  early_entry ks k at (G.sync y) ds l = refl
  early_entry ks k at (G.var y n) ds l = refl
  early_entry ks k at (G.sampler y a b n) ds l = refl
  early_entry ks k at (G.class y G.announced) ds l =
      if_new at (any (named y) ks) (λ e. body_last y k (G.class y G.announced ∷ ds) its_line (same_turned y x ∙ l))
  early_entry ks k at (G.class y (G.body m b)) ds l = rw (same_self y)
  early_entry ks k at (G.entity y n) ds l = refl

  -- The entry is the one of its number among the classes.
  abbrev Fills : (ks : List Known) (k at : ℕ) → Text → Type 0
  Fills ks k at ds =
      (f : Filled (k + opened_in ds) (declarations ks k at ds) (declarations ks k at (its ds)))
      × (number_of (after ks (events ds)) x ≡ tally K.CLASS ks + of_group K.CLASS f.first)

  fills_here : (ds : Text) (ks : List Known) (k at : ℕ) → trouble_in ks (events (G.class x G.announced ∷ ds)) ≡ none →
      any (awaited x) (after ks (events (G.class x G.announced ∷ ds))) ≡ true → Fills ks k at (G.class x G.announced ∷ ds)
  unfolding declarations body_block after knows trouble
  fills_here ds ks k at c g =
      let s = calm_first ks (announces x) (events ds) c in
      let n : any (named x) ks ≡ false = not-true (any (named x) ks) (wants_nothing No.AGAIN _ s.0) in
      let zs : List Known = after ks (announces x ∷ []) in
      let l = class_lasts x G.announced ks n in
      let b = lacking (k + 0) ds (no_body ds zs l s.1 g) in
      let to : ℕ = at + length (declare (G.class x G.announced) []) in (
        record {
          first = [];
          rest = declarations zs (k + 0) to ds;
          owner = at;
          was = rw (n, b.0);
          is = rw (n, b.1, rest_same ds zs (k + 0) to l)
              (ap (λ (m : ℕ). owned (R.CLASS m) at ∷ declarations zs (k + 0) to ds) (omega arith));
        },
        omega (arith, (number_all x (tally K.CLASS ks) zs (events ds) (number_new x true ks ks n)).1),
      )

  fills_first : (d : Declaration) (ds : Text) (ks : List Known) (k at : ℕ) → announced_by x d ≡ true →
      trouble_in ks (events (d ∷ ds)) ≡ none → any (awaited x) (after ks (events (d ∷ ds))) ≡ true → Fills ks k at (d ∷ ds)
  fills_first (G.res y n) ds ks k at e c g = no_way e
  fills_first (G.bin y n) ds ks k at e c g = no_way e
  fills_first (G.sync y) ds ks k at e c g = no_way e
  fills_first (G.var y n) ds ks k at e c g = no_way e
  fills_first (G.sampler y a b n) ds ks k at e c g = no_way e
  fills_first (G.class y G.announced) ds ks k at e c g =
      subst (λ z. trouble_in ks (events (G.class z G.announced ∷ ds)) ≡ none →
      any (awaited x) (after ks (events (G.class z G.announced ∷ ds))) ≡ true → Fills ks k at (G.class z G.announced ∷ ds))
      (same_is x y e) (fills_here ds ks k at) c g
  fills_first (G.class y (G.body l b)) ds ks k at e c g = no_way e
  fills_first (G.entity y n) ds ks k at e c g = no_way e

  fills : (ds : Text) (ks : List Known) (k at : ℕ) → trouble_in ks (events ds) ≡ none → any (awaited x) ks ≡ false →
      any (awaited x) (after ks (events ds)) ≡ true → Fills ks k at ds
  unfolding declarations after
  fills [] ks k at c h g = no_way (sym h ∙ g)
  fills (d ∷ ds) ks k at c h g =
      let s = calm_split ks (in_declaration d) (events ds) c in
      let zs : List Known = after ks (in_declaration d) in
      let to : ℕ = at + length (declare d []) in
      let j : any (awaited x) (after zs (events ds)) ≡ true = rw (after-append ks (in_declaration d) (events ds)) at g in
      go (announced_by x d) refl (λ m. fills ds zs (k + opened_by d) to s.1 m j)
    where
      go : (w : Bool) → announced_by x d ≡ w → (any (awaited x) (after ks (in_declaration d)) ≡ false →
          Fills (after ks (in_declaration d)) (k + opened_by d) (at + length (declare d [])) ds) → Fills ks k at (d ∷ ds)
      go true e i = fills_first d ds ks k at e c g
      go false e i =
          let os : List Owned = map (λ e. owned e at) (entry_of ks k d ds) in
          let zs : List Known = after ks (in_declaration d) in
          let f = i (stays_unawaited x d ks e h) in
          let s = calm_split ks (in_declaration d) (events ds) c in
          let m = ap (λ (js : List Known). number_of js x) (after-append ks (in_declaration d) (events ds)) in
          let p = over-append (λ o. once K.CLASS (group_of o.entry)) os f.0.first in (
            filled_behind os _ (omega arith) (early_entry ks k at d ds e) f.0,
            omega (arith, m, f.1, class_tally ks k at d ds s.0, p),
          )

  pub grown_body : (ds : Text) → trouble_in [] (events ds) ≡ none → any (awaited x) (known_in ds) ≡ true →
      (f : Filled (opened_in ds) (declared ds) (declared (its ds)))
      × (built (its ds) ≡ built ds ++ (owned R.BLOCK (length (lines ds [])) ∷ []))
      × (number_of (known_in ds) x ≡ of_group K.CLASS f.first)
  unfolding blocks
  grown_body ds c g =
      let e : 0 + opened_in ds ≡ opened_in ds = omega arith in
      let f : 0 + length (lines ds []) ≡ length (lines ds []) = omega arith in
      let i = fills ds [] 0 0 c refl g in (
        filled_behind [] [] e refl i.0,
        blocks_last [] 0 0 ds its_line ∙ ap (λ (n : ℕ). built ds ++ (owned R.BLOCK n ∷ [])) f,
        omega (arith, i.1),
      )
