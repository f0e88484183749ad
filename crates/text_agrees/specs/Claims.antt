-- The machine writes a claim as its bytes, and so it does what a start hands over.
-- Assumes nothing.
use Prim.Native.Nat.{ℕ, zero, suc, ◌+◌, ◌/◌, ◌%◌, ◌≤◌, ◌<◌, ◌-◌}
use native.Mathlib.Omega.{arith}
use Rattle.std.proofs.Math.Path.{◌≡◌, refl, sym, ap, subst}
use Rattle.std.proofs.Common.{◌∙◌, length-append}
use mathlib.Core.List.{List, [], ◌∷◌, ◌++◌, map, append_assoc, append-nil}
use Rattle.std.specs.Prelude.{Bool, ◌||◌, if◌then◌else◌}
use Rattle.std.proofs.Math.Bool.{true, false}
use Rattle.std.proofs.Math.Dec.{leb, ltb, eqb}
use Rattle.std.proofs.Math.ListN.{length, set}
use borrow.Author.Tests.{ltb-false, le-ltb, le-leb, ne_eqb}
use Rattle.semantics.specs.Words.{collect}
use Rattle.semantics.specs.Kinds as K
use Rattle.semantics.specs.Model as M
use Rattle.text_semantics.specs.Numbers as No
use Rattle.text_semantics.specs.Token as Tk
use Rattle.text_semantics.specs.Token.{Token, number, mark, name}
use Rattle.text_semantics.specs.Grammar as G
use Rattle.text_semantics.specs.Grammar.{Name, Upto, pair, spell_item, spell_items, spell_claim, spell_signed}
use Rattle.text_semantics.specs.Meaning.{number_of, signed_of, item_of, claim_of}
use Rattle.text_semantics.specs.Written.{two, four, code, relation_number, item_bytes}
use Rattle.text_semantics.specs.Reading.{Symbol, one, a_number, signed_s, relation_s, item_s, claim_s, items_s}
use Rattle.text_semantics.specs.Reading.{sign, upto, name_s, pair_s}
use Rattle.text_machine.specs.Entry.{Draft, KEPT, ASK, asking, put, one_more, put_count}
use Rattle.text_machine.specs.Entry.{is_expression}
use Rattle.text_machine.specs.Entry.{at_sign, at_name, at_number, at_item, getting, with_role, with_aside}
use Rattle.text_machine.specs.Sheet.{blocks_of}
use Rattle.text_machine.specs.Machine.{Reader}
use Rattle.text_agrees.specs.Flow.{flow}
use Rattle.text_agrees.specs.Drafts.{Whole, put-put}
use Rattle.text_agrees.specs.Expressions.{redrafted, next_number, fits_number}

-- A draft with what the next name is for, its count and where that stands, and the number that waits.
abbrev pub shaped : Draft → ℕ → ℕ → ℕ → ℕ → Draft
shaped d role count at aside =
    record {
      line = d.line;
      kind = d.kind;
      role = role;
      body = d.body;
      over = d.over;
      size = d.size;
      count = count;
      at = at;
      aside = aside;
      starts = d.starts;
    }

pub shaped-put : (d : Draft) (p j a q : ℕ) (bs : List ℕ) → put (shaped d p j a q) bs ≡ shaped (put d bs) p j a q
unfolding put
shaped-put d p j a q bs = refl

pub length-map : {A B : Type 0} (f : A → B) (xs : List A) → length (map f xs) ≡ length xs
length-map f [] = refl
length-map f (x ∷ xs) = ap suc (length-map f xs)

pub collect-map : {A B C : Type 0} (f : B → List C) (g : A → B) (xs : List A) → collect f (map g xs) ≡ collect (λ x. f (g x)) xs
collect-map f g [] = refl
collect-map f g (x ∷ xs) = ap (λ (l : List _). f (g x) ++ l) (collect-map f g xs)

-- Counting: a count that stands at the end of ys and before xs.
set_at : (ys : List ℕ) (x z : ℕ) (xs : List ℕ) (n : ℕ) → length ys ≡ n → set (ys ++ (x ∷ xs)) n z ≡ ys ++ (z ∷ xs)
set_at [] x z xs n e = rw (sym e)
set_at (y ∷ ys) x z xs zero e = absurd (omega arith)
set_at (y ∷ ys) x z xs (suc n) e = ap (λ (l : List ℕ). y ∷ l) (set_at ys x z xs n (omega arith))

small : (n : ℕ) → n < 256 → two n ≡ n ∷ 0 ∷ []
small n h =
    let a : n % 256 ≡ n = omega arith in
    let b : n / 256 ≡ 0 = omega arith in rw (a, b)

-- Whether a count of n and what follows it are more than is kept.
abbrev pub too_long : Draft → ℕ → List ℕ → Bool
too_long d n xs = d.over || ltb KEPT (d.size + length (two n ++ xs))

pub still_short : (d : Draft) (n : ℕ) (xs ys : List ℕ) → too_long d n (xs ++ ys) ≡ false → too_long d n xs ≡ false
still_short d n xs ys e = go d.over (ltb KEPT (d.size + length (two n ++ (xs ++ ys)))) refl e
  where
    go : (a b : Bool) → ltb KEPT (d.size + length (two n ++ (xs ++ ys))) ≡ b → a || b ≡ false →
        a || ltb KEPT (d.size + length (two n ++ xs)) ≡ false
    go true b f h = h
    go false true f h = let z : ◌≡◌ {A = ℕ} 0 1 = cc in absurd (omega arith)
    go false false f h =
        let l = ltb-false KEPT (d.size + length (two n ++ (xs ++ ys))) f in
        let m = length-append xs ys in
        le-ltb KEPT (d.size + length (two n ++ xs)) (omega arith)

module _ (d : Draft) (w : Whole d) (n : ℕ) (xs : List ℕ) (few : n ≤ length xs) where
  abbrev long : Bool
  long = too_long d n xs

  short : long ≡ false → (d.over ≡ false) × (d.size + length (two n ++ xs) ≤ KEPT)
  short e = go d.over (ltb KEPT (d.size + length (two n ++ xs))) refl refl e
    where
      go : (a b : Bool) → d.over ≡ a → ltb KEPT (d.size + length (two n ++ xs)) ≡ b → a || b ≡ false →
          (d.over ≡ false) × (d.size + length (two n ++ xs) ≤ KEPT)
      go true b f g h = let z : ◌≡◌ {A = ℕ} 0 1 = cc in absurd (omega arith)
      go false true f g h = let z : ◌≡◌ {A = ℕ} 0 1 = cc in absurd (omega arith)
      go false false f g h = (f, ltb-false KEPT (d.size + length (two n ++ xs)) g)

  -- One more is counted.
  pub counts_more : (p j a q : ℕ) → (long ≡ false → (j ≡ n) × (a ≡ d.size)) → (i : ℕ)
      × (one_more (shaped (put d (two n ++ xs)) p j a q) ≡ shaped (put d (two (suc n) ++ xs)) p i a q)
      × (long ≡ false → (i ≡ suc n) × (a ≡ d.size))
  unfolding put one_more
  counts_more p j a q h = go long refl
    where
      go : (o : Bool) → long ≡ o → (i : ℕ)
          × (one_more (shaped (put d (two n ++ xs)) p j a q) ≡ shaped (put d (two (suc n) ++ xs)) p i a q)
          × (long ≡ false → (i ≡ suc n) × (a ≡ d.size))
      go true e = (j, rw e, λ f. let z : ◌≡◌ {A = ℕ} 0 1 = cc in absurd (omega arith))
      go false e =
          let s = short e in
          let at : a ≡ d.size = (h e).1 in
          let is : j ≡ n = (h e).0 in
          let l : length d.body ≡ d.size = w.sized s.0 in
          let r = s.1 in
          let fit : leb KEPT n ≡ false = le-ltb (KEPT - 1) n (omega arith) in
          let b : set (d.body ++ (two n ++ xs)) d.size (suc n) ≡ d.body ++ (two (suc n) ++ xs) =
          ap (λ (x : List ℕ). set (d.body ++ (x ++ xs)) d.size (suc n)) (small n (omega arith))
          ∙ set_at d.body n (suc n) (0 ∷ xs) d.size l
          ∙ ap (λ (x : List ℕ). d.body ++ (x ++ xs)) (sym (small (suc n) (omega arith))) in
          (suc n, rw (e, is, fit, at, b), λ f. (refl, at))

-- A record that has a claim is neither one with an expression nor a start.
pub record Claiming (kind : ℕ) : Type 0 where
  pub no_expression : is_expression kind ≡ false
  pub no_start : eqb kind K.START ≡ false

-- What its signs, names and numbers do then.
pub nothing_at_bracket : (k : ℕ) (d : Draft) → Claiming d.kind → at_sign k Tk.LP d ≡ d
unfolding at_sign
nothing_at_bracket k d c = rw (c.no_expression, c.no_start)

count_at_bracket : (k : ℕ) (d : Draft) → Claiming d.kind → at_sign k Tk.LS d ≡ put_count d
unfolding at_sign
count_at_bracket k d c = rw c.no_start

asked_name : (i w j a q : ℕ) (d : Draft) → at_name i (shaped d (asking w) j a q) ≡ shaped (put d (two i)) (asking w) j a q
unfolding at_name
asked_name i w j a q d =
    let e : leb ASK (ASK + w) ≡ true = le-leb ASK (ASK + w) (omega arith) in
    rw e (shaped-put d (asking w) j a q (two i))

plain_number : (n : ℕ) (d : Draft) → Claiming d.kind → at_number No.top_number n d ≡ put d (four n)
unfolding at_number
plain_number n d c = rw c.no_start

abbrev pub past_signed : G.Signed → ℕ → ℕ
past_signed (G.upward n) at = suc at
past_signed (G.downward n) at = suc (suc at)

abbrev pub past_item : G.Item → ℕ → ℕ
past_item (G.get_r x n) at = suc (suc (suc (suc (suc (suc at)))))
past_item (G.get_b x n) at = suc (suc (suc (suc (suc (suc at)))))
past_item (G.get_s x n) at = suc (suc (suc (suc (suc (suc at)))))
past_item (G.condition x k n) at = past_signed n (suc (suc at))

abbrev pub past_items : List G.Item → ℕ → ℕ
past_items [] at = at
past_items (i ∷ is) at = past_items is (past_item i (suc at))

abbrev pub past_claim : G.Claim → ℕ → ℕ
past_claim G.nothing at = suc at
past_claim (G.claim i is) at = suc (past_items is (past_item i at))

module _ (place : ℕ → ℕ) (r : Reader) where
  abbrev pub Goes : (List Token → List Token) → (ℕ → ℕ) → List Symbol → List Symbol → Draft → Draft → Type 0
  Goes spelled to ss zs d e =
      (at : ℕ) (ts : List Token) (us : List Symbol) →
      flow place at (spelled ts) (ss ++ us) (redrafted r d) ≡ flow place (to at) ts (zs ++ us) (redrafted r e)

  abbrev pub known : Name → ℕ
  known x = number_of r.known x

  -- A number that had to come.
  pub number_goes : (b : ℕ) (n : Upto b) (d : Draft) →
      Goes (λ ts. number n.value ∷ ts) suc (upto b ∷ []) [] d (at_number b n.value d)
  unfolding flow
  number_goes b n d at ts us =
      ap (λ (ns : List Symbol). flow place (suc at) ts (ns ++ us) (redrafted r (at_number b n.value d)))
      (next_number {s = one (a_number b)} b n.value [] (λ v vs. v) (λ v vs z. refl) _ (leb n.value b) refl (fits_number n))

  -- A name, where one of a kind is asked for.
  pub name_goes : (d : Draft) (w j a q : ℕ) (x : Name) →
      Goes (λ ts. name x ∷ ts) suc (name_s ∷ []) []
      (shaped d (asking w) j a q) (shaped (put d (two (known x))) (asking w) j a q)
  unfolding flow
  name_goes d w j a q x at ts us =
      let e : leb ASK (ASK + w) ≡ true = le-leb ASK (ASK + w) (omega arith) in
      let f : eqb (ASK + w) K.CLASS ≡ false = ne_eqb (ASK + w) K.CLASS (λ z. omega arith) in
      rw (e, f) (ap (λ (y : Draft). flow place (suc at) ts us (redrafted r y)) (shaped-put d (asking w) j a q (two (known x))))

  pub still : (d : Draft) (bs : List ℕ) → Claiming d.kind → Claiming (put d bs).kind
  unfolding put
  still d bs c = c

  -- ( x , n ) where one of a kind is asked for.
  pub pair_goes : (d : Draft) (w j a q : ℕ) (x : Name) (n : G.Number) → Claiming d.kind →
      Goes (pair x n) (λ at. suc (suc (suc (suc (suc at))))) (pair_s No.top_number []) []
      (shaped d (asking w) j a q) (shaped (put d (two (known x) ++ four n.value)) (asking w) j a q)
  unfolding flow
  pair_goes d w j a q x n c at ts us =
      let e : Draft = put d (two (known x)) in
      ap (λ (y : Draft). flow place (suc at) (name x ∷ mark Tk.COMMA ∷ number n.value ∷ mark Tk.RP ∷ ts)
      (name_s ∷ sign Tk.COMMA ∷ upto No.top_number ∷ sign Tk.RP ∷ us) (redrafted r y))
      (nothing_at_bracket (blocks_of r.sheet) (shaped d (asking w) j a q)
      (record { no_expression = c.no_expression; no_start = c.no_start }))
      ∙ name_goes d w j a q x (suc at) (mark Tk.COMMA ∷ number n.value ∷ mark Tk.RP ∷ ts)
      (sign Tk.COMMA ∷ upto No.top_number ∷ sign Tk.RP ∷ us)
      ∙ number_goes No.top_number n (shaped e (asking w) j a q) (suc (suc (suc at))) (mark Tk.RP ∷ ts) (sign Tk.RP ∷ us)
      ∙ ap (λ (y : Draft). flow place (suc (suc (suc (suc (suc at))))) ts us (redrafted r y))
      (plain_number n.value (shaped e (asking w) j a q) (still d (two (known x)) c)
      ∙ shaped-put e (asking w) j a q (four n.value)
      ∙ ap (λ (y : Draft). shaped y (asking w) j a q) (put-put d (two (known x)) (four n.value)))

  -- A signed number.
  pub signed_goes : (d : Draft) (n : G.Signed) → Claiming d.kind →
      Goes (spell_signed n) (past_signed n) (signed_s ∷ []) [] d (put d (four (code (signed_of n))))
  unfolding flow
  signed_goes d (G.upward n) c at ts us =
      ap (λ (ns : List Symbol). flow place (suc at) ts (ns ++ us) (redrafted r (put d (four n.value))))
      (next_number {s = signed_s} No.top_number n.value [] (λ v vs. G.upward v) (λ v vs z. refl) _
      (leb n.value No.top_number) refl
      (fits_number n))
  signed_goes d (G.downward n) c at ts us = number_goes No.top_magnitude n d (suc at) ts us

  -- How far a list has been read that begins with its count, behind what d has: n parts, which are these bytes.
  pub record Reached (d : Draft) (n : ℕ) (xs : List ℕ) (e : Draft) : Type 0 where
    pub role : ℕ
    pub count : ℕ
    pub at : ℕ
    pub aside : ℕ
    pub is : e ≡ shaped (put d (two n ++ xs)) role count at aside
    pub counting : too_long d n xs ≡ false → (count ≡ n) × (at ≡ d.size)
    pub few : n ≤ length xs

  module _ (d : Draft) (w : Whole d) (c : Claiming d.kind) (n : ℕ) (xs : List ℕ) (e : Draft) (h : Reached d n xs e) where
    abbrev counted_one : (i : ℕ)
        × (one_more (shaped (put d (two n ++ xs)) h.role h.count h.at h.aside)
        ≡ shaped (put d (two (suc n) ++ xs)) h.role i h.at h.aside)
        × (too_long d n xs ≡ false → (i ≡ suc n) × (h.at ≡ d.size))
    counted_one = counts_more d w n xs h.few h.role h.count h.at h.aside h.counting

    -- One more is counted, and what is put behind it.
    abbrev grown : List ℕ → Draft
    grown bs = put d (two (suc n) ++ (xs ++ bs))

    one_more_lem : (bs : List ℕ) → put (one_more e) bs ≡ shaped (grown bs) h.role counted_one.0 h.at h.aside
    one_more_lem bs =
        ap (λ (y : Draft). put (one_more y) bs) h.is
        ∙ ap (λ (y : Draft). put y bs) counted_one.1
        ∙ shaped-put (put d (two (suc n) ++ xs)) h.role counted_one.0 h.at h.aside bs
        ∙ ap (λ (y : Draft). shaped y h.role counted_one.0 h.at h.aside) (put-put d (two (suc n) ++ xs) bs)

    -- .. and more behind that.
    grown-put : (bs cs : List ℕ) → put (grown bs) cs ≡ grown (bs ++ cs)
    grown-put bs cs =
        put-put d (two (suc n) ++ (xs ++ bs)) cs
        ∙ ap (λ (l : List ℕ). put d (two (suc n) ++ l)) (append_assoc xs bs cs)

    reached : (bs : List ℕ) (p q : ℕ) → 1 ≤ length bs →
        Reached d (suc n) (xs ++ bs) (shaped (grown bs) p counted_one.0 h.at q)
    reached bs p q l =
        record {
          role = p;
          count = counted_one.0;
          at = h.at;
          aside = q;
          is = refl;
          counting = λ z. counted_one.2 (still_short d (suc n) xs bs z);
          few = let f = h.few in rw (length-append xs bs) (omega arith);
        }

    claiming : (bs : List ℕ) → Claiming (grown bs).kind
    claiming bs = still d (two (suc n) ++ (xs ++ bs)) c

    -- getR, get_b, getS.
    gets : (kind what : ℕ) (x : Name) (k : G.Number) → (f : Draft)
        × Goes (pair x k) (λ at. suc (suc (suc (suc (suc at))))) (pair_s No.top_number []) [] (getting kind what e) f
        × Reached d (suc n) (xs ++ (kind ∷ 0 ∷ (two (known x) ++ four k.value))) f
    gets kind what x k =
        let head : List ℕ = kind ∷ 0 ∷ [] in
        let rest : List ℕ = two (known x) ++ four k.value in
        let i : ℕ = counted_one.0 in (
          shaped (grown (head ++ rest)) (asking what) i h.at h.aside,
          λ at ts us.
              ap (λ (y : Draft). flow place at (pair x k ts) (pair_s No.top_number [] ++ us)
              (redrafted r (with_role y (asking what)))) (one_more_lem head)
              ∙ pair_goes (grown head) what i h.at h.aside x k (claiming head) at ts us
              ∙ ap (λ (y : Draft). flow place (suc (suc (suc (suc (suc at))))) ts us
              (redrafted r (shaped y (asking what) i h.at h.aside)))
              (grown-put head rest),
          reached (head ++ rest) (asking what) h.aside (omega arith),
        )

    -- A condition.
    abbrev at_condition : Name → Draft
    at_condition x = with_aside (put (one_more e) (3 ∷ [])) (known x)

    relation_goes : (k : M.Relation) (y : Draft) →
        Goes (λ ts. mark (G.relation k) ∷ ts) suc (relation_s ∷ []) [] y (put y (relation_number k ∷ two y.aside))
    unfolding flow
    relation_goes M.below y at ts us = refl
    relation_goes M.at_most y at ts us = refl
    relation_goes M.equals y at ts us = refl
    relation_goes M.differs y at ts us = refl
    relation_goes M.at_least y at ts us = refl
    relation_goes M.above y at ts us = refl

    conditions : (x : Name) (k : M.Relation) (v : G.Signed) → (f : Draft)
        × Goes (λ ts. mark (G.relation k) ∷ spell_signed v ts) (λ at. past_signed v (suc at)) (relation_s ∷ signed_s ∷ []) []
        (at_condition x) f
        × Reached d (suc n) (xs ++ (3 ∷ relation_number k ∷ (two (known x) ++ four (code (signed_of v))))) f
    conditions x k v =
        let i : ℕ = counted_one.0 in
        let head : List ℕ = 3 ∷ [] in
        let middle : List ℕ = relation_number k ∷ two (known x) in
        let rest : List ℕ = four (code (signed_of v)) in
        let y : Draft = shaped (grown head) h.role i h.at (known x) in
        let z : Draft = shaped (grown (head ++ middle)) h.role i h.at (known x) in (
          shaped (grown (head ++ middle ++ rest)) h.role i h.at (known x),
          λ at ts us.
              ap (λ (u : Draft). flow place at (mark (G.relation k) ∷ spell_signed v ts) (relation_s ∷ signed_s ∷ us)
              (redrafted r (with_aside u (known x)))) (one_more_lem head)
              ∙ relation_goes k y at (spell_signed v ts) (signed_s ∷ us)
              ∙ ap (λ (u : Draft). flow place (suc at) (spell_signed v ts) (signed_s ∷ us) (redrafted r u))
              (shaped-put (grown head) h.role i h.at (known x) middle
              ∙ ap (λ (u : Draft). shaped u h.role i h.at (known x)) (grown-put head middle))
              ∙ signed_goes z v (claiming (head ++ middle)) (suc at) ts us
              ∙ ap (λ (u : Draft). flow place (past_signed v (suc at)) ts us (redrafted r u))
              (shaped-put (grown (head ++ middle)) h.role i h.at (known x) rest
              ∙ ap (λ (u : Draft). shaped u h.role i h.at (known x)) (grown-put (head ++ middle) rest)),
          reached (head ++ middle ++ rest) h.role (known x) (omega arith),
        )

    abbrev bytes_in : G.Item → List ℕ
    bytes_in i = item_bytes (item_of r.known i)

    -- An item, where one had to come, and where the claim could have ended.
    item_goes : (i : G.Item) → (f : Draft)
        × Goes (spell_item i) (past_item i) (item_s ∷ []) [] e f
        × Goes (spell_item i) (past_item i) (claim_s ∷ []) (items_s ∷ []) e f
        × Reached d (suc n) (xs ++ bytes_in i) f
    unfolding flow
    item_goes (G.get_r x k) =
        let g = gets 0 K.RES x k in
        (g.0, λ at ts us. g.1 (suc at) ts us, λ at ts us. g.1 (suc at) ts (items_s ∷ us), g.2)
    item_goes (G.get_b x k) =
        let g = gets 1 K.BIN x k in
        (g.0, λ at ts us. g.1 (suc at) ts us, λ at ts us. g.1 (suc at) ts (items_s ∷ us), g.2)
    item_goes (G.get_s x k) =
        let g = gets 2 K.SYNC x k in
        (g.0, λ at ts us. g.1 (suc at) ts us, λ at ts us. g.1 (suc at) ts (items_s ∷ us), g.2)
    item_goes (G.condition x k v) =
        let g = conditions x k v in
        (g.0, λ at ts us. g.1 (suc at) ts us, λ at ts us. g.1 (suc at) ts (items_s ∷ us), g.2)

  module _ (d : Draft) (w : Whole d) (c : Claiming d.kind) where
    abbrev each : List G.Item → List ℕ
    each is = collect (λ i. item_bytes (item_of r.known i)) is

    items_go : (is : List G.Item) (n m : ℕ) (xs ys : List ℕ) (e : Draft) → Reached d n xs e → m ≡ length is + n →
        ys ≡ xs ++ each is →
        (f : Draft) × Goes (spell_items is) (past_items is) (items_s ∷ []) (items_s ∷ []) e f × Reached d m ys f
    unfolding flow
    items_go [] n m xs ys e h p q =
        let a : n ≡ m = omega arith in
        let b : xs ≡ ys = sym (q ∙ append-nil xs) in
        (e, λ at ts us. refl, subst (λ (k : ℕ). Reached d k ys e) a (subst (λ (zs : List ℕ). Reached d n zs e) b h))
    items_go (i ∷ is) n m xs ys e h p q =
        let g = item_goes d w c n xs e h i in
        let k = items_go is (suc n) m (xs ++ item_bytes (item_of r.known i)) ys g.0 g.3 (omega arith)
        (q ∙ sym (append_assoc xs (item_bytes (item_of r.known i)) (each is))) in
        (k.0, λ at ts us. g.1 (suc at) (spell_items is ts) (items_s ∷ us) ∙ k.1 (past_item i (suc at)) ts us, k.2)

    abbrev asked : G.Claim → M.Claim
    asked cl = claim_of r.known cl

    begun : Reached d 0 [] (put_count d)
    unfolding put_count put
    begun =
        record {
          role = d.role;
          count = 0;
          at = if d.over || ltb KEPT (d.size + 2) then 0 else d.size;
          aside = d.aside;
          is = refl;
          counting = λ z. (refl, rw z);
          few = omega arith;
        }

    -- A CLAIM from its first bracket to its last.
    pub claim_goes : (cl : G.Claim) → (f : Draft)
        × Goes (λ ts. mark Tk.LS ∷ spell_claim cl ts) (λ at. past_claim cl (suc at)) (sign Tk.LS ∷ claim_s ∷ []) [] d f
        × Reached d (length (asked cl)) (collect item_bytes (asked cl)) f
    unfolding flow
    claim_goes G.nothing = (
      put_count d,
      λ at ts us. ap (λ (y : Draft). flow place (suc (suc at)) ts us (redrafted r (at_item 0 (mark Tk.RS) y)))
          (count_at_bracket (blocks_of r.sheet) d c),
      begun,
    )
    claim_goes (G.claim i is) =
        let g = item_goes d w c 0 [] (put_count d) begun i in
        let l = length-map (item_of r.known) is in
        let k = items_go is 1 (suc (length (map (item_of r.known) is))) (item_bytes (item_of r.known i))
        (collect item_bytes (asked (G.claim i is))) g.0 g.3 (omega arith)
        (ap (λ (l : List ℕ). item_bytes (item_of r.known i) ++ l) (collect-map item_bytes (item_of r.known) is)) in (
          k.0,
          λ at ts us.
              ap (λ (y : Draft). flow place (suc at) (spell_claim (G.claim i is) ts) (claim_s ∷ us) (redrafted r y))
              (count_at_bracket (blocks_of r.sheet) d c)
              ∙ g.2 (suc at) (spell_items is (mark Tk.RS ∷ ts)) us
              ∙ k.1 (past_item i (suc at)) (mark Tk.RS ∷ ts) us,
          k.2,
        )
