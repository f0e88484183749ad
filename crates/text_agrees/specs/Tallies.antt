-- How many names of each kind are known, by the records that have been counted: so there is room for all of them.
-- Assumes nothing.
use Rattle.std.specs.Prelude.{ℕ, zero, suc, ◌+◌, ◌≤◌, ◌<◌, ◌≡◌, refl, List, [], ◌∷◌, ◌++◌, map, Bool, true, false, not, eqb, length, get_or, replicate, if◌then◌else◌}
use Rattle.std.proofs.Common.{arith, sym, ◌∙◌, ap, length-set, length-append, get_or-set_same, get_or-set_other, eqb-true, eq-eqb, ne_eqb}
use Rattle.std.proofs.lemmas.List.{length-map}
use Rattle.std.proofs.lemmas.Bool.{eqb-false}
use Rattle.semantics.specs.Words.{keep}
use Rattle.semantics.specs.Words as W
use Rattle.semantics.specs.Kinds as K
use Rattle.semantics.specs.Numbers as F
use Rattle.semantics.specs.Decode.{none_seen}
use Rattle.text_semantics.specs.Grammar.{Name}
use Rattle.text_semantics.specs.Names.{Known, LOCAL, stays, bodied, one_more}
use Rattle.text_machine.specs.Machine.{most_names}
use Rattle.text_agrees.specs.Seen.{naming, Same}

-- How many are of a kind.
abbrev pub tally : ℕ → List Known → ℕ
tally w ks = length (keep (λ k. eqb w k.what) ks)

abbrev pub one_if : Bool → ℕ
one_if b = if b then 1 else 0

tally-cons : (w : ℕ) (k : Known) (ks : List Known) → tally w (k ∷ ks) ≡ one_if (eqb w k.what) + tally w ks
tally-cons w k ks = go (eqb w k.what)
  where
    go : (b : Bool) → length (if b then k ∷ keep (λ j. eqb w j.what) ks else keep (λ j. eqb w j.what) ks)
        ≡ one_if b + tally w ks
    go true = omega arith
    go false = omega arith

tally-append : (w : ℕ) (ks js : List Known) → tally w (ks ++ js) ≡ tally w ks + tally w js
tally-append w [] js = omega arith
tally-append w (k ∷ ks) js = omega (arith, tally-cons w k ks, tally-cons w k (ks ++ js), tally-append w ks js)

pub tally_more : (v w : ℕ) (x : Name) (b : Bool) (ks : List Known) → tally v (one_more ks w x b) ≡ tally v ks + one_if (eqb v w)
tally_more v w x b ks =
    let k : Known = record { name = x; what = w; number = tally w ks; lacks = b } in
    omega (arith, tally-append v ks (k ∷ []), tally-cons v k [])

pub tally-bodied : (w : ℕ) (x : Name) (ks : List Known) → tally w (map (bodied x) ks) ≡ tally w ks
tally-bodied w x [] = refl
tally-bodied w x (k ∷ ks) =
    omega (arith, tally-cons w k ks, tally-cons w (bodied x k) (map (bodied x) ks), tally-bodied w x ks)

-- What stays when a class body ends.
no_local : (w v : ℕ) → (w ≡ LOCAL → ⊥) → v ≡ LOCAL → one_if (eqb w v) ≡ 0
no_local w v n e = ap one_if (ne_eqb w v (λ f. n (f ∙ e)))

tally-stays : (w : ℕ) → (w ≡ LOCAL → ⊥) → (ks : List Known) → tally w (keep stays ks) ≡ tally w ks
tally-stays w n [] = refl
tally-stays w n (k ∷ ks) = go (eqb k.what LOCAL) refl (tally-stays w n ks)
  where
    go : (b : Bool) → eqb k.what LOCAL ≡ b → tally w (keep stays ks) ≡ tally w ks →
        tally w (if not b then k ∷ keep stays ks else keep stays ks) ≡ tally w (k ∷ ks)
    go true e h = omega (arith, tally-cons w k ks, no_local w k.what n (eqb-true k.what LOCAL e))
    go false e h = omega (arith, tally-cons w k ks, tally-cons w k (keep stays ks))

locals_stay : (ks : List Known) → (tally LOCAL (keep stays ks) ≡ 0) × (length (keep stays ks) + tally LOCAL ks ≡ length ks)
locals_stay [] = (refl, refl)
locals_stay (k ∷ ks) = go (eqb k.what LOCAL) refl (locals_stay ks)
  where
    go : (b : Bool) → eqb k.what LOCAL ≡ b →
        (tally LOCAL (keep stays ks) ≡ 0) × (length (keep stays ks) + tally LOCAL ks ≡ length ks) →
        (tally LOCAL (if not b then k ∷ keep stays ks else keep stays ks) ≡ 0)
        × (length (if not b then k ∷ keep stays ks else keep stays ks) + tally LOCAL (k ∷ ks) ≡ suc (length ks))
    go true e h =
        let f : one_if (eqb LOCAL k.what) ≡ 1 = ap one_if (eq-eqb LOCAL k.what (sym (eqb-true k.what LOCAL e))) in
        (h.0, omega (arith, tally-cons LOCAL k ks))
    go false e h =
        let f : one_if (eqb LOCAL k.what) ≡ 0 =
        ap one_if (ne_eqb LOCAL k.what (λ g. eqb-false k.what LOCAL e (sym g))) in
        (omega (arith, tally-cons LOCAL k (keep stays ks)), omega (arith, tally-cons LOCAL k ks))

-- THE COUNTS. Every kind of names has as many as its records that have been counted, and one more if it is q, the kind whose
-- declaration is being read behind its name; l locals are known; and no kind has more than it may have.
abbrev pub limit : ℕ → ℕ
limit w = if eqb w K.CLASS then F.most_classes else if eqb w K.SAMPLER then F.most_samplers else F.most_things

abbrev pub total : (ℕ → ℕ) → ℕ
total f = f LOCAL + f K.RES + f K.BIN + f K.SYNC + f K.VAR + f K.CLASS + f K.SAMPLER

pub record Counted (q l : ℕ) (ks : List Known) (xs : List ℕ) : Type 0 where
  pub sized : length xs ≡ K.groups
  pub locals : tally LOCAL ks ≡ l
  pub kinds : (w : ℕ) → naming w ≡ true → tally w ks ≡ get_or xs w 0 + one_if (eqb w q)
  pub limits : (w : ℕ) → naming w ≡ true → get_or xs w 0 ≤ limit w
  pub whole : length ks ≡ total (λ w. tally w ks)

pub data Thing : ℕ → Type 0 where
  res : Thing K.RES
  bin : Thing K.BIN
  sync : Thing K.SYNC
  var : Thing K.VAR
  class : Thing K.CLASS
  sampler : Thing K.SAMPLER

-- THE CHANGES. Counts of other kinds, or none.
module _ {q l : ℕ} {ks : List Known} {xs : List ℕ} (c : Counted q l ks xs) where
  pub counted_same : {ys : List ℕ} → Same xs ys → Counted q l ks ys
  counted_same a =
      record {
        sized = a.sized ∙ c.sized;
        locals = c.locals;
        kinds = λ w h. c.kinds w h ∙ ap (λ (n : ℕ). n + one_if (eqb w q)) (sym (a.kept w h));
        limits = λ w h. omega (arith, a.kept w h, c.limits w h);
        whole = c.whole;
      }

not_local : (w : ℕ) → naming w ≡ true → w ≡ LOCAL → ⊥
not_local w h e = let z : ◌≡◌ {A = ℕ} 0 1 = cc in omega arith

thing_group : {w : ℕ} → Thing w → w < K.groups
thing_group res = omega arith
thing_group bin = omega arith
thing_group sync = omega arith
thing_group var = omega arith
thing_group class = omega arith
thing_group sampler = omega arith

no_thing_local : {w : ℕ} → Thing w → one_if (eqb LOCAL w) ≡ 0
no_thing_local res = refl
no_thing_local bin = refl
no_thing_local sync = refl
no_thing_local var = refl
no_thing_local class = refl
no_thing_local sampler = refl

thing_once : {w : ℕ} → Thing w → total (λ v. one_if (eqb v w)) ≡ 1
thing_once res = refl
thing_once bin = refl
thing_once sync = refl
thing_once var = refl
thing_once class = refl
thing_once sampler = refl

total_sum : (f g h : ℕ → ℕ) → ((w : ℕ) → f w ≡ g w + h w) → total f ≡ total g + total h
total_sum f g h e = omega (arith, e LOCAL, e K.RES, e K.BIN, e K.SYNC, e K.VAR, e K.CLASS, e K.SAMPLER)

whole_more : (w : ℕ) (x : Name) (b : Bool) (ks : List Known) → total (λ v. one_if (eqb v w)) ≡ 1 →
    length ks ≡ total (λ v. tally v ks) → length (one_more ks w x b) ≡ total (λ v. tally v (one_more ks w x b))
whole_more w x b ks e h =
    let n : length (one_more ks w x b) ≡ length ks + 1 = length-append ks _ in
    omega (
      arith,
      total_sum (λ v. tally v (one_more ks w x b)) (λ v. tally v ks) (λ v. one_if (eqb v w))
          (λ v. tally_more v w x b ks),
    )

module _ {l : ℕ} {ks : List Known} {xs : List ℕ} (c : Counted 0 l ks xs) where
  -- No declaration is being read.
  counted_none : (w : ℕ) → naming w ≡ true → tally w ks ≡ get_or xs w 0
  counted_none w h = omega (arith, c.kinds w h, ap one_if (ne_eqb w 0 (not_local w h)))

  -- A name is declared.
  pub counted_named : {w : ℕ} → Thing w → (x : Name) (b : Bool) → Counted w l (one_more ks w x b) xs
  counted_named {w = w} t x b =
      record {
        sized = c.sized;
        locals = omega (arith, tally_more LOCAL w x b ks, no_thing_local t, c.locals);
        kinds = λ v h. tally_more v w x b ks ∙ ap (λ (n : ℕ). n + one_if (eqb v w)) (counted_none v h);
        limits = c.limits;
        whole = whole_more w x b ks (thing_once t) c.whole;
      }

  -- A local is declared.
  pub counted_local : (x : Name) (b : Bool) → Counted 0 (suc l) (one_more ks LOCAL x b) xs
  counted_local x b =
      record {
        sized = c.sized;
        locals = omega (arith, tally_more LOCAL LOCAL x b ks, c.locals);
        kinds = λ v h. tally_more v LOCAL x b ks ∙ ap (λ (n : ℕ). n + one_if (eqb v LOCAL)) (counted_none v h);
        limits = c.limits;
        whole = whole_more LOCAL x b ks refl c.whole;
      }

  -- A class gets its body.
  pub counted_bodied : (x : Name) → Counted 0 l (map (bodied x) ks) xs
  counted_bodied x =
      record {
        sized = c.sized;
        locals = tally-bodied LOCAL x ks ∙ c.locals;
        kinds = λ w h. tally-bodied w x ks ∙ c.kinds w h;
        limits = c.limits;
        whole =
            let m = length-map ks (bodied x) in
            omega (
              arith,
              c.whole,
              total_sum (λ w. tally w (map (bodied x) ks)) (λ w. tally w ks) (λ w. 0)
                  (λ w. omega (arith, tally-bodied w x ks)),
            );
      }

  -- A class body ends.
  pub counted_left : Counted 0 0 (keep stays ks) xs
  counted_left =
      let m = locals_stay ks in
      let st : (w : ℕ) → naming w ≡ true → tally w (keep stays ks) ≡ tally w ks = λ w h. tally-stays w (not_local w h) ks in
      record {
        sized = c.sized;
        locals = m.0;
        kinds = λ w h. st w h ∙ c.kinds w h;
        limits = c.limits;
        whole =
            omega (
              arith,
              c.whole,
              m.0,
              m.1,
              st K.RES refl,
              st K.BIN refl,
              st K.SYNC refl,
              st K.VAR refl,
              st K.CLASS refl,
              st K.SAMPLER refl,
            );
      }

-- Before the first token.
none_seen_lem : (n w : ℕ) → ◌≡◌ {A = ℕ} (get_or (replicate n 0) w 0) 0
none_seen_lem zero w = refl
none_seen_lem (suc n) zero = refl
none_seen_lem (suc n) (suc w) = none_seen_lem n w

pub counted_first : Counted 0 0 [] none_seen
counted_first =
    record {
      sized = refl;
      locals = refl;
      kinds = λ w h. omega (arith, none_seen_lem K.groups w, ap one_if (ne_eqb w 0 (not_local w h)));
      limits = λ w h. omega (arith, none_seen_lem K.groups w);
      whole = refl;
    }

-- A record is counted.
pub more_at : (xs : List ℕ) (w : ℕ) → w < length xs → get_or (W.more xs w 1) w 0 ≡ get_or xs w 0 + 1
more_at xs w h = get_or-set_same xs w (get_or xs w 0 + 1) 0 h

counted_at : (xs : List ℕ) (w v : ℕ) → w < length xs → get_or (W.more xs w 1) v 0 ≡ get_or xs v 0 + one_if (eqb v w)
counted_at xs w v h = go (eqb v w) refl
  where
    go : (b : Bool) → eqb v w ≡ b → get_or (W.more xs w 1) v 0 ≡ get_or xs v 0 + one_if b
    go true e = rw (eqb-true v w e) (more_at xs w h)
    go false e = omega (arith, get_or-set_other xs w v (get_or xs w 0 + 1) 0 (eqb-false v w e))

pub counted_more : {w l : ℕ} {ks : List Known} {xs : List ℕ} → Thing w → Counted w l ks xs → get_or xs w 0 < limit w →
    Counted 0 l ks (W.more xs w 1)
counted_more {w = w} {xs = xs} t c h =
    let m : w < length xs = omega (arith, c.sized, thing_group t) in
    record {
      sized = length-set xs w (get_or xs w 0 + 1) ∙ c.sized;
      locals = c.locals;
      kinds = λ v g.
          omega (arith, c.kinds v g, counted_at xs w v m, ap one_if (ne_eqb v 0 (not_local v g)));
      limits = λ v g. go v (eqb v w) refl (counted_at xs w v m) (c.limits v g);
      whole = c.whole;
    }
  where
    go : (v : ℕ) (b : Bool) → eqb v w ≡ b → get_or (W.more xs w 1) v 0 ≡ get_or xs v 0 + one_if (eqb v w) → get_or xs v 0 ≤ limit v →
        get_or (W.more xs w 1) v 0 ≤ limit v
    go v true e f g =
        rw (eqb-true v w e)
        (omega (arith, more_at xs w (omega (arith, c.sized, thing_group t))))
    go v false e f g = omega (arith, ap one_if e)

-- THE ROOM: where no declaration is being read behind its name there is room for one name more.
counted_length : {q l : ℕ} {ks : List Known} {xs : List ℕ} → Counted q l ks xs → l ≤ F.locals →
    length ks + one_if (eqb LOCAL q) < most_names + total (λ w. one_if (eqb w q))
counted_length c h =
    omega (
      arith,
      c.kinds K.RES refl,
      c.kinds K.BIN refl,
      c.kinds K.SYNC refl,
      c.kinds K.VAR refl,
      c.kinds K.CLASS refl,
      c.kinds K.SAMPLER refl,
      c.limits K.RES refl,
      c.limits K.BIN refl,
      c.limits K.SYNC refl,
      c.limits K.VAR refl,
      c.limits K.CLASS refl,
      c.limits K.SAMPLER refl,
      c.whole,
      c.locals,
    )

pub counted_room : {l : ℕ} {ks : List Known} {xs : List ℕ} → Counted 0 l ks xs → l ≤ F.locals → length ks < most_names
counted_room c h = omega (arith, counted_length c h)

pub counted_most : {w l : ℕ} {ks : List Known} {xs : List ℕ} → Thing w → Counted w l ks xs → l ≤ F.locals → length ks ≤ most_names
counted_most t c h = omega (arith, counted_length c h, thing_once t, no_thing_local t)
