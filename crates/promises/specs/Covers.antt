-- The rule of barring (document 02, Three), for all claims: what bars by document 01 still does, nothing bars its equal, and to
-- bar is a strict order. Assumes nothing.
use Rattle.std.specs.Prelude.{ℕ, suc, ◌≤◌, ◌≡◌, refl, List, [], ◌∷◌, Bool, true, false, not, leb, ltb}
use Rattle.std.proofs.Common.{arith, sym, subst, ◌∙◌, ap, leb-true, eqb-true, eq-eqb, ltb-true, lt-ltb, le-leb}
use Rattle.std.proofs.Math.Option.{some}
use Rattle.std.proofs.Math.ListN.{get_elem?}
use Rattle.semantics.specs.Words.{all, any, is_empty}
use Rattle.semantics.specs.Model.{Kind, resource, bin, sync, Claim}
use Rattle.semantics.specs.Claim.{Offer, Name, names_of, same_kind, same_name, strict_part, same_names, amount_of, covers}
use Rattle.semantics.specs.Claim.{covered, bars}
use Rattle.promises.specs.Laws.{no_way, and-true, true-and, or-true, or_left, or_right, not-true, not-false, AllOf, all_map}
use Rattle.promises.specs.Laws.{all_both, all_at, all_hold, all_told, any_has, any_map}

pub not_so : (b : Bool) → (b ≡ true → ⊥) → b ≡ false
not_so true f = absurd (f refl)
not_so false f = refl

-- NAMES that pass the test are the same.
kind_same : (j k : Kind) → same_kind j k ≡ true → j ≡ k
kind_same resource resource e = refl
kind_same resource bin e = no_way e
kind_same resource sync e = no_way e
kind_same bin resource e = no_way e
kind_same bin bin e = refl
kind_same bin sync e = no_way e
kind_same sync resource e = no_way e
kind_same sync bin e = no_way e
kind_same sync sync e = refl

kind_self : (k : Kind) → same_kind k k ≡ true
kind_self resource = refl
kind_self bin = refl
kind_self sync = refl

name_same : (x y : Name) → same_name x y ≡ true → x ≡ y
name_same x y e =
    let a = and-true (same_kind x.kind y.kind) _ e in
    ap (λ k. record { kind = k; number = x.number }) (kind_same x.kind y.kind a.0)
    ∙ ap (λ i. record { kind = y.kind; number = i }) (eqb-true x.number y.number a.1)

name_self : (x : Name) → same_name x x ≡ true
name_self x = true-and (same_kind x.kind x.kind) _ (kind_self x.kind) (eq-eqb x.number x.number refl)

-- PARTS. c names x; and d names all that c names.
abbrev pub names : Claim → Name → Bool
names c x = any (same_name x) (names_of c)

abbrev pub part : Claim → Claim → Bool
part c d = all (names d) (names_of c)

-- What holds of all that the whole names holds of all that a part names.
part_all : (P : Name → Type 0) (c d : Claim) → part c d ≡ true → AllOf P (names_of d) → AllOf P (names_of c)
part_all P c d e h =
    all_map (λ x. names d x ≡ true) P
    (λ x i. any_has P (P x) (same_name x) (λ y s p. subst P (sym (name_same x y s)) p) (names_of d) i h)
    (names_of c) (all_hold (names d) (names_of c) e)

pub own_names : (c : Claim) → AllOf (λ x. names c x ≡ true) (names_of c)
own_names c = each (names_of c)
  where
    each : (xs : List Name) → AllOf (λ x. any (same_name x) xs ≡ true) xs
    each [] = tt
    each (x ∷ xs) = (
      or_left (same_name x x) _ (name_self x),
      all_map (λ y. any (same_name y) xs ≡ true) (λ y. any (same_name y) (x ∷ xs) ≡ true) (λ y e. or_right (same_name y x) _ e)
          xs (each xs),
    )

pub part_self : (c : Claim) → part c c ≡ true
part_self c = all_told (names c) (names_of c) (own_names c)

part_through : (c d e : Claim) → part c d ≡ true → part d e ≡ true → part c e ≡ true
part_through c d e h k =
    all_told (names e) (names_of c) (part_all (λ x. names e x ≡ true) c d h (all_hold (names e) (names_of d) k))

-- COVERING. Both rules, told and found.
abbrev at_most : Claim → Claim → Name → Bool
at_most c d x = leb (amount_of c x) (amount_of d x)

abbrev none_larger : Claim → Claim → Type 0
none_larger c d = AllOf (λ x. amount_of c x ≤ amount_of d x) (names_of c)

abbrev one_smaller : Claim → Claim → Bool
one_smaller c d = any (λ x. ltb (amount_of c x) (amount_of d x)) (names_of c)

module _ (c d : Claim) where
  none_larger_lem : all (at_most c d) (names_of c) ≡ true → none_larger c d
  none_larger_lem e =
      all_map (λ x. at_most c d x ≡ true) (λ x. amount_of c x ≤ amount_of d x) (λ x m. leb-true _ _ m) (names_of c)
      (all_hold (at_most c d) (names_of c) e)

  larger_none : none_larger c d → all (at_most c d) (names_of c) ≡ true
  larger_none l =
      all_told (at_most c d) (names_of c)
      (all_map (λ x. amount_of c x ≤ amount_of d x) (λ x. at_most c d x ≡ true) (λ x m. le-leb _ _ m) (names_of c) l)

  by_part : is_empty (names_of c) ≡ false → part c d ≡ true → part d c ≡ false → covers d c ≡ true
  by_part n h k =
      or_left (strict_part (names_of c) (names_of d)) _
      (true-and (not (is_empty (names_of c))) _ (not-false _ n) (true-and (part c d) _ h (not-false _ k)))

  by_amounts : part c d ≡ true → part d c ≡ true → none_larger c d → one_smaller c d ≡ true → covers d c ≡ true
  by_amounts h k l o =
      or_right (strict_part (names_of c) (names_of d)) _
      (true-and (same_names (names_of c) (names_of d)) _ (true-and (part c d) _ h k)
      (true-and (all (at_most c d) (names_of c)) _ (larger_none l) o))

  covers_has : covers d c ≡ true → (P : Type 0)
      → (is_empty (names_of c) ≡ false → part c d ≡ true → part d c ≡ false → P)
      → (part c d ≡ true → part d c ≡ true → none_larger c d → one_smaller c d ≡ true → P) → P
  covers_has e P f g =
      or-true (strict_part (names_of c) (names_of d)) _ e P
      (λ h.
      let a = and-true (not (is_empty (names_of c))) _ h in
      let b = and-true (part c d) _ a.1 in
      f (not-true _ a.0) b.0 (not-true _ b.1))
      (λ h.
      let a = and-true (same_names (names_of c) (names_of d)) _ h in
      let b = and-true (part c d) _ a.0 in
      let s = and-true (all (at_most c d) (names_of c)) _ a.1 in
      g b.0 b.1 (none_larger_lem s.0) s.1)

-- Who finds something in a list finds it not empty.
any_there : {A : Type 0} (f : A → Bool) (xs : List A) → any f xs ≡ true → is_empty xs ≡ false
any_there f [] e = no_way e
any_there f (x ∷ xs) e = refl

covered_names : (c d : Claim) → covers d c ≡ true → is_empty (names_of c) ≡ false
covered_names c d e = covers_has c d e (is_empty (names_of c) ≡ false) (λ n h k. n) (λ h k l o. any_there _ (names_of c) o)

not_itself : (c : Claim) → covers c c ≡ true → ⊥
not_itself c e =
    covers_has c c e ⊥ (λ n h k. no_way (sym k ∙ part_self c))
    (λ h k l o. any_has (λ x. amount_of c x ≤ amount_of c x) ⊥ (λ x. ltb (amount_of c x) (amount_of c x))
    (λ x t m. omega (arith, ltb-true (amount_of c x) (amount_of c x) t)) (names_of c) o l)

-- c asks for no more than d: a part of what d names, and if that is all of it, no larger amounts.
record Under (c d : Claim) : Type 0 where
  within : part c d ≡ true
  most : part d c ≡ true → none_larger c d

covered_under : (c d : Claim) → covers d c ≡ true → Under c d
covered_under c d e =
    covers_has c d e (Under c d)
    (λ n h k. record { within = h; most = λ i. no_way (sym k ∙ i) })
    (λ h k l o. record { within = h; most = λ i. l })

-- Whatever covers d covers what asks for no more, if that names something.
module _ (c d e : Claim) (u : Under c d) (n : is_empty (names_of c) ≡ false) where
  abbrev AtMostBoth : Name → Type 0
  AtMostBoth x = (amount_of c x ≤ amount_of d x) × (amount_of d x ≤ amount_of e x)

  abbrev AtMostNamed : Name → Type 0
  AtMostNamed x = (amount_of c x ≤ amount_of d x) × (names c x ≡ true)

  -- What is smaller in d than in e is so in c,
  smaller_too : (x : Name) → ltb (amount_of d x) (amount_of e x) ≡ true → AtMostNamed x → one_smaller c e ≡ true
  smaller_too x t m =
      let g = lt-ltb (amount_of c x) (amount_of e x) (omega (arith, m.0, ltb-true (amount_of d x) (amount_of e x) t)) in
      any_map (same_name x) (λ y. ltb (amount_of c y) (amount_of e y))
      (λ y s. subst (λ z. ltb (amount_of c z) (amount_of e z) ≡ true) (name_same x y s) g) (names_of c) m.1

  -- so where all three name the same, amounts decide.
  amounts_under : part d c ≡ true → part d e ≡ true → part e d ≡ true → none_larger d e → one_smaller d e ≡ true
      → covers e c ≡ true
  amounts_under i h k l o =
      by_amounts c e (part_through c d e u.within h) (part_through e d c k i)
      (all_map AtMostBoth (λ x. amount_of c x ≤ amount_of e x) (λ x m. omega (arith, m.0, m.1)) (names_of c)
      (all_both (λ x. amount_of c x ≤ amount_of d x) (λ x. amount_of d x ≤ amount_of e x) (names_of c)
      (u.most i) (part_all _ c d u.within l)))
      (any_has AtMostNamed (one_smaller c e ≡ true) (λ x. ltb (amount_of d x) (amount_of e x)) smaller_too (names_of d) o
      (part_all AtMostNamed d c i
      (all_both (λ x. amount_of c x ≤ amount_of d x) (λ x. names c x ≡ true) (names_of c) (u.most i) (own_names c))))

  under_covered : covers e d ≡ true → covers e c ≡ true
  under_covered g =
      covers_has d e g (covers e c ≡ true)
      (λ m h k. by_part c e n (part_through c d e u.within h) (outside _ _ k (λ i. part_through e c d i u.within)))
      (λ h k l o. split (part d c) refl h k l o)
    where
      outside : (x y : Bool) → x ≡ false → (y ≡ true → x ≡ true) → y ≡ false
      outside x true e f = no_way (sym e ∙ f refl)
      outside x false e f = refl

      split : (b : Bool) → part d c ≡ b → part d e ≡ true → part e d ≡ true → none_larger d e → one_smaller d e ≡ true
          → covers e c ≡ true
      split true i h k l o = amounts_under i h k l o
      split false i h k l o =
          by_part c e n (part_through c d e u.within h) (outside _ _ i (λ j. part_through d e c h j))

-- So what is covered by what is covered is covered.
covers_through : (c d e : Claim) → covers d c ≡ true → covers e d ≡ true → covers e c ≡ true
covers_through c d e h k = under_covered c d e (covered_under c d h) (covered_names c d h) k

-- EQUALS: they name the same things, with the same amounts.
pub record Equal (c d : Claim) : Type 0 where
  pub names : same_names (names_of c) (names_of d) ≡ true
  pub amounts : AllOf (λ x. amount_of c x ≡ amount_of d x) (names_of c)

-- Whatever covers one covers its equal.
equal_covered : (c d e : Claim) → Equal c d → covers e d ≡ true → covers e c ≡ true
equal_covered c d e q h =
    let n = and-true (part c d) (part d c) q.names in
    let m : none_larger c d =
    all_map (λ x. amount_of c x ≡ amount_of d x) (λ x. amount_of c x ≤ amount_of d x) (λ x g. omega arith) (names_of c) q.amounts in
    under_covered c d e (record { within = n.0; most = λ i. m }) (there (names_of d) n.1 (covered_names d e h)) h
  where
    there : (xs : List Name) → all (names c) xs ≡ true → is_empty xs ≡ false → is_empty (names_of c) ≡ false
    there [] g i = no_way (sym i)
    there (x ∷ xs) g i = any_there (same_name x) (names_of c) (and-true (names c x) _ g).0

-- BARRING, of any number of branches.
abbrev by_offer : Offer → Offer → Bool
by_offer x y = covers y.claim x.claim

-- Document 01's rule: every branch of Q names a non-empty, strict part of what some branch of B names.
abbrev by_names : Offer → Offer → Bool
by_names x y = strict_part (names_of x.claim) (names_of y.claim)

abbrev pub bars_by_names : List Offer → List Offer → Bool
bars_by_names b q = all (λ x. any (by_names x) b) q

-- Whoever is barred by it still is.
pub still_bars : (b q : List Offer) → bars_by_names b q ≡ true → bars b q ≡ true
still_bars b q e =
    all_told (covered b) q
    (all_map (λ x. any (by_names x) b ≡ true) (λ x. covered b x ≡ true)
    (λ x h. any_map (by_names x) (by_offer x) (λ y g. or_left _ _ g) b h) q (all_hold (λ x. any (by_names x) b) q e))

-- What is barred by one that is barred is barred.
pub bars_through : (a b q : List Offer) → bars a b ≡ true → bars b q ≡ true → bars a q ≡ true
bars_through a b q h k =
    all_told (covered a) q
    (all_map (λ x. covered b x ≡ true) (λ x. covered a x ≡ true)
    (λ x g. any_has (λ y. covered a y ≡ true) (covered a x ≡ true) (by_offer x)
    (λ y i j. any_map (by_offer y) (by_offer x) (λ z l. covers_through x.claim y.claim z.claim i l) a j)
    b g (all_hold (covered a) b h))
    q (all_hold (covered b) q k))

-- Of some branches one is covered by none of them.
record Highest (os : List Offer) : Type 0 where
  one : Offer
  at : ℕ
  there : get_elem? os at ≡ some one
  by_none : covered os one ≡ false

highest : (o : Offer) (os : List Offer) → Highest (o ∷ os)
highest o [] = record { one = o; at = 0; there = refl; by_none = not_so (covered (o ∷ []) o) alone }
  where
    alone : covered (o ∷ []) o ≡ true → ⊥
    alone e = or-true (by_offer o o) false e ⊥ (not_itself o.claim) (λ f. no_way f)
highest o (p ∷ os) = by (highest p os)
  where
    by : Highest (p ∷ os) → Highest (o ∷ p ∷ os)
    by h = split (by_offer h.one o) refl
      where
        -- o covers what was the highest: whatever covers o would cover that too.
        none_over : by_offer h.one o ≡ true → covered (o ∷ p ∷ os) o ≡ true → ⊥
        none_over e f =
            let c : Claim = h.one.claim in
            or-true (by_offer o o) (covered (p ∷ os) o) f ⊥ (not_itself o.claim)
            (λ g. no_way (sym h.by_none
            ∙ any_map (by_offer o) (by_offer h.one) (λ y k. covers_through c o.claim y.claim e k) (p ∷ os) g))

        split : (b : Bool) → by_offer h.one o ≡ b → Highest (o ∷ p ∷ os)
        split false e = record { one = h.one; at = suc h.at; there = h.there; by_none = rw e h.by_none }
        split true e = record { one = o; at = 0; there = refl; by_none = not_so (covered (o ∷ p ∷ os) o) (none_over e) }

-- Nobody bars its equal: Q is that of B if each branch of B has its equal among Q's.
pub record EqualIn (q : List Offer) (y : Offer) : Type 0 where
  pub other : Offer
  pub at : ℕ
  pub there : get_elem? q at ≡ some other
  pub equal : Equal y.claim other.claim

pub never_equal : (b q : List Offer) → is_empty q ≡ false → AllOf (EqualIn q) b → bars b q ≡ false
never_equal b [] n h = no_way (sym n)
never_equal [] (x ∷ xs) n h = refl
never_equal (y ∷ ys) (x ∷ xs) n h = not_so (bars (y ∷ ys) (x ∷ xs)) (λ e. no_way (sym top.by_none ∙ covered_too e))
  where
    top : Highest (y ∷ ys)
    top = highest y ys

    covered_too : bars (y ∷ ys) (x ∷ xs) ≡ true → covered (y ∷ ys) top.one ≡ true
    covered_too e =
        let m = all_at (EqualIn (x ∷ xs)) (y ∷ ys) top.at top.one h top.there in
        any_map (by_offer m.other) (by_offer top.one)
        (λ z g. equal_covered top.one.claim m.other.claim z.claim m.equal g) (y ∷ ys)
        (all_at (λ z. covered (y ∷ ys) z ≡ true) (x ∷ xs) m.at m.other (all_hold (covered (y ∷ ys)) (x ∷ xs) e) m.there)
