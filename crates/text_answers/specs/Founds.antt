-- What the machine finds of a line's record, by the kind of the line: an action, a declaration, or a class.
-- Assumes nothing.
use Rattle.std.specs.Prelude.{ℕ, zero, suc, ◌+◌, ◌≤◌, ◌<◌, ◌≡◌, refl, List, [], ◌∷◌, ◌++◌, Bool, true, false, not, ◌&&◌, ◌||◌, ◌⊎◌, eqb, ltb, get_or}
use Rattle.std.proofs.Common.{arith, sym, ◌∙◌, ap, inl, inr, ltb-true, ltb-false}
use Rattle.semantics.specs.Numbers as F
use Rattle.semantics.specs.Kinds as K
use Rattle.semantics.specs.Record as R
use Rattle.semantics.specs.Record.{Entry}
use Rattle.promises.specs.Laws.{no_way, AllOf, and-true, over-append, once, once_apart, once_self, once_same}
use Rattle.promises.specs.Counted.{group_of, limits}
use Rattle.text_semantics.specs.Meaning.{Owned}
use Rattle.text_machine.specs.Entry.{Draft}
use Rattle.text_promises.specs.Judged.{good, most, of_group, declares}
use Rattle.text_answers.specs.Cutting.{Joined, Found}

not_is : (b : Bool) → not b ≡ false → b ≡ true
not_is true e = refl
not_is false e = no_way (sym e)

is_not : (b : Bool) → not b ≡ true → b ≡ false
is_not true e = no_way e
is_not false e = refl

one_not : (x y : Bool) → x && y ≡ false → (x ≡ false) ⊎ (y ≡ false)
one_not true y e = inr e
one_not false y e = inl refl

-- In blocks nothing is declared.
pub none_declared : (os : List Owned) (e : Entry) → AllOf (λ o. declares o.entry ≡ false) os → declares e ≡ true →
    of_group (group_of e) os ≡ 0
none_declared [] e h k = refl
none_declared (o ∷ os) e h k =
    let a = none_declared os e h.1 k in
    let b = once_apart (group_of e) (group_of o.entry) (λ z.
    no_way (sym h.0 ∙ ap (λ g. not (eqb g K.BLOCK || eqb g K.ACTION)) (sym z) ∙ k)) in
    omega arith

module _ {old new : List Owned} (j : Joined old new) where
  abbrev group : ℕ
  group = group_of j.o.entry

  abbrev its : ℕ → ℕ
  its g = once g group

  pub count : (g : ℕ) (xs ys : List Owned) → of_group g (xs ++ ys) ≡ of_group g xs + of_group g ys
  count g xs ys = over-append (λ o. once g (group_of o.entry)) xs ys

  -- How many there are of a group.
  pub grown : (g : ℕ) → of_group g new + of_group g j.ps ≡ of_group g old + its g + of_group g j.more
  grown g =
      omega (
        arith,
        ap (of_group g) j.was,
        ap (of_group g) j.is,
        count g j.first (j.ps ++ j.rest),
        count g j.ps j.rest,
        count g j.first (j.o ∷ (j.rest ++ j.more)),
        count g j.rest j.more,
      )

  pub no_more : (g : ℕ) → (g ≡ K.BLOCK → ⊥) → of_group g j.more ≡ 0
  no_more g h = go j.more j.opened
    where
      go : (os : List Owned) → (os ≡ []) ⊎ ((b : Owned) × (os ≡ b ∷ []) × (b.entry ≡ R.BLOCK)) → of_group g os ≡ 0
      go os (inl e) = ap (of_group g) e
      go os (inr (b, e, f)) =
          let a = ap (λ x. once g (group_of x)) f in
          omega (arith, ap (of_group g) e, once_apart g K.BLOCK h)

  -- As many as there were, where it is of another group.
  as_before : (g : ℕ) → (g ≡ K.BLOCK → ⊥) → (g ≡ group → ⊥) → of_group g new ≤ of_group g old
  as_before g h k = omega (arith, grown g, no_more g h, once_apart g group k)

  module _ (place : ℕ → ℕ) (d : Draft) (roomy : (g : ℕ) → of_group g old ≤ get_or limits g 0)
      (line : (b : Owned) → j.more ≡ b ∷ [] → d.line ≡ place b.owner) where
    no_class : (K.CLASS ≡ group → ⊥) → F.most_classes < of_group K.CLASS new → ⊥
    no_class h m = omega (arith, as_before K.CLASS (λ e. omega arith) h, roomy K.CLASS)

    -- AN ACTION is looked at by itself.
    pub found_action : (f : Bool) → f ≡ not (good j.o.entry) → group ≡ K.ACTION → d.line ≡ place j.o.owner →
        Found place old new j d f
    found_action f e k l =
        record {
          apart = λ b. omega (arith, b, k);
          sound = λ h. not_is (good j.o.entry) (sym e ∙ h);
          few = λ h g a b c. (let x = as_before g c (λ i. b (i ∙ k)) in let y = roomy g in omega arith);
          at_fault = λ h. (l, inl (is_not (good j.o.entry) (sym e ∙ h)));
          classes = λ m. absurd (no_class (λ i. omega (arith, i, k)) m);
          line = line;
        }

    -- A DECLARATION with those of its group before it, of which none stands behind it.
    pub found_declaration : (f : Bool) → f ≡ not (ltb (of_group group old) (most j.o.entry) && good j.o.entry) →
        (K.CLASS ≡ group → ⊥) → (K.BLOCK ≡ group → ⊥) → j.ps ≡ [] → of_group group (j.rest ++ j.more) ≡ 0 →
        d.line ≡ place j.o.owner → Found place old new j d f
    found_declaration f e nc nb ps last l =
        record {
          apart = λ b. nb (sym b);
          sound = λ h. (parts h).1;
          few = λ h g a b c. go h g c (its g) refl;
          at_fault = λ h.
              (l, either (one_not (ltb (of_group group old) (most j.o.entry)) (good j.o.entry) (is_not _ (sym e ∙ h))));
          classes = λ m. absurd (no_class nc m);
          line = line;
        }
      where
        parts : f ≡ false → (ltb (of_group group old) (most j.o.entry) ≡ true) × (good j.o.entry ≡ true)
        parts h = and-true (ltb (of_group group old) (most j.o.entry)) (good j.o.entry) (not_is _ (sym e ∙ h))

        one_more : (g : ℕ) → (g ≡ K.BLOCK → ⊥) → of_group g new ≡ of_group g old + its g
        one_more g c = omega (arith, grown g, no_more g c, ap (of_group g) ps)

        go : f ≡ false → (g : ℕ) → (g ≡ K.BLOCK → ⊥) → (n : ℕ) → its g ≡ n → of_group g new ≤ get_or limits g 0
        go h g c zero i = omega (arith, one_more g c, roomy g)
        go h g c (suc n) i =
            let s = once_same g group (omega arith) in
            let a = ltb-true (of_group group old) (most j.o.entry) (parts h).0 in
            omega (arith, one_more g c, ap (λ x. of_group x old) s, ap (λ x. get_or limits x 0) s, ap its s, once_self group)

        either : (ltb (of_group group old) (most j.o.entry) ≡ false) ⊎ (good j.o.entry ≡ false) →
            (good j.o.entry ≡ false) ⊎ ((most j.o.entry < of_group group new) × (of_group group (j.rest ++ j.more) ≡ 0))
        either (inr g) = inl g
        either (inl g) =
            let a = ltb-false (of_group group old) (most j.o.entry) g in
            inr (omega (arith, one_more group (λ i. nb (sym i)), once_self group), last)

    -- A CLASS is looked at by the number of classes only.
    pub found_class : group ≡ K.CLASS → good j.o.entry ≡ true →
        (F.most_classes < of_group K.CLASS new → (d.line ≡ place j.o.owner) × (of_group K.CLASS (j.rest ++ j.more) ≡ 0)) →
        Found place old new j d false
    found_class k g h =
        record {
          apart = λ b. omega (arith, b, k);
          sound = λ e. g;
          few = λ e i a b c. (let x = as_before i c (λ q. a (q ∙ k)) in let y = roomy i in omega arith);
          at_fault = λ e. no_way e;
          classes = λ m. ((h m).0, k, (h m).1);
          line = line;
        }
