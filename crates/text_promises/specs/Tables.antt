-- Reading by a table: what is read is written there, what is written is read, and what the pile of a reader knows of both.
-- Assumes nothing.
use Rattle.std.specs.Prelude.{ℕ, suc, ◌<◌, ◌≤◌, ◌≡◌, length, take}
use native.Mathlib.Omega.{arith}
use Rattle.std.proofs.Math.Path.{refl, sym}
use Rattle.std.proofs.Common.{◌∙◌, ap, subst}
use mathlib.Core.List.{List, [], ◌∷◌, ◌++◌}
use Rattle.std.proofs.Math.Option.{Option, none, some}
use Rattle.text_semantics.specs.Table.{Result, right, wrong, Values, front, back, some_values, says, Rule, made, onward}
use Rattle.text_semantics.specs.Table.{through, read}

-- RESULTS. What is read, complete or completed.
abbrev pub completed : {A : Type 0} → Result A → A
completed (right v) = v
completed (wrong n v) = v

-- Of so many tokens each fits.
abbrev pub AllFit : {A : Type 0} → ℕ → Result A → Type 0
AllFit m (right v) = Unit {0}
AllFit m (wrong n v) = n ≡ m

-- Of so many tokens one doesn't fit.
abbrev pub OneMisfits : {A : Type 0} → ℕ → Result A → Type 0
OneMisfits m (right v) = ⊥
OneMisfits m (wrong n v) = n < m

-- Where there is a pile, what becomes of it.
abbrev pub and_then : {A : Type 0} → Option A → (A → Option A) → Option A
and_then none f = none
and_then (some a) f = f a

then_same : {A : Type 0} (o : Option A) → and_then o (λ a. some a) ≡ o
then_same none = refl
then_same (some a) = refl

-- Nothing is both of two forms.
pub wrong-right : {A P : Type 0} {n : ℕ} {v w : A} → wrong n v ≡ right w → P
wrong-right {n = n} {v = v} {w = w} e = let z : ◌≡◌ {A = ℕ} 0 1 = cc in absurd (omega arith)

pub nil-cons : {A P : Type 0} {x : A} {xs : List A} → [] ≡ x ∷ xs → P
nil-cons {x = x} {xs = xs} e = let z : ◌≡◌ {A = ℕ} 0 1 = cc in absurd (omega arith)

fit_and_misfit : {A P : Type 0} (m : ℕ) (o : Result A) → AllFit m o → OneMisfits m o → P
fit_and_misfit m (right v) f g = absurd g
fit_and_misfit m (wrong n v) f g = absurd (omega arith)

-- VALUES of two rows of symbols, one behind the other.
module _ {S : Type 0} (Of : S → Type 0) where
  abbrev join : (ss zs : List S) → Values Of ss → Values Of zs → Values Of (ss ++ zs)
  join [] zs a b = b
  join (s ∷ ss) zs a b = (a.0, join ss zs a.1 b)

  front-join : (ss zs : List S) (a : Values Of ss) (b : Values Of zs) → front Of ss zs (join ss zs a b) ≡ a
  front-join [] zs a b = refl
  front-join (s ∷ ss) zs a b = ap (λ (x : Values Of ss). (a.0, x)) (front-join ss zs a.1 b)

  back-join : (ss zs : List S) (a : Values Of ss) (b : Values Of zs) → back Of ss zs (join ss zs a b) ≡ b
  back-join [] zs a b = refl
  back-join (s ∷ ss) zs a b = back-join ss zs a.1 b

  module _ {K : Type 0} (say : (s : S) → Of s → List K → List K) where
    says_split : (ss zs : List S) (vs : Values Of (ss ++ zs)) (r : List K)
        → says Of say (ss ++ zs) vs r ≡ says Of say ss (front Of ss zs vs) (says Of say zs (back Of ss zs vs) r)
    says_split [] zs vs r = refl
    says_split (s ∷ ss) zs vs r = ap (λ x. say s vs.0 x) (says_split ss zs vs.1 r)

    says-join : (ss zs : List S) (a : Values Of ss) (b : Values Of zs) (r : List K)
        → says Of say (ss ++ zs) (join ss zs a b) r ≡ says Of say ss a (says Of say zs b r)
    says-join [] zs a b r = refl
    says-join (s ∷ ss) zs a b r = ap (λ x. say s a.0 x) (says-join ss zs a.1 b r)

    -- What a rule makes is written as its token and what is made of.
    says-made : (s : S) (t : K) (ss : List S) (p : Rule Of say s t) (vs : Values Of (p.next ++ ss)) (r : List K)
        → says Of say (s ∷ ss) (made Of say s t ss p vs) r ≡ t ∷ says Of say (p.next ++ ss) vs r
    says-made s t ss p vs r =
        p.law (front Of p.next ss vs) (says Of say ss (back Of p.next ss vs) r)
        ∙ ap (λ x. t ∷ x) (sym (says_split p.next ss vs r))

    -- How v begins, by what t may begin at s.
    abbrev pub At : (s : S) (t : K) → Of s → Option (Rule Of say s t) → Type 0
    At s t v none = ⊥
    At s t v (some p) = (vs : Values Of p.next) × (p.make vs ≡ v)

    -- v begins with a token that finds its rule.
    abbrev pub Begins : ((s : S) (t : K) → Option (Rule Of say s t)) → (s : S) → Of s → Type 0
    Begins step s v = (t : K) × At s t v (step s t)

    begins : (s : S) (t : K) (v : Of s) (o : Option (Rule Of say s t)) (r : List K) → At s t v o
        → (x : List K) × (say s v r ≡ t ∷ x)
    begins s t v none r a = absurd a
    begins s t v (some p) r a = (says Of say p.next a.0 r, ap (λ x. say s x r) (sym a.1) ∙ p.law a.0 r)

    module _ (Some-of : (s : S) → Of s) where
      -- WHAT A RESULT TELLS: what is read is written as the tokens; what is completed, as those that fit and more.
      abbrev Tells : List K → (ss : List S) → Result (Values Of ss) → Type 0
      Tells ts ss (right vs) = says Of say ss vs [] ≡ ts
      Tells ts ss (wrong n vs) = (n ≤ length ts) × ((ys : List K) × (says Of say ss vs [] ≡ take n ts ++ ys))

      onward_tells : (s : S) (t : K) (ss : List S) (ts : List K) (p : Rule Of say s t) (o : Result (Values Of (p.next ++ ss)))
          → Tells ts (p.next ++ ss) o → Tells (t ∷ ts) (s ∷ ss) (onward Of say s t ss p o)
      onward_tells s t ss ts p (right vs) h = says-made s t ss p vs [] ∙ ap (λ x. t ∷ x) h
      onward_tells s t ss ts p (wrong n vs) h =
          (omega arith, (h.1.0, says-made s t ss p vs [] ∙ ap (λ x. t ∷ x) h.1.1))

      through_tells : (s : S) (t : K) (ss : List S) (ts : List K) (o : Option (Rule Of say s t))
          (k : (zs : List S) → Result (Values Of zs)) → ((zs : List S) → Tells ts zs (k zs))
          → Tells (t ∷ ts) (s ∷ ss) (through Of say Some-of s t ss o k)
      through_tells s t ss ts none k h = (omega arith, (says Of say (s ∷ ss) (some_values Of Some-of (s ∷ ss)) [], refl))
      through_tells s t ss ts (some p) k h = onward_tells s t ss ts p (k (p.next ++ ss)) (h (p.next ++ ss))

      -- WHAT IS WRITTEN IS READ.
      through_whole : (s : S) (t : K) (ss : List S) (ts : List K) (o : Option (Rule Of say s t))
          (k : (zs : List S) → Result (Values Of zs)) (vs : Values Of (s ∷ ss))
          → ((zs : List S) (ws : Values Of zs) → says Of say zs ws [] ≡ ts → k zs ≡ right ws) → At s t vs.0 o
          → says Of say (s ∷ ss) vs [] ≡ t ∷ ts → through Of say Some-of s t ss o k ≡ right vs
      through_whole s t ss ts none k vs h a e = absurd a
      through_whole s t ss ts (some p) k vs h a e =
          let b : Values Of ss = vs.1 in
          let rest : List K = says Of say ss b [] in
          let law : say s vs.0 rest ≡ t ∷ says Of say p.next a.0 rest =
          ap (λ x. say s x rest) (sym a.1) ∙ p.law a.0 rest in
          let tail : says Of say p.next a.0 rest ≡ ts = cc in
          let there : k (p.next ++ ss) ≡ right (join p.next ss a.0 b) =
          h (p.next ++ ss) (join p.next ss a.0 b) (says-join p.next ss a.0 b [] ∙ tail) in
          let both : Of s → Values Of ss → Result (Values Of (s ∷ ss)) = λ x y. right (x, y) in
          ap (λ x. onward Of say s t ss p x) there
          ∙ ap (λ (x : Values Of p.next). both (p.make x) (back Of p.next ss (join p.next ss a.0 b)))
          (front-join p.next ss a.0 b)
          ∙ ap (λ (x : Values Of ss). both (p.make a.0) x) (back-join p.next ss a.0 b)
          ∙ ap (λ (x : Of s). both x b) a.1

      -- A TOKEN THAT DOESN'T FIT is the first whatever follows.
      onward_stays : (s : S) (t : K) (ss : List S) (p : Rule Of say s t) (o q : Result (Values Of (p.next ++ ss))) (n : ℕ)
          (vs : Values Of (s ∷ ss))
          → ((m : ℕ) (ws : Values Of (p.next ++ ss)) → n ≡ suc m → o ≡ wrong m ws → q ≡ wrong m ws)
          → onward Of say s t ss p o ≡ wrong n vs → onward Of say s t ss p q ≡ wrong n vs
      onward_stays s t ss p (right ws) q n vs h e = wrong-right (sym e)
      onward_stays s t ss p (wrong m ws) q n vs h e =
          let f : n ≡ suc m = cc in ap (λ x. onward Of say s t ss p x) (h m ws f refl) ∙ e

      through_stays : (s : S) (t : K) (ss : List S) (o : Option (Rule Of say s t)) (k l : (zs : List S) → Result (Values Of zs))
          (n : ℕ) (vs : Values Of (s ∷ ss))
          → ((zs : List S) (m : ℕ) (ws : Values Of zs) → n ≡ suc m → k zs ≡ wrong m ws → l zs ≡ wrong m ws)
          → through Of say Some-of s t ss o k ≡ wrong n vs → through Of say Some-of s t ss o l ≡ wrong n vs
      through_stays s t ss none k l n vs h e = e
      through_stays s t ss (some p) k l n vs h e =
          onward_stays s t ss p (k (p.next ++ ss)) (l (p.next ++ ss)) n vs (λ m ws f x. h (p.next ++ ss) m ws f x) e

      module _ (step : (s : S) (t : K) → Option (Rule Of say s t)) where
        tells : (ts : List K) (ss : List S) → Tells ts ss (read Of say Some-of step ts ss)
        unfolding read
        tells [] [] = refl
        tells [] (s ∷ ss) = (omega arith, (says Of say (s ∷ ss) (some_values Of Some-of (s ∷ ss)) [], refl))
        tells (t ∷ ts) [] = (omega arith, ([], refl))
        tells (t ∷ ts) (s ∷ ss) =
            through_tells s t ss ts (step s t) (λ zs. read Of say Some-of step ts zs) (λ zs. tells ts zs)

        -- What is read is written there.
        pub sound : (ts : List K) (ss : List S) (vs : Values Of ss) → read Of say Some-of step ts ss ≡ right vs
            → says Of say ss vs [] ≡ ts
        sound ts ss vs e = rw e at (tells ts ss)

        -- What is completed begins with the tokens that fit.
        pub lives : (ts : List K) (ss : List S) (n : ℕ) (vs : Values Of ss) → read Of say Some-of step ts ss ≡ wrong n vs
            → (n ≤ length ts) × ((ys : List K) × (says Of say ss vs [] ≡ take n ts ++ ys))
        lives ts ss n vs e = rw e at (tells ts ss)

        -- The first token that doesn't fit is the first whatever follows.
        pub stays : (ts : List K) (ss : List S) (n : ℕ) (vs : Values Of ss) → read Of say Some-of step ts ss ≡ wrong n vs
            → n < length ts → (ys : List K) → read Of say Some-of step (take (suc n) ts ++ ys) ss ≡ wrong n vs
        unfolding read
        stays [] ss n vs e l ys = absurd (omega arith)
        stays (t ∷ ts) [] n vs e l ys = e
        stays (t ∷ ts) (s ∷ ss) n vs e l ys =
            through_stays s t ss (step s t) (λ zs. read Of say Some-of step ts zs)
            (λ zs. read Of say Some-of step (take n ts ++ ys) zs) n vs
            (λ zs m ws f x. rw f (stays ts zs m ws x (omega arith) ys)) e

        -- What is written is read, where every value begins with a token that finds its rule.
        pub whole : ((s : S) (v : Of s) → Begins step s v) → (ts : List K) (ss : List S) (vs : Values Of ss)
            → says Of say ss vs [] ≡ ts → read Of say Some-of step ts ss ≡ right vs
        unfolding read
        whole unroll [] [] vs e = refl
        whole unroll [] (s ∷ ss) vs e =
            let u = unroll s vs.0 in
            nil-cons (sym e ∙ (begins s u.0 vs.0 (step s u.0) (says Of say ss vs.1 []) u.1).1)
        whole unroll (t ∷ ts) [] vs e = nil-cons e
        whole unroll (t ∷ ts) (s ∷ ss) vs e =
            let u = unroll s vs.0 in
            let b = begins s u.0 vs.0 (step s u.0) (says Of say ss vs.1 []) u.1 in
            let both : u.0 ∷ b.0 ≡ t ∷ ts = sym b.1 ∙ e in
            let same : u.0 ≡ t = cc in
            through_whole s t ss ts (step s t) (λ zs. read Of say Some-of step ts zs) vs (λ zs ws x. whole unroll ts zs ws x)
            (subst (λ (x : K). At s x vs.0 (step s x)) same u.1) e

    -- THE PILE of a reader that goes from token to token: what is still to come, behind one token and behind many.
    abbrev pub moved : (s : S) (t : K) (ss : List S) → Option (Rule Of say s t) → Option (List S)
    moved s t ss none = none
    moved s t ss (some p) = some (p.next ++ ss)

    module _ (step : (s : S) (t : K) → Option (Rule Of say s t)) where
      abbrev pub pushed : K → List S → Option (List S)
      pushed t [] = none
      pushed t (s ∷ ss) = moved s t ss (step s t)

      unfoldable pub piled : List K → List S → Option (List S)
      piled [] ss = some ss
      piled (t ∷ ts) ss = and_then (pushed t ss) (λ zs. piled ts zs)

      then_piled : (t : K) (ts : List K) (o : Option (List S))
          → ((zs : List S) → piled (ts ++ (t ∷ [])) zs ≡ and_then (piled ts zs) (λ ys. pushed t ys))
          → and_then o (λ zs. piled (ts ++ (t ∷ [])) zs) ≡ and_then (and_then o (λ zs. piled ts zs)) (λ ys. pushed t ys)
      then_piled t ts none h = refl
      then_piled t ts (some zs) h = h zs

      -- One token more is one step more.
      pub piled_next : (ts : List K) (t : K) (ss : List S)
          → piled (ts ++ (t ∷ [])) ss ≡ and_then (piled ts ss) (λ zs. pushed t zs)
      unfolding piled
      piled_next [] t ss = then_same (pushed t ss)
      piled_next (x ∷ ts) t ss = then_piled t ts (pushed x ss) (λ zs. piled_next ts t zs)

      module _ (Some-of : (s : S) → Of s) where
        -- What a pile tells of a result: where there is none, that a token doesn't fit; where there is one, that all do, and
        -- what the completed value is written as; an empty one, that all is read.
        abbrev pub Closed : {A : Type 0} → List S → Result A → Type 0
        Closed zs (right v) = zs ≡ []
        Closed zs (wrong n v) = (s : S) × ((ss : List S) × (zs ≡ s ∷ ss))

        pub record Completes (ts : List K) (ss zs : List S) (o : Result (Values Of ss)) : Type 0 where
          pub all_fit : AllFit (length ts) o
          pub closed : Closed zs o
          pub spelled : says Of say ss (completed o) [] ≡ ts ++ says Of say zs (some_values Of Some-of zs) []

        abbrev Piles : List K → (ss : List S) → Result (Values Of ss) → Option (List S) → Type 0
        Piles ts ss o none = OneMisfits (length ts) o
        Piles ts ss o (some zs) = Completes ts ss zs o

        onward_piles : (s : S) (t : K) (ss : List S) (ts : List K) (p : Rule Of say s t) (o : Result (Values Of (p.next ++ ss)))
            (q : Option (List S)) → Piles ts (p.next ++ ss) o q → Piles (t ∷ ts) (s ∷ ss) (onward Of say s t ss p o) q
        onward_piles s t ss ts p (right vs) none h = h
        onward_piles s t ss ts p (wrong n vs) none h = omega arith
        onward_piles s t ss ts p (right vs) (some zs) h =
            record {
              all_fit = tt;
              closed = h.closed;
              spelled = says-made s t ss p vs [] ∙ ap (λ x. t ∷ x) h.spelled;
            }
        onward_piles s t ss ts p (wrong n vs) (some zs) h =
            record {
              all_fit = ap suc h.all_fit;
              closed = h.closed;
              spelled = says-made s t ss p vs [] ∙ ap (λ x. t ∷ x) h.spelled;
            }

        through_piles : (s : S) (t : K) (ss : List S) (ts : List K) (o : Option (Rule Of say s t))
            (k : (zs : List S) → Result (Values Of zs)) (l : List S → Option (List S))
            → ((zs : List S) → Piles ts zs (k zs) (l zs))
            → Piles (t ∷ ts) (s ∷ ss) (through Of say Some-of s t ss o k) (and_then (moved s t ss o) l)
        through_piles s t ss ts none k l h = omega arith
        through_piles s t ss ts (some p) k l h =
            onward_piles s t ss ts p (k (p.next ++ ss)) (l (p.next ++ ss)) (h (p.next ++ ss))

        piles : (ts : List K) (ss : List S) → Piles ts ss (read Of say Some-of step ts ss) (piled ts ss)
        unfolding read piled
        piles [] [] = record { all_fit = tt; closed = refl; spelled = refl }
        piles [] (s ∷ ss) = record { all_fit = refl; closed = (s, (ss, refl)); spelled = refl }
        piles (t ∷ ts) [] = omega arith
        piles (t ∷ ts) (s ∷ ss) =
            through_piles s t ss ts (step s t) (λ zs. read Of say Some-of step ts zs) (λ zs. piled ts zs) (λ zs. piles ts zs)

        -- Behind tokens that all fit there is a pile,
        some_pile : (ts : List K) (ss : List S) → AllFit (length ts) (read Of say Some-of step ts ss) → (o : Option (List S))
            → piled ts ss ≡ o → (zs : List S) × (piled ts ss ≡ some zs)
        some_pile ts ss f none e = fit_and_misfit (length ts) (read Of say Some-of step ts ss) f (rw e at (piles ts ss))
        some_pile ts ss f (some zs) e = (zs, e)

        pub fits_piled : (ts : List K) (ss : List S) → AllFit (length ts) (read Of say Some-of step ts ss)
            → (zs : List S) × (piled ts ss ≡ some zs)
        fits_piled ts ss f = some_pile ts ss f (piled ts ss) refl

        -- and where there is a pile all fit, and the completed value is written as the tokens and what completes the pile.
        pub piled_completes : (ts : List K) (ss zs : List S) → piled ts ss ≡ some zs
            → Completes ts ss zs (read Of say Some-of step ts ss)
        piled_completes ts ss zs e = rw e at (piles ts ss)

        -- Where there is none, a token doesn't fit.
        pub no_pile_misfits : (ts : List K) (ss : List S) → piled ts ss ≡ none
            → OneMisfits (length ts) (read Of say Some-of step ts ss)
        no_pile_misfits ts ss e = rw e at (piles ts ss)
