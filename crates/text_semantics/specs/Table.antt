-- A table of rules, each of which begins with a token, and reading by it: one token after another, over a pile of what is still
-- to come. What is read is a value; where a token doesn't fit, how many did, and a value that begins with those.
-- Assumes nothing.
use Rattle.std.specs.Prelude.{ℕ, suc, ◌≡◌, List, [], ◌∷◌, ◌++◌}
use Rattle.std.proofs.Math.Option.{Option, none, some}

pub data Result (A : Type 0) : Type 0 where
  right : A → Result A
  wrong : ℕ → A → Result A

module _ {S : Type 0} (Of : S → Type 0) where
  abbrev pub Values : List S → Type 0
  Values [] = Unit
  Values (s ∷ ss) = Of s × Values ss

  abbrev pub front : (ss zs : List S) → Values (ss ++ zs) → Values ss
  front [] zs vs = tt
  front (s ∷ ss) zs vs = (vs.0, front ss zs vs.1)

  abbrev pub back : (ss zs : List S) → Values (ss ++ zs) → Values zs
  back [] zs vs = vs
  back (s ∷ ss) zs vs = back ss zs vs.1

  module _ (Some-of : (s : S) → Of s) where
    -- A value for each that is still to come.
    abbrev pub some_values : (ss : List S) → Values ss
    some_values [] = tt
    some_values (s ∷ ss) = (Some-of s, some_values ss)

  module _ {K : Type 0} (say : (s : S) → Of s → List K → List K) where
    -- What values are written as, in front of r.
    abbrev pub says : (ss : List S) → Values ss → List K → List K
    says [] vs r = r
    says (s ∷ ss) vs r = say s vs.0 (says ss vs.1 r)

    -- At s, the token t has been read: what is still to come of s, what they make together, and that it is written so.
    pub record Rule (s : S) (t : K) : Type 0 where
      pub next : List S
      pub make : Values next → Of s
      pub law : (vs : Values next) (r : List K) → say s (make vs) r ≡ t ∷ says next vs r

    abbrev pub made : (s : S) (t : K) (ss : List S) (p : Rule s t) → Values (p.next ++ ss) → Values (s ∷ ss)
    made s t ss p vs = (p.make (front p.next ss vs), back p.next ss vs)

    abbrev pub onward : (s : S) (t : K) (ss : List S) (p : Rule s t) → Result (Values (p.next ++ ss))
        → Result (Values (s ∷ ss))
    onward s t ss p (right vs) = right (made s t ss p vs)
    onward s t ss p (wrong n vs) = wrong (suc n) (made s t ss p vs)

    module _ (Some-of : (s : S) → Of s) where
      abbrev pub through : (s : S) (t : K) (ss : List S) → Option (Rule s t) → ((zs : List S) → Result (Values zs))
          → Result (Values (s ∷ ss))
      through s t ss none k = wrong 0 (some_values Some-of (s ∷ ss))
      through s t ss (some p) k = onward s t ss p (k (p.next ++ ss))

      module _ (step : (s : S) (t : K) → Option (Rule s t)) where
        unfoldable pub read : List K → (ss : List S) → Result (Values ss)
        read [] [] = right tt
        read [] (s ∷ ss) = wrong 0 (some_values Some-of (s ∷ ss))
        read (t ∷ ts) [] = wrong 0 tt
        read (t ∷ ts) (s ∷ ss) = through s t ss (step s t) (λ zs. read ts zs)
