-- One record more, in each table. Assumes nothing.
use Rattle.std.specs.Prelude.{if◌then◌else◌}
use mathlib.Core.Path.{◌≡◌, refl, sym, ◌∙◌, ap}
use mathlib.Core.List.{List, [], ◌∷◌, ◌++◌, map}
use mathlib.Core.Bool.{Bool, true, false, ◌||◌}
use Prim.Native.Nat.{ℕ, ◌+◌, ◌≤◌}
use native.Mathlib.Omega.{arith}
use lib.Dec.{eqb}
use lib.ListN.{length}
use Rattle.semantics.specs.Words.{collect}
use Rattle.semantics.specs.Kinds as K
use Rattle.semantics.specs.Model.{Sampler}
use Rattle.semantics.specs.Bytes.{Raw, raw}
use Rattle.semantics.specs.Record.{sampler_of}
use Rattle.semantics.specs.Decode.{opened}
use Rattle.promises.specs.Laws.{if_has}
use Rattle.file_check_parts.proofs.Laws.{or-false}
use Rattle.file_index.specs.Index.{Act, given, acts, acts_of, runs, loops_at, loops_from, samplers_in}

-- ACTIONS.
module _ (at k : ℕ) (bs : List ℕ) (rs : List Raw) where
  abbrev act : Act
  act = record { place = at; kind = k; body = bs }

  pub acts_turn : (f : Act → ℕ) → map f (acts_of (raw at k bs ∷ rs)) ≡ given (acts k) (f act) ++ map f (acts_of rs)
  unfolding acts_of
  acts_turn f = go (acts k)
    where
      go : (b : Bool) → map f (if b then act ∷ acts_of rs else acts_of rs) ≡ given b (f act) ++ map f (acts_of rs)
      go true = refl
      go false = refl

  -- The lists that f gives of the actions, one behind the other, and how many stand before each; of no other record f gives any.
  module _ {B : Type 0} (f : Act → List B) (none : acts k ≡ false → f act ≡ []) where
    pub lists_turn : collect f (acts_of (raw at k bs ∷ rs)) ≡ f act ++ collect f (acts_of rs)
    unfolding acts_of
    lists_turn = go (acts k) none
      where
        go : (b : Bool) → (b ≡ false → f act ≡ []) →
            collect f (if b then act ∷ acts_of rs else acts_of rs) ≡ f act ++ collect f (acts_of rs)
        go true h = refl
        go false h = rw (h refl)

    pub from_turn : (n : ℕ) → runs (λ a. length (f a)) n (acts_of (raw at k bs ∷ rs))
        ≡ given (acts k) n ++ runs (λ a. length (f a)) (n + length (f act)) (acts_of rs)
    unfolding acts_of runs
    from_turn n = go (acts k) none
      where
        go : (b : Bool) → (b ≡ false → f act ≡ []) → runs (λ a. length (f a)) n (if b then act ∷ acts_of rs else acts_of rs)
            ≡ given b n ++ runs (λ a. length (f a)) (n + length (f act)) (acts_of rs)
        go true h = refl
        go false h = let e : n ≡ n + 0 = omega arith in rw (h refl) (ap (λ m. runs (λ a. length (f a)) m (acts_of rs)) e)

  -- SAMPLERS.
  pub samplers_turn : (f : Sampler → ℕ) →
      map f (samplers_in (raw at k bs ∷ rs)) ≡ given (eqb k K.SAMPLER) (f (sampler_of bs)) ++ map f (samplers_in rs)
  unfolding samplers_in
  samplers_turn f = go (eqb k K.SAMPLER)
    where
      go : (b : Bool) → map f ((if b then sampler_of bs ∷ [] else []) ++ samplers_in rs)
          ≡ given b (f (sampler_of bs)) ++ map f (samplers_in rs)
      go true = refl
      go false = refl

-- LOOPS.
pub opened_next : (own k : ℕ) → opened own k ≤ own + 1
opened_next own k = if_has (λ (n : ℕ). n ≤ own + 1) (eqb k K.BLOCK) (λ e. omega arith) (λ e. omega arith)

module _ (bodies : List ℕ) (own at k : ℕ) (bs : List ℕ) (rs : List Raw) where
  pub loops_turn : (l : List Raw) → l ≡ raw at k bs ∷ rs → (t r x : Bool) (own' : ℕ) → r ≡ loops_at bodies own k bs →
      own' ≡ opened own k → (t || loops_from bodies own l) ≡ x → ((t || r) || loops_from bodies own' rs) ≡ x
  unfolding loops_from
  loops_turn l e true r x own' i j q = q
  loops_turn l e false r x own' i j q = rw (i, j) (rw e at q)

pub loops_end : (bodies : List ℕ) (own : ℕ) (l : List Raw) → l ≡ [] → (t x : Bool) → (t || loops_from bodies own l) ≡ x → t ≡ x
unfolding loops_from
loops_end bodies own l e t x q = sym (or-false t (loops_from bodies own l) (rw e)) ∙ q
