-- The process of an ENTITY begins. Assumes nothing.
use Prim.Native.Nat.{ℕ, ◌+◌, ◌≤◌, ◌<◌}
use native.Mathlib.Omega.{arith}
use mathlib.Core.Path.{◌≡◌, sym, subst, ◌∙◌, ap}
use mathlib.Core.List.{List}
use borrow.Author.Tests.{eq-eqb, ne_eqb}
use lib.ListN.{length, get_or}
use Rattle.semantics.specs.Kinds as K
use Rattle.semantics.specs.Bytes.{u16, u32}
use Rattle.base_numbers.specs.Map as Map
use Rattle.row_work.specs.Work.{work_of, Sized, Doing, Done}
use Rattle.row_begin_end.specs.Begins.{Roomy, begins}
use Rattle.run_fresh.specs.Fresh.{enters_by, Entering}
use Rattle.run_fresh.proofs.Amounts.{entity_there}

module _ {w map : List ℕ} {k : ℕ} {bs : List ℕ} (d : Doing w (Entering map k bs) (λ s. enters_by map k bs s)) where
  -- At any other record nothing changes.
  pub stays : (k ≡ K.ENTITY → ⊥) → w ≡ work_of (enters_by map k bs d.is)
  stays n = d.shows ∙ ap work_of (sym still)
    where
      still : enters_by map k bs d.is ≡ d.is
      still = rw (ne_eqb k K.ENTITY n)

  module _ (e : k ≡ K.ENTITY) where
    pub bytes_there : 6 ≤ length bs
    bytes_there = entity_there k bs d.given.judged e

    module _ {c : ℕ} (f : c ≡ u16 bs 0) where
      pub class_there : Map.BODY + c < length map
      class_there = omega (arith, d.given.class_low e, d.given.long)

      module _ {t : ℕ} (g : t ≡ u32 bs 2) where
        abbrev b : ℕ
        b = get_or map (Map.BODY + c) 0

        same : enters_by map k bs d.is ≡ begins b t d.is
        same = rw (eq-eqb k K.ENTITY e, f, g)

        pub beginning : Doing w Roomy (λ s. begins b t s)
        beginning =
            record {
              is = d.is;
              shows = d.shows;
              before = d.before;
              after = subst Sized same d.after;
              given = d.given.roomy e;
            }

        pub entered : {x : List ℕ} → Done w Roomy (λ s. begins b t s) x → x ≡ work_of (enters_by map k bs d.is)
        unfolding beginning
        entered done = done beginning ∙ ap work_of (sym same)
