-- What is handed on from one part of a fresh run's beginning to the next. Assumes nothing.
use mathlib.Core.Path.{◌≡◌}
use mathlib.Core.List.{List}
use Prim.Native.Nat.{ℕ}
use Rattle.semantics.specs.State.{bare, fresh}
use Rattle.row_work.specs.Work.{work_of}
use Rattle.run_fresh.specs.Fresh.{Loaded, vacant_work, Declaring, Beginning}

module _ {bs map w : List ℕ} (d : Loaded bs map w) {x y : List ℕ} (vacant : x ≡ vacant_work)
    (declared : (e : Declaring bs x) → y ≡ work_of (bare e.model)) where
  pub beginning : Beginning bs map y
  beginning =
      record {
        model = d.model;
        is_accepted = d.is_accepted;
        is_mapped = d.is_mapped;
        shows = declared (record { model = d.model; is_accepted = d.is_accepted; is_vacant = vacant });
      }

  pub begun : {z : List ℕ} → ((e : Beginning bs map y) → z ≡ work_of (fresh e.model)) → z ≡ work_of (fresh d.model)
  unfolding beginning
  begun all = all beginning
