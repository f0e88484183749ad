-- The states between the changes of a DO or a CLOSE: each can be shown, and is what the next change asks for. Assumes nothing.
use Prim.Native.Nat.{ℕ}
use native.Mathlib.Omega.{arith}
use mathlib.Core.Path.{◌≡◌, refl}
use mathlib.Core.List.{List}
use mathlib.Core.Bool.{true}
use lib.Dec.{eqb, leb}
use borrow.Author.Tests.{le-leb, eq-eqb}
use Rattle.semantics.specs.Words.{within}
use Rattle.semantics.specs.Model.{Action, DO}
use Rattle.semantics.specs.State.{put, into, now_closed}
use Rattle.promises.specs.Laws.{true-and}
use Rattle.promises.specs.Parts.{chain_into}
use Rattle.promises.specs.Takes.{goes_into}
use Rattle.row_work.specs.Work.{work_of, Sized, Doing}
use Rattle.row_process.specs.Process.{Lives, changed}
use Rattle.act_floor.specs.Running.{On}
use Rattle.act_floor.specs.Onward.{m, s, q, is_sized, still_sized, in_hand, lives, fine, after_it, passes, after_sized}
use Rattle.row_lists.specs.Lists.{Any}

-- INTO A BLOCK for n rounds.
module _ {w : List ℕ} {p n b : ℕ} (v : On w p (DO n b)) (some : n ≡ 0 → ⊥) where
  pub inside_sized : Sized (put p (into n b (q v)) (s v))
  unfolding into
  inside_sized =
      let a : within 1 n n ≡ true = true-and (leb 1 n) _ (omega (arith, le-leb)) (omega (arith, le-leb)) in
      let c = true-and (eqb b b) _ (eq-eqb b b refl) a in
      still_sized v (put p (into n b (q v)) (s v))
      (goes_into (m v) (s v) v.running.sound p (in_hand v) _
      (chain_into (m v) (q v).frames (DO n b) b n (fine v).frames_ok v.stands c) refl)
      (is_sized v).floor_ok

  abbrev pub entering : Doing w (Lives p) (changed p (into n b))
  entering =
      record {
        is = s v;
        shows = v.running.run.shows;
        before = is_sized v;
        after = inside_sized;
        given = lives v;
      }

-- THE RUN is closed.
module _ {w : List ℕ} {p : ℕ} {x : Action} (v : On w p x) where
  abbrev pub closing : {w₁ : List ℕ} → w₁ ≡ work_of (after_it v) → Doing w₁ Any now_closed
  closing e =
      record {
        is = after_it v;
        shows = e;
        before = after_sized v;
        after = still_sized v (now_closed (after_it v)) (passes v) (is_sized v).floor_ok;
        given = tt;
      }
