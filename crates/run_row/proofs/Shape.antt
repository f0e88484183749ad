-- A row that shows a state shows one that has what the model declares. Assumes nothing.
use Prim.Native.Nat.{ℕ, zero, suc, ◌*◌, ◌≤◌}
use native.Mathlib.Omega.{arith}
use mathlib.Core.Path.{◌≡◌, refl, sym, ◌∙◌, ap}
use mathlib.Core.List.{List, [], ◌∷◌, map}
use mathlib.Core.Bool.{true}
use lib.ListN.{length, get_or, take, drop, length-append, length-map, length-drop}
use lib.Seq.{length-take-le}
use lib.IntN.{ℤ}
use Rattle.semantics.specs.Words.{is_empty}
use Rattle.semantics.specs.Numbers as No
use Rattle.semantics.specs.Model.{Model}
use Rattle.semantics.specs.State.{Frame, Slave}
use Rattle.promises.specs.Laws.{AllOf, no_way}
use Rattle.promises.specs.Fit.{Fit}
use Rattle.base_numbers.specs.Row as Row
use Rattle.base_numbers.specs.Process as Process
use Rattle.base_numbers.specs.Limit as Limit
use Rattle.base_i32.specs.Code.{value_of}
use Rattle.row_work.specs.Shown.{work_long}
use Rattle.row_view.specs.View.{cut, frame_of, frames_of, waiting_of, seated, process_of, processes_of, view_by, view_in}
use Rattle.row_view.specs.Fits.{Showing}
use Rattle.row_view.proofs.Cuts.{cut_long}
use Rattle.row_sound_lists.specs.Counted.{Furnished, Shaped}

frames_long : (xs : List ℕ) → length (frames_of xs) ≡ length xs
unfolding frames_of
frames_long [] = refl
frames_long (x ∷ xs) = omega (arith, frames_long xs, length-append (frames_of xs) (frame_of x ∷ []))

waiting_long : (ns row : List ℕ) → length (waiting_of ns row) ≡ length ns
unfolding waiting_of
waiting_long [] row = refl
waiting_long (n ∷ ns) row = ap suc (waiting_long ns (drop Row.WAITERS_MOST row))

none_long : (fs : List Frame) → is_empty fs ≡ true → length fs ≡ 0
none_long [] e = refl
none_long (f ∷ fs) e = no_way e

-- A PROCESS, by how many blocks it is in.
module _ (m : Model) (few : length m.totals ≤ Limit.THINGS) where
  abbrev resources : ℕ
  resources = length m.totals

  seated_furnished : (d n : ℕ) (v : ℤ) (slaves : List Slave) (locals held blocks : List ℕ) → length locals ≡ 8
      → length held ≡ Limit.THINGS → length blocks ≡ Limit.DEPTH
      → Furnished m
      (record {
        number = n;
        priority = v;
        locals = map value_of (take (seated d No.locals) locals);
        held = take (seated d resources) held;
        slaves = slaves;
        frames = frames_of (take d blocks);
      })
  unfolding frames_of
  seated_furnished zero n v slaves locals held blocks a b c =
      record { empty = λ z. (refl, refl); full = λ z. no_way (sym z) }
  seated_furnished (suc d) n v slaves locals held [] a b c = absurd (omega arith)
  seated_furnished (suc d) n v slaves locals held (x ∷ xs) a b c =
      record {
        empty = λ z.
            absurd (omega (arith, none_long (frames_of (x ∷ take d xs)) z, frames_long (x ∷ take d xs)));
        full = λ z. (
          length-map (take 8 locals) value_of ∙ length-take-le 8 locals (omega arith),
          length-take-le resources held (omega arith),
        );
      }

  process_furnished : (row : List ℕ) → length row ≡ Process.WORDS → Furnished m (process_of resources row)
  unfolding process_of
  process_furnished row l =
      seated_furnished (get_or row Process.DEPTH 0) _ _ _ (cut Process.LOCALS No.locals row) (cut Process.HELD Limit.THINGS row)
      (cut Process.BLOCKS Limit.DEPTH row) (cut_long Process.LOCALS No.locals row (omega arith))
      (cut_long Process.HELD Limit.THINGS row (omega arith))
      (cut_long Process.BLOCKS Limit.DEPTH row (omega arith))

  all_furnished : (n : ℕ) (rows : List ℕ) → length rows ≡ Process.WORDS * n → AllOf (Furnished m) (processes_of resources n rows)
  unfolding processes_of
  all_furnished zero rows l = tt
  all_furnished (suc n) rows l = (
    process_furnished (take Process.WORDS rows) (length-take-le Process.WORDS rows (omega arith)),
    all_furnished n (drop Process.WORDS rows) (omega (arith, length-drop Process.WORDS rows)),
  )

-- THE STATE.
pub shown_shaped : (m : Model) (w : List ℕ) → Fit m → Showing m w → Shaped m (view_in m w)
unfolding view_by
shown_shaped m w f h =
    let long : length w ≡ Row.WORDS = ap length h.is_form ∙ work_long (view_in m w) h.is_sized in
    let part : (from n : ℕ) → from ≤ Row.WAITS → n ≤ Limit.THINGS → length (take n (cut from Limit.THINGS w)) ≡ n =
    λ from n i j. length-take-le n (cut from Limit.THINGS w) (omega (arith, cut_long from Limit.THINGS w (omega arith))) in
    record {
      frees_many = part 8 (length m.totals) (omega arith) f.few_totals;
      bins_many = part Row.BINS (length m.amounts) (omega arith) f.few_amounts;
      vars_many =
          length-map (take (length m.vars) (cut Row.GLOBALS Limit.THINGS w)) value_of
          ∙ part Row.GLOBALS (length m.vars) (omega arith) f.few_vars;
      syncs_many =
          waiting_long (take m.syncs (cut Row.WAITS Limit.THINGS w)) (cut Row.WAITING Row.WAITERS_ALL w)
          ∙ part Row.WAITS m.syncs (omega arith) f.few_syncs;
      seeds_many =
          length-take-le (length m.samplers) (cut Row.SEEDS Limit.SAMPLERS w)
          (omega (arith, f.few_samplers, cut_long Row.SEEDS Limit.SAMPLERS w (omega arith)));
      furnished =
          all_furnished m f.few_totals No.places (cut Row.PROCESSES Row.PROCESSES_ALL w)
          (cut_long Row.PROCESSES Row.PROCESSES_ALL w (omega arith));
    }
