-- What is free in a fresh run is all there is, and stands in its work. Assumes nothing.
use Prim.Native.Nat.{ℕ}
use native.Mathlib.Omega.{arith}
use mathlib.Core.Path.{◌≡◌, refl, sym, ◌∙◌, ap}
use mathlib.Core.List.{List, [], ◌∷◌, map}
use lib.ListN.{length, get_or}
use Rattle.semantics.specs.Model.{Model, Entity}
use Rattle.semantics.specs.State.{State, wake, begin, begin_all, bare, fresh}
use Rattle.promises.specs.Fit.{Fit, Nested}
use Rattle.promises.proofs.FreshSound.{fresh_sound}
use Rattle.base_numbers.specs.Row as Row
use Rattle.base_numbers.specs.Limit as Limit
use Rattle.base_ordered.specs.Lines.{pad}
use Rattle.row_work.specs.Laid.{laid_part}
use Rattle.row_work.specs.Work.{work_parts, work_widths, work_of, Sized}
use Rattle.row_work.specs.Sized.{Rounds, sound_sized}
use Rattle.row_work.specs.Shown.{pad-length, pad_at, work_wide}
use Rattle.row_view.specs.View.{cut}
use Rattle.row_view.specs.Fits.{Counted}
use Rattle.row_sound_lists.specs.Counted.{Things}

-- NOBODY TAKES anything who begins.
all_free : (m : Model) (es : List Entity) (s : State) → (begin_all m es s).free ≡ s.free
unfolding begin_all begin wake
all_free m [] s = refl
all_free m (e ∷ es) s = all_free m es (begin m e.class e.offset (map (λ t. 0) m.totals) s)

fresh_free : (m : Model) → (fresh m).free ≡ m.totals
unfolding fresh
fresh_free m = all_free m m.entities (bare m)

-- WHAT IS FREE stands at words 8 to 39.
free_part : (s : State) → Sized s → cut Row.FREE Limit.THINGS (work_of s) ≡ pad Limit.THINGS s.free
unfolding work_of
free_part s h = laid_part (work_parts s) work_widths (work_wide s h) 1 (omega arith)

pub fresh_things : {m : Model} {resources bins syncs variables samplers : ℕ} → Fit m → Nested m → Rounds m
    → Counted m resources bins syncs variables samplers → (x : List ℕ) → x ≡ work_of (fresh m)
    → Things m (cut Row.FREE Limit.THINGS x) resources bins syncs
fresh_things {m} {resources} f n r c x e =
    let h : Sized (fresh m) = sound_sized m f n r (fresh m) (fresh_sound m f) in
    let a : cut Row.FREE Limit.THINGS x ≡ pad Limit.THINGS m.totals =
    ap (cut Row.FREE Limit.THINGS) e ∙ free_part (fresh m) h ∙ ap (pad Limit.THINGS) (fresh_free m) in
    let l = pad-length Limit.THINGS m.totals f.few_totals in
    record {
      resources_are = sym c.resources_are;
      bins_are = sym c.bins_are;
      syncs_are = sym c.syncs_are;
      totals_many = omega (arith, ap length a, l, c.resources_are, f.few_totals);
      totals_are = λ i k.
          ap (λ t. get_or t i 0) a ∙ pad_at Limit.THINGS m.totals i (omega (arith, c.resources_are));
    }
