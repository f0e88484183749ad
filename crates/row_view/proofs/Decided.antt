-- The answer of the test, for every model with so many of each. Assumes nothing.
use Prim.Native.Nat.{ℕ}
use mathlib.Core.Path.{◌≡◌, sym, ◌∙◌, ap, subst}
use mathlib.Core.List.{List}
use mathlib.Core.Bool.{Bool, true, false, ◌&&◌}
use lib.ListN.{length, get_or}
use Rattle.semantics.specs.Numbers as No
use Rattle.semantics.specs.Model.{Model}
use Rattle.promises.specs.Laws.{no_way, ◌&◌}
use Rattle.base_numbers.specs.Row as Row
use Rattle.base_numbers.specs.Limit as Limit
use Rattle.row_work.specs.Work.{work_of, Sized}
use Rattle.row_work.specs.Shown.{work_long}
use Rattle.row_view.specs.View.{cut, view_by, view_in}
use Rattle.row_view.specs.Fits.{Counted, Showing, Few, seed_fits, fits, head_fits, things_fit, lists_fit, processes_fit}
use Rattle.row_view.specs.Fits.{work_fits}
use Rattle.row_view.proofs.Whole.{says_work}

abbrev Decides : Model → List ℕ → Bool → Type 0
Decides m w x = (x ≡ true → Showing m w) × (x ≡ false → Showing m w → ⊥)

-- A row of another length shows nothing.
pub not_long : (m : Model) (w : List ℕ) → (length w ≡ Row.WORDS → ⊥) → Decides m w false
not_long m w h = (λ e. no_way e, λ e s. h (ap length s.is_form ∙ work_long (view_in m w) s.is_sized))

module _ (r b y v g : ℕ) (few : Few r b y v g) (w : List ℕ) (long : length w ≡ Row.WORDS) where
  tests_are : {h t l p d : Bool} → h ≡ head_fits w → t ≡ things_fit r b y v w → l ≡ lists_fit y w
      → p ≡ processes_fit r No.places (cut Row.PROCESSES Row.PROCESSES_ALL w) (get_or w Row.LIVING 0)
      → d ≡ fits seed_fits g (cut Row.SEEDS Limit.SAMPLERS w)
      → h && (t && (l && (p && d))) ≡ work_fits r b y v g w
  unfolding work_fits
  tests_are h_is t_is l_is p_is d_is = λ z. h_is z && (t_is z && (l_is z && (p_is z && d_is z)))

  decides : (m : Model) → Counted m r b y v g → (x : Bool) → x ≡ work_fits r b y v g w → Decides m w x
  decides m c x e = (yes, no)
    where
      same : view_by r b y v g w ≡ view_in m w
      same =
          λ z.
          view_by (sym c.resources_are z) (sym c.bins_are z) (sym c.syncs_are z) (sym c.variables_are z)
          (sym c.samplers_are z) w

      yes : x ≡ true → Showing m w
      yes t =
          let i = (says_work r b y v g few w long).yes (sym e ∙ t) in
          record { is_form = i.0 ∙ ap work_of same; is_sized = subst Sized same i.1 }

      no : x ≡ false → Showing m w → ⊥
      no f s =
          let i = (s.is_form ∙ ap work_of (sym same)) & subst Sized (sym same) s.is_sized in
          no_way (sym f ∙ e ∙ (says_work r b y v g few w long).back i)

  pub shows_decided : {h t l p d : Bool} → h ≡ head_fits w → t ≡ things_fit r b y v w → l ≡ lists_fit y w
      → p ≡ processes_fit r No.places (cut Row.PROCESSES Row.PROCESSES_ALL w) (get_or w Row.LIVING 0)
      → d ≡ fits seed_fits g (cut Row.SEEDS Limit.SAMPLERS w)
      → (m : Model) → Counted m r b y v g → Decides m w (h && (t && (l && (p && d))))
  shows_decided h_is t_is l_is p_is d_is m c = decides m c _ (tests_are h_is t_is l_is p_is d_is)
