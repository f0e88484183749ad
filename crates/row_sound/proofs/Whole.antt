-- What is tested of the blocks and what is tested beside them decide soundness. Assumes nothing.
use Prim.Native.Nat.{ℕ}
use mathlib.Core.Path.{◌≡◌, refl, sym, ◌∙◌, ap}
use mathlib.Core.List.{List}
use mathlib.Core.Bool.{Bool, true, false, ◌&&◌}
use Rattle.semantics.specs.Model.{Model}
use Rattle.semantics.specs.State.{State}
use Rattle.semantics.specs.Sound.{shaped, numbers_in_range, all_chained, in_order, own_numbers, in_one, blocked_stand, adds_up, sound_in}
use Rattle.row_sound.specs.Chain.{Chained}
use Rattle.row_sound.specs.Handed.{Handed}
use Rattle.row_sound_lists.specs.Counted.{Counted, sound_beside}

-- A test is the third of eight, and one of them the seventh.
third : (a b c d : Bool) → c ≡ false → false ≡ (a && (b && (c && d)))
third true true c d h = sym (ap (λ t. t && d) h)
third true false c d h = refl
third false b c d h = refl

moved : (a b c d e f g : Bool)
    → ((a && (b && (c && (d && (e && g))))) && f) ≡ (a && (b && (c && (d && (e && (f && g))))))
moved true true true true true f g = swap f g
  where
    swap : (f g : Bool) → (g && f) ≡ (f && g)
    swap true true = refl
    swap true false = refl
    swap false true = refl
    swap false false = refl
moved true true true true false f g = refl
moved true true true false e f g = refl
moved true true false d e f g = refl
moved true false c d e f g = refl
moved false b c d e f g = refl

module _ (m : Model) (s : State) where
  pub tests_fail : all_chained m s ≡ false → false ≡ sound_in m s
  unfolding sound_in
  tests_fail e =
      third (shaped m s) (numbers_in_range m s) (all_chained m s)
      (in_order s && (own_numbers s && (in_one s && (blocked_stand m s && adds_up m s)))) e

  pub tests_decide : all_chained m s ≡ true → (sound_beside m s && blocked_stand m s) ≡ sound_in m s
  unfolding sound_in sound_beside
  tests_decide e =
      moved (shaped m s) (numbers_in_range m s) (in_order s) (own_numbers s) (in_one s) (blocked_stand m s) (adds_up m s)
      ∙ ap (λ (t : Bool). shaped m s && (numbers_in_range m s && (t
      && (in_order s && (own_numbers s && (in_one s && (blocked_stand m s && adds_up m s))))))) (sym e)

-- What the tests ask.
module _ {bs map w totals : List ℕ} {resources bins syncs classes : ℕ}
    (v : Handed bs map w totals resources bins syncs classes) where
  unfoldable pub chained_all : all_chained v.viewed.model v.viewed.is ≡ true → Chained bs map w classes
  chained_all e = record { viewed = v.viewed; all_chained = e }

  unfoldable pub counted : Counted w totals resources bins syncs
  counted =
      record {
        model = v.viewed.model;
        fits = v.viewed.fits;
        things = v.things;
        is = v.viewed.is;
        shows = v.viewed.shows;
        sized = v.viewed.sized;
        shaped = v.shaped;
      }
