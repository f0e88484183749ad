-- What opening a run is, by what the check and the fresh work say. Assumes nothing.
use Rattle.std.specs.Prelude.{if◌then◌else◌, Ok, Err}
use Prim.Native.Nat.{ℕ}
use mathlib.Core.Path.{◌≡◌, refl, sym, ◌∙◌, ap, subst}
use mathlib.Core.List.{List}
use mathlib.Core.Bool.{Bool, true, false}
use borrow.Author.Tests.{eqb-true}
use lib.ListN.{length, replicate}
use lib.Dec.{eqb}
use Rattle.semantics.specs.Words.{Passed}
use Rattle.semantics.specs.Numbers as No
use Rattle.semantics.specs.Bytes.{records_from}
use Rattle.semantics.specs.Decode.{Checked, refused, decode}
use Rattle.semantics.specs.State.{fresh}
use Rattle.semantics.specs.Desk.{check_file}
use Rattle.base_numbers.specs.Row as Row
use Rattle.file_check_record.specs.Refused.{number_of}
use Rattle.file_check.specs.declared.Refused.{Refused}
use Rattle.file_check.proofs.Answer.{refuses}
use Rattle.row_work.specs.Work.{work_of}
use Rattle.file_map.specs.MapOf.{map_of}
use Rattle.run_fresh.specs.Fresh.{Loaded}
use Rattle.run_row.specs.Handed.{Passing}
use Rattle.run_row.specs.Open.{Opened, opened_as, opens_as, open_row, TellsOpened}
use Rattle.run_row.specs.declared.Unopened.TheVariants.{File, Length}
use Rattle.run_row.proofs.Decides.{loaded}

-- A REFUSED FILE.
pub refused_opens : (bs : List ℕ) (r : Refused)
    → ◌≡◌ {A = Checked Passed} (refused (number_of r.refusal) r.place) (check_file bs) → (w : List ℕ)
    → TellsOpened (open_row bs w) (Err (File r)) w
unfolding open_row
refused_opens bs r e w =
    let d = refuses bs _ _ e in rw (open_row, d) (record { number_is = refl; place_is = refl; row_is = refl })

-- AN ACCEPTED ONE.
module _ {bs : List ℕ} (p : Passing bs) (w : List ℕ) where
  abbrev chosen : Bool → Opened
  chosen b = if b then opened_as 0 0 (work_of (fresh p.model)) else opened_as No.STATE 0 w

  opens_if : open_row bs w ≡ chosen (eqb (length w) Row.WORDS)
  unfolding open_row
  opens_if = ap (opens_as w) p.passes

  pub unfit_opens : (length w ≡ Row.WORDS → ⊥) → TellsOpened (open_row bs w) (Err Length) w
  unfit_opens k =
      let e : open_row bs w ≡ opened_as No.STATE 0 w = opens_if ∙ ap chosen (by (eqb (length w) Row.WORDS) refl) in
      subst (λ d. TellsOpened d (Err Length) w) (sym e)
      (record { number_is = refl; place_is = refl; row_is = refl })
    where
      by : (b : Bool) → eqb (length w) Row.WORDS ≡ b → eqb (length w) Row.WORDS ≡ false
      by true x = absurd (k (eqb-true _ _ x))
      by false x = x

  -- The row is long enough, and x is the fresh work.
  module _ (l : length w ≡ Row.WORDS) (map : List ℕ) (f : map ≡ map_of (records_from 0 bs)) (x : List ℕ)
      (g : (d : Loaded bs map (replicate Row.WORDS 0)) → x ≡ work_of (fresh d.model)) where
    pub fresh_opens : TellsOpened (open_row bs w) (Ok tt) x
    fresh_opens =
        let o : open_row bs w ≡ opened_as 0 0 (work_of (fresh p.model)) =
        opens_if ∙ ap chosen (ap (λ n. eqb n Row.WORDS) l) in
        subst (λ d. TellsOpened d (Ok tt) x) (sym o)
        (record { number_is = refl; place_is = refl; row_is = g (loaded p map f) })
