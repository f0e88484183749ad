-- What the call on a row is, by what the test, the map and the run say. Assumes nothing.
use Prim.Native.Nat.{ℕ}
use mathlib.Core.Path.{◌≡◌, refl, sym, subst}
use mathlib.Core.List.{List}
use mathlib.Core.Bool.{true, false}
use Rattle.semantics.specs.Model.{Model}
use Rattle.semantics.specs.Bytes.{records_from}
use Rattle.semantics.specs.Run.{run}
use Rattle.semantics.specs.Journal.{room_in}
use Rattle.promises.proofs.Decides.{sound_yes}
use Rattle.base_journal.specs.Laws.{written_none}
use Rattle.row_work.specs.Underway.{accepted_run}
use Rattle.file_map.specs.MapOf.{map_of}
use Rattle.act_floor.specs.Acting.{Open}
use Rattle.run_limit.specs.declared.Ran.{Ran}
use Rattle.run_limit.specs.Ran.{RanAs}
use Rattle.row_view.specs.View.{view_in, sound_row}
use Rattle.row_view.specs.Rows.{says_sound_row}
use Rattle.run_row.specs.Handed.{Passing}
use Rattle.run_row.specs.Call.{turned_away, call_row, asked, away, TellsCall}
use Rattle.run_row.specs.Own.{sound_called, row_turned}
use Rattle.run_row.proofs.Decides.{maps}

-- NOT SOUND.
pub turned_says : (bs w : List ℕ) (limit : ℕ) (j : List ℕ) (r : Ran) → r ≡ away → sound_row bs w ≡ false
    → TellsCall (call_row bs (asked limit j) w) r w j j
turned_says bs w limit j r e z =
    subst (λ d. TellsCall d r w j j) (sym (row_turned bs (asked limit j) w z))
    (subst (λ x. TellsCall (turned_away w) x w j j) (sym e)
    (record { answer_is = refl; steps_are = refl; lines_are = refl; row_is = refl; journal_is = sym (written_none j) }))

-- SOUND: the file passes, and this is its map.
module _ {bs : List ℕ} (p : Passing bs) (map : List ℕ) (f : map ≡ map_of (records_from 0 bs)) (w : List ℕ)
    (z : sound_row bs w ≡ true) where
  abbrev m : Model
  m = p.model

  abbrev pub opened : Open bs map w
  opened =
      let e = p.passes in
      let h = (says_sound_row bs m e w).yes z in
      record {
        run = accepted_run bs m p.bytes_are e (view_in m w) h.0;
        mapped = maps p map f;
        sound = sound_yes m (view_in m w) h.1;
      }

  pub ran_says : (limit : ℕ) (j : List ℕ) (r : Ran) (w' j' : List ℕ)
      → ((v : Open bs map w) → RanAs (run v.run.model limit (room_in j) v.run.is) r w' j j')
      → TellsCall (call_row bs (asked limit j) w) r w' j j'
  ran_says limit j r w' j' g =
      let t = g opened in
      subst (λ d. TellsCall d r w' j j') (sym (sound_called bs m p.passes (asked limit j) w z))
      (record {
        answer_is = t.answer_is;
        steps_are = t.steps_are;
        lines_are = t.lines_are;
        row_is = t.state_is;
        journal_is = t.journal_is;
      })
