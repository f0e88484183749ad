-- The event list in the work: the row of keys, the row of words and how many there are. Assumes nothing.
use Rattle.std.specs.Prelude.{ℕ, ◌≡◌, refl, List, ◌∷◌, ◌++◌, map, length, get_or, take}
use Rattle.std.proofs.Common.{arith, sym, ◌∙◌}
use Rattle.std.proofs.Math.Path.{ap}
use Rattle.std.proofs.Math.ListN.{set, drop}
use Rattle.semantics.specs.State.{State, Event, with_events}
use Rattle.base_numbers.specs.Row as Row
use Rattle.base_ordered.specs.Lines.{pad, event_key, event_word}
use Rattle.row_work.specs.Laid.{laid, Wide, laid_part, laid_replaced}
use Rattle.row_work.specs.Work.{work_parts, work_widths, work_of, Sized}
use Rattle.row_work.specs.Shown.{work_wide}
use Rattle.row_work.specs.Inside.{wide_replaced, part_at}

pub events_count : (s : State) → get_or (work_of s) Row.EVENTS 0 ≡ length s.events
unfolding work_of laid
events_count s = refl

module _ (s : State) (h : Sized s) where
  pub keys_part : take Row.EVENTS_MOST (drop Row.KEYS (work_of s)) ≡ pad Row.EVENTS_MOST (map event_key s.events)
  unfolding work_of
  keys_part = laid_part (work_parts s) work_widths (work_wide s h) 6 (omega arith)

  pub words_part : take Row.EVENTS_MOST (drop Row.NOTICES (work_of s)) ≡ pad Row.EVENTS_MOST (map event_word s.events)
  unfolding work_of
  words_part = laid_part (work_parts s) work_widths (work_wide s h) 7 (omega arith)

  -- The first of them.
  module _ (e : Event) (es : List Event) (are : s.events ≡ e ∷ es) where
    pub first_key : get_or (work_of s) Row.KEYS 0 ≡ event_key e
    first_key =
        sym (part_at (work_of s) Row.KEYS Row.EVENTS_MOST 0 (omega arith))
        ∙ ap (λ l. get_or l 0 0) keys_part
        ∙ ap (λ l. get_or (pad Row.EVENTS_MOST (map event_key l)) 0 0) are

    pub first_word : get_or (work_of s) Row.NOTICES 0 ≡ event_word e
    first_word =
        sym (part_at (work_of s) Row.NOTICES Row.EVENTS_MOST 0 (omega arith))
        ∙ ap (λ l. get_or l 0 0) words_part
        ∙ ap (λ l. get_or (pad Row.EVENTS_MOST (map event_word l)) 0 0) are

  -- Other keys are written first: the words stay. Then other words, and how many there are.
  module _ (ks : List ℕ) (wide : length ks ≡ Row.EVENTS_MOST) where
    abbrev changed_keys : List ℕ
    changed_keys = take Row.KEYS (work_of s) ++ (ks ++ drop Row.EVENTS_MOST (drop Row.KEYS (work_of s)))

    keys_wide : Wide (set (work_parts s) 6 ks) work_widths
    keys_wide = wide_replaced (work_parts s) work_widths (work_wide s h) 6 ks wide

    keys_replaced : changed_keys ≡ laid (set (work_parts s) 6 ks)
    unfolding work_of
    keys_replaced = laid_replaced (work_parts s) work_widths (work_wide s h) 6 ks (omega arith)

    pub words_still : take Row.EVENTS_MOST (drop Row.NOTICES changed_keys) ≡ pad Row.EVENTS_MOST (map event_word s.events)
    words_still =
        ap (λ l. take Row.EVENTS_MOST (drop Row.NOTICES l)) keys_replaced
        ∙ laid_part (set (work_parts s) 6 ks) work_widths keys_wide 7 (omega arith)

    pub events_changed : (ws : List ℕ) (n : ℕ) (es : List Event)
        → ks ≡ pad Row.EVENTS_MOST (map event_key es) → ws ≡ pad Row.EVENTS_MOST (map event_word es) → n ≡ length es
        → set (take Row.NOTICES changed_keys ++ (ws ++ drop Row.EVENTS_MOST (drop Row.NOTICES changed_keys))) Row.EVENTS n
        ≡ work_of (with_events s es)
    unfolding work_of laid
    events_changed ws n es a b c =
        ap (λ l. set (take Row.NOTICES l ++ (ws ++ drop Row.EVENTS_MOST (drop Row.NOTICES l))) Row.EVENTS n) keys_replaced
        ∙ ap (λ l. set l Row.EVENTS n) (laid_replaced (set (work_parts s) 6 ks) work_widths keys_wide 7 ws (omega arith))
        ∙ ap (λ l. set (laid (set (set (work_parts s) 6 l) 7 ws)) Row.EVENTS n) a
        ∙ ap (λ l. set (laid (set (set (work_parts s) 6 (pad Row.EVENTS_MOST (map event_key es))) 7 l)) Row.EVENTS n) b
        ∙ ap (λ l. set (work_of (with_events s es)) Row.EVENTS l) c
