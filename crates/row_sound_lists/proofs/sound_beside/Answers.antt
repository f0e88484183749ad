-- `row_sound_lists::sound_beside` meets its contract: all its tests together. Assumes nothing.
use Rattle.row_sound_lists.proofs.Whole.{shown, is_bounded, few_syncs, few_resources, tests_decide}
use Rattle.row_sound_lists.proofs.Loops.{blocked_lined}
use Rattle.row_sound_lists.proofs.sound_beside.Goals as goal

pub returns-few-requires : goal.returns-few-requires
returns-few-requires c = shown c.requires

pub places_fit-requires : goal.places_fit-requires
places_fit-requires c = is_bounded c.requires

pub in_one-requires : goal.in_one-requires
in_one-requires c = let v = c.requires in (is_bounded v, few_syncs v)

pub events_fit-requires : goal.events_fit-requires
events_fit-requires c = is_bounded c.requires

pub queue_fits-requires : goal.queue_fits-requires
queue_fits-requires c = blocked_lined (is_bounded c.requires)

pub waiting_fits-requires : goal.waiting_fits-requires
waiting_fits-requires c = let v = c.requires in (is_bounded v, few_syncs v)

pub adds_up-requires : goal.adds_up-requires
adds_up-requires c = let v = c.requires in
    (is_bounded v, (few_resources v, v.things.totals_many))

pub returns : goal.returns
unfolding shown
returns c = λ v.
    rw (
      c.returns-few.ensures (shown v),
      c.places_fit.ensures,
      c.in_one.ensures,
      c.events_fit.ensures,
      c.queue_fits.ensures,
      c.waiting_fits.ensures,
      c.adds_up.ensures,
    )
    (tests_decide v)
