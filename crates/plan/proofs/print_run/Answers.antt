-- `plan::print_run` meets its contract: turn by turn the next piece of the plan is printed, and what is left of a million steps
-- falls. Assumes nothing.
use Rattle.std.proofs.Common.{ℕ, refl, sym, ◌∙◌, arith}
use lib.ListN.{length-replicate}
use Rattle.run_limit.specs.Ran.{answer_of}
use Rattle.plan_turn.proofs.Turned.{few_steps, all_steps}
use Rattle.plan.specs.Room.{JOURNAL}
use Rattle.plan.proofs.Opening.{is_accepted, the_bound, reads, loaded, opened, falls}
use Rattle.plan.proofs.Printing.{begin, next_turn, turn_on, next_end, all_printed}
use Rattle.plan.proofs.Writing.{none_written, next_written, all_written}
use Rattle.plan.proofs.print_run.Goals as goal

pub map_of-map-requires : goal.map_of-map-requires
map_of-map-requires g c = reads (is_accepted _ _ c.requires.accepted)

pub fresh-requires : goal.fresh-requires
fresh-requires g c = loaded (is_accepted _ _ c.requires.accepted) c.shared_slice_known-1.given c.map_of-map.ensures

pub loop-answer-init : goal.loop-answer-init
loop-answer-init g c = let a = is_accepted _ _ c.requires.accepted in (
  begin (opened a c.shared_slice_known-1.given c.map_of-map.ensures c.fresh.ensures) a.passes refl c.requires.at_value,
  (omega arith, (length-replicate {A = ℕ} JOURNAL 0, none_written _ _ c.requires.at_value)),
)

pub print-requires-clause-next : goal.print-requires-clause-next
print-requires-clause-next g c = let i = c.loop-answer.invariant in
    next_turn i.0 (sym c.loop-answer-test.ensures) c.min-limit.result c.min-limit.ensures c.loop-answer.journal i.1.1.0
    (c.turn-turn.ensures i.0.running) c.as_str.ensures.value

pub overflow_add-steps : goal.overflow_add-steps
overflow_add-steps g c = let i = c.loop-answer.invariant in
    omega (arith, i.1.0, c.min-limit.ensures, few_steps i.0.running _ _ (c.turn-turn.ensures i.0.running))

pub loop-answer-smaller : goal.loop-answer-smaller
loop-answer-smaller g c = let o = c.loop-answer.invariant.0.running in
    let l = c.loop-answer in
    let r = c.turn-turn.result in
    falls (answer_of l.answer) (answer_of r.answer) l.steps r.steps (sym c.loop-answer-test.ensures)
    (λ e. all_steps o _ _ (c.turn-turn.ensures o) e ∙ c.min-limit.ensures)

pub loop-answer-preserved : goal.loop-answer-preserved
loop-answer-preserved g c = let i = c.loop-answer.invariant in
    let t = c.turn-turn.ensures i.0.running in
    let q = sym c.loop-answer-test.ensures in
    let k = c.min-limit.ensures in
    let r = i.1.1.0 in
    let e = c.as_str.ensures.value in
    let p = c.print.ensures in (
      turn_on i.0 q c.min-limit.result k c.loop-answer.journal r t e c.as_str.ensures.fits p.at_after,
      (
        omega (arith, i.1.0, k, few_steps i.0.running _ _ t),
        (
          c.journal-in-loop-answer-1.given,
          next_written c.loop-answer.went c.print.result c.and-went.result _ _ _ c.and-went.ensures
              (next_turn i.0 q c.min-limit.result k c.loop-answer.journal r t e) p.at_after i.1.1.1 p.written,
        ),
      ),
    )

pub print-requires-2-clause-next : goal.print-requires-2-clause-next
print-requires-2-clause-next g c = let i = c.loop-answer.invariant in
    next_end i.0 (sym c.loop-answer-test.ensures) (the_bound _ _ _ c.requires.accepted i.0.passes)
    (c.as_str-2.ensures.value ∙ c.ending-end.ensures)

pub returns-clause-at_after : goal.returns-clause-at_after
returns-clause-at_after g c = let i = c.loop-answer.invariant in
    c.print-2.ensures.at_after
    ∙ all_printed i.0 (sym c.loop-answer-test.ensures) (the_bound _ _ _ c.requires.accepted i.0.passes)
    (c.as_str-2.ensures.value ∙ c.ending-end.ensures)

pub returns-clause-written : goal.returns-clause-written
returns-clause-written g c = let i = c.loop-answer.invariant in
    all_written c.and.result _ _ _ (returns-clause-at_after g c)
    (next_written c.loop-answer.went c.print-2.result c.and.result _ _ _ c.and.ensures
    (next_end i.0 (sym c.loop-answer-test.ensures) (the_bound _ _ _ c.requires.accepted i.0.passes)
    (c.as_str-2.ensures.value ∙ c.ending-end.ensures))
    c.print-2.ensures.at_after i.1.1.1 c.print-2.ensures.written)
