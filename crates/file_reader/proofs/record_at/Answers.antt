-- `file_reader::record_at` meets its contract. Assumes nothing.
use native.Mathlib.Omega.{arith}
use Rattle.file_reader.proofs.Places.{record_none, there, record_stands}
use Rattle.file_reader.proofs.record_at.Goals as goal

pub returns-then-size-eq0 : goal.returns-then-size-eq0
returns-then-size-eq0 c = let a = c.args in
    record_none a.s.now a.at c.span_at-size.ensures c.if-size-eq0.true

pub overflow_add-at : goal.overflow_add-at
overflow_add-at c = let a = c.args in
    let w = there a.s.now a.at c.span_at-size.ensures c.if-size-eq0.false in omega arith

pub u16_at-requires : goal.u16_at-requires
u16_at-requires c = let a = c.args in
    let w = there a.s.now a.at c.span_at-size.ensures c.if-size-eq0.false in omega arith

pub overflow_add-result : goal.overflow_add-result
overflow_add-result c = let a = c.args in
    let w = there a.s.now a.at c.span_at-size.ensures c.if-size-eq0.false in omega arith

pub returns : goal.returns
returns c = let a = c.args in
    record_stands a.s.now a.at c.span_at-size.ensures c.if-size-eq0.false _ c.u16_at.ensures.0
