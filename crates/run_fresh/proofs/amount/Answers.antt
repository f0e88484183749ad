-- `run_fresh::amount` meets its contract, by the kinds. Assumes nothing.
use native.Mathlib.Omega.{arith}
use mathlib.Core.Path.{◌∙◌, sym, ap}
use Rattle.semantics.specs.Bytes.{signed}
use Rattle.base_i32.specs.Code.{code}
use Rattle.run_fresh.proofs.Amounts.{var_there, var_is, sampler_there, sampler_is, amount_there, amount_is, none_is}
use Rattle.run_fresh.proofs.amount.Goals as goal

pub u32_at-requires : goal.u32_at-requires
u32_at-requires c = var_there c.args.kind c.args.bs.now c.requires c.in-4.is

pub u32_at-requires-in-8 : goal.u32_at-requires-in-8
u32_at-requires-in-8 c = sampler_there c.args.kind c.args.bs.now c.requires c.in-8.is

pub u32_at-requires-in-1 : goal.u32_at-requires-in-1
u32_at-requires-in-1 c = amount_there c.args.kind c.args.bs.now c.in-1.if-kind-lt1-own.false c.in-1.if-kind-lt3-own.true c.requires

pub returns-in-4 : goal.returns-in-4
returns-in-4 c = c.from_twos.ensures ∙ ap (λ n. code (signed n)) c.u32_at.ensures
    ∙ sym (var_is c.args.kind c.args.bs.now c.in-4.is)

pub returns-in-8 : goal.returns-in-8
returns-in-8 c = c.u32_at-in-8.ensures ∙ sym (sampler_is c.args.kind c.args.bs.now c.in-8.is)

pub returns-in-1 : goal.returns-in-1
returns-in-1 c = c.u32_at-in-1.ensures ∙ sym (amount_is c.args.kind c.args.bs.now c.in-1.if-kind-lt1-own.false c.in-1.if-kind-lt3-own.true)

pub returns-in_default : goal.returns-in_default
returns-in_default c = let r = c.in_default.in_default-own.rest in
    sym (none_is c.args.kind c.args.bs.now (λ e. omega arith) (λ e. omega arith) r.0.1 r.1)

pub returns-in_default-2 : goal.returns-in_default-2
returns-in_default-2 c = let r = c.in_default.in_default-own.rest in
    sym (none_is c.args.kind c.args.bs.now (λ e. omega arith) (λ e. omega arith) r.0.1 r.1)
