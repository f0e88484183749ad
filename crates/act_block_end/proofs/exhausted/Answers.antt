-- `act_block_end::exhausted` meets its contract: rounds that are left, and blocks around, say what is done. Assumes nothing.
use Rattle.act_block_end.proofs.Leaving.{its_shown, its_place, going_round, went_round, in_body, body_left, in_block}
use Rattle.act_block_end.proofs.Leaving.{block_left}
use Rattle.act_block_end.proofs.exhausted.Goals as goal

pub rounds_at-requires : goal.rounds_at-requires
rounds_at-requires c = its_shown c.requires.exhausted

pub go_round-requires : goal.go_round-requires
go_round-requires c = going_round c.requires.exhausted c.rounds_at.ensures c.if-rounds_at-gt1.true

pub returns-then-rounds_at-gt1 : goal.returns-then-rounds_at-gt1
returns-then-rounds_at-gt1 c = λ v.
    let r = c.rounds_at.ensures in
    let t = c.if-rounds_at-gt1.true in
    went_round v r t (c.go_round.ensures (going_round v r t)) _ _

pub depth_of-requires : goal.depth_of-requires
depth_of-requires c = its_place c.requires.exhausted

pub ends-requires : goal.ends-requires
ends-requires c = let r = c.rounds_at.ensures in
    let d = c.depth_of.ensures.0 in record {
      ends = in_body c.requires.exhausted r c.if-rounds_at-gt1.false d c.if-depth_of-eq1.true;
      roomy = c.requires.roomy;
    }

pub returns-then-depth_of-eq1 : goal.returns-then-depth_of-eq1
returns-then-depth_of-eq1 c = λ v.
    let r = c.rounds_at.ensures in
    let d = c.depth_of.ensures.0 in
    let t = c.if-depth_of-eq1.true in
    rw (body_left v r c.if-rounds_at-gt1.false d t) (c.ends.ensures (in_body v r c.if-rounds_at-gt1.false d t))

pub leave-requires : goal.leave-requires
leave-requires c = let d = c.depth_of.ensures.0 in
    in_block c.requires.exhausted c.rounds_at.ensures c.if-rounds_at-gt1.false d c.if-depth_of-eq1.false

pub returns : goal.returns
returns c = λ v.
    let r = c.rounds_at.ensures in
    let d = c.depth_of.ensures.0 in
    let t = c.if-depth_of-eq1.false in
    block_left v r c.if-rounds_at-gt1.false d t (c.leave.ensures (in_block v r c.if-rounds_at-gt1.false d t)) _ _
