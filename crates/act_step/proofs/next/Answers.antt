-- `act_step::next` meets its contract: a fault puts the first event back. Assumes nothing.
use native.Mathlib.Omega.{arith}
use mathlib.Core.Path.{refl}
use Rattle.act_step.proofs.First.{work_long, taking, occurring, occurred, putting_back, undone}
use Rattle.act_step.proofs.next.Goals as goal

pub bounds-w-0 : goal.bounds-w-0
bounds-w-0 c = let v = c.requires.going in omega (arith, work_long v.0)

pub bounds-w-200 : goal.bounds-w-200
bounds-w-200 c = let v = c.requires.going in omega (arith, work_long v.0)

pub take_first-word-requires : goal.take_first-word-requires
take_first-word-requires c = let v = c.requires.going in taking v.0 v.1

pub occurs-went-requires : goal.occurs-went-requires
occurs-went-requires c = let v = c.requires.going in
    let f = c.take_first-word.ensures (taking v.0 v.1) in record {
      occurring = occurring v.0 v.1 f.word_is f.done;
      roomy = c.requires.roomy;
    }

pub put_back-requires : goal.put_back-requires
put_back-requires c = let v = c.requires.going in
    let f = c.take_first-word.ensures (taking v.0 v.1) in
    putting_back v.0 v.1 f.word_is f.done _ _ _ _ _ _
    (c.occurs-went.ensures (occurring v.0 v.1 f.word_is f.done)) c.if-went-ne0.true refl refl

pub returns-then-went-ne0 : goal.returns-then-went-ne0
returns-then-went-ne0 c = λ v.
    let z = c.requires.going.1 in
    let f = c.take_first-word.ensures (taking v z) in
    let o = c.occurs-went.ensures (occurring v z f.word_is f.done) in
    undone v z f.word_is f.done _ _ _ _ _ _ o c.if-went-ne0.true refl refl
    (c.put_back.ensures
    (putting_back v z f.word_is f.done _ _ _ _ _ _ o c.if-went-ne0.true refl refl))

pub returns-else-went-ne0 : goal.returns-else-went-ne0
returns-else-went-ne0 c = λ v.
    let z = c.requires.going.1 in
    let f = c.take_first-word.ensures (taking v z) in
    occurred v z f.word_is f.done _ _ _ _ _ _
    (c.occurs-went.ensures (occurring v z f.word_is f.done)) c.if-went-ne0.false
