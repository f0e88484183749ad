-- `act_step::occurs` meets its contract: the word tells the notice. Assumes nothing.
use Rattle.act_step.proofs.Occurring.{waking, wakes_as, resource_comes, bin_comes, resource_back, bin_back}
use mathlib.Core.Path.{ap}
use Rattle.semantics.specs.Step.{occurs}
use Rattle.act_step.proofs.occurs.Goals as goal

pub wakes-requires : goal.wakes-requires
wakes-requires c = record {
  waking = waking c.requires.occurring c.kind_of-kind.ensures.0 c.number_of-i.ensures.0 c.if-kind-eq-WAKES.true;
  roomy = c.requires.roomy;
}

pub returns-then-kind-eq-WAKES : goal.returns-then-kind-eq-WAKES
returns-then-kind-eq-WAKES c = λ v.
    let k = c.kind_of-kind.ensures.0 in
    let n = c.number_of-i.ensures.0 in
    let z = c.if-kind-eq-WAKES.true in
    rw (wakes_as v k n z) (c.wakes.ensures (waking v k n z))

pub resource_back-requires : goal.resource_back-requires
resource_back-requires c = let n = c.number_of-i.ensures.0 in
    let e = resource_comes c.requires.occurring c.kind_of-kind.ensures.0 n c.amount_of-n.ensures.0
    c.giver_of-g.ensures c.if-kind-eq-RESOURCE.true in record {
      returning = resource_back c.requires.occurring e;
      roomy = c.requires.roomy;
    }

pub returns-then-kind-eq-RESOURCE : goal.returns-then-kind-eq-RESOURCE
returns-then-kind-eq-RESOURCE c = λ v.
    let n = c.number_of-i.ensures.0 in
    let e = resource_comes v c.kind_of-kind.ensures.0 n c.amount_of-n.ensures.0
    c.giver_of-g.ensures c.if-kind-eq-RESOURCE.true in
    rw (ap (occurs v.run.model v.run.is) e) (c.resource_back.ensures (resource_back v e))

pub bin_back-requires : goal.bin_back-requires
bin_back-requires c = let n = c.number_of-i.ensures.0 in
    let e = bin_comes c.requires.occurring c.kind_of-kind.ensures.0 n c.amount_of-n.ensures.0
    c.giver_of-g.ensures c.if-kind-eq-WAKES.false c.if-kind-eq-RESOURCE.false in record {
      returning = bin_back c.requires.occurring e;
      roomy = c.requires.roomy;
    }

pub returns : goal.returns
returns c = λ v.
    let n = c.number_of-i.ensures.0 in
    let e = bin_comes v c.kind_of-kind.ensures.0 n c.amount_of-n.ensures.0
    c.giver_of-g.ensures c.if-kind-eq-WAKES.false c.if-kind-eq-RESOURCE.false in
    rw (ap (occurs v.run.model v.run.is) e) (c.bin_back.ensures (bin_back v e))
