-- `act_puts_start::puts` meets its contract. Assumes nothing.
use native.Mathlib.Omega.{arith}
use mathlib.Core.Path.{refl}
use Rattle.act_floor.specs.Onward.{shown, low}
use Rattle.act_puts_start.proofs.Putting.{are_missing, releasing, passing, freeing, are_freed, few}
use Rattle.act_puts_start.proofs.puts.Goals as goal

pub owned-requires : goal.owned-requires
owned-requires c = let v = c.requires.on in shown v (low v)

pub returns-then-owned-n : goal.returns-then-owned-n
returns-then-owned-n c = λ v. are_missing v (c.owned.ensures (shown v (low v))) c.if-owned-n.true _ _

pub release-requires : goal.release-requires
release-requires c = let v = c.requires.on in record {
  doing = releasing v (c.owned.ensures (shown v (low v))) c.if-owned-n.false;
  in_bounds = omega arith;
}

pub past-requires : goal.past-requires
past-requires c = let v = c.requires.on in passing v (c.owned.ensures (shown v (low v))) c.if-owned-n.false
    c.release.ensures.done

pub free_all-requires : goal.free_all-requires
free_all-requires c = let v = c.requires.on in let k = c.owned.ensures (shown v (low v)) in record {
  freeing = freeing v k c.if-owned-n.false _ c.release.ensures.done c.past.ensures refl c.release.ensures.places_after;
  n_in_bounds = omega (
    arith,
    c.requires.roomy,
    few v k c.if-owned-n.false,
  );
}

pub returns : goal.returns
returns c = λ v. let k = c.owned.ensures (shown v (low v)) in are_freed
    v k c.if-owned-n.false _ c.release.ensures.done c.past.ensures refl c.release.ensures.places_after _ _ c.free_all.ensures
