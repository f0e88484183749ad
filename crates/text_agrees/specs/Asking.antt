-- Actions only ask for names: what holds of nothing, of one name asked for, and of two lists together, holds of theirs.
-- Assumes nothing.
use Rattle.std.specs.Prelude.{ℕ, List, [], ◌∷◌, ◌++◌}
use Rattle.semantics.specs.Words.{collect}
use Rattle.text_semantics.specs.Grammar as G
use Rattle.text_semantics.specs.Grammar.{Name}
use Rattle.text_semantics.specs.Names.{Event, asks, in_ex, in_item, in_claim, in_give, in_gives, in_act, resource, bin, sync, class}
use Rattle.text_semantics.specs.Names.{variable, store, value}

module _ (P : List Event → Type 0) (none : P []) (one : (ws : List ℕ) (x : Name) → P (asks ws x ∷ []))
    (join : (es fs : List Event) → P es → P fs → P (es ++ fs)) where
  all : {A : Type 0} (f : A → List Event) → ((x : A) → P (f x)) → (xs : List A) → P (collect f xs)
  all f p [] = none
  all f p (x ∷ xs) = join (f x) (collect f xs) (p x) (all f p xs)

  asked_ex : {p : G.Part} (e : G.Ex p) → P (in_ex e)
  asked_ex (G.sum t ts) = join (in_ex t) (in_ex ts) (asked_ex t) (asked_ex ts)
  asked_ex G.no_terms = none
  asked_ex (G.plus t ts) = join (in_ex t) (in_ex ts) (asked_ex t) (asked_ex ts)
  asked_ex (G.less t ts) = join (in_ex t) (in_ex ts) (asked_ex t) (asked_ex ts)
  asked_ex (G.product f fs) = join (in_ex f) (in_ex fs) (asked_ex f) (asked_ex fs)
  asked_ex G.no_factors = none
  asked_ex (G.times f fs) = join (in_ex f) (in_ex fs) (asked_ex f) (asked_ex fs)
  asked_ex (G.literal n) = none
  asked_ex (G.plain a) = asked_ex a
  asked_ex (G.negative m) = asked_ex m
  asked_ex (G.magnitude n) = none
  asked_ex (G.negated a) = asked_ex a
  asked_ex (G.again m) = asked_ex m
  asked_ex (G.value x) = one value x
  asked_ex G.clock = none
  asked_ex (G.bracket e) = asked_ex e
  asked_ex (G.lesser a b) = join (in_ex a) (in_ex b) (asked_ex a) (asked_ex b)
  asked_ex (G.greater a b) = join (in_ex a) (in_ex b) (asked_ex a) (asked_ex b)

  asked_item : (i : G.Item) → P (in_item i)
  asked_item (G.get_r x n) = one resource x
  asked_item (G.get_b x n) = one bin x
  asked_item (G.get_s x n) = one sync x
  asked_item (G.condition x k n) = one variable x

  asked_claim : (c : G.Claim) → P (in_claim c)
  asked_claim G.nothing = none
  asked_claim (G.claim i is) = join (in_item i) (collect in_item is) (asked_item i) (all in_item asked_item is)

  asked_give : (g : G.Give) → P (in_give g)
  asked_give (G.give x n) = one resource x

  asked_gives : (g : G.Gives) → P (in_gives g)
  asked_gives G.no_gives = none
  asked_gives (G.gives x n gs) = join (asks resource x ∷ []) (collect in_give gs) (one resource x)
      (all in_give asked_give gs)

  pub asked_act : {k : G.Kind} (a : G.Act k) → P (in_act a)
  asked_act (G.hold e) = asked_ex e
  asked_act (G.priority e) = asked_ex e
  asked_act (G.trace e) = asked_ex e
  asked_act (G.set x e) = join (asks store x ∷ []) (in_ex e) (one store x) (asked_ex e)
  asked_act (G.repeat n b) = asked_act b
  asked_act (G.put_r x n) = one resource x
  asked_act (G.put_b x n) = one bin x
  asked_act (G.put_s x n) = one sync x
  asked_act (G.become x) = one sync x
  asked_act (G.req c) = asked_claim c
  asked_act (G.try c b bs) =
      join (in_claim c ++ in_act b) (in_act bs) (join (in_claim c) (in_act b) (asked_claim c) (asked_act b))
      (asked_act bs)
  asked_act (G.while c b) = join (in_claim c) (in_act b) (asked_claim c) (asked_act b)
  asked_act (G.start x n g) = join (asks class x ∷ []) (in_gives g) (one class x) (asked_gives g)
  asked_act G.close = none
  asked_act G.no_branches = none
  asked_act (G.etry c b bs) =
      join (in_claim c ++ in_act b) (in_act bs) (join (in_claim c) (in_act b) (asked_claim c) (asked_act b))
      (asked_act bs)
  asked_act G.no_actions = none
  asked_act (G.follow a b) = join (in_act a) (in_act b) (asked_act a) (asked_act b)
