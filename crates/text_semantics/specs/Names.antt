-- Names: declared before use, each once (docs/TEXT.md, section 4). Every name of a text asks for something or declares something.
-- Assumes nothing.
use Rattle.std.specs.Prelude.{ℕ, ◌+◌, List, [], ◌∷◌, ◌++◌, map, Bool, true, false, not, ◌&&◌, eqb, length, if◌then◌else◌}
use Rattle.std.proofs.Math.Option.{Option, none, some}
use Rattle.semantics.specs.Words.{any, keep, collect}
use Rattle.semantics.specs.Kinds as K
use Rattle.text_semantics.specs.Numbers as No
use Rattle.text_semantics.specs.Lexing.{same_bytes}
use Rattle.text_semantics.specs.Grammar as G
use Rattle.text_semantics.specs.Grammar.{Name, Part, Ex, Item, Claim, Give, Gives, Kind, Act, Few, Locals, Body}
use Rattle.text_semantics.specs.Grammar.{Declaration, Text}

-- What a name is: the kind of the record that declares it. A local has no record.
abbrev pub LOCAL : ℕ
LOCAL = 0

-- What fits where a name is asked for.
abbrev pub resource : List ℕ
resource = K.RES ∷ []

abbrev pub bin : List ℕ
bin = K.BIN ∷ []

abbrev pub sync : List ℕ
sync = K.SYNC ∷ []

abbrev pub class : List ℕ
class = K.CLASS ∷ []

abbrev pub variable : List ℕ
variable = K.VAR ∷ []

abbrev pub store : List ℕ
store = K.VAR ∷ LOCAL ∷ []

abbrev pub value : List ℕ
value = K.VAR ∷ LOCAL ∷ K.SAMPLER ∷ []

-- WHAT A TEXT DOES WITH NAMES, in its order.
pub data Event : Type 0 where
  asks : List ℕ → Name → Event  -- one of these is asked for
  declares : ℕ → Name → Event  -- as what
  announces : Name → Event  -- a class, without its body
  embodies : Name → Event  -- a class, with its body
  leaves : Event  -- the class body ends, and its locals with it; no name stands here

abbrev pub in_ex : {p : Part} → Ex p → List Event
in_ex (G.sum t ts) = in_ex t ++ in_ex ts
in_ex G.no_terms = []
in_ex (G.plus t ts) = in_ex t ++ in_ex ts
in_ex (G.less t ts) = in_ex t ++ in_ex ts
in_ex (G.product f fs) = in_ex f ++ in_ex fs
in_ex G.no_factors = []
in_ex (G.times f fs) = in_ex f ++ in_ex fs
in_ex (G.literal n) = []
in_ex (G.plain a) = in_ex a
in_ex (G.negative m) = in_ex m
in_ex (G.magnitude n) = []
in_ex (G.negated a) = in_ex a
in_ex (G.again m) = in_ex m
in_ex (G.value x) = asks value x ∷ []
in_ex G.clock = []
in_ex (G.bracket e) = in_ex e
in_ex (G.lesser a b) = in_ex a ++ in_ex b
in_ex (G.greater a b) = in_ex a ++ in_ex b

abbrev pub in_item : Item → List Event
in_item (G.get_r x n) = asks resource x ∷ []
in_item (G.get_b x n) = asks bin x ∷ []
in_item (G.get_s x n) = asks sync x ∷ []
in_item (G.condition x k n) = asks variable x ∷ []

abbrev pub in_claim : Claim → List Event
in_claim G.nothing = []
in_claim (G.claim i is) = in_item i ++ collect in_item is

abbrev pub in_give : Give → List Event
in_give (G.give x n) = asks resource x ∷ []

abbrev pub in_gives : Gives → List Event
in_gives G.no_gives = []
in_gives (G.gives x n gs) = asks resource x ∷ collect in_give gs

abbrev pub in_act : {k : Kind} → Act k → List Event
in_act (G.hold e) = in_ex e
in_act (G.priority e) = in_ex e
in_act (G.trace e) = in_ex e
in_act (G.set x e) = asks store x ∷ in_ex e
in_act (G.repeat n b) = in_act b
in_act (G.put_r x n) = asks resource x ∷ []
in_act (G.put_b x n) = asks bin x ∷ []
in_act (G.put_s x n) = asks sync x ∷ []
in_act (G.become x) = asks sync x ∷ []
in_act (G.req c) = in_claim c
in_act (G.try c b bs) = in_claim c ++ in_act b ++ in_act bs
in_act (G.while c b) = in_claim c ++ in_act b
in_act (G.start x n g) = asks class x ∷ in_gives g
in_act G.close = []
in_act G.no_branches = []
in_act (G.etry c b bs) = in_claim c ++ in_act b ++ in_act bs
in_act G.no_actions = []
in_act (G.follow a b) = in_act a ++ in_act b

abbrev pub in_few : {k : ℕ} → Few k → List Event
in_few G.no_names = []
in_few (G.also x xs) = declares LOCAL x ∷ in_few xs

abbrev pub in_locals : Locals → List Event
in_locals G.no_locals = []
in_locals (G.locals x xs) = declares LOCAL x ∷ in_few xs

abbrev pub in_class : Name → Body → List Event
in_class x G.announced = announces x ∷ []
in_class x (G.body l b) = embodies x ∷ in_locals l ++ in_act b ++ (leaves ∷ [])

abbrev pub in_declaration : Declaration → List Event
in_declaration (G.res x n) = declares K.RES x ∷ []
in_declaration (G.bin x n) = declares K.BIN x ∷ []
in_declaration (G.sync x) = declares K.SYNC x ∷ []
in_declaration (G.var x n) = declares K.VAR x ∷ []
in_declaration (G.sampler x a b n) = declares K.SAMPLER x ∷ []
in_declaration (G.class x b) = in_class x b
in_declaration (G.entity x n) = asks class x ∷ []

abbrev pub events : Text → List Event
events t = collect in_declaration t

-- WHAT IS KNOWN at a place: the names that are declared before it, in their order, but for the locals of class bodies that have
-- ended. A number is how many of its kind are declared before it. A class that was announced lacks its body until that comes.
pub record Known : Type 0 where
  pub name : Name
  pub what : ℕ
  pub number : ℕ
  pub lacks : Bool

abbrev pub named : Name → Known → Bool
named x k = same_bytes x k.name

abbrev pub fits : List ℕ → Name → Known → Bool
fits ws x k = named x k && any (eqb k.what) ws

abbrev pub awaited : Name → Known → Bool
awaited x k = named x k && k.lacks

abbrev pub stays : Known → Bool
stays k = not (eqb k.what LOCAL)

abbrev pub one_more : List Known → ℕ → Name → Bool → List Known
one_more ks w x l =
    ks ++ (record { name = x; what = w; number = length (keep (λ k. eqb w k.what) ks); lacks = l } ∷ [])

abbrev pub bodied : Name → Known → Known
bodied x k = record { name = k.name; what = k.what; number = k.number; lacks = k.lacks && not (named x k) }

unfoldable pub knows : List Known → Event → List Known
knows ks (asks ws x) = ks
knows ks (declares w x) = one_more ks w x false
knows ks (announces x) = one_more ks K.CLASS x true
knows ks (embodies x) = if any (named x) ks then map (bodied x) ks else one_more ks K.CLASS x false
knows ks leaves = keep stays ks

unfoldable pub after : List Known → List Event → List Known
unfolding knows
after ks [] = ks
after ks (e ∷ es) = after (knows ks e) es

-- TROUBLE: 52, a name that is not known or doesn't fit; 53, one that is taken, and not by a class that lacks its body.
abbrev pub wanting : ℕ → Bool → Option ℕ
wanting n true = none
wanting n false = some n

unfoldable pub trouble : List Known → Event → Option ℕ
trouble ks (asks ws x) = wanting No.UNKNOWN (any (fits ws x) ks)
trouble ks (declares w x) = wanting No.AGAIN (not (any (named x) ks))
trouble ks (announces x) = wanting No.AGAIN (not (any (named x) ks))
trouble ks (embodies x) = wanting No.AGAIN (if any (awaited x) ks then true else not (any (named x) ks))
trouble ks leaves = none

-- The first trouble: its number, and how many names stand before the name that it is with.
pub record Troubled : Type 0 where
  pub number : ℕ
  pub before : ℕ

-- How many names an event has.
abbrev pub names : Event → ℕ
names (asks ws x) = 1
names (declares w x) = 1
names (announces x) = 1
names (embodies x) = 1
names leaves = 0

unfoldable pub trouble_in : List Known → List Event → Option Troubled
unfolding knows trouble
trouble_in ks [] = none
trouble_in ks (e ∷ es) =
    elim (trouble ks e) [
      | some n ↦ some (record { number = n; before = 0 })
      | none ↦ elim (trouble_in (knows ks e) es) [
        | none ↦ none
        | some t ↦ some (record { number = t.number; before = names e + t.before })
      ]
    ]
