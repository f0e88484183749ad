-- The machine writes an expression as its nodes: what the tokens of an expression make of a draft is its nodes, put behind the
-- body.
-- Assumes nothing.
use Rattle.std.specs.Prelude.{ℕ, suc, ◌+◌, ◌≡◌, Bool, true, false, ◌&&◌, leb, length, if◌then◌else◌}
use Rattle.std.proofs.Common.{arith, ◌∙◌, lt-ltb}
use Rattle.std.proofs.Math.Path.{refl, ap}
use mathlib.Core.List.{List, [], ◌∷◌, ◌++◌}
use Rattle.std.proofs.Math.Option.{Option}
use Rattle.std.proofs.Math.Dec.{eqb}
use Rattle.semantics.specs.Kinds as K
use Rattle.semantics.specs.Model as M
use Rattle.semantics.specs.Model.{Expr}
use Rattle.text_semantics.specs.Numbers as No
use Rattle.text_semantics.specs.Token as Tk
use Rattle.text_semantics.specs.Token.{Token, number, mark}
use Rattle.text_semantics.specs.Grammar as G
use Rattle.text_semantics.specs.Grammar.{Upto, Part, Ex, spell, Name}
use Rattle.text_semantics.specs.Names.{Known}
use Rattle.text_semantics.specs.Meaning.{kind_of, number_of, value_of, minus, Means, means}
use Rattle.text_semantics.specs.Written.{code, node, nodes_of}
use Rattle.text_semantics.specs.Table.{Values, Rule, says}
use Rattle.text_semantics.specs.Reading.{Symbol, Of, say, on, taken, fitted, a_number, factor_s, minus_s}
use Rattle.text_semantics.specs.Reading.{more, Closer}
use Rattle.text_semantics.specs.Reading.{round, comma, sign}
use Rattle.text_machine.specs.Entry.{Draft, DEPTH, Start, put, put_at, with_starts, opens, is_expression, op_of}
use Rattle.text_machine.specs.Entry.{new_term, asking, one_more}
use Rattle.text_machine.specs.Machine.{Reader}
use Rattle.text_agrees.specs.Flow.{next_in, flow, fits_true}
use Rattle.text_agrees.specs.Drafts.{Whole, put-put, whole_put, put_before}

-- The reader with another draft.
abbrev pub redrafted : Reader → Draft → Reader
redrafted r d =
    record { pile = []; known = r.known; called = r.called; called_at = r.called_at; draft = d; sheet = r.sheet }

-- How many tokens stand before what follows.
abbrev pub past : {p : Part} → Ex p → ℕ → ℕ
past (G.sum t ts) n = past ts (past t n)
past G.no_terms n = n
past (G.plus t ts) n = past ts (past t (suc n))
past (G.less t ts) n = past ts (past t (suc n))
past (G.product f fs) n = past fs (past f n)
past G.no_factors n = n
past (G.times f fs) n = past fs (past f (suc n))
past (G.literal x) n = suc n
past (G.plain a) n = past a n
past (G.negative m) n = past m (suc n)
past (G.magnitude x) n = suc n
past (G.negated a) n = past a n
past (G.again m) n = past m (suc n)
past (G.value x) n = suc n
past G.clock n = suc n
past (G.bracket e) n = suc (past e (suc n))
past (G.lesser a b) n = suc (past b (suc (past a (suc (suc n)))))
past (G.greater a b) n = suc (past b (suc (past a (suc (suc n)))))

-- A number that fits goes on.
pub next_number : {s : Symbol} (b n : ℕ) (ns : List Symbol) (make : Upto b → Values Of ns → Of s)
    (law : (v : Upto b) (vs : Values Of ns) (r : List Token) → say s (make v vs) r ≡ number v.value ∷ says Of say ns vs r)
    (o : Option (Rule Of say s (number n))) (x : Bool) (e : leb n b ≡ x) → x ≡ true →
    next_in (taken (on (a_number b) ns make law) (number n) (fitted b n x e) o) ≡ ns
next_number b n ns make law o true e f = refl
next_number b n ns make law o false e f = let z : ◌≡◌ {A = ℕ} 0 1 = cc in absurd (omega arith)

pub fits_number : {b : ℕ} (v : Upto b) → leb v.value b ≡ true
fits_number {b = b} v = fits_true (leb v.value b) v.fits

-- A name in an expression is its node.
pub value_node : (ks : List Known) (x : Name) → node (op_of (kind_of ks x)) (number_of ks x) ≡ nodes_of (value_of ks x)
unfolding nodes_of
value_node ks x = go (eqb (kind_of ks x) K.VAR) (eqb (kind_of ks x) K.SAMPLER) refl refl
  where
    go : (a b : Bool) → eqb (kind_of ks x) K.VAR ≡ a → eqb (kind_of ks x) K.SAMPLER ≡ b →
        node (op_of (kind_of ks x)) (number_of ks x) ≡ nodes_of (value_of ks x)
    go true b e f = rw e
    go false true e f = rw (e, f)
    go false false e f = rw (e, f)

-- What may be pending to the left of a term: nothing, a sum, a difference.
pub data Pending : Type 0 where
  nothing : Pending
  adding taking : Expr → Pending

abbrev pub with : Pending → Expr → Expr
with nothing p = p
with (adding a) p = M.add a p
with (taking a) p = M.subtract a p

abbrev pub base : Draft → Pending → Draft
base d nothing = d
base d (adding a) = put d (node 3 0 ++ nodes_of a)
base d (taking a) = put d (node 4 0 ++ nodes_of a)

abbrev pub started : Draft → Pending → Draft → Draft
started d l x = with_starts x (record { sum = d.size; term = (base d l).size } ∷ d.starts)

-- The draft behind a term p, where l is pending.
abbrev pub behind : Draft → Pending → Expr → Draft
behind d l p = started d l (put (base d l) (nodes_of p))

whole_base : (d : Draft) (l : Pending) → Whole d → Whole (base d l)
whole_base d nothing w = w
whole_base d (adding a) w = whole_put d _ w
whole_base d (taking a) w = whole_put d _ w

put-with : (d : Draft) (l : Pending) (p : Expr) → put (base d l) (nodes_of p) ≡ put d (nodes_of (with l p))
unfolding nodes_of
put-with d nothing p = refl
put-with d (adding a) p = put-put d (node 3 0 ++ nodes_of a) (nodes_of p)
put-with d (taking a) p = put-put d (node 4 0 ++ nodes_of a) (nodes_of p)

-- What is asked of the draft in an expression in which n brackets may still be opened.
pub record Ready (n : ℕ) (d : Draft) : Type 0 where
  pub whole : Whole d
  pub expression : is_expression d.kind ≡ true
  pub deep : length d.starts + n ≡ DEPTH

-- Where expressions begin has nothing to do with the body.
starts_put : (x : Draft) (ss : List Start) (bs : List ℕ) → put (with_starts x ss) bs ≡ with_starts (put x bs) ss
unfolding put
starts_put x ss bs = refl

starts_put_at : (x : Draft) (ss : List Start) (n : ℕ) (bs : List ℕ) → put_at (with_starts x ss) n bs ≡ with_starts (put_at x n bs) ss
unfolding put_at
starts_put_at x ss n bs = refl

pub kind_put : (x : Draft) (bs : List ℕ) → (put x bs).kind ≡ x.kind
unfolding put
kind_put x bs = refl

starts_of_put : (x : Draft) (bs : List ℕ) → (put x bs).starts ≡ x.starts
unfolding put
starts_of_put x bs = refl

kind_base : (d : Draft) (l : Pending) → (base d l).kind ≡ d.kind
kind_base d nothing = refl
kind_base d (adding a) = kind_put d _
kind_base d (taking a) = kind_put d _

-- One more factor goes before the term, and a sum or difference before all of it.
times_term : (d : Draft) (l : Pending) (p : Expr) → Whole d →
    put_at (behind d l p) (base d l).size (node 5 0) ≡ started d l (put (base d l) (node 5 0 ++ nodes_of p))
times_term d l p w =
    starts_put_at (put (base d l) (nodes_of p)) (record { sum = d.size; term = (base d l).size } ∷ d.starts) (base d l).size
    (node 5 0)
    ∙ ap (λ (x : Draft). started d l x) (put_before (base d l) (node 5 0) (nodes_of p) (whole_base d l w))

before_sum : (d : Draft) (l : Pending) (p : Expr) (op : ℕ) (ss : List Start) → Whole d →
    put_at (with_starts (put (base d l) (nodes_of p)) ss) d.size (node op 0)
    ≡ with_starts (put d (node op 0 ++ nodes_of (with l p))) ss
before_sum d l p op ss w =
    starts_put_at (put (base d l) (nodes_of p)) ss d.size (node op 0)
    ∙ ap (λ (x : Draft). with_starts (put_at x d.size (node op 0)) ss) (put-with d l p)
    ∙ ap (λ (x : Draft). with_starts x ss) (put_before d (node op 0) (nodes_of (with l p)) w)

module _ (place : ℕ → ℕ) (r : Reader) where
  -- Whatever follows: the tokens ts, with ss still to come, make of the reader what none do of another.
  abbrev pub Goes : (List Token → List Token) → (ℕ → ℕ) → List Symbol → List Symbol → Draft → Draft → Type 0
  Goes spelled to ss zs d e =
      (at : ℕ) (ts : List Token) (us : List Symbol) →
      flow place at (spelled ts) (ss ++ us) (redrafted r d) ≡ flow place (to at) ts (zs ++ us) (redrafted r e)

  abbrev pub written : {p : Part} → Ex p → Means p
  written x = means r.known x

  -- What each part does.
  abbrev pub Does : (p : Part) → Ex p → Type 0
  Does (G.expression n) e =
      (d : Draft) → Ready (suc n) d → (c : Closer) → (q : ℕ)
      × Goes (spell e) (past e) (factor_s n ∷ more n c ∷ []) (more n c ∷ []) (started d nothing d)
      (with_starts (put d (nodes_of (written e))) (record { sum = d.size; term = q } ∷ d.starts))
  Does (G.term n) t =
      (d : Draft) → Ready (suc n) d → (c : Closer) (l : Pending) →
      Goes (spell t) (past t) (factor_s n ∷ more n c ∷ []) (more n c ∷ []) (started d l (base d l)) (behind d l (written t))
  Does (G.terms n) ts =
      (d : Draft) → Ready (suc n) d → (c : Closer) (l : Pending) (p : Expr) → (m : Pending) × (x : Expr)
      × (with m x ≡ written ts (with l p))
      × Goes (spell ts) (past ts) (more n c ∷ []) (more n c ∷ []) (behind d l p) (behind d m x)
  Does (G.factor n) f =
      (d : Draft) → Ready n d → Goes (spell f) (past f) (factor_s n ∷ []) [] d (put d (nodes_of (written f)))
  Does (G.factors n) fs =
      (d : Draft) → Ready (suc n) d → (c : Closer) (l : Pending) (p : Expr) →
      Goes (spell fs) (past fs) (more n c ∷ []) (more n c ∷ []) (behind d l p) (behind d l (written fs p))
  Does (G.minus n) m =
      (d : Draft) → Ready n d → Goes (spell m) (past m) (minus_s n ∷ []) [] d (put d (nodes_of (written m)))
  Does (G.atom n) a =
      (d : Draft) → Ready n d → Goes (spell a) (past a) (factor_s n ∷ []) [] d (put d (nodes_of (written a)))
      × Goes (spell a) (past a) (minus_s n ∷ []) [] d (put d (nodes_of (M.negate (written a))))

  -- Inside an expression that is open.
  inner : {n : ℕ} {d : Draft} (l : Pending) (x : Draft) → Ready (suc n) d → Whole x → x.kind ≡ d.kind → Ready n (started d l x)
  inner {n = n} {d = d} l x h w e =
      record {
        whole = record { sized = w.sized };
        expression = rw e h.expression;
        deep = let a = h.deep in omega arith;
      }

  -- A factor behind what a draft has so far in an open expression.
  factor-put : {n : ℕ} (d : Draft) (l : Pending) (x : Draft) (f : Ex (G.factor n)) (e : Draft) →
      Goes (spell f) (past f) (factor_s n ∷ []) [] (started d l x) (put (started d l x) (nodes_of (written f))) →
      put x (nodes_of (written f)) ≡ e →
      Goes (spell f) (past f) (factor_s n ∷ []) [] (started d l x) (started d l e)
  factor-put d l x f e g h at ts us =
      g at ts us
      ∙ ap (λ (y : Draft). flow place (past f at) ts us (redrafted r y))
      (starts_put x (record { sum = d.size; term = (base d l).size } ∷ d.starts) (nodes_of (written f))
      ∙ ap (λ (y : Draft). started d l y) h)

  multiplies : (d : Draft) (l : Pending) (p q : Expr) →
      put (put (base d l) (node 5 0 ++ nodes_of p)) (nodes_of q) ≡ put (base d l) (nodes_of (M.multiply p q))
  unfolding nodes_of
  multiplies d l p q = put-put (base d l) (node 5 0 ++ nodes_of p) (nodes_of q)

  ready_put : {n : ℕ} {d : Draft} (bs : List ℕ) → Ready n d → Ready n (put d bs)
  ready_put {n = n} {d = d} bs h =
      record {
        whole = whole_put d bs h.whole;
        expression = rw (kind_put d bs) h.expression;
        deep = rw (starts_of_put d bs) h.deep;
      }

  -- A bracket is opened, an expression read in it, and closed.
  opens_ready : {n : ℕ} {d : Draft} → Ready (suc n) d → opens d ≡ started d nothing d
  opens_ready {n = n} {d = d} h = let a = h.deep in rw (lt-ltb (length d.starts) DEPTH (omega arith))

  closed_put : (d : Draft) (bs : List ℕ) → with_starts (put d bs) d.starts ≡ put d bs
  unfolding put
  closed_put d bs = refl

  module _ {n : ℕ} (e : Ex (G.expression n)) (does_e : Does (G.expression n) e) (d : Draft) (h : Ready (suc n) d) where
    pub bracket_goes : Goes (λ ts. spell e (mark Tk.RP ∷ ts)) (λ at. suc (past e at)) (factor_s n ∷ more n round ∷ []) []
        (opens d) (put d (nodes_of (written e)))
    unfolding flow
    bracket_goes at ts us =
        ap (λ (x : Draft). flow place at (spell e (mark Tk.RP ∷ ts)) (factor_s n ∷ more n round ∷ us) (redrafted r x))
        (opens_ready h)
        ∙ (does_e d h round).1 at (mark Tk.RP ∷ ts) us
        ∙ ap (λ (x : Draft). flow place (suc (past e at)) ts us (redrafted r x)) (closed_put d (nodes_of (written e)))

    comma_goes : Goes (λ ts. spell e (mark Tk.COMMA ∷ ts)) (λ at. suc (past e at)) (factor_s n ∷ more n comma ∷ []) []
        (opens d) (opens (put d (nodes_of (written e))))
    unfolding flow
    comma_goes at ts us =
        ap (λ (x : Draft). flow place at (spell e (mark Tk.COMMA ∷ ts)) (factor_s n ∷ more n comma ∷ us) (redrafted r x))
        (opens_ready h)
        ∙ (does_e d h comma).1 at (mark Tk.COMMA ∷ ts) us
        ∙ ap (λ (x : Draft). flow place (suc (past e at)) ts us (redrafted r (opens x))) (closed_put d (nodes_of (written e)))

  module _ {n : ℕ} (a b : Ex (G.expression n)) (does_a : Does (G.expression n) a) (does_b : Does (G.expression n) b)
      (d : Draft) (h : Ready (suc n) d) where
    two_goes : Goes (λ ts. mark Tk.LP ∷ spell a (mark Tk.COMMA ∷ spell b (mark Tk.RP ∷ ts)))
        (λ at. suc (past b (suc (past a (suc at)))))
        (sign Tk.LP ∷ factor_s n ∷ more n comma ∷ factor_s n ∷ more n round ∷ []) []
        d (put (put d (nodes_of (written a))) (nodes_of (written b)))
    unfolding flow
    two_goes at ts us =
        ap (λ (x : Bool). flow place (suc at) (spell a (mark Tk.COMMA ∷ spell b (mark Tk.RP ∷ ts)))
        (factor_s n ∷ more n comma ∷ factor_s n ∷ more n round ∷ us) (redrafted r (if x then opens d else other))) h.expression
        ∙ comma_goes a does_a d h (suc at) (spell b (mark Tk.RP ∷ ts)) (factor_s n ∷ more n round ∷ us)
        ∙ bracket_goes b does_b (put d (nodes_of (written a))) (ready_put (nodes_of (written a)) h) (suc (past a (suc at))) ts us
      where
        other : Draft
        other = if eqb d.kind K.START && eqb d.role (asking K.RES) then one_more d else d

  -- Two operands behind their operation.
  joined : (d : Draft) (xs ys zs : List ℕ) → put (put (put d xs) ys) zs ≡ put d (xs ++ ys ++ zs)
  joined d xs ys zs = ap (λ (x : Draft). put x zs) (put-put d xs ys) ∙ put-put d (xs ++ ys) zs

  negated : (d : Draft) (xs ys zs : List ℕ) → put (put (put (put d (node 9 0)) xs) ys) zs ≡ put d (node 9 0 ++ (xs ++ ys ++ zs))
  negated d xs ys zs = joined (put d (node 9 0)) xs ys zs ∙ put-put d (node 9 0) (xs ++ ys ++ zs)

  pub does : {p : Part} (x : Ex p) → Does p x
  unfolding flow nodes_of means
  does (G.sum {d = n} t ts) = λ d h c.
      let m = does ts d h c nothing (written t) in (
        (base d m.0).size,
        λ at us zs.
            does t d h c nothing at (spell ts us) zs
            ∙ m.3 (past t at) us zs
            ∙ ap (λ (x : Draft). flow place (past ts (past t at)) us (more n c ∷ zs) (redrafted r (started d m.0 x)))
            (put-with d m.0 m.1 ∙ ap (λ (x : Expr). put d (nodes_of x)) m.2),
      )
  does G.no_terms = λ d h c l p. (l, p, refl, λ at ts us. refl)
  does (G.plus {d = n} t ts) = λ d h c l p.
      let m = does ts d h c (adding (with l p)) (written t) in (
        m.0,
        m.1,
        m.2,
        λ at us zs.
            ap (λ (x : Draft). flow place (suc at) (spell t (spell ts us)) (factor_s n ∷ more n c ∷ zs) (redrafted r (new_term x)))
            (before_sum d l p 3 (record { sum = d.size; term = (base d l).size } ∷ d.starts) h.whole)
            ∙ does t d h c (adding (with l p)) (suc at) (spell ts us) zs
            ∙ m.3 (past t (suc at)) us zs,
      )
  does (G.less {d = n} t ts) = λ d h c l p.
      let m = does ts d h c (taking (with l p)) (written t) in (
        m.0,
        m.1,
        m.2,
        λ at us zs.
            ap (λ (x : Draft). flow place (suc at) (spell t (spell ts us)) (factor_s n ∷ more n c ∷ zs) (redrafted r (new_term x)))
            (before_sum d l p 4 (record { sum = d.size; term = (base d l).size } ∷ d.starts) h.whole)
            ∙ does t d h c (taking (with l p)) (suc at) (spell ts us) zs
            ∙ m.3 (past t (suc at)) us zs,
      )
  does (G.product {d = n} f fs) = λ d h c l at ts us.
      let first = factor-put d l (base d l) f (put (base d l) (nodes_of (written f)))
      (does f (started d l (base d l)) (inner l (base d l) h (whole_base d l h.whole) (kind_base d l))) refl in
      first at (spell fs ts) (more n c ∷ us) ∙ does fs d h c l (written f) (past f at) ts us
  does G.no_factors = λ d h c l p at ts us. refl
  does (G.times {d = n} f fs) = λ d h c l p at ts us.
      let x : Draft = put (base d l) (node 5 0 ++ nodes_of p) in
      let w : Whole x = whole_put (base d l) (node 5 0 ++ nodes_of p) (whole_base d l h.whole) in
      let next = factor-put d l x f (put (base d l) (nodes_of (M.multiply p (written f))))
      (does f (started d l x) (inner l x h w (kind_put (base d l) (node 5 0 ++ nodes_of p) ∙ kind_base d l)))
      (multiplies d l p (written f)) in
      ap (λ (y : Draft). flow place (suc at) (spell f (spell fs ts)) (factor_s n ∷ more n c ∷ us) (redrafted r y))
      (times_term d l p h.whole)
      ∙ next (suc at) (spell fs ts) (more n c ∷ us)
      ∙ does fs d h c l (M.multiply p (written f)) (past f (suc at)) ts us
  does (G.literal x) = λ d h at ts us.
      ap (λ (ns : List Symbol). flow place (suc at) ts (ns ++ us) (redrafted r (put d (node 0 x.value))))
      (next_number {s = factor_s _} No.top_number x.value [] (λ v vs. G.literal v) (λ v vs z. refl) _
      (leb x.value No.top_number) refl (fits_number x))
  does (G.plain a) = λ d h. (does a d h).0
  does (G.negative m) = λ d h at ts us. does m d h (suc at) ts us
  does (G.magnitude x) = λ d h at ts us.
      ap (λ (ns : List Symbol). flow place (suc at) ts (ns ++ us) (redrafted r (put d (node 0 (code (minus x.value))))))
      (next_number {s = minus_s _} No.top_magnitude x.value [] (λ v vs. G.magnitude v) (λ v vs z. refl) _
      (leb x.value No.top_magnitude) refl (fits_number x))
  does (G.negated a) = λ d h. (does a d h).1
  does (G.again m) = λ d h at ts us.
      does m (put d (node 9 0)) (ready_put (node 9 0) h) (suc at) ts us
      ∙ ap (λ (x : Draft). flow place (past m (suc at)) ts us (redrafted r x)) (put-put d (node 9 0) (nodes_of (written m)))
  does (G.value x) = λ d h. (
    λ at ts us.
        ap (λ (bs : List ℕ). flow place (suc at) ts us (redrafted r (put d bs))) (value_node r.known x),
    λ at ts us.
        ap (λ (bs : List ℕ). flow place (suc at) ts us (redrafted r (put (put d (node 9 0)) bs))) (value_node r.known x)
        ∙ ap (λ (y : Draft). flow place (suc at) ts us (redrafted r y)) (put-put d (node 9 0) (nodes_of (value_of r.known x))),
  )
  does G.clock = λ d h. (
    λ at ts us. refl,
    λ at ts us. ap (λ (y : Draft). flow place (suc at) ts us (redrafted r y)) (put-put d (node 9 0) (node 8 0)),
  )
  does (G.bracket e) = λ d h. (
    λ at ts us. bracket_goes e (does e) d h (suc at) ts us,
    λ at ts us.
        bracket_goes e (does e) (put d (node 9 0)) (ready_put (node 9 0) h) (suc at) ts us
        ∙ ap (λ (y : Draft). flow place (suc (past e (suc at))) ts us (redrafted r y))
        (put-put d (node 9 0) (nodes_of (written e))),
  )
  does (G.lesser a b) = λ d h. (
    λ at ts us.
        two_goes a b (does a) (does b) (put d (node 6 0)) (ready_put (node 6 0) h) (suc at) ts us
        ∙ ap (λ (y : Draft). flow place (past (G.lesser a b) at) ts us (redrafted r y))
        (joined d (node 6 0) (nodes_of (written a)) (nodes_of (written b))),
    λ at ts us.
        two_goes a b (does a) (does b) (put (put d (node 9 0)) (node 6 0)) (ready_put (node 6 0) (ready_put (node 9 0) h))
        (suc at) ts us
        ∙ ap (λ (y : Draft). flow place (past (G.lesser a b) at) ts us (redrafted r y))
        (negated d (node 6 0) (nodes_of (written a)) (nodes_of (written b))),
  )
  does (G.greater a b) = λ d h. (
    λ at ts us.
        two_goes a b (does a) (does b) (put d (node 7 0)) (ready_put (node 7 0) h) (suc at) ts us
        ∙ ap (λ (y : Draft). flow place (past (G.greater a b) at) ts us (redrafted r y))
        (joined d (node 7 0) (nodes_of (written a)) (nodes_of (written b))),
    λ at ts us.
        two_goes a b (does a) (does b) (put (put d (node 9 0)) (node 7 0)) (ready_put (node 7 0) (ready_put (node 9 0) h))
        (suc at) ts us
        ∙ ap (λ (y : Draft). flow place (past (G.greater a b) at) ts us (redrafted r y))
        (negated d (node 7 0) (nodes_of (written a)) (nodes_of (written b))),
  )
