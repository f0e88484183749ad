-- The record that a reader of texts is writing: what each token of a declaration or action adds to it.
-- Assumes nothing.
use Rattle.std.specs.Prelude.{ℕ, suc, ◌+◌, min, List, [], ◌∷◌, ◌++◌, Bool, true, false, ◌&&◌, ◌||◌, eqb, leb, ltb, length, get_or, take, drop, set, if◌then◌else◌}
use Rattle.semantics.specs.Kinds as K
use Rattle.text_semantics.specs.Numbers as No
use Rattle.text_semantics.specs.Token as T
use Rattle.text_semantics.specs.Token.{Token, name, number, mark, bad}
use Rattle.text_semantics.specs.Grammar.{Name}
use Rattle.text_semantics.specs.Names.{LOCAL}
use Rattle.text_semantics.specs.Meaning.{minus}
use Rattle.text_semantics.specs.Written.{two, four, code, node, DRAW}
use Rattle.text_semantics.specs.Reading.{Symbol, one, the, a_name, a_number, factor_s, minus_s, more, signed_s, relation_s, item_s}
use Rattle.text_semantics.specs.Reading.{claim_s, items_s, gives_s, given_s, actions_s, try_s, few_s, lines_s, body_s, text_s}
use Rattle.text_semantics.specs.Reading.{Closer, round, comma, semi}

-- WHAT THE NEXT NAME IS THERE FOR: it is declared as what it will be, or one of a kind is asked for.
abbrev pub ASK : ℕ
ASK = 16

abbrev pub asking : ℕ → ℕ
asking kind = ASK + kind

-- WHAT IS KEPT: so many bytes of a body, which is more than any that passes the checks has; so many open expressions, which is
-- one more than brackets may be open. A length is counted up to one that is over 65,535 whatever it is added to.
abbrev pub KEPT : ℕ
KEPT = 192

abbrev pub DEPTH : ℕ
DEPTH = 17

abbrev pub FULL : ℕ
FULL = 65_536

-- Where the operands of an expression begin in the body: the sum, and its last term.
pub record Start : Type 0 where
  pub sum : ℕ
  pub term : ℕ

-- The record: where its declaration or action begins in the text, its kind, what the next name is for; its body, unless that is
-- more than is kept; how long the body is; how many items or shares it has, and where their number stands in it; a number that
-- waits for its relation; and the expressions that are open, the innermost first.
pub record Draft : Type 0 where
  pub line : ℕ
  pub kind : ℕ
  pub role : ℕ
  pub body : List ℕ
  pub over : Bool
  pub size : ℕ
  pub count : ℕ
  pub at : ℕ
  pub aside : ℕ
  pub starts : List Start

abbrev pub begin : ℕ → ℕ → ℕ → Draft
begin p k r =
    record { line = p; kind = k; role = r; body = []; over = false; size = 0; count = 0; at = 0; aside = 0; starts = [] }

-- One part changed.
module _ (d : Draft) where
  abbrev pub with_role : ℕ → Draft
  with_role r =
      record {
        line = d.line;
        kind = d.kind;
        role = r;
        body = d.body;
        over = d.over;
        size = d.size;
        count = d.count;
        at = d.at;
        aside = d.aside;
        starts = d.starts;
      }

  abbrev pub with_body : List ℕ → Bool → ℕ → Draft
  with_body bs o n =
      record {
        line = d.line;
        kind = d.kind;
        role = d.role;
        body = bs;
        over = o;
        size = n;
        count = d.count;
        at = d.at;
        aside = d.aside;
        starts = d.starts;
      }

  abbrev pub with_count : ℕ → ℕ → Draft
  with_count n a =
      record {
        line = d.line;
        kind = d.kind;
        role = d.role;
        body = d.body;
        over = d.over;
        size = d.size;
        count = n;
        at = a;
        aside = d.aside;
        starts = d.starts;
      }

  abbrev pub with_aside : ℕ → Draft
  with_aside n =
      record {
        line = d.line;
        kind = d.kind;
        role = d.role;
        body = d.body;
        over = d.over;
        size = d.size;
        count = d.count;
        at = d.at;
        aside = n;
        starts = d.starts;
      }

  abbrev pub with_starts : List Start → Draft
  with_starts xs =
      record {
        line = d.line;
        kind = d.kind;
        role = d.role;
        body = d.body;
        over = d.over;
        size = d.size;
        count = d.count;
        at = d.at;
        aside = d.aside;
        starts = xs;
      }

  -- The body, where n bytes came to it; nothing of it where it is more than is kept.
  abbrev pub longer : ℕ → List ℕ → Draft
  longer n bs =
      let o : Bool = d.over || ltb KEPT (d.size + n) in with_body (if o then [] else bs) o (min FULL (d.size + n))

  -- Bytes put behind the body; and in front of what stands at p.
  unfoldable pub put : List ℕ → Draft
  put bs = longer (length bs) (d.body ++ bs)

  unfoldable pub put_at : ℕ → List ℕ → Draft
  put_at p bs = longer (length bs) (take p d.body ++ bs ++ drop p d.body)

  -- No more is kept.
  abbrev pub dropped : Draft
  dropped = with_body [] true d.size

-- A count of 0 put behind the body.
unfoldable pub put_count : Draft → Draft
unfolding put
put_count d = with_count (put d (two 0)) 0 (if (put d (two 0)).over then 0 else d.size)

-- One more is counted, in the body too.
unfoldable pub one_more : Draft → Draft
one_more d =
    if d.over || leb KEPT d.count
    then dropped d
    else with_count (with_body d (set d.body d.at (suc d.count)) false d.size) (suc d.count) d.at

-- NODES.
abbrev pub leaf : ℕ → ℕ → Draft → Draft
leaf op v d = put d (node op v)

abbrev pub first_start : List Start → Start
first_start [] = record { sum = 0; term = 0 }
first_start (x ∷ xs) = x

abbrev pub outer : List Start → List Start
outer [] = []
outer (x ∷ xs) = xs

-- An operation goes before its first operand: * before the term, + and - before the sum, where a new term begins then.
abbrev pub before : ℕ → ℕ → Draft → Draft
before op p d = put_at d p (node op 0)

abbrev pub opens : Draft → Draft
opens d =
    if ltb (length d.starts) DEPTH then with_starts d (record { sum = d.size; term = d.size } ∷ d.starts) else dropped d

abbrev pub closes : Draft → Draft
closes d = with_starts d (outer d.starts)

abbrev pub again : Draft → Draft
again d = opens (closes d)

abbrev pub new_term : Draft → Draft
new_term d = with_starts d (record { sum = (first_start d.starts).sum; term = d.size } ∷ outer d.starts)

-- The ops of document 01 that the tokens stand for.
abbrev pub op_of : ℕ → ℕ
op_of kind = if eqb kind K.VAR then 1 else if eqb kind K.SAMPLER then DRAW else 2

-- A name in an expression, which is of the kind w and has the number i.
abbrev pub named : ℕ → ℕ → Draft → Draft
named w i d = leaf (op_of w) i d

-- THE TOKENS, by what was still to come when each was read.
-- A sign that had to come.
abbrev pub is_expression : ℕ → Bool
is_expression k = eqb k K.HOLD || (eqb k K.PRIO || (eqb k K.TRACE || (eqb k K.SET || eqb k K.LSET)))

-- k blocks have been opened.
unfoldable pub at_sign : ℕ → ℕ → Draft → Draft
unfolding put one_more put_count
at_sign k s d =
    if eqb s T.LP
    then if is_expression d.kind
    then opens d
    else if eqb d.kind K.START && eqb d.role (asking K.RES)
    then one_more d
    else d
    else if eqb s T.BECOMES
    then opens d
    else if eqb s T.LS
    then if eqb d.kind K.START then d else put_count d
    else if eqb s T.LB && eqb d.kind K.DO
    then put d (two k)
    else d

-- A name that had to come.
unfoldable pub at_name : ℕ → Draft → Draft
unfolding put
at_name i d = if leb ASK d.role then put d (two i) else d

-- A number that had to come: a count, a number, what stands behind a minus. Behind the offset of a start come its shares.
unfoldable pub at_number : ℕ → ℕ → Draft → Draft
unfolding put put_count
at_number b n d =
    if eqb b No.top_count
    then put d (two n)
    else if eqb b No.top_magnitude
    then put d (four (code (minus n)))
    else if eqb d.kind K.START && eqb d.role (asking K.CLASS)
    then with_role (put_count (put d (four n))) (asking K.RES)
    else put d (four n)

-- A factor, and one behind a minus.
abbrev pub deep : ℕ → Draft → Draft
deep s d =
    if eqb s T.CLOCK
    then leaf 8 0 d
    else if eqb s T.LESSER
    then leaf 6 0 d
    else if eqb s T.GREATER
    then leaf 7 0 d
    else if eqb s T.LP
    then opens d
    else d

unfoldable pub at_factor : ℕ → ℕ → Token → Draft → Draft
unfolding put
at_factor w i (number n) d = leaf 0 n d
at_factor w i (name x) d = named w i d
at_factor w i (mark s) d = deep s d
at_factor w i bad d = d

unfoldable pub at_minus : ℕ → ℕ → Token → Draft → Draft
unfolding put
at_minus w i (number n) d = leaf 0 (code (minus n)) d
at_minus w i (name x) d = named w i (leaf 9 0 d)
at_minus w i (mark s) d = deep s (leaf 9 0 d)
at_minus w i bad d = d

-- Behind a factor.
abbrev pub closing : Closer → Draft → Draft
closing round d = closes d
closing comma d = again d
closing semi d = closes d

unfoldable pub at_more : Closer → ℕ → Draft → Draft
unfolding put_at
at_more c s d =
    if eqb s T.STAR
    then before 5 (first_start d.starts).term d
    else if eqb s T.PLUS
    then new_term (before 3 (first_start d.starts).sum d)
    else if eqb s T.MINUS
    then new_term (before 4 (first_start d.starts).sum d)
    else closing c d

-- A relation: its number, 1 to 6, and then that of the variable.
abbrev pub relation_of : ℕ → ℕ
relation_of s =
    if eqb s T.LT
    then 1
    else if eqb s T.LE
    then 2
    else if eqb s T.EQ
    then 3
    else if eqb s T.NE
    then 4
    else if eqb s T.GE
    then 5
    else 6

abbrev pub at_relation : ℕ → Draft → Draft
at_relation s d = put d (relation_of s ∷ two d.aside)

-- An item begins.
abbrev pub getting : ℕ → ℕ → Draft → Draft
getting kind what d = with_role (put (one_more d) (kind ∷ 0 ∷ [])) (asking what)

unfoldable pub at_item : ℕ → Token → Draft → Draft
unfolding put one_more
at_item i (name x) d = with_aside (put (one_more d) (3 ∷ [])) i
at_item i (number n) d = d
at_item i (mark s) d =
    if eqb s T.GETR
    then getting 0 K.RES d
    else if eqb s T.GETB
    then getting 1 K.BIN d
    else if eqb s T.GETS
    then getting 2 K.SYNC d
    else d
at_item i bad d = d

-- An action begins, at place p; the next brace opens block k. `kept` is the try to which an etry belongs: it has one branch
-- more, whose number is the first byte of its body.
abbrev pub branching : Draft → Draft
branching d = with_body d (set d.body 0 (suc (get_or d.body 0 0))) d.over d.size

unfoldable pub at_action : ℕ → ℕ → ℕ → ℕ → Draft → Token → Draft
unfolding put
at_action w i k p kept (name x) = put (begin p (if eqb w K.VAR then K.SET else K.LSET) 0) (two i)
at_action w i k p kept (number n) = begin p 0 0
at_action w i k p kept (mark s) =
    if eqb s T.HOLD
    then begin p K.HOLD 0
    else if eqb s T.PRIORITY
    then begin p K.PRIO 0
    else if eqb s T.TRACE
    then begin p K.TRACE 0
    else if eqb s T.DO
    then begin p K.DO 0
    else if eqb s T.PUTR
    then begin p K.PUTR (asking K.RES)
    else if eqb s T.PUTB
    then begin p K.PUTB (asking K.BIN)
    else if eqb s T.PUTS
    then begin p K.PUTS (asking K.SYNC)
    else if eqb s T.BECOME
    then begin p K.BECOME (asking K.SYNC)
    else if eqb s T.REQ
    then begin p K.REQ 0
    else if eqb s T.TRY
    then put (begin p K.TRY 0) (two 1 ++ two k)
    else if eqb s T.ETRY
    then put (branching kept) (two k)
    else if eqb s T.WHILE
    then put (begin p K.WHILE 0) (two k)
    else if eqb s T.START
    then begin p K.START (asking K.CLASS)
    else if eqb s T.CLOSE
    then begin p K.CLOSE 0
    else begin p 0 LOCAL
at_action w i k p kept bad = begin p 0 0

-- A declaration begins.
unfoldable pub at_text : ℕ → Token → Draft
at_text p (name x) = begin p 0 0
at_text p (number n) = begin p 0 0
at_text p (mark s) =
    if eqb s T.RES
    then begin p K.RES K.RES
    else if eqb s T.BIN
    then begin p K.BIN K.BIN
    else if eqb s T.SYNC
    then begin p K.SYNC K.SYNC
    else if eqb s T.VAR
    then begin p K.VAR K.VAR
    else if eqb s T.SAMPLER
    then begin p K.SAMPLER K.SAMPLER
    else if eqb s T.CLASS
    then begin p K.CLASS K.CLASS
    else begin p K.ENTITY (asking K.CLASS)
at_text p bad = begin p 0 0

abbrev pub mark_in : Token → ℕ
mark_in (name x) = T.END
mark_in (number n) = T.END
mark_in (mark s) = s
mark_in bad = T.END

abbrev pub name_in : Token → Name
name_in (name x) = x
name_in (number n) = []
name_in (mark s) = []
name_in bad = []

abbrev pub number_in : Token → ℕ
number_in (name x) = 0
number_in (number n) = n
number_in (mark s) = 0
number_in bad = 0

-- What the token t at p, read where s was still to come, makes of the draft. A name in it is of the kind w and has the number
-- i; k blocks have been opened; `kept` is the try that an etry goes on with.
unfoldable pub drafted : ℕ → ℕ → ℕ → ℕ → Draft → Symbol → Token → Draft → Draft
unfolding at_sign at_name at_number at_factor at_minus at_more at_item at_action at_text put
drafted w i k p kept (one (the s)) t d = at_sign k s d
drafted w i k p kept (one a_name) t d = at_name i d
drafted w i k p kept (one (a_number b)) t d = at_number b (number_in t) d
drafted w i k p kept (factor_s n) t d = at_factor w i t d
drafted w i k p kept (minus_s n) t d = at_minus w i t d
drafted w i k p kept (more n c) t d = at_more c (mark_in t) d
drafted w i k p kept signed_s t d = if eqb (mark_in t) T.MINUS then d else put d (four (number_in t))
drafted w i k p kept relation_s t d = at_relation (mark_in t) d
drafted w i k p kept item_s t d = at_item i t d
drafted w i k p kept claim_s t d = at_item i t d
drafted w i k p kept items_s t d = d
drafted w i k p kept gives_s t d = d
drafted w i k p kept given_s t d = d
drafted w i k p kept actions_s t d = at_action w i k p kept t
drafted w i k p kept try_s t d = at_action w i k p kept t
drafted w i k p kept (few_s n) t d = d
drafted w i k p kept lines_s t d = at_action w i k p kept t
drafted w i k p kept body_s t d = d
drafted w i k p kept text_s t d = at_text p t
