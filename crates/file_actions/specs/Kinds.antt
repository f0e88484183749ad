-- The kind of a record, and the action that a kind is.
-- Assumes nothing.
use Rattle.std.specs.Prelude.{ℕ, ◌-◌, ◌≡◌, List, [], ◌∷◌, get_or}
use Rattle.semantics.specs.Kinds as K
use Rattle.semantics.specs.Model.{Expr, Claim, Branch, Share, Action, HOLD, PRIO, TRACE, SET, LSET, DO, PUTR, PUTB, PUTS}
use Rattle.semantics.specs.Model.{BECOME, REQ, TRY, WHILE, START, CLOSE, kind_of}
use Rattle.semantics.specs.Record.{Entry, RES, BIN, SYNC, VAR, CLASS, BLOCK, ENTITY, SAMPLER, ACTION, Row}

-- THE KIND of every entry.
abbrev pub kind_in : Entry → ℕ
kind_in (RES n) = K.RES
kind_in (BIN n) = K.BIN
kind_in SYNC = K.SYNC
kind_in (VAR v) = K.VAR
kind_in (CLASS b) = K.CLASS
kind_in BLOCK = K.BLOCK
kind_in (ENTITY x) = K.ENTITY
kind_in (SAMPLER x) = K.SAMPLER
kind_in (ACTION x) = kind_of x

-- Every row says entries of its kind.
abbrev pub SaysKind : List ℕ → Row → Type 0
SaysKind bs r = r.kind ≡ kind_in (r.says bs)

-- THE ACTION of a kind, by what it is made of; nothing past 30 is one.
abbrev pub OfKind : ℕ → Action → Type 0
OfKind k x =
    get_or
    (((e : Expr) × (x ≡ HOLD e))
    ∷ ((e : Expr) × (x ≡ PRIO e))
    ∷ ((i : ℕ) × (e : Expr) × (x ≡ SET i e))
    ∷ ((i : ℕ) × (e : Expr) × (x ≡ LSET i e))
    ∷ ((n : ℕ) × (b : ℕ) × (x ≡ DO n b))
    ∷ ((i : ℕ) × (n : ℕ) × (x ≡ PUTR i n))
    ∷ ((i : ℕ) × (n : ℕ) × (x ≡ PUTB i n))
    ∷ ((i : ℕ) × (n : ℕ) × (x ≡ PUTS i n))
    ∷ ((i : ℕ) × (x ≡ BECOME i))
    ∷ ((c : Claim) × (x ≡ REQ c))
    ∷ ((bs : List Branch) × (x ≡ TRY bs))
    ∷ ((b : ℕ) × (c : Claim) × (x ≡ WHILE b c))
    ∷ ((c : ℕ) × (t : ℕ) × (h : List Share) × (x ≡ START c t h))
    ∷ ((e : Expr) × (x ≡ TRACE e))
    ∷ (x ≡ CLOSE) ∷ [])
    (k - K.HOLD)
    ⊥
