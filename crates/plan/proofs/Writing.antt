-- What a writer was given, whose bytes are known: the front of a text, piece by piece, if no write failed. Assumes nothing.
use Rattle.std.specs.Prelude.{ℕ, ◌+◌, ◌≡◌, List, [], ◌++◌, length, take, OnOk}
use Rattle.std.specs.Result.{result_and}
use Rattle.std.specs.Io.KnownBytes.{Appends}
use Rattle.std.specs.declared.option.Option.{Option}
use Rattle.std.specs.declared.result.Result.{Result}
use Rattle.std.specs.declared.result.Result.TheVariants.{Ok, Err}
use Rattle.std.proofs.Common.{sym, ap, subst, ◌∙◌, append-nil, append_assoc, length-append}
use Rattle.std.proofs.KnownBytes.{Appends-nil, Appends-trans}
use lib.Seq.{take-append_seam}
use Rattle.plan.specs.Printed.{Next}

-- Two writes, one behind the other.
both_written : {E T U : Type 0} (x : Result T E) (y r : Result U E) (a b c : Option (List ℕ)) (bs cs text : List ℕ)
    → r ≡ result_and x y → text ≡ bs ++ cs → OnOk x (Appends a b bs) → OnOk y (Appends b c cs) → OnOk r (Appends a c text)
both_written (Ok t) (Ok u) r a b c bs cs text e i f g = rw (e, i) (Appends-trans a b c bs cs f g)
both_written (Ok t) (Err q) r a b c bs cs text e i f g = rw e g
both_written (Err q) y r a b c bs cs text e i f g = rw e f

-- The front that ends with a piece is what is before it, and then the piece.
front_of : (fs ps rs : List ℕ) → take (length fs + length ps) (fs ++ (ps ++ rs)) ≡ take (length fs) (fs ++ (ps ++ rs)) ++ ps
front_of fs ps rs =
    ap (λ k. take k (fs ++ (ps ++ rs))) (sym (length-append fs ps))
    ∙ ap (take (length (fs ++ ps))) (sym (append_assoc fs ps rs))
    ∙ take-append_seam (fs ++ ps) rs
    ∙ ap (λ l. l ++ ps) (sym (take-append_seam fs (ps ++ rs)))

next_front : {text piece : List ℕ} {at : ℕ} → Next text at piece → take (at + length piece) text ≡ take at text ++ piece
next_front {piece = piece} n = rw (n.is, n.place) (front_of n.front piece n.rest)

-- At first nothing; then the next piece; at last the whole text.
pub none_written : (a : Option (List ℕ)) (text : List ℕ) {at : ℕ} → at ≡ 0 → Appends a a (take at text)
none_written a text z = rw z (Appends-nil a)

pub next_written : {E T U : Type 0} (x : Result T E) (y r : Result U E) (a b c : Option (List ℕ)) {text piece : List ℕ}
    {at at' : ℕ} → r ≡ result_and x y → Next text at piece → at' ≡ at + length piece
    → OnOk x (Appends a b (take at text)) → OnOk y (Appends b c piece) → OnOk r (Appends a c (take at' text))
next_written x y r a b c {text = text} e n moved f g =
    both_written x y r a b c _ _ _ e (ap (λ k. take k text) moved ∙ next_front n) f g

pub all_written : {E T : Type 0} (r : Result T E) (a c : Option (List ℕ)) (text : List ℕ) {at : ℕ} → at ≡ length text
    → OnOk r (Appends a c (take at text)) → OnOk r (Appends a c text)
all_written r a c text e f =
    let whole : take (length text) text ≡ text = ap (take (length text)) (sym (append-nil text)) ∙ take-append_seam text [] in
    subst (λ l. OnOk r (Appends a c l)) (ap (λ k. take k text) e ∙ whole) f
