-- One answer: of a reader whose bytes are known, the same is read, and the room is left the same, also where a read fails.
-- Assumes nothing.
use Rattle.std.specs.Prelude.{ℕ, ◌≡◌, refl, ◌-◌, ◌≤◌, List, ◌++◌, length, take, drop, replicate}
use Rattle.std.proofs.Common.{sym, ◌∙◌, ap, drop_at, length-take-le, take-append-drop}

left_of : (bs ys input : List ℕ) → input ≡ bs ++ ys → ys ≡ drop (length bs) input
left_of bs ys input e = sym (drop_at bs ys (length bs) refl) ∙ ap (drop (length bs)) (sym e)

-- How many bytes, which, and what the reader still has.
pub same_read_full : (room new new' input rest rest' : List ℕ) (n n' : ℕ) → n ≤ length new → n' ≤ length new'
    → take n new ≡ take (length room) input → take n' new' ≡ take (length room) input
    → input ≡ take n new ++ rest → input ≡ take n' new' ++ rest'
    → (n ≡ n') × (take n new ≡ take n' new') × (rest ≡ rest')
same_read_full room new new' input rest rest' n n' h h' e e' f f' =
    let same : take n new ≡ take n' new' = e ∙ sym e' in (
      sym (length-take-le n new h) ∙ ap length same ∙ length-take-le n' new' h',
      same,
      left_of (take n new) rest input f ∙ ap (λ bs. drop (length bs) input) same
          ∙ sym (left_of (take n' new') rest' input f'),
    )

-- And the room, behind what was read too.
pub same_room : (room new new' : List ℕ) (n n' : ℕ) → n ≡ n' → take n new ≡ take n' new'
    → drop n new ≡ replicate (length room - n) 0 → drop n' new' ≡ replicate (length room - n') 0 → new ≡ new'
same_room room new new' n n' e front behind behind' =
    let rest : drop n new ≡ drop n' new' = behind ∙ ap (λ k. replicate (length room - k) 0) e ∙ sym behind' in
    sym (take-append-drop n new) ∙ ap (λ l. l ++ drop n new) front ∙ ap (λ l. take n' new' ++ l) rest
    ∙ take-append-drop n' new'

-- Where a read fails behind as many bytes, the room is the same, and what the reader still has.
pub same_failed : (room new new' input bs bs' rest rest' : List ℕ) → new ≡ replicate (length room) 0
    → new' ≡ replicate (length room) 0 → input ≡ bs ++ rest → input ≡ bs' ++ rest' → length bs ≡ length bs'
    → (new ≡ new') × (rest ≡ rest')
same_failed room new new' input bs bs' rest rest' blank blank' e e' same = (
  blank ∙ sym blank',
  left_of bs rest input e ∙ ap (λ n. drop n input) same ∙ sym (left_of bs' rest' input e'),
)
