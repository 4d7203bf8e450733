-- A line that is read is its text, and its text is read again.
use Rattle.std.proofs.Common.{◌≡◌, ℕ, ◌<◌, List, [], ◌∷◌, ◌++◌, length, refl, ap, subst, ◌∙◌, append_assoc, length-append, arith, codes, Option, Some, None}
use Rattle.fr_base.specs.declared.step.Fresh.{Fresh}
use Rattle.journal.specs.declared.order.OrderLine.{OrderLine}
use Rattle.journal.specs.OrderText.{thread_text, steps_text, spell, IsLine, BeginsNoLine}
use Rattle.journal.specs.OrderReading.{◌>>=◌, number_at, behind, name_at, thread_at, steps_at, line_at}
use Rattle.journal.proofs.Tools.{bind_some, some_is}
use Rattle.journal.proofs.TextLemmas.{behind_takes, behind_again, then_text}
use Rattle.journal.proofs.NameLemmas.{thread_takes, thread_again}
use Rattle.journal.proofs.StepLemmas.{steps_takes, steps_again}

-- what a line that was read says
pub record Takes (place : ℕ) (bytes : List ℕ) (y : OrderLine × List ℕ) : Type 0 where
  pub text : bytes ≡ spell y.0 ++ y.1
  pub line : IsLine y.0
  pub at : y.0.place ≡ place

pub line_takes : (place : ℕ) (bytes : List ℕ) (y : OrderLine × List ℕ) → line_at place bytes ≡ Some y → Takes place bytes y
unfolding line_at
line_takes place bytes y e =
    let line : ℕ → ℕ × Fresh → OrderLine = λ t s. record { place = place; thread = t; steps = s.0; fresh = s.1 } in
    let a = bind_some (thread_at bytes) (λ t. behind (codes " ") t.1 >>= λ r. steps_at r >>= λ s. behind (codes "\n") s.1 >>= λ q. Some (line t.0 s.0, q)) y e in
    let b = bind_some (behind (codes " ") a.0.1) (λ r. steps_at r >>= λ s. behind (codes "\n") s.1 >>= λ q. Some (line a.0.0 s.0, q)) y a.2 in
    let c = bind_some (steps_at b.0) (λ s. behind (codes "\n") s.1 >>= λ q. Some (line a.0.0 s.0, q)) y b.2 in
    let d = bind_some (behind (codes "\n") c.0.1) (λ q. Some (line a.0.0 c.0.0, q)) y c.2 in
    let thread = thread_takes bytes a.0 a.1 in
    let steps = steps_takes b.0 c.0 c.1 in
    let one = then_text bytes (thread_text a.0.0) a.0.1 (codes " ") b.0 thread.0 (behind_takes (codes " ") a.0.1 b.0 b.1) in
    let two = then_text bytes (thread_text a.0.0 ++ codes " ") b.0 (steps_text c.0.0.0 c.0.0.1) c.0.1 one steps.0 in
    let all = then_text bytes (thread_text a.0.0 ++ codes " " ++ steps_text c.0.0.0 c.0.0.1) c.0.1 (codes "\n") d.0 two (behind_takes (codes "\n") c.0.1 d.0 d.1) in
    let made : OrderLine × List ℕ = (line a.0.0 c.0.0, d.0) in
    subst (Takes place bytes) {x = made} (some_is made y d.2) (record { text = all; line = (thread.1, steps.1); at = refl })

pub line_again : (place : ℕ) (l : OrderLine) (rest : List ℕ) → IsLine l → line_at place (spell l ++ rest) ≡ Some (record l { place = place }, rest)
unfolding line_at
line_again place l rest is =
    let what = steps_text l.steps l.fresh in
    let thread = thread_text l.thread in
    let regrouped : spell l ++ rest ≡ thread ++ (32 ∷ (what ++ 10 ∷ rest)) = append_assoc (thread ++ codes " " ++ what) (codes "\n") rest ∙ append_assoc (thread ++ codes " ") what (10 ∷ rest) ∙ append_assoc thread (codes " ") (what ++ 10 ∷ rest) in
    ap (line_at place) regrouped ∙ rw (thread_again l.thread 32 (what ++ 10 ∷ rest) is.0 refl, behind_again (codes " ") (what ++ 10 ∷ rest), steps_again l.steps l.fresh 10 rest is.1 refl, behind_again (codes "\n") rest) refl

-- no line is read from no bytes
pub line_nil : (place : ℕ) → line_at place [] ≡ None
unfolding line_at thread_at name_at number_at
line_nil place = refl

-- where no line is read, no line's text begins
pub none_begins : (place : ℕ) (bytes : List ℕ) → line_at place bytes ≡ None → BeginsNoLine bytes
none_begins place bytes e l after is text = absurd (
    let read : line_at place bytes ≡ Some (record l { place = place }, after) = ap (line_at place) text ∙ line_again place l after is in
    cc
    )

-- and where none begins, none is read
pub none_read : (place : ℕ) (bytes : List ℕ) → BeginsNoLine bytes → line_at place bytes ≡ None
none_read place bytes bad = by (line_at place bytes) refl
  where
    by : (r : Option (OrderLine × List ℕ)) → line_at place bytes ≡ r → r ≡ None
    by None e = refl
    by (Some y) e = let t = line_takes place bytes y e in absurd (bad y.0 y.1 t.line t.text)

-- a line's text isn't empty
pub spell_some : (l : OrderLine) → 0 < length (spell l)
spell_some l = omega (arith, length-append (thread_text l.thread ++ codes " " ++ steps_text l.steps l.fresh) (codes "\n"))
