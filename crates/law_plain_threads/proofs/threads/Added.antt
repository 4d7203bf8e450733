-- A list of threads of which one changes and to which others are added.
use Rattle.std.proofs.Common.{◌≡◌, ◌≢◌, ◌∙◌, ℕ, Bool, List, ◌∷◌, ◌++◌, Option, Some, None, refl, sym, ap}
use Rattle.std.specs.Prelude.{if◌then◌else◌}
use Rattle.fr_typing.proofs.PlaceLemmas.{eq_cases}
use Rattle.fr_plain.specs.MachineThreads.{Thread, thread_at, with_thread}
use Rattle.fr_plain.proofs.ByName.{put_in, put_at, put_off, thread_more, or_else}
use Rattle.law_plain_values.specs.acts.Positions.{Position}

pub thread_first : (x : Thread Position) (xs : List (Thread Position)) (w : ℕ) → x.number ≡ w → thread_at (x ∷ xs) w ≡ Some x
thread_first x xs w e = eq_cases (λ (b : Bool). (if b then Some x else thread_at xs w) ≡ Some x) x.number w (λ q. refl) (λ ne. absurd (ne e))

pub thread_skip : (x : Thread Position) (xs : List (Thread Position)) (w : ℕ) → x.number ≢ w → thread_at (x ∷ xs) w ≡ thread_at xs w
thread_skip x xs w ne = eq_cases (λ (b : Bool). (if b then Some x else thread_at xs w) ≡ thread_at xs w) x.number w (λ q. absurd (ne q)) (λ q. refl)

pub or_none : (o : Option (Thread Position)) → or_else o None ≡ o
or_none None = refl
or_none (Some x) = refl

module _ (ts rest : List (Thread Position)) (n : ℕ) (t tn : Thread Position) (named : tn.number ≡ n) (found : thread_at ts n ≡ Some t) where
  pub more_here : thread_at (with_thread ts tn ++ rest) n ≡ Some tn
  more_here = thread_more (with_thread ts tn) rest n ∙ ap (λ o. or_else o (thread_at rest n)) (put_at ts tn n named ∙ ap (put_in tn) found)

  pub more_off : (w : ℕ) → w ≢ n → thread_at (with_thread ts tn ++ rest) w ≡ or_else (thread_at ts w) (thread_at rest w)
  more_off w ne = thread_more (with_thread ts tn) rest w ∙ ap (λ o. or_else o (thread_at rest w)) (put_off ts tn w (λ e. ne (sym e ∙ named)))
