-- Steps that are read are their text, and their text is read again.
use Rattle.std.proofs.Common.{◌≡◌, ℕ, ◌^◌, ◌<◌, false, cond, leb, List, ◌∷◌, ◌++◌, refl, sym, ap, subst, ◌∙◌, append_assoc, arith, codes, Option, Some, None, ◌⊎◌, inl, inr, ⊎_elim}
use Rattle.std.specs.Fmt.{decimal}
use Rattle.std.specs.Char.{is_ascii_digit}
use Rattle.std.proofs.lemmas.Bool.{leb-true, le-leb}
use Rattle.std.proofs.lemmas.Fmt.{decimal_nonempty}
use Rattle.fr_base.specs.declared.step.Fresh.{Fresh}
use Rattle.fr_base.specs.declared.step.Fresh.TheVariants as fresh
use Rattle.journal.specs.OrderText.{thread_text, mutex_text, steps_text, AreSteps}
use Rattle.journal.specs.OrderReading.{◌>>=◌, number_at, behind, thread_at, mutex_at, numbered_at, one_thread_at, two_threads_at, one_mutex_at, by_word, steps_at}
use Rattle.journal.proofs.Tools.{bind_some, guard_some, some_is}
use Rattle.journal.proofs.NumberLemmas.{number_takes, number_again, decimal_all}
use Rattle.journal.proofs.TextLemmas.{behind_takes, behind_again, no_word, then_text, thread_or_threads, thread_or_mutex, threads_or_mutex}
use Rattle.journal.proofs.NameLemmas.{thread_takes, thread_again, mutex_takes, mutex_again}

-- the bytes are the text of these steps, and a rest
abbrev Says : List ℕ → (ℕ × Fresh) × List ℕ → Type 0
Says bytes y = (bytes ≡ steps_text y.0.0 y.0.1 ++ y.1) × AreSteps y.0.0 y.0.1

numbered_says : (bytes : List ℕ) (y : (ℕ × Fresh) × List ℕ) → numbered_at bytes ≡ Some y → Says bytes y
unfolding numbered_at
numbered_says bytes y e =
    let a = bind_some (number_at 1000000000 bytes) (λ steps. cond (leb 1 steps.0) (Some ((steps.0, fresh.None), steps.1)) None) y e in
    let g = guard_some (leb 1 a.0.0) ((a.0.0, fresh.None), a.0.1) y a.2 in
    let t = number_takes 1000000000 bytes a.0.0 a.0.1 (omega arith) a.1 in
    subst (Says bytes) g.1 (t.0, (leb-true 1 a.0.0 g.0, t.1))

one_thread_says : (bytes rest : List ℕ) (y : (ℕ × Fresh) × List ℕ) → bytes ≡ codes "thread " ++ rest → one_thread_at rest ≡ Some y → Says bytes y
unfolding one_thread_at
one_thread_says bytes rest y word e =
    let a = bind_some (thread_at rest) (λ t. Some ((1, fresh.Thread t.0), t.1)) y e in
    let t = thread_takes rest a.0 a.1 in
    let made : (ℕ × Fresh) × List ℕ = ((1, fresh.Thread a.0.0), a.0.1) in
    subst (Says bytes) {x = made} (some_is made y a.2) (then_text bytes (codes "thread ") rest (thread_text a.0.0) a.0.1 word t.0, (refl, t.1))

two_threads_says : (bytes rest : List ℕ) (y : (ℕ × Fresh) × List ℕ) → bytes ≡ codes "threads " ++ rest → two_threads_at rest ≡ Some y → Says bytes y
unfolding two_threads_at
two_threads_says bytes rest y word e =
    let a = bind_some (thread_at rest) (λ t. behind (codes " ") t.1 >>= λ r. thread_at r >>= λ u. Some ((1, fresh.Threads t.0 u.0), u.1)) y e in
    let b = bind_some (behind (codes " ") a.0.1) (λ r. thread_at r >>= λ u. Some ((1, fresh.Threads a.0.0 u.0), u.1)) y a.2 in
    let c = bind_some (thread_at b.0) (λ u. Some ((1, fresh.Threads a.0.0 u.0), u.1)) y b.2 in
    let t = thread_takes rest a.0 a.1 in
    let u = thread_takes b.0 c.0 c.1 in
    let first = then_text bytes (codes "threads ") rest (thread_text a.0.0) a.0.1 word t.0 in
    let space = then_text bytes (codes "threads " ++ thread_text a.0.0) a.0.1 (codes " ") b.0 first (behind_takes (codes " ") a.0.1 b.0 b.1) in
    let text = then_text bytes (codes "threads " ++ thread_text a.0.0 ++ codes " ") b.0 (thread_text c.0.0) c.0.1 space u.0 in
    let made : (ℕ × Fresh) × List ℕ = ((1, fresh.Threads a.0.0 c.0.0), c.0.1) in
    subst (Says bytes) {x = made} (some_is made y c.2) (text, (refl, t.1, u.1))

one_mutex_says : (bytes rest : List ℕ) (y : (ℕ × Fresh) × List ℕ) → bytes ≡ codes "mutex " ++ rest → one_mutex_at rest ≡ Some y → Says bytes y
unfolding one_mutex_at
one_mutex_says bytes rest y word e =
    let a = bind_some (mutex_at rest) (λ m. Some ((1, fresh.Mutex m.0), m.1)) y e in
    let t = mutex_takes rest a.0 a.1 in
    let made : (ℕ × Fresh) × List ℕ = ((1, fresh.Mutex a.0.0), a.0.1) in
    subst (Says bytes) {x = made} (some_is made y a.2) (then_text bytes (codes "mutex ") rest (mutex_text a.0.0) a.0.1 word t.0, (refl, t.1, t.2))

-- a word was there, or something else was read
word_cases : {B : Type 0} (word bytes : List ℕ) (read : List ℕ → Option B) (other : Option B) (y : B) → by_word (behind word bytes) read other ≡ Some y → ((rest : List ℕ) × (bytes ≡ word ++ rest) × (read rest ≡ Some y)) ⊎ (other ≡ Some y)
word_cases {B} word bytes read other y e = by (behind word bytes) refl e
  where
    by : (r : Option (List ℕ)) → behind word bytes ≡ r → by_word r read other ≡ Some y → ((rest : List ℕ) × (bytes ≡ word ++ rest) × (read rest ≡ Some y)) ⊎ (other ≡ Some y)
    by None is e = inr e
    by (Some rest) is e = inl (rest, behind_takes word bytes rest is, e)

pub steps_takes : (bytes : List ℕ) (y : (ℕ × Fresh) × List ℕ) → steps_at bytes ≡ Some y → (bytes ≡ steps_text y.0.0 y.0.1 ++ y.1) × AreSteps y.0.0 y.0.1
unfolding steps_at
steps_takes bytes y e =
    let others = by_word (behind (codes "mutex ") bytes) one_mutex_at (numbered_at bytes) in
    ⊎_elim (λ a. one_thread_says bytes a.0 y a.1 a.2)
    (λ e. ⊎_elim (λ a. two_threads_says bytes a.0 y a.1 a.2)
    (λ e. ⊎_elim (λ a. one_mutex_says bytes a.0 y a.1 a.2) (numbered_says bytes y)
    (word_cases (codes "mutex ") bytes one_mutex_at (numbered_at bytes) y e))
    (word_cases (codes "threads ") bytes two_threads_at others y e))
    (word_cases (codes "thread ") bytes one_thread_at (by_word (behind (codes "threads ") bytes) two_threads_at others) y e)

pub steps_again : (n : ℕ) (f : Fresh) (x : ℕ) (rest : List ℕ) → AreSteps n f → is_ascii_digit x ≡ false → steps_at (steps_text n f ++ x ∷ rest) ≡ Some ((n, f), x ∷ rest)
unfolding steps_at numbered_at one_thread_at two_threads_at one_mutex_at
steps_again n fresh.None x rest are end =
    let fits : n < 2 ^ 64 = omega arith in
    let all = decimal_all n fits in
    let some = decimal_nonempty n fits in
    rw (no_word 116 (codes "hread ") (decimal n) (x ∷ rest) (omega arith) all some, no_word 116 (codes "hreads ") (decimal n) (x ∷ rest) (omega arith) all some, no_word 109 (codes "utex ") (decimal n) (x ∷ rest) (omega arith) all some, number_again 1000000000 n x rest (omega arith) are.1 end, le-leb 1 n are.0) refl
steps_again n (fresh.Thread t) x rest are end =
    rw (behind_again (codes "thread ") (thread_text t ++ x ∷ rest), thread_again t x rest are.1 end) (ap (λ (k : ℕ). Some ((k, fresh.Thread t), x ∷ rest)) (sym are.0))
steps_again n (fresh.Threads t u) x rest are end =
    let tail = thread_text t ++ (32 ∷ (thread_text u ++ x ∷ rest)) in
    let regrouped : steps_text n (fresh.Threads t u) ++ x ∷ rest ≡ codes "threads " ++ tail = append_assoc (codes "threads " ++ thread_text t ++ codes " ") (thread_text u) (x ∷ rest) ∙ append_assoc (codes "threads " ++ thread_text t) (codes " ") (thread_text u ++ x ∷ rest) in
    ap steps_at regrouped ∙ rw (thread_or_threads tail, behind_again (codes "threads ") tail, thread_again t 32 (thread_text u ++ x ∷ rest) are.1 refl, behind_again (codes " ") (thread_text u ++ x ∷ rest), thread_again u x rest are.2 end) (ap (λ (k : ℕ). Some ((k, fresh.Threads t u), x ∷ rest)) (sym are.0))
steps_again n (fresh.Mutex m) x rest are end =
    rw (thread_or_mutex (mutex_text m ++ x ∷ rest), threads_or_mutex (mutex_text m ++ x ∷ rest), behind_again (codes "mutex ") (mutex_text m ++ x ∷ rest), mutex_again m x rest are.1 are.2 end) (ap (λ (k : ℕ). Some ((k, fresh.Mutex m), x ∷ rest)) (sym are.0))
