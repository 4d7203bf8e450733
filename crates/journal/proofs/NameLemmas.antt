-- A thread or a mutex that is read is its text, and its text is read again.
use Rattle.std.proofs.Common.{◌≡◌, ℕ, ◌+◌, ◌*◌, ◌/◌, ◌%◌, ◌^◌, ◌<◌, false, List, ◌∷◌, ◌++◌, refl, sym, ap, subst, ◌∙◌, append_assoc, arith, codes, Some}
use Rattle.std.specs.Fmt.{decimal}
use Rattle.std.specs.Char.{is_ascii_digit}
use Rattle.fr_base.specs.declared.name.MutexNo.{MutexNo}
use Rattle.journal.specs.OrderText.{name_text, thread_text, mutex_text}
use Rattle.journal.specs.OrderReading.{◌>>=◌, number_at, behind, name_at, thread_at, mutex_at}
use Rattle.journal.proofs.Tools.{bind_some, some_is}
use Rattle.journal.proofs.NumberLemmas.{number_takes, number_again}
use Rattle.journal.proofs.TextLemmas.{behind_takes, behind_again, then_text}

-- a server and a count
pub name_takes : (bytes : List ℕ) (y : (ℕ × ℕ) × List ℕ) → name_at bytes ≡ Some y → (bytes ≡ name_text y.0.0 y.0.1 ++ y.1) × (y.0.0 < 2 ^ 8) × (y.0.1 < 2 ^ 32)
unfolding name_at
name_takes bytes y e =
    let a = bind_some (number_at 255 bytes) (λ server. behind (codes ".") server.1 >>= λ rest. number_at 4294967295 rest >>= λ count. Some ((server.0, count.0), count.1)) y e in
    let b = bind_some (behind (codes ".") a.0.1) (λ rest. number_at 4294967295 rest >>= λ count. Some ((a.0.0, count.0), count.1)) y a.2 in
    let c = bind_some (number_at 4294967295 b.0) (λ count. Some ((a.0.0, count.0), count.1)) y b.2 in
    let server = number_takes 255 bytes a.0.0 a.0.1 (omega arith) a.1 in
    let count = number_takes 4294967295 b.0 c.0.0 c.0.1 (omega arith) c.1 in
    let front = then_text bytes (decimal a.0.0) a.0.1 (codes ".") b.0 server.0 (behind_takes (codes ".") a.0.1 b.0 b.1) in
    let text = then_text bytes (decimal a.0.0 ++ codes ".") b.0 (decimal c.0.0) c.0.1 front count.0 in
    let made : (ℕ × ℕ) × List ℕ = ((a.0.0, c.0.0), c.0.1) in
    subst (λ (z : (ℕ × ℕ) × List ℕ). (bytes ≡ name_text z.0.0 z.0.1 ++ z.1) × (z.0.0 < 2 ^ 8) × (z.0.1 < 2 ^ 32)) {x = made} (some_is made y c.2) (text, omega (arith, server.1), omega (arith, count.1))

pub name_again : (s c x : ℕ) (rest : List ℕ) → s < 2 ^ 8 → c < 2 ^ 32 → is_ascii_digit x ≡ false → name_at (name_text s c ++ x ∷ rest) ≡ Some ((s, c), x ∷ rest)
unfolding name_at
name_again s c x rest server count end =
    let regrouped : name_text s c ++ x ∷ rest ≡ decimal s ++ (46 ∷ (decimal c ++ x ∷ rest)) = append_assoc (decimal s ++ codes ".") (decimal c) (x ∷ rest) ∙ append_assoc (decimal s) (codes ".") (decimal c ++ x ∷ rest) in
    ap name_at regrouped ∙ rw (number_again 255 s 46 (decimal c ++ x ∷ rest) (omega arith) (omega arith) refl, behind_again (codes ".") (decimal c ++ x ∷ rest), number_again 4294967295 c x rest (omega arith) (omega arith) end) refl

-- a thread's number and its parts
thread_of : (s c : ℕ) → c < 2 ^ 32 → thread_text (s * 2 ^ 32 + c) ≡ name_text s c
thread_of s c small =
    let server : (s * 2 ^ 32 + c) / 2 ^ 32 ≡ s = omega arith in
    let count : (s * 2 ^ 32 + c) % 2 ^ 32 ≡ c = omega arith in
    ap (λ n. name_text n ((s * 2 ^ 32 + c) % 2 ^ 32)) server ∙ ap (name_text s) count

pub thread_takes : (bytes : List ℕ) (y : ℕ × List ℕ) → thread_at bytes ≡ Some y → (bytes ≡ thread_text y.0 ++ y.1) × (y.0 < 2 ^ 40)
unfolding thread_at
thread_takes bytes y e =
    let a = bind_some (name_at bytes) (λ name. Some (name.0.0 * 2 ^ 32 + name.0.1, name.1)) y e in
    let t = name_takes bytes a.0 a.1 in
    let made : ℕ × List ℕ = (a.0.0.0 * 2 ^ 32 + a.0.0.1, a.0.1) in
    subst (λ (z : ℕ × List ℕ). (bytes ≡ thread_text z.0 ++ z.1) × (z.0 < 2 ^ 40)) {x = made} (some_is made y a.2) (t.0 ∙ ap (λ x. x ++ a.0.1) (sym (thread_of a.0.0.0 a.0.0.1 t.2)), omega (arith, t.1, t.2))

pub thread_again : (t x : ℕ) (rest : List ℕ) → t < 2 ^ 40 → is_ascii_digit x ≡ false → thread_at (thread_text t ++ x ∷ rest) ≡ Some (t, x ∷ rest)
unfolding thread_at
thread_again t x rest small end =
    let back : t / 2 ^ 32 * 2 ^ 32 + t % 2 ^ 32 ≡ t = omega arith in
    rw (name_again (t / 2 ^ 32) (t % 2 ^ 32) x rest (omega arith) (omega arith) end) (ap (λ (n : ℕ). Some (n, x ∷ rest)) back)

pub mutex_takes : (bytes : List ℕ) (y : MutexNo × List ℕ) → mutex_at bytes ≡ Some y → (bytes ≡ mutex_text y.0 ++ y.1) × (y.0.home < 2 ^ 8) × (y.0.count < 2 ^ 32)
unfolding mutex_at
mutex_takes bytes y e =
    let a = bind_some (name_at bytes) (λ name. Some (record { home = name.0.0; count = name.0.1 }, name.1)) y e in
    let t = name_takes bytes a.0 a.1 in
    let made : MutexNo × List ℕ = (record { home = a.0.0.0; count = a.0.0.1 }, a.0.1) in
    subst (λ (z : MutexNo × List ℕ). (bytes ≡ mutex_text z.0 ++ z.1) × (z.0.home < 2 ^ 8) × (z.0.count < 2 ^ 32)) {x = made} (some_is made y a.2) t

pub mutex_again : (m : MutexNo) (x : ℕ) (rest : List ℕ) → m.home < 2 ^ 8 → m.count < 2 ^ 32 → is_ascii_digit x ≡ false → mutex_at (mutex_text m ++ x ∷ rest) ≡ Some (m, x ∷ rest)
unfolding mutex_at
mutex_again m x rest home count end = rw (name_again m.home m.count x rest home count end) refl
