-- A line's text has one newline, at its end.
use Rattle.std.proofs.Common.{◌≡◌, ℕ, ◌/◌, ◌%◌, ◌^◌, ◌<◌, Bool, true, false, cond, not, ◌&&◌, ◌==◌, eqb, leb, List, [], ◌∷◌, ◌++◌, refl, ap, ◌∙◌, append_assoc, arith, codes, ◌↔◌}
use Rattle.std.specs.Fmt.{decimal}
use Rattle.std.specs.Char.{is_ascii_digit}
use Rattle.std.specs.Str.{all_ascii_digits}
use Rattle.std.proofs.lemmas.Bool.{and_parts, and_from, leb-true, ne_eqb, not-true}
use Rattle.fr_base.specs.declared.step.Fresh.{Fresh}
use Rattle.fr_base.specs.declared.step.Fresh.TheVariants as fresh
use Rattle.journal.specs.declared.order.OrderLine.{OrderLine}
use Rattle.journal.specs.OrderText.{name_text, thread_text, steps_text, spell, AreSteps, IsLine, BeginsNoLine, first_line, FirstIsNoLine}
use Rattle.journal.proofs.NumberLemmas.{AllDigits, decimal_all}

-- no newline is among these
abbrev pub has_none : List ℕ → Bool
has_none [] = true
has_none (b ∷ bs) = not (b == 10) && has_none bs

-- nor in two such texts
none_in_both : (a b : List ℕ) → has_none a ≡ true → has_none b ≡ true → has_none (a ++ b) ≡ true
none_in_both [] b p q = q
none_in_both (x ∷ a) b p q =
    let h = and_parts (not (eqb x 10)) (has_none a) p in
    and_from (not (eqb x 10)) (has_none (a ++ b)) h.0 (none_in_both a b h.1 q)

-- nor among digits
none_in_digits : (ds : List ℕ) → AllDigits ds → has_none ds ≡ true
none_in_digits [] all = refl
none_in_digits (d ∷ ds) all =
    let p = and_parts (is_ascii_digit d) (all_ascii_digits ds) all in
    let q = and_parts (leb 48 d) (leb d 57) p.0 in
    rw (ne_eqb d 10 (λ e. omega (arith, leb-true 48 d q.0))) (none_in_digits ds p.1)

none_in_number : (n : ℕ) → n < 2 ^ 64 → has_none (decimal n) ≡ true
none_in_number n small = none_in_digits (decimal n) (decimal_all n small)

none_in_name : (s c : ℕ) → s < 2 ^ 64 → c < 2 ^ 64 → has_none (name_text s c) ≡ true
none_in_name s c p q = none_in_both (decimal s ++ codes ".") (decimal c) (none_in_both (decimal s) (codes ".") (none_in_number s p) refl) (none_in_number c q)

none_in_thread : (t : ℕ) → t < 2 ^ 40 → has_none (thread_text t) ≡ true
none_in_thread t small = none_in_name (t / 2 ^ 32) (t % 2 ^ 32) (omega arith) (omega arith)

none_in_steps : (n : ℕ) (f : Fresh) → AreSteps n f → has_none (steps_text n f) ≡ true
none_in_steps n fresh.None are = none_in_number n (omega arith)
none_in_steps n (fresh.Thread t) are = none_in_both (codes "thread ") (thread_text t) refl (none_in_thread t are.1)
none_in_steps n (fresh.Threads t u) are =
    none_in_both (codes "threads " ++ thread_text t ++ codes " ") (thread_text u)
    (none_in_both (codes "threads " ++ thread_text t) (codes " ") (none_in_both (codes "threads ") (thread_text t) refl (none_in_thread t are.1)) refl)
    (none_in_thread u are.2)
none_in_steps n (fresh.Mutex m) are = none_in_both (codes "mutex ") (name_text m.home m.count) refl (none_in_name m.home m.count (omega arith) (omega arith))

-- a text without newlines and its newline are the first line
ends_there : (t after : List ℕ) → has_none t ≡ true → first_line (t ++ 10 ∷ after) ≡ t ++ 10 ∷ []
ends_there [] after none = refl
ends_there (b ∷ t) after none =
    let p = and_parts (not (eqb b 10)) (has_none t) none in
    rw (not-true (eqb b 10) p.0) (ap (λ x. b ∷ x) (ends_there t after p.1))

-- nor in a line before its end
pub none_in_line : (l : OrderLine) → IsLine l → has_none (thread_text l.thread ++ codes " " ++ steps_text l.steps l.fresh) ≡ true
none_in_line l is = none_in_both (thread_text l.thread ++ codes " ") (steps_text l.steps l.fresh) (none_in_both (thread_text l.thread) (codes " ") (none_in_thread l.thread is.0) refl) (none_in_steps l.steps l.fresh is.1)

-- so the text of a line is the first line
spell_first : (l : OrderLine) (after : List ℕ) → IsLine l → first_line (spell l ++ after) ≡ spell l
spell_first l after is =
    let body = thread_text l.thread ++ codes " " ++ steps_text l.steps l.fresh in
    ap first_line (append_assoc body (codes "\n") after) ∙ ends_there body after (none_in_line l is)

-- the first line stands in front
in_front : (bytes : List ℕ) → (after : List ℕ) × (bytes ≡ first_line bytes ++ after)
in_front [] = ([], refl)
in_front (b ∷ bytes) = by (eqb b 10) (in_front bytes)
  where
    by : (u : Bool) → ((after : List ℕ) × (bytes ≡ first_line bytes ++ after)) → (after : List ℕ) × (b ∷ bytes ≡ cond u (b ∷ []) (b ∷ first_line bytes) ++ after)
    by true h = (bytes, refl)
    by false h = (h.0, ap (λ x. b ∷ x) h.1)

-- no line begins where the first line is none
pub lines_only : (bytes : List ℕ) → BeginsNoLine bytes ↔ FirstIsNoLine bytes
lines_only bytes = (
  λ bad l is e. bad l (in_front bytes).0 is ((in_front bytes).1 ∙ ap (λ x. x ++ (in_front bytes).0) e),
  λ other l after is e. other l is (ap first_line e ∙ spell_first l after is),
)
