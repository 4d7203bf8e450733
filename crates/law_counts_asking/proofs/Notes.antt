-- What a server has noted of threads: each one once, and of the two of a pair at most one as over.
use Rattle.std.proofs.Common.{◌≡◌, ℕ, ◌+◌, ◌≤◌, ◌==◌, ◌&&◌, not, Bool, true, false, if◌then◌else◌, List, [], ◌∷◌, Option, Some, None, refl, sym, ap, subst, ◌∙◌, arith}
use Rattle.std.specs.Prelude.{is_some}
use Rattle.law_results_reads.proofs.Below.fr_typing.PlaceLemmas.{eq_cases}
use Rattle.law_results_reads.specs.Below.heap_partition.declared.value.Owned.{Owned}
use Rattle.law_results_reads.specs.Below.join_home.Tasks.{Task, TaskState, going, let_go, kept, asked, in_pair, task_in, state_of, with_state, without_task, noted, is_noted, has_pair, can_begin, begin, can_begin_pair, begin_pair, over_of, over_in, pair_ended, ended_from, ended, asked_from, ask, let_go_from, let_go_of}
use Rattle.law_results_reads.specs.Below.coherent_memory.Names.{one}
use Rattle.law_results_reads.specs.Below.coherent_memory.Naming.{rising, rising_from, numbers_of}
use Rattle.law_results_reads.proofs.Below.coherent_memory.Names.{and_left, and_right}
use Rattle.law_results_reads.specs.Below.law_counts_sums.Laws.{Gives}
use Rattle.law_results_reads.proofs.Below.law_counts_sums.NotesFound.{below}

-- SUMS OVER NOTES

abbrev pub over_notes : (Task → ℕ) → List Task → ℕ
over_notes f [] = 0
over_notes f (x ∷ xs) = f x + over_notes f xs

abbrev note_of : ℕ → TaskState → Task
note_of t z = record { thread = t; state = z }

module _ (f : Task → ℕ) where
  -- a note more
  pub notes_more : (xs : List Task) (t : ℕ) (z : TaskState) → over_notes f (noted xs t z) ≡ over_notes f xs + f (note_of t z)
  notes_more [] t z = omega arith
  notes_more (x ∷ xs) t z = omega (arith, notes_more xs t z)

  -- a note less
  pub notes_less : (xs : List Task) (t : ℕ) → over_notes f (without_task xs t) ≤ over_notes f xs
  notes_less [] t = omega arith
  notes_less (x ∷ xs) t = by (x.thread == t) (notes_less xs t)
    where
      by : (b : Bool) → over_notes f (without_task xs t) ≤ over_notes f xs → over_notes f (if b then xs else x ∷ without_task xs t) ≤ f x + over_notes f xs
      by true l = omega arith
      by false l = omega (arith, l)

  -- a note in another state that weighs no more
  pub notes_turn : (xs : List Task) (t : ℕ) (z : TaskState) → ((s : TaskState) → f (note_of t z) ≤ f (note_of t s)) → over_notes f (with_state xs t z) ≤ over_notes f xs
  notes_turn [] t z l = omega arith
  notes_turn (x ∷ xs) t z l =
      eq_cases (λ b. over_notes f (if b then note_of t z ∷ xs else x ∷ with_state xs t z) ≤ f x + over_notes f xs) x.thread t
      (λ e. let same : f x ≡ f (note_of t x.state) = ap (λ n. f (note_of n x.state)) e in omega (arith, same, l x.state)) (λ ne. omega (arith, notes_turn xs t z l))

-- a note of a thread; one as over in the pair of a parent
abbrev pub names : ℕ → Task → ℕ
names t x = one (x.thread == t)

abbrev pub is_over_for : ℕ → ℕ → Task → ℕ
is_over_for p t x = one (x.thread == t && over_of p x.state)

-- both are none where the second isn't
one_not_both : (a b : Bool) → b ≡ false → one (a && b) ≡ 0
one_not_both true b e = ap one e
one_not_both false b e = refl

-- what isn't noted has no note
pub none_named : (xs : List Task) (t : ℕ) → is_noted xs t ≡ false → over_notes (names t) xs ≡ 0
none_named [] t e = refl
none_named (x ∷ xs) t e = by (x.thread == t) (none_named xs t) e
  where
    by : (b : Bool) → (is_noted xs t ≡ false → over_notes (names t) xs ≡ 0) → is_some (if b then Some x else task_in xs t) ≡ false → one b + over_notes (names t) xs ≡ 0
    by true go d = absurd (cc d)
    by false go d = omega (arith, go d)

-- where none of a pair is found as over, none is
pub none_over : (xs : List Task) (p t : ℕ) → over_in xs p ≡ None → over_notes (is_over_for p t) xs ≡ 0
none_over [] p t e = refl
none_over (x ∷ xs) p t e = by (over_of p x.state) refl (none_over xs p t) e
  where
    by : (b : Bool) → over_of p x.state ≡ b → (over_in xs p ≡ None → over_notes (is_over_for p t) xs ≡ 0) → (if b then Some x.thread else over_in xs p) ≡ None → one (x.thread == t && over_of p x.state) + over_notes (is_over_for p t) xs ≡ 0
    by true q go d = absurd (cc d)
    by false q go d = omega (arith, one_not_both (x.thread == t) (over_of p x.state) q, go d)

-- NOTES IN ORDER

pub record Orderly (xs : List Task) : Type 0 where
  -- a thread is noted once
  pub once : (t : ℕ) → over_notes (names t) xs ≤ 1
  -- of two threads, not both are noted as over in one pair
  pub one_over : (p t u : ℕ) → (t ≡ u → ⊥) → 1 ≤ over_notes (is_over_for p t) xs → 1 ≤ over_notes (is_over_for p u) xs → ⊥

-- fewer notes are in order too
fewer : (xs ys : List Task) → ((t : ℕ) → over_notes (names t) ys ≤ over_notes (names t) xs) → ((p t : ℕ) → over_notes (is_over_for p t) ys ≤ over_notes (is_over_for p t) xs) → Orderly xs → Orderly ys
fewer xs ys a b g = record { once = λ t. omega (arith, a t, g.once t); one_over = λ p t u ne l m. g.one_over p t u ne (omega (arith, l, b p t)) (omega (arith, m, b p u)) }

-- a note goes
goes : (xs : List Task) (t : ℕ) → Orderly xs → Orderly (without_task xs t)
goes xs t g = fewer xs (without_task xs t) (λ u. notes_less (names u) xs t) (λ p u. notes_less (is_over_for p u) xs t) g

-- a state in which it isn't over in a pair
abbrev Runs : TaskState → Type 0
Runs z = (p : ℕ) → over_of p z ≡ false

-- a note that isn't over any more makes no more of these
turned_less : (xs : List Task) (t : ℕ) (z : TaskState) (p u : ℕ) → over_of p z ≡ false → over_notes (is_over_for p u) (with_state xs t z) ≤ over_notes (is_over_for p u) xs
turned_less xs t z p u e = notes_turn (is_over_for p u) xs t z (λ s. omega (arith, one_not_both (t == u) (over_of p z) e))

-- a note runs on in another state
turns : (xs : List Task) (t : ℕ) (z : TaskState) → Runs z → Orderly xs → Orderly (with_state xs t z)
turns xs t z run g = fewer xs (with_state xs t z) (λ u. notes_turn (names u) xs t z (λ s. omega arith)) (λ p u. turned_less xs t z p u (run p)) g

-- a note comes of a thread that had none
comes : (xs : List Task) (t : ℕ) (z : TaskState) → Runs z → over_notes (names t) xs ≡ 0 → Orderly xs → Orderly (noted xs t z)
comes xs t z run new g = record {
  once = λ u. eq_cases (λ b. over_notes (names u) (noted xs t z) ≡ over_notes (names u) xs + one b → over_notes (names u) (noted xs t z) ≤ 1) t u
      (λ e q. omega (arith, q, subst (λ n. over_notes (names n) xs ≡ 0) e new)) (λ ne q. omega (arith, q, g.once u)) (notes_more (names u) xs t z);
  one_over = λ p u v ne l m. g.one_over p u v ne (omega (arith, l, notes_more (is_over_for p u) xs t z, one_not_both (t == u) (over_of p z) (run p))) (omega (arith, m, notes_more (is_over_for p v) xs t z, one_not_both (t == v) (over_of p z) (run p)));
}

-- WHAT BECOMES OF NOTES

-- what is denied isn't so
not_so : (b : Bool) → not b ≡ true → b ≡ false
not_so true e = absurd (cc e)
not_so false e = refl

-- who goes on is over in no pair
runs_on : Runs going
runs_on p = refl

-- nor is who was let go
runs_off : Runs let_go
runs_off p = refl

-- nor whose result is kept
runs_kept : (v : Owned) → Runs (kept v)
runs_kept v p = refl

-- nor whose result is asked for
runs_asked : (s t : ℕ) → Runs (asked s t)
runs_asked s t p = refl

-- nor a branch that goes on
runs_paired : (parent : ℕ) → Runs (in_pair parent false)
runs_paired parent p = by (p == parent)
  where
    by : (b : Bool) → b && false ≡ false
    by true = refl
    by false = refl

-- a thread begins
pub begins : (xs : List Task) (t : ℕ) → can_begin xs t ≡ true → Orderly xs → Orderly (begin xs t)
begins xs t e g = comes xs t going runs_on (none_named xs t (not_so (is_noted xs t) e)) g

-- a pair begins
pub pair_begins : (xs : List Task) (parent a b : ℕ) → can_begin_pair xs parent a b ≡ true → Orderly xs → Orderly (begin_pair xs parent a b)
pair_begins xs parent a b e g =
    let both = and_left (can_begin xs a && can_begin xs b) (not (a == b) && not (has_pair xs parent)) e in
    let differ = not_so (a == b) (and_left (not (a == b)) (not (has_pair xs parent)) (and_right (can_begin xs a && can_begin xs b) (not (a == b) && not (has_pair xs parent)) e)) in
    let first = none_named xs a (not_so (is_noted xs a) (and_left (can_begin xs a) (can_begin xs b) both)) in
    let second = none_named xs b (not_so (is_noted xs b) (and_right (can_begin xs a) (can_begin xs b) both)) in
    let z = in_pair parent false in
    let none : one (a == b) ≡ 0 = ap one differ in
    comes (noted xs a z) b z (runs_paired parent) (omega (arith, notes_more (names b) xs a z, second, none)) (comes xs a z (runs_paired parent) first g)

-- what is left is in order
abbrev Left : {X : Type 0} → List Task × X → Type 0
Left p = Orderly p.0

-- a result is asked for
pub asks : (xs : List Task) (t s by : ℕ) → Orderly xs → Gives Left (ask xs t s by)
asks xs t s asker g = by (state_of xs t)
  where
    by : (z : Option TaskState) → Gives Left (asked_from xs t s asker z)
    by None = tt
    by (Some going) = turns xs t (asked s asker) (runs_asked s asker) g
    by (Some (kept v)) = goes xs t g
    by (Some let_go) = tt
    by (Some (asked a b)) = tt
    by (Some (in_pair a b)) = tt

-- a task is let go
pub lets_go : (xs : List Task) (t : ℕ) → Orderly xs → Gives Left (let_go_of xs t)
lets_go xs t g = by (state_of xs t)
  where
    by : (z : Option TaskState) → Gives Left (let_go_from xs t z)
    by None = tt
    by (Some going) = turns xs t let_go runs_off g
    by (Some (kept v)) = goes xs t g
    by (Some let_go) = tt
    by (Some (asked a b)) = tt
    by (Some (in_pair a b)) = tt

-- the first of a pair that ends is its only one that is over
first_over : (xs : List Task) (t parent : ℕ) → over_in xs parent ≡ None → Orderly xs → Orderly (with_state xs t (in_pair parent true))
first_over xs t parent none g = record {
  once = λ u. let l = notes_turn (names u) xs t z (λ s. omega arith) in omega (arith, l, g.once u);
  one_over = λ p u v ne l m.
      eq_cases (λ b. (p == parent) ≡ b → ⊥) p parent (λ e q. mine p e u v ne l m)
      (λ other q. g.one_over p u v ne (omega (arith, l, turned_less xs t z p u (ap (λ b. b && true) q))) (omega (arith, m, turned_less xs t z p v (ap (λ b. b && true) q)))) refl;
}
  where
    z : TaskState
    z = in_pair parent true

    -- of other threads than that none is over
    unturned : (p u : ℕ) → p ≡ parent → (t ≡ u → ⊥) → over_notes (is_over_for p u) (with_state xs t z) ≡ 0
    unturned p u e ne =
        let before : over_notes (is_over_for p u) xs ≡ 0 = none_over xs p u (subst (λ n. over_in xs n ≡ None) (sym e) none) in
        let l : over_notes (is_over_for p u) (with_state xs t z) ≤ over_notes (is_over_for p u) xs = notes_turn (is_over_for p u) xs t z (λ s. eq_cases (λ b. one (b && over_of p z) ≤ one (b && over_of p s)) t u (λ q. absurd (ne q)) (λ q. omega arith)) in
        omega (arith, before, l)

    mine : (p : ℕ) → p ≡ parent → (u v : ℕ) → (u ≡ v → ⊥) → 1 ≤ over_notes (is_over_for p u) (with_state xs t z) → 1 ≤ over_notes (is_over_for p v) (with_state xs t z) → ⊥
    mine p e u v ne l m =
        eq_cases (λ b. (t == u) ≡ b → ⊥) t u
        (λ q r. let none : over_notes (is_over_for p v) (with_state xs t z) ≡ 0 = unturned p v e (λ w. ne (sym q ∙ w)) in omega (arith, none, m))
        (λ q r. let none : over_notes (is_over_for p u) (with_state xs t z) ≡ 0 = unturned p u e q in omega (arith, none, l)) refl

-- a thread ends
pub ends : (xs : List Task) (t : ℕ) (v : Owned) → Orderly xs → Gives Left (ended xs t v)
ends xs t v g = by (state_of xs t)
  where
    pair : (parent : ℕ) (o : Option ℕ) → over_in xs parent ≡ o → Left (pair_ended xs t parent o)
    pair parent None e = first_over xs t parent e g
    pair parent (Some u) e = goes (without_task xs t) u (goes xs t g)

    by : (z : Option TaskState) → Gives Left (ended_from xs t v z)
    by None = tt
    by (Some going) = turns xs t (kept v) (runs_kept v) g
    by (Some let_go) = goes xs t g
    by (Some (kept u)) = tt
    by (Some (asked s u)) = goes xs t g
    by (Some (in_pair parent true)) = tt
    by (Some (in_pair parent false)) = pair parent (over_in xs parent) refl

-- notes by rising number are of each thread once
module _ (t : ℕ) where
  -- where numbers rise none is below the first
  none_later : (m : ℕ) (xs : List Task) → t ≤ m → rising_from m (numbers_of (λ x. x.thread) xs) ≡ 0 → over_notes (names t) xs ≡ 0
  none_later m [] l z = refl
  none_later m (x ∷ xs) l z =
      let up = below m x.thread (omega (arith, z)) in
      eq_cases (λ b. one b + over_notes (names t) xs ≡ 0) x.thread t (λ e. absurd (omega (arith, e, up, l))) (λ ne. omega (arith, none_later x.thread xs (omega (arith, l, up)) (omega (arith, z))))

  -- so each stands there once
  later_once : (m : ℕ) (xs : List Task) → rising_from m (numbers_of (λ x. x.thread) xs) ≡ 0 → over_notes (names t) xs ≤ 1
  later_once m [] z = omega arith
  later_once m (x ∷ xs) z =
      eq_cases (λ b. one b + over_notes (names t) xs ≤ 1) x.thread t (λ e. omega (arith, none_later x.thread xs (omega (arith, e)) (omega (arith, z)))) (λ ne. omega (arith, later_once x.thread xs (omega (arith, z))))

  -- a number that rises stands there once
  pub rising_once : (xs : List Task) → rising (numbers_of (λ x. x.thread) xs) ≡ 0 → over_notes (names t) xs ≤ 1
  rising_once [] z = omega arith
  rising_once (x ∷ xs) z =
      eq_cases (λ b. one b + over_notes (names t) xs ≤ 1) x.thread t (λ e. omega (arith, none_later x.thread xs (omega (arith, e)) z)) (λ ne. omega (arith, later_once x.thread xs z))
