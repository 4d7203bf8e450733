-- Who rests at the end of a driven journal was started, each once.
use Rattle.std.proofs.Common.{◌≡◌, ◌≤◌, ℕ, zero, suc, ◌+◌, ◌==◌, ◌&&◌, Bool, true, false, if◌then◌else◌, List, [], ◌∷◌, length, Option, Some, None, refl, subst, arith}
use Rattle.std.proofs.lemmas.Bool.Decides.{nat_tests}
use Rattle.law_runs_whole.specs.Below.law_counts_things.Below.fr_base.Lists.{one}
use Rattle.law_runs_whole.specs.Below.law_counts_things.Below.fr_base.declared.settings.Options.{Options}
use Rattle.law_runs_whole.specs.Below.journal.View.{EntryView}
use Rattle.law_runs_whole.specs.Below.coloured_heap.Lists.{holds}
use Rattle.law_runs_whole.specs.Below.coloured_heap.Heap.{Coloured, start}
use Rattle.law_runs_whole.specs.Below.coloured_heap.Legal.{entry_after}
use Rattle.law_runs_whole.specs.Below.coloured_heap.Driven.{are_due, departing, may_depart, resting, driven_from}
use Rattle.law_length_runs.specs.worth.Driving.{resting_after}
use Rattle.law_length_runs.proofs.worth.Driven.{among, Once, left_true, right_true, movers_rest, entry_rests}
use Rattle.law_length_runs.specs.asked.Resting.{starts_in, FewRest}
use Rattle.law_length_runs.proofs.asked.Numbers.{numbers, Left, entry_leaves}

-- LISTS IN LISTS

-- the list without the first item like that
abbrev without : ℕ → List ℕ → List ℕ
without n [] = []
without n (x ∷ xs) = if x == n then xs else x ∷ without n xs

-- one item less
record Lacks (n : ℕ) (xs : List ℕ) : Type 0 where
  shorter : length xs ≡ length (without n xs) + 1
  often : (m : ℕ) → among m xs ≡ among m (without n xs) + one (n == m)

lacks : (n : ℕ) (xs : List ℕ) → 1 ≤ among n xs → Lacks n xs
lacks n [] l = absurd (omega (arith, l))
lacks n (x ∷ xs) l = let r = by (x == n) refl l (lacks n xs) in record { shorter = r.0; often = r.1 }
  where
    by : (b : Bool) → (x == n) ≡ b → 1 ≤ one b + among n xs → (1 ≤ among n xs → Lacks n xs)
        → (length (x ∷ xs) ≡ length (if b then xs else x ∷ without n xs) + 1) × ((m : ℕ) → among m (x ∷ xs) ≡ among m (if b then xs else x ∷ without n xs) + one (n == m))
    by true e k go = let same : x ≡ n = grind (arith, nat_tests, e) in (omega arith, λ m. subst (λ y. one (x == m) + among m xs ≡ among m xs + one (y == m)) same (omega arith))
    by false e k go = let r = go (omega (arith, k)) in (omega (arith, r.shorter), λ m. omega (arith, r.often m))

-- a list that has nothing oftener isn't longer
pub within_length : (xs ys : List ℕ) → ((n : ℕ) → among n xs ≤ among n ys) → length xs ≤ length ys
within_length [] ys f = omega arith
within_length (x ∷ xs) ys f =
    let itself : one (x == x) ≡ 1 = by_itself in
    let r = lacks x ys (let l = f x in omega (arith, l, itself)) in
    let rest = within_length xs (without x ys) (λ n. let a = f n in let b = r.often n in omega (arith, a, b)) in
    omega (arith, rest, r.shorter)
  where
    by_itself : one (x == x) ≡ 1
    by_itself = by (x == x) refl
      where
        by : (b : Bool) → (x == x) ≡ b → one b ≡ 1
        by true e = refl
        by false e = absurd (grind (arith, nat_tests, e))

-- AN ENTRY

-- who rests stands on the heap
abbrev AreThere : List ℕ → Coloured → Type 0
AreThere moved s = (n : ℕ) → among n moved ≤ among n (numbers s)

entry_there : (o : Options) (s c : Coloured) (e : EntryView) (moved : List ℕ) → Once moved → may_depart moved (departing e.acts) ≡ true → entry_after o s e ≡ Some c → AreThere moved s → AreThere (resting e moved) c
entry_there o s c e moved once may is there n = by (among n (departing e.acts)) refl
  where
    left : Left s c e
    left = entry_leaves o s c e is

    by : (m : ℕ) → among n (departing e.acts) ≡ m → among n (resting e moved) ≤ among n (numbers c)
    by zero q = let r = entry_rests e moved once in let a = r.often n in let b = there n in let g = left.grown in let d = g.stay n in omega (arith, q, a, b, d)
    by (suc m) q =
        let r = entry_rests e moved once in
        let a = r.often n in
        let few = movers_rest moved (departing e.acts) once may n in
        let l = left.movers n (omega (arith, q)) in
        let g = left.grown in
        let d = g.stay n in
        omega (arith, a, few, l, d)

-- JOURNALS

-- threads among which those that rest are
record There (moved ns : List ℕ) (more : ℕ) (es : List EntryView) : Type 0 where
  threads : List ℕ
  many : length threads ≡ length ns + more
  there : (n : ℕ) → among n (resting_after moved es) ≤ among n threads

journal_there : (o : Options) (s : Coloured) (moved : List ℕ) (es : List EntryView) → Once moved → AreThere moved s → driven_from o s moved es ≡ true → There moved (numbers s) (starts_in es) es
journal_there o s moved [] once there d = record { threads = numbers s; many = omega arith; there = there }
journal_there o s moved (e ∷ es) once there d =
    let both = left_true (are_due o e e.acts s && may_depart moved (departing e.acts)) (holds (λ after. driven_from o after (resting e moved) es) (entry_after o s e)) d in
    let may : may_depart moved (departing e.acts) ≡ true = right_true (are_due o e e.acts s) (may_depart moved (departing e.acts)) both in
    let later = right_true (are_due o e e.acts s && may_depart moved (departing e.acts)) (holds (λ after. driven_from o after (resting e moved) es) (entry_after o s e)) d in
    let r = entry_rests e moved once in
    let next : Once (resting e moved) = λ n. let a = r.often n in let b = movers_rest moved (departing e.acts) once may n in omega (arith, a, b) in
    by may (λ c q g. journal_there o c (resting e moved) es next q g) (entry_after o s e) refl later
  where
    Later : Type 0
    Later = (c : Coloured) → AreThere (resting e moved) c → driven_from o c (resting e moved) es ≡ true → There (resting e moved) (numbers c) (starts_in es) es

    by : may_depart moved (departing e.acts) ≡ true → Later → (c : Option Coloured) → entry_after o s e ≡ c → holds (λ after. driven_from o after (resting e moved) es) c ≡ true → There moved (numbers s) (starts_in (e ∷ es)) (e ∷ es)
    by may go None q g = absurd (cc g)
    by may go (Some c) q g =
        let rest = go c (entry_there o s c e moved once may q there) g in
        let left = entry_leaves o s c e q in
        let grown = left.grown in
        record { threads = rest.threads; many = omega (arith, rest.many, grown.many); there = rest.there }

pub few_rest : FewRest
few_rest o es d =
    let r = journal_there o start [] es (λ n. omega arith) (λ n. omega arith) d in
    omega (arith, within_length (resting_after [] es) r.threads r.there, r.many)
