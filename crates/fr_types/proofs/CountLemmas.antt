-- What the slots of an environment have lent.
use Rattle.std.proofs.Common.{◌≡◌, ℕ, zero, suc, ◌+◌, ◌<◌, ◌≤◌, Bool, true, false, List, [], ◌∷◌, length, nat_lt, refl, sym, ap, ◌∙◌, subst, arith}
use Rattle.std.specs.Prelude.{◌||◌, if◌then◌else◌}
use Rattle.std.specs.List.{list_any}
use Rattle.std.proofs.lemmas.Bool.Decides.{nat_tests}
use Rattle.fr_terms.specs.Terms.{Text}
use Rattle.fr_typing.specs.Kinds.{Piece}
use Rattle.fr_typing.specs.Places.{blocks_read, blocks_write, read_blocked, write_blocked}
use Rattle.fr_typing.proofs.PlaceLemmas.{eq_cases}
use Rattle.fr_types.specs.Bounds.{most_slots}
use Rattle.fr_types.specs.declared.loans.Loans.{Loans}
use Rattle.fr_types.specs.States.{Held, env_of, part_in, put_in}
use Rattle.fr_types.specs.Lent.{bit, count_at, loans_at, IsLent, HasLoans, HasSpace, AreCounted}
use Rattle.fr_types.proofs.EnvLemmas.{length_put_in}
use Rattle.fr_types.proofs.LoanLemmas.{bit_le}

-- no more than the slots
count_le : (test : Piece → Bool) (vs : List Held) → count_at test vs ≤ length vs
count_le test [] = omega arith
count_le test (s ∷ below) = omega (arith, count_le test below, bit_le (test s.part))

-- a slot with such a part counts
count_part : (test : Piece → Bool) (vs : List Held) (slot : ℕ) → slot < length vs → bit (test (part_in vs slot)) ≤ count_at test vs
count_part test [] slot lt = absurd (omega arith)
count_part test (s ∷ below) slot lt =
    eq_cases (λ b. bit (test (if b then s.part else part_in below slot)) ≤ count_at test below + bit (test s.part)) slot (length below)
    (λ e. omega arith) (λ ne. omega (arith, count_part test below slot (omega arith)))

-- another part at a slot
count_put : (test : Piece → Bool) (vs : List Held) (slot : ℕ) (p : Piece) → slot < length vs → count_at test (put_in vs slot p) + bit (test (part_in vs slot)) ≡ count_at test vs + bit (test p)
count_put test [] slot p lt = absurd (omega arith)
count_put test (s ∷ below) slot p lt =
    eq_cases (λ b. count_at test (if b then record s { part = p } ∷ below else s ∷ put_in below slot p) + bit (test (if b then s.part else part_in below slot)) ≡ count_at test below + bit (test s.part) + bit (test p)) slot (length below)
    (λ e. omega arith) (λ ne. omega (arith, count_put test below slot p (omega arith)))

positive : (n : ℕ) (b : Bool) → nat_lt 0 (n + bit b) ≡ (b || nat_lt 0 n)
positive n true = grind (arith, nat_tests)
positive n false = let same : n + 0 ≡ n = omega arith in ap (nat_lt 0) same

-- some slot is counted, exactly where some slot has such a part
count_any : (test : Piece → Bool) (names : List Text) (vs : List Held) → nat_lt 0 (count_at test vs) ≡ list_any (λ s. test s.part) (env_of names vs)
count_any test names [] = refl
count_any test names (s ∷ below) = positive (count_at test below) (test s.part) ∙ ap (λ b. test s.part || b) (count_any test names below)

pub read_counted : (names : List Text) (vs all : List Held) (loans : List Loans) (x : ℕ) (b : Bool) → AreCounted vs loans → vs ≡ all → b ≡ nat_lt 0 (loans_at loans x).mutable → b ≡ read_blocked (env_of names all) x
read_counted names vs all loans x b h e is =
    is ∙ ap (nat_lt 0) (h.mutable x) ∙ count_any (blocks_read x) names vs ∙ ap (λ l. read_blocked (env_of names l) x) e

pub write_counted : (names : List Text) (vs all : List Held) (loans : List Loans) (x : ℕ) (b : Bool) → AreCounted vs loans → vs ≡ all → b ≡ nat_lt 0 (loans_at loans x).any → b ≡ write_blocked (env_of names all) x
write_counted names vs all loans x b h e is =
    is ∙ ap (nat_lt 0) (h.any x) ∙ count_any (blocks_write x) names vs ∙ ap (λ l. write_blocked (env_of names l) x) e

-- each count fits
pub counted_space : (vs : List Held) (loans : List Loans) → length vs ≤ most_slots → AreCounted vs loans → HasSpace loans
counted_space vs loans few h = record {
  mutable = λ x. omega (arith, few, h.mutable x, count_le (blocks_read x) vs);
  any = λ x. omega (arith, few, h.any x, count_le (blocks_write x) vs);
}

-- a table that says the same
pub counted_same : (vs : List Held) (xs ys : List Loans) → AreCounted vs xs → length xs ≤ length ys → ((x : ℕ) → loans_at ys x ≡ loans_at xs x) → AreCounted vs ys
counted_same vs xs ys h longer same = record {
  room = omega (arith, h.room, longer);
  mutable = λ x. ap (λ (l : Loans). l.mutable) (same x) ∙ h.mutable x;
  any = λ x. ap (λ (l : Loans). l.any) (same x) ∙ h.any x;
}

-- a new slot lends
pub counted_push : (vs : List Held) (s : Held) (less more : List Loans) → AreCounted vs less → IsLent less more s.part → length vs < length more → AreCounted (s ∷ vs) more
counted_push vs s less more h lent room = record {
  room = omega (arith, room);
  mutable = λ x. lent.mutable x ∙ ap (λ n. n + bit (blocks_read x s.part)) (h.mutable x);
  any = λ x. lent.any x ∙ ap (λ n. n + bit (blocks_write x s.part)) (h.any x);
}

-- the last slot has lent
pub counted_top : (vs : List Held) (s : Held) (loans : List Loans) → AreCounted (s ∷ vs) loans → HasLoans loans s.part
counted_top vs s loans h = record {
  mutable = λ x. let n : (loans_at loans x).mutable ≡ count_at (blocks_read x) vs + bit (blocks_read x s.part) = h.mutable x in omega (arith, n);
  any = λ x. let n : (loans_at loans x).any ≡ count_at (blocks_write x) vs + bit (blocks_write x s.part) = h.any x in omega (arith, n);
}

-- it gives back
pub counted_pop : (vs : List Held) (s : Held) (less more : List Loans) → AreCounted (s ∷ vs) more → IsLent less more s.part → AreCounted vs less
counted_pop vs s less more h lent = record {
  room = let room : suc (length vs) ≤ length more = h.room in omega (arith, room, lent.same);
  mutable = λ x. let n : (loans_at more x).mutable ≡ count_at (blocks_read x) vs + bit (blocks_read x s.part) = h.mutable x in omega (arith, n, lent.mutable x);
  any = λ x. let n : (loans_at more x).any ≡ count_at (blocks_write x) vs + bit (blocks_write x s.part) = h.any x in omega (arith, n, lent.any x);
}

-- a slot has lent what its part says
pub counted_part : (vs : List Held) (slot : ℕ) (p : Piece) (loans : List Loans) → slot < length vs → p ≡ part_in vs slot → AreCounted vs loans → HasLoans loans p
counted_part vs slot p loans lt is h = subst (HasLoans loans) (sym is) record {
  mutable = λ x. omega (arith, h.mutable x, count_part (blocks_read x) vs slot lt);
  any = λ x. omega (arith, h.any x, count_part (blocks_write x) vs slot lt);
}

-- after that there is space
pub space_less : (less more : List Loans) (p : Piece) → HasSpace more → IsLent less more p → HasSpace less
space_less less more p h lent = record {
  mutable = λ x. omega (arith, h.mutable x, lent.mutable x);
  any = λ x. omega (arith, h.any x, lent.any x);
}

-- another part lends in place of the old one
pub counted_put : (vs : List Held) (slot : ℕ) (old p : Piece) (xs less ys : List Loans) → slot < length vs → old ≡ part_in vs slot → AreCounted vs xs → IsLent less xs old → IsLent less ys p → AreCounted (put_in vs slot p) ys
counted_put vs slot old p xs less ys lt is h gave lent =
    let gives : IsLent less xs (part_in vs slot) = subst (IsLent less xs) is gave in record {
      room = omega (arith, h.room, gives.same, lent.same, length_put_in vs slot p);
      mutable = λ x. omega (arith, h.mutable x, gives.mutable x, lent.mutable x, count_put (blocks_read x) vs slot p lt);
      any = λ x. omega (arith, h.any x, gives.any x, lent.any x, count_put (blocks_write x) vs slot p lt);
    }

-- a slot that is not there has lent nothing
pub outside : (loans : List Loans) (x : ℕ) → length loans ≤ x → loans_at loans x ≡ record { mutable = 0; any = 0 }
outside [] x le = refl
outside (l ∷ loans) zero le = absurd (omega arith)
outside (l ∷ loans) (suc x) le = outside loans x (omega arith)

pub not_lt : (a b : ℕ) → b ≤ a → nat_lt a b ≡ false
not_lt a b le = grind (arith, nat_tests, le)
