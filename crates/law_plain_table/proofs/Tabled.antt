-- The table of typed threads whose code is laid out.
use Rattle.std.proofs.Common.{◌≡◌, ◌≢◌, ◌==◌, ◌⊎◌, inl, inr, ℕ, zero, suc, ◌+◌, ◌<◌, ◌≤◌, List, [], ◌∷◌, ◌++◌, Option, Some, None, refl, sym, ap, ◌∙◌, subst, arith}
use Rattle.std.specs.Prelude.{slice_get, if◌then◌else◌}
use Rattle.fr_base.specs.declared.instruction.Operand.{Operand}
use Rattle.fr_base.specs.declared.instruction.Instr.{Instr}
use Rattle.fr_base.specs.declared.instruction.Instr.TheVariants as instr
use Rattle.fr_typing.specs.Kinds.{Owned, Kind, own}
use Rattle.fr_typing.proofs.PlaceLemmas.{eq_cases}
use Rattle.fr_code.specs.CodeTypes.{Entry, going, Table, Takes}
use Rattle.fr_code.specs.Joins.{alone}
use Rattle.fr_code.specs.CodeTable.{to_next, ends, Row, IsTable}
use Rattle.law_plain_table.specs.Layout.{Rises, IsLaidOut}
use Rattle.law_plain_table.proofs.Lines.{Start, first_entry, places, AllStart, Line, stays, goes, Threads, no_thread, a_thread}
use Rattle.law_plain_table.proofs.Placed.{In, in_either, above_in, rises_join, places_join, children, join_threads, line_rises, children_rise, Waits, waits_on, waits_new, waits_before, main_waits}

-- THE ENTRIES OF A LINE

-- those of its instructions, and of the place where it ends
abbrev entry_in : {code : List Instr} {p q : ℕ} {x y : Entry} → Line code p x q y → Table
entry_in (stays {p = p} {x = x}) pc = if pc == p then Some x else None
entry_in (goes {p = p} {x = x} i ss at same types threads l) pc = if pc == p then Some x else entry_in l pc

at_test : (a b : ℕ) (x : Entry) (o : Option Entry) → a ≡ b → (if a == b then Some x else o) ≡ Some x
at_test a b x o e = eq_cases (λ t. (if t then Some x else o) ≡ Some x) a b (λ same. refl) (λ ne. absurd (ne e))

off_test : (a b : ℕ) (x : Entry) (o : Option Entry) → a ≢ b → (if a == b then Some x else o) ≡ o
off_test a b x o n = eq_cases (λ t. (if t then Some x else o) ≡ o) a b (λ e. absurd (n e)) (λ ne. refl)

-- either is at the place, or the rest is asked
tested : (A : Type 0) (a b : ℕ) (x z : Entry) (o : Option Entry) → (if a == b then Some x else o) ≡ Some z → (a ≡ b → x ≡ z → A) → (a ≢ b → o ≡ Some z → A) → A
tested A a b x z o = eq_cases (λ t. (if t then Some x else o) ≡ Some z → (a ≡ b → x ≡ z → A) → (a ≢ b → o ≡ Some z → A) → A) a b (λ same e at off. at same cc) (λ ne e at off. off ne e)

module _ (code : List Instr) where
  entry_first : {p q : ℕ} {x y : Entry} (l : Line code p x q y) → entry_in l p ≡ Some x
  entry_first (stays {p = p} {x = x}) = at_test p p x None refl
  entry_first (goes {p = p} {x = x} i ss at same types threads l) = at_test p p x (entry_in l p) refl

  entry_after : {p q : ℕ} {x y : Entry} (l : Line code p x q y) (pc : ℕ) → q < pc → entry_in l pc ≡ None
  entry_after (stays {p = p} {x = x}) pc lt = off_test pc p x None (λ e. absurd (omega (arith, e, lt)))
  entry_after (goes {p = p} {x = x} i ss at same types threads l) pc lt = let r = line_rises code l in off_test pc p x (entry_in l pc) (λ e. absurd (omega (arith, e, lt, r))) ∙ entry_after l pc lt

  entry_from : {p q : ℕ} {x y : Entry} (l : Line code p x q y) (pc : ℕ) (z : Entry) → entry_in l pc ≡ Some z → p ≤ pc
  entry_from (stays {p = p} {x = x}) pc z e = tested (p ≤ pc) pc p x z None e (λ same is. omega (arith, same)) (λ ne no. absurd cc)
  entry_from (goes {p = p} {x = x} i ss at same types threads l) pc z e = tested (p ≤ pc) pc p x z (entry_in l pc) e (λ same is. omega (arith, same)) (λ ne f. (let r = entry_from l pc z f in omega (arith, r)))

  starts_first : (table : Table) (ss us : List Start) → AllStart table (ss ++ us) → AllStart table ss
  starts_first table [] us h = tt
  starts_first table (s ∷ ss) us h = (h.0, starts_first table ss us h.1)

  starts_last : (table : Table) (ss us : List Start) → AllStart table (ss ++ us) → AllStart table us
  starts_last table [] us h = h
  starts_last table (s ∷ ss) us h = starts_last table ss us h.1

  -- a table that has the entries of a line and of the threads that it starts has a row for each of its instructions
  rows_of : (table : Table) {p q : ℕ} {x y : Entry} (l : Line code p x q y) → ((pc : ℕ) (z : Entry) → entry_in l pc ≡ Some z → table pc ≡ Some z) → AllStart table (children l) → Row code table q y → (pc : ℕ) (z : Entry) → entry_in l pc ≡ Some z → Row code table pc z
  rows_of table (stays {p = p} {x = x}) has starts end pc z e =
      tested (Row code table pc z) pc p x z None e (λ same is. subst (λ n. Row code table n z) (sym same) (subst (Row code table p) is end)) (λ ne no. absurd cc)
  rows_of table (goes {p = p} {x = x} {y = y} i ss at same types threads l) has starts end pc z e =
      tested (Row code table pc z) pc p x z (entry_in l pc) e
      (λ here is. subst (λ n. Row code table n z) (sym here) (subst (Row code table p) is (record {
        instruction = i;
        there = at;
        successors = (p + 1, y) ∷ [];
        leads = to_next (types table (starts_first table ss (children l) starts));
        enter = (record { entry = y; at = later (p + 1) y (entry_first l); joins = alone }, tt);
      })))
      (λ ne f. rows_of table l later (starts_last table ss (children l) starts) end pc z f)
    where
      later : (pc : ℕ) (z : Entry) → entry_in l pc ≡ Some z → table pc ≡ Some z
      later pc z f = let r = entry_from l pc z f in has pc z (off_test pc p x (entry_in l pc) (λ e. absurd (omega (arith, e, r))) ∙ f)

  -- THREADS IN ORDER

  abbrev mutual
    size_line : {p q : ℕ} {x y : Entry} → Line code p x q y → ℕ
    size_line stays = 0
    size_line (goes i ss at same types threads l) = size threads + size_line l

    size : {ss : List Start} → Threads code ss → ℕ
    size no_thread = 0
    size (a_thread s to l over takes ts) = suc (size_line l + size ts)

  abbrev all_threads : {p q : ℕ} {x y : Entry} (l : Line code p x q y) → Threads code (children l)
  all_threads stays = no_thread
  all_threads (goes i ss at same types threads l) = join_threads threads (all_threads l)

  size_join : {ss us : List Start} (ts : Threads code ss) (vs : Threads code us) → size (join_threads ts vs) ≡ size ts + size vs
  size_join no_thread vs = omega arith
  size_join (a_thread s to l over takes ts) vs = let r = size_join ts vs in omega (arith, r)

  size_all : {p q : ℕ} {x y : Entry} (l : Line code p x q y) → size (all_threads l) ≡ size_line l
  size_all stays = refl
  size_all (goes i ss at same types threads l) = let r = size_all l in let s = size_join threads (all_threads l) in omega (arith, r, s)

  abbrev first_of : Option Entry → Option Entry → Option Entry
  first_of (Some x) o = Some x
  first_of None o = o

  -- the entries of threads, one after another: behind each thread's those of the threads that it starts wait
  abbrev table_from : ℕ → {ss : List Start} → Threads code ss → Table
  table_from zero ts pc = None
  table_from (suc n) no_thread pc = None
  table_from (suc n) (a_thread s to l over takes ts) pc = first_of (entry_in l pc) (table_from n (join_threads ts (all_threads l)) pc)

  -- the table has the threads' first entries, and a row for each of theirs
  record Tabled (n : ℕ) {ss : List Start} (ts : Threads code ss) (table : Table) : Type 0 where
    starts : AllStart table ss
    rows : (pc : ℕ) (x : Entry) → table_from n ts pc ≡ Some x → Row code table pc x

  in_line : (a b : Option Entry) (z : Entry) → a ≡ Some z → first_of a b ≡ Some z
  in_line a b z e = ap (λ o. first_of o b) e

  in_either_part : (A : Type 0) (a b : Option Entry) (z : Entry) → first_of a b ≡ Some z → (a ≡ Some z → A) → (b ≡ Some z → A) → A
  in_either_part A None b z e line rest = rest e
  in_either_part A (Some x) b z e line rest = line e

  module _ (laid : IsLaidOut code) where
    tabled : (n : ℕ) {ss : List Start} (ts : Threads code ss) (table : Table) (c : ℕ) → size ts ≤ n → Rises (places ss) → ((m : ℕ) → In m (places ss) → Waits code laid c m) → ((pc : ℕ) → c ≤ pc → table pc ≡ table_from n ts pc) → Tabled n ts table
    tabled zero no_thread table c few rises waits same = record { starts = tt; rows = λ pc x e. absurd cc }
    tabled zero (a_thread s to l over takes ts) table c few rises waits same = absurd (omega (arith, few))
    tabled (suc n) no_thread table c few rises waits same = record { starts = tt; rows = λ pc x e. absurd cc }
    tabled (suc n) (a_thread {ss = ss} {ts = kinds} {o = o} s to l over takes ts) table c few rises waits same =
        let rest : Tabled n (join_threads ts (all_threads l)) table = tabled n (join_threads ts (all_threads l)) table (to + 1) fewer order later agrees in
        record {
          starts = (has s.at (first_entry s) (entry_first l), starts_first table ss (children l) rest.starts);
          rows = λ pc x e. in_either_part (Row code table pc x) (entry_in l pc) (table_from n (join_threads ts (all_threads l)) pc) x e (rows_of table l has (starts_last table ss (children l) rest.starts) end pc x) (rest.rows pc x);
        }
      where
        mine : Waits code laid c s.at
        mine = waits s.at (inl refl)

        has : (pc : ℕ) (z : Entry) → entry_in l pc ≡ Some z → table pc ≡ Some z
        has pc z e = let r = entry_from l pc z e in let a = mine.above in same pc (omega (arith, r, a)) ∙ in_line (entry_in l pc) (table_from n (join_threads ts (all_threads l)) pc) z e

        end : Row code table to (going [] kinds s.gives)
        end = record { instruction = instr.End o; there = over; successors = []; leads = ends takes; enter = tt }

        order : Rises (places (ss ++ children l))
        order = subst Rises (sym (places_join ss (children l))) (rises_join (places ss) (places (children l)) rises.1 (children_rise code laid l) (λ m k a b. waits_before code laid m k l (waits m (inr a)) mine.above b))

        later : (m : ℕ) → In m (places (ss ++ children l)) → Waits code laid (to + 1) m
        later m i = by (in_either m (places ss) (places (children l)) (subst (In m) (places_join ss (children l)) i))
          where
            by : In m (places ss) ⊎ In m (places (children l)) → Waits code laid (to + 1) m
            by (inl a) = waits_on code laid m l (waits m (inr a)) mine.above (above_in s.at m (places ss) rises.0 a)
            by (inr b) = waits_new code laid m l mine b

        agrees : (pc : ℕ) → to + 1 ≤ pc → table pc ≡ table_from n (join_threads ts (all_threads l)) pc
        agrees pc le =
            let r = line_rises code l in
            let a = mine.above in
            same pc (omega (arith, r, a, le)) ∙ ap (λ z. first_of z (table_from n (join_threads ts (all_threads l)) pc)) (entry_after l pc (omega (arith, le)))

        fewer : size (join_threads ts (all_threads l)) ≤ n
        fewer = let j = size_join ts (all_threads l) in let k = size_all l in omega (arith, few, j, k)

    -- main's thread, with all that it starts
    pub has_table : (g : Owned) {ts : List Kind} {o : Operand} (to : ℕ) → Line code 0 (going [] [] g) to (going [] ts g) → slice_get code to ≡ Some (instr.End o) → Takes o ts (own g) [] → (table : Table) × (is : IsTable code table) × (is.main ≡ g)
    has_table g to l over takes =
        let main = a_thread (record { at = 0; env = []; gives = g }) to l over takes no_thread in
        let table = table_from (size main) main in
        let all = tabled (size main) main table 0 (omega arith) (tt, tt) (λ m i. at_zero m i) (λ pc le. refl) in
        (table, record { main = g; starts = all.starts.0; rows = all.rows }, refl)
      where
        at_zero : (m : ℕ) → In m (0 ∷ []) → Waits code laid 0 m
        at_zero m (inl e) = subst (Waits code laid 0) (sym e) (main_waits code laid)
        at_zero m (inr i) = absurd i
