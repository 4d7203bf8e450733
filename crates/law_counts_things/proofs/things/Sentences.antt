-- The sentences that a thread keeps whatever its values are.
use Rattle.std.proofs.Common.{◌≡◌, ℕ, ◌==◌, ◌&&◌, not, nat_le, Bool, true, false, List, [], length, Option, Some, None, refl, sym, ap, subst, ◌∙◌, arith}
use Rattle.std.specs.Prelude.{slice_get}
use Rattle.std.proofs.lemmas.Bool.{eq-eqb}
use Rattle.std.proofs.lemmas.Bool.Decides.{nat_tests}
use Rattle.law_counts_sums.specs.Below.fr_base.declared.instruction.Instr.{Instr}
use Rattle.law_counts_sums.specs.Below.fr_base.declared.instruction.Instr.TheVariants as instr
use Rattle.law_counts_sums.specs.Below.thread_state.View.{ThreadState}
use Rattle.law_counts_sums.specs.Below.thread_state.declared.phase.Phase.{Phase}
use Rattle.law_counts_sums.specs.Below.thread_state.declared.phase.Phase.TheVariants as phase
use Rattle.law_counts_sums.specs.Below.server_model.Servers.{Server, Cluster, server_at}
use Rattle.law_counts_sums.specs.Below.server_model.Work.{thread_in}
use Rattle.law_counts_sums.specs.Below.server_model.Prepare.{access_of}
use Rattle.law_counts_sums.specs.Below.server_model.Events.{is_ready}
use Rattle.law_counts_sums.specs.Below.coherent_memory.Names.{one, other, if_so}
use Rattle.law_counts_sums.specs.Below.coherent_memory.Follow.{Standing}
use Rattle.law_counts_sums.specs.Below.coherent_memory.Sight.{sight}
use Rattle.law_counts_sums.specs.Below.coherent_memory.Paths.{path_of, written_place}
use Rattle.law_counts_sums.specs.Below.coherent_memory.Requests.{home_of}
use Rattle.law_counts_sums.specs.Below.coherent_memory.Sharing.{other_home}
use Rattle.law_counts_sums.specs.Below.coherent_memory.Walking.{is_join, in_walk, walks_not, early, still_walks, busy_parcel, hop_count, too_far, in_turn, not_asked, out_of_turn, turn_wrong}
use Rattle.law_counts_sums.specs.Below.coherent_memory.Walking as walking
use Rattle.law_counts_sums.specs.Below.coherent_memory.Coherent.{IsSound, join_walks_nothing, parcels_ready, passed_in_a_walk, thread_homes, walk_empty}
use Rattle.law_counts_sums.proofs.Below.coherent_memory.Turn.{turn_law}
use Rattle.law_counts_things.specs.things.Laws.{EachEventKeeps}
use Rattle.law_counts_things.proofs.things.Small.{Follows}
use Rattle.law_counts_things.proofs.things.Goes.{Same, AsksHome, Joins, HasCell, Goes, on, waits_pair, is_over, asks_cell, asks_home, gets_cell, gets_gift, goes_pair}
use Rattle.law_counts_things.proofs.things.Handed.{ThreadsKeep, threads_keep, standing, known}

-- HOMES

same_of : (code : List Instr) (y y2 : ThreadState) → Goes code y y2 → Same y y2
same_of code y y2 (on i at o pc p passed walk g s) = s
same_of code y y2 (waits_pair cs pc ds other a b at q p passed walk g s) = s
same_of code y y2 (is_over o at pc p passed walk slots temps g s) = s
same_of code y y2 (asks_cell i w at f pc p g s) = s
same_of code y y2 (asks_home i q at a pc p g passed walk s) = s
same_of code y y2 (gets_cell w was p pc g s) = s
same_of code y y2 (gets_gift was p pc passed walk temps shares s) = s
same_of code y y2 (goes_pair a b was p pc g passed walk s) = s

self_none : (n : ℕ) → other (n == n) ≡ 0
self_none n = ap other (eq-eqb n n refl)

homes_keep : ThreadsKeep IsSound (λ code. other_home)
homes_keep = record {
  before = λ k sound. sound.mutexes_and_tasks.thread_homes;
  control = λ k number s sound few here. record {
    goes = λ t y y2 there p g.
        let same = same_of k.code y y2 g in
        subst (λ h. other (h == home_of y2.number) ≡ 0) (sym same.home) (subst (λ n. other (y.home == home_of n) ≡ 0) (sym same.number) p);
    arrives = λ t q. q;
    starts = λ t n y i u pc vs there p e at. self_none (home_of u);
    leaves = λ t n y there p r. p;
  };
}

pub homes_kept : EachEventKeeps thread_homes
homes_kept = threads_keep IsSound (λ k sound. sound) (λ code. other_home) homes_keep

-- PARCELS

is_ready_too : (p : Phase) → is_ready p ≡ true → other (walking.is_ready p) ≡ 0
is_ready_too phase.Ready e = refl
is_ready_too p e = absurd (cc e)

parcels_keep : ThreadsKeep IsSound (λ code. busy_parcel)
parcels_keep = record {
  before = λ k sound. sound.walks.parcels_ready;
  control = λ k number s sound few here. record {
    goes = λ t y y2 there p g. refl;
    arrives = λ t q. refl;
    starts = λ t n y i u pc vs there p e at. refl;
    leaves = λ t n y there p r. is_ready_too y.phase r;
  };
}

pub parcels_kept : EachEventKeeps parcels_ready
parcels_kept = threads_keep IsSound (λ k sound. sound) (λ code. busy_parcel) parcels_keep

-- JOINS

abbrev at_join : List Instr → Standing → ℕ
at_join code x = if_so (is_join (slice_get code x.thread.pc)) (length x.thread.walk)

if_zero : (b : Bool) → if_so b 0 ≡ 0
if_zero true = refl
if_zero false = refl

-- an instruction that follows a place is no join
not_join : (i : Instr) (y : ThreadState) (n : ℕ) → Follows (access_of i y) → if_so (is_join (Some i)) n ≡ 0
not_join (instr.Join o) y n f = absurd f
not_join i y n f = refl

module _ (code : List Instr) (y y2 : ThreadState) where
  abbrev Still : ThreadState → Type 0
  Still t = if_so (is_join (slice_get code t.pc)) (length t.walk) ≡ 0

  emptied : y2.walk ≡ [] → Still y2
  emptied e = subst (λ l. if_so (is_join (slice_get code y2.pc)) (length l) ≡ 0) (sym e) (if_zero (is_join (slice_get code y2.pc)))

  -- at the same instruction
  at_same : (i : Instr) → slice_get code y.pc ≡ Some i → y2.pc ≡ y.pc → if_so (is_join (Some i)) (length y2.walk) ≡ 0 → Still y2
  at_same i at pc z = subst (λ n. if_so (is_join (slice_get code n)) (length y2.walk) ≡ 0) (sym pc) (subst (λ o. if_so (is_join o) (length y2.walk) ≡ 0) (sym at) z)

  with_same : y2.pc ≡ y.pc → y2.walk ≡ y.walk → Still y → Still y2
  with_same pc walk p = subst (λ n. if_so (is_join (slice_get code n)) (length y2.walk) ≡ 0) (sym pc) (subst (λ l. if_so (is_join (slice_get code y.pc)) (length l) ≡ 0) (sym walk) p)

  asks_joined : (i : Instr) → slice_get code y.pc ≡ Some i → (Joins i → y2.walk ≡ y.walk) → Still y → if_so (is_join (Some i)) (length y2.walk) ≡ 0
  asks_joined i at walk p = by i walk (subst (λ o. if_so (is_join o) (length y.walk) ≡ 0) at p)
    where
      by : (j : Instr) → (Joins j → y2.walk ≡ y.walk) → if_so (is_join (Some j)) (length y.walk) ≡ 0 → if_so (is_join (Some j)) (length y2.walk) ≡ 0
      by (instr.Join o) walk z = ap length (walk tt) ∙ z
      by j walk z = refl

-- who waits for an object or a copy isn't at a join
module _ (k : Cluster) (sound : IsSound k) (number : ℕ) (s : Server) (here : server_at k.servers number ≡ Some s) (t : ℕ) (y : ThreadState) (there : thread_in s.threads t ≡ Some y) where
  abbrev me : Standing
  me = standing k sound number s here t y there

  in_turn_none : out_of_turn (sight k) me y.phase ≡ 0
  in_turn_none = known k sound number s here t y there (λ x. out_of_turn (sight k) x x.thread.phase) (turn_law.none_counted (sight k) sound.walks.wait_in_turn)

  waits_no_join : (w n : ℕ) → y.phase ≡ phase.WaitCell w → if_so (is_join (slice_get k.code y.pc)) n ≡ 0
  waits_no_join w n e = by (slice_get k.code y.pc) (subst (λ p. out_of_turn (sight k) me p ≡ 0) e in_turn_none)
    where
      by : (o : Option Instr) → not_asked (sight k) me w (in_turn (sight k) me w (path_of o y)) ≡ 0 → if_so (is_join o) n ≡ 0
      by None z = refl
      by (Some (instr.Join o)) z = absurd (cc z)
      by (Some i) z = refl

  join_goes : (y2 : ThreadState) → Still k.code y y2 y → Goes k.code y y2 → Still k.code y y2 y2
  join_goes y2 p (on i at o pc q passed walk g same) = emptied k.code y y2 walk
  join_goes y2 p (waits_pair cs pc ds other a b at m q passed walk g same) = emptied k.code y y2 walk
  join_goes y2 p (is_over o at pc q passed walk slots temps g same) = emptied k.code y y2 walk
  join_goes y2 p (asks_cell i w at f pc q g same) = at_same k.code y y2 i at pc (not_join i y (length y2.walk) f)
  join_goes y2 p (asks_home i m at a pc q g passed walk same) = at_same k.code y y2 i at pc (asks_joined k.code y y2 i at walk p)
  join_goes y2 p (gets_cell w was q pc g same) = subst (λ n. if_so (is_join (slice_get k.code n)) (length y2.walk) ≡ 0) (sym pc) (waits_no_join w (length y2.walk) was)
  join_goes y2 p (gets_gift was q pc passed walk temps shares same) = with_same k.code y y2 pc walk p
  join_goes y2 p (goes_pair a b was q pc g passed walk same) = with_same k.code y y2 pc walk p

joins_keep : ThreadsKeep IsSound at_join
joins_keep = record {
  before = λ k sound. sound.walks.join_walks_nothing;
  control = λ k number s sound few here. record {
    goes = λ t y y2 there p g. join_goes k sound number s here t y there y2 p g;
    arrives = λ t q. q;
    starts = λ t n y i u pc vs there p e at. if_zero (is_join (slice_get k.code pc));
    leaves = λ t n y there p r. if_zero (is_join (slice_get k.code y.pc));
  };
}

pub joins_kept : EachEventKeeps join_walks_nothing
joins_kept = threads_keep IsSound (λ k sound. sound) at_join joins_keep

-- WALKS

abbrev Empty : Phase → List ℕ → Type 0
Empty p walk = if_so (walks_not p) (length walk) ≡ 0

empty_by : (p q : Phase) (walk : List ℕ) → q ≡ p → Empty p walk → Empty q walk
empty_by p q walk e z = subst (λ r. Empty r walk) (sym e) z

empty_now : (p : Phase) (walk : List ℕ) → walk ≡ [] → Empty p walk
empty_now p walk e = subst (λ l. Empty p l) (sym e) (if_zero (walks_not p))

has_cell : (p : Phase) (walk : List ℕ) → HasCell p → Empty p walk
has_cell phase.Got walk h = refl
has_cell (phase.Taken w) walk h = refl
has_cell p walk h = absurd h

-- a request of a join leaves the walk, which is empty there
asks_empty : (i : Instr) (p : Phase) (old walk : List ℕ) → AsksHome i p → (Joins i → walk ≡ old) → if_so (is_join (Some i)) (length old) ≡ 0 → Empty p walk
asks_empty (instr.Join o) p old walk a same z = by (length walk) (ap length (same tt) ∙ z)
  where
    by : (n : ℕ) → n ≡ 0 → if_so (walks_not p) n ≡ 0
    by n e = subst (λ m. if_so (walks_not p) m ≡ 0) (sym e) (if_zero (walks_not p))
asks_empty (instr.Dup w) (phase.WaitDup m) old walk a same z = refl
asks_empty (instr.Lock w) (phase.WaitLock m) old walk a same z = refl
asks_empty (instr.Dup w) p old walk a same z = by p a
  where
    by : (q : Phase) → AsksHome (instr.Dup w) q → Empty q walk
    by (phase.WaitDup m) b = refl
    by q b = absurd b
asks_empty (instr.Lock w) p old walk a same z = by p a
  where
    by : (q : Phase) → AsksHome (instr.Lock w) q → Empty q walk
    by (phase.WaitLock m) b = refl
    by q b = absurd b
asks_empty i p old walk a same z = absurd a

module _ (k : Cluster) (sound : IsSound k) (number : ℕ) (s : Server) (here : server_at k.servers number ≡ Some s) (t : ℕ) (y : ThreadState) (there : thread_in s.threads t ≡ Some y) where
  no_walk : (i : Instr) → slice_get k.code y.pc ≡ Some i → if_so (is_join (Some i)) (length y.walk) ≡ 0
  no_walk i at = subst (λ o. if_so (is_join o) (length y.walk) ≡ 0) at (known k sound number s here t y there (at_join k.code) sound.walks.join_walks_nothing)

  walk_goes : (y2 : ThreadState) → Empty y.phase y.walk → Goes k.code y y2 → Empty y2.phase y2.walk
  walk_goes y2 p (on i at o pc q passed walk g same) = empty_now y2.phase y2.walk walk
  walk_goes y2 p (waits_pair cs pc ds other a b at m q passed walk g same) = empty_now y2.phase y2.walk walk
  walk_goes y2 p (is_over o at pc q passed walk slots temps g same) = empty_now y2.phase y2.walk walk
  walk_goes y2 p (asks_cell i w at f pc q g same) = empty_by (phase.WaitCell w) y2.phase y2.walk q refl
  walk_goes y2 p (asks_home i m at a pc q g passed walk same) = empty_by m y2.phase y2.walk q (asks_empty i m y.walk y2.walk a walk (no_walk i at))
  walk_goes y2 p (gets_cell w was q pc g same) = has_cell y2.phase y2.walk q
  walk_goes y2 p (gets_gift was q pc passed walk temps shares same) = empty_by phase.Got y2.phase y2.walk q refl
  walk_goes y2 p (goes_pair a b was q pc g passed walk same) =
      empty_by (phase.GotPar a b) y2.phase y2.walk q (subst (λ l. length l ≡ 0) (sym walk) (subst (λ r. Empty r y.walk) was p))

walks_keep : ThreadsKeep IsSound (λ code. still_walks)
walks_keep = record {
  before = λ k sound. sound.walks.walk_empty;
  control = λ k number s sound few here. record {
    goes = λ t y y2 there p g. walk_goes k sound number s here t y there y2 p g;
    arrives = λ t q. q;
    starts = λ t n y i u pc vs there p e at. refl;
    leaves = λ t n y there p r. if_zero (walks_not y.phase);
  };
}

pub walks_kept : EachEventKeeps walk_empty
walks_kept = threads_keep IsSound (λ k sound. sound) (λ code. still_walks) walks_keep

-- HOPS THAT ARE PASSED

abbrev Early : Phase → ℕ → Type 0
Early p n = one (not (in_walk p) && not (n == 0)) ≡ 0

early_by : (p q : Phase) (n : ℕ) → q ≡ p → Early p n → Early q n
early_by p q n e z = subst (λ r. Early r n) (sym e) z

none_passed : (p : Phase) (n : ℕ) → n ≡ 0 → Early p n
none_passed p n e = subst (λ m. Early p m) (sym e) (by (in_walk p))
  where
    by : (b : Bool) → one (not b && false) ≡ 0
    by true = refl
    by false = refl

cell_passed : (p : Phase) (n : ℕ) → HasCell p → Early p n
cell_passed phase.Got n h = refl
cell_passed (phase.Taken w) n h = refl
cell_passed p n h = absurd h

module _ (k : Cluster) (sound : IsSound k) (number : ℕ) (s : Server) (here : server_at k.servers number ≡ Some s) (t : ℕ) (y : ThreadState) (there : thread_in s.threads t ≡ Some y) where
  -- where a home is asked nothing is written, so nothing is passed
  asks_passed : (i : Instr) (p : Phase) → slice_get k.code y.pc ≡ Some i → AsksHome i p → y.passed ≡ 0
  asks_passed i p at a = by i a (subst (λ o. other (nat_le y.passed (hop_count (written_place (path_of o y)))) ≡ 0) at (known k sound number s here t y there (too_far (sight k)) sound.walks.passed_within))
    where
      nothing : (b : Bool) → nat_le y.passed 0 ≡ b → other b ≡ 0 → y.passed ≡ 0
      nothing true e z = grind (arith, nat_tests, e)
      nothing false e z = absurd (cc z)

      by : (j : Instr) → AsksHome j p → other (nat_le y.passed (hop_count (written_place (path_of (Some j) y)))) ≡ 0 → y.passed ≡ 0
      by (instr.Join o) b z = nothing (nat_le y.passed 0) refl z
      by (instr.Dup w) b z = nothing (nat_le y.passed 0) refl z
      by (instr.Lock w) b z = nothing (nat_le y.passed 0) refl z
      by j b z = absurd b

  passed_goes : (y2 : ThreadState) → Early y.phase y.passed → Goes k.code y y2 → Early y2.phase y2.passed
  passed_goes y2 p (on i at o pc q passed walk g same) = none_passed y2.phase y2.passed passed
  passed_goes y2 p (waits_pair cs pc ds other a b at m q passed walk g same) = none_passed y2.phase y2.passed passed
  passed_goes y2 p (is_over o at pc q passed walk slots temps g same) = none_passed y2.phase y2.passed passed
  passed_goes y2 p (asks_cell i w at f pc q g same) = early_by (phase.WaitCell w) y2.phase y2.passed q refl
  passed_goes y2 p (asks_home i m at a pc q g passed walk same) = none_passed y2.phase y2.passed (passed ∙ asks_passed i m at a)
  passed_goes y2 p (gets_cell w was q pc g same) = cell_passed y2.phase y2.passed q
  passed_goes y2 p (gets_gift was q pc passed walk temps shares same) = early_by phase.Got y2.phase y2.passed q refl
  passed_goes y2 p (goes_pair a b was q pc g passed walk same) =
      early_by (phase.GotPar a b) y2.phase y2.passed q (subst (λ n. Early (phase.GotPar a b) n) (sym passed) (subst (λ r. Early r y.passed) was p))

passed_keep : ThreadsKeep IsSound (λ code. early)
passed_keep = record {
  before = λ k sound. sound.walks.passed_in_a_walk;
  control = λ k number s sound few here. record {
    goes = λ t y y2 there p g. passed_goes k sound number s here t y there y2 p g;
    arrives = λ t q. q;
    starts = λ t n y i u pc vs there p e at. refl;
    leaves = λ t n y there p r. p;
  };
}

pub passed_kept : EachEventKeeps passed_in_a_walk
passed_kept = threads_keep IsSound (λ k sound. sound) (λ code. early) passed_keep
