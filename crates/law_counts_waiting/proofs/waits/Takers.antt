-- A thread takes an object only at a mutable borrow.
use Rattle.std.proofs.Common.{◌≡◌, ℕ, zero, suc, ◌+◌, ◌-◌, ◌==◌, Bool, true, false, if◌then◌else◌, List, [], ◌∷◌, Option, Some, None, is_some, refl, sym, ap, subst, ◌∙◌, arith}
use Rattle.std.specs.Prelude.{slice_get, option_map, length}
use Rattle.law_counts_asking.specs.Below.fr_base.Lists.{last_of}
use Rattle.law_counts_asking.specs.Below.fr_base.declared.place.Lval.{Lval}
use Rattle.law_counts_asking.specs.Below.fr_base.declared.instruction.Instr.{Instr}
use Rattle.law_counts_asking.specs.Below.fr_base.declared.instruction.Instr.TheVariants as instr
use Rattle.law_counts_asking.specs.Below.heap_partition.declared.value.Cell.{Cell}
use Rattle.law_counts_asking.specs.Below.migration.Packing.{packed}
use Rattle.law_counts_asking.specs.Below.thread_state.View.{ThreadState, new_thread}
use Rattle.law_counts_asking.specs.Below.thread_state.declared.phase.Phase.{Phase}
use Rattle.law_counts_asking.specs.Below.thread_state.declared.phase.Phase.TheVariants as phase
use Rattle.law_counts_asking.specs.Below.thread_state.declared.value.Value.{Value}
use Rattle.law_counts_asking.specs.Below.thread_state.declared.value.Value.TheVariants as value
use Rattle.law_counts_asking.specs.Below.journal.View.{EntryView}
use Rattle.law_counts_asking.specs.Below.journal.declared.act.Act.TheVariants as act
use Rattle.law_counts_asking.specs.Below.server_model.declared.event.Event.{Event}
use Rattle.law_counts_asking.specs.Below.server_model.Servers.{Server, Cluster, server_at}
use Rattle.law_counts_asking.specs.Below.server_model.Work.{Work, Hand, thread_in, with_phase, working, note}
use Rattle.law_counts_asking.specs.Below.server_model.NewWords.{NewWord, issue_placed}
use Rattle.law_counts_asking.specs.Below.server_model.Places.{Spot, in_slot, on_top, value_at, set_pointer}
use Rattle.law_counts_asking.specs.Below.server_model.Prepare.{Access, ReadTo, ReadPointer, WriteTo, LendTo, EndRef, ending, assigned, read_or_taken, access_of, is_taken, passing, write_stars}
use Rattle.law_counts_asking.specs.Below.server_model.Objects.{waits_for_cell, filled, deliver_fetched, chased, waits_under, arrived_at, arrived_slot, arrived_read, passed_spot, arrived_write, arrived_lend, arrived_end, arrived, instr_access, came, deliver_moved}
use Rattle.law_counts_asking.specs.Below.server_model.Events.{Stepped, can_step, has_phase, is_ready, begin_work, received, step}
use Rattle.law_counts_asking.specs.Below.server_model.Clusters.{apply}
use Rattle.law_counts_asking.specs.Below.coherent_memory.Names.{tot, other, if_so}
use Rattle.law_counts_asking.specs.Below.coherent_memory.Things.{things_of}
use Rattle.law_counts_asking.specs.Below.coherent_memory.Follow.{Standing, threads_in}
use Rattle.law_counts_asking.specs.Below.coherent_memory.Sight.{Sight, sight}
use Rattle.law_counts_asking.specs.Below.coherent_memory.Requests.{lent_place, taken_phase, taken_there}
use Rattle.law_counts_asking.specs.Below.coherent_memory.Coherent.{IsSound}
use Rattle.law_counts_asking.specs.Below.law_counts_sums.Laws.{Gives, FewEvents}
use Rattle.law_counts_asking.proofs.Below.law_counts_sums.Results.{then_gives, map_gives, over_gives, test_gives, both_give, weaker}
use Rattle.law_counts_asking.proofs.Below.law_counts_things.things.Goes.{Goes, on, waits_pair, is_over, asks_cell, asks_home, gets_cell, gets_gift, goes_pair, AsksHome, thread_goes}
use Rattle.law_counts_asking.proofs.Below.law_counts_things.things.Handed.{Stood, InParcel}
use Rattle.law_counts_waiting.specs.waits.Taken.{off_lend, TakersLend, EachEventLeavesTakers}
use Rattle.law_counts_waiting.proofs.waits.Fates.{Fates, fated}
use Rattle.law_counts_waiting.proofs.waits.Waiting.{same_code}

-- PHASES

home_untaken : (i : Instr) (p : Phase) → AsksHome i p → is_taken p ≡ false
home_untaken (instr.Join o) (phase.WaitJoin u) a = refl
home_untaken (instr.Dup w) (phase.WaitDup m) a = refl
home_untaken (instr.Lock w) (phase.WaitLock m) a = refl
home_untaken i p a = absurd a

no_step : (p : Phase) (w : ℕ) → can_step p ≡ true → p ≡ phase.WaitCell w → ⊥
no_step p w c e = let z : can_step (phase.WaitCell w) ≡ true = subst (λ q. can_step q ≡ true) e c in absurd (cc z)

-- after its step a thread has taken nothing
pub step_untaken : {code : List Instr} {y y2 : ThreadState} → can_step y.phase ≡ true → Goes code y y2 → is_taken y2.phase ≡ false
step_untaken c (on i at o pc q passed walk g same) = ap is_taken q
step_untaken c (waits_pair cs pc ds other a b at m q passed walk g same) = ap is_taken q
step_untaken c (is_over o at pc q passed walk slots temps g same) = ap is_taken q
step_untaken c (asks_cell i w at f pc q g same) = ap is_taken q
step_untaken c (asks_home i p at a pc q g passed walk same) = ap is_taken q ∙ home_untaken i p a
step_untaken {y = y} c (gets_cell w was q pc g same) = absurd (no_step y.phase w c was)
step_untaken c (gets_gift was q pc passed walk temps shares same) = ap is_taken q
step_untaken c (goes_pair a b was q pc g passed walk same) = ap is_taken q

-- THE ACCESS OF A MUTABLE BORROW

ending_lends_none : (s : Spot) (v : Option Value) (w : Lval) → ending s v ≡ Some (LendTo w) → ⊥
ending_lends_none s None w e = absurd (cc e)
ending_lends_none s (Some (value.Mut r)) w e = absurd (cc e)
ending_lends_none s (Some (value.Own v)) w e = absurd (cc e)
ending_lends_none s (Some value.Gone) w e = absurd (cc e)
ending_lends_none s (Some (value.SharedSlot j)) w e = absurd (cc e)
ending_lends_none s (Some (value.MutSlot j)) w e = absurd (cc e)
ending_lends_none s (Some (value.Shared r)) w e = absurd (cc e)
ending_lends_none s (Some (value.Held m)) w e = absurd (cc e)

assigned_lends_none : (v : Lval) (d : ℕ) (t : ThreadState) (w : Lval) → assigned v d t ≡ Some (LendTo w) → ⊥
assigned_lends_none v zero t w e = ending_lends_none (in_slot v.slot) (slice_get t.slots v.slot) w e
assigned_lends_none v (suc d) t w e = absurd (cc e)

read_lends_none : (v : Lval) (d : ℕ) (take : Bool) (w : Lval) → Some (read_or_taken v d take) ≡ Some (LendTo w) → ⊥
read_lends_none v zero true w e = absurd (cc e)
read_lends_none v zero false w e = absurd (cc e)
read_lends_none v (suc d) true w e = absurd (cc e)
read_lends_none v (suc d) false w e = absurd (cc e)

lends_there : (i : Instr) (t : ThreadState) (w : Lval) → access_of i t ≡ Some (LendTo w) → is_some (lent_place (Some i)) ≡ true
lends_there (instr.BorrowMut v) t w e = refl
lends_there (instr.Assign v o) t w e = absurd (assigned_lends_none v v.depth t w e)
lends_there (instr.Read v take) t w e = absurd (read_lends_none v v.depth take w e)
lends_there instr.Discard t w e = absurd (ending_lends_none on_top (last_of t.temps) w e)
lends_there instr.DropSlot t w e = absurd (ending_lends_none (in_slot (length t.slots - 1)) (last_of t.slots) w e)
lends_there (instr.Borrow v) t w e = absurd (cc e)
lends_there (instr.Dup v) t w e = absurd (cc e)
lends_there (instr.Lock v) t w e = absurd (cc e)
lends_there (instr.Let o) t w e = absurd (cc e)
lends_there (instr.Box o) t w e = absurd (cc e)
lends_there (instr.Arith f a b) t w e = absurd (cc e)
lends_there (instr.Print o) t w e = absurd (cc e)
lends_there (instr.Spawn cs pc) t w e = absurd (cc e)
lends_there (instr.Join o) t w e = absurd (cc e)
lends_there (instr.Mutex o) t w e = absurd (cc e)
lends_there instr.Unlock t w e = absurd (cc e)
lends_there (instr.Par cs pc ds other) t w e = absurd (cc e)
lends_there instr.ParEnd t w e = absurd (cc e)
lends_there (instr.End o) t w e = absurd (cc e)

-- AN OBJECT COMES

module _ (code : List Instr) where
  abbrev Fine : ThreadState → Type 0
  Fine t = if_so (is_taken t.phase) (other (is_some (lent_place (slice_get code t.pc)))) ≡ 0

  abbrev FineHand : Hand → Type 0
  FineHand h = Fine h.thread

  untaken : (t : ThreadState) → is_taken t.phase ≡ false → Fine t
  untaken t e = ap (λ b. if_so b (other (is_some (lent_place (slice_get code t.pc))))) e

  at_lend : (t : ThreadState) → is_some (lent_place (slice_get code t.pc)) ≡ true → Fine t
  at_lend t e = ap (λ b. if_so (is_taken t.phase) (other b)) e ∙ by (is_taken t.phase)
    where
      by : (b : Bool) → if_so b (other true) ≡ 0
      by true = refl
      by false = refl

  got : (s : Spot) (new : ℕ) (h : Hand) → Gives FineHand (arrived_at s new h)
  got s new h = map_gives FineHand (set_pointer s new h) (with_phase phase.Got) (λ h2 q. refl)

  got_slot : (old new i : ℕ) (h : Hand) → Gives FineHand (arrived_slot old new i h)
  got_slot old new i h = test_gives FineHand (waits_under old (slice_get h.thread.slots i)) _ (λ z. got (in_slot i) new h)

  got_write : (w : Lval) (new : ℕ) (h : Hand) → Gives FineHand (arrived_write w new h)
  got_write w new h = then_gives FineHand (passed_spot (write_stars h.thread.passed 0 h (in_slot w.slot))) _ (λ s q. got s new (passing (h.thread.passed + 1) h))

  got_lend : (slot d old new : ℕ) (h : Hand) → is_some (lent_place (slice_get code h.thread.pc)) ≡ true → Gives FineHand (arrived_lend slot d old new h)
  got_lend slot zero old new h e = tt
  got_lend slot (suc zero) old new h e = at_lend (with_phase (phase.Taken new) h).thread e
  got_lend slot (suc (suc d)) old new h e = by (waits_under old (slice_get h.thread.slots (chased d h.thread.slots slot)))
    where
      by : (b : Bool) → Gives FineHand (if b then arrived_at (in_slot (chased d h.thread.slots slot)) new h else Some (with_phase (phase.Taken new) h))
      by true = got (in_slot (chased d h.thread.slots slot)) new h
      by false = at_lend (with_phase (phase.Taken new) h).thread e

  got_end : (s : Spot) (v : Option Value) (old new : ℕ) (h : Hand) → Gives FineHand (arrived_end s v old new h)
  got_end s (Some (value.Mut q)) old new h = by (q.word == old)
    where
      by : (b : Bool) → Gives FineHand (if b then arrived_at s new h else arrived_write q.holder new h)
      by true = got s new h
      by false = got_write q.holder new h
  got_end s None old new h = tt
  got_end s (Some (value.Own v)) old new h = tt
  got_end s (Some value.Gone) old new h = tt
  got_end s (Some (value.SharedSlot j)) old new h = tt
  got_end s (Some (value.MutSlot j)) old new h = tt
  got_end s (Some (value.Shared r)) old new h = tt
  got_end s (Some (value.Held m)) old new h = tt

  arrives_so : (a : Option Access) (old new : ℕ) (h : Hand) → ((w : Lval) → a ≡ Some (LendTo w) → is_some (lent_place (slice_get code h.thread.pc)) ≡ true) → Gives FineHand (arrived a old new h)
  arrives_so None old new h f = tt
  arrives_so (Some (ReadTo w)) old new h f = got_slot old new (chased (w.depth - 1) h.thread.slots w.slot) h
  arrives_so (Some (ReadPointer w)) old new h f = got_slot old new (chased (w.depth - 1) h.thread.slots w.slot) h
  arrives_so (Some (WriteTo w)) old new h f = got_write w new h
  arrives_so (Some (LendTo w)) old new h f = got_lend w.slot w.depth old new h (f w refl)
  arrives_so (Some (EndRef s)) old new h f = got_end s (value_at h s) old new h

  lends_where : (h : Hand) (o : Option Instr) (w : Lval) → instr_access h o ≡ Some (LendTo w) → is_some (lent_place o) ≡ true
  lends_where h None w e = absurd (cc e)
  lends_where h (Some i) w e = lends_there i h.thread w e

  comes_so : (v : ℕ) (c : Cell) (h : Hand) → Gives FineHand (deliver_moved code v c h)
  comes_so v c h =
      test_gives FineHand (waits_for_cell h.thread.phase v) _ (λ z.
      then_gives FineHand (issue_placed (act.Take c.object v) c h.work) _ (λ n q. arrives_so (instr_access h (slice_get code h.thread.pc)) v n.word (record h { work = n.work }) (λ w e. lends_where h (slice_get code h.thread.pc) w e)))

  copied_so : (v : ℕ) (c : Cell) (h : Hand) → Gives FineHand (deliver_fetched v c h)
  copied_so v c h = test_gives FineHand (waits_for_cell h.thread.phase v) _ (λ z. map_gives FineHand (filled v c h) _ (λ h2 q. refl))

-- THE EVENT

module _ (k : Cluster) (e : Event) (s : Server) where
  fates : Fates k.code k.options s e.what (Stood (off_lend k.code) s.rest.number) (InParcel (off_lend k.code))
  fates = record {
    steps = λ t y i is able there p code.
        weaker (λ (d : Stepped). Goes k.code y d.hand.thread) (λ (d : Stepped). Stood (off_lend k.code) s.rest.number d.hand.thread) (step k.options.servers i (record { work = begin_work s.rest; thread = y }))
        (thread_goes k.code k.options.servers i y code s.rest (record { work = begin_work s.rest; thread = y }) refl) (λ d g. untaken k.code d.hand.thread (step_untaken (subst (λ o. has_phase can_step o ≡ true) there able) g));
    comes = λ i t v c y is there here p. comes_so k.code v c (record { work = (received i s).work; thread = y });
    copied = λ i t v c y is there here p. copied_so k.code v c (record { work = (received i s).work; thread = y });
    given_it = λ t y v here p a. refl;
    paired = λ t a b y here p q. refl;
    arrives = λ t q. q;
    starts = λ t n y i u pc vs here p at d. refl;
    leaves = λ t n y here p r. untaken k.code (packed (record y { moved_since_step = true })) (ready_untaken y.phase r);
  }
    where
      ready_untaken : (p : Phase) → is_ready p ≡ true → is_taken p ≡ false
      ready_untaken phase.Ready r = refl
      ready_untaken p r = absurd (cc r)

is_there : (s : Sight) (x : Standing) (w : ℕ) (o : Option Lval) → taken_there s x w o ≡ 0 → is_some o ≡ true
is_there s x w None z = absurd (cc z)
is_there s x w (Some p) z = refl

-- before it each taker is at a borrow
lends_before : (k : Cluster) → IsSound k → TakersLend k
lends_before k sound = all (threads_in (things_of k)) sound.requests.taken_stands
  where
    one_so : (x : Standing) (p : Phase) → x.thread.phase ≡ p → taken_phase (sight k) x p ≡ 0 → off_lend k.code x ≡ 0
    one_so x (phase.Taken w) e z = at_lend k.code x.thread (is_there (sight k) x w (lent_place (slice_get k.code x.thread.pc)) z)
    one_so x phase.Ready e z = untaken k.code x.thread (ap is_taken e)
    one_so x phase.Got e z = untaken k.code x.thread (ap is_taken e)
    one_so x (phase.WaitCell w) e z = untaken k.code x.thread (ap is_taken e)
    one_so x (phase.WaitLock m) e z = untaken k.code x.thread (ap is_taken e)
    one_so x (phase.WaitDup m) e z = untaken k.code x.thread (ap is_taken e)
    one_so x (phase.WaitJoin u) e z = untaken k.code x.thread (ap is_taken e)
    one_so x (phase.WaitPar a b) e z = untaken k.code x.thread (ap is_taken e)
    one_so x (phase.GotPar a b) e z = untaken k.code x.thread (ap is_taken e)
    one_so x phase.Over e z = untaken k.code x.thread (ap is_taken e)

    all : (xs : List Standing) → tot (λ x. taken_phase (sight k) x x.thread.phase) xs ≡ 0 → tot (off_lend k.code) xs ≡ 0
    all [] z = refl
    all (x ∷ xs) z = omega (arith, one_so x x.thread.phase refl (omega (arith, z)), all xs (omega (arith, z)))

pub takers_lend : EachEventLeavesTakers
takers_lend k e sound few =
    both_give (λ (d : Cluster × EntryView). d.0.code ≡ k.code) (λ (d : Cluster × EntryView). tot (off_lend k.code) (threads_in (things_of d.0)) ≡ 0) (λ (d : Cluster × EntryView). TakersLend d.0) (apply k e) (same_code k e)
    (fated (off_lend k.code) k e sound few (lends_before k sound) (λ s here. fates k e s)) (λ d c z. subst (λ (code : List Instr). tot (off_lend code) (threads_in (things_of d.0)) ≡ 0) (sym c) z)
