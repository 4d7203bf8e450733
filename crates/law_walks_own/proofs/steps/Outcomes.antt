-- How a step ends: it is done, and its thread goes on, is over or waits for a pair; or something was asked for on its way; or what its place leads to was asked of a home.
use Rattle.std.proofs.Common.{◌≡◌, ℕ, true, false, List, [], Option, Some, None, refl, sym, subst}
use Rattle.std.specs.Prelude.{option_map}
use Rattle.std.specs.Bool.{⊤}
use Rattle.law_walks_others.specs.Below.fr_base.declared.name.MutexNo.{MutexNo}
use Rattle.law_walks_others.specs.Below.fr_base.declared.place.Lval.{Lval}
use Rattle.law_walks_others.specs.Below.fr_base.declared.step.Fresh.{Fresh}
use Rattle.law_walks_others.specs.Below.fr_base.declared.step.Fresh.TheVariants as fresh
use Rattle.law_walks_others.specs.Below.fr_base.declared.instruction.Instr.{Instr}
use Rattle.law_walks_others.specs.Below.fr_base.declared.instruction.Instr.TheVariants as instr
use Rattle.law_walks_others.specs.Below.fr_base.declared.instruction.Operand.{Operand}
use Rattle.law_walks_others.specs.Below.heap_partition.declared.value.Owned.{Owned}
use Rattle.law_walks_others.specs.Below.migration.Packing.{unpin_all}
use Rattle.law_walks_others.specs.Below.read_cache.Cache.{Copy}
use Rattle.law_walks_others.specs.Below.thread_state.declared.phase.Phase.{Phase}
use Rattle.law_walks_others.specs.Below.thread_state.declared.phase.Phase.TheVariants as phase
use Rattle.law_walks_others.specs.Below.thread_state.declared.value.Value.{Value}
use Rattle.law_walks_others.specs.Below.server_model.Work.{Hand, then_some, with_phase, pop, pop_owned, task_of, with_cache}
use Rattle.law_walks_others.specs.Below.server_model.Start.{next_thread, capture}
use Rattle.law_walks_others.specs.Below.server_model.Places.{Spot}
use Rattle.law_walks_others.specs.Below.server_model.Prepare.{Prepared, ready, requested, nothing, access_of, prepare}
use Rattle.law_walks_others.specs.Below.server_model.Commit.{Committed, done, waits, refused, done_where, go_on, waiting, ask_join, join, pair_begun, par_with, mutex_at, ask_dup, dup, ask_lock, lock, commit}
use Rattle.law_walks_others.specs.Below.server_model.Events.{Stepped, done_step, wait_step, committed, prepared, step}

-- ready at its next instruction, over, or waiting for a pair
abbrev pub IsCalm : Phase → Type 0
IsCalm phase.Ready = ⊤
IsCalm phase.Over = ⊤
IsCalm (phase.WaitPar a b) = ⊤
IsCalm p = ⊥

-- a request to a home, from a hand whose place is ready
pub data AsksHome (i : Instr) (h : Hand) : Hand → Type 0 where
  a_lock : (w : Lval) (m : MutexNo) → i ≡ instr.Lock w → AsksHome i h (ask_lock h m)
  a_dup : (w : Lval) (m : MutexNo) → i ≡ instr.Dup w → AsksHome i h (ask_dup h m)
  a_join : (o : Operand) (u : ℕ) → i ≡ instr.Join o → AsksHome i h (ask_join h u)

-- what a plain step comes to
abbrev Comes : Instr → Hand → Committed → Type 0
Comes i h (done names h2) = IsCalm h2.thread.phase
Comes i h (waits h2) = AsksHome i h h2
Comes i h refused = ⊤

goes_calm : (i : Instr) (h : Hand) (names : Fresh) (o : Option Hand) → Comes i h (done_where names (option_map go_on o))
goes_calm i h names None = tt
goes_calm i h names (Some h2) = tt

ends_calm : (i : Instr) (h : Hand) (o : Option Hand) → Comes i h (done_where fresh.None (option_map (with_phase phase.Over) o))
ends_calm i h None = tt
ends_calm i h (Some h2) = tt

pairs_calm : (i : Instr) (h : Hand) (names : Fresh) (servers pc other a b : ℕ) (first : List Value × List Value) (o : Option (List Value × List Value)) → Comes i h (done_where names (then_some o (par_with servers pc other a b h first.0)))
pairs_calm i h names servers pc other a b first None = tt
pairs_calm i h names servers pc other a b first (Some second) = by (pair_begun h a b)
  where
    by : (o : Option Hand)
        → Comes i h (done_where names (option_map (λ h2. with_phase (phase.WaitPar a b) (go_on (Rattle.law_walks_others.specs.Below.server_model.Work.working (λ w. Rattle.law_walks_others.specs.Below.server_model.Start.start_thread servers other second.0 (Rattle.law_walks_others.specs.Below.server_model.Start.start_thread servers pc first.0 w)) (Rattle.law_walks_others.specs.Below.server_model.Work.with_slots second.1 h2)))) o))
    by None = tt
    by (Some h2) = tt

par_calm : (i : Instr) (h : Hand) (names : Fresh) (servers pc other a b : ℕ) (f : List Value × List Value → Option (List Value × List Value)) (o : Option (List Value × List Value))
    → Comes i h (done_where names (then_some o (λ first. then_some (f first) (par_with servers pc other a b h first.0))))
par_calm i h names servers pc other a b f None = tt
par_calm i h names servers pc other a b f (Some first) = pairs_calm i h names servers pc other a b first (f first)

locks_wait : (w : Lval) (h : Hand) (o : Option MutexNo) → Comes (instr.Lock w) h (waiting (option_map (ask_lock h) o))
locks_wait w h None = tt
locks_wait w h (Some m) = a_lock w m refl

dups_wait : (w : Lval) (h : Hand) (o : Option MutexNo) → Comes (instr.Dup w) h (waiting (option_map (ask_dup h) o))
dups_wait w h None = tt
dups_wait w h (Some m) = a_dup w m refl

joins_wait : (p : Operand) (h : Hand) (o : Option ℕ) → Comes (instr.Join p) h (waiting (option_map (ask_join h) o))
joins_wait p h None = tt
joins_wait p h (Some u) = a_join p u refl

join_comes : (h : Hand) (o : Operand) (g : Option Owned) → Comes (instr.Join o) h (join o g h)
join_comes h o None = joins_wait o h (then_some (pop o h) (λ t. task_of t.item))
join_comes h o (Some v) = goes_calm (instr.Join o) h fresh.None _

dup_comes : (w : Lval) (h : Hand) (s : Spot) (g : Option Owned) → Comes (instr.Dup w) h (dup s g h)
dup_comes w h s None = dups_wait w h (mutex_at h s)
dup_comes w h s (Some v) = goes_calm (instr.Dup w) h fresh.None _

lock_comes : (w : Lval) (h : Hand) (s : Spot) (g : Option Owned) → Comes (instr.Lock w) h (lock s g h)
lock_comes w h s None = locks_wait w h (mutex_at h s)
lock_comes w h s (Some v) = goes_calm (instr.Lock w) h fresh.None _

comes : (servers : ℕ) (i : Instr) (s : Spot) (h : Hand) → Comes i h (commit servers i s h)
comes servers (instr.Let o) s h = goes_calm (instr.Let o) h fresh.None _
comes servers (instr.Assign w o) s h = goes_calm (instr.Assign w o) h fresh.None _
comes servers (instr.Read w take) s h = goes_calm (instr.Read w take) h fresh.None _
comes servers (instr.Borrow w) s h = goes_calm (instr.Borrow w) h fresh.None _
comes servers (instr.BorrowMut w) s h = goes_calm (instr.BorrowMut w) h fresh.None _
comes servers (instr.Box o) s h = goes_calm (instr.Box o) h fresh.None _
comes servers (instr.Arith f a b) s h = goes_calm (instr.Arith f a b) h fresh.None _
comes servers (instr.Print o) s h = goes_calm (instr.Print o) h fresh.None _
comes servers instr.Discard s h = goes_calm instr.Discard h fresh.None _
comes servers instr.DropSlot s h = goes_calm instr.DropSlot h fresh.None _
comes servers (instr.Spawn cs pc) s h = goes_calm (instr.Spawn cs pc) h _ _
comes servers (instr.Join o) s h = join_comes h o h.thread.gift
comes servers (instr.Mutex o) s h = goes_calm (instr.Mutex o) h _ _
comes servers (instr.Dup w) s h = dup_comes w h s h.thread.gift
comes servers (instr.Lock w) s h = lock_comes w h s h.thread.gift
comes servers instr.Unlock s h = goes_calm instr.Unlock h fresh.None _
comes servers (instr.Par cs pc ds other) s h = par_calm (instr.Par cs pc ds other) h _ servers pc other _ _ (λ first. capture true ds.items first.1) (capture true cs.items h.thread.slots)
comes servers instr.ParEnd s h = goes_calm instr.ParEnd h fresh.None _
comes servers (instr.End o) s h = ends_calm (instr.End o) h _

-- HOW A STEP ENDS

pub data Outcome (i : Instr) (h0 : Hand) (d : Stepped) : Type 0 where
  is_done : IsCalm d.hand.thread.phase → Outcome i h0 d
  has_asked : (h : Hand) → prepare (access_of i h0.thread) h0 ≡ requested h → d ≡ wait_step h → Outcome i h0 d
  asks_home : (h h2 : Hand) (s : Spot) → prepare (access_of i h0.thread) h0 ≡ ready h s → AsksHome i h h2 → d ≡ wait_step h2 → Outcome i h0 d

some_step : {a b : Stepped} → Some a ≡ Some b → b ≡ a
some_step e = cc

pub outcome : (servers : ℕ) (i : Instr) (h0 : Hand) (d : Stepped) → step servers i h0 ≡ Some d → Outcome i h0 d
outcome servers i h0 d e = by (prepare (access_of i h0.thread) h0) refl e
  where
    settled : (names : Fresh) (h2 : Hand) → IsCalm h2.thread.phase → (l : Option (List Copy))
        → option_map (done_step names) (option_map (λ cs. record { work = with_cache cs h2.work; thread = record h2.thread { passed = 0; walk = []; moved_since_step = false } }) l) ≡ Some d → Outcome i h0 d
    settled names h2 c None f = absurd (cc f)
    settled names h2 c (Some cs) f = is_done (subst (λ (x : Stepped). IsCalm x.hand.thread.phase) (sym (some_step f)) c)

    by_commit : (h : Hand) (s : Spot) → prepare (access_of i h0.thread) h0 ≡ ready h s → (c : Committed) → Comes i h c → committed c ≡ Some d → Outcome i h0 d
    by_commit h s q (done names h2) c f = settled names h2 c (unpin_all h2.thread.walk h2.work.rest.cache) f
    by_commit h s q (waits h2) c f = asks_home h h2 s q c (some_step f)
    by_commit h s q refused c f = absurd (cc f)

    by : (p : Prepared) → prepare (access_of i h0.thread) h0 ≡ p → prepared servers i p ≡ Some d → Outcome i h0 d
    by (ready h s) q f = by_commit h s q (commit servers i s h) (comes servers i s h) f
    by (requested h) q f = has_asked h q (some_step f)
    by nothing q f = absurd (cc f)
