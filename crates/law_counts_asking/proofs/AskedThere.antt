-- What a lock or a dup asks for is the mutex at its place.
use Rattle.std.proofs.Common.{◌≡◌, ℕ, false, Option, Some, None, option_map, refl, sym, ap, subst, ◌∙◌, arith}
use Rattle.std.specs.Bool.{⊤}
use Rattle.law_results_reads.specs.Below.fr_base.declared.place.Lval.{Lval}
use Rattle.law_results_reads.specs.Below.fr_base.declared.name.MutexNo.{MutexNo}
use Rattle.law_results_reads.specs.Below.fr_base.declared.instruction.Instr.{Instr}
use Rattle.law_results_reads.specs.Below.fr_base.declared.instruction.Instr.TheVariants as instr
use Rattle.law_results_reads.specs.Below.fr_typing.Kinds.{own, mutex, whole}
use Rattle.law_results_reads.specs.Below.fr_store.Below.{ExactOf}
use Rattle.law_results_reads.specs.Below.fr_store.Keys.{slot_k}
use Rattle.law_results_reads.specs.Below.heap_partition.declared.value.Owned.TheVariants as owned
use Rattle.law_results_reads.specs.Below.thread_state.View.{ThreadState}
use Rattle.law_results_reads.specs.Below.thread_state.declared.phase.Phase.{Phase}
use Rattle.law_results_reads.specs.Below.thread_state.declared.phase.Phase.TheVariants as phase
use Rattle.law_results_reads.specs.Below.thread_state.declared.value.Value.{Value}
use Rattle.law_results_reads.specs.Below.thread_state.declared.value.Value.TheVariants as value
use Rattle.law_results_reads.specs.Below.server_model.Servers.{Rest, Server, Cluster}
use Rattle.law_results_reads.specs.Below.server_model.Work.{Hand, mutex_of, then_some}
use Rattle.law_results_reads.specs.Below.server_model.Places.{Spot, in_slot, value_at}
use Rattle.law_results_reads.specs.Below.server_model.Prepare.{ReadTo, Prepared, ready, requested, nothing, read_stars}
use Rattle.law_results_reads.specs.Below.server_model.Commit.{ask_dup, ask_lock, waiting, mutex_at, dup, lock, commit}
use Rattle.law_results_reads.specs.Below.server_model.Events.{Stepped, begin_work, wait_step, committed, prepared, step}
use Rattle.law_results_reads.specs.Below.coherent_memory.Things.{Location}
use Rattle.law_results_reads.specs.Below.coherent_memory.Follow.{Standing, Ground, value_in, value_behind, locate}
use Rattle.law_results_reads.specs.Below.coherent_memory.Sight.{sight}
use Rattle.law_results_reads.specs.Below.coherent_memory.Requests as requests
use Rattle.law_results_reads.specs.Below.law_counts_sums.Laws.{Gives}
use Rattle.law_counts_things.proofs.things.Small.{Of, Small, Made, prepare_makes}
use Rattle.law_results_reads.proofs.Known.{Steps, goes, paths, standing, hand, entry, typed, types}
use Rattle.law_results_reads.proofs.Followed.{Place}
use Rattle.law_results_reads.proofs.Reading.{Alike, equal, both_shared, Reading}
use Rattle.law_results_reads.proofs.Starred.{bound, At, seen, Fine}
use Rattle.law_results_reads.proofs.Found.{stands_so, no_hole}
use Rattle.law_results_reads.proofs.Readers.{IsReadable, readable_place, stars_fine, never_taken, to_entry}
use Rattle.law_counts_asking.proofs.GiftsGot.{readable_dup, readable_lock}

-- A REQUEST OF A PLACE

abbrev IsCell : Phase → Type 0
IsCell (phase.WaitCell w) = ⊤
IsCell p = ⊥

abbrev Calls : Rest → ThreadState → Type 0
Calls r t = IsCell t.phase

-- of other hands nothing is told
anything : (o : Option Hand) → Gives (Of (λ (r : Rest) (t : ThreadState). ⊤)) o
anything None = tt
anything (Some h) = tt

-- what a small step asks for is a copy or an object
calls : Small (λ (r : Rest) (t : ThreadState). ⊤) Calls (λ (v : Value). ⊤) (λ (w : ℕ). ⊤)
calls = record {
  places = record { spot = λ s v h g e. tt; puts = λ s v h z a g. anything (Rattle.law_results_reads.specs.Below.server_model.Places.put_at s v h); worded = λ w v new x a e. tt; word_of = λ r a. tt; points = λ v p a e. tt };
  tints = λ p h a g e. tt;
  renews = λ p h a g e. (tt, tt);
  pinned = λ r a. tt;
  pins = λ w h e g. tt;
  uses = λ w h e g. tt;
  asks_copy = λ p h a e g. tt;
  asks_object = λ p h a e g. tt;
}

-- THE MUTEX AT A PLACE

-- a value that is alike has the same mutex
alike_mutex : (m : MutexNo) (u v : Value) → Alike u v → mutex_of u ≡ Some m → requests.mutex_of (Some v) ≡ Some m
alike_mutex m _ _ (both_shared q r a b) e = absurd (cc e)
alike_mutex m (value.Own (owned.Mutex n)) _ equal e = e
alike_mutex m (value.Own (owned.Box p)) _ equal e = absurd (cc e)
alike_mutex m (value.Own owned.Nothing) _ equal e = absurd (cc e)
alike_mutex m (value.Own owned.Unit) _ equal e = absurd (cc e)
alike_mutex m (value.Own (owned.Int i)) _ equal e = absurd (cc e)
alike_mutex m (value.Own (owned.Task t)) _ equal e = absurd (cc e)
alike_mutex m value.Gone _ equal e = absurd (cc e)
alike_mutex m (value.SharedSlot j) _ equal e = absurd (cc e)
alike_mutex m (value.MutSlot j) _ equal e = absurd (cc e)
alike_mutex m (value.Shared q) _ equal e = absurd (cc e)
alike_mutex m (value.Mut q) _ equal e = absurd (cc e)
alike_mutex m (value.Held n) _ equal e = absurd (cc e)

-- the mutex that its phase names stands at the place
abbrev pub AsksLock : Ground → ℕ → Lval → Stepped → Type 0
AsksLock g n w d = (m : MutexNo) → d.hand.thread.phase ≡ phase.WaitLock m → requests.mutex_of (Rattle.law_results_reads.specs.Below.coherent_memory.Follow.value_at g n w) ≡ Some m

abbrev pub AsksDup : Ground → ℕ → Lval → Stepped → Type 0
AsksDup g n w d = (m : MutexNo) → d.hand.thread.phase ≡ phase.WaitDup m → requests.mutex_of (Rattle.law_results_reads.specs.Below.coherent_memory.Follow.value_at g n w) ≡ Some m

module _ (k : Cluster) (n t : ℕ) (s : Server) (y : ThreadState) (i : Instr) (z : Steps k n t s y i) (bare : y.gift ≡ None) where
  abbrev G : Ground
  G = (sight k).ground

  abbrev x : Standing
  x = standing k n t s y i z

  abbrev Reads : ℕ → Hand → Type 0
  Reads d h = Reading y s.rest (bound k n t s y i z) d h

  module _ (w : Lval) (o : Rattle.law_results_reads.specs.Below.fr_typing.Kinds.Owned) (may : IsReadable (entry k n t s y i z) w (own (mutex o))) (lends_none : (p : Lval) → i ≡ instr.BorrowMut p → ⊥) where
    its_place : (p : Place k (paths k n t s y i z) x false w) × ExactOf (slot_k y.number) (paths k n t s y i z).types.typing.exact (whole (own (mutex o))) p.type
    its_place = readable_place k (paths k n t s y i z) x (goes k n t s y i z) w (own (mutex o)) may

    fine : Fine k n t s y i z w.slot w.depth (read_stars w.depth (hand k n t s y i z) (in_slot w.slot))
    fine = stars_fine k n t s y i z false w its_place.0 may.has.short w.depth (omega arith) (never_taken k n t s y i z lends_none false w its_place.0)

    -- what is found where the place is ready stands at the place
    is_there : (h : Hand) (sp : Spot) (l : Location) → locate G y.number w.slot w.depth ≡ Some l → At k n t s y i z sp l → Reads w.depth h → (m : MutexNo) → mutex_at h sp ≡ Some m → requests.mutex_of (Rattle.law_results_reads.specs.Below.coherent_memory.Follow.value_at G y.number w) ≡ Some m
    is_there h sp l located spot a m e =
        let r = stands_so k (paths k n t s y i z) x (goes k n t s y i z) false w its_place.0.base its_place.0.boxes its_place.0.type its_place.0.unmarked its_place.0.resolves (no_hole k (paths k n t s y i z) x (goes k n t s y i z) (own (mutex o)) its_place.0.type its_place.1) in
        let same : r.0 ≡ l = some_is (sym r.2 ∙ located) in
        let stands : value_in G l ≡ Some r.1 = ap (value_in G) (sym same) ∙ r.3 in
        let u = seen k n t s y i z w.depth h sp l r.1 a spot stands in
        let its_mutex : mutex_of u.0 ≡ Some m = sym (ap (λ b. then_some b mutex_of) u.1) ∙ e in
        ap (λ b. requests.mutex_of (value_behind G b)) located ∙ ap requests.mutex_of stands ∙ alike_mutex m u.0 r.1 u.2 its_mutex
      where
        some_is : {X : Type 0} {a b : X} → Some a ≡ Some b → a ≡ b
        some_is e = cc

    -- where a place is ready the step asks for that, and before that for an object
    asks_by : (servers : ℕ) (P : Stepped → Type 0) → ((h : Hand) → IsCell h.thread.phase → P (wait_step h))
        → ((h : Hand) (sp : Spot) → h.thread.gift ≡ None → ((m : MutexNo) → mutex_at h sp ≡ Some m → requests.mutex_of (Rattle.law_results_reads.specs.Below.coherent_memory.Follow.value_at G y.number w) ≡ Some m) → Gives P (committed (commit servers i sp h)))
        → Gives P (prepared servers i (read_stars w.depth (hand k n t s y i z) (in_slot w.slot)))
    asks_by servers P cell go = by (read_stars w.depth (hand k n t s y i z) (in_slot w.slot)) fine (prepare_makes (Some (ReadTo w)) (hand k n t s y i z) (λ f. calls) (λ f. absurd f) tt)
      where
        by : (p : Prepared) → Fine k n t s y i z w.slot w.depth p → Made (λ (r : Rest) (t : ThreadState). ⊤) Calls p → Gives P (prepared servers i p)
        by (ready h sp) f c = let reading = f.3 in go h sp (reading.gift ∙ bare) (is_there h sp f.0 f.1 f.2 f.3)
        by (requested h) f c = cell h c
        by nothing f c = tt

-- WHAT IS ASKED

-- a lock asks for the mutex at its spot
locks : (sp : Spot) (h : Hand) (P : Stepped → Type 0) → h.thread.gift ≡ None → ((m : MutexNo) → mutex_at h sp ≡ Some m → P (wait_step (ask_lock h m))) → Gives P (committed (lock sp h.thread.gift h))
locks sp h P e f = subst (λ g. Gives P (committed (lock sp g h))) (sym e) (by (mutex_at h sp) f)
  where
    by : (o : Option MutexNo) → ((m : MutexNo) → o ≡ Some m → P (wait_step (ask_lock h m))) → Gives P (committed (waiting (option_map (ask_lock h) o)))
    by None g = tt
    by (Some m) g = g m refl

-- so does a dup
dups : (sp : Spot) (h : Hand) (P : Stepped → Type 0) → h.thread.gift ≡ None → ((m : MutexNo) → mutex_at h sp ≡ Some m → P (wait_step (ask_dup h m))) → Gives P (committed (dup sp h.thread.gift h))
dups sp h P e f = subst (λ g. Gives P (committed (dup sp g h))) (sym e) (by (mutex_at h sp) f)
  where
    by : (o : Option MutexNo) → ((m : MutexNo) → o ≡ Some m → P (wait_step (ask_dup h m))) → Gives P (committed (waiting (option_map (ask_dup h) o)))
    by None g = tt
    by (Some m) g = g m refl

-- who waits for a cell waits for no lock
cell_locks : (p : Phase) (m : MutexNo) → IsCell p → p ≡ phase.WaitLock m → ⊥
cell_locks p m c e = subst IsCell e c

-- nor for a share
cell_dups : (p : Phase) (m : MutexNo) → IsCell p → p ≡ phase.WaitDup m → ⊥
cell_dups p m c e = subst IsCell e c

-- the mutex of a phase
same_locked : {m n : MutexNo} → phase.WaitLock m ≡ phase.WaitLock n → m ≡ n
same_locked e = cc

-- and of the other one
same_dupped : {m n : MutexNo} → phase.WaitDup m ≡ phase.WaitDup n → m ≡ n
same_dupped e = cc

module _ (k : Cluster) (n t : ℕ) (s : Server) (y : ThreadState) where
  -- the step of a lock without a gift
  pub lock_asks : (w : Lval) → Steps k n t s y (instr.Lock w) → y.gift ≡ None → Gives (AsksLock (sight k).ground y.number w) (step k.options.servers (instr.Lock w) (record { work = begin_work s.rest; thread = y }))
  lock_asks w z bare =
      let i = instr.Lock w in
      let at = typed k n t s y i z in
      let to = to_entry (types k n t s y i z).table y.pc (entry k n t s y i z) i at.0 at.1 (λ o e. cc) in
      let q = readable_lock (types k n t s y i z).table (entry k n t s y i z) to.0 w to.1 in
      asks_by k n t s y i z bare w q.0 q.1 (λ p e. cc) k.options.servers (AsksLock (sight k).ground y.number w) (λ h c m e. absurd (cell_locks h.thread.phase m c e))
      (λ h sp e found. locks sp h (AsksLock (sight k).ground y.number w) e (λ m there j f. found j (there ∙ ap Some (same_locked f))))

  -- the step of a dup without a gift
  pub dup_asks : (w : Lval) → Steps k n t s y (instr.Dup w) → y.gift ≡ None → Gives (AsksDup (sight k).ground y.number w) (step k.options.servers (instr.Dup w) (record { work = begin_work s.rest; thread = y }))
  dup_asks w z bare =
      let i = instr.Dup w in
      let at = typed k n t s y i z in
      let to = to_entry (types k n t s y i z).table y.pc (entry k n t s y i z) i at.0 at.1 (λ o e. cc) in
      let q = readable_dup (types k n t s y i z).table (entry k n t s y i z) to.0 w to.1 in
      asks_by k n t s y i z bare w q.0 q.1 (λ p e. cc) k.options.servers (AsksDup (sight k).ground y.number w) (λ h c m e. absurd (cell_dups h.thread.phase m c e))
      (λ h sp e found. dups sp h (AsksDup (sight k).ground y.number w) e (λ m there j f. found j (there ∙ ap Some (same_dupped f))))
