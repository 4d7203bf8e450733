-- A lock that takes its gift puts the mark of the mutex at its place into its thread's slots, and one without a gift leaves them.
use Rattle.std.proofs.Common.{◌≡◌, ℕ, ◌+◌, false, List, [], ◌∷◌, ◌++◌, Option, Some, None, refl, sym, ap, subst, ◌∙◌, arith}
use Rattle.std.specs.Prelude.{option_map}
use Rattle.law_counts_waiting.specs.Below.fr_base.declared.place.Lval.{Lval}
use Rattle.law_counts_waiting.specs.Below.fr_base.declared.name.MutexNo.{MutexNo}
use Rattle.law_counts_waiting.specs.Below.fr_base.declared.instruction.Instr.{Instr}
use Rattle.law_counts_waiting.specs.Below.fr_base.declared.instruction.Instr.TheVariants as instr
use Rattle.law_counts_waiting.specs.Below.fr_base.declared.step.Fresh.TheVariants as fresh
use Rattle.law_counts_waiting.specs.Below.fr_typing.Kinds.{Owned as OwnedType, own, mutex, whole}
use Rattle.law_counts_waiting.specs.Below.fr_store.Below.{ExactOf}
use Rattle.law_counts_waiting.specs.Below.fr_store.Keys.{slot_k}
use Rattle.law_counts_waiting.specs.Below.heap_partition.declared.value.Owned.{Owned}
use Rattle.law_counts_waiting.specs.Below.heap_partition.declared.value.Owned.TheVariants as owned
use Rattle.law_counts_waiting.specs.Below.migration.Packing.{unpin_all}
use Rattle.law_counts_waiting.specs.Below.read_cache.Cache.{Copy}
use Rattle.law_counts_waiting.specs.Below.thread_state.View.{ThreadState}
use Rattle.law_counts_waiting.specs.Below.thread_state.declared.value.Value.{Value}
use Rattle.law_counts_waiting.specs.Below.thread_state.declared.value.Value.TheVariants as value
use Rattle.law_counts_waiting.specs.Below.server_model.Servers.{Server, Cluster}
use Rattle.law_counts_waiting.specs.Below.server_model.Work.{Hand, mutex_of, then_some, with_cache}
use Rattle.law_counts_waiting.specs.Below.server_model.Places.{Spot, in_slot, load_at}
use Rattle.law_counts_waiting.specs.Below.server_model.Prepare.{Prepared, ready, requested, nothing, read_stars, access_of}
use Rattle.law_counts_waiting.specs.Below.server_model.Commit.{waiting, go_on, goes_on, take_gift, ask_lock, push_content, mutex_at, lock}
use Rattle.law_counts_waiting.specs.Below.server_model.Events.{Stepped, begin_work, done_step, committed, prepared, step}
use Rattle.law_counts_waiting.specs.Below.coherent_memory.Names.{tot}
use Rattle.law_counts_waiting.specs.Below.coherent_memory.Things.{Location}
use Rattle.law_counts_waiting.specs.Below.coherent_memory.Follow.{Standing, Ground, value_in, value_behind, locate}
use Rattle.law_counts_waiting.specs.Below.coherent_memory.Sight.{sight}
use Rattle.law_counts_waiting.specs.Below.coherent_memory.Requests as requests
use Rattle.law_counts_waiting.specs.Below.coherent_memory.Sharing.{some_mutex}
use Rattle.law_counts_waiting.proofs.Below.law_words_paths.paths.Sole.{some_is}
use Rattle.law_counts_waiting.specs.Below.law_counts_sums.Laws.{Gives}
use Rattle.law_counts_waiting.proofs.Below.law_heap_still.events.Readied.{IsPlaced}
use Rattle.law_counts_waiting.proofs.Below.law_heap_still.events.Prepares.{prepare_shows, Fine as Shows}
use Rattle.law_counts_waiting.proofs.Below.law_counts_things.things.Small.{Made}
use Rattle.law_counts_waiting.proofs.Below.law_results_reads.Known.{Steps, goes, paths, standing, entry, typed, types}
use Rattle.law_counts_waiting.proofs.Below.law_results_reads.Followed.{Place}
use Rattle.law_counts_waiting.proofs.Below.law_results_reads.Reading.{Alike, equal, both_shared, Reading}
use Rattle.law_counts_waiting.proofs.Below.law_results_reads.Starred.{bound, At, seen, Fine}
use Rattle.law_counts_waiting.proofs.Below.law_results_reads.Found.{stands_so, no_hole}
use Rattle.law_counts_waiting.proofs.Below.law_results_reads.Readers.{IsReadable, readable_place, stars_fine, never_taken, to_entry}
use Rattle.law_counts_waiting.specs.Below.law_counts_asking.Standing.{locked}
use Rattle.law_counts_waiting.proofs.Below.law_counts_asking.GiftsGot.{readable_lock}
use Rattle.law_counts_waiting.proofs.contents.Weigh.{mark}
use Rattle.law_counts_waiting.proofs.contents.Marks.{push_sum}
use Rattle.law_counts_waiting.proofs.contents.Slots.{ready_held}
use Rattle.law_counts_waiting.proofs.contents.Says.{F, L, prepares}

-- a value that is alike has the same mutex
alike_mutex : (m : MutexNo) (u v : Value) → Alike u v → mutex_of u ≡ Some m → requests.mutex_of (Some v) ≡ Some m
alike_mutex m _ _ (both_shared q r a b) e = absurd (cc e)
alike_mutex m (value.Own (owned.Mutex n)) _ equal e = e
alike_mutex m (value.Own (owned.Box p)) _ equal e = absurd (cc e)
alike_mutex m (value.Own owned.Nothing) _ equal e = absurd (cc e)
alike_mutex m (value.Own owned.Unit) _ equal e = absurd (cc e)
alike_mutex m (value.Own (owned.Int i)) _ equal e = absurd (cc e)
alike_mutex m (value.Own (owned.Task t)) _ equal e = absurd (cc e)
alike_mutex m value.Gone _ equal e = absurd (cc e)
alike_mutex m (value.SharedSlot j) _ equal e = absurd (cc e)
alike_mutex m (value.MutSlot j) _ equal e = absurd (cc e)
alike_mutex m (value.Shared q) _ equal e = absurd (cc e)
alike_mutex m (value.Mut q) _ equal e = absurd (cc e)
alike_mutex m (value.Held n) _ equal e = absurd (cc e)

module _ (k : Cluster) (n t : ℕ) (s : Server) (y : ThreadState) (w : Lval) (z : Steps k n t s y (instr.Lock w)) (placed : IsPlaced (record { work = begin_work s.rest; thread = y })) (c : MutexNo → ℕ) where
  abbrev i : Instr
  i = instr.Lock w

  abbrev h0 : Hand
  h0 = record { work = begin_work s.rest; thread = y }

  abbrev G : Ground
  G = (sight k).ground

  abbrev x : Standing
  x = standing k n t s y i z

  abbrev held : Hand → ℕ
  held h = tot (mark c) h.thread.slots

  -- the mutex at its place
  abbrev pub its_mutex : Option MutexNo
  its_mutex = locked G y.number (Some (instr.Lock w))

  -- its place is read
  reads : (o : OwnedType) × IsReadable (entry k n t s y i z) w (own (mutex o))
  reads =
      let at = typed k n t s y i z in
      let to = to_entry (types k n t s y i z).table y.pc (entry k n t s y i z) i at.0 at.1 (λ o e. cc) in
      readable_lock (types k n t s y i z).table (entry k n t s y i z) to.0 w to.1

  -- where that leads
  its_place : (p : Place k (paths k n t s y i z) x false w) × ExactOf (slot_k y.number) (paths k n t s y i z).types.typing.exact (whole (own (mutex reads.0))) p.type
  its_place = readable_place k (paths k n t s y i z) x (goes k n t s y i z) w (own (mutex reads.0)) reads.1

  -- each star of it is followed
  fine : Fine k n t s y i z w.slot w.depth (read_stars w.depth h0 (in_slot w.slot))
  fine = stars_fine k n t s y i z false w its_place.0 reads.1.has.short w.depth (omega arith) (never_taken k n t s y i z (λ p e. cc) false w its_place.0)

  -- what is found where the place is ready stands at the place
  is_there : (h : Hand) (sp : Spot) (l : Location) → locate G y.number w.slot w.depth ≡ Some l → At k n t s y i z sp l → Reading y s.rest (bound k n t s y i z) w.depth h → (m : MutexNo) → mutex_at h sp ≡ Some m → its_mutex ≡ Some m
  is_there h sp l located spot a m e =
      let r = stands_so k (paths k n t s y i z) x (goes k n t s y i z) false w its_place.0.base its_place.0.boxes its_place.0.type its_place.0.unmarked its_place.0.resolves (no_hole k (paths k n t s y i z) x (goes k n t s y i z) (own (mutex reads.0)) its_place.0.type its_place.1) in
      let same : r.0 ≡ l = some_is (sym r.2 ∙ located) in
      let stands : value_in G l ≡ Some r.1 = ap (value_in G) (sym same) ∙ r.3 in
      let u = seen k n t s y i z w.depth h sp l r.1 a spot stands in
      let found : mutex_of u.0 ≡ Some m = sym (ap (λ b. then_some b mutex_of) u.1) ∙ e in
      ap (λ b. requests.mutex_of (value_behind G b)) located ∙ ap requests.mutex_of stands ∙ alike_mutex m u.0 r.1 u.2 found

  -- nothing is said on the way but a request
  silent : Made (F s.rest y) (L s.rest y) (read_stars w.depth h0 (in_slot w.slot))
  silent = prepares s.rest y (access_of (instr.Lock w) y) h0 (record { inbox_same = refl; outbox_same = refl; mutexes_same = refl; gift_same = refl })

  -- and the thread shows what it showed
  shows : Shows h0 (read_stars w.depth h0 (in_slot w.slot))
  shows = prepare_shows h0 (access_of (instr.Lock w) y) placed

  -- WITH A GIFT

  -- once the gift is gone the mark is there
  abbrev pub Marked : Stepped → Type 0
  Marked d = d.hand.thread.gift ≡ None → held d.hand ≡ tot (mark c) y.slots + some_mutex c its_mutex

  -- where the place is ready the mark comes
  takes : (sp : Spot) (v : Owned) (h : Hand) → held h ≡ tot (mark c) y.slots → ((m : MutexNo) → mutex_at h sp ≡ Some m → its_mutex ≡ Some m) → Gives Marked (committed (lock sp (Some v) h))
  takes sp v h e there = by (mutex_at h sp) there
    where
      settles : (m : MutexNo) → its_mutex ≡ Some m → (l : Option (List Copy))
          → Gives Marked (option_map (done_step fresh.None) (option_map (λ cs. record { work = with_cache cs (go_on (push_content v (load_at sp (take_gift h)) m)).work; thread = record (go_on (push_content v (load_at sp (take_gift h)) m)).thread { passed = 0; walk = []; moved_since_step = false } }) l))
      settles m f None = tt
      settles m f (Some cs) = λ bare. omega (arith, e, ap (some_mutex c) f, push_sum c h.thread.slots (value.Held m), push_sum c (h.thread.slots ++ value.Held m ∷ []) (value.Own v))

      by : (o : Option MutexNo) → ((m : MutexNo) → o ≡ Some m → its_mutex ≡ Some m) → Gives Marked (committed (goes_on (option_map (push_content v (load_at sp (take_gift h))) o)))
      by None f = tt
      by (Some m) f = settles m (f m refl) (unpin_all h.thread.walk h.work.rest.cache)

  -- the step of a lock with a gift
  pub with_gift : (servers : ℕ) (v : Owned) → y.gift ≡ Some v → Gives Marked (step servers (instr.Lock w) h0)
  with_gift servers v given = by (read_stars w.depth h0 (in_slot w.slot)) fine silent shows
    where
      by : (p : Prepared) → Fine k n t s y i z w.slot w.depth p → Made (F s.rest y) (L s.rest y) p → Shows h0 p → Gives Marked (prepared servers (instr.Lock w) p)
      by (ready h sp) f g sh =
          subst (λ o. Gives Marked (committed (lock sp o h))) (sym (g.gift_same ∙ given)) (takes sp v h (ready_held c h0 h sh.0) (is_there h sp f.0 f.1 f.2 f.3))
      by (requested h) f g sh = λ bare. (let none : None ≡ Some v = sym bare ∙ g.gift_same ∙ given in absurd (cc none))
      by nothing f g sh = tt

  -- WITHOUT ONE

  abbrev pub Kept : Stepped → Type 0
  Kept d = held d.hand ≡ tot (mark c) y.slots

  -- where the place is ready the content is asked for
  asks : (sp : Spot) (h : Hand) → held h ≡ tot (mark c) y.slots → Gives Kept (committed (lock sp None h))
  asks sp h e = by (mutex_at h sp)
    where
      by : (o : Option MutexNo) → Gives Kept (committed (waiting (option_map (ask_lock h) o)))
      by None = tt
      by (Some m) = e

  -- the step of a lock without one
  pub without_gift : (servers : ℕ) → y.gift ≡ None → ((h : Hand) → read_stars w.depth h0 (in_slot w.slot) ≡ requested h → held h ≡ tot (mark c) y.slots) → Gives Kept (step servers (instr.Lock w) h0)
  without_gift servers bare asked = by (read_stars w.depth h0 (in_slot w.slot)) refl silent shows
    where
      by : (p : Prepared) → read_stars w.depth h0 (in_slot w.slot) ≡ p → Made (F s.rest y) (L s.rest y) p → Shows h0 p → Gives Kept (prepared servers (instr.Lock w) p)
      by (ready h sp) e g sh = subst (λ o. Gives Kept (committed (lock sp o h))) (sym (g.gift_same ∙ bare)) (asks sp h (ready_held c h0 h sh.0))
      by (requested h) e g sh = asked h e
      by nothing e g sh = tt
