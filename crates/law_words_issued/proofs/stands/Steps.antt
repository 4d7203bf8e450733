-- A step whose place is ready as it is, and that makes nothing new, keeps the words that fit, and the addresses.
use Rattle.std.proofs.Common.{◌≡◌, ℕ, ◌+◌, ◌-◌, not, Bool, true, false, List, [], ◌∷◌, ◌++◌, Option, Some, None, refl, sym, subst, arith}
use Rattle.std.specs.Prelude.{option_map}
use Rattle.law_walks_own.specs.Below.fr_base.declared.instruction.Instr.{Instr}
use Rattle.law_walks_own.specs.Below.heap_partition.declared.value.Owned.{Owned}
use Rattle.law_walks_own.specs.Below.law_walks_others.Below.owner_box.View.{PartitionState}
use Rattle.law_walks_own.specs.Below.law_walks_others.Below.read_cache.Cache.{Copy, users}
use Rattle.law_walks_own.specs.Below.migration.Packing.{unpin_all}
use Rattle.law_walks_own.specs.Below.thread_state.View.{ThreadState, is_over}
use Rattle.law_walks_own.specs.Below.thread_state.declared.phase.Phase.{Phase}
use Rattle.law_walks_own.specs.Below.thread_state.declared.phase.Phase.TheVariants as phase
use Rattle.law_walks_own.specs.Below.thread_state.declared.value.Value.{Value}
use Rattle.law_walks_own.specs.Below.thread_state.declared.value.Value.TheVariants as value
use Rattle.law_walks_own.specs.Below.server_msgs.declared.message.Message.{Message}
use Rattle.law_walks_own.specs.Below.server_msgs.declared.message.Message.TheVariants as message
use Rattle.law_walks_own.specs.Below.server_model.Servers.{Rest}
use Rattle.law_walks_own.specs.Below.server_model.Work.{Hand, sent_from, with_cache, with_phase, front_of}
use Rattle.law_walks_own.specs.Below.server_model.Drop.{home_of, give_up}
use Rattle.law_walks_own.specs.Below.server_model.Places.{Spot}
use Rattle.law_walks_own.specs.Below.server_model.Prepare.{ready, access_of, prepare}
use Rattle.law_walks_own.specs.Below.server_model.Commit.{Committed, done, waits, refused, go_on, end_with, label_dropped, commit}
use Rattle.law_walks_own.specs.Below.server_model.Events.{done_step, committed, prepared, step}
use Rattle.law_walks_own.specs.Below.coherent_memory.Placing.{phase_word}
use Rattle.law_walks_own.specs.Below.coherent_memory.Naming.{phase_thread}
use Rattle.law_walks_own.specs.Below.coherent_memory.Sharing.{phase_mutex}
use Rattle.law_walks_own.proofs.Below.coherent_memory.Names.{if_none}
use Rattle.law_walks_own.specs.Below.law_counts_sums.Laws.{Gives}
use Rattle.law_walks_own.proofs.Below.law_counts_sums.Known.{all_append, all_take}
use Rattle.law_walks_own.proofs.Below.law_counts_things.things.Small.{Of}
use Rattle.law_walks_own.proofs.Below.law_counts_things.things.Plainly.{Settles, moves_by, Acts, Ends, EndsStep, commits}
use Rattle.law_walks_own.proofs.Below.law_counts_things.names.Fit.{OwnedFits, Fits, TempFits, WordFits, owned_temp, ThreadBody, ThreadFits, MessageFits, unpinned_fit, Base}
use Rattle.law_walks_own.proofs.Below.law_counts_things.names.Middle.{second_fits, shared_fits, lent_fits}
use Rattle.law_words_issued.specs.stands.Issuing.{MakesNone}
use Rattle.law_words_issued.proofs.stands.Words.{only}
use Rattle.law_words_issued.proofs.stands.Hands.{Kept, F, places, says_fits, with_copies, gives_up, spot_fits, slots_put, temps_put, gifted, used}

-- what became of the plain step, once what its thread used is let go
committing : (E : Rest → ThreadState → Type 0) (c : Committed) → Ends E c → Gives (EndsStep E) (committed c)
committing E (done names h) a = by (unpin_all h.thread.walk h.work.rest.cache) refl
  where
    by : (o : Option (List Copy)) → unpin_all h.thread.walk h.work.rest.cache ≡ o
        → Gives (EndsStep E) (option_map (done_step names) (option_map (λ cs. record { work = with_cache cs h.work; thread = record h.thread { passed = 0; walk = []; moved_since_step = false } }) o))
    by None q = tt
    by (Some cs) q = a cs q
committing E (waits h) a = a
committing E refused a = tt

module _ (g : ℕ → ℕ) (b : Base) (p : PartitionState) (n : ℕ) (i : Instr) (y : ThreadState) (none : MakesNone i) where
  abbrev G : Rest → ThreadState → Type 0
  G = F (only g) b p y

  abbrev pub E : Rest → ThreadState → Type 0
  E r t = Kept (only g) b p r × ThreadFits (only g) t

  -- it waits, or is ready for the next step
  at_phase : (q : Phase) (t : ThreadState) → phase_word g q + phase_thread (λ u. 0) q + phase_mutex (λ m. 0) q ≡ 0 → ThreadBody (only g) t → ThreadFits (only g) (record t { phase = q })
  at_phase q t a f = (
    record { named = refl; made_so = refl; waits = a; given = f.given; walks = f.walks; slots_fit = f.slots_fit; temps_fit = f.temps_fit },
    if_none (not (is_over q)) 0 refl,
  )

  asks_for : (t : ℕ) (m : Message) (q : Phase) (h : Hand) → MessageFits (only g) t m → phase_word g q + phase_thread (λ u. 0) q + phase_mutex (λ x. 0) q ≡ 0 → Of G h → E (sent_from h.work.rest t m) (record h.thread { phase = q })
  asks_for t m q h a z k = let mine = k.1 in (says_fits (only g) b p t m h.work.rest a k.0, at_phase q h.thread z mine.fit)

  settled : (h : Hand) → Kept (only g) b p h.work.rest → ThreadFits (only g) h.thread → Settles E h
  settled h a t cs q =
      let rest = a.0 in
      let f = t.0 in (
        with_copies (only g) b p cs h.work.rest (unpinned_fit (only g) h.thread.walk h.work.rest.cache cs q rest.copies) a,
        (record { named = refl; made_so = refl; waits = f.waits; given = f.given; walks = tt; slots_fit = f.slots_fit; temps_fit = f.temps_fit }, t.1),
      )

  goes : (h : Hand) → Of G h → Settles E (go_on h)
  goes h k = let mine = k.1 in settled (go_on h) k.0 (at_phase phase.Ready h.thread refl mine.fit)

  ends : (main : Bool) (v : Owned) (h : Hand) → OwnedFits (only g) v → Of G h → Gives (λ h2. Settles E (with_phase phase.Over h2)) (end_with main v h)
  ends true v h a k =
      let mine = k.1 in
      let h2 : Hand = record { work = give_up v (label_dropped (value.Own v) h).work; thread = record h.thread { phase = phase.Over } } in
      settled h2 (gives_up (only g) b p v (label_dropped (value.Own v) h).work a k.0) (at_phase phase.Over h.thread refl mine.fit)
  ends false v h a k =
      let mine = k.1 in
      let h2 : Hand = record { work = record h.work { rest = sent_from h.work.rest h.thread.home (message.Finished h.thread.number v) }; thread = record h.thread { phase = phase.Over } } in
      settled h2 (says_fits (only g) b p h.thread.home (message.Finished h.thread.number v) h.work.rest (omega (arith, a)) k.0) (at_phase phase.Over h.thread refl mine.fit)

  acts : Acts n G E (Fits (only g)) (TempFits (only g)) (WordFits (only g)) i
  acts = record {
    places = places (only g) b p y;
    number = λ m. refl;
    unit_value = refl;
    nothing_value = refl;
    gone = refl;
    owned_temp = owned_temp (only g);
    shared_slot = λ j. refl;
    mutable_slot = λ j. refl;
    second = second_fits (only g);
    shared = shared_fits (only g);
    lent = λ q d e z v u h a k c. let mine = k.1 in let fit = mine.fit in let waits = fit.waits in lent_fits (only g) h.thread.phase (record q { depth = d }) v u (omega (arith, waits)) refl a c;
    off_temps = λ h k. let mine = k.1 in let fit = mine.fit in temps_put (only g) b p y (front_of h.thread.temps) h (all_take (TempFits (only g)) _ h.thread.temps fit.temps_fit) k;
    off_slots = λ h k. let mine = k.1 in let fit = mine.fit in slots_put (only g) b p y (front_of h.thread.slots) h (all_take (Fits (only g)) _ h.thread.slots fit.slots_fit) k;
    on_temps = λ v h a k. let mine = k.1 in let fit = mine.fit in temps_put (only g) b p y (h.thread.temps ++ v ∷ []) h (all_append (TempFits (only g)) h.thread.temps (v ∷ []) fit.temps_fit (a, tt)) k;
    on_slots = λ v h a k. let mine = k.1 in let fit = mine.fit in slots_put (only g) b p y (h.thread.slots ++ v ∷ []) h (all_append (Fits (only g)) h.thread.slots (v ∷ []) fit.slots_fit (a, tt)) k;
    gives = λ v h a k. (gives_up (only g) b p v h.work a k.0, k.1);
    unpins = λ u h e k. used (only g) b p y u (users h.work.rest.cache u - 1) h k;
    gift = λ v h e k. let mine = k.1 in let fit = mine.fit in (subst (Gives (OwnedFits (only g))) e fit.given, gifted (only g) b p y None h tt k);
    boxes = λ o e v h a k. absurd (subst MakesNone e none);
    mutexes = λ o e v h a k. absurd (subst MakesNone e none);
    spawns = λ cs pc e h k. absurd (subst MakesNone e none);
    unlocks = λ e m v h a c k. (says_fits (only g) b p m.home (message.Unlock m v) h.work.rest (omega (arith, a, c)) k.0, k.1);
    holds = λ q e m a. refl;
    goes = λ q h k. goes h k;
    pairs = λ cs pc ds other e h k. absurd (subst MakesNone e none);
    ends = λ o e main v h a k. ends main v h a k;
    asks_join = λ o e u h q a k. asks_for (home_of u) (message.Join u h.work.rest.number h.thread.number) (phase.WaitJoin u) h refl refl k;
    asks_dup = λ q e m h r a k. asks_for m.home (message.Dup m h.work.rest.number h.thread.number) (phase.WaitDup m) h refl refl k;
    asks_lock = λ q e m h r a k. asks_for m.home (message.Lock m h.work.rest.number h.thread.number) (phase.WaitLock m) h refl refl k;
  }

  -- there is no mark among the temporary values that weighs something
  unmarked : (v : Value) → Fits (only g) v → TempFits (only g) v
  unmarked (value.Held m) a = refl
  unmarked value.Gone a = refl
  unmarked (value.Own v) a = omega (arith, a)
  unmarked (value.SharedSlot j) a = refl
  unmarked (value.MutSlot j) a = refl
  unmarked (value.Shared r) a = omega (arith, a)
  unmarked (value.Mut r) a = omega (arith, a)

  -- the plain step, where the place is ready
  pub step_keeps : (h : Hand) (s : Spot) → prepare (access_of i h.thread) h ≡ ready h s → Of G h → Gives (EndsStep E) (step n i h)
  step_keeps h s at k =
      subst (λ x. Gives (EndsStep E) (prepared n i x)) (sym at)
      (committing E (commit n i s h) (commits i s h acts (moves_by i s h (λ w c v d. unmarked v (spot_fits (only g) b p y s v h k d))) k))
