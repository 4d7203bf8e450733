-- Each enabled par has a result.
use Rattle.std.proofs.Common.{◌≡◌, inl, ℕ, ◌+◌, ◌*◌, ◌^◌, Bool, true, false, if◌then◌else◌, List, [], ◌∷◌, reverse, Option, Some, None, option_map, IsSome, refl, sym, ap, subst, ◌∙◌, arith}
use Rattle.law_results_events.specs.Below.fr_base.Rooms.{WithRoom}
use Rattle.law_results_events.specs.Below.fr_base.declared.step.Fresh.TheVariants as fresh
use Rattle.law_results_events.specs.Below.fr_base.declared.instruction.Instr.{Instr}
use Rattle.law_results_events.specs.Below.fr_base.declared.instruction.Instr.TheVariants as instr
use Rattle.law_results_events.specs.Below.fr_typing.Kinds.{int, Kind, whole}
use Rattle.law_results_events.specs.Below.fr_typing.Places.{Env}
use Rattle.law_results_events.specs.Below.fr_code.CodeTypes.{Entry, Table, InstrTypes, i_par, wait}
use Rattle.law_results_events.specs.Below.fr_code.CodeTable.{Leads, Successors, to_next}
use Rattle.law_results_events.specs.Below.fr_store.Keys.{Key, slot_k}
use Rattle.law_results_events.specs.Below.fr_store.Store.{Store, Place as StorePlace}
use Rattle.law_results_events.specs.Below.fr_store.Typed.{hole, int_tree, owns, refers, KeyTypes}
use Rattle.law_results_events.specs.Below.fr_store.Below.{ExactOf}
use Rattle.law_results_events.specs.Below.fr_store.Thread.{ThreadTyped}
use Rattle.law_results_events.proofs.Below.fr_store.Below.{mut_place}
use Rattle.law_results_events.proofs.Below.fr_store.ThreadKept.{exact_owned}
use Rattle.law_results_events.specs.Below.fr_sound.States.{IsThread, hand_key, hand_kind}
use Rattle.law_plain_threads.proofs.Below.law_plain_values.acts.Focus.{first_waits}
use Rattle.law_results_events.specs.Below.join_home.Tasks.{can_begin, can_begin_pair, begin_pair}
use Rattle.law_results_events.specs.Below.migration.Packing.{unpin_all}
use Rattle.law_results_events.specs.Below.thread_state.View.{ThreadState}
use Rattle.law_results_events.specs.Below.thread_state.declared.phase.Phase.TheVariants as phase
use Rattle.law_results_events.specs.Below.thread_state.declared.value.Value.{Value}
use Rattle.law_results_events.specs.Below.server_model.Servers.{Rest, Cluster}
use Rattle.law_results_events.specs.Below.server_model.Work.{Work, Hand, with_slots, with_tasks, with_phase, working, then_some}
use Rattle.law_results_events.specs.Below.server_model.Start.{next_thread, start_thread, capture}
use Rattle.law_results_events.specs.Below.server_model.Commit.{done_where, go_on, par_with}
use Rattle.law_results_events.specs.Below.server_model.Events.{begin_work, committed, step}
use Rattle.law_results_events.specs.Below.coherent_memory.Follow.{Standing}
use Rattle.law_results_events.specs.Below.law_counts_sums.Kinds.{step_par, instr_kind}
use Rattle.law_results_events.proofs.Below.law_counts_sums.Each.{names_left}
use Rattle.law_results_events.specs.Below.coherent_types.Names.{NameTypes}
use Rattle.law_results_events.specs.Below.coherent_types.ClusterTypes.{slots_wrong}
use Rattle.law_results_events.specs.Below.law_words_paths.paths.HeapStore.{heap_store, GoesOn, HasPaths}
use Rattle.law_results_events.proofs.Below.law_words_paths.paths.Forms.{running_typed}
use Rattle.law_results_events.specs.Below.law_results_reads.Results.{Anyhow, StepsHaveResults}
use Rattle.law_results_events.proofs.Below.law_results_reads.Usable.{Usable, walk_goes}
use Rattle.law_results_events.proofs.Below.law_results_reads.Known.{settled, Steps, standing, able, paths, goes, types, names, entry, typed, slots_fit, usable, has_result}
use Rattle.law_results_events.proofs.enabled.NewNames.{name_new}
use Rattle.law_results_events.proofs.enabled.Spawns.{started_cache}
use Rattle.law_results_events.proofs.enabled.Views.{Left}
use Rattle.law_results_events.proofs.enabled.Branches.{Behind, branch_takes}
use Rattle.law_results_events.proofs.enabled.Pairs.{pair_new}

-- where a thread has at most numbers at hand, its environment is one that no other thread names
hand_owns : (t : ℕ) (rank : Key → ℕ) (E : KeyTypes) (s : Store) (e : Env) (ts : List Kind) → wait ts ≡ true → ThreadTyped (slot_k t) rank (hand_key t ts) e E s (hand_kind ts) → (m : Bool) (u : StorePlace) → E (hand_key t ts) ≡ refers m u → ⊥
hand_owns t rank E s e [] w th m u is = let f : owns hole ≡ refers m u = sym th.temp ∙ is in absurd cc
hand_owns t rank E s e (q ∷ ts) w th m u is =
    let int_there : E (hand_key t (q ∷ ts)) ≡ owns int_tree = exact_owned (slot_k t) E int (E (hand_key t (q ∷ ts))) (subst (λ z. ExactOf (slot_k t) E (whole z) (E (hand_key t (q ∷ ts)))) (first_waits q ts w).0 th.temp) in
    let f : owns int_tree ≡ refers m u = sym int_there ∙ is in absurd cc

left_at_first : (t : ℕ) (rank : Key → ℕ) (E : KeyTypes) (s : Store) (e : Env) (ts : List Kind) → wait ts ≡ true → ThreadTyped (slot_k t) rank (hand_key t ts) e E s (hand_kind ts) → Left t E E e
left_at_first t rank E s e ts w th = record {
  nested = th.nested;
  fits = th.slots;
  mut = mut_place rank E s th.typed;
  alone = λ j m u is. th.alone j m u is (λ q. hand_owns t rank E s e ts w th m u (ap E (sym q) ∙ is));
  fewer = λ j. inl refl;
}

module _ (servers : ℕ) (r : Rest) (y : ThreadState) (uses : Usable y r.cache) (new : can_begin_pair r.tasks y.number (next_thread r) (next_thread r + 1) ≡ true) where
  abbrev h : Hand
  h = record { work = begin_work r; thread = y }

  abbrev Named : Option Hand → Type 0
  Named o = IsSome (committed (done_where (fresh.Threads (next_thread r) (next_thread r + 1)) o))

  begins : (pc other : ℕ) (first : List Value) (second : List Value × List Value) → Named (par_with servers pc other (next_thread r) (next_thread r + 1) h first second)
  begins pc other first second = by (can_begin_pair r.tasks y.number (next_thread r) (next_thread r + 1)) new
    where
      noted : Hand
      noted = with_slots second.1 (working (with_tasks (begin_pair r.tasks y.number (next_thread r) (next_thread r + 1))) h)

      both : Work → Work
      both w = start_thread servers other second.0 (start_thread servers pc first w)

      after : Hand → Hand
      after h2 = with_phase (phase.WaitPar (next_thread r) (next_thread r + 1)) (go_on (working (λ w. start_thread servers other second.0 (start_thread servers pc first w)) (with_slots second.1 h2)))

      by : (b : Bool) → b ≡ true → Named (option_map after (if b then Some (working (with_tasks (begin_pair r.tasks y.number (next_thread r) (next_thread r + 1))) h) else None))
      by true e =
          settled (fresh.Threads (next_thread r) (next_thread r + 1)) (after (working (with_tasks (begin_pair r.tasks y.number (next_thread r) (next_thread r + 1))) h))
          (subst (λ c. IsSome (unpin_all y.walk c)) (sym (started_cache servers other second.0 (start_thread servers pc first noted.work) ∙ started_cache servers pc first noted.work)) (walk_goes y r.cache uses))
      by false e = absurd (cc e)

  pub pars : (cs ds : WithRoom (ℕ × Bool)) (pc other : ℕ) (first second : List Value × List Value) → capture true cs.items y.slots ≡ Some first → capture true ds.items first.1 ≡ Some second → IsSome (step servers (instr.Par cs pc ds other) h)
  pars cs ds pc other first second e d =
      subst (λ o. Named (then_some o (λ q. then_some (capture true ds.items q.1) (par_with servers pc other (next_thread r) (next_thread r + 1) h q.0)))) (sym e)
      (subst (λ o. Named (then_some o (par_with servers pc other (next_thread r) (next_thread r + 1) h first.0))) (sym d) (begins pc other first.0 second))

module _ (k : Cluster) (c : HasPaths k) (x : Standing) (g : GoesOn k x) (N : NameTypes) (table : Table) (servers : ℕ) (r : Rest) (uses : Usable x.thread r.cache) (new : can_begin_pair r.tasks x.thread.number (next_thread r) (next_thread r + 1) ≡ true) where
  abbrev Done : Instr → Type 0
  Done j = IsSome (step servers j (record { work = begin_work r; thread = x.thread }))

  abbrev Runs : Entry → Type 0
  Runs E = IsThread E.forked (slot_k x.thread.number) c.types.typing.rank (hand_key x.thread.number E.temps) E.env c.types.typing.exact (heap_store k c.types) (hand_kind E.temps)

  by_type : (E E2 : Entry) (j : Instr) → InstrTypes table E j E2 → instr_kind j ≡ step_par → slots_wrong N E.env (reverse x.thread.slots) ≡ 0 → Runs E → Done j
  by_type _ _ _ (i_par {e = e} {e1 = e1} {e2 = e2} {n = n} {m = m} {ts = ts} {cs = cs} {ds = ds} {body = body} {other = other} waits pass pass2 known known2) is slots th =
      let b : Behind k c x g N e x.thread.slots = record {
        types = c.types.typing.exact;
        left = left_at_first x.thread.number c.types.typing.rank c.types.typing.exact (heap_store k c.types) e ts waits th;
        fit = slots;
        was = λ i j q. q;
      } in
      let first = branch_takes k c x g N e [] e1 n cs.items [] x.thread.slots pass b in
      let second = branch_takes k c x g N e1 [] e2 m ds.items [] first.result.1 pass2 first.left in
      pars servers r x.thread uses new cs ds body other first.result second.result first.is second.is
  by_type _ _ _ _ is slots th = absurd (cc is)

  pub by_row : (E : Entry) (j : Instr) (ss : Successors) → Leads table x.thread.pc E j ss → instr_kind j ≡ step_par → slots_wrong N E.env (reverse x.thread.slots) ≡ 0 → Runs E → Done j
  by_row E j _ (to_next {y = E2} typed) is slots th = by_type E E2 j typed is slots th
  by_row _ _ _ _ is slots th = absurd (cc is)

pub each_par : StepsHaveResults step_par Anyhow
each_par k n t s y i coherent few server on at code is f =
    let z : Steps k n t s y i = record { coherent = coherent; few = few; here = server; on = on; at = at; code = code } in
    let left = names_left k coherent.sound.names.few_names few n s server in
    let first = name_new k n s server coherent.sound (s.rest.started + 1) (omega arith) (omega (arith, left)) in
    let second = name_new k n s server coherent.sound (s.rest.started + 1 + 1) (omega arith) (omega (arith, left)) in
    let same : s.rest.number * 2 ^ 32 + (s.rest.started + 1 + 1) ≡ next_thread s.rest + 1 = omega arith in
    let after : can_begin s.rest.tasks (next_thread s.rest + 1) ≡ true = subst (λ a. can_begin s.rest.tasks a ≡ true) same second in
    let pair = pair_new k n s server coherent.sound t y at (able k n t s y i z) (next_thread s.rest) first after in
    has_result k n t s y i z
    (by_row k (paths k n t s y i z) (standing k n t s y i z) (goes k n t s y i z) (names k n t s y i z) (types k n t s y i z).table k.options.servers s.rest (usable k n t s y i z) pair
    (entry k n t s y i z) i (typed k n t s y i z).0 (typed k n t s y i z).1 is (slots_fit k n t s y i z) (running_typed k (paths k n t s y i z) (standing k n t s y i z) (goes k n t s y i z)).thread)
