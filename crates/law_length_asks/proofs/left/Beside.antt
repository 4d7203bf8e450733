-- A thread that stands as it stood, with as many hops ahead of it, has as many asks left; so while another thread steps nobody gets more.
use Rattle.std.proofs.Common.{◌≡◌, ◌≤◌, ℕ, ◌+◌, ◌-◌, ◌==◌, Bool, true, false, Option, Some, None, refl, sym, ap, subst, ◌∙◌, arith}
use Rattle.std.specs.Prelude.{slice_get}
use Rattle.law_length_asks.proofs.Below.law_walks_others.Below.fr_typing.PlaceLemmas.{eq_cases}
use Rattle.law_length_asks.specs.Below.law_walks_others.Below.heap_partition.declared.value.Owned.{Owned}
use Rattle.law_length_asks.specs.Below.law_walks_others.Below.journal.View.{EntryView}
use Rattle.law_length_asks.specs.Below.law_walks_others.Below.thread_state.View.{is_over}
use Rattle.law_length_asks.specs.Below.law_walks_others.Below.thread_state.declared.phase.Phase.{Phase}
use Rattle.law_length_asks.specs.Below.law_walks_others.Below.thread_state.declared.phase.Phase.TheVariants as phase
use Rattle.law_length_asks.specs.Below.law_walks_others.Below.server_model.declared.event.Event.{Event}
use Rattle.law_length_asks.specs.Below.law_walks_others.Below.server_model.declared.event.What.TheVariants.{Step, Deliver}
use Rattle.law_length_asks.specs.Below.law_walks_others.Below.server_model.Servers.{Cluster}
use Rattle.law_length_asks.specs.Below.law_walks_others.Below.server_model.Clusters.{apply}
use Rattle.law_length_asks.specs.Below.law_walks_others.Below.coherent_memory.Names.{if_so, Among}
use Rattle.law_length_asks.specs.Below.law_walks_others.Below.coherent_memory.Things.{Thing, stands, lies, flies, sent, things_of}
use Rattle.law_length_asks.specs.Below.law_walks_others.Below.coherent_memory.Follow.{Standing, thread_at}
use Rattle.law_length_asks.specs.Below.law_walks_others.Below.coherent_memory.Paths.{path_of}
use Rattle.law_length_asks.specs.Below.law_walks_others.Below.coherent_memory.Sight.{Sight, sight}
use Rattle.law_length_asks.specs.Below.law_walks_others.Below.coherent_memory.Walking.{instr_of}
use Rattle.law_length_asks.specs.Below.law_walks_others.Below.coherent_types.ClusterTypes.{IsCoherent}
use Rattle.law_length_asks.specs.Below.law_walks_others.Below.law_words_paths.paths.HeapStore.{GoesOn}
use Rattle.law_length_asks.proofs.Below.law_walks_others.Below.law_words_paths.paths.Contained.{among_thread}
use Rattle.law_walks_own.specs.Below.law_words_paths.words.Reworded.{HasPlaces}
use Rattle.law_length_asks.specs.Below.law_walks_others.Below.law_counts_sums.Laws.{Gives, FewEvents}
use Rattle.law_length_asks.proofs.Below.law_walks_others.Below.law_counts_sums.Results.{both_give}
use Rattle.law_length_asks.proofs.Below.law_walks_others.Below.law_heap_still.events.Told.{told, at_thread, thread_told, tot_same}
use Rattle.law_length_asks.proofs.Below.law_walks_others.pointers.Cells.{Seeing, cell_weight}
use Rattle.law_length_asks.proofs.Below.law_walks_others.pointers.Followed.{same_settings}
use Rattle.law_length_asks.proofs.Below.law_walks_others.pointers.Others.{Known, known}
use Rattle.law_length_asks.specs.ahead.Ahead.{SameAhead, ahead}
use Rattle.law_length_asks.specs.hops.Beside.{IsBeside}
use Rattle.law_length_asks.proofs.hops.Beside.{events_beside_leave}
use Rattle.law_length_asks.specs.left.Left.{may_come, is_far, toll, pulls, asks_last, eight, to_come, asks_by, asks_of, asks_at, left}
use Rattle.law_length_asks.specs.left.Steps.{OthersStepsLeaveAsks}
use Rattle.law_length_asks.proofs.left.Few.{at_few}

-- THE SAME THREAD

module _ (k c : Cluster) (x : Standing) (code : c.code ≡ k.code) (same : ahead (sight c) x ≡ ahead (sight k) x) where
  instr_same : instr_of (sight c) x ≡ instr_of (sight k) x
  instr_same = ap (λ cs. slice_get cs x.thread.pc) code

  come_same : to_come (sight c) x ≡ to_come (sight k) x
  come_same =
      let a = ap eight same in
      let b : pulls (sight c) x ≡ pulls (sight k) x = ap (λ j. if_so (is_far x.server x.thread.phase (may_come (path_of j x.thread) x.thread.slots)) (toll (path_of j x.thread))) instr_same in
      let d = ap asks_last instr_same in
      omega (arith, a, b, d)

  by_same : (p : Phase) (g : Option Owned) → asks_by (sight c) x p g ≡ asks_by (sight k) x p g
  by_same (phase.WaitCell w) g = come_same
  by_same phase.Got None = ap (λ n. n + 1) come_same
  by_same phase.Got (Some v) = refl
  by_same (phase.Taken w) g = refl
  by_same (phase.WaitLock m) g = refl
  by_same (phase.WaitDup m) g = refl
  by_same (phase.WaitJoin u) g = refl
  by_same phase.Ready g = refl
  by_same phase.Over g = refl
  by_same (phase.WaitPar a b) g = refl
  by_same (phase.GotPar a b) g = refl

  pub asks_same : asks_of (sight c) x ≡ asks_of (sight k) x
  asks_same = by_same x.thread.phase x.thread.gift

-- a thread in the middle of a step
abbrev pub is_calm : Phase → Bool
is_calm phase.Ready = true
is_calm phase.Over = true
is_calm (phase.WaitPar a b) = true
is_calm (phase.GotPar a b) = true
is_calm p = false

pub calm_all : (s : Sight) (x : Standing) (p : Phase) (g : Option Owned) → is_calm p ≡ true → asks_by s x p g ≡ 20
calm_all s x phase.Ready g e = refl
calm_all s x phase.Over g e = refl
calm_all s x (phase.WaitPar a b) g e = refl
calm_all s x (phase.GotPar a b) g e = refl
calm_all s x p g e = absurd (cc e)

pub going : (p : Phase) → is_calm p ≡ false → is_over p ≡ false
going phase.Over e = absurd (cc e)
going p e = refl

-- ANOTHER THREAD STEPS

abbrev threads_of : (Standing → ℕ) → ℕ → Seeing
threads_of g n = record { cells = λ r o v. 0; messages = λ s m. 0; threads = λ s b u. if_so (u.number == n) (g (record { server = s; packed = b; thread = u })) }

threads_so : (g : Standing → ℕ) (n : ℕ) (x : Thing) → cell_weight (threads_of g n) x ≡ at_thread g n x
threads_so g n (stands s b u) = refl
threads_so g n (lies s a d) = refl
threads_so g n (flies w d) = refl
threads_so g n (sent s m) = refl
threads_so g n _ = refl

module _ (k : Cluster) (e : Event) (u t : ℕ) (is : e.what ≡ Step u) (ne : t ≡ u → ⊥) (co : IsCoherent k) (few : FewEvents k) where
  abbrev Fewer : Cluster × EntryView → Type 0
  Fewer d = IsCoherent d.0 → left d.0 t ≤ left k t

  -- where all are left before
  all_left : left k t ≡ 20 → Gives Fewer (apply k e)
  all_left full = by (apply k e)
    where
      by : (o : Option (Cluster × EntryView)) → Gives Fewer o
      by None = tt
      by (Some d) = λ after. (let l = at_few (sight d.0) (thread_at (sight d.0).ground.threads t) in omega (arith, l, full))

  same_step : {a b : ℕ} → Step a ≡ Step b → a ≡ b
  same_step f = cc

  module _ (x : Standing) (there : thread_at (sight k).ground.threads t ≡ Some x) (busy : is_calm x.thread.phase ≡ false) where
    listed : Among x (sight k).ground.threads × (x.thread.number ≡ t)
    listed = among_thread (sight k).ground.threads t x there

    on : GoesOn k x
    on = record { among = listed.0; going = going x.thread.phase busy }

    beside : IsBeside k e x.thread.number
    beside = record {
      no_step = λ f. ne (sym listed.1 ∙ sym (same_step (sym is ∙ f)));
      no_object = λ old c d. no_delivery (sym is ∙ (let a = d in a.what));
    }
      where
        no_delivery : {a b : ℕ} → Step a ≡ Deliver b → ⊥
        no_delivery f = cc f

    -- the thread stands there still
    stays : (d : Cluster × EntryView) → Known k e co few d → (g : Standing → ℕ) → g x ≤ told g (thread_at (sight d.0).ground.threads t)
    stays d a g =
        let places : HasPlaces d.0 = a.0 in
        let before = co.sound.names.numbers_differ t in
        let sees = a.1 u is in
        let more = sees.1 (threads_of g t) (record {
          thread = λ s b y f. eq_cases (λ q. if_so q (g (record { server = s; packed = b; thread = y })) ≡ 0) y.number t (λ same. absurd (ne (sym same ∙ f))) (λ other. refl);
          written = λ o h q v. refl;
        }) in
        let one : told g (thread_at (sight k).ground.threads t) ≡ g x = ap (told g) there in
        omega (
          arith,
          more,
          one,
          tot_same (cell_weight (threads_of g t)) (at_thread g t) (threads_so g t) (things_of k),
          tot_same (cell_weight (threads_of g t)) (at_thread g t) (threads_so g t) (things_of d.0),
          thread_told g t (things_of k) before,
          thread_told g t (things_of d.0) (places.numbers_differ t),
        )

    left_same : (d : Cluster × EntryView) → Known k e co few d → (d.0.code ≡ k.code) → SameAhead k x d → left d.0 t ≡ left k t
    left_same d a code same = by (thread_at (sight d.0).ground.threads t) refl ∙ asks_same k d.0 x code same ∙ sym (ap (asks_at (sight k)) there)
      where
        at : (g : Standing → ℕ) (o : Option Standing) → thread_at (sight d.0).ground.threads t ≡ o → g x ≤ told g o
        at g o f = subst (λ q. g x ≤ told g q) f (stays d a g)

        by : (o : Option Standing) → thread_at (sight d.0).ground.threads t ≡ o → asks_at (sight d.0) o ≡ asks_of (sight d.0) x
        by None f = absurd (omega (arith, at (λ q. 1) None f))
        by (Some y) f = omega (arith, at (asks_of (sight d.0)) (Some y) f, at (λ q. (asks_of (sight d.0) x + asks_of (sight d.0) y) - asks_of (sight d.0) q) (Some y) f)

    so_many : Gives Fewer (apply k e)
    so_many =
        both_give (λ d. Known k e co few d × (d.0.code ≡ k.code)) (SameAhead k x) Fewer (apply k e)
        (both_give (Known k e co few) (λ (d : Cluster × EntryView). (d.0.code ≡ k.code) × (d.0.options ≡ k.options)) (λ d. Known k e co few d × (d.0.code ≡ k.code)) (apply k e) (known k e co few) (same_settings k e) (λ d a b. (a, b.0)))
        (events_beside_leave k e co few x on beside) (λ d a same after. (let l = left_same d a.0 a.1 same in omega (arith, l)))

  others_leave : Gives Fewer (apply k e)
  others_leave = by (thread_at (sight k).ground.threads t) refl
    where
      standing : (x : Standing) → thread_at (sight k).ground.threads t ≡ Some x → (b : Bool) → is_calm x.thread.phase ≡ b → Gives Fewer (apply k e)
      standing x there true calm = all_left (ap (asks_at (sight k)) there ∙ calm_all (sight k) x x.thread.phase x.thread.gift calm)
      standing x there false busy = so_many x there busy

      by : (o : Option Standing) → thread_at (sight k).ground.threads t ≡ o → Gives Fewer (apply k e)
      by None there = all_left (ap (asks_at (sight k)) there)
      by (Some x) there = standing x there (is_calm x.thread.phase) refl

pub others_steps : OthersStepsLeaveAsks
others_steps k e u t is ne co few = others_leave k e u t is ne co few
