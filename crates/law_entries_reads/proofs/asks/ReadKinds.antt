-- A step at a copy, a dup or a lock that ends in a request: its entry is legal.
use Rattle.std.proofs.Common.{◌≡◌, inl, inr, ℕ, true, false, [], ◌∷◌, Option, Some, None, option_map, refl, sym, ap, subst, ◌∙◌}
use Rattle.std.specs.Prelude.{slice_get}
use Rattle.law_entries_reads.specs.Below.law_copies_kept.Below.fr_base.declared.name.MutexNo.{MutexNo}
use Rattle.law_entries_reads.specs.Below.law_copies_kept.Below.fr_base.declared.place.Lval.{Lval}
use Rattle.law_entries_reads.specs.Below.law_copies_kept.Below.fr_base.declared.instruction.Instr.{Instr}
use Rattle.law_entries_reads.specs.Below.law_copies_kept.Below.fr_base.declared.step.Fresh.TheVariants as fresh
use Rattle.law_entries_reads.specs.Below.law_copies_kept.Below.heap_partition.declared.value.Owned.{Owned}
use Rattle.law_entries_reads.specs.Below.law_copies_kept.Below.heap_partition.declared.value.Owned.TheVariants as owned
use Rattle.law_entries_reads.specs.Below.law_copies_kept.Below.thread_state.View.{ThreadState}
use Rattle.law_entries_reads.specs.Below.law_copies_kept.Below.thread_state.declared.phase.Phase.TheVariants as phase
use Rattle.law_entries_reads.specs.Below.law_copies_kept.Below.thread_state.declared.value.Value.{Value}
use Rattle.law_entries_reads.specs.Below.law_copies_kept.Below.thread_state.declared.value.Value.TheVariants as value
use Rattle.law_entries_reads.specs.Below.law_copies_kept.Below.server_msgs.declared.message.Message.{Message}
use Rattle.law_entries_reads.specs.Below.law_copies_kept.Below.server_msgs.declared.message.Message.TheVariants as message
use Rattle.law_entries_reads.specs.Below.law_copies_kept.Below.journal.View.{EntryView}
use Rattle.law_entries_reads.specs.Below.law_copies_kept.Below.journal.declared.act.Act.TheVariants as act
use Rattle.law_entries_reads.specs.Below.law_copies_kept.Below.server_model.declared.event.What.TheVariants.{Step}
use Rattle.law_entries_reads.specs.Below.law_copies_kept.Below.server_model.Servers.{Server, Cluster, server_at}
use Rattle.law_entries_reads.specs.Below.law_copies_kept.Below.server_model.Work.{Hand, thread_in, mutex_of, push_temp, then_some}
use Rattle.law_entries_reads.specs.Below.law_copies_kept.Below.server_model.Places.{Spot, in_slot, value_at, load_at}
use Rattle.law_entries_reads.specs.Below.law_copies_kept.Below.server_model.Prepare.{Prepared, ready, requested, nothing, read_stars}
use Rattle.law_entries_reads.specs.Below.law_copies_kept.Below.server_model.Commit.{waiting, goes_on, go_on, settle, read, take_gift, mutex_at, ask_dup, dup, ask_lock, push_content, lock, commit}
use Rattle.law_entries_reads.specs.Below.law_copies_kept.Below.server_model.Events.{enabled, begin_work, Stepped, wait_step, done_step, committed, prepared, step}
use Rattle.law_entries_reads.specs.Below.law_copies_kept.Below.server_model.Clusters.{apply}
use Rattle.law_entries_reads.specs.Below.law_entries_variables.Below.coloured_heap.Heap.{Coloured, ForContent, ForShare}
use Rattle.law_entries_reads.specs.Below.law_copies_kept.Below.coherent_memory.Things.{Location}
use Rattle.law_entries_reads.specs.Below.law_copies_kept.Below.coherent_memory.Follow.{value_in}
use Rattle.law_entries_reads.specs.Below.law_copies_kept.Below.coherent_memory.Sight.{sight}
use Rattle.law_entries_reads.specs.Below.law_copies_kept.Below.coherent_memory.Words.{HasWords}
use Rattle.law_entries_reads.specs.Below.law_copies_kept.Below.coherent_memory.OneHeap.{is_given_mutex}
use Rattle.law_entries_reads.specs.Below.law_copies_kept.Below.coherent_memory.Colours.{StandsColoured}
use Rattle.law_entries_reads.specs.Below.law_copies_kept.Below.coherent_types.ClusterTypes.{IsCoherent}
use Rattle.law_entries_reads.proofs.Below.law_copies_kept.Below.law_words_paths.paths.Sole.{some_is}
use Rattle.law_copies_kept.specs.Below.law_words_kept.reads.Reading.{Reads}
use Rattle.law_entries_reads.specs.Below.law_copies_kept.Below.law_counts_sums.Laws.{Gives, FewEvents}
use Rattle.law_entries_reads.proofs.Below.law_copies_kept.Below.law_counts_sums.Results.{map_gives}
use Rattle.law_entries_reads.proofs.Below.law_copies_kept.Below.law_counts_sums.Bags.{sent_number}
use Rattle.law_entries_reads.proofs.Below.law_copies_kept.Below.law_results_reads.Known.{Steps}
use Rattle.law_entries_reads.proofs.Below.law_copies_kept.Below.law_results_reads.Reading.{Alike, equal, both_shared, Reading}
use Rattle.law_entries_reads.proofs.Below.law_copies_kept.Below.law_results_reads.Starred.{bound, At, Fine, seen}
use Rattle.law_entries_reads.proofs.Below.law_copies_kept.Below.law_words_kept.stays.Sites.{HandAlike}
use Rattle.law_entries_reads.proofs.Below.law_copies_kept.Below.law_words_kept.stays.Steps.{hand_chain}
use Rattle.law_copies_kept.proofs.Below.law_words_kept.prepared.Asking.{found_number}
use Rattle.law_copies_kept.proofs.Below.law_words_kept.prepared.Untaken.{not_taken}
use Rattle.law_entries_reads.specs.Below.law_copies_kept.references.Clean.{ReadsAll, a_copy, a_dup, a_lock}
use Rattle.law_entries_reads.proofs.Below.law_copies_kept.references.ReadAsks.{Known}
use Rattle.law_entries_reads.proofs.Below.law_copies_kept.references.ReadCommits.{asks_so}
use Rattle.law_entries_reads.proofs.Below.law_copies_kept.references.ReadSteps.{reads_of, access_is, ok_steps}
use Rattle.law_entries_reads.proofs.Below.law_copies_kept.objects.Following as following
use Rattle.law_entries_reads.proofs.Below.law_entries_variables.deliveries.Answers.{answers_of, fits}
use Rattle.law_entries_reads.proofs.Below.law_entries_variables.deliveries.Runs.{silent, runs_one}
use Rattle.law_entries_reads.specs.asks.Asking.{ReadsThatAskLegal}
use Rattle.law_entries_reads.proofs.asks.Recoloured.{recoloured, wishing, none_given, ask_lock_allowed, ask_dup_allowed}
use Rattle.law_entries_reads.proofs.asks.Agreeing.{Asks, a_content, a_share}
use Rattle.law_entries_reads.proofs.asks.GivenMutex.{mutex_given}
use Rattle.law_entries_reads.proofs.asks.Requests.{Requested, sends_one, request_led}
use Rattle.law_entries_reads.proofs.asks.ReadWalk.{OnlyHops, noted_after, WantedSo}
use Rattle.law_entries_reads.proofs.asks.Ending.{Ends, DoneOrEnds, unwaited, ends_with}
use Rattle.law_entries_reads.proofs.asks.ReadRequests.{X, wanted, known_all, live, stay_reworded, rest_as_was, frames_as_were, still_issued, wanted_ends}

-- values that look like a mutex are that mutex
alike_mutex : (u v : Value) (m : MutexNo) → Alike u v → u ≡ value.Own (owned.Mutex m) → v ≡ value.Own (owned.Mutex m)
alike_mutex u _ m equal e = e
alike_mutex _ _ m (both_shared a b words objects) e = absurd cc

module _ (k : Cluster) (coherent : IsCoherent k) (few : FewEvents k) (s : Server) (here : server_at k.servers s.rest.number ≡ Some s) (t : ℕ) (y : ThreadState) (at : thread_in s.threads t ≡ Some y) (on : enabled k.options s (Step t) ≡ true)
    (w : Lval) (i : Instr) (reading : ReadsAll w i) (code : slice_get k.code y.pc ≡ Some i) (free : (v : ℕ) → y.phase ≡ phase.Taken v → ⊥) (c0 : Coloured) (is_coloured : StandsColoured k c0) where
  abbrev n : ℕ
  n = s.rest.number

  abbrev reads : Reads i w w.depth
  reads = reads_of w i reading

  abbrev start : Hand
  start = record { work = begin_work s.rest; thread = y }

  abbrev z : Steps k n t s y i
  z = following.its k coherent few s here t y at on w i w.depth reads code free

  abbrev Put : Hand → Cluster
  Put = following.Put k coherent few s here t y at on w i w.depth reads code free

  abbrev before : HasWords (sight k)
  before = coherent.sound.words.have_words

  abbrev Known_so : Hand → Type 0
  Known_so = X k coherent few s here t y at on w i w.depth reads code free c0 is_coloured

  abbrev EndsSo : Stepped → Type 0
  EndsSo = Ends k coherent s here t y at c0

  abbrev Outcome : Stepped → Type 0
  Outcome = DoneOrEnds k coherent s here t y at c0

  -- THE MUTEX AT THE PLACE

  module _ (h : Hand) (sp : Spot) (l : Location) (known : Known_so h) (hops : OnlyHops h) (a : Reading y s.rest (bound k n t s y i z) w.depth h) (spot : At k n t s y i z sp l) where
    -- what stands there stood at the location
    stood : (m : MutexNo) → value_at h sp ≡ Some (value.Own (owned.Mutex m)) → value_in (sight k).ground l ≡ Some (value.Own (owned.Mutex m))
    stood m e = by (value_in (sight k).ground l) refl
      where
        by : (o : Option Value) → value_in (sight k).ground l ≡ o → value_in (sight k).ground l ≡ Some (value.Own (owned.Mutex m))
        by None q = absurd (none_there q)
          where
            none_there : value_in (sight k).ground l ≡ None → ⊥
            none_there q = Rattle.law_entries_reads.proofs.asks.ReadWalk.some_stands k n t s y i z w.depth h sp l (value.Own (owned.Mutex m)) a spot e q
        by (Some v) q =
            let u = seen k n t s y i z w.depth h sp l v a spot q in
            let same : u.0 ≡ value.Own (owned.Mutex m) = some_is (sym u.1 ∙ e) in
            q ∙ ap Some (alike_mutex u.0 v m u.2 same)

    given : (m : MutexNo) → value_at h sp ≡ Some (value.Own (owned.Mutex m)) → is_given_mutex (sight k) m ≡ true
    given m e = mutex_given k m coherent.sound l (stood m e)

    mutex_is : (m : MutexNo) → mutex_at h sp ≡ Some m → value_at h sp ≡ Some (value.Own (owned.Mutex m))
    mutex_is m e = by (value_at h sp) refl e
      where
        of : (v : Value) → mutex_of v ≡ Some m → v ≡ value.Own (owned.Mutex m)
        of (value.Own (owned.Mutex j)) q = ap (λ x. value.Own (owned.Mutex x)) (some_is q)
        of (value.Own (owned.Box p)) q = absurd (cc q)
        of (value.Own owned.Nothing) q = absurd (cc q)
        of (value.Own owned.Unit) q = absurd (cc q)
        of (value.Own (owned.Int j)) q = absurd (cc q)
        of (value.Own (owned.Task j)) q = absurd (cc q)
        of value.Gone q = absurd (cc q)
        of (value.SharedSlot j) q = absurd (cc q)
        of (value.MutSlot j) q = absurd (cc q)
        of (value.Shared p) q = absurd (cc q)
        of (value.Mut p) q = absurd (cc q)
        of (value.Held j) q = absurd (cc q)

        by : (o : Option Value) → value_at h sp ≡ o → then_some o mutex_of ≡ Some m → value_at h sp ≡ Some (value.Own (owned.Mutex m))
        by None q f = absurd (cc f)
        by (Some v) q f = q ∙ ap Some (of v f)

    -- A CONTENT

    module _ (m : MutexNo) (at_hand : value_at h sp ≡ Some (value.Own (owned.Mutex m))) where
      abbrev lock_sent : Message
      lock_sent = message.Lock m h.work.rest.number h.thread.number

      lock_requested : Requested s y (ask_lock h m) m.home lock_sent (act.AskLock m ∷ [])
      lock_requested = record {
        number = sent_number h.work.rest m.home lock_sent ∙ a.number;
        rest = sends_one s h.work.rest m.home lock_sent a.number (rest_as_was k coherent few s here t y at on w i w.depth reads code free c0 is_coloured w.depth h known a);
        noted = noted_after h hops (act.AskLock m ∷ []);
        waits = record { number = a.id; frames = frames_as_were k coherent few s here t y at on w i w.depth reads code free c0 is_coloured w.depth h a; gift = a.gift; pc = (known.1).pc; over = sym (live k coherent few s here t y at on w i w.depth reads code free c0 is_coloured) };
      }

      locks_it : Asks lock_sent (ForContent m y.number n)
      locks_it = subst (λ r. Asks lock_sent (ForContent m y.number r)) a.number (subst (λ u. Asks lock_sent (ForContent m u h.work.rest.number)) a.id a_content)

      lock_alike : HandAlike k.code n [] start (ask_lock h m)
      lock_alike =
          hand_chain k.code n start h (ask_lock h m) (following.alike_to k coherent few s here t y at on w i w.depth reads code free h known.0 (w.depth, a))
          (asks_so k.code n h (following.none_then k coherent few s here t y at on w i w.depth reads code free h known.0 (w.depth, a)) (act.AskLock m) m.home lock_sent (phase.WaitLock m) a.number refl (λ q e x. x) (λ c j. refl))

      lock_ends : EndsSo (wait_step (ask_lock h m))
      lock_ends = λ ok. record {
        words = [];
        left = stay_reworded k (Put (ask_lock h m)) before (following.alike_leaves k coherent few s here t y at on w i w.depth reads code free (ask_lock h m) (unwaited k coherent s here t y at c0 (ask_lock h m) ok) lock_alike);
        leads = λ cl after r.
            request_led k coherent.sound n s here c0 is_coloured t y at (live k coherent few s here t y at on w i w.depth reads code free c0 is_coloured) (ask_lock h m) m.home lock_sent (ForContent m y.number n) locks_it (act.AskLock m ∷ []) [] lock_requested
            (runs_one k.options (silent n (Some y.number) (act.AskLock m ∷ [])) (act.AskLock m) c0 (wishing (ForContent m y.number n) (recoloured [] (answers_of (sight k))))
            (ask_lock_allowed k.options (silent n (Some y.number) (act.AskLock m ∷ [])) c0 (recoloured [] (answers_of (sight k))) m y.number (none_given c0 (answers_of (sight k)) (fits (sight k) c0 is_coloured)) refl (given m at_hand))) cl after r
            (still_issued k coherent few s here t y at on w i w.depth reads code free c0 is_coloured (ask_lock h m) m.home lock_sent (ForContent m y.number n) locks_it (act.AskLock m ∷ []) lock_requested cl after r);
      }

      -- A SHARE

      abbrev dup_sent : Message
      dup_sent = message.Dup m h.work.rest.number h.thread.number

      dup_requested : Requested s y (ask_dup h m) m.home dup_sent (act.AskDup m ∷ [])
      dup_requested = record {
        number = sent_number h.work.rest m.home dup_sent ∙ a.number;
        rest = sends_one s h.work.rest m.home dup_sent a.number (rest_as_was k coherent few s here t y at on w i w.depth reads code free c0 is_coloured w.depth h known a);
        noted = noted_after h hops (act.AskDup m ∷ []);
        waits = record { number = a.id; frames = frames_as_were k coherent few s here t y at on w i w.depth reads code free c0 is_coloured w.depth h a; gift = a.gift; pc = (known.1).pc; over = sym (live k coherent few s here t y at on w i w.depth reads code free c0 is_coloured) };
      }

      dups_it : Asks dup_sent (ForShare m y.number n)
      dups_it = subst (λ r. Asks dup_sent (ForShare m y.number r)) a.number (subst (λ u. Asks dup_sent (ForShare m u h.work.rest.number)) a.id a_share)

      dup_alike : HandAlike k.code n [] start (ask_dup h m)
      dup_alike =
          hand_chain k.code n start h (ask_dup h m) (following.alike_to k coherent few s here t y at on w i w.depth reads code free h known.0 (w.depth, a))
          (asks_so k.code n h (following.none_then k coherent few s here t y at on w i w.depth reads code free h known.0 (w.depth, a)) (act.AskDup m) m.home dup_sent (phase.WaitDup m) a.number refl (λ q e x. x) (λ c j. refl))

      dup_ends : EndsSo (wait_step (ask_dup h m))
      dup_ends = λ ok. record {
        words = [];
        left = stay_reworded k (Put (ask_dup h m)) before (following.alike_leaves k coherent few s here t y at on w i w.depth reads code free (ask_dup h m) (unwaited k coherent s here t y at c0 (ask_dup h m) ok) dup_alike);
        leads = λ cl after r.
            request_led k coherent.sound n s here c0 is_coloured t y at (live k coherent few s here t y at on w i w.depth reads code free c0 is_coloured) (ask_dup h m) m.home dup_sent (ForShare m y.number n) dups_it (act.AskDup m ∷ []) [] dup_requested
            (runs_one k.options (silent n (Some y.number) (act.AskDup m ∷ [])) (act.AskDup m) c0 (wishing (ForShare m y.number n) (recoloured [] (answers_of (sight k))))
            (ask_dup_allowed k.options (silent n (Some y.number) (act.AskDup m ∷ [])) c0 (recoloured [] (answers_of (sight k))) m y.number (none_given c0 (answers_of (sight k)) (fits (sight k) c0 is_coloured)) refl (given m at_hand))) cl after r
            (still_issued k coherent few s here t y at on w i w.depth reads code free c0 is_coloured (ask_dup h m) m.home dup_sent (ForShare m y.number n) dups_it (act.AskDup m ∷ []) dup_requested cl after r);
      }

    -- THE PLACE IS READY

    asks_mutex : (ask : MutexNo → Hand) → ((m : MutexNo) → value_at h sp ≡ Some (value.Own (owned.Mutex m)) → EndsSo (wait_step (ask m))) → (o : Option MutexNo) → mutex_at h sp ≡ o → Gives Outcome (committed (waiting (option_map ask o)))
    asks_mutex ask ends None e = tt
    asks_mutex ask ends (Some m) e = inr (ends m (mutex_is m e))

    done_so : (o : Option Hand) → Gives Outcome (committed (goes_on o))
    done_so None = tt
    done_so (Some h2) = map_gives Outcome (settle (go_on h2)) (done_step fresh.None) (λ h3 e. inl (λ none. absurd (cc none)))

    dups_so : (g : Option Owned) → Gives Outcome (committed (dup sp g h))
    dups_so None = asks_mutex (ask_dup h) dup_ends (mutex_at h sp) refl
    dups_so (Some v) = done_so (option_map (λ c. push_temp (value.Own v) (load_at sp (take_gift h))) (mutex_at h sp))

    locks_so : (g : Option Owned) → Gives Outcome (committed (lock sp g h))
    locks_so None = asks_mutex (ask_lock h) lock_ends (mutex_at h sp) refl
    locks_so (Some v) = done_so (option_map (push_content v (load_at sp (take_gift h))) (mutex_at h sp))

    commits_so : (servers : ℕ) (j : Instr) → ReadsAll w j → Gives Outcome (committed (commit servers j sp h))
    commits_so servers _ a_copy = done_so (read false sp h)
    commits_so servers _ a_dup = dups_so h.thread.gift
    commits_so servers _ a_lock = locks_so h.thread.gift

  -- THE STEP

  prepared_so : (servers : ℕ) (p : Prepared) → WantedSo k n t s y i z Known_so w w.depth p → Fine k n t s y i z w.slot w.depth p → Known k n t s y i z Known_so p → Gives Outcome (prepared servers i p)
  prepared_so servers (ready h sp) hops f c = commits_so h sp f.0 (unloaded h sp c) hops f.3 f.2 servers i reading
    where
      unloaded : (h : Hand) (sp : Spot) → Known_so (load_at sp h) → Known_so h
      unloaded h sp c = let ok = (c.0).0 in ((record { number = ok.number; thread = ok.thread; bag = ok.bag }, (c.0).1), c.1)
  prepared_so servers (requested h) q f c = inr (wanted_ends k coherent few s here t y at on w i w.depth reads code free c0 is_coloured h q)
  prepared_so servers nothing q f c = tt

  pub outcome : Gives Outcome (step k.options.servers i start)
  outcome =
      subst (λ p. Gives Outcome (prepared k.options.servers i p)) (sym (access_is w i reading start))
      (prepared_so k.options.servers (read_stars w.depth start (in_slot w.slot)) (wanted k coherent few s here t y at on w i w.depth reads code free c0 is_coloured) (following.fine k coherent few s here t y at on w i w.depth reads code free)
      (known_all k coherent few s here t y at on w i w.depth reads code free c0 is_coloured))

-- no instruction of these borrows
none_taken : (k : Cluster) (number t : ℕ) (s : Server) (y : ThreadState) (w : Lval) (i : Instr) → IsCoherent k → server_at k.servers number ≡ Some s → thread_in s.threads t ≡ Some y → slice_get k.code y.pc ≡ Some i → ReadsAll w i → (v : ℕ) → y.phase ≡ phase.Taken v → ⊥
none_taken k number t s y w _ coherent here at code a_copy = not_taken k coherent.sound number s here t y at _ code refl
none_taken k number t s y w _ coherent here at code a_dup = not_taken k coherent.sound number s here t y at _ code refl
none_taken k number t s y w _ coherent here at code a_lock = not_taken k coherent.sound number s here t y at _ code refl

pub reads_legal : ReadsThatAskLegal
reads_legal k number t s y w i coherent few here at code reading c0 is_coloured =
    subst (λ n. server_at k.servers n ≡ Some s → Gives (λ (d : Cluster × EntryView). d.1.done ≡ None → Rattle.law_entries_reads.specs.Below.law_entries_variables.deliveries.Entries.LeadsOn k.options d.1 c0 d.0) (apply k (record { server = n; what = Step t }))) (found_number number k.servers s here)
    (λ h.
    let free = none_taken k s.rest.number t s y w i coherent h at code reading in
    ends_with k coherent s h t y at c0 few i code (λ on. ok_steps k coherent few s h t y at on w i reading code free) (λ on. outcome k coherent few s h t y at on w i reading code free c0 is_coloured)) here
