-- What a step asks for that reads the pointers of its place: a copy of what one of them leads to, which gets the next colour first where that is a dirty reference, or its object.
use Rattle.std.proofs.Common.{◌≡◌, ℕ, true, [], Some, refl, sym, ap, subst, ◌∙◌}
use Rattle.std.specs.Prelude.{slice_get}
use Rattle.law_copies_kept.specs.Below.fr_base.declared.place.Lval.{Lval}
use Rattle.law_copies_kept.specs.Below.fr_base.declared.instruction.Instr.{Instr}
use Rattle.law_copies_kept.specs.Below.global_addr.Words.{server_of, next_word}
use Rattle.law_copies_kept.specs.Below.heap_partition.declared.value.BoxPtr.{BoxPtr}
use Rattle.law_copies_kept.specs.Below.mut_borrow.declared.mutable.MutRef.{MutRef}
use Rattle.law_copies_kept.specs.Below.journal.declared.act.Act.TheVariants as act
use Rattle.law_copies_kept.specs.Below.thread_state.View.{ThreadState}
use Rattle.law_copies_kept.specs.Below.thread_state.declared.phase.Phase.TheVariants as phase
use Rattle.law_copies_kept.specs.Below.thread_state.declared.value.Value.TheVariants as value
use Rattle.law_copies_kept.specs.Below.server_msgs.declared.message.Message.TheVariants as message
use Rattle.law_copies_kept.specs.Below.server_model.declared.event.What.TheVariants.{Step}
use Rattle.law_copies_kept.specs.Below.server_model.Servers.{Server, Cluster, server_at}
use Rattle.law_copies_kept.specs.Below.server_model.Work.{Hand, thread_in}
use Rattle.law_copies_kept.specs.Below.server_model.Prepare.{box_of, ask_copy, ask_object}
use Rattle.law_copies_kept.specs.Below.server_model.Events.{can_step, has_phase, enabled, wait_step}
use Rattle.law_copies_kept.specs.Below.coherent_memory.Things.{at_slot}
use Rattle.law_copies_kept.specs.Below.coherent_memory.Follow.{Standing, locate}
use Rattle.law_copies_kept.specs.Below.coherent_memory.Sight.{sight}
use Rattle.law_copies_kept.specs.Below.coherent_memory.Words.{IsStale}
use Rattle.law_copies_kept.specs.Below.coherent_types.ClusterTypes.{IsCoherent}
use Rattle.law_copies_kept.specs.Below.law_counts_sums.Laws.{FewEvents}
use Rattle.law_words_borrows.proofs.Below.law_counts_things.things.Mail.{Mailed, mail_sent}
use Rattle.law_words_borrows.proofs.Below.law_counts_things.things.Messages.{Light}
use Rattle.law_words_borrows.specs.Below.law_words_kept.reads.Reading.{Reads, LiesUnder}
use Rattle.law_words_borrows.proofs.Below.law_words_kept.reads.FreshReads.{read_are_fresh}
use Rattle.law_words_borrows.proofs.Below.law_words_kept.reads.Homes.{read_lie_there}
use Rattle.law_copies_kept.proofs.Below.law_results_reads.Known.{Steps, standing, paths, goes}
use Rattle.law_words_borrows.proofs.Below.law_words_kept.stays.Sites.{HandAlike}
use Rattle.law_words_borrows.proofs.Below.law_words_kept.stays.Steps.{TakesNoneHere}
use Rattle.law_words_borrows.proofs.Below.law_words_kept.prepared.Hands.{Walks, calm_waits}
use Rattle.law_words_borrows.proofs.Below.law_words_values.carried.Hands.{places, each_together, puts_alike}
use Rattle.law_words_borrows.proofs.Below.law_words_paths.words.Tints.{SlotPut}
use Rattle.law_copies_kept.proofs.copies.Clean.{Leaves, all_goes}
use Rattle.law_copies_kept.proofs.references.Asked.{asking}
use Rattle.law_copies_kept.proofs.references.Kept.{has_none}
use Rattle.law_copies_kept.proofs.references.CleanReads.{clean_there}
use Rattle.law_copies_kept.proofs.references.ReadAsks.{Asked, Followed, for_copy, for_object, for_tinted}
use Rattle.law_copies_kept.proofs.references.ReadCommits.{asks_so}
use Rattle.law_copies_kept.proofs.references.Worded.{worded_on, has_none_but}
use Rattle.law_copies_kept.proofs.references.WordedCopies.{new_asked}
use Rattle.law_copies_kept.proofs.objects.Outcome.{Left, stayed, one_worded}
use Rattle.law_copies_kept.proofs.objects.SlotWords.{its_cell, was_dirty, next_is_new, tint_ok, tint_wrote, tint_worded}
use Rattle.law_copies_kept.proofs.objects.Following.{Put, IsOk, its, X, alike_to, none_then, alike_leaves, walks_there, copy_alike, object_alike, mail_of}

module _ (k : Cluster) (coherent : IsCoherent k) (few : FewEvents k) (s : Server) (here : server_at k.servers s.rest.number ≡ Some s) (t : ℕ) (y : ThreadState) (at : thread_in s.threads t ≡ Some y) (on : enabled k.options s (Step t) ≡ true)
    (w : Lval) (i : Instr) (most : ℕ) (reading : Reads i w most) (code : slice_get k.code y.pc ≡ Some i) (free : (v : ℕ) → y.phase ≡ phase.Taken v → ⊥) where
  abbrev n : ℕ
  n = s.rest.number

  abbrev z : Steps k n t s y i
  z = its k coherent few s here t y at on w i most reading code free

  abbrev x : Standing
  x = standing k n t s y i z

  abbrev Known : Hand → Type 0
  Known = X k coherent few s here t y at on w i most reading code free

  abbrev Ok : Hand → Type 0
  Ok = IsOk k coherent few s here t y at on w i most reading code free

  abbrev Ends : Hand → Type 0
  Ends h = Left k coherent.sound few s here t y at i code (wait_step h)

  awake : (u : ℕ) → y.phase ≡ phase.WaitCell u → ⊥
  awake u = calm_waits y.phase u (subst (λ o. has_phase can_step o ≡ true) at on)

  -- a pointer on the way has the word of a clean cell
  clean_word : (b : BoxPtr) (f : Followed k n t s y i z w most b) → ((q : MutRef) → f.value ≡ value.Mut q → q.dirty ≡ true → ⊥) → has_none k b.word ≡ 0
  clean_word b f none_dirty =
      let fresh : IsStale (sight k) (Some f.location) → ⊥ = read_are_fresh k (paths k n t s y i z) x i w most f.stars f.location (goes k n t s y i z) code reading f.under f.located in
      let lies_it : LiesUnder k f.pointer = read_lie_there k coherent x i w most f.stars f.location f.value f.pointer (goes k n t s y i z) code reading f.under awake f.located f.stood f.points in
      subst (λ v. has_none k v ≡ 0) f.word (clean_there k coherent f.location f.value f.pointer f.stood f.points fresh none_dirty lies_it.server lies_it.address lies_it.there)

  -- what is asked for is a copy of what is clean, or all is as it was
  pub asked_left : (h : Hand) → Ok h → Asked k n t s y i z Known w most h → Ends h
  asked_left h ok (for_copy d h1 b c a f clean e) =
      subst (λ (v : Hand). Ok v → Ends v) (sym e)
      (λ fine. (
        stayed (alike_leaves k coherent few s here t y at on w i most reading code free (ask_copy b h1) fine (copy_alike k coherent few s here t y at on w i most reading code free d h1 b c a))
            (λ mail. mail_sent (Light (asking (has_none k))) n s.rest.outbox h1.work.rest (server_of b.word) (message.Fetch b.word b.object h1.work.rest.number h1.thread.number) (clean_word b f clean) (mail_of k coherent few s here t y at on w i most reading code free (has_none k) h1 a.number c.1 mail)),
        places k coherent.sound s here t y at (ask_copy b h1) fine,
      )) ok
  asked_left h ok (for_object d h1 b c a e) =
      subst (λ (v : Hand). Ok v → Ends v) (sym e)
      (λ fine. (
        stayed (alike_leaves k coherent few s here t y at on w i most reading code free (ask_object b h1) fine (object_alike k coherent few s here t y at on w i most reading code free d h1 b c a))
            (λ mail. mail_sent (Light (asking (has_none k))) n s.rest.outbox h1.work.rest (server_of b.word) (message.Move b.word b.object h1.work.rest.number h1.thread.number) refl (mail_of k coherent few s here t y at on w i most reading code free (has_none k) h1 a.number c.1 mail)),
        places k coherent.sound s here t y at (ask_object b h1) fine,
      )) ok
  asked_left h ok (for_tinted d h1 h3 stars j q c a lt located e stood dirty worded r) = subst (λ (v : Hand). Ok v → Ends v) (sym r) tints ok
    where
      at_l : locate (sight k).ground y.number w.slot stars ≡ Some (at_slot h1.thread.number j)
      at_l = located ∙ ap (λ m. Some (at_slot m j)) (sym a.id)

      fresh : IsStale (sight k) (Some (at_slot h1.thread.number j)) → ⊥
      fresh = read_are_fresh k (paths k n t s y i z) x i w most stars (at_slot h1.thread.number j) (goes k n t s y i z) code reading lt at_l

      under : LiesUnder k (box_of q)
      under = read_lie_there k coherent x i w most stars (at_slot y.number j) (value.Mut q) (box_of q) (goes k n t s y i z) code reading lt awake located stood refl

      walks : Walks k coherent s here t y at h1
      walks = walks_there k coherent few s here t y at on w i most reading code free h1 c (d, a)

      stay : Leaves k (Put k coherent few s here t y at on w i most reading code free h1)
      stay = alike_leaves k coherent few s here t y at on w i most reading code free h1 c.0 (alike_to k coherent few s here t y at on w i most reading code free h1 c (d, a))

      g3 : Ok h3
      g3 = tint_ok k coherent few s here t y at h1 walks stay j q e dirty fresh under h3 worded

      wrote : SlotPut h1 h3 j (next_word q.word) (value.Mut q)
      wrote = tint_wrote k coherent few s here t y at h1 walks stay j q e dirty fresh under h3 worded

      asks : Hand
      asks = ask_copy (record { word = next_word q.word; object = q.object }) h3

      asking_alike : HandAlike k.code n [] h3 asks
      asking_alike =
          asks_so k.code n h3 (subst (λ th. TakesNoneHere k.code th) (sym wrote.thread) (none_then k coherent few s here t y at on w i most reading code free h1 c (d, a)))
          (act.Ask q.object (next_word q.word)) (server_of (next_word q.word)) (message.Fetch (next_word q.word) q.object h3.work.rest.number h3.thread.number) (phase.WaitCell (next_word q.word)) g3.number refl (λ p f b. b) (λ v m. refl)

      tints : Ok asks → Ends asks
      tints fine = (
        one_worded (record {
          object = q.object;
          word = next_word q.word;
          fresh = next_is_new k coherent few s here t y at h1 walks stay j q e dirty fresh under;
          dirty = was_dirty k coherent few s here t y at h1 walks stay j q e dirty fresh under;
          its = its_cell k coherent few s here t y at h1 walks stay j q e dirty fresh under;
          worded = worded_on (tint_worded k coherent few s here t y at h1 walks stay j q e dirty fresh under h3 worded)
              (all_goes.seen (Put k coherent few s here t y at on w i most reading code free h3) (Put k coherent few s here t y at on w i most reading code free asks) (places k coherent.sound s here t y at h3 g3) (places k coherent.sound s here t y at asks fine) refl
              (puts_alike k coherent.sound s here t y at h3 asks g3.number g3.thread (each_together asking_alike)));
          sends = λ mail. mail_sent (Light (asking (has_none_but k (next_word q.word)))) n s.rest.outbox h3.work.rest (server_of (next_word q.word)) (message.Fetch (next_word q.word) q.object h3.work.rest.number h3.thread.number) (new_asked k (next_word q.word))
              (subst (λ v. Mailed (Light (asking (has_none_but k (next_word q.word)))) n s.rest.outbox v) (sym wrote.rest) (mail_of k coherent few s here t y at on w i most reading code free (has_none_but k (next_word q.word)) h1 a.number c.1 mail));
        }),
        places k coherent.sound s here t y at asks fine,
      )
