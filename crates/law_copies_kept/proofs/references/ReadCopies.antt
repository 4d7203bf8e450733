-- Copies are right after steps that copy, dup or lock.
use Rattle.std.proofs.Common.{Bool, ◌≡◌, ◌⊎◌, inl, inr, ⊎_elim, ℕ, ◌<◌, true, false, [], Some, refl, sym, subst, ◌∙◌, Option, ap, None}
use Rattle.std.specs.Bool.{⊤}
use Rattle.std.specs.Prelude.{slice_get}
use Rattle.law_words_borrows.specs.Below.fr_base.declared.place.Lval.{Lval}
use Rattle.law_words_borrows.specs.Below.fr_base.declared.instruction.Instr.{Instr}
use Rattle.law_words_borrows.specs.Below.global_addr.Words.{server_of}
use Rattle.law_words_borrows.specs.Below.heap_partition.declared.value.BoxPtr.{BoxPtr}
use Rattle.law_words_borrows.specs.Below.mut_borrow.declared.mutable.MutRef.{MutRef}
use Rattle.law_words_borrows.specs.Below.journal.View.{EntryView}
use Rattle.law_words_borrows.specs.Below.thread_state.View.{ThreadState}
use Rattle.law_words_borrows.specs.Below.thread_state.declared.phase.Phase.TheVariants as phase
use Rattle.law_words_borrows.specs.Below.thread_state.declared.value.Value.TheVariants as value
use Rattle.law_words_borrows.specs.Below.server_msgs.declared.message.Message.TheVariants as message
use Rattle.law_words_borrows.specs.Below.server_model.declared.event.What.TheVariants.{Step}
use Rattle.law_words_borrows.specs.Below.server_model.Servers.{Server, Cluster, server_at, Rest}
use Rattle.law_words_borrows.specs.Below.server_model.Work.{Hand, thread_in}
use Rattle.law_words_borrows.specs.Below.server_model.Prepare.{Prepared, ready, requested, nothing, read_stars}
use Rattle.law_words_borrows.specs.Below.server_model.Places.{in_slot}
use Rattle.law_words_borrows.specs.Below.server_model.Events.{can_step, has_phase, enabled, begin_work, Stepped, wait_step, prepared, step}
use Rattle.law_words_borrows.specs.Below.server_model.Clusters.{apply}
use Rattle.law_words_borrows.specs.Below.coherent_memory.Things.{at_slot}
use Rattle.law_words_borrows.specs.Below.coherent_memory.Follow.{Standing, locate, value_in}
use Rattle.law_words_borrows.specs.Below.coherent_memory.Sight.{sight}
use Rattle.law_words_borrows.specs.Below.coherent_memory.Words.{IsStale}
use Rattle.law_words_borrows.specs.Below.coherent_types.ClusterTypes.{IsCoherent}
use Rattle.law_words_borrows.specs.Below.law_counts_sums.Laws.{Gives, FewEvents}
use Rattle.law_words_borrows.proofs.Below.law_counts_sums.Results.{weaker}
use Rattle.law_copies_kept.proofs.Below.law_counts_things.things.Small.{Made}
use Rattle.law_copies_kept.proofs.Below.law_counts_things.things.Mail.{Mail, Mailed, mail_sent}
use Rattle.law_copies_kept.proofs.Below.law_counts_things.things.Messages.{Light}
use Rattle.law_copies_kept.specs.Below.law_words_kept.reads.Reading.{LiesUnder}
use Rattle.law_copies_kept.proofs.Below.law_words_kept.reads.FreshReads.{read_are_fresh}
use Rattle.law_copies_kept.proofs.Below.law_words_kept.reads.Homes.{read_lie_there}
use Rattle.law_words_borrows.proofs.Below.law_results_reads.Known.{standing, paths, goes, Steps}
use Rattle.law_copies_kept.proofs.Below.law_words_kept.stays.Sites.{HandAlike}
use Rattle.law_copies_kept.proofs.Below.law_words_kept.prepared.Untaken.{not_taken}
use Rattle.law_copies_kept.proofs.Below.law_words_kept.prepared.Hands.{calm_waits}
use Rattle.law_copies_kept.proofs.Below.law_words_kept.prepared.Asking.{found_number}
use Rattle.law_copies_kept.proofs.Below.law_words_values.carried.Hands.{left_by, step_by}
use Rattle.law_copies_kept.proofs.copies.Clean.{Leaves, all_goes}
use Rattle.law_copies_kept.specs.references.Clean.{ReadsAll, a_copy, a_dup, a_lock, ReadsKeepCopies}
use Rattle.law_copies_kept.proofs.references.Asked.{asking, ready_asks}
use Rattle.law_copies_kept.proofs.references.Kept.{has_none, none_before, kept_where, step_asks}
use Rattle.law_copies_kept.proofs.references.CleanReads.{clean_there}
use Rattle.law_copies_kept.proofs.references.ReadHands.{IsCalm}
use Rattle.law_copies_kept.proofs.references.ReadAsks.{Asked, Followed, for_copy, for_object, for_tinted, AsksSo}
use Rattle.law_copies_kept.proofs.references.ReadSteps.{reads_of, access_is, X, IsOk, its, asked, known_ready, Outcome, went, asks, Went, outcome, ok_steps, alike_leaves, went_leaves, copy_alike, object_alike}
use Rattle.law_words_borrows.proofs.Below.law_counts_sums.Prepares.{PreparedOk}
use Rattle.law_copies_kept.specs.copies.Copies.{CopiesAreRight}
use Rattle.law_words_borrows.specs.Below.global_addr.Words.{next_word}
use Rattle.law_words_borrows.specs.Below.server_model.NewWords.{issue_tint}
use Rattle.law_words_borrows.specs.Below.server_model.Places.{put_word}
use Rattle.law_words_borrows.specs.Below.server_model.Prepare.{box_of, ask_copy}
use Rattle.law_words_borrows.proofs.Below.law_counts_sums.Results.{both_give}
use Rattle.law_words_borrows.specs.Below.coherent_memory.Coherent.{IsSound}
use Rattle.law_words_borrows.proofs.Below.law_results_reads.Reading.{Reading}
use Rattle.law_words_borrows.proofs.Below.law_results_reads.Starred.{bound}
use Rattle.law_copies_kept.proofs.Below.law_words_kept.stays.Steps.{hand_itself}
use Rattle.law_copies_kept.proofs.references.Worded.{Worded, worded_on, has_none_but}
use Rattle.law_copies_kept.proofs.references.WordedCopies.{then_holds, new_asked, none_but_before, worded_right}
use Rattle.law_copies_kept.proofs.references.Tinted.{unissued, its_cell, was_dirty, wrote, asked_worded}

-- what is shown under a premise
under_premise : {A : Type 0} {X : Type 0} (P : X → Type 0) (o : Option X) → (A → Gives P o) → Gives (λ x. A → P x) o
under_premise P None f = tt
under_premise P (Some x) f = f

module _ (k : Cluster) (coherent : IsCoherent k) (few : FewEvents k) (s : Server) (here : server_at k.servers s.rest.number ≡ Some s) (t : ℕ) (y : ThreadState) (at : thread_in s.threads t ≡ Some y) (on : enabled k.options s (Step t) ≡ true)
    (w : Lval) (i : Instr) (reading : ReadsAll w i) (code : slice_get k.code y.pc ≡ Some i) (free : (v : ℕ) → y.phase ≡ phase.Taken v → ⊥) where
  abbrev n : ℕ
  n = s.rest.number

  abbrev start : Hand
  start = record { work = begin_work s.rest; thread = y }

  abbrev Alike : Hand → Type 0
  Alike h = HandAlike k.code n [] start h

  abbrev Past : Hand → Type 0
  Past h = Alike h ⊎ Went k coherent few s here t y at on w i reading code free h

  abbrev Known_so : Hand → Type 0
  Known_so = X k coherent few s here t y at on w i reading code free

  abbrev Steps_so : Type 0
  Steps_so = Steps k n t s y i

  abbrev z : Steps_so
  z = its k coherent few s here t y at on w i reading code free

  abbrev AskedSo : Hand → Type 0
  AskedSo h = Asked k n t s y i z Known_so w w.depth h

  -- messages of which the weights are nothing
  abbrev Sent_so : (ℕ → ℕ) → Rest → Type 0
  Sent_so f r = Mailed (Light (asking f)) n s.rest.outbox r

  abbrev Sends : Stepped → Type 0
  Sends d = Sent_so (has_none k) s.rest → Sent_so (has_none k) d.hand.work.rest

  -- a dirty reference got the next colour, and a copy was asked for under it
  data Tints (d : Stepped) : Type 0 where
    tinted : (m : ℕ) (h1 h3 : Hand) (stars j : ℕ) (q : MutRef) → Known_so h1 → Reading y s.rest (bound k n t s y i z) m h1 → stars < w.depth → locate (sight k).ground y.number w.slot stars ≡ Some (at_slot y.number j)
        → slice_get h1.thread.slots j ≡ Some (value.Mut q) → value_in (sight k).ground (at_slot y.number j) ≡ Some (value.Mut q) → q.dirty ≡ true → put_word (in_slot j) (issue_tint (box_of q) h1.work) h1 ≡ Some h3
        → d.hand ≡ (wait_step (ask_copy (record { word = next_word q.word; object = q.object }) h3)).hand → Tints d

  abbrev Result : Stepped → Type 0
  Result d = (Past d.hand × Sends d) ⊎ Tints d

  -- WHAT IS ASKED FOR

  -- nothing was sent before
  mail_of : (f : ℕ → ℕ) (h : Hand) → h.work.rest.number ≡ n → IsCalm s.rest y h.work.rest h.thread → Sent_so f s.rest → Sent_so f h.work.rest
  mail_of f h number calm mail =
      subst (λ b. Mail (Light (asking f)) n s.rest.outbox h.work.rest.number b h.work.rest.outbox) (sym calm.same_inbox)
      (subst (λ b. Mail (Light (asking f)) n s.rest.outbox h.work.rest.number s.rest.inbox b) (sym calm.same_outbox)
      (subst (λ m. Mail (Light (asking f)) n s.rest.outbox m s.rest.inbox s.rest.outbox) (sym number) mail))

  -- a pointer on the way has the word of a clean cell
  clean_word : (b : BoxPtr) (f : Followed k n t s y i z w w.depth b) → ((q : MutRef) → f.value ≡ value.Mut q → q.dirty ≡ true → ⊥) → has_none k b.word ≡ 0
  clean_word b f none_dirty =
      let x : Standing = standing k n t s y i z in
      let reads = reads_of w i reading in
      let awake : (u : ℕ) → y.phase ≡ phase.WaitCell u → ⊥ = λ u. calm_waits y.phase u (subst (λ o. has_phase can_step o ≡ true) at on) in
      let fresh : IsStale (sight k) (Some f.location) → ⊥ = read_are_fresh k (paths k n t s y i z) x i w w.depth f.stars f.location (goes k n t s y i z) code reads f.under f.located in
      let lies_it : LiesUnder k f.pointer = read_lie_there k coherent x i w w.depth f.stars f.location f.value f.pointer (goes k n t s y i z) code reads f.under awake f.located f.stood f.points in
      subst (λ v. has_none k v ≡ 0) f.word (clean_there k coherent f.location f.value f.pointer f.stood f.points fresh none_dirty lies_it.server lies_it.address lies_it.there)

  asked_result : (h : Hand) → AskedSo h → Result (wait_step h)
  asked_result h2 (for_copy d h1 b x a f c e) =
      subst (λ (c : Hand). Result (wait_step c)) (sym e)
      (let m = copy_alike k coherent few s here t y at on w i reading code free d h1 b x a in
      inl (
        inl (record { number = m.number; named = m.named; thread = m.thread; rest = m.rest }),
        λ mail. mail_sent (Light (asking (has_none k))) n s.rest.outbox h1.work.rest (server_of b.word) (message.Fetch b.word b.object h1.work.rest.number h1.thread.number) (clean_word b f c) (mail_of (has_none k) h1 a.number x.1 mail),
      ))
  asked_result h2 (for_object d h1 b x a e) =
      subst (λ (c : Hand). Result (wait_step c)) (sym e)
      (let m = object_alike k coherent few s here t y at on w i reading code free d h1 b x a in
      inl (
        inl (record { number = m.number; named = m.named; thread = m.thread; rest = m.rest }),
        λ mail. mail_sent (Light (asking (has_none k))) n s.rest.outbox h1.work.rest (server_of b.word) (message.Move b.word b.object h1.work.rest.number h1.thread.number) refl (mail_of (has_none k) h1 a.number x.1 mail),
      ))
  asked_result h2 (for_tinted d h1 h3 stars j q x a lt located e stood dirty put r) = inr (tinted d h1 h3 stars j q x a lt located e stood dirty put (ap (λ (c : Hand). (wait_step c).hand) r))

  -- what is sent
  abbrev Asks : Stepped → Type 0
  Asks d = Sends d ⊎ Tints d

  prepared_asks : (p : Prepared) → AsksSo k n t s y i z Known_so w w.depth p → PreparedOk (IsOk k coherent few s here t y at on w i reading code free) p → Made (IsCalm s.rest y) (λ r x. ⊤) p → Gives Asks (prepared k.options.servers i p)
  prepared_asks (ready h sp) q ok calm =
      weaker Sends Asks (prepared k.options.servers i (ready h sp))
      (under_premise (λ (d : Stepped). Sent_so (has_none k) d.hand.work.rest) (prepared k.options.servers i (ready h sp)) (λ mail. ready_asks (has_none k) k.options.servers n s.rest.outbox i sp h (mail_of (has_none k) h ok.number calm mail))) (λ d a. inl a)
  prepared_asks (requested h) q ok calm = ⊎_elim (λ (a : Past (wait_step h).hand × Sends (wait_step h)). inl a.1) (λ (a : Tints (wait_step h)). inr a) (asked_result h q)
  prepared_asks nothing q ok calm = tt

  asks_well : Gives Asks (step k.options.servers i start)
  asks_well =
      let parts = known_ready k coherent few s here t y at on w i reading code free in
      subst (λ p. Gives Asks (prepared k.options.servers i p)) (sym (access_is w i reading start)) (prepared_asks (read_stars w.depth start (in_slot w.slot)) (asked k coherent few s here t y at on w i reading code free) parts.0 parts.1)

  abbrev Came : Stepped → Type 0
  Came = Outcome k coherent few s here t y at on w i reading code free

  both_so : (d : Stepped) → Came d → Asks d → Result d
  both_so d (went q) (inl a) = inl (inr q, a)
  both_so d (went q) (inr a) = inr a
  both_so d (asks h a e) b = subst Result (sym e) (asked_result h a)

  result : Gives Result (step k.options.servers i start)
  result = both_give Came Asks Result (step k.options.servers i start) (outcome k coherent few s here t y at on w i reading code free k.options.servers) asks_well both_so

  -- IN ITS CLUSTER

  abbrev Right : Type 0
  Right = Gives (λ (d : Cluster × EntryView). CopiesAreRight d.0) (apply k (record { server = n; what = Step t }))

  -- no word is given
  plainly : Gives (λ (d : Stepped). Past d.hand) (step k.options.servers i start) → (Sent_so (has_none k) s.rest → Gives (λ (d : Stepped). Sent_so (has_none k) d.hand.work.rest) (step k.options.servers i start)) → Right
  plainly past mails =
      kept_where k (record { server = n; what = Step t }) coherent.sound few
      (left_by all_goes k s t coherent.sound few here (λ again.
      step_by Leaves k coherent.sound s here t y at i code Past
      (λ h ok p. ⊎_elim (λ (a : Alike h). alike_leaves k coherent few s here t y at on w i reading code free h ok a)
      (λ (q : Went k coherent few s here t y at on w i reading code free h). went_leaves k coherent few s here t y at on w i reading code free h ok q) p) (ok_steps k coherent few s here t y at on w i reading code free) past))
      (step_asks k n t s y i coherent.sound few here at code (has_none k) (none_before k coherent.sound) (λ again mail. mails mail))

  abbrev IsWorded : MutRef → Cluster → Type 0
  IsWorded q c = Worded k c q.object (next_word q.word) coherent.sound.words.have_words

  abbrev asking_hand : MutRef → Hand → Hand
  asking_hand q h3 = ask_copy (record { word = next_word q.word; object = q.object }) h3

  abbrev Follows : MutRef → Hand → Hand → Type 0
  Follows q h3 h2 = HandAlike k.code n [] (asking_hand q h3) h2

  waits : (q : MutRef) (h3 : Hand) → Follows q h3 (wait_step (asking_hand q h3)).hand
  waits q h3 = let b = hand_itself k.code n (asking_hand q h3) in record { number = b.number; named = b.named; thread = b.thread; rest = b.rest }

  -- one is
  worded_so : (d : Stepped) → step k.options.servers i start ≡ Some d → Tints d → Right
  worded_so d e (tinted m h1 h3 stars j q x a lt located slot stood dirty put same) =
      worded_right k (record { server = n; what = Step t }) coherent.sound few q.object (next_word q.word)
      (unissued k coherent few s here t y at on w i reading code free m h1 h3 stars j q x a lt located slot stood dirty put)
      (was_dirty k coherent few s here t y at on w i reading code free m h1 h3 stars j q x a lt located slot stood dirty put)
      (its_cell k coherent few s here t y at on w i reading code free m h1 h3 stars j q x a lt located slot stood dirty put)
      (then_holds (IsWorded q) (λ b c u l. worded_on u l) k s t coherent.sound few here (λ again.
      step_by (λ b c. IsWorded q c) k coherent.sound s here t y at i code (Follows q h3)
      (λ h2 ok2 f. asked_worded k coherent few s here t y at on w i reading code free m h1 h3 stars j q x a lt located slot stood dirty put h2 ok2 f) (ok_steps k coherent few s here t y at on w i reading code free)
      (subst (Gives (λ (d2 : Stepped). Follows q h3 d2.hand)) (sym e) (subst (Follows q h3) (sym same) (waits q h3)))))
      (step_asks k n t s y i coherent.sound few here at code (has_none_but k (next_word q.word)) (none_but_before k (next_word q.word) coherent.sound) (λ again mail.
      subst (Gives (λ (d2 : Stepped). Sent_so (has_none_but k (next_word q.word)) d2.hand.work.rest)) (sym e)
      (subst (λ (c : Hand). Sent_so (has_none_but k (next_word q.word)) c.work.rest) (sym same)
      (mail_sent (Light (asking (has_none_but k (next_word q.word)))) n s.rest.outbox h3.work.rest (server_of (next_word q.word)) (message.Fetch (next_word q.word) q.object h3.work.rest.number h3.thread.number) (new_asked k (next_word q.word))
      (subst (Sent_so (has_none_but k (next_word q.word))) (sym (wrote k coherent few s here t y at on w i reading code free m h1 h3 stars j q x a lt located slot stood dirty put).rest) (mail_of (has_none_but k (next_word q.word)) h1 a.number x.1 mail))))))

  by_result : (o : Option Stepped) → step k.options.servers i start ≡ o → Gives Result o → Right
  by_result None e r = plainly (subst (Gives (λ (d : Stepped). Past d.hand)) (sym e) tt) (λ mail. subst (Gives (λ (d : Stepped). Sent_so (has_none k) d.hand.work.rest)) (sym e) tt)
  by_result (Some d) e (inl p) = plainly (subst (Gives (λ (d : Stepped). Past d.hand)) (sym e) p.0) (λ mail. subst (Gives (λ (d : Stepped). Sent_so (has_none k) d.hand.work.rest)) (sym e) (p.1 mail))
  by_result (Some d) e (inr q) = worded_so d e q

  pub right : Right
  right = by_result (step k.options.servers i start) refl result

-- no instruction of these borrows
none_taken : (k : Cluster) (number t : ℕ) (s : Server) (y : ThreadState) (w : Lval) (i : Instr) → IsCoherent k → server_at k.servers number ≡ Some s → thread_in s.threads t ≡ Some y → slice_get k.code y.pc ≡ Some i → ReadsAll w i → (v : ℕ) → y.phase ≡ phase.Taken v → ⊥
none_taken k number t s y w _ coherent here at code a_copy = not_taken k coherent.sound number s here t y at _ code refl
none_taken k number t s y w _ coherent here at code a_dup = not_taken k coherent.sound number s here t y at _ code refl
none_taken k number t s y w _ coherent here at code a_lock = not_taken k coherent.sound number s here t y at _ code refl

-- a step that isn't enabled gives nothing
none_right : (k : Cluster) (t : ℕ) (s : Server) (y : ThreadState) (i : Instr) → IsSound k → FewEvents k → server_at k.servers s.rest.number ≡ Some s → thread_in s.threads t ≡ Some y → slice_get k.code y.pc ≡ Some i → enabled k.options s (Step t) ≡ false
    → Gives (λ (d : Cluster × EntryView). CopiesAreRight d.0) (apply k (record { server = s.rest.number; what = Step t }))
none_right k t s y i sound few here at code off =
    kept_where k (record { server = s.rest.number; what = Step t }) sound few
    (left_by all_goes k s t sound few here (λ on. let no : false ≡ true = sym off ∙ on in absurd cc))
    (step_asks k s.rest.number t s y i sound few here at code (has_none k) (none_before k sound) (λ on mail. let no : false ≡ true = sym off ∙ on in absurd cc))

pub reads_keep : ReadsKeepCopies
reads_keep k number t s y w i coherent few here at code reading =
    subst (λ n. server_at k.servers n ≡ Some s → Gives (λ (d : Cluster × EntryView). CopiesAreRight d.0) (apply k (record { server = n; what = Step t }))) (found_number number k.servers s here)
    (λ h. by h (enabled k.options s (Step t)) refl) here
  where
    by : server_at k.servers s.rest.number ≡ Some s → (b : Bool) → enabled k.options s (Step t) ≡ b → Gives (λ (d : Cluster × EntryView). CopiesAreRight d.0) (apply k (record { server = s.rest.number; what = Step t }))
    by h true on = right k coherent few s h t y at on w i reading code (none_taken k s.rest.number t s y w i coherent h at code reading)
    by h false off = none_right k t s y i coherent.sound few h at code off
