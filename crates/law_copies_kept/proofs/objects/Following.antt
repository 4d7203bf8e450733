-- A step that reads the pointers of its place, up to some star: what its hand is there, whether the place is ready or something is asked for.
use Rattle.std.proofs.Common.{◌≡◌, ℕ, ◌≤◌, true, false, [], ◌++◌, Some, refl, sym, subst, ◌∙◌, arith}
use Rattle.std.specs.Bool.{⊤}
use Rattle.std.specs.Prelude.{slice_get}
use Rattle.law_copies_kept.specs.Below.fr_base.declared.place.Lval.{Lval}
use Rattle.law_copies_kept.specs.Below.fr_base.declared.instruction.Instr.{Instr}
use Rattle.law_copies_kept.specs.Below.fr_base.declared.instruction.Instr.TheVariants as instr
use Rattle.law_copies_kept.specs.Below.fr_code.CodeTypes.{Entry, Table, InstrTypes, i_copy, i_dup, i_lock, i_borrow, i_borrow_mut}
use Rattle.law_copies_kept.specs.Below.global_addr.Words.{server_of}
use Rattle.law_copies_kept.specs.Below.heap_partition.declared.value.BoxPtr.{BoxPtr}
use Rattle.law_copies_kept.specs.Below.journal.declared.act.Act.TheVariants as act
use Rattle.law_copies_kept.specs.Below.thread_state.View.{ThreadState}
use Rattle.law_copies_kept.specs.Below.thread_state.declared.phase.Phase.TheVariants as phase
use Rattle.law_copies_kept.specs.Below.server_msgs.declared.message.Message.TheVariants as message
use Rattle.law_copies_kept.specs.Below.server_model.declared.event.What.TheVariants.{Step}
use Rattle.law_copies_kept.specs.Below.server_model.Servers.{Server, Cluster, server_at}
use Rattle.law_copies_kept.specs.Below.server_model.Work.{Hand, thread_in, without_thread}
use Rattle.law_copies_kept.specs.Below.server_model.Places.{in_slot}
use Rattle.law_copies_kept.specs.Below.server_model.Prepare.{Prepared, ready, requested, nothing, ReadTo, ask_copy, ask_object, prepare, read_stars}
use Rattle.law_copies_kept.specs.Below.server_model.Events.{enabled, begin_work}
use Rattle.law_copies_kept.specs.Below.coherent_memory.Things.{servers_things}
use Rattle.law_copies_kept.specs.Below.coherent_types.ClusterTypes.{IsCoherent}
use Rattle.law_copies_kept.specs.Below.law_counts_sums.Laws.{FewEvents}
use Rattle.law_copies_kept.proofs.Below.law_counts_sums.RulesKeep.{sums_kept}
use Rattle.law_copies_kept.proofs.Below.law_counts_sums.Bags.{all_standing}
use Rattle.law_copies_kept.proofs.Below.law_counts_sums.Events.{others_of}
use Rattle.law_copies_kept.proofs.Below.law_counts_sums.Prepares.{PreparedOk, prepares}
use Rattle.law_words_borrows.proofs.Below.law_counts_things.things.Small.{Made}
use Rattle.law_copies_kept.proofs.Below.law_results_reads.Reading.{Reading}
use Rattle.law_copies_kept.proofs.Below.law_results_reads.Starred.{bound, Fine}
use Rattle.law_words_borrows.proofs.Below.law_words_kept.stays.Sites.{HandAlike}
use Rattle.law_words_borrows.proofs.Below.law_words_kept.stays.Steps.{TakesNoneHere, hand_chain, untaken_here}
use Rattle.law_words_borrows.proofs.Below.law_words_values.carried.Hands.{Ok, seen, put, each_together, first_ok, moved_goes}
use Rattle.law_copies_kept.proofs.copies.Clean.{Leaves, all_goes}
use Rattle.law_copies_kept.proofs.references.ReadHands.{IsCalm, calm_start, calm_ready, read_takes, read_alike}
use Rattle.law_copies_kept.proofs.references.ReadAsks.{AsksSo, Known, stars_ask}
use Rattle.law_copies_kept.proofs.Below.law_results_reads.Followed.{Place}
use Rattle.law_copies_kept.specs.Below.fr_base.declared.instruction.Operand.{Operand}
use Rattle.law_words_borrows.specs.Below.law_words_kept.reads.Reading.{MayRead, Reads, copies, shares, lends, dups, locks}
use Rattle.law_words_borrows.proofs.Below.law_words_kept.reads.ReadPlaces.{may_read_so}
use Rattle.law_copies_kept.proofs.Below.law_results_reads.Known.{Steps, standing, paths, goes, entry, typed, types}
use Rattle.law_copies_kept.proofs.Below.law_results_reads.Readers.{IsFree, stars_fine, to_entry}
use Rattle.law_words_borrows.proofs.Below.law_words_kept.prepared.Hands.{State, Walks, first_hand, unseen}
use Rattle.law_words_borrows.proofs.Below.law_counts_things.things.Mail.{Mail, Mailed}
use Rattle.law_words_borrows.proofs.Below.law_counts_things.things.Messages.{Light}
use Rattle.law_copies_kept.proofs.references.Asked.{asking}
use Rattle.law_copies_kept.proofs.references.ReadCommits.{asks_so}
use Rattle.law_copies_kept.proofs.objects.Askers.{reads_within}

-- AN INSTRUCTION THAT READS UP TO SOME STAR

ends_none : (w : Lval) (i : Instr) (m : ℕ) → Reads i w m → (o : Operand) → i ≡ instr.End o → ⊥
ends_none w _ m (copies q) o e = absurd cc
ends_none w _ m (shares q) o e = absurd cc
ends_none w _ m (lends q) o e = absurd cc
ends_none w _ m (dups q) o e = absurd cc
ends_none w _ m (locks q) o e = absurd cc

-- its place is short
short_place : (table : Table) (e e2 : Entry) (w : Lval) (i : Instr) (m : ℕ) → Reads i w m → InstrTypes table e i e2 → w.depth ≤ 8
short_place table _ _ w _ m (copies q) (i_copy waits has twice free) = has.short
short_place table _ _ w _ m (shares q) (i_borrow waits has free) = has.short
short_place table _ _ w _ m (lends q) (i_borrow_mut waits has unlent) = has.short
short_place table _ _ w _ m (dups q) (i_dup waits has free) = has.short
short_place table _ _ w _ m (locks q) (i_lock name waits has free new) = has.short

module _ (k : Cluster) (coherent : IsCoherent k) (few : FewEvents k) (s : Server) (here : server_at k.servers s.rest.number ≡ Some s) (t : ℕ) (y : ThreadState) (at : thread_in s.threads t ≡ Some y) (on : enabled k.options s (Step t) ≡ true)
    (w : Lval) (i : Instr) (most : ℕ) (reading : Reads i w most) (code : slice_get k.code y.pc ≡ Some i) (free : (v : ℕ) → y.phase ≡ phase.Taken v → ⊥) where
  abbrev n : ℕ
  n = s.rest.number

  abbrev start : Hand
  start = record { work = begin_work s.rest; thread = y }

  abbrev pub Put : Hand → Cluster
  Put h = put k coherent.sound s here t y at h

  abbrev pub IsOk : Hand → Type 0
  IsOk = Ok k coherent.sound s here t y at

  abbrev pub its : Steps k n t s y i
  its = record { coherent = coherent; few = few; here = here; on = on; at = at; code = code }

  pub none : TakesNoneHere k.code y
  none = untaken_here y.number y.phase (slice_get k.code y.pc) free

  -- what is known of a hand that reads
  abbrev pub X : Hand → Type 0
  X h = IsOk h × IsCalm s.rest y h.work.rest h.thread

  known : (d : ℕ) → Known k n t s y i its X (read_stars d start (in_slot w.slot))
  known d =
      let a = Some (ReadTo (record w { depth = d })) in
      both (prepare a start) (prepares sums_kept n s.events t (all_standing n (without_thread s.threads t) ++ servers_things (others_of k.servers n)) a start (first_ok k coherent.sound s here t y at)) (calm_ready s.rest y a start (calm_start s.rest y))
    where
      both : (p : Prepared) → PreparedOk IsOk p → Made (IsCalm s.rest y) (λ r x. ⊤) p → Known k n t s y i its X p
      both (ready h sp) a b = (record { number = a.number; thread = a.thread; bag = a.bag }, b)
      both (requested h) a b = tt
      both nothing a b = tt

  -- THE PLACE

  may : MayRead k (paths k n t s y i its).types (standing k n t s y i its) w
  may = may_read_so k (paths k n t s y i its) (standing k n t s y i its) i w most (goes k n t s y i its) code reading

  its_place : Place k (paths k n t s y i its) (standing k n t s y i its) false w
  its_place = record { free = may.free; base = may.base; boxes = may.boxes; type = may.type; resolves = may.resolves; unmarked = may.unmarked }

  short : w.depth ≤ 8
  short =
      let leads_on = typed k n t s y i its in
      let to = to_entry (types k n t s y i its).table y.pc (entry k n t s y i its) i leads_on.0 leads_on.1 (ends_none w i most reading) in
      short_place (types k n t s y i its).table (entry k n t s y i its) to.0 w i most reading to.1

  le : most ≤ w.depth
  le = reads_within i w most reading

  -- nothing was taken for it
  unheld : IsFree k n t s y i its false w its_place most
  unheld d lt under l located m v stands leads_on u p so_many taken there depth last = free u taken

  abbrev pub AllStars : Prepared
  AllStars = read_stars most start (in_slot w.slot)

  pub fine : Fine k n t s y i its w.slot most AllStars
  fine = stars_fine k n t s y i its false w its_place short most le unheld

  pub asked : AsksSo k n t s y i its X w most AllStars
  asked = stars_ask k n t s y i its X false w its_place short most le unheld known most (omega arith)

  -- the sums and what no small step touches
  pub known_ready : PreparedOk IsOk AllStars × Made (IsCalm s.rest y) (λ r x. ⊤) AllStars
  known_ready =
      let a = Some (ReadTo (record w { depth = most })) in (
        prepares sums_kept n s.events t (all_standing n (without_thread s.threads t) ++ servers_things (others_of k.servers n)) a start (first_ok k coherent.sound s here t y at),
        calm_ready s.rest y a start (calm_start s.rest y),
      )

  -- FROM THE START

  abbrev pub Reads_to : Hand → Type 0
  Reads_to h = (d : ℕ) × Reading y s.rest (bound k n t s y i its) d h

  pub alike_to : (h : Hand) → X h → Reads_to h → HandAlike k.code n [] start h
  alike_to h x a = read_alike k.code n (bound k n t s y i its) a.0 start h a.1 x.1

  pub none_then : (h : Hand) → X h → Reads_to h → TakesNoneHere k.code h.thread
  none_then h x a = read_takes k.code (bound k n t s y i its) a.0 start h a.1 x.1 ∙ none

  -- a hand in which words see the same, so cells, words and changed references stay
  pub alike_leaves : (h : Hand) → IsOk h → HandAlike k.code n [] start h → Leaves k (Put h)
  alike_leaves h ok a = moved_goes k coherent.sound s here t y at all_goes h ok (seen (each_together a))

  pub state_there : (h : Hand) → X h → Reads_to h → State k coherent s here t y at h
  state_there h x a = unseen k coherent s here t y at start h (first_hand k coherent s here t y at) x.0 (alike_to h x a)

  pub walks_there : (h : Hand) → X h → Reads_to h → Walks k coherent s here t y at h
  walks_there h x a = record { state = state_there h x a; untaken = λ z. none_then h x a; gift = (a.1).gift }

  -- where a copy or an object is asked for, nothing was changed before
  pub copy_alike : (d : ℕ) (h1 : Hand) (b : BoxPtr) → X h1 → Reading y s.rest (bound k n t s y i its) d h1 → HandAlike k.code n [] start (ask_copy b h1)
  copy_alike d h1 b x a =
      hand_chain k.code n start h1 (ask_copy b h1) (alike_to h1 x (d, a))
      (asks_so k.code n h1 (none_then h1 x (d, a)) (act.Ask b.object b.word) (server_of b.word) (message.Fetch b.word b.object h1.work.rest.number h1.thread.number) (phase.WaitCell b.word) a.number refl (λ q e z. z) (λ c j. refl))

  pub object_alike : (d : ℕ) (h1 : Hand) (b : BoxPtr) → X h1 → Reading y s.rest (bound k n t s y i its) d h1 → HandAlike k.code n [] start (ask_object b h1)
  object_alike d h1 b x a =
      hand_chain k.code n start h1 (ask_object b h1) (alike_to h1 x (d, a))
      (asks_so k.code n h1 (none_then h1 x (d, a)) (act.Pull b.object b.word) (server_of b.word) (message.Move b.word b.object h1.work.rest.number h1.thread.number) (phase.WaitCell b.word) a.number refl (λ q e z. z) (λ c j. refl))

  -- nothing was sent before
  pub mail_of : (f : ℕ → ℕ) (h : Hand) → h.work.rest.number ≡ n → IsCalm s.rest y h.work.rest h.thread → Mailed (Light (asking f)) n s.rest.outbox s.rest → Mailed (Light (asking f)) n s.rest.outbox h.work.rest
  mail_of f h number calm mail =
      subst (λ b. Mail (Light (asking f)) n s.rest.outbox h.work.rest.number b h.work.rest.outbox) (sym calm.same_inbox)
      (subst (λ b. Mail (Light (asking f)) n s.rest.outbox h.work.rest.number s.rest.inbox b) (sym calm.same_outbox)
      (subst (λ m. Mail (Light (asking f)) n s.rest.outbox m s.rest.inbox s.rest.outbox) (sym number) mail))
