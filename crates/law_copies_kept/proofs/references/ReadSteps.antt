-- A step that copies, dups or locks: what its hand is, whether the place is ready or something is asked for.
use Rattle.std.proofs.Common.{◌≡◌, ℕ, ◌≤◌, true, false, [], ◌++◌, Some, refl, sym, ap, subst, ◌∙◌, arith}
use Rattle.std.specs.Bool.{⊤}
use Rattle.std.specs.Prelude.{slice_get}
use Rattle.law_words_borrows.specs.Below.fr_base.declared.place.Lval.{Lval}
use Rattle.law_words_borrows.specs.Below.fr_base.declared.instruction.Instr.{Instr}
use Rattle.law_words_borrows.specs.Below.fr_base.declared.instruction.Instr.TheVariants as instr
use Rattle.law_words_borrows.specs.Below.law_results_reads.Below.fr_typing.Kinds.{Kind, own, mutex}
use Rattle.law_words_borrows.specs.Below.fr_code.CodeTypes.{Entry, Table, InstrTypes, i_copy, i_dup, i_lock}
use Rattle.law_words_borrows.specs.Below.global_addr.Words.{server_of}
use Rattle.law_words_borrows.specs.Below.heap_partition.declared.value.BoxPtr.{BoxPtr}
use Rattle.law_words_borrows.specs.Below.heap_partition.declared.value.Owned.{Owned}
use Rattle.law_words_borrows.specs.Below.mut_borrow.declared.shared.SharedRef.{SharedRef}
use Rattle.law_words_borrows.specs.Below.journal.declared.act.Act.TheVariants as act
use Rattle.law_words_borrows.specs.Below.thread_state.View.{ThreadState}
use Rattle.law_words_borrows.specs.Below.thread_state.declared.phase.Phase.TheVariants as phase
use Rattle.law_words_borrows.specs.Below.thread_state.declared.value.Value.TheVariants as value
use Rattle.law_words_borrows.specs.Below.server_msgs.declared.message.Message.TheVariants as message
use Rattle.law_words_borrows.specs.Below.server_model.declared.event.What.TheVariants.{Step}
use Rattle.law_words_borrows.specs.Below.server_model.Servers.{Server, Cluster, server_at}
use Rattle.law_words_borrows.specs.Below.server_model.Work.{Hand, look, thread_in, without_thread}
use Rattle.law_words_borrows.specs.Below.server_model.Places.{Spot, in_slot, value_at, value_in as cell_value}
use Rattle.law_words_borrows.specs.Below.server_model.Prepare.{Prepared, ready, requested, nothing, ReadTo, access_of, ask_copy, ask_object, prepare, read_stars}
use Rattle.law_words_borrows.specs.Below.server_model.Commit.{commit}
use Rattle.law_words_borrows.specs.Below.server_model.Events.{enabled, begin_work, Stepped, wait_step, committed, prepared, step}
use Rattle.law_words_borrows.specs.Below.coherent_memory.Things.{Location, servers_things}
use Rattle.law_words_borrows.specs.Below.coherent_memory.Coherent.{Holds, first_at_holder}
use Rattle.law_words_borrows.specs.Below.coherent_types.ClusterTypes.{IsCoherent}
use Rattle.law_words_borrows.proofs.Below.law_words_paths.paths.Sole.{some_is}
use Rattle.law_words_borrows.specs.Below.law_counts_sums.Kinds.{instr_kind}
use Rattle.law_words_borrows.specs.Below.law_counts_sums.Laws.{Gives, FewEvents}
use Rattle.law_words_borrows.proofs.Below.law_counts_sums.Proved.{IsProvedKind}
use Rattle.law_words_borrows.proofs.Below.law_counts_sums.Results.{weaker}
use Rattle.law_words_borrows.proofs.Below.law_counts_sums.RulesKeep.{sums_kept, sums_spend}
use Rattle.law_words_borrows.proofs.Below.law_counts_sums.Bags.{all_standing}
use Rattle.law_words_borrows.proofs.Below.law_counts_sums.Events.{others_of}
use Rattle.law_words_borrows.proofs.Below.law_counts_sums.Prepares.{PreparedOk, prepares}
use Rattle.law_words_borrows.proofs.Below.law_counts_sums.Steps.{step_keeps}
use Rattle.law_copies_kept.proofs.Below.law_counts_things.things.Small.{Made}
use Rattle.law_copies_kept.specs.Below.law_words_kept.reads.Reading.{Reads, copies, dups, locks}
use Rattle.law_words_borrows.proofs.Below.law_results_reads.Known.{Steps, standing, paths, goes, entry, typed, types}
use Rattle.law_words_borrows.proofs.Below.law_results_reads.Reading.{Reading}
use Rattle.law_words_borrows.proofs.Below.law_results_reads.Starred.{bound, At, a_slot, a_cell, a_copy, Fine}
use Rattle.law_words_borrows.proofs.Below.law_results_reads.Readers.{IsReadable, readable_place, never_taken, stars_fine, to_entry}
use Rattle.law_copies_kept.proofs.Below.law_words_kept.stays.Sites.{HandAlike}
use Rattle.law_copies_kept.proofs.Below.law_words_kept.stays.Seen.{seen_alike}
use Rattle.law_copies_kept.proofs.Below.law_words_kept.stays.Steps.{TakesNoneHere, hand_chain, untaken_here}
use Rattle.law_copies_kept.proofs.Below.law_words_kept.prepared.Asking.{read_all}
use Rattle.law_copies_kept.proofs.Below.law_words_values.carried.Hands.{RootedIn, rooted, rooted_on, Ok, Moved, seen, put, places, each_together, its_number, first_ok, first_seen, puts_alike, moved_goes, moved_over}
use Rattle.law_copies_kept.proofs.copies.Clean.{Leaves, all_goes}
use Rattle.law_copies_kept.specs.references.Clean.{ReadsAll, a_copy as a_copying, a_dup as a_dupping, a_lock as a_locking}
use Rattle.law_copies_kept.proofs.references.Changed.{all_chain}
use Rattle.law_copies_kept.proofs.references.ReadHands.{IsCalm, calm_start, calm_ready, read_takes, read_alike}
use Rattle.law_copies_kept.proofs.references.ReadAsks.{Asked, AsksSo, Known, stars_ask}
use Rattle.law_copies_kept.proofs.references.ReadCommits.{asks_so, copied, dupped, locked}
use Rattle.law_words_borrows.proofs.Below.law_results_reads.Followed.{Place}
use Rattle.law_words_borrows.specs.Below.fr_base.declared.instruction.Operand.{Operand}

-- AN INSTRUCTION THAT READS ALL STARS OF ITS PLACE

pub reads_of : (w : Lval) (i : Instr) → ReadsAll w i → Reads i w w.depth
reads_of w _ a_copying = copies refl
reads_of w _ a_dupping = dups refl
reads_of w _ a_locking = locks refl

pub access_is : (w : Lval) (i : Instr) → ReadsAll w i → (h : Hand) → prepare (access_of i h.thread) h ≡ read_stars w.depth h (in_slot w.slot)
access_is w _ a_copying h = read_all w w.depth h
access_is w _ a_dupping h = refl
access_is w _ a_locking h = refl

lends_none : (w : Lval) (i : Instr) → ReadsAll w i → (p : Lval) → i ≡ instr.BorrowMut p → ⊥
lends_none w _ a_copying p e = absurd cc
lends_none w _ a_dupping p e = absurd cc
lends_none w _ a_locking p e = absurd cc

is_proved : (w : Lval) (i : Instr) → ReadsAll w i → IsProvedKind (instr_kind i)
is_proved w _ a_copying = tt
is_proved w _ a_dupping = tt
is_proved w _ a_locking = tt

-- typing lets it read
readable : (table : Table) (e e2 : Entry) (w : Lval) (i : Instr) → ReadsAll w i → InstrTypes table e i e2 → (q : Kind) × IsReadable e w q
readable table _ _ w _ a_copying (i_copy {k = q} waits has twice free) = (q, record { awake = refl; has = has; free = free; waits_there = waits })
readable table _ _ w _ a_dupping (i_dup {x = o} waits has free) = (own (mutex o), record { awake = refl; has = has; free = free; waits_there = waits })
readable table _ _ w _ a_locking (i_lock {x = o} name waits has free new) = (own (mutex o), record { awake = refl; has = has; free = free; waits_there = waits })

ends_none : (w : Lval) (i : Instr) → ReadsAll w i → (o : Operand) → i ≡ instr.End o → ⊥
ends_none w _ a_copying o e = absurd cc
ends_none w _ a_dupping o e = absurd cc
ends_none w _ a_locking o e = absurd cc

own_shared : (o : Owned) (r : SharedRef) → value.Own o ≡ value.Shared r → ⊥
own_shared o r e = absurd cc

module _ (k : Cluster) (coherent : IsCoherent k) (few : FewEvents k) (s : Server) (here : server_at k.servers s.rest.number ≡ Some s) (t : ℕ) (y : ThreadState) (at : thread_in s.threads t ≡ Some y) (on : enabled k.options s (Step t) ≡ true)
    (w : Lval) (i : Instr) (reading : ReadsAll w i) (code : slice_get k.code y.pc ≡ Some i) (free : (v : ℕ) → y.phase ≡ phase.Taken v → ⊥) where
  abbrev n : ℕ
  n = s.rest.number

  abbrev start : Hand
  start = record { work = begin_work s.rest; thread = y }

  abbrev pub Put : Hand → Cluster
  Put h = put k coherent.sound s here t y at h

  abbrev pub IsOk : Hand → Type 0
  IsOk = Ok k coherent.sound s here t y at

  abbrev pub its : Steps k n t s y i
  its = record { coherent = coherent; few = few; here = here; on = on; at = at; code = code }

  none : TakesNoneHere k.code y
  none = untaken_here y.number y.phase (slice_get k.code y.pc) free

  -- what is known of a hand that reads
  abbrev pub X : Hand → Type 0
  X h = IsOk h × IsCalm s.rest y h.work.rest h.thread

  known : (d : ℕ) → Known k n t s y i its X (read_stars d start (in_slot w.slot))
  known d =
      let a = Some (ReadTo (record w { depth = d })) in
      both (prepare a start) (prepares sums_kept n s.events t (all_standing n (without_thread s.threads t) ++ servers_things (others_of k.servers n)) a start (first_ok k coherent.sound s here t y at)) (calm_ready s.rest y a start (calm_start s.rest y))
    where
      both : (p : Prepared) → PreparedOk IsOk p → Made (IsCalm s.rest y) (λ r x. ⊤) p → Known k n t s y i its X p
      both (ready h sp) a b = (record { number = a.number; thread = a.thread; bag = a.bag }, b)
      both (requested h) a b = tt
      both nothing a b = tt

  -- THE PLACE

  may : (q : Kind) × IsReadable (entry k n t s y i its) w q
  may =
      let leads_on = typed k n t s y i its in
      let to = to_entry (types k n t s y i its).table y.pc (entry k n t s y i its) i leads_on.0 leads_on.1 (ends_none w i reading) in
      readable (types k n t s y i its).table (entry k n t s y i its) to.0 w i reading to.1

  abbrev place : Type 0
  place = Place k (paths k n t s y i its) (standing k n t s y i its) false w

  its_place : place
  its_place = (readable_place k (paths k n t s y i its) (standing k n t s y i its) (goes k n t s y i its) w may.0 may.1).0

  short : w.depth ≤ 8
  short = let m = may.1 in m.has.short

  abbrev AllStars : Prepared
  AllStars = read_stars w.depth start (in_slot w.slot)

  fine : Fine k n t s y i its w.slot w.depth AllStars
  fine = stars_fine k n t s y i its false w its_place short w.depth (omega arith) (never_taken k n t s y i its (lends_none w i reading) false w its_place)

  pub asked : AsksSo k n t s y i its X w w.depth AllStars
  asked = stars_ask k n t s y i its X false w its_place short w.depth (omega arith) (never_taken k n t s y i its (lends_none w i reading) false w its_place) known w.depth (omega arith)

  -- FROM THE START

  abbrev Reads_to : Hand → Type 0
  Reads_to h = (d : ℕ) × Reading y s.rest (bound k n t s y i its) d h

  pub alike_to : (h : Hand) → X h → Reads_to h → HandAlike k.code n [] start h
  alike_to h x a = read_alike k.code n (bound k n t s y i its) a.0 start h a.1 x.1

  pub none_then : (h : Hand) → X h → Reads_to h → TakesNoneHere k.code h.thread
  none_then h x a = read_takes k.code (bound k n t s y i its) a.0 start h a.1 x.1 ∙ none

  -- a hand in which words see the same, so cells, words and changed references stay
  pub alike_leaves : (h : Hand) → IsOk h → HandAlike k.code n [] start h → Leaves k (Put h)
  alike_leaves h ok a = moved_goes k coherent.sound s here t y at all_goes h ok (seen (each_together a))

  -- from which one value moves at most
  pub record Went (h2 : Hand) : Type 0 where
    pub hand : Hand
    pub ok : IsOk hand
    pub alike : HandAlike k.code n [] start hand
    pub moved : Moved k.code n hand h2

  pub went_leaves : (h2 : Hand) → IsOk h2 → Went h2 → Leaves k (Put h2)
  went_leaves h2 ok2 q =
      let h = q.hand in
      let first = alike_leaves h q.ok q.alike in
      let a = places k coherent.sound s here t y at start (first_ok k coherent.sound s here t y at) in
      let b = places k coherent.sound s here t y at h q.ok in
      let here_now : RootedIn (Put start) = rooted_on k (Put start) refl (first_seen k coherent.sound s here t y at) (rooted k coherent.sound) in
      let then_now : RootedIn (Put h) = rooted_on (Put start) (Put h) refl (seen_alike (Put start) (Put h) a b refl (puts_alike k coherent.sound s here t y at start h refl (its_number k coherent.sound s here t y at) (each_together q.alike))) here_now in
      let firsts : Holds (Put h) first_at_holder = (first.0).holders coherent.sound.words.first_at_holder in
      all_chain first (moved_over k coherent.sound s here t y at all_goes h h2 q.alike.number (q.alike.named ∙ its_number k coherent.sound s here t y at) b (places k coherent.sound s here t y at h2 ok2) then_now firsts q.moved)

  -- THE PLACE IS READY

  where_shared : (h : Hand) (sp : Spot) (l : Location) → At k n t s y i its sp l → (d : ℕ) → Reading y s.rest (bound k n t s y i its) d h → (r : SharedRef) → value_at h sp ≡ Some (value.Shared r) → (j : ℕ) × (slice_get h.thread.slots j ≡ Some (value.Shared r))
  where_shared h _ _ (a_slot j) d a r e = (j, e)
  where_shared h _ _ (a_cell c q o cell f there) d a r e = absurd (own_shared cell.value r (some_is (sym (ap cell_value (ap (λ p. look p c) a.partition ∙ f)) ∙ e)))
  where_shared h _ _ (a_copy c o cell f there) d a r e = absurd (own_shared cell.value r (some_is (sym (ap cell_value (a.hits c ∙ f)) ∙ e)))

  commits : (servers : ℕ) (h : Hand) (sp : Spot) (l : Location) → At k n t s y i its sp l → (d : ℕ) → X h → Reading y s.rest (bound k n t s y i its) d h → Gives (λ (q : Stepped). Moved k.code n h q.hand) (committed (commit servers i sp h))
  commits servers h sp l spot d x a = by i reading
    where
      untaken : TakesNoneHere k.code h.thread
      untaken = none_then h x (d, a)

      by : (j : Instr) → ReadsAll w j → Gives (λ (q : Stepped). Moved k.code n h q.hand) (committed (commit servers j sp h))
      by _ a_copying = copied k.code n h untaken a.number sp (where_shared h sp l spot d a)
      by _ a_dupping = dupped k.code n h untaken a.number sp h.thread.gift refl
      by _ a_locking = locked k.code n h untaken a.number sp h.thread.gift refl

  -- WHAT BECOMES OF THE STEP

  -- its place was ready, or something was asked for
  pub data Outcome (d : Stepped) : Type 0 where
    went : Went d.hand → Outcome d
    asks : (h : Hand) → Asked k n t s y i its X w w.depth h → d ≡ wait_step h → Outcome d

  prepared_so : (servers : ℕ) (p : Prepared) → Fine k n t s y i its w.slot w.depth p → AsksSo k n t s y i its X w w.depth p → PreparedOk IsOk p → Made (IsCalm s.rest y) (λ r x. ⊤) p → Gives Outcome (prepared servers i p)
  prepared_so servers (ready h sp) f q ok calm =
      weaker (λ (d : Stepped). Moved k.code n h d.hand) Outcome (committed (commit servers i sp h)) (commits servers h sp f.0 f.2 w.depth (ok, calm) f.3)
      (λ d m. went (record { hand = h; ok = ok; alike = alike_to h (ok, calm) (w.depth, f.3); moved = m }))
  prepared_so servers (requested h) f q ok calm = asks h q refl
  prepared_so servers nothing f q ok calm = tt

  -- the sums and what no small step touches
  pub known_ready : PreparedOk IsOk AllStars × Made (IsCalm s.rest y) (λ r x. ⊤) AllStars
  known_ready = (
    prepares sums_kept n s.events t (all_standing n (without_thread s.threads t) ++ servers_things (others_of k.servers n)) (Some (ReadTo w)) start (first_ok k coherent.sound s here t y at),
    calm_ready s.rest y (Some (ReadTo w)) start (calm_start s.rest y),
  )

  pub outcome : (servers : ℕ) → Gives Outcome (step servers i start)
  outcome servers =
      subst (λ p. Gives Outcome (prepared servers i p)) (sym (access_is w i reading start))
      (prepared_so servers AllStars fine asked known_ready.0 known_ready.1)

  pub ok_steps : Gives (λ (d : Stepped). IsOk d.hand) (step k.options.servers i start)
  ok_steps = step_keeps sums_kept n s.events t (all_standing n (without_thread s.threads t) ++ servers_things (others_of k.servers n)) k.options.servers i start (is_proved w i reading) (λ z. sums_spend) (first_ok k coherent.sound s here t y at)

  -- where a copy or an object is asked for, nothing was changed before
  pub copy_alike : (d : ℕ) (h1 : Hand) (b : BoxPtr) → X h1 → Reading y s.rest (bound k n t s y i its) d h1 → HandAlike k.code n [] start (ask_copy b h1)
  copy_alike d h1 b x a =
      hand_chain k.code n start h1 (ask_copy b h1) (alike_to h1 x (d, a))
      (asks_so k.code n h1 (none_then h1 x (d, a)) (act.Ask b.object b.word) (server_of b.word) (message.Fetch b.word b.object h1.work.rest.number h1.thread.number) (phase.WaitCell b.word) a.number refl (λ q e z. z) (λ c j. refl))

  pub object_alike : (d : ℕ) (h1 : Hand) (b : BoxPtr) → X h1 → Reading y s.rest (bound k n t s y i its) d h1 → HandAlike k.code n [] start (ask_object b h1)
  object_alike d h1 b x a =
      hand_chain k.code n start h1 (ask_object b h1) (alike_to h1 x (d, a))
      (asks_so k.code n h1 (none_then h1 x (d, a)) (act.Pull b.object b.word) (server_of b.word) (message.Move b.word b.object h1.work.rest.number h1.thread.number) (phase.WaitCell b.word) a.number refl (λ q e z. z) (λ c j. refl))
