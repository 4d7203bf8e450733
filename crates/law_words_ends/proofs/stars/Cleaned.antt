-- A mutable reference that a step ends is cleaned first: the hand with it, beside the cluster from which the event began.
use Rattle.std.proofs.Common.{◌≡◌, ◌⊎◌, ℕ, ◌+◌, ◌<◌, ◌≤◌, ◌^◌, ◌==◌, nat_lt, Bool, true, false, if◌then◌else◌, length, Option, Some, None, inl, refl, sym, ap, subst, ◌∙◌, arith}
use Rattle.std.specs.Prelude.{⊤, slice_get}
use Rattle.std.proofs.lemmas.Bool.Decides.{nat_tests}
use Rattle.law_words_ends.specs.Below.fr_base.declared.instruction.Instr.{Instr}
use Rattle.law_words_ends.specs.Below.global_addr.Words.{colour_of, server_of, next_word}
use Rattle.law_words_ends.specs.Below.heap_partition.declared.value.Cell.{Cell}
use Rattle.law_words_ends.specs.Below.journal.declared.act.Act.TheVariants as act
use Rattle.law_words_ends.specs.Below.mut_borrow.declared.mutable.MutRef.{MutRef}
use Rattle.law_words_ends.specs.Below.mut_borrow.declared.mutable.Cleaned.TheVariants.{Same, Tinted, MustRenew}
use Rattle.law_words_ends.specs.Below.mut_borrow.Refs.{cleaned_answer}
use Rattle.law_words_ends.specs.Below.owner_box.View.{PartitionState}
use Rattle.law_words_ends.specs.Below.owner_box.Partition.{renewed}
use Rattle.law_words_ends.specs.Below.thread_state.View.{ThreadState}
use Rattle.law_words_ends.specs.Below.thread_state.declared.phase.Phase.TheVariants as phase
use Rattle.law_words_ends.specs.Below.thread_state.declared.value.Value.TheVariants as value
use Rattle.law_words_ends.specs.Below.server_msgs.declared.message.Message.TheVariants as message
use Rattle.law_words_ends.specs.Below.server_model.declared.event.What.TheVariants.{Step}
use Rattle.law_words_ends.specs.Below.server_model.Servers.{Rest, Server, Cluster, server_at}
use Rattle.law_words_ends.specs.Below.server_model.Work.{Hand, thread_in, then_some}
use Rattle.law_words_ends.specs.Below.server_model.NewWords.{NewWord, issue_tint, issue_renewal}
use Rattle.law_words_ends.specs.Below.server_model.Places.{Spot, in_slot, on_top, took, put_word, value_at}
use Rattle.law_words_ends.specs.Below.server_model.Prepare.{Prepared, ready, requested, nothing, ready_at, ask_object, box_of, cleaned_by, clean_value}
use Rattle.law_words_ends.specs.Below.server_model.Events.{enabled, begin_work}
use Rattle.law_words_ends.specs.Below.coherent_memory.Things.{Location, at_slot}
use Rattle.law_words_ends.specs.Below.coherent_memory.Paths.{ends}
use Rattle.law_words_ends.specs.Below.coherent_memory.Sight.{Pointer, sight}
use Rattle.law_words_ends.specs.Below.coherent_memory.Walking.{path}
use Rattle.law_words_ends.specs.Below.coherent_memory.Words.{IsStale}
use Rattle.law_words_ends.specs.Below.coherent_types.ClusterTypes.{IsCoherent}
use Rattle.law_words_ends.specs.Below.law_counts_sums.Laws.{FewEvents}
use Rattle.law_words_writes.proofs.Below.law_words_kept.ends.Ends.{EndsAt}
use Rattle.law_words_writes.proofs.Below.law_words_kept.ends.Lying.{ended_lies_there}
use Rattle.law_words_ends.specs.Below.law_words_kept.reads.Reading.{LiesUnder}
use Rattle.law_words_ends.specs.Below.law_words_paths.words.Reworded.{HasPlaces}
use Rattle.law_words_ends.specs.Below.law_words_paths.words.WordsAfter.{Rewrites}
use Rattle.law_words_ends.proofs.Below.law_words_paths.words.Only.{are_only}
use Rattle.law_words_ends.proofs.Below.law_words_paths.words.Words.{changed_rewords}
use Rattle.law_words_ends.proofs.Below.law_words_paths.words.Outlines.{soles_stay}
use Rattle.law_words_ends.proofs.Below.law_words_paths.words.Standing.{told, told_standing}
use Rattle.law_words_writes.proofs.Below.law_words_kept.stays.Steps.{TakesNoneHere}
use Rattle.law_words_writes.proofs.Below.law_words_kept.prepared.Along.{dirty_changed}
use Rattle.law_words_writes.proofs.Below.law_words_kept.prepared.Hands.{put, places, first_hand}
use Rattle.law_words_ends.proofs.Below.law_results_reads.Known.{Steps, standing, paths, goes}
use Rattle.law_words_ends.proofs.Below.law_results_reads.Pointing.{Stands, leads_home}
use Rattle.law_words_writes.proofs.Below.law_results_events.writes.Memory.{Leads, looked, Sane, renewal_issued}
use Rattle.law_words_writes.proofs.Below.law_results_events.writes.StepRoutes.{sane_there, roomy, awake}
use Rattle.law_words_writes.proofs.Below.law_words_asked.writes.Onward.{Onward, lies_reworded}
use Rattle.law_words_writes.proofs.Below.law_words_asked.writes.Later.{Later, later_itself, later_renewed}
use Rattle.law_words_writes.proofs.Below.law_words_asked.writes.Passing.{State, Asked, first_state, requests}
use Rattle.law_words_writes.proofs.Below.law_words_asked.writes.Hops.{renewed_work}
use Rattle.law_words_ends.proofs.Below.law_words_paths.paths.Sole.{some_is}
use Rattle.law_words_ends.specs.Below.law_words_values.references.Unpassed.{IsUnpassed}
use Rattle.law_words_ends.specs.variables.Ends.{EndsReference}
use Rattle.law_words_ends.proofs.variables.DirtyEnds.{Place, Worded, tint, renew}
use Rattle.law_words_ends.proofs.variables.Recoloured.{fresh_before}

module _ (k : Cluster) (coherent : IsCoherent k) (few : FewEvents k) (s : Server) (here_it : server_at k.servers s.rest.number ≡ Some s) (t : ℕ) (y : ThreadState) (at : thread_in s.threads t ≡ Some y) (on : enabled k.options s (Step t) ≡ true) (i : Instr) (code : slice_get k.code y.pc ≡ Some i) where
  abbrev n : ℕ
  n = s.rest.number

  abbrev pub steps : Steps k n t s y i
  steps = record { coherent = coherent; few = few; here = here_it; on = on; at = at; code = code }

  abbrev St : Hand → Type 0
  St = State k coherent s here_it t y at

  abbrev P : Hand → Cluster
  P = put k coherent s here_it t y at

  abbrev p : PartitionState
  p = s.rest.partition

  abbrev start : Hand
  start = record { work = begin_work s.rest; thread = y }

  -- the reference that ends, where it stands, and the thread with another one there
  pub record End (r : MutRef) (sp : Spot) (other : MutRef → ThreadState) : Type 0 where
    pub ends_it : EndsReference y r i
    pub is : path (sight k) (standing k n t s y i steps) ≡ ends r
    pub it : EndsAt k (paths k n t s y i steps) (standing k n t s y i steps) (goes k n t s y i steps) r
    pub unpassed : IsUnpassed k it.at
    pub untaken : TakesNoneHere k.code y
    pub form : ((j : ℕ) × (sp ≡ in_slot j) × (it.at ≡ at_slot y.number j)) ⊎ (sp ≡ on_top)
    pub place : Place k coherent few s here_it t y at on sp it.at other r
    pub thread : (q : MutRef) → other q ≡ record y { slots = (other q).slots; temps = (other q).temps }
    pub slots : (q : MutRef) (m : ℕ) → (it.at ≡ at_slot y.number m → ⊥) → slice_get (other q).slots m ≡ slice_get y.slots m
    pub slots_size : (q : MutRef) → length (other q).slots ≡ length y.slots
    pub temps_size : (q : MutRef) → length (other q).temps ≡ length y.temps

  module _ (r : MutRef) (sp : Spot) (other : MutRef → ThreadState) (e : End r sp other) where
    -- a clean reference stands there, other slots and cells of other objects are as they were, and the words hold
    pub record Cleaned (h : Hand) : Type 0 where
      pub reference : MutRef
      pub clean : reference.dirty ≡ false
      pub object : reference.object ≡ r.object
      pub holder : reference.holder ≡ r.holder
      pub state : St h
      pub later : Later p h.work.rest.partition
      pub there : value_at h sp ≡ Some (value.Mut reference)
      pub rest : h.work.rest ≡ record s.rest { partition = h.work.rest.partition }
      pub thread : h.thread ≡ record y { slots = h.thread.slots; temps = h.thread.temps }
      pub slots : (m : ℕ) → (e.it.at ≡ at_slot y.number m → ⊥) → slice_get h.thread.slots m ≡ slice_get y.slots m
      pub slots_size : length h.thread.slots ≡ length y.slots
      pub temps_size : length h.thread.temps ≡ length y.temps
      pub cells : (v : ℕ) (c : Cell) → Leads p v c → (c.object ≡ r.object → ⊥) → Leads h.work.rest.partition v c
      pub sane : Sane h.work.rest.partition
      pub long : length h.work.rest.partition.cells ≤ length p.cells + 1

    abbrev pub CleanFine : Prepared → Type 0
    CleanFine (ready h b) = (b ≡ sp) × Cleaned h
    CleanFine (requested h) = Asked k coherent s here_it t y at h
    CleanFine nothing = ⊤

    abbrev l : Location
    l = e.it.at

    started : St start
    started = first_state k coherent s here_it t y at e.untaken

    -- AS IT STOOD

    abbrev pointer : Pointer
    pointer = record { at = Some l; word = r.word; object = r.object }

    stands_so : Stands k pointer
    stands_so = record { pointers = told k l (value.Mut r) pointer e.it.stands (inl refl); standing = told_standing k l (value.Mut r) pointer e.it.stands (inl refl) }

    pub fresh : IsStale (sight k) (Some l) → ⊥
    fresh = fresh_before k coherent s here_it t y at on l r e.it.stands e.is e.unpassed

    pub lies : LiesUnder k (box_of r)
    lies = ended_lies_there k coherent (standing k n t s y i steps) r (goes k n t s y i steps) (awake k n t s y i steps) e.is

    -- its word leads here where it is of this server
    home : server_of r.word ≡ n → Leads p r.word lies.there.cell
    home mine = looked p r.word lies.there.cell (leads_home k coherent.sound n s here_it pointer stands_so fresh lies.there.cell lies.server lies.address lies.there.among lies.there.object mine)

    -- CLEAN ALREADY

    as_it_is : r.dirty ≡ false → Cleaned start
    as_it_is clean = record {
      reference = r;
      clean = clean;
      object = refl;
      holder = refl;
      state = started;
      later = later_itself p;
      there = e.place.shown;
      rest = refl;
      thread = refl;
      slots = λ m ne. refl;
      slots_size = refl;
      temps_size = refl;
      cells = λ v c lead ne. lead;
      sane = sane_there k n t s y i steps;
      long = omega arith;
    }

    -- WITH A WORD

    module _ (dirty : r.dirty ≡ true) where
      abbrev W : Hand → ℕ → Type 0
      W = Worded k coherent few s here_it t y at on sp l other r e.place e.it.stands e.is e.unpassed dirty e.untaken

      module _ (h2 : Hand) (w : ℕ) (u : W h2 w) where
        abbrev x : Cluster
        x = P start

        abbrev v : Cluster
        v = P h2

        places_x : HasPlaces x
        places_x = places k coherent s here_it t y at start started.ok

        places_v : HasPlaces v
        places_v = places k coherent s here_it t y at h2 u.ok

        fresh_x : IsStale (sight x) (Some l) → ⊥
        fresh_x f = fresh ((first_hand k coherent s here_it t y at).along.fresher l f)

        rewrites : Rewrites x v l r.object w
        rewrites = record {
          before = places_x;
          only = are_only.dirty x l r places_x started.onward.words.dirty_alone e.place.there dirty fresh_x;
          fresh = fresh_x;
          firsts = started.onward.words.first_at_holder;
          places = places_v;
          reworded = u.reworded;
        }

        onward : Onward k v
        onward = record {
          words = u.words;
          outlines = soles_stay.chain k x v started.onward.outlines (soles_stay.reworded x v l r.object w u.reworded);
          fresh = λ m o q f z. started.onward.fresh m o q f (changed_rewords x v l r.object w rewrites r e.place.there (dirty_changed r dirty) m z);
          lies_on = λ o q. lies_reworded x v l r.object w places_x u.reworded o (started.onward.lies_on o q);
        }

        module _ (nw : NewWord) (rest_is : h2.work.rest ≡ nw.work.rest) (rest : nw.work.rest ≡ record s.rest { partition = nw.work.rest.partition }) (later : Later p nw.work.rest.partition) (cells : (a : ℕ) (c : Cell) → Leads p a c → (c.object ≡ r.object → ⊥) → Leads nw.work.rest.partition a c)
            (sane : Sane nw.work.rest.partition) (long : length nw.work.rest.partition.cells ≤ length p.cells + 1) where
          same : h2.work.rest.partition ≡ nw.work.rest.partition
          same = ap (λ (b : Rest). b.partition) rest_is

          worded : Cleaned h2
          worded = record {
            reference = took r w;
            clean = refl;
            object = refl;
            holder = refl;
            state = record { ok = u.ok; onward = onward; untaken = subst (λ (b : ThreadState). TakesNoneHere k.code b) (sym (u.thread ∙ e.thread (took r w))) e.untaken };
            later = subst (Later p) (sym same) later;
            there = e.place.shows h2 (took r w) u.thread;
            rest = rest_is ∙ rest ∙ ap (λ b. record s.rest { partition = b }) (sym same);
            thread = u.thread ∙ e.thread (took r w) ∙ sym (ap (λ (b : ThreadState). record y { slots = b.slots; temps = b.temps }) u.thread);
            slots = λ m ne. ap (λ (b : ThreadState). slice_get b.slots m) u.thread ∙ e.slots (took r w) m ne;
            slots_size = ap (λ (b : ThreadState). length b.slots) u.thread ∙ e.slots_size (took r w);
            temps_size = ap (λ (b : ThreadState). length b.temps) u.thread ∙ e.temps_size (took r w);
            cells = λ a c lead ne. subst (λ b. Leads b a c) (sym same) (cells a c lead ne);
            sane = subst Sane (sym same) sane;
            long = subst (λ (b : PartitionState). length b.cells ≤ length p.cells + 1) (sym same) long;
          }

      -- after the next colour
      tinted : (o : Option Hand) → put_word sp (issue_tint (box_of r) start.work) start ≡ o → CleanFine (ready_at sp o)
      tinted None f = tt
      tinted (Some h2) f = (
        refl,
        worded h2 (next_word r.word) (tint k coherent few s here_it t y at on sp l other r e.place e.it.stands e.is e.unpassed dirty e.untaken h2 f) (issue_tint (box_of r) start.work) (e.place.puts (issue_tint (box_of r) start.work).work h2 (next_word r.word) f).1 refl (later_itself p) (λ a c lead ne. lead)
            (sane_there k n t s y i steps) (omega arith),
      )

      -- after a renewal
      module _ (mine : (server_of r.word == n) ≡ true) (nw : NewWord) (issues : issue_renewal (box_of r) start.work ≡ Some nw) where
        left : (nw.work.rest ≡ record s.rest { partition = renewed p r.word }) × (colour_of r.word + 1 ≡ p.limit)
        left = let q = renewed_work (box_of r) start.work nw issues in (q.1, q.2)

        room : length p.cells < 2 ^ 40
        room = let b = roomy k n t s y i steps in omega (arith, b)

        given : Rattle.law_words_writes.proofs.Below.law_results_events.writes.Memory.Given p nw.work.rest.partition nw.word lies.there.cell
        given =
            let q = renewal_issued (box_of r) start.work lies.there.cell (sane_there k n t s y i steps) (home (grind (arith, nat_tests, mine))) left.1 room in
            let same : q.0 ≡ nw = some_is (sym q.1 ∙ issues) in
            subst (λ (b : NewWord). Rattle.law_words_writes.proofs.Below.law_results_events.writes.Memory.Given p b.work.rest.partition b.word lies.there.cell) same q.2.given

        moved : (o : Option Hand) → put_word sp nw start ≡ o → CleanFine (ready_at sp o)
        moved None f = tt
        moved (Some h2) f = (
          refl,
          worded h2 nw.word (renew k coherent few s here_it t y at on sp l other r e.place e.it.stands e.is e.unpassed dirty e.untaken mine nw issues h2 f) nw (e.place.puts nw.work h2 nw.word f).1
              (left.0 ∙ ap (λ b. record s.rest { partition = b }) (sym (ap (λ (b : Rest). b.partition) left.0))) (subst (Later p) (sym (ap (λ (b : Rest). b.partition) left.0)) (later_renewed p p r.word left.1 (later_itself p)))
              (λ a c lead ne. given.others a c lead (λ q. ne (q ∙ lies.there.object))) given.sane given.longer,
        )

      renewals : (server_of r.word == n) ≡ true → (o : Option NewWord) → issue_renewal (box_of r) start.work ≡ o → CleanFine (ready_at sp (then_some o (λ nw. put_word sp nw start)))
      renewals mine None f = tt
      renewals mine (Some nw) f = moved mine nw f (put_word sp nw start) refl

      -- at the last colour
      at_last : (c : Bool) → (server_of r.word == n) ≡ c → CleanFine (if c then ready_at sp (then_some (issue_renewal (box_of r) start.work) (λ nw. put_word sp nw start)) else requested (ask_object (box_of r) start))
      at_last true f = renewals f (issue_renewal (box_of r) start.work) refl
      at_last false f = requests k coherent s here_it t y at (act.Pull r.object r.word) (server_of r.word) (message.Move r.word r.object start.work.rest.number start.thread.number) (phase.WaitCell r.word) start refl refl (λ q c z. z) (λ c b. refl) started

      by_colour : (c : Bool) → CleanFine (cleaned_by (if c then Tinted (next_word r.word) else MustRenew) sp r start)
      by_colour true = tinted (put_word sp (issue_tint (box_of r) start.work) start) refl
      by_colour false = at_last (server_of r.word == n) refl

    by_mark : (b : Bool) → r.dirty ≡ b → CleanFine (cleaned_by (if b then (if nat_lt (colour_of r.word + 1) p.limit then Tinted (next_word r.word) else MustRenew) else Same) sp r start)
    by_mark true d = by_colour d (nat_lt (colour_of r.word + 1) p.limit)
    by_mark false d = (refl, as_it_is d)

    at_limit : (b : Bool) → CleanFine (if b then cleaned_by (cleaned_answer p.limit r) sp r start else nothing)
    at_limit true = by_mark r.dirty refl
    at_limit false = tt

    -- cleaned, or asked for
    pub cleans : CleanFine (clean_value sp (value_at start sp) start)
    cleans = subst (λ o. CleanFine (clean_value sp o start)) (sym e.place.shown) (at_limit (nat_lt (colour_of r.word) p.limit))
