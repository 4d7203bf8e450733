-- A mutable reference that a step ends is cleaned first: each object is what it was, or covered.
use Rattle.std.proofs.Common.{◌≡◌, inl, ℕ, ◌+◌, ◌==◌, nat_lt, Bool, true, false, if◌then◌else◌, Option, Some, None, refl, sym, ap, subst, ◌∙◌, arith}
use Rattle.std.specs.Prelude.{⊤, slice_get}
use Rattle.std.proofs.lemmas.Bool.Decides.{nat_tests}
use Rattle.law_copies_writes.specs.Below.fr_base.declared.name.ObjNo.{ObjNo}
use Rattle.law_copies_writes.specs.Below.fr_base.declared.instruction.Instr.{Instr}
use Rattle.law_copies_writes.specs.Below.global_addr.Words.{colour_of, server_of, next_word}
use Rattle.law_copies_writes.specs.Below.heap_partition.declared.value.Cell.{Cell}
use Rattle.law_copies_writes.specs.Below.mut_borrow.Refs.{cleaned_answer}
use Rattle.law_copies_writes.specs.Below.mut_borrow.declared.mutable.Cleaned.TheVariants.{Same, Tinted, MustRenew}
use Rattle.law_copies_writes.specs.Below.mut_borrow.declared.mutable.MutRef.{MutRef}
use Rattle.law_copies_writes.specs.Below.owner_box.View.{PartitionState}
use Rattle.law_copies_writes.specs.Below.thread_state.View.{ThreadState}
use Rattle.law_copies_writes.specs.Below.thread_state.declared.value.Value.TheVariants as value
use Rattle.law_copies_writes.specs.Below.server_msgs.declared.message.Message.TheVariants as message
use Rattle.law_copies_writes.specs.Below.server_model.declared.event.What.TheVariants.{Step}
use Rattle.law_copies_writes.specs.Below.server_model.Servers.{Server, Cluster, server_at}
use Rattle.law_copies_writes.specs.Below.server_model.Work.{Hand, thread_in, then_some}
use Rattle.law_copies_writes.specs.Below.server_model.NewWords.{NewWord, issue_tint, issue_renewal}
use Rattle.law_copies_writes.specs.Below.server_model.Places.{Spot, put_word, value_at}
use Rattle.law_copies_writes.specs.Below.server_model.Prepare.{Prepared, ready, requested, nothing, ready_at, ask_object, box_of, cleaned_by, clean_value}
use Rattle.law_copies_writes.specs.Below.server_model.Events.{enabled, begin_work}
use Rattle.law_copies_writes.specs.Below.coherent_memory.Things.{Location, in_cell}
use Rattle.law_copies_writes.specs.Below.coherent_memory.Follow.{cell_of, value_in, value_of}
use Rattle.law_copies_writes.specs.Below.coherent_memory.Stale.{holder_of}
use Rattle.law_copies_writes.specs.Below.coherent_memory.Sight.{Pointer, is_object_among, sight, issued}
use Rattle.law_copies_writes.specs.Below.coherent_memory.Words.{IsStale}
use Rattle.law_copies_writes.specs.Below.coherent_types.ClusterTypes.{IsCoherent}
use Rattle.law_copies_writes.proofs.Below.law_words_paths.paths.Contained.{reference_there}
use Rattle.law_copies_writes.specs.Below.law_words_paths.words.Reworded.{HasPlaces}
use Rattle.law_copies_writes.specs.Below.law_words_paths.words.WordsAfter.{Rewrites}
use Rattle.law_copies_writes.proofs.Below.law_words_paths.words.Only.{are_only}
use Rattle.law_copies_writes.proofs.Below.law_words_paths.words.Standing.{told, told_standing}
use Rattle.law_copies_writes.specs.Below.law_counts_sums.Laws.{FewEvents}
use Rattle.law_copies_writes.proofs.Below.law_counts_things.things.Mail.{mail_sent}
use Rattle.law_copies_writes.proofs.Below.law_counts_things.things.Messages.{Light}
use Rattle.law_copies_writes.specs.Below.law_words_kept.reads.Reading.{LiesUnder}
use Rattle.law_copies_writes.proofs.Below.law_words_kept.reads.Homes.{fresh_word}
use Rattle.law_copies_writes.proofs.Below.law_results_reads.Known.{Steps}
use Rattle.law_copies_writes.proofs.Below.law_results_reads.Pointing.{Stands, leads_home}
use Rattle.law_copies_writes.proofs.Below.law_words_kept.prepared.Hands.{put, places, first_hand}
use Rattle.law_words_ends.proofs.variables.DirtyEnds.{Worded, tint, renew}
use Rattle.law_copies_writes.proofs.Below.law_results_events.writes.Memory.{Leads, looked}
use Rattle.law_copies_writes.proofs.Below.law_results_events.writes.StepRoutes.{sane_there, roomy}
use Rattle.law_copies_writes.proofs.Below.law_words_asked.writes.Onward.{Lies}
use Rattle.law_copies_writes.proofs.Below.law_words_asked.writes.Passing.{State, first_state}
use Rattle.law_copies_writes.proofs.Below.law_words_asked.writes.Later.{later_itself}
use Rattle.law_copies_writes.proofs.Below.law_words_asked.writes.Hops.{Boxed}
use Rattle.law_words_ends.proofs.stars.Cleaned.{steps, End, fresh, lies}
use Rattle.law_copies_writes.proofs.Below.law_copies_kept.references.Asked.{asking}
use Rattle.law_copies_writes.proofs.Below.law_copies_kept.references.Worded.{dirty_found}
use Rattle.law_copies_writes.proofs.Below.law_copies_kept.objects.Turned.{none_or_idle}
use Rattle.law_copies_writes.proofs.Below.law_copies_kept.hidden.Reworded.{but_any, settles_word}
use Rattle.law_copies_writes.proofs.writes.Hops.{Now, SentBy, asks_on, tint_unissued, new}
use Rattle.law_copies_writes.proofs.writes.Settling.{start_now}

-- no reference stands in a cell
cell_mutable : (c : Cluster) (o : ObjNo) (r : MutRef) → value_in (sight c).ground (in_cell o) ≡ Some (value.Mut r) → ⊥
cell_mutable c o r e = by (cell_of (sight c).ground.cells o) e
  where
    by : (x : Option Cell) → value_of x ≡ Some (value.Mut r) → ⊥
    by None f = cc f
    by (Some x) f = cc f

module _ (k : Cluster) (coherent : IsCoherent k) (few : FewEvents k) (s : Server) (here_it : server_at k.servers s.rest.number ≡ Some s) (t : ℕ) (y : ThreadState) (at : thread_in s.threads t ≡ Some y) (on : enabled k.options s (Step t) ≡ true) (i : Instr) (code : slice_get k.code y.pc ≡ Some i)
    (r : MutRef) (sp : Spot) (other : MutRef → ThreadState) (e : End k coherent few s here_it t y at on i code r sp other) where
  abbrev n : ℕ
  n = s.rest.number

  abbrev z : Steps k n t s y i
  z = steps k coherent few s here_it t y at on i code

  abbrev P : Hand → Cluster
  P = put k coherent s here_it t y at

  abbrev p : PartitionState
  p = s.rest.partition

  abbrev start : Hand
  start = record { work = begin_work s.rest; thread = y }

  abbrev N : Hand → Type 0
  N = Now k coherent s here_it t y at

  -- each object is what it was, or covered, once it is clean or something was asked for
  abbrev pub NowFine : Prepared → Type 0
  NowFine (ready h b) = N h
  NowFine (requested h) = N h × (SentBy k coherent s here_it t y at s.rest → SentBy k coherent s here_it t y at h.work.rest)
  NowFine nothing = ⊤

  abbrev l : Location
  l = e.it.at

  started : State k coherent s here_it t y at start
  started = first_state k coherent s here_it t y at e.untaken

  fresh_k : IsStale (sight k) (Some l) → ⊥
  fresh_k = fresh k coherent few s here_it t y at on i code r sp other e

  under : LiesUnder k (box_of r)
  under = lies k coherent few s here_it t y at on i code r sp other e

  lying : Lies k r.object
  lying = record { server = under.server; address = under.address; there = under.there }

  its_word : r.word ≡ coherent.sound.words.have_words.word r.object
  its_word = fresh_word k coherent.sound.words.have_words l (value.Mut r) (box_of r) e.it.stands refl fresh_k

  abbrev pointer : Pointer
  pointer = record { at = Some l; word = r.word; object = r.object }

  stands_so : Stands k pointer
  stands_so = record { pointers = told k l (value.Mut r) pointer e.it.stands (inl refl); standing = told_standing k l (value.Mut r) pointer e.it.stands (inl refl) }

  -- its word leads here where it is of this server
  home : server_of r.word ≡ n → Leads p r.word under.there.cell
  home mine = looked p r.word under.there.cell (leads_home k coherent.sound n s here_it pointer stands_so fresh_k under.there.cell under.server under.address under.there.among under.there.object mine)

  -- WITH A WORD

  module _ (dirty : r.dirty ≡ true) where
    was_dirty : is_object_among r.object (sight k).dirty ≡ true
    was_dirty = dirty_found k r r.object (record { reference = record { at = l; holder = holder_of (sight k).ground l r.holder; reference = r }; among = reference_there k l r e.it.stands; same = refl; fresh = fresh_k }) refl dirty

    module _ (h2 : Hand) (w : ℕ) (unissued : issued (sight k) w ≡ false) (u : Worded k coherent few s here_it t y at on sp l other r e.place e.it.stands e.is e.unpassed dirty e.untaken h2 w) where
      abbrev x : Cluster
      x = P start

      abbrev v : Cluster
      v = P h2

      places_x : HasPlaces x
      places_x = places k coherent s here_it t y at start started.ok

      places_v : HasPlaces v
      places_v = places k coherent s here_it t y at h2 u.ok

      fresh_x : IsStale (sight x) (Some l) → ⊥
      fresh_x f = fresh_k ((first_hand k coherent s here_it t y at).along.fresher l f)

      rewrites : Rewrites x v l r.object w
      rewrites = record {
        before = places_x;
        only = are_only.dirty x l r places_x started.onward.words.dirty_alone e.place.there dirty fresh_x;
        fresh = fresh_x;
        firsts = started.onward.words.first_at_holder;
        places = places_v;
        reworded = u.reworded;
      }

      worded : N h2
      worded =
          let but = but_any k x coherent.sound.words.have_words (λ o. ⊥) (start_now k coherent few s here_it t y at) in
          let after = settles_word k x v coherent.sound.words.have_words l r.object w rewrites (λ o. ⊥) but
          (λ o f out. absurd (cell_mutable x o r (ap (value_in (sight x).ground) (sym f) ∙ e.place.there))) unissued (λ c f m. inl was_dirty) in
          record { after = (after.settled).after; each = λ o. (after.settled).each o (λ f. f) }

    -- after the next colour
    tinted : (o : Option Hand) → put_word sp (issue_tint (box_of r) start.work) start ≡ o → NowFine (ready_at sp o)
    tinted None f = tt
    tinted (Some h2) f = worded h2 (next_word r.word) (tint_unissued k coherent s here_it t y at (box_of r) its_word lying) (tint k coherent few s here_it t y at on sp l other r e.place e.it.stands e.is e.unpassed dirty e.untaken h2 f)

    -- after a renewal
    module _ (mine : (server_of r.word == n) ≡ true) (nw : NewWord) (issues : issue_renewal (box_of r) start.work ≡ Some nw) where
      known : Boxed k coherent s here_it t y at start (box_of r) under.there.cell
      known = record {
        state = started;
        later = later_itself p;
        word = its_word;
        leads = home (grind (arith, nat_tests, mine));
        object = under.there.object;
        sane = sane_there k n t s y i z;
        room = (let b = roomy k n t s y i z in omega (arith, b));
      }

      moved : (o : Option Hand) → put_word sp nw start ≡ o → NowFine (ready_at sp o)
      moved None f = tt
      moved (Some h2) f = worded h2 nw.word (new k coherent s here_it t y at start (box_of r) under.there.cell known nw issues) (renew k coherent few s here_it t y at on sp l other r e.place e.it.stands e.is e.unpassed dirty e.untaken mine nw issues h2 f)

    renewals : (server_of r.word == n) ≡ true → (o : Option NewWord) → issue_renewal (box_of r) start.work ≡ o → NowFine (ready_at sp (then_some o (λ nw. put_word sp nw start)))
    renewals mine None f = tt
    renewals mine (Some nw) f = moved mine nw f (put_word sp nw start) refl

    -- at the last colour
    at_last : (c : Bool) → (server_of r.word == n) ≡ c → NowFine (if c then ready_at sp (then_some (issue_renewal (box_of r) start.work) (λ nw. put_word sp nw start)) else requested (ask_object (box_of r) start))
    at_last true f = renewals f (issue_renewal (box_of r) start.work) refl
    at_last false f = (
      asks_on k coherent s here_it t y at (box_of r) start started (start_now k coherent few s here_it t y at),
      λ mail.
          mail_sent (Light (asking (none_or_idle k))) n s.rest.outbox start.work.rest (server_of r.word) (message.Move r.word r.object start.work.rest.number start.thread.number) refl mail,
    )

    by_colour : (c : Bool) → NowFine (cleaned_by (if c then Tinted (next_word r.word) else MustRenew) sp r start)
    by_colour true = tinted (put_word sp (issue_tint (box_of r) start.work) start) refl
    by_colour false = at_last (server_of r.word == n) refl

  by_mark : (b : Bool) → r.dirty ≡ b → NowFine (cleaned_by (if b then (if nat_lt (colour_of r.word + 1) p.limit then Tinted (next_word r.word) else MustRenew) else Same) sp r start)
  by_mark true d = by_colour d (nat_lt (colour_of r.word + 1) p.limit)
  by_mark false d = start_now k coherent few s here_it t y at

  at_limit : (b : Bool) → NowFine (if b then cleaned_by (cleaned_answer p.limit r) sp r start else nothing)
  at_limit true = by_mark r.dirty refl
  at_limit false = tt

  -- cleaned, or asked for
  pub cleans_now : NowFine (clean_value sp (value_at start sp) start)
  cleans_now = subst (λ o. NowFine (clean_value sp o start)) (sym e.place.shown) (at_limit (nat_lt (colour_of r.word) p.limit))
