-- A shared borrow, done or not, keeps the words: its pointer is cleaned first, and the new reference has its word.
use Rattle.std.proofs.Common.{◌≡◌, ⊎_elim, ℕ, zero, suc, ◌+◌, ◌==◌, Bool, true, false, if◌then◌else◌, List, [], ◌++◌, Option, Some, None, option_map, refl, sym, ap, subst, ◌∙◌}
use Rattle.std.specs.Prelude.{⊤, slice_get, nat_lt}
use Rattle.law_heap_steps.specs.Below.fr_base.declared.place.Lval.{Lval}
use Rattle.law_heap_steps.specs.Below.fr_base.declared.instruction.Instr.{Instr}
use Rattle.law_heap_steps.specs.Below.fr_base.declared.instruction.Instr.TheVariants as instr
use Rattle.law_heap_steps.specs.Below.global_addr.Words.{colour_of, server_of, next_word}
use Rattle.law_heap_steps.specs.Below.heap_partition.declared.value.Cell.{Cell}
use Rattle.law_heap_steps.specs.Below.heap_partition.declared.value.Owned.{Owned}
use Rattle.law_heap_steps.specs.Below.heap_partition.declared.value.Owned.TheVariants as owned
use Rattle.law_heap_steps.specs.Below.mut_borrow.Refs.{cleaned_answer}
use Rattle.law_heap_steps.specs.Below.mut_borrow.declared.mutable.MutRef.{MutRef}
use Rattle.law_heap_steps.specs.Below.mut_borrow.declared.mutable.Cleaned.TheVariants as cleaned
use Rattle.law_heap_steps.specs.Below.mut_borrow.declared.shared.SharedRef.{SharedRef}
use Rattle.law_heap_steps.specs.Below.journal.View.{EntryView}
use Rattle.law_heap_steps.specs.Below.thread_state.View.{ThreadState}
use Rattle.law_heap_steps.specs.Below.thread_state.declared.phase.Phase.TheVariants as phase
use Rattle.law_heap_steps.specs.Below.thread_state.declared.value.Value.{Value}
use Rattle.law_heap_steps.specs.Below.thread_state.declared.value.Value.TheVariants as value
use Rattle.law_heap_steps.specs.Below.server_model.declared.event.What.TheVariants.{Step}
use Rattle.law_heap_steps.specs.Below.server_model.Servers.{Server, Cluster, server_at}
use Rattle.law_heap_steps.specs.Below.server_model.Work.{Hand, push_temp, thread_in, without_thread, then_some}
use Rattle.law_heap_steps.specs.Below.server_model.Clusters.{apply}
use Rattle.law_heap_steps.specs.Below.server_model.NewWords.{NewWord, issue_tint, issue_renewal}
use Rattle.law_heap_steps.specs.Below.server_model.Places.{Spot, in_slot, in_cell, in_copy, cell_at, value_at, value_in as cell_value, pointer_of, load_at, took, put_word}
use Rattle.law_heap_steps.specs.Below.server_model.Prepare.{Prepared, ready, requested, nothing, and_then, ready_at, ask_object, box_of, cleaned_by, clean_value, read_stars, read_pointer}
use Rattle.law_heap_steps.specs.Below.server_model.Commit.{goes_on, shared_from, borrow, borrow_from, commit}
use Rattle.law_heap_steps.specs.Below.server_model.Events.{enabled, begin_work, Stepped, committed, prepared, step, step_in, stepped, does}
use Rattle.law_heap_steps.specs.Below.coherent_memory.Things.{Location, at_slot, Thing, servers_things}
use Rattle.law_heap_steps.specs.Below.coherent_memory.Follow.{Ground, value_in, locate}
use Rattle.law_heap_steps.specs.Below.coherent_memory.Sight.{sight}
use Rattle.law_heap_steps.specs.Below.coherent_memory.Words.{IsStale}
use Rattle.law_words_values.specs.Below.coherent_types.ClusterTypes.{IsCoherent}
use Rattle.law_words_values.proofs.Below.law_words_paths.paths.Sole.{some_is}
use Rattle.law_words_kept.specs.Below.law_words_paths.words.Reworded.{HasPlaces}
use Rattle.law_words_kept.specs.Below.law_words_paths.words.Unmoved.{LeavesWords}
use Rattle.law_words_kept.specs.Below.law_words_paths.words.OneMore.{IsClean, Beside}
use Rattle.law_words_kept.proofs.Below.law_words_paths.words.OneMore.{one_more_stays}
use Rattle.law_words_kept.proofs.Below.law_words_paths.words.Slots.{set_same}
use Rattle.law_words_kept.proofs.Below.law_words_paths.words.Tints.{slot_put, word_put}
use Rattle.law_words_kept.proofs.Below.law_words_paths.words.Unmoved.{untouched_stays}
use Rattle.law_heap_steps.specs.Below.law_counts_sums.Laws.{Gives, FewEvents}
use Rattle.law_heap_steps.proofs.Below.law_counts_sums.Results.{given_by, weaker, over_gives, both_give}
use Rattle.law_heap_steps.proofs.Below.law_counts_sums.RulesKeep.{sums_kept}
use Rattle.law_heap_steps.proofs.Below.law_counts_sums.Bags.{all_standing}
use Rattle.law_heap_steps.proofs.Below.law_counts_sums.Events.{others_of}
use Rattle.law_heap_steps.proofs.Below.law_counts_sums.NewWords.{hand_renews, puts_word}
use Rattle.law_heap_steps.proofs.Below.law_counts_sums.AllSteps.{commits}
use Rattle.law_heap_steps.proofs.Below.law_counts_sums.Steps.{SteppedOk, committed_keeps}
use Rattle.law_heap_steps.specs.Below.law_words_kept.reads.Reading.{Reads, LiesUnder, shares as shares_it}
use Rattle.law_words_values.proofs.Below.law_words_kept.stays.Alike.{turned, chain}
use Rattle.law_words_values.proofs.Below.law_words_kept.stays.Seen.{seen_alike}
use Rattle.law_words_values.proofs.Below.law_words_kept.stays.Sites.{HandAlike}
use Rattle.law_words_values.proofs.Below.law_words_kept.stays.Steps.{TakesNoneHere, shared_slot_unseen, hand_itself, pushes, goes_over}
use Rattle.law_words_values.proofs.Below.law_words_kept.stays.StayKinds.{borrows_leave}
use Rattle.law_words_values.specs.Below.law_words_kept.stays.Laws.{shared}
use Rattle.law_words_values.specs.Below.law_words_kept.prepared.Requests.{WordsRise}
use Rattle.law_words_values.proofs.Below.law_words_kept.prepared.Rising.{rise_itself}
use Rattle.law_words_values.proofs.Below.law_words_kept.prepared.Untaken.{not_taken}
use Rattle.law_words_values.proofs.Below.law_words_kept.prepared.Hands.{Ok, State, Walks, put, places, cleans_at}
use Rattle.law_words_values.proofs.Below.law_words_kept.prepared.Stars.{Spotted, a_slot, a_cell, a_copy, asks_object, walks_loaded}
use Rattle.law_words_values.proofs.Below.law_words_kept.prepared.Asking.{found_number}
use Rattle.law_words_values.proofs.carried.Locks.{holds_on, Kept, kept_where}
use Rattle.law_words_borrows.specs.Borrows.{SharedBorrowsKeep}
use Rattle.law_words_borrows.proofs.OneShare.{shared_pointer, share_more}
use Rattle.law_words_borrows.proofs.Sources as sources
use Rattle.law_words_borrows.proofs.Sources.{no_value}
use Rattle.law_words_borrows.proofs.Renews.{renewed_so}
use Rattle.law_words_borrows.proofs.Pushed.{May, to_slot, to_object, may, coming, shared_on_top, hands_alike}

-- what owns is no reference
own_no_mut : (o : Owned) (p : MutRef) → value.Own o ≡ value.Mut p → ⊥
own_no_mut o p e = absurd cc

-- from what is no pointer nothing is made
none_shared : (v u : Value) → shared_from v ≡ None → shared_from v ≡ Some u → ⊥
none_shared v u e f = let z : None ≡ Some u = sym e ∙ f in absurd cc

module _ (k : Cluster) (coherent : IsCoherent k) (few : FewEvents k) (s : Server) (here : server_at k.servers s.rest.number ≡ Some s) (t : ℕ) (y : ThreadState) (at : thread_in s.threads t ≡ Some y)
    (on : enabled k.options s (Step t) ≡ true) (w : Lval) (m : ℕ) (deep : w.depth ≡ suc m) (code : slice_get k.code y.pc ≡ Some (instr.Borrow w)) (free : (v : ℕ) → y.phase ≡ phase.Taken v → ⊥) where
  abbrev n : ℕ
  n = s.rest.number

  abbrev i : Instr
  i = instr.Borrow w

  abbrev reads : Reads i w m
  reads = shares_it deep

  abbrev g : Ground
  g = (sight k).ground

  abbrev W : Hand → Type 0
  W = Walks k coherent s here t y at

  abbrev S : Hand → Type 0
  S = State k coherent s here t y at

  abbrev IsOk : Hand → Type 0
  IsOk = Ok k coherent s here t y at

  abbrev Put : Hand → Cluster
  Put = put k coherent s here t y at

  abbrev h0 : Hand
  h0 = record { work = begin_work s.rest; thread = y }

  abbrev b : List Thing
  b = all_standing n (without_thread s.threads t) ++ servers_things (others_of k.servers n)

  abbrev Source : Hand → Value → Type 0
  Source = sources.Source k coherent s here t y at on i code w m reads deep

  abbrev IsNone : Value → Type 0
  IsNone = sources.IsNone k coherent s here t y at on i code w m reads deep

  abbrev Came : Prepared → Type 0
  Came = sources.Came k coherent s here t y at on i code w m reads deep

  abbrev Followed : Prepared → Type 0
  Followed = sources.Followed k coherent s here t y at on i code w m reads deep

  abbrev AtSpot : Hand → Spot → Type 0
  AtSpot = sources.AtSpot k coherent s here t y at on i code w m reads deep

  -- nothing is taken
  none : TakesNoneHere k.code y
  none = sources.none k coherent s here t y at on i code w m reads deep free

  -- the hand's cluster has places
  placed : (h : Hand) → IsOk h → HasPlaces (Put h)
  placed h q = places k coherent s here t y at h q

  -- a hand in which a shared reference may be made from what stands at the spot
  record Lends (h : Hand) (sp : Spot) : Type 0 where
    ok : IsOk h
    words : WordsRise k (Put h)
    untaken : TakesNoneHere k.code h.thread
    may : (v u : Value) → value_at h sp ≡ Some v → shared_from v ≡ Some u → May (Put h) u

  abbrev Fine : Prepared → Type 0
  Fine (ready h sp) = Lends h sp
  Fine (requested h) = S h
  Fine nothing = ⊤

  -- one way or the other
  fine_if : (c : Bool) (p q : Prepared) → Fine p → Fine q → Fine (if c then p else q)
  fine_if true p q f h = f
  fine_if false p q f h = h

  -- of a hand in which the words hold
  lends_by : (h : Hand) (sp : Spot) → W h → ((v u : Value) → value_at h sp ≡ Some v → shared_from v ≡ Some u → May (Put h) u) → Lends h sp
  lends_by h sp c f = record { ok = c.state.ok; words = c.state.along.words; untaken = c.untaken none; may = f }

  -- the pointer isn't stale at the start
  fresh_there : (l : Location) → locate g y.number w.slot m ≡ Some l → IsStale (sight k) (Some l) → ⊥
  fresh_there l there = sources.fresh_there k coherent s here t y at on i code w m reads deep free l there

  -- IN A SLOT

  module _ (j : ℕ) (located : locate g y.number w.slot m ≡ Some (at_slot y.number j)) where
    -- the slot is where the place leads
    at_hand : (h : Hand) → IsOk h → locate g y.number w.slot m ≡ Some (at_slot h.thread.number j)
    at_hand h q = sources.at_hand k coherent s here t y at on i code w m reads deep j located h q

    -- its value stands there
    it_stands : (h : Hand) (q : IsOk h) (v : Value) → slice_get h.thread.slots j ≡ Some v → value_in (sight (Put h)).ground (at_slot h.thread.number j) ≡ Some v
    it_stands h q v e = sources.it_stands k coherent s here t y at on i code w m reads deep j located h q v e

    -- what isn't dirty
    plain : (h : Hand) (v : Value) → W h → slice_get h.thread.slots j ≡ Some v → ((p : MutRef) → v ≡ value.Mut p → p.dirty ≡ true → ⊥) → Lends h (in_slot j)
    plain h v c e clean =
        let q = c.state.ok in
        let l : Location = at_slot h.thread.number j in
        lends_by h (in_slot j) c
        (λ z u f made.
        let same : v ≡ z = some_is (sym e ∙ f) in
        may (Put h) (placed h q) c.state.along.words l (λ a. fresh_there l (at_hand h q) (c.state.along.fresher l a)) v u (it_stands h q v e) clean (ap shared_from same ∙ made))

    module _ (h : Hand) (r : MutRef) (c : W h) (e : slice_get h.thread.slots j ≡ Some (value.Mut r)) (part : h.work.rest.partition ≡ s.rest.partition) where
      abbrev l : Location
      l = at_slot h.thread.number j

      -- the sums of the hand
      q : IsOk h
      q = c.state.ok

      -- the reference isn't stale
      fresh : IsStale (sight k) (Some l) → ⊥
      fresh = fresh_there l (at_hand h q)

      -- its object lies, where it is dirty
      under : r.dirty ≡ true → LiesUnder k (box_of r)
      under dirty = sources.under_there k coherent s here t y at on i code w m reads deep free l (value.Mut r) (box_of r) (at_hand h q) (c.state.along.dirty_was l r (it_stands h q (value.Mut r) e) dirty) refl

      -- one that isn't dirty
      not_dirty : r.dirty ≡ false → (p : MutRef) → value.Mut r ≡ value.Mut p → p.dirty ≡ true → ⊥
      not_dirty f p a d = let z : r ≡ p = cc in let no : false ≡ true = sym f ∙ ap (λ (u : MutRef). u.dirty) z ∙ d in absurd cc

      -- one that got a word isn't dirty
      is_clean : (v : ℕ) (p : MutRef) → value.Mut (took r v) ≡ value.Mut p → p.dirty ≡ true → ⊥
      is_clean v p a d = let z : took r v ≡ p = cc in let no : false ≡ true = ap (λ (u : MutRef). u.dirty) z ∙ d in absurd cc

      -- the next colour
      tinted : r.dirty ≡ true → (o : Option Hand) → put_word (in_slot j) (issue_tint (box_of r) h.work) h ≡ o → Fine (ready_at (in_slot j) o)
      tinted dirty None a = tt
      tinted dirty (Some h2) a =
          let q2 : IsOk h2 = given_by IsOk (put_word (in_slot j) (issue_tint (box_of r) h.work) h) h2 (puts_word sums_kept n s.events t b (in_slot j) (issue_tint (box_of r) h.work) h (record { number = q.number; thread = q.thread; bag = q.bag })) a in
          let wrote = slot_put h h2 j (value.Mut r) (box_of r) e a in
          plain h2 (value.Mut (took r (next_word r.word))) (cleans_at k coherent s here t y at h h2 j r c q2 e dirty fresh (under dirty) a)
          (ap (λ (th : ThreadState). slice_get th.slots j) wrote.thread ∙ set_same h.thread.slots j (value.Mut r) wrote.new e ∙ sym wrote.worded) (is_clean (next_word r.word))

      -- a new address
      renews : r.dirty ≡ true → (server_of r.word == h.work.rest.number) ≡ true → (nw : NewWord) → issue_renewal (box_of r) h.work ≡ Some nw → (o : Option Hand) → put_word (in_slot j) nw h ≡ o → Fine (ready_at (in_slot j) o)
      renews dirty mine nw issues None a = tt
      renews dirty mine nw issues (Some h2) a =
          let qm : IsOk (record h { work = nw.work }) = given_by (λ (u : NewWord). IsOk (record h { work = u.work })) (issue_renewal (box_of r) h.work) nw (hand_renews sums_kept n s.events t b (box_of r) h q) issues in
          let q2 : IsOk h2 = given_by IsOk (put_word (in_slot j) nw h) h2 (puts_word sums_kept n s.events t b (in_slot j) nw h qm) a in
          let wrote = word_put (record h { work = nw.work }) h2 j nw.word (value.Mut r) e a in
          let it = renewed_so k coherent few s here t y at h h2 j r nw c q2 part e dirty fresh (under dirty) mine issues a in
          let now : slice_get h2.thread.slots j ≡ Some (value.Mut (took r nw.word)) = ap (λ (th : ThreadState). slice_get th.slots j) wrote.thread ∙ set_same h.thread.slots j (value.Mut r) wrote.new e ∙ sym wrote.worded in
          record {
            ok = q2;
            words = it.words;
            untaken = subst (λ th. TakesNoneHere k.code th) (sym wrote.thread) (c.untaken none);
            may = λ v u f made.
                (let same : value.Mut (took r nw.word) ≡ v = some_is (sym now ∙ f) in
                may (Put h2) (placed h2 q2) it.words l it.fresh (value.Mut (took r nw.word)) u it.now (is_clean nw.word) (ap shared_from same ∙ made));
          }

      -- where an address is there
      renewals : r.dirty ≡ true → (server_of r.word == h.work.rest.number) ≡ true → (o : Option NewWord) → issue_renewal (box_of r) h.work ≡ o → Fine (ready_at (in_slot j) (then_some o (λ nw. put_word (in_slot j) nw h)))
      renewals dirty mine None f = tt
      renewals dirty mine (Some nw) f = renews dirty mine nw f (put_word (in_slot j) nw h) refl

      -- at the last colour
      last : r.dirty ≡ true → (c2 : Bool) → (server_of r.word == h.work.rest.number) ≡ c2
          → Fine (if c2 then ready_at (in_slot j) (then_some (issue_renewal (box_of r) h.work) (λ nw. put_word (in_slot j) nw h)) else requested (ask_object (box_of r) h))
      last dirty true f = renewals dirty f (issue_renewal (box_of r) h.work) refl
      last dirty false f = asks_object k coherent s here t y at on i code w m reads (box_of r) h none c

      -- by its colour
      by_colour : r.dirty ≡ true → (c2 : Bool) → Fine (cleaned_by (if c2 then cleaned.Tinted (next_word r.word) else cleaned.MustRenew) (in_slot j) r h)
      by_colour dirty true = tinted dirty (put_word (in_slot j) (issue_tint (box_of r) h.work) h) refl
      by_colour dirty false = last dirty (server_of r.word == h.work.rest.number) refl

      -- by its mark
      by_mark : (d : Bool) → r.dirty ≡ d → Fine (cleaned_by (if d then (if nat_lt (colour_of r.word + 1) h.work.rest.partition.limit then cleaned.Tinted (next_word r.word) else cleaned.MustRenew) else cleaned.Same) (in_slot j) r h)
      by_mark true f = by_colour f (nat_lt (colour_of r.word + 1) h.work.rest.partition.limit)
      by_mark false f = plain h (value.Mut r) c e (not_dirty f)

      -- the reference is cleaned
      cleans : Fine (clean_value (in_slot j) (Some (value.Mut r)) h)
      cleans = fine_if (nat_lt (colour_of r.word) h.work.rest.partition.limit) (cleaned_by (cleaned_answer h.work.rest.partition.limit r) (in_slot j) r h) nothing (by_mark r.dirty refl) tt

    -- whatever stands in the slot
    slot_lends : (h : Hand) (o : Option Value) → W h → h.work.rest.partition ≡ s.rest.partition → slice_get h.thread.slots j ≡ o → Fine (clean_value (in_slot j) o h)
    slot_lends h None c part e = lends_by h (in_slot j) c (λ v u f made. absurd (no_value v (sym e ∙ f)))
    slot_lends h (Some (value.Mut r)) c part e = cleans h r c e part
    slot_lends h (Some value.Gone) c part e = plain h value.Gone c e (λ p a d. cc a)
    slot_lends h (Some (value.Own o)) c part e = plain h (value.Own o) c e (λ p a d. own_no_mut o p a)
    slot_lends h (Some (value.SharedSlot u)) c part e = plain h (value.SharedSlot u) c e (λ p a d. cc a)
    slot_lends h (Some (value.MutSlot u)) c part e = plain h (value.MutSlot u) c e (λ p a d. cc a)
    slot_lends h (Some (value.Shared u)) c part e = plain h (value.Shared u) c e (λ p a d. cc a)
    slot_lends h (Some (value.Held u)) c part e = plain h (value.Held u) c e (λ p a d. cc a)

  -- IN MEMORY

  -- from what is no pointer nothing is made
  none_may : (o : Owned) (u : Value) → pointer_of (value.Own o) ≡ None → shared_from (value.Own o) ≡ Some u → ⊥
  none_may (owned.Box p) u f made = absurd cc
  none_may owned.Nothing u f made = none_shared (value.Own owned.Nothing) u refl made
  none_may owned.Unit u f made = none_shared (value.Own owned.Unit) u refl made
  none_may (owned.Int z) u f made = none_shared (value.Own (owned.Int z)) u refl made
  none_may (owned.Mutex z) u f made = none_shared (value.Own (owned.Mutex z)) u refl made
  none_may (owned.Task z) u f made = none_shared (value.Own (owned.Task z)) u refl made

  -- at a spot that shows a cell
  memory_lends : (h : Hand) (sp : Spot) → W h → Spotted g y.number w.slot m sp → ((v : Value) → value_at h sp ≡ Some v → AtSpot h sp) → (o : Option Cell) → value_at h sp ≡ cell_value o → value_at (load_at sp h) sp ≡ cell_value o → Fine (clean_value sp (cell_value o) (load_at sp h))
  memory_lends h sp c p a None e f = lends_by (load_at sp h) sp (walks_loaded k coherent s here t y at on i code w m reads sp h c) (λ v u z made. absurd (no_value v (sym f ∙ z)))
  memory_lends h sp c p a (Some d) e f =
      lends_by (load_at sp h) sp (walks_loaded k coherent s here t y at on i code w m reads sp h c)
      (λ v u z made.
      let same : value.Own d.value ≡ v = some_is (sym f ∙ z) in
      let made_of : shared_from (value.Own d.value) ≡ Some u = ap shared_from same ∙ made in
      ⊎_elim (λ (q : Source h (value.Own d.value)). may (Put h) (placed h c.state.ok) c.state.along.words q.location (sources.fresh_source k coherent s here t y at on i code w m reads deep free h (value.Own d.value) c q) (value.Own d.value) u q.stands (λ r b x. own_no_mut d.value r b) made_of)
      (λ (q : IsNone (value.Own d.value)). absurd (none_may d.value u q.2 made_of)) (sources.sourced k coherent s here t y at on i code w m reads deep h sp c p a (value.Own d.value) e))

  -- the pointer is ready
  lent : (h : Hand) (sp : Spot) → W h → Spotted g y.number w.slot m sp → ((v : Value) → value_at h sp ≡ Some v → AtSpot h sp) → Fine (clean_value sp (value_at h sp) (load_at sp h))
  lent h _ c (a_slot j located) a = by (slice_get h.thread.slots j) refl
    where
      by : (o : Option Value) → slice_get h.thread.slots j ≡ o → Fine (clean_value (in_slot j) o (load_at (in_slot j) h))
      by None e = slot_lends_none e
        where
          slot_lends_none : slice_get h.thread.slots j ≡ None → Lends (load_at (in_slot j) h) (in_slot j)
          slot_lends_none f = lends_by (load_at (in_slot j) h) (in_slot j) (walks_loaded k coherent s here t y at on i code w m reads (in_slot j) h c) (λ v u z made. absurd (no_value v (sym f ∙ z)))
      by (Some v) e = slot_lends j located (load_at (in_slot j) h) (Some v) (walks_loaded k coherent s here t y at on i code w m reads (in_slot j) h c) (let q = a v e in q.like.partition) e
  lent h _ c (a_cell v through) a = memory_lends h (in_cell v through) c (a_cell v through) a (cell_at h (in_cell v through)) refl refl
  lent h _ c (a_copy v) a = memory_lends h (in_copy v) c (a_copy v) a (cell_at h (in_copy v)) refl refl

  -- so is the place
  all_lent : (p : Prepared) → Followed p → Came p → Fine (and_then (λ h2 sp. clean_value sp (value_at h2 sp) (load_at sp h2)) p)
  all_lent (ready h sp) f a = lent h sp f.0 f.1 a
  all_lent (requested h) f a = f none
  all_lent nothing f a = tt

  -- THE BORROW

  -- how its hand goes on
  data Over (h h2 : Hand) : Type 0 where
    unseen : HandAlike k.code n [] h h2 → Over h h2
    one_more : (l : Location) (r : SharedRef) → Beside (Put h) (shared_pointer r) → IsClean (Put h) r.object → HandAlike k.code n (coming l r) h h2 → Over h h2

  abbrev Ends : Hand → Stepped → Type 0
  Ends h d = Over h d.hand

  -- the new reference is on top
  pushed : (h : Hand) → TakesNoneHere k.code h.thread → (u : Value) → May (Put h) u → Gives (Ends h) (committed (goes_on (Some (push_temp u h))))
  pushed h unheld _ (to_slot j) =
      weaker (λ (d : Stepped). HandAlike k.code n [] h d.hand) (Ends h) (committed (goes_on (Some (push_temp (value.SharedSlot j) h)))) (goes_over k.code n h (Some (push_temp (value.SharedSlot j) h)) (pushes k.code n h (value.SharedSlot j) (shared_slot_unseen j) unheld)) (λ d a. unseen a)
  pushed h unheld _ (to_object r beside clean) =
      let h2 : Hand = push_temp (value.Shared r) h in
      let p = shared_on_top k.code n r h in
      weaker (λ (d : Stepped). HandAlike k.code n [] h2 d.hand) (Ends h) (committed (goes_on (Some h2))) (goes_over k.code n h2 (Some h2) (record { alike = hand_itself k.code n h2; untaken = unheld }))
      (λ d a. one_more p.location r beside clean (record {
        number = a.number ∙ p.alike.number;
        named = a.named ∙ p.alike.named;
        thread = chain p.alike.thread a.thread;
        rest = chain p.alike.rest a.rest;
      }))

  -- where one is made
  borrowed : (h : Hand) (sp : Spot) → Lends h sp → Gives (Ends h) (committed (goes_on (borrow_from w (suc m) sp h)))
  borrowed h sp q = by (value_at h sp) refl
    where
      made : (v : Value) → value_at h sp ≡ Some v → (o : Option Value) → shared_from v ≡ o → Gives (Ends h) (committed (goes_on (option_map (λ u. push_temp u h) o)))
      made v e None f = tt
      made v e (Some u) f = pushed h q.untaken u (q.may v u e f)

      by : (o : Option Value) → value_at h sp ≡ o → Gives (Ends h) (committed (goes_on (then_some o (λ v. option_map (λ u. push_temp u h) (shared_from v)))))
      by None e = tt
      by (Some v) e = made v e (shared_from v) refl

  abbrev Left : Stepped → Type 0
  Left d = WordsRise k (Put d.hand) × HasPlaces (Put d.hand)

  -- so the words hold
  words_on : (h h2 : Hand) → IsOk h → IsOk h2 → Over h h2 → WordsRise k (Put h) → WordsRise k (Put h2)
  words_on h h2 q q2 (unseen a) words =
      holds_on (untouched_stays (Put h) (Put h2) (placed h q) (placed h2 q2) (seen_alike (Put h) (Put h2) (placed h q) (placed h2 q2) refl (turned (hands_alike k coherent s here t y at [] h h2 q q2 a)))) words
  words_on h h2 q q2 (one_more l r beside clean a) words =
      holds_on (one_more_stays (Put h) (Put h2) (shared_pointer r) (placed h q) (placed h2 q2) (share_more (Put h) (Put h2) (placed h q) (placed h2 q2) refl l (record r { pinned = false }) (hands_alike k coherent s here t y at (coming l r) h h2 q q2 a) beside clean)) words

  -- with its thread put back
  left : (h : Hand) (sp : Spot) → Lends h sp → Gives Left (committed (commit 0 i sp h))
  left h sp q =
      both_give (SteppedOk sums_kept n s.events t b) (Ends h) Left (committed (goes_on (borrow w sp h)))
      (committed_keeps sums_kept n s.events t b (goes_on (borrow w sp h)) (commits sums_kept n s.events t b 0 i sp h tt (λ z. absurd z) q.ok))
      (subst (λ d. Gives (Ends h) (committed (goes_on (borrow_from w d sp h)))) (sym deep) (borrowed h sp q))
      (λ d ok over. (words_on h d.hand q.ok ok over q.words, placed d.hand ok))

  -- the step of what is ready or asked for
  prepared_share : (servers : ℕ) (p : Prepared) → Fine p → Gives Left (prepared servers i p)
  prepared_share servers (ready h sp) q = left h sp q
  prepared_share servers (requested h) q = (q.along.words, placed h q.ok)
  prepared_share servers nothing q = tt

  -- the step
  stepped_share : (servers : ℕ) → Gives Left (step servers i h0)
  stepped_share servers = subst (λ d. Gives Left (prepared servers i (read_pointer w d h0))) (sym deep) (prepared_share servers (read_pointer w (suc m) h0) (all_lent (read_stars m h0 (in_slot w.slot)) (sources.followed k coherent s here t y at on i code w m reads deep) (sources.came k coherent s here t y at on i code w m reads deep)))

  -- at its server
  pub server_shares : Gives (Kept k s) (does k.code k.options s (Step t))
  server_shares =
      subst (λ o. Gives (Kept k s) (option_map (stepped s) (then_some (option_map (λ v. record { work = begin_work s.rest; thread = v }) o) (step_in k.code k.options.servers)))) (sym at)
      (subst (λ o. Gives (Kept k s) (option_map (stepped s) (then_some o (λ j. step k.options.servers j h0)))) (sym code)
      (over_gives Left (Kept k s) (step k.options.servers i h0) (stepped s) (stepped_share k.options.servers) (λ d q. q)))

-- of a cluster with the event's entry
abbrev Holds : Cluster → Cluster × EntryView → Type 0
Holds k d = WordsRise k d.0

-- in its cluster
pub shared_borrows_keep : SharedBorrowsKeep
shared_borrows_keep k number t s y w coherent few here at code = by w.depth refl
  where
    free : (v : ℕ) → y.phase ≡ phase.Taken v → ⊥
    free = not_taken k coherent.sound number s here t y at (instr.Borrow w) code refl

    held : WordsRise k k
    held = rise_itself k coherent.sound

    by : (d : ℕ) → w.depth ≡ d → Gives (Holds k) (apply k (record { server = number; what = Step t }))
    by zero deep = weaker (λ (d : Cluster × EntryView). LeavesWords k d.0) (Holds k) (apply k (record { server = number; what = Step t })) (borrows_leave k number t s y (instr.Borrow w) coherent.sound few here at code (shared deep) free) (λ d q. holds_on q held)
    by (suc m) deep =
        subst (λ c. server_at k.servers c ≡ Some s → Gives (Holds k) (apply k (record { server = c; what = Step t }))) (found_number number k.servers s here)
        (λ h. kept_where k s t coherent few h (λ on. server_shares k coherent few s h t y at on w m deep code free)) here
