-- Shared borrows through stars that are done, whatever their pointer is, and so each borrow.
use Rattle.std.proofs.Common.{◌≡◌, ◌⊎◌, inl, inr, ⊎_elim, ℕ, zero, suc, Bool, true, false, Option, Some, None, is_some, refl, sym, ap, subst, ◌∙◌}
use Rattle.std.specs.Prelude.{slice_get}
use Rattle.law_entries_writes.specs.Below.law_entries_reads.Below.law_words_borrows.Below.fr_base.declared.place.Lval.{Lval}
use Rattle.law_entries_writes.specs.Below.law_entries_reads.Below.law_words_borrows.Below.fr_base.declared.instruction.Instr.{Instr}
use Rattle.law_entries_writes.specs.Below.law_entries_reads.Below.law_words_borrows.Below.fr_base.declared.instruction.Instr.TheVariants as instr
use Rattle.law_entries_writes.specs.Below.law_entries_reads.Below.law_words_borrows.Below.heap_partition.declared.value.Owned.{Owned}
use Rattle.law_entries_writes.specs.Below.law_entries_reads.Below.law_words_borrows.Below.mut_borrow.declared.mutable.MutRef.{MutRef}
use Rattle.law_entries_writes.specs.Below.law_entries_reads.Below.law_words_borrows.Below.thread_state.View.{ThreadState}
use Rattle.law_entries_writes.specs.Below.law_entries_reads.Below.law_words_borrows.Below.thread_state.declared.phase.Phase.TheVariants as phase
use Rattle.law_entries_writes.specs.Below.law_entries_reads.Below.law_words_borrows.Below.thread_state.declared.value.Value.{Value}
use Rattle.law_entries_writes.specs.Below.law_entries_reads.Below.law_words_borrows.Below.thread_state.declared.value.Value.TheVariants as value
use Rattle.law_entries_writes.specs.Below.law_entries_reads.Below.law_words_borrows.Below.journal.View.{EntryView}
use Rattle.law_entries_writes.specs.Below.law_entries_reads.Below.law_words_borrows.Below.server_model.declared.event.What.TheVariants.{Step}
use Rattle.law_entries_writes.specs.Below.law_entries_reads.Below.law_words_borrows.Below.server_model.Servers.{Server, Cluster, server_at}
use Rattle.law_entries_writes.specs.Below.law_entries_reads.Below.law_words_borrows.Below.server_model.Work.{Hand, thread_in}
use Rattle.law_entries_writes.specs.Below.law_entries_reads.Below.law_words_borrows.Below.server_model.Places.{Spot, in_slot, value_at, load_at}
use Rattle.law_entries_writes.specs.Below.law_entries_reads.Below.law_words_borrows.Below.server_model.Prepare.{Prepared, ready, requested, nothing, and_then, clean_value, read_stars, read_pointer}
use Rattle.law_entries_writes.specs.Below.law_entries_reads.Below.law_words_borrows.Below.server_model.Events.{enabled, begin_work, Stepped, prepared, step}
use Rattle.law_entries_writes.specs.Below.law_entries_reads.Below.law_words_borrows.Below.server_model.Clusters.{apply}
use Rattle.law_entries_writes.specs.Below.law_entries_variables.Below.coloured_heap.Heap.{Coloured}
use Rattle.law_entries_writes.specs.Below.law_entries_reads.Below.law_words_borrows.Below.coherent_memory.Things.{Location, at_slot}
use Rattle.law_entries_writes.specs.Below.law_entries_reads.Below.law_words_borrows.Below.coherent_memory.Follow.{Standing, Ground, slot_of, value_of, value_in, locate}
use Rattle.law_entries_writes.specs.Below.law_entries_reads.Below.law_words_borrows.Below.coherent_memory.Sight.{sight}
use Rattle.law_entries_writes.specs.Below.law_entries_reads.Below.law_words_borrows.Below.coherent_memory.Requests.{taken_there, taken_phase, lent_place}
use Rattle.law_entries_writes.specs.Below.law_entries_reads.Below.law_words_borrows.Below.coherent_memory.Colours.{StandsColoured}
use Rattle.law_entries_writes.specs.Below.law_entries_reads.Below.law_words_borrows.Below.coherent_memory.Coherent.{IsSound}
use Rattle.law_entries_writes.specs.Below.law_entries_reads.Below.law_words_borrows.Below.coherent_types.ClusterTypes.{IsCoherent}
use Rattle.law_entries_writes.specs.Below.law_entries_reads.Below.law_words_borrows.Below.law_counts_sums.Laws.{Gives, FewEvents}
use Rattle.law_entries_writes.specs.Below.law_entries_reads.Below.law_words_borrows.Below.law_words_kept.reads.Reading.{Reads, shares as shares_it}
use Rattle.law_entries_writes.specs.Below.law_entries_reads.Below.law_words_borrows.Below.law_words_kept.stays.Laws.{shared, mutable}
use Rattle.law_entries_writes.proofs.Below.law_entries_reads.Below.law_words_borrows.Below.law_counts_sums.GiftsTaken.{none_here}
use Rattle.law_entries_writes.proofs.Below.law_copies_kept.Below.law_words_paths.paths.Shown.{stands_there}
use Rattle.law_entries_writes.proofs.Below.law_copies_kept.Below.law_words_paths.paths.Sole.{some_is}
use Rattle.law_entries_writes.proofs.Below.law_copies_kept.Below.law_results_reads.Known.{Steps, goes, paths, standing}
use Rattle.law_entries_writes.proofs.Below.law_copies_kept.Below.law_results_reads.Starred.{At, a_slot, a_cell, a_copy, Fine}
use Rattle.law_entries_writes.proofs.Below.law_entries_reads.Below.law_words_borrows.Below.law_words_kept.prepared.Asking.{found_number}
use Rattle.law_entries_writes.proofs.Below.law_entries_reads.Below.law_words_borrows.Below.law_words_kept.prepared.Untaken.{not_taken}
use Rattle.law_entries_writes.proofs.Below.law_copies_kept.objects.Following as following
use Rattle.law_entries_writes.specs.Below.law_entries_variables.deliveries.Entries.{LeadsOn, EntryLegal}
use Rattle.law_entries_writes.proofs.Below.law_entries_variables.still.Borrows.{borrows_legal as variables_legal}
use Rattle.law_entries_writes.proofs.Below.law_entries_reads.asks.BorrowKinds.{ok_steps, shared_legal}
use Rattle.law_entries_writes.specs.Below.law_entries_reads.places.Reads.{DoneStepsLegal, BorrowsClean}
use Rattle.law_entries_writes.proofs.Below.law_entries_reads.places.Shares.{share_legal}
use Rattle.law_entries_writes.specs.Below.law_entries_variables.variables.Steps.{StepsLegal}
use Rattle.law_entries_writes.specs.Below.law_entries_reads.locks.Places.{lends}
use Rattle.law_entries_writes.proofs.Below.law_entries_reads.locks.Places.{each_legal, places_legal}
use Rattle.law_entries_events.specs.boxes.Borrows.{SharesThrough, shares, Borrows, shares_it as a_share, lends_it as a_loan}
use Rattle.law_entries_events.proofs.boxes.InSlots.{InSlots, in_slots}
use Rattle.law_entries_events.proofs.boxes.Ended.{Outcome, ends_done}
use Rattle.law_entries_events.proofs.boxes.DirtyShares.{cleaned_ends}

-- IS THE POINTER DIRTY?

-- a mutable reference through which its object was written
record Dirty (k : Cluster) (y : ThreadState) (w : Lval) (n : ℕ) : Type 0 where
  location : Location
  reference : MutRef
  located : locate (sight k).ground y.number w.slot n ≡ Some location
  there : value_in (sight k).ground location ≡ Some (value.Mut reference)
  dirty : reference.dirty ≡ true

same_mut : (q r : MutRef) → Some (value.Mut q) ≡ Some (value.Mut r) → q ≡ r
same_mut q r e = cc

dirty_or_clean : (k : Cluster) (y : ThreadState) (w : Lval) (n : ℕ) → Dirty k y w n ⊎ BorrowsClean k y w n
dirty_or_clean k y w n = by (locate (sight k).ground y.number w.slot n) refl
  where
    other : (l : Location) → locate (sight k).ground y.number w.slot n ≡ Some l → (v : Option Value) → value_in (sight k).ground l ≡ v → ((r : MutRef) → v ≡ Some (value.Mut r) → ⊥) → BorrowsClean k y w n
    other l e v f away = λ l2 r g h. let same : l ≡ l2 = some_is (sym e ∙ g) in absurd (away r (sym f ∙ subst (λ x. value_in (sight k).ground x ≡ Some (value.Mut r)) (sym same) h))

    by_mark : (l : Location) → locate (sight k).ground y.number w.slot n ≡ Some l → (r : MutRef) → value_in (sight k).ground l ≡ Some (value.Mut r) → (b : Bool) → r.dirty ≡ b → Dirty k y w n ⊎ BorrowsClean k y w n
    by_mark l e r f true d = inl (record { location = l; reference = r; located = e; there = f; dirty = d })
    by_mark l e r f false d =
        inr (λ l2 q g h.
        let same : l ≡ l2 = some_is (sym e ∙ g) in
        ap (λ (x : MutRef). x.dirty) (same_mut q r (sym h ∙ subst (λ x. value_in (sight k).ground x ≡ Some (value.Mut r)) same f)) ∙ d)

    by_value : (l : Location) → locate (sight k).ground y.number w.slot n ≡ Some l → (v : Option Value) → value_in (sight k).ground l ≡ v → Dirty k y w n ⊎ BorrowsClean k y w n
    by_value l e (Some (value.Mut r)) f = by_mark l e r f r.dirty refl
    by_value l e None f = inr (other l e None f (λ r g. cc g))
    by_value l e (Some value.Gone) f = inr (other l e (Some value.Gone) f (λ r g. cc g))
    by_value l e (Some (value.Own o)) f = inr (other l e (Some (value.Own o)) f (λ r g. cc g))
    by_value l e (Some (value.SharedSlot i)) f = inr (other l e (Some (value.SharedSlot i)) f (λ r g. cc g))
    by_value l e (Some (value.MutSlot i)) f = inr (other l e (Some (value.MutSlot i)) f (λ r g. cc g))
    by_value l e (Some (value.Shared q)) f = inr (other l e (Some (value.Shared q)) f (λ r g. cc g))
    by_value l e (Some (value.Held m)) f = inr (other l e (Some (value.Held m)) f (λ r g. cc g))

    by : (o : Option Location) → locate (sight k).ground y.number w.slot n ≡ o → Dirty k y w n ⊎ BorrowsClean k y w n
    by None e = inr (λ l r g h. let no : None ≡ Some l = sym e ∙ g in absurd (cc no))
    by (Some l) e = by_value l e (value_in (sight k).ground l) refl

-- A DIRTY ONE

own_mut : (o : Owned) (q : MutRef) → value.Own o ≡ value.Mut q → ⊥
own_mut o q e = absurd cc

module _ (k : Cluster) (coherent : IsCoherent k) (few : FewEvents k) (s : Server) (here : server_at k.servers s.rest.number ≡ Some s) (t : ℕ) (y : ThreadState) (at : thread_in s.threads t ≡ Some y) (on : enabled k.options s (Step t) ≡ true)
    (w : Lval) (m : ℕ) (deep : w.depth ≡ suc m) (code : slice_get k.code y.pc ≡ Some (instr.Borrow w)) (c0 : Coloured) (is_coloured : StandsColoured k c0) (d : Dirty k y w m) where
  abbrev n : ℕ
  n = s.rest.number

  abbrev i : Instr
  i = instr.Borrow w

  abbrev reads : Reads i w m
  reads = shares_it deep

  abbrev g : Ground
  g = (sight k).ground

  abbrev first : Hand
  first = record { work = begin_work s.rest; thread = y }

  abbrev Left : Stepped → Type 0
  Left = Outcome k coherent s here t y at c0 few i code

  untouched : (v : ℕ) → y.phase ≡ phase.Taken v → ⊥
  untouched = not_taken k coherent.sound n s here t y at i code refl

  abbrev z : Steps k n t s y i
  z = following.its k coherent few s here t y at on w i m reads code untouched

  abbrev x : Standing
  x = standing k n t s y i z

  -- where the place leads the reference stands
  leads_there : (l : Location) → locate g y.number w.slot m ≡ Some l → value_in g l ≡ Some (value.Mut d.reference)
  leads_there l e = subst (λ q. value_in g q ≡ Some (value.Mut d.reference)) (some_is (sym d.located ∙ e)) d.there

  -- which is in a slot, so the hand is as it was
  at_spot : (servers : ℕ) (h : Hand) (sp : Spot) (l : Location) → locate g y.number w.slot m ≡ Some l → At k n t s y i z sp l → InSlots first (ready h sp) → Gives Left (prepared servers i (clean_value sp (value_at h sp) (load_at sp h)))
  at_spot servers h _ _ e (a_slot j) same =
      let there = leads_there (at_slot y.number j) e in
      let stood : slice_get y.slots j ≡ Some (value.Mut d.reference) = sym (ap (λ o. slot_of o j) (stands_there k (paths k n t s y i z) x (goes k n t s y i z))) ∙ there in
      subst (λ q. Gives Left (prepared servers i (clean_value (in_slot j) (value_at q (in_slot j)) (load_at (in_slot j) q)))) (sym same) (cleaned_ends k coherent few s here t y at on w m deep code c0 is_coloured j d.reference e stood there d.dirty servers)
  at_spot servers h _ _ e (a_cell c q o cell f has) same = absurd (own_mut cell.value d.reference (some_is (sym (ap value_of has) ∙ leads_there _ e)))
  at_spot servers h _ _ e (a_copy c o cell f has) same = absurd (own_mut cell.value d.reference (some_is (sym (ap value_of has) ∙ leads_there _ e)))

  abbrev next : Hand → Spot → Prepared
  next h sp = clean_value sp (value_at h sp) (load_at sp h)

  from_there : (servers : ℕ) (p : Prepared) → Fine k n t s y i z w.slot m p → InSlots first p → Gives Left (prepared servers i (and_then next p))
  from_there servers (ready h sp) f e = at_spot servers h sp f.0 f.1 f.2 e
  from_there servers (requested h) f e = λ done. absurd (cc done)
  from_there servers nothing f e = tt

  dirty_ends : Gives Left (step k.options.servers i first)
  dirty_ends =
      subst (λ e. Gives Left (prepared k.options.servers i (read_pointer w e first))) (sym deep)
      (from_there k.options.servers (read_stars m first (in_slot w.slot)) (following.fine k coherent few s here t y at on w i m reads code untouched) (in_slots s.rest y w.slot m))

-- so it is done, whatever the pointer is
pub shares_legal : DoneStepsLegal SharesThrough
shares_legal k number t s y _ co few here at code (shares w m deep) c0 is_coloured =
    ⊎_elim
    (λ (d : Dirty k y w m).
    subst (λ n. server_at k.servers n ≡ Some s → Gives (λ (e : Cluster × EntryView). is_some e.1.done ≡ true → LeadsOn k.options e.1 c0 e.0) (apply k (record { server = n; what = Step t }))) (found_number number k.servers s here)
    (λ h. ends_done k co s h t y at c0 few (instr.Borrow w) code (λ on. ok_steps k co few s h t y at (instr.Borrow w) code c0 tt) (λ on. dirty_ends k co few s h t y at on w m deep code c0 is_coloured d)) here)
    (λ (clean : BorrowsClean k y w m). share_legal k number t s y w m deep co few here at code clean c0 is_coloured) (dirty_or_clean k y w m)

-- EACH BORROW

-- a thread that has taken an object doesn't stand at a borrow of a variable
variable_free : (k : Cluster) → IsSound k → (number : ℕ) (s : Server) → server_at k.servers number ≡ Some s → (t : ℕ) (y : ThreadState) → thread_in s.threads t ≡ Some y → (w : Lval) → slice_get k.code y.pc ≡ Some (instr.BorrowMut w) → w.depth ≡ 0 → (v : ℕ) → y.phase ≡ phase.Taken v → ⊥
variable_free k sound number s here t y at w code flat v e =
    let x : Standing = record { server = s.rest.number; packed = false; thread = y } in
    let stands : taken_phase (sight k) x y.phase ≡ 0 = none_here k sound number s here t y at (λ q. taken_phase (sight k) q q.thread.phase) sound.requests.taken_stands in
    let there : taken_there (sight k) x v (lent_place (slice_get k.code y.pc)) ≡ 0 = subst (λ p. taken_phase (sight k) x p ≡ 0) e stands in
    let at_it : taken_there (sight k) x v (Some w) ≡ 0 = subst (λ j. taken_there (sight k) x v (lent_place j) ≡ 0) code there in
    let one : 1 ≡ 0 = subst (λ d. taken_there (sight k) x v (Some (record w { depth = d })) ≡ 0) flat at_it in
    absurd (cc one)

pub borrows_legal : StepsLegal Borrows
borrows_legal k number t s y _ co few here at code (a_share w) = by w.depth refl
  where
    by : (d : ℕ) → w.depth ≡ d → EntryLegal k (record { server = number; what = Step t })
    by zero e = variables_legal k number t s y (instr.Borrow w) co.sound few here at code (shared e) (not_taken k co.sound number s here t y at (instr.Borrow w) code refl)
    by (suc m) e = each_legal k (record { server = number; what = Step t }) (shares_legal k number t s y (instr.Borrow w) co few here at code (shares w m e)) (shared_legal k number t s y w co few here at code)
borrows_legal k number t s y _ co few here at code (a_loan w) = by w.depth refl
  where
    by : (d : ℕ) → w.depth ≡ d → EntryLegal k (record { server = number; what = Step t })
    by zero e = variables_legal k number t s y (instr.BorrowMut w) co.sound few here at code (mutable e) (variable_free k co.sound number s here t y at w code e)
    by (suc m) e = places_legal k number t s y (instr.BorrowMut w) co few here at code (lends w m e)
