-- An object comes to the end of a mutable reference: its own, in a slot or in the hand, or one to which the place of its holder leads.
use Rattle.std.proofs.Common.{◌≡◌, inl, ℕ, ◌-◌, ◌==◌, Bool, true, false, if◌then◌else◌, length, Some, refl, sym, ap, subst, ◌∙◌}
use Rattle.std.specs.Prelude.{slice_get}
use Rattle.std.proofs.lemmas.Bool.{eqb-true, eq-eqb}
use Rattle.law_words_borrows.specs.Below.fr_base.declared.instruction.Instr.{Instr}
use Rattle.law_words_borrows.specs.Below.fr_base.declared.instruction.Instr.TheVariants as instr
use Rattle.law_words_borrows.specs.Below.heap_partition.declared.value.Cell.{Cell}
use Rattle.law_words_borrows.specs.Below.journal.View.{EntryView}
use Rattle.law_words_borrows.specs.Below.mut_borrow.declared.mutable.MutRef.{MutRef}
use Rattle.law_words_borrows.specs.Below.owner_box.Partition.{new_word}
use Rattle.law_words_borrows.specs.Below.thread_state.View.{ThreadState}
use Rattle.law_words_borrows.specs.Below.thread_state.declared.phase.Phase.TheVariants as phase
use Rattle.law_words_borrows.specs.Below.thread_state.declared.value.Value.TheVariants as value
use Rattle.law_words_borrows.specs.Below.server_msgs.declared.message.Message.TheVariants.{Moved}
use Rattle.law_words_borrows.specs.Below.server_model.declared.event.What.TheVariants.{Deliver}
use Rattle.law_words_borrows.specs.Below.server_model.Servers.{Server, Cluster, server_at}
use Rattle.law_words_borrows.specs.Below.server_model.Work.{Hand, front_of, thread_in}
use Rattle.law_words_borrows.specs.Below.server_model.Clusters.{apply}
use Rattle.law_words_borrows.specs.Below.server_model.NewWords.{can_grow}
use Rattle.law_words_borrows.specs.Below.server_model.Places.{Spot, in_slot, on_top, value_at}
use Rattle.law_words_borrows.specs.Below.server_model.Prepare.{EndRef, access_of, assigned as access_assigned, ending as access_ending}
use Rattle.law_words_borrows.specs.Below.server_model.Objects.{arrived_at, arrived_write, arrived_end, arrived, instr_access}
use Rattle.law_words_borrows.specs.Below.coherent_memory.OneHeap.{two_in}
use Rattle.law_words_borrows.specs.Below.coherent_memory.Follow.{Standing}
use Rattle.law_words_borrows.specs.Below.coherent_memory.Paths.{Path, ends, ending, assigning, path_of, Awaited, written_place}
use Rattle.law_words_borrows.specs.Below.coherent_memory.Sight.{sight}
use Rattle.law_words_borrows.specs.Below.coherent_memory.Turn.{InTurn, NextHop, by_end, by_holder}
use Rattle.law_words_borrows.specs.Below.coherent_memory.Walking.{path}
use Rattle.law_words_borrows.specs.Below.coherent_types.ClusterTypes.{IsCoherent}
use Rattle.law_words_borrows.specs.Below.law_counts_sums.Laws.{Gives, FewEvents}
use Rattle.law_words_borrows.specs.Below.law_words_paths.paths.HeapStore.{GoesOn, HasPaths}
use Rattle.law_words_borrows.specs.Below.law_words_paths.paths.Pointing as given
use Rattle.law_words_ends.proofs.Below.law_words_kept.ends.Ends.{ends_at}
use Rattle.law_words_writes.specs.Below.law_words_kept.prepared.Requests.{WordsRise}
use Rattle.law_words_writes.specs.Below.law_words_asked.arrivals.Awaited.{Awaits}
use Rattle.law_words_writes.proofs.Below.law_words_asked.awaited.Behind.{write_arrives}
use Rattle.law_words_writes.proofs.Below.law_words_asked.awaited.EndArrivals.{end_arrivals_keep}
use Rattle.law_words_writes.proofs.Below.law_words_asked.awaited.Landing.{before, landed, Kept, paths, on, awaits, untaken, delivered}
use Rattle.law_words_ends.specs.variables.Ends.{EndsReference, drops, discards, assigns}
use Rattle.law_words_ends.proofs.variables.EndHands.{newest_there}
use Rattle.law_words_ends.specs.arrivals.Regained.{EndsRegain}
use Rattle.law_words_ends.proofs.arrivals.Held.{sole_before}
use Rattle.law_words_ends.proofs.arrivals.HandArrivals as by_hand

same_reference : {q r : MutRef} → ends q ≡ ends r → q ≡ r
same_reference e = cc

-- a reference that ends with another word than that under which its thread waits: the next hop of its holder's place is awaited
holder_next : (k : Cluster) (x : Standing) (old : ℕ) (a : Awaited) (r : MutRef) (p : Path) → (r.word ≡ old → ⊥) → p ≡ ends r → InTurn (sight k) x old a p → NextHop (sight k) x r.holder a
holder_next k x old a r _ other e (by_end q word m) = absurd (other (ap (λ (z : MutRef). z.word) (sym (same_reference e)) ∙ word))
holder_next k x old a r _ other e (by_holder q differs next) = subst (λ (z : MutRef). NextHop (sight k) x z.holder a) (same_reference e) next
holder_next k x old a r _ other e _ = absurd (cc e)

-- what it needs is the end of that reference
ends_there : (y : ThreadState) (r : MutRef) (h : Hand) → h.thread ≡ y → (j : Instr) → EndsReference y r j → (sp : Spot) × (access_of j y ≡ Some (EndRef sp)) × (value_at h sp ≡ Some (value.Mut r))
ends_there y r h mine _ (drops e) = (in_slot (length y.slots - 1), ap (access_ending (in_slot (length y.slots - 1))) e, ap (λ (z : ThreadState). slice_get z.slots (length y.slots - 1)) mine ∙ e)
ends_there y r h mine _ (discards e) = (on_top, ap (access_ending on_top) e, ap (λ (z : ThreadState). Rattle.law_words_borrows.specs.Below.server_model.Work.last_of z.temps) mine ∙ e)
ends_there y r h mine _ (assigns w o flat e) = (in_slot w.slot, ap (λ d. access_assigned w d y) flat ∙ ap (access_ending (in_slot w.slot)) e, ap (λ (z : ThreadState). slice_get z.slots w.slot) mine ∙ e)

module _ (k : Cluster) (coherent : IsCoherent k) (few : FewEvents k) (s : Server) (here : server_at k.servers s.rest.number ≡ Some s) (t : ℕ) (y : ThreadState) (at : thread_in s.threads t ≡ Some y) (i old : ℕ) (c : Cell) (message_there : slice_get s.rest.inbox i ≡ Some (Moved old c t))
    (waiting : y.phase ≡ phase.WaitCell old) (grows : can_grow s.rest.partition ≡ true) (j : Instr) (code : slice_get k.code y.pc ≡ Some j) (r : MutRef) (ends_it : EndsReference y r j) (differs : (r.word == old) ≡ false) where
  abbrev me : Standing
  me = record { server = s.rest.number; packed = false; thread = y }

  abbrev cp : HasPaths k
  cp = paths k coherent few s here t y at i old c message_there waiting grows

  abbrev goes : GoesOn k me
  goes = on k coherent few s here t y at i old c message_there waiting grows

  abbrev K : Hand → Type 0
  K = Kept k coherent few s here t y at i old c message_there

  abbrev nw : ℕ
  nw = new_word s.rest.partition

  abbrev h1 : Hand
  h1 = landed k coherent few s here t y at i old c message_there

  abbrev aw : Awaits k me old c
  aw = awaits k coherent few s here t y at i old c message_there waiting grows

  path_by : (q : Instr) → EndsReference y r q → path_of (Some q) y ≡ ends r
  path_by _ (drops e) = ap ending e
  path_by _ (discards e) = ap ending e
  path_by _ (assigns w o flat e) = ap (λ d. assigning y.slots w d) flat ∙ ap ending e

  is : path (sight k) me ≡ ends r
  is = ap (λ b. path_of b y) code ∙ path_by j ends_it

  other : r.word ≡ old → ⊥
  other e = let no : true ≡ false = sym (eq-eqb r.word old e) ∙ differs in absurd (cc no)

  -- the next hop of its holder's place gets the word
  written : Gives K (arrived_write r.holder nw h1)
  written =
      write_arrives k coherent few s here t y at i old c message_there waiting grows r.holder (ap written_place is) aw.awaited (holder_next k me old aw.awaited r (path (sight k) me) other is aw.turn) aw.object
      (λ d l o lt located leads_there fresh.
      sole_before k cp me goes r is (ends_at k cp me goes r is) (ap two_in waiting) (untaken k coherent few s here t y at i old c message_there waiting grows) d l o lt located leads_there)

  pub holder_arrives : Gives K (arrived (instr_access (before k coherent few s here t y at i old c message_there) (slice_get k.code y.pc)) old nw h1)
  holder_arrives =
      let b = before k coherent few s here t y at i old c message_there in
      let a = ends_there y r h1 refl j ends_it in
      subst (λ o. Gives K (arrived (instr_access b o) old nw h1)) (sym code)
      (subst (λ o. Gives K (arrived o old nw h1)) (sym a.1)
      (subst (λ o. Gives K (arrived_end a.0 o old nw h1)) (sym a.2) (subst (λ q. Gives K (if q then arrived_at a.0 nw h1 else arrived_write r.holder nw h1)) (sym differs) written)))

pub ends_regain : EndsRegain
ends_regain k number i old t s c y j r coherent few here message_there at code ends_it = by (r.word == old) refl
  where
    -- its own object
    own : (q : Instr) → EndsReference y r q → slice_get k.code y.pc ≡ Some q → r.word ≡ old → Gives (λ (x : Cluster × EntryView). WordsRise k x.0) (apply k (record { server = number; what = Deliver i }))
    own _ (drops e) there word =
        let new = newest_there y.slots (value.Mut r) e in
        end_arrivals_keep k number i old t s c y instr.DropSlot (length (front_of y.slots)) r coherent few here message_there at there (given.dropped new.1) new.0 (inl word)
    own _ (assigns w o flat e) there word = end_arrivals_keep k number i old t s c y (instr.Assign w o) w.slot r coherent few here message_there at there (given.assigned flat) e (inl word)
    own _ (discards e) there word =
        delivered k number i old t s c y coherent few here message_there at (λ h waiting grows. by_hand.arrives k coherent few s h t y at i old c message_there waiting grows there r e word)

    by : (b : Bool) → (r.word == old) ≡ b → Gives (λ (x : Cluster × EntryView). WordsRise k x.0) (apply k (record { server = number; what = Deliver i }))
    by true e = own j ends_it code (eqb-true r.word old e)
    by false e =
        delivered k number i old t s c y coherent few here message_there at (λ h waiting grows. holder_arrives k coherent few s h t y at i old c message_there waiting grows j code r ends_it e)
