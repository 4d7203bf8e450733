-- Events that leave words, and issue none, keep it that each word was issued: by the laws of each kind.
use Rattle.std.proofs.Common.{◌≡◌, ℕ, ◌-◌, true, length, Option, Some, None, option_map, refl, ap, ◌∙◌}
use Rattle.std.specs.Prelude.{slice_get}
use Rattle.law_words_issued.specs.Below.fr_base.declared.instruction.Instr.{Instr}
use Rattle.law_words_issued.specs.Below.fr_base.declared.instruction.Instr.TheVariants as instr
use Rattle.law_words_issued.specs.Below.fr_base.declared.instruction.Operand.{Operand}
use Rattle.law_words_issued.specs.Below.fr_base.declared.place.Lval.{Lval}
use Rattle.law_words_issued.specs.Below.journal.View.{EntryView}
use Rattle.law_words_issued.specs.Below.thread_state.View.{ThreadState}
use Rattle.law_words_issued.specs.Below.thread_state.declared.value.Value.{Value}
use Rattle.law_words_issued.specs.Below.thread_state.declared.value.Value.TheVariants as value
use Rattle.law_words_issued.specs.Below.server_msgs.declared.message.Message.{Message}
use Rattle.law_words_issued.specs.Below.server_msgs.declared.message.Message.TheVariants as message
use Rattle.law_words_issued.specs.Below.server_model.declared.event.What.{What}
use Rattle.law_words_issued.specs.Below.server_model.declared.event.What.TheVariants.{Step, Deliver}
use Rattle.law_words_issued.specs.Below.server_model.Servers.{Server, Cluster, server_at}
use Rattle.law_words_issued.specs.Below.server_model.Work.{then_some, thread_in, last_of}
use Rattle.law_words_issued.specs.Below.server_model.Places.{Spot, in_slot, on_top, nowhere}
use Rattle.law_words_issued.specs.Below.server_model.Prepare.{assigned, ending, read_or_taken, read_stars, read_pointer, access_of, prepare}
use Rattle.law_words_issued.specs.Below.server_model.Clusters.{apply}
use Rattle.law_words_issued.specs.Below.coherent_memory.Sight.{sight}
use Rattle.law_words_issued.specs.Below.coherent_memory.Coherent.{Holds, are_issued}
use Rattle.law_words_issued.specs.Below.coherent_types.ClusterTypes.{IsCoherent}
use Rattle.law_words_issued.specs.Below.law_counts_sums.Kinds.{Kind, fetch, fetched, asks_lock, granted, unlocked, asks_dup, dupped, released, starts, asks_join, joined, finished, arrives, message_kind, kind_at}
use Rattle.law_words_issued.specs.Below.law_counts_sums.Laws.{Gives, FewEvents}
use Rattle.law_words_issued.proofs.Below.law_counts_sums.Results.{both_give}
use Rattle.law_words_issued.specs.Below.law_words_paths.words.Unmoved.{Delivers, LeavesWords, WordsStay}
use Rattle.law_words_issued.specs.Below.law_words_kept.stays.Laws.{LeaveWords, shared}
use Rattle.law_words_issued.proofs.Below.law_words_kept.stays.StayKinds.{kind_stays, borrows_leave}
use Rattle.law_words_issued.proofs.Below.law_words_kept.prepared.Untaken.{not_taken}
use Rattle.law_words_issued.specs.Below.law_words_values.carried.Steps.{a_let, a_join, an_end, drops as drops_owned, drops_none, puts_back as puts_owned, owns, gone}
use Rattle.law_words_issued.proofs.Below.law_words_values.carried.Assigns.{assigns_over}
use Rattle.law_words_issued.proofs.Below.law_words_values.carried.Events.{steps_carry, discards_carry}
use Rattle.law_words_issued.proofs.Below.law_words_values.carried.Gives.{owned_goes}
use Rattle.law_words_issued.proofs.Below.law_words_values.carried.Leaving.{moves_leave}
use Rattle.law_words_issued.specs.Below.law_words_values.references.Gone.{to_slot, to_slot_mutably, shared_to, moves as moves_any, drops as drops_light, discards as discards_light, assigns as assigns_light}
use Rattle.law_words_issued.proofs.Below.law_words_values.references.RefEvents.{references_go}
use Rattle.law_words_issued.proofs.Below.law_words_values.freed.Drops.{drops_leave}
use Rattle.law_words_issued.specs.stands.Issuing.{MakesNone, begun, IsReady, LandsNone}
use Rattle.law_words_issued.proofs.stands.Plain.{steps_keep_issued}
use Rattle.law_words_issued.proofs.stands.Delivered.{deliveries_keep_issued}
use Rattle.law_words_issued.specs.ever.Kinds.{EndsNone, FollowsNone, lets, joins, ends, puts_back, discards, drops, assigns, moves, borrows, StepsStandIssued, DeliveriesStandIssued}

-- ITS PLACE IS READY

-- what ends no reference follows no place
ends_none : (sp : Spot) (o : Option Value) (v : Value) → o ≡ Some v → EndsNone v → ending sp o ≡ None
ends_none sp o v e f = ap (ending sp) e ∙ by v f
  where
    by : (u : Value) → EndsNone u → ending sp (Some u) ≡ None
    by (value.Mut r) g = absurd g
    by (value.Held m) g = refl
    by value.Gone g = refl
    by (value.Own u) g = refl
    by (value.SharedSlot j) g = refl
    by (value.MutSlot j) g = refl
    by (value.Shared r) g = refl

module _ (s : Server) (y : ThreadState) where
  by_none : (i : Instr) → access_of i y ≡ None → IsReady s y i
  by_none i e = record { spot = nowhere; ready = ap (λ a. prepare a (begun s y)) e }

  is_ready : (i : Instr) → FollowsNone y i → IsReady s y i
  is_ready _ (lets o) = by_none (instr.Let o) refl
  is_ready _ (joins o) = by_none (instr.Join o) refl
  is_ready _ (ends o) = by_none (instr.End o) refl
  is_ready _ puts_back = by_none instr.Unlock refl
  is_ready _ (discards v e f) = by_none instr.Discard (ends_none on_top (last_of y.temps) v e f)
  is_ready _ (drops v e f) = by_none instr.DropSlot (ends_none (in_slot (length y.slots - 1)) (last_of y.slots) v e f)
  is_ready _ (assigns w o v flat e f) = by_none (instr.Assign w o) (ap (λ d. assigned w d y) flat ∙ ends_none (in_slot w.slot) (slice_get y.slots w.slot) v e f)
  is_ready _ (moves w v flat e) = record {
    spot = in_slot w.slot;
    ready = ap (λ d. prepare (Some (read_or_taken w d true)) (begun s y)) flat ∙ ap (λ d. read_stars d (begun s y) (in_slot w.slot)) flat;
  }
  is_ready _ (borrows w flat) = record { spot = in_slot w.slot; ready = ap (λ d. read_pointer w d (begun s y)) flat }

makes_none : (y : ThreadState) (i : Instr) → FollowsNone y i → MakesNone i
makes_none y _ (lets o) = tt
makes_none y _ (joins o) = tt
makes_none y _ (ends o) = tt
makes_none y _ puts_back = tt
makes_none y _ (discards v e f) = tt
makes_none y _ (drops v e f) = tt
makes_none y _ (assigns w o v flat e f) = tt
makes_none y _ (moves w v flat e) = tt
makes_none y _ (borrows w flat) = tt

-- WORDS STAY

module _ (k : Cluster) (number : ℕ) (s : Server) (coherent : IsCoherent k) (few : FewEvents k) (here : server_at k.servers number ≡ Some s) where
  abbrev Leaves : What → Type 0
  Leaves w = Gives (λ (d : Cluster × EntryView). LeavesWords k d.0) (apply k (record { server = number; what = w }))

  module _ (t : ℕ) (y : ThreadState) (at : thread_in s.threads t ≡ Some y) where
    discard_leaves : (v : Value) → slice_get k.code y.pc ≡ Some instr.Discard → last_of y.temps ≡ Some v → EndsNone v → Leaves (Step t)
    discard_leaves (value.Mut r) code e f = absurd f
    discard_leaves (value.Held m) code e f = absurd f
    discard_leaves (value.Shared r) code e f = references_go k number t s y instr.Discard coherent few here at code (discards_light (value.Shared r) e (shared_to r))
    discard_leaves (value.Own u) code e f = discards_carry k number t s y (value.Own u) coherent.sound few here at code e tt
    discard_leaves value.Gone code e f = discards_carry k number t s y value.Gone coherent.sound few here at code e tt
    discard_leaves (value.SharedSlot j) code e f = discards_carry k number t s y (value.SharedSlot j) coherent.sound few here at code e tt
    discard_leaves (value.MutSlot j) code e f = discards_carry k number t s y (value.MutSlot j) coherent.sound few here at code e tt

    drop_leaves : (v : Value) → slice_get k.code y.pc ≡ Some instr.DropSlot → last_of y.slots ≡ Some v → EndsNone v → Leaves (Step t)
    drop_leaves (value.Mut r) code e f = absurd f
    drop_leaves (value.Held m) code e f = absurd f
    drop_leaves (value.Shared r) code e f = references_go k number t s y instr.DropSlot coherent few here at code (drops_light (value.Shared r) e (shared_to r))
    drop_leaves (value.SharedSlot j) code e f = references_go k number t s y instr.DropSlot coherent few here at code (drops_light (value.SharedSlot j) e (to_slot j))
    drop_leaves (value.MutSlot j) code e f = references_go k number t s y instr.DropSlot coherent few here at code (drops_light (value.MutSlot j) e (to_slot_mutably j))
    drop_leaves (value.Own u) code e f = owned_goes k number t s y instr.DropSlot coherent few here at code (drops_owned u e)
    drop_leaves value.Gone code e f = owned_goes k number t s y instr.DropSlot coherent few here at code (drops_none e)

    assign_leaves : (w : Lval) (o : Operand) (v : Value) → slice_get k.code y.pc ≡ Some (instr.Assign w o) → w.depth ≡ 0 → slice_get y.slots w.slot ≡ Some v → EndsNone v → Leaves (Step t)
    assign_leaves w o (value.Mut r) code flat e f = absurd f
    assign_leaves w o (value.Held m) code flat e f = absurd f
    assign_leaves w o (value.Shared r) code flat e f = references_go k number t s y (instr.Assign w o) coherent few here at code (assigns_light w o (value.Shared r) flat e (shared_to r))
    assign_leaves w o (value.SharedSlot j) code flat e f = references_go k number t s y (instr.Assign w o) coherent few here at code (assigns_light w o (value.SharedSlot j) flat e (to_slot j))
    assign_leaves w o (value.MutSlot j) code flat e f = references_go k number t s y (instr.Assign w o) coherent few here at code (assigns_light w o (value.MutSlot j) flat e (to_slot_mutably j))
    assign_leaves w o (value.Own u) code flat e f = assigns_over k number t s y w o (value.Own u) coherent few here at code flat e (owns u)
    assign_leaves w o value.Gone code flat e f = assigns_over k number t s y w o value.Gone coherent few here at code flat e gone

    step_leaves : (i : Instr) → slice_get k.code y.pc ≡ Some i → FollowsNone y i → Leaves (Step t)
    step_leaves _ code (lets o) = steps_carry k number t s y (instr.Let o) coherent.sound few here at code (a_let o)
    step_leaves _ code (joins o) = steps_carry k number t s y (instr.Join o) coherent.sound few here at code (a_join o)
    step_leaves _ code (ends o) = steps_carry k number t s y (instr.End o) coherent.sound few here at code (an_end o)
    step_leaves _ code puts_back = owned_goes k number t s y instr.Unlock coherent few here at code puts_owned
    step_leaves _ code (discards v e f) = discard_leaves v code e f
    step_leaves _ code (drops v e f) = drop_leaves v code e f
    step_leaves _ code (assigns w o v flat e f) = assign_leaves w o v code flat e f
    step_leaves _ code (moves w v flat e) = references_go k number t s y (instr.Read w true) coherent few here at code (moves_any w v flat e)
    step_leaves _ code (borrows w flat) = borrows_leave k number t s y (instr.Borrow w) coherent.sound few here at code (shared flat) (not_taken k coherent.sound number s here t y at (instr.Borrow w) code refl)

  -- by its kind
  kind_leaves : (kind : Kind) (w : What) → kind_at k w s ≡ Some kind → LeaveWords kind → Leaves w
  kind_leaves kind w is law = law k (record { server = number; what = w }) (ap (λ o. then_some o (kind_at k w)) here ∙ is) coherent.sound few

  module _ (i : ℕ) where
    delivers : (m : Message) → slice_get s.rest.inbox i ≡ Some m → Delivers k (record { server = number; what = Deliver i }) m
    delivers m e = record { place = i; what = refl; server = s; there = here; message = e }

    message_leaves : (m : Message) → slice_get s.rest.inbox i ≡ Some m → LandsNone m → Leaves (Deliver i)
    message_leaves (message.Fetch w o a t) e f = kind_leaves fetch (Deliver i) (ap (option_map message_kind) e) (kind_stays fetch tt)
    message_leaves (message.Fetched w v t) e f = kind_leaves fetched (Deliver i) (ap (option_map message_kind) e) (kind_stays fetched tt)
    message_leaves (message.Move w o a t) e f = moves_leave k (record { server = number; what = Deliver i }) w o a t (delivers (message.Move w o a t) e) coherent.sound few
    message_leaves (message.Moved w v t) e f = absurd f
    message_leaves (message.Drop w o) e f = drops_leave k (record { server = number; what = Deliver i }) w o (delivers (message.Drop w o) e) coherent few
    message_leaves (message.Lock m a t) e f = kind_leaves asks_lock (Deliver i) (ap (option_map message_kind) e) (kind_stays asks_lock tt)
    message_leaves (message.Granted m v t) e f = kind_leaves granted (Deliver i) (ap (option_map message_kind) e) (kind_stays granted tt)
    message_leaves (message.Unlock m v) e f = kind_leaves unlocked (Deliver i) (ap (option_map message_kind) e) (kind_stays unlocked tt)
    message_leaves (message.Dup m a t) e f = kind_leaves asks_dup (Deliver i) (ap (option_map message_kind) e) (kind_stays asks_dup tt)
    message_leaves (message.Dupped m t) e f = kind_leaves dupped (Deliver i) (ap (option_map message_kind) e) (kind_stays dupped tt)
    message_leaves (message.Release r) e f = kind_leaves released (Deliver i) (ap (option_map message_kind) e) (kind_stays released tt)
    message_leaves (message.Start t) e f = kind_leaves starts (Deliver i) (ap (option_map message_kind) e) (kind_stays starts tt)
    message_leaves (message.Join u a t) e f = kind_leaves asks_join (Deliver i) (ap (option_map message_kind) e) (kind_stays asks_join tt)
    message_leaves (message.Joined u v t) e f = kind_leaves joined (Deliver i) (ap (option_map message_kind) e) (kind_stays joined tt)
    message_leaves (message.Finished u v) e f = kind_leaves finished (Deliver i) (ap (option_map message_kind) e) (kind_stays finished tt)
    message_leaves (message.Migrate t) e f = kind_leaves arrives (Deliver i) (ap (option_map message_kind) e) (kind_stays arrives tt)

-- THE LAWS

pub steps_stand_issued : StepsStandIssued
steps_stand_issued k number t s y i coherent few here at code follows =
    let before = coherent.sound.words.have_words in
    both_give (λ (d : Cluster × EntryView). LeavesWords k d.0) (λ (d : Cluster × EntryView). WordsStay (sight k) (sight d.0) before → Holds d.0 are_issued) (λ (d : Cluster × EntryView). Holds d.0 are_issued) (apply k (record { server = number; what = Step t }))
    (step_leaves k number s coherent few here t y at i code follows) (steps_keep_issued k number t s y i before coherent.sound few here at code (makes_none y i follows) (is_ready s y i follows)) (λ d l go. go (l.words before))

pub deliveries_stand_issued : DeliveriesStandIssued
deliveries_stand_issued k number i s m coherent few here at lands =
    let before = coherent.sound.words.have_words in
    both_give (λ (d : Cluster × EntryView). LeavesWords k d.0) (λ (d : Cluster × EntryView). WordsStay (sight k) (sight d.0) before → Holds d.0 are_issued) (λ (d : Cluster × EntryView). Holds d.0 are_issued) (apply k (record { server = number; what = Deliver i }))
    (message_leaves k number s coherent few here i m at lands) (deliveries_keep_issued k number i s m before coherent.sound few here at lands) (λ d l go. go (l.words before))
