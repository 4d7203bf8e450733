-- The place of the holder of a mutable reference that ends is followed in the coloured heap, where its pointer gets a word: first the reference is cleaned, and then each box on the way gets the next word of its object.
use Rattle.std.proofs.Common.{◌≡◌, ℕ, suc, ◌<◌, ◌≤◌, ◌==◌, Bool, true, false, if◌then◌else◌, Option, Some, None, refl, sym, ap, subst, ◌∙◌, arith}
use Rattle.std.specs.Prelude.{slice_get}
use Rattle.law_entries_reads.specs.Below.law_entries_variables.Below.law_words_ends.Below.fr_base.declared.instruction.Instr.{Instr}
use Rattle.law_entries_reads.specs.Below.law_entries_variables.Below.law_words_ends.Below.fr_base.declared.name.ObjNo.{ObjNo}
use Rattle.law_entries_reads.specs.Below.law_entries_variables.Below.law_words_ends.Below.fr_base.declared.place.Lval.{Lval}
use Rattle.law_entries_reads.specs.Below.law_entries_variables.Below.law_words_ends.Below.heap_partition.declared.value.BoxPtr.{BoxPtr}
use Rattle.law_entries_reads.specs.Below.law_entries_variables.Below.law_words_ends.Below.heap_partition.declared.value.Cell.{Cell}
use Rattle.law_entries_reads.specs.Below.law_entries_variables.Below.law_words_ends.Below.mut_borrow.declared.mutable.MutRef.{MutRef}
use Rattle.law_entries_reads.specs.Below.law_entries_variables.Below.law_words_ends.Below.owner_box.View.{PartitionState}
use Rattle.law_entries_reads.specs.Below.law_entries_variables.Below.law_words_ends.Below.thread_state.View.{ThreadState}
use Rattle.law_entries_reads.specs.Below.law_entries_variables.Below.law_words_ends.Below.thread_state.declared.value.Value.TheVariants as value
use Rattle.law_entries_reads.specs.Below.law_entries_variables.Below.law_words_ends.Below.server_model.declared.event.What.TheVariants.{Step}
use Rattle.law_entries_reads.specs.Below.law_entries_variables.Below.law_words_ends.Below.server_model.Servers.{Rest, Server, Cluster, server_at}
use Rattle.law_entries_reads.specs.Below.law_entries_variables.Below.law_words_ends.Below.server_model.Work.{Hand, thread_in, last_of}
use Rattle.law_entries_reads.specs.Below.law_entries_variables.Below.law_words_ends.Below.server_model.Places.{Spot, in_slot, value_at}
use Rattle.law_entries_reads.specs.Below.law_entries_variables.Below.law_words_ends.Below.server_model.Prepare.{Prepared, ready, requested, nothing, and_then, clean_value, follow_holder, follow_ended, write_stars}
use Rattle.law_entries_reads.specs.Below.law_entries_variables.Below.law_words_ends.Below.server_model.Events.{enabled, begin_work}
use Rattle.law_entries_writes.specs.Below.law_entries_variables.Below.coloured_heap.Heap.{Coloured}
use Rattle.law_entries_reads.specs.Below.law_entries_variables.Below.law_words_ends.Below.coherent_memory.Names.{tot}
use Rattle.law_entries_reads.specs.Below.law_entries_variables.Below.law_words_ends.Below.coherent_memory.Things.{Location, at_slot, in_cell as in_object, things_of}
use Rattle.law_entries_reads.specs.Below.law_entries_variables.Below.law_words_ends.Below.coherent_memory.Follow.{slot_of}
use Rattle.law_entries_reads.specs.Below.law_entries_variables.Below.law_words_ends.Below.coherent_memory.Sight.{sight}
use Rattle.law_entries_reads.specs.Below.law_entries_variables.Below.law_words_ends.Below.coherent_memory.Words.{HasWords}
use Rattle.law_entries_reads.specs.Below.law_entries_variables.Below.law_words_ends.Below.coherent_memory.Colours.{StandsColoured}
use Rattle.law_entries_reads.specs.Below.law_entries_variables.Below.law_words_ends.Below.coherent_types.ClusterTypes.{IsCoherent}
use Rattle.law_entries_reads.specs.Below.law_entries_variables.Below.law_words_ends.Below.law_counts_sums.Laws.{FewEvents}
use Rattle.law_entries_reads.proofs.Below.law_entries_variables.Below.law_words_ends.Below.law_words_paths.paths.Shown.{stands_there}
use Rattle.law_entries_reads.proofs.Below.law_entries_variables.Below.law_words_ends.Below.law_words_kept.reads.Homes.{fresh_word}
use Rattle.law_entries_reads.proofs.Below.law_entries_variables.Below.law_words_ends.Below.law_results_reads.Known.{Steps, standing, paths, goes}
use Rattle.law_heap_writes.proofs.Below.law_results_events.writes.Route.{Route, begins, a_slot, rerouted}
use Rattle.law_heap_writes.proofs.Below.law_results_events.writes.StepRoutes.{roomy}
use Rattle.law_heap_writes.proofs.Below.law_results_events.writes.Holders.{C, short_holder, route, object_away, slot_away}
use Rattle.law_heap_writes.proofs.Below.law_words_writes.Below.law_words_asked.writes.Onward.{IsWritten}
use Rattle.law_heap_writes.proofs.Below.law_words_writes.Below.law_words_asked.writes.Walks.{BoxAt, in_a_slot, in_a_cell}
use Rattle.law_copies_writes.proofs.Below.law_words_ends.stars.HolderSoles.{written_there, words_there}
use Rattle.law_copies_writes.proofs.Below.law_words_ends.stars.Cleaned.{steps, End, Cleaned, CleanFine, cleans}
use Rattle.law_copies_writes.proofs.Below.law_words_ends.stars.Following.{leads as leads_to}
use Rattle.law_entries_writes.proofs.Below.law_entries_variables.deliveries.Shown.{dropped_by}
use Rattle.law_entries_writes.proofs.walks.Walks.{AllLed, ready_led, asks_led, no_led, all_led}
use Rattle.law_entries_writes.proofs.walks.Ways.{kept_there}
use Rattle.law_entries_writes.proofs.ends.Finishing.{GivesWords, GivenFine}
use Rattle.law_entries_writes.proofs.ends.Cleaning.{CleanGiven, cleans_given}

module _ (k : Cluster) (coherent : IsCoherent k) (few : FewEvents k) (s : Server) (here_it : server_at k.servers s.rest.number ≡ Some s) (t : ℕ) (y : ThreadState) (at : thread_in s.threads t ≡ Some y) (on : enabled k.options s (Step t) ≡ true) (c0 : Coloured) (is_coloured : StandsColoured k c0)
    (i : Instr) (code : slice_get k.code y.pc ≡ Some i) (r : MutRef) (sp : Spot) (other : MutRef → ThreadState) (e : End k coherent few s here_it t y at on i code r sp other) where
  abbrev n : ℕ
  n = s.rest.number

  abbrev z : Steps k n t s y i
  z = steps k coherent few s here_it t y at on i code

  abbrev tn : ℕ
  tn = y.number

  abbrev start : Hand
  start = record { work = begin_work s.rest; thread = y }

  abbrev Clean : Hand → Type 0
  Clean = Cleaned k coherent few s here_it t y at on i code r sp other e

  abbrev Words : Hand → Type 0
  Words = GivesWords k coherent few s here_it t y at on c0 is_coloured

  abbrev Fine : Prepared → Type 0
  Fine = GivenFine k coherent few s here_it t y at on c0 is_coloured

  abbrev depth : ℕ
  depth = r.holder.depth

  abbrev before : HasWords (sight k)
  before = coherent.sound.words.have_words

  -- its holder's place
  abbrev leads : ℕ → Option Location
  leads = leads_to k coherent few s here_it t y at on i code r sp other e

  abbrev Cells : ObjNo → Option Cell
  Cells = C k n t s y i z r e.is e.it

  written : (j : ℕ) → j < depth → (l : Location) (o : ObjNo) → leads j ≡ Some l → leads (suc j) ≡ Some (in_object o) → IsWritten k l o
  written j lt l o located next = written_there k n t s y i z r e.ends_it e.is e.it e.untaken j lt l o located next

  kept : (j : ℕ) → j < depth → (o : ObjNo) → leads (suc j) ≡ Some (in_object o) → tot (dropped_by o) (things_of k) ≡ 0
  kept j lt o next =
      let l = (route k n t s y i z r e.is e.it).leads_there j (omega (arith, lt)) in
      kept_there k coherent tn r.holder.slot j l.0 o l.1 next

  -- THE WAY

  module _ (h1 : Hand) (cl : Clean h1) (g : Words h1) where
    abbrev q : PartitionState
    q = h1.work.rest.partition

    abbrev r1 : Rest
    r1 = record s.rest { partition = q }

    abbrev y1 : ThreadState
    y1 = record y { slots = h1.thread.slots; temps = h1.thread.temps }

    -- a slot on the way isn't the reference's
    on_way : (m j : ℕ) → j ≤ depth → leads j ≡ Some (at_slot tn m) → e.it.at ≡ at_slot tn m → ⊥
    on_way m j le located here = slot_away k n t s y i z r e.is e.it m j here le located

    way : Route r1 y1 Cells leads depth
    way =
        rerouted s.rest y Cells leads depth (route k n t s y i z r e.is e.it) r1 refl h1.thread.slots h1.thread.temps (λ m j lt located. cl.slots m (on_way m j (omega (arith, lt)) located))
        (λ j v c le located lead. cl.cells v c lead (λ f. object_away k n t s y i z r e.is e.it j le (located ∙ ap (λ o. Some (in_object o)) f))) (λ less. cl.sane)
        (let a = cl.long in let b = roomy k n t s y i z in let d = short_holder k n t s y i z r e.is e.it in omega (arith, a, b, d))

    box_was : (j : ℕ) → j < depth → (l : Location) (p : BoxPtr) → leads j ≡ Some l → BoxAt y1 Cells l p → BoxAt y Cells l p
    box_was j lt l p located (in_a_slot m from f) = in_a_slot m from (sym (cl.slots m (on_way m j (omega (arith, lt)) (located ∙ ap Some from))) ∙ f)
    box_was j lt l p located (in_a_cell o c from has boxed) = in_a_cell o c from has boxed

    words_are : (j : ℕ) → j < depth → (l : Location) (p : BoxPtr) → leads j ≡ Some l → leads (suc j) ≡ Some (in_object p.object) → BoxAt y1 Cells l p → p.word ≡ before.word p.object
    words_are j lt l p located next box = words_there k n t s y i z r e.ends_it e.is e.it e.untaken j lt l p located next (box_was j lt l p located box)

    -- a reference on the way has its object's word
    refs_are : (j : ℕ) → j < depth → (m : ℕ) (a : MutRef) → leads j ≡ Some (at_slot tn m) → leads (suc j) ≡ Some (in_object a.object) → slice_get y1.slots m ≡ Some (value.Mut a) → a.word ≡ before.word a.object
    refs_are j lt m a located next stood =
        let was : slice_get y.slots m ≡ Some (value.Mut a) = sym (cl.slots m (on_way m j (omega (arith, lt)) located)) ∙ stood in
        fresh_word k before (at_slot tn m) (value.Mut a) (record { word = a.word; object = a.object })
        (ap (λ o. slot_of o m) (stands_there k (paths k n t s y i z) (standing k n t s y i z) (goes k n t s y i z)) ∙ was) refl ((written j lt (at_slot tn m) a.object located next).fresh)

    abbrev Led_all : Prepared → Type 0
    Led_all = AllLed k coherent s here_it t y at c0 is_coloured r1 y1 Cells leads depth way written words_are refs_are kept

    walked_led : Led_all (write_stars depth 0 h1 (in_slot r.holder.slot))
    walked_led =
        all_led k coherent s here_it t y at c0 is_coloured r1 y1 Cells leads depth way written words_are refs_are kept depth 0 (omega arith) h1 (in_slot r.holder.slot) (at_slot tn r.holder.slot) refl (a_slot r.holder.slot) (begins r1 y1 Cells leads h1 cl.rest cl.thread)
        (record { state = cl.state; later = cl.later; through = tt }) (record { words = g.words; given = g.given; word = tt })

    fine : (p : Prepared) → Led_all p → Fine p
    fine _ (ready_led l final spot w walk led) = record { words = led.words; given = led.given; tops = λ v f. g.tops v (sym (ap (λ (x : ThreadState). last_of x.temps) w.thread) ∙ f) }
    fine _ (asks_led w) = tt
    fine _ no_led = tt

    -- it is followed, where a word is put back
    follows : Fine (follow_ended (value_at h1 sp) h1)
    follows = subst (λ o. Fine (follow_ended o h1)) (sym cl.there) (go (cl.reference.word == cl.reference.first))
      where
        go : (b : Bool) → Fine (follow_holder cl.reference (if b then None else Some cl.reference.word) h1)
        go true = g
        go false = subst (λ (w : Lval). Fine (write_stars w.depth 0 h1 (in_slot w.slot))) (sym cl.holder) (fine (write_stars depth 0 h1 (in_slot r.holder.slot)) walked_led)

  -- ALL OF IT

  then_follows : (p : Prepared) → CleanFine k coherent few s here_it t y at on i code r sp other e p → CleanGiven k coherent few s here_it t y at on c0 is_coloured i code r sp other e p → Fine (and_then (λ h2 s2. follow_ended (value_at h2 s2) h2) p)
  then_follows (ready h1 b) f g = subst (λ d. Fine (follow_ended (value_at h1 d) h1)) (sym f.0) (follows h1 f.1 g)
  then_follows (requested h) f g = tt
  then_follows nothing f g = tt

  pub prepared_given : Fine (and_then (λ h2 s2. follow_ended (value_at h2 s2) h2) (clean_value sp (value_at start sp) start))
  prepared_given = then_follows (clean_value sp (value_at start sp) start) (cleans k coherent few s here_it t y at on i code r sp other e) (cleans_given k coherent few s here_it t y at on c0 is_coloured i code r sp other e)
