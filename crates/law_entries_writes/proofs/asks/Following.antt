-- A reference that ends is cleaned, and its holder's place followed where that gets a word: where something is asked for, its entry leads on.
use Rattle.std.proofs.Common.{◌≡◌, ℕ, suc, ◌<◌, ◌==◌, Bool, true, false, if◌then◌else◌, Option, Some, None, refl, sym, subst, arith}
use Rattle.std.specs.Prelude.{⊤, slice_get}
use Rattle.law_copies_writes.specs.Below.fr_base.declared.name.ObjNo.{ObjNo}
use Rattle.law_copies_writes.specs.Below.fr_base.declared.place.Lval.{Lval}
use Rattle.law_copies_writes.specs.Below.fr_base.declared.instruction.Instr.{Instr}
use Rattle.law_copies_writes.specs.Below.mut_borrow.declared.mutable.MutRef.{MutRef}
use Rattle.law_copies_writes.specs.Below.thread_state.View.{ThreadState}
use Rattle.law_copies_writes.specs.Below.server_model.declared.event.What.TheVariants.{Step}
use Rattle.law_copies_writes.specs.Below.server_model.Servers.{Server, Cluster, server_at}
use Rattle.law_copies_writes.specs.Below.server_model.Work.{Hand, thread_in}
use Rattle.law_copies_writes.specs.Below.server_model.Places.{Spot, in_slot, value_at}
use Rattle.law_copies_writes.specs.Below.server_model.Prepare.{Prepared, ready, requested, nothing, and_then, clean_value, follow_holder, follow_ended, write_stars}
use Rattle.law_copies_writes.specs.Below.server_model.Events.{enabled, begin_work}
use Rattle.law_entries_writes.specs.Below.law_entries_variables.Below.coloured_heap.Heap.{Coloured}
use Rattle.law_copies_writes.specs.Below.coherent_memory.Names.{tot}
use Rattle.law_copies_writes.specs.Below.coherent_memory.Things.{Location, at_slot, in_cell, things_of}
use Rattle.law_copies_writes.specs.Below.coherent_memory.Colours.{StandsColoured}
use Rattle.law_copies_writes.specs.Below.coherent_types.ClusterTypes.{IsCoherent}
use Rattle.law_copies_writes.specs.Below.law_counts_sums.Laws.{FewEvents}
use Rattle.law_copies_writes.proofs.Below.law_results_events.writes.Route.{a_slot, begins}
use Rattle.law_copies_writes.proofs.Below.law_words_ends.stars.Cleaned.{End, Cleaned, CleanFine, cleans}
use Rattle.law_copies_writes.proofs.ends.Following.{leads, Cells, r1, y1, way, written, words_are, refs_are}
use Rattle.law_entries_writes.proofs.Below.law_entries_variables.deliveries.Shown.{dropped_by}
use Rattle.law_entries_writes.proofs.Below.law_entries_reads.asks.Recoloured.{NewWords}
use Rattle.law_entries_writes.proofs.Below.law_entries_reads.asks.Frames.{SameFrames}
use Rattle.law_entries_writes.proofs.walks.Given.{Given}
use Rattle.law_entries_writes.proofs.walks.Hops.{Wishes}
use Rattle.law_entries_writes.proofs.walks.Walks.{AllLed, ready_led, asks_led, no_led, all_led}
use Rattle.law_entries_writes.proofs.walks.Ways.{kept_there}
use Rattle.law_entries_writes.proofs.asks.Cleaning.{CleanLed, cleans_led}

module _ (k : Cluster) (coherent : IsCoherent k) (few : FewEvents k) (s : Server) (here_it : server_at k.servers s.rest.number ≡ Some s) (t : ℕ) (y : ThreadState) (at : thread_in s.threads t ≡ Some y) (on : enabled k.options s (Step t) ≡ true) (i : Instr) (code : slice_get k.code y.pc ≡ Some i)
    (r : MutRef) (sp : Spot) (other : MutRef → ThreadState) (e : End k coherent few s here_it t y at on i code r sp other) (alike : (q : MutRef) → q.object ≡ r.object → q.holder ≡ r.holder → SameFrames (other q).slots y.slots) (c0 : Coloured) (is_coloured : StandsColoured k c0) where
  abbrev start : Hand
  start = record { work = begin_work s.rest; thread = y }

  abbrev depth : ℕ
  depth = r.holder.depth

  abbrev place : ℕ → Option Location
  place = leads k coherent few s here_it t y at on i code r sp other e

  -- what is asked for on the way to a holder
  abbrev pub EndAsks : Prepared → Type 0
  EndAsks (ready h b) = ⊤
  EndAsks (requested h) = Wishes k coherent s here_it t y at c0 is_coloured h
  EndAsks nothing = ⊤

  module _ (h1 : Hand) (cl : Cleaned k coherent few s here_it t y at on i code r sp other e h1) (ws : NewWords) (g : Given k coherent s here_it t y at c0 is_coloured h1 ws) where
    pub kept : (j : ℕ) → j < depth → (o : ObjNo) → place (suc j) ≡ Some (in_cell o) → tot (dropped_by o) (things_of k) ≡ 0
    kept j lt o next =
        let l = (way k coherent few s here_it t y at on i code r sp other e h1 cl).leads_there j (omega (arith, lt)) in
        kept_there k coherent y.number r.holder.slot j l.0 o l.1 next

    abbrev All : Prepared → Type 0
    All =
        AllLed k coherent s here_it t y at c0 is_coloured (r1 k coherent few s here_it t y at on i code r sp other e h1 cl) (y1 k coherent few s here_it t y at on i code r sp other e h1 cl) (Cells k coherent few s here_it t y at on i code r sp other e) place depth
        (way k coherent few s here_it t y at on i code r sp other e h1 cl) (written k coherent few s here_it t y at on i code r sp other e) (words_are k coherent few s here_it t y at on i code r sp other e h1 cl) (refs_are k coherent few s here_it t y at on i code r sp other e h1 cl) kept

    pub followed : All (write_stars depth 0 h1 (in_slot r.holder.slot))
    followed =
        all_led k coherent s here_it t y at c0 is_coloured (r1 k coherent few s here_it t y at on i code r sp other e h1 cl) (y1 k coherent few s here_it t y at on i code r sp other e h1 cl) (Cells k coherent few s here_it t y at on i code r sp other e) place depth
        (way k coherent few s here_it t y at on i code r sp other e h1 cl) (written k coherent few s here_it t y at on i code r sp other e) (words_are k coherent few s here_it t y at on i code r sp other e h1 cl) (refs_are k coherent few s here_it t y at on i code r sp other e h1 cl) kept depth 0 (omega arith)
        h1 (in_slot r.holder.slot) (at_slot y.number r.holder.slot) refl (a_slot r.holder.slot)
        (begins (r1 k coherent few s here_it t y at on i code r sp other e h1 cl) (y1 k coherent few s here_it t y at on i code r sp other e h1 cl) (Cells k coherent few s here_it t y at on i code r sp other e) place h1 cl.rest cl.thread)
        (record { state = cl.state; later = cl.later; through = tt }) (record { words = ws; given = g; word = tt })

    asks : (p : Prepared) → All p → EndAsks p
    asks _ (ready_led l located spot on_way walk led) = tt
    asks _ (asks_led q) = q
    asks _ no_led = tt

    follows : EndAsks (follow_ended (value_at h1 sp) h1)
    follows = subst (λ o. EndAsks (follow_ended o h1)) (sym cl.there) (go (cl.reference.word == cl.reference.first))
      where
        go : (b : Bool) → EndAsks (follow_holder cl.reference (if b then None else Some cl.reference.word) h1)
        go true = tt
        go false = subst (λ (w : Lval). EndAsks (write_stars w.depth 0 h1 (in_slot w.slot))) (sym cl.holder) (asks (write_stars depth 0 h1 (in_slot r.holder.slot)) followed)

  then_follows : (p : Prepared) → CleanFine k coherent few s here_it t y at on i code r sp other e p → CleanLed k coherent few s here_it t y at on i code r sp other e alike c0 is_coloured p → EndAsks (and_then (λ h2 s2. follow_ended (value_at h2 s2) h2) p)
  then_follows (ready h1 b) f g = subst (λ d. EndAsks (follow_ended (value_at h1 d) h1)) (sym f.0) (follows h1 f.1 g.0 g.1)
  then_follows (requested h) f g = g
  then_follows nothing f g = tt

  pub end_asks : EndAsks (and_then (λ h2 s2. follow_ended (value_at h2 s2) h2) (clean_value sp (value_at start sp) start))
  end_asks = then_follows (clean_value sp (value_at start sp) start) (cleans k coherent few s here_it t y at on i code r sp other e) (cleans_led k coherent few s here_it t y at on i code r sp other e alike c0 is_coloured)
