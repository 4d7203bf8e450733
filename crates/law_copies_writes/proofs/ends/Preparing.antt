-- A reference that ends is cleaned, and its holder's place followed where that gets a word: each object is what it was, or covered, and nothing is asked for but an object.
use Rattle.std.proofs.Common.{◌≡◌, ℕ, ◌==◌, Bool, true, false, if◌then◌else◌, Option, Some, None, sym, subst, ◌∙◌, arith}
use Rattle.std.specs.Prelude.{⊤, slice_get}
use Rattle.law_copies_writes.specs.Below.fr_base.declared.place.Lval.{Lval}
use Rattle.law_copies_writes.specs.Below.fr_base.declared.instruction.Instr.{Instr}
use Rattle.law_copies_writes.specs.Below.heap_partition.declared.value.Cell.{Cell}
use Rattle.law_copies_writes.specs.Below.mut_borrow.declared.mutable.MutRef.{MutRef}
use Rattle.law_copies_writes.specs.Below.thread_state.View.{ThreadState}
use Rattle.law_copies_writes.specs.Below.server_model.declared.event.What.TheVariants.{Step}
use Rattle.law_copies_writes.specs.Below.server_model.Servers.{Rest, Server, Cluster, server_at}
use Rattle.law_copies_writes.specs.Below.server_model.Work.{Hand, thread_in}
use Rattle.law_copies_writes.specs.Below.server_model.Places.{Spot, in_slot, in_cell, nowhere, value_at, note_write}
use Rattle.law_copies_writes.specs.Below.server_model.Prepare.{Prepared, ready, requested, nothing, and_then, clean_value, follow_holder, follow_ended, write_stars}
use Rattle.law_copies_writes.specs.Below.server_model.Events.{enabled, begin_work}
use Rattle.law_copies_writes.specs.Below.coherent_memory.Things.{Location, in_cell as in_object}
use Rattle.law_copies_writes.specs.Below.coherent_types.ClusterTypes.{IsCoherent}
use Rattle.law_copies_writes.proofs.Below.law_words_paths.paths.Sole.{some_is}
use Rattle.law_copies_writes.specs.Below.law_counts_sums.Laws.{FewEvents}
use Rattle.law_copies_writes.proofs.Below.law_words_asked.writes.Hops.{Walk}
use Rattle.law_words_ends.proofs.stars.Cleaned.{End, Cleaned, CleanFine, cleans}
use Rattle.law_copies_writes.proofs.writes.Hops.{Now, SentBy, Fair}
use Rattle.law_copies_writes.proofs.writes.Walks.{ready_fair, asks_fair, no_fair}
use Rattle.law_copies_writes.proofs.writes.Marked.{CoveredNow, noted_covered}
use Rattle.law_copies_writes.proofs.ends.Cleaning.{NowFine, cleans_now}
use Rattle.law_copies_writes.proofs.ends.Following.{leads, had, AllOf, all_followed}

module _ (k : Cluster) (coherent : IsCoherent k) (few : FewEvents k) (s : Server) (here_it : server_at k.servers s.rest.number ≡ Some s) (t : ℕ) (y : ThreadState) (at : thread_in s.threads t ≡ Some y) (on : enabled k.options s (Step t) ≡ true) (i : Instr) (code : slice_get k.code y.pc ≡ Some i)
    (r : MutRef) (sp : Spot) (other : MutRef → ThreadState) (e : End k coherent few s here_it t y at on i code r sp other) where
  abbrev start : Hand
  start = record { work = begin_work s.rest; thread = y }

  abbrev N : Hand → Type 0
  N = Now k coherent s here_it t y at

  abbrev Mails : Rest → Type 0
  Mails = SentBy k coherent s here_it t y at

  abbrev place_of : ℕ → Option Location
  place_of = leads k coherent few s here_it t y at on i code r sp other e

  -- what is known where it is ready: with the mark of a write the object of a cell at the end is covered
  pub record ReadyNow (h : Hand) (end : Spot) : Type 0 where
    pub now : N h
    pub mails : Mails s.rest → Mails h.work.rest
    pub covers : (b : ℕ) (w : Option ℕ) (c : Cell) → end ≡ in_cell b w → place_of r.holder.depth ≡ Some (in_object c.object) → CoveredNow k coherent s here_it t y at (note_write w h) c.object

  abbrev pub EndNow : Prepared → Type 0
  EndNow (ready h end) = ReadyNow h end
  EndNow (requested h) = N h × (Mails s.rest → Mails h.work.rest)
  EndNow nothing = ⊤

  module _ (h1 : Hand) (cl : Cleaned k coherent few s here_it t y at on i code r sp other e h1) (now : N h1) where
    walked : (p : Prepared) → AllOf k coherent few s here_it t y at on i code r sp other e h1 cl p → EndNow p
    walked _ (ready_fair {h = h} {sp = end} l ends spot way walk fair) = record {
      now = fair.now;
      mails = λ m. subst Mails (sym way.rest) m;
      covers = λ b w c is final.
          (let same : l ≡ in_object c.object = some_is (sym ends ∙ final) in
          noted_covered k coherent s here_it t y at h b w l c.object same (subst (λ v. Walk k coherent s here_it t y at h v) is walk) (subst (λ v. Fair k coherent s here_it t y at h v l) is fair)
          (had k coherent few s here_it t y at on i code r sp other e r.holder.depth (omega arith) c.object final));
    }
    walked _ (asks_fair now2 sends) = (now2, λ m. sends m)
    walked _ no_fair = tt

    -- it is followed, where a word is put back
    follows : EndNow (follow_ended (value_at h1 sp) h1)
    follows = subst (λ o. EndNow (follow_ended o h1)) (sym cl.there) (go (cl.reference.word == cl.reference.first))
      where
        go : (b : Bool) → EndNow (follow_holder cl.reference (if b then None else Some cl.reference.word) h1)
        go true = record { now = now; mails = λ m. subst Mails (sym cl.rest) m; covers = λ b w c is final. absurd (no_cell is) }
          where
            no_cell : {b : ℕ} {w : Option ℕ} → nowhere ≡ in_cell b w → ⊥
            no_cell is = cc is
        go false =
            subst (λ (w : Lval). EndNow (write_stars w.depth 0 h1 (in_slot w.slot))) (sym cl.holder)
            (walked (write_stars r.holder.depth 0 h1 (in_slot r.holder.slot)) (all_followed k coherent few s here_it t y at on i code r sp other e h1 cl now))

  then_follows : (p : Prepared) → CleanFine k coherent few s here_it t y at on i code r sp other e p → NowFine k coherent few s here_it t y at on i code r sp other e p → EndNow (and_then (λ h2 s2. follow_ended (value_at h2 s2) h2) p)
  then_follows (ready h1 b) f g = subst (λ d. EndNow (follow_ended (value_at h1 d) h1)) (sym f.0) (follows h1 f.1 g)
  then_follows (requested h) f g = g
  then_follows nothing f g = tt

  pub prepared_now : EndNow (and_then (λ h2 s2. follow_ended (value_at h2 s2) h2) (clean_value sp (value_at start sp) start))
  prepared_now = then_follows (clean_value sp (value_at start sp) start) (cleans k coherent few s here_it t y at on i code r sp other e) (cleans_now k coherent few s here_it t y at on i code r sp other e)
