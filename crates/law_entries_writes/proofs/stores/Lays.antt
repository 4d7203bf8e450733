-- A place that is followed for writing, hop by hop: where it is ready, each object that it passes lies at the event's server when the event begins.
use Rattle.std.proofs.Common.{◌≡◌, ⊎_elim, inl, inr, ◌⊎◌, ℕ, zero, suc, ◌+◌, ◌<◌, ◌≤◌, Option, Some, refl, sym, ap, subst, ◌∙◌, arith}
use Rattle.std.specs.Prelude.{⊤}
use Rattle.law_heap_writes.specs.Below.fr_base.declared.name.ObjNo.{ObjNo}
use Rattle.law_heap_writes.specs.Below.heap_partition.declared.value.Cell.{Cell}
use Rattle.law_heap_writes.specs.Below.thread_state.View.{ThreadState}
use Rattle.law_heap_writes.specs.Below.server_model.Servers.{Rest}
use Rattle.law_heap_writes.specs.Below.server_model.Work.{Hand}
use Rattle.law_heap_writes.specs.Below.server_model.Places.{Spot}
use Rattle.law_heap_writes.specs.Below.server_model.Prepare.{Prepared, ready, requested, nothing, and_then, write_star, write_stars}
use Rattle.law_heap_writes.specs.Below.coherent_memory.Things.{Location, at_slot, at_temp, in_cell}
use Rattle.law_heap_writes.specs.Below.coherent_memory.Follow.{Ground, cell_of, locate}
use Rattle.law_heap_writes.proofs.Below.law_results_events.writes.Memory.{Leads}
use Rattle.law_heap_writes.proofs.Below.law_results_events.writes.Route.{Route, Writing, At, Fine, hop_star}
use Rattle.law_heap_writes.proofs.writes.Following.{Lay, Came, all_came}

-- the same route, with fewer hops
shorter : (r : Rest) (y : ThreadState) (C : ObjNo → Option Cell) (place : ℕ → Option Location) (d e : ℕ) → e ≤ d → Route r y C place d → Route r y C place e
shorter r y C place d e le w = record {
  leads_there = λ i l. w.leads_there i (omega (arith, le, l));
  hop = λ i l. w.hop i (omega (arith, le, l));
  apart = λ i f l m. w.apart i f l (omega (arith, le, m));
  sane = λ l. w.sane (omega (arith, le, l));
  room = (let x = w.room in omega (arith, le, x));
}

module _ (g : Ground) (r : Rest) (y : ThreadState) (slot d : ℕ) (route : Route r y (cell_of g.cells) (locate g y.number slot) d) where
  abbrev C : ObjNo → Option Cell
  C = cell_of g.cells

  abbrev place : ℕ → Option Location
  place = locate g y.number slot

  -- an object of a cell lies here
  abbrev pub LaysAt : Location → Type 0
  LaysAt (in_cell o) = (u : ℕ) × (c : Cell) × (C o ≡ Some c) × Leads r.partition u c
  LaysAt l = ⊤

  -- so many stars lead to such locations alone
  abbrev pub LaysTo : ℕ → Type 0
  LaysTo j = (i : ℕ) → i ≤ j → (l : Location) → place i ≡ Some l → LaysAt l

  -- and the labels are the loads on the way
  abbrev pub AllLay : ℕ → Prepared → Type 0
  AllLay j (ready h sp) = LaysTo j × Came g r y slot d route j (ready h sp)
  AllLay j (requested h) = ⊤
  AllLay j nothing = ⊤

  at_most : (i j : ℕ) → i ≤ suc j → (i ≤ j) ⊎ (i ≡ suc j)
  at_most i j le = by i j le
    where
      by : (i j : ℕ) → i ≤ suc j → (i ≤ j) ⊎ (i ≡ suc j)
      by zero j le = inl (omega arith)
      by (suc zero) zero le = inr refl
      by (suc (suc i)) zero le = absurd (omega (arith, le))
      by (suc i) (suc j) le = ⊎_elim (λ (l : i ≤ j). inl (omega (arith, l))) (λ (e : i ≡ suc j). inr (ap suc e)) (by i j (omega (arith, le)))

  of_lay : (e : ℕ) (w : Route r y C place e) (l : Location) → Lay g r y slot e w l → LaysAt l
  of_lay e w (in_cell o) q = q
  of_lay e w (at_slot u i) q = tt
  of_lay e w (at_temp u i) q = tt

  pub to_lay : (e : ℕ) (w : Route r y C place e) (l : Location) → LaysAt l → Lay g r y slot e w l
  to_lay e w (in_cell o) q = q
  to_lay e w (at_slot u i) q = tt
  to_lay e w (at_temp u i) q = tt

  one_more : (j : ℕ) → LaysTo j → ((l : Location) → place (suc j) ≡ Some l → LaysAt l) → LaysTo (suc j)
  one_more j a b i le l at = ⊎_elim (λ (m : i ≤ j). a i m l at) (λ (e : i ≡ suc j). b l (ap place (sym e) ∙ at)) (at_most i j le)

  -- one star
  star_lays : (j : ℕ) → j < d → (h : Hand) (sp : Spot) (l : Location) → place j ≡ Some l → At r y C place h.work.rest.partition j sp l → Writing r y C place j h → AllLay j (ready h sp) → AllLay (suc j) (write_star j h sp)
  star_lays j lt h sp l located spot way a =
      by (write_star j h sp)
      (all_came g r y slot (suc j) w 1 j (omega arith) h sp l located spot way (a.1.0, λ m e. to_lay (suc j) w m (a.0 j (omega arith) m e)))
    where
      w : Route r y C place (suc j)
      w = shorter r y C place d (suc j) (omega (arith, lt)) route

      by : (p : Prepared) → Came g r y slot (suc j) w (suc j) (and_then (write_stars 0 (j + 1)) p) → AllLay (suc j) p
      by (ready h2 sp2) q =
          let more : (m : Location) → place (suc j) ≡ Some m → LaysAt m = λ m e. of_lay (suc j) w m (q.1 m e) in
          (one_more j a.0 more, (q.0, λ m e. to_lay d route m (more m e)))
      by (requested h2) q = tt
      by nothing q = tt

  then_lays : (j : ℕ) (go : Hand → Spot → Prepared) (p : Prepared) → Fine r y C place ⊤ j p → AllLay j p
      → ((h : Hand) (sp : Spot) (l : Location) → place j ≡ Some l → At r y C place h.work.rest.partition j sp l → Writing r y C place j h → AllLay j (ready h sp) → AllLay d (go h sp)) → AllLay d (and_then go p)
  then_lays j go (ready h sp) f a on = on h sp f.0 f.1 f.2 f.3 a
  then_lays j go (requested h) f a on = tt
  then_lays j go nothing f a on = tt

  -- all stars
  pub all_lay : (more j : ℕ) → j + more ≡ d → (h : Hand) (sp : Spot) (l : Location) → place j ≡ Some l → At r y C place h.work.rest.partition j sp l → Writing r y C place j h → AllLay j (ready h sp) → AllLay d (write_stars more j h sp)
  all_lay zero j e h sp l located spot way a = let same : j ≡ d = omega (arith, e) in subst (λ n. AllLay n (ready h sp)) same a
  all_lay (suc more) j e h sp l located spot way a =
      let lt : j < d = omega (arith, e) in
      let m = route.leads_there (suc j) (omega (arith, lt)) in
      let one : suc j ≡ j + 1 = omega arith in
      then_lays (suc j) (write_stars more (j + 1)) (write_star j h sp) (hop_star r y C place ⊤ d route (λ i less le. tt) j lt l m.0 located m.1 h way sp spot) (star_lays j lt h sp l located spot way a)
      (λ h2 sp2 l2 located2 spot2 way2 a2. subst (λ n. AllLay d (write_stars more n h2 sp2)) one (all_lay more (suc j) (omega (arith, e)) h2 sp2 l2 located2 spot2 way2 a2))
