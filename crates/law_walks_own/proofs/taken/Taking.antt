-- A thread that has just taken an object has taken the one to which the place of its mutable borrow leads.
use Rattle.std.proofs.Common.{◌≡◌, ℕ, zero, suc, ◌-◌, ◌<◌, true, false, Some, refl, sym, ap, subst, ◌∙◌, arith}
use Rattle.std.specs.Prelude.{slice_get}
use Rattle.std.proofs.lemmas.Bool.{eq-eqb}
use Rattle.law_words_ends.specs.Below.fr_base.declared.place.Lval.{Lval}
use Rattle.law_words_ends.specs.Below.fr_base.declared.instruction.Instr.TheVariants as instr
use Rattle.law_words_ends.specs.Below.heap_partition.declared.value.Cell.{Cell}
use Rattle.law_words_ends.specs.Below.thread_state.View.{ThreadState}
use Rattle.law_words_ends.specs.Below.thread_state.declared.phase.Phase.TheVariants as phase
use Rattle.law_words_ends.specs.Below.thread_state.declared.value.Value.TheVariants as value
use Rattle.law_words_ends.specs.Below.server_msgs.declared.message.Message.TheVariants.{Moved}
use Rattle.law_words_ends.specs.Below.server_model.Servers.{Server, Cluster, server_at}
use Rattle.law_words_ends.specs.Below.server_model.Work.{thread_in}
use Rattle.law_words_ends.specs.Below.server_model.NewWords.{can_grow}
use Rattle.law_words_ends.specs.Below.server_model.Objects.{chased, waits_under}
use Rattle.law_words_ends.specs.Below.coherent_memory.Things.{in_cell}
use Rattle.law_words_ends.specs.Below.coherent_memory.Follow.{Standing, Ground, place_at, value_behind, leads, locate}
use Rattle.law_words_ends.specs.Below.coherent_memory.Paths.{Path, lends, path_of, Awaited, to_write}
use Rattle.law_words_ends.specs.Below.coherent_memory.Sight.{sight}
use Rattle.law_words_ends.specs.Below.coherent_memory.Turn.{InTurn, by_lend, AwaitsAt, before_lend, at_lend, IsAsked}
use Rattle.law_words_ends.specs.Below.coherent_memory.Walking.{path}
use Rattle.law_words_ends.proofs.Below.coherent_memory.Passing.{paths_law}
use Rattle.law_words_ends.specs.Below.coherent_types.ClusterTypes.{IsCoherent}
use Rattle.law_words_ends.specs.Below.law_counts_sums.Laws.{FewEvents}
use Rattle.law_words_ends.specs.Below.law_words_kept.reads.Reading.{Reads, lends as lends_from}
use Rattle.law_words_ends.specs.Below.law_words_asked.arrivals.Awaited.{Awaits}
use Rattle.law_words_ends.proofs.Below.law_words_asked.awaited.Behind.{IsPointer, pointed}
use Rattle.law_words_ends.proofs.Below.law_words_asked.awaited.ReadArrivals.{read_spent, SpentHop, aw, m as slot_number, there, found_at}

-- WHAT A MUTABLE BORROW WAITS FOR

-- the object of a dirty reference on the way, or that of its last pointer
data Which (k : Cluster) (x : Standing) (w : Lval) (a : Awaited) : Type 0 where
  on_the_way : (h : SpentHop k x w a) → suc h.stars < w.depth → Which k x w a
  at_last : (e : ℕ) → suc e ≡ w.depth → IsAsked (sight k) x w e to_write a → Which k x w a

same_lend : {v w : Lval} → lends v ≡ lends w → v ≡ w
same_lend e = cc

which_at : (k : Cluster) (x : Standing) (a : Awaited) → a.comes ≡ true → (p : Path) (w : Lval) (e : ℕ) → p ≡ lends w → AwaitsAt (sight k) x p e a → Which k x w a
which_at k x a comes _ w e is (before_lend v _ _ lt q) =
    subst (λ z. Which k x z a) (same_lend is)
    (on_the_way
    (record {
      stars = e;
      within = omega (arith, lt);
      location = q.location;
      located = paths_law.locates (sight k).ground x.thread.number v.slot e q.location q.hop.path;
      value = q.value;
      stands = q.hop.stands;
      spent = read_spent (sight k).options.colours q.value a q.asked comes;
    }) lt)
which_at k x a comes _ w e is (at_lend v _ _ last q) = subst (λ z. Which k x z a) (same_lend is) (at_last e last q)
which_at k x a comes _ w e is _ = absurd (cc is)

which : (k : Cluster) (x : Standing) (a : Awaited) → a.comes ≡ true → (old : ℕ) (w : Lval) (p : Path) → p ≡ lends w → InTurn (sight k) x old a p → Which k x w a
which k x a comes old w _ is (by_lend v f) = which_at k x a comes (lends v) w f.number is f.at
which k x a comes old w _ is _ = absurd (cc is)

module _ (k : Cluster) (coherent : IsCoherent k) (few : FewEvents k) (s : Server) (here : server_at k.servers s.rest.number ≡ Some s) (t : ℕ) (y : ThreadState) (at : thread_in s.threads t ≡ Some y) (i old : ℕ) (c : Cell) (message_there : slice_get s.rest.inbox i ≡ Some (Moved old c t))
    (waiting : y.phase ≡ phase.WaitCell old) (grows : can_grow s.rest.partition ≡ true) (w : Lval) (code : slice_get k.code y.pc ≡ Some (instr.BorrowMut w))
    (untold : (m : ℕ) → w.depth ≡ suc (suc m) → waits_under old (slice_get y.slots (chased m y.slots w.slot)) ≡ false) where
  abbrev me : Standing
  me = record { server = s.rest.number; packed = false; thread = y }

  abbrev g : Ground
  g = (sight k).ground

  abbrev waits : Awaits k me old c
  waits = aw k coherent few s here t y at i old c message_there waiting grows

  -- no reference on the way is waited for
  module _ (h : SpentHop k me w waits.awaited) (less : suc h.stars < w.depth) where
    reads_it : Reads (instr.BorrowMut w) w (w.depth - 1)
    reads_it = lends_from (omega (arith, less))

    abbrev j : ℕ
    j = slot_number k coherent few s here t y at i old c message_there waiting grows (instr.BorrowMut w) code w (w.depth - 1) reads_it h

    slot_is : slice_get y.slots j ≡ Some (value.Mut h.spent.reference)
    slot_is = there k coherent few s here t y at i old c message_there waiting grows (instr.BorrowMut w) code w (w.depth - 1) reads_it h

    told : (d : ℕ) → w.depth ≡ suc (suc d) → waits_under old (slice_get y.slots (chased d y.slots w.slot)) ≡ true
    told d f =
        let found : chased d y.slots w.slot ≡ j = found_at k coherent few s here t y at i old c message_there waiting grows (instr.BorrowMut w) code w (w.depth - 1) reads_it h d (omega (arith, less, f)) in
        ap (λ q. waits_under old (slice_get y.slots q)) found ∙ ap (waits_under old) slot_is ∙ eq-eqb h.spent.reference.word old (h.spent.word ∙ waits.word)

    none_behind : ⊥
    none_behind = by w.depth refl
      where
        by : (d : ℕ) → w.depth ≡ d → ⊥
        by zero f = absurd (omega (arith, less, f))
        by (suc zero) f = absurd (omega (arith, less, f))
        by (suc (suc d)) f = let no : false ≡ true = sym (untold d f) ∙ told d f in absurd (cc no)

  -- so its place leads to the object
  at_end : Which k me w waits.awaited → place_at g y.number w ≡ Some (in_cell c.object)
  at_end (on_the_way h less) = absurd (none_behind h less)
  at_end (at_last e last q) =
      let its : IsPointer q.value waits.awaited = pointed q.value waits.awaited q.asked in
      let located : locate g y.number w.slot e ≡ Some q.location = paths_law.locates g y.number w.slot e q.location q.hop.path in
      let leads_l : leads y.number (value_behind g (Some q.location)) ≡ Some (in_cell c.object) = ap (leads y.number) q.hop.stands ∙ its.leads_there y.number ∙ ap (λ o. Some (in_cell o)) waits.object in
      subst (λ m. locate g y.number w.slot m ≡ Some (in_cell c.object)) last (ap (λ o. leads y.number (value_behind g o)) located ∙ leads_l)

  pub taken_leads : place_at g y.number w ≡ Some (in_cell c.object)
  taken_leads = at_end (which k me waits.awaited waits.comes old w (path (sight k) me) (ap (λ b. path_of b y) code) waits.turn)
