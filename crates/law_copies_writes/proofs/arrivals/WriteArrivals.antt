-- Copies are right after an object comes to an assignment or a move through stars.
use Rattle.std.proofs.Common.{◌≡◌, ◌≤◌, ◌<◌, ℕ, suc, ◌-◌, true, false, Some, refl, ap, subst, ◌∙◌, sym, arith}
use Rattle.std.specs.Prelude.{slice_get}
use Rattle.law_words_ends.specs.Below.fr_base.declared.name.ObjNo.{ObjNo}
use Rattle.law_words_ends.specs.Below.fr_base.declared.instruction.Instr.{Instr}
use Rattle.law_words_ends.specs.Below.fr_base.declared.place.Lval.{Lval}
use Rattle.law_words_ends.specs.Below.fr_store.Keys.{slot_k}
use Rattle.law_words_ends.specs.Below.heap_partition.declared.value.Cell.{Cell}
use Rattle.law_words_ends.specs.Below.owner_box.Partition.{new_word}
use Rattle.law_words_ends.specs.Below.thread_state.View.{ThreadState}
use Rattle.law_words_ends.specs.Below.thread_state.declared.phase.Phase.TheVariants as phase
use Rattle.law_words_ends.specs.Below.server_msgs.declared.message.Message.TheVariants.{Moved}
use Rattle.law_words_ends.specs.Below.server_model.Servers.{Server, Cluster, server_at}
use Rattle.law_words_ends.specs.Below.server_model.Work.{thread_in}
use Rattle.law_words_ends.specs.Below.server_model.NewWords.{can_grow}
use Rattle.law_words_ends.specs.Below.server_model.Prepare.{WriteTo, access_of, assigned, read_or_taken}
use Rattle.law_words_ends.specs.Below.server_model.Objects.{arrived, instr_access}
use Rattle.law_words_ends.specs.Below.coherent_memory.Things.{Location, in_cell}
use Rattle.law_words_ends.specs.Below.coherent_memory.Follow.{Standing, value_in, value_behind, leads, locate}
use Rattle.law_words_ends.specs.Below.coherent_memory.Paths.{Path, writes, path_of, assigning, taking, written_place, Awaited}
use Rattle.law_words_ends.specs.Below.coherent_memory.Sight.{sight}
use Rattle.law_words_ends.specs.Below.coherent_memory.Turn.{InTurn, by_write, NextHop}
use Rattle.law_words_ends.specs.Below.coherent_memory.Walking.{path}
use Rattle.law_words_ends.specs.Below.coherent_memory.Words.{IsStale}
use Rattle.law_words_ends.specs.Below.coherent_types.ClusterTypes.{IsCoherent}
use Rattle.law_words_ends.specs.Below.law_counts_sums.Laws.{Gives, FewEvents}
use Rattle.law_words_ends.specs.Below.law_words_paths.paths.HeapStore.{GoesOn, HasPaths}
use Rattle.law_words_ends.specs.Below.law_words_paths.paths.Pointing.{MayWrite}
use Rattle.law_words_ends.proofs.Below.law_words_paths.paths.Circles.{shorter}
use Rattle.law_words_ends.proofs.Below.law_words_paths.paths.MayWrites.{may_write_there}
use Rattle.law_words_ends.specs.Below.law_words_paths.words.Soles.{IsSole}
use Rattle.law_words_ends.proofs.Below.law_words_paths.words.Alone.{written_are_sole}
use Rattle.law_words_ends.specs.Below.law_words_asked.writes.Writing.{WritesThrough, assigns, moves}
use Rattle.law_words_ends.proofs.Below.law_words_asked.writes.Ways.{writes_to}
use Rattle.law_words_ends.specs.Below.law_words_asked.arrivals.Awaited.{Awaits}
use Rattle.law_words_ends.proofs.Below.law_words_asked.awaited.Landing.{before, landed, paths, on, awaits}
use Rattle.law_copies_writes.specs.arrivals.Landed.{WriteArrivalsKeepCopies}
use Rattle.law_copies_writes.proofs.arrivals.Delivery.{Kept, delivered}
use Rattle.law_copies_writes.proofs.arrivals.Behind.{write_arrives}

same_place : {v w : Lval} → writes v ≡ writes w → v ≡ w
same_place e = cc

-- a write waits for its next hop
next_of : (k : Cluster) (x : Standing) (old : ℕ) (a : Awaited) (w : Lval) (p : Path) → p ≡ writes w → InTurn (sight k) x old a p → NextHop (sight k) x w a
next_of k x old a w _ e (by_write v next) = subst (λ q. NextHop (sight k) x q a) (same_place e) next
next_of k x old a w _ e _ = absurd (cc e)

module _ (k : Cluster) (coherent : IsCoherent k) (few : FewEvents k) (s : Server) (here : server_at k.servers s.rest.number ≡ Some s) (t : ℕ) (y : ThreadState) (at : thread_in s.threads t ≡ Some y) (i old : ℕ) (c : Cell) (message_there : slice_get s.rest.inbox i ≡ Some (Moved old c t))
    (j : Instr) (code : slice_get k.code y.pc ≡ Some j) (w : Lval) (d : ℕ) (through : WritesThrough j w d) (waiting : y.phase ≡ phase.WaitCell old) (grows : can_grow s.rest.partition ≡ true) where
  abbrev me : Standing
  me = record { server = s.rest.number; packed = false; thread = y }

  abbrev cp : HasPaths k
  cp = paths k coherent few s here t y at i old c message_there waiting grows

  abbrev goes : GoesOn k me
  goes = on k coherent few s here t y at i old c message_there waiting grows

  its_path : path (sight k) me ≡ writes w
  its_path = ap (λ b. path_of b y) code ∙ by j through
    where
      by : (q : Instr) → WritesThrough q w d → path_of (Some q) y ≡ writes w
      by _ (assigns o e) = ap (λ m. assigning y.slots w m) e
      by _ (moves e) = ap (λ m. taking w m) e

  aw : Awaits k me old c
  aw = awaits k coherent few s here t y at i old c message_there waiting grows

  may : MayWrite k cp.types me w
  may = may_write_there k cp me goes j w code (writes_to j w d through)

  -- the place with fewer stars
  may_so : (e : ℕ) → e ≤ w.depth → MayWrite k cp.types me (record { slot = w.slot; depth = e })
  may_so e le =
      let q = shorter cp.types.typing.exact true (slot_k y.number w.slot) (w.depth - e) w.depth e may.base may.boxes may.type (omega (arith, le)) may.resolves in
      record { free = may.free; base = q.base; boxes = q.boxes; type = q.type; resolves = q.res; unmarked = may.unmarked }

  sole_at : (e : ℕ) (l : Location) (o : ObjNo) → e < w.depth → locate (sight k).ground y.number w.slot e ≡ Some l → leads y.number (value_in (sight k).ground l) ≡ Some (in_cell o) → (IsStale (sight k) (Some l) → ⊥) → IsSole k l o
  sole_at e l o lt located leads_there fresh =
      written_are_sole k cp me (record { slot = w.slot; depth = suc e }) l o goes (may_so (suc e) (omega (arith, lt))) (record { stars = e; last = refl; pointer = located; leads = ap (λ p. leads y.number (value_behind (sight k).ground p)) located ∙ leads_there }) fresh

  access_is : (q : Instr) → WritesThrough q w d → access_of q y ≡ Some (WriteTo w)
  access_is _ (assigns o e) = ap (λ m. assigned w m y) e
  access_is _ (moves e) = ap (λ m. Some (read_or_taken w m true)) e

  arrives : Gives (Kept k coherent few s here t y at i old c message_there)
      (arrived (instr_access (before k coherent few s here t y at i old c message_there) (slice_get k.code y.pc)) old (new_word s.rest.partition) (landed k coherent few s here t y at i old c message_there))
  arrives =
      let K = Kept k coherent few s here t y at i old c message_there in
      let h = landed k coherent few s here t y at i old c message_there in
      let b = before k coherent few s here t y at i old c message_there in
      subst (λ o. Gives K (arrived (instr_access b o) old (new_word s.rest.partition) h)) (sym code)
      (subst (λ o. Gives K (arrived o old (new_word s.rest.partition) h)) (sym (access_is j through))
      (write_arrives k coherent few s here t y at i old c message_there waiting grows w (ap written_place its_path) aw.awaited (next_of k me old aw.awaited w (path (sight k) me) its_path aw.turn) aw.object sole_at))

pub writes_keep : WriteArrivalsKeepCopies
writes_keep k number i old t s c y j w d through coherent few here message_there at code =
    delivered k number i old t s c y coherent few here message_there at (λ h waiting grows. arrives k coherent few s h t y at i old c message_there j code w d through waiting grows)
