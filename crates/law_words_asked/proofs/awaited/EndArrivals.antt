-- An object that comes to the end of its own reference in a slot, which is the pointer through which it is written.
use Rattle.std.proofs.Common.{◌≡◌, ◌⊎◌, inl, inr, ⊎_elim, ℕ, suc, ◌-◌, ◌==◌, true, false, if◌then◌else◌, length, Option, Some, None, option_map, refl, sym, ap, subst, ◌∙◌, arith}
use Rattle.std.specs.Prelude.{slice_get}
use Rattle.std.proofs.lemmas.Bool.{eq-eqb}
use Rattle.law_words_asked.specs.Below.fr_base.Lists.{last_of}
use Rattle.law_words_asked.specs.Below.fr_base.declared.instruction.Instr.{Instr}
use Rattle.law_words_asked.specs.Below.fr_base.declared.instruction.Instr.TheVariants as instr
use Rattle.law_words_asked.specs.Below.fr_base.declared.place.Lval.{Lval}
use Rattle.law_words_asked.specs.Below.fr_store.Keys.{slot_k}
use Rattle.law_words_asked.proofs.Below.fr_store.Chains.{unique}
use Rattle.law_words_asked.specs.Below.heap_partition.declared.value.BoxPtr.{BoxPtr}
use Rattle.law_words_asked.specs.Below.heap_partition.declared.value.Cell.{Cell}
use Rattle.law_words_asked.specs.Below.mut_borrow.declared.mutable.MutRef.{MutRef}
use Rattle.law_words_asked.specs.Below.owner_box.Partition.{new_word}
use Rattle.law_words_asked.specs.Below.thread_state.View.{ThreadState}
use Rattle.law_words_asked.specs.Below.thread_state.declared.phase.Phase.TheVariants as phase
use Rattle.law_words_asked.specs.Below.thread_state.declared.value.Value.TheVariants as value
use Rattle.law_words_asked.specs.Below.server_msgs.declared.message.Message.TheVariants.{Moved}
use Rattle.law_words_asked.specs.Below.server_model.Servers.{Server, Cluster, server_at}
use Rattle.law_words_asked.specs.Below.server_model.Work.{Hand, thread_in, with_phase}
use Rattle.law_words_asked.specs.Below.server_model.NewWords.{can_grow}
use Rattle.law_words_asked.specs.Below.server_model.Places.{in_slot, set_pointer}
use Rattle.law_words_asked.specs.Below.server_model.Prepare.{EndRef, access_of, assigned as access_assigned, ending as access_ending}
use Rattle.law_words_asked.specs.Below.server_model.Objects.{arrived_at, arrived_write, arrived_end, arrived, instr_access}
use Rattle.law_words_asked.specs.Below.coherent_memory.Names.{Among}
use Rattle.law_words_asked.specs.Below.coherent_memory.Things.{Location, at_slot, in_cell}
use Rattle.law_words_asked.specs.Below.coherent_memory.Follow.{Standing, Ground, value_in, leads}
use Rattle.law_words_asked.specs.Below.coherent_memory.Paths.{Path, ends, ending, assigning, path_of, Awaited, to_write}
use Rattle.law_words_asked.specs.Below.coherent_memory.Sight.{sight}
use Rattle.law_words_asked.specs.Below.coherent_memory.Stale.{changed_above, stale_above, taken_above}
use Rattle.law_words_asked.specs.Below.coherent_memory.Turn.{InTurn, by_end, by_holder}
use Rattle.law_words_asked.specs.Below.coherent_memory.Walking.{path}
use Rattle.law_words_asked.specs.Below.coherent_memory.Words.{IsStale}
use Rattle.law_words_asked.specs.Below.coherent_types.ClusterTypes.{IsCoherent}
use Rattle.law_words_asked.specs.Below.law_counts_sums.Laws.{Gives, FewEvents}
use Rattle.law_words_asked.specs.Below.law_words_paths.paths.HeapStore.{in_store, heap_store, GoesOn, HasPaths}
use Rattle.law_words_asked.specs.Below.law_words_paths.paths.Pointing.{MayWrite, EndsSlot, assigned, dropped}
use Rattle.law_words_asked.proofs.Below.law_words_paths.paths.Ended.{ended_may_write}
use Rattle.law_words_asked.proofs.Below.law_words_paths.paths.Sole.{some_is}
use Rattle.law_words_asked.proofs.Below.law_words_paths.paths.FreshPaths.{Followed, OwnChain, chain_of, none_made, threads_same}
use Rattle.law_words_asked.proofs.Below.law_words_kept.ends.Alone.{not_taken}
use Rattle.law_words_asked.specs.Below.law_words_paths.words.Soles.{IsSole}
use Rattle.law_words_asked.proofs.Below.law_words_paths.words.Alone.{written_are_sole}
use Rattle.law_words_asked.proofs.Below.law_words_paths.words.Only.{are_only}
use Rattle.law_words_asked.proofs.Below.law_words_paths.words.Tints.{SlotPut, word_put}
use Rattle.law_words_asked.proofs.Below.law_words_kept.stays.Steps.{TakesNoneHere}
use Rattle.law_words_asked.specs.arrivals.Awaited.{Awaits}
use Rattle.law_words_asked.specs.awaited.EndArrivals.{EndArrivalsKeep}
use Rattle.law_words_asked.proofs.awaited.Landing.{before, landed, Kept, paths, on, awaits, slot_stands, untaken, set_ok, in_a_slot, only_gets, got, delivered}

same_reference : {q r : MutRef} → ends q ≡ ends r → q ≡ r
same_reference e = cc

-- what it waits for is its own object
record OwnTurn (r : MutRef) (old : ℕ) (a : Awaited) : Type 0 where
  word : r.word ≡ old
  object : r.object ≡ a.object

its_object : (r : MutRef) (a : Awaited) → Among a (to_write (Some (value.Mut r))) → r.object ≡ a.object
its_object r a (inl e) = ap (λ (q : Awaited). q.object) e
its_object r a (inr m) = absurd m

own_turn : (k : Cluster) (x : Standing) (old : ℕ) (a : Awaited) (r : MutRef) (p : Path) → (r.word ≡ old) ⊎ (r.holder.depth ≡ 0) → p ≡ ends r → InTurn (sight k) x old a p → OwnTurn r old a
own_turn k x old a r _ own e (by_end q word m) = subst (λ z. OwnTurn z old a) (same_reference e) (record { word = word; object = its_object q a m })
own_turn k x old a r _ own e (by_holder q other next) =
    let same : q ≡ r = same_reference e in
    ⊎_elim (λ (w : r.word ≡ old). absurd (other (ap (λ (z : MutRef). z.word) same ∙ w)))
    (λ (none : r.holder.depth ≡ 0). let d : q.holder.depth ≡ 0 = ap (λ (z : MutRef). z.holder.depth) same ∙ none in let l = next.within in absurd (omega (arith, l, d))) own
own_turn k x old a r _ own e _ = absurd (cc e)

module _ (k : Cluster) (coherent : IsCoherent k) (few : FewEvents k) (s : Server) (here : server_at k.servers s.rest.number ≡ Some s) (t : ℕ) (y : ThreadState) (at : thread_in s.threads t ≡ Some y) (i old : ℕ) (c : Cell) (message_there : slice_get s.rest.inbox i ≡ Some (Moved old c t))
    (waiting : y.phase ≡ phase.WaitCell old) (grows : can_grow s.rest.partition ≡ true) (j : Instr) (code : slice_get k.code y.pc ≡ Some j) (m : ℕ) (r : MutRef) (it_ends : EndsSlot y j m) (there : slice_get y.slots m ≡ Some (value.Mut r)) (own : (r.word ≡ old) ⊎ (r.holder.depth ≡ 0)) where
  abbrev me : Standing
  me = record { server = s.rest.number; packed = false; thread = y }

  abbrev g : Ground
  g = (sight k).ground

  abbrev cp : HasPaths k
  cp = paths k coherent few s here t y at i old c message_there waiting grows

  abbrev goes : GoesOn k me
  goes = on k coherent few s here t y at i old c message_there waiting grows

  abbrev K : Hand → Type 0
  K = Kept k coherent few s here t y at i old c message_there

  abbrev new : ℕ
  new = new_word s.rest.partition

  abbrev h1 : Hand
  h1 = landed k coherent few s here t y at i old c message_there

  abbrev aw : Awaits k me old c
  aw = awaits k coherent few s here t y at i old c message_there waiting grows

  -- the newest slot
  newest : (slot : ℕ) → length y.slots ≡ suc slot → slice_get y.slots slot ≡ Some (value.Mut r) → last_of y.slots ≡ Some (value.Mut r)
  newest slot e f = let number : length y.slots - 1 ≡ slot = omega (arith, e) in ap (slice_get y.slots) number ∙ f

  path_by : (q : Instr) (z : ℕ) → EndsSlot y q z → slice_get y.slots z ≡ Some (value.Mut r) → path_of (Some q) y ≡ ends r
  path_by _ z (assigned {w = w} e) f = ap (λ d. assigning y.slots w d) e ∙ ap ending f
  path_by _ z (dropped e) f = ap ending (newest z e f)

  its_path : path (sight k) me ≡ ends r
  its_path = ap (λ b. path_of b y) code ∙ path_by j m it_ends there

  access_by : (q : Instr) (z : ℕ) → EndsSlot y q z → slice_get y.slots z ≡ Some (value.Mut r) → access_of q y ≡ Some (EndRef (in_slot z))
  access_by _ z (assigned {w = w} e) f = ap (λ d. access_assigned w d y) e ∙ ap (access_ending (in_slot w.slot)) f
  access_by _ z (dropped e) f =
      let number : length y.slots - 1 ≡ z = omega (arith, e) in
      ap (access_ending (in_slot (length y.slots - 1))) (newest z e f) ∙ ap (λ n. Some (EndRef (in_slot n))) number

  no_lend : (q : Instr) (z : ℕ) → EndsSlot y q z → (p : Lval) → q ≡ instr.BorrowMut p → ⊥
  no_lend _ z (assigned e) p f = absurd (cc f)
  no_lend _ z (dropped e) p f = absurd (cc f)

  turn : OwnTurn r old aw.awaited
  turn = own_turn k me old aw.awaited r (path (sight k) me) own its_path aw.turn

  -- IT IS THE POINTER THROUGH WHICH ITS OBJECT IS WRITTEN

  abbrev l : Location
  l = at_slot y.number m

  may : MayWrite k cp.types me (record { slot = m; depth = 1 })
  may = ended_may_write k cp me j m r goes code it_ends there

  stands : value_in g l ≡ Some (value.Mut r)
  stands = slot_stands k coherent few s here t y at i old c message_there waiting grows m (value.Mut r) there

  followed : Followed k cp me l
  followed = record { goes = goes; slot = m; stars = 0; free = may.free; base = may.base; boxes = may.boxes; type = may.type; resolves = may.resolves; located = refl }

  chain : OwnChain k cp y.number l
  chain = chain_of k cp me l followed

  fresh : IsStale (sight k) (Some l) → ⊥
  fresh (changed_above q among held ch) = none_made k cp me l q followed among held
  fresh (stale_above q among held z) = none_made k cp me l q followed among held
  fresh (taken_above z) =
      not_taken k cp me goes l (λ u n b h. threads_same (unique (heap_store k cp.types) cp.types.state.typed.owner (slot_k u n) (slot_k y.number chain.slot) b chain.boxes (in_store l) h chain.leads_there).0)
      (λ p q. no_lend j m it_ends p (some_is (sym code ∙ q))) z

  sole : IsSole k l c.object
  sole = written_are_sole k cp me (record { slot = m; depth = 1 }) l c.object goes may (record { stars = 0; last = refl; pointer = refl; leads = to }) fresh
    where
      to : leads y.number (value_in g l) ≡ Some (in_cell c.object)
      to = ap (leads y.number) stands ∙ ap (λ o. Some (in_cell o)) (turn.object ∙ aw.object)

  -- IT GETS THE WORD

  gets : Gives K (arrived_at (in_slot m) new h1)
  gets = by (set_pointer (in_slot m) new h1) refl
    where
      by : (o : Option Hand) → set_pointer (in_slot m) new h1 ≡ o → Gives K (option_map (with_phase phase.Got) o)
      by None e = tt
      by (Some h2) e =
          let b : BoxPtr = record { word = r.word; object = r.object } in
          let ok = set_ok k coherent few s here t y at i old c message_there waiting grows h2 (in_slot m) e in
          let put : SlotPut h1 h2 m new (value.Mut r) = word_put h1 h2 m new (value.Mut r) there e in
          let none : TakesNoneHere k.code h2.thread = subst (λ x. TakesNoneHere k.code x) (sym put.thread) (untaken k coherent few s here t y at i old c message_there waiting grows) in
          let reworded = in_a_slot k coherent few s here t y at i old c message_there waiting grows m (value.Mut r) b h2 there refl (turn.object ∙ aw.object) e in
          got k coherent few s here t y at i old c message_there waiting grows h2 ok none (only_gets k coherent few s here t y at i old c message_there waiting grows h2 l ok (are_only.soles k l c.object sole) fresh reworded)

  end_arrives : Gives K (arrived_end (in_slot m) (slice_get y.slots m) old new h1)
  end_arrives =
      let test : (r.word == old) ≡ true = eq-eqb r.word old turn.word in
      subst (λ o. Gives K (arrived_end (in_slot m) o old new h1)) (sym there) (subst (λ b. Gives K (if b then arrived_at (in_slot m) new h1 else arrived_write r.holder new h1)) (sym test) gets)

  pub arrives : Gives K (arrived (instr_access (before k coherent few s here t y at i old c message_there) (slice_get k.code y.pc)) old new h1)
  arrives =
      subst (λ o. Gives K (arrived (instr_access (before k coherent few s here t y at i old c message_there) o) old new h1)) (sym code)
      (subst (λ o. Gives K (arrived o old new h1)) (sym (access_by j m it_ends there)) end_arrives)

pub end_arrivals_keep : EndArrivalsKeep
end_arrivals_keep k number i old t s c y j m r coherent few here message_there at code it_ends there own =
    delivered k number i old t s c y coherent few here message_there at (λ h waiting grows. arrives k coherent few s h t y at i old c message_there waiting grows j code m r it_ends there own)
