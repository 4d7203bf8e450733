-- An object that comes to a read, or to a pointer on the way of a mutable borrow: it was changed through a dirty reference in a slot, and that gets a word that wasn't issued.
use Rattle.std.proofs.Common.{◌≡◌, inl, inr, ℕ, zero, suc, ◌+◌, ◌-◌, ◌==◌, Bool, true, false, if◌then◌else◌, [], ◌∷◌, Option, Some, None, option_map, refl, sym, ap, subst, ◌∙◌, arith}
use Rattle.std.specs.Prelude.{slice_get}
use Rattle.law_words_ends.specs.Below.fr_base.declared.instruction.Instr.{Instr}
use Rattle.law_words_ends.specs.Below.fr_base.declared.instruction.Instr.TheVariants as instr
use Rattle.law_words_ends.specs.Below.fr_base.declared.place.Lval.{Lval}
use Rattle.law_words_ends.specs.Below.fr_base.declared.name.ObjNo.{ObjNo}
use Rattle.law_words_ends.specs.Below.global_addr.Words.{colour_of}
use Rattle.law_words_ends.specs.Below.heap_partition.declared.value.BoxPtr.{BoxPtr}
use Rattle.law_words_ends.specs.Below.heap_partition.declared.value.Cell.{Cell}
use Rattle.law_words_ends.specs.Below.mut_borrow.declared.mutable.MutRef.{MutRef}
use Rattle.law_words_ends.specs.Below.owner_box.Partition.{new_word}
use Rattle.law_words_ends.specs.Below.thread_state.View.{ThreadState}
use Rattle.law_words_ends.specs.Below.thread_state.declared.phase.Phase.TheVariants as phase
use Rattle.law_words_ends.specs.Below.thread_state.declared.value.Value.{Value}
use Rattle.law_words_ends.specs.Below.thread_state.declared.value.Value.TheVariants as value
use Rattle.law_words_ends.specs.Below.server_msgs.declared.message.Message.TheVariants.{Moved}
use Rattle.law_words_ends.specs.Below.server_model.Servers.{Server, Cluster, server_at}
use Rattle.law_words_ends.specs.Below.server_model.Work.{Hand, thread_in, with_phase}
use Rattle.law_words_ends.specs.Below.server_model.NewWords.{can_grow}
use Rattle.law_words_ends.specs.Below.server_model.Places.{in_slot, set_pointer}
use Rattle.law_words_ends.specs.Below.server_model.Prepare.{access_of, read_or_taken}
use Rattle.law_words_ends.specs.Below.server_model.Objects.{waits_under, arrived_at, arrived_slot, arrived_read, arrived, instr_access}
use Rattle.law_words_ends.specs.Below.coherent_memory.Names.{Among}
use Rattle.law_words_ends.specs.Below.coherent_memory.Things.{Location, at_slot, in_cell}
use Rattle.law_words_ends.specs.Below.coherent_memory.Follow.{Standing, Ground, value_in}
use Rattle.law_words_ends.specs.Below.coherent_memory.Paths.{Path, reads, shares, path_of, Awaited, is_spent, to_read, to_clean}
use Rattle.law_words_ends.specs.Below.coherent_memory.Sight.{is_object_among, sight}
use Rattle.law_words_ends.specs.Below.coherent_memory.Stale.{holder_of}
use Rattle.law_words_ends.specs.Below.coherent_memory.Turn.{InTurn, by_read, by_share, AwaitsAt, read_at, before_share, at_share}
use Rattle.law_words_ends.specs.Below.coherent_memory.Walking.{path}
use Rattle.law_words_ends.specs.Below.coherent_memory.Words.{IsStale}
use Rattle.law_words_ends.proofs.Below.coherent_memory.Names.{and_left}
use Rattle.law_words_ends.specs.Below.coherent_types.ClusterTypes.{IsCoherent}
use Rattle.law_words_ends.specs.Below.law_counts_sums.Laws.{FewEvents}
use Rattle.law_words_ends.specs.Below.law_counts_sums.Laws.{Gives}
use Rattle.law_words_ends.proofs.Below.law_words_paths.paths.Contained.{reference_there}
use Rattle.law_words_ends.specs.Below.law_words_kept.reads.Reading.{Reads, copies, shares as shares_from, lends as lends_from, dups, locks}
use Rattle.law_words_ends.proofs.Below.law_words_kept.stays.Steps.{TakesNoneHere}
use Rattle.law_words_ends.specs.Below.law_words_paths.words.Soles.{IsOnly}
use Rattle.law_words_ends.proofs.Below.law_words_paths.words.Only.{are_only}
use Rattle.law_words_ends.proofs.Below.law_words_paths.words.Tints.{SlotPut, word_put}
use Rattle.law_words_ends.specs.Below.law_words_asked.arrivals.Awaited.{Awaits}
use Rattle.law_copies_kept.proofs.references.Worded.{dirty_found}
use Rattle.law_words_ends.proofs.Below.law_words_asked.awaited.Landing.{before, landed, untaken, begun_places, set_ok, in_a_slot}
use Rattle.law_words_ends.proofs.Below.law_words_asked.awaited.ReadArrivals.{IsSpent, read_spent, SpentHop, spent_hop, fresh_at, slot, there}
use Rattle.law_words_ends.proofs.Below.law_words_asked.awaited.ReadArrivals as waits
use Rattle.law_copies_writes.specs.arrivals.Landed.{ReadArrivalsKeepCopies}
use Rattle.law_copies_kept.proofs.hidden.Reworded.{NotAsked}
use Rattle.law_copies_writes.proofs.arrivals.Delivery.{words, Kept, got, settles_apart, delivered}

-- WHAT A READ WAITS FOR

clean_spent : (c : ℕ) (v : Value) (a : Awaited) → Among a (to_clean c (Some v)) → IsSpent v a
clean_spent c (value.Mut r) a m = by (is_spent c r) refl m
  where
    by : (b : Bool) → is_spent c r ≡ b → Among a (if b then record { word = r.word; object = r.object; comes = true; by_copy = false } ∷ [] else []) → IsSpent (value.Mut r) a
    by true e (inl q) = record { reference = r; is = refl; dirty = and_left r.dirty (colour_of r.word + 1 == c) e; word = ap (λ (x : Awaited). x.word) q; object = ap (λ (x : Awaited). x.object) q }
    by true e (inr m) = absurd m
    by false e m = absurd m
clean_spent c _ a m = absurd m

same_read : {v w : Lval} → reads v ≡ reads w → v ≡ w
same_read e = cc

same_share : {v w : Lval} → shares v ≡ shares w → v ≡ w
same_share e = cc

module _ (k : Cluster) (x : Standing) (a : Awaited) (comes : a.comes ≡ true) where
  at_read : (p : Path) (w : Lval) (e : ℕ) → p ≡ reads w → AwaitsAt (sight k) x p e a → SpentHop k x w a
  at_read _ w e is (read_at v _ _ lt q) =
      subst (λ z. SpentHop k x z a) (same_read is) (spent_hop k x v a e (to_read (sight k).options.colours) lt q (read_spent (sight k).options.colours q.value a q.asked comes))
  at_read _ w e is _ = absurd (cc is)

  at_borrow : (p : Path) (w : Lval) (e : ℕ) → p ≡ shares w → AwaitsAt (sight k) x p e a → SpentHop k x w a
  at_borrow _ w e is (before_share v _ _ lt q) =
      subst (λ z. SpentHop k x z a) (same_share is) (spent_hop k x v a e (to_read (sight k).options.colours) (omega (arith, lt)) q (read_spent (sight k).options.colours q.value a q.asked comes))
  at_borrow _ w e is (at_share v _ _ last q) =
      subst (λ z. SpentHop k x z a) (same_share is) (spent_hop k x v a e (to_clean (sight k).options.colours) (omega (arith, last)) q (clean_spent (sight k).options.colours q.value a q.asked))
  at_borrow _ w e is _ = absurd (cc is)

  in_read : (old : ℕ) (w : Lval) (p : Path) → p ≡ reads w → InTurn (sight k) x old a p → SpentHop k x w a
  in_read old w _ is (by_read v f) = at_read (reads v) w f.number is f.at
  in_read old w _ is _ = absurd (cc is)

  in_borrow : (old : ℕ) (w : Lval) (p : Path) → p ≡ shares w → InTurn (sight k) x old a p → SpentHop k x w a
  in_borrow old w _ is (by_share v f) = at_borrow (shares v) w f.number is f.at
  in_borrow old w _ is _ = absurd (cc is)

-- THE REFERENCE GETS THE WORD

no_cell_slot : (o : ObjNo) (t m : ℕ) → in_cell o ≡ at_slot t m → ⊥
no_cell_slot o t m e = cc e

module _ (k : Cluster) (coherent : IsCoherent k) (few : FewEvents k) (s : Server) (here : server_at k.servers s.rest.number ≡ Some s) (t : ℕ) (y : ThreadState) (at : thread_in s.threads t ≡ Some y) (i old : ℕ) (c : Cell) (message_there : slice_get s.rest.inbox i ≡ Some (Moved old c t))
    (waiting : y.phase ≡ phase.WaitCell old) (grows : can_grow s.rest.partition ≡ true) where
  abbrev me : Standing
  me = record { server = s.rest.number; packed = false; thread = y }

  abbrev g : Ground
  g = (sight k).ground

  abbrev K : Hand → Type 0
  K = Kept k coherent few s here t y at i old c message_there

  abbrev nw : ℕ
  nw = new_word s.rest.partition

  abbrev h1 : Hand
  h1 = landed k coherent few s here t y at i old c message_there

  abbrev aw : Awaits k me old c
  aw = waits.aw k coherent few s here t y at i old c message_there waiting grows

  -- a dirty reference in a slot of the thread that isn't stale is alone
  pub slot_gets : (m : ℕ) (r : MutRef) → slice_get y.slots m ≡ Some (value.Mut r) → value_in g (at_slot y.number m) ≡ Some (value.Mut r) → r.dirty ≡ true → r.object ≡ c.object → (IsStale (sight k) (Some (at_slot y.number m)) → ⊥) → Gives K (arrived_at (in_slot m) nw h1)
  slot_gets m r in_it stands dirty same fresh = by (set_pointer (in_slot m) nw h1) refl
    where
      l : Location
      l = at_slot y.number m

      only : IsOnly k l c.object
      only = subst (IsOnly k l) same (are_only.dirty k l r (begun_places k coherent few s here t y at i old c message_there waiting grows) coherent.sound.words.dirty_alone stands dirty fresh)

      -- the object was changed through it
      was_dirty : is_object_among c.object (sight k).dirty ≡ true
      was_dirty = dirty_found k r c.object (record { reference = record { at = l; holder = holder_of g l r.holder; reference = r }; among = reference_there k l r stands; same = refl; fresh = fresh }) same dirty

      wanted : NotAsked k (words k coherent few s here t y at i old c message_there) c.object
      wanted d o q = inl was_dirty

      by : (o : Option Hand) → set_pointer (in_slot m) nw h1 ≡ o → Gives K (option_map (with_phase phase.Got) o)
      by None e = tt
      by (Some h2) e =
          let b : BoxPtr = record { word = r.word; object = r.object } in
          let ok = set_ok k coherent few s here t y at i old c message_there waiting grows h2 (in_slot m) e in
          let put : SlotPut h1 h2 m nw (value.Mut r) = word_put h1 h2 m nw (value.Mut r) in_it e in
          let none : TakesNoneHere k.code h2.thread = subst (λ x. TakesNoneHere k.code x) (sym put.thread) (untaken k coherent few s here t y at i old c message_there waiting grows) in
          let reworded = in_a_slot k coherent few s here t y at i old c message_there waiting grows m (value.Mut r) b h2 in_it refl same e in
          got k coherent few s here t y at i old c message_there waiting grows h2 ok none
          (settles_apart k coherent few s here t y at i old c message_there waiting grows h2 l (λ o. no_cell_slot o y.number m) ok only fresh reworded wanted)

  module _ (j : Instr) (code : slice_get k.code y.pc ≡ Some j) (w : Lval) (n : ℕ) (reads_it : Reads j w n) (h : SpentHop k me w aw.awaited) where
    -- the slot at which the thread waits
    abbrev at_it : (m : ℕ) × (h.location ≡ at_slot y.number m) × (slice_get y.slots m ≡ Some h.value)
    at_it = slot k coherent few s here t y at i old c message_there waiting grows j code w n reads_it h

    abbrev pub m : ℕ
    m = at_it.0

    abbrev r : MutRef
    r = h.spent.reference

    in_slot_there : slice_get y.slots m ≡ Some (value.Mut r)
    in_slot_there = there k coherent few s here t y at i old c message_there waiting grows j code w n reads_it h

    fresh : IsStale (sight k) (Some (at_slot y.number m)) → ⊥
    fresh = fresh_at k coherent few s here t y at i old c message_there waiting grows j code w n reads_it h.stars (at_slot y.number m) h.within (h.located ∙ ap (λ l. Some l) at_it.1)

    pub gets : Gives K (arrived_at (in_slot m) nw h1)
    gets = slot_gets m r in_slot_there (ap (value_in g) (sym at_it.1) ∙ h.stands ∙ ap (λ v. Some v) h.spent.is) h.spent.dirty (h.spent.object ∙ aw.object) fresh

    read_arrives : Gives K (arrived_read w old nw h1)
    read_arrives =
        subst (λ q. Gives K (arrived_slot old nw q h1)) (sym (waits.found_at k coherent few s here t y at i old c message_there waiting grows j code w n reads_it h (w.depth - 1) (let l = h.within in omega (arith, l))))
        (by (waits_under old (slice_get y.slots m)))
      where
        by : (b : Bool) → Gives K (if b then arrived_at (in_slot m) nw h1 else None)
        by true = gets
        by false = tt

  -- READS

  module _ (j : Instr) (code : slice_get k.code y.pc ≡ Some j) (w : Lval) (n : ℕ) where
    as_read : Reads j w n → path_of (Some j) y ≡ reads w → Gives K (arrived_read w old nw h1)
    as_read reads_it e = read_arrives j code w n reads_it (in_read k me aw.awaited aw.comes old w (path (sight k) me) (ap (λ b. path_of b y) code ∙ e) aw.turn)

    as_share : Reads j w n → path_of (Some j) y ≡ shares w → Gives K (arrived_read w old nw h1)
    as_share reads_it e = read_arrives j code w n reads_it (in_borrow k me aw.awaited aw.comes old w (path (sight k) me) (ap (λ b. path_of b y) code ∙ e) aw.turn)

  -- a copy reads, however deep its place is
  copied : (w : Lval) (d : ℕ) → Gives K (arrived_read w old nw h1) → Gives K (arrived (Some (read_or_taken w d false)) old nw h1)
  copied w zero q = q
  copied w (suc d) q = q

  for_access : (j : Instr) (w : Lval) (n : ℕ) → slice_get k.code y.pc ≡ Some j → Reads j w n → ((v : Lval) → j ≡ instr.BorrowMut v → ⊥) → Gives K (arrived (access_of j y) old nw h1)
  for_access _ w n code (copies e) none = copied w w.depth (as_read (instr.Read w false) code w n (copies e) refl)
  for_access _ w n code (dups e) none = as_read (instr.Dup w) code w n (dups e) refl
  for_access _ w n code (locks e) none = as_read (instr.Lock w) code w n (locks e) refl
  for_access _ w n code (shares_from e) none = as_share (instr.Borrow w) code w n (shares_from e) refl
  for_access _ w n code (lends_from e) none = absurd (none w refl)

  pub arrives : (j : Instr) (w : Lval) (n : ℕ) → slice_get k.code y.pc ≡ Some j → Reads j w n → ((v : Lval) → j ≡ instr.BorrowMut v → ⊥)
      → Gives K (arrived (instr_access (before k coherent few s here t y at i old c message_there) (slice_get k.code y.pc)) old nw h1)
  arrives j w n code reads_it none =
      subst (λ o. Gives K (arrived (instr_access (before k coherent few s here t y at i old c message_there) o) old nw h1)) (sym code) (for_access j w n code reads_it none)

pub reads_keep : ReadArrivalsKeepCopies
reads_keep k number i old t s c y j w m reads_it none coherent few here message_there at code =
    delivered k number i old t s c y coherent few here message_there at (λ h waiting grows. arrives k coherent few s h t y at i old c message_there waiting grows j w m code reads_it none)
