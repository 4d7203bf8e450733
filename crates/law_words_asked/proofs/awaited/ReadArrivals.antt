-- An object that comes to a read: a dirty mutable reference leads to it, which stands in a slot at the end of a chain of slots, and is alone.
use Rattle.std.proofs.Common.{◌≡◌, inl, inr, ◌≤◌, ◌<◌, ℕ, zero, suc, ◌+◌, ◌-◌, ◌==◌, Bool, true, false, if◌then◌else◌, List, [], ◌∷◌, Option, Some, None, option_map, refl, sym, ap, subst, ◌∙◌, arith}
use Rattle.std.specs.Prelude.{slice_get}
use Rattle.law_words_asked.specs.Below.fr_base.declared.instruction.Instr.{Instr}
use Rattle.law_words_asked.specs.Below.fr_base.declared.instruction.Instr.TheVariants as instr
use Rattle.law_words_asked.specs.Below.fr_base.declared.place.Lval.{Lval}
use Rattle.law_words_asked.specs.Below.global_addr.Words.{colour_of}
use Rattle.law_words_asked.specs.Below.heap_partition.declared.value.BoxPtr.{BoxPtr}
use Rattle.law_words_asked.specs.Below.heap_partition.declared.value.Cell.{Cell}
use Rattle.law_words_asked.specs.Below.heap_partition.declared.value.Owned.{Owned}
use Rattle.law_words_asked.specs.Below.heap_partition.declared.value.Owned.TheVariants as owned
use Rattle.law_words_asked.specs.Below.mut_borrow.declared.mutable.MutRef.{MutRef}
use Rattle.law_words_asked.specs.Below.owner_box.Partition.{new_word}
use Rattle.law_words_asked.specs.Below.thread_state.View.{ThreadState}
use Rattle.law_words_asked.specs.Below.thread_state.declared.phase.Phase.TheVariants as phase
use Rattle.law_words_asked.specs.Below.thread_state.declared.value.Value.{Value}
use Rattle.law_words_asked.specs.Below.thread_state.declared.value.Value.TheVariants as value
use Rattle.law_words_asked.specs.Below.server_msgs.declared.message.Message.TheVariants.{Moved}
use Rattle.law_words_asked.specs.Below.server_model.Servers.{Server, Cluster, server_at}
use Rattle.law_words_asked.specs.Below.server_model.Work.{Hand, thread_in, with_phase}
use Rattle.law_words_asked.specs.Below.server_model.NewWords.{can_grow}
use Rattle.law_words_asked.specs.Below.server_model.Places.{in_slot, set_pointer}
use Rattle.law_words_asked.specs.Below.server_model.Prepare.{access_of, read_or_taken}
use Rattle.law_words_asked.specs.Below.server_model.Objects.{chased, waits_under, arrived_at, arrived_slot, arrived_read, arrived, instr_access}
use Rattle.law_words_asked.specs.Below.coherent_memory.Names.{Among}
use Rattle.law_words_asked.specs.Below.coherent_memory.Things.{Location, at_slot}
use Rattle.law_words_asked.specs.Below.coherent_memory.Follow.{Standing, Ground, value_in, locate}
use Rattle.law_words_asked.specs.Below.coherent_memory.Paths.{Path, reads, shares, path_of, Awaited, is_spent, to_read, to_clean}
use Rattle.law_words_asked.specs.Below.coherent_memory.Sight.{sight}
use Rattle.law_words_asked.specs.Below.coherent_memory.Turn.{InTurn, by_read, by_share, AwaitsAt, read_at, before_share, at_share, IsAsked}
use Rattle.law_words_asked.specs.Below.coherent_memory.Walking.{path}
use Rattle.law_words_asked.specs.Below.coherent_memory.Words.{IsStale}
use Rattle.law_words_asked.proofs.Below.coherent_memory.Names.{and_left}
use Rattle.law_words_asked.proofs.Below.coherent_memory.Passing.{paths_law}
use Rattle.law_words_asked.specs.Below.coherent_types.ClusterTypes.{IsCoherent}
use Rattle.law_words_asked.specs.Below.law_counts_sums.Laws.{Gives, FewEvents}
use Rattle.law_words_asked.specs.Below.law_words_paths.paths.HeapStore.{GoesOn, HasPaths}
use Rattle.law_words_asked.proofs.Below.law_words_paths.paths.Shown.{stands_there}
use Rattle.law_words_asked.specs.Below.law_words_kept.reads.Reading.{Reads, copies, shares as shares_from, lends as lends_from, dups, locks}
use Rattle.law_words_asked.proofs.Below.law_words_kept.reads.FreshReads.{reading_of, fresh_if}
use Rattle.law_words_asked.proofs.Below.law_words_kept.stays.Steps.{TakesNoneHere}
use Rattle.law_words_asked.specs.Below.law_words_paths.words.Soles.{IsOnly}
use Rattle.law_words_asked.proofs.Below.law_words_paths.words.Only.{are_only}
use Rattle.law_words_asked.proofs.Below.law_words_paths.words.Tints.{SlotPut, word_put}
use Rattle.law_words_asked.specs.arrivals.Awaited.{Awaits}
use Rattle.law_words_asked.specs.awaited.ReadArrivals.{ReadArrivalsKeep}
use Rattle.law_words_asked.proofs.awaited.Landing.{before, landed, Kept, paths, on, awaits, untaken, begun_places, set_ok, in_a_slot, only_gets, got, delivered}
use Rattle.law_words_asked.proofs.awaited.Chasing.{in_its_slot, chased_there}

-- WHAT COMES FOR A READ

-- it is the object of a dirty mutable reference
pub record IsSpent (v : Value) (a : Awaited) : Type 0 where
  pub reference : MutRef
  pub is : v ≡ value.Mut reference
  pub dirty : reference.dirty ≡ true
  pub word : reference.word ≡ a.word
  pub object : reference.object ≡ a.object

pub read_spent : (c : ℕ) (v : Value) (a : Awaited) → Among a (to_read c (Some v)) → a.comes ≡ true → IsSpent v a
read_spent c (value.Mut r) a (inl q) e =
    record { reference = r; is = refl; dirty = and_left r.dirty (colour_of r.word + 1 == c) (ap (λ (x : Awaited). x.comes) q ∙ e); word = ap (λ (x : Awaited). x.word) q; object = ap (λ (x : Awaited). x.object) q }
read_spent c (value.Mut r) a (inr m) e = absurd m
read_spent c (value.Shared r) a (inl q) e = let no : false ≡ true = ap (λ (x : Awaited). x.comes) q ∙ e in absurd (cc no)
read_spent c (value.Shared r) a (inr m) e = absurd m
read_spent c (value.Own (owned.Box p)) a (inl q) e = let no : false ≡ true = ap (λ (x : Awaited). x.comes) q ∙ e in absurd (cc no)
read_spent c (value.Own (owned.Box p)) a (inr m) e = absurd m
read_spent c (value.Own owned.Nothing) a m e = absurd m
read_spent c (value.Own owned.Unit) a m e = absurd m
read_spent c (value.Own (owned.Int n)) a m e = absurd m
read_spent c (value.Own (owned.Mutex n)) a m e = absurd m
read_spent c (value.Own (owned.Task n)) a m e = absurd m
read_spent c value.Gone a m e = absurd m
read_spent c (value.SharedSlot j) a m e = absurd m
read_spent c (value.MutSlot j) a m e = absurd m
read_spent c (value.Held n) a m e = absurd m

clean_spent : (c : ℕ) (v : Value) (a : Awaited) → Among a (to_clean c (Some v)) → IsSpent v a
clean_spent c (value.Mut r) a m = by (is_spent c r) refl m
  where
    by : (b : Bool) → is_spent c r ≡ b → Among a (if b then record { word = r.word; object = r.object; comes = true; by_copy = false } ∷ [] else []) → IsSpent (value.Mut r) a
    by true e (inl q) = record { reference = r; is = refl; dirty = and_left r.dirty (colour_of r.word + 1 == c) e; word = ap (λ (x : Awaited). x.word) q; object = ap (λ (x : Awaited). x.object) q }
    by true e (inr m) = absurd m
    by false e m = absurd m
clean_spent c _ a m = absurd m

-- a hop of the place, before its end, over such a reference
pub record SpentHop (k : Cluster) (x : Standing) (w : Lval) (a : Awaited) : Type 0 where
  pub stars : ℕ
  pub within : stars < w.depth
  pub location : Location
  pub located : locate (sight k).ground x.thread.number w.slot stars ≡ Some location
  pub value : Value
  pub stands : value_in (sight k).ground location ≡ Some value
  pub spent : IsSpent value a

pub spent_hop : (k : Cluster) (x : Standing) (w : Lval) (a : Awaited) (e : ℕ) (f : Option Value → List Awaited) → e < w.depth → (q : IsAsked (sight k) x w e f a) → IsSpent q.value a → SpentHop k x w a
spent_hop k x w a e f lt q spent = record {
  stars = e;
  within = lt;
  location = q.location;
  located = paths_law.locates (sight k).ground x.thread.number w.slot e q.location q.hop.path;
  value = q.value;
  stands = q.hop.stands;
  spent = spent;
}

same_read : {v w : Lval} → reads v ≡ reads w → v ≡ w
same_read e = cc

same_share : {v w : Lval} → shares v ≡ shares w → v ≡ w
same_share e = cc

module _ (k : Cluster) (x : Standing) (a : Awaited) (comes : a.comes ≡ true) where
  at_read : (p : Path) (w : Lval) (e : ℕ) → p ≡ reads w → AwaitsAt (sight k) x p e a → SpentHop k x w a
  at_read _ w e is (read_at v _ _ lt q) =
      subst (λ z. SpentHop k x z a) (same_read is) (spent_hop k x v a e (to_read (sight k).options.colours) lt q (read_spent (sight k).options.colours q.value a q.asked comes))
  at_read _ w e is _ = absurd (cc is)

  at_borrow : (p : Path) (w : Lval) (e : ℕ) → p ≡ shares w → AwaitsAt (sight k) x p e a → SpentHop k x w a
  at_borrow _ w e is (before_share v _ _ lt q) =
      subst (λ z. SpentHop k x z a) (same_share is) (spent_hop k x v a e (to_read (sight k).options.colours) (omega (arith, lt)) q (read_spent (sight k).options.colours q.value a q.asked comes))
  at_borrow _ w e is (at_share v _ _ last q) =
      subst (λ z. SpentHop k x z a) (same_share is) (spent_hop k x v a e (to_clean (sight k).options.colours) (omega (arith, last)) q (clean_spent (sight k).options.colours q.value a q.asked))
  at_borrow _ w e is _ = absurd (cc is)

  in_read : (old : ℕ) (w : Lval) (p : Path) → p ≡ reads w → InTurn (sight k) x old a p → SpentHop k x w a
  in_read old w _ is (by_read v f) = at_read (reads v) w f.number is f.at
  in_read old w _ is _ = absurd (cc is)

  in_borrow : (old : ℕ) (w : Lval) (p : Path) → p ≡ shares w → InTurn (sight k) x old a p → SpentHop k x w a
  in_borrow old w _ is (by_share v f) = at_borrow (shares v) w f.number is f.at
  in_borrow old w _ is _ = absurd (cc is)

-- THE REFERENCE GETS THE WORD

module _ (k : Cluster) (coherent : IsCoherent k) (few : FewEvents k) (s : Server) (here : server_at k.servers s.rest.number ≡ Some s) (t : ℕ) (y : ThreadState) (at : thread_in s.threads t ≡ Some y) (i old : ℕ) (c : Cell) (message_there : slice_get s.rest.inbox i ≡ Some (Moved old c t))
    (waiting : y.phase ≡ phase.WaitCell old) (grows : can_grow s.rest.partition ≡ true) where
  abbrev me : Standing
  me = record { server = s.rest.number; packed = false; thread = y }

  abbrev g : Ground
  g = (sight k).ground

  abbrev cp : HasPaths k
  cp = paths k coherent few s here t y at i old c message_there waiting grows

  abbrev goes : GoesOn k me
  goes = on k coherent few s here t y at i old c message_there waiting grows

  abbrev K : Hand → Type 0
  K = Kept k coherent few s here t y at i old c message_there

  abbrev new : ℕ
  new = new_word s.rest.partition

  abbrev h1 : Hand
  h1 = landed k coherent few s here t y at i old c message_there

  pub aw : Awaits k me old c
  aw = awaits k coherent few s here t y at i old c message_there waiting grows

  -- a dirty reference in a slot of the thread that isn't stale is alone
  pub slot_gets : (m : ℕ) (r : MutRef) → slice_get y.slots m ≡ Some (value.Mut r) → value_in g (at_slot y.number m) ≡ Some (value.Mut r) → r.dirty ≡ true → r.object ≡ c.object → (IsStale (sight k) (Some (at_slot y.number m)) → ⊥) → Gives K (arrived_at (in_slot m) new h1)
  slot_gets m r there stands dirty same fresh = by (set_pointer (in_slot m) new h1) refl
    where
      only : IsOnly k (at_slot y.number m) c.object
      only =
          subst (IsOnly k (at_slot y.number m)) same
          (are_only.dirty k (at_slot y.number m) r (begun_places k coherent few s here t y at i old c message_there waiting grows) coherent.sound.words.dirty_alone stands dirty fresh)

      by : (o : Option Hand) → set_pointer (in_slot m) new h1 ≡ o → Gives K (option_map (with_phase phase.Got) o)
      by None e = tt
      by (Some h2) e =
          let b : BoxPtr = record { word = r.word; object = r.object } in
          let ok = set_ok k coherent few s here t y at i old c message_there waiting grows h2 (in_slot m) e in
          let put : SlotPut h1 h2 m new (value.Mut r) = word_put h1 h2 m new (value.Mut r) there e in
          let none : TakesNoneHere k.code h2.thread = subst (λ x. TakesNoneHere k.code x) (sym put.thread) (untaken k coherent few s here t y at i old c message_there waiting grows) in
          let reworded = in_a_slot k coherent few s here t y at i old c message_there waiting grows m (value.Mut r) b h2 there refl same e in
          got k coherent few s here t y at i old c message_there waiting grows h2 ok none (only_gets k coherent few s here t y at i old c message_there waiting grows h2 (at_slot y.number m) ok only fresh reworded)

  module _ (j : Instr) (code : slice_get k.code y.pc ≡ Some j) (w : Lval) (n : ℕ) (reads_it : Reads j w n) where
    -- what is read isn't stale
    pub fresh_at : (e : ℕ) (l : Location) → e < w.depth → locate g y.number w.slot e ≡ Some l → IsStale (sight k) (Some l) → ⊥
    fresh_at e l lt located = fresh_if k cp me l (reading_of k cp me j w n e l goes code reads_it (w.depth - e) (omega (arith, lt)) located) (λ z h same. not_waiting z same h.taken)
      where
        not_waiting : (z : Standing) → z ≡ me → {v : ℕ} → z.thread.phase ≡ phase.Taken v → ⊥
        not_waiting z same {v} e = let no : phase.WaitCell old ≡ phase.Taken v = sym waiting ∙ ap (λ (q : Standing). q.thread.phase) (sym same) ∙ e in absurd (cc no)

    no_own : (v : Value) (r : MutRef) → v ≡ value.Mut r → (u : Owned) → v ≡ value.Own u → ⊥
    no_own v r e u f = let no : value.Mut r ≡ value.Own u = sym e ∙ f in absurd (cc no)

    -- the slot at which the thread waits
    module _ (h : SpentHop k me w aw.awaited) where
      abbrev r : MutRef
      r = h.spent.reference

      pub slot : (m : ℕ) × (h.location ≡ at_slot y.number m) × (slice_get y.slots m ≡ Some h.value)
      slot = in_its_slot g y.number me (stands_there k cp me goes) w.slot h.stars h.location h.value h.located h.stands (no_own h.value r h.spent.is)

      abbrev pub m : ℕ
      m = slot.0

      pub there : slice_get y.slots m ≡ Some (value.Mut r)
      there = slot.2 ∙ ap (λ v. Some v) h.spent.is

      located : locate g y.number w.slot h.stars ≡ Some (at_slot y.number m)
      located = h.located ∙ ap (λ l. Some l) slot.1

      pub gets : Gives K (arrived_at (in_slot m) new h1)
      gets =
          slot_gets m r there (ap (value_in g) (sym slot.1) ∙ h.stands ∙ ap (λ v. Some v) h.spent.is) h.spent.dirty (h.spent.object ∙ aw.object) (fresh_at h.stars (at_slot y.number m) h.within located)

      pub found_at : (d : ℕ) → h.stars ≤ d → chased d y.slots w.slot ≡ m
      found_at d le = chased_there g y.number me (stands_there k cp me goes) w.slot h.stars m d r le located there

      pub read_arrives : Gives K (arrived_read w old new h1)
      read_arrives = subst (λ q. Gives K (arrived_slot old new q h1)) (sym (found_at (w.depth - 1) (let l = h.within in omega (arith, l)))) (by (waits_under old (slice_get y.slots m)))
        where
          by : (b : Bool) → Gives K (if b then arrived_at (in_slot m) new h1 else None)
          by true = gets
          by false = tt

  -- READS

  module _ (j : Instr) (code : slice_get k.code y.pc ≡ Some j) (w : Lval) (n : ℕ) where
    reads_path : path_of (Some j) y ≡ reads w → path (sight k) me ≡ reads w
    reads_path e = ap (λ b. path_of b y) code ∙ e

    shares_path : path_of (Some j) y ≡ shares w → path (sight k) me ≡ shares w
    shares_path e = ap (λ b. path_of b y) code ∙ e

    as_read : Reads j w n → path_of (Some j) y ≡ reads w → Gives K (arrived_read w old new h1)
    as_read reads_it e = read_arrives j code w n reads_it (in_read k me aw.awaited aw.comes old w (path (sight k) me) (reads_path e) aw.turn)

    as_share : Reads j w n → path_of (Some j) y ≡ shares w → Gives K (arrived_read w old new h1)
    as_share reads_it e = read_arrives j code w n reads_it (in_borrow k me aw.awaited aw.comes old w (path (sight k) me) (shares_path e) aw.turn)

  -- a copy reads, however deep its place is
  copied : (w : Lval) (d : ℕ) → Gives K (arrived_read w old new h1) → Gives K (arrived (Some (read_or_taken w d false)) old new h1)
  copied w zero q = q
  copied w (suc d) q = q

  for_access : (j : Instr) (w : Lval) (n : ℕ) → slice_get k.code y.pc ≡ Some j → Reads j w n → ((v : Lval) → j ≡ instr.BorrowMut v → ⊥) → Gives K (arrived (access_of j y) old new h1)
  for_access _ w n code (copies e) none = copied w w.depth (as_read (instr.Read w false) code w n (copies e) refl)
  for_access _ w n code (dups e) none = as_read (instr.Dup w) code w n (dups e) refl
  for_access _ w n code (locks e) none = as_read (instr.Lock w) code w n (locks e) refl
  for_access _ w n code (shares_from e) none = as_share (instr.Borrow w) code w n (shares_from e) refl
  for_access _ w n code (lends_from e) none = absurd (none w refl)

  pub arrives : (j : Instr) (w : Lval) (n : ℕ) → slice_get k.code y.pc ≡ Some j → Reads j w n → ((v : Lval) → j ≡ instr.BorrowMut v → ⊥)
      → Gives K (arrived (instr_access (before k coherent few s here t y at i old c message_there) (slice_get k.code y.pc)) old new h1)
  arrives j w n code reads_it none =
      subst (λ o. Gives K (arrived (instr_access (before k coherent few s here t y at i old c message_there) o) old new h1)) (sym code) (for_access j w n code reads_it none)

pub read_arrivals_keep : ReadArrivalsKeep
read_arrivals_keep k number i old t s c y j w m coherent few here message_there at code reads_it none =
    delivered k number i old t s c y coherent few here message_there at (λ h waiting grows. arrives k coherent few s h t y at i old c message_there waiting grows j w m code reads_it none)
