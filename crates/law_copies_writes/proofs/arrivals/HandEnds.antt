-- Objects are settled after one comes to the end of its own reference in the hand, which is the pointer through which it is written.
use Rattle.std.proofs.Common.{◌≡◌, ◌≢◌, inl, inr, ⊎_elim, ℕ, ◌+◌, ◌==◌, true, false, if◌then◌else◌, List, [], ◌∷◌, ◌++◌, length, Option, Some, None, option_map, refl, sym, ap, subst, ◌∙◌}
use Rattle.std.specs.Prelude.{slice_get}
use Rattle.std.proofs.lemmas.Bool.{eq-eqb}
use Rattle.law_words_ends.specs.Below.fr_base.declared.instruction.Instr.TheVariants as instr
use Rattle.law_words_ends.specs.Below.heap_partition.declared.value.Cell.{Cell}
use Rattle.law_words_ends.specs.Below.mut_borrow.declared.mutable.MutRef.{MutRef}
use Rattle.law_words_ends.specs.Below.owner_box.Partition.{new_word}
use Rattle.law_words_ends.specs.Below.thread_state.View.{ThreadState}
use Rattle.law_words_ends.specs.Below.thread_state.declared.phase.Phase.TheVariants as phase
use Rattle.law_words_ends.specs.Below.thread_state.declared.value.Value.{Value}
use Rattle.law_words_ends.specs.Below.thread_state.declared.value.Value.TheVariants as value
use Rattle.law_words_ends.specs.Below.server_msgs.declared.message.Message.TheVariants.{Moved}
use Rattle.law_words_ends.specs.Below.server_model.Servers.{Server, Cluster, server_at}
use Rattle.law_words_ends.specs.Below.server_model.Work.{Hand, last_of, front_of, thread_in, with_phase, with_temps, then_some}
use Rattle.law_words_ends.specs.Below.server_model.NewWords.{can_grow}
use Rattle.law_words_ends.specs.Below.server_model.Places.{on_top, took, with_word, put_at, set_pointer}
use Rattle.law_words_ends.specs.Below.server_model.Prepare.{ending as access_ending}
use Rattle.law_words_ends.specs.Below.server_model.Objects.{arrived_at, arrived_write, arrived_end, arrived, instr_access}
use Rattle.law_words_ends.specs.Below.coherent_memory.Names.{Among}
use Rattle.law_words_ends.specs.Below.coherent_memory.OneHeap.{two_in}
use Rattle.law_words_ends.specs.Below.coherent_memory.Things.{Location, at_slot, at_temp, in_cell, borrows}
use Rattle.law_words_ends.specs.Below.coherent_memory.Follow.{Standing, Ground, temp_of, value_in, leads}
use Rattle.law_words_ends.specs.Below.coherent_memory.Paths.{Path, ends, ending, path_of, Awaited, to_write}
use Rattle.law_words_ends.specs.Below.coherent_memory.Sight.{Pointer, sight, issued}
use Rattle.law_words_ends.specs.Below.coherent_memory.Stale.{holder_of}
use Rattle.law_words_ends.specs.Below.coherent_memory.Turn.{InTurn, by_end, by_holder}
use Rattle.law_words_ends.specs.Below.coherent_memory.Walking.{path}
use Rattle.law_words_ends.specs.Below.coherent_memory.Words.{IsStale}
use Rattle.law_words_ends.specs.Below.coherent_types.ClusterTypes.{IsCoherent}
use Rattle.law_words_ends.specs.Below.law_counts_sums.Laws.{Gives, FewEvents}
use Rattle.law_words_ends.proofs.Below.law_counts_sums.Values.{last_split}
use Rattle.law_words_ends.specs.Below.law_words_paths.paths.HeapStore.{GoesOn, HasPaths}
use Rattle.law_words_ends.specs.Below.law_words_paths.paths.Pointing.{Above, made_from, made_below}
use Rattle.law_words_ends.proofs.Below.law_words_paths.paths.Shown.{stands_there}
use Rattle.law_words_ends.specs.Below.law_words_kept.ends.Ending.{EndsAlone}
use Rattle.law_words_ends.proofs.Below.law_words_kept.ends.Alone.{ended_are_alone}
use Rattle.law_words_ends.proofs.Below.law_words_kept.reads.OwnChains.{OwnObject, comes_own}
use Rattle.law_words_ends.specs.Below.law_words_paths.words.PutBack.{StandsHere}
use Rattle.law_words_ends.specs.Below.law_words_paths.words.Reworded.{LiesThere, Reworded}
use Rattle.law_words_ends.specs.Below.law_words_paths.words.Soles.{IsSole}
use Rattle.law_words_ends.proofs.Below.law_words_paths.words.Only.{are_only}
use Rattle.law_words_ends.proofs.Below.law_words_paths.words.Past.{first_issued}
use Rattle.law_words_ends.proofs.Below.law_words_paths.words.Put.{put_split}
use Rattle.law_words_ends.proofs.Below.law_words_paths.words.Standing.{temp_among, told}
use Rattle.law_words_ends.proofs.Below.law_words_kept.moves.Relaid.{relaid_rewords}
use Rattle.law_words_ends.proofs.Below.law_words_kept.stays.Steps.{TakesNoneHere}
use Rattle.law_words_ends.proofs.Below.law_words_kept.prepared.Hands.{put, places}
use Rattle.law_words_ends.proofs.Below.law_words_asked.writes.Passing.{Fits}
use Rattle.law_words_ends.proofs.Below.law_words_values.carried.Passing.{no_temp}
use Rattle.law_words_ends.specs.Below.law_words_asked.arrivals.Awaited.{Awaits}
use Rattle.law_words_ends.proofs.Below.law_words_asked.arrivals.Arrived.{relays, stands_now}
use Rattle.law_words_ends.proofs.Below.law_words_asked.awaited.Landing.{before, landed, paths, on, awaits, new as unissued, landed_ok, arrival, home, untaken, set_ok}
use Rattle.law_words_ends.specs.Below.fr_base.declared.name.ObjNo.{ObjNo}
use Rattle.law_copies_kept.proofs.hidden.Reworded.{NotAsked}
use Rattle.law_copies_writes.proofs.arrivals.Beyond.{none_wanted}
use Rattle.law_copies_writes.proofs.arrivals.Owners.{is_reading, own_object, unasked_own}
use Rattle.law_copies_writes.proofs.arrivals.Delivery.{words, Kept, its_cell, got, settles_apart}
use Rattle.law_words_ends.proofs.variables.EndHands.{newest_there}
use Rattle.law_words_ends.proofs.variables.Tops.{top_reworded}
use Rattle.law_words_ends.proofs.stars.Placed.{placed_alone}

no_cell_temp : (o : ObjNo) (t m : ℕ) → in_cell o ≡ at_temp t m → ⊥
no_cell_temp o t m e = cc e

same_reference : {q r : MutRef} → ends q ≡ ends r → q ≡ r
same_reference e = cc

some_hand : {a b : Hand} → Some a ≡ Some b → a ≡ b
some_hand e = cc

-- a reference that ends with the word under which its thread waits: its own object comes
its_object : (k : Cluster) (x : Standing) (old : ℕ) (a : Awaited) (r : MutRef) (p : Path) → r.word ≡ old → p ≡ ends r → InTurn (sight k) x old a p → r.object ≡ a.object
its_object k x old a r _ word e (by_end q w m) = of_end m
  where
    of_end : Among a (to_write (Some (value.Mut q))) → r.object ≡ a.object
    of_end (inl f) = ap (λ (z : MutRef). z.object) (sym (same_reference e)) ∙ ap (λ (z : Awaited). z.object) f
    of_end (inr n) = absurd n
its_object k x old a r _ word e (by_holder q other next) = absurd (other (ap (λ (z : MutRef). z.word) (same_reference e) ∙ word))
its_object k x old a r _ word e _ = absurd (cc e)

-- nothing stands above a temporary value
none_above : (g : Ground) (t i : ℕ) (m : Location) → Above g (at_temp t i) m → ⊥
none_above g t i _ (made_from {m = m} r is e) = by m e
  where
    by : (z : Location) → holder_of g z r.holder ≡ Some (at_temp t i) → ⊥
    by (at_slot n j) f = no_temp g n r.holder.slot r.holder.depth t i f
    by (at_temp n j) f = no_temp g n r.holder.slot r.holder.depth t i f
    by (in_cell o) f = absurd (cc f)
none_above g t i _ (made_below {h = h} r is e rest) = none_above g t i h rest

module _ (k : Cluster) (coherent : IsCoherent k) (few : FewEvents k) (s : Server) (here : server_at k.servers s.rest.number ≡ Some s) (t : ℕ) (y : ThreadState) (at : thread_in s.threads t ≡ Some y) (i old : ℕ) (c : Cell) (message_there : slice_get s.rest.inbox i ≡ Some (Moved old c t))
    (waiting : y.phase ≡ phase.WaitCell old) (grows : can_grow s.rest.partition ≡ true) (code : slice_get k.code y.pc ≡ Some instr.Discard) (r : MutRef) (last : last_of y.temps ≡ Some (value.Mut r)) (word : r.word ≡ old) where
  abbrev me : Standing
  me = record { server = s.rest.number; packed = false; thread = y }

  abbrev g : Ground
  g = (sight k).ground

  abbrev cp : HasPaths k
  cp = paths k coherent few s here t y at i old c message_there waiting grows

  abbrev goes : GoesOn k me
  goes = on k coherent few s here t y at i old c message_there waiting grows

  abbrev K : Hand → Type 0
  K = Kept k coherent few s here t y at i old c message_there

  abbrev P : Hand → Cluster
  P = put k coherent s here t y at

  abbrev O : Hand → Type 0
  O = Fits k coherent s here t y at

  abbrev nw : ℕ
  nw = new_word s.rest.partition

  abbrev h1 : Hand
  h1 = landed k coherent few s here t y at i old c message_there

  abbrev aw : Awaits k me old c
  aw = awaits k coherent few s here t y at i old c message_there waiting grows

  abbrev ts : List Value
  ts = front_of y.temps

  abbrev l : Location
  l = at_temp y.number (length ts)

  is : path (sight k) me ≡ ends r
  is = ap (λ b. path_of b y) code ∙ ap ending last

  object : r.object ≡ aw.awaited.object
  object = its_object k me old aw.awaited r (path (sight k) me) word is aw.turn

  same : r.object ≡ c.object
  same = object ∙ aw.object

  -- IT IS THE POINTER THROUGH WHICH ITS OBJECT IS WRITTEN

  stood : value_in g l ≡ Some (value.Mut r)
  stood = ap (λ o. temp_of o (length ts)) (stands_there k cp me goes) ∙ (newest_there y.temps (value.Mut r) last).0

  ea : EndsAlone k r
  ea = ended_are_alone k cp me r goes is

  -- it is the one that types mean
  its_place : ea.at ≡ l
  its_place =
      let p : Pointer = record { at = Some l; word = r.word; object = r.object } in
      ⊎_elim (λ (e : l ≡ ea.at). sym e) (λ (a : Above g l ea.at). absurd (none_above g y.number (length ts) ea.at a)) (ea.alone.above p l (told k l (value.Mut r) p stood (inl refl)) refl refl)

  fresh : IsStale (sight k) (Some l) → ⊥
  fresh = subst (λ z. IsStale (sight k) (Some z) → ⊥) its_place ea.fresh

  own : OwnObject k cp me goes r.object
  own = subst (OwnObject k cp me goes) (sym object) (comes_own k cp me goes old aw.awaited (path (sight k) me) refl aw.turn aw.comes)

  sole_there : IsSole k ea.at r.object
  sole_there = record {
    to = λ q. ap (leads q) ea.stands;
    above = ea.alone.above;
    placed = placed_alone k cp me goes r.object own ea.alone.unshared (ap two_in waiting) (untaken k coherent few s here t y at i old c message_there waiting grows);
    unmade = ea.alone.none_made;
  }

  sole : IsSole k l c.object
  sole = subst (λ z. IsSole k z c.object) its_place (subst (IsSole k ea.at) same sole_there)

  -- IT GETS THE WORD

  parts : y.temps ≡ ts ++ value.Mut r ∷ []
  parts = last_split y.temps (value.Mut r) last

  abbrev h3 : Hand
  h3 = with_temps (ts ++ value.Mut (took r nw) ∷ []) h1

  put_is : (h2 : Hand) → set_pointer on_top nw h1 ≡ Some h2 → h3 ≡ h2
  put_is h2 e = some_hand (subst (λ o. then_some o (λ u. then_some (with_word nw u) (λ v. put_at on_top v h1)) ≡ Some h2) last e)

  -- the word isn't its first one
  not_first : nw ≢ r.first
  not_first e =
      let was = first_issued k coherent.sound.words.are_issued l r (temp_among k y.number (length ts) (value.Mut r) stood (borrows l r) (λ q. inl refl)) in
      let no : true ≡ false = sym was ∙ ap (issued (sight k)) (sym e) ∙ unissued k coherent few s here t y at i old c message_there waiting grows in
      absurd (cc no)

  here_now : StandsHere k s.rest.number s.threads h1
  here_now = stands_now k s i old t (s.events + 1) c h1 (arrival k coherent few s here t y at i old c message_there waiting grows)

  reworded : O h3 → Reworded k (P h3) l c.object nw
  reworded ok =
      let lands = home k coherent few s here t y at i old c message_there waiting grows in
      let lying : LiesThere (P h1) lands.server lands.address r.object = subst (LiesThere (P h1) lands.server lands.address) (sym same) lands.lying in
      relaid_rewords k (P h1) (P h3) l c.object nw (relays k s i old t (s.events + 1) c h1 (arrival k coherent few s here t y at i old c message_there waiting grows))
      (subst (λ o. Reworded (P h1) (P h3) l o nw) same
      (top_reworded (P h1) (P h3) s.rest.number nw y ts r parts (put_split k s.rest.number s.threads (s.events + 1) h1 h3 here_now refl refl) refl
      (places k coherent s here t y at h1 (landed_ok k coherent few s here t y at i old c message_there waiting grows)) (places k coherent s here t y at h3 ok) not_first lands.server lands.address lying
      (λ m a z q f. lands.leads m a z q (f ∙ same))))

  -- nobody has asked for a copy of the object
  wanted : NotAsked k (words k coherent few s here t y at i old c message_there) c.object
  wanted =
      none_wanted k (words k coherent few s here t y at i old c message_there) c.object
      (unasked_own k coherent cp me goes old waiting (path (sight k) me) refl (ap is_reading is) c.object c refl (its_cell k coherent few s here t y at i old c message_there)
      (own_object k coherent cp me goes old waiting c.object (subst (OwnObject k cp me goes) same own)))

  gets : Gives K (arrived_at on_top nw h1)
  gets = by (set_pointer on_top nw h1) refl
    where
      by : (o : Option Hand) → set_pointer on_top nw h1 ≡ o → Gives K (option_map (with_phase phase.Got) o)
      by None e = tt
      by (Some h2) e =
          let f = put_is h2 e in
          let ok : O h2 = set_ok k coherent few s here t y at i old c message_there waiting grows h2 on_top e in
          let none : TakesNoneHere k.code h2.thread = subst (λ (h : Hand). TakesNoneHere k.code h.thread) f (untaken k coherent few s here t y at i old c message_there waiting grows) in
          let changed : Reworded k (P h2) l c.object nw = subst (λ h. Reworded k (P h) l c.object nw) f (reworded (subst O (sym f) ok)) in
          got k coherent few s here t y at i old c message_there waiting grows h2 ok none
          (settles_apart k coherent few s here t y at i old c message_there waiting grows h2 l (λ o. no_cell_temp o y.number (length ts)) ok (are_only.soles k l c.object sole) fresh changed wanted)

  pub arrives : Gives K (arrived (instr_access (before k coherent few s here t y at i old c message_there) (slice_get k.code y.pc)) old nw h1)
  arrives =
      let b = before k coherent few s here t y at i old c message_there in
      let test : (r.word == old) ≡ true = eq-eqb r.word old word in
      subst (λ o. Gives K (arrived (instr_access b o) old nw h1)) (sym code)
      (subst (λ o. Gives K (arrived o old nw h1)) (sym (ap (access_ending on_top) last))
      (subst (λ o. Gives K (arrived_end on_top o old nw h1)) (sym last) (subst (λ q. Gives K (if q then arrived_at on_top nw h1 else arrived_write r.holder nw h1)) (sym test) gets)))
