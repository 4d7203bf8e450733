-- A new object in the one heap: its thread goes on with a box of it, and the value of the box is its own.
use Rattle.std.proofs.Common.{◌≡◌, ◌≢◌, ℕ, ◌+◌, ◌≤◌, ◌==◌, ◌&&◌, not, Bool, true, false, List, [], ◌∷◌, ◌++◌, Option, Some, None, is_some, option_map, refl, sym, ap, ap₂, ◌∙◌, subst, arith}
use Rattle.std.specs.Prelude.{slice_get, if◌then◌else◌}
use Rattle.std.specs.List.{AllByRecursion}
use Rattle.law_heap_steps.proofs.Below.fr_typing.PlaceLemmas.{eq_cases}
use Rattle.law_heap_steps.proofs.Below.fr_store.Keys.{object_cases}
use Rattle.law_heap_steps.specs.Below.fr_base.declared.name.MutexNo.{MutexNo}
use Rattle.law_heap_steps.specs.Below.fr_base.declared.name.ObjNo.{ObjNo}
use Rattle.law_heap_steps.specs.Below.fr_base.declared.label.Plain.{Plain}
use Rattle.law_heap_steps.specs.Below.fr_base.declared.instruction.Operand.{Operand}
use Rattle.law_heap_steps.specs.Below.fr_base.declared.instruction.Instr.{Instr}
use Rattle.law_heap_steps.specs.Below.fr_base.declared.instruction.Instr.TheVariants as instr
use Rattle.law_heap_steps.specs.Below.heap_partition.Plain.{plain_of}
use Rattle.law_heap_steps.specs.Below.heap_partition.declared.value.Cell.{Cell}
use Rattle.law_heap_steps.specs.Below.heap_partition.declared.value.Owned.{Owned}
use Rattle.law_heap_steps.specs.Below.heap_partition.declared.value.Owned.TheVariants as owned
use Rattle.law_heap_steps.specs.Below.owner_box.View.{PartitionState}
use Rattle.law_heap_steps.specs.Below.thread_state.View.{ThreadState, is_over}
use Rattle.law_heap_steps.specs.Below.thread_state.declared.value.Value.{Value}
use Rattle.law_heap_steps.specs.Below.thread_state.declared.value.Value.TheVariants as value
use Rattle.law_heap_steps.specs.Below.server_model.declared.event.Event.{Event}
use Rattle.law_heap_steps.specs.Below.server_model.Servers.{Server, Cluster}
use Rattle.law_heap_steps.specs.Below.coherent_memory.Names.{tot, one, if_so, same_object}
use Rattle.law_heap_steps.specs.Below.coherent_memory.Things.{Location, at_slot, at_temp, in_cell, in_slot, in_temp, as_gift, as_content, as_result, in_hand, Thing, holds, lies, flies, gift_things, things_of}
use Rattle.law_heap_steps.specs.Below.coherent_memory.Follow.{Standing, threads_in, thread_at, cells_in, cell_of, value_of, locate}
use Rattle.law_heap_steps.specs.Below.coherent_memory.Sight.{Sight, sight}
use Rattle.law_heap_steps.specs.Below.coherent_memory.Paths.{joined_thread}
use Rattle.law_heap_steps.specs.Below.coherent_memory.Walking.{instr_of}
use Rattle.law_heap_steps.specs.Below.coherent_memory.Requests.{locked_mutex}
use Rattle.law_heap_steps.specs.Below.coherent_memory.Weights.{cells}
use Rattle.law_heap_steps.specs.Below.coherent_memory.Naming.{started_at, made_at}
use Rattle.law_heap_steps.specs.Below.coherent_memory.OneHeap.{Node, object_n, mutex_n, task_n, inside, content_owner, result_owner, gift_owner, gift_owner_of, owner_of, owns, named_in, any_named, is_in_state, if_in, cell_value, or_else, first_shown, object_value, content_value, share_in, in_pair_of, result_value, is_given_mutex, running_at, state_of}
use Rattle.law_heap_still.specs.Below.coherent_types.ClusterTypes.{IsCoherent}
use Rattle.law_heap_steps.proofs.Below.law_counts_sums.Bags.{counts_of}
use Rattle.law_heap_steps.proofs.Below.law_counts_sums.Boxes.{goes_as, all_new}
use Rattle.law_heap_steps.proofs.Below.law_counts_sums.GiftsTaken.{gift_fits}
use Rattle.law_heap_steps.proofs.Below.law_counts_sums.Sound.{sound_has_sums}
use Rattle.law_heap_steps.proofs.Below.law_heap_still.events.Alike.{Once, SeenAt, LocksSeeIn}
use Rattle.law_heap_steps.proofs.Below.law_heap_still.events.PlainValues.{shown_of}
use Rattle.law_heap_steps.specs.Below.law_heap_still.events.Shows.{ShownThread}
use Rattle.law_heap_steps.proofs.Below.law_heap_still.events.Told.{told, ones}
use Rattle.law_heap_still.proofs.undone.Locks.{locks_pass}
use Rattle.law_heap_still.proofs.Below.law_words_paths.paths.Alike.{coherent_has_paths}
use Rattle.law_heap_steps.proofs.turns.Parts.{Own, owned_in}
use Rattle.law_heap_steps.proofs.turns.OneTurn.{of_thread, Calm, after}
use Rattle.law_heap_steps.proofs.turns.Instructions.{Pops, owned_push}
use Rattle.law_heap_steps.proofs.turns.Events.{AtStep}
use Rattle.law_heap_steps.proofs.mutexes.Reach.{NoneUnder, or_right}
use Rattle.law_heap_steps.proofs.mutexes.Beside.{IsBeside, IsLoose, loose_beside, all_so, so_one, first_of, tot_of, cells_of}
use Rattle.law_heap_steps.proofs.mutexes.OneThread as one_thread
use Rattle.law_heap_steps.proofs.mutexes.OneThread.{GoesOn, next}
use Rattle.law_heap_steps.proofs.mutexes.OneNode as one_node
use Rattle.law_heap_steps.proofs.mutexes.OneNode.{is_one}
use Rattle.law_heap_steps.proofs.mutexes.Changed as changed
use Rattle.law_heap_steps.proofs.mutexes.Gifted.{or_false}
use Rattle.law_heap_steps.proofs.mutexes.NewMutex.{rest_less}
use Rattle.law_heap_steps.proofs.mutexes.ThreadTurns.{G, R, before, then_there, quiet, loose}

-- SMALL FACTS

itself : (n : ℕ) → (n == n) ≡ true
itself n = eq_cases (λ b. b ≡ true) n n (λ _. refl) (λ ne. absurd (ne refl))

pub itself_there : (o : ObjNo) → same_object o o ≡ true
itself_there o = object_cases (λ b. b ≡ true) o o (λ _. refl) (λ ne. absurd (ne refl))

-- where no cell is the object's, none shows it
cell_shows : (o : ObjNo) (th : Thing) → told ones (cell_value o th) ≤ cells o th
cell_shows o (lies r a c) = object_cases (λ b. told ones (if_in b (Some (plain_of c.value))) ≤ one b) c.object o (λ _. omega arith) (λ _. omega arith)
cell_shows o (flies w c) = object_cases (λ b. told ones (if_in b (Some (plain_of c.value))) ≤ one b) c.object o (λ _. omega arith) (λ _. omega arith)
cell_shows o _ = omega arith

none_told : (o : ObjNo) (xs : List Thing) → tot (cells o) xs ≡ 0 → tot (λ th. told ones (cell_value o th)) xs ≡ 0
none_told o [] z = refl
none_told o (th ∷ xs) z = omega (arith, z, cell_shows o th, none_told o xs (omega (arith, z)))

none_first : (o : ObjNo) (xs : List Thing) → tot (cells o) xs ≡ 0 → first_shown (cell_value o) xs ≡ None
none_first o [] z = refl
none_first o (th ∷ xs) z = ap₂ or_else (by (cell_value o th) (omega (arith, z, cell_shows o th))) (none_first o xs (omega (arith, z)))
  where
    by : (p : Option Plain) → told ones p ≡ 0 → p ≡ None
    by None e = refl
    by (Some v) e = absurd (cc e)

-- no gift is owned by an object
no_object_gift : (r : Sight) (o : ObjNo) (z : Option Standing) → gift_owner_of r z ≡ inside (object_n o) → ⊥
no_object_gift r o None e = cc e
no_object_gift r o (Some z) e = by (instr_of r z) e
  where
    content : (m : Option MutexNo) → content_owner m ≡ inside (object_n o) → ⊥
    content None d = cc d
    content (Some m) d = cc d

    result : (u : Option ℕ) → result_owner u ≡ inside (object_n o) → ⊥
    result None d = cc d
    result (Some u) d = cc d

    by : (i : Option Instr) → gift_owner r z i ≡ inside (object_n o) → ⊥
    by (Some (instr.Lock w)) d = content (locked_mutex r z (Some (instr.Lock w))) d
    by (Some (instr.Join w)) d = result (joined_thread (Some (instr.Join w)) z.thread) d
    by _ d = cc d

-- where no cell is the object's, nothing is owned by it
owns_none : (r : Sight) (o : ObjNo) (th : Thing) → cells o th ≡ 0 → owner_of r th ≡ inside (object_n o) → ⊥
owns_none r o (lies a b c) z e = let same : c.object ≡ o = cc in absurd (omega (arith, z, ap one (ap (λ p. same_object p o) same ∙ itself_there o)))
owns_none r o (flies w c) z e = let same : c.object ≡ o = cc in absurd (omega (arith, z, ap one (ap (λ p. same_object p o) same ∙ itself_there o)))
owns_none r o (holds (as_gift u) v) z e = no_object_gift r o (thread_at r.ground.threads u) e
owns_none r o (holds (as_content m) v) z e = cc e
owns_none r o (holds (as_result u) v) z e = cc e
owns_none r o (holds (in_slot u j) v) z e = cc e
owns_none r o (holds (in_temp u j) v) z e = cc e
owns_none r o (holds in_hand v) z e = cc e
owns_none r o _ z e = cc e

none_under : (r : Sight) (o : ObjNo) (extra : Node → Bool) → ((q : Node) → extra q ≡ true → q ≡ object_n o) → (xs : List Thing) → tot (cells o) xs ≡ 0 → NoneUnder r extra xs
none_under r o extra only [] z = tt
none_under r o extra only (th ∷ xs) z = ((λ q d e. owns_none r o th (omega (arith, z)) (e ∙ ap inside (only q d))), none_under r o extra only xs (omega (arith, z)))

module _ (k : Cluster) (co : IsCoherent k) (e : Event) (o : Operand) (s : Server) (t : ℕ) (x : ThreadState) (at : AtStep k e (instr.Box o) s t x) where
  abbrev i : Instr
  i = instr.Box o

  abbrev n : ℕ
  n = s.rest.number

  -- the name of the new object
  abbrev pub O : ObjNo
  O = record { thread = x.number; count = x.made }

  abbrev pub G1 : List Thing
  G1 = G k co.sound e i refl s t x at

  abbrev pub Others : List Thing
  Others = R k co.sound e i refl s t x at

  abbrev pub s1 : Sight
  s1 = before k co.sound e i refl s t x at

  pub calm : Calm x.phase
  calm = quiet k co.sound e i refl s t x at

  pub bare : x.gift ≡ None
  bare = (gift_fits k co.sound e.server s at.here t x at.at i at.code).0

  alone : {A : Type 0} (f : List Thing → A) → f G1 ≡ f (counts_of n s.events s.rest ∷ [])
  alone f = ap (λ g. f (gift_things x.number g ++ counts_of n s.events s.rest ∷ [])) bare

  abbrev loose1 : AllByRecursion IsLoose G1
  loose1 = loose k co.sound e i refl s t x at

  abbrev beside1 : AllByRecursion IsBeside G1
  beside1 = all_so IsLoose IsBeside loose_beside G1 loose1

  lone1 : tot (of_thread x.number) Others ≡ 0
  lone1 = changed.lone k co.sound e s at.here t x at.at at.number

  once1 : Once s1
  once1 = changed.once_before k co.sound e s at.here t x at.at at.number

  -- IT IS NEW

  no_cells : tot (cells O) (things_of k) ≡ 0
  no_cells = all_new (sight k) refl (sound_has_sums k co.sound) co.sound.names.objects_made x.number x.made there
    where
      there : 1 ≤ tot (goes_as x.number x.made) (things_of k)
      there =
          let flat : Own (λ v. goes_as x.number x.made v ≡ 0) = record { slots = λ u j v. refl; temps = λ u j v. refl; shared = λ l r. refl; lent = λ l r. refl; marks = λ l r. refl; used = λ u w. refl } in
          let mine : one ((x.number == x.number) && ((x.made == x.made) && not (is_over x.phase))) ≡ 1 = ap₂ (λ p q. one (p && q)) (itself x.number) (ap₂ (λ p q. p && not q) (itself x.made) calm.goes) in
          omega (arith, mine, changed.same_things k co.sound e s at.here t x at.at at.number (goes_as x.number x.made), tot_of n x G1 Others (goes_as x.number x.made) flat)

  no_others : tot (cells O) Others ≡ 0
  no_others = omega (arith, no_cells, rest_less k co.sound e s at.here t x at.at at.number (cells O))

  out : object_value (sight k) O ≡ None
  out = ap (if_in (is_in_state (sight k) (object_n O))) (none_first O (things_of k) no_cells) ∙ by (is_in_state (sight k) (object_n O))
    where
      by : (b : Bool) → if_in b None ≡ None
      by true = refl
      by false = refl

  -- no place of a lock passes it
  abbrev seen : ObjNo → Bool
  seen q = not (same_object q O)

  paths : LocksSeeIn seen s1
  paths u w p found f m l = by (thread_at (threads_in (things_of k)) u) refl (changed.threads_before k co.sound e s at.here t x at.at at.number u ∙ ap (option_map shown_of) found)
    where
      of : (q : Option Location) → SeenAt (λ z. is_some (object_value (sight k) z)) q → SeenAt seen q
      of None g = tt
      of (Some (at_slot a b)) g = tt
      of (Some (at_temp a b)) g = tt
      of (Some (in_cell z)) g = object_cases (λ b. not b ≡ true) z O (λ d. absurd (cc (sym g ∙ ap (λ a. is_some (object_value (sight k) a)) d ∙ ap is_some out))) (λ _. refl)

      by : (z : Option Standing) → thread_at (threads_in (things_of k)) u ≡ z → option_map shown_of z ≡ Some (shown_of w) → SeenAt seen (locate s1.ground w.thread.number p.slot m)
      by None q d = absurd (cc d)
      by (Some z) q d =
          let same : shown_of z ≡ shown_of w = cc in
          let number : z.thread.number ≡ w.thread.number = ap (λ (a : ShownThread). a.number) same in
          let code : instr_of (sight k) z ≡ Some (instr.Lock p) = ap (λ (a : ShownThread). slice_get k.code a.pc) same ∙ f in
          let it : SeenAt seen (locate (sight k).ground z.thread.number p.slot m) = of (locate (sight k).ground z.thread.number p.slot m) (locks_pass k (coherent_has_paths k co) u z p q code m l) in
          subst (λ a. SeenAt seen a) (ap (λ a. locate (sight k).ground a p.slot m) number ∙ changed.places_before k co.sound e s at.here t x at.at at.number w.thread.number p.slot m) it

  -- THE TURN

  module _ (v : Owned) (rest : List Value) (pops : Pops o x.temps (value.Own v) rest) (word address : ℕ) (partition : PartitionState) where
    abbrev box : Owned
    box = owned.Box (record { word = word; object = O })

    abbrev pub temps : List Value
    temps = rest ++ value.Own box ∷ []

    abbrev pub became : ThreadState
    became = record (after x (x.pc + 1) x.slots temps) { made = x.made + 1 }

    abbrev y : ThreadState
    y = next x became

    abbrev cell : Cell
    cell = record { object = O; value = v }

    abbrev pub counts_then : Thing
    counts_then = counts_of n 0 (record s.rest { partition = partition })

    abbrev pub G2 : List Thing
    G2 = counts_then ∷ lies n address cell ∷ []

    abbrev pub s2 : Sight
    s2 = then_there k co.sound e i refl s t x at became G2

    abbrev In : Node → Bool
    In = is_in_state s1

    abbrev In2 : Node → Bool
    In2 = is_in_state s2

    calm2 : Calm became.phase
    calm2 = record { alone = refl; goes = refl }

    cells_alike : (q : ObjNo) → seen q ≡ true → value_of (cell_of (cells_in s1.things) q) ≡ value_of (cell_of (cells_in s2.things) q)
    cells_alike q f =
        let before_it : cells_in s1.things ≡ cells_in Others = cells_of n x G1 Others loose1 in
        let then_it : cells_in s2.things ≡ cell ∷ cells_in Others = ap (λ l. cell ∷ l) (cells_of n y (counts_then ∷ []) Others (tt, tt)) in
        ap (λ l. value_of (cell_of l q)) before_it ∙ object_cases (λ b. value_of (cell_of (cells_in Others) q) ≡ value_of (if b then Some cell else cell_of (cells_in Others) q)) O q (λ d. absurd (cc (sym f ∙ ap (λ a. not (same_object a O)) (sym d) ∙ ap not (itself_there O)))) (λ _. refl)
        ∙ sym (ap (λ l. value_of (cell_of l q)) then_it)

    locks : one_thread.LocksStay k Others G1 G2 n x became
    locks = one_thread.locks_lead k Others G1 G2 n x became beside1 (tt, (tt, tt)) lone1 seen cells_alike paths

    -- WHO IS IN THE STATE

    abbrev extra : Node → Bool
    extra q = owns q box

    only : (q : Node) → extra q ≡ true → q ≡ object_n O
    only (object_n u) f = object_cases (λ b. b ≡ true → object_n u ≡ object_n O) O u (λ d _. ap (λ a. object_n a) (sym d)) (λ _ g. absurd (cc g)) f
    only (mutex_n u) f = absurd (cc f)
    only (task_n u) f = absurd (cc f)

    none : NoneUnder s1 extra Others
    none = none_under s1 O extra only Others no_others

    owned_then : (q : Node) → owned_in q temps ≡ owned_in q rest + one (owns q box)
    owned_then q = owned_push q rest (value.Own box)

    has_new : (q : Node) → 1 ≤ one (extra q) → In2 q ≡ true
    has_new q l = one_node.has2 k Others G1 G2 n x became q (omega (arith, l, owned_then q))

    it_is_in : In2 (object_n O) ≡ true
    it_is_in = has_new (object_n O) (omega (arith, ap one (itself_there O)))

    same_in : (q : Node) → extra q ≡ false → In q ≡ In2 q
    same_in =
        one_node.in_same k Others G1 G2 n x became beside1 (tt, (tt, tt)) lone1 locks (object_n O) None (Some v) (λ q. one (extra q)) (λ q. 0) (λ q. omega (arith, pops.owned q, owned_then q)) (λ f q. alone (any_named s1 f q)) (λ f q. or_false (named_in (owns q v) f (inside (object_n O))))
        (λ z. absurd (cc z)) (λ z. it_is_in) extra (λ q l. or_right (In q) (extra q) (is_one (extra q) l)) (λ q l. absurd (omega (arith, l))) (λ q f. has_new q (omega (arith, ap one f))) none

    -- THE STATE

    pub thread_on : GoesOn x.number (running_at x) (running_at y) (state_of s1) (state_of s2)
    thread_on =
        one_thread.goes_on k Others G1 G2 n x became beside1 (tt, (tt, tt)) lone1 locks extra none same_in (λ r. alone (tot (in_pair_of r))) (λ u. refl) (λ r. alone (first_shown (result_value s1 r))) calm calm2 (λ h c. alone (tot (started_at h c)) ∙ omega arith)
        (changed.given k co.sound e s at.here t x at.at at.number)

    pub made_before : (state_of s1).made x.number ≡ x.made
    made_before = one_thread.made_before k Others G1 G2 n x became beside1 (tt, (tt, tt)) lone1 locks calm.goes refl

    pub made_then : (state_of s2).made x.number ≡ x.made + 1
    made_then = one_thread.made_then k Others G1 G2 n x became beside1 (tt, (tt, tt)) lone1 locks calm.goes refl

    pub made_others : (u : ℕ) → x.number ≢ u → (state_of s1).made u ≡ (state_of s2).made u
    made_others = one_thread.made_others k Others G1 G2 n x became beside1 (tt, (tt, tt)) lone1 locks calm.goes refl

    pub others_on : (q : ObjNo) → q ≢ O → object_value s1 q ≡ object_value s2 q
    others_on q ne =
        let off : same_object O q ≡ false = object_cases (λ b. b ≡ false) O q (λ d. absurd (ne (sym d))) (λ _. refl) in
        one_thread.object_same k Others G1 G2 n x became beside1 (tt, (tt, tt)) lone1 locks extra none same_in q off (alone (first_shown (cell_value q)) ∙ sym (ap (λ b. or_else (if_in b (Some (plain_of v))) None) off))

    pub it_then : object_value s2 O ≡ Some (plain_of v)
    it_then =
        let flat : Own (λ a. cell_value O a ≡ None) = record { slots = λ u j a. refl; temps = λ u j a. refl; shared = λ l r. refl; lent = λ l r. refl; marks = λ l m. refl; used = λ u w. refl } in
        ap₂ if_in it_is_in (first_of n y G2 Others (cell_value O) flat refl ∙ ap (λ b. or_else (or_else (if_in b (Some (plain_of v))) None) (first_shown (cell_value O) Others)) (itself_there O))

    pub mutexes_on : (m : MutexNo) → (state_of s1).mutex m ≡ (state_of s2).mutex m
    mutexes_on m =
        let here_none : tot (share_in s1 m) G1 ≡ 0 = alone (tot (share_in s1 m)) in
        let there : if_so (owns (mutex_n m) v) (one (In2 (object_n O))) ≡ one (owns (mutex_n m) v) = ap (λ b. if_so (owns (mutex_n m) v) (one b)) it_is_in ∙ so_one (owns (mutex_n m) v) in
        one_thread.mutex_same k Others G1 G2 n x became beside1 (tt, (tt, tt)) lone1 locks extra none same_in m refl (alone (first_shown (content_value s1 m))) (omega (arith, here_none, there, pops.owned (mutex_n m), owned_then (mutex_n m)))

    pub names_on : (m : MutexNo) → is_given_mutex s1 m ≡ is_given_mutex s2 m
    names_on = one_thread.mutex_given k Others G1 G2 n x became beside1 (tt, (tt, tt)) lone1 locks (λ h c. alone (tot (made_at h c)) ∙ omega arith)

    pub once_then : Once s2
    once_then = one_thread.once_on k Others G1 G2 n x became beside1 (tt, (tt, tt)) lone1 locks calm (λ r. refl) refl once1 few contents (λ r. omega arith)
      where
        few : (q : ObjNo) → tot (λ a. told ones (cell_value q a)) G2 + tot (λ a. told ones (cell_value q a)) Others ≤ 1
        few q =
            let flat : Own (λ a. told ones (cell_value q a) ≡ 0) = record { slots = λ u j a. refl; temps = λ u j a. refl; shared = λ l r. refl; lent = λ l r. refl; marks = λ l m. refl; used = λ u w. refl } in
            object_cases (λ b. (0 + (told ones (if_in b (Some (plain_of v))) + 0)) + tot (λ a. told ones (cell_value q a)) Others ≤ 1) O q
            (λ d. let none_left : tot (λ a. told ones (cell_value q a)) Others ≡ 0 = none_told q Others (subst (λ z. tot (cells z) Others ≡ 0) d no_others) in omega (arith, none_left))
            (λ _. omega (arith, once1.cells q, tot_of n x G1 Others (λ a. told ones (cell_value q a)) flat))

        contents : (m : MutexNo) → tot (λ a. told ones (content_value s2 m a)) G2 + tot (λ a. told ones (content_value s1 m a)) Others ≤ 1
        contents m =
            let flat : Own (λ a. told ones (content_value s1 m a) ≡ 0) = record { slots = λ u j a. refl; temps = λ u j a. refl; shared = λ l r. refl; lent = λ l r. refl; marks = λ l w. refl; used = λ u w. refl } in
            omega (arith, once1.contents m, tot_of n x G1 Others (λ a. told ones (content_value s1 m a)) flat)
