-- What misfits by the types afterwards, as a weight of what is shown: it is nothing before the event, and so is what the end of a thread and an unlock send.
use Rattle.std.proofs.Common.{◌≡◌, ◌-◌, ℕ, zero, suc, ◌&&◌, not, Bool, true, false, List, [], ◌∷◌, ◌++◌, length, reverse, Option, Some, None, refl, sym, ap, subst, ◌∙◌, arith}
use Rattle.std.specs.Prelude.{slice_get, option_map}
use Rattle.std.proofs.lemmas.List.{reverse-append}
use Rattle.law_types_still.specs.Below.fr_base.Lists.{last_of}
use Rattle.law_types_still.specs.Below.fr_base.declared.name.MutexNo.{MutexNo}
use Rattle.law_types_still.specs.Below.fr_base.declared.instruction.Instr.{Instr}
use Rattle.law_types_still.specs.Below.fr_base.declared.instruction.Instr.TheVariants as instr
use Rattle.law_types_still.specs.Below.fr_base.declared.instruction.Operand.{Operand}
use Rattle.law_types_still.specs.Below.fr_base.declared.instruction.Operand.TheVariants as operand
use Rattle.law_types_events.specs.Below.fr_terms.Terms.{Text}
use Rattle.law_types_still.specs.Below.fr_base.declared.place.Lval.{Lval}
use Rattle.law_types_still.specs.Below.fr_typing.Kinds.{Owned as OwnedType, unit, int, box, mutex, task, same_owned, Kind, own, shared, whole}
use Rattle.law_types_still.specs.Below.fr_typing.Places.{Slot, Env}
use Rattle.law_types_still.specs.Below.fr_typing.Checks.{with_lock}
use Rattle.law_types_events.specs.Below.fr_sound.Seen.{Gives as NamesGive}
use Rattle.law_types_events.specs.Below.fr_sound.Entries.{Entry}
use Rattle.law_types_still.specs.Below.fr_code.CodeTypes.{Table, Takes, InstrTypes, i_unlock}
use Rattle.law_types_still.specs.Below.fr_code.CodeTable.{Leads, to_next, ends, Successors}
use Rattle.law_types_still.specs.Below.law_plain_values.acts.Keeps.{KeepsNames}
use Rattle.law_types_still.specs.Below.heap_partition.Plain.{plain_of}
use Rattle.law_types_still.specs.Below.heap_partition.declared.value.Cell.{Cell}
use Rattle.law_types_still.specs.Below.heap_partition.declared.value.Owned.{Owned}
use Rattle.law_types_still.specs.Below.heap_partition.declared.value.Owned.TheVariants as owned
use Rattle.law_types_still.specs.Below.thread_state.View.{ThreadState, is_over}
use Rattle.law_types_still.specs.Below.thread_state.declared.value.Value.{Value}
use Rattle.law_types_still.specs.Below.thread_state.declared.value.Value.TheVariants as value
use Rattle.law_types_still.specs.Below.server_model.Servers.{Server, Cluster}
use Rattle.law_types_still.specs.Below.server_model.Work.{Hand, Popped, with_slots, with_temps, front_of, then_some, pop_owned, pop_slot, taken_as, owned_of}
use Rattle.law_types_still.specs.Below.server_model.Commit.{held_of}
use Rattle.law_types_still.specs.Below.coherent_memory.Names.{tot, other, if_so, Among}
use Rattle.law_types_still.specs.Below.coherent_memory.Things.{Spot, in_slot, in_temp, as_gift, as_content, as_result, in_hand, Thing, holds, lies, flies, noted, things_of}
use Rattle.law_types_still.specs.Below.coherent_memory.Follow.{Standing}
use Rattle.law_types_still.specs.Below.coherent_memory.Sight.{sight}
use Rattle.law_types_still.specs.Below.coherent_memory.OneHeap.{Node, object_n, mutex_n, same_node, one_heap}
use Rattle.law_types_still.proofs.Below.coherent_memory.Names.{if_none}
use Rattle.law_types_events.specs.Below.coherent_types.Names.{NameTypes, names_of, fits, is_there}
use Rattle.law_types_events.specs.Below.coherent_types.ClusterTypes.{IsCoherent, misfit, has_form, entry_wrong, gives_other, forms_of, locked_of, slots_wrong, temps_wrong, is_mark}
use Rattle.law_types_still.specs.Below.law_words_paths.paths.HeapStore.{HasPaths}
use Rattle.law_types_still.proofs.Below.law_words_paths.paths.Forms.{running_typed, none_of}
use Rattle.law_types_still.proofs.Below.law_words_paths.paths.Shown.{none_else}
use Rattle.law_types_events.proofs.Below.law_types_still.threads.Bare.{bare_owned}
use Rattle.law_types_still.proofs.Below.law_heap_still.events.PlainValues.{unnoted}
use Rattle.law_types_events.proofs.Below.law_heap_writes.drops.Levels.{same_type}
use Rattle.law_types_events.proofs.Below.law_results_reads.Known.{Steps, hand, standing, goes}
use Rattle.law_types_events.proofs.Below.law_results_reads.Operands.{gets, got_owned, newest_of, owned_form, mark_form}
use Rattle.law_types_events.proofs.Below.law_results_reads.Readers.{to_entry}
use Rattle.law_types_still.proofs.Below.law_counts_sums.Values.{last_split}
use Rattle.law_types_still.proofs.fits.Fits.{nothing}
use Rattle.law_types_events.proofs.outside.Walk.{Weighs, weight, f}
use Rattle.law_types_events.proofs.outside.Names.{n2, Named, value_same, none_misfits, slot_named, temp_named, mark_same, own_same}

-- it is that node
abbrev pub is_that : Option Node → Node → Bool
is_that None q = false
is_that (Some p) q = same_node p q

-- TYPES DON'T SEE WORDS

fits_bare : (n : NameTypes) (o : OwnedType) (v : Owned) → fits n o (bare_owned (plain_of v)) ≡ fits n o v
fits_bare n o owned.Nothing = refl
fits_bare n o owned.Unit = refl
fits_bare n o (owned.Int i) = refl
fits_bare n o (owned.Mutex m) = refl
fits_bare n o (owned.Task t) = refl
fits_bare n unit (owned.Box p) = refl
fits_bare n int (owned.Box p) = refl
fits_bare n (box q) (owned.Box p) = refl
fits_bare n (mutex q) (owned.Box p) = refl
fits_bare n (task q) (owned.Box p) = refl

there_bare : (n : NameTypes) (o : OwnedType) (v : Owned) → other (is_there (bare_owned (plain_of v)) && fits n o (bare_owned (plain_of v))) ≡ other (is_there v && fits n o v)
there_bare n o owned.Nothing = refl
there_bare n o owned.Unit = refl
there_bare n o (owned.Int i) = refl
there_bare n o (owned.Mutex m) = refl
there_bare n o (owned.Task t) = refl
there_bare n o (owned.Box p) = ap other (fits_bare n o (owned.Box p))

-- what misfits by these types, but for what the one node is or has
abbrev pub agreeing : NameTypes → Option Node → Weighs
agreeing n special = record {
  content = λ m v. if_so (not (is_that special (mutex_n m))) (misfit n (holds (as_content m) (bare_owned v)));
  result = λ t v. misfit n (holds (as_result t) (bare_owned v));
  object = λ o v. if_so (not (is_that special (object_n o))) (other (fits n (n.object o) (bare_owned v)));
}

-- it weighs what misfits
module _ (n : NameTypes) (special : Option Node) where
  abbrev w : Weighs
  w = agreeing n special

  pub content_weighs : (m : MutexNo) (v : Owned) → f w (holds (as_content m) v) ≡ if_so (not (is_that special (mutex_n m))) (misfit n (holds (as_content m) v))
  content_weighs m v = ap (if_so (not (is_that special (mutex_n m)))) (there_bare n (n.mutex m) v)

  pub result_weighs : (t : ℕ) (v : Owned) → f w (holds (as_result t) v) ≡ misfit n (holds (as_result t) v)
  result_weighs t v = there_bare n (n.result t) v

  pub lying_weighs : (s a : ℕ) (c : Cell) → f w (lies s a c) ≡ if_so (not (is_that special (object_n c.object))) (misfit n (lies s a c))
  lying_weighs s a c = ap (λ q. if_so (not (is_that special (object_n c.object))) (other q)) (fits_bare n (n.object c.object) c.value)

  pub flying_weighs : (u : ℕ) (c : Cell) → f w (flies u c) ≡ if_so (not (is_that special (object_n c.object))) (misfit n (flies u c))
  flying_weighs u c = ap (λ q. if_so (not (is_that special (object_n c.object))) (other q)) (fits_bare n (n.object c.object) c.value)

  -- BEFORE THE EVENT

  held_none : (p : Spot) (v : Owned) → misfit n (holds p v) ≡ 0 → f w (holds p v) ≡ 0
  held_none (as_content m) v z = content_weighs m v ∙ if_none (not (is_that special (mutex_n m))) (misfit n (holds (as_content m) v)) z
  held_none (as_result t) v z = result_weighs t v ∙ z
  held_none (as_gift t) v z = refl
  held_none (in_slot t i) v z = refl
  held_none (in_temp t i) v z = refl
  held_none in_hand v z = refl

  thing_none : (x : Thing) → misfit n x ≡ 0 → f w x ≡ 0
  thing_none (holds p v) z = held_none p v z
  thing_none (lies s a c) z = lying_weighs s a c ∙ if_none (not (is_that special (object_n c.object))) (misfit n (lies s a c)) z
  thing_none (flies u c) z = flying_weighs u c ∙ if_none (not (is_that special (object_n c.object))) (misfit n (flies u c)) z
  thing_none (noted r x) z = sym (unnoted (weight w) refl (λ t d. refl) x.thread x.state)
  thing_none _ z = refl

pub light_before : (k : Cluster) (co : IsCoherent k) (after : NamesGive) (kept : KeepsNames (one_heap k) co.types.typing.gives after) (special : Option Node) → tot (f (agreeing (n2 k co after kept) special)) (things_of k) ≡ 0
light_before k co after kept special = nothing (f (agreeing (n2 k co after kept) special)) (things_of k) (λ x a. thing_none (n2 k co after kept) special x (none_misfits k co after kept x a))

-- ROWS

-- the end of a thread takes a value of the type that the thread gives
end_row : (table : Table) (pc : ℕ) (x : Entry) (o : Operand) (ss : Successors) → Leads table pc x (instr.End o) ss → Takes o x.temps (own x.gives) []
end_row table pc x o _ (to_next to) = elim to [ ]
end_row table pc _ _ _ (ends takes) = takes

-- an unlock has the slots of a lock on top
record IsLocked (x : Entry) : Type 0 where
  below : Env
  place : Lval
  name : Text
  content : OwnedType
  is : x.env ≡ with_lock below place name content

unlock_row : (table : Table) (x y : Entry) → InstrTypes table x instr.Unlock y → IsLocked x
unlock_row table _ _ (i_unlock {e = e} {x = o} {w = w} {name = name} owns) = record { below = e; place = w; name = name; content = o; is = refl }

-- what is there and fits is no misfit
no_misfit : (b : Bool) → b ≡ true → other b ≡ 0
no_misfit true e = refl
no_misfit false e = absurd cc

some_is : {A : Type 0} {a b : A} → Some a ≡ Some b → a ≡ b
some_is e = cc

-- THE TWO SLOTS OF A LOCK

get_front : (xs ys : List Value) (j : ℕ) (v : Value) → slice_get xs j ≡ Some v → slice_get (xs ++ ys) j ≡ Some v
get_front [] ys j v e = absurd cc
get_front (u ∷ xs) ys zero v e = e
get_front (u ∷ xs) ys (suc j) v e = get_front xs ys j v e

-- the mark below the content
mark_at : (vs : List Value) (u : Owned) (q : MutexNo) → last_of vs ≡ Some (value.Own u) → last_of (front_of vs) ≡ Some (value.Held q) → slice_get vs (length (front_of vs) - 1) ≡ Some (value.Held q)
mark_at vs u q last below =
    subst (λ xs. slice_get xs (length (front_of vs) - 1) ≡ Some (value.Held q)) (sym (last_split vs (value.Own u) last)) (get_front (front_of vs) (value.Own u ∷ []) (length (front_of vs) - 1) (value.Held q) below)

turned : (vs : List Value) (v : Value) → last_of vs ≡ Some v → reverse vs ≡ v ∷ reverse (front_of vs)
turned vs v last = ap reverse (last_split vs v last) ∙ reverse-append (front_of vs) (v ∷ [])

-- the slot above the mark has the type of its mutex
content_type : (n : NameTypes) (o : OwnedType) (hidden : Slot) (e : Env) (name : Text) (vs : List Value) (u : Owned) (q : MutexNo) → last_of vs ≡ Some (value.Own u) → last_of (front_of vs) ≡ Some (value.Held q)
    → locked_of n (record { name = Some name; part = whole (own o) } ∷ hidden ∷ e) (reverse vs) ≡ 0 → o ≡ n.mutex q
content_type n o hidden e name vs u q last below z =
    let content : Slot = record { name = Some name; part = whole (own o) } in
    let first : locked_of n (content ∷ hidden ∷ e) (value.Own u ∷ reverse (front_of vs)) ≡ 0 = subst (λ xs. locked_of n (content ∷ hidden ∷ e) xs ≡ 0) (turned vs (value.Own u) last) z in
    let both : locked_of n (content ∷ hidden ∷ e) (value.Own u ∷ value.Held q ∷ reverse (front_of (front_of vs))) ≡ 0 = subst (λ xs. locked_of n (content ∷ hidden ∷ e) (value.Own u ∷ xs) ≡ 0) (turned (front_of vs) (value.Held q) below) first in
    same_type o (n.mutex q) (none_else (same_owned o (n.mutex q)) (omega (arith, both)))

-- the content on top of its mark
record LockSlots (n : NameTypes) (o : OwnedType) (vs : List Value) : Type 0 where
  content : Owned
  mark : MutexNo
  last : last_of vs ≡ Some (value.Own content)
  below : last_of (front_of vs) ≡ Some (value.Held mark)
  form : (is_there content && fits n o content) ≡ true

mark_below : (n : NameTypes) (o : OwnedType) (vs : List Value) (u : Owned) (v : Value) → last_of vs ≡ Some (value.Own u) → (is_there u && fits n o u) ≡ true → last_of (front_of vs) ≡ Some v → is_mark v ≡ true → LockSlots n o vs
mark_below n o vs u v last form below mark = let q = mark_form v mark in record { content = u; mark = q.0; last = last; below = below ∙ ap Some q.1; form = form }

content_above : (n : NameTypes) (o : OwnedType) (vs : List Value) (w v : Value) → last_of vs ≡ Some w → has_form n (whole (own o)) w ≡ true → last_of (front_of vs) ≡ Some v → is_mark v ≡ true → LockSlots n o vs
content_above n o vs w v last form below mark =
    let u = owned_form n o w form in mark_below n o vs u.0 v (last ∙ ap Some u.1) (subst (λ x. has_form n (whole (own o)) x ≡ true) u.1 form) below mark

lock_slots : (n : NameTypes) (o : OwnedType) (hidden : Kind) (e : Env) (name : Text) (vs : List Value) → slots_wrong n (record { name = Some name; part = whole (own o) } ∷ record { name = None; part = whole hidden } ∷ e) (reverse vs) ≡ 0 → LockSlots n o vs
lock_slots n o hidden e name vs z =
    let one = newest_of n (record { name = Some name; part = whole (own o) }) (record { name = None; part = whole hidden } ∷ e) vs z in
    let two = newest_of n (record { name = None; part = whole hidden }) e (front_of vs) one.left in
    content_above n o vs one.item two.item one.last one.form two.last two.form

-- what an unlock takes out of them
came_out : (h : Hand) (u : Owned) (q : MutexNo) (p : Popped Owned) (m : Popped MutexNo) → last_of h.thread.slots ≡ Some (value.Own u) → last_of (front_of h.thread.slots) ≡ Some (value.Held q)
    → then_some (pop_slot h) (taken_as owned_of) ≡ Some p → then_some (pop_slot p.hand) (taken_as held_of) ≡ Some m → (p.item ≡ u) × (m.item ≡ q)
came_out h u q p m last below e e2 =
    let h1 : Hand = with_slots (front_of h.thread.slots) h in
    let h2 : Hand = with_slots (front_of h1.thread.slots) h1 in
    let first : then_some (pop_slot h) (taken_as owned_of) ≡ Some (record { item = u; hand = h1 }) = ap (λ o. then_some (option_map (λ v. record { item = v; hand = h1 }) o) (taken_as owned_of)) last in
    let same : record { item = u; hand = h1 } ≡ p = some_is (sym first ∙ e) in
    let second : then_some (pop_slot h1) (taken_as held_of) ≡ Some (record { item = q; hand = h2 }) = ap (λ o. then_some (option_map (λ v. record { item = v; hand = h2 }) o) (taken_as held_of)) below in
    let same2 : record { item = q; hand = h2 } ≡ m = some_is (sym second ∙ subst (λ (r : Popped Owned). then_some (pop_slot r.hand) (taken_as held_of) ≡ Some m) (sym same) e2) in
    (ap (λ (r : Popped Owned). r.item) (sym same), ap (λ (r : Popped MutexNo). r.item) (sym same2))

module _ (k : Cluster) (n t : ℕ) (s : Server) (y : ThreadState) (i : Instr) (z : Steps k n t s y i) (after : NamesGive) (kept : KeepsNames (one_heap k) z.coherent.types.typing.gives after) (special : Option Node) where
  abbrev co : IsCoherent k
  co = z.coherent

  abbrev x : Standing
  x = standing k n t s y i z

  abbrev there : Among x (sight k).ground.threads
  there = (goes k n t s y i z).among

  -- the types and numbers of its cluster
  abbrev c : HasPaths k
  c = record {
    types = co.types;
    numbers_differ = co.sound.names.numbers_differ;
    names_counted = co.sound.names.names_counted;
    counts_from_one = co.sound.names.counts_from_one;
    over_are_bare = co.sound.rooted.over_are_bare;
    home_of_each = co.sound.one_home.home_of_each;
    owner_of_each = co.sound.one_owner.owner_of_each;
  }

  -- what typing knows before the instruction
  abbrev en : Entry
  en = (running_typed k c x (goes k n t s y i z)).entry

  known : co.types.table y.pc ≡ Some en
  known = (running_typed k c x (goes k n t s y i z)).known

  abbrev before : NameTypes
  before = names_of co.types.object co.types.typing.gives

  typed : (ss : Successors) × Leads co.types.table y.pc en i ss
  typed =
      let row = co.types.is_table.rows y.pc en known in
      let same : row.instruction ≡ i = some_is (sym row.there ∙ z.code) in
      (row.successors, subst (λ j. Leads co.types.table y.pc en j row.successors) same row.leads)

  forms : forms_of before y en ≡ 0
  forms =
      let g = goes k n t s y i z in
      let all = none_of (λ (v : Standing). if_so (not (is_over v.thread.phase)) (entry_wrong (forms_of before v.thread) (co.types.table v.thread.pc))) x (sight k).ground.threads co.types.forms g.among in
      let going : entry_wrong (forms_of before y) (co.types.table y.pc) ≡ 0 = sym (ap (λ b. if_so (not b) (entry_wrong (forms_of before y) (co.types.table y.pc))) g.going) ∙ all in
      sym (ap (entry_wrong (forms_of before y)) known) ∙ going

  slots_fit : slots_wrong before en.env (reverse y.slots) ≡ 0
  slots_fit = omega (arith, forms)

  temps_fit : temps_wrong before en.temps (reverse y.temps) ≡ 0
  temps_fit = omega (arith, forms)

  abbrev then : NameTypes
  then = n2 k co after kept

  abbrev h0 : Hand
  h0 = hand k n t s y i z

  abbrev GivenNames : Owned → Type 0
  GivenNames v = Named k co after kept v

  -- AN END

  -- what an operand takes names what was given
  taken_named : (o : Operand) (p : Popped Owned) → pop_owned o h0 ≡ Some p → GivenNames p.item
  taken_named (operand.Const c) p e = subst GivenNames (ap (λ (q : Popped Owned). q.item) (some_is e)) (record { thread = refl; first_thread = refl; mutex_no = refl; first_mutex = refl })
  taken_named operand.Unit p e = subst GivenNames (ap (λ (q : Popped Owned). q.item) (some_is e)) (record { thread = refl; first_thread = refl; mutex_no = refl; first_mutex = refl })
  taken_named operand.Pop p e = by (last_of y.temps) refl e
    where
      of : (v : Value) → last_of y.temps ≡ Some v → taken_as owned_of (record { item = v; hand = with_temps (front_of y.temps) h0 }) ≡ Some p → GivenNames p.item
      of (value.Own v) q g = subst GivenNames (ap (λ (r : Popped Owned). r.item) (some_is g)) (temp_named k co after kept x there (length y.temps - 1) v q)
      of value.Gone q g = absurd cc
      of (value.SharedSlot j) q g = absurd cc
      of (value.MutSlot j) q g = absurd cc
      of (value.Shared r) q g = absurd cc
      of (value.Mut r) q g = absurd cc
      of (value.Held m) q g = absurd cc

      by : (u : Option Value) → last_of y.temps ≡ u → then_some (option_map (λ v. record { item = v; hand = with_temps (front_of y.temps) h0 }) u) (taken_as owned_of) ≡ Some p → GivenNames p.item
      by None q g = absurd cc
      by (Some v) q g = of v q g

  gives_type : en.gives ≡ before.result y.number
  gives_type =
      let all = none_of (λ (v : Standing). entry_wrong (gives_other before v.thread.number) (co.types.table v.thread.pc)) x (sight k).ground.threads co.types.ends there in
      let mine : entry_wrong (gives_other before y.number) (Some en) ≡ 0 = sym (ap (entry_wrong (gives_other before y.number)) known) ∙ all in
      same_type en.gives (before.result y.number) (none_else (same_owned en.gives (before.result y.number)) mine)

  pub end_light : (o : Operand) → i ≡ instr.End o → (p : Popped Owned) → pop_owned o h0 ≡ Some p → f (agreeing then special) (holds (as_result y.number) p.item) ≡ 0
  end_light o is p e =
      let row = typed in
      let takes = end_row co.types.table y.pc en o row.0 (subst (λ j. Leads co.types.table y.pc en j row.0) is row.1) in
      let got = gets before o en.temps [] (own en.gives) h0 takes temps_fit in
      let ow = got_owned before o h0 en.gives [] got in
      let same : ow.0 ≡ p.item = ap (λ (q : Popped Owned). q.item) (some_is (sym ow.2 ∙ e)) in
      let form : (is_there ow.0 && fits before en.gives ow.0) ≡ true = subst (λ v. has_form before (whole (own en.gives)) v ≡ true) ow.1 got.form in
      let its : (is_there p.item && fits before (before.result y.number) p.item) ≡ true = subst (λ g. (is_there p.item && fits before g p.item) ≡ true) gives_type (subst (λ v. (is_there v && fits before en.gives v) ≡ true) same form) in
      let type : then.result y.number ≡ before.result y.number = own_same k co after kept x there in
      result_weighs then special y.number p.item ∙ ap (λ g. other (is_there p.item && fits then g p.item)) type
      ∙ ap (λ q. other (is_there p.item && q)) (value_same k co after kept p.item (taken_named o p e) (before.result y.number)) ∙ no_misfit (is_there p.item && fits before (before.result y.number) p.item) its

  -- AN UNLOCK

  locked_mine : locked_of before en.env (reverse y.slots) ≡ 0
  locked_mine =
      let g = goes k n t s y i z in
      let all = none_of (λ (v : Standing). if_so (not (is_over v.thread.phase)) (entry_wrong (λ e. locked_of before e.env (reverse v.thread.slots)) (co.types.table v.thread.pc))) x (sight k).ground.threads co.types.locked there in
      let going : entry_wrong (λ e. locked_of before e.env (reverse y.slots)) (co.types.table y.pc) ≡ 0 = sym (ap (λ b. if_so (not b) (entry_wrong (λ e. locked_of before e.env (reverse y.slots)) (co.types.table y.pc))) g.going) ∙ all in
      sym (ap (entry_wrong (λ e. locked_of before e.env (reverse y.slots))) known) ∙ going

  -- the content above a mark, of the type that its mutex had
  content_none : (u : Owned) (q : MutexNo) → last_of y.slots ≡ Some (value.Own u) → last_of (front_of y.slots) ≡ Some (value.Held q) → (is_there u && fits before (before.mutex q) u) ≡ true → f (agreeing then special) (holds (as_content q) u) ≡ 0
  content_none u q last below fit =
      let type : then.mutex q ≡ before.mutex q = mark_same k co after kept x there (length (front_of y.slots) - 1) q (mark_at y.slots u q last below) in
      let named : GivenNames u = slot_named k co after kept x there (length y.slots - 1) u last in
      let none : misfit then (holds (as_content q) u) ≡ 0 =
      ap (λ g. other (is_there u && fits then g u)) type ∙ ap (λ b. other (is_there u && b)) (value_same k co after kept u named (before.mutex q)) ∙ no_misfit (is_there u && fits before (before.mutex q) u) fit in
      content_weighs then special q u ∙ if_none (not (is_that special (mutex_n q))) (misfit then (holds (as_content q) u)) none

  locked_light : (l : IsLocked en) (p : Popped Owned) (m : Popped MutexNo) → then_some (pop_slot h0) (taken_as owned_of) ≡ Some p → then_some (pop_slot p.hand) (taken_as held_of) ≡ Some m → f (agreeing then special) (holds (as_content m.item) p.item) ≡ 0
  locked_light l p m e e2 =
      let hidden = shared (l.place ∷ []) in
      let top = lock_slots before l.content hidden l.below l.name y.slots (subst (λ v. slots_wrong before v (reverse y.slots) ≡ 0) l.is slots_fit) in
      let type = content_type before l.content (record { name = None; part = whole hidden }) l.below l.name y.slots top.content top.mark top.last top.below (subst (λ v. locked_of before v (reverse y.slots) ≡ 0) l.is locked_mine) in
      let out = came_out h0 top.content top.mark p m top.last top.below e e2 in
      let none = content_none top.content top.mark top.last top.below (subst (λ g. (is_there top.content && fits before g top.content) ≡ true) type top.form) in
      subst (λ r. f (agreeing then special) (holds (as_content r) p.item) ≡ 0) (sym out.1) (subst (λ v. f (agreeing then special) (holds (as_content top.mark) v) ≡ 0) (sym out.0) none)

  pub unlock_light : i ≡ instr.Unlock → (p : Popped Owned) (m : Popped MutexNo) → then_some (pop_slot h0) (taken_as owned_of) ≡ Some p → then_some (pop_slot p.hand) (taken_as held_of) ≡ Some m → f (agreeing then special) (holds (as_content m.item) p.item) ≡ 0
  unlock_light is p m e e2 =
      let to = to_entry co.types.table y.pc en i typed.0 typed.1 (λ o q. (let no : instr.Unlock ≡ instr.End o = sym is ∙ q in cc)) in
      locked_light (unlock_row co.types.table en to.0 (subst (λ j. InstrTypes co.types.table en j to.0) is to.1)) p m e e2
