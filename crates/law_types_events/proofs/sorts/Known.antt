-- What a coherent cluster tells of a thread that steps: its slots and the value on top suit its entry, what is copied suits its type, and what is moved through boxes is owned.
use Rattle.std.proofs.Common.{◌≡◌, ◌≢◌, ℕ, zero, suc, ◌+◌, ◌<◌, not, ◌||◌, Bool, true, false, if◌then◌else◌, List, [], ◌∷◌, reverse, length, Option, Some, None, is_some, refl, sym, ap, subst, ◌∙◌, arith}
use Rattle.std.specs.Prelude.{slice_get}
use Rattle.std.proofs.lemmas.List.{length-reverse}
use Rattle.law_types_still.specs.Below.fr_base.Lists.{last_of}
use Rattle.law_types_still.specs.Below.fr_base.declared.name.ObjNo.{ObjNo}
use Rattle.law_types_still.specs.Below.fr_base.declared.place.Lval.{Lval}
use Rattle.law_types_still.specs.Below.fr_base.declared.instruction.Instr.{Instr}
use Rattle.law_types_still.specs.Below.fr_base.declared.instruction.Instr.TheVariants as instr
use Rattle.law_types_still.specs.Below.fr_typing.Kinds.{Owned as OwnedType, Kind, own, shared, mutable, view, Piece, whole, gone, boxed, copies}
use Rattle.law_types_still.specs.Below.fr_typing.Places.{Slot, Env, Found, found, undefined, no_target, then_found, star, type_at, alike, on_path, is_lent, is_mutable, is_own_path, IsNested}
use Rattle.law_types_still.proofs.Below.fr_typing.PlaceLemmas.{eq_cases, type_at-star}
use Rattle.law_types_still.specs.Below.fr_store.Keys.{slot_k}
use Rattle.law_types_still.specs.Below.fr_store.Store.{at_key, Store, below_key, Place as StorePlace}
use Rattle.law_types_still.specs.Below.fr_store.Typed.{Exact, owns, refers, KeyTypes, exact_under}
use Rattle.law_types_still.specs.Below.fr_store.Below.{ExactOf}
use Rattle.law_types_still.proofs.Below.fr_store.Chains.{unique}
use Rattle.law_types_still.proofs.Below.fr_store.Rows.{found_place}
use Rattle.law_types_still.proofs.Below.fr_store.Sound.{res_part}
use Rattle.law_types_still.specs.Below.fr_sound.States.{env_at, owned_kind, IsThread, hand_key, hand_kind}
use Rattle.law_types_still.specs.Below.fr_code.CodeTypes.{Entry, HasType, is_variable, InstrTypes, i_copy}
use Rattle.law_types_events.proofs.Below.law_plain_values.acts.Envs.{part_type}
use Rattle.law_types_still.specs.Below.heap_partition.declared.value.Cell.{Cell}
use Rattle.law_types_still.specs.Below.mut_borrow.declared.shared.SharedRef.{SharedRef}
use Rattle.law_types_still.specs.Below.thread_state.View.{ThreadState, is_over}
use Rattle.law_types_still.specs.Below.thread_state.declared.value.Value.{Value}
use Rattle.law_types_still.specs.Below.thread_state.declared.value.Value.TheVariants as value
use Rattle.law_types_still.specs.Below.server_model.Servers.{Server, Cluster}
use Rattle.law_types_still.specs.Below.server_model.Work.{Hand}
use Rattle.law_types_still.specs.Below.server_model.Places.{Spot, in_slot, value_at, second_of, value_in as value_in_cell}
use Rattle.law_types_still.specs.Below.server_model.Prepare.{ready, ReadTo, read_or_taken, access_of, prepare, read_stars}
use Rattle.law_types_still.specs.Below.coherent_memory.Names.{if_so}
use Rattle.law_types_still.specs.Below.coherent_memory.Things.{Location, at_slot}
use Rattle.law_types_still.specs.Below.coherent_memory.Follow.{Standing, locate}
use Rattle.law_types_still.specs.Below.coherent_memory.Sight.{sight}
use Rattle.law_types_still.specs.Below.coherent_types.Names.{NameTypes, names_of, fits}
use Rattle.law_types_still.specs.Below.coherent_types.ClusterTypes.{IsCoherent, is_mark, slot_form, slots_wrong, temps_wrong, entry_wrong, forms_of}
use Rattle.law_types_events.specs.Below.law_words_paths.paths.HeapStore.{HasPaths, heap_store, store_place, GoesOn}
use Rattle.law_types_events.proofs.Below.law_words_paths.paths.Alike.{leads_in_heap, leads_in_cluster}
use Rattle.law_types_events.proofs.Below.law_words_paths.paths.Forms.{running_typed, none_of, slot_part, slots_below, names as names_at}
use Rattle.law_types_events.proofs.Below.law_words_paths.paths.Sole.{some_is}
use Rattle.law_types_still.proofs.Below.law_heap_still.events.Readied.{Readied}
use Rattle.law_types_events.proofs.Below.law_types_still.heap.Forms.{exact_at}
use Rattle.law_types_events.proofs.Below.law_results_reads.Known.{Steps, hand, standing, paths, goes, types, entry, typed}
use Rattle.law_types_events.proofs.Below.law_results_reads.Followed.{Place}
use Rattle.law_types_events.proofs.Below.law_results_reads.Starred.{At, a_slot, a_cell, a_copy, Fine}
use Rattle.law_types_events.proofs.Below.law_results_reads.Readers.{IsReadable, readable_place, stars_fine, never_taken, to_entry}
use Rattle.law_types_events.proofs.sorts.Parts.{seen_view, seen_look, a_nothing, another, look_of, suits, suits_named, suits_slot, suits_at, slot_other, IsOwned, star_owned}
use Rattle.law_types_events.proofs.sorts.Suited.{unsuited_of, none_from, from_other, top_suits, Suited, Topped, alike_at, alike_suited, alike_topped, alike_last, alike_length}
use Rattle.law_types_events.proofs.sorts.Drops.{ready_slots, ready_temps}
use Rattle.law_types_events.proofs.sorts.Commits.{Before, Told, copy_suits}
use Rattle.law_types_events.proofs.sorts.Forms.{form_there, slots_length, top_form}

-- PATHS OVER BOXES

or_second : (a b : Bool) → a || b ≡ false → b ≡ false
or_second false b e = e
or_second true b e = absurd cc

or_first : (a b : Bool) → a || b ≡ false → a ≡ false
or_first false b e = refl
or_first true b e = absurd cc

not_true : (b : Bool) → not b ≡ true → b ≡ false
not_true false e = refl
not_true true e = absurd cc

abbrev is_reference_there : Found → Bool
is_reference_there f = is_lent f || is_mutable f

-- the first star of a variable that is no reference leads to an owned part
first_owned : (same : _) (go : Lval → Found) (p q : Piece) → is_reference_there (found p) ≡ false → suits p another ≡ true → star same go p ≡ found q → IsOwned q
first_owned same go (whole (own o)) q free fits e = star_owned same go (whole (own o)) q refl e
first_owned same go (whole (shared us)) q free fits e = absurd cc
first_owned same go (whole (mutable us)) q free fits e = absurd cc
first_owned same go (whole (view o)) q free fits e = absurd cc
first_owned same go (gone k) q free fits e = absurd cc
first_owned same go (boxed p) q free fits e = let z : p ≡ q = cc in subst IsOwned z fits

abbrev at_star : Env → ℕ → ℕ → Found
at_star e x n = type_at e (record { slot = x; depth = n })

-- where a path goes over boxes alone, what is there is owned
path_owned : (e : Env) (x n : ℕ) (s : Slot) (q : Piece) → IsNested e → x < length e → env_at e x ≡ Some s → suits s.part another ≡ true → on_path is_reference_there e x (suc n) ≡ false → at_star e x (suc n) ≡ found q → IsOwned q
path_owned e x zero s q nested lt there fits free is =
    let start : at_star e x 0 ≡ found s.part = part_type e x s there in
    let no : is_reference_there (found s.part) ≡ false = subst (λ f. is_reference_there f ≡ false) start (or_second (on_path is_reference_there e x 0) (is_reference_there (at_star e x 0)) free) in
    let led : star (alike e) (type_at e) s.part ≡ found q = subst (λ f. then_found f (star (alike e) (type_at e)) ≡ found q) start (sym (type_at-star e x 0 nested lt) ∙ is) in
    first_owned (alike e) (type_at e) s.part q no fits led
path_owned e x (suc n) s q nested lt there fits free is =
    let prefix : on_path is_reference_there e x (suc n) ≡ false = or_first (on_path is_reference_there e x (suc n)) (is_reference_there (at_star e x (suc n))) free in
    by (at_star e x (suc n)) (λ p f. path_owned e x n s p nested lt there fits prefix f) refl (sym (type_at-star e x (suc n) nested lt) ∙ is)
  where
    by : (f : Found) → ((p : Piece) → at_star e x (suc n) ≡ found p → IsOwned p) → at_star e x (suc n) ≡ f → then_found f (star (alike e) (type_at e)) ≡ found q → IsOwned q
    by (found p) go h led = star_owned (alike e) (type_at e) p q (go p h) led
    by undefined go h led = absurd cc
    by no_target go h led = absurd cc

-- a slot of that number
slot_number : (e : Env) (x : ℕ) → is_variable e x ≡ true → (s : Slot) × (env_at e x ≡ Some s) × (is_some s.name ≡ true) × (x < length e)
slot_number [] x h = absurd cc
slot_number (r ∷ e) x h =
    eq_cases (λ b. (if b then is_some r.name else is_variable e x) ≡ true → (s : Slot) × ((if b then Some r else env_at e x) ≡ Some s) × (is_some s.name ≡ true) × (x < suc (length e))) x (length e)
    (λ q f. (r, refl, f, omega (arith, q))) (λ ne f. (let g = slot_number e x f in (g.0, g.1, g.2, omega (arith, g.3)))) h

stands_at : (vs : List Value) (i : ℕ) → i < length vs → (v : Value) × (slice_get vs i ≡ Some v)
stands_at [] i l = absurd (omega (arith, l))
stands_at (x ∷ vs) zero l = (x, refl)
stands_at (x ∷ vs) (suc i) l = stands_at vs i (omega (arith, l))

-- THE THREAD

-- the table has an entry where a thread stands that steps
pub entry_known : (k : Cluster) (n t : ℕ) (s : Server) (y : ThreadState) (i : Instr) (z : Steps k n t s y i) → (x : Entry) × (z.coherent.types.table y.pc ≡ Some x)
entry_known k n t s y i z =
    let co = z.coherent in
    let c : HasPaths k = record {
      types = co.types;
      numbers_differ = co.sound.names.numbers_differ;
      names_counted = co.sound.names.names_counted;
      counts_from_one = co.sound.names.counts_from_one;
      over_are_bare = co.sound.rooted.over_are_bare;
      home_of_each = co.sound.one_home.home_of_each;
      owner_of_each = co.sound.one_owner.owner_of_each;
    } in
    let r = running_typed k c (standing k n t s y i z) (goes k n t s y i z) in
    (r.entry, r.known)

module _ (sees : ObjNo → Bool) (k : Cluster) (n t : ℕ) (s : Server) (y : ThreadState) (i : Instr) (z : Steps k n t s y i) (suits_now : entry_wrong (unsuited_of sees y) (z.coherent.types.table y.pc) ≡ 0) where
  abbrev co : IsCoherent k
  co = z.coherent

  -- the types and numbers of its cluster
  abbrev pub c : HasPaths k
  c = record {
    types = co.types;
    numbers_differ = co.sound.names.numbers_differ;
    names_counted = co.sound.names.names_counted;
    counts_from_one = co.sound.names.counts_from_one;
    over_are_bare = co.sound.rooted.over_are_bare;
    home_of_each = co.sound.one_home.home_of_each;
    owner_of_each = co.sound.one_owner.owner_of_each;
  }

  abbrev x : Standing
  x = standing k n t s y i z

  abbrev names : NameTypes
  names = names_of co.types.object co.types.typing.gives

  -- what typing knows before the instruction
  abbrev pub its : Entry
  its = (running_typed k c x (goes k n t s y i z)).entry

  pub known : co.types.table y.pc ≡ Some its
  known = (running_typed k c x (goes k n t s y i z)).known

  forms : forms_of names y its ≡ 0
  forms =
      let g = goes k n t s y i z in
      let all = none_of (λ (w : Standing). if_so (not (is_over w.thread.phase)) (entry_wrong (forms_of names w.thread) (co.types.table w.thread.pc))) x (sight k).ground.threads co.types.forms g.among in
      let going : entry_wrong (forms_of names y) (co.types.table y.pc) ≡ 0 = sym (ap (λ b. if_so (not b) (entry_wrong (forms_of names y) (co.types.table y.pc))) g.going) ∙ all in
      sym (ap (entry_wrong (forms_of names y)) known) ∙ going

  slots_fit : slots_wrong names its.env (reverse y.slots) ≡ 0
  slots_fit = omega (arith, forms)

  temps_fit : temps_wrong names its.temps (reverse y.temps) ≡ 0
  temps_fit = omega (arith, forms)

  abbrev h0 : Hand
  h0 = hand k n t s y i z

  none_now : unsuited_of sees y its ≡ 0
  none_now = sym (ap (entry_wrong (unsuited_of sees y)) known) ∙ suits_now

  suited_now : Suited sees its.env y.slots
  suited_now j v q = let m : 0 + j ≡ j = omega arith in subst (λ a. suits_at its.env a (look_of sees v) ≡ true) m (none_from sees its.env 0 y.slots (omega (arith, none_now)) j v q)

  long_now : length y.slots ≡ length its.env
  long_now = sym (length-reverse y.slots) ∙ slots_length sees names its.env (reverse y.slots) slots_fit

  topped_now : Topped sees its.temps y.temps
  topped_now = from_other sees (top_suits sees its.temps (last_of y.temps)) (omega (arith, none_now))

  filled_now : (v : Value) → last_of y.temps ≡ Some v → look_of sees v ≢ a_nothing
  filled_now v e = let f = top_form sees names its.temps y.temps temps_fit v e in form_there sees names f.0 v f.3

  -- so it is when its place is ready
  pub before : (h : Hand) → Readied h0 h → Before sees its h
  before h r = record {
    suited = alike_suited sees its.env h.thread.slots y.slots (ready_slots sees r) suited_now;
    topped = alike_topped sees its.temps h.thread.temps y.temps (ready_temps sees r) topped_now;
    long = alike_length sees h.thread.slots y.slots (ready_slots sees r) ∙ long_now;
    filled = λ v e l. (let a = alike_last sees h.thread.temps y.temps (ready_temps sees r) v e in filled_now a.0 a.1 (a.2 ∙ l));
  }

  nested : IsNested its.env
  nested = by its.forked (running_typed k c (standing k n t s y i z) (goes k n t s y i z)).thread
    where
      by : (b : Bool) → IsThread b (slot_k y.number) c.types.typing.rank (hand_key y.number its.temps) its.env c.types.typing.exact (heap_store k c.types) (hand_kind its.temps) → IsNested its.env
      by true r = r.nested
      by false r = r.nested

  -- a move through boxes
  moved_through : (w : Lval) (m : ℕ) (q : Kind) → w.depth ≡ suc m → HasType its.env w (found (whole q)) → is_own_path its.env w ≡ true → is_some (owned_kind q) ≡ true
  moved_through w m q d has path =
      let sl = slot_number its.env w.slot has.named in
      let at = stands_at y.slots w.slot (let l = sl.3 in let g = long_now in omega (arith, l, g)) in
      let fits : suits_slot (Some sl.0) (look_of sees at.0) ≡ true = subst (λ o. suits_slot o (look_of sees at.0) ≡ true) sl.1 (suited_now w.slot at.0 at.1) in
      let other_fits : suits sl.0.part another ≡ true = subst (λ b. suits_named b sl.0.part another ≡ true) sl.2 (slot_other (Some sl.0) (look_of sees at.0) fits) in
      let free : on_path is_reference_there its.env w.slot (suc m) ≡ false = subst (λ a. on_path is_reference_there its.env w.slot a ≡ false) d (not_true (on_path is_reference_there its.env w.slot w.depth) path) in
      let is : at_star its.env w.slot (suc m) ≡ found (whole q) = subst (λ a. at_star its.env w.slot a ≡ found (whole q)) d has.is in
      path_owned its.env w.slot m sl.0 (whole q) nested sl.3 sl.1 other_fits free is

  ready_is : {h h2 : Hand} {sp sp2 : Spot} → ready h sp ≡ ready h2 sp2 → sp ≡ sp2
  ready_is e = cc

  -- a move out of a variable
  moved_here : (w : Lval) → i ≡ instr.Read w true → w.depth ≡ 0 → (h : Hand) (sp : Spot) → prepare (access_of i y) h0 ≡ ready h sp → sp ≡ in_slot w.slot
  moved_here w is d h sp e =
      let one : prepare (Some (read_or_taken w w.depth true)) h0 ≡ ready h sp = subst (λ j. prepare (access_of j y) h0 ≡ ready h sp) is e in
      let two : prepare (Some (read_or_taken w 0 true)) h0 ≡ ready h sp = subst (λ m. prepare (Some (read_or_taken w m true)) h0 ≡ ready h sp) d one in
      let three : read_stars 0 h0 (in_slot w.slot) ≡ ready h sp = subst (λ m. read_stars m h0 (in_slot w.slot) ≡ ready h sp) d two in
      sym (ready_is three)

  no_own : (o : Option Cell) (r : SharedRef) → value_in_cell o ≡ Some (value.Shared r) → ⊥
  no_own None r e = cc
  no_own (Some d) r e = cc

  -- what a place leads to that has the type of a view
  module _ (w : Lval) (q : Kind) (may : IsReadable its w q) where
    abbrev E : KeyTypes
    E = c.types.typing.exact

    abbrev st : Store
    st = heap_store k c.types

    abbrev g : GoesOn k x
    g = goes k n t s y i z

    abbrev place : Place k c x false w
    place = (readable_place k c x g w q may).0

    exact : ExactOf (slot_k y.number) E (whole q) place.type
    exact = (readable_place k c x g w q may).1

    -- is a slot of that exact type
    slot_exact : (j : ℕ) → locate (sight k).ground y.number w.slot w.depth ≡ Some (at_slot y.number j) → E (slot_k y.number j) ≡ place.type
    slot_exact j located =
        let f = found_place c.types.typing.rank E st false (store_place y.number w) place.base place.boxes place.type c.types.state.typed place.resolves in
        let l = leads_in_cluster k c x g w.slot w.depth f.loc place.unmarked f.at in
        let shown = leads_in_heap k c x g w.slot w.depth (at_slot y.number j) located in
        let loc : at_key (slot_k y.number j) ≡ f.loc = some_is (sym shown.0 ∙ f.at) in
        let chain : below_key st place.base place.boxes ≡ Some (at_key (slot_k y.number j)) = f.chain ∙ ap Some (sym loc) in
        let one = unique st c.types.state.typed.owner place.base (slot_k y.number j) place.boxes 0 (at_key (slot_k y.number j)) chain refl in
        let under = res_part E false (slot_k y.number w.slot) w.depth place.base place.boxes place.type place.resolves in
        some_is (part_zero (E (slot_k y.number j)) ∙ subst (λ a. exact_under 0 (E a) ≡ Some place.type) one.0 (subst (λ a. exact_under a (E place.base) ≡ Some place.type) one.1 under))
      where
        part_zero : (r : Exact) → Some r ≡ exact_under 0 r
        part_zero (owns tree) = refl
        part_zero (refers m u) = refl

    -- so it has a view's part
    view_part : (o : OwnedType) (p : Piece) (r : Exact) → ExactOf (slot_k y.number) E (whole (view o)) r → ExactOf (slot_k y.number) E p r → (a : OwnedType) × (p ≡ whole (view a))
    view_part o p (owns tree) ex f = absurd ex
    view_part o (whole (view a)) (refers m u) ex f = (a, refl)
    view_part o (whole (shared us)) (refers m u) ex f = absurd (ex.1.foreign f.1.place.slot (ap (λ (a : StorePlace). a.key) f.1.is))
    view_part o (whole (mutable us)) (refers m u) ex f = absurd (let b : false ≡ true = sym ex.0 ∙ f.0 in cc)
    view_part o (whole (own a)) (refers m u) ex f = absurd f
    view_part o (gone a) (refers m u) ex f = absurd f
    view_part o (boxed a) (refers m u) ex f = absurd f

    no_mark : (a : Value) (r : SharedRef) → look_of sees a ≡ look_of sees (value.Shared r) → is_mark a ≡ true → ⊥
    no_mark (value.Held m) r e f = by (sees r.object) e
      where
        by : (b : Bool) → another ≡ seen_look b → ⊥
        by true h = cc
        by false h = cc
    no_mark value.Gone r e f = cc
    no_mark (value.Own v) r e f = cc
    no_mark (value.SharedSlot m) r e f = cc
    no_mark (value.MutSlot m) r e f = cc
    no_mark (value.Shared m) r e f = cc
    no_mark (value.Mut m) r e f = cc

    named_by : (b : Bool) (p : Slot) (a : Value) (r : SharedRef) → slot_form (names_at k c x g) p b a ≡ true → look_of sees a ≡ look_of sees (value.Shared r) → b ≡ true
    named_by true p a r e h = refl
    named_by false p a r e h = absurd (no_mark a r h e)

    module _ (o : OwnedType) (is_view : q ≡ view o) (h : Hand) (ready_so : Readied h0 h) where
      seen_slot : (j : ℕ) (r : SharedRef) → locate (sight k).ground y.number w.slot w.depth ≡ Some (at_slot y.number j) → slice_get h.thread.slots j ≡ Some (value.Shared r) → sees r.object ≡ true
      seen_slot j r located at =
          let old = alike_at sees h.thread.slots y.slots (ready_slots sees ready_so) j (value.Shared r) at in
          let part = slot_part k c x g j old.0 old.1 in
          let variable : is_variable its.env j ≡ true = part.variable ∙ named_by (is_some part.slot.name) part.slot old.0 r part.form old.2 in
          let sl = slot_number its.env j variable in
          let ex : ExactOf (slot_k y.number) E sl.0.part place.type = subst (ExactOf (slot_k y.number) E sl.0.part) (slot_exact j located) (exact_at (slot_k y.number) E its.env j sl.0 (slots_below k c x g) sl.1) in
          let its_view = view_part o sl.0.part place.type (subst (λ a. ExactOf (slot_k y.number) E (whole a) place.type) is_view exact) ex in
          let suit : suits_slot (Some sl.0) (look_of sees old.0) ≡ true = subst (λ a. suits_slot a (look_of sees old.0) ≡ true) sl.1 (suited_now j old.0 old.1) in
          let named : suits sl.0.part (look_of sees old.0) ≡ true = subst (λ b. suits_named b sl.0.part (look_of sees old.0) ≡ true) sl.2 suit in
          let shared : suits (whole (view its_view.0)) (look_of sees (value.Shared r)) ≡ true = subst (λ a. suits a (look_of sees (value.Shared r)) ≡ true) its_view.1 (subst (λ l. suits sl.0.part l ≡ true) old.2 named) in
          seen_view its_view.0 (sees r.object) shared

      seen_there : (sp : Spot) (l : Location) → locate (sight k).ground y.number w.slot w.depth ≡ Some l → At k n t s y i z sp l → (r : SharedRef) → value_at h sp ≡ Some (value.Shared r) → sees r.object ≡ true
      seen_there _ _ located (a_slot j) r at = seen_slot j r located at
      seen_there _ _ located (a_cell a p o2 d is there) r at = absurd (no_own _ r at)
      seen_there _ _ located (a_copy a o2 d is there) r at = absurd (no_own _ r at)

  same_access : (w : Lval) (d : ℕ) → read_or_taken w d false ≡ ReadTo w
  same_access w zero = refl
  same_access w (suc d) = refl

  -- where a place that is copied is ready
  reads_fine : (w : Lval) (x2 : Entry) (e2 : Entry) (a : Instr) → x2 ≡ entry k n t s y i z → a ≡ i → i ≡ instr.Read w false → InstrTypes (types k n t s y i z).table x2 a e2 → Fine k n t s y i z w.slot w.depth (read_stars w.depth h0 (in_slot w.slot))
  reads_fine w _ _ _ same is read (i_copy {w = p} {k = q} waits has twice free) =
      let place_same : p ≡ w = (let b : instr.Read p false ≡ instr.Read w false = is ∙ read in cc) in
      let awake : (entry k n t s y i z).forked ≡ false = ap (λ (a : Entry). a.forked) (sym same) in
      let may : IsReadable (entry k n t s y i z) w q = subst (λ a. IsReadable (entry k n t s y i z) a q) place_same (subst (λ a. IsReadable a p q) same (record { awake = refl; has = has; free = free; waits_there = waits })) in
      let r = readable_place k (paths k n t s y i z) x (goes k n t s y i z) w q may in
      stars_fine k n t s y i z false w r.0 may.has.short w.depth (omega arith) (never_taken k n t s y i z (λ b f. (let u : instr.BorrowMut b ≡ instr.Read w false = sym f ∙ read in cc)) false w r.0)
  reads_fine w _ _ _ same is read _ = absurd (let b = is ∙ read in cc)

  copied_fine : (w : Lval) → i ≡ instr.Read w false → Fine k n t s y i z w.slot w.depth (read_stars w.depth h0 (in_slot w.slot))
  copied_fine w is =
      let at = typed k n t s y i z in
      let to = to_entry (types k n t s y i z).table y.pc (entry k n t s y i z) i at.0 at.1 (λ o e. (let b : instr.Read w false ≡ instr.End o = sym is ∙ e in cc)) in
      reads_fine w (entry k n t s y i z) to.0 i refl refl is to.1

  -- a copy
  copied : (w : Lval) (q : Kind) → i ≡ instr.Read w false → copies q ≡ true → IsReadable its w q → (h : Hand) (sp : Spot) → Readied h0 h → prepare (access_of i y) h0 ≡ ready h sp → (v u : Value) → value_at h sp ≡ Some v → second_of v ≡ Some u
      → suits (whole q) (look_of sees u) ≡ true
  copied w q is twice may h sp r e v u at second =
      let reads : prepare (access_of i y) h0 ≡ read_stars w.depth h0 (in_slot w.slot) = ap (λ j. prepare (access_of j y) h0) is ∙ ap (λ a. prepare (Some a) h0) (same_access w w.depth) in
      let fine : Fine k n t s y i z w.slot w.depth (ready h sp) = subst (Fine k n t s y i z w.slot w.depth) (sym reads ∙ e) (copied_fine w is) in
      copy_suits sees q v u twice (λ o a same f. seen_there w q may o same h r sp fine.0 fine.1 fine.2 a (at ∙ ap Some f)) second

  -- all that is told of it
  pub told : (h : Hand) (sp : Spot) → Readied h0 h → prepare (access_of i y) h0 ≡ ready h sp → Told sees its i sp h
  told h sp r e = record {
    copied = λ w q is twice awake has free waits v u at second. copied w q is twice (record { awake = awake; has = has; free = free; waits_there = waits }) h sp r e v u at second;
    here = λ w is d. moved_here w is d h sp e;
    through = λ w m q is d has path. moved_through w m q d has path;
  }
