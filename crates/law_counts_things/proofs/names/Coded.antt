-- What the table of the code says of a step: no mark of a lock is moved, and a reference is lent from a place of few stars.
use Rattle.std.proofs.Common.{◌≡◌, ℕ, zero, suc, ◌+◌, ◌≤◌, ◌==◌, ◌||◌, not, Bool, true, false, nat_lt, nat_le, is_some, if◌then◌else◌, List, [], ◌∷◌, length, reverse, Option, Some, None, refl, sym, ap, subst, ◌∙◌, arith}
use Rattle.std.specs.Prelude.{slice_get}
use Rattle.std.specs.Bool.{⊤}
use Rattle.std.proofs.lemmas.Bool.Decides.{nat_tests}
use Rattle.law_counts_things.proofs.Below.fr_typing.PlaceLemmas.{eq_cases}
use Rattle.law_counts_things.specs.Below.fr_base.declared.place.Lval.{Lval}
use Rattle.law_counts_things.specs.Below.fr_base.declared.instruction.Instr.{Instr}
use Rattle.law_counts_things.specs.Below.fr_base.declared.instruction.Instr.TheVariants as instr
use Rattle.law_counts_things.specs.Below.fr_typing.Kinds.{own, shared, mutable, view, Piece, whole, gone, boxed}
use Rattle.law_counts_things.specs.Below.fr_typing.Places.{Slot, Env, Found, found, type_at, on_path, is_lent, is_mutable, is_own_path}
use Rattle.law_counts_things.specs.Below.fr_code.CodeTypes.{Entry, Table, is_variable, InstrTypes, i_borrow_mut, i_move}
use Rattle.law_counts_things.specs.Below.fr_code.CodeTable.{Successors, Leads, to_next, ends, IsTable}
use Rattle.law_counts_things.specs.Below.heap_partition.declared.value.BoxPtr.{BoxPtr}
use Rattle.law_counts_things.specs.Below.heap_partition.declared.value.Cell.{Cell}
use Rattle.law_counts_things.specs.Below.heap_partition.declared.value.Owned.TheVariants as owned
use Rattle.law_counts_things.specs.Below.global_addr.Words.{server_of}
use Rattle.law_counts_things.specs.Below.place_walk.declared.hop.Hop.TheVariants as hop
use Rattle.law_counts_things.specs.Below.thread_state.View.{ThreadState, is_over}
use Rattle.law_counts_things.specs.Below.thread_state.declared.value.Value.{Value}
use Rattle.law_counts_things.specs.Below.thread_state.declared.value.Value.TheVariants as value
use Rattle.law_counts_things.specs.Below.server_model.Servers.{Server, Cluster, server_at}
use Rattle.law_counts_things.specs.Below.server_model.Work.{Hand, thread_in, look}
use Rattle.law_counts_things.specs.Below.server_model.NewWords.{NewWord, issue_colour}
use Rattle.law_counts_things.specs.Below.server_model.Places.{Spot, in_slot, on_top, in_cell, in_copy, nowhere, value_in, value_at, load_at, put_word}
use Rattle.law_counts_things.specs.Below.server_model.Prepare.{Prepared, ready, requested, nothing, and_then, ready_at, read_or_taken, read_stars, passing, box_ready, write_by, pass_by, write_value, write_star, write_stars, access_of, prepare}
use Rattle.law_counts_things.specs.Below.coherent_memory.Names.{other, if_so}
use Rattle.law_counts_things.specs.Below.coherent_memory.Rooted.{is_end}
use Rattle.law_counts_things.specs.Below.coherent_memory.Coherent.{IsSound}
use Rattle.law_counts_things.specs.Below.coherent_types.Names.{NameTypes, names_of}
use Rattle.law_counts_things.specs.Below.coherent_types.ClusterTypes.{has_form, slot_form, slots_wrong, entry_wrong, forms_of, Types, IsCoherent}
use Rattle.law_counts_things.specs.Below.law_counts_sums.Laws.{Gives}
use Rattle.law_counts_things.proofs.Below.law_counts_sums.Askers.{other_none}
use Rattle.law_words_paths.proofs.paths.Shown.{at_behind, behind_is}
use Rattle.law_counts_things.proofs.things.Handed.{known}
use Rattle.law_counts_things.proofs.things.Pairs.{goes_still}
use Rattle.law_counts_things.proofs.names.Fit.{marks, Base}
use Rattle.law_counts_things.proofs.names.Named.{names}
use Rattle.law_counts_things.proofs.names.Kept.{Coded}
use Rattle.law_counts_things.proofs.names.Sentences.{holding}

-- INSTRUCTIONS

short_lent : {table : Table} {x y : Entry} {i : Instr} → InstrTypes table x i y → (p : Lval) → i ≡ instr.BorrowMut p → p.depth ≤ 8
short_lent (i_borrow_mut wait typed open_place) p e = let same : _ ≡ p = lval_same e in subst (λ (q : Lval). q.depth ≤ 8) same typed.short
  where
    lval_same : {a b : Lval} → instr.BorrowMut a ≡ instr.BorrowMut b → a ≡ b
    lval_same e = cc
short_lent _ p e = absurd (cc e)

-- what is moved stands at a variable, and its place leads over boxes alone
record OwnPlace (e : Env) (p : Lval) : Type 0 where
  named : is_variable e p.slot ≡ true
  own_path : is_own_path e p ≡ true

own_moved : {table : Table} {x y : Entry} {i : Instr} → InstrTypes table x i y → (p : Lval) → i ≡ instr.Read p true → OwnPlace x.env p
own_moved (i_move {e = env} wait typed copies blocked path) p e = let same : _ ≡ p = lval_same e in subst (λ q. OwnPlace env q) same (record { named = typed.named; own_path = path })
  where
    lval_same : {a b : Lval} → instr.Read a true ≡ instr.Read b true → a ≡ b
    lval_same e = cc
own_moved _ p e = absurd (cc e)

leads_short : {table : Table} {pc : ℕ} {x : Entry} {i : Instr} {ss : Successors} → Leads table pc x i ss → (p : Lval) → i ≡ instr.BorrowMut p → p.depth ≤ 8
leads_short (to_next a) p e = short_lent a p e
leads_short (ends a) p e = absurd (cc e)

leads_own : {table : Table} {pc : ℕ} {x : Entry} {i : Instr} {ss : Successors} → Leads table pc x i ss → (p : Lval) → i ≡ instr.Read p true → OwnPlace x.env p
leads_own (to_next a) p e = own_moved a p e
leads_own (ends a) p e = absurd (cc e)

-- SLOTS

-- the part of a variable, with the value there
record Formed (n : NameTypes) (e : Env) (i : ℕ) (v : Value) : Type 0 where
  part : Piece
  form : has_form n part v ≡ true
  typed : type_at e (record { slot = i; depth = 0 }) ≡ found part

same_length : (n : NameTypes) (e : Env) (vs : List Value) → slots_wrong n e vs ≡ 0 → length e ≡ length vs
same_length n [] [] z = refl
same_length n [] (v ∷ vs) z = absurd (cc z)
same_length n (s ∷ e) [] z = absurd (cc z)
same_length n (s ∷ e) (v ∷ vs) z = ap suc (same_length n e vs (omega (arith, z)))

formed_named : (n : NameTypes) (s : Slot) (b : Bool) (v : Value) → b ≡ true → other (slot_form n s b v) ≡ 0 → has_form n s.part v ≡ true
formed_named n s true v e z = other_none (has_form n s.part v) z
formed_named n s false v e z = absurd (cc e)

formed : (n : NameTypes) (e : Env) (vs : List Value) (i : ℕ) (v : Value) → slots_wrong n e vs ≡ 0 → at_behind vs i ≡ Some v → is_variable e i ≡ true → Formed n e i v
formed n [] [] i v z h q = absurd (cc h)
formed n [] (u ∷ vs) i v z h q = absurd (cc z)
formed n (s ∷ e) [] i v z h q = absurd (cc z)
formed n (s ∷ e) (u ∷ vs) i v z h q =
    let lengths = same_length n e vs (omega (arith, z)) in
    eq_cases
    (λ b. (if b then Some u else at_behind vs i) ≡ Some v → Formed n (s ∷ e) i v) i (length vs)
    (λ same d.
    let value_is : u ≡ v = cc in
    let number : (i == length e) ≡ true = grind (arith, nat_tests, same, lengths) in
    let variable : is_some s.name ≡ true = sym (ap (λ b. if b then is_some s.name else is_variable e i) number) ∙ q in
    record {
      part = s.part;
      form = subst (λ x. has_form n s.part x ≡ true) value_is (formed_named n s (is_some s.name) u variable (omega (arith, z)));
      typed = ap (λ b. if b then found s.part else type_at e (record { slot = i; depth = 0 })) number;
    })
    (λ ne d.
    let number : (i == length e) ≡ false = eq_cases (λ b. b ≡ false) i (length e) (λ e2. absurd (ne (e2 ∙ lengths))) (λ n2. refl) in
    let variable : is_variable e i ≡ true = sym (ap (λ b. if b then is_some s.name else is_variable e i) number) ∙ q in
    let below = formed n e vs i v (omega (arith, z)) d variable in
    record { part = below.part; form = below.form; typed = ap (λ b. if b then found s.part else type_at e (record { slot = i; depth = 0 })) number ∙ below.typed })
    h

-- a value without a reference
abbrev NoReference : Value → Type 0
NoReference (value.Own v) = ⊤
NoReference value.Gone = ⊤
NoReference v = ⊥

abbrev by_reference : Found → Bool
by_reference f = is_lent f || is_mutable f

owned_form : (n : NameTypes) (p : Piece) (v : Value) → by_reference (found p) ≡ false → has_form n p v ≡ true → NoReference v
owned_form n p (value.Own v) q e = tt
owned_form n p value.Gone q e = tt
owned_form n (whole (shared us)) v q e = absurd (cc q)
owned_form n (whole (mutable us)) v q e = absurd (cc q)
owned_form n (whole (view o)) v q e = absurd (cc q)
owned_form n (whole (own o)) (value.SharedSlot i) q e = absurd (cc e)
owned_form n (whole (own o)) (value.MutSlot i) q e = absurd (cc e)
owned_form n (whole (own o)) (value.Shared r) q e = absurd (cc e)
owned_form n (whole (own o)) (value.Mut r) q e = absurd (cc e)
owned_form n (whole (own o)) (value.Held m) q e = absurd (cc e)
owned_form n (gone k) (value.SharedSlot i) q e = absurd (cc e)
owned_form n (gone k) (value.MutSlot i) q e = absurd (cc e)
owned_form n (gone k) (value.Shared r) q e = absurd (cc e)
owned_form n (gone k) (value.Mut r) q e = absurd (cc e)
owned_form n (gone k) (value.Held m) q e = absurd (cc e)
owned_form n (boxed p) (value.SharedSlot i) q e = absurd (cc e)
owned_form n (boxed p) (value.MutSlot i) q e = absurd (cc e)
owned_form n (boxed p) (value.Shared r) q e = absurd (cc e)
owned_form n (boxed p) (value.Mut r) q e = absurd (cc e)
owned_form n (boxed p) (value.Held m) q e = absurd (cc e)

-- no part has the form of a mark
no_mark : (n : NameTypes) (p : Piece) (m : Rattle.law_counts_things.specs.Below.fr_base.declared.name.MutexNo.MutexNo) → has_form n p (value.Held m) ≡ true → ⊥
no_mark n (whole (shared us)) m e = cc e
no_mark n (whole (mutable us)) m e = cc e
no_mark n (whole (view o)) m e = cc e
no_mark n (whole (own o)) m e = cc e
no_mark n (gone k) m e = cc e
no_mark n (boxed p) m e = cc e

or_left : (a b : Bool) → (a || b) ≡ false → a ≡ false
or_left true b e = absurd (cc e)
or_left false b e = refl

or_right : (a b : Bool) → (a || b) ≡ false → b ≡ false
or_right true b e = absurd (cc e)
or_right false b e = e

-- the first pointer of an own path is no reference
own_first : (e : Env) (x d : ℕ) → on_path by_reference e x (suc d) ≡ false → by_reference (type_at e (record { slot = x; depth = 0 })) ≡ false
own_first e x zero q = q
own_first e x (suc d) q = own_first e x d (or_left (on_path by_reference e x (suc d)) (by_reference (type_at e (record { slot = x; depth = suc d }))) q)

not_false : (b : Bool) → not b ≡ true → b ≡ false
not_false true e = absurd (cc e)
not_false false e = refl

-- WRITES OVER BOXES

abbrev IsCell : Spot → Type 0
IsCell (in_cell u through) = ⊤
IsCell s = ⊥

-- what is ready is a cell
abbrev Celled : Prepared → Type 0
Celled (ready h s) = IsCell s
Celled p = ⊤

then_celled : (x : Prepared) (go : Hand → Spot → Prepared) → Celled x → ((h : Hand) (s : Spot) → IsCell s → Celled (go h s)) → Celled (and_then go x)
then_celled (ready h s) go c w = w h s c
then_celled (requested h) go c w = tt
then_celled nothing go c w = tt

at_celled : (u : ℕ) (t : Option ℕ) (o : Option Hand) → Celled (ready_at (in_cell u t) o)
at_celled u t None = tt
at_celled u t (Some h) = tt

box_celled : (s : Spot) (o : Option NewWord) (h : Hand) → Celled (box_ready s o h)
box_celled s None h = tt
box_celled s (Some n) h = at_celled n.word None (put_word s n h)

box_star : (m : ℕ) (s : Spot) (p : BoxPtr) (b q : Bool) (h : Hand) → Celled (if q then pass_by s (value.Own (owned.Box p)) (Some (if b then hop.NeedTint p.word else hop.NeedMove p.word)) h else write_by m s (value.Own (owned.Box p)) (Some (if b then hop.NeedTint p.word else hop.NeedMove p.word)) h)
box_star m s p true true h = tt
box_star m s p false true h = tt
box_star m s p true false h = box_celled s (issue_colour p (passing (m + 1) h).work) (passing (m + 1) h)
box_star m s p false false h = tt

no_star : (m : ℕ) (s : Spot) (v : Value) (q : Bool) (h : Hand) → Celled (if q then pass_by s v None h else write_by m s v None h)
no_star m s v true h = tt
no_star m s v false h = tt

value_celled : (m : ℕ) (s : Spot) (o : Option Value) (h : Hand) → Gives NoReference o → Celled (write_value m s o h)
value_celled m s None h a = tt
value_celled m s (Some (value.Own (owned.Box p))) h a = box_star m s p (server_of p.word == h.work.rest.number) (nat_lt m h.thread.passed) h
value_celled m s (Some (value.Own owned.Nothing)) h a = no_star m s (value.Own owned.Nothing) (nat_lt m h.thread.passed) h
value_celled m s (Some (value.Own owned.Unit)) h a = no_star m s (value.Own owned.Unit) (nat_lt m h.thread.passed) h
value_celled m s (Some (value.Own (owned.Int i))) h a = no_star m s (value.Own (owned.Int i)) (nat_lt m h.thread.passed) h
value_celled m s (Some (value.Own (owned.Mutex i))) h a = no_star m s (value.Own (owned.Mutex i)) (nat_lt m h.thread.passed) h
value_celled m s (Some (value.Own (owned.Task i))) h a = no_star m s (value.Own (owned.Task i)) (nat_lt m h.thread.passed) h
value_celled m s (Some value.Gone) h a = no_star m s value.Gone (nat_lt m h.thread.passed) h
value_celled m s (Some (value.SharedSlot i)) h a = absurd a
value_celled m s (Some (value.MutSlot i)) h a = absurd a
value_celled m s (Some (value.Shared r)) h a = absurd a
value_celled m s (Some (value.Mut r)) h a = absurd a
value_celled m s (Some (value.Held i)) h a = absurd a

-- a cell has no reference
in_none : (c : Option Cell) → Gives NoReference (value_in c)
in_none None = tt
in_none (Some c) = tt

cell_none : (s : Spot) (h : Hand) → IsCell s → Gives NoReference (value_at h s)
cell_none (in_cell u through) h c = in_none (look h.work.rest.partition u)
cell_none (in_slot i) h c = absurd c
cell_none on_top h c = absurd c
cell_none (in_copy u) h c = absurd c
cell_none nowhere h c = absurd c

stars_celled : (d m : ℕ) (h : Hand) (s : Spot) → IsCell s → Celled (write_stars d m h s)
stars_celled zero m h s c = c
stars_celled (suc d) m h s c = then_celled (write_star m h s) (write_stars d (m + 1)) (value_celled m s (value_at h s) (load_at s h) (cell_none s h c)) (λ h2 s2 c2. stars_celled d (m + 1) h2 s2 c2)

stars_from : (d m : ℕ) (h : Hand) (s : Spot) → Gives NoReference (value_at h s) → Celled (write_stars (suc d) m h s)
stars_from d m h s a = then_celled (write_star m h s) (write_stars d (m + 1)) (value_celled m s (value_at h s) (load_at s h) a) (λ h2 s2 c2. stars_celled d (m + 1) h2 s2 c2)

-- what stands in a cell is owned
cell_owned : (s : Spot) (h : Hand) (v : Value) → IsCell s → value_at h s ≡ Some v → NoReference v
cell_owned s h v c e = given (value_at h s) (cell_none s h c) e
  where
    given : (o : Option Value) → Gives NoReference o → o ≡ Some v → NoReference v
    given None a q = absurd (cc q)
    given (Some u) a q = let same : u ≡ v = cc in subst NoReference same a

-- A STEP

abbrev pub stars_most : ℕ → ℕ
stars_most m = other (nat_le m 8)

module _ (k : Cluster) (coherent : IsCoherent k) (number : ℕ) (s : Server) (here : server_at k.servers number ≡ Some s) (t : ℕ) (y : ThreadState) (there : thread_in s.threads t ≡ Some y) where
  abbrev types : Types k
  types = coherent.types

  abbrev sound : IsSound k
  sound = coherent.sound

  abbrev typed_names : NameTypes
  typed_names = names_of types.object types.typing.gives

  -- the entry of its instruction, to which its values fit
  record Entered : Type 0 where
    entry : Entry
    at : types.table y.pc ≡ Some entry
    fits : forms_of typed_names y entry ≡ 0

  entered : (i : Instr) → slice_get k.code y.pc ≡ Some i → is_end (Some i) ≡ false → Entered
  entered i at e =
      let told : if_so (not (is_over y.phase)) (entry_wrong (forms_of typed_names y) (types.table y.pc)) ≡ 0 = known k sound number s here t y there _ types.forms in
      by (types.table y.pc) refl (subst (λ b. if_so (not b) (entry_wrong (forms_of typed_names y) (types.table y.pc)) ≡ 0) (goes_still k coherent number s here t y there i at e) told)
    where
      by : (o : Option Entry) → types.table y.pc ≡ o → entry_wrong (forms_of typed_names y) o ≡ 0 → Entered
      by None q z = absurd (cc z)
      by (Some x) q z = record { entry = x; at = q; fits = z }

  instr_same : {a b : Instr} → Some a ≡ Some b → a ≡ b
  instr_same e = cc

  few_stars : (i : Instr) → slice_get k.code y.pc ≡ Some i → (p : Lval) → i ≡ instr.BorrowMut p → p.depth ≤ 8
  few_stars i at p e =
      let x = entered i at (ap (λ j. is_end (Some j)) e) in
      let table : IsTable k.code types.table = types.is_table in
      let r = table.rows y.pc x.entry x.at in
      leads_short r.leads p (instr_same (sym r.there ∙ at) ∙ e)

  -- what stands in the slot of a place that is moved
  moved_slot : (i : Instr) → slice_get k.code y.pc ≡ Some i → (p : Lval) → i ≡ instr.Read p true → (v : Value) → slice_get y.slots p.slot ≡ Some v → (x : Entered) → OwnPlace (x.entry).env p × Formed typed_names (x.entry).env p.slot v
  moved_slot i at p e v q x =
      let table : IsTable k.code types.table = types.is_table in
      let r = table.rows y.pc x.entry x.at in
      let place = leads_own r.leads p (instr_same (sym r.there ∙ at) ∙ e) in
      let fits = x.fits in
      (place, formed typed_names (x.entry).env (reverse y.slots) p.slot v (omega (arith, fits)) (behind_is y.slots p.slot ∙ q) place.named)

  -- no mark stands there
  unmarked_form : (j : Base) (p : Piece) (v : Value) → has_form typed_names p v ≡ true → marks (names k (holding stars_most 1) j) v ≡ 0
  unmarked_form j p (value.Held m) e = absurd (no_mark typed_names p m e)
  unmarked_form j p value.Gone e = refl
  unmarked_form j p (value.Own v) e = refl
  unmarked_form j p (value.SharedSlot i) e = refl
  unmarked_form j p (value.MutSlot i) e = refl
  unmarked_form j p (value.Shared r) e = refl
  unmarked_form j p (value.Mut r) e = refl

  unmarked_owned : (j : Base) (v : Value) → NoReference v → marks (names k (holding stars_most 1) j) v ≡ 0
  unmarked_owned j (value.Own v) a = refl
  unmarked_owned j value.Gone a = refl
  unmarked_owned j (value.SharedSlot i) a = absurd a
  unmarked_owned j (value.MutSlot i) a = absurd a
  unmarked_owned j (value.Shared r) a = absurd a
  unmarked_owned j (value.Mut r) a = absurd a
  unmarked_owned j (value.Held m) a = absurd a

  ready_hand : {h h2 : Hand} {s s2 : Spot} → ready h s ≡ ready h2 s2 → h ≡ h2
  ready_hand e = cc

  ready_spot : {h h2 : Hand} {s s2 : Spot} → ready h s ≡ ready h2 s2 → s ≡ s2
  ready_spot e = cc

  -- what stands in the slot is no reference where the place goes on
  slot_owned : (i : Instr) → slice_get k.code y.pc ≡ Some i → (p : Lval) → i ≡ instr.Read p true → (d : ℕ) → p.depth ≡ suc d → (o : Option Value) → slice_get y.slots p.slot ≡ o → Gives NoReference o
  slot_owned i at p e d z None q = tt
  slot_owned i at p e d z (Some v) q =
      let x = entered i at (ap (λ j. is_end (Some j)) e) in
      let both = moved_slot i at p e v q x in
      let place = both.0 in
      let form = both.1 in
      let off : on_path by_reference (x.entry).env p.slot (suc d) ≡ false = ap (on_path by_reference (x.entry).env p.slot) (sym z) ∙ not_false _ place.own_path in
      owned_form typed_names form.part v (ap by_reference (sym form.typed) ∙ own_first (x.entry).env p.slot d off) form.form

  moved_unmarked : (i : Instr) → slice_get k.code y.pc ≡ Some i → (p : Lval) → i ≡ instr.Read p true → (j : Base) (h h2 : Hand) (sp : Spot) (v : Value) → h.thread ≡ y → (d : ℕ) → p.depth ≡ d → prepare (Some (read_or_taken p d true)) h ≡ ready h2 sp → value_at h2 sp ≡ Some v
      → marks (names k (holding stars_most 1) j) v ≡ 0
  moved_unmarked i at p e j h h2 sp v same zero z r q =
      let done : ready h (in_slot p.slot) ≡ ready h2 sp = ap (λ n. read_stars n h (in_slot p.slot)) (sym z) ∙ r in
      let there_too : slice_get h.thread.slots p.slot ≡ Some v = subst (λ x. value_at x (in_slot p.slot) ≡ Some v) (sym (ready_hand done)) (subst (λ x. value_at h2 x ≡ Some v) (sym (ready_spot done)) q) in
      let mine : slice_get y.slots p.slot ≡ Some v = subst (λ (x : ThreadState). slice_get x.slots p.slot ≡ Some v) same there_too in
      let x = entered i at (ap (λ n. is_end (Some n)) e) in
      let both = moved_slot i at p e v mine x in
      let form = both.1 in
      unmarked_form j form.part v form.form
  moved_unmarked i at p e j h h2 sp v same (suc d) z r q =
      let done : write_stars (suc d) 0 h (in_slot p.slot) ≡ ready h2 sp = ap (λ n. write_stars n 0 h (in_slot p.slot)) (sym z) ∙ r in
      let slots : slice_get h.thread.slots p.slot ≡ slice_get y.slots p.slot = ap (λ (x : ThreadState). slice_get x.slots p.slot) same in
      let first : Gives NoReference (slice_get h.thread.slots p.slot) = subst (Gives NoReference) (sym slots) (slot_owned i at p e d z (slice_get y.slots p.slot) refl) in
      let cell : IsCell sp = subst Celled done (stars_from d 0 h (in_slot p.slot) first) in
      unmarked_owned j v (cell_owned sp h2 v cell q)

  pub coded : (i : Instr) → slice_get k.code y.pc ≡ Some i → Coded k (holding stars_most 1) s i y
  coded i at = record {
    stands = refl;
    lives = λ e. refl;
    boxed = λ o e. (refl, refl);
    young = λ c l m. refl;
    lends = λ p m e z. let few = few_stars i at p e in let low : nat_le m 8 ≡ true = grind (arith, nat_tests, few, z) in ap other low;
    asks = λ f p. refl;
    moves = λ j p e h h2 sp v same r q. moved_unmarked i at p e j h h2 sp v same p.depth refl (subst (λ x. prepare (access_of x h.thread) h ≡ ready h2 sp) e r) q;
  }
