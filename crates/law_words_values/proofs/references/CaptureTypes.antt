-- Nothing names a slot that a new thread's captures move: what was moved before it is owned, so it blocks nothing.
use Rattle.std.proofs.Common.{◌≡◌, inl, inr, ℕ, Bool, true, false, not, if◌then◌else◌, ◌||◌, List, [], ◌∷◌, length, Option, Some, None, refl, sym, ap, subst, ◌∙◌}
use Rattle.law_words_values.specs.Below.fr_base.Rooms.{WithRoom}
use Rattle.law_words_values.specs.Below.fr_base.declared.instruction.Instr.{Instr}
use Rattle.law_words_values.specs.Below.fr_base.declared.instruction.Instr.TheVariants as instr
use Rattle.law_words_values.proofs.Below.fr_typing.PlaceLemmas.{eq_cases}
use Rattle.law_words_values.specs.Below.fr_typing.Kinds.{Owned as OwnedType, Kind, own, shared, mutable, view, Piece, whole, gone, copies, map_some}
use Rattle.law_words_values.specs.Below.fr_typing.Places.{Env, found, type_at, blocks_write, write_blocked, put_at, heap_type}
use Rattle.law_words_values.specs.Below.fr_typing.Captures.{Capturer, by_spawn, by_par, captured_kind, captures_copy, captures_move}
use Rattle.law_words_values.specs.Below.fr_code.CodeTypes.{Entry, Table, SlotPasses, passes, SlotsPass, pass_none, pass_next, wait, InstrTypes, i_spawn, i_par}
use Rattle.law_words_values.specs.Below.fr_code.CodeTable.{Leads, to_next, ends, Successors}
use Rattle.law_words_values.specs.Below.fr_store.Keys.{slot_k}
use Rattle.law_words_values.specs.Below.fr_store.Typed.{Unnamed}
use Rattle.law_words_values.proofs.Below.fr_store.ThreadKept.{unnamed_key}
use Rattle.law_words_values.specs.Below.fr_sound.States.{hand_key, hand_kind}
use Rattle.law_words_values.specs.Below.server_model.Servers.{Cluster}
use Rattle.law_words_values.specs.Below.coherent_memory.Names.{Among}
use Rattle.law_words_values.specs.Below.coherent_memory.Follow.{Standing}
use Rattle.law_words_values.specs.Below.coherent_memory.Sight.{sight}
use Rattle.law_words_values.specs.Below.coherent_memory.Walking.{instr_of}
use Rattle.law_words_values.specs.Below.law_words_paths.paths.HeapStore.{heap_store, GoesOn, HasPaths}
use Rattle.law_words_values.proofs.Below.law_words_paths.paths.Sole.{some_is}
use Rattle.law_words_values.proofs.Below.law_words_paths.paths.Forms.{running_typed}
use Rattle.law_words_values.proofs.Below.law_words_paths.paths.MayWrites.{wait_names, top_free, awake_thread}

found_is : {p q : Piece} → found p ≡ found q → p ≡ q
found_is e = cc

whole_is : {k l : Kind} → whole k ≡ whole l → k ≡ l
whole_is e = cc

pair_first : {i j : ℕ} {a b : Bool} → ◌≡◌ {A = ℕ × Bool} (i, a) (j, b) → i ≡ j
pair_first e = ap (λ (z : ℕ × Bool). z.0) e

pair_second : {i j : ℕ} {a b : Bool} → ◌≡◌ {A = ℕ × Bool} (i, a) (j, b) → a ≡ b
pair_second e = ap (λ (z : ℕ × Bool). z.1) e

-- an owned type that goes blocked nothing
blocked_put : (e : Env) (w : ℕ) (k : Kind) (o : OwnedType) (i : ℕ) → type_at e (record { slot = w; depth = 0 }) ≡ found (whole (own o)) → write_blocked (put_at e (record { slot = w; depth = 0 }) (gone k)) i ≡ write_blocked e i
blocked_put [] w k o i h = refl
blocked_put (s ∷ e) w k o i h =
    eq_cases
    (λ b. (if b then found s.part else type_at e (record { slot = w; depth = 0 })) ≡ found (whole (own o))
    → write_blocked (if b then record s { part = gone k } ∷ e else s ∷ put_at e (record { slot = w; depth = 0 }) (gone k)) i ≡ write_blocked (s ∷ e) i) w (length e)
    (λ same q. sym (ap (λ p. blocks_write i p || write_blocked e i) (found_is q)))
    (λ ne q. ap (λ b. blocks_write i s.part || b) (blocked_put e w k o i q)) h

-- what moves is owned, and what is copied stays one that is copied
moves_owned : (by : Capturer) (e : Env) (k l : Kind) → captured_kind by e k ≡ Some l → copies k ≡ false → (o : OwnedType) × (k ≡ own o)
moves_owned by e (own o) l h c = (o, refl)
moves_owned by e (view o) l h c = absurd cc
moves_owned by e (shared us) l h c = absurd cc
moves_owned by_spawn e (mutable us) l h c = absurd cc
moves_owned by_par e (mutable us) l h c = absurd cc

copied_so : (by : Capturer) (e : Env) (k l : Kind) → captured_kind by e k ≡ Some l → copies k ≡ true → copies l ≡ true
copied_so by e (own o) l h c = ap copies (sym (some_is h)) ∙ c
copied_so by_par e (view o) l h c = ap copies (sym (some_is h))
copied_so by_spawn e (view o) l h c = absurd cc
copied_so by_par e (shared us) l h c = by_type (heap_type e us) h
  where
    by_type : (q : Option OwnedType) → map_some view q ≡ Some l → copies l ≡ true
    by_type None f = absurd cc
    by_type (Some o) f = ap copies (sym (some_is f))
copied_so by_spawn e (shared us) l h c = absurd cc
copied_so by e (mutable us) l h c = absurd cc

-- what isn't blocked behind a capture wasn't before it
before_one : (by : Capturer) (e n e1 n1 : Env) (x : ℕ × Bool) (i : ℕ) → SlotPasses by e n x e1 n1 → write_blocked e1 i ≡ false → write_blocked e i ≡ false
before_one by e n _ _ _ i (passes c named (captures_copy may copied free fresh) part way) h = h
before_one by e n _ _ _ i (passes c named (captures_move {s = s} {k = k} {l = l} may moved free fresh) part way) h =
    let o = moves_owned by e k l may.becomes moved in
    sym (blocked_put e s k o.0 i (may.is.is ∙ ap (λ q. found (whole q)) o.1)) ∙ h

before_all : (by : Capturer) (e n e1 n1 : Env) (xs : List (ℕ × Bool)) (i : ℕ) → SlotsPass by e n xs e1 n1 → write_blocked e1 i ≡ false → write_blocked e i ≡ false
before_all by e n _ _ _ i pass_none h = h
before_all by e n e2 n2 _ i (pass_next {e1 = e1} {n1 = n1} {x = x} {xs = xs} first rest) h = before_one by e n e1 n1 x i first (before_all by e1 n1 e2 n2 xs i rest h)

-- a slot that is moved isn't blocked
moved_free : (by : Capturer) (e n e1 n1 : Env) (x : ℕ × Bool) (i : ℕ) → SlotPasses by e n x e1 n1 → ◌≡◌ {A = ℕ × Bool} x (i, true) → write_blocked e i ≡ false
moved_free by e n _ _ _ i (passes {take = take} {k = q} c named (captures_copy {k = k} {l = l} may copied free fresh) part way) same =
    let stays : take ≡ false = way ∙ ap (λ z. not (copies z)) (sym (whole_is part)) ∙ ap not (copied_so by e k l may.becomes copied) in
    let z : false ≡ true = sym stays ∙ pair_second same in
    absurd cc
moved_free by e n _ _ _ i (passes {i = j} c named (captures_move {s = s} may moved free fresh) part way) same =
    let slot : s ≡ i = some_is (sym may.is.named ∙ named) ∙ pair_first same in
    sym (ap (write_blocked e) slot) ∙ free

all_free : (by : Capturer) (e n e1 n1 : Env) (xs : List (ℕ × Bool)) (i : ℕ) → SlotsPass by e n xs e1 n1 → Among (i, true) xs → write_blocked e i ≡ false
all_free by e n _ _ _ i pass_none h = absurd h
all_free by e n e2 n2 _ i (pass_next {e1 = e1} {n1 = n1} {x = x} {xs = xs} first rest) (inl same) = moved_free by e n e1 n1 x i first same
all_free by e n e2 n2 _ i (pass_next {e1 = e1} {n1 = n1} {x = x} {xs = xs} first rest) (inr h) = before_one by e n e1 n1 x i first (all_free by e1 n1 e2 n2 xs i rest h)

-- an instruction that captures these
pub data CapturedBy : Instr → List (ℕ × Bool) → Type 0 where
  spawned : {cs : WithRoom (ℕ × Bool)} {pc : ℕ} → CapturedBy (instr.Spawn cs pc) cs.items
  paired_first : {cs ds : WithRoom (ℕ × Bool)} {pc other : ℕ} → CapturedBy (instr.Par cs pc ds other) cs.items
  paired_second : {cs ds : WithRoom (ℕ × Bool)} {pc other : ℕ} → CapturedBy (instr.Par cs pc ds other) ds.items

record FreeSlots (x : Entry) (cs : List (ℕ × Bool)) : Type 0 where
  awake : x.forked ≡ false
  waits : wait x.temps ≡ true
  free : (i : ℕ) → Among (i, true) cs → write_blocked x.env i ≡ false

free_spawn : (table : Table) (x y : Entry) (cs : WithRoom (ℕ × Bool)) (pc : ℕ) → InstrTypes table x (instr.Spawn cs pc) y → FreeSlots x cs.items
free_spawn table _ _ cs pc (i_spawn {e = e} {e1 = e1} {n = n} waits pass known full) = record { awake = refl; waits = waits; free = λ i h. all_free by_spawn e [] e1 n cs.items i pass h }

free_first : (table : Table) (x y : Entry) (cs ds : WithRoom (ℕ × Bool)) (pc other : ℕ) → InstrTypes table x (instr.Par cs pc ds other) y → FreeSlots x cs.items
free_first table _ _ cs ds pc other (i_par {e = e} {e1 = e1} {n = n} waits pass pass2 known known2) = record { awake = refl; waits = waits; free = λ i h. all_free by_par e [] e1 n cs.items i pass h }

free_second : (table : Table) (x y : Entry) (cs ds : WithRoom (ℕ × Bool)) (pc other : ℕ) → InstrTypes table x (instr.Par cs pc ds other) y → FreeSlots x ds.items
free_second table _ _ cs ds pc other (i_par {e = e} {e1 = e1} {e2 = e2} {n = n} {m = m} waits pass pass2 known known2) =
    record { awake = refl; waits = waits; free = λ i h. before_all by_par e [] e1 n cs.items i pass (all_free by_par e1 [] e2 m ds.items i pass2 h) }

free_by : (table : Table) (x y : Entry) (j : Instr) (cs : List (ℕ × Bool)) → InstrTypes table x j y → CapturedBy j cs → FreeSlots x cs
free_by table x y _ _ typed (spawned {cs = cs} {pc = pc}) = free_spawn table x y cs pc typed
free_by table x y _ _ typed (paired_first {cs = cs} {ds = ds} {pc = pc} {other = other}) = free_first table x y cs ds pc other typed
free_by table x y _ _ typed (paired_second {cs = cs} {ds = ds} {pc = pc} {other = other}) = free_second table x y cs ds pc other typed

free_at : (table : Table) (pc : ℕ) (x : Entry) (j : Instr) (ss : Successors) (cs : List (ℕ × Bool)) → Leads table pc x j ss → CapturedBy j cs → FreeSlots x cs
free_at table pc x j _ cs (to_next {y = y} typed) by = free_by table x y j cs typed by
free_at table pc _ _ _ cs (ends takes) by = elim by [ ]

module _ (k : Cluster) (c : HasPaths k) (x : Standing) (g : GoesOn k x) where
  abbrev n : ℕ
  n = x.thread.number

  abbrev entry : Entry
  entry = (running_typed k c x g).entry

  unnamed_slot : (i : ℕ) (cs : List (ℕ × Bool)) → FreeSlots entry cs → Among (i, true) cs → Unnamed c.types.typing.exact (slot_k n i)
  unnamed_slot i cs f h =
      let thread = awake_thread k c x g f.awake in
      unnamed_key (slot_k n) c.types.typing.rank (hand_key n entry.temps) entry.env c.types.typing.exact (heap_store k c.types) (hand_kind entry.temps) (running_typed k c x g).keys thread i (f.free i h)
      (top_free n i c.types.typing.exact entry.temps thread.temp (wait_names i entry.temps f.waits))

  -- so no type names it
  pub captured_unnamed : (j : Instr) (cs : List (ℕ × Bool)) (i : ℕ) → instr_of (sight k) x ≡ Some j → CapturedBy j cs → Among (i, true) cs → Unnamed c.types.typing.exact (slot_k n i)
  captured_unnamed j cs i at by h =
      let row = c.types.is_table.rows x.thread.pc entry (running_typed k c x g).known in
      let same : row.instruction ≡ j = some_is (sym row.there ∙ at) in
      unnamed_slot i cs (free_at c.types.table x.thread.pc entry j row.successors cs (subst (λ z. Leads c.types.table x.thread.pc entry z row.successors) same row.leads) by) h
