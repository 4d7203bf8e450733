-- In a coherent cluster the place that a thread follows has at most eight stars.
use Rattle.std.proofs.Common.{◌≡◌, ◌≤◌, inl, ℕ, zero, suc, ◌+◌, ◌-◌, nat_le, Bool, true, false, List, ◌∷◌, ◌++◌, length, Option, Some, None, refl, sym, subst, arith}
use Rattle.std.proofs.lemmas.Bool.Decides.{nat_tests}
use Rattle.std.specs.Prelude.{slice_get}
use Rattle.law_walks_own.specs.Below.fr_base.declared.instruction.Instr.{Instr}
use Rattle.law_walks_own.specs.Below.fr_base.declared.instruction.Instr.TheVariants as instr
use Rattle.law_walks_own.specs.Below.fr_code.CodeTypes.{Entry, Table, InstrTypes, i_assign, i_copy, i_move, i_borrow, i_borrow_mut, i_dup, i_lock}
use Rattle.law_walks_own.specs.Below.fr_code.CodeTable.{Successors, Leads, to_next, ends as ends_thread, IsTable}
use Rattle.law_walks_own.specs.Below.thread_state.View.{ThreadState}
use Rattle.law_walks_own.specs.Below.thread_state.declared.value.Value.{Value}
use Rattle.law_walks_own.specs.Below.thread_state.declared.value.Value.TheVariants as value
use Rattle.law_walks_own.specs.Below.server_model.Servers.{Cluster}
use Rattle.law_walks_own.specs.Below.coherent_memory.Names.{Among, other}
use Rattle.law_walks_own.specs.Below.coherent_memory.Things.{Thing, at_slot, at_temp, borrows, stands, things_of, things_at, gift_things, walk_things, slot_things, temp_things}
use Rattle.law_walks_own.specs.Below.coherent_memory.Follow.{Standing}
use Rattle.law_walks_own.specs.Below.coherent_memory.Sight.{sight}
use Rattle.law_walks_own.specs.Below.coherent_memory.Paths.{ending, taking, assigning, path_of}
use Rattle.law_walks_own.specs.Below.coherent_memory.Walking.{path}
use Rattle.law_walks_own.specs.Below.coherent_memory.Naming.{long_holder}
use Rattle.law_walks_own.specs.Below.coherent_memory.Coherent.{IsSound}
use Rattle.law_walks_own.proofs.Below.coherent_memory.Words.{none_at}
use Rattle.law_walks_own.specs.Below.coherent_types.Names.{names_of}
use Rattle.law_walks_own.specs.Below.coherent_types.ClusterTypes.{IsCoherent, Types, entry_wrong, gives_other}
use Rattle.law_walks_own.proofs.Below.law_words_paths.paths.Origins.{among_first, among_second}
use Rattle.law_walks_own.proofs.Below.law_words_paths.paths.Contained.{servers_contain, listed_in}
use Rattle.law_length_asks.specs.ahead.Ahead.{path_stars, EightAhead}
use Rattle.law_length_asks.proofs.ahead.Lists.{within_stars}

-- a holder that isn't long
short_holder : (n : ℕ) → other (nat_le n 8) ≡ 0 → n ≤ 8
short_holder n e = by (nat_le n 8) refl e
  where
    by : (b : Bool) → nat_le n 8 ≡ b → other b ≡ 0 → n ≤ 8
    by true f z = grind (arith, nat_tests, f)
    by false f z = absurd (cc z)

some_same : {A : Type 0} {a b : A} → Some a ≡ Some b → a ≡ b
some_same e = cc

module _ (k : Cluster) (coherent : IsCoherent k) (x : Standing) (among : Among x (sight k).ground.threads) where
  abbrev y : ThreadState
  y = x.thread

  abbrev sound : IsSound k
  sound = coherent.sound

  abbrev types : Types k
  types = coherent.types

  abbrev slots : List Thing
  slots = things_at (slot_things x.server y.number) 0 y.slots

  abbrev temps : List Thing
  temps = things_at (temp_things x.server y.number) 0 y.temps

  abbrev front : List Thing
  front = stands x.server x.packed y ∷ gift_things y.number y.gift ++ things_at (walk_things x.server) 0 y.walk

  -- a reference that ends has a short holder
  slot_ends : (i : ℕ) (v : Value) → slice_get y.slots i ≡ Some v → path_stars (ending (Some v)) ≤ 8
  slot_ends i (value.Mut r) e =
      let it = borrows (at_slot y.number (0 + i)) r in
      let there = servers_contain k.servers x among it (among_first it (front ++ slots) temps (among_second it front slots (listed_in (slot_things x.server y.number) it 0 i y.slots (value.Mut r) e (inl refl)))) in
      short_holder r.holder.depth (none_at long_holder it (things_of k) sound.parts.holders_short there)
  slot_ends i value.Gone e = omega arith
  slot_ends i (value.Own v) e = omega arith
  slot_ends i (value.SharedSlot j) e = omega arith
  slot_ends i (value.MutSlot j) e = omega arith
  slot_ends i (value.Shared r) e = omega arith
  slot_ends i (value.Held m) e = omega arith

  temp_ends : (i : ℕ) (v : Value) → slice_get y.temps i ≡ Some v → path_stars (ending (Some v)) ≤ 8
  temp_ends i (value.Mut r) e =
      let it = borrows (at_temp y.number (0 + i)) r in
      let there = servers_contain k.servers x among it (among_second it (front ++ slots) temps (listed_in (temp_things x.server y.number) it 0 i y.temps (value.Mut r) e (inl refl))) in
      short_holder r.holder.depth (none_at long_holder it (things_of k) sound.parts.holders_short there)
  temp_ends i value.Gone e = omega arith
  temp_ends i (value.Own v) e = omega arith
  temp_ends i (value.SharedSlot j) e = omega arith
  temp_ends i (value.MutSlot j) e = omega arith
  temp_ends i (value.Shared r) e = omega arith
  temp_ends i (value.Held m) e = omega arith

  slot_short : (i : ℕ) → path_stars (ending (slice_get y.slots i)) ≤ 8
  slot_short i = by (slice_get y.slots i) refl
    where
      by : (o : Option Value) → slice_get y.slots i ≡ o → path_stars (ending o) ≤ 8
      by None e = omega arith
      by (Some v) e = slot_ends i v e

  temp_short : (i : ℕ) → path_stars (ending (slice_get y.temps i)) ≤ 8
  temp_short i = by (slice_get y.temps i) refl
    where
      by : (o : Option Value) → slice_get y.temps i ≡ o → path_stars (ending o) ≤ 8
      by None e = omega arith
      by (Some v) e = temp_ends i v e

  -- the path of an instruction that typing knows
  path_short : {table : Table} {a z : Entry} (i : Instr) → InstrTypes table a i z → path_stars (path_of (Some i) y) ≤ 8
  path_short (instr.Assign p o) (i_assign t a b c d e) = by p.depth a.short
    where
      by : (n : ℕ) → n ≤ 8 → path_stars (assigning y.slots p n) ≤ 8
      by zero l = slot_short p.slot
      by (suc n) l = a.short
  path_short (instr.Read p false) (i_copy a b c d) = b.short
  path_short (instr.Read p true) (i_move a b c d e) = by p.depth
    where
      by : (n : ℕ) → path_stars (taking p n) ≤ 8
      by zero = omega arith
      by (suc n) = b.short
  path_short (instr.Borrow p) (i_borrow a b c) = b.short
  path_short (instr.BorrowMut p) (i_borrow_mut a b c) = b.short
  path_short (instr.Dup p) (i_dup a b c) = b.short
  path_short (instr.Lock p) (i_lock n a b c d) = b.short
  path_short instr.Discard t = temp_short (length y.temps - 1)
  path_short instr.DropSlot t = slot_short (length y.slots - 1)
  path_short (instr.Let o) t = omega arith
  path_short (instr.Box o) t = omega arith
  path_short (instr.Arith op a b) t = omega arith
  path_short (instr.Print o) t = omega arith
  path_short (instr.Spawn cs pc) t = omega arith
  path_short (instr.Join o) t = omega arith
  path_short (instr.Mutex o) t = omega arith
  path_short instr.Unlock t = omega arith
  path_short (instr.Par cs pc ds other) t = omega arith
  path_short instr.ParEnd t = omega arith
  path_short (instr.End o) t = omega arith

  leads_short : {table : Table} {pc : ℕ} {a : Entry} (i : Instr) (ss : Successors) → Leads table pc a i ss → path_stars (path_of (Some i) y) ≤ 8
  leads_short i ss (to_next t) = path_short i t
  leads_short i ss (ends_thread t) = omega arith

  -- typing knows its instruction
  entry : (a : Entry) × (types.table y.pc ≡ Some a)
  entry = by (types.table y.pc) (none_at (λ z. entry_wrong (gives_other (names_of types.object types.typing.gives) z.thread.number) (types.table z.thread.pc)) x (sight k).ground.threads types.ends among)
    where
      by : (o : Option Entry) → entry_wrong (gives_other (names_of types.object types.typing.gives) y.number) o ≡ 0 → (a : Entry) × (o ≡ Some a)
      by None z = absurd (cc z)
      by (Some a) z = (a, refl)

  stars_short : path_stars (path (sight k) x) ≤ 8
  stars_short =
      let table : IsTable k.code types.table = types.is_table in
      let row = table.rows y.pc entry.0 entry.1 in
      subst (λ o. path_stars (path_of o y) ≤ 8) (sym row.there) (leads_short row.instruction row.successors row.leads)

pub eight_ahead : EightAhead
eight_ahead k coherent x among = omega (arith, within_stars (sight k) x, stars_short k coherent x among)
