-- In a coherent cluster what a thread's instruction follows has at most eight stars.
use Rattle.std.proofs.Common.{◌≡◌, ◌≤◌, ℕ, zero, suc, ◌-◌, true, false, List, ◌++◌, Option, Some, None, refl, sym, subst, ◌∙◌, arith}
use Rattle.std.specs.Prelude.{length, slice_get}
use Rattle.std.specs.List.{AllByRecursion}
use Rattle.law_counts_things.specs.Below.fr_base.Lists.{last_of}
use Rattle.law_counts_things.specs.Below.fr_base.declared.instruction.Instr.{Instr}
use Rattle.law_counts_things.specs.Below.fr_base.declared.instruction.Instr.TheVariants as instr
use Rattle.law_counts_things.specs.Below.thread_state.View.{ThreadState}
use Rattle.law_counts_things.specs.Below.thread_state.declared.value.Value.{Value}
use Rattle.law_counts_things.specs.Below.thread_state.declared.value.Value.TheVariants as value
use Rattle.law_counts_things.specs.Below.server_model.Servers.{Server, Cluster, server_at}
use Rattle.law_counts_things.specs.Below.server_model.Work.{Work, Hand, thread_in}
use Rattle.law_counts_things.specs.Below.server_model.Places.{Spot, in_slot, on_top, value_at}
use Rattle.law_counts_things.specs.Below.server_model.Prepare.{ending, assigned, read_or_taken, access_of}
use Rattle.law_counts_things.specs.Below.fr_code.CodeTypes.{Entry, Table, InstrTypes, i_assign, i_copy, i_move, i_borrow, i_borrow_mut, i_dup, i_lock}
use Rattle.law_counts_things.specs.Below.fr_code.CodeTable.{Successors, Leads, to_next, ends as ends_thread, IsTable}
use Rattle.law_counts_things.specs.Below.coherent_memory.Names.{tot}
use Rattle.law_counts_things.specs.Below.coherent_memory.Things.{things_of, things_at, slot_things, temp_things, gift_things, walk_things, thread_things}
use Rattle.law_counts_things.specs.Below.coherent_memory.Naming.{long_holder}
use Rattle.law_counts_things.specs.Below.coherent_memory.Coherent.{IsSound}
use Rattle.law_counts_things.proofs.Below.coherent_memory.Sums.{tot-append, server_parts}
use Rattle.law_counts_things.proofs.Below.law_counts_sums.Each.{at_most}
use Rattle.law_counts_things.proofs.Below.law_counts_sums.Bags.{tot-without}
use Rattle.law_counts_things.proofs.Below.law_counts_sums.Events.{tot-server}
use Rattle.law_counts_things.proofs.Below.law_counts_sums.Known.{all_at}
use Rattle.law_counts_things.specs.Below.coherent_types.Names.{names_of}
use Rattle.law_counts_things.specs.Below.coherent_types.ClusterTypes.{IsCoherent, Types, entry_wrong, gives_other}
use Rattle.law_counts_things.proofs.things.Handed.{known, all_none}
use Rattle.law_counts_limits.proofs.bounds.Stars.{holder_depth, depth_there, stars}

-- the holder of a value, where it has one, has few stars
abbrev pub ShortHolder : Value → Type 0
ShortHolder v = holder_depth v ≤ 8

-- what stands at a place of such values has a short holder
short_there : (vs : List Value) (i : ℕ) → AllByRecursion ShortHolder vs → depth_there (slice_get vs i) ≤ 8
short_there vs i a = by (slice_get vs i) refl
  where
    by : (o : Option Value) → slice_get vs i ≡ o → depth_there o ≤ 8
    by None e = omega arith
    by (Some v) e = all_at ShortHolder vs i v a e

-- INSTRUCTIONS

module _ (y : ThreadState) (w : Work) (slots : AllByRecursion ShortHolder y.slots) (temps : AllByRecursion ShortHolder y.temps) where
  abbrev h : Hand
  h = record { work = w; thread = y }

  -- the end of a reference follows its holder
  ending_short : (s : Spot) (o : Option Value) → depth_there (value_at h s) ≤ 8 → stars (ending s o) h ≤ 8
  ending_short s (Some (value.Mut r)) l = l
  ending_short s _ l = omega arith

  -- of an instruction that typing knows
  access_short : {table : Table} {x z : Entry} (i : Instr) → InstrTypes table x i z → stars (access_of i y) h ≤ 8
  access_short (instr.Assign p o) (i_assign t a b c d e) = by p.depth a.short
    where
      by : (n : ℕ) → n ≤ 8 → stars (assigned p n y) h ≤ 8
      by zero l = ending_short (in_slot p.slot) (slice_get y.slots p.slot) (short_there y.slots p.slot slots)
      by (suc n) l = a.short
  access_short (instr.Read p false) (i_copy a b c d) = by p.depth
    where
      by : (n : ℕ) → stars (Some (read_or_taken p n false)) h ≤ 8
      by zero = b.short
      by (suc n) = b.short
  access_short (instr.Read p true) (i_move a b c d e) = by p.depth
    where
      by : (n : ℕ) → stars (Some (read_or_taken p n true)) h ≤ 8
      by zero = b.short
      by (suc n) = b.short
  access_short (instr.Borrow p) (i_borrow a b c) = b.short
  access_short (instr.BorrowMut p) (i_borrow_mut a b c) = b.short
  access_short (instr.Dup p) (i_dup a b c) = b.short
  access_short (instr.Lock p) (i_lock n a b c d) = b.short
  access_short instr.Discard t = ending_short on_top (last_of y.temps) (short_there y.temps (length y.temps - 1) temps)
  access_short instr.DropSlot t = ending_short (in_slot (length y.slots - 1)) (last_of y.slots) (short_there y.slots (length y.slots - 1) slots)
  access_short (instr.Let o) t = omega arith
  access_short (instr.Box o) t = omega arith
  access_short (instr.Arith op a b) t = omega arith
  access_short (instr.Print o) t = omega arith
  access_short (instr.Spawn cs pc) t = omega arith
  access_short (instr.Join o) t = omega arith
  access_short (instr.Mutex o) t = omega arith
  access_short instr.Unlock t = omega arith
  access_short (instr.Par cs pc ds other) t = omega arith
  access_short instr.ParEnd t = omega arith
  access_short (instr.End o) t = omega arith

  -- of an instruction that leads on in the code, or ends its thread
  leads_short : {table : Table} {pc : ℕ} {x : Entry} (i : Instr) (ss : Successors) → Leads table pc x i ss → stars (access_of i y) h ≤ 8
  leads_short i ss (to_next t) = access_short i t
  leads_short i ss (ends_thread t) = omega arith

-- A THREAD OF THE CLUSTER

module _ (k : Cluster) (coherent : IsCoherent k) (number : ℕ) (s : Server) (here : server_at k.servers number ≡ Some s) (t : ℕ) (y : ThreadState) (there : thread_in s.threads t ≡ Some y) where
  abbrev sound : IsSound k
  sound = coherent.sound

  abbrev types : Types k
  types = coherent.types

  abbrev n : ℕ
  n = s.rest.number

  -- a slot and a temporary value that weigh nothing have short holders
  slot_short : (i : ℕ) (v : Value) → tot long_holder (slot_things n y.number i v) ≡ 0 → ShortHolder v
  slot_short i (value.Mut r) z = at_most r.holder.depth 8 (omega (arith, z))
  slot_short i _ z = omega arith

  temp_short : (i : ℕ) (v : Value) → tot long_holder (temp_things n y.number i v) ≡ 0 → ShortHolder v
  temp_short i (value.Mut r) z = at_most r.holder.depth 8 (omega (arith, z))
  temp_short i _ z = omega arith

  -- its holders are short
  pub holders : AllByRecursion ShortHolder y.slots × AllByRecursion ShortHolder y.temps
  holders =
      let f = long_holder in
      let all : tot f (things_of k) ≡ 0 = sound.parts.holders_short in
      let mine : tot f (thread_things n false y) ≡ 0 = omega (arith, all, (tot-server f k.servers number s s here).0, server_parts f s, tot-without n f s.threads t y there) in
      let gift = gift_things y.number y.gift in
      let walk = things_at (walk_things n) 0 y.walk in
      let slots = things_at (slot_things n y.number) 0 y.slots in
      let temps = things_at (temp_things n y.number) 0 y.temps in
      let a = tot-append f (gift ++ walk ++ slots) temps in
      let b = tot-append f (gift ++ walk) slots in
      let d = tot-append f gift walk in
      (all_none f (slot_things n y.number) ShortHolder slot_short 0 y.slots (omega (arith, mine, a, b, d)), all_none f (temp_things n y.number) ShortHolder temp_short 0 y.temps (omega (arith, mine, a, b, d)))

  -- typing knows its instruction
  entry : (x : Entry) × (types.table y.pc ≡ Some x)
  entry = by (types.table y.pc) (known k sound number s here t y there (λ x. entry_wrong (gives_other (names_of types.object types.typing.gives) x.thread.number) (types.table x.thread.pc)) types.ends)
    where
      by : (o : Option Entry) → entry_wrong (gives_other (names_of types.object types.typing.gives) y.number) o ≡ 0 → (x : Entry) × (o ≡ Some x)
      by None z = absurd (cc z)
      by (Some x) z = (x, refl)

  instr_same : {a b : Instr} → Some a ≡ Some b → a ≡ b
  instr_same e = cc

  -- what it follows is short
  pub follows_short : (w : Work) (i : Instr) → slice_get k.code y.pc ≡ Some i → stars (access_of i y) (record { work = w; thread = y }) ≤ 8
  follows_short w i at =
      let table : IsTable k.code types.table = types.is_table in
      let row = table.rows y.pc entry.0 entry.1 in
      let both = holders in
      subst (λ j. stars (access_of j y) (record { work = w; thread = y }) ≤ 8) (instr_same (sym row.there ∙ at)) (leads_short y w both.0 both.1 row.instruction row.successors row.leads)
