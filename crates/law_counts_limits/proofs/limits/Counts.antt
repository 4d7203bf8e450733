-- No count of a coherent cluster is large.
use Rattle.std.proofs.Common.{◌≡◌, ◌≤◌, ℕ, zero, suc, ◌+◌, ◌*◌, ◌==◌, not, Bool, true, false, if◌then◌else◌, List, [], ◌∷◌, ◌++◌, reverse, length, Option, Some, None, refl, sym, ap, subst, ◌∙◌, arith}
use Rattle.std.specs.Prelude.{slice_get}
use Rattle.std.proofs.lemmas.List.{length-reverse}
use Rattle.law_counts_things.specs.Below.fr_base.Lists.{last_of}
use Rattle.law_counts_things.specs.Below.fr_base.declared.instruction.Instr.{Instr}
use Rattle.law_counts_things.specs.Below.fr_base.declared.instruction.Instr.TheVariants as instr
use Rattle.law_counts_things.specs.Below.mut_borrow.declared.mutable.MutRef.{MutRef}
use Rattle.law_counts_things.specs.Below.thread_state.View.{ThreadState, is_over}
use Rattle.law_counts_things.specs.Below.thread_state.declared.value.Value.{Value}
use Rattle.law_counts_things.specs.Below.thread_state.declared.value.Value.TheVariants as value
use Rattle.law_counts_things.specs.Below.server_model.Servers.{Server, Cluster, server_at}
use Rattle.law_counts_things.specs.Below.server_model.Work.{thread_in}
use Rattle.law_counts_things.specs.Below.fr_typing.Places.{Env}
use Rattle.law_counts_things.specs.Below.fr_code.CodeTypes.{Entry, Table, InstrTypes, i_assign, i_move}
use Rattle.law_counts_things.specs.Below.fr_code.CodeTable.{Successors, Leads, to_next, ends as ends_thread}
use Rattle.law_counts_things.specs.Below.coherent_memory.Names.{tot, one, other, if_so, Among}
use Rattle.law_counts_things.specs.Below.coherent_memory.Things.{Thing, stands, things_of, things_at, slot_things, temp_things, gift_things, walk_things, thread_things}
use Rattle.law_counts_things.specs.Below.coherent_memory.Follow.{Standing}
use Rattle.law_counts_things.specs.Below.coherent_memory.Sight.{sight}
use Rattle.law_counts_things.specs.Below.coherent_memory.Walking.{hop_count, too_far}
use Rattle.law_counts_things.specs.Below.coherent_memory.Paths.{Path, writes, ends, ending, path_of, written_place}
use Rattle.law_counts_things.specs.Below.coherent_memory.Rooted.{dressed}
use Rattle.law_counts_things.specs.Below.coherent_memory.Naming.{events_of, many_names, long_holder}
use Rattle.law_counts_things.specs.Below.coherent_memory.Coherent.{IsSound}
use Rattle.law_counts_things.proofs.Below.coherent_memory.Sums.{tot-append, server_parts}
use Rattle.law_counts_things.proofs.Below.law_counts_sums.Each.{at_most}
use Rattle.law_counts_things.proofs.Below.law_counts_sums.Bags.{counts_of, tot-without}
use Rattle.law_counts_things.proofs.Below.law_counts_sums.Events.{tot-server}
use Rattle.law_counts_things.proofs.Below.law_counts_sums.ThreadThere.{thread_there}
use Rattle.law_counts_things.specs.Below.coherent_types.Names.{NameTypes, names_of}
use Rattle.law_counts_things.specs.Below.coherent_types.ClusterTypes.{IsCoherent, Types, slots_wrong, entry_wrong, gives_other, forms_of}
use Rattle.law_counts_things.proofs.Below.law_words_paths.paths.Contained.{among_thread}
use Rattle.law_counts_things.proofs.Below.law_words_paths.paths.Forms.{none_of}
use Rattle.law_counts_limits.specs.limits.Counts.{events_in, IsThreadSmall, IsServerSmall, CountsAreSmall, FewAreFew}
use Rattle.law_counts_limits.proofs.limits.Numbers.{all_events}
use Rattle.law_counts_limits.proofs.limits.Lengths.{entry_within, few_slots}

-- as many values as slots
as_long : (n : NameTypes) (e : Env) (vs : List Value) → slots_wrong n e vs ≡ 0 → length vs ≡ length e
as_long n [] [] z = refl
as_long n (s ∷ e) (v ∷ vs) z = ap suc (as_long n e vs (omega (arith, z)))
as_long n [] (v ∷ vs) z = absurd (cc z)
as_long n (s ∷ e) [] z = absurd (cc z)

-- PLACES ARE SHORT

some_same : {X : Type 0} {a b : X} → Some a ≡ Some b → a ≡ b
some_same e = cc

slot_short : (s t j i : ℕ) (vs : List Value) (r : MutRef) → tot long_holder (things_at (slot_things s t) j vs) ≡ 0 → slice_get vs i ≡ Some (value.Mut r) → r.holder.depth ≤ 8
slot_short s t j i [] r z e = absurd (cc e)
slot_short s t j zero (v ∷ vs) r z e =
    let same : v ≡ value.Mut r = some_same e in
    let first : tot long_holder (slot_things s t j v) ≡ 0 = omega (arith, z, tot-append long_holder (slot_things s t j v) (things_at (slot_things s t) (j + 1) vs)) in
    let here_it : tot long_holder (slot_things s t j (value.Mut r)) ≡ 0 = subst (λ x. tot long_holder (slot_things s t j x) ≡ 0) same first in
    at_most r.holder.depth 8 (omega (arith, here_it))
slot_short s t j (suc i) (v ∷ vs) r z e = slot_short s t (j + 1) i vs r (omega (arith, z, tot-append long_holder (slot_things s t j v) (things_at (slot_things s t) (j + 1) vs))) e

temp_short : (s t j i : ℕ) (vs : List Value) (r : MutRef) → tot long_holder (things_at (temp_things s t) j vs) ≡ 0 → slice_get vs i ≡ Some (value.Mut r) → r.holder.depth ≤ 8
temp_short s t j i [] r z e = absurd (cc e)
temp_short s t j zero (v ∷ vs) r z e =
    let same : v ≡ value.Mut r = some_same e in
    let first : tot long_holder (temp_things s t j v) ≡ 0 = omega (arith, z, tot-append long_holder (temp_things s t j v) (things_at (temp_things s t) (j + 1) vs)) in
    let here_it : tot long_holder (temp_things s t j (value.Mut r)) ≡ 0 = subst (λ x. tot long_holder (temp_things s t j x) ≡ 0) same first in
    at_most r.holder.depth 8 (omega (arith, here_it))
temp_short s t j (suc i) (v ∷ vs) r z e = temp_short s t (j + 1) i vs r (omega (arith, z, tot-append long_holder (temp_things s t j v) (things_at (temp_things s t) (j + 1) vs))) e

abbrev Short : Path → Type 0
Short p = hop_count (written_place p) ≤ 8

ending_short : (v : Option Value) → ((r : MutRef) → v ≡ Some (value.Mut r) → r.holder.depth ≤ 8) → Short (ending v)
ending_short (Some (value.Mut r)) f = f r refl
ending_short _ f = omega arith

-- an instruction that typing knows follows a short place
path_short : (y : ThreadState) → ((i : ℕ) (r : MutRef) → slice_get y.slots i ≡ Some (value.Mut r) → r.holder.depth ≤ 8) → ((i : ℕ) (r : MutRef) → slice_get y.temps i ≡ Some (value.Mut r) → r.holder.depth ≤ 8)
    → {table : Table} {x z : Entry} (i : Instr) → InstrTypes table x i z → Short (path_of (Some i) y)
path_short y f g (instr.Assign w o) (i_assign t h a b c d) = by w.depth h.short
  where
    by : (n : ℕ) → n ≤ 8 → Short (Rattle.law_counts_things.specs.Below.coherent_memory.Paths.assigning y.slots w n)
    by zero l = ending_short (slice_get y.slots w.slot) (f w.slot)
    by (suc n) l = h.short
path_short y f g (instr.Read w true) (i_move a h c b o) = by w.depth
  where
    by : (n : ℕ) → Short (Rattle.law_counts_things.specs.Below.coherent_memory.Paths.taking w n)
    by zero = omega arith
    by (suc n) = h.short
path_short y f g instr.Discard t = ending_short (last_of y.temps) (g _)
path_short y f g instr.DropSlot t = ending_short (last_of y.slots) (f _)
path_short y f g (instr.Read w false) t = omega arith
path_short y f g (instr.Let o) t = omega arith
path_short y f g (instr.Borrow w) t = omega arith
path_short y f g (instr.BorrowMut w) t = omega arith
path_short y f g (instr.Box o) t = omega arith
path_short y f g (instr.Arith op a b) t = omega arith
path_short y f g (instr.Print o) t = omega arith
path_short y f g (instr.Spawn cs pc) t = omega arith
path_short y f g (instr.Join o) t = omega arith
path_short y f g (instr.Mutex o) t = omega arith
path_short y f g (instr.Dup w) t = omega arith
path_short y f g (instr.Lock w) t = omega arith
path_short y f g instr.Unlock t = omega arith
path_short y f g (instr.Par cs pc ds other) t = omega arith
path_short y f g instr.ParEnd t = omega arith
path_short y f g (instr.End o) t = omega arith

leads_short : (y : ThreadState) → ((i : ℕ) (r : MutRef) → slice_get y.slots i ≡ Some (value.Mut r) → r.holder.depth ≤ 8) → ((i : ℕ) (r : MutRef) → slice_get y.temps i ≡ Some (value.Mut r) → r.holder.depth ≤ 8)
    → {table : Table} {pc : ℕ} {x : Entry} (i : Instr) (ss : Successors) → Leads table pc x i ss → Short (path_of (Some i) y)
leads_short y f g i ss (to_next t) = path_short y f g i t
leads_short y f g i ss (ends_thread t) = omega arith

-- ONE SERVER

module _ (k : Cluster) (number : ℕ) (s : Server) (c : IsCoherent k) (here : server_at k.servers number ≡ Some s) where
  abbrev n : ℕ
  n = s.rest.number

  abbrev sound : IsSound k
  sound = c.sound

  abbrev types : Types k
  types = c.types

  abbrev done : ℕ
  done = events_in k.servers

  few : events_of (sight k) ≡ done
  few = all_events k.servers

  -- what weighs nothing in the cluster weighs nothing here
  counts_none : (f : Thing → ℕ) → tot f (things_of k) ≡ 0 → f (counts_of n s.events s.rest) ≡ 0
  counts_none f z = omega (arith, z, (tot-server f k.servers number s s here).0)

  module _ (t : ℕ) (y : ThreadState) (at : thread_in s.threads t ≡ Some y) where
    things_none : (f : Thing → ℕ) → tot f (things_of k) ≡ 0 → tot f (thread_things n false y) ≡ 0
    things_none f z = omega (arith, z, (tot-server f k.servers number s s here).0, server_parts f s, tot-without n f s.threads t y at)

    abbrev standing : Standing
    standing = record { server = n; packed = false; thread = y }

    among : Among standing (sight k).ground.threads
    among = (among_thread (sight k).ground.threads t standing (thread_there k sound number s here t y at)).0

    parts_none : (f : Thing → ℕ) → tot f (things_of k) ≡ 0 → (tot f (things_at (slot_things n y.number) 0 y.slots) ≡ 0) × (tot f (things_at (temp_things n y.number) 0 y.temps) ≡ 0)
    parts_none f z =
        let gift = gift_things y.number y.gift in
        let walk = things_at (walk_things n) 0 y.walk in
        let slots = things_at (slot_things n y.number) 0 y.slots in
        let temps = things_at (temp_things n y.number) 0 y.temps in
        let all : f (stands n false y) + tot f (gift ++ walk ++ slots ++ temps) ≡ 0 = things_none f z in
        let a = tot-append f (gift ++ walk ++ slots) temps in
        let b = tot-append f (gift ++ walk) slots in
        let d = tot-append f gift walk in
        let none : tot f slots + tot f temps ≡ 0 = omega (arith, all, a, b, d) in
        (omega (arith, none), omega (arith, none))

    -- typing knows its instruction
    entry : (x : Entry) × (types.table y.pc ≡ Some x)
    entry = by (types.table y.pc) (none_of (λ x. entry_wrong (gives_other (names_of types.object types.typing.gives) x.thread.number) (types.table x.thread.pc)) standing (sight k).ground.threads types.ends among)
      where
        by : (o : Option Entry) → entry_wrong (gives_other (names_of types.object types.typing.gives) y.number) o ≡ 0 → (x : Entry) × (o ≡ Some x)
        by None z = absurd (cc z)
        by (Some x) z = (x, refl)

    short : Short (path_of (slice_get k.code y.pc) y)
    short =
        let row = types.is_table.rows y.pc entry.0 entry.1 in
        let parts = parts_none long_holder sound.parts.holders_short in
        subst (λ o. Short (path_of o y)) (sym row.there) (leads_short y (λ i r e. slot_short n y.number 0 i y.slots r parts.0 e) (λ i r e. temp_short n y.number 0 i y.temps r parts.1 e) row.instruction row.successors row.leads)

    passed : y.passed ≤ 8
    passed =
        let all = none_of (too_far (sight k)) standing (sight k).ground.threads sound.walks.passed_within among in
        omega (arith, short, at_most y.passed (hop_count (written_place (path_of (slice_get k.code y.pc) y))) all)

    slots : length y.slots ≤ 2 * length k.code
    slots = by (is_over y.phase) refl
      where
        by : (b : Bool) → is_over y.phase ≡ b → length y.slots ≤ 2 * length k.code
        by true e =
            let all = none_of (dressed (sight k)) standing (sight k).ground.threads sound.rooted.over_are_bare among in
            let bare = sym (ap (λ b. if_so b (other (Rattle.law_counts_things.specs.Below.coherent_memory.Rooted.is_end (slice_get k.code y.pc)) + length y.slots + length y.temps + one (Rattle.std.specs.Prelude.is_some y.gift))) e) ∙ all in
            omega (arith, bare)
        by false e =
            let names = names_of types.object types.typing.gives in
            let all = none_of (λ x. if_so (not (is_over x.thread.phase)) (entry_wrong (forms_of names x.thread) (types.table x.thread.pc))) standing (sight k).ground.threads types.forms among in
            let going : entry_wrong (forms_of names y) (types.table y.pc) ≡ 0 = sym (ap (λ b. if_so (not b) (entry_wrong (forms_of names y) (types.table y.pc))) e) ∙ all in
            let known : forms_of names y entry.0 ≡ 0 = sym (ap (entry_wrong (forms_of names y)) entry.1) ∙ going in
            let long = as_long names (entry.0).env (reverse y.slots) (omega (arith, known)) in
            omega (arith, long, length-reverse y.slots, few_slots k.code types.table types.is_table y.pc entry.0 entry.1)

    thread_small : IsThreadSmall k.code done y
    thread_small = record {
      pc = entry_within k.code types.table types.is_table y.pc entry.0 entry.1;
      made =
          let f = many_names (events_of (sight k)) in
          let all = things_none f sound.names.few_names in
          let l : y.made ≤ 2 * events_of (sight k) = at_most y.made (2 * events_of (sight k)) (omega (arith, all)) in
          omega (arith, l, few);
      passed = passed;
      slots = slots;
    }

  events_less : (ss : List Server) → server_at ss number ≡ Some s → s.events ≤ events_in ss
  events_less [] e = absurd (cc e)
  events_less (x ∷ ss) e = by (x.rest.number == number) e (events_less ss)
    where
      by : (b : Bool) → (if b then Some x else server_at ss number) ≡ Some s → (server_at ss number ≡ Some s → s.events ≤ events_in ss) → s.events ≤ x.events + events_in ss
      by true q go = let same : s.events ≡ x.events = ap (λ (z : Server). z.events) (sym (some_same q)) in omega (arith, same)
      by false q go = omega (arith, go q)

  server_small : IsServerSmall k s
  server_small = record {
    started =
        let f = many_names (events_of (sight k)) in
        let mine = counts_none f sound.names.few_names in
        let l : s.rest.started ≤ 2 * events_of (sight k) = at_most s.rest.started (2 * events_of (sight k)) (omega (arith, mine)) in
        omega (arith, l, few);
    events = events_less k.servers here;
    threads = thread_small;
  }

pub counts_are_small : CountsAreSmall
counts_are_small k number s c here = server_small k number s c here

pub few_are_few : FewAreFew
few_are_few k l = let e : events_of (sight k) ≡ events_in k.servers = all_events k.servers in omega (arith, e, l)
