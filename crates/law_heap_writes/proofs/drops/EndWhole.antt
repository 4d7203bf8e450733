-- Each end of a thread, from a coherent cluster: a result doesn't own its own task, so that a task which is in the state before is in it afterwards, and a branch ends with unit.
use Rattle.std.proofs.Common.{◌≡◌, inl, inr, ℕ, zero, suc, ◌+◌, ◌<◌, ◌≤◌, ◌==◌, ◌||◌, Bool, true, false, List, [], ◌∷◌, length, reverse, Option, Some, None, option_map, refl, sym, ap, subst, ◌∙◌, arith}
use Rattle.std.proofs.lemmas.Bool.{eqb-true}
use Rattle.std.specs.Bool.{⊤}
use Rattle.law_words_writes.proofs.Below.law_results_reads.Below.coloured_heap.Times.{both}
use Rattle.law_words_writes.specs.Below.law_results_reads.Below.fr_base.declared.step.Fresh.TheVariants as fresh
use Rattle.law_words_writes.specs.Below.law_results_reads.Below.fr_base.declared.instruction.Operand.{Operand}
use Rattle.law_words_writes.specs.Below.law_results_reads.Below.fr_base.declared.instruction.Instr.{Instr}
use Rattle.law_words_writes.specs.Below.law_results_reads.Below.fr_base.declared.instruction.Instr.TheVariants as instr
use Rattle.law_words_writes.specs.Below.law_results_reads.Below.fr_typing.Kinds.{own, whole, unit}
use Rattle.law_words_writes.specs.Below.law_results_reads.Below.fr_code.CodeTypes.{Entry, Table, InstrTypes, i_par_end}
use Rattle.law_words_writes.specs.Below.law_results_reads.Below.fr_code.CodeTable.{Leads, Successors, to_next, ends}
use Rattle.law_words_writes.specs.Below.law_results_reads.Below.heap_partition.declared.value.Owned.{Owned}
use Rattle.law_words_writes.specs.Below.law_results_reads.Below.heap_partition.declared.value.Owned.TheVariants as owned
use Rattle.law_words_writes.specs.Below.law_results_reads.Below.join_home.Tasks.{Task, TaskState, going, let_go, kept, asked, in_pair}
use Rattle.law_words_writes.specs.Below.law_results_reads.Below.read_cache.Cache.{Copy}
use Rattle.law_words_writes.specs.Below.law_results_reads.Below.migration.Packing.{unpin_all}
use Rattle.law_words_writes.specs.Below.law_results_reads.Below.thread_state.View.{ThreadState}
use Rattle.law_words_writes.specs.Below.law_results_reads.Below.thread_state.declared.phase.Phase.TheVariants as phase
use Rattle.law_words_writes.specs.Below.law_results_reads.Below.thread_state.declared.value.Value.{Value}
use Rattle.law_words_writes.specs.Below.law_results_reads.Below.thread_state.declared.value.Value.TheVariants as value
use Rattle.law_words_writes.specs.Below.law_results_reads.Below.server_model.declared.event.Event.{Event}
use Rattle.law_words_writes.specs.Below.law_results_reads.Below.server_model.Servers.{Server, Cluster}
use Rattle.law_words_writes.specs.Below.law_results_reads.Below.server_model.Work.{Hand, Popped, with_temps, with_phase, with_cache, pop_owned, then_some}
use Rattle.law_words_writes.specs.Below.law_results_reads.Below.server_model.Places.{owns_nothing}
use Rattle.law_words_writes.specs.Below.law_results_reads.Below.server_model.Commit.{done_where, end_with}
use Rattle.law_words_writes.specs.Below.law_results_reads.Below.server_model.Events.{Stepped, stepped, begin_work, committed}
use Rattle.law_words_writes.specs.Below.law_results_reads.Below.server_model.Events.{step as server_step}
use Rattle.law_words_writes.specs.Below.law_results_reads.Below.server_model.Clusters.{hand_over_newer, apply}
use Rattle.law_words_writes.specs.Below.law_results_reads.Below.coherent_memory.Names.{tot, one, some, if_so, Among}
use Rattle.law_words_writes.specs.Below.law_results_reads.Below.coherent_memory.Things.{Thing, noted, as_result, things_of}
use Rattle.law_words_writes.specs.Below.law_results_reads.Below.coherent_memory.Sight.{sight}
use Rattle.law_words_writes.specs.Below.law_results_reads.Below.coherent_memory.OneHeap.{Node, task_n, owns, is_in_state, pair_note, in_pair_of, is_branch}
use Rattle.law_words_writes.specs.Below.law_results_reads.Below.coherent_memory.Coherent.{IsSound}
use Rattle.law_words_writes.specs.Below.law_results_reads.Below.law_counts_sums.Laws.{Gives}
use Rattle.law_words_writes.proofs.Below.law_results_reads.Below.law_counts_sums.Results.{both_give}
use Rattle.law_words_writes.specs.Below.law_results_reads.Below.coherent_types.Names.{NameTypes, fits, is_there}
use Rattle.law_words_writes.specs.Below.law_results_reads.Below.coherent_types.ClusterTypes.{has_form, temps_wrong, IsCoherent}
use Rattle.law_words_writes.proofs.Below.law_results_reads.Below.coherent_types.Branches.{branches_law}
use Rattle.law_heap_writes.proofs.drops.TypedStep as typed
use Rattle.law_words_writes.proofs.Below.law_results_reads.Operands.{gets, got_owned}
use Rattle.law_heap_steps.specs.turns.Turns.{IsPlainStep, ArePlainSteps, none_goes, instr_of, thread_of}
use Rattle.law_heap_steps.proofs.turns.Parts.{owned_in}
use Rattle.law_heap_steps.proofs.turns.Instructions.{Pops, PopsTo}
use Rattle.law_heap_steps.proofs.turns.Events.{AtStep, Sends, events_are}
use Rattle.law_heap_steps.proofs.turns.Clauses.{same_thread}
use Rattle.law_heap_steps.proofs.mutexes.Reach.{or_cases}
use Rattle.law_heap_steps.proofs.mutexes.Changed as changed
use Rattle.law_heap_steps.proofs.mutexes.NewLines.{popped_owned}
use Rattle.law_heap_steps.proofs.mutexes.NewMutex.{rest_less}
use Rattle.law_heap_steps.proofs.mutexes.ThreadTurns.{Next}
use Rattle.law_heap_steps.specs.threads.Tasks.{ends_with, IsKept}
use Rattle.law_heap_steps.proofs.threads.EndLines.{owned_ends, ends_are}
use Rattle.law_heap_steps.proofs.threads.ThreadEnds as thread_ends
use Rattle.law_heap_writes.specs.drops.Drops.{ends_thread}
use Rattle.law_heap_writes.proofs.drops.Under.{under_names}
use Rattle.law_heap_writes.proofs.drops.Clauses.{stepping}
use Rattle.law_heap_writes.proofs.drops.Levels as levels
use Rattle.law_heap_writes.proofs.drops.Levels.{fewer}
use Rattle.law_heap_writes.proofs.drops.Reaches as reaches
use Rattle.law_heap_writes.proofs.drops.Outside as outside
use Rattle.law_heap_writes.proofs.drops.ThreadLoses as loses
use Rattle.law_heap_writes.proofs.drops.EndLoses as ends_so
use Rattle.law_heap_writes.proofs.drops.EndGone as gone
use Rattle.law_heap_writes.proofs.drops.EndGone.{ends_of_free, is_zero, not_zero}

-- A BRANCH

-- the note of a branch in its pair
record NotedBranch (u : ℕ) (xs : List Thing) : Type 0 where
  server : ℕ
  note : Task
  parent : ℕ
  over : Bool
  among : Among (noted server note) xs
  paired : note.state ≡ in_pair parent over
  named : note.thread ≡ u

found_note : (u : ℕ) (xs : List Thing) → 1 ≤ tot (in_pair_of u) xs → NotedBranch u xs
found_note u [] l = absurd (omega (arith, l))
found_note u (noted r x ∷ xs) l = by (x.thread == u) x.state refl refl l (λ m. later (found_note u xs m))
  where
    later : NotedBranch u xs → NotedBranch u (noted r x ∷ xs)
    later it = record { server = it.server; note = it.note; parent = it.parent; over = it.over; among = inr it.among; paired = it.paired; named = it.named }

    by : (b : Bool) (z : TaskState) → (x.thread == u) ≡ b → x.state ≡ z → 1 ≤ if_so b (pair_note z) + tot (in_pair_of u) xs → (1 ≤ tot (in_pair_of u) xs → NotedBranch u (noted r x ∷ xs)) → NotedBranch u (noted r x ∷ xs)
    by true (in_pair p d) e f m go = record { server = r; note = x; parent = p; over = d; among = inl refl; paired = f; named = eqb-true x.thread u e }
    by true going e f m go = go (omega (arith, m))
    by true let_go e f m go = go (omega (arith, m))
    by true (kept v) e f m go = go (omega (arith, m))
    by true (asked p v) e f m go = go (omega (arith, m))
    by false z e f m go = go (omega (arith, m))
found_note u (_ ∷ xs) l =
    let it = found_note u xs (omega (arith, l)) in record { server = it.server; note = it.note; parent = it.parent; over = it.over; among = inr it.among; paired = it.paired; named = it.named }

unit_owns : (n : NameTypes) (v : Owned) → has_form n (whole (own unit)) (value.Own v) ≡ true → owns_nothing v ≡ true
unit_owns n owned.Unit e = refl
unit_owns n owned.Nothing e = refl
unit_owns n (owned.Int i) e = refl
unit_owns n (owned.Box p) e = absurd (cc e)
unit_owns n (owned.Mutex m) e = absurd (cc e)
unit_owns n (owned.Task t) e = absurd (cc e)

some_number : (i : ℕ) → some i ≡ true → 1 ≤ i
some_number zero e = absurd (cc e)
some_number (suc i) e = omega arith

-- an instruction that leads on doesn't end its thread
abbrev EndsHere : Instr → Type 0
EndsHere (instr.End o) = ⊤
EndsHere i = ⊥

goes_on : {table : Table} {a b : Entry} {i : Instr} → InstrTypes table a i b → EndsHere i → ⊥
goes_on i_par_end e = e
goes_on _ e = e

same_operand : {a b : Operand} → instr.End a ≡ instr.End b → a ≡ b
same_operand e = cc

same_item : {p q : Popped Owned} → Some p ≡ Some q → p ≡ q
same_item e = cc

module _ (k : Cluster) (co : IsCoherent k) (e : Event) (o : Operand) (s : Server) (t : ℕ) (x : ThreadState) (at : AtStep k e (instr.End o) s t x) where
  abbrev i : Instr
  i = instr.End o

  abbrev sound : IsSound k
  sound = co.sound

  abbrev start : Hand
  start = record { work = begin_work s.rest; thread = x }

  abbrev n : NameTypes
  n = levels.n k co

  -- WHAT IT ENDS WITH

  has_result_type : (p : Popped Owned) → pop_owned o start ≡ Some p → has_form n (whole (own (n.result x.number))) (value.Own p.item) ≡ true
  has_result_type p popped = let to = typed.typed k co e i s t x at in by (typed.entry k co e i s t x at) i to.0 to.1 refl (typed.temps_fit k co e i s t x at) (typed.gives_result k co e i s t x at)
    where
      by : (E : Entry) (i : Instr) (ss : Successors) → Leads co.types.table x.pc E i ss → i ≡ instr.End o → temps_wrong n E.temps (reverse x.temps) ≡ 0 → E.gives ≡ n.result x.number → has_form n (whole (own (n.result x.number))) (value.Own p.item) ≡ true
      by _ _ _ (ends {ts = ks} {g = y} {o = q} takes) e fit gives =
          let g = gets n q ks [] (own y) start takes fit in
          let v = got_owned n q start y [] g in
          let same = same_item (sym popped ∙ subst (λ a. pop_owned a start ≡ Some (record { item = v.0; hand = with_temps g.rest start })) (same_operand e) v.2) in
          subst (λ w. has_form n (whole (own w)) (value.Own p.item) ≡ true) gives (subst (λ (z : Popped Owned). has_form n (whole (own y)) (value.Own z.item) ≡ true) (sym same) (subst (λ w. has_form n (whole (own y)) w ≡ true) v.1 g.form))
      by _ i _ (to_next typed_so) e fit gives = absurd (goes_on typed_so (subst EndsHere (sym e) tt))

  -- a branch ends with unit
  branch_unit : is_branch (sight k) x.number ≡ true → n.result x.number ≡ unit
  branch_unit b =
      let it = found_note x.number (things_of k) (some_number (tot (in_pair_of x.number) (things_of k)) b) in
      let so = branches_law.noted k co it.server it.parent it.note it.over it.among it.paired in
      ap n.result (sym it.named) ∙ so.gives

  branch_ends : (p : Popped Owned) → pop_owned o start ≡ Some p → is_branch (sight k) x.number ≡ true → owns_nothing p.item ≡ true
  branch_ends p popped b = unit_owns n p.item (subst (λ w. has_form n (whole (own w)) (value.Own p.item) ≡ true) (branch_unit b) (has_result_type p popped))

  module _ (other : (x.number == 0) ≡ false) (v : Owned) (rest : List Value) (u : Pops o x.temps (value.Own v) rest) (said : ends_with o x ≡ Some (value.Own v)) (agrees : fits n (n.result x.number) v ≡ true) where
    abbrev became : ThreadState
    became = gone.became k sound e o s t x at v rest u said

    bare : x.gift ≡ None
    bare = gone.bare k sound e o s t x at v rest u said

    even : (q : Node) → owned_in q x.slots + owned_in q x.temps ≡ owned_in q x.slots + owned_in q rest + one (owns q v)
    even = gone.even k sound e o s t x at v rest u said

    abbrev it : Node
    it = task_n x.number

    abbrev Rest : List Thing
    Rest = loses.Rest k sound e i refl s t x at bare v became even

    none_bad : tot (levels.bad k co) Rest ≡ 0
    none_bad = let l = rest_less k sound e s at.here t x at.at at.number (levels.bad k co) in let z = levels.all_agree k co in omega (arith, l, z)

    falls : (w q : Node) → 1 ≤ tot (under_names (loses.s2 k sound e i refl s t x at bare v became even) w q) (loses.B k sound e i refl s t x at bare v became even) → levels.level n q < levels.level n w
    falls w q l =
        let at_start = loses.under_before k sound e i refl s t x at bare v became even (λ r. refl) (ends_so.once_then k sound e o s t x at v rest even) w q in
        levels.levels_fall k co w q Rest none_bad (omega (arith, l, at_start))

    -- where its task is in the state before, it is so afterwards
    in_then : is_in_state (sight k) it ≡ true → is_in_state (gone.s3 k sound e o s t x at v rest u said other) it ≡ true
    in_then here =
        let in_v = sym (loses.same_in k sound e i refl s t x at bare v became even it refl) ∙ (sym (gone.nodes_before k sound e o s t x at it) ∙ here) in
        let in_none = reaches.still_in k s.rest.number (gone.y k sound e o s t x at v rest u said) (gone.B k sound e o s t x at v rest u said) v it (levels.level n) (λ q own_it. fewer n (n.result x.number) q v agrees own_it) falls in_v in
        outside.more k s.rest.number (gone.y k sound e o s t x at v rest u said) s.rest (gone.C k sound e o s t x at v rest u said other) (as_result x.number) it v it in_none

    stays : is_in_state (sight k) it ≡ true → (cs : List Copy) → Sends k e s (stepped s (gone.d k sound e o s t x at v rest u said other cs)) → is_in_state (sight (Next k sound e i refl s t x at (gone.d k sound e o s t x at v rest u said other cs))) it ≡ true
    stays here cs goes =
        sym (changed.nodes_after k sound e s at.here t x at.at at.number (gone.d k sound e o s t x at v rest u said other cs) became (ap (λ g. (let z : ThreadState = record became { gift = g } in z)) bare) (gone.G2 k sound e o s t x at v rest u said other) (gone.moves_to k sound e o s t x at v rest u said other cs) goes
        (loses.beside1 k sound e i refl s t x at bare v became even) (tt, (tt, tt)) refl (thread_ends.once_then k sound e o s t x at v rest (Some v) (λ z. absurd (not_zero x.number other z))) it) ∙ in_then here

  -- THE END OF A THREAD THAT SOMEBODY WAITS FOR

  abbrev Wanted : Stepped → Type 0
  Wanted d = Sends k e s (stepped s d) → IsKept (Next k sound e i refl s t x at d) o x

  module _ (other : (x.number == 0) ≡ false) (owed : is_branch (sight k) x.number || is_in_state (sight k) (task_n x.number) ≡ true) where
    abbrev Both : Popped Owned → Type 0
    Both p = PopsTo o start value.Own p × (ends_with o x ≡ Some (value.Own p.item))

    settled : (p : Popped Owned) → pop_owned o start ≡ Some p → (g : Both p) → Gives Wanted (committed (done_where fresh.None (option_map (with_phase phase.Over) (end_with false p.item (with_temps g.0.rest start)))))
    settled p popped g = by (unpin_all x.walk (gone.sent_hand k sound e o s t x at p.item g.0.rest g.0.pops g.1 other).work.rest.cache)
      where
        by : (z : Option (List Copy)) → Gives Wanted (option_map (λ h2. record { hand = h2; names = Some fresh.None })
            (option_map (λ cs. record { work = with_cache cs (gone.sent_hand k sound e o s t x at p.item g.0.rest g.0.pops g.1 other).work; thread = record (gone.sent_hand k sound e o s t x at p.item g.0.rest g.0.pops g.1 other).thread { passed = 0; walk = []; moved_since_step = false } }) z))
        by None = tt
        by (Some cs) = λ goes.
            or_cases (is_branch (sight k) x.number) (is_in_state (sight k) (task_n x.number)) (IsKept (Next k sound e i refl s t x at (gone.d k sound e o s t x at p.item g.0.rest g.0.pops g.1 other cs)) o x) (λ b. inl (ap none_goes g.1 ∙ branch_ends p popped b))
            (λ here. inr (other, stays other p.item g.0.rest g.0.pops g.1 (both (is_there p.item) (fits n (n.result x.number) p.item) (has_result_type p popped)).1 here cs goes)) owed

    pub kept_line : Gives Wanted (server_step k.options.servers i start)
    kept_line = by (pop_owned o start) refl (both_give (PopsTo o start value.Own) (λ (p : Popped Owned). ends_with o x ≡ Some (value.Own p.item)) Both (pop_owned o start) (popped_owned o start) (owned_ends o start) (λ p a b. (a, b)))
      where
        by : (q : Option (Popped Owned)) → pop_owned o start ≡ q → Gives Both q → Gives Wanted (committed (done_where fresh.None (option_map (with_phase phase.Over) (then_some q (λ z. end_with (x.number == 0) z.item z.hand)))))
        by None p g = tt
        by (Some z) p g =
            subst (λ h. Gives Wanted (committed (done_where fresh.None (option_map (with_phase phase.Over) (end_with (x.number == 0) z.item h))))) (sym g.0.hand)
            (subst (λ b. Gives Wanted (committed (done_where fresh.None (option_map (with_phase phase.Over) (end_with b z.item (with_temps g.0.rest start)))))) (sym other) (settled z p g))

pub ends_plain : ArePlainSteps IsCoherent ends_thread
ends_plain k e i q it co few = let y = stepping k e i q in by i q it y.0 y.1
  where
    of_other : (o : Operand) (y : ThreadState) → instr_of k e ≡ Some (instr.End o) → thread_of k e ≡ Some y → (y.number == 0) ≡ false → (b : Bool) → is_branch (sight k) y.number || is_in_state (sight k) (task_n y.number) ≡ b → Gives (IsPlainStep k) (apply k e)
    of_other o y q th other false f = ends_of_free k e o y q th (inr f) co.sound few
    of_other o y q th other true f =
        both_give (λ d. IsKept d.0 o y) (λ d. IsKept d.0 o y → IsPlainStep k d) (IsPlainStep k) (apply k e)
        (events_are (λ d. IsKept d.0 o y) k e (instr.End o) co.sound few (λ s t x at.
        subst (λ z. Gives (λ (d : Stepped). Sends k e s (stepped s d) → IsKept (record k { servers = hand_over_newer e.server (length s.rest.outbox) (stepped s d).0 k.servers }) o z) (server_step k.options.servers (instr.End o) (record { work = begin_work s.rest; thread = x }))) (same_thread k e (instr.End o) s t x y at th) (kept_line k co e o s t x at (ap (λ (z : ThreadState). z.number == 0) (same_thread k e (instr.End o) s t x y at th) ∙ other)
        (ap (λ (z : ThreadState). is_branch (sight k) z.number || is_in_state (sight k) (task_n z.number)) (same_thread k e (instr.End o) s t x y at th) ∙ f))) q)
        (ends_are k e o y q th co.sound few) (λ d kept plain. plain kept)

    whole : (o : Operand) (y : ThreadState) → instr_of k e ≡ Some (instr.End o) → thread_of k e ≡ Some y → (b : Bool) → (y.number == 0) ≡ b → Gives (IsPlainStep k) (apply k e)
    whole o y q th true main = ends_of_free k e o y q th (inl (is_zero y.number main)) co.sound few
    whole o y q th false other = of_other o y q th other (is_branch (sight k) y.number || is_in_state (sight k) (task_n y.number)) refl

    by : (i : Instr) → instr_of k e ≡ Some i → ends_thread i ≡ true → (y : ThreadState) → thread_of k e ≡ Some y → Gives (IsPlainStep k) (apply k e)
    by (instr.End o) q it y th = whole o y q th (y.number == 0) refl
    by _ q it y th = absurd (cc it)
