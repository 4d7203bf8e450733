-- A step that is done leaves its thread, and each one that it starts, with values that suit the entry where it stands.
use Rattle.std.proofs.Common.{◌≡◌, ℕ, ◌+◌, ◌==◌, not, Bool, true, false, List, [], Option, Some, None, refl, sym, ap, subst, ◌∙◌, arith}
use Rattle.std.specs.Bool.{⊤}
use Rattle.std.specs.Prelude.{option_map}
use Rattle.law_types_still.specs.Below.fr_base.Lists.{last_of}
use Rattle.law_types_still.specs.Below.fr_base.declared.step.Fresh.{Fresh}
use Rattle.law_types_still.specs.Below.fr_base.declared.step.Fresh.TheVariants as fresh
use Rattle.law_types_still.specs.Below.fr_base.declared.instruction.Instr.{Instr}
use Rattle.law_types_still.specs.Below.fr_base.declared.instruction.Instr.TheVariants as instr
use Rattle.law_types_still.specs.Below.fr_base.declared.instruction.Operand.{Operand}
use Rattle.law_types_still.specs.Below.fr_typing.Places.{alike}
use Rattle.law_types_still.specs.Below.fr_code.CodeTypes.{Entry, Table, InstrTypes}
use Rattle.law_types_still.specs.Below.fr_code.CodeTable.{Leads, to_next, ends, Successors, AllEnter, Enters, Row}
use Rattle.law_types_still.specs.Below.fr_code.Joins.{JoinsTo, alone, first, second}
use Rattle.law_types_still.specs.Below.migration.Packing.{unpin_all}
use Rattle.law_types_still.specs.Below.read_cache.Cache.{Copy}
use Rattle.law_types_still.specs.Below.thread_state.View.{ThreadState, is_over}
use Rattle.law_types_still.specs.Below.thread_state.declared.phase.Phase.{Phase}
use Rattle.law_types_still.specs.Below.thread_state.declared.phase.Phase.TheVariants as phase
use Rattle.law_types_still.specs.Below.server_model.Servers.{Server, Cluster}
use Rattle.law_types_still.specs.Below.server_model.Work.{Hand, with_cache, with_phase, then_some, pop_owned}
use Rattle.law_types_still.specs.Below.server_model.Places.{Spot}
use Rattle.law_types_still.specs.Below.server_model.Prepare.{Prepared, ready, requested, nothing, access_of, prepare}
use Rattle.law_types_still.specs.Below.server_model.Commit.{Committed, done, waits, refused, done_where, end_with, commit}
use Rattle.law_types_still.specs.Below.server_model.Events.{Stepped, done_step, committed, prepared, step}
use Rattle.law_types_still.specs.Below.coherent_memory.Names.{other, if_so}
use Rattle.law_types_still.specs.Below.coherent_memory.Coherent.{IsSound}
use Rattle.law_types_still.specs.Below.coherent_types.ClusterTypes.{entry_wrong}
use Rattle.law_types_still.specs.Below.law_counts_sums.Laws.{Gives}
use Rattle.law_types_still.proofs.Below.law_counts_sums.Results.{both_give}
use Rattle.law_types_still.proofs.Below.law_heap_still.events.Addresses.{in_place}
use Rattle.law_types_still.proofs.Below.law_heap_still.events.Leaving.{others, placed_here}
use Rattle.law_types_still.proofs.Below.law_heap_still.events.Readied.{IsPlaced}
use Rattle.law_types_still.proofs.Below.law_heap_still.events.Prepares.{prepare_shows, Fine as Shows}
use Rattle.law_types_still.proofs.Below.law_counts_things.things.Goes.{Goes, AsksHome, HasCell, on, waits_pair, is_over as goes_over, asks_cell, asks_home, gets_cell, gets_gift, goes_pair, thread_goes}
use Rattle.law_types_events.proofs.Below.law_words_paths.paths.Sole.{some_is}
use Rattle.law_types_events.proofs.Below.law_results_reads.Known.{Steps, hand}
use Rattle.law_types_events.proofs.sorts.Parts.{look_of, suits_at, env_join}
use Rattle.law_types_still.specs.Below.fr_base.declared.name.ObjNo.{ObjNo}
use Rattle.law_types_events.proofs.sorts.Suited.{unsuited_of, Suited, top_suits, Topped, to_suited, from_none, join_topped}
use Rattle.law_types_events.proofs.sorts.Commits.{is_left, Ends, step_fits}
use Rattle.law_types_events.proofs.sorts.Known.{its as its_entry, known, before, told}

-- what isn't there to be done isn't said
abbrev pub IsDone : Option Fresh → Type 0
IsDone o = (o ≡ None) → ⊥

-- a thread keeps its number
pub goes_number : {code : List Instr} {y y2 : ThreadState} → Goes code y y2 → y2.number ≡ y.number
goes_number (on i at o pc q passed walk g same) = same.number
goes_number (waits_pair cs pc ds to a b at m q passed walk g same) = same.number
goes_number (goes_over o at pc q passed walk slots temps g same) = same.number
goes_number (asks_cell i w at f pc q g same) = same.number
goes_number (asks_home i p at a pc q g passed walk same) = same.number
goes_number (gets_cell w was q pc g same) = same.number
goes_number (gets_gift was q pc passed walk temps shares same) = same.number
goes_number (goes_pair a b was q pc g passed walk same) = same.number

module _ (sees : ObjNo → Bool) where
  -- JOINS

  to_other : (b : Bool) → b ≡ true → other b ≡ 0
  to_other true e = refl
  to_other false e = absurd cc

  fit_joins : (x y : Entry) (t : ThreadState) → JoinsTo x y → Suited sees x.env t.slots → Topped sees x.temps t.temps → Suited sees y.env t.slots × Topped sees y.temps t.temps
  fit_joins _ _ t alone a b = (a, b)
  fit_joins x y t (first other j) a b = (to_suited sees x.env y.env t.slots (λ i l. (env_join x.env other.env y.env j.env j.variables.0 j.variables.1 i l).0) a, (join_topped sees (alike y.env) x.temps other.temps y.temps t.temps j.temps).0 b)
  fit_joins x y t (second other j) a b = (to_suited sees x.env y.env t.slots (λ i l. (env_join other.env x.env y.env j.env j.variables.0 j.variables.1 i l).1) a, (join_topped sees (alike y.env) other.temps x.temps y.temps t.temps j.temps).1 b)

  -- a thread that fits an entry of the table weighs nothing
  weighs_none : (table : Table) (t : ThreadState) (x : Entry) → table t.pc ≡ Some x → Suited sees x.env t.slots → Topped sees x.temps t.temps → entry_wrong (unsuited_of sees t) (table t.pc) ≡ 0
  weighs_none table t x at a b =
      let slots = from_none sees x.env 0 t.slots (λ j v q. (let n : j ≡ 0 + j = omega arith in subst (λ m. suits_at x.env m (look_of sees v) ≡ true) n (a j v q))) in
      ap (entry_wrong (unsuited_of sees t)) at ∙ omega (arith, slots, to_other (top_suits sees x.temps (last_of t.temps)) b)

  if_none : (b : Bool) (n : ℕ) → n ≡ 0 → if_so b n ≡ 0
  if_none true n e = e
  if_none false n e = refl

  -- THE STEP

  -- the thread is over where its end is done
  abbrev Overs : Committed → Type 0
  Overs (done names h) = is_over h.thread.phase ≡ true
  Overs c = ⊤

  overs : (o : Option Hand) → Overs (done_where fresh.None (option_map (with_phase phase.Over) o))
  overs None = tt
  overs (Some h) = refl

  module _ (P : ThreadState → Type 0) (same : (t : ThreadState) → P t → P (record t { passed = 0; walk = []; moved_since_step = false })) where
    abbrev pub WhereDone : Stepped → Type 0
    WhereDone d = IsDone d.names → P d.hand.thread

    abbrev Holds : Committed → Type 0
    Holds (done names h) = P h.thread
    Holds c = ⊤

    -- what holds where the plain step is done holds of the step
    settles : (c : Committed) → Holds c → Gives WhereDone (committed c)
    settles (done names h) g = by (unpin_all h.thread.walk h.work.rest.cache)
      where
        by : (o : Option (List Copy)) → Gives WhereDone (option_map (done_step names) (option_map (λ cs. record { work = with_cache cs h.work; thread = record h.thread { passed = 0; walk = []; moved_since_step = false } }) o))
        by None = tt
        by (Some cs) = λ d. same h.thread g
    settles (waits h) g = λ d. absurd (d refl)
    settles refused g = tt

  module _ (k : Cluster) (n t : ℕ) (s : Server) (y : ThreadState) (i : Instr) (z : Steps k n t s y i) (suits_now : entry_wrong (unsuited_of sees y) (z.coherent.types.table y.pc) ≡ 0) where
    abbrev sound : IsSound k
    sound = z.coherent.sound

    abbrev table : Table
    table = z.coherent.types.table

    abbrev h0 : Hand
    h0 = hand k n t s y i z

    abbrev its : Entry
    its = its_entry sees k n t s y i z suits_now

    abbrev servers : ℕ
    servers = k.options.servers

    placed : IsPlaced h0
    placed = in_place s.rest.number s.events s.rest (others k sound n s z.here) (placed_here k sound n s z.here)

    shows : Shows h0 (prepare (access_of i y) h0)
    shows = prepare_shows h0 (access_of i y) placed

    -- a fact of the plain step is one of the step
    by_place : (P : ThreadState → Type 0) (same : (t : ThreadState) → P t → P (record t { passed = 0; walk = []; moved_since_step = false }))
        → ((h : Hand) (sp : Spot) → prepare (access_of i y) h0 ≡ ready h sp → Shows h0 (ready h sp) → Holds P same (commit servers i sp h)) → Gives (WhereDone P same) (step servers i h0)
    by_place P same go = by (prepare (access_of i y) h0) refl shows
      where
        by : (p : Prepared) → prepare (access_of i y) h0 ≡ p → Shows h0 p → Gives (WhereDone P same) (prepared servers i p)
        by (ready h sp) e f = settles P same (commit servers i sp h) (go h sp e f)
        by (requested h) e f = λ d. absurd (d refl)
        by nothing e f = tt

    -- WHERE IT GOES ON

    module _ (e2 : Entry) (to : InstrTypes table its i e2) where
      abbrev Fits : ThreadState → Type 0
      Fits u = (Suited sees e2.env u.slots × Topped sees e2.temps u.temps) × (is_left sees u.phase ≡ true)

      ends_hold : (c : Committed) → Ends sees e2.env e2.temps c → Holds Fits (λ u a. a) c
      ends_hold (done names h) g = g
      ends_hold (waits h) g = tt
      ends_hold refused g = tt

      fits : Gives (WhereDone Fits (λ u a. a)) (step servers i h0)
      fits = by_place Fits (λ u a. a) (λ h sp e f. ends_hold (commit servers i sp h) (step_fits sees table its e2 i to servers sp h (before sees k n t s y i z suits_now h f.0) (told sees k n t s y i z suits_now h sp f.0 e)))

      -- then it stands at the next instruction
      next_pc : (u : ThreadState) → Goes k.code y u → is_left sees u.phase ≡ true → u.pc ≡ y.pc + 1
      next_pc u (on j at o pc q passed walk g same) l = pc
      next_pc u (waits_pair cs a ds b c d at pc q passed walk g same) l = pc
      next_pc u (goes_over o at pc q passed walk slots temps g same) l = let w : false ≡ true = sym (ap (is_left sees) q) ∙ l in absurd cc
      next_pc u (asks_cell j w at f pc q g same) l = let m : false ≡ true = sym (ap (is_left sees) q) ∙ l in absurd cc
      next_pc u (asks_home j p at a pc q g passed walk same) l = absurd (by j p a (sym (ap (is_left sees) q) ∙ l))
        where
          by : (j : Instr) (p : Phase) → AsksHome j p → is_left sees p ≡ true → ⊥
          by (instr.Join o) (phase.WaitJoin u) a e = cc
          by (instr.Dup w) (phase.WaitDup m) a e = cc
          by (instr.Lock w) (phase.WaitLock m) a e = cc
          by j p a e = elim a [ ]
      next_pc u (gets_cell w was got pc g same) l = absurd (by u.phase got l)
        where
          by : (p : Phase) → HasCell p → is_left sees p ≡ true → ⊥
          by phase.Got a e = cc
          by (phase.Taken w) a e = cc
          by p a e = elim a [ ]
      next_pc u (gets_gift was q pc passed walk temps shares same) l = let m : false ≡ true = sym (ap (is_left sees) q) ∙ l in absurd cc
      next_pc u (goes_pair a b was q pc g passed walk same) l = let m : false ≡ true = sym (ap (is_left sees) q) ∙ l in absurd cc

      module _ (into : Enters table (y.pc + 1) e2) where
        stands : (u : ThreadState) → Goes k.code y u → Fits u → entry_wrong (unsuited_of sees u) (table u.pc) ≡ 0
        stands u goes f =
            let j = fit_joins e2 into.entry u into.joins f.0.0 f.0.1 in
            weighs_none table u into.entry (ap table (next_pc u goes f.1) ∙ into.at) j.0 j.1

    -- WHATEVER INSTRUCTION

    abbrev Weightless : ThreadState → Type 0
    Weightless u = if_so (not (is_over u.phase)) (entry_wrong (unsuited_of sees u) (table u.pc)) ≡ 0

    abbrev pub Done : Stepped → Type 0
    Done d = IsDone d.names → Weightless d.hand.thread × (d.hand.thread.number ≡ y.number)

    goes_there : Gives (λ (d : Stepped). Goes k.code y d.hand.thread) (step servers i h0)
    goes_there = thread_goes k.code servers i y z.code s.rest h0 refl

    row : Row k.code table y.pc its
    row = z.coherent.types.is_table.rows y.pc its (known sees k n t s y i z suits_now)

    its_row : row.instruction ≡ i
    its_row = some_is (sym row.there ∙ z.code)

    abbrev Over : ThreadState → Type 0
    Over u = is_over u.phase ≡ true

    over_weightless : (u : ThreadState) → Over u → Weightless u
    over_weightless u e = ap (λ b. if_so (not b) (entry_wrong (unsuited_of sees u) (table u.pc))) e

    ended : (o : Operand) → i ≡ instr.End o → Gives Done (step servers i h0)
    ended o is =
        both_give (WhereDone Over (λ u a. a)) (λ (d : Stepped). Goes k.code y d.hand.thread) Done (step servers i h0)
        (by_place Over (λ u a. a) (λ h sp e f. overs_hold (commit servers i sp h) (subst (λ j. Overs (commit servers j sp h)) (sym is) (overs (then_some (pop_owned o h) (λ p. end_with (h.thread.number == 0) p.item p.hand))))))
        goes_there (λ d a b q. (over_weightless d.hand.thread (a q), goes_number b))
      where
        overs_hold : (c : Committed) → Overs c → Holds Over (λ u a. a) c
        overs_hold (done names h) g = g
        overs_hold (waits h) g = tt
        overs_hold refused g = tt

    by_row : (x : Entry) (j : Instr) (ss : Successors) → x ≡ its → j ≡ i → Leads table y.pc x j ss → AllEnter table ss → Gives Done (step servers i h0)
    by_row x j _ same is (to_next {y = e2} to) into =
        let typed : InstrTypes table its i e2 = subst (λ a. InstrTypes table its a e2) is (subst (λ a. InstrTypes table a j e2) same to) in
        both_give (WhereDone (Fits e2 typed) (λ u a. a)) (λ (d : Stepped). Goes k.code y d.hand.thread) Done (step servers i h0) (fits e2 typed) goes_there
        (λ d f g q. (if_none (not (is_over d.hand.thread.phase)) (entry_wrong (unsuited_of sees d.hand.thread) (table d.hand.thread.pc)) (stands e2 typed into.0 d.hand.thread g (f q)), goes_number g))
    by_row _ _ _ same is (ends {o = o} takes) into = ended o (sym is)

    pub step_suits : Gives Done (step servers i h0)
    step_suits = by_row its row.instruction row.successors refl its_row row.leads row.enter
