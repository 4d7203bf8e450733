-- A box of a new object, at the server and on the plain machine: the value on top goes into it, and the box comes in its place.
use Rattle.std.proofs.Common.{◌≡◌, ℕ, ◌+◌, Bool, true, false, if◌then◌else◌, List, [], ◌∷◌, ◌++◌, length, Option, Some, None, option_map, refl, sym, ap, subst, ◌∙◌, arith}
use Rattle.law_heap_steps.specs.Below.fr_base.declared.name.ObjNo.{ObjNo}
use Rattle.law_heap_steps.specs.Below.fr_base.declared.label.Label.TheVariants as label
use Rattle.law_heap_steps.specs.Below.fr_base.declared.label.Plain.TheVariants as plain
use Rattle.law_heap_steps.specs.Below.fr_base.declared.step.Fresh.{Fresh}
use Rattle.law_heap_steps.specs.Below.fr_base.declared.step.Fresh.TheVariants as fresh
use Rattle.law_heap_steps.specs.Below.fr_base.declared.instruction.Operand.{Operand}
use Rattle.law_heap_steps.specs.Below.fr_base.declared.instruction.Instr.{Instr}
use Rattle.law_heap_steps.specs.Below.fr_base.declared.instruction.Instr.TheVariants as instr
use Rattle.law_heap_steps.specs.Below.fr_plain.declared.value.Value.{Value as PlainValue}
use Rattle.law_heap_steps.specs.Below.fr_plain.declared.value.Value.TheVariants as plain_v
use Rattle.law_heap_steps.specs.Below.fr_plain.MachineActs.{do_box}
use Rattle.law_heap_steps.specs.Below.fr_plain.PlainState.{SameState, plain_state}
use Rattle.law_heap_steps.specs.Below.fr_code.Machine.{CodeWhole, CodeRunning}
use Rattle.law_heap_steps.specs.Below.fr_code.Steps.{Place, over_at, run_instr, loud}
use Rattle.law_heap_steps.specs.Below.heap_partition.Plain.{plain_of}
use Rattle.law_heap_steps.specs.Below.heap_partition.declared.value.Cell.{Cell}
use Rattle.law_heap_steps.specs.Below.heap_partition.declared.value.Owned.{Owned}
use Rattle.law_heap_steps.specs.Below.heap_partition.declared.value.Owned.TheVariants as owned
use Rattle.law_heap_steps.specs.Below.colour_retire.Colours.{picked}
use Rattle.law_heap_steps.specs.Below.owner_box.View.{PartitionState}
use Rattle.law_heap_steps.specs.Below.owner_box.Partition.{made, new_word}
use Rattle.law_heap_steps.specs.Below.read_cache.Cache.{Copy}
use Rattle.law_heap_steps.specs.Below.migration.Packing.{unpin_all}
use Rattle.law_heap_steps.specs.Below.thread_state.View.{ThreadState}
use Rattle.law_heap_steps.specs.Below.thread_state.declared.value.Value.{Value}
use Rattle.law_heap_steps.specs.Below.thread_state.declared.value.Value.TheVariants as value
use Rattle.law_heap_steps.specs.Below.journal.declared.act.Act.TheVariants as act
use Rattle.law_heap_steps.specs.Below.server_model.declared.event.Event.{Event}
use Rattle.law_heap_steps.specs.Below.server_model.Servers.{Server, Cluster}
use Rattle.law_heap_steps.specs.Below.server_model.Work.{Hand, Popped, note, with_partition, with_temps, with_cache, pop_owned, then_some}
use Rattle.law_heap_steps.specs.Below.server_model.NewWords.{NewWord, can_grow}
use Rattle.law_heap_steps.specs.Below.server_model.Commit.{goes_on, go_on, push_box, make_box}
use Rattle.law_heap_steps.specs.Below.server_model.Events.{Stepped, begin_work, committed, step}
use Rattle.law_heap_steps.specs.Below.coherent_memory.Things.{Thing}
use Rattle.law_heap_steps.specs.Below.coherent_memory.OneHeap.{running_at, one_heap, state_of}
use Rattle.law_heap_still.specs.Below.coherent_types.ClusterTypes.{IsCoherent}
use Rattle.law_heap_steps.specs.Below.law_counts_sums.Laws.{Gives}
use Rattle.law_heap_steps.proofs.Below.law_counts_sums.Bags.{of_partition}
use Rattle.law_heap_steps.proofs.Below.law_counts_sums.Objects.{makes}
use Rattle.law_heap_steps.specs.Below.law_heap_still.events.Shows.{sign_of}
use Rattle.law_heap_steps.proofs.Below.law_heap_still.events.Addresses.{InPlace, in_place, next_empty, no_vacancy}
use Rattle.law_heap_steps.proofs.Below.law_heap_still.events.Leaving.{others, placed_here}
use Rattle.law_heap_steps.proofs.Below.law_heap_still.events.Readied.{copies_ready}
use Rattle.law_heap_steps.specs.turns.Turns.{StepsTo}
use Rattle.law_heap_steps.proofs.turns.OneTurn.{after}
use Rattle.law_heap_steps.proofs.turns.Instructions.{shown_last, shown_push, Pops, PopsTo}
use Rattle.law_heap_steps.proofs.turns.Events.{AtStep, then_same}
use Rattle.law_heap_steps.proofs.mutexes.Changed.{state_before}
use Rattle.law_heap_steps.proofs.mutexes.DupLines.{running_to}
use Rattle.law_heap_steps.proofs.mutexes.OneThread.{GoesOn}
use Rattle.law_heap_steps.proofs.mutexes.NewLines.{popped_owned}
use Rattle.law_heap_steps.proofs.mutexes.NewObject as new_object
use Rattle.law_heap_steps.proofs.mutexes.PlainBox.{box_steps}
use Rattle.law_heap_steps.proofs.mutexes.ThreadTurns.{ThreadTurn}

module _ (k : Cluster) (co : IsCoherent k) (e : Event) (o : Operand) (s : Server) (t : ℕ) (x : ThreadState) (at : AtStep k e (instr.Box o) s t x) where
  abbrev i : Instr
  i = instr.Box o

  abbrev start : Hand
  start = record { work = begin_work s.rest; thread = x }

  abbrev n : ℕ
  n = s.rest.number

  abbrev p : PartitionState
  p = s.rest.partition

  abbrev O : ObjNo
  O = record { thread = x.number; count = x.made }

  abbrev Wanted : Stepped → Type 0
  Wanted d = (names : Fresh) → d.names ≡ Some names → ThreadTurn k co.sound e i refl s t x at d

  placed : InPlace n p
  placed = in_place n s.events s.rest (others k co.sound e.server s at.here) (placed_here k co.sound e.server s at.here)

  module _ (v : Owned) (rest : List Value) (u : Pops o x.temps (value.Own v) rest) where
    abbrev cell : Cell
    cell = record { object = O; value = v }

    abbrev word : ℕ
    word = new_word p

    abbrev address : ℕ
    address = (picked p.free (length p.cells)).0

    abbrev box : Owned
    box = owned.Box (record { word = word; object = O })

    abbrev temps : List Value
    temps = rest ++ value.Own box ∷ []

    abbrev became : ThreadState
    became = record (after x (x.pc + 1) x.slots temps) { made = x.made + 1 }

    abbrev G2 : List Thing
    G2 = new_object.G2 k co e o s t x at v rest u word address (made p cell)

    steps : (c : CodeWhole) → SameState (plain_state c) (one_heap k) → StepsTo k.code c x.number fresh.None (state_of (new_object.s2 k co e o s t x at v rest u word address (made p cell))) (label.Make O (plain_of v) ∷ [])
    steps c same =
        let a = state_of (new_object.s1 k co e o s t x at) in
        let b = state_of (new_object.s2 k co e o s t x at v rest u word address (made p cell)) in
        let shown : SameState (plain_state c) a = then_same (plain_state c) (one_heap k) a same (state_before k co.sound e s at.here t x at.at at.number) in
        let q : CodeRunning = running_to (x.pc + 1) (plain_v.Own (plain.Box O) ∷ shown_last rest) (shown_last x.slots) in
        let plug : PlainValue → Place = λ z. record { pc = x.pc + 1; temps = z ∷ shown_last rest } in
        let goes : GoesOn x.number (running_at x) q a b =
        subst (λ z. GoesOn x.number (running_at x) z a b) (ap (λ l. running_to (x.pc + 1) l (shown_last x.slots)) (shown_push rest (value.Own box))) (new_object.thread_on k co e o s t x at v rest u word address (made p cell)) in
        box_steps k.code c x.number x.made (plain_of v) (running_at x) plug a b O refl goes shown (ap (λ j. over_at j (shown_last x.temps)) at.code)
        (ap (λ j. run_instr j x.pc (shown_last x.temps)) at.code ∙ u.taken (λ z us. loud (x.pc + 1) us (do_box z)))
        (new_object.made_before k co e o s t x at v rest u word address (made p cell)) (new_object.made_then k co e o s t x at v rest u word address (made p cell)) (new_object.made_others k co e o s t x at v rest u word address (made p cell))
        (new_object.it_then k co e o s t x at v rest u word address (made p cell)) (new_object.others_on k co e o s t x at v rest u word address (made p cell)) (new_object.mutexes_on k co e o s t x at v rest u word address (made p cell))
        (new_object.names_on k co e o s t x at v rest u word address (made p cell))

    abbrev new : NewWord
    new = record { word = word; work = note (act.Make O word) (with_partition (made p cell) start.work) }

    abbrev made_hand : Hand
    made_hand = push_box v new (with_temps rest start)

    settled : Gives Wanted (committed (goes_on (Some made_hand)))
    settled = by (unpin_all x.walk s.rest.cache)
      where
        by : (q : Option (List Copy)) → Gives Wanted (option_map (λ h2. record { hand = h2; names = Some fresh.None })
            (option_map (λ cs. record { work = with_cache cs made_hand.work; thread = record (go_on made_hand).thread { passed = 0; walk = []; moved_since_step = false } }) q))
        by None = tt
        by (Some cs) = λ names named. record {
          became = became;
          names = fresh.None;
          thread = ap (λ g. (let z : ThreadState = record became { gift = g } in z)) (new_object.bare k co e o s t x at);
          named = refl;
          comes = G2;
          moves = record {
            number = refl;
            alike = λ w z.
                let f : Thing → ℕ = λ a. w (sign_of a) in
                let trade = of_partition n 0 s.rest (made p cell) (makes n p cell p.free (next_empty n p placed)) in
                let cache = (copies_ready made_hand cs []).0.moves.alike w z in
                omega (arith, z, trade.before f, trade.after f, cache, no_vacancy w z n p.free);
          };
          beside = (tt, (tt, tt));
          unstray = refl;
          once = new_object.once_then k co e o s t x at v rest u word address (made p cell);
          steps = steps;
        }

  pub box_line : Gives Wanted (step k.options.servers i start)
  box_line = by (pop_owned o start) (popped_owned o start)
    where
      by : (q : Option (Popped Owned)) → Gives (PopsTo o start value.Own) q → Gives Wanted (committed (goes_on (then_some q (λ z. make_box z.item z.hand))))
      by None g = tt
      by (Some z) g = subst (λ h. Gives Wanted (committed (goes_on (make_box z.item h)))) (sym g.hand) (of (can_grow p))
        where
          of : (c : Bool) → Gives Wanted (committed (goes_on (option_map (λ w. push_box z.item w (with_temps g.rest start)) (if c then Some (new z.item g.rest g.pops) else None))))
          of true = settled z.item g.rest g.pops
          of false = tt
