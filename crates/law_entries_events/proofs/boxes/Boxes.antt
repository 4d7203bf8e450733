-- The step of a thread that makes an object: from what it does at its server to its entry.
use Rattle.std.proofs.Common.{◌≡◌, ℕ, ◌==◌, Bool, true, false, if◌then◌else◌, List, [], ◌∷◌, Option, Some, None, option_map, refl, sym, ap, subst, ◌∙◌, arith}
use Rattle.std.specs.Prelude.{slice_get, length}
use Rattle.law_entries_writes.specs.Below.law_entries_reads.Below.law_words_borrows.Below.fr_base.declared.label.Label.{Label}
use Rattle.law_entries_writes.specs.Below.law_entries_reads.Below.law_words_borrows.Below.fr_base.declared.label.Label.TheVariants as label
use Rattle.law_entries_writes.specs.Below.law_entries_reads.Below.law_words_borrows.Below.fr_base.declared.name.ObjNo.{ObjNo}
use Rattle.law_entries_writes.specs.Below.law_entries_reads.Below.law_words_borrows.Below.fr_base.declared.instruction.Operand.{Operand}
use Rattle.law_entries_writes.specs.Below.law_entries_reads.Below.law_words_borrows.Below.fr_base.declared.instruction.Operand.TheVariants as operand
use Rattle.law_entries_writes.specs.Below.law_entries_reads.Below.law_words_borrows.Below.fr_base.declared.instruction.Instr.TheVariants as instr
use Rattle.law_entries_writes.specs.Below.law_entries_reads.Below.law_words_borrows.Below.fr_base.declared.step.Fresh.TheVariants as fresh
use Rattle.law_entries_writes.specs.Below.law_entries_reads.Below.law_words_borrows.Below.heap_partition.Plain.{plain_of}
use Rattle.law_entries_writes.specs.Below.law_entries_reads.Below.law_words_borrows.Below.heap_partition.declared.value.Cell.{Cell}
use Rattle.law_entries_writes.specs.Below.law_entries_reads.Below.law_words_borrows.Below.heap_partition.declared.value.Owned.{Owned}
use Rattle.law_entries_writes.specs.Below.law_entries_reads.Below.law_words_borrows.Below.heap_partition.declared.value.Owned.TheVariants as owned
use Rattle.law_entries_writes.specs.Below.law_entries_reads.Below.law_words_borrows.Below.owner_box.View.{PartitionState}
use Rattle.law_entries_writes.specs.Below.law_entries_reads.Below.law_words_borrows.Below.owner_box.Partition.{new_word, made}
use Rattle.law_entries_writes.specs.Below.law_entries_reads.Below.law_words_borrows.Below.journal.declared.act.Act.{Act}
use Rattle.law_entries_writes.specs.Below.law_entries_reads.Below.law_words_borrows.Below.journal.declared.act.Act.TheVariants as act
use Rattle.law_entries_writes.specs.Below.law_entries_reads.Below.law_words_borrows.Below.thread_state.View.{ThreadState, is_over}
use Rattle.law_entries_writes.specs.Below.law_entries_reads.Below.law_words_borrows.Below.thread_state.declared.phase.Phase.{Phase}
use Rattle.law_entries_writes.specs.Below.law_entries_reads.Below.law_words_borrows.Below.thread_state.declared.phase.Phase.TheVariants as phase
use Rattle.law_entries_writes.specs.Below.law_entries_reads.Below.law_words_borrows.Below.thread_state.declared.value.Value.{Value}
use Rattle.law_entries_writes.specs.Below.law_entries_reads.Below.law_words_borrows.Below.server_model.declared.event.What.TheVariants.{Step}
use Rattle.law_entries_writes.specs.Below.law_entries_reads.Below.law_words_borrows.Below.server_model.Servers.{Server, Cluster, server_at}
use Rattle.law_entries_writes.specs.Below.law_entries_reads.Below.law_words_borrows.Below.server_model.Work.{Work, Hand, Popped, last_of, front_of, owned_of, taken_as, then_some, with_temps, note, with_partition, label_all, working, thread_in}
use Rattle.law_entries_writes.specs.Below.law_entries_reads.Below.law_words_borrows.Below.server_model.NewWords.{NewWord as Given, can_grow}
use Rattle.law_entries_writes.specs.Below.law_entries_reads.Below.law_words_borrows.Below.server_model.Commit.{push_box, make_box, box_up}
use Rattle.law_entries_writes.specs.Below.law_entries_reads.Below.law_words_borrows.Below.server_model.Events.{can_step, begin_work}
use Rattle.law_entries_writes.specs.Below.law_entries_variables.Below.coloured_heap.Heap.{Coloured}
use Rattle.law_entries_writes.specs.Below.law_entries_variables.Below.coloured_heap.Changes.{made_value}
use Rattle.law_entries_writes.specs.Below.law_entries_reads.Below.law_words_borrows.Below.coherent_memory.Things.{Thing}
use Rattle.law_entries_writes.specs.Below.law_entries_reads.Below.law_words_borrows.Below.coherent_memory.Sight.{sight}
use Rattle.law_entries_writes.specs.Below.law_entries_reads.Below.law_words_borrows.Below.coherent_memory.Words.{HasWords}
use Rattle.law_entries_writes.specs.Below.law_entries_reads.Below.law_words_borrows.Below.coherent_memory.Colours.{StandsColoured}
use Rattle.law_entries_writes.specs.Below.law_entries_reads.Below.law_words_borrows.Below.coherent_memory.Coherent.{IsSound}
use Rattle.law_entries_writes.specs.Below.law_entries_reads.Below.law_words_borrows.Below.coherent_types.ClusterTypes.{IsCoherent}
use Rattle.law_entries_writes.specs.Below.law_entries_reads.Below.law_words_borrows.Below.law_counts_sums.Laws.{Gives, FewEvents}
use Rattle.law_entries_writes.specs.Below.law_entries_reads.Below.law_words_borrows.Below.law_words_paths.words.Unmoved.{taking_by}
use Rattle.law_entries_writes.proofs.Below.law_entries_reads.Below.law_words_borrows.Below.law_counts_sums.Bags.{of_partition}
use Rattle.law_entries_writes.proofs.Below.law_entries_reads.Below.law_words_borrows.Below.law_counts_sums.Objects.{taken_place, makes}
use Rattle.law_entries_writes.proofs.Below.law_entries_reads.Below.law_words_borrows.Below.law_counts_sums.GiftsTaken.{gift_fits}
use Rattle.law_entries_writes.proofs.Below.law_entries_reads.Below.law_words_borrows.Below.law_words_kept.stays.Steps.{TakesNoneHere}
use Rattle.law_entries_writes.proofs.Below.law_entries_reads.Below.law_words_borrows.Below.law_words_kept.prepared.Asking.{found_number}
use Rattle.law_entries_writes.proofs.Below.law_entries_reads.Below.law_words_borrows.Below.law_words_values.made.Servers.{vacant_there}
use Rattle.law_entries_writes.proofs.Below.law_entries_variables.Below.law_heap_still.events.Tests.{numbers, objects}
use Rattle.law_entries_writes.specs.Below.law_entries_variables.deliveries.Entries.{EntryLegal}
use Rattle.law_entries_writes.proofs.Below.law_entries_variables.deliveries.Answers.{Answers, answers_of, Fits, fits}
use Rattle.law_entries_writes.proofs.Below.law_entries_variables.deliveries.Weighed.{WorkTurns}
use Rattle.law_entries_writes.proofs.Below.law_entries_variables.deliveries.Runs.{runs_one}
use Rattle.law_entries_writes.proofs.Below.law_entries_variables.deliveries.Applied.{server_there}
use Rattle.law_entries_writes.proofs.Below.law_entries_variables.still.PlainSteps.{lives}
use Rattle.law_entries_writes.specs.Below.law_entries_reads.locks.Boxes.{HasNextWord}
use Rattle.law_entries_writes.proofs.Below.law_entries_reads.locks.NextWords.{boxes_take}
use Rattle.law_entries_writes.specs.Below.law_entries_variables.variables.Steps.{StepsLegal}
use Rattle.law_entries_writes.proofs.Below.law_entries_variables.variables.Turning.{Turning, begins, rethreaded, labelled, worked}
use Rattle.law_entries_writes.proofs.Below.law_entries_variables.variables.Led.{done_entry, done_leads, Steps, goes_on_led}
use Rattle.law_entries_writes.proofs.Below.law_entries_variables.variables.InStep.{by_number, step_legal}
use Rattle.law_entries_writes.proofs.Below.law_entries_variables.variables.Quiets.{running_here, it_runs, names_none}
use Rattle.law_entries_events.specs.boxes.Boxes.{MakesBox, boxes}
use Rattle.law_entries_events.proofs.boxes.Making.{making, make_allowed}
use Rattle.law_entries_events.proofs.boxes.NewAddress.{NewWord, new_word_is}
use Rattle.law_entries_events.proofs.boxes.Comes.{next_name, its_cell, unmade, agrees}

-- nothing is taken at a box
box_takes : (t : ℕ) (p : Phase) (o : Operand) → taking_by t p (Some (instr.Box o)) ≡ None
box_takes t (phase.Taken w) o = refl
box_takes t _ o = refl

module _ (k : Cluster) (coherent : IsCoherent k) (few : FewEvents k) (s : Server) (here : server_at k.servers s.rest.number ≡ Some s) (t : ℕ) (y : ThreadState) (at : thread_in s.threads t ≡ Some y) (o : Operand) (code : slice_get k.code y.pc ≡ Some (instr.Box o))
    (c0 : Coloured) (is_coloured : StandsColoured k c0) (calm : can_step y.phase ≡ true) where
  abbrev sound : IsSound k
  sound = coherent.sound

  abbrev n : ℕ
  n = s.rest.number

  abbrev p : PartitionState
  p = s.rest.partition

  abbrev start : Hand
  start = record { work = begin_work s.rest; thread = y }

  abbrev name : ObjNo
  name = next_name y

  abbrev w : ℕ
  w = new_word p

  abbrev before : HasWords (sight k)
  before = sound.words.have_words

  abbrev P : Hand → Type 0
  P = Steps (λ c. HasNextWord k c s y before) k s y c0 fresh.None false

  live : is_over y.phase ≡ false
  live = lives y.phase calm

  bare : y.gift ≡ None
  bare = (gift_fits k sound n s here t y at (instr.Box o) code).0

  untaken : TakesNoneHere k.code y
  untaken = subst (λ j. taking_by y.number y.phase j ≡ None) (sym code) (box_takes y.number y.phase o)

  own : thread_in s.threads y.number ≡ Some y
  own = by_number s t y at

  module _ (v : Owned) (ts : List Value) (grows : can_grow p ≡ true) where
    abbrev cell : Cell
    cell = record { object = name; value = v }

    abbrev acts : List Act
    acts = act.Make name w ∷ []

    abbrev ls : List Label
    ls = label.Make name (plain_of v) ∷ []

    abbrev placed : Work
    placed = note (act.Make name w) (with_partition (made p cell) (begin_work s.rest))

    abbrev gone : List Thing
    gone = taken_place n p.free

    abbrev come : List Thing
    come = its_cell s y v ∷ []

    -- the partition takes it
    turns : WorkTurns (begin_work s.rest) gone come acts placed
    turns = record {
      number = refl;
      noted = refl;
      labels = refl;
      things = λ f h.
          let r = s.rest in
          let u = of_partition n 0 r (made p cell) (makes n p cell p.free (vacant_there k sound s here)) in
          omega (arith, u.before f, u.after f, h.counted n (length p.cells) p.retired r.started r.mutexes.made 0, h.counted n (length (made p cell).cells) (made p cell).retired r.started r.mutexes.made 0);
    }

    its : NewWord k sound few s here
    its = new_word_is k sound few s here grows

    abbrev new : Given
    new = record { word = w; work = placed }

    box_steps : P (push_box v new (with_temps ts start))
    box_steps =
        let h1 : Hand = record (with_temps ts start) { work = placed } in
        let h2 : Hand = push_box v new (with_temps ts start) in
        let t0 : Turning s y [] [] [] (with_temps ts start) = rethreaded s y [] [] [] start (begins s y) (record y { temps = ts }) refl refl in
        let t1 : Turning s y gone come acts h1 = worked s y [] [] [] (with_temps ts start) t0 placed gone come acts turns in
        let t2 : Turning s y gone come acts (working (label_all ls) h1) = labelled s y gone come acts h1 t1 ls refl in
        let t3 : Turning s y gone come acts h2 = rethreaded s y gone come acts (working (label_all ls) h1) t2 h2.thread refl refl in record {
          olds = gone;
          news = come;
          acts = acts;
          turned = t3;
          gift = bare;
          leads = λ c z named free on f known.
              let q0 : Answers = answers_of (sight k) in
              let all : Fits q0 c0 = fits (sight k) c0 is_coloured in
              let q1 : Answers = making name n w (plain_of v) q0 in
              let e = done_entry n y.number fresh.None acts ls in
              let value : made_value name ls ≡ plain_of v = ap (λ b. if b then plain_of v else made_value name []) (objects.itself name) in
              done_leads k.options n y.number fresh.None acts ls c0 q0 q1 q1 c t3.labels all (server_there k sound n s here).0 (running_here k sound n s here c0 is_coloured y own live) (it_runs k sound n s here c0 is_coloured y own live) (numbers.itself n)
              (runs_one k.options e (act.Make name w) c0 q1
              (make_allowed k.options e c0 q0 name w (plain_of v) all (unmade k c coherent few s here t y at live untaken bare c0 is_coloured grows v z named free on f known.keeps.words) refl (ap (λ i. i == n) its.server ∙ numbers.itself n) its.low known.new value))
              (names_none n y.number acts ls q1) (agrees k c coherent few s here t y at live untaken bare c0 is_coloured grows v z named free on f known.keeps.words);
        }

  -- an object of the value is made
  made_of : (v : Owned) (ts : List Value) → Gives P (make_box v (with_temps ts start))
  made_of v ts = by (can_grow p) refl
    where
      by : (b : Bool) → can_grow p ≡ b → Gives P (option_map (λ i. push_box v i (with_temps ts start)) (if b then Some (record { word = w; work = note (act.Make name w) (with_partition (made p (record { object = name; value = v })) (begin_work s.rest)) }) else None))
      by true grows = box_steps v ts grows
      by false e = tt

  -- whatever its value is
  pub makes_box : (q : Operand) → Gives P (box_up q start)
  makes_box (operand.Const i) = made_of (owned.Int i) y.temps
  makes_box operand.Unit = made_of owned.Unit y.temps
  makes_box operand.Pop = by (last_of y.temps)
    where
      h1 : Hand
      h1 = with_temps (front_of y.temps) start

      owned_by : (q : Option Owned) → Gives P (then_some {X = Popped Owned} (option_map (λ u. record { item = u; hand = h1 }) q) (λ i. make_box i.item i.hand))
      owned_by None = tt
      owned_by (Some u) = made_of u (front_of y.temps)

      by : (q : Option Value) → Gives P (then_some {X = Popped Owned} (then_some {X = Popped Value} (option_map (λ v. record { item = v; hand = h1 }) q) (taken_as owned_of)) (λ i. make_box i.item i.hand))
      by None = tt
      by (Some v) = owned_by (owned_of v)

-- so its entry is legal
pub boxes_legal : StepsLegal MakesBox
boxes_legal k number t s y _ co few here at code (boxes o) =
    subst (λ n. server_at k.servers n ≡ Some s → EntryLegal k (record { server = n; what = Step t })) (found_number number k.servers s here)
    (λ h.
    let before : HasWords (sight k) = co.sound.words.have_words in
    step_legal (λ c. HasNextWord k c s y before) k s.rest.number t s y (instr.Box o) co.sound few h at code (boxes_take k s.rest.number t s y o before co few h at code)
    (λ c0 is_coloured calm.
    goes_on_led (λ c. HasNextWord k c s y before) k s y (by_number s t y at) c0 fresh.None (box_up o (record { work = begin_work s.rest; thread = y })) (makes_box k co few s h t y at o code c0 is_coloured calm o))) here
