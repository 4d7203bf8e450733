-- Code with a table starts typed, and its runs keep that.
use Rattle.std.proofs.Common.{◌≡◌, ◌∙◌, ℕ, ◌==◌, Bool, true, false, List, [], ◌∷◌, ◌++◌, length, Option, Some, None, refl, ap, subst}
use Rattle.std.specs.Prelude.{slice_get, if◌then◌else◌}
use Rattle.fr_base.specs.declared.instruction.Instr.{Instr}
use Rattle.fr_base.specs.declared.label.Label.{Label}
use Rattle.fr_base.specs.declared.label.Plain.{Plain}
use Rattle.fr_typing.specs.Kinds.{Owned}
use Rattle.fr_plain.specs.declared.value.Value.{Value}
use Rattle.fr_plain.specs.Heap.{Heap, made_by, flat}
use Rattle.fr_plain.specs.MachineThreads.{alive, Thread, pair_of}
use Rattle.fr_plain.specs.Machine.{Turn, go_on, then_labels}
use Rattle.fr_plain.specs.PlainState.{Running, place_in, running_in, is_over_in, two_of, plain_state}
use Rattle.fr_sound.specs.Entries.{going}
use Rattle.fr_sound.specs.States.{Typing}
use Rattle.fr_code.specs.CodeTypes.{Table}
use Rattle.fr_code.specs.CodeTable.{IsTable}
use Rattle.fr_code.specs.Steps.{Place}
use Rattle.fr_code.specs.Machine.{CodeThread, CodeWhole, CodeStepped, code_step, code_run, code_start}
use Rattle.fr_code.specs.TableStates.{KnownAt, CodeStateTypes}
use Rattle.law_plain_values.specs.acts.Positions.{Position, Knows, temps_of}
use Rattle.law_plain_values.specs.acts.Example.{main_at}
use Rattle.law_plain_values.proofs.acts.Example.{begins, typing, begun_typed}
use Rattle.law_plain_threads.specs.steps.Steps.{StartsTyped, RunsKeepTypes}
use Rattle.law_plain_threads.proofs.steps.Mirrored.{SameLives, none_there, both_alive, Mirrors, same_running, mirrored}
use Rattle.law_plain_threads.proofs.steps.CodeSteps.{steps_keep_types}

-- THE START

abbrev values : Place → List Value
values p = p.temps

abbrev first_heap : Heap
first_heap = record { thread = 0; cells = [] } ∷ []

none_made : (t : ℕ) → made_by first_heap t ≡ []
none_made t = by (0 == t)
  where
    by : (b : Bool) → (let l : List (Option Plain) = if b then [] else [] in l) ≡ []
    by true = refl
    by false = refl

module _ (table : Table) (g : Owned) (starts : table 0 ≡ Some (going [] [] g)) where
  abbrev first_position : Position
  first_position = record { entry = going [] [] g; temps = [] }

  abbrev as_position : Bool → Option (Thread Position)
  as_position b = if b then Some (main_at first_position []) else None

  abbrev as_code : Bool → Option CodeThread
  as_code b = if b then Some (record { number = 0; life = alive (record { pc = 0; temps = [] }); slots = [] }) else None

  lives : (b : Bool) → SameLives temps_of values (running_in (as_position b)) (running_in (as_code b))
  lives true = both_alive (record { slots = refl; held = refl })
  lives false = none_there

  made_same : (b : Bool) → (let n : ℕ = if is_over_in (as_code b) then 0 else 0 in n) ≡ (if is_over_in (as_position b) then 0 else 0)
  made_same true = refl
  made_same false = refl

  pair_same : (b : Bool) (t : ℕ) → (if is_over_in (as_code b) then None else two_of (pair_of [] t)) ≡ (if is_over_in (as_position b) then None else two_of (pair_of [] t))
  pair_same true t = refl
  pair_same false t = refl

  start_mirrors : Mirrors temps_of values (plain_state (begins g)) (plain_state code_start)
  start_mirrors = record {
    threads = λ t. lives (0 == t);
    made = λ t. ap (λ (l : List (Option Plain)). if is_over_in (as_code (0 == t)) then 0 else length l) (none_made t) ∙ made_same (0 == t);
    pairs = λ t. pair_same (0 == t) t;
    objects = λ o. ap (λ (l : List (Option Plain)). flat (slice_get l o.count)) (none_made o.thread);
    mutexes = λ m. refl;
    given = λ m. refl;
  }

  -- main is at its first instruction
  first_known : (b : Bool) (x : Running Position) (z : Running Place) → place_in (running_in (as_position b)) ≡ Some x → place_in (running_in (as_code b)) ≡ Some z → table z.place.pc ≡ Some x.place.entry
  first_known true x z e f =
      let p : record { place = first_position; slots = [] } ≡ x = cc in
      let q : record { place = record { pc = 0; temps = [] }; slots = [] } ≡ z = cc in
      subst (λ (a : Running Position). table z.place.pc ≡ Some a.place.entry) p (subst (λ (b : Running Place). table b.place.pc ≡ Some (going [] [] g)) q starts)
  first_known false x z e f = absurd cc

  start_typed : CodeStateTypes table (typing g) (plain_state code_start)
  start_typed =
      mirrored Knows temps_of (KnownAt table) values (typing g) (plain_state (begins g)) (plain_state code_start) start_mirrors (begun_typed g)
      (λ t x z e f same r. same_running temps_of values Knows (KnownAt table) (typing g) _ t _ x z same r (first_known (0 == t) x z e f ∙ ap Some r.known))

pub starts_typed : StartsTyped
starts_typed code table h = (typing h.main, start_typed table h.main h.starts)

-- RUNS

module _ (code : List Instr) (table : Table) (h : IsTable code table) where
  abbrev Typed : CodeWhole → Type 0
  Typed c = (y : Typing) × CodeStateTypes table y (plain_state c)

  labelled : (ls : List Label) (o : Option CodeStepped) (x : CodeStepped) → then_labels ls o ≡ Some x → ((b : CodeStepped) → o ≡ Some b → Typed b.state) → Typed x.state
  labelled ls None x e go = absurd cc
  labelled ls (Some b) x e go =
      let f : record { state = b.state; labels = ls ++ b.labels } ≡ x = cc in
      subst (λ (z : CodeStepped). Typed z.state) f (go b refl)

  run_typed : (order : List Turn) (c : CodeWhole) → Typed c → (x : CodeStepped) → code_run code c order ≡ Some x → Typed x.state
  run_typed [] c st x e = let f : record { state = c; labels = [] } ≡ x = cc in subst (λ (z : CodeStepped). Typed z.state) f st
  run_typed (t ∷ ts) c st x e = by (code_step code c t.0 t.1) refl e (λ d k b q. run_typed ts d k b q)
    where
      by : (o : Option CodeStepped) → code_step code c t.0 t.1 ≡ o → go_on o (λ d. code_run code d ts) ≡ Some x → ((d : CodeWhole) → Typed d → (b : CodeStepped) → code_run code d ts ≡ Some b → Typed b.state) → Typed x.state
      by None i q go = absurd cc
      by (Some d) i q go = labelled d.labels (code_run code d.state ts) x q (λ b k. go d.state (let z = steps_keep_types code table h st.0 c st.1 t.0 t.1 d i in (z.0, z.1)) b k)

pub runs_keep_types : RunsKeepTypes
runs_keep_types code table h order x e = run_typed code table h order code_start (starts_typed code table h) x e
