-- How a step is made of what its place came to and of its plain step.
use Rattle.std.proofs.Common.{◌≡◌, true≢false, ℕ, true, List, Option, None, Some, IsSome, IfSome, option_map, refl, sym, ap, subst, ◌∙◌}
use Rattle.std.specs.Prelude.{slice_get}
use Rattle.fr_base.specs.declared.instruction.Instr.{Instr}
use Rattle.fr_base.specs.declared.step.Fresh.{Fresh}
use Rattle.rank_map.specs.Places.{Place}
use Rattle.thread_state.specs.View.{ThreadState, ThreadView}
use Rattle.server_model.specs.Work.{Hand, Site, then_some, thread_in, set_thread, put_back}
use Rattle.server_model.specs.Prepare.{Access, Prepared, ready, requested, nothing, access_of, prepare}
use Rattle.server_model.specs.Commit.{Committed, done, waits, refused}
use Rattle.server_model.specs.Events.{Stepped, committed, prepared, step, step_in, left_by, stepped as left_stepped}
use Rattle.server_steps.specs.Committeds.{is_committed}
use Rattle.server_parts.specs.Hands.{hand}
use Rattle.server_ready.specs.Prepareds.{is_prepared, prepared as made_prepared}
use Rattle.server_core.specs.Rooms.{HasRoomAt, HasRoomOf, HasStepRoom}
use Rattle.server_parts.specs.Sites.{site}
use Rattle.server_parts.specs.Spares.{SparesView}
use Rattle.server_deliveries.specs.Standing.{standing}
use Rattle.server_core.specs.Steps.{step_there, stepped}
use Rattle.server_parts.specs.Threads.{states}
use Rattle.server_parts.specs.Works.{WorkView}
use Rattle.server_ready.specs.declared.prepared.Prepared.{Prepared as Made}
use Rattle.server_ready.specs.declared.prepared.Prepared.TheVariants as made
use Rattle.server_core.proofs.KeptLemmas.{PreparedOk, Ok, prepares}
use Rattle.server_core.proofs.NumberLemmas.{steps}

-- STEPS

pub plain_there : (c : Committed) → IsSome (committed c) → is_committed c ≡ true
plain_there (done names h) g = refl
plain_there (waits h) g = refl
plain_there refused g = absurd (true≢false (sym g))

pub place_there : (servers : ℕ) (i : Instr) (x : Prepared) → IsSome (prepared servers i x) → is_prepared x ≡ true
place_there servers i (ready h s) g = refl
place_there servers i (requested h) g = refl
place_there servers i nothing g = absurd (true≢false (sym g))

-- what is said of something that may be there, where it is
pub some_holds : {X : Type 0} (o : Option X) (x : X) (P : X → Type 0) → o ≡ Some x → IfSome o P → P x
some_holds o x P is h = subst (λ p. IfSome p P) is h

-- what was there before its place was made ready
pub record Stays (h g : Hand) : Type 0 where
  pub number : g.thread.number ≡ h.thread.number
  pub pc : g.thread.pc ≡ h.thread.pc
  pub made : g.thread.made ≡ h.thread.made
  pub started : g.work.rest.started ≡ h.work.rest.started

abbrev Same : Hand → ℕ → ℕ → ℕ → ℕ → Type 0
Same h number pc made started = (number ≡ h.thread.number) × (pc ≡ h.thread.pc) × (made ≡ h.thread.made) × (started ≡ h.work.rest.started)

pub stays : (a : Option Access) (h g : Hand) (m : Made) → prepare a h ≡ made_prepared m g → Stays h g
stays a h g m e = by m (subst (PreparedOk (Ok (Same h))) e (prepares (Same h) a h (refl, refl, refl, refl)))
  where
    by : (m : Made) → PreparedOk (Ok (Same h)) (made_prepared m g) → Stays h g
    by (made.Ready s) k = record { number = k.0; pc = k.1; made = k.2; started = k.3 }
    by made.Requested k = record { number = k.0; pc = k.1; made = k.2; started = k.3 }

pub step_ready : (servers : ℕ) (i : Instr) (h : Hand) (a : Option Access) → a ≡ access_of i h.thread → IsSome (step servers i h) → is_prepared (prepare a h) ≡ true
step_ready servers i h a e g = place_there servers i (prepare a h) (subst (λ x. IsSome (prepared servers i (prepare x h))) (sym e) g)

pub step_follows : (servers : ℕ) (i : Instr) (h : Hand) (a : Option Access) (x : Prepared) → a ≡ access_of i h.thread → prepare a h ≡ x → step servers i h ≡ prepared servers i x
step_follows servers i h a x e p = ap (λ y. prepared servers i (prepare y h)) (sym e) ∙ ap (prepared servers i) p

pub step_named : (servers : ℕ) (i : Instr) (h : Hand) (d : Stepped) (n : ℕ) → h.thread.number ≡ n → step servers i h ≡ Some d → d.hand.thread.number ≡ n
step_named servers i h d n e is = some_holds (step servers i h) d (λ x. x.hand.thread.number ≡ n) is (steps n servers i h e)

-- THE THREAD THAT STEPS

pub steps_here : (code : List Instr) (servers t : ℕ) (x : Site) → IsSome (step_there code servers t x) → IsSome (thread_in x.threads t)
steps_here code servers t x h = by (thread_in x.threads t) h
  where
    by : (o : Option ThreadState) → IsSome (then_some (option_map (λ y. record { work = x.work; thread = y }) o) (step_in code servers)) → IsSome o
    by None g = absurd (true≢false (sym g))
    by (Some y) g = refl

pub steps_can : (code : List Instr) (servers t : ℕ) (x : Site) (y : ThreadState) → thread_in x.threads t ≡ Some y → IsSome (step_there code servers t x) → IsSome (step_in code servers (record { work = x.work; thread = y }))
steps_can code servers t x y is h = subst (λ o. IsSome (then_some (option_map (λ z. record { work = x.work; thread = z }) o) (step_in code servers))) is h

pub code_there : (code : List Instr) (servers : ℕ) (h : Hand) → IsSome (step_in code servers h) → IsSome (slice_get code h.thread.pc)
code_there code servers h g = by (slice_get code h.thread.pc) g
  where
    by : (o : Option Instr) → IsSome (then_some o (λ i. step servers i h)) → IsSome o
    by None k = absurd (true≢false (sym k))
    by (Some i) k = refl

pub step_can : (code : List Instr) (servers : ℕ) (h : Hand) (i : Instr) → slice_get code h.thread.pc ≡ Some i → IsSome (step_in code servers h) → IsSome (step servers i h)
step_can code servers h i is g = subst (λ o. IsSome (then_some o (λ j. step servers j h))) is g

pub room_there : (code : List Instr) (room : ℕ) (spares : SparesView) (o : Option ThreadView) (t : ThreadView) (i : Instr) → o ≡ Some t → slice_get code t.state.pc ≡ Some i → HasRoomOf code room spares o → HasStepRoom room spares t i
room_there code room spares o t i is there h = subst (HasRoomAt room spares t) there (subst (HasRoomOf code room spares) is h)

-- the entry and what is left where the thread stands where it stood
pub stepped_there : (n : ℕ) (code : List Instr) (servers t : ℕ) (w w2 : WorkView) (ps ps2 : List (Place ThreadView)) (i : Instr) (x x2 : ThreadView) (names : Option Fresh)
    → thread_in (states ps) t ≡ Some x.state → slice_get code x.state.pc ≡ Some i → step servers i (hand w x) ≡ Some (stepped names w2 x2) → x2.state.number ≡ t → states ps2 ≡ set_thread (states ps) x2.state
    → option_map (left_stepped (standing w ps n)) (step_there code servers t (site w ps)) ≡ Some (left_by n (Some t) names (site w2 ps2))
stepped_there n code servers t w w2 ps ps2 i x x2 names is there goes number same =
    ap (λ o. option_map (left_stepped (standing w ps n)) (then_some (option_map (λ y. record { work = w.state; thread = y }) o) (step_in code servers))) is
    ∙ ap (λ o. option_map (left_stepped (standing w ps n)) (then_some o (λ j. step servers j (hand w x)))) there
    ∙ ap (option_map (left_stepped (standing w ps n))) goes
    ∙ ap (λ k. Some (left_by n (Some k) names (put_back (states ps) (hand w2 x2)))) number
    ∙ ap (λ ts. Some (left_by n (Some t) names (record { work = w2.state; threads = ts }))) (sym same)
