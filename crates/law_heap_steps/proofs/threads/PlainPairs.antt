-- The end of a pair on the plain machine: the parent goes on, and the results of both threads are taken.
use Rattle.std.proofs.Common.{◌≡◌, ◌≢◌, ◌⊎◌, inl, inr, ℕ, ◌==◌, Bool, true, false, if◌then◌else◌, List, [], ◌∷◌, length, Option, Some, None, refl, sym, ap, ap₂, ◌∙◌, subst}
use Rattle.std.specs.Prelude.{slice_get}
use Rattle.law_heap_steps.proofs.Below.fr_typing.PlaceLemmas.{eq_cases}
use Rattle.law_heap_steps.specs.Below.fr_base.declared.label.Plain.TheVariants as plain
use Rattle.law_heap_steps.specs.Below.fr_base.declared.step.Fresh.TheVariants as fresh
use Rattle.law_heap_steps.specs.Below.fr_base.declared.instruction.Instr.{Instr}
use Rattle.law_heap_steps.specs.Below.fr_plain.declared.value.Value.{Value}
use Rattle.law_heap_steps.specs.Below.fr_plain.declared.value.Value.TheVariants.{Own}
use Rattle.law_heap_steps.specs.Below.fr_plain.Heap.{made_by}
use Rattle.law_heap_steps.specs.Below.fr_plain.MachineActs.{do_par_end, unit}
use Rattle.law_heap_steps.specs.Below.fr_plain.MachineThreads.{over, going, Pair, thread_at, with_thread, with_life, pair_of, without_pair, result_in, result_of_life}
use Rattle.law_heap_steps.specs.Below.fr_plain.Machine.{step_of, taken, pair_over, two_ended, two_joined}
use Rattle.law_heap_steps.specs.Below.fr_plain.PlainState.{SameState, running_in, is_over_in, two_of, plain_state}
use Rattle.law_heap_steps.proofs.Below.fr_plain.ByName.{put_in, put_at, put_off, found_number}
use Rattle.law_heap_steps.specs.Below.fr_code.Machine.{CodeLife, CodeThread, CodeWhole, CodeStepped, CodeRunning, CodeState}
use Rattle.law_heap_steps.specs.Below.fr_code.Steps.{Place, code_move, code_moves, over_at}
use Rattle.law_heap_steps.specs.turns.Turns.{StepsTo}
use Rattle.law_heap_steps.proofs.turns.PlainTurn.{thread_as, goes_as, settled_as}
use Rattle.law_heap_steps.proofs.mutexes.PlainMutex.{acts, move_as}
use Rattle.law_heap_steps.proofs.threads.Taken.{ResultsTaken}
use Rattle.law_heap_steps.proofs.threads.PlainTaken.{Ended, ended_there, found, thread_same, over_same}

pair_off : (ps : List Pair) (t u : ℕ) → t ≢ u → pair_of (without_pair ps t) u ≡ pair_of ps u
pair_off [] t u ne = refl
pair_off (p ∷ ps) t u ne =
    eq_cases (λ b. pair_of (if b then without_pair ps t else p ∷ without_pair ps t) u ≡ (if p.parent == u then Some p else pair_of ps u)) p.parent t
    (λ f. eq_cases (λ b. pair_of (without_pair ps t) u ≡ (if b then Some p else pair_of ps u)) p.parent u (λ g. absurd (ne (sym f ∙ g))) (λ _. pair_off ps t u ne))
    (λ _. eq_cases (λ b. (if b then Some p else pair_of (without_pair ps t) u) ≡ (if b then Some p else pair_of ps u)) p.parent u (λ _. refl) (λ _. pair_off ps t u ne))

pair_gone : (ps : List Pair) (t : ℕ) → pair_of (without_pair ps t) t ≡ None
pair_gone [] t = refl
pair_gone (p ∷ ps) t =
    eq_cases (λ b. pair_of (if b then without_pair ps t else p ∷ without_pair ps t) t ≡ None) p.parent t (λ _. pair_gone ps t)
    (λ ne. eq_cases (λ b. (if b then Some p else pair_of (without_pair ps t) t) ≡ None) p.parent t (λ e. absurd (ne e)) (λ _. pair_gone ps t))

module _ (code : List Instr) (c : CodeWhole) (t : ℕ) (is_its : ℕ → Bool) (p : CodeRunning) (plug : Value → Place) (a b : CodeState) (turn : ResultsTaken t is_its plain.Unit p (record { place = plug unit; slots = p.slots }) a b) (same : SameState (plain_state c) a)
    (now : over_at (slice_get code p.place.pc) p.place.temps ≡ going) (move : code_move code p.place.pc p.place.temps ≡ Some (record { act = do_par_end; plug = plug })) where
  abbrev q : CodeRunning
  q = record { place = plug unit; slots = p.slots }

  abbrev T : CodeThread
  T = thread_as turn.way t p

  abbrev w : CodeThread
  w = thread_as turn.way t q

  there_it : thread_at c.threads t ≡ Some T
  there_it = found c t is_its plain.Unit p q a b turn same

  -- the pair
  module _ (P : Pair) (pair_there : pair_of c.pairs t ≡ Some P) (its_first : is_its P.first ≡ true) (its_second : is_its P.second ≡ true) (only : (u : ℕ) → is_its u ≡ true → (P.first ≡ u) ⊎ (P.second ≡ u)) where
    abbrev ended_of : (u : ℕ) → is_its u ≡ true → Ended plain.Unit (thread_at c.threads u)
    ended_of = ended_there c t is_its plain.Unit p q a b turn same

    X1 : Ended plain.Unit (thread_at c.threads P.first)
    X1 = ended_of P.first its_first

    X2 : Ended plain.Unit (thread_at c.threads P.second)
    X2 = ended_of P.second its_second

    abbrev over1 : CodeThread
    over1 = with_life X1.thread over

    abbrev over2 : CodeThread
    over2 = with_life X2.thread over

    number1 : X1.thread.number ≡ P.first
    number1 = found_number c.threads P.first X1.thread X1.there

    number2 : X2.thread.number ≡ P.second
    number2 = found_number c.threads P.second X2.thread X2.there

    abbrev inner1 : List CodeThread
    inner1 = with_thread c.threads over1

    abbrev inner : List CodeThread
    inner = with_thread inner1 over2

    abbrev threads : List CodeThread
    threads = with_thread inner w

    inner_is : pair_over (code_moves code) c P ≡ inner
    inner_is = ap₂ (λ o r. taken (code_moves code) (taken (code_moves code) c.threads o) r) X1.there X2.there

    off_its : (u : ℕ) → is_its u ≡ false → (v : ℕ) → is_its v ≡ true → v ≢ u
    off_its u off v on e = cc (sym off ∙ ap is_its (sym e) ∙ on)

    -- threads of neither
    inner_off : (u : ℕ) → is_its u ≡ false → thread_at inner u ≡ thread_at c.threads u
    inner_off u off =
        put_off inner1 over2 u (λ e. off_its u off P.second its_second (sym number2 ∙ e)) ∙ put_off c.threads over1 u (λ e. off_its u off P.first its_first (sym number1 ∙ e))

    first_over : (u : ℕ) → P.first ≡ u → thread_at inner1 u ≡ Some over1
    first_over u e = put_at c.threads over1 u (number1 ∙ e) ∙ ap (put_in over1) (ap (thread_at c.threads) (sym e) ∙ X1.there)

    second_there : (u : ℕ) → P.second ≡ u → (x : CodeThread) × (thread_at inner1 u ≡ Some x)
    second_there u e = eq_cases (λ _. (x : CodeThread) × (thread_at inner1 u ≡ Some x)) over1.number u
        (λ f. (over1, first_over u (sym number1 ∙ f))) (λ ne. (X2.thread, put_off c.threads over1 u ne ∙ ap (thread_at c.threads) (sym e) ∙ X2.there))

    inner_second : (u : ℕ) → P.second ≡ u → thread_at inner u ≡ Some over2
    inner_second u e = put_at inner1 over2 u (number2 ∙ e) ∙ ap (put_in over2) (second_there u e).1

    inner_its : (u : ℕ) → is_its u ≡ true → (running_in (thread_at inner u) ≡ Some over) × (is_over_in (thread_at inner u) ≡ true)
    inner_its u m = by (only u m)
      where
        by : (P.first ≡ u) ⊎ (P.second ≡ u) → (running_in (thread_at inner u) ≡ Some over) × (is_over_in (thread_at inner u) ≡ true)
        by (inr e) = (ap running_in (inner_second u e), ap is_over_in (inner_second u e))
        by (inl e) =
            eq_cases (λ _. (running_in (thread_at inner u) ≡ Some over) × (is_over_in (thread_at inner u) ≡ true)) over2.number u
            (λ f. let g = inner_second u (sym number2 ∙ f) in (ap running_in g, ap is_over_in g))
            (λ ne. let g = put_off inner1 over2 u ne ∙ first_over u e in (ap running_in g, ap is_over_in g))

    abbrev lives : (u : ℕ) → running_in (thread_at threads u) ≡ b.thread u
    lives = thread_same c t is_its plain.Unit p q a b turn same inner inner_off inner_its

    abbrev ends : (u : ℕ) → is_over_in (thread_at threads u) ≡ is_over_in (thread_at c.threads u)
    ends = over_same c t is_its plain.Unit p q a b turn same inner inner_off inner_its

    itself_goes : is_over_in (thread_at c.threads t) ≡ false
    itself_goes = ap is_over_in there_it ∙ goes_as turn.way p.place

    pair_same : (u : ℕ) → (if is_over_in (thread_at threads u) then None else two_of (pair_of (without_pair c.pairs t) u)) ≡ b.pair u
    pair_same u =
        eq_cases (λ r. (if is_over_in (thread_at threads u) then None else two_of (pair_of (without_pair c.pairs t) u)) ≡ b.pair u) t u
        (λ e. subst (λ v. (if is_over_in (thread_at threads v) then None else two_of (pair_of (without_pair c.pairs t) v)) ≡ b.pair v) e
        (ap (λ r. if r then None else two_of (pair_of (without_pair c.pairs t) t)) (ends t ∙ itself_goes) ∙ ap two_of (pair_gone c.pairs t) ∙ sym turn.alone))
        (λ ne. ap₂ (λ r o. if r then None else two_of o) (ends u) (pair_off c.pairs t u ne) ∙ same.pairs u ∙ turn.pairs u ne)

    -- THE STEP

    abbrev went_on : List CodeThread → CodeLife → Option CodeStepped
    went_on ts l = Some (record { state = record c { threads = with_thread ts (record { number = t; life = l; slots = p.slots }); pairs = without_pair c.pairs t }; labels = [] })

    result_is : (u : ℕ) (x : Ended plain.Unit (thread_at c.threads u)) → result_in (thread_at c.threads u) ≡ Some (Own plain.Unit)
    result_is u x = ap result_in x.there ∙ ap result_of_life x.life

    does : step_of (code_moves code) c fresh.None (Some T) ≡ went_on inner w.life
    does =
        let ms = code_moves code in
        let M = move_as turn.way do_par_end plug in
        acts code p do_par_end plug now move turn.way c t fresh.None ∙ ap (two_joined ms c T M) pair_there
        ∙ ap₂ (two_ended ms c T M P) (result_is P.first X1) (result_is P.second X2)
        ∙ ap₂ (λ ts l. went_on ts l) inner_is (settled_as code turn.way (plug unit))

    pub pair_steps : StepsTo code c t fresh.None b []
    pair_steps = record {
      after = record { state = record c { threads = threads; pairs = without_pair c.pairs t }; labels = [] };
      steps = ap (step_of (code_moves code) c fresh.None) there_it ∙ does;
      same = record {
        threads = lives;
        made = λ u. ap (λ r. if r then 0 else length (made_by c.heap u)) (ends u) ∙ same.made u ∙ turn.made u;
        pairs = pair_same;
        objects = λ o. same.objects o ∙ turn.objects o;
        mutexes = λ m. same.mutexes m ∙ turn.mutexes m;
        given = λ m. same.given m ∙ turn.given m;
      };
      labelled = refl;
    }

  -- the pair is there
  pub pair_is : (first second : ℕ) → a.pair t ≡ Some (first, second) → two_of (pair_of c.pairs t) ≡ Some (first, second)
  pair_is first second e =
      sym (ap (λ r. if r then None else two_of (pair_of c.pairs t)) (ap is_over_in there_it ∙ goes_as turn.way p.place)) ∙ same.pairs t ∙ e

-- whichever pair shows as that one
pub by_pair : (first second : ℕ) (o : Option Pair) → two_of o ≡ Some (first, second) → (C : Type 0) → ((P : Pair) → o ≡ Some P → P.first ≡ first → P.second ≡ second → C) → C
by_pair first second None e C go = absurd (cc e)
by_pair first second (Some P) e C go = let two : (P.first, P.second) ≡ (first, second) = cc in go P refl (ap (λ (z : ℕ × ℕ). z.0) two) (ap (λ (z : ℕ × ℕ). z.1) two)
