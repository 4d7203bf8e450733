-- A typed state in which an act is granted.
use Rattle.std.proofs.Common.{◌≡◌, ◌∙◌, ℕ, zero, suc, [], ◌∷◌, Some, None, refl, sym, ap, subst, arith}
use Rattle.std.specs.Prelude.{◌==◌, Bool, false, pos, Option, if◌then◌else◌}
use Rattle.fr_typing.specs.Kinds.{Owned, unit, int}
use Rattle.fr_typing.proofs.PlaceLemmas.{eq_cases}
use Rattle.fr_store.specs.Keys.{Key, slot_k, temp_k, content_k, result_k, hand_k}
use Rattle.fr_store.specs.Store.{Location, at_key, at_object, Val, gone_v, box_v, mutex_v, task_v, value_at}
use Rattle.fr_store.specs.Typed.{Exact, hole, owns, KeyTypes, exact_under, Stands, Typed}
use Rattle.fr_plain.specs.declared.value.Value.{Value}
use Rattle.fr_base.specs.declared.step.Fresh.{Fresh}
use Rattle.fr_plain.specs.MachineThreads.{Now, Move, Life, Thread, Whole, ended}
use Rattle.fr_plain.specs.MachineThreads as machine
use Rattle.fr_plain.specs.Machine.{Stepped, done_act}
use Rattle.fr_plain.specs.PlainState.{Running, place_in, running_in, plain_state}
use Rattle.fr_sound.specs.Entries.{going}
use Rattle.fr_sound.specs.States.{Typing, RunningTyped, IsKept, IsOwed}
use Rattle.law_plain_values.specs.acts.Positions.{Position, Knows, temps_of, PositionTypes, moves_by}
use Rattle.law_plain_values.specs.acts.ActRows.{quiet, pops_int, r_let, r_print}
use Rattle.law_plain_values.specs.acts.Keeps.{is_main, StepsTyped}
use Rattle.law_plain_values.specs.acts.Example.{main_at, alone_at, variable, PrintIsReady, LetIsReady}
use Rattle.law_plain_values.proofs.acts.OneThread.{store}

abbrev exact : KeyTypes
exact k = owns hole

abbrev rank : Key → ℕ
rank (slot_k t i) = i
rank k = 0

-- main alone at its start, whatever it ends with
module _ (g : Owned) where
  abbrev first_of : Position
  first_of = record { entry = going [] [] g; temps = [] }

  abbrev pub begins : Whole Position
  begins = alone_at first_of [] [] []

  abbrev pub typing : Typing
  typing = record { gives = record { mutex = λ m. unit; result = λ t. g }; exact = exact; rank = rank; marks = λ t i. at_key (hand_k 0); order = λ t. 0 }

  zero_suc : (t : ℕ) → (0 == suc t) ≡ false
  zero_suc t = eq_cases (λ b. b ≡ false) 0 (suc t) (λ e. absurd (omega (arith, e))) (λ ne. refl)

  others : (t : ℕ) → (plain_state begins).thread (suc t) ≡ None
  others t = ap (λ (b : Bool). running_in (if b then Some (main_at first_of []) else None)) (zero_suc t)

  nothing : (k : Key) → (store typing (plain_state begins)).at k ≡ gone_v
  nothing (slot_k zero i) = refl
  nothing (slot_k (suc t) i) = rw (others t) refl
  nothing (temp_k zero i) = refl
  nothing (temp_k (suc t) i) = rw (others t) refl
  nothing (content_k h c) = refl
  nothing (result_k zero) = refl
  nothing (result_k (suc t)) = rw (others t) refl
  nothing (hand_k t) = refl

  some_val : {a b : Val} → Some a ≡ Some b → a ≡ b
  some_val e = cc

  -- what stands somewhere is gone
  all_gone : (l : Location) (v : Val) → value_at (store typing (plain_state begins)) l ≡ Some v → v ≡ gone_v
  all_gone (at_key k) v e = sym (some_val e) ∙ nothing k
  all_gone (at_object o) v e = absurd cc

  each_level : (k : Key) (n : ℕ) (p : Exact) → exact_under n (owns hole) ≡ Some p → Stands exact (store typing (plain_state begins)) (at_key k) n p
  each_level k zero p e = let f : owns hole ≡ p = cc in subst (λ q. Stands exact (store typing (plain_state begins)) (at_key k) 0 q) f (record { spot = at_key k; value = (store typing (plain_state begins)).at k; leads = refl; there = refl; fits = nothing k })
  each_level k (suc n) p e = absurd cc

  begun_store : Typed rank exact (store typing (plain_state begins))
  begun_store = record { stands = each_level; below = λ k m u e. absurd cc; once = λ i j m u v e f g. absurd cc; owner = λ a b o e f. let g = all_gone a (box_v o) e in absurd cc }

  abbrev here : Running Position
  here = record { place = first_of; slots = [] }

  main_typed : RunningTyped Knows temps_of typing (store typing (plain_state begins)) 0 None here
  main_typed = record {
    entry = going [] [] g;
    known = refl;
    gives = refl;
    keys = record { differ = λ x y e. cc; off = λ i e. absurd cc; ranks = λ i j l. l };
    thread = record { typed = begun_store; nested = tt; slots = tt; above = λ i l. refl; temp = refl; names = tt; quiet = λ j m u e. absurd cc; over = λ i l. absurd (omega (arith, l)); alone = λ j m u e f. absurd cc };
    waiting = λ i l. absurd (omega (arith, l));
    all_slots = refl;
    all_temps = refl;
    lower = λ i l e f. absurd cc;
    forks = refl;
    hidden = λ i. refl;
    marked = λ i m e. absurd cc;
  }

  each : (t : ℕ) (x : Running Position) → place_in ((plain_state begins).thread t) ≡ Some x → RunningTyped Knows temps_of typing (store typing (plain_state begins)) t ((plain_state begins).pair t) x
  each zero x e = let f : Some here ≡ Some x = e in let same : here ≡ x = cc in subst (λ z. RunningTyped Knows temps_of typing (store typing (plain_state begins)) 0 None z) same main_typed
  each (suc t) x e = let f : None ≡ Some x = sym (ap place_in (others t)) ∙ e in absurd cc

  no_pair : (t : ℕ) → (plain_state begins).pair t ≡ None
  no_pair zero = refl
  no_pair (suc t) = rw (zero_suc t) refl

  none_ended : (t : ℕ) (v : Value) → (plain_state begins).thread t ≡ Some (ended v) → ⊥
  none_ended zero v e = absurd cc
  none_ended (suc t) v e = let f : None ≡ Some (ended v) = sym (others t) ∙ e in absurd cc

  none_owed : (t : ℕ) → IsOwed (plain_state begins) t → ⊥
  none_owed zero h = h.kept
  none_owed (suc t) h = subst IsKept (others t) h.kept

  no_two : (p b c : ℕ) → (plain_state begins).pair p ≡ Some (b, c) → ⊥
  no_two p b c e = let two : ℕ × ℕ = (b, c) in let f : None ≡ Some two = sym (no_pair p) ∙ e in absurd cc

  pub begun_typed : PositionTypes typing (plain_state begins)
  begun_typed = record {
    typed = begun_store;
    threads = each;
    results = λ t v e. absurd (none_ended t v e);
    near = λ k m u e. absurd cc;
    pairs = λ p b c e. absurd (no_two p b c e);
    parents = λ p b c e. absurd (no_two p b c e);
    there = λ l m h. let f = all_gone l (mutex_v m h.0) h.1 in absurd cc;
    mutexes = λ m x e. absurd cc;
    one_task = λ l m t q r e f. let g = all_gone l (task_v t q) e in absurd cc;
    tasks_owed = λ l t r e. let g = all_gone l (task_v t r) e in absurd cc;
    owed_stand = λ t h. absurd (none_owed t h);
    objects_there = λ l o e. let g = all_gone l (box_v o) e in absurd cc;
    objects_owned = λ o v e. absurd cc;
    objects_made = λ o v x e f. absurd cc;
  }

pub print_is_ready : PrintIsReady
print_is_ready = (typing unit, record { state = begun_typed unit; found = refl; goes_on = is_main; at = refl; leaves = quiet []; after = going [] [] unit; row = r_print (pops_int (pos 1) refl); comes = λ v. refl })

pub let_is_ready : LetIsReady
let_is_ready = (typing unit, record { state = begun_typed unit; found = refl; goes_on = is_main; at = refl; leaves = quiet []; after = going (variable int ∷ []) [] unit; row = r_let (0 ∷ []) (pops_int (pos 1) refl) refl; comes = λ v. refl })

-- WHAT FOLLOWS

-- no position of the example is told its moves
abbrev pub no_end : Position → Now
no_end p = machine.going

abbrev pub no_move : Position → Option (Move Position Position)
no_move p = None

-- what a step that keeps a state typed leads to is typed
pub follows : {before : Typing} {now : Position → Now} {move : Position → Option (Move Position Position)} {s : Whole Position} {t : Thread Position} {names : Fresh} {m : Move Position (Life Position)} (x : Stepped Position) → done_act (moves_by now move) s t names m m.act ≡ Some x → StepsTyped before (moves_by now move) s t names m → (y : Typing) × PositionTypes y (plain_state x.state)
follows x e z = let f : Some z.next ≡ Some x = sym z.is ∙ e in let same : z.next ≡ x = cc in (z.typing, subst (λ (q : Stepped Position). PositionTypes z.typing (plain_state q.state)) same z.typed)
