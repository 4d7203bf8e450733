-- A typed code state: its threads' acts are typed, and its steps lead to typed states.
use Rattle.std.proofs.Common.{◌≡◌, ℕ, List, [], Option, Some, None, refl, sym, ◌∙◌, subst}
use Rattle.fr_sound.specs.Below.fr_base.declared.step.Fresh.{Fresh}
use Rattle.fr_sound.specs.Below.fr_base.declared.instruction.Instr.{Instr}
use Rattle.fr_sound.specs.Below.fr_terms.Terms.{block_t}
use Rattle.fr_sound.specs.Below.fr_typing.Kinds.{Kind, own}
use Rattle.fr_sound.specs.Below.fr_typing.Places.{Env}
use Rattle.fr_sound.specs.Below.fr_plain.declared.value.Value.{Value}
use Rattle.fr_sound.specs.Below.fr_plain.Acts.{Act}
use Rattle.fr_sound.specs.Below.fr_plain.Run.{Run, Now, going, constant, temporary, now, Move, move, terms, Life}
use Rattle.fr_sound.specs.Below.fr_plain.Whole.{no_name, a_thread, two_threads, Thread, Whole, Stepped, thread_at, start}
use Rattle.fr_sound.specs.Below.fr_plain.Resolve.{program}
use Rattle.fr_sound.specs.RunTypes.{threads, RunTypes, held, o_temp, NextTypes, n_own, n_spawn}
use Rattle.fr_sound.specs.Together.{seen_all, IsRunning, IsTypedIn, AreTyped}
use Rattle.fr_sound.proofs.DoneTerms.{Done, d_constant, d_temporary, done}
use Rattle.fr_sound.proofs.Redex.{goes_of, redex}
use Rattle.fr_sound.proofs.Together.{own_names, never_stuck_together_lem}
use Rattle.fr_sound.proofs.Starting.{starts_together_lem}
use Rattle.fr_sound.specs.Below.fr_plain.Alike.{value_of, NextAlike, both_done, both_going, LivesAlike, both_alive, both_owing, both_loose, both_ended, both_over, same_act, same_start, same_starts}
use Rattle.fr_sound.proofs.Below.fr_plain.Alike.{SameFound, same_found}
use Rattle.fr_code.specs.Steps.{Place, CodeAct, CodeMove, code_move, code_moves}
use Rattle.fr_code.specs.Machine.{CodeLife, CodeThread, CodeWhole, CodeStepped, code_step}
use Rattle.fr_code.specs.StandsFor.{operand_of, temps_in, Stands}
use Rattle.fr_code.specs.Laws.{StandsAt, SameAct, SameSteps}
use Rattle.fr_code.specs.TypedCode.{AreTypedCode, IsTypedAct, typed_act, typed_start, IsAt, IsTypedMove, IsTypedEnd, typed_end, EndsTyped, CodeStepsOn, ActsAreTyped, EndsAreTyped, CodeNeverStuck, CodeStartsTyped}
use Rattle.fr_code.proofs.Finished.{OperandNow, operand_now, Finished, finished}
use Rattle.fr_code.proofs.Following.{StandsIn, Same, follows}
use Rattle.fr_code.proofs.Threads.{ended_stays, moves_alike}
use Rattle.fr_code.proofs.Wholes.{steps_alike, starts_alike}

module _ (code : List Instr) where
  -- the code's act is the term's, so it is typed as that is
  act_typed : {a : Act} {b : CodeAct} {e e2 : Env} {o o2 : Option Kind} {h : Option Value} → SameAct code a b → NextTypes threads e o h a o2 e2 → IsTypedAct code e o h b
  act_typed (same_act a) n = typed_act a n
  act_typed (same_start f) (n_spawn c t) = typed_start c t f
  act_typed (same_start f) (n_own a) = let never : a_thread ≡ no_name = (own_names a).0 in absurd cc
  act_typed (same_starts f g) (n_own a) = let never : two_threads ≡ no_name = (own_names a).0 in absurd cc

  same_typed : (p : Option (Move Run)) (q : Option CodeMove) (n : Move Run) (m : CodeMove) (Fits : ℕ → List Value → Run → Type 0) {e e2 : Env} {o o2 : Option Kind} {h : Option Value} → Same code Fits p q → p ≡ Some n → q ≡ Some m → NextTypes threads e o h n.act o2 e2 → IsTypedAct code e o h m.act
  same_typed p q n m Fits f e g t =
      act_typed (subst (λ z. Same code Fits z (Some m)) e (subst (Same code Fits p) g f)).act t

  -- the act of a thread at a typed term: it isn't at its end, where the code has no move
  move_typed : (p : ℕ) (us : List Value) (r : Run) {e : Env} {o : Option Kind} {k : Kind} → Stands code p us r → RunTypes threads e o r k [] → (m : CodeMove) → code_move code p us ≡ Some m → IsTypedAct code e o (held r) m.act
  move_typed p us r {e = e} {o = o} {k = k} h t m is = by (now r) refl (operand_now code r) (finished code r p h.to [] h.at)
    where
      no_end : {A : Type 0} → h.to ≡ p → A
      no_end f = let none : None ≡ Some m = sym (ended_stays code p us r h f) ∙ is in absurd cc

      by : (n : Now) → now r ≡ n → OperandNow code n (operand_of r) → Finished code n (temps_in r []) [] p h.to → IsTypedAct code e o (held r) m.act
      by going g op f =
          let n = goes_of (redex r t) g in
          same_typed (move r) (code_move code p us) n.next m (StandsIn code h.to [] (operand_of r)) (subst (λ z. Same code (StandsIn code h.to [] (operand_of r)) (move r) (code_move code p z)) (sym h.temps) (follows code r p h.to [] g h.at)) n.is is n.act
      by (constant v) g op f = no_end f.1
      by (temporary v) g op f = no_end f.1

  -- the value of a thread at the end of a typed term
  end_constant : {v : Value} {e : Env} {o : Option Kind} {h : Option Value} {k : Kind} → Done (constant v) e o h k [] → IsTypedEnd e o h k v
  end_constant (d_constant p) = typed_end p

  end_temporary : {v : Value} {e : Env} {o : Option Kind} {h : Option Value} {k : Kind} → Done (temporary v) e o h k [] → IsTypedEnd e o h k v
  end_temporary d_temporary = typed_end o_temp

  end_value : (n : Now) (v : Value) {e : Env} {o : Option Kind} {h : Option Value} {k : Kind} → value_of n ≡ Some v → Done n e o h k [] → IsTypedEnd e o h k v
  end_value going v f d = absurd cc
  end_value (constant w) v {e = e} {o = o} {h = h} {k = k} f d = let same : w ≡ v = cc in subst (IsTypedEnd e o h k) same (end_constant d)
  end_value (temporary w) v {e = e} {o = o} {h = h} {k = k} f d = let same : w ≡ v = cc in subst (IsTypedEnd e o h k) same (end_temporary d)

  ends_with : {n m : Now} {a : Option (Move Run)} {b : Option CodeMove} (v : Value) → NextAlike (StandsAt code) terms (code_moves code) n m a b → value_of m ≡ Some v → value_of n ≡ Some v
  ends_with v (both_going h) e = absurd cc
  ends_with v (both_done d f) e = d ∙ sym f ∙ e

  -- what is so of the term of each thread
  module _ (s : Whole) (y : AreTyped s) (t : ℕ) (slots : List Value) (p : Place) (Goal : Type 0) (at_term : (r : Run) (k : Kind) → StandsAt code r p → IsRunning y.gives y.high y.types (seen_all y.gives s) t slots r k → Goal) where
    at_place : (r : Run) (k : Kind) (q : Place) → StandsAt code r q → IsRunning y.gives y.high y.types (seen_all y.gives s) t slots r k → q ≡ p → Goal
    at_place r k q h z e = at_term r k (subst (StandsAt code r) e h) z

    at_life : {l : Life} {c : CodeLife} → LivesAlike (StandsAt code) l c → IsTypedIn y.gives y.high y.types (seen_all y.gives s) t slots l → IsAt c p → Goal
    at_life (both_alive {p = r} {q = q} h) z at = at_place r z.0 q h z.1 at
    at_life (both_owing {p = r} {q = q} h) z at = at_place r (own (y.gives.result t)) q h z at
    at_life (both_loose {p = r} {q = q} h) z at = at_place r z.0 q h z.1 at
    at_life both_ended z at = absurd at
    at_life both_over z at = absurd at

  at_thread : (s : Whole) (w : AreTyped s) (t : ℕ) (y : CodeThread) (p : Place) (Goal : Type 0) → ((r : Run) (k : Kind) → StandsAt code r p → IsRunning w.gives w.high w.types (seen_all w.gives s) t y.slots r k → Goal)
      → IsAt y.life p → (x : Option Thread) → thread_at s.threads t ≡ x → SameFound (StandsAt code) x (Some y) → Goal
  at_thread s w t y p Goal go at None e h = absurd h
  at_thread s w t y p Goal go at (Some x) e h =
      at_life s w t y.slots p Goal go h.life (subst (λ vs. IsTypedIn w.gives w.high w.types (seen_all w.gives s) t vs x.life) h.slots (w.each t x e)) at

  -- the code's step where the plain machine takes one
  code_steps_on : (c : CodeWhole) (t : ℕ) (names : Fresh) (n : Stepped) → AreTyped n.state → (x : Option CodeStepped) → code_step code c t names ≡ x → SameSteps code (Some n) x → CodeStepsOn code c t names
  code_steps_on c t names n typed None e h = absurd h
  code_steps_on c t names n typed (Some d) e h = record { next = d; is = e; typed = record { plain = n.state; typed = typed; stands = h.1 } }

module _ (code : List Instr) (c : CodeWhole) (w : AreTypedCode code c) (t : ℕ) (y : CodeThread) (found : thread_at c.threads t ≡ Some y) (p : Place) (at : IsAt y.life p) where
  of_thread : (Goal : Type 0) → ((r : Run) (k : Kind) → StandsAt code r p → IsRunning w.typed.gives w.typed.high w.typed.types (seen_all w.typed.gives w.plain) t y.slots r k → Goal) → Goal
  of_thread Goal go =
      at_thread code w.plain w.typed t y p Goal go at (thread_at w.plain.threads t) refl (subst (SameFound (StandsAt code) (thread_at w.plain.threads t)) found (same_found (StandsAt code) w.plain.threads c.threads w.stands.threads t))

-- the next act of each thread of a typed state is typed
pub acts_are_typed : ActsAreTyped
acts_are_typed code c w t y found p at m is =
    of_thread code c w t y found p at (IsTypedMove code w.plain w.typed t y.slots m.act) (λ r k h z. record { run = r; kind = k; running = z; act = move_typed code p.pc p.temps r h z.types m is })

-- and so is the value of each that is at its end
pub ends_are_typed : EndsAreTyped
ends_are_typed code c w t y found p at v is =
    of_thread code c w t y found p at (EndsTyped w.plain w.typed t y.slots v)
    (λ r k h z. record { run = r; kind = k; running = z; value = end_value code (now r) v (ends_with code v (moves_alike code r p h) is) (done r z.types) })

-- a step that is not refused can be done, and leaves a typed state
pub code_never_stuck : CodeNeverStuck
code_never_stuck code c w t names free =
    let s = never_stuck_together_lem w.plain w.typed t names free in
    code_steps_on code c t names s.next s.typed (code_step code c t names) refl (subst (λ x. SameSteps code x (code_step code c t names)) s.is (steps_alike code w.plain c w.stands t names))

-- the code of a typed program starts typed
pub code_starts_typed : CodeStartsTyped
code_starts_typed code at items k e threaded types f = record { plain = start (program (block_t at items)); typed = starts_together_lem at items k e threaded types; stands = starts_alike code (program (block_t at items)) f }
