-- When two machines step alike (this project's rule): a relation between their places that the moves keep. P and Q are the
-- places, and R says which ones stand for each other once they have settled.
use Rattle.std.specs.Prelude.{◌≡◌, ⊤, List, [], ◌∷◌, Option, Some, None}
use Rattle.fr_plain.specs.declared.value.Value.{Value}
use Rattle.fr_plain.specs.MachineActs.{Capture, Act, carry, do_spawn, do_par}
use Rattle.fr_plain.specs.MachineThreads.{Now, going, constant, temporary, Move, Moves, Life, alive, over, owing, loose, ended, Thread, Whole}
use Rattle.fr_plain.specs.Machine.{Stepped}

-- the value of work that is done
abbrev pub value_of : Now → Option Value
value_of going = None
value_of (constant v) = Some v
value_of (temporary v) = Some v

module _ {P Q : Type 0} (R : P → Q → Type 0) where
  -- STATES

  -- both go on at places that are alike, or have ended alike
  pub data LivesAlike : Life P → Life Q → Type 0 where
    both_alive : {p : P} {q : Q} → R p q → LivesAlike (alive p) (alive q)
    both_owing : {p : P} {q : Q} → R p q → LivesAlike (owing p) (owing q)
    both_loose : {p : P} {q : Q} → R p q → LivesAlike (loose p) (loose q)
    both_ended : {v : Value} → LivesAlike (ended v) (ended v)
    both_over : LivesAlike over over

  pub record ThreadsAlike (x : Thread P) (y : Thread Q) : Type 0 where
    pub number : x.number ≡ y.number
    pub life : LivesAlike x.life y.life
    pub slots : x.slots ≡ y.slots

  abbrev pub AllAlike : List (Thread P) → List (Thread Q) → Type 0
  AllAlike [] [] = ⊤
  AllAlike (x ∷ xs) (y ∷ ys) = ThreadsAlike x y × AllAlike xs ys
  AllAlike _ _ = ⊥

  -- each thread is alike, over the same heap, mutexes and pairs, and with the same output
  pub record Alike (s : Whole P) (c : Whole Q) : Type 0 where
    pub threads : AllAlike s.threads c.threads
    pub heap : s.heap ≡ c.heap
    pub mutexes : s.mutexes ≡ c.mutexes
    pub pairs : s.pairs ≡ c.pairs
    pub output : s.output ≡ c.output

  -- neither steps without the other
  abbrev pub SteppedAlike : Option (Stepped P) → Option (Stepped Q) → Type 0
  SteppedAlike None None = ⊤
  SteppedAlike (Some x) (Some y) = (x.labels ≡ y.labels) × Alike x.state y.state
  SteppedAlike _ _ = ⊥

  -- MOVES

  module _ (ms : Moves P) (ns : Moves Q) where
    -- the same act; new threads start alike
    pub data ActsAlike : Act P → Act Q → Type 0 where
      same_act : (a : Act ⊥) → ActsAlike (carry a) (carry a)
      same_start : {cs : List Capture} {p : P} {q : Q} → R (ms.settle p) (ns.settle q) → ActsAlike (do_spawn cs p) (do_spawn cs q)
      same_starts : {cs ds : List Capture} {p p2 : P} {q q2 : Q} → R (ms.settle p) (ns.settle q) → R (ms.settle p2) (ns.settle q2) → ActsAlike (do_par cs p ds p2) (do_par cs q ds q2)

    pub record MoveAlike (m : Move P P) (n : Move Q Q) : Type 0 where
      pub act : ActsAlike m.act n.act
      pub plug : (v : Value) → R (ms.settle (m.plug v)) (ns.settle (n.plug v))

    -- neither moves without the other
    abbrev pub MovesAlike : Option (Move P P) → Option (Move Q Q) → Type 0
    MovesAlike None None = ⊤
    MovesAlike (Some m) (Some n) = MoveAlike m n
    MovesAlike _ _ = ⊥

    -- both are done with the same value, or both go on
    pub data NextAlike : Now → Now → Option (Move P P) → Option (Move Q Q) → Type 0 where
      both_done : {n m : Now} {a : Option (Move P P)} {b : Option (Move Q Q)} {v : Value} → value_of n ≡ Some v → value_of m ≡ Some v → NextAlike n m a b
      both_going : {a : Option (Move P P)} {b : Option (Move Q Q)} → MovesAlike a b → NextAlike going going a b

    -- THE LAW

    -- where moves from alike places are alike
    abbrev pub PlacesAlike : Type 0
    PlacesAlike = (p : P) (q : Q) → R p q → NextAlike (ms.now p) (ns.now q) (ms.move p) (ns.move q)
