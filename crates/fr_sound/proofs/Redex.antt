-- A typed term is done, or its next act is typed and what it becomes is typed again.
use Rattle.std.proofs.Common.{◌≡◌, ℕ, zero, suc, ◌≤◌, true, false, ◌∷◌, length, Option, Some, None, refl, sym, ap, ◌∙◌, subst, arith as numbers}
use Rattle.std.specs.Prelude.{⊤}
use Rattle.fr_plain.specs.Below.fr_base.declared.place.Lval.{Lval}
use Rattle.fr_plain.specs.Below.fr_base.declared.place.Op.{Op}
use Rattle.fr_plain.specs.Below.fr_terms.Terms.{Text}
use Rattle.fr_plain.specs.Below.fr_typing.Kinds.{Owned, unit, int, box, mutex, task, Kind, own, shared, mutable, view, whole}
use Rattle.fr_plain.specs.Below.fr_typing.Places.{Slot, Env, AreBelow, kind_places}
use Rattle.fr_plain.proofs.Below.fr_typing.PlaceLemmas.{AreBelow-weaker}
use Rattle.fr_store.specs.Thread.{temp_places}
use Rattle.fr_plain.specs.declared.value.Value.{Value}
use Rattle.fr_plain.specs.Acts.{Act, do_let, do_read, do_borrow, do_assign, do_box, do_arith, do_print, do_discard, do_drop, do_spawn, do_join}
use Rattle.fr_plain.specs.State.{State}
use Rattle.fr_plain.specs.Run.{Run, temp, unit_c, number, read, borrow, box_r, arith, bind, print, assign, block, spawn, join_r, mutex_r, dup, lock, locked, par, par_end, Parts, last, more, Now, going, constant, temporary, by_now, on_value, after, at_end, now, now_parts, Move, next, alone, block_end, move, move_parts}
use Rattle.fr_sound.specs.RunTypes.{Forms, threads, t_spawn, t_join, NextTypes, n_own, n_spawn, n_join, Assigns, Falls, f_none, f_one, IsInt, IsNumber, RunTypes, t_temp, t_unit, t_copy, t_move, t_borrow, t_borrow_mut, t_box, t_left, t_right, t_let, t_print, t_assign, t_block, PartsTypes, p_last, p_more, first_of, held, held_in, Operand, o_temp, o_int, ActTypes, a_let, a_copy, a_move, a_borrow, a_borrow_mut, a_assign, a_box, a_arith, a_print, a_discard, a_drop, held_after}
use Rattle.fr_sound.specs.Seen.{Beside, Holds}
use Rattle.fr_sound.proofs.Hand.{hand_int, let_go_value}
use Rattle.fr_sound.proofs.DoneTerms.{Done, d_going, d_constant, d_temporary, done, IsDone, anywhere_parts, done_parts, first_none, number_held, going_held, quiet, quiet_parts}

-- INTEGERS LEAVE THE HAND

-- an integer at hand is known to be one
abbrev pub IntAtHand : Option Kind → Option Value → Type 0
IntAtHand (Some (own int)) (Some v) = IsInt v
IntAtHand _ _ = ⊤

-- it is, by the typing of the state
pub int_at_hand : {beside : Beside} {e : Env} {st : State} (o : Option Kind) (h : Option Value) → Holds beside e o h st → IntAtHand o h
int_at_hand None h y = tt
int_at_hand (Some (own int)) None y = tt
int_at_hand (Some (own int)) (Some v) y = hand_int y
int_at_hand (Some (own unit)) h y = tt
int_at_hand (Some (own (box x))) h y = tt
int_at_hand (Some (own (mutex x))) h y = tt
int_at_hand (Some (own (task x))) h y = tt
int_at_hand (Some (shared us)) h y = tt
int_at_hand (Some (mutable us)) h y = tt
int_at_hand (Some (view x)) h y = tt

-- the value at hand stays there, or is an integer that a left operand keeps
pub data Passes : Option Kind → Option Value → Option Kind → Option Value → Type 0 where
  stays : {o : Option Kind} {h : Option Value} → Passes o h o h
  leaves_hand : {v : Value} → IsInt v → Passes (Some (own int)) (Some v) None None

-- the state stays typed
pub passes_hold : {beside : Beside} {e : Env} {o o2 : Option Kind} {h h2 : Option Value} {st : State} → Passes o h o2 h2 → Holds beside e o h st → Holds beside e o2 h2 st
passes_hold stays y = y
passes_hold (leaves_hand i) y = let_go_value y i

-- what a term becomes is typed, where the value at hand is given with its type
pub record Becomes (forms : Forms) (e : Env) (o : Option Kind) (h : Option Value) (r : Run) (k : Kind) (e1 : Env) : Type 0 where
  pub hand : Option Kind
  pub types : RunTypes forms e hand r k e1
  pub passes : Passes o h hand (held r)

pub record PartsBecome (forms : Forms) (e : Env) (o : Option Kind) (h : Option Value) (is : Parts) (k : Kind) (e1 : Env) : Type 0 where
  pub hand : Option Kind
  pub types : PartsTypes forms e hand is k e1
  pub passes : Passes o h hand (held_in is)

-- the next act is typed, and so is what the term becomes with the value that it leaves
pub record Goes (forms : Forms) (e : Env) (o : Option Kind) (h : Option Value) (k : Kind) (e1 : Env) (move : Option (Move Run)) : Type 0 where
  pub next : Move Run
  pub is : move ≡ Some next
  pub left : Option Kind
  pub env : Env
  pub act : NextTypes forms e o h next.act left env
  pub goes : (v : Value) → IntAtHand left (held_after next.act h v) → Becomes forms env left (held_after next.act h v) (next.plug v) k e1

pub record PartsGo (forms : Forms) (e : Env) (o : Option Kind) (h : Option Value) (k : Kind) (e1 : Env) (move : Option (Move Parts)) : Type 0 where
  pub next : Move Parts
  pub is : move ≡ Some next
  pub left : Option Kind
  pub env : Env
  pub act : NextTypes forms e o h next.act left env
  pub goes : (v : Value) → IntAtHand left (held_after next.act h v) → PartsBecome forms env left (held_after next.act h v) (next.plug v) k e1

-- a term that is done, or whose next act is typed
pub data GoesOr : Forms → Now → Env → Option Kind → Option Value → Kind → Env → Option (Move Run) → Type 0 where
  g_going : {forms : Forms} {e e1 : Env} {o : Option Kind} {h : Option Value} {k : Kind} {m : Option (Move Run)} → Goes forms e o h k e1 m → GoesOr forms going e o h k e1 m
  g_constant : {forms : Forms} {e e1 : Env} {o : Option Kind} {h : Option Value} {k : Kind} {m : Option (Move Run)} {v : Value} → GoesOr forms (constant v) e o h k e1 m
  g_temporary : {forms : Forms} {e e1 : Env} {o : Option Kind} {h : Option Value} {k : Kind} {m : Option (Move Run)} {v : Value} → GoesOr forms (temporary v) e o h k e1 m

pub data PartsGoOr : Forms → Now → Env → Option Kind → Option Value → Kind → Env → Option (Move Parts) → Type 0 where
  q_going : {forms : Forms} {e e1 : Env} {o : Option Kind} {h : Option Value} {k : Kind} {m : Option (Move Parts)} → PartsGo forms e o h k e1 m → PartsGoOr forms going e o h k e1 m
  q_constant : {forms : Forms} {e e1 : Env} {o : Option Kind} {h : Option Value} {k : Kind} {m : Option (Move Parts)} {v : Value} → PartsGoOr forms (constant v) e o h k e1 m
  q_temporary : {forms : Forms} {e e1 : Env} {o : Option Kind} {h : Option Value} {k : Kind} {m : Option (Move Parts)} {v : Value} → PartsGoOr forms (temporary v) e o h k e1 m

-- a term that goes on has a next act
pub goes_of : {forms : Forms} {n : Now} {e f : Env} {o : Option Kind} {h : Option Value} {k : Kind} {m : Option (Move Run)} → GoesOr forms n e o h k f m → n ≡ going → Goes forms e o h k f m
goes_of (g_going g) e = g
goes_of g_constant e = cc
goes_of g_temporary e = cc

-- the act of a term
next_one : {forms : Forms} {e e1 env : Env} {o left : Option Kind} {h : Option Value} {k : Kind} (a : Act) (f : Value → Run) → NextTypes forms e o h a left env → ((v : Value) → RunTypes forms env left (f v) k e1) → ((v : Value) → held (f v) ≡ held_after a h v) → Goes forms e o h k e1 (alone f a)
next_one {left = left} {h = h} a f t g same = record {
  next = record { act = a; plug = f };
  is = refl;
  left = left;
  env = _;
  act = t;
  goes = λ v i. record { hand = left; types = g v; passes = subst (Passes left (held_after a h v) left) (sym (same v)) stays };
}

-- an act of its own
one : {forms : Forms} {e e1 env : Env} {o left : Option Kind} {h : Option Value} {k : Kind} (a : Act) (f : Value → Run) → ActTypes e o h a left env → ((v : Value) → RunTypes forms env left (f v) k e1) → ((v : Value) → held (f v) ≡ held_after a h v) → Goes forms e o h k e1 (alone f a)
one a f t g same = next_one a f (n_own t) g same

-- an act of a part
under : {forms : Forms} {e e1 e2 : Env} {o : Option Kind} {h : Option Value} {k l : Kind} {m : Option (Move Run)} (f : Run → Run) → ((q : Run) (env : Env) (left : Option Kind) → RunTypes forms env left q k e1 → RunTypes forms env left (f q) l e2) → ((q : Run) → held (f q) ≡ held q) → Goes forms e o h k e1 m → Goes forms e o h l e2 (next f m)
under {h = h} f t same g = record {
  next = record { act = g.next.act; plug = λ v. f (g.next.plug v) };
  is = ap (next f) g.is;
  left = g.left;
  env = g.env;
  act = g.act;
  goes = λ v i. let b = g.goes v i in record { hand = b.hand; types = t _ _ _ b.types; passes = subst (Passes g.left (held_after g.next.act h v) b.hand) (sym (same (g.next.plug v))) b.passes };
}

-- a term with one part: its own act where the part is done, else the part's
unary : {forms : Forms} {n : Now} {e e1 e2 : Env} {o : Option Kind} {h : Option Value} {k l : Kind} (m : Option (Move Run)) (f : Run → Run) (act : Value → Act) (plug : Value → Run) → Done n e o h k e1 → GoesOr forms n e o h k e1 m
    → ((q : Run) (env : Env) (left : Option Kind) → RunTypes forms env left q k e1 → RunTypes forms env left (f q) l e2) → ((q : Run) → held (f q) ≡ held q)
    → ((o1 : Option Kind) (h1 : Option Value) (v : Value) → Operand o1 h1 v k → Goes forms e1 o1 h1 l e2 (alone plug (act v)))
    → Goes forms e o h l e2 (on_value n (λ v. alone plug (act v)) (next f m))
unary m f act plug d_going (g_going g) t same finish = under f t same g
unary m f act plug (d_constant p) g t same finish = finish None None _ p
unary m f act plug d_temporary g t same finish = finish (Some _) (Some _) _ o_temp

-- THE NEXT ACT

-- the box of a value
box_finish : {forms : Forms} {e : Env} {x : Owned} (o : Option Kind) (h : Option Value) (v : Value) → Operand o h v (own x) → Goes forms e o h (own (box x)) e (alone temp (do_box v))
box_finish o h v p = one (do_box v) temp (a_box p) (λ w. t_temp) (λ w. refl)

-- the new slot of a value
let_finish : {forms : Forms} {e : Env} {k : Kind} (name : Option Text) (o : Option Kind) (h : Option Value) (v : Value) → Operand o h v k → Goes forms e o h (own unit) (record { name = name; part = whole k } ∷ e) (alone (λ w. unit_c) (do_let v))
let_finish name o h v p = one (do_let v) (λ w. unit_c) (a_let name p) (λ w. t_unit) (λ w. refl)

-- the print of a value
print_finish : {forms : Forms} {e : Env} (o : Option Kind) (h : Option Value) (v : Value) → Operand o h v (own int) → Goes forms e o h (own unit) e (alone (λ w. unit_c) (do_print v))
print_finish o h v p = one (do_print v) (λ w. unit_c) (a_print p) (λ w. t_unit) (λ w. refl)

-- the assignment of a value
assign_finish : {forms : Forms} {e e2 : Env} {w : Lval} {k : Kind} → Assigns e w k e2 → (o : Option Kind) (h : Option Value) (v : Value) → Operand o h v k → Goes forms e o h (own unit) e2 (alone (λ u. unit_c) (do_assign w v))
assign_finish a o h v p = one (do_assign _ v) (λ u. unit_c) (a_assign p a) (λ u. t_unit) (λ u. refl)

-- ARITHMETIC

-- where the left operand becomes done, its integer leaves the hand
left_becomes : {forms : Forms} {n : Now} {e e1 e2 : Env} {o left : Option Kind} {h g : Option Value} (f : Op) (a b : Run) → now a ≡ n → held a ≡ g → Done n e o g (own int) e1 → RunTypes forms e o a (own int) e1 → Passes left h o g → IntAtHand left h → RunTypes forms e1 None b (own int) e2 → Becomes forms e left h (arith f a b) (own int) e2
left_becomes {left = left} {h = h} f a b e same d_going t p i u =
    record { hand = _; types = t_left e t u; passes = subst (Passes left h _) (sym (going_held f a b e ∙ same)) p }
left_becomes {left = left} {h = h} f a b e same (d_constant o_int) t p i u =
    let number : IsNumber (now a) = subst IsNumber (sym e) (_, refl) in
    record { hand = None; types = t_right number u; passes = subst (Passes left h None) (sym (number_held (now a) (held a) (held b) number ∙ quiet b u)) p }
left_becomes f a b e same d_temporary t stays i u =
    let number : IsNumber (now a) = subst IsNumber (sym e) i in
    record { hand = None; types = t_right number u; passes = subst (Passes (Some (own int)) (Some _) None) (sym (number_held (now a) (held a) (held b) number ∙ quiet b u)) (leaves_hand i) }

-- an act of the left operand
left_goes : {forms : Forms} {e e1 e2 : Env} {o : Option Kind} {h : Option Value} {m : Option (Move Run)} (f : Op) (b : Run) → RunTypes forms e1 None b (own int) e2 → Goes forms e o h (own int) e1 m → Goes forms e o h (own int) e2 (next (λ x. arith f x b) m)
left_goes f b u g = record {
  next = record { act = g.next.act; plug = λ v. arith f (g.next.plug v) b };
  is = ap (next (λ x. arith f x b)) g.is;
  left = g.left;
  env = g.env;
  act = g.act;
  goes = λ v i. let c = g.goes v i in left_becomes f (g.next.plug v) b refl refl (done (g.next.plug v) c.types) c.types c.passes i u;
}

-- the join of a thread
join_finish : {e : Env} {x : Owned} (o : Option Kind) (h : Option Value) (v : Value) → Operand o h v (own (task x)) → Goes threads e o h (own x) e (alone temp (do_join v))
join_finish o h v p = next_one (do_join v) temp (n_join p) (λ w. t_temp) (λ w. refl)

-- the operation on two values
arith_finish : {forms : Forms} {e : Env} (f : Op) (v : Value) → IsInt v → (o : Option Kind) (h : Option Value) (w : Value) → Operand o h w (own int) → Goes forms e o h (own int) e (alone temp (do_arith f v w))
arith_finish f v i o h w p = one (do_arith f v w) temp (a_arith i p) (λ u. t_temp) (λ u. refl)

-- the left operand is done: an act of the right one, or the operation
right_goes : {forms : Forms} (n : Now) {e e2 : Env} {o : Option Kind} (f : Op) (a b : Run) → now a ≡ n → IsNumber n → RunTypes forms e o b (own int) e2 → GoesOr forms (now b) e o (held b) (own int) e2 (move b)
    → Goes forms e o (held b) (own int) e2 (on_value n (λ v. on_value (now b) (λ w. alone temp (do_arith f v w)) (next (arith f a) (move b))) (next (λ x. arith f x b) (move a)))
right_goes going f a b e i t g = absurd i
right_goes (constant v) f a b e i t g =
    let number : IsNumber (now a) = subst IsNumber (sym e) i in
    unary (move b) (arith f a) (do_arith f v) temp (done b t) g (λ q env left u. t_right number u) (λ q. number_held (now a) (held a) (held q) number) (arith_finish f v i)
right_goes (temporary v) f a b e i t g =
    let number : IsNumber (now a) = subst IsNumber (sym e) i in
    unary (move b) (arith f a) (do_arith f v) temp (done b t) g (λ q env left u. t_right number u) (λ q. number_held (now a) (held a) (held q) number) (arith_finish f v i)

-- an operation whose left operand goes on
arith_left : {forms : Forms} {e e1 e2 : Env} {o : Option Kind} (f : Op) (a b : Run) → now a ≡ going → RunTypes forms e1 None b (own int) e2 → GoesOr forms (now a) e o (held a) (own int) e1 (move a) → Goes forms e o (held (arith f a b)) (own int) e2 (move (arith f a b))
arith_left {forms = forms} {e = e} {e2 = e2} {o = o} f a b same u g =
    let moves : move (arith f a b) ≡ next (λ x. arith f x b) (move a) = ap (λ n. on_value n (λ v. on_value (now b) (λ w. alone temp (do_arith f v w)) (next (arith f a) (move b))) (next (λ x. arith f x b) (move a))) same in
    subst (λ (h : Option Value). Goes forms e o h (own int) e2 (move (arith f a b))) (sym (going_held f a b same))
    (subst (λ (m : Option (Move Run)). Goes forms e o (held a) (own int) e2 m) (sym moves) (left_goes f b u (goes_of g same)))

-- an operation whose left operand is done
arith_right : {forms : Forms} {e e2 : Env} {o : Option Kind} (f : Op) (a b : Run) → IsNumber (now a) → RunTypes forms e o b (own int) e2 → GoesOr forms (now b) e o (held b) (own int) e2 (move b) → Goes forms e o (held (arith f a b)) (own int) e2 (move (arith f a b))
arith_right {forms = forms} {e = e} {e2 = e2} {o = o} f a b i t g =
    subst (λ (h : Option Value). Goes forms e o h (own int) e2 (move (arith f a b))) (sym (number_held (now a) (held a) (held b) i)) (right_goes (now a) f a b refl i t g)

-- BLOCKS

-- slots that go leave fewer
falls_length : {n : ℕ} {e e2 : Env} → Falls n e e2 → length e2 ≤ length e
falls_length f_none = omega numbers
falls_length (f_one f) = let l = falls_length f in omega (numbers, l)

-- a block: an act of its items, or the end of a slot
inside_block : {forms : Forms} (n : ℕ) {e e1 e2 : Env} {o : Option Kind} {h : Option Value} {k : Kind} {m : Option (Move Parts)} → Falls n e1 e2 → AreBelow (length e2) (kind_places k) → PartsGo forms e o h k e1 m → Goes forms e o h k e2 (next (block n) m)
inside_block n f below g = record {
  next = record { act = g.next.act; plug = λ v. block n (g.next.plug v) };
  is = ap (next (block n)) g.is;
  left = g.left;
  env = g.env;
  act = g.act;
  goes = λ v i. let b = g.goes v i in record { hand = b.hand; types = t_block b.types f below; passes = b.passes };
}

-- the end of a slot
drops_slot : {forms : Forms} (n : ℕ) (is : Parts) {s : Slot} {e e2 : Env} {o : Option Kind} {h : Option Value} {k : Kind} → held_in is ≡ h → Falls n e e2 → AreBelow (length e2) (kind_places k) → AreBelow (length e) (temp_places o) → PartsTypes forms e o is k e → Goes forms (s ∷ e) o h k e2 (alone (λ v. block n is) do_drop)
drops_slot n is same f below names p = one do_drop (λ v. block n is) (a_drop names) (λ v. t_block p f below) (λ v. same)

-- a block, by whether its items are done
block_goes : {forms : Forms} {w : Now} (n : ℕ) (is : Parts) {e e1 e2 : Env} {o : Option Kind} {h : Option Value} {k : Kind} (m : Option (Move Parts)) → w ≡ now_parts is → held_in is ≡ h → Done w e o h k e1 → PartsGoOr forms w e o h k e1 m → PartsTypes forms e o is k e1 → Falls n e1 e2 → AreBelow (length e2) (kind_places k)
    → GoesOr forms (at_end n w) e o h k e2 (on_value w (λ v. block_end n is) (next (block n) m))
block_goes zero is m is_now same d_going (q_going g) p f below = g_going (inside_block zero f below g)
block_goes (suc n) is m is_now same d_going (q_going g) p f below = g_going (inside_block (suc n) f below g)
block_goes zero is m is_now same (d_constant v) g p f below = g_constant
block_goes (suc n) is {e2 = e2} {k = k} m is_now same (d_constant v) g p (f_one {e = e3} f) below =
    g_going (drops_slot n is same f below tt (anywhere_parts is e3 (subst IsDone is_now tt) (AreBelow-weaker (length e2) (length e3) (kind_places k) (falls_length f) below) p))
block_goes zero is m is_now same d_temporary g p f below = g_temporary
block_goes (suc n) is {e2 = e2} {k = k} m is_now same d_temporary g p (f_one {e = e3} f) below =
    let low = AreBelow-weaker (length e2) (length e3) (kind_places k) (falls_length f) below in
    g_going (drops_slot n is same f below low (anywhere_parts is e3 (subst IsDone is_now tt) low p))

-- an act of the last item
in_last : {forms : Forms} {e e1 : Env} {o : Option Kind} {h : Option Value} {k : Kind} {m : Option (Move Run)} → Goes forms e o h k e1 m → PartsGo forms e o h k e1 (next last m)
in_last g = record {
  next = record { act = g.next.act; plug = λ v. last (g.next.plug v) };
  is = ap (next last) g.is;
  left = g.left;
  env = g.env;
  act = g.act;
  goes = λ v i. let b = g.goes v i in record { hand = b.hand; types = p_last b.types; passes = b.passes };
}

-- the last item, by whether it is done
last_goes : {forms : Forms} {w : Now} {e e1 : Env} {o : Option Kind} {h : Option Value} {k : Kind} (m : Option (Move Run)) → GoesOr forms w e o h k e1 m → PartsGoOr forms w e o h k e1 (next last m)
last_goes m (g_going g) = q_going (in_last g)
last_goes m g_constant = q_constant
last_goes m g_temporary = q_temporary

-- an act of an item before others
in_first : {forms : Forms} (is : Parts) {e e1 e2 : Env} {o : Option Kind} {h : Option Value} {k l : Kind} {m : Option (Move Run)} → PartsTypes forms e1 None is l e2 → Goes forms e o h k e1 m → PartsGo forms e o (first_of h (held_in is)) l e2 (next (λ q. more q is) m)
in_first {forms = forms} is {e = e} {e2 = e2} {o = o} {h = h} {l = l} {m = m} p g = subst (λ (x : Option Value). PartsGo forms e o x l e2 (next (λ q. more q is) m)) (sym (ap (first_of h) q ∙ first_none h)) at_first
  where
    q : held_in is ≡ None
    q = quiet_parts is p

    at_first : PartsGo forms e o h l e2 (next (λ q. more q is) m)
    at_first = record {
      next = record { act = g.next.act; plug = λ v. more (g.next.plug v) is };
      is = ap (next (λ q. more q is)) g.is;
      left = g.left;
      env = g.env;
      act = g.act;
      goes = λ v i. let b = g.goes v i in record { hand = b.hand; types = p_more b.types p; passes = subst (Passes g.left (held_after g.next.act h v) b.hand) (sym (ap (first_of (held (g.next.plug v))) q ∙ first_none (held (g.next.plug v)))) b.passes };
    }

-- an item before others, by whether it is done
more_goes : {forms : Forms} {w : Now} (u : Now) (is : Parts) {e e1 e2 : Env} {o : Option Kind} {h : Option Value} {k l : Kind} (m : Option (Move Run)) (n : Option (Move Parts)) → Done w e o h k e1 → GoesOr forms w e o h k e1 m → PartsTypes forms e1 None is l e2
    → PartsGoOr forms u e1 None (held_in is) l e2 n → PartsGoOr forms (after w u) e o (first_of h (held_in is)) l e2 (by_now w (next (λ q. more q is) m) (λ v. n) (λ v. alone (λ q. is) (do_discard v)))
more_goes u is m n d_going (g_going g) p c = q_going (in_first is p g)
more_goes u is m n (d_constant v) g p c = c
more_goes u is m n d_temporary g p c =
    q_going (record { next = record { act = do_discard _; plug = λ v. is }; is = refl; left = None; env = _; act = n_own a_discard; goes = λ v i. record { hand = None; types = p; passes = subst (Passes None None None) (sym (quiet_parts is p)) stays } })

mutual
  -- a typed term is done, or its next act is typed
  pub redex : {forms : Forms} (r : Run) {e e1 : Env} {o : Option Kind} {k : Kind} → RunTypes forms e o r k e1 → GoesOr forms (now r) e o (held r) k e1 (move r)
  redex (temp v) t = g_temporary
  redex unit_c t = g_constant
  redex (number n) t = g_constant
  redex (read w take) (t_copy c) = g_going (one (do_read w false) temp (a_copy c) (λ v. t_temp) (λ v. refl))
  redex (read w take) (t_move m) = g_going (one (do_read w true) temp (a_move m) (λ v. t_temp) (λ v. refl))
  redex (borrow w false) (t_borrow m) = g_going (one (do_borrow w false) temp (a_borrow m) (λ v. t_temp) (λ v. refl))
  redex (borrow w true) (t_borrow_mut m) = g_going (one (do_borrow w true) temp (a_borrow_mut m) (λ v. t_temp) (λ v. refl))
  redex (box_r r) (t_box t) = g_going (unary (move r) box_r do_box temp (done r t) (redex r t) (λ q env left. t_box) (λ q. refl) box_finish)
  redex (arith f a b) (t_left same t u) = g_going (arith_left f a b same u (redex a t))
  redex (arith f a b) (t_right i t) = g_going (arith_right f a b i t (redex b t))
  redex (bind r) (t_let name t) = g_going (unary (move r) bind do_let (λ w. unit_c) (done r t) (redex r t) (λ q env left. t_let name) (λ q. refl) (let_finish name))
  redex (print r) (t_print t) = g_going (unary (move r) print do_print (λ w. unit_c) (done r t) (redex r t) (λ q env left. t_print) (λ q. refl) print_finish)
  redex (assign w r) (t_assign t a) = g_going (unary (move r) (assign w) (do_assign w) (λ u. unit_c) (done r t) (redex r t) (λ q env left h. t_assign h a) (λ q. refl) (assign_finish a))
  redex (spawn cs r) (t_spawn c t) = g_going (next_one (do_spawn cs r) temp (n_spawn c t) (λ v. t_temp) (λ v. refl))
  redex (join_r r) (t_join t) = g_going (unary (move r) join_r do_join temp (done r t) (redex r t) (λ q env left. t_join) (λ q. refl) join_finish)
  redex (mutex_r r) t = elim t [ ]
  redex (dup w) t = elim t [ ]
  redex (lock w r) t = elim t [ ]
  redex (locked r) t = elim t [ ]
  redex (par cs a ds b) t = elim t [ ]
  redex par_end t = elim t [ ]
  redex (block n is) (t_block p f below) = block_goes n is (move_parts is) refl refl (done_parts is p) (redex_parts is p) p f below

  -- and so are typed parts
  pub redex_parts : {forms : Forms} (is : Parts) {e e1 : Env} {o : Option Kind} {k : Kind} → PartsTypes forms e o is k e1 → PartsGoOr forms (now_parts is) e o (held_in is) k e1 (move_parts is)
  redex_parts (last r) (p_last t) = last_goes (move r) (redex r t)
  redex_parts (more r is) (p_more t p) = more_goes (now_parts is) is (move r) (move_parts is) (done r t) (redex r t) p (redex_parts is p)
