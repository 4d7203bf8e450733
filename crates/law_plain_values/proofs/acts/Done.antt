-- What a step of one thread leaves of the plain state.
use Rattle.std.proofs.Common.{◌≡◌, ◌≢◌, ⊎_elim, ◌∙◌, ℕ, ℤ, ◌≤◌, Bool, true, false, List, length, Option, Some, None, refl, sym, ap, subst, arith}
use Rattle.std.specs.Prelude.{if◌then◌else◌}
use Rattle.fr_store.proofs.Keys.{decide_number}
use Rattle.fr_plain.specs.declared.value.Value.{Value}
use Rattle.fr_base.specs.declared.label.Label.{Label}
use Rattle.fr_base.specs.declared.step.Fresh.{Fresh}
use Rattle.fr_base.specs.declared.step.Fresh.TheVariants as fresh
use Rattle.fr_plain.specs.Heap.{Heap, made_by}
use Rattle.fr_plain.specs.Machine.{done_act}
use Rattle.fr_sound.specs.Seen.{Gives}
use Rattle.fr_sound.specs.States.{Typing}
use Rattle.fr_plain.specs.MachineThreads.{Now, Move, Life, Thread, Whole, thread_at, with_thread, is_over, pair_of, settle_life}
use Rattle.fr_plain.specs.PlainState.{Running, PlainState, place_in, running, running_in, is_over_in, two_of, plain_state}
use Rattle.fr_plain.proofs.ByName.{put_in, put_at, put_off}
use Rattle.law_plain_values.specs.acts.Positions.{Position, PositionTypes, moves_by}
use Rattle.law_plain_values.specs.acts.Keeps.{GoesOn, is_main, is_owed, is_loose, KeepsNames, on_references, KeepsReferences, StepsTyped}
use Rattle.law_plain_values.proofs.acts.OneThread.{with_running}
use Rattle.law_plain_values.proofs.acts.AtHand.{Only}

-- nothing vanishes from a thread that goes on
pub settles : (now : Position → Now) (move : Position → Option (Move Position Position)) (wrap : Position → Life Position) (q : Position) → GoesOn wrap → settle_life (moves_by now move) (wrap q) ≡ wrap q
settles now move _ q is_main = refl
settles now move _ q is_owed = refl
settles now move _ q is_loose = refl

-- where all types are as before, those of names that were given are
pub names_stay : {P : Type 0} {a : PlainState P} {before after : Gives} → after ≡ before → KeepsNames a before after
names_stay e = record { mutexes = λ m _. ap (λ (g : Gives). g.mutex m) e; results = λ t l _. ap (λ (g : Gives). g.result t) e }

-- one change after the other
pub names_then : {P : Type 0} {a : PlainState P} {before between after : Gives} → KeepsNames a before between → KeepsNames a between after → KeepsNames a before after
names_then h k = record { mutexes = λ m e. k.mutexes m e ∙ h.mutexes m e; results = λ t l e. k.results t l e ∙ h.results t l e }

-- a step under these names that leads to a typed state, whatever it does beside its thread's life
pub step_named : (now : Position → Now) (move : Position → Option (Move Position Position)) (s : Whole Position) (t : Thread Position) (wrap : Position → Life Position) (names : Fresh) (m : Move Position (Life Position)) (plug : Value → Position) (value : Value) (q : Position) (state : Life Position → Whole Position) (labels : List Label) (before : Typing) (z : Typing)
    → GoesOn wrap → plug value ≡ q
    → done_act (moves_by now move) s t names m m.act ≡ Some (record { state = state (settle_life (moves_by now move) (wrap (plug value))); labels = labels })
    → PositionTypes z (plain_state (state (wrap q)))
    → KeepsNames (plain_state s) before.gives z.gives
    → KeepsReferences (on_references m.act) t.number (length t.slots) before.exact z.exact
    → StepsTyped before (moves_by now move) s t names m
step_named now move s t wrap names m plug value q state labels before z goes comes done typed kept refs = record {
  next = record { state = state (settle_life (moves_by now move) (wrap (plug value))); labels = labels };
  is = done;
  typing = z;
  typed = subst (λ l. PositionTypes z (plain_state (state l))) (sym (settles now move wrap (plug value) goes ∙ ap wrap comes)) typed;
  kept = kept;
  refs = refs;
}

-- without a name
pub step_by : (now : Position → Now) (move : Position → Option (Move Position Position)) (s : Whole Position) (t : Thread Position) (wrap : Position → Life Position) (m : Move Position (Life Position)) (plug : Value → Position) (value : Value) (q : Position) (state : Life Position → Whole Position) (labels : List Label) (before : Typing) (z : Typing)
    → GoesOn wrap → plug value ≡ q
    → done_act (moves_by now move) s t fresh.None m m.act ≡ Some (record { state = state (settle_life (moves_by now move) (wrap (plug value))); labels = labels })
    → PositionTypes z (plain_state (state (wrap q)))
    → z.gives ≡ before.gives
    → KeepsReferences (on_references m.act) t.number (length t.slots) before.exact z.exact
    → StepsTyped before (moves_by now move) s t fresh.None m
step_by now move s t wrap m plug value q state labels before z goes comes done typed kept refs = step_named now move s t wrap fresh.None m plug value q state labels before z goes comes done typed (names_stay kept) refs

module _ (s : Whole Position) (t : Thread Position) (p : Position) (wrap : Position → Life Position) (goes : GoesOn wrap) (found : thread_at s.threads t.number ≡ Some t) (at : t.life ≡ wrap p) where
  abbrev here : Running Position
  here = record { place = p; slots = t.slots }

  life_here : (plain_state s).thread t.number ≡ Some (running t.slots (wrap p))
  life_here = ap running_in found ∙ ap (λ l. Some (running t.slots l)) at

  runs_by : (wrap : Position → Life Position) → GoesOn wrap → (slots : List Value) (q : Position) → place_in (Some (running slots (wrap q))) ≡ Some (record { place = q; slots = slots })
  runs_by _ is_main slots q = refl
  runs_by _ is_owed slots q = refl
  runs_by _ is_loose slots q = refl

  -- the thread goes on
  pub runs_here : place_in ((plain_state s).thread t.number) ≡ Some (record { place = p; slots = t.slots })
  runs_here = ap place_in life_here ∙ runs_by wrap goes t.slots p

  with_by : (wrap : Position → Life Position) → GoesOn wrap → (slots slots2 : List Value) (p q : Position) → Some (running slots2 (wrap q)) ≡ with_running (Some (running slots (wrap p))) (record { place = q; slots = slots2 })
  with_by _ is_main slots slots2 p q = refl
  with_by _ is_owed slots slots2 p q = refl
  with_by _ is_loose slots slots2 p q = refl

  not_over : (wrap : Position → Life Position) → GoesOn wrap → (q : Position) → is_over (wrap q) ≡ false
  not_over _ is_main q = refl
  not_over _ is_owed q = refl
  not_over _ is_loose q = refl

  module _ (q : Position) (slots : List Value) (heap : Heap) (out : List ℤ) (grows : (u : ℕ) → length (made_by s.heap u) ≤ length (made_by heap u)) where
    abbrev next : Whole Position
    next = record s { threads = with_thread s.threads (record { number = t.number; life = wrap q; slots = slots }); heap = heap; output = out }

    there : thread_at (with_thread s.threads (record { number = t.number; life = wrap q; slots = slots })) t.number ≡ Some (record { number = t.number; life = wrap q; slots = slots })
    there = put_at s.threads (record { number = t.number; life = wrap q; slots = slots }) t.number refl ∙ ap (put_in (record { number = t.number; life = wrap q; slots = slots })) found

    elsewhere : (u : ℕ) → u ≢ t.number → thread_at (with_thread s.threads (record { number = t.number; life = wrap q; slots = slots })) u ≡ thread_at s.threads u
    elsewhere u ne = put_off s.threads (record { number = t.number; life = wrap q; slots = slots }) u (λ e. ne (sym e))

    over_same : (u : ℕ) → is_over_in (thread_at (with_thread s.threads (record { number = t.number; life = wrap q; slots = slots })) u) ≡ is_over_in (thread_at s.threads u)
    over_same u = ⊎_elim (λ (e : u ≡ t.number). subst (λ w. is_over_in (thread_at (with_thread s.threads (record { number = t.number; life = wrap q; slots = slots })) w) ≡ is_over_in (thread_at s.threads w)) (sym e) same) (λ (ne : u ≢ t.number). ap is_over_in (elsewhere u ne)) (decide_number u t.number)
      where
        same : is_over_in (thread_at (with_thread s.threads (record { number = t.number; life = wrap q; slots = slots })) t.number) ≡ is_over_in (thread_at s.threads t.number)
        same = ap is_over_in there ∙ not_over wrap goes q ∙ sym (not_over wrap goes p) ∙ ap is_over (sym at) ∙ sym (ap is_over_in found)

    less : (b : Bool) (m n : ℕ) → m ≤ n → (if b then 0 else m) ≤ (if b then 0 else n)
    less true m n le = omega arith
    less false m n le = le

    -- ONLY THAT THREAD DIFFERS, and the heap
    pub only_here : Only (plain_state s) (plain_state (record s { threads = with_thread s.threads (record { number = t.number; life = wrap q; slots = slots }); heap = heap; output = out })) t.number (record { place = q; slots = slots })
    only_here = record {
      now = ap running_in there ∙ with_by wrap goes t.slots slots p q ∙ ap (λ l. with_running l (record { place = q; slots = slots })) (sym life_here);
      others = λ u ne. ap running_in (elsewhere u ne);
      pairs = λ u. ap (λ (b : Bool). if b then None else two_of (pair_of s.pairs u)) (over_same u);
      mutexes = λ m. refl;
      given = λ m. refl;
      made = λ u. subst (λ (b : Bool). (if is_over_in (thread_at s.threads u) then 0 else length (made_by s.heap u)) ≤ (if b then 0 else length (made_by heap u))) (sym (over_same u)) (less (is_over_in (thread_at s.threads u)) (length (made_by s.heap u)) (length (made_by heap u)) (grows u));
    }

    -- how many objects it has made
    pub made_here : (plain_state (record s { threads = with_thread s.threads (record { number = t.number; life = wrap q; slots = slots }); heap = heap; output = out })).made t.number ≡ length (made_by heap t.number)
    made_here = ap (λ (b : Bool). if b then 0 else length (made_by heap t.number)) (ap is_over_in there ∙ not_over wrap goes q)
