-- Instructions that touch their thread's slots and temporary values alone, at the server and on the plain machine: a line each.
use Rattle.std.proofs.Common.{◌≡◌, ℕ, ℤ, ◌+◌, true, false, List, [], ◌∷◌, ◌++◌, reverse, map, Option, Some, None, option_map, refl, sym, ap, ◌∙◌, subst, arith}
use Rattle.std.specs.Prelude.{slice_get}
use Rattle.std.proofs.lemmas.List.{map-append, reverse-append}
use Rattle.law_words_kept.specs.Below.fr_base.declared.label.Label.TheVariants as label
use Rattle.law_words_kept.specs.Below.fr_base.declared.label.Plain.TheVariants as plain
use Rattle.law_words_kept.specs.Below.fr_base.declared.place.Lval.{Lval}
use Rattle.law_words_kept.specs.Below.fr_base.declared.place.Op.{Op}
use Rattle.law_words_kept.specs.Below.fr_base.declared.step.Fresh.TheVariants as fresh
use Rattle.law_words_kept.specs.Below.fr_base.declared.instruction.Instr.{Instr}
use Rattle.law_words_kept.specs.Below.fr_base.declared.instruction.Instr.TheVariants as instr
use Rattle.law_words_kept.specs.Below.fr_base.declared.instruction.Operand.{Operand}
use Rattle.law_words_kept.specs.Below.fr_base.declared.instruction.Operand.TheVariants as operand
use Rattle.law_words_kept.specs.Below.fr_plain.declared.value.Value.{Value as PlainValue}
use Rattle.law_words_kept.specs.Below.fr_plain.declared.value.Value.TheVariants.{Own}
use Rattle.law_words_kept.specs.Below.fr_plain.Acts.{result_of}
use Rattle.law_words_kept.specs.Below.fr_plain.MachineActs.{do_let, do_arith, do_print, do_borrow}
use Rattle.law_words_kept.specs.Below.fr_plain.MachineActs as acts
use Rattle.law_words_kept.specs.Below.fr_code.Steps.{Place, CodeMove, over_at, with_operand, loud, quiet, run_instr, code_moves}
use Rattle.law_words_kept.specs.Below.fr_plain.MachineThreads.{going, Move}
use Rattle.law_words_kept.specs.Below.fr_plain.Machine.{alone_stepped, done_act}
use Rattle.law_words_kept.specs.Below.fr_code.Machine.{CodeLife, CodeThread, CodeWhole, CodeState}
use Rattle.law_words_kept.specs.Below.heap_partition.declared.value.Owned.TheVariants as owned
use Rattle.law_words_kept.specs.Below.read_cache.Cache.{Copy}
use Rattle.law_words_kept.specs.Below.migration.Packing.{unpin_all}
use Rattle.law_words_kept.specs.Below.thread_state.View.{ThreadState}
use Rattle.law_words_kept.specs.Below.thread_state.declared.value.Value.{Value}
use Rattle.law_words_kept.specs.Below.thread_state.declared.value.Value.TheVariants as value
use Rattle.law_words_kept.specs.Below.server_model.Servers.{Rest}
use Rattle.law_words_kept.specs.Below.server_model.Work.{Hand, Popped, with_cache, with_temps, pop, pop_int, int_of, taken_as, last_of, front_of, push_slot, push_temp, working, label_all}
use Rattle.law_words_kept.specs.Below.server_model.Commit.{goes_on, go_on, let_slot, arith as arith_step, print}
use Rattle.law_words_kept.specs.Below.server_model.Events.{Stepped, begin_work, committed, step}
use Rattle.law_words_kept.specs.Below.coherent_memory.Names.{tot, one}
use Rattle.law_words_kept.specs.Below.coherent_memory.OneHeap.{Node, object_n, mutex_n, task_n, owns, plain_value, running_at}
use Rattle.law_words_kept.specs.Below.law_counts_sums.Laws.{Gives}
use Rattle.law_words_kept.proofs.Below.law_counts_sums.Results.{map_gives, over_gives, bind_gives}
use Rattle.law_words_kept.proofs.Below.law_counts_sums.Values.{last_split}
use Rattle.law_words_kept.proofs.Below.law_counts_sums.Bags.{rest_things}
use Rattle.law_words_kept.proofs.Below.law_counts_sums.Trades.{tot-append}
use Rattle.law_heap_still.specs.events.Shows.{sign_of}
use Rattle.law_heap_still.proofs.events.Arrivals.{cache_shown}
use Rattle.law_heap_still.proofs.events.Sites.{Moves}
use Rattle.law_heap_steps.proofs.turns.Parts.{value_owns, owned_in}
use Rattle.law_heap_steps.proofs.turns.OneTurn.{after}
use Rattle.law_heap_steps.proofs.turns.PlainTurn.{Does, DoesIn, state_at, alone_does}

-- VALUES, THE NEWEST FIRST

abbrev pub shown_last : List Value → List PlainValue
shown_last vs = reverse (map plain_value vs)

pub shown_push : (vs : List Value) (v : Value) → shown_last (vs ++ v ∷ []) ≡ plain_value v ∷ shown_last vs
shown_push vs v = ap reverse (map-append plain_value vs (v ∷ [])) ∙ reverse-append (map plain_value vs) (plain_value v ∷ [])

pub owned_push : (q : Node) (vs : List Value) (v : Value) → owned_in q (vs ++ v ∷ []) ≡ owned_in q vs + one (value_owns q v)
owned_push q vs v = omega (arith, tot-append (λ w. one (value_owns q w)) vs (v ∷ []))

pub int_owns : (q : Node) (n : ℤ) → owns q (owned.Int n) ≡ false
int_owns (object_n o) n = refl
int_owns (mutex_n m) n = refl
int_owns (task_n t) n = refl

pub unit_owns : (q : Node) → owns q owned.Unit ≡ false
unit_owns (object_n o) = refl
unit_owns (mutex_n m) = refl
unit_owns (task_n t) = refl

-- OPERANDS

-- from these temporary values the operand takes that value and leaves these, on the plain machine too
pub record Pops (o : Operand) (vs : List Value) (v : Value) (rest : List Value) : Type 0 where
  pub taken : (go : PlainValue → List PlainValue → Option CodeMove) → with_operand o (shown_last vs) go ≡ go (plain_value v) (shown_last rest)
  pub owned : (q : Node) → owned_in q vs ≡ owned_in q rest + one (value_owns q v)

-- what an operand leaves of the hand, with its value
pub record PopsTo (o : Operand) (h : Hand) {X : Type 0} (form : X → Value) (p : Popped X) : Type 0 where
  pub rest : List Value
  pub hand : p.hand ≡ with_temps rest h
  pub pops : Pops o h.thread.temps (form p.item) rest

abbrev pub itself : Value → Value
itself v = v

abbrev pub as_int : ℤ → Value
as_int n = value.Own (owned.Int n)

pub popped : (o : Operand) (h : Hand) → Gives (PopsTo o h itself) (pop o h)
popped (operand.Const n) h = record { rest = h.thread.temps; hand = refl; pops = record { taken = λ go. refl; owned = λ q. let z = int_owns q n in omega (arith, ap one z) } }
popped operand.Unit h = record { rest = h.thread.temps; hand = refl; pops = record { taken = λ go. refl; owned = λ q. let z = unit_owns q in omega (arith, ap one z) } }
popped operand.Pop h =
    map_gives (PopsTo operand.Pop h itself) (last_of h.thread.temps) (λ v. record { item = v; hand = with_temps (front_of h.thread.temps) h }) (λ v e. record {
      rest = front_of h.thread.temps;
      hand = refl;
      pops = record {
        taken = λ go. ap (λ l. with_operand operand.Pop l go) (ap shown_last (last_split h.thread.temps v e) ∙ shown_push (front_of h.thread.temps) v);
        owned = λ q. ap (owned_in q) (last_split h.thread.temps v e) ∙ owned_push q (front_of h.thread.temps) v;
      };
    })

int_taken : (o : Operand) (h : Hand) (p : Popped Value) → PopsTo o h itself p → Gives (PopsTo o h as_int) (taken_as int_of p)
int_taken o h p u = by p.item refl
  where
    by : (v : Value) → p.item ≡ v → Gives (PopsTo o h as_int) (option_map (λ x. record { item = x; hand = p.hand }) (int_of v))
    by (value.Own (owned.Int n)) e = record { rest = u.rest; hand = u.hand; pops = subst (λ v. Pops o h.thread.temps v u.rest) e u.pops }
    by (value.Own owned.Nothing) e = tt
    by (value.Own owned.Unit) e = tt
    by (value.Own (owned.Box b)) e = tt
    by (value.Own (owned.Mutex m)) e = tt
    by (value.Own (owned.Task t)) e = tt
    by value.Gone e = tt
    by (value.SharedSlot i) e = tt
    by (value.MutSlot i) e = tt
    by (value.Shared r) e = tt
    by (value.Mut r) e = tt
    by (value.Held m) e = tt

pub popped_int : (o : Operand) (h : Hand) → Gives (PopsTo o h as_int) (pop_int o h)
popped_int o h = bind_gives (PopsTo o h itself) (PopsTo o h as_int) (pop o h) (taken_as int_of) (popped o h) (int_taken o h)

-- THE TURN

-- what the thread that takes a step has afterwards, and that the plain machine does the same
pub record Turn (code : List Instr) (r : Rest) (x : ThreadState) (d : Stepped) : Type 0 where
  pub pc : ℕ
  pub slots : List Value
  pub temps : List Value
  pub thread : d.hand.thread ≡ after x pc slots temps
  -- beside the threads, what shows in the one heap is as it was
  pub moves : Moves [] [] r d.hand.work.rest
  pub named : d.names ≡ Some fresh.None
  pub even : (q : Node) → owned_in q x.slots + owned_in q x.temps ≡ owned_in q slots + owned_in q temps
  pub does : Does code (running_at x) (running_at (after x pc slots temps)) d.hand.work.labels

-- the same where that depends on the heap: in a state of the plain machine that shows this one
pub record TurnIn (a : CodeState) (code : List Instr) (r : Rest) (x : ThreadState) (d : Stepped) : Type 0 where
  pub pc : ℕ
  pub slots : List Value
  pub temps : List Value
  pub thread : d.hand.thread ≡ after x pc slots temps
  pub moves : Moves [] [] r d.hand.work.rest
  pub named : d.names ≡ Some fresh.None
  pub even : (q : Node) → owned_in q x.slots + owned_in q x.temps ≡ owned_in q slots + owned_in q temps
  pub does : DoesIn a code x.number (running_at x) (running_at (after x pc slots temps)) d.hand.work.labels

-- what doesn't depend on it is so in each state
pub turn_in : (a : CodeState) (code : List Instr) (r : Rest) (x : ThreadState) (d : Stepped) → Turn code r x d → TurnIn a code r x d
turn_in a code r x d u = record { pc = u.pc; slots = u.slots; temps = u.temps; thread = u.thread; moves = u.moves; named = u.named; even = u.even; does = λ g c same. u.does g c x.number }

-- the same before the step is settled, for one that goes on to the next instruction
pub record Quick (code : List Instr) (r : Rest) (x : ThreadState) (h : Hand) : Type 0 where
  pub slots : List Value
  pub temps : List Value
  pub thread : h.thread ≡ record x { slots = slots; temps = temps }
  pub rest : h.work.rest ≡ r
  pub even : (q : Node) → owned_in q x.slots + owned_in q x.temps ≡ owned_in q slots + owned_in q temps
  pub does : Does code (running_at x) (running_at (after x (x.pc + 1) slots temps)) h.work.labels

module _ (code : List Instr) (servers : ℕ) (r : Rest) (x : ThreadState) where
  abbrev pub h0 : Hand
  h0 = record { work = begin_work r; thread = x }

  pub settles : (o : Option Hand) → Gives (Quick code r x) o → Gives (Turn code r x) (committed (goes_on o))
  settles None g = tt
  settles (Some h) g = by (unpin_all h.thread.walk h.work.rest.cache)
    where
      by : (o : Option (List Copy)) → Gives (Turn code r x) (option_map (λ h2. record { hand = h2; names = Some fresh.None })
          (option_map (λ cs. record { work = with_cache cs h.work; thread = record (go_on h).thread { passed = 0; walk = []; moved_since_step = false } }) o))
      by None = tt
      by (Some cs) = record {
        pc = x.pc + 1;
        slots = g.slots;
        temps = g.temps;
        thread = ap (λ (y : ThreadState). after y (y.pc + 1) y.slots y.temps) g.thread;
        moves = record {
          number = ap (λ (q : Rest). q.number) g.rest;
          alike = λ w z. cache_shown r cs w z ∙ ap (λ (q : Rest). tot (λ y. w (sign_of y)) (rest_things r.number 0 (record q { cache = cs }))) (sym g.rest);
        };
        named = refl;
        even = g.even;
        does = g.does;
      }

  -- A NEW VARIABLE

  module _ (o : Operand) (here : slice_get code x.pc ≡ Some (instr.Let o)) where
    let_does : (v : Value) (rest : List Value) → Pops o x.temps v rest → Does code (running_at x) (running_at (after x (x.pc + 1) (x.slots ++ v ∷ []) rest)) []
    let_does v rest u =
        subst (λ ss. Does code (running_at x) (record { place = record { pc = x.pc + 1; temps = shown_last rest }; slots = ss }) []) (sym (shown_push x.slots v))
        (alone_does code (running_at x) (do_let (plain_value v)) (λ w. record { pc = x.pc + 1; temps = shown_last rest }) acts.unit (plain_value v ∷ shown_last x.slots) []
        (ap (λ i. over_at i (shown_last x.temps)) here)
        (ap (λ i. run_instr i x.pc (shown_last x.temps)) here ∙ u.taken (λ w us. quiet (x.pc + 1) us (do_let w)))
        (λ c z m. refl) (λ c t. refl) (λ c t. refl))

    pub lets : Gives (Turn code r x) (step servers (instr.Let o) h0)
    lets = settles (let_slot o h0) (over_gives (PopsTo o h0 itself) (Quick code r x) (pop o h0) (λ t. push_slot t.item t.hand) (popped o h0) (λ p u. record {
      slots = x.slots ++ p.item ∷ [];
      temps = u.rest;
      thread = ap (λ (h : Hand). (push_slot p.item h).thread) u.hand;
      rest = ap (λ (h : Hand). h.work.rest) u.hand;
      even = λ q. omega (arith, u.pops.owned q, owned_push q x.slots p.item);
      does = subst (λ (h : Hand). Does code (running_at x) (running_at (after x (x.pc + 1) (x.slots ++ p.item ∷ []) u.rest)) h.work.labels) (sym u.hand) (let_does p.item u.rest u.pops);
    }))

  -- NUMBERS

  module _ (o : Operand) (here : slice_get code x.pc ≡ Some (instr.Print o)) where
    print_does : (n : ℤ) (rest : List Value) → Pops o x.temps (as_int n) rest → Does code (running_at x) (running_at (after x (x.pc + 1) x.slots rest)) (label.Print n ∷ [])
    print_does n rest u =
        alone_does code (running_at x) (do_print (Own (plain.Int n))) (λ w. record { pc = x.pc + 1; temps = shown_last rest }) acts.unit (shown_last x.slots) (label.Print n ∷ [])
        (ap (λ i. over_at i (shown_last x.temps)) here) (ap (λ i. run_instr i x.pc (shown_last x.temps)) here ∙ u.taken (λ w us. quiet (x.pc + 1) us (do_print w))) (λ c z m. refl) (λ c t. refl) (λ c t. refl)

    pub prints : Gives (Turn code r x) (step servers (instr.Print o) h0)
    prints = settles (print o h0) (over_gives (PopsTo o h0 as_int) (Quick code r x) (pop_int o h0) (λ t. working (label_all (label.Print t.item ∷ [])) t.hand) (popped_int o h0) (λ p u. record {
      slots = x.slots;
      temps = u.rest;
      thread = ap (λ (h : Hand). h.thread) u.hand;
      rest = ap (λ (h : Hand). h.work.rest) u.hand;
      even = λ q. (let z = int_owns q p.item in omega (arith, u.pops.owned q, ap one z));
      does = subst (λ (h : Hand). Does code (running_at x) (running_at (after x (x.pc + 1) x.slots u.rest)) (h.work.labels ++ label.Print p.item ∷ [])) (sym u.hand) (print_does p.item u.rest u.pops);
    }))

  module _ (f : Op) (a b : Operand) (here : slice_get code x.pc ≡ Some (instr.Arith f a b)) where
    arith_does : (m n : ℤ) (mid rest : List Value) → Pops b x.temps (as_int n) mid → Pops a mid (as_int m) rest
        → Does code (running_at x) (running_at (after x (x.pc + 1) x.slots (rest ++ as_int (result_of f m n) ∷ []))) []
    arith_does m n mid rest u v =
        subst (λ ts. Does code (running_at x) (record { place = record { pc = x.pc + 1; temps = ts }; slots = shown_last x.slots }) []) (sym (shown_push rest (as_int (result_of f m n))))
        (alone_does code (running_at x) (do_arith f (Own (plain.Int m)) (Own (plain.Int n))) (λ w. record { pc = x.pc + 1; temps = w ∷ shown_last rest }) (Own (plain.Int (result_of f m n))) (shown_last x.slots) []
        (ap (λ i. over_at i (shown_last x.temps)) here)
        (ap (λ i. run_instr i x.pc (shown_last x.temps)) here ∙ u.taken (λ w us. with_operand a us (λ y vs. loud (x.pc + 1) vs (do_arith f y w))) ∙ v.taken (λ y vs. loud (x.pc + 1) vs (do_arith f y (Own (plain.Int n)))))
        (λ c z m. refl) (λ c t. refl) (λ c t. refl))

    pub sums : Gives (Turn code r x) (step servers (instr.Arith f a b) h0)
    sums = settles (arith_step f a b h0) (bind_gives (PopsTo b h0 as_int) (Quick code r x) (pop_int b h0) (λ y. option_map (λ z. push_temp (as_int (result_of f z.item y.item)) z.hand) (pop_int a y.hand)) (popped_int b h0) (λ y u.
        over_gives (PopsTo a (with_temps u.rest h0) as_int) (Quick code r x) (pop_int a y.hand) (λ z. push_temp (as_int (result_of f z.item y.item)) z.hand)
        (subst (λ h. Gives (PopsTo a (with_temps u.rest h0) as_int) (pop_int a h)) (sym u.hand) (popped_int a (with_temps u.rest h0)))
        (λ z v. record {
          slots = x.slots;
          temps = v.rest ++ as_int (result_of f z.item y.item) ∷ [];
          thread = ap (λ (h : Hand). (push_temp (as_int (result_of f z.item y.item)) h).thread) v.hand;
          rest = ap (λ (h : Hand). h.work.rest) v.hand;
          even = λ q. (let d = int_owns q y.item in let e = int_owns q z.item in let g = int_owns q (result_of f z.item y.item) in
              omega (arith, u.pops.owned q, v.pops.owned q, ap one d, ap one e, ap one g, owned_push q v.rest (as_int (result_of f z.item y.item))));
          does = subst (λ (h : Hand). Does code (running_at x) (running_at (after x (x.pc + 1) x.slots (v.rest ++ as_int (result_of f z.item y.item) ∷ []))) h.work.labels) (sym v.hand) (arith_does z.item y.item u.rest v.rest u.pops v.pops);
        })))

  -- REFERENCES TO VARIABLES

  -- a value that owns nothing is a new temporary value
  pub pushes : (v : Value) → ((q : Node) → value_owns q v ≡ false) → Does code (running_at x) (running_at (after x (x.pc + 1) x.slots (x.temps ++ v ∷ []))) [] → Quick code r x (push_temp v h0)
  pushes v e d = record { slots = x.slots; temps = x.temps ++ v ∷ []; thread = refl; rest = refl; even = λ q. omega (arith, owned_push q x.temps v, ap one (e q)); does = d }

  -- a place without a star
  abbrev pub variable : ℕ → Lval
  variable i = record { slot = i; depth = 0 }

  pub loud_does : (i : Instr) (a : acts.Act Place) (v : Value) → slice_get code x.pc ≡ Some i → over_at (Some i) (shown_last x.temps) ≡ going → run_instr (Some i) x.pc (shown_last x.temps) ≡ loud (x.pc + 1) (shown_last x.temps) a
      → ((c : CodeWhole) (z : CodeThread) (m : Move Place CodeLife) → done_act (code_moves code) c z fresh.None m a ≡ alone_stepped (code_moves code) c z m a)
      → ((c : CodeWhole) (t : ℕ) → acts.act a (state_at c t (shown_last x.slots)) ≡ Some (record { value = plain_value v; state = state_at c t (shown_last x.slots); labels = [] }))
      → ((c : CodeWhole) (t : ℕ) → acts.drops_last a (state_at c t (shown_last x.slots)) ≡ plain.Nothing)
      → Does code (running_at x) (running_at (after x (x.pc + 1) x.slots (x.temps ++ v ∷ []))) []
  loud_does i a v here now move lone did last =
      subst (λ ts. Does code (running_at x) (record { place = record { pc = x.pc + 1; temps = ts }; slots = shown_last x.slots }) []) (sym (shown_push x.temps v))
      (alone_does code (running_at x) a (λ w. record { pc = x.pc + 1; temps = w ∷ shown_last x.temps }) (plain_value v) (shown_last x.slots) [] (ap (λ j. over_at j (shown_last x.temps)) here ∙ now)
      (ap (λ j. run_instr j x.pc (shown_last x.temps)) here ∙ move) lone did last)

  pub shared_borrows : (i : ℕ) → slice_get code x.pc ≡ Some (instr.Borrow (variable i)) → Gives (Turn code r x) (step servers (instr.Borrow (variable i)) h0)
  shared_borrows i here =
      settles (Some (push_temp (value.SharedSlot i) h0))
      (pushes (value.SharedSlot i) (λ q. refl) (loud_does (instr.Borrow (variable i)) (do_borrow (variable i) false) (value.SharedSlot i) here refl refl (λ c z m. refl) (λ c t. refl) (λ c t. refl)))

  pub mutable_borrows : (i : ℕ) → slice_get code x.pc ≡ Some (instr.BorrowMut (variable i)) → Gives (Turn code r x) (step servers (instr.BorrowMut (variable i)) h0)
  mutable_borrows i here =
      settles (Some (push_temp (value.MutSlot i) h0))
      (pushes (value.MutSlot i) (λ q. refl) (loud_does (instr.BorrowMut (variable i)) (do_borrow (variable i) true) (value.MutSlot i) here refl refl (λ c z m. refl) (λ c t. refl) (λ c t. refl)))
