-- A new object: its name is new, since each object's number is below what its thread has made.
use Rattle.std.proofs.Common.{◌≡◌, ℕ, ◌+◌, ◌≤◌, ◌==◌, ◌&&◌, ◌||◌, Bool, true, false, not, nat_lt, if◌then◌else◌, List, [], ◌∷◌, ◌++◌, Option, Some, None, refl, sym, ap, subst, ◌∙◌, arith}
use Rattle.std.proofs.lemmas.Bool.Decides.{nat_tests}
use Rattle.coherent_memory.proofs.Below.fr_store.Keys.{object_cases}
use Rattle.coherent_memory.specs.Below.fr_base.declared.name.ObjNo.{ObjNo}
use Rattle.coherent_memory.specs.Below.fr_base.declared.label.Label.TheVariants as label
use Rattle.coherent_memory.specs.Below.fr_base.declared.instruction.Operand.{Operand}
use Rattle.coherent_memory.specs.Below.fr_base.declared.instruction.Operand.TheVariants as operand
use Rattle.coherent_memory.specs.Below.heap_partition.Plain.{plain_of}
use Rattle.coherent_memory.specs.Below.heap_partition.declared.value.BoxPtr.{BoxPtr}
use Rattle.coherent_memory.specs.Below.heap_partition.declared.value.Cell.{Cell}
use Rattle.coherent_memory.specs.Below.heap_partition.declared.value.Owned.{Owned}
use Rattle.coherent_memory.specs.Below.heap_partition.declared.value.Owned.TheVariants as owned
use Rattle.coherent_memory.specs.Below.thread_state.View.{ThreadState, is_over}
use Rattle.coherent_memory.specs.Below.thread_state.declared.value.Value.{Value}
use Rattle.coherent_memory.specs.Below.thread_state.declared.value.Value.TheVariants as value
use Rattle.coherent_memory.specs.Below.journal.declared.act.Act.TheVariants as act
use Rattle.coherent_memory.specs.Below.server_model.Work.{Hand, Popped, label_all, last_of, pop, pop_owned, taken_as, owned_of}
use Rattle.coherent_memory.specs.Below.server_model.NewWords.{NewWord, issue_placed}
use Rattle.coherent_memory.specs.Below.server_model.Commit.{next_object, push_box, make_box, box_up}
use Rattle.coherent_memory.specs.Names.{tot, one, other, same_object}
use Rattle.coherent_memory.specs.Things.{Thing, in_hand, holds, lies, flies, stands, thread_things}
use Rattle.coherent_memory.specs.Weights.{cells, owners, states, below, uses_of, users_of, shares_of, shares_at_home, tasks_of, is_thread}
use Rattle.coherent_memory.specs.Follow.{Standing, threads_in, thread_at}
use Rattle.coherent_memory.specs.Sight.{Sight}
use Rattle.coherent_memory.specs.Naming.{was_made, not_made}
use Rattle.law_counts_sums.specs.Sums.{Sums, is_server}
use Rattle.law_counts_sums.specs.Laws.{Gives}
use Rattle.law_counts_sums.proofs.Trades.{Trade, tot-append}
use Rattle.law_counts_sums.proofs.Rules.{recolours, Kept}
use Rattle.law_counts_sums.proofs.RulesKeep.{cell_falls, Counted, counted_kept}
use Rattle.law_counts_sums.proofs.Results.{map_gives, over_gives, bind_gives, both_give}
use Rattle.law_counts_sums.proofs.Bags.{HandOk, had_by, rest_things}
use Rattle.law_counts_sums.proofs.Values.{pushes_temp, beside_trades}
use Rattle.law_counts_sums.proofs.ObjectMessages.{issues_placed}
use Rattle.law_counts_sums.proofs.Drops.{labelled, pops_owned}

-- THE NAME IS NEW

-- a thread of that number that has made so many, and goes on
abbrev pub goes_as : ℕ → ℕ → Thing → ℕ
goes_as t m (stands r p x) = one (x.number == t && (x.made == m && not (is_over x.phase)))
goes_as t m x = 0

-- such a thread is the one that is found
abbrev Found : ℕ → Option Standing → Type 0
Found m None = ⊥
Found m (Some z) = (is_over z.thread.phase ≡ false) × (z.thread.made ≡ m)

goes_thread : (t m : ℕ) (x : Thing) → goes_as t m x ≤ is_thread t x
goes_thread t m (stands r p x) = by (x.number == t) (x.made == m && not (is_over x.phase))
  where
    by : (a b : Bool) → one (a && b) ≤ one a
    by true true = omega arith
    by true false = omega arith
    by false b = omega arith
goes_thread t m _ = omega arith

pub tot_le : (f g : Thing → ℕ) → ((x : Thing) → f x ≤ g x) → (xs : List Thing) → tot f xs ≤ tot g xs
tot_le f g h [] = omega arith
tot_le f g h (x ∷ xs) = omega (arith, h x, tot_le f g h xs)

finds : (t m : ℕ) (b : List Thing) → tot (is_thread t) b ≤ 1 → 1 ≤ tot (goes_as t m) b → Found m (thread_at (threads_in b) t)
finds t m [] few l = absurd (omega (arith, l))
finds t m (stands r p x ∷ b) few l = by (x.number == t) refl (finds t m b)
  where
    made : (q o : Bool) → (x.made == m) ≡ q → is_over x.phase ≡ o → 1 ≤ one (q && not o) → (is_over x.phase ≡ false) × (x.made ≡ m)
    made true false h g l = (g, grind (arith, nat_tests, h))
    made true true h g l = absurd (omega (arith, l))
    made false o h g l = absurd (omega (arith, l))

    by : (a : Bool) → (x.number == t) ≡ a → (tot (is_thread t) b ≤ 1 → 1 ≤ tot (goes_as t m) b → Found m (thread_at (threads_in b) t)) → Found m (if a then Some (record { server = r; packed = p; thread = x }) else thread_at (threads_in b) t)
    by true e go =
        let one_here : is_thread t (stands r p x) ≡ 1 = ap one e in
        let same : goes_as t m (stands r p x) ≡ one (x.made == m && not (is_over x.phase)) = ap (λ a. one (a && (x.made == m && not (is_over x.phase)))) e in
        made (x.made == m) (is_over x.phase) refl refl (omega (arith, few, l, one_here, same, tot_le (goes_as t m) (is_thread t) (goes_thread t m) b))
    by false e go =
        let none_here : is_thread t (stands r p x) ≡ 0 = ap one e in
        go (omega (arith, few)) (omega (arith, l, none_here, goes_thread t m (stands r p x)))
finds t m (holds p v ∷ b) few l = finds t m b (omega (arith, few)) (omega (arith, l))
finds t m (Rattle.coherent_memory.specs.Things.shares p v ∷ b) few l = finds t m b (omega (arith, few)) (omega (arith, l))
finds t m (Rattle.coherent_memory.specs.Things.borrows p v ∷ b) few l = finds t m b (omega (arith, few)) (omega (arith, l))
finds t m (Rattle.coherent_memory.specs.Things.locks p v ∷ b) few l = finds t m b (omega (arith, few)) (omega (arith, l))
finds t m (lies s a c ∷ b) few l = finds t m b (omega (arith, few)) (omega (arith, l))
finds t m (flies w c ∷ b) few l = finds t m b (omega (arith, few)) (omega (arith, l))
finds t m (Rattle.coherent_memory.specs.Things.vacant s a c ∷ b) few l = finds t m b (omega (arith, few)) (omega (arith, l))
finds t m (Rattle.coherent_memory.specs.Things.retired s a ∷ b) few l = finds t m b (omega (arith, few)) (omega (arith, l))
finds t m (Rattle.coherent_memory.specs.Things.copied s a ∷ b) few l = finds t m b (omega (arith, few)) (omega (arith, l))
finds t m (Rattle.coherent_memory.specs.Things.uses s a ∷ b) few l = finds t m b (omega (arith, few)) (omega (arith, l))
finds t m (Rattle.coherent_memory.specs.Things.sent s a ∷ b) few l = finds t m b (omega (arith, few)) (omega (arith, l))
finds t m (Rattle.coherent_memory.specs.Things.at_home s a ∷ b) few l = finds t m b (omega (arith, few)) (omega (arith, l))
finds t m (Rattle.coherent_memory.specs.Things.queued s a c ∷ b) few l = finds t m b (omega (arith, few)) (omega (arith, l))
finds t m (Rattle.coherent_memory.specs.Things.noted s a ∷ b) few l = finds t m b (omega (arith, few)) (omega (arith, l))
finds t m (Rattle.coherent_memory.specs.Things.counts s a c d e f ∷ b) few l = finds t m b (omega (arith, few)) (omega (arith, l))

abbrev name : ℕ → ℕ → ObjNo
name t m = record { thread = t; count = m }

not_below : (m : ℕ) → nat_lt m m ≡ false
not_below m = by (nat_lt m m) refl
  where
    by : (b : Bool) → nat_lt m m ≡ b → b ≡ false
    by true e = absurd (grind (arith, nat_tests, e))
    by false e = refl

unmade : (t m : ℕ) (z : Option Standing) → Found m z → other (was_made (name t m) z) ≡ 1
unmade t m None f = absurd f
unmade t m (Some z) f =
    let below : nat_lt m z.thread.made ≡ false = subst (λ i. nat_lt m i ≡ false) (sym f.1) (not_below m) in
    ap (λ a. other (a || nat_lt m z.thread.made)) f.0 ∙ ap other below

none_of : (s : Sight) (t m : ℕ) → Found m (thread_at s.ground.threads t) → (b : List Thing) → tot (not_made s) b ≡ 0 → tot (cells (name t m)) b ≡ 0
none_of s t m f [] z = refl
none_of s t m f (x ∷ b) z = omega (arith, one_none x (omega (arith, z)), none_of s t m f b (omega (arith, z)))
  where
    cell_none : (c : ObjNo) → other (was_made c (thread_at s.ground.threads c.thread)) ≡ 0 → one (same_object c (name t m)) ≡ 0
    cell_none c h =
        object_cases (λ q. one q ≡ 0) c (name t m)
        (λ e. let here : other (was_made (name t m) (thread_at s.ground.threads t)) ≡ 0 = subst (λ (o : ObjNo). other (was_made o (thread_at s.ground.threads o.thread)) ≡ 0) e h in absurd (omega (arith, here, unmade t m (thread_at s.ground.threads t) f)))
        (λ ne. refl)

    one_none : (x : Thing) → not_made s x ≡ 0 → cells (name t m) x ≡ 0
    one_none (lies r a c) h = cell_none c.object h
    one_none (flies w c) h = cell_none c.object h
    one_none _ h = refl

-- each thread's next object is new
abbrev pub AllNew : List Thing → Type 0
AllNew b = (t m : ℕ) → 1 ≤ tot (goes_as t m) b → tot (cells (name t m)) b ≡ 0

pub all_new : (s : Sight) → s.ground.threads ≡ threads_in s.things → Sums s.things → tot (not_made s) s.things ≡ 0 → AllNew s.things
all_new s q k z t m l = none_of s t m (subst (λ xs. Found m (thread_at xs t)) (sym q) (finds t m s.things (k.numbers_differ t) l)) s.things z

-- THE SUMS, WHERE A NAME IS NEW

abbrev pub New : (ℕ → ℕ) → ObjNo → List Thing → Type 0
New w o b = Counted w b × (tot (cells o) b ≡ 0)

pub new_kept : (w : ℕ → ℕ) (o : ObjNo) → Kept (New w o)
new_kept w o =
    let all : Kept (Counted w) = counted_kept w in record {
      same = λ a b e k. (all.same a b e k.0, omega (arith, e (cells o), k.1));
      trades = λ t r k. (all.trades t r k.0, omega (arith, t.before (cells o), t.after (cells o), cell_falls o _ _ r, k.1));
      placed = λ b k. all.placed b k.0;
    }

-- the object is made in the air, with its box in the hand
makes_flying : (w : ℕ → ℕ) (a b : List Thing) (n : ℕ) (x : ThreadState) (v : Owned) (o : ObjNo)
    → Trade a (stands n false x ∷ holds in_hand v ∷ []) (stands n false (record x { made = x.made + 1 }) ∷ flies 0 (record { object = o; value = v }) ∷ holds in_hand (owned.Box (record { word = 0; object = o })) ∷ []) b
    → New w o a → Counted w b
makes_flying w a b n x v o t k = record {
  sums = record {
    home_of_each = λ p. by p (same_object o p) refl;
    owner_of_each = λ p. omega (arith, t.before (owners p), t.after (owners p), t.before (cells p), t.after (cells p), k.0.sums.owner_of_each p);
    one_state = λ at. omega (arith, t.before (states at), t.after (states at), t.before (below at), t.after (below at), k.0.sums.one_state at);
    users_counted = λ at. omega (arith, t.before (uses_of at), t.after (uses_of at), t.before (users_of at), t.after (users_of at), k.0.sums.users_counted at);
    shares_counted = λ m. omega (arith, t.before (shares_of m), t.after (shares_of m), t.before (shares_at_home m), t.after (shares_at_home m), k.0.sums.shares_counted m);
    one_task_value = λ i. omega (arith, t.before (tasks_of i), t.after (tasks_of i), k.0.sums.one_task_value i);
    numbers_differ = λ i. omega (arith, t.before (is_thread i), t.after (is_thread i), k.0.sums.numbers_differ i);
    servers_differ = λ i. omega (arith, t.before (is_server i), t.after (is_server i), k.0.sums.servers_differ i);
  };
  tasks = λ i. omega (arith, t.before (tasks_of i), t.after (tasks_of i), k.0.tasks i);
}
  where
    by : (p : ObjNo) (q : Bool) → same_object o p ≡ q → tot (cells p) b ≤ 1
    by p true e =
        object_cases (λ q. q ≡ true → tot (cells p) b ≤ 1) o p
        (λ same h. let z : tot (cells p) a ≡ 0 = subst (λ u. tot (cells u) a ≡ 0) same k.1 in let n1 : one (same_object o p) ≡ 1 = ap one e in omega (arith, z, n1, t.before (cells p), t.after (cells p)))
        (λ ne h. absurd (cc h)) e
    by p false e =
        let n0 : one (same_object o p) ≡ 0 = ap one e in
        omega (arith, n0, t.before (cells p), t.after (cells p), k.0.sums.home_of_each p)

module _ (w : ℕ → ℕ) (n e t : ℕ) (others : List Thing) where
  makes_box : (v : Owned) (h : Hand) → HandOk (New w (next_object h)) n e t (holds in_hand v ∷ others) h → Gives (HandOk (Counted w) n e t others) (make_box v h)
  makes_box v h g =
      let o = next_object h in
      let c : Cell = record { object = o; value = v } in
      let b0 : BoxPtr = record { word = 0; object = o } in
      let x = h.thread in
      let h2 : Hand = record { work = h.work; thread = record x { made = x.made + 1 } } in
      let r = rest_things n e h.work.rest in
      let news = flies 0 c ∷ holds in_hand (owned.Box b0) ∷ others in
      let made : Trade (thread_things n false x ++ (r ++ (holds in_hand v ∷ others))) (stands n false x ∷ holds in_hand v ∷ []) (stands n false h2.thread ∷ flies 0 c ∷ holds in_hand (owned.Box b0) ∷ []) (thread_things n false h2.thread ++ (r ++ news)) = record {
        rest = had_by n x ++ (r ++ others);
        before = λ f. omega (arith, tot-append f (had_by n x) (r ++ (holds in_hand v ∷ others)), tot-append f r (holds in_hand v ∷ others), tot-append f (had_by n x) (r ++ others), tot-append f r others);
        after = λ f. omega (arith, tot-append f (had_by n x) (r ++ news), tot-append f r news, tot-append f (had_by n x) (r ++ others), tot-append f r others);
      } in
      let flying : HandOk (Counted w) n e t news h2 = record { number = g.number; thread = g.thread; bag = makes_flying w _ _ n x v o made g.bag } in
      over_gives (λ (m : NewWord). HandOk (Counted w) n e t (holds in_hand (owned.Box b0) ∷ others) (record h2 { work = m.work })) (HandOk (Counted w) n e t others) (issue_placed (act.Make o) c h.work) (λ m. push_box v m h)
      (issues_placed (counted_kept w) n e t (holds in_hand (owned.Box b0) ∷ others) (act.Make o) 0 c h2 flying)
      (λ m u.
      let worded = beside_trades (counted_kept w) n e t (holds in_hand (owned.Box b0) ∷ others) (holds in_hand (owned.Box (record { word = m.word; object = o })) ∷ others) (record h2 { work = m.work }) (record { rest = others; before = λ f. omega arith; after = λ f. omega arith }) (recolours in_hand b0 m.word) u in
      pushes_temp (counted_kept w) n e t others (value.Own (owned.Box (record { word = m.word; object = o }))) (record { work = label_all (label.Make o (plain_of v) ∷ []) m.work; thread = h2.thread }) (labelled (counted_kept w) n e t (holds in_hand (owned.Box (record { word = m.word; object = o })) ∷ others) (label.Make o (plain_of v) ∷ []) (record h2 { work = m.work }) worded))

  -- a pop changes no name
  pop_named : (o : Operand) (h : Hand) → Gives (λ (p : Popped Value). next_object p.hand ≡ next_object h) (pop o h)
  pop_named (operand.Const i) h = refl
  pop_named operand.Unit h = refl
  pop_named operand.Pop h = map_gives (λ (p : Popped Value). next_object p.hand ≡ next_object h) (last_of h.thread.temps) _ (λ v q. refl)

  pop_owned_named : (o : Operand) (h : Hand) → Gives (λ (p : Popped Owned). next_object p.hand ≡ next_object h) (pop_owned o h)
  pop_owned_named o h =
      bind_gives (λ (p : Popped Value). next_object p.hand ≡ next_object h) (λ (p : Popped Owned). next_object p.hand ≡ next_object h) (pop o h) (taken_as owned_of) (pop_named o h)
      (λ p q. map_gives (λ (y : Popped Owned). next_object y.hand ≡ next_object h) (owned_of p.item) _ (λ v z. q))

  pub boxes_up : (o : Operand) (h : Hand) → HandOk (New w (next_object h)) n e t others h → Gives (HandOk (Counted w) n e t others) (box_up o h)
  boxes_up o h g =
      bind_gives (λ (p : Popped Owned). HandOk (New w (next_object p.hand)) n e t (holds in_hand p.item ∷ others) p.hand) (HandOk (Counted w) n e t others) (pop_owned o h) _
      (both_give (λ (p : Popped Owned). HandOk (New w (next_object h)) n e t (holds in_hand p.item ∷ others) p.hand) (λ (p : Popped Owned). next_object p.hand ≡ next_object h) (λ (p : Popped Owned). HandOk (New w (next_object p.hand)) n e t (holds in_hand p.item ∷ others) p.hand) (pop_owned o h)
      (pops_owned (new_kept w (next_object h)) n e t others o h g) (pop_owned_named o h)
      (λ p u q. subst (λ (z : ObjNo). HandOk (New w z) n e t (holds in_hand p.item ∷ others) p.hand) (sym q) u))
      (λ p u. makes_box p.item p.hand u)
