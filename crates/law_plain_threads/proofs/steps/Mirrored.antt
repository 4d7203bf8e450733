-- Machines whose threads have the same values: what types a state of one types that of the other.
use Rattle.std.proofs.Common.{◌≡◌, ◌⊎◌, inl, inr, ◌∙◌, ℕ, ◌<◌, List, [], length, Option, Some, None, refl, sym, ap, ap₂, subst}
use Rattle.std.proofs.Math.Path.{fun_ext}
use Rattle.fr_base.specs.declared.name.ObjNo.{ObjNo}
use Rattle.fr_base.specs.declared.name.MutexNo.{MutexNo}
use Rattle.fr_store.specs.Keys.{Key, slot_k, temp_k, content_k, result_k, hand_k}
use Rattle.fr_store.specs.Store.{Location, Val, mutex_v, task_v, box_v, Store, value_at}
use Rattle.fr_store.specs.Typed.{Typed}
use Rattle.fr_plain.specs.declared.value.Value.{Value}
use Rattle.fr_plain.specs.State.{slot_at}
use Rattle.fr_plain.specs.MachineThreads.{Life, alive, over, owing, loose, ended, Shared}
use Rattle.fr_plain.specs.PlainState.{Running, PlainState, place_in}
use Rattle.fr_sound.specs.Seen.{OneTask, seen_cell}
use Rattle.fr_sound.specs.Entries.{Entry}
use Rattle.fr_sound.specs.States.{Typing, slot_val, temp_val, result_val, content_val, is_held, key_val, store_of, RunningTyped, WaitsFor, WaitsAbove, directly, through, IsKept, IsBranch, AreSoMany, IsShare, IsMark, HasOneMark, MutexTyped, IsOwed, StateTypes}

-- THREADS

module _ {P Q : Type 0} (temps : P → List Value) (others : Q → List Value) where
  -- the same slots and temporary values
  pub record SameValues (x : Running P) (z : Running Q) : Type 0 where
    pub slots : z.slots ≡ x.slots
    pub held : others z.place ≡ temps x.place

  -- both go on with the same values, or have ended alike
  pub data SameLives : Option (Life (Running P)) → Option (Life (Running Q)) → Type 0 where
    none_there : SameLives None None
    both_alive : {x : Running P} {z : Running Q} → SameValues x z → SameLives (Some (alive x)) (Some (alive z))
    both_owing : {x : Running P} {z : Running Q} → SameValues x z → SameLives (Some (owing x)) (Some (owing z))
    both_loose : {x : Running P} {z : Running Q} → SameValues x z → SameLives (Some (loose x)) (Some (loose z))
    both_ended : {v : Value} → SameLives (Some (ended v)) (Some (ended v))
    both_over : SameLives (Some over) (Some over)

  -- each thread has the same values, and all else is the same
  pub record Mirrors (a : PlainState P) (b : PlainState Q) : Type 0 where
    pub threads : (t : ℕ) → SameLives (a.thread t) (b.thread t)
    pub made : (t : ℕ) → b.made t ≡ a.made t
    pub pairs : (t : ℕ) → b.pair t ≡ a.pair t
    pub objects : (o : ObjNo) → b.object o ≡ a.object o
    pub mutexes : (m : MutexNo) → b.mutex m ≡ a.mutex m
    pub given : (m : MutexNo) → b.is_given m ≡ a.is_given m

  -- a thread that goes on does so in both
  pub record Both (l : Option (Life (Running P))) (z : Running Q) : Type 0 where
    pub running : Running P
    pub runs : place_in l ≡ Some running
    pub same : SameValues running z

  both_at : {l : Option (Life (Running P))} {k : Option (Life (Running Q))} → SameLives l k → (z : Running Q) → place_in k ≡ Some z → Both l z
  both_at none_there z e = cc
  both_at (both_alive {x = x} {z = w} h) z e = let f : w ≡ z = cc in record { running = x; runs = refl; same = subst (λ q. SameValues x q) f h }
  both_at (both_owing {x = x} {z = w} h) z e = let f : w ≡ z = cc in record { running = x; runs = refl; same = subst (λ q. SameValues x q) f h }
  both_at (both_loose {x = x} {z = w} h) z e = let f : w ≡ z = cc in record { running = x; runs = refl; same = subst (λ q. SameValues x q) f h }
  both_at both_ended z e = cc
  both_at both_over z e = cc

  kept_both : {l : Option (Life (Running P))} {k : Option (Life (Running Q))} → SameLives l k → IsKept l → IsKept k
  kept_both none_there h = h
  kept_both (both_alive e) h = h
  kept_both (both_owing e) h = h
  kept_both (both_loose e) h = h
  kept_both both_ended h = h
  kept_both both_over h = h

  ended_both : {l : Option (Life (Running P))} {k : Option (Life (Running Q))} (v : Value) → SameLives l k → k ≡ Some (ended v) → l ≡ Some (ended v)
  ended_both v none_there e = cc
  ended_both v (both_alive h) e = cc
  ended_both v (both_owing h) e = cc
  ended_both v (both_loose h) e = cc
  ended_both v (both_ended {v = w}) e = let f : w ≡ v = cc in ap (λ u. Some (ended u)) f
  ended_both v both_over e = cc

  -- what is known of one thread is known of the other
  pub same_running : (knows : P → Entry → Type 0) (knows_other : Q → Entry → Type 0) (y : Typing) (s : Store) (t : ℕ) (pair : Option (ℕ × ℕ)) (x : Running P) (z : Running Q) → SameValues x z → (r : RunningTyped knows temps y s t pair x) → knows_other z.place r.entry → RunningTyped knows_other others y s t pair z
  same_running knows knows_other y s t pair x z same r known = record {
    entry = r.entry;
    known = known;
    gives = r.gives;
    keys = r.keys;
    thread = r.thread;
    waiting = r.waiting;
    all_slots = ap length same.slots ∙ r.all_slots;
    all_temps = ap length same.held ∙ r.all_temps;
    lower = r.lower;
    forks = r.forks;
    hidden = λ i. r.hidden i ∙ ap (λ vs. is_held (slot_at vs i)) (sym same.slots);
    marked = λ i m e. r.marked i m (ap (λ vs. slot_at vs i) (sym same.slots) ∙ e);
  }

-- the other way round
pub back : {P Q : Type 0} {temps : P → List Value} {others : Q → List Value} {l : Option (Life (Running P))} {k : Option (Life (Running Q))} → SameLives temps others l k → SameLives others temps k l
back none_there = none_there
back (both_alive h) = both_alive (record { slots = sym h.slots; held = sym h.held })
back (both_owing h) = both_owing (record { slots = sym h.slots; held = sym h.held })
back (both_loose h) = both_loose (record { slots = sym h.slots; held = sym h.held })
back both_ended = both_ended
back both_over = both_over

-- WHO WAITS FOR WHOM

module _ {P Q : Type 0} (a : PlainState P) (b : PlainState Q) (pairs : (t : ℕ) → b.pair t ≡ a.pair t) where
  waits_both : (p t : ℕ) → WaitsFor a p t → WaitsFor b p t
  waits_both p t h = record { first = h.first; second = h.second; pair = pairs p ∙ h.pair; one = h.one }

  above_both : (p t : ℕ) → WaitsAbove a p t → WaitsAbove b p t
  above_both p t (directly h) = directly (waits_both p t h)
  above_both p t (through {q = q} h g) = through (waits_both p q h) (above_both q t g)

-- THE STATE

module _ {P Q : Type 0} (knows : P → Entry → Type 0) (temps : P → List Value) (knows_other : Q → Entry → Type 0) (others : Q → List Value) (y : Typing) (a : PlainState P) (b : PlainState Q) (h : Mirrors temps others a b) where
  abbrev here : Store
  here = store_of temps y a

  abbrev there : Store
  there = store_of others y b

  slots_same : (t i : ℕ) {x : Running P} {z : Running Q} → SameValues temps others x z → slot_val others y t i (Some z) ≡ slot_val temps y t i (Some x)
  slots_same t i {z = z} e = ap (λ vs. slot_val others y t i (Some (record { place = z.place; slots = vs }))) e.slots

  slot_same : (t i : ℕ) {l : Option (Life (Running P))} {k : Option (Life (Running Q))} → SameLives temps others l k → slot_val others y t i (place_in k) ≡ slot_val temps y t i (place_in l)
  slot_same t i none_there = refl
  slot_same t i (both_alive e) = slots_same t i e
  slot_same t i (both_owing e) = slots_same t i e
  slot_same t i (both_loose e) = slots_same t i e
  slot_same t i both_ended = refl
  slot_same t i both_over = refl

  temp_same : (t i : ℕ) {l : Option (Life (Running P))} {k : Option (Life (Running Q))} → SameLives temps others l k → temp_val others y t i (place_in k) ≡ temp_val temps y t i (place_in l)
  temp_same t i none_there = refl
  temp_same t i (both_alive e) = ap (λ vs. temp_val (λ ws. ws) y t i (Some (record { place = vs; slots = [] }))) e.held
  temp_same t i (both_owing e) = ap (λ vs. temp_val (λ ws. ws) y t i (Some (record { place = vs; slots = [] }))) e.held
  temp_same t i (both_loose e) = ap (λ vs. temp_val (λ ws. ws) y t i (Some (record { place = vs; slots = [] }))) e.held
  temp_same t i both_ended = refl
  temp_same t i both_over = refl

  result_same : (t : ℕ) {l : Option (Life (Running P))} {k : Option (Life (Running Q))} → SameLives temps others l k → result_val others y t k ≡ result_val temps y t l
  result_same t none_there = refl
  result_same t (both_alive e) = refl
  result_same t (both_owing e) = refl
  result_same t (both_loose e) = refl
  result_same t both_ended = refl
  result_same t both_over = refl

  -- what stands there is the same
  key_same : (k : Key) → key_val others y b k ≡ key_val temps y a k
  key_same (slot_k t i) = slot_same t i (h.threads t)
  key_same (temp_k t i) = temp_same t i (h.threads t)
  key_same (content_k n c) = ap (content_val y.gives) (h.mutexes (record { home = n; count = c }))
  key_same (result_k t) = result_same t (h.threads t)
  key_same (hand_k t) = refl

  store_same : here ≡ there
  store_same = ap₂ (λ f g. (let s : Store = record { at = f; heap = g } in s)) (fun_ext (λ k. sym (key_same k))) (fun_ext (λ o. ap (seen_cell y.gives) (sym (h.objects o))))

  stands : (l : Location) (v : Val) → value_at there l ≡ Some v → value_at here l ≡ Some v
  stands l v e = ap (λ s. value_at s l) store_same ∙ e

  stands_there : (l : Location) (v : Val) → value_at here l ≡ Some v → value_at there l ≡ Some v
  stands_there l v e = ap (λ s. value_at s l) (sym store_same) ∙ e

  waits_here : (p t : ℕ) → WaitsFor b p t → WaitsFor a p t
  waits_here p t w = waits_both b a (λ u. sym (h.pairs u)) p t w

  branch_same : (p t : ℕ) → IsBranch y a p t → IsBranch y b p t
  branch_same p t f = record { kept = kept_both temps others (h.threads t) f.kept; gives = f.gives; only = λ q w. f.only q (waits_here q t w); below = f.below }

  share_here : (m : MutexNo) (l : Location) → IsShare there m l → IsShare here m l
  share_here m l e = (e.0, stands l (mutex_v m e.0) e.1)

  -- MARKS

  mark_here : (m : MutexNo) (t i : ℕ) → IsMark b m t i → IsMark a m t i
  mark_here m t i w = let d = both_at temps others (h.threads t) w.thread w.goes_on in record { thread = d.running; goes_on = d.runs; mark = ap (λ vs. slot_at vs i) (sym d.same.slots) ∙ w.mark }

  mark_there : (m : MutexNo) (t i : ℕ) → IsMark a m t i → IsMark b m t i
  mark_there m t i w = let d = both_at others temps (back (h.threads t)) w.thread w.goes_on in record { thread = d.running; goes_on = d.runs; mark = ap (λ vs. slot_at vs i) (sym d.same.slots) ∙ w.mark }

  one_mark : (m : MutexNo) → HasOneMark a m → HasOneMark b m
  one_mark m d = record { thread = d.thread; slot = d.slot; is = mark_there m d.thread d.slot d.is; only = λ t i w. d.only t i (mark_here m t i w) }

  mutex_same : (m : MutexNo) (x : Shared) → MutexTyped y a here m x → MutexTyped y b there m x
  mutex_same m x d = record {
    given = h.given m ∙ d.given;
    shares = subst (λ s. AreSoMany (IsShare s m) x.shares) store_same d.shares;
    needed = d.needed;
    out = λ e. one_mark m (d.out e);
    unheld = λ v e t i w. d.unheld v e t i (mark_here m t i w);
    content = d.content;
  }

  owed_here : (t : ℕ) → IsOwed b t → IsOwed a t
  owed_here t o = record { free = λ p w. o.free p (waits_both a b h.pairs p t w); kept = kept_both others temps (back (h.threads t)) o.kept }

  owed_there : (t : ℕ) → IsOwed a t → IsOwed b t
  owed_there t o = record { free = λ p w. o.free p (waits_here p t w); kept = kept_both temps others (h.threads t) o.kept }

  -- each thread that goes on is typed by what the other machine knows
  abbrev ThreadsGo : Type 0
  ThreadsGo = (t : ℕ) (x : Running P) (z : Running Q) → place_in (a.thread t) ≡ Some x → place_in (b.thread t) ≡ Some z → SameValues temps others x z → RunningTyped knows temps y here t (a.pair t) x → RunningTyped knows_other others y here t (a.pair t) z

  -- then the state is typed
  pub mirrored : StateTypes knows temps y a → ThreadsGo → StateTypes knows_other others y b
  mirrored st go = record {
    typed = subst (Typed y.rank y.exact) store_same st.typed;
    threads = λ t z e.
        let d = both_at temps others (h.threads t) z e in
        subst (λ s. RunningTyped knows_other others y s t (b.pair t) z) store_same (subst (λ p. RunningTyped knows_other others y here t p z) (sym (h.pairs t)) (go t d.running z d.runs e d.same (st.threads t d.running d.runs)));
    results = λ t v e. st.results t v (ended_both temps others v (h.threads t) e);
    near = λ k m u e. let n = st.near k m u e in record { thread = n.thread; of = n.of; owner = n.owner; slot = n.slot; is = n.is; near = near_both n.owner n.thread n.near };
    pairs = λ p c d e. let w = st.pairs p c d (sym (h.pairs p) ∙ e) in (w.0, branch_same p c w.1, branch_same p d w.2);
    parents = λ p c d e. let w = st.parents p c d (sym (h.pairs p) ∙ e) in let z = both_at others temps (back (h.threads p)) w.0 w.1 in (z.running, z.runs);
    there = λ l m e. let d = st.there l m (share_here m l e) in (d.0, h.mutexes m ∙ d.1);
    mutexes = λ m x e. mutex_same m x (st.mutexes m x (sym (h.mutexes m) ∙ e));
    one_task = subst OneTask store_same st.one_task;
    tasks_owed = λ l t r e. owed_there t (st.tasks_owed l t r (stands l (task_v t r) e));
    owed_stand = λ t o. let d = st.owed_stand t (owed_here t o) in (d.0, d.1, stands_there d.0 (task_v t d.1) d.2);
    objects_there = λ l o e. let d = st.objects_there l o (stands l (box_v o) e) in (d.0, h.objects o ∙ d.1);
    objects_owned = λ o v e. let d = st.objects_owned o v (sym (h.objects o) ∙ e) in (d.0, stands_there d.0 (box_v o) d.1);
    objects_made = λ o v z e f.
        let d = both_at temps others (h.threads o.thread) z f in
        subst (λ n. o.count < n) (sym (h.made o.thread)) (st.objects_made o v d.running (sym (h.objects o) ∙ e) d.runs);
  }
    where
      near_both : (p t : ℕ) → (p ≡ t) ⊎ WaitsAbove a p t → (p ≡ t) ⊎ WaitsAbove b p t
      near_both p t (inl e) = inl e
      near_both p t (inr w) = inr (above_both a b h.pairs p t w)
