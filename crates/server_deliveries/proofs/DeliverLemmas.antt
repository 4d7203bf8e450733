-- What a delivery that has a result finds at its server.
use Rattle.std.proofs.Common.{◌≡◌, is_some, true≢false, ℕ, ◌&&◌, Bool, true, false, ◌==◌, nat_lt, if◌then◌else◌, List, Option, None, Some, IsSome, option_map, refl, sym, ap, subst, ◌∙◌}
use Rattle.std.proofs.lemmas.Bool.{eqb-true, ltb-true}
use Rattle.fr_base.specs.declared.name.ObjNo.{ObjNo}
use Rattle.fr_base.specs.declared.name.MutexNo.{MutexNo}
use Rattle.fr_base.specs.Names.{same_object}
use Rattle.global_addr.specs.Words.{colour_of, server_of}
use Rattle.heap_partition.specs.declared.value.Cell.{Cell}
use Rattle.owner_box.specs.View.{PartitionState}
use Rattle.owner_box.specs.Partition.{LeadsTo, cell_of}
use Rattle.mutex_home.specs.Mutexes.{Mutexes, Mutex, mutex_in, asked_in, ask}
use Rattle.thread_state.specs.View.{ThreadState}
use Rattle.server_model.specs.Work.{Hand, Site, leads_here, look_object, then_some, thread_in, set_thread, with_thread, put_back, at_thread}
use Rattle.server_model.specs.Joining.{stand, arrive}

-- what is made of a value is there with it
pub made_of : {X Y : Type 0} (f : X → Y) (o : Option X) → IsSome (option_map f o) → IsSome o
made_of f None h = absurd (true≢false (sym h))
made_of f (Some x) h = refl

-- a mutex that can be asked for is there
pub asked_there : (ms : Mutexes) (m : MutexNo) (server thread : ℕ) → IsSome (ask ms m server thread) → IsSome (mutex_in ms.there m)
asked_there ms m server thread h = by (mutex_in ms.there m) h
  where
    by : (o : Option Mutex) → IsSome (asked_in ms server thread o) → IsSome o
    by None g = absurd (true≢false (sym g))
    by (Some x) g = refl

and_left : (a b : Bool) → (a && b) ≡ true → a ≡ true
and_left true b h = refl
and_left false b h = absurd (true≢false (sym h))

and_right : (a b : Bool) → (a && b) ≡ true → b ≡ true
and_right true b h = h
and_right false b h = absurd (true≢false (sym h))

found_here : (p : PartitionState) (w : ℕ) (o : ObjNo) → IsSome (look_object p w o) → leads_here p w ≡ true
found_here p w o h = by (leads_here p w) refl h
  where
    by : (b : Bool) → leads_here p w ≡ b → IsSome (then_some (if b then cell_of p w else None) (λ c. if same_object c.object o then Some c else None)) → leads_here p w ≡ true
    by true e g = e
    by false e g = absurd (true≢false (sym g))

-- the word of an object that is found leads to its cell
pub found_leads : (p : PartitionState) (w : ℕ) (o : ObjNo) → IsSome (look_object p w o) → LeadsTo p w
found_leads p w o h =
    let all = found_here p w o h in
    let front = and_left ((server_of w == p.server) && is_some (cell_of p w)) (nat_lt (colour_of w) p.limit) all in
    record {
      here = eqb-true (server_of w) p.server (and_left (server_of w == p.server) (is_some (cell_of p w)) front);
      live = and_right (server_of w == p.server) (is_some (cell_of p w)) front;
      colour = ltb-true (colour_of w) p.limit (and_right ((server_of w == p.server) && is_some (cell_of p w)) (nat_lt (colour_of w) p.limit) all);
    }

pub found_cell : (p : PartitionState) (w : ℕ) (o : ObjNo) (c : Cell) → IsSome (look_object p w o) → cell_of p w ≡ Some c → look_object p w o ≡ Some c
found_cell p w o c h is = start ∙ by (same_object c.object o) (subst IsSome start h)
  where
    start : look_object p w o ≡ (if same_object c.object o then Some c else None)
    start = ap (λ b. then_some (if b then cell_of p w else None) (λ d. if same_object d.object o then Some d else None)) (found_here p w o h) ∙ ap (λ x. then_some x (λ d. if same_object d.object o then Some d else None)) is

    by : (b : Bool) → IsSome (if b then Some c else None) → (if b then Some c else None) ≡ Some c
    by true g = refl
    by false g = absurd (true≢false (sym g))

-- what is done at a thread that is here
pub at_here : (t : ℕ) (f : Hand → Option Hand) (s : Site) → IsSome (at_thread t f s) → IsSome (thread_in s.threads t)
at_here t f s h = by (thread_in s.threads t) h
  where
    by : (o : Option ThreadState) → IsSome (then_some (option_map (λ x. record { work = s.work; thread = x }) o) (λ g. option_map (put_back s.threads) (f g))) → IsSome o
    by None g = absurd (true≢false (sym g))
    by (Some x) g = refl

pub at_can : (t : ℕ) (f : Hand → Option Hand) (s : Site) (x : ThreadState) → IsSome (at_thread t f s) → thread_in s.threads t ≡ Some x → IsSome (f (record { work = s.work; thread = x }))
at_can t f s x h is =
    made_of (put_back s.threads) (f (record { work = s.work; thread = x }))
    (subst (λ o. IsSome (then_some (option_map (λ y. record { work = s.work; thread = y }) o) (λ g. option_map (put_back s.threads) (f g)))) is h)

pub at_done : (t : ℕ) (f : Hand → Option Hand) (s : Site) (x : ThreadState) (h : Hand) (ts : List ThreadState) → thread_in s.threads t ≡ Some x → f (record { work = s.work; thread = x }) ≡ Some h → ts ≡ set_thread s.threads h.thread
    → at_thread t f s ≡ Some (record { work = h.work; threads = ts })
at_done t f s x h ts is done same =
    ap (λ o. then_some (option_map (λ y. record { work = s.work; thread = y }) o) (λ g. option_map (put_back s.threads) (f g))) is
    ∙ ap (option_map (put_back s.threads)) done
    ∙ ap (λ us. Some (record { work = h.work; threads = us })) (sym same)

-- a thread that arrives is a new one there
pub arrives_new : (t : ThreadState) (s : Site) → IsSome (arrive t s) → thread_in s.threads t.number ≡ None
arrives_new t s h = by (thread_in s.threads t.number) h
  where
    by : (o : Option ThreadState) → IsSome (stand o t s) → o ≡ None
    by None g = refl
    by (Some x) g = absurd (true≢false (sym g))

pub arrives : (t : ThreadState) (s : Site) → thread_in s.threads t.number ≡ None → arrive t s ≡ Some (record s { threads = with_thread s.threads t })
arrives t s h = ap (λ o. stand o t s) h
