-- Events one after another at a server.
use Rattle.std.proofs.Common.{◌≡◌, ℕ, zero, suc, ◌+◌, ◌-◌, ◌<◌, ◌^◌, ◌==◌, ◌&&◌, nat_lt, Bool, true, false, if◌then◌else◌, List, [], ◌∷◌, length, Option, Some, None, Result, Ok, Err, IsSome, IfSome, IfOk, refl, sym, ap, subst, ◌∙◌, arith}
use Rattle.std.proofs.lemmas.Bool.Decides.{nat_tests}
use Rattle.fr_base.specs.declared.instruction.Instr.{Instr}
use Rattle.fr_base.specs.declared.settings.Options.{Options}
use Rattle.journal.specs.View.{EntryView}
use Rattle.thread_state.specs.View.{ThreadState}
use Rattle.server_model.specs.declared.event.What.{What}
use Rattle.server_model.specs.Servers.{Server, server_at, start_of}
use Rattle.server_model.specs.Work.{thread_in, then_some}
use Rattle.server_model.specs.Events.{does, enabled}
use Rattle.server_core.specs.Steps.{CountsLeft, ThreadLeft}
use Rattle.server_tests.specs.Driving.{again, counts_left, done, run_whole, steps_and_deliveries, thread_left, threads_left}

both : (a b : Bool) → (a && b) ≡ true → (a ≡ true) × (b ≡ true)
both true b h = (refl, h)
both false b h = absurd cc

-- COUNTS

thread_ok : (t : ThreadState) → thread_left t ≡ true → ThreadLeft t
thread_ok t h =
    let a = both (nat_lt (t.pc + 16) (2 ^ 32)) (nat_lt (t.made + 16) (2 ^ 64) && (nat_lt (t.passed + 16) (2 ^ 8) && nat_lt (length t.slots + 16) (2 ^ 32))) h in
    let b = both (nat_lt (t.made + 16) (2 ^ 64)) (nat_lt (t.passed + 16) (2 ^ 8) && nat_lt (length t.slots + 16) (2 ^ 32)) a.1 in
    let c = both (nat_lt (t.passed + 16) (2 ^ 8)) (nat_lt (length t.slots + 16) (2 ^ 32)) b.1 in
    record { pc = below (t.pc + 16) (2 ^ 32) a.0; made = below (t.made + 16) (2 ^ 64) b.0; passed = below (t.passed + 16) (2 ^ 8) c.0; slots = below (length t.slots + 16) (2 ^ 32) c.1 }
  where
    below : (x y : ℕ) → nat_lt x y ≡ true → x < y
    below x y e = grind (arith, nat_tests, e)

found_ok : (b : Bool) (x : ThreadState) (o : Option ThreadState) → ThreadLeft x → IfSome o ThreadLeft → IfSome (if b then Some x else o) ThreadLeft
found_ok true x o h k = h
found_ok false x o h k = k

threads_ok : (ts : List ThreadState) (t : ℕ) → threads_left ts ≡ true → IfSome (thread_in ts t) ThreadLeft
threads_ok [] t h = tt
threads_ok (x ∷ xs) t h =
    let p = both (thread_left x) (threads_left xs) h in
    found_ok (x.number == t) x (thread_in xs t) (thread_ok x p.0) (threads_ok xs t p.1)

pub counts_ok : (s : Server) → counts_left s ≡ true → CountsLeft s
counts_ok s h =
    let a = both (nat_lt (s.rest.started + 16) (2 ^ 32)) (nat_lt (s.events + 16) (2 ^ 64) && threads_left s.threads) h in
    let b = both (nat_lt (s.events + 16) (2 ^ 64)) (threads_left s.threads) a.1 in
    record { started = below (s.rest.started + 16) (2 ^ 32) a.0; events = below (s.events + 16) (2 ^ 64) b.0; threads = λ t. threads_ok s.threads t b.1 }
  where
    below : (x y : ℕ) → nat_lt x y ≡ true → x < y
    below x y e = grind (arith, nat_tests, e)

-- EVENTS

where_so : {X : Type 0} (b : Bool) (o : Option X) → IsSome (if b then o else None) → (b ≡ true) × IsSome o
where_so true o h = (refl, h)
where_so false o h = absurd cc

so_where : {X : Type 0} (b : Bool) (o r : Option X) → b ≡ true → o ≡ r → (if b then o else None) ≡ r
so_where true o r h e = e
so_where false o r h e = absurd cc

-- what an event that is done finds
pub record Finds (code : List Instr) (o : Options) (w : What) (s : Server) : Type 0 where
  pub enabled_there : enabled o s w ≡ true
  pub result : IsSome (does code o s w)
  pub counts : CountsLeft s
  pub test : (counts_left s && enabled o s w) ≡ true

pub finds : (code : List Instr) (o : Options) (w : What) (s : Server) → IsSome (done code o w s) → Finds code o w s
finds code o w s h =
    let t = where_so (counts_left s && enabled o s w) (does code o s w) h in
    let p = both (counts_left s) (enabled o s w) t.0 in
    record { enabled_there = p.1; result = t.1; counts = counts_ok s p.0; test = t.0 }

-- what is done there
pub does_it : (code : List Instr) (o : Options) (w : What) (s : Server) (d : Server × EntryView) → IsSome (done code o w s) → does code o s w ≡ Some d → done code o w s ≡ Some d
does_it code o w s d h e = so_where (counts_left s && enabled o s w) (does code o s w) (Some d) (finds code o w s h).test e

-- MANY EVENTS

first_some : {X Y : Type 0} (o : Option X) (go : X → Option Y) → IsSome (then_some o go) → IsSome o
first_some None go h = absurd cc
first_some (Some x) go h = refl

-- the first of them
pub first_done : (code : List Instr) (o : Options) (w : What) (n : ℕ) (s : Server) → 0 < n → IsSome (again code o w n s) → IsSome (done code o w s)
first_done code o w zero s lt h = absurd (omega (arith, lt))
first_done code o w (suc n) s lt h = first_some (done code o w s) (λ d. again code o w n d.0) h

-- and the others
pub others_done : (code : List Instr) (o : Options) (w : What) (n : ℕ) (s : Server) (d : Server × EntryView) → 0 < n → done code o w s ≡ Some d → again code o w n s ≡ again code o w (n - 1) d.0
others_done code o w zero s d lt e = absurd (omega (arith, lt))
others_done code o w (suc n) s d lt e = ap (λ (x : Option (Server × EntryView)). then_some x (λ y. again code o w n y.0)) e ∙ (let less : suc n - 1 ≡ n = omega arith in ap (λ m. again code o w m d.0) (sym less))

pub none_left : (code : List Instr) (o : Options) (w : What) (n : ℕ) (s : Server) → n ≡ 0 → again code o w n s ≡ Some s
none_left code o w n s e = ap (λ m. again code o w m s) e

-- what is left after them
pub then_left : (o : Option Server) (s : Server) (go : Server → Option Server) → o ≡ Some s → IsSome (then_some o go) → IsSome (go s)
then_left o s go e h = subst (λ (x : Option Server). IsSome (then_some x go)) e h

pub first_whole : (o : Option Server) (go : Server → Option Server) → IsSome (then_some o go) → IsSome o
first_whole None go h = absurd cc
first_whole (Some s) go h = refl

-- a run from the start is one from the server that is made
pub starts : (code : List Instr) (o : Options) (n m : ℕ) (s : Server) (code2 : List Instr) (o2 : Options) → server_at (start_of code o).servers 0 ≡ Some s → code2 ≡ code → o2 ≡ o → IsSome (run_whole code o n m) → IsSome (steps_and_deliveries code2 o2 n m s)
starts code o n m s code2 o2 e c p h =
    let g = then_left (server_at (start_of code o).servers 0) s (steps_and_deliveries code o n m) e h in
    subst (λ (x : List Instr). IsSome (steps_and_deliveries x o2 n m s)) (sym c) (subst (λ (x : Options). IsSome (steps_and_deliveries code x n m s)) (sym p) g)
