-- Pieces whose threads get their places one after another.
use Rattle.std.proofs.Common.{◌≡◌, ℕ, zero, suc, ◌+◌, ◌<◌, ◌≤◌, Bool, true, false, List, [], ◌∷◌, ◌++◌, length, Option, Some, None, refl, sym, ap, ◌∙◌, subst, arith}
use Rattle.std.specs.Prelude.{slice_get}
use Rattle.fr_base.specs.declared.instruction.Instr.{Instr}
use Rattle.fr_base.specs.declared.instruction.Instr.TheVariants as instr
use Rattle.fr_base.specs.Code.{starting, starting_other, change, change_at}
use Rattle.fr_plain.specs.Run.{Run}
use Rattle.law_plain_table.specs.Bare.{bare_of, bare}
use Rattle.law_plain_table.specs.CodeOf.{Piece, does, starts, starts_two, threads_of, started_by, size, slots, placed}
use Rattle.law_plain_table.proofs.Generations.{begins, thread_long}
use Rattle.fr_compile.specs.Filling.{later_places, filled, Wait, waits, with_place}

pub filled_long : (ns : List ℕ) (ps : List Piece) → length (filled ns ps) ≡ length ps
filled_long ns [] = refl
filled_long ns (does i ∷ ps) = ap suc (filled_long ns ps)
filled_long ns (starts cs r ∷ ps) = ap suc (filled_long (later_places ns) ps)
filled_long ns (starts_two cs a ds b ∷ ps) = ap suc (filled_long (later_places (later_places ns)) ps)

-- more pieces, whose threads have no place yet
pub filled_join : (ns : List ℕ) (ps qs : List Piece) → length ns ≤ length (started_by ps) → filled ns (ps ++ qs) ≡ filled ns ps ++ filled [] qs
filled_join [] [] qs few = refl
filled_join (n ∷ ns) [] qs few = absurd (omega (arith, few))
filled_join ns (does i ∷ ps) qs few = ap (λ is. i ∷ is) (filled_join ns ps qs few)
filled_join [] (starts cs r ∷ ps) qs few = ap (λ is. instr.Spawn (slots cs) 0 ∷ is) (filled_join [] ps qs (omega arith))
filled_join (n ∷ ns) (starts cs r ∷ ps) qs few = ap (λ is. instr.Spawn (slots cs) n ∷ is) (filled_join ns ps qs (omega (arith, few)))
filled_join [] (starts_two cs a ds b ∷ ps) qs few = ap (λ is. instr.Par (slots cs) 0 (slots ds) 0 ∷ is) (filled_join [] ps qs (omega arith))
filled_join (n ∷ []) (starts_two cs a ds b ∷ ps) qs few = ap (λ is. instr.Par (slots cs) n (slots ds) 0 ∷ is) (filled_join [] ps qs (omega arith))
filled_join (n ∷ m ∷ ns) (starts_two cs a ds b ∷ ps) qs few = ap (λ is. instr.Par (slots cs) n (slots ds) m ∷ is) (filled_join ns ps qs (omega (arith, few)))

-- where the threads stand one behind another, all have their places
pub all_filled : (n : ℕ) (ps : List Piece) → filled (begins n (started_by ps)) ps ≡ placed n ps
all_filled n [] = refl
all_filled n (does i ∷ ps) = ap (λ is. i ∷ is) (all_filled n ps)
all_filled n (starts cs r ∷ ps) = ap (λ is. instr.Spawn (slots cs) n ∷ is) (all_filled (n + size r) ps)
all_filled n (starts_two cs a ds b ∷ ps) = ap (λ is. instr.Par (slots cs) n (slots ds) (n + size a) ∷ is) (all_filled (n + size a + size b) ps)

-- THREADS THAT WAIT

abbrev pub runs : List Wait → List Run
runs [] = []
runs (w ∷ ws) = w.run ∷ runs ws

pub runs_join : (ws vs : List Wait) → runs (ws ++ vs) ≡ runs ws ++ runs vs
runs_join [] vs = refl
runs_join (w ∷ ws) vs = ap (λ rs. w.run ∷ rs) (runs_join ws vs)

pub runs_long : (ws : List Wait) → length (runs ws) ≡ length ws
runs_long [] = refl
runs_long (w ∷ ws) = ap suc (runs_long ws)

pub run_at : (ws : List Wait) (k : ℕ) (w : Wait) → slice_get ws k ≡ Some w → slice_get (runs ws) k ≡ Some w.run
run_at [] k w h = absurd cc
run_at (v ∷ ws) zero w h = let e : v ≡ w = cc in ap (λ (u : Wait). Some u.run) e
run_at (v ∷ ws) (suc k) w h = run_at ws k w h

pub waits_runs : (p : ℕ) (ps : List Piece) → runs (waits p ps) ≡ started_by ps
waits_runs p [] = refl
waits_runs p (does i ∷ ps) = waits_runs (p + 1) ps
waits_runs p (starts cs r ∷ ps) = ap (λ rs. r ∷ rs) (waits_runs (p + 1) ps)
waits_runs p (starts_two cs a ds b ∷ ps) = ap (λ rs. a ∷ b ∷ rs) (waits_runs (p + 1) ps)

-- behind one more piece
waits_on : (p : ℕ) (ps qs : List Piece) → waits (p + 1) (ps ++ qs) ≡ waits (p + 1) ps ++ waits (p + 1 + length ps) qs → waits (p + 1) (ps ++ qs) ≡ waits (p + 1) ps ++ waits (p + suc (length ps)) qs
waits_on p ps qs h = let e : p + 1 + length ps ≡ p + suc (length ps) = omega arith in h ∙ ap (λ n. waits (p + 1) ps ++ waits n qs) e

pub waits_join : (p : ℕ) (ps qs : List Piece) → waits p (ps ++ qs) ≡ waits p ps ++ waits (p + length ps) qs
waits_join p [] qs = ap (λ n. waits n qs) (plus_none p)
  where
    plus_none : (n : ℕ) → n ≡ n + 0
    plus_none n = omega arith
waits_join p (does i ∷ ps) qs = waits_on p ps qs (waits_join (p + 1) ps qs)
waits_join p (starts cs r ∷ ps) qs = ap (λ (ws : List Wait). record { start = p; is_second = false; run = r } ∷ ws) (waits_on p ps qs (waits_join (p + 1) ps qs))
waits_join p (starts_two cs a ds b ∷ ps) qs = ap (λ (ws : List Wait). record { start = p; is_second = false; run = a } ∷ record { start = p; is_second = true; run = b } ∷ ws) (waits_on p ps qs (waits_join (p + 1) ps qs))

-- A PLACE MORE

change_next : (f : Instr → Instr) (i : Instr) (is : List Instr) (at : ℕ) → change_at f (i ∷ is) (suc at) ≡ i ∷ change_at f is at
change_next f i is at = by (slice_get is at)
  where
    by : (o : Option Instr) → change f (i ∷ is) (suc at) o ≡ i ∷ change f is at o
    by None = refl
    by (Some j) = refl

place_next : (second : Bool) (i : Instr) (is : List Instr) (at to : ℕ) → with_place second (i ∷ is) (suc at) to ≡ i ∷ with_place second is at to
place_next false i is at to = change_next (starting to) i is at
place_next true i is at to = change_next (starting_other to) i is at

-- the next thread without a place gets one, at the instruction that starts it
pub record Placed (p m : ℕ) (ns : List ℕ) (ps : List Piece) (w : Wait) : Type 0 where
  pub at : ℕ
  pub here : w.start ≡ p + at
  pub inside : at < length ps
  pub is : with_place w.is_second (filled ns ps) at m ≡ filled (ns ++ m ∷ []) ps

-- behind one more instruction
placed_on : (p m : ℕ) (ns ls : List ℕ) (ps : List Piece) (x : Piece) (i : Instr) (w : Wait) → Placed (p + 1) m ls ps w → filled ns (x ∷ ps) ≡ i ∷ filled ls ps → filled (ns ++ m ∷ []) (x ∷ ps) ≡ i ∷ filled (ls ++ m ∷ []) ps → Placed p m ns (x ∷ ps) w
placed_on p m ns ls ps x i w g e f = record {
  at = suc g.at;
  here = (let h = g.here in omega (arith, h));
  inside = (let h = g.inside in omega (arith, h));
  is = ap (λ is. with_place w.is_second is (suc g.at) m) e ∙ place_next w.is_second i (filled ls ps) g.at m ∙ ap (λ is. i ∷ is) g.is ∙ sym f;
}

-- at the first of these instructions
placed_here : (p m : ℕ) (ns : List ℕ) (ps : List Piece) (x : Piece) (v w : Wait) → Some v ≡ Some w → v.start ≡ p → with_place v.is_second (filled ns (x ∷ ps)) 0 m ≡ filled (ns ++ m ∷ []) (x ∷ ps) → Placed p m ns (x ∷ ps) w
placed_here p m ns ps x v w h s e =
    let same : v ≡ w = cc in
    subst (Placed p m ns (x ∷ ps)) same (record { at = 0; here = omega (arith, s); inside = omega arith; is = e })

pub place_more : (p m : ℕ) (ns : List ℕ) (ps : List Piece) (w : Wait) → slice_get (waits p ps) (length ns) ≡ Some w → Placed p m ns ps w
place_more p m ns [] w h = absurd cc
place_more p m ns (does i ∷ ps) w h = placed_on p m ns ns ps (does i) i w (place_more (p + 1) m ns ps w h) refl refl
place_more p m [] (starts cs r ∷ ps) w h = placed_here p m [] ps (starts cs r) (record { start = p; is_second = false; run = r }) w h refl refl
place_more p m (n ∷ ns) (starts cs r ∷ ps) w h = placed_on p m (n ∷ ns) ns ps (starts cs r) (instr.Spawn (slots cs) n) w (place_more (p + 1) m ns ps w h) refl refl
place_more p m [] (starts_two cs a ds b ∷ ps) w h = placed_here p m [] ps (starts_two cs a ds b) (record { start = p; is_second = false; run = a }) w h refl refl
place_more p m (n ∷ []) (starts_two cs a ds b ∷ ps) w h = placed_here p m (n ∷ []) ps (starts_two cs a ds b) (record { start = p; is_second = true; run = b }) w h refl refl
place_more p m (n ∷ l ∷ ns) (starts_two cs a ds b ∷ ps) w h =
    placed_on p m (n ∷ l ∷ ns) ns ps (starts_two cs a ds b) (instr.Par (slots cs) n (slots ds) l) w (place_more (p + 1) m ns ps w h) refl refl

-- THE PLACE IN A CODE WITH ROOM

first_bare : (to : ℕ) (i : Instr) → bare_of (starting to i) ≡ starting to (bare_of i)
first_bare to (instr.Let o) = refl
first_bare to (instr.Assign w o) = refl
first_bare to (instr.Read w take) = refl
first_bare to (instr.Borrow w) = refl
first_bare to (instr.BorrowMut w) = refl
first_bare to (instr.Box o) = refl
first_bare to (instr.Arith f a b) = refl
first_bare to (instr.Print o) = refl
first_bare to instr.Discard = refl
first_bare to instr.DropSlot = refl
first_bare to (instr.Spawn xs m) = refl
first_bare to (instr.Join o) = refl
first_bare to (instr.Mutex o) = refl
first_bare to (instr.Dup w) = refl
first_bare to (instr.Lock w) = refl
first_bare to instr.Unlock = refl
first_bare to (instr.Par xs m ys n) = refl
first_bare to instr.ParEnd = refl
first_bare to (instr.End o) = refl

second_bare : (to : ℕ) (i : Instr) → bare_of (starting_other to i) ≡ starting_other to (bare_of i)
second_bare to (instr.Let o) = refl
second_bare to (instr.Assign w o) = refl
second_bare to (instr.Read w take) = refl
second_bare to (instr.Borrow w) = refl
second_bare to (instr.BorrowMut w) = refl
second_bare to (instr.Box o) = refl
second_bare to (instr.Arith f a b) = refl
second_bare to (instr.Print o) = refl
second_bare to instr.Discard = refl
second_bare to instr.DropSlot = refl
second_bare to (instr.Spawn xs m) = refl
second_bare to (instr.Join o) = refl
second_bare to (instr.Mutex o) = refl
second_bare to (instr.Dup w) = refl
second_bare to (instr.Lock w) = refl
second_bare to instr.Unlock = refl
second_bare to (instr.Par xs m ys n) = refl
second_bare to instr.ParEnd = refl
second_bare to (instr.End o) = refl

module _ (f : Instr → Instr) (both : (i : Instr) → bare_of (f i) ≡ f (bare_of i)) where
  change_bare : (is : List Instr) (at : ℕ) → bare (change_at f is at) ≡ change_at f (bare is) at
  change_bare [] at = refl
  change_bare (i ∷ is) zero = ap (λ j. j ∷ bare is) (both i)
  change_bare (i ∷ is) (suc at) = ap bare (change_next f i is at) ∙ ap (λ js. bare_of i ∷ js) (change_bare is at) ∙ sym (change_next f (bare_of i) (bare is) at)

pub place_bare : (second : Bool) (is : List Instr) (at to : ℕ) → bare (with_place second is at to) ≡ with_place second (bare is) at to
place_bare false is at to = change_bare (starting to) (first_bare to) is at
place_bare true is at to = change_bare (starting_other to) (second_bare to) is at

change_long : (f : Instr → Instr) (is : List Instr) (at : ℕ) → length (change_at f is at) ≡ length is
change_long f [] at = refl
change_long f (i ∷ is) zero = refl
change_long f (i ∷ is) (suc at) = ap length (change_next f i is at) ∙ ap suc (change_long f is at)

pub place_long : (second : Bool) (is : List Instr) (at to : ℕ) → length (with_place second is at to) ≡ length is
place_long false is at to = change_long (starting to) is at
place_long true is at to = change_long (starting_other to) is at

-- WHERE THREADS BEGIN

pub begins_long : (n : ℕ) (rs : List Run) → length (begins n rs) ≡ length rs
begins_long n [] = refl
begins_long n (r ∷ rs) = ap suc (begins_long (n + size r) rs)

-- one more begins behind all
pub begins_more : (n : ℕ) (rs : List Run) (x : Run) → begins n (rs ++ x ∷ []) ≡ begins n rs ++ (n + length (threads_of rs)) ∷ []
begins_more n [] x = ap (λ m. m ∷ []) (plus_none n)
  where
    plus_none : (n : ℕ) → n ≡ n + 0
    plus_none n = omega arith
begins_more n (r ∷ rs) x =
    let l = thread_long r rs in
    let e : n + size r + length (threads_of rs) ≡ n + length (threads_of (r ∷ rs)) = omega (arith, l) in
    ap (λ ms. n ∷ ms) (begins_more (n + size r) rs x ∙ ap (λ m. begins (n + size r) rs ++ m ∷ []) e)
