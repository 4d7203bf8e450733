-- What stands in a code where something stands in it without the room of its lists.
use Rattle.std.proofs.Common.{◌≡◌, ℕ, zero, suc, Bool, List, [], ◌∷◌, ◌++◌, length, Some, refl, ap, ap₂, ◌∙◌}
use Rattle.std.specs.Prelude.{slice_get}
use Rattle.fr_base.specs.declared.instruction.Instr.{Instr}
use Rattle.fr_base.specs.declared.instruction.Instr.TheVariants as instr
use Rattle.fr_base.specs.Rooms.{WithRoom}
use Rattle.law_plain_table.specs.Bare.{full, bare_of, bare}
use Rattle.law_plain_table.specs.Layout.{bodies_of, bodies}

pub bare_long : (code : List Instr) → length (bare code) ≡ length code
bare_long [] = refl
bare_long (i ∷ code) = ap suc (bare_long code)

pub bare_join : (is js : List Instr) → bare (is ++ js) ≡ bare is ++ bare js
bare_join [] js = refl
bare_join (i ∷ is) js = ap (λ ks. bare_of i ∷ ks) (bare_join is js)

-- the same threads start at the same places
bodies_of_bare : (i : Instr) → bodies_of (bare_of i) ≡ bodies_of i
bodies_of_bare (instr.Let o) = refl
bodies_of_bare (instr.Assign w o) = refl
bodies_of_bare (instr.Read w take) = refl
bodies_of_bare (instr.Borrow w) = refl
bodies_of_bare (instr.BorrowMut w) = refl
bodies_of_bare (instr.Box o) = refl
bodies_of_bare (instr.Arith f m n) = refl
bodies_of_bare (instr.Print o) = refl
bodies_of_bare instr.Discard = refl
bodies_of_bare instr.DropSlot = refl
bodies_of_bare (instr.Spawn xs m) = refl
bodies_of_bare (instr.Join o) = refl
bodies_of_bare (instr.Mutex o) = refl
bodies_of_bare (instr.Dup w) = refl
bodies_of_bare (instr.Lock w) = refl
bodies_of_bare instr.Unlock = refl
bodies_of_bare (instr.Par xs m ys n) = refl
bodies_of_bare instr.ParEnd = refl
bodies_of_bare (instr.End o) = refl

pub bodies_bare : (code : List Instr) → bodies (bare code) ≡ bodies code
bodies_bare [] = refl
bodies_bare (i ∷ code) = ap₂ (λ (ms ns : List ℕ). ms ++ ns) (bodies_of_bare i) (bodies_bare code)

-- an instruction that starts no thread has no such list
pub none_bare : (i : Instr) → bodies_of i ≡ [] → bare_of i ≡ i
none_bare (instr.Let o) h = refl
none_bare (instr.Assign w o) h = refl
none_bare (instr.Read w take) h = refl
none_bare (instr.Borrow w) h = refl
none_bare (instr.BorrowMut w) h = refl
none_bare (instr.Box o) h = refl
none_bare (instr.Arith f m n) h = refl
none_bare (instr.Print o) h = refl
none_bare instr.Discard h = refl
none_bare instr.DropSlot h = refl
none_bare (instr.Spawn xs m) h = absurd cc
none_bare (instr.Join o) h = refl
none_bare (instr.Mutex o) h = refl
none_bare (instr.Dup w) h = refl
none_bare (instr.Lock w) h = refl
none_bare instr.Unlock h = refl
none_bare (instr.Par xs m ys n) h = absurd cc
none_bare instr.ParEnd h = refl
none_bare (instr.End o) h = refl

plain_is : (j i : Instr) → bare_of j ≡ i → bodies_of i ≡ [] → j ≡ i
plain_is (instr.Let o) i h b = h
plain_is (instr.Assign w o) i h b = h
plain_is (instr.Read w take) i h b = h
plain_is (instr.Borrow w) i h b = h
plain_is (instr.BorrowMut w) i h b = h
plain_is (instr.Box o) i h b = h
plain_is (instr.Arith f m n) i h b = h
plain_is (instr.Print o) i h b = h
plain_is instr.Discard i h b = h
plain_is instr.DropSlot i h b = h
plain_is (instr.Spawn xs m) i h b = let f : m ∷ [] ≡ [] = ap bodies_of h ∙ b in absurd cc
plain_is (instr.Join o) i h b = h
plain_is (instr.Mutex o) i h b = h
plain_is (instr.Dup w) i h b = h
plain_is (instr.Lock w) i h b = h
plain_is instr.Unlock i h b = h
plain_is (instr.Par xs m ys n) i h b = let f : m ∷ n ∷ [] ≡ [] = ap bodies_of h ∙ b in absurd cc
plain_is instr.ParEnd i h b = h
plain_is (instr.End o) i h b = h

-- a start of a thread, whatever room its list has
pub record Spawns (i : Instr) (us : WithRoom (ℕ × Bool)) (to : ℕ) : Type 0 where
  pub slots : WithRoom (ℕ × Bool)
  pub is : i ≡ instr.Spawn slots to
  pub items : slots.items ≡ us.items

spawns : (j : Instr) (us : WithRoom (ℕ × Bool)) (to : ℕ) → bare_of j ≡ instr.Spawn us to → Spawns j us to
spawns (instr.Let o) us to h = absurd cc
spawns (instr.Assign w o) us to h = absurd cc
spawns (instr.Read w take) us to h = absurd cc
spawns (instr.Borrow w) us to h = absurd cc
spawns (instr.BorrowMut w) us to h = absurd cc
spawns (instr.Box o) us to h = absurd cc
spawns (instr.Arith f m n) us to h = absurd cc
spawns (instr.Print o) us to h = absurd cc
spawns instr.Discard us to h = absurd cc
spawns instr.DropSlot us to h = absurd cc
spawns (instr.Spawn xs m) us to h = let f : full xs ≡ us = cc in let g : m ≡ to = cc in record { slots = xs; is = ap (instr.Spawn xs) g; items = ap (λ (r : WithRoom (ℕ × Bool)). r.items) f }
spawns (instr.Join o) us to h = absurd cc
spawns (instr.Mutex o) us to h = absurd cc
spawns (instr.Dup w) us to h = absurd cc
spawns (instr.Lock w) us to h = absurd cc
spawns instr.Unlock us to h = absurd cc
spawns (instr.Par xs m ys n) us to h = absurd cc
spawns instr.ParEnd us to h = absurd cc
spawns (instr.End o) us to h = absurd cc

-- and one of two
pub record Pairs (i : Instr) (us : WithRoom (ℕ × Bool)) (to : ℕ) (vs : WithRoom (ℕ × Bool)) (other : ℕ) : Type 0 where
  pub ours : WithRoom (ℕ × Bool)
  pub theirs : WithRoom (ℕ × Bool)
  pub is : i ≡ instr.Par ours to theirs other
  pub items : ours.items ≡ us.items
  pub others : theirs.items ≡ vs.items

pairs : (j : Instr) (us : WithRoom (ℕ × Bool)) (to : ℕ) (vs : WithRoom (ℕ × Bool)) (other : ℕ) → bare_of j ≡ instr.Par us to vs other → Pairs j us to vs other
pairs (instr.Let o) us to vs other h = absurd cc
pairs (instr.Assign w o) us to vs other h = absurd cc
pairs (instr.Read w take) us to vs other h = absurd cc
pairs (instr.Borrow w) us to vs other h = absurd cc
pairs (instr.BorrowMut w) us to vs other h = absurd cc
pairs (instr.Box o) us to vs other h = absurd cc
pairs (instr.Arith f m n) us to vs other h = absurd cc
pairs (instr.Print o) us to vs other h = absurd cc
pairs instr.Discard us to vs other h = absurd cc
pairs instr.DropSlot us to vs other h = absurd cc
pairs (instr.Spawn xs m) us to vs other h = absurd cc
pairs (instr.Join o) us to vs other h = absurd cc
pairs (instr.Mutex o) us to vs other h = absurd cc
pairs (instr.Dup w) us to vs other h = absurd cc
pairs (instr.Lock w) us to vs other h = absurd cc
pairs instr.Unlock us to vs other h = absurd cc
pairs (instr.Par xs m ys n) us to vs other h =
    let f : full xs ≡ us = cc in
    let g : full ys ≡ vs = cc in
    let a : m ≡ to = cc in
    let b : n ≡ other = cc in
    record { ours = xs; theirs = ys; is = ap₂ (λ (k l : ℕ). instr.Par xs k ys l) a b; items = ap (λ (r : WithRoom (ℕ × Bool)). r.items) f; others = ap (λ (r : WithRoom (ℕ × Bool)). r.items) g }
pairs instr.ParEnd us to vs other h = absurd cc
pairs (instr.End o) us to vs other h = absurd cc

-- an instruction of the code, from what stands there without room
there : (code : List Instr) (p : ℕ) (i : Instr) → slice_get (bare code) p ≡ Some i → (j : Instr) × (slice_get code p ≡ Some j) × (bare_of j ≡ i)
there [] p i h = absurd cc
there (j ∷ code) zero i h = let f : bare_of j ≡ i = cc in (j, refl, f)
there (j ∷ code) (suc p) i h = there code p i h

pub plain_there : (code : List Instr) (p : ℕ) (i : Instr) → bodies_of i ≡ [] → slice_get (bare code) p ≡ Some i → slice_get code p ≡ Some i
plain_there code p i b h = let f = there code p i h in f.1 ∙ ap Some (plain_is f.0 i f.2 b)

pub record SpawnsAt (code : List Instr) (p : ℕ) (us : WithRoom (ℕ × Bool)) (to : ℕ) : Type 0 where
  pub slots : WithRoom (ℕ × Bool)
  pub at : slice_get code p ≡ Some (instr.Spawn slots to)
  pub items : slots.items ≡ us.items

pub spawn_there : (code : List Instr) (p : ℕ) (us : WithRoom (ℕ × Bool)) (to : ℕ) → slice_get (bare code) p ≡ Some (instr.Spawn us to) → SpawnsAt code p us to
spawn_there code p us to h =
    let f = there code p (instr.Spawn us to) h in
    let s = spawns f.0 us to f.2 in
    record { slots = s.slots; at = f.1 ∙ ap Some s.is; items = s.items }

pub record PairsAt (code : List Instr) (p : ℕ) (us : WithRoom (ℕ × Bool)) (to : ℕ) (vs : WithRoom (ℕ × Bool)) (other : ℕ) : Type 0 where
  pub ours : WithRoom (ℕ × Bool)
  pub theirs : WithRoom (ℕ × Bool)
  pub at : slice_get code p ≡ Some (instr.Par ours to theirs other)
  pub items : ours.items ≡ us.items
  pub others : theirs.items ≡ vs.items

pub pair_there : (code : List Instr) (p : ℕ) (us : WithRoom (ℕ × Bool)) (to : ℕ) (vs : WithRoom (ℕ × Bool)) (other : ℕ) → slice_get (bare code) p ≡ Some (instr.Par us to vs other) → PairsAt code p us to vs other
pair_there code p us to vs other h =
    let f = there code p (instr.Par us to vs other) h in
    let s = pairs f.0 us to vs other f.2 in
    record { ours = s.ours; theirs = s.theirs; at = f.1 ∙ ap Some s.is; items = s.items; others = s.others }
