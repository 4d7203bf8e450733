-- Stale pointers (this project's rule): a pointer is stale while its object is written or gets another word through a mutable
-- reference that was made from it. Which pointer a reference was made from is a location, however the place was written.
use Rattle.std.specs.Prelude.{◌≡◌, ℕ, zero, suc, ◌==◌, Bool, true, false, ◌&&◌, ◌||◌, List, [], ◌∷◌, ◌++◌, length, Option, Some, None, slice_get}
use Rattle.server_model.specs.Below.fr_base.declared.place.Lval.{Lval}
use Rattle.server_model.specs.Below.fr_base.declared.instruction.Instr.{Instr}
use Rattle.server_model.specs.Below.fr_base.declared.instruction.Instr.TheVariants as instr
use Rattle.server_model.specs.Below.mut_borrow.declared.mutable.MutRef.{MutRef}
use Rattle.server_model.specs.Below.mut_borrow.Refs.{changed}
use Rattle.server_model.specs.Below.thread_state.declared.phase.Phase.{Phase}
use Rattle.server_model.specs.Below.thread_state.declared.phase.Phase.TheVariants as phase
use Rattle.coherent_memory.specs.Names.{same_object, Among}
use Rattle.coherent_memory.specs.Things.{Location, at_slot, at_temp, in_cell, Thing, borrows}
use Rattle.coherent_memory.specs.Follow.{Standing, Ground, locate, place_at}

abbrev pub same_location : Location → Location → Bool
same_location (at_slot t i) (at_slot u j) = t == u && i == j
same_location (at_temp t i) (at_temp u j) = t == u && i == j
same_location (in_cell o) (in_cell p) = same_object o p
same_location _ _ = false

abbrev pub is_among : Location → List Location → Bool
is_among l [] = false
is_among l (x ∷ xs) = same_location x l || is_among l xs

-- a mutable reference: where it stands, and where the pointer stands that it was made from
pub record Reference : Type 0 where
  pub at : Location
  pub holder : Option Location
  pub reference : MutRef

abbrev pub holder_of : Ground → Location → Lval → Option Location
holder_of g (at_slot t i) w = place_at g t w
holder_of g (at_temp t i) w = place_at g t w
holder_of g (in_cell o) w = None

-- the mutable references that are alive
abbrev pub references : Ground → List Thing → List Reference
references g [] = []
references g (borrows l r ∷ b) = record { at = l; holder = holder_of g l r.holder; reference = r } ∷ references g b
references g (x ∷ b) = references g b

-- the pointer from which a thread has taken the object for its mutable borrow: that of the borrow's place with one star less
abbrev pub one_star_less : Ground → ℕ → ℕ → ℕ → Option Location
one_star_less g t slot zero = None
one_star_less g t slot (suc n) = locate g t slot n

abbrev pub lent_place : Ground → ℕ → Phase → Option Instr → Option Location
lent_place g t (phase.Taken w) (Some (instr.BorrowMut p)) = one_star_less g t p.slot p.depth
lent_place g t _ _ = None

abbrev pub with_place : Option Location → List Location → List Location
with_place None ls = ls
with_place (Some l) ls = l ∷ ls

abbrev pub lent_places : List Instr → Ground → List Standing → List Location
lent_places code g [] = []
lent_places code g (x ∷ xs) = with_place (lent_place g x.thread.number x.thread.phase (slice_get code x.thread.pc)) (lent_places code g xs)

-- THE RULE

-- a reference was made from the pointer at that location
abbrev pub is_held_at : Location → Option Location → Bool
is_held_at l None = false
is_held_at l (Some h) = same_location h l

-- a pointer at a location is stale exactly where a mutable reference made from it is alive whose word isn't its first or which
-- is dirty, or which is itself stale; or where a thread has taken the object for a mutable borrow from it
pub data Stale (lent : List Location) (rs : List Reference) : Location → Type 0 where
  changed_above : {l : Location} (r : Reference) → Among r rs → is_held_at l r.holder ≡ true → changed r.reference ≡ true → Stale lent rs l
  stale_above : {l : Location} (r : Reference) → Among r rs → is_held_at l r.holder ≡ true → Stale lent rs r.at → Stale lent rs l
  taken_above : {l : Location} → is_among l lent ≡ true → Stale lent rs l

-- THE SAME BY ROUNDS

abbrev pub if_holder : Bool → Option Location → List Location → List Location
if_holder true (Some l) ls = l ∷ ls
if_holder _ _ ls = ls

-- the holders of changed references, and of those that stand at these places
abbrev pub holders : List Location → List Reference → List Location
holders ls [] = []
holders ls (r ∷ rs) = if_holder (changed r.reference || is_among r.at ls) r.holder (holders ls rs)

-- a chain of references isn't longer than there are references
abbrev pub stale_rounds : ℕ → List Location → List Reference → List Location
stale_rounds zero lent rs = lent
stale_rounds (suc n) lent rs = lent ++ holders (stale_rounds n lent rs) rs

-- where stale pointers stand
abbrev pub stale_places : List Instr → Ground → List Thing → List Location
stale_places code g b = let rs = references g b in stale_rounds (length rs) (lent_places code g g.threads) rs

-- the rounds find what the rule says: what some number of rounds finds is stale, and what is stale is found after some number of rounds; as many rounds as
-- there are references are enough
pub record RoundsLaw : Type 0 where
  pub sound : (lent : List Location) (rs : List Reference) (n : ℕ) (l : Location) → is_among l (stale_rounds n lent rs) ≡ true → Stale lent rs l
  pub complete : (lent : List Location) (rs : List Reference) (l : Location) → Stale lent rs l → (n : ℕ) × (is_among l (stale_rounds n lent rs) ≡ true)
  pub enough : (lent : List Location) (rs : List Reference) (l : Location) → Stale lent rs l → is_among l (stale_rounds (length rs) lent rs) ≡ true
