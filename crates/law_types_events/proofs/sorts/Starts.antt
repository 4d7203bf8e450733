-- A thread that starts has slots that suit its first entry: owned values, and views of what is shared.
use Rattle.std.proofs.Common.{◌≡◌, inl, inr, ℕ, ◌+◌, Bool, true, false, if◌then◌else◌, List, [], ◌∷◌, ◌++◌, length, Option, Some, None, refl, ap, subst, ◌∙◌}
use Rattle.std.specs.Prelude.{slice_get}
use Rattle.std.specs.List.{AllByRecursion}
use Rattle.law_types_still.specs.Below.fr_base.declared.instruction.Instr.{Instr}
use Rattle.law_types_still.specs.Below.fr_typing.Kinds.{unit, Owned as OwnedType, Kind, own, shared, mutable, view, whole, map_some}
use Rattle.law_types_still.specs.Below.fr_typing.Places.{Env, heap_type}
use Rattle.law_types_still.specs.Below.fr_typing.Captures.{Capturer, by_spawn, by_par, captured_kind, captured_slot, Captures, captures_copy, captures_move}
use Rattle.law_types_still.proofs.Below.fr_typing.PlaceLemmas.{eq_cases}
use Rattle.law_types_still.specs.Below.fr_sound.States.{env_at}
use Rattle.law_types_still.specs.Below.fr_code.CodeTypes.{Entry, Table, going, SlotPasses, passes, SlotsPass, pass_none, pass_next, InstrTypes, i_spawn, i_par}
use Rattle.law_types_still.specs.Below.heap_partition.declared.value.Owned.{Owned}
use Rattle.law_types_still.specs.Below.heap_partition.declared.value.Owned.TheVariants as owned
use Rattle.law_types_still.specs.Below.thread_state.declared.value.Value.{Value}
use Rattle.law_types_still.specs.Below.thread_state.declared.value.Value.TheVariants as value
use Rattle.law_types_still.specs.Below.server_model.Places.{owns_nothing, second_of}
use Rattle.law_types_still.specs.Below.server_model.Start.{captured, left_after, capture_from, capture}
use Rattle.law_types_still.specs.Below.law_counts_sums.Laws.{Gives}
use Rattle.law_types_still.proofs.Below.law_counts_sums.Results.{then_gives, given_by}
use Rattle.law_types_still.proofs.Below.law_counts_sums.Known.{all_at, all_append}
use Rattle.law_types_still.specs.Below.fr_base.declared.name.ObjNo.{ObjNo}
use Rattle.law_types_still.specs.Below.fr_base.Rooms.{WithRoom}
use Rattle.law_types_still.specs.Below.fr_base.declared.instruction.Instr.TheVariants as instr
use Rattle.law_types_still.specs.Below.fr_code.CodeTable.{Leads, to_next, ends, Successors}
use Rattle.law_types_still.proofs.Below.law_counts_things.things.Mail.{StartsAt, AreCaptured}
use Rattle.law_types_events.proofs.sorts.Parts.{anyone, a_hidden, Look, a_nothing, a_shared, a_slot, a_mutable, another, look_of, suits, suits_slot, suits_at}
use Rattle.law_types_events.proofs.sorts.Suited.{unsuited_from, from_none}

-- an owned value, or a shared reference to an object
abbrev pub is_light : Look → Bool
is_light a_hidden = false
is_light a_slot = false
is_light a_mutable = false
is_light l = true

abbrev pub Light : Value → Type 0
Light v = is_light (look_of anyone v) ≡ true

pub own_light : (w : Owned) → Light (value.Own w)
own_light owned.Nothing = refl
own_light owned.Unit = refl
own_light (owned.Int i) = refl
own_light (owned.Box b) = refl
own_light (owned.Mutex m) = refl
own_light (owned.Task t) = refl

pub some_value : {a b : Value} → Some a ≡ Some b → a ≡ b
some_value e = cc

pub second_light : (w : Owned) (u : Value) → second_of (value.Own w) ≡ Some u → Light u
second_light w u e = by (owns_nothing w) e
  where
    by : (b : Bool) → (if b then Some (value.Own w) else None) ≡ Some u → Light u
    by true f = subst Light (some_value f) (own_light w)
    by false f = absurd cc

-- so is what is captured
captured_light : (branch moves : Bool) (v u : Value) → captured branch moves v ≡ Some u → Light u
captured_light branch true (value.Own v) u e = subst Light (some_value e) (own_light v)
captured_light branch false (value.Own v) u e = second_light v u e
captured_light true false (value.Shared r) u e = subst Light (some_value e) refl
captured_light false false (value.Shared r) u e = absurd cc
captured_light branch true (value.Shared r) u e = absurd cc
captured_light branch true value.Gone u e = absurd cc
captured_light branch true (value.SharedSlot i) u e = absurd cc
captured_light branch true (value.MutSlot i) u e = absurd cc
captured_light branch true (value.Mut r) u e = absurd cc
captured_light branch true (value.Held m) u e = absurd cc
captured_light branch false value.Gone u e = absurd cc
captured_light branch false (value.SharedSlot i) u e = absurd cc
captured_light branch false (value.MutSlot i) u e = absurd cc
captured_light branch false (value.Mut r) u e = absurd cc
captured_light branch false (value.Held m) u e = absurd cc

captures_light : (branch : Bool) (cs : List (ℕ × Bool)) (new slots : List Value) → AllByRecursion Light new → Gives (λ (p : List Value × List Value). AllByRecursion Light p.0) (capture_from branch new cs slots)
captures_light branch [] new slots a = a
captures_light branch (x ∷ cs) new slots a =
    then_gives (λ (p : List Value × List Value). AllByRecursion Light p.0) (slice_get slots x.0) _ (λ v q. then_gives (λ (p : List Value × List Value). AllByRecursion Light p.0) (captured branch x.1 v) _ (λ u e.
    captures_light branch cs (new ++ u ∷ []) (left_after x.1 slots x.0) (all_append Light new (u ∷ []) a (captured_light branch x.1 v u e, tt))))

pub all_light : (vs : List Value) → AreCaptured vs → AllByRecursion Light vs
all_light vs (branch, cs, slots, left, e) = given_by (λ (p : List Value × List Value). AllByRecursion Light p.0) (capture branch cs slots) (vs, left) (captures_light branch cs [] slots tt) e

-- PARTS

-- such a value suits each slot
abbrev pub ForLight : Env → Type 0
ForLight n = (j : ℕ) (l : Look) → is_light l ≡ true → suits_at n j l ≡ true

view_light : (o : OwnedType) (l : Look) → is_light l ≡ true → suits (whole (view o)) l ≡ true
view_light o a_nothing e = refl
view_light o a_shared e = refl
view_light o another e = refl
view_light o a_hidden e = absurd cc
view_light o a_slot e = absurd cc
view_light o a_mutable e = absurd cc

kind_light : (by : Capturer) (e : Env) (k m : Kind) → captured_kind by e k ≡ Some m → (l : Look) → is_light l ≡ true → suits (whole m) l ≡ true
kind_light by e (own o) m h l f = let z : own o ≡ m = cc in subst (λ x. suits (whole x) l ≡ true) z refl
kind_light by_par e (view o) m h l f = let z : view o ≡ m = cc in subst (λ x. suits (whole x) l ≡ true) z (view_light o l f)
kind_light by_par e (shared us) m h l f = by (heap_type e us) h
  where
    by : (o : Option OwnedType) → map_some view o ≡ Some m → suits (whole m) l ≡ true
    by None g = absurd cc
    by (Some o) g = let z : view o ≡ m = cc in subst (λ x. suits (whole x) l ≡ true) z (view_light o l f)
kind_light by_par e (mutable us) m h l f = absurd cc
kind_light by_spawn e (view o) m h l f = absurd cc
kind_light by_spawn e (shared us) m h l f = absurd cc
kind_light by_spawn e (mutable us) m h l f = absurd cc

push_light : (by : Capturer) (e n : Env) (c : _) (k m : Kind) → captured_kind by e k ≡ Some m → ForLight n → ForLight (captured_slot c m ∷ n)
push_light by e n c k m h all j l f = eq_cases (λ b. suits_slot (if b then Some (captured_slot c m) else env_at n j) l ≡ true) j (length n) (λ q. kind_light by e k m h l f) (λ ne. all j l f)

pass_light : (by : Capturer) {e n e1 n1 : Env} {x : ℕ × Bool} → SlotPasses by e n x e1 n1 → ForLight n → ForLight n1
pass_light by {e = e} {n = n} (passes c named caps part takes) all = of caps
  where
    of : {e1 n2 : Env} → Captures by e n c e1 n2 → ForLight n2
    of (captures_copy {k = k} {l = l} may twice free new) = push_light by e n c k l may.becomes all
    of (captures_move {k = k} {l = l} may once free new) = push_light by e n c k l may.becomes all

passes_light : (by : Capturer) {e n e1 n1 : Env} {cs : List (ℕ × Bool)} → SlotsPass by e n cs e1 n1 → ForLight n → ForLight n1
passes_light by pass_none all = all
passes_light by (pass_next one more) all = passes_light by more (pass_light by one all)

none_light : ForLight []
none_light j l f = refl

-- every value suits the slots that a spawned thread has
abbrev ForAny : Env → Type 0
ForAny n = (j : ℕ) (l : Look) → suits_at n j l ≡ true

owned_any : (e : Env) (k m : Kind) → captured_kind by_spawn e k ≡ Some m → (l : Look) → suits (whole m) l ≡ true
owned_any e (own o) m h l = let z : own o ≡ m = cc in subst (λ x. suits (whole x) l ≡ true) z refl
owned_any e (view o) m h l = absurd cc
owned_any e (shared us) m h l = absurd cc
owned_any e (mutable us) m h l = absurd cc

push_any : (e n : Env) (c : _) (k m : Kind) → captured_kind by_spawn e k ≡ Some m → ForAny n → ForAny (captured_slot c m ∷ n)
push_any e n c k m h all j l = eq_cases (λ b. suits_slot (if b then Some (captured_slot c m) else env_at n j) l ≡ true) j (length n) (λ q. owned_any e k m h l) (λ ne. all j l)

pass_any : {e n e1 n1 : Env} {x : ℕ × Bool} → SlotPasses by_spawn e n x e1 n1 → ForAny n → ForAny n1
pass_any {e = e} {n = n} (passes c named caps part takes) all = of caps
  where
    of : {e1 n2 : Env} → Captures by_spawn e n c e1 n2 → ForAny n2
    of (captures_copy {k = k} {l = l} may twice free new) = push_any e n c k l may.becomes all
    of (captures_move {k = k} {l = l} may once free new) = push_any e n c k l may.becomes all

passes_any : {e n e1 n1 : Env} {cs : List (ℕ × Bool)} → SlotsPass by_spawn e n cs e1 n1 → ForAny n → ForAny n1
passes_any pass_none all = all
passes_any (pass_next one more) all = passes_any more (pass_any one all)

none_any : ForAny []
none_any j l = refl

-- THE THREAD

-- what suits each slot weighs nothing
any_weighs : (sees : ObjNo → Bool) (n : Env) (vs : List Value) → ForAny n → unsuited_from sees n 0 vs ≡ 0
any_weighs sees n vs all = from_none sees n 0 vs (λ j v q. all (0 + j) (look_of sees v))

pub light_weighs : (sees : ObjNo → Bool) (n : Env) (vs : List Value) → ForLight n → AllByRecursion (λ (v : Value). is_light (look_of sees v) ≡ true) vs → unsuited_from sees n 0 vs ≡ 0
light_weighs sees n vs all light = from_none sees n 0 vs (λ j v q. all (0 + j) (look_of sees v) (all_at (λ (w : Value). is_light (look_of sees w) ≡ true) vs j v light q))

-- the first entry of a body, whose slots suit owned values and references that are seen; of a spawned thread all values
pub record Starting (table : Table) (i : Instr) (pc : ℕ) : Type 0 where
  pub env : Env
  pub gives : OwnedType
  pub at : table pc ≡ Some (going env [] gives)
  pub light : ForLight env
  pub spawned : (cs : WithRoom (ℕ × Bool)) (body : ℕ) → i ≡ instr.Spawn cs body → (sees : ObjNo → Bool) (vs : List Value) → unsuited_from sees env 0 vs ≡ 0

pub starting : (table : Table) (x y : Entry) (i : Instr) → InstrTypes table x i y → (pc : ℕ) → StartsAt i pc → Starting table i pc
starting table _ _ _ (i_spawn {n = n} {x = g} {body = body} w pass at full) pc e = record {
  env = n;
  gives = g;
  at = ap table e ∙ at;
  light = passes_light by_spawn pass none_light;
  spawned = λ cs b f sees vs. any_weighs sees n vs (passes_any pass none_any);
}
starting table _ _ _ (i_par {n = n} {m = m} {cs = bs} {ds = ds} {body = body} {other = two} w first_pass second_pass at1 at2) pc (inl e) = record {
  env = n;
  gives = unit;
  at = ap table e ∙ at1;
  light = passes_light by_par first_pass none_light;
  spawned = λ cs b f sees vs. absurd (let z : instr.Par bs body ds two ≡ instr.Spawn cs b = f in cc);
}
starting table _ _ _ (i_par {n = n} {m = m} {cs = bs} {ds = ds} {body = body} {other = two} w first_pass second_pass at1 at2) pc (inr e) = record {
  env = m;
  gives = unit;
  at = ap table e ∙ at2;
  light = passes_light by_par second_pass none_light;
  spawned = λ cs b f sees vs. absurd (let z : instr.Par bs body ds two ≡ instr.Spawn cs b = f in cc);
}
starting table _ _ _ _ pc e = elim e [ ]

-- by its row in the table
pub start_typed : (table : Table) (pc0 : ℕ) (x : Entry) (j : Instr) (ss : Successors) → Leads table pc0 x j ss → (pc : ℕ) → StartsAt j pc → Starting table j pc
start_typed table pc0 x j _ (to_next {y = e2} to) pc e = starting table x e2 j to pc e
start_typed table pc0 _ _ _ (ends takes) pc e = absurd e
