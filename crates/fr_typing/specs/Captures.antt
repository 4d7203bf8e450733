-- Captures (this project's rules): a name of the environment becomes a slot of a new thread's environment, whose names are
-- all new. As a relation and as a function.
use Rattle.std.specs.Prelude.{◌≡◌, ℕ, true, false, is_some, List, [], ◌∷◌, Option, Some, None, if◌then◌else◌}
use Rattle.fr_base.specs.declared.place.Lval.{Lval}
use Rattle.fr_terms.specs.Terms.{Spot, Captured}
use Rattle.fr_typing.specs.declared.reason.Reason.{Reason}
use Rattle.fr_typing.specs.declared.reason.Reason.TheVariants.{NameInScope, NotDefined, ReadBlocked, WriteBlocked, NotOwned, NotFull}
use Rattle.fr_typing.specs.Kinds.{Kind, own, unit, shared, view, Piece, whole, gone, boxed, map_some, copies}
use Rattle.fr_typing.specs.Places.{Env, Slot, found, read_blocked, write_blocked, put_at, slot_of, heap_type}
use Rattle.fr_typing.specs.Checks.{place_of}
use Rattle.fr_typing.specs.Finding.{Has, Misses, Outcome, typed, fault, env_after, unless, given, find}

-- the term that captures
pub data Capturer : Type 0 where
  by_spawn : Capturer
  by_par : Capturer

-- a captured name, as a place without stars
abbrev pub spot_of : Captured → Spot
spot_of c = record { at = c.at; name = c.name; stars = 0 }

-- the type of the new slot: an owned type as it is; par, which waits, makes views of references into the heap
abbrev pub captured_kind : Capturer → Env → Kind → Option Kind
captured_kind by e (own o) = Some (own o)
captured_kind by_par e (view o) = Some (view o)
captured_kind by_par e (shared us) = map_some view (heap_type e us)
captured_kind by e k = None

abbrev pub captured_slot : Captured → Kind → Slot
captured_slot c k = record { name = Some c.name; part = whole k }

-- AS A RELATION

-- the name's variable s is whole, and its type k becomes l in the new environment
pub record MayPass (by : Capturer) (e : Env) (c : Captured) (s : ℕ) (k l : Kind) : Type 0 where
  pub is : Has e (spot_of c) s (found (whole k))
  pub becomes : captured_kind by e k ≡ Some l

-- from an environment and a new one, a captured name leaves these two
pub data Captures : Capturer → Env → Env → Captured → Env → Env → Type 0 where
  captures_copy : {by : Capturer} {e n : Env} {c : Captured} {s : ℕ} {k l : Kind} → MayPass by e c s k l → copies k ≡ true → read_blocked e s ≡ false → slot_of n c.name ≡ None → Captures by e n c e (captured_slot c l ∷ n)
  captures_move : {by : Capturer} {e n : Env} {c : Captured} {s : ℕ} {k l : Kind} → MayPass by e c s k l → copies k ≡ false → write_blocked e s ≡ false → slot_of n c.name ≡ None → Captures by e n c (put_at e (place_of (spot_of c) s) (gone k)) (captured_slot c l ∷ n)

-- the same for names in order
pub data CapturesAll : Capturer → Env → Env → List Captured → Env → Env → Type 0 where
  captures_none : {by : Capturer} {e n : Env} → CapturesAll by e n [] e n
  captures_next : {by : Capturer} {e n e1 n1 e2 n2 : Env} {c : Captured} {cs : List Captured} → Captures by e n c e1 n1 → CapturesAll by e1 n1 cs e2 n2 → CapturesAll by e n (c ∷ cs) e2 n2

-- the two lists of a par: the second captures what the first leaves
pub record CapturesBoth (e : Env) (cs ds : List Captured) (n m after : Env) : Type 0 where
  pub between : Env
  pub first : CapturesAll by_par e [] cs between n
  pub second : CapturesAll by_par between [] ds after m

-- the first check of a captured name that fails
pub data Denies : Capturer → Env → Env → Captured → Reason → Type 0 where
  denies_name : {by : Capturer} {e n : Env} {c : Captured} {r : Reason} → Misses e (spot_of c) r → Denies by e n c r
  denies_all : {by : Capturer} {e n : Env} {c : Captured} {s : ℕ} {k : Kind} → Has e (spot_of c) s (found (gone k)) → Denies by e n c NotDefined
  denies_part : {by : Capturer} {e n : Env} {c : Captured} {s : ℕ} {p : Piece} → Has e (spot_of c) s (found (boxed p)) → Denies by e n c NotFull
  denies_kind : {by : Capturer} {e n : Env} {c : Captured} {s : ℕ} {k : Kind} → Has e (spot_of c) s (found (whole k)) → captured_kind by e k ≡ None → Denies by e n c NotOwned
  denies_read : {by : Capturer} {e n : Env} {c : Captured} {s : ℕ} {k l : Kind} → MayPass by e c s k l → copies k ≡ true → read_blocked e s ≡ true → Denies by e n c ReadBlocked
  denies_move : {by : Capturer} {e n : Env} {c : Captured} {s : ℕ} {k l : Kind} → MayPass by e c s k l → copies k ≡ false → write_blocked e s ≡ true → Denies by e n c WriteBlocked
  denies_copied_twice : {by : Capturer} {e n : Env} {c : Captured} {s i : ℕ} {k l : Kind} → MayPass by e c s k l → copies k ≡ true → read_blocked e s ≡ false → slot_of n c.name ≡ Some i → Denies by e n c NameInScope
  denies_moved_twice : {by : Capturer} {e n : Env} {c : Captured} {s i : ℕ} {k l : Kind} → MayPass by e c s k l → copies k ≡ false → write_blocked e s ≡ false → slot_of n c.name ≡ Some i → Denies by e n c NameInScope

-- of names in order
pub data DeniesAll : Capturer → Env → Env → List Captured → ℕ → Reason → Type 0 where
  denies_first : {by : Capturer} {e n : Env} {c : Captured} {cs : List Captured} {r : Reason} → Denies by e n c r → DeniesAll by e n (c ∷ cs) c.at r
  denies_rest : {by : Capturer} {e n e1 n1 : Env} {c : Captured} {cs : List Captured} {p : ℕ} {r : Reason} → Captures by e n c e1 n1 → DeniesAll by e1 n1 cs p r → DeniesAll by e n (c ∷ cs) p r

-- of the two lists of a par
pub data DeniesBoth : Env → List Captured → List Captured → ℕ → Reason → Type 0 where
  denies_ours : {e : Env} {cs ds : List Captured} {p : ℕ} {r : Reason} → DeniesAll by_par e [] cs p r → DeniesBoth e cs ds p r
  denies_theirs : {e e1 n : Env} {cs ds : List Captured} {p : ℕ} {r : Reason} → CapturesAll by_par e [] cs e1 n → DeniesAll by_par e1 [] ds p r → DeniesBoth e cs ds p r

-- AS A FUNCTION

abbrev pub with_full : ℕ → Piece → (Kind → Outcome) → Outcome
with_full at (whole k) go = go k
with_full at (gone k) go = fault at NotDefined
with_full at (boxed p) go = fault at NotFull

-- the new slot, where its name is new
abbrev pub add_captured : Env → Captured → Kind → (Env → Outcome) → Outcome
add_captured n c l go = unless (is_some (slot_of n c.name)) c.at NameInScope (go (captured_slot c l ∷ n))

abbrev pub pass_rule : Env → Env → Captured → (Env → Env → Outcome) → Lval → Kind → Kind → Outcome
pass_rule e n c go x k l =
    if copies k then unless (read_blocked e x.slot) c.at ReadBlocked (add_captured n c l (go e))
    else unless (write_blocked e x.slot) c.at WriteBlocked (add_captured n c l (go (put_at e x (gone k))))

abbrev pub capture_rule : Capturer → Env → Env → Captured → (Env → Env → Outcome) → Lval → Piece → Outcome
capture_rule by e n c go x p = with_full c.at p (λ k. given c.at NotOwned (captured_kind by e k) (pass_rule e n c go x k))

-- a captured name; what follows is given both environments
abbrev pub capture : Capturer → Env → Env → Captured → (Env → Env → Outcome) → Outcome
capture by e n c go = find e (spot_of c) (capture_rule by e n c go)

abbrev pub capture_all : Capturer → List Captured → Env → Env → (Env → Env → Outcome) → Outcome
capture_all by [] e n go = go e n
capture_all by (c ∷ cs) e n go = capture by e n c (λ e1 n1. capture_all by cs e1 n1 go)

-- both lists of a par; what follows is given the two new environments and what is left
abbrev pub capture_both : List Captured → List Captured → Env → (Env → Env → Env → Outcome) → Outcome
capture_both cs ds e go = capture_all by_par cs e [] (λ e1 n. capture_all by_par ds e1 [] (λ e2 m. go n m e2))

-- what a captured name leaves of the environment, and the new environment with it
abbrev pub env_left : Capturer → Env → Env → Captured → Env
env_left by e n c = env_after (capture by e n c (λ e1 n1. typed (own unit) e1))

abbrev pub env_new : Capturer → Env → Env → Captured → Env
env_new by e n c = env_after (capture by e n c (λ e1 n1. typed (own unit) n1))

-- what all captured names leave, and the new environment of all of them
abbrev pub env_left_by_all : Capturer → Env → List Captured → Env
env_left_by_all by e cs = env_after (capture_all by cs e [] (λ e1 n1. typed (own unit) e1))

abbrev pub env_of_all : Capturer → Env → List Captured → Env
env_of_all by e cs = env_after (capture_all by cs e [] (λ e1 n1. typed (own unit) n1))
