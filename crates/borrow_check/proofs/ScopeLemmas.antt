-- The names in scope, and finding a written place by them.
use Rattle.std.proofs.Common.{◌≡◌, ℕ, zero, suc, ◌-◌, ◌<◌, ◌≤◌, Bool, true, false, List, [], ◌∷◌, length, drop, Option, Some, None, refl, sym, ap, ◌∙◌, subst, arith}
use Rattle.std.specs.Prelude.{◌==◌, Err, if◌then◌else◌}
use Rattle.std.specs.Str.{bytes_eq}
use Rattle.std.proofs.lemmas.Bool.Decides.{same_from_decides, Decides-eqb, Decides-like}
use Rattle.std.proofs.lemmas.Slice.Eq.{bytes_eq-Decides}
use Rattle.std.proofs.lemmas.List.{length-map, drop-map}
use Rattle.fr_base.specs.declared.place.Lval.{Lval}
use Rattle.fr_terms.specs.Terms.{Text, Spot, same_text}
use Rattle.fr_typing.specs.declared.reason.Reason.TheVariants.{UnknownName, NotDefined}
use Rattle.fr_typing.specs.Kinds.{Piece, whole, gone, boxed}
use Rattle.fr_typing.specs.Places.{Env, Found, found, type_at, same_name, slot_of, put_at}
use Rattle.fr_typing.specs.Checks.{keep}
use Rattle.fr_typing.specs.Finding.{Has, Misses, misses_name, Lacks, lacks_place, lacks_all, lacks_part}
use Rattle.fr_typing.proofs.PlaceLemmas.{eq_cases}
use Rattle.fr_syntax.specs.Arena.{text_of}
use Rattle.fr_types.specs.declared.error.TypeError.{TypeError}
use Rattle.fr_types.specs.Answers.{IsFound}
use Rattle.fr_types.specs.States.{Held, text_in, slot_view, env_of, is_named, slot_in}
use Rattle.borrow_check.specs.declared.check_error.CheckError.{CheckError}
use Rattle.borrow_check.specs.declared.check_error.CheckError.TheVariants.{Fault, NoMemory}
use Rattle.borrow_check.specs.declared.written.Written.{Written}
use Rattle.borrow_check.specs.Rules.{AreDifferentTexts, IsInScope, IsLacking, Finds, FindsWhole, spot_of}

pub length-env_of : (names : List Text) (vs : List Held) → length (env_of names vs) ≡ length vs
length-env_of names vs = length-map vs (slot_view names)

-- the names of these slots are among the first n
abbrev pub AreNamed : ℕ → List Held → Type 0
AreNamed n vs = (name slot : ℕ) → slot_in vs name ≡ Some slot → name < n

-- names have the same text where they have the same number
same_text-names : (names : List Text) (a b : ℕ) → AreDifferentTexts names → a < length names → b < length names → same_text (text_of names a) (text_of names b) ≡ (a == b)
same_text-names names a b h la lb =
    same_from_decides (bytes_eq (text_of names a) (text_of names b)) (a == b)
    (Decides-like (bytes_eq (text_of names a) (text_of names b)) (h a b la lb) (ap (text_of names)) (bytes_eq-Decides (text_of names a) (text_of names b)))
    (Decides-eqb a b)

-- the name of the last slot is its own
own_slot : (below : List Held) (n : ℕ) (p : Piece) → slot_in (record { name = Some n; part = p } ∷ below) n ≡ Some (length below)
own_slot below n p = eq_cases (λ b. (if b then Some (length below) else slot_in below n) ≡ Some (length below)) n n (λ e. refl) (λ ne. absurd (ne refl))

-- a slot's name is told by its text
name_test : (names : List Text) (below : List Held) (o : Option ℕ) (p : Piece) (name : ℕ) → AreDifferentTexts names → AreNamed (length names) (record { name = o; part = p } ∷ below) → name < length names → same_name (text_in names o) (text_of names name) ≡ is_named o name
name_test names below None p name h n lt = refl
name_test names below (Some m) p name h n lt = same_text-names names m name h (n m (length below) (own_slot below m p)) lt

named_rest : (n name slot : ℕ) (below : List Held) (b : Bool) → ((s : ℕ) → (if b then Some (length below) else slot_in below name) ≡ Some s → name < n) → slot_in below name ≡ Some slot → name < n
named_rest n name slot below true f h = f (length below) refl
named_rest n name slot below false f h = f slot h

-- the slots below the last one have names too
pub named_below : (n : ℕ) (s : Held) (below : List Held) → AreNamed n (s ∷ below) → AreNamed n below
named_below n s below h = λ name slot is. named_rest n name slot below (is_named s.name name) (h name) is

-- the slot of a name
pub slot_of-env_of : (names : List Text) (vs : List Held) (name : ℕ) → AreDifferentTexts names → AreNamed (length names) vs → name < length names → slot_of (env_of names vs) (text_of names name) ≡ slot_in vs name
slot_of-env_of names [] name h n lt = refl
slot_of-env_of names (s ∷ below) name h n lt =
    ap (λ b. if b then Some (length (env_of names below)) else slot_of (env_of names below) (text_of names name)) (name_test names below s.name s.part name h n lt)
    ∙ ap (λ l. if is_named s.name name then Some l else slot_of (env_of names below) (text_of names name)) (length-env_of names below)
    ∙ ap (λ o. if is_named s.name name then Some (length below) else o) (slot_of-env_of names below name h (named_below (length names) s below n) lt)

-- PLACES

-- a written place of a slot has the type of the place there
pub has_by : (names : List Text) (vs : List Held) (w : Written) (s : ℕ) (f : Found) → IsInScope names vs → w.name < length names → Some s ≡ slot_in vs w.name → type_at (env_of names vs) (record { slot = s; depth = w.stars }) ≡ f → Has (env_of names vs) (spot_of names w) s f
has_by names vs w s f h lt slot is = record {
  named = slot_of-env_of names vs w.name h.different h.named lt ∙ sym slot;
  is = is;
}

-- a name that isn't in scope
pub none_by : (names : List Text) (vs : List Held) (w : Written) → IsInScope names vs → w.name < length names → None ≡ slot_in vs w.name → Misses (env_of names vs) (spot_of names w) UnknownName
none_by names vs w h lt none = misses_name (slot_of-env_of names vs w.name h.different h.named lt ∙ sym none)

-- what stands there isn't whole
pub lacking_by : (e : Env) (w : Spot) (s : ℕ) (p : Piece) → Has e w s (found p) → IsLacking p → Lacks e w NotDefined
lacking_by e w s (whole k) h lacking = absurd lacking
lacking_by e w s (gone k) h lacking = lacks_all h
lacking_by e w s (boxed p) h lacking = lacks_part h

-- SLOTS THAT COME AND GO

-- a write changes no name
pub scope_same : (names : List Text) (vs new : List Held) → IsInScope names vs → ((name : ℕ) → slot_in new name ≡ slot_in vs name) → IsInScope names new
scope_same names vs new h same = record {
  different = h.different;
  named = λ name slot is. h.named name slot (sym (same name) ∙ is);
}

named_push : (n m name slot : ℕ) (vs : List Held) (test : Bool) → AreNamed n vs → (test ≡ true → m ≡ name) → m < n → (if test then Some (length vs) else slot_in vs name) ≡ Some slot → name < n
named_push n m name slot vs true h same lt is = subst (λ k. k < n) (same refl) lt
named_push n m name slot vs false h same lt is = h name slot is

-- no slot
pub scope_none : (names : List Text) (vs new : List Held) → IsInScope names vs → new ≡ [] → IsInScope names new
scope_none names vs new h is = record { different = h.different; named = subst (AreNamed (length names)) (sym is) (λ name slot there. absurd cc) }

-- a new slot
pub scope_push : (names : List Text) (vs new : List Held) (name : ℕ) (p : Piece) → IsInScope names vs → name < length names → new ≡ record { name = Some name; part = p } ∷ vs → IsInScope names new
scope_push names vs new name p h lt is = record {
  different = h.different;
  named = subst (AreNamed (length names)) (sym is)
      (λ other slot. named_push (length names) name other slot vs (name == other) h.named (λ e. eq_cases (λ b. b ≡ true → name ≡ other) name other (λ same test. same) (λ ne test. absurd cc) e) lt);
}

named_drop : (k n : ℕ) (vs : List Held) → AreNamed n vs → AreNamed n (drop k vs)
named_drop zero n vs h = h
named_drop (suc k) n [] h = h
named_drop (suc k) n (s ∷ below) h = named_drop k n below (named_below n s below h)

-- the last slots go
pub scope_drop : (names : List Text) (vs new : List Held) (k : ℕ) → IsInScope names vs → new ≡ drop k vs → IsInScope names new
scope_drop names vs new k h is = record {
  different = h.different;
  named = subst (AreNamed (length names)) (sym is) (named_drop k (length names) vs h.named);
}

-- the first slots
pub keep-env_of : (names : List Text) (vs : List Held) (base : ℕ) → keep base (env_of names vs) ≡ env_of names (drop (length vs - base) vs)
keep-env_of names vs base =
    ap (λ n. drop (n - base) (env_of names vs)) (length-env_of names vs) ∙ drop-map (slot_view names) (length vs - base) vs

-- one slot fewer of those that go
pub keep_step : (base : ℕ) (now next : List Held) → base < length now → next ≡ drop 1 now → (base ≤ length next) × (drop (length next - base) next ≡ drop (length now - base) now)
keep_step base [] next lt is = absurd (omega arith)
keep_step base (s ∷ rest) next lt is =
    let less : suc (length rest) - base ≡ suc (length rest - base) = omega arith in
    subst (λ l. (base ≤ length l) × (drop (length l - base) l ≡ drop (length (s ∷ rest) - base) (s ∷ rest))) (sym is)
    (omega arith, sym (ap (λ n. drop n (s ∷ rest)) less))

length-drop_to : (vs : List Held) (k : ℕ) → length (drop k vs) ≡ length vs - k
length-drop_to vs zero = omega arith
length-drop_to [] (suc k) = omega arith
length-drop_to (s ∷ below) (suc k) = omega (arith, length-drop_to below k)

-- so many slots stay
pub keep_long : (vs new : List Held) (base : ℕ) → base ≤ length vs → new ≡ drop (length vs - base) vs → length new ≡ base
keep_long vs new base le is = omega (arith, ap length is, length-drop_to vs (length vs - base))

-- LENGTHS

either : {A : Type 0} (P : A → Type 0) (b : Bool) (x y : A) → P x → P y → P (if b then x else y)
either P true x y f g = f
either P false x y f g = g

pub length-put_at : (e : Env) (w : Lval) (p : Piece) → length (put_at e w p) ≡ length e
length-put_at [] w p = refl
length-put_at (s ∷ below) w p = either (λ l. length l ≡ suc (length below)) (w.slot == length below) _ _ refl (ap suc (length-put_at below w p))

-- an error of a place is one of a place that has to be whole
pub error_whole : (e : Env) (w : Spot) (error : CheckError) → Finds (Err error) e w → FindsWhole (Err error) e w
error_whole e w (Fault p r) h = (h.0, lacks_place h.1)
error_whole e w NoMemory h = tt

pub error_as : (r s : TypeError) (f : Found) → r ≡ s → IsFound (Err r) f → IsFound (Err s) f
error_as r s f is h = subst (λ (t : TypeError). IsFound (Err t) f) is h
