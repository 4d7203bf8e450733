-- Captured names: what typing has of them, from what the functions of the code find.
use Rattle.std.proofs.Common.{◌≡◌, ℕ, suc, ◌+◌, ◌<◌, ◌≤◌, Bool, true, false, List, [], ◌∷◌, ◌++◌, length, Some, refl, sym, ap, ◌∙◌, subst, arith}
use Rattle.std.specs.Prelude.{not, is_some, unwrap_or, Ok, Err}
use Rattle.fr_base.specs.declared.place.Lval.{Lval}
use Rattle.fr_terms.specs.Terms.{Captured}
use Rattle.fr_typing.specs.declared.reason.Reason.TheVariants.{NameInScope, NotOwned}
use Rattle.fr_typing.specs.Kinds.{Kind, own, unit, Piece, whole, copies}
use Rattle.fr_typing.specs.Places.{AreBelow as NamesBelow, Env, found, type_at, slot_of, kind_places}
use Rattle.fr_typing.specs.Checks.{place_of}
use Rattle.fr_typing.specs.Finding.{Has, Outcome, typed, fault, unless, given, env_after, is_moved}
use Rattle.fr_typing.specs.Captures.{Capturer, spot_of, captured_kind, captured_slot, add_captured, pass_rule, capture_rule, capture, capture_all, env_left, env_new}
use Rattle.fr_typing.specs.Rules.{let_rule}
use Rattle.fr_typing.proofs.FindingLemmas.{find_by, misses_by}
use Rattle.fr_syntax.specs.Arena.{Arena}
use Rattle.fr_syntax.specs.Meanings.{meanings, meaning_at, captures_at, capture_s, all_need, nodes_in}
use Rattle.fr_types.specs.Bounds.{most_slots}
use Rattle.fr_types.specs.declared.types.Ty.{Ty}
use Rattle.fr_types.specs.Types.{kind_of}
use Rattle.fr_types.specs.States.{Held, env_of}
use Rattle.borrow_check.specs.declared.check_error.CheckError.{CheckError}
use Rattle.borrow_check.specs.declared.check_error.CheckError.TheVariants.{Fault, NoMemory}
use Rattle.borrow_check.specs.declared.usage.Usage.{Usage}
use Rattle.borrow_check.specs.Rules.{IsInScope, Finds, Gives, Passes}
use Rattle.borrow_check.specs.Capturing.{capture_at, AreNames, IsFull, IsSent, when_free, GoesOn}
use Rattle.borrow_check.specs.Usages.{usage_of, capture_usage, capture_usages, write, AreWritten}
use Rattle.borrow_check.proofs.UsageLemmas.{written_none, written_both, length-write}

-- ONE NAME

-- a name that isn't found
pub misses_capture : (by : Capturer) (A : Type 0) (e n : Env) (c : Captured) (error : CheckError) (e1 n1 : Env) → Finds (Err error) e (spot_of c) → GoesOn {A = A} (Err error) (capture by e n c) e1 n1
misses_capture by A e n c (Fault p r) e1 n1 h = λ go. misses_by (capture_rule by e n c go) h.1 ∙ ap (λ q. fault q r) (sym h.0)
misses_capture by A e n c NoMemory e1 n1 h = tt

-- the variable of a name, and what stands there
pub record IsVariable (e : Env) (c : Captured) (x : Lval) (p : Piece) : Type 0 where
  pub at : x ≡ place_of (spot_of c) x.slot
  pub has : Has e (spot_of c) x.slot (found p)

-- a name that is found goes on with its part
found_capture : (by : Capturer) (e n : Env) (c : Captured) (x : Lval) (p : Piece) (go : Env → Env → Outcome) → IsVariable e c x p → capture by e n c go ≡ capture_rule by e n c go x p
found_capture by e n c x p go h = find_by e (spot_of c) x.slot (found p) (capture_rule by e n c go) h.has ∙ ap (λ y. capture_rule by e n c go y p) (sym h.at)

-- a part that isn't whole
pub part_capture : (by : Capturer) (A : Type 0) (e n : Env) (c : Captured) (x : Lval) (p : Piece) (error : CheckError) (e1 n1 : Env) → IsVariable e c x p → IsFull (Err error) c.at p → GoesOn {A = A} (Err error) (capture by e n c) e1 n1
part_capture by A e n c x p (Fault q r) e1 n1 h lacks = λ go. found_capture by e n c x p go h ∙ lacks (λ k. given c.at NotOwned (captured_kind by e k) (pass_rule e n c go x k))
part_capture by A e n c x p NoMemory e1 n1 h lacks = tt

-- one that is
pub variable_by : (e : Env) (c : Captured) (x : Lval) (p : Piece) (t : Ty) → IsVariable e c x p → IsFull (Ok t) c.at p → IsVariable e c x (whole (kind_of t))
variable_by e c x p t h full = record {
  at = h.at;
  has = subst (λ q. Has e (spot_of c) x.slot (found q)) full h.has;
}

-- a type that a new thread can't have
pub kept_capture : (by : Capturer) (A : Type 0) (e n : Env) (c : Captured) (x : Lval) (k : Kind) (error : CheckError) (e1 n1 : Env) → IsVariable e c x (whole k) → IsSent (Err error) c.at (captured_kind by e k) → GoesOn {A = A} (Err error) (capture by e n c) e1 n1
kept_capture by A e n c x k (Fault q r) e1 n1 h kept = λ go. found_capture by e n c x (whole k) go h ∙ kept (pass_rule e n c go x k)
kept_capture by A e n c x k NoMemory e1 n1 h kept = tt

-- a whole variable, whose type k becomes l in the new thread
pub record IsWhole (by : Capturer) (e : Env) (c : Captured) (x : Lval) (k l : Kind) : Type 0 where
  pub variable : IsVariable e c x (whole k)
  pub becomes : captured_kind by e k ≡ Some l

whole_capture : (by : Capturer) (e n : Env) (c : Captured) (x : Lval) (k l : Kind) (go : Env → Env → Outcome) → IsWhole by e c x k l → capture by e n c go ≡ when_free e c.at x k (λ e1. add_captured n c l (go e1))
whole_capture by e n c x k l go h =
    found_capture by e n c x (whole k) go h.variable
    ∙ ap (λ o. given c.at NotOwned o (pass_rule e n c go x k)) h.becomes

-- a variable that may not be handed on
pub blocked_capture : (by : Capturer) (A B : Type 0) (e n : Env) (c : Captured) (x : Lval) (k l : Kind) (error : CheckError) (e0 e1 n1 : Env) → IsWhole by e c x k l → ((rest : Env → Outcome) → Passes {A = B} (Err error) (when_free e c.at x k rest) (rest e0)) → GoesOn {A = A} (Err error) (capture by e n c) e1 n1
blocked_capture by A B e n c x k l (Fault q r) e0 e1 n1 h blocked = λ go. whole_capture by e n c x k l go h ∙ blocked (λ e1. add_captured n c l (go e1))
blocked_capture by A B e n c x k l NoMemory e0 e1 n1 h blocked = tt

adds : (b : Bool) (at : ℕ) (k : Kind) (e n1 : Env) (go : Env → Outcome) → unless b at NameInScope (typed (own unit) e) ≡ typed k n1 → unless b at NameInScope (go e) ≡ go n1
adds true at k e n1 go h = absurd cc
adds false at k e n1 go h = ap go (ap env_after h)

-- a name that the new environment has
pub twice_capture : (by : Capturer) (A : Type 0) (e n : Env) (c : Captured) (x : Lval) (k l : Kind) (error : CheckError) (e0 n0 e1 n1 : Env) → IsWhole by e c x k l → ((rest : Env → Outcome) → when_free e c.at x k rest ≡ rest e0) → Gives (Err error) (let_rule c.at c.name l n) n0 → GoesOn {A = A} (Err error) (capture by e n c) e1 n1
twice_capture by A e n c x k l (Fault q r) e0 n0 e1 n1 h free twice = λ go.
    whole_capture by e n c x k l go h ∙ free (λ e1. add_captured n c l (go e1)) ∙ denied (is_some (slot_of n c.name)) (go e0) twice
  where
    denied : (b : Bool) (go : Env → Outcome) → unless b c.at NameInScope (typed (own unit) (captured_slot c l ∷ n)) ≡ fault q r → unless b c.at NameInScope (go (captured_slot c l ∷ n)) ≡ fault q r
    denied true go h = h
    denied false go h = absurd cc
twice_capture by A e n c x k l NoMemory e0 n0 e1 n1 h free twice = tt

-- a name that is captured
pub goes_capture : (by : Capturer) (e n : Env) (c : Captured) (x : Lval) (k l : Kind) (e1 n1 : Env) (t : Ty) → IsWhole by e c x k l → ((rest : Env → Outcome) → when_free e c.at x k rest ≡ rest e1) → let_rule c.at c.name l n ≡ typed (kind_of t) n1 → (go : Env → Env → Outcome) → capture by e n c go ≡ go e1 n1
goes_capture by e n c x k l e1 n1 t h free new go =
    whole_capture by e n c x k l go h ∙ free (λ e1. add_captured n c l (go e1)) ∙ adds (is_some (slot_of n c.name)) c.at (kind_of t) (captured_slot c l ∷ n) n1 (go e1) new

-- how its variable is used
pub usage_captured : (e : Env) (c : Captured) (x : Lval) (k : Kind) (b : Bool) → IsVariable e c x (whole k) → b ≡ copies k → ◌≡◌ {A = Usage} (record { slot = x.slot; takes = not b }) (capture_usage e c)
usage_captured e c x k b h is =
    let slot : unwrap_or (slot_of e c.name) 0 ≡ x.slot = ap (λ o. unwrap_or o 0) h.has.named in
    let moved : is_moved (type_at e (place_of (spot_of c) (unwrap_or (slot_of e c.name) 0))) ≡ not b = ap (λ i. is_moved (type_at e (place_of (spot_of c) i))) slot ∙ ap is_moved h.has.is ∙ ap not (sym is) in
    sym (ap (usage_of e (spot_of c)) moved ∙ ap (λ i. used i) slot)
  where
    used : ℕ → Usage
    used i = record { slot = i; takes = not b }

-- what a type without places names is there
pub none_below : (n : ℕ) (k : Kind) → kind_places k ≡ [] → NamesBelow n (kind_places k)
none_below n k h = subst (NamesBelow n) (sym h) tt

-- NAMES IN ORDER

-- so many names are captured: what is left goes on from here
pub record IsCapturing (by : Capturer) (a : Arena) (ids rest : List ℕ) (vs0 ns0 vs ns : List Held) (us0 us : List Usage) : Type 0 where
  pub names : AreNames a rest
  pub goes : (go : Env → Env → Outcome) → capture_all by (captures_at (meanings a) ids) (env_of a.names vs0) (env_of a.names ns0) go ≡ capture_all by (captures_at (meanings a) rest) (env_of a.names vs) (env_of a.names ns) go
  pub marks : (final : List Usage) → AreWritten us final (nodes_in (meanings a) (all_need capture_s rest)) (capture_usages by (env_of a.names vs) (env_of a.names ns) (captures_at (meanings a) rest)) → AreWritten us0 final (nodes_in (meanings a) (all_need capture_s ids)) (capture_usages by (env_of a.names vs0) (env_of a.names ns0) (captures_at (meanings a) ids))
  pub scope : IsInScope a.names vs
  pub new_scope : IsInScope a.names ns
  pub same : length vs ≡ length vs0
  pub few : length ns + length (nodes_in (meanings a) (all_need capture_s rest)) ≡ length ns0 + length (nodes_in (meanings a) (all_need capture_s ids))
  pub long : length us ≡ length (meanings a)

pub capturing_start : (by : Capturer) (a : Arena) (ids : List ℕ) (vs ns : List Held) (us : List Usage) → AreNames a ids → IsInScope a.names vs → IsInScope a.names ns → length us ≡ length (meanings a) → IsCapturing by a ids ids vs ns vs ns us us
capturing_start by a ids vs ns us names scope new_scope long = record {
  names = names;
  goes = λ go. refl;
  marks = λ final h. h;
  scope = scope;
  new_scope = new_scope;
  same = refl;
  few = refl;
  long = long;
}

-- the usage of one name
pub one_captured : (us new : List Usage) (k : ℕ) (ns : List ℕ) (u : Usage) → ns ≡ k ∷ [] → k < length us → new ≡ write us k (Some u) → AreWritten us new ns (Some u ∷ [])
one_captured us new k ns u is lt wrote =
    subst (λ l. AreWritten us new l (Some u ∷ [])) (sym is) (record { same = wrote; each = refl; within = (lt, tt) })

-- one name more
pub capturing_step : (by : Capturer) (a : Arena) (id : ℕ) (ids rest : List ℕ) (vs0 ns0 vs ns vs1 ns1 : List Held) (us0 us us1 : List Usage) (u : Usage) → IsCapturing by a ids (id ∷ rest) vs0 ns0 vs ns us0 us → (meaning_at (meanings a) id).nodes ≡ id ∷ [] → ((go : Env → Env → Outcome) → capture by (env_of a.names vs) (env_of a.names ns) (capture_at (meanings a) id) go ≡ go (env_of a.names vs1) (env_of a.names ns1)) → u ≡ capture_usage (env_of a.names vs) (capture_at (meanings a) id) → us1 ≡ write us id (Some u) → IsInScope a.names vs1 → IsInScope a.names ns1 → length vs1 ≡ length vs → length ns1 ≡ length ns + 1 → IsCapturing by a ids rest vs0 ns0 vs1 ns1 us0 us1
capturing_step by a id ids rest vs0 ns0 vs ns vs1 ns1 us0 us us1 u h node goes used wrote scope new_scope same one = record {
  names = record { parts = h.names.parts.2 };
  goes = λ go. h.goes go ∙ goes (λ e1 n1. capture_all by (captures_at (meanings a) rest) e1 n1 go);
  marks = λ final more. h.marks final (step final more);
  scope = scope;
  new_scope = new_scope;
  same = same ∙ h.same;
  few =
      let all : length ns + length ((meaning_at (meanings a) id).nodes ++ nodes_in (meanings a) (all_need capture_s rest)) ≡ length ns0 + length (nodes_in (meanings a) (all_need capture_s ids)) = h.few in
      let first : length ((meaning_at (meanings a) id).nodes ++ nodes_in (meanings a) (all_need capture_s rest)) ≡ suc (length (nodes_in (meanings a) (all_need capture_s rest))) = ap (λ (l : List ℕ). length (l ++ nodes_in (meanings a) (all_need capture_s rest))) node in
      omega (arith, all, first, one);
  long = ap length wrote ∙ length-write us id (Some u) ∙ h.long;
}
  where
    before : id < length us
    before = omega (arith, h.names.parts.0, h.long)

    step : (final : List Usage) → AreWritten us1 final (nodes_in (meanings a) (all_need capture_s rest)) (capture_usages by (env_of a.names vs1) (env_of a.names ns1) (captures_at (meanings a) rest)) → AreWritten us final (nodes_in (meanings a) (all_need capture_s (id ∷ rest))) (capture_usages by (env_of a.names vs) (env_of a.names ns) (captures_at (meanings a) (id ∷ rest)))
    step final more =
        let c = capture_at (meanings a) id in
        let left : env_left by (env_of a.names vs) (env_of a.names ns) c ≡ env_of a.names vs1 = ap env_after (goes (λ e1 n1. typed (own unit) e1)) in
        let new : env_new by (env_of a.names vs) (env_of a.names ns) c ≡ env_of a.names ns1 = ap env_after (goes (λ e1 n1. typed (own unit) n1)) in
        let both : AreWritten us final ((meaning_at (meanings a) id).nodes ++ nodes_in (meanings a) (all_need capture_s rest)) (Some u ∷ capture_usages by (env_of a.names vs1) (env_of a.names ns1) (captures_at (meanings a) rest)) =
        written_both us us1 final (meaning_at (meanings a) id).nodes (nodes_in (meanings a) (all_need capture_s rest)) (Some u ∷ []) (capture_usages by (env_of a.names vs1) (env_of a.names ns1) (captures_at (meanings a) rest)) (one_captured us us1 id (meaning_at (meanings a) id).nodes u node before wrote) more in
        subst (λ v. AreWritten us final ((meaning_at (meanings a) id).nodes ++ nodes_in (meanings a) (all_need capture_s rest)) (Some v ∷ capture_usages by (env_left by (env_of a.names vs) (env_of a.names ns) c) (env_new by (env_of a.names vs) (env_of a.names ns) c) (captures_at (meanings a) rest))) used
        (subst (λ e1. AreWritten us final ((meaning_at (meanings a) id).nodes ++ nodes_in (meanings a) (all_need capture_s rest)) (Some u ∷ capture_usages by e1 (env_new by (env_of a.names vs) (env_of a.names ns) c) (captures_at (meanings a) rest))) (sym left)
        (subst (λ n1. AreWritten us final ((meaning_at (meanings a) id).nodes ++ nodes_in (meanings a) (all_need capture_s rest)) (Some u ∷ capture_usages by (env_of a.names vs1) n1 (captures_at (meanings a) rest))) (sym new) both))

-- so few slots are there before a name
pub capturing_room : (by : Capturer) (a : Arena) (id : ℕ) (ids rest : List ℕ) (vs0 ns0 vs ns : List Held) (us0 us : List Usage) → IsCapturing by a ids (id ∷ rest) vs0 ns0 vs ns us0 us → (meaning_at (meanings a) id).nodes ≡ id ∷ [] → length ns0 + length (nodes_in (meanings a) (all_need capture_s ids)) ≤ most_slots → length ns < most_slots
capturing_room by a id ids rest vs0 ns0 vs ns us0 us h node few =
    let all : length ns + length ((meaning_at (meanings a) id).nodes ++ nodes_in (meanings a) (all_need capture_s rest)) ≡ length ns0 + length (nodes_in (meanings a) (all_need capture_s ids)) = h.few in
    let first : length ((meaning_at (meanings a) id).nodes ++ nodes_in (meanings a) (all_need capture_s rest)) ≡ suc (length (nodes_in (meanings a) (all_need capture_s rest))) = ap (λ (l : List ℕ). length (l ++ nodes_in (meanings a) (all_need capture_s rest))) node in
    omega (arith, all, first, few)

-- a name is denied
pub capturing_fails : (by : Capturer) (A B : Type 0) (a : Arena) (id : ℕ) (ids rest : List ℕ) (vs0 ns0 vs ns : List Held) (us0 us : List Usage) (error : CheckError) (e1 n1 e2 n2 : Env) → IsCapturing by a ids (id ∷ rest) vs0 ns0 vs ns us0 us → GoesOn {A = B} (Err error) (capture by (env_of a.names vs) (env_of a.names ns) (capture_at (meanings a) id)) e1 n1 → GoesOn {A = A} (Err error) (capture_all by (captures_at (meanings a) ids) (env_of a.names vs0) (env_of a.names ns0)) e2 n2
capturing_fails by A B a id ids rest vs0 ns0 vs ns us0 us (Fault p r) e1 n1 e2 n2 h fails = λ go. h.goes go ∙ fails (λ e1 n1. capture_all by (captures_at (meanings a) rest) e1 n1 go)
capturing_fails by A B a id ids rest vs0 ns0 vs ns us0 us NoMemory e1 n1 e2 n2 h fails = tt

-- all names are captured
pub capturing_goes : (by : Capturer) (a : Arena) (ids rest : List ℕ) (vs0 ns0 vs ns : List Held) (us0 us : List Usage) → IsCapturing by a ids rest vs0 ns0 vs ns us0 us → rest ≡ [] → (go : Env → Env → Outcome) → capture_all by (captures_at (meanings a) ids) (env_of a.names vs0) (env_of a.names ns0) go ≡ go (env_of a.names vs) (env_of a.names ns)
capturing_goes by a ids rest vs0 ns0 vs ns us0 us h e = λ go. h.goes go ∙ ap (λ l. capture_all by (captures_at (meanings a) l) (env_of a.names vs) (env_of a.names ns) go) e

pub capturing_written : (by : Capturer) (a : Arena) (ids rest : List ℕ) (vs0 ns0 vs ns : List Held) (us0 us : List Usage) → IsCapturing by a ids rest vs0 ns0 vs ns us0 us → rest ≡ [] → AreWritten us0 us (nodes_in (meanings a) (all_need capture_s ids)) (capture_usages by (env_of a.names vs0) (env_of a.names ns0) (captures_at (meanings a) ids))
capturing_written by a ids rest vs0 ns0 vs ns us0 us h e =
    h.marks us (subst (λ l. AreWritten us us (nodes_in (meanings a) (all_need capture_s l)) (capture_usages by (env_of a.names vs) (env_of a.names ns) (captures_at (meanings a) l))) (sym e) (written_none us))

pub capturing_few : (by : Capturer) (a : Arena) (ids rest : List ℕ) (vs0 ns0 vs ns : List Held) (us0 us : List Usage) → IsCapturing by a ids rest vs0 ns0 vs ns us0 us → rest ≡ [] → length ns ≡ length ns0 + length (nodes_in (meanings a) (all_need capture_s ids))
capturing_few by a ids rest vs0 ns0 vs ns us0 us h e =
    let none : length (nodes_in (meanings a) (all_need capture_s rest)) ≡ 0 = ap (λ l. length (nodes_in (meanings a) (all_need capture_s l))) e in
    omega (arith, h.few, none)
