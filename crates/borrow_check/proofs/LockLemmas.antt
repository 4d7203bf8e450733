-- Locks: their slots, their blocks and their usages.
use Rattle.std.proofs.Common.{◌≡◌, ℕ, suc, ◌+◌, ◌-◌, ◌<◌, ◌≤◌, true, false, List, [], ◌∷◌, ◌++◌, length, drop, Some, None, refl, sym, ap, ◌∙◌, subst, arith}
use Rattle.std.specs.Prelude.{is_some, Result, Ok, Err}
use Rattle.std.proofs.lemmas.List.{append-nil}
use Rattle.fr_base.specs.declared.place.Lval.{Lval}
use Rattle.fr_terms.specs.Terms as terms
use Rattle.fr_terms.specs.Terms.{Text, Spot, lock_t, start_of}
use Rattle.fr_typing.specs.declared.reason.Reason.TheVariants.{NameInScope, WrongType}
use Rattle.fr_typing.specs.Kinds.{Owned, Kind, own, unit, shared, whole}
use Rattle.fr_typing.specs.Places.{Env, slot_of, type_at}
use Rattle.fr_typing.specs.Checks.{is_owned, is_whole, keep, mutex_of, with_lock, has_content}
use Rattle.fr_typing.specs.Finding.{Outcome, typed, fault, unless, given, then_typed, find_shown, env_after}
use Rattle.fr_typing.specs.Rules.{lock_rule, unlock_rule}
use Rattle.fr_typing.specs.Typing.{typing}
use Rattle.fr_syntax.specs.declared.tree.Term.TheVariants.{Lock}
use Rattle.fr_syntax.specs.declared.tree.Node.{Node}
use Rattle.fr_syntax.specs.Arena.{Arena, text_of}
use Rattle.fr_syntax.specs.Meanings.{meaning_at, term_at, place_at, stands_for, place_s, needs, nodes_in, meanings, AreBelow, sort_of}
use Rattle.fr_types.specs.declared.types.O.{O}
use Rattle.fr_types.specs.declared.types.Ty.{Ty}
use Rattle.fr_types.specs.OwnedTypes.{owned_of}
use Rattle.fr_types.specs.Types.{kind_of}
use Rattle.fr_types.specs.States.{Held, slot_in, env_of}
use Rattle.borrow_check.specs.declared.check_error.CheckError.{CheckError}
use Rattle.borrow_check.specs.declared.check_error.CheckError.TheVariants.{Fault, NoMemory}
use Rattle.borrow_check.specs.declared.usage.Usage.{Usage}
use Rattle.borrow_check.specs.Rules.{IsInScope, FindsShown, GoesTo, Gives, IsContent}
use Rattle.borrow_check.specs.Nodes.{IsReady}
use Rattle.borrow_check.specs.Usages.{env_locked, usage_of, usages_of, write, AreWritten}
use Rattle.borrow_check.proofs.UsageLemmas.{written_both, written_node}
use Rattle.borrow_check.proofs.ScopeLemmas.{scope_same, keep-env_of}
use Rattle.borrow_check.proofs.RuleLemmas.{is_some_slot}
use Rattle.borrow_check.proofs.TermLemmas.{IsHere, term_here, value_part}
use Rattle.borrow_check.proofs.CheckLemmas.{two_count}

-- SLOTS

-- the mutex's slot has no name
pub scope_hidden : (names : List Text) (vs new : List Held) (us : List Lval) → IsInScope names vs → new ≡ record { name = None; part = whole (shared us) } ∷ vs → IsInScope names new
scope_hidden names vs new us h is = scope_same names vs new h (λ name. ap (λ l. slot_in l name) is)

-- a new name is that of a lock's content
pub lock_twice : (names : List Text) (vs : List Held) (name at : ℕ) (go : Env → Outcome) (e : Env) → IsInScope names vs → name < length names → true ≡ is_some (slot_in vs name) → unless (is_some (slot_of (env_of names vs) (text_of names name))) at NameInScope (go e) ≡ fault at NameInScope
lock_twice names vs name at go e h lt is = ap (λ b. unless b at NameInScope (go e)) (is_some_slot names vs name true h lt is)

pub lock_new : (names : List Text) (vs new next : List Held) (x : Lval) (name at : ℕ) (o : Owned) (k : Kind) (go : Env → Outcome) → IsInScope names vs → name < length names → false ≡ is_some (slot_in vs name) → new ≡ record { name = None; part = whole (shared (x ∷ [])) } ∷ vs → k ≡ own o → next ≡ record { name = Some name; part = whole k } ∷ new →
    unless (is_some (slot_of (env_of names vs) (text_of names name))) at NameInScope (go (with_lock (env_of names vs) x (text_of names name) o)) ≡ go (env_of names next)
lock_new names vs new next x name at o k go h lt is first same second =
    let e = env_of names vs in
    ap (λ b. unless b at NameInScope (go (with_lock e x (text_of names name) o))) (is_some_slot names vs name false h lt is)
    ∙ ap (λ l. go (env_of names l)) (sym (second ∙ ap (λ j. record { name = Some name; part = whole j } ∷ new) same ∙ ap (λ l. record { name = Some name; part = whole (own o) } ∷ l) first))

-- the end of a lock whose content is whole
pub unlock_typed : (names : List Text) (vs new : List Held) (at body base : ℕ) (k : Kind) → true ≡ is_owned k → true ≡ is_whole (type_at (env_of names vs) (record { slot = base + 1; depth = 0 })) → new ≡ drop (length vs - base) vs → unlock_rule at body base k (env_of names vs) ≡ typed k (env_of names new)
unlock_typed names vs new at body base k owned full is =
    let e = env_of names vs in
    let next : base + 1 ≡ suc base = omega arith in
    let content : true ≡ has_content base e = subst (λ n. true ≡ is_whole (type_at e (record { slot = n; depth = 0 }))) next full in
    let rule : unlock_rule at body base k e ≡ typed k (keep base e) = simp (sym owned, sym content) in
    rule ∙ ap (typed k) (keep-env_of names vs base ∙ ap (env_of names) (sym is))

-- WHAT A LOCK FINDS

-- the place isn't found, is no mutex's, or the content's name isn't new
pub lock_misses : (A : Type 0) (at : ℕ) (e : Env) (w : Spot) (x : Text) (error : CheckError) (e1 : Env) → FindsShown (Err error) e w → GoesTo {A = A} (Err error) (λ (go : Env → Outcome). find_shown e w (lock_rule at e w x go)) e1
lock_misses A at e w x (Fault p r) e1 h = λ go. h (lock_rule at e w x go)
lock_misses A at e w x NoMemory e1 h = tt

pub lock_other : (A : Type 0) (at : ℕ) (e : Env) (w : Spot) (x : Text) (y : Lval) (t : Ty) (error : CheckError) (e1 : Env) → FindsShown (Ok (y, t)) e w → ((rest : Owned → Outcome) → IsContent (Err error) (given w.at WrongType (mutex_of (kind_of t)) rest) rest) → GoesTo {A = A} (Err error) (λ (go : Env → Outcome). find_shown e w (lock_rule at e w x go)) e1
lock_other A at e w x y t (Fault p r) e1 h other = λ go. h.1 (lock_rule at e w x go) ∙ other (λ o. unless (is_some (slot_of e x)) at NameInScope (go (with_lock e y x o)))
lock_other A at e w x y t NoMemory e1 h other = tt

pub lock_old : (A B : Type 0) (at : ℕ) (e : Env) (w : Spot) (x : Text) (y : Lval) (t : Ty) (o : O) (error : CheckError) (e1 e2 : Env) → FindsShown (Ok (y, t)) e w → ((rest : Owned → Outcome) → given w.at WrongType (mutex_of (kind_of t)) rest ≡ rest (owned_of o)) → GoesTo {A = A} (Err error) (λ (go : Env → Outcome). unless (is_some (slot_of e x)) at NameInScope (go (with_lock e y x (owned_of o)))) e1 → GoesTo {A = B} (Err error) (λ (go : Env → Outcome). find_shown e w (lock_rule at e w x go)) e2
lock_old A B at e w x y t o (Fault p r) e1 e2 h content old = λ go. h.1 (lock_rule at e w x go) ∙ content (λ o. unless (is_some (slot_of e x)) at NameInScope (go (with_lock e y x o))) ∙ old go
lock_old A B at e w x y t o NoMemory e1 e2 h content old = tt

pub lock_found : (at : ℕ) (e : Env) (w : Spot) (x : Text) (y : Lval) (t : Ty) (o : O) (e1 : Env) → FindsShown (Ok (y, t)) e w → ((rest : Owned → Outcome) → given w.at WrongType (mutex_of (kind_of t)) rest ≡ rest (owned_of o)) → ((go : Env → Outcome) → unless (is_some (slot_of e x)) at NameInScope (go (with_lock e y x (owned_of o))) ≡ go e1) → (go : Env → Outcome) → find_shown e w (lock_rule at e w x go) ≡ go e1
lock_found at e w x y t o e1 h content new go = h.1 (lock_rule at e w x go) ∙ content (λ o. unless (is_some (slot_of e x)) at NameInScope (go (with_lock e y x o))) ∙ new go

-- NODES

-- the block of a lock stands before its node and is ready
pub record IsLocked (a : Arena) (at of v : ℕ) : Type 0 where
  pub place_before : of < at
  pub place_sort : sort_of (meaning_at (meanings a) of).what ≡ place_s
  pub before : v < at
  pub ready : IsReady a v
  pub count : length (meaning_at (meanings a) of).nodes + length (meaning_at (meanings a) v).nodes + 1 ≤ length (meaning_at (meanings a) at).nodes

pub lock_parts : (a : Arena) (at of name v : ℕ) (n : Node) → IsHere a at n → n.term ≡ Lock of name v → IsReady a at → IsLocked a at of v
lock_parts a at of name v n h is ready =
    let below = subst (AreBelow (meanings a) at) (ap needs is) h.parts in
    record {
      place_before = below.0;
      place_sort = below.1;
      before = below.2.0;
      ready = value_part a at of v n h (ap needs is) ready;
      count = two_count a at of v place_s n h (ap needs is);
    }

pub lock_here : (a : Arena) (at of name v : ℕ) (n : Node) → IsHere a at n → n.term ≡ Lock of name v → term_at (meanings a) at ≡ lock_t n.place (place_at (meanings a) of) (text_of a.names name) (term_at (meanings a) v)
lock_here a at of name v n h is = term_here a at n (lock_t n.place (place_at (meanings a) of) (text_of a.names name) (term_at (meanings a) v)) h (ap (stands_for a.names (meanings a) n.place) is)

-- ANSWERS

-- a lock's mutex isn't found, or its content has no slot
pub lock_fails : (t b : terms.Term) (at : ℕ) (w : Spot) (x : Text) (error : CheckError) (e e1 e2 : Env) → t ≡ lock_t at w x b → GoesTo {A = Unit {0}} (Err error) (λ (go : Env → Outcome). find_shown e w (lock_rule at e w x go)) e1 → Gives (Err error) (typing t e) e2
lock_fails t b at w x (Fault p r) e e1 e2 is fails = ap (λ u. typing u e) is ∙ fails (λ e1. then_typed (typing b e1) (unlock_rule at (start_of b) (length e)))
lock_fails t b at w x NoMemory e e1 e2 is fails = tt

lock_goes : (t b : terms.Term) (at : ℕ) (w : Spot) (x : Text) (e e1 : Env) → t ≡ lock_t at w x b → ((go : Env → Outcome) → find_shown e w (lock_rule at e w x go) ≡ go e1) → typing t e ≡ then_typed (typing b e1) (unlock_rule at (start_of b) (length e))
lock_goes t b at w x e e1 is goes = ap (λ u. typing u e) is ∙ goes (λ e1. then_typed (typing b e1) (unlock_rule at (start_of b) (length e)))

-- its block has a fault
pub lock_body_fails : (t b : terms.Term) (at : ℕ) (w : Spot) (x : Text) (error : CheckError) (e e1 e2 e3 : Env) → t ≡ lock_t at w x b → ((go : Env → Outcome) → find_shown e w (lock_rule at e w x go) ≡ go e1) → Gives (Err error) (typing b e1) e2 → Gives (Err error) (typing t e) e3
lock_body_fails t b at w x (Fault p r) e e1 e2 e3 is goes fails = lock_goes t b at w x e e1 is goes ∙ ap (λ o. then_typed o (unlock_rule at (start_of b) (length e))) fails
lock_body_fails t b at w x NoMemory e e1 e2 e3 is goes fails = tt

-- and the end
pub lock_gives : (t b : terms.Term) (at : ℕ) (w : Spot) (x : Text) (result : Result Ty CheckError) (k : Kind) (base start : ℕ) (e e1 e2 e3 : Env) → t ≡ lock_t at w x b → ((go : Env → Outcome) → find_shown e w (lock_rule at e w x go) ≡ go e1) → typing b e1 ≡ typed k e2 → base ≡ length e → start ≡ start_of b → Gives result (unlock_rule at start base k e2) e3 → Gives result (typing t e) e3
lock_gives t b at w x result k base start e e1 e2 e3 is goes types same begins gives =
    subst (λ o. Gives result o e3)
    (sym (lock_goes t b at w x e e1 is goes ∙ ap (λ o. then_typed o (unlock_rule at (start_of b) (length e))) types ∙ ap (λ n. unlock_rule at (start_of b) n k e2) (sym same) ∙ ap (λ n. unlock_rule at n base k e2) (sym begins)))
    gives

-- USAGES

pub lock_used : (a : Arena) (at of name v : ℕ) (n : Node) (e e1 : Env) (old mid new : List Usage) → IsHere a at n → n.term ≡ Lock of name v → (meaning_at (meanings a) of).nodes ≡ of ∷ [] → at < length old → of < at → ((go : Env → Outcome) → find_shown e (place_at (meanings a) of) (lock_rule n.place e (place_at (meanings a) of) (text_of a.names name) go) ≡ go e1) → mid ≡ write old of (Some (usage_of e (place_at (meanings a) of) false)) → AreWritten mid new (meaning_at (meanings a) v).nodes (usages_of (term_at (meanings a) v) e1) → AreWritten old new (meaning_at (meanings a) at).nodes (usages_of (term_at (meanings a) at) e)
lock_used a at of name v n e e1 old mid new h is place lt before goes wrote part =
    let w = place_at (meanings a) of in
    let b = term_at (meanings a) v in
    let inner = (meaning_at (meanings a) v).nodes in
    let u = usage_of e w false in
    let locked : env_locked n.place e w (text_of a.names name) ≡ e1 = ap env_after (goes (λ f. typed (own unit) f)) in
    let nodes : (meaning_at (meanings a) at).nodes ≡ (of ∷ inner) ++ at ∷ [] =
    h.nodes ∙ ap (λ l. nodes_in (meanings a) l ++ at ∷ []) (ap needs is) ∙ ap (λ l. (l ++ (inner ++ [])) ++ at ∷ []) place ∙ ap (λ l. (of ∷ l) ++ at ∷ []) (append-nil inner) in
    let first : AreWritten old mid (of ∷ []) (Some u ∷ []) = record { same = wrote; each = refl; within = (omega (arith, lt, before), tt) } in
    subst (λ t. AreWritten old new (meaning_at (meanings a) at).nodes (usages_of t e)) (sym (lock_here a at of name v n h is))
    (subst (λ f. AreWritten old new (meaning_at (meanings a) at).nodes (Some u ∷ usages_of b f ++ None ∷ [])) (sym locked)
    (subst (λ l. AreWritten old new l (Some u ∷ usages_of b e1 ++ None ∷ [])) (sym nodes)
    (written_node old new (of ∷ inner) (Some u ∷ usages_of b e1) at (written_both old mid new (of ∷ []) inner (Some u ∷ []) (usages_of b e1) first part) lt)))
