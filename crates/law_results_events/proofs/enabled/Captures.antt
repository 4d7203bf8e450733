-- What a spawn captures is there: each variable has an owned value of its type, and after a move the slots have the forms of the environment that is left.
use Rattle.std.proofs.Common.{◌≡◌, ℕ, zero, suc, ◌<◌, ◌==◌, Bool, true, false, if◌then◌else◌, List, [], ◌∷◌, ◌++◌, length, reverse, Option, Some, None, is_some, not, refl, sym, ap, subst, ◌∙◌, arith}
use Rattle.std.specs.Prelude.{slice_get, slice_set}
use Rattle.std.proofs.lemmas.Grind.{reverse_onto}
use Rattle.law_results_events.proofs.Below.fr_typing.PlaceLemmas.{eq_cases}
use Rattle.law_results_events.specs.Below.fr_terms.Terms.{Text}
use Rattle.law_results_events.specs.Below.fr_typing.Kinds.{Owned as OwnedType, Kind, own, shared, mutable, view, whole, gone, copies}
use Rattle.law_results_events.specs.Below.fr_typing.Places.{Env, found, type_at, same_name, slot_of, put_at}
use Rattle.law_results_events.specs.Below.fr_typing.Captures.{by_spawn, captured_kind, captures_copy, captures_move}
use Rattle.law_results_events.specs.Below.fr_code.CodeTypes.{is_variable, SlotPasses, passes, SlotsPass, pass_none, pass_next}
use Rattle.law_results_events.specs.Below.thread_state.declared.value.Value.{Value}
use Rattle.law_results_events.specs.Below.thread_state.declared.value.Value.TheVariants as value
use Rattle.law_results_events.specs.Below.server_model.Work.{then_some}
use Rattle.law_results_events.specs.Below.server_model.Start.{captured, left_after, capture_from}
use Rattle.law_results_events.specs.Below.coherent_memory.Names.{other}
use Rattle.law_results_events.specs.Below.coherent_types.Names.{NameTypes}
use Rattle.law_results_events.specs.Below.coherent_types.ClusterTypes.{slot_form, slots_wrong}
use Rattle.law_results_events.proofs.Below.law_words_paths.paths.Shown.{length_one_more}
use Rattle.law_results_events.proofs.Below.law_words_paths.paths.Sole.{some_is}
use Rattle.law_results_events.proofs.Below.law_results_reads.Operands.{owned_form, second_form, stands}

-- A SLOT THAT IS SET, FROM BEHIND

abbrev pub set_behind : {A : Type 0} → List A → ℕ → A → List A
set_behind [] i v = []
set_behind (x ∷ xs) i v = if i == length xs then v ∷ xs else x ∷ set_behind xs i v

set_zero : {A : Type 0} (ys : List A) (x v : A) → set_behind (ys ++ x ∷ []) 0 v ≡ ys ++ v ∷ []
set_zero [] x v = refl
set_zero (y ∷ ys) x v =
    eq_cases (λ b. (if b then v ∷ (ys ++ x ∷ []) else y ∷ set_behind (ys ++ x ∷ []) 0 v) ≡ y ∷ (ys ++ v ∷ [])) 0 (length (ys ++ x ∷ []))
    (λ e. absurd (omega (arith, e, length_one_more ys x))) (λ ne. ap (λ zs. y ∷ zs) (set_zero ys x v))

set_suc : {A : Type 0} (ys : List A) (x v : A) (i : ℕ) → set_behind (ys ++ x ∷ []) (suc i) v ≡ set_behind ys i v ++ x ∷ []
set_suc [] x v i = eq_cases (λ b. (if b then v ∷ [] else x ∷ []) ≡ x ∷ []) (suc i) 0 (λ e. absurd (omega (arith, e))) (λ ne. refl)
set_suc (y ∷ ys) x v i =
    eq_cases (λ b. (if b then v ∷ (ys ++ x ∷ []) else y ∷ set_behind (ys ++ x ∷ []) (suc i) v) ≡ set_behind (y ∷ ys) i v ++ x ∷ []) (suc i) (length (ys ++ x ∷ []))
    (λ e. eq_cases (λ b. v ∷ (ys ++ x ∷ []) ≡ (if b then v ∷ ys else y ∷ set_behind ys i v) ++ x ∷ []) i (length ys) (λ q. refl) (λ ne. absurd (ne (omega (arith, e, length_one_more ys x)))))
    (λ ne. eq_cases (λ b. y ∷ set_behind (ys ++ x ∷ []) (suc i) v ≡ (if b then v ∷ ys else y ∷ set_behind ys i v) ++ x ∷ []) i (length ys) (λ q. absurd (ne (omega (arith, q, length_one_more ys x)))) (λ n2. ap (λ zs. y ∷ zs) (set_suc ys x v i)))

pub set_is : {A : Type 0} (xs : List A) (i : ℕ) (v : A) → reverse (slice_set xs i v) ≡ set_behind (reverse xs) i v
set_is [] i v = refl
set_is (x ∷ xs) zero v = reverse_onto xs v [] ∙ sym (set_zero (reverse xs) x v) ∙ ap (λ l. set_behind l 0 v) (sym (reverse_onto xs x []))
set_is (x ∷ xs) (suc i) v =
    reverse_onto (slice_set xs i v) x [] ∙ ap (λ l. l ++ x ∷ []) (set_is xs i v) ∙ sym (set_suc (reverse xs) x v i) ∙ ap (λ l. set_behind l (suc i) v) (sym (reverse_onto xs x []))

-- FORMS

same_length : (n : NameTypes) (e : Env) (vs : List Value) → slots_wrong n e vs ≡ 0 → length e ≡ length vs
same_length n [] [] z = refl
same_length n [] (v ∷ vs) z = absurd (cc z)
same_length n (s ∷ e) [] z = absurd (cc z)
same_length n (s ∷ e) (v ∷ vs) z = ap suc (same_length n e vs (omega (arith, z)))

-- what is moved out of a variable leaves it gone
pub gone_fits : (n : NameTypes) (e : Env) (ws : List Value) (i : ℕ) (k : Kind) → is_variable e i ≡ true → slots_wrong n e ws ≡ 0 → slots_wrong n (put_at e (record { slot = i; depth = 0 }) (gone k)) (set_behind ws i value.Gone) ≡ 0
gone_fits n [] ws i k named z = absurd (cc named)
gone_fits n (s ∷ e) [] i k named z = absurd (cc z)
gone_fits n (s ∷ e) (w ∷ ws) i k named z =
    subst (λ m. slots_wrong n (put_at (s ∷ e) (record { slot = i; depth = 0 }) (gone k)) (if i == m then value.Gone ∷ ws else w ∷ set_behind ws i value.Gone) ≡ 0) (same_length n e ws (omega (arith, z)))
    (eq_cases (λ b. (if b then is_some s.name else is_variable e i) ≡ true → slots_wrong n (if b then record s { part = gone k } ∷ e else s ∷ put_at e (record { slot = i; depth = 0 }) (gone k)) (if b then value.Gone ∷ ws else w ∷ set_behind ws i value.Gone) ≡ 0) i (length e)
    (λ q name. let first : other (slot_form n (record s { part = gone k }) (is_some s.name) value.Gone) ≡ 0 = subst (λ b. other (slot_form n (record s { part = gone k }) b value.Gone) ≡ 0) (sym name) refl in omega (arith, z, first))
    (λ ne name. omega (arith, z, gone_fits n e ws i k name (omega (arith, z))))
    named)

-- NAMES

has_name : (o : Option Text) (x : Text) → same_name o x ≡ true → is_some o ≡ true
has_name None x e = absurd (cc e)
has_name (Some y) x e = refl

pub slot_below : (e : Env) (x : Text) (i : ℕ) → slot_of e x ≡ Some i → i < length e
slot_below [] x i q = absurd (cc q)
slot_below (s ∷ e) x i q = by (same_name s.name x) q (λ q2. slot_below e x i q2)
  where
    by : (b : Bool) → (if b then Some (length e) else slot_of e x) ≡ Some i → (slot_of e x ≡ Some i → i < length e) → i < suc (length e)
    by true q2 go = let same : length e ≡ i = some_is q2 in omega (arith, same)
    by false q2 go = omega (arith, go q2)

pub named_variable : (e : Env) (x : Text) (i : ℕ) → slot_of e x ≡ Some i → is_variable e i ≡ true
named_variable [] x i q = absurd (cc q)
named_variable (s ∷ e) x i q = by (same_name s.name x) refl q (λ q2. named_variable e x i q2)
  where
    by : (b : Bool) → same_name s.name x ≡ b → (if b then Some (length e) else slot_of e x) ≡ Some i → (slot_of e x ≡ Some i → is_variable e i ≡ true) → is_variable (s ∷ e) i ≡ true
    by true m q2 go = let same : length e ≡ i = some_is q2 in eq_cases (λ b. (if b then is_some s.name else is_variable e i) ≡ true) i (length e) (λ d. has_name s.name x m) (λ ne. absurd (ne (sym same)))
    by false m q2 go = eq_cases (λ b. (if b then is_some s.name else is_variable e i) ≡ true) i (length e) (λ d. absurd (omega (arith, d, slot_below e x i q2))) (λ ne. go q2)

-- CAPTURES

pub whole_is : {k l : Kind} → whole k ≡ whole l → k ≡ l
whole_is e = cc

-- a spawn captures what is owned
owned_alone : (e : Env) (k l : Kind) → captured_kind by_spawn e k ≡ Some l → (o : OwnedType) × (k ≡ own o) × (l ≡ own o)
owned_alone e (own o) l q = (o, refl, sym (some_is q))
owned_alone e (view o) l q = absurd (cc q)
owned_alone e (shared us) l q = absurd (cc q)
owned_alone e (mutable us) l q = absurd (cc q)

-- a captured value is there, and what is left has its forms
record Took (n : NameTypes) (e : Env) (x : ℕ × Bool) (slots : List Value) : Type 0 where
  item : Value
  there : slice_get slots x.0 ≡ Some item
  goes : Value
  taken : captured false x.1 item ≡ Some goes
  left : slots_wrong n e (reverse (left_after x.1 slots x.0)) ≡ 0

module _ (n : NameTypes) where
  took : (e e0 e1 e2 : Env) (x : ℕ × Bool) (slots : List Value) → SlotPasses by_spawn e e0 x e1 e2 → slots_wrong n e (reverse slots) ≡ 0 → Took n e1 x slots
  took e e0 _ _ _ slots (passes {i = i} {take = take} {k = k} c named (captures_copy {s = s} {k = k2} {l = l} may copied free fresh) part way) z =
      let o = owned_alone e k2 l may.becomes in
      let same_slot : s ≡ i = some_is (sym may.is.named ∙ named) in
      let place : type_at e (record { slot = i; depth = 0 }) ≡ found (whole (own o.0)) = subst (λ j. type_at e (record { slot = j; depth = 0 }) ≡ found (whole (own o.0))) same_slot (may.is.is ∙ ap (λ q. found (whole q)) o.1) in
      let v = stands n e slots i (whole (own o.0)) z (named_variable e c.name i named) place in
      let x = owned_form n o.0 v.item v.form in
      let copied2 : copies (own o.0) ≡ true = sym (ap copies o.1) ∙ copied in
      let two = second_form n (own o.0) v.item copied2 v.form in
      let stays : take ≡ false = way ∙ ap (λ q. not (copies q)) (sym (whole_is part) ∙ o.2) ∙ ap not copied2 in
      record {
        item = v.item;
        there = v.there;
        goes = two.0;
        taken = ap (λ b. captured false b v.item) stays ∙ ap (captured false false) x.1 ∙ sym (ap Rattle.law_results_events.specs.Below.server_model.Places.second_of x.1) ∙ two.1;
        left = subst (λ b. slots_wrong n e (reverse (left_after b slots i)) ≡ 0) (sym stays) z;
      }
  took e e0 _ _ _ slots (passes {i = i} {take = take} {k = k} c named (captures_move {s = s} {k = k2} {l = l} may moved free fresh) part way) z =
      let o = owned_alone e k2 l may.becomes in
      let same_slot : s ≡ i = some_is (sym may.is.named ∙ named) in
      let place : type_at e (record { slot = i; depth = 0 }) ≡ found (whole (own o.0)) = subst (λ j. type_at e (record { slot = j; depth = 0 }) ≡ found (whole (own o.0))) same_slot (may.is.is ∙ ap (λ q. found (whole q)) o.1) in
      let is_named = named_variable e c.name i named in
      let v = stands n e slots i (whole (own o.0)) z is_named place in
      let x = owned_form n o.0 v.item v.form in
      let goes : take ≡ true = way ∙ ap (λ q. not (copies q)) (sym (whole_is part) ∙ o.2 ∙ sym o.1) ∙ ap not moved in
      let after : slots_wrong n (put_at e (record { slot = i; depth = 0 }) (gone k2)) (reverse (slice_set slots i value.Gone)) ≡ 0 = ap (slots_wrong n (put_at e (record { slot = i; depth = 0 }) (gone k2))) (set_is slots i value.Gone) ∙ gone_fits n e (reverse slots) i k2 is_named z in
      record {
        item = v.item;
        there = v.there;
        goes = value.Own x.0;
        taken = ap (λ b. captured false b v.item) goes ∙ ap (captured false true) x.1;
        left =
            subst (λ b. slots_wrong n (put_at e (record { slot = s; depth = 0 }) (gone k2)) (reverse (left_after b slots i)) ≡ 0) (sym goes)
            (subst (λ j. slots_wrong n (put_at e (record { slot = j; depth = 0 }) (gone k2)) (reverse (slice_set slots i value.Gone)) ≡ 0) (sym same_slot) after);
      }

  pub takes_all : (e e0 e1 e2 : Env) (xs : List (ℕ × Bool)) (new slots : List Value) → SlotsPass by_spawn e e0 xs e1 e2 → slots_wrong n e (reverse slots) ≡ 0 → (r : List Value × List Value) × (capture_from false new xs slots ≡ Some r)
  takes_all e e0 _ _ _ new slots pass_none z = ((new, slots), refl)
  takes_all e e0 e2 n2 _ new slots (pass_next {e1 = e1} {n1 = n1} {x = x} {xs = xs} first rest) z =
      let t = took e e0 e1 n1 x slots first z in
      let r = takes_all e1 n1 e2 n2 xs (new ++ t.goes ∷ []) (left_after x.1 slots x.0) rest t.left in (
        r.0,
        ap (λ o. then_some o (λ v. then_some (captured false x.1 v) (λ u. capture_from false (new ++ u ∷ []) xs (left_after x.1 slots x.0)))) t.there
            ∙ ap (λ o. then_some o (λ u. capture_from false (new ++ u ∷ []) xs (left_after x.1 slots x.0))) t.taken ∙ r.1,
      )
