-- Each view is seen by the parent that it was seen by.
use Rattle.std.proofs.Common.{◌≡◌, ◌⊎◌, inl, inr, ℕ, zero, suc, ◌+◌, ◌==◌, ◌<◌, ◌≤◌, Bool, true, false, not, ◌&&◌, ◌||◌, List, [], ◌∷◌, length, reverse, map, Option, Some, None, refl, sym, ap, ap₂, ◌∙◌, arith}
use Rattle.std.proofs.lemmas.Bool.{eqb-true, eq-eqb}
use Rattle.law_heap_still.specs.Below.fr_base.declared.name.ObjNo.{ObjNo}
use Rattle.law_heap_still.specs.Below.fr_typing.Kinds.{Kind, own, shared, mutable, view, Piece, whole, gone, boxed}
use Rattle.law_heap_still.specs.Below.fr_typing.Places.{Slot}
use Rattle.law_heap_still.specs.Below.fr_code.CodeTypes.{Entry, Table}
use Rattle.law_heap_still.specs.Below.thread_state.View.{ThreadState, is_over}
use Rattle.law_heap_still.specs.Below.thread_state.declared.phase.Phase.{Phase}
use Rattle.law_heap_still.specs.Below.thread_state.declared.phase.Phase.TheVariants as phase
use Rattle.law_heap_still.specs.Below.thread_state.declared.value.Value.{Value}
use Rattle.law_heap_still.specs.Below.thread_state.declared.value.Value.TheVariants as value
use Rattle.law_heap_still.specs.Below.server_model.Servers.{Cluster}
use Rattle.law_heap_still.specs.Below.coherent_memory.Names.{tot, one, other, if_so, some, same_object, Among}
use Rattle.law_heap_still.specs.Below.coherent_memory.Things.{Thing, stands, things_of}
use Rattle.law_heap_still.specs.Below.coherent_memory.Follow.{Standing, threads_in}
use Rattle.law_heap_still.specs.Below.coherent_memory.Sight.{Sight, sight}
use Rattle.law_heap_still.specs.Below.coherent_memory.Balances.{AtMost, AtMostOne}
use Rattle.law_heap_still.specs.Below.coherent_memory.Weights.{is_thread}
use Rattle.law_heap_still.specs.Below.coherent_memory.Sharing.{got_phase, results, has_ended}
use Rattle.law_heap_still.specs.Below.coherent_memory.OneHeap.{two_in}
use Rattle.law_heap_still.specs.Below.coherent_types.ClusterTypes.{entry_wrong, refers_to, parent_sees, unseen, unseen_slots, unseen_temps, views_wrong}
use Rattle.law_heap_still.proofs.Below.law_counts_sums.KnownSound.{on_standing, sum_standing}
use Rattle.law_heap_still.proofs.events.Told.{at_most, tot_same}
use Rattle.law_heap_still.proofs.events.PlainValues.{shown_of}
use Rattle.law_heap_still.proofs.events.Alike.{HeedAlike}
use Rattle.law_types_still.proofs.threads.Bare.{bared, all_bared, bared_twice, reversed}
use Rattle.law_types_still.proofs.threads.Twins.{bare_standing, SeesFrames, over_shown, at_entry, same_sum}

-- WORDS AREN'T SEEN

refers_bare : (o : ObjNo) (vs : List Value) → refers_to o vs ≡ refers_to o (all_bared vs)
refers_bare o [] = refl
refers_bare o (value.Shared r ∷ vs) = ap (λ n. one (same_object r.object o) + n) (refers_bare o vs)
refers_bare o (value.Gone ∷ vs) = refers_bare o vs
refers_bare o (value.Own v ∷ vs) = refers_bare o vs
refers_bare o (value.SharedSlot i ∷ vs) = refers_bare o vs
refers_bare o (value.MutSlot i ∷ vs) = refers_bare o vs
refers_bare o (value.Mut r ∷ vs) = refers_bare o vs
refers_bare o (value.Held m ∷ vs) = refers_bare o vs

unseen_bare : (s : Sight) (t : ℕ) (p : Piece) (v : Value) → unseen s t p v ≡ unseen s t p (bared v)
unseen_bare s t (whole (view o)) value.Gone = refl
unseen_bare s t (whole (view o)) (value.Own v) = refl
unseen_bare s t (whole (view o)) (value.SharedSlot i) = refl
unseen_bare s t (whole (view o)) (value.MutSlot i) = refl
unseen_bare s t (whole (view o)) (value.Shared r) = refl
unseen_bare s t (whole (view o)) (value.Mut r) = refl
unseen_bare s t (whole (view o)) (value.Held m) = refl
unseen_bare s t (whole (own o)) v = refl
unseen_bare s t (whole (shared us)) v = refl
unseen_bare s t (whole (mutable us)) v = refl
unseen_bare s t (gone k) v = refl
unseen_bare s t (boxed p) v = refl

slots_unseen : (s : Sight) (t : ℕ) (e : List Slot) (vs : List Value) → unseen_slots s t e vs ≡ unseen_slots s t e (all_bared vs)
slots_unseen s t [] [] = refl
slots_unseen s t (x ∷ e) (v ∷ vs) = ap₂ (λ a b. a + b) (unseen_bare s t x.part v) (slots_unseen s t e vs)
slots_unseen s t [] (v ∷ vs) = refl
slots_unseen s t (x ∷ e) [] = refl

temps_unseen : (s : Sight) (t : ℕ) (ks : List Kind) (vs : List Value) → unseen_temps s t ks vs ≡ unseen_temps s t ks (all_bared vs)
temps_unseen s t [] [] = refl
temps_unseen s t (k ∷ ks) (v ∷ vs) = ap₂ (λ a b. a + b) (unseen_bare s t (whole k) v) (temps_unseen s t ks vs)
temps_unseen s t [] (v ∷ vs) = refl
temps_unseen s t (k ∷ ks) [] = refl

abbrev unseen_at : Sight → Standing → Entry → ℕ
unseen_at s x y = unseen_slots s x.thread.number y.env (reverse x.thread.slots) + unseen_temps s x.thread.number y.temps (reverse x.thread.temps)

views_see : (s : Sight) (y : Entry) → SeesFrames (λ x. unseen_at s x y)
views_see s y x =
    let t = x.thread.number in
    ap₂ (λ a b. a + b) (slots_unseen s t y.env (reverse x.thread.slots) ∙ ap (unseen_slots s t y.env) (reversed x.thread.slots ∙ ap reverse (sym (bared_twice x.thread.slots))))
    (temps_unseen s t y.temps (reverse x.thread.temps) ∙ ap (unseen_temps s t y.temps) (reversed x.thread.temps ∙ ap reverse (sym (bared_twice x.thread.temps))))

-- WHOEVER WAITS FOR A PAIR, OR HAS IT

abbrev in_two : ℕ → Option (ℕ × ℕ) → Bool
in_two t None = false
in_two t (Some p) = (p.0 == t) || (p.1 == t)

-- the parent of the thread refers to the object
abbrev refers : ℕ → ObjNo → Standing → ℕ
refers t o x = if_so (in_two t (two_in x.thread.phase)) (refers_to o x.thread.slots)

abbrev in_phase : Standing → Phase → Standing
in_phase x p = record x { thread = record x.thread { phase = p } }

pair_shown : (t : ℕ) (x : Standing) → in_two t (two_in x.thread.phase) ≡ in_two t (two_in (bare_standing (shown_of x)).thread.phase)
pair_shown t x = by x.thread.phase
  where
    by : (p : Phase) → in_two t (two_in p) ≡ in_two t (two_in (bare_standing (shown_of (in_phase x p))).thread.phase)
    by phase.Ready = refl
    by (phase.WaitCell w) = refl
    by phase.Got = refl
    by (phase.Taken w) = refl
    by (phase.WaitLock m) = refl
    by (phase.WaitDup m) = refl
    by (phase.WaitJoin u) = refl
    by (phase.WaitPar a b) = refl
    by (phase.GotPar a b) = refl
    by phase.Over = refl

refers_sees : (t : ℕ) (o : ObjNo) → SeesFrames (refers t o)
refers_sees t o x = ap₂ if_so (pair_shown t x) (refers_bare o x.thread.slots ∙ ap (refers_to o) (sym (bared_twice x.thread.slots)))

-- it waits, or has the thread's result
refers_parts : (t : ℕ) (o : ObjNo) (x : Standing) → got_phase t x.thread.phase ≡ 0 → refers t o x ≡ parent_sees t o x
refers_parts t o x none = by x.thread.phase none
  where
    got : (a b : ℕ) → one (a == t) + one (b == t) ≡ 0 → ((a == t) || (b == t)) ≡ false
    got a b e = both (a == t) (b == t) e
      where
        both : (p q : Bool) → one p + one q ≡ 0 → (p || q) ≡ false
        both true q e = absurd (omega (arith, e))
        both false true e = absurd (omega (arith, e))
        both false false e = refl

    by : (p : Phase) → got_phase t p ≡ 0 → refers t o (in_phase x p) ≡ parent_sees t o (in_phase x p)
    by (phase.GotPar a b) e = ap (λ q. if_so q (refers_to o x.thread.slots)) (got a b e)
    by (phase.WaitPar a b) e = refl
    by phase.Ready e = refl
    by (phase.WaitCell w) e = refl
    by phase.Got e = refl
    by (phase.Taken w) e = refl
    by (phase.WaitLock m) e = refl
    by (phase.WaitDup m) e = refl
    by (phase.WaitJoin u) e = refl
    by phase.Over e = refl

-- who waits is a parent
sees_less : (t : ℕ) (o : ObjNo) (x : Standing) → parent_sees t o x ≤ refers t o x
sees_less t o x = by x.thread.phase
  where
    by : (p : Phase) → parent_sees t o (in_phase x p) ≤ refers t o (in_phase x p)
    by (phase.GotPar a b) = omega arith
    by (phase.WaitPar a b) = omega arith
    by phase.Ready = omega arith
    by (phase.WaitCell w) = omega arith
    by phase.Got = omega arith
    by (phase.Taken w) = omega arith
    by (phase.WaitLock m) = omega arith
    by (phase.WaitDup m) = omega arith
    by (phase.WaitJoin u) = omega arith
    by phase.Over = omega arith

-- SUMS

sum_less : (f g : Standing → ℕ) → ((x : Standing) → f x ≤ g x) → (xs : List Standing) → tot f xs ≤ tot g xs
sum_less f g e [] = omega arith
sum_less f g e (x ∷ xs) = omega (arith, e x, sum_less f g e xs)

-- one thread more
one_less : (f g : Standing → ℕ) → ((x : Standing) → f x ≤ g x) → (x : Standing) (xs : List Standing) → Among x xs → f x ≡ 0 → g x ≡ 1 → tot f xs + 1 ≤ tot g xs
one_less f g e x [] a z o = absurd a
one_less f g e x (y ∷ ys) (inl same) z o = omega (arith, sum_less f g e ys, ap f same ∙ z, ap g same ∙ o)
one_less f g e x (y ∷ ys) (inr a) z o = omega (arith, one_less f g e x ys a z o, e y)

abbrev named_so : ℕ → Standing → ℕ
named_so t x = one (x.thread.number == t)

abbrev ended_so : ℕ → Standing → ℕ
ended_so t x = one (x.thread.number == t && (not (x.thread.number == 0) && is_over x.thread.phase))

ended_less : (t : ℕ) (x : Standing) → ended_so t x ≤ named_so t x
ended_less t x = by (x.thread.number == t) (not (x.thread.number == 0) && is_over x.thread.phase)
  where
    by : (p q : Bool) → one (p && q) ≤ one p
    by true true = omega arith
    by true false = omega arith
    by false q = omega arith

ended_sees : (t : ℕ) → SeesFrames (ended_so t)
ended_sees t x = ap (λ q. one (x.thread.number == t && (not (x.thread.number == 0) && q))) (sym (over_shown x.thread.phase))

some_more : (m n : ℕ) → m ≤ n → some m ≡ true → some n ≡ true
some_more zero n le e = absurd (cc e)
some_more (suc m) zero le e = absurd (omega (arith, le))
some_more (suc m) (suc n) le e = refl

-- where each thread of which a first sum says nothing is one of which a second one says nothing
pub all_none : (f g : Standing → ℕ) (xs : List Standing) → ((x : Standing) → Among x xs → f x ≡ 0 → g x ≡ 0) → tot f xs ≡ 0 → tot g xs ≡ 0
all_none f g [] h z = refl
all_none f g (x ∷ xs) h z = omega (arith, h x (inl refl) (omega (arith, z)), all_none f g xs (λ y a e. h y (inr a) e) (omega (arith, z)))

same_where : (f g : Standing → ℕ) (none : Standing → ℕ) → ((x : Standing) → none x ≡ 0 → f x ≡ g x) → (xs : List Standing) → tot none xs ≡ 0 → tot f xs ≡ tot g xs
same_where f g none e [] z = refl
same_where f g none e (x ∷ xs) z = ap₂ (λ m n. m + n) (e x (omega (arith, z))) (same_where f g none e xs (omega (arith, z)))

-- TWO CLUSTERS

module _ (k z : Cluster) (seen : ObjNo → Bool) (alike : HeedAlike seen (sight k) (things_of k) (things_of z)) (results_once : AtMost (results (sight z)) has_ended (things_of z)) (numbers_differ : AtMostOne is_thread (things_of k)) where
  abbrev before : List Standing
  before = threads_in (things_of k)

  abbrev after : List Standing
  after = threads_in (things_of z)

  named_is : (t : ℕ) (x : Thing) → on_standing (named_so t) x ≡ is_thread t x
  named_is t (stands r p x) = refl
  named_is t _ = refl

  ended_is : (t : ℕ) (x : Thing) → on_standing (ended_so t) x ≡ has_ended t x
  ended_is t (stands r p x) = refl
  ended_is t _ = refl

  got_is : (t : ℕ) (x : Thing) → on_standing (λ y. got_phase t y.thread.phase) x ≤ results (sight z) t x
  got_is t (stands r p x) = omega arith
  got_is t _ = omega arith

  -- no parent has the result of a thread that goes on
  none_got : (x : Standing) → Among x before → is_over x.thread.phase ≡ false → tot (λ (y : Standing). got_phase x.thread.number y.thread.phase) after ≡ 0
  none_got x a going =
      let t = x.thread.number in
      let off : ended_so t x ≡ 0 = ap (λ q. one (t == t && (not (t == 0) && q))) going ∙ nothing (t == t) (not (t == 0)) in
      let on : named_so t x ≡ 1 = ap one (eq-eqb t t refl) in
      let one_more = one_less (ended_so t) (named_so t) (ended_less t) x before a off on in
      let named = sym (tot_same (on_standing (named_so t)) (is_thread t) (named_is t) (things_of k)) ∙ sum_standing (named_so t) (things_of k) in
      let ended = sym (sum_standing (ended_so t) (things_of z)) ∙ tot_same (on_standing (ended_so t)) (has_ended t) (ended_is t) (things_of z) in
      omega (
        arith,
        one_more,
        named,
        numbers_differ t,
        same_sum k z seen alike (ended_so t) (ended_sees t),
        ended,
        results_once t,
        at_most (on_standing (λ y. got_phase t y.thread.phase)) (results (sight z) t) (got_is t) (things_of z),
        sum_standing (λ y. got_phase t y.thread.phase) (things_of z),
      )
    where
      nothing : (p q : Bool) → one (p && (q && false)) ≡ 0
      nothing true true = refl
      nothing true false = refl
      nothing false q = refl

  -- so whoever saw what it views sees it
  sees_on : (x : Standing) (o : ObjNo) → Among x before → is_over x.thread.phase ≡ false → some (tot (parent_sees x.thread.number o) before) ≡ true → some (tot (parent_sees x.thread.number o) after) ≡ true
  sees_on x o a going e =
      let t = x.thread.number in
      let there = same_where (refers t o) (parent_sees t o) (λ y. got_phase t y.thread.phase) (λ y none. refers_parts t o y none) after (none_got x a going) in
      let more : tot (parent_sees t o) before ≤ tot (parent_sees t o) after = omega (arith, there, same_sum k z seen alike (refers t o) (refers_sees t o), sum_less (parent_sees t o) (refers t o) (sees_less t o) before) in
      some_more (tot (parent_sees t o) before) (tot (parent_sees t o) after) more e

  module _ (x : Standing) (a : Among x before) (going : is_over x.thread.phase ≡ false) where
    abbrev t : ℕ
    t = x.thread.number

    seen_on : (p q : Bool) → (p ≡ true → q ≡ true) → other p ≡ 0 → other q ≡ 0
    seen_on true q h e = ap other (h refl)
    seen_on false q h e = absurd (cc e)

    one_on : (p : Piece) (v : Value) → unseen (sight k) t p v ≡ 0 → unseen (sight z) t p v ≡ 0
    one_on (whole (view o)) (value.Shared r) e = seen_on (some (tot (parent_sees t r.object) before)) (some (tot (parent_sees t r.object) after)) (sees_on x r.object a going) e
    one_on (whole (view o)) value.Gone e = refl
    one_on (whole (view o)) (value.Own v) e = refl
    one_on (whole (view o)) (value.SharedSlot i) e = refl
    one_on (whole (view o)) (value.MutSlot i) e = refl
    one_on (whole (view o)) (value.Mut r) e = refl
    one_on (whole (view o)) (value.Held m) e = refl
    one_on (whole (own o)) v e = refl
    one_on (whole (shared us)) v e = refl
    one_on (whole (mutable us)) v e = refl
    one_on (gone k) v e = refl
    one_on (boxed p) v e = refl

    slots_on : (e : List Slot) (vs : List Value) → unseen_slots (sight k) t e vs ≡ 0 → unseen_slots (sight z) t e vs ≡ 0
    slots_on [] [] n = refl
    slots_on [] (v ∷ vs) n = refl
    slots_on (y ∷ e) [] n = refl
    slots_on (y ∷ e) (v ∷ vs) n = omega (arith, one_on y.part v (omega (arith, n)), slots_on e vs (omega (arith, n)))

    temps_on : (ks : List Kind) (vs : List Value) → unseen_temps (sight k) t ks vs ≡ 0 → unseen_temps (sight z) t ks vs ≡ 0
    temps_on [] [] n = refl
    temps_on [] (v ∷ vs) n = refl
    temps_on (y ∷ ks) [] n = refl
    temps_on (y ∷ ks) (v ∷ vs) n = omega (arith, one_on (whole y) v (omega (arith, n)), temps_on ks vs (omega (arith, n)))

    entry_on : (y : Option Entry) → entry_wrong (unseen_at (sight k) x) y ≡ 0 → entry_wrong (unseen_at (sight z) x) y ≡ 0
    entry_on None n = absurd (cc n)
    entry_on (Some y) n = omega (arith, slots_on y.env (reverse x.thread.slots) (omega (arith, n)), temps_on y.temps (reverse x.thread.temps) (omega (arith, n)))

  abbrev at : Table → Sight → Standing → ℕ
  at table s x = if_so (not (is_over x.thread.phase)) (entry_wrong (unseen_at s x) (table x.thread.pc))

  thread_on : (table : Table) (x : Standing) → Among x before → at table (sight k) x ≡ 0 → at table (sight z) x ≡ 0
  thread_on table x a n = by (is_over x.thread.phase) refl n
    where
      by : (q : Bool) → is_over x.thread.phase ≡ q → if_so (not q) (entry_wrong (unseen_at (sight k) x) (table x.thread.pc)) ≡ 0 → if_so (not (is_over x.thread.phase)) (entry_wrong (unseen_at (sight z) x) (table x.thread.pc)) ≡ 0
      by true e n = ap (λ q. if_so (not q) (entry_wrong (unseen_at (sight z) x) (table x.thread.pc))) e
      by false e n = ap (λ q. if_so (not q) (entry_wrong (unseen_at (sight z) x) (table x.thread.pc))) e ∙ entry_on x a e (table x.thread.pc) n

  pub views_on : (table : Table) → views_wrong table (sight k) ≡ 0 → views_wrong table (sight z) ≡ 0
  views_on table n =
      same_sum k z seen alike (at table (sight z)) (at_entry k z seen alike table (unseen_at (sight z)) (views_see (sight z))) ∙ all_none (at table (sight k)) (at table (sight z)) before (thread_on table) n
