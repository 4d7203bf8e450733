-- A thread assigns to a cell, and what was there is in hand: the object stays in the state, and what is known of the others for the drop.
use Rattle.std.proofs.Common.{◌≡◌, ◌⊎◌, inl, inr, ℕ, suc, ◌+◌, ◌<◌, ◌≤◌, ◌==◌, ◌&&◌, ◌||◌, not, Bool, true, false, List, [], ◌∷◌, ◌++◌, Option, Some, None, refl, sym, ap, ap₂, ◌∙◌, subst, arith}
use Rattle.law_heap_writes.specs.Below.fr_base.declared.name.ObjNo.{ObjNo}
use Rattle.law_heap_writes.specs.Below.fr_base.declared.instruction.Instr.{Instr}
use Rattle.law_heap_writes.specs.Below.heap_partition.declared.value.Cell.{Cell}
use Rattle.law_heap_writes.specs.Below.heap_partition.declared.value.Owned.{Owned}
use Rattle.law_heap_writes.specs.Below.heap_partition.declared.value.Owned.TheVariants as owned
use Rattle.law_heap_writes.specs.Below.thread_state.View.{ThreadState}
use Rattle.law_heap_writes.specs.Below.thread_state.declared.value.Value.TheVariants as value
use Rattle.law_heap_writes.specs.Below.server_model.declared.event.Event.{Event}
use Rattle.law_heap_writes.specs.Below.server_model.Servers.{Server, Cluster}
use Rattle.law_heap_writes.specs.Below.server_model.Work.{look}
use Rattle.law_heap_writes.specs.Below.coherent_memory.Names.{tot, one, some, if_so, same_object}
use Rattle.law_heap_writes.specs.Below.coherent_memory.Things.{Thing, holds, stands, things_of}
use Rattle.law_heap_writes.specs.Below.coherent_memory.Follow.{cell_of}
use Rattle.law_heap_writes.specs.Below.coherent_memory.Sight.{Sight, sight}
use Rattle.law_heap_writes.specs.Below.coherent_memory.Requests.{home_of, is_par_end}
use Rattle.law_heap_writes.specs.Below.coherent_memory.Naming.{count_of, started_at}
use Rattle.law_heap_writes.specs.Below.coherent_memory.OneHeap.{Node, object_n, mutex_n, task_n, inside, owner_of, owns, names, named_in, any_named, is_in_state, is_given_thread, Owner, a_thread, outside, same_node}
use Rattle.law_heap_writes.specs.Below.coherent_memory.Coherent.{IsSound}
use Rattle.law_heap_writes.proofs.Below.law_counts_sums.Bags.{had_by}
use Rattle.law_heap_writes.proofs.Below.law_counts_sums.Trades.{tot-append}
use Rattle.law_heap_writes.specs.Below.law_words_paths.paths.HeapStore.{HasPaths, GoesOn}
use Rattle.law_words_writes.specs.Below.law_heap_still.events.Shows.{held_branch}
use Rattle.law_words_writes.proofs.Below.law_heap_still.events.Alike.{Once, LocksSeeIn}
use Rattle.law_words_writes.proofs.Below.law_heap_still.events.Counting.{stray}
use Rattle.law_heap_writes.proofs.Below.law_heap_steps.turns.Parts.{Own, owned_in, own_named}
use Rattle.law_heap_writes.proofs.Below.law_heap_steps.turns.OneTurn.{Calm}
use Rattle.law_heap_writes.proofs.Below.law_heap_steps.turns.Events.{AtStep}
use Rattle.law_heap_writes.proofs.Below.law_heap_steps.mutexes.Reach.{SameOwners, or_right, closes, here}
use Rattle.law_heap_writes.proofs.Below.law_heap_steps.mutexes.Beside.{giftless, mine, tot_of}
use Rattle.law_heap_writes.proofs.Below.law_heap_steps.mutexes.OneThread as one_thread
use Rattle.law_heap_writes.proofs.Below.law_heap_steps.mutexes.OneNode.{there_some, owned_under}
use Rattle.law_heap_writes.proofs.Below.law_heap_steps.mutexes.Places.{slot_owned}
use Rattle.law_heap_writes.proofs.Below.law_heap_steps.turns.Parts.{any_both}
use Rattle.law_heap_writes.proofs.drops.InHand as held
use Rattle.law_heap_writes.proofs.drops.InHand.{named_there}
use Rattle.law_heap_writes.proofs.drops.Under.{owned_by, under_names, once_under, none_so, node_cases, node_is}
use Rattle.law_heap_writes.proofs.drops.Carrying.{is_sole, Others, KnownTask}
use Rattle.law_heap_writes.proofs.drops.Soundly.{names_it, sole_owner, no_branch, given_owned, rank, unfallen_at, all_fall, falls_under, silent_of}
use Rattle.law_heap_writes.proofs.drops.BoxOpens.{box_only}
use Rattle.law_heap_writes.proofs.drops.ShareFalls.{mutex_only}
use Rattle.law_heap_writes.proofs.drops.TaskFalls.{task_only}
use Rattle.law_heap_writes.proofs.writes.CellApart as apart
use Rattle.law_heap_writes.proofs.writes.CellChange as change
use Rattle.law_heap_writes.proofs.writes.Chains.{Chain, in_slot, in_cell, on_chain, ends_on, Owned_by, by_slot, by_cell, owned_on, cell_names}

-- what stands under the one node doesn't stand under the other
under_apart : (s : Sight) (p r q : Node) → (p ≡ r → ⊥) → (xs : List Thing) → tot (under_names s p q) xs + tot (under_names s r q) xs ≤ tot (names_it q) xs
under_apart s p r q ne [] = omega arith
under_apart s p r q ne (th ∷ xs) = omega (arith, by (names q th) (owner_of s th), under_apart s p r q ne xs)
  where
    of : (n : Node) → one (same_node n p) + one (same_node n r) ≤ 1
    of n = node_cases (λ b. one b + one (same_node n r) ≤ 1) n p (λ e. node_cases (λ b. 1 + one b ≤ 1) n r (λ f. absurd (ne (sym e ∙ f))) (λ _. omega arith)) (λ _. node_cases (λ b. 0 + one b ≤ 1) n r (λ _. omega arith) (λ _. omega arith))

    by : (b : Bool) (o : Owner) → if_so b (one (owned_by p o)) + if_so b (one (owned_by r o)) ≤ one b
    by false o = omega arith
    by true (inside n) = of n
    by true a_thread = omega arith
    by true outside = omega arith

-- what stands under a node and names another one names that
under_few : (s : Sight) (p q : Node) (xs : List Thing) → tot (under_names s p q) xs ≤ tot (names_it q) xs
under_few s p q [] = omega arith
under_few s p q (th ∷ xs) = omega (arith, by (names q th) (owned_by p (owner_of s th)), under_few s p q xs)
  where
    by : (b d : Bool) → if_so b (one d) ≤ one b
    by false d = omega arith
    by true true = omega arith
    by true false = omega arith

-- the rank of what a value owns
abbrev top : (Node → ℕ) → Owned → ℕ
top r (owned.Box b) = r (object_n b.object)
top r (owned.Mutex m) = r (mutex_n m)
top r (owned.Task u) = r (task_n u)
top r v = 0

at_top : (r : Node → ℕ) (q : Node) (v : Owned) → owns q v ≡ true → r q ≤ top r v
at_top r q (owned.Box b) e = omega (arith, ap r (box_only b q e))
at_top r q (owned.Mutex m) e = omega (arith, ap r (mutex_only m q e))
at_top r q (owned.Task u) e = omega (arith, ap r (task_only u q e))
at_top r (object_n o) owned.Nothing e = absurd (cc e)
at_top r (mutex_n o) owned.Nothing e = absurd (cc e)
at_top r (task_n o) owned.Nothing e = absurd (cc e)
at_top r (object_n o) owned.Unit e = absurd (cc e)
at_top r (mutex_n o) owned.Unit e = absurd (cc e)
at_top r (task_n o) owned.Unit e = absurd (cc e)
at_top r (object_n o) (owned.Int i) e = absurd (cc e)
at_top r (mutex_n o) (owned.Int i) e = absurd (cc e)
at_top r (task_n o) (owned.Int i) e = absurd (cc e)

-- only objects are on a chain
object_on : (xs : List ObjNo) (q : Node) → on_chain xs q ≡ true → (o : ObjNo) × (q ≡ object_n o)
object_on xs (object_n o) e = (o, refl)
object_on [] (mutex_n m) e = absurd (cc e)
object_on (p ∷ xs) (mutex_n m) e = absurd (cc e)
object_on [] (task_n u) e = absurd (cc e)
object_on (p ∷ xs) (task_n u) e = absurd (cc e)

sole_on : (xs : List ObjNo) (q : Node) → on_chain xs q ≡ true → is_sole q ≡ true
sole_on xs q e = let o = object_on xs q e in ap is_sole o.1

module _ (k : Cluster) (sound : IsSound k) (paths_k : HasPaths k) (e : Event) (i : Instr) (single : is_par_end (Some i) ≡ false) (s : Server) (t : ℕ) (x : ThreadState) (at : AtStep k e i s t x) (on_k : GoesOn k (record { server = s.rest.number; packed = false; thread = x })) (bare : x.gift ≡ None) (w : ℕ) (c : Cell)
    (there : look s.rest.partition w ≡ Some c) (inner : is_in_state (change.s1 k sound e i single s t x at bare w c there) (object_n c.object) ≡ true) (paths : LocksSeeIn (λ q. not (same_object q c.object)) (change.s1 k sound e i single s t x at bare w c there)) (became : ThreadState) (new : Owned)
    (xs : List ObjNo) (chain : Chain x.slots (cell_of (sight k).ground.cells) c.object xs) (even : (q : Node) → owned_in q x.slots + owned_in q x.temps ≡ owned_in q became.slots + owned_in q became.temps + one (owns q new)) (slots_stay : (q : Node) → owned_in q x.slots ≡ owned_in q became.slots)
    (from_temps : (q : Node) → owns q new ≡ true → 1 ≤ owned_in q x.temps) where
  abbrev n : ℕ
  n = s.rest.number

  abbrev O : ObjNo
  O = c.object

  abbrev R : List Thing
  R = apart.R k sound e i single s t x at bare w c there

  abbrev G1 : List Thing
  G1 = apart.G k sound e i single s t x at bare w c there

  abbrev own : Node → ℕ
  own q = owned_in q x.slots + owned_in q x.temps

  abbrev own2 : Node → ℕ
  own2 q = owned_in q became.slots + owned_in q became.temps

  abbrev pub y : ThreadState
  y = one_thread.next x became

  -- WHO OWNS WHAT, before

  names_before : (q : Node) → tot (names_it q) (things_of k) ≡ own q + one (owns q c.value) + tot (names_it q) R
  names_before q =
      let f = names_it q in
      let had = had_by n (giftless x) in
      let whole : tot f (apart.a k sound e i single s t x at bare w c there) ≡ f (stands n false x) + tot f ((G1 ++ had) ++ R) = refl in
      let mine : tot f G1 ≡ one (owns q c.value) = omega arith in
      omega (arith, apart.same_things k sound e i single s t x at bare w c there f, whole, mine, tot-append f (G1 ++ had) R, tot-append f G1 had, own_named q n (giftless x) refl)

  under_flat : (r : Sight) (p q : Node) → Own (λ a. under_names r p q a ≡ 0)
  under_flat r p q = record { slots = λ u j a. none_so (owns q a); temps = λ u j a. none_so (owns q a); shared = λ b d. refl; lent = λ b d. refl; marks = λ b d. refl; used = λ u b. refl }

  abbrev under_cell : Node → Node → ℕ
  under_cell p q = if_so (owns q c.value) (one (owned_by p (inside (object_n O))))

  under_split : (p q : Node) → tot (under_names (sight k) p q) (things_of k) ≡ under_cell p q + tot (under_names (sight k) p q) R
  under_split p q =
      let f = under_names (sight k) p q in
      omega (arith, apart.same_things k sound e i single s t x at bare w c there f, tot_of n x G1 R f (under_flat (sight k) p q))

  cell_few : (p q : Node) → under_cell p q ≤ one (owns q c.value)
  cell_few p q = by (owns q c.value) (owned_by p (inside (object_n O)))
    where
      by : (b d : Bool) → if_so b (one d) ≤ one b
      by false d = omega arith
      by true true = omega arith
      by true false = omega arith

  -- what is on the chain isn't also the thread's, nor under another node
  names_and_under : (p q : Node) → own q + tot (under_names (sight k) p q) (things_of k) ≤ tot (names_it q) (things_of k)
  names_and_under p q = omega (arith, names_before q, under_split p q, cell_few p q, under_few (sight k) p q R)

  up : (p q : Node) → on_chain xs q ≡ true → 1 ≤ tot (under_names (sight k) p q) R → on_chain xs p ≡ true
  up p q h l = let o = object_on xs q h in by o.0 o.1 (owned_on k paths_k _ on_k O xs chain o.0 (sym (ap (on_chain xs) o.1) ∙ h))
    where
      by : (o : ObjNo) → q ≡ object_n o → Owned_by k paths_k (record { server = s.rest.number; packed = false; thread = x }) on_k xs o → on_chain xs p ≡ true
      by o is (by_slot m) =
          let few = sole_owner k sound q (sole_on xs q h) in
          absurd (omega (arith, few, names_and_under p q, under_split p q, l, m, ap (λ z. owned_in z x.slots) is))
      by o is (by_cell r g m) =
          node_cases (λ b. on_chain xs p ≡ true) p (object_n r) (λ same. ap (on_chain xs) same ∙ g)
          (λ ne. let few = sole_owner k sound q (sole_on xs q h) in
          let m2 = subst (λ z. 1 ≤ tot (under_names (sight k) (object_n r) z) (things_of k)) (sym is) m in
          absurd (omega (arith, few, under_apart (sight k) p (object_n r) q ne (things_of k), m2, l, under_split p q)))

  off : (q : Node) → 1 ≤ owned_in q x.temps → on_chain xs q ≡ false
  off q l = go (on_chain xs q) refl
    where
      by : on_chain xs q ≡ true → (o : ObjNo) → q ≡ object_n o → Owned_by k paths_k (record { server = s.rest.number; packed = false; thread = x }) on_k xs o → ⊥
      by h o is (by_slot m) =
          let few = sole_owner k sound q (sole_on xs q h) in
          absurd (omega (arith, few, names_before q, l, m, ap (λ z. owned_in z x.slots) is))
      by h o is (by_cell r g m) =
          let few = sole_owner k sound q (sole_on xs q h) in
          let m2 = subst (λ z. 1 ≤ tot (under_names (sight k) (object_n r) z) (things_of k)) (sym is) m in
          absurd (omega (arith, few, names_and_under (object_n r) q, m2, l))

      go : (b : Bool) → on_chain xs q ≡ b → on_chain xs q ≡ false
      go false f = f
      go true f = let o = object_on xs q f in absurd (by f o.0 o.1 (owned_on k paths_k _ on_k O xs chain o.0 (sym (ap (on_chain xs) o.1) ∙ f)))

  -- THE OBJECT STAYS IN THE STATE, whatever is in hand

  module _ (h : Option Owned) where
    abbrev pub sv : Sight
    sv = change.s2 k sound e i single s t x at bare w c there inner paths became new h

    abbrev G2 : List Thing
    G2 = change.G2 k sound e i single s t x at bare w c there inner paths became new h

    abbrev In : Node → Bool
    In = is_in_state sv

    owners : SameOwners (change.s1 k sound e i single s t x at bare w c there) sv R
    owners = change.owners k sound e i single s t x at bare w c there inner paths became new h

    stood : (th : Thing) → owner_of (sight k) th ≡ owner_of (change.s1 k sound e i single s t x at bare w c there) th
    stood (holds r a) = apart.spots_before k sound e i single s t x at bare w c there r
    stood _ = refl

    pub under_same : (p q : Node) → tot (under_names sv p q) R ≡ tot (under_names (sight k) p q) R
    under_same p q = same R owners
      where
        same : (ys : List Thing) → SameOwners (change.s1 k sound e i single s t x at bare w c there) sv ys → tot (under_names sv p q) ys ≡ tot (under_names (sight k) p q) ys
        same [] g = refl
        same (th ∷ ys) g = ap₂ (λ o r. if_so (names q th) (one (owned_by p o)) + r) (sym g.0 ∙ sym (stood th)) (same ys g.1)

    has_own : (q : Node) → 1 ≤ own2 q → In q ≡ true
    has_own q l =
        here k (mine n y G2) R q
        (change.names2 k sound e i single s t x at bare w c there inner paths became new h In q
        ∙ or_right (some (owned_under q h) || named_in (owns q new) In (inside (object_n O))) (some (own2 q)) (there_some (own2 q) l))

    has_rest : (p q : Node) → 1 ≤ tot (under_names (sight k) p q) R → In p ≡ true → In q ≡ true
    has_rest p q l g =
        closes sv q (any_both sv In q (mine n y G2) R ∙ or_right (any_named sv In q (mine n y G2)) (any_named sv In q R) (named_there sv In p q R (omega (arith, l, under_same p q)) g))

    along : (o : ObjNo) (ys : List ObjNo) → Chain x.slots (cell_of (sight k).ground.cells) o ys → (In (object_n O) ≡ true) ⊎ (In (object_n o) ≡ true)
    along _ _ (in_slot j b f) =
        let l = slot_owned (object_n b.object) x.slots j (value.Own (owned.Box b)) f in
        inr (has_own (object_n b.object) (omega (arith, l, slots_stay (object_n b.object), ap one (change.itself b.object))))
    along _ _ (in_cell {p} {xs = ys} d b chain2 f g) = by (along p ys chain2)
      where
        next : In (object_n p) ≡ true → (In (object_n O) ≡ true) ⊎ (In (object_n b.object) ≡ true)
        next there_in =
            node_cases (λ z. (In (object_n O) ≡ true) ⊎ (In (object_n b.object) ≡ true)) (object_n O) (object_n p) (λ same. inl (ap In same ∙ there_in))
            (λ ne. let m = cell_names k paths_k (record { server = s.rest.number; packed = false; thread = x }) on_k p d b f g in
            let none : under_cell (object_n p) (object_n b.object) ≡ 0 = node_cases (λ z. if_so (owns (object_n b.object) c.value) (one z) ≡ 0) (object_n O) (object_n p) (λ same. absurd (ne same)) (λ _. none_so (owns (object_n b.object) c.value)) in
            inr (has_rest (object_n p) (object_n b.object) (omega (arith, m, under_split (object_n p) (object_n b.object), none)) there_in))

        by : (In (object_n O) ≡ true) ⊎ (In (object_n p) ≡ true) → (In (object_n O) ≡ true) ⊎ (In (object_n b.object) ≡ true)
        by (inl u) = inl u
        by (inr u) = next u

    pub stays_in : In (object_n O) ≡ true
    stays_in = by (along O xs chain)
      where
        by : (In (object_n O) ≡ true) ⊎ (In (object_n O) ≡ true) → In (object_n O) ≡ true
        by (inl u) = u
        by (inr u) = u

  -- WHAT IS KNOWN OF THE OTHERS

  abbrev pub old : Owned
  old = c.value

  abbrev pub s2 : Sight
  s2 = sv None

  abbrev rest_then : List Thing
  rest_then = G2 None

  -- all but the thread and what is in hand
  abbrev pub B : List Thing
  B = (rest_then ++ had_by n (giftless y)) ++ R

  pub even_hand : (q : Node) → own q + one (owns q old) ≡ own2 q + one (owns q old) + one (owns q new)
  even_hand q = omega (arith, even q)

  names_then : (q : Node) → tot (names_it q) B ≡ own2 q + one (owns q new) + tot (names_it q) R
  names_then q =
      let f = names_it q in
      let mine : tot f rest_then ≡ one (owns q new) = omega arith in
      omega (arith, mine, tot-append f (rest_then ++ had_by n (giftless y)) R, tot-append f rest_then (had_by n (giftless y)), own_named q n (giftless y) refl)

  names_left : (q : Node) → tot (names_it q) B + one (owns q old) ≡ tot (names_it q) (things_of k)
  names_left q = omega (arith, names_before q, names_then q, even q)

  none_names : (f : Node → Bool) (q : Node) (ys : List Thing) → tot (names_it q) ys ≡ 0 → any_named s2 f q ys ≡ false
  none_names f q [] z = refl
  none_names f q (th ∷ ys) z = by (names q th) z (none_names f q ys)
    where
      by : (b : Bool) → one b + tot (names_it q) ys ≡ 0 → (tot (names_it q) ys ≡ 0 → any_named s2 f q ys ≡ false) → named_in b f (owner_of s2 th) || any_named s2 f q ys ≡ false
      by true m go = absurd (omega (arith, m))
      by false m go = go (omega (arith, m))

  -- nobody else has what has one owner
  pub alone_then : (q : Node) → is_sole q ≡ true → owns q old ≡ true → held.any_in k n y B (Some old) q ≡ false
  alone_then q it mine = none_names (held.In k n y B (Some old)) q B (omega (arith, names_left q, sole_owner k sound q it, ap one mine))

  module _ (calm2 : Calm became.phase) where
    pub once2 : Once s2
    once2 = change.once_then k sound e i single s t x at bare w c there inner paths became new None calm2

    unstray_all : tot (stray s2) s2.things ≡ 0
    unstray_all =
        let flat : (r : Sight) → Own (λ a. stray r a ≡ 0) = λ r. record { slots = λ u j a. refl; temps = λ u j a. refl; shared = λ b d. refl; lent = λ b d. refl; marks = λ b d. refl; used = λ u b. refl } in
        let s1 = change.s1 k sound e i single s t x at bare w c there in
        omega (
          arith,
          apart.none_stray k sound e i single s t x at bare w c there,
          tot_of n x G1 R (stray s1) (flat s1),
          one_thread.stray_stays k R G1 rest_then n x became (tt, (tt, tt)) (tt, (tt, tt)) (apart.lone k sound e i single s t x at bare w c there),
          tot_of n y rest_then R (stray s2) (flat s2),
        )

    known_named : (u : ℕ) → 1 ≤ tot (names_it (task_n u)) (things_of k) → KnownTask k n y B u
    known_named u l = record {
      given = sym given_then ∙ given_owned k sound u l;
      unheld =
          let f = held_branch u in
          let flat : Own (λ a. f a ≡ 0) = record { slots = λ v j a. refl; temps = λ v j a. refl; shared = λ b r. refl; lent = λ b r. refl; marks = λ b v. refl; used = λ v b. refl } in
          let none = no_branch k sound u l in
          omega (arith, none, apart.same_things k sound e i single s t x at bare w c there f, tot_of n x G1 R f flat, tot_of n y rest_then R f flat, ap (λ m. one (some m)) (one_thread.none_got u became.phase calm2.alone));
    }
      where
        given_then : is_given_thread (sight k) u ≡ is_given_thread s2 u
        given_then =
            ap (λ m. u == 0 || (not (count_of u == 0) && some m)) (apart.same_things k sound e i single s t x at bare w c there (started_at (home_of u) (count_of u)))
            ∙ one_thread.given_same k R G1 rest_then n x became (tt, (tt, tt)) (tt, (tt, tt)) (apart.lone k sound e i single s t x at bare w c there) (change.locks k sound e i single s t x at bare w c there inner paths became new None) (λ g d. omega arith) u

    -- RANKS

    abbrev height : ℕ
    height = suc (top (rank k sound) new)

    abbrev rank_then : Node → ℕ
    rank_then q = rank k sound q + if_so (on_chain xs q) height

    under_then : (p q : Node) → tot (under_names s2 p q) B ≡ if_so (owns q new) (one (owned_by p (inside (object_n O)))) + tot (under_names (sight k) p q) R
    under_then p q =
        let f = under_names s2 p q in
        let whole : tot f s2.things ≡ f (stands n false y) + tot f B = refl in
        omega (arith, whole, tot_of n y rest_then R f (under_flat s2 p q), under_same None p q)

    no_more : {a b : ℕ} → a ≡ 0 → b ≤ a → b ≡ 0
    no_more z l = omega (arith, z, l)

    lifted : (b d : Bool) (i j m : ℕ) → i < j → (b ≡ true → d ≡ true) → i + if_so b m < j + if_so d m
    lifted true true i j m l f = omega (arith, l)
    lifted true false i j m l f = absurd (cc (f refl))
    lifted false true i j m l f = omega (arith, l)
    lifted false false i j m l f = omega (arith, l)

    falls_rest : (p q : Node) → 1 ≤ tot (under_names (sight k) p q) R → rank_then q < rank_then p
    falls_rest p q l =
        lifted (on_chain xs q) (on_chain xs p) (rank k sound q) (rank k sound p) height
        (falls_under k sound p q R (no_more (all_fall k sound) (apart.rest_less k sound e i single s t x at bare w c there (unfallen_at k sound))) l) (λ h. up p q h l)

    falls_new : (p q : Node) → owns q new ≡ true → owned_by p (inside (object_n O)) ≡ true → rank_then q < rank_then p
    falls_new p q mine under =
        let is : object_n O ≡ p = node_is (object_n O) p under in
        let low : if_so (on_chain xs q) height ≡ 0 = ap (λ b. if_so b height) (off q (from_temps q mine)) in
        let high : if_so (on_chain xs p) height ≡ height = ap (λ b. if_so b height) (sym (ap (on_chain xs) is) ∙ ends_on k paths_k (record { server = s.rest.number; packed = false; thread = x }) on_k O xs chain) in
        omega (arith, low, high, at_top (rank k sound) q new mine)

    falls_then : (p q : Node) → 1 ≤ tot (under_names s2 p q) B → rank_then q < rank_then p
    falls_then p q l = by (owns q new) refl (owned_by p (inside (object_n O))) refl (omega (arith, l, under_then p q))
      where
        by : (b : Bool) → owns q new ≡ b → (d : Bool) → owned_by p (inside (object_n O)) ≡ d → 1 ≤ if_so b (one d) + tot (under_names (sight k) p q) R → rank_then q < rank_then p
        by true f true g m = falls_new p q f g
        by true f false g m = falls_rest p q (omega (arith, m))
        by false f d g m = falls_rest p q (omega (arith, m))

    pub others_known : Others k n y B
    others_known = record {
      once = λ q. let few = once_under s2 once2 unstray_all q in omega (arith, few);
      unstray = omega (arith, unstray_all);
      sole = λ q it. omega (arith, names_left q, sole_owner k sound q it);
      known = λ u l. known_named u (omega (arith, l, names_left (task_n u)));
      silent = silent_of s2 once2;
      rank = rank_then;
      falls = falls_then;
    }

    pub known_then : (u : ℕ) → owns (task_n u) old ≡ true → KnownTask k n y B u
    known_then u mine = known_named u (omega (arith, names_left (task_n u), ap one mine))
