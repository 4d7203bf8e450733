-- A thread goes on while one cell gets another value: where what the cell had is the thread's or in hand afterwards, who is in the state stays, and so does all of
-- the plain state but the thread and the object.
use Rattle.std.proofs.Common.{◌≡◌, ◌≢◌, ℕ, zero, suc, ◌+◌, ◌≤◌, ◌||◌, not, Bool, true, false, if◌then◌else◌, List, [], ◌∷◌, ◌++◌, Option, Some, None, refl, sym, ap, ap₂, ◌∙◌, arith}
use Rattle.std.specs.List.{AllByRecursion}
use Rattle.law_heap_writes.proofs.Below.fr_store.Keys.{object_cases}
use Rattle.law_heap_writes.specs.Below.fr_base.declared.name.MutexNo.{MutexNo}
use Rattle.law_heap_writes.specs.Below.fr_base.declared.name.ObjNo.{ObjNo}
use Rattle.law_heap_writes.specs.Below.fr_base.declared.label.Plain.{Plain}
use Rattle.law_heap_writes.specs.Below.fr_base.declared.instruction.Instr.{Instr}
use Rattle.law_heap_writes.specs.Below.heap_partition.Plain.{plain_of}
use Rattle.law_heap_writes.specs.Below.heap_partition.declared.value.Cell.{Cell}
use Rattle.law_heap_writes.specs.Below.heap_partition.declared.value.Owned.{Owned}
use Rattle.law_heap_writes.specs.Below.thread_state.View.{ThreadState}
use Rattle.law_heap_writes.specs.Below.server_model.declared.event.Event.{Event}
use Rattle.law_heap_writes.specs.Below.server_model.Servers.{Server, Cluster}
use Rattle.law_heap_writes.specs.Below.server_model.Work.{look}
use Rattle.law_heap_writes.specs.Below.coherent_memory.Names.{tot, one, some, if_so, same_object}
use Rattle.law_heap_writes.specs.Below.coherent_memory.Things.{in_hand, Thing, holds}
use Rattle.law_heap_writes.specs.Below.coherent_memory.Follow.{cells_in, cell_of, value_of}
use Rattle.law_heap_writes.specs.Below.coherent_memory.Sight.{Sight, with_things}
use Rattle.law_heap_writes.specs.Below.coherent_memory.Requests.{is_par_end}
use Rattle.law_heap_writes.specs.Below.coherent_memory.Naming.{started_at, made_at}
use Rattle.law_heap_writes.specs.Below.coherent_memory.OneHeap.{Node, object_n, mutex_n, inside, named_in, any_named, is_in_state, if_in, cell_value, or_else, first_shown, object_value, content_value, share_in, in_pair_of, result_value, is_given_mutex, running_at, state_of, a_thread, owns}
use Rattle.law_heap_writes.specs.Below.coherent_memory.Coherent.{IsSound}
use Rattle.law_words_writes.proofs.Below.law_heap_still.events.Alike.{Once, LocksSeeIn}
use Rattle.law_words_writes.proofs.Below.law_heap_still.events.Counting.{shown_result}
use Rattle.law_words_writes.proofs.Below.law_heap_still.events.Told.{told, ones}
use Rattle.law_heap_writes.proofs.Below.law_heap_steps.turns.Parts.{Own, owned_in}
use Rattle.law_heap_writes.proofs.Below.law_heap_steps.turns.OneTurn.{Calm, of_thread}
use Rattle.law_heap_writes.proofs.Below.law_heap_steps.turns.Events.{AtStep}
use Rattle.law_heap_writes.proofs.Below.law_heap_steps.mutexes.Reach.{SameOwners, or_cases, or_left, or_right, here, stays_in, comes_from}
use Rattle.law_heap_writes.proofs.Below.law_heap_steps.mutexes.Beside.{IsBeside, so_one, mine, any_mine, all_of, first_of, tot_of, cells_of}
use Rattle.law_heap_writes.proofs.Below.law_heap_steps.mutexes.Gifted.{or_false}
use Rattle.law_heap_writes.proofs.Below.law_heap_steps.mutexes.OneNode.{owned_under, some_there, there_some}
use Rattle.law_heap_writes.proofs.Below.law_heap_steps.mutexes.OneThread as one_thread
use Rattle.law_heap_writes.proofs.Below.law_heap_steps.mutexes.OneThread.{GoesOn, next}
use Rattle.law_heap_writes.proofs.Below.law_heap_steps.mutexes.SharedLines.{nothing_under}
use Rattle.law_heap_writes.proofs.Below.law_heap_steps.mutexes.ThreadTurns.{quiet}
use Rattle.law_heap_writes.proofs.drops.InHand.{hand}
use Rattle.law_heap_writes.proofs.writes.CellApart as apart

-- SMALL FACTS

pub itself : (o : ObjNo) → same_object o o ≡ true
itself o = object_cases (λ b. b ≡ true) o o (λ _. refl) (λ ne. absurd (ne refl))

one_from : (b : Bool) → b ≡ true → 1 ≤ one b
one_from b e = omega (arith, ap one e)

one_to : (b : Bool) → 1 ≤ one b → b ≡ true
one_to true l = refl
one_to false l = absurd (omega (arith, l))

-- what is named under a node
names_under : (b : Bool) (f : Node → Bool) (p : Node) → named_in b f (inside p) ≡ true → b ≡ true
names_under true f p e = refl
names_under false f p e = absurd (cc e)

under_named : (b : Bool) (f : Node → Bool) (p : Node) → b ≡ true → f p ≡ true → named_in b f (inside p) ≡ true
under_named true f p e g = g
under_named false f p e g = absurd (cc e)

-- what is in hand
hand_named : (s : Sight) (f : Node → Bool) (q : Node) (c : Option Owned) (xs : List Thing) → any_named s f q (hand c ++ xs) ≡ some (owned_under q c) || any_named s f q xs
hand_named s f q None xs = refl
hand_named s f q (Some v) xs = by (owns q v)
  where
    by : (b : Bool) → named_in b f a_thread || any_named s f q xs ≡ some (one b) || any_named s f q xs
    by true = refl
    by false = refl

hand_first : {A : Type 0} (f : Thing → Option A) → ((v : Owned) → f (holds in_hand v) ≡ None) → (c : Option Owned) (xs : List Thing) → first_shown f (hand c ++ xs) ≡ first_shown f xs
hand_first f e None xs = refl
hand_first f e (Some v) xs = ap (λ o. or_else o (first_shown f xs)) (e v)

hand_tot : (f : Thing → ℕ) → ((v : Owned) → f (holds in_hand v) ≡ 0) → (c : Option Owned) (xs : List Thing) → tot f (hand c ++ xs) ≡ tot f xs
hand_tot f e None xs = refl
hand_tot f e (Some v) xs = omega (arith, e v)

hand_beside : (c : Option Owned) (xs : List Thing) → AllByRecursion IsBeside xs → AllByRecursion IsBeside (hand c ++ xs)
hand_beside None xs h = h
hand_beside (Some v) xs h = (tt, h)

hand_shares : (s : Sight) (m : MutexNo) (c : Option Owned) (xs : List Thing) → tot (share_in s m) (hand c ++ xs) ≡ owned_under (mutex_n m) c + tot (share_in s m) xs
hand_shares s m None xs = omega arith
hand_shares s m (Some v) xs = omega (arith, so_one (owns (mutex_n m) v))

one_of_three : (i j l : ℕ) (A : Type 0) → (1 ≤ i → A) → (1 ≤ j → A) → (1 ≤ l → A) → 1 ≤ i + j + l → A
one_of_three (suc i) j l A f g h e = f (omega arith)
one_of_three zero (suc j) l A f g h e = g (omega arith)
one_of_three zero zero (suc l) A f g h e = h (omega arith)
one_of_three zero zero zero A f g h e = absurd (omega (arith, e))

module _ (k : Cluster) (sound : IsSound k) (e : Event) (i : Instr) (single : is_par_end (Some i) ≡ false) (s : Server) (t : ℕ) (x : ThreadState) (at : AtStep k e i s t x) (bare : x.gift ≡ None) (w : ℕ) (c : Cell) (there : look s.rest.partition w ≡ Some c) where
  abbrev pub n : ℕ
  n = s.rest.number

  abbrev pub O : ObjNo
  O = c.object

  abbrev pub G1 : List Thing
  G1 = apart.G k sound e i single s t x at bare w c there

  abbrev pub R : List Thing
  R = apart.R k sound e i single s t x at bare w c there

  abbrev pub s1 : Sight
  s1 = with_things k (all_of n x G1 R)

  abbrev pub In1 : Node → Bool
  In1 = is_in_state s1

  pub calm : Calm x.phase
  calm = quiet k sound e i single s t x at

  abbrev pub own : Node → ℕ
  own q = owned_in q x.slots + owned_in q x.temps

  -- the object is in the state, and no place of another thread's lock passes it
  module _ (inner : In1 (object_n O) ≡ true) (paths : LocksSeeIn (λ q. not (same_object q O)) s1) (became : ThreadState) (new : Owned) (held : Option Owned) where
    abbrev pub own2 : Node → ℕ
    own2 q = owned_in q became.slots + owned_in q became.temps

    abbrev pub y : ThreadState
    y = next x became

    abbrev pub G2 : List Thing
    G2 = hand held ++ (apart.counts_then k sound e i single s t x at bare w c there ∷ apart.cell_with k sound e i single s t x at bare w c there new ∷ [])

    abbrev pub s2 : Sight
    s2 = with_things k (all_of n y G2 R)

    abbrev pub In2 : Node → Bool
    In2 = is_in_state s2

    abbrev rest_then : List Thing
    rest_then = apart.counts_then k sound e i single s t x at bare w c there ∷ apart.cell_with k sound e i single s t x at bare w c there new ∷ []

    pub lone : tot (of_thread x.number) R ≡ 0
    lone = apart.lone k sound e i single s t x at bare w c there

    abbrev pub beside1 : AllByRecursion IsBeside G1
    beside1 = (tt, (tt, tt))

    pub beside2 : AllByRecursion IsBeside G2
    beside2 = hand_beside held (apart.counts_then k sound e i single s t x at bare w c there ∷ apart.cell_with k sound e i single s t x at bare w c there new ∷ []) (tt, (tt, tt))

    pub once1 : Once s1
    once1 = apart.once_before k sound e i single s t x at bare w c there

    cells_alike : (q : ObjNo) → not (same_object q O) ≡ true → value_of (cell_of (cells_in (all_of n x G1 R)) q) ≡ value_of (cell_of (cells_in (all_of n y G2 R)) q)
    cells_alike q f =
        let before_it : cells_in (all_of n x G1 R) ≡ c ∷ cells_in R = ap (λ l. c ∷ l) (cells_of n x (apart.counts_here k sound e i single s t x at bare w c there ∷ []) R (tt, tt)) in
        let then_it : cells_in (all_of n y G2 R) ≡ record c { value = new } ∷ cells_in R = held_cells held ∙ ap (λ l. record c { value = new } ∷ l) (cells_of n y (apart.counts_then k sound e i single s t x at bare w c there ∷ []) R (tt, tt)) in
        ap (λ l. value_of (cell_of l q)) before_it ∙ off q f ∙ sym (ap (λ l. value_of (cell_of l q)) then_it)
      where
        held_cells : (h : Option Owned) → cells_in (all_of n y (hand h ++ (apart.counts_then k sound e i single s t x at bare w c there ∷ apart.cell_with k sound e i single s t x at bare w c there new ∷ [])) R)
            ≡ record c { value = new } ∷ cells_in (all_of n y (apart.counts_then k sound e i single s t x at bare w c there ∷ []) R)
        held_cells None = refl
        held_cells (Some v) = refl

        off : (q : ObjNo) → not (same_object q O) ≡ true → value_of (cell_of (c ∷ cells_in R) q) ≡ value_of (cell_of (record c { value = new } ∷ cells_in R) q)
        off q f = object_cases (λ b. value_of (if b then Some c else cell_of (cells_in R) q) ≡ value_of (if b then Some (record c { value = new }) else cell_of (cells_in R) q)) O q (λ d. absurd (cc (sym f ∙ ap (λ a. not (same_object a O)) (sym d) ∙ ap not (itself O)))) (λ _. refl)

    pub locks : one_thread.LocksStay k R G1 G2 n x became
    locks = one_thread.locks_lead k R G1 G2 n x became beside1 beside2 lone (λ q. not (same_object q O)) cells_alike paths

    pub owners : SameOwners s1 s2 R
    owners = one_thread.same_owners k R G1 G2 n x became beside1 beside2 lone locks

    -- WHO IS IN THE STATE

    names1 : (f : Node → Bool) (q : Node) → any_named s1 f q (mine n x G1) ≡ named_in (owns q c.value) f (inside (object_n O)) || some (own q)
    names1 f q = any_mine n x G1 s1 f q ∙ ap (λ b. b || some (own q)) (or_false (named_in (owns q c.value) f (inside (object_n O))))

    pub names2 : (f : Node → Bool) (q : Node) → any_named s2 f q (mine n y G2) ≡ (some (owned_under q held) || named_in (owns q new) f (inside (object_n O))) || some (own2 q)
    names2 f q =
        any_mine n y G2 s2 f q ∙ ap (λ b. b || some (own2 q)) (hand_named s2 f q held (apart.counts_then k sound e i single s t x at bare w c there ∷ apart.cell_with k sound e i single s t x at bare w c there new ∷ [])
        ∙ ap (λ b. some (owned_under q held) || b) (or_false (named_in (owns q new) f (inside (object_n O)))))

    -- what is shown once stays so, whatever goes
    module _ (calm2 : Calm became.phase) where
      pub once_then : Once s2
      once_then = one_thread.once_on k R G1 G2 n x became beside1 beside2 lone locks calm (λ r. one_thread.none_got r became.phase calm2.alone) calm2.goes once1 few contents (λ r. omega (arith, hand_tot (λ v. told ones (shown_result s2 r v)) (λ v. refl) held rest_then))
        where
          few : (q : ObjNo) → tot (λ v. told ones (cell_value q v)) G2 + tot (λ v. told ones (cell_value q v)) R ≤ 1
          few q =
              let flat : Own (λ v. told ones (cell_value q v) ≡ 0) = record { slots = λ u j v. refl; temps = λ u j v. refl; shared = λ l r. refl; lent = λ l r. refl; marks = λ l m. refl; used = λ u m. refl } in
              omega (arith, once1.cells q, tot_of n x G1 R (λ v. told ones (cell_value q v)) flat, hand_tot (λ v. told ones (cell_value q v)) (λ v. refl) held rest_then, alike (same_object O q) (plain_of c.value) (plain_of new))
            where
              alike : (b : Bool) (p r : Plain) → told ones (if_in b (Some p)) ≡ told ones (if_in b (Some r))
              alike true p r = refl
              alike false p r = refl

          contents : (m : MutexNo) → tot (λ v. told ones (content_value s2 m v)) G2 + tot (λ v. told ones (content_value s1 m v)) R ≤ 1
          contents m =
              let flat : Own (λ v. told ones (content_value s1 m v) ≡ 0) = record { slots = λ u j v. refl; temps = λ u j v. refl; shared = λ l r. refl; lent = λ l r. refl; marks = λ l m. refl; used = λ u m. refl } in
              omega (arith, once1.contents m, tot_of n x G1 R (λ v. told ones (content_value s1 m v)) flat, hand_tot (λ v. told ones (content_value s2 m v)) (λ v. refl) held rest_then)

    -- what the thread and the cell had, the thread, the hand and the cell have; and where the new value is under the object, that is in the state
    module _ (even : (q : Node) → own q + one (owns q c.value) ≡ own2 q + owned_under q held + one (owns q new)) (inner_then : (q : Node) → owns q new ≡ true → In2 (object_n O) ≡ true) where
      has1 : (q : Node) → 1 ≤ own q + 0 + one (owns q c.value) → In1 q ≡ true
      has1 q l =
          let under = named_in (owns q c.value) In1 (inside (object_n O)) in
          here k (mine n x G1) R q (names1 In1 q ∙ one_of_three (own q) 0 (one (owns q c.value)) (under || some (own q) ≡ true) (λ m. or_right under (some (own q)) (there_some (own q) m)) (λ m. absurd (omega (arith, m))) (λ m. or_left under (some (own q)) (under_named (owns q c.value) In1 (object_n O) (one_to (owns q c.value) m) inner)) l)

      has2 : (q : Node) → 1 ≤ own2 q + owned_under q held + one (owns q new) → In2 q ≡ true
      has2 q l =
          let under = named_in (owns q new) In2 (inside (object_n O)) in
          let held_it = some (owned_under q held) in
          here k (mine n y G2) R q (names2 In2 q ∙ one_of_three (own2 q) (owned_under q held) (one (owns q new)) ((held_it || under) || some (own2 q) ≡ true) (λ m. or_right (held_it || under) (some (own2 q)) (there_some (own2 q) m))
          (λ m. or_left (held_it || under) (some (own2 q)) (or_left held_it under (there_some (owned_under q held) m)))
          (λ m. or_left (held_it || under) (some (own2 q)) (or_right held_it under (let it = one_to (owns q new) m in under_named (owns q new) In2 (object_n O) it (inner_then q it)))) l)

      stay : (q : Node) → In1 q ≡ true → In2 q ≡ true
      stay =
          stays_in k (mine n x G1) (mine n y G2) R owners
          (λ q f. or_cases (named_in (owns q c.value) In2 (inside (object_n O))) (some (own q)) (In2 q ≡ true) (λ d. let l = one_from (owns q c.value) (names_under (owns q c.value) In2 (object_n O) d) in has2 q (omega (arith, l, even q)))
          (λ d. let l = some_there (own q) d in has2 q (omega (arith, l, even q))) (sym (names1 In2 q) ∙ f))

      come : (q : Node) → In2 q ≡ true → In1 q || false ≡ true
      come =
          comes_from k (mine n x G1) (mine n y G2) R owners (λ q. false) (nothing_under s1 R)
          (λ q f. or_left (In1 q) false (had q (sym (names2 (λ p. In1 p || false) q) ∙ f)))
        where
          had : (q : Node) → (some (owned_under q held) || named_in (owns q new) (λ p. In1 p || false) (inside (object_n O))) || some (own2 q) ≡ true → In1 q ≡ true
          had q f =
              or_cases (some (owned_under q held) || named_in (owns q new) (λ p. In1 p || false) (inside (object_n O))) (some (own2 q)) (In1 q ≡ true)
              (λ d. or_cases (some (owned_under q held)) (named_in (owns q new) (λ p. In1 p || false) (inside (object_n O))) (In1 q ≡ true)
              (λ u. let l = some_there (owned_under q held) u in has1 q (omega (arith, l, even q)))
              (λ u. let l = one_from (owns q new) (names_under (owns q new) (λ p. In1 p || false) (object_n O) u) in has1 q (omega (arith, l, even q))) d)
              (λ d. let l = some_there (own2 q) d in has1 q (omega (arith, l, even q))) f

      pub same_in : (q : Node) → false ≡ false → In1 q ≡ In2 q
      same_in q z = by (In1 q) refl (In2 q) refl
        where
          by : (b : Bool) → In1 q ≡ b → (d : Bool) → In2 q ≡ d → In1 q ≡ In2 q
          by true f true g = f ∙ sym g
          by false f false g = f ∙ sym g
          by true f false g = absurd (cc (sym g ∙ stay q f))
          by false f true g = absurd (or_cases (In1 q) false ⊥ (λ d. cc (sym d ∙ f)) (λ d. cc d) (come q g))

      pub inner2 : In2 (object_n O) ≡ true
      inner2 = sym (same_in (object_n O) refl) ∙ inner

      -- THE STATE

      pub others_on : (q : ObjNo) → q ≢ O → object_value s1 q ≡ object_value s2 q
      others_on q ne =
          let off : same_object O q ≡ false = object_cases (λ b. b ≡ false) O q (λ d. absurd (ne (sym d))) (λ _. refl) in
          one_thread.object_same k R G1 G2 n x became beside1 beside2 lone locks (λ v. false) (nothing_under s1 R) same_in q refl
          (ap (λ b. or_else (if_in b (Some (plain_of c.value))) None) off ∙ sym (hand_first (cell_value q) (λ v. refl) held rest_then ∙ ap (λ b. or_else (if_in b (Some (plain_of new))) None) off))

      cells_flat : (q : ObjNo) → Own (λ v. cell_value q v ≡ None)
      cells_flat q = record { slots = λ u j v. refl; temps = λ u j v. refl; shared = λ l r. refl; lent = λ l r. refl; marks = λ l m. refl; used = λ u m. refl }

      pub it_before : object_value s1 O ≡ Some (plain_of c.value)
      it_before = ap₂ if_in inner (first_of n x G1 R (cell_value O) (cells_flat O) refl ∙ ap (λ b. or_else (or_else (if_in b (Some (plain_of c.value))) None) (first_shown (cell_value O) R)) (itself O))

      pub it_then : object_value s2 O ≡ Some (plain_of new)
      it_then =
          ap₂ if_in inner2 (first_of n y G2 R (cell_value O) (cells_flat O) refl ∙ ap (λ o. or_else o (first_shown (cell_value O) R)) (hand_first (cell_value O) (λ v. refl) held rest_then)
          ∙ ap (λ b. or_else (or_else (if_in b (Some (plain_of new))) None) (first_shown (cell_value O) R)) (itself O))

      share_under : (b d : Bool) → d ≡ true → if_so b (one d) ≡ one b
      share_under b d f = ap (λ z. if_so b (one z)) f ∙ so_one b

      pub mutexes_on : (m : MutexNo) → (state_of s1).mutex m ≡ (state_of s2).mutex m
      mutexes_on m =
          one_thread.mutex_same k R G1 G2 n x became beside1 beside2 lone locks (λ q. false) (nothing_under s1 R) same_in m refl (sym (hand_first (content_value s2 m) (λ v. refl) held rest_then))
          (omega (arith, even (mutex_n m), hand_shares s2 m held rest_then, share_under (owns (mutex_n m) c.value) (In1 (object_n O)) inner, share_under (owns (mutex_n m) new) (In2 (object_n O)) inner2))

      pub names_on : (m : MutexNo) → is_given_mutex s1 m ≡ is_given_mutex s2 m
      names_on = one_thread.mutex_given k R G1 G2 n x became beside1 beside2 lone locks (λ h d. omega (arith, hand_tot (made_at h d) (λ v. refl) held rest_then))

      module _ (calm2 : Calm became.phase) (same_made : x.made ≡ became.made) where
        pub thread_on : GoesOn x.number (running_at x) (running_at y) (state_of s1) (state_of s2)
        thread_on =
            one_thread.goes_on k R G1 G2 n x became beside1 beside2 lone locks (λ q. false) (nothing_under s1 R) same_in (λ r. omega (arith, hand_tot (in_pair_of r) (λ v. refl) held rest_then)) (λ u. refl)
            (λ r. sym (hand_first (result_value s2 r) (λ v. refl) held rest_then)) calm calm2 (λ h d. omega (arith, hand_tot (started_at h d) (λ v. refl) held rest_then)) (apart.given k sound e i single s t x at bare w c there)

        pub made_on : (u : ℕ) → (state_of s1).made u ≡ (state_of s2).made u
        made_on = one_thread.made_same k R G1 G2 n x became beside1 beside2 lone locks calm.goes calm2.goes same_made
