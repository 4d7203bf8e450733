-- What comes for a mutable borrow: the object of the pointer that is borrowed, or that of a mutable reference on the way, which stands where references to slots lead.
use Rattle.std.proofs.Common.{◌≡◌, ◌⊎◌, inl, inr, ◌≤◌, ◌<◌, ℕ, suc, ◌==◌, ◌&&◌, Bool, true, false, List, [], ◌∷◌, ◌++◌, Option, Some, refl, sym, ap, subst, ◌∙◌, append-nil, append_assoc, arith}
use Rattle.std.specs.Prelude.{slice_get}
use Rattle.std.proofs.lemmas.List.{reverse-append}
use Rattle.std.proofs.lemmas.Bool.{eq-eqb}
use Rattle.law_counts_waiting.specs.Below.fr_base.declared.place.Lval.{Lval}
use Rattle.law_counts_waiting.specs.Below.heap_partition.declared.value.Owned.{Owned}
use Rattle.law_counts_waiting.specs.Below.heap_partition.declared.value.Owned.TheVariants as owned
use Rattle.law_counts_waiting.specs.Below.mut_borrow.declared.mutable.MutRef.{MutRef}
use Rattle.law_counts_waiting.specs.Below.thread_state.declared.value.Value.{Value}
use Rattle.law_counts_waiting.specs.Below.thread_state.declared.value.Value.TheVariants as value
use Rattle.law_counts_waiting.specs.Below.server_model.Servers.{Cluster}
use Rattle.law_counts_waiting.specs.Below.server_model.Objects.{chased, waits_under}
use Rattle.law_counts_waiting.specs.Below.coherent_memory.Names.{Among}
use Rattle.law_counts_waiting.specs.Below.coherent_memory.Things.{Location, at_slot}
use Rattle.law_counts_waiting.specs.Below.coherent_memory.Follow.{Standing, Ground, value_behind, locate, hop_at, hops_from, hops}
use Rattle.law_counts_waiting.specs.Below.coherent_memory.Paths.{Path, lends, Awaited, to_read, to_write, all_to, borrow_to, awaited}
use Rattle.law_counts_waiting.specs.Below.coherent_memory.Passing.{HopOf}
use Rattle.law_counts_waiting.specs.Below.coherent_memory.Sight.{sight}
use Rattle.law_counts_waiting.specs.Below.coherent_memory.Turn.{IsAsked, AwaitsAt, before_lend, at_lend, InTurn, by_lend}
use Rattle.law_counts_waiting.specs.Below.coherent_memory.Walking.{is_pull}
use Rattle.law_counts_waiting.proofs.Below.coherent_memory.Passing.{paths_law}
use Rattle.law_counts_waiting.specs.Below.law_words_paths.paths.HeapStore.{GoesOn, HasPaths}
use Rattle.law_counts_waiting.proofs.Below.law_words_paths.paths.Shown.{stands_there}
use Rattle.law_counts_waiting.proofs.Below.law_words_asked.awaited.Chasing.{in_its_slot, chased_there}

-- LISTS OF WHAT IS AWAITED

both_true : (p q : Bool) → p ≡ true → q ≡ true → (p && q) ≡ true
both_true true q a b = b
both_true false q a b = absurd (cc a)

-- what is awaited last, where it comes
last_pull : (xs : List Awaited) (a : Awaited) (w : ℕ) → a.comes ≡ true → a.word ≡ w → is_pull (xs ++ a ∷ []) w ≡ true
last_pull [] a w comes word = both_true a.comes (a.word == w) comes (eq-eqb a.word w word)
last_pull (x ∷ []) a w comes word = last_pull [] a w comes word
last_pull (x ∷ y ∷ xs) a w comes word = last_pull (y ∷ xs) a w comes word

-- a borrow waits for its last pointer in its own way
borrow_last : (colours : ℕ) (f : Option Value → List Awaited) (vs : List (Option Value)) (v : Option Value) → borrow_to colours f (vs ++ v ∷ []) ≡ all_to (to_read colours) vs ++ f v
borrow_last colours f [] v = refl
borrow_last colours f (u ∷ []) v = ap (λ l. l ++ f v) (sym (append-nil (to_read colours u)))
borrow_last colours f (u ∷ z ∷ vs) v = ap (λ l. to_read colours u ++ l) (borrow_last colours f (z ∷ vs) v) ∙ sym (append_assoc (to_read colours u) (all_to (to_read colours) (z ∷ vs)) (f v))

-- a write waits for one thing at a pointer
one_written : (v : Value) (a : Awaited) → Among a (to_write (Some v)) → to_write (Some v) ≡ a ∷ []
one_written (value.Own (owned.Box p)) a (inl e) = ap (λ z. z ∷ []) e
one_written (value.Own (owned.Box p)) a (inr m) = absurd m
one_written (value.Mut r) a (inl e) = ap (λ z. z ∷ []) e
one_written (value.Mut r) a (inr m) = absurd m
one_written (value.Own owned.Nothing) a m = absurd m
one_written (value.Own owned.Unit) a m = absurd m
one_written (value.Own (owned.Int n)) a m = absurd m
one_written (value.Own (owned.Mutex n)) a m = absurd m
one_written (value.Own (owned.Task n)) a m = absurd m
one_written value.Gone a m = absurd m
one_written (value.SharedSlot j) a m = absurd m
one_written (value.MutSlot j) a m = absurd m
one_written (value.Shared r) a m = absurd m
one_written (value.Held n) a m = absurd m

-- what comes for a read is the object of a mutable reference
abbrev LentUnder : Value → ℕ → Type 0
LentUnder v w = (r : MutRef) × (v ≡ value.Mut r) × (r.word ≡ w)

not_coming : {a b : Awaited} → a ≡ b → a.comes ≡ false → b.comes ≡ true → ⊥
not_coming e f g = let no : false ≡ true = sym f ∙ ap (λ (x : Awaited). x.comes) e ∙ g in cc no

read_under : (c : ℕ) (v : Value) (a : Awaited) → Among a (to_read c (Some v)) → a.comes ≡ true → LentUnder v a.word
read_under c (value.Mut r) a (inl q) e = (r, refl, ap (λ (x : Awaited). x.word) q)
read_under c (value.Mut r) a (inr h) e = absurd h
read_under c (value.Shared r) a (inl q) e = absurd (not_coming q refl e)
read_under c (value.Shared r) a (inr h) e = absurd h
read_under c (value.Own (owned.Box p)) a (inl q) e = absurd (not_coming q refl e)
read_under c (value.Own (owned.Box p)) a (inr h) e = absurd h
read_under c (value.Own owned.Nothing) a h e = absurd h
read_under c (value.Own owned.Unit) a h e = absurd h
read_under c (value.Own (owned.Int i)) a h e = absurd h
read_under c (value.Own (owned.Mutex m)) a h e = absurd h
read_under c (value.Own (owned.Task t)) a h e = absurd h
read_under c value.Gone a h e = absurd h
read_under c (value.SharedSlot i) a h e = absurd h
read_under c (value.MutSlot i) a h e = absurd h
read_under c (value.Held m) a h e = absurd h

same_place : {v w : Lval} → lends v ≡ lends w → v ≡ w
same_place e = cc

-- WHAT A BORROW WAITS FOR

module _ (k : Cluster) (c : HasPaths k) (x : Standing) (g : GoesOn k x) (old : ℕ) where
  abbrev G : Ground
  G = (sight k).ground

  abbrev n : ℕ
  n = x.thread.number

  -- the object of the pointer that is borrowed
  abbrev pub Pulls : Lval → Type 0
  Pulls w = is_pull (awaited (sight k).options.colours G n (lends w)) old ≡ true

  -- or that of a reference on the way
  abbrev pub Chases : Lval → Type 0
  Chases w = (2 ≤ w.depth) × ((d : ℕ) → w.depth ≡ suc (suc d) → waits_under old (slice_get x.thread.slots (chased d x.thread.slots w.slot)) ≡ true)

  here_it : (slot i : ℕ) (l : Location) (v : Value) → HopOf G n slot i l v → value_behind G (locate G n slot i) ≡ Some v
  here_it slot i l v h = ap (value_behind G) (paths_law.locates G n slot i l h.path) ∙ h.stands

  pulls : (w : Lval) (i : ℕ) (a : Awaited) → suc i ≡ w.depth → IsAsked (sight k) x w i to_write a → a.comes ≡ true → a.word ≡ old → Pulls w
  pulls w i a deep q comes word =
      let colours : ℕ = (sight k).options.colours in
      let last : hop_at G n w i ≡ Some q.value = here_it w.slot i q.location q.value q.hop in
      let all : hops G n w w.depth ≡ hops G n w i ++ hop_at G n w i ∷ [] = ap (hops G n w) (sym deep) ∙ reverse-append (hop_at G n w i ∷ []) (hops_from G n w i) in
      let list : awaited colours G n (lends w) ≡ all_to (to_read colours) (hops G n w i) ++ a ∷ [] =
      ap (borrow_to colours to_write) all ∙ borrow_last colours to_write (hops G n w i) (hop_at G n w i) ∙ ap (λ v. all_to (to_read colours) (hops G n w i) ++ to_write v) last ∙ ap (λ l. all_to (to_read colours) (hops G n w i) ++ l) (one_written q.value a q.asked) in
      ap (λ l. is_pull l old) list ∙ last_pull (all_to (to_read colours) (hops G n w i)) a old comes word

  chases : (w : Lval) (i : ℕ) (a : Awaited) → suc i < w.depth → IsAsked (sight k) x w i (to_read (sight k).options.colours) a → a.comes ≡ true → a.word ≡ old → Chases w
  chases w i a lt q comes word = (omega (arith, lt), λ d deep. there d deep)
    where
      lent : LentUnder q.value a.word
      lent = read_under (sight k).options.colours q.value a q.asked comes

      located : locate G n w.slot i ≡ Some q.location
      located = paths_law.locates G n w.slot i q.location q.hop.path

      not_owned : (u : Owned) → q.value ≡ value.Own u → ⊥
      not_owned u e = absurd (cc (sym lent.1 ∙ e))

      slot : (j : ℕ) × (q.location ≡ at_slot n j) × (slice_get x.thread.slots j ≡ Some q.value)
      slot = in_its_slot G n x (stands_there k c x g) w.slot i q.location q.value located q.hop.stands not_owned

      there : (d : ℕ) → w.depth ≡ suc (suc d) → waits_under old (slice_get x.thread.slots (chased d x.thread.slots w.slot)) ≡ true
      there d deep =
          let reference : slice_get x.thread.slots slot.0 ≡ Some (value.Mut lent.0) = slot.2 ∙ ap (λ v. Some v) lent.1 in
          let found : chased d x.thread.slots w.slot ≡ slot.0 = chased_there G n x (stands_there k c x g) w.slot i slot.0 d lent.0 (omega (arith, lt, deep)) (located ∙ ap (λ l. Some l) slot.1) reference in
          ap (λ j. waits_under old (slice_get x.thread.slots j)) found ∙ ap (waits_under old) reference ∙ eq-eqb lent.0.word old (lent.2 ∙ word)

  at_hop : (w : Lval) (p : Path) → p ≡ lends w → (i : ℕ) (a : Awaited) → a.comes ≡ true → a.word ≡ old → AwaitsAt (sight k) x p i a → Pulls w ⊎ Chases w
  at_hop w _ e i a comes word (before_lend v j _ lt q) = inr (subst Chases (same_place e) (chases v j a lt q comes word))
  at_hop w _ e i a comes word (at_lend v j _ deep q) = inl (subst Pulls (same_place e) (pulls v j a deep q comes word))
  at_hop w _ e i a comes word _ = absurd (cc e)

  pub lent_turn : (w : Lval) (p : Path) → p ≡ lends w → (a : Awaited) → a.comes ≡ true → a.word ≡ old → InTurn (sight k) x old a p → Pulls w ⊎ Chases w
  lent_turn w _ e a comes word (by_lend v f) = at_hop w (lends v) e f.number a comes word f.at
  lent_turn w _ e a comes word _ = absurd (cc e)
