-- A thread's hand while it reads a place: it has pinned copies, and nothing else that reading sees is changed.
use Rattle.std.proofs.Common.{◌≡◌, ◌≤◌, ◌<◌, ℕ, zero, suc, ◌+◌, ◌-◌, ◌^◌, ◌==◌, nat_lt, is_some, Bool, true, false, if◌then◌else◌, List, [], ◌∷◌, ◌++◌, length, map, Option, Some, None, option_map, refl, sym, ap, subst, ◌∙◌, arith}
use Rattle.std.specs.Prelude.{slice_get, slice_set}
use Rattle.std.proofs.lemmas.Option.{slice_get-map, slice_get_within}
use Rattle.std.proofs.lemmas.Bool.Decides.{nat_tests}
use Rattle.law_counts_sums.proofs.Below.fr_typing.PlaceLemmas.{eq_cases}
use Rattle.law_counts_sums.specs.Below.fr_base.Lists.{is_in}
use Rattle.law_counts_sums.specs.Below.mut_borrow.declared.shared.SharedRef.{SharedRef}
use Rattle.law_counts_sums.specs.Below.migration.Packing.{unpinned, pinned_word, pinned_words, used_words}
use Rattle.law_counts_sums.specs.Below.read_cache.Cache.{Copy, copy_of, cell_in, hit, is_cached, users, users_in, with_users, can_pin, pin}
use Rattle.law_counts_sums.specs.Below.thread_state.View.{ThreadState}
use Rattle.law_counts_sums.specs.Below.thread_state.declared.value.Value.{Value}
use Rattle.law_counts_sums.specs.Below.thread_state.declared.value.Value.TheVariants as value
use Rattle.law_counts_sums.specs.Below.server_model.Servers.{Rest}
use Rattle.law_counts_sums.specs.Below.server_model.Work.{Hand, with_cache, with_slots, working, used_once, use_word}
use Rattle.law_counts_sums.specs.Below.server_model.Places.{in_slot}
use Rattle.law_counts_sums.specs.Below.server_model.Prepare.{pinned_once}
use Rattle.law_counts_sums.specs.Below.coherent_memory.Names.{one}
use Rattle.law_results_reads.proofs.Usable.{times, times_append, Usable, other_users}

-- VALUES UP TO THEIR PINS

-- two values are the same, or shared references with the same pointer
pub data Alike : Value → Value → Type 0 where
  equal : {v : Value} → Alike v v
  both_shared : (q r : SharedRef) → q.word ≡ r.word → q.object ≡ r.object → Alike (value.Shared q) (value.Shared r)

pub alike_of : (u v : Value) → unpinned u ≡ unpinned v → Alike u v
alike_of (value.Shared q) (value.Shared r) e =
    let refs : record q { pinned = false } ≡ record r { pinned = false } = cc in
    both_shared q r (ap (λ (z : SharedRef). z.word) refs) (ap (λ (z : SharedRef). z.object) refs)
alike_of (value.Shared q) value.Gone e = absurd cc
alike_of (value.Shared q) (value.Own v) e = absurd cc
alike_of (value.Shared q) (value.SharedSlot i) e = absurd cc
alike_of (value.Shared q) (value.MutSlot i) e = absurd cc
alike_of (value.Shared q) (value.Mut r) e = absurd cc
alike_of (value.Shared q) (value.Held m) e = absurd cc
alike_of value.Gone (value.Shared r) e = absurd cc
alike_of (value.Own u) (value.Shared r) e = absurd cc
alike_of (value.SharedSlot i) (value.Shared r) e = absurd cc
alike_of (value.MutSlot i) (value.Shared r) e = absurd cc
alike_of (value.Mut q) (value.Shared r) e = absurd cc
alike_of (value.Held m) (value.Shared r) e = absurd cc
alike_of value.Gone value.Gone e = equal
alike_of (value.Own u) (value.Own v) e = subst (Alike (value.Own u)) e equal
alike_of (value.SharedSlot i) (value.SharedSlot j) e = subst (Alike (value.SharedSlot i)) e equal
alike_of (value.MutSlot i) (value.MutSlot j) e = subst (Alike (value.MutSlot i)) e equal
alike_of (value.Mut q) (value.Mut r) e = subst (Alike (value.Mut q)) e equal
alike_of (value.Held m) (value.Held n) e = subst (Alike (value.Held m)) e equal
alike_of value.Gone _ e = absurd cc
alike_of (value.Own u) _ e = absurd cc
alike_of (value.SharedSlot i) _ e = absurd cc
alike_of (value.MutSlot i) _ e = absurd cc
alike_of (value.Mut q) _ e = absurd cc
alike_of (value.Held m) _ e = absurd cc

-- what stands at the same place of lists that are alike
pub alike_at : (xs ys : List Value) (i : ℕ) (v : Value) → map unpinned xs ≡ map unpinned ys → slice_get ys i ≡ Some v → (u : Value) × (slice_get xs i ≡ Some u) × Alike u v
alike_at xs ys i v e f = by (slice_get xs i) refl both
  where
    both : option_map unpinned (slice_get xs i) ≡ Some (unpinned v)
    both = sym (slice_get-map unpinned xs i) ∙ ap (λ l. slice_get l i) e ∙ slice_get-map unpinned ys i ∙ ap (option_map unpinned) f

    by : (o : Option Value) → slice_get xs i ≡ o → option_map unpinned o ≡ Some (unpinned v) → (u : Value) × (slice_get xs i ≡ Some u) × Alike u v
    by None q h = absurd cc
    by (Some u) q h = let g : unpinned u ≡ unpinned v = cc in (u, q, alike_of u v g)

-- another value with the same look
pub set_alike : (xs : List Value) (i : ℕ) (v new : Value) → slice_get xs i ≡ Some v → unpinned new ≡ unpinned v → map unpinned (slice_set xs i new) ≡ map unpinned xs
set_alike [] i v new e f = refl
set_alike (x ∷ xs) zero v new e f = let q : x ≡ v = cc in ap (λ z. z ∷ map unpinned xs) (f ∙ ap unpinned (sym q))
set_alike (x ∷ xs) (suc i) v new e f = ap (λ l. unpinned x ∷ l) (set_alike xs i v new e f)

-- PINS

pinned_first : (w : ℕ) (v : Value) (vs : List Value) → times w (pinned_words (v ∷ vs)) ≡ times w (pinned_words (v ∷ [])) + times w (pinned_words vs)
pinned_first w (value.Shared r) vs = by r.pinned
  where
    by : (b : Bool) → times w (pinned_word r b (pinned_words vs)) ≡ times w (pinned_word r b []) + times w (pinned_words vs)
    by true = omega arith
    by false = omega arith
pinned_first w value.Gone vs = omega arith
pinned_first w (value.Own x) vs = omega arith
pinned_first w (value.SharedSlot i) vs = omega arith
pinned_first w (value.MutSlot i) vs = omega arith
pinned_first w (value.Mut r) vs = omega arith
pinned_first w (value.Held m) vs = omega arith

-- in place of one value another
pub pinned_set : (w : ℕ) (vs : List Value) (i : ℕ) (v new : Value) → slice_get vs i ≡ Some v → times w (pinned_words (slice_set vs i new)) + times w (pinned_words (v ∷ [])) ≡ times w (pinned_words vs) + times w (pinned_words (new ∷ []))
pinned_set w [] i v new e = absurd (cc e)
pinned_set w (x ∷ vs) zero v new e = let q : x ≡ v = cc in let a = ap (λ z. times w (pinned_words (z ∷ []))) q in omega (arith, pinned_first w x vs, pinned_first w new vs, a)
pinned_set w (x ∷ vs) (suc i) v new e = omega (arith, pinned_first w x vs, pinned_first w x (slice_set vs i new), pinned_set w vs i v new e)

pub parts : (y : ThreadState) (w : ℕ) → times w (used_words y) ≡ times w y.walk + times w (pinned_words y.slots) + times w (pinned_words y.temps)
parts y w = omega (arith, times_append w (y.walk ++ pinned_words y.slots) (pinned_words y.temps), times_append w y.walk (pinned_words y.slots))

-- a use more of a word that is cached
hit_with : (cs : List Copy) (w m v : ℕ) → hit (with_users cs w m) v ≡ hit cs v
hit_with [] w m v = refl
hit_with (c ∷ cs) w m v =
    eq_cases (λ b. hit (if b then record c { users = m } ∷ cs else c ∷ with_users cs w m) v ≡ hit (c ∷ cs) v) c.word w
    (λ e. eq_cases (λ b. cell_in (if b then Some (record c { users = m }) else copy_of cs v) ≡ cell_in (if b then Some c else copy_of cs v)) c.word v (λ d. refl) (λ ne. refl))
    (λ ne. eq_cases (λ b. cell_in (if b then Some c else copy_of (with_users cs w m) v) ≡ cell_in (if b then Some c else copy_of cs v)) c.word v (λ d. refl) (λ q. hit_with cs w m v))

users_with : (cs : List Copy) (w m : ℕ) → is_cached cs w ≡ true → users (with_users cs w m) w ≡ m
users_with [] w m e = absurd (cc e)
users_with (c ∷ cs) w m e =
    eq_cases (λ b. is_some (if b then Some c else copy_of cs w) ≡ true → users (if b then record c { users = m } ∷ cs else c ∷ with_users cs w m) w ≡ m) c.word w
    (λ q h. eq_cases (λ b. users_in (if b then Some (record c { users = m }) else copy_of cs w) ≡ m) c.word w (λ d. refl) (λ ne. absurd (ne q)))
    (λ ne h. eq_cases (λ b. users_in (if b then Some c else copy_of (with_users cs w m) w) ≡ m) c.word w (λ d. absurd (ne d)) (λ q. users_with cs w m h)) e

pub cached_hit : (cs : List Copy) (w : ℕ) → is_cached cs w ≡ is_some (hit cs w)
cached_hit cs w = by (copy_of cs w)
  where
    by : (o : Option Copy) → is_some o ≡ is_some (cell_in o)
    by None = refl
    by (Some c) = refl

-- THE HAND

-- so many copies were pinned at most, from the thread y at the server r; n bounds the users at the start
pub record Reading (y : ThreadState) (r : Rest) (n j : ℕ) (h : Hand) : Type 0 where
  pub number : h.work.rest.number ≡ r.number
  pub partition : h.work.rest.partition ≡ r.partition
  pub hits : (w : ℕ) → hit h.work.rest.cache w ≡ hit r.cache w
  pub few : (w : ℕ) → users h.work.rest.cache w ≤ n + j
  pub usable : Usable h.thread h.work.rest.cache
  pub slots : map unpinned h.thread.slots ≡ map unpinned y.slots
  pub temps : h.thread.temps ≡ y.temps
  pub gift : h.thread.gift ≡ y.gift
  pub phase : h.thread.phase ≡ y.phase
  pub id : h.thread.number ≡ y.number

module _ (y : ThreadState) (r : Rest) (n : ℕ) (few : n + 16 < 2 ^ 64) where
  pub one_more : (j : ℕ) (h : Hand) → Reading y r n j h → Reading y r n (j + 1) h
  one_more j h a = record { number = a.number; partition = a.partition; hits = a.hits; few = λ w. omega (arith, a.few w); usable = a.usable; slots = a.slots; temps = a.temps; gift = a.gift; phase = a.phase; id = a.id }

  -- what is noted and labelled makes no difference
  pub noted : (j : ℕ) (h : Hand) (f : Rattle.law_counts_sums.specs.Below.server_model.Work.Work → Rattle.law_counts_sums.specs.Below.server_model.Work.Work) → (f h.work).rest ≡ h.work.rest → Reading y r n j h → Reading y r n j (working f h)
  noted j h f same a = record {
    number = ap (λ (x : Rest). x.number) same ∙ a.number;
    partition = ap (λ (x : Rest). x.partition) same ∙ a.partition;
    hits = λ w. ap (λ (x : Rest). hit x.cache w) same ∙ a.hits w;
    few = λ w. subst (λ (x : Rest). users x.cache w ≤ n + j) (sym same) (a.few w);
    usable = subst (λ (x : Rest). Usable h.thread x.cache) (sym same) a.usable;
    slots = a.slots;
    temps = a.temps;
    gift = a.gift;
    phase = a.phase;
    id = a.id;
  }

  able : (j : ℕ) (h : Hand) (w : ℕ) → j ≤ 8 → Reading y r n j h → is_cached h.work.rest.cache w ≡ true → can_pin h.work.rest.cache w ≡ true
  able j h w l a e =
      let below : users h.work.rest.cache w < 2 ^ 64 - 1 = omega (arith, a.few w, few, l) in
      let test : nat_lt (users h.work.rest.cache w) (2 ^ 64 - 1) ≡ true = grind (arith, nat_tests, below) in
      rw e test

  few_more : (j : ℕ) (h : Hand) (w v : ℕ) → Reading y r n j h → is_cached h.work.rest.cache w ≡ true → users (pin h.work.rest.cache w) v ≤ n + (j + 1)
  few_more j h w v a e =
      eq_cases (λ b. users (pin h.work.rest.cache w) v ≤ n + (j + 1)) v w
      (λ q. subst (λ x. users (pin h.work.rest.cache w) x ≤ n + (j + 1)) (sym q) (omega (arith, a.few w, users_with h.work.rest.cache w (users h.work.rest.cache w + 1) e)))
      (λ ne. omega (arith, a.few v, other_users h.work.rest.cache w (users h.work.rest.cache w + 1) v ne))

  -- one use more of the word, and as many of the others
  pinned_users : (j : ℕ) (h : Hand) (w v : ℕ) → is_cached h.work.rest.cache w ≡ true → users (pin h.work.rest.cache w) v ≡ users h.work.rest.cache v + one (w == v)
  pinned_users j h w v e =
      eq_cases (λ b. users (pin h.work.rest.cache w) v ≡ users h.work.rest.cache v + one b) w v
      (λ q. subst (λ x. users (pin h.work.rest.cache w) x ≡ users h.work.rest.cache x + 1) q (users_with h.work.rest.cache w (users h.work.rest.cache w + 1) e))
      (λ ne. omega (arith, other_users h.work.rest.cache w (users h.work.rest.cache w + 1) v (λ q. ne (sym q))))

  -- A WORD OF THE WALK

  abbrev Used : ℕ → Option Hand → Type 0
  Used j o = (h2 : Hand) × (o ≡ Some h2) × Reading y r n (j + 1) h2

  pub uses : (j : ℕ) (h : Hand) (w : ℕ) → j ≤ 8 → Reading y r n j h → is_cached h.work.rest.cache w ≡ true → Used j (use_word w h)
  uses j h w l a e = by (is_in w h.thread.walk)
    where
      longer : ThreadState
      longer = record h.thread { walk = h.thread.walk ++ w ∷ [] }

      used_now : (v : ℕ) → times v (used_words longer) ≤ users (pin h.work.rest.cache w) v
      used_now v =
          omega (arith, parts longer v, parts h.thread v, times_append v h.thread.walk (w ∷ []), a.usable v, pinned_users j h w v e)

      by : (b : Bool) → Used j (used_once w b h)
      by true = (h, refl, one_more j h a)
      by false =
          let h2 : Hand = record { work = with_cache (pin h.work.rest.cache w) h.work; thread = longer } in (
            h2,
            ap (λ b. if b then Some h2 else None) (able j h w l a e),
            record {
              number = a.number;
              partition = a.partition;
              hits = λ v. hit_with h.work.rest.cache w (users h.work.rest.cache w + 1) v ∙ a.hits v;
              few = λ v. few_more j h w v a e;
              usable = used_now;
              slots = a.slots;
              temps = a.temps;
              gift = a.gift;
              phase = a.phase;
              id = a.id;
            },
          )

  -- A REFERENCE IN A SLOT

  pub pins : (j : ℕ) (h : Hand) (i : ℕ) (q : SharedRef) → j ≤ 8 → Reading y r n j h → is_cached h.work.rest.cache q.word ≡ true → slice_get h.thread.slots i ≡ Some (value.Shared q) → Used j (pinned_once (in_slot i) q q.pinned h)
  pins j h i q l a e at = by q.pinned refl
    where
      kept : Value
      kept = value.Shared (record q { pinned = true })

      changed : ThreadState
      changed = record h.thread { slots = slice_set h.thread.slots i kept }

      within : i < length h.thread.slots
      within = slice_get_within h.thread.slots i (value.Shared q) at

      used_now : q.pinned ≡ false → (v : ℕ) → times v (used_words changed) ≤ users (pin h.work.rest.cache q.word) v
      used_now free v =
          let none : times v (pinned_words (value.Shared q ∷ [])) ≡ 0 = ap (λ b. times v (pinned_word q b [])) free in
          omega (arith, parts changed v, parts h.thread v, pinned_set v h.thread.slots i (value.Shared q) kept at, none, a.usable v, pinned_users j h q.word v e)

      by : (b : Bool) → q.pinned ≡ b → Used j (pinned_once (in_slot i) q b h)
      by true f = (h, refl, one_more j h a)
      by false f =
          let h2 : Hand = with_slots (slice_set h.thread.slots i kept) (working (with_cache (pin h.work.rest.cache q.word)) h) in
          let test : nat_lt i (length h.thread.slots) ≡ true = grind (arith, nat_tests, within) in (
            h2,
            ap (λ b. if b then (if nat_lt i (length h.thread.slots) then Some h2 else None) else None) (able j h q.word l a e) ∙ ap (λ b. if b then Some h2 else None) test,
            record {
              number = a.number;
              partition = a.partition;
              hits = λ v. hit_with h.work.rest.cache q.word (users h.work.rest.cache q.word + 1) v ∙ a.hits v;
              few = λ v. few_more j h q.word v a e;
              usable = used_now f;
              slots = set_alike h.thread.slots i (value.Shared q) kept at refl ∙ a.slots;
              temps = a.temps;
              gift = a.gift;
              phase = a.phase;
              id = a.id;
            },
          )
