-- What counts of a gift, of a result and of what nothing names.
use Rattle.std.proofs.Common.{◌≡◌, inl, inr, ℕ, zero, suc, ◌+◌, ◌≤◌, ◌==◌, ◌&&◌, ◌||◌, Bool, true, false, if◌then◌else◌, List, [], ◌∷◌, Option, Some, None, is_some, option_map, refl, sym, ap, ap₂, ◌∙◌, arith}
use Rattle.law_counts_sums.specs.Below.fr_base.declared.name.MutexNo.{MutexNo}
use Rattle.law_counts_sums.specs.Below.fr_base.declared.label.Plain.{Plain}
use Rattle.law_counts_sums.specs.Below.fr_base.declared.label.Plain.TheVariants as plain
use Rattle.law_counts_sums.specs.Below.fr_base.declared.instruction.Instr.{Instr}
use Rattle.law_counts_sums.specs.Below.fr_base.declared.instruction.Instr.TheVariants as instr
use Rattle.law_counts_sums.proofs.Below.fr_typing.PlaceLemmas.{eq_cases}
use Rattle.law_counts_sums.specs.Below.heap_partition.declared.value.Owned.{Owned}
use Rattle.law_counts_sums.specs.Below.join_home.Tasks.{TaskState, going, let_go, kept, asked, in_pair}
use Rattle.law_counts_sums.specs.Below.server_msgs.declared.message.Message.{Message}
use Rattle.law_counts_sums.specs.Below.server_msgs.declared.message.Message.TheVariants as message
use Rattle.law_counts_sums.specs.Below.server_model.Servers.{Cluster}
use Rattle.law_counts_sums.specs.Below.coherent_memory.Names.{tot, one, other, if_so, some, same_mutex, Among}
use Rattle.law_counts_sums.specs.Below.coherent_memory.Things.{Spot, in_slot, in_temp, as_gift, as_content, as_result, in_hand, Thing, holds, sent, stands, noted, things_of}
use Rattle.law_counts_sums.specs.Below.coherent_memory.Follow.{Standing, threads_in, thread_at}
use Rattle.law_counts_sums.specs.Below.coherent_memory.Sight.{Sight, sight, with_things}
use Rattle.law_counts_sums.specs.Below.coherent_memory.Paths.{joined_thread}
use Rattle.law_counts_sums.specs.Below.coherent_memory.Walking.{instr_of}
use Rattle.law_counts_sums.specs.Below.coherent_memory.Requests.{locked_mutex, is_mutex, is_task}
use Rattle.law_counts_sums.specs.Below.coherent_memory.Sharing.{got_phase}
use Rattle.law_counts_sums.specs.Below.coherent_memory.Weights.{is_thread}
use Rattle.law_counts_sums.specs.Below.coherent_memory.OneHeap.{Node, task_n, Owner, outside, content_owner, result_owner, gift_owner, gift_owner_of, spot_owner, owner_of, names, named_in, any_named, in_state_by, is_in_state, if_in, or_else, first_shown, is_gift_of, pair_note, pair_over, in_pair_of, is_branch, branch_result, is_joined_by, result_value, result_of}
use Rattle.law_heap_still.specs.events.Shows.{ShownThread, Sign, a_value, a_thread as a_shown_thread, a_branch, gift_spot_at, gift_spot_of, gift_spot, counted_at, is_named, held_branch, is_held, Counts}
use Rattle.law_heap_still.proofs.events.Told.{at_most, tot_same, told, ones, some_or, found}
use Rattle.law_heap_still.proofs.events.Gifts.{placed, telling, places_told}

-- a result, of a branch or of a task
abbrev pub shown_result : Sight → ℕ → Thing → Option Plain
shown_result s t x = or_else (branch_result t x) (result_value s t x)

-- GIFTS

-- a gift whose thread isn't found with one
abbrev pub gifted : Option Standing → Bool
gifted None = false
gifted (Some x) = is_some x.thread.gift

abbrev pub stray : Sight → Thing → ℕ
stray r (holds (as_gift t) v) = other (gifted (thread_at r.ground.threads t))
stray r x = 0

abbrev pub nought : {A : Type 0} → A → ℕ
nought x = 0

-- there is none, where no two threads have one number, and as many gifts stand as threads have one
pub no_stray_in : (c : Cluster) (b : List Thing) → ((gift : ℕ → ℕ) → tot (placed nought nought gift) b ≡ tot (telling nought nought gift) b) → ((t : ℕ) → tot (is_thread t) b ≤ 1) → tot (stray (with_things c b)) b ≡ 0
no_stray_in c b places few = omega (arith, tot_same (stray (with_things c b)) (placed nought nought lost) as_placed b, places lost, told_none b (λ x h. found x b (few x.thread.number) h))
  where
    lost : ℕ → ℕ
    lost t = other (gifted (thread_at (threads_in b) t))

    as_placed : (x : Thing) → stray (with_things c b) x ≡ placed nought nought lost x
    as_placed (holds (as_gift t) v) = refl
    as_placed (holds (in_slot t i) v) = refl
    as_placed (holds (in_temp t i) v) = refl
    as_placed (holds (as_content m) v) = refl
    as_placed (holds (as_result t) v) = refl
    as_placed (holds in_hand v) = refl
    as_placed _ = refl

    kept_none : (r t : ℕ) (x : TaskState) → telling nought nought lost (noted r (record { thread = t; state = x })) ≡ 0
    kept_none r t (kept v) = refl
    kept_none r t going = refl
    kept_none r t let_go = refl
    kept_none r t (asked p u) = refl
    kept_none r t (in_pair p d) = refl

    sent_none : (r : ℕ) (m : Message) → telling nought nought lost (sent r m) ≡ 0
    sent_none r (message.Finished t v) = refl
    sent_none r (message.Joined t v by) = refl
    sent_none r _ = refl

    held_none : (p : Spot) (v : Owned) → telling nought nought lost (holds p v) ≡ 0
    held_none (as_content m) v = refl
    held_none (as_result u) v = refl
    held_none (as_gift u) v = refl
    held_none (in_slot u i) v = refl
    held_none (in_temp u i) v = refl
    held_none in_hand v = refl

    found_gift : (g : Bool) (o : Option Standing) → gifted o ≡ g → if_so g (other (gifted o)) ≡ 0
    found_gift true o e = ap other e
    found_gift false o e = refl

    told_none : (xs : List Thing) → ((x : Standing) → Among x (threads_in xs) → thread_at (threads_in b) x.thread.number ≡ Some x) → tot (telling nought nought lost) xs ≡ 0
    told_none [] h = refl
    told_none (stands r p x ∷ xs) h =
        let y : Standing = record { server = r; packed = p; thread = x } in
        let own : if_so (is_some x.gift) (lost x.number) ≡ 0 = found_gift (is_some x.gift) (thread_at (threads_in b) x.number) (ap gifted (h y (inl refl))) in
        omega (arith, own, told_none xs (λ z q. h z (inr q)))
    told_none (noted r x ∷ xs) h = omega (arith, kept_none r x.thread x.state, told_none xs h)
    told_none (sent r m ∷ xs) h = omega (arith, sent_none r m, told_none xs h)
    told_none (holds p v ∷ xs) h = omega (arith, held_none p v, told_none xs h)
    told_none (_ ∷ xs) h = omega (arith, told_none xs h)

pub no_stray : (c : Cluster) → ((t : ℕ) → tot (is_thread t) (things_of c) ≤ 1) → tot (stray (sight c)) (things_of c) ≡ 0
no_stray c few = no_stray_in c (things_of c) (λ gift. places_told nought nought gift c) few

-- a gift counts as a content or a result, if as anything
pub by_gift_spot : (s : Sight) (P : Option Spot → Type 0) → P None → ((m : MutexNo) → P (Some (as_content m))) → ((t : ℕ) → P (Some (as_result t))) → (t : ℕ) → P (gift_spot s t)
by_gift_spot s P none content result t = by_thread (thread_at s.ground.threads t)
  where
    by_mutex : (o : Option MutexNo) → P (option_map as_content o)
    by_mutex None = none
    by_mutex (Some m) = content m

    by_task : (o : Option ℕ) → P (option_map as_result o)
    by_task None = none
    by_task (Some u) = result u

    by_instr : (x : Standing) (i : Option Instr) → P (gift_spot_at s x i)
    by_instr x (Some (instr.Lock w)) = by_mutex (locked_mutex s x (Some (instr.Lock w)))
    by_instr x (Some (instr.Join o)) = by_task (joined_thread (Some (instr.Join o)) x.thread)
    by_instr x _ = none

    by_thread : (o : Option Standing) → P (gift_spot_of s o)
    by_thread None = none
    by_thread (Some x) = by_instr x (instr_of s x)

-- who owns what stands there
abbrev pub spot_owned : Sight → Option Spot → Owner
spot_owned s None = outside
spot_owned s (Some p) = spot_owner s p

pub gift_owned : (s : Sight) (t : ℕ) → gift_owner_of s (thread_at s.ground.threads t) ≡ spot_owned s (gift_spot s t)
gift_owned s t = by_thread (thread_at s.ground.threads t)
  where
    by_mutex : (o : Option MutexNo) → content_owner o ≡ spot_owned s (option_map as_content o)
    by_mutex None = refl
    by_mutex (Some m) = refl

    by_task : (o : Option ℕ) → result_owner o ≡ spot_owned s (option_map as_result o)
    by_task None = refl
    by_task (Some u) = refl

    by_instr : (x : Standing) (i : Option Instr) → gift_owner s x i ≡ spot_owned s (gift_spot_at s x i)
    by_instr x (Some (instr.Lock w)) = by_mutex (locked_mutex s x (Some (instr.Lock w)))
    by_instr x (Some (instr.Join o)) = by_task (joined_thread (Some (instr.Join o)) x.thread)
    by_instr x _ = refl

    by_thread : (o : Option Standing) → gift_owner_of s o ≡ spot_owned s (gift_spot_of s o)
    by_thread None = refl
    by_thread (Some x) = by_instr x (instr_of s x)

-- which mutex's content a value there is, and which thread's result
abbrev pub is_content_at : MutexNo → Option Spot → Bool
is_content_at m (Some (as_content n)) = same_mutex n m
is_content_at m o = false

abbrev pub is_result_at : ℕ → Option Spot → Bool
is_result_at t (Some (as_result u)) = u == t
is_result_at t o = false

pub number_turned : (t u : ℕ) → (t == u) ≡ (u == t)
number_turned t u = eq_cases (λ q. q ≡ (u == t)) t u (λ e. eq_cases (λ q. true ≡ q) u t (λ d. refl) (λ ne. absurd (ne (sym e)))) (λ ne. eq_cases (λ q. false ≡ q) u t (λ d. absurd (ne (sym d))) (λ other. refl))

pub same_turned : (m n : MutexNo) → same_mutex m n ≡ same_mutex n m
same_turned m n = ap₂ (λ p q. p && q) (number_turned m.home n.home) (number_turned m.count n.count)

pub some_one : (q : Bool) → some (one q) ≡ q
some_one true = refl
some_one false = refl

pub gift_is_content : (s : Sight) (m : MutexNo) (o : Option Standing) → gifted o ≡ true → is_gift_of s m o ≡ is_content_at m (gift_spot_of s o)
gift_is_content s m None e = absurd (cc e)
gift_is_content s m (Some x) e = ap (λ g. some (if_so g (one (is_mutex m (locked_mutex s x (instr_of s x)))))) e ∙ some_one (is_mutex m (locked_mutex s x (instr_of s x))) ∙ by (instr_of s x)
  where
    by_mutex : (o : Option MutexNo) → is_mutex m o ≡ is_content_at m (option_map as_content o)
    by_mutex None = refl
    by_mutex (Some n) = same_turned m n

    no_task : (o : Option ℕ) → false ≡ is_content_at m (option_map as_result o)
    no_task None = refl
    no_task (Some u) = refl

    by : (i : Option Instr) → is_mutex m (locked_mutex s x i) ≡ is_content_at m (gift_spot_at s x i)
    by (Some (instr.Lock w)) = by_mutex (locked_mutex s x (Some (instr.Lock w)))
    by (Some (instr.Join o)) = no_task (joined_thread (Some (instr.Join o)) x.thread)
    by _ = refl

pub gift_is_result : (s : Sight) (t : ℕ) (o : Option Standing) → gifted o ≡ true → is_joined_by s t o ≡ is_result_at t (gift_spot_of s o)
gift_is_result s t None e = absurd (cc e)
gift_is_result s t (Some x) e = ap (λ g. some (if_so g (one (is_task t (joined_thread (instr_of s x) x.thread))))) e ∙ some_one (is_task t (joined_thread (instr_of s x) x.thread)) ∙ by (instr_of s x)
  where
    by_task : (o : Option ℕ) → is_task t o ≡ is_result_at t (option_map as_result o)
    by_task None = refl
    by_task (Some u) = number_turned t u

    no_mutex : (o : Option MutexNo) → false ≡ is_result_at t (option_map as_content o)
    no_mutex None = refl
    no_mutex (Some m) = refl

    by : (i : Option Instr) → is_task t (joined_thread i x.thread) ≡ is_result_at t (gift_spot_at s x i)
    by (Some (instr.Lock w)) = no_mutex (locked_mutex s x (Some (instr.Lock w)))
    by (Some (instr.Join o)) = by_task (joined_thread (Some (instr.Join o)) x.thread)
    by _ = refl

-- WHAT COUNTS

-- a weight of neither values nor branches, that sees no more of a pair than who is in it
pub no_values : (s : Sight) (w : Sign → ℕ) → ((p : Spot) (v : Plain) → w (a_value p v) ≡ 0) → ((t : ℕ) (d : Bool) → w (a_branch t d) ≡ 0) → ((y : ShownThread) → w (a_shown_thread y true) ≡ w (a_shown_thread y false)) → Counts s w
no_values s w z b p = record {
  gifts = λ t v. z (as_gift t) v ∙ sym (by (gift_spot s t) v);
  contents = λ m v e. z (as_content m) v;
  results = λ t v e f. z (as_result t) v;
  branches = λ t. omega (arith, b t true, b t false, z (as_result t) plain.Unit);
  pairs = λ y i j e f. omega (arith, p y, b i true, b j true);
}
  where
    by : (o : Option Spot) (v : Plain) → counted_at w o v ≡ 0
    by None v = refl
    by (Some q) v = z q v

-- what nothing names isn't in the state
pub unnamed_out : (s : Sight) (i : ℕ) (n : Node) → is_named s n ≡ false → in_state_by i s n ≡ false
unnamed_out s zero n e = refl
unnamed_out s (suc i) n e = none s.things e
  where
    neither : (p q : Bool) → (p || q) ≡ false → (p ≡ false) × (q ≡ false)
    neither true q z = absurd (cc z)
    neither false q z = (refl, z)

    none : (b : List Thing) → some (tot (λ x. one (names n x)) b) ≡ false → any_named s (in_state_by i s) n b ≡ false
    none [] z = refl
    none (x ∷ b) z =
        let p = neither (names n x) (some (tot (λ y. one (names n y)) b)) (sym (some_or (names n x) (tot (λ y. one (names n y)) b)) ∙ z) in
        ap (λ q. named_in q (in_state_by i s) (owner_of s x) || any_named s (in_state_by i s) n b) p.0 ∙ none b p.1

-- RESULTS THAT ARE SHOWN

pub none_some : (n : ℕ) → some n ≡ false → n ≡ 0
none_some zero e = refl
none_some (suc n) e = absurd (cc e)

-- of two things that are shown once together, the first is the first of either
module _ (f g : Thing → Option Plain) where
  abbrev pub either : Thing → Option Plain
  either x = or_else (f x) (g x)

  pub none_first : (b : List Thing) → tot (λ x. told ones (either x)) b ≡ 0 → (first_shown f b ≡ None) × (first_shown g b ≡ None)
  none_first [] z = (refl, refl)
  none_first (x ∷ b) z = by (f x) (g x) z (none_first b)
    where
      by : (o p : Option Plain) → told ones (or_else o p) + tot (λ x. told ones (either x)) b ≡ 0 → (tot (λ x. told ones (either x)) b ≡ 0 → (first_shown f b ≡ None) × (first_shown g b ≡ None))
          → (or_else o (first_shown f b) ≡ None) × (or_else p (first_shown g b) ≡ None)
      by None None z go = go (omega (arith, z))
      by None (Some v) z go = absurd (omega (arith, z))
      by (Some v) p z go = absurd (omega (arith, z))

  pub first_either : (b : List Thing) → tot (λ x. told ones (either x)) b ≤ 1 → first_shown either b ≡ or_else (first_shown f b) (first_shown g b)
  first_either [] l = refl
  first_either (x ∷ b) l = by (f x) (g x) l (none_first b) (first_either b)
    where
      by : (o p : Option Plain) → told ones (or_else o p) + tot (λ x. told ones (either x)) b ≤ 1 → (tot (λ x. told ones (either x)) b ≡ 0 → (first_shown f b ≡ None) × (first_shown g b ≡ None))
          → (tot (λ x. told ones (either x)) b ≤ 1 → first_shown either b ≡ or_else (first_shown f b) (first_shown g b))
          → or_else (or_else o p) (first_shown either b) ≡ or_else (or_else o (first_shown f b)) (or_else p (first_shown g b))
      by None None l none go = go (omega (arith, l))
      by None (Some v) l none go = ap (λ i. or_else i (Some v)) (sym (none (omega (arith, l))).0)
      by (Some v) p l none go = refl

-- a parent that has both
abbrev pub got_at : ℕ → Thing → ℕ
got_at t (stands r p x) = one (some (got_phase t x.phase))
got_at t x = 0

pub got_held : (t : ℕ) (x : Thing) → got_at t x ≤ held_branch t x
got_held t (stands r p x) = omega arith
got_held t _ = omega arith

module _ (s : Sight) (t : ℕ) where
  abbrev pub br : Option Plain
  br = first_shown (branch_result t) s.things

  abbrev pub rv : Option Plain
  rv = first_shown (result_value s t) s.things

  pub both_parts : (b : List Thing) → tot (held_branch t) b ≡ tot (in_pair_of t) b + tot (got_at t) b
  both_parts [] = refl
  both_parts (x ∷ b) = omega (arith, by x, both_parts b)
    where
      by : (x : Thing) → held_branch t x ≡ in_pair_of t x + got_at t x
      by (noted r x) = omega arith
      by (stands r p x) = omega arith
      by _ = refl

  pub held_branches : tot (got_at t) s.things ≡ 0 → is_held s t ≡ is_branch s t
  held_branches z = let same : tot (held_branch t) s.things ≡ tot (in_pair_of t) s.things = omega (arith, both_parts s.things, z) in ap some same

  pub got_result : (x : Thing) → got_at t x ≤ told ones (shown_result s t x)
  got_result (stands r p x) = by (some (got_phase t x.phase))
    where
      by : (q : Bool) → one q ≤ told ones (or_else (if_in q (Some plain.Unit)) None)
      by true = omega arith
      by false = omega arith
  got_result _ = omega arith

  pub no_got : tot (λ x. told ones (shown_result s t x)) s.things ≡ 0 → tot (got_at t) s.things ≡ 0
  no_got z = omega (arith, z, at_most (got_at t) (λ x. told ones (shown_result s t x)) got_result s.things)

  -- where no result of a branch is shown, no parent has it; and where none is held, none is shown
  pub none_got : (b : List Thing) → first_shown (branch_result t) b ≡ None → tot (got_at t) b ≡ 0
  none_got [] e = refl
  none_got (stands r p x ∷ b) e = by (some (got_phase t x.phase)) e (none_got b)
    where
      by : (q : Bool) → or_else (if_in q (Some plain.Unit)) (first_shown (branch_result t) b) ≡ None → (first_shown (branch_result t) b ≡ None → tot (got_at t) b ≡ 0) → one q + tot (got_at t) b ≡ 0
      by true e go = absurd (cc e)
      by false e go = omega (arith, go e)
  none_got (noted r x ∷ b) e = omega (arith, none_got b (second (branch_result t (noted r x)) e))
    where
      second : (o : Option Plain) → or_else o (first_shown (branch_result t) b) ≡ None → first_shown (branch_result t) b ≡ None
      second None e = e
      second (Some v) e = absurd (cc e)
  none_got (_ ∷ b) e = omega (arith, none_got b e)

  pub none_held : (b : List Thing) → tot (held_branch t) b ≡ 0 → first_shown (branch_result t) b ≡ None
  none_held [] z = refl
  none_held (noted r x ∷ b) z = by (x.thread == t) x.state z (none_held b)
    where
      by : (q : Bool) (i : TaskState) → if_so q (pair_note i) + tot (held_branch t) b ≡ 0 → (tot (held_branch t) b ≡ 0 → first_shown (branch_result t) b ≡ None) → or_else (if q then pair_over i else None) (first_shown (branch_result t) b) ≡ None
      by true (in_pair p o) z go = absurd (omega (arith, z))
      by true going z go = go (omega (arith, z))
      by true let_go z go = go (omega (arith, z))
      by true (kept v) z go = go (omega (arith, z))
      by true (asked r u) z go = go (omega (arith, z))
      by false i z go = go (omega (arith, z))
  none_held (stands r p x ∷ b) z = by (some (got_phase t x.phase)) z (none_held b)
    where
      by : (q : Bool) → one q + tot (held_branch t) b ≡ 0 → (tot (held_branch t) b ≡ 0 → first_shown (branch_result t) b ≡ None) → or_else (if_in q (Some plain.Unit)) (first_shown (branch_result t) b) ≡ None
      by true z go = absurd (omega (arith, z))
      by false z go = go (omega (arith, z))
  none_held (_ ∷ b) z = none_held b (omega (arith, z))

  pub result_none : is_held s t || is_in_state s (task_n t) ≡ false → result_of s t ≡ None
  result_none e =
      let none : tot (held_branch t) s.things ≡ 0 = none_some (tot (held_branch t) s.things) (halves (is_held s t) (is_in_state s (task_n t)) e).0 in
      let empty : tot (in_pair_of t) s.things ≡ 0 = omega (arith, none, both_parts s.things) in
      let bare : is_branch s t ≡ false = ap some empty in
      ap (λ o. or_else o (if_in (is_branch s t || is_in_state s (task_n t)) rv)) (none_held s.things none) ∙ ap (λ q. if_in (q || is_in_state s (task_n t)) rv) bare ∙ ap (λ q. if_in q rv) (halves (is_held s t) (is_in_state s (task_n t)) e).1
    where
      halves : (p q : Bool) → (p || q) ≡ false → (p ≡ false) × (q ≡ false)
      halves true q e = absurd (cc e)
      halves false q e = (refl, e)

  -- the result is what is shown of it, where the thread is a branch or named in the state
  pub result_shown : tot (λ x. told ones (shown_result s t x)) s.things ≤ 1 → result_of s t ≡ if_in (is_held s t || is_in_state s (task_n t)) (first_shown (shown_result s t) s.things)
  result_shown few = by (is_held s t || is_in_state s (task_n t)) refl
    where
      first : first_shown (shown_result s t) s.things ≡ or_else br rv
      first = first_either (branch_result t) (result_value s t) s.things few

      all : (o : Option Plain) → br ≡ o → is_held s t || is_in_state s (task_n t) ≡ true → result_of s t ≡ or_else br rv
      all (Some v) e f = ap (λ i. or_else i (if_in (is_branch s t || is_in_state s (task_n t)) rv)) e ∙ sym (ap (λ i. or_else i rv) e)
      all None e f = ap (λ q. or_else br (if_in q rv)) (ap (λ q. q || is_in_state s (task_n t)) (sym (held_branches (none_got s.things e))) ∙ f)

      by : (q : Bool) → is_held s t || is_in_state s (task_n t) ≡ q → result_of s t ≡ if_in q (first_shown (shown_result s t) s.things)
      by true e = all br refl e ∙ sym first
      by false e = result_none e
