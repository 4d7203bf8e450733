-- The delivery of a `finished`: a result is kept, sent, dropped, or is a branch's and vanishes.
use Rattle.std.proofs.Common.{◌≡◌, ℕ, ◌<◌, ◌==◌, nat_lt, Bool, true, false, if◌then◌else◌, List, [], ◌∷◌, ◌++◌, Option, Some, None, refl, sym, ap, subst, ◌∙◌, arith}
use Rattle.std.proofs.lemmas.Bool.Decides.{nat_tests}
use Rattle.coherent_memory.proofs.Below.fr_typing.PlaceLemmas.{eq_cases}
use Rattle.coherent_memory.specs.Below.heap_partition.declared.value.Owned.{Owned}
use Rattle.coherent_memory.specs.Below.heap_partition.declared.value.Owned.TheVariants as owned
use Rattle.coherent_memory.specs.Below.join_home.Tasks.{Task, TaskState, going, let_go, kept, asked, in_pair, task_in, state_in, without_task, over_of, over_in, pair_ended, ended_from, ended}
use Rattle.coherent_memory.specs.Below.join_home.declared.answers.EndedAs.{EndedAs}
use Rattle.coherent_memory.specs.Below.join_home.declared.answers.EndedAs.TheVariants as ended_as
use Rattle.coherent_memory.specs.Below.server_msgs.declared.message.Message.TheVariants as message
use Rattle.coherent_memory.specs.Below.server_model.Work.{Work, Site, with_tasks}
use Rattle.coherent_memory.specs.Below.server_model.Drop.{give_up}
use Rattle.coherent_memory.specs.Below.server_model.Joining.{answer, got_par, pair_over, end_answer, deliver_finished}
use Rattle.coherent_memory.specs.Below.server_model.Places.{owns_nothing}
use Rattle.coherent_memory.specs.Names.{tot, other}
use Rattle.coherent_memory.specs.Naming.{rising, rising_from, numbers_of}
use Rattle.coherent_memory.specs.Rooted.{is_unit}
use Rattle.coherent_memory.specs.Things.{Thing, in_hand, as_result, holds, sent, noted, result_things, task_things}
use Rattle.law_counts_sums.specs.Laws.{Gives}
use Rattle.law_counts_sums.proofs.Trades.{Trade, tot-append, trade_none}
use Rattle.law_counts_sums.proofs.Rules.{Rule, turned, goes, hands_on, notes, unnotes, beside, in_turn, Kept}
use Rattle.law_counts_sums.proofs.Results.{map_gives, bind_gives}
use Rattle.law_counts_sums.proofs.Bags.{WorkOk, SiteOk, all_standing, rest_things}
use Rattle.law_counts_sums.proofs.Chains.{work_front, site_trades, at_thread_keeps, beside_keeps, phase_changes}
use Rattle.law_counts_sums.proofs.Objects.{one_goes}
use Rattle.law_counts_sums.proofs.Uses.{gives_up}
use Rattle.law_counts_sums.proofs.Messages.{site_receives}
use Rattle.law_counts_sums.proofs.TaskMessages.{note_rule, puts_state, unnotes_task, answers}

-- THE OTHER OF A PAIR

some_same : {a b : ℕ} → Some a ≡ Some b → a ≡ b
some_same e = cc

below : (m n : ℕ) → other (nat_lt m n) ≡ 0 → m < n
below m n = by (nat_lt m n) refl
  where
    by : (b : Bool) → nat_lt m n ≡ b → other b ≡ 0 → m < n
    by true e z = grind (arith, nat_tests, e)
    by false e z = absurd (cc z)

-- where numbers rise, the one that is found by its parent is the one that its number finds
abbrev pub Found : List Task → ℕ → ℕ → Type 0
Found xs p o = (y : Task) × (task_in xs o ≡ Some y) × (over_of p y.state ≡ true)

over_finds : (p m : ℕ) (xs : List Task) (o : ℕ) → rising_from m (numbers_of (λ t. t.thread) xs) ≡ 0 → over_in xs p ≡ Some o → (m < o) × Found xs p o
over_finds p m [] o r e = absurd (cc e)
over_finds p m (x ∷ xs) o r e =
    let first : m < x.thread = below m x.thread (omega (arith, r)) in
    by first (over_of p x.state) refl e (over_finds p x.thread xs o (omega (arith, r)))
  where
    by : m < x.thread → (b : Bool) → over_of p x.state ≡ b → (if b then Some x.thread else over_in xs p) ≡ Some o → (over_in xs p ≡ Some o → (x.thread < o) × Found xs p o) → (m < o) × Found (x ∷ xs) p o
    by l true h d go =
        let same : x.thread ≡ o = some_same d in
        (omega (arith, l, same), (x, eq_cases (λ b. (if b then Some x else task_in xs o) ≡ Some x) x.thread o (λ q. refl) (λ ne. absurd (ne same)), h))
    by l false h d go =
        let rest = go d in
        let here : task_in (x ∷ xs) o ≡ Some rest.1.0 = eq_cases (λ b. (if b then Some x else task_in xs o) ≡ Some rest.1.0) x.thread o (λ q. absurd (omega (arith, q, rest.0))) (λ ne. rest.1.1) in
        (omega (arith, l, rest.0), (rest.1.0, here, rest.1.2))

pub pair_finds : (p : ℕ) (xs : List Task) (o : ℕ) → rising (numbers_of (λ t. t.thread) xs) ≡ 0 → over_in xs p ≡ Some o → Found xs p o
pair_finds p [] o r e = absurd (cc e)
pair_finds p (x ∷ xs) o r e = by (over_of p x.state) refl e
  where
    by : (b : Bool) → over_of p x.state ≡ b → (if b then Some x.thread else over_in xs p) ≡ Some o → Found (x ∷ xs) p o
    by true h d =
        let same : x.thread ≡ o = some_same d in
        (x, eq_cases (λ b. (if b then Some x else task_in xs o) ≡ Some x) x.thread o (λ q. refl) (λ ne. absurd (ne same)), h)
    by false h d =
        let rest = over_finds p x.thread xs o r d in
        (rest.1.0, eq_cases (λ b. (if b then Some x else task_in xs o) ≡ Some rest.1.0) x.thread o (λ q. absurd (omega (arith, q, rest.0))) (λ ne. rest.1.1), rest.1.2)

-- another number finds the same without one
pub other_stays : (xs : List Task) (t o : ℕ) (y : Task) → ((t ≡ o) → ⊥) → task_in xs o ≡ Some y → task_in (without_task xs t) o ≡ Some y
other_stays [] t o y ne e = e
other_stays (x ∷ xs) t o y ne e =
    eq_cases (λ b. task_in (if b then xs else x ∷ without_task xs t) o ≡ Some y) x.thread t
    (λ q. eq_cases (λ c. (if c then Some x else task_in xs o) ≡ Some y → task_in xs o ≡ Some y) x.thread o (λ r d. absurd (ne (omega (arith, q, r)))) (λ nr d. d) e)
    (λ nq. eq_cases (λ c. (if c then Some x else task_in xs o) ≡ Some y → (if c then Some x else task_in (without_task xs t) o) ≡ Some y) x.thread o (λ r d. d) (λ nr d. other_stays xs t o y ne d) e)

pub same_task : {x y : Task} → Some x ≡ Some y → x ≡ y
same_task e = cc

pub not_over : (p q : ℕ) (s : TaskState) → s ≡ in_pair q false → over_of p s ≡ true → ⊥
not_over p q s e h = by (p == q) (subst (λ z. over_of p z ≡ true) e h)
  where
    by : (b : Bool) → Rattle.std.specs.Prelude.◌&&◌ b false ≡ true → ⊥
    by true d = absurd (cc d)
    by false d = absurd (cc d)

bare_over : (p u : ℕ) (s : TaskState) → over_of p s ≡ true → result_things u s ≡ []
bare_over p u (in_pair q b) h = refl
bare_over p u going h = refl
bare_over p u let_go h = refl
bare_over p u (asked a b) h = refl
bare_over p u (kept v) h = absurd (cc h)

light : (v : Owned) → is_unit v ≡ true → owns_nothing v ≡ true
light owned.Unit h = refl
light owned.Nothing h = refl
light (owned.Int i) h = refl
light (owned.Box p) h = absurd (cc h)
light (owned.Mutex m) h = absurd (cc h)
light (owned.Task t) h = absurd (cc h)

-- what there is in the hand then
abbrev after_ended : EndedAs → List Thing
after_ended (ended_as.Answer s by v) = holds in_hand v ∷ []
after_ended (ended_as.Both p) = []
after_ended (ended_as.LetGo v) = holds in_hand v ∷ []
after_ended ended_as.Kept = []

-- what a sound cluster has of the notes where that thread has ended with that result
pub record PairsAreRight (xs : List Task) (u : ℕ) (v : Owned) : Type 0 where
  -- the notes stand by rising number
  pub rise : rising (numbers_of (λ t. t.thread) xs) ≡ 0
  -- the result of a thread of a pair is unit
  pub unit : (x : Task) (p : ℕ) → task_in xs u ≡ Some x → x.state ≡ in_pair p false → is_unit v ≡ true

module _ {K : List Thing → Type 0} (k : Kept K) (n e : ℕ) (others : List Thing) (u : ℕ) (v : Owned) where
  abbrev mine : Thing
  mine = holds in_hand v

  -- a note without a result, and whatever there is beside it
  bare_note : (x : Task) (z : TaskState) (b : List Thing) → x.state ≡ z → result_things x.thread z ≡ [] → Rule (task_things n 0 x ++ b) (noted n x ∷ b)
  bare_note x z b q bare =
      let empty : (f : Thing → ℕ) → tot f (result_things x.thread z) ≡ 0 = λ f. ap (tot f) bare in
      turned (task_things n 0 x ++ b) (noted n x ∷ b) (λ f. omega (arith, note_rule n x z q f, empty f, tot-append f (task_things n 0 x) b))

  gone_note : (x : Task) (z : TaskState) → x.state ≡ z → result_things x.thread z ≡ [] → Rule (task_things n 0 x ++ []) []
  gone_note x z q bare = in_turn (bare_note x z [] q bare) (unnotes n x)

  mine_goes : Trade (mine ∷ others) (mine ∷ []) [] others
  mine_goes = one_goes mine others

  abbrev EndedOk : Work → List Task × EndedAs → Type 0
  EndedOk w a = WorkOk K n e (after_ended a.1 ++ others) (with_tasks a.0 w)

  pair_ends : (w : Work) (x : Task) (p : ℕ) → PairsAreRight w.rest.tasks u v → task_in w.rest.tasks u ≡ Some x → x.state ≡ in_pair p false → (o : Option ℕ) → over_in w.rest.tasks p ≡ o
      → WorkOk K n e (mine ∷ others) w → EndedOk w (pair_ended w.rest.tasks u p o)
  pair_ends w x p right q z None m g =
      let y : Task = record { thread = u; state = in_pair p true } in
      let loose = goes mine (light v (right.unit x p q z)) in
      puts_state k n e w u x (in_pair p true) q mine_goes (in_turn (bare_note x (in_pair p false) (mine ∷ []) z refl) (beside (in_turn (unnotes n x) (notes n y)) loose)) g
  pair_ends w x p right q z (Some o) m g =
      let loose = goes mine (light v (right.unit x p q z)) in
      let found = pair_finds p w.rest.tasks o right.rise m in
      let y = found.0 in
      let differ : (u ≡ o) → ⊥ = λ same.
      let both : x ≡ y = same_task (sym q ∙ subst (λ i. task_in w.rest.tasks i ≡ Some y) (sym same) found.1) in
      not_over p p y.state (subst (λ (i : Task). i.state ≡ in_pair p false) both z) found.2 in
      let first : WorkOk K n e others (with_tasks (without_task w.rest.tasks u) w) = unnotes_task k n e w u x q mine_goes (in_turn (bare_note x (in_pair p false) (mine ∷ []) z refl) (beside (unnotes n x) loose)) g in
      unnotes_task k n e (with_tasks (without_task w.rest.tasks u) w) o y (other_stays w.rest.tasks u o y differ found.1) (trade_none others) (gone_note y y.state refl (bare_over p y.thread y.state found.2)) first

  ends_task : (w : Work) → PairsAreRight w.rest.tasks u v → WorkOk K n e (mine ∷ others) w → Gives (EndedOk w) (ended w.rest.tasks u v)
  ends_task w right g = task (task_in w.rest.tasks u) refl
    where
      state : (x : Task) → task_in w.rest.tasks u ≡ Some x → (z : TaskState) → x.state ≡ z → Gives (EndedOk w) (ended_from w.rest.tasks u v (Some z))
      state x q going z =
          let y : Task = record { thread = u; state = kept v } in
          puts_state k n e w u x (kept v) q mine_goes (in_turn (bare_note x going (mine ∷ []) z refl) (beside (in_turn (unnotes n x) (notes n y)) (hands_on in_hand (as_result u) v))) g
      state x q let_go z = unnotes_task k n e w u x q (trade_none (mine ∷ others)) (gone_note x let_go z refl) g
      state x q (kept r) z = tt
      state x q (asked s by) z = unnotes_task k n e w u x q (trade_none (mine ∷ others)) (gone_note x (asked s by) z refl) g
      state x q (in_pair p true) z = tt
      state x q (in_pair p false) z = pair_ends w x p right q z (over_in w.rest.tasks p) refl g

      task : (o : Option Task) → task_in w.rest.tasks u ≡ o → Gives (EndedOk w) (ended_from w.rest.tasks u v (state_in o))
      task None q = tt
      task (Some x) q = state x q x.state refl

  answer_ends : (a : EndedAs) (x : Site) → SiteOk K n e (after_ended a ++ others) x → Gives (SiteOk K n e others) (end_answer u a x)
  answer_ends (ended_as.Answer s by r) x g =
      beside_keeps k n e (holds in_hand r ∷ others) others (λ w. Some (answer u s by r w)) x (λ w b h. answers k n e (b ++ others) u s by r w (work_front k n e b others (holds in_hand r) w h)) g
  answer_ends (ended_as.Both parent) x g =
      at_thread_keeps k n e others others parent (pair_over u) x (λ h b c. map_gives _ (got_par u h.thread.phase) _ (λ p z. phase_changes k n e parent (b ++ others) p h c)) g
  answer_ends (ended_as.LetGo r) x g =
      beside_keeps k n e (holds in_hand r ∷ others) others (λ w. Some (give_up r w)) x (λ w b h. gives_up k n e (b ++ others) r w (work_front k n e b others (holds in_hand r) w h)) g
  answer_ends ended_as.Kept x g = g

-- a site with its threads beside its work
module _ {K : List Thing → Type 0} (k : Kept K) (n e : ℕ) (others : List Thing) where
  as_work : (x : Site) → SiteOk K n e others x → WorkOk K n e (all_standing n x.threads ++ others) x.work
  as_work x g =
      let b = all_standing n x.threads in
      let r = rest_things n e x.work.rest in record {
        number = g.number;
        bag = k.same _ _ (λ f. omega (arith, tot-append f b (r ++ others), tot-append f r others, tot-append f r (b ++ others), tot-append f b others)) g.bag;
      }

  as_site : (x : Site) → WorkOk K n e (all_standing n x.threads ++ others) x.work → SiteOk K n e others x
  as_site x g =
      let b = all_standing n x.threads in
      let r = rest_things n e x.work.rest in record {
        number = g.number;
        bag = k.same _ _ (λ f. omega (arith, tot-append f b (r ++ others), tot-append f r others, tot-append f r (b ++ others), tot-append f b others)) g.bag;
      }

module _ {K : List Thing → Type 0} (k : Kept K) (n e : ℕ) (others : List Thing) where
  pub finishes : (u : ℕ) (v : Owned) (x : Site) → PairsAreRight x.work.rest.tasks u v → SiteOk K n e (sent n (message.Finished u v) ∷ holds (as_result u) v ∷ others) x → Gives (SiteOk K n e others) (deliver_finished u v x)
  finishes u v x right g =
      let b = all_standing n x.threads in
      let mine = holds in_hand v in
      let got : SiteOk K n e (mine ∷ others) x =
      site_trades k n e (holds (as_result u) v ∷ others) (mine ∷ others) x (record { rest = others; before = λ f. omega arith; after = λ f. omega arith }) (hands_on (as_result u) in_hand v)
      (site_receives k n e others (holds (as_result u) v ∷ others) (message.Finished u v) x refl g) in
      let work : WorkOk K n e (mine ∷ (b ++ others)) x.work = work_front k n e b others mine x.work (as_work k n e (mine ∷ others) x got) in
      bind_gives (EndedOk k n e (b ++ others) u v x.work) (SiteOk K n e others) (ended x.work.rest.tasks u v) _ (ends_task k n e (b ++ others) u v x.work right work)
      (λ a h.
      let y : Site = record x { work = with_tasks a.0 x.work } in
      let c = after_ended a.1 in
      let r = rest_things n e y.work.rest in
      answer_ends k n e others u v a.1 y (record {
        number = h.number;
        bag = k.same _ _ (λ f. omega (arith, tot-append f r (c ++ (b ++ others)), tot-append f c (b ++ others), tot-append f b others, tot-append f b (r ++ (c ++ others)), tot-append f r (c ++ others), tot-append f c others)) h.bag;
      }))
